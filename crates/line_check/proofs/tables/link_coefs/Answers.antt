use Rattle.std.proofs.Common.{ℕ, [], ◌∷◌, ◌++◌, ◌∙◌, ap, arith, map, sym, zip}
use Rattle.net_core.proofs.Library.{map-range_with_len_more, range_with_len}
use Rattle.line_check.specs.Lines.{capped, weight_of}
use Rattle.line_check.proofs.tables.link_coefs.Goals as goal

pub loop-m-preserved : goal.loop-m-preserved
loop-m-preserved c =
    let by_kinds = zip c.args.kinds.now c.args.weights.now in
    let f = λ (m : ℕ). weight_of by_kinds (capped c.args.over.now c.args.e m) in
    let m = c.loop-m.m in
    let weight = c.weight_of-weight.result in
    c.in_ok-push.ensures.ok
    ∙ (ap (λ xs. xs ++ weight ∷ []) c.loop-m.invariant
    ∙ (ap (λ n. map f (range_with_len 0 m) ++ n ∷ []) (c.weight_of-weight.ensures ∙ ap (λ n. weight_of by_kinds n) c.capped.ensures)
    ∙ sym (map-range_with_len_more f 0 m m (omega arith))))
