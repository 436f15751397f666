use Rattle.std.proofs.Common.{ℕ, [], ◌∷◌, ◌++◌, ◌∙◌, ap, arith, map, sym, zip}
use Rattle.net_core.proofs.Library.{map-range_with_len_more, range_with_len}
use Rattle.line_check.{specs.Inequalities.module_number, specs.Lines.{capped, weight_of}, proofs.KindsSoFar.module_number_is}
use Rattle.line_check.proofs.tables.all_coefs.Goals as goal

pub loop-e-preserved : goal.loop-e-preserved
loop-e-preserved c =
    let links = c.args.links.now in
    let row = λ (e n : ℕ). map (λ (m : ℕ). weight_of (zip c.args.kinds.now c.args.weights.now) (capped c.args.over.now e m)) (range_with_len 0 n) in
    let f = λ (e : ℕ). row e (module_number links e) in
    let e = c.loop-e.e in
    let made = c.in_ok-link_coefs.field-0 in
    c.in_ok-push.ensures.ok
    ∙ (ap (λ xs. xs ++ made ∷ []) c.loop-e.invariant
    ∙ (ap (λ r. map f (range_with_len 0 e) ++ r ∷ []) (c.in_ok-link_coefs.ensures ∙ ap (row e) (c.len-modules.ensures ∙ module_number_is links e c.index-links-e.result c.loop-e-test.true))
    ∙ sym (map-range_with_len_more f 0 e e (omega arith))))
