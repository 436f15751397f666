use Rattle.std.{proofs.Common.{◌≡◌, map, zip}, specs.List.range_with_len}
use Rattle.line_check.{specs.Inequalities.module_number, specs.Lines.{capped, weight_of}}
use Rattle.line_check.proofs.tables.all_coefs.Given as goal

-- the weights of the links so far
abbrev pub invariant-loop-e : goal.invariant-loop-e
invariant-loop-e l =
    l.coefs ≡ map (λ e. map (λ m. weight_of (zip l.kinds l.weights) (capped l.over e m)) (range_with_len 0 (module_number l.links e))) (range_with_len 0 l.e)
