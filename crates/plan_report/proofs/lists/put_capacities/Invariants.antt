use Rattle.std.proofs.Common.{◌∷◌, [], take, flat_map}
use Rattle.text_kit.specs.Terms.{Whole, Opening, AddsItems}
use Rattle.plan_report.proofs.lists.put_capacities.Given as goal

abbrev pub invariant-loop-n : goal.invariant-loop-n
invariant-loop-n l = AddsItems l.fn.text (Opening ∷ flat_map (λ n. Whole n ∷ []) (take l.n-index l.nums)) l.text
