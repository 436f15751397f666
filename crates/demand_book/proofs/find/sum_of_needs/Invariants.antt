use Rattle.std.proofs.Common.{◌≡◌, take}
use Rattle.plan_terms.specs.Terms.{total_need}
use Rattle.demand_book.proofs.find.sum_of_needs.Given as goal

abbrev pub invariant-loop-d : goal.invariant-loop-d
invariant-loop-d l = l.total ≡ total_need (take l.d-index l.demands)
