use Rattle.std.proofs.Common.{All, take}
use Rattle.people_plans.specs.PlansForPeople.{IsDearLink}
use Rattle.people_plans.proofs.free.first_free.Given as goal

-- all modules of the links so far cost something
abbrev pub invariant-loop-link : goal.invariant-loop-link
invariant-loop-link l = All IsDearLink (take l.link-index l.links)
