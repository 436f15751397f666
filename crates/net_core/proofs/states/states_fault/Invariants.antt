use Rattle.std.proofs.Common.{◌≡◌, [], take, drop}
use Rattle.net_core.{specs.Tests.first_fault, specs.States.all_listed_tests}
use Rattle.net_core.proofs.states.states_fault.Given as goal

-- the states so far have passed their tests
abbrev pub invariant-loop-i : goal.invariant-loop-i
invariant-loop-i l = first_fault (all_listed_tests l.links (take l.i l.listed) (drop l.i l.listed)) ≡ first_fault (all_listed_tests l.links [] l.listed)
