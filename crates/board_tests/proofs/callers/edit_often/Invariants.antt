use Rattle.board_desk.specs.Turns.{IsSameCaller}
use Rattle.board_tests.proofs.callers.edit_often.Given as goal

abbrev pub invariant-loop-need : goal.invariant-loop-need
invariant-loop-need g l = IsSameCaller l.fn.caller l.caller
