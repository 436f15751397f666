use Rattle.std.proofs.Common.{◌≡◌}
use Rattle.turn_lock.specs.Passes.{IsPassOf, own_units}
use Rattle.turn_lock.proofs.example.note_often.Given as goal

abbrev pub invariant-loop : goal.invariant-loop
invariant-loop g l = IsPassOf l.desk l.pass × (own_units l.pass ≡ own_units l.fn.pass)
