use Rattle.std.proofs.Common.{◌≡◌, []}
use Rattle.turn_lock.specs.inner.Plays.{Draws}
use Rattle.turn_lock.proofs.desk.Desk.enter.Given as goal

abbrev pub invariant-loop : goal.invariant-loop
invariant-loop g l = record {
  can : (goal.iterator-loop g).can_next l.iterator';
  ends : (goal.iterator-loop g).is_finite l.iterator';
  own : l.seat.table_id ≡ l.self.table.shared.table_id;
  drawn : Draws l.fn.pass.seat.me l.ticket l.seat.me;
  hand : l.seat.me.1 ≡ [];
}
