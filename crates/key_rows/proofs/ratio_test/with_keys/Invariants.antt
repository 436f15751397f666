use Rattle.std.proofs.Common.{length}
use Rattle.net_core.proofs.Library.{ForSome}
use Rattle.key_rows.{specs.Bases.IsRoom, specs.FirstRoles.IsFirstOfRoles, specs.inner.Candidates.IsPlacedCandidate, specs.inner.Tried.{role_in, IsTried}}
use Rattle.key_rows.proofs.ratio_test.with_keys.Given as goal

-- the first of the rows and of the keys that the rows so far touch
abbrev pub invariant-loop-i : goal.invariant-loop-i
invariant-loop-i l = record {
  room : IsRoom (length l.entrant.keyed.now.rows) l.room;
  placed : ForSome l.best (IsPlacedCandidate l.entrant.keyed.now l.entrant.name.now);
  first : IsFirstOfRoles l.entrant.keyed.now l.entrant.name.now (IsTried l.entrant.keyed.now l.entrant.name.now l.i) (role_in l.best);
}
