-- the laws, from the lemmas
use Rattle.std.proofs.Common.{◌+◌}
use Rattle.simplex_law.specs.Terms.{IsPick}
use Rattle.key_law.{specs.Keys.key_part, specs.KeyRows.role_nums, specs.KeyedBases.{IsColumnBy, KeyedTurn, whole_rows, whole_prices}, specs.Laws.{FullRows, KeptOptimum, TurnsReach, TurnsFall}}
use Rattle.key_law.proofs.Blocks
use Rattle.key_law.proofs.Ends
use Rattle.key_law.proofs.Roles
use Rattle.key_law.proofs.Spread
use Rattle.key_law.proofs.Steps

module _ {N : Type 0} where
  pub full_rows : FullRows N
  full_rows links demands basis place role target nums den roles keys row = Blocks.full_of links demands basis place role target nums _ den roles keys row
      (Spread.is_spread links demands (key_part links demands basis place) (λ d. target (place (links + d))) nums den)

  pub kept_optimum : KeptOptimum N
  kept_optimum k test weight all columns best weights positive = Ends.kept_optimum k.is_kept weight all weights positive (IsColumnBy test) columns best

  -- the pick of a turn, over the rows of the whole basis
  pub turn_pick : (t : KeyedTurn N) → IsPick (whole_rows t.before) t.before.bound
      (λ j. role_nums t.before.links t.before.demands t.before.basis t.before.place t.before.kept t.before.den t.of_keys t.of_den (t.before.role j)) (whole_prices t.before) t.before.prices_den t.enters (t.before.place t.leaves)
  turn_pick t = Roles.role_pick t.before.is_kept t.key_rows t.enters t.leaves t.pick

  pub turns_reach : TurnsReach N
  turns_reach t test first is_c reached = Steps.key_reached t.before.is_kept t.key_rows t.enters t.leaves (turn_pick t) (IsColumnBy test) first is_c reached

  pub turns_fall : TurnsFall N
  turns_fall t place role next next_den later later_den after bounds narrow narrow_later = Steps.key_falls t.before.is_kept t.key_rows t.enters t.leaves (turn_pick t) bounds narrow narrow_later after
