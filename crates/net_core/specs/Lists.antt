-- what a list ends as, where its items are lent for writing
use Rattle.std.{specs.Prelude.{List, take, drop, length, ◌++◌}, specs.Borrow.{Lends, Fml, RattleType, MutBor, Array}}
use Rattle.net_core.specs.contracts.list.List.{the_row}

-- the list with these items written over its first ones: the items themselves where they are as many
abbrev pub with_items : {X : Type 0} → List X → List X → List X
with_items list items = take (length list) (items ++ drop (length items) list)

-- once the borrow r ends, the list holds the items that r shows last
abbrev pub LendsItems : (T : RattleType) → MutBor (List T.Denot) → MutBor (List T.Denot) → Fml
LendsItems T list r = Lends (the_row T) (Array T 0) list r (with_items list.now)
