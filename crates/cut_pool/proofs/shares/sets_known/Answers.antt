use Rattle.std.proofs.Common.{◌∙◌, ap, sym, is_some}
use Rattle.demand_book.proofs.Changed.{place_known}
use Rattle.cut_pool.specs.Rooms.{sets_known}
use Rattle.cut_pool.proofs.shares.sets_known.Goals as goal

pub returns-in-Set : goal.returns-in-Set
returns-in-Set c =
    let demands = c.args.book.now.demands in
    c.is_some.ensures ∙ (ap is_some c.find.ensures ∙ (place_known _ demands ∙ ap (sets_known demands) (sym c.in-Set.is)))
