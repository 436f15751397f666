use Rattle.std.proofs.Common.{[], length, get_or, subst}
use Rattle.net_core.proofs.Library.{slice_get-get_or}
use Rattle.plan_terms.specs.Terms.{CutLine}
use Rattle.master_bound.{specs.inner.Bests.IsBestBelow, proofs.Greatest.best_of_all}
use Rattle.master_bound.proofs.best.best_own.Goals as goal

pub returns-clause-best : goal.returns-clause-best
returns-clause-best c =
    let cuts = c.args.cuts.now in
    let best = c.best_of.result in
    let is = subst (λ all. IsBestBelow c.args.net.now.links all (length all) best) c.items.ensures c.best_of.ensures in
    let none : CutLine = record { state = record { 0 = 0 }; lengths = []; right = 0 } in
    best_of_all c.args.net.now.links cuts (get_or cuts best.cut none) best (slice_get-get_or cuts best.cut none is.below) is
