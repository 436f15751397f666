use Rattle.std.{proofs.Common.{inl, inr, refl}, proofs.lemmas.Result.IfOk-weaker}
use Rattle.planner.proofs.BestBounds.{best_of_cut}
use Rattle.planner.proofs.own_bound.best_bound.Goals as goal

pub returns-in-Some : goal.returns-in-Some
returns-in-Some c =
    IfOk-weaker c.bound_of_cut.result _ _
    (λ b of. inr (
      c.in-Some.k,
      best_of_cut c.args.net.now.links c.args.worked.now c.in-Some.k c.items.result.now c.items-in-Some.result.now c.items.ensures c.items-in-Some.ensures c.requires.cuts.same
          c.index-items-k.result _ b c.index-items-k.is c.in-Some.ensures.best of,
    ))
    c.bound_of_cut.ensures

pub returns-in-None : goal.returns-in-None
returns-in-None c = inl (c.in-None.ensures.none.0 refl, c.bound_of_none.ensures)
