use Rattle.std.proofs.Common.{◌≡◌, ◌∙◌, List, Some, ap, get_or, subst, sym}
use Rattle.plan_terms.specs.Terms.{Demand}
use Rattle.cut_pool.{specs.declared.shares.DemandShare.DemandShare, specs.inner.Shares.IsShareIn, proofs.Leaving.{share_found, share_from, share_none}}
use Rattle.cut_pool.proofs.shares.share_of.Goals as goal

pub returns-in_err-k-clause-share : goal.returns-in_err-k-clause-share
returns-in_err-k-clause-share c =
    let none = c.in_err-k.was in
    subst (IsShareIn c.args.name.now c.args.book.now.demands) (sym c.from_residual.ensures) (share_none c.args.book.now.demands c.args.name.now (sym c.find.ensures ∙ none))

pub returns-clause-share : goal.returns-clause-share
returns-clause-share c =
    let demands = c.args.book.now.demands in
    let found = c.in_ok-k.was in
    let item = c.index-items-k.result in
    let is : item ≡ get_or demands c.in_ok-k.k item = c.index-items-k.is ∙ ap (λ (ds : List Demand). get_or ds c.in_ok-k.k item) (c.items.ensures ∙ c.demands.ensures) in
    let share : share_from (get_or demands c.in_ok-k.k item) ≡ c.share.result = ap share_from (sym is) ∙ sym c.share.ensures in
    subst (λ (s : DemandShare). IsShareIn c.args.name.now demands (Some s)) share
    (share_found _ demands c.args.name.now c.in_ok-k.k item c.args.book.now.belong (sym c.find.ensures ∙ found))
