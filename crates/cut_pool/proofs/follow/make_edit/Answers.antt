use Rattle.std.proofs.Common.{◌≡◌, ◌∙◌, All, List, ap, length, map, sym, subst}
use Rattle.plan_terms.specs.Terms.{Answered, without}
use Rattle.cut_pool.{specs.declared.pooled_cut.PooledCut.PooledCut, specs.declared.shares.NeedChange.NeedChange, specs.inner.Pooling.StandsAt, specs.inner.Shares.{IsShareIn, edit_name}, proofs.Following.{all_after, cuts_same}, proofs.Leaving.others_left}
use Rattle.cut_pool.proofs.follow.make_edit.Goals as goal

abbrev change_of : (c : goal.After-follow_all) → NeedChange
change_of c = record { before = c.share_of-before.result; after = c.share_of-after.result }

pub returns-clause-cuts : goal.returns-clause-cuts
returns-clause-cuts c = ap (map (λ (p : PooledCut). p.cut)) c.follow_all.ensures ∙ cuts_same (change_of c) c.args.pool.now

pub returns-clause-pool : goal.returns-clause-pool
returns-clause-pool c =
    let old = c.args.book.now in
    let new = c.apply.new.self in
    let name = edit_name c.args.edit.now in
    let told = c.in_ok-reply.ensures in
    let before : IsShareIn name old.demands c.share_of-before.result = subst (λ n. IsShareIn n old.demands c.share_of-before.result) c.name_of-name.ensures c.share_of-before.ensures.share in
    let after : IsShareIn name new.demands c.share_of-after.result = subst (λ n. IsShareIn n new.demands c.share_of-after.result) c.name_of-name.ensures c.share_of-after.ensures.share in
    let others : without name new.demands ≡ without name old.demands =
    ap (λ (a : Answered). without name a.1) told.answer ∙ others_left old.nodes old.demands old.version c.args.edit.now in
    subst (All (StandsAt (length new.nodes) new.demands)) (sym c.follow_all.ensures)
    (all_after (length new.nodes) old.demands new.demands name (change_of c) c.args.pool.now
    (subst (λ (ns : List (List _)). All (StandsAt (length ns) old.demands) c.args.pool.now) (sym told.nodes) c.requires.pool)
    before after others new.belong.total)
