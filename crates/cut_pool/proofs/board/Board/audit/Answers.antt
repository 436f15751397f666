use Rattle.std.proofs.Common.{◌≡◌, ◌∙◌, All, ap, length, map, sym}
use Rattle.net_core.proofs.Library.{length-map, IfOk-weaker}
use Rattle.plan_terms.specs.Terms.{case}
use Rattle.cut_pool.{specs.declared.pooled_cut.PooledCut.PooledCut, specs.Boards.{IsAudit, opening_case}, specs.inner.Pooling.StandsAmong, proofs.Boards.standing, proofs.Following.stands_among, proofs.Told.{count_told, rights_told}}
use Rattle.cut_pool.proofs.board.Board.audit.Goals as goal

pub rights_of-requires : goal.rights_of-requires
rights_of-requires g c =
    let self = c.args.self.now in
    let stand : All (StandsAmong self.book.demands) self.pool = λ k d lt. stands_among _ self.book.demands _ self.book.belong
    (standing (case self.net.now self.states.now self.opening.value) self.entries self.book self.pool (ap length (sym self.nodes)) self.cuts_are self.stands self.low k d lt) in
    rw (c.items.ensures, c.demands.ensures) (c.type_bounds.sync-R, stand)

pub returns-clause-kept : goal.returns-clause-kept
returns-clause-kept g c =
    IfOk-weaker c.rights_of.result _ _ (λ rights is. is ∙ ap (map (λ (p : PooledCut). p.right)) c.items.ensures) c.rights_of.ensures

pub returns-clause-now : goal.returns-clause-now
returns-clause-now g c =
    let self = c.args.self.now in
    let p = opening_case self in
    IfOk-weaker c.rights_of.result _ (IsAudit self)
    (λ rights is.
    let kept : rights ≡ map (λ (c : PooledCut). c.right) self.pool = is ∙ ap (map (λ (p : PooledCut). p.right)) c.items.ensures in
    record {
      count = ap length kept ∙ (length-map self.pool (λ (c : PooledCut). c.right) ∙ count_told p self.entries self.book.demands self.book.version self.pool self.stands);
      each = rights_told p self.entries self.book.demands self.book.version self.pool self.stands rights kept;
    })
    c.rights_of.ensures
