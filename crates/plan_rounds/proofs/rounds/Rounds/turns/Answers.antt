use Rattle.std.proofs.Common.{arith, subst}
use Rattle.net_core.proofs.Library.{∥∥₁_elim, ∥∥₁_map, props}
use Rattle.plan_terms.specs.Terms.{case_of}
use Rattle.plan_rounds.{specs.inner.Alone.PoolsTurn, specs.inner.Turns.IsTurnAfter, specs.declared.rounds.Turn.TheVariants.{Further, Last}, proofs.OwnPool.alone_before, proofs.OwnTurns.pool_begins, proofs.Seeing.{goes_both, goes_none, planning_on}, proofs.Passing.{turn_ends, turn_further, turn_room}, proofs.Turning.working_begins}
use Rattle.plan_rounds.proofs.rounds.Rounds.turns.Goals as goal

pub loop-best-init : goal.loop-best-init
loop-best-init g c =
    let rounds = c.args.self.now in
    let p = case_of rounds.instance.now in
    let lines = c.args.progress.now.candidates.lines in
    let fits = c.requires.fits in (
      goes_none _ _,
      c.requires.planning,
      fits,
      λ pool same known begins. ∣ working_begins p rounds.pairs.now pool lines c.requires.pairs begins (omega (arith, same, fits)) ∣₁,
      λ alone most begins same. ∣ pool_begins p rounds.pairs.now (g.S.Separate.seen_of c.args.separator.now).history lines c.requires.pairs begins (omega (arith, most, fits)) same ∣₁,
    )

pub returns-in_err-best-clause-on : goal.returns-in_err-best-clause-on
returns-in_err-best-clause-on g c = goes_both _ _ _ _ _ _ c.loop-best.invariant.0 c.in_err-best.ensures.on

pub loop-best-preserved : goal.loop-best-preserved
loop-best-preserved g c =
    let rounds = c.args.self.now in
    let p = case_of rounds.instance.now in
    let pairs = rounds.pairs.now in
    let so_far = c.loop-best.invariant in
    let old = c.loop-best.progress.candidates.lines in
    let new = c.turn.new.progress.candidates.lines in
    let before = c.loop-best.before in
    let best = c.in-Further.best in
    let further = subst (λ t. ∥ IsTurnAfter p pairs rounds.most before old new t ∥₁) c.in-Further.is c.in_ok-best.ensures.turn in (
      goes_both _ _ _ _ _ _ so_far.0 c.in_ok-best.ensures.on,
      planning_on _ _ _ _ _ _ _ so_far.1 c.in_ok-best.ensures.on c.in_ok-best.ensures.listed,
      ∥∥₁_elim further (hlevel props) (λ f. (turn_room p pairs rounds.most before old new best so_far.2 f).0),
      λ pool same known begins. ∥∥₁_elim further (hlevel props) (λ f. ∥∥₁_map (so_far.3 pool same known begins) (λ w. turn_further p pairs pool old new before rounds.most best known same so_far.2 w f)),
      λ alone most begins same.
          let here = g.S.Separate.seen_of c.loop-best.separator in
          let now = g.S.Separate.seen_of c.turn.new.separator in
          let pools : PoolsTurn p pairs rounds.most here now old new (Further best) = subst (PoolsTurn p pairs rounds.most here now old new) c.in-Further.is c.in_ok-best.ensures.alone in
          ∥∥₁_elim (g.met.S.Separate.seen c.loop-best.separator) (hlevel props) (λ seen.
          pools alone most (so_far.4 (alone_before here now seen.own_among c.in_ok-best.ensures.on.more alone) most begins same)),
    )

pub loop-best-smaller : goal.loop-best-smaller
loop-best-smaller g c =
    let rounds = c.args.self.now in
    let p = case_of rounds.instance.now in
    let old = c.loop-best.progress.candidates.lines in
    let new = c.turn.new.progress.candidates.lines in
    let before = c.loop-best.before in
    let further = subst (λ t. ∥ IsTurnAfter p rounds.pairs.now rounds.most before old new t ∥₁) c.in-Further.is c.in_ok-best.ensures.turn in
    ∥∥₁_elim further (hlevel props) (λ f. (turn_room p rounds.pairs.now rounds.most before old new c.in-Further.best c.loop-best.invariant.2 f).1)

pub returns-in-Last-clause-on : goal.returns-in-Last-clause-on
returns-in-Last-clause-on g c = goes_both _ _ _ _ _ _ c.loop-best.invariant.0 c.in_ok-best.ensures.on

pub returns-in-Last-clause-worked : goal.returns-in-Last-clause-worked
returns-in-Last-clause-worked g c pool same known begins =
    let rounds = c.args.self.now in
    let p = case_of rounds.instance.now in
    let so_far = c.loop-best.invariant in
    let old = c.loop-best.progress.candidates.lines in
    let new = c.turn.new.progress.candidates in
    let before = c.loop-best.before in
    let last = subst (λ t. ∥ IsTurnAfter p rounds.pairs.now rounds.most before old new.lines t ∥₁) c.in-Last.is c.in_ok-best.ensures.turn in
    ∥∥₁_elim last (hlevel props) (λ turn. ∥∥₁_elim c.in_ok-best.ensures.listed (hlevel props) (λ are.
    ∥∥₁_map (so_far.3 pool same known begins) (λ w.
    turn_ends p rounds.pairs.now (g.S.Separate.seen_of c.turn.new.separator).history pool old new before c.in-Last.best rounds.most c.in-Last.quality known are same so_far.2 w turn)))

pub returns-in-Last-clause-alone : goal.returns-in-Last-clause-alone
returns-in-Last-clause-alone g c alone most begins same =
    let rounds = c.args.self.now in
    let p = case_of rounds.instance.now in
    let pairs = rounds.pairs.now in
    let old = c.loop-best.progress.candidates.lines in
    let new = c.turn.new.progress.candidates.lines in
    let here = g.S.Separate.seen_of c.loop-best.separator in
    let now = g.S.Separate.seen_of c.turn.new.separator in
    let pools : PoolsTurn p pairs rounds.most here now old new (Last c.in-Last.best c.in-Last.quality) = subst (PoolsTurn p pairs rounds.most here now old new) c.in-Last.is c.in_ok-best.ensures.alone in
    ∥∥₁_elim (g.met.S.Separate.seen c.loop-best.separator) (hlevel props) (λ seen.
    pools alone most (c.loop-best.invariant.4 (alone_before here now seen.own_among c.in_ok-best.ensures.on.more alone) most begins same))
