use Rattle.std.proofs.Common.{◌-◌, arith, length, subst}
use Rattle.net_core.proofs.Library.{∥∥₁_elim, ∥∥₁_map, props}
use Rattle.plan_terms.specs.Terms.{case_of}
use Rattle.plan_rounds.{specs.inner.Alone.IsPoolAsFar, specs.inner.Turns.AddsRound, proofs.Bounding.have_bounds, proofs.OwnPool.alone_before, proofs.OwnTurns.{far_told, pool_worked}, proofs.Passing.{less_room, past_added, past_none}, proofs.Seeing.{goes_both, goes_none, planning_on}}
use Rattle.plan_rounds.proofs.rounds.Rounds.pass_wide.Goals as goal

pub loop-caps-init : goal.loop-caps-init
loop-caps-init g c =
    let rounds = c.args.self.now in (
      goes_none _ _,
      c.requires.planning,
      ∣ past_none (case_of rounds.instance.now) rounds.pairs.now rounds.most c.args.progress.now.candidates c.requires.fits ∣₁,
      λ alone most known. known,
    )

pub least_capacities-requires-clause-few : goal.least_capacities-requires-clause-few
least_capacities-requires-clause-few g c = ∥∥₁_elim c.loop-caps.invariant.2 (hlevel props) (λ past. omega (arith, past.passed.few, c.args.self.now.few))

pub least_capacities-requires-clause-lengths : goal.least_capacities-requires-clause-lengths
least_capacities-requires-clause-lengths g c =
    have_bounds (case_of c.args.self.now.instance.now) (g.S.Separate.seen_of c.loop-caps.separator).history c.loop-caps.progress.candidates c.loop-caps.invariant.1.listed

pub least_capacities-requires-clause-right : goal.least_capacities-requires-clause-right
least_capacities-requires-clause-right g c k d lt = ∥∥₁_elim c.loop-caps.invariant.1.listed (hlevel props) (λ are. are.low k d lt)

pub returns-in_default-clause-alone : goal.returns-in_default-clause-alone
returns-in_default-clause-alone g c alone most known =
    ∥∥₁_map (c.loop-caps.invariant.3 alone most known)
    (pool_worked (case_of c.args.self.now.instance.now) c.args.self.now.pairs.now (g.S.Separate.seen_of c.loop-caps.separator).history c.loop-caps.progress.candidates.lines)

pub add_round-requires-clause-fits : goal.add_round-requires-clause-fits
add_round-requires-clause-fits g c = ∥∥₁_elim c.loop-caps.invariant.2 (hlevel props) (λ past. past.passed.few)

pub returns-in_err-add_round-clause-on : goal.returns-in_err-add_round-clause-on
returns-in_err-add_round-clause-on g c = goes_both _ _ _ _ _ _ c.loop-caps.invariant.0 c.in_err-add_round.ensures.on

pub returns-then-not-branch-clause-on : goal.returns-then-not-branch-clause-on
returns-then-not-branch-clause-on g c = goes_both _ _ _ _ _ _ c.loop-caps.invariant.0 c.in_ok-add_round.ensures.on

pub returns-then-not-branch-clause-past : goal.returns-then-not-branch-clause-past
returns-then-not-branch-clause-past g c =
    let rounds = c.args.self.now in
    ∥∥₁_elim c.loop-caps.invariant.2 (hlevel props) (λ past. ∥∥₁_map c.in_ok-add_round.ensures.adds (λ adds.
    past_added (case_of rounds.instance.now) rounds.pairs.now rounds.most c.args.progress.now.candidates c.loop-caps.progress.candidates c.add_round.new.candidates c.in_ok-add_round.field-0 past adds))

pub returns-then-not-branch-clause-alone : goal.returns-then-not-branch-clause-alone
returns-then-not-branch-clause-alone g c alone most known =
    let p = case_of c.args.self.now.instance.now in
    let pairs = c.args.self.now.pairs.now in
    let here = g.S.Separate.seen_of c.loop-caps.separator in
    let now = g.S.Separate.seen_of c.add_round.new.separator in
    let lines = c.add_round.new.candidates.lines in
    subst (IsPoolAsFar p pairs now.history lines) c.if-not-branch.true
    (far_told p pairs now.history lines c.in_ok-add_round.field-0 (∥∥₁_map (g.met.S.Separate.seen c.loop-caps.separator) (λ seen.
    c.in_ok-add_round.ensures.alone alone most (c.loop-caps.invariant.3 (alone_before here now seen.own_among c.in_ok-add_round.ensures.on.more alone) most known))))

pub best_so_far-requires-clause-few : goal.best_so_far-requires-clause-few
best_so_far-requires-clause-few g c =
    let rounds = c.args.self.now in
    ∥∥₁_elim c.loop-caps.invariant.2 (hlevel props) (λ before. ∥∥₁_elim c.in_ok-add_round.ensures.adds (hlevel props) (λ adds.
    let past = past_added (case_of rounds.instance.now) rounds.pairs.now rounds.most c.args.progress.now.candidates c.loop-caps.progress.candidates c.add_round.new.candidates c.in_ok-add_round.field-0 before adds in
    omega (arith, past.passed.few, rounds.few)))

pub best_so_far-requires-clause-lengths : goal.best_so_far-requires-clause-lengths
best_so_far-requires-clause-lengths g c =
    have_bounds (case_of c.args.self.now.instance.now) (g.S.Separate.seen_of c.add_round.new.separator).history c.add_round.new.candidates c.in_ok-add_round.ensures.listed

pub best_so_far-requires-clause-right : goal.best_so_far-requires-clause-right
best_so_far-requires-clause-right g c k d lt = ∥∥₁_elim c.in_ok-add_round.ensures.listed (hlevel props) (λ are. are.low k d lt)

pub best_so_far-requires-clause-different : goal.best_so_far-requires-clause-different
best_so_far-requires-clause-different g c i j d ij lj same = ∥∥₁_elim c.in_ok-add_round.ensures.listed (hlevel props) (λ are. are.different i j d ij lj same)

pub returns-in-Ok-clause-on : goal.returns-in-Ok-clause-on
returns-in-Ok-clause-on g c = goes_both _ _ _ _ _ _ c.loop-caps.invariant.0 c.in_ok-add_round.ensures.on

pub returns-in-Ok-clause-past : goal.returns-in-Ok-clause-past
returns-in-Ok-clause-past g c =
    let rounds = c.args.self.now in
    ∥∥₁_elim c.loop-caps.invariant.2 (hlevel props) (λ past. ∥∥₁_map c.in_ok-add_round.ensures.adds (λ adds.
    past_added (case_of rounds.instance.now) rounds.pairs.now rounds.most c.args.progress.now.candidates c.loop-caps.progress.candidates c.add_round.new.candidates c.in_ok-add_round.field-0 past adds))

pub returns-in-Ok-clause-alone : goal.returns-in-Ok-clause-alone
returns-in-Ok-clause-alone g c alone most known =
    let p = case_of c.args.self.now.instance.now in
    let pairs = c.args.self.now.pairs.now in
    let here = g.S.Separate.seen_of c.loop-caps.separator in
    let now = g.S.Separate.seen_of c.add_round.new.separator in
    let lines = c.add_round.new.candidates.lines in
    subst (IsPoolAsFar p pairs now.history lines) c.if-not-branch.false
    (far_told p pairs now.history lines c.in_ok-add_round.field-0 (∥∥₁_map (g.met.S.Separate.seen c.loop-caps.separator) (λ seen.
    c.in_ok-add_round.ensures.alone alone most (c.loop-caps.invariant.3 (alone_before here now seen.own_among c.in_ok-add_round.ensures.on.more alone) most known))))

pub returns-in-Err-NoMemory-clause-on : goal.returns-in-Err-NoMemory-clause-on
returns-in-Err-NoMemory-clause-on g c = goes_both _ _ _ _ _ _ c.loop-caps.invariant.0 c.in_ok-add_round.ensures.on

pub loop-caps-preserved : goal.loop-caps-preserved
loop-caps-preserved g c =
    let rounds = c.args.self.now in
    let p = case_of rounds.instance.now in
    let pairs = rounds.pairs.now in
    let new = c.add_round.new.candidates in
    let here = g.S.Separate.seen_of c.loop-caps.separator in
    let now = g.S.Separate.seen_of c.add_round.new.separator in
    let so_far = c.loop-caps.invariant in
    let round = c.in_ok-add_round.ensures in
    let past = ∥∥₁_elim so_far.2 (hlevel props) (λ before. ∥∥₁_map round.adds (λ adds.
    past_added p pairs rounds.most c.args.progress.now.candidates c.loop-caps.progress.candidates new c.in_ok-add_round.field-0 before adds)) in (
      goes_both _ _ _ _ _ _ so_far.0 round.on,
      planning_on _ _ _ _ _ _ _ so_far.1 round.on round.listed,
      past,
      λ alone most known. subst (IsPoolAsFar p pairs now.history new.lines) c.if-not-branch.false
          (far_told p pairs now.history new.lines c.in_ok-add_round.field-0 (∥∥₁_map (g.met.S.Separate.seen c.loop-caps.separator) (λ seen.
          round.alone alone most (so_far.3 (alone_before here now seen.own_among round.on.more alone) most known)))),
    )

pub loop-caps-smaller : goal.loop-caps-smaller
loop-caps-smaller g c =
    let rounds = c.args.self.now in
    let p = case_of rounds.instance.now in
    let mid = c.loop-caps.progress.candidates in
    let new = c.add_round.new.candidates in
    ∥∥₁_elim (subst (λ b. ∥ AddsRound p rounds.pairs.now (rounds.most - length mid.lines) mid new b ∥₁) c.if-not-branch.false c.in_ok-add_round.ensures.adds) (hlevel props) (λ adds.
    ∥∥₁_elim c.loop-caps.invariant.2 (hlevel props) (λ past. less_room p rounds.pairs.now rounds.most mid new past.passed.few adds))
