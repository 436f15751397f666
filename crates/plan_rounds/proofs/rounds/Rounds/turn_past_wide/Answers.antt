use Rattle.std.proofs.Common.{◌-◌, Some, None, IfSome, inl, inr, is_some, length, subst, sym}
use Rattle.net_core.proofs.Library.{∥∥₁_elim, ∥∥₁_map, props, modules_sound}
use Rattle.plan_terms.specs.Terms.{case_of}
use Rattle.master_bound.specs.Answers.{IsBestOf}
use Rattle.plan_types.{specs.declared.quality.Cause.TheVariants.Wide, specs.declared.quality.Quality.TheVariants.Loose}
use Rattle.plan_rounds.{specs.inner.Alone.{IsPoolAfterTurn, IsPoolAsFar}, specs.inner.Listing.AreListed, specs.inner.Turns.IsTurnOf, specs.declared.candidates.Candidates.Candidates, specs.declared.rounds.Turn.TheVariants.Last, proofs.Listing.listed_later, proofs.OwnPool.alone_before, proofs.Passing.{open_turn, taken_back}, proofs.Results.{if_ok, on_if}, proofs.Seeing.{goes_both, planning_on}, proofs.Turning.{best_at, wide_turn}}
use Rattle.plan_rounds.proofs.rounds.Rounds.turn_past_wide.Goals as goal

pub returns-in-Err-clause-on : goal.returns-in-Err-clause-on
returns-in-Err-clause-on g c = c.pass_wide.ensures.on

pub returns-in-Ok-None-clause-on : goal.returns-in-Ok-None-clause-on
returns-in-Ok-None-clause-on g c = c.pass_wide.ensures.on

pub returns-in-Ok-None-clause-listed : goal.returns-in-Ok-None-clause-listed
returns-in-Ok-None-clause-listed g c =
    let rounds = c.args.self.now in
    let p = case_of rounds.instance.now in
    let before = g.S.Separate.seen_of c.args.separator.now in
    let frame = g.S.Separate.frame c.pass_wide.new.separator in
    let now = g.S.Separate.seen_of c.pass_wide.new.separator in
    let old = c.args.progress.now.candidates in
    on_if c.end_wide.result _ _
    (λ turn ends. ∥∥₁_elim c.requires.planning.listed (hlevel props) (λ are.
    ∥∥₁_elim c.in-Ok-None.ensures.past (hlevel props) (λ past.
    ∥∥₁_map (g.met.S.Separate.seen c.pass_wide.new.separator) (λ seen.
    subst (AreListed p now.history)
    (sym (taken_back p rounds.pairs.now c.len-count.result old c.pass_wide.new.progress.candidates c.end_wide.new.candidates c.len-count.ensures are.spots.count past.extends ends.1 ends.2))
    (listed_later p frame.network frame.states before now old c.pass_wide.ensures.on.more seen are)))))
    c.end_wide.ensures

pub returns-in-Ok-None-clause-turn : goal.returns-in-Ok-None-clause-turn
returns-in-Ok-None-clause-turn g c =
    let rounds = c.args.self.now in
    let p = case_of rounds.instance.now in
    let net = rounds.instance.now.net.now in
    let pairs = rounds.pairs.now in
    let old = c.args.progress.now.candidates in
    let new = c.end_wide.new.candidates in
    let room = rounds.most - length old.lines in
    if_ok c.end_wide.result _ _
    (λ turn ends. ∥∥₁_elim c.requires.planning.listed (hlevel props) (λ are.
    ∥∥₁_map c.in-Ok-None.ensures.past (λ past.
    let back = taken_back p pairs c.len-count.result old c.pass_wide.new.progress.candidates new c.len-count.ensures are.spots.count past.extends ends.1 ends.2 in
    inl (subst (IsTurnOf p pairs room c.args.before old.lines new.lines) (sym ends.0)
    (subst (λ (x : Candidates). IsTurnOf p pairs room c.args.before old.lines x.lines (Last c.args.before (Loose (Wide c.args.evidence)))) (sym back)
    (wide_turn p pairs (modules_sound net.nodes net.links net.checked) c.requires.pairs room c.args.before old.lines c.args.evidence c.requires.evidence))))))
    c.end_wide.ensures

pub returns-in-Ok-None-clause-alone : goal.returns-in-Ok-None-clause-alone
returns-in-Ok-None-clause-alone g c =
    let p = case_of c.args.self.now.instance.now in
    let pairs = c.args.self.now.pairs.now in
    let history = (g.S.Separate.seen_of c.pass_wide.new.separator).history in
    if_ok c.end_wide.result _ _
    (λ turn ends alone full known.
    subst (IsPoolAfterTurn p pairs history c.end_wide.new.candidates.lines) (sym ends.0)
    (subst (λ found. IsPoolAsFar p pairs history c.pass_wide.new.progress.candidates.lines (is_some found)) c.in-Ok-None.field-0-is (c.in-Ok-None.ensures.alone alone full known)))
    c.end_wide.ensures

pub ask-requires-clause-planning : goal.ask-requires-clause-planning
ask-requires-clause-planning g c = planning_on _ _ _ _ _ _ _ c.requires.planning c.pass_wide.ensures.on c.in-Ok-Some.ensures.listed

pub ask-requires-clause-fits : goal.ask-requires-clause-fits
ask-requires-clause-fits g c = ∥∥₁_elim c.in-Ok-Some.ensures.past (hlevel props) (λ past. past.passed.few)

pub ask-requires-clause-best : goal.ask-requires-clause-best
ask-requires-clause-best g c =
    let rounds = c.args.self.now in
    let net = rounds.instance.now.net.now in
    let lines = c.pass_wide.new.progress.candidates.lines in
    best_at (case_of rounds.instance.now) rounds.pairs.now (modules_sound net.nodes net.links net.checked) c.requires.pairs lines c.in-Ok-Some.best
    (subst (λ found. IfSome found (IsBestOf net.links lines)) c.in-Ok-Some.field-0-is c.in-Ok-Some.ensures.best)

pub returns-in-Ok-Some-clause-on : goal.returns-in-Ok-Some-clause-on
returns-in-Ok-Some-clause-on g c = goes_both _ _ _ _ _ _ c.pass_wide.ensures.on c.ask.ensures.on

pub returns-in-Ok-Some-clause-turn : goal.returns-in-Ok-Some-clause-turn
returns-in-Ok-Some-clause-turn g c =
    let rounds = c.args.self.now in
    let mid = c.pass_wide.new.progress.candidates.lines in
    if_ok c.ask.result _ _
    (λ turn told. ∥∥₁_elim c.in-Ok-Some.ensures.past (hlevel props) (λ past.
    ∥∥₁_elim (told None) (hlevel props) (λ one.
    ∥∥₁_map (told (Some c.in-Ok-Some.best)) (λ two. inr (record {
      mid = mid;
      passed = past.passed;
      after = open_turn (case_of rounds.instance.now) rounds.pairs.now (rounds.most - length mid) c.in-Ok-Some.best mid c.ask.new.progress.candidates.lines turn one two;
    })))))
    c.ask.ensures.turn

pub returns-in-Ok-Some-clause-alone : goal.returns-in-Ok-Some-clause-alone
returns-in-Ok-Some-clause-alone g c =
    let p = case_of c.args.self.now.instance.now in
    let pairs = c.args.self.now.pairs.now in
    let mid = c.pass_wide.new.progress.candidates.lines in
    let here = g.S.Separate.seen_of c.pass_wide.new.separator in
    let now = g.S.Separate.seen_of c.ask.new.separator in
    if_ok c.ask.result _ _
    (λ turn pools alone full known.
    let far = subst (λ found. ∥ IsPoolAsFar p pairs here.history mid (is_some found) ∥₁) c.in-Ok-Some.field-0-is
    (∥∥₁_map (g.met.S.Separate.seen c.pass_wide.new.separator) (λ seen.
    c.in-Ok-Some.ensures.alone (alone_before here now seen.own_among c.ask.ensures.on.more alone) full known)) in
    pools alone full (∥∥₁_elim far (hlevel props) (λ x. x)))
    c.ask.ensures.alone
