use Rattle.std.proofs.Common.{◌+◌, ◌-◌, ◌≤◌, None, arith, length, refl}
use Rattle.net_core.proofs.Library.{∥∥₁_elim, ∥∥₁_map, props}
use Rattle.plan_terms.specs.Terms.{case_of}
use Rattle.master_law.specs.Terms.{share_caps}
use Rattle.plan_rounds.{proofs.Listing.listed_later, proofs.OwnTurns.{after_told, judged_pool}, proofs.Results.{if_ok, on_if}, proofs.Seeing.goes_none, proofs.Sharing.{divided_count, divided_scale}, proofs.Turning.{judged_listed, judged_turn, proper, share_gives}}
use Rattle.plan_rounds.proofs.rounds.Rounds.ask.Goals as goal

pub share_caps-requires-clause-scale : goal.share_caps-requires-clause-scale
share_caps-requires-clause-scale g c =
    (proper (case_of c.args.self.now.instance.now) c.args.self.now.pairs.now c.args.progress.now.candidates.lines c.args.best.share c.requires.best.least).positive

pub share_caps-requires-clause-count : goal.share_caps-requires-clause-count
share_caps-requires-clause-count g c = c.requires.best.least.count

pub returns-in_err-caps-clause-on : goal.returns-in_err-caps-clause-on
returns-in_err-caps-clause-on g c = goes_none _ _

pub answers-requires-clause-scale : goal.answers-requires-clause-scale
answers-requires-clause-scale g c =
    let p = case_of c.args.self.now.instance.now in
    divided_scale (share_caps p.links c.args.self.now.pairs.now c.args.best.share) c.in_ok-caps.caps
    (proper p c.args.self.now.pairs.now c.args.progress.now.candidates.lines c.args.best.share c.requires.best.least).positive c.in_ok-caps.ensures

pub answers-requires-clause-caps : goal.answers-requires-clause-caps
answers-requires-clause-caps g c =
    let rounds = c.args.self.now in
    divided_count rounds.instance.now.net.now.links rounds.pairs.now c.args.best.share c.in_ok-caps.caps c.requires.pairs.count c.requires.best.least.count c.in_ok-caps.ensures

pub judge-requires-clause-divided : goal.judge-requires-clause-divided
judge-requires-clause-divided g c = let is = c.in_ok-caps.ensures in record { whole = refl; positive = is.positive; times = is.times }

pub judge-requires-clause-routed : goal.judge-requires-clause-routed
judge-requires-clause-routed g c none not_wide =
    ∥∥₁_map c.in_ok-answers.ensures.told.round (λ are. (c.in_ok-answered.ensures.sorted (case_of c.args.self.now.instance.now) c.in_ok-caps.caps.divided (g.S.Separate.seen_of c.answers.new.separator).history are).routed none not_wide)

pub judge-requires-clause-wide : goal.judge-requires-clause-wide
judge-requires-clause-wide g c =
    ∥∥₁_map c.in_ok-answers.ensures.told.round (λ are. (c.in_ok-answered.ensures.sorted (case_of c.args.self.now.instance.now) c.in_ok-caps.caps.divided (g.S.Separate.seen_of c.answers.new.separator).history are).wide)

pub returns-clause-listed : goal.returns-clause-listed
returns-clause-listed g c =
    let rounds = c.args.self.now in
    let p = case_of rounds.instance.now in
    let before = g.S.Separate.seen_of c.args.separator.now in
    let frame = g.S.Separate.frame c.answers.new.separator in
    let now = g.S.Separate.seen_of c.answers.new.separator in
    let old = c.args.progress.now.candidates in
    let net = rounds.instance.now.net.now in
    let few : length net.nodes ≤ 128 = ∥∥₁_elim net.checked (hlevel props) (λ k. k.few_nodes) in
    on_if c.judge.result _ _
    (λ turn told. ∥∥₁_elim told (hlevel props) (λ judges.
    ∥∥₁_elim c.in_ok-answers.ensures.told.round (hlevel props) (λ are_answers.
    ∥∥₁_elim c.requires.planning.listed (hlevel props) (λ are.
    ∥∥₁_map (g.met.S.Separate.seen c.answers.new.separator) (λ seen.
    judged_listed p rounds.pairs.now now.history (length p.listed + 1) (rounds.most - length old.lines) None c.args.best c.in_ok-caps.caps c.in_ok-answered.answered old c.requires.pairs c.requires.best c.in_ok-caps.ensures
    (c.in_ok-answered.ensures.sorted p c.in_ok-caps.caps.divided now.history are_answers) c.judge.new.candidates turn net.checked few rounds.instance.now.belong (listed_later p frame.network frame.states before now old c.answers.ensures.on.more seen are) judges)))))
    c.judge.ensures

pub returns-clause-turn : goal.returns-clause-turn
returns-clause-turn g c =
    let rounds = c.args.self.now in
    let p = case_of rounds.instance.now in
    let now = g.S.Separate.seen_of c.answers.new.separator in
    let old = c.args.progress.now.candidates in
    if_ok c.judge.result _ _
    (λ turn told before. ∥∥₁_elim told (hlevel props) (λ judges.
    ∥∥₁_map c.in_ok-answers.ensures.told.round (λ are_answers.
    judged_turn p rounds.pairs.now now.history (length p.listed + 1) (rounds.most - length old.lines) before c.args.best c.in_ok-caps.caps c.in_ok-answered.answered old
    c.requires.pairs c.requires.best c.in_ok-caps.ensures (c.in_ok-answered.ensures.sorted p c.in_ok-caps.caps.divided now.history are_answers) c.judge.new.candidates turn (omega arith) judges)))
    c.judge.ensures

pub returns-clause-alone : goal.returns-clause-alone
returns-clause-alone g c =
    let rounds = c.args.self.now in
    let p = case_of rounds.instance.now in
    let pairs = rounds.pairs.now in
    let before = g.S.Separate.seen_of c.args.separator.now in
    let frame = g.S.Separate.frame c.answers.new.separator in
    let now = g.S.Separate.seen_of c.answers.new.separator in
    let old = c.args.progress.now.candidates in
    if_ok c.judge.result _ _
    (λ turn told alone full known.
    after_told p pairs now.history c.judge.new.candidates.lines turn
    (∥∥₁_elim told (hlevel props) (λ judges.
    ∥∥₁_elim known (hlevel props) (λ pool.
    ∥∥₁_elim c.in_ok-answers.ensures.told.separating (hlevel props) (λ separates.
    ∥∥₁_elim c.in_ok-answers.ensures.told.round (hlevel props) (λ are_answers.
    ∥∥₁_elim c.requires.planning.listed (hlevel props) (λ listed.
    ∥∥₁_elim (g.met.S.Separate.seen c.args.separator.now) (hlevel props) (λ seen_before.
    ∥∥₁_map (g.met.S.Separate.seen c.answers.new.separator) (λ seen.
    judged_pool p pairs c.requires.pairs frame.network frame.states before now seen_before.own_among c.answers.ensures.on.more seen alone
    c.args.best.share c.in_ok-caps.caps.divided c.in_ok-answered.answered old c.requires.best.least (share_gives p pairs c.args.best.share c.in_ok-caps.caps c.in_ok-caps.ensures) c.in_ok-answers.answers c.in_ok-answers.ensures.told separates c.in_ok-answered.ensures.found (c.in_ok-answered.ensures.sorted p c.in_ok-caps.caps.divided now.history are_answers) listed pool
    c.in_ok-caps.caps.whole c.args.best (rounds.most - length old.lines) c.judge.new.candidates turn (omega (arith, c.requires.fits, full)) judges)))))))))
    c.judge.ensures
