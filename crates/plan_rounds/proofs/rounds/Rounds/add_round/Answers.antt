use Rattle.std.proofs.Common.{◌+◌, ◌-◌, ◌≤◌, ◌∙◌, arith, length, subst}
use Rattle.net_core.proofs.Library.{∥∥₁_elim, ∥∥₁_map, props, modules_sound}
use Rattle.plan_terms.specs.Terms.{case_of}
use Rattle.plan_rounds.{specs.inner.Turns.AddsFound, proofs.Listing.listed_later, proofs.OwnTurns.{far_told, pool_as_far}, proofs.Passing.{added_listed, added_round, divided_least, least_count, least_of, least_scale}, proofs.Results.{if_ok, on_if}, proofs.Seeing.goes_none, proofs.Sharing.{divided_length, divided_scale}}
use Rattle.plan_rounds.proofs.rounds.Rounds.add_round.Goals as goal

pub returns-in_err-caps-clause-on : goal.returns-in_err-caps-clause-on
returns-in_err-caps-clause-on g c = goes_none _ _

pub answers-requires-clause-scale : goal.answers-requires-clause-scale
answers-requires-clause-scale g c =
    divided_scale c.args.caps c.in_ok-caps.caps (least_scale (case_of c.args.self.now.instance.now) c.args.self.now.pairs.now c.args.candidates.now.lines c.args.caps c.requires.caps) c.in_ok-caps.ensures

pub answers-requires-clause-caps : goal.answers-requires-clause-caps
answers-requires-clause-caps g c =
    divided_length c.args.caps c.in_ok-caps.caps c.in_ok-caps.ensures
    ∙ least_count (case_of c.args.self.now.instance.now) c.args.self.now.pairs.now c.args.candidates.now.lines c.args.caps c.requires.caps

pub returns-clause-listed : goal.returns-clause-listed
returns-clause-listed g c =
    let rounds = c.args.self.now in
    let p = case_of rounds.instance.now in
    let pairs = rounds.pairs.now in
    let before = g.S.Separate.seen_of c.args.separator.now in
    let frame = g.S.Separate.frame c.answers.new.separator in
    let now = g.S.Separate.seen_of c.answers.new.separator in
    let old = c.args.candidates.now in
    let net = rounds.instance.now.net.now in
    let few : length net.nodes ≤ 128 = ∥∥₁_elim net.checked (hlevel props) (λ k. k.few_nodes) in
    let least = least_of p pairs old.lines c.args.caps (modules_sound net.nodes net.links net.checked) c.requires.pairs c.requires.caps in
    on_if c.add_found.result _ _
    (λ added adds. ∥∥₁_elim c.in_ok-answers.ensures.told.round (hlevel props) (λ are_answers.
    ∥∥₁_elim c.requires.planning.listed (hlevel props) (λ are.
    ∥∥₁_map (g.met.S.Separate.seen c.answers.new.separator) (λ seen.
    added_listed p pairs now.history (length p.listed + 1) (rounds.most - length old.lines) least.0 c.in_ok-caps.caps.divided c.in_ok-answered.answered old c.add_found.new.candidates c.requires.pairs least.1
    (divided_least p pairs c.args.caps c.in_ok-caps.caps least.0 c.in_ok-caps.ensures least.2) (c.in_ok-answered.ensures.sorted p c.in_ok-caps.caps.divided now.history are_answers) added net.checked few rounds.instance.now.belong
    (listed_later p frame.network frame.states before now old c.answers.ensures.on.more seen are) (subst (λ n. AddsFound (rounds.most - n) c.in_ok-answered.answered old c.add_found.new.candidates added) c.len.ensures adds)))))
    c.add_found.ensures

pub returns-clause-adds : goal.returns-clause-adds
returns-clause-adds g c =
    let rounds = c.args.self.now in
    let p = case_of rounds.instance.now in
    let pairs = rounds.pairs.now in
    let now = g.S.Separate.seen_of c.answers.new.separator in
    let old = c.args.candidates.now in
    let net = rounds.instance.now.net.now in
    let least = least_of p pairs old.lines c.args.caps (modules_sound net.nodes net.links net.checked) c.requires.pairs c.requires.caps in
    if_ok c.add_found.result _ _
    (λ added adds. ∥∥₁_map c.in_ok-answers.ensures.told.round (λ are_answers.
    added_round p pairs now.history (length p.listed + 1) (rounds.most - length old.lines) least.0 c.in_ok-caps.caps.divided c.in_ok-answered.answered old c.add_found.new.candidates
    c.requires.pairs least.1 (divided_least p pairs c.args.caps c.in_ok-caps.caps least.0 c.in_ok-caps.ensures least.2) (c.in_ok-answered.ensures.sorted p c.in_ok-caps.caps.divided now.history are_answers) added (subst (λ n. AddsFound (rounds.most - n) c.in_ok-answered.answered old c.add_found.new.candidates added) c.len.ensures adds)))
    c.add_found.ensures

pub returns-clause-alone : goal.returns-clause-alone
returns-clause-alone g c =
    let rounds = c.args.self.now in
    let p = case_of rounds.instance.now in
    let pairs = rounds.pairs.now in
    let before = g.S.Separate.seen_of c.args.separator.now in
    let frame = g.S.Separate.frame c.answers.new.separator in
    let now = g.S.Separate.seen_of c.answers.new.separator in
    let old = c.args.candidates.now in
    let net = rounds.instance.now.net.now in
    let least = least_of p pairs old.lines c.args.caps (modules_sound net.nodes net.links net.checked) c.requires.pairs c.requires.caps in
    if_ok c.add_found.result _ _
    (λ added adds alone full known.
    far_told p pairs now.history c.add_found.new.candidates.lines added
    (∥∥₁_elim known (hlevel props) (λ pool.
    ∥∥₁_elim c.in_ok-answers.ensures.told.separating (hlevel props) (λ separates.
    ∥∥₁_elim c.in_ok-answers.ensures.told.round (hlevel props) (λ are_answers.
    ∥∥₁_elim c.requires.planning.listed (hlevel props) (λ listed.
    ∥∥₁_elim (g.met.S.Separate.seen c.args.separator.now) (hlevel props) (λ seen_before.
    ∥∥₁_map (g.met.S.Separate.seen c.answers.new.separator) (λ seen.
    pool_as_far p pairs c.requires.pairs frame.network frame.states before now seen_before.own_among c.answers.ensures.on.more seen alone
    least.0 c.in_ok-caps.caps.divided c.in_ok-answered.answered old least.1 (divided_least p pairs c.args.caps c.in_ok-caps.caps least.0 c.in_ok-caps.ensures least.2) c.in_ok-answers.answers c.in_ok-answers.ensures.told separates c.in_ok-answered.ensures.found (c.in_ok-answered.ensures.sorted p c.in_ok-caps.caps.divided now.history are_answers) listed pool
    (rounds.most - length old.lines) c.add_found.new.candidates added (omega (arith, c.requires.fits, full)) (subst (λ n. AddsFound (rounds.most - n) c.in_ok-answered.answered old c.add_found.new.candidates added) c.len.ensures adds)))))))))
    c.add_found.ensures
