use Rattle.std.proofs.Common.{arith, inl}
use Rattle.net_core.proofs.Library.{∥∥₁_elim, ∥∥₁_map, props, modules_sound}
use Rattle.plan_terms.specs.Terms.{case_of}
use Rattle.plan_rounds.{proofs.Bounding.have_bounds, proofs.Results.if_ok, proofs.Seeing.goes_none, proofs.Turning.best_at}
use Rattle.plan_rounds.proofs.rounds.Rounds.turn.Goals as goal

pub best_so_far-requires-clause-few : goal.best_so_far-requires-clause-few
best_so_far-requires-clause-few g c = omega (arith, c.requires.fits, c.args.self.now.few)

pub best_so_far-requires-clause-lengths : goal.best_so_far-requires-clause-lengths
best_so_far-requires-clause-lengths g c =
    have_bounds (case_of c.args.self.now.instance.now) (g.S.Separate.seen_of c.args.separator.now).history c.args.progress.now.candidates c.requires.planning.listed

pub best_so_far-requires-clause-right : goal.best_so_far-requires-clause-right
best_so_far-requires-clause-right g c k d lt = ∥∥₁_elim c.requires.planning.listed (hlevel props) (λ are. are.low k d lt)

pub best_so_far-requires-clause-different : goal.best_so_far-requires-clause-different
best_so_far-requires-clause-different g c i j d ij lj same = ∥∥₁_elim c.requires.planning.listed (hlevel props) (λ are. are.different i j d ij lj same)

pub ask-requires-clause-best : goal.ask-requires-clause-best
ask-requires-clause-best g c =
    let rounds = c.args.self.now in
    let net = rounds.instance.now.net.now in
    best_at (case_of rounds.instance.now) rounds.pairs.now (modules_sound net.nodes net.links net.checked) c.requires.pairs c.args.progress.now.candidates.lines c.in-Ok.best c.in-Ok.ensures

pub returns-in-Ok : goal.returns-in-Ok
returns-in-Ok g c =
    let told = c.ask.ensures in
    record { on = told.on; listed = told.listed; turn = if_ok c.ask.result _ _ (λ turn is. ∥∥₁_map (is c.args.before) inl) told.turn; alone = told.alone }

pub returns-in-Err-Wide : goal.returns-in-Err-Wide
returns-in-Err-Wide g c = let told = c.turn_past_wide.ensures in record { on = told.on; listed = told.listed; turn = told.turn; alone = told.alone }

pub returns-in-Err-NoMemory-clause-on : goal.returns-in-Err-NoMemory-clause-on
returns-in-Err-NoMemory-clause-on g c = goes_none _ _
