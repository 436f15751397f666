use Rattle.std.proofs.Common.{sym}
use Rattle.plan_terms.specs.Terms.{case_of}
use Rattle.board_desk.specs.Turns.{caller_seen}
use Rattle.separator.proofs.Seeing.{sees_none}
use Rattle.separation_workers.{proofs.Desks.{at_desk, same_frame}, proofs.Working.none_below}
use Rattle.separation_workers.proofs.workers.WorkersSeparate.separate.Goals as goal

pub returns-in_err-reach-clause-more : goal.returns-in_err-reach-clause-more
returns-in_err-reach-clause-more g c = sees_none (caller_seen c.args.self.now.caller)

pub returns-in_err-reach-clause-separating : goal.returns-in_err-reach-clause-separating
returns-in_err-reach-clause-separating g c = ∣ (none_below (case_of c.args.instance.now) c.args.caps.now 0 c.args.self.now.caller).separating ∣₁

pub returns-in_err-reach-clause-different : goal.returns-in_err-reach-clause-different
returns-in_err-reach-clause-different g c = (none_below (case_of c.args.instance.now) c.args.caps.now 0 c.args.self.now.caller).different

pub returns-clause-more : goal.returns-clause-more
returns-clause-more g c = c.answer_round.ensures.goes.more

pub returns-clause-separating : goal.returns-clause-separating
returns-clause-separating g c = ∣ c.answer_round.ensures.cuts.separating ∣₁

pub returns-clause-different : goal.returns-clause-different
returns-clause-different g c = c.answer_round.ensures.cuts.different

pub answer_round-requires : goal.answer_round-requires
answer_round-requires g c =
    let self = c.args.self.now in
    record { caller = record { own = at_desk self.caller self.own; seen = self.seen; net = sym c.requires.net; states = sym c.requires.listed } }

pub returns-clause-frame : goal.returns-clause-frame
returns-clause-frame g c = same_frame c.args.self.now.caller c.answer_round.new.caller c.answer_round.ensures.goes.same
