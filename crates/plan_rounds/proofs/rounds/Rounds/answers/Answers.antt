use Rattle.std.proofs.Common.{inl}
use Rattle.net_core.proofs.Library.{∥∥₁_map}
use Rattle.plan_terms.specs.Terms.{case_of}
use Rattle.separator.proofs.SomeAnswers.{until_cut_are_of_round}
use Rattle.plan_rounds.proofs.Results.{if_both}
use Rattle.plan_rounds.proofs.rounds.Rounds.answers.Goals as goal

pub returns-then-is_first-clause-on : goal.returns-then-is_first-clause-on
returns-then-is_first-clause-on g c = record { same = c.separate.ensures.frame; more = c.separate.ensures.more }

pub returns-else-is_first-clause-on : goal.returns-else-is_first-clause-on
returns-else-is_first-clause-on g c = record { same = c.separate_until_cut.ensures.frame; more = c.separate_until_cut.ensures.more }

pub returns-then-is_first-clause-first : goal.returns-then-is_first-clause-first
returns-then-is_first-clause-first g c is = c.separate.ensures.answers

pub returns-else-is_first-clause-later : goal.returns-else-is_first-clause-later
returns-else-is_first-clause-later g c is = c.separate_until_cut.ensures.answers

pub returns-then-is_first-clause-told : goal.returns-then-is_first-clause-told
returns-then-is_first-clause-told g c =
    let told = c.separate.ensures in
    if_both c.separate.result _ _ _
    (λ answers are among. record { round = ∥∥₁_map are (λ all. inl all); separating = told.separating; different = told.different; among = among })
    told.answers told.answered

pub returns-else-is_first-clause-told : goal.returns-else-is_first-clause-told
returns-else-is_first-clause-told g c =
    let told = c.separate_until_cut.ensures in
    let history = (g.S.Separate.seen_of c.separate_until_cut.new.self).history in
    if_both c.separate_until_cut.result _ _ _
    (λ answers are among. record {
      round = ∥∥₁_map are (until_cut_are_of_round (case_of c.args.self.now.instance.now) c.args.caps.now history answers);
      separating = told.separating;
      different = told.different;
      among = among;
    })
    told.answers told.answered
