use Rattle.plan_terms.specs.Terms.{case_of}
use Rattle.text_kit.proofs.Lemmas.{on_ok}
use Rattle.view_text.proofs.Plans.{plan_shown}
use Rattle.view_text.proofs.plan.put_plan.Goals as goal

pub returns : goal.returns
returns c = on_ok c.put_rows.result (λ h. plan_shown (case_of c.args.instance.now) c.args.plan.now c.args.proof c.in_ok-numbers.numbers
    c.args.text.now c.put_rows.new.text
    c.in_ok-numbers.ensures c.requires.holds h) c.put_rows.ensures
