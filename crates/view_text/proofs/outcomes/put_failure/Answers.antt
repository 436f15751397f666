use Rattle.std.proofs.Common.{◌++◌, ap, codes, ◌∙◌}
use Rattle.plan_report.specs.Terms.{state_name}
use Rattle.text_kit.proofs.Lemmas.{on_ok}
use Rattle.view_cells.proofs.Lemmas.{appended_five}
use Rattle.view_text.proofs.outcomes.put_failure.Goals as goal

pub returns : goal.returns
returns c = on_ok c.append-5.result (λ q.
    appended_five c.args.text.now (codes "  no plan: the failure ") (state_name c.args.listed.now c.args.state.0) (codes " separates the ends of demand ")
    c.args.demand.now (codes "\n")
    c.append.new.self c.append-2.new.self c.append-3.new.self c.append-4.new.self c.append-5.new.self
    c.in_ok-append.ensures.ok (c.in_ok-append-2.ensures.ok ∙ ap (λ b. c.append.new.self ++ b) c.state_name.ensures) c.in_ok-append-3.ensures.ok
    (c.in_ok-append-4.ensures.ok ∙ ap (λ b. c.append-3.new.self ++ b) c.bytes.ensures.value) q) c.append-5.ensures.ok
