use Rattle.std.proofs.Common.{◌≡◌, ◌++◌, OnOk, subst, sym}
use Rattle.check_answers.specs.Findings.{finding_words, spaced}
use Rattle.check_answers.proofs.finding.put_finding.Goals as goal

pub returns-in-NotCarried : goal.returns-in-NotCarried
returns-in-NotCarried c =
    subst (λ f. OnOk c.put_named.result (c.put_named.new.text ≡ c.args.text.now ++ spaced (finding_words c.args.places c.args.links.now c.args.demands.now f))) (sym c.in-NotCarried.is)
    (rw c.demand_name.ensures at c.put_named.ensures)

pub returns-in-CostDiffers : goal.returns-in-CostDiffers
returns-in-CostDiffers c =
    subst (λ f. OnOk c.put_costs.result (c.put_costs.new.text ≡ c.args.text.now ++ spaced (finding_words c.args.places c.args.links.now c.args.demands.now f))) (sym c.in-CostDiffers.is)
    c.put_costs.ensures
