use Rattle.std.proofs.Common.{◌≡◌, ◌∙◌, [], ◌∷◌, Some, ap, arith, length, slice_get, subst, sym}
use Rattle.plan_terms.specs.Terms.{Notes, Case}
use Rattle.plan_report.specs.Terms.{Outcome, Report}
use Rattle.acceptance.specs.Terms.{IsTranscript}
use Rattle.plan_reports.{specs.LonePlans.plan_commands, proofs.Alone.{has_one, planned, refused}}
use Rattle.plan_reports.proofs.lone.lone_of.Goals as goal

-- the first of the outcomes is all of them
alone : (p : Case) (notes : Notes) (r : Report) → IsTranscript p notes plan_commands r → (first : Outcome) → slice_get r.outcomes 0 ≡ Some first → r.outcomes ≡ first ∷ []
alone p notes r t first at =
    let found = has_one p notes r t in
    let one : Some found.0 ≡ Some first = sym (ap (λ os. slice_get os 0) found.1) ∙ at in
    found.1 ∙ ap (λ (o : Outcome). o ∷ []) (cc one)

pub remove-requires : goal.remove-requires
remove-requires c =
    let found = has_one c.requires.0 c.requires.1 c.args.report c.requires.2 in
    let long = ap length found.1 in
    omega (arith, long)

pub returns-in-Planned : goal.returns-in-Planned
returns-in-Planned c p notes t =
    let same = alone p notes c.args.report t (c.remove.result) c.remove.ensures.item ∙ ap (λ (o : Outcome). o ∷ []) c.in-Planned.is in
    let all = planned p notes c.args.report t c.in-Planned.caller c.in-Planned.serial c.in-Planned.plan same in
    subst (λ os. IsTranscript p notes plan_commands (record { notes = c.args.report.notes; entries = c.args.report.entries; pool = c.args.report.pool; outcomes = os })) all t

pub returns-in-Unsurvivable : goal.returns-in-Unsurvivable
returns-in-Unsurvivable c p notes t =
    let same = alone p notes c.args.report t (c.remove.result) c.remove.ensures.item ∙ ap (λ (o : Outcome). o ∷ []) c.in-Unsurvivable.is in
    refused p notes c.args.report t c.in-Unsurvivable.caller c.in-Unsurvivable.serial c.in-Unsurvivable.version c.in-Unsurvivable.position c.in-Unsurvivable.state c.in-Unsurvivable.demand same
