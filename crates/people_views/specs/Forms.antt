-- the forms of a report
use Rattle.std.specs.Prelude.{ℕ, ◌≤◌, List, length}
use Rattle.plan_terms.specs.Terms.{Case}
use Rattle.plan_types.specs.declared.report.Outcome.{Outcome}
use Rattle.view_csv.specs.Terms.{IsSheet}
use Rattle.view_state.specs.Terms.{IsStateView}
use Rattle.view_svg.specs.Terms.{IsReportPicture}
use Rattle.view_text.{specs.Terms.IsReportView, specs.declared.proof.CostProof.CostProof}
use Rattle.people_views.{specs.declared.form.ViewForm.ViewForm, specs.declared.form.ViewForm.TheVariants.{Picture, State, Tables, Values}}

-- a case can be read in this form: the state is one of its own
abbrev pub IsFormOf : Case → ViewForm → Type 0
IsFormOf p Tables = Unit {0}
IsFormOf p (Values sheet) = Unit {0}
IsFormOf p (State s) = s ≤ length p.listed
IsFormOf p (Picture s places) = s ≤ length p.listed

-- the text has the outcomes of a report in this form, of a network's file of this name
abbrev pub HasForm : ViewForm → List ℕ → Case → List Outcome → CostProof → List ℕ → Type 0
HasForm Tables network p outcomes proof text = IsReportView network p outcomes proof text
HasForm (Values sheet) network p outcomes proof text = IsSheet sheet p outcomes text
HasForm (State s) network p outcomes proof text = IsStateView network p s outcomes text
HasForm (Picture s places) network p outcomes proof text = IsReportPicture network p s outcomes text
