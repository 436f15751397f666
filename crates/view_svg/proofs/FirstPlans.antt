-- the first plan of sound outcomes
use Rattle.std.{proofs.Common.{◌≡◌, suc, List, [], ◌∷◌, Option, Some, ap, arith, length, subst, All}, specs.Option.option_map_or}
use Rattle.plan_terms.specs.Terms.{AreDemands, Case}
use Rattle.plan_report.specs.Terms.{Plan, Outcome, Planned, Unsurvivable}
use Rattle.plan_view.specs.Terms.{IsSoundPlan, HasSoundPlan, case_of_plan}
use Rattle.view_svg.specs.ReportPictures.{first_plan}

pub first_sound : (p : Case) (outcomes : List Outcome) (plan : Plan) → All (HasSoundPlan p) outcomes → first_plan outcomes ≡ Some plan
    → AreDemands (length p.nodes) plan.demands × IsSoundPlan (case_of_plan p plan) plan
first_sound p [] plan all is = absurd (cc is)
first_sound p (Planned caller serial q ∷ outcomes) plan all is =
    subst (λ (x : Plan). AreDemands (length p.nodes) x.demands × IsSoundPlan (case_of_plan p x) x) (ap (λ (o : Option Plan). option_map_or (λ x. x) o q) is)
    (all 0 (Planned caller serial q) (omega arith))
first_sound p (Unsurvivable caller serial version position state demand ∷ outcomes) plan all is =
    first_sound p outcomes plan (λ k d lt. all (suc k) d (omega (arith, lt))) is
