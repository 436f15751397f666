-- the report of a plan without demands on the triangle
use Rattle.std.specs.Prelude.{[], ◌∷◌, false}
use Rattle.plan_terms.specs.Terms.{Pooled, CutLine, Routing}
use Rattle.plan_types.{specs.declared.certificate.Certificate.Certificate, specs.declared.plan.Plan.Plan, specs.declared.quality.Quality.TheVariants.Tight, specs.declared.report.Outcome.TheVariants.Planned, specs.declared.report.Report.Report}

-- the unit cut of the state without failures, which asks for nothing
abbrev pub idle_cut : CutLine
idle_cut = record { state = record { 0 = 0 }; lengths = 1 ∷ 1 ∷ 1 ∷ []; right = 0 }

abbrev pub idle_routing : Routing
idle_routing = record { den = 1; flows = [] }

abbrev pub idle_certificate : Certificate
idle_certificate = record { den = 1; lines = [] }

abbrev pub idle_plan : Plan
idle_plan = record {
  version = 0;
  position = 0;
  demands = [];
  counts = (0 ∷ []) ∷ (0 ∷ []) ∷ (0 ∷ []) ∷ [];
  cost = 0;
  routings = idle_routing ∷ [];
  certificate = idle_certificate;
  raw_num = 0;
  raw_den = 1;
  bound = 0;
  quality = Tight (record { share = record { scale = 1; units = 0 ∷ 0 ∷ 0 ∷ [] }; routings = idle_routing ∷ [] });
}

abbrev pub idle_report : Report
idle_report = record {
  notes = record { fixed_cost = false; routing_cost = false; setup_cost = false };
  entries = Pooled 0 idle_cut.state idle_cut.lengths ∷ [];
  pool = idle_cut ∷ [];
  outcomes = Planned 1 1 idle_plan ∷ [];
}
