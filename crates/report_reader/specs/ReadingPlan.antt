-- Reading a plan: its costs, and all its parts.
use Rattle.std.specs.Prelude.{◌^◌, List, codes}
use Rattle.plan_terms.specs.Terms.{Demand, Places, CutLine}
use Rattle.text_kit.specs.Terms.{Reading, ◌>>=◌, give}
use Rattle.plan_report.specs.Terms.{KnownNames, Plan}
use Rattle.report_words.{specs.declared.fault.ReportKind.ReportKind, specs.Terms.{keyword_at, money_at, number_at, field_at}}
use Rattle.report_parts.{specs.ReadingQuality.quality_at, specs.ReadingRoutings.routings_at, specs.ReadingParts.{certificate_at, modules_at, plan_demands_at}}
use Rattle.report_reader.{specs.declared.parts.Head.Head, specs.declared.parts.PlanParts.PlanParts, specs.declared.parts.Routed.Routed, specs.declared.parts.Values.Values}

-- ---- costs and bounds

unfoldable pub values_at : Places → Reading ReportKind Values
values_at p = do
  _ ← keyword_at (codes "cost")
  cost ← money_at p (2 ^ 126)
  _ ← keyword_at (codes "bound")
  bound ← money_at p (2 ^ 126)
  num ← field_at (codes "raw") 0 (2 ^ 126)
  den ← number_at 1 (2 ^ 72)
  give (record { cost = cost; bound = bound; raw_num = num; raw_den = den })

-- ---- the plan after its head

-- the routings of a plan, and how good its bound is
unfoldable pub routed_at : KnownNames → List Demand → Reading ReportKind Routed
routed_at names demands = do
  _ ← keyword_at (codes "ROUTES")
  routings ← routings_at names demands
  quality ← quality_at names demands
  give (record { routings = routings; quality = quality })

-- what a plan says after its demands
unfoldable pub plan_parts_at : KnownNames → List CutLine → List Demand → Reading ReportKind PlanParts
plan_parts_at names pool demands = do
  values ← values_at names.places
  counts ← modules_at names.links
  certificate ← certificate_at names pool
  routed ← routed_at names demands
  give (record { values = values; counts = counts; certificate = certificate; routed = routed })

-- the plan of these demands and parts
abbrev pub plan_of_parts : Head → List Demand → PlanParts → Plan
plan_of_parts head demands parts = record {
  version = head.version;
  position = head.position;
  demands = demands;
  counts = parts.counts;
  cost = parts.values.cost;
  routings = parts.routed.routings;
  certificate = parts.certificate;
  raw_num = parts.values.raw_num;
  raw_den = parts.values.raw_den;
  bound = parts.values.bound;
  quality = parts.routed.quality;
}

unfoldable pub plan_at : KnownNames → List CutLine → Head → Reading ReportKind Plan
plan_at names pool head = do
  demands ← plan_demands_at names.places names.nodes
  parts ← plan_parts_at names pool demands
  give (plan_of_parts head demands parts)
