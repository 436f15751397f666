-- Reading how good the bound of a plan is.
use Rattle.std.specs.Prelude.{ℕ, ◌+◌, ◌^◌, List, [], ◌∷◌, length, codes}
use Rattle.plan_terms.specs.Terms.{Evidence, Route, Master, MasterColumn, RouteColumn, WideKind, Demand, Link, Caps}
use Rattle.text_kit.specs.Terms.{Reading, ◌>>=◌, give, list_at, mapped, of_length, Parenthesis}
use Rattle.plan_report.specs.Terms.{KnownNames, Wide, Cuts, Fractional, Quality, Tight, Loose}
use Rattle.report_words.{specs.declared.fault.ReportKind.ReportKind, specs.declared.fault.ReportKind.TheVariants.Limit, specs.Terms.{demand_at, has_room, link_at, number_at, opening_at, Branches, branch_at, branch_within, numbers_at}}
use Rattle.report_parts.specs.ReadingRoutings.{path_at, routings_at}
use Rattle.net_core.specs.declared.columns.MasterColumn.TheVariants as master
use Rattle.net_core.specs.declared.columns.RouteColumn.TheVariants as route
use Rattle.net_core.specs.declared.columns.WideKind.TheVariants as wide

-- ---- columns

unfoldable pub slack_at : List Link → Reading ReportKind RouteColumn
slack_at links = mapped route.LinkSlack (link_at links)

unfoldable pub left_at : List Demand → Reading ReportKind RouteColumn
left_at demands = mapped route.DemandSlack (demand_at demands)

unfoldable pub carry_at : List Link → List Demand → Reading ReportKind RouteColumn
carry_at links demands = do
  k ← demand_at demands
  path ← path_at links
  give (route.Carry k path)

abbrev pub route_column_branches : List Link → List Demand → Branches RouteColumn
route_column_branches links demands = (codes "link", slack_at links) ∷ (codes "demand", left_at demands) ∷ (codes "flow", carry_at links demands) ∷ []

unfoldable pub price_at : List Link → Reading ReportKind MasterColumn
price_at links = mapped master.LinkSlack (link_at links)

unfoldable pub metric_at : KnownNames → Reading ReportKind MasterColumn
metric_at names = do
  state ← number_at 0 (length names.listed + 1)
  lengths ← numbers_at (length names.links) (2 ^ 32)
  give (master.Metric (record { 0 = state }) lengths)

abbrev pub master_column_branches : KnownNames → Branches MasterColumn
master_column_branches names = (codes "link", price_at names.links) ∷ (codes "cut", metric_at names) ∷ []

-- a basis: as many columns as rows
unfoldable pub basis_at : {C : Type 0} → Branches C → ℕ → Reading ReportKind (List C)
basis_at columns rows = opening_at >>= λ _. list_at Parenthesis (of_length rows Limit) (λ sofar. branch_within (has_room rows sofar) columns) []

-- ---- what is too wide

unfoldable pub wide_number_at : {C : Type 0} → Branches C → Reading ReportKind (WideKind C)
wide_number_at columns = mapped wide.Number (branch_at columns)

unfoldable pub wide_row_at : {C : Type 0} → ℕ → Reading ReportKind (WideKind C)
wide_row_at rows = mapped wide.Row (number_at 0 (rows + 1))

unfoldable pub wide_entry_at : {C : Type 0} → Branches C → ℕ → Reading ReportKind (WideKind C)
wide_entry_at columns rows = do
  i ← number_at 0 (rows + 1)
  c ← branch_at columns
  give (wide.Product i c)

unfoldable pub wide_sum_at : {C : Type 0} → ℕ → Reading ReportKind (WideKind C)
wide_sum_at rows = mapped wide.Sum (number_at 0 (rows + 1))

unfoldable pub wide_length_at : List Link → Reading ReportKind (WideKind RouteColumn)
wide_length_at links = mapped wide.Length (link_at links)

abbrev pub route_wide_branches : Branches RouteColumn → List Link → ℕ → Branches (WideKind RouteColumn)
route_wide_branches columns links rows = (codes "number", wide_number_at columns) ∷ (codes "row", wide_row_at rows)
    ∷ (codes "entry", wide_entry_at columns rows) ∷ (codes "sum", wide_sum_at rows)
    ∷ (codes "common", give wide.Common) ∷ (codes "length", wide_length_at links) ∷ []

abbrev pub master_wide_branches : Branches MasterColumn → ℕ → Branches (WideKind MasterColumn)
master_wide_branches columns rows = (codes "number", wide_number_at columns) ∷ (codes "row", wide_row_at rows)
    ∷ (codes "entry", wide_entry_at columns rows) ∷ (codes "sum", wide_sum_at rows)
    ∷ (codes "common", give wide.Common) ∷ (codes "value", give wide.Value) ∷ []

-- ---- evidence

-- capacities: their scale, and one number for each link
unfoldable pub caps_at : List Link → Reading ReportKind Caps
caps_at links = do
  scale ← number_at 1 (2 ^ 62)
  nums ← numbers_at (length links) (2 ^ 126)
  give (record { scale = scale; nums = nums })

unfoldable pub route_at : KnownNames → List Demand → Reading ReportKind Evidence
route_at names demands = do
  state ← number_at 0 (length names.listed + 1)
  caps ← caps_at names.links
  basis ← basis_at (route_column_branches names.links demands) (length names.links + length demands)
  kind ← branch_at (route_wide_branches (route_column_branches names.links demands) names.links (length names.links + length demands))
  give (Route (record { 0 = state }) caps basis kind)

unfoldable pub master_at : KnownNames → Reading ReportKind Evidence
master_at names = do
  basis ← basis_at (master_column_branches names) (length names.links)
  kind ← branch_at (master_wide_branches (master_column_branches names) (length names.links))
  give (Master basis kind)

abbrev pub evidence_at : KnownNames → List Demand → Reading ReportKind Evidence
evidence_at names demands = branch_at ((codes "route", route_at names demands) ∷ (codes "master", master_at names) ∷ [])

-- ---- quality

-- a share and the routings within it
unfoldable pub fractional_at : KnownNames → List Demand → Reading ReportKind Fractional
fractional_at names demands = do
  scale ← number_at 1 (2 ^ 62)
  units ← numbers_at (length names.links) (2 ^ 62)
  routings ← routings_at names demands
  give (record { share = record { scale = scale; units = units }; routings = routings })

unfoldable pub tight_at : KnownNames → List Demand → Reading ReportKind Quality
tight_at names demands = mapped Tight (fractional_at names demands)

unfoldable pub too_wide_at : KnownNames → List Demand → Reading ReportKind Quality
too_wide_at names demands = mapped (λ evidence. Loose (Wide evidence)) (evidence_at names demands)

abbrev pub loose_at : KnownNames → List Demand → Reading ReportKind Quality
loose_at names demands = branch_at ((codes "cuts", give (Loose Cuts)) ∷ (codes "wide", too_wide_at names demands) ∷ [])

abbrev pub quality_at : KnownNames → List Demand → Reading ReportKind Quality
quality_at names demands = branch_at ((codes "tight", tight_at names demands) ∷ (codes "loose", loose_at names demands) ∷ [])
