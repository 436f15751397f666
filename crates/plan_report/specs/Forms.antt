-- Which plans and reports are in form: their numbers, counts and names are in their ranges, and their places are there.
use Rattle.std.specs.Prelude.{◌≡◌, ℕ, ◌+◌, ◌≤◌, ◌<◌, ◌^◌, false, List, [], All, length, Option, None, Some, slice_get}
use Rattle.plan_terms.specs.Terms.{Evidence, Route, Master, MasterColumn, RouteColumn, WideKind, Number, Row, Product, Sum, Common, Value, Length, Demand, LinkId, StateId, Edit, Entry, Edited, Pooled, Reply, Accepted, TooMuch, Link, Caps, CutLine, Flow, Routing, Listed, is_named, AreCounts, AreWithinLimits}
use Rattle.plan_types.{specs.declared.certificate.CertLine.CertLine, specs.declared.certificate.Certificate.Certificate, specs.declared.certificate.Spot.Spot, specs.declared.certificate.Spot.TheVariants.{Pool, Local}, specs.declared.plan.Plan.Plan, specs.declared.quality.Cause.Cause, specs.declared.quality.Cause.TheVariants.{Wide, Cuts}, specs.declared.quality.Quality.Quality, specs.declared.quality.Quality.TheVariants.{Tight, Loose}, specs.declared.quality.Share.Share, specs.declared.report.Outcome.Outcome, specs.declared.report.Outcome.TheVariants.{Planned, Unsurvivable}, specs.declared.report.Report.Report}
use Rattle.text_kit.specs.Terms.{ComeAfter, IsEditInForm}
use Rattle.net_core.specs.Limits.{name_bytes, most_entries, most_flows}
use Rattle.plan_report.specs.KnownNames.{KnownNames}
use Rattle.net_core.specs.declared.columns.MasterColumn.TheVariants as master
use Rattle.net_core.specs.declared.columns.RouteColumn.TheVariants as route

-- ---- numbers, cuts and paths

-- one number for each link, all below a limit: lengths, units or capacities
pub record AreLinkNumbers (links : List Link) (limit : ℕ) (ns : List ℕ) : Type 0 where
  pub long : length ns ≡ length links
  pub each : All (λ n. n < limit) ns

-- a cut: one of the states, a length below 2^32 for each link, and a right side below 2^84
pub record IsCutInForm (links : List Link) (listed : List Listed) (cut : CutLine) : Type 0 where
  pub state : cut.state.0 ≤ length listed
  pub lengths : AreLinkNumbers links (2 ^ 32) cut.lengths
  pub right : cut.right < 2 ^ 84

-- one or more links
pub record IsPathInForm (links : List Link) (path : List LinkId) : Type 0 where
  pub some : 1 ≤ length path
  pub known : All (λ e. e.0 < length links) path

-- ---- routings

-- a flow of a demand: a numerator from 1, below 2^124, and a path
pub record IsFlowInForm (links : List Link) (demands : List Demand) (f : Flow) : Type 0 where
  pub demand : f.demand < length demands
  pub positive : 1 ≤ f.num
  pub num : f.num < 2 ^ 124
  pub path : IsPathInForm links f.path

-- a denominator from 1, below 2^62, and at most 65,536 flows
pub record IsRoutingInForm (links : List Link) (demands : List Demand) (r : Routing) : Type 0 where
  pub positive : 1 ≤ r.den
  pub den : r.den < 2 ^ 62
  pub few : length r.flows ≤ most_flows
  pub flows : All (IsFlowInForm links demands) r.flows

-- one routing for each state
pub record AreRoutingsInForm (known : KnownNames) (demands : List Demand) (routings : List Routing) : Type 0 where
  pub long : length routings ≡ length known.listed + 1
  pub each : All (IsRoutingInForm known.links demands) routings

-- ---- how good a bound is

-- a scale from 1, below 2^62, and units below 2^62
pub record IsShareInForm (links : List Link) (s : Share) : Type 0 where
  pub positive : 1 ≤ s.scale
  pub scale : s.scale < 2 ^ 62
  pub units : AreLinkNumbers links (2 ^ 62) s.units

-- a scale from 1, below 2^62, and numbers below 2^126
pub record AreCapsInForm (links : List Link) (caps : Caps) : Type 0 where
  pub positive : 1 ≤ caps.scale
  pub scale : caps.scale < 2 ^ 62
  pub nums : AreLinkNumbers links (2 ^ 126) caps.nums

-- a link, a demand, or a demand along a path
abbrev pub IsRouteColumnInForm : List Link → List Demand → RouteColumn → Type 0
IsRouteColumnInForm links demands (route.LinkSlack e) = e.0 < length links
IsRouteColumnInForm links demands (route.DemandSlack k) = k < length demands
IsRouteColumnInForm links demands (route.Carry k path) = (k < length demands) × IsPathInForm links path

-- a link, or one of the states with a length below 2^32 for each link
abbrev pub IsMasterColumnInForm : List Link → List Listed → MasterColumn → Type 0
IsMasterColumnInForm links listed (master.LinkSlack e) = e.0 < length links
IsMasterColumnInForm links listed (master.Metric state lengths) = (state.0 ≤ length listed) × AreLinkNumbers links (2 ^ 32) lengths

-- what is too wide of a basis of such columns, in a program of this many rows; `value` and `length` say whether these two kinds are known there
abbrev pub IsKindInForm : {C : Type 0} → (C → Type 0) → Type 0 → (LinkId → Type 0) → ℕ → WideKind C → Type 0
IsKindInForm column value length rows (Number c) = column c
IsKindInForm column value length rows (Row i) = i ≤ rows
IsKindInForm column value length rows (Product i c) = (i ≤ rows) × column c
IsKindInForm column value length rows (Sum i) = i ≤ rows
IsKindInForm column value length rows Common = Unit {0}
IsKindInForm column value length rows Value = value
IsKindInForm column value length rows (Length e) = length e

-- evidence on the routing of a state: a row for each link and each demand, and as many columns
pub record IsRouteEvidenceInForm (known : KnownNames) (demands : List Demand) (state : StateId) (caps : Caps) (basis : List RouteColumn)
    (kind : WideKind RouteColumn) : Type 0 where
  pub state_listed : state.0 ≤ length known.listed
  pub capacities : AreCapsInForm known.links caps
  pub long : length basis ≡ length known.links + length demands
  pub columns : All (IsRouteColumnInForm known.links demands) basis
  pub wide : IsKindInForm (IsRouteColumnInForm known.links demands) ⊥ (λ e. e.0 < length known.links) (length known.links + length demands) kind

-- evidence on the certificate of some cuts: a row for each link, and as many columns
pub record IsMasterEvidenceInForm (links : List Link) (listed : List Listed) (basis : List MasterColumn) (kind : WideKind MasterColumn) : Type 0 where
  pub long : length basis ≡ length links
  pub columns : All (IsMasterColumnInForm links listed) basis
  pub wide : IsKindInForm (IsMasterColumnInForm links listed) (Unit {0}) (λ e. ⊥) (length links) kind

-- evidence on either program
abbrev pub IsEvidenceInForm : KnownNames → List Demand → Evidence → Type 0
IsEvidenceInForm known demands (Route state caps basis kind) = IsRouteEvidenceInForm known demands state caps basis kind
IsEvidenceInForm known demands (Master basis kind) = IsMasterEvidenceInForm known.links known.listed basis kind

-- evidence, where a number grew too wide
abbrev pub IsCauseInForm : KnownNames → List Demand → Cause → Type 0
IsCauseInForm known demands (Wide evidence) = IsEvidenceInForm known demands evidence
IsCauseInForm known demands Cuts = Unit {0}

-- a share with a routing for each state, or why there is no better bound
abbrev pub IsQualityInForm : KnownNames → List Demand → Quality → Type 0
IsQualityInForm known demands (Tight f) = IsShareInForm known.links f.share × AreRoutingsInForm known demands f.routings
IsQualityInForm known demands (Loose cause) = IsCauseInForm known demands cause

-- ---- plans

-- a demand after others: a name that none of them has, two of the nodes, and a need below 2^40 units
pub record IsDemandInForm (nodes : List (List ℕ)) (sofar : List Demand) (d : Demand) : Type 0 where
  pub short : length d.name ≤ name_bytes
  pub new : is_named (λ x. x.name) d.name sofar ≡ false
  pub from : d.from.0 < length nodes
  pub to : d.to.0 < length nodes
  pub need : d.need < 2 ^ 40

-- in a plan by itself a place in the pool is below 4,096
abbrev pub IsSpotInForm : Spot → Type 0
IsSpotInForm (Pool i) = i < 4096
IsSpotInForm Local = Unit {0}

-- a numerator below 2^62, and a cut
pub record IsCertificateLineInForm (links : List Link) (listed : List Listed) (l : CertLine) : Type 0 where
  pub num : l.num < 2 ^ 62
  pub spot : IsSpotInForm l.spot
  pub cut : IsCutInForm links listed l.cut

-- a denominator from 1, below 2^72, and at most 256 lines
pub record IsCertificateInForm (links : List Link) (listed : List Listed) (c : Certificate) : Type 0 where
  pub positive : 1 ≤ c.den
  pub den : c.den < 2 ^ 72
  pub few : length c.lines ≤ 256
  pub lines : All (IsCertificateLineInForm links listed) c.lines

-- a plan by itself; costs and bounds are below 2^126 units
pub record IsPlanInForm (known : KnownNames) (p : Plan) : Type 0 where
  pub version : p.version ≤ most_entries
  pub position : p.position ≤ most_entries
  pub demands : ComeAfter (IsDemandInForm known.nodes) [] p.demands
  pub counts : AreCounts known.links p.counts
  pub limits : AreWithinLimits known.links p.counts
  pub cost : p.cost < 2 ^ 126
  pub routings : AreRoutingsInForm known p.demands p.routings
  pub certificate : IsCertificateInForm known.links known.listed p.certificate
  pub raw_num : p.raw_num < 2 ^ 126
  pub raw_positive : 1 ≤ p.raw_den
  pub raw_den : p.raw_den < 2 ^ 72
  pub bound : p.bound < 2 ^ 126
  pub quality : IsQualityInForm known p.demands p.quality

-- ---- reports

-- the state of a pool line; state 0 where there is none
abbrev pub line_state : Option CutLine → ℕ
line_state None = 0
line_state (Some line) = line.state.0

-- the lengths of a pool line; none where there is none
abbrev pub line_lengths : Option CutLine → List ℕ
line_lengths None = []
line_lengths (Some line) = line.lengths

-- a version is at most 65,536, and a total below 2^45 units
abbrev pub IsReplyInForm : Reply → Type 0
IsReplyInForm (Accepted version) = version ≤ most_entries
IsReplyInForm (TooMuch total) = total < 2 ^ 45
IsReplyInForm _ = Unit {0}

-- the edit of a caller from 1 to 8, and its reply
pub record IsEditedInForm (caller : ℕ) (edit : Edit) (reply : Reply) : Type 0 where
  pub some : 1 ≤ caller
  pub most : caller ≤ 8
  pub asked : IsEditInForm edit
  pub answered : IsReplyInForm reply

-- a cut whose place in the pool is below 4,096, with the state and the lengths of its line there
pub record IsPooledInForm (pool : List CutLine) (index : ℕ) (state : StateId) (lengths : List ℕ) : Type 0 where
  pub most : index < 4096
  pub same_state : state.0 ≡ line_state (slice_get pool index)
  pub same_lengths : lengths ≡ line_lengths (slice_get pool index)

-- an edit, or a cut of the pool
abbrev pub IsEntryInForm : List CutLine → Entry → Type 0
IsEntryInForm pool (Edited caller edit reply) = IsEditedInForm caller edit reply
IsEntryInForm pool (Pooled index state lengths) = IsPooledInForm pool index state lengths

-- a pooled cut of a certificate is there, with the state and the lengths of its line
pub record HasPoolLine (pool : List CutLine) (index : ℕ) (cut : CutLine) : Type 0 where
  pub there : index < length pool
  pub same_state : cut.state.0 ≡ line_state (slice_get pool index)
  pub same_lengths : cut.lengths ≡ line_lengths (slice_get pool index)

-- a cut of a certificate is the pool's, where it is said to be there
abbrev pub IsOfPool : List CutLine → Spot → CutLine → Type 0
IsOfPool pool (Pool i) cut = HasPoolLine pool i cut
IsOfPool pool Local cut = Unit {0}

-- a plan command of a caller from 1 to 8, one of 64, for a version and a position of at most 65,536
pub record IsHeadInForm (caller serial version position : ℕ) : Type 0 where
  pub some_caller : 1 ≤ caller
  pub most_caller : caller ≤ 8
  pub some_serial : 1 ≤ serial
  pub most_serial : serial ≤ 64
  pub most_version : version ≤ most_entries
  pub most_position : position ≤ most_entries

-- a plan whose pooled cuts are those of the pool
pub record IsPlannedInForm (known : KnownNames) (pool : List CutLine) (caller serial : ℕ) (p : Plan) : Type 0 where
  pub command : IsHeadInForm caller serial p.version p.position
  pub plan : IsPlanInForm known p
  pub pooled : All (λ l. IsOfPool pool l.spot l.cut) p.certificate.lines

-- one of the states, and a demand's name
pub record IsUnsurvivableInForm (listed : List Listed) (caller serial version position : ℕ) (state : StateId) (demand : List ℕ) : Type 0 where
  pub command : IsHeadInForm caller serial version position
  pub state_listed : state.0 ≤ length listed
  pub short : length demand ≤ name_bytes

-- a plan, or a state that separates a demand
abbrev pub IsOutcomeInForm : KnownNames → List CutLine → Outcome → Type 0
IsOutcomeInForm known pool (Planned caller serial plan) = IsPlannedInForm known pool caller serial plan
IsOutcomeInForm known pool (Unsurvivable caller serial version position state demand) =
    IsUnsurvivableInForm known.listed caller serial version position state demand

-- a report: at most 65,536 entries, 4,096 lines of the pool and 64 outcomes
pub record IsReportInForm (known : KnownNames) (r : Report) : Type 0 where
  pub few_entries : length r.entries ≤ most_entries
  pub entries : All (IsEntryInForm r.pool) r.entries
  pub few_lines : length r.pool ≤ 4096
  pub pool : All (IsCutInForm known.links known.listed) r.pool
  pub few_outcomes : length r.outcomes ≤ 64
  pub outcomes : All (IsOutcomeInForm known r.pool) r.outcomes
