-- The grammar of a report: the items that its text is made of, part by part. Names are those of the network's nodes and links and of the listed states.
use Rattle.std.specs.Prelude.{ℕ, ◌+◌, Bool, if◌then◌else◌, List, [], ◌∷◌, ◌++◌, flat_map, zip, codes}
use Rattle.plan_terms.specs.Terms.{Evidence, Route, Master, MasterColumn, RouteColumn, WideKind, Number, Row, Product, Sum, Common, Value, Length, Demand, LinkId, StateId, Entry, Edited, Pooled, Reply, Accepted, UnknownDemand, KnownDemand, UnknownNode, SelfDemand, TooMany, TooMuch, Link, Notes, Places, CutLine, Flow, Routing, Listed, link_name}
use Rattle.plan_types.{specs.declared.certificate.CertLine.CertLine, specs.declared.certificate.Certificate.Certificate, specs.declared.certificate.Spot.Spot, specs.declared.certificate.Spot.TheVariants.{Pool, Local}, specs.declared.plan.Plan.Plan, specs.declared.quality.Cause.Cause, specs.declared.quality.Cause.TheVariants.{Wide, Cuts}, specs.declared.quality.Quality.Quality, specs.declared.quality.Quality.TheVariants.{Tight, Loose}, specs.declared.report.Outcome.Outcome, specs.declared.report.Outcome.TheVariants.{Planned, Unsurvivable}, specs.declared.report.Report.Report}
use Rattle.text_kit.specs.Terms.{Item, Verbatim, Whole, Money, edit_items, enclosed, ends_items, section}
use Rattle.plan_report.{specs.KnownNames.KnownNames, specs.Names.{demand_name, node_name, state_name}}
use Rattle.net_core.specs.declared.columns.MasterColumn.TheVariants as master
use Rattle.net_core.specs.declared.columns.RouteColumn.TheVariants as route

-- ---- numbers, cuts and paths

-- each element with its number, counted from here
abbrev pub numbered_from : {X : Type 0} → ℕ → List X → List (ℕ × X)
numbered_from n [] = []
numbered_from n (x ∷ xs) = (n, x) ∷ numbered_from (n + 1) xs

-- numbers between parentheses: lengths, units, capacities or counts
abbrev pub numbers_items : List ℕ → List Item
numbers_items ns = enclosed (flat_map (λ n. Whole n ∷ []) ns)

-- a line of the pool: its number, and a cut with its state, its right side and its lengths
abbrev pub pool_line_items : ℕ × CutLine → List Item
pool_line_items p =
    enclosed (Whole p.0 ∷ Verbatim (codes "state") ∷ Whole p.1.state.0 ∷ Verbatim (codes "right") ∷ Whole p.1.right ∷ numbers_items p.1.lengths)

-- a path: its links between parentheses
abbrev pub path_items : List Link → List LinkId → List Item
path_items links path = enclosed (flat_map (λ e. Verbatim (link_name links e) ∷ []) path)

-- ---- the journal

-- a reply: one word, and the version or the total that it tells
abbrev pub reply_items : Places → Reply → List Item
reply_items places (Accepted version) = Verbatim (codes "accepted") ∷ Whole version ∷ []
reply_items places UnknownDemand = Verbatim (codes "unknown-demand") ∷ []
reply_items places KnownDemand = Verbatim (codes "known-demand") ∷ []
reply_items places UnknownNode = Verbatim (codes "unknown-node") ∷ []
reply_items places SelfDemand = Verbatim (codes "self-demand") ∷ []
reply_items places TooMany = Verbatim (codes "too-many") ∷ []
reply_items places (TooMuch total) = Verbatim (codes "too-much") ∷ Money places total ∷ []

-- an entry: a caller with an edit and its reply, or the place of a cut in the pool, with its state and lengths
abbrev pub event_items : Places → Entry → List Item
event_items places (Edited caller edit reply) = Verbatim (codes "caller") ∷ Whole caller ∷ edit_items places edit ++ reply_items places reply
event_items places (Pooled index state lengths) = Verbatim (codes "cut") ∷ Whole index ∷ []

-- an entry after its position
abbrev pub entry_items : Places → ℕ × Entry → List Item
entry_items places p = enclosed (Whole p.0 ∷ event_items places p.1)

-- ---- routings

-- a flow: its demand, its numerator and its path
abbrev pub flow_items : List Link → List Demand → Flow → List Item
flow_items links demands f = Verbatim (demand_name demands f.demand) ∷ Whole f.num ∷ path_items links f.path

-- the routing of a state: the state's number and name, the denominator, and the flows
abbrev pub routing_items : KnownNames → List Demand → ℕ × Routing → List Item
routing_items known demands p =
    Verbatim (codes "state") ∷ Whole p.0 ∷ Verbatim (state_name known.listed p.0) ∷ Whole p.1.den
    ∷ enclosed (flat_map (flow_items known.links demands) p.1.flows)

-- the routings of all states, from state 0
abbrev pub routings_items : KnownNames → List Demand → List Routing → List Item
routings_items known demands routings = enclosed (flat_map (routing_items known demands) (numbered_from 0 routings))

-- ---- how good a bound is

-- a column of a program that routes: what a link has left, what of a demand is not carried, or a demand along a path
abbrev pub route_column_items : List Link → List Demand → RouteColumn → List Item
route_column_items links demands (route.LinkSlack e) = Verbatim (codes "link") ∷ Verbatim (link_name links e) ∷ []
route_column_items links demands (route.DemandSlack k) = Verbatim (codes "demand") ∷ Verbatim (demand_name demands k) ∷ []
route_column_items links demands (route.Carry k path) = Verbatim (codes "flow") ∷ Verbatim (demand_name demands k) ∷ path_items links path

-- a column of a program that finds a certificate: what a link's price leaves of its cost, or a cut
abbrev pub master_column_items : List Link → MasterColumn → List Item
master_column_items links (master.LinkSlack e) = Verbatim (codes "link") ∷ Verbatim (link_name links e) ∷ []
master_column_items links (master.Metric state lengths) = Verbatim (codes "cut") ∷ Whole state.0 ∷ numbers_items lengths

-- what is too wide, of a basis of such columns
abbrev pub wide_items : {C : Type 0} → List Link → (C → List Item) → WideKind C → List Item
wide_items links column (Number c) = Verbatim (codes "number") ∷ column c
wide_items links column (Row i) = Verbatim (codes "row") ∷ Whole i ∷ []
wide_items links column (Product i c) = Verbatim (codes "entry") ∷ Whole i ∷ column c
wide_items links column (Sum i) = Verbatim (codes "sum") ∷ Whole i ∷ []
wide_items links column Common = Verbatim (codes "common") ∷ []
wide_items links column Value = Verbatim (codes "value") ∷ []
wide_items links column (Length e) = Verbatim (codes "length") ∷ Verbatim (link_name links e) ∷ []

-- evidence: the program, a basis, and what of it is too wide
abbrev pub evidence_items : List Link → List Demand → Evidence → List Item
evidence_items links demands (Route state caps basis kind) =
    Verbatim (codes "route") ∷ Whole state.0 ∷ Whole caps.scale ∷ numbers_items caps.nums
    ++ enclosed (flat_map (route_column_items links demands) basis) ++ wide_items links (route_column_items links demands) kind
evidence_items links demands (Master basis kind) =
    Verbatim (codes "master") ∷ enclosed (flat_map (master_column_items links) basis) ++ wide_items links (master_column_items links) kind

-- why there is no better bound
abbrev pub cause_items : List Link → List Demand → Cause → List Item
cause_items links demands (Wide evidence) = Verbatim (codes "wide") ∷ evidence_items links demands evidence
cause_items links demands Cuts = Verbatim (codes "cuts") ∷ []

-- a share with the routings within it, or why there is no better bound
abbrev pub quality_items : KnownNames → List Demand → Quality → List Item
quality_items known demands (Tight f) =
    Verbatim (codes "tight") ∷ Whole f.share.scale ∷ numbers_items f.share.units ++ routings_items known demands f.routings
quality_items known demands (Loose cause) = Verbatim (codes "loose") ∷ cause_items known.links demands cause

-- ---- plans

-- a demand: its name, its ends and its need
abbrev pub demand_items : Places → List (List ℕ) → Demand → List Item
demand_items places nodes d = Verbatim d.name ∷ ends_items (node_name nodes d.from) (node_name nodes d.to) ++ Money places d.need ∷ []

-- the modules of a link: its name, and a count for each
abbrev pub modules_items : Link × List ℕ → List Item
modules_items p = Verbatim p.0.name ∷ numbers_items p.1

-- the spot of a cut: its place in the pool, or its own state and lengths
abbrev pub spot_items : Spot → CutLine → List Item
spot_items (Pool i) cut = Verbatim (codes "pool") ∷ Whole i ∷ []
spot_items Local cut = Verbatim (codes "local") ∷ Whole cut.state.0 ∷ numbers_items cut.lengths

-- a line of a certificate: its numerator, its cut, and its right side
abbrev pub certificate_line_items : CertLine → List Item
certificate_line_items l = enclosed (Whole l.num ∷ spot_items l.spot l.cut ++ Verbatim (codes "right") ∷ Whole l.cut.right ∷ [])

-- a certificate: its denominator, and its lines
abbrev pub certificate_items : Certificate → List Item
certificate_items c = section (codes "CERTIFICATE") (Whole c.den ∷ flat_map certificate_line_items c.lines)

-- whose plan command it was, which of that caller's, and for which version and position
abbrev pub head_items : ℕ → ℕ → ℕ → ℕ → List Item
head_items caller serial version position =
    Verbatim (codes "caller") ∷ Whole caller ∷ Verbatim (codes "plan") ∷ Whole serial
    ∷ Verbatim (codes "version") ∷ Whole version ∷ Verbatim (codes "position") ∷ Whole position ∷ []

-- the cost, the bound, and the raw value of the certificate as a fraction
abbrev pub costs_items : Places → Plan → List Item
costs_items places p = Verbatim (codes "cost") ∷ Money places p.cost ∷ Verbatim (codes "bound") ∷ Money places p.bound ∷ Verbatim (codes "raw")
    ∷ Whole p.raw_num ∷ Whole p.raw_den ∷ []

-- a plan after its head: its demands, its costs, its modules, its certificate, its routings, and how good its bound is
abbrev pub plan_items : KnownNames → Plan → List Item
plan_items known p =
    section (codes "DEMANDS") (flat_map (demand_items known.places known.nodes) p.demands)
    ++ costs_items known.places p
    ++ section (codes "MODULES") (flat_map modules_items (zip known.links p.counts))
    ++ certificate_items p.certificate
    ++ Verbatim (codes "ROUTES") ∷ routings_items known p.demands p.routings
    ++ quality_items known p.demands p.quality

-- the state that separates a demand, by its number and name, and the demand
abbrev pub separation_items : List Listed → StateId → List ℕ → List Item
separation_items listed state demand = Verbatim (codes "state") ∷ Whole state.0 ∷ Verbatim (state_name listed state.0) ∷ Verbatim (codes "demand")
    ∷ Verbatim demand ∷ []

-- the outcome of a plan command
abbrev pub outcome_items : KnownNames → Outcome → List Item
outcome_items known (Planned caller serial plan) =
    section (codes "PLAN") (head_items caller serial plan.version plan.position ++ plan_items known plan)
outcome_items known (Unsurvivable caller serial version position state demand) =
    section (codes "UNSURVIVABLE") (head_items caller serial version position ++ separation_items known.listed state demand)

-- ---- the report

-- a word where something is noted
abbrev pub note_items : Bool → List ℕ → List Item
note_items noted w = if noted then Verbatim w ∷ [] else []

-- which costs of the network aren't counted
abbrev pub notes_items : Notes → List Item
notes_items n = note_items n.fixed_cost (codes "fixed") ++ note_items n.routing_cost (codes "routing") ++ note_items n.setup_cost (codes "setup")

-- all of a report
abbrev pub report_items : KnownNames → Report → List Item
report_items known r =
    section (codes "NOTES") (notes_items r.notes)
    ++ section (codes "JOURNAL") (flat_map (entry_items known.places) (numbered_from 1 r.entries))
    ++ section (codes "POOL") (flat_map pool_line_items (numbered_from 0 r.pool))
    ++ section (codes "OUTCOMES") (flat_map (outcome_items known) r.outcomes)
