-- that a report is in form has one proof at most, so that it follows from what is known to hold without a witness
use Rattle.std.proofs.Common.{ℕ, ◌+◌, ◌<◌, List, [], ◌∷◌, ◌++◌, length}
use Rattle.net_core.proofs.Library.{props}
use Rattle.plan_terms.specs.Terms.{Evidence, Route, Master, MasterColumn, RouteColumn, WideKind, Number, Row, Product, Sum, Common, Value, Length, Demand, LinkId, Edit, Entry, Edited, Pooled, Reply, Accepted, UnknownDemand, KnownDemand, UnknownNode, SelfDemand, TooMany, TooMuch, Link, CutLine, AreCounts}
use Rattle.text_kit.specs.Terms.{ComeAfter, IsEditInForm}
use Rattle.plan_report.specs.Terms.{KnownNames, IsCauseInForm, IsDemandInForm, IsEntryInForm, IsEvidenceInForm, IsKindInForm, IsMasterColumnInForm, IsOfPool, IsOutcomeInForm, IsPlanInForm, IsQualityInForm, IsReplyInForm, IsReportInForm, IsRouteColumnInForm, IsSpotInForm, Spot, Pool, Local, Plan, Cause, Wide, Cuts, Quality, Tight, Loose, Outcome, Planned, Unsurvivable, Report}
use Rattle.net_core.specs.declared.columns.MasterColumn.TheVariants as master
use Rattle.net_core.specs.declared.columns.RouteColumn.TheVariants as route
use Rattle.net_core.specs.declared.journal.Edit.TheVariants as edits

-- ---- lists

after_prop : {X : Type 0} (is : List X → X → Type 0) → ((sofar : List X) (x : X) → IsProp (is sofar x)) → (sofar xs : List X) → IsProp (ComeAfter is sofar xs)
after_prop is one sofar [] = hlevel props
after_prop is one sofar (x ∷ xs) =
    let rest : IsProp (ComeAfter is (sofar ++ x ∷ []) xs) = after_prop is one (sofar ++ x ∷ []) xs in
    hlevel (one, rest, props)

demands_prop : (nodes : List (List ℕ)) (sofar demands : List Demand) → IsProp (ComeAfter (IsDemandInForm nodes) sofar demands)
demands_prop nodes = after_prop (IsDemandInForm nodes) (λ sofar d. hlevel props)

counts_prop : (links : List Link) (counts : List (List ℕ)) → IsProp (AreCounts links counts)
counts_prop [] [] = hlevel props
counts_prop [] (c ∷ cs) = hlevel props
counts_prop (l ∷ ls) [] = hlevel props
counts_prop (l ∷ ls) (c ∷ cs) = let rest = counts_prop ls cs in hlevel (rest, props)

-- ---- how good a bound is

kind_prop : {C : Type 0} (column : C → Type 0) (value : Type 0) (length : LinkId → Type 0) (rows : ℕ) → ((c : C) → IsProp (column c)) → IsProp value → ((e : LinkId) → IsProp (length e))
    → (kind : WideKind C) → IsProp (IsKindInForm column value length rows kind)
kind_prop column value length rows columns values lengths (Number c) = columns c
kind_prop column value length rows columns values lengths (Row i) = hlevel props
kind_prop column value length rows columns values lengths (Product i c) = hlevel (columns, props)
kind_prop column value length rows columns values lengths (Sum i) = hlevel props
kind_prop column value length rows columns values lengths Common = hlevel props
kind_prop column value length rows columns values lengths Value = values
kind_prop column value length rows columns values lengths (Length e) = lengths e

module _ (known : KnownNames) (demands : List Demand) where
  route_column_prop : (c : RouteColumn) → IsProp (IsRouteColumnInForm known.links demands c)
  route_column_prop (route.LinkSlack e) = hlevel props
  route_column_prop (route.DemandSlack k) = hlevel props
  route_column_prop (route.Carry k path) = hlevel props

  master_column_prop : (c : MasterColumn) → IsProp (IsMasterColumnInForm known.links known.listed c)
  master_column_prop (master.LinkSlack e) = hlevel props
  master_column_prop (master.Metric state lengths) = hlevel props

  evidence_prop : (e : Evidence) → IsProp (IsEvidenceInForm known demands e)
  evidence_prop (Route state caps basis kind) =
      let wide = kind_prop (IsRouteColumnInForm known.links demands) ⊥ (λ e. e.0 < length known.links) (length known.links + length demands) route_column_prop (hlevel props) (λ e. hlevel props) kind in
      hlevel (route_column_prop, wide, props)
  evidence_prop (Master basis kind) =
      let wide = kind_prop (IsMasterColumnInForm known.links known.listed) (Unit {0}) (λ e. ⊥) (length known.links) master_column_prop (hlevel props) (λ e. hlevel props) kind in
      hlevel (master_column_prop, wide, props)

  cause_prop : (c : Cause) → IsProp (IsCauseInForm known demands c)
  cause_prop (Wide evidence) = evidence_prop evidence
  cause_prop Cuts = hlevel props

  quality_prop : (q : Quality) → IsProp (IsQualityInForm known demands q)
  quality_prop (Tight f) = hlevel props
  quality_prop (Loose cause) = cause_prop cause

-- ---- plans

spot_prop : (spot : Spot) → IsProp (IsSpotInForm spot)
spot_prop (Pool i) = hlevel props
spot_prop Local = hlevel props

plan_prop : (known : KnownNames) (plan : Plan) → IsProp (IsPlanInForm known plan)
plan_prop known plan =
    let demands = demands_prop known.nodes [] plan.demands in
    let counts = counts_prop known.links plan.counts in
    let quality = quality_prop known plan.demands plan.quality in
    hlevel (demands, counts, quality, spot_prop, props)

of_pool_prop : (pool : List CutLine) (spot : Spot) (cut : CutLine) → IsProp (IsOfPool pool spot cut)
of_pool_prop pool (Pool i) cut = hlevel props
of_pool_prop pool Local cut = hlevel props

pub outcome_prop : (known : KnownNames) (pool : List CutLine) (o : Outcome) → IsProp (IsOutcomeInForm known pool o)
outcome_prop known pool (Planned caller serial plan) =
    let in_form = plan_prop known plan in
    hlevel (in_form, of_pool_prop, props)
outcome_prop known pool (Unsurvivable caller serial version position state demand) = hlevel props

-- ---- reports

edit_prop : (edit : Edit) → IsProp (IsEditInForm edit)
edit_prop (edits.Set name need) = hlevel props
edit_prop (edits.Add name from to need) = hlevel props
edit_prop (edits.Drop name) = hlevel props

reply_prop : (reply : Reply) → IsProp (IsReplyInForm reply)
reply_prop (Accepted version) = hlevel props
reply_prop UnknownDemand = hlevel props
reply_prop KnownDemand = hlevel props
reply_prop UnknownNode = hlevel props
reply_prop SelfDemand = hlevel props
reply_prop TooMany = hlevel props
reply_prop (TooMuch total) = hlevel props

entry_prop : (pool : List CutLine) (e : Entry) → IsProp (IsEntryInForm pool e)
entry_prop pool (Edited caller edit reply) = hlevel (edit_prop, reply_prop, props)
entry_prop pool (Pooled index state lengths) = hlevel props

pub report_prop : (known : KnownNames) (r : Report) → IsProp (IsReportInForm known r)
report_prop known r =
    let outcomes = outcome_prop known r.pool in
    let entries = entry_prop r.pool in
    hlevel (outcomes, entries, props)
