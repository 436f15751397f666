-- What holds of each variant of columns, evidence and quality holds of all.
use Rattle.std.proofs.Common.{ℕ, List}
use Rattle.plan_terms.specs.Terms.{Evidence, Route, Master, MasterColumn, RouteColumn, WideKind, LinkId, StateId, Caps}
use Rattle.plan_report.specs.Terms.{Wide, Cuts, Fractional, Quality, Tight, Loose}
use Rattle.net_core.specs.declared.columns.MasterColumn.TheVariants as master
use Rattle.net_core.specs.declared.columns.RouteColumn.TheVariants as route
use Rattle.net_core.specs.declared.columns.WideKind.TheVariants as wide

pub route_cases : (M : RouteColumn → Type 0) → ((e : LinkId) → M (route.LinkSlack e)) → ((k : ℕ) → M (route.DemandSlack k)) → ((k : ℕ) (path : List LinkId) → M (route.Carry k path)) → (c : RouteColumn) → M c
route_cases M link demand carry (route.LinkSlack e) = link e
route_cases M link demand carry (route.DemandSlack k) = demand k
route_cases M link demand carry (route.Carry k path) = carry k path

pub master_cases : (M : MasterColumn → Type 0) → ((e : LinkId) → M (master.LinkSlack e)) → ((state : StateId) (lengths : List ℕ) → M (master.Metric state lengths)) → (c : MasterColumn) → M c
master_cases M link metric (master.LinkSlack e) = link e
master_cases M link metric (master.Metric state lengths) = metric state lengths

pub wide_cases : {C : Type 0} → (M : WideKind C → Type 0) → ((c : C) → M (wide.Number c)) → ((i : ℕ) → M (wide.Row i)) → ((i : ℕ) (c : C) → M (wide.Product i c)) → ((i : ℕ) → M (wide.Sum i)) → M wide.Common → M wide.Value → ((e : LinkId) → M (wide.Length e)) → (k : WideKind C) → M k
wide_cases M a b c d e f g (wide.Number x) = a x
wide_cases M a b c d e f g (wide.Row i) = b i
wide_cases M a b c d e f g (wide.Product i x) = c i x
wide_cases M a b c d e f g (wide.Sum i) = d i
wide_cases M a b c d e f g wide.Common = e
wide_cases M a b c d e f g wide.Value = f
wide_cases M a b c d e f g (wide.Length l) = g l

pub evidence_cases : (M : Evidence → Type 0) → ((state : StateId) (caps : Caps) (basis : List RouteColumn) (kind : WideKind RouteColumn) → M (Route state caps basis kind)) → ((basis : List MasterColumn) (kind : WideKind MasterColumn) → M (Master basis kind)) → (e : Evidence) → M e
evidence_cases M a b (Route state caps basis kind) = a state caps basis kind
evidence_cases M a b (Master basis kind) = b basis kind

pub quality_cases : (M : Quality → Type 0) → ((f : Fractional) → M (Tight f)) → ((e : Evidence) → M (Loose (Wide e))) → M (Loose Cuts) → (q : Quality) → M q
quality_cases M a b c (Tight f) = a f
quality_cases M a b c (Loose (Wide e)) = b e
quality_cases M a b c (Loose Cuts) = c
