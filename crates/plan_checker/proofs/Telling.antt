-- from what tests find to findings
use Rattle.std.proofs.Common.{ℕ, ◌<◌, ◌^◌, Bool, List, refl, sym, ◌∙◌, arith, ⊎_elim}
use Rattle.plan_terms.{specs.Terms.{Case, Link, Routing, IsBound, IsLowest, CertificateLine, asked, given, raw_value}, proofs.Lemmas.bound_unique}
use Rattle.plan_types.specs.Terms.{lines_of_certificate}
use Rattle.plan_report.specs.Terms.{Plan, CertLine}
use Rattle.plan_checker.{specs.Carried.{HasBadPath, HoldsBadPath, HoldsNotCarried, HoldsOverloaded, IsOverloaded, IsUncarried}, specs.Certified.{HasStaleRight, HoldsBoundDiffers, HoldsCertificateWide, HoldsLocalCut, HoldsRawDiffers, HoldsPriceExceeded, HoldsRightDiffers, IsLocalCut, IsOverpriced}, specs.Order.HoldsNone, specs.Places.HoldsAt, specs.declared.finding.Finding.TheVariants.{BadPath, NotCarried, Overloaded, LocalCut, RightDiffers, PriceExceeded, CertificateWide, RawDiffers, BoundDiffers}}

pub no_right : (p : Case) (lines : List CertLine) → ((i x y : ℕ) → HoldsAt lines i (λ l. HasStaleRight p l.cut x y) → ⊥) → HoldsNone (HoldsRightDiffers p lines)
no_right p lines none (RightDiffers i a b) h = none i a b h.0
no_right p lines none _ h = h

pub no_wide : (links : List Link) (lines : List CertificateLine) → asked lines < 2 ^ 126 → given links lines < 2 ^ 126 → HoldsNone (HoldsCertificateWide links lines)
no_wide links lines first second CertificateWide h = ⊎_elim (λ le. omega (arith, le, first)) (λ le. omega (arith, le, second)) h
no_wide links lines first second _ h = h

pub no_raw : (links : List Link) (plan : Plan) → IsLowest (raw_value links (lines_of_certificate plan.certificate)) plan.certificate.den plan.raw_num plan.raw_den → HoldsNone (HoldsRawDiffers links plan)
no_raw links plan low RawDiffers h = h low
no_raw links plan low _ h = h

pub no_bound : (links : List Link) (plan : Plan) → 0 < plan.certificate.den → IsBound links (raw_value links (lines_of_certificate plan.certificate)) plan.certificate.den plan.bound → HoldsNone (HoldsBoundDiffers links plan)
no_bound links plan some bound (BoundDiffers a b) h =
    let raw = raw_value links (lines_of_certificate plan.certificate) in
    let den = plan.certificate.den in
    h.2 (sym h.0 ∙ bound_unique links raw den raw den plan.bound b some some refl bound h.1)
no_bound links plan some bound _ h = h

pub no_place : (p : Case) (routings : List Routing) → ((s f : ℕ) → HasBadPath p routings s f → ⊥) → HoldsNone (HoldsBadPath p routings)
no_place p routings none (BadPath s f) h = none s.0 f h.0
no_place p routings none _ h = h

pub no_uncarried : (p : Case) (routings : List Routing) → ((s k : ℕ) → IsUncarried p 1 routings s k → ⊥) → HoldsNone (HoldsNotCarried p routings)
no_uncarried p routings none (NotCarried s k) h = none s.0 k h.0
no_uncarried p routings none _ h = h

pub no_overloaded : (nums : List ℕ) (routings : List Routing) → ((s e : ℕ) → IsOverloaded nums routings s e → ⊥) → HoldsNone (HoldsOverloaded nums routings)
no_overloaded nums routings none (Overloaded s e) h = none s.0 e.0 h.0
no_overloaded nums routings none _ h = h

pub no_local : (p : Case) (full : Bool) (lines : List CertLine) → ((k : ℕ) → HoldsAt lines k (IsLocalCut p full) → ⊥) → HoldsNone (HoldsLocalCut p full lines)
no_local p full lines none (LocalCut i) h = none i h.0
no_local p full lines none _ h = h

pub no_price : (links : List Link) (den : ℕ) (lines : List CertificateLine) → ((e m : ℕ) → IsOverpriced links den lines e m → ⊥) → HoldsNone (HoldsPriceExceeded links den lines)
no_price links den lines none (PriceExceeded e m) h = none e.0 m h.0
no_price links den lines none _ h = h
