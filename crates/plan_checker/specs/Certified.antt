-- findings on the cost of a plan, on its certificate and on its bound
use Rattle.std.specs.Prelude.{◌≡◌, ◌≢◌, ℕ, ◌*◌, ◌^◌, ◌<◌, ◌≤◌, ◌⊎◌, Bool, false, List}
use Rattle.plan_terms.specs.Terms.{CutLine, Case, graph_in, Joins, Link, IsBound, IsLowest, total_cost, AreKept, CertificateLine, IsRight, asked, given, price, raw_value}
use Rattle.plan_types.specs.Terms.{lines_of_certificate}
use Rattle.plan_report.specs.Terms.{CertLine, Local, Plan}
use Rattle.plan_checker.{specs.Places.{HoldsAt, IsLeastPair, IsLeastPlace}, specs.declared.finding.Finding.Finding, specs.declared.finding.Finding.TheVariants.{CostDiffers, LocalCut, RightDiffers, PriceExceeded, CertificateWide, RawDiffers, BoundDiffers}}

-- the cost isn't what the counts cost
abbrev pub HoldsCostDiffers : Case → Plan → Finding → Type 0
HoldsCostDiffers p plan (CostDiffers a b) = (plan.cost ≡ a) × (total_cost p.links plan.counts ≡ b) × (a ≢ b)
HoldsCostDiffers p plan _ = ⊥

-- the line isn't in the pool, which has room, or its state doesn't keep its lengths
abbrev pub IsLocalCut : Case → Bool → CertLine → Type 0
IsLocalCut p full l = ((l.spot ≡ Local) × (full ≡ false)) ⊎ (AreKept (graph_in p l.cut.state.0) l.cut.lengths → ⊥)

-- the first such line
abbrev pub HoldsLocalCut : Case → Bool → List CertLine → Finding → Type 0
HoldsLocalCut p full lines (LocalCut i) = IsLeastPlace (λ k. HoldsAt lines k (IsLocalCut p full)) i
HoldsLocalCut p full lines _ = ⊥

-- the line has one right side, and its cut has the other at the demands
pub record HasStaleRight (p : Case) (line : CutLine) (a b : ℕ) : Type 0 where
  pub printed : line.right ≡ a
  pub right : IsRight (Joins (graph_in p line.state.0)) line.lengths p.demands b
  pub differ : a ≢ b

-- the first such line
abbrev pub HoldsRightDiffers : Case → List CertLine → Finding → Type 0
HoldsRightDiffers p lines (RightDiffers i a b) =
    HoldsAt lines i (λ l. HasStaleRight p l.cut a b) × ((j : ℕ) (x y : ℕ) → j < i → HoldsAt lines j (λ l. HasStaleRight p l.cut x y) → ⊥)
HoldsRightDiffers p lines _ = ⊥

-- the price of module m of link e is more than its cost
abbrev pub IsOverpriced : List Link → ℕ → List CertificateLine → ℕ → ℕ → Type 0
IsOverpriced links den lines e m = HoldsAt links e (λ l. HoldsAt l.modules m (λ x. den * x.cost < price lines e * x.capacity))

-- the least link with such a module, and its first
abbrev pub HoldsPriceExceeded : List Link → ℕ → List CertificateLine → Finding → Type 0
HoldsPriceExceeded links den lines (PriceExceeded e m) = IsLeastPair (IsOverpriced links den lines) e.0 m
HoldsPriceExceeded links den lines _ = ⊥

-- a sum of the certificate is too large
abbrev pub HoldsCertificateWide : List Link → List CertificateLine → Finding → Type 0
HoldsCertificateWide links lines CertificateWide = (2 ^ 126 ≤ asked lines) ⊎ (2 ^ 126 ≤ given links lines)
HoldsCertificateWide links lines _ = ⊥

-- the raw value isn't the certificate's in lowest terms
abbrev pub HoldsRawDiffers : List Link → Plan → Finding → Type 0
HoldsRawDiffers links plan RawDiffers =
    IsLowest (raw_value links (lines_of_certificate plan.certificate)) plan.certificate.den plan.raw_num plan.raw_den → ⊥
HoldsRawDiffers links plan _ = ⊥

-- the bound isn't what the raw value rounds up to
abbrev pub HoldsBoundDiffers : List Link → Plan → Finding → Type 0
HoldsBoundDiffers links plan (BoundDiffers a b) =
    (plan.bound ≡ a) × IsBound links (raw_value links (lines_of_certificate plan.certificate)) plan.certificate.den b × (a ≢ b)
HoldsBoundDiffers links plan _ = ⊥
