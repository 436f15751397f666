-- what the best certificate of some cuts rests on
use Rattle.std.specs.Prelude.{◌≡◌, ℕ, ℤ, ◌*◌, ◌^◌, ◌≤◌, ◌<◌, List, All, Contains, pos, length, slice_index}
use Rattle.module_prices.specs.declared.cheapest.UnitPair.{UnitPair}
use Rattle.plan_terms.specs.Terms.{MasterColumn, Link, CutLine, Case, IsModule, IsNetwork, IsBound, CertificateLine, IsCertificate, IsCut, asked, given, raw_value, IsOwnBound, Violates}
use Rattle.plan_types.specs.declared.quality.Share.{Share}
use Rattle.simplex_law.specs.Terms.{ColumnOf, IsOptimum}
use Rattle.master_law.{specs.BasisLines.AreLinesOf, specs.LeastShares.IsLeastShare, specs.MasterPrograms.{master_bound, IsMasterColumn}, specs.UnitPairs.{AreUnitPairs, share_caps, share_cost}}

-- there is one list of the unit pairs of a network's links
abbrev pub UnitPairsAreOne : Type 0
UnitPairsAreOne = (nodes : List (List ℕ)) (links : List Link) (pairs others : List UnitPair) → IsNetwork nodes links → AreUnitPairs links pairs
    → AreUnitPairs links others → pairs ≡ others

-- a least share violates none of its cuts
abbrev pub LeastShareViolatesNone : Type 0
LeastShareViolatesNone = (links : List Link) (pairs : List UnitPair) (cuts : List CutLine) (share : Share) (cut : CutLine)
    → length pairs ≡ length links
    → length cut.lengths ≡ length links
    → IsLeastShare links pairs cuts share
    → Contains cuts cut
    → Violates (share_caps links pairs share) cut
    → ⊥

-- the values of an optimum, over den, and the lines that hold its cuts
pub record AreOptimalLines (links : List Link) (pairs : List UnitPair) (cuts : List CutLine) (den : ℕ) (lines : List CertificateLine) (duals : ℕ → ℤ)
    (duals_den : ℤ) : Type 0 where
  pub basis : ℕ → ColumnOf MasterColumn
  pub amounts : ℕ → ℕ
  pub optimum : IsOptimum (length links) (master_bound pairs) (IsMasterColumn links pairs cuts) basis (λ j. pos (amounts j)) (pos den) duals duals_den
  pub of_basis : AreLinesOf links (length links) basis amounts lines

-- the lines of an optimum are a valid certificate, where they are cuts of the case and within the limits
abbrev pub BasisLinesCertify : Type 0
BasisLinesCertify = (p : Case) (pairs : List UnitPair) (cuts : List CutLine) (den : ℕ) (lines : List CertificateLine) (duals : ℕ → ℤ) (duals_den : ℤ)
    → All (λ l. All IsModule l.modules) p.links
    → AreUnitPairs p.links pairs
    → AreOptimalLines p.links pairs cuts den lines duals duals_den
    → All (λ l. IsCut p l.cut) lines
    → den < 2 ^ 72
    → All (λ l. l.num < 2 ^ 62) lines
    → asked lines < 2 ^ 126
    → given p.links lines < 2 ^ 126
    → IsCertificate p den lines

-- the raw value of the lines of an optimum is what the share of its objective row costs, and is not below 0
abbrev pub RawValueIsShareCost : Type 0
RawValueIsShareCost = (links : List Link) (pairs : List UnitPair) (cuts : List CutLine) (den : ℕ) (lines : List CertificateLine) (duals : ℕ → ℤ) (share : Share)
    → length pairs ≡ length links
    → AreOptimalLines links pairs cuts den lines duals (pos share.scale)
    → ((e : ℕ) → e < length links → duals e ≡ pos (slice_index share.units e))
    → (given links lines ≤ asked lines) × (raw_value links lines * share.scale ≡ share_cost pairs share * den)

-- the bound of the lines of an optimum is not below the own bound of a cut of the list
abbrev pub BoundRises : Type 0
BoundRises = (links : List Link) (pairs : List UnitPair) (cuts : List CutLine) (cut : CutLine) (den : ℕ) (lines : List CertificateLine) (duals : ℕ → ℤ)
    (duals_den : ℤ) (bound own : ℕ)
    → All (λ l. All IsModule l.modules) links
    → AreUnitPairs links pairs
    → AreOptimalLines links pairs cuts den lines duals duals_den
    → Contains cuts cut
    → IsBound links (raw_value links lines) den bound
    → IsOwnBound links cut.lengths cut.right own
    → own ≤ bound

-- no certificate over the cuts of a list has a greater raw value than a least share of them costs
abbrev pub NoCertificateIsGreater : Type 0
NoCertificateIsGreater = (p : Case) (pairs : List UnitPair) (cuts : List CutLine) (share : Share) (den : ℕ) (lines : List CertificateLine)
    → All (λ l. All IsModule l.modules) p.links
    → AreUnitPairs p.links pairs
    → IsLeastShare p.links pairs cuts share
    → IsCertificate p den lines
    → All (λ l. Contains cuts l.cut) lines
    → raw_value p.links lines * share.scale ≤ share_cost pairs share * den
