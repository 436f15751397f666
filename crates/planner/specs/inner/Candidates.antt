-- the bound that the best cut gives alone
use Rattle.std.specs.Prelude.{◌≡◌, ℕ, ◌-◌, ◌*◌, ◌^◌, ◌<◌, ◌⊎◌, List, [], ◌∷◌, All, Some, length, slice_get}
use Rattle.plan_terms.specs.Terms.{Link, CutLine, IsBound, IsLowest, fixed_along, IsBestOwn, IsMultiplier}
use Rattle.plan_types.specs.declared.certificate.Spot.{Spot}
use Rattle.metric_cut.{specs.Bounded.HaveBound, specs.declared.certificate.OwnCertificate.OwnCertificate}
use Rattle.plan_rounds.specs.declared.rounds.Worked.{Worked}
use Rattle.planner.specs.declared.own_bound.CertifiedBound.{CertifiedBound}

-- each of the rounds' cuts has an own bound and a spot
pub record HaveBounds (links : List Link) (w : Worked) : Type 0 where
  pub same : length w.spots ≡ length w.lines
  pub few : length w.lines < 2 ^ 32
  pub lengths : All (λ cut. HaveBound links cut.lengths) w.lines
  pub right : All (λ cut. cut.right < 2 ^ 84) w.lines

-- the bound of 0, with a certificate of no lines
pub record IsBoundOfNone (links : List Link) (b : CertifiedBound) : Type 0 where
  pub is : b ≡ record { certificate = record { den = 1; lines = [] }; raw = record { num = 0; den = 1 }; bound = 0 }
  pub rounded : IsBound links 0 1 0

-- the certificate of a cut alone
pub record IsOwnCertificate (links : List Link) (cut : CutLine) (own : OwnCertificate) : Type 0 where
  pub multiplier : IsMultiplier links cut.lengths own.multiplier.num own.multiplier.den
  pub raw : IsLowest (own.multiplier.num * (cut.right - fixed_along cut.lengths links)) own.multiplier.den own.raw.num own.raw.den
  pub rounded : IsBound links (own.multiplier.num * (cut.right - fixed_along cut.lengths links)) own.multiplier.den own.bound
  pub num : own.multiplier.num < 2 ^ 40
  pub den : own.multiplier.den < 2 ^ 72

-- the bound of a cut alone, as a certificate; the cut is left out where the raw value is 0
pub record IsBoundOfCut (links : List Link) (cut : CutLine) (spot : Spot) (b : CertifiedBound) : Type 0 where
  pub own : OwnCertificate
  pub certificate : IsOwnCertificate links cut own
  pub small : All (λ x. x < 2 ^ 32) cut.lengths
  pub is : ((own.raw.num ≡ 0) × IsBoundOfNone links b)
      ⊎ ((0 < own.raw.num) × (b ≡ record {
        certificate = record { den = own.multiplier.den; lines = record { num = own.multiplier.num; spot = spot; cut = cut } ∷ [] };
        raw = own.raw;
        bound = own.bound;
      }))

-- the bound of the first cut of greatest own bound
pub record IsBoundOfBest (links : List Link) (w : Worked) (k : ℕ) (b : CertifiedBound) : Type 0 where
  pub cut : CutLine
  pub at : slice_get w.lines k ≡ Some cut
  pub spot : Spot
  pub spot_at : slice_get w.spots k ≡ Some spot
  pub best : IsBestOwn links w.lines k
  pub of_cut : IsBoundOfCut links cut spot b

-- the bound of the best cut alone, or that of no cut, where there is none
abbrev pub IsBestBound : List Link → Worked → CertifiedBound → Type 0
IsBestBound links w b = ((w.lines ≡ []) × IsBoundOfNone links b) ⊎ ((k : ℕ) × IsBoundOfBest links w k b)
