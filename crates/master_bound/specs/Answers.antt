-- what is answered of given cuts: their best certificate with a share that costs as much, or evidence
use Rattle.std.{specs.Prelude.{◌≡◌, ◌≢◌, ℕ, ◌*◌, ◌^◌, ◌≤◌, ◌<◌, List, [], All, AllPairs, Contains, Result, Ok, Err, get_or, length, map}, specs.Int.◌∣◌}
use Rattle.module_prices.specs.declared.cheapest.UnitPair.{UnitPair}
use Rattle.plan_terms.specs.Terms.{Evidence, Route, Master, MasterColumn, Link, CutLine, Case, IsBound, IsLowest, CertificateLine, IsCertificate, IsCut, raw_value, IsOwnBound}
use Rattle.simplex_core.{specs.declared.solver.SimplexFault.SimplexFault, specs.declared.solver.SimplexFault.TheVariants.{Wide as WideBasis, NoMemory as NoRoom}}
use Rattle.master_law.specs.Terms.{IsLeastShare, IsMasterEvidence, AreUnitPairs, share_cost}
use Rattle.master_bound.{specs.declared.answer.Best.Best, specs.declared.answer.MasterFault.MasterFault, specs.declared.answer.MasterFault.TheVariants.{Wide, NoMemory}, specs.declared.answer.Multiplier.Multiplier}

-- the cut at a place of the list
abbrev pub cut_at : List CutLine → ℕ → CutLine
cut_at cuts k = get_or cuts k (record { state = record { 0 = 0 }; lengths = []; right = 0 })

-- the lines of a certificate: the multipliers' cuts, with their numerators
abbrev pub lines_of : List CutLine → List Multiplier → List CertificateLine
lines_of cuts multipliers = map (λ m. record { cut = cut_at cuts m.cut; num = m.num }) multipliers

-- positive multipliers of different cuts of the list, at most 256
pub record AreMultipliers (cuts : List CutLine) (multipliers : List Multiplier) : Type 0 where
  pub few : length multipliers ≤ 256
  pub listed : All (λ m. m.cut < length cuts) multipliers
  pub positive : All (λ m. 0 < m.num) multipliers
  pub different : AllPairs (λ a b. a.cut ≢ b.cut) multipliers

-- The best certificate of the cuts, and a share: a least share of the cuts, so that no certificate of theirs has a greater raw value
-- than it costs, and this one has just that.
pub record IsBestOf (links : List Link) (cuts : List CutLine) (best : Best) : Type 0 where
  pub multipliers : AreMultipliers cuts best.multipliers
  pub certificate : (p : Case) → p.links ≡ links → All (IsCut p) cuts → IsCertificate p best.den (lines_of cuts best.multipliers)
  pub lowest : (d : ℕ) → d ∣ best.den → All (λ m. d ∣ m.num) best.multipliers → d ≡ 1
  pub raw : IsLowest (raw_value links (lines_of cuts best.multipliers)) best.den best.raw_num best.raw_den
  pub empty : best.raw_num ≡ 0 → best.multipliers ≡ []
  pub pairs : List UnitPair
  pub units : AreUnitPairs links pairs
  pub least : IsLeastShare links pairs cuts best.share
  pub cost : share_cost pairs best.share * best.raw_den ≡ best.raw_num * best.share.scale
  pub scale_limit : best.share.scale < 2 ^ 62
  pub units_limit : All (λ u. u < 2 ^ 62) best.share.units
  pub above : (cut : CutLine) (own bound : ℕ) → Contains cuts cut → IsOwnBound links cut.lengths cut.right own → IsBound links best.raw_num best.raw_den bound
      → own ≤ bound

-- evidence of the master program of the cuts
abbrev pub IsEvidenceOf : List Link → List CutLine → Evidence → Type 0
IsEvidenceOf links cuts (Route state caps basis kind) = ⊥
IsEvidenceOf links cuts (Master basis kind) = (pairs : List UnitPair) × AreUnitPairs links pairs × IsMasterEvidence links pairs cuts basis kind

abbrev pub IsMasterAnswer : List Link → List CutLine → Result Best MasterFault → Type 0
IsMasterAnswer links cuts (Ok best) = IsBestOf links cuts best
IsMasterAnswer links cuts (Err (Wide evidence)) = IsEvidenceOf links cuts evidence
IsMasterAnswer links cuts (Err NoMemory) = Unit {0}

-- what a fault of the simplex method is as an answer
abbrev pub fault_of : SimplexFault MasterColumn → MasterFault
fault_of (WideBasis basis kind) = Wide (Master basis kind)
fault_of NoRoom = NoMemory
