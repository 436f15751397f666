-- what a plan of a snapshot is put together of: the greater bound, and the counts that are chosen
use Rattle.std.specs.Prelude.{◌≡◌, ℕ, ◌*◌, ◌^◌, ◌<◌, ◌≤◌, ◌⊎◌, List, Option, None, Some, All, get_or, length, map}
use Rattle.plan_terms.specs.Terms.{CutLine, Demand, Entry, Link, Case, AreWithinLimits, HasShortLengths, IsBound, IsFallback}
use Rattle.plan_report.specs.Terms.{CertLine, Local, Plan, Quality}
use Rattle.module_choice.specs.declared.fallback.Fallback.{Fallback}
use Rattle.plan_rounds.{specs.Terms.{cut_at, Best, Multiplier, AreWorkedRounds}, specs.declared.rounds.Worked.Worked}
use Rattle.share_covers.{specs.Choices.{IsChosen, IsQualityOfShare}, specs.declared.choice.Chosen.Chosen}
use Rattle.planner.{specs.declared.own_bound.CertifiedBound.CertifiedBound, specs.declared.plan.Standing.Standing, specs.inner.Candidates.IsBestBound}

-- ---- the bound

-- the line of a multiplier: the cut at its place, with its spot
abbrev pub line_at : Worked → Multiplier → CertLine
line_at w m = record { num = m.num; spot = get_or w.spots m.cut Local; cut = cut_at w.lines m.cut }

-- a best certificate with its raw value, and a bound
abbrev pub bound_made : Worked → Best → ℕ → CertifiedBound
bound_made w best bound = record {
  certificate = record { den = best.den; lines = map (line_at w) best.multipliers };
  raw = record { num = best.raw_num; den = best.raw_den };
  bound = bound;
}

-- a best certificate with its raw value, and the bound of that raw value
pub record IsBoundOfMaster (links : List Link) (w : Worked) (best : Best) (b : CertifiedBound) : Type 0 where
  pub bound : ℕ
  pub is : b ≡ bound_made w best bound
  pub rounded : IsBound links best.raw_num best.raw_den bound

-- the bound of a best certificate, or that of the best cut alone where its raw value is greater
abbrev pub IsGreaterBound : List Link → Worked → CertifiedBound → Option Best → CertifiedBound → Type 0
IsGreaterBound links w own None b = b ≡ own
IsGreaterBound links w own (Some best) b =
    (IsBoundOfMaster links w best b × (own.raw.num * best.raw_den ≤ best.raw_num * own.raw.den))
    ⊎ ((b ≡ own) × (best.raw_num * own.raw.den < own.raw.num * best.raw_den))

-- the greater of the two bounds of the rounds' cuts
pub record IsBetterBound (links : List Link) (w : Worked) (b : CertifiedBound) : Type 0 where
  pub own : CertifiedBound
  pub of_own : IsBestBound links w own
  pub greater : IsGreaterBound links w own w.best b

-- a raw value within its limits, and multipliers of cuts of the list
pub record AreMultipliersOf (w : Worked) (best : Best) : Type 0 where
  pub num : best.raw_num < 2 ^ 126
  pub positive : 0 < best.raw_den
  pub den : best.raw_den < 2 ^ 72
  pub listed : All (λ m. m.cut < length w.lines) best.multipliers

-- ---- the counts

-- a share with a number of units for each link; a tight quality is one of this share
pub record IsShareFor (p : Case) (quality : Quality) (best : Best) : Type 0 where
  pub scale : 0 < best.share.scale
  pub units : length best.share.units ≡ length p.links
  pub of_share : IsQualityOfShare p best.share quality

-- what is chosen for the share of a best certificate, and the fallback plan where there is none
abbrev pub IsChosenFor : Case → Option Best → Fallback → Quality → Chosen → Type 0
IsChosenFor p None fallback quality chosen =
    chosen ≡ record { counts = fallback.counts; routings = fallback.routings; cost = fallback.cost; quality = quality }
IsChosenFor p (Some best) fallback quality chosen = IsChosen p best.share fallback quality chosen

-- what is chosen, beside some fallback plan
pub record IsChosenAfter (p : Case) (best : Option Best) (quality : Quality) (chosen : Chosen) : Type 0 where
  pub fallback : Fallback
  pub is_fallback : IsFallback p fallback.counts fallback.routings fallback.cost
  pub narrow : AreWithinLimits p.links fallback.counts
  pub is_chosen : IsChosenFor p best fallback quality chosen

-- ---- the whole

-- the counts that are chosen after rounds, and the greater bound of their cuts
pub record AreAfterRounds (p : Case) (w : Worked) (chosen : Chosen) (b : CertifiedBound) : Type 0 where
  pub short : All HasShortLengths w.lines
  pub better : IsBetterBound p.links w b
  pub counts : IsChosenAfter p w.best w.quality chosen

-- the counts that are chosen after rounds on a pool's cuts, and the greater bound of the rounds' cuts
pub record AreWorkedOut (p : Case) (history : List Entry) (pool : List CutLine) (chosen : Chosen) (b : CertifiedBound) : Type 0 where
  pub worked : Worked
  pub rounds : AreWorkedRounds p history pool worked
  pub after : AreAfterRounds p worked chosen b

-- the plan of counts that were chosen and a certified bound
abbrev pub plan_made : Standing → List Demand → Chosen → CertifiedBound → Plan
plan_made at demands chosen b = record {
  version = at.version;
  position = at.position;
  demands = demands;
  counts = chosen.counts;
  cost = chosen.cost;
  routings = chosen.routings;
  certificate = b.certificate;
  raw_num = b.raw.num;
  raw_den = b.raw.den;
  bound = b.bound;
  quality = chosen.quality;
}
