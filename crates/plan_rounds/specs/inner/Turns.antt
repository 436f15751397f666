-- one turn of the rounds: the best certificate of the cuts, and what the states answer at its share
use Rattle.std.specs.Prelude.{◌≡◌, ℕ, ◌+◌, ◌-◌, ◌<◌, ◌≤◌, ◌⊎◌, ◌++◌, Bool, true, false, List, All, Option, None, Some, length, take}
use Rattle.plan_terms.specs.Terms.{Entry, Caps, CutLine, Case, IsCut}
use Rattle.module_prices.specs.declared.cheapest.UnitPair.{UnitPair}
use Rattle.plan_types.{specs.declared.certificate.Spot.Spot, specs.declared.quality.Cause.TheVariants.Cuts, specs.declared.quality.Quality.Quality, specs.declared.quality.Quality.TheVariants.Loose}
use Rattle.master_bound.specs.declared.answer.Best.{Best}
use Rattle.plan_law.specs.WorkedLists.{AreRounds, IsBeginning, IsRound, Round, after_rounds}
use Rattle.plan_rounds.{specs.WorkedRounds.{AreWorkedRounds, EndsBy, IsBestAt}, specs.inner.Sharing.IsQualityAt, specs.declared.candidates.Candidates.Candidates, specs.declared.rounds.Turn.Turn, specs.declared.rounds.Turn.TheVariants.{Further, Last}, specs.declared.rounds.Worked.Worked, specs.declared.sorted_answers.Answered.Answered}

-- the first cuts, as many as there is room for, have been added to the list with their spots
pub record AddsFirst (room : ℕ) (found old new : Candidates) : Type 0 where
  pub lines : new.lines ≡ old.lines ++ take room found.lines
  pub spots : new.spots ≡ old.spots ++ take room found.spots

-- the last turn, at a share for which no cut is added
abbrev pub EndsAt : Case → Caps → Best → Turn → Type 0
EndsAt p caps best turn = (quality : Quality) × (turn ≡ Last (Some best) quality) × IsQualityAt p caps best.share quality

-- What follows from the answers of the states: the end where there is no room for a cut that was found, a further round where none is
-- too wide and there is room, or, where no cut was found or there is room, the end at the share.
abbrev pub Judges : Case → ℕ → Caps → Answered → Best → Candidates → Candidates → Turn → Type 0
Judges p room caps a best old new turn =
    ((0 < length a.found.lines) × (room ≡ 0) × (new ≡ old) × (turn ≡ Last (Some best) (Loose Cuts)))
    ⊎ ((0 < length a.found.lines) × (0 < room) × AddsFirst room a.found old new × (turn ≡ Further best))
    ⊎ (((length a.found.lines ≡ 0) ⊎ (0 < room)) × (new ≡ old) × EndsAt p caps best turn)

module _ (p : Case) (pairs : List UnitPair) (room : ℕ) (before : Option Best) (old : List CutLine) where
  -- a round that finds cuts at the share of the best, no more than there is room for
  pub record IsFurther (new : List CutLine) (best : Best) : Type 0 where
    pub best_of : IsBestAt p pairs old best
    pub found : List CutLine
    pub lines : new ≡ old ++ found
    pub some : 0 < length found
    pub few : length found ≤ room
    pub round : IsRound p pairs old (record { share = best.share; cuts = found })

  -- a turn that adds cuts, or the last one, which leaves the cuts as they are
  abbrev pub IsTurnOf : List CutLine → Turn → Type 0
  IsTurnOf new (Further best) = IsFurther new best
  IsTurnOf new (Last best quality) = (new ≡ old) × EndsBy p pairs old (room ≡ 0) (λ b. b ≡ before) best quality

-- ---- where a certificate is too wide

-- rounds lead from a list of cuts to another, of no more than `most`
pub record ArePassed (p : Case) (pairs : List UnitPair) (most : ℕ) (old new : List CutLine) : Type 0 where
  pub rounds : List Round
  pub are_rounds : AreRounds p pairs old rounds
  pub whole : new ≡ after_rounds old rounds
  pub few : length new ≤ most

-- cuts and spots were added after those of before
pub record Extends (old new : Candidates) : Type 0 where
  pub more_lines : List CutLine
  pub more_spots : List Spot
  pub lines : new.lines ≡ old.lines ++ more_lines
  pub spots : new.spots ≡ old.spots ++ more_spots

-- so do they where the list has grown, each cut with its spot
pub record IsPast (p : Case) (pairs : List UnitPair) (most : ℕ) (old new : Candidates) : Type 0 where
  pub passed : ArePassed p pairs most old.lines new.lines
  pub extends : Extends old new

-- the first cuts that were found have been added to the list, or none has and the list is as it was
abbrev pub AddsFound : ℕ → Answered → Candidates → Candidates → Bool → Type 0
AddsFound room a old new true = AddsFirst room a.found old new × (0 < room) × (0 < length a.found.lines)
AddsFound room a old new false = new ≡ old

module _ (p : Case) (pairs : List UnitPair) where
  -- a round of at least one cut has been added to the list, or the list is as it was
  abbrev pub AddsRound : ℕ → Candidates → Candidates → Bool → Type 0
  AddsRound room old new true = (round : Round) × IsRound p pairs old.lines round × (new.lines ≡ old.lines ++ round.cuts) × (0 < length round.cuts)
      × (length round.cuts ≤ room) × Extends old new
  AddsRound room old new false = new ≡ old

  -- a turn that adds cuts, or a last one that isn't by evidence of the master program
  abbrev pub IsOpenTurn : ℕ → (mid new : List CutLine) → Turn → Type 0
  IsOpenTurn room mid new (Further best) = IsFurther p pairs room None mid new best
  IsOpenTurn room mid new (Last best quality) = (new ≡ mid) × EndsBy p pairs mid (room ≡ 0) (λ b. ⊥) best quality

  -- such a turn after rounds
  pub record IsLaterTurn (most : ℕ) (old new : List CutLine) (turn : Turn) : Type 0 where
    pub mid : List CutLine
    pub passed : ArePassed p pairs most old mid
    pub after : IsOpenTurn (most - length mid) mid new turn

  -- a turn at a certificate of the list, or one after rounds at least shares that are too wide
  abbrev pub IsTurnAfter : ℕ → Option Best → (old new : List CutLine) → Turn → Type 0
  IsTurnAfter most before old new turn = IsTurnOf p pairs (most - length old) before old new turn ⊎ IsLaterTurn most old new turn

-- the list with its spots, and how the rounds have ended
abbrev pub worked_of : Candidates → Option Best → Quality → Worked
worked_of c best quality = record { lines = c.lines; spots = c.spots; best = best; quality = quality }

-- from a beginning of any pool that leaves room for 4,096 cuts, the rounds of that pool
abbrev pub WorksOn : Case → List Entry → ℕ → List CutLine → Worked → Type 0
WorksOn p history most lines worked = (pool : List CutLine) → length pool + 4096 ≡ most → All (IsCut p) pool → IsBeginning p pool lines
    → ∥ AreWorkedRounds p history pool worked ∥₁
