-- what is left of legs and of a need, while one path after another is taken off
use Rattle.std.specs.Prelude.{◌≡◌, ℕ, zero, suc, ◌+◌, ◌<◌, ◌≤◌, ◌⊎◌, ◌++◌, List, [], ◌∷◌, All, Any, drop, length, slice_index}
use Rattle.plan_terms.specs.Terms.{IsPath}
use Rattle.path_split.{specs.Splits.path_load, specs.declared.arc.PathFlow.PathFlow, specs.declared.leg.Leg.Leg, specs.inner.Legs.{arrives, due, is_on, leaves, leg_at, nums, picked}, specs.inner.Trails.{AreEnough, less, trail_links}}

-- some leg is on link e and leads from x to y
pub record HasLeg (legs : List Leg) (e x y : ℕ) : Type 0 where
  pub place : ℕ
  pub within : place < length legs
  pub link : (leg_at legs place).link.0 ≡ e
  pub from : (leg_at legs place).from.0 ≡ x
  pub to : (leg_at legs place).to.0 ≡ y

-- how many legs have flow left
abbrev pub live : List ℕ → ℕ
live [] = 0
live (zero ∷ ns) = live ns
live (suc n ∷ ns) = suc (live ns)

-- What is left of the legs is balanced for what is left of the need, and the flows so far are no more than what was taken.
pub record Remains (legs : List Leg) (from to : ℕ) (lefts : List ℕ) (left : ℕ) (flows : List PathFlow) : Type 0 where
  pub long : length lefts ≡ length legs
  pub balanced : (x : ℕ) → picked (leaves x) legs lefts + due to left x ≡ picked (arrives x) legs lefts + due from left x
  pub paths : All (λ f. IsPath (HasLeg legs) from to f.path) flows
  pub positive : All (λ f. 0 < f.num) flows
  pub within : (e : ℕ) → path_load flows e + picked (is_on e) legs lefts ≤ picked (is_on e) legs (nums legs)
  pub few : length flows ≤ length legs
  pub room : 0 < left → length flows + live lefts ≤ length legs

-- an amount is taken off different legs that have as much left
pub record TakesOff (old trail : List ℕ) (num : ℕ) (new : List ℕ) : Type 0 where
  pub positive : 0 < num
  pub enough : AreEnough old trail num
  pub taken : new ≡ less old trail num

-- a flow along the legs at these places takes what is left of the need, or empties one of them
pub record TakesPath (legs : List Leg) (trail old new : List ℕ) (left rest : ℕ) (before after : List PathFlow) : Type 0 where
  pub num : ℕ
  pub takes : TakesOff old trail num new
  pub rest_is : rest + num ≡ left
  pub flows : after ≡ before ++ record { path = trail_links legs trail; num = num } ∷ []
  pub ends : (num ≡ left) ⊎ Any (λ k. num ≡ slice_index old k) trail

-- the circle at the end of a trail that is back at a node is taken off, which empties one of its legs
pub record TakesCircle (legs : List Leg) (trail : List ℕ) (at : ℕ) (old new : List ℕ) : Type 0 where
  pub start : ℕ
  pub within : start < length trail
  pub from : (leg_at legs (slice_index trail start)).from.0 ≡ at
  pub num : ℕ
  pub takes : TakesOff old (drop start trail) num new
  pub ends : Any (λ k. num ≡ slice_index old k) (drop start trail)

-- a walk's path is taken off where it is at `to`, and else its circle
abbrev pub Moves : List Leg → List ℕ → ℕ → ℕ → List ℕ → List ℕ → ℕ → ℕ → List PathFlow → List PathFlow → Type 0
Moves legs trail at to old new left rest before after =
    ((at ≡ to) × TakesPath legs trail old new left rest before after)
    ⊎ (TakesCircle legs trail at old new × (rest ≡ left) × (after ≡ before))
