-- arcs with both of their nodes, and what is left of their flow
use Rattle.std.{specs.Prelude.{◌≡◌, ◌≢◌, ℕ, ◌+◌, ◌<◌, ◌≤◌, ◌==◌, Bool, if◌then◌else◌, List, [], ◌∷◌, length, map, slice_get, slice_index, slice_index_or, sum_by}, specs.Option.option_map_or}
use Rattle.plan_terms.specs.Terms.{Link}
use Rattle.path_split.{specs.declared.arc.Arc.Arc, specs.declared.leg.Leg.Leg, specs.Balances.other_end}

-- the node that the arc enters
abbrev pub far_node : List Link → Arc → ℕ
far_node links a = option_map_or (λ l. other_end l a.from.0) (slice_get links a.link.0) 0

-- the arc with both of its nodes
abbrev pub leg_of : List Link → Arc → Leg
leg_of links a = record { link = a.link; from = a.from; to = record { 0 = far_node links a }; num = a.num }

-- the leg leaves node x
abbrev pub leaves : ℕ → Leg → Bool
leaves x g = g.from.0 == x

-- the leg arrives at node x
abbrev pub arrives : ℕ → Leg → Bool
arrives x g = g.to.0 == x

-- the leg is on link e
abbrev pub is_on : ℕ → Leg → Bool
is_on e g = g.link.0 == e

-- what is left of the legs with a test sums to
abbrev pub picked : (Leg → Bool) → List Leg → List ℕ → ℕ
picked p [] lefts = 0
picked p (g ∷ gs) [] = 0
picked p (g ∷ gs) (n ∷ ns) = (if p g then n else 0) + picked p gs ns

-- all of the legs' flow
abbrev pub nums : List Leg → List ℕ
nums legs = map (λ g. g.num) legs

-- what the whole legs with a test sum to
abbrev pub leg_sum : (Leg → Bool) → List Leg → ℕ
leg_sum p legs = sum_by (λ g. (if p g then g.num else 0)) legs

-- what is read past the last leg
abbrev pub no_leg : Leg
no_leg = record { link = record { 0 = 0 }; from = record { 0 = 0 }; to = record { 0 = 0 }; num = 0 }

-- the leg at a place
abbrev pub leg_at : List Leg → ℕ → Leg
leg_at legs k = slice_index_or legs k no_leg

-- the need, at the one node where it is due
abbrev pub due : ℕ → ℕ → ℕ → ℕ
due at need x = if at == x then need else 0

-- node x is balanced over whole legs
abbrev pub IsEven : List Leg → ℕ → ℕ → ℕ → ℕ → Type 0
IsEven legs from to need x = leg_sum (leaves x) legs + due to need x ≡ leg_sum (arrives x) legs + due from need x

-- node x is the first of n nodes that isn't balanced over whole legs
pub record IsFirstUneven (n : ℕ) (legs : List Leg) (from to need x : ℕ) : Type 0 where
  pub node : x < n
  pub differs : IsEven legs from to need x → ⊥
  pub before : (y : ℕ) → y < x → IsEven legs from to need y

-- place x is the first at which the lists differ
pub record IsFirstOther (xs ys : List ℕ) (x : ℕ) : Type 0 where
  pub place : x < length xs
  pub differs : slice_index xs x ≢ slice_index ys x
  pub before : (y : ℕ) → y < x → slice_index xs y ≡ slice_index ys y

-- the place where the legs start that leave node x or a later one
pub record IsStartPlace (legs : List Leg) (x s : ℕ) : Type 0 where
  pub before : (k : ℕ) → k < s → (leg_at legs k).from.0 < x
  pub after : (k : ℕ) → s ≤ k → k < length legs → x ≤ (leg_at legs k).from.0

-- A forward star: legs sorted by the node that they leave, and for each node a place at or after which its legs with flow left are.
pub record IsStar (legs : List Leg) (lefts places : List ℕ) : Type 0 where
  pub sorted : (i j : ℕ) → i ≤ j → j < length legs → (leg_at legs i).from.0 ≤ (leg_at legs j).from.0
  pub after : (x k : ℕ) → x < length places → slice_index places x ≤ k → k < length legs → x ≤ (leg_at legs k).from.0
  pub live : (k : ℕ) → k < length legs → 0 < slice_index lefts k → slice_index places (leg_at legs k).from.0 ≤ k
