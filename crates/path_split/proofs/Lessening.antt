-- what is left when an amount is taken off different legs
use Rattle.std.proofs.Common.{◌≡◌, ◌≢◌, ℕ, zero, suc, ◌+◌, ◌-◌, ◌<◌, ◌≤◌, ◌⊎◌, inl, inr, Bool, cond, List, [], ◌∷◌, length, get_or, set, ⊎_elim, refl, sym, subst, ◌∙◌, arith, length-set, get_or-set_same, get_or-set_other}
use Rattle.net_core.proofs.Library.{cases_eq, AllByRecursion}
use Rattle.plan_terms.specs.Terms.{AreDifferent}
use Rattle.path_split.{specs.declared.leg.Leg.Leg, specs.inner.Legs.{leg_at, picked}, specs.inner.Trails.{AreEnough, less}, specs.inner.Remains.live, proofs.Picking.picked_set}

-- each of these places has the amount left
abbrev pub EachHas : List ℕ → ℕ → List ℕ → Type 0
EachHas lefts num ks = AllByRecursion (λ k. (k < length lefts) × (num ≤ get_or lefts k 0)) ks

-- what is taken off the legs with a test
abbrev pub weight : (Leg → Bool) → List Leg → ℕ → List ℕ → ℕ
weight p legs num [] = 0
weight p legs num (k ∷ ks) = cond (p (leg_at legs k)) num 0 + weight p legs num ks

-- what is taken off another place leaves as much here
pub each_after : (lefts : List ℕ) (num k v : ℕ) (ks : List ℕ) → AllByRecursion (λ j. k ≢ j) ks → EachHas lefts num ks → EachHas (set lefts k v) num ks
each_after lefts num k v [] other each = tt
each_after lefts num k v (j ∷ ks) other each = (
  (omega (arith, each.0.0, length-set lefts k v), omega (arith, each.0.1, get_or-set_other lefts k j v 0 (λ q. other.0 (sym q)))),
  each_after lefts num k v ks other.1 each.1,
)

pub less_length : (lefts : List ℕ) (num : ℕ) (ks : List ℕ) → length (less lefts ks num) ≡ length lefts
less_length lefts num [] = refl
less_length lefts num (k ∷ ks) = less_length (set lefts k (get_or lefts k 0 - num)) num ks ∙ length-set lefts k (get_or lefts k 0 - num)

set_lower : (lefts : List ℕ) (num k j : ℕ) → k < length lefts → get_or (set lefts k (get_or lefts k 0 - num)) j 0 ≤ get_or lefts j 0
set_lower lefts num k j lt = ⊎_elim
    (λ same. subst (λ i. get_or (set lefts k (get_or lefts k 0 - num)) i 0 ≤ get_or lefts i 0) (sym same) (omega (arith, get_or-set_same lefts k (get_or lefts k 0 - num) 0 lt)))
    (λ other. omega (arith, get_or-set_other lefts k j (get_or lefts k 0 - num) 0 other))
    (cases_eq j k)

pub less_lower : (lefts : List ℕ) (num : ℕ) (ks : List ℕ) → EachHas lefts num ks → AreDifferent ks → (j : ℕ) → get_or (less lefts ks num) j 0 ≤ get_or lefts j 0
less_lower lefts num [] each different j = omega arith
less_lower lefts num (k ∷ ks) each different j =
    let v : ℕ = get_or lefts k 0 - num in
    omega (arith, set_lower lefts num k j each.0.0, less_lower (set lefts k v) num ks (each_after lefts num k v ks different.0 each.1) different.1 j)

-- what is left, and what was taken, is what there was
pub picked_less : (p : Leg → Bool) (legs : List Leg) (lefts : List ℕ) (num : ℕ) (ks : List ℕ) → length lefts ≡ length legs → EachHas lefts num ks → AreDifferent ks → picked p legs (less lefts ks num) + weight p legs num ks ≡ picked p legs lefts
picked_less p legs lefts num [] same each different = omega arith
picked_less p legs lefts num (k ∷ ks) same each different =
    let v : ℕ = get_or lefts k 0 - num in
    let rest = picked_less p legs (set lefts k v) num ks (length-set lefts k v ∙ same) (each_after lefts num k v ks different.0 each.1) different.1 in
    omega (arith, rest, picked_set p legs lefts k num each.0.0 same each.0.1)

live_set : (ns : List ℕ) (k v : ℕ) → v ≤ get_or ns k 0 → live (set ns k v) ≤ live ns
live_set [] k v le = omega arith
live_set (zero ∷ ns) zero zero le = omega arith
live_set (zero ∷ ns) zero (suc v) le = absurd (omega (arith, le))
live_set (suc n ∷ ns) zero zero le = omega arith
live_set (suc n ∷ ns) zero (suc v) le = omega arith
live_set (zero ∷ ns) (suc k) v le = live_set ns k v le
live_set (suc n ∷ ns) (suc k) v le = omega (arith, live_set ns k v le)

live_emptied : (ns : List ℕ) (k : ℕ) → 0 < get_or ns k 0 → live (set ns k 0) < live ns
live_emptied [] k left = absurd (omega (arith, left))
live_emptied (zero ∷ ns) zero left = absurd (omega (arith, left))
live_emptied (suc n ∷ ns) zero left = omega arith
live_emptied (zero ∷ ns) (suc k) left = live_emptied ns k left
live_emptied (suc n ∷ ns) (suc k) left = omega (arith, live_emptied ns k left)

pub live_positive : (ns : List ℕ) (k : ℕ) → 0 < get_or ns k 0 → 0 < live ns
live_positive ns k left = omega (arith, live_emptied ns k left)

pub live_few : (ns : List ℕ) → live ns ≤ length ns
live_few [] = omega arith
live_few (zero ∷ ns) = omega (arith, live_few ns)
live_few (suc n ∷ ns) = omega (arith, live_few ns)

pub live_less : (lefts : List ℕ) (num : ℕ) (ks : List ℕ) → live (less lefts ks num) ≤ live lefts
live_less lefts num [] = omega arith
live_less lefts num (k ∷ ks) =
    let v : ℕ = get_or lefts k 0 - num in
    omega (arith, live_less (set lefts k v) num ks, live_set lefts k v (omega arith))

-- one of these places has exactly the amount left
abbrev pub OneHas : List ℕ → ℕ → List ℕ → Type 0
OneHas lefts num [] = ⊥
OneHas lefts num (k ∷ ks) = (num ≡ get_or lefts k 0) ⊎ OneHas lefts num ks

pub one_has : (lefts : List ℕ) (num : ℕ) (ks : List ℕ) (i d : ℕ) → i < length ks → num ≡ get_or lefts (get_or ks i d) 0 → OneHas lefts num ks
one_has lefts num [] i d lt is = absurd (omega (arith, lt))
one_has lefts num (k ∷ ks) zero d lt is = inl is
one_has lefts num (k ∷ ks) (suc i) d lt is = inr (one_has lefts num ks i d (omega (arith, lt)) is)

one_after : (lefts : List ℕ) (num k v : ℕ) (ks : List ℕ) → AllByRecursion (λ j. k ≢ j) ks → OneHas lefts num ks → OneHas (set lefts k v) num ks
one_after lefts num k v [] other one = one
one_after lefts num k v (j ∷ ks) other (inl is) = inl (omega (arith, is, get_or-set_other lefts k j v 0 (λ q. other.0 (sym q))))
one_after lefts num k v (j ∷ ks) other (inr one) = inr (one_after lefts num k v ks other.1 one)

-- that one is emptied
pub live_falls : (lefts : List ℕ) (num : ℕ) (ks : List ℕ) → 0 < num → AreDifferent ks → OneHas lefts num ks → live (less lefts ks num) < live lefts
live_falls lefts num [] positive different one = absurd one
live_falls lefts num (k ∷ ks) positive different (inl is) =
    let v : ℕ = get_or lefts k 0 - num in
    let none : v ≡ 0 = omega (arith, is) in
    let emptied : live (set lefts k v) < live lefts = subst (λ n. live (set lefts k n) < live lefts) (sym none) (live_emptied lefts k (omega (arith, is, positive))) in
    omega (arith, emptied, live_less (set lefts k v) num ks)
live_falls lefts num (k ∷ ks) positive different (inr one) =
    let v : ℕ = get_or lefts k 0 - num in
    omega (arith, live_falls (set lefts k v) num ks positive different.1 (one_after lefts num k v ks different.0 one), live_set lefts k v (omega arith))

-- one place after another
pub enough_step : (lefts : List ℕ) (num k : ℕ) (ks rest : List ℕ) → ks ≡ k ∷ rest → AreEnough lefts ks num → AreEnough (set lefts k (get_or lefts k 0 - num)) rest num
enough_step lefts num k ks rest is enough =
    let now = subst (λ js. AreEnough lefts js num) is enough in
    record { each = each_after lefts num k (get_or lefts k 0 - num) rest now.different.0 now.each.1; different = now.different.1 }
