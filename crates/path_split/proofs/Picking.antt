-- what is left of the legs with a test
use Rattle.std.proofs.Common.{◌≡◌, ◌≢◌, ℕ, zero, suc, ◌+◌, ◌-◌, ◌<◌, ◌≤◌, Bool, true, false, cond, List, [], ◌∷◌, length, get_or, set, eqb, eqb-true, ⊎_elim, refl, ap, subst, arith, ne_eqb, eq-eqb}
use Rattle.net_core.proofs.Library.{cases_Bool, cases_eq, sum_by-cons}
use Rattle.path_split.{specs.declared.leg.Leg.Leg, specs.inner.Legs.{due, leaves, leg_at, leg_sum, nums, picked}}

pub cond_most : (b : Bool) (n : ℕ) → cond b n 0 ≤ n
cond_most true n = omega arith
cond_most false n = omega arith

cond_parts : (b : Bool) (n num : ℕ) → num ≤ n → cond b (n - num) 0 + cond b num 0 ≡ cond b n 0
cond_parts true n num le = omega (arith, le)
cond_parts false n num le = refl

cond_sum : (b : Bool) (m n : ℕ) → cond b (m + n) 0 ≡ cond b m 0 + cond b n 0
cond_sum true m n = refl
cond_sum false m n = refl

-- the need that is due in two parts
pub due_sum : (at m n x : ℕ) → due at (m + n) x ≡ due at m x + due at n x
due_sum at m n x = cond_sum (eqb at x) m n

pub due_here : (at need : ℕ) → due at need at ≡ need
due_here at need = ap (λ b. cond b need 0) (eq-eqb at at refl)

pub due_elsewhere : (at need x : ℕ) → at ≢ x → due at need x ≡ 0
due_elsewhere at need x other = ap (λ b. cond b need 0) (ne_eqb at x other)

-- nothing is left where no leg has the test
pub picked_none : (p : Leg → Bool) (legs : List Leg) (lefts : List ℕ) → ((k : ℕ) → k < length legs → p (leg_at legs k) ≡ false) → picked p legs lefts ≡ 0
picked_none p [] lefts none = refl
picked_none p (g ∷ gs) [] none = refl
picked_none p (g ∷ gs) (n ∷ ns) none =
    omega (arith, ap (λ b. cond b n 0) (none 0 (omega arith)), picked_none p gs ns (λ k lt. none (suc k) (omega (arith, lt))))

-- where something is left, some leg with the test has it
pub picked_some : (p : Leg → Bool) (legs : List Leg) (lefts : List ℕ) → 0 < picked p legs lefts → (k : ℕ) × (k < length legs) × (p (leg_at legs k) ≡ true) × (0 < get_or lefts k 0)
picked_some p [] lefts some = absurd (omega (arith, some))
picked_some p (g ∷ gs) [] some = absurd (omega (arith, some))
picked_some p (g ∷ gs) (zero ∷ ns) some =
    let r = picked_some p gs ns (omega (arith, some, cond_most (p g) 0)) in
    (suc r.0, omega (arith, r.1), r.2, r.3)
picked_some p (g ∷ gs) (suc n ∷ ns) some = ⊎_elim
    (λ t. (0, omega arith, t, omega arith))
    (λ f. let r = picked_some p gs ns (omega (arith, some, ap (λ b. cond b (suc n) 0) f)) in
    (suc r.0, omega (arith, r.1), r.2, r.3))
    (cases_Bool (p g))

pub leaving_some : (legs : List Leg) (lefts : List ℕ) (x : ℕ) → 0 < picked (leaves x) legs lefts → (k : ℕ) × (k < length legs) × ((leg_at legs k).from.0 ≡ x) × (0 < get_or lefts k 0)
leaving_some legs lefts x some =
    let r = picked_some (leaves x) legs lefts some in
    (r.0, r.1, eqb-true (leg_at legs r.0).from.0 x r.2, r.3)

pub picked_positive : (p : Leg → Bool) (legs : List Leg) (lefts : List ℕ) (k : ℕ) → k < length legs → p (leg_at legs k) ≡ true → 0 < get_or lefts k 0 → 0 < picked p legs lefts
picked_positive p [] lefts k lt t left = absurd (omega (arith, lt))
picked_positive p (g ∷ gs) [] k lt t left = absurd (omega (arith, left))
picked_positive p (g ∷ gs) (n ∷ ns) zero lt t left = omega (arith, ap (λ b. cond b n 0) t, left)
picked_positive p (g ∷ gs) (n ∷ ns) (suc k) lt t left = omega (arith, picked_positive p gs ns k (omega (arith, lt)) t left)

-- an amount is taken off one leg
pub picked_set : (p : Leg → Bool) (legs : List Leg) (lefts : List ℕ) (k num : ℕ) → k < length lefts → length lefts ≡ length legs → num ≤ get_or lefts k 0 → picked p legs (set lefts k (get_or lefts k 0 - num)) + cond (p (leg_at legs k)) num 0 ≡ picked p legs lefts
picked_set p [] [] k num lt same le = absurd (omega (arith, lt))
picked_set p (g ∷ gs) (n ∷ ns) zero num lt same le = omega (arith, cond_parts (p g) n num le)
picked_set p (g ∷ gs) (n ∷ ns) (suc k) num lt same le = omega (arith, picked_set p gs ns k num (omega (arith, lt)) (omega (arith, same)) le)
picked_set p [] (n ∷ ns) k num lt same le = absurd (omega (arith, same))
picked_set p (g ∷ gs) [] k num lt same le = absurd (omega (arith, lt))

-- where nothing was taken, the whole is left
pub picked_whole : (p : Leg → Bool) (legs : List Leg) → picked p legs (nums legs) ≡ leg_sum p legs
picked_whole p [] = refl
picked_whole p (g ∷ gs) = omega (arith, picked_whole p gs, sum_by-cons (λ h. cond (p h) h.num 0) g gs)

-- the next leg with flow left is after an empty one
pub past_empty : (lefts : List ℕ) (k j : ℕ) → k ≤ j → get_or lefts k 0 ≡ 0 → 0 < get_or lefts j 0 → k + 1 ≤ j
past_empty lefts k j le empty left = ⊎_elim
    (λ same. absurd (let here : 0 < get_or lefts k 0 = subst (λ i. 0 < get_or lefts i 0) same left in omega (arith, empty, here)))
    (λ other. omega (arith, le, other))
    (cases_eq j k)
