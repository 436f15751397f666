-- what the places of a tree show: the least of the plan's cost and the values of the open leaves
use Rattle.std.proofs.Common.{◌≡◌, ◌∙◌, ℕ, zero, suc, ◌≤◌, ◌<◌, ◌⊎◌, inl, inr, ⊎_elim, min, true, List, [], ◌∷◌, Some, slice_get, refl, sym, subst, arith}
use Rattle.net_core.proofs.Library.{cases_lt}
use Rattle.tree_boxes.specs.declared.twigs.Twig.{Twig}
use Rattle.tree_search.{specs.inner.Showing.{shown_more, shown_with}, specs.declared.tree.Shown.Shown}
use Rattle.tree_boxes.specs.declared.twigs.Twig.TheVariants as twig

-- an open place has this value
abbrev pub IsOpenOf : Twig → ℕ → Type 0
IsOpenOf (twig.Settled node) value = ⊥
IsOpenOf (twig.Stuck v evidence) value = v.value ≡ value
IsOpenOf (twig.Open o) value = o.best.value ≡ value

-- place i is open, and has this value
pub record HasOpenPlace (twigs : List Twig) (i value : ℕ) : Type 0 where
  pub of : Twig
  pub at : slice_get twigs i ≡ Some of
  pub is : IsOpenOf of value

pub record SomeOpen (twigs : List Twig) : Type 0 where
  pub i : ℕ
  pub value : ℕ
  pub place : HasOpenPlace twigs i value

later : (t : Twig) (twigs : List Twig) (i value : ℕ) → HasOpenPlace twigs i value → HasOpenPlace (t ∷ twigs) (suc i) value
later t twigs i value h = record { of = h.of; at = h.at; is = h.is }

first : (t : Twig) (twigs : List Twig) (value : ℕ) → IsOpenOf t value → HasOpenPlace (t ∷ twigs) 0 value
first t twigs value is = record { of = t; at = refl; is = is }

-- the least falls
pub least_falls : (shown : Shown) (twigs : List Twig) → (shown_more shown twigs).least ≤ shown.least
least_falls shown [] = omega arith
least_falls shown (twig.Settled node ∷ ts) = least_falls shown ts
least_falls shown (twig.Stuck v evidence ∷ ts) = let rest = least_falls (shown_with shown (twig.Stuck v evidence)) ts in omega (arith, rest)
least_falls shown (twig.Open o ∷ ts) = let rest = least_falls (shown_with shown (twig.Open o)) ts in omega (arith, rest)

-- what is open stays so
pub stays_open : (shown : Shown) (twigs : List Twig) → shown.unsettled ≡ true → (shown_more shown twigs).unsettled ≡ true
stays_open shown [] is = is
stays_open shown (twig.Settled node ∷ ts) is = stays_open shown ts is
stays_open shown (twig.Stuck v evidence ∷ ts) is = stays_open (shown_with shown (twig.Stuck v evidence)) ts refl
stays_open shown (twig.Open o ∷ ts) is = stays_open (shown_with shown (twig.Open o)) ts refl

-- the least is at most each open place's value, and something is open then
pub at_most_each : (shown : Shown) (twigs : List Twig) (i value : ℕ) → HasOpenPlace twigs i value → ((shown_more shown twigs).least ≤ value) × ((shown_more shown twigs).unsettled ≡ true)
at_most_each shown [] i value h = absurd (let at = h.at in cc at)
at_most_each shown (twig.Settled node ∷ ts) zero value h =
    let same : twig.Settled node ≡ h.of = let at = h.at in cc at in
    absurd (subst (λ (t : Twig). IsOpenOf t value) (sym same) h.is)
at_most_each shown (twig.Stuck v evidence ∷ ts) zero value h =
    let same : twig.Stuck v evidence ≡ h.of = let at = h.at in cc at in
    let is : v.value ≡ value = subst (λ (t : Twig). IsOpenOf t value) (sym same) h.is in
    let rest = least_falls (shown_with shown (twig.Stuck v evidence)) ts in
    (omega (arith, rest, is), stays_open (shown_with shown (twig.Stuck v evidence)) ts refl)
at_most_each shown (twig.Open o ∷ ts) zero value h =
    let same : twig.Open o ≡ h.of = let at = h.at in cc at in
    let is : o.best.value ≡ value = subst (λ (t : Twig). IsOpenOf t value) (sym same) h.is in
    let rest = least_falls (shown_with shown (twig.Open o)) ts in
    (omega (arith, rest, is), stays_open (shown_with shown (twig.Open o)) ts refl)
at_most_each shown (t ∷ ts) (suc i) value h = at_most_each (shown_with shown t) ts i value (record { of = h.of; at = h.at; is = h.is })

-- where something is open, some place is
pub open_somewhere : (shown : Shown) (twigs : List Twig) → (shown_more shown twigs).unsettled ≡ true → (shown.unsettled ≡ true) ⊎ SomeOpen twigs
open_somewhere shown [] is = inl is
open_somewhere shown (twig.Settled node ∷ ts) is =
    ⊎_elim (λ was. inl was) (λ (s : SomeOpen ts). inr (record { i = suc s.i; value = s.value; place = later (twig.Settled node) ts s.i s.value s.place })) (open_somewhere shown ts is)
open_somewhere shown (twig.Stuck v evidence ∷ ts) is = inr (record { i = 0; value = v.value; place = first (twig.Stuck v evidence) ts v.value refl })
open_somewhere shown (twig.Open o ∷ ts) is = inr (record { i = 0; value = o.best.value; place = first (twig.Open o) ts o.best.value refl })

min_either : (a b : ℕ) → (min a b ≡ a) ⊎ (min a b ≡ b)
min_either a b = ⊎_elim (λ (lt : a < b). inl (omega (arith, lt))) (λ (le : b ≤ a). inr (omega (arith, le))) (cases_lt a b)

-- the least is the one so far, or the value of an open place
pub least_reached : (shown : Shown) (twigs : List Twig) → ((shown_more shown twigs).least ≡ shown.least) ⊎ ((i : ℕ) × HasOpenPlace twigs i (shown_more shown twigs).least)
least_reached shown [] = inl refl
least_reached shown (twig.Settled node ∷ ts) =
    ⊎_elim (λ was. inl was) (λ h. inr (suc h.0, later (twig.Settled node) ts h.0 (shown_more shown ts).least h.1)) (least_reached shown ts)
least_reached shown (twig.Stuck v evidence ∷ ts) =
    let next = shown_with shown (twig.Stuck v evidence) in
    ⊎_elim
    (λ (was : (shown_more next ts).least ≡ min shown.least v.value).
    ⊎_elim
    (λ (a : min shown.least v.value ≡ shown.least). inl (was ∙ a))
    (λ (b : min shown.least v.value ≡ v.value). inr (0, first (twig.Stuck v evidence) ts (shown_more next ts).least (sym (was ∙ b))))
    (min_either shown.least v.value))
    (λ h. inr (suc h.0, later (twig.Stuck v evidence) ts h.0 (shown_more next ts).least h.1))
    (least_reached next ts)
least_reached shown (twig.Open o ∷ ts) =
    let next = shown_with shown (twig.Open o) in
    ⊎_elim
    (λ (was : (shown_more next ts).least ≡ min shown.least o.best.value).
    ⊎_elim
    (λ (a : min shown.least o.best.value ≡ shown.least). inl (was ∙ a))
    (λ (b : min shown.least o.best.value ≡ o.best.value). inr (0, first (twig.Open o) ts (shown_more next ts).least (sym (was ∙ b))))
    (min_either shown.least o.best.value))
    (λ h. inr (suc h.0, later (twig.Open o) ts h.0 (shown_more next ts).least h.1))
    (least_reached next ts)
