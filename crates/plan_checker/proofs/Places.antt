-- least places at which something holds
use Rattle.std.proofs.Common.{◌≡◌, ℕ, ◌+◌, ◌<◌, ◌≤◌, List, Some, length, get_or, All, refl, sym, subst, ◌∙◌, arith, slice_get, ⊎_elim}
use Rattle.net_core.proofs.Library.{cases_eq, get_or_default, get_or_from_slice_get, slice_get_read, slice_get_within}
use Rattle.plan_checker.specs.Places.{HoldsAt}

module _ {X : Type 0} (xs : List X) (P : ℕ → X → Type 0) where
  -- what holds of an item holds at its place
  pub holds_here : (k : ℕ) (x : X) → k < length xs → x ≡ get_or xs k x → P k x → HoldsAt xs k (P k)
  holds_here k x lt is p = record { item = x; at = slice_get_read xs (length xs) k x refl lt is; holds = p }

  -- and the other way round
  pub held_here : (k : ℕ) (x : X) → x ≡ get_or xs k x → HoldsAt xs k (P k) → P k x
  held_here k x is h =
      let same : get_or xs k x ≡ h.item = get_or_from_slice_get xs k h.item x h.at in
      subst (P k) (sym (is ∙ same)) h.holds

  pub held_within : (k : ℕ) → HoldsAt xs k (P k) → k < length xs
  held_within k h = slice_get_within xs k h.item h.at

  -- the places before one, and that one
  pub none_more : (k : ℕ) (x : X) → x ≡ get_or xs k x → ((j : ℕ) → j < k → HoldsAt xs j (P j) → ⊥) → (P k x → ⊥) → (j : ℕ) → j < k + 1 → HoldsAt xs j (P j) → ⊥
  none_more k x is before here j lt h = ⊎_elim
      (λ same. here (held_here k x is (subst (λ i. HoldsAt xs i (P i)) same h)))
      (λ other. before j (omega (arith, lt, other)) h)
      (cases_eq j k)

  -- all places
  pub none_at_all : (k : ℕ) → length xs ≤ k → ((j : ℕ) → j < k → HoldsAt xs j (P j) → ⊥) → (j : ℕ) → HoldsAt xs j (P j) → ⊥
  none_at_all k le before j h = before j (omega (arith, le, held_within j h)) h

  -- what holds at the places before one, and at that one
  pub each_more : (k : ℕ) (x : X) → k < length xs → x ≡ get_or xs k x → ((j : ℕ) → j < k → HoldsAt xs j (P j)) → P k x → (j : ℕ) → j < k + 1 → HoldsAt xs j (P j)
  each_more k x inside is before here j lt = ⊎_elim
      (λ same. subst (λ i. HoldsAt xs i (P i)) (sym same) (holds_here k x inside is here))
      (λ other. before j (omega (arith, lt, other)))
      (cases_eq j k)

  -- what holds of an item holds at its place, where the item is read with a default for those that aren't there
  pub holds_read : (k : ℕ) (d : X) → k < length xs → P k (get_or xs k d) → HoldsAt xs k (P k)
  holds_read k d lt = holds_here k (get_or xs k d) lt (get_or_default xs k d (get_or xs k d) lt)

  pub held_read : (k : ℕ) (d : X) → k < length xs → HoldsAt xs k (P k) → P k (get_or xs k d)
  held_read k d lt = held_here k (get_or xs k d) (get_or_default xs k d (get_or xs k d) lt)

  pub none_read : (k : ℕ) (d : X) → k < length xs → ((j : ℕ) → j < k → HoldsAt xs j (P j) → ⊥) → (P k (get_or xs k d) → ⊥) → (j : ℕ) → j < k + 1 → HoldsAt xs j (P j) → ⊥
  none_read k d lt = none_more k (get_or xs k d) (get_or_default xs k d (get_or xs k d) lt)

  pub each_read : (k : ℕ) (d : X) → k < length xs → ((j : ℕ) → j < k → HoldsAt xs j (P j)) → P k (get_or xs k d) → (j : ℕ) → j < k + 1 → HoldsAt xs j (P j)
  each_read k d lt = each_more k (get_or xs k d) lt (get_or_default xs k d (get_or xs k d) lt)

  pub held_at : (k : ℕ) (x : X) → slice_get xs k ≡ Some x → HoldsAt xs k (P k) → P k x
  held_at k x at h = let same : h.item ≡ x = cc (at, h.at) in subst (P k) same h.holds

-- the places of the groups before one, and of that one
module _ (P : ℕ → ℕ → Type 0) where
  pub groups_more : (s : ℕ) → ((t j : ℕ) → t < s → P t j → ⊥) → ((j : ℕ) → P s j → ⊥) → (t j : ℕ) → t < s + 1 → P t j → ⊥
  groups_more s before here t j lt h = ⊎_elim
      (λ same. here j (subst (λ i. P i j) same h))
      (λ other. before t j (omega (arith, lt, other)) h)
      (cases_eq t s)

pub all_held : {X : Type 0} (xs : List X) (P : X → Type 0) (k : ℕ) → length xs ≤ k → ((j : ℕ) → j < k → HoldsAt xs j P) → All P xs
all_held xs P k le each j d lt =
    let h = each j (omega (arith, le, lt)) in
    subst P (sym (get_or_from_slice_get xs j h.item d h.at)) h.holds
