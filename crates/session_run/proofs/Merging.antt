-- the own entries of two passes that have met
use Rattle.std.proofs.Common.{◌≡◌, ◌∙◌, ℕ, ◌+◌, ◌<◌, ◌⊎◌, inl, inr, ⊎_elim, List, [], ◌∷◌, ◌++◌, All, drop, flat_map, length, ltb, take, true, refl, sym, ap, arith, ltb-false, length-append}
use Rattle.net_core.proofs.Library.{cond_both, All-append, All-tail, flat_map-append, front_all}
use Rattle.turn_lock.{specs.Terms.{are_places, merged, with_place, items_at}, proofs.Places.first_place}

front_none : {Y : Type 0} (xs ys : List Y) → xs ++ ys ≡ [] → xs ≡ []
front_none [] ys none = refl
front_none (x ∷ xs) ys none = let count = ap length none in absurd (omega (arith, count))

back_none : {Y : Type 0} (xs ys : List Y) → xs ++ ys ≡ [] → ys ≡ []
back_none [] ys none = none
back_none (x ∷ xs) ys none = let count = ap length none in absurd (omega (arith, count))

back_all : {Y : Type 0} (P : Y → Type 0) (xs ys : List Y) → All P (xs ++ ys) → All P ys
back_all P [] ys all = all
back_all P (x ∷ xs) ys all = back_all P xs ys (All-tail P x (xs ++ ys) all)

-- the items at places, in the order of the places
module _ {Y : Type 0} (g : ℕ → List Y) where
  -- the items at a place come before all items at these places
  abbrev Clear : ℕ → List ℕ → Type 0
  Clear q [] = Unit {0}
  Clear q (x ∷ xs) = ((q < x) ⊎ (g x ≡ [])) × Clear q xs

  with_none : (q : ℕ) (xs : List ℕ) → g q ≡ [] → flat_map g (with_place q xs) ≡ flat_map g xs
  with_none q [] none = ap (λ ys. ys ++ []) none
  with_none q (x ∷ xs) none =
      cond_both (ltb q x) (q ∷ x ∷ xs) (x ∷ with_place q xs) (λ l. flat_map g l ≡ flat_map g (x ∷ xs))
      (λ _. ap (λ ys. ys ++ flat_map g (x ∷ xs)) none)
      (λ _. ap (λ ys. g x ++ ys) (with_none q xs none))

  with_clear : (q : ℕ) (xs : List ℕ) → Clear q xs → flat_map g (with_place q xs) ≡ g q ++ flat_map g xs
  with_clear q [] clear = refl
  with_clear q (x ∷ xs) clear =
      cond_both (ltb q x) (q ∷ x ∷ xs) (x ∷ with_place q xs) (λ l. flat_map g l ≡ g q ++ (g x ++ flat_map g xs))
      (λ _. refl)
      (λ e.
      let none : g x ≡ [] = ⊎_elim (λ l. absurd (omega (arith, l, ltb-false q x e))) (λ r. r) clear.0 in
      ap (λ ys. ys ++ flat_map g (with_place q xs)) none ∙ (with_clear q xs clear.1 ∙ ap (λ ys. g q ++ (ys ++ flat_map g xs)) (sym none)))

  clear_with : (q y : ℕ) (xs : List ℕ) → q < y → Clear q xs → Clear q (with_place y xs)
  clear_with q y [] lt clear = (inl lt, tt)
  clear_with q y (x ∷ xs) lt clear =
      cond_both (ltb y x) (y ∷ x ∷ xs) (x ∷ with_place y xs) (Clear q) (λ _. (inl lt, clear)) (λ _. (clear.0, clear_with q y xs lt clear.1))

  clear_none : (q : ℕ) (ps : List ℕ) → flat_map g ps ≡ [] → Clear q ps
  clear_none q [] none = tt
  clear_none q (p ∷ ps) none = (inr (front_none (g p) (flat_map g ps) none), clear_none q ps (back_none (g p) (flat_map g ps) none))

  clear_merged : (q low high : ℕ) (ps qs : List ℕ) → q < low → flat_map g ps ≡ [] → are_places low high qs ≡ true → Clear q (merged ps qs)
  clear_merged q low high ps [] lt none placed = clear_none q ps none
  clear_merged q low high ps (r ∷ rs) lt none placed =
      let parts = first_place low high r rs placed in
      clear_with q r (merged ps rs) (omega (arith, lt, parts.0)) (clear_merged q (r + 1) high ps rs (omega (arith, lt, parts.0)) none parts.2)

  merged_first : (ps qs : List ℕ) → flat_map g qs ≡ [] → flat_map g (merged ps qs) ≡ flat_map g ps
  merged_first ps [] none = refl
  merged_first ps (q ∷ qs) none =
      with_none q (merged ps qs) (front_none (g q) (flat_map g qs) none) ∙ merged_first ps qs (back_none (g q) (flat_map g qs) none)

  merged_second : (low high : ℕ) (ps qs : List ℕ) → are_places low high qs ≡ true → flat_map g ps ≡ [] → flat_map g (merged ps qs) ≡ flat_map g qs
  merged_second low high ps [] placed none = none
  merged_second low high ps (q ∷ qs) placed none =
      let parts = first_place low high q qs placed in
      with_clear q (merged ps qs) (clear_merged q (q + 1) high ps qs (omega arith) none parts.2)
      ∙ ap (λ ys. g q ++ ys) (merged_second (q + 1) high ps qs parts.2 none)

  with_length : (q : ℕ) (xs : List ℕ) → length (flat_map g (with_place q xs)) ≡ length (g q) + length (flat_map g xs)
  with_length q [] = length-append (g q) []
  with_length q (x ∷ xs) =
      cond_both (ltb q x) (q ∷ x ∷ xs) (x ∷ with_place q xs) (λ l. length (flat_map g l) ≡ length (g q) + length (flat_map g (x ∷ xs)))
      (λ _. length-append (g q) (flat_map g (x ∷ xs)))
      (λ _. omega (arith, with_length q xs, length-append (g x) (flat_map g (with_place q xs)), length-append (g x) (flat_map g xs)))

  merged_length : (ps qs : List ℕ) → length (flat_map g (merged ps qs)) ≡ length (flat_map g ps) + length (flat_map g qs)
  merged_length ps [] = omega arith
  merged_length ps (q ∷ qs) = omega (arith, with_length q (merged ps qs), merged_length ps qs, length-append (g q) (flat_map g qs))

  module _ (P : Y → Type 0) where
    with_all : (q : ℕ) (xs : List ℕ) → All P (g q) → All P (flat_map g xs) → All P (flat_map g (with_place q xs))
    with_all q [] one all = All-append P (g q) [] one all
    with_all q (x ∷ xs) one all =
        cond_both (ltb q x) (q ∷ x ∷ xs) (x ∷ with_place q xs) (λ l. All P (flat_map g l))
        (λ _. All-append P (g q) (flat_map g (x ∷ xs)) one all)
        (λ _. All-append P (g x) (flat_map g (with_place q xs)) (front_all P (g x) (flat_map g xs) all) (with_all q xs one (back_all P (g x) (flat_map g xs) all)))

    merged_all : (ps qs : List ℕ) → All P (flat_map g ps) → All P (flat_map g qs) → All P (flat_map g (merged ps qs))
    merged_all ps [] first second = first
    merged_all ps (q ∷ qs) first second =
        with_all q (merged ps qs) (front_all P (g q) (flat_map g qs) second) (merged_all ps qs first (back_all P (g q) (flat_map g qs) second))

-- ---- items of a history

module _ {X : Type 0} (h : List X) where
  abbrev at : ℕ → List X
  at p = take 1 (drop p h)

  through : {Y : Type 0} (f : X → List Y) (ps : List ℕ) → flat_map f (items_at h ps) ≡ flat_map (λ p. flat_map f (at p)) ps
  through f [] = refl
  through f (p ∷ ps) = flat_map-append f (at p) (items_at h ps) ∙ ap (λ ys. flat_map f (at p) ++ ys) (through f ps)

  module _ (ps qs : List ℕ) where
    -- where the one's items give nothing, those of both give what the other's give, in their order
    pub met_first : {Y : Type 0} (f : X → List Y) → flat_map f (items_at h qs) ≡ [] → flat_map f (items_at h (merged ps qs)) ≡ flat_map f (items_at h ps)
    met_first f none = through f (merged ps qs) ∙ (merged_first (λ p. flat_map f (at p)) ps qs (sym (through f qs) ∙ none) ∙ sym (through f ps))

    pub met_second : {Y : Type 0} (f : X → List Y) → are_places 0 (length h) qs ≡ true → flat_map f (items_at h ps) ≡ [] → flat_map f (items_at h (merged ps qs)) ≡ flat_map f (items_at h qs)
    met_second f placed none =
        through f (merged ps qs) ∙ (merged_second (λ p. flat_map f (at p)) 0 (length h) ps qs placed (sym (through f ps) ∙ none) ∙ sym (through f qs))

    pub met_count : length (items_at h (merged ps qs)) ≡ length (items_at h ps) + length (items_at h qs)
    met_count = merged_length at ps qs

    pub met_given : {Y : Type 0} (f : X → List Y) → length (flat_map f (items_at h (merged ps qs))) ≡ length (flat_map f (items_at h ps)) + length (flat_map f (items_at h qs))
    met_given f =
        omega (arith, merged_length (λ p. flat_map f (at p)) ps qs, ap length (through f (merged ps qs)), ap length (through f ps), ap length (through f qs))

    pub met_all : (P : X → Type 0) → All P (items_at h ps) → All P (items_at h qs) → All P (items_at h (merged ps qs))
    met_all P first second = merged_all at P ps qs first second
