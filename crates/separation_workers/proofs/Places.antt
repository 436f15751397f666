-- the items at places of a history
use Rattle.std.{proofs.Common.{◌≡◌, ◌∙◌, ℕ, zero, suc, ◌+◌, ◌<◌, ◌≤◌, List, [], ◌∷◌, ◌++◌, drop, take, length, true, inl, inr, refl, sym, ap, subst, arith, append_assoc, length-append}, proofs.lemmas.List.Concat.flat_map-append}
use Rattle.net_core.proofs.Library.{range_with_len, drop-append-le, front_rest}
use Rattle.turn_lock.{specs.Terms.{are_places, items_at}, proofs.Places.first_place}
use Rattle.separator.specs.Separators.{IsPartOf}

module _ {I : Type 0} where
  -- ---- parts of a list

  none_part : (xs : List I) → IsPartOf [] xs
  none_part [] = tt
  none_part (x ∷ xs) = tt

  part_after_one : (xs ys : List I) (y : I) → IsPartOf xs ys → IsPartOf xs (y ∷ ys)
  part_after_one [] ys y part = tt
  part_after_one (x ∷ xs) ys y part = inr part

  part_of_rest : (xs ys : List I) (k : ℕ) → IsPartOf xs (drop k ys) → IsPartOf xs ys
  part_of_rest xs ys zero part = part
  part_of_rest xs [] (suc k) part = part
  part_of_rest xs (y ∷ ys) (suc k) part = part_after_one xs ys y (part_of_rest xs ys k part)

  part_earlier : (xs ys : List I) (low k : ℕ) → low ≤ k → IsPartOf xs (drop k ys) → IsPartOf xs (drop low ys)
  part_earlier xs ys zero k le part = part_of_rest xs ys k part
  part_earlier xs ys (suc low) zero le part = absurd (omega (arith, le))
  part_earlier xs [] (suc low) (suc k) le part = part
  part_earlier xs (y ∷ ys) (suc low) (suc k) le part = part_earlier xs ys low k (omega (arith, le)) part

  part_self : (xs : List I) → IsPartOf xs xs
  part_self [] = tt
  part_self (x ∷ xs) = inl (refl, part_self xs)

  -- what a list ends with is a part of it
  pub part_end : (front rest : List I) → IsPartOf rest (front ++ rest)
  part_end [] rest = part_self rest
  part_end (x ∷ front) rest = part_after_one rest (front ++ rest) x (part_end front rest)

  -- ---- items at places

  -- a list from one of its items on
  from_item : (xs : List I) (k : ℕ) → k < length xs → (x : I) × (drop k xs ≡ x ∷ drop (suc k) xs)
  from_item [] k lt = absurd (omega (arith, lt))
  from_item (x ∷ xs) zero lt = (x, refl)
  from_item (x ∷ xs) (suc k) lt =
      let found = from_item xs k (omega (arith, lt)) in (found.0, found.1)

  item_front : (history more : List I) (p : ℕ) → p < length history → take 1 (drop p (history ++ more)) ≡ take 1 (drop p history)
  item_front history more p lt =
      let found = from_item history p lt in
      ap (take 1) (drop-append-le p history more (omega (arith, lt)) ∙ ap (λ xs. xs ++ more) found.1) ∙ sym (ap (take 1) found.1)

  -- a history that grows keeps the items at the places that it had
  pub items_front : (history more : List I) (low : ℕ) (places : List ℕ) → are_places low (length history) places ≡ true → items_at (history ++ more) places ≡ items_at history places
  items_front history more low [] placed = refl
  items_front history more low (p ∷ ps) placed =
      let parts = first_place low (length history) p ps placed in
      ap (λ xs. xs ++ items_at (history ++ more) ps) (item_front history more p parts.1)
      ∙ ap (λ xs. take 1 (drop p history) ++ xs) (items_front history more (p + 1) ps parts.2)

  -- the items at ascending places are a part of the history
  items_from : (history : List I) (low : ℕ) (places : List ℕ) → are_places low (length history) places ≡ true → IsPartOf (items_at history places) (drop low history)
  items_from history low [] placed = none_part (drop low history)
  items_from history low (p ∷ ps) placed =
      let parts = first_place low (length history) p ps placed in
      let found = from_item history p parts.1 in
      let next : p + 1 ≡ suc p = omega arith in
      let rest : IsPartOf (items_at history ps) (drop (suc p) history) = subst (λ k. IsPartOf (items_at history ps) (drop k history)) next (items_from history (p + 1) ps parts.2) in
      let items : take 1 (drop p history) ++ items_at history ps ≡ found.0 ∷ items_at history ps = ap (λ xs. take 1 xs ++ items_at history ps) found.1 in
      let all : IsPartOf (found.0 ∷ items_at history ps) (found.0 ∷ drop (suc p) history) = inl (refl, rest) in
      part_earlier (items_at history (p ∷ ps)) history low p parts.0
      (subst (λ xs. IsPartOf xs (drop p history)) (sym items) (subst (IsPartOf (found.0 ∷ items_at history ps)) (sym found.1) all))

  pub items_among : (history : List I) (places : List ℕ) → are_places 0 (length history) places ≡ true → IsPartOf (items_at history places) history
  items_among history places placed = items_from history 0 places placed

  -- the items after a history are at the places after it
  pub items_added : (history more : List I) → items_at (history ++ more) (range_with_len (length history) (length more)) ≡ more
  items_added history [] = refl
  items_added history (x ∷ more) =
      let one : take 1 (drop (length history) (history ++ x ∷ more)) ≡ x ∷ [] = ap (take 1) (front_rest (history ++ x ∷ more) history (x ∷ more) refl) in
      let same : (history ++ x ∷ []) ++ more ≡ history ++ x ∷ more = append_assoc history (x ∷ []) more in
      let longer : length (history ++ x ∷ []) ≡ length history + 1 = length-append history (x ∷ []) in
      let rest : items_at (history ++ x ∷ more) (range_with_len (length history + 1) (length more)) ≡ more =
      subst (λ es. items_at es (range_with_len (length history + 1) (length more)) ≡ more) same
      (subst (λ n. items_at ((history ++ x ∷ []) ++ more) (range_with_len n (length more)) ≡ more) longer (items_added (history ++ x ∷ []) more)) in
      ap (λ xs. xs ++ items_at (history ++ x ∷ more) (range_with_len (length history + 1) (length more))) one ∙ ap (λ xs. x ∷ xs) rest

  -- a pass whose own items are those that it had, and those that a turn adds to the history that it found
  pub items_after : (seen rest more : List I) (places : List ℕ) → are_places 0 (length seen) places ≡ true
      → items_at ((seen ++ rest) ++ more) (places ++ range_with_len (length (seen ++ rest)) (length more)) ≡ items_at seen places ++ more
  items_after seen rest more places placed =
      let left = (seen ++ rest) ++ more in
      let same : seen ++ (rest ++ more) ≡ left = sym (append_assoc seen rest more) in
      let had : items_at left places ≡ items_at seen places =
      subst (λ es. items_at es places ≡ items_at seen places) same (items_front seen (rest ++ more) 0 places placed) in
      flat_map-append (λ p. take 1 (drop p left)) places (range_with_len (length (seen ++ rest)) (length more))
      ∙ (ap (λ xs. xs ++ items_at left (range_with_len (length (seen ++ rest)) (length more))) had
      ∙ ap (λ xs. items_at seen places ++ xs) (items_added (seen ++ rest) more))
