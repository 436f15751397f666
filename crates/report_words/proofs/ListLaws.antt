-- Lists between parentheses: of a length, of few elements, and of elements with their numbers.
use Rattle.std.proofs.Common.{◌≡◌, ℕ, ◌+◌, ◌≤◌, ◌<◌, ◌==◌, true, false, cond, List, [], ◌∷◌, ◌++◌, length, All, Option, None, Some, refl, sym, ap, subst, ◌∙◌, arith, length-append, flat_map, eqb-true, eq-eqb}
use Rattle.text_kit.{specs.Terms.{ComeAfter, Item, Closing, Reading, ◌>>=◌, list_at, no_fault, of_length, Parenthesis, enclosed}, proofs.Beginnings.{AnyText, Starts}, proofs.Lemmas.{all_after, after_all, after_as, after_few, few_after, lawful_as, lawful_list, SpelledAfter, law_spelled, spelled_as, spelled_law, spelled_list}, proofs.Spelled.Lawful}
use Rattle.plan_report.specs.Terms.{numbered_from}
use Rattle.report_words.{specs.declared.fault.ReportKind.ReportKind, specs.declared.fault.ReportKind.TheVariants.Limit, specs.ReportWords.{has_room, opening_at}, proofs.Making.{law_made, made_law, made_then}, proofs.WordLaws.{few_so_far, opening_law, room_so_far}}

-- ---- lengths

pub length_is : {K X : Type 0} (n : ℕ) (kind : K) (xs : List X) → of_length n kind xs ≡ None → length xs ≡ n
length_is n kind xs e =
    elim (length xs == n) as (λ v. (length xs == n) ≡ v → cond v None (Some kind) ≡ None → length xs ≡ n) [
      | true ↦ λ s h. eqb-true (length xs) n s
      | false ↦ λ s h. absurd cc
    ] refl e

pub is_length : {K X : Type 0} (n : ℕ) (kind : K) (xs : List X) → length xs ≡ n → of_length n kind xs ≡ None
is_length n kind xs e = rw (eq-eqb (length xs) n e) refl

-- each element has room
pub rooms_few : {X : Type 0} (n : ℕ) (P : X → Type 0) (xs : List X) → ComeAfter (λ before x. (has_room n before ≡ true) × P x) [] xs → (length xs ≤ n) × All P xs
rooms_few n P xs all =
    let h = few_after n (λ before x. P x) [] xs (omega arith) (after_as _ _ [] xs (λ before x h. (few_so_far n before h.0, h.1)) all) in
    (h.0, after_all P [] xs h.1)

pub few_rooms : {X : Type 0} (n : ℕ) (P : X → Type 0) (xs : List X) → length xs ≤ n → All P xs → ComeAfter (λ before x. (has_room n before ≡ true) × P x) [] xs
few_rooms n P xs few all =
    after_as (λ before x. (length before < n) × P x) _ [] xs (λ before x h. (room_so_far n before h.0, h.1)) (after_few n (λ before x. P x) [] xs few (all_after P [] xs all))

-- at most n elements, up to the closing parenthesis
pub few_law : {X : Type 0} (n : ℕ) (one : List X → Reading ReportKind X) (items : X → List Item) (P : X → Type 0) → ((x : X) → Starts (items x)) → ((sofar : List X) → Lawful (one sofar) items (λ x. (has_room n sofar ≡ true) × P x) AnyText)
    → Lawful (list_at Parenthesis no_fault one []) (λ xs. flat_map items xs ++ Closing ∷ []) (λ xs. (length xs ≤ n) × All P xs) AnyText
few_law n one items P starts law =
    lawful_as (list_at Parenthesis no_fault one []) _ (λ xs. flat_map items xs ++ Closing ∷ []) _ (λ xs. (length xs ≤ n) × All P xs) AnyText
    (λ xs h. refl) (λ xs h. rooms_few n P xs h.1) (λ xs h. (refl, few_rooms n P xs h.0 h.1))
    (lawful_list Parenthesis no_fault one items (λ sofar x. (has_room n sofar ≡ true) × P x) starts law)

-- n elements between parentheses
pub exact_law : {X : Type 0} (n : ℕ) (one : List X → Reading ReportKind X) (items : X → List Item) (P : X → Type 0) → ((x : X) → Starts (items x)) → ((sofar : List X) → Lawful (one sofar) items (λ x. (has_room n sofar ≡ true) × P x) AnyText)
    → Lawful (opening_at >>= λ _. list_at Parenthesis (of_length n Limit) one []) (λ xs. enclosed (flat_map items xs)) (λ xs. (length xs ≡ n) × All P xs) AnyText
exact_law {X} n one items P starts law =
    law_made (opening_at >>= λ _. list_at Parenthesis (of_length n Limit) one []) (λ (q : Unit {0} × List X). q.1) _ _ (λ xs. enclosed (flat_map items xs)) (λ xs. (length xs ≡ n) × All P xs)
    (λ q h. (length_is n Limit q.1 h.1.0, (rooms_few n P q.1 h.1.1).1))
    (λ q h. refl)
    (λ xs h. record { parts = (tt, xs); right = (tt, (is_length n Limit xs h.0, few_rooms n P xs (omega (arith, h.0)) h.1)); gives = refl })
    (made_then _ _ _ _ _ _ _ _ opening_law (λ x h. made_law _ _ _ (lawful_list Parenthesis (of_length n Limit) one items (λ sofar x. (has_room n sofar ≡ true) × P x) starts law)))

-- ---- elements with their numbers

-- the items of elements, each by how many elements come before it
abbrev pub placed_items : {X : Type 0} → (ℕ → X → List Item) → ℕ → List X → List Item
placed_items items n [] = []
placed_items items n (x ∷ xs) = items n x ++ placed_items items (n + 1) xs

module _ {X : Type 0} (items : ℕ → X → List Item) (is : List X → X → Type 0) where
  abbrev Of : List X → X → List Item → Type 0
  Of before x ks = is before x × (ks ≡ items (length before) x)

  one_more : (sofar : List X) (x : X) → length (sofar ++ x ∷ []) ≡ length sofar + 1
  one_more sofar x = omega (arith, length-append sofar (x ∷ []))

  placed_parts : (sofar xs : List X) (js : List Item) → SpelledAfter Of sofar xs js → ComeAfter is sofar xs × (js ≡ placed_items items (length sofar) xs)
  placed_parts sofar [] js s = (tt, s)
  placed_parts sofar (x ∷ xs) js s =
      let h = placed_parts (sofar ++ x ∷ []) xs s.1 s.3 in
      let more : s.1 ≡ placed_items items (length sofar + 1) xs = h.1 ∙ ap (λ (k : ℕ). placed_items items k xs) (one_more sofar x) in
      ((s.2.0, h.0), s.4 ∙ (ap (λ (ks : List Item). ks ++ s.1) s.2.1 ∙ ap (λ (ks : List Item). items (length sofar) x ++ ks) more))

  parts_placed : (sofar xs : List X) → ComeAfter is sofar xs → SpelledAfter Of sofar xs (placed_items items (length sofar) xs)
  parts_placed sofar [] all = refl
  parts_placed sofar (x ∷ xs) all = (
    items (length sofar) x,
    placed_items items (length sofar + 1) xs,
    (all.0, refl),
    subst (λ (k : ℕ). SpelledAfter Of (sofar ++ x ∷ []) xs (placed_items items k xs)) (one_more sofar x) (parts_placed (sofar ++ x ∷ []) xs all.1),
    refl,
  )

  pub lawful_placed : {K : Type 0} (fault : List X → Option K) (one : List X → Reading K X) → ((n : ℕ) (x : X) → Starts (items n x)) → ((sofar : List X) → Lawful (one sofar) (items (length sofar)) (is sofar) AnyText)
      → Lawful (list_at Parenthesis fault one []) (λ xs. placed_items items 0 xs ++ Closing ∷ []) (λ xs. (fault xs ≡ None) × ComeAfter is [] xs) AnyText
  lawful_placed fault one starts law = law_spelled _ _ _ _ (spelled_as _ _ (λ xs js. ((fault xs ≡ None) × ComeAfter is [] xs) × (js ≡ placed_items items 0 xs ++ Closing ∷ [])) _
      (λ xs js s. let p = placed_parts [] xs s.1.0 s.1.1 in ((s.0, p.0), s.1.2 ∙ ap (λ (ks : List Item). ks ++ Closing ∷ []) p.1))
      (λ xs js s. (s.0.0, (placed_items items 0 xs, parts_placed [] xs s.0.1, s.1)))
      (spelled_list fault one Of (λ sofar x js s. subst Starts (sym s.1) (starts (length sofar) x)) (λ sofar. spelled_law (one sofar) (items (length sofar)) (is sofar) AnyText (law sofar))))

-- numbers that are counted from d
pub numbered_items : {X : Type 0} (g : ℕ → X → List Item) (f : ℕ × X → List Item) (d : ℕ) → ((k : ℕ) (x : X) → g k x ≡ f (k + d, x)) → (n m : ℕ) (xs : List X) → m ≡ n + d → placed_items g n xs ≡ flat_map f (numbered_from m xs)
numbered_items g f d same n m [] e = refl
numbered_items {X} g f d same n m (x ∷ xs) e =
    ap (λ (is : List Item). is ++ placed_items g (n + 1) xs) (same n x ∙ ap (λ (i : ℕ). f (i, x)) (sym e))
    ∙ ap (λ (js : List Item). f (m, x) ++ js) (numbered_items g f d same (n + 1) (m + 1) xs (omega (arith, e)))
