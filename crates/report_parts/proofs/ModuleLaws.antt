-- The readings of modules take exactly their texts.
use Rattle.std.proofs.Common.{◌≡◌, ℕ, suc, ◌+◌, ◌*◌, ◌^◌, ◌<◌, ◌≤◌, ◌&&◌, nat_lt, List, [], ◌∷◌, ◌++◌, length, All, Option, None, Some, Result, Ok, Err, refl, sym, ap, subst, ◌∙◌, arith, append-nil, append_assoc, length-append, codes, flat_map, slice_get, zip, lt-ltb, ltb-true}
use Rattle.net_core.proofs.Library.{and_parts, All-cons, All-nil, All-head, All-tail, sum_by-cons}
use Rattle.plan_terms.specs.Terms.{Link, Module, AreCounts, AreWithinLimits, capacities, modules_capacity}
use Rattle.snd_tokens.specs.Terms.{Text, WordAt, OpenAt, CloseAt, EndAt}
use Rattle.text_kit.{specs.Terms.{Closing, ComeAfter, Item, Verbatim, Whole, of_length, Parenthesis, word_at, section}, proofs.Beginnings.{AnyText, Starts}, proofs.Lemmas.{lawful_as, lawful_list, lawful_word}, proofs.Spelled.Lawful}
use Rattle.plan_report.specs.Terms.{modules_items}
use Rattle.report_words.{specs.declared.fault.ReportKind.ReportKind, specs.declared.fault.ReportKind.TheVariants.{Token, Ended, Limit}, specs.Terms.{has_room, unknown_name, whole_within}, proofs.Lemmas.{is_length, lawful_placed, length_is, placed_items, law_made, made_law, made_then, few_so_far, keyword_law, opening_law, room_so_far, room_takes, this_name_law, whole_again, whole_takes}}
use Rattle.report_parts.{specs.ReadingParts.{all_counts_at, count_at, count_within, counts_at, modules_at, next_counts_at}, proofs.Counts.capacity_none}

-- ---- capacities

-- further counts take nothing away
capacity_more : (ms : List Module) (xs ys : List ℕ) → modules_capacity ms xs ≤ modules_capacity ms (xs ++ ys)
capacity_more [] xs ys = omega arith
capacity_more (m ∷ ms) [] ys = omega (arith, capacity_none (m ∷ ms))
capacity_more (m ∷ ms) (x ∷ xs) ys =
    let s : modules_capacity (m ∷ ms) (x ∷ xs) ≡ m.capacity * x + modules_capacity ms xs = sum_by-cons (λ p. p.0.capacity * p.1) (m, x) (zip ms xs) in
    let t : modules_capacity (m ∷ ms) (x ∷ (xs ++ ys)) ≡ m.capacity * x + modules_capacity ms (xs ++ ys) = sum_by-cons (λ p. p.0.capacity * p.1) (m, x) (zip ms (xs ++ ys)) in
    omega (arith, s, t, capacity_more ms xs ys)

-- ---- the counts of a link

module _ (l : Link) where
  abbrev IsSmall : List ℕ → Type 0
  IsSmall counts = l.fixed + modules_capacity l.modules counts < 2 ^ 46

  abbrev IsCount : List ℕ → ℕ → Type 0
  IsCount sofar n = ((length sofar < length l.modules) × IsSmall (sofar ++ n ∷ [])) × (n < 2 ^ 44)

  within_takes : (sofar : List ℕ) (q : Result ℕ ReportKind) (n : ℕ) → count_within l sofar q ≡ Ok n → ((length sofar < length l.modules) × IsSmall (sofar ++ n ∷ [])) × (q ≡ Ok n)
  within_takes sofar (Ok k) n e =
      let t = room_takes (has_room (length l.modules) sofar && nat_lt (l.fixed + modules_capacity l.modules (sofar ++ k ∷ [])) (2 ^ 46)) (Ok k) n e in
      let b = and_parts (has_room (length l.modules) sofar) (nat_lt (l.fixed + modules_capacity l.modules (sofar ++ k ∷ [])) (2 ^ 46)) t.0 in
      let is : k ≡ n = let q : Ok k ≡ Ok n = t.1 in cc in
      ((few_so_far (length l.modules) sofar b.0, subst (λ (i : ℕ). IsSmall (sofar ++ i ∷ [])) is (ltb-true (l.fixed + modules_capacity l.modules (sofar ++ k ∷ [])) (2 ^ 46) b.1)), t.1)
  within_takes sofar (Err kind) n e = absurd cc

  count_law : (sofar : List ℕ) → Lawful (count_at l sofar) (λ n. Whole n ∷ []) (IsCount sofar) AnyText
  count_law sofar = lawful_word Token Ended (λ w. count_within l sofar (whole_within 0 (2 ^ 44) w)) (λ n. Whole n) (IsCount sofar) (λ n. tt)
      (λ w n e. let t = within_takes sofar (whole_within 0 (2 ^ 44) w) n e in let h = whole_takes 0 (2 ^ 44) w n t.1 in ((t.0, h.0.1), h.1))
      (λ w n is same. ap (count_within l sofar) (whole_again 0 (2 ^ 44) w n (omega arith, is.1) same) ∙ rw (room_so_far (length l.modules) sofar is.0.0, lt-ltb (l.fixed + modules_capacity l.modules (sofar ++ n ∷ [])) (2 ^ 46) is.0.1) refl)

  -- all counts of a link
  pub record AreCountsOf (counts : List ℕ) : Type 0 where
    pub long : length counts ≡ length l.modules
    pub few : All (λ n. n < 2 ^ 44) counts
    pub small : IsSmall counts

  grown : (sofar cs : List ℕ) → IsSmall sofar → ComeAfter IsCount sofar cs → IsSmall (sofar ++ cs) × All (λ n. n < 2 ^ 44) cs
  grown sofar [] small all = (subst IsSmall (sym (append-nil sofar)) small, All-nil (λ n. n < 2 ^ 44))
  grown sofar (n ∷ cs) small all =
      let h = grown (sofar ++ n ∷ []) cs all.0.0.1 all.1 in
      (subst IsSmall (append_assoc sofar (n ∷ []) cs) h.0, All-cons (λ n. n < 2 ^ 44) n cs all.0.1 h.1)

  shrunk : (sofar cs : List ℕ) → IsSmall (sofar ++ cs) → length (sofar ++ cs) ≤ length l.modules → All (λ n. n < 2 ^ 44) cs → ComeAfter IsCount sofar cs
  shrunk sofar [] small fits all = tt
  shrunk sofar (n ∷ cs) small fits all =
      let whole : IsSmall ((sofar ++ n ∷ []) ++ cs) = subst IsSmall (sym (append_assoc sofar (n ∷ []) cs)) small in (
        ((omega (arith, fits, length-append sofar (n ∷ cs)), omega (arith, whole, capacity_more l.modules (sofar ++ n ∷ []) cs)), All-head (λ n. n < 2 ^ 44) n cs all),
        shrunk (sofar ++ n ∷ []) cs whole (subst (λ (xs : List ℕ). length xs ≤ length l.modules) (sym (append_assoc sofar (n ∷ []) cs)) fits) (All-tail (λ n. n < 2 ^ 44) n cs all),
      )

-- the counts of a link, if there is one
abbrev pub IsSound : Option Link → Type 0
IsSound None = Unit {0}
IsSound (Some l) = l.fixed < 2 ^ 40

abbrev items_for : Option Link → List ℕ → List Item
items_for None counts = Verbatim [] ∷ []
items_for (Some l) counts = modules_items (l, counts)

abbrev AreFor : Option Link → List ℕ → Type 0
AreFor None counts = ⊥
AreFor (Some l) counts = AreCountsOf l counts

never : (text : Text) (x : List ℕ) (rest : Text) → word_at Token Ended (λ w. let r : Result (List ℕ) ReportKind = Err (unknown_name w) in r) text ≡ Ok (x, rest) → ⊥
never (WordAt at w t) x rest e = cc
never (OpenAt at t) x rest e = cc
never (CloseAt at t) x rest e = cc
never (EndAt at) x rest e = cc

counts_law : (o : Option Link) → IsSound o → Lawful (counts_at o) (items_for o) (AreFor o) AnyText
unfolding counts_at
counts_law None sound = record { takes = λ text x rest e. absurd (never text x rest e); again = λ text x rest is b left. absurd is }
counts_law (Some l) sound = law_made (counts_at (Some l)) _ _ _ (λ c. modules_items (l, c)) (AreCountsOf l)
    (λ q h.
    let g = grown l [] q.1.1 (let f : l.fixed < 2 ^ 40 = sound in omega (arith, f, capacity_none l.modules)) h.1.1.1 in
    record { long = length_is (length l.modules) Limit q.1.1 h.1.1.0; few = g.1; small = g.0 })
    (λ q h. refl)
    (λ c h. record { parts = (tt, (tt, c)); right = (tt, (tt, (is_length (length l.modules) Limit c h.long, shrunk l [] c h.small (omega (arith, h.long)) h.few))); gives = refl })
    (made_then _ _ _ _ _ _ _ _ (this_name_law l.name) (λ x h.
    made_then _ _ _ _ _ _ _ _ opening_law (λ x h.
    made_law _ _ _ (lawful_list Parenthesis (of_length (length l.modules) Limit) (count_at l) (λ n. Whole n ∷ []) (IsCount l) (λ n. tt) (count_law l)))))

-- ---- the counts of all links

-- the links from a place on
abbrev AreFrom : (ℕ → Option Link) → ℕ → List Link → Type 0
AreFrom at n ls = (k : ℕ) → at (n + k) ≡ slice_get ls k

module _ (at : ℕ → Option Link) where
  first_from : (n : ℕ) (l : Link) (ls : List Link) → AreFrom at n (l ∷ ls) → at n ≡ Some l
  first_from n l ls from = ap at (let e : n ≡ n + 0 = omega arith in e) ∙ from 0

  next_from : (n : ℕ) (l : Link) (ls : List Link) → AreFrom at n (l ∷ ls) → AreFrom at (n + 1) ls
  next_from n l ls from = λ k. ap at (let e : (n + 1) + k ≡ n + suc k = omega arith in e) ∙ from (suc k)

  all_items : (n : ℕ) (ls : List Link) (cs : List (List ℕ)) → AreFrom at n ls → length cs ≡ length ls → placed_items (λ k c. items_for (at k) c) n cs ≡ flat_map modules_items (zip ls cs)
  all_items n [] [] from long = refl
  all_items n [] (c ∷ cs) from long = absurd (omega (arith, long))
  all_items n (l ∷ ls) [] from long = absurd (omega (arith, long))
  all_items n (l ∷ ls) (c ∷ cs) from long =
      ap (λ (o : Option Link). items_for o c ++ placed_items (λ k d. items_for (at k) d) (n + 1) cs) (first_from n l ls from)
      ∙ ap (λ (is : List Item). modules_items (l, c) ++ is) (all_items (n + 1) ls cs (next_from n l ls from) (omega (arith, long)))

  abbrev IsAfter : List (List ℕ) → List ℕ → Type 0
  IsAfter sofar c = AreFor (at (length sofar)) c

  further : (sofar : List (List ℕ)) (c : List ℕ) (l : Link) (ls : List Link) → AreFrom at (length sofar) (l ∷ ls) → AreFrom at (length (sofar ++ c ∷ [])) ls
  further sofar c l ls from = subst (λ (n : ℕ). AreFrom at n ls) (let e : length sofar + 1 ≡ length (sofar ++ c ∷ []) = omega (arith, length-append sofar (c ∷ [])) in e) (next_from (length sofar) l ls from)

  counts_form : (sofar : List (List ℕ)) (ls : List Link) (cs : List (List ℕ)) → AreFrom at (length sofar) ls → length cs ≡ length ls → ComeAfter IsAfter sofar cs → AreCounts ls cs × AreWithinLimits ls cs
  counts_form sofar [] [] from long all = (tt, record { few = All-nil (λ c. All (λ n. n < 2 ^ 44) c); small = All-nil (λ n. n < 2 ^ 46) })
  counts_form sofar [] (c ∷ cs) from long all = absurd (omega (arith, long))
  counts_form sofar (l ∷ ls) [] from long all = absurd (omega (arith, long))
  counts_form sofar (l ∷ ls) (c ∷ cs) from long all =
      let h : AreCountsOf l c = subst (λ (o : Option Link). AreFor o c) (first_from (length sofar) l ls from) all.0 in
      let t = counts_form (sofar ++ c ∷ []) ls cs (further sofar c l ls from) (omega (arith, long)) all.1 in
      ((h.long, t.0), record { few = All-cons (λ d. All (λ n. n < 2 ^ 44) d) c cs h.few t.1.few; small = All-cons (λ n. n < 2 ^ 46) (l.fixed + modules_capacity l.modules c) (capacities ls cs) h.small t.1.small })

  form_counts : (sofar : List (List ℕ)) (ls : List Link) (cs : List (List ℕ)) → AreFrom at (length sofar) ls → AreCounts ls cs → AreWithinLimits ls cs → (length cs ≡ length ls) × ComeAfter IsAfter sofar cs
  form_counts sofar [] [] from shape limits = (refl, tt)
  form_counts sofar [] (c ∷ cs) from shape limits = absurd shape
  form_counts sofar (l ∷ ls) [] from shape limits = absurd shape
  form_counts sofar (l ∷ ls) (c ∷ cs) from shape limits =
      let h : AreCountsOf l c = record { long = shape.0; few = All-head (λ d. All (λ n. n < 2 ^ 44) d) c cs limits.few; small = All-head (λ n. n < 2 ^ 46) (l.fixed + modules_capacity l.modules c) (capacities ls cs) limits.small } in
      let t = form_counts (sofar ++ c ∷ []) ls cs (further sofar c l ls from) shape.1 (record { few = All-tail (λ d. All (λ n. n < 2 ^ 44) d) c cs limits.few; small = All-tail (λ n. n < 2 ^ 46) (l.fixed + modules_capacity l.modules c) (capacities ls cs) limits.small }) in
      (omega (arith, t.0), (subst (λ (o : Option Link). AreFor o c) (sym (first_from (length sofar) l ls from)) h, t.1))

starts_for : (o : Option Link) (c : List ℕ) → Starts (items_for o c)
starts_for None c = tt
starts_for (Some l) c = tt

pub all_counts_law : (links : List Link) → ((k : ℕ) → IsSound (slice_get links k)) → Lawful (all_counts_at links) (λ cs. flat_map modules_items (zip links cs) ++ Closing ∷ []) (λ cs. AreCounts links cs × AreWithinLimits links cs) AnyText
all_counts_law links sound = lawful_as (all_counts_at links) _ (λ cs. flat_map modules_items (zip links cs) ++ Closing ∷ []) _ (λ cs. AreCounts links cs × AreWithinLimits links cs) AnyText
    (λ cs h. ap (λ (is : List Item). is ++ Closing ∷ []) (all_items (slice_get links) 0 links cs (λ k. ap (slice_get links) (omega arith)) (length_is (length links) Limit cs h.0)))
    (λ cs h. counts_form (slice_get links) [] links cs (λ k. ap (slice_get links) (omega arith)) (length_is (length links) Limit cs h.0) h.1)
    (λ cs h. let f = form_counts (slice_get links) [] links cs (λ k. ap (slice_get links) (omega arith)) h.0 h.1 in (is_length (length links) Limit cs f.0, f.1))
    (lawful_placed (λ k c. items_for (slice_get links k) c) (λ sofar c. AreFor (slice_get links (length sofar)) c) (of_length (length links) Limit) (next_counts_at links) (λ k c. starts_for (slice_get links k) c) (λ sofar. counts_law (slice_get links (length sofar)) (sound (length sofar))))

pub modules_law : (links : List Link) → ((k : ℕ) → IsSound (slice_get links k)) → Lawful (modules_at links) (λ cs. section (codes "MODULES") (flat_map modules_items (zip links cs))) (λ cs. AreCounts links cs × AreWithinLimits links cs) AnyText
unfolding modules_at
modules_law links sound = law_made (modules_at links) _ _ _ (λ cs. section (codes "MODULES") (flat_map modules_items (zip links cs))) (λ cs. AreCounts links cs × AreWithinLimits links cs)
    (λ q h. counts_form (slice_get links) [] links q.1.1 (λ k. ap (slice_get links) (omega arith)) (length_is (length links) Limit q.1.1 h.1.1.0) h.1.1.1)
    (λ q h. ap (λ (is : List Item). section (codes "MODULES") is) (all_items (slice_get links) 0 links q.1.1 (λ k. ap (slice_get links) (omega arith)) (length_is (length links) Limit q.1.1 h.1.1.0)))
    (λ cs h. let f = form_counts (slice_get links) [] links cs (λ k. ap (slice_get links) (omega arith)) h.0 h.1 in record { parts = (tt, (tt, cs)); right = (tt, (tt, (is_length (length links) Limit cs f.0, f.1))); gives = refl })
    (made_then _ _ _ _ _ _ _ _ (keyword_law (codes "MODULES")) (λ x h.
    made_then _ _ _ _ _ _ _ _ opening_law (λ x h.
    made_law _ _ _ (lawful_placed (λ k c. items_for (slice_get links k) c) (λ sofar c. AreFor (slice_get links (length sofar)) c) (of_length (length links) Limit) (next_counts_at links) (λ k c. starts_for (slice_get links k) c) (λ sofar. counts_law (slice_get links (length sofar)) (sound (length sofar)))))))
