-- what an edit makes of the demands
use Rattle.std.{proofs.Common.{◌≡◌, ◌≢◌, ◌<◌, ◌≤◌, ◌+◌, ◌-◌, ◌^◌, ℕ, zero, suc, Bool, true, false, cond, not, ◌||◌, List, [], ◌∷◌, ◌++◌, length, get_or, map, Some, None, refl, sym, ap, ◌∙◌, subst, arith, ⊎_elim, length-append, nat_lt, position, remove, slice_get, is_some, unwrap_or, All, AllPairs, le-ltb, lt-ltb, length-set, get_or-set_same, get_or-set_other, set}, proofs.lemmas.List.Edits.length-remove, proofs.lemmas.Option.unwrap_or-slice_get}
use Rattle.net_core.proofs.Library.{position_or_len, list_any, cases_lt, cases_eq, cases_order, cond-true, cond-false, cond_both, false_from_ne_true, not_from_false, not_from_true, false≢true, same_lists, get_or-map, length-map, All-map, All-filter, All-push, list_any_at, AllPairs-filter, all_pairs_push, position-Some, get_or-le-sum_by, sum_by-append, sum_by-remove, sum_by-set, get_or_from_slice_get, slice_get-get_or, bytes_eq-Decides, same_is}
use Rattle.plan_terms.{specs.Terms.{AreDemands, IsDemand, are_same, Demand, is_demand, set_need, total_need, without}, proofs.Lemmas.{changed, set_different, with_need}}
use Rattle.demand_book.specs.inner.Places.{IsPlaceOf}

suc_lt : (a b : ℕ) → nat_lt (1 + a) (suc b) ≡ nat_lt a b
suc_lt a b =
    ⊎_elim
    (λ (h : a < b). lt-ltb (1 + a) (suc b) (omega (arith, h)) ∙ sym (lt-ltb a b h))
    (λ (h : b ≤ a). le-ltb (1 + a) (suc b) (omega (arith, h)) ∙ sym (le-ltb a b h))
    (cases_lt a b)

place_within : {X : Type 0} (p : X → Bool) (xs : List X) → nat_lt (position_or_len p xs) (length xs) ≡ list_any p xs
place_within p [] = refl
place_within p (x ∷ xs) =
    elim (p x) as (λ v. nat_lt (cond (not v) (1 + position_or_len p xs) 0) (length (x ∷ xs)) ≡ (v || list_any p xs)) [
      | true ↦ lt-ltb 0 (length (x ∷ xs)) (omega arith)
      | false ↦ suc_lt (position_or_len p xs) (length xs) ∙ place_within p xs
    ]

is_some_cond : (b : Bool) (k : ℕ) → is_some (cond b (Some k) None) ≡ b
is_some_cond true k = refl
is_some_cond false k = refl

-- a place is found exactly where an element passes
pub place_known : {X : Type 0} (p : X → Bool) (xs : List X) → is_some (position p xs) ≡ list_any p xs
place_known p xs = is_some_cond (nat_lt (position_or_len p xs) (length xs)) (position_or_len p xs) ∙ place_within p xs

pub is_same : (a b : List ℕ) → a ≡ b → are_same a b ≡ true
is_same a b h = (bytes_eq-Decides a b).1 h

abbrev blank : Demand
blank = record { name = []; from = record { 0 = 0 }; to = record { 0 = 0 }; need = 0 }

-- the demand at place k has the name, and no other
pub record IsAlone (name : List ℕ) (demands : List Demand) (k : ℕ) : Type 0 where
  pub within : k < length demands
  pub here : (d : Demand) → are_same (get_or demands k d).name name ≡ true
  pub others : (j : ℕ) (d : Demand) → j ≢ k → j < length demands → are_same (get_or demands j d).name name ≡ false

pub alone : (n : ℕ) (demands : List Demand) (name : List ℕ) (k : ℕ) → AreDemands n demands → position (λ d. are_same d.name name) demands ≡ Some k → IsAlone name demands k
alone n demands name k are found =
    let p : Demand → Bool = λ d. are_same d.name name in
    let within : k < length demands = (position-Some p demands k blank found).0 in
    let here : (d : Demand) → are_same (get_or demands k d).name name ≡ true = λ d. (position-Some p demands k d found).1 in
    record {
      within = within;
      here = here;
      others = λ j d other lt. false_from_ne_true _ (λ same.
          let one : (get_or demands j d).name ≡ (get_or demands k d).name = same_is _ _ same ∙ sym (same_is _ _ (here d)) in
          ⊎_elim other (⊎_elim (λ (below : j < k). are.different j k d below within one) (λ (above : k < j). are.different k j d above lt (sym one))) (cases_order j k));
    }

-- ---- another need

replaced : (before after : List Demand) (name : List ℕ) (k need : ℕ) → IsAlone name before k → length after ≡ length before
    → ((d : Demand) → get_or after k d ≡ with_need need (get_or before k d)) → ((j : ℕ) (d : Demand) → j ≢ k → get_or after j d ≡ get_or before j d)
    → after ≡ set_need name need before
replaced before after name k need a count here others = same_lists after (map (changed name need) before) (count ∙ sym (length-map before (changed name need))) at
  where
    at : (j : ℕ) (d : Demand) → j < length after → get_or after j d ≡ get_or (map (changed name need) before) j d
    at j d lt =
        let within : j < length before = omega (arith, lt, count) in
        let mapped : get_or (map (changed name need) before) j d ≡ changed name need (get_or before j d) = get_or-map (changed name need) before j d d within in
        ⊎_elim
        (λ (e : j ≡ k). subst (λ i. get_or after i d ≡ changed name need (get_or before i d)) (sym e) (here d ∙ sym (cond-true _ (with_need need (get_or before k d)) (get_or before k d) (a.here d))) ∙ sym mapped)
        (λ ne. others j d ne ∙ (sym (cond-false _ (with_need need (get_or before j d)) (get_or before j d) (a.others j d ne within)) ∙ sym mapped))
        (cases_eq j k)

pub set_is : (before after : List Demand) (name : List ℕ) (k need : ℕ) → IsAlone name before k → IsPlaceOf before k need after → after ≡ set_need name need before
set_is before after name k need a p =
    replaced before after name k need a p.count
    (λ d. get_or_from_slice_get after k (with_need need (get_or before k d)) d (p.here (get_or before k d) (slice_get-get_or before k d a.within)))
    (λ j d ne. sym (unwrap_or-slice_get after j d) ∙ (ap (λ o. unwrap_or o d) (p.others j ne) ∙ unwrap_or-slice_get before j d))

pub set_total : (before : List Demand) (name : List ℕ) (k need : ℕ) (d : Demand) → IsAlone name before k → total_need (set_need name need before) + (get_or before k d).need ≡ total_need before + need
set_total before name k need d a =
    let new = with_need need (get_or before k blank) in
    let is : set before k new ≡ set_need name need before =
    replaced before (set before k new) name k need a (length-set before k new)
    (λ e. get_or-set_same before k new e a.within ∙ ap (with_need need) (get_or_from_slice_get before k (get_or before k e) blank (slice_get-get_or before k e a.within)))
    (λ j e ne. get_or-set_other before k j new e ne) in
    subst (λ ds. total_need ds + (get_or before k d).need ≡ total_need before + need) is (sum_by-set (λ x. x.need) before k new d a.within)

-- the running total, less the need of before and with the new one
pub set_sum : (before : List Demand) (name : List ℕ) (k need : ℕ) (d : Demand) → IsAlone name before k → total_need before - (get_or before k d).need + need ≡ total_need (set_need name need before)
set_sum before name k need d a = omega (arith, set_total before name k need d a, get_or-le-sum_by (λ x. x.need) before k d a.within)

sound_again : (n : ℕ) (name : List ℕ) (need : ℕ) (d : Demand) → need < 2 ^ 40 → IsDemand n d → IsDemand n (changed name need d)
sound_again n name need d small s =
    cond_both (are_same d.name name) (with_need need d) d (IsDemand n)
    (λ _. record { from_known = s.from_known; to_known = s.to_known; different = s.different; need = small })
    (λ _. s)

pub set_demands : (n : ℕ) (before : List Demand) (name : List ℕ) (need : ℕ) → AreDemands n before → need < 2 ^ 40 → total_need (set_need name need before) < 2 ^ 44 → AreDemands n (set_need name need before)
set_demands n before name need are small total =
    let f = changed name need in
    record {
      few = omega (arith, are.few, length-map before f);
      different = set_different name need before are.different;
      each = All-map (IsDemand n) f before (λ k d lt. sound_again n name need (get_or before k d) small (are.each k d lt));
      total = total;
    }

-- ---- one demand less

pub all_kept : (name : List ℕ) (xs : List Demand) → ((j : ℕ) (d : Demand) → j < length xs → are_same (get_or xs j d).name name ≡ false) → without name xs ≡ xs
all_kept name [] h = refl
all_kept name (x ∷ xs) h =
    cond-true _ (x ∷ without name xs) (without name xs) (not_from_false _ (h 0 blank (omega arith)))
    ∙ ap (λ (ys : List Demand). x ∷ ys) (all_kept name xs (λ j d lt. h (suc j) d (omega (arith, lt))))

pub remove_is : (name : List ℕ) (xs : List Demand) (k : ℕ) → IsAlone name xs k → remove xs k ≡ without name xs
remove_is name [] k a = absurd (omega (arith, a.within))
remove_is name (x ∷ xs) zero a =
    sym (all_kept name xs (λ j d lt. a.others (suc j) d (λ e. omega (arith, e)) (omega (arith, lt))))
    ∙ sym (cond-false _ (x ∷ without name xs) (without name xs) (not_from_true _ (a.here blank)))
remove_is name (x ∷ xs) (suc k) a =
    let rest : IsAlone name xs k = record {
      within = omega (arith, a.within);
      here = a.here;
      others = λ j d ne lt. a.others (suc j) d (λ e. ne (omega (arith, e))) (omega (arith, lt));
    } in
    ap (λ (ys : List Demand). x ∷ ys) (remove_is name xs k rest)
    ∙ sym (cond-true _ (x ∷ without name xs) (without name xs) (not_from_false _ (a.others 0 blank (λ e. omega (arith, e)) (omega arith))))

pub remove_total : (before : List Demand) (k : ℕ) (d : Demand) → slice_get before k ≡ Some d → k < length before → total_need (remove before k) + d.need ≡ total_need before
remove_total before k d at within =
    subst (λ (x : Demand). total_need (remove before k) + x.need ≡ total_need before) (get_or_from_slice_get before k d d at) (sum_by-remove (λ x. x.need) before k d within)

pub remove_demands : (n : ℕ) (before : List Demand) (name : List ℕ) (k : ℕ) → AreDemands n before → IsAlone name before k → AreDemands n (remove before k)
remove_demands n before name k are a =
    let is = remove_is name before k a in
    let keep : Demand → Bool = λ d. not (are_same d.name name) in
    let sum = sum_by-remove (λ x. x.need) before k blank a.within in
    record {
      few = omega (arith, are.few, length-remove before k a.within);
      different = subst (AllPairs (λ x y. x.name ≢ y.name)) (sym is) (AllPairs-filter (λ x y. x.name ≢ y.name) keep before are.different);
      each = subst (All (IsDemand n)) (sym is) (All-filter keep (IsDemand n) before are.each);
      total = omega (arith, are.total, sum);
    }

-- ---- one demand more

new_name : (before : List Demand) (name : List ℕ) (k : ℕ) (d : Demand) → is_demand name before ≡ false → k < length before → (get_or before k d).name ≢ name
new_name before name k d unknown lt same = absurd (false≢true (sym unknown ∙ list_any_at (λ (x : Demand). are_same x.name name) before k d lt (is_same _ _ same)))

pub added_total : (before : List Demand) (new : Demand) → total_need (before ++ new ∷ []) ≡ total_need before + new.need
added_total before new = omega (arith, sum_by-append (λ x. x.need) before (new ∷ []))

pub added_demands : (n : ℕ) (before : List Demand) (new : Demand) → AreDemands n before → IsDemand n new → is_demand new.name before ≡ false → length before < 2048 → total_need before + new.need < 2 ^ 44 → AreDemands n (before ++ new ∷ [])
added_demands n before new are sound unknown few total = record {
  few = omega (arith, few, length-append before (new ∷ []));
  different = all_pairs_push (λ x y. x.name ≢ y.name) before new are.different (λ k d lt. new_name before new.name k d unknown lt);
  each = All-push (IsDemand n) before new are.each sound;
  total = omega (arith, total, added_total before new);
}
