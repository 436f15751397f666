-- replies to edits of demands: what they leave, and totals that are too much
use Rattle.std.proofs.Common.{◌≡◌, ◌≢◌, ℕ, suc, ◌+◌, ◌^◌, ◌<◌, ◌≤◌, List, [], ◌∷◌, ◌++◌, All, Bool, true, false, not, ◌&&◌, cond, Option, Some, None, get_or, length, refl, sym, ap, ◌∙◌, ⊎_elim, arith, AllPairs, filter, nat_le, nat_lt, ltb-true}
use Rattle.net_core.proofs.Library.{cases_Bool, cond-false, cond-true, cond_both, false_from_ne_true, false≢true, list_any_at, AllPairs-filter, all_pairs_push, sum_by-append, sum_by-cons, bytes_eq-Decides}
use Rattle.plan_terms.{specs.Terms.{Demand, Edit, Set, Add, Drop, Reply, Accepted, UnknownDemand, KnownDemand, UnknownNode, SelfDemand, TooMany, TooMuch, are_same, is_named, Answered, added, edit_need, edit_reply, is_demand, next_version, node_of, set_need, total_need, within_total, without}, proofs.Lemmas.{changed, set_different, with_need}}

-- ---- demands

-- no name twice
abbrev AreDifferent : List Demand → Type 0
AreDifferent demands = AllPairs (λ x y. x.name ≢ y.name) demands

-- no name twice, and a total need below 2^44 units
pub record IsLow (demands : List Demand) : Type 0 where
  pub different : AreDifferent demands
  pub total : total_need demands < 2 ^ 44

different_first : (d : Demand) (ds : List Demand) → AreDifferent (d ∷ ds) → All (λ x. d.name ≢ x.name) ds
different_first d ds all = λ k e lt. all 0 (suc k) e (omega arith) (omega (arith, lt))

different_rest : (d : Demand) (ds : List Demand) → AreDifferent (d ∷ ds) → AreDifferent ds
different_rest d ds all = λ i j e lt within. all (suc i) (suc j) e (omega (arith, lt)) (omega (arith, within))

-- ---- another need

-- demands of other names stay
others_same : (name : List ℕ) (need : ℕ) (ds : List Demand) → All (λ d. are_same d.name name ≡ false) ds → set_need name need ds ≡ ds
others_same name need [] all = refl
others_same name need (d ∷ ds) all =
    ap (λ (x : Demand). x ∷ set_need name need ds) (cond-false (are_same d.name name) (with_need need d) d (all 0 d (omega arith)))
    ∙ ap (λ (xs : List Demand). d ∷ xs) (others_same name need ds (λ k e lt. all (suc k) e (omega (arith, lt))))

set_total : (name : List ℕ) (need : ℕ) (ds : List Demand) → AreDifferent ds → total_need (set_need name need ds) ≤ total_need ds + need
set_total name need [] all = omega arith
set_total name need (d ∷ ds) all =
    let before = sum_by-cons (λ (x : Demand). x.need) d ds in
    let after = sum_by-cons (λ (x : Demand). x.need) (changed name need d) (set_need name need ds) in
    ⊎_elim
    (λ (same : are_same d.name name ≡ true).
    let rest = others_same name need ds (λ k e lt. false_from_ne_true _ (λ also.
    different_first d ds all k e lt ((bytes_eq-Decides d.name name).0 same ∙ sym ((bytes_eq-Decides (get_or ds k e).name name).0 also)))) in
    let one : (changed name need d).need ≡ need = ap (λ (x : Demand). x.need) (cond-true (are_same d.name name) (with_need need d) d same) in
    let others : total_need (set_need name need ds) ≡ total_need ds = ap (λ (xs : List Demand). total_need xs) rest in
    omega (arith, before, after, one, others))
    (λ (other : are_same d.name name ≡ false).
    let one : (changed name need d).need ≡ d.need = ap (λ (x : Demand). x.need) (cond-false (are_same d.name name) (with_need need d) d other) in
    let others = set_total name need ds (different_rest d ds all) in
    omega (arith, before, after, one, others))
    (cases_Bool (are_same d.name name))

-- ---- one demand less, and one more

fewer_total : (p : Demand → Bool) (ds : List Demand) → total_need (filter p ds) ≤ total_need ds
fewer_total p [] = omega arith
fewer_total p (d ∷ ds) =
    let rest = fewer_total p ds in
    let all = sum_by-cons (λ (x : Demand). x.need) d ds in
    let kept = sum_by-cons (λ (x : Demand). x.need) d (filter p ds) in
    cond_both (p d) (d ∷ filter p ds) (filter p ds) (λ xs. total_need xs ≤ total_need (d ∷ ds)) (λ _. omega (arith, rest, all, kept)) (λ _. omega (arith, rest, all))

without_low : (name : List ℕ) (ds : List Demand) → IsLow ds → IsLow (without name ds)
without_low name ds low =
    let keep : Demand → Bool = λ d. not (are_same d.name name) in
    let total = low.total in
    let fewer = fewer_total keep ds in
    record {
      different = AllPairs-filter (λ (x y : Demand). x.name ≢ y.name) keep ds low.different;
      total = omega (arith, total, fewer);
    }

more_different : (ds : List Demand) (new : Demand) → AreDifferent ds → is_demand new.name ds ≡ false → AreDifferent (ds ++ new ∷ [])
more_different ds new all unknown = all_pairs_push (λ (x y : Demand). x.name ≢ y.name) ds new all (λ k d lt same.
    false≢true (sym unknown ∙ list_any_at (λ (x : Demand). are_same x.name new.name) ds k d lt ((bytes_eq-Decides _ _).1 same)))

-- ---- replies

-- a total that is too much is below 2^45 units
abbrev pub HasLowTotal : Reply → Type 0
HasLowTotal (Accepted version) = Unit {0}
HasLowTotal UnknownDemand = Unit {0}
HasLowTotal KnownDemand = Unit {0}
HasLowTotal UnknownNode = Unit {0}
HasLowTotal SelfDemand = Unit {0}
HasLowTotal TooMany = Unit {0}
HasLowTotal (TooMuch total) = total < 2 ^ 45

abbrev pub IsLowAnswer : Answered → Type 0
IsLowAnswer a = IsLow a.1 × HasLowTotal a.0

within_low : (demands new : List Demand) (v : ℕ) → IsLow demands → AreDifferent new → total_need new < 2 ^ 45 → IsLowAnswer (within_total demands v new)
within_low demands new v low different small =
    cond_both (nat_lt (total_need new) (2 ^ 44)) (Accepted (next_version v), new) (TooMuch (total_need new), demands) IsLowAnswer
    (λ few. (record { different = different; total = ltb-true (total_need new) (2 ^ 44) few }, tt))
    (λ _. (low, small))

fault_low : (demands : List Demand) (v : ℕ) (new : Demand) (b : Bool) (fault : Reply) (rest : Option Reply) → IsLow demands → HasLowTotal fault
    → (b ≡ false → IsLowAnswer (added demands v new rest)) → IsLowAnswer (added demands v new (cond b (Some fault) rest))
fault_low demands v new true fault rest low small later = (low, small)
fault_low demands v new false fault rest low small later = later refl

pub reply_low : (nodes : List (List ℕ)) (demands : List Demand) (v : ℕ) (edit : Edit) → IsLow demands → edit_need edit < 2 ^ 40 → IsLowAnswer (edit_reply nodes demands v edit)
reply_low nodes demands v (Set name need) low small =
    let most = set_total name need demands low.different in
    let total = low.total in
    cond_both (is_demand name demands) (within_total demands v (set_need name need demands)) (UnknownDemand, demands) IsLowAnswer
    (λ _. within_low demands (set_need name need demands) v low (set_different name need demands low.different) (omega (arith, most, total, small)))
    (λ _. (low, tt))
reply_low nodes demands v (Drop name) low small =
    cond_both (is_demand name demands) (Accepted (next_version v), without name demands) (UnknownDemand, demands) IsLowAnswer
    (λ _. (without_low name demands low, tt))
    (λ _. (low, tt))
reply_low nodes demands v (Add name from to need) low small =
    let new : Demand = record { name = name; from = record { 0 = node_of nodes from }; to = record { 0 = node_of nodes to }; need = need } in
    let total = low.total in
    let sum = sum_by-append (λ (x : Demand). x.need) demands (new ∷ []) in
    let most : total_need (demands ++ new ∷ []) < 2 ^ 45 = omega (arith, total, sum, small) in
    fault_low demands v new (is_demand name demands) KnownDemand _ low tt (λ unknown.
    fault_low demands v new (not (is_named (λ n. n) from nodes && is_named (λ n. n) to nodes)) UnknownNode _ low tt (λ _.
    fault_low demands v new (are_same from to) SelfDemand _ low tt (λ _.
    fault_low demands v new (nat_le 2048 (length demands)) TooMany None low tt (λ _.
    within_low demands (demands ++ new ∷ []) v low (more_different demands new low.different unknown) most))))
