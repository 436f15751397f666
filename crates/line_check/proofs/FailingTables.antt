-- able counts meet a failing table line
use Rattle.std.proofs.Common.{◌≡◌, ℕ, zero, suc, ◌+◌, ◌*◌, ◌<◌, ◌≤◌, ◌⊎◌, inl, inr, ⊎_elim, Bool, true, false, List, [], ◌∷◌, length, length-take, map, slice_index, take, zip, refl, ap, subst, sym, ◌∙◌, arith, if◌then◌else◌, nat_eq, eqb-true, mul-le-mul_left}
use Rattle.net_core.proofs.Library.{cases_Bool, cases_lt, get_or-map, length-map, slice_get_past, sum_by-cons, option_map_or}
use Rattle.plan_terms.specs.Terms.{AreCounts, Case, Listed, fails, names_link}
use Rattle.line_check.{specs.CoverWeights.{CoversNeed, IsLeastWeight, total_of_kinds}, specs.Inequalities.{MeetsLine, entry, module_number, need_of, over_modules}, specs.Laws.surviving_counts, specs.Lines.{AreKinds, IsSpared, IsTableOver, NeverFails, capped, weight_of}, specs.declared.inequality.Inequality.Inequality, specs.declared.line.TableKind.TheVariants.Failing, proofs.OverModules.over-le, proofs.KindWeights.{over_gap, over_some, table_entry, used, used_weighs, weight_at}, proofs.PlainTables.{table_weighs, used_covers}}

-- ---- what is left in a state

left_entry : (p : Case) (s : ℕ) (counts : List (List ℕ)) (e m : ℕ) → e < length p.links → m < module_number p.links e
    → entry (surviving_counts p s counts) e m ≡ (if fails p.listed s e then 0 else entry counts e m)
left_entry p s counts e m here inside = table_entry p.links (λ i j. if fails p.listed s i then 0 else entry counts i j) e m here inside

fewer : (b : Bool) (n : ℕ) → (if b then 0 else n) ≤ n
fewer true n = omega arith
fewer false n = omega arith

left_fewer : (p : Case) (s : ℕ) (counts : List (List ℕ)) (e m : ℕ) → e < length p.links → m < module_number p.links e → entry (surviving_counts p s counts) e m ≤ entry counts e m
left_fewer p s counts e m here inside = omega (arith, left_entry p s counts e m here inside, fewer (fails p.listed s e) (entry counts e m))

left_none : (p : Case) (s : ℕ) (counts : List (List ℕ)) (e m : ℕ) → e < length p.links → m < module_number p.links e → fails p.listed s e ≡ true → entry (surviving_counts p s counts) e m ≡ 0
left_none p s counts e m here inside failed = left_entry p s counts e m here inside ∙ ap (λ b. if b then 0 else entry counts e m) failed

-- a state that fails a link, or none below a number does
failed_or_never : (p : Case) (e n : ℕ) → ((s : ℕ) × (s < n) × (fails p.listed s e ≡ true)) ⊎ ((s : ℕ) → s < n → fails p.listed s e ≡ false)
failed_or_never p e zero = inr (λ s lt. absurd (omega (arith, lt)))
failed_or_never p e (suc n) = ⊎_elim
    (λ (some : (s : ℕ) × (s < n) × (fails p.listed s e ≡ true)). inl (some.0, omega (arith, some.1), some.2))
    (λ (none : (s : ℕ) → s < n → fails p.listed s e ≡ false). ⊎_elim
    (λ (here : fails p.listed n e ≡ true). inl (n, omega arith, here))
    (λ (not_here : fails p.listed n e ≡ false). inr (λ s lt. ⊎_elim
    (λ (before : s < n). none s before)
    (λ (last : n ≤ s). let same : n ≡ s = omega (arith, last, lt) in subst (λ i. fails p.listed i e ≡ false) same not_here)
    (cases_lt s n)))
    (cases_Bool (fails p.listed n e)))
    (failed_or_never p e n)

past_fails : (listed : List Listed) (e s : ℕ) → length listed < s → fails listed s e ≡ false
past_fails listed e zero past = refl
past_fails listed e (suc s) past = ap (λ o. option_map_or (λ l. names_link e l.links) o false) (slice_get_past listed s (omega (arith, past)))

-- no listed state fails the link, so none does
pub never_by_listed : (listed : List Listed) (e count : ℕ) → length listed < count → ((s : ℕ) → s < count → fails listed s e ≡ false) → (s : ℕ) → fails listed s e ≡ false
never_by_listed listed e count all none s = ⊎_elim
    (λ (before : s < count). none s before)
    (λ (past : count ≤ s). past_fails listed e s (omega (arith, past, all)))
    (cases_lt s count)

failing_state : (p : Case) (e : ℕ) → (NeverFails p e → ⊥) → (s : ℕ) × (s ≤ length p.listed) × (fails p.listed s e ≡ true)
failing_state p e fails_once = ⊎_elim
    (λ (some : (s : ℕ) × (s < length p.listed + 1) × (fails p.listed s e ≡ true)). (some.0, omega (arith, some.1), some.2))
    (λ (none : (s : ℕ) → s < length p.listed + 1 → fails p.listed s e ≡ false). absurd (fails_once (never_by_listed p.listed e (length p.listed + 1) (omega arith) none)))
    (failed_or_never p e (length p.listed + 1))

-- ---- the first kinds

-- the last place where a number is positive
record IsLastSome (f : ℕ → ℕ) (n k : ℕ) : Type 0 where
  inside : k < n
  some : 0 < f k
  none : (j : ℕ) → k < j → j < n → f j ≡ 0

none_more : (f : ℕ → ℕ) (n j : ℕ) → f n ≤ 0 → j < suc n → (j < n → f j ≡ 0) → f j ≡ 0
none_more f n j none_here lt none = ⊎_elim
    none
    (λ (last : n ≤ j). let same : n ≡ j = omega (arith, last, lt) in subst (λ i. f i ≡ 0) same (omega (arith, none_here)))
    (cases_lt j n)

last_some : (f : ℕ → ℕ) (n : ℕ) → ((k : ℕ) × IsLastSome f n k) ⊎ ((j : ℕ) → j < n → f j ≡ 0)
last_some f zero = inr (λ j lt. absurd (omega (arith, lt)))
last_some f (suc n) = ⊎_elim
    (λ (here : 0 < f n). inl (n, record { inside = omega arith; some = here; none = λ j above lt. absurd (omega (arith, above, lt)) }))
    (λ (none_here : f n ≤ 0). ⊎_elim
    (λ (before : (k : ℕ) × IsLastSome f n k). inl (
      before.0,
      record {
        inside = omega (arith, before.1.inside);
        some = before.1.some;
        none = λ j above lt. none_more f n j none_here lt (λ low. before.1.none j above low);
      },
    ))
    (λ (none : (j : ℕ) → j < n → f j ≡ 0). inr (λ j lt. none_more f n j none_here lt (none j)))
    (last_some f n))
    (cases_lt 0 (f n))

-- nothing past the first ones: the first ones are all
first_none : (n : ℕ) → total_of_kinds [] [] ≡ total_of_kinds (take n []) (take n [])
first_none zero = refl
first_none (suc n) = refl

first_total : (n : ℕ) (xs ns : List ℕ) → length ns ≡ length xs → ((j : ℕ) → n ≤ j → j < length ns → slice_index ns j ≡ 0) → total_of_kinds xs ns ≡ total_of_kinds (take n xs) (take n ns)
first_total n [] [] same none = first_none n
first_total n [] (m ∷ ns) same none = absurd (omega (arith, same))
first_total n (x ∷ xs) [] same none = absurd (omega (arith, same))
first_total zero (x ∷ xs) (m ∷ ns) same none =
    omega (
      arith,
      sum_by-cons (λ (p : ℕ × ℕ). p.0 * p.1) (x, m) (zip xs ns),
      ap (λ n. x * n) (none 0 (omega arith) (omega arith)),
      first_total zero xs ns (omega (arith, same)) (λ j above lt. none (suc j) (omega arith) (omega (arith, lt))),
    )
first_total (suc n) (x ∷ xs) (m ∷ ns) same none =
    omega (
      arith,
      sum_by-cons (λ (p : ℕ × ℕ). p.0 * p.1) (x, m) (zip xs ns),
      sum_by-cons (λ (p : ℕ × ℕ). p.0 * p.1) (x, m) (zip (take n xs) (take n ns)),
      first_total n xs ns (omega (arith, same)) (λ j above lt. none (suc j) (omega (arith, above)) (omega (arith, lt))),
    )

-- ---- the line

both_fewer : (b : Bool) (n m : ℕ) → n ≤ m → (if b then n else 0) ≤ (if b then m else 0)
both_fewer true n m le = le
both_fewer false n m le = omega arith

counted : (b : Bool) (n : ℕ) → 0 < (if b then n else 0) → (b ≡ true) × (0 < n)
counted true n some = (refl, some)
counted false n some = absurd (omega (arith, some))

-- no more of a kind is left than there was
used_fewer : (p : Case) (over : Inequality) (s : ℕ) (counts : List (List ℕ)) (kind : ℕ) → used p.links over (surviving_counts p s counts) kind ≤ used p.links over counts kind
used_fewer p over s counts kind = over-le p.links _ _
    (λ e m here inside. both_fewer (nat_eq kind (capped over e m)) (entry (surviving_counts p s counts) e m) (entry counts e m) (left_fewer p s counts e m here inside))

-- a line over which a table ranges, and the state that is looked at
record IsLeft (p : Case) (over : Inequality) (kinds : List ℕ) (counts : List (List ℕ)) (s n : ℕ) : Type 0 where
  are : AreKinds p.links over kinds
  meets : MeetsLine p.links over (surviving_counts p s counts)
  none : (j : ℕ) → n ≤ j → j < length kinds → used p.links over counts (slice_index kinds j) ≡ 0

none_left : (p : Case) (over : Inequality) (kinds : List ℕ) (counts : List (List ℕ)) (s n : ℕ) → IsLeft p over kinds counts s n
    → (j : ℕ) → n ≤ j → j < length (map (used p.links over (surviving_counts p s counts)) kinds) → slice_index (map (used p.links over (surviving_counts p s counts)) kinds) j ≡ 0
none_left p over kinds counts s n is j past inside =
    let within : j < length kinds = omega (arith, inside, length-map kinds (used p.links over (surviving_counts p s counts))) in
    omega (
      arith,
      get_or-map (used p.links over (surviving_counts p s counts)) kinds j 0 0 within,
      used_fewer p over s counts (slice_index kinds j),
      is.none j past within,
    )

-- what is left covers the need with the first kinds
left_covers : (p : Case) (over : Inequality) (kinds : List ℕ) (counts : List (List ℕ)) (s n : ℕ) → IsLeft p over kinds counts s n
    → CoversNeed (take n kinds) (need_of over) (take n (map (used p.links over (surviving_counts p s counts)) kinds))
left_covers p over kinds counts s n is =
    let all = used_covers p.links over kinds (surviving_counts p s counts) is.are is.meets in
    let numbers = map (used p.links over (surviving_counts p s counts)) kinds in
    record {
      same = omega (arith, length-take n kinds, length-take n numbers, all.same);
      enough = omega (arith, all.enough, first_total n kinds numbers all.same (none_left p over kinds counts s n is));
    }

-- what is left weighs no less than the least weight of a cover by the first kinds
left_weighs : (p : Case) (over : Inequality) (kinds weights : List ℕ) (counts : List (List ℕ)) (s n least : ℕ) → IsLeft p over kinds counts s n → length weights ≡ length kinds
    → IsLeastWeight (take n kinds) (take n weights) (need_of over) least
    → least ≤ over_modules p.links (λ e m. weight_of (zip kinds weights) (capped over e m) * entry (surviving_counts p s counts) e m)
left_weighs p over kinds weights counts s n least is paired is_least =
    let numbers = map (used p.links over (surviving_counts p s counts)) kinds in
    omega (
      arith,
      is_least.at_most (take n numbers) (left_covers p over kinds counts s n is),
      first_total n weights numbers (omega (arith, length-map kinds (used p.links over (surviving_counts p s counts)), paired)) (none_left p over kinds counts s n is),
      used_weighs p.links over (surviving_counts p s counts) kinds weights is.are.rising paired,
    )

-- the counts, with the kind of place k the greatest used
record IsMost (p : Case) (over : Inequality) (weights : List ℕ) (made : Inequality) (counts : List (List ℕ)) (k : ℕ) : Type 0 where
  is : IsTableOver p over Failing weights made
  each : (s : ℕ) → s ≤ length p.listed → MeetsLine p.links over (surviving_counts p s counts)
  last : IsLastSome (λ j. used p.links over counts (slice_index is.kinds j)) (length is.kinds) k

most_left : (p : Case) (over : Inequality) (weights : List ℕ) (made : Inequality) (counts : List (List ℕ)) (k : ℕ) (most : IsMost p over weights made counts k)
    → (s : ℕ) → s ≤ length p.listed → IsLeft p over most.is.kinds counts s (k + 1)
most_left p over weights made counts k most s listed = record {
  are = most.is.are;
  meets = most.each s listed;
  none = λ j past inside. most.last.none j (omega (arith, past)) inside;
}

-- a module of the greatest kind used can't fail
spared_right : (p : Case) (over : Inequality) (weights : List ℕ) (made : Inequality) (counts : List (List ℕ)) (k least : ℕ) (most : IsMost p over weights made counts k)
    → IsLeastWeight (take (k + 1) most.is.kinds) (take (k + 1) weights) (need_of over) least
    → least ≤ over_modules p.links (λ e m. weight_of (zip most.is.kinds weights) (capped over e m) * entry counts e m)
spared_right p over weights made counts k least most is_least =
    let weight = λ (e m : ℕ). weight_of (zip most.is.kinds weights) (capped over e m) in
    omega (
      arith,
      left_weighs p over most.is.kinds weights counts 0 (k + 1) least (most_left p over weights made counts k most 0 (omega arith)) most.is.paired is_least,
      over-le p.links (λ e m. weight e m * entry (surviving_counts p 0 counts) e m) (λ e m. weight e m * entry counts e m)
          (λ e m here inside. mul-le-mul_left (weight e m) (left_fewer p 0 counts e m here inside)),
    )

-- the link of a module of the greatest kind used fails
failed_right : (p : Case) (over : Inequality) (weights : List ℕ) (made : Inequality) (counts : List (List ℕ)) (k least : ℕ) (most : IsMost p over weights made counts k)
    → IsLeastWeight (take (k + 1) most.is.kinds) (take (k + 1) weights) (need_of over) least → (IsSpared p over (slice_index most.is.kinds k) → ⊥)
    → slice_index weights k + least ≤ over_modules p.links (λ e m. weight_of (zip most.is.kinds weights) (capped over e m) * entry counts e m)
failed_right p over weights made counts k least most is_least not_spared =
    let kinds = most.is.kinds in
    let weight = λ (e m : ℕ). weight_of (zip kinds weights) (capped over e m) in
    let some = over_some p.links (λ e m. if nat_eq (slice_index kinds k) (capped over e m) then entry counts e m else 0) most.last.some in
    let e = some.0 in
    let m = some.1 in
    let here = some.2 in
    let inside = some.3 in
    let is_used = counted (nat_eq (slice_index kinds k) (capped over e m)) (entry counts e m) some.4 in
    let same : capped over e m ≡ slice_index kinds k = sym (eqb-true (slice_index kinds k) (capped over e m) is_used.0) in
    let state = failing_state p e (λ never. not_spared (e, m, here, inside, same, never)) in
    let w : weight e m ≡ slice_index weights k = ap (λ n. weight_of (zip kinds weights) n) same ∙ weight_at kinds weights k most.is.are.rising most.is.paired most.last.inside in
    let gone : weight e m * entry (surviving_counts p state.0 counts) e m ≡ 0 = omega (arith, ap (λ n. weight e m * n) (left_none p state.0 counts e m here inside state.2)) in
    let there : slice_index weights k ≤ weight e m * entry counts e m = omega (arith, w, mul-le-mul_left (weight e m) is_used.1) in
    omega (
      arith,
      left_weighs p over kinds weights counts state.0 (k + 1) least (most_left p over weights made counts k most state.0 state.1) most.is.paired is_least,
      over_gap p.links (λ i j. weight i j * entry (surviving_counts p state.0 counts) i j) (λ i j. weight i j * entry counts i j) e m (slice_index weights k)
          (λ i j hi hj. mul-le-mul_left (weight i j) (left_fewer p state.0 counts i j hi hj)) here inside (omega (arith, gone, there)),
    )

most_right : (p : Case) (over : Inequality) (weights : List ℕ) (made : Inequality) (counts : List (List ℕ)) (k : ℕ) (most : IsMost p over weights made counts k)
    → most.is.right ≤ over_modules p.links (λ e m. weight_of (zip most.is.kinds weights) (capped over e m) * entry counts e m)
most_right p over weights made counts k most =
    let found = most.is.is_right.1 k most.last.inside in
    let without = found.1 in
    ⊎_elim
    (λ (spared : IsSpared p over (slice_index most.is.kinds k) × (without.failed ≡ 0)).
    omega (arith, found.2, without.sum, spared.1, spared_right p over weights made counts k without.least most without.is_least))
    (λ (fails_once : (IsSpared p over (slice_index most.is.kinds k) → ⊥) × (without.failed ≡ slice_index weights k)).
    omega (arith, found.2, without.sum, fails_once.1, failed_right p over weights made counts k without.least most without.is_least fails_once.0))
    without.is_failed

-- some module is used, since something is needed
none_used : (p : Case) (over : Inequality) (kinds : List ℕ) (counts : List (List ℕ)) → IsLeft p over kinds counts 0 0 → 1 ≤ need_of over → ⊥
none_used p over kinds counts is some = omega (arith, some, (left_covers p over kinds counts 0 0 is).enough)

pub failing_table_is_met : (p : Case) (over : Inequality) (weights : List ℕ) (made : Inequality) (counts : List (List ℕ)) → AreCounts p.links counts
    → ((s : ℕ) → s ≤ length p.listed → MeetsLine p.links over (surviving_counts p s counts)) → IsTableOver p over Failing weights made → MeetsLine p.links made counts
failing_table_is_met p over weights made counts shape each is =
    let left = table_weighs p.links over is.kinds weights is.right counts in
    let right : is.right ≤ over_modules p.links (λ e m. weight_of (zip is.kinds weights) (capped over e m) * entry counts e m) = ⊎_elim
    (λ (most : (k : ℕ) × IsLastSome (λ j. used p.links over counts (slice_index is.kinds j)) (length is.kinds) k).
    most_right p over weights made counts most.0 (record { is = is; each = each; last = most.1 }))
    (λ (none : (j : ℕ) → j < length is.kinds → used p.links over counts (slice_index is.kinds j) ≡ 0).
    absurd (none_used p over is.kinds counts (record { are = is.are; meets = each 0 (omega arith); none = λ j past inside. none j inside }) is.some))
    (last_some (λ j. used p.links over counts (slice_index is.kinds j)) (length is.kinds)) in
    subst (λ line. MeetsLine p.links line counts) (sym is.is) (omega (arith, right, left))
