-- kinds found one by one
use Rattle.std.{proofs.Common.{◌≡◌, ℕ, ◌+◌, ◌<◌, ◌≤◌, ◌⊎◌, inl, inr, ⊎_elim, List, [], ◌∷◌, ◌++◌, Contains, get_or, length, length-append, slice_index, subst, sym, ◌∙◌, arith}, proofs.lemmas.List.Elements.Contains-push_cases}
use Rattle.net_core.proofs.Library.{Contains-append_left, Contains-get_or, Contains-push, cases_lt, get_or-map, get_or_append_left, get_or_push, none_within}
use Rattle.plan_terms.specs.Terms.{Link}
use Rattle.line_check.{specs.Inequalities.{module_number, need_of}, specs.Lines.{AreKinds, GivesSome, capped}, specs.inner.Tables.{AreKindsTo, GivesAmong, GivesOn}, specs.declared.inequality.Inequality.Inequality}

pub no_kinds : (links : List Link) (over : Inequality) → AreKindsTo links over 0 []
no_kinds links over = record {
  rising = λ i j lt inside. absurd (omega (arith, inside));
  each = λ n. (λ has. absurd (none_within n has), λ gives. absurd (omega (arith, gives.0, gives.1)));
}

-- the numbers before the new one are below it
rising_more : (xs : List ℕ) (x : ℕ) → ((i j : ℕ) → i < j → j < length xs → slice_index xs i < slice_index xs j) → ((i : ℕ) → i < length xs → slice_index xs i < x)
    → (i j : ℕ) → i < j → j < length (xs ++ x ∷ []) → slice_index (xs ++ x ∷ []) i < slice_index (xs ++ x ∷ []) j
rising_more xs x rising below i j lt inside = ⊎_elim
    (λ (old : j < length xs). omega (arith, get_or_append_left xs (x ∷ []) 0 i (omega (arith, lt, old)), get_or_append_left xs (x ∷ []) 0 j old, rising i j lt old))
    (λ (new : length xs ≤ j).
    let last : length xs ≡ j = omega (arith, new, inside, length-append xs (x ∷ [])) in
    let before : i < length xs = omega (arith, lt, last) in
    omega (arith, get_or_append_left xs (x ∷ []) 0 i before, get_or_push xs x 0 j last, below i before))
    (cases_lt j (length xs))

pub one_kind_more : (links : List Link) (over : Inequality) (last next : ℕ) (kinds : List ℕ) → AreKindsTo links over last kinds → last < next → GivesSome links over next
    → ((n : ℕ) → last < n → GivesSome links over n → next ≤ n) → AreKindsTo links over next (kinds ++ next ∷ [])
one_kind_more links over last next kinds are above gives least = record {
  rising = rising_more kinds next are.rising (λ i inside. omega (arith, ((are.each (slice_index kinds i)).0 (Contains-get_or kinds i 0 inside)).1, above));
  each = λ n. (
    λ has. ⊎_elim
        (λ (old : Contains kinds n). let is = (are.each n).0 old in (is.0, omega (arith, is.1, above), is.2))
        (λ (new : next ≡ n). (omega (arith, new, above), omega (arith, new), subst (λ k. GivesSome links over k) new gives))
        (Contains-push_cases kinds next n has),
    λ is. ⊎_elim
        (λ (after : last < n). let same : next ≡ n = omega (arith, least n after is.2, is.1) in subst (λ k. Contains (kinds ++ next ∷ []) k) same (Contains-push kinds next))
        (λ (old : n ≤ last). Contains-append_left kinds (next ∷ []) n ((are.each n).1 (is.0, old, is.2)))
        (cases_lt last n),
  );
}

-- nothing given is more than is needed
pub given_low : (links : List Link) (over : Inequality) (n : ℕ) → GivesSome links over n → n ≤ need_of over
given_low links over n gives = omega (arith, gives.4)

pub all_kinds : (links : List Link) (over : Inequality) (last : ℕ) (kinds : List ℕ) → AreKindsTo links over last kinds → ((n : ℕ) → last < n → GivesSome links over n → ⊥) → AreKinds links over kinds
all_kinds links over last kinds are none = record {
  rising = are.rising;
  each = λ n. (
    λ has. let is = (are.each n).0 has in (is.0, is.2),
    λ is. ⊎_elim
        (λ (after : last < n). absurd (none n after is.1))
        (λ (old : n ≤ last). (are.each n).1 (is.0, old, is.1))
        (cases_lt last n),
  );
}

-- ---- the next kind, link by link

pub module_number_is : (links : List Link) (e : ℕ) (l : Link) → e < length links → length (get_or links e l).modules ≡ module_number links e
module_number_is links e l here = sym (get_or-map (λ (x : Link). length x.modules) links e l 0 here)

pub next_least : (links : List Link) (over : Inequality) (e modules above best next : ℕ) → modules ≡ module_number links e → next ≤ best
    → ((m : ℕ) → m < modules → above < capped over e m → next ≤ capped over e m) → ((n : ℕ) → above < n → GivesAmong links over e n → best ≤ n)
    → (n : ℕ) → above < n → GivesAmong links over (e + 1) n → next ≤ n
next_least links over e modules above best next same below on_link before n after gives = ⊎_elim
    (λ (earlier : gives.0 < e). omega (arith, below, before n after (gives.0, gives.1, earlier, gives.3, gives.4)))
    (λ (here : e ≤ gives.0).
    let is : gives.0 ≡ e = omega (arith, here, gives.2) in
    let inside : gives.1 < module_number links e = subst (λ i. gives.1 < module_number links i) is gives.3 in
    let given : capped over e gives.1 ≡ n = subst (λ i. capped over i gives.1 ≡ n) is gives.4 in
    omega (arith, given, on_link gives.1 (omega (arith, inside, same)) (omega (arith, given, after))))
    (cases_lt gives.0 e)

pub next_is : (links : List Link) (over : Inequality) (e modules above best next none : ℕ) → modules ≡ module_number links e
    → ((best ≡ none) ⊎ ((above < best) × GivesAmong links over e best)) → ((next ≡ best) ⊎ ((above < next) × GivesOn over e modules next))
    → (next ≡ none) ⊎ ((above < next) × GivesAmong links over (e + 1) next)
next_is links over e modules above best next none same before on_link = ⊎_elim
    (λ (is : next ≡ best). ⊎_elim
    (λ (no_best : best ≡ none). inl (is ∙ no_best))
    (λ (some : (above < best) × GivesAmong links over e best).
    let gives = some.1 in
    inr (omega (arith, is, some.0), (gives.0, gives.1, omega (arith, gives.2), gives.3, gives.4 ∙ sym is)))
    before)
    (λ (some : (above < next) × GivesOn over e modules next).
    let gives = some.1 in
    inr (some.0, (e, gives.0, omega arith, omega (arith, gives.1, same), gives.2)))
    on_link
