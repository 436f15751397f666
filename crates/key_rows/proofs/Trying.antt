-- which keys have to be tried, and what is known when they have been
use Rattle.std.proofs.Common.{◌≡◌, ◌≢◌, ℕ, ℤ, zero, suc, List, Option, Some, None, length, pos, ◌+◌, ◌-◌, ◌<◌, ◌≤◌, ◌⊎◌, inl, inr, get_or, unsigned_abs, sym, ap, ◌∙◌, subst, refl, arith, ⊎_elim}
use Rattle.net_core.{proofs.Library.{ForSome, cases_eq, cases_lt, ints}, specs.declared.columns.RouteColumn.RouteColumn, specs.declared.columns.RouteColumn.TheVariants.{LinkSlack, DemandSlack, Carry}, specs.declared.ids.LinkId.LinkId}
use Rattle.checked_fraction.specs.Terms.{num}
use Rattle.simplex_law.{specs.Terms.ColumnOf, proofs.Lemmas.unit-other}
use Rattle.key_law.specs.Terms.{left_column}
use Rattle.key_rows.{specs.FirstRoles.{IsAsked, IsFirstOfRoles, IsFirstRole, LimitsNothing}, specs.KeyRows.{IsOwn, HaveValues}, specs.KeyTests.HaveColumnProducts, specs.Names.{demand_in, own_entry}, specs.inner.Candidates.{IsJoined, IsKeyCandidate, IsPlacedCandidate, IsWithKey}, specs.inner.Orders.IsBestRow, specs.inner.Tried.{role_in, IsSeen, IsTouched, IsTried, TouchesNoMore}, specs.declared.keyed.Keyed.Keyed, specs.declared.order.Candidate.Candidate, proofs.RatioTests.{rows_first, with_key_first, untouched_limits_nothing}}

-- fewer roles
fewer_roles : (m : ℕ) (bound : ℕ → ℤ) (basis : ℕ → ColumnOf RouteColumn) (place : ℕ → ℕ) (a : ℕ → ℤ) (these others : ℕ → Type 0) (o : Option ℕ) → ((r : ℕ) → r < m → others r → these r)
    → IsFirstRole m bound basis place a these o → IsFirstRole m bound basis place a others o
fewer_roles m bound basis place a these others None less first = λ r l t. first r l (less r l t)
fewer_roles m bound basis place a these others (Some x) less first = (first.0, first.1, λ s l t. first.2 s l (less s l t))

pub fewer : (b : Keyed) (name : RouteColumn) (these others : ℕ → Type 0) (o : Option ℕ) → ((r : ℕ) → r < length b.rows + length b.duals → others r → these r)
    → IsFirstOfRoles b name these o → IsFirstOfRoles b name others o
fewer b name these others o less first bound basis place role c ask = fewer_roles (length b.rows + length b.duals) bound basis place c.entry these others o less (first bound basis place role c ask)

-- a demand's key more
pub key_more : (b : Keyed) (name : RouteColumn) (key : List LinkId) (these : ℕ → Type 0) (d : ℕ) (best after : Option Candidate) → HaveColumnProducts b name key → d < length b.duals
    → ForSome best (IsPlacedCandidate b name) → IsWithKey b name key d best after → IsFirstOfRoles b name these (role_in best)
    → IsFirstOfRoles b name (λ s. these s ⊎ (s ≡ length b.rows + d)) (role_in after)
key_more b name key these d best after products ld are is first bound basis place role c ask =
    with_key_first ask.keyed name key c.entry ask.products products (λ e l. sym (ask.named.demand e l)) these d best after ld
    (λ y e. let p = are y e in (p.inside, p.is)) (first bound basis place role c ask) is

-- the best is a candidate whose role there is, after a key more
pub placed_more : (b : Keyed) (name : RouteColumn) (key : List LinkId) (d : ℕ) (best after : Option Candidate) → d < length b.duals
    → ForSome best (IsPlacedCandidate b name) → IsWithKey b name key d best after → ForSome after (IsPlacedCandidate b name)
placed_more b name key d best after ld are is = ⊎_elim
    (λ none. subst (λ o. ForSome o (IsPlacedCandidate b name)) (sym none.1) are)
    (λ more. ⊎_elim
    (λ same. subst (λ o. ForSome o (IsPlacedCandidate b name)) (sym same.3) are)
    (λ new. joined best new.0 (placed new.0 new.1) are new.2)
    more)
    is
  where
    placed : (x : Candidate) → IsKeyCandidate b d (own_entry name d) x → IsPlacedCandidate b name x
    placed x c = let same : d ≡ x.role - length b.rows = omega (arith, c.role) in record {
      inside = omega (arith, c.role, ld);
      is = inr (omega (arith, c.role), subst (λ e. IsKeyCandidate b e (own_entry name e) x) same c);
    }

    some : (x : Candidate) → IsPlacedCandidate b name x → ForSome (Some x) (IsPlacedCandidate b name)
    some x p y e = let same : x ≡ y = cc in subst (IsPlacedCandidate b name) same p

    joined : (o : Option Candidate) (x : Candidate) → IsPlacedCandidate b name x → ForSome o (IsPlacedCandidate b name) → IsJoined b name key o x after → ForSome after (IsPlacedCandidate b name)
    joined None x p all j = subst (λ o. ForSome o (IsPlacedCandidate b name)) (sym j) (some x p)
    joined (Some y) x p all j = subst (λ o. ForSome o (IsPlacedCandidate b name)) (sym j.1) (⊎_elim
        (λ old. subst (λ z. ForSome (Some z) (IsPlacedCandidate b name)) (sym old.0) all)
        (λ new. subst (λ z. ForSome (Some z) (IsPlacedCandidate b name)) (sym new.0) (some x p))
        j.2)

-- a row touches no more demands where it has no product, or its demand isn't there, or is touched already
pub no_more : (b : Keyed) (name : RouteColumn) (i : ℕ)
    → (num b.products i ≡ pos 0) ⊎ ((length b.duals ≤ get_or b.owners i 0) ⊎ IsTouched b name i (get_or b.owners i 0)) → TouchesNoMore b name i
no_more b name i why d ld (inl own) = inl own
no_more b name i why d ld (inr seen) = ⊎_elim
    (λ less. inr (seen.0, less, seen.2, seen.3))
    (λ ge. let at : seen.0 ≡ i = omega (arith, seen.1, ge) in
    let own : get_or b.owners i 0 ≡ d = subst (λ j. get_or b.owners j 0 ≡ d) at seen.2 in
    ⊎_elim
    (λ none. absurd (seen.3 (ap (num b.products) at ∙ none)))
    (λ more. ⊎_elim
    (λ high. absurd (omega (arith, high, own, ld)))
    (λ touched. subst (IsTouched b name i) own touched)
    more)
    why)
    (cases_lt seen.0 i)

pub tried_no_more : (b : Keyed) (name : RouteColumn) (i : ℕ) → TouchesNoMore b name i → (r : ℕ) → r < length b.rows + length b.duals → IsTried b name (i + 1) r → IsTried b name i r
tried_no_more b name i none r l (inl low) = inl low
tried_no_more b name i none r l (inr key) = inr (key.0, key.1, none key.0 (omega (arith, l, key.1)) key.2)

pub tried_more : (b : Keyed) (name : RouteColumn) (i : ℕ) (r : ℕ) → IsTried b name (i + 1) r → IsTried b name i r ⊎ (r ≡ length b.rows + get_or b.owners i 0)
tried_more b name i r (inl low) = inl (inl low)
tried_more b name i r (inr (d, at, inl own)) = inl (inr (d, at, inl own))
tried_more b name i r (inr (d, at, inr seen)) = ⊎_elim
    (λ less. inl (inr (d, at, inr (seen.0, less, seen.2, seen.3))))
    (λ ge. let same : seen.0 ≡ i = omega (arith, seen.1, ge) in inr (at ∙ ap (λ x. length b.rows + x) (sym (subst (λ j. get_or b.owners j 0 ≡ d) same seen.2))))
    (cases_lt seen.0 i)

pub tried_own : (b : Keyed) (name : RouteColumn) (o : Option ℕ) (r : ℕ) → demand_in name ≡ o → IsTried b name 0 r → (r < length b.rows) ⊎ ((d : ℕ) × (o ≡ Some d) × (r ≡ length b.rows + d))
tried_own b name o r is (inl low) = inl low
tried_own b name o r is (inr (d, at, inl own)) = inr (d, sym is ∙ own, at)
tried_own b name o r is (inr (d, at, inr seen)) = absurd (omega (arith, seen.1))

-- before any row is asked, the column's own demand alone is touched
pub with_own : (b : Keyed) (name : RouteColumn) (d : ℕ) → demand_in name ≡ Some d → (r : ℕ) → IsTried b name 0 r → (r < length b.rows) ⊎ (r ≡ length b.rows + d)
with_own b name d is r t = ⊎_elim (λ low. inl low) (λ k. let same : d ≡ k.0 = cc in inr (k.2 ∙ ap (λ x. length b.rows + x) (sym same))) (tried_own b name (Some d) r is t)

pub without_own : (b : Keyed) (name : RouteColumn) → demand_in name ≡ None → (r : ℕ) → IsTried b name 0 r → r < length b.rows
without_own b name is r t = ⊎_elim (λ low. low) (λ k. absurd cc) (tried_own b name None r is t)

-- a number is 0, or it isn't
is_none : (x : ℤ) → (x ≡ pos 0) ⊎ (x ≢ pos 0)
is_none x = ⊎_elim
    (λ e. inl (omega (arith, ints, e)))
    (λ ne. inr (λ e. ne (omega (arith, ints, e))))
    (cases_eq (unsigned_abs x) 0)

-- a demand is seen among the first rows, or none of them has a product
seen_or_none : (owners : List ℕ) (products : List ℤ) (d n : ℕ) → IsSeen owners products n d ⊎ ((j : ℕ) → j < n → IsOwn owners d j → num products j ≡ pos 0)
seen_or_none owners products d zero = inr (λ j l. absurd (omega (arith, l)))
seen_or_none owners products d (suc n) = ⊎_elim
    (λ seen. inl (seen.0, omega (arith, seen.1), seen.2, seen.3))
    (λ none. ⊎_elim
    (λ own. ⊎_elim
    (λ gone. inr (last none (λ o. gone)))
    (λ some. inl (n, omega arith, own, some))
    (is_none (num products n)))
    (λ ne. inr (last none (λ o. absurd (ne o))))
    (cases_eq (get_or owners n 0) d))
    (seen_or_none owners products d n)
  where
    last : ((j : ℕ) → j < n → IsOwn owners d j → num products j ≡ pos 0) → (IsOwn owners d n → num products n ≡ pos 0) → (j : ℕ) → j < suc n → IsOwn owners d j → num products j ≡ pos 0
    last none here j l own = ⊎_elim
        (λ less. none j less own)
        (λ ge. let e : n ≡ j = omega (arith, l, ge) in subst (λ i. num products i ≡ pos 0) e (here (subst (λ i. IsOwn owners d i) (sym e) own)))
        (cases_lt j n)

own_or_none : (name : RouteColumn) (d : ℕ) → (demand_in name ≡ Some d) ⊎ (own_entry name d ≡ pos 0)
own_or_none (LinkSlack link) d = inr refl
own_or_none (DemandSlack e) d = ⊎_elim (λ same. inl (ap (λ x. Some x) same)) (λ ne. inr (unit-other e d ne)) (cases_eq e d)
own_or_none (Carry e path) d = ⊎_elim (λ same. inl (ap (λ x. Some x) same)) (λ ne. inr (unit-other e d ne)) (cases_eq e d)

-- the keys that are never tried don't limit the column
tried_or_nothing : (b : Keyed) (name : RouteColumn) (key : List LinkId) (bound : ℕ → ℤ) (basis : ℕ → ColumnOf RouteColumn) (place role : ℕ → ℕ) (c : ColumnOf RouteColumn) → HaveColumnProducts b name key
    → IsAsked bound basis place role b name c → (r : ℕ) → r < length b.rows + length b.duals
    → IsTried b name (length b.rows) r ⊎ LimitsNothing (length b.rows + length b.duals) bound basis place c.entry r
tried_or_nothing b name key bound basis place role c products ask r l = ⊎_elim
    (λ low. inl (inl low))
    (λ ge. let d = r - length b.rows in
    let at : r ≡ length b.rows + d = omega (arith, ge) in
    let ld : d < length b.duals = omega (arith, at, l) in
    ⊎_elim
    (λ own. inl (inr (d, at, inl own)))
    (λ none. ⊎_elim
    (λ seen. inl (inr (d, at, inr seen)))
    (λ each. inr (subst (LimitsNothing (length b.rows + length b.duals) bound basis place c.entry) (sym at)
    (untouched_limits_nothing ask.keyed name key c.entry ask.products products (λ e le. sym (ask.named.demand e le)) d ld none each)))
    (seen_or_none b.owners b.products d (length b.rows)))
    (own_or_none name d))
    (cases_lt r (length b.rows))

-- so the first of those that are tried is the first of all
pub all_first : (b : Keyed) (name : RouteColumn) (key : List LinkId) (o : Option ℕ) → HaveColumnProducts b name key → IsFirstOfRoles b name (IsTried b name (length b.rows)) o → IsFirstOfRoles b name (λ r. Unit {0}) o
all_first b name key None products first bound basis place role c ask =
    λ r l all. ⊎_elim (λ t. first bound basis place role c ask r l t) (λ none. none) (tried_or_nothing b name key bound basis place role c products ask r l)
all_first b name key (Some x) products first bound basis place role c ask =
    let f = first bound basis place role c ask in (
      f.0,
      f.1,
      λ s l all. ⊎_elim (λ t. f.2 s l t) (λ none u v d e hu hv pu pv. absurd (none v e hv pv)) (tried_or_nothing b name key bound basis place role c products ask s l),
    )

-- the first of the rows is the first of their roles
pub best_first_of_rows : (b : Keyed) (name : RouteColumn) (key : List LinkId) (o : Option Candidate) → HaveColumnProducts b name key
    → ((rest : ℕ → ℤ) → HaveValues (length b.rows) b.rows rest b.values → IsBestRow (length b.rows) b.rows rest b.values b.products (length b.rows) o) → IsFirstOfRoles b name (λ r. r < length b.rows) (role_in o)
best_first_of_rows b name key o products best bound basis place role c ask =
    rows_first ask.keyed name key c.entry ask.products products (λ e l. sym (ask.named.demand e l)) o (best (left_column (length b.rows) (length b.duals) basis place bound) ask.keyed.values)
