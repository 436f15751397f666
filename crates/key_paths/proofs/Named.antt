-- columns by their names
use Rattle.std.proofs.Common.{◌≡◌, ◌≢◌, ℕ, List, Some, pos, length, slice_set, ◌<◌, ◌+◌, ◌-◌, cond, refl, sym, ap, ◌∙◌, subst, arith, inl, inr, ⊎_elim, ℤ, ◌-ℤ◌, ◌*ℤ◌, ◌<ℤ◌, ◌≤ℤ◌, eq-eqb, ne_eqb, get_or-set_same, get_or-set_other}
use Rattle.net_core.proofs.Library.{cases_eq, cases_lt, ints}
use Rattle.checked_fraction.specs.Terms.{IsNarrow}
use Rattle.plan_terms.specs.Terms.{RouteColumn, LinkSlack, DemandSlack, Carry}
use Rattle.simplex_law.{specs.Terms.{dot, unit_vector, put, ColumnOf, IsPacking}, proofs.Lemmas.{unit-same, unit-other, dot-same}}
use Rattle.key_law.{specs.Terms.{key, key_part, full_prices}, proofs.Lemmas.is_spread}
use Rattle.key_rows.specs.Terms.{IsColumnNamed, demand_in, gain_in, links_in, column_name, own_entry, owner_in, path_uses, uses, key_dual, IsShortPath, IsNameWithin}
use Rattle.key_paths.specs.inner.Held.{IsZeroOrOne, IsNameOf, IsOnce}

-- a column of a name of links and a demand that there are
abbrev pub IsNamedColumn : ℕ → ℕ → ColumnOf RouteColumn → Type 0
IsNamedColumn links demands c = (name : RouteColumn) × IsNameOf links demands name × IsColumnNamed links demands name c

-- entries are 0 or 1
unit_01 : (i k : ℕ) → IsZeroOrOne (unit_vector i k)
unit_01 i k = ⊎_elim
    (λ e. subst (λ j. IsZeroOrOne (unit_vector i j)) e (inr (unit-same i)))
    (λ ne. inl (unit-other i k ne))
    (cases_eq i k)

unit_is : (i k : ℕ) → unit_vector i k ≡ pos 1 → i ≡ k
unit_is i k e = ⊎_elim (λ same. same) (λ ne. absurd (none (unit-other i k ne) e)) (cases_eq i k)
  where
    none : {x : ℤ} → x ≡ pos 0 → x ≡ pos 1 → ⊥
    none {x} a b = omega (arith, ints, a, b)

own_01 : (name : RouteColumn) (d : ℕ) → IsZeroOrOne (own_entry name d)
own_01 (LinkSlack l) d = inl refl
own_01 (DemandSlack e) d = unit_01 e d
own_01 (Carry e path) d = unit_01 e d

pub entry_01 : (links demands : ℕ) (name : RouteColumn) (c : ColumnOf RouteColumn) → IsNameOf links demands name → IsColumnNamed links demands name c → (k : ℕ) → k < links + demands → IsZeroOrOne (c.entry k)
entry_01 links demands name c of named k l = ⊎_elim
    (λ lt. subst IsZeroOrOne (sym (named.link k lt)) (of.once k lt))
    (λ le.
    let is : links + (k - links) ≡ k = omega (arith, le) in
    let low : k - links < demands = omega (arith, le, l) in
    subst (λ x. IsZeroOrOne (c.entry x)) is (subst IsZeroOrOne (sym (named.demand (k - links) low)) (own_01 name (k - links))))
    (cases_lt k links)

pub small : (x : ℤ) → IsZeroOrOne x → (pos 0 ≤ℤ x) × IsNarrow x
small x h = ⊎_elim (λ e. (omega (arith, ints, e), omega (arith, ints, e))) (λ e. (omega (arith, ints, e), omega (arith, ints, e))) h

-- a column that isn't one of demand d
pub own_none : (name : RouteColumn) (demands d : ℕ) → owner_in demands name ≢ d → own_entry name d ≡ pos 0
own_none (LinkSlack l) demands d ne = refl
own_none (DemandSlack f) demands d ne = unit-other f d ne
own_none (Carry f path) demands d ne = unit-other f d ne

-- a column of a demand takes of links what its path does
pub uses_path : (name : RouteColumn) (d : ℕ) → own_entry name d ≡ pos 1 → (k : ℕ) → uses name k ≡ path_uses (links_in name) k
uses_path (LinkSlack l) d e k = absurd (cc)
uses_path (DemandSlack f) d e k = refl
uses_path (Carry f path) d e k = refl

pub short_links : (n : ℕ) (name : RouteColumn) → IsNameWithin n name → IsShortPath n (links_in name)
short_links n (LinkSlack l) h = (tt, omega arith)
short_links n (DemandSlack d) h = (tt, omega arith)
short_links n (Carry d path) h = h

pub once_links : (links demands : ℕ) (name : RouteColumn) (d : ℕ) → own_entry name d ≡ pos 1 → IsNameOf links demands name → IsOnce links (links_in name)
once_links links demands name d own of = record {
  short = short_links links name of.within;
  once = λ k l. subst IsZeroOrOne (uses_path name d own k) (of.once k l);
}

gain_narrow : (name : RouteColumn) → IsNarrow (gain_in name)
gain_narrow (LinkSlack l) = omega (arith, ints)
gain_narrow (DemandSlack d) = omega (arith, ints)
gain_narrow (Carry d path) = omega (arith, ints)

-- a column that gains has the entry 1 in its demand
gains_own : (name : RouteColumn) → pos 0 <ℤ gain_in name → (d : ℕ) × (demand_in name ≡ Some d) × (own_entry name d ≡ pos 1)
gains_own (LinkSlack l) h = absurd (omega (arith, ints, h))
gains_own (DemandSlack d) h = absurd (omega (arith, ints, h))
gains_own (Carry d path) h = (d, refl, unit-same d)

-- two columns of one name are equal
same_named : (links demands : ℕ) (name other : RouteColumn) (c e : ColumnOf RouteColumn) → IsColumnNamed links demands name c → IsColumnNamed links demands other e → name ≡ other → (k : ℕ) → k < links + demands → c.entry k ≡ e.entry k
same_named links demands name other c e nc ne same k l = ⊎_elim
    (λ lt. nc.link k lt ∙ (ap (λ x. uses x k) same ∙ sym (ne.link k lt)))
    (λ le.
    let is : links + (k - links) ≡ k = omega (arith, le) in
    let low : k - links < demands = omega (arith, le, l) in
    subst (λ x. c.entry x ≡ e.entry x) is (nc.demand (k - links) low ∙ (ap (λ x. own_entry x (k - links)) same ∙ sym (ne.demand (k - links) low))))
    (cases_lt k links)

-- columns of names make a packing program
pub named_packing : (links demands : ℕ) (bound : ℕ → ℤ) → ((k : ℕ) → k < links + demands → (pos 0 ≤ℤ bound k) × IsNarrow (bound k)) → IsPacking (links + demands) bound (IsNamedColumn links demands)
named_packing links demands bound bounds = record {
  bounds = bounds;
  gains = λ c is. subst IsNarrow (sym is.2.gain) (gain_narrow is.0);
  entries = λ c is k l. small (c.entry k) (entry_01 links demands is.0 c is.1 is.2 k l);
  limited = λ c is some.
      let own = gains_own is.0 (subst (λ x. pos 0 <ℤ x) is.2.gain some) in
      let low : own.0 < demands = is.1.demand own.0 own.1 in
      (links + own.0, omega (arith, low), above (is.2.demand own.0 low ∙ own.2));
  named = λ c e is be same.
      let names : is.0 ≡ be.0 = sym is.2.named ∙ (same ∙ be.2.named) in
      (is.2.gain ∙ (ap gain_in names ∙ sym be.2.gain), same_named links demands is.0 be.0 c e is.2 be.2 names);
}
  where
    above : {x : ℤ} → x ≡ pos 1 → pos 0 <ℤ x
    above {x} e = omega (arith, ints, e)

-- the price of a demand, by the name of its key
pub named_price : (links demands : ℕ) (basis : ℕ → ColumnOf RouteColumn) (place : ℕ → ℕ) (prices : ℕ → ℤ) (den : ℤ) (d : ℕ) (name : RouteColumn) → d < demands
    → IsColumnNamed links demands name (basis (place (links + d))) → own_entry name d ≡ pos 1 → full_prices links demands basis place prices den (links + d) ≡ key_dual links prices den name
named_price links demands basis place prices den d name ld named own =
    (is_spread links demands (key_part links demands basis place) (λ x. (key links demands basis place x).gain) prices den).demand d ld
    ∙ (ap (λ x. (den *ℤ x) -ℤ dot links prices (key_part links demands basis place d)) named.gain
    ∙ ap (λ x. (den *ℤ gain_in name) -ℤ x) (dot-same links prices prices _ _ (λ k l. refl) (λ k l. named.link k l ∙ uses_path name d own k)))

-- one more name and its column
pub put_each : (Q : RouteColumn → ColumnOf RouteColumn → Type 0) (names : List RouteColumn) (basis : ℕ → ColumnOf RouteColumn) (p : ℕ) (name : RouteColumn) (c : ColumnOf RouteColumn) (j : ℕ) → p < length names
    → Q name c → Q (column_name names j) (basis j) → Q (column_name (slice_set names p name) j) (put basis p c j)
put_each Q names basis p name c j lt here there = ⊎_elim
    (λ e. subst (λ x. Q (column_name (slice_set names p name) x) (put basis p c x)) e
    (subst (λ x. Q x (put basis p c p)) (sym (get_or-set_same names p name (DemandSlack 0) lt)) (subst (λ x. Q name x) (sym (ap (λ t. cond t c (basis p)) (eq-eqb p p refl))) here)))
    (λ ne. subst (λ x. Q x (put basis p c j)) (sym (get_or-set_other names p j name (DemandSlack 0) (λ e. ne (sym e)))) (subst (λ x. Q (column_name names j) x) (sym (ap (λ t. cond t c (basis j)) (ne_eqb p j ne))) there))
    (cases_eq p j)

-- the owner of a column of demand d
pub own_owner : (name : RouteColumn) (demands d : ℕ) → own_entry name d ≡ pos 1 → owner_in demands name ≡ d
own_owner (LinkSlack l) demands d e = absurd (omega (arith, ints, e))
own_owner (DemandSlack f) demands d e = unit_is f d e
own_owner (Carry f path) demands d e = unit_is f d e
