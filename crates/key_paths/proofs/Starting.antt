-- the slack basis, in which the slack of each demand is its key
use Rattle.std.proofs.Common.{◌≡◌, ℕ, ℤ, length, pos, ◌+◌, ◌-◌, ◌<◌, ◌-ℤ◌, ◌*ℤ◌, sym, ap, ◌∙◌, subst, refl, arith, ⊎_elim, ◌≤ℤ◌}
use Rattle.net_core.proofs.Library.{*ℤ-zero, cases_lt, ints}
use Rattle.checked_fraction.specs.Terms.{num}
use Rattle.plan_terms.specs.Terms.{Graph, RouteColumn, LinkSlack, DemandSlack}
use Rattle.route_law.{specs.Terms.route_slack, proofs.Lemmas.{beside_first, beside_after}}
use Rattle.simplex_law.{specs.Terms.{dot, unit_vector, slack_basis}, proofs.Lemmas.{sum-same, sum-none, unit-same, unit-other, dot-of-unit, dot-none}}
use Rattle.simplex_core.specs.Terms.{nums_at, den_at}
use Rattle.key_law.{specs.Terms.left_column, proofs.Lemmas.{is_spread, kept_start}}
use Rattle.key_rows.{specs.Terms.{IsColumnNamed, IsKeyed, gain_in, uses, own_entry, owner_in, column_name}, specs.declared.keyed.Keyed.Keyed}
use Rattle.key_paths.specs.inner.Starts.{IsStart}

plain : (x : ℤ) → x -ℤ pos 0 ≡ x
plain x = omega (arith, ints)

no_product : (den g : ℤ) (s : ℤ) → g ≡ pos 0 → s ≡ pos 0 → (den *ℤ g) -ℤ s ≡ pos 0
no_product den g s eg es = ap (λ x. (den *ℤ x) -ℤ s) eg ∙ (ap (λ x. x -ℤ s) (*ℤ-zero den) ∙ (ap (λ x. pos 0 -ℤ x) es ∙ plain (pos 0)))

apart : (links d k : ℕ) → k < links → unit_vector (links + d) k ≡ pos 0
apart links d k l = unit-other (links + d) k (λ e. omega (arith, e, l))

below : (links j d : ℕ) → j < links → unit_vector j (links + d) ≡ pos 0
below links j d l = unit-other j (links + d) (λ e. omega (arith, e, l))

after : (links d e : ℕ) → unit_vector (links + d) (links + e) ≡ unit_vector d e
after links d e = ⊎_elim
    (λ same. subst (λ x. unit_vector (links + d) (links + x) ≡ unit_vector d x) same (unit-same (links + d) ∙ sym (unit-same d)))
    (λ ne. unit-other (links + d) (links + e) (λ f. ne (omega (arith, f))) ∙ sym (unit-other d e ne))
    (Rattle.std.proofs.lemmas.Bool.cases_eq d e)

module _ (g : Graph) (demands : ℕ) where
  abbrev links : ℕ
  links = length g.links

  abbrev slack : ℕ → RouteColumn
  slack = route_slack g

  pub first : (j : ℕ) → j < links → slack j ≡ LinkSlack (record { 0 = j })
  first j l = beside_first links (λ e. LinkSlack (record { 0 = e })) (λ k. DemandSlack k) j l

  pub second : (d : ℕ) → slack (links + d) ≡ DemandSlack d
  second d = beside_after links (λ e. LinkSlack (record { 0 = e })) (λ k. DemandSlack k) d

  -- a slack is the column of its name
  pub slack_named : (j : ℕ) (name : RouteColumn) → j < links + demands → name ≡ slack j → IsColumnNamed links demands name (slack_basis slack j)
  slack_named j name l is = ⊎_elim
      (λ low. let named : name ≡ LinkSlack (record { 0 = j }) = is ∙ first j low in record {
        named = sym is;
        gain = sym (ap gain_in named);
        link = λ k lk. sym (ap (λ n. uses n k) named);
        demand = λ d ld. below links j d low ∙ sym (ap (λ n. own_entry n d) named);
      })
      (λ ge. let e = j - links in let at : j ≡ links + e = omega (arith, ge) in let named : name ≡ DemandSlack e = is ∙ (ap slack at ∙ second e) in record {
        named = sym is;
        gain = sym (ap gain_in named);
        link = λ k lk. subst (λ x. unit_vector x k ≡ pos 0) (sym at) (apart links e k lk) ∙ sym (ap (λ n. uses n k) named);
        demand = λ d ld. subst (λ x. unit_vector x (links + d) ≡ unit_vector e d) (sym at) (after links e d) ∙ sym (ap (λ n. own_entry n d) named);
      })
      (cases_lt j links)

  module _ (bound : ℕ → ℤ) (b : Keyed) (bounds : (k : ℕ) → k < links + demands → pos 0 ≤ℤ bound k) (s : IsStart links demands bound slack b) where
    left : (k : ℕ) → k < links → left_column links demands (slack_basis slack) (λ r. r) bound k ≡ bound k
    left k l = ap (λ x. bound k -ℤ x)
        (sum-same demands _ (λ d. pos 0) (λ d ld. ap (λ x. bound (links + d) *ℤ x) (apart links d k l) ∙ *ℤ-zero (bound (links + d))) ∙ sum-none demands) ∙ plain (bound k)

    prices_none : (x : ℕ → ℤ) → dot links (num b.prices.nums) x ≡ pos 0
    prices_none x = dot-none links (num b.prices.nums) x s.zeros

    -- the slack basis is kept, with all that goes with it
    pub start_keyed : IsKeyed links demands bound (slack_basis slack) (λ r. r) (λ j. j) b
    start_keyed = record {
      shaped = s.shaped;
      named = λ j l. slack_named j (column_name b.names j) l (s.names j l);
      placed = s.places;
      owned = λ i l. s.owners i l ∙ sym (ap (λ n. owner_in demands n) (s.names i (omega (arith, l)) ∙ first i l));
      kept = kept_start links demands bound slack (nums_at b.rows) (den_at b.rows) (num b.prices.nums) b.prices.den bounds s.units s.ones s.zeros s.one;
      bounds = s.bounds;
      rest = λ k l. s.rest k l ∙ sym (left k l);
      values = λ i l. s.values i l ∙ (sym (left i l) ∙ sym (dot-of-unit links i (nums_at b.rows i) (left_column links demands (slack_basis slack) (λ r. r) bound) l (λ k lk. s.units i k l lk)));
      duals = λ d l. s.free d l ∙ sym ((is_spread links demands (λ e. (slack_basis slack (links + e)).entry) (λ e. pos 0) (num b.prices.nums) b.prices.den).demand d l
          ∙ no_product b.prices.den (pos 0) _ refl (prices_none _));
    }
