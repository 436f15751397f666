-- the basis at each turn
use Rattle.std.proofs.Common.{◌≡◌, ℕ, ℤ, zero, suc, List, Some, length, pos, ◌+◌, ◌-◌, ◌*◌, ◌<◌, ◌^◌, inl, inr, Bool, true, false, cond, ltb, unsigned_abs, sym, ap, ◌∙◌, subst, refl, arith, ⊎_elim, ◌<ℤ◌, ◌≤ℤ◌, lt-ltb, le-ltb}
use Rattle.net_core.proofs.Library.{cases_lt, by_lt_z, slice_get-get_or}
use Rattle.checked_fraction.specs.Terms.{num, IsNarrow}
use Rattle.plan_terms.specs.Terms.{AreDemands, Graph, IsNetwork, names_link, Demand, Caps, RouteColumn, DemandSlack, WideKind, Number, Row as RowOf, Product, Sum, Common, Value, Length}
use Rattle.route_law.{specs.Terms.{route_rows, route_bound, route_slack, IsCarrying, IsRouteColumn}, proofs.Lemmas.beside_first}
use Rattle.simplex_law.{specs.Terms.{unit_vector, put, ColumnOf, IsPacking, slack_basis, IsReached, HoldsKind, IsReachedEvidence, valued, AreNarrowDuals, digit, lex_number, left_below, left_over}, proofs.Lemmas.{start_reached, slack_is, dot-same, unit-same, unit-other}}
use Rattle.key_law.{specs.Terms.{key, key_part, full_prices, role_nums}, proofs.Lemmas.{some_limit, role_tableau, some_key_rows, role_den, is_spread, key_reached, key_falls}}
use Rattle.key_rows.{specs.Terms.IsColumnNamed, specs.declared.keyed.Keyed.Keyed}
use Rattle.key_paths.{specs.inner.Starts.IsStart, specs.inner.Entering.{IsGainingIn, IsPicked, HasGaining, Enters, EntersAs}, specs.inner.Gaining.{IsGaining, IsRouteName}, specs.inner.Held.{IsHeld, IsNameOf, IsZeroOrOne}, specs.inner.Outcomes.{HoldsWide, IsWideBasis}, specs.declared.turns.Turn.Turn, specs.declared.turns.Turn.TheVariants.{Again, Unbounded, Wide}, proofs.Costs.{key_cost_named, gains_named}, proofs.Holding.bound_narrow, proofs.RouteNames.{route_named, route_name, column_named, name_demand, name_within}, proofs.Starting.start_keyed}

-- the prices of the links, and then those of the demands
abbrev pub whole_price : ℕ → Keyed → ℕ → ℤ
whole_price n b k = cond (ltb k n) (num b.prices.nums k) (num b.duals (k - n))

-- equal prices have one measure
lex_same : (base edge square n : ℕ) (v w : ℕ → ℤ) (d : ℕ) → ((k : ℕ) → k < n → v k ≡ w k) → lex_number base edge square n v d ≡ lex_number base edge square n w d
unfolding lex_number
lex_same base edge square zero v w d same = refl
lex_same base edge square (suc n) v w d same =
    ap (λ x. digit edge square x d * base ^ n + lex_number base edge square n (λ k. v (suc k)) d) (same 0 (omega arith))
    ∙ ap (λ x. digit edge square (w 0) d * base ^ n + x) (lex_same base edge square n (λ k. v (suc k)) (λ k. w (suc k)) d (λ k l. same (suc k) (omega (arith, l))))

left_same : (edge m : ℕ) (bound u v : ℕ → ℤ) (den : ℤ) → ((k : ℕ) → k < m → u k ≡ v k) → left_below edge m bound u den ≡ left_below edge m bound v den
unfolding left_below
left_same edge m bound u v den same = ap (λ x. (2 * edge * 2 ^ 124 + 1) ^ (m + 1) - x)
    (lex_same (2 * edge * 2 ^ 124 + 1) edge (2 ^ 124) (m + 1) (valued m bound u) (valued m bound v) (unsigned_abs den) each)
  where
    each : (k : ℕ) → k < m + 1 → valued m bound u k ≡ valued m bound v k
    each zero l = dot-same m u v bound bound same (λ k lk. refl)
    each (suc k) l = same k (omega (arith, l))

not_positive : (x : ℤ) → (pos 0 <ℤ x → ⊥) → x ≤ℤ pos 0
not_positive x never = by_lt_z (pos 0) x (λ l. absurd (never l)) (λ h. h)

zero_or_one : (t : Bool) → IsZeroOrOne (cond t (pos 1) (pos 0))
zero_or_one true = inr refl
zero_or_one false = inl refl

module _ (g : Graph) (demands : List Demand) (caps : Caps) where
  abbrev links : ℕ
  links = length g.links

  abbrev count : ℕ
  count = length demands

  abbrev rows : ℕ
  rows = route_rows g demands

  abbrev bound : ℕ → ℤ
  bound = route_bound g demands caps

  abbrev is_column : ColumnOf RouteColumn → Type 0
  is_column = IsRouteColumn g demands

  -- a basis of the program that gaining steps reach, and what is held of it
  pub record IsAt (b : Keyed) : Type 0 where
    pub basis : ℕ → ColumnOf RouteColumn
    pub place : ℕ → ℕ
    pub role : ℕ → ℕ
    pub held : IsHeld (length g.links) (length demands) (route_bound g demands caps) basis place role b
    pub reached : IsReached (route_rows g demands) (route_bound g demands caps) (IsRouteColumn g demands) (slack_basis (route_slack g)) basis

  -- a column takes no link twice
  column_01 : (c : ColumnOf RouteColumn) → is_column c → (k : ℕ) → k < links → IsZeroOrOne (c.entry k)
  column_01 c (inl h) k l = subst IsZeroOrOne (sym (h.entry k (omega (arith, l)) ∙ beside_first links (λ e. cond (names_link e h.path) (pos 1) (pos 0)) (unit_vector h.place) k l)) (zero_or_one (names_link k h.path))
  column_01 c (inr h) k l = subst IsZeroOrOne (sym (h.entry k (omega (arith, l)))) (⊎_elim
      (λ e. subst (λ j. IsZeroOrOne (unit_vector h.row j)) e (inr (unit-same h.row)))
      (λ ne. inl (unit-other h.row k ne))
      (Rattle.std.proofs.lemmas.Bool.cases_eq h.row k))

  module _ (checked : ∥ IsNetwork g.nodes g.links ∥₁) (belong : AreDemands (length g.nodes) demands) (packing : IsPacking rows bound is_column) where
    sound_name : (name : RouteColumn) → IsRouteName g demands name → IsNameOf links count name
    sound_name name is =
        let c = column_named g demands name is in
        let named = subst (λ x. IsColumnNamed links count x c.0) c.2 (route_named g demands c.0 c.1) in
        record {
          within = name_within g demands checked belong name is;
          demand = name_demand g demands name is;
          once = λ k l. subst IsZeroOrOne (named.link k l) (column_01 c.0 c.1 k l);
        }

    -- the slack basis
    pub at_start : (b : Keyed) → IsStart links count bound (route_slack g) b → IsAt b
    at_start b s =
        let keyed = start_keyed g count bound b (λ k l. (packing.bounds k l).0) s in
        let t = keyed.kept.whole in
        record {
          basis = slack_basis (route_slack g);
          place = λ r. r;
          role = λ j. j;
          held = record {
            keyed = keyed;
            few = belong.few;
            positive = λ r l. (packing.bounds r l).0;
            names = λ j l. subst (IsNameOf links count) (sym (s.names j l))
                (sound_name (route_slack g j) (route_name g demands (slack_basis (route_slack g) j) (inr (slack_is rows (route_slack g) j l))));
          };
          reached = start_reached rows bound (route_slack g) (IsCarrying g demands) t.nums t.den t.duals t.duals_den t.tableau;
        }

    module _ (b : Keyed) (at : IsAt b) (name : RouteColumn) (gaining : IsGaining g demands b name) where
      abbrev column : ColumnOf RouteColumn
      column = (column_named g demands name gaining.is_name).0

      is_c : is_column column
      is_c = (column_named g demands name gaining.is_name).1

      named : IsColumnNamed links count name column
      named = subst (λ x. IsColumnNamed links count x column) (column_named g demands name gaining.is_name).2 (route_named g demands column is_c)

      gaining_in : IsGainingIn links count bound at.basis at.place at.role b name column
      gaining_in = record {
        held = at.held;
        named = named;
        sound = sound_name name gaining.is_name;
        priced = sym (key_cost_named g demands at.held.keyed name column gaining.is_name named);
        gains = gaining.gains;
      }

      pub has_gaining : HasGaining (length b.rows) (length b.duals) b name
      has_gaining = subst (λ n. HasGaining n (length b.duals) b name) (sym at.held.keyed.shaped.rows) (subst (λ n. HasGaining links n b name) (sym at.held.keyed.shaped.duals)
          (record { bound = bound; basis = at.basis; place = at.place; role = at.role; column = column; gaining = gaining_in }))

      enters_here : (turn : Turn) (new : Keyed) → EntersAs (length b.rows) (length b.duals) b name turn new → Enters links count bound at.basis at.place at.role b column turn new
      enters_here turn new h = (subst (λ n. EntersAs links n b name turn new) at.held.keyed.shaped.duals (subst (λ n. EntersAs n (length b.duals) b name turn new) at.held.keyed.shaped.rows h))
          bound at.basis at.place at.role column gaining_in

      reached_at : (r : ℕ) → IsPicked links count bound at.basis at.place at.role b column r → IsReached rows bound is_column (slack_basis (route_slack g)) (put at.basis (at.place r) column)
      reached_at r p = key_reached at.held.keyed.kept p.key_rows column r p.pick is_column (slack_basis (route_slack g)) is_c at.reached

      -- the next basis
      pub at_next : (new : Keyed) → EntersAs (length b.rows) (length b.duals) b name Again new → IsAt new
      at_next new h =
          let e = enters_here Again new h in record {
            basis = put at.basis (at.place e.0) column;
            place = e.2.0;
            role = e.2.1;
            held = e.2.2;
            reached = reached_at e.0 e.1;
          }

      -- some role limits a column that gains
      pub some_role_limits : (new : Keyed) → EntersAs (length b.rows) (length b.duals) b name Unbounded new → ⊥
      some_role_limits new h =
          let e = enters_here Unbounded new h in
          let kept = at.held.keyed.kept in
          let k = some_key_rows kept in
          let t = role_tableau kept k.2 in
          some_limit is_column kept k.2 column packing at.reached.here.columns is_c (gains_named g demands at.held.keyed name column gaining named)
          (λ r l.
          let p = kept.roles.place_in r l in
          not_positive _ (e r l (role_nums links count at.basis at.place (Rattle.simplex_core.specs.Tables.nums_at b.rows) (Rattle.simplex_core.specs.Tables.den_at b.rows) k.0 k.1 r) _
          (subst (λ x. Rattle.simplex_law.specs.Bases.IsInverseRow rows at.basis (at.place r)
          (role_nums links count at.basis at.place (Rattle.simplex_core.specs.Tables.nums_at b.rows) (Rattle.simplex_core.specs.Tables.den_at b.rows) k.0 k.1 x)
          (role_den links (Rattle.simplex_core.specs.Tables.den_at b.rows) k.1 x)) (kept.roles.there r l) (t.over (at.place r) p, t.rows (at.place r) p))))

      -- evidence of a basis, this one or the next
      holds_kind : (basis : ℕ → ColumnOf RouteColumn) (kind : WideKind RouteColumn) → HoldsWide links count column basis kind → HoldsKind rows bound (route_slack g) is_column basis kind
      holds_kind basis (Number x) h = absurd h
      holds_kind basis (RowOf i) h = h
      holds_kind basis (Product i x) h = (h.0, h.1, h.2, h.3, subst is_column (sym h.4) is_c, h.5, h.6)
      holds_kind basis (Sum i) h = absurd h
      holds_kind basis Common h = h
      holds_kind basis Value h = absurd h
      holds_kind basis (Length l) h = absurd h

      evidence_of : (basis : ℕ → ColumnOf RouteColumn) (names : List RouteColumn) (kind : WideKind RouteColumn) → IsReached rows bound is_column (slack_basis (route_slack g)) basis → IsWideBasis links count column basis names kind
          → IsReachedEvidence rows bound (route_slack g) is_column (HoldsKind rows bound (route_slack g) is_column) names kind
      evidence_of basis names kind reached wide = record {
        basis = basis;
        evidence = record {
          named = record {
            count = wide.named.count;
            each = λ j l. slice_get-get_or names j (DemandSlack 0) (omega (arith, l, wide.named.count)) ∙ ap Some (sym (wide.named.each j l).named);
          };
          feasible = reached.here;
          holds = holds_kind basis kind wide.holds;
        };
        reached = reached;
      }

      pub wide_evidence : (kind : WideKind RouteColumn) (new : Keyed) → EntersAs (length b.rows) (length b.duals) b name (Wide kind) new
          → IsReachedEvidence rows bound (route_slack g) is_column (HoldsKind rows bound (route_slack g) is_column) new.names kind
      wide_evidence kind new h = ⊎_elim
          (λ before. evidence_of at.basis new.names kind at.reached before)
          (λ after. evidence_of (put at.basis (at.place after.0) column) new.names kind (reached_at after.0 after.1) after.2)
          (enters_here (Wide kind) new h)

  -- the whole prices of a held basis
  price_is : {basis : ℕ → ColumnOf RouteColumn} {place role : ℕ → ℕ} {b : Keyed} → IsHeld links count bound basis place role b → (k : ℕ) → k < rows
      → whole_price links b k ≡ full_prices links count basis place (num b.prices.nums) b.prices.den k
  price_is {basis} {place} {role} {b} h k l = ⊎_elim
      (λ lt. ap (λ t. cond t (num b.prices.nums k) (num b.duals (k - links))) (lt-ltb k links lt)
      ∙ sym ((is_spread links count (key_part links count basis place) (λ d. (key links count basis place d).gain) (num b.prices.nums) b.prices.den).link k lt))
      (λ ge. let back : links + (k - links) ≡ k = omega (arith, ge) in
      ap (λ t. cond t (num b.prices.nums k) (num b.duals (k - links))) (le-ltb k links ge)
      ∙ (h.keyed.duals (k - links) (omega (arith, l, ge)) ∙ ap (full_prices links count basis place (num b.prices.nums) b.prices.den) back))
      (cases_lt k links)

  narrow_prices : {basis : ℕ → ColumnOf RouteColumn} {place role : ℕ → ℕ} {b : Keyed} → IsHeld links count bound basis place role b
      → AreNarrowDuals rows (full_prices links count basis place (num b.prices.nums) b.prices.den) b.prices.den
  narrow_prices {basis} {place} {role} {b} h = record {
    positive = b.prices.positive;
    narrow_den = b.prices.narrow_den;
    narrow = λ k l. subst IsNarrow (price_is h k l) (⊎_elim
        (λ lt. subst (λ t. IsNarrow (cond t (num b.prices.nums k) (num b.duals (k - links)))) (sym (lt-ltb k links lt)) (b.prices.narrow k))
        (λ ge. subst (λ t. IsNarrow (cond t (num b.prices.nums k) (num b.duals (k - links)))) (sym (le-ltb k links ge)) (h.keyed.shaped.narrow_duals (k - links)))
        (cases_lt k links));
  }

  -- a turn leaves less above the prices
  pub turn_falls : (checked : ∥ IsNetwork g.nodes g.links ∥₁) (belong : AreDemands (length g.nodes) demands) (packing : IsPacking rows bound is_column) (b : Keyed) (at : IsAt b) (name : RouteColumn)
      (gaining : IsGaining g demands b name) (new : Keyed) → EntersAs (length b.rows) (length b.duals) b name Again new
      → left_over rows bound (whole_price links new) new.prices.den < left_over rows bound (whole_price links b) b.prices.den
  turn_falls checked belong packing b at name gaining new h =
      let e = enters_here checked belong packing b at name gaining Again new h in
      let edge = (rows + 1) * 2 ^ 124 in
      subst (λ x. x < left_over rows bound (whole_price links b) b.prices.den) (sym (left_same edge rows bound _ _ new.prices.den (price_is e.2.2)))
      (subst (λ x. left_over rows bound (full_prices links count (put at.basis (at.place e.0) (column checked belong packing b at name gaining)) e.2.0 (num new.prices.nums) new.prices.den) new.prices.den < x)
      (sym (left_same edge rows bound _ _ b.prices.den (price_is at.held)))
      (key_falls at.held.keyed.kept e.1.key_rows (column checked belong packing b at name gaining) e.0 e.1.pick (bound_narrow at.held) (narrow_prices at.held) (narrow_prices e.2.2) e.2.2.keyed.kept))
