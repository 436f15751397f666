-- the order of two candidates by their rows in lowest terms is that of their rows of the whole inverse
use Rattle.std.proofs.Common.{◌⊎◌, ◌≡◌, ℕ, ℤ, List, length, pos, ◌+◌, ◌-◌, ◌<◌, ◌-ℤ◌, ◌*ℤ◌, inl, inr, sym, ap, ◌∙◌, subst, arith, ⊎_elim, ◌<ℤ◌}
use Rattle.net_core.{proofs.Library.{*ℤ-zero, *ℤ_comm}, specs.declared.columns.RouteColumn.RouteColumn, specs.declared.ids.LinkId.LinkId}
use Rattle.checked_fraction.{specs.Terms.num, proofs.Products.cancelled}
use Rattle.simplex_law.{specs.Terms.{dot, unit_vector, ColumnOf, IsNoLater}, proofs.Lemmas.{moved_out, sum-same}}
use Rattle.simplex_core.specs.Terms.{nums_at, den_at}
use Rattle.key_law.{specs.Terms.{key_part, left_column, full_kept, full_key, key_nums, IsRoleRow, IsTieFirst}, proofs.Lemmas.comes_first}
use Rattle.key_rows.{specs.Bases.IsKeyed, specs.KeyRows.{AreWeights, weighted, less_rows}, specs.KeyTests.{HaveColumnProducts, IsKeyRow}, specs.Names.{left_uses, own_entry}, specs.inner.Candidates.{IsLeavingCandidate, IsKeyCandidate, IsLowered, IsLoweredKey, LeavesFirst, lowered_step}, specs.inner.Orders.IsRowCandidate, specs.declared.keyed.Keyed.Keyed, specs.declared.order.Candidate.Candidate, proofs.Columns.times_are, proofs.Leavers.{row_leaver, key_leaver}, proofs.Products.key_scaled, proofs.Weighted.left_crossed}

-- a candidate's row of the whole inverse, over the denominator of its value and its product
abbrev pub IsWholeRow : ℕ → ℕ → (ℕ → ColumnOf RouteColumn) → (ℕ → ℕ) → Keyed → RouteColumn → Candidate → (ℕ → ℤ) → Type 0
IsWholeRow links demands basis place b name x full =
    (IsRowCandidate links b.values b.products x × (full ≡ full_kept links demands basis place (nums_at b.rows x.role) (den_at b.rows x.role)))
    ⊎ ((d : ℕ) × (d < demands) × (x.role ≡ links + d) × (c : IsKeyCandidate b d (own_entry name d) x)
    × (full ≡ full_key links demands basis place d (key_nums links demands basis place (nums_at b.rows) (num c.weights) d) c.all))

-- in the whole inverse, the first comes no later than the second
abbrev pub ComesNoLater : ℕ → ℕ → (ℕ → ℤ) → (ℕ → ColumnOf RouteColumn) → (ℕ → ℕ) → Keyed → RouteColumn → Candidate → Candidate → Type 0
ComesNoLater links demands bound basis place b name x y = (full others : ℕ → ℤ) → IsWholeRow links demands basis place b name x full → IsWholeRow links demands basis place b name y others
    → IsNoLater (links + demands) bound full x.product others y.product

-- one number over three denominators
same_over : (den all whole q r s : ℤ) → pos 0 <ℤ whole → whole *ℤ q ≡ all *ℤ r → whole *ℤ s ≡ den *ℤ r → den *ℤ q ≡ all *ℤ s
same_over den all whole q r s pw e f = cancelled whole (den *ℤ q) (all *ℤ s) pw
    (moved_out whole den q ∙ (ap (λ x. den *ℤ x) e ∙ (moved_out den all r ∙ (ap (λ x. all *ℤ x) (sym f) ∙ moved_out all whole s))))

module _ {links demands : ℕ} {bound : ℕ → ℤ} {basis : ℕ → ColumnOf RouteColumn} {place role : ℕ → ℕ} {b : Keyed} (h : IsKeyed links demands bound basis place role b)
    (name : RouteColumn) (key : List LinkId) (a : ℕ → ℤ) (have : (i : ℕ) → i < links → num b.products i ≡ dot links (nums_at b.rows i) (left_column links demands basis place a))
    (products : HaveColumnProducts b name key) (own : (d : ℕ) → d < demands → own_entry name d ≡ a (links + d)) where
  -- the key's row as the law has it, and in lowest terms
  key_lowered : (x : Candidate) (d : ℕ) (ld : d < demands) (c : IsKeyCandidate b d (own_entry name d) x) (nums : List ℤ) (product : ℤ) → x.role ≡ links + d → IsLoweredKey b name key x nums product
      → IsRoleRow links demands (key_part links demands basis place) bound a x.role (pos x.value) x.product (num nums) product (unit_vector d)
      (key_nums links demands basis place (nums_at b.rows) (num c.weights) d) c.all
      (full_key links demands basis place d (key_nums links demands basis place (nums_at b.rows) (num c.weights) d) c.all)
  key_lowered x d ld c nums product at low =
      let rows = h.shaped.rows in
      let same : low.demand ≡ d = omega (arith, at, low.role, rows) in
      let is_row = subst (λ e. IsKeyRow b e low.row) same low.is_row in
      let step = subst (λ e. product ≡ lowered_step b name key e low.row) same low.product_is in
      let f = key_leaver h a have x d (own_entry name d) ld (own d ld) c in
      record {
        inside = f.inside;
        spreads = f.spreads;
        of_block = f.of_block;
        of_key = f.of_key;
        over = f.over;
        value_is = f.value_is;
        product_is = f.product_is;
        positive = f.positive;
        factor = low.row.den;
        times = c.all;
        factor_positive = low.row.positive;
        times_positive = c.are.positive;
        numbers = λ k l. ap (λ z. low.row.den *ℤ z) (nums_are k)
            ∙ (number k (is_row.weights) (is_row.all) is_row.are (omega (arith, l, rows)) (is_row.reduced.same k (omega (arith, l, rows)))
            ∙ ap (λ xs. c.all *ℤ num xs k) (sym low.nums_are));
        pivot = same_over low.row.den c.all is_row.all x.product _ product is_row.are.positive
            (ap (λ z. is_row.all *ℤ z) c.product
            ∙ left_crossed b.rows b.owners c.weights is_row.weights d c.all is_row.all c.are is_row.are (own_entry name d) (num b.products) (length b.rows) (omega arith))
            (key_scaled b.rows b.owners is_row.weights b.products d (length b.rows) (left_uses name key) (num low.row.nums) is_row.all low.row.den (own_entry name d) product is_row.reduced products step);
      }
    where
      nums_are : (k : ℕ) → key_nums links demands basis place (nums_at b.rows) (num c.weights) d k ≡ less_rows b.rows b.owners c.weights d (length b.rows) k
      nums_are k = ap (λ s. pos 0 -ℤ s) (sum-same links _ _ (λ i l. ap (λ z. z *ℤ nums_at b.rows i k) (times_are h c.weights d i ld l)))
          ∙ ap (λ n. less_rows b.rows b.owners c.weights d n k) (sym h.shaped.rows)

      none : (s all : ℤ) → (all *ℤ pos 0) -ℤ s ≡ pos 0 -ℤ s
      none s all = ap (λ z. z -ℤ s) (*ℤ-zero all)

      number : (k : ℕ) (weights : List ℤ) (whole : ℤ) (are : AreWeights b.rows b.owners weights d whole) → k < length b.rows
          → num low.row.nums k *ℤ whole ≡ less_rows b.rows b.owners weights d (length b.rows) k *ℤ low.row.den
          → low.row.den *ℤ less_rows b.rows b.owners c.weights d (length b.rows) k ≡ c.all *ℤ num low.row.nums k
      number k weights whole are l e =
          let nums_k = λ (i : ℕ). nums_at b.rows i k in
          let n = length b.rows in
          same_over low.row.den c.all whole _ (less_rows b.rows b.owners weights d n k) (num low.row.nums k) are.positive
          (ap (λ z. whole *ℤ z) (sym (none (weighted b.owners c.weights d nums_k n) c.all))
          ∙ (left_crossed b.rows b.owners c.weights weights d c.all whole c.are are (pos 0) nums_k n (omega arith) ∙ ap (λ z. c.all *ℤ z) (none (weighted b.owners weights d nums_k n) whole)))
          (*ℤ_comm whole (num low.row.nums k) ∙ (e ∙ *ℤ_comm (less_rows b.rows b.owners weights d n k) low.row.den))

  -- a candidate's row of the whole inverse, by any of its rows in lowest terms
  pub record Stands (x : Candidate) : Type 0 where
    pub target : ℕ → ℤ
    pub nums : ℕ → ℤ
    pub den : ℤ
    pub full : ℕ → ℤ
    pub whole : IsRoleRow links demands (key_part links demands basis place) bound a x.role (pos x.value) x.product nums x.product target nums den full
    pub lowered : (lows : List ℤ) (product : ℤ) → IsLowered b name key x lows product
        → IsRoleRow links demands (key_part links demands basis place) bound a x.role (pos x.value) x.product (num lows) product target nums den full

  -- each candidate has one
  pub stands : (x : Candidate) → x.role < links + demands → IsLeavingCandidate b name x → Stands x
  stands x inside (inl c) = let e : length b.rows ≡ links = h.shaped.rows in
      let row = row_leaver h a have x (subst (λ n. IsRowCandidate n b.values b.products x) e c) in record {
        target = λ d. pos 0;
        nums = nums_at b.rows x.role;
        den = den_at b.rows x.role;
        full = full_kept links demands basis place (nums_at b.rows x.role) (den_at b.rows x.role);
        whole = row;
        lowered = λ lows product low. ⊎_elim
            (λ same. subst (λ xs. IsRoleRow links demands (key_part links demands basis place) bound a x.role (pos x.value) x.product (num xs) product (λ d. pos 0) (nums_at b.rows x.role) (den_at b.rows x.role)
            (full_kept links demands basis place (nums_at b.rows x.role) (den_at b.rows x.role))) (sym same.1)
            (subst (λ p. IsRoleRow links demands (key_part links demands basis place) bound a x.role (pos x.value) x.product (nums_at b.rows x.role) p (λ d. pos 0) (nums_at b.rows x.role) (den_at b.rows x.role)
            (full_kept links demands basis place (nums_at b.rows x.role) (den_at b.rows x.role))) (sym same.2) row))
            (λ of_key. absurd (omega (arith, c.inside, of_key.role)))
            low;
      }
  stands x inside (inr c) =
      let e : length b.rows ≡ links = h.shaped.rows in
      let d = x.role - length b.rows in
      let at : x.role ≡ links + d = omega (arith, c.0, e) in
      let ld : d < demands = omega (arith, inside, at) in record {
        target = unit_vector d;
        nums = key_nums links demands basis place (nums_at b.rows) (num c.1.weights) d;
        den = c.1.all;
        full = full_key links demands basis place d (key_nums links demands basis place (nums_at b.rows) (num c.1.weights) d) c.1.all;
        whole = key_leaver h a have x d (own_entry name d) ld (own d ld) c.1;
        lowered = λ lows product low. ⊎_elim
            (λ same. absurd (omega (arith, c.0, same.0)))
            (λ of_key. key_lowered x d ld c.1 lows product at of_key)
            low;
      }

  -- of two candidates, the row of the first comes no later
  pub candidate_no_later : (x y : Candidate) (sx : Stands x) (sy : Stands y) → LeavesFirst b name key x y → IsNoLater (links + demands) bound sx.full x.product sy.full y.product
  candidate_no_later x y sx sy first = ⊎_elim
      (λ less. comes_first sx.whole sy.whole (inl less))
      (λ same. comes_first (sx.lowered same.1.nums same.1.product same.1.first) (sy.lowered same.1.others same.1.other same.1.second)
      (inr (same.0, subst (λ n. IsTieFirst n (num same.1.nums) same.1.product (num same.1.others) same.1.other x.role y.role) h.shaped.rows same.1.tie)))
      first

  -- a row of the whole inverse is that of a candidate
  standing : (x : Candidate) (full : ℕ → ℤ) → x.role < links + demands → IsWholeRow links demands basis place b name x full → (s : Stands x) × (full ≡ s.full)
  unfolding stands
  standing x full inside (inl row) = let c = subst (λ n. IsRowCandidate n b.values b.products x) (sym h.shaped.rows) row.0 in (stands x inside (inl c), row.1)
  standing x full inside (inr k) = (
    record {
      target = unit_vector k.0;
      nums = key_nums links demands basis place (nums_at b.rows) (num k.3.weights) k.0;
      den = k.3.all;
      full = full_key links demands basis place k.0 (key_nums links demands basis place (nums_at b.rows) (num k.3.weights) k.0) k.3.all;
      whole = key_leaver h a have x k.0 (own_entry name k.0) k.1 (own k.0 k.1) k.3;
      lowered = λ lows product low. ⊎_elim
          (λ same. absurd (omega (arith, same.0, k.2, h.shaped.rows)))
          (λ of_key. key_lowered x k.0 k.1 k.3 lows product k.2 of_key)
          low;
    },
    k.4,
  )

  -- what comes first comes no later
  pub first_comes : (x y : Candidate) → x.role < links + demands → y.role < links + demands → LeavesFirst b name key x y → ComesNoLater links demands bound basis place b name x y
  first_comes x y ix iy first full others fx fy =
      let sx = standing x full ix fx in
      let sy = standing y others iy fy in
      subst (λ u. IsNoLater (links + demands) bound u x.product others y.product) (sym sx.1)
      (subst (λ v. IsNoLater (links + demands) bound sx.0.full x.product v y.product) (sym sy.1) (candidate_no_later x y sx.0 sy.0 first))
