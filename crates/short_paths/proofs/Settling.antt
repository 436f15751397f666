-- a search that settles the nearest open node first
use Rattle.std.proofs.Common.{◌≡◌, ℕ, ◌+◌, ◌*◌, ◌^◌, ◌<◌, ◌≤◌, List, length, get_or, Bool, true, false, not, cond, count_by, ◌⊎◌, inl, inr, ⊎_elim, refl, sym, subst, ap, ◌∙◌, arith, get_or-set_other, get_or-set_same, slice_set, All, mul-le-mul_left}
use Rattle.net_core.proofs.Library.{cases_eq, cases_lt, cases_Bool, both_ways, sum_by-set, count_by-le-length, get_or_past, get_or_default}
use Rattle.plan_terms.{specs.Terms.Walk, proofs.Lemmas.{walk_none, walk_on}}
use Rattle.short_paths.specs.inner.Tables.{IsTable}

-- a node that is settled, and one that is not
abbrev pub IsSettled : List Bool → ℕ → Type 0
IsSettled settled x = get_or settled x false ≡ true

abbrev pub IsOpen : List Bool → ℕ → Type 0
IsOpen settled x = get_or settled x true ≡ false

-- who is settled once `at` is
settled_cases : (settled : List Bool) (at x : ℕ) → IsSettled (slice_set settled at true) x → (x ≡ at) ⊎ IsSettled settled x
settled_cases settled at x h =
    ⊎_elim (λ e. inl e) (λ ne. inr (subst (λ (b : Bool). b ≡ true) (get_or-set_other settled at x true false ne) h)) (cases_eq x at)

open_before : (settled : List Bool) (at y : ℕ) → at < length settled → IsOpen (slice_set settled at true) y → IsOpen settled y
open_before settled at y lt h =
    ⊎_elim
    (λ e. absurd (both_ways true (sym (subst (λ k. get_or (slice_set settled at true) k true ≡ true) (sym e) (get_or-set_same settled at true true lt)) ∙ h) refl))
    (λ ne. sym (get_or-set_other settled at y true true ne) ∙ h)
    (cases_eq y at)

fewer_open : (settled : List Bool) (at : ℕ) → at < length settled → IsOpen settled at → count_by not (slice_set settled at true) + 1 ≡ count_by not settled
fewer_open settled at lt still =
    let e = sum_by-set (λ (b : Bool). cond (not b) 1 0) settled at true true lt in
    omega (arith, rw still at e)

module _ (joins : ℕ → ℕ → ℕ → Type 0) (lengths : List ℕ) (far a : ℕ) where
  -- what is found so far: no settled node can be reached sooner, and an open one by settled nodes alone no sooner
  pub record IsSearch (found : List ℕ) (settled : List Bool) : Type 0 where
    pub most : (k : ℕ) → get_or found k 0 ≤ far
    pub start : get_or found a 0 ≡ 0
    pub sound : (k : ℕ) → k < length found → get_or found k 0 < far → Walk joins lengths a k (get_or found k 0)
    pub closed : (e x y : ℕ) → IsSettled settled x → joins e x y → get_or found y 0 ≤ get_or found x 0 + get_or lengths e 0
    pub order : (x y : ℕ) → IsSettled settled x → IsOpen settled y → get_or found x 0 ≤ get_or found y 0
    pub near : (x : ℕ) → IsSettled settled x → get_or found x 0 < far
    pub low : (m : ℕ) → ((e : ℕ) → get_or lengths e 0 ≤ m) → (k : ℕ) → get_or found k 0 < far → get_or found k 0 + m * count_by not settled ≤ m * length found

  -- at the start a alone is found, and none is settled
  pub search_init : (found : List ℕ) (settled : List Bool) → length settled ≡ length found → ((k : ℕ) → get_or found k 0 ≤ far) → get_or found a 0 ≡ 0 → ((k : ℕ) → k < length found → (k ≡ a) ⊎ (get_or found k 0 ≡ far)) → All (λ b. b ≡ false) settled → IsSearch found settled
  search_init found settled sizes most start others unset =
      let none : (x : ℕ) → IsSettled settled x → ⊥ = λ x h.
      ⊎_elim (λ lt. both_ways _ (unset x false lt) h) (λ past. both_ways _ (get_or_past settled x false past) h) (cases_lt x (length settled)) in
      record {
        most = most;
        start = start;
        sound = λ k lt f. ⊎_elim
            (λ e.
            let zero : get_or found k 0 ≡ 0 = rw e start in
            subst (Walk joins lengths a k) (sym zero) (rw e (walk_none joins lengths a)))
            (λ m. absurd (omega arith))
            (others k lt);
        closed = λ e x y h j. absurd (none x h);
        order = λ x y h o. absurd (none x h);
        near = λ x h. absurd (none x h);
        low = λ m short k f.
            let zero : get_or found k 0 ≡ 0 = ⊎_elim
            (λ lt. ⊎_elim (λ e. rw e start) (λ m. absurd (omega arith)) (others k lt))
            (λ past. get_or_past found k 0 past)
            (cases_lt k (length found)) in
            let few : m * count_by not settled ≤ m * length found = mul-le-mul_left m (omega (arith, count_by-le-length not settled, sizes)) in
            omega arith;
      }

  -- what a turn does: it settles the nearest open node, and tries each link there
  pub record IsTurn (at : ℕ) (old new : List ℕ) (settled : List Bool) : Type 0 where
    pub sizes : length settled ≡ length old
    pub same : length new ≡ length old
    pub node : at < length old
    pub still : IsOpen settled at
    pub found : get_or old at 0 < far
    pub least : (k : ℕ) → IsOpen settled k → get_or old at 0 ≤ get_or old k 0
    pub lower : (k : ℕ) → get_or new k 0 ≤ get_or old k 0
    pub all : (e y : ℕ) → joins e at y → get_or new y 0 ≤ get_or old at 0 + get_or lengths e 0
    pub sound : (k : ℕ) → (get_or new k 0 ≡ get_or old k 0) ⊎ ((e : ℕ) × joins e at k × (get_or new k 0 ≡ get_or old at 0 + get_or lengths e 0))

  -- what is no farther than the node stays
  kept : (at : ℕ) (old new : List ℕ) (settled : List Bool) → IsTurn at old new settled → (x : ℕ) → get_or old x 0 ≤ get_or old at 0 → get_or new x 0 ≡ get_or old x 0
  kept at old new settled t x le = ⊎_elim (λ e. e) (λ r. omega (arith, t.lower x, r.2)) (t.sound x)

  kept_settled : (at : ℕ) (old new : List ℕ) (settled : List Bool) → IsTurn at old new settled → IsSearch old settled → (x : ℕ) → IsSettled (slice_set settled at true) x → get_or new x 0 ≡ get_or old x 0
  kept_settled at old new settled t s x h = ⊎_elim
      (λ e. kept at old new settled t x (rw e (omega arith)))
      (λ w. kept at old new settled t x (s.order x at w t.still))
      (settled_cases settled at x h)

  -- no open node comes nearer than the node
  above : (at : ℕ) (old new : List ℕ) (settled : List Bool) → IsTurn at old new settled → (y : ℕ) → IsOpen settled y → get_or old at 0 ≤ get_or new y 0
  above at old new settled t y o = ⊎_elim (λ e. omega (arith, t.least y o)) (λ r. omega (arith, r.2)) (t.sound y)

  pub search_turn : (at : ℕ) (old new : List ℕ) (settled : List Bool) → IsTurn at old new settled → IsSearch old settled → IsSearch new (slice_set settled at true)
  search_turn at old new settled t s =
      let lt : at < length settled = omega (arith, t.sizes, t.node) in
      let fewer = fewer_open settled at lt t.still in
      let keeps = kept_settled at old new settled t s in
      record {
        most = λ k. omega (arith, t.lower k, s.most k);
        start = omega (arith, t.lower a, s.start);
        sound = λ k l f. ⊎_elim
            (λ e. subst (Walk joins lengths a k) (sym e) (s.sound k (omega (arith, t.same)) (omega arith)))
            (λ r. subst (Walk joins lengths a k) (sym r.2) (walk_on joins lengths a at (get_or old at 0) r.0 k (s.sound at t.node t.found) r.1))
            (t.sound k);
        closed = λ e x y h j. ⊎_elim
            (λ q.
            let up : get_or new y 0 ≤ get_or old at 0 + get_or lengths e 0 = t.all e y (subst (λ k. joins e k y) q j) in
            let here : get_or new x 0 ≡ get_or old at 0 = keeps x h ∙ ap (λ k. get_or old k 0) q in
            omega arith)
            (λ w. omega (arith, t.lower y, s.closed e x y w j, keeps x h))
            (settled_cases settled at x h);
        order = λ x y h o.
            let up = above at old new settled t y (open_before settled at y lt o) in
            ⊎_elim
            (λ q. let here : get_or new x 0 ≡ get_or old at 0 = keeps x h ∙ ap (λ k. get_or old k 0) q in omega arith)
            (λ w. omega (arith, s.order x at w t.still, keeps x h))
            (settled_cases settled at x h);
        near = λ x h. ⊎_elim
            (λ q. let here : get_or new x 0 ≡ get_or old at 0 = keeps x h ∙ ap (λ k. get_or old k 0) q in omega (arith, t.found))
            (λ w. omega (arith, s.near x w, keeps x h))
            (settled_cases settled at x h);
        low = λ m short k f.
            let fall : m * count_by not (slice_set settled at true) + m ≡ m * count_by not settled = omega (arith, ap (λ n. m * n) fewer) in
            let size : m * length new ≡ m * length old = ap (λ n. m * n) t.same in
            ⊎_elim
            (λ e. omega (arith, fall, size, s.low m short k (omega arith)))
            (λ r. omega (arith, fall, size, r.2, short r.0, s.low m short at t.found))
            (t.sound k);
      }

  -- at the end each node that is reached is settled
  pub search_end : (found : List ℕ) (settled : List Bool) → length settled ≡ length found → length found ≤ 128 → 2 ^ 120 ≤ far → ((e : ℕ) → get_or lengths e 0 < 2 ^ 100) → ((e x y : ℕ) → joins e x y → x < length found) → ((k : ℕ) → IsOpen settled k → get_or found k 0 ≡ far) → IsSearch found settled → IsTable joins lengths far a found
  search_end found settled sizes few large short inside none s =
      let bound : (m : ℕ) → ((e : ℕ) → get_or lengths e 0 ≤ m) → (k : ℕ) → get_or found k 0 < far → get_or found k 0 ≤ m * length found = λ m most k f. omega (arith, s.low m most k f) in
      let low : (k : ℕ) → get_or found k 0 < far → get_or found k 0 ≤ 2 ^ 100 * length found = bound (2 ^ 100) (λ e. omega (arith, short e)) in
      record {
        start = s.start;
        sound = s.sound;
        closed = λ e x y f j.
            let lt : x < length settled = omega (arith, inside e x y j, sizes) in
            let done : IsSettled settled x = ⊎_elim
            (λ t. t)
            (λ n. absurd (omega (arith, none x (get_or_default settled x true false lt ∙ n))))
            (cases_Bool (get_or settled x false)) in
            let up = s.closed e x y done j in
            (omega (arith, up, low x f, short e), up);
        low = bound;
        most = s.most;
        zero = omega arith;
      }
