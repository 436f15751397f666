-- the order of the ratio test by values, by link entries, and by what the keys take
use Rattle.std.proofs.Common.{◌≡◌, ℕ, zero, suc, ◌<◌, ◌≤◌, ◌+◌, ◌-◌, sym, ap, ◌∙◌, arith, inr, ⊎_elim, subst, ℤ, pos, ◌-ℤ◌, ◌*ℤ◌, ◌<ℤ◌, ◌≤ℤ◌}
use Rattle.net_core.proofs.Library.{cases_lt, *ℤ_comm, *ℤ-zero, ints}
use Rattle.checked_fraction.{specs.Terms.combined, proofs.Products.positive_product}
use Rattle.simplex_law.{specs.Terms.{dot, unit_vector, valued, IsNoLater}, proofs.Lemmas.{distribute_minus, minus_left, times_nonneg, dot-none, unit-same, unit-other, dot-combined, lex_at, lex_rest, gone, over, weaken}}
use Rattle.key_law.specs.Keys.{IsSpread}

module _ {links demands : ℕ} {keys : ℕ → ℕ → ℤ} (bound : ℕ → ℤ) {t u : ℕ → ℤ} {d : ℤ} {first : ℕ → ℤ} (first_is : IsSpread links demands keys t u d first) (p : ℤ)
    {s v : ℕ → ℤ} {e : ℤ} {second : ℕ → ℤ} (second_is : IsSpread links demands keys s v e second) (q : ℤ)
    (values : dot (links + demands) first bound *ℤ q ≡ dot (links + demands) second bound *ℤ p) where
  abbrev m : ℕ
  m = links + demands

  abbrev mixed : ℕ → ℤ
  mixed = combined (valued m bound second) q (valued m bound first) p

  link_entry : (k : ℕ) → k < links → mixed (suc k) ≡ (v k *ℤ p) -ℤ (q *ℤ u k)
  link_entry k l = ap (λ x. (x *ℤ p) -ℤ (q *ℤ first k)) (second_is.link k l) ∙ ap (λ x. (v k *ℤ p) -ℤ (q *ℤ x)) (first_is.link k l)

  -- where values are equal, the first link entries that differ decide
  pub by_links : (at : ℕ) → at < links → ((k : ℕ) → k < at → u k *ℤ q ≡ v k *ℤ p) → (u at *ℤ q) <ℤ (v at *ℤ p) → IsNoLater m bound first p second q
  by_links at l same less = inr (
    gone (dot m first bound) (dot m second bound) p q values,
    lex_at m at (λ k. mixed (suc k)) (omega (arith, l))
        (λ k lk. link_entry k (omega (arith, l, lk)) ∙ gone (u k) (v k) p q (same k lk))
        (subst (λ x. pos 0 <ℤ x) (sym (link_entry at l)) (over (u at) (v at) p q less)),
  )

  module _ (links_same : (k : ℕ) → k < links → u k *ℤ q ≡ v k *ℤ p) where
    -- where these are equal as well, what the rows take at the keys decides
    demand_entry : (f : ℕ) → f < demands → mixed (suc (links + f)) ≡ (p *ℤ (e *ℤ s f)) -ℤ (q *ℤ (d *ℤ t f))
    demand_entry f l =
        let none : dot links (combined v q u p) (keys f) ≡ pos 0 = dot-none links (combined v q u p) (keys f) (λ k lk. gone (u k) (v k) p q (links_same k lk)) in
        let parts = dot-combined links v u (keys f) q p in
        ap (λ x. (x *ℤ p) -ℤ (q *ℤ first (links + f))) (second_is.demand f l) ∙ (ap (λ x. (((e *ℤ s f) -ℤ dot links v (keys f)) *ℤ p) -ℤ (q *ℤ x)) (first_is.demand f l)
        ∙ rest (e *ℤ s f) (d *ℤ t f) (dot links v (keys f)) (dot links u (keys f)) (sym parts ∙ none))
      where
        rest : (a b x y : ℤ) → (x *ℤ p) -ℤ (q *ℤ y) ≡ pos 0 → ((a -ℤ x) *ℤ p) -ℤ (q *ℤ (b -ℤ y)) ≡ (p *ℤ a) -ℤ (q *ℤ b)
        rest a b x y z = omega (arith, ints, z, distribute_minus a x p, minus_left b y q, *ℤ_comm a p)

    before : (k : ℕ) → k < suc links → k < suc m → mixed k ≡ pos 0
    before zero l lm = gone (dot m first bound) (dot m second bound) p q values
    before (suc k) l lm = link_entry k (omega (arith, l)) ∙ gone (u k) (v k) p q (links_same k (omega (arith, l)))

    pub by_targets : ((f : ℕ) → f < demands → pos 0 ≤ℤ ((p *ℤ (e *ℤ s f)) -ℤ (q *ℤ (d *ℤ t f)))) → IsNoLater m bound first p second q
    by_targets high = lex_rest (suc m) (suc links) mixed before (λ k g l. following k g l)
      where
        following : (k : ℕ) → suc links ≤ k → k < suc m → pos 0 ≤ℤ mixed k
        following zero g l = absurd (omega (arith, g))
        following (suc k) g l =
            let f = k - links in let is : links + f ≡ k = omega (arith, g) in
            subst (λ x. pos 0 ≤ℤ mixed (suc x)) is (subst (λ x. pos 0 ≤ℤ x) (sym (demand_entry f (omega (arith, g, l)))) (high f (omega (arith, g, l))))

    -- a row of the block comes before one with which it ties
    pub block_first : ((f : ℕ) → f < demands → t f ≡ pos 0) → ((f : ℕ) → f < demands → pos 0 ≤ℤ s f) → pos 0 <ℤ p → pos 0 <ℤ e → IsNoLater m bound first p second q
    block_first none high pp pe = by_targets (λ f l. subst (λ x. pos 0 ≤ℤ ((p *ℤ (e *ℤ s f)) -ℤ (q *ℤ (d *ℤ x)))) (sym (none f l))
        (less (times_nonneg p (e *ℤ s f) (weaken p pp) (times_nonneg e (s f) (weaken e pe) (high f l)))))
      where
        less : {x : ℤ} → pos 0 ≤ℤ x → pos 0 ≤ℤ (x -ℤ (q *ℤ (d *ℤ pos 0)))
        less {x} h = let z : q *ℤ (d *ℤ pos 0) ≡ pos 0 = ap (λ y. q *ℤ y) (*ℤ-zero d) ∙ *ℤ-zero q in omega (arith, ints, h, z)

    -- of two keys that tie, the one of the later demand comes first
    pub later_first : (a b : ℕ) → b < a → a < demands → ((f : ℕ) → f < demands → t f ≡ unit_vector a f) → ((f : ℕ) → f < demands → s f ≡ unit_vector b f) → pos 0 <ℤ p → pos 0 <ℤ e → IsNoLater m bound first p second q
    later_first a b lt la is_t is_s pp pe = lex_at (suc m) (suc (links + b)) mixed (omega (arith, lt, la))
        (λ k l. early k l)
        (subst (λ x. pos 0 <ℤ x) (sym (demand_entry b (omega (arith, lt, la))))
        (here (is_s b (omega (arith, lt, la)) ∙ unit-same b) (is_t b (omega (arith, lt, la)) ∙ unit-other a b (λ z. omega (arith, z, lt)))))
      where
        here : {x y : ℤ} → x ≡ pos 1 → y ≡ pos 0 → pos 0 <ℤ ((p *ℤ (e *ℤ x)) -ℤ (q *ℤ (d *ℤ y)))
        here {x} {y} one none =
            let z : q *ℤ (d *ℤ y) ≡ pos 0 = ap (λ w. q *ℤ (d *ℤ w)) none ∙ (ap (λ w. q *ℤ w) (*ℤ-zero d) ∙ *ℤ-zero q) in
            let o : p *ℤ (e *ℤ x) ≡ p *ℤ e = ap (λ w. p *ℤ (e *ℤ w)) one ∙ ap (λ w. p *ℤ w) (times_one e) in
            omega (arith, ints, z, o, positive_product p e pp pe)
          where
            times_one : (w : ℤ) → w *ℤ pos 1 ≡ w
            times_one w = omega (arith, ints)

        none_there : {x y : ℤ} → x ≡ pos 0 → y ≡ pos 0 → (p *ℤ (e *ℤ x)) -ℤ (q *ℤ (d *ℤ y)) ≡ pos 0
        none_there {x} {y} ex ey =
            let z : q *ℤ (d *ℤ y) ≡ pos 0 = ap (λ w. q *ℤ (d *ℤ w)) ey ∙ (ap (λ w. q *ℤ w) (*ℤ-zero d) ∙ *ℤ-zero q) in
            let o : p *ℤ (e *ℤ x) ≡ pos 0 = ap (λ w. p *ℤ (e *ℤ w)) ex ∙ (ap (λ w. p *ℤ w) (*ℤ-zero e) ∙ *ℤ-zero p) in
            omega (arith, ints, z, o)

        early : (k : ℕ) → k < suc (links + b) → mixed k ≡ pos 0
        early zero l = before zero (omega arith) (omega arith)
        early (suc k) l = ⊎_elim
            (λ lk. before (suc k) (omega (arith, lk)) (omega (arith, lk)))
            (λ ge. let f = k - links in let is : links + f ≡ k = omega (arith, ge) in
            subst (λ x. mixed (suc x) ≡ pos 0) is (demand_entry f (omega (arith, ge, l, lt, la))
            ∙ none_there (is_s f (omega (arith, ge, l, lt, la)) ∙ unit-other b f (λ z. omega (arith, z, l, ge)))
            (is_t f (omega (arith, ge, l, lt, la)) ∙ unit-other a f (λ z. omega (arith, z, l, ge, lt)))))
            (cases_lt k links)
