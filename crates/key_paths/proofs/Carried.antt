-- what paths cost, and paths that are collected demand by demand
use Rattle.std.proofs.Common.{◌≡◌, ◌-◌, ℕ, None, Option, MatchOption, zero, suc, ◌<◌, ◌≤◌, ◌+◌, ◌++◌, List, [], ◌∷◌, All, Some, length, length-append, remove, slice_get, slice_index, inl, inr, ⊎_elim, refl, sym, ap, ◌∙◌, subst, arith, ℤ, pos, ◌+ℤ◌, ◌-ℤ◌, ◌<ℤ◌, ◌≤ℤ◌}
use Rattle.net_core.proofs.Library.{AllByRecursion, cases_eq, ints, get_or_from_slice_get, slice_get_within, All-push, few_nodes}
use Rattle.checked_fraction.specs.Terms.{num}
use Rattle.plan_terms.{specs.Terms.{LinkSlack, DemandSlack, Carry, Demand, LinkId, AreDemands, IsDemand, Graph, Joins, IsNetwork, IsPath, length_of}, proofs.Lemmas.{path_links_inside, path_few, joins_inside}}
use Rattle.simplex_law.proofs.Lemmas.{sparse}
use Rattle.key_rows.{specs.declared.keyed.Keyed.Keyed, specs.Terms.IsShortPath, proofs.Paths.path_total}
use Rattle.key_paths.{specs.declared.carrier.Carrier.Carrier, specs.inner.Gaining.{cost_at, AreLinkCosts, AreOffers, IsCarried, IsCarrier, IsGaining, NoneGains, NoneIsCheap, Offers}}

prices_along : (n : ℕ) (nums : ℕ → ℤ) (prices : List ℕ) (path : List LinkId) → AllByRecursion (λ l. l.0 < n) path → ((e : ℕ) → e < n → nums e ≡ pos (slice_index prices e))
    → path_total nums path ≡ pos (length_of prices path)
prices_along n nums prices [] all same = refl
prices_along n nums prices (e ∷ es) all same = omega (arith, ints, same e.0 all.0, prices_along n nums prices es all.1 same)

-- the links of a demand's path are known, and few
pub carried_short : (g : Graph) (demands : List Demand) (k : ℕ) (path : List LinkId) → ∥ IsNetwork g.nodes g.links ∥₁ → AreDemands (length g.nodes) demands → IsCarried g demands k path → IsShortPath (length g.links) path
carried_short g demands k path checked belong h =
    let known : IsDemand (length g.nodes) h.demand = subst (IsDemand (length g.nodes)) (get_or_from_slice_get demands k h.demand h.demand h.at) (belong.each k h.demand (slice_get_within demands k h.demand h.at)) in
    let short = path_few (Joins g) (length g.nodes) (λ e x y j. (joins_inside g e x y checked j).1) h.demand.from.0 h.demand.to.0 known.from_known path h.leads in
    (path_links_inside g h.demand.from.0 h.demand.to.0 path h.leads, omega (arith, few_nodes g.nodes g.links checked, short))

pub carried_place : (g : Graph) (demands : List Demand) (k : ℕ) (path : List LinkId) → IsCarried g demands k path → k < length demands
carried_place g demands k path h = slice_get_within demands k h.demand h.at

module _ (g : Graph) (b : Keyed) (prices : List ℕ) (count : length b.prices.nums ≡ length g.links) (costs : AreLinkCosts b prices) where
  -- the cost of a path by its prices
  pub path_cost : (k x y : ℕ) (path : List LinkId) → IsPath (Joins g) x y path → cost_at b (Carry k path) ≡ (pos (length_of prices path) +ℤ num b.duals k) -ℤ b.prices.den
  path_cost k x y path leads =
      let n = length b.prices.nums in
      let inside = subst (λ m. AllByRecursion (λ (l : LinkId). l.0 < m) path) (sym count) (path_links_inside g x y path leads) in
      ap (λ s. (s +ℤ num b.duals k) -ℤ b.prices.den)
      (sym (sparse (λ (l : LinkId). l.0) (λ l. pos 1) n (num b.prices.nums) path inside) ∙ prices_along n (num b.prices.nums) prices path inside (λ e l. costs.same e (omega (arith, l, costs.count))))

  -- a cheapest path that gains has come
  pub adds : (k total : ℕ) (d : Demand) (path : List LinkId) (old new : List Carrier) → 0 < d.need → IsPath (Joins g) d.from.0 d.to.0 path → total ≡ length_of prices path
      → (pos total +ℤ num b.duals k) <ℤ b.prices.den → new ≡ old ++ record { demand = k; path = path } ∷ [] → Offers g b k d old new
  adds k total d path old new needed leads is cheap pushed = inl (record {
    path = path;
    is = pushed;
    needed = needed;
    leads = leads;
    cheap = gains (path_cost k d.from.0 d.to.0 path leads) (subst (λ t. (pos t +ℤ num b.duals k) <ℤ b.prices.den) is cheap);
  })
    where
      gains : {c s den : ℤ} → c ≡ s -ℤ den → s <ℤ den → c <ℤ pos 0
      gains {c} {s} {den} e l = omega (arith, ints, e, l)

  -- where a cheapest path doesn't gain, none does
  pub none_cheap : (k total : ℕ) (d : Demand) → ((path : List LinkId) → IsPath (Joins g) d.from.0 d.to.0 path → total ≤ length_of prices path)
      → b.prices.den ≤ℤ (pos total +ℤ num b.duals k) → NoneIsCheap g b k d
  none_cheap k total d least dear path needed leads = above (num b.duals k) (path_cost k d.from.0 d.to.0 path leads) (least path leads) dear
    where
      above : {c den : ℤ} {t n : ℕ} (y : ℤ) → c ≡ (pos n +ℤ y) -ℤ den → t ≤ n → den ≤ℤ (pos t +ℤ y) → pos 0 ≤ℤ c
      above {c} {den} {t} {n} y e le l = omega (arith, ints, e, le, l)

none_left : (X : Type 0) (i k : ℕ) → k < length (remove {X = X} [] i) → ⊥
none_left X zero k l = omega (arith, l)
none_left X (suc i) k l = omega (arith, l)

-- what holds of all holds of what is left of them
pub all_left : {X : Type 0} (P : X → Type 0) (xs : List X) (i : ℕ) → All P xs → All P (remove xs i)
all_left P [] i all k d lt = absurd (none_left _ i k lt)
all_left P (x ∷ xs) zero all k d lt = all (suc k) d (omega (arith, lt))
all_left P (x ∷ xs) (suc i) all zero d lt = all 0 d (omega arith)
all_left P (x ∷ xs) (suc i) all (suc k) d lt = all_left P xs i (λ j e l. all (suc j) e (omega (arith, l))) k d (omega (arith, lt))

-- and of one of them
pub all_at : {X : Type 0} (P : X → Type 0) (xs : List X) (i : ℕ) (x : X) → slice_get xs i ≡ Some x → All P xs → P x
all_at P xs i x at all = subst P (get_or_from_slice_get xs i x x at) (all i x (slice_get_within xs i x at))

pub offers_more : (g : Graph) (demands : List Demand) (b : Keyed) (n : ℕ) (d : Demand) (old new : List Carrier) → slice_get demands n ≡ Some d
    → Offers g b n d old new → AreOffers g demands b n old → AreOffers g demands b (n + 1) new
offers_more g demands b n d old new at (inl adds) sofar =
    let c : Carrier = record { demand = n; path = adds.path } in
    record {
      each = subst (All (IsCarrier g demands)) (sym adds.is) (All-push (IsCarrier g demands) old c sofar.each (record { demand = d; at = at; needed = adds.needed; leads = adds.leads }));
      cheap = subst (All (λ x. cost_at b (Carry x.demand x.path) <ℤ pos 0)) (sym adds.is) (All-push (λ x. cost_at b (Carry x.demand x.path) <ℤ pos 0) old c sofar.cheap adds.cheap);
      none = λ empty. absurd (omega (arith, empty, ap length adds.is, length-append old (c ∷ [])));
    }
offers_more g demands b n d old new at (inr same) sofar = record {
  each = subst (All (IsCarrier g demands)) (sym same.0) sofar.each;
  cheap = subst (All (λ x. cost_at b (Carry x.demand x.path) <ℤ pos 0)) (sym same.0) sofar.cheap;
  none = λ empty k other lt of. ⊎_elim
      (λ e. let one : d ≡ other = cc (at, subst (λ i. slice_get demands i ≡ Some other) e of) in
      subst (λ i. NoneIsCheap g b i other) (sym e) (subst (λ x. NoneIsCheap g b n x) one same.1))
      (λ ne. sofar.none (ap length (sym same.0) ∙ empty) k other (omega (arith, lt, ne)) of)
      (cases_eq k n);
}

module _ (g : Graph) (demands : List Demand) (b : Keyed) where
  -- the last of the paths that gain, and none where no demand has any
  pub found_last : (o : Option Carrier) (old new : List Carrier)
      → MatchOption o ((length old ≡ 0) × (new ≡ old)) (λ c. (slice_get old (length old - 1) ≡ Some c) × (new ≡ remove old (length old - 1)) × (0 < length old))
      → AreOffers g demands b (length demands) old
      → MatchOption o ((k : ℕ) (d : Demand) → slice_get demands k ≡ Some d → NoneIsCheap g b k d) (λ c. IsGaining g demands b (Carry c.demand c.path))
  found_last None old new is offers = λ k d at. offers.none is.0 k d (slice_get_within demands k d at) at
  found_last (Some c) old new is offers = record {
    is_name = all_at (IsCarrier g demands) old (length old - 1) c is.0 offers.each;
    gains = all_at (λ x. cost_at b (Carry x.demand x.path) <ℤ pos 0) old (length old - 1) c is.0 offers.cheap;
  }

  -- where no price is negative, and no path gains, no column does
  pub none_gain : length b.prices.nums ≡ length g.links → length b.duals ≡ length demands
      → ((e : ℕ) → e < length b.prices.nums → pos 0 ≤ℤ num b.prices.nums e) → ((d : ℕ) → d < length b.duals → pos 0 ≤ℤ num b.duals d)
      → ((k : ℕ) (d : Demand) → slice_get demands k ≡ Some d → NoneIsCheap g b k d) → NoneGains g demands b
  none_gain links count prices duals none (LinkSlack link) is = prices link.0 (omega (arith, is, links))
  none_gain links count prices duals none (DemandSlack demand) is = duals demand (omega (arith, is, count))
  none_gain links count prices duals none (Carry k path) is = none k is.demand is.at path is.needed is.leads
