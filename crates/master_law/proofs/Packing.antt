-- the master program is a packing program, where its numbers are narrow
use Rattle.std.proofs.Common.{◌≡◌, ◌≢◌, ℕ, ◌*◌, ◌<◌, ◌≤◌, List, [], All, AllPairs, Any, Contains, Some, length, slice_get, slice_index, get_or, sym, ap, ◌∙◌, arith, subst, ⊎_elim, mul-le-mul_left, pos, ◌<ℤ◌, ◌≤ℤ◌}
use Rattle.net_core.proofs.Library.{cases_eq, cases_lt, get_or_default, All-contains, ints}
use Rattle.checked_fraction.specs.Terms.{IsNarrow}
use Rattle.module_prices.specs.declared.cheapest.UnitPair.{UnitPair}
use Rattle.plan_terms.{specs.Terms.{Metric, LinkId, StateId, Link, CutLine, IsModule}, proofs.Lemmas.lowest_positive}
use Rattle.route_law.proofs.Lemmas.{program_packing}
use Rattle.simplex_law.specs.Terms.{IsPacking}
use Rattle.master_law.{specs.MasterPrograms.{master_bound, master_slack, cut_gain, cut_entry, unit_capacities, IsSameCut, IsCutColumn, IsMasterColumn}, specs.UnitPairs.AreUnitPairs, proofs.Columns.pair_below}

abbrev link_id : ℕ → LinkId
link_id e = record { 0 = e }

product : (a b : ℕ) → 0 < a → 0 < b → pos 0 <ℤ pos (a * b)
product a b ha hb = let m : a * 1 ≤ a * b = mul-le-mul_left a (omega (arith, hb)) in omega (arith, ints, m, ha)

-- cuts of a list without repetition that have the same state and lengths are one
pub same_once : (cuts : List CutLine) → AllPairs (λ a b. IsSameCut a b → ⊥) cuts → (a b : CutLine) → Contains cuts a → Contains cuts b → IsSameCut a b → a ≡ b
same_once cuts different a b ha hb same = ⊎_elim
    (λ e. sym ha.2 ∙ (ap (λ i. get_or cuts i a) e ∙ other))
    (λ ne. ⊎_elim
    (λ l. absurd (different ha.0 hb.0 a l hb.1 (subst (λ x. IsSameCut (get_or cuts ha.0 a) x) (sym other) (subst (λ x. IsSameCut x b) (sym ha.2) same))))
    (λ g. absurd (different hb.0 ha.0 a (omega (arith, g, ne)) ha.1 (subst (λ x. IsSameCut x (get_or cuts ha.0 a)) (sym other) (subst (λ x. IsSameCut b x) (sym ha.2) (sym same.0, sym same.1)))))
    (cases_lt ha.0 hb.0))
    (cases_eq ha.0 hb.0)
  where
    other : get_or cuts hb.0 a ≡ b
    other = get_or_default cuts hb.0 a b hb.1 ∙ hb.2

module _ (links : List Link) (pairs : List UnitPair) (cuts : List CutLine) (sound : All (λ l. All IsModule l.modules) links) (units : AreUnitPairs links pairs)
    (count : (cut : CutLine) → Contains cuts cut → length cut.lengths ≡ length links) (some_length : (cut : CutLine) → Contains cuts cut → Any (λ x. 0 < x) cut.lengths)
    (served : (cut : CutLine) → Contains cuts cut → (e : ℕ) (l : Link) → slice_get links e ≡ Some l → slice_index cut.lengths e ≢ 0 → l.modules ≢ []) where
  -- a cut takes something of a link
  pub takes : (cut : CutLine) → Contains cuts cut → (e : ℕ) × (e < length links) × (pos 0 <ℤ cut_entry pairs cut e)
  takes cut held =
      let some = some_length cut held in
      let e = some.0 in
      let inside : e < length links = subst (λ n. e < n) (count cut held) some.2 in
      let q = pair_below links pairs sound units e inside in
      let long : 0 < slice_index cut.lengths e = subst (λ x. 0 < x) (sym some.3 ∙ get_or_default cut.lengths e some.1 0 some.2) some.4 in
      let above : 0 < q.2.pair.capacity = ⊎_elim
      (λ empty. absurd (served cut held e q.0 q.1 (λ z. omega (arith, z, long)) empty.0))
      (λ pair. lowest_positive pair.cheapest.cost pair.cheapest.capacity q.2.pair.cost q.2.pair.capacity (All-contains IsModule q.0.modules pair.cheapest q.2.modules pair.least.one).carries pair.lowest)
      q.2.is_pair in
      (e, inside, product (slice_index cut.lengths e) (slice_index (unit_capacities pairs) e) long (omega (arith, above, q.2.capacity)))

  no_cut : (state : StateId) (lengths : List ℕ) (k : ℕ) → Metric state lengths ≡ master_slack k → ⊥
  no_cut state lengths k e = cc e

  slack_once : (a b : ℕ) → master_slack a ≡ master_slack b → a ≡ b
  slack_once a b h = let ids : link_id a ≡ link_id b = cc h in ap (λ (x : LinkId). x.0) ids

  -- the master program
  pub master_packing : ((e : ℕ) → e < length links → IsNarrow (master_bound pairs e))
      → ((cut : CutLine) → Contains cuts cut → IsNarrow (cut_gain links cut) × ((e : ℕ) → e < length links → IsNarrow (cut_entry pairs cut e)))
      → AllPairs (λ a b. IsSameCut a b → ⊥) cuts
      → IsPacking (length links) (master_bound pairs) (IsMasterColumn links pairs cuts)
  master_packing small narrow different = program_packing (length links) (master_bound pairs) master_slack (IsCutColumn links pairs cuts)
      (λ k l. (omega (arith, ints), small k l))
      (λ c is. subst IsNarrow (sym is.gain) (narrow is.cut is.listed).0)
      (λ c is k l. subst (λ x. (pos 0 ≤ℤ x) × IsNarrow x) (sym (is.entry k l)) (omega (arith, ints), (narrow is.cut is.listed).1 k l))
      (λ c is. let t = takes is.cut is.listed in (t.0, t.1, subst (λ x. pos 0 <ℤ x) (sym (is.entry t.0 t.1)) t.2))
      (λ c d is other same.
      let name : Metric is.cut.state is.cut.lengths ≡ Metric other.cut.state other.cut.lengths = sym is.named ∙ (same ∙ other.named) in
      let states : is.cut.state ≡ other.cut.state = cc name in
      let lengths : is.cut.lengths ≡ other.cut.lengths = cc name in
      let one : is.cut ≡ other.cut = same_once cuts different is.cut other.cut is.listed other.listed (states, lengths) in
      (is.gain ∙ (ap (cut_gain links) one ∙ sym other.gain), λ k l. is.entry k l ∙ (ap (λ x. cut_entry pairs x k) one ∙ sym (other.entry k l))))
      (λ i j li lj e. slack_once i j e)
      (λ c is k l e. no_cut is.cut.state is.cut.lengths k (sym is.named ∙ e))
