-- a link has one unit pair
use Rattle.std.proofs.Common.{◌≡◌, suc, inl, inr, List, [], ◌∷◌, All, length, sym, ap, ◌∙◌, arith, ext_get_or}
use Rattle.net_core.proofs.Library.{slice_get-get_or, all_at, get_some}
use Rattle.plan_terms.specs.Terms.{IsModule, Link, Module, IsUnitPair}
use Rattle.module_prices.{specs.declared.cheapest.UnitPair.UnitPair, proofs.UnitPairs.pair_once}
use Rattle.master_law.{specs.Laws.UnitPairsAreOne, specs.UnitPairs.{AreUnitPairs, IsPairOfLink}}

same_pair : (a b : UnitPair) → a.capacity ≡ b.capacity → a.cost ≡ b.cost → a ≡ b
same_pair a b h k = ap (λ x. record { capacity = x; cost = a.cost }) h ∙ ap (λ x. record { capacity = b.capacity; cost = x }) k

no_pair : (modules : List Module) (pair : UnitPair) → modules ≡ [] → IsUnitPair modules pair.capacity pair.cost → ⊥
no_pair [] pair none is = let lt = is.least.one.1 in omega (arith, lt)
no_pair (m ∷ ms) pair none is = absurd (let e : suc (length ms) ≡ 0 = ap (λ (xs : List Module). length xs) none in omega (arith, e))

pub pairs_once : (modules : List Module) → All IsModule modules → (a b : UnitPair) → IsPairOfLink modules a → IsPairOfLink modules b → a ≡ b
pairs_once modules sound a b (inl p) (inl q) = same_pair a b (p.1 ∙ sym q.1) (p.2 ∙ sym q.2)
pairs_once modules sound a b (inl p) (inr q) = absurd (no_pair modules b p.0 q)
pairs_once modules sound a b (inr p) (inl q) = absurd (no_pair modules a q.0 p)
pairs_once modules sound a b (inr p) (inr q) = let once = pair_once modules sound a.capacity a.cost b.capacity b.cost p q in same_pair a b once.1 once.0

no_units : UnitPair
no_units = record { capacity = 0; cost = 0 }

-- so has each of some links
pub links_once : (links : List Link) → All (λ l. All IsModule l.modules) links → (xs ys : List UnitPair) → AreUnitPairs links xs → AreUnitPairs links ys → xs ≡ ys
links_once links sound xs ys first second =
    ext_get_or no_units xs ys (first.count ∙ sym second.count) (λ e lt.
    let l = get_some links e (omega (arith, lt, first.count)) in
    pairs_once l.0.modules (all_at (λ (x : Link). All IsModule x.modules) links e l.0 sound l.1) _ _
    (first.each e l.0 _ l.1 (slice_get-get_or xs e no_units lt))
    (second.each e l.0 _ l.1 (slice_get-get_or ys e no_units (omega (arith, lt, first.count, second.count)))))

pub unit_pairs_are_one : UnitPairsAreOne
unit_pairs_are_one nodes links pairs others net first second = links_once links (λ k d lt. (net.sound k d lt).each) pairs others first second
