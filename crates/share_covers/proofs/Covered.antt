-- counts that cover what each link needs in a share
use Rattle.std.proofs.Common.{◌≡◌, ℕ, ◌*◌, ◌^◌, ◌<◌, ◌≤◌, inl, List, [], All, Some, length, refl, sym, ap, subst, arith, slice_get, slice_index}
use Rattle.net_core.proofs.Library.{slice_get-get_or, get_or_default_zero, all_at}
use Rattle.plan_terms.specs.Terms.{IsLink, IsModule, IsNetwork, Link, AreCounts, total_cost}
use Rattle.module_prices.specs.declared.cheapest.UnitPair.{UnitPair}
use Rattle.plan_types.specs.declared.quality.Share.{Share}
use Rattle.master_law.{specs.Terms.{AreUnitPairs, IsShareNeed}, proofs.PairsOnce.pairs_once}
use Rattle.plan_law.specs.TightPlans.{CoversShare}
use Rattle.module_choice.{specs.Coverings.CoverNeeds, proofs.Carrying.network_links, proofs.Falling.{all_shaped, capacities_small}}
use Rattle.share_covers.specs.ShareCovers.{AreShareCovers, AreShareNeeds}

-- the modules of a link of a network are sound
pub link_sound : (nodes : List (List ℕ)) (links : List Link) → ∥ IsNetwork nodes links ∥₁ → (e : ℕ) (l : Link) → slice_get links e ≡ Some l → All IsModule l.modules
link_sound nodes links checked e l at = (all_at (IsLink (length nodes)) links e l (network_links nodes links checked) at).each

abbrev default : Link
default = record { name = []; a = record { 0 = 0 }; b = record { 0 = 0 }; fixed = 0; setup = 0; modules = [] }

module _ (links : List Link) (share : Share) (needs : List ℕ) (are : AreShareNeeds links share needs) where
  -- needs are small
  pub needs_small : All (λ n. n < 2 ^ 44) needs
  needs_small e d lt =
      let link = slice_get-get_or links e default (omega (arith, lt, are.count)) in
      omega (arith, get_or_default_zero needs e d lt, (are.each e _ link).is_need.most)

  -- a link without module needs nothing
  pub none_needed : (e : ℕ) (l : Link) → slice_get links e ≡ Some l → l.modules ≡ [] → slice_index needs e ≡ 0
  none_needed e l at none =
      let of = are.each e l at in
      let once = pairs_once l.modules (subst (All IsModule) (sym none) (λ k d lt. absurd (omega (arith, lt)))) of.pair (record { capacity = 0; cost = 0 }) of.is_pair (inl (none, refl, refl)) in
      let le : slice_index needs e ≤ 0 = of.is_need.least 0 (omega (arith, ap (λ (p : UnitPair). p.capacity * slice_index share.units e) once)) in
      omega (arith, le)

  module _ (modules_sound : (e : ℕ) (l : Link) → slice_get links e ≡ Some l → All IsModule l.modules) (fixed : (e : ℕ) (l : Link) → slice_get links e ≡ Some l → l.fixed < 2 ^ 40) (counts : List (List ℕ)) (covered : CoverNeeds links needs counts) where
    covers : (pairs : List UnitPair) → AreUnitPairs links pairs → CoversShare links pairs share counts
    covers pairs units = record {
      long = covered.long;
      each = λ e l pair c at is got.
          let of = are.each e l at in
          let once = pairs_once l.modules (modules_sound e l at) of.pair pair of.is_pair (units.each e l pair at is) in
          (slice_index needs e, subst (λ (p : UnitPair). IsShareNeed share.scale p.capacity (slice_index share.units e) (slice_index needs e)) once of.is_need, (covered.each e l c at got).covers);
    }

    pub share_covers : (cost : ℕ) → cost ≡ total_cost links counts → AreShareCovers links share (record { counts = counts; cost = cost })
    share_covers cost paid = record {
      covers = covers;
      shape = shape;
      limits = record {
        few = λ e d lt.
            let link = slice_get-get_or links e default (omega (arith, lt, covered.long)) in
            (covered.each e _ _ link (slice_get-get_or counts e d lt)).few;
        small = capacities_small links counts (λ e l c at got. let narrow = (covered.each e l c at got).narrow in omega (arith, fixed e l at, narrow));
      };
      small = λ e l c at got. (covered.each e l c at got).narrow;
      paid = paid;
    }
      where
        shape : AreCounts links counts
        shape = all_shaped links counts covered.long (λ e l c at got. (covered.each e l c at got).covers.reaches.shape)
