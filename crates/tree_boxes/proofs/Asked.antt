-- what is answered of counts that are asked about
use Rattle.std.proofs.Common.{◌≡◌, ◌∙◌, ℕ, ◌+◌, ◌^◌, ◌<◌, ⊎_elim, List, [], ◌∷◌, ◌++◌, All, Some, length, slice_get, sym, subst, arith}
use Rattle.net_core.proofs.Library.{∥∥₁_elim, props}
use Rattle.module_choice.proofs.Carrying.{get_cases}
use Rattle.plan_terms.specs.Terms.{AreCounts, AreDemands, Case, IsNetwork, Joins, Link, Routing, capacities, graph_in, total_cost}
use Rattle.plan_swaps.{specs.Terms.{AreRoutingsWithin, IsRoutingWithin}, proofs.Lemmas.{shape_at_most, total_at_most}}
use Rattle.tree_boxes.{specs.Finds.AreCheaperCounts, specs.inner.Lowering.HaveRoomFor, proofs.Loads.within_lowered, proofs.Lowering.{room_at_most, room_limits}}

-- what is pre-installed is little
pub fixed_low : (nodes : List (List ℕ)) (links : List Link) → ∥ IsNetwork nodes links ∥₁ → All (λ l. l.fixed < 2 ^ 40) links
fixed_low nodes links checked = ∥∥₁_elim checked (hlevel props) (λ net. λ k d lt. (net.sound k d lt).fixed)

-- ---- a routing for each state

module _ (p : Case) (nums : List ℕ) where
  -- one state more
  pub routed_more : (routings : List Routing) (s : ℕ) (r : Routing) → length routings ≡ s → ((t : ℕ) (x : Routing) → slice_get routings t ≡ Some x → IsRoutingWithin p t nums x) → IsRoutingWithin p s nums r
      → (t : ℕ) (x : Routing) → slice_get (routings ++ r ∷ []) t ≡ Some x → IsRoutingWithin p t nums x
  routed_more routings s r long each here t x at = ⊎_elim
      (λ before. each t x before)
      (λ h. subst (λ k. IsRoutingWithin p k nums x) (sym (h.0 ∙ long)) (subst (λ (y : Routing). IsRoutingWithin p s nums y) (sym h.1) here))
      (get_cases routings r x t at)

-- ---- counts that carry the demands

module _ (p : Case) (counts : List (List ℕ)) where
  -- lowered ones
  pub lowered_carried : (lowered : List (List ℕ)) (cost : ℕ) (routings : List Routing) → AreDemands (length p.nodes) p.demands → All (λ l. l.fixed < 2 ^ 40) p.links → AreCounts p.links counts
      → HaveRoomFor p.links counts lowered → AreRoutingsWithin p (capacities p.links counts) routings → cost ≡ total_cost p.links lowered
      → AreCheaperCounts p (total_cost p.links counts + 1) (record { counts = lowered; cost = cost; routings = routings })
  lowered_carried lowered cost routings belong fixed shape have within paid =
      let fewer = room_at_most p.links counts lowered shape have in
      let most = total_at_most p.links lowered counts fewer in
      record {
        shape = shape_at_most p.links lowered counts fewer shape;
        limits = room_limits p.links counts lowered fixed shape have;
        routings = record {
          states = within.states;
          each = λ s r at.
              let was = within.each s r at in
              record { carries = within_lowered (Joins (graph_in p s)) p.demands p.links counts lowered r belong.total shape have was.carries; form = was.form; lowest = was.lowest };
        };
        paid = paid;
        cheaper = omega (arith, paid, most);
      }

  pub lowered_shape : (lowered : List (List ℕ)) → AreCounts p.links counts → HaveRoomFor p.links counts lowered → AreCounts p.links lowered
  lowered_shape lowered shape have = shape_at_most p.links lowered counts (room_at_most p.links counts lowered shape have) shape
