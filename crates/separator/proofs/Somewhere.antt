-- lengths that are priced in a state of a network are priced somewhere
use Rattle.std.proofs.Common.{◌≡◌, ◌∙◌, ℕ, zero, suc, ◌^◌, ◌<◌, ◌≤◌, ◌||◌, inl, inr, ⊎_elim, IfSome, None, Option, Some, false, cond, List, [], ◌∷◌, All, length, refl, sym, ap, subst, arith, eq-eqb, ne_eqb}
use Rattle.net_core.proofs.Library.{∥∥₁_elim, props, cases_Bool, cases_eq, All-cons, All-nil, slice_get_within}
use Rattle.plan_terms.{specs.Terms.{Demand, RouteColumn, LinkId, Caps, Listed, AreDemands, Graph, Joins, IsNetwork, AreStates, fails, names_link}, proofs.Lemmas.path_alike}
use Rattle.simplex_law.specs.Terms.{ColumnOf}
use Rattle.route_law.specs.Terms.{ArePricedLengths, ArePricedSomewhere, IsCarrying, IsRouteColumn}
use Rattle.warm_routing.{specs.Terms.{IsViolatedCut, IsBoundaryCut, IsFoundCutOf}, proofs.Lemmas.boundary_found}
use Rattle.metric_cut.specs.declared.cut.Cut.{Cut}

-- ---- these links under other states

module _ (g : Graph) (listed : List Listed) (s : ℕ) (same : (e : ℕ) → e < length g.links → fails g.listed g.state e ≡ fails listed s e) where
  abbrev other : Graph
  other = record { nodes = g.nodes; links = g.links; listed = listed; state = s }

  joins_there : (e x y : ℕ) → Joins g e x y → Joins other e x y
  joins_there e x y j = record {
    survives = record {
      link = j.survives.link;
      at = j.survives.at;
      has_module = j.survives.has_module;
      unfailed = sym (same e (slice_get_within g.links e j.survives.link j.survives.at)) ∙ j.survives.unfailed;
    };
    ends = j.ends;
  }

  joins_back : (e x y : ℕ) → Joins other e x y → Joins g e x y
  joins_back e x y j = record {
    survives = record {
      link = j.survives.link;
      at = j.survives.at;
      has_module = j.survives.has_module;
      unfailed = same e (slice_get_within g.links e j.survives.link j.survives.at) ∙ j.survives.unfailed;
    };
    ends = j.ends;
  }

  module _ (demands : List Demand) where
    column_there : (c : ColumnOf RouteColumn) → IsRouteColumn g demands c → IsRouteColumn other demands c
    column_there c is = ⊎_elim
        (λ (k : IsCarrying g demands c). inl (record {
          place = k.place;
          demand = k.demand;
          at = k.at;
          needed = k.needed;
          path = k.path;
          leads = path_alike (Joins g) (Joins other) joins_there k.demand.from.0 k.demand.to.0 k.path k.leads;
          named = k.named;
          gain = k.gain;
          entry = k.entry;
        }))
        (λ slack. inr slack)
        is

    column_back : (c : ColumnOf RouteColumn) → IsRouteColumn other demands c → IsRouteColumn g demands c
    column_back c is = ⊎_elim
        (λ (k : IsCarrying other demands c). inl (record {
          place = k.place;
          demand = k.demand;
          at = k.at;
          needed = k.needed;
          path = k.path;
          leads = path_alike (Joins other) (Joins g) joins_back k.demand.from.0 k.demand.to.0 k.path k.leads;
          named = k.named;
          gain = k.gain;
          entry = k.entry;
        }))
        (λ slack. inr slack)
        is

    priced_there : (caps : Caps) (lengths : List ℕ) → ArePricedLengths g demands caps lengths → ArePricedLengths other demands caps lengths
    priced_there caps lengths p = record {
      basis = p.basis;
      duals = p.duals;
      den = p.den;
      best = record {
        feasible = record {
          columns = λ j lt. column_there (p.basis j) (p.best.feasible.columns j lt);
          filled = p.best.feasible.filled;
        };
        objective = p.best.objective;
        none = λ c is gains. p.best.none c (column_back c is) gains;
      };
      prices = p.prices;
    }

-- ---- states that name links of the network alone

-- the links below n that a state fails
failed_below : List Listed → ℕ → ℕ → List LinkId
failed_below listed s zero = []
failed_below listed s (suc n) = cond (fails listed s n) (record { 0 = n } ∷ failed_below listed s n) (failed_below listed s n)

module _ (listed : List Listed) (s : ℕ) where
  unnamed_above : (n e : ℕ) → n ≤ e → names_link e (failed_below listed s n) ≡ false
  unfolding failed_below
  unnamed_above zero e le = refl
  unnamed_above (suc n) e le = ⊎_elim
      (λ yes. rw yes (rw (ne_eqb n e (λ same. omega (arith, le, same))) (unnamed_above n e (omega (arith, le)))))
      (λ no. rw no (unnamed_above n e (omega (arith, le))))
      (cases_Bool (fails listed s n))

  named_below : (n e : ℕ) → e < n → names_link e (failed_below listed s n) ≡ fails listed s e
  unfolding failed_below
  named_below zero e lt = absurd (omega (arith, lt))
  named_below (suc n) e lt = ⊎_elim
      (λ (last : n ≡ e). subst (λ k. names_link k (failed_below listed s (suc n)) ≡ fails listed s k) last (⊎_elim
      (λ yes. rw yes (ap (λ b. b || names_link n (failed_below listed s n)) (eq-eqb n n refl)))
      (λ no. rw no (unnamed_above n n (omega arith)))
      (cases_Bool (fails listed s n))))
      (λ ne. ⊎_elim
      (λ yes. rw yes (rw (ne_eqb n e ne) (named_below n e (omega (arith, lt, ne)))))
      (λ no. rw no (named_below n e (omega (arith, lt, ne))))
      (cases_Bool (fails listed s n)))
      (cases_eq n e)

  failed_known : (m n : ℕ) → n ≤ m → All (λ x. x.0 < m) (failed_below listed s n)
  unfolding failed_below
  failed_known m zero le = All-nil (λ (x : LinkId). x.0 < m)
  failed_known m (suc n) le = ⊎_elim
      (λ yes. rw yes (All-cons (λ (x : LinkId). x.0 < m) (record { 0 = n }) (failed_below listed s n) (omega (arith, le)) (failed_known m n (omega (arith, le)))))
      (λ no. rw no (failed_known m n (omega (arith, le))))
      (cases_Bool (fails listed s n))

-- ---- what is priced in a state is priced somewhere

module _ (g : Graph) (network : ∥ IsNetwork g.nodes g.links ∥₁) (demands : List Demand) (are : AreDemands (length g.nodes) demands) (caps : Caps)
    (scale : (0 < caps.scale) × (caps.scale < 2 ^ 64)) (nums : (length caps.nums ≡ length g.links) × All (λ n. n < 2 ^ 128) caps.nums) where
  is_network : IsNetwork g.nodes g.links
  is_network = ∥∥₁_elim network (hlevel props) (λ is. is)

  somewhere_in : (listed : List Listed) (s : ℕ) → AreStates (length g.links) listed → s ≤ length listed → ((e : ℕ) → e < length g.links → fails g.listed g.state e ≡ fails listed s e)
      → (lengths : List ℕ) → ArePricedLengths g demands caps lengths → ArePricedSomewhere lengths
  somewhere_in listed s states inside same lengths priced = record {
    g = record { nodes = g.nodes; links = g.links; listed = listed; state = s };
    network = is_network;
    states = states;
    listed_state = inside;
    demands = demands;
    are_demands = are;
    caps = caps;
    scale = scale;
    nums = nums;
    priced = priced_there g listed s same demands caps lengths priced;
  }

  somewhere_by : (failed : List LinkId) → All (λ x. x.0 < length g.links) failed → ((e : ℕ) → e < length g.links → names_link e failed ≡ fails g.listed g.state e)
      → (lengths : List ℕ) → ArePricedLengths g demands caps lengths → ArePricedSomewhere lengths
  somewhere_by [] known is = somewhere_in [] 0
      (record {
        checked = record { few = omega arith; some = All-nil (λ (l : Listed). 1 ≤ length l.links); different = λ i j d lt within. absurd (omega (arith, within)) };
        known = All-nil (λ (l : Listed). All (λ e. e.0 < length g.links) l.links);
      })
      (omega arith)
      (λ e lt. sym (is e lt))
  somewhere_by (x ∷ xs) known is =
      let l : Listed = record { name = []; links = x ∷ xs } in
      somewhere_in (l ∷ []) 1
      (record {
        checked = record {
          few = omega arith;
          some = All-cons (λ (l : Listed). 1 ≤ length l.links) l [] (omega arith) (All-nil (λ (l : Listed). 1 ≤ length l.links));
          different = λ i j d lt within. absurd (omega (arith, lt, within));
        };
        known = All-cons (λ (l : Listed). All (λ e. e.0 < length g.links) l.links) l [] known (All-nil (λ (l : Listed). All (λ e. e.0 < length g.links) l.links));
      })
      (omega arith)
      (λ e lt. sym (is e lt))

  priced_somewhere : (lengths : List ℕ) → ArePricedLengths g demands caps lengths → ArePricedSomewhere lengths
  priced_somewhere = somewhere_by (failed_below g.listed g.state (length g.links))
      (failed_known g.listed g.state (length g.links) (length g.links) (omega arith))
      (λ e lt. named_below g.listed g.state (length g.links) e lt)

  -- so a cut of a state, as routing finds it
  pub found_cut : (cut : Cut) → IsViolatedCut g demands caps cut → IsFoundCutOf g demands caps cut
  found_cut cut is = record {
    of = is.of;
    lengths = is.lengths;
    priced = priced_somewhere is.lengths is.priced;
    keeps = is.keeps;
    violated = is.violated;
  }

-- a violated cut of a set of nodes that may be found is one of priced lengths, in an equal surviving graph with equal demands and capacities
pub boundary_may_be : (g h : Graph) (ds es : List Demand) (x y : Caps) (found : Option Cut) → g ≡ h → ds ≡ es → x ≡ y
    → IfSome found (IsBoundaryCut g ds x) → IfSome found (IsFoundCutOf h es y)
boundary_may_be g h ds es x y None graph demands caps is = tt
boundary_may_be g h ds es x y (Some cut) graph demands caps is = boundary_found h es y cut (subst (λ (k : Graph). IsBoundaryCut k es y cut) graph
    (subst (λ (zs : List Demand). IsBoundaryCut g zs y cut) demands (subst (λ (z : Caps). IsBoundaryCut g ds z cut) caps is)))
