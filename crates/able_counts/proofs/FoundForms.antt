-- routings that are found are in form
use Rattle.std.proofs.Common.{◌≡◌, ◌≢◌, ℕ, ◌^◌, ◌<◌, ◌≤◌, List, [], ◌∷◌, get_or, length, subst, arith}
use Rattle.net_core.proofs.Library.{slice_get_within, get_or_from_slice_get}
use Rattle.plan_terms.{specs.Terms.{Demand, LinkId, Caps, Flow, Routing, AreDemands, IsDemand, Graph, Joins, IsFlow, IsPath, Leads, last_node}, proofs.Lemmas.path_links_known}
use Rattle.plan_report.specs.Terms.{IsFlowInForm, IsPathInForm, IsRoutingInForm}
use Rattle.separator.specs.Terms.{IsRouted}

module _ (g : Graph) where
  -- a path between two different nodes has a link
  has_link : (a b : ℕ) → a ≢ b → (es : List LinkId) (cs : List ℕ) → Leads (Joins g) a es cs → last_node a cs ≡ b → 1 ≤ length es
  has_link a b ne [] [] leads last = absurd (ne last)
  has_link a b ne [] (c ∷ cs) leads last = absurd leads
  has_link a b ne (e ∷ es) cs leads last = omega arith

  pub path_found : (a b : ℕ) → a ≢ b → (es : List LinkId) → IsPath (Joins g) a b es → IsPathInForm g.links es
  path_found a b ne es path = record { some = has_link a b ne es path.0 path.1 path.2; known = path_links_known g a b es path }

  module _ (demands : List Demand) (belong : AreDemands (length g.nodes) demands) where
    flow_found : (f : Flow) → f.num < 2 ^ 124 → IsFlow (Joins g) demands f → IsFlowInForm g.links demands f
    flow_found f low is =
        let d : IsDemand (length g.nodes) is.of = subst (IsDemand (length g.nodes)) (get_or_from_slice_get demands f.demand is.of is.of is.at) (belong.each f.demand is.of (slice_get_within demands f.demand is.of is.at)) in
        record {
          demand = slice_get_within demands f.demand is.of is.at;
          positive = is.positive;
          num = low;
          path = path_found is.of.from.0 is.of.to.0 d.different f.path is.path;
        }

    pub routing_found : length g.links ≤ 256 → (caps : Caps) (r : Routing) → IsRouted g demands caps r → IsRoutingInForm g.links demands r
    routing_found links caps r is = record {
      positive = is.carries.den;
      den = is.den_limit;
      few = let most = is.few in omega (arith, most, links, belong.few);
      flows = λ k d lt. flow_found (get_or r.flows k d) (is.nums_limit k d lt) (is.carries.flows k d lt);
    }
