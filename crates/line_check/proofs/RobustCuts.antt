-- in each state the modules that it leaves of able counts meet the cuts of the state in which nothing fails
use Rattle.std.proofs.Common.{◌≡◌, ℕ, ◌*◌, ◌≤◌, ⊎_elim, true, false, cond, eqb, eqb-true, List, [], ◌∷◌, length, slice_index, refl, ap, subst, sym, ◌∙◌, arith}
use Rattle.net_core.proofs.Library.{All-from_recursion, cases_Bool, false≢true, recursion_from_All, sum_by-cons, AllByRecursion}
use Rattle.module_choice.proofs.Pairs.{capacities_long}
use Rattle.plan_terms.{proofs.Lemmas.{all_weaker, metric_inequality_listed, path_alike}, specs.Terms.{Carries, Case, CutLine, Flow, Graph, IsAble, IsCut, IsFlow, IsRight, Joins, Leads, LinkId, Routing, capacities, fails, graph_in, load, names_link}}
use Rattle.line_check.{specs.Inequalities.{MeetsLine, line_of_cut}, specs.Laws.surviving_counts, proofs.CutLines.capacities_along, proofs.SurvivingCounts.{capacity_left, surviving_shape}}

-- the links of a path survive
links_unfailed : (g : Graph) (a : ℕ) (es : List LinkId) (cs : List ℕ) (e : ℕ) → Leads (Joins g) a es cs → names_link e es ≡ true → fails g.listed g.state e ≡ false
links_unfailed g a [] [] e leads named = absurd (false≢true named)
links_unfailed g a [] (c ∷ cs) e leads named = absurd leads
links_unfailed g a (x ∷ es) [] e leads named = absurd leads
links_unfailed g a (x ∷ es) (c ∷ cs) e leads named = ⊎_elim
    (λ t. subst (λ i. fails g.listed g.state i ≡ false) (eqb-true x.0 e t) leads.0.survives.unfailed)
    (λ f. links_unfailed g c es cs e leads.1 (rw f at named))
    (cases_Bool (eqb x.0 e))

module _ (p : Case) (s : ℕ) where
  -- a link that a state fails carries nothing there
  no_load : (flows : List Flow) (e : ℕ) → AllByRecursion (IsFlow (Joins (graph_in p s)) p.demands) flows → fails p.listed s e ≡ true → load flows e ≡ 0
  no_load [] e all failed = refl
  no_load (f ∷ fs) e all failed = ⊎_elim
      (λ t. absurd (false≢true (sym (links_unfailed (graph_in p s) all.0.of.from.0 f.path all.0.path.0 e all.0.path.1 t) ∙ failed)))
      (λ n. let none : cond (names_link e f.path) f.num 0 ≡ 0 = ap (λ b. cond b f.num 0) n in
      omega (arith, none, no_load fs e all.1 failed, sum_by-cons (λ (x : Flow). cond (names_link e x.path) x.num 0) f fs))
      (cases_Bool (names_link e f.path))

  joins_whole : (e x y : ℕ) → Joins (graph_in p s) e x y → Joins (graph_in p 0) e x y
  joins_whole e x y j = record {
    survives = record { link = j.survives.link; at = j.survives.at; has_module = j.survives.has_module; unfailed = refl };
    ends = j.ends;
  }

  flow_whole : (f : Flow) → IsFlow (Joins (graph_in p s)) p.demands f → IsFlow (Joins (graph_in p 0)) p.demands f
  flow_whole f is = record {
    positive = is.positive;
    of = is.of;
    at = is.at;
    path = path_alike (Joins (graph_in p s)) (Joins (graph_in p 0)) joins_whole is.of.from.0 is.of.to.0 f.path is.path;
  }

  module _ (counts : List (List ℕ)) (able : IsAble p counts) (routing : Routing) (carries : Carries (Joins (graph_in p s)) p.demands 1 (capacities p.links counts) routing) where
    flows_known : AllByRecursion (IsFlow (Joins (graph_in p s)) p.demands) routing.flows
    flows_known = recursion_from_All (IsFlow (Joins (graph_in p s)) p.demands) routing.flows carries.flows

    within_left : (e : ℕ) → load routing.flows e ≤ slice_index (capacities p.links (surviving_counts p s counts)) e * routing.den
    within_left e = ⊎_elim
        (λ t. omega (arith, no_load routing.flows e flows_known t))
        (λ n. subst (λ k. load routing.flows e ≤ k * routing.den) (sym (capacity_left p s counts able.shape e n)) (carries.within e))
        (cases_Bool (fails p.listed s e))

    -- the routing of a state is one of the whole network, by what the state leaves
    carries_whole : Carries (Joins (graph_in p 0)) p.demands 1 (capacities p.links (surviving_counts p s counts)) routing
    carries_whole = record {
      den = carries.den;
      flows = All-from_recursion (IsFlow (Joins (graph_in p 0)) p.demands) routing.flows
          (all_weaker (IsFlow (Joins (graph_in p s)) p.demands) (IsFlow (Joins (graph_in p 0)) p.demands) routing.flows flow_whole flows_known);
      met = carries.met;
      within = within_left;
    }

  pub robust_cut_met : (cut : CutLine) (counts : List (List ℕ)) → IsCut p cut → cut.state.0 ≡ 0 → IsAble p counts → s ≤ length p.listed → MeetsLine p.links (line_of_cut p.links cut) (surviving_counts p s counts)
  robust_cut_met cut counts is first able low =
      let there = able.each s low in
      let left = surviving_counts p s counts in
      let shape = surviving_shape p s counts able.shape in
      let right : IsRight (Joins (graph_in p 0)) cut.lengths p.demands cut.right = subst (λ k. IsRight (Joins (graph_in p k)) cut.lengths p.demands cut.right) first is.right in
      let inequality = metric_inequality_listed (graph_in p 0) p.demands 1 (capacities p.links left) cut.lengths cut.right there.routing is.kept.count (capacities_long p.links left shape) (carries_whole counts able there.routing there.carries) right in
      omega (arith, inequality, capacities_along cut.lengths p.links left is.kept.count shape)
