-- the definitions on a network of one link, worked out by hand
use Rattle.std.proofs.Common.{◌≡◌, ◌≢◌, ℕ, zero, suc, ◌+◌, ◌*◌, ◌<◌, ◌≤◌, ◌⊎◌, List, [], ◌∷◌, Some, None, Contains, false, ◌||◌, cond, length, get_or, slice_get, slice_index, refl, sym, ap, arith, subst, inl, inr, ne_eqb}
use Rattle.net_core.proofs.Library.{eq-one_of_dvd-one, all_one}
use Rattle.module_prices.specs.declared.cheapest.UnitPair.{UnitPair}
use Rattle.plan_terms.specs.Terms.{Demand, LinkId, Link, Module, Three, CutLine, Flow, Routing, Case, graph_in, Graph, Joins, Survives, IsCut, link_cost, Covers, Reaches, Carries, IsFlow, sent, load, Keeps, AreOpening, IsDistance, IsPath, length_of, ArePriceLengths, HasLeastUnitCost, IsPriceLength, IsUnitPair}
use Rattle.plan_types.{specs.declared.certificate.CertLine.CertLine, specs.declared.certificate.Spot.TheVariants.Local, specs.declared.plan.Plan.Plan, specs.declared.quality.Fractional.Fractional, specs.declared.quality.Quality.TheVariants.Tight}
use Rattle.route_law.specs.Terms.{IsLowestRouting}
use Rattle.master_law.specs.Terms.{AreUnitPairs, IsShareNeed}
use Rattle.plan_law.{specs.LoosePlans.IsWorkedPlan, specs.TightPlans.{CoversShare, IsTightPlan}, specs.WorkedLists.{HasCut, HasOpeningOf, IsBeginning, IsOpeningCut, IsWorkedList, Lacks}, proofs.Rounds.begun_worked}

-- ---- a link between two nodes, with a module of 10000 for 5000, and a demand of 12000 across it

abbrev the_module : Module
the_module = record { capacity = 10000; cost = 5000 }

abbrev the_link : Link
the_link = record { name = 76 ∷ []; a = record { 0 = 0 }; b = record { 0 = 1 }; fixed = 0; setup = 0; modules = the_module ∷ [] }

abbrev the_demand : Demand
the_demand = record { name = 68 ∷ []; from = record { 0 = 0 }; to = record { 0 = 1 }; need = 12000 }

abbrev the_case : Case
the_case = record { nodes = (65 ∷ []) ∷ (66 ∷ []) ∷ []; links = the_link ∷ []; listed = []; demands = the_demand ∷ []; places = Three }

abbrev here : Graph
here = graph_in the_case 0

abbrev the_path : List LinkId
the_path = record { 0 = 0 } ∷ []

-- its unit pair is 2 for 1
abbrev the_pairs : List UnitPair
the_pairs = record { capacity = 2; cost = 1 } ∷ []

least_module : HasLeastUnitCost (the_module ∷ []) the_module
least_module = record { one = (0, omega arith, refl); least = all_one (λ o. 5000 * o.capacity ≤ o.cost * 10000) the_module (omega arith) }

units : AreUnitPairs the_case.links the_pairs
units = record { count = refl; each = λ e l p at of. pair e l p at of }
  where
    unit_pair : IsUnitPair (the_module ∷ []) 2 1
    unit_pair = record { cheapest = the_module; least = least_module; lowest = record { same = refl; lowest = λ k one two. eq-one_of_dvd-one one } }

    pair : (e : ℕ) (l : Link) (p : UnitPair) → slice_get (the_link ∷ []) e ≡ Some l → slice_get the_pairs e ≡ Some p → ((l.modules ≡ []) × (p.capacity ≡ 0) × (p.cost ≡ 0)) ⊎ IsUnitPair l.modules p.capacity p.cost
    pair zero l p at of =
        let one : the_link ≡ l = cc at in
        let two : record { capacity = 2; cost = 1 } ≡ p = cc of in
        inr (subst (λ (k : Link). IsUnitPair k.modules p.capacity p.cost) one (subst (λ (q : UnitPair). IsUnitPair (the_module ∷ []) q.capacity q.cost) two unit_pair))
    pair (suc e) l p at of = absurd (cc at)

-- ---- its cut of the length 1 is its one opening cut

survives : Survives here 0
survives = record { link = the_link; at = refl; has_module = λ e. absurd (let n : 1 ≡ 0 = ap length e in omega (arith, n)); unfailed = refl }

joins : Joins here 0 0 1
unfolding survives
joins = record { survives = survives; ends = inl (refl, refl) }

only_link : (e : ℕ) → Survives here e → e ≡ 0
only_link zero s = refl
only_link (suc e) s = absurd (cc s.at)

beyond : (n e : ℕ) → slice_index (n ∷ []) e ≢ 0 → Survives here e
beyond n zero ne = survives
beyond n (suc e) ne = absurd (ne refl)

kept : (c : ℕ) → 0 < c → Keeps here (c ∷ []) (1 ∷ [])
kept c some = record {
  count = refl;
  common = c;
  positive = some;
  divided = λ e s. subst (λ i. slice_index (1 ∷ []) i * c ≡ slice_index (c ∷ []) i) (sym (only_link e s)) (omega arith);
  greatest = λ d all. all 0 survives;
  zero = beyond 1;
}

prices : ArePriceLengths (the_link ∷ []) (16 ∷ [])
prices = record {
  count = refl;
  dearest = the_module;
  is_dearest = λ some. record { some = (0, the_link, omega arith, refl, least_module); greatest = greatest };
  each = each;
}
  where
    greatest : (e : ℕ) (l : Link) (o : Module) → slice_get (the_link ∷ []) e ≡ Some l → HasLeastUnitCost l.modules o → o.cost * 10000 ≤ 5000 * o.capacity
    greatest zero l o at least =
        let one : the_link ≡ l = cc at in
        (subst (λ (k : Link). HasLeastUnitCost k.modules o) (sym one) least).least 0 the_module (omega arith)
    greatest (suc e) l o at least = absurd (cc at)

    each : (e : ℕ) (l : Link) → slice_get (the_link ∷ []) e ≡ Some l → IsPriceLength the_module l.modules (slice_index (16 ∷ []) e)
    each zero l at =
        let one : the_link ≡ l = cc at in
        inr (the_module, subst (λ (k : Link). HasLeastUnitCost k.modules the_module) one least_module, inr (omega arith, refl))
    each (suc e) l at = absurd (cc at)

opening : AreOpening here ((1 ∷ []) ∷ [])
opening = record {
  prices = 16 ∷ [];
  priced = prices;
  unit = Some (1 ∷ []);
  price = Some (1 ∷ []);
  unit_kept = kept 1 (omega arith);
  price_kept = kept 16 (omega arith);
  are = refl;
}

path : IsPath (Joins here) 0 1 the_path
path = (1 ∷ [], (joins, tt), refl, (((λ e. absurd (omega (arith, e))), tt), (tt, tt)))

-- the ends are at the distance 1
distance : IsDistance (Joins here) (1 ∷ []) 0 1 (Some 1)
distance = ((the_path, path, refl), shortest)
  where
    shortest : (es : List LinkId) → IsPath (Joins here) 0 1 es → 1 ≤ length_of (1 ∷ []) es
    shortest [] ([], leads, last, differ) = absurd (omega (arith, last))
    shortest [] (c ∷ cs, leads, last, differ) = absurd leads
    shortest (e ∷ es) ([], leads, last, differ) = absurd leads
    shortest (e ∷ es) (c ∷ cs, leads, last, differ) = omega (arith, ap (λ i. slice_index (1 ∷ []) i) (only_link e.0 leads.0.survives))

abbrev the_cut : CutLine
the_cut = record { state = record { 0 = 0 }; lengths = 1 ∷ []; right = 12000 }

is_cut : IsCut the_case the_cut
is_cut = record {
  listed_state = omega arith;
  kept = record { count = refl; zero = beyond 1; lowest = λ d all. eq-one_of_dvd-one (all 0 0 (omega arith)) };
  right = record { far = Some 1 ∷ []; count = refl; each = each; sum = refl };
}
  where
    each : (k : ℕ) (d : Demand) → slice_get (the_demand ∷ []) k ≡ Some d → IsDistance (Joins here) (1 ∷ []) d.from.0 d.to.0 (get_or (Some 1 ∷ []) k None)
    each zero d at = let one : the_demand ≡ d = cc at in subst (λ (w : Demand). IsDistance (Joins here) (1 ∷ []) w.from.0 w.to.0 (Some 1)) one distance
    each (suc k) d at = absurd (cc at)

-- so a planning that knows no cut begins with it
begins : IsBeginning the_case [] (the_cut ∷ [])
begins = record {
  opened = the_cut ∷ [];
  whole = refl;
  opening = all_one (IsOpeningCut the_case) the_cut (record { is_cut = is_cut; lengths = (1 ∷ []) ∷ []; opening = opening; among = (0, omega arith, refl) });
  lacking = all_one (Lacks []) the_cut (λ k d lt. absurd (omega (arith, lt)));
  ordered = λ i j d ij lj. absurd (omega (arith, ij, lj));
  every = λ s le. subst (λ t. HasOpeningOf the_case (the_cut ∷ []) t) (none s le) (record { lengths = (1 ∷ []) ∷ []; opening = opening; each = all_one (λ ls. HasCut (the_cut ∷ []) 0 ls) (1 ∷ []) (0, the_cut, omega arith, refl, (refl, refl)) });
}
  where
    none : (s : ℕ) → s ≤ 0 → 0 ≡ s
    none s le = omega (arith, le)

worked : IsWorkedList the_case the_pairs [] [] (the_cut ∷ [])
worked = begun_worked the_case the_pairs units [] (the_cut ∷ []) begins (omega arith)

-- ---- 6000 units, which cost 6000 and carry the demand, make a plan of two modules tight

abbrev the_flow : Flow
the_flow = record { demand = 0; path = the_path; num = 12000 }

abbrev the_routing : Routing
the_routing = record { den = 1; flows = the_flow ∷ [] }

abbrev the_fractional : Fractional
the_fractional = record { share = record { scale = 1; units = 6000 ∷ [] }; routings = the_routing ∷ [] }

abbrev the_line : CertLine
the_line = record { num = 1; spot = Local; cut = the_cut }

abbrev the_plan : Plan
the_plan = record {
  version = 0;
  position = 0;
  demands = the_demand ∷ [];
  counts = (2 ∷ []) ∷ [];
  cost = 10000;
  routings = the_routing ∷ [];
  certificate = record { den = 2; lines = the_line ∷ [] };
  raw_num = 6000;
  raw_den = 1;
  bound = 10000;
  quality = Tight the_fractional;
}

carries : Carries (Joins here) (the_demand ∷ []) 1 (12000 ∷ []) the_routing
carries = record {
  den = omega arith;
  flows = all_one (IsFlow (Joins here) (the_demand ∷ [])) the_flow (record { positive = omega arith; of = the_demand; at = refl; path = path });
  met = met;
  within = within;
}
  where
    met : (k : ℕ) (d : Demand) → slice_get (the_demand ∷ []) k ≡ Some d → sent (the_flow ∷ []) k ≡ d.need * 1 * 1
    met zero d at = let one : the_demand ≡ d = cc at in ap (λ (w : Demand). w.need * 1 * 1) one
    met (suc k) d at = absurd (cc at)

    within : (e : ℕ) → load (the_flow ∷ []) e ≤ slice_index (12000 ∷ []) e * 1
    within zero = omega arith
    within (suc e) = subst (λ b. 0 + cond (b || false) 12000 0 ≤ 0) (sym (ne_eqb 0 (suc e) (λ z. omega (arith, z)))) (omega arith)

carried : (s : ℕ) (r : Routing) → slice_get (the_routing ∷ []) s ≡ Some r → Carries (Joins (graph_in the_case s)) (the_demand ∷ []) 1 (12000 ∷ []) r
carried zero r at = let one : the_routing ≡ r = cc at in subst (λ x. Carries (Joins here) (the_demand ∷ []) 1 (12000 ∷ []) x) one carries
carried (suc s) r at = absurd (cc at)

reaches : Reaches (the_module ∷ []) 12000 (2 ∷ [])
reaches = record { shape = refl; reached = omega arith }

covered : Covers the_link 12000 (2 ∷ [])
covered = record { reaches = reaches; cheapest = record { counts = 2 ∷ []; may = inr (omega arith); reaches = reaches; paid = refl; least = λ others may r. least others r } }
  where
    least : (others : List ℕ) → Reaches (the_module ∷ []) 12000 others → 10000 ≤ link_cost the_link others
    least [] r = absurd (let n : 0 ≡ 1 = r.shape in omega (arith, n))
    least (c ∷ []) r = let m : 12000 ≤ 0 + 10000 * c = r.reached in omega (arith, m)
    least (c ∷ d ∷ ds) r = absurd (omega (arith, r.shape))

covers : CoversShare (the_link ∷ []) the_pairs the_fractional.share ((2 ∷ []) ∷ [])
covers = record { long = refl; each = each }
  where
    needed : IsShareNeed 1 2 6000 12000
    needed = record { most = omega arith; enough = inr (omega arith); least = λ other le. omega (arith, le) }

    each : (e : ℕ) (l : Link) (q : UnitPair) (c : List ℕ) → slice_get (the_link ∷ []) e ≡ Some l → slice_get the_pairs e ≡ Some q → slice_get ((2 ∷ []) ∷ []) e ≡ Some c
        → (need : ℕ) × IsShareNeed 1 q.capacity (slice_index (6000 ∷ []) e) need × Covers l need c
    each zero l q c at of is =
        let one : the_link ≡ l = cc at in
        let two : record { capacity = 2; cost = 1 } ≡ q = cc of in
        let three : 2 ∷ [] ≡ c = cc is in
        (12000, subst (λ (x : UnitPair). IsShareNeed 1 x.capacity 6000 12000) two needed, subst (λ (k : Link). Covers k 12000 c) one (subst (λ x. Covers the_link 12000 x) three covered))
    each (suc e) l q c at of is = absurd (cc at)

tight : IsTightPlan the_case the_pairs the_plan the_fractional
tight = record {
  units = units;
  share = record { positive = omega arith; long = refl; lowest = λ d scale all. eq-one_of_dvd-one scale };
  raw = refl;
  carried = record { states = refl; lowest = all_one IsLowestRouting the_routing (λ d den all. eq-one_of_dvd-one den); each = carried };
  cost = record { counts = (2 ∷ []) ∷ []; covers = covers; at_most = omega arith };
}

worked_plan : IsWorkedPlan the_case [] (the_cut ∷ []) the_plan
worked_plan = record { pairs = the_pairs; rounds = []; worked = worked; certificate = all_one (λ (l : CertLine). Contains (the_cut ∷ []) l.cut) the_line (0, omega arith, refl); quality = tight }
