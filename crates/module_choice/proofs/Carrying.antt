-- from the routings of states to what the links carry
use Rattle.std.proofs.Common.{◌≡◌, ℕ, zero, suc, ◌+◌, ◌-◌, ◌*◌, ◌^◌, ◌<◌, ◌≤◌, ◌==◌, ◌||◌, ◌⊎◌, Bool, true, false, cond, if◌then◌else◌, List, [], ◌∷◌, ◌++◌, All, AllPairs, Some, get_or, inl, inr, length, length-append, max, refl, sym, ◌∙◌, ap, subst, arith, slice_get, sum_by, ⊎_elim, eqb, eqb-true}
use Rattle.net_core.proofs.Library.{sum_by-cons, cases_Bool, cases_lt, false≢true, get_or_from_slice_get, slice_get_within, ∥∥₁_elim, props}
use Rattle.plan_terms.{specs.Terms.{AreDemands, IsDemand, IsLink, IsNetwork, names_link, Demand, LinkId, Link, Flow, Routing, Case, graph_in, Graph, Joins, Survives, IsLeastFlow, IsLeastRouting, peak, IsFlow, load, Leads}, proofs.Lemmas.{DistinctLinks, path_links_differ, path_links_known, path_few, joins_within}}
use Rattle.module_choice.{specs.inner.Routes.{AreRouted, times, weight}, proofs.Numbers.one_if}

-- a flow along a least path is a flow
least_flow : (joins : ℕ → ℕ → ℕ → Type 0) (lengths : List ℕ) (demands : List Demand) (f : Flow) → IsLeastFlow joins lengths demands f → IsFlow joins demands f
least_flow joins lengths demands f l = record { positive = omega (arith, l.num, l.positive); of = l.of; at = l.at; path = l.path.path }

pub least_flows : (joins : ℕ → ℕ → ℕ → Type 0) (lengths : List ℕ) (demands : List Demand) (r : Routing) → IsLeastRouting joins lengths demands r → All (IsFlow joins demands) r.flows
least_flows joins lengths demands r least k d lt = least_flow joins lengths demands (get_or r.flows k d) (least.each k d lt)

-- flows of ever later demands
pub ordered_at : (flows : List Flow) (i : ℕ) (d : Flow) → AllPairs (λ f g. f.demand < g.demand) flows → i < length flows → i ≤ (get_or flows i d).demand
ordered_at flows zero d ordered lt = omega arith
ordered_at flows (suc i) d ordered lt =
    let before : i ≤ (get_or flows i d).demand = ordered_at flows i d ordered (omega (arith, lt)) in
    omega (arith, before, ordered i (suc i) d (omega arith) lt)

-- there are no more flows than demands
pub few_flows : (joins : ℕ → ℕ → ℕ → Type 0) (lengths : List ℕ) (demands : List Demand) (r : Routing) → IsLeastRouting joins lengths demands r → length r.flows ≤ length demands
few_flows joins lengths demands r least = ⊎_elim
    (λ some. let last = length r.flows - 1 in
    let d : Flow = record { demand = 0; path = []; num = 0 } in
    let flow = least.each last d (omega (arith, some)) in
    omega (arith, ordered_at r.flows last d least.ordered (omega (arith, some)), slice_get_within demands (get_or r.flows last d).demand flow.of flow.at, some))
    (λ none. omega (arith, none))
    (cases_lt 0 (length r.flows))

named_survives : (g : Graph) (a : ℕ) (es : List LinkId) (cs : List ℕ) (e : ℕ) → Leads (Joins g) a es cs → names_link e es ≡ true → Survives g e
named_survives g a [] [] e leads named = absurd (false≢true named)
named_survives g a (x ∷ es) (c ∷ cs) e leads named = ⊎_elim
    (λ t. subst (λ i. Survives g i) (eqb-true x.0 e t) leads.0.survives)
    (λ f. named_survives g c es cs e leads.1 (rw f at named))
    (cases_Bool (eqb x.0 e))
named_survives g a [] (c ∷ cs) e leads named = absurd leads
named_survives g a (x ∷ es) [] e leads named = absurd leads

-- where no link appears twice, a link appears once where it is named
times_once : (e : ℕ) (es : List LinkId) → DistinctLinks es → times e es ≡ one_if (names_link e es)
times_once e [] different = refl
times_once e (x ∷ es) different =
    let head = sum_by-cons (λ (y : LinkId). cond (y.0 == e) 1 0) x es in
    ⊎_elim
    (λ t. let none : names_link e es ≡ false = subst (λ i. names_link i es ≡ false) (eqb-true x.0 e t) different.0 in
    let rest : times e es ≡ 0 = times_once e es different.1 ∙ ap one_if none in
    let one : one_if (x.0 == e) ≡ 1 = ap one_if t in
    let all : one_if (names_link e (x ∷ es)) ≡ 1 = ap (λ b. one_if (b || names_link e es)) t in
    omega (arith, head, rest, one, all))
    (λ f. let zero' : one_if (x.0 == e) ≡ 0 = ap one_if f in
    let all : one_if (names_link e (x ∷ es)) ≡ one_if (names_link e es) = ap (λ b. one_if (b || names_link e es)) f in
    omega (arith, head, times_once e es different.1, zero', all))
    (cases_Bool (eqb x.0 e))

-- what a flow brings onto a link
brought : (num : ℕ) (b : Bool) → num * one_if b ≡ (if b then num else 0)
brought num true = omega arith
brought num false = omega arith

-- each link carries what the flows over it sum to
pub load_is_weight : (g : Graph) (demands : List Demand) (flows : List Flow) (e : ℕ) → All (IsFlow (Joins g) demands) flows → load flows e ≡ weight flows e
load_is_weight g demands [] e each = refl
load_is_weight g demands (f ∷ fs) e each =
    let flow = each 0 f (omega arith) in
    let once = times_once e f.path (path_links_differ g flow.of.from.0 flow.of.to.0 f.path flow.path) in
    let one : f.num * times e f.path ≡ (if names_link e f.path then f.num else 0) = ap (λ t. f.num * t) once ∙ brought f.num (names_link e f.path) in
    let rest = load_is_weight g demands fs e (λ k d lt. each (suc k) d (omega arith)) in
    omega (arith, sum_by-cons (λ (h : Flow). (if names_link e h.path then h.num else 0)) f fs, sum_by-cons (λ (h : Flow). h.num * times e h.path) f fs, one, rest)

-- a link that doesn't survive, or isn't one, carries nothing
pub load_none : (g : Graph) (demands : List Demand) (flows : List Flow) (e : ℕ) → All (IsFlow (Joins g) demands) flows → (Survives g e → ⊥) → load flows e ≡ 0
load_none g demands [] e each dead = refl
load_none g demands (f ∷ fs) e each dead =
    let flow = each 0 f (omega arith) in
    let off : names_link e f.path ≡ false = ⊎_elim (λ t. absurd (dead (named_survives g flow.of.from.0 f.path flow.path.0 e flow.path.1 t))) (λ n. n) (cases_Bool (names_link e f.path)) in
    let one : (if names_link e f.path then f.num else 0) ≡ 0 = ap (λ b. cond b f.num 0) off in
    omega (arith, sum_by-cons (λ (h : Flow). (if names_link e h.path then h.num else 0)) f fs, one, load_none g demands fs e (λ k d lt. each (suc k) d (omega arith)) dead)

-- what is known of the links and the sizes of routes
pub links_known : (g : Graph) (demands : List Demand) (flows : List Flow) → All (IsFlow (Joins g) demands) flows → (k : ℕ) (f : Flow) → k < length flows → (i : ℕ) (x : LinkId) → i < length (get_or flows k f).path → (get_or (get_or flows k f).path i x).0 < length g.links
links_known g demands flows each k f lt i x lt' =
    let flow = each k f lt in
    path_links_known g flow.of.from.0 flow.of.to.0 (get_or flows k f).path flow.path i x lt'

-- a flow's number is small, and its path is short
pub flows_small : (g : Graph) (n : ℕ) (lengths : List ℕ) (demands : List Demand) (r : Routing) → n ≤ 128 → All (IsLink n) g.links → AreDemands n demands → IsLeastRouting (Joins g) lengths demands r → (k : ℕ) (f : Flow) → k < length r.flows → ((get_or r.flows k f).num < 2 ^ 40) × (length (get_or r.flows k f).path < 256)
flows_small g n lengths demands r few sound are least k f lt =
    let flow = least.each k f lt in
    let at : get_or demands (get_or r.flows k f).demand flow.of ≡ flow.of = get_or_from_slice_get demands (get_or r.flows k f).demand flow.of flow.of flow.at in
    let is : IsDemand n flow.of = subst (IsDemand n) at (are.each (get_or r.flows k f).demand flow.of (slice_get_within demands (get_or r.flows k f).demand flow.of flow.at)) in
    let short = path_few (Joins g) n (λ e x y j. (joins_within n g e x y sound j).1) flow.of.from.0 flow.of.to.0 is.from_known (get_or r.flows k f).path flow.path.path in
    (omega (arith, flow.num, is.need), omega (arith, short, few))

-- a load is no more than all flows
pub load_all : (flows : List Flow) (e : ℕ) → load flows e ≤ sum_by (λ f. f.num) flows
load_all [] e = omega arith
load_all (f ∷ fs) e =
    let one : (if names_link e f.path then f.num else 0) ≤ f.num = elim (names_link e f.path) as (λ b. (if b then f.num else 0) ≤ f.num) [ true ↦ omega arith | false ↦ omega arith ] in
    omega (arith, sum_by-cons (λ (h : Flow). (if names_link e h.path then h.num else 0)) f fs, sum_by-cons (λ (g : Flow). g.num) f fs, one, load_all fs e)

-- the greatest load with one more routing
pub peak_more : (rs : List Routing) (r : Routing) (e : ℕ) → peak (rs ++ r ∷ []) e ≡ max (peak rs e) (load r.flows e)
peak_more [] r e = omega arith
peak_more (q ∷ rs) r e = omega (arith, peak_more rs r e)

-- each routing's load is at most the greatest
pub peak_above : (rs : List Routing) (s : ℕ) (r : Routing) (e : ℕ) → slice_get rs s ≡ Some r → load r.flows e ≤ peak rs e
peak_above [] s r e at = absurd (cc)
peak_above (q ∷ rs) zero r e at = let same : q ≡ r = cc at in omega (arith, ap (λ (x : Routing). load x.flows e) same)
peak_above (q ∷ rs) (suc s) r e at = omega (arith, peak_above rs s r e at)

pub get_cases : {X : Type 0} → (xs : List X) (y x : X) (p : ℕ) → slice_get (xs ++ y ∷ []) p ≡ Some x → (slice_get xs p ≡ Some x) ⊎ ((p ≡ length xs) × (x ≡ y))
get_cases [] y x zero h = inr (refl, cc h)
get_cases [] y x (suc p) h = absurd (cc)
get_cases (a ∷ xs) y x zero h = inl h
get_cases (a ∷ xs) y x (suc p) h = ⊎_elim (λ l. inl l) (λ r. inr (ap suc r.0, r.1)) (get_cases xs y x p h)

-- each link of a network is sound
pub network_links : (nodes : List (List ℕ)) (links : List Link) → ∥ IsNetwork nodes links ∥₁ → All (IsLink (length nodes)) links
network_links nodes links checked = ∥∥₁_elim checked (hlevel props) (λ net. net.sound)

-- one more state
pub routed_more : (p : Case) (lengths : List ℕ) (n : ℕ) (routings : List Routing) (r : Routing) (peaks loads raised : List ℕ)
    → AreRouted p lengths n routings peaks
    → IsLeastRouting (Joins (graph_in p n)) lengths p.demands r
    → sum_by (λ f. f.num) r.flows < 2 ^ 44
    → ((e : ℕ) → e < length p.links → get_or loads e 0 ≡ weight r.flows e)
    → length raised ≡ length peaks
    → ((e : ℕ) → e < length peaks → get_or raised e 0 ≡ max (get_or peaks e 0) (get_or loads e 0))
    → AreRouted p lengths (n + 1) (routings ++ r ∷ []) raised
routed_more p lengths n routings r peaks loads raised so_far least total loaded size rises = record {
  count = omega (arith, length-append routings (r ∷ []), so_far.count);
  routed = λ s x at. ⊎_elim
      (λ old. so_far.routed s x old)
      (λ last. subst (λ i. IsLeastRouting (Joins (graph_in p i)) lengths p.demands x) (sym (last.0 ∙ so_far.count)) (subst (IsLeastRouting (Joins (graph_in p n)) lengths p.demands) (sym last.1) least))
      (get_cases routings r x s at);
  size = size ∙ so_far.size;
  greatest = λ e lt. omega (arith, rises e (omega (arith, lt, so_far.size)), so_far.greatest e lt, loaded e lt, load_is_weight (graph_in p n) p.demands r.flows e (least_flows (Joins (graph_in p n)) lengths p.demands r least), peak_more routings r e);
  small = λ e. omega (arith, peak_more routings r e, so_far.small e, load_all r.flows e, total);
}
