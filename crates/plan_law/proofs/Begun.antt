-- what a planning begins with, state by state
use Rattle.std.proofs.Common.{◌≡◌, ◌==◌, ℕ, ◌+◌, ◌<◌, ◌≤◌, ◌⊎◌, List, [], ◌∷◌, ◌++◌, Bool, true, false, true≢false, ◌&&◌, cond, Option, None, Some, All, AllPairs, Contains, length, get_or, slice_index_or, inl, inr, refl, sym, ap, ◌∙◌, arith, subst, ⊎_elim, eq-eqb, append_assoc, append-nil, length-append}
use Rattle.net_core.proofs.Library.{pointwise, cases_eq, All-append, All-nil, All-push, All-weaker, Contains-append_left, Contains-get_or, Contains-push, Any-push, all_pairs_push}
use Rattle.plan_terms.specs.Terms.{StateId, CutLine, Case, graph_in, Graph, IsCut, AreOpening, each_once}
use Rattle.master_law.specs.Terms.{IsSameCut}
use Rattle.plan_law.{specs.WorkedLists.{AreDifferentCuts, HasCut, HasOpeningOf, IsBeginning, IsOpeningCut, Lacks, OpensBefore}, specs.inner.Openings.IsOpenedTo, proofs.Pairs.{any_more, pairs_append}}

-- ---- the opening cuts of a state are at most two, which differ

same_pointwise : (xs : List ℕ) → pointwise ◌==◌ xs xs ≡ true
same_pointwise [] = refl
same_pointwise (x ∷ xs) = ap (λ b. b && pointwise ◌==◌ xs xs) (eq-eqb x x refl) ∙ same_pointwise xs

-- two that are equal are taken once
pairwise : (equal : Bool) (unit price x y : List ℕ) → equal ≡ pointwise ◌==◌ unit price → x ∷ y ∷ [] ≡ cond equal (unit ∷ []) (unit ∷ price ∷ []) → x ≡ y → ⊥
pairwise true unit price x y is e same = absurd (let n : 2 ≡ 1 = ap length e in omega (arith, n))
pairwise false unit price x y is e same =
    let one : x ≡ unit = ap (λ ls. get_or ls 0 []) e in
    let two : y ≡ price = ap (λ ls. get_or ls 1 []) e in
    let equal : unit ≡ price = sym one ∙ (same ∙ two) in
    let yes : pointwise ◌==◌ unit price ≡ true = subst (λ ls. pointwise ◌==◌ unit ls ≡ true) equal (same_pointwise unit) in
    true≢false (sym yes ∙ sym is)

once_differ : (unit price : Option (List ℕ)) (x y : List ℕ) → x ∷ y ∷ [] ≡ each_once unit price → x ≡ y → ⊥
once_differ None None x y e same = absurd (let n : 2 ≡ 0 = ap length e in omega (arith, n))
once_differ None (Some price) x y e same = absurd (let n : 2 ≡ 1 = ap length e in omega (arith, n))
once_differ (Some unit) None x y e same = absurd (let n : 2 ≡ 1 = ap length e in omega (arith, n))
once_differ (Some unit) (Some price) x y e same = pairwise (pointwise ◌==◌ unit price) unit price x y refl e same

pub once_few : (unit price : Option (List ℕ)) → length (each_once unit price) ≤ 2
once_few None None = omega arith
once_few None (Some price) = omega arith
once_few (Some unit) None = omega arith
once_few (Some unit) (Some price) = either (pointwise ◌==◌ unit price)
  where
    either : (equal : Bool) → length (cond equal (unit ∷ []) (unit ∷ price ∷ [])) ≤ 2
    either true = omega arith
    either false = omega arith

opening_few : (g : Graph) (lengths : List (List ℕ)) → AreOpening g lengths → length lengths ≤ 2
opening_few g lengths o = subst (λ ls. length ls ≤ 2) (sym o.are) (once_few o.unit o.price)

-- ---- a beginning

opens_differ : (p : Case) (a b : CutLine) → OpensBefore p a b → IsSameCut a b → ⊥
opens_differ p a b before same = ⊎_elim
    (λ l. let s : a.state.0 ≡ b.state.0 = ap (λ t. t.0) same.0 in omega (arith, l, s))
    (λ r. once_differ r.1.unit r.1.price a.lengths b.lengths r.1.are same.1)
    before

pub opened_differ : (p : Case) (opened : List CutLine) → AllPairs (OpensBefore p) opened → AreDifferentCuts opened
opened_differ p opened ordered i j d ij lj same = opens_differ p (get_or opened i d) (get_or opened j d) (ordered i j d ij lj) same

-- its cuts are cuts of the case
pub beginning_cuts : (p : Case) (snapshot start : List CutLine) → All (IsCut p) snapshot → IsBeginning p snapshot start → All (IsCut p) start
beginning_cuts p snapshot start known b = subst (λ cs. All (IsCut p) cs) (sym b.whole) (All-append (IsCut p) snapshot b.opened known (All-weaker (IsOpeningCut p) (IsCut p) (λ c opening. opening.is_cut) b.opened b.opening))

-- and all different, where those of the snapshot are
pub beginning_differ : (p : Case) (snapshot start : List CutLine) → AreDifferentCuts snapshot → IsBeginning p snapshot start → AreDifferentCuts start
beginning_differ p snapshot start different b = subst AreDifferentCuts (sym b.whole)
    (pairs_append (λ x y. IsSameCut x y → ⊥) snapshot b.opened different (opened_differ p b.opened b.ordered)
    (λ i j d li lj same. b.lacking j d lj i d li (sym same.0, sym same.1)))

-- ---- cut by cut

-- the cut is of a state before s, or of state s with lengths that are taken
abbrev IsReached : ℕ → List (List ℕ) → CutLine → Type 0
IsReached s taken c = (c.state.0 < s) ⊎ ((c.state.0 ≡ s) × Contains taken c.lengths)

reached_on : (s : ℕ) (taken : List (List ℕ)) (lengths : List ℕ) (c : CutLine) → IsReached s taken c → IsReached s (taken ++ lengths ∷ []) c
reached_on s taken lengths c (inl l) = inl l
reached_on s taken lengths c (inr r) = inr (r.0, Contains-append_left taken (lengths ∷ []) c.lengths r.1)

reached_state : (s : ℕ) (taken : List (List ℕ)) (c : CutLine) → IsReached s taken c → IsReached (s + 1) [] c
reached_state s taken c (inl l) = inl (omega (arith, l))
reached_state s taken c (inr r) = inl (omega (arith, r.0))

module _ (p : Case) (snapshot : List CutLine) where
  pub opened_none : IsOpenedTo p snapshot 0 [] snapshot
  opened_none = record {
    opened = [];
    whole = sym (append-nil snapshot);
    opening = All-nil (IsOpeningCut p);
    lacking = All-nil (Lacks snapshot);
    ordered = λ i j d ij lj. absurd (omega (arith, lj));
    before = λ t lt. absurd (omega (arith, lt));
    here = All-nil (λ ls. HasCut snapshot 0 ls);
    reach = All-nil (IsReached 0 []);
  }

  module _ (s : ℕ) (taken : List (List ℕ)) (cuts : List CutLine) (o : IsOpenedTo p snapshot s taken cuts) where
    -- a cut that the list has isn't taken again
    pub opened_known : (lengths : List ℕ) → HasCut cuts s lengths → IsOpenedTo p snapshot s (taken ++ lengths ∷ []) cuts
    opened_known lengths has = record {
      opened = o.opened;
      whole = o.whole;
      opening = o.opening;
      lacking = o.lacking;
      ordered = o.ordered;
      before = o.before;
      here = All-push (λ ls. HasCut cuts s ls) taken lengths o.here has;
      reach = All-weaker (IsReached s taken) (IsReached s (taken ++ lengths ∷ [])) (reached_on s taken lengths) o.opened o.reach;
    }

    -- the first of a state's opening cuts comes before the second
    first_of_two : (done : List (List ℕ)) (lengths first : List ℕ) (rest : List (List ℕ)) → AreOpening (graph_in p s) (done ++ lengths ∷ rest) → Contains done first → AreOpening (graph_in p s) (first ∷ lengths ∷ [])
    first_of_two [] lengths first rest opening inside = absurd (omega (arith, inside.1))
    first_of_two (x ∷ []) lengths first [] opening inside = subst (λ ls. AreOpening (graph_in p s) (ls ∷ lengths ∷ [])) (only x first inside) opening
      where
        only : (x first : List ℕ) → Contains (x ∷ []) first → x ≡ first
        only x first (k, lt, at) = subst (λ i. slice_index_or (x ∷ []) i first ≡ first) (let z : k ≡ 0 = omega (arith, lt) in z) at
    first_of_two (x ∷ []) lengths first (r ∷ rs) opening inside = absurd (omega (arith, opening_few (graph_in p s) (x ∷ lengths ∷ r ∷ rs) opening))
    first_of_two (x ∷ y ∷ ys) lengths first rest opening inside =
        absurd (omega (arith, opening_few (graph_in p s) (x ∷ y ∷ (ys ++ lengths ∷ rest)) opening, length-append ys (lengths ∷ rest)))

    -- one that it lacks goes after
    pub opened_new : (cut : CutLine) (rest : List (List ℕ)) → cut.state.0 ≡ s → IsCut p cut → AreOpening (graph_in p s) (taken ++ cut.lengths ∷ rest) → Lacks cuts cut
        → IsOpenedTo p snapshot s (taken ++ cut.lengths ∷ []) (cuts ++ cut ∷ [])
    opened_new cut rest of_state is opening lacks = record {
      opened = o.opened ++ cut ∷ [];
      whole = ap (λ cs. cs ++ cut ∷ []) o.whole ∙ append_assoc snapshot o.opened (cut ∷ []);
      opening = All-push (IsOpeningCut p) o.opened cut o.opening (record {
        is_cut = is;
        lengths = taken ++ cut.lengths ∷ rest;
        opening = subst (λ t. AreOpening (graph_in p t) (taken ++ cut.lengths ∷ rest)) (sym of_state) opening;
        among = among;
      });
      lacking = All-push (Lacks snapshot) o.opened cut o.lacking snapshot_lacks;
      ordered = all_pairs_push (OpensBefore p) o.opened cut o.ordered (λ k d lt. following (get_or o.opened k d) (o.reach k d lt));
      before = λ t lt. more t (o.before t lt);
      here = All-push (λ ls. HasCut (cuts ++ cut ∷ []) s ls) taken cut.lengths
          (All-weaker (λ ls. HasCut cuts s ls) (λ ls. HasCut (cuts ++ cut ∷ []) s ls) (λ ls has. any_more (λ c. (c.state.0 ≡ s) × (c.lengths ≡ ls)) cuts (cut ∷ []) has) taken o.here)
          (Any-push (λ c. (c.state.0 ≡ s) × (c.lengths ≡ cut.lengths)) cuts cut (of_state, refl));
      reach = All-push (IsReached s (taken ++ cut.lengths ∷ [])) o.opened cut
          (All-weaker (IsReached s taken) (IsReached s (taken ++ cut.lengths ∷ [])) (reached_on s taken cut.lengths) o.opened o.reach)
          (inr (of_state, Contains-push taken cut.lengths));
    }
      where
        among : Contains (taken ++ cut.lengths ∷ rest) cut.lengths
        among = subst (λ ls. Contains ls cut.lengths) (append_assoc taken (cut.lengths ∷ []) rest) (Contains-append_left (taken ++ cut.lengths ∷ []) rest cut.lengths (Contains-push taken cut.lengths))

        snapshot_lacks : Lacks snapshot cut
        snapshot_lacks k d lt same =
            let held = Contains-append_left snapshot o.opened (get_or snapshot k d) (Contains-get_or snapshot k d lt) in
            let here : Contains cuts (get_or snapshot k d) = subst (λ cs. Contains cs (get_or snapshot k d)) (sym o.whole) held in
            lacks here.0 (get_or snapshot k d) here.1 (subst (λ c. IsSameCut cut c) (sym here.2) same)

        same_state : (s t : StateId) → s.0 ≡ t.0 → s ≡ t
        same_state s t e = ap (λ n. record { 0 = n }) e

        following : (a : CutLine) → IsReached s taken a → OpensBefore p a cut
        following a (inl l) = inl (subst (λ t. a.state.0 < t) (sym of_state) l)
        following a (inr r) = inr (same_state a.state cut.state (r.0 ∙ sym of_state), subst (λ t. AreOpening (graph_in p t) (a.lengths ∷ cut.lengths ∷ [])) (sym r.0) (first_of_two taken cut.lengths a.lengths rest opening r.1))

        more : (t : ℕ) → HasOpeningOf p cuts t → HasOpeningOf p (cuts ++ cut ∷ []) t
        more t h = record {
          lengths = h.lengths;
          opening = h.opening;
          each = All-weaker (λ ls. HasCut cuts t ls) (λ ls. HasCut (cuts ++ cut ∷ []) t ls) (λ ls has. any_more (λ c. (c.state.0 ≡ t) × (c.lengths ≡ ls)) cuts (cut ∷ []) has) h.lengths h.each;
        }

    -- where all opening cuts of a state are taken, the next state follows
    pub opened_state : AreOpening (graph_in p s) taken → IsOpenedTo p snapshot (s + 1) [] cuts
    opened_state opening = record {
      opened = o.opened;
      whole = o.whole;
      opening = o.opening;
      lacking = o.lacking;
      ordered = o.ordered;
      before = λ t lt. ⊎_elim
          (λ (e : t ≡ s). subst (λ i. HasOpeningOf p cuts i) (sym e) (record { lengths = taken; opening = opening; each = o.here }))
          (λ ne. o.before t (omega (arith, lt, ne)))
          (cases_eq t s);
      here = All-nil (λ ls. HasCut cuts (s + 1) ls);
      reach = All-weaker (IsReached s taken) (IsReached (s + 1) []) (reached_state s taken) o.opened o.reach;
    }
