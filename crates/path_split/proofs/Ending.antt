-- from arcs to legs, and back to arcs
use Rattle.std.{proofs.Common.{◌≡◌, ℕ, ◌<◌, ◌⊎◌, inl, inr, Bool, false, cond, eqb, eqb-true, List, [], ◌∷◌, Option, None, Some, MatchOption, length, get_or, map, sum_by, ⊎_elim, refl, sym, ap, subst, ◌∙◌, arith, All, eq-eqb, ne_eqb, IsPermutation}, proofs.lemmas.List.Sorted.{length_permutation, sum_by-IsPermutation}}
use Rattle.net_core.proofs.Library.{cases_Bool, cases_lt, false≢true, length-map, All-head, All-map, All-nil, All-tail, All-weaker, All-permutation, sum_by-cons, get_or_from_slice_get, slice_get_within, ∥∥₁_elim, props, AllByRecursion, option_map_or, sums-same}
use Rattle.plan_terms.specs.Terms.{LinkId, Link, HasEnds, IsLink, IsNetwork, IsPath, Leads}
use Rattle.path_split.{specs.declared.arc.Arc.Arc, specs.declared.arc.PathFlow.PathFlow, specs.declared.leg.Leg.Leg, specs.Balances.{IsArc, IsBalanced, IsFirstUnbalanced, entering, enters, leaving, other_end}, specs.Splits.{AreEnds, IsFlowSplit}, specs.inner.Legs.{IsEven, IsFirstUneven, arrives, far_node, is_on, leaves, leg_at, leg_of, leg_sum, no_leg, nums}, specs.inner.Remains.{HasLeg, Remains}, proofs.Picking.{due_elsewhere, picked_none, picked_whole}, proofs.Lessening.live_few}

-- whole legs that are balanced are what remains at first
pub remains_first : (legs : List Leg) (n from to need : ℕ) → from < n → to < n → All (λ g. (g.from.0 < n) × (g.to.0 < n)) legs → ((x : ℕ) → x < n → IsEven legs from to need x) → Remains legs from to (nums legs) need []
remains_first legs n from to need first last known even = record {
  long = length-map legs (λ g. g.num);
  balanced = λ x. ⊎_elim
      (λ lt. omega (arith, even x lt, picked_whole (leaves x) legs, picked_whole (arrives x) legs))
      (λ past. omega (
        arith,
        picked_none (leaves x) legs (nums legs) (λ k lt. ne_eqb (leg_at legs k).from.0 x (λ e. omega (arith, e, past, (known k no_leg lt).0))),
        picked_none (arrives x) legs (nums legs) (λ k lt. ne_eqb (leg_at legs k).to.0 x (λ e. omega (arith, e, past, (known k no_leg lt).1))),
        due_elsewhere from need x (λ e. omega (arith, e, past, first)),
        due_elsewhere to need x (λ e. omega (arith, e, past, last)),
      ))
      (cases_lt x n);
  paths = All-nil (λ f. IsPath (HasLeg legs) from to f.path);
  positive = All-nil (λ f. 0 < f.num);
  within = λ e. omega arith;
  few = omega arith;
  room = λ some. omega (arith, live_few (nums legs), length-map legs (λ g. g.num));
}

-- the ends of a link, seen from one of them
ends_of : (l : Link) (x : ℕ) → (l.a.0 ≡ x) ⊎ (l.b.0 ≡ x) → HasEnds l x (other_end l x)
ends_of l x end = ⊎_elim
    (λ t. inl (eqb-true l.a.0 x t, sym (ap (λ b. cond b l.b.0 l.a.0) t)))
    (λ f. inr (
      ⊎_elim (λ e. absurd (false≢true (sym f ∙ eq-eqb l.a.0 x e))) (λ e. e) end,
      sym (ap (λ b. cond b l.b.0 l.a.0) f),
    ))
    (cases_Bool (eqb l.a.0 x))

-- the nodes of an arc's leg are the ends of its link
leg_ends : (links : List Link) (a : Arc) → IsArc links a → AreEnds links a.link.0 a.from.0 (far_node links a)
leg_ends links a is = record {
  link = is.link;
  at = is.at;
  ends = subst (HasEnds is.link a.from.0) (sym (ap (λ o. option_map_or (λ l. other_end l a.from.0) o 0) is.at)) (ends_of is.link a.from.0 is.end);
}

-- what arcs enter is where their legs arrive
enters_same : (links : List Link) (x : ℕ) (a : Arc) → IsArc links a → cond (eqb (far_node links a) x) a.num 0 ≡ cond (enters links x a) a.num 0
enters_same links x a is =
    let far : far_node links a ≡ other_end is.link a.from.0 = ap (λ o. option_map_or (λ l. other_end l a.from.0) o 0) is.at in
    let near : enters links x a ≡ eqb (other_end is.link a.from.0) x = ap (λ o. option_map_or (λ l. eqb (other_end l a.from.0) x) o false) is.at in
    ap (λ b. cond b a.num 0) (ap (λ i. eqb i x) far ∙ sym near)

by_recursion : {X : Type 0} (P : X → Type 0) (xs : List X) → All P xs → AllByRecursion P xs
by_recursion P [] all = tt
by_recursion P (x ∷ xs) all = (All-head P x xs all, by_recursion P xs (All-tail P x xs all))

sum_map : (f : Leg → ℕ) (g : Arc → Leg) (xs : List Arc) → sum_by f (map g xs) ≡ sum_by (λ a. f (g a)) xs
sum_map f g [] = refl
sum_map f g (x ∷ xs) = omega (arith, sum_by-cons f (g x) (map g xs), sum_by-cons (λ a. f (g a)) x xs, sum_map f g xs)

-- sorted legs of arcs
module _ (links : List Link) (arcs : List Arc) (legs : List Leg) (moved : IsPermutation (map (leg_of links) arcs) legs) (are : All (IsArc links) arcs) where
  whole : (p : Leg → Bool) → leg_sum p legs ≡ sum_by (λ a. cond (p (leg_of links a)) a.num 0) arcs
  whole p =
      sum_by-IsPermutation (λ g. cond (p g) g.num 0) (map (leg_of links) arcs) legs moved
      ∙ sum_map (λ g. cond (p g) g.num 0) (leg_of links) arcs

  leaving_same : (x : ℕ) → leg_sum (leaves x) legs ≡ leaving arcs x
  leaving_same x = whole (leaves x)

  entering_same : (x : ℕ) → leg_sum (arrives x) legs ≡ entering links arcs x
  entering_same x = whole (arrives x)
      ∙ sums-same (λ a. cond (eqb (far_node links a) x) a.num 0) (λ a. cond (enters links x a) a.num 0) (IsArc links) arcs (by_recursion (IsArc links) arcs are) (λ a is. enters_same links x a is)

  pub legs_few : length legs ≡ length arcs
  legs_few = length_permutation (map (leg_of links) arcs) legs moved ∙ length-map arcs (leg_of links)

  legs_ends : All (λ g. AreEnds links g.link.0 g.from.0 g.to.0) legs
  legs_ends = All-permutation (λ g. AreEnds links g.link.0 g.from.0 g.to.0) (map (leg_of links) arcs) legs moved
      (All-map (λ g. AreEnds links g.link.0 g.from.0 g.to.0) (leg_of links) arcs (λ k d lt. leg_ends links (get_or arcs k d) (are k d lt)))

  pub even_balanced : (from to need x : ℕ) → IsEven legs from to need x → IsBalanced links arcs from to need x
  even_balanced from to need x even = omega (arith, even, leaving_same x, entering_same x)

  pub balanced_even : (from to need x : ℕ) → IsBalanced links arcs from to need x → IsEven legs from to need x
  balanced_even from to need x even = omega (arith, even, leaving_same x, entering_same x)

  pub first_unbalanced : (n from to need x : ℕ) → IsFirstUneven n legs from to need x → IsFirstUnbalanced n links arcs from to need x
  first_unbalanced n from to need x first = record {
    node = first.node;
    differs = λ even. first.differs (balanced_even from to need x even);
    before = λ y lt. even_balanced from to need y (first.before y lt);
  }

  has_ends : (e x y : ℕ) → HasLeg legs e x y → AreEnds links e x y
  has_ends e x y h =
      let g = leg_at legs h.place in
      subst (λ i. AreEnds links i x y) h.link (subst (λ i. AreEnds links g.link.0 i y) h.from (subst (λ i. AreEnds links g.link.0 g.from.0 i) h.to (legs_ends h.place no_leg h.within)))

  leads_ends : (a : ℕ) (es : List LinkId) (cs : List ℕ) → Leads (HasLeg legs) a es cs → Leads (AreEnds links) a es cs
  leads_ends a [] [] leads = tt
  leads_ends a (e ∷ es) (c ∷ cs) leads = (has_ends e.0 a c leads.0, leads_ends c es cs leads.1)
  leads_ends a [] (c ∷ cs) leads = absurd leads
  leads_ends a (e ∷ es) [] leads = absurd leads

  pub whole_split : (from to need : ℕ) (lefts : List ℕ) (flows : List PathFlow) → Remains legs from to lefts 0 flows → sum_by (λ f. f.num) flows ≡ need → IsFlowSplit links arcs from to need flows
  whole_split from to need lefts flows was met = record {
    paths = All-weaker (λ (f : PathFlow). IsPath (HasLeg legs) from to f.path) (λ (f : PathFlow). IsPath (AreEnds links) from to f.path)
        (λ f p. (p.0, leads_ends from f.path p.0 p.1, p.2, p.3)) flows was.paths;
    positive = was.positive;
    met = met;
    within = λ e. omega (arith, was.within e, picked_whole (is_on e) legs, whole (is_on e));
    few = omega (arith, was.few, legs_few);
  }

  -- both nodes of each leg are nodes of the network
  pub legs_known : (nodes : List (List ℕ)) → ∥ IsNetwork nodes links ∥₁ → All (λ g. (g.from.0 < length nodes) × (g.to.0 < length nodes)) legs
  legs_known nodes checked = λ k d lt.
      let g = get_or legs k d in
      let ends = legs_ends k d lt in
      let l = ends.link in
      ∥∥₁_elim checked (hlevel props) (λ net.
      let is : IsLink (length nodes) l = subst (IsLink (length nodes)) (get_or_from_slice_get links g.link.0 l l ends.at) (net.sound g.link.0 l (slice_get_within links g.link.0 l ends.at)) in
      ⊎_elim
      (λ p. (omega (arith, p.0, is.from), omega (arith, p.1, is.to)))
      (λ p. (omega (arith, p.0, is.to), omega (arith, p.1, is.from)))
      ends.ends)

pub match_some : {X : Type 0} (A : Type 0) (B : X → Type 0) (r : Option X) (x : X) → r ≡ Some x → MatchOption r A B → B x
match_some A B r x e m = subst (λ o. MatchOption o A B) e m

pub match_none : {X : Type 0} (A : Type 0) (B : X → Type 0) (r : Option X) → r ≡ None → MatchOption r A B → A
match_none A B r e m = subst (λ o. MatchOption o A B) e m
