-- a walk, node by node, and what it ends with
use Rattle.std.proofs.Common.{◌≡◌, ℕ, ◌+◌, ◌<◌, ◌≤◌, true, false, List, [], ◌∷◌, Option, None, Some, inl, inr, ⊎_elim, length, min, slice_get, take, refl, ap, subst, sym, ◌∙◌, arith, take_all}
use Rattle.net_core.proofs.Library.{All-append, All-cons, All-nil, All-tail, cases_lt, false_from_ne_true, nil_from_length, slice_get_within}
use Rattle.line_check.{specs.Terms.{IsLeastPlace, sources_of, AreTested, names_by}, specs.declared.inequality.Inequality.Inequality, specs.declared.tested_lines.Tested.Tested}
use Rattle.plan_terms.specs.Terms.{AreCounts, Case, Link, case_of}
use Rattle.tree_check.{specs.Boxes.{beyond, least_counts, lower_side, span_at, up_to, upper_side, whole_box}, specs.Proofs.{FailsAtNode, HasOpenValue, HoldsAtNode, HoldsNode, IsAcceptedProof, IsLeastValue, IsOpenAt, IsUnfounded, VerdictFollows, names_in_proof}, specs.Trees.{IsNodeOf, IsWhole, TreeBox, boxes_left, sides_of}, specs.declared.nodes.Held.Held, specs.declared.nodes.Held.TheVariants.{Settled, Open}, specs.BoxValues.HasBoxValue, specs.declared.proof.BoxCert.BoxCert, specs.declared.proof.Node.Node, specs.declared.proof.Node.TheVariants.{Split, Closed, Empty, Spent, Stuck}, specs.declared.proof.Proof.Proof, specs.declared.proof.Verdict.TheVariants.Cheapest, specs.declared.tests.Tests.Tests, specs.declared.walk.Found.Found, specs.Testing.{AreTestsOf, names_in}, specs.inner.Walking.{CannotTake, HasWalked, HaveShape, IsFoundOf, IsHeldAs, TakesBox, TakesIfAny, with_held}, proofs.LeftBoxes.{left_more, shape_set, whole_shape}, proofs.Naming.{holds_map, open_map, value_map, value_once}}

-- ---- what is left has a span for each module

abbrev HasShape : List Link → TreeBox → Type 0
HasShape links box = AreCounts links (least_counts box)

sides_shape : (links : List Link) (box : TreeBox) (node : Node) → AreCounts links (least_counts box) → HaveShape links (sides_of box node)
sides_shape links box (Split link at_module number) shape =
    let lower = shape_set links box link.0 at_module (up_to number (span_at box link.0 at_module)) shape in
    let upper = shape_set links box link.0 at_module (beyond number (span_at box link.0 at_module)) shape in
    All-cons (HasShape links) (lower_side box link.0 at_module number) (upper_side box link.0 at_module number ∷ []) lower
    (All-cons (HasShape links) (upper_side box link.0 at_module number) [] upper (All-nil (HasShape links)))
sides_shape links box (Closed cert) shape = All-nil (HasShape links)
sides_shape links box (Empty cut) shape = All-nil (HasShape links)
sides_shape links box (Spent cert) shape = All-nil (HasShape links)
sides_shape links box (Stuck cert evidence) shape = All-nil (HasShape links)

-- the first box of those that are left has a span for each module
pub first_shape : (links : List Link) (box : TreeBox) (later : List TreeBox) → HaveShape links (box ∷ later) → AreCounts links (least_counts box)
first_shape links box later shape = shape 0 box (omega arith)

taken_shape : (names : ℕ → Inequality → Type 0) (p : Case) (cost : ℕ) (node : Node) (old new : List TreeBox) (held : Held) → HaveShape p.links old → TakesBox names p cost node old new held → HaveShape p.links new
taken_shape names p cost node old new held shape takes =
    let before = subst (HaveShape p.links) takes.first shape in
    subst (HaveShape p.links) (sym takes.left)
    (All-append (HasShape p.links) (sides_of takes.box node) takes.later (sides_shape p.links takes.box node (first_shape p.links takes.box takes.later before)) (All-tail (HasShape p.links) takes.box takes.later before))

-- ---- a node more

module _ (p : Case) (proof : Proof) (tested : List Tested) (all : AreTested p (sources_of proof.cuts proof.lines) tested) where
  abbrev names : ℕ → Inequality → Type 0
  names = names_in_proof p proof

  to_tests : (i : ℕ) (line : Inequality) → names i line → names_by tested false i line
  to_tests i line = (all.names false i line).0

  from_tests : (i : ℕ) (line : Inequality) → names_by tested false i line → names i line
  from_tests i line = (all.names false i line).1

  cert_once : (box : TreeBox) (cert : BoxCert) (a b : ℕ) → HasBoxValue names p.links box cert a → HasBoxValue names p.links box cert b → a ≡ b
  cert_once box cert a b one other =
      value_once tested p.links box cert a b (value_map names (names_by tested false) to_tests p.links box cert a one) (value_map names (names_by tested false) to_tests p.links box cert b other)

  -- an open leaf has one value
  open_once : (box : TreeBox) (node : Node) (a b : ℕ) → HasOpenValue names p.links box node a → HasOpenValue names p.links box node b → a ≡ b
  open_once box (Split link at_module number) a b one other = absurd one
  open_once box (Closed cert) a b one other = absurd one
  open_once box (Empty cut) a b one other = absurd one
  open_once box (Spent cert) a b one other = cert_once box cert a b one other
  open_once box (Stuck cert evidence) a b one other = cert_once box cert a b one other

  module _ (n : ℕ) (node : Node) (box : TreeBox) (is : IsNodeOf p.links proof.tree n box node) where
    -- what is open at this place is this node, for this box
    open_here : (value : ℕ) → IsOpenAt p proof n value → HasOpenValue names p.links box node value
    open_here value o =
        let same_node : o.node ≡ node = let a = o.is_node.at in let b = is.at in cc (a, b) in
        let same_box : o.box ≡ box = let a = o.is_node.next in let b = is.next in cc (a, b) in
        subst (λ (x : Node). HasOpenValue names p.links box x value) same_node (subst (λ (b : TreeBox). HasOpenValue names p.links b o.node value) same_box o.has)

    found_more : (held : Held) (found : Found) → IsHeldAs names p.links box node held → IsFoundOf p proof n found → IsFoundOf p proof (n + 1) (with_held found held)
    found_more Settled found settled so = record {
      at_most_cost = so.at_most_cost;
      at_most_each = λ i value lt o. ⊎_elim
          (λ low. so.at_most_each i value low o)
          (λ (high : n ≤ i). let same : i ≡ n = omega arith in absurd (settled value (open_here value (subst (λ (k : ℕ). IsOpenAt p proof k value) same o))))
          (cases_lt i n);
      reached = so.reached;
      closed = λ shut i value lt o. ⊎_elim
          (λ low. so.closed shut i value low o)
          (λ (high : n ≤ i). let same : i ≡ n = omega arith in settled value (open_here value (subst (λ (k : ℕ). IsOpenAt p proof k value) same o)))
          (cases_lt i n);
      opened = so.opened;
    }
    found_more (Open v) found has so =
        let leaf : IsOpenAt p proof n v = record { box = box; node = node; is_node = is; has = has } in
        record {
          at_most_cost = omega (arith, so.at_most_cost);
          at_most_each = λ i value lt o. ⊎_elim
              (λ low. omega (arith, so.at_most_each i value low o))
              (λ (high : n ≤ i).
              let same : i ≡ n = omega arith in
              let once : v ≡ value = open_once box node v value has (open_here value (subst (λ (k : ℕ). IsOpenAt p proof k value) same o)) in
              omega (arith, once))
              (cases_lt i n);
          reached = ⊎_elim
              (λ (less : v < found.least).
              let least : v ≡ min v found.least = omega arith in
              inr (n, subst (IsOpenAt p proof n) least leaf))
              (λ (more : found.least ≤ v).
              let least : found.least ≡ min v found.least = omega arith in
              ⊎_elim
              (λ cost. inl (sym least ∙ cost))
              (λ (i, o). inr (i, subst (IsOpenAt p proof i) least o))
              so.reached)
              (cases_lt v found.least);
          closed = λ shut. absurd (cc shut);
          opened = λ _. (n, v, leaf);
        }

  held_from : (box : TreeBox) (node : Node) (held : Held) → IsHeldAs (names_by tested false) p.links box node held → IsHeldAs names p.links box node held
  held_from box node Settled is = λ value has. is value (open_map names (names_by tested false) to_tests p.links box node value has)
  held_from box node (Open value) is = open_map (names_by tested false) names from_tests p.links box node value is

  -- what a node takes by tests it takes
  pub takes_from : (cost : ℕ) (node : Node) (old new : List TreeBox) (held : Held) → TakesBox (names_by tested false) p cost node old new held → TakesBox names p cost node old new held
  takes_from cost node old new held takes = record {
    box = takes.box;
    later = takes.later;
    first = takes.first;
    left = takes.left;
    holds = holds_map (names_by tested false) names from_tests p cost takes.box node takes.holds;
    is = held_from takes.box node held takes.is;
  }

  pub cannot_from : (cost : ℕ) (node : Node) (old : List TreeBox) → CannotTake (names_by tested false) p cost node old → CannotTake names p cost node old
  cannot_from cost node old cannot box later first holds = cannot box later first (holds_map names (names_by tested false) to_tests p cost box node holds)

  pub walked_more : (n : ℕ) (node : Node) (old new : List TreeBox) (held : Held) (found : Found) → slice_get proof.tree n ≡ Some node
      → HasWalked p proof n old found → TakesBox names p proof.plan.cost node old new held → HasWalked p proof (n + 1) new (with_held found held)
  walked_more n node old new held found at walked takes =
      let next : boxes_left (whole_box p.links ∷ []) (take n proof.tree) ≡ takes.box ∷ takes.later = sym walked.left_is ∙ takes.first in
      let is : IsNodeOf p.links proof.tree n takes.box node = record { at = at; later = takes.later; next = next } in
      let here : HoldsAtNode p proof n = record { box = takes.box; node = node; is_node = is; holds = takes.holds } in
      record {
        hold = λ i lt. ⊎_elim
            (λ low. walked.hold i low)
            (λ (high : n ≤ i). let same : n ≡ i = omega arith in subst (HoldsAtNode p proof) same here)
            (cases_lt i n);
        left_is = takes.left ∙ sym (left_more (whole_box p.links ∷ []) proof.tree n node takes.box takes.later at next);
        shape = taken_shape names p proof.plan.cost node old new held walked.shape takes;
        found_is = found_more n node takes.box is held found takes.is walked.found_is;
      }

module _ (p : Case) (proof : Proof) where
  -- before the first node
  pub walked_none : (found : Found) → found.is_open ≡ false → found.least ≡ proof.plan.cost → HasWalked p proof 0 (whole_box p.links ∷ []) found
  walked_none found shut cost = record {
    hold = λ i lt. absurd (omega arith);
    left_is = refl;
    shape = All-cons (HasShape p.links) (whole_box p.links) [] (whole_shape p.links) (All-nil (HasShape p.links));
    found_is = record {
      at_most_cost = omega (arith, cost);
      at_most_each = λ i value lt o. absurd (omega arith);
      reached = inl cost;
      closed = λ _ i value lt o. omega arith;
      opened = λ is. absurd (let e : true ≡ false = sym is ∙ shut in cc e);
    };
  }

  -- ---- what a walk ends with

  -- a node that takes no box is the first one that doesn't hold
  pub stops_at : (n : ℕ) (node : Node) (old : List TreeBox) (found : Found) → n < length proof.tree → slice_get proof.tree n ≡ Some node
      → HasWalked p proof n old found → CannotTake (names_in_proof p proof) p proof.plan.cost node old → IsLeastPlace (FailsAtNode p proof) n
  stops_at n node old found lt at walked cannot = (
    (
      lt,
      λ (h : HoldsAtNode p proof n).
          let same : h.node ≡ node = let a = h.is_node.at in let b = at in cc (a, b) in
          cannot h.box h.is_node.later (walked.left_is ∙ h.is_node.next) (subst (λ (x : Node). HoldsNode (names_in_proof p proof) p proof.plan.cost h.box x) same h.holds),
    ),
    λ j low fails. fails.1 (walked.hold j low),
  )

  module _ (left : List TreeBox) (found : Found) (walked : HasWalked p proof (length proof.tree) left found) where
    -- the boxes left by all nodes
    left_by_all : left ≡ boxes_left (whole_box p.links ∷ []) proof.tree
    left_by_all = walked.left_is ∙ ap (boxes_left (whole_box p.links ∷ [])) (take_all (length proof.tree) proof.tree (omega arith))

    whole_tree : length left ≡ 0 → IsWhole p.links proof.tree
    whole_tree none = sym left_by_all ∙ nil_from_length left none

    -- no box is left
    pub not_founded : (k : ℕ) → k ≡ length proof.tree + 1 → length left ≡ 0 → (VerdictFollows p proof proof.verdict → ⊥) → IsUnfounded p proof k
    not_founded k past none unfounded = record { hold = walked.hold; whole = whole_tree none; unfounded = unfounded; past_end = past }

    pub accepted : length left ≡ 0 → VerdictFollows p proof proof.verdict → IsAcceptedProof p proof
    accepted none follows = record { hold = walked.hold; whole = whole_tree none; follows = follows }

  -- ---- verdicts

  open_within : (i value : ℕ) → IsOpenAt p proof i value → i < length proof.tree
  open_within i value o = slice_get_within proof.tree i o.node o.is_node.at

  module _ (found : Found) (so : IsFoundOf p proof (length proof.tree) found) where
    pub follows_closed : found.is_open ≡ false → VerdictFollows p proof Cheapest
    follows_closed shut i value o = so.closed shut i value (open_within i value o) o

    pub closed_by_verdict : VerdictFollows p proof Cheapest → found.is_open ≡ false
    closed_by_verdict none = false_from_ne_true found.is_open (λ is. let o = so.opened is in none o.0 o.1 o.2)

    pub least_follows : (least : ℕ) → least ≡ found.least → IsLeastValue p proof least
    least_follows least same = record {
      at_most_cost = omega (arith, same, so.at_most_cost);
      at_most_each = λ i value o. omega (arith, same, so.at_most_each i value (open_within i value o) o);
      reached = ⊎_elim
          (λ cost. inl (same ∙ cost))
          (λ (i, o). inr (i, subst (IsOpenAt p proof i) (sym same) o))
          so.reached;
    }

    pub least_is_found : (least : ℕ) → IsLeastValue p proof least → least ≡ found.least
    least_is_found least is =
        let low : least ≤ found.least = ⊎_elim
        (λ (cost : found.least ≡ proof.plan.cost). omega (arith, cost, is.at_most_cost))
        (λ (i, o). is.at_most_each i found.least o)
        so.reached in
        let high : found.least ≤ least = ⊎_elim
        (λ (cost : least ≡ proof.plan.cost). omega (arith, cost, so.at_most_cost))
        (λ (i, o). so.at_most_each i least (open_within i least o) o)
        is.reached in
        omega arith

-- ---- what was walked, by tests of a proof's own lines and cost

module _ (t : Tests) (proof : Proof) (are : AreTestsOf proof t) (cost : proof.plan.cost ≡ t.cost) where
  pub walked_by_tests : (n : ℕ) (node : Node) (old new : List TreeBox) (held : Held) (found : Found) (o : Option Held) → slice_get proof.tree n ≡ Some node
      → HasWalked (case_of t.instance.now) proof n old found → TakesIfAny t node old new o → o ≡ Some held
      → HasWalked (case_of t.instance.now) proof (n + 1) new (with_held found held)
  walked_by_tests n node old new held found o at walked takes is =
      let p = case_of t.instance.now in
      let taken = subst (TakesIfAny t node old new) is takes in
      let own = subst (λ (c : ℕ). TakesBox (names_in t) p c node old new held) (sym cost) taken in
      walked_more p proof t.tested.now are n node old new held found at walked (takes_from p proof t.tested.now are proof.plan.cost node old new held own)

  pub stops_by_tests : (n : ℕ) (node : Node) (old new : List TreeBox) (found : Found) (o : Option Held) → n < length proof.tree → slice_get proof.tree n ≡ Some node
      → HasWalked (case_of t.instance.now) proof n old found → TakesIfAny t node old new o → o ≡ None → IsLeastPlace (FailsAtNode (case_of t.instance.now) proof) n
  stops_by_tests n node old new found o lt at walked takes is =
      let p = case_of t.instance.now in
      let cannot = subst (TakesIfAny t node old new) is takes in
      let own = subst (λ (c : ℕ). CannotTake (names_in t) p c node old) (sym cost) cannot in
      stops_at p proof n node old found lt at walked (cannot_from p proof t.tested.now are proof.plan.cost node old own)
