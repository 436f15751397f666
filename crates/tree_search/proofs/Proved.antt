-- a tree that is grown to its end gives a proof
use Rattle.std.proofs.Common.{◌≡◌, ◌∙◌, ℕ, zero, suc, ◌+◌, ◌*◌, ◌≤◌, ◌<◌, ◌⊎◌, inl, inr, ⊎_elim, ◌↔◌, Bool, true, false, cond, if◌then◌else◌, List, [], ◌∷◌, ◌++◌, Some, All, length, map, slice_get, take, refl, ap, sym, subst, arith}
use Rattle.net_core.proofs.Library.{cases_Bool, length-map, slice_get_within, sum_by-cons}
use Rattle.plan_terms.specs.Terms.{Case, CutLine, IsCut}
use Rattle.plan_types.{specs.Terms.IsCertifiedPlan, specs.declared.plan.Plan.Plan}
use Rattle.tree_boxes.{specs.Terms.{IsCheaperPlan, BoxCert, Node, Split, Closed, Empty, Spent, Stuck, Proof, Verdict, is_split, HasPlanValue, IsSettledNode, IsTwigOf, twig_node, cuts_among, lines_among, moved_certificate, moved_line, moved_node, place_of, source_of, Entry}, proofs.Lemmas.names_are_kept, specs.declared.twigs.OpenBox.OpenBox, specs.declared.twigs.Twig.Twig}
use Rattle.tree_check.{specs.Terms.{whole_box, HasBoxValue, HasOpenValue, HoldAllNodes, HoldsNode, IsNodeOf, IsOpenAt, VerdictFollows, IsWhole, TreeBox, boxes_left, sides_of, Inequality, Line, Tested}, specs.declared.proof.Verdict.TheVariants.{Cheapest, Above}}
use Rattle.line_check.specs.Terms.{NamesLine, sources_of, AreTested, names_by}
use Rattle.tree_search.{specs.FewSplits.{IsCheapNode, split_number}, specs.Proving.{HasNodeCause, IsCertificateOfLeaves, IsProofOf}, specs.inner.Growing.IsGrowing, specs.inner.Places.{AreSettled, AreTwigsOf, twig_sides, twig_splits}, specs.inner.Showing.{all_shown, verdict_of}, specs.declared.tree.Shown.Shown, proofs.CheapSplits.cheap_of, proofs.PlanBounds.plan_value, proofs.Reordered.{holds_moved, moved_sides, moved_split, names_once, value_moved, value_same}, proofs.Rooms.splits_are_few, proofs.Shown.{HasOpenPlace, IsOpenOf, SomeOpen, at_most_each, least_falls, least_reached, open_somewhere}, proofs.TwigNodes.{twig_at, twigs_whole}}
use Rattle.tree_boxes.specs.Terms.entry
use Rattle.tree_boxes.specs.declared.twigs.Twig.TheVariants as twig

-- ---- nodes and places

abbrev once_if : Bool → ℕ
once_if b = cond b 1 0

-- what each place becomes by other indices
module _ (to : ℕ → ℕ) where
  abbrev pub told_node : Twig → Node
  told_node t = moved_node to (twig_node t)

  told_sides : (box : TreeBox) (t : Twig) → sides_of box (told_node t) ≡ twig_sides box t
  told_sides box t = moved_sides to box (twig_node t)

  -- a place of the tree, with its node and its box
  record PlaceAt (is : TreeBox → Twig → Type 0) (boxes : List TreeBox) (twigs : List Twig) (i : ℕ) : Type 0 where
    box : TreeBox
    later : List TreeBox
    of : Twig
    there : slice_get twigs i ≡ Some of
    at : slice_get (map told_node twigs) i ≡ Some (told_node of)
    next : boxes_left boxes (take i (map told_node twigs)) ≡ box ∷ later
    here : is box of

  place_at : (is : TreeBox → Twig → Type 0) (boxes : List TreeBox) (twigs : List Twig) (i : ℕ) → AreTwigsOf is boxes twigs → i < length twigs → PlaceAt is boxes twigs i
  place_at is boxes [] i are lt = absurd (omega (arith, lt))
  place_at is [] (t ∷ ts) i are lt = absurd are
  place_at is (b ∷ bs) (t ∷ ts) zero are lt = record { box = b; later = bs; of = t; there = refl; at = refl; next = refl; here = are.0 }
  place_at is (b ∷ bs) (t ∷ ts) (suc i) are lt =
      let rest = place_at is (twig_sides b t ++ bs) ts i are.1 (omega (arith, lt)) in
      let next = subst (λ (sides : List TreeBox). boxes_left (sides ++ bs) (take i (map told_node ts)) ≡ rest.box ∷ rest.later) (sym (told_sides b t)) rest.next in
      record { box = rest.box; later = rest.later; of = rest.of; there = rest.there; at = rest.at; next = next; here = rest.here }

  -- the splits of the nodes are those of the places
  splits_same : (twigs : List Twig) → split_number (map told_node twigs) ≡ twig_splits twigs
  splits_same [] = refl
  splits_same (t ∷ ts) =
      omega (
        arith,
        splits_same ts,
        sum_by-cons (λ (n : Node). cond (is_split n) 1 0) (told_node t) (map told_node ts),
        sum_by-cons (λ (x : Twig). cond (is_split (twig_node x)) 1 0) t ts,
        ap once_if (moved_split to (twig_node t)),
      )

verdict_open : (shown : Shown) → shown.unsettled ≡ true → verdict_of shown ≡ Above shown.least
verdict_open shown is = ap (λ (b : Bool). if b then Above shown.least else Cheapest) is

verdict_closed : (shown : Shown) → shown.unsettled ≡ false → verdict_of shown ≡ Cheapest
verdict_closed shown is = ap (λ (b : Bool). if b then Above shown.least else Cheapest) is

same_least : (a b : ℕ) → Above a ≡ Above b → a ≡ b
same_least a b e = cc e

no_least : (a : ℕ) → Cheapest ≡ Above a → ⊥
no_least a e = cc e

-- the proof of a plan whose nodes are those of places that name entries
abbrev pub told_proof : Plan → List Entry → List Twig → Proof
told_proof plan entries twigs = record {
  plan = plan;
  cuts = cuts_among entries;
  lines = map (moved_line (place_of entries)) (lines_among entries);
  tree = map (told_node (place_of entries)) twigs;
  verdict = verdict_of (all_shown plan.cost twigs);
}

-- a proof has as many cuts and lines as there are entries
told_length : (to : ℕ → ℕ) (es : List Entry) → length (cuts_among es) + length (map (moved_line to) (lines_among es)) ≡ length es
told_length to [] = refl
told_length to (entry.Cut c ∷ es) = let rest = told_length to es in omega (arith, rest)
told_length to (entry.Line l ∷ es) = let rest = told_length to es in omega (arith, rest)

-- the cause of a node is that of the moved one
cause_moved : (to : ℕ → ℕ) (p : Case) (plan : Plan) (handed : List CutLine) (limit : ℕ) (tree : List Node) (box : TreeBox) (node : Node)
    → HasNodeCause p plan handed limit tree box node → HasNodeCause p plan handed limit tree box (moved_node to node)
cause_moved to p plan handed limit tree box (Split link at_module number) cause = cause
cause_moved to p plan handed limit tree box (Closed cert) cause = tt
cause_moved to p plan handed limit tree box (Empty cut) cause = tt
cause_moved to p plan handed limit tree box (Spent cert) cause = cause
cause_moved to p plan handed limit tree box (Stuck cert evidence) cause = cause

module _ (p : Case) (plan : Plan) (handed : List CutLine) (entries : List Entry) (tested : List Tested) (n : ℕ) where
  holds_of : (box : TreeBox) (t : Twig) → IsTwigOf p plan handed tested n box t → HoldsNode (names_by tested false) p plan.cost box (twig_node t)
  holds_of box (twig.Settled node) is = is.0
  holds_of box (twig.Stuck v evidence) is = ((v.value, is.valued.has), is.fixed, is.form)
  holds_of box (twig.Open o) is = (o.best.value, is.valued.has)

  settled_cause : (limit : ℕ) (tree : List Node) (box : TreeBox) (node : Node) → IsSettledNode p plan handed box node → HasNodeCause p plan handed limit tree box node
  settled_cause limit tree box (Split link at_module number) is = is
  settled_cause limit tree box (Closed cert) is = tt
  settled_cause limit tree box (Empty cut) is = tt
  settled_cause limit tree box (Spent cert) is = absurd is
  settled_cause limit tree box (Stuck cert evidence) is = absurd is

  cause_of : (limit : ℕ) (tree : List Node) (box : TreeBox) (t : Twig) → (((o : OpenBox) → t ≡ twig.Open o → ⊥) ⊎ (split_number tree ≡ limit)) → IsTwigOf p plan handed tested n box t
      → HasNodeCause p plan handed limit tree box (twig_node t)
  cause_of limit tree box (twig.Settled node) ends is = settled_cause limit tree box node is.1
  cause_of limit tree box (twig.Stuck v evidence) ends is = is.wide
  cause_of limit tree box (twig.Open o) ends is = (⊎_elim (λ (none : (b : OpenBox) → twig.Open o ≡ twig.Open b → ⊥). absurd (none o refl)) (λ reached. reached) ends, is.unfixed, is.unsettled)

  -- an open place is worth less than the plan
  open_below : (box : TreeBox) (t : Twig) (value : ℕ) → IsTwigOf p plan handed tested n box t → IsOpenOf t value → value < plan.cost
  open_below box (twig.Settled node) value is opened = absurd opened
  open_below box (twig.Stuck v evidence) value is opened = let low = is.below in let same : v.value ≡ value = opened in omega (arith, low, same)
  open_below box (twig.Open o) value is opened = let low = is.below in let same : o.best.value ≡ value = opened in omega (arith, low, same)

  -- what a plan's certificate is worth for it is no more
  open_least : IsCertifiedPlan p plan → (box : TreeBox) (t : Twig) (value : ℕ) → IsTwigOf p plan handed tested n box t → IsOpenOf t value → (worth : ℕ) → HasPlanValue p.links plan.certificate box worth → worth ≤ value
  open_least certified box (twig.Settled node) value is opened worth has = absurd opened
  open_least certified box (twig.Stuck v evidence) value is opened worth has = let le = is.valued.least worth has in let same : v.value ≡ value = opened in omega (arith, le, same)
  open_least certified box (twig.Open o) value is opened worth has = let le = is.valued.least worth has in let same : o.best.value ≡ value = opened in omega (arith, le, same)

  abbrev lines_told : List Line
  lines_told = map (moved_line (place_of entries)) (lines_among entries)

  -- what indices name in the proof
  abbrev names_told : ℕ → Inequality → Type 0
  names_told = NamesLine p (sources_of (cuts_among entries) lines_told)

  abbrev pub node_told : Twig → Node
  node_told = told_node (place_of entries)

  told_once : (i : ℕ) (a b : Inequality) → names_told i a → names_told i b → a ≡ b
  told_once = names_once p (sources_of (cuts_among entries) lines_told) (length (sources_of (cuts_among entries) lines_told)) false

  settled_closed : (box : TreeBox) (node : Node) (value : ℕ) → IsSettledNode p plan handed box node
      → HasOpenValue names_told p.links box (moved_node (place_of entries) node) value → ⊥
  settled_closed box (Split link at_module number) value is has = has
  settled_closed box (Closed cert) value is has = has
  settled_closed box (Empty cut) value is has = has
  settled_closed box (Spent cert) value is has = is
  settled_closed box (Stuck cert evidence) value is has = is

  module _ (are : AreTested p (map source_of entries) tested) where
    -- what an index names by the tests, its place in the proof names
    by_order : (i : ℕ) (line : Inequality) → names_by tested false i line → names_told (place_of entries i) line
    by_order i line names = names_are_kept p entries i line ((are.names false i line).1 names)

    told_value : (box : TreeBox) (cert : BoxCert) (value : ℕ) → HasBoxValue (names_by tested false) p.links box cert value
        → HasBoxValue names_told p.links box (moved_certificate (place_of entries) cert) value
    told_value = value_moved (names_by tested false) names_told (place_of entries) by_order p.links

    -- an open leaf's place is open
    open_told : (box : TreeBox) (t : Twig) (value : ℕ) → IsTwigOf p plan handed tested n box t → IsOpenOf t value
        → HasOpenValue names_told p.links box (node_told t) value
    open_told box (twig.Settled node) value is opened = absurd opened
    open_told box (twig.Stuck v evidence) value is opened =
        subst (λ k. HasOpenValue names_told p.links box (node_told (twig.Stuck v evidence)) k) opened (told_value box v.cert v.value is.valued.has)
    open_told box (twig.Open o) value is opened =
        subst (λ k. HasOpenValue names_told p.links box (node_told (twig.Open o)) k) opened (told_value box o.best.cert o.best.value is.valued.has)

    -- a leaf that is open has the value of its place
    opened_of : (box : TreeBox) (t : Twig) (value : ℕ) → IsTwigOf p plan handed tested n box t → HasOpenValue names_told p.links box (node_told t) value → IsOpenOf t value
    opened_of box (twig.Settled node) value is has = settled_closed box node value is.1 has
    opened_of box (twig.Stuck v evidence) value is has =
        value_same names_told told_once p.links box (moved_certificate (place_of entries) v.cert) v.value value (told_value box v.cert v.value is.valued.has) has
    opened_of box (twig.Open o) value is has =
        value_same names_told told_once p.links box (moved_certificate (place_of entries) o.best.cert) o.best.value value
        (told_value box o.best.cert o.best.value is.valued.has) has

    module _ (twigs : List Twig) (growing : IsGrowing p plan handed tested n twigs) where
      abbrev shown : Shown
      shown = all_shown plan.cost twigs

      abbrev proof_of : Proof
      proof_of = told_proof plan entries twigs

      abbrev known : TreeBox → Twig → Type 0
      known = IsTwigOf p plan handed tested n

      hold_all : HoldAllNodes p proof_of
      hold_all i lt =
          let place = place_at (place_of entries) known (whole_box p.links ∷ []) twigs i growing.placed (omega (arith, lt, length-map twigs node_told)) in
          record {
            box = place.box;
            node = node_told place.of;
            is_node = record { at = place.at; later = place.later; next = place.next };
            holds = holds_moved (names_by tested false) names_told (place_of entries) by_order p plan.cost place.box (twig_node place.of)
                (holds_of place.box place.of place.here);
          }

      whole : IsWhole p.links (map node_told twigs)
      whole = twigs_whole node_told (told_sides (place_of entries)) known (whole_box p.links ∷ []) twigs growing.placed

      -- an open place is an open leaf
      record LeafAt (i value : ℕ) : Type 0 where
        leaf : IsOpenAt p proof_of i value
        of : Twig
        here : known leaf.box of
        opened : IsOpenOf of value

      leaf_at : (i value : ℕ) → HasOpenPlace twigs i value → LeafAt i value
      leaf_at i value h =
          let place = place_at (place_of entries) known (whole_box p.links ∷ []) twigs i growing.placed (slice_get_within twigs i h.of h.at) in
          let same : h.of ≡ place.of = let a = h.at in let b = place.there in cc (a, b) in
          let opened : IsOpenOf place.of value = subst (λ (t : Twig). IsOpenOf t value) same h.is in
          record {
            leaf = record {
              box = place.box;
              node = node_told place.of;
              is_node = record { at = place.at; later = place.later; next = place.next };
              has = open_told place.box place.of value place.here opened;
            };
            of = place.of;
            here = place.here;
            opened = opened;
          }

      -- an open leaf is an open place
      place_of_leaf : (i value : ℕ) → IsOpenAt p proof_of i value → HasOpenPlace twigs i value
      place_of_leaf i value leaf =
          let there = twig_at node_told (told_sides (place_of entries)) known (whole_box p.links ∷ []) twigs i leaf.box leaf.is_node.later leaf.node growing.placed leaf.is_node.at leaf.is_node.next in
          record {
            of = there.twig;
            at = there.at;
            is = opened_of leaf.box there.twig value there.here
                (subst (λ (node : Node). HasOpenValue names_told p.links leaf.box node value) (sym there.same) leaf.has);
          }

      -- something is open where the verdict says so
      open_is : (least : ℕ) → verdict_of shown ≡ Above least → (shown.unsettled ≡ true) × (shown.least ≡ least)
      open_is least is = ⊎_elim
          (λ (opened : shown.unsettled ≡ true). (opened, same_least shown.least least (sym (verdict_open shown opened) ∙ is)))
          (λ (closed : shown.unsettled ≡ false). absurd (no_least least (sym (verdict_closed shown closed) ∙ is)))
          (cases_Bool shown.unsettled)

      some_open : shown.unsettled ≡ true → SomeOpen twigs
      some_open is = ⊎_elim (λ (e : false ≡ true). absurd (cc e)) (λ s. s) (open_somewhere (record { unsettled = false; least = plan.cost }) twigs is)

      follows_open : shown.unsettled ≡ true → VerdictFollows p proof_of (Above shown.least)
      follows_open is = record {
        at_most_cost = least_falls (record { unsettled = false; least = plan.cost }) twigs;
        at_most_each = λ i value leaf. (at_most_each (record { unsettled = false; least = plan.cost }) twigs i value (place_of_leaf i value leaf)).0;
        reached = ⊎_elim (λ same. inl same) (λ h. inr (h.0, (leaf_at h.0 shown.least h.1).leaf)) (least_reached (record { unsettled = false; least = plan.cost }) twigs);
      }

      follows_closed : shown.unsettled ≡ false → VerdictFollows p proof_of Cheapest
      follows_closed is i value leaf =
          let opened = (at_most_each (record { unsettled = false; least = plan.cost }) twigs i value (place_of_leaf i value leaf)).1 in
          let e : false ≡ true = sym is ∙ opened in
          cc e

      follows : VerdictFollows p proof_of (verdict_of shown)
      follows = ⊎_elim
          (λ (opened : shown.unsettled ≡ true). subst (λ (v : Verdict). VerdictFollows p proof_of v) (sym (verdict_open shown opened)) (follows_open opened))
          (λ (closed : shown.unsettled ≡ false). subst (λ (v : Verdict). VerdictFollows p proof_of v) (sym (verdict_closed shown closed)) (follows_closed closed))
          (cases_Bool shown.unsettled)

      told : ((least : ℕ) × (verdict_of shown ≡ Above least)) ↔ ((i : ℕ) × (value : ℕ) × IsOpenAt p proof_of i value)
      told = (
        λ h. let s = some_open (open_is h.0 h.1).0 in (s.i, s.value, (leaf_at s.i s.value s.place).leaf),
        λ h. let opened = (at_most_each (record { unsettled = false; least = plan.cost }) twigs h.0 h.1 (place_of_leaf h.0 h.1 h.2)).1 in (shown.least, verdict_open shown opened),
      )

      -- the least is the value of an open leaf, since each of them is worth less than the plan
      least_open : (least : ℕ) → verdict_of shown ≡ Above least → (i : ℕ) × HasOpenPlace twigs i least
      least_open least is =
          let opened = open_is least is in
          subst (λ k. (i : ℕ) × HasOpenPlace twigs i k) opened.1
          (⊎_elim
          (λ (same : shown.least ≡ plan.cost).
          let s = some_open opened.0 in
          let l = leaf_at s.i s.value s.place in
          let low = open_below l.leaf.box l.of s.value l.here l.opened in
          let le = (at_most_each (record { unsettled = false; least = plan.cost }) twigs s.i s.value s.place).0 in
          absurd (omega (arith, same, low, le)))
          (λ h. h)
          (least_reached (record { unsettled = false; least = plan.cost }) twigs))

      bounded : IsCertifiedPlan p plan → (least : ℕ) → verdict_of shown ≡ Above least → IsCertificateOfLeaves p proof_of → plan.bound ≤ least
      bounded certified least is of_leaves =
          let place = least_open least is in
          let l = leaf_at place.0 least place.1 in
          let worth = plan_value p plan certified l.leaf.box (of_leaves place.0 least l.leaf) in
          let le = open_least certified l.leaf.box l.of least l.here l.opened worth.0 worth.1 in
          omega (arith, worth.2, le)

      causes : (limit : ℕ) → AreSettled twigs ⊎ (n ≡ limit) → (i : ℕ) (box : TreeBox) (node : Node)
          → IsNodeOf p.links proof_of.tree i box node → HasNodeCause p proof_of.plan handed limit proof_of.tree box node
      causes limit ends i box node is_node =
          let there = twig_at node_told (told_sides (place_of entries)) known (whole_box p.links ∷ []) twigs i box is_node.later node growing.placed is_node.at is_node.next in
          let splits = growing.splits in
          subst (λ (x : Node). HasNodeCause p plan handed limit (map node_told twigs) box x) there.same
          (cause_moved (place_of entries) p plan handed limit (map node_told twigs) box (twig_node there.twig)
          (cause_of limit (map node_told twigs) box there.twig
          (⊎_elim
          (λ (settled : AreSettled twigs). inl (λ o same. settled i (record { opened = o; at = there.at ∙ ap (λ (t : Twig). Some t) same })))
          (λ (same : n ≡ limit). inr (omega (arith, splits_same (place_of entries) twigs, splits, same)))
          ends)
          there.here))

      -- a tree that needn't grow is a proof
      below : (i value : ℕ) → IsOpenAt p proof_of i value → value < plan.cost
      below i value leaf =
          let l = leaf_at i value (place_of_leaf i value leaf) in
          open_below l.leaf.box l.of value l.here l.opened

      -- each split is a cheap one
      cheap_node : (limit : ℕ) → AreSettled twigs ⊎ (n ≡ limit) → (i : ℕ) → i < length (map node_told twigs) → IsCheapNode p.links plan.cost (map node_told twigs) i
      cheap_node limit ends i lt =
          let known = hold_all i lt in
          record {
            box = known.box;
            node = known.node;
            stands = known.is_node;
            cheap = cheap_of p proof_of handed limit known.box known.node known.holds (causes limit ends i known.box known.node known.is_node);
          }

      pub is_proof : (given : Plan) (limit : ℕ) → All (IsCut p) (cuts_among entries) → IsCheaperPlan p given plan → take (length handed) (cuts_among entries) ≡ handed → IsCertifiedPlan p plan → n ≤ limit → limit ≤ 9999 → AreSettled twigs ⊎ (n ≡ limit)
          → length entries ≤ 3 * length handed + 2 * limit + 6145 → IsProofOf p given handed limit proof_of
      is_proof given limit sound cheaper first certified within few ends room =
          let long = growing.few in
          let splits = growing.splits in
          record {
            plan = cheaper;
            cuts = first;
            sound = sound;
            few = omega (arith, length-map twigs node_told, long, within, few);
            short = omega (arith, told_length (place_of entries) entries, room);
            accepted = record { hold = hold_all; whole = whole; follows = follows };
            within = omega (arith, splits_same (place_of entries) twigs, splits, within);
            fewer = λ charged. splits_are_few p.links plan.cost (map node_told twigs) charged (cheap_node limit ends);
            causes = causes limit ends;
            below = below;
            told = told;
            bounded = bounded certified;
          }
