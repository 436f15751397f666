-- the boxes that are left, node by node
use Rattle.std.proofs.Common.{◌≡◌, ℕ, zero, suc, ◌+◌, List, [], ◌∷◌, ◌++◌, Some, length, replicate, take, slice_get, add-one, arith, set, length-set}
use Rattle.net_core.proofs.Library.{length-map, length-replicate}
use Rattle.plan_terms.specs.Terms.{AreCounts, Link}
use Rattle.tree_check.{specs.Boxes.{any_count, least_counts, spans_of, whole_box}, specs.Trees.{TreeBox, boxes_left, sides_of}, specs.declared.boxes.Span.Span, specs.declared.proof.Node.Node}

left_suc : (boxes : List TreeBox) (tree : List Node) (i : ℕ) (node : Node) (box : TreeBox) (later : List TreeBox) → slice_get tree i ≡ Some node
    → boxes_left boxes (take i tree) ≡ box ∷ later → boxes_left boxes (take (suc i) tree) ≡ sides_of box node ++ later
left_suc boxes [] i node box later at next = absurd (cc at)
left_suc [] (n ∷ ns) zero node box later at next = absurd (cc next)
left_suc (b ∷ bs) (n ∷ ns) zero node box later at next =
    let same_node : n ≡ node = cc at in
    let same_box : b ≡ box = cc next in
    let same_later : bs ≡ later = cc next in
    cc (same_node, same_box, same_later)
left_suc [] (n ∷ ns) (suc i) node box later at next = absurd (cc next)
left_suc (b ∷ bs) (n ∷ ns) (suc i) node box later at next = left_suc (sides_of b n ++ bs) ns i node box later at next

-- what is left after a node: its sides in its box's place
pub left_more : (boxes : List TreeBox) (tree : List Node) (i : ℕ) (node : Node) (box : TreeBox) (later : List TreeBox) → slice_get tree i ≡ Some node
    → boxes_left boxes (take i tree) ≡ box ∷ later → boxes_left boxes (take (i + 1) tree) ≡ sides_of box node ++ later
left_more boxes tree i node box later at next = rw add-one (left_suc boxes tree i node box later at next)

-- a box keeps its shape where a span is changed
pub shape_set : (links : List Link) (box : TreeBox) (e m : ℕ) (s : Span) → AreCounts links (least_counts box) → AreCounts links (least_counts (set box e (set (spans_of box e) m s)))
shape_set links [] e m s shape = shape
shape_set [] (ss ∷ box) e m s shape = absurd shape
shape_set (l ∷ ls) (ss ∷ box) zero m s shape =
    (omega (arith, shape.0, length-map ss (λ (x : Span). x.least), length-map (set ss m s) (λ (x : Span). x.least), length-set ss m s), shape.1)
shape_set (l ∷ ls) (ss ∷ box) (suc e) m s shape = (shape.0, shape_set ls box e m s shape.1)

-- the whole box has a span for each module
pub whole_shape : (links : List Link) → AreCounts links (least_counts (whole_box links))
whole_shape [] = tt
whole_shape (l ∷ ls) =
    (omega (arith, length-map (replicate (length l.modules) any_count) (λ (x : Span). x.least), length-replicate (length l.modules) any_count), whole_shape ls)
