-- how much room a box leaves for splits
use Rattle.std.{proofs.Common.{◌≡◌, ◌∙◌, ℕ, zero, suc, ◌+◌, ◌-◌, ◌*◌, ◌≤◌, ◌<◌, min, List, [], ◌∷◌, ◌++◌, Option, None, Some, IfSome, All, cond, get_or, length, map, replicate, slice_get, take, refl, ap, sym, subst, arith, set, length-set, add-mul, mul-add}, specs.List.{AllByRecursion, AllZip}}
use Rattle.net_core.proofs.Library.{recursion_from_All, length-replicate, sum_by-cons, le-div}
use Rattle.plan_terms.specs.Terms.{Link, Module}
use Rattle.tree_check.specs.Terms.{IsSplitOf, any_count, beyond, lower_side, span_at, spans_of, up_to, upper_side, whole_box, module_costs, TreeBox, boxes_left, sides_of}
use Rattle.line_check.specs.Terms.{entry, divided_up}
use Rattle.tree_boxes.specs.Terms.{Span, Node, Split, Closed, Empty, Spent, Stuck, is_split}
use Rattle.tree_search.specs.FewSplits.{IsCheapSplit, SplitsAreFew, modules_room, split_number, split_room}

-- numbers below the least of a greatest count, if there is one, and a number
abbrev numbers_up_to : Option ℕ → ℕ → ℕ
numbers_up_to None all = all
numbers_up_to (Some most) all = min most all

-- one more than how many numbers of a span cost less than the plan
abbrev span_room : ℕ → ℕ → Span → ℕ
span_room cost each s = (numbers_up_to s.most (divided_up cost each) - s.least) + 1

abbrev spans_room : ℕ → List Module → List Span → ℕ
spans_room cost [] ss = 1
spans_room cost (m ∷ ms) [] = 1
spans_room cost (m ∷ ms) (s ∷ ss) = span_room cost m.cost s * spans_room cost ms ss

abbrev box_room : ℕ → List Link → TreeBox → ℕ
box_room cost [] box = 1
box_room cost (l ∷ ls) [] = 1
box_room cost (l ∷ ls) (ss ∷ box) = spans_room cost l.modules ss * box_room cost ls box

-- a span for each module
abbrev HasShape : List Link → TreeBox → Type 0
HasShape links box = AllZip (λ l ss. length ss ≡ length l.modules) links box

-- what costs less than the plan is below the number
below : (cost each a : ℕ) → 0 < each → each * a < cost → a < divided_up cost each
below cost each a some cheap = le-div (suc a) (cost + each - 1) each some (omega (arith, some, cheap))

-- a number that is split at parts a span's numbers
numbers_part : (all a least : ℕ) (most : Option ℕ) → least ≤ a → a < all → IfSome most (λ n. a < n)
    → (min a all - least + 1) + (numbers_up_to most all - (a + 1) + 1) ≡ numbers_up_to most all - least + 1
numbers_part all a least None from lt under = omega (arith, from, lt)
numbers_part all a least (Some most) from lt under = omega (arith, from, lt, under)

span_part : (cost each a : ℕ) (s : Span) → 0 < each → each * a < cost → s.least ≤ a → IfSome s.most (λ n. a < n)
    → span_room cost each (up_to a s) + span_room cost each (beyond a s) ≡ span_room cost each s
span_part cost each a s some cheap from under = numbers_part (divided_up cost each) a s.least s.most from (below cost each a some cheap) under

product_part : (r x y z : ℕ) → x + y ≡ z → r * x + r * y ≡ r * z
product_part r x y z e = sym (mul-add r x y) ∙ ap (λ w. r * w) e

part_product : (r x y z : ℕ) → x + y ≡ z → x * r + y * r ≡ z * r
part_product r x y z e = sym (add-mul x y r) ∙ ap (λ w. w * r) e

spans_part : (cost : ℕ) (ms : List Module) (ss : List Span) (m a : ℕ) → AllByRecursion (λ x. 0 < x.cost) ms → length ss ≡ length ms → m < length ss
    → get_or (map (λ x. x.cost) ms) m 0 * a < cost → (get_or ss m any_count).least ≤ a → IfSome (get_or ss m any_count).most (λ n. a < n)
    → spans_room cost ms (set ss m (up_to a (get_or ss m any_count))) + spans_room cost ms (set ss m (beyond a (get_or ss m any_count))) ≡ spans_room cost ms ss
spans_part cost ms [] m a some same lt cheap from under = absurd (omega arith)
spans_part cost [] (s ∷ ss) m a some same lt cheap from under = absurd (omega arith)
spans_part cost (x ∷ ms) (s ∷ ss) zero a some same lt cheap from under =
    part_product (spans_room cost ms ss) (span_room cost x.cost (up_to a s)) (span_room cost x.cost (beyond a s)) (span_room cost x.cost s) (span_part cost x.cost a s some.0 cheap from under)
spans_part cost (x ∷ ms) (s ∷ ss) (suc m) a some same lt cheap from under =
    product_part (span_room cost x.cost s) (spans_room cost ms (set ss m (up_to a (get_or ss m any_count)))) (spans_room cost ms (set ss m (beyond a (get_or ss m any_count)))) (spans_room cost ms ss)
    (spans_part cost ms ss m a some.1 (omega arith) (omega arith) cheap from under)

box_part : (cost : ℕ) (links : List Link) (box : TreeBox) (e m a : ℕ) → AllByRecursion (λ l. All (λ x. 0 < x.cost) l.modules) links → HasShape links box → IsSplitOf box e m a
    → entry (module_costs links) e m * a < cost → box_room cost links (lower_side box e m a) + box_room cost links (upper_side box e m a) ≡ box_room cost links box
box_part cost links [] e m a some shape split cheap = absurd (let lt = split.link in omega arith)
box_part cost [] (ss ∷ box) e m a some shape split cheap = absurd shape
box_part cost (l ∷ ls) (ss ∷ box) zero m a some shape split cheap =
    part_product (box_room cost ls box) (spans_room cost l.modules (set ss m (up_to a (get_or ss m any_count)))) (spans_room cost l.modules (set ss m (beyond a (get_or ss m any_count)))) (spans_room cost l.modules ss)
    (spans_part cost l.modules ss m a (recursion_from_All (λ x. 0 < x.cost) l.modules some.0) shape.0 split.inside cheap split.from_least split.below_most)
box_part cost (l ∷ ls) (ss ∷ box) (suc e) m a some shape split cheap =
    product_part (spans_room cost l.modules ss) (box_room cost ls (lower_side box e m a)) (box_room cost ls (upper_side box e m a)) (box_room cost ls box)
    (box_part cost ls box e m a some.1 shape.1 (record { link = let lt = split.link in omega arith; inside = split.inside; from_least = split.from_least; below_most = split.below_most }) cheap)

times_some : (x y : ℕ) → 1 ≤ x → 1 ≤ y → 1 ≤ x * y
times_some (suc x) (suc y) a b = omega arith
times_some zero y a b = absurd (omega arith)
times_some x zero a b = absurd (omega arith)

spans_room_some : (cost : ℕ) (ms : List Module) (ss : List Span) → 1 ≤ spans_room cost ms ss
spans_room_some cost [] ss = omega arith
spans_room_some cost (m ∷ ms) [] = omega arith
spans_room_some cost (m ∷ ms) (s ∷ ss) = times_some (span_room cost m.cost s) (spans_room cost ms ss) (omega arith) (spans_room_some cost ms ss)

box_room_some : (cost : ℕ) (links : List Link) (box : TreeBox) → 1 ≤ box_room cost links box
box_room_some cost [] box = omega arith
box_room_some cost (l ∷ ls) [] = omega arith
box_room_some cost (l ∷ ls) (ss ∷ box) = times_some (spans_room cost l.modules ss) (box_room cost ls box) (spans_room_some cost l.modules ss) (box_room_some cost ls box)

any_room : (cost each : ℕ) → span_room cost each any_count ≡ divided_up cost each + 1
any_room cost each = omega arith

spans_whole : (cost : ℕ) (ms : List Module) → spans_room cost ms (replicate (length ms) any_count) ≡ modules_room cost ms
spans_whole cost [] = refl
spans_whole cost (m ∷ ms) =
    ap (λ w. w * spans_room cost ms (replicate (length ms) any_count)) (any_room cost m.cost)
    ∙ ap (λ w. (divided_up cost m.cost + 1) * w) (spans_whole cost ms)

box_whole : (cost : ℕ) (links : List Link) → box_room cost links (whole_box links) ≡ split_room cost links
box_whole cost [] = refl
box_whole cost (l ∷ ls) = ap (λ w. w * box_room cost ls (whole_box ls)) (spans_whole cost l.modules) ∙ ap (λ w. modules_room cost l.modules * w) (box_whole cost ls)

whole_has_shape : (links : List Link) → HasShape links (whole_box links)
whole_has_shape [] = tt
whole_has_shape (l ∷ ls) = (length-replicate (length l.modules) any_count, whole_has_shape ls)

set_has_shape : (links : List Link) (box : TreeBox) (e m : ℕ) (s : Span) → HasShape links box → HasShape links (set box e (set (spans_of box e) m s))
set_has_shape links [] e m s shape = shape
set_has_shape [] (ss ∷ box) e m s shape = absurd shape
set_has_shape (l ∷ ls) (ss ∷ box) zero m s shape = (length-set ss m s ∙ shape.0, shape.1)
set_has_shape (l ∷ ls) (ss ∷ box) (suc e) m s shape = (shape.0, set_has_shape ls box e m s shape.1)

-- ---- trees

pub splits_more : (node : Node) (nodes : List Node) → split_number (node ∷ nodes) ≡ cond (is_split node) 1 0 + split_number nodes
splits_more node nodes = sum_by-cons (λ (n : Node). cond (is_split n) 1 0) node nodes

abbrev rooms : ℕ → List Link → List TreeBox → ℕ
rooms cost links [] = 0
rooms cost links (box ∷ boxes) = box_room cost links box + rooms cost links boxes

abbrev HaveShape : List Link → List TreeBox → Type 0
HaveShape links boxes = AllByRecursion (HasShape links) boxes

-- node i of those that take these boxes in turn, a cheap split if it is a split
record CheapAt (links : List Link) (cost : ℕ) (boxes : List TreeBox) (nodes : List Node) (i : ℕ) : Type 0 where
  box : TreeBox
  node : Node
  at : slice_get nodes i ≡ Some node
  later : List TreeBox
  next : boxes_left boxes (take i nodes) ≡ box ∷ later
  cheap : IsCheapSplit links cost box node

rooms_some : (cost : ℕ) (links : List Link) (boxes : List TreeBox) → length boxes ≤ rooms cost links boxes
rooms_some cost links [] = omega arith
rooms_some cost links (box ∷ boxes) = omega (arith, box_room_some cost links box, rooms_some cost links boxes)

module _ (links : List Link) (cost : ℕ) (some : AllByRecursion (λ l. All (λ x. 0 < x.cost) l.modules) links) where
  few_after : (box : TreeBox) (boxes : List TreeBox) (node : Node) (nodes : List Node) → HasShape links box → HaveShape links boxes → IsCheapSplit links cost box node
      → ((left : List TreeBox) → HaveShape links left → left ≡ sides_of box node ++ boxes → split_number nodes + length left ≤ rooms cost links left)
      → split_number (node ∷ nodes) + suc (length boxes) ≤ box_room cost links box + rooms cost links boxes
  few_after box boxes (Split link at_module number) nodes shape shapes cheap rest =
      let both = box_part cost links box link.0 at_module number some shape cheap.0 cheap.1 in
      let after = rest (lower_side box link.0 at_module number ∷ upper_side box link.0 at_module number ∷ boxes)
      (set_has_shape links box link.0 at_module (up_to number (span_at box link.0 at_module)) shape, (set_has_shape links box link.0 at_module (beyond number (span_at box link.0 at_module)) shape, shapes)) refl in
      omega (arith, both, after, splits_more (Split link at_module number) nodes)
  few_after box boxes (Closed cert) nodes shape shapes cheap rest = omega (arith, box_room_some cost links box, rest boxes shapes refl, splits_more (Closed cert) nodes)
  few_after box boxes (Empty cut) nodes shape shapes cheap rest = omega (arith, box_room_some cost links box, rest boxes shapes refl, splits_more (Empty cut) nodes)
  few_after box boxes (Spent cert) nodes shape shapes cheap rest = omega (arith, box_room_some cost links box, rest boxes shapes refl, splits_more (Spent cert) nodes)
  few_after box boxes (Stuck cert evidence) nodes shape shapes cheap rest = omega (arith, box_room_some cost links box, rest boxes shapes refl, splits_more (Stuck cert evidence) nodes)

  few_left : (boxes : List TreeBox) (nodes : List Node) → HaveShape links boxes → ((i : ℕ) → i < length nodes → CheapAt links cost boxes nodes i)
      → split_number nodes + length boxes ≤ rooms cost links boxes
  few_left boxes [] shapes cheap = omega (arith, rooms_some cost links boxes)
  few_left [] (node ∷ nodes) shapes cheap = let c = cheap 0 (omega arith) in let n = c.next in absurd (cc n)
  few_left (box ∷ boxes) (node ∷ nodes) shapes cheap =
      let first = cheap 0 (omega arith) in
      let same_box : first.box ≡ box = let n = first.next in cc n in
      let same_node : first.node ≡ node = let n = first.at in cc n in
      few_after box boxes node nodes shapes.0 shapes.1
      (subst (λ (n : Node). IsCheapSplit links cost box n) same_node (subst (λ (b : TreeBox). IsCheapSplit links cost b first.node) same_box first.cheap))
      (λ left left_shapes is. few_left left nodes left_shapes (λ i lt.
      let c = cheap (suc i) (omega arith) in
      record { box = c.box; node = c.node; at = c.at; later = c.later; next = ap (λ (x : List TreeBox). boxes_left x (take i nodes)) is ∙ c.next; cheap = c.cheap }))

pub splits_are_few : SplitsAreFew
splits_are_few links cost tree some cheap =
    let few = few_left links cost (recursion_from_All (λ l. All (λ x. 0 < x.cost) l.modules) links some) (whole_box links ∷ []) tree (whole_has_shape links, tt)
    (λ i lt. let c = cheap i lt in record { box = c.box; node = c.node; at = c.stands.at; later = c.stands.later; next = c.stands.next; cheap = c.cheap }) in
    omega (arith, few, box_whole cost links)
