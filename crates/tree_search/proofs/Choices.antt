-- where an open box may be split
use Rattle.std.proofs.Common.{◌≡◌, ℕ, zero, suc, ◌+◌, ◌*◌, ◌^◌, ◌≤◌, ◌<◌, ◌⊎◌, List, [], ◌∷◌, All, None, Some, IfSome, Option, get_or, length, map, inr, ⊎_elim, refl, sym, ap, ◌∙◌, subst, arith}
use Rattle.net_core.proofs.Library.{cases_eq, get_or_from_slice_get, length-map, slice_get_within}
use Rattle.plan_terms.specs.Terms.{AreCounts, IsModule, Link, sum_below}
use Rattle.tree_check.specs.Terms.{IsFixedSpan, IsSplitOf, any_count, least_counts, span_at, spans_of, module_costs, TreeBox}
use Rattle.line_check.specs.Inequalities.{entry, module_number, over_modules}
use Rattle.tree_boxes.{specs.Terms.{Span, AreLow, Place}, proofs.FreeValues.free_value, proofs.Lemmas.below_term, proofs.LeastCosts.{free_reaches, total_least}}
use Rattle.tree_search.{specs.declared.choice.Choice.Choice, specs.inner.Choosing.{HasFreePlace, IsSplittable, IsTriable}, specs.inner.Growing.IsChoiceOf}

-- ---- what may be tried is a choice

least_low : (n : ℕ) (box : TreeBox) (e m a : ℕ) → AreLow n box → IsSplitOf box e m a → (span_at box e m).least ≤ 2 ^ 44 + n
least_low n box e m a low split = low e [] split.link m any_count split.inside

-- what is tried is a choice
pub choice_of : (links : List Link) (cost n : ℕ) (box : TreeBox) (c : Choice) → AreLow n box → IsTriable links cost box c → IsChoiceOf links cost n box c
choice_of links cost n box c low is = record {
  split = is.choice.split;
  cheap = is.choice.cheap;
  low = ⊎_elim
      (λ le. omega (arith, le))
      (λ same. omega (arith, same, least_low n box c.place.link c.place.module c.at low is.choice.split))
      is.low;
}

-- ---- the first module of several counts, at its least count

over_term : (links : List Link) (f : ℕ → ℕ → ℕ) (e m : ℕ) → e < length links → m < module_number links e → f e m ≤ over_modules links f
over_term links f e m link inside =
    omega (arith, below_term (module_number links e) (f e) m inside, below_term (length links) (λ k. sum_below (module_number links k) (f k)) e link)

-- a module of a box is one of the network
of_network : (links : List Link) (box : TreeBox) (e m : ℕ) → AreCounts links (least_counts box) → e < length box → m < length (spans_of box e) → (e < length links) × (m < module_number links e)
of_network links [] e m shape link inside = absurd (omega (arith, link))
of_network [] (ss ∷ box) e m shape link inside = absurd shape
of_network (l ∷ ls) (ss ∷ box) zero m shape link inside =
    let within : m < length ss = inside in
    let same : length (map (λ (s : Span). s.least) ss) ≡ length l.modules = shape.0 in
    let less : m < length l.modules = omega (arith, within, same, length-map ss (λ (s : Span). s.least)) in
    (omega arith, less)
of_network (l ∷ ls) (ss ∷ box) (suc e) m shape link inside =
    let rest = of_network ls box e m shape.1 (omega (arith, link)) inside in
    (omega (arith, rest.0), rest.1)

below_most : (s : Span) (o : Option ℕ) → s.most ≡ o → IfSome o (λ most. s.least ≤ most) → (IsFixedSpan s → ⊥) → IfSome o (λ most. s.least < most)
below_most s None is some unfixed = tt
below_most s (Some most) is some unfixed = ⊎_elim
    (λ same. absurd (unfixed (is ∙ ap Some (sym same))))
    (λ other. omega (arith, some, other))
    (cases_eq s.least most)

module _ (links : List Link) (few : length links ≤ 256) (sound : All (λ l. (length l.modules ≤ 16) × (l.setup < 2 ^ 40) × All IsModule l.modules) links) (cost : ℕ) (box : TreeBox) (is : IsSplittable links cost box) where
  least_cheap : (e m : ℕ) → e < length links → m < module_number links e → entry (module_costs links) e m * (span_at box e m).least < cost
  least_cheap e m link inside =
      let free = free_value links few sound box is.search_box.low in
      omega (
        arith,
        is.below free.0 free.1,
        free_reaches links box free.0 is.search_box.shape free.1,
        total_least links box is.search_box.shape,
        over_term links (λ k j. entry (module_costs links) k j * (span_at box k j).least) e m link inside,
      )

  abbrev IsTriableAt : Place → ℕ → Type 0
  IsTriableAt q a = IsSplitOf box q.link q.module a × (entry (module_costs links) q.link q.module * a < cost) × ((a ≤ 2 ^ 44) ⊎ (a ≡ (span_at box q.link q.module).least))

  from_parts : (c : Choice) → IsTriableAt c.place c.at → IsTriable links cost box c
  from_parts c parts = record { choice = record { split = parts.0; cheap = parts.1 }; low = parts.2 }

  -- it may be tried
  pub least_triable : (place : Place) (c : Choice) → HasFreePlace box place → c.place ≡ place → c.at ≡ (span_at box place.link place.module).least → IsTriable links cost box c
  least_triable place c has same number =
      let e = place.link in
      let m = place.module in
      let link : e < length box = slice_get_within box e has.spans has.link in
      let spans : spans_of box e ≡ has.spans = get_or_from_slice_get box e has.spans [] has.link in
      let s : Span = has.free.0 in
      let within : m < length has.spans = slice_get_within has.spans m s has.free.1 in
      let inside : m < length (spans_of box e) = subst (λ (x : List Span). m < length x) (sym spans) within in
      let here : span_at box e m ≡ s = ap (λ (x : List Span). get_or x m any_count) spans ∙ get_or_from_slice_get has.spans m s any_count has.free.1 in
      let some : IfSome s.most (λ most. s.least ≤ most) = subst (λ (x : Span). IfSome x.most (λ most. x.least ≤ most)) here (is.search_box.some e [] link m any_count inside) in
      let below : IfSome s.most (λ most. s.least < most) = below_most s s.most refl some has.free.2 in
      let network = of_network links box e m is.search_box.shape link inside in
      let split : IsSplitOf box e m (span_at box e m).least = record {
        link = link;
        inside = inside;
        from_least = omega arith;
        below_most = subst (λ (x : Span). IfSome x.most (λ most. x.least < most)) (sym here) below;
      } in
      from_parts c (subst (λ r. IsTriableAt r c.at) (sym same) (subst (λ n. IsTriableAt place n) (sym number) (split, least_cheap e m network.0 network.1, inr refl)))
