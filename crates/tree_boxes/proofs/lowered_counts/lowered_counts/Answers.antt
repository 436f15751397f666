use Rattle.std.{proofs.Common.{◌≡◌, ◌∙◌, [], List, ℕ, All, get_or, length, ap, sym, subst, arith}, proofs.lemmas.List.length_push}
use Rattle.net_core.proofs.Networks.{modules_sound}
use Rattle.module_choice.proofs.Pairs.{counts_long, counts_shape}
use Rattle.plan_terms.specs.Terms.{AreCounts, IsModule, Link, Module}
use Rattle.tree_boxes.{specs.inner.Lowering.{IsLoweredLink, modules_at}, proofs.Lowering.links_more}
use Rattle.tree_boxes.proofs.lowered_counts.lowered_counts.Goals as goal

pub bounds-lists-e : goal.bounds-lists-e
bounds-lists-e c =
    let long = counts_long c.args.instance.now.net.now.links c.args.counts.now c.requires.shape in
    let links = ap (λ (x : List Link). length x) (c.items-links.ensures ∙ c.links.ensures) in
    let lists = ap (λ (x : List (List ℕ)). length x) c.items-lists.ensures in
    omega (arith, long, links, lists, c.loop-e-test.true)

pub lowered_link-requires-clause-each : goal.lowered_link-requires-clause-each
lowered_link-requires-clause-each c =
    let net = c.args.instance.now.net.now in
    let same : net.links ≡ c.items-links.result.now = sym (c.items-links.ensures ∙ c.links.ensures) in
    let sound : All (λ (l : Link). All IsModule l.modules) c.items-links.result.now = subst (λ (x : List Link). All (λ (l : Link). All IsModule l.modules) x) same (modules_sound net.nodes net.links net.checked) in
    subst (λ (x : List Module). All IsModule x) (sym c.items.ensures) (sound c.loop-e.e c.index-links-e.result c.loop-e-test.true)

pub lowered_link-requires-clause-count : goal.lowered_link-requires-clause-count
lowered_link-requires-clause-count c =
    let links = c.items-links.result.now in
    let lists = c.items-lists.result.now in
    let shape : AreCounts links lists =
    subst (λ (x : List Link). AreCounts x lists) (sym (c.items-links.ensures ∙ c.links.ensures)) (subst (λ (x : List (List ℕ)). AreCounts c.args.instance.now.net.now.links x) (sym c.items-lists.ensures) c.requires.shape) in
    let here = counts_shape links lists shape c.loop-e.e c.index-links-e.result c.index-lists-e.result c.loop-e-test.true in
    ap (λ (x : List ℕ). length x) (c.items-in-loop-e.ensures ∙ c.index-lists-e.is) ∙ (here ∙ sym (ap (λ (x : List Module). length x) c.items.ensures))

pub loop-e-preserved : goal.loop-e-preserved
loop-e-preserved c =
    let links = c.items-links.result.now in
    let lists = c.items-lists.result.now in
    let shape : AreCounts links lists =
    subst (λ (x : List Link). AreCounts x lists) (sym (c.items-links.ensures ∙ c.links.ensures)) (subst (λ (x : List (List ℕ)). AreCounts c.args.instance.now.net.now.links x) (sym c.items-lists.ensures) c.requires.shape) in
    let e = c.loop-e.e in
    let new = c.in_ok-lowered_link.field-0 in
    let was = c.loop-e.invariant in
    let count = was.count in
    let pushed = c.in_ok-push.ensures.ok in
    let here : IsLoweredLink (get_or links e c.index-links-e.result).modules (get_or lists e c.index-lists-e.result) new =
    subst (λ (x : List Module). IsLoweredLink x (get_or lists e c.index-lists-e.result) new) c.items.ensures
    (subst (λ (x : List ℕ). IsLoweredLink c.items.result.now x new) (c.items-in-loop-e.ensures ∙ c.index-lists-e.is) c.in_ok-lowered_link.ensures) in
    let more = links_more links lists c.loop-e.lowered e c.index-links-e.result c.index-lists-e.result new shape c.loop-e-test.true count was.each here in
    record {
      count = omega (arith, ap (λ (x : List (List ℕ)). length x) pushed, length_push c.loop-e.lowered new, count);
      each = λ k lt. subst (λ (x : List (List ℕ)). IsLoweredLink (modules_at links k) (get_or lists k []) (get_or x k [])) (sym pushed) (more k lt);
    }
