use mathlib.Core.Path.{fun_ext}
use Rattle.std.proofs.Common.{◌≡◌, ◌∙◌, ℕ, List, ap, get_or, map}
use Rattle.line_maker.{specs.Orders.{lines_among, moved_line, moved_node, place_of}, specs.declared.entry.Entry.Entry}
use Rattle.line_maker.proofs.order.in_order.Goals as goal

pub returns : goal.returns
returns c =
    let es = c.args.entries in
    let at : (ps : List ℕ) → ps ≡ c.in_ok-places.places → (λ i. get_or ps i i) ≡ place_of es =
    λ ps same. fun_ext (λ i. ap (λ (xs : List ℕ). get_or xs i i) same ∙ (c.in_ok-places.ensures i ∙ ap (λ (xs : List Entry). place_of xs i) c.items.ensures)) in
    record {
      cuts = c.in_ok-parts.ensures.cuts;
      lines = c.in_ok-parts.ensures.lines ∙ ap (λ (to : ℕ → ℕ). map (moved_line to) (lines_among es)) (at c.items-2.result.now c.items-2.ensures);
      tree_is = c.in_ok-tree.ensures ∙ ap (λ (to : ℕ → ℕ). map (moved_node to) c.args.tree) (at c.items-3.result.now c.items-3.ensures);
    }
