use Rattle.std.proofs.Common.{ℕ, List, length, map, subst, zip}
use Rattle.net_core.proofs.Library.{range_with_len}
use Rattle.text_kit.proofs.Lemmas.{on_ok}
use Rattle.plan_terms.specs.Terms.{CutLine}
use Rattle.report_comments.{specs.Comments.AddsLines, proofs.Lines.lines_then}
use Rattle.tree_check.{specs.declared.proof.Node.Node, specs.Terms.Line}
use Rattle.tree_lines.specs.TreeLines.{box_cut_items, line_items, node_items}
use Rattle.tree_lines.proofs.proof.put_proof.Goals as goal

pub returns : goal.returns
returns c =
    let cuts = subst (λ (x : List CutLine). AddsLines c.args.text.now (map box_cut_items (zip (range_with_len 0 (length x)) x)) c.put_cuts.new.text) c.items.ensures c.in_ok-put_cuts.ensures in
    let lines = subst (λ (first : ℕ). AddsLines c.put_cuts.new.text (map line_items (zip (range_with_len first (length c.args.proof.now.lines)) c.args.proof.now.lines)) c.put_lines.new.text) c.len.ensures
    (subst (λ (x : List Line). AddsLines c.put_cuts.new.text (map line_items (zip (range_with_len c.len.result (length x)) x)) c.put_lines.new.text) c.items-2.ensures c.in_ok-put_lines.ensures) in
    let nodes = subst (λ (x : List Node). AddsLines c.put_lines.new.text (map (node_items c.args.links.now c.args.demands.now) x) c.put_nodes.new.text) c.items-3.ensures c.in_ok-put_nodes.ensures in
    on_ok _ (λ q. lines_then (lines_then (lines_then cuts lines) nodes) q) c.put_verdict.ensures
