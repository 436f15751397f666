use Rattle.std.proofs.Common.{length, ap, ◌∙◌}
use Rattle.row_cuts.proofs.Found.{lowest_some}
use Rattle.row_cuts.proofs.row_numbers.tested_numbers.Goals as goal

pub returns : goal.returns
returns c = record {
  basis = c.in_ok-is_basis.ensures c.if-not-branch-2.false;
  numbers = lowest_some c.len.result (length c.args.graph.now.net.now.links) c.args.nums.now c.in_ok-lengths.field-0 c.in-Some.lengths (c.len.ensures ∙ ap length c.links.ensures) c.in_ok-lengths.ensures c.in-Some.is;
  shortest = c.in_ok-has_shortest_keys.ensures c.if-not-branch.false;
}
