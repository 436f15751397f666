-- what was written of a tree is read
use Rattle.std.proofs.Common.{List, All, sym, subst, arith}
use Rattle.text_kit.specs.Terms.{Item}
use Rattle.tree_reader.{specs.Laws.TreesAreRead, specs.Trees.{tree_lines, tree_of}, proofs.TreeLaws.lines_are, proofs.Writable.{AreWritable, all_written}, proofs.Written.lines_read}

pub trees_are_read : TreesAreRead
trees_are_read known demands proof text whole names form lt adds = record {
  form = form;
  spelled = lines_read text whole (tree_lines known demands (tree_of proof)) adds
      (subst (λ (ls : List (List Item)). All AreWritable ls) (sym (lines_are known demands (tree_of proof)))
      (all_written known demands names.link_names names.demand_names names.few (omega (arith, names.net.few_links, names.belong.few)) (tree_of proof) form lt));
}
