use Rattle.std.proofs.Common.{◌+◌, ◌*◌, ◌≤◌, length}
use Rattle.tree_boxes.specs.Searches.{HasLearned, IsSearch, aimed, handed_in, most_entries}
use Rattle.tree_search.specs.inner.Growing.{IsGrowing}
use Rattle.tree_search.proofs.growth.grow.Given as goal

-- the tree has as many splits as there were turns, each of which added two cuts at most but for those of whole points
abbrev pub invariant-loop-splits : goal.invariant-loop-splits
invariant-loop-splits g l = record {
  search : IsSearch (aimed l.aim) l.search;
  learned : HasLearned l.fn.search l.search;
  few : length l.search.known.entries ≤ most_entries l.fn.search + 2 * l.splits;
  growing : IsGrowing (aimed l.aim) l.aim.plan.now (handed_in l.fn.search) l.search.known.tested l.splits l.tree.twigs.items;
}
