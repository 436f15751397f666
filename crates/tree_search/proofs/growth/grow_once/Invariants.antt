use Rattle.std.proofs.Common.{◌≤◌, length}
use Rattle.tree_boxes.specs.Searches.{HasLearned, IsSearch, aimed, handed_in, most_entries}
use Rattle.tree_search.specs.inner.Growing.{IsGrowing}
use Rattle.tree_search.proofs.growth.grow_once.Given as goal

-- the tree is one of the case still, and no cuts were added but those of whole points
abbrev pub invariant-loop : goal.invariant-loop
invariant-loop l = record {
  search : IsSearch (aimed l.aim) l.search;
  learned : HasLearned l.fn.search l.search;
  few : length l.search.known.entries ≤ most_entries l.fn.search;
  growing : IsGrowing (aimed l.aim) l.aim.plan.now (handed_in l.fn.search) l.search.known.tested l.splits l.tree.twigs.items;
}
