use Rattle.std.proofs.Common.{◌≡◌, ◌≤◌, ◌<◌, length}
use Rattle.tree_boxes.{specs.Searches.{HasLearned, IsAim, IsSearch, aimed, most_entries}, specs.Finds.IsValued}
use Rattle.tree_boxes.proofs.evaluation.look_open.Given as goal

-- the search has learned more, and the best certificate doesn't close the box
abbrev pub invariant-loop : goal.invariant-loop
invariant-loop l = record {
  aim : IsAim l.search.known.entries l.aim;
  sound : IsSearch (aimed l.aim) l.search;
  learned : HasLearned l.fn.search l.search;
  box : l.boxed ≡ l.fn.boxed;
  few : length l.search.known.entries ≤ most_entries l.fn.search;
  valued : IsValued (aimed l.aim) l.aim.plan.now l.search.known.tested l.boxed l.best;
  below : l.best.value < l.aim.plan.now.cost;
}
