use Rattle.std.proofs.Common.{◌≡◌, ◌≤◌, length, true}
use Rattle.tree_boxes.specs.Searches.{HasLearned, IsSearch, aimed, most_entries}
use Rattle.tree_boxes.proofs.lines.push_lines.Given as goal

-- the search has learned more
abbrev pub invariant-loop-line : goal.invariant-loop-line
invariant-loop-line l = record {
  search : IsSearch (aimed l.aim) l.search;
  learned : HasLearned l.fn.search l.search;
  divides : l.search.known.divides ≡ true;
  few : length l.search.known.entries ≤ most_entries l.fn.search;
}
