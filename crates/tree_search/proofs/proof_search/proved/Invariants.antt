use Rattle.std.proofs.Common.{◌≡◌, ◌≤◌, length}
use Rattle.plan_terms.specs.Terms.{case_of}
use Rattle.tree_boxes.specs.Terms.{IsCheaperPlan, IsSearch, handed_in}
use Rattle.tree_search.proofs.proof_search.proved.Given as goal

-- the plan is the given one or a cheaper one, the handed-in cuts are the first ones still, and there is as much room
abbrev pub invariant-attempt : goal.invariant-attempt
invariant-attempt g l = record {
  plan : IsCheaperPlan (case_of l.instance) l.fn.plan l.plan;
  search : IsSearch (case_of l.instance) l.search;
  handed : handed_in l.search ≡ handed_in l.fn.search;
  divides : l.search.known.divides ≡ l.fn.search.known.divides;
  few : length l.search.known.entries ≤ l.search.room;
  room : l.search.room ≡ l.fn.search.room;
}

-- each attempt begins with a cheaper plan
abbrev pub decreases-attempt : goal.decreases-attempt
decreases-attempt g l = l.plan.cost
