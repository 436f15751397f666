use Rattle.std.proofs.Common.{◌≡◌, ◌++◌, flat_map, take}
use Rattle.plan_terms.specs.Terms.{case_of}
use Rattle.failure_texts.specs.AllSeparations.{separation_line}
use Rattle.failure_texts.proofs.texts.put_separations.Given as goal

-- the lines of the separations so far
abbrev pub invariant-loop-separation : goal.invariant-loop-separation
invariant-loop-separation l = l.text ≡ l.fn.text ++ flat_map (separation_line (case_of l.instance)) (take l.separation-index l.found)
