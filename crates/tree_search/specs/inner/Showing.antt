-- what the places of a tree show of a plan's cost
use Rattle.std.specs.Prelude.{ℕ, min, true, false, List, [], ◌∷◌, if◌then◌else◌}
use Rattle.tree_check.{specs.declared.proof.Verdict.Verdict, specs.declared.proof.Verdict.TheVariants.{Cheapest, Above}}
use Rattle.tree_boxes.specs.declared.twigs.Twig.{Twig}
use Rattle.tree_search.specs.declared.tree.Shown.{Shown}
use Rattle.tree_boxes.specs.declared.twigs.Twig.TheVariants as twig

-- what is shown together with one more place
abbrev pub shown_with : Shown → Twig → Shown
shown_with shown (twig.Settled node) = shown
shown_with shown (twig.Stuck v evidence) = record { unsettled = true; least = min shown.least v.value }
shown_with shown (twig.Open o) = record { unsettled = true; least = min shown.least o.best.value }

-- what is shown together with all these places
abbrev pub shown_more : Shown → List Twig → Shown
shown_more shown [] = shown
shown_more shown (t ∷ twigs) = shown_more (shown_with shown t) twigs

-- what all places show of a plan of this cost
abbrev pub all_shown : ℕ → List Twig → Shown
all_shown cost twigs = shown_more (record { unsettled = false; least = cost }) twigs

-- the verdict of what is shown
abbrev pub verdict_of : Shown → Verdict
verdict_of shown = if shown.unsettled then Above shown.least else Cheapest
