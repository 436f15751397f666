-- lists of numbers without parentheses, up to the end of a line or to the word `wide`
use Rattle.std.specs.Prelude.{List, Option, codes}
use Rattle.text_kit.specs.Terms.{Ending, Reading, TheEnd, TheWord, list_at}
use Rattle.tree_reader.{specs.declared.run.Stop.Stop, specs.declared.run.Stop.TheVariants.{LineEnd, Wide}}

-- what a list ends with
abbrev pub stop_ending : Stop → Ending
stop_ending LineEnd = TheEnd
stop_ending Wide = TheWord (codes "wide")

-- a list up to what ends it, where all of it may have a fault; an element is read by those before it
abbrev pub run_at : {K X : Type 0} → Stop → (List X → Option K) → (List X → Reading K X) → List X → Reading K (List X)
run_at stop = list_at (stop_ending stop)
