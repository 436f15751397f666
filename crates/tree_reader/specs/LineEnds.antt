-- where a comment line ends
use Rattle.std.specs.Prelude.{ℕ, ◌<◌}
use Rattle.tree_reader.specs.declared.lines.NextLine.{NextLine}
use Rattle.tree_reader.specs.declared.lines.NextLine.TheVariants as next

-- a comment line that comes next ends after a place
abbrev pub EndsAfter : ℕ → NextLine → Type 0
EndsAfter from (next.Comment text end) = from < end
EndsAfter from _ = Unit {0}
