-- rows as lines of comma-separated values
use Rattle.std.specs.Prelude.{ℕ, List, flat_map}
use Rattle.csv.specs.Writing.{default_writer, row_text}

-- a line for each row, as the library's writer writes it with its own settings: commas between fields, quotes around those that need them
abbrev pub csv_text : List (List (List ℕ)) → List ℕ
csv_text rows = flat_map (row_text default_writer) rows
