-- the nodes read so far, as parts of their list
use Rattle.std.specs.Prelude.{ℕ, Bool, true, false, List, [], ◌∷◌, ◌++◌, map}
use Rattle.sndlib_reader.specs.Spelling.{NodePart, NodeName, Coordinates}

-- parts with these names, of which the last is a name or isn't
abbrev pub parts_so_far : List (List ℕ) → Bool → List NodePart
parts_so_far names true = map NodeName names
parts_so_far names false = map NodeName names ++ Coordinates ∷ []
