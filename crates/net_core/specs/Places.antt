-- how many digits after the point amounts have, and so what a unit is
use Rattle.std.specs.Prelude.{ℕ}
use Rattle.net_core.{specs.declared.places.Places.Places, specs.declared.places.Places.TheVariants.{Three, Six}}

-- the digits after the point
abbrev pub digits_after_point : Places → ℕ
digits_after_point Three = 3
digits_after_point Six = 6
