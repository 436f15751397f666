-- qualities where a state is too wide
use Rattle.plan_terms.specs.Terms.{Evidence}
use Rattle.plan_types.{specs.declared.quality.Cause.TheVariants.Wide, specs.declared.quality.Quality.Quality, specs.declared.quality.Quality.TheVariants.{Tight, Loose}}

-- a tight quality becomes loose by this evidence, a loose one stays
abbrev pub widened : Evidence → Quality → Quality
widened evidence (Tight fractional) = Loose (Wide evidence)
widened evidence (Loose cause) = Loose cause
