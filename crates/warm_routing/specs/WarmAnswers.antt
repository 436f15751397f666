-- what a kept basis finds of the demands of a state within capacities
use Rattle.std.specs.Prelude.{List}
use Rattle.plan_terms.specs.Terms.{Demand, Caps, Graph}
use Rattle.flow_mending.specs.Terms.{IsRouted}
use Rattle.row_cuts.specs.FoundCuts.{IsFoundCutOf}
use Rattle.warm_routing.{specs.declared.answer.WarmAnswer.WarmAnswer, specs.declared.answer.WarmAnswer.TheVariants.{Routed, Violated}}

-- a routing that carries the demands, or a cut of priced lengths that the capacities violate
abbrev pub IsWarmAnswer : Graph → List Demand → Caps → WarmAnswer → Type 0
IsWarmAnswer g demands caps (Routed routing) = IsRouted g demands caps routing
IsWarmAnswer g demands caps (Violated cut) = IsFoundCutOf g demands caps cut
