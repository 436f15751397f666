-- steps whose answer, where they have one, is right
use Rattle.std.specs.Prelude.{List}
use Rattle.plan_terms.specs.Terms.{Demand, Caps, Graph}
use Rattle.warm_routing.{specs.WarmAnswers.IsWarmAnswer, specs.declared.router.Step.Step, specs.declared.router.Choice.Choice}
use Rattle.warm_routing.specs.declared.router.Step.TheVariants as step
use Rattle.warm_routing.specs.declared.router.Choice.TheVariants as choice

-- an answer is right
abbrev pub IsSoundStep : Graph → List Demand → Caps → Step → Type 0
IsSoundStep g demands caps step.Turned = Unit {0}
IsSoundStep g demands caps (step.Done answer) = IsWarmAnswer g demands caps answer
IsSoundStep g demands caps step.GivenUp = Unit {0}

-- an answer is right
abbrev pub IsSoundChoice : Graph → List Demand → Caps → Choice → Type 0
IsSoundChoice g demands caps (choice.Enters entrant) = Unit {0}
IsSoundChoice g demands caps (choice.Done answer) = IsWarmAnswer g demands caps answer
IsSoundChoice g demands caps choice.Nothing = Unit {0}
