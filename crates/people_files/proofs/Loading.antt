-- files that end the run, one after another
use Rattle.std.proofs.Common.{◌≢◌, List, Option, inl, inr}
use Rattle.plan_terms.specs.Terms.{Demand, Network}
use Rattle.model_reader.specs.declared.model.Model.{Model}
use Rattle.outside_io.{specs.Outside.Files, specs.declared.status.Status.TheVariants.{BadModel, BadNetwork}}
use Rattle.input_files.specs.Terms.{default, Fetched, HasModel, SpellsNetwork, input_limit}
use Rattle.people_files.{specs.Endings.Halts, specs.CaseInputs.{CaseWords, FailsAtFailures, FailsAtInputs}, specs.Messages.{FailsAtFile, ShowsModelFault, ShowsNetworkFault}, specs.declared.stop.Halt.Halt, proofs.Causing.halt_map}

-- a model that ends the run
pub model_fails : (files : Option Files) (w : CaseWords) (net : Network) (demands : List Demand) (h : Halt) → Fetched files input_limit w.files.network SpellsNetwork (net, demands)
    → Halts (λ status message. (w.files.model ≢ default) × FailsAtFile files input_limit w.files.model BadModel (ShowsModelFault w.files.model) status message) h
    → Halts (FailsAtInputs files w) h
model_fails files w net demands h has =
    halt_map (λ status message. (w.files.model ≢ default) × FailsAtFile files input_limit w.files.model BadModel (ShowsModelFault w.files.model) status message) (FailsAtInputs files w) h
    (λ status message e. inr (net, demands, has, inl e))

-- a failure list that ends the run
pub failures_fail : (files : Option Files) (w : CaseWords) (net : Network) (demands : List Demand) (model : Model) (h : Halt)
    → Fetched files input_limit w.files.network SpellsNetwork (net, demands) → HasModel files w.files model
    → Halts (FailsAtFailures files w net.links model.reconfigure) h → Halts (FailsAtInputs files w) h
failures_fail files w net demands model h has is =
    halt_map (FailsAtFailures files w net.links model.reconfigure) (FailsAtInputs files w) h (λ status message e. inr (net, demands, has, inr (model, is, e)))

-- a network that ends the run
pub network_fails : (files : Option Files) (w : CaseWords) (h : Halt)
    → Halts (FailsAtFile files input_limit w.files.network BadNetwork (ShowsNetworkFault w.files.network)) h → Halts (FailsAtInputs files w) h
network_fails files w h =
    halt_map (FailsAtFile files input_limit w.files.network BadNetwork (ShowsNetworkFault w.files.network)) (FailsAtInputs files w) h (λ status message e. inl e)
