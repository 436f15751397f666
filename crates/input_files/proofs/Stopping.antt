-- how the answer of one step of a reading is the answer of the run
use Rattle.std.proofs.Common.{◌≢◌, ℕ, List, [], Option, inl, inr}
use Rattle.plan_terms.specs.Terms.{Demand, Network}
use Rattle.model_reader.specs.declared.model.Model.{Model}
use Rattle.outside_io.{specs.Outside.Files, specs.declared.status.Status.Status, specs.declared.status.Status.TheVariants.{BadModel, ReadFault}}
use Rattle.input_files.{specs.InputWords.{PlanWords, default}, specs.Inputs.{Fetched, HasModel, RefusesModelFile, SpellsNetwork, StopsAtFailures, StopsAtFile, StopsAtInputs, input_limit}, specs.Stops.Stops, specs.declared.stop.Stop.Stop}
use Rattle.input_files.specs.declared.stop.Stop.TheVariants as stop

-- a further cause
pub stop_map : (P Q : Status → List ℕ → Type 0) (s : Stop) → ((status : Status) (text : List ℕ) → P status text → Q status text) → Stops P s → Stops Q s
stop_map P Q stop.NoMemory f h = tt
stop_map P Q stop.ReadFault f h = f ReadFault [] h
stop_map P Q (stop.Told a) f h = f a.status a.text h

-- a model that ends the run
pub model_ends : (files : Option Files) (w : PlanWords) (net : Network) (demands : List Demand) (s : Stop) → Fetched files input_limit w.network SpellsNetwork (net, demands)
    → Stops (λ status text. (w.model ≢ default) × StopsAtFile files input_limit w.model BadModel RefusesModelFile status text) s → Stops (StopsAtInputs files w) s
model_ends files w net demands s has =
    stop_map (λ status text. (w.model ≢ default) × StopsAtFile files input_limit w.model BadModel RefusesModelFile status text) (StopsAtInputs files w) s
    (λ status text e. inr (net, demands, has, inl e))

-- a failure list that ends the run
pub failures_end : (files : Option Files) (w : PlanWords) (net : Network) (demands : List Demand) (model : Model) (s : Stop) → Fetched files input_limit w.network SpellsNetwork (net, demands) → HasModel files w model
    → Stops (StopsAtFailures files w net.links model.reconfigure) s → Stops (StopsAtInputs files w) s
failures_end files w net demands model s has is =
    stop_map (StopsAtFailures files w net.links model.reconfigure) (StopsAtInputs files w) s
    (λ status text e. inr (net, demands, has, inr (model, is, e)))
