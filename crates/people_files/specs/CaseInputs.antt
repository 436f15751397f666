-- the files of a planning for people, read one after another, and the possible outcomes of each
use Rattle.std.specs.Prelude.{◌≡◌, ◌≢◌, ℕ, ◌⊎◌, ◌++◌, Bool, true, false, List, [], Option}
use Rattle.plan_terms.specs.Terms.{Case, Demand, Link, Listed, Network, Notes}
use Rattle.outside_io.{specs.Outside.Files, specs.declared.status.Status.Status, specs.declared.status.Status.TheVariants.{BadFailures, BadModel, BadNetwork}}
use Rattle.model_reader.specs.declared.model.Model.{Model}
use Rattle.input_files.specs.Terms.{PlanWords, default, Fetched, HasModel, HasStates, IsSettled, SpellsNetwork, input_limit, unused_line, named}
use Rattle.people_files.{specs.Messages.{FailsAtFile, ShowsFailuresFault, ShowsModelFault, ShowsNetworkFault, unused_words}, specs.declared.words.CaseFiles.CaseFiles}
use Rattle.model_reader.specs.Failures as failures

-- the files of a planning, and whether each single link's failure is to be survived
pub record CaseWords : Type 0 where
  pub files : PlanWords
  pub survive : Bool

-- the files that words name
abbrev pub named_case : CaseFiles → CaseWords
named_case w = record { files = named w.files; survive = w.survive }

-- The listed states: each single link's failure where all are to be survived, and else those of a planning of the files.
abbrev pub HasListed : Option Files → CaseWords → List Link → Bool → List Listed → Type 0
HasListed files w links reconfigure listed =
    ((w.survive ≡ true) × (listed ≡ failures.single_states links))
    ⊎ ((w.survive ≡ false) × HasStates files w.files links reconfigure listed)

-- The files spell this network, settled by their model, these demands and these listed states. Where links are to be survived without a
-- model's file, no setup is charged.
abbrev pub HasCase : Option Files → CaseWords → Network → List Demand → List Listed → Type 0
HasCase files w net demands listed =
    (read : Network) × (model : Model)
    × Fetched files input_limit w.files.network SpellsNetwork (read, demands)
    × HasModel files w.files model
    × HasListed files w read.links model.reconfigure listed
    × IsSettled model.charge read net

-- A failure list ends the run with a message: it is named though the model has no survivability, or its file is not read.
abbrev pub FailsAtFailures : Option Files → CaseWords → List Link → Bool → Status → List ℕ → Type 0
FailsAtFailures files w links reconfigure status message =
    (w.survive ≡ false) × (w.files.failures ≢ default)
    × (((reconfigure ≡ false) × (status ≡ BadFailures) × (message ≡ unused_words w.files.failures ++ unused_line))
    ⊎ ((reconfigure ≡ true)
    × FailsAtFile files input_limit w.files.failures BadFailures (ShowsFailuresFault links w.files.failures) status message))

-- One of the files ends the run with a message. They are read in their order: the network's, the model's, the failure list's.
abbrev pub FailsAtInputs : Option Files → CaseWords → Status → List ℕ → Type 0
FailsAtInputs files w status message =
    FailsAtFile files input_limit w.files.network BadNetwork (ShowsNetworkFault w.files.network) status message
    ⊎ ((read : Network) × (demands : List Demand)
    × Fetched files input_limit w.files.network SpellsNetwork (read, demands)
    × (((w.files.model ≢ default) × FailsAtFile files input_limit w.files.model BadModel (ShowsModelFault w.files.model) status message)
    ⊎ ((model : Model) × HasModel files w.files model × FailsAtFailures files w read.links model.reconfigure status message)))

-- One of the files ends the run with a message and no text, or they are all read, and this is the outcome, of the case that they spell and the
-- notes of its settled network.
abbrev pub EndsAfterCase : Option Files → CaseWords → (Case → Notes → Status → List ℕ → List ℕ → Type 0) → Status → List ℕ → List ℕ → Type 0
EndsAfterCase files w EndsWith status text message =
    ((text ≡ []) × FailsAtInputs files w status message)
    ⊎ ((net : Network) × (demands : List Demand) × (listed : List Listed)
    × HasCase files w net demands listed
    × EndsWith (record { nodes = net.nodes; links = net.links; listed = listed; demands = demands; places = net.places }) net.notes status text message)
