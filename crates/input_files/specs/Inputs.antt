-- the files of a plan, read one after another, and the possible outcomes of each
use Rattle.std.specs.Prelude.{◌≡◌, ◌≢◌, ℕ, ◌^◌, ◌⊎◌, Bool, true, false, List, [], ◌∷◌, ◌++◌, Option, codes}
use Rattle.plan_terms.specs.Terms.{Case, Demand, Link, Network, Notes, Places, Listed, settled_links, settled_notes}
use Rattle.outside_io.{specs.Outside.{Fetches, Files}, specs.declared.status.Status.Status, specs.declared.status.Status.TheVariants.{BadFailures, BadModel, BadNetwork, NoFile, ReadFault, TooLong}}
use Rattle.model_reader.{specs.Terms.{failures_of, failures_word, model_word, model_of}, specs.declared.model.Model.Model}
use Rattle.sndlib_reader.specs.Terms.{kind_word, network_of}
use Rattle.plan_report.specs.Terms.{KnownNames, SpellsReport}
use Rattle.flow_file.{specs.FlowFiles.SpellsFlows, specs.FlowKinds.flows_kind_word, specs.FlowReading.flows_of}
use Rattle.report_reader.specs.ReadingReport.{report_of}
use Rattle.report_words.specs.Terms.{report_kind_word}
use Rattle.session_script.specs.Terms.{script_kind_word, script_of, SpellsScript}
use Rattle.input_files.{specs.InputWords.{PlanWords, default}, specs.Refusals.{Refuses, unused_line}}
use Rattle.outside_io.specs.declared.shelf.Fetch.TheVariants as fetch
use Rattle.model_reader.specs.Failures as failures
use Rattle.model_reader.specs.Models as models
use Rattle.sndlib_reader.specs.NetworkFiles as networks

-- an input file has at most 16 MiB, and a report 256 MiB
abbrev pub input_limit : ℕ
input_limit = 2 ^ 24

abbrev pub report_limit : ℕ
report_limit = 2 ^ 28

-- the file is fetched, with at most this number of bytes, and this holds of its bytes
abbrev pub Fetched : {X : Type 0} → Option Files → ℕ → List ℕ → (List ℕ → X → Type 0) → X → Type 0
Fetched files limit name Holds x = (bytes : List ℕ) × Fetches files name limit fetch.Found bytes × Holds bytes x

-- A file can't be fetched: it isn't there, or is too long, or reading failed.
abbrev pub StopsAtFetch : Option Files → ℕ → List ℕ → Status → List ℕ → Type 0
StopsAtFetch files limit name status text =
    ((status ≡ NoFile) × Fetches files name limit fetch.Missing [] × (text ≡ codes "no file " ++ name ++ 10 ∷ []))
    ⊎ ((status ≡ TooLong) × Fetches files name limit fetch.TooLong [] × (text ≡ codes "too long " ++ name ++ 10 ∷ []))
    ⊎ ((status ≡ ReadFault) × (text ≡ []))

-- A file ends the run: it can't be fetched, or its bytes are refused with the status and the text.
abbrev pub StopsAtFile : Option Files → ℕ → List ℕ → Status → (List ℕ → List ℕ → Type 0) → Status → List ℕ → Type 0
StopsAtFile files limit name bad Refused status text =
    StopsAtFetch files limit name status text ⊎ ((status ≡ bad) × Fetched files limit name Refused text)

-- the bytes spell this network and these demands
abbrev pub SpellsNetwork : List ℕ → Network × List Demand → Type 0
SpellsNetwork bytes read = networks.Spells bytes read.0 read.1

-- the bytes spell no network, no model, or no states of these links, and the text names their first fault
abbrev pub RefusesNetworkFile : List ℕ → List ℕ → Type 0
RefusesNetworkFile = Refuses SpellsNetwork network_of (codes "network") kind_word

abbrev pub RefusesModelFile : List ℕ → List ℕ → Type 0
RefusesModelFile = Refuses models.SpellsModel model_of (codes "model") model_word

abbrev pub RefusesFailureFile : List Link → List ℕ → List ℕ → Type 0
RefusesFailureFile links = Refuses (failures.SpellsFailures links) (failures_of links) (codes "failures") failures_word

-- The bytes spell no script with amounts of these places, or no report of this network and these states, and the text names their
-- first fault.
abbrev pub RefusesScriptFile : Places → List ℕ → List ℕ → Type 0
RefusesScriptFile places = Refuses (SpellsScript places) (script_of places) (codes "script") script_kind_word

abbrev pub RefusesReportFile : KnownNames → List ℕ → List ℕ → Type 0
RefusesReportFile names = Refuses (SpellsReport names) (report_of names) (codes "report") report_kind_word

abbrev pub RefusesFlowFile : KnownNames → List Demand → List ℕ → List ℕ → Type 0
RefusesFlowFile names demands = Refuses (SpellsFlows names demands) (flows_of names demands) (codes "flows") flows_kind_word

-- The model: that of its file; without one, reconfiguration where a failure file is named, and no setup is charged.
abbrev pub HasModel : Option Files → PlanWords → Model → Type 0
HasModel files w model =
    ((w.model ≢ default) × Fetched files input_limit w.model models.SpellsModel model)
    ⊎ ((w.model ≡ default) × (w.failures ≢ default) × (model.reconfigure ≡ true) × (model.charge ≡ false))
    ⊎ ((w.model ≡ default) × (w.failures ≡ default) × (model.reconfigure ≡ false) × (model.charge ≡ false))

-- The listed states: those of the failure file; without one, every single-link failure with reconfiguration, and none without.
abbrev pub HasStates : Option Files → PlanWords → List Link → Bool → List Listed → Type 0
HasStates files w links reconfigure listed =
    ((w.failures ≢ default) × (reconfigure ≡ true) × Fetched files input_limit w.failures (failures.SpellsFailures links) listed)
    ⊎ ((w.failures ≡ default) × (reconfigure ≡ true) × (listed ≡ failures.single_states links))
    ⊎ ((w.failures ≡ default) × (reconfigure ≡ false) × (listed ≡ []))

-- A failure list ends the run: it is named though the model has no survivability, or its file is not read.
abbrev pub StopsAtFailures : Option Files → PlanWords → List Link → Bool → Status → List ℕ → Type 0
StopsAtFailures files w links reconfigure status text =
    (w.failures ≢ default)
    × (((reconfigure ≡ false) × (status ≡ BadFailures) × (text ≡ unused_line))
    ⊎ ((reconfigure ≡ true) × StopsAtFile files input_limit w.failures BadFailures (RefusesFailureFile links) status text))

-- One of the files ends the run. They are read in their order: the network's, the model's, the failure list's.
abbrev pub StopsAtInputs : Option Files → PlanWords → Status → List ℕ → Type 0
StopsAtInputs files w status text =
    StopsAtFile files input_limit w.network BadNetwork RefusesNetworkFile status text
    ⊎ ((read : Network) × (demands : List Demand)
    × Fetched files input_limit w.network SpellsNetwork (read, demands)
    × (((w.model ≢ default) × StopsAtFile files input_limit w.model BadModel RefusesModelFile status text)
    ⊎ ((model : Model) × HasModel files w model × StopsAtFailures files w read.links model.reconfigure status text)))

-- The network that was read, once the model is known: its setup costs are charged and no longer noted, or they are dropped.
pub record IsSettled (charge : Bool) (read net : Network) : Type 0 where
  pub nodes : net.nodes ≡ read.nodes
  pub links : net.links ≡ settled_links charge read.links
  pub notes : net.notes ≡ settled_notes charge read.notes
  pub places : net.places ≡ read.places

-- The files spell this network, settled by their model, these demands and these listed states.
abbrev pub HasInputs : Option Files → PlanWords → Network → List Demand → List Listed → Type 0
HasInputs files w net demands listed =
    (read : Network) × (model : Model)
    × Fetched files input_limit w.network SpellsNetwork (read, demands)
    × HasModel files w model
    × HasStates files w read.links model.reconfigure listed
    × IsSettled model.charge read net

-- One of the files that every command has ends the run, or they are all read, and this is the outcome, of the case that they spell and
-- the notes of its settled network.
abbrev pub EndsAfterInputs : Option Files → PlanWords → (Case → Notes → Status → List ℕ → Type 0) → Status → List ℕ → Type 0
EndsAfterInputs files w EndsWith status text =
    StopsAtInputs files w status text
    ⊎ ((net : Network) × (demands : List Demand) × (listed : List Listed)
    × HasInputs files w net demands listed
    × EndsWith (record { nodes = net.nodes; links = net.links; listed = listed; demands = demands; places = net.places }) net.notes status text)
