-- the result of a run for people: its status, the text that it prints, and the message on standard error
use Rattle.std.{specs.Prelude.{◌≡◌, ℕ, ◌⊎◌, List, [], ◌++◌, Option, String, codes}, specs.Global.Global}
use Rattle.plan_terms.specs.Terms.{Case, Demand, Network, Notes}
use Rattle.outside_io.{specs.Outside.{Fetches, Files, Rose, Takes, TakesPrefix}, specs.declared.sink.Failed.Failed, specs.declared.sink.Failed.TheVariants.{DiskFull, Other}, specs.declared.status.Status.Status, specs.declared.status.Status.TheVariants.{BadNetwork, BadWords, Done, NoMemory, NotSurvivable, WriteFault}}
use Rattle.check_answers.specs.Separations.{NamesFirstSeparation}
use Rattle.failure_texts.{specs.FailureTexts.IsFailureList, specs.Fates.with_states}
use Rattle.input_files.specs.Inputs.{Fetched, SpellsNetwork, input_limit, report_limit}
use Rattle.people_words.specs.PeopleCommands.{AskedForm, AskedPlan, PeopleCommand, Help, HelpOn, Version, Failures, View, Plan, IsPeopleCommand}
use Rattle.people_files.{specs.CaseInputs.{CaseWords, EndsAfterCase}, specs.Messages.{FailsAtFetch, FailsAtFile, ShowsNetworkFault}}
use Rattle.people_views.{specs.declared.form.ViewForm.ViewForm, specs.declared.form.ViewForm.TheVariants.{Tables, Values}, specs.Terms.{EndsReport, LacksState, NamesState, PicturesState}}
use Rattle.people_plans.specs.PlansForPeople.{EndsPlanForPeople}
use Rattle.people_commands.specs.HelpTexts.{help_text, topic_help}
use Rattle.outside_io.specs.declared.shelf.Fetch.TheVariants as fetch
use Rattle.people_words.specs.PeopleCommands as asked

-- ---- the program's own texts

-- the program's version
abbrev pub version_text : List ℕ
version_text = codes "zorgwint 1\n"

-- what is said of words that are no command
abbrev pub usage_message : List ℕ
usage_message =
    codes "these words are no command; zorgwint --help tells which are\n"
    ++ codes "usage: zorgwint plan NET [--model F] [--failures F] [--survive links] [--splits N] [--report] [--quiet]\n"
    ++ codes "       | view NET REPORT [--model F] [--failures F] [--survive links] [--csv WHAT | --state NAME] [--svg]\n"
    ++ codes "       | failures NET | help [COMMAND] | --help | --version\n"

-- what is said where memory ran out
abbrev pub memory_message : List ℕ
memory_message = codes "there is no memory left\n"

-- what is said where writing the text failed, by what the sink knows of it
abbrev pub write_message : Failed → List ℕ
write_message DiskFull = codes "writing failed: the disk is full\n"
write_message Other = codes "writing failed\n"

-- ---- commands

-- what is said of a demand of this name that is separated where nothing fails, before the planner's line of it
abbrev pub apart_words : List ℕ → List ℕ
apart_words name = codes "no path joins the ends of demand " ++ name ++ codes ", even where nothing fails\n"

-- A demand is separated where nothing fails. The message names the first such demand that has a need, and ends with the planner's line of it.
abbrev pub SaysApart : Network → List Demand → Status → List ℕ → Type 0
SaysApart net demands status message =
    (status ≡ NotSurvivable)
    × ((line : List ℕ) × (names : NamesFirstSeparation (with_states net demands []) line)
    × (message ≡ apart_words names.first.separates.demand.name ++ line))

-- The result of a failure list of a network: a demand is separated where nothing fails; or the text has the failures of exactly those links that alone
-- separate no demand, so that the network survives them all.
abbrev pub ListsFailures : Network → List Demand → Status → List ℕ → List ℕ → Type 0
ListsFailures net demands status text message =
    ((text ≡ []) × SaysApart net demands status message)
    ⊎ ((status ≡ Done) × IsFailureList net demands text × (message ≡ []))

-- The result for a file: reading it ends the run with a message, or it is the list of the network that the file spells.
abbrev pub EndsFailures : Option Files → List ℕ → Status → List ℕ → List ℕ → Type 0
EndsFailures files name status text message =
    ((text ≡ []) × FailsAtFile files input_limit name BadNetwork (ShowsNetworkFault name) status message)
    ⊎ ((net : Network) × (demands : List Demand) × Fetched files input_limit name SpellsNetwork (net, demands)
    × ListsFailures net demands status text message)

-- The result of the view of a report's file in a form, with plans for a case: fetching the file ends the run with a message, or it is the result for its
-- bytes.
abbrev pub ViewsFile : Option Files → ViewForm → List ℕ → List ℕ → Case → Notes → Status → List ℕ → List ℕ → Type 0
ViewsFile files form network name p notes status text message =
    ((text ≡ []) × FailsAtFetch files report_limit name status message)
    ⊎ ((bytes : List ℕ) × Fetches files name report_limit fetch.Found bytes × EndsReport form network name p notes bytes status text message)

-- the form of view that is asked for; a state is asked for by its name, and is the first one of that name
abbrev pub AsksForm : Case → AskedForm → ViewForm → Type 0
AsksForm p asked.Tables form = form ≡ Tables
AsksForm p (asked.Values sheet) form = form ≡ Values sheet
AsksForm p (asked.State name) form = NamesState p.listed name form
AsksForm p (asked.Picture name) form = PicturesState p.listed name form

-- a state is asked for that the case doesn't have, which ends the run with a message
abbrev pub LacksForm : Case → AskedForm → Status → List ℕ → Type 0
LacksForm p asked.Tables status message = ⊥
LacksForm p (asked.Values sheet) status message = ⊥
LacksForm p (asked.State name) status message = LacksState p.listed name status message
LacksForm p (asked.Picture name) status message = LacksState p.listed name status message

-- The result of the view that is asked for: there is no such state, or it is the view of the report's file in that form.
abbrev pub ViewsAsked : Option Files → AskedForm → List ℕ → List ℕ → Case → Notes → Status → List ℕ → List ℕ → Type 0
ViewsAsked files form network name p notes status text message =
    ((text ≡ []) × LacksForm p form status message)
    ⊎ ((shown : ViewForm) × AsksForm p form shown × ViewsFile files shown network name p notes status text message)

-- The result for files: reading one ends the run with a message, or it is the view of the report for the case that they spell.
abbrev pub EndsView : Option Files → CaseWords → List ℕ → AskedForm → Status → List ℕ → List ℕ → Type 0
EndsView files w name form = EndsAfterCase files w (ViewsAsked files form w.files.network name)

-- The result of a plan for files: reading one ends the run with a message, or it is the plan for the case that they spell.
abbrev pub EndsPeoplePlan : Option Files → AskedPlan → Status → List ℕ → List ℕ → Type 0
EndsPeoplePlan files asked = EndsAfterCase files asked.case (EndsPlanForPeople asked.case.files.network asked.splits asked.report)

-- the result of a command
abbrev pub EndsPeopleCommand : Option Files → PeopleCommand → Status → List ℕ → List ℕ → Type 0
EndsPeopleCommand files Help status text message = (status ≡ Done) × (text ≡ help_text) × (message ≡ [])
EndsPeopleCommand files (HelpOn topic) status text message = (status ≡ Done) × (text ≡ topic_help topic) × (message ≡ [])
EndsPeopleCommand files Version status text message = (status ≡ Done) × (text ≡ version_text) × (message ≡ [])
EndsPeopleCommand files (Failures network) status text message = EndsFailures files network status text message
EndsPeopleCommand files (View w report form) status text message = EndsView files w report form status text message
EndsPeopleCommand files (Plan asked) status text message = EndsPeoplePlan files asked status text message

-- ---- a run

-- The result of a run, with its whole text and message: memory runs out, which needs no cause; or the words are no command; or they are one.
abbrev pub EndsForPeople : List (String Global) → Option Files → Status → List ℕ → List ℕ → Type 0
EndsForPeople words files status text message =
    ((status ≡ NoMemory) × (text ≡ []) × (message ≡ memory_message))
    ⊎ ((status ≡ BadWords) × ((c : PeopleCommand) → IsPeopleCommand words c → ⊥) × (text ≡ []) × (message ≡ usage_message))
    ⊎ ((c : PeopleCommand) × IsPeopleCommand words c × EndsPeopleCommand files c status text message)

-- the sink of messages takes the message whole, or it counts a fault and takes a prefix
abbrev pub TellsBeside : {E : Type 0} → (E → Option (List ℕ)) → (E → ℕ) → List ℕ → E → E → Type 0
TellsBeside taken faults message old new =
    Takes (taken old) (taken new) message
    ⊎ (Rose (faults old) (faults new) × TakesPrefix (taken old) (taken new) message)

-- The sink takes the whole text, the sink of messages takes the message, and the status stays. Or writing the text fails: the sink counts it and takes a
-- prefix, and the sink of messages is told so.
abbrev pub PutsBoth : {K E : Type 0} → (K → Option (List ℕ)) → (K → ℕ) → (E → Option (List ℕ)) → (E → ℕ)
    → Status → List ℕ → List ℕ → Status → K → K → E → E → Type 0
PutsBoth taken faults told told_faults status text message result old new before after =
    ((result ≡ status) × Takes (taken old) (taken new) text × TellsBeside told told_faults message before after)
    ⊎ ((result ≡ WriteFault) × (status ≡ Done) × Rose (faults old) (faults new) × TakesPrefix (taken old) (taken new) text
    × (fault : Failed) × TellsBeside told told_faults (write_message fault) before after)
