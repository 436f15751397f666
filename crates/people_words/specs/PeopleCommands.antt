-- commands for people, and the words that give them
use Rattle.std.{specs.Prelude.{◌≡◌, ◌≢◌, ◌≤◌, ℕ, ◌⊎◌, Bool, true, false, List, [], ◌∷◌, Option, None, Some, String, codes, is_some, length, map, string_bytes}, specs.Global.Global, specs.Str.Parse.{IsNumeral, digits_value}}
use Rattle.people_files.{specs.Terms.default, specs.CaseInputs.CaseWords}
use Rattle.plan_view.{specs.declared.sheet.Sheet.Sheet, specs.declared.sheet.Sheet.TheVariants.{Links, States, Flows}}
use Rattle.people_words.{specs.declared.words.HelpTopic.HelpTopic, specs.GivenWords.{AreRead, GivenOption, TakesOptions, value_given}}
use Rattle.people_words.specs.declared.words.HelpTopic.TheVariants as topics

-- what a plan is asked for: the case of these files, how many splits its branch tree has at most where somebody says, whether the report is to be
-- printed and not its view, and whether nothing is to be told on the way
pub record AskedPlan : Type 0 where
  pub case : CaseWords
  pub splits : Option ℕ
  pub report : Bool
  pub quiet : Bool

-- the form of a view: tables, a sheet, the state of this name, or a picture of it
pub data AskedForm : Type 0 where
  Tables : AskedForm
  Values : Sheet → AskedForm
  State : List ℕ → AskedForm
  Picture : List ℕ → AskedForm

-- how the program is used, how one of its commands is, which version it is, the failure list of a network's file, the view of the report
-- in a file, of plans for the case of other files, in a form, or a plan
pub data PeopleCommand : Type 0 where
  Help : PeopleCommand
  HelpOn : HelpTopic → PeopleCommand
  Version : PeopleCommand
  Failures : List ℕ → PeopleCommand
  View : CaseWords → List ℕ → AskedForm → PeopleCommand
  Plan : AskedPlan → PeopleCommand

-- ---- what words name

-- the word names this file: a minus is standard input
abbrev pub NamesFile : List ℕ → List ℕ → Type 0
NamesFile word file = ((word ≡ codes "-") × (file ≡ codes "/dev/stdin")) ⊎ ((word ≢ codes "-") × (file ≡ word))

-- the value of an option names this file; without the option it is in no file
abbrev pub NamesOption : Option (List ℕ) → List ℕ → Type 0
NamesOption None file = file ≡ default
NamesOption (Some word) file = NamesFile word file

-- whether each single link's failure is to be survived, for which no failure list is named, and the file of the list
abbrev pub NamesSurvival : Option (List ℕ) → Option (List ℕ) → Bool → List ℕ → Type 0
NamesSurvival None failures survived file = (survived ≡ false) × NamesOption failures file
NamesSurvival (Some word) failures survived file = (word ≡ codes "links") × (failures ≡ None) × (survived ≡ true) × (file ≡ default)

-- a network's word and the options `--model`, `--failures` and `--survive` name the files of this case
abbrev pub NamesCase : List ℕ → List GivenOption → CaseWords → Type 0
NamesCase network options w =
    NamesFile network w.files.network
    × NamesOption (value_given options (codes "--model")) w.files.model
    × NamesSurvival (value_given options (codes "--survive")) (value_given options (codes "--failures")) w.survive w.files.failures

-- one to four digits, which write this number of splits
pub record IsSplitsWord (word : List ℕ) (n : ℕ) : Type 0 where
  pub numeral : IsNumeral 10 word
  pub short : length word ≤ 4
  pub value : digits_value 10 word ≡ n

-- the value of `--splits` writes this number, and without the option nobody says one
abbrev pub NamesSplits : Option (List ℕ) → Option ℕ → Type 0
NamesSplits None splits = splits ≡ None
NamesSplits (Some word) splits = (n : ℕ) × (splits ≡ Some n) × IsSplitsWord word n × (n ≤ 9999)

-- the word names this sheet
abbrev pub NamesSheet : List ℕ → Sheet → Type 0
NamesSheet word Links = word ≡ codes "links"
NamesSheet word States = word ≡ codes "states"
NamesSheet word Flows = word ≡ codes "flows"

-- The value of `--csv` names the sheet of this form, or that of `--state` its state; both aren't given, and with neither it is that of tables.
abbrev pub NamesForm : Option (List ℕ) → Option (List ℕ) → AskedForm → Type 0
NamesForm None None form = form ≡ Tables
NamesForm (Some word) None form = (sheet : Sheet) × (form ≡ Values sheet) × NamesSheet word sheet
NamesForm None (Some name) form = form ≡ State name
NamesForm (Some word) (Some name) form = ⊥

-- the form is a picture of the state that the value of `--state` names, and without the option of the one without failures
abbrev pub NamesPicture : Option (List ℕ) → AskedForm → Type 0
NamesPicture None form = form ≡ Picture (codes "none")
NamesPicture (Some name) form = form ≡ Picture name

-- With `--svg` the form is a picture, for which no sheet is named; without it, it is what `--csv` and `--state` name.
abbrev pub NamesAnyForm : Option (List ℕ) → Option (List ℕ) → Option (List ℕ) → AskedForm → Type 0
NamesAnyForm None csv state form = NamesForm csv state form
NamesAnyForm (Some flag) csv state form = (csv ≡ None) × NamesPicture state form

-- the options of a view name this form
abbrev pub NamesViewForm : List GivenOption → AskedForm → Type 0
NamesViewForm options form =
    NamesAnyForm (value_given options (codes "--svg")) (value_given options (codes "--csv")) (value_given options (codes "--state")) form

-- ---- commands

-- the options of a view
abbrev pub view_options : List (List ℕ)
view_options = codes "--model" ∷ codes "--failures" ∷ codes "--survive" ∷ codes "--csv" ∷ codes "--state" ∷ codes "--svg" ∷ []

-- the options of a plan
abbrev pub plan_options : List (List ℕ)
plan_options = codes "--model" ∷ codes "--failures" ∷ codes "--survive" ∷ codes "--splits" ∷ codes "--report" ∷ codes "--quiet" ∷ []

-- the word names this command, of which help is asked for
abbrev pub NamesTopic : List ℕ → HelpTopic → Type 0
NamesTopic word topics.Plan = word ≡ codes "plan"
NamesTopic word topics.View = word ≡ codes "view"
NamesTopic word topics.Failures = word ≡ codes "failures"
NamesTopic word topics.Help = word ≡ codes "help"

-- one word is this command
abbrev pub IsLoneWord : List ℕ → PeopleCommand → Type 0
IsLoneWord word Help = (word ≡ codes "help") ⊎ (word ≡ codes "--help")
IsLoneWord word (HelpOn topic) = ⊥
IsLoneWord word Version = word ≡ codes "--version"
IsLoneWord word (Failures network) = ⊥
IsLoneWord word (View w report form) = ⊥
IsLoneWord word (Plan asked) = ⊥

-- a network's word and options ask for this plan
abbrev pub AsksPlan : List ℕ → List GivenOption → AskedPlan → Type 0
AsksPlan network options asked =
    NamesCase network options asked.case
    × NamesSplits (value_given options (codes "--splits")) asked.splits
    × (asked.report ≡ is_some (value_given options (codes "--report")))
    × (asked.quiet ≡ is_some (value_given options (codes "--quiet")))

-- a command's name, a word after it and options are this command
abbrev pub IsOfWord : List ℕ → List ℕ → List GivenOption → PeopleCommand → Type 0
IsOfWord name word options Help = ⊥
IsOfWord name word options (HelpOn topic) = (name ≡ codes "help") × TakesOptions [] options × NamesTopic word topic
IsOfWord name word options Version = ⊥
IsOfWord name word options (Failures network) = (name ≡ codes "failures") × TakesOptions [] options × NamesFile word network
IsOfWord name word options (View w report form) = ⊥
IsOfWord name word options (Plan asked) = (name ≡ codes "plan") × TakesOptions plan_options options × AsksPlan word options asked

-- a network, a report and options are this view
abbrev pub IsViewOf : List ℕ → List ℕ → List GivenOption → PeopleCommand → Type 0
IsViewOf network word options Help = ⊥
IsViewOf network word options (HelpOn topic) = ⊥
IsViewOf network word options Version = ⊥
IsViewOf network word options (Failures file) = ⊥
IsViewOf network word options (View w report form) = NamesCase network options w × NamesViewForm options form × NamesFile word report
IsViewOf network word options (Plan asked) = ⊥

-- a command's name, a network and a report, which aren't both standard input, and options are this command
abbrev pub IsOfReport : List ℕ → List ℕ → List ℕ → List GivenOption → PeopleCommand → Type 0
IsOfReport name network word options c =
    (name ≡ codes "view") × TakesOptions view_options options × ((network ≡ codes "-") × (word ≡ codes "-") → ⊥)
    × IsViewOf network word options c

-- names and options are this command
abbrev pub IsOfParts : List (List ℕ) → List GivenOption → PeopleCommand → Type 0
IsOfParts (name ∷ word ∷ []) options c = IsOfWord name word options c
IsOfParts (name ∷ network ∷ report ∷ []) options c = IsOfReport name network report options c
IsOfParts _ options c = ⊥

-- the words are read as names and options that are this command
abbrev pub IsGiven : List (List ℕ) → PeopleCommand → Type 0
IsGiven words c = (names : List (List ℕ)) × (options : List GivenOption) × AreRead None words names options × IsOfParts names options c

-- the words are this command
abbrev pub ArePeopleWords : List (List ℕ) → PeopleCommand → Type 0
ArePeopleWords (word ∷ []) c = IsLoneWord word c
ArePeopleWords words c = IsGiven words c

-- the words are those of the command
abbrev pub IsPeopleCommand : List (String Global) → PeopleCommand → Type 0
IsPeopleCommand words c = ArePeopleWords (map string_bytes words) c
