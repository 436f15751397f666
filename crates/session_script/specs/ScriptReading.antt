-- Reading a script from left to right: the tests of its words, and their order.
use Rattle.std.specs.Prelude.{ℕ, Bool, nat_lt, ◌&&◌, if◌then◌else◌, List, [], length, count_by, Result, Ok, Err, codes}
use Rattle.net_core.{specs.Terms.are_same, specs.declared.places.Places.Places}
use Rattle.snd_tokens.{specs.declared.whole_number.WholeFault.WholeFault, specs.Terms.{amount_of, whole_of}}
use Rattle.text_kit.specs.Terms.{file_at, any_name, number_or, Read, Reading, ◌>>=◌, give, word_at, open_at, close_at, TheEnd, list_at, mapped, no_fault}
use Rattle.session_script.{specs.declared.fault.ScriptKind.ScriptKind, specs.declared.fault.ScriptKind.TheVariants.{Header, Token, Ended, Caller, Number, LimitName, LimitCommands, LimitPlans}, specs.declared.script.Act.Act, specs.declared.script.Act.TheVariants.{Change, Plan}, specs.declared.script.Command.Command, specs.declared.script.Script.Script, specs.declared.script.Verb.Verb, specs.Scripts.{script_header, is_plan, script_of_commands}}
use Rattle.net_core.specs.declared.journal.Edit.TheVariants as edits
use Rattle.session_script.specs.declared.script.Verb.TheVariants as verbs

-- ---- what a word says

-- the word of a command, after earlier ones
abbrev pub begun_command : List Command → List ℕ → Result (Unit {0}) ScriptKind
begun_command sofar w =
    if are_same w (codes "caller") then (if nat_lt (length sofar) 1000 then Ok tt else Err LimitCommands) else Err Token

-- a whole number as a caller
abbrev pub caller_within : Result ℕ WholeFault → Result ℕ ScriptKind
caller_within (Ok n) = if nat_lt 0 n && nat_lt n 9 then Ok n else Err Caller
caller_within (Err fault) = Err Caller

-- a caller
abbrev pub caller_of : List ℕ → Result ℕ ScriptKind
caller_of w = caller_within (whole_of w)

-- what a word asks for
abbrev pub verb_of : List ℕ → Result Verb ScriptKind
verb_of w =
    if are_same w (codes "set") then Ok verbs.Set
    else (if are_same w (codes "add") then Ok verbs.Add
    else (if are_same w (codes "drop") then Ok verbs.Drop
    else (if are_same w (codes "plan") then Ok verbs.Plan else Err Token)))

-- a plan after fewer than 64 others, or an edit
abbrev pub verb_within : Bool → Result Verb ScriptKind → Result Verb ScriptKind
verb_within room (Ok verbs.Plan) = if room then Ok verbs.Plan else Err LimitPlans
verb_within room verb = verb

-- what a word asks for after earlier commands
abbrev pub verb_after : List Command → List ℕ → Result Verb ScriptKind
verb_after sofar w = verb_within (nat_lt (count_by is_plan sofar) 64) (verb_of w)

-- a need, in units of the network
abbrev pub need_in_script : Places → List ℕ → Result ℕ ScriptKind
need_in_script p w = number_or Number (amount_of p w)

-- ---- the order of words

-- what comes after the word that says what is asked for
unfoldable pub act_at : Places → Verb → Reading ScriptKind Act
act_at p verbs.Set = do
  name ← word_at Token Ended (any_name LimitName)
  need ← word_at Token Ended (need_in_script p)
  give (Change (edits.Set name need))
act_at p verbs.Add = do
  name ← word_at Token Ended (any_name LimitName)
  _ ← open_at Token Ended
  from ← word_at Token Ended (any_name LimitName)
  to ← word_at Token Ended (any_name LimitName)
  _ ← close_at Token Ended
  need ← word_at Token Ended (need_in_script p)
  give (Change (edits.Add name from to need))
act_at p verbs.Drop = do
  name ← word_at Token Ended (any_name LimitName)
  give (Change (edits.Drop name))
act_at p verbs.Plan = give Plan

-- a command after earlier ones
unfoldable pub command_at : Places → List Command → Reading ScriptKind Command
command_at p sofar = do
  _ ← word_at Token Ended (begun_command sofar)
  caller ← word_at Token Ended caller_of
  verb ← word_at Token Ended (verb_after sofar)
  act ← act_at p verb
  give (record { caller = caller; act = act })

-- a whole file: its script, or its first fault by place
abbrev pub script_of : Places → List ℕ → Read ScriptKind Script
script_of p bytes = file_at Header script_header (mapped script_of_commands (list_at TheEnd no_fault (command_at p) [])) bytes
