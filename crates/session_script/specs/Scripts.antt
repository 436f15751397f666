-- the grammar of a script: commands one after another, each of a caller
use Rattle.std.specs.Prelude.{ℕ, ◌≤◌, Bool, true, false, List, [], ◌∷◌, length, All, flat_map, count_by, codes}
use Rattle.net_core.specs.declared.places.Places.{Places}
use Rattle.text_kit.specs.Terms.{IsEditInForm, edit_items, SpellsAs, Item, Verbatim, Whole}
use Rattle.session_script.{specs.declared.script.Act.Act, specs.declared.script.Act.TheVariants.{Change, Plan}, specs.declared.script.Command.Command, specs.declared.script.Script.Script}

-- the first line of a script
abbrev pub script_header : List ℕ
script_header = codes "?planner script; version: 1"

-- the command asks for a plan
abbrev pub asks_plan : Act → Bool
asks_plan (Change edit) = false
asks_plan Plan = true

abbrev pub is_plan : Command → Bool
is_plan c = asks_plan c.act

-- an edit, or the one word for a plan
abbrev pub act_items : Places → Act → List Item
act_items p (Change edit) = edit_items p edit
act_items p Plan = Verbatim (codes "plan") ∷ []

-- a command: its word, its caller, and what it asks for
abbrev pub command_items : Places → Command → List Item
command_items p c = Verbatim (codes "caller") ∷ Whole c.caller ∷ act_items p c.act

-- an edit is in form, and a plan asks for nothing
abbrev pub IsActInForm : Act → Type 0
IsActInForm (Change edit) = IsEditInForm edit
IsActInForm Plan = Unit {0}

-- a command of a caller from 1 to 8
pub record IsCommandInForm (c : Command) : Type 0 where
  pub some : 1 ≤ c.caller
  pub most : c.caller ≤ 8
  pub act : IsActInForm c.act

-- at most 1,000 commands, and 64 that ask for a plan
pub record IsScript (commands : List Command) : Type 0 where
  pub few : length commands ≤ 1000
  pub plans : count_by is_plan commands ≤ 64
  pub each : All IsCommandInForm commands

-- the script of commands
abbrev pub script_of_commands : List Command → Script
script_of_commands commands = record { commands = commands }

-- the bytes of a file spell this script, with needs to p places
abbrev pub SpellsScript : Places → List ℕ → Script → Type 0
SpellsScript p bytes script = SpellsAs script_header (flat_map (command_items p)) IsScript script_of_commands bytes script
