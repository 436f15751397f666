-- what of a session has run
use Rattle.std.specs.Prelude.{◌≡◌, ℕ, ◌+◌, ◌≤◌, ◌++◌, ◌&&◌, Bool, List, [], All, count_by, filter, flat_map, length, nat_le, nat_lt, Result, Ok, Err, Vec}
use Rattle.plan_terms.specs.Terms.{Entry, Edited, Pooled, Case}
use Rattle.text_kit.specs.Terms.{IsEditInForm}
use Rattle.plan_types.{specs.declared.report.Outcome.Outcome, specs.Terms.outcome_position}
use Rattle.planner.specs.Terms.{IsWorkedPool}
use Rattle.cut_pool.specs.Terms.{opening_case, cuts_of}
use Rattle.session_script.{specs.declared.script.Command.Command, specs.Terms.{IsCommandInForm, is_plan}}
use Rattle.turn_lock.specs.Passes.{Seen}
use Rattle.board_desk.{specs.declared.caller.Caller.Caller, specs.Turns.{IsAtDesk, board_made, caller_places}}
use Rattle.net_core.specs.Limits.{most_entries}
use Rattle.session_run.{specs.Transcripts.{IsOnePlan, IsPlanned, RunsFrom, acts_of, edit_asked, edit_made, outcomes_of}, specs.declared.setting.Setting.Setting, specs.declared.setting.Stop.Stop, specs.declared.setting.Stop.TheVariants.{NoMemory, Full}}

-- the command is of a caller from `low` on and below `high`
abbrev pub is_of : ℕ → ℕ → Command → Bool
is_of low high c = nat_le low c.caller && nat_lt c.caller high

-- the commands of these callers, in their order
abbrev pub commands_of : ℕ → ℕ → List Command → List Command
commands_of low high commands = filter (is_of low high) commands

-- the entry is a pooled cut, or an edit in form by a caller from 1 to 8
abbrev pub IsEntryOfCaller : Entry → Type 0
IsEntryOfCaller (Edited caller edit reply) = (1 ≤ caller) × (caller ≤ 8) × IsEditInForm edit
IsEntryOfCaller (Pooled index state lengths) = Unit {0}

-- a history with all entries its own
abbrev pub all_own : List Entry → Seen Entry
all_own entries = record { history = entries; own = entries }

-- own entries are at most as many as commands and own pooled cuts
abbrev pub AreFewOwn : Seen Entry → List Command → Type 0
AreFewOwn seen commands = length seen.own ≤ length commands + length (cuts_of seen.own)

-- These commands have run: their edits are the own edits in the history that was seen so far, and these are the outcomes of their plan
-- commands, those of each caller in the order of its commands.
pub record HaveRun (p : Case) (seen : Seen Entry) (commands : List Command) (outcomes : List Outcome) : Type 0 where
  pub edits : (caller : ℕ) → flat_map (edit_made caller) seen.own ≡ flat_map edit_asked (acts_of caller commands)
  pub runs : (caller : ℕ) → RunsFrom p seen.history caller 0 1 (acts_of caller commands) (outcomes_of caller outcomes)
  pub few : AreFewOwn seen commands
  pub count : length outcomes ≡ count_by is_plan commands
  pub entries : All IsEntryOfCaller seen.own
  pub none : commands ≡ [] → seen.own ≡ []
  pub alone : IsOnePlan commands → seen.history ≡ seen.own → All IsPlanned outcomes
      → All (λ o. outcome_position o ≡ 0) outcomes × ∥ IsWorkedPool p seen.history ∥₁

-- a caller finds no room only where the history has 65,536 entries
abbrev pub IsFullAt : List Entry → Stop → Type 0
IsFullAt seen NoMemory = Unit {0}
IsFullAt seen Full = most_entries ≤ length seen

-- the result of running these commands: they have run, or some caller has stopped, with few own entries beside pooled cuts
abbrev pub EndsRun : {A : Type 0} → Case → List Command → Seen Entry → Result (Vec Outcome A) Stop → Type 0
EndsRun p commands seen (Ok outcomes) = HaveRun p seen commands outcomes.items
EndsRun p commands seen (Err stop) = AreFewOwn seen commands × IsFullAt seen.history stop

-- the case of the board that the caller's desk was made with
abbrev pub case_made : Caller → Case
case_made caller = opening_case (board_made caller)

-- a caller at a desk whose board has the network and the states of the setting
pub record IsOfSetting (setting : Setting) (caller : Caller) : Type 0 where
  pub own : IsAtDesk caller
  pub net : (board_made caller).net.now ≡ setting.net.now
  pub states : (board_made caller).states.now ≡ setting.states.now

-- a caller of the setting with no entries of its own so far; the commands are few, and in form
pub record CanRun (setting : Setting) (caller : Caller) : Type 0 where
  pub of : IsOfSetting setting caller
  pub none : caller_places caller ≡ []
  pub few : length setting.commands.now ≤ 1000
  pub form : All IsCommandInForm setting.commands.now

-- the outcomes of two groups, one after another; or why one of them stopped, or that memory ran out
abbrev pub AreBoth : {A : Type 0} → Result (Vec Outcome A) Stop → Result (Vec Outcome A) Stop → Result (Vec Outcome A) Stop → Type 0
AreBoth (Ok one) (Ok two) (Ok all) = all.items ≡ one.items ++ two.items
AreBoth (Ok one) (Ok two) (Err stop) = stop ≡ NoMemory
AreBoth (Ok one) (Err two) (Ok all) = ⊥
AreBoth (Ok one) (Err two) (Err stop) = stop ≡ two
AreBoth (Err one) two (Ok all) = ⊥
AreBoth (Err one) two (Err stop) = stop ≡ one
