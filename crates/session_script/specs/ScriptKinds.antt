-- how the kinds of faults are written
use Rattle.std.specs.Prelude.{ℕ, List, codes}
use Rattle.text_kit.specs.Terms.{number_word}
use Rattle.session_script.{specs.declared.fault.ScriptKind.ScriptKind, specs.declared.fault.ScriptKind.TheVariants.{Header, Token, Ended, Caller, Number, LimitName, LimitCommands, LimitPlans}}

-- the word of each kind
abbrev pub script_kind_word : ScriptKind → List ℕ
script_kind_word Header = codes "header"
script_kind_word Token = codes "token"
script_kind_word Ended = codes "ended"
script_kind_word Caller = codes "caller"
script_kind_word (Number fault) = number_word fault
script_kind_word LimitName = codes "limit-name"
script_kind_word LimitCommands = codes "limit-commands"
script_kind_word LimitPlans = codes "limit-plans"
