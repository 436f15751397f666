-- commands that change the demands
use Rattle.std.specs.Prelude.{Bool, not}
use Rattle.session_script.{specs.declared.script.Command.Command, specs.Terms.is_plan}

-- the command changes the demands
abbrev pub is_change : Command → Bool
is_change c = not (is_plan c)
