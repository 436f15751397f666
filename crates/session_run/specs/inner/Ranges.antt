-- ranges that the types of a session's values ensure
use Rattle.std.specs.Prelude.{◌≤◌, length}
use Rattle.plan_report.specs.Terms.{Outcome, Planned, Unsurvivable}
use Rattle.net_core.specs.Limits.{name_bytes}

-- the demand that an outcome names has at most 255 bytes in its name
abbrev pub IsShortNamed : Outcome → Type 0
IsShortNamed (Planned caller serial plan) = Unit {0}
IsShortNamed (Unsurvivable caller serial version position state demand) = length demand ≤ name_bytes
