-- what the first of two readings answered
use Rattle.std.specs.Prelude.{Bool, false, List, Result, Ok, Err}
use Rattle.net_core.{specs.declared.demand.Demand.Demand, specs.declared.network.Network.Network}
use Rattle.text_kit.{specs.declared.refusal.Refusal.Refusal, specs.declared.refusal.Refusal.TheVariants.{Bad, NoMemory}}
use Rattle.sndlib_reader.{specs.declared.fault.ReadKind.ReadKind, specs.NetworkFiles.is_too_fine}

-- it refused a number that has too many places
abbrev pub was_too_fine : Result (Network × List Demand) (Refusal ReadKind) → Bool
was_too_fine (Ok x) = false
was_too_fine (Err (Bad at kind)) = is_too_fine kind
was_too_fine (Err NoMemory) = false
