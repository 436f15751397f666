-- a sink that takes nothing
use Rattle.std.proofs.Common.{ℕ, List, [], Option, None, Some, refl, ap, sym, append-nil}
use Rattle.outside_io.specs.Outside.{Takes}

-- what a sink has taken, with nothing more
pub takes_nothing : (taken : Option (List ℕ)) → Takes taken taken []
takes_nothing None = refl
takes_nothing (Some bytes) = ap Some (sym (append-nil bytes))
