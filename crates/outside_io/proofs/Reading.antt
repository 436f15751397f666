-- how much of a file is read
use Rattle.std.{proofs.Common.{◌≡◌, ℕ, ◌+◌, List, [], ◌++◌, length, Option, Some, arith, length-append}, proofs.KnownBytes.Consumes-trans}
use Rattle.net_core.proofs.Library.{Consumes}
use Rattle.outside_io.{specs.declared.shelf.Fetch.Fetch, specs.declared.shelf.Fetch.TheVariants.{Found, Missing, TooLong, Failed, NoMemory}, specs.inner.Steps.{ReadsOnce, ConsumesUpTo}}

-- one read more, of at most one byte past the limit
pub ConsumesUpTo-once : (a b c : Option (List ℕ)) (limit left : ℕ) (answer : Fetch) (before after : List ℕ) → length before + left ≡ limit
    → Consumes a b before → ReadsOnce b c left (Some answer) before after → ConsumesUpTo (limit + 1) a c
ConsumesUpTo-once a b c limit left Found before after sum first next =
    (before ++ [], omega (arith, length-append before []), Consumes-trans a b c before [] first next.0)
ConsumesUpTo-once a b c limit left Missing before after sum first next = absurd next
ConsumesUpTo-once a b c limit left TooLong before after sum first next =
    (before ++ next.0, omega (arith, length-append before next.0), Consumes-trans a b c before next.0 first next.2)
ConsumesUpTo-once a b c limit left (Failed fault) before after sum first next =
    (before ++ next.0, omega (arith, length-append before next.0), Consumes-trans a b c before next.0 first next.2)
ConsumesUpTo-once a b c limit left NoMemory before after sum first next =
    (before ++ next.0, omega (arith, length-append before next.0), Consumes-trans a b c before next.0 first next.2)
