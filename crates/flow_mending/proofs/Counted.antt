-- routings that are counted carry the demands
use Rattle.std.proofs.Common.{◌≡◌, ℕ, ◌+◌, ◌≤◌, ◌<◌, List, All, get_or, length, take, subst, take_all}
use Rattle.net_core.proofs.Library.{◌∣◌, All-more, eq-one_of_dvd-one}
use Rattle.plan_terms.specs.Terms.{Routing}
use Rattle.route_law.specs.Terms.{IsLowestRouting}
use Rattle.flow_router.specs.Lowest.{IsCommonDivisor}

-- what holds of the first ones and of the next
pub all_next : {X : Type 0} (P : X → Type 0) (xs : List X) (i : ℕ) (x : X) → i < length xs → x ≡ get_or xs i x → All P (take i xs) → P x → All P (take (i + 1) xs)
all_next P xs i x lt at all here = All-more P xs i x lt all (subst P at here)

-- what holds of as many as there are
pub all_taken : {X : Type 0} (P : X → Type 0) (xs : List X) (n : ℕ) → length xs ≤ n → All P (take n xs) → All P xs
all_taken P xs n enough all = subst (All P) (take_all n xs enough) all

-- a routing whose greatest common divisor is 1
pub lowest_from : (r : Routing) (common : ℕ) → IsCommonDivisor r.den r.flows common → common ≡ 1 → IsLowestRouting r
lowest_from r common divisor one d of_den all = eq-one_of_dvd-one (subst (λ n. d ∣ n) one (divisor.greatest d of_den all))
