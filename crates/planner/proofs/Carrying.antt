-- the fallback plan's counts carry the demands
use Rattle.std.proofs.Common.{ℕ, List, arith}
use Rattle.plan_terms.specs.Terms.{Routing, Case, IsAble, IsFallback}
use Rattle.net_core.proofs.Lists.{get_some}

pub able : (p : Case) (counts : List (List ℕ)) (routings : List Routing) (cost : ℕ) → IsFallback p counts routings cost → IsAble p counts
able p counts routings cost f = record {
  shape = f.shape;
  each = λ s inside.
      let r = get_some routings s (omega (arith, f.states, inside)) in
      record { routing = r.0; carries = f.carries s r.0 r.1 };
}
