-- samples that are read back
use Rattle.std.proofs.Common.{◌≡◌, ℕ, List, subst}
use Rattle.plan_terms.specs.Terms.{Demand, Link, IsSurvivable}
use Rattle.sample_net.specs.Samples.{with_single_failures}

-- what is read is the same, so no failure separates it either
pub survives_same : (nodes nodes' : List (List ℕ)) (links links' : List Link) (demands demands' : List Demand) → nodes ≡ nodes' → links ≡ links' → demands ≡ demands'
    → IsSurvivable (with_single_failures nodes links demands) → IsSurvivable (with_single_failures nodes' links' demands')
survives_same nodes nodes' links links' demands demands' a b c h =
    subst (λ n. IsSurvivable (with_single_failures n links' demands')) a
    (subst (λ l. IsSurvivable (with_single_failures nodes l demands')) b
    (subst (λ d. IsSurvivable (with_single_failures nodes links d)) c h))
