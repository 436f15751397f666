-- on a path no link appears twice
use Rattle.std.proofs.Common.{◌≡◌, ◌≢◌, ℕ, zero, suc, ◌<◌, true, eqb, List, [], ◌∷◌, get_or, length, sym, ◌∙◌, arith, AllPairs, eq-eqb}
use Rattle.net_core.proofs.Library.{false≢true, list_any_at}
use Rattle.plan_terms.{specs.Terms.{LinkId, Graph, Joins, names_link, IsPath}, proofs.Lemmas.{DistinctLinks, path_links_differ}}

differ_at : (es : List LinkId) (i j : ℕ) (d : LinkId) → DistinctLinks es → i < j → j < length es → (get_or es i d).0 ≢ (get_or es j d).0
differ_at [] i j d all lt within = absurd (omega (arith, within))
differ_at (e ∷ es) i zero d all lt within = absurd (omega (arith, lt))
differ_at (e ∷ es) zero (suc j) d all lt within = λ same.
    let named : names_link e.0 es ≡ true = list_any_at (λ (x : LinkId). eqb x.0 e.0) es j d (omega (arith, within)) (eq-eqb (get_or es j d).0 e.0 (sym same)) in
    false≢true (sym all.0 ∙ named)
differ_at (e ∷ es) (suc i) (suc j) d all lt within = differ_at es i j d all.1 (omega (arith, lt)) (omega (arith, within))

pub path_differs : (g : Graph) (a b : ℕ) (es : List LinkId) → IsPath (Joins g) a b es → AllPairs (λ x y. x.0 ≢ y.0) es
path_differs g a b es p i j d lt within = differ_at es i j d (path_links_differ g a b es p) lt within
