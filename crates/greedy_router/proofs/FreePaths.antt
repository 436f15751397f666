-- a path costs as many as its links where none of them is full
use Rattle.std.proofs.Common.{◌≡◌, ℕ, zero, suc, ◌<◌, ◌^◌, ◌≤◌, All, List, [], ◌∷◌, MatchOption, Option, None, Some, get_or, length, map, ⊎_elim, subst, sym, arith}
use Rattle.net_core.proofs.Library.{AllByRecursion, cases_lt, All-from_recursion, All-map, recursion_from_All, get_or-map, get_or_past, few_nodes}
use Rattle.plan_terms.{specs.Terms.{LinkId, IsNetwork, Graph, Joins, length_of}, proofs.Lemmas.{path_links_inside, path_few, joins_inside}}
use Rattle.short_paths.{specs.PricedPaths.IsPricedPath, specs.declared.priced_paths.PricedPath.PricedPath}
use Rattle.greedy_router.{specs.Blocked.IsBlocked, specs.inner.FullLinks.{IsOpenPath, full_price}}

open_price : (s : ℕ) → 0 < s → full_price s ≡ 1
open_price zero some = absurd (omega (arith, some))
open_price (suc s) some = omega arith

some_left : (s : ℕ) → full_price s < 2 ^ 32 → (0 < s) × (full_price s ≡ 1)
some_left zero cheap = absurd (omega (arith, cheap))
some_left (suc s) cheap = (omega arith, omega arith)

low_price : (s : ℕ) → full_price s < 2 ^ 62
low_price zero = omega arith
low_price (suc s) = omega arith

priced_at : (spares : List ℕ) (e : ℕ) → e < length spares → get_or (map full_price spares) e 0 ≡ full_price (get_or spares e 0)
priced_at spares e lt = get_or-map full_price spares e 0 0 lt

-- a path that costs less than a full link has none, and costs 1 a link
cheap_links : (spares : List ℕ) (es : List LinkId) → AllByRecursion (λ e. e.0 < length spares) es → length_of (map full_price spares) es < 2 ^ 32
    → AllByRecursion (λ e. 0 < get_or spares e.0 0) es × (length_of (map full_price spares) es ≡ length es)
cheap_links spares [] known cheap = (tt, omega arith)
cheap_links spares (e ∷ es) known cheap =
    let first = some_left (get_or spares e.0 0) (omega (arith, cheap, priced_at spares e.0 known.0)) in
    let others = cheap_links spares es known.1 (omega (arith, cheap)) in
    ((first.0, others.0), omega (arith, first.1, priced_at spares e.0 known.0, others.1))

open_at : (spares : List ℕ) (e : ℕ) → 0 < get_or spares e 0 → get_or (map full_price spares) e 0 ≡ 1
open_at spares e some = ⊎_elim
    (λ lt. omega (arith, priced_at spares e lt, open_price (get_or spares e 0) some))
    (λ past. absurd (omega (arith, some, get_or_past spares e 0 past)))
    (cases_lt e (length spares))

open_links : (spares : List ℕ) (es : List LinkId) → AllByRecursion (λ e. 0 < get_or spares e.0 0) es → length_of (map full_price spares) es ≡ length es
open_links spares [] some = omega arith
open_links spares (e ∷ es) some = omega (arith, open_at spares e.0 some.0, open_links spares es some.1)

-- a price is small
pub low_prices : (spares : List ℕ) → All (λ p. p < 2 ^ 62) (map full_price spares)
low_prices spares = All-map (λ p. p < 2 ^ 62) full_price spares (λ k d lt. low_price (get_or spares k d))

-- a cheapest path has the fewest links that aren't full, or each path has a full link
pub opened : (g : Graph) (spares : List ℕ) (a b : ℕ) (p : PricedPath) (r : Option (List LinkId)) → ∥ IsNetwork g.nodes g.links ∥₁ → a < length g.nodes → length spares ≡ length g.links
    → IsPricedPath (Joins g) (map full_price spares) a b p
    → MatchOption r (2 ^ 32 ≤ p.total) (λ path. (p.total < 2 ^ 32) × (path ≡ p.path))
    → MatchOption r (IsBlocked (Joins g) (λ e. 0 < get_or spares e 0) a b) (IsOpenPath (Joins g) spares a b)
opened g spares a b p None checked inside same priced is = λ es q room.
    let links = open_links spares es (recursion_from_All (λ (e : LinkId). 0 < get_or spares e.0 0) es room) in
    let short = path_few (Joins g) (length g.nodes) (λ e x y j. (joins_inside g e x y checked j).1) a b inside es q in
    omega (arith, is, priced.least es q, links, short, few_nodes g.nodes g.links checked)
opened g spares a b p (Some path) checked inside same priced is =
    let known = subst (λ n. AllByRecursion (λ (e : LinkId). e.0 < n) p.path) (sym same) (path_links_inside g a b p.path priced.path) in
    let cheap = cheap_links spares p.path known (omega (arith, priced.total, is.0)) in
    subst (IsOpenPath (Joins g) spares a b) (sym is.1)
    (record {
      leads = priced.path;
      room = All-from_recursion (λ (e : LinkId). 0 < get_or spares e.0 0) p.path cheap.0;
      fewest = λ es q room.
          let links = open_links spares es (recursion_from_All (λ (e : LinkId). 0 < get_or spares e.0 0) es room) in
          omega (arith, priced.total, priced.least es q, links, cheap.1);
    })
