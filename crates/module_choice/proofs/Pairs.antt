-- two lists taken together, so far and with the next elements
use Rattle.std.proofs.Common.{◌≡◌, ℕ, zero, suc, ◌+◌, ◌*◌, ◌<◌, ◌≤◌, List, [], ◌∷◌, ◌++◌, get_or, length, refl, ◌∙◌, ap, arith, take, map, sum_by, zip, add-one, take_all}
use Rattle.net_core.proofs.Library.{length-map, map-append, sum_by-append, length-zip}
use Rattle.plan_terms.specs.Terms.{Module, Link, AreCounts, capacities, link_cost, modules_capacity, modules_cost, total_cost}

zip_suc : {A B : Type 0} → (xs : List A) (ys : List B) (i : ℕ) (x : A) (y : B) → i < length xs → i < length ys → zip (take (suc i) xs) (take (suc i) ys) ≡ zip (take i xs) (take i ys) ++ (get_or xs i x, get_or ys i y) ∷ []
zip_suc [] ys i x y a b = absurd (omega arith)
zip_suc (p ∷ xs) [] i x y a b = absurd (omega arith)
zip_suc (p ∷ xs) (q ∷ ys) zero x y a b = refl
zip_suc (p ∷ xs) (q ∷ ys) (suc i) x y a b = ap (λ rest. (p, q) ∷ rest) (zip_suc xs ys i x y (omega arith) (omega arith))

pub zip_more : {A B : Type 0} → (xs : List A) (ys : List B) (i : ℕ) (x : A) (y : B) → i < length xs → i < length ys → zip (take (i + 1) xs) (take (i + 1) ys) ≡ zip (take i xs) (take i ys) ++ (get_or xs i x, get_or ys i y) ∷ []
zip_more xs ys i x y a b = rw add-one (zip_suc xs ys i x y a b)

-- the cost with the next kind of module
pub cost_more : (ms : List Module) (cs : List ℕ) (i : ℕ) (d : Module) → i < length ms → i < length cs → modules_cost (take (i + 1) ms) (take (i + 1) cs) ≡ modules_cost (take i ms) (take i cs) + (get_or ms i d).cost * get_or cs i 0
cost_more ms cs i d a b =
    let both = ap (λ ps. sum_by (λ (p : Module × ℕ). p.0.cost * p.1) ps) (zip_more ms cs i d 0 a b) in
    let parts = sum_by-append (λ (p : Module × ℕ). p.0.cost * p.1) (zip (take i ms) (take i cs)) ((get_or ms i d, get_or cs i 0) ∷ []) in
    omega (arith, both, parts)

-- the cost with the next link
pub total_more : (links : List Link) (counts : List (List ℕ)) (i : ℕ) (d : Link) (c : List ℕ) → i < length links → i < length counts → total_cost (take (i + 1) links) (take (i + 1) counts) ≡ total_cost (take i links) (take i counts) + link_cost (get_or links i d) (get_or counts i c)
total_more links counts i d c a b =
    let both = ap (λ ps. sum_by (λ (p : Link × List ℕ). link_cost p.0 p.1) ps) (zip_more links counts i d c a b) in
    let parts = sum_by-append (λ (p : Link × List ℕ). link_cost p.0 p.1) (zip (take i links) (take i counts)) ((get_or links i d, get_or counts i c) ∷ []) in
    omega (arith, both, parts)

-- the capacity with the next kind of module
pub capacity_more : (ms : List Module) (cs : List ℕ) (i : ℕ) (d : Module) → i < length ms → i < length cs → modules_capacity (take (i + 1) ms) (take (i + 1) cs) ≡ modules_capacity (take i ms) (take i cs) + (get_or ms i d).capacity * get_or cs i 0
capacity_more ms cs i d a b =
    let both = ap (λ ps. sum_by (λ (p : Module × ℕ). p.0.capacity * p.1) ps) (zip_more ms cs i d 0 a b) in
    let parts = sum_by-append (λ (p : Module × ℕ). p.0.capacity * p.1) (zip (take i ms) (take i cs)) ((get_or ms i d, get_or cs i 0) ∷ []) in
    omega (arith, both, parts)

-- the capacities with that of the next link
pub capacities_more : (links : List Link) (counts : List (List ℕ)) (i : ℕ) (d : Link) (c : List ℕ) → i < length links → i < length counts → capacities (take (i + 1) links) (take (i + 1) counts) ≡ capacities (take i links) (take i counts) ++ ((get_or links i d).fixed + modules_capacity (get_or links i d).modules (get_or counts i c)) ∷ []
capacities_more links counts i d c a b =
    ap (λ ps. map (λ (p : Link × List ℕ). p.0.fixed + modules_capacity p.0.modules p.1) ps) (zip_more links counts i d c a b)
    ∙ map-append (λ (p : Link × List ℕ). p.0.fixed + modules_capacity p.0.modules p.1) (zip (take i links) (take i counts)) ((get_or links i d, get_or counts i c) ∷ [])

-- one count for each module, link by link
pub counts_long : (links : List Link) (counts : List (List ℕ)) → AreCounts links counts → length counts ≡ length links
counts_long [] [] are = refl
counts_long [] (c ∷ cs) are = absurd are
counts_long (l ∷ ls) [] are = absurd are
counts_long (l ∷ ls) (c ∷ cs) are = ap suc (counts_long ls cs are.1)

pub counts_shape : (links : List Link) (counts : List (List ℕ)) → AreCounts links counts → (i : ℕ) (l : Link) (c : List ℕ) → i < length links → length (get_or counts i c) ≡ length (get_or links i l).modules
counts_shape [] counts are i l c lt = absurd (omega arith)
counts_shape (k ∷ ks) [] are i l c lt = absurd are
counts_shape (k ∷ ks) (d ∷ ds) are zero l c lt = are.0
counts_shape (k ∷ ks) (d ∷ ds) are (suc i) l c lt = counts_shape ks ds are.1 i l c (omega arith)

-- each link has a capacity
pub capacities_long : (links : List Link) (counts : List (List ℕ)) → AreCounts links counts → length (capacities links counts) ≡ length links
capacities_long links counts are = omega (
  arith,
  length-map (zip links counts) (λ (p : Link × List ℕ). p.0.fixed + modules_capacity p.0.modules p.1),
  length-zip links counts,
  counts_long links counts are,
)

-- all links, with all their counts
pub all_taken : {X : Type 0} (f : List Link → List (List ℕ) → X) (links : List Link) (counts : List (List ℕ)) (i : ℕ) → AreCounts links counts → length links ≤ i → f (take i links) (take i counts) ≡ f links counts
all_taken f links counts i are all =
    let long = counts_long links counts are in
    ap (λ ls. f ls (take i counts)) (take_all i links all) ∙ ap (λ cs. f links cs) (take_all i counts (omega (arith, long, all)))
