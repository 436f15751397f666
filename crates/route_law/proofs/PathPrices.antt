-- what a path costs at prices of the rows
use Rattle.std.proofs.Common.{◌≡◌, ℕ, Bool, true, false, ◌+◌, ◌*◌, ◌<◌, List, cond, length, slice_index, ap, ◌∙◌, arith, ℤ, pos, ◌+ℤ◌, ◌*ℤ◌}
use Rattle.net_core.proofs.Library.{*ℤ-zero, ints, below-times}
use Rattle.plan_terms.{specs.Terms.{LinkId, Graph, Joins, names_link, IsPath, length_of}, proofs.Lemmas.{path_links_inside, path_links_differ, links_length}}
use Rattle.simplex_law.{specs.Terms.{int_sum, dot, unit_vector}, proofs.Lemmas.{sum-same, sum-unit, sum-split}}
use Rattle.route_law.{specs.RoutingPrograms.{beside, path_entry}, proofs.Rows.{beside_first, beside_after, sum-pos}}

-- a path costs its length under the link prices, and its demand's price
pub path_price : (g : Graph) (q : ℕ) (duals : ℕ → ℤ) (factor : ℕ) (lengths : List ℕ) → ((e : ℕ) → e < length g.links → duals e ≡ pos (factor * slice_index lengths e))
    → (k a b : ℕ) (es : List LinkId) → k < q → IsPath (Joins g) a b es
    → dot (length g.links + q) duals (path_entry g k es) ≡ pos (factor * length_of lengths es) +ℤ duals (length g.links + k)
path_price g q duals factor lengths same k a b es inside path =
    let n = length g.links in
    let f : ℕ → ℤ = λ e. cond (names_link e es) (pos 1) (pos 0) in
    let on : ℕ → ℕ = λ e. cond (names_link e es) (slice_index lengths e) 0 in
    let first : int_sum n (λ i. duals i *ℤ beside n f (unit_vector k) i) ≡ pos (factor * length_of lengths es) =
    sum-same n _ (λ e. pos (factor * on e)) (λ e l. ap (λ x. duals e *ℤ x) (beside_first n f (unit_vector k) e l) ∙ (ap (λ x. x *ℤ f e) (same e l) ∙ one factor (slice_index lengths e) (names_link e es)))
    ∙ (sum-pos n (λ e. factor * on e) ∙ ap pos (below-times n factor on ∙ ap (λ x. factor * x) (links_length n lengths es (path_links_differ g a b es path) (path_links_inside g a b es path)))) in
    let second : int_sum q (λ i. duals (n + i) *ℤ beside n f (unit_vector k) (n + i)) ≡ duals (n + k) =
    sum-same q _ (λ i. duals (n + i) *ℤ unit_vector k i) (λ i l. ap (λ x. duals (n + i) *ℤ x) (beside_after n f (unit_vector k) i))
    ∙ sum-unit q k (λ i. duals (n + i)) inside in
    sum-split n q (λ i. duals i *ℤ beside n f (unit_vector k) i) ∙ (ap (λ x. x +ℤ int_sum q (λ i. duals (n + i) *ℤ beside n f (unit_vector k) (n + i))) first ∙ ap (λ x. pos (factor * length_of lengths es) +ℤ x) second)
  where
    one : (c l : ℕ) (b : Bool) → pos (c * l) *ℤ cond b (pos 1) (pos 0) ≡ pos (c * cond b l 0)
    one c l true = omega (arith, ints)
    one c l false = *ℤ-zero (pos (c * l)) ∙ ap pos (omega arith)
