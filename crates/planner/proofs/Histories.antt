-- histories, and the boards that they leave
use Rattle.std.proofs.Common.{◌≡◌, ℕ, ◌+◌, ◌^◌, ◌≤◌, List, [], ◌∷◌, ◌++◌, Bool, true, false, Option, Some, None, cond, length, map, refl, ap, arith, nat_le, nat_lt, not, ◌&&◌}
use Rattle.net_core.proofs.Library.{∥∥₁_elim, props, length-map}
use Rattle.plan_terms.specs.Terms.{Demand, Edit, Set, Add, Drop, Entry, Edited, Pooled, Reply, Accepted, UnknownDemand, KnownDemand, UnknownNode, SelfDemand, TooMany, TooMuch, Case, are_same, is_named, Answered, added, edit_reply, is_demand, next_version, node_of, set_need, total_need, version_after, within_total, without}
use Rattle.cut_pool.{specs.declared.board.Board.Board, specs.Terms.{Dated, cut_of_line, cuts_of, left_by, left_by_entry, version_left, line_of_pooled}}
pub use Rattle.plan_rounds.proofs.Lemmas.{cuts_both, get_after}

-- ---- versions

abbrev IsNext : ℕ → Answered → Type 0
IsNext v a = version_after v a.0 ≤ v + 1

cond_next : (v : ℕ) (b : Bool) (x y : Answered) → IsNext v x → IsNext v y → IsNext v (cond b x y)
cond_next v true x y one two = one
cond_next v false x y one two = two

within_next : (demands : List Demand) (v : ℕ) (new : List Demand) → IsNext v (within_total demands v new)
within_next demands v new =
    cond_next v (nat_lt (total_need new) (2 ^ 44)) (Accepted (next_version v), new) (TooMuch (total_need new), demands) (omega arith) (omega arith)

fault_next : (demands : List Demand) (v : ℕ) (new : Demand) (b : Bool) (fault : Reply) (rest : Option Reply) → version_after v fault ≡ v → IsNext v (added demands v new rest) → IsNext v (added demands v new (cond b (Some fault) rest))
fault_next demands v new true fault rest same later = omega (arith, same)
fault_next demands v new false fault rest same later = later

pub reply_next : (nodes : List (List ℕ)) (demands : List Demand) (v : ℕ) (edit : Edit) → IsNext v (edit_reply nodes demands v edit)
reply_next nodes demands v (Set name need) =
    cond_next v (is_demand name demands) (within_total demands v (set_need name need demands)) (UnknownDemand, demands) (within_next demands v (set_need name need demands)) (omega arith)
reply_next nodes demands v (Drop name) =
    cond_next v (is_demand name demands) (Accepted (next_version v), without name demands) (UnknownDemand, demands) (omega arith) (omega arith)
reply_next nodes demands v (Add name from to need) =
    let new : Demand = record { name = name; from = record { 0 = node_of nodes from }; to = record { 0 = node_of nodes to }; need = need } in
    fault_next demands v new (is_demand name demands) KnownDemand _ refl
    (fault_next demands v new (not (is_named (λ n. n) from nodes && is_named (λ n. n) to nodes)) UnknownNode _ refl
    (fault_next demands v new (are_same from to) SelfDemand _ refl
    (fault_next demands v new (nat_le 2048 (length demands)) TooMany None refl
    (within_next demands v (demands ++ new ∷ [])))))

-- each entry raises the version by at most 1
left_version : (nodes : List (List ℕ)) (d : Dated) (es : List Entry) → (left_by nodes d es).version ≤ d.version + length es
left_version nodes d [] = omega arith
left_version nodes d (Edited caller edit reply ∷ es) =
    let next = reply_next nodes d.demands d.version edit in
    let rest = left_version nodes (left_by_entry nodes d (Edited caller edit reply)) es in
    omega (arith, next, rest)
left_version nodes d (Pooled index state lengths ∷ es) = let rest = left_version nodes d es in omega (arith, rest)

pub version_few : (p : Case) (es : List Entry) → version_left p es ≤ length es
version_few p es = let h = left_version p.nodes (record { demands = p.demands; version = 0 }) es in omega (arith, h)

-- ---- the board

pub board_few : (b : Board) → length (cuts_of b.entries) ≤ 4096
board_few b = ∥∥₁_elim b.stands (hlevel props) (λ is.
    let same = ap length is.pool.cuts in
    let few = b.few_cuts in
    omega (arith, same, few, length-map b.pool line_of_pooled, length-map (map line_of_pooled b.pool) cut_of_line))
