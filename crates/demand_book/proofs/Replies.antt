-- the replies of edits, from what the code knows
use Rattle.std.proofs.Common.{◌≡◌, ◌≢◌, ◌<◌, ◌≤◌, ◌^◌, ℕ, true, false, List, [], length, get_or, Some, sym, ap, ◌∙◌, arith, nat_lt, position, le-ltb, lt-ltb}
use Rattle.net_core.proofs.Library.{cond-true, cond-false, false≢true, position-Some, same_is}
use Rattle.plan_terms.specs.Terms.{are_same, Demand, Set, Drop, Accepted, UnknownDemand, TooMuch, edit_reply, is_demand, next_version, set_need, total_need, within_total, without}
use Rattle.demand_book.proofs.Changed.{is_same}

too_much : (before new : List Demand) (version total : ℕ) → total_need new ≡ total → 2 ^ 44 ≤ total → within_total before version new ≡ (TooMuch total, before)
too_much before new version total sum much =
    cond-false (nat_lt (total_need new) (2 ^ 44)) (Accepted (next_version version), new) (TooMuch (total_need new), before) (le-ltb _ _ (omega (arith, sum, much)))
    ∙ ap (λ t. (TooMuch t, before)) sum

accepted : (before new after : List Demand) (version next : ℕ) → after ≡ new → next ≡ next_version version → total_need new < 2 ^ 44 → within_total before version new ≡ (Accepted next, after)
accepted before new after version next is one few =
    cond-true (nat_lt (total_need new) (2 ^ 44)) (Accepted (next_version version), new) (TooMuch (total_need new), before) (lt-ltb _ _ few)
    ∙ (ap (λ v. (Accepted v, new)) (sym one) ∙ ap (λ ds. (Accepted next, ds)) (sym is))

pub set_too_much : (nodes : List (List ℕ)) (before : List Demand) (version : ℕ) (name : List ℕ) (need total : ℕ) → is_demand name before ≡ true → total_need (set_need name need before) ≡ total → 2 ^ 44 ≤ total
    → (TooMuch total, before) ≡ edit_reply nodes before version (Set name need)
set_too_much nodes before version name need total known sum much =
    sym (cond-true (is_demand name before) (within_total before version (set_need name need before)) (UnknownDemand, before) known ∙ too_much before (set_need name need before) version total sum much)

pub set_accepted : (nodes : List (List ℕ)) (before after : List Demand) (version next : ℕ) (name : List ℕ) (need : ℕ) → is_demand name before ≡ true → after ≡ set_need name need before → next ≡ next_version version → total_need (set_need name need before) < 2 ^ 44
    → (Accepted next, after) ≡ edit_reply nodes before version (Set name need)
set_accepted nodes before after version next name need known is one few =
    sym (cond-true (is_demand name before) (within_total before version (set_need name need before)) (UnknownDemand, before) known ∙ accepted before (set_need name need before) after version next is one few)

pub drop_accepted : (nodes : List (List ℕ)) (before after : List Demand) (version next : ℕ) (name : List ℕ) → is_demand name before ≡ true → after ≡ without name before → next ≡ next_version version
    → (Accepted next, after) ≡ edit_reply nodes before version (Drop name)
drop_accepted nodes before after version next name known is one =
    sym (cond-true (is_demand name before) (Accepted (next_version version), without name before) (UnknownDemand, before) known
    ∙ (ap (λ v. (Accepted v, without name before)) (sym one) ∙ ap (λ ds. (Accepted next, ds)) (sym is)))

pub place_below : (nodes : List (List ℕ)) (name : List ℕ) (k : ℕ) → position (λ n. are_same n name) nodes ≡ Some k → k < length nodes
place_below nodes name k found = (position-Some (λ n. are_same n name) nodes k [] found).0

-- nodes of different names are at different places
pub ends_differ : (nodes : List (List ℕ)) (from to : List ℕ) (a b : ℕ) → position (λ n. are_same n from) nodes ≡ Some a → position (λ n. are_same n to) nodes ≡ Some b → are_same from to ≡ false → a ≢ b
ends_differ nodes from to a b first second other same =
    let one : get_or nodes a [] ≡ from = same_is _ _ (position-Some (λ n. are_same n from) nodes a [] first).1 in
    let two : get_or nodes b [] ≡ to = same_is _ _ (position-Some (λ n. are_same n to) nodes b [] second).1 in
    let both : from ≡ to = sym one ∙ (ap (λ k. get_or nodes k []) same ∙ two) in
    absurd (false≢true (sym other ∙ is_same from to both))
