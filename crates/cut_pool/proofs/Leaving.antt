-- the share of a name, and edits of it
use Rattle.std.proofs.Common.{◌≡◌, ◌∙◌, ℕ, ◌^◌, Bool, true, false, cond, not, List, [], ◌∷◌, ◌++◌, get_or, sum_by, Option, None, Some, refl, sym, ap, arith, nat_lt, position, append-nil}
use Rattle.net_core.proofs.Library.{cond-false, cond-true, cond_both, not_from_false, not_from_true, filter-append, sum_by-remove}
use Rattle.plan_terms.specs.Terms.{Demand, Edit, Add, Drop, Set, Reply, Accepted, TooMuch, UnknownDemand, AreDemands, are_same, Answered, add_fault, added, edit_reply, is_demand, next_version, node_of, set_need, total_need, within_total, without}
use Rattle.metric_cut.specs.inner.Rights.{part_of}
use Rattle.demand_book.proofs.Changed.{all_kept, alone, is_same, remove_is}
use Rattle.cut_pool.{specs.declared.shares.DemandShare.DemandShare, specs.inner.Shares.{IsShareIn, edit_name}, proofs.Places.passes_nowhere}

-- the share of a demand
abbrev pub share_from : Demand → DemandShare
share_from d = record { from = d.from; to = d.to; need = d.need }

-- the demand that is found has the share of its name
pub share_found : (n : ℕ) (demands : List Demand) (name : List ℕ) (k : ℕ) (d : Demand) → AreDemands n demands → position (λ d. are_same d.name name) demands ≡ Some k
    → IsShareIn name demands (Some (share_from (get_or demands k d)))
share_found n demands name k d are found = λ table.
    let a = alone n demands name k are found in
    omega (
      arith,
      sum_by-remove (part_of table) demands k d a.within,
      ap (sum_by (part_of table)) (remove_is name demands k a),
    )

-- where none is found there is no share
pub share_none : (demands : List Demand) (name : List ℕ) → position (λ d. are_same d.name name) demands ≡ None → IsShareIn name demands None
share_none demands name none = λ table.
    omega (arith, ap (sum_by (part_of table)) (all_kept name demands (passes_nowhere (λ d. are_same d.name name) demands none)))

-- ---- an edit leaves the demands of other names

-- what holds of the demands of two answers holds of those of either
of_either : (P : List Demand → Type 0) (b : Bool) (x y : Answered) → P x.1 → P y.1 → P (cond b x y).1
of_either P b x y one other = cond_both b x y (λ (a : Answered). P a.1) (λ _. one) (λ _. other)

of_total : (P : List Demand → Type 0) (demands new : List Demand) (version : ℕ) → P new → P demands → P (within_total demands version new).1
of_total P demands new version one other = of_either P (nat_lt (total_need new) (2 ^ 44)) (Accepted (next_version version), new) (TooMuch (total_need new), demands) one other

of_added : (P : List Demand → Type 0) (demands : List Demand) (version : ℕ) (new : Demand) (fault : Option Reply) → P (demands ++ new ∷ []) → P demands → P (added demands version new fault).1
of_added P demands version new (Some fault) one other = other
of_added P demands version new None one other = of_total P demands (demands ++ new ∷ []) version one other

abbrev with_need : ℕ → Demand → Demand
with_need need d = record { name = d.name; from = d.from; to = d.to; need = need }

-- a demand is left out with another need too
left_out : (name : List ℕ) (need : ℕ) (d : Demand) (xs ys : List Demand) (b : Bool) → are_same d.name name ≡ b → without name xs ≡ without name ys
    → without name (cond b (with_need need d) d ∷ xs) ≡ without name (d ∷ ys)
left_out name need d xs ys true same rest =
    cond-false _ (with_need need d ∷ without name xs) (without name xs) (not_from_true _ same)
    ∙ (rest ∙ sym (cond-false _ (d ∷ without name ys) (without name ys) (not_from_true _ same)))
left_out name need d xs ys false other rest = ap (λ (zs : List Demand). cond (not (are_same d.name name)) (d ∷ zs) zs) rest

set_left : (name : List ℕ) (need : ℕ) (demands : List Demand) → without name (set_need name need demands) ≡ without name demands
set_left name need [] = refl
set_left name need (d ∷ ds) = left_out name need d (set_need name need ds) ds (are_same d.name name) refl (set_left name need ds)

-- leaving out twice leaves out no more
kept_again : (name : List ℕ) (d : Demand) (xs : List Demand) (b : Bool) → are_same d.name name ≡ b → without name xs ≡ xs → without name (cond (not b) (d ∷ xs) xs) ≡ cond (not b) (d ∷ xs) xs
kept_again name d xs true same rest = rest
kept_again name d xs false other rest = cond-true _ (d ∷ without name xs) (without name xs) (not_from_false _ other) ∙ ap (λ (ys : List Demand). d ∷ ys) rest

drop_left : (name : List ℕ) (demands : List Demand) → without name (without name demands) ≡ without name demands
drop_left name [] = refl
drop_left name (d ∷ ds) = kept_again name d (without name ds) (are_same d.name name) refl (drop_left name ds)

add_left : (demands : List Demand) (new : Demand) → without new.name (demands ++ new ∷ []) ≡ without new.name demands
add_left demands new =
    filter-append (λ d. not (are_same d.name new.name)) demands (new ∷ [])
    ∙ (ap (λ (xs : List Demand). without new.name demands ++ xs) (cond-false _ (new ∷ []) [] (not_from_true _ (is_same new.name new.name refl)))
    ∙ append-nil (without new.name demands))

pub others_left : (nodes : List (List ℕ)) (demands : List Demand) (version : ℕ) (edit : Edit) → without (edit_name edit) (edit_reply nodes demands version edit).1 ≡ without (edit_name edit) demands
others_left nodes demands version (Set name need) =
    let P : List Demand → Type 0 = λ ds. without name ds ≡ without name demands in
    of_either P (is_demand name demands) (within_total demands version (set_need name need demands)) (UnknownDemand, demands)
    (of_total P demands (set_need name need demands) version (set_left name need demands) refl) refl
others_left nodes demands version (Drop name) =
    of_either (λ ds. without name ds ≡ without name demands) (is_demand name demands) (Accepted (next_version version), without name demands) (UnknownDemand, demands) (drop_left name demands) refl
others_left nodes demands version (Add name from to need) =
    let new : Demand = record { name = name; from = record { 0 = node_of nodes from }; to = record { 0 = node_of nodes to }; need = need } in
    of_added (λ ds. without name ds ≡ without name demands) demands version new (add_fault nodes demands name from to) (add_left demands new) refl
