-- what a board tells of its history
use Rattle.std.{specs.Prelude.{ℕ, zero, suc, ◌≤◌, List, [], ◌∷◌, drop, length, map, refl, take}, proofs.Common.{◌∙◌, ap, inl, inr, subst, sym}, proofs.Math.Logic.∥∥₁_map, proofs.lemmas.List.length-map}
use Rattle.plan_terms.specs.Terms.{Demand, Entry, Edited, Pooled, Network, States, case}
use Rattle.cut_pool.{specs.declared.pooled_cut.PooledCut.PooledCut, specs.Terms.{IsBoardAfter, IsLegalAfter, cut_of_line, line_of_pooled}}
use Rattle.net_core.specs.Limits.{most_cuts, most_entries}
use Rattle.separator.specs.Separators.{IsCutEntry, IsPartOf, IsSeenHistory}

part_more : {X : Type 0} (xs ys : List X) (y : X) → IsPartOf xs ys → IsPartOf xs (y ∷ ys)
part_more [] ys y part = part
part_more (x ∷ xs) ys y part = inr part

part_self : {X : Type 0} (xs : List X) → IsPartOf xs xs
part_self [] = tt
part_self (x ∷ xs) = inl (refl, part_self xs)

-- the items after the first n are some of them
pub drop_is_part : {X : Type 0} (n : ℕ) (xs : List X) → IsPartOf (drop n xs) xs
drop_is_part zero xs = part_self xs
drop_is_part (suc n) [] = tt
drop_is_part (suc n) (x ∷ xs) = part_more (drop n xs) xs x (drop_is_part n xs)

-- a cut entry is legal whatever the demands are
legal_cut : (net : Network) (states : States) (opening : List Demand) (before : List Entry) (e : Entry) → IsCutEntry e
    → IsLegalAfter (case net states opening) before e → IsLegalAfter (case net states []) before e
legal_cut net states opening before (Edited caller edit reply) none legal = absurd none
legal_cut net states opening before (Pooled index state lengths) some legal = legal

pub board_is_seen : (n : ℕ) (net : Network) (states : States) (opening : List Demand) (entries : List Entry) (demands : List Demand) (version : ℕ)
    (pool : List PooledCut)
    → length entries ≤ most_entries → length pool ≤ most_cuts
    → ∥ IsBoardAfter (case net states opening) entries demands version (map line_of_pooled pool) ∥₁
    → ∥ IsSeenHistory net states (record { history = entries; own = drop n entries }) ∥₁
board_is_seen n net states opening entries demands version pool few few_cuts stands = ∥∥₁_map stands (λ b. record {
  few = few;
  few_cuts = subst (λ (k : ℕ). k ≤ 4096) (sym (length-map pool line_of_pooled) ∙ (sym
      (length-map (map line_of_pooled pool) cut_of_line) ∙ ap length b.pool.cuts)) few_cuts;
  legal = λ k e at is. legal_cut net states opening (take k entries) e is (b.legal k e at);
  own_among = drop_is_part n entries;
})
