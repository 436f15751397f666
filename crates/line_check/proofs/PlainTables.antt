-- able counts meet a plain table line
use Rattle.std.proofs.Common.{◌≡◌, ℕ, ◌*◌, ◌<◌, ◌≤◌, ⊎_elim, List, length, map, slice_index, zip, refl, ap, subst, sym, ◌∙◌, arith}
use Rattle.net_core.proofs.Library.{Contains-get_or, cases_lt, get_or_default, length-map}
use Rattle.plan_terms.specs.Terms.{AreCounts, Case, Link}
use Rattle.line_check.{specs.CoverWeights.CoversNeed, specs.Inequalities.{MeetsLine, entry, module_number, need_of, over_modules}, specs.Lines.{AreKinds, IsTableOver, capped, table_line, weight_of}, specs.declared.inequality.Inequality.Inequality, specs.declared.line.TableKind.TheVariants.Plain, proofs.OverModules.over-same, proofs.KindWeights.{capped_meets, table_entry, used, used_weighs, weight_at, weight_none}}

-- by its own kinds, a module weighs what it gives
own_weight : (links : List Link) (over : Inequality) (kinds : List ℕ) → AreKinds links over kinds → (e m : ℕ) → e < length links → m < module_number links e
    → weight_of (zip kinds kinds) (capped over e m) ≡ capped over e m
own_weight links over kinds are e m here inside = ⊎_elim
    (λ (some : 0 < capped over e m).
    let at = (are.each (capped over e m)).1 (some, (e, m, here, inside, refl)) in
    let same : slice_index kinds at.0 ≡ capped over e m = get_or_default kinds at.0 0 (capped over e m) at.1 ∙ at.2 in
    subst (λ n. weight_of (zip kinds kinds) n ≡ n) same (weight_at kinds kinds at.0 are.rising refl at.1))
    (λ (none : capped over e m ≤ 0).
    let zero_there : capped over e m ≡ 0 = omega (arith, none) in
    weight_none kinds kinds (capped over e m) (λ k lt same.
    let positive = ((are.each (slice_index kinds k)).0 (Contains-get_or kinds k 0 lt)).0 in
    omega (arith, positive, same, zero_there))
    ∙ sym zero_there)
    (cases_lt 0 (capped over e m))

-- the numbers used of each kind cover the need of a line that counts meet
pub used_covers : (links : List Link) (over : Inequality) (kinds : List ℕ) (counts : List (List ℕ)) → AreKinds links over kinds → MeetsLine links over counts
    → CoversNeed kinds (need_of over) (map (used links over counts) kinds)
used_covers links over kinds counts are meets = record {
  same = length-map kinds (used links over counts);
  enough = omega (
    arith,
    capped_meets links over counts meets,
    used_weighs links over counts kinds kinds are.rising refl,
    over-same links (λ e m. weight_of (zip kinds kinds) (capped over e m) * entry counts e m) (λ e m. capped over e m * entry counts e m)
        (λ e m here inside. ap (λ n. n * entry counts e m) (own_weight links over kinds are e m here inside)),
  );
}

-- a table line's left side is what the modules weigh by their kinds
pub table_weighs : (links : List Link) (over : Inequality) (kinds weights : List ℕ) (right : ℕ) (counts : List (List ℕ))
    → over_modules links (λ e m. entry (table_line links over kinds weights right).coefs e m * entry counts e m) ≡ over_modules links (λ e m. weight_of (zip kinds weights) (capped over e m) * entry counts e m)
table_weighs links over kinds weights right counts =
    over-same links (λ e m. entry (table_line links over kinds weights right).coefs e m * entry counts e m) (λ e m. weight_of (zip kinds weights) (capped over e m) * entry counts e m)
    (λ e m here inside. ap (λ n. n * entry counts e m) (table_entry links (λ i j. weight_of (zip kinds weights) (capped over i j)) e m here inside))

pub plain_table_is_met : (p : Case) (over : Inequality) (weights : List ℕ) (made : Inequality) (counts : List (List ℕ)) → AreCounts p.links counts → IsTableOver p over Plain weights made
    → MeetsLine p.links over counts → MeetsLine p.links made counts
plain_table_is_met p over weights made counts shape is meets =
    let least = is.is_right.at_most (map (used p.links over counts) is.kinds) (used_covers p.links over is.kinds counts is.are meets) in
    let left = table_weighs p.links over is.kinds weights is.right counts in
    let weighed = used_weighs p.links over counts is.kinds weights is.are.rising is.paired in
    subst (λ line. MeetsLine p.links line counts) (sym is.is) (omega (arith, least, left, weighed))
