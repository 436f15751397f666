-- sums over lines, line by line
use Rattle.std.proofs.Common.{◌≡◌, ℕ, ◌+◌, ◌*◌, ◌<◌, List, [], ◌∷◌, get_or, length, map, take, refl, sym, ◌∙◌, arith, sum_by}
use Rattle.net_core.proofs.Library.{sum_by-cons, sum_by_more}
use Rattle.master_bound.specs.declared.answer.Multiplier.{Multiplier}
use Rattle.line_check.{specs.Inequalities.{WeightedLine, entry, module_price, need_of, summed_need}, specs.Testing.{test_at, weighed}, specs.declared.tested_lines.Tested.Tested}

sum_mapped : {X Y : Type 0} (f : Y → ℕ) (g : X → Y) (xs : List X) → sum_by f (map g xs) ≡ sum_by (λ x. f (g x)) xs
sum_mapped f g [] = refl
sum_mapped f g (x ∷ xs) = omega (arith, sum_by-cons f (g x) (map g xs), sum_by-cons (λ y. f (g y)) x xs, sum_mapped f g xs)

-- a line more
pub line_more : (f : WeightedLine → ℕ) (tested : List Tested) (ms : List Multiplier) (i : ℕ) (d : Multiplier) → i < length ms
    → sum_by f (weighed tested (take (i + 1) ms)) ≡ sum_by f (weighed tested (take i ms)) + f (record { line = (test_at tested (get_or ms i d).cut).line; num = (get_or ms i d).num })
line_more f tested ms i d lt =
    sum_mapped f (λ (m : Multiplier). record { line = (test_at tested m.cut).line; num = m.num }) (take (i + 1) ms)
    ∙ sum_by_more (λ (m : Multiplier). f (record { line = (test_at tested m.cut).line; num = m.num })) ms i d lt
    ∙ sym (omega (arith, sum_mapped f (λ (m : Multiplier). record { line = (test_at tested m.cut).line; num = m.num }) (take i ms)))

pub need_more : (tested : List Tested) (ms : List Multiplier) (i : ℕ) (d : Multiplier) → i < length ms
    → summed_need (weighed tested (take (i + 1) ms)) ≡ summed_need (weighed tested (take i ms)) + (get_or ms i d).num * need_of (test_at tested (get_or ms i d).cut).line
need_more tested ms i d lt = line_more (λ t. t.num * need_of t.line) tested ms i d lt

pub price_more : (tested : List Tested) (ms : List Multiplier) (e m i : ℕ) (d : Multiplier) → i < length ms
    → module_price (weighed tested (take (i + 1) ms)) e m ≡ module_price (weighed tested (take i ms)) e m + (get_or ms i d).num * entry (test_at tested (get_or ms i d).cut).line.coefs e m
price_more tested ms e m i d lt = line_more (λ t. t.num * entry t.line.coefs e m) tested ms i d lt
