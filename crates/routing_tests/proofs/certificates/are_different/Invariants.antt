use Rattle.std.proofs.Common.{◌≡◌, ℕ, ◌<◌, get_or}
use Rattle.plan_terms.specs.Terms.{CutLine}
use Rattle.routing_tests.proofs.certificates.are_different.Given as goal

-- no two cuts below i are of one state, and none below j is of the state of cut i
abbrev pub invariant-loop-j : goal.invariant-loop-j
invariant-loop-j l =
    ((p q : ℕ) (d : CutLine) → p < q → q < l.i → (get_or l.cuts p d).state.0 ≡ (get_or l.cuts q d).state.0 → ⊥)
    × ((p : ℕ) (d : CutLine) → p < l.j → (get_or l.cuts p d).state.0 ≡ (get_or l.cuts l.i d).state.0 → ⊥)

-- no two cuts below i are of one state
abbrev pub invariant-loop-i : goal.invariant-loop-i
invariant-loop-i l = (p q : ℕ) (d : CutLine) → p < q → q < l.i → (get_or l.cuts p d).state.0 ≡ (get_or l.cuts q d).state.0 → ⊥
