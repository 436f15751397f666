use Rattle.std.proofs.Common.{arith, refl, subst, sym, ◌≤◌, ℕ, zero, suc, [], ◌∷◌, slice_index}
use Rattle.net_core.proofs.Library.{IfOk-weaker}
use Rattle.route_law.specs.Terms.{ZerosAndOnesArePriced}
use Rattle.hint_board.specs.Priced.{AreHintLengths}
use Rattle.board_tests.proofs.hints.lengths_of.Goals as goal

-- two numbers of 0 or 1 before a 1 are priced
priced : ZerosAndOnesArePriced → (first second : ℕ) → first ≤ 1 → second ≤ 1 → AreHintLengths 3 (first ∷ second ∷ 1 ∷ [])
priced law first second one two = record {
  count = refl;
  priced = law (first ∷ second ∷ 1 ∷ []) 2 (omega arith) low refl;
}
  where
    low : (k : ℕ) → slice_index (first ∷ second ∷ 1 ∷ []) k ≤ 1
    low zero = one
    low (suc zero) = two
    low (suc (suc zero)) = omega arith
    low (suc (suc (suc k))) = omega arith

pub returns : goal.returns
returns c =
    IfOk-weaker c.from_slice.result _ (AreHintLengths 3)
    (λ lengths same. subst (AreHintLengths 3) (sym same) (priced c.zeros_and_ones_are_priced.ensures c.args.first c.args.second c.requires.0 c.requires.1))
    c.from_slice.ensures
