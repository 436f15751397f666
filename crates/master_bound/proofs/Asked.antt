-- what multipliers ask for, one after another
use Rattle.std.proofs.Common.{◌≡◌, ℕ, zero, suc, ◌+◌, ◌*◌, ◌<◌, ◌≤◌, List, [], ◌∷◌, length, get_or, take, arith}
use Rattle.net_core.proofs.Library.{sum_by-cons}
use Rattle.plan_terms.specs.Terms.{CutLine, CertificateLine, asked}
use Rattle.master_bound.{specs.Answers.{lines_of, cut_at}, specs.declared.answer.Multiplier.Multiplier}

line_of : List CutLine → Multiplier → CertificateLine
line_of cuts m = record { cut = cut_at cuts m.cut; num = m.num }

asked_one : (cuts : List CutLine) (m : Multiplier) (ms : List Multiplier) → asked (lines_of cuts (m ∷ ms)) ≡ asked (lines_of cuts (m ∷ [])) + asked (lines_of cuts ms)
unfolding line_of
asked_one cuts m ms = omega (
  arith,
  sum_by-cons (λ (l : CertificateLine). l.num * l.cut.right) (line_of cuts m) (lines_of cuts ms),
  sum_by-cons (λ (l : CertificateLine). l.num * l.cut.right) (line_of cuts m) [],
)

-- the first ones and the next ask for no more than all
pub asked_before : (cuts : List CutLine) (n : ℕ) (ms : List Multiplier) (d : Multiplier) → n < length ms → asked (lines_of cuts (take n ms)) + asked (lines_of cuts (get_or ms n d ∷ [])) ≤ asked (lines_of cuts ms)
asked_before cuts n [] d lt = absurd (omega arith)
asked_before cuts zero (m ∷ ms) d lt = omega (arith, asked_one cuts m ms)
asked_before cuts (suc n) (m ∷ ms) d lt = omega (arith, asked_one cuts m ms, asked_one cuts m (take n ms), asked_before cuts n ms d (omega (arith, lt)))
