use Rattle.std.proofs.Common.{◌≡◌, ℕ, List, ◌++◌, length, map, reverse}
use Rattle.plan_terms.specs.Terms.{Entry, Caps, Case}
use Rattle.cut_pool.specs.Terms.{cut_of_line}
use Rattle.separator.specs.Separators.{AreStateAnswers, AreViolatedStates, cuts_answered}
use Rattle.plan_rounds.{specs.inner.Answered.AreSorted, proofs.Answering.{AreAnswersFrom, AreSomeSorted}}
use Rattle.plan_rounds.proofs.sorted_answers.put_answers.Given as goal

-- the answers that are left
abbrev pub decreases-loop-next : goal.decreases-loop-next
decreases-loop-next l = length l.left.items

-- those before them are sorted
abbrev pub invariant-loop-next : goal.invariant-loop-next
invariant-loop-next l =
    ((p : Case) (caps : Caps) (history : List Entry) → AreStateAnswers p caps history l.fn.answers → (n : ℕ) × AreAnswersFrom p caps history n (reverse l.left.items) × AreSorted p caps history n l.answered)
    × (map cut_of_line l.answered.found.lines ++ cuts_answered (reverse l.left.items) ≡ cuts_answered l.fn.answers)
    × ((p : Case) (caps : Caps) (history : List Entry) → AreViolatedStates p caps history l.fn.answers → AreSomeSorted p caps history (reverse l.left.items) l.answered)
