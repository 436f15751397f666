use Rattle.plan_terms.specs.Terms.{case_of}
use Rattle.separator.{specs.Separators.cuts_after, specs.inner.Working.{AreCutsAnswered, PoolsBelow}}
use Rattle.separator.proofs.some_states.answer_sets.Given as goal

-- the states so far
abbrev pub invariant-loop-s : goal.invariant-loop-s
invariant-loop-s l =
    PoolsBelow (case_of l.instance) l.caps l.s l.fn.board l.board (cuts_after l.fn.board.entries l.board.entries)
    × AreCutsAnswered (case_of l.instance) l.caps l.s l.board.entries (cuts_after l.fn.board.entries l.board.entries) l.answers
