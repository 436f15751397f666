use Rattle.std.{proofs.Common.{◌≡◌, ◌≤◌, All, length}, specs.Vec.Iter.{into_iter_items, into_iter_len}}
use Rattle.line_maker.{specs.Made.IsMadeLine, specs.inner.Candidates.IsSumCandidate}
use Rattle.line_maker.proofs.rounds.lines_of.Given as goal

-- the lines so far, and the candidates that are left
abbrev pub invariant-loop-candidate : goal.invariant-loop-candidate
invariant-loop-candidate l =
    let left = into_iter_items l.candidate-iterator in
    All (IsMadeLine l.links l.known.tested.now) l.lines
    × (length l.lines ≤ l.most)
    × All (IsSumCandidate l.known.tested.now) left
    × (into_iter_len l.candidate-iterator ≡ length left)
