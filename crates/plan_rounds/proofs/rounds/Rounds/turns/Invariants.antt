use Rattle.std.proofs.Common.{◌≡◌, ◌+◌, ◌-◌, ◌≤◌, List, [], All, length, map}
use Rattle.plan_terms.specs.Terms.{CutLine, case_of, IsCut}
use Rattle.plan_law.specs.WorkedLists.{IsBeginning}
use Rattle.cut_pool.specs.Terms.{cut_of_line, cuts_of}
use Rattle.plan_rounds.{specs.inner.Alone.{IsAlone, IsPoolOfList}, specs.inner.Listing.{GoesOn, IsPlanning}, proofs.Turning.IsWorking}
use Rattle.plan_rounds.proofs.rounds.Rounds.turns.Given as goal

-- the room that is left
abbrev pub decreases-loop-best : goal.decreases-loop-best
decreases-loop-best g l = l.self.most - length l.progress.candidates.lines

-- the cuts so far are a worked list of each pool that the list begins, listed with their spots
abbrev pub invariant-loop-best : goal.invariant-loop-best
invariant-loop-best g l =
    let past = l.fn.separator in
    let now = l.separator in
    let lines = l.fn.progress.candidates.lines in
    let p = case_of l.self.instance.now in
    GoesOn (g.S.Separate.frame past) (g.S.Separate.frame now) (g.S.Separate.seen_of past) (g.S.Separate.seen_of now)
    × IsPlanning l.self.instance.now (g.S.Separate.frame now) (g.S.Separate.seen_of now) l.progress.candidates
    × (length l.progress.candidates.lines ≤ l.self.most)
    × ((pool : List CutLine) → length pool + 4096 ≡ l.self.most → All (IsCut p) pool → IsBeginning p pool lines → ∥ IsWorking p l.self.pairs.now pool l.progress.candidates.lines l.before ∥₁)
    × (IsAlone (g.S.Separate.seen_of now) → l.self.most ≡ 4096 → IsBeginning p [] lines → cuts_of (g.S.Separate.seen_of past).history ≡ map cut_of_line lines
    → ∥ IsPoolOfList p l.self.pairs.now (cuts_of (g.S.Separate.seen_of now).history) l.progress.candidates.lines ∥₁)
