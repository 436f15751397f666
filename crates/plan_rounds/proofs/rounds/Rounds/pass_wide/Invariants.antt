use Rattle.std.proofs.Common.{◌≡◌, ◌-◌, length}
use Rattle.plan_terms.specs.Terms.{case_of}
use Rattle.cut_pool.specs.Terms.{cuts_of}
use Rattle.plan_rounds.{specs.inner.Alone.{IsAlone, IsPoolOfList}, specs.inner.Listing.{GoesOn, IsPlanning}, specs.inner.Turns.IsPast}
use Rattle.plan_rounds.proofs.rounds.Rounds.pass_wide.Given as goal

-- rounds have been added to the list, and the pool is that of the list
abbrev pub invariant-loop-caps : goal.invariant-loop-caps
invariant-loop-caps g l =
    let before = l.fn.separator in
    let now = l.separator in
    let p = case_of l.self.instance.now in
    let pairs = l.self.pairs.now in
    let old = l.fn.progress.candidates in
    let here = l.progress.candidates in
    GoesOn (g.S.Separate.frame before) (g.S.Separate.frame now) (g.S.Separate.seen_of before) (g.S.Separate.seen_of now)
    × IsPlanning l.self.instance.now (g.S.Separate.frame now) (g.S.Separate.seen_of now) here
    × ∥ IsPast p pairs l.self.most old here ∥₁
    × (IsAlone (g.S.Separate.seen_of now) → l.self.most ≡ 4096 → ∥ IsPoolOfList p pairs (cuts_of (g.S.Separate.seen_of before).history) old.lines ∥₁
    → ∥ IsPoolOfList p pairs (cuts_of (g.S.Separate.seen_of now).history) here.lines ∥₁)

-- the room that is left
abbrev pub decreases-loop-caps : goal.decreases-loop-caps
decreases-loop-caps g l = l.self.most - length l.progress.candidates.lines
