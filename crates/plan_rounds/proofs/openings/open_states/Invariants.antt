use Rattle.std.proofs.Common.{◌+◌, ◌*◌, ◌≤◌, [], length}
use Rattle.plan_terms.specs.Terms.{case_of}
use Rattle.plan_law.specs.inner.Openings.{IsOpenedTo}
use Rattle.plan_rounds.{specs.inner.Alone.PoolsOpening, specs.inner.Listing.{GoesOn, IsPlanning}}
use Rattle.plan_rounds.proofs.openings.open_states.Given as goal

-- the states so far are opened
abbrev pub invariant-loop-s : goal.invariant-loop-s
invariant-loop-s g l =
    let before = l.fn.separator in
    let now = l.separator in
    GoesOn (g.S.Separate.frame before) (g.S.Separate.frame now) (g.S.Separate.seen_of before) (g.S.Separate.seen_of now)
    × IsPlanning l.instance (g.S.Separate.frame now) (g.S.Separate.seen_of now) l.candidates
    × IsOpenedTo (case_of l.instance) l.fn.pool l.s [] l.candidates.lines
    × (length l.candidates.lines ≤ length l.fn.pool + 2 * l.s)
    × ∥ PoolsOpening (g.S.Separate.seen_of before) (g.S.Separate.seen_of now) l.fn.pool l.candidates.lines ∥₁
