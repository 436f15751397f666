use Rattle.std.proofs.Common.{[]}
use Rattle.plan_terms.specs.Terms.{case_of}
use Rattle.separator.specs.inner.Working.{ContinueTo, PoolsMore}
use Rattle.separator.proofs.some_states.ask_until_cut.Given as goal

-- no cut is found so far
abbrev pub invariant-loop-s : goal.invariant-loop-s
invariant-loop-s l = PoolsMore l.fn.board l.board [] × ContinueTo (case_of l.instance) l.caps l.from l.s l.fn.others l.others
