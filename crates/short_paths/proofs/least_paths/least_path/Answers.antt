use Rattle.std.proofs.Common.{arith}
use Rattle.short_paths.proofs.least_paths.least_path.Goals as goal

pub least_path-requires-clause-short : goal.least_path-requires-clause-short
least_path-requires-clause-short c = λ e. rw c.items.ensures (omega (arith, c.in_ok-wide.ensures.short e))

pub least_path-requires-clause-long : goal.least_path-requires-clause-long
least_path-requires-clause-long c = rw (c.items.ensures, c.in_ok-wide.ensures.same, c.in_ok-finder.ensures) c.requires.long

pub returns-clause-found : goal.returns-clause-found
returns-clause-found c = rw (c.items.ensures, c.in_ok-wide.ensures.same, c.in_ok-finder.ensures) at c.least_path.ensures.found

pub returns-clause-apart : goal.returns-clause-apart
returns-clause-apart c = rw c.in_ok-finder.ensures at c.least_path.ensures.apart
