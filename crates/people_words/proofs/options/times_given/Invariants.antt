use Rattle.std.proofs.Common.{◌≡◌, ◌≤◌, ◌+◌, drop, map}
use Rattle.people_words.{specs.GivenWords.times_given, specs.inner.Causes.given_option}
use Rattle.people_words.proofs.options.times_given.Given as goal

-- with the times among those that are left it is all times
abbrev pub invariant-loop-given : goal.invariant-loop-given
invariant-loop-given l =
    (l.times + times_given (map given_option (drop l.given-index l.options)) l.name ≡ times_given (map given_option l.options) l.name) × (l.times ≤ l.given-index)
