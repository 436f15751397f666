use Rattle.std.proofs.Common.{◌≡◌, drop, map}
use Rattle.people_words.{specs.GivenWords.value_given, specs.inner.Causes.given_option}
use Rattle.people_words.proofs.options.value_given.Given as goal

-- the value is that among those that are left
abbrev pub invariant-loop-given : goal.invariant-loop-given
invariant-loop-given l = value_given (map given_option (drop l.given-index l.options)) l.name ≡ value_given (map given_option l.options) l.name
