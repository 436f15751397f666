use Rattle.std.proofs.Common.{◌≡◌, drop, map}
use Rattle.people_words.{specs.GivenWords.are_among, specs.inner.Causes.given_option}
use Rattle.people_words.proofs.options.are_among.Given as goal

-- all are among these where those that are left are
abbrev pub invariant-loop-given : goal.invariant-loop-given
invariant-loop-given l =
    are_among (map (λ w. w.now) l.taken) (map given_option (drop l.given-index l.options)) ≡ are_among (map (λ w. w.now) l.taken) (map given_option l.options)
