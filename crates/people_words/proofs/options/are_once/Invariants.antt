use Rattle.std.proofs.Common.{◌≡◌, drop, map}
use Rattle.people_words.{specs.GivenWords.are_once, specs.inner.Causes.given_option}
use Rattle.people_words.proofs.options.are_once.Given as goal

-- each is given once at most where those that are left are
abbrev pub invariant-loop-word : goal.invariant-loop-word
invariant-loop-word l =
    are_once (map (λ w. w.now) (drop l.word-index l.taken)) (map given_option l.options) ≡ are_once (map (λ w. w.now) l.taken) (map given_option l.options)
