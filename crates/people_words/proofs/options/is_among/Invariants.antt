use Rattle.std.proofs.Common.{◌≡◌, drop, map}
use Rattle.people_words.specs.GivenWords.{is_among}
use Rattle.people_words.proofs.options.is_among.Given as goal

-- it is among all where it is among those that are left
abbrev pub invariant-loop-word : goal.invariant-loop-word
invariant-loop-word l = is_among (map (λ w. w.now) (drop l.word-index l.taken)) l.name ≡ is_among (map (λ w. w.now) l.taken) l.name
