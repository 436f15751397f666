use Rattle.std.proofs.Common.{drop, map, string_bytes}
use Rattle.people_words.{specs.declared.given.Awaited.TheVariants.Word, specs.inner.Causes.{ReadsOn, given_names, given_options}}
use Rattle.people_words.proofs.given.given_by.Given as goal

-- the words so far give what is given, and then those that are left come
abbrev pub invariant-loop-word : goal.invariant-loop-word
invariant-loop-word l =
    ReadsOn Word (map string_bytes l.words) l.awaited (map string_bytes (drop l.word-index l.words)) (given_names l.given) (given_options l.given)
