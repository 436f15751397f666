use Rattle.std.proofs.Common.{◌≡◌, ◌∙◌, ◌+◌, ◌∷◌, List, String, ap, drop, map, refl, string_bytes, subst, sym, Global}
use Rattle.net_core.proofs.Library.{at_drop_more, drop_all}
use Rattle.people_words.{specs.declared.given.Awaited.TheVariants.{Word, Names}, specs.inner.Causes.{ReadsOn, given_names, given_options}, proofs.Reading.{are_all, leads_word}}
use Rattle.people_words.proofs.given.given_by.Goals as goal

pub loop-word-preserved : goal.loop-word-preserved
loop-word-preserved c =
    let words = c.args.words.now in
    let i = c.loop-word.word-index in
    let word = c.word-item.result in
    let given = c.loop-word.given in
    let split : drop i words ≡ word ∷ drop (i + 1) words =
    at_drop_more (λ (ws : List (String Global)). ws) words i word c.loop-word-test.true ∙ ap (λ (w : String Global). w ∷ drop (i + 1) words) (sym c.word-item.is) in
    leads_word c.loop-word.awaited c.in-Some.next (map string_bytes words) (string_bytes word) (map string_bytes (drop (i + 1) words)) given c.take.new.given
    (subst (λ (ws : List (String Global)). ReadsOn Word (map string_bytes words) c.loop-word.awaited (map string_bytes ws) (given_names given) (given_options given)) split
    c.loop-word.invariant)
    (rw (c.in-Some.is, c.as_str.ensures.value) at c.in_ok-next.ensures)

pub returns-in-Word : goal.returns-in-Word
returns-in-Word c =
    let words = c.args.words.now in
    let left = drop c.loop-word.word-index words in
    let given = c.loop-word.given in
    are_all (map string_bytes words) (map string_bytes left) (given_names given) (given_options given) c.loop-word.awaited Word
    (ap (map string_bytes) (drop_all c.loop-word.word-index words c.loop-word-test.false)) c.in-Word.is c.loop-word.invariant (refl, refl) (λ n o read. read)

pub returns-in-Names : goal.returns-in-Names
returns-in-Names c =
    let words = c.args.words.now in
    let left = drop c.loop-word.word-index words in
    let given = c.loop-word.given in
    are_all (map string_bytes words) (map string_bytes left) (given_names given) (given_options given) c.loop-word.awaited Names
    (ap (map string_bytes) (drop_all c.loop-word.word-index words c.loop-word-test.false)) c.in-Names.is c.loop-word.invariant (refl, refl) (λ n o read. read)
