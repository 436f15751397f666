use Rattle.std.proofs.Common.{◌∙◌, map, sym}
use Rattle.net_core.proofs.Library.{false≢true}
use Rattle.people_words.{specs.inner.Causes.given_option, proofs.WordCommands.no_word_command, proofs.command.word_command.Goals.{else-is_word-via-then-is_word+else-takes_options, else-is_word-via-else-is_word, else-is_word-2-via-then-is_word-2+else-takes_options-2, else-is_word-2-via-else-is_word-2, else-is_word-3-via-then-is_word-3+else-takes_options-3, else-is_word-3-via-else-is_word-3}}
use Rattle.people_words.proofs.command.word_command.Goals as goal

pub returns-then-takes_options-2 : goal.returns-then-takes_options-2
returns-then-takes_options-2 c = (c.is_word-2.ensures.0 c.if-is_word-2.true, c.takes_options-then-is_word-2.ensures.0 c.if-takes_options-2.true, c.in_ok-plan.ensures)

pub returns : goal.returns
returns c =
    no_word_command c.args.name.now c.args.word.now (map given_option c.args.options.now)
    (λ both. elim c.else-is_word.branch [
      | else-is_word-via-then-is_word+else-takes_options w ↦ false≢true (sym w.if-takes_options.false ∙ w.takes_options.ensures.1 both.1)
      | else-is_word-via-else-is_word w ↦ false≢true (sym w.if-is_word.false ∙ c.is_word.ensures.1 both.0)
    ])
    (λ both. elim c.else-is_word-2.branch [
      | else-is_word-2-via-then-is_word-2+else-takes_options-2 w ↦ false≢true (sym w.if-takes_options-2.false ∙ w.takes_options-then-is_word-2.ensures.1 both.1)
      | else-is_word-2-via-else-is_word-2 w ↦ false≢true (sym w.if-is_word-2.false ∙ c.is_word-2.ensures.1 both.0)
    ])
    (λ both. elim c.else-is_word-3.branch [
      | else-is_word-3-via-then-is_word-3+else-takes_options-3 w ↦ false≢true (sym w.if-takes_options-3.false ∙ w.takes_options-then-is_word-3.ensures.1 both.1)
      | else-is_word-3-via-else-is_word-3 w ↦ false≢true (sym w.if-is_word-3.false ∙ c.is_word-3.ensures.1 both.0)
    ])
