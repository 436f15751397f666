use Rattle.people_words.proofs.command.is_view.Goals as goal

pub returns-then-is_word : goal.returns-then-is_word
returns-then-is_word c = (λ takes. (c.is_word.ensures.0 c.if-is_word.true, c.takes_options.ensures.0 takes), λ both. c.takes_options.ensures.1 both.1)
