use Rattle.std.{proofs.Common.{Option, MatchOption, map, string_bytes}, proofs.lemmas.Result.IfOk-weaker}
use Rattle.people_words.{specs.AskedCommands.people_command, specs.PeopleCommands.{ArePeopleWords, PeopleCommand, IsGiven}, specs.declared.words.PeopleWords.PeopleWords, proofs.GivenCommands.more_given}
use Rattle.people_words.proofs.command.command_of.Goals as goal

pub returns-in-None : goal.returns-in-None
returns-in-None c =
    let words = map string_bytes c.args.words.now in
    IfOk-weaker c.words_command.result
    (λ (r : Option PeopleWords). MatchOption r ((f : PeopleCommand) → IsGiven words f → ⊥) (λ f. IsGiven words (people_command f)))
    (λ (r : Option PeopleWords). MatchOption r ((f : PeopleCommand) → ArePeopleWords words f → ⊥) (λ f. ArePeopleWords words (people_command f)))
    (λ r held. more_given r words c.in-None.ensures held) c.words_command.ensures
