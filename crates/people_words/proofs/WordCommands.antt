-- a name and a word after it that are no command
use Rattle.std.proofs.Common.{◌≡◌, ℕ, List, [], codes}
use Rattle.people_words.{specs.PeopleCommands.{PeopleCommand, Help, HelpOn, Version, Failures, View, Plan, IsOfWord, plan_options}, specs.GivenWords.{GivenOption, TakesOptions}}

-- where none of the commands has this name and takes these options, they are no command
pub no_word_command : (name word : List ℕ) (options : List GivenOption)
    → ((name ≡ codes "failures") × TakesOptions [] options → ⊥)
    → ((name ≡ codes "plan") × TakesOptions plan_options options → ⊥)
    → ((name ≡ codes "help") × TakesOptions [] options → ⊥)
    → (c : PeopleCommand) → IsOfWord name word options c → ⊥
no_word_command name word options failures plan help Help is = is
no_word_command name word options failures plan help (HelpOn topic) is = help (is.0, is.1)
no_word_command name word options failures plan help Version is = is
no_word_command name word options failures plan help (Failures network) is = failures (is.0, is.1)
no_word_command name word options failures plan help (View w report form) is = is
no_word_command name word options failures plan help (Plan asked) is = plan (is.0, is.1)
