-- words that give a command
use Rattle.std.proofs.Common.{◌≡◌, ℕ, List, [], ◌∷◌, Option, None, Some, MatchOption, refl, subst}
use Rattle.people_words.{specs.AskedCommands.people_command, specs.PeopleCommands.{ArePeopleWords, PeopleCommand, IsGiven, IsOfParts}, specs.GivenWords.{AreRead, GivenOption}, specs.declared.words.PeopleWords.PeopleWords}

-- names and options that are all are one command, so the words are no other
pub parts_given : (words names : List (List ℕ)) (options : List GivenOption) (r : Option PeopleWords) → AreRead None words names options
    → ((ns : List (List ℕ)) (os : List GivenOption) → AreRead None words ns os → (ns ≡ names) × (os ≡ options))
    → MatchOption r ((c : PeopleCommand) → IsOfParts names options c → ⊥) (λ c. IsOfParts names options (people_command c))
    → MatchOption r ((c : PeopleCommand) → IsGiven words c → ⊥) (λ c. IsGiven words (people_command c))
parts_given words names options None read alone held = λ c given.
    let same = alone given.0 given.1 given.2 in
    held c (subst (λ (ns : List (List ℕ)). IsOfParts ns options c) same.0 (subst (λ (os : List GivenOption). IsOfParts given.0 os c) same.1 given.3))
parts_given words names options (Some c) read alone held = (names, options, read, held)

module _ (r : Option PeopleWords) where
  -- none or more of them
  pub more_given : (words : List (List ℕ)) → ((word : List ℕ) → words ≡ word ∷ [] → ⊥)
      → MatchOption r ((c : PeopleCommand) → IsGiven words c → ⊥) (λ c. IsGiven words (people_command c))
      → MatchOption r ((c : PeopleCommand) → ArePeopleWords words c → ⊥) (λ c. ArePeopleWords words (people_command c))
  more_given [] some held = held
  more_given (word ∷ []) some held = absurd (some word refl)
  more_given (word ∷ next ∷ words) some held = held
