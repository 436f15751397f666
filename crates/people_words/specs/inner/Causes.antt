-- what the functions of a reading of words answer to each other
use Rattle.std.specs.Prelude.{◌≡◌, ℕ, ◌++◌, List, [], ◌∷◌, None, Some, map}
use Rattle.people_words.{specs.GivenWords.{AreRead, GivenOption}, specs.declared.given.Awaited.Awaited, specs.declared.given.Awaited.TheVariants.{Word, Value, Names}, specs.declared.given.Given.Given, specs.declared.given.OptionValue.OptionValue}

-- the names that are given
abbrev pub given_names : Given → List (List ℕ)
given_names g = map (λ w. w.now) g.names

-- an option that is given
abbrev pub given_option : OptionValue → GivenOption
given_option o = record { name = o.option.now; value = o.value.now }

-- the options that are given
abbrev pub given_options : Given → List GivenOption
given_options g = map given_option g.options

-- words from which this is awaited are read as these names and options
abbrev pub IsRest : Awaited → List (List ℕ) → List (List ℕ) → List GivenOption → Type 0
IsRest Word words names options = AreRead None words names options
IsRest (Value option) words names options = AreRead (Some option.now) words names options
IsRest Names words names options = (names ≡ words) × (options ≡ [])

-- Words from which one thing is awaited give these names and options, and then the rest, from which another thing is awaited, gives those
-- that are left.
pub record ReadsOn (start : Awaited) (words : List (List ℕ)) (end : Awaited) (rest : List (List ℕ)) (ns : List (List ℕ)) (os : List GivenOption) : Type 0 where
  pub forth : (names : List (List ℕ)) (options : List GivenOption) → IsRest end rest names options → IsRest start words (ns ++ names) (os ++ options)
  pub back : (names : List (List ℕ)) (options : List GivenOption) → IsRest start words names options
      → (n : List (List ℕ)) × (o : List GivenOption) × (names ≡ ns ++ n) × (options ≡ os ++ o) × IsRest end rest n o

-- A word more leads on, whatever comes after it.
pub record TakesWord (start : Awaited) (word : List ℕ) (old : Given) (end : Awaited) (new : Given) : Type 0 where
  pub names : List (List ℕ)
  pub options : List GivenOption
  pub named : given_names new ≡ given_names old ++ names
  pub given : given_options new ≡ given_options old ++ options
  pub leads : (rest : List (List ℕ)) → ReadsOn start (word ∷ rest) end rest names options
