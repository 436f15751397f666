-- words that are numbers
use Rattle.std.specs.Prelude.{ℕ, List, Result, Ok, Err, codes}
use Rattle.snd_tokens.{specs.declared.amounts.NumberFault.NumberFault, specs.declared.amounts.NumberFault.TheVariants.{NotANumber, TooFine, TooLarge}}

-- a number, or its fault as one of a format's kinds
abbrev pub number_or : {K : Type 0} → (NumberFault → K) → Result ℕ NumberFault → Result ℕ K
number_or kind (Ok n) = Ok n
number_or kind (Err fault) = Err (kind fault)

-- the word of each fault of a number
abbrev pub number_word : NumberFault → List ℕ
number_word NotANumber = codes "number-not"
number_word TooFine = codes "number-fine"
number_word TooLarge = codes "number-large"
