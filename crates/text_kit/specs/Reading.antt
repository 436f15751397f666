-- Reading a text from left to right: what was read and what is left, or the first fault with its place.
use Rattle.std.specs.Prelude.{ℕ, zero, suc, ◌==◌, if◌then◌else◌, List, [], ◌∷◌, ◌++◌, length, Option, None, Some, Result, Ok, Err}
use Rattle.net_core.specs.Terms.{are_same}
use Rattle.snd_tokens.specs.Terms.{Text, WordAt, OpenAt, CloseAt, EndAt, size}
use Rattle.text_kit.specs.Places.{place}

-- an answer: something and the text after it, or a fault of a kind at a place
abbrev pub Read : Type 0 → Type 0 → Type 0
Read K X = Result (X × Text) (ℕ × K)

-- a reading of a text
abbrev pub Reading : Type 0 → Type 0 → Type 0
Reading K X = Text → Read K X

-- what comes after an answer
abbrev pub after : {K A B : Type 0} → Read K A → (A → Reading K B) → Read K B
after (Ok x) f = f x.0 x.1
after (Err e) f = Err e

-- one reading after another
infixl 10 ◌>>=◌
abbrev pub ◌>>=◌ : {K A B : Type 0} → Reading K A → (A → Reading K B) → Reading K B
(r >>= f) text = after (r text) f

-- nothing is read
abbrev pub give : {K X : Type 0} → X → Reading K X
give x text = Ok (x, text)

-- the outcome of a test at a place
abbrev pub placed : {K X : Type 0} → ℕ → Text → Result X K → Read K X
placed at rest (Ok x) = Ok (x, rest)
placed at rest (Err kind) = Err (at, kind)

-- one lexeme, by what it is: a word with its test, an opening parenthesis, a closing one, or the end
abbrev pub step_at : {K X : Type 0} → (List ℕ → Result X K) → Result X K → Result X K → Result X K → Reading K X
step_at word opens closes ends (WordAt at w rest) = placed at rest (word w)
step_at word opens closes ends (OpenAt at rest) = placed at rest opens
step_at word opens closes ends (CloseAt at rest) = placed at rest closes
step_at word opens closes ends (EndAt at) = placed at (EndAt at) ends

-- a word that passes a test
abbrev pub word_at : {K X : Type 0} → K → K → (List ℕ → Result X K) → Reading K X
word_at other ended test = step_at test (Err other) (Err other) (Err ended)

-- an opening parenthesis
abbrev pub open_at : {K : Type 0} → K → K → Reading K (Unit {0})
open_at other ended = step_at (λ w. Err other) (Ok tt) (Err other) (Err ended)

-- a closing parenthesis
abbrev pub close_at : {K : Type 0} → K → K → Reading K (Unit {0})
close_at other ended = step_at (λ w. Err other) (Err other) (Ok tt) (Err ended)

-- the end
abbrev pub end_at : {K : Type 0} → K → Reading K (Unit {0})
end_at other = step_at (λ w. Err other) (Err other) (Err other) (Ok tt)

-- a fault at whatever is next
abbrev pub over_at : {K X : Type 0} → K → K → Reading K X
over_at kind ended = step_at (λ w. Err kind) (Err kind) (Err kind) (Err ended)

-- the test for one expected word
abbrev pub expected : {K : Type 0} → K → List ℕ → List ℕ → Result (Unit {0}) K
expected other wanted w = if are_same w wanted then Ok tt else Err other

-- what was read, for what it means
abbrev pub mapped : {K X Y : Type 0} → (X → Y) → Reading K X → Reading K Y
mapped meaning r = r >>= λ x. give (meaning x)

-- what a list ends with: a closing parenthesis, the end of the text, or this very word
pub data Ending : Type 0 where
  Parenthesis : Ending
  TheEnd : Ending
  TheWord : List ℕ → Ending

-- the text after the ending, if that is next
abbrev pub past_ending : Ending → Text → Option Text
past_ending Parenthesis (CloseAt at rest) = Some rest
past_ending TheEnd (EndAt at) = Some (EndAt at)
past_ending (TheWord wanted) (WordAt at w rest) = if are_same w wanted then Some rest else None
past_ending _ _ = None

-- a value, or the fault that it has
abbrev pub sound : {K X : Type 0} → X → Option K → Result X K
sound x None = Ok x
sound x (Some kind) = Err kind

-- what closes a list where a text is left, and else what goes on
abbrev pub ended_or : {A : Type 0} → Option Text → (Text → A) → A → A
ended_or (Some rest) closed more = closed rest
ended_or None closed more = more

-- further elements after those so far, up to the ending; n is more than the lexemes that are left
abbrev pub elements_at : {K X : Type 0} → Ending → (List X → Option K) → (List X → Reading K X) → ℕ → List X → Reading K (List X)
elements_at ending fault one zero sofar text = Ok (sofar, text)
elements_at ending fault one (suc n) sofar text =
    ended_or (past_ending ending text) (λ rest. placed (place text) rest (sound sofar (fault sofar)))
    (after (one sofar text) (λ x. elements_at ending fault one n (sofar ++ x ∷ [])))

-- a list up to its ending, where all of it may have a fault; an element is read by those before it
abbrev pub list_at : {K X : Type 0} → Ending → (List X → Option K) → (List X → Reading K X) → List X → Reading K (List X)
list_at ending fault one sofar text = elements_at ending fault one (suc (size text)) sofar text

-- no list has a fault
abbrev pub no_fault : {K X : Type 0} → List X → Option K
no_fault xs = None

-- an empty list has this fault
abbrev pub not_empty : {K X : Type 0} → K → List X → Option K
not_empty kind [] = Some kind
not_empty kind (x ∷ xs) = None

-- a list of another length than n has this fault
abbrev pub of_length : {K X : Type 0} → ℕ → K → List X → Option K
of_length n kind xs = if length xs == n then None else Some kind

-- elements of which none is kept, up to the closing parenthesis
abbrev pub each_at : {K X : Type 0} → Reading K X → Reading K (Unit {0})
each_at one = mapped (λ xs. tt) (list_at Parenthesis no_fault (λ sofar. one) [])

-- a reading of a whole text, after which nothing is left
abbrev pub whole_at : {K X : Type 0} → K → Reading K X → Reading K X
whole_at other r = r >>= λ x. end_at other >>= λ _. give x
