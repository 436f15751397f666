-- what functions answer of a reading
use Rattle.std.specs.Prelude.{◌≡◌, ℕ, Bool, true, false, Option, None, Some, Result, Ok, Err}
use Rattle.snd_tokens.specs.Terms.{Text, WordAt, OpenAt, CloseAt, EndAt}
use Rattle.text_kit.{specs.Places.place, specs.Reading.{Read, Ending, Parenthesis, TheEnd, past_ending}, specs.declared.refusal.Refusal.Refusal, specs.declared.refusal.Refusal.TheVariants.{Bad, NoMemory}}

-- what a refusal says of a reading: that this is its first fault; running out of memory says nothing
abbrev pub Fails : {K Y : Type 0} → Refusal K → Read K Y → Type 0
Fails (Bad at kind) read = read ≡ Err (at, kind)
Fails NoMemory read = Unit {0}

-- a reading gives what was returned, as `view` shows it, and what is left, unless memory ran out
abbrev pub ReadsAs : {K X Y : Type 0} → (X → Y) → Result X (Refusal K) → Text → Read K Y → Type 0
ReadsAs view (Ok x) rest read = read ≡ Ok (view x, rest)
ReadsAs view (Err e) rest read = Fails e read

-- a reading gives what was returned, as `view` shows it, and nothing is left, unless memory ran out
abbrev pub ReadsAllAs : {K X Y : Type 0} → (X → Y) → Result X (Refusal K) → Read K Y → Type 0
ReadsAllAs view (Ok x) read = (at : ℕ) × (read ≡ Ok (view x, EndAt at))
ReadsAllAs view (Err e) read = Fails e read

-- this is answered, unless memory runs out
abbrev pub AnswersAs : {K X Y : Type 0} → (X → Y) → Result X (Refusal K) → Y → Type 0
AnswersAs view (Ok x) y = view x ≡ y
AnswersAs view (Err (Bad at kind)) y = ⊥
AnswersAs view (Err NoMemory) y = Unit {0}

-- something else than a word is next, or nothing
abbrev pub LacksWord : {K : Type 0} → K → K → Text → Refusal K → Type 0
LacksWord other ended (WordAt at w rest) e = ⊥
LacksWord other ended (OpenAt at rest) e = e ≡ Bad at other
LacksWord other ended (CloseAt at rest) e = e ≡ Bad at other
LacksWord other ended (EndAt at) e = e ≡ Bad at ended

-- a closing parenthesis was taken at this place, or none is next
abbrev pub Closes : Option ℕ → Text → Text → Type 0
Closes (Some at) old new = old ≡ CloseAt at new
Closes None old new = (new ≡ old) × (past_ending Parenthesis old ≡ None)

-- the text ends at this place, or something is left
abbrev pub IsAtEnd : Option ℕ → Text → Type 0
IsAtEnd (Some at) text = text ≡ EndAt at
IsAtEnd None text = past_ending TheEnd text ≡ None

-- what ends a list was taken at this place, or it isn't next
abbrev pub Passes : Ending → Option ℕ → Text → Text → Type 0
Passes ending (Some at) old new = (past_ending ending old ≡ Some new) × (place old ≡ at)
Passes ending None old new = (new ≡ old) × (past_ending ending old ≡ None)

-- a turn of a list: with more to come, the reading of the whole is that of the rest; at the end it gave all; at a fault it fails with it
abbrev pub TakesElement : {K X : Type 0} → Result Bool (Refusal K) → Read K X → Read K X → Read K X → Type 0
TakesElement (Ok true) before after all = before ≡ after
TakesElement (Ok false) before after all = before ≡ all
TakesElement (Err e) before after all = Fails e before
