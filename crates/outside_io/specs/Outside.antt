-- what shelves and sinks answer
use Rattle.std.{specs.Prelude.{◌≡◌, ℕ, ◌+◌, ◌-◌, ◌^◌, ◌≤◌, ◌<◌, min, List, [], ◌∷◌, ◌++◌, length, take, Option, None, Some, IfSome, IsSomeAnd, Result, MatchResult, ⊤, cond, ◌==◌}, specs.Cmp.Lexicographic.pointwise}
use Rattle.outside_io.{specs.declared.shelf.Fetch.Fetch, specs.declared.shelf.Fetch.TheVariants.{Found, Missing, TooLong, Failed, NoMemory}}

-- one more, in a count of 64 bits that stays at its end
abbrev pub one_more : ℕ → ℕ
one_more count = min (count + 1) (2 ^ 64 - 1)

-- a count of faults has risen, or is at its end
abbrev pub Rose : ℕ → ℕ → Type 0
Rose before now = one_more before ≤ now

-- a shelf has failed
abbrev pub HasFailed : Fetch → Type 0
HasFailed (Failed fault) = ⊤
HasFailed _ = ⊥

-- files, each by its name and its bytes
abbrev pub Files : Type 0
Files = List (List ℕ × List ℕ)

-- the bytes of the file of a name
abbrev pub content : Files → List ℕ → Option (List ℕ)
content [] name = None
content (f ∷ files) name = cond (pointwise ◌==◌ f.0 name) (Some f.1) (content files name)

-- What a fetch of a name answers, and what it leaves in the buffer: the whole content where it keeps the limit, and nothing else.
-- Where the shelf tells its files, the answer is that of the file of the name.
abbrev pub Fetches : Option Files → List ℕ → ℕ → Fetch → List ℕ → Type 0
Fetches told name limit Found into = IfSome told (λ files. content files name ≡ Some into) × (length into ≤ limit)
Fetches told name limit Missing into = IfSome told (λ files. content files name ≡ None) × (into ≡ [])
Fetches told name limit TooLong into = IfSome told (λ files. IsSomeAnd (content files name) (λ bytes. limit < length bytes)) × (into ≡ [])
Fetches told name limit (Failed fault) into = into ≡ []
Fetches told name limit NoMemory into = into ≡ []

-- a sink takes these bytes, where it tells what it has taken
abbrev pub Takes : Option (List ℕ) → Option (List ℕ) → List ℕ → Type 0
Takes None new bytes = new ≡ None
Takes (Some old) new bytes = new ≡ Some (old ++ bytes)

-- a sink takes a prefix of the piece
abbrev pub TakesPrefix : Option (List ℕ) → Option (List ℕ) → List ℕ → Type 0
TakesPrefix old new piece = (n : ℕ) × (n ≤ length piece) × Takes old new (take n piece)

-- a put takes the whole piece, or at a fault a prefix of it
abbrev pub Puts : {E : Type 0} → Option (List ℕ) → Option (List ℕ) → Result (Unit {0}) E → List ℕ → Type 0
Puts old new answer piece = MatchResult answer (λ _. Takes old new piece) (λ _. TakesPrefix old new piece)
