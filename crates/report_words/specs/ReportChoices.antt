-- Words that say what comes after them, and lists of numbers.
use Rattle.std.specs.Prelude.{ℕ, Bool, true, if◌then◌else◌, List, [], ◌∷◌, Result, Err}
use Rattle.net_core.specs.Terms.{are_same}
use Rattle.snd_tokens.specs.Terms.{WordAt, OpenAt, CloseAt, EndAt}
use Rattle.text_kit.specs.Terms.{Reading, ◌>>=◌, list_at, of_length, Parenthesis, placed}
use Rattle.report_words.{specs.declared.fault.ReportKind.ReportKind, specs.declared.fault.ReportKind.TheVariants.{Token, Ended, Limit}, specs.ReportWords.{has_room, opening_at, room_number_at}}

-- words, each with the reading of what comes after it
abbrev pub Branches : Type 0 → Type 0
Branches X = List (List ℕ × Reading ReportKind X)

-- the reading after a word at a place, by the first branch that has it
abbrev pub branch_of : {X : Type 0} → Bool → Branches X → ℕ → List ℕ → Reading ReportKind X
branch_of room [] at w text = Err (at, Token)
branch_of room (b ∷ bs) at w text = if are_same w b.0 then (if room then b.1 text else Err (at, Limit)) else branch_of room bs at w text

-- a word of a branch, where there is room for what it begins, and what comes after it; or a closing parenthesis, if one is allowed there
abbrev pub branch_or : {X : Type 0} → Bool → Result X ReportKind → Branches X → Reading ReportKind X
branch_or room closing branches (WordAt at w rest) = branch_of room branches at w rest
branch_or room closing branches (OpenAt at rest) = Err (at, Token)
branch_or room closing branches (CloseAt at rest) = placed at rest closing
branch_or room closing branches (EndAt at) = Err (at, Ended)

abbrev pub branch_within : {X : Type 0} → Bool → Branches X → Reading ReportKind X
branch_within room branches = branch_or room (Err Token) branches

abbrev pub branch_at : {X : Type 0} → Branches X → Reading ReportKind X
branch_at branches = branch_within true branches

-- a number below a limit, after others of which n are due
abbrev pub next_number_at : ℕ → ℕ → List ℕ → Reading ReportKind ℕ
next_number_at n limit sofar = room_number_at (has_room n sofar) limit

-- n numbers below a limit, between parentheses
unfoldable pub numbers_at : ℕ → ℕ → Reading ReportKind (List ℕ)
numbers_at n limit = opening_at >>= λ _. list_at Parenthesis (of_length n Limit) (next_number_at n limit) []
