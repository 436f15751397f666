-- what is said of a fault, as text
use Rattle.std.specs.Prelude.{◌≡◌, ℕ, ◌+◌, List, ◌++◌, codes, decimal}
use Rattle.text_layout.{specs.Places.{IsPlace, bytes_between, characters}, specs.Windows.IsWindow, specs.Cells.spaces}
use Rattle.fault_texts.{specs.Controls.shown, specs.Quotes.{IsHere, note_text}, specs.declared.sentence.Sentence.Sentence}

-- a file's name, a line and a column
abbrev pub place_text : List ℕ → ℕ → ℕ → List ℕ
place_text name line column = name ++ codes ":" ++ decimal line ++ codes ":" ++ decimal column ++ codes ": "

-- a part of a line, and below it a caret under one of its bytes
abbrev pub excerpt_text : List ℕ → ℕ → ℕ → ℕ → List ℕ
excerpt_text bytes at from to =
    spaces 4 ++ shown (bytes_between from to bytes) ++ codes "\n" ++ spaces (4 + characters (bytes_between from at bytes)) ++ codes "^\n"

-- what is said of a byte of a file: where it is and what is wrong there, its line with a caret under the byte, what is there, and what helps
abbrev pub fault_text : List ℕ → List ℕ → ℕ → List ℕ → List ℕ → ℕ → ℕ → ℕ → ℕ → List ℕ → List ℕ
fault_text name bytes at wrong help line column from to here =
    place_text name line column ++ wrong ++ codes "\n" ++ excerpt_text bytes at from to ++ here ++ note_text help

-- The text is what is said of a byte of a file, by its line, its column, its window and what is there.
pub record IsFaultText (name bytes : List ℕ) (at : ℕ) (wrong help text : List ℕ) : Type 0 where
  pub line : ℕ
  pub column : ℕ
  pub from : ℕ
  pub to : ℕ
  pub here : List ℕ
  pub is_place : IsPlace bytes at line column
  pub is_window : IsWindow bytes at from to
  pub is_here : IsHere bytes at here
  pub printed : text ≡ fault_text name bytes at wrong help line column from to here

-- The sentence has these words: what is wrong, and what helps.
abbrev pub HasWords : Sentence → List ℕ × List ℕ → Type 0
HasWords s words = (s.wrong.now ≡ words.0) × (s.help.now ≡ words.1)
