-- what is said of a fault, part after part
use Rattle.std.proofs.Common.{◌≡◌, ℕ, List, ◌++◌, append_assoc, codes, refl}
use Rattle.text_layout.{specs.Places.IsPlace, specs.Windows.IsWindow}
use Rattle.fault_texts.{specs.FaultTexts.{IsFaultText, excerpt_text, fault_text, place_text}, specs.Quotes.{IsHere, note_text}}

pub told : (text name bytes : List ℕ) (at : ℕ) (wrong help : List ℕ) (line column from to : ℕ) (placed shown stood whole : List ℕ)
    → IsPlace bytes at line column → IsWindow bytes at from to
    → placed ≡ text ++ place_text name line column → shown ≡ placed ++ wrong ++ codes "\n" ++ excerpt_text bytes at from to
    → (here : List ℕ) × IsHere bytes at here × (stood ≡ shown ++ here) → whole ≡ stood ++ note_text help
    → (x : List ℕ) × IsFaultText name bytes at wrong help x × (whole ≡ text ++ x)
told text name bytes at wrong help line column from to placed shown stood whole place window p q here r = (
  fault_text name bytes at wrong help line column from to here.0,
  record { line = line; column = column; from = from; to = to; here = here.0; is_place = place; is_window = window; is_here = here.1; printed = refl },
  simp (r, here.2, q, p, append_assoc) refl,
)

-- a word in quotes
pub front_put : (old word dots a b c whole : List ℕ) → a ≡ old ++ codes "`" → b ≡ a ++ word → c ≡ b ++ dots → whole ≡ c ++ codes "`"
    → whole ≡ old ++ (codes "`" ++ word ++ dots ++ codes "`")
front_put old word dots a b c whole p q r s = simp (s, r, q, p, append_assoc) refl

-- a line that says which word is here
pub here_put : (old quote a b whole : List ℕ) → a ≡ old ++ codes "  here stands " → b ≡ a ++ quote → whole ≡ b ++ codes "\n"
    → whole ≡ old ++ note_text (codes "here stands " ++ quote)
here_put old quote a b whole p q r = simp (r, q, p, append_assoc) refl
