-- a note's line, part after part
use Rattle.std.proofs.Common.{◌≡◌, List, ℕ, ◌++◌, append_assoc, codes, refl}
use Rattle.fault_texts.specs.Quotes.{note_text}

pub question_put : (old quote front whole all : List ℕ) → front ≡ old ++ codes "  did you mean " → whole ≡ front ++ quote → all ≡ whole ++ codes "?\n"
    → all ≡ old ++ note_text (codes "did you mean " ++ quote ++ codes "?")
question_put old quote front whole all p q r = simp (r, q, p, append_assoc) refl
