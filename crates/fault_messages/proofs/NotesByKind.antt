-- what is put last by the kind of the first fault
use Rattle.std.proofs.Common.{◌≡◌, ◌≢◌, ◌++◌, ◌∙◌, ℕ, List, [], append-nil, refl, sym}
use Rattle.fault_messages.specs.Notes.{AreNotesByKind}

module _ {K : Type 0} {other_header unknown_word kind : K} {OnHeader OnWord : List ℕ → Type 0} (old : List ℕ) where
  -- a note on the header
  pub header_put : {new : List ℕ} → kind ≡ other_header → (other_header ≡ unknown_word → ⊥) → (note : List ℕ) × OnHeader note × (new ≡ old ++ note)
      → (notes : List ℕ) × AreNotesByKind other_header unknown_word OnHeader OnWord kind notes × (new ≡ old ++ notes)
  header_put is apart q = (q.0, record { header = λ e. q.1; word = λ e. absurd (apart (sym is ∙ e)); none = λ a b. absurd (a is) }, q.2)

  -- a note on a word
  pub word_put : {new : List ℕ} → kind ≡ unknown_word → (other_header ≡ unknown_word → ⊥) → (note : List ℕ) × OnWord note × (new ≡ old ++ note)
      → (notes : List ℕ) × AreNotesByKind other_header unknown_word OnHeader OnWord kind notes × (new ≡ old ++ notes)
  word_put is apart q = (q.0, record { header = λ e. absurd (apart (sym e ∙ is)); word = λ e. q.1; none = λ a b. absurd (b is) }, q.2)

  -- nothing
  pub none_put : kind ≢ other_header → kind ≢ unknown_word
      → (notes : List ℕ) × AreNotesByKind other_header unknown_word OnHeader OnWord kind notes × (old ≡ old ++ notes)
  none_put a b = ([], record { header = λ e. absurd (a e); word = λ e. absurd (b e); none = λ _ _. refl }, sym (append-nil old))
