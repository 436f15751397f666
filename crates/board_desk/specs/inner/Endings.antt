-- what a board is at the end of a turn
use Rattle.std.specs.Prelude.{◌≡◌, ◌++◌, List, [], ◌∷◌, Bool, true, false}
use Rattle.plan_terms.specs.Terms.{Entry}
use Rattle.cut_pool.{specs.declared.answers.AdmitAnswer.AdmitAnswer, specs.declared.answers.EditAnswer.EditAnswer}
use Rattle.cut_pool.specs.declared.answers.AdmitAnswer.TheVariants as admitting
use Rattle.cut_pool.specs.declared.answers.EditAnswer.TheVariants as editing

-- a board that answers an edit so has one entry more
abbrev pub edit_enters : EditAnswer → Bool
edit_enters (editing.At position reply) = true
edit_enters (editing.Full back) = false
edit_enters (editing.NoMemory back) = false

-- a board that answers a cut so has one entry more
abbrev pub cut_enters : AdmitAnswer → Bool
cut_enters (admitting.Admitted index position) = true
cut_enters (admitting.Known index back) = false
cut_enters (admitting.PoolFull back) = false
cut_enters (admitting.Full back) = false
cut_enters (admitting.NoMemory back) = false

-- there is one entry more, or all is as it was
abbrev pub IsGrown : Bool → List Entry → List Entry → Type 0
IsGrown true before after = (entry : Entry) × (after ≡ before ++ entry ∷ [])
IsGrown false before after = after ≡ before
