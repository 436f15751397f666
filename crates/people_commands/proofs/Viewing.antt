-- a report that was fetched, and a state that is lacking, don't end in a fault of reading
use Rattle.std.proofs.Common.{◌≡◌, ◌∙◌, ℕ, List, [], ◌∷◌, Result, Ok, Err, inl, inr, sym, IfOk, MatchResult}
use Rattle.plan_terms.specs.Terms.{Case, Notes}
use Rattle.plan_report.specs.Terms.{Outcome, Planned, Unsurvivable}
use Rattle.outside_io.{specs.declared.status.Status.Status, specs.declared.status.Status.TheVariants.{BadWords, ReadFault}}
use Rattle.people_files.{specs.Endings.{FailsReading, Halts, HasCauseForPeople, halt_status}, specs.declared.stop.Halt.Halt}
use Rattle.people_views.{specs.ProofLines.{FailsAtLines, FailsAtOutcomeLines}, specs.Terms.{IsFormOf, EndsReport, LacksState, NamesState, PicturesState}, specs.declared.form.ViewForm.ViewForm}
use Rattle.people_words.specs.PeopleCommands.{AskedForm}
use Rattle.people_commands.specs.Endings.{AsksForm, LacksForm}
use Rattle.people_files.specs.declared.stop.Halt.TheVariants as halt
use Rattle.people_words.specs.PeopleCommands as asked

-- the lines below a report
outcome_read : (name : List ℕ) (p : Case) (outcome : Outcome) (bytes : List ℕ) (s : Status) (m : List ℕ) → FailsAtOutcomeLines name p outcome bytes s m → s ≡ ReadFault → ⊥
outcome_read name p (Planned caller serial plan) bytes s m (has, inl (bad, shown)) is = absurd (cc (sym bad ∙ is))
outcome_read name p (Planned caller serial plan) bytes s m (has, inr (bad, shown)) is = absurd (cc (sym bad ∙ is))
outcome_read name p (Unsurvivable caller serial version position state demand) bytes s m fails is = absurd fails

lines_read : (name : List ℕ) (p : Case) (outcomes : List Outcome) (bytes : List ℕ) (s : Status) (m : List ℕ) → FailsAtLines name p outcomes bytes s m → s ≡ ReadFault → ⊥
lines_read name p [] bytes s m fails is = absurd fails
lines_read name p (outcome ∷ []) bytes s m fails is = outcome_read name p outcome bytes s m fails is
lines_read name p (outcome ∷ other ∷ outcomes) bytes s m fails is = absurd fails

-- the whole report
ends_read : (form : ViewForm) (network name : List ℕ) (p : Case) (notes : Notes) (bytes : List ℕ) (s : Status) (text m : List ℕ)
    → EndsReport form network name p notes bytes s text m → s ≡ ReadFault → ⊥
ends_read form network name p notes bytes s text m (inl (bad, nothing, shown)) is = absurd (cc (sym bad ∙ is))
ends_read form network name p notes bytes s text m (inr (r, spelled, inl (bad, nothing, told))) is = absurd (cc (sym bad ∙ is))
ends_read form network name p notes bytes s text m (inr (r, spelled, inr (accepted, inl (nothing, fails)))) is = lines_read name p r.outcomes bytes s m fails is
ends_read form network name p notes bytes s text m (inr (r, spelled, inr (accepted, inr (done, none, seen)))) is = absurd (cc (sym done ∙ is))

pub view_read : (form : ViewForm) (network name : List ℕ) (p : Case) (notes : Notes) (bytes : List ℕ) (r : Result (List ℕ) Halt)
    → HasCauseForPeople (EndsReport form network name p notes bytes) r → FailsReading r → ⊥
view_read form network name p notes bytes (Ok text) ends is = absurd is
view_read form network name p notes bytes (Err halt.NoMemory) ends is = absurd (cc is)
view_read form network name p notes bytes (Err (halt.Told told)) ends is = ends_read form network name p notes bytes told.status [] told.message ends is

-- ---- the form that is asked for

pub form_named : (p : Case) (name : List ℕ) (r : Result ViewForm Halt) → MatchResult r (NamesState p.listed name) (Halts (LacksState p.listed name))
    → IfOk r (IsFormOf p)
    → MatchResult r (λ form. AsksForm p (asked.State name) form × IsFormOf p form) (Halts (LacksForm p (asked.State name)))
form_named p name (Ok form) named of = (named, of)
form_named p name (Err h) lacks of = lacks

pub form_pictured : (p : Case) (name : List ℕ) (r : Result ViewForm Halt) → MatchResult r (PicturesState p.listed name) (Halts (LacksState p.listed name))
    → IfOk r (IsFormOf p)
    → MatchResult r (λ form. AsksForm p (asked.Picture name) form × IsFormOf p form) (Halts (LacksForm p (asked.Picture name)))
form_pictured p name (Ok form) named of = (named, of)
form_pictured p name (Err h) lacks of = lacks

says_words : (p : Case) (form : AskedForm) (s : Status) (m : List ℕ) → LacksForm p form s m → s ≡ BadWords
says_words p asked.Tables s m lacks = absurd lacks
says_words p (asked.Values sheet) s m lacks = absurd lacks
says_words p (asked.State name) s m lacks = lacks.1
says_words p (asked.Picture name) s m lacks = lacks.1

-- a state that is lacking is no file that can't be read
pub lacks_read : (p : Case) (form : AskedForm) (h : Halt) → Halts (LacksForm p form) h → halt_status h ≡ ReadFault → ⊥
lacks_read p form halt.NoMemory lacks is = absurd (cc is)
lacks_read p form (halt.Told told) lacks is = absurd (cc (sym (says_words p form told.status told.message lacks) ∙ is))
