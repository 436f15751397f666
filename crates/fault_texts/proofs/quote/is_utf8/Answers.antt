use Rattle.std.{proofs.Common.{◌≡◌, ℕ, List, false, sym, ⊎_elim}, proofs.lemmas.Bool.cases_Bool, proofs.lemmas.Str.{IsUtf8-from_is_utf8, is_utf8-from_IsUtf8}, specs.Str.{IsUtf8, is_utf8}}
use Rattle.fault_texts.proofs.quote.is_utf8.Goals as goal

not_utf8 : (bytes : List ℕ) → (IsUtf8 bytes → ⊥) → false ≡ is_utf8 bytes
not_utf8 bytes never = ⊎_elim (λ t. absurd (never (IsUtf8-from_is_utf8 bytes t))) (λ f. sym f) (cases_Bool (is_utf8 bytes))

pub returns-in-Ok : goal.returns-in-Ok
returns-in-Ok c = sym (is_utf8-from_IsUtf8 c.args.bytes.now c.in-Ok.ensures.cases.1)

pub returns-in-Err : goal.returns-in-Err
returns-in-Err c = not_utf8 c.args.bytes.now c.in-Err.ensures.cases.0
