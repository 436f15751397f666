-- A whole report ends where its file does.
use Rattle.std.proofs.Common.{◌≡◌, ℕ, Bool, true, cond, List, Result, Ok, Err, sym, ap, ◌∙◌}
use Rattle.plan_terms.specs.Terms.{are_same}
use Rattle.plan_report.specs.Terms.{report_header, KnownNames, Report}
use Rattle.snd_tokens.specs.Terms.{first_line, trimmed, Text, WordAt, OpenAt, CloseAt, EndAt}
use Rattle.text_kit.{specs.Terms.{ReadsAllAs, ReadsAs, body, Read, after, end_at, give}, specs.declared.refusal.Refusal.Refusal, specs.declared.refusal.Refusal.TheVariants.{Bad, NoMemory}, proofs.Lemmas.ok_parts}
use Rattle.report_words.{specs.declared.fault.ReportKind.ReportKind, specs.declared.fault.ReportKind.TheVariants.{Header, Section}}
use Rattle.report_reader.specs.ReadingReport.{report_at, report_of, sections_at}

end_is : (x y : Report) (text rest : Text) → after (end_at Section text) (λ u. give x) ≡ Ok (y, rest) → (at : ℕ) × (rest ≡ EndAt at)
end_is x y (WordAt at w t) rest e = absurd cc
end_is x y (OpenAt at t) rest e = absurd cc
end_is x y (CloseAt at t) rest e = absurd cc
end_is x y (EndAt at) rest e = (at, sym (ok_parts {K = ReportKind} x y (EndAt at) rest e).1)

whole_end : (q : Read ReportKind Report) (y : Report) (rest : Text) → after q (λ x t. after (end_at Section t) (λ u. give x)) ≡ Ok (y, rest) → (at : ℕ) × (rest ≡ EndAt at)
whole_end (Ok p) y rest e = end_is p.0 y p.1 rest e
whole_end (Err d) y rest e = absurd cc

pub file_ok : (names : KnownNames) (bytes : List ℕ) (r : Report) (rest : Text) → are_same (trimmed (first_line bytes)) (report_header names.places) ≡ true
    → report_at names (body bytes) ≡ Ok (r, rest) → (at : ℕ) × (report_of names bytes ≡ Ok (r, EndAt at))
file_ok names bytes r rest line read =
    let e = whole_end (sections_at names (body bytes)) r rest read in
    (e.0, ap (λ (b : Bool). cond b (report_at names (body bytes)) (Err (0, Header))) line ∙ (read ∙ ap (λ (t : Text). Ok (r, t)) e.1))

pub file_answer : (names : KnownNames) (bytes : List ℕ) (a : Result Report (Refusal ReportKind)) (rest : Text) → are_same (trimmed (first_line bytes)) (report_header names.places) ≡ true
    → ReadsAs (λ (r : Report). r) a rest (report_at names (body bytes)) → ReadsAllAs (λ (r : Report). r) a (report_of names bytes)
file_answer names bytes (Ok r) rest line read = file_ok names bytes r rest line read
file_answer names bytes (Err (Bad at kind)) rest line read = ap (λ (b : Bool). cond b (report_at names (body bytes)) (Err (0, Header))) line ∙ read
file_answer names bytes (Err NoMemory) rest line read = tt
