-- A fault of a tree is that of each text that agrees with it past the token at its place.
use Rattle.std.proofs.Common.{◌≡◌, ℕ, zero, suc, ◌+◌, ◌<◌, ◌≤◌, List, length, take, drop, Ok, Err, refl, sym, ap, ◌∙◌, arith, ⊎_elim}
use Rattle.net_core.proofs.Library.{cases_lt}
use Rattle.plan_terms.specs.Terms.{Demand}
use Rattle.plan_report.specs.Terms.{KnownNames}
use Rattle.snd_tokens.specs.Terms.{Text, WordAt, OpenAt, CloseAt, EndAt, run_length}
use Rattle.text_kit.{specs.Terms.{Read, place}, proofs.Lemmas.{Same, IsOnline, take_less}}
use Rattle.report_words.{specs.declared.fault.ReportKind.ReportKind, specs.declared.fault.ReportKind.TheVariants.{Token, Ended, Limit}}
use Rattle.tree_check.specs.declared.proof.Verdict.{Verdict}
use Rattle.tree_reader.{specs.declared.sofar.Sofar.Sofar, specs.declared.sofar.TreeLine.TreeLine, specs.declared.sofar.TreeLine.TheVariants.{Cut, Further, Branch, Last}, specs.CommentTexts.{Comments, CommentAt, OtherAt, NoneAt, comments_from}, specs.ReadingTrees.{TreeRead, after_line, ended_by, lines_at, put_line, tree_line_at}, proofs.Places.{Line, Else, Done, comment_at, end_same, end_within, line_after, line_end, line_text, next_of, text_same}, proofs.TokenEnds.line_same}

same_place : (t u : Text) → Same 1 t u → place u ≡ place t
same_place (WordAt p w t) u same = ap place same.1
same_place (OpenAt p t) u same = ap place same.1
same_place (CloseAt p t) u same = ap place same.1
same_place (EndAt p) u same = ap place same

-- the place of a fault
fault_place : (p q : ℕ) (k l : ReportKind) → (let r : TreeRead = Err (p, k) in r ≡ Err (q, l)) → p ≡ q
fault_place p q k l e = let o : (p, k) ≡ (q, l) = cc in ap (λ (i : ℕ × ReportKind). i.0) o

module _ (known : KnownNames) (demands : List Demand) (on : (s : Sofar) → IsOnline (tree_line_at known demands s)) (at : ℕ) (kind : ReportKind) where
  abbrev Fault : TreeRead
  Fault = Err (at, kind)

  abbrev lines : Sofar → Comments → TreeRead
  lines s cs = lines_at known demands s cs

  -- ---- where a fault is

  module _ (bytes : List ℕ) where
    ended_later : (s : Sofar) (v : Verdict) (from : ℕ) → from ≤ length bytes → ended_by s v (comments_from from bytes) ≡ Fault → from ≤ at
    ended_later s v from within e = elim (next_of bytes from within) [
      | Line p le lt to ↦
          let f : ended_by s v (comment_at p bytes) ≡ Fault = ap (λ (cs : Comments). ended_by s v cs) (sym (to bytes lt refl)) ∙ e in
          omega (arith, le, line_after p bytes 0 lt, fault_place (place (line_text p bytes)) at Limit kind f)
      | Else p le lt to ↦
          let f : ended_by s v (OtherAt p) ≡ Fault = ap (λ (cs : Comments). ended_by s v cs) (sym (to bytes lt refl)) ∙ e in
          omega (arith, le, fault_place p at Token kind f)
      | Done is ↦
          let f : ended_by s v (NoneAt (length bytes)) ≡ Fault = ap (λ (cs : Comments). ended_by s v cs) (sym is) ∙ e in absurd cc
    ]

    -- a fault in what follows a line that was read isn't before the end of that line
    put_later : (s : Sofar) (x : TreeLine) (from : ℕ) → from ≤ length bytes → ((t : Sofar) → lines t (comments_from from bytes) ≡ Fault → from ≤ at)
        → put_line s x (λ t. lines t (comments_from from bytes)) (λ v. ended_by s v (comments_from from bytes)) ≡ Fault → from ≤ at
    put_later s (Cut c) from within later e = later _ e
    put_later s (Further l) from within later e = later _ e
    put_later s (Branch n) from within later e = later _ e
    put_later s (Last v) from within later e = ended_later s v from within e

    line_later : (s : Sofar) (p : ℕ) (q : Read ReportKind TreeLine) → p < length bytes → ((t : Sofar) → lines t (comments_from (line_end p bytes) bytes) ≡ Fault → line_end p bytes ≤ at) → tree_line_at known demands s (line_text p bytes) ≡ q
        → after_line s q (λ t. lines t (comments_from (line_end p bytes) bytes)) (λ v. ended_by s v (comments_from (line_end p bytes) bytes)) ≡ Fault → p + 1 ≤ at
    line_later s p (Ok x) lt later is e = omega (arith, put_later s x.0 (line_end p bytes) (end_within p bytes lt) later e)
    line_later s p (Err d) lt later is e =
        let two : d ≡ (at, kind) = cc in
        let f = (on s).failed (line_text p bytes) at kind (is ∙ ap (λ (i : ℕ × ReportKind). Err i) two) in
        omega (arith, line_after p bytes f.count lt, f.here)

    later : (n : ℕ) (s : Sofar) (from : ℕ) → from ≤ length bytes → length bytes < from + n → lines s (comments_from from bytes) ≡ Fault → from ≤ at
    later zero s from within enough e = absurd (omega (arith, within, enough))
    later (suc n) s from within enough e = elim (next_of bytes from within) [
      | Line p le lt to ↦
          let f : lines s (comment_at p bytes) ≡ Fault = ap (λ (cs : Comments). lines s cs) (sym (to bytes lt refl)) ∙ e in
          omega (arith, le, line_later s p (tree_line_at known demands s (line_text p bytes)) lt (λ t h. later n t (line_end p bytes) (end_within p bytes lt) (omega (arith, le, enough)) h) refl f)
      | Else p le lt to ↦
          let f : lines s (OtherAt p) ≡ Fault = ap (λ (cs : Comments). lines s cs) (sym (to bytes lt refl)) ∙ e in
          omega (arith, le, fault_place p at Token kind f)
      | Done is ↦
          let f : lines s (NoneAt (length bytes)) ≡ Fault = ap (λ (cs : Comments). lines s cs) (sym is) ∙ e in
          omega (arith, within, fault_place (length bytes) at Ended kind f)
    ]

    all_later : (t : Sofar) (from : ℕ) → from ≤ length bytes → lines t (comments_from from bytes) ≡ Fault → from ≤ at
    all_later t from within e = later (suc (length bytes)) t from within (omega arith) e

  -- ---- texts that agree past it

  module _ (bytes other : List ℕ) (n : ℕ) (same : take n bytes ≡ take n other) (whole : n ≤ length bytes) (long : n ≤ length other) (less : at + 1 < n) (run : at + run_length (drop at bytes) < n) where
    -- the first word of a line
    first_same : (p : ℕ) → p < length bytes → place (line_text p bytes) ≡ at → place (line_text p other) ≡ at
    first_same p lt here = ⊎_elim
        (λ short. ap place (text_same bytes other p n same short) ∙ here)
        (λ more. same_place (line_text p bytes) (line_text p other) (line_same bytes other p at n 0 lt whole same more less run here) ∙ here)
        (cases_lt (line_end p bytes) n)

    -- both texts agree up to and including each byte that isn't past the fault's place
    shared : (p : ℕ) → p ≤ at → take (p + 1) bytes ≡ take (p + 1) other
    shared p le = take_less (p + 1) n bytes other (omega (arith, le, less)) same

    ended_same : (s : Sofar) (v : Verdict) (from : ℕ) → from ≤ length bytes → ended_by s v (comments_from from bytes) ≡ Fault → ended_by s v (comments_from from other) ≡ Fault
    ended_same s v from within e = elim (next_of bytes from within) [
      | Line p le lt to ↦
          let f : ended_by s v (comment_at p bytes) ≡ Fault = ap (λ (cs : Comments). ended_by s v cs) (sym (to bytes lt refl)) ∙ e in
          let here : place (line_text p bytes) ≡ at = fault_place (place (line_text p bytes)) at Limit kind f in
          let after : p + 1 ≤ at = omega (arith, line_after p bytes 0 lt, here) in
          ap (λ (cs : Comments). ended_by s v cs) (to other (omega (arith, after, less, long)) (shared p (omega (arith, after))))
          ∙ (ap (λ (i : ℕ). Err (i, Limit)) (first_same p lt here ∙ sym here) ∙ f)
      | Else p le lt to ↦
          let f : ended_by s v (OtherAt p) ≡ Fault = ap (λ (cs : Comments). ended_by s v cs) (sym (to bytes lt refl)) ∙ e in
          let here : p ≡ at = fault_place p at Token kind f in
          ap (λ (cs : Comments). ended_by s v cs) (to other (omega (arith, here, less, long)) (shared p (omega (arith, here)))) ∙ f
      | Done is ↦
          let f : ended_by s v (NoneAt (length bytes)) ≡ Fault = ap (λ (cs : Comments). ended_by s v cs) (sym is) ∙ e in absurd cc
    ]

    put_same : (s : Sofar) (x : TreeLine) (from : ℕ) → from ≤ length bytes → ((t : Sofar) → lines t (comments_from from bytes) ≡ Fault → lines t (comments_from from other) ≡ Fault)
        → put_line s x (λ t. lines t (comments_from from bytes)) (λ v. ended_by s v (comments_from from bytes)) ≡ Fault
        → put_line s x (λ t. lines t (comments_from from other)) (λ v. ended_by s v (comments_from from other)) ≡ Fault
    put_same s (Cut c) from within following e = following _ e
    put_same s (Further l) from within following e = following _ e
    put_same s (Branch b) from within following e = following _ e
    put_same s (Last v) from within following e = ended_same s v from within e

    -- a line that ends among the bytes that agree
    short_same : (s : Sofar) (p : ℕ) (q : Read ReportKind TreeLine) → p < length bytes → ((t : Sofar) → lines t (comments_from (line_end p bytes) bytes) ≡ Fault → lines t (comments_from (line_end p bytes) other) ≡ Fault)
        → after_line s q (λ t. lines t (comments_from (line_end p bytes) bytes)) (λ v. ended_by s v (comments_from (line_end p bytes) bytes)) ≡ Fault
        → after_line s q (λ t. lines t (comments_from (line_end p bytes) other)) (λ v. ended_by s v (comments_from (line_end p bytes) other)) ≡ Fault
    short_same s p (Ok x) lt following e = put_same s x.0 (line_end p bytes) (end_within p bytes lt) following e
    short_same s p (Err d) lt following e = e

    -- a line that goes on past them has the fault
    long_same : (s : Sofar) (p : ℕ) (q : Read ReportKind TreeLine) → p < length bytes → n ≤ line_end p bytes → tree_line_at known demands s (line_text p bytes) ≡ q
        → after_line s q (λ t. lines t (comments_from (line_end p bytes) bytes)) (λ v. ended_by s v (comments_from (line_end p bytes) bytes)) ≡ Fault
        → lines s (comment_at p other) ≡ Fault
    long_same s p (Ok x) lt more is e =
        let within = end_within p bytes lt in
        absurd (omega (arith, put_later bytes s x.0 (line_end p bytes) within (λ t h. all_later bytes t (line_end p bytes) within h) e, more, less))
    long_same s p (Err d) lt more is e =
        let two : d ≡ (at, kind) = cc in
        let f = (on s).failed (line_text p bytes) at kind (is ∙ ap (λ (i : ℕ × ReportKind). Err i) two) in
        let there = f.again (line_text p other) (line_same bytes other p at n f.count lt whole same more less run f.here) in
        ap (λ (q : Read ReportKind TreeLine). after_line s q (λ t. lines t (comments_from (line_end p other) other)) (λ v. ended_by s v (comments_from (line_end p other) other))) there

    line_kept : (s : Sofar) (p : ℕ) → p < length bytes → ((t : Sofar) → lines t (comments_from (line_end p bytes) bytes) ≡ Fault → lines t (comments_from (line_end p bytes) other) ≡ Fault)
        → lines s (comment_at p bytes) ≡ Fault → lines s (comment_at p other) ≡ Fault
    line_kept s p lt following e = ⊎_elim
        (λ short.
        let text : line_text p other ≡ line_text p bytes = text_same bytes other p n same short in
        let end : line_end p other ≡ line_end p bytes = end_same bytes other p n same short in
        let here : comment_at p other ≡ CommentAt (line_text p bytes) (comments_from (line_end p bytes) other) =
        ap (λ (t : Text). CommentAt t (comments_from (line_end p other) other)) text ∙ ap (λ (i : ℕ). CommentAt (line_text p bytes) (comments_from i other)) end in
        ap (λ (cs : Comments). lines s cs) here ∙ short_same s p (tree_line_at known demands s (line_text p bytes)) lt following e)
        (λ more. long_same s p (tree_line_at known demands s (line_text p bytes)) lt more refl e)
        (cases_lt (line_end p bytes) n)

    kept : (k : ℕ) (s : Sofar) (from : ℕ) → from ≤ length bytes → length bytes < from + k → lines s (comments_from from bytes) ≡ Fault → lines s (comments_from from other) ≡ Fault
    kept zero s from within enough e = absurd (omega (arith, within, enough))
    kept (suc k) s from within enough e = elim (next_of bytes from within) [
      | Line p le lt to ↦
          let f : lines s (comment_at p bytes) ≡ Fault = ap (λ (cs : Comments). lines s cs) (sym (to bytes lt refl)) ∙ e in
          let end = end_within p bytes lt in
          let after : p + 1 ≤ at = line_later bytes s p (tree_line_at known demands s (line_text p bytes)) lt (λ t h. all_later bytes t (line_end p bytes) end h) refl f in
          ap (λ (cs : Comments). lines s cs) (to other (omega (arith, after, less, long)) (shared p (omega (arith, after))))
          ∙ line_kept s p lt (λ t h. kept k t (line_end p bytes) end (omega (arith, le, enough)) h) f
      | Else p le lt to ↦
          let f : lines s (OtherAt p) ≡ Fault = ap (λ (cs : Comments). lines s cs) (sym (to bytes lt refl)) ∙ e in
          let here : p ≡ at = fault_place p at Token kind f in
          ap (λ (cs : Comments). lines s cs) (to other (omega (arith, here, less, long)) (shared p (omega (arith, here)))) ∙ f
      | Done is ↦
          let f : lines s (NoneAt (length bytes)) ≡ Fault = ap (λ (cs : Comments). lines s cs) (sym is) ∙ e in
          absurd (omega (arith, fault_place (length bytes) at Ended kind f, less, whole))
    ]

    pub fault_same : (s : Sofar) (from : ℕ) → from ≤ length bytes → lines_at known demands s (comments_from from bytes) ≡ Err (at, kind) → lines_at known demands s (comments_from from other) ≡ Err (at, kind)
    fault_same s from within e = kept (suc (length bytes)) s from within (omega arith) e
