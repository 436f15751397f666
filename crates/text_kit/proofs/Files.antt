-- Laws of whole files, for each reading that is lawful.
use Rattle.std.proofs.Common.{◌≡◌, ℕ, suc, ◌+◌, ◌≤◌, ◌<◌, ◌==◌, min, Bool, true, false, cond, not, List, [], ◌∷◌, ◌++◌, length, take, drop, Result, Ok, Err, IfOk, IfErr, refl, sym, ap, subst, ◌∙◌, arith, ⊎_elim, ◌⊎◌, inl, inr, length-append, drop-drop, length-take}
use Rattle.net_core.{proofs.Library.{position_or_len, cases_eq, cases_lt, prefix_len-le-length, same_is}, specs.Terms.are_same}
use Rattle.snd_tokens.{specs.Terms.{first_line, second_line, trimmed, Text, WordAt, OpenAt, CloseAt, EndAt, text_from, text_of, tokens_from}, proofs.Scan.tokens_from-end}
use Rattle.text_kit.{specs.Answers.{AnswersAs, ReadsAllAs}, specs.Files.{IsNotTooEarly, SpellsAs, SpellsBy, body, file_at}, specs.Items.{Item, Begins}, specs.Laws.WrittenIsRead, specs.Places.EndsBefore, specs.Reading.{Read, Reading, after, give, mapped}, specs.Written.written, specs.declared.refusal.Refusal.Refusal, specs.declared.refusal.Refusal.TheVariants.{Bad, NoMemory}, proofs.Agreeing.{files_agree, run_same, take_less}, proofs.Lawful.{IsEnd, Lawful, is_same}, proofs.Numerals.{drop_first, take_first}, proofs.Online.{IsOnline, err_parts, ok_parts, online_give, online_then, same_fault}, proofs.Spelled.Spelled, proofs.Rising.{RisesFrom, file_rises}, proofs.Written.written_begins}

-- ---- first lines

-- a lexeme that ends before a limit is at the beginning of the text or after it, and before the limit
before_limit : (from at limit : ℕ) (t : Text) → RisesFrom from t → EndsBefore at limit t → (from ≤ at) × (from < limit)
before_limit from at limit (WordAt p w t) r e = ⊎_elim (λ same. (omega (arith, r.1, same), omega (arith, r.1, e.0 same))) (λ other. let h = before_limit p at limit t (r.0.1, omega (arith, r.0.0)) (e.1 other) in (omega (arith, r.1, h.0), omega (arith, r.1, h.1))) (cases_eq p at)
before_limit from at limit (OpenAt p t) r e = ⊎_elim (λ same. (omega (arith, r.1, same), omega (arith, r.1, e.0 same))) (λ other. let h = before_limit p at limit t (r.0.1, omega (arith, r.0.0)) (e.1 other) in (omega (arith, r.1, h.0), omega (arith, r.1, h.1))) (cases_eq p at)
before_limit from at limit (CloseAt p t) r e = ⊎_elim (λ same. (omega (arith, r.1, same), omega (arith, r.1, e.0 same))) (λ other. let h = before_limit p at limit t (r.0.1, omega (arith, r.0.0)) (e.1 other) in (omega (arith, r.1, h.0), omega (arith, r.1, h.1))) (cases_eq p at)
before_limit from at limit (EndAt p) r e = absurd e

body_rises : (bytes : List ℕ) → RisesFrom (second_line bytes) (body bytes)
body_rises bytes = file_rises (second_line bytes) bytes (omega arith)

abbrev line_size : List ℕ → ℕ
line_size bytes = position_or_len (λ b. b == 10) bytes

-- nothing is after a first line without a line feed
at_last : (bytes : List ℕ) (at n : ℕ) → second_line bytes ≡ length bytes → EndsBefore at n (body bytes) → ⊥
unfolding text_from
at_last bytes at n e ends =
    subst (λ (t : Text). EndsBefore at n t) (ap (λ k. text_of bytes (tokens_from k bytes)) e ∙ ap (text_of bytes) (tokens_from-end bytes)) ends

-- files that agree past a lexeme have one first line
record SameLine (bytes other : List ℕ) : Type 0 where
  pub line : first_line other ≡ first_line bytes
  pub following : second_line other ≡ second_line bytes

same_line : (bytes other : List ℕ) (at n : ℕ) → take n bytes ≡ take n other → EndsBefore at n (body bytes) → SameLine bytes other
same_line bytes other at n same ends =
    let L = line_size bytes in
    let within : L ≤ length bytes = prefix_len-le-length (λ b. not (b == 10)) bytes in
    let size : length (first_line bytes) ≡ L = length-take L bytes ∙ omega (arith, within) in
    let low = (before_limit (second_line bytes) at n (body bytes) (body_rises bytes) ends).1 in
    ⊎_elim
    (λ (less : L < length bytes).
    let below : L < n = omega (arith, low, size, less) in
    let run : line_size other ≡ L = run_same (λ b. not (b == 10)) n bytes other below same in
    let line : first_line other ≡ first_line bytes = ap (λ k. take k other) run ∙ sym (take_less L n bytes other (omega (arith, below)) same) in
    let more : take (L + 1) bytes ≡ take (L + 1) other = take_less (L + 1) n bytes other (omega (arith, below)) same in
    let long : min (L + 1) (length bytes) ≡ min (L + 1) (length other) = sym (length-take (L + 1) bytes) ∙ (ap length more ∙ length-take (L + 1) other) in
    record { line = line; following = ap (λ (l : List ℕ). min (length l + 1) (length other)) line ∙ omega (arith, size, long, less) })
    (λ (all : length bytes ≤ L). absurd (at_last bytes at n (omega (arith, size, within, all)) ends))
    (cases_lt L (length bytes))

-- ---- readings of files

header_ok : {K X : Type 0} (other : K) (b : Bool) (q : Read K X) (x : X) (rest : Text) → cond b q (Err (0, other)) ≡ Ok (x, rest) → (b ≡ true) × (q ≡ Ok (x, rest))
header_ok other true q x rest e = (refl, e)
header_ok other false q x rest e = absurd cc

header_err : {K X : Type 0} (other : K) (b : Bool) (q : Read K X) (at : ℕ) (kind : K) → cond b q (Err (0, other)) ≡ Err (at, kind) → (0 ≡ at) ⊎ ((b ≡ true) × (q ≡ Err (at, kind)))
header_err other true q at kind e = inr (refl, e)
header_err {K} {X} other false q at kind e = inl (err_parts {X = X} 0 at other kind e).0

header_fault : (bytes : List ℕ) (n : ℕ) → EndsBefore 0 n (body bytes) → ⊥
header_fault [] n ends = at_last [] 0 n (omega arith) ends
header_fault (b ∷ bytes) n ends =
    let low = (before_limit (second_line (b ∷ bytes)) 0 n (body (b ∷ bytes)) (body_rises (b ∷ bytes)) ends).0 in omega (arith, low)

-- files that agree past a fault have it both
pub fault_kept : {K Y : Type 0} (other : K) (header : List ℕ) (r : Reading K Y) → IsOnline r → (bytes : List ℕ) (at : ℕ) (kind : K) → file_at other header r bytes ≡ Err (at, kind) → (bytes' : List ℕ) (n : ℕ) → take n bytes ≡ take n bytes' → EndsBefore at n (body bytes)
    → file_at other header r bytes' ≡ Err (at, kind)
fault_kept other header r on bytes at kind e bytes' n same ends =
    ⊎_elim
    (λ (first : 0 ≡ at). absurd (header_fault bytes n (subst (λ k. EndsBefore k n (body bytes)) (sym first) ends)))
    (λ (h : (are_same (trimmed (first_line bytes)) header ≡ true) × (r (body bytes) ≡ Err (at, kind))).
    let l = same_line bytes bytes' at n same ends in
    let from = second_line bytes in
    let low = (before_limit from at n (body bytes) (body_rises bytes) ends).1 in
    let agree = files_agree bytes bytes' from at n (omega (arith, low)) same ends in
    let fails = same_fault r on (body bytes) (text_from from bytes') at kind (body_rises bytes).0 h.1 agree in
    let there : r (body bytes') ≡ Err (at, kind) = ap (λ k. r (text_from k bytes')) l.following ∙ fails in
    let begins : are_same (trimmed (first_line bytes')) header ≡ true = ap (λ (line : List ℕ). are_same (trimmed line) header) l.line ∙ h.0 in
    ap (λ (b : Bool). cond b (r (body bytes')) (Err (0, other))) begins ∙ there)
    (header_err other (are_same (trimmed (first_line bytes)) header) (r (body bytes)) at kind e)

module _ {K Y : Type 0} (other : K) (header : List ℕ) (r : Reading K Y) (Of : Y → List Item → Type 0) (law : Spelled r Of IsEnd) where
  spelled_takes : (bytes : List ℕ) (y : Y) (rest : Text) → file_at other header r bytes ≡ Ok (y, rest) → SpellsBy header Of bytes y
  spelled_takes bytes y rest e =
      let h = header_ok other (are_same (trimmed (first_line bytes)) header) (r (body bytes)) y rest e in
      let t = law.takes (body bytes) y rest h.1 in
      (t.0, t.1, (same_is (trimmed (first_line bytes)) header h.0, (t.3.0, subst (λ (u : Text). Begins t.0 (body bytes) u) t.3.1 t.2)))

  pub spelled_again : (bytes : List ℕ) (y : Y) → SpellsBy header Of bytes y → (at : ℕ) × (file_at other header r bytes ≡ Ok (y, EndAt at))
  spelled_again bytes y s =
      let begins : are_same (trimmed (first_line bytes)) header ≡ true = ap (λ (l : List ℕ). are_same l header) s.2.0 ∙ is_same header in
      let at = s.2.1.0 in
      (at, ap (λ (b : Bool). cond b (r (body bytes)) (Err (0, other))) begins ∙ law.again (body bytes) y (EndAt at) s.0 s.1 s.2.1.1 (at, refl))

  not_both : (q : Read K Y) (e : ℕ × K) (y : Y) (at : ℕ) → q ≡ Err e → q ≡ Ok (y, EndAt at) → ⊥
  not_both (Ok x) e y at err ok = absurd cc
  not_both (Err d) e y at err ok = absurd cc

  -- what has a fault spells nothing
  pub spelled_faultless : (bytes : List ℕ) (y : Y) → SpellsBy header Of bytes y → (at : ℕ) (kind : K) → file_at other header r bytes ≡ Err (at, kind) → ⊥
  spelled_faultless bytes y s at kind e = let again = spelled_again bytes y s in not_both (file_at other header r bytes) (at, kind) y again.0 e again.1

  spelled_first : IsOnline r → (bytes : List ℕ) (at : ℕ) (kind : K) → file_at other header r bytes ≡ Err (at, kind) → (bytes' : List ℕ) (n : ℕ) → take n bytes ≡ take n bytes' → EndsBefore at n (body bytes) → (y : Y) → SpellsBy header Of bytes' y → ⊥
  spelled_first on bytes at kind e bytes' n same ends y s = spelled_faultless bytes' y s at kind (fault_kept other header r on bytes at kind e bytes' n same ends)

  -- ---- what a function returned

  pub spelled_read : (bytes : List ℕ) (y : Y) (rest : Text) → are_same (trimmed (first_line bytes)) header ≡ true → r (body bytes) ≡ Ok (y, rest) → (at : ℕ) × (file_at other header r bytes ≡ Ok (y, EndAt at))
  spelled_read bytes y rest line read =
      let end = (law.takes (body bytes) y rest read).3 in
      (end.0, ap (λ (b : Bool). cond b (r (body bytes)) (Err (0, other))) line ∙ (read ∙ ap (λ (t : Text). Ok (y, t)) end.1))

  pub found_spelled : {Z : Type 0} (view : Z → Y) (bytes : List ℕ) (a : Result Z (Refusal K)) → ReadsAllAs view a (file_at other header r bytes) → IfOk a (λ z. SpellsBy header Of bytes (view z))
  found_spelled view bytes (Ok z) h = spelled_takes bytes (view z) (EndAt h.0) h.1
  found_spelled view bytes (Err e) h = tt

  pub only_spelled : {Z : Type 0} (view : Z → Y) (bytes : List ℕ) (a : Result Z (Refusal K)) → ReadsAllAs view a (file_at other header r bytes) → (y : Y) → SpellsBy header Of bytes y → AnswersAs view a y
  only_spelled view bytes (Ok z) h y s =
      let again = spelled_again bytes y s in
      (ok_parts {K = K} (view z) y (EndAt h.0) (EndAt again.0) (sym h.1 ∙ again.1)).0
  only_spelled view bytes (Err (Bad at kind)) h y s = let again = spelled_again bytes y s in absurd (not_both (file_at other header r bytes) (at, kind) y again.0 h again.1)
  only_spelled view bytes (Err NoMemory) h y s = tt

  pub first_spelled : {Z : Type 0} (view : Z → Y) (on : IsOnline r) (bytes : List ℕ) (a : Result Z (Refusal K)) → ReadsAllAs view a (file_at other header r bytes) → IfErr a (λ e. IsNotTooEarly (λ b y. SpellsBy header Of b y) bytes e)
  first_spelled view on bytes (Ok z) h = tt
  first_spelled view on bytes (Err (Bad at kind)) h = spelled_first on bytes at kind h
  first_spelled view on bytes (Err NoMemory) h = tt

-- a whole file where one list of items spells each value, of which the file means something
module _ {K X Y : Type 0} (other : K) (header : List ℕ) (r : Reading K X) (meaning : X → Y) (items : X → List Item) (is : X → Type 0) (law : Lawful r items is IsEnd) where
  abbrev file : List ℕ → Read K Y
  file bytes = file_at other header (mapped meaning r) bytes

  abbrev IsOf : List ℕ → Y → Type 0
  IsOf bytes y = SpellsAs header items is meaning bytes y

  abbrev Means : Y → List Item → Type 0
  Means y js = (x : X) × is x × (js ≡ items x) × (meaning x ≡ y)

  meant : (q : Read K X) (y : Y) (rest : Text) → after q (λ x. give (meaning x)) ≡ Ok (y, rest) → (x : X) × (q ≡ Ok (x, rest)) × (meaning x ≡ y)
  meant (Ok x) y rest e = let p = ok_parts {K = K} (meaning x.0) y x.1 rest e in (x.0, ap (λ (t : Text). Ok (x.0, t)) p.1, p.0)
  meant (Err d) y rest e = absurd cc

  meant_law : Spelled (mapped meaning r) Means IsEnd
  meant_law = record {
    takes = λ text y rest e.
        let m = meant (r text) y rest e in
        let t = law.takes text m.0 rest m.1 in
        (items m.0, (m.0, t.0, refl, m.2), t.1, t.2);
    again = λ text y rest js s b left.
        ap (λ (q : Read K X). after q (λ x. give (meaning x))) (law.again text s.0 rest s.1 (subst (λ (ks : List Item). Begins ks text rest) s.2 b) left) ∙ ap (λ (z : Y). Ok (z, rest)) s.3;
  }

  from_meant : (bytes : List ℕ) (y : Y) → SpellsBy header Means bytes y → IsOf bytes y
  from_meant bytes y s = (s.1.0, s.1.1, (s.2.0, (s.2.1.0, subst (λ (ks : List Item). Begins ks (body bytes) (EndAt s.2.1.0)) s.1.2 s.2.1.1)), s.1.3)

  to_meant : (bytes : List ℕ) (y : Y) → IsOf bytes y → SpellsBy header Means bytes y
  to_meant bytes y s = (items s.0, (s.0, s.1, refl, s.3), s.2)

  pub file_read : (bytes : List ℕ) (x : X) (rest : Text) → are_same (trimmed (first_line bytes)) header ≡ true → r (body bytes) ≡ Ok (x, rest) → (at : ℕ) × (file bytes ≡ Ok (meaning x, EndAt at))
  file_read bytes x rest line read = spelled_read other header (mapped meaning r) Means meant_law bytes (meaning x) rest line (ap (λ (q : Read K X). after q (λ y. give (meaning y))) read)

  pub answer_found : {Z : Type 0} (view : Z → Y) (bytes : List ℕ) (a : Result Z (Refusal K)) → ReadsAllAs view a (file bytes) → IfOk a (λ z. IsOf bytes (view z))
  answer_found view bytes (Ok z) h = from_meant bytes (view z) (found_spelled other header (mapped meaning r) Means meant_law view bytes (Ok z) h)
  answer_found view bytes (Err e) h = tt

  pub answer_only : {Z : Type 0} (view : Z → Y) (bytes : List ℕ) (a : Result Z (Refusal K)) → ReadsAllAs view a (file bytes) → (y : Y) → IsOf bytes y → AnswersAs view a y
  answer_only view bytes a h y s = only_spelled other header (mapped meaning r) Means meant_law view bytes a h y (to_meant bytes y s)

  pub answer_first : {Z : Type 0} (view : Z → Y) (on : IsOnline r) (bytes : List ℕ) (a : Result Z (Refusal K)) → ReadsAllAs view a (file bytes) → IfErr a (λ e. IsNotTooEarly (λ b y. IsOf b y) bytes e)
  answer_first view on bytes (Ok z) h = tt
  answer_first view on bytes (Err (Bad at kind)) h = λ bytes' n same ends y s.
      spelled_first other header (mapped meaning r) Means meant_law (online_then r (λ x. give (meaning x)) on (λ x. online_give (meaning x))) bytes at kind h bytes' n same ends y (to_meant bytes' y s)
  answer_first view on bytes (Err NoMemory) h = tt

-- ---- what was written

full_line : (l : List ℕ) → first_line l ≡ l → line_size l ≡ length l
full_line l e = omega (arith, ap length e, length-take (line_size l) l, prefix_len-le-length (λ b. not (b == 10)) l)

line_found : (l more : List ℕ) → line_size l ≡ length l → line_size (l ++ 10 ∷ more) ≡ length l
line_found [] more e = refl
line_found (b ∷ l) more e =
    elim (b == 10) as (λ v. cond (not v) (1 + line_size l) 0 ≡ length (b ∷ l) → cond (not v) (1 + line_size (l ++ 10 ∷ more)) 0 ≡ length (b ∷ l)) [
      | true ↦ λ h. absurd (omega (arith, h))
      | false ↦ λ h. omega (arith, h, line_found l more (omega (arith, h)))
    ] e

pub written_is_read : WrittenIsRead
written_is_read header items line all =
    let text = header ++ 10 ∷ written items in
    let place_of : line_size text ≡ length header = line_found header (written items) (full_line header line.one) in
    let first : first_line text ≡ header = ap (λ k. take k text) place_of ∙ take_first header (10 ∷ written items) in
    let total : length text ≡ length header + suc (length (written items)) = length-append header (10 ∷ written items) in
    let second : second_line text ≡ length header + 1 = ap (λ (l : List ℕ). min (length l + 1) (length text)) first ∙ omega (arith, total) in
    let following : drop (length header + 1) text ≡ written items = sym (drop-drop 1 (length header) text) ∙ ap (drop 1) (drop_first header (10 ∷ written items)) in (
      ap trimmed first ∙ line.no_blank,
      (length text, subst (λ k. Begins items (text_from k text) (EndAt (length text))) (sym second) (written_begins items text (length header + 1) all (omega (arith, total)) following)),
    )
