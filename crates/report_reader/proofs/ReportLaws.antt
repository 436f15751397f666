-- The reading of a report takes exactly the texts of reports.
use Rattle.std.proofs.Common.{◌≡◌, ◌≢◌, ℕ, ◌+◌, ◌^◌, ◌<◌, ◌≤◌, List, [], ◌∷◌, ◌++◌, length, map, All, AllPairs, Option, ⊎_elim, Result, Ok, Err, IfOk, IfErr, refl, sym, ap, subst, ◌∙◌, arith, append_assoc, codes, flat_map, slice_get}
use Rattle.net_core.proofs.Library.{All-cons, All-nil, All-head, All-tail, cases_lt, slice_get-get_or, slice_get_past, props, ∥∥₁_elim}
use Rattle.plan_terms.specs.Terms.{IsNetwork, Entry, Edited, Pooled, Link, Places, CutLine}
use Rattle.text_kit.{specs.Terms.{AnswersAs, ReadsAllAs, IsFileOf, IsNotTooEarly, SpellsBy, Item, Verbatim, Opening, section}, specs.declared.refusal.Refusal.Refusal, specs.declared.refusal.Refusal.TheVariants.{Bad, NoMemory}, proofs.Beginnings.{AnyText, IsEnd}, proofs.Lemmas.{first_spelled, found_spelled, only_spelled, lawful_key, lawful_open, lawful_whole, Spelled, spelled_law}, proofs.Spelled.Lawful}
use Rattle.plan_report.specs.Terms.{IsEntryInForm, IsReportInForm, line_lengths, entry_items, notes_items, numbered_from, outcome_items, pool_line_items, report_items, SpellsReport, report_header, KnownNames, Outcome, Report}
use Rattle.report_words.{specs.declared.fault.ReportKind.ReportKind, specs.declared.fault.ReportKind.TheVariants.{Header, Section, Ended}, proofs.Lemmas.{law_made, made_last, made_law, made_then}}
use Rattle.report_parts.proofs.Lemmas.{IsSound, AreLinksApart}
use Rattle.report_reader.{specs.ReadingReport.{filled, last_sections_at, report_at, report_of, section_at, sections_at}, proofs.JournalLaws.{IsPlain, entries_law, notes_law, pool_law}, proofs.OutcomeLaws.outcomes_law, proofs.ReportOnline.report_online}

section_law : (w : List ℕ) → Lawful (section_at w) (λ x. Verbatim w ∷ Opening ∷ []) (λ x. Unit {0}) AnyText
unfolding section_at
section_law w = law_made (section_at w) (λ (q : Unit {0} × Unit {0}). q.1) _ _ (λ x. Verbatim w ∷ Opening ∷ []) (λ x. Unit {0})
    (λ q h. tt)
    (λ q h. refl)
    (λ x h. record { parts = (tt, tt); right = (tt, tt); gives = refl })
    (made_then _ _ _ _ _ _ _ _ (lawful_key Section Ended Section w) (λ x h.
    made_law _ _ _ (lawful_open Section Ended)))

-- ---- entries, which name lines of the pool

module _ (pool : List CutLine) where
  -- an entry as it is read
  abbrev plain : Entry → Entry
  plain (Edited caller edit reply) = Edited caller edit reply
  plain (Pooled index state lengths) = Pooled index (record { 0 = 0 }) []

  filled_form : (e : Entry) → IsPlain e → IsEntryInForm pool (filled pool e)
  filled_form (Edited caller edit reply) h = h
  filled_form (Pooled index state lengths) h = record { most = h.0; same_state = refl; same_lengths = refl }

  plain_form : (e : Entry) → IsEntryInForm pool e → IsPlain (plain e) × (filled pool (plain e) ≡ e)
  plain_form (Edited caller edit reply) h = (h, refl)
  plain_form (Pooled index state lengths) h = (
    (h.most, refl),
    ap (λ (s : ℕ). Pooled index (record { 0 = s }) (line_lengths (slice_get pool index))) (sym h.same_state) ∙ ap (λ (ls : List ℕ). Pooled index state ls) (sym h.same_lengths),
  )

  filled_items : (p : Places) (n : ℕ) (e : Entry) → entry_items p (n, e) ≡ entry_items p (n, filled pool e)
  filled_items p n (Edited caller edit reply) = refl
  filled_items p n (Pooled index state lengths) = refl

  all_filled : (es : List Entry) → All IsPlain es → (length (map (filled pool) es) ≡ length es) × All (IsEntryInForm pool) (map (filled pool) es)
  all_filled [] all = (refl, All-nil (IsEntryInForm pool))
  all_filled (e ∷ es) all =
      let h = all_filled es (All-tail IsPlain e es all) in
      (omega (arith, h.0), All-cons (IsEntryInForm pool) (filled pool e) (map (filled pool) es) (filled_form e (All-head IsPlain e es all)) h.1)

  all_plain : (es : List Entry) → All (IsEntryInForm pool) es → (length (map plain es) ≡ length es) × All IsPlain (map plain es) × (map (filled pool) (map plain es) ≡ es)
  all_plain [] all = (refl, All-nil IsPlain, refl)
  all_plain (e ∷ es) all =
      let h = all_plain es (All-tail (IsEntryInForm pool) e es all) in
      let p = plain_form e (All-head (IsEntryInForm pool) e es all) in (
        omega (arith, h.0),
        All-cons IsPlain (plain e) (map plain es) p.0 h.1,
        ap (λ (x : Entry). x ∷ map (filled pool) (map plain es)) p.1 ∙ ap (λ (xs : List Entry). e ∷ xs) h.2,
      )

  all_items : (p : Places) (n : ℕ) (es : List Entry) → flat_map (entry_items p) (numbered_from n es) ≡ flat_map (entry_items p) (numbered_from n (map (filled pool) es))
  all_items p n [] = refl
  all_items p n (e ∷ es) =
      ap (λ (is : List Item). is ++ flat_map (entry_items p) (numbered_from (n + 1) es)) (filled_items p n e)
      ∙ ap (λ (js : List Item). entry_items p (n, filled pool e) ++ js) (all_items p (n + 1) es)

-- ---- what a network tells

nodes_differ : (nodes : List (List ℕ)) (links : List Link) → ∥ IsNetwork nodes links ∥₁ → AllPairs (λ x y. x ≢ y) nodes
nodes_differ nodes links checked = λ i j d lt within same. ∥∥₁_elim checked (λ x y. absurd x) (λ (net : IsNetwork nodes links). net.different_nodes i j d lt within same)

links_differ : (nodes : List (List ℕ)) (links : List Link) → ∥ IsNetwork nodes links ∥₁ → AreLinksApart links
links_differ nodes links checked = λ i j d lt within same. ∥∥₁_elim checked (λ x y. absurd x) (λ (net : IsNetwork nodes links). net.different_links i j d lt within same)

fixed_small : (nodes : List (List ℕ)) (links : List Link) → ∥ IsNetwork nodes links ∥₁ → All (λ l. l.fixed < 2 ^ 40) links
fixed_small nodes links checked = λ k d lt. ∥∥₁_elim checked (hlevel props) (λ (net : IsNetwork nodes links). (net.sound k d lt).fixed)

-- ---- the whole report

four : (a b c d : List Item) → a ++ (b ++ (c ++ d)) ≡ ((a ++ b) ++ c) ++ d
four a b c d = sym (append_assoc a b (c ++ d)) ∙ sym (append_assoc (a ++ b) c d)

module _ (names : KnownNames) (checked : ∥ IsNetwork names.nodes names.links ∥₁) where
  abbrev IsReport : Report → Type 0
  IsReport r = IsReportInForm names r

  abbrev items_of : Report → List Item
  items_of r = report_items names r

  abbrev no_link : Link
  no_link = record { name = []; a = record { 0 = 0 }; b = record { 0 = 0 }; fixed = 0; setup = 0; modules = [] }

  sound_at : (k : ℕ) → IsSound (slice_get names.links k)
  sound_at k = ⊎_elim
      (λ (within : k < length names.links). subst (λ (o : Option Link). IsSound o) (sym (slice_get-get_or names.links k no_link within)) (fixed_small names.nodes names.links checked k no_link within))
      (λ (past : length names.links ≤ k). subst (λ (o : Option Link). IsSound o) (sym (slice_get_past names.links k past)) tt)
      (cases_lt k (length names.links))

  sections_law : Lawful (sections_at names) items_of IsReport AnyText
  unfolding sections_at last_sections_at
  sections_law = law_made (sections_at names) _ _ _ items_of IsReport
      (λ q h.
      let entries = q.1.1.1.0 in
      let pool = q.1.1.1.1.1.0 in
      let f = all_filled pool entries h.1.1.1.0.1 in
      record {
        few_entries = omega (arith, f.0, h.1.1.1.0.0);
        entries = f.1;
        few_lines = h.1.1.1.1.1.0.0;
        pool = h.1.1.1.1.1.0.1;
        few_outcomes = h.1.1.1.1.1.1.1.0;
        outcomes = h.1.1.1.1.1.1.1.1;
      })
      (λ q h.
      let entries = q.1.1.1.0 in
      let pool = q.1.1.1.1.1.0 in
      let a = section (codes "NOTES") (notes_items q.1.0) in
      let c = section (codes "POOL") (flat_map pool_line_items (numbered_from 0 pool)) in
      let d = section (codes "OUTCOMES") (flat_map (outcome_items names) q.1.1.1.1.1.1.1) in
      four a (section (codes "JOURNAL") (flat_map (entry_items names.places) (numbered_from 1 entries))) c d
      ∙ ap (λ (is : List Item). ((a ++ section (codes "JOURNAL") is) ++ c) ++ d) (all_items pool names.places 1 entries))
      (λ r h.
      let f = all_plain r.pool r.entries h.entries in
      record {
        parts = (tt, (r.notes, (tt, (map (plain r.pool) r.entries, (tt, (r.pool, (tt, r.outcomes)))))));
        right = (tt, (tt, (tt, ((omega (arith, f.0, h.few_entries), f.1), (tt, ((h.few_lines, h.pool), (tt, (h.few_outcomes, h.outcomes))))))));
        gives = ap (λ (es : List Entry). record { notes = r.notes; entries = es; pool = r.pool; outcomes = r.outcomes }) f.2;
      })
      (made_then _ _ _ _ _ _ _ _ (section_law (codes "NOTES")) (λ x h.
      made_then _ _ _ _ _ _ _ _ notes_law (λ notes h.
      made_then _ _ _ _ _ _ _ _ (section_law (codes "JOURNAL")) (λ x h.
      made_then _ _ _ _ _ _ _ _ (entries_law names.places) (λ entries h.
      made_then _ _ _ _ _ _ _ _ (section_law (codes "POOL")) (λ x h.
      made_then _ _ _ _ _ _ _ _ (pool_law names) (λ pool h.
      made_then _ _ _ _ _ _ _ _ (section_law (codes "OUTCOMES")) (λ x u.
      made_last _ (λ (outcomes : List Outcome). record { notes = notes; entries = map (filled pool) entries; pool = pool; outcomes = outcomes }) _ _
      (outcomes_law names pool (nodes_differ names.nodes names.links checked) (links_differ names.nodes names.links checked) sound_at (record { few = h.0; each = h.1 }))))))))))

  -- ---- files

  abbrev Of : Report → List Item → Type 0
  Of r js = IsReport r × (js ≡ items_of r)

  report_law : Spelled (report_at names) Of IsEnd
  report_law = spelled_law (report_at names) items_of IsReport IsEnd (lawful_whole Section (sections_at names) items_of IsReport sections_law)

  to_report : (bytes : List ℕ) (r : Report) → SpellsBy (report_header names.places) Of bytes r → SpellsReport names bytes r
  to_report bytes r s = record { form = s.1.0; file = subst (λ (js : List Item). IsFileOf (report_header names.places) js bytes) s.1.1 s.2 }

  from_report : (bytes : List ℕ) (r : Report) → SpellsReport names bytes r → SpellsBy (report_header names.places) Of bytes r
  from_report bytes r s = (items_of r, (s.form, refl), s.file)

  pub report_found : (bytes : List ℕ) (a : Result Report (Refusal ReportKind)) → ReadsAllAs (λ (r : Report). r) a (report_of names bytes) → IfOk a (λ r. SpellsReport names bytes r)
  report_found bytes (Ok r) h = to_report bytes r (found_spelled Header (report_header names.places) (report_at names) Of report_law (λ (x : Report). x) bytes (Ok r) h)
  report_found bytes (Err e) h = tt

  pub report_only : (bytes : List ℕ) (a : Result Report (Refusal ReportKind)) → ReadsAllAs (λ (r : Report). r) a (report_of names bytes) → (r : Report) → SpellsReport names bytes r → AnswersAs (λ (x : Report). x) a r
  report_only bytes a h r s = only_spelled Header (report_header names.places) (report_at names) Of report_law (λ (x : Report). x) bytes a h r (from_report bytes r s)

  pub report_first : (bytes : List ℕ) (a : Result Report (Refusal ReportKind)) → ReadsAllAs (λ (r : Report). r) a (report_of names bytes) → IfErr a (IsNotTooEarly (SpellsReport names) bytes)
  report_first bytes (Ok r) h = tt
  report_first bytes (Err (Bad at kind)) h = λ other n same ends r s.
      first_spelled Header (report_header names.places) (report_at names) Of report_law (λ (x : Report). x) (report_online names) bytes (Err (Bad at kind)) h other n same ends r (from_report other r s)
  report_first bytes (Err NoMemory) h = tt
