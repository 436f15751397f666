-- The readings of the notes, the journal and the pool take exactly their texts.
use Rattle.std.proofs.Common.{◌≡◌, inl, inr, ℕ, ◌+◌, ◌^◌, ◌<◌, ◌≤◌, Bool, true, false, List, [], ◌∷◌, ◌++◌, length, All, IfOk, Option, None, Some, Result, Ok, Err, refl, sym, ap, subst, ◌∙◌, arith, append-nil, append_assoc, codes, flat_map}
use Rattle.plan_terms.specs.Terms.{are_same, Set, Add, Drop, Entry, Edited, Pooled, Reply, Accepted, UnknownDemand, KnownDemand, UnknownNode, SelfDemand, TooMany, TooMuch, Notes, Places, CutLine}
use Rattle.snd_tokens.specs.Terms.{Text}
use Rattle.text_kit.{specs.Reading.ended_or, specs.Terms.{ReadsAs, Read, Reading, after, ◌>>=◌, Begins, Item, Verbatim, Closing, no_fault, past_ending, TheWord, IsEditInForm, edit_items, ends_items}, specs.declared.refusal.Refusal.Refusal, proofs.Beginnings.{AnyText, IsOther, begins_both, begins_parts, ending_again, ending_takes, is_same, no_ending}, proofs.Lemmas.lawful_as, proofs.Spelled.{Lawful, Spelled}}
use Rattle.plan_report.specs.Terms.{IsCutInForm, IsEditedInForm, IsReplyInForm, entry_items, event_items, note_items, notes_items, numbered_from, pool_line_items, reply_items, KnownNames}
use Rattle.report_words.{specs.declared.fault.ReportKind.ReportKind, specs.declared.fault.ReportKind.TheVariants.Token, specs.Terms.{branch_at, closing_at, has_room}, proofs.Making.Made, proofs.Lemmas.{branches_law, either_form, lawful_branch, lawful_no_branch, few_rooms, lawful_placed, numbered_items, rooms_few, law_made, made_give, made_last, made_then, field_law, numbers_law, amount_law, closing_law, money_law, name_law, number_law, opening_law, opening_within_law, this_number_law}}
use Rattle.report_reader.{specs.ReadingJournal.{reply_branches, accepted_at, add_at, drop_at, edit_at, edited_at, entries_at, journal_entry_at, event_at, flag_at, notes_at, pool_at, pool_cut_at, pool_line_at, pooled_at, set_at, too_much_at, two_names_at}, proofs.Variants.{edit_cases, entry_cases, reply_cases}}

-- ---- notes

-- a word that may come next, and what is read after it, which begins with another item
module _ {P X : Type 0} (w : List ℕ) (f : Bool → Reading ReportKind X) (value : Bool → P → X) (each : Bool → P → List Item) (ok : Bool → P → Type 0) (law : (b : Bool) → Spelled (f b) (λ x is. Made (value b) (each b) (ok b) x is) AnyText) (other : (p : P) → IsOther w (each false p)) where
  abbrev Flagged : X → List Item → Type 0
  Flagged x is = Made {P = Bool × P} (λ q. value q.0 q.1) (λ q. note_items q.0 w ++ each q.0 q.1) (λ q. ok q.0 q.1) x is

  with_flag : (b : Bool) (x : X) (is : List Item) → Made (value b) (each b) (ok b) x is → Flagged x (note_items b w ++ is)
  with_flag b x is m = record { parts = (b, m.parts); right = m.right; gives = m.gives; spelled = ap (λ (js : List Item). note_items b w ++ js) m.spelled }

  abbrev read_by : Option Text → Text → Read ReportKind X
  read_by o text = after (ended_or {A = Read ReportKind Bool} o (λ t. Ok (true, t)) (Ok (false, text))) f

  flag_takes : (text : Text) (o : Option Text) (x : X) (rest : Text) → past_ending (TheWord w) text ≡ o → read_by o text ≡ Ok (x, rest) → (is : List Item) × Flagged x is × Begins is text rest × AnyText rest
  flag_takes text (Some t) x rest there e =
      let m = (law true).takes t x rest e in
      (Verbatim w ∷ m.0, with_flag true x m.0 m.1, begins_both (Verbatim w ∷ []) m.0 text t rest (ending_takes (TheWord w) text t there).0 m.2, tt)
  flag_takes text None x rest there e = let m = (law false).takes text x rest e in (m.0, with_flag false x m.0 m.1, m.2, tt)

  flag_again : (b : Bool) (p : P) (text rest : Text) → ok b p → Begins (note_items b w ++ each b p) text rest → read_by (past_ending (TheWord w) text) text ≡ Ok (value b p, rest)
  flag_again true p text rest h begun =
      let m = begins_parts (Verbatim w ∷ []) (each true p) text rest begun in
      ap (λ (o : Option Text). read_by o text) (ending_again (TheWord w) text m.0 m.1 tt)
      ∙ (law true).again m.0 (value true p) rest (each true p) (record { parts = p; right = h; gives = refl; spelled = refl }) m.2 tt
  flag_again false p text rest h begun =
      let before : Begins (each false p ++ []) text rest = subst (λ (js : List Item). Begins js text rest) (sym (append-nil (each false p))) begun in
      ap (λ (o : Option Text). read_by o text) (no_ending (TheWord w) (each false p) [] text rest (other p) before)
      ∙ (law false).again text (value false p) rest (each false p) (record { parts = p; right = h; gives = refl; spelled = refl }) begun tt

  made_flag : Spelled (flag_at w >>= f) (λ x is. Flagged x is) AnyText
  made_flag = record {
    takes = λ text x rest e. flag_takes text (past_ending (TheWord w) text) x rest refl e;
    again = λ text x rest is m begun left. flag_again m.parts.0 m.parts.1 text rest m.right (subst (λ (js : List Item). Begins js text rest) m.spelled begun) ∙ ap (λ (y : X). Ok (y, rest)) m.gives;
  }

-- another word than one that may come first, and than what comes after it
other_note : (w v : List ℕ) (b : Bool) (is : List Item) → are_same w v ≡ false → IsOther w is → IsOther w (note_items b v ++ is)
other_note w v true is differ other = λ e. let two : false ≡ true = sym differ ∙ (ap (λ (u : List ℕ). are_same w u) (sym e) ∙ is_same w) in absurd cc
other_note w v false is differ other = other

joined : (a b c d : List Item) → a ++ (b ++ (c ++ d)) ≡ ((a ++ b) ++ c) ++ d
joined a b c d = sym (append_assoc a b (c ++ d)) ∙ sym (append_assoc (a ++ b) c d)

abbrev all_items : Notes → List Item
all_items n = notes_items n ++ Closing ∷ []

pub notes_law : Lawful notes_at all_items (λ n. Unit {0}) AnyText
unfolding notes_at
notes_law = law_made notes_at _ _ _ all_items (λ n. Unit {0})
    (λ q h. tt)
    (λ q h. joined (note_items q.0 (codes "fixed")) (note_items q.1.0 (codes "routing")) (note_items q.1.1.0 (codes "setup")) (Closing ∷ []))
    (λ n h. record { parts = (n.fixed_cost, (n.routing_cost, (n.setup_cost, tt))); right = tt; gives = refl })
    (made_flag (codes "fixed") _ _ _ _ (λ fixed.
    made_flag (codes "routing") _ _ _ _ (λ routing.
    made_flag (codes "setup") _ _ _ _ (λ setup.
    made_last closing_at (λ (u : Unit {0}). record { fixed_cost = fixed; routing_cost = routing; setup_cost = setup }) _ _ closing_law)
    (λ p h. h))
    (λ p. other_note (codes "routing") (codes "setup") p.0 (Closing ∷ []) refl (λ h. h)))
    (λ p. other_note (codes "fixed") (codes "routing") p.0 (note_items p.1.0 (codes "setup") ++ Closing ∷ []) refl (other_note (codes "fixed") (codes "setup") p.1.0 (Closing ∷ []) refl (λ h. h))))

-- ---- edits and replies

two_names_law : Lawful two_names_at (λ e. ends_items e.0 e.1) (λ e. (length e.0 ≤ 255) × (length e.1 ≤ 255)) AnyText
unfolding two_names_at
two_names_law = law_made two_names_at _ _ _ (λ e. ends_items e.0 e.1) (λ e. (length e.0 ≤ 255) × (length e.1 ≤ 255))
    (λ q h. (h.1.0, h.1.1.0))
    (λ q h. refl)
    (λ e h. record { parts = (tt, (e.0, (e.1, tt))); right = (tt, (h.0, (h.1, tt))); gives = refl })
    (made_then _ _ _ _ _ _ _ _ opening_law (λ x h.
    made_then _ _ _ _ _ _ _ _ name_law (λ from h.
    made_then _ _ _ _ _ _ _ _ name_law (λ to h.
    made_last closing_at (λ (u : Unit {0}). (from, to)) _ _ closing_law))))

pub edit_law : (p : Places) → Lawful (edit_at p) (edit_items p) IsEditInForm AnyText
unfolding set_at add_at drop_at
edit_law p = branches_law true (Err Token) _ (edit_items p) _ IsEditInForm
    (either_form true _ _ _ IsEditInForm (λ q m h. (h.0, h.1))
    (either_form true _ _ _ IsEditInForm (λ q m h. (h.0, h.1.0.0, h.1.0.1, h.1.1))
    (either_form true _ _ _ IsEditInForm (λ n m h. h)
    (λ e n. absurd n))))
    (edit_cases _
    (λ name need h. inl (refl, record { parts = (name, need); right = (h.0, h.1); gives = refl }))
    (λ name from to need h. inr (inl (refl, record { parts = (name, ((from, to), need)); right = (h.0, ((h.1, h.2), h.3)); gives = refl })))
    (λ name h. inr (inr (inl (refl, record { parts = name; right = h; gives = refl })))))
    (lawful_branch true (Err Token) (codes "set") (set_at p) _ _ _ _ (edit_items p) _ refl (λ q h. refl)
    (made_then _ _ _ _ _ _ _ _ name_law (λ name h.
    made_last _ (λ (need : ℕ). Set name need) _ _ (amount_law p)))
    (lawful_branch true (Err Token) (codes "add") (add_at p) _ _ _ _ (edit_items p) _ refl (λ q h. refl)
    (made_then _ _ _ _ _ _ _ _ name_law (λ name h.
    made_then _ _ _ _ _ _ _ _ two_names_law (λ ends h.
    made_last _ (λ (need : ℕ). Add name ends.0 ends.1 need) _ _ (amount_law p))))
    (lawful_branch true (Err Token) (codes "drop") drop_at _ _ _ _ (edit_items p) _ refl (λ q h. refl)
    (made_last _ (λ (name : List ℕ). Drop name) _ _ name_law)
    (lawful_no_branch true Token (edit_items p)))))

pub reply_law : (p : Places) → Lawful (branch_at (reply_branches p)) (reply_items p) IsReplyInForm AnyText
unfolding accepted_at too_much_at
reply_law p = branches_law true (Err Token) (reply_branches p) (reply_items p) _ IsReplyInForm
    (either_form true _ _ _ IsReplyInForm (λ v m h. omega (arith, h.1))
    (either_form true _ _ _ IsReplyInForm (λ u m h. tt)
    (either_form true _ _ _ IsReplyInForm (λ u m h. tt)
    (either_form true _ _ _ IsReplyInForm (λ u m h. tt)
    (either_form true _ _ _ IsReplyInForm (λ u m h. tt)
    (either_form true _ _ _ IsReplyInForm (λ u m h. tt)
    (either_form true _ _ _ IsReplyInForm (λ t m h. h)
    (λ r n. absurd n))))))))
    (reply_cases _
    (λ version h. inl (refl, record { parts = version; right = (omega arith, omega (arith, h)); gives = refl }))
    (λ h. inr (inl (refl, record { parts = tt; right = tt; gives = refl })))
    (λ h. inr (inr (inl (refl, record { parts = tt; right = tt; gives = refl }))))
    (λ h. inr (inr (inr (inl (refl, record { parts = tt; right = tt; gives = refl })))))
    (λ h. inr (inr (inr (inr (inl (refl, record { parts = tt; right = tt; gives = refl }))))))
    (λ h. inr (inr (inr (inr (inr (inl (refl, record { parts = tt; right = tt; gives = refl })))))))
    (λ total h. inr (inr (inr (inr (inr (inr (inl (refl, record { parts = total; right = h; gives = refl })))))))))
    (lawful_branch true (Err Token) (codes "accepted") accepted_at _ _ _ _ (reply_items p) _ refl (λ q h. refl) (made_last _ (λ (v : ℕ). Accepted v) _ _ (number_law 0 65537))
    (lawful_branch true (Err Token) (codes "unknown-demand") _ _ _ _ _ (reply_items p) _ refl (λ q h. refl) (made_give UnknownDemand)
    (lawful_branch true (Err Token) (codes "known-demand") _ _ _ _ _ (reply_items p) _ refl (λ q h. refl) (made_give KnownDemand)
    (lawful_branch true (Err Token) (codes "unknown-node") _ _ _ _ _ (reply_items p) _ refl (λ q h. refl) (made_give UnknownNode)
    (lawful_branch true (Err Token) (codes "self-demand") _ _ _ _ _ (reply_items p) _ refl (λ q h. refl) (made_give SelfDemand)
    (lawful_branch true (Err Token) (codes "too-many") _ _ _ _ _ (reply_items p) _ refl (λ q h. refl) (made_give TooMany)
    (lawful_branch true (Err Token) (codes "too-much") (too_much_at p) _ _ _ _ (reply_items p) _ refl (λ q h. refl) (made_last _ (λ (t : ℕ). TooMuch t) _ _ (money_law p (2 ^ 45)))
    (lawful_no_branch true Token (reply_items p)))))))))

-- ---- entries

-- an entry as it is read: a cut of the pool has its place alone
abbrev pub IsPlain : Entry → Type 0
IsPlain (Edited caller edit reply) = IsEditedInForm caller edit reply
IsPlain (Pooled index state lengths) = (index < 4096) × (Pooled index (record { 0 = 0 }) [] ≡ Pooled index state lengths)

event_law : (p : Places) → Lawful (event_at p) (event_items p) IsPlain AnyText
unfolding edited_at pooled_at
event_law p = branches_law true (Err Token) _ (event_items p) _ IsPlain
    (either_form true _ _ _ IsPlain (λ q m h. record { some = h.0.0; most = omega (arith, h.0.1); asked = h.1.0; answered = h.1.1 })
    (either_form true _ _ _ IsPlain (λ i m h. (h.1, refl))
    (λ e n. absurd n)))
    (entry_cases _
    (λ caller edit reply h. inl (refl, record { parts = (caller, (edit, reply)); right = ((h.some, omega (arith, h.most)), (h.asked, h.answered)); gives = refl }))
    (λ index state lengths h. inr (inl (refl, record { parts = index; right = (omega arith, h.0); gives = h.1 }))))
    (lawful_branch true (Err Token) (codes "caller") (edited_at p) _ _ _ _ (event_items p) _ refl (λ q h. refl)
    (made_then _ _ _ _ _ _ _ _ (number_law 1 9) (λ caller h.
    made_then _ _ _ _ _ _ _ _ (edit_law p) (λ edit h.
    made_last _ (λ (reply : Reply). Edited caller edit reply) _ _ (reply_law p))))
    (lawful_branch true (Err Token) (codes "cut") pooled_at _ _ _ _ (event_items p) _ refl (λ q h. refl)
    (made_last _ (λ (index : ℕ). Pooled index (record { 0 = 0 }) []) _ _ (number_law 0 4096))
    (lawful_no_branch true Token (event_items p))))

entry_law : (p : Places) (sofar : List Entry) → Lawful (journal_entry_at p sofar) (λ e. entry_items p (length sofar + 1, e)) (λ e. (has_room 65536 sofar ≡ true) × IsPlain e) AnyText
unfolding journal_entry_at
entry_law p sofar = law_made (journal_entry_at p sofar) _ _ _ (λ e. entry_items p (length sofar + 1, e)) (λ e. (has_room 65536 sofar ≡ true) × IsPlain e)
    (λ q h. (h.0, h.1.1.0))
    (λ q h. refl)
    (λ e h. record { parts = (tt, (tt, (e, tt))); right = (h.0, (tt, (h.1, tt))); gives = refl })
    (made_then _ _ _ _ _ _ _ _ (opening_within_law (has_room 65536 sofar)) (λ x h.
    made_then _ _ _ _ _ _ _ _ (this_number_law (length sofar + 1)) (λ x h.
    made_then _ _ _ _ _ _ _ _ (event_law p) (λ event h.
    made_last closing_at (λ (u : Unit {0}). event) _ _ closing_law))))

pub entries_law : (p : Places) → Lawful (entries_at p) (λ es. flat_map (entry_items p) (numbered_from 1 es) ++ Closing ∷ []) (λ es. (length es ≤ 65536) × All IsPlain es) AnyText
entries_law p = lawful_as (entries_at p) _ (λ es. flat_map (entry_items p) (numbered_from 1 es) ++ Closing ∷ []) _ (λ es. (length es ≤ 65536) × All IsPlain es) AnyText
    (λ es h. ap (λ (is : List Item). is ++ Closing ∷ []) (numbered_items (λ k e. entry_items p (k + 1, e)) (entry_items p) 1 (λ k e. refl) 0 1 es (omega arith)))
    (λ es h. rooms_few 65536 IsPlain es h.1)
    (λ es h. (refl, few_rooms 65536 IsPlain es h.0 h.1))
    (lawful_placed (λ k e. entry_items p (k + 1, e)) (λ sofar e. (has_room 65536 sofar ≡ true) × IsPlain e) no_fault (journal_entry_at p) (λ k e. tt) (entry_law p))

-- ---- the pool

pool_line_law : (names : KnownNames) (sofar : List CutLine) → Lawful (pool_line_at names sofar) (λ l. pool_line_items (length sofar, l)) (λ l. (has_room 4096 sofar ≡ true) × IsCutInForm names.links names.listed l) AnyText
unfolding pool_line_at pool_cut_at
pool_line_law names sofar = law_made (pool_line_at names sofar) _ _ _ (λ l. pool_line_items (length sofar, l)) (λ l. (has_room 4096 sofar ≡ true) × IsCutInForm names.links names.listed l)
    (λ q h. (h.0, record { state = omega (arith, h.1.1.0.1); lengths = record { long = h.1.1.1.1.0.0; each = h.1.1.1.1.0.1 }; right = h.1.1.1.0.1 }))
    (λ q h. refl)
    (λ l h. record {
      parts = (tt, (tt, (l.state.0, (l.right, (l.lengths, tt)))));
      right = (h.0, (tt, ((omega arith, omega (arith, h.1.state)), ((omega arith, h.1.right), ((h.1.lengths.long, h.1.lengths.each), tt)))));
      gives = refl;
    })
    (made_then _ _ _ _ _ _ _ _ (opening_within_law (has_room 4096 sofar)) (λ x h.
    made_then _ _ _ _ _ _ _ _ (this_number_law (length sofar)) (λ x h.
    made_then _ _ _ _ _ _ _ _ (field_law (codes "state") 0 (length names.listed + 1)) (λ state h.
    made_then _ _ _ _ _ _ _ _ (field_law (codes "right") 0 (2 ^ 84)) (λ right h.
    made_then _ _ _ _ _ _ _ _ (numbers_law (length names.links) (2 ^ 32)) (λ lengths h.
    made_last closing_at (λ (u : Unit {0}). record { state = record { 0 = state }; lengths = lengths; right = right }) _ _ closing_law))))))

pub pool_law : (names : KnownNames) → Lawful (pool_at names) (λ ls. flat_map pool_line_items (numbered_from 0 ls) ++ Closing ∷ []) (λ ls. (length ls ≤ 4096) × All (IsCutInForm names.links names.listed) ls) AnyText
pool_law names = lawful_as (pool_at names) _ (λ ls. flat_map pool_line_items (numbered_from 0 ls) ++ Closing ∷ []) _ (λ ls. (length ls ≤ 4096) × All (IsCutInForm names.links names.listed) ls) AnyText
    (λ ls h. ap (λ (is : List Item). is ++ Closing ∷ []) (numbered_items (λ k l. pool_line_items (k, l)) pool_line_items 0 (λ k l. ap (λ (i : ℕ). pool_line_items (i, l)) (omega arith)) 0 0 ls (omega arith)))
    (λ ls h. rooms_few 4096 (IsCutInForm names.links names.listed) ls h.1)
    (λ ls h. (refl, few_rooms 4096 (IsCutInForm names.links names.listed) ls h.0 h.1))
    (lawful_placed (λ k l. pool_line_items (k, l)) (λ sofar l. (has_room 4096 sofar ≡ true) × IsCutInForm names.links names.listed l) no_fault (pool_line_at names) (λ k l. tt) (pool_line_law names))

-- so few lines are read
pub pool_few : (names : KnownNames) (a : Result (List CutLine) (Refusal ReportKind)) (rest text : Text) → ReadsAs (λ (ls : List CutLine). ls) a rest (pool_at names text) → IfOk a (λ ls. length ls ≤ 4096)
pool_few names (Ok ls) rest text read = ((pool_law names).takes text ls rest read).0.0
pool_few names (Err e) rest text read = tt
