-- The readings of one comment line of a tree take exactly their texts.
use Rattle.std.proofs.Common.{◌≡◌, inl, inr, ℕ, ◌+◌, ◌^◌, ◌<◌, true, List, [], ◌∷◌, ◌++◌, length, All, Result, Ok, Err, refl, ap, ◌∙◌, arith, append-nil, append_assoc, codes, flat_map}
use Rattle.plan_terms.specs.Terms.{Demand, Evidence}
use Rattle.snd_tokens.{specs.declared.whole_number.WholeFault.WholeFault, specs.declared.whole_number.WholeFault.TheVariants.NotANumber, specs.Terms.whole_of}
use Rattle.text_kit.{specs.Terms.{Item, TheEnd, TheWord, Verbatim, Whole, no_fault, of_length}, proofs.Beginnings.{AnyText, IsEnd}, proofs.Lemmas.{after_all, all_after, lawful_as, lawful_list}, proofs.Spelled.Lawful}
use Rattle.plan_report.specs.Terms.{KnownNames, evidence_items}
use Rattle.report_words.{specs.declared.fault.ReportKind.TheVariants.{Token, Limit}, specs.ReportChoices.next_number_at, specs.Terms.{has_room, number_at}, proofs.Lemmas.{AreApart, branches_law, few_rooms, is_length, law_made, lawful_branch, lawful_no_branch, length_is, link_law, made_give, made_last, made_then, money_law, number_law, rooms_few, this_number_law}, proofs.WordLaws.number_within_law}
use Rattle.report_parts.proofs.RoutingLaws.{AreLinksApart}
use Rattle.master_bound.specs.declared.answer.Multiplier.{Multiplier}
use Rattle.tree_check.{specs.Terms.{Divided, Table, TableKind, Plain, Failing}, specs.declared.proof.BoxCert.BoxCert, specs.declared.proof.Node.TheVariants.{Split, Closed, Empty, Spent, Stuck}, specs.declared.proof.Verdict.TheVariants.{Cheapest, Above}}
use Rattle.tree_lines.specs.TreeLines.{box_certificate_items, box_cut_items, line_items, multiplier_items, node_items, table_word, verdict_items}
use Rattle.tree_reader.{proofs.EvidenceLaw.evidence_law, specs.declared.run.Stop.TheVariants.{LineEnd, Wide}, specs.declared.sofar.TreeLine.TreeLine, specs.declared.sofar.TreeLine.TheVariants.{Cut, Further, Branch, Last}, specs.ReadingLines.{above_at, box_cut_at, certificate_to, cheapest_at, closed_at, cut_branches, divided_at, empty_at, kind_at, lengths_at, line_branches, node_branches, spent_at, split_at, stuck_at, table_at, term_at, terms_at, weights_at}, specs.Trees.{IsBoxCertificateInForm, IsBoxCutInForm, IsLineInForm, IsNodeInForm, IsTerm, IsVerdictInForm}, proofs.Choosing.{Chosen, chosen_as, chosen_more, chosen_none, made_or}, proofs.LineVariants.{any_from, later_from, line_cases}, proofs.Making.{law_made_on, made_end, made_final, made_on}}

-- ---- lists of numbers

abbrev wholes : List ℕ → List Item
wholes ns = flat_map (λ n. Whole n ∷ []) ns

lengths_law : (n : ℕ) → Lawful (lengths_at n) wholes (λ ns. (length ns ≡ n) × All (λ k. k < 2 ^ 32) ns) IsEnd
lengths_law n = lawful_as (lengths_at n) _ wholes _ (λ ns. (length ns ≡ n) × All (λ k. k < 2 ^ 32) ns) IsEnd
    (λ ns h. append-nil (wholes ns))
    (λ ns h. (length_is n Limit ns h.0, (rooms_few n (λ k. k < 2 ^ 32) ns h.1).1))
    (λ ns h. (is_length n Limit ns h.0, few_rooms n (λ k. k < 2 ^ 32) ns (omega (arith, h.0)) h.1))
    (lawful_list TheEnd (of_length n Limit) (next_number_at n (2 ^ 32)) (λ k. Whole k ∷ []) (λ sofar k. (has_room n sofar ≡ true) × (k < 2 ^ 32)) (λ k. tt)
    (λ sofar. lawful_as (next_number_at n (2 ^ 32) sofar) (λ k. Whole k ∷ []) (λ k. Whole k ∷ []) _ (λ k. (has_room n sofar ≡ true) × (k < 2 ^ 32)) AnyText (λ k h. refl) (λ k h. (h.0, h.1.1)) (λ k h. (h.0, (omega arith, h.1)))
    (number_within_law (has_room n sofar) 0 (2 ^ 32))))

weights_law : Lawful weights_at wholes (All (λ k. k < 2 ^ 32)) IsEnd
weights_law = lawful_as weights_at _ wholes _ (All (λ k. k < 2 ^ 32)) IsEnd
    (λ ns h. append-nil (wholes ns))
    (λ ns h. after_all (λ k. k < 2 ^ 32) [] ns h.1)
    (λ ns h. (refl, all_after (λ k. k < 2 ^ 32) [] ns h))
    (lawful_list TheEnd no_fault (λ sofar. number_at 0 (2 ^ 32)) (λ k. Whole k ∷ []) (λ sofar k. k < 2 ^ 32) (λ k. tt)
    (λ sofar. lawful_as (number_at 0 (2 ^ 32)) (λ k. Whole k ∷ []) (λ k. Whole k ∷ []) _ (λ k. k < 2 ^ 32) AnyText (λ k h. refl) (λ k h. h.1) (λ k h. (omega arith, h)) (number_law 0 (2 ^ 32))))

abbrev term_items : Multiplier → List Item
term_items m = Whole m.num ∷ Whole m.cut ∷ []

term_law : Lawful term_at term_items IsTerm AnyText
unfolding term_at
term_law = law_made term_at _ _ _ term_items IsTerm
    (λ q h. (h.0.1, h.1.1))
    (λ q h. refl)
    (λ m h. record { parts = (m.num, m.cut); right = ((omega arith, h.0), (omega arith, h.1)); gives = refl })
    (made_then _ _ _ _ _ _ _ _ (number_law 0 (2 ^ 64)) (λ num h.
    made_last _ (λ (cut : ℕ). record { cut = cut; num = num }) _ _ (number_law 0 (2 ^ 32))))

terms_end_law : Lawful (terms_at LineEnd) multiplier_items (All IsTerm) IsEnd
terms_end_law = lawful_as (terms_at LineEnd) _ multiplier_items _ (All IsTerm) IsEnd
    (λ ms h. append-nil (multiplier_items ms))
    (λ ms h. after_all IsTerm [] ms h.1)
    (λ ms h. (refl, all_after IsTerm [] ms h))
    (lawful_list TheEnd no_fault (λ sofar. term_at) term_items (λ sofar m. IsTerm m) (λ m. tt) (λ sofar. term_law))

abbrev wide_after : List Multiplier → List Item
wide_after ms = multiplier_items ms ++ Verbatim (codes "wide") ∷ []

wide_no_number : (n : ℕ) → whole_of (codes "wide") ≡ Ok n → ⊥
unfolding whole_of
wide_no_number n e = let two : (let q : Result ℕ WholeFault = Err NotANumber in q ≡ Ok n) = e in absurd cc

terms_wide_law : Lawful (terms_at Wide) wide_after (All IsTerm) AnyText
terms_wide_law = lawful_as (terms_at Wide) _ wide_after _ (All IsTerm) AnyText
    (λ ms h. refl)
    (λ ms h. after_all IsTerm [] ms h.1)
    (λ ms h. (refl, all_after IsTerm [] ms h))
    (lawful_list (TheWord (codes "wide")) no_fault (λ sofar. term_at) term_items (λ sofar m. IsTerm m) (λ m. wide_no_number m.num) (λ sofar. term_law))

certificate_end_law : Lawful (certificate_to LineEnd) box_certificate_items IsBoxCertificateInForm IsEnd
unfolding certificate_to
certificate_end_law = law_made_on IsEnd (certificate_to LineEnd) _ _ _ box_certificate_items IsBoxCertificateInForm
    (λ q h. (h.0.1, h.1))
    (λ q h. refl)
    (λ c h. record { parts = (c.den, c.lines); right = ((omega arith, h.0), h.1); gives = refl })
    (made_on IsEnd _ _ _ _ _ _ _ _ (number_law 0 (2 ^ 126)) (λ den h.
    made_final IsEnd _ (λ (lines : List Multiplier). record { den = den; lines = lines }) _ _ terms_end_law))

certificate_wide_law : Lawful (certificate_to Wide) (λ c. Whole c.den ∷ wide_after c.lines) IsBoxCertificateInForm AnyText
unfolding certificate_to
certificate_wide_law = law_made (certificate_to Wide) _ _ _ (λ c. Whole c.den ∷ wide_after c.lines) IsBoxCertificateInForm
    (λ q h. (h.0.1, h.1))
    (λ q h. refl)
    (λ c h. record { parts = (c.den, c.lines); right = ((omega arith, h.0), h.1); gives = refl })
    (made_then _ _ _ _ _ _ _ _ (number_law 0 (2 ^ 126)) (λ den h.
    made_last _ (λ (lines : List Multiplier). record { den = den; lines = lines }) _ _ terms_wide_law))

-- ---- kinds of tables

kind_cases : (P : TableKind → Type 0) → P Plain → P Failing → (k : TableKind) → P k
kind_cases P plain failing Plain = plain
kind_cases P plain failing Failing = failing

abbrev kind_items : TableKind → List Item
kind_items k = Verbatim (table_word k) ∷ []

abbrev IsKind : TableKind → Type 0
IsKind k = Unit {0}

kind_law : Lawful kind_at kind_items IsKind AnyText
kind_law = branches_law true (Err Token) _ kind_items _ IsKind
    (λ k h. tt)
    (kind_cases _
    (λ h. inl (refl, record { parts = tt; right = tt; gives = refl }))
    (λ h. inr (inl (refl, record { parts = tt; right = tt; gives = refl }))))
    (lawful_branch true (Err Token) (codes "plain") _ _ _ _ _ kind_items _ refl (λ p h. refl) (made_give Plain)
    (lawful_branch true (Err Token) (codes "failing") _ _ _ _ _ kind_items _ refl (λ p h. refl) (made_give Failing)
    (lawful_no_branch true Token kind_items)))

-- ---- lines

-- the items of a line, which has this index if it is a cut or a further line
abbrev pub told_items : KnownNames → List Demand → ℕ → TreeLine → List Item
told_items known demands index (Cut cut) = box_cut_items (index, cut)
told_items known demands index (Further line) = line_items (index, line)
told_items known demands index (Branch node) = node_items known.links demands node
told_items known demands index (Last v) = verdict_items known.places v

-- a line in form: a cut only where cuts are allowed, and a further line only where further lines are
abbrev pub IsToldLine : KnownNames → List Demand → Type 0 → Type 0 → TreeLine → Type 0
IsToldLine known demands may_cut may_line (Cut cut) = may_cut × IsBoxCutInForm known cut
IsToldLine known demands may_cut may_line (Further line) = may_line × IsLineInForm line
IsToldLine known demands may_cut may_line (Branch node) = IsNodeInForm known demands node
IsToldLine known demands may_cut may_line (Last v) = IsVerdictInForm v

module _ (known : KnownNames) (demands : List Demand) (apart : AreLinksApart known.links) (differ : AreApart demands) where
  stuck_same : (cert : BoxCert) (evidence : Evidence)
      → (Whole cert.den ∷ wide_after cert.lines) ++ (evidence_items known.links demands evidence ++ []) ≡ box_certificate_items cert ++ Verbatim (codes "wide") ∷ evidence_items known.links demands evidence
  stuck_same cert evidence =
      let es = evidence_items known.links demands evidence in
      ap (λ (is : List Item). (Whole cert.den ∷ wide_after cert.lines) ++ is) (append-nil es)
      ∙ ap (λ (is : List Item). Whole cert.den ∷ is) (append_assoc (multiplier_items cert.lines) (Verbatim (codes "wide") ∷ []) es)

  module _ (index : ℕ) where
    abbrev IsNode : TreeLine → Type 0
    IsNode x = IsToldLine known demands ⊥ ⊥ x

    abbrev IsLater : TreeLine → Type 0
    IsLater x = IsToldLine known demands ⊥ (Unit {0}) x

    abbrev IsAny : TreeLine → Type 0
    IsAny x = IsToldLine known demands (Unit {0}) (Unit {0}) x

    abbrev items : TreeLine → List Item
    items x = told_items known demands index x

    -- a line that is allowed later is allowed earlier
    widen_line : (x : TreeLine) → IsNode x → IsLater x
    widen_line (Cut cut) h = absurd h.0
    widen_line (Further line) h = absurd h.0
    widen_line (Branch node) h = h
    widen_line (Last v) h = h

    widen_cut : (x : TreeLine) → IsLater x → IsAny x
    widen_cut (Cut cut) h = absurd h.0
    widen_cut (Further line) h = h
    widen_cut (Branch node) h = h
    widen_cut (Last v) h = h

    pub node_law : Chosen (node_branches known demands) items IsNode
    unfolding split_at closed_at empty_at spent_at stuck_at cheapest_at above_at
    node_law = chosen_as (node_branches known demands) items _ IsNode
        (made_or _ _ _ IsNode (λ q h. (h.0, h.1.0.1, h.1.1.0.1))
        (made_or _ _ _ IsNode (λ c h. h)
        (made_or _ _ _ IsNode (λ q h. h.0.1)
        (made_or _ _ _ IsNode (λ c h. h)
        (made_or _ _ _ IsNode (λ q h. (h.0, h.1.0))
        (made_or _ _ _ IsNode (λ q h. tt)
        (made_or _ _ _ IsNode (λ q h. h.0)
        (λ x n. absurd n))))))))
        (line_cases _
        (λ cut h. absurd h.0)
        (λ line h. absurd h.0)
        (λ link m n h. inl (record { parts = (link, (m, (n, tt))); right = (h.0, ((omega arith, h.1), ((omega arith, h.2), tt))); gives = refl }))
        (λ c h. inr (inl (record { parts = c; right = h; gives = refl })))
        (λ cut h. inr (inr (inl (record { parts = (cut, tt); right = ((omega arith, h), tt); gives = refl }))))
        (λ c h. inr (inr (inr (inl (record { parts = c; right = h; gives = refl })))))
        (λ c e h. inr (inr (inr (inr (inl (record { parts = (c, (e, tt)); right = (h.0, (h.1, tt)); gives = refl }))))))
        (λ h. inr (inr (inr (inr (inr (inl (record { parts = tt; right = tt; gives = refl })))))))
        (λ least h. inr (inr (inr (inr (inr (inr (inl (record { parts = (least, tt); right = (h, tt); gives = refl })))))))))
        (chosen_more (codes "split") (split_at known) _ _ _ _ items _ refl (λ p h. refl)
        (made_on IsEnd _ _ _ _ _ _ _ _ (link_law known.links apart) (λ link h.
        made_on IsEnd _ _ _ _ _ _ _ _ (number_law 0 (2 ^ 32)) (λ at_module h.
        made_on IsEnd _ _ _ _ _ _ _ _ (number_law 0 (2 ^ 64)) (λ number h.
        made_end Token (Branch (Split link at_module number))))))
        (chosen_more (codes "closed") closed_at _ _ _ _ items _ refl (λ p h. refl) (made_final IsEnd _ (λ (c : BoxCert). Branch (Closed c)) _ _ certificate_end_law)
        (chosen_more (codes "empty") empty_at _ _ _ _ items _ refl (λ p h. refl) (made_on IsEnd _ _ _ _ _ _ _ _ (number_law 0 (2 ^ 32)) (λ cut h. made_end Token (Branch (Empty cut))))
        (chosen_more (codes "spent") spent_at _ _ _ _ items _ refl (λ p h. refl) (made_final IsEnd _ (λ (c : BoxCert). Branch (Spent c)) _ _ certificate_end_law)
        (chosen_more (codes "stuck") (stuck_at known demands) _ _ _ _ items _ refl (λ p h. ap (λ (is : List Item). Verbatim (codes "stuck") ∷ is) (stuck_same p.0 p.1.0))
        (made_on IsEnd _ _ _ _ _ _ _ _ certificate_wide_law (λ cert h.
        made_on IsEnd _ _ _ _ _ _ _ _ (evidence_law known apart demands differ) (λ evidence h.
        made_end Token (Branch (Stuck cert evidence)))))
        (chosen_more (codes "cheapest") cheapest_at _ _ _ _ items _ refl (λ p h. refl) (made_end Token (Last Cheapest))
        (chosen_more (codes "above") (above_at known) _ _ _ _ items _ refl (λ p h. refl)
        (made_on IsEnd _ _ _ _ _ _ _ _ (money_law known.places (2 ^ 126)) (λ least h. made_end Token (Last (Above least))))
        (chosen_none items))))))))

    pub later_law : Chosen (line_branches known demands index) items IsLater
    unfolding divided_at table_at
    later_law = chosen_as (line_branches known demands index) items _ IsLater
        (made_or _ _ _ IsLater (λ q h. (tt, (h.1.0.1, h.1.1)))
        (made_or _ _ _ IsLater (λ q h. (tt, (h.1.0.1, h.1.1.1)))
        (λ x h. widen_line x h)))
        (later_from _
        (λ cut h. absurd h.0)
        (λ divisor terms h. inl (record { parts = (tt, (divisor, terms)); right = (tt, ((omega arith, h.1.0), h.1.1)); gives = refl }))
        (λ line kind weights h. inr (inl (record { parts = (tt, (line, (kind, weights))); right = (tt, ((omega arith, h.1.0), (tt, h.1.1))); gives = refl })))
        (λ node h. inr (inr h))
        (λ v h. inr (inr h)))
        (chosen_more (codes "line") (divided_at index) _ _ _ _ items _ refl (λ p h. refl)
        (made_on IsEnd _ _ _ _ _ _ _ _ (this_number_law index) (λ x h.
        made_on IsEnd _ _ _ _ _ _ _ _ (number_law 0 (2 ^ 126)) (λ divisor h.
        made_final IsEnd _ (λ (terms : List Multiplier). Further (Divided divisor terms)) _ _ terms_end_law)))
        (chosen_more (codes "table") (table_at index) _ _ _ _ items _ refl (λ p h. refl)
        (made_on IsEnd _ _ _ _ _ _ _ _ (this_number_law index) (λ x h.
        made_on IsEnd _ _ _ _ _ _ _ _ (number_law 0 (2 ^ 32)) (λ line h.
        made_on IsEnd _ _ _ _ _ _ _ _ kind_law (λ kind h.
        made_final IsEnd _ (λ (weights : List ℕ). Further (Table line kind weights)) _ _ weights_law))))
        node_law))

    pub any_law : Chosen (cut_branches known demands index) items IsAny
    unfolding box_cut_at
    any_law = chosen_as (cut_branches known demands index) items _ IsAny
        (made_or _ _ _ IsAny (λ q h. (tt, record { state = omega (arith, h.1.0.1); right = h.1.1.0.1; long = h.1.1.1.0; each = h.1.1.1.1 }))
        (λ x h. widen_cut x h))
        (any_from _
        (λ cut h. inl (record { parts = (tt, (cut.state.0, (cut.right, cut.lengths))); right = (tt, ((omega arith, omega (arith, h.1.state)), ((omega arith, h.1.right), (h.1.long, h.1.each)))); gives = refl }))
        (λ line h. inr h)
        (λ node h. inr h)
        (λ v h. inr h))
        (chosen_more (codes "box-cut") (box_cut_at known index) _ _ _ _ items _ refl (λ p h. refl)
        (made_on IsEnd _ _ _ _ _ _ _ _ (this_number_law index) (λ x h.
        made_on IsEnd _ _ _ _ _ _ _ _ (number_law 0 (length known.listed + 1)) (λ state h.
        made_on IsEnd _ _ _ _ _ _ _ _ (number_law 0 (2 ^ 126)) (λ right h.
        made_final IsEnd _ (λ (lengths : List ℕ). Cut (record { state = record { 0 = state }; lengths = lengths; right = right })) _ _ (lengths_law (length known.links))))))
        later_law)
