-- The reading of a certificate takes exactly its texts.
use Rattle.std.proofs.Common.{◌≡◌, ◌⊎◌, inl, inr, ℕ, ◌+◌, ◌^◌, ◌<◌, ◌≤◌, true, List, [], ◌∷◌, ◌++◌, length, All, Err, refl, sym, ap, subst, ◌∙◌, arith, append_assoc, codes, slice_get}
use Rattle.net_core.proofs.Library.{slice_get-get_or}
use Rattle.plan_terms.specs.Terms.{CutLine}
use Rattle.text_kit.{specs.Terms.{Item, Verbatim, Whole, Opening, Closing}, proofs.Beginnings.AnyText, proofs.Spelled.Lawful}
use Rattle.plan_report.specs.Terms.{AreLinkNumbers, IsCertificateLineInForm, IsCutInForm, IsOfPool, line_lengths, line_state, certificate_items, certificate_line_items, spot_items, KnownNames, CertLine, Certificate, Spot, Pool, Local}
use Rattle.report_words.{specs.declared.fault.ReportKind.TheVariants.Token, specs.Terms.{closing_at, has_room}, proofs.Lemmas.{branches_law, either_form, lawful_branch, lawful_no_branch, field_law, few_law, MadeOf, law_made, made_last, made_then, numbers_law, closing_law, keyword_law, number_law, opening_law, opening_within_law}}
use Rattle.report_parts.{specs.declared.spot_cut.SpotCut.SpotCut, specs.ReadingParts.{certificate_at, certificate_line_at, local_spot_at, of_line, pool_spot_at, right_side_at, spot_at}}

module _ (names : KnownNames) (pool : List CutLine) where
  abbrev IsPlacedAt : Spot → SpotCut → Type 0
  IsPlacedAt (Pool i) p = (i < length pool) × (of_line pool i ≡ p)
  IsPlacedAt Local p = (p.state.0 ≤ length names.listed) × AreLinkNumbers names.links (2 ^ 32) p.lengths

  abbrev IsPlaced : SpotCut → Type 0
  IsPlaced p = IsPlacedAt p.spot p

  abbrev placed_cut : SpotCut → List Item
  placed_cut p = spot_items p.spot (record { state = p.state; lengths = p.lengths; right = 0 })

  abbrev WasPool : SpotCut → Type 0
  WasPool p = (true ≡ true) × MadeOf (λ (i : ℕ). of_line pool i) (λ i. (0 ≤ i) × (i < length pool)) p

  abbrev WasLocal : SpotCut → Type 0
  WasLocal p = (true ≡ true) × MadeOf {P = ℕ × List ℕ} (λ q. record { spot = Local; state = record { 0 = q.0 }; lengths = q.1 }) (λ q. ((0 ≤ q.0) × (q.0 < length names.listed + 1)) × ((length q.1 ≡ length names.links) × All (λ k. k < 2 ^ 32) q.1)) p

  find_spot : (p : SpotCut) (s : Spot) → p.spot ≡ s → IsPlacedAt s p → WasPool p ⊎ (WasLocal p ⊎ ⊥)
  find_spot p (Pool i) e h = inl (refl, record { parts = i; right = (omega arith, h.0); gives = h.1 })
  find_spot p Local e h = inr (inl (
    refl,
    record {
      parts = (p.state.0, p.lengths);
      right = ((omega arith, omega (arith, h.0)), (h.1.long, h.1.each));
      gives = ap (λ (s : Spot). record { spot = s; state = p.state; lengths = p.lengths }) (sym e);
    },
  ))

  spot_law : Lawful (spot_at names pool) placed_cut IsPlaced AnyText
  unfolding pool_spot_at local_spot_at
  spot_law = branches_law true (Err Token) _ placed_cut _ IsPlaced
      (either_form true _ _ _ IsPlaced (λ i m h. (h.1, refl))
      (either_form true _ _ _ IsPlaced (λ q m h. (omega (arith, h.0.1), record { long = h.1.0; each = h.1.1 }))
      (λ p n. absurd n)))
      (λ p h. find_spot p p.spot refl h)
      (lawful_branch true (Err Token) (codes "pool") (pool_spot_at pool) _ _ _ _ placed_cut _ refl (λ p h. refl)
      (made_last _ (λ (i : ℕ). of_line pool i) _ _ (number_law 0 (length pool)))
      (lawful_branch true (Err Token) (codes "local") (local_spot_at names) _ _ _ _ placed_cut _ refl (λ p h. refl)
      (made_then _ _ _ _ _ _ _ _ (number_law 0 (length names.listed + 1)) (λ state h.
      made_last _ (λ (lengths : List ℕ). record { spot = Local; state = record { 0 = state }; lengths = lengths }) _ _ (numbers_law (length names.links) (2 ^ 32))))
      (lawful_no_branch true Token placed_cut)))

  -- a line, and the spot of its cut
  abbrev pub IsLine : CertLine → Type 0
  IsLine l = IsCertificateLineInForm names.links names.listed l × IsOfPool pool l.spot l.cut

  abbrev placed_of : CertLine → SpotCut
  placed_of l = record { spot = l.spot; state = l.cut.state; lengths = l.cut.lengths }

  -- the lines of the pool are in form
  pub record IsPoolInForm : Type 0 where
    pub few : length pool ≤ 4096
    pub each : All (IsCutInForm names.links names.listed) pool

  no_line : CutLine
  no_line = record { state = record { 0 = 0 }; lengths = []; right = 0 }

  line_form : IsPoolInForm → (i : ℕ) → i < length pool → (line_state (slice_get pool i) ≤ length names.listed) × AreLinkNumbers names.links (2 ^ 32) (line_lengths (slice_get pool i))
  line_form form i lt = rw (slice_get-get_or pool i no_line lt) (let h = form.each i no_line lt in (h.state, h.lengths))

  placed_line : IsPoolInForm → (num right : ℕ) (spot : Spot) (p : SpotCut) → p.spot ≡ spot → IsPlacedAt spot p → num < 2 ^ 62 → right < 2 ^ 84 → IsLine (record { num = num; spot = spot; cut = record { state = p.state; lengths = p.lengths; right = right } })
  placed_line form num right (Pool i) p e h n r = subst (λ (q : SpotCut). IsLine (record { num = num; spot = Pool i; cut = record { state = q.state; lengths = q.lengths; right = right } })) h.1
      (let f = line_form form i h.0 in (
        record { num = n; spot = let t : i < 4096 = omega (arith, h.0, form.few) in t; cut = record { state = f.0; lengths = f.1; right = r } },
        record { there = h.0; same_state = refl; same_lengths = refl },
      ))
  placed_line form num right Local p e h n r = (record { num = n; spot = tt; cut = record { state = h.0; lengths = h.1; right = r } }, tt)

  line_placed : (spot : Spot) (cut : CutLine) → IsOfPool pool spot cut → IsCutInForm names.links names.listed cut → IsPlacedAt spot (record { spot = spot; state = cut.state; lengths = cut.lengths })
  line_placed (Pool i) cut h f = (h.there, ap (λ (s : ℕ). record { spot = Pool i; state = record { 0 = s }; lengths = line_lengths (slice_get pool i) }) (sym h.same_state) ∙ ap (λ (ls : List ℕ). record { spot = Pool i; state = cut.state; lengths = ls }) (sym h.same_lengths))
  line_placed Local cut h f = (f.state, f.lengths)

  right_side_law : Lawful right_side_at (λ n. Verbatim (codes "right") ∷ Whole n ∷ Closing ∷ []) (λ n. (0 ≤ n) × (n < 2 ^ 84)) AnyText
  unfolding right_side_at
  right_side_law = law_made right_side_at _ _ _ (λ n. Verbatim (codes "right") ∷ Whole n ∷ Closing ∷ []) (λ n. (0 ≤ n) × (n < 2 ^ 84))
      (λ q h. h.0)
      (λ q h. refl)
      (λ n h. record { parts = (n, tt); right = (h, tt); gives = refl })
      (made_then _ _ _ _ _ _ _ _ (field_law (codes "right") 0 (2 ^ 84)) (λ right h.
      made_last closing_at (λ (u : Unit {0}). right) _ _ closing_law))

  certificate_line_law : IsPoolInForm → (sofar : List CertLine) → Lawful (certificate_line_at names pool sofar) certificate_line_items (λ l. (has_room 256 sofar ≡ true) × IsLine l) AnyText
  unfolding certificate_line_at
  certificate_line_law form sofar = law_made (certificate_line_at names pool sofar) _ _ _ certificate_line_items (λ l. (has_room 256 sofar ≡ true) × IsLine l)
      (λ q h. (h.0, placed_line form q.1.0 q.1.1.1 q.1.1.0.spot q.1.1.0 refl h.1.1.0 h.1.0.1 h.1.1.1.1))
      (λ q h. ap (λ (is : List Item). Opening ∷ Whole q.1.0 ∷ is) (sym (append_assoc (placed_cut q.1.1.0) (Verbatim (codes "right") ∷ Whole q.1.1.1 ∷ []) (Closing ∷ [])) ∙ ap (λ (is : List Item). (is ++ Verbatim (codes "right") ∷ Whole q.1.1.1 ∷ []) ++ Closing ∷ []) (same_spot q.1.1.0.spot q.1.1.0 q.1.1.1)))
      (λ l h. record {
        parts = (tt, (l.num, (placed_of l, l.cut.right)));
        right = (h.0, ((omega arith, h.1.0.num), (line_placed l.spot l.cut h.1.1 h.1.0.cut, (omega arith, h.1.0.cut.right))));
        gives = refl;
      })
      (made_then _ _ _ _ _ _ _ _ (opening_within_law (has_room 256 sofar)) (λ x h.
      made_then _ _ _ _ _ _ _ _ (number_law 0 (2 ^ 62)) (λ num h.
      made_then _ _ _ _ _ _ _ _ spot_law (λ cut h.
      made_last _ (λ (right : ℕ). record { num = num; spot = cut.spot; cut = record { state = cut.state; lengths = cut.lengths; right = right } }) _ _ right_side_law))))
    where
      same_spot : (s : Spot) (p : SpotCut) (right : ℕ) → spot_items s (record { state = p.state; lengths = p.lengths; right = 0 }) ≡ spot_items s (record { state = p.state; lengths = p.lengths; right = right })
      same_spot (Pool i) p right = refl
      same_spot Local p right = refl

  abbrev pub IsCertificate : Certificate → Type 0
  IsCertificate c = ((1 ≤ c.den) × (c.den < 2 ^ 72)) × ((length c.lines ≤ 256) × All IsLine c.lines)

  pub certificate_law : IsPoolInForm → Lawful (certificate_at names pool) certificate_items IsCertificate AnyText
  unfolding certificate_at
  certificate_law form = law_made (certificate_at names pool) _ _ _ certificate_items IsCertificate
      (λ q h. (h.1.1.0, h.1.1.1))
      (λ q h. refl)
      (λ c h. record { parts = (tt, (tt, (c.den, c.lines))); right = (tt, (tt, (h.0, h.1))); gives = refl })
      (made_then _ _ _ _ _ _ _ _ (keyword_law (codes "CERTIFICATE")) (λ x h.
      made_then _ _ _ _ _ _ _ _ opening_law (λ x h.
      made_then _ _ _ _ _ _ _ _ (number_law 1 (2 ^ 72)) (λ den h.
      made_last _ (λ (lines : List CertLine). record { den = den; lines = lines }) _ _ (few_law 256 (certificate_line_at names pool) certificate_line_items IsLine (λ l. tt) (certificate_line_law form))))))
