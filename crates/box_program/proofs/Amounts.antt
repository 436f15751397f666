-- amounts of the modules of rows
use Rattle.std.{proofs.Common.{◌≡◌, ℕ, zero, suc, ◌+◌, ◌<◌, ◌≤◌, ◌++◌, List, [], ◌∷◌, All, AllPairs, Contains, Option, None, Some, IfSome, get_or, length, take, inl, inr, ⊎_elim, add-one, refl, sym, ap, ◌∙◌, subst, arith}, specs.List.AllZip, proofs.lemmas.List.Kept.AllPairs-cons}
use Rattle.net_core.proofs.Library.{All-cons, All-head, All-tail, All-weaker}
use Rattle.plan_terms.specs.Terms.{Link}
use Rattle.tree_check.{specs.Boxes.span_at, specs.declared.boxes.Span.Span}
use Rattle.box_program.{specs.Solutions.{AreOfDifferentModules, HasAmount, IsAmountOf, IsCertificateOf, IsFree, IsMultiplierOf, IsSolutionOf, LiesIn, rounded_up}, specs.declared.shape.ModuleRow.ModuleRow, specs.declared.solution.Amount.Amount, specs.declared.solution.Solution.Solution, specs.inner.BoxRows.{AreRowsApart, AreRowsOf, HasRow, IsAmountAt, IsRowOf}}

module _ (den : ℕ) where
  amounts_suc : (rows : List ModuleRow) (amounts : List Amount) (i : ℕ) (d : ModuleRow) (a : Amount) → i < length rows
      → AllZip (IsAmountAt den) (take i rows) amounts → IsAmountAt den (get_or rows i d) a → AllZip (IsAmountAt den) (take (suc i) rows) (amounts ++ a ∷ [])
  amounts_suc [] amounts i d a lt all is = absurd (omega arith)
  amounts_suc (r ∷ rs) [] zero d a lt all is = (is, tt)
  amounts_suc (r ∷ rs) (b ∷ bs) zero d a lt all is = absurd all
  amounts_suc (r ∷ rs) [] (suc i) d a lt all is = absurd all
  amounts_suc (r ∷ rs) (b ∷ bs) (suc i) d a lt all is = (all.0, amounts_suc rs bs i d a (omega arith) all.1 is)

  -- an amount more
  pub amounts_more : (rows : List ModuleRow) (amounts : List Amount) (i : ℕ) (d : ModuleRow) (a : Amount) → i < length rows
      → AllZip (IsAmountAt den) (take i rows) amounts → IsAmountAt den (get_or rows i d) a → AllZip (IsAmountAt den) (take (i + 1) rows) (amounts ++ a ∷ [])
  amounts_more rows amounts i d a lt all is = rw add-one (amounts_suc rows amounts i d a lt all is)

  -- ---- what rows say of amounts

  module _ (links : List Link) (box : List (List Span)) where
    amount_of_row : (r : ModuleRow) (a : Amount) → IsRowOf links box r → IsAmountAt den r a → IsAmountOf links box den a
    amount_of_row r a is place = record {
      free = subst (λ m. IsFree links box a.link m) (sym place.same_module) (subst (λ e. IsFree links box e r.module) (sym place.same_link) is.free);
      part = place.part;
      lies = subst (λ (s : Span). LiesIn s a) (is.span ∙ (ap (λ e. span_at box e r.module) (sym place.same_link) ∙ ap (λ m. span_at box a.link m) (sym place.same_module))) place.lies;
    }

    pub amounts_each : (rows : List ModuleRow) (amounts : List Amount) → All (IsRowOf links box) rows → AllZip (IsAmountAt den) rows amounts → All (IsAmountOf links box den) amounts
    amounts_each [] [] each zip = λ k d lt. absurd (omega arith)
    amounts_each [] (a ∷ bs) each zip = absurd zip
    amounts_each (r ∷ rs) [] each zip = absurd zip
    amounts_each (r ∷ rs) (a ∷ bs) each zip =
        All-cons (IsAmountOf links box den) a bs (amount_of_row r a (All-head (IsRowOf links box) r rs each) zip.0) (amounts_each rs bs (All-tail (IsRowOf links box) r rs each) zip.1)

  apart_amounts : (r q : ModuleRow) (a b : Amount) → AreRowsApart r q → IsAmountAt den r a → IsAmountAt den q b → AreOfDifferentModules a b
  apart_amounts r q a b apart one other = ⊎_elim
      (λ ne. inl (λ eq. ne (sym one.same_link ∙ (eq ∙ other.same_link))))
      (λ ne. inr (λ eq. ne (sym one.same_module ∙ (eq ∙ other.same_module))))
      apart

  apart_from : (r : ModuleRow) (a : Amount) (rows : List ModuleRow) (amounts : List Amount) → All (AreRowsApart r) rows → IsAmountAt den r a → AllZip (IsAmountAt den) rows amounts → All (AreOfDifferentModules a) amounts
  apart_from r a [] [] apart is zip = λ k d lt. absurd (omega arith)
  apart_from r a [] (b ∷ bs) apart is zip = absurd zip
  apart_from r a (q ∷ rs) [] apart is zip = absurd zip
  apart_from r a (q ∷ rs) (b ∷ bs) apart is zip =
      All-cons (AreOfDifferentModules a) b bs (apart_amounts r q a b (All-head (AreRowsApart r) q rs apart) is zip.0) (apart_from r a rs bs (All-tail (AreRowsApart r) q rs apart) is zip.1)

  pub amounts_once : (rows : List ModuleRow) (amounts : List Amount) → AllPairs AreRowsApart rows → AllZip (IsAmountAt den) rows amounts → AllPairs AreOfDifferentModules amounts
  amounts_once [] [] once zip = λ i j d lt within. absurd (omega arith)
  amounts_once [] (a ∷ bs) once zip = absurd zip
  amounts_once (r ∷ rs) [] once zip = absurd zip
  amounts_once (r ∷ rs) (a ∷ bs) once zip =
      AllPairs-cons AreOfDifferentModules a bs (apart_from r a rs bs (λ k d lt. once 0 (suc k) d (omega arith) (omega arith)) zip.0 zip.1)
      (amounts_once rs bs (λ i j d lt within. once (suc i) (suc j) d (omega arith) (omega arith)) zip.1)

  amount_there : (rows : List ModuleRow) (amounts : List Amount) (k : ℕ) (r : ModuleRow) → AllZip (IsAmountAt den) rows amounts → k < length rows → get_or rows k r ≡ r
      → (a : Amount) × Contains amounts a × IsAmountAt den r a
  amount_there [] amounts k r zip lt is = absurd (omega arith)
  amount_there (q ∷ rs) [] k r zip lt is = absurd zip
  amount_there (q ∷ rs) (a ∷ bs) zero r zip lt is = (a, (0, omega arith, refl), subst (λ (x : ModuleRow). IsAmountAt den x a) is zip.0)
  amount_there (q ∷ rs) (a ∷ bs) (suc k) r zip lt is =
      let found = amount_there rs bs k r zip.1 (omega arith) is in
      (found.0, (suc found.1.0, omega (arith, found.1.1), found.1.2), found.2)

  pub has_amount : (rows : List ModuleRow) (amounts : List Amount) (e m : ℕ) → AllZip (IsAmountAt den) rows amounts → HasRow rows e m → HasAmount amounts e m
  has_amount rows amounts e m zip has =
      let found = amount_there rows amounts has.1.0 has.0 zip has.1.1 has.1.2 in
      (found.0, found.1, found.2.same_link ∙ has.2, found.2.same_module ∙ has.3)

-- rows and their amounts make a solution
pub solution_is : (links : List Link) (box : List (List Span)) (n : ℕ) (rows : List ModuleRow) (s : Solution) → 0 < s.den → AreRowsOf links box rows → AllZip (IsAmountAt s.den) rows s.amounts → IsCertificateOf n s.cert
    → IsSolutionOf links n box s
solution_is links box n rows s some are zip certificate = record {
  den = some;
  each = amounts_each s.den links box rows s.amounts are.each zip;
  once = amounts_once s.den rows s.amounts are.once zip;
  all = λ e m free. has_amount s.den rows s.amounts e m zip (are.all e m free);
  certificate = certificate;
}

-- a solution for more lines
pub solution_weaker : (links : List Link) (box : List (List Span)) (n k : ℕ) (s : Solution) → n ≤ k → IsSolutionOf links n box s → IsSolutionOf links k box s
solution_weaker links box n k s le is = record {
  den = is.den;
  each = is.each;
  once = is.once;
  all = is.all;
  certificate = record {
    den = is.certificate.den;
    lines = All-weaker (IsMultiplierOf n) (IsMultiplierOf k) (λ m h. record { line = omega (arith, h.line, le); some = h.some; narrow = h.narrow }) s.cert.lines is.certificate.lines;
  };
}

-- ---- amounts in spans

-- the greatest count of a span
pub lies_at_most : (s : Span) (a : Amount) (most : ℕ) → s.most ≡ Some most → a.whole ≡ most → a.part ≡ 0 → LiesIn s a
lies_at_most s a most is whole part = λ n inside.
    let top : n ≤ most = subst (λ (o : Option ℕ). IfSome o (λ k. n ≤ k)) is inside.1 in (
      (omega (arith, inside.0, top, whole), subst (λ (o : Option ℕ). IfSome o (λ k. a.whole ≤ k)) (sym is) (omega (arith, whole))),
      (omega (arith, inside.0, top, whole), subst (λ (o : Option ℕ). IfSome o (λ k. rounded_up a ≤ k)) (sym is) (omega (arith, whole, part))),
    )

-- an amount below it
pub lies_below : (s : Span) (a : Amount) (most : ℕ) → s.most ≡ Some most → a.whole < most → s.least ≤ a.whole → LiesIn s a
lies_below s a most is below least = λ n inside. (
  (least, subst (λ (o : Option ℕ). IfSome o (λ k. a.whole ≤ k)) (sym is) (omega (arith, below))),
  (omega (arith, least), subst (λ (o : Option ℕ). IfSome o (λ k. rounded_up a ≤ k)) (sym is) (omega (arith, below))),
)

-- an amount where there is no greatest count
pub lies_above : (s : Span) (a : Amount) → s.most ≡ None → s.least ≤ a.whole → LiesIn s a
lies_above s a is least = λ n inside. (
  (least, subst (λ (o : Option ℕ). IfSome o (λ k. a.whole ≤ k)) (sym is) tt),
  (omega (arith, least), subst (λ (o : Option ℕ). IfSome o (λ k. rounded_up a ≤ k)) (sym is) tt),
)
