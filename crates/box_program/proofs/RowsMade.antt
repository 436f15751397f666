-- rows of the modules of several counts, made one by one
use Rattle.std.proofs.Common.{◌≡◌, ◌≢◌, ℕ, ◌+◌, ◌<◌, ◌⊎◌, ◌++◌, List, [], ◌∷◌, length, inl, inr, ⊎_elim, sym, ◌∙◌, subst, arith}
use Rattle.net_core.proofs.Library.{All-get_or, All-push, All-weaker, Contains-append_left, Contains-push, all_pairs_push, cases_eq}
use Rattle.plan_terms.specs.Terms.{Link}
use Rattle.tree_check.{specs.Terms.{module_number, IsFixedSpan, span_at}, specs.declared.boxes.Span.Span}
use Rattle.box_program.{specs.declared.shape.ModuleRow.ModuleRow, specs.inner.BoxRows.{AreRowsApart, AreRowsBefore, AreRowsOf, HasRow, IsBefore, IsRowOf}}

before_more : (k n e m : ℕ) → IsBefore k n e m → IsBefore k (n + 1) e m
before_more k n e m is = ⊎_elim (λ lt. inl lt) (λ here. inr (here.0, omega (arith, here.1))) is

-- a module that comes before the next one comes before this one, or is this one
before_or_here : (k n e m : ℕ) → IsBefore k (n + 1) e m → IsBefore k n e m ⊎ ((e ≡ k) × (m ≡ n))
before_or_here k n e m is = ⊎_elim
    (λ lt. inl (inl lt))
    (λ here. ⊎_elim (λ eq. inr (here.0, eq)) (λ ne. inl (inr (here.0, omega (arith, here.1, ne)))) (cases_eq m n))
    is

apart_of : (k n e m : ℕ) → IsBefore k n e m → (e ≢ k) ⊎ (m ≢ n)
apart_of k n e m is = ⊎_elim (λ lt. inl (λ eq. absurd (omega (arith, lt, eq)))) (λ here. inr (λ eq. absurd (omega (arith, here.1, eq)))) is

module _ (links : List Link) (box : List (List Span)) where
  has_more : (rows : List ModuleRow) (r : ModuleRow) (e m : ℕ) → HasRow rows e m → HasRow (rows ++ r ∷ []) e m
  has_more rows r e m has = (has.0, Contains-append_left rows (r ∷ []) has.0 has.1, has.2, has.3)

  pub rows_none : AreRowsBefore links box 0 0 []
  rows_none = record {
    each = λ k d lt. absurd (omega arith);
    before = λ k d lt. absurd (omega arith);
    once = λ i j d lt within. absurd (omega arith);
    all = λ e m is free. absurd (⊎_elim (λ lt. omega (arith, lt)) (λ here. omega (arith, here.1)) is);
  }

  -- a module of several counts more
  pub row_more : (k n : ℕ) (rows : List ModuleRow) (r : ModuleRow) → r.link ≡ k → r.module ≡ n → IsRowOf links box r → AreRowsBefore links box k n rows → AreRowsBefore links box k (n + 1) (rows ++ r ∷ [])
  row_more k n rows r link place is are = record {
    each = All-push (IsRowOf links box) rows r are.each is;
    before = All-push (λ (x : ModuleRow). IsBefore k (n + 1) x.link x.module) rows r
        (All-weaker (λ (x : ModuleRow). IsBefore k n x.link x.module) (λ (x : ModuleRow). IsBefore k (n + 1) x.link x.module) (λ x h. before_more k n x.link x.module h) rows are.before)
        (inr (link, omega (arith, place)));
    once = all_pairs_push AreRowsApart rows r are.once (λ i d lt.
        let x = All-get_or (λ (x : ModuleRow). IsBefore k n x.link x.module) rows i d lt are.before in
        ⊎_elim
        (λ ne. inl (λ eq. ne (eq ∙ link)))
        (λ ne. inr (λ eq. ne (eq ∙ place)))
        (apart_of k n _ _ x));
    all = λ e m h free. ⊎_elim
        (λ before. has_more rows r e m (are.all e m before free))
        (λ here. (r, Contains-push rows r, link ∙ sym here.0, place ∙ sym here.1))
        (before_or_here k n e m h);
  }

  -- a module of one count more
  pub row_passed : (k n : ℕ) (rows : List ModuleRow) → IsFixedSpan (span_at box k n) → AreRowsBefore links box k n rows → AreRowsBefore links box k (n + 1) rows
  row_passed k n rows fixed are = record {
    each = are.each;
    before = All-weaker (λ (x : ModuleRow). IsBefore k n x.link x.module) (λ (x : ModuleRow). IsBefore k (n + 1) x.link x.module) (λ x h. before_more k n x.link x.module h) rows are.before;
    once = are.once;
    all = λ e m h free. ⊎_elim
        (λ before. are.all e m before free)
        (λ here. absurd (free.unfixed (subst (λ j. IsFixedSpan (span_at box e j)) (sym here.1) (subst (λ i. IsFixedSpan (span_at box i n)) (sym here.0) fixed))))
        (before_or_here k n e m h);
  }

  -- all modules of a link
  pub link_done : (k : ℕ) (rows : List ModuleRow) → AreRowsBefore links box k (module_number links k) rows → AreRowsBefore links box (k + 1) 0 rows
  link_done k rows are = record {
    each = are.each;
    before = All-weaker (λ (x : ModuleRow). IsBefore k (module_number links k) x.link x.module) (λ (x : ModuleRow). IsBefore (k + 1) 0 x.link x.module)
        (λ x h. inl (⊎_elim (λ lt. omega (arith, lt)) (λ here. omega (arith, here.0)) h)) rows are.before;
    once = are.once;
    all = λ e m h free. are.all e m
        (⊎_elim
        (λ lt. ⊎_elim
        (λ eq. inr (eq, subst (λ i. m < module_number links i) eq free.inside))
        (λ ne. inl (omega (arith, lt, ne)))
        (cases_eq e k))
        (λ here. absurd (omega (arith, here.1)))
        h) free;
  }

  -- all modules
  pub rows_done : (n : ℕ) (rows : List ModuleRow) → n ≡ length links → AreRowsBefore links box n 0 rows → AreRowsOf links box rows
  rows_done n rows is are = record { each = are.each; once = are.once; all = λ e m free. are.all e m (inl (omega (arith, free.link, is))) free }
