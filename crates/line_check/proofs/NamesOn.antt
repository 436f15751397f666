-- what the indices of sources and of tests name
use Rattle.std.proofs.Common.{◌≡◌, ◌≢◌, ◌++◌, ℕ, zero, suc, ◌<◌, inl, inr, ⊎_elim, Bool, true, false, IsTrue, List, Some, length, length-append, slice_get, refl, sym, subst, arith}
use Rattle.net_core.proofs.Library.{cases_eq, get_or_append_left, slice_get_within}
use Rattle.plan_terms.specs.Terms.{Case, CutLine, IsCut}
use Rattle.line_check.{specs.Inequalities.line_of_cut, specs.Lines.{IsMadeAt, IsMadeFrom, Source, names_among}, specs.Testing.{AreTested, names_by, no_test, says, test_at}, specs.declared.inequality.Inequality.Inequality, specs.declared.tested_lines.Tested.Tested}

-- the index of a source names the line that it makes
pub source_names : (p : Case) (sources : List Source) (n i : ℕ) (robust : Bool) (source : Source) (made : Inequality) → i < n
    → slice_get sources i ≡ Some source → IsMadeFrom p (names_among p sources i) robust source made → names_among p sources n robust i made
source_names p sources zero i robust source made lt at is = absurd (omega (arith, lt))
source_names p sources (suc n) i robust source made lt at is = ⊎_elim
    (λ (here : i ≡ n).
    let made_at : IsMadeAt p (names_among p sources i) robust sources i made = record { source = source; at = at; is = is } in
    inr (here, subst (λ (k : ℕ). IsMadeAt p (names_among p sources k) robust sources k made) here made_at))
    (λ (before : i ≢ n). inl (source_names p sources n i robust source made (omega (arith, lt, before)) at is))
    (cases_eq i n)

-- the index of a test names its line also where others are put after
pub tested_front : (tested more : List Tested) (robust : Bool) (i : ℕ) (line : Inequality) → names_by tested robust i line → names_by (tested ++ more) robust i line
tested_front tested more robust i line names =
    let same : test_at tested i ≡ test_at (tested ++ more) i = sym (get_or_append_left tested more no_test i names.0) in (
      omega (arith, names.0, length-append tested more),
      subst (λ (t : Tested). IsTrue (says robust t)) same names.1,
      subst (λ (t : Tested). line ≡ t.line) same names.2,
    )

-- ---- cuts

-- the place of a cut of the case names its line
pub cut_names : (p : Case) (sources : List Source) (tested : List Tested) (i : ℕ) (cut : CutLine) → AreTested p sources tested → slice_get sources i ≡ Some (inl cut)
    → IsCut p cut → names_by tested false i (line_of_cut p.links cut)
cut_names p sources tested i cut are at of_case =
    (are.names false i (line_of_cut p.links cut)).0
    (source_names p sources (length sources) i false (inl cut) (line_of_cut p.links cut) (slice_get_within sources i (inl cut) at) at
    (of_case, λ (e : false ≡ true). absurd (cc e), refl))
