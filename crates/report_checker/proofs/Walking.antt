-- a walk with one entry more
use Rattle.std.proofs.Common.{◌≡◌, ◌∙◌, ℕ, ◌+◌, ◌-◌, ◌^◌, ◌<◌, ◌≤◌, suc, Bool, List, [], ◌∷◌, ◌++◌, IsTrue, ◌↔◌, length, get_or, take, take-suc, nat_eq, sym, ap, subst, arith, IfOk, OnOk, Result, Ok, Err, eq-eqb, eqb-true, append-nil, length-append, length-take-le}
use Rattle.net_core.proofs.Library.{flat_map-append}
use Rattle.plan_terms.specs.Terms.{Edit, Entry, Edited, Pooled, Reply, StateId, NoMemory, Case, edit_reply, version_after}
use Rattle.cut_pool.{specs.Terms.{Dated, cuts_of, demands_left, left_by, left_by_entry, pooled_by, version_left}, proofs.Growing.left_more}
use Rattle.report_checker.{specs.inner.Walks.{HasPassed, Passes}, specs.declared.walk.Walk.Walk}

-- what the opening demands are at first
abbrev opening : Case → Dated
opening p = record { demands = p.demands; version = 0 }

demands_more : (p : Case) (before : List Entry) (e : Entry) → demands_left p (before ++ e ∷ []) ≡ (left_by_entry p.nodes (left_by p.nodes (opening p) before) e).demands
demands_more p before e = ap (λ (d : Dated). d.demands) (left_more p.nodes (opening p) before e)

version_more : (p : Case) (before : List Entry) (e : Entry) → version_left p (before ++ e ∷ []) ≡ (left_by_entry p.nodes (left_by p.nodes (opening p) before) e).version
version_more p before e = ap (λ (d : Dated). d.version) (left_more p.nodes (opening p) before e)

-- a cut is passed
pub cut_passed : (p : Case) (before : List Entry) (index : ℕ) (state : StateId) (lengths : List ℕ) (old new : Walk) → new.book ≡ old.book → new.cuts ≡ old.cuts + 1
    → HasPassed p before old → Passes p before (Pooled index state lengths) (nat_eq index old.cuts) new
cut_passed p before index state lengths old new same next passed = record {
  passed = record {
    nodes = ap (λ b. b.nodes) same ∙ passed.nodes;
    demands = ap (λ b. b.demands) same ∙ (passed.demands ∙ sym (demands_more p before (Pooled index state lengths)));
    version = ap (λ b. b.version) same ∙ (passed.version ∙ sym (version_more p before (Pooled index state lengths)));
    cuts =
        let grown : length (cuts_of (before ++ Pooled index state lengths ∷ [])) ≡ length (cuts_of before) + 1 = ap length (flat_map-append pooled_by before (Pooled index state lengths ∷ [])) ∙ length-append (cuts_of before) ((state.0, lengths) ∷ []) in
        omega (arith, next, passed.cuts, grown);
  };
  right = λ yes other. other (eqb-true index old.cuts yes ∙ passed.cuts);
  other = λ no same. no (eq-eqb index old.cuts (same ∙ sym passed.cuts));
}

-- an edit is passed
module _ (p : Case) (before : List Entry) (caller : ℕ) (edit : Edit) (reply : Reply) (old new : Walk) (passed : HasPassed p before old) where
  -- its answer there
  there : edit_reply old.book.nodes old.book.demands old.book.version edit ≡ edit_reply p.nodes (demands_left p before) (version_left p before) edit
  there = cc (passed.nodes, passed.demands, passed.version)

  edit_passed : (expected : Bool) → (IsTrue expected ↔ ((edit_reply old.book.nodes old.book.demands old.book.version edit).0 ≡ reply))
      → new.book.demands ≡ (edit_reply old.book.nodes old.book.demands old.book.version edit).1
      → new.book.version ≡ version_after old.book.version (edit_reply old.book.nodes old.book.demands old.book.version edit).0
      → new.book.nodes ≡ old.book.nodes → new.cuts ≡ old.cuts → Passes p before (Edited caller edit reply) expected new
  edit_passed expected same demands version nodes cuts = record {
    passed = record {
      nodes = nodes ∙ passed.nodes;
      demands = demands ∙ (ap (λ a. a.1) there ∙ sym (demands_more p before (Edited caller edit reply)));
      version = version ∙ (ap (λ v. version_after v (edit_reply old.book.nodes old.book.demands old.book.version edit).0) passed.version ∙ (ap (λ a. version_after (version_left p before) a.0) there ∙ sym (version_more p before (Edited caller edit reply))));
      cuts =
          let grown : cuts_of (before ++ Edited caller edit reply ∷ []) ≡ cuts_of before = flat_map-append pooled_by before (Edited caller edit reply ∷ []) ∙ append-nil (cuts_of before) in
          cuts ∙ (passed.cuts ∙ sym (ap length grown));
    };
    right = λ yes other. other (sym (ap (λ a. a.0) there) ∙ same.0 yes);
    other = λ no is. no (same.1 (ap (λ a. a.0) there ∙ is));
  }

pub edit_passes : (r : Result Bool NoMemory) (caller : ℕ) (edit : Edit) (reply : Reply) (old new : Walk)
    → IfOk r (λ b. IsTrue b ↔ ((edit_reply old.book.nodes old.book.demands old.book.version edit).0 ≡ reply))
    → OnOk r (new.book.demands ≡ (edit_reply old.book.nodes old.book.demands old.book.version edit).1)
    → OnOk r (new.book.version ≡ version_after old.book.version (edit_reply old.book.nodes old.book.demands old.book.version edit).0)
    → OnOk r (new.book.nodes ≡ old.book.nodes) → new.cuts ≡ old.cuts
    → IfOk r (λ expected. (p : Case) (before : List Entry) → HasPassed p before old → Passes p before (Edited caller edit reply) expected new)
edit_passes (Ok b) caller edit reply old new same demands version nodes cuts = λ p before passed. edit_passed p before caller edit reply old new passed b same demands version nodes cuts
edit_passes (Err e) caller edit reply old new same demands version nodes cuts = tt

-- there are no more cuts than entries
pub cuts_few : (es : List Entry) → length (cuts_of es) ≤ length es
cuts_few [] = omega arith
cuts_few (Edited caller edit reply ∷ es) = omega (arith, cuts_few es)
cuts_few (Pooled index state lengths ∷ es) = omega (arith, cuts_few es)

-- the entries before the next one, and that one
pub taken_more : (es : List Entry) (k : ℕ) (e : Entry) → k < length es → e ≡ get_or es k e → take k es ++ e ∷ [] ≡ take (k + 1) es
taken_more es k e lt is =
    let next : suc k ≡ k + 1 = omega arith in
    ap (λ x. take k es ++ x ∷ []) is ∙ (sym (take-suc es k e lt) ∙ ap (λ n. take n es) next)

pub room : (p : Case) (es : List Entry) (k : ℕ) (w : Walk) → k < length es → length es ≤ 65536 → HasPassed p (take k es) w → w.cuts < 2 ^ 32 - 1
room p es k w lt few passed = omega (arith, passed.cuts, cuts_few (take k es), length-take-le k es (omega (arith, lt)), lt, few)

-- the walk past the next entry
pub passed_more : (p : Case) (es : List Entry) (k : ℕ) (e : Entry) (expected : Bool) (w : Walk) → k < length es → e ≡ get_or es k e → Passes p (take k es) e expected w → HasPassed p (take (k + 1) es) w
passed_more p es k e expected w lt is passes = subst (λ (b : List Entry). HasPassed p b w) (taken_more es k e lt is) passes.passed
