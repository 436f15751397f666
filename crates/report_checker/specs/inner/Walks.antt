-- a walk through a journal
use Rattle.std.specs.Prelude.{◌≡◌, ◌<◌, ◌^◌, List, [], ◌∷◌, ◌++◌, Bool, true, length}
use Rattle.plan_terms.specs.Terms.{Entry, Edited, Pooled, Case, edit_need}
use Rattle.cut_pool.specs.Terms.{cuts_of, demands_left, version_left}
use Rattle.report_checker.{specs.Journals.IsOtherEntry, specs.declared.walk.Walk.Walk}

-- the need of the entry's edit, if it has one, is below 2^40 units
abbrev pub HasSmallNeed : Entry → Type 0
HasSmallNeed (Edited caller edit reply) = edit_need edit < 2 ^ 40
HasSmallNeed (Pooled index state lengths) = Unit {0}

-- the walk has passed these entries
pub record HasPassed (p : Case) (before : List Entry) (w : Walk) : Type 0 where
  pub nodes : w.book.nodes ≡ p.nodes
  pub demands : w.book.demands ≡ demands_left p before
  pub version : w.book.version ≡ version_left p before
  pub cuts : w.cuts ≡ length (cuts_of before)

-- the walk passes one entry more, and says whether it is the one that is expected there
pub record Passes (p : Case) (before : List Entry) (entry : Entry) (expected : Bool) (w : Walk) : Type 0 where
  pub passed : HasPassed p (before ++ entry ∷ []) w
  pub right : expected ≡ true → IsOtherEntry p before entry → ⊥
  pub other : (expected ≡ true → ⊥) → IsOtherEntry p before entry
