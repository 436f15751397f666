-- where the first fault of a tree is
use Rattle.std.specs.Prelude.{◌≡◌, ℕ, ◌+◌, ◌<◌, List, drop, take}
use Rattle.plan_terms.specs.Terms.{Demand}
use Rattle.plan_report.specs.Terms.{KnownNames}
use Rattle.snd_tokens.specs.Terms.{run_length}
use Rattle.text_kit.{specs.declared.refusal.Refusal.Refusal, specs.declared.refusal.Refusal.TheVariants.{Bad, NoMemory}}
use Rattle.report_words.specs.declared.fault.ReportKind.{ReportKind}
use Rattle.tree_reader.{specs.declared.tree.ReadTree.ReadTree, specs.Trees.SpellsTree}

-- the token at a place, or the one byte there if it begins no token, and the byte after it come before the limit
pub record PassesToken (at limit : ℕ) (bytes : List ℕ) : Type 0 where
  pub byte : at + 1 < limit
  pub token : at + run_length (drop at bytes) < limit

-- A fault isn't reported too early: no bytes that agree with these past the token or the end of the line at its place spell a tree.
abbrev pub IsNoEarlyTreeFault : KnownNames → List Demand → ℕ → List ℕ → Refusal ReportKind → Type 0
IsNoEarlyTreeFault known demands from bytes (Bad at kind) =
    (other : List ℕ) (n : ℕ) (t : ReadTree) → take n bytes ≡ take n other → PassesToken at n bytes → SpellsTree known demands from other t → ⊥
IsNoEarlyTreeFault known demands from bytes NoMemory = Unit {0}
