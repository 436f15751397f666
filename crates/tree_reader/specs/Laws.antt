-- what writing and reading of a tree keep
use Rattle.std.specs.Prelude.{ℕ, ◌+◌, ◌<◌, ◌^◌, List, All, length}
use Rattle.plan_terms.specs.Terms.{AreDemands, Demand, IsName, IsNetwork}
use Rattle.plan_report.specs.Terms.{KnownNames}
use Rattle.report_comments.specs.Comments.{AddsLines}
use Rattle.tree_check.specs.declared.proof.Proof.{Proof}
use Rattle.tree_lines.specs.TreeLines.{proof_lines}
use Rattle.tree_reader.specs.Trees.{IsTreeInForm, SpellsTree, tree_of}

-- names of a network, with at most 2^32 listed states, and demands that have names, too
pub record AreWritten (known : KnownNames) (demands : List Demand) : Type 0 where
  pub net : IsNetwork known.nodes known.links
  pub belong : AreDemands (length known.nodes) demands
  pub link_names : All (λ l. IsName l.name) known.links
  pub demand_names : All (λ d. IsName d.name) demands
  pub few : length known.listed < 2 ^ 32

-- The lines of a proof in form, put below a text, spell its tree from the text's end on: so reading what was written gives it back.
abbrev pub TreesAreRead : Type 0
TreesAreRead = (known : KnownNames) (demands : List Demand) (proof : Proof) (text whole : List ℕ)
    → AreWritten known demands → IsTreeInForm known demands (tree_of proof) → length proof.cuts + length proof.lines < 2 ^ 64
    → AddsLines text (proof_lines known.links demands known.places proof) whole
    → SpellsTree known demands (length text) whole (tree_of proof)
