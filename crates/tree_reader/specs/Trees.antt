-- branch trees as they are read: their comment lines, and which are in form
use Rattle.std.{specs.Prelude.{◌≡◌, ℕ, ◌<◌, ◌≤◌, ◌^◌, List, [], ◌∷◌, ◌++◌, All, length, map, zip}, specs.List.range_with_len}
use Rattle.plan_terms.specs.Terms.{CutLine, Demand}
use Rattle.plan_report.specs.Terms.{IsEvidenceInForm, KnownNames}
use Rattle.text_kit.specs.Terms.{Item}
use Rattle.master_bound.specs.declared.answer.Multiplier.{Multiplier}
use Rattle.tree_check.{specs.Terms.{Line, Divided, Table}, specs.declared.proof.BoxCert.BoxCert, specs.declared.proof.Node.Node, specs.declared.proof.Node.TheVariants.{Split, Closed, Empty, Spent, Stuck}, specs.declared.proof.Proof.Proof, specs.declared.proof.Verdict.Verdict, specs.declared.proof.Verdict.TheVariants.{Cheapest, Above}}
use Rattle.tree_lines.specs.TreeLines.{box_cut_items, line_items, node_items, verdict_items}
use Rattle.tree_reader.{specs.CommentTexts.{AreCommentsOf, comments_from}, specs.declared.tree.ReadTree.ReadTree}

-- the tree of a proof, without its plan
abbrev pub tree_of : Proof → ReadTree
tree_of proof = record { cuts = proof.cuts; lines = proof.lines; tree = proof.tree; verdict = proof.verdict }

-- the comment lines of a tree: those of each proof that has it
abbrev pub tree_lines : KnownNames → List Demand → ReadTree → List (List Item)
tree_lines known demands t =
    map box_cut_items (zip (range_with_len 0 (length t.cuts)) t.cuts)
    ++ map line_items (zip (range_with_len (length t.cuts) (length t.lines)) t.lines)
    ++ map (node_items known.links demands) t.tree ++ verdict_items known.places t.verdict ∷ []

-- a cut of a listed state, with a length below 2^32 for each link
pub record IsBoxCutInForm (known : KnownNames) (cut : CutLine) : Type 0 where
  pub state : cut.state.0 ≤ length known.listed
  pub right : cut.right < 2 ^ 126
  pub long : length cut.lengths ≡ length known.links
  pub each : All (λ n. n < 2 ^ 32) cut.lengths

-- a numerator below 2^64 and an index below 2^32
abbrev pub IsTerm : Multiplier → Type 0
IsTerm m = (m.num < 2 ^ 64) × (m.cut < 2 ^ 32)

abbrev pub IsLineInForm : Line → Type 0
IsLineInForm (Divided divisor terms) = (divisor < 2 ^ 126) × All IsTerm terms
IsLineInForm (Table line kind weights) = (line < 2 ^ 32) × All (λ n. n < 2 ^ 32) weights

abbrev pub IsBoxCertificateInForm : BoxCert → Type 0
IsBoxCertificateInForm cert = (cert.den < 2 ^ 126) × All IsTerm cert.lines

-- a node whose link there is, with numbers of their types; evidence is as in a report
abbrev pub IsNodeInForm : KnownNames → List Demand → Node → Type 0
IsNodeInForm known demands (Split link at_module number) = (link.0 < length known.links) × (at_module < 2 ^ 32) × (number < 2 ^ 64)
IsNodeInForm known demands (Closed cert) = IsBoxCertificateInForm cert
IsNodeInForm known demands (Empty cut) = cut < 2 ^ 32
IsNodeInForm known demands (Spent cert) = IsBoxCertificateInForm cert
IsNodeInForm known demands (Stuck cert evidence) = IsBoxCertificateInForm cert × IsEvidenceInForm known demands evidence

abbrev pub IsVerdictInForm : Verdict → Type 0
IsVerdictInForm Cheapest = Unit {0}
IsVerdictInForm (Above least) = least < 2 ^ 126

pub record IsTreeInForm (known : KnownNames) (demands : List Demand) (t : ReadTree) : Type 0 where
  pub cuts : All (IsBoxCutInForm known) t.cuts
  pub lines : All IsLineInForm t.lines
  pub nodes : All (IsNodeInForm known demands) t.tree
  pub verdict : IsVerdictInForm t.verdict

-- the bytes from a place on are the comment lines of a tree in form
pub record SpellsTree (known : KnownNames) (demands : List Demand) (from : ℕ) (bytes : List ℕ) (t : ReadTree) : Type 0 where
  pub form : IsTreeInForm known demands t
  pub spelled : AreCommentsOf (tree_lines known demands t) (comments_from from bytes)
