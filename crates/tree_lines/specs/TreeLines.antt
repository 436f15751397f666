-- the comment lines of a branch tree: its cuts and further lines, its nodes in preorder, and its verdict
use Rattle.std.{specs.Prelude.{ℕ, List, [], ◌∷◌, ◌++◌, All, codes, flat_map, length, map, zip}, specs.List.range_with_len}
use Rattle.plan_terms.specs.Terms.{CutLine, Demand, Link, Places}
use Rattle.plan_report.specs.Terms.{evidence_items, link_name}
use Rattle.text_kit.specs.Terms.{Item, Money, Verbatim, Whole}
use Rattle.report_comments.specs.ReportComments.{IsOfRouting}
use Rattle.master_bound.specs.declared.answer.Multiplier.{Multiplier}
use Rattle.tree_check.{specs.Terms.{Line, Divided, Table, TableKind, Plain, Failing}, specs.declared.proof.BoxCert.BoxCert, specs.declared.proof.Node.Node, specs.declared.proof.Node.TheVariants.{Split, Closed, Empty, Spent, Stuck}, specs.declared.proof.Proof.Proof, specs.declared.proof.Verdict.Verdict, specs.declared.proof.Verdict.TheVariants.{Cheapest, Above}}

-- a cut with its index: its state, its right side, and a length for each link
abbrev pub box_cut_items : ℕ × CutLine → List Item
box_cut_items (i, cut) = Verbatim (codes "box-cut") ∷ Whole i ∷ Whole cut.state.0 ∷ Whole cut.right ∷ flat_map (λ n. Whole n ∷ []) cut.lengths

-- numerators, each with the index of its line
abbrev pub multiplier_items : List Multiplier → List Item
multiplier_items multipliers = flat_map (λ m. Whole m.num ∷ Whole m.cut ∷ []) multipliers

-- the word of a kind of table line
abbrev pub table_word : TableKind → List ℕ
table_word Plain = codes "plain"
table_word Failing = codes "failing"

-- a further line with its index: the divisor and the numerators of a divided line; the line, the kind and the weights of a table line
abbrev pub line_items : ℕ × Line → List Item
line_items (i, Divided divisor terms) = Verbatim (codes "line") ∷ Whole i ∷ Whole divisor ∷ multiplier_items terms
line_items (i, Table line kind weights) =
    Verbatim (codes "table") ∷ Whole i ∷ Whole line ∷ Verbatim (table_word kind) ∷ flat_map (λ n. Whole n ∷ []) weights

-- a certificate of a box: its denominator, and each numerator with the index of its line
abbrev pub box_certificate_items : BoxCert → List Item
box_certificate_items cert = Whole cert.den ∷ multiplier_items cert.lines

-- a node: a split with its link's name, its module and its number, or a leaf with what it shows
abbrev pub node_items : List Link → List Demand → Node → List Item
node_items links demands (Split link at_module number) = Verbatim (codes "split") ∷ Verbatim (link_name links link) ∷ Whole at_module ∷ Whole number ∷ []
node_items links demands (Closed cert) = Verbatim (codes "closed") ∷ box_certificate_items cert
node_items links demands (Empty cut) = Verbatim (codes "empty") ∷ Whole cut ∷ []
node_items links demands (Spent cert) = Verbatim (codes "spent") ∷ box_certificate_items cert
node_items links demands (Stuck cert evidence) =
    Verbatim (codes "stuck") ∷ box_certificate_items cert ++ Verbatim (codes "wide") ∷ evidence_items links demands evidence

-- a verdict, whose money has these places
abbrev pub verdict_items : Places → Verdict → List Item
verdict_items places Cheapest = Verbatim (codes "cheapest") ∷ []
verdict_items places (Above least) = Verbatim (codes "above") ∷ Money places least ∷ []

-- the lines of a proof
abbrev pub proof_lines : List Link → List Demand → Places → Proof → List (List Item)
proof_lines links demands places proof =
    map box_cut_items (zip (range_with_len 0 (length proof.cuts)) proof.cuts)
    ++ map line_items (zip (range_with_len (length proof.cuts) (length proof.lines)) proof.lines)
    ++ map (node_items links demands) proof.tree ++ verdict_items places proof.verdict ∷ []

-- what evidence a node has is of a program that routes
abbrev pub IsToldNode : Node → Type 0
IsToldNode (Stuck cert evidence) = IsOfRouting evidence
IsToldNode _ = Unit {0}

-- so it is with each node of the tree
abbrev pub IsToldProof : Proof → Type 0
IsToldProof proof = All IsToldNode proof.tree
