-- the comment lines that tell what keeps each module of a trimmed plan
use Rattle.std.specs.Prelude.{ℕ, List, [], ◌∷◌, codes, flat_map, map}
use Rattle.plan_terms.specs.Terms.{Demand, Link}
use Rattle.plan_report.specs.Terms.{evidence_items, link_name}
use Rattle.text_kit.specs.Terms.{Item, Verbatim, Whole}
use Rattle.report_comments.{specs.Comments.comment_line, specs.ReportComments.IsOfRouting}
use Rattle.trim_plan.{specs.Terms.{Stop, Cut, Wide}, specs.declared.trimmed_plan.Block.Block}

-- why a module stays: a cut with its state, its right side and a length for each link; or evidence, as in a report
abbrev pub stop_items : List Link → List Demand → Stop → List Item
stop_items links demands (Cut cut) =
    Verbatim (codes "cut") ∷ Whole cut.state.0 ∷ Verbatim (codes "right") ∷ Whole cut.right
    ∷ Verbatim (codes "lengths") ∷ flat_map (λ n. Whole n ∷ []) cut.lengths
stop_items links demands (Wide evidence) = Verbatim (codes "wide") ∷ evidence_items links demands evidence

-- what keeps a module: its link's name, its place among the link's modules, and why it stays
abbrev pub block_items : List Link → List Demand → Block → List Item
block_items links demands b = Verbatim (codes "blocked") ∷ Verbatim (link_name links b.link) ∷ Whole b.module ∷ stop_items links demands b.why

-- a comment line for each block
abbrev pub block_lines : List Link → List Demand → List Block → List ℕ
block_lines links demands blocks = flat_map comment_line (map (block_items links demands) blocks)

-- ---- what such a line can contain

-- a cut, or evidence of a routing program
abbrev pub IsTold : Stop → Type 0
IsTold (Cut line) = Unit {0}
IsTold (Wide evidence) = IsOfRouting evidence
