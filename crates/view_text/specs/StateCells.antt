-- the cells of a state's row: its numbers are those of the row
use Rattle.std.specs.Prelude.{ℕ, ◌/◌, List, [], ◌∷◌, ◌++◌, Option, None, Some, cond, codes, map, nat_eq, replicate}
use Rattle.plan_terms.specs.Terms.{Link, LinkId, Places, link_name}
use Rattle.plan_report.specs.Terms.{KnownNames, state_name}
use Rattle.plan_view.specs.declared.rows.StateRow.{StateRow}
use Rattle.text_kit.specs.Terms.{money_word}
use Rattle.text_layout.specs.Cells.{right_cell, spaces}
use Rattle.view_cells.specs.Terms.{joined_words, per_cent, tenths_per_cent}

-- the names of links
abbrev pub names_text : List Link → List LinkId → List ℕ
names_text links failed = joined_words (codes ", ") (map (link_name links) failed)

-- what is rerouted; a dash where nothing fails
abbrev pub rerouted_text : Places → StateRow → List ℕ
rerouted_text places row = cond (nat_eq row.state.0 0) (codes "-") (money_word places row.rerouted)

-- the name of the fullest link, and a dash where no link has a load
abbrev pub fullest_name : List Link → Option LinkId → List ℕ
fullest_name links None = codes "-"
fullest_name links (Some e) = link_name links e

-- the use of the fullest link, and a dash where no link has a load
abbrev pub fullest_use : Option LinkId → ℕ → List ℕ
fullest_use None used = codes "-"
fullest_use (Some e) used = per_cent used

-- a bar of n marks
abbrev pub bar_text : ℕ → List ℕ
bar_text marks = cond (nat_eq marks 0) [] (spaces 3 ++ replicate marks 35)

-- a part of the bound, in tenths of a per cent, with a mark for each five per cent; a dash where it is none
abbrev pub part_text : ℕ → List ℕ
part_text part = cond (nat_eq part 0) (codes "    -") (right_cell 7 (tenths_per_cent part) ++ bar_text (part / 50))

-- the cells of a state: name, links out, rerouted amount, fullest link, its use, and part of the bound
abbrev pub state_cells : KnownNames → StateRow → List (List ℕ)
state_cells known row =
    state_name known.listed row.state.0
    ∷ names_text known.links row.failed
    ∷ rerouted_text known.places row
    ∷ fullest_name known.links row.fullest
    ∷ fullest_use row.fullest row.used
    ∷ part_text row.part
    ∷ []

-- the heads of the columns, of which the fourth is above the fullest link and its use
abbrev pub state_heads : List (List ℕ)
state_heads = codes "Failure" ∷ codes "Links out" ∷ codes "Rerouted" ∷ codes "Fullest link" ∷ codes "Part of the bound" ∷ []
