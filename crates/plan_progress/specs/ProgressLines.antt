-- the lines of a planning's progress
use Rattle.std.specs.Prelude.{◌≡◌, ℕ, ◌/◌, ◌++◌, List, codes, decimal}
use Rattle.plan_terms.specs.Terms.{Places}
use Rattle.text_kit.specs.Terms.{money_word}
use Rattle.plan_view.specs.Terms.{IsGap}
use Rattle.view_cells.specs.Terms.{counted, tenths_per_cent}
use Rattle.outside_io.{specs.declared.figures.RoundFigures.RoundFigures, specs.declared.figures.TreeFigures.TreeFigures}

-- the value of a certificate in whole units, rounded down; 0 if it has none
abbrev pub worth : RoundFigures → ℕ
worth f = f.raw_num / f.raw_den

-- the line of a round
abbrev pub round_line : Places → RoundFigures → List ℕ
round_line places f =
    codes "round " ++ decimal f.round ++ codes ": " ++ counted f.cuts (codes "cut") (codes "cuts")
    ++ codes ", worth " ++ money_word places (worth f)
    ++ codes ", " ++ counted f.routed (codes "state") (codes "states") ++ codes " carried\n"

-- what is told of the splits and of the costs
abbrev pub split_costs : Places → TreeFigures → List ℕ
split_costs places f =
    codes "tree: " ++ decimal f.splits ++ codes " of " ++ counted f.limit (codes "split") (codes "splits")
    ++ codes ", cost " ++ money_word places f.cost ++ codes ", at least " ++ money_word places f.bound

-- what is told of the gap, in tenths of a per cent, and of the open boxes
abbrev pub split_rest : TreeFigures → ℕ → List ℕ
split_rest f gap = codes ", gap " ++ tenths_per_cent gap ++ codes ", " ++ counted f.open (codes "box") (codes "boxes") ++ codes " open\n"

-- the line of a split, with this gap in tenths of a per cent
abbrev pub split_line : Places → TreeFigures → ℕ → List ℕ
split_line places f gap = split_costs places f ++ split_rest f gap

-- the line of a split, with its gap, is appended to the text
abbrev pub HasSplitLine : Places → TreeFigures → List ℕ → List ℕ → Type 0
HasSplitLine places f old new = (gap : ℕ) × IsGap f.cost f.bound gap × (new ≡ old ++ split_line places f gap)
