-- the first line of the view of one state
use Rattle.std.specs.Prelude.{ℕ, List, [], ◌∷◌, ◌++◌, codes, flat_map}
use Rattle.plan_report.specs.Terms.{state_name}
use Rattle.plan_terms.specs.Terms.{Case, Link, LinkId, link_name}
use Rattle.plan_view.specs.Terms.{failed_links}

-- the names of links that fail, each after a space; a dash where nothing fails
abbrev pub out_words : List Link → List LinkId → List ℕ
out_words links [] = codes " -"
out_words links (e ∷ es) = flat_map (λ x. codes " " ++ link_name links x) (e ∷ es)

-- the end of the line, with the links that fail
abbrev pub out_line : List Link → List LinkId → List ℕ
out_line links failed = codes "   links out:" ++ out_words links failed ++ codes "\n"

-- the beginning of the line: the network's file and the state
abbrev pub state_title : List ℕ → List ℕ → List ℕ
state_title network name = network ++ codes "   state " ++ name

-- the line of state s
abbrev pub state_heading : List ℕ → Case → ℕ → List ℕ
state_heading network p s = state_title network (state_name p.listed s) ++ out_line p.links (failed_links p.listed s)
