-- the picture of a plan, as scalable vector graphics (SVG 1.1, W3C)
use Rattle.std.{specs.Prelude.{◌≡◌, ℕ, Bool, true, false, not, List, [], ◌∷◌, ◌++◌, codes, cond, decimal, flat_map, length, nat_eq, nat_lt, slice_get, slice_index}, specs.List.list_any, specs.Option.option_map_or}
use Rattle.plan_terms.specs.Terms.{Case, Link, LinkId}
use Rattle.text_kit.specs.Terms.{money_word}
use Rattle.plan_report.specs.Terms.{KnownNames, known_to, state_name, Plan}
use Rattle.plan_view.{specs.Terms.{AreLinkRows, den_in, failed_links, routing_in}, specs.declared.rows.LinkRow.LinkRow}
use Rattle.view_cells.specs.Terms.{joined_words, kinds_words}
use Rattle.picture_layout.{specs.declared.layout.Layout.Layout, specs.declared.layout.Spot.Spot, specs.declared.layout.Stroke.Stroke}
use Rattle.view_svg.{specs.Changes.{AreRoundedLoads, changed_flows}, specs.Markup.escaped}

-- ---- links

-- the data of a spot, and its attributes
abbrev pub point : Spot → List ℕ
point spot = decimal spot.x ++ codes " " ++ decimal spot.y

abbrev pub spot_attributes : Spot → List ℕ
spot_attributes spot = codes " x=\"" ++ decimal spot.x ++ codes "\" y=\"" ++ decimal spot.y ++ codes "\">"

-- the data of a link's line: it is straight, or bends towards a spot
abbrev pub curve : Stroke → List ℕ
curve s = codes "M" ++ point s.from ++ option_map_or (λ bend. codes "Q" ++ point bend ++ codes " ") s.bend (codes "L") ++ point s.to

-- the class of a use in per cent: it is low, high, or near the capacity
abbrev pub use_class : ℕ → List ℕ
use_class used = cond (nat_lt used 60) (codes "lo") (cond (nat_lt used 85) (codes "mi") (codes "hi"))

-- the classes of a link: that of its worst use, whether nothing is bought, and whether it is out
abbrev pub link_class : LinkRow → Bool → List ℕ
link_class row out =
    use_class row.used ++ cond (list_any (λ n. nat_lt 0 n) row.modules) [] (codes " no") ++ cond out (codes " out") []

-- what is said of a link: its modules, its cost, and its worst load and the state of it
abbrev pub link_words : KnownNames → Link → LinkRow → List ℕ
link_words known link row =
    escaped link.name ++ codes ": " ++ joined_words (codes " + ") (kinds_words known.places link.modules row.modules)
    ++ codes ", cost " ++ money_word known.places row.cost
    ++ (codes ", " ++ money_word known.places row.worst ++ codes " of " ++ money_word known.places row.capacity
    ++ codes " in state " ++ escaped (state_name known.listed row.state.0))

-- what of a state's flows goes along other paths over a link, if something does
abbrev pub change_words : KnownNames → ℕ → List ℕ
change_words known change = cond (nat_lt 0 change) (codes "; other paths: " ++ money_word known.places change) []

-- the words beside a link: its worst use in per cent, or a cross where it is out
abbrev pub link_mark : Spot → ℕ → Bool → List ℕ
link_mark spot used true = codes "<text class=\"x\"" ++ spot_attributes spot ++ codes "&#215;</text>"
link_mark spot used false = codes "<text" ++ spot_attributes spot ++ decimal used ++ codes "</text>"

-- the curve of a link, with its classes and its width
abbrev pub link_curve : Stroke → LinkRow → Bool → List ℕ
link_curve s row out =
    codes "<path class=\"" ++ link_class row out ++ codes "\" stroke-width=\"" ++ decimal s.width ++ codes "\" d=\"" ++ curve s ++ codes "\"/>"

-- a link: its curve, what is said of it, and the words beside it
abbrev pub drawn_link : KnownNames → Link → LinkRow → Stroke → Bool → ℕ → List ℕ
drawn_link known link row s out change =
    codes "<g>" ++ link_curve s row out ++ codes "<title>" ++ (link_words known link row ++ change_words known change) ++ codes "</title>"
    ++ link_mark s.label row.used out ++ codes "</g>\n"

-- whether a link is among those that are out
abbrev pub is_out : List LinkId → LinkId → Bool
is_out failed e = list_any (λ f. nat_eq f.0 e.0) failed

-- the link of a row, where the network and the layout have it
abbrev pub drawn_row : KnownNames → List Stroke → LinkRow → Bool → ℕ → List ℕ
drawn_row known strokes row out change =
    option_map_or (λ link. option_map_or (λ s. drawn_link known link row s out change) (slice_get strokes row.link.0) [])
    (slice_get known.links row.link.0) []

-- the same in a state that fails these links and brings these amounts onto other paths
abbrev pub drawn_in_state : KnownNames → List Stroke → List LinkId → List ℕ → LinkRow → List ℕ
drawn_in_state known strokes failed changes row = drawn_row known strokes row (is_out failed row.link) (slice_index changes row.link.0)

-- ---- nodes

-- the dot of a node, and its name beside it
abbrev pub drawn_dot : Spot → List ℕ
drawn_dot spot = codes "<circle r=\"50\" cx=\"" ++ decimal spot.x ++ codes "\" cy=\"" ++ decimal spot.y ++ codes "\"/>\n"

abbrev pub drawn_name : List ℕ → Spot → List ℕ
drawn_name name spot = codes "<text" ++ spot_attributes spot ++ escaped name ++ codes "</text>\n"

-- names of nodes at their spots
abbrev pub drawn_names : List (List ℕ) → List Spot → List ℕ
drawn_names [] spots = []
drawn_names (name ∷ names) [] = []
drawn_names (name ∷ names) (spot ∷ spots) = drawn_name name spot ++ drawn_names names spots

-- all nodes, and their names beside them
abbrev pub drawn_nodes : List (List ℕ) → List Spot → List ℕ
drawn_nodes names spots = flat_map drawn_dot spots ++ codes "<g class=\"n\" transform=\"translate(80 -70)\">\n" ++ drawn_names names spots ++ codes "</g>\n"

-- ---- links on paths that a state has taken instead of others

-- the curve of a row's link, if something goes along other paths there
abbrev pub changed_curve : List Stroke → List ℕ → LinkRow → List ℕ
changed_curve strokes changes row =
    cond (nat_lt 0 (slice_index changes row.link.0)) (option_map_or curve (slice_get strokes row.link.0) []) []

-- the curves of all such links, as one line behind the links
abbrev pub drawn_changes : List Stroke → List ℕ → List LinkRow → List ℕ
drawn_changes strokes changes rows = codes "<path class=\"p\" d=\"" ++ flat_map (changed_curve strokes changes) rows ++ codes "\"/>\n"

-- ---- the whole

-- how parts look, and the size of the picture
abbrev pub head_text : List ℕ
head_text =
    codes "<svg xmlns=\"http://www.w3.org/2000/svg\" viewBox=\"0 0 9600 7200\" font-family=\"sans-serif\" font-size=\"120\">\n"
    ++ codes "<style>path{fill:none;stroke-linecap:round}text{text-anchor:middle;paint-order:stroke;stroke:#fff;stroke-width:30px}\n"
    ++ codes ".k,.n text{text-anchor:start}.n{font-weight:bold}.lo{stroke:#2b7bba}.mi{stroke:#e08a00}.hi{stroke:#c0182b}.no{stroke-dasharray:60 50}\n"
    ++ codes ".out{stroke:#999;stroke-dasharray:20 50}.x{font-size:260px;font-weight:bold}.p{stroke:#7a3ea8;stroke-opacity:.35;stroke-width:140}</style>\n"
    ++ codes "<rect width=\"9600\" height=\"7200\" fill=\"#fff\"/>\n"

-- what lines and numbers mean
abbrev pub key_text : List ℕ
key_text =
    codes "<path class=\"lo\" stroke-width=\"50\" d=\"M400 6600H800\"/><text class=\"k\" x=\"880\" y=\"6640\">below 60 %</text>\n"
    ++ codes "<path class=\"mi\" stroke-width=\"50\" d=\"M1800 6600H2200\"/><text class=\"k\" x=\"2280\" y=\"6640\">below 85 %</text>\n"
    ++ codes "<path class=\"hi\" stroke-width=\"50\" d=\"M3200 6600H3600\"/><text class=\"k\" x=\"3680\" y=\"6640\">85 % and more</text>\n"
    ++ codes "<path class=\"lo no\" stroke-width=\"50\" d=\"M4800 6600H5200\"/><text class=\"k\" x=\"5280\" y=\"6640\">nothing bought</text>\n"
    ++ codes "<text class=\"k\" x=\"400\" y=\"6840\">Numbers and colours are the worst use in per cent, widths the capacities.</text>\n"

-- what lines mean that only a state with failures has
abbrev pub out_text : List ℕ
out_text =
    codes "<path class=\"out\" stroke-width=\"50\" d=\"M6400 6600H6800\"/><text class=\"k\" x=\"6880\" y=\"6640\">out</text>\n"
    ++ codes "<path class=\"p\" d=\"M7400 6600H7800\"/><text class=\"k\" x=\"7920\" y=\"6640\">other paths</text>\n"

-- a note on nodes whose places aren't known
abbrev pub circle_text : List ℕ
circle_text = codes "<text class=\"k\" x=\"400\" y=\"7040\">The file doesn't say where each node stands, so they stand on a circle.</text>\n"

-- the beginning of a picture, and its end
abbrev pub beginning : List ℕ → List ℕ → List ℕ
beginning network state =
    head_text ++ codes "<text class=\"k n\" x=\"400\" y=\"280\">" ++ escaped network ++ codes ", state " ++ escaped state ++ codes "</text>\n"

abbrev pub ending : Bool → Bool → List ℕ
ending is_map fails = key_text ++ cond fails out_text [] ++ cond (not is_map) circle_text [] ++ codes "</svg>\n"

-- The picture of a plan in a state: the links on paths that no flow takes where nothing fails, and each link and each node, drawn by this layout.
abbrev pub picture_text : List ℕ → KnownNames → ℕ → List LinkRow → Layout → List ℕ → List ℕ
picture_text network known state rows layout changes =
    beginning network (state_name known.listed state)
    ++ cond (nat_lt 0 state) (drawn_changes layout.links changes rows) []
    ++ flat_map (drawn_in_state known layout.links (failed_links known.listed state) changes) rows
    ++ drawn_nodes known.nodes layout.nodes
    ++ ending layout.is_map (nat_lt 0 state)

-- The text is the picture of a plan in a state. It has a row's link for each link of the network, with the definitions' numbers, and each node.
-- Where they are drawn is free.
pub record IsPicture (network : List ℕ) (p : Case) (plan : Plan) (state : ℕ) (text : List ℕ) : Type 0 where
  pub rows : List LinkRow
  pub layout : Layout
  pub changes : List ℕ
  pub are_rows : AreLinkRows p.links plan (length p.links) rows
  pub are_changes : AreRoundedLoads (changed_flows (routing_in plan.routings 0).flows (routing_in plan.routings state).flows) (den_in plan.routings state)
      (length p.links) changes
  pub all_nodes : length layout.nodes ≡ length p.nodes
  pub all_links : length layout.links ≡ length p.links
  pub drawn : text ≡ picture_text network (known_to p) state rows layout changes
