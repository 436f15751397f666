-- The text of a network spells it.
use Rattle.std.proofs.Common.{◌≡◌, ℕ, ◌<◌, ◌^◌, ◌==◌, ◌||◌, inl, not, Bool, false, List, [], ◌∷◌, ◌++◌, All, map, length, Ok, refl, sym, ap, subst, ◌∙◌, arith, append-nil, flat_map, codes}
use Rattle.net_core.proofs.Library.{AllByRecursion, list_any, ∥∥₁_elim, props, All-from_recursion, All-head, All-tail}
use Rattle.snd_tokens.specs.Terms.{amount_of, units_of}
use Rattle.plan_terms.specs.Terms.{AreDemands, IsDemand, IsNetwork, Demand, Link, Network, Notes, Places, Three}
use Rattle.text_kit.{specs.Terms.{IsFileOf, SpellsBy, ComeAfter, AreSpelled, Item, Verbatim, Closing, AddsItems, IsShortItem, money_word, section}, proofs.Lemmas.{writable, amount_again, number_takes, written_is_read, money_again}}
use Rattle.sndlib_reader.{specs.Terms.{IsReadWith, Spells, IsPartAfter, IsShortLink, NodeName, NodePart, SpellsDemand, SpellsPart, SpellsParts, header, link_items, notes_of, parts_of}, proofs.ItsPlaces.three_spelled, proofs.Nodes.all_names}
use Rattle.sample_net.specs.Texts.{HasWritableNotes, costless, costless_items, network_items, unit_demand_items}

-- what is told of a network's check is so
network_told : (nodes : List (List ℕ)) (links : List Link) → ∥ IsNetwork nodes links ∥₁ → IsNetwork nodes links
network_told nodes links told = ∥∥₁_elim told (hlevel props) (λ is. is)

-- ---- items that were written

short_before : (is js : List Item) → AllByRecursion IsShortItem (is ++ js) → AllByRecursion IsShortItem is
short_before [] js all = tt
short_before (i ∷ is) js all = (all.0, short_before is js all.1)

short_after : (is js : List Item) → AllByRecursion IsShortItem (is ++ js) → AllByRecursion IsShortItem js
short_after [] js all = all
short_after (i ∷ is) js all = short_after is js all.1

-- the items in a section, and those after it
inside_section : (word : List ℕ) (inside rest : List Item) → AllByRecursion IsShortItem (section word inside ++ rest) → AllByRecursion IsShortItem inside × AllByRecursion IsShortItem rest
inside_section word inside rest all = (
  short_before inside (Closing ∷ []) (short_before (inside ++ Closing ∷ []) rest all.1.1),
  short_after (inside ++ Closing ∷ []) rest all.1.1,
)

-- ---- nodes

nodes_spelled : (nodes : List (List ℕ)) → AreSpelled SpellsPart (map NodeName nodes) (flat_map (λ n. Verbatim n ∷ []) nodes)
nodes_spelled [] = refl
nodes_spelled (n ∷ ns) = (Verbatim n ∷ [], flat_map (λ m. Verbatim m ∷ []) ns, refl, nodes_spelled ns, refl)

nodes_in_order : (sofar : List NodePart) (nodes : List (List ℕ)) → AllByRecursion IsShortItem (flat_map (λ n. Verbatim n ∷ []) nodes) → ComeAfter IsPartAfter sofar (map NodeName nodes)
nodes_in_order sofar [] all = tt
nodes_in_order sofar (n ∷ ns) all = (all.0.short, nodes_in_order (sofar ++ NodeName n ∷ []) ns all.1)

-- ---- links

links_spelled : (nodes : List (List ℕ)) (links : List Link) → flat_map (costless_items nodes) links ≡ flat_map (link_items Three nodes) (map costless links)
links_spelled nodes [] = refl
links_spelled nodes (l ∷ ls) = ap (λ (is : List Item). costless_items nodes l ++ is) (links_spelled nodes ls)

links_kept : (links : List Link) → map (λ l. l.link) (map costless links) ≡ links
links_kept [] = refl
links_kept (l ∷ ls) = ap (λ (ks : List Link). l ∷ ks) (links_kept ls)

links_short : (nodes : List (List ℕ)) (links : List Link) → AllByRecursion IsShortItem (flat_map (costless_items nodes) links) → AllByRecursion IsShortLink (map costless links)
links_short nodes [] all = tt
links_short nodes (l ∷ ls) all = (
  record { name = all.0.short; fixed_cost = omega arith; routing_cost = omega arith },
  links_short nodes ls (short_after (costless_items nodes l) (flat_map (costless_items nodes) ls) all),
)

no_fixed_cost : (links : List Link) → list_any (λ l. not (l.fixed_cost == 0)) (map costless links) ≡ false
no_fixed_cost [] = refl
no_fixed_cost (l ∷ ls) = no_fixed_cost ls

no_routing_cost : (links : List Link) → list_any (λ l. not (l.routing_cost == 0)) (map costless links) ≡ false
no_routing_cost [] = refl
no_routing_cost (l ∷ ls) = no_routing_cost ls

setup_cost : (links : List Link) → list_any (λ l. not (l.link.setup == 0)) (map costless links) ≡ list_any (λ l. not (l.setup == 0)) links
setup_cost [] = refl
setup_cost (l ∷ ls) = ap (λ b. not (l.setup == 0) || b) (setup_cost ls)

-- the notes of links without further costs
notes_written : (net : Network) → HasWritableNotes net → notes_of (map costless net.links) ≡ net.notes
notes_written net has =
    same_notes (notes_of (map costless net.links)) net.notes (no_fixed_cost net.links ∙ sym has.fixed_cost) (no_routing_cost net.links ∙ sym has.routing_cost) (setup_cost net.links ∙ sym has.setup_cost)
  where
    same_notes : (a b : Notes) → a.fixed_cost ≡ b.fixed_cost → a.routing_cost ≡ b.routing_cost → a.setup_cost ≡ b.setup_cost → a ≡ b
    same_notes a b e f g =
        let made : Bool → Bool → Bool → Notes = λ x y z. record { fixed_cost = x; routing_cost = y; setup_cost = z } in
        ap (λ x. made x a.routing_cost a.setup_cost) e ∙ ap (λ y. made b.fixed_cost y a.setup_cost) f ∙ ap (made b.fixed_cost b.routing_cost) g

-- ---- demands

need_read : (n : ℕ) → n < 2 ^ 40 → amount_of Three (money_word Three n) ≡ Ok n
need_read n lt = number_takes (λ f. f) (amount_of Three (money_word Three n)) n (amount_again (λ f. f) Three (money_word Three n) n lt (money_again Three n (omega (arith, lt))))

one_unit : units_of Three (codes "1") ≡ Ok 1
unfolding units_of
one_unit = refl

demands_spelled : (nodes : List (List ℕ)) (demands : List Demand) → All (IsDemand (length nodes)) demands → AllByRecursion IsShortItem (flat_map (unit_demand_items nodes) demands)
    → AreSpelled (SpellsDemand Three nodes) demands (flat_map (unit_demand_items nodes) demands)
demands_spelled nodes [] sound all = refl
demands_spelled nodes (d ∷ ds) sound all = (
  unit_demand_items nodes d,
  flat_map (unit_demand_items nodes) ds,
  record {
    unit = codes "1";
    amount = money_word Three d.need;
    hops = codes "UNLIMITED";
    units = 1;
    each = d.need;
    short = all.0.short;
    items_are = refl;
    unit_is = one_unit;
    amount_is = need_read d.need (All-head (IsDemand (length nodes)) d ds sound).need;
    need_is = omega arith;
    hops_are = inl refl;
  },
  demands_spelled nodes ds (All-tail (IsDemand (length nodes)) d ds sound) (short_after (unit_demand_items nodes d) (flat_map (unit_demand_items nodes) ds) all),
  refl,
)

-- ---- the whole text

text_spells : (net : Network) (demands : List Demand) (text : List ℕ) → net.places ≡ Three → HasWritableNotes net → AreDemands (length net.nodes) demands
    → AddsItems (header ++ 10 ∷ []) (network_items net.nodes net.links demands) text → Spells text net demands
text_spells net demands text three notes belong added =
    let nodes = net.nodes in
    let links = net.links in
    let node_items : List Item = flat_map (λ n. Verbatim n ∷ []) nodes in
    let link_list : List Item = flat_map (costless_items nodes) links in
    let demand_list : List Item = flat_map (unit_demand_items nodes) demands in
    let first = inside_section (codes "NODES") node_items (section (codes "LINKS") link_list ++ section (codes "DEMANDS") demand_list) added.each in
    let second = inside_section (codes "LINKS") link_list (section (codes "DEMANDS") demand_list) first.1 in
    let third = short_before demand_list (Closing ∷ []) second.1.1.1 in
    let spelled : SpellsParts Three (parts_of net, demands) (network_items nodes links demands) = record {
      meta = [];
      parts = map NodeName nodes;
      part_items = node_items;
      links = map costless links;
      demand_items = demand_list;
      paths = [];
      items_are = ap (λ (is : List Item). section (codes "NODES") node_items ++ (section (codes "LINKS") is ++ section (codes "DEMANDS") demand_list)) (links_spelled nodes links)
          ∙ ap (λ (is : List Item). section (codes "NODES") node_items ++ (section (codes "LINKS") (flat_map (link_items Three nodes) (map costless links)) ++ is)) (sym (append-nil (section (codes "DEMANDS") demand_list)));
      meta_is = inl refl;
      parts_are = nodes_spelled nodes;
      parts_in_order = nodes_in_order [] nodes first.0;
      nodes_are = all_names nodes;
      links_are = links_kept links;
      links_short = All-from_recursion IsShortLink (map costless links) (links_short nodes links second.0);
      notes_are = notes_written net notes;
      places_are = sym three;
      network = network_told nodes links net.checked;
      demands_are = demands_spelled nodes demands belong.each third;
      belong = belong;
      paths_are = inl refl;
    } in
    let file : SpellsBy header (SpellsParts Three) text (parts_of net, demands) = (
      network_items nodes links demands,
      spelled,
      subst (λ (bytes : List ℕ). IsFileOf header (network_items nodes links demands) bytes) (sym added.text)
          (written_is_read header (network_items nodes links demands) (record { one = refl; no_blank = refl }) (writable (network_items nodes links demands) added.each)),
    ) in
    subst (λ (p : Places). IsReadWith p text × SpellsBy header (SpellsParts p) text (parts_of net, demands)) (sym three) (three_spelled text (parts_of net, demands) file, file)

-- a text is a file of a network and its demands where it was written from nodes, links and demands that equal theirs
pub text_of_parts : (net : Network) (demands : List Demand) (nodes : List (List ℕ)) (links : List Link) (asked : List Demand) (start text : List ℕ) → net.places ≡ Three → HasWritableNotes net → AreDemands (length net.nodes) demands
    → nodes ≡ net.nodes → links ≡ net.links → asked ≡ demands → start ≡ header ++ 10 ∷ [] → AddsItems start (network_items nodes links asked) text → Spells text net demands
text_of_parts net demands nodes links asked start text three notes belong n l d s added =
    text_spells net demands text three notes belong
    (subst (λ (ns : List (List ℕ)). AddsItems (header ++ 10 ∷ []) (network_items ns net.links demands) text) n
    (subst (λ (ls : List Link). AddsItems (header ++ 10 ∷ []) (network_items nodes ls demands) text) l
    (subst (λ (ds : List Demand). AddsItems (header ++ 10 ∷ []) (network_items nodes links ds) text) d
    (subst (λ (bytes : List ℕ). AddsItems bytes (network_items nodes links asked) text) s added))))
