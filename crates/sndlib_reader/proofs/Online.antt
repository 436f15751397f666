-- No answer depends on a lexeme after what was taken, or after the place of the fault.
use Rattle.std.proofs.Common.{ℕ, true, false, List, [], Ok, Err, refl, codes}
use Rattle.net_core.{specs.declared.demand.Demand.Demand, specs.declared.network.Module.Module, specs.declared.places.Places.Places, specs.Terms.total_need}
use Rattle.text_kit.{specs.Terms.{Reading, word_at, expected, Parenthesis, no_fault, list_at, each_at}, proofs.Lemmas.{IsOnline, TakesSome, online_close, online_end, online_give, online_list, online_open, online_step, online_then, online_word, takes_some}}
use Rattle.sndlib_reader.{specs.declared.costs.CostedLink.CostedLink, specs.declared.fault.ReadKind.ReadKind, specs.declared.fault.ReadKind.TheVariants.{Section, Token, Ended, SelfLink, SelfDemand}, specs.Spelling.names_of, specs.Reading.{known_name, path_name, node_named, other_node, amount, unit, capacity, need, hops, native_section_at, part_at, ends_at, module_at, unserved, link_numbers_at, link_rest_at, native_link_at, costed_links_at, demand_rest_at, native_demand_at, native_demands_at, some_at, native_path_at, path_line_at, is_meta, after_meta, start_at, is_paths, after_paths, paths_at, parts, after_links_at, after_nodes_at, node_section_at, native_sections_at}, proofs.Nodes.{part_online, part_some}, proofs.Skipped.skipped_online}

ends_online : (kind : ReadKind) (nodes : List (List ℕ)) → IsOnline (ends_at kind nodes)
unfolding ends_at
ends_online kind nodes =
    online_then _ _ (online_open Token Ended) (λ o.
    online_then _ _ (online_word Token Ended (node_named nodes)) (λ a.
    online_then _ _ (online_word Token Ended (other_node kind nodes a)) (λ b.
    online_then _ _ (online_close Token Ended) (λ c.
    online_give _))))

module_online : (p : Places) (sofar : List Module) → IsOnline (module_at p sofar)
unfolding module_at
module_online p sofar =
    online_then _ _ (online_word Token Ended (capacity p sofar)) (λ capacity.
    online_then _ _ (online_word Token Ended (amount p)) (λ cost.
    online_give (record { capacity = capacity; cost = cost })))

pub module_some : (p : Places) (sofar : List Module) → TakesSome (module_at p sofar)
unfolding module_at
module_some p sofar = takes_some (module_at p sofar) (module_online p sofar) (λ at. Ended) (λ at. refl)

numbers_online : (p : Places) → IsOnline (link_numbers_at p)
unfolding link_numbers_at
numbers_online p =
    online_then _ _ (online_word Token Ended (amount p)) (λ fixed.
    online_then _ _ (online_word Token Ended (amount p)) (λ fixed_cost.
    online_then _ _ (online_word Token Ended (amount p)) (λ routing_cost.
    online_then _ _ (online_word Token Ended (amount p)) (λ setup.
    online_give _))))

link_rest_online : (p : Places) (nodes : List (List ℕ)) → IsOnline (link_rest_at p nodes)
unfolding link_rest_at
link_rest_online p nodes =
    online_then _ _ (ends_online SelfLink nodes) (λ ends.
    online_then _ _ (numbers_online p) (λ numbers.
    online_then _ _ (online_open Token Ended) (λ o.
    online_then _ _ (online_list Parenthesis (unserved numbers.fixed) (module_at p) (module_online p) (module_some p) []) (λ modules.
    online_give _))))

link_online : (p : Places) (nodes : List (List ℕ)) (sofar : List CostedLink) → IsOnline (native_link_at p nodes sofar)
unfolding native_link_at
link_online p nodes sofar =
    online_then _ _ (online_word Token Ended _) (λ name.
    online_then _ _ (link_rest_online p nodes) (λ rest.
    online_give _))

pub link_some : (p : Places) (nodes : List (List ℕ)) (sofar : List CostedLink) → TakesSome (native_link_at p nodes sofar)
unfolding native_link_at
link_some p nodes sofar = takes_some (native_link_at p nodes sofar) (link_online p nodes sofar) (λ at. Ended) (λ at. refl)

demand_rest_online : (p : Places) (nodes : List (List ℕ)) (before : ℕ) → IsOnline (demand_rest_at p nodes before)
unfolding demand_rest_at
demand_rest_online p nodes before =
    online_then _ _ (ends_online SelfDemand nodes) (λ ends.
    online_then _ _ (online_word Token Ended (unit p)) (λ units.
    online_then _ _ (online_word Token Ended (need p before units)) (λ needed.
    online_then _ _ (online_word Token Ended hops) (λ h.
    online_give _))))

demand_online : (p : Places) (nodes : List (List ℕ)) (sofar : List Demand) → IsOnline (native_demand_at p nodes sofar)
unfolding native_demand_at
demand_online p nodes sofar =
    online_then _ _ (online_word Token Ended _) (λ name.
    online_then _ _ (demand_rest_online p nodes (total_need sofar)) (λ rest.
    online_give _))

pub demand_some : (p : Places) (nodes : List (List ℕ)) (sofar : List Demand) → TakesSome (native_demand_at p nodes sofar)
unfolding native_demand_at
demand_some p nodes sofar = takes_some (native_demand_at p nodes sofar) (demand_online p nodes sofar) (λ at. Ended) (λ at. refl)

-- ---- paths

each_online : {X : Type 0} (one : Reading ReadKind X) → IsOnline one → TakesSome one → IsOnline (each_at one)
each_online one on some = online_then (list_at Parenthesis no_fault (λ sofar. one) []) _ (online_list Parenthesis no_fault (λ sofar. one) (λ sofar. on) (λ sofar. some) []) (λ xs. online_give tt)

some_online : (one : Reading ReadKind (Unit {0})) → IsOnline one → TakesSome one → IsOnline (some_at one)
unfolding some_at
some_online one on some =
    online_then _ _ (online_open Token Ended) (λ o.
    online_then one _ on (λ x.
    each_online one on some))

pub known_some : (names : List (List ℕ)) → TakesSome (word_at Token Ended (known_name names))
known_some names = takes_some (word_at Token Ended (known_name names)) (online_word Token Ended (known_name names)) (λ p. Ended) (λ p. refl)

path_online : (links : List (List ℕ)) → IsOnline (native_path_at links)
path_online links =
    online_then _ _ (online_word Token Ended path_name) (λ x.
    some_online (word_at Token Ended (known_name links)) (online_word Token Ended (known_name links)) (known_some links))

pub path_some : (links : List (List ℕ)) → TakesSome (native_path_at links)
path_some links = takes_some (native_path_at links) (path_online links) (λ p. Ended) (λ p. refl)

line_online : (links demands : List (List ℕ)) → IsOnline (path_line_at links demands)
line_online links demands =
    online_then _ _ (online_word Token Ended (known_name demands)) (λ x.
    some_online (native_path_at links) (path_online links) (path_some links))

pub line_some : (links demands : List (List ℕ)) → TakesSome (path_line_at links demands)
line_some links demands = takes_some (path_line_at links demands) (line_online links demands) (λ p. Ended) (λ p. refl)

after_paths_online : (links demands : List (List ℕ)) (more : _) → IsOnline (after_paths links demands more)
unfolding after_paths
after_paths_online links demands true =
    online_then _ _ (online_open Section Ended) (λ o.
    online_then _ _ (each_online (path_line_at links demands) (line_online links demands) (line_some links demands)) (λ x.
    online_end Section))
after_paths_online links demands false = online_give tt

paths_online : (links demands : List (List ℕ)) → IsOnline (paths_at links demands)
paths_online links demands = online_then _ (after_paths links demands) (online_step is_paths (Err Section) (Err Section) (Ok false)) (after_paths_online links demands)

-- ---- whole files

section_online : {X : Type 0} (name : List ℕ) (r : Reading ReadKind X) → IsOnline r → IsOnline (native_section_at name r)
unfolding native_section_at
section_online name r on =
    online_then _ _ (online_word Section Ended (expected Section name)) (λ x.
    online_then _ _ (online_open Section Ended) (λ o. on))

meta_online : (meta : _) → IsOnline (after_meta meta)
unfolding after_meta
meta_online true =
    online_then _ _ (online_open Section Ended) (λ o.
    online_then _ _ skipped_online (λ s.
    online_word Section Ended (expected Section (codes "NODES"))))
meta_online false = online_give tt

after_links_online : (p : Places) (nodes links : List (List ℕ)) → IsOnline (after_links_at p nodes links)
unfolding after_links_at
after_links_online p nodes links =
    online_then _ _ (section_online (codes "DEMANDS") (native_demands_at p nodes []) (online_list Parenthesis no_fault (native_demand_at p nodes) (demand_online p nodes) (demand_some p nodes) [])) (λ demands.
    online_then _ _ (paths_online _ _) (λ x.
    online_give demands))

after_nodes_online : (p : Places) (nodes : List (List ℕ)) → IsOnline (after_nodes_at p nodes)
unfolding after_nodes_at
after_nodes_online p nodes =
    online_then _ _ (section_online (codes "LINKS") (costed_links_at p nodes []) (online_list Parenthesis no_fault (native_link_at p nodes) (link_online p nodes) (link_some p nodes) [])) (λ links.
    online_then _ _ (after_links_online p nodes _) (λ demands.
    online_give (links, demands)))

node_section_online : IsOnline node_section_at
unfolding node_section_at
node_section_online =
    online_then start_at _ (online_then _ after_meta (online_word Section Ended is_meta) meta_online) (λ s.
    online_then _ _ (online_open Section Ended) (λ o.
    online_then (list_at Parenthesis no_fault part_at []) _ (online_list Parenthesis no_fault part_at part_online part_some []) (λ xs. online_give (names_of xs))))

pub sections_online : (p : Places) → IsOnline (native_sections_at p)
unfolding native_sections_at
sections_online p =
    online_then _ _ node_section_online (λ nodes.
    online_then _ _ (after_nodes_online p nodes) (λ rest.
    online_give (parts p nodes rest.0, rest.1)))
