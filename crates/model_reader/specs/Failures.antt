-- the grammar of a failure list: named states, each with the links that fail; or the word for every single-link failure
use Rattle.std.specs.Prelude.{ℕ, ◌+◌, ◌≤◌, List, [], ◌∷◌, ◌++◌, length, All, flat_map, codes}
use Rattle.net_core.{specs.declared.network.Link.Link, specs.declared.states.Listed.Listed, specs.Terms.{AreStates, link_name, single_state}, specs.Limits.name_bytes}
use Rattle.text_kit.specs.Terms.{SpellsAs, Item, Verbatim, Opening, Closing}
use Rattle.model_reader.{specs.declared.failures.FailureList.FailureList, specs.declared.failures.FailureList.TheVariants.{OneByOne, EverySingleLink}}

-- the first line of a failure list
abbrev pub failures_header : List ℕ
failures_header = codes "?planner failures; version: 1"

-- each link as a state of its name, where the first has a place
abbrev pub singles_from : ℕ → List Link → List Listed
singles_from at [] = []
singles_from at (l ∷ ls) = single_state at l.name ∷ singles_from (at + 1) ls

-- every single-link failure, as a state with the name of the link, in the order of the links
abbrev pub single_states : List Link → List Listed
single_states links = singles_from 0 links

-- the states of what a file says
abbrev pub states_of : List Link → FailureList → List Listed
states_of links (OneByOne listed) = listed
states_of links EverySingleLink = single_states links

-- a state's name, and its links between parentheses
abbrev pub state_items : List Link → Listed → List Item
state_items links s = Verbatim s.name ∷ Opening ∷ (flat_map (λ e. Verbatim (link_name links e) ∷ []) s.links ++ Closing ∷ [])

-- all states between parentheses, or one word
abbrev pub list_items : List Link → FailureList → List Item
list_items links (OneByOne listed) = Verbatim (codes "FAILURES") ∷ Opening ∷ (flat_map (state_items links) listed ++ Closing ∷ [])
list_items links EverySingleLink = Verbatim (codes "ALL_SINGLE_LINKS") ∷ []

-- a state's name and those of its links have at most 255 bytes
abbrev pub IsShort : List Link → Listed → Type 0
IsShort links s = (length s.name ≤ name_bytes) × All (λ e. length (link_name links e) ≤ name_bytes) s.links

-- states of the network, whose names aren't too long
abbrev pub IsListInForm : List Link → FailureList → Type 0
IsListInForm links (OneByOne listed) = AreStates (length links) listed × All (IsShort links) listed
IsListInForm links EverySingleLink = Unit {0}

-- the bytes of a file spell these states of the links of a network
abbrev pub SpellsFailures : List Link → List ℕ → List Listed → Type 0
SpellsFailures links bytes listed = SpellsAs failures_header (list_items links) (IsListInForm links) (states_of links) bytes listed
