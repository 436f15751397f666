-- failure states: state 0 fails nothing, and state i + 1 fails the links of the listed state i
use Rattle.std.{specs.Prelude.{◌≢◌, ℕ, zero, suc, ◌≤◌, ◌<◌, ◌==◌, ◌++◌, List, [], ◌∷◌, Bool, false, not, nat_lt, length, All, AllPairs, Option, slice_get}, specs.List.list_any, specs.Option.option_map_or}
use Rattle.net_core.{specs.declared.ids.LinkId.LinkId, specs.declared.states.Listed.Listed, specs.declared.states.StatesFault.StatesFault, specs.declared.states.StatesFault.TheVariants.{TooMany, Empty, UnknownLink, DoubleState}, specs.Tests.{first_fault, is_named}, specs.Limits.most_failures}

-- the link is in the list
abbrev pub names_link : ℕ → List LinkId → Bool
names_link e links = list_any (λ x. x.0 == e) links

-- the state that fails link e alone, under this name
abbrev pub single_state : ℕ → List ℕ → Listed
single_state e name = record { name = name; links = record { 0 = e } ∷ [] }

-- the state fails the link
abbrev pub fails : List Listed → ℕ → ℕ → Bool
fails listed zero e = false
fails listed (suc i) e = option_map_or (λ l. names_link e l.links) (slice_get listed i) false

-- at most 256 listed states, none without links, no name twice
pub record IsStateList (listed : List Listed) : Type 0 where
  pub few : length listed ≤ most_failures
  pub some : All (λ l. 1 ≤ length l.links) listed
  pub different : AllPairs (λ x y. x.name ≢ y.name) listed

-- the states of a network of n links: each state names links that are there
pub record AreStates (n : ℕ) (listed : List Listed) : Type 0 where
  pub checked : IsStateList listed
  pub known : All (λ l. All (λ e. e.0 < n) l.links) listed

-- the tests of a listed state after earlier ones, in a network of n links
abbrev pub listed_tests : ℕ → List Listed → Listed → List (Bool × StatesFault)
listed_tests n earlier l =
    (length l.links == 0, Empty (length earlier))
    ∷ (list_any (λ e. not (nat_lt e.0 n)) l.links, UnknownLink (length earlier))
    ∷ (is_named (λ x. x.name) l.name earlier, DoubleState (length earlier))
    ∷ []

-- the tests of each listed state after earlier ones
abbrev pub all_listed_tests : ℕ → List Listed → List Listed → List (Bool × StatesFault)
all_listed_tests n earlier [] = []
all_listed_tests n earlier (l ∷ ls) = listed_tests n earlier l ++ all_listed_tests n (earlier ++ l ∷ []) ls

-- the first fault: of the count, then state by state
abbrev pub states_fault : ℕ → List Listed → Option StatesFault
states_fault n listed = first_fault ((nat_lt most_failures (length listed), TooMany) ∷ all_listed_tests n [] listed)
