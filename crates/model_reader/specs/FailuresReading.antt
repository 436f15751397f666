-- Reading a failure list from left to right: the tests of its words, and their order.
use Rattle.std.specs.Prelude.{ℕ, Bool, true, false, if◌then◌else◌, List, [], Result, Ok, Err, codes}
use Rattle.net_core.{specs.Terms.are_same, specs.declared.ids.LinkId.LinkId, specs.declared.network.Link.Link, specs.declared.states.Listed.Listed, specs.Limits.most_failures}
use Rattle.text_kit.specs.Terms.{file_at, named_place, new_name, Read, Reading, ◌>>=◌, give, word_at, open_at, Parenthesis, list_at, mapped, no_fault, not_empty, whole_at}
use Rattle.model_reader.{specs.declared.failures.FailuresKind.FailuresKind, specs.declared.failures.FailuresKind.TheVariants.{Header, Section, Token, Ended, LimitName, UnknownLink, DoubleState, LimitStates}, specs.declared.failures.FailureList.FailureList, specs.declared.failures.FailureList.TheVariants.{OneByOne, EverySingleLink}, specs.Failures.{failures_header, states_of}}

-- a link by its name
abbrev pub failing_link_at : List Link → Reading FailuresKind LinkId
failing_link_at links = mapped (λ i. record { 0 = i }) (word_at Token Ended (named_place (λ l. l.name) LimitName UnknownLink links))

-- further links of a state
abbrev pub links_at : List Link → List LinkId → Reading FailuresKind (List LinkId)
links_at links sofar = list_at Parenthesis (not_empty Token) (λ before. failing_link_at links) sofar

-- a state after earlier ones: its name, and its links between parentheses
unfoldable pub state_at : List Link → List Listed → Reading FailuresKind Listed
state_at links sofar = do
  name ← word_at Token Ended (new_name (λ s. s.name) most_failures LimitName DoubleState LimitStates sofar)
  _ ← open_at Token Ended
  failing ← links_at links []
  give (record { name = name; links = failing })

-- whether a word begins states one by one
abbrev pub is_list : List ℕ → Result Bool FailuresKind
is_list w =
    if are_same w (codes "FAILURES") then Ok true
    else (if are_same w (codes "ALL_SINGLE_LINKS") then Ok false else Err Section)

-- what comes after that word
unfoldable pub after_word : List Link → Bool → Reading FailuresKind FailureList
after_word links true = do
  _ ← open_at Section Ended
  listed ← list_at Parenthesis no_fault (state_at links) []
  give (OneByOne listed)
after_word links false = give EverySingleLink

-- that word and what comes after it
abbrev pub failure_list_at : List Link → Reading FailuresKind FailureList
failure_list_at links = word_at Section Ended is_list >>= after_word links

-- all after the header
abbrev pub failures_at : List Link → Reading FailuresKind FailureList
failures_at links = whole_at Section (failure_list_at links)

-- a whole file: its states, or its first fault by place
abbrev pub failures_of : List Link → List ℕ → Read FailuresKind (List Listed)
failures_of links bytes = file_at Header failures_header (mapped (states_of links) (failures_at links)) bytes
