-- What a word of a report says: numbers in their ranges, amounts, and names of what is known.
use Rattle.std.specs.Prelude.{ℕ, ◌+◌, Bool, nat_le, nat_lt, ◌&&◌, if◌then◌else◌, List, length, position, Result, Ok, Err}
use Rattle.net_core.{specs.Terms.{are_same, is_named}, specs.declared.demand.Demand.Demand, specs.declared.ids.LinkId.LinkId, specs.declared.ids.NodeId.NodeId, specs.declared.network.Link.Link, specs.declared.places.Places.Places, specs.Limits.name_bytes}
use Rattle.snd_tokens.{specs.declared.whole_number.WholeFault.WholeFault, specs.declared.whole_number.WholeFault.TheVariants.{NotANumber, TooLarge}, specs.Terms.{amount_of, money_of, whole_of}}
use Rattle.text_kit.specs.Terms.{any_name, found_or, number_or, Reading, open_at, close_at, expected, step_at, word_at}
use Rattle.report_words.{specs.declared.fault.ReportKind.ReportKind, specs.declared.fault.ReportKind.TheVariants.{Token, Ended, Number, UnknownName, DoubleName, LimitName, Limit}}
use Rattle.snd_tokens.specs.declared.amounts.NumberFault.TheVariants as faults

-- ---- what may be too many or too much

-- a value that passed its test, where there is room for it
abbrev pub where_room : {X : Type 0} → Bool → Result X ReportKind → Result X ReportKind
where_room room (Ok x) = if room then Ok x else Err Limit
where_room room (Err kind) = Err kind

-- fewer than n come before a further one
abbrev pub has_room : {X : Type 0} → ℕ → List X → Bool
has_room n sofar = nat_lt (length sofar) n

-- ---- numbers

-- a whole number from `least`, below `limit`, or its fault
abbrev pub within : ℕ → ℕ → Result ℕ WholeFault → Result ℕ ReportKind
within least limit (Ok n) = where_room (nat_le least n && nat_lt n limit) (Ok n)
within least limit (Err NotANumber) = Err (Number faults.NotANumber)
within least limit (Err TooLarge) = Err (Number faults.TooLarge)

abbrev pub whole_within : ℕ → ℕ → List ℕ → Result ℕ ReportKind
whole_within least limit w = within least limit (whole_of w)

-- a value that isn't kept
abbrev pub passed : {X : Type 0} → Result X ReportKind → Result (Unit {0}) ReportKind
passed (Ok x) = Ok tt
passed (Err kind) = Err kind

-- this very number
abbrev pub this_number : ℕ → List ℕ → Result (Unit {0}) ReportKind
this_number n w = passed (whole_within n (n + 1) w)

-- money below a limit, in units of the network
abbrev pub below : ℕ → Result ℕ ReportKind → Result ℕ ReportKind
below limit (Ok n) = where_room (nat_lt n limit) (Ok n)
below limit (Err kind) = Err kind

abbrev pub money_below : Places → ℕ → List ℕ → Result ℕ ReportKind
money_below p limit w = below limit (number_or Number (money_of p w))

-- ---- names

-- the fault of a word as a name that nothing has
abbrev pub unknown_name : List ℕ → ReportKind
unknown_name w = if nat_lt name_bytes (length w) then LimitName else UnknownName

-- the place of the first of these that has the name
abbrev pub place_named : {X : Type 0} → (X → List ℕ) → List X → List ℕ → Result ℕ ReportKind
place_named name_of xs w = found_or (unknown_name w) (position (λ x. are_same (name_of x) w) xs)

-- this very name
abbrev pub this_name : List ℕ → List ℕ → Result (Unit {0}) ReportKind
this_name name w = expected (unknown_name w) name w

-- the link, or the node, of a place
abbrev pub as_link : Result ℕ ReportKind → Result LinkId ReportKind
as_link (Ok e) = Ok (record { 0 = e })
as_link (Err kind) = Err kind

abbrev pub as_node : Result ℕ ReportKind → Result NodeId ReportKind
as_node (Ok n) = Ok (record { 0 = n })
as_node (Err kind) = Err kind

abbrev pub link_of : List Link → List ℕ → Result LinkId ReportKind
link_of links w = as_link (place_named (λ l. l.name) links w)

abbrev pub node_of_word : List (List ℕ) → List ℕ → Result NodeId ReportKind
node_of_word nodes w = as_node (place_named (λ n. n) nodes w)

abbrev pub demand_of : List Demand → List ℕ → Result ℕ ReportKind
demand_of demands w = place_named (λ d. d.name) demands w

-- a name that no earlier demand of the plan has
abbrev pub new_demand : List Demand → List ℕ → Result (List ℕ) ReportKind
new_demand sofar w =
    if nat_lt name_bytes (length w) then Err LimitName else (if is_named (λ d. d.name) w sofar then Err DoubleName else Ok w)

-- ---- one word or parenthesis

abbrev pub number_at : ℕ → ℕ → Reading ReportKind ℕ
number_at least limit = word_at Token Ended (whole_within least limit)

abbrev pub this_number_at : ℕ → Reading ReportKind (Unit {0})
this_number_at n = word_at Token Ended (this_number n)

abbrev pub money_at : Places → ℕ → Reading ReportKind ℕ
money_at p limit = word_at Token Ended (money_below p limit)

abbrev pub amount_at : Places → Reading ReportKind ℕ
amount_at p = word_at Token Ended (λ w. number_or Number (amount_of p w))

-- a number below a limit, where there is room for one
abbrev pub room_number_at : Bool → ℕ → Reading ReportKind ℕ
room_number_at room limit = word_at Token Ended (λ w. where_room room (whole_within 0 limit w))

abbrev pub name_at : Reading ReportKind (List ℕ)
name_at = word_at Token Ended (any_name LimitName)

abbrev pub this_name_at : List ℕ → Reading ReportKind (Unit {0})
this_name_at name = word_at Token Ended (this_name name)

abbrev pub link_at : List Link → Reading ReportKind LinkId
link_at links = word_at Token Ended (link_of links)

abbrev pub node_at : List (List ℕ) → Reading ReportKind NodeId
node_at nodes = word_at Token Ended (node_of_word nodes)

abbrev pub demand_at : List Demand → Reading ReportKind ℕ
demand_at demands = word_at Token Ended (demand_of demands)

-- the name of a demand, where there is room for what it begins
abbrev pub demand_within : Bool → List Demand → Reading ReportKind ℕ
demand_within room demands = word_at Token Ended (λ w. where_room room (demand_of demands w))

abbrev pub keyword_at : List ℕ → Reading ReportKind (Unit {0})
keyword_at w = word_at Token Ended (expected Token w)

abbrev pub opening_at : Reading ReportKind (Unit {0})
opening_at = open_at Token Ended

abbrev pub closing_at : Reading ReportKind (Unit {0})
closing_at = close_at Token Ended

-- an opening parenthesis, where there is room for what it begins
abbrev pub opening_within : Bool → Reading ReportKind (Unit {0})
opening_within room = step_at (λ w. Err Token) (where_room room (Ok tt)) (Err Token) (Err Ended)

-- a word of a section, where there is room for what it begins
abbrev pub keyword_within : Bool → List ℕ → Reading ReportKind (Unit {0})
keyword_within room w = word_at Token Ended (λ v. where_room room (expected Token w v))
