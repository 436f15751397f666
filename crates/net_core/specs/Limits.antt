-- The limits of networks, demands, reports and searches, each by its name. The constants of the code stand beside them, in limits.rt.
use Rattle.std.specs.Prelude.{ℕ}

-- how many bytes a name has at most
abbrev pub name_bytes : ℕ
name_bytes = 255

-- how many nodes, links and demands a network has at most, and how many modules a link
abbrev pub most_nodes : ℕ
most_nodes = 128

abbrev pub most_links : ℕ
most_links = 256

abbrev pub most_demands : ℕ
most_demands = 2048

abbrev pub most_modules : ℕ
most_modules = 16

-- how many failures a list has at most
abbrev pub most_failures : ℕ
most_failures = 256

-- how many entries a journal has at most, and how many cuts a pool
abbrev pub most_entries : ℕ
most_entries = 65536

abbrev pub most_cuts : ℕ
most_cuts = 4096

-- how many flows a routing has at most, and a file of flows
abbrev pub most_flows : ℕ
most_flows = 65536

-- the most splits that a branch tree may be given
abbrev pub most_splits : ℕ
most_splits = 9999

-- the powers of two that a need or another amount, all needs together, and money or another number stay below
abbrev pub need_power : ℕ
need_power = 40

abbrev pub total_power : ℕ
total_power = 44

abbrev pub money_power : ℕ
money_power = 126
