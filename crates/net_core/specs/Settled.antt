-- setup costs that are kept or dropped: SNDlib's fixed charge, or none
use Rattle.std.specs.Prelude.{Bool, true, false, List, map}
use Rattle.net_core.{specs.declared.network.Link.Link, specs.declared.network.Notes.Notes}

-- the link without its setup cost
abbrev pub without_setup : Link → Link
without_setup l = record { name = l.name; a = l.a; b = l.b; fixed = l.fixed; setup = 0; modules = l.modules }

abbrev pub without_setups : List Link → List Link
without_setups links = map without_setup links

-- the links with their setups where these are charged, else without
abbrev pub settled_links : Bool → List Link → List Link
settled_links true links = links
settled_links false links = without_setups links

-- a setup cost that is charged isn't noted
abbrev pub settled_notes : Bool → Notes → Notes
settled_notes true notes = record { fixed_cost = notes.fixed_cost; routing_cost = notes.routing_cost; setup_cost = false }
settled_notes false notes = notes
