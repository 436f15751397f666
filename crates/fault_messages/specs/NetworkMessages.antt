-- what is said of each fault of a network file
use Rattle.std.specs.Prelude.{ℕ, ◌^◌, List, ◌++◌, codes, decimal}
use Rattle.net_core.{specs.declared.places.Places.TheVariants.{Six, Three}, specs.Limits.{most_demands, most_links, most_modules, most_nodes, name_bytes, need_power, total_power}}
use Rattle.snd_tokens.specs.declared.amounts.NumberFault.{NumberFault}
use Rattle.sndlib_reader.{specs.declared.fault.Limited.Limited, specs.declared.fault.ReadKind.ReadKind, specs.Spelling.header}
use Rattle.text_kit.specs.Terms.{money_word}
use Rattle.snd_tokens.specs.declared.amounts.NumberFault.TheVariants as numbers
use Rattle.sndlib_reader.specs.declared.fault.Limited.TheVariants as limits
use Rattle.sndlib_reader.specs.declared.fault.ReadKind.TheVariants as kinds

-- of what a network has too many or too much of
abbrev pub limit_message : Limited → List ℕ × List ℕ
limit_message limits.Name = (codes "this name is too long", codes "a name has at most " ++ decimal name_bytes ++ codes " bytes")
limit_message limits.Nodes = (codes "this node is one too many", codes "a network has at most " ++ decimal most_nodes ++ codes " nodes")
limit_message limits.Links = (codes "this link is one too many", codes "a network has at most " ++ decimal most_links ++ codes " links")
limit_message limits.Modules = (codes "this module is one too many", codes "a link has at most " ++ decimal most_modules ++ codes " modules")
limit_message limits.Demands = (codes "this demand is one too many", codes "a network has at most " ++ decimal most_demands ++ codes " demands")
limit_message limits.Total = (
  codes "with this demand all needs together are too large",
  codes "they sum to less than " ++ money_word Three (2 ^ total_power) ++ codes ", or than " ++ money_word Six (2 ^ total_power)
      ++ codes " in a file with a finer number than thousandths",
)

-- of a number
abbrev pub number_message : NumberFault → List ℕ × List ℕ
number_message numbers.NotANumber = (
  codes "this is no number",
  codes "a number is digits, or digits, a point and digits; it has no sign, no exponent and no comma, and a path length is digits alone, or UNLIMITED",
)
number_message numbers.TooFine = (
  codes "this number has too many places",
  codes "past the sixth place after the point there are only zeros, and a routing unit is a whole number",
)
number_message numbers.TooLarge = (
  codes "this number is too large",
  codes "an amount, and a demand's unit times its value, is below " ++ money_word Three (2 ^ need_power) ++ codes ", or below "
      ++ money_word Six (2 ^ need_power)
      ++ codes " in a file with a finer number than thousandths",
)

-- of any fault: what is wrong, and what helps
abbrev pub network_message : ReadKind → List ℕ × List ℕ
network_message (kinds.Limit limited) = limit_message limited
network_message (kinds.Number fault) = number_message fault
network_message kinds.Header = (codes "this is no network", codes "the first line of a network is: " ++ header)
network_message kinds.Section = (
  codes "another section is expected here, or its parenthesis, or the end of the file",
  codes "the sections are NODES, LINKS and DEMANDS, in this order and each in parentheses; META may stand before them, and ADMISSIBLE_PATHS after them",
)
network_message kinds.Token = (
  codes "another word or parenthesis is expected here",
  codes "a link is: NAME ( NODE NODE ) number number number number ( capacity cost .. ); a demand is: NAME ( NODE NODE ) unit value UNLIMITED",
)
network_message kinds.Ended = (codes "the file ends too early", codes "is it cut off, or does a parenthesis stay open?")
network_message kinds.UnknownName = (
  codes "no node, link or demand of the kind that is due here has this name",
  codes "a link or a demand ends at nodes of the list, and an admissible path is one of links for a demand; upper and lower case differ",
)
network_message kinds.DoubleName = (codes "this name stands twice", codes "each node, each link and each demand has a name of its own")
network_message kinds.SelfLink = (codes "this link joins a node to itself", codes "the ends of a link are two nodes")
network_message kinds.SelfDemand = (codes "this demand goes from a node to itself", codes "the ends of a demand are two nodes")
network_message kinds.ZeroModule = (codes "this module has no capacity", codes "the capacity of a module is above 0")
network_message kinds.FixedLink =
    (codes "this link has capacity in place and no module", codes "a link is planned only with a module; give it one, or leave the link out")
