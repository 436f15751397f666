-- what the names refer to that a value of the program holds
use Rattle.plan_report.{specs.declared.names.Names.Names, specs.KnownNames.{KnownNames, known_as}}

abbrev pub known_in : Names → KnownNames
known_in names = known_as names.places names.nodes.now names.links.now names.listed.now
