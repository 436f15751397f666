-- What the names in a report refer to where a value of the program holds the network and its states.
use Rattle.plan_report.specs.Terms.{KnownNames, known_of}
use Rattle.report_words.specs.declared.context.Context.{Context}

abbrev pub known_in : Context → KnownNames
known_in c = known_of c.net.now c.states.now
