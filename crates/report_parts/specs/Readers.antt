-- What a reader of a plan finds names in.
use Rattle.std.specs.Prelude.{List}
use Rattle.plan_terms.specs.Terms.{Demand, Link}
use Rattle.plan_report.specs.Terms.{KnownNames}
use Rattle.report_words.specs.Terms.{known_in}
use Rattle.report_parts.specs.declared.plan_reader.PlanReader.{PlanReader}

-- the names of the network and of its states
abbrev pub reader_names : PlanReader → KnownNames
reader_names r = known_in r.context.now

-- the network's links
abbrev pub reader_links : PlanReader → List Link
reader_links r = r.context.now.net.now.links

-- the demands of the plan
abbrev pub reader_demands : PlanReader → List Demand
reader_demands r = r.demands.now.list
