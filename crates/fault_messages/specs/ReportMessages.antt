-- what is said of each fault of a report, and of the proof lines below it
use Rattle.std.specs.Prelude.{ℕ, List, ◌++◌, codes, decimal}
use Rattle.net_core.{specs.declared.places.Places.Places, specs.Limits.{money_power, name_bytes, need_power}}
use Rattle.snd_tokens.specs.declared.amounts.NumberFault.{NumberFault}
use Rattle.plan_report.specs.Texts.{report_header}
use Rattle.report_words.specs.declared.fault.ReportKind.{ReportKind}
use Rattle.snd_tokens.specs.declared.amounts.NumberFault.TheVariants as numbers
use Rattle.report_words.specs.declared.fault.ReportKind.TheVariants as kinds

-- of a number
abbrev pub report_number_message : NumberFault → List ℕ × List ℕ
report_number_message numbers.NotANumber =
    (codes "this is no number", codes "a whole number has no zeros before it, and a need or money is digits, or digits, a point and digits")
report_number_message numbers.TooFine = (codes "this number has a digit other than 0 past the network's last place", codes "was the report made for this network?")
report_number_message numbers.TooLarge = (
  codes "this number is too large",
  codes "a need is below 2^" ++ decimal need_power ++ codes " units, and money or any other number below 2^" ++ decimal money_power,
)

-- of a first line, for a network of these places
abbrev pub header_message : Places → List ℕ × List ℕ
header_message places = (codes "this is no report of this network", codes "the first line of its reports is: " ++ report_header places)

-- of any fault of a report: what is wrong, and what helps
abbrev pub report_message : Places → ReportKind → List ℕ × List ℕ
report_message places kinds.Header = header_message places
report_message places (kinds.Number fault) = report_number_message fault
report_message places kinds.Section = (
  codes "another section is expected here, or its parenthesis, or the end of the report",
  codes "the sections are NOTES, JOURNAL, POOL and OUTCOMES, in this order and each in parentheses",
)
report_message places kinds.Token = (codes "another word is expected here, or a parenthesis", codes "was the report changed by hand?")
report_message places kinds.Ended = (codes "the report ends too early", codes "is it cut off?")
report_message places kinds.UnknownName = (
  codes "no link, node or demand has this name, or another name is expected here",
  codes "nodes, links and failures are called as in these files, and listed in their order",
)
report_message places kinds.DoubleName = (codes "an earlier demand of the plan has this name", codes "each demand has a name of its own")
report_message places kinds.LimitName = (codes "this name is too long", codes "a name has at most " ++ decimal name_bytes ++ codes " bytes")
report_message places kinds.Limit = (
  codes "this number is out of its range, or something is one too many or too few here",
  codes "is the report of another network, or of another failure list?",
)

-- of any fault of proof lines
abbrev pub proof_message : ReportKind → List ℕ × List ℕ
proof_message (kinds.Number fault) = report_number_message fault
proof_message kinds.Header = (codes "this is no proof line", codes "a proof line is a # and words, and stands below the report")
proof_message kinds.Section = (codes "this is no proof line", codes "a proof line is a # and words, and stands below the report")
proof_message kinds.Token = (codes "another proof line is expected here, or another word in it", codes "were the lines below the report changed by hand?")
proof_message kinds.Ended = (
  codes "a proof line ends too early, or the lines end before they say what they show",
  codes "are they cut off? the last one is cheapest or above",
)
proof_message kinds.UnknownName = (
  codes "no link or demand has this name",
  codes "is the report of another network, or of another failure list?",
)
proof_message kinds.DoubleName = (codes "this name stands twice", codes "were the lines below the report changed by hand?")
proof_message kinds.LimitName = (codes "this name is too long", codes "a name has at most " ++ decimal name_bytes ++ codes " bytes")
proof_message kinds.Limit =
    (codes "this number is out of its range, or a length or a proof line is one too many or too few here", codes "were the lines below the report changed by hand?")
