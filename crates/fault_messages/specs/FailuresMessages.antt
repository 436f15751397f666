-- what is said of each fault of a failure list
use Rattle.std.specs.Prelude.{ℕ, List, ◌++◌, codes, decimal}
use Rattle.model_reader.{specs.declared.failures.FailuresKind.FailuresKind, specs.Failures.failures_header}
use Rattle.net_core.specs.Limits.{most_failures, name_bytes}
use Rattle.model_reader.specs.declared.failures.FailuresKind.TheVariants as kinds

-- of each fault: what is wrong, and what helps
abbrev pub failures_message : FailuresKind → List ℕ × List ℕ
failures_message kinds.Header = (codes "this is no failure list", codes "the first line of a failure list is: " ++ failures_header)
failures_message kinds.Section = (
  codes "FAILURES and its parenthesis, or ALL_SINGLE_LINKS, is expected here, or the end of the file after them",
  codes "a failure list is: FAILURES ( NAME ( LINK .. ) .. ), or ALL_SINGLE_LINKS",
)
failures_message kinds.Token = (codes "a failure is a name, and in parentheses at least one link", codes "as in: duct ( AB BC )")
failures_message kinds.Ended = (codes "the file ends too early", codes "is it cut off, or does a parenthesis stay open?")
failures_message kinds.LimitName = (codes "this name is too long", codes "a name has at most " ++ decimal name_bytes ++ codes " bytes")
failures_message kinds.UnknownLink = (codes "no link of the network has this name", codes "upper and lower case differ; is the list of another network?")
failures_message kinds.DoubleState = (codes "an earlier failure has this name", codes "each failure has a name of its own")
failures_message kinds.LimitStates = (codes "this failure is one too many", codes "a list has at most " ++ decimal most_failures ++ codes " failures")
