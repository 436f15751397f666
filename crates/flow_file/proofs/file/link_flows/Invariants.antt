use Rattle.std.proofs.Common.{◌≡◌, []}
use Rattle.snd_tokens.specs.Terms.{left, size}
use Rattle.text_kit.specs.Terms.{Parenthesis, list_at, no_fault}
use Rattle.report_words.specs.Terms.{known_in}
use Rattle.flow_file.specs.FlowReading.{link_flow_at}
use Rattle.flow_file.proofs.file.link_flows.Given as goal

abbrev pub invariant-loop-all : goal.invariant-loop-all
invariant-loop-all l =
    list_at Parenthesis no_fault (link_flow_at (known_in l.context) l.demands.list.now) l.all (left l.text)
    ≡ list_at Parenthesis no_fault (link_flow_at (known_in l.context) l.demands.list.now) [] (left l.fn.text)

abbrev pub decreases-loop-all : goal.decreases-loop-all
decreases-loop-all l = size (left l.text)
