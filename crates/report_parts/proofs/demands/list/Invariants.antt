use Rattle.std.proofs.Common.{◌≡◌, ◌<◌, ◌^◌, [], length, map}
use Rattle.snd_tokens.specs.Terms.{left, size}
use Rattle.text_kit.specs.Terms.{Parenthesis, list_at, no_fault}
use Rattle.report_parts.specs.ReadingParts.{plan_demand_at}
use Rattle.report_parts.proofs.demands.list.Given as goal

abbrev pub invariant-loop-list : goal.invariant-loop-list
invariant-loop-list l =
    (list_at Parenthesis no_fault (plan_demand_at l.context.net.now.places l.context.net.now.nodes) l.list (left l.text) ≡ list_at Parenthesis no_fault (plan_demand_at l.context.net.now.places l.context.net.now.nodes) [] (left l.fn.text))
    × (l.places ≡ map (λ d. d.name) l.list) × (length l.list < 2 ^ 32)

abbrev pub decreases-loop-list : goal.decreases-loop-list
decreases-loop-list l = size (left l.text)
