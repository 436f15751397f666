use Rattle.plan_report.specs.Terms.{known_of}
use Rattle.tree_reader.proofs.Answered.{answer_first, answer_found, answer_only}
use Rattle.tree_reader.proofs.reader.read_tree.Goals as goal

pub returns-clause-found : goal.returns-clause-found
returns-clause-found c =
    answer_found (known_of c.args.net.now c.args.states.now) c.args.demands.now c.args.net.now.checked c.requires.demands.different c.args.from c.args.bytes.now c.named_tree.result
    (rw (c.in_ok-context.ensures.net, c.in_ok-context.ensures.states, c.in_ok-known.ensures, c.items-list.ensures) at c.named_tree.ensures)

pub returns-clause-only : goal.returns-clause-only
returns-clause-only c =
    answer_only (known_of c.args.net.now c.args.states.now) c.args.demands.now c.args.net.now.checked c.requires.demands.different c.args.from c.args.bytes.now c.named_tree.result
    (rw (c.in_ok-context.ensures.net, c.in_ok-context.ensures.states, c.in_ok-known.ensures, c.items-list.ensures) at c.named_tree.ensures)

pub returns-clause-not_early : goal.returns-clause-not_early
returns-clause-not_early c =
    answer_first (known_of c.args.net.now c.args.states.now) c.args.demands.now c.args.net.now.checked c.requires.demands.different c.args.from c.args.bytes.now c.named_tree.result
    (rw (c.in_ok-context.ensures.net, c.in_ok-context.ensures.states, c.in_ok-known.ensures, c.items-list.ensures) at c.named_tree.ensures)
    c.requires.from
