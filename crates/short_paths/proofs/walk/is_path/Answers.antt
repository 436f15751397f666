use Rattle.std.proofs.Common.{arith}
use Rattle.plan_terms.specs.Terms.{graph_of}
use Rattle.short_paths.proofs.Walks.{unseen_paths}
use Rattle.short_paths.proofs.walk.is_path.Goals as goal

pub returns : goal.returns
returns c =
    let same = unseen_paths (graph_of c.args.graph.now) c.mark_alone.new.seen c.args.to.0 c.args.graph.now.net.now.checked c.args.from.0 c.args.path.now c.mark_alone.ensures.marked (λ k lt other. c.mark_alone.ensures.others k (omega (arith, lt, c.requires.size)) other) in
    (λ t. same.0 (c.leads_unseen.ensures.unseen.0 t), λ path. c.leads_unseen.ensures.unseen.1 (same.1 path))
