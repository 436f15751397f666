use Rattle.std.proofs.Common.{refl}
use Rattle.plan_terms.specs.Terms.{graph_in, case_of}
use Rattle.plan_rounds.proofs.Undividing.{need_wide}
use Rattle.plan_rounds.proofs.fractional.need_evidence.Goals as goal

pub returns : goal.returns
returns c = (
  refl,
  refl,
  need_wide (graph_in (case_of c.args.instance.now) 0) c.args.instance.now.demands.now c.args.caps c.args.demand c.in_ok-slack_names.field-0 c.requires
      (rw (c.len-links.ensures, c.links.ensures, c.len.ensures) at c.in_ok-slack_names.ensures),
)
