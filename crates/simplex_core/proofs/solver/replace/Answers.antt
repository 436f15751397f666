use Rattle.std.proofs.Common.{length, ◌∙◌, ap, sym, slice_set, inr}
use Rattle.simplex_core.proofs.Turning.{wide_other}
use Rattle.simplex_core.proofs.solver.replace.Goals as goal

pub returns-in-Err-turn_list : goal.returns-in-Err-turn_list
returns-in-Err-turn_list g c = λ column ch. (
  c.args.r,
  ch.picks,
  c.set_name.ensures ∙ ap (λ n. slice_set c.args.basis.now.names c.args.r n) (sym ch.named),
  inr (wide_other (length c.args.basis.now.rows) c.args.basis.now column c.args.name c.args.cost.now c.args.r c.in-Err-turn_list.i ch c.in-Err-turn_list.ensures.wide),
)
