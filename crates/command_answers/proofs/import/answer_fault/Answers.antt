use Rattle.std.proofs.Common.{inl, inr, refl}
use Rattle.command_answers.proofs.import.answer_fault.Goals as goal

pub returns : goal.returns
returns c file first = inr (inl (refl, record { fault = c.args.fault; first = first; printed = c.in_ok-fault_line.ensures }))
