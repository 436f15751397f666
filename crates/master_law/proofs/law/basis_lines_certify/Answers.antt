use Rattle.master_law.proofs.Laws.{basis_lines_certify}
use Rattle.master_law.proofs.law.basis_lines_certify.Goals as goal

pub returns : goal.returns
returns c = basis_lines_certify
