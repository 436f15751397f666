use Rattle.std.proofs.Common.{arith, refl}
use Rattle.metric_cut.proofs.Keepings.{keeps_divided, zero_divisor, zero_lengths}
use Rattle.metric_cut.proofs.kept_lengths.keep_items.Goals as goal

pub returns-then-common-eq0-clause-zero : goal.returns-then-common-eq0-clause-zero
returns-then-common-eq0-clause-zero c = (λ f. zero_lengths _ c.divisor_of_lengths-common.result _ _ c.mask.ensures c.divisor_of_lengths-common.ensures (omega arith), λ none. refl)

pub returns-clause-zero : goal.returns-clause-zero
returns-clause-zero c = (λ f. cc, λ none. absurd (omega (arith, zero_divisor _ c.divisor_of_lengths-common.result _ _ c.mask.ensures c.divisor_of_lengths-common.ensures none)))

pub returns-clause-kept : goal.returns-clause-kept
returns-clause-kept c = λ t. keeps_divided _ c.divisor_of_lengths-common.result _ _ c.mask.ensures c.divisor_of_lengths-common.ensures _ (omega arith) c.requires c.divide.ensures
