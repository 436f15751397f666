use Rattle.std.proofs.Common.{◌≡◌, subst, IsTrue}
use Rattle.net_core.proofs.Library.{slice_eq-Decides}
use Rattle.module_choice.proofs.SameModules.{module_decides}
use Rattle.module_choice.proofs.alike.has_modules.Goals as goal

pub returns : goal.returns
returns c = subst (λ ms. (IsTrue c.eq.result → ms ≡ c.args.modules.now) × (ms ≡ c.args.modules.now → IsTrue c.eq.result)) c.items.ensures (slice_eq-Decides module_decides _ _ c.eq.result c.eq.ensures)
