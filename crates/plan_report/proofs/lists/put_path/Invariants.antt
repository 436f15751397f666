use Rattle.std.proofs.Common.{◌∷◌, [], take, flat_map}
use Rattle.text_kit.specs.Terms.{Verbatim, Opening, AddsItems}
use Rattle.plan_terms.specs.Terms.{link_name}
use Rattle.plan_report.proofs.lists.put_path.Given as goal

abbrev pub invariant-loop-e : goal.invariant-loop-e
invariant-loop-e l = AddsItems l.fn.text (Opening ∷ flat_map (λ e. Verbatim (link_name l.links e) ∷ []) (take l.e-index l.path)) l.text
