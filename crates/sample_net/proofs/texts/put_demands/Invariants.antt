use Rattle.std.proofs.Common.{◌∷◌, take, flat_map, codes}
use Rattle.text_kit.specs.Terms.{Opening, Verbatim, AddsItems}
use Rattle.sample_net.specs.Texts.{unit_demand_items}
use Rattle.sample_net.proofs.texts.put_demands.Given as goal

abbrev pub invariant-loop-demand : goal.invariant-loop-demand
invariant-loop-demand l = AddsItems l.fn.text (Verbatim (codes "DEMANDS") ∷ Opening ∷ flat_map (unit_demand_items l.nodes) (take l.demand-index l.demands)) l.text
