use Rattle.std.proofs.Common.{◌∷◌, take, flat_map, codes}
use Rattle.text_kit.specs.Terms.{Opening, Verbatim, AddsItems}
use Rattle.sample_net.specs.Texts.{costless_items}
use Rattle.sample_net.proofs.texts.put_links.Given as goal

abbrev pub invariant-loop-link : goal.invariant-loop-link
invariant-loop-link l = AddsItems l.fn.text (Verbatim (codes "LINKS") ∷ Opening ∷ flat_map (costless_items l.nodes) (take l.link-index l.links)) l.text
