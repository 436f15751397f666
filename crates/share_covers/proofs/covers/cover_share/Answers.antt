use Rattle.std.proofs.Common.{refl}
use Rattle.module_choice.proofs.Falling.{fixed_small}
use Rattle.share_covers.proofs.Covered.{link_sound, needs_small, none_needed, share_covers}
use Rattle.share_covers.proofs.covers.cover_share.Goals as goal

pub cover_needs-requires-clause-small : goal.cover_needs-requires-clause-small
cover_needs-requires-clause-small c = needs_small c.args.net.now.links c.args.share.now c.in_ok-needs.needs c.in_ok-needs.ensures

pub cover_needs-requires-clause-served : goal.cover_needs-requires-clause-served
cover_needs-requires-clause-served c = none_needed c.args.net.now.links c.args.share.now c.in_ok-needs.needs c.in_ok-needs.ensures

pub cost-cost-requires : goal.cost-cost-requires
cost-cost-requires c =
    let net = c.args.net.now in
    (share_covers net.links c.args.share.now c.in_ok-needs.needs c.in_ok-needs.ensures (link_sound net.nodes net.links net.checked) (fixed_small net.nodes net.links net.checked) c.in_ok-counts.counts c.in_ok-counts.ensures _ refl).shape

pub returns : goal.returns
returns c =
    let net = c.args.net.now in
    share_covers net.links c.args.share.now c.in_ok-needs.needs c.in_ok-needs.ensures (link_sound net.nodes net.links net.checked) (fixed_small net.nodes net.links net.checked) c.in_ok-counts.counts c.in_ok-counts.ensures c.cost-cost.result c.cost-cost.ensures
