use Rattle.std.proofs.Common.{subst, sym}
use Rattle.plan_terms.specs.Terms.{case_of}
use Rattle.module_choice.proofs.Carrying.{network_links}
use Rattle.net_core.proofs.Networks.{few_nodes}
use Rattle.share_covers.{specs.Choices.IsChosen, proofs.Choosing.{decides, kept_cheaper}}
use Rattle.share_covers.proofs.choice.choose.Goals as goal

pub returns-in-Ok-None : goal.returns-in-Ok-None
returns-in-Ok-None c =
    let instance = c.args.instance.now in
    let net = instance.net.now in
    let dearer = rw c.in-Ok-None.field-0-is at c.in-Ok-None.ensures in
    subst (IsChosen (case_of instance) c.args.share.now c.args.fallback c.args.quality) (sym c.keep_fallback.ensures)
    (kept_cheaper (case_of instance) instance.belong (few_nodes net.nodes net.links net.checked) (network_links net.nodes net.links net.checked) c.args.fallback c.requires.fallback c.requires.narrow c.args.share.now c.args.quality dearer.0 dearer.1 dearer.2)

pub returns-in-Ok-Some : goal.returns-in-Ok-Some
returns-in-Ok-Some c =
    let instance = c.args.instance.now in
    let net = instance.net.now in
    let covers = c.in-Ok-Some.covers in
    let routed = rw c.in-Ok-Some.field-0-is at c.in-Ok-Some.ensures in
    subst (IsChosen (case_of instance) c.args.share.now c.args.fallback c.args.quality) (sym c.decided.ensures)
    (decides (case_of instance) instance.belong (few_nodes net.nodes net.links net.checked) (network_links net.nodes net.links net.checked) c.args.fallback c.requires.fallback c.requires.narrow c.args.share.now c.args.quality covers.installed routed.covers routed.at_most c.requires.quality covers.answer routed.answered)
