use Rattle.std.proofs.Common.{false, subst, sym}
use Rattle.net_core.proofs.Networks.{few_links}
use Rattle.module_choice.proofs.Carrying.{network_links}
use Rattle.line_check.specs.Testing.{names_by}
use Rattle.tree_check.{specs.BoxValues.HasBoxValue, specs.declared.proof.BoxCert.BoxCert}
use Rattle.tree_boxes.{proofs.FreeValues.{free_has_value, free_value}, proofs.Knowing.value_told}
use Rattle.tree_boxes.proofs.certs.empty_valued.Goals as goal

pub unreachable-requires : goal.unreachable-requires
unreachable-requires c =
    let a = c.args.aim.now in
    let net = a.instance.now.net.now in
    let names = names_by c.args.known.now.tested false in
    let free = free_value net.links (few_links net.nodes net.links net.checked)
    (λ k d lt. let sound = network_links net.nodes net.links net.checked k d lt in (sound.few, sound.setup, sound.each)) c.args.boxed.now c.requires.search_box.low in
    let has = subst (λ (cert : BoxCert). HasBoxValue names net.links c.args.boxed.now cert free.0) (sym c.empty_cert-cert.ensures) (free_has_value names net.links c.args.boxed.now free.0 free.1) in
    c.in-None.ensures free.0
    (value_told a c.args.known.now.tested c.tests-tests.result c.tests-tests.ensures.instance c.tests-tests.ensures.tested c.args.boxed.now c.empty_cert-cert.result free.0 has)
