use Rattle.std.proofs.Common.{◌∷◌, [], arith}
use Rattle.text_kit.{specs.Terms.{Verbatim, Opening}, proofs.Lemmas.{adds_list, adds_more}}
use Rattle.plan_terms.specs.Terms.{link_name}
use Rattle.plan_report.proofs.lists.put_path.Goals as goal

pub loop-e-preserved : goal.loop-e-preserved
loop-e-preserved c = adds_more (Opening ∷ []) (λ e. Verbatim (link_name c.args.links.now e) ∷ []) c.args.path.now c.loop-e.e-index (record { 0 = 0 }) c.loop-e-test.true c.loop-e.invariant c.in_ok-put_link.ensures

pub returns : goal.returns
returns c = adds_list (λ e. Verbatim (link_name c.args.links.now e) ∷ []) c.args.path.now c.loop-e.e-index _ _ (omega (arith, c.loop-e-test.false)) c.loop-e.invariant c.put_close.ensures
