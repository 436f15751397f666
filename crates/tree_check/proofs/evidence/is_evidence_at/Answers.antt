use Rattle.std.proofs.Common.{Bool, IsTrue, ◌↔◌, refl, subst, sym}
use Rattle.plan_terms.specs.Terms.{case_of}
use Rattle.tree_check.{specs.inner.Evidences.IsProgramInForm, proofs.EvidenceHeld.{evidence_told, no_evidence}, proofs.evidence.is_evidence_at.Goals.{then-are_caps, else-are_caps}}
use Rattle.tree_check.proofs.evidence.is_evidence_at.Goals as goal

pub returns-after-are_caps : goal.returns-after-are_caps
returns-after-are_caps c =
    let p = case_of c.args.instance.now in
    let r = c.in-Route in
    let own = c.in_ok-own-in-Route.own.nums in
    let own_are = c.in_ok-own-in-Route.ensures.1 in
    elim c.if-are_caps.branch [
      | then-are_caps w ↦ evidence_told p c.args.counts.now c.requires r.state r.caps r.basis r.kind c.items.result.now own w.items-then-are_caps.result.now c.args.evidence.now r.is c.items.ensures own_are w.items-then-are_caps.ensures c.if-are_caps.result
          (w.if-are_caps.ensures.0 refl)
          (subst (λ (b : Bool). IsTrue b ↔ IsProgramInForm p r.state w.items-then-are_caps.result.now r.kind) (sym w.result-is) w.is_program.ensures)
      | else-are_caps w ↦ no_evidence p c.args.counts.now c.requires r.state r.caps r.basis r.kind c.items.result.now own r.basis c.args.evidence.now r.is c.items.ensures own_are refl c.if-are_caps.result
          c.are_caps.result c.are_caps.ensures w.if-are_caps.false w.result-is
    ]
