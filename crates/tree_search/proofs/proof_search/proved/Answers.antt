use Rattle.std.{proofs.Common.{◌∙◌, List, IfOk, refl, subst}, proofs.lemmas.Result.IfOk-weaker}
use Rattle.plan_terms.specs.Terms.{case_of}
use Rattle.tree_boxes.{specs.Terms.{Entry, handed_in}, proofs.Extending.handed_same}
use Rattle.tree_search.{specs.declared.growth.Growth.Growth, specs.inner.Growing.IsGrownTo, specs.inner.Making.IsProofMade, proofs.Restarts.{aim_of, attempt_room, attempt_short, cheaper_both, cheaper_none, made_proof}}
use Rattle.tree_search.proofs.proof_search.proved.Goals as goal

pub attempt-init : goal.attempt-init
attempt-init g c = record { plan = cheaper_none (case_of c.args.instance.now) c.args.plan c.requires.routed; search = c.requires.search; handed = refl; divides = refl; few = c.requires.few; room = refl }

pub grown-requires-clause-aim : goal.grown-requires-clause-aim
grown-requires-clause-aim g c =
    aim_of _ c.args.plan c.attempt.search (handed_in c.args.search) c.attempt.invariant.search c.requires.survivable c.requires.demands c.attempt.invariant.plan c.attempt.invariant.handed c.requires.own

pub grown-requires-clause-room : goal.grown-requires-clause-room
grown-requires-clause-room g c = attempt_room (case_of c.args.instance.now) c.attempt.search c.args.limit c.attempt.invariant.search c.attempt.invariant.few c.requires.limit

pub attempt-preserved : goal.attempt-preserved
attempt-preserved g c =
    let p = case_of c.args.instance.now in
    let old = c.attempt.search in
    let told = c.in_ok-cheaper.ensures in
    record {
      plan = cheaper_both p c.args.plan c.attempt.plan _ c.attempt.invariant.plan c.in_ok-plan-in-Cheaper.ensures.plan;
      search = c.in_ok-begin_anew-in-Cheaper.ensures.search;
      handed = c.in_ok-begin_anew-in-Cheaper.ensures.handed ∙ (handed_same old c.grown.new.search told.learned c.attempt.invariant.search.inside ∙ c.attempt.invariant.handed);
      divides = c.in_ok-begin_anew-in-Cheaper.ensures.divides ∙ (told.learned.divides ∙ c.attempt.invariant.divides);
      few = c.in_ok-begin_anew-in-Cheaper.ensures.few;
      room = c.in_ok-begin_anew-in-Cheaper.ensures.room ∙ (told.learned.room ∙ c.attempt.invariant.room);
    }

pub returns-in-Tree : goal.returns-in-Tree
returns-in-Tree g c =
    let p = case_of c.args.instance.now in
    let old = c.attempt.search in
    let new = c.grown.new.search in
    let told = c.in_ok-cheaper.ensures in
    let is = subst (λ (growth : Growth). IsGrownTo p c.attempt.plan (handed_in old) new.known.tested c.args.limit growth) c.in-Tree.is told.grown in
    let short = attempt_short c.args.search old new c.args.limit c.requires.room c.attempt.invariant.room c.attempt.invariant.handed c.attempt.invariant.few told.few in
    IfOk-weaker c.proof_of.result _ _
    (made_proof p c.args.plan c.attempt.plan old new c.in-Tree.tree c.args.limit (handed_in c.args.search) c.args.search.known.divides c.attempt.invariant.handed
    (told.learned.divides ∙ c.attempt.invariant.divides) c.attempt.invariant.plan c.requires.certified c.requires.limit
    c.attempt.invariant.search told.search told.learned short is)
    (subst (λ (es : List Entry). IfOk c.proof_of.result (IsProofMade c.attempt.plan es c.in-Tree.tree.twigs.items)) c.entries_of.ensures c.proof_of.ensures)
