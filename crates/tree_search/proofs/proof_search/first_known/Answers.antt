use Rattle.std.proofs.Common.{List, All, ap, arith, length, subst, sym, length-take}
use Rattle.net_core.proofs.Library.{All-take}
use Rattle.plan_terms.specs.Terms.{CutLine, IsCut, case_of}
use Rattle.tree_search.proofs.Restarts.{cuts_sound}
use Rattle.tree_search.proofs.proof_search.first_known.Goals as goal

pub new-requires-clause-few : goal.new-requires-clause-few
new-requires-clause-few c =
    omega (
      arith,
      ap (λ (cs : List CutLine). length cs) c.first_items.ensures,
      length-take c.args.most c.in_ok-cuts.field-0.cuts,
      c.requires.few,
      c.requires.most,
    )

pub new-requires-clause-sound : goal.new-requires-clause-sound
new-requires-clause-sound c =
    let p = case_of c.args.instance.now in
    subst (All (IsCut p)) (sym c.first_items.ensures)
    (All-take (IsCut p) c.args.most c.in_ok-cuts.field-0.cuts (subst (All (IsCut p)) (sym c.in_ok-cuts.ensures.cuts) (cuts_sound p c.args.entries c.requires.sound)))
