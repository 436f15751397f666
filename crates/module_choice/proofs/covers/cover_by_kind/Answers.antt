use Rattle.std.proofs.Common.{subst, sym}
use Rattle.module_choice.{specs.inner.Cheapest.AreCheapest, proofs.Choices.{answers_also, best_cheapest}}
use Rattle.module_choice.proofs.covers.cover_by_kind.Goals as goal

pub returns : goal.returns
returns c =
    let ms = c.args.modules.now in
    let kind = c.best_kind.result in
    answers_also c.one_kind.result
    (λ cs is. subst (AreCheapest ms c.args.need) (sym is) (best_cheapest ms c.args.need kind c.requires.many c.requires.needed c.requires.limit c.requires.each c.best_kind.ensures.best))
    c.one_kind.ensures
