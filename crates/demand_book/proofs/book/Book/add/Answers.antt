use Rattle.std.proofs.Common.{rules, ◌≡◌, ◌+◌, ◌^◌, ◌<◌, ◌++◌, [], ◌∷◌, length, sym, subst, ◌∙◌, ap, arith}
use Rattle.plan_terms.specs.Terms.{AreDemands, IsDemand, Demand, total_need}
use Rattle.demand_book.proofs.Changed.{added_demands, added_total}
use Rattle.demand_book.proofs.book.Book.add.Goals as goal

pub invariant_of-self-2-clause-belong : goal.invariant_of-self-2-clause-belong
invariant_of-self-2-clause-belong c =
    let before = c.args.self.now.demands in
    let new : Demand = record { name = c.args.name.now; from = c.in-Ok.ends.0; to = c.in-Ok.ends.1; need = c.args.need } in
    let pushed : c.push.new.self ≡ before ++ new ∷ [] = search rules in
    let nodes = c.in-Ok.ensures.nodes in
    let sound : IsDemand (length c.args.self.now.nodes) new = record { from_known = nodes.0; to_known = nodes.1; different = nodes.2; need = c.requires } in
    let few : total_need before + c.args.need < 2 ^ 44 = omega (arith, c.args.self.now.summed, c.if-total-ge-TOO_MUCH.false) in
    subst (AreDemands _) (sym pushed) (added_demands _ before new c.args.self.now.belong sound c.in-Ok.ensures.new.0 c.in-Ok.ensures.new.1 few)

pub invariant_of-self-2-clause-summed : goal.invariant_of-self-2-clause-summed
invariant_of-self-2-clause-summed c =
    let before = c.args.self.now.demands in
    let new : Demand = record { name = c.args.name.now; from = c.in-Ok.ends.0; to = c.in-Ok.ends.1; need = c.args.need } in
    let pushed : c.push.new.self ≡ before ++ new ∷ [] = search rules in
    ap (λ t. t + c.args.need) c.args.self.now.summed ∙ sym (ap (λ ds. total_need ds) pushed ∙ added_total before new)
