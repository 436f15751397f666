use Rattle.std.proofs.Common.{◌≡◌, true, sym, subst, ◌∙◌, arith}
use Rattle.plan_terms.specs.Terms.{is_demand, AreDemands}
use Rattle.demand_book.{proofs.Changed.{IsAlone, alone, remove_demands, remove_is, remove_total}, proofs.Replies.drop_accepted}
use Rattle.demand_book.proofs.book.Book.drop_demand.Goals as goal

pub overflow_sub-self : goal.overflow_sub-self
overflow_sub-self c =
    let before = c.args.self.now.demands in
    let a : IsAlone c.args.name.now before c.in-Some.k = alone _ before _ _ c.args.self.now.belong (sym (rw c.items.ensures at c.in-Some.ensures.place)) in
    let sum = remove_total before c.in-Some.k c.remove-taken.result c.remove-taken.ensures.item a.within in
    omega (arith, sum, c.args.self.now.summed)

pub invariant_of-self-clause-belong : goal.invariant_of-self-clause-belong
invariant_of-self-clause-belong c =
    let before = c.args.self.now.demands in
    let a : IsAlone c.args.name.now before c.in-Some.k = alone _ before _ _ c.args.self.now.belong (sym (rw c.items.ensures at c.in-Some.ensures.place)) in
    subst (AreDemands _) (sym c.remove-taken.ensures.items) (remove_demands _ before c.args.name.now c.in-Some.k c.args.self.now.belong a)

pub invariant_of-self-clause-summed : goal.invariant_of-self-clause-summed
invariant_of-self-clause-summed c =
    let before = c.args.self.now.demands in
    let a : IsAlone c.args.name.now before c.in-Some.k = alone _ before _ _ c.args.self.now.belong (sym (rw c.items.ensures at c.in-Some.ensures.place)) in
    let sum = remove_total before c.in-Some.k c.remove-taken.result c.remove-taken.ensures.item a.within in
    rw c.remove-taken.ensures.items (omega (arith, sum, c.args.self.now.summed))

pub returns-clause-answer : goal.returns-clause-answer
returns-clause-answer c =
    let before = c.args.self.now.demands in
    let a : IsAlone c.args.name.now before c.in-Some.k = alone _ before _ _ c.args.self.now.belong (sym (rw c.items.ensures at c.in-Some.ensures.place)) in
    let known : is_demand c.args.name.now before ≡ true = sym (rw c.items.ensures at c.in-Some.ensures.known) in
    drop_accepted c.args.self.now.nodes before _ c.args.self.now.version _ c.args.name.now known (c.remove-taken.ensures.items ∙ remove_is c.args.name.now before c.in-Some.k a) c.saturating_add-self.ensures
