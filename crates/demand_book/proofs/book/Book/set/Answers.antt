use Rattle.std.proofs.Common.{◌≡◌, ◌+◌, ◌-◌, ◌^◌, ◌<◌, true, sym, subst, ◌∙◌, ap, arith, slice_index_or}
use Rattle.plan_terms.specs.Terms.{is_demand, set_need, total_need, AreDemands}
use Rattle.demand_book.{proofs.Changed.{IsAlone, alone, set_demands, set_is, set_sum}, proofs.Replies.{set_accepted, set_too_much}}
use Rattle.demand_book.proofs.book.Book.set.Goals as goal

pub returns-then-total-ge-TOO_MUCH-clause-answer : goal.returns-then-total-ge-TOO_MUCH-clause-answer
returns-then-total-ge-TOO_MUCH-clause-answer c =
    let before = c.args.self.now.demands in
    let a : IsAlone c.args.name.now before c.in-Some.k = alone _ before _ _ c.args.self.now.belong (sym (rw c.items.ensures at c.in-Some.ensures.place)) in
    let total : total_need (set_need c.args.name.now c.args.need before) ≡ c.args.self.now.total - (slice_index_or c.items-2.result.now c.in-Some.k c.index-items-k.result).need + c.args.need = rw (c.items-2.ensures, c.args.self.now.summed) (sym (set_sum before c.args.name.now c.in-Some.k c.args.need c.index-items-k.result a)) in
    let known : is_demand c.args.name.now before ≡ true = sym (rw c.items.ensures at c.in-Some.ensures.known) in
    set_too_much c.args.self.now.nodes before c.args.self.now.version c.args.name.now c.args.need _ known total c.if-total-ge-TOO_MUCH.true

pub invariant_of-self-clause-belong : goal.invariant_of-self-clause-belong
invariant_of-self-clause-belong c =
    let before = c.args.self.now.demands in
    let a : IsAlone c.args.name.now before c.in-Some.k = alone _ before _ _ c.args.self.now.belong (sym (rw c.items.ensures at c.in-Some.ensures.place)) in
    let total : total_need (set_need c.args.name.now c.args.need before) ≡ c.args.self.now.total - (slice_index_or c.items-2.result.now c.in-Some.k c.index-items-k.result).need + c.args.need = rw (c.items-2.ensures, c.args.self.now.summed) (sym (set_sum before c.args.name.now c.in-Some.k c.args.need c.index-items-k.result a)) in
    let is = set_is before c.give_need.new.demands c.args.name.now c.in-Some.k c.args.need a c.give_need.ensures in
    let few : total_need (set_need c.args.name.now c.args.need before) < 2 ^ 44 = omega (arith, total, c.if-total-ge-TOO_MUCH.false) in
    subst (AreDemands _) (sym is) (set_demands _ before c.args.name.now c.args.need c.args.self.now.belong c.requires few)

pub invariant_of-self-clause-summed : goal.invariant_of-self-clause-summed
invariant_of-self-clause-summed c =
    let before = c.args.self.now.demands in
    let a : IsAlone c.args.name.now before c.in-Some.k = alone _ before _ _ c.args.self.now.belong (sym (rw c.items.ensures at c.in-Some.ensures.place)) in
    let total : total_need (set_need c.args.name.now c.args.need before) ≡ c.args.self.now.total - (slice_index_or c.items-2.result.now c.in-Some.k c.index-items-k.result).need + c.args.need = rw (c.items-2.ensures, c.args.self.now.summed) (sym (set_sum before c.args.name.now c.in-Some.k c.args.need c.index-items-k.result a)) in
    let is = set_is before c.give_need.new.demands c.args.name.now c.in-Some.k c.args.need a c.give_need.ensures in
    sym (ap (λ ds. total_need ds) is ∙ total)

pub returns-clause-answer : goal.returns-clause-answer
returns-clause-answer c =
    let before = c.args.self.now.demands in
    let a : IsAlone c.args.name.now before c.in-Some.k = alone _ before _ _ c.args.self.now.belong (sym (rw c.items.ensures at c.in-Some.ensures.place)) in
    let total : total_need (set_need c.args.name.now c.args.need before) ≡ c.args.self.now.total - (slice_index_or c.items-2.result.now c.in-Some.k c.index-items-k.result).need + c.args.need = rw (c.items-2.ensures, c.args.self.now.summed) (sym (set_sum before c.args.name.now c.in-Some.k c.args.need c.index-items-k.result a)) in
    let known : is_demand c.args.name.now before ≡ true = sym (rw c.items.ensures at c.in-Some.ensures.known) in
    let is = set_is before c.give_need.new.demands c.args.name.now c.in-Some.k c.args.need a c.give_need.ensures in
    let few : total_need (set_need c.args.name.now c.args.need before) < 2 ^ 44 = omega (arith, total, c.if-total-ge-TOO_MUCH.false) in
    set_accepted c.args.self.now.nodes before c.give_need.new.demands c.args.self.now.version _ c.args.name.now c.args.need known is c.saturating_add-self.ensures few
