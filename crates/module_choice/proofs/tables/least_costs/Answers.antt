use Rattle.std.proofs.Common.{◌≡◌, ◌∷◌, ◌++◌, [], ◌∙◌, ap, arith, length, length-append, subst, sym}
use Rattle.module_choice.{specs.inner.Tables.{AreLeastCosts, IsNextEntry}, proofs.LeastCosts.{nothing, table_more, table_start}}
use Rattle.module_choice.proofs.tables.least_costs.Goals as goal

pub loop-init : goal.loop-init
loop-init c =
    let all : c.push.new.self ≡ nothing ∷ [] = c.in_ok-push.ensures.ok ∙ ap (λ xs. xs ++ nothing ∷ []) (c.from_vec-entries.ensures ∙ c.in_ok-with_capacity.ensures.items) in
    record { least = subst (AreLeastCosts c.args.modules.now) (sym all) (table_start c.args.modules.now); count = ap length all }

pub loop-preserved : goal.loop-preserved
loop-preserved c =
    let next = c.next_entry-next.result in
    let all : c.push-in-loop.new.self ≡ c.loop.entries ++ next ∷ [] = c.in_ok-push-2.ensures.ok in
    record {
      least = subst (AreLeastCosts c.args.modules.now) (sym all) (table_more c.args.modules.now c.loop.entries next c.requires.sound c.loop.invariant.least (subst (λ es. IsNextEntry c.args.modules.now es next) c.items.ensures c.next_entry-next.ensures));
      count = omega (arith, ap length all, length-append c.loop.entries (next ∷ []), c.loop.invariant.count);
    }
