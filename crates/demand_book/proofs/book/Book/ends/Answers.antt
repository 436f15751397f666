use Rattle.std.proofs.Common.{rules, ◌≡◌, ◌<◌, true, false, length, sym, ap, refl, position, unwrap_or, Some}
use Rattle.net_core.proofs.Library.{lt-leb}
use Rattle.plan_terms.specs.Terms.{are_same, is_named, is_demand}
use Rattle.demand_book.proofs.Replies.{ends_differ, place_below}
use Rattle.demand_book.proofs.book.Book.ends.Goals as goal

pub returns-clause-ok : goal.returns-clause-ok
returns-clause-ok c =
    let nodes = c.args.self.now.nodes in
    let unknown : is_demand c.args.name.now c.args.self.now.demands ≡ false = search rules in
    let first : is_named (λ n. n) c.args.from.now nodes ≡ true = search rules in
    let second : is_named (λ n. n) c.args.to.now nodes ≡ true = search rules in
    let other : are_same c.args.from.now c.args.to.now ≡ false = search rules in
    let few : length c.args.self.now.demands < 2048 = search rules in
    let from : Some c.in-Some.first ≡ position (λ n. are_same n c.args.from.now) nodes = search rules in
    let to : Some c.in-Some-node_place.second ≡ position (λ n. are_same n c.args.to.now) nodes = rw c.items-3.ensures at c.in-Some-node_place.ensures.place in (
      rw (unknown, first, second, other, lt-leb 2048 (length c.args.self.now.demands) few) refl,
      ap (λ o. unwrap_or o (length nodes)) from,
      ap (λ o. unwrap_or o (length nodes)) to,
    )

pub returns-clause-nodes : goal.returns-clause-nodes
returns-clause-nodes c =
    let nodes = c.args.self.now.nodes in
    let other : are_same c.args.from.now c.args.to.now ≡ false = search rules in
    let from : Some c.in-Some.first ≡ position (λ n. are_same n c.args.from.now) nodes = rw c.items-2.ensures at c.in-Some.ensures.place in
    let to : Some c.in-Some-node_place.second ≡ position (λ n. are_same n c.args.to.now) nodes = rw c.items-3.ensures at c.in-Some-node_place.ensures.place in
    (place_below nodes c.args.from.now _ (sym from), place_below nodes c.args.to.now _ (sym to), ends_differ nodes c.args.from.now c.args.to.now _ _ (sym from) (sym to) other)
