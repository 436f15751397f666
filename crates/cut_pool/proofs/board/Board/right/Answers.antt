use Rattle.std.proofs.Common.{◌<◌, ◌^◌, List, get_or, length, subst, sym, arith}
use Rattle.plan_terms.specs.Terms.{graph_in, Joins, IsRight}
use Rattle.cut_pool.{specs.declared.pooled_cut.PooledCut.PooledCut, specs.Boards.opening_case, specs.Histories.demands_left, proofs.Told.{count_told, right_told}}
use Rattle.cut_pool.proofs.board.Board.right.Goals as goal

pub returns-clause-right : goal.returns-clause-right
returns-clause-right c = λ cut at.
    let self = c.args.self.now in
    let p = opening_case self in
    let lt : c.args.index < length self.pool = omega (arith, c.requires, count_told p self.entries self.book.demands self.book.version self.pool self.stands) in
    subst (λ (pool : List PooledCut). ∥ IsRight (Joins (graph_in p cut.0)) cut.1 (demands_left p self.entries) (get_or pool c.args.index c.index-items-index.result).right ∥₁) (sym c.items.ensures)
    (right_told p self.entries self.book.demands self.book.version self.pool self.stands c.args.index c.index-items-index.result lt cut at)

pub returns-clause-low : goal.returns-clause-low
returns-clause-low c =
    let self = c.args.self.now in
    let lt : c.args.index < length self.pool = omega (arith, c.requires, count_told (opening_case self) self.entries self.book.demands self.book.version self.pool self.stands) in
    subst (λ (pool : List PooledCut). (get_or pool c.args.index c.index-items-index.result).right < 2 ^ 84) (sym c.items.ensures) (self.low c.args.index c.index-items-index.result lt)
