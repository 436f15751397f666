use Rattle.std.proofs.Common.{◌≡◌, ◌<◌, List, Some, get_or, length, slice_get, subst, sym, arith}
use Rattle.net_core.proofs.Library.{∥∥₁_elim, props}
use Rattle.plan_terms.specs.Terms.{graph_in}
use Rattle.metric_cut.specs.Cuts.{IsCutOf}
use Rattle.cut_pool.{specs.declared.pooled_cut.PooledCut.PooledCut, specs.Boards.opening_case, specs.Histories.cuts_of, proofs.Places.with_state, proofs.Told.{count_told, cut_at}}
use Rattle.cut_pool.proofs.board.Board.cut.Goals as goal

pub returns-clause-at : goal.returns-clause-at
returns-clause-at c =
    let self = c.args.self.now in
    let lt : c.args.index < length self.pool = omega (arith, c.requires, count_told (opening_case self) self.entries self.book.demands self.book.version self.pool self.stands) in
    subst (λ (pool : List PooledCut). slice_get (cuts_of self.entries) c.args.index ≡ Some (with_state (get_or pool c.args.index c.index-items-index.result).cut)) (sym c.items.ensures)
    (cut_at (opening_case self) self.entries self.book.demands self.book.version self.pool self.stands c.args.index c.index-items-index.result lt)

pub returns-clause-cut : goal.returns-clause-cut
returns-clause-cut c =
    let self = c.args.self.now in
    let lt : c.args.index < length self.pool = omega (arith, c.requires, count_told (opening_case self) self.entries self.book.demands self.book.version self.pool self.stands) in
    subst (λ (pool : List PooledCut). ∥ IsCutOf (graph_in (opening_case self) (get_or pool c.args.index c.index-items-index.result).cut.state.0) (get_or pool c.args.index c.index-items-index.result).cut ∥₁) (sym c.items.ensures)
    (∥∥₁_elim self.cuts_are (hlevel props) (λ cuts. ∣ cuts c.args.index c.index-items-index.result lt ∣₁))
