-- cuts that a board admits
use Rattle.std.proofs.Common.{◌≡◌, ◌∙◌, ℕ, List, None, Option, length, ap, sym, position}
use Rattle.plan_terms.specs.Terms.{Pooled, graph_in}
use Rattle.metric_cut.{specs.Cuts.IsCutOf, specs.declared.cut.Cut.Cut}
use Rattle.cut_pool.{specs.declared.board.Board.Board, specs.declared.pooled_cut.PooledCut.PooledCut, specs.Boards.{IsNew, opening_case}, specs.Histories.{IsLegalAfter, cuts_of}, specs.inner.Pooling.is_pooled_cut, proofs.Told.{count_told, new_told}}

module _ (b : Board) where
  pub board_count : length b.pool ≡ length (cuts_of b.entries)
  board_count = count_told (opening_case b) b.entries b.book.demands b.book.version b.pool b.stands

  pub is_new : (cut : Cut) (items : List PooledCut) (found : Option ℕ) → items ≡ b.pool → found ≡ position (is_pooled_cut cut) items → found ≡ None → IsNew cut b.entries
  is_new cut items found is at none =
      new_told (opening_case b) b.entries b.book.demands b.book.version b.pool b.stands cut (ap (position (is_pooled_cut cut)) (sym is) ∙ (sym at ∙ none))

  pub is_legal : (cut : Cut) (index : ℕ) → IsCutOf (graph_in (opening_case b) cut.state.0) cut → IsNew cut b.entries → index ≡ length b.pool → IsLegalAfter (opening_case b) b.entries (Pooled index cut.state cut.lengths)
  is_legal cut index of new at = (of.listed_state, of.kept, new, at ∙ board_count)
