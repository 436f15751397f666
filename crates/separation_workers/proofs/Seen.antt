-- histories that callers have seen
use Rattle.std.proofs.Common.{◌≡◌, ◌∙◌, List, Option, None, Some, ap, subst, sym}
use Rattle.net_core.proofs.Library.{∥∥₁_map}
use Rattle.plan_terms.specs.Terms.{Entry}
use Rattle.cut_pool.{specs.declared.board.Board.Board, specs.Terms.origin_of}
use Rattle.turn_lock.specs.Passes.{opening_of, own_places, seen_by}
use Rattle.board_desk.{specs.declared.caller.Caller.Caller, specs.Turns.{HasTurn, IsSameCaller, board_made, caller_seen, seen_in}, proofs.Passes.{BoardDesk, BoardPass}}
use Rattle.separator.{specs.Separators.{IsPartOf, IsSeenHistory}, specs.inner.Seen.board_is_seen}
use Rattle.separation_workers.{specs.Callers.HasSeenHistory, proofs.Places.items_among}

-- a board tells that its entries are such a history
board_seen : (b : Board) (own : List Entry) → IsPartOf own b.entries → ∥ IsSeenHistory b.net.now b.states.now (record { history = b.entries; own = own }) ∥₁
board_seen b own among =
    ∥∥₁_map (board_is_seen 0 b.net.now b.states.now b.opening.value b.entries b.book.demands b.book.version b.pool b.few b.few_cuts b.stands)
    (λ s. record { few = s.few; few_cuts = s.few_cuts; legal = s.legal; own_among = among })

-- a pass's own entries are some of those that it has seen
own_among : (p : Option BoardPass) → IsPartOf (seen_in p).own (seen_in p).history
own_among None = tt
own_among (Some p) = items_among (seen_by p) (own_places p) p.placed

-- a caller that has had a turn has seen such a history: that of the board that it left
pub seen_after_turn : (old new : Caller) (found left : Board) → HasTurn old found left new → origin_of left ≡ origin_of found → IsSameCaller old new → HasSeenHistory new
seen_after_turn old new found left turn kept same =
    let own = (caller_seen new).own in
    let origin : origin_of left ≡ origin_of (board_made new) = kept ∙ (turn.origin ∙ ap (λ (d : BoardDesk). origin_of (opening_of d)) (sym same.desk)) in
    let among : IsPartOf own left.entries = subst (IsPartOf own) turn.seen (own_among new.pass) in
    subst (λ o. ∥ IsSeenHistory o.0 o.1 (caller_seen new) ∥₁) origin
    (subst (λ es. ∥ IsSeenHistory left.net.now left.states.now (record { history = es; own = own }) ∥₁) (sym turn.seen) (board_seen left own among))
