use Rattle.std.proofs.Common.{◌≡◌, ℕ, List, [], ◌∷◌, All, ⊎_elim, refl, subst, sym}
use Rattle.net_core.proofs.Library.{All-nil, All-push}
use Rattle.separator.{specs.inner.Working.{PoolsMore, state_and_lengths}, proofs.Answering.{own_cuts, same_frame, sees_more}}
use Rattle.separator.proofs.one_by_one.OneByOneSeparate.admit.Goals as goal

pub returns-clause-frame : goal.returns-clause-frame
returns-clause-frame c =
    let cut = state_and_lengths c.args.cut in
    same_frame c.args.self.now.began.value c.args.self.now.board c.spot_of.new.board
    (⊎_elim (λ (none : PoolsMore c.args.self.now.board c.spot_of.new.board []). none.origin) (λ (one : PoolsMore c.args.self.now.board c.spot_of.new.board (cut ∷ [])). one.origin) c.spot_of.ensures.only)

pub returns-clause-more : goal.returns-clause-more
returns-clause-more c =
    let self = c.args.self.now in
    let old = self.board in
    let now = c.spot_of.new.board in
    let cut = state_and_lengths c.args.cut in
    ⊎_elim
    (λ (none : PoolsMore old now []). sees_more self.began.value old now [] self.began_before none)
    (λ (one : PoolsMore old now (cut ∷ [])). sees_more self.began.value old now (cut ∷ []) self.began_before one)
    c.spot_of.ensures.only

pub returns-clause-only : goal.returns-clause-only
returns-clause-only c =
    let self = c.args.self.now in
    let old = self.board in
    let now = c.spot_of.new.board in
    let cut = state_and_lengths c.args.cut in
    let is : ℕ × List ℕ → Type 0 = λ x. x ≡ cut in
    ⊎_elim
    (λ (none : PoolsMore old now []). subst (All is) (sym (own_cuts self.began.value old now [] self.began_before none)) (All-nil is))
    (λ (one : PoolsMore old now (cut ∷ [])). subst (All is) (sym (own_cuts self.began.value old now (cut ∷ []) self.began_before one)) (All-push is [] cut (All-nil is) refl))
    c.spot_of.ensures.only

pub returns-clause-spot : goal.returns-clause-spot
returns-clause-spot c = c.spot_of.ensures.spot
