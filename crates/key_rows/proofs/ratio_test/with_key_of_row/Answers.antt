use Rattle.std.proofs.Common.{◌≡◌, ◌+◌, ◌⊎◌, length, get_or, subst, IfOk}
use Rattle.net_core.proofs.Library.{ForSome, IfOk-weaker}
use Rattle.key_rows.{specs.FirstRoles.IsFirstOfRoles, specs.inner.Candidates.{IsPlacedCandidate, IsWithKey}, specs.inner.Tried.{role_in, IsTried}, proofs.Trying.{fewer, key_more, placed_more, tried_more, tried_no_more}}
use Rattle.key_rows.proofs.ratio_test.with_key_of_row.Goals as goal

pub returns-then-not-is_to_be_tried-clause-first : goal.returns-then-not-is_to_be_tried-clause-first
returns-then-not-is_to_be_tried-clause-first c = λ first.
    let b = c.args.entrant.now.keyed.now in
    let name = c.args.entrant.now.name.now in
    let i = c.args.i in
    fewer b name (IsTried b name i) (IsTried b name (i + 1)) (role_in c.args.best) (λ r l t. tried_no_more b name i (c.is_to_be_tried.ensures.no c.if-not-is_to_be_tried.true) r l t) first

pub returns-clause-placed : goal.returns-clause-placed
returns-clause-placed c =
    let b = c.args.entrant.now.keyed.now in
    let name = c.args.entrant.now.name.now in
    let key = c.args.entrant.now.key.now in
    let i = c.args.i in
    let d = get_or b.owners i 0 in
    let is = subst (λ xs. IfOk c.with_key.result (IsWithKey b name key (get_or xs i 0) c.args.best)) c.items.ensures c.with_key.ensures.with_key in
    IfOk-weaker c.with_key.result (IsWithKey b name key d c.args.best) (λ after. ForSome after (IsPlacedCandidate b name))
    (λ after. placed_more b name key d c.args.best after (c.is_to_be_tried.ensures.yes c.if-not-is_to_be_tried.false) c.requires.best) is

pub returns-clause-first : goal.returns-clause-first
returns-clause-first c =
    let b = c.args.entrant.now.keyed.now in
    let name = c.args.entrant.now.name.now in
    let key = c.args.entrant.now.key.now in
    let i = c.args.i in
    let d = get_or b.owners i 0 in
    let is = subst (λ xs. IfOk c.with_key.result (IsWithKey b name key (get_or xs i 0) c.args.best)) c.items.ensures c.with_key.ensures.with_key in
    IfOk-weaker c.with_key.result (IsWithKey b name key d c.args.best)
    (λ after. IsFirstOfRoles b name (IsTried b name i) (role_in c.args.best) → IsFirstOfRoles b name (IsTried b name (i + 1)) (role_in after))
    (λ after is first. fewer b name (λ s. IsTried b name i s ⊎ (s ≡ length b.rows + d)) (IsTried b name (i + 1)) (role_in after) (λ r l t. tried_more b name i r t)
    (key_more b name key (IsTried b name i) d c.args.best after c.requires.entrant.products (c.is_to_be_tried.ensures.yes c.if-not-is_to_be_tried.false) c.requires.best is first))
    is
