use Rattle.std.proofs.Common.{◌≡◌, ◌<◌, ◌+◌, Some, length, sym, ◌∙◌, ◌⊎◌}
use Rattle.net_core.proofs.Library.{ForSome, IfOk-weaker}
use Rattle.key_rows.{specs.FirstRoles.IsFirstOfRoles, specs.Names.demand_in, specs.inner.Candidates.{IsPlacedCandidate, IsWithKey}, specs.inner.Tried.{role_in, IsTried}, proofs.Trying.{fewer, key_more, placed_more, with_own, without_own}}
use Rattle.key_rows.proofs.ratio_test.with_own_key.Goals as goal

pub returns-in-Some-clause-placed : goal.returns-in-Some-clause-placed
returns-in-Some-clause-placed c =
    let b = c.args.entrant.now.keyed.now in
    let name = c.args.entrant.now.name.now in
    let d = c.in-Some.demand in
    let own : demand_in name ≡ Some d = sym c.demand_of.ensures ∙ c.in-Some.is in
    IfOk-weaker c.with_key.result (IsWithKey b name c.args.entrant.now.key.now d c.args.best) (λ after. ForSome after (IsPlacedCandidate b name))
    (λ after. placed_more b name c.args.entrant.now.key.now d c.args.best after (c.requires.demand d own) c.requires.best) c.with_key.ensures.with_key

pub returns-in-Some-clause-first : goal.returns-in-Some-clause-first
returns-in-Some-clause-first c =
    let b = c.args.entrant.now.keyed.now in
    let name = c.args.entrant.now.name.now in
    let d = c.in-Some.demand in
    let own : demand_in name ≡ Some d = sym c.demand_of.ensures ∙ c.in-Some.is in
    IfOk-weaker c.with_key.result (IsWithKey b name c.args.entrant.now.key.now d c.args.best)
    (λ after. IsFirstOfRoles b name (λ r. r < length b.rows) (role_in c.args.best) → IsFirstOfRoles b name (IsTried b name 0) (role_in after))
    (λ after is first. fewer b name (λ s. (s < length b.rows) ⊎ (s ≡ length b.rows + d)) (IsTried b name 0) (role_in after) (λ r l t. with_own b name d own r t)
    (key_more b name c.args.entrant.now.key.now (λ s. s < length b.rows) d c.args.best after c.requires.entrant.products (c.requires.demand d own) c.requires.best is first))
    c.with_key.ensures.with_key

pub returns-in-None-clause-first : goal.returns-in-None-clause-first
returns-in-None-clause-first c = λ first.
    let b = c.args.entrant.now.keyed.now in
    let name = c.args.entrant.now.name.now in
    fewer b name (λ s. s < length b.rows) (IsTried b name 0) (role_in c.args.best) (λ r l t. without_own b name (sym c.demand_of.ensures ∙ c.in-None.is) r t) first
