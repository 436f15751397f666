use Rattle.std.proofs.Common.{◌-◌, ◌⊎◌, subst, sym, arith}
use Rattle.net_core.proofs.Library.{IfErr-weaker}
use Rattle.key_rows.{specs.KeyTests.IsWideTest, specs.inner.Candidates.{IsKeyCandidate, IsWideRowTest}, specs.Names.own_entry, proofs.WideTests.{row_test, pair_test, placed_positive, placed_key}}
use Rattle.key_rows.proofs.ratio_test.key_before.Goals as goal

pub returns-then-best-links-clause-wide : goal.returns-then-best-links-clause-wide
returns-then-best-links-clause-wide c =
    let b = c.args.entrant.now.keyed.now in
    let name = c.args.entrant.now.name.now in
    IfErr-weaker c.tie_with_row.result (IsWideRowTest b c.args.demand c.args.x.now.role) (IsWideTest b name)
    (λ w. row_test b name c.args.demand c.args.x.now.role w c.requires.rivals.demand c.requires.rivals.candidate.role) c.tie_with_row.ensures.wide

pub returns-else-best-links-clause-wide : goal.returns-else-best-links-clause-wide
returns-else-best-links-clause-wide c =
    let b = c.args.entrant.now.keyed.now in
    let name = c.args.entrant.now.name.now in
    let best = c.args.best.now in
    let x = c.args.x.now in
    let n = c.len-links.result in
    IfErr-weaker c.tie_with_key.result (λ w. IsWideRowTest b c.args.demand x.role w ⊎ IsWideRowTest b (best.role - n) best.role w) (IsWideTest b name)
    (λ w. pair_test b name c.args.demand n x best w c.requires.rivals.demand c.requires.rivals.candidate.role c.len-links.ensures c.if-best-links.false c.requires.rivals.placed.inside) c.tie_with_key.ensures.wide

pub tie_with_row-requires-clause-best : goal.tie_with_row-requires-clause-best
tie_with_row-requires-clause-best c = (
  omega (arith, c.if-best-links.true, c.len-links.ensures),
  placed_positive c.args.entrant.now.keyed.now c.args.entrant.now.name.now c.args.best.now c.requires.rivals.placed,
)

pub tie_with_key-requires-clause-best : goal.tie_with_key-requires-clause-best
tie_with_key-requires-clause-best c =
    let b = c.args.entrant.now.keyed.now in
    let name = c.args.entrant.now.name.now in
    let best = c.args.best.now in
    subst (λ n. IsKeyCandidate b (best.role - n) (own_entry name (best.role - n)) best) (sym c.len-links.ensures)
    (placed_key b name best c.requires.rivals.placed (omega (arith, c.if-best-links.false, c.len-links.ensures)))

pub tie_with_key-requires-clause-apart : goal.tie_with_key-requires-clause-apart
tie_with_key-requires-clause-apart c = λ same. c.requires.rivals.apart (omega (arith, same, c.requires.rivals.candidate.role, c.if-best-links.false, c.len-links.ensures))
