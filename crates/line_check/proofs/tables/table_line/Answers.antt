use Rattle.std.proofs.Common.{◌≡◌, ◌<◌, ◌∙◌, List, ℕ, length, subst, sym}
use Rattle.net_core.proofs.Library.{both_ways}
use Rattle.plan_terms.specs.Terms.{Link, case_of}
use Rattle.line_check.{specs.Lines.AreKinds, proofs.TableParts.not_paired}
use Rattle.line_check.proofs.tables.table_line.Goals as goal

pub returns-then-not-are_paired : goal.returns-then-not-are_paired
returns-then-not-are_paired c =
    let kinds = c.in_ok-kinds.kinds in
    let over = c.args.over.now in
    let weights = c.args.weights.now in
    let are = subst (λ (ls : List Link). AreKinds ls over kinds) (c.items-links.ensures ∙ c.links.ensures) c.in_ok-kinds.ensures in
    not_paired (case_of c.args.instance.now) over c.args.kind weights kinds are
    (λ pairs. both_ways c.are_paired.result c.if-not-are_paired.true
    (c.are_paired.ensures.1 (subst (λ (xs : List ℕ). (0 < length xs) × (length weights ≡ length xs)) (sym c.items.ensures) pairs)))
