use Rattle.std.proofs.Common.{◌≡◌, ◌∙◌, Some, ap, length, refl, slice_get, subst, sym}
use Rattle.net_core.proofs.Library.{slice_get_read}
use Rattle.simplex_core.specs.Terms.{GainsAt, IsGainingColumn}
use Rattle.box_program.{specs.declared.program.Rated.Rated, specs.inner.BoxPrograms.{AreBoxColumns, IsListedColumn}, proofs.Candidates.{gaining_column, none_listed}}
use Rattle.box_program.proofs.program.BoxColumnsColumns.price.Goals as goal

pub best_candidate-requires-clause-sound : goal.best_candidate-requires-clause-sound
best_candidate-requires-clause-sound c =
    let program = c.args.self.now.program.now in
    rw c.items-columns.ensures (subst (λ n. AreBoxColumns n program.columns) (sym c.requires.count) program.sound)

pub returns-in_default-clause-found : goal.returns-in_default-clause-found
returns-in_default-clause-found c column listed gains =
    let columns = c.args.self.now.program.now.columns in
    let duals = c.args.duals.now in
    none_listed columns duals (rw (c.items-columns.ensures, c.in_default.is) at c.best_candidate.ensures) column listed (subst (λ n. GainsAt n duals column) (sym c.requires.count) gains)

pub returns-in-Ok-clause-found : goal.returns-in-Ok-clause-found
returns-in-Ok-clause-found c =
    let program = c.args.self.now.program.now in
    let columns = program.columns in
    let duals = c.args.duals.now in
    let place = c.in-Some.best.at in
    let rated = c.index-columns-best.result in
    let found = rw (c.items-columns.ensures, c.in-Some.is) at c.best_candidate.ensures in
    let there : slice_get columns place ≡ Some rated = slice_get_read columns (length columns) place rated refl found.0 (rw c.items-columns.ensures at c.index-columns-best.is) in
    subst (λ n. IsGainingColumn n (IsListedColumn columns) duals c.in-Ok.column) c.requires.count
    (gaining_column columns duals (subst (λ n. AreBoxColumns n columns) (sym c.requires.count) program.sound) place rated c.in-Ok.column there ((rw c.in-Ok.is at c.copy.ensures) ∙ ap (λ (r : Rated). r.column) (sym c.index-columns-best.is)) found.1)
