use Rattle.std.proofs.Common.{ℕ, List, ◌∙◌, ap, arith, slice_index, zip}
use Rattle.net_core.proofs.Library.{Contains-get_or, get_or_default}
use Rattle.plan_terms.specs.Terms.{Link}
use Rattle.line_check.{specs.Inequalities.table_of, specs.Lines.{capped, weight_of}, proofs.TableParts.with_coefs}
use Rattle.line_check.proofs.tables.line_by_kinds.Goals as goal

pub least_weights-requires-clause-positive : goal.least_weights-requires-clause-positive
least_weights-requires-clause-positive c = λ k d inside.
    let is = (c.requires.are.each (slice_index c.args.kinds.now k)).0 (Contains-get_or c.args.kinds.now k 0 inside) in
    omega (arith, is.0, get_or_default c.args.kinds.now k d 0 inside)

pub returns : goal.returns
returns c =
    let links_are = c.items-links.ensures ∙ c.links.ensures in
    let f = λ (e m : ℕ). weight_of (zip c.args.kinds.now c.args.weights.now) (capped c.args.over.now e m) in
    record {
      some = omega (arith, c.requires.needed, c.requires.need);
      few = omega (arith, c.requires.few, c.requires.need);
      kinds = c.args.kinds.now;
      are = c.requires.are;
      paired = c.requires.paired;
      right = c.table_right-right.result;
      is_right = c.table_right-right.ensures;
      is = with_coefs c.in_ok-all_coefs.field-0 _ c.table_right-right.result (c.in_ok-all_coefs.ensures ∙ ap (λ (ls : List Link). table_of ls f) links_are);
    }
