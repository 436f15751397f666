use Rattle.std.proofs.Common.{List, MatchOption, false, subst, ◌∙◌}
use Rattle.plan_terms.specs.Terms.{Link, case_of}
use Rattle.line_check.{specs.Lines.IsDividedLine, specs.Testing.names_by, specs.declared.inequality.Inequality.Inequality, proofs.SourcesTold.divided_result}
use Rattle.line_check.proofs.tested_lines.tested_divided.Goals as goal

pub returns : goal.returns
returns c =
    let earlier = c.args.tested.now in
    let divisor = c.args.divisor in
    let terms = c.args.terms.now in
    let made = subst (λ (links : List Link). MatchOption c.in_ok-made.made ((made : Inequality) → IsDividedLine links (names_by earlier false) divisor terms made → ⊥) (IsDividedLine links (names_by earlier false) divisor terms))
    (c.items-links.ensures ∙ c.links.ensures) c.in_ok-made.ensures in
    divided_result (case_of c.args.instance.now) earlier divisor terms c.in_ok-made.made c.are_robust-robust.result c.told.result made c.are_robust-robust.ensures c.told.ensures
