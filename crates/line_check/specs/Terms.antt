-- The words of this crate, passed on from one place to other crates. Declares nothing.
pub use Rattle.line_check.specs.Inequalities.{AreNamedBy, MeetsLine, WeightedLine, coefficients_of, entry, line_of_cut, module_number, module_price, need_of, over_modules, summed_need, table_of}
pub use Rattle.line_check.specs.Laws.{LinesAreMet, RobustLinesAreMet, surviving_counts}
pub use Rattle.line_check.specs.Lines.{IsDividedLine, IsMadeFrom, IsTableLine, IsTableOver, NamesLine, NamesRobust, Naming, Source, capped, divided_line, divided_up, names_among, sources_of, table_line}
pub use Rattle.line_check.specs.Testing.{AreTested, IsSoundAt, IsTestedAs, names_by, no_test, says, test_at, weighed}
pub use Rattle.master_bound.specs.declared.answer.Multiplier.{Multiplier}
pub use Rattle.plan_checker.specs.Places.{IsLeastPlace}
