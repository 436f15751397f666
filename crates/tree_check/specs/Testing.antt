-- lines that were tested, and what certificates and lines are to a box by these tests
use Rattle.std.specs.Prelude.{ℕ, false}
use Rattle.plan_terms.specs.Terms.{case_of}
use Rattle.line_check.{specs.Terms.{sources_of, AreTested, names_by}, specs.declared.inequality.Inequality.Inequality}
use Rattle.tree_check.{specs.BoxValues.HasBoxValue, specs.Trees.TreeBox, specs.declared.proof.BoxCert.BoxCert, specs.declared.proof.Proof.Proof, specs.declared.tests.Tests.Tests}

-- the lines that indices name, by these tests
abbrev pub names_in : Tests → ℕ → Inequality → Type 0
names_in t = names_by t.tested.now false

-- a certificate has a value for a box
abbrev pub HasValueIn : Tests → TreeBox → BoxCert → ℕ → Type 0
HasValueIn t box cert value = HasBoxValue (names_in t) t.instance.now.net.now.links box cert value

-- the tests are those of a proof's cuts and further lines
abbrev pub AreTestsOf : Proof → Tests → Type 0
AreTestsOf proof t = AreTested (case_of t.instance.now) (sources_of proof.cuts proof.lines) t.tested.now
