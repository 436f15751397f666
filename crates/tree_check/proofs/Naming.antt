-- lines that were tested, and the lines that indices name
use Rattle.std.proofs.Common.{◌≡◌, ℕ, ◌-◌, false, List, [], ◌∷◌, All, refl, ap, subst, sym, ◌∙◌}
use Rattle.net_core.proofs.Library.{All-from_recursion, recursion_from_All, AllByRecursion}
use Rattle.line_check.{specs.Terms.{Multiplier, AreNamedBy, WeightedLine, IsSoundAt, names_by, test_at, weighed}, specs.declared.inequality.Inequality.Inequality, specs.declared.tested_lines.Tested.Tested, proofs.DividedTold.same_weighted, proofs.TestedMore.named_under}
use Rattle.plan_terms.{proofs.Lemmas.bound_unique, specs.Terms.{Case, Link}}
use Rattle.tree_check.{specs.BoxValues.{HasBoxValue, IsBoxValue, value_gains, value_losses}, specs.Proofs.{HasOpenValue, HoldsNode}, specs.Trees.TreeBox, specs.declared.proof.BoxCert.BoxCert, specs.declared.proof.Node.Node, specs.declared.proof.Node.TheVariants.{Split, Closed, Empty, Spent, Stuck}}

module _ (tested : List Tested) where
  -- the index of a line that holds names it
  pub sound_names : (i : ℕ) → IsSoundAt tested i → names_by tested false i (test_at tested i).line
  sound_names i sound = (sound.0, sound.1, refl)

  -- an index that names a line is that of one that holds, and the line is the tested one
  pub named_is_sound : (i : ℕ) (line : Inequality) → names_by tested false i line → IsSoundAt tested i × (line ≡ (test_at tested i).line)
  named_is_sound i line names = ((names.0, names.1), names.2)

  named_by_recursion : (ms : List Multiplier) → AllByRecursion (λ m. IsSoundAt tested m.cut) ms → AreNamedBy (names_by tested false) ms (weighed tested ms)
  named_by_recursion [] sound = tt
  named_by_recursion (m ∷ ms) sound = ((sound_names m.cut sound.0, refl), named_by_recursion ms sound.1)

  -- sound indices name their lines
  pub sound_are_named : (ms : List Multiplier) → All (λ m. IsSoundAt tested m.cut) ms → AreNamedBy (names_by tested false) ms (weighed tested ms)
  sound_are_named ms sound = named_by_recursion ms (recursion_from_All (λ m. IsSoundAt tested m.cut) ms sound)

  named_sound : (ms : List Multiplier) (terms : List WeightedLine) → AreNamedBy (names_by tested false) ms terms → AllByRecursion (λ m. IsSoundAt tested m.cut) ms × (terms ≡ weighed tested ms)
  named_sound [] [] named = (tt, refl)
  named_sound [] (t ∷ ts) named = absurd named
  named_sound (m ∷ ms) [] named = absurd named
  named_sound (m ∷ ms) (t ∷ ts) named =
      let first = named_is_sound m.cut t.line named.0.0 in
      let rest = named_sound ms ts named.1 in
      let line : t.line ≡ (test_at tested m.cut).line = first.1 in
      let num : t.num ≡ m.num = sym named.0.1 in
      let head : t ≡ record { line = (test_at tested m.cut).line; num = m.num } = same_weighted t (test_at tested m.cut).line m.num line num in
      ((first.0, rest.0), ap (λ (x : WeightedLine). x ∷ ts) head ∙ ap (λ (xs : List WeightedLine). record { line = (test_at tested m.cut).line; num = m.num } ∷ xs) rest.1)

  -- a certificate has a value only where its indices are those of sound cuts, and it is that of their lines
  pub value_of_sound : (links : List Link) (box : TreeBox) (cert : BoxCert) (value : ℕ) → HasBoxValue (names_by tested false) links box cert value
      → All (λ m. IsSoundAt tested m.cut) cert.lines × IsBoxValue links box cert.den (weighed tested cert.lines) value
  value_of_sound links box cert value has =
      let of = named_sound cert.lines has.terms has.named in (
        All-from_recursion (λ m. IsSoundAt tested m.cut) cert.lines of.0,
        subst (λ (terms : List WeightedLine). IsBoxValue links box cert.den terms value) of.1 has.is,
      )

  -- a certificate has one value for a box
  pub value_once : (links : List Link) (box : TreeBox) (cert : BoxCert) (a b : ℕ) → HasBoxValue (names_by tested false) links box cert a → HasBoxValue (names_by tested false) links box cert b → a ≡ b
  value_once links box cert a b one other =
      let first = (value_of_sound links box cert a one).1 in
      let second = (value_of_sound links box cert b other).1 in
      let terms = weighed tested cert.lines in
      let raw : ℕ = value_gains links box cert.den terms - value_losses links box cert.den terms in
      bound_unique links raw cert.den raw cert.den a b first.certificate.positive first.certificate.positive refl first.rounded second.rounded

-- ---- certificates and nodes by other names of their lines

module _ (a b : ℕ → Inequality → Type 0) (to : (i : ℕ) (line : Inequality) → a i line → b i line) where
  pub value_map : (links : List Link) (box : TreeBox) (cert : BoxCert) (value : ℕ) → HasBoxValue a links box cert value → HasBoxValue b links box cert value
  value_map links box cert value has = record { terms = has.terms; named = named_under a b to cert.lines has.terms has.named; is = has.is }

  -- a node that holds
  pub holds_map : (p : Case) (cost : ℕ) (box : TreeBox) (node : Node) → HoldsNode a p cost box node → HoldsNode b p cost box node
  holds_map p cost box (Split link at_module number) holds = holds
  holds_map p cost box (Closed cert) holds = record { value = holds.value; has = value_map p.links box cert holds.value holds.has; reaches = holds.reaches }
  holds_map p cost box (Empty cut) holds = (holds.0, to cut holds.0 holds.1, holds.2)
  holds_map p cost box (Spent cert) holds = (holds.0, value_map p.links box cert holds.0 holds.1)
  holds_map p cost box (Stuck cert evidence) holds = ((holds.0.0, value_map p.links box cert holds.0.0 holds.0.1), holds.1, holds.2)

  -- the value of an open leaf
  pub open_map : (links : List Link) (box : TreeBox) (node : Node) (value : ℕ) → HasOpenValue a links box node value → HasOpenValue b links box node value
  open_map links box (Split link at_module number) value has = has
  open_map links box (Closed cert) value has = has
  open_map links box (Empty cut) value has = has
  open_map links box (Spent cert) value has = value_map links box cert value has
  open_map links box (Stuck cert evidence) value has = value_map links box cert value has
