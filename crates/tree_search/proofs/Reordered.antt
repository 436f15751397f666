-- nodes by the indices of a proof, and what these name
use Rattle.std.proofs.Common.{◌≡◌, ◌∙◌, ℕ, zero, suc, ◌-◌, inl, inr, Bool, true, List, [], ◌∷◌, refl, ap, sym, subst, arith}
use Rattle.plan_terms.{specs.Terms.{Case, Link}, proofs.Lemmas.bound_unique}
use Rattle.line_check.{specs.Terms.{AreNamedBy, WeightedLine, IsMadeFrom, IsTableOver, Naming, Source, divided_line, names_among, Multiplier}, proofs.DividedTold.same_weighted, proofs.SameTables.table_same}
use Rattle.tree_check.specs.Terms.{HasBoxValue, IsBoxValue, value_gains, value_losses, HoldsNode, TreeBox, sides_of, Inequality, Divided, Table, Plain, Failing}
use Rattle.tree_boxes.{specs.Terms.{BoxCert, Node, Split, Closed, Empty, Spent, Stuck, is_split, moved_certificate, moved_multipliers, moved_node}, proofs.Lemmas.names_below}

-- ---- moved nodes

-- where an index names, after it was moved, what it named before
module _ (a b : ℕ → Inequality → Type 0) (to : ℕ → ℕ) (moves : (i : ℕ) (line : Inequality) → a i line → b (to i) line) where
  named_moved : (ms : List Multiplier) (terms : List WeightedLine) → AreNamedBy a ms terms → AreNamedBy b (moved_multipliers to ms) terms
  named_moved [] [] named = tt
  named_moved [] (t ∷ ts) named = absurd named
  named_moved (m ∷ ms) [] named = absurd named
  named_moved (m ∷ ms) (t ∷ ts) named = ((moves m.cut t.line named.0.0, named.0.1), named_moved ms ts named.1)

  pub value_moved : (links : List Link) (box : TreeBox) (cert : BoxCert) (value : ℕ)
      → HasBoxValue a links box cert value → HasBoxValue b links box (moved_certificate to cert) value
  value_moved links box cert value has = record { terms = has.terms; named = named_moved cert.lines has.terms has.named; is = has.is }

  pub holds_moved : (p : Case) (cost : ℕ) (box : TreeBox) (node : Node) → HoldsNode a p cost box node → HoldsNode b p cost box (moved_node to node)
  holds_moved p cost box (Split link at_module number) holds = holds
  holds_moved p cost box (Closed cert) holds = record { value = holds.value; has = value_moved p.links box cert holds.value holds.has; reaches = holds.reaches }
  holds_moved p cost box (Empty cut) holds = (holds.0, moves cut holds.0 holds.1, holds.2)
  holds_moved p cost box (Spent cert) holds = (holds.0, value_moved p.links box cert holds.0 holds.1)
  holds_moved p cost box (Stuck cert evidence) holds = ((holds.0.0, value_moved p.links box cert holds.0.0 holds.0.1), holds.1, holds.2)

pub moved_sides : (to : ℕ → ℕ) (box : TreeBox) (node : Node) → sides_of box (moved_node to node) ≡ sides_of box node
moved_sides to box (Split link at_module number) = refl
moved_sides to box (Closed cert) = refl
moved_sides to box (Empty cut) = refl
moved_sides to box (Spent cert) = refl
moved_sides to box (Stuck cert evidence) = refl

pub moved_split : (to : ℕ → ℕ) (node : Node) → is_split (moved_node to node) ≡ is_split node
moved_split to (Split link at_module number) = refl
moved_split to (Closed cert) = refl
moved_split to (Empty cut) = refl
moved_split to (Spent cert) = refl
moved_split to (Stuck cert evidence) = refl

-- ---- an index names one line

module _ (names : ℕ → Inequality → Type 0) (once : (i : ℕ) (a b : Inequality) → names i a → names i b → a ≡ b) where
  named_once : (ms : List Multiplier) (ts us : List WeightedLine) → AreNamedBy names ms ts → AreNamedBy names ms us → ts ≡ us
  named_once [] [] [] one two = refl
  named_once [] [] (u ∷ us) one two = absurd two
  named_once [] (t ∷ ts) us one two = absurd one
  named_once (m ∷ ms) [] us one two = absurd one
  named_once (m ∷ ms) (t ∷ ts) [] one two = absurd two
  named_once (m ∷ ms) (t ∷ ts) (u ∷ us) one two =
      let line : t.line ≡ u.line = once m.cut t.line u.line one.0.0 two.0.0 in
      let num : t.num ≡ u.num = sym one.0.1 ∙ two.0.1 in
      let head : t ≡ u = same_weighted t u.line u.num line num in
      ap (λ (x : WeightedLine). x ∷ ts) head ∙ ap (λ (xs : List WeightedLine). u ∷ xs) (named_once ms ts us one.1 two.1)

  -- so a certificate has one value
  pub value_same : (links : List Link) (box : TreeBox) (cert : BoxCert) (a b : ℕ) → HasBoxValue names links box cert a → HasBoxValue names links box cert b → a ≡ b
  value_same links box cert a b one two =
      let terms = two.terms in
      let first : IsBoxValue links box cert.den terms a =
      subst (λ (ts : List WeightedLine). IsBoxValue links box cert.den ts a) (named_once cert.lines one.terms two.terms one.named two.named) one.is in
      let raw : ℕ = value_gains links box cert.den terms - value_losses links box cert.den terms in
      bound_unique links raw cert.den raw cert.den a b first.certificate.positive first.certificate.positive refl first.rounded two.is.rounded

made_once : (p : Case) (names : Naming) → ((robust : Bool) (i : ℕ) (a b : Inequality) → names robust i a → names robust i b → a ≡ b)
    → (robust : Bool) (source : Source) (a b : Inequality) → IsMadeFrom p names robust source a → IsMadeFrom p names robust source b → a ≡ b
made_once p names once robust (inl cut) a b one two = one.2 ∙ sym two.2
made_once p names once robust (inr (Divided divisor ms)) a b one two =
    one.is ∙ (ap (λ (ts : List WeightedLine). divided_line p.links divisor ts) (named_once (names robust) (once robust) ms one.terms two.terms one.named two.named) ∙ sym two.is)
made_once p names once robust (inr (Table index Plain weights)) a b one two =
    let same : one.0 ≡ two.0 = once robust index one.0 two.0 one.1 two.1 in
    table_same p two.0 Plain weights a b (subst (λ (over : Inequality). IsTableOver p over Plain weights a) same one.2) two.2
made_once p names once robust (inr (Table index Failing weights)) a b one two =
    let same : one.1.0 ≡ two.1.0 = once true index one.1.0 two.1.0 one.1.1 two.1.1 in
    table_same p two.1.0 Failing weights a b (subst (λ (over : Inequality). IsTableOver p over Failing weights a) same one.1.2) two.1.2

module _ (p : Case) (sources : List Source) where
  pub names_once : (n : ℕ) (robust : Bool) (i : ℕ) (a b : Inequality) → names_among p sources n robust i a → names_among p sources n robust i b → a ≡ b
  names_once zero robust i a b one two = absurd one
  names_once (suc n) robust i a b (inl one) (inl two) = names_once n robust i a b one two
  names_once (suc n) robust i a b (inl one) (inr two) = absurd (let lt = names_below p sources n robust i a one in omega (arith, lt, two.0))
  names_once (suc n) robust i a b (inr one) (inl two) = absurd (let lt = names_below p sources n robust i b two in omega (arith, lt, one.0))
  names_once (suc n) robust i a b (inr one) (inr two) =
      let same : two.1.source ≡ one.1.source = let x = one.1.at in let y = two.1.at in cc (x, y) in
      made_once p (names_among p sources n) (names_once n) robust one.1.source a b one.1.is
      (subst (λ (source : Source). IsMadeFrom p (names_among p sources n) robust source b) same two.1.is)
