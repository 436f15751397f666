-- nodes that hold, and what they are
use Rattle.std.proofs.Common.{◌≡◌, ℕ, ◌≤◌, Bool, IsTrue, ◌↔◌, List, Option, None, Some, IfSome, IsNone, MatchOption, All, refl, subst, sym, ◌∙◌, arith}
use Rattle.plan_terms.specs.Terms.{Evidence, Link, case_of}
use Rattle.line_check.{specs.declared.inequality.Inequality.Inequality, specs.Testing.{IsSoundAt, test_at, weighed}}
use Rattle.tree_check.{specs.BoxValues.{IsBoxValue, IsEmptiedBy}, specs.Boxes.{IsFixedBox, least_counts}, specs.Proofs.{ClosesBox, EmptiesBox, IsEvidenceAt}, specs.Trees.TreeBox, specs.declared.nodes.Held.Held, specs.declared.nodes.Held.TheVariants.{Settled, Open}, specs.declared.proof.BoxCert.BoxCert, specs.declared.proof.Node.TheVariants.{Spent, Stuck}, specs.declared.tests.Tests.Tests, specs.Testing.{HasValueIn, names_in}, specs.inner.Walking.IsHeldIn, proofs.Naming.{named_is_sound, sound_are_named, sound_names, value_of_sound, value_once}}

module _ (t : Tests) (box : TreeBox) where
  -- a certificate has the value that its tested lines have
  pub value_told : (cert : BoxCert) (links : List Link) (own : TreeBox) (o : Option ℕ) → links ≡ t.instance.now.net.now.links → own ≡ box
      → (IsNone o → (v : ℕ) → All (λ m. IsSoundAt t.tested.now m.cut) cert.lines → IsBoxValue links own cert.den (weighed t.tested.now cert.lines) v → ⊥)
      → IfSome o (λ _. All (λ m. IsSoundAt t.tested.now m.cut) cert.lines)
      → IfSome o (IsBoxValue links own cert.den (weighed t.tested.now cert.lines))
      → MatchOption o ((v : ℕ) → HasValueIn t box cert v → ⊥) (HasValueIn t box cert)
  value_told cert links own None same_links same_box none sound value = λ v has.
      let of = value_of_sound t.tested.now t.instance.now.net.now.links box cert v has in
      none refl v of.0
      (subst (λ (ls : List Link). IsBoxValue ls own cert.den (weighed t.tested.now cert.lines) v) (sym same_links)
      (subst (λ (b : TreeBox). IsBoxValue t.instance.now.net.now.links b cert.den (weighed t.tested.now cert.lines) v) (sym same_box) of.1))
  value_told cert links own (Some v) same_links same_box none sound value = record {
    terms = weighed t.tested.now cert.lines;
    named = sound_are_named t.tested.now cert.lines sound;
    is =
        subst (λ (b : TreeBox). IsBoxValue t.instance.now.net.now.links b cert.den (weighed t.tested.now cert.lines) v) same_box
        (subst (λ (ls : List Link). IsBoxValue ls own cert.den (weighed t.tested.now cert.lines) v) same_links value);
  }

  -- a value that reaches the cost closes the box, and only such a value does
  pub closes_by : (cert : BoxCert) (v : ℕ) → HasValueIn t box cert v → t.cost ≤ v → ClosesBox (names_in t) t.instance.now.net.now.links box t.cost cert
  closes_by cert v has reaches = record { value = v; has = has; reaches = reaches }

  pub closed_by : (cert : BoxCert) (v : ℕ) → HasValueIn t box cert v → ClosesBox (names_in t) t.instance.now.net.now.links box t.cost cert → t.cost ≤ v
  closed_by cert v has closes =
      let same = value_once t.tested.now t.instance.now.net.now.links box cert closes.value v closes.has has in
      omega (arith, same, closes.reaches)

  -- a tested line empties the box exactly where it is tested so
  pub emptied_sound : (cut : ℕ) → EmptiesBox (names_in t) t.instance.now.net.now.links box cut → IsSoundAt t.tested.now cut
  emptied_sound cut empties = (named_is_sound t.tested.now cut empties.0 empties.1).0

  pub emptied_told : (cut : ℕ) (line : Inequality) (links : List Link) (own : TreeBox) (r : Bool) → IsSoundAt t.tested.now cut → line ≡ (test_at t.tested.now cut).line
      → links ≡ t.instance.now.net.now.links → own ≡ box → (IsTrue r ↔ IsEmptiedBy links own line) → (IsTrue r ↔ EmptiesBox (names_in t) t.instance.now.net.now.links box cut)
  emptied_told cut line links own r sound same same_links same_box tells = (
    λ yes. (
      line,
      subst (names_in t cut) (sym same) (sound_names t.tested.now cut sound),
      subst (λ (b : TreeBox). IsEmptiedBy t.instance.now.net.now.links b line) same_box (subst (λ (ls : List Link). IsEmptiedBy ls own line) same_links (tells.0 yes)),
    ),
    λ empties.
        let named = named_is_sound t.tested.now cut empties.0 empties.1 in
        let here : IsEmptiedBy t.instance.now.net.now.links box line = subst (IsEmptiedBy t.instance.now.net.now.links box) (named.1 ∙ sym same) empties.2 in
        tells.1 (subst (λ (ls : List Link). IsEmptiedBy ls own line) (sym same_links) (subst (λ (b : TreeBox). IsEmptiedBy t.instance.now.net.now.links b line) (sym same_box) here)),
  )

  -- an open leaf by its certificate
  pub held_spent : (cert : BoxCert) (o : Option Held) → MatchOption o ((v : ℕ) → HasValueIn t box cert v → ⊥) (λ h. (v : ℕ) × (h ≡ Open v) × HasValueIn t box cert v)
      → IsHeldIn t box (Spent cert) o
  held_spent cert None none = λ held. none held.0 held.1
  held_spent cert (Some Settled) is = absurd (let e : Settled ≡ Open is.0 = is.1 in cc e)
  held_spent cert (Some (Open v)) is =
      let e : v ≡ is.0 = let same : Open v ≡ Open is.0 = is.1 in cc same in
      ((is.0, is.2), subst (HasValueIn t box cert) (sym e) is.2)

  pub held_stuck : (cert : BoxCert) (evidence : Evidence) (o : Option Held) → IsFixedBox box × IsEvidenceAt (case_of t.instance.now) (least_counts box) evidence
      → MatchOption o ((v : ℕ) → HasValueIn t box cert v → ⊥) (λ h. (v : ℕ) × (h ≡ Open v) × HasValueIn t box cert v)
      → IsHeldIn t box (Stuck cert evidence) o
  held_stuck cert evidence None stuck none = λ held. none held.0.0 held.0.1
  held_stuck cert evidence (Some Settled) stuck is = absurd (let e : Settled ≡ Open is.0 = is.1 in cc e)
  held_stuck cert evidence (Some (Open v)) stuck is =
      let e : v ≡ is.0 = let same : Open v ≡ Open is.0 = is.1 in cc same in
      (((is.0, is.2), stuck.0, stuck.1), subst (HasValueIn t box cert) (sym e) is.2)
