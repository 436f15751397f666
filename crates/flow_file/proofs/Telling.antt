-- A report's readings whose faults are told by this format's kinds.
use Rattle.std.proofs.Common.{◌≡◌, ℕ, List, Ok, Err, ap, ◌∙◌}
use Rattle.snd_tokens.specs.Terms.{Text}
use Rattle.text_kit.{specs.Terms.{Item, Read, Reading}, proofs.Lemmas.{IsOnline, err_parts}, proofs.Spelled.Lawful}
use Rattle.report_words.specs.declared.fault.ReportKind.{ReportKind}
use Rattle.flow_file.{specs.declared.fault.FlowsKind.FlowsKind, specs.FlowKinds.{flows_kind, retold, told_at}}

-- what was read is read still
told_ok : {X : Type 0} (q : Read ReportKind X) (x : X) (rest : Text) → retold q ≡ Ok (x, rest) → q ≡ Ok (x, rest)
told_ok (Ok y) x rest e = let p : y ≡ (x, rest) = cc in ap (λ i. Ok i) p
told_ok (Err d) x rest e = absurd cc

-- and a fault stays at its place
record ToldFault {X : Type 0} (q : Read ReportKind X) (at : ℕ) (kind : FlowsKind) : Type 0 where
  pub before : ReportKind
  pub is : q ≡ Err (at, before)
  pub now : flows_kind before ≡ kind

told_err : {X : Type 0} (q : Read ReportKind X) (at : ℕ) (kind : FlowsKind) → retold q ≡ Err (at, kind) → ToldFault q at kind
told_err (Ok y) at kind e = absurd cc
told_err {X} (Err d) at kind e =
    let p = err_parts {X = X} d.0 at (flows_kind d.1) kind e in
    record { before = d.1; is = ap (λ (i : ℕ). Err (i, d.1)) p.0; now = p.1 }

pub lawful_told : {X : Type 0} (r : Reading ReportKind X) (items : X → List Item) (is : X → Type 0) (IsLeft : Text → Type 0) → Lawful r items is IsLeft → Lawful (told_at r) items is IsLeft
lawful_told r items is IsLeft law = record {
  takes = λ text x rest e. law.takes text x rest (told_ok (r text) x rest e);
  again = λ text x rest form b left. ap retold (law.again text x rest form b left);
}

pub online_told : {X : Type 0} (r : Reading ReportKind X) → IsOnline r → IsOnline (told_at r)
online_told {X} r on = record {
  took = λ text x rest e.
      let t = on.took text x rest (told_ok (r text) x rest e) in
      record { count = t.count; following = t.following; again = λ m u same. let h = t.again m u same in (h.0, ap retold h.1, h.2) };
  failed = λ text at kind e.
      let d = told_err (r text) at kind e in
      let t = on.failed text at d.before d.is in
      record { count = t.count; here = t.here; again = λ u same. ap retold (t.again u same) ∙ ap (λ (k : FlowsKind). Err (at, k)) d.now };
}
