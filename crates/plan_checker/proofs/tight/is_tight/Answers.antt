use Rattle.std.proofs.Common.{List, ℕ, ◌↔◌, IfOk, IsTrue, ◌∙◌, refl, subst}
use Rattle.net_core.proofs.Library.{false≢true, modules_sound}
use Rattle.plan_terms.specs.Terms.{case_of, Link, Routing}
use Rattle.plan_checker.{specs.Shares.{AreCarried, GivesShare}, proofs.SharesKept.{not_tight, tight_by}}
use Rattle.plan_checker.proofs.tight.is_tight.Goals as goal

pub returns-then-not-costs_raw : goal.returns-then-not-costs_raw
returns-then-not-costs_raw c =
    let p = case_of c.args.instance.now in
    let whole = c.in_ok-whole.whole in
    let given = subst (λ (ls : List Link). GivesShare ls c.args.fractional.now.share whole.nums whole.cost) (c.items.ensures ∙ c.links.ensures) c.in_ok-whole.ensures.value in (
      λ t. absurd (false≢true t),
      λ tight. absurd (not_tight p c.args.plan.now c.args.fractional.now whole.nums whole.cost (modules_sound p.nodes p.links c.args.instance.now.net.now.checked) given
          (λ same. false≢true (c.if-not-costs_raw.ensures.1 same)) tight),
    )

pub returns : goal.returns
returns c =
    let p = case_of c.args.instance.now in
    let f = c.args.fractional.now in
    let whole = c.in_ok-whole.whole in
    let given = subst (λ (ls : List Link). GivesShare ls f.share whole.nums whole.cost) (c.items.ensures ∙ c.links.ensures) c.in_ok-whole.ensures.value in
    tight_by p c.args.plan.now f whole.nums whole.cost (modules_sound p.nodes p.links c.args.instance.now.net.now.checked) given (c.if-not-costs_raw.ensures.0 refl) c.are_carried.result
    (subst (λ (rs : List Routing). IfOk c.are_carried.result (λ t. IsTrue t ↔ AreCarried p f.share.scale whole.nums rs)) c.items-routings.ensures
    (subst (λ (ns : List ℕ). IfOk c.are_carried.result (λ t. IsTrue t ↔ AreCarried p f.share.scale ns c.items-routings.result.now)) c.items-2.ensures c.are_carried.ensures))
