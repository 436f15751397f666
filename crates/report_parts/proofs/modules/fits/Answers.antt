use Rattle.std.proofs.Common.{◌≡◌, ℕ, ◌+◌, ◌*◌, ◌^◌, List, length, min, nat_lt, get_or, subst, ap, ◌∙◌, arith}
use Rattle.net_core.proofs.Library.{slice_get-get_or}
use Rattle.plan_terms.specs.Terms.{Module, modules_capacity}
use Rattle.report_parts.proofs.Counts.{below_cut, capacity_push}
use Rattle.report_parts.proofs.modules.fits.Goals as goal

pub returns : goal.returns
returns c =
    let modules = c.args.link.now.modules in
    let sofar = c.args.sofar.now in
    let none : Module = record { capacity = 0; cost = 0 } in
    let added = (get_or modules (length sofar) none).capacity * c.args.count in
    let before = c.args.link.now.fixed + modules_capacity modules sofar in
    let r : c.capped.result ≡ min (c.capacity.result + added) (2 ^ 46) =
    subst (λ (ms : List Module). c.capped.result ≡ min (c.capacity.result + (get_or ms (length sofar) none).capacity * c.args.count) (2 ^ 46)) c.items.ensures c.capped.ensures in
    let s : c.capped.result ≡ min (min before (2 ^ 46) + added) (2 ^ 46) = subst (λ (k : ℕ). c.capped.result ≡ min (k + added) (2 ^ 46)) c.capacity.ensures r in
    let p = capacity_push modules sofar (get_or modules (length sofar) none) c.args.count (slice_get-get_or modules (length sofar) none c.requires) in
    below_cut before added (2 ^ 46) c.capped.result s ∙ ap (λ (k : ℕ). nat_lt k (2 ^ 46)) (omega (arith, p))
