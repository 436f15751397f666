-- sums of flows, one flow after another
use Rattle.std.proofs.Common.{◌≡◌, ℕ, ◌+◌, ◌*◌, ◌<◌, ◌==◌, Bool, true, false, cond, if◌then◌else◌, List, get_or, length, take, sym, ap, subst, ◌∙◌, arith}
use Rattle.net_core.proofs.Library.{sum_by_more}
use Rattle.plan_terms.specs.Terms.{LinkId, Flow, sent}
use Rattle.module_choice.specs.inner.Routes.{times, weight}
use Rattle.plan_checker.{specs.inner.Mixed.{AreMixed, IsMixed}, specs.declared.mixed.Mixed.Mixed}

-- other sums that are equal
pub mixed_same : (den : ℕ) (n m : ℕ → ℕ) (ms : List Mixed) → ((k : ℕ) → n k ≡ m k) → AreMixed den n ms → AreMixed den m ms
mixed_same den n m ms same are k d lt = subst (λ i. IsMixed den i (get_or ms k d)) (same k) (are k d lt)

-- a flow more
pub sent_more : (flows : List Flow) (i : ℕ) (f : Flow) (k : ℕ) → i < length flows → f ≡ get_or flows i f → sent (take i flows) k + (if f.demand == k then f.num else 0) ≡ sent (take (i + 1) flows) k
sent_more flows i f k lt is =
    ap (λ (h : Flow). sent (take i flows) k + (if h.demand == k then h.num else 0)) is
    ∙ sym (sum_by_more (λ (h : Flow). (if h.demand == k then h.num else 0)) flows i f lt)

pub weight_more : (flows : List Flow) (i : ℕ) (f : Flow) (e : ℕ) → i < length flows → f ≡ get_or flows i f → weight (take i flows) e + f.num * times e f.path ≡ weight (take (i + 1) flows) e
weight_more flows i f e lt is =
    ap (λ (h : Flow). weight (take i flows) e + h.num * times e h.path) is
    ∙ sym (sum_by_more (λ (h : Flow). h.num * times e h.path) flows i f lt)

once_or_not : (b : Bool) (a m t : ℕ) → a + m * t + (if b then m else 0) ≡ a + m * (t + cond b 1 0)
once_or_not true a m t = omega arith
once_or_not false a m t = omega arith

-- a link more of a path
pub times_more : (path : List LinkId) (i : ℕ) (d : LinkId) (e a m : ℕ) → i < length path → a + m * times e (take i path) + (if (get_or path i d).0 == e then m else 0) ≡ a + m * times e (take (i + 1) path)
times_more path i d e a m lt =
    once_or_not ((get_or path i d).0 == e) a m (times e (take i path))
    ∙ sym (ap (λ t. a + m * t) (sum_by_more (λ (y : LinkId). cond (y.0 == e) 1 0) path i d lt))
