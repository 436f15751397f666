-- what a share gives and costs, link by link
use Rattle.std.proofs.Common.{◌≡◌, ℕ, zero, suc, ◌+◌, ◌*◌, ◌<◌, ◌⊎◌, ◌↔◌, ◌++◌, Bool, IsTrue, inl, inr, List, [], ◌∷◌, Some, All, IfOk, Result, Ok, Err, length, length-append, get_or, refl, sym, ap, subst, ◌∙◌, arith, slice_get, sum_by, ⊎_elim, ext_get_or}
use Rattle.net_core.proofs.Library.{cases_eq, sum_by_push, get_or_from_slice_get, slice_get_within, get_some}
use Rattle.plan_terms.specs.Terms.{Case, IsModule, NoMemory, Link, Module, IsUnitPair}
use Rattle.plan_report.specs.Terms.{Plan, Fractional, Share}
use Rattle.module_prices.proofs.UnitPairs.{pair_once}
use Rattle.plan_checker.specs.Shares.{AreCarried, GivesShare, IsShareOf, IsTight}

no_pair : (modules : List Module) (capacity cost : ℕ) → IsUnitPair modules capacity cost → modules ≡ [] → ⊥
no_pair [] capacity cost pair none = let lt = pair.least.one.1 in omega (arith, lt)
no_pair (m ∷ ms) capacity cost pair none = absurd (let e : suc (length ms) ≡ 0 = ap (λ (xs : List Module). length xs) none in omega (arith, e))

pairs_once : (modules : List Module) → All IsModule modules → (a b : ℕ × ℕ) → (IsUnitPair modules a.0 a.1 ⊎ ((modules ≡ []) × (a ≡ (0, 0)))) → (IsUnitPair modules b.0 b.1 ⊎ ((modules ≡ []) × (b ≡ (0, 0)))) → (a.0 ≡ b.0) × (a.1 ≡ b.1)
pairs_once modules sound a b (inl p) (inl q) = let once = pair_once modules sound a.0 a.1 b.0 b.1 p q in (once.1, once.0)
pairs_once modules sound a b (inl p) (inr q) = absurd (no_pair modules a.0 a.1 p q.0)
pairs_once modules sound a b (inr p) (inl q) = absurd (no_pair modules b.0 b.1 q p.0)
pairs_once modules sound a b (inr p) (inr q) = (ap (λ x. x.0) p.1 ∙ sym (ap (λ x. x.0) q.1), ap (λ x. x.1) p.1 ∙ sym (ap (λ x. x.1) q.1))

-- a share gives a link one capacity, at one cost
share_alike : (l : Link) (scale units n c m d : ℕ) → All IsModule l.modules → IsShareOf l scale units n c → IsShareOf l scale units m d → (n ≡ m) × (c ≡ d)
share_alike l scale units n c m d sound first second =
    let once = pairs_once l.modules sound first.pair second.pair first.is_pair second.is_pair in (
      first.gives ∙ ap (λ x. l.fixed * scale + x * units) once.0 ∙ sym second.gives,
      first.paid ∙ ap (λ x. x * units) once.1 ∙ sym second.paid,
    )

module _ (links : List Link) (sound : All (λ l. All IsModule l.modules) links) (share : Share) where
  -- and so all links
  pub share_once : (nums others : List ℕ) (cost other : ℕ) → GivesShare links share nums cost → GivesShare links share others other → (nums ≡ others) × (cost ≡ other)
  share_once nums others cost other first second = (
    ext_get_or 0 nums others (first.nums_count ∙ sym second.nums_count) (λ e lt. (alike e (omega (arith, lt, first.nums_count))).0),
    first.sum ∙ ap (λ cs. sum_by (λ c. c) cs) (ext_get_or 0 first.costs second.costs (first.costs_count ∙ sym second.costs_count) (λ e lt. (alike e (omega (arith, lt, first.costs_count))).1)) ∙ sym second.sum,
  )
    where
      alike : (e : ℕ) → e < length links → (get_or nums e 0 ≡ get_or others e 0) × (get_or first.costs e 0 ≡ get_or second.costs e 0)
      alike e lt =
          let l = get_some links e lt in
          let same : get_or links e l.0 ≡ l.0 = get_or_from_slice_get links e l.0 l.0 l.1 in
          share_alike l.0 share.scale (get_or share.units e 0) _ _ _ _ (subst (λ (x : Link). All IsModule x.modules) same (sound e l.0 lt)) (first.each e l.0 l.1) (second.each e l.0 l.1)

at_end : (xs : List ℕ) (x : ℕ) → get_or (xs ++ x ∷ []) (length xs) 0 ≡ x
at_end [] x = refl
at_end (y ∷ ys) x = at_end ys x

before_end : (xs : List ℕ) (x e : ℕ) → e < length xs → get_or (xs ++ x ∷ []) e 0 ≡ get_or xs e 0
before_end [] x e lt = absurd (omega (arith, lt))
before_end (y ∷ ys) x zero lt = refl
before_end (y ∷ ys) x (suc e) lt = before_end ys x e (omega (arith, lt))

-- the share of the first n links
pub record GivesBefore (links : List Link) (share : Share) (n : ℕ) (nums : List ℕ) (cost : ℕ) : Type 0 where
  pub costs : List ℕ
  pub nums_count : length nums ≡ n
  pub costs_count : length costs ≡ n
  pub each : (e : ℕ) (l : Link) → slice_get links e ≡ Some l → e < n → IsShareOf l share.scale (get_or share.units e 0) (get_or nums e 0) (get_or costs e 0)
  pub sum : cost ≡ sum_by (λ c. c) costs

-- a link more
pub share_more : (links : List Link) (n : ℕ) (d : Link) (share : Share) (nums : List ℕ) (cost num paid : ℕ) → n < length links
    → IsShareOf (get_or links n d) share.scale (get_or share.units n 0) num paid → GivesBefore links share n nums cost → GivesBefore links share (n + 1) (nums ++ num ∷ []) (cost + paid)
share_more links n d share nums cost num paid lt given before = record {
  costs = before.costs ++ paid ∷ [];
  nums_count = omega (arith, length-append nums (num ∷ []), before.nums_count);
  costs_count = omega (arith, length-append before.costs (paid ∷ []), before.costs_count);
  each = λ e l at less. ⊎_elim
      (λ same.
      let one : get_or links n d ≡ l = get_or_from_slice_get links n l d (subst (λ k. slice_get links k ≡ Some l) same at) in
      let here : IsShareOf l share.scale (get_or share.units n 0) (get_or (nums ++ num ∷ []) n 0) (get_or (before.costs ++ paid ∷ []) n 0) =
      subst (λ x. IsShareOf l share.scale (get_or share.units n 0) x (get_or (before.costs ++ paid ∷ []) n 0)) (sym (last nums num before.nums_count))
      (subst (λ x. IsShareOf l share.scale (get_or share.units n 0) num x) (sym (last before.costs paid before.costs_count))
      (subst (λ (k : Link). IsShareOf k share.scale (get_or share.units n 0) num paid) one given)) in
      subst (λ k. IsShareOf l share.scale (get_or share.units k 0) (get_or (nums ++ num ∷ []) k 0) (get_or (before.costs ++ paid ∷ []) k 0)) (sym same) here)
      (λ other.
      let old : e < n = omega (arith, less, other) in
      subst (λ x. IsShareOf l share.scale (get_or share.units e 0) x (get_or (before.costs ++ paid ∷ []) e 0)) (sym (earlier nums num e before.nums_count old))
      (subst (λ x. IsShareOf l share.scale (get_or share.units e 0) (get_or nums e 0) x) (sym (earlier before.costs paid e before.costs_count old)) (before.each e l at old)))
      (cases_eq e n);
  sum = ap (λ x. x + paid) before.sum ∙ sym (sum_by_push (λ c. c) before.costs paid);
}
  where
    last : (xs : List ℕ) (x : ℕ) → length xs ≡ n → get_or (xs ++ x ∷ []) n 0 ≡ x
    last xs x count = subst (λ k. get_or (xs ++ x ∷ []) k 0 ≡ x) count (at_end xs x)

    earlier : (xs : List ℕ) (x e : ℕ) → length xs ≡ n → e < n → get_or (xs ++ x ∷ []) e 0 ≡ get_or xs e 0
    earlier xs x e count old = before_end xs x e (omega (arith, count, old))

-- all links
pub share_all : (links : List Link) (share : Share) (n : ℕ) (nums : List ℕ) (cost : ℕ) → n ≡ length links → GivesBefore links share n nums cost → GivesShare links share nums cost
share_all links share n nums cost all before = record {
  costs = before.costs;
  nums_count = before.nums_count ∙ all;
  costs_count = before.costs_count ∙ all;
  each = λ e l at. before.each e l at (let lt = slice_get_within links e l at in omega (arith, lt, all));
  sum = before.sum;
}

-- whether a plan is tight, where its share costs the raw value
pub tight_by : (p : Case) (plan : Plan) (f : Fractional) (nums : List ℕ) (cost : ℕ) → All (λ l. All IsModule l.modules) p.links → GivesShare p.links f.share nums cost → cost * plan.raw_den ≡ plan.raw_num * f.share.scale
    → (r : Result Bool NoMemory) → IfOk r (λ t. IsTrue t ↔ AreCarried p f.share.scale nums f.routings) → IfOk r (λ t. IsTrue t ↔ IsTight p plan f)
tight_by p plan f nums cost sound given raw (Ok t) h = (
  λ yes. record { nums = nums; cost = cost; given = given; raw = raw; carried = h.0 yes },
  λ tight. h.1 (subst (λ ns. AreCarried p f.share.scale ns f.routings) (share_once p.links sound f.share tight.nums nums tight.cost cost tight.given given).0 tight.carried),
)
tight_by p plan f nums cost sound given raw (Err e) h = tt

pub not_tight : (p : Case) (plan : Plan) (f : Fractional) (nums : List ℕ) (cost : ℕ) → All (λ l. All IsModule l.modules) p.links → GivesShare p.links f.share nums cost → (cost * plan.raw_den ≡ plan.raw_num * f.share.scale → ⊥) → IsTight p plan f → ⊥
not_tight p plan f nums cost sound given other tight =
    other (subst (λ c. c * plan.raw_den ≡ plan.raw_num * f.share.scale) (share_once p.links sound f.share tight.nums nums tight.cost cost tight.given given).1 tight.raw)
