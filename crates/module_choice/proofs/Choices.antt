-- counts of one kind of module, and the best kind
use Rattle.std.proofs.Common.{◌≡◌, ℕ, zero, suc, ◌+◌, ◌*◌, ◌^◌, ◌<◌, ◌≤◌, true, false, cond, nat_lt, List, [], ◌∷◌, All, Err, IfOk, Ok, Result, Some, get_or, set, replicate, length, refl, sym, ◌∙◌, ap, subst, arith, sum_by, count_by, zip, slice_get, ⊎_elim, inr, get_or-set_same, get_or-set_other, length-set, lt-ltb, mul-le-mul_left}
use Rattle.net_core.proofs.Library.{sum_by-cons, get_or-replicate, length-replicate, cases_eq, cases_lt, slice_get_within, all_at}
use Rattle.plan_terms.specs.Terms.{Module, IsModule, modules_cost, AreOfOneKind, IsFewSteps, Reaches}
use Rattle.module_choice.{specs.inner.Cheapest.AreCheapest, specs.inner.Kinds.IsBestKind, specs.declared.covers.Kind.Kind, proofs.Numbers.one_if}

-- what follows from an answer
pub answers_also : {A E : Type 0} {P Q : A → Type 0} (answer : Result A E) → ((x : A) → P x → Q x) → IfOk answer P → IfOk answer Q
answers_also (Ok x) more is = more x is
answers_also (Err e) more is = tt

-- a number for each kind times its count, added up
abbrev pub value : (Module → ℕ) → List Module → List ℕ → ℕ
value f modules counts = sum_by (λ p. f p.0 * p.1) (zip modules counts)

pub value-cons : (f : Module → ℕ) (m : Module) (ms : List Module) (c : ℕ) (cs : List ℕ) → value f (m ∷ ms) (c ∷ cs) ≡ f m * c + value f ms cs
value-cons f m ms c cs = sum_by-cons (λ (p : Module × ℕ). f p.0 * p.1) (m, c) (zip ms cs)

one-suc : (c : ℕ) → one_if (nat_lt 0 (suc c)) ≡ 1
one-suc c = let t : nat_lt 0 (suc c) ≡ true = lt-ltb 0 (suc c) (omega arith) in ap one_if t

positive-cons : (c : ℕ) (cs : List ℕ) → count_by (λ n. nat_lt 0 n) (c ∷ cs) ≡ one_if (nat_lt 0 c) + count_by (λ n. nat_lt 0 n) cs
positive-cons c cs = sum_by-cons (λ (n : ℕ). cond (nat_lt 0 n) 1 0) c cs

-- where no count is above 0, the sum is 0
value-none : (f : Module → ℕ) (ms : List Module) (cs : List ℕ) → count_by (λ n. nat_lt 0 n) cs ≤ 0 → value f ms cs ≡ 0
value-none f [] cs h = refl
value-none f (m ∷ ms) [] h = refl
value-none f (m ∷ ms) (zero ∷ cs) h =
    let rest : count_by (λ n. nat_lt 0 n) cs ≤ 0 = omega (arith, positive-cons zero cs, h) in
    omega (arith, value-cons f m ms zero cs, value-none f ms cs rest)
value-none f (m ∷ ms) (suc c ∷ cs) h = absurd (omega (arith, positive-cons (suc c) cs, one-suc c, h))

-- the sum of no modules
pub value-zeros : (f : Module → ℕ) (ms : List Module) (n : ℕ) → value f ms (replicate n 0) ≡ 0
value-zeros f [] n = refl
value-zeros f (m ∷ ms) zero = refl
value-zeros f (m ∷ ms) (suc n) = omega (arith, value-cons f m ms 0 (replicate n 0), value-zeros f ms n)

positive-zeros : (n : ℕ) → count_by (λ n. nat_lt 0 n) (replicate n 0) ≡ 0
positive-zeros zero = refl
positive-zeros (suc n) = omega (arith, positive-cons 0 (replicate n 0), positive-zeros n)

-- the sum of modules of one kind
value-one : (f : Module → ℕ) (ms : List Module) (at c : ℕ) (m : Module) → slice_get ms at ≡ Some m → value f ms (set (replicate (length ms) 0) at c) ≡ f m * c
value-one f [] at c m h = absurd (cc)
value-one f (k ∷ ms) zero c m h =
    let same : k ≡ m = cc h in
    omega (arith, value-cons f k ms c (replicate (length ms) 0), value-zeros f ms (length ms), ap (λ x. f x * c) same)
value-one f (k ∷ ms) (suc at) c m h =
    omega (arith, value-cons f k ms 0 (set (replicate (length ms) 0) at c), value-one f ms at c m h)

positive-one : (n at c : ℕ) → count_by (λ n. nat_lt 0 n) (set (replicate n 0) at c) ≤ 1
positive-one zero at c = omega arith
positive-one (suc n) zero c =
    let head : one_if (nat_lt 0 c) ≤ 1 = elim (nat_lt 0 c) as (λ b. one_if b ≤ 1) [ true ↦ omega arith | false ↦ omega arith ] in
    omega (arith, positive-cons c (replicate n 0), positive-zeros n, head)
positive-one (suc n) (suc at) c = omega (arith, positive-cons 0 (set (replicate n 0) at c), positive-one n at c)

-- What costs at most any number of modules of any one kind that reach the need, costs at most any counts of one kind that do.
bounded : (need bound : ℕ) (ms : List Module) (cs : List ℕ) → 0 < need → ((k c : ℕ) (m : Module) → slice_get ms k ≡ Some m → need ≤ m.capacity * c → bound ≤ m.cost * c) → count_by (λ n. nat_lt 0 n) cs ≤ 1 → need ≤ value (λ m. m.capacity) ms cs → bound ≤ value (λ m. m.cost) ms cs
bounded need bound [] cs some each kind reach = absurd (omega arith)
bounded need bound (m ∷ ms) [] some each kind reach = absurd (omega arith)
bounded need bound (m ∷ ms) (zero ∷ cs) some each kind reach =
    let rest : bound ≤ value (λ m. m.cost) ms cs =
    bounded need bound ms cs some (λ k c x at enough. each (suc k) c x at enough) (omega (arith, positive-cons zero cs, kind)) (omega (arith, value-cons (λ m. m.capacity) m ms zero cs, reach)) in
    omega (arith, rest, value-cons (λ m. m.cost) m ms zero cs)
bounded need bound (m ∷ ms) (suc c ∷ cs) some each kind reach =
    let none : count_by (λ n. nat_lt 0 n) cs ≤ 0 = omega (arith, positive-cons (suc c) cs, one-suc c, kind) in
    let enough : need ≤ m.capacity * suc c = omega (arith, value-cons (λ m. m.capacity) m ms (suc c) cs, value-none (λ m. m.capacity) ms cs none, reach) in
    omega (arith, each zero (suc c) m refl enough, value-cons (λ m. m.cost) m ms (suc c) cs, value-none (λ m. m.cost) ms cs none)

pub same_at : (ms : List Module) (j : ℕ) (m n : Module) → slice_get ms j ≡ Some m → slice_get ms j ≡ Some n → m ≡ n
same_at ms j m n a b = cc (a, b)

-- as many modules as the need reach it
factor_reaches : (capacity need : ℕ) → 0 < capacity → need ≤ capacity * need
factor_reaches zero need some = absurd (omega arith)
factor_reaches (suc n) need some = omega arith

-- a need wants modules
needs_some : (capacity need count : ℕ) → 0 < need → need ≤ capacity * count → 0 < count
needs_some capacity need zero some reaches = absurd (omega arith)
needs_some capacity need (suc c) some reaches = omega arith

-- the count of the best kind reaches the need
best_reaches : (ms : List Module) (need : ℕ) (kind : Kind) → IsBestKind ms need kind → Reaches ms need (set (replicate (length ms) 0) kind.at kind.count)
best_reaches ms need kind best = record {
  shape = length-set (replicate (length ms) 0) kind.at kind.count ∙ length-replicate (length ms) 0;
  reached = omega (arith, value-one (λ m. m.capacity) ms kind.at kind.count best.module_at best.is, best.reaches);
}

-- no counts of one kind that reach the need cost less
best_least : (ms : List Module) (need : ℕ) (kind : Kind) (others : List ℕ) → 0 < need → IsBestKind ms need kind → AreOfOneKind others → Reaches ms need others → modules_cost ms (set (replicate (length ms) 0) kind.at kind.count) ≤ modules_cost ms others
best_least ms need kind others some best kinds reaches =
    omega (arith, value-one (λ m. m.cost) ms kind.at kind.count best.module_at best.is, bounded need (best.module_at.cost * kind.count) ms others some (λ k c m is enough. best.least k m c is enough) kinds reaches.reached)

-- counts of one kind are small where that one is
one-below : (n at count limit : ℕ) → count < limit → All (λ c. c < limit) (set (replicate n 0) at count)
one-below n at count limit small k d lt = ⊎_elim
    (λ same. let here = get_or-set_same (replicate n 0) k count d (omega (arith, lt, length-set (replicate n 0) at count)) in
    subst (λ i. get_or (set (replicate n 0) i count) k d < limit) same (omega (arith, here, small)))
    (λ other. let there = get_or-set_other (replicate n 0) at k count d other in
    let none = get_or-replicate n k 0 d (omega (arith, lt, length-set (replicate n 0) at count, length-replicate {A = ℕ} n 0)) in
    omega (arith, there, none, small))
    (cases_eq k at)

-- no fewer modules reach the need, so their capacity passes it by less than one module
pub fewest-capacity : (capacity need count : ℕ) → 0 < count → ((c : ℕ) → need ≤ capacity * c → count ≤ c) → capacity * count < need + capacity
fewest-capacity capacity need zero some fewest = absurd (omega arith)
fewest-capacity capacity need (suc c) some fewest = ⊎_elim
    (λ short. omega (arith, short))
    (λ enough. omega (arith, fewest c enough))
    (cases_lt (capacity * c) need)

-- the counts for a need of more than few steps
pub best_cheapest : (ms : List Module) (need : ℕ) (kind : Kind) → (IsFewSteps ms need → ⊥) → 0 < need → need < 2 ^ 44 → All IsModule ms → IsBestKind ms need kind → AreCheapest ms need (set (replicate (length ms) 0) kind.at kind.count)
best_cheapest ms need kind many some limit sound best =
    let is : IsModule best.module_at = all_at IsModule ms kind.at best.module_at sound best.is in
    let fewest : kind.count ≤ need = best.fewest need (factor_reaches best.module_at.capacity need is.carries) in
    record {
      reaches = best_reaches ms need kind best;
      may = inr (positive-one (length ms) kind.at kind.count);
      least = λ others may reach. ⊎_elim (λ few. absurd (many few)) (λ one. best_least ms need kind others some best one reach) may;
      none = λ zero'. absurd (omega (arith, zero', some));
      few = one-below (length ms) kind.at kind.count (2 ^ 44) (omega (arith, fewest, limit));
      narrow = omega (arith, value-one (λ m. m.capacity) ms kind.at kind.count best.module_at best.is, fewest-capacity best.module_at.capacity need kind.count (needs_some best.module_at.capacity need kind.count some best.reaches) best.fewest, limit, is.capacity);
    }

-- this number of modules reaches the need, and no smaller one does
pub record IsEnough (capacity need count : ℕ) : Type 0 where
  pub enough : need ≤ capacity * count
  pub least : (c : ℕ) → need ≤ capacity * c → count ≤ c

-- the best of the first k kinds
pub record IsBestSoFar (modules : List Module) (k need : ℕ) (kind : Kind) : Type 0 where
  pub module_at : Module
  pub is : slice_get modules kind.at ≡ Some module_at
  pub enough : IsEnough module_at.capacity need kind.count
  pub least : (j : ℕ) (m : Module) (c : ℕ) → j < k → slice_get modules j ≡ Some m → need ≤ m.capacity * c → module_at.cost * kind.count ≤ m.cost * c

-- fewer modules of a kind cost no more
fewer_cost : (m n : Module) (need count c : ℕ) → m ≡ n → IsEnough m.capacity need count → need ≤ n.capacity * c → m.cost * count ≤ n.cost * c
fewer_cost m n need count c same enough reach =
    let reach' : need ≤ m.capacity * c = subst (λ x. need ≤ x.capacity * c) (sym same) reach in
    let less : m.cost * count ≤ m.cost * c = mul-le-mul_left m.cost (enough.least c reach') in
    subst (λ x. m.cost * count ≤ x.cost * c) same less

-- one more kind, which is no better
pub best_stays : (ms : List Module) (k need other : ℕ) (kind : Kind) (a b : Module) → slice_get ms kind.at ≡ Some a → slice_get ms k ≡ Some b → IsBestSoFar ms k need kind → IsEnough b.capacity need other → a.cost * kind.count ≤ b.cost * other → IsBestSoFar ms (k + 1) need kind
best_stays ms k need other kind a b at_is k_is best enough less = record {
  module_at = best.module_at;
  is = best.is;
  enough = best.enough;
  least = λ j x c lt is reach. ⊎_elim
      (λ eq. let one : a ≡ best.module_at = same_at ms kind.at a best.module_at at_is best.is in
      let more : b.cost * other ≤ x.cost * c = fewer_cost b x need other c (same_at ms k b x k_is (subst (λ i. slice_get ms i ≡ Some x) eq is)) enough reach in
      let same : a.cost * kind.count ≡ best.module_at.cost * kind.count = ap (λ y. y.cost * kind.count) one in
      omega (arith, more, less, same))
      (λ ne. best.least j x c (omega (arith, lt, ne)) is reach)
      (cases_eq j k);
}

-- one more kind, which is better
pub best_moves : (ms : List Module) (k need : ℕ) (kind new : Kind) (a b : Module) → slice_get ms kind.at ≡ Some a → slice_get ms k ≡ Some b → IsBestSoFar ms k need kind → new.at ≡ k → IsEnough b.capacity need new.count → b.cost * new.count < a.cost * kind.count → IsBestSoFar ms (k + 1) need new
best_moves ms k need kind new a b at_is k_is best new_at enough less = record {
  module_at = b;
  is = subst (λ i. slice_get ms i ≡ Some b) (sym new_at) k_is;
  enough = enough;
  least = λ j x c lt is reach. ⊎_elim
      (λ eq. fewer_cost b x need new.count c (same_at ms k b x k_is (subst (λ i. slice_get ms i ≡ Some x) eq is)) enough reach)
      (λ ne. let one : a ≡ best.module_at = same_at ms kind.at a best.module_at at_is best.is in
      let same : a.cost * kind.count ≡ best.module_at.cost * kind.count = ap (λ y. y.cost * kind.count) one in
      let more : best.module_at.cost * kind.count ≤ x.cost * c = best.least j x c (omega (arith, lt, ne)) is reach in
      omega (arith, more, less, same))
      (cases_eq j k);
}

-- the best of all kinds
pub best_of_all : (ms : List Module) (k need : ℕ) (kind : Kind) → length ms ≤ k → IsBestSoFar ms k need kind → IsBestKind ms need kind
best_of_all ms k need kind all best = record {
  module_at = best.module_at;
  is = best.is;
  reaches = best.enough.enough;
  fewest = best.enough.least;
  least = λ j m c is reach. best.least j m c (omega (arith, slice_get_within ms j m is)) is reach;
}
