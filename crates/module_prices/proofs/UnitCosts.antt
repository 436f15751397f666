-- the cheapest module of a link, and the most expensive of these
use Rattle.std.{proofs.Common.{◌≡◌, ℕ, ◌+◌, ◌*◌, ◌/◌, ◌≤◌, ◌<◌, ◌⊎◌, List, [], ◌∷◌, ◌++◌, All, Any, Contains, Some, get_or, length, slice_get, inl, inr, ⊎_elim, refl, sym, ◌∙◌, ap, subst, arith}, proofs.Math.Nat.{div-le_of_le-mul, mul-le-mul_left}}
use Rattle.net_core.proofs.Library.{le_of_mul-le-mul_left, cases_eq, get_or_append_left, get_or_default, get_or_push, get_or_from_slice_get, slice_get-get_or, slice_get_within, positive_factors}
use Rattle.plan_terms.{specs.Terms.{IsModule, Link, Module, ArePriceLengths, HasLeastUnitCost, IsPriceLength}, proofs.Lemmas.smaller_ratio}
use Rattle.module_prices.specs.inner.Dearest.{ArePriced, IsDearer, IsDearestSoFar, IsGreatest, IsNoDearer}

-- what is no dearer than a module that is no dearer than a third, is no dearer than that one
pub no_dearer : (a b c : Module) → 0 < b.capacity → IsNoDearer a b → IsNoDearer b c → IsNoDearer a c
no_dearer a b c some first second =
    let one : c.capacity * (a.cost * b.capacity) ≤ c.capacity * (b.cost * a.capacity) = mul-le-mul_left c.capacity first in
    let two : a.capacity * (b.cost * c.capacity) ≤ a.capacity * (c.cost * b.capacity) = mul-le-mul_left a.capacity second in
    let all : b.capacity * (a.cost * c.capacity) ≤ b.capacity * (c.cost * a.capacity) = omega (arith, one, two) in
    le_of_mul-le-mul_left all some

-- the cheapest of the first n modules
pub record IsCheapestSoFar (modules : List Module) (n : ℕ) (m : Module) : Type 0 where
  pub one : Contains modules m
  pub before : (k : ℕ) (d : Module) → k < n → k < length modules → IsNoDearer m (get_or modules k d)

-- one more module, which isn't cheaper
pub cheapest_stays : (modules : List Module) (n : ℕ) (m d : Module) → n < length modules → IsNoDearer m (get_or modules n d) → IsCheapestSoFar modules n m → IsCheapestSoFar modules (n + 1) m
cheapest_stays modules n m d lt less c = record {
  one = c.one;
  before = λ k e in_range inside. ⊎_elim
      (λ same. subst (λ i. IsNoDearer m (get_or modules i e)) (sym same) (subst (IsNoDearer m) (get_or_default modules n d e lt) less))
      (λ other. c.before k e (omega (arith, in_range, other)) inside)
      (cases_eq k n);
}

-- one more module, which is cheaper
pub cheapest_moves : (modules : List Module) (n : ℕ) (m d : Module) → n < length modules → (get_or modules n d).cost * m.capacity < m.cost * (get_or modules n d).capacity → IsCheapestSoFar modules n m → IsCheapestSoFar modules (n + 1) (get_or modules n d)
cheapest_moves modules n m d lt less c =
    let new = get_or modules n d in
    record {
      one = (n, lt, get_or_default modules n new d lt);
      before = λ k e in_range inside. ⊎_elim
          (λ same. subst (λ i. IsNoDearer new (get_or modules i e)) (sym same) (subst (IsNoDearer new) (get_or_default modules n d e lt) (omega arith)))
          (λ other. smaller_ratio m.cost m.capacity new.cost new.capacity (get_or modules k e).cost (get_or modules k e).capacity less (c.before k e (omega (arith, in_range, other)) inside))
          (cases_eq k n);
    }

-- the cheapest is one of the modules
pub cheapest_sound : (modules : List Module) (m : Module) → All IsModule modules → HasLeastUnitCost modules m → IsModule m
cheapest_sound modules m each is = subst IsModule is.one.2 (each is.one.0 m is.one.1)

-- what is dearer than another costs something
costly : (m other : Module) → m.cost * other.capacity < other.cost * m.capacity → 0 < other.cost
costly m other less = (positive_factors other.cost m.capacity (omega (arith, less))).0

-- cheapest modules of one link cost as much per capacity
cheapest_alike : (modules : List Module) (a b : Module) → HasLeastUnitCost modules a → HasLeastUnitCost modules b → IsNoDearer a b
cheapest_alike modules a b first second = subst (IsNoDearer a) second.one.2 (first.least second.one.0 b second.one.1)

-- the other stays where it is dearer
pub dearer_stays : (modules : List Module) (other m : Module) → All IsModule modules → IsModule other → HasLeastUnitCost modules m → m.cost * other.capacity < other.cost * m.capacity → IsDearer modules other other
dearer_stays modules other m each sound is less =
    let carries : 0 < m.capacity = (cheapest_sound modules m each is).carries in
    record {
      sound = sound;
      kept = omega arith;
      here = λ o cheapest. no_dearer o m other carries (cheapest_alike modules o m cheapest is) (omega (arith, less));
      is = inl (refl, inr (costly m other less));
    }

link_again : (links : List Link) (n : ℕ) (k l : Link) → slice_get links n ≡ Some k → slice_get links n ≡ Some l → k ≡ l
link_again links n k l a b = cc (a, b)

some_link : (links : List Link) (n : ℕ) (l : Link) (m : Module) → slice_get links n ≡ Some l → HasLeastUnitCost l.modules m → Any (λ l. HasLeastUnitCost l.modules m) links
some_link links n l m at is = (n, l, slice_get_within links n l at, get_or_from_slice_get links n l l at, is)

-- the link at a place
read_link : (links : List Link) (e : ℕ) (l : Link) → e < length links → get_or links e l ≡ l → slice_get links e ≡ Some l
read_link links e l lt is = slice_get-get_or links e l lt ∙ ap Some is

-- the most expensive so far stays
dearest_kept : (links : List Link) (n : ℕ) (l : Link) (old new : Module) → slice_get links n ≡ Some l
    → ((old.cost ≡ 0) × ((e : ℕ) (l : Link) → e < n → slice_get links e ≡ Some l → l.modules ≡ [])) ⊎ Any (λ l. HasLeastUnitCost l.modules old) links
    → new ≡ old → (l.modules ≡ []) ⊎ (0 < old.cost)
    → ((new.cost ≡ 0) × ((e : ℕ) (l : Link) → e < n + 1 → slice_get links e ≡ Some l → l.modules ≡ [])) ⊎ Any (λ l. HasLeastUnitCost l.modules new) links
dearest_kept links n l old new at so_far same kept = ⊎_elim
    (λ none. ⊎_elim
    (λ empty. inl (
      ap (λ (m : Module). m.cost) same ∙ none.0,
      λ e k lt got. ⊎_elim
          (λ here. ap (λ (x : Link). x.modules) (link_again links n k l (subst (λ i. slice_get links i ≡ Some k) here got) at) ∙ empty)
          (λ other. none.1 e k (omega (arith, lt, other)) got)
          (cases_eq e n),
    ))
    (λ costs. absurd (omega (arith, costs, none.0)))
    kept)
    (λ some. inr (subst (λ m. Any (λ l. HasLeastUnitCost l.modules m) links) (sym same) some))
    so_far

-- one more link
pub dearest_more : (links : List Link) (n : ℕ) (l : Link) (old new : Module) → slice_get links n ≡ Some l → IsDearestSoFar links n old → IsDearer l.modules old new → IsDearestSoFar links (n + 1) new
dearest_more links n l old new at d more = record {
  sound = more.sound;
  before = λ e k o lt got is. ⊎_elim
      (λ same. more.here o (subst (λ (x : Link). HasLeastUnitCost x.modules o) (link_again links n k l (subst (λ i. slice_get links i ≡ Some k) same got) at) is))
      (λ other. no_dearer o old new d.sound.carries (d.before e k o (omega (arith, lt, other)) got is) more.kept)
      (cases_eq e n);
  is = ⊎_elim
      (λ stays. dearest_kept links n l old new at d.is stays.0 stays.1)
      (λ moves. inr (some_link links n l new at moves))
      more.is;
}

-- the most expensive of all links
pub dearest_greatest : (links : List Link) (m : Module) → IsDearestSoFar links (length links) m → IsGreatest links m
dearest_greatest links m d e l o at is = d.before e l o (slice_get_within links e l at) at is

-- price lengths under the most expensive of all links
pub priced_lengths : (links : List Link) (m : Module) (lengths : List ℕ) → IsDearestSoFar links (length links) m → ArePriced links m lengths → ArePriceLengths links lengths
priced_lengths links m lengths d priced = record {
  count = priced.count;
  dearest = m;
  is_dearest = λ some. record {
    some = ⊎_elim
        (λ none. absurd (some.4 (none.1 some.0 some.1 some.2 (read_link links some.0 some.1 some.2 some.3))))
        (λ is. is)
        d.is;
    greatest = dearest_greatest links m d;
  };
  each = priced.each;
}

-- no more sixteenths than there are
pub few_sixteenths : (cost capacity dear size : ℕ) → 0 < size → cost * capacity ≤ size → size ≡ dear → 16 * cost * capacity / dear ≤ 16
few_sixteenths cost capacity dear size some less same = div-le_of_le-mul dear (omega (arith, less, same))

-- one more price length
pub priced_more : (links : List Link) (dearest : Module) (lengths : List ℕ) (n : ℕ) (l : Link) (x : ℕ) → length lengths ≡ n → slice_get links n ≡ Some l → IsPriceLength dearest l.modules x
    → ((e : ℕ) (k : Link) → e < n → slice_get links e ≡ Some k → IsPriceLength dearest k.modules (get_or lengths e 0))
    → (e : ℕ) (k : Link) → e < n + 1 → slice_get links e ≡ Some k → IsPriceLength dearest k.modules (get_or (lengths ++ x ∷ []) e 0)
priced_more links dearest lengths n l x long at is before e k lt got = ⊎_elim
    (λ same. let one : k ≡ l = link_again links n k l (subst (λ i. slice_get links i ≡ Some k) same got) at in
    subst (λ (j : Link). IsPriceLength dearest j.modules (get_or (lengths ++ x ∷ []) e 0)) (sym one) (subst (IsPriceLength dearest l.modules) (sym (get_or_push lengths x 0 e (long ∙ sym same))) is))
    (λ other. let in_range : e < n = omega (arith, lt, other) in
    subst (IsPriceLength dearest k.modules) (sym (get_or_append_left lengths (x ∷ []) 0 e (omega (arith, in_range, long)))) (before e k in_range got))
    (cases_eq e n)
