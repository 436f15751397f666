-- tables of least costs: one entry more, and counts that are read from a table
use Rattle.std.proofs.Common.{◌≡◌, ℕ, zero, suc, ◌+◌, ◌-◌, ◌*◌, ◌^◌, ◌<◌, ◌≤◌, ◌⊎◌, List, [], ◌∷◌, ◌++◌, All, Some, get_or, set, replicate, length, length-append, refl, sym, ◌∙◌, ap, subst, arith, slice_get, ⊎_elim, get_or-set_same, get_or-set_other, length-set}
use Rattle.net_core.proofs.Library.{get_or-replicate, length-replicate, cases_eq, slice_get_within, slice_get-get_or, all_at, get_front}
use Rattle.plan_terms.specs.Terms.{Module, IsModule, modules_capacity, modules_cost, Reaches}
use Rattle.module_choice.{specs.declared.tables.Entry.Entry, specs.inner.Tables.{AreLeastCosts, AreTaken, IsLeastCost, IsNextEntry, IsOneMore}, proofs.Carrying.get_cases, proofs.Choices.{value, value-cons, value-zeros}}

-- the sum with another count of one kind
value-set : (f : Module → ℕ) (ms : List Module) (cs : List ℕ) (i v : ℕ) (m : Module) → slice_get ms i ≡ Some m → i < length cs → value f ms (set cs i v) + f m * get_or cs i 0 ≡ value f ms cs + f m * v
value-set f [] cs i v m at lt = absurd (cc)
value-set f (k ∷ ms) [] i v m at lt = absurd (omega arith)
value-set f (k ∷ ms) (c ∷ cs) zero v m at lt =
    let same : k ≡ m = cc at in
    omega (arith, value-cons f k ms v cs, value-cons f k ms c cs, ap (λ x. f x * v) same, ap (λ x. f x * c) same)
value-set f (k ∷ ms) (c ∷ cs) (suc i) v m at lt =
    omega (arith, value-cons f k ms c (set cs i v), value-cons f k ms c cs, value-set f ms cs i v m at (omega (arith, lt)))

-- one module more of a kind
value-more : (f : Module → ℕ) (ms : List Module) (cs : List ℕ) (i : ℕ) (m : Module) → slice_get ms i ≡ Some m → i < length cs → value f ms (set cs i (get_or cs i 0 + 1)) ≡ value f ms cs + f m
value-more f ms cs i m at lt = omega (arith, value-set f ms cs i (get_or cs i 0 + 1) m at lt)

-- one module less of a kind
value-less : (f : Module → ℕ) (ms : List Module) (cs : List ℕ) (i c : ℕ) (m : Module) → slice_get ms i ≡ Some m → i < length cs → get_or cs i 0 ≡ c + 1 → value f ms (set cs i c) + f m ≡ value f ms cs
value-less f ms cs i c m at lt is = omega (arith, value-set f ms cs i c m at lt, ap (λ x. f m * x) is)

-- counts that carry something have a kind with a count
record SomeCount (ms : List Module) (cs : List ℕ) : Type 0 where
  pub kind : ℕ
  pub module_at : Module
  pub count : ℕ
  pub is : slice_get ms kind ≡ Some module_at
  pub inside : kind < length cs
  pub counted : get_or cs kind 0 ≡ count + 1

some_count : (ms : List Module) (cs : List ℕ) → 0 < value (λ m. m.capacity) ms cs → SomeCount ms cs
some_count [] cs some = absurd (omega arith)
some_count (m ∷ ms) [] some = absurd (omega arith)
some_count (m ∷ ms) (zero ∷ cs) some =
    let rest = some_count ms cs (omega (arith, some, value-cons (λ m. m.capacity) m ms zero cs)) in
    record { kind = suc rest.kind; module_at = rest.module_at; count = rest.count; is = rest.is; inside = omega (arith, rest.inside); counted = rest.counted }
some_count (m ∷ ms) (suc c ∷ cs) some = record { kind = zero; module_at = m; count = c; is = refl; inside = omega arith; counted = omega arith }

abbrev pub nothing : Entry
nothing = record { cost = 0; kind = 0 }

-- what one entry more costs is the least
pub least_next : (ms : List Module) (entries : List Entry) (x : Entry) → All IsModule ms → AreLeastCosts ms entries → IsNextEntry ms entries x → IsLeastCost ms (length entries) x.cost
least_next ms entries x sound least next =
    let n = length entries in
    let m = next.more.module_at in
    let before = least.least (n - m.capacity) next.more.rest next.more.left in
    let inside : x.kind < length before.counts = omega (arith, slice_get_within ms x.kind m next.more.is, before.reaches.shape) in
    record {
      counts = set before.counts x.kind (get_or before.counts x.kind 0 + 1);
      reaches = record {
        shape = length-set before.counts x.kind (get_or before.counts x.kind 0 + 1) ∙ before.reaches.shape;
        reached = omega (arith, value-more (λ y. y.capacity) ms before.counts x.kind m next.more.is inside, before.reaches.reached);
      };
      paid = omega (arith, value-more (λ y. y.cost) ms before.counts x.kind m next.more.is inside, before.paid, next.more.paid);
      least = λ others reaches.
          let some = some_count ms others (omega (arith, least.some, reaches.reached)) in
          let k = some.module_at in
          let is : IsModule k = all_at IsModule ms some.kind k sound some.is in
          let rest : slice_get entries (n - k.capacity) ≡ Some (get_or entries (n - k.capacity) nothing) = slice_get-get_or entries (n - k.capacity) nothing (omega (arith, is.carries, least.some)) in
          let fewer : Reaches ms (n - k.capacity) (set others some.kind some.count) = record {
            shape = length-set others some.kind some.count ∙ reaches.shape;
            reached = omega (arith, value-less (λ y. y.capacity) ms others some.kind some.count k some.is some.inside some.counted, reaches.reached);
          } in
          omega (arith, next.least some.kind k (get_or entries (n - k.capacity) nothing) some.is rest, (least.least (n - k.capacity) (get_or entries (n - k.capacity) nothing) rest).least (set others some.kind some.count) fewer, value-less (λ y. y.cost) ms others some.kind some.count k some.is some.inside some.counted);
    }

-- an entry stays what it is where the table grows
longer : (ms : List Module) (entries more : List Entry) (n : ℕ) (x : Entry) → IsOneMore ms entries n x → IsOneMore ms (entries ++ more) n x
longer ms entries more n x is = record { module_at = is.module_at; is = is.is; rest = is.rest; left = get_front entries more (n - is.module_at.capacity) is.rest is.left; paid = is.paid }

-- a cost is small where those before it are
small_next : (ms : List Module) (entries : List Entry) (x : Entry) → All IsModule ms → AreLeastCosts ms entries → IsOneMore ms entries (length entries) x → x.cost ≤ length entries * 2 ^ 40
small_next ms entries x sound least more =
    let is : IsModule more.module_at = all_at IsModule ms x.kind more.module_at sound more.is in
    omega (arith, more.paid, is.cost, is.carries, least.some, least.small (length entries - more.module_at.capacity) more.rest more.left)

-- a table with its next entry
pub table_more : (ms : List Module) (entries : List Entry) (x : Entry) → All IsModule ms → AreLeastCosts ms entries → IsNextEntry ms entries x → AreLeastCosts ms (entries ++ x ∷ [])
table_more ms entries x sound least next = record {
  some = omega (arith, length-append entries (x ∷ []));
  least = λ n y at. ⊎_elim
      (λ old. least.least n y old)
      (λ new. subst (λ i. IsLeastCost ms i y.cost) (sym new.0) (subst (λ (z : Entry). IsLeastCost ms (length entries) z.cost) (sym new.1) (least_next ms entries x sound least next)))
      (get_cases entries x y n at);
  more = λ n y some at. longer ms entries (x ∷ []) n y (⊎_elim
      (λ old. least.more n y some old)
      (λ new. subst (λ i. IsOneMore ms entries i y) (sym new.0) (subst (IsOneMore ms entries (length entries)) (sym new.1) next.more))
      (get_cases entries x y n at));
  small = λ n y at. ⊎_elim
      (λ old. least.small n y old)
      (λ new. omega (arith, small_next ms entries x sound least next.more, ap (λ (z : Entry). z.cost) new.1, new.0))
      (get_cases entries x y n at);
}

start_least : (ms : List Module) (n : ℕ) (x : Entry) → slice_get (nothing ∷ []) n ≡ Some x → IsLeastCost ms n x.cost
start_least ms zero x at =
    let same : nothing ≡ x = cc at in
    record {
      counts = replicate (length ms) 0;
      reaches = record { shape = length-replicate (length ms) 0; reached = omega arith };
      paid = value-zeros (λ m. m.cost) ms (length ms) ∙ ap (λ (y : Entry). y.cost) same;
      least = λ others reaches. omega (arith, ap (λ (y : Entry). y.cost) same);
    }
start_least ms (suc n) x at = absurd (cc)

start_more : (ms : List Module) (n : ℕ) (x : Entry) → 0 < n → slice_get (nothing ∷ []) n ≡ Some x → IsOneMore ms (nothing ∷ []) n x
start_more ms zero x some at = absurd (omega (arith, some))
start_more ms (suc n) x some at = absurd (cc)

start_small : (n : ℕ) (x : Entry) → slice_get (nothing ∷ []) n ≡ Some x → x.cost ≤ n * 2 ^ 40
start_small zero x at = let same : nothing ≡ x = cc at in omega (arith, ap (λ (y : Entry). y.cost) same)
start_small (suc n) x at = absurd (cc)

-- no modules reach no steps
pub table_start : (ms : List Module) → AreLeastCosts ms (nothing ∷ [])
table_start ms = record { some = omega arith; least = start_least ms; more = start_more ms; small = start_small }

-- counts that are read so far, with steps left
pub record AreTakenSoFar (modules : List Module) (entries : List Entry) (steps left : ℕ) (counts : List ℕ) : Type 0 where
  pub inside : left ≤ steps
  pub shape : length counts ≡ length modules
  pub paid : (x r : Entry) → slice_get entries steps ≡ Some x → slice_get entries left ≡ Some r → modules_cost modules counts + r.cost ≡ x.cost
  pub reached : steps ≤ modules_capacity modules counts + left
  pub exact : 0 < left → modules_capacity modules counts + left ≡ steps
  pub narrow : (limit : ℕ) → All (λ m. m.capacity ≤ limit) modules → modules_capacity modules counts + left ≤ steps + limit
  pub few : All (λ c. c + left ≤ steps) counts

pub taken_start : (ms : List Module) (entries : List Entry) (steps : ℕ) → AreTakenSoFar ms entries steps steps (replicate (length ms) 0)
taken_start ms entries steps =
    let cost = value-zeros (λ m. m.cost) ms (length ms) in
    let capacity = value-zeros (λ m. m.capacity) ms (length ms) in
    record {
      inside = omega arith;
      shape = length-replicate (length ms) 0;
      paid = λ x r first last. let same : x ≡ r = cc (first, last) in omega (arith, cost, ap (λ (y : Entry). y.cost) same);
      reached = omega (arith, capacity);
      exact = λ some. omega (arith, capacity);
      narrow = λ limit each. omega (arith, capacity);
      few = λ i d lt. omega (arith, get_or-replicate (length ms) i 0 d (omega (arith, lt, length-replicate {A = ℕ} (length ms) 0)));
    }

-- what holds of each count after one has been raised
few_more : (cs : List ℕ) (i steps left after : ℕ) → i < length cs → after < left → All (λ c. c + left ≤ steps) cs → All (λ c. c + after ≤ steps) (set cs i (get_or cs i 0 + 1))
few_more cs i steps left after inside less few k d lt = ⊎_elim
    (λ same. let here = get_or-set_same cs i (get_or cs i 0 + 1) d inside in
    subst (λ j. get_or (set cs i (get_or cs i 0 + 1)) j d + after ≤ steps) (sym same) (omega (arith, here, less, few i 0 inside)))
    (λ other. omega (arith, get_or-set_other cs i k (get_or cs i 0 + 1) d other, less, few k d (omega (arith, lt, length-set cs i (get_or cs i 0 + 1)))))
    (cases_eq k i)

-- one module more
pub taken_more : (ms : List Module) (entries : List Entry) (steps left after : ℕ) (cs : List ℕ) (x : Entry) (m : Module) → All IsModule ms → AreLeastCosts ms entries → 0 < left → slice_get entries left ≡ Some x → slice_get ms x.kind ≡ Some m → after ≡ left - m.capacity → AreTakenSoFar ms entries steps left cs → AreTakenSoFar ms entries steps after (set cs x.kind (get_or cs x.kind 0 + 1))
taken_more ms entries steps left after cs x m sound least some at is less taken =
    let more = least.more left x some at in
    let one : more.module_at ≡ m = cc (more.is, is) in
    let carries = (all_at IsModule ms x.kind m sound is).carries in
    let inside : x.kind < length cs = omega (arith, slice_get_within ms x.kind m is, taken.shape) in
    let capacity = value-more (λ y. y.capacity) ms cs x.kind m is inside in
    let cost = value-more (λ y. y.cost) ms cs x.kind m is inside in
    let rest : slice_get entries after ≡ Some more.rest = subst (λ n. slice_get entries n ≡ Some more.rest) (ap (λ (y : Module). left - y.capacity) one ∙ sym less) more.left in
    record {
      inside = omega (arith, less, taken.inside);
      shape = length-set cs x.kind (get_or cs x.kind 0 + 1) ∙ taken.shape;
      paid = λ y r first last.
          let same : more.rest ≡ r = cc (rest, last) in
          omega (arith, cost, more.paid, ap (λ (z : Module). z.cost) one, ap (λ (z : Entry). z.cost) same, taken.paid y x first at);
      reached = omega (arith, capacity, less, taken.reached);
      exact = λ some'. omega (arith, capacity, less, some', taken.exact some);
      narrow = λ limit each. omega (arith, capacity, less, taken.exact some, all_at (λ y. y.capacity ≤ limit) ms x.kind m each is);
      few = few_more cs x.kind steps left after inside (omega (arith, less, carries, some)) taken.few;
    }

-- the kind of an entry is one of the modules
pub kind_known : (ms : List Module) (entries : List Entry) (left : ℕ) → AreLeastCosts ms entries → 0 < left → left < length entries → (get_or entries left nothing).kind < length ms
kind_known ms entries left least some lt =
    let more = least.more left (get_or entries left nothing) some (slice_get-get_or entries left nothing lt) in
    slice_get_within ms (get_or entries left nothing).kind more.module_at more.is

-- the module of an entry carries something
pub kind_carries : (ms : List Module) (entries : List Entry) (left : ℕ) (d : Module) → All IsModule ms → AreLeastCosts ms entries → 0 < left → left < length entries → 0 < (get_or ms (get_or entries left nothing).kind d).capacity
kind_carries ms entries left d sound least some lt = (sound (get_or entries left nothing).kind d (kind_known ms entries left least some lt)).carries

-- a further module is taken, where the entry and its module are read from their lists
pub taken_next : (ms : List Module) (entries : List Entry) (steps left after v : ℕ) (cs : List ℕ) (d : Module) → All IsModule ms → AreLeastCosts ms entries → 0 < left → left < length entries → v ≡ get_or cs (get_or entries left nothing).kind 0 → after ≡ left - (get_or ms (get_or entries left nothing).kind d).capacity → AreTakenSoFar ms entries steps left cs → AreTakenSoFar ms entries steps after (set cs (get_or entries left nothing).kind (v + 1))
taken_next ms entries steps left after v cs d sound least some lt same less taken =
    let x = get_or entries left nothing in
    let at = slice_get-get_or entries left nothing lt in
    let is = slice_get-get_or ms x.kind d (kind_known ms entries left least some lt) in
    subst (λ n. AreTakenSoFar ms entries steps after (set cs x.kind (n + 1))) (sym same) (taken_more ms entries steps left after cs x (get_or ms x.kind d) sound least some at is less taken)

-- nothing is left
pub taken_all : (ms : List Module) (entries : List Entry) (steps left : ℕ) (cs : List ℕ) → AreLeastCosts ms entries → left ≤ 0 → AreTakenSoFar ms entries steps left cs → (x : Entry) → slice_get entries steps ≡ Some x → AreTaken ms steps x.cost cs
taken_all ms entries steps left cs least none taken x at =
    let none' : left ≡ 0 = omega (arith, none) in
    let rest : slice_get entries left ≡ Some (get_or entries left nothing) = slice_get-get_or entries left nothing (omega (arith, least.some, none)) in
    record {
      reaches = record { shape = taken.shape; reached = omega (arith, taken.reached, none) };
      paid = omega (arith, taken.paid x (get_or entries left nothing) at rest, least.small left (get_or entries left nothing) rest, none');
      few = λ i d lt. omega (arith, taken.few i d lt);
      narrow = λ limit each. omega (arith, taken.narrow limit each);
    }

-- the best of the first k kinds
pub record IsNextSoFar (modules : List Module) (entries : List Entry) (k : ℕ) (entry : Entry) : Type 0 where
  pub more : IsOneMore modules entries (length entries) entry
  pub least : (j : ℕ) (m : Module) (r : Entry) → j < k → slice_get modules j ≡ Some m → slice_get entries (length entries - m.capacity) ≡ Some r → entry.cost ≤ m.cost + r.cost

-- what one more module of the kind at k costs
abbrev pub IsCostWith : List Module → List Entry → ℕ → Module → ℕ → Type 0
IsCostWith ms entries k m cost = (slice_get ms k ≡ Some m) × ((r : Entry) → slice_get entries (length entries - m.capacity) ≡ Some r → cost ≡ m.cost + r.cost)

one_more : (ms : List Module) (entries : List Entry) (k cost : ℕ) (m : Module) → All IsModule ms → 0 < length entries → IsCostWith ms entries k m cost → IsOneMore ms entries (length entries) (record { cost = cost; kind = k })
one_more ms entries k cost m sound some with' =
    let is : IsModule m = all_at IsModule ms k m sound with'.0 in
    let at = length entries - m.capacity in
    let rest : slice_get entries at ≡ Some (get_or entries at nothing) = slice_get-get_or entries at nothing (omega (arith, is.carries, some)) in
    record { module_at = m; is = with'.0; rest = get_or entries at nothing; left = rest; paid = with'.1 (get_or entries at nothing) rest }

-- no kind costs less than what was found for it
cost_at : (ms : List Module) (entries : List Entry) (k cost : ℕ) (m n : Module) (r : Entry) → IsCostWith ms entries k m cost → slice_get ms k ≡ Some n → slice_get entries (length entries - n.capacity) ≡ Some r → cost ≡ n.cost + r.cost
cost_at ms entries k cost m n r with' is at =
    let one : m ≡ n = cc (with'.0, is) in
    subst (λ (y : Module). slice_get entries (length entries - y.capacity) ≡ Some r → cost ≡ y.cost + r.cost) one (with'.1 r) at

-- the first kind
pub next_first : (ms : List Module) (entries : List Entry) (cost : ℕ) (m : Module) → All IsModule ms → 0 < length entries → IsCostWith ms entries 0 m cost → IsNextSoFar ms entries 1 (record { cost = cost; kind = 0 })
next_first ms entries cost m sound some with' = record {
  more = one_more ms entries 0 cost m sound some with';
  least = λ j n r lt is at.
      let zero' : j ≡ 0 = omega (arith, lt) in
      omega (arith, cost_at ms entries 0 cost m n r with' (subst (λ i. slice_get ms i ≡ Some n) zero' is) at);
}

-- one more kind
pub next_more : (ms : List Module) (entries : List Entry) (k cost : ℕ) (m : Module) (best new : Entry) → All IsModule ms → 0 < length entries → IsCostWith ms entries k m cost → IsNextSoFar ms entries k best → (new ≡ best) ⊎ (new ≡ record { cost = cost; kind = k }) → (new.cost ≤ best.cost) × (new.cost ≤ cost) → IsNextSoFar ms entries (k + 1) new
next_more ms entries k cost m best new sound some with' sofar one low = record {
  more = ⊎_elim
      (λ old. subst (IsOneMore ms entries (length entries)) (sym old) sofar.more)
      (λ next. subst (IsOneMore ms entries (length entries)) (sym next) (one_more ms entries k cost m sound some with'))
      one;
  least = λ j n r lt is at. ⊎_elim
      (λ here. omega (arith, low.1, cost_at ms entries k cost m n r with' (subst (λ i. slice_get ms i ≡ Some n) here is) at))
      (λ other. omega (arith, low.0, sofar.least j n r (omega (arith, lt, other)) is at))
      (cases_eq j k);
}

-- the best of all kinds
pub next_of_all : (ms : List Module) (entries : List Entry) (k : ℕ) (best : Entry) → length ms ≤ k → IsNextSoFar ms entries k best → IsNextEntry ms entries best
next_of_all ms entries k best all sofar = record { more = sofar.more; least = λ j m r is at. sofar.least j m r (omega (arith, all, slice_get_within ms j m is)) is at }
