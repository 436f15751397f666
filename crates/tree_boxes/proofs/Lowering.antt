-- counts that are lowered, and what they have room for
use Rattle.std.{proofs.Common.{◌≡◌, ℕ, zero, suc, ◌+◌, ◌-◌, ◌*◌, ◌^◌, ◌≤◌, ◌<◌, ◌⊎◌, inl, inr, ⊎_elim, List, [], ◌∷◌, ◌++◌, All, get_or, length, slice_index, zip, refl, ap, sym, subst, arith}, proofs.lemmas.Slice.Zip.all_zipped_more, specs.List.AllZip}
use Rattle.net_core.proofs.Library.{cases_lt, All-cons, All-head, All-nil, All-push, All-tail, sum_by-cons, get_or_append_left, get_or_default, get_or_push}
use Rattle.module_choice.proofs.Pairs.{counts_long}
use Rattle.plan_terms.specs.Terms.{AreCounts, AreWithinLimits, IsModule, Link, Module, capacities, modules_capacity}
use Rattle.plan_swaps.specs.Terms.{AreAtMost}
use Rattle.tree_boxes.specs.inner.Lowering.{HaveRoomFor, IsLoweredLink, modules_at}

-- ---- the counts of a link

capacity_more : (ms : List Module) (cs : List ℕ) (m : Module) (c : ℕ) → length cs ≡ length ms
    → modules_capacity (ms ++ m ∷ []) (cs ++ c ∷ []) ≡ modules_capacity ms cs + m.capacity * c
capacity_more [] [] m c same = omega arith
capacity_more [] (x ∷ cs) m c same = absurd (omega (arith, same))
capacity_more (k ∷ ms) [] m c same = absurd (omega (arith, same))
capacity_more (k ∷ ms) (x ∷ cs) m c same =
    omega (
      arith,
      capacity_more ms cs m c (omega (arith, same)),
      sum_by-cons (λ (p : Module × ℕ). p.0.capacity * p.1) (k, x) (zip (ms ++ m ∷ []) (cs ++ c ∷ [])),
      sum_by-cons (λ (p : Module × ℕ). p.0.capacity * p.1) (k, x) (zip ms cs),
    )

-- the first modules' counts are lowered, and so much room is missing still
pub record IsLoweredTo (modules : List Module) (counts lowered : List ℕ) (missing : ℕ) : Type 0 where
  pub fewer : AllZip ◌≤◌ lowered counts
  pub few : All (λ n. n < 2 ^ 44) lowered
  pub small : (modules_capacity modules lowered + missing < 2 ^ 44) ⊎ ((missing ≡ 0) × (modules_capacity modules lowered < 2 ^ 45))
  pub room : (modules_capacity modules counts ≡ modules_capacity modules lowered) ⊎ (missing ≡ 0)
  pub enough : 2 ^ 44 ≤ modules_capacity modules lowered + missing + 1

-- one module more
pub lowered_more : (ms : List Module) (cs ls : List ℕ) (missing : ℕ) (m : Module) (c n : ℕ) → length cs ≡ length ms → length ls ≡ length ms → IsModule m
    → IsLoweredTo ms cs ls missing → n ≤ c → n ≤ missing → m.capacity * n < missing + m.capacity → (n ≡ c) ⊎ (missing ≤ m.capacity * n)
    → IsLoweredTo (ms ++ m ∷ []) (cs ++ c ∷ []) (ls ++ n ∷ []) (missing - m.capacity * n)
lowered_more ms cs ls missing m c n same_cs same_ls sound was fewer few small room =
    let given = capacity_more ms cs m c same_cs in
    let left = capacity_more ms ls m n same_ls in
    let narrow = sound.capacity in
    let enough = was.enough in
    record {
      fewer = all_zipped_more ◌≤◌ ls cs n c was.fewer fewer;
      few = All-push (λ (k : ℕ). k < 2 ^ 44) ls n was.few (⊎_elim (λ (lt : modules_capacity ms ls + missing < 2 ^ 44). omega (arith, lt, few)) (λ h. let none = h.0 in omega (arith, none, few)) was.small);
      small = ⊎_elim
          (λ (lt : modules_capacity ms ls + missing < 2 ^ 44).
          ⊎_elim (λ (le : m.capacity * n < missing + 1). inl (omega (arith, lt, le, left))) (λ (more : missing + 1 ≤ m.capacity * n). inr (omega (arith, more), omega (arith, lt, left, small, narrow))) (cases_lt (m.capacity * n) (missing + 1)))
          (λ h.
          let none : missing ≡ 0 = h.0 in
          let nothing : n ≡ 0 = omega (arith, few, none) in
          let zero_gain : m.capacity * n ≡ m.capacity * 0 = ap (λ k. m.capacity * k) nothing in
          let low = h.1 in
          inr (omega (arith, none), omega (arith, left, low, zero_gain)))
          was.small;
      room = ⊎_elim
          (λ all. ⊎_elim
          (λ (whole : n ≡ c). inl (omega (arith, given, left, all, ap (λ k. m.capacity * k) whole)))
          (λ (met : missing ≤ m.capacity * n). inr (omega (arith, met)))
          room)
          (λ (none : missing ≡ 0). inr (omega (arith, none)))
          was.room;
      enough = omega (arith, enough, left);
    }

-- ---- the counts of all links

one_link : (l : Link) (links : List Link) (c ls : List ℕ) (counts lowered : List (List ℕ)) → HaveRoomFor (l ∷ links) (c ∷ counts) (ls ∷ lowered)
    → IsLoweredLink l.modules c ls × HaveRoomFor links counts lowered
one_link l links c ls counts lowered have = (
  have.each 0 (omega arith),
  record { count = let same = have.count in omega (arith, same); each = λ e lt. have.each (suc e) (omega (arith, lt)) },
)

pub room_at_most : (links : List Link) (counts lowered : List (List ℕ)) → AreCounts links counts → HaveRoomFor links counts lowered → AreAtMost lowered counts
room_at_most [] [] [] shape have = tt
room_at_most [] [] (x ∷ lowered) shape have = absurd (let same = have.count in omega (arith, same))
room_at_most [] (c ∷ counts) lowered shape have = absurd shape
room_at_most (l ∷ links) [] lowered shape have = absurd shape
room_at_most (l ∷ links) (c ∷ counts) [] shape have = absurd (let same = have.count in omega (arith, same))
room_at_most (l ∷ links) (c ∷ counts) (x ∷ lowered) shape have =
    let parts = one_link l links c x counts lowered have in
    (parts.0.fewer, room_at_most links counts lowered shape.1 parts.1)

few_counts : (links : List Link) (counts lowered : List (List ℕ)) → AreCounts links counts → HaveRoomFor links counts lowered → All (λ c. All (λ n. n < 2 ^ 44) c) lowered
few_counts links counts [] shape have = All-nil (λ (c : List ℕ). All (λ n. n < 2 ^ 44) c)
few_counts [] counts (x ∷ lowered) shape have = absurd (let same = have.count in omega (arith, same))
few_counts (l ∷ links) [] (x ∷ lowered) shape have = absurd shape
few_counts (l ∷ links) (c ∷ counts) (x ∷ lowered) shape have =
    let parts = one_link l links c x counts lowered have in
    All-cons (λ (c : List ℕ). All (λ n. n < 2 ^ 44) c) x lowered parts.0.few (few_counts links counts lowered shape.1 parts.1)

small_capacities : (links : List Link) (counts lowered : List (List ℕ)) → All (λ l. l.fixed < 2 ^ 40) links → AreCounts links counts → HaveRoomFor links counts lowered
    → All (λ n. n < 2 ^ 46) (capacities links lowered)
small_capacities [] counts lowered fixed shape have = All-nil (λ (n : ℕ). n < 2 ^ 46)
small_capacities (l ∷ links) counts [] fixed shape have = All-nil (λ (n : ℕ). n < 2 ^ 46)
small_capacities (l ∷ links) [] (x ∷ lowered) fixed shape have = absurd shape
small_capacities (l ∷ links) (c ∷ counts) (x ∷ lowered) fixed shape have =
    let parts = one_link l links c x counts lowered have in
    let low = parts.0.small in
    let free : l.fixed < 2 ^ 40 = All-head (λ (k : Link). k.fixed < 2 ^ 40) l links fixed in
    All-cons (λ (n : ℕ). n < 2 ^ 46) (l.fixed + modules_capacity l.modules x) (capacities links lowered) (omega (arith, low, free))
    (small_capacities links counts lowered (All-tail (λ (k : Link). k.fixed < 2 ^ 40) l links fixed) shape.1 parts.1)

pub room_limits : (links : List Link) (counts lowered : List (List ℕ)) → All (λ l. l.fixed < 2 ^ 40) links → AreCounts links counts → HaveRoomFor links counts lowered → AreWithinLimits links lowered
room_limits links counts lowered fixed shape have = record { few = few_counts links counts lowered shape have; small = small_capacities links counts lowered fixed shape have }

-- a link has room for what it had room for, or for all demands together
pub room_at : (links : List Link) (counts lowered : List (List ℕ)) (e : ℕ) → AreCounts links counts → HaveRoomFor links counts lowered
    → (slice_index (capacities links counts) e ≡ slice_index (capacities links lowered) e) ⊎ (2 ^ 44 ≤ slice_index (capacities links lowered) e + 1)
room_at [] counts lowered e shape have = inl refl
room_at (l ∷ links) [] lowered e shape have = absurd shape
room_at (l ∷ links) (c ∷ counts) [] e shape have = absurd (let same = have.count in omega (arith, same))
room_at (l ∷ links) (c ∷ counts) (x ∷ lowered) zero shape have =
    let parts = one_link l links c x counts lowered have in
    ⊎_elim (λ (same : modules_capacity l.modules c ≡ modules_capacity l.modules x). inl (ap (λ n. l.fixed + n) same)) (λ (enough : 2 ^ 44 ≤ modules_capacity l.modules x + 1). inr (omega (arith, enough))) parts.0.room
room_at (l ∷ links) (c ∷ counts) (x ∷ lowered) (suc e) shape have = room_at links counts lowered e shape.1 (one_link l links c x counts lowered have).1

-- ---- link by link

pub modules_at_get : (links : List Link) (e : ℕ) (l : Link) → e < length links → modules_at links e ≡ (get_or links e l).modules
modules_at_get [] e l lt = absurd (omega (arith, lt))
modules_at_get (k ∷ links) zero l lt = refl
modules_at_get (k ∷ links) (suc e) l lt = modules_at_get links e l (omega (arith, lt))

-- one link more
pub links_more : (links : List Link) (counts lowered : List (List ℕ)) (e : ℕ) (l : Link) (c new : List ℕ) → AreCounts links counts → e < length links → length lowered ≡ e
    → ((k : ℕ) → k < e → IsLoweredLink (modules_at links k) (get_or counts k []) (get_or lowered k [])) → IsLoweredLink (get_or links e l).modules (get_or counts e c) new
    → (k : ℕ) → k < e + 1 → IsLoweredLink (modules_at links k) (get_or counts k []) (get_or (lowered ++ new ∷ []) k [])
links_more links counts lowered e l c new shape lt long before here k less = ⊎_elim
    (λ (low : k < e).
    subst (λ (x : List ℕ). IsLoweredLink (modules_at links k) (get_or counts k []) x) (sym (get_or_append_left lowered (new ∷ []) [] k (omega (arith, low, long)))) (before k low))
    (λ (high : e ≤ k).
    let same : e ≡ k = omega (arith, high, less) in
    subst (λ i. IsLoweredLink (modules_at links i) (get_or counts i []) (get_or (lowered ++ new ∷ []) i [])) same
    (subst (λ (ms : List Module). IsLoweredLink ms (get_or counts e []) (get_or (lowered ++ new ∷ []) e [])) (sym (modules_at_get links e l lt))
    (subst (λ (x : List ℕ). IsLoweredLink (get_or links e l).modules x (get_or (lowered ++ new ∷ []) e [])) (get_or_default counts e c [] (omega (arith, lt, counts_long links counts shape)))
    (subst (λ (x : List ℕ). IsLoweredLink (get_or links e l).modules (get_or counts e c) x) (sym (get_or_push lowered new [] e long)) here))))
    (cases_lt k e)
