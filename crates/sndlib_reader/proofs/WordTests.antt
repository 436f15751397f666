-- What a word says, and which words say it.
use Rattle.std.proofs.Common.{◌≡◌, ◌≢◌, ℕ, ◌+◌, ◌*◌, ◌^◌, ◌<◌, ◌≤◌, ◌==◌, ◌||◌, Bool, true, false, cond, nat_lt, List, [], length, get_or, AllPairs, None, Some, Result, Ok, Err, IsTrue, refl, sym, ap, subst, ◌∙◌, inl, inr, arith, codes, ltb-true, ltb-false, le-ltb, lt-ltb, ne_eqb}
use Rattle.net_core.{proofs.Library.{eqb-false, same_is}, specs.declared.network.Module.Module, specs.declared.places.Places.Places, specs.Terms.{are_same, is_named}}
use Rattle.snd_tokens.{specs.declared.amounts.NumberFault.TheVariants.{NotANumber, TooLarge}, specs.Terms.{amount_of, money_of, units, are_digits}}
use Rattle.text_kit.{specs.Terms.sound, proofs.Lemmas.{amount_again, amount_takes, number_takes, IsPlaceIn, place_again, place_takes, if_ok, ok_is, unless_ok}}
use Rattle.sndlib_reader.{specs.declared.fault.ReadKind.ReadKind, specs.declared.fault.ReadKind.TheVariants.{Limit, Number, UnknownName, ZeroModule}, specs.Spelling.IsHops, specs.Reading.{path_name, known_name, node_named, apart, other_node, amount, carried, capacity, wanted, need, hops}}
use Rattle.sndlib_reader.specs.declared.fault.Limited.TheVariants as limits

-- ---- names

pub path_name_takes : (w : List ℕ) (x : Unit {0}) → path_name w ≡ Ok x → length w ≤ 255
path_name_takes w x e =
    elim (nat_lt 255 (length w)) as (λ v. nat_lt 255 (length w) ≡ v → (let r : Result (Unit {0}) ReadKind = sound tt (cond v (Some (Limit limits.Name)) None) in r ≡ Ok x) → length w ≤ 255) [
      | true ↦ λ s h. absurd cc
      | false ↦ λ s h. ltb-false 255 (length w) s
    ] refl e

pub path_name_again : (w : List ℕ) → length w ≤ 255 → path_name w ≡ Ok tt
path_name_again w short = rw (le-ltb 255 (length w) short) refl

pub known_takes : (names : List (List ℕ)) (w : List ℕ) (x : Unit {0}) → known_name names w ≡ Ok x → (length w ≤ 255) × IsTrue (is_named (λ n. n) w names)
known_takes names w x e =
    let t = unless_ok (nat_lt 255 (length w)) (Limit limits.Name) (cond (is_named (λ n. n) w names) (Ok tt) (Err UnknownName)) x e in
    (ltb-false 255 (length w) t.0, (if_ok (is_named (λ n. n) w names) UnknownName (Ok tt) x t.1).0)

pub known_again : (names : List (List ℕ)) (w : List ℕ) → (length w ≤ 255) × IsTrue (is_named (λ n. n) w names) → known_name names w ≡ Ok tt
known_again names w is = rw (le-ltb 255 (length w) is.0, is.1) refl

-- ---- nodes by name

apart_takes : (kind : ReadKind) (a : ℕ) (r : Result ℕ ReadKind) (b : ℕ) → apart kind a r ≡ Ok b → (a ≢ b) × (r ≡ Ok b)
apart_takes kind a (Ok c) b e =
    let t = unless_ok (a == c) kind (Ok c) b e in
    (subst (λ (x : ℕ). a ≢ x) (ok_is {E = ReadKind} c b t.1) (eqb-false a c t.0), t.1)
apart_takes kind a (Err k) b e = absurd cc

-- a node of these, and another one than a
abbrev pub IsNodeIn : List (List ℕ) → ℕ → Type 0
IsNodeIn nodes = IsPlaceIn (λ n. n) (Limit limits.Name) UnknownName nodes []

module _ (nodes : List (List ℕ)) where
  pub node_takes : (w : List ℕ) (a : ℕ) → node_named nodes w ≡ Ok a → IsNodeIn nodes a × (w ≡ get_or nodes a [])
  node_takes = place_takes (λ n. n) (Limit limits.Name) UnknownName nodes []

  pub other_takes : (kind : ReadKind) (a : ℕ) (w : List ℕ) (b : ℕ) → other_node kind nodes a w ≡ Ok b → ((a ≢ b) × IsNodeIn nodes b) × (w ≡ get_or nodes b [])
  other_takes kind a w b e =
      let t = apart_takes kind a (node_named nodes w) b e in
      let n = node_takes w b t.1 in
      ((t.0, n.0), n.1)

  pub other_again : (kind : ReadKind) → AllPairs (λ x y. x ≢ y) nodes → (a : ℕ) (w : List ℕ) (b : ℕ) → (a ≢ b) × IsNodeIn nodes b → w ≡ get_or nodes b [] → other_node kind nodes a w ≡ Ok b
  other_again kind pairs a w b is same =
      ap (apart kind a) (place_again (λ n. n) (Limit limits.Name) UnknownName nodes [] pairs w b is.1 same) ∙ rw (ne_eqb a b is.0) refl

-- ---- numbers

-- a capacity that a further module may have
abbrev pub IsCapacity : List Module → ℕ → Type 0
IsCapacity sofar n = (length sofar < 16) × (0 < n) × (n < 2 ^ 40)

carried_takes : (sofar : List Module) (r : Result ℕ ReadKind) (n : ℕ) → carried sofar r ≡ Ok n → (r ≡ Ok n) × (0 < n) × (length sofar < 16)
carried_takes sofar (Ok k) n e =
    let a = unless_ok (k == 0) ZeroModule (cond (nat_lt (length sofar) 16) (Ok k) (Err (Limit limits.Modules))) n e in
    let b = if_ok (nat_lt (length sofar) 16) (Limit limits.Modules) (Ok k) n a.1 in
    let is : k ≡ n = ok_is {E = ReadKind} k n b.1 in
    let some = eqb-false k 0 a.0 in
    (b.1, subst (λ (i : ℕ). 0 < i) is (omega (arith, some)), ltb-true (length sofar) 16 b.0)
carried_takes sofar (Err k) n e = absurd cc

pub capacity_takes : (p : Places) (sofar : List Module) (w : List ℕ) (n : ℕ) → capacity p sofar w ≡ Ok n → IsCapacity sofar n × (money_of p w ≡ Ok n)
capacity_takes p sofar w n e =
    let c = carried_takes sofar (amount p w) n e in
    let a = amount_takes Number p w n c.0 in
    ((c.2, c.1, a.0), a.1)

pub capacity_again : (p : Places) (sofar : List Module) (w : List ℕ) (n : ℕ) → IsCapacity sofar n → money_of p w ≡ Ok n → capacity p sofar w ≡ Ok n
capacity_again p sofar w n is e =
    let some = is.1 in
    ap (carried sofar) (amount_again Number p w n is.2 e) ∙ rw (ne_eqb n 0 (λ z. omega (arith, z, some)), lt-ltb (length sofar) 16 is.0) refl

-- a need that was read
pub record IsNeed (p : Places) (before units : ℕ) (w : List ℕ) (n : ℕ) : Type 0 where
  pub each : ℕ
  pub amount_is : amount_of p w ≡ Ok each
  pub need_is : n ≡ units * each
  pub small : n < 2 ^ 40
  pub below : before + n < 2 ^ 44

wanted_takes : (p : Places) (before units : ℕ) (w : List ℕ) (r : Result ℕ ReadKind) (n : ℕ) → amount p w ≡ r → wanted before units r ≡ Ok n → IsNeed p before units w n
wanted_takes p before units w (Ok each) n read e =
    let s = if_ok (nat_lt (units * each) (2 ^ 40)) (Number TooLarge) (cond (nat_lt (before + units * each) (2 ^ 44)) (Ok (units * each)) (Err (Limit limits.Total))) n e in
    let t = if_ok (nat_lt (before + units * each) (2 ^ 44)) (Limit limits.Total) (Ok (units * each)) n s.1 in
    let is : units * each ≡ n = ok_is {E = ReadKind} (units * each) n t.1 in
    record {
      each = each;
      amount_is = number_takes Number (amount_of p w) each read;
      need_is = sym is;
      small = subst (λ (k : ℕ). k < 2 ^ 40) is (ltb-true (units * each) (2 ^ 40) s.0);
      below = subst (λ (k : ℕ). before + k < 2 ^ 44) is (ltb-true (before + units * each) (2 ^ 44) t.0);
    }
wanted_takes p before units w (Err k) n read e = absurd cc

pub need_takes : (p : Places) (before units : ℕ) (w : List ℕ) (n : ℕ) → need p before units w ≡ Ok n → IsNeed p before units w n
need_takes p before units w n e = wanted_takes p before units w (amount p w) n refl e

pub need_again : (p : Places) (before units : ℕ) (w : List ℕ) (each n : ℕ) → amount_of p w ≡ Ok each → n ≡ units * each → n < 2 ^ 40 → before + n < 2 ^ 44 → need p before units w ≡ Ok n
need_again p before units w each n is need_is small below =
    let s : nat_lt (units * each) (2 ^ 40) ≡ true = rw (← need_is) (lt-ltb n (2 ^ 40) small) in
    let t : nat_lt (before + units * each) (2 ^ 44) ≡ true = rw (← need_is) (lt-ltb (before + n) (2 ^ 44) below) in
    rw (is, s, t, need_is) refl

hops_if : (w : List ℕ) (same digits : Bool) (x : Unit {0}) → are_same w (codes "UNLIMITED") ≡ same → are_digits w ≡ digits → (let r : Result (Unit {0}) ReadKind = cond (same || digits) (Ok tt) (Err (Number NotANumber)) in r ≡ Ok x) → IsHops w
hops_if w true digits x s d e = inl (same_is w (codes "UNLIMITED") s)
hops_if w false true x s d e = inr d
hops_if w false false x s d e = absurd cc

pub hops_takes : (w : List ℕ) (x : Unit {0}) → hops w ≡ Ok x → IsHops w
hops_takes w x e = hops_if w (are_same w (codes "UNLIMITED")) (are_digits w) x refl refl e

either_true : (a : Bool) → (a || true) ≡ true
either_true true = refl
either_true false = refl

pub hops_again : (w : List ℕ) → IsHops w → hops w ≡ Ok tt
hops_again w (inl is) = rw is refl
hops_again w (inr digits) = rw (digits, either_true (are_same w (codes "UNLIMITED"))) refl
