-- trails of legs: how they grow, what they are when they end, and what their legs take from each node
use Rattle.std.proofs.Common.{◌≡◌, ◌≢◌, ℕ, zero, suc, ◌+◌, ◌<◌, ◌≤◌, ◌⊎◌, inl, inr, ◌||◌, Bool, true, false, cond, eqb, List, [], ◌∷◌, ◌++◌, length, get_or, set, drop, ◌↔◌, get_or-set_same, get_or-set_other, ⊎_elim, refl, sym, ap, subst, ◌∙◌, arith, All, Any}
use Rattle.net_core.proofs.Library.{cases_Bool, cases_eq, AllByRecursion, All-from_recursion, All-head, All-tail}
use Rattle.plan_terms.specs.Terms.{names_link, AreDifferent, IsPath, Leads, last_node}
use Rattle.path_split.{specs.declared.leg.Leg.Leg, specs.inner.Legs.{arrives, due, is_on, leaves, leg_at, picked}, specs.inner.Trails.{AreEnough, AreSteady, Chain, Has, IsLive, IsWalk, froms, trail_links}, specs.inner.Remains.HasLeg, proofs.Picking.cond_most, proofs.Lessening.{EachHas, weight}}

-- as much is taken from what leaves a node as from what arrives there, but at the ends
pub chain_even : (legs : List Leg) (num x a : ℕ) (ks : List ℕ) (b : ℕ) → Chain legs a ks b → weight (leaves x) legs num ks + due b num x ≡ weight (arrives x) legs num ks + due a num x
chain_even legs num x a [] b chain = omega (arith, ap (λ i. due i num x) chain)
chain_even legs num x a (k ∷ ks) b chain =
    omega (arith, chain_even legs num x (leg_at legs k).to.0 ks b chain.1, ap (λ i. due i num x) chain.0)

-- a link of the trail has the amount taken off
pub named_weight : (legs : List Leg) (num e : ℕ) (ks : List ℕ) → cond (names_link e (trail_links legs ks)) num 0 ≤ weight (is_on e) legs num ks
named_weight legs num e [] = omega arith
named_weight legs num e (k ∷ ks) = ⊎_elim
    (λ t. omega (arith, ap (λ b. cond b num 0) t, cond_most (names_link e (trail_links legs (k ∷ ks))) num))
    (λ f. let same : names_link e (trail_links legs (k ∷ ks)) ≡ names_link e (trail_links legs ks) = ap (λ b. b || names_link e (trail_links legs ks)) f in
    omega (arith, ap (λ b. cond b num 0) same, named_weight legs num e ks))
    (cases_Bool (eqb (leg_at legs k).link.0 e))

other_place : (legs : List Leg) (k : ℕ) (ks : List ℕ) → AllByRecursion (λ y. (leg_at legs k).from.0 ≢ y) (froms legs ks) → AllByRecursion (λ j. k ≢ j) ks
other_place legs k [] other = tt
other_place legs k (j ∷ ks) other = (λ e. other.0 (ap (λ i. (leg_at legs i).from.0) e), other_place legs k ks other.1)

-- legs that leave different nodes are at different places
pub places_differ : (legs : List Leg) (ks : List ℕ) → AreDifferent (froms legs ks) → AreDifferent ks
places_differ legs [] different = tt
places_differ legs (k ∷ ks) different = (other_place legs k ks different.0, places_differ legs ks different.1)

-- one more at the end
chain_push : (legs : List Leg) (a : ℕ) (ks : List ℕ) (b k : ℕ) → Chain legs a ks b → (leg_at legs k).from.0 ≡ b → Chain legs a (ks ++ k ∷ []) (leg_at legs k).to.0
chain_push legs a [] b k chain from = (from ∙ sym chain, refl)
chain_push legs a (j ∷ ks) b k chain from = (chain.0, chain_push legs (leg_at legs j).to.0 ks b k chain.1 from)

all_push : (P : ℕ → Type 0) (xs : List ℕ) (x : ℕ) → AllByRecursion P xs → P x → AllByRecursion P (xs ++ x ∷ [])
all_push P [] x all p = (p, tt)
all_push P (y ∷ ys) x all p = (all.0, all_push P ys x all.1 p)

pub froms_push : (legs : List Leg) (ks : List ℕ) (k : ℕ) → froms legs (ks ++ k ∷ []) ≡ froms legs ks ++ (leg_at legs k).from.0 ∷ []
froms_push legs [] k = refl
froms_push legs (j ∷ ks) k = ap (λ r. (leg_at legs j).from.0 ∷ r) (froms_push legs ks k)

different_push : (xs : List ℕ) (x : ℕ) → AreDifferent xs → AllByRecursion (λ y. y ≢ x) xs → AreDifferent (xs ++ x ∷ [])
different_push [] x different others = (tt, tt)
different_push (y ∷ ys) x different others = (all_push (λ z. y ≢ z) ys x different.0 others.0, different_push ys x different.1 others.1)

not_there : (x : ℕ) (xs : List ℕ) → (Has x xs → ⊥) → AllByRecursion (λ y. y ≢ x) xs
not_there x [] none = tt
not_there x (y ∷ ys) none = (λ e. none (inl (sym e)), not_there x ys (λ h. none (inr h)))

pub has_push : (x : ℕ) (xs : List ℕ) (y : ℕ) → Has x (xs ++ y ∷ []) → Has x xs ⊎ (x ≡ y)
has_push x [] y (inl e) = inr e
has_push x [] y (inr h) = absurd h
has_push x (z ∷ zs) y (inl e) = inl (inl e)
has_push x (z ∷ zs) y (inr h) = ⊎_elim (λ l. inl (inr l)) (λ r. inr r) (has_push x zs y h)

pub push_has : (x : ℕ) (xs : List ℕ) (y : ℕ) → Has x xs ⊎ (x ≡ y) → Has x (xs ++ y ∷ [])
push_has x [] y (inl h) = absurd h
push_has x [] y (inr e) = inl e
push_has x (z ∷ zs) y (inl (inl e)) = inl e
push_has x (z ∷ zs) y (inl (inr h)) = inr (push_has x zs y (inl h))
push_has x (z ∷ zs) y (inr e) = inr (push_has x zs y (inr e))

-- a walk goes on along a leg from a node that is new
pub walk_push : (legs : List Leg) (lefts : List ℕ) (from to : ℕ) (trail : List ℕ) (at k : ℕ) → IsWalk legs lefts from to trail at → IsLive legs lefts k → (leg_at legs k).from.0 ≡ at → at ≢ to → (Has at (froms legs trail) → ⊥) → IsWalk legs lefts from to (trail ++ k ∷ []) (leg_at legs k).to.0
walk_push legs lefts from to trail at k w live leaves_at on new = record {
  chain = chain_push legs from trail at k w.chain leaves_at;
  live = all_push (λ j. IsLive legs lefts j) trail k w.live live;
  different = subst AreDifferent (sym (froms_push legs trail k ∙ ap (λ i. froms legs trail ++ i ∷ []) leaves_at))
      (different_push (froms legs trail) at w.different (not_there at (froms legs trail) new));
  before = subst (AllByRecursion (λ x. x ≢ to)) (sym (froms_push legs trail k ∙ ap (λ i. froms legs trail ++ i ∷ []) leaves_at))
      (all_push (λ x. x ≢ to) (froms legs trail) at w.before on);
}

-- the nodes at which the legs at these places arrive
abbrev pub tos : List Leg → List ℕ → List ℕ
tos legs [] = []
tos legs (k ∷ ks) = (leg_at legs k).to.0 ∷ tos legs ks

chain_nodes : (legs : List Leg) (a : ℕ) (ks : List ℕ) (b : ℕ) → Chain legs a ks b → froms legs ks ++ b ∷ [] ≡ a ∷ tos legs ks
chain_nodes legs a [] b chain = ap (λ i. i ∷ []) (sym chain)
chain_nodes legs a (k ∷ ks) b chain =
    ap (λ r. (leg_at legs k).from.0 ∷ r) (chain_nodes legs (leg_at legs k).to.0 ks b chain.1)
    ∙ ap (λ i. i ∷ (leg_at legs k).to.0 ∷ tos legs ks) chain.0

chain_leads : (legs : List Leg) (lefts : List ℕ) (a : ℕ) (ks : List ℕ) (b : ℕ) → Chain legs a ks b → AllByRecursion (λ k. IsLive legs lefts k) ks → Leads (HasLeg legs) a (trail_links legs ks) (tos legs ks)
chain_leads legs lefts a [] b chain all = tt
chain_leads legs lefts a (k ∷ ks) b chain all = (
  record { place = k; within = all.0.0; link = refl; from = chain.0; to = refl },
  chain_leads legs lefts (leg_at legs k).to.0 ks b chain.1 all.1,
)

chain_last : (legs : List Leg) (a : ℕ) (ks : List ℕ) (b : ℕ) → Chain legs a ks b → last_node a (tos legs ks) ≡ b
chain_last legs a [] b chain = chain
chain_last legs a (k ∷ ks) b chain = chain_last legs (leg_at legs k).to.0 ks b chain.1

-- a walk that is at `to` is a path
pub walk_path : (legs : List Leg) (lefts : List ℕ) (from to : ℕ) (trail : List ℕ) → IsWalk legs lefts from to trail to → IsPath (HasLeg legs) from to (trail_links legs trail)
walk_path legs lefts from to trail w = (
  tos legs trail,
  chain_leads legs lefts from trail to w.chain w.live,
  chain_last legs from trail to w.chain,
  subst AreDifferent (chain_nodes legs from trail to w.chain) (different_push (froms legs trail) to w.different w.before),
)

-- the rest of a trail from one of its places on
pub chain_drop : (legs : List Leg) (a : ℕ) (ks : List ℕ) (b i d : ℕ) → Chain legs a ks b → i < length ks → Chain legs (leg_at legs (get_or ks i d)).from.0 (drop i ks) b
chain_drop legs a [] b i d chain lt = absurd (omega (arith, lt))
chain_drop legs a (k ∷ ks) b zero d chain lt = (refl, chain.1)
chain_drop legs a (k ∷ ks) b (suc i) d chain lt = chain_drop legs (leg_at legs k).to.0 ks b i d chain.1 (omega (arith, lt))

pub all_drop : (P : ℕ → Type 0) (xs : List ℕ) (i : ℕ) → AllByRecursion P xs → AllByRecursion P (drop i xs)
all_drop P [] zero all = all
all_drop P [] (suc i) all = all
all_drop P (x ∷ xs) zero all = all
all_drop P (x ∷ xs) (suc i) all = all_drop P xs i all.1

-- where a walk is, it began, or a leg with flow left arrived
pub arrived : (legs : List Leg) (lefts : List ℕ) (a : ℕ) (ks : List ℕ) (b : ℕ) → Chain legs a ks b → AllByRecursion (λ k. IsLive legs lefts k) ks → (a ≡ b) ⊎ ((k : ℕ) × IsLive legs lefts k × ((leg_at legs k).to.0 ≡ b))
arrived legs lefts a [] b chain all = inl chain
arrived legs lefts a (k ∷ ks) b chain all =
    ⊎_elim (λ e. inr (k, all.0, e)) (λ r. inr r) (arrived legs lefts (leg_at legs k).to.0 ks b chain.1 all.1)

each_has : (legs : List Leg) (lefts : List ℕ) (num : ℕ) (ks : List ℕ) → length lefts ≡ length legs → AllByRecursion (λ k. IsLive legs lefts k) ks → All (λ k. num ≤ get_or lefts k 0) ks → EachHas lefts num ks
each_has legs lefts num [] same live least = tt
each_has legs lefts num (k ∷ ks) same live least = (
  (omega (arith, live.0.0, same), All-head (λ j. num ≤ get_or lefts j 0) k ks least),
  each_has legs lefts num ks same live.1 (All-tail (λ j. num ≤ get_or lefts j 0) k ks least),
)

-- what the least has left may be taken off each
pub are_enough : (legs : List Leg) (lefts : List ℕ) (num : ℕ) (ks : List ℕ) → length lefts ≡ length legs → AllByRecursion (λ k. IsLive legs lefts k) ks → All (λ k. num ≤ get_or lefts k 0) ks → AreDifferent (froms legs ks) → AreEnough lefts ks num
are_enough legs lefts num ks same live least different = record { each = each_has legs lefts num ks same live least; different = places_differ legs ks different }

pub any_positive : (legs : List Leg) (lefts : List ℕ) (num : ℕ) (ks : List ℕ) → AllByRecursion (λ k. IsLive legs lefts k) ks → Any (λ k. num ≡ get_or lefts k 0) ks → 0 < num
any_positive legs lefts num ks live any =
    let here = All-from_recursion (λ k. IsLive legs lefts k) ks live any.0 any.1 any.2 in
    let left : 0 < get_or lefts any.1 0 = subst (λ k. 0 < get_or lefts k 0) any.3 here.1 in
    omega (arith, any.4, left)

pub least_positive : (legs : List Leg) (lefts : List ℕ) (num left : ℕ) (ks : List ℕ) → 0 < left → AllByRecursion (λ k. IsLive legs lefts k) ks → (num ≡ left) ⊎ Any (λ k. num ≡ get_or lefts k 0) ks → 0 < num
least_positive legs lefts num left ks some live (inl is) = omega (arith, is, some)
least_positive legs lefts num left ks some live (inr any) = any_positive legs lefts num ks live any

-- some flow goes on from where a walk is
pub flow_leaves : (legs : List Leg) (lefts : List ℕ) (n from to : ℕ) (trail : List ℕ) (at : ℕ) → AreSteady legs lefts n from to → IsWalk legs lefts from to trail at → at ≢ to → 0 < picked (leaves at) legs lefts
flow_leaves legs lefts n from to trail at steady w on = ⊎_elim
    (λ e. subst (λ x. 0 < picked (leaves x) legs lefts) e steady.first)
    (λ r. subst (λ x. 0 < picked (leaves x) legs lefts) r.2 (steady.on r.0 r.1.0 r.1.1 (λ e. on (sym r.2 ∙ e))))
    (arrived legs lefts from trail at w.chain w.live)

-- the node that a trail leaves next is marked
pub marks_push : (seen : List Bool) (legs : List Leg) (trail : List ℕ) (at k : ℕ) → at < length seen → (leg_at legs k).from.0 ≡ at
    → ((x : ℕ) → (get_or seen x false ≡ true) ↔ Has x (froms legs trail)) → (x : ℕ) → (get_or (set seen at true) x false ≡ true) ↔ Has x (froms legs (trail ++ k ∷ []))
marks_push seen legs trail at k lt from marks x =
    let grown : froms legs (trail ++ k ∷ []) ≡ froms legs trail ++ at ∷ [] = froms_push legs trail k ∙ ap (λ i. froms legs trail ++ i ∷ []) from in
    ⊎_elim
    (λ same. (
      λ t. subst (Has x) (sym grown) (push_has x (froms legs trail) at (inr same)),
      λ h. subst (λ i. get_or (set seen at true) i false ≡ true) (sym same) (get_or-set_same seen at true false lt),
    ))
    (λ other. (
      λ t. subst (Has x) (sym grown) (push_has x (froms legs trail) at (inl ((marks x).0 (sym (get_or-set_other seen at x true false other) ∙ t)))),
      λ h. get_or-set_other seen at x true false other ∙ ⊎_elim (λ before. (marks x).1 before) (λ e. absurd (other e)) (has_push x (froms legs trail) at (subst (Has x) grown h)),
    ))
    (cases_eq x at)
