-- paths that keep off nodes that were seen
use Rattle.std.proofs.Common.{◌≡◌, ◌≢◌, ◌↔◌, ℕ, ◌<◌, ◌==◌, Bool, true, false, cond, List, [], ◌∷◌, Option, None, Some, IfSome, get_or, set, length, inl, inr, refl, sym, ◌∙◌, subst, eqb-true, get_or-set_same, get_or-set_other}
use Rattle.net_core.proofs.Library.{false≢true, AllByRecursion}
use Rattle.plan_terms.{specs.Terms.{LinkId, NodeId, Link, Graph, HasEnds, Joins, Survives, IsNetwork, IsPath, Leads}, proofs.Lemmas.{joins_from, joins_inside, joins_one}}
use Rattle.short_paths.specs.inner.Walks.{IsUnseen, IsUnseenPath, far_end}

some_by : (b : Bool) (y : NodeId) (o : Option NodeId) (P : NodeId → Type 0) → (b ≡ true → P y) → IfSome o P → IfSome (cond b (Some y) o) P
some_by true y o P here rest = here refl
some_by false y o P here rest = rest

-- the other end makes the ends whole
far_ends : (l : Link) (x : ℕ) → IfSome (far_end l x) (λ n. HasEnds l x n.0)
far_ends l x = some_by (l.a.0 == x) l.b _ _ (λ t. inl (eqb-true _ _ t, refl)) (some_by (l.b.0 == x) l.a None _ (λ t. inr (eqb-true _ _ t, refl)) tt)

some_weaker : (o : Option NodeId) (P Q : NodeId → Type 0) → ((n : NodeId) → P n → Q n) → IfSome o P → IfSome o Q
some_weaker None P Q weaker h = tt
some_weaker (Some n) P Q weaker h = weaker n h

-- the node to which a surviving link leads
pub far_joins : (g : Graph) (e x : ℕ) (l : Link) (o : Option NodeId) → e < length g.links → l ≡ get_or g.links e l → Survives g e → o ≡ far_end l x → IfSome o (λ n. Joins g e x n.0)
far_joins g e x l o lt is survives same =
    some_weaker o _ _ (λ n ends. joins_from g e x n.0 l lt is survives ends) (subst (λ q. IfSome q (λ n. HasEnds l x n.0)) (sym same) (far_ends l x))

-- nodes unseen beside one more that is seen are other ones, and were unseen
unseen_before : (seen : List Bool) (y : ℕ) (cs : List ℕ) → y < length seen → AllByRecursion (IsUnseen (set seen y true)) cs → AllByRecursion (λ c. y ≢ c) cs × AllByRecursion (IsUnseen seen) cs
unseen_before seen y [] lt h = (tt, tt)
unseen_before seen y (c ∷ cs) lt h =
    let rest = unseen_before seen y cs lt h.1 in
    let other : y ≢ c = λ same. false≢true (sym (subst (λ k. get_or (set seen y true) k true ≡ false) (sym same) h.0) ∙ get_or-set_same seen y true true lt) in
    ((other, rest.0), (sym (get_or-set_other seen y c true true (λ q. other (sym q))) ∙ h.0, rest.1))

unseen_after : (seen : List Bool) (y : ℕ) (cs : List ℕ) → AllByRecursion (λ c. y ≢ c) cs → AllByRecursion (IsUnseen seen) cs → AllByRecursion (IsUnseen (set seen y true)) cs
unseen_after seen y [] others h = tt
unseen_after seen y (c ∷ cs) others h = (get_or-set_other seen y c true true (λ q. others.0 (sym q)) ∙ h.0, unseen_after seen y cs others.1 h.1)

module _ (g : Graph) (seen : List Bool) (b : ℕ) where
  -- one link further
  pub walk_on : (a y : ℕ) (e : LinkId) (es : List LinkId) → Joins g e.0 a y → y < length seen → IsUnseen seen y → IsUnseenPath (Joins g) (set seen y true) y b es → IsUnseenPath (Joins g) seen a b (e ∷ es)
  walk_on a y e es joins lt new (cs, leads, ends, different, unseen) =
      let before = unseen_before seen y cs lt unseen in
      (y ∷ cs, (joins, leads), ends, (before.0, different), (new, before.1))

  -- and back
  pub walk_off : (a y : ℕ) (e : LinkId) (es : List LinkId) → Joins g e.0 a y → IsUnseenPath (Joins g) seen a b (e ∷ es) → IsUnseen seen y × IsUnseenPath (Joins g) (set seen y true) y b es
  walk_off a y e es joins ([], leads, ends, different, unseen) = absurd leads
  walk_off a y e es joins (c ∷ cs, leads, ends, different, unseen) =
      let same : c ≡ y = sym (joins_one g e.0 a y c joins leads.0) in
      let walk : IsUnseen seen c × IsUnseenPath (Joins g) (set seen c true) c b es = (unseen.0, (cs, leads.1, ends, different.1, unseen_after seen c cs different.0 unseen.1)) in
      subst (λ k. IsUnseen seen k × IsUnseenPath (Joins g) (set seen k true) k b es) same walk

  -- no link leads anywhere
  pub walk_stops : (a : ℕ) (e : LinkId) (es : List LinkId) → ((y : ℕ) → Joins g e.0 a y → ⊥) → IsUnseenPath (Joins g) seen a b (e ∷ es) → ⊥
  walk_stops a e es none ([], leads, ends, different, unseen) = leads
  walk_stops a e es none (c ∷ cs, leads, ends, different, unseen) = none c leads.0

  nodes_inside : ∥ IsNetwork g.nodes g.links ∥₁ → (a : ℕ) (es : List LinkId) (cs : List ℕ) → Leads (Joins g) a es cs → AllByRecursion (λ c. c < length g.nodes) cs
  nodes_inside checked a [] [] leads = tt
  nodes_inside checked a [] (c ∷ cs) leads = absurd leads
  nodes_inside checked a (e ∷ es) [] leads = absurd leads
  nodes_inside checked a (e ∷ es) (c ∷ cs) leads = ((joins_inside g e.0 a c checked leads.0).1, nodes_inside checked c es cs leads.1)

  others : (a : ℕ) (cs : List ℕ) → get_or seen a true ≡ true → AllByRecursion (IsUnseen seen) cs → AllByRecursion (λ c. a ≢ c) cs
  others a [] marked unseen = tt
  others a (c ∷ cs) marked unseen = (λ same. false≢true (sym unseen.0 ∙ subst (λ k. get_or seen k true ≡ true) same marked), others a cs marked unseen.1)

  all_unseen : (a n : ℕ) (cs : List ℕ) → ((c : ℕ) → c < n → a ≢ c → IsUnseen seen c) → AllByRecursion (λ c. c < n) cs → AllByRecursion (λ c. a ≢ c) cs → AllByRecursion (IsUnseen seen) cs
  all_unseen a n [] fresh inside different = tt
  all_unseen a n (c ∷ cs) fresh inside different = (fresh c inside.0 different.0, all_unseen a n cs fresh inside.1 different.1)

  -- where the first node alone is seen, paths that keep off seen nodes are all paths
  pub unseen_paths : ∥ IsNetwork g.nodes g.links ∥₁ → (a : ℕ) (es : List LinkId) → get_or seen a true ≡ true → ((c : ℕ) → c < length g.nodes → a ≢ c → IsUnseen seen c) → IsUnseenPath (Joins g) seen a b es ↔ IsPath (Joins g) a b es
  unseen_paths checked a es marked fresh = (
    λ h. (h.0, h.1, h.2, (others a h.0 marked h.4, h.3)),
    λ h. (h.0, h.1, h.2, h.3.1, all_unseen a (length g.nodes) h.0 fresh (nodes_inside checked a es h.0 h.1) h.3.0),
  )
