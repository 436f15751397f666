-- Walks along links, where `joins` says which link joins which nodes: what they reach, their parts, and when their nodes differ
use Rattle.std.proofs.Common.{◌≡◌, ◌≢◌, ℕ, ◌+◌, ◌<◌, List, [], ◌∷◌, ◌++◌, get_or, ap, refl, ◌∙◌, arith, subst}
use Rattle.net_core.{proofs.Library.AllByRecursion, specs.declared.ids.LinkId.LinkId}
use Rattle.plan_terms.{specs.Paths.{Leads, last_node, length_of, AreDifferent, IsPath}, specs.inner.Walks.Walk}

-- what is closed under the joining links has each node that a walk from one of its own leads to
pub closed_leads : (joins : ℕ → ℕ → ℕ → Type 0) (inside : ℕ → Type 0) → ((e x y : ℕ) → joins e x y → inside x → inside y) → (a : ℕ) (es : List LinkId) (cs : List ℕ) → Leads joins a es cs → inside a → inside (last_node a cs)
closed_leads joins inside closed a [] [] leads has = has
closed_leads joins inside closed a (e ∷ es) (c ∷ cs) leads has = closed_leads joins inside closed c es cs leads.1 (closed e.0 a c leads.0 has)
closed_leads joins inside closed a [] (c ∷ cs) leads has = absurd leads
closed_leads joins inside closed a (e ∷ es) [] leads has = absurd leads

-- and each node that a path leads to
pub closed_reaches : (joins : ℕ → ℕ → ℕ → Type 0) (inside : ℕ → Type 0) → ((e x y : ℕ) → joins e x y → inside x → inside y) → (a b : ℕ) (es : List LinkId) → IsPath joins a b es → inside a → inside b
closed_reaches joins inside closed a b es path has =
    subst inside path.2 (closed_leads joins inside closed a es path.0 path.1 has)

-- each node is less deep than the one before it
abbrev pub Falls : (ℕ → ℕ) → ℕ → List ℕ → Type 0
Falls depth a [] = Unit {0}
Falls depth a (c ∷ cs) = (depth c < depth a) × Falls depth c cs

-- each of them is less deep than a number
pub falls_below : (depth : ℕ → ℕ) (bound a : ℕ) (cs : List ℕ) → depth a < bound → Falls depth a cs → AllByRecursion (λ y. depth y < bound) cs
falls_below depth bound a [] below falls = tt
falls_below depth bound a (c ∷ cs) below falls =
    let next : depth c < bound = omega (arith, falls.0) in
    (next, falls_below depth bound c cs next falls.1)

-- a node deeper than all of these is none of them
pub deeper_differs : (depth : ℕ → ℕ) (a : ℕ) (cs : List ℕ) → AllByRecursion (λ y. depth y < depth a) cs → AllByRecursion (λ y. a ≢ y) cs
deeper_differs depth a [] below = tt
deeper_differs depth a (c ∷ cs) below =
    (λ e. let same = ap depth e in omega (arith, below.0), deeper_differs depth a cs below.1)

-- nodes of falling depth are different
pub falls_differ : (depth : ℕ → ℕ) (a : ℕ) (cs : List ℕ) → Falls depth a cs → AreDifferent (a ∷ cs)
falls_differ depth a [] falls = (tt, tt)
falls_differ depth a (c ∷ cs) falls =
    (deeper_differs depth a (c ∷ cs) (falls.0, falls_below depth (depth a) c cs falls.0 falls.1), falls_differ depth c cs falls.1)

-- one link more
pub leads_push : (joins : ℕ → ℕ → ℕ → Type 0) (a : ℕ) (es : List LinkId) (cs : List ℕ) (e : LinkId) (k : ℕ) → Leads joins a es cs → joins e.0 (last_node a cs) k → Leads joins a (es ++ e ∷ []) (cs ++ k ∷ [])
leads_push joins a [] [] e k leads j = (j, tt)
leads_push joins a (f ∷ es) (c ∷ cs) e k leads j = (leads.0, leads_push joins c es cs e k leads.1 j)
leads_push joins a [] (c ∷ cs) e k leads j = absurd leads
leads_push joins a (f ∷ es) [] e k leads j = absurd leads

pub last_push : (a : ℕ) (cs : List ℕ) (k : ℕ) → last_node a (cs ++ k ∷ []) ≡ k
last_push a [] k = refl
last_push a (c ∷ cs) k = last_push c cs k

pub length_push : (lengths : List ℕ) (es : List LinkId) (e : LinkId) → length_of lengths (es ++ e ∷ []) ≡ length_of lengths es + get_or lengths e.0 0
length_push lengths [] e = omega arith
length_push lengths (f ∷ es) e = omega (arith, length_push lengths es e)

pub walk_none : (joins : ℕ → ℕ → ℕ → Type 0) (lengths : List ℕ) (a : ℕ) → Walk joins lengths a a 0
walk_none joins lengths a = record { along = []; nodes = []; leads = tt; ends = refl; long = refl }

pub walk_on : (joins : ℕ → ℕ → ℕ → Type 0) (lengths : List ℕ) (a b d e k : ℕ) → Walk joins lengths a b d → joins e b k → Walk joins lengths a k (d + get_or lengths e 0)
walk_on joins lengths a b d e k w j = record {
  along = w.along ++ (record { 0 = e }) ∷ [];
  nodes = w.nodes ++ k ∷ [];
  leads = leads_push joins a w.along w.nodes (record { 0 = e }) k w.leads (rw w.ends j);
  ends = last_push a w.nodes k;
  long = length_push lengths w.along (record { 0 = e }) ∙ ap (λ n. n + get_or lengths e 0) w.long;
}

-- where links join both ways, a walk can be taken back
pub walk_back : (joins : ℕ → ℕ → ℕ → Type 0) → ((e x y : ℕ) → joins e x y → joins e y x) → (lengths : List ℕ) (a : ℕ) (es : List LinkId) (cs : List ℕ) → Leads joins a es cs → Walk joins lengths (last_node a cs) a (length_of lengths es)
walk_back joins turns lengths a [] [] leads = walk_none joins lengths a
walk_back joins turns lengths a (e ∷ es) (c ∷ cs) leads =
    let back = walk_back joins turns lengths c es cs leads.1 in
    let on = walk_on joins lengths (last_node c cs) c (length_of lengths es) e.0 a back (turns e.0 a c leads.0) in
    let all : length_of lengths es + get_or lengths e.0 0 ≡ length_of lengths (e ∷ es) = omega arith in
    subst (λ d. Walk joins lengths (last_node c cs) a d) all on
walk_back joins turns lengths a [] (c ∷ cs) leads = absurd leads
walk_back joins turns lengths a (e ∷ es) [] leads = absurd leads
