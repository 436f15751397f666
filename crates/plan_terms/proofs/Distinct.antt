-- the links of a path: each is a link of the network, and none appears twice
use Rattle.std.proofs.Common.{◌≡◌, ◌≢◌, ℕ, ◌<◌, List, [], ◌∷◌, length, get_or, true, false, eqb, eqb-true, ◌⊎◌, inl, inr, ⊎_elim, refl, sym, subst, ◌∙◌}
use Rattle.net_core.{proofs.Library.{cases_Bool, false≢true, All-from_recursion, AllByRecursion}, specs.declared.ids.LinkId.LinkId, specs.declared.network.Link.Link, specs.Terms.{names_link, Graph, HasEnds, Joins}}
use Rattle.plan_terms.{specs.Paths.{Leads, AreDifferent, IsPath}, proofs.Joining.joins_below}

-- no link appears twice
abbrev pub DistinctLinks : List LinkId → Type 0
DistinctLinks [] = Unit {0}
DistinctLinks (x ∷ xs) = (names_link x.0 xs ≡ false) × DistinctLinks xs

-- a is in the list
abbrev pub Has : ℕ → List ℕ → Type 0
Has a [] = ⊥
Has a (x ∷ xs) = (a ≡ x) ⊎ Has a xs

pub not_has : (a : ℕ) (xs : List ℕ) → Has a xs → AllByRecursion (λ y. a ≢ y) xs → ⊥
not_has a [] h all = h
not_has a (x ∷ xs) (inl e) all = all.0 e
not_has a (x ∷ xs) (inr h) all = not_has a xs h all.1

-- links below n are those that join nodes, and a link joins the same two nodes wherever it is used
module _ (joins : ℕ → ℕ → ℕ → Type 0) (n : ℕ) (inside : (e x y : ℕ) → joins e x y → e < n) (again : (e x y p q : ℕ) → joins e x y → joins e p q → (x ≡ p) ⊎ (x ≡ q)) where
  -- a link of the list joins two of the nodes
  named_at : (c : ℕ) (es : List LinkId) (cs : List ℕ) (e : ℕ) → Leads joins c es cs → names_link e es ≡ true → (p : ℕ) × (q : ℕ) × joins e p q × Has p (c ∷ cs) × Has q (c ∷ cs)
  named_at c [] [] e leads named = absurd (false≢true named)
  named_at c (x ∷ es) (k ∷ cs) e leads named = ⊎_elim
      (λ t. (c, k, subst (λ i. joins i c k) (eqb-true x.0 e t) leads.0, inl refl, inr (inl refl)))
      (λ f. let r = named_at k es cs e leads.1 (rw f at named) in (r.0, r.1, r.2, inr r.3, inr r.4))
      (cases_Bool (eqb x.0 e))
  named_at c [] (k ∷ cs) e leads named = absurd leads
  named_at c (x ∷ es) [] e leads named = absurd leads

  -- the first link of different nodes joins the first of them, so it appears only once
  first_once : (a : ℕ) (e : LinkId) (es : List LinkId) (c : ℕ) (cs : List ℕ) → Leads joins a (e ∷ es) (c ∷ cs) → AreDifferent (a ∷ c ∷ cs) → names_link e.0 es ≡ true → ⊥
  first_once a e es c cs leads different named =
      let r = named_at c es cs e.0 leads.1 named in
      ⊎_elim
      (λ q. not_has a (c ∷ cs) (subst (λ i. Has i (c ∷ cs)) (sym q) r.3) different.0)
      (λ q. not_has a (c ∷ cs) (subst (λ i. Has i (c ∷ cs)) (sym q) r.4) different.0)
      (again e.0 a c r.0 r.1 leads.0 r.2)

  distinct_links : (a : ℕ) (es : List LinkId) (cs : List ℕ) → Leads joins a es cs → AreDifferent (a ∷ cs) → DistinctLinks es
  distinct_links a [] [] leads different = tt
  distinct_links a (e ∷ es) (c ∷ cs) leads different = (
    ⊎_elim (λ t. absurd (first_once a e es c cs leads different t)) (λ f. f) (cases_Bool (names_link e.0 es)),
    distinct_links c es cs leads.1 different.1,
  )
  distinct_links a [] (c ∷ cs) leads different = absurd leads
  distinct_links a (e ∷ es) [] leads different = absurd leads

  links_inside : (a : ℕ) (es : List LinkId) (cs : List ℕ) → Leads joins a es cs → AllByRecursion (λ e. e.0 < n) es
  links_inside a [] [] leads = tt
  links_inside a (e ∷ es) (c ∷ cs) leads = (inside e.0 a c leads.0, links_inside c es cs leads.1)
  links_inside a [] (c ∷ cs) leads = absurd leads
  links_inside a (e ∷ es) [] leads = absurd leads

-- two pairs of ends of one link
pub same_ends : (l : Link) (x y p q : ℕ) → HasEnds l x y → HasEnds l p q → (x ≡ p) ⊎ (x ≡ q)
same_ends l x y p q (inl s) (inl t) = inl (sym s.0 ∙ t.0)
same_ends l x y p q (inl s) (inr t) = inr (sym s.0 ∙ t.1)
same_ends l x y p q (inr s) (inl t) = inr (sym s.0 ∙ t.1)
same_ends l x y p q (inr s) (inr t) = inl (sym s.0 ∙ t.0)

-- a link joins the same two nodes wherever it is used
pub joins_again : (g : Graph) (e x y p q : ℕ) → Joins g e x y → Joins g e p q → (x ≡ p) ⊎ (x ≡ q)
joins_again g e x y p q i j =
    let one : i.survives.link ≡ j.survives.link = cc (i.survives.at, j.survives.at) in
    same_ends j.survives.link x y p q (subst (λ (l : Link). HasEnds l x y) one i.ends) j.ends

-- each link of a path is one of the network
pub path_links_inside : (g : Graph) (a b : ℕ) (es : List LinkId) → IsPath (Joins g) a b es → AllByRecursion (λ e. e.0 < length g.links) es
path_links_inside g a b es p =
    links_inside (Joins g) (length g.links) (joins_below g) (joins_again g) a es p.0 p.1

pub path_links_known : (g : Graph) (a b : ℕ) (es : List LinkId) → IsPath (Joins g) a b es → (k : ℕ) (d : LinkId) → k < length es → (get_or es k d).0 < length g.links
path_links_known g a b es p =
    All-from_recursion (λ e. e.0 < length g.links) es (path_links_inside g a b es p)

-- on a path no link appears twice
pub path_links_differ : (g : Graph) (a b : ℕ) (es : List LinkId) → IsPath (Joins g) a b es → DistinctLinks es
path_links_differ g a b es p =
    distinct_links (Joins g) (length g.links) (joins_below g) (joins_again g) a es p.0 p.1 p.3
