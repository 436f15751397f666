-- that a routing carries demands follows from what is known to hold without a witness: a path's nodes are told by its links
use Rattle.std.proofs.Common.{◌≡◌, ◌≢◌, ◌∙◌, ℕ, ◌==◌, Bool, cond, if◌then◌else◌, List, [], ◌∷◌, Option, None, Some, inl, inr, ⊎_elim, slice_get, sym, ap, subst, refl, eq-eqb, ne_eqb}
use Rattle.net_core.proofs.Library.{∥∥₁_elim, ∥∥₁_map, props, cases_eq, AllByRecursion, option_map_or}
use Rattle.flow_mending.proofs.Lemmas.{joins_told}
use Rattle.plan_terms.specs.Terms.{Demand, LinkId, Link, Flow, Routing, Graph, HasEnds, Joins, Carries, IsFlow, IsPath, Leads, AreDifferent, last_node}

-- ---- links

-- the other end of a link
abbrev other_end : Link → ℕ → ℕ
other_end l a = if l.a.0 == a then l.b.0 else l.a.0

there_and_back : (l : Link) (a : ℕ) → l.b.0 ≡ a → l.a.0 ≡ other_end l a
there_and_back l a back = ⊎_elim
    (λ same. same ∙ (sym back ∙ sym (ap (λ (b : Bool). cond b l.b.0 l.a.0) (eq-eqb l.a.0 a same))))
    (λ differ. sym (ap (λ (b : Bool). cond b l.b.0 l.a.0) (ne_eqb l.a.0 a differ)))
    (cases_eq l.a.0 a)

ends_other : (l : Link) (a c : ℕ) → HasEnds l a c → other_end l a ≡ c
ends_other l a c (inl h) = ap (λ (b : Bool). cond b l.b.0 l.a.0) (eq-eqb l.a.0 a h.0) ∙ h.1
ends_other l a c (inr h) = sym (there_and_back l a h.0) ∙ h.1

module _ (g : Graph) where
  -- ---- paths

  -- the node that a link leads to
  abbrev next_node : ℕ → LinkId → ℕ
  next_node a e = option_map_or (λ l. other_end l a) (slice_get g.links e.0) 0

  abbrev trail : ℕ → List LinkId → List ℕ
  trail a [] = []
  trail a (e ∷ es) = next_node a e ∷ trail (next_node a e) es

  joins_next : (a c : ℕ) (e : LinkId) → Joins g e.0 a c → next_node a e ≡ c
  joins_next a c e j = ap (λ (o : Option Link). option_map_or (λ l. other_end l a) o 0) j.survives.at ∙ ends_other j.survives.link a c j.ends

  leads_trail : (a : ℕ) (es : List LinkId) (cs : List ℕ) → Leads (Joins g) a es cs → cs ≡ trail a es
  leads_trail a [] [] leads = refl
  leads_trail a (e ∷ es) (c ∷ cs) leads =
      let here = joins_next a c e leads.0 in
      let rest = leads_trail c es cs leads.1 in
      ap (λ (x : ℕ). x ∷ cs) (sym here) ∙ ap (λ (xs : List ℕ). next_node a e ∷ xs) (rest ∙ ap (λ (x : ℕ). trail x es) (sym here))
  leads_trail a [] (c ∷ cs) leads = absurd leads
  leads_trail a (e ∷ es) [] leads = absurd leads

  leads_certain : (a : ℕ) (es : List LinkId) (cs : List ℕ) → ∥ Leads (Joins g) a es cs ∥₁ → Leads (Joins g) a es cs
  leads_certain a [] [] told = tt
  leads_certain a (e ∷ es) (c ∷ cs) told = (joins_told g e.0 a c (∥∥₁_map told (λ is. is.0)), leads_certain c es cs (∥∥₁_map told (λ is. is.1)))
  leads_certain a [] (c ∷ cs) told = absurd (∥∥₁_elim told (hlevel props) (λ is. is))
  leads_certain a (e ∷ es) [] told = absurd (∥∥₁_elim told (hlevel props) (λ is. is))

  unlike_prop : (x : ℕ) (xs : List ℕ) → IsProp (AllByRecursion (λ y. x ≢ y) xs)
  unlike_prop x [] = hlevel props
  unlike_prop x (y ∷ ys) = let rest = unlike_prop x ys in hlevel (rest, props)

  different_prop : (xs : List ℕ) → IsProp (AreDifferent xs)
  different_prop [] = hlevel props
  different_prop (x ∷ xs) = let here = unlike_prop x xs in let rest = different_prop xs in hlevel (here, rest, props)

  path_certain : (a b : ℕ) (es : List LinkId) → ∥ IsPath (Joins g) a b es ∥₁ → IsPath (Joins g) a b es
  path_certain a b es told = (
    trail a es,
    leads_certain a es (trail a es) (∥∥₁_map told (λ is. subst (Leads (Joins g) a es) (leads_trail a es is.0 is.1) is.1)),
    ∥∥₁_elim told (hlevel props) (λ is. subst (λ (cs : List ℕ). last_node a cs ≡ b) (leads_trail a es is.0 is.1) is.2),
    ∥∥₁_elim told (different_prop (a ∷ trail a es)) (λ is. subst (λ (cs : List ℕ). AreDifferent (a ∷ cs)) (leads_trail a es is.0 is.1) is.3),
  )

  -- ---- routings

  one_demand : (d k : Demand) (o : Option Demand) → o ≡ Some d → o ≡ Some k → d ≡ k
  one_demand d k o a b = cc (a, b)

  flow_at : (demands : List Demand) (f : Flow) (o : Option Demand) → slice_get demands f.demand ≡ o → ∥ IsFlow (Joins g) demands f ∥₁ → IsFlow (Joins g) demands f
  flow_at demands f None none told = absurd (∥∥₁_elim told (hlevel props) (λ (is : IsFlow (Joins g) demands f). let at = is.at in absurd cc (at, none)))
  flow_at demands f (Some d) at told = record {
    positive = ∥∥₁_elim told (hlevel props) (λ (is : IsFlow (Joins g) demands f). is.positive);
    of = d;
    at = at;
    path = path_certain d.from.0 d.to.0 f.path (∥∥₁_map told (λ (is : IsFlow (Joins g) demands f). subst (λ (x : Demand). IsPath (Joins g) x.from.0 x.to.0 f.path) (one_demand is.of d (slice_get demands f.demand) is.at at) is.path));
  }

  pub carries_certain : (demands : List Demand) (scale : ℕ) (nums : List ℕ) (r : Routing) → ∥ Carries (Joins g) demands scale nums r ∥₁ → Carries (Joins g) demands scale nums r
  carries_certain demands scale nums r told = record {
    den = ∥∥₁_elim told (hlevel props) (λ (is : Carries (Joins g) demands scale nums r). is.den);
    flows = λ k d lt. flow_at demands _ _ refl (∥∥₁_map told (λ (is : Carries (Joins g) demands scale nums r). is.flows k d lt));
    met = ∥∥₁_elim told (hlevel props) (λ (is : Carries (Joins g) demands scale nums r). is.met);
    within = ∥∥₁_elim told (hlevel props) (λ (is : Carries (Joins g) demands scale nums r). is.within);
  }
