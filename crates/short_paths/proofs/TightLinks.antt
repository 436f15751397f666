-- the first link that leads on, at each node in turn, gives the least of the shortest paths
use Rattle.std.proofs.Common.{◌≡◌, ◌≢◌, ℕ, ◌+◌, ◌<◌, ◌≤◌, List, [], ◌∷◌, ◌++◌, length, get_or, inl, inr, ⊎_elim, refl, sym, subst, ap, ◌∙◌, arith}
use Rattle.net_core.proofs.Library.{cases_lt}
use Rattle.plan_terms.{specs.Terms.{LinkId, IsLexLe, IsLeastPath, AreApart, Leads, last_node, length_of}, proofs.Lemmas.{Falls, falls_differ}}
use Rattle.short_paths.{specs.inner.TightLinks.{Follows, IsFirstTight, IsTightLink, LeadsOn}, specs.inner.Tables.IsTable}

-- lengths to b, read in both directions
pub record IsBack (joins : ℕ → ℕ → ℕ → Type 0) (lengths : List ℕ) (far b : ℕ) (back : List ℕ) : Type 0 where
  pub start : get_or back b 0 ≡ 0
  pub zero : 0 < far
  pub closed : (e x y : ℕ) → get_or back x 0 < far → joins e x y → (get_or back y 0 < far) × (get_or back y 0 ≤ get_or back x 0 + get_or lengths e 0)
  pub turned : (e x y : ℕ) → joins e x y → joins e y x
  pub one : (e x y z : ℕ) → joins e x y → joins e x z → y ≡ z
  pub long : (e x y : ℕ) → joins e x y → 0 < get_or lengths e 0

module _ (joins : ℕ → ℕ → ℕ → Type 0) (lengths : List ℕ) (far b : ℕ) (back : List ℕ) (t : IsBack joins lengths far b back) where
  -- no walk to b is shorter than they say
  bound : (c : ℕ) (es : List LinkId) (cs : List ℕ) → Leads joins c es cs → last_node c cs ≡ b → (get_or back c 0 < far) × (get_or back c 0 ≤ length_of lengths es)
  bound c [] [] leads ends =
      subst (λ k. (get_or back k 0 < far) × (get_or back k 0 ≤ 0)) (sym ends) (omega (arith, t.start, t.zero), omega (arith, t.start))
  bound c (e ∷ es) (k ∷ cs) leads ends =
      let rest = bound k es cs leads.1 ends in
      let step = t.closed e.0 k c rest.0 (t.turned e.0 c k leads.0) in
      (step.0, omega (arith, step.1, rest.1))
  bound c [] (k ∷ cs) leads ends = absurd leads
  bound c (e ∷ es) [] leads ends = absurd leads

  -- the nodes that are followed
  record Trail (a : ℕ) (es : List LinkId) : Type 0 where
    pub nodes : List ℕ
    pub leads : Leads joins a es nodes
    pub ends : last_node a nodes ≡ b
    pub falls : Falls (λ k. get_or back k 0) a nodes
    pub exact : get_or back a 0 ≡ length_of lengths es + get_or back b 0

  trail : (a : ℕ) (es : List LinkId) → Follows joins lengths back b a es → Trail a es
  trail a [] f = record {
    nodes = [];
    leads = tt;
    ends = f;
    falls = tt;
    exact = let same : get_or back a 0 ≡ get_or back b 0 = ap (λ k. get_or back k 0) f in omega arith;
  }
  trail a (e ∷ es) f =
      let y : ℕ = f.0 in
      let n : IsFirstTight joins lengths back a e.0 y = f.1 in
      let w = trail y es f.2 in
      record {
        nodes = y ∷ w.nodes;
        leads = (n.tight.joined, w.leads);
        ends = w.ends;
        falls = (omega (arith, n.tight.exact, t.long e.0 a y n.tight.joined), w.falls);
        exact = omega (arith, n.tight.exact, w.exact);
      }

  -- any other walk that is as short comes later
  first : (a : ℕ) (es : List LinkId) → Follows joins lengths back b a es → (others : List LinkId) (cs : List ℕ) → Leads joins a others cs → last_node a cs ≡ b → length_of lengths others ≤ get_or back a 0 → IsLexLe es others
  first a [] f others cs leads ends short = tt
  first a (e ∷ es) f [] [] leads ends short =
      let n : IsFirstTight joins lengths back a e.0 f.0 = f.1 in
      let zero : get_or back a 0 ≡ 0 = ap (λ k. get_or back k 0) ends ∙ t.start in
      omega (arith, n.tight.exact, t.long e.0 a f.0 n.tight.joined)
  first a (e ∷ es) f (g ∷ others) (z ∷ cs) leads ends short =
      let n : IsFirstTight joins lengths back a e.0 f.0 = f.1 in
      let rest = bound z others cs leads.1 ends in
      let step = t.closed g.0 z a rest.0 (t.turned g.0 a z leads.0) in
      let le : e.0 ≤ g.0 = n.first g.0 z (record { joined = leads.0; exact = omega (arith, step.1, rest.1) }) in
      ⊎_elim
      (λ less. inl less)
      (λ more.
      let same : e.0 ≡ g.0 = omega (arith, le) in
      let node : z ≡ f.0 = t.one g.0 a z f.0 leads.0 (subst (λ k. joins k a f.0) same n.tight.joined) in
      inr (
        same,
        first f.0 es f.2 others cs
            (subst (λ k. Leads joins k others cs) node leads.1)
            (subst (λ k. last_node k cs ≡ b) node ends)
            (subst (λ k. length_of lengths others ≤ get_or back k 0) node (omega (arith, step.1, rest.1))),
      ))
      (cases_lt e.0 g.0)
  first a (e ∷ es) f [] (z ∷ cs) leads ends short = absurd leads
  first a (e ∷ es) f (g ∷ others) [] leads ends short = absurd leads

  pub follows_least : (a : ℕ) (es : List LinkId) → Follows joins lengths back b a es → IsLeastPath joins lengths a b es
  follows_least a es f =
      let w = trail a es f in
      let all : get_or back a 0 ≡ length_of lengths es = omega (arith, w.exact, t.start) in
      record {
        path = (w.nodes, w.leads, w.ends, falls_differ (λ k. get_or back k 0) a w.nodes w.falls);
        shortest = λ others p. omega (arith, (bound a others p.0 p.1 p.2).1);
        least = λ others p short. first a es f others p.0 p.1 p.2 (omega arith);
      }

  -- no path leads from a node that is not found
  pub far_apart : (a : ℕ) → far ≤ get_or back a 0 → AreApart joins a b
  far_apart a unfound es p = omega (arith, (bound a es p.0 p.1 p.2).0)

-- one link more
pub follows_push : (joins : ℕ → ℕ → ℕ → Type 0) (lengths back : List ℕ) (a b y : ℕ) (e : LinkId) (es : List LinkId) → Follows joins lengths back b a es → IsFirstTight joins lengths back b e.0 y → Follows joins lengths back y a (es ++ e ∷ [])
follows_push joins lengths back a b y e [] f n = (y, subst (λ k. IsFirstTight joins lengths back k e.0 y) (sym f) n, refl)
follows_push joins lengths back a b y e (g ∷ es) f n = (f.0, f.1, follows_push joins lengths back f.0 b y e es f.2 n)

-- it leads nearer
pub next_nearer : (joins : ℕ → ℕ → ℕ → Type 0) (lengths : List ℕ) (far b : ℕ) (back : List ℕ) → LeadsOn joins lengths far b back → (a e y : ℕ) → IsFirstTight joins lengths back a e y → get_or back y 0 < get_or back a 0
next_nearer joins lengths far b back leads a e y n = omega (arith, n.tight.exact, leads.long e a y n.tight.joined)

module _ (joins : ℕ → ℕ → ℕ → Type 0) (lengths : List ℕ) (far b : ℕ) (back : List ℕ) (t : IsTable joins lengths far b back) (turned : (e x y : ℕ) → joins e x y → joins e y x) where
  -- a walk from b that is no longer than the table says comes in along a tight link
  last_tight : (c k : ℕ) (e : LinkId) (es : List LinkId) (cs : List ℕ) → Leads joins c (e ∷ es) (k ∷ cs) → get_or back c 0 < far → get_or back c 0 + length_of lengths (e ∷ es) ≤ get_or back (last_node k cs) 0 → (g y : ℕ) × IsTightLink joins lengths back (last_node k cs) g y
  last_tight c k e [] [] leads near short =
      let step = t.closed e.0 c k near leads.0 in
      (e.0, c, record { joined = turned e.0 c k leads.0; exact = omega (arith, step.1) })
  last_tight c k e (f ∷ es) (m ∷ cs) leads near short =
      let step = t.closed e.0 c k near leads.0 in
      last_tight k m f es cs leads.1 step.0 (omega (arith, step.1))
  last_tight c k e [] (m ∷ cs) leads near short = absurd leads.1
  last_tight c k e (f ∷ es) [] leads near short = absurd leads.1

  -- so a node that is found has one, but for b
  pub has_tight : (a : ℕ) → a < length back → get_or back a 0 < far → a ≢ b → (g y : ℕ) × IsTightLink joins lengths back a g y
  has_tight a lt near ne =
      let w = t.sound a lt near in
      go w.along w.nodes w.leads w.ends (omega (arith, w.long))
    where
      go : (es : List LinkId) (cs : List ℕ) → Leads joins b es cs → last_node b cs ≡ a → length_of lengths es ≤ get_or back a 0 → (g y : ℕ) × IsTightLink joins lengths back a g y
      go [] [] leads ends short = absurd (ne (sym ends))
      go (e ∷ es) (k ∷ cs) leads ends short =
          subst (λ (x : ℕ). (g y : ℕ) × IsTightLink joins lengths back x g y) ends
          (last_tight b k e es cs leads (omega (arith, t.start, t.zero)) (subst (λ x. get_or back b 0 + length_of lengths (e ∷ es) ≤ get_or back x 0) (sym ends) (omega (arith, t.start))))
      go [] (k ∷ cs) leads ends short = absurd leads
      go (e ∷ es) [] leads ends short = absurd leads
