-- what labels say of paths, and how they change
use Rattle.std.proofs.Common.{◌≡◌, ◌≢◌, ℕ, ◌+◌, ◌<◌, List, [], ◌∷◌, length, get_or, ◌⊎◌, inl, inr, ⊎_elim, refl, sym, subst, ◌∙◌, arith}
use Rattle.net_core.proofs.Library.{cases_eq}
use Rattle.plan_terms.{specs.Terms.{LinkId, Leads, last_node, AreApart}, proofs.Lemmas.{walk_none, walk_on, closed_reaches, shortcut}}
use Rattle.failure_states.specs.inner.Components.{AreConnected, AreComponents, IsMerged}

module _ (joins : ℕ → ℕ → ℕ → Type 0) where
  -- further links from where links lead to
  reaches_leads : (a b : ℕ) (es : List LinkId) (cs : List ℕ) → AreConnected joins a b → Leads joins b es cs → AreConnected joins a (last_node b cs)
  reaches_leads a b [] [] r leads = r
  reaches_leads a b (e ∷ es) (c ∷ cs) r leads = reaches_leads a c es cs (r.0 + get_or [] e.0 0, walk_on joins [] a b r.0 e.0 c r.1 leads.0) leads.1
  reaches_leads a b [] (c ∷ cs) r leads = absurd leads
  reaches_leads a b (e ∷ es) [] r leads = absurd leads

  reaches_on : (a b c : ℕ) → AreConnected joins a b → AreConnected joins b c → AreConnected joins a c
  reaches_on a b c r s = subst (AreConnected joins a) s.1.ends (reaches_leads a b s.1.along s.1.nodes r s.1.leads)

  reaches_link : (e a b : ℕ) → joins e a b → AreConnected joins a b
  reaches_link e a b j = (0 + get_or [] e 0, walk_on joins [] a a 0 e b (walk_none joins [] a) j)

  -- before any link, each node has its own label
  pub components_none : (n : ℕ) (labels : List ℕ) → length labels ≡ n → ((k : ℕ) → k < n → get_or labels k 0 ≡ k) → AreComponents joins n 0 labels
  components_none n labels size own = record {
    size = size;
    closed = λ e x y lt j. absurd (omega (arith, lt));
    sound = λ x y lx ly same.
        let one : x ≡ y = omega (arith, own x lx, own y ly) in
        subst (AreConnected joins x) one (0, walk_none joins [] x);
  }

  -- a link that joins nothing changes nothing
  pub components_skip : (n e : ℕ) (labels : List ℕ) → ((x y : ℕ) → joins e x y → ⊥) → AreComponents joins n e labels → AreComponents joins n (e + 1) labels
  components_skip n e labels none h = record {
    size = h.size;
    closed = λ f x y lt j. ⊎_elim
        (λ is. absurd (none x y (subst (λ k. joins k x y) is j)))
        (λ ne. h.closed f x y (omega arith) j)
        (cases_eq f e);
    sound = h.sound;
  }

  module _ (a b : ℕ) (old new : List ℕ) (m : IsMerged a b old new) where
    -- the first end keeps its label
    merged_first : a < length old → get_or new a 0 ≡ get_or old a 0
    merged_first lt = ⊎_elim (λ e. m.moved a lt e) (λ ne. m.stayed a lt ne) (cases_eq (get_or old a 0) (get_or old b 0))

    -- nodes of one label have one label still
    merged_same : (x y : ℕ) → x < length old → y < length old → get_or old x 0 ≡ get_or old y 0 → get_or new x 0 ≡ get_or new y 0
    merged_same x y lx ly same = ⊎_elim
        (λ e. m.moved x lx e ∙ sym (m.moved y ly (sym same ∙ e)))
        (λ ne. m.stayed x lx ne ∙ (same ∙ sym (m.stayed y ly (λ e. ne (same ∙ e)))))
        (cases_eq (get_or old x 0) (get_or old b 0))

    -- nodes that have one label now had one before, or one had that of a and the other that of b
    merged_from : (x y : ℕ) → x < length old → y < length old → get_or new x 0 ≡ get_or new y 0 → (get_or old x 0 ≡ get_or old y 0) ⊎ (((get_or old x 0 ≡ get_or old b 0) × (get_or old a 0 ≡ get_or old y 0)) ⊎ ((get_or old x 0 ≡ get_or old a 0) × (get_or old b 0 ≡ get_or old y 0)))
    merged_from x y lx ly same = ⊎_elim
        (λ e. ⊎_elim
        (λ f. inl (e ∙ sym f))
        (λ nf. inr (inl (e, sym (m.moved x lx e) ∙ (same ∙ m.stayed y ly nf))))
        (cases_eq (get_or old y 0) (get_or old b 0)))
        (λ ne. ⊎_elim
        (λ f. inr (inr (sym (m.stayed x lx ne) ∙ (same ∙ m.moved y ly f), sym f)))
        (λ nf. inl (sym (m.stayed x lx ne) ∙ (same ∙ m.stayed y ly nf)))
        (cases_eq (get_or old y 0) (get_or old b 0)))
        (cases_eq (get_or old x 0) (get_or old b 0))

  -- a link between a and b merges their labels
  pub components_merge : (n e a b : ℕ) (old new : List ℕ) → a < n → b < n → joins e a b → joins e b a → ((x y : ℕ) → joins e x y → ((a ≡ x) × (b ≡ y)) ⊎ ((b ≡ x) × (a ≡ y))) → ((f x y : ℕ) → joins f x y → (x < n) × (y < n)) → IsMerged a b old new → AreComponents joins n e old → AreComponents joins n (e + 1) new
  components_merge n e a b old new la lb there back ends within m h =
      let one : get_or new a 0 ≡ get_or new b 0 = merged_first a b old new m (omega (arith, h.size)) ∙ sym (m.moved b (omega (arith, h.size)) refl) in
      record {
        size = m.size ∙ h.size;
        closed = λ f x y lt j. ⊎_elim
            (λ is. ⊎_elim
            (λ p. rw (p.0, p.1) at one)
            (λ p. sym (rw (p.0, p.1) at one))
            (ends x y (subst (λ k. joins k x y) is j)))
            (λ ne. merged_same a b old new m x y (omega (arith, h.size, (within f x y j).0)) (omega (arith, h.size, (within f x y j).1)) (h.closed f x y (omega arith) j))
            (cases_eq f e);
        sound = λ x y lx ly same. ⊎_elim
            (λ s. h.sound x y lx ly s)
            (λ t. ⊎_elim
            (λ p. reaches_on x b y (h.sound x b lx lb p.0) (reaches_on b a y (reaches_link e b a back) (h.sound a y la ly p.1)))
            (λ p. reaches_on x a y (h.sound x a lx la p.0) (reaches_on a b y (reaches_link e a b there) (h.sound b y lb ly p.1)))
            t)
            (merged_from a b old new m x y (omega (arith, h.size)) (omega (arith, h.size)) same);
      }

  -- nodes of different labels are apart
  pub components_apart : (n links a b : ℕ) (labels : List ℕ) → ((e x y : ℕ) → joins e x y → e < links) → AreComponents joins n links labels → get_or labels a 0 ≢ get_or labels b 0 → AreApart joins a b
  components_apart n links a b labels below h differ = λ es path.
      differ (sym (closed_reaches joins (λ k. get_or labels k 0 ≡ get_or labels a 0) (λ e x y j here. sym (h.closed e x y (below e x y j) j) ∙ here) a b es path refl))

  -- nodes of one label are not
  pub components_joined : (n links a b : ℕ) (labels : List ℕ) → AreComponents joins n links labels → a < n → b < n → get_or labels a 0 ≡ get_or labels b 0 → AreApart joins a b → ⊥
  components_joined n links a b labels h la lb same apart =
      let r = h.sound a b la lb same in
      let v = shortcut joins [] a b r.1.along r.1.nodes r.1.leads r.1.ends in
      apart v.along v.path
