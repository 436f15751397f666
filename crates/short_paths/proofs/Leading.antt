-- from the arcs of a state and a table over them to the least of its shortest paths, where both are known without their witnesses
use Rattle.std.proofs.Common.{◌≡◌, ◌≢◌, ℕ, ◌<◌, ◌≤◌, List, [], ◌∷◌, length, get_or, None, Some, inl, inr, ⊎_elim, refl, subst, arith, slice_get}
use Rattle.net_core.proofs.Library.{∥∥₁_elim, props, cases_eq}
use Rattle.plan_terms.{specs.Terms.{LinkId, Link, Graph, HasEnds, Joins, Survives, IsLeastPath, AreApart, IsPath, last_node}, proofs.Lemmas.{path_alike, joins_one, joins_turned, shortcut, walk_back}}
use Rattle.short_paths.{specs.declared.forward_star.Arc.Arc, specs.inner.TightLinks.{Follows, IsFirstTight, LeadsOn}, specs.inner.ForwardStars.{AreArcs, HasArc}, specs.inner.Tables.IsTable, proofs.TightLinks.{IsBack, far_apart, follows_least, has_tight}, proofs.Tables.arcs_turned}

-- which ends a link has can be tested
ends_told : (l : Link) (x y : ℕ) → ∥ HasEnds l x y ∥₁ → HasEnds l x y
ends_told l x y told = ⊎_elim
    (λ first. ⊎_elim
    (λ second. inl (first, second))
    (λ ne. inr (
      ∥∥₁_elim told (hlevel props) (λ h. ⊎_elim (λ p. absurd (ne p.1)) (λ p. p.0) h),
      ∥∥₁_elim told (hlevel props) (λ h. ⊎_elim (λ p. absurd (ne p.1)) (λ p. p.1) h),
    ))
    (cases_eq l.b.0 y))
    (λ ne. inr (
      ∥∥₁_elim told (hlevel props) (λ h. ⊎_elim (λ p. absurd (ne p.0)) (λ p. p.0) h),
      ∥∥₁_elim told (hlevel props) (λ h. ⊎_elim (λ p. absurd (ne p.0)) (λ p. p.1) h),
    ))
    (cases_eq l.a.0 x)

-- and so can be which link joins which nodes
pub joins_told : (g : Graph) (e x y : ℕ) → ∥ Joins g e x y ∥₁ → Joins g e x y
joins_told g e x y told =
    elim (slice_get g.links e) as (λ o. slice_get g.links e ≡ o → Joins g e x y) [
      | None ↦ λ is. absurd (∥∥₁_elim told (λ u v. absurd u) (λ j. absurd (cc (is, j.survives.at))))
      | Some l ↦ λ is.
          let same : (j : Joins g e x y) → j.survives.link ≡ l = λ j. cc (is, j.survives.at) in
          record {
            survives = record {
              link = l;
              at = is;
              has_module = λ none. ∥∥₁_elim told (λ u v. absurd u) (λ j. subst (λ (k : Link). k.modules ≢ []) (same j) j.survives.has_module none);
              unfailed = ∥∥₁_elim told (hlevel props) (λ j. j.survives.unfailed);
            };
            ends = ends_told l x y (∥∥₁_elim told (hlevel props) (λ j. ∣ subst (λ (k : Link). HasEnds k x y) (same j) j.ends ∣₁));
          }
    ] refl

module _ (g : Graph) (arcs : List Arc) (lengths : List ℕ) (far b : ℕ) (back : List ℕ) (long : (e : ℕ) → Survives g e → 0 < get_or lengths e 0) (are : ∥ AreArcs (Joins g) arcs ∥₁) (table : ∥ IsTable (HasArc arcs) lengths far b back ∥₁) where
  pub leads_on : LeadsOn (HasArc arcs) lengths far b back
  leads_on = record {
    long = λ e x y h. ∥∥₁_elim are (hlevel props) (λ a. long e (a.sound e x y h).survives);
    goes = λ x lt near ne none.
        ∥∥₁_elim are (λ u v. absurd u) (λ a.
        ∥∥₁_elim table (λ u v. absurd u) (λ t.
        let n = has_tight (HasArc arcs) lengths far b back t (arcs_turned (Joins g) (joins_turned g) arcs a) x lt near ne in
        none n.0 n.1 n.2));
  }

  is_back : IsBack (Joins g) lengths far b back
  is_back = record {
    start = ∥∥₁_elim table (hlevel props) (λ t. t.start);
    zero = ∥∥₁_elim table (hlevel props) (λ t. t.zero);
    closed = λ e x y near j. ∥∥₁_elim are (hlevel props) (λ a. ∥∥₁_elim table (hlevel props) (λ t. t.closed e x y near (a.whole e x y j)));
    turned = λ e x y j. joins_turned g e x y j;
    one = λ e x y z j k. joins_one g e x y z j k;
    long = λ e x y j. long e j.survives;
  }

  follows_links : (a : ℕ) (es : List LinkId) → Follows (HasArc arcs) lengths back b a es → Follows (Joins g) lengths back b a es
  follows_links a [] f = f
  follows_links a (e ∷ es) f =
      let n : IsFirstTight (HasArc arcs) lengths back a e.0 f.0 = f.1 in (
        f.0,
        record {
          tight = record {
            joined = joins_told g e.0 a f.0 (∥∥₁_elim are (hlevel props) (λ k. ∣ k.sound e.0 a f.0 n.tight.joined ∣₁));
            exact = n.tight.exact;
          };
          first = λ f2 z t. ∥∥₁_elim are (hlevel props) (λ k. n.first f2 z (record { joined = k.whole f2 a z t.joined; exact = t.exact }));
        },
        follows_links f.0 es f.2,
      )

  pub way_least : (a : ℕ) (es : List LinkId) → Follows (HasArc arcs) lengths back b a es → IsLeastPath (Joins g) lengths a b es
  way_least a es f = follows_least (Joins g) lengths far b back is_back a es (follows_links a es f)

  -- no path leads from a node exactly where it isn't found
  pub unfound_apart : (a : ℕ) → get_or back a 0 ≡ far → AreApart (Joins g) a b
  unfound_apart a unfound = far_apart (Joins g) lengths far b back is_back a (omega (arith, unfound))

  found_joined : (a : ℕ) → a < length back → get_or back a 0 < far → AreApart (Joins g) a b → ⊥
  found_joined a lt near apart =
      ∥∥₁_elim are (λ u v. absurd u) (λ k.
      ∥∥₁_elim table (λ u v. absurd u) (λ t.
      let w = t.sound a lt near in
      let v = walk_back (HasArc arcs) (arcs_turned (Joins g) (joins_turned g) arcs k) lengths b w.along w.nodes w.leads in
      let p = shortcut (HasArc arcs) lengths (last_node b w.nodes) b v.along v.nodes v.leads v.ends in
      apart p.along (subst (λ x. IsPath (Joins g) x b p.along) w.ends (path_alike (HasArc arcs) (Joins g) k.sound (last_node b w.nodes) b p.along p.path))))

  pub apart_unfound : (a : ℕ) → a < length back → AreApart (Joins g) a b → get_or back a 0 ≡ far
  apart_unfound a lt apart = ⊎_elim
      (λ same. same)
      (λ ne. absurd (found_joined a lt (let most : get_or back a 0 ≤ far = ∥∥₁_elim table (hlevel props) (λ t. t.most a) in omega (arith, most, ne)) apart))
      (cases_eq (get_or back a 0) far)
