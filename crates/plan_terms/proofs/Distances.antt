-- what holds of each distance
use Rattle.std.proofs.Common.{◌≡◌, ℕ, ◌*◌, ◌≤◌, List, [], ◌∷◌, Option, None, Some, sum_by, zip, unwrap_or, ap, refl, sym, subst, ◌∙◌, arith, ext_get_or}
use Rattle.net_core.{specs.declared.demand.Demand.Demand, specs.declared.ids.LinkId.LinkId, proofs.Lists.get_some}
use Rattle.plan_terms.{specs.Certificates.IsRight, specs.Paths.{Leads, last_node, length_of, IsPath, IsDistance}, proofs.Walks.walk_back, proofs.Shortcuts.{Way, shortcut}}

-- a node is at distance 0 from itself
pub distance_none : (joins : ℕ → ℕ → ℕ → Type 0) (lengths : List ℕ) (a : ℕ) → IsDistance joins lengths a a (Some 0)
distance_none joins lengths a = (([], ([], tt, refl, (tt, tt)), refl), λ es p. omega arith)

-- there is but one distance
pub distance_one : (joins : ℕ → ℕ → ℕ → Type 0) (lengths : List ℕ) (a b : ℕ) (c d : Option ℕ) → IsDistance joins lengths a b c → IsDistance joins lengths a b d → c ≡ d
distance_one joins lengths a b None None h k = refl
distance_one joins lengths a b None (Some d) h k = absurd (h k.0.0 k.0.1)
distance_one joins lengths a b (Some c) None h k = absurd (k h.0.0 h.0.1)
distance_one joins lengths a b (Some c) (Some d) h k =
    let same : c ≡ d = omega (arith, h.0.2, k.0.2, h.1 k.0.0 k.0.1, k.1 h.0.0 h.0.1) in
    ap (λ n. Some n) same

-- where links join both ways, a path can be taken back
pub path_back : (joins : ℕ → ℕ → ℕ → Type 0) → ((e x y : ℕ) → joins e x y → joins e y x) → (lengths : List ℕ) (a b : ℕ) (es : List LinkId) → IsPath joins a b es → Way joins lengths b a (length_of lengths es)
path_back joins turns lengths a b es p =
    let w = walk_back joins turns lengths a es p.0 p.1 in
    let v = shortcut joins lengths (last_node a p.0) a w.along w.nodes w.leads w.ends in
    let short : length_of lengths v.along ≤ length_of lengths es = omega (arith, v.short, w.long) in
    subst (λ k. Way joins lengths k a (length_of lengths es)) p.2 (record { along = v.along; path = v.path; short = short })

-- and the distance is the same both ways
pub distance_back : (joins : ℕ → ℕ → ℕ → Type 0) → ((e x y : ℕ) → joins e x y → joins e y x) → (lengths : List ℕ) (a b : ℕ) (d : Option ℕ) → IsDistance joins lengths a b d → IsDistance joins lengths b a d
distance_back joins turns lengths a b None h = λ es p. let w = path_back joins turns lengths b a es p in h w.along w.path
distance_back joins turns lengths a b (Some d) h =
    let least : (es : List LinkId) → IsPath joins b a es → d ≤ length_of lengths es = λ es p.
    let w = path_back joins turns lengths b a es p in omega (arith, w.short, h.1 w.along w.path) in
    let v = path_back joins turns lengths a b h.0.0 h.0.1 in
    ((v.along, v.path, omega (arith, v.short, h.0.2, least v.along v.path)), least)

pub leads_alike : (joins others : ℕ → ℕ → ℕ → Type 0) → ((e x y : ℕ) → joins e x y → others e x y) → (a : ℕ) (es : List LinkId) (cs : List ℕ) → Leads joins a es cs → Leads others a es cs
leads_alike joins others to a [] [] leads = leads
leads_alike joins others to a (e ∷ es) (c ∷ cs) leads = (to e.0 a c leads.0, leads_alike joins others to c es cs leads.1)
leads_alike joins others to a [] (c ∷ cs) leads = absurd leads
leads_alike joins others to a (e ∷ es) [] leads = absurd leads

pub path_alike : (joins others : ℕ → ℕ → ℕ → Type 0) → ((e x y : ℕ) → joins e x y → others e x y) → (a b : ℕ) (es : List LinkId) → IsPath joins a b es → IsPath others a b es
path_alike joins others to a b es p = (p.0, leads_alike joins others to a es p.0 p.1, p.2, p.3)

-- where the same links join the same nodes, distances are the same
pub distance_alike : (joins others : ℕ → ℕ → ℕ → Type 0) → ((e x y : ℕ) → joins e x y → others e x y) → ((e x y : ℕ) → others e x y → joins e x y) → (lengths : List ℕ) (a b : ℕ) (d : Option ℕ) → IsDistance joins lengths a b d → IsDistance others lengths a b d
distance_alike joins others to fro lengths a b None h = λ es p. h es (path_alike others joins fro a b es p)
distance_alike joins others to fro lengths a b (Some d) h =
    ((h.0.0, path_alike joins others to a b h.0.0 h.0.1, h.0.2), λ es p. h.1 es (path_alike others joins fro a b es p))

-- a cut has one right side at demands
pub right_once : (joins : ℕ → ℕ → ℕ → Type 0) (lengths : List ℕ) (demands : List Demand) (a b : ℕ) → IsRight joins lengths demands a → IsRight joins lengths demands b → a ≡ b
right_once joins lengths demands a b first second =
    first.sum
    ∙ ap (λ far. sum_by (λ (p : Demand × Option ℕ). p.0.need * unwrap_or p.1 0) (zip demands far)) same
    ∙ sym second.sum
  where
    same : first.far ≡ second.far
    same = ext_get_or None first.far second.far (first.count ∙ sym second.count) (λ k lt.
        let d = get_some demands k (omega (arith, lt, first.count)) in
        distance_one joins lengths d.0.from.0 d.0.to.0 _ _ (first.each k d.0 d.1) (second.each k d.0 d.1))
