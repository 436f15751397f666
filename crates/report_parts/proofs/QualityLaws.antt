-- The readings of how good a bound is take exactly their texts.
use Rattle.std.proofs.Common.{◌≡◌, inl, inr, ℕ, ◌+◌, ◌^◌, ◌<◌, Bool, true, List, [], ◌∷◌, ◌++◌, length, All, Err, refl, sym, ap, arith, append_assoc, codes, flat_map}
use Rattle.plan_terms.specs.Terms.{Evidence, Route, Master, MasterColumn, RouteColumn, WideKind, Demand, LinkId, Routing}
use Rattle.text_kit.{specs.Terms.{Item, Verbatim, Whole, enclosed}, proofs.Beginnings.AnyText, proofs.Spelled.Lawful}
use Rattle.plan_report.specs.Terms.{AreCapsInForm, AreRoutingsInForm, IsCauseInForm, IsEvidenceInForm, IsKindInForm, IsMasterColumnInForm, IsQualityInForm, IsRouteColumnInForm, IsShareInForm, cause_items, evidence_items, master_column_items, numbers_items, quality_items, route_column_items, routings_items, wide_items, KnownNames, Wide, Cuts, Fractional, Quality, Tight, Loose}
use Rattle.report_words.{specs.declared.fault.ReportKind.TheVariants.Token, specs.Terms.{branch_at, branch_within, has_room}, proofs.Lemmas.{branches_law, either_form, lawful_branch, lawful_no_branch, exact_law, law_made, made_give, made_last, made_law, made_then, numbers_law, AreApart, demand_law, link_law, number_law}}
use Rattle.report_parts.{specs.ReadingQuality.{master_column_branches, master_wide_branches, route_column_branches, route_wide_branches, basis_at, caps_at, carry_at, evidence_at, fractional_at, left_at, loose_at, master_at, metric_at, price_at, quality_at, route_at, slack_at, tight_at, too_wide_at, wide_entry_at, wide_length_at, wide_number_at, wide_row_at, wide_sum_at}, proofs.RoutingLaws.{AreLinksApart, path_law, routings_law}, proofs.ColumnVariants.{evidence_cases, master_cases, quality_cases, route_cases, wide_cases}}
use Rattle.net_core.specs.declared.columns.MasterColumn.TheVariants as master
use Rattle.net_core.specs.declared.columns.RouteColumn.TheVariants as route
use Rattle.net_core.specs.declared.columns.WideKind.TheVariants as wide

module _ (names : KnownNames) (apart : AreLinksApart names.links) where
  -- ---- columns of a program that finds a certificate

  abbrev IsMaster : Bool → MasterColumn → Type 0
  IsMaster room c = (room ≡ true) × IsMasterColumnInForm names.links names.listed c

  master_column_law : (room : Bool) → Lawful (branch_within room (master_column_branches names)) (master_column_items names.links) (IsMaster room) AnyText
  unfolding price_at metric_at
  master_column_law room = branches_law room (Err Token) (master_column_branches names) (master_column_items names.links) _ (IsMaster room)
      (either_form room _ _ _ (IsMaster room) (λ e m h. (m, h))
      (either_form room _ _ _ (IsMaster room) (λ q m h. (m, (omega (arith, h.0.1), record { long = h.1.0; each = h.1.1 })))
      (λ c n. absurd n)))
      (master_cases _
      (λ e h. inl (h.0, record { parts = e; right = h.1; gives = refl }))
      (λ state lengths h. inr (inl (h.0, record { parts = (state.0, lengths); right = ((omega arith, omega (arith, h.1.0)), (h.1.1.long, h.1.1.each)); gives = refl }))))
      (lawful_branch room (Err Token) (codes "link") (price_at names.links) _ _ _ _ (master_column_items names.links) _ refl (λ p h. refl)
      (made_last _ (λ (e : LinkId). master.LinkSlack e) _ _ (link_law names.links apart))
      (lawful_branch room (Err Token) (codes "cut") (metric_at names) _ _ _ _ (master_column_items names.links) _ refl (λ p h. refl)
      (made_then _ _ _ _ _ _ _ _ (number_law 0 (length names.listed + 1)) (λ state h.
      made_last _ (λ (lengths : List ℕ). master.Metric (record { 0 = state }) lengths) _ _ (numbers_law (length names.links) (2 ^ 32))))
      (lawful_no_branch room Token (master_column_items names.links))))

  abbrev IsMasterWide : WideKind MasterColumn → Type 0
  IsMasterWide k = IsKindInForm (IsMasterColumnInForm names.links names.listed) (Unit {0}) (λ e. ⊥) (length names.links) k

  abbrev master_wide : WideKind MasterColumn → List Item
  master_wide k = wide_items names.links (master_column_items names.links) k

  master_wide_law : Lawful (branch_at (master_wide_branches (master_column_branches names) (length names.links))) master_wide IsMasterWide AnyText
  unfolding wide_number_at wide_row_at wide_entry_at wide_sum_at
  master_wide_law = branches_law true (Err Token) (master_wide_branches (master_column_branches names) (length names.links)) master_wide _ IsMasterWide
      (either_form true _ _ _ IsMasterWide (λ c m h. h.1)
      (either_form true _ _ _ IsMasterWide (λ i m h. omega (arith, h.1))
      (either_form true _ _ _ IsMasterWide (λ q m h. (omega (arith, h.0.1), h.1.1))
      (either_form true _ _ _ IsMasterWide (λ i m h. omega (arith, h.1))
      (either_form true _ _ _ IsMasterWide (λ u m h. tt)
      (either_form true _ _ _ IsMasterWide (λ u m h. tt)
      (λ c n. absurd n)))))))
      (wide_cases _
      (λ c h. inl (refl, record { parts = c; right = (refl, h); gives = refl }))
      (λ i h. inr (inl (refl, record { parts = i; right = (omega arith, omega (arith, h)); gives = refl })))
      (λ i c h. inr (inr (inl (refl, record { parts = (i, c); right = ((omega arith, omega (arith, h.0)), (refl, h.1)); gives = refl }))))
      (λ i h. inr (inr (inr (inl (refl, record { parts = i; right = (omega arith, omega (arith, h)); gives = refl })))))
      (λ h. inr (inr (inr (inr (inl (refl, record { parts = tt; right = tt; gives = refl }))))))
      (λ h. inr (inr (inr (inr (inr (inl (refl, record { parts = tt; right = tt; gives = refl })))))))
      (λ e h. absurd h))
      (lawful_branch true (Err Token) (codes "number") _ _ _ _ _ master_wide _ refl (λ p h. refl) (made_last _ (λ (c : MasterColumn). wide.Number c) _ _ (master_column_law true))
      (lawful_branch true (Err Token) (codes "row") _ _ _ _ _ master_wide _ refl (λ p h. refl) (made_last _ (λ (i : ℕ). wide.Row i) _ _ (number_law 0 (length names.links + 1)))
      (lawful_branch true (Err Token) (codes "entry") _ _ _ _ _ master_wide _ refl (λ p h. refl) (made_then _ _ _ _ _ _ _ _ (number_law 0 (length names.links + 1)) (λ i h. made_last _ (λ (c : MasterColumn). wide.Product i c) _ _ (master_column_law true)))
      (lawful_branch true (Err Token) (codes "sum") _ _ _ _ _ master_wide _ refl (λ p h. refl) (made_last _ (λ (i : ℕ). wide.Sum i) _ _ (number_law 0 (length names.links + 1)))
      (lawful_branch true (Err Token) (codes "common") _ _ _ _ _ master_wide _ refl (λ p h. refl) (made_give wide.Common)
      (lawful_branch true (Err Token) (codes "value") _ _ _ _ _ master_wide _ refl (λ p h. refl) (made_give wide.Value)
      (lawful_no_branch true Token master_wide)))))))

  master_basis_law : Lawful (basis_at (master_column_branches names) (length names.links)) (λ cs. enclosed (flat_map (master_column_items names.links) cs)) (λ cs. (length cs ≡ length names.links) × All (IsMasterColumnInForm names.links names.listed) cs) AnyText
  unfolding basis_at
  master_basis_law = exact_law (length names.links) (λ sofar. branch_within (has_room (length names.links) sofar) (master_column_branches names)) (master_column_items names.links) (IsMasterColumnInForm names.links names.listed) (master_cases _ (λ e. tt) (λ s l. tt)) (λ sofar. master_column_law (has_room (length names.links) sofar))

  -- ---- columns of a program that routes

  module _ (demands : List Demand) (differ : AreApart demands) where
    abbrev IsRoute : Bool → RouteColumn → Type 0
    IsRoute room c = (room ≡ true) × IsRouteColumnInForm names.links demands c

    abbrev route_items : RouteColumn → List Item
    route_items c = route_column_items names.links demands c

    route_column_law : (room : Bool) → Lawful (branch_within room (route_column_branches names.links demands)) route_items (IsRoute room) AnyText
    unfolding slack_at left_at carry_at
    route_column_law room = branches_law room (Err Token) (route_column_branches names.links demands) route_items _ (IsRoute room)
        (either_form room _ _ _ (IsRoute room) (λ e m h. (m, h))
        (either_form room _ _ _ (IsRoute room) (λ k m h. (m, h))
        (either_form room _ _ _ (IsRoute room) (λ q m h. (m, (h.0, h.1)))
        (λ c n. absurd n))))
        (route_cases _
        (λ e h. inl (h.0, record { parts = e; right = h.1; gives = refl }))
        (λ k h. inr (inl (h.0, record { parts = k; right = h.1; gives = refl })))
        (λ k path h. inr (inr (inl (h.0, record { parts = (k, path); right = (h.1.0, h.1.1); gives = refl })))))
        (lawful_branch room (Err Token) (codes "link") (slack_at names.links) _ _ _ _ route_items _ refl (λ p h. refl) (made_last _ (λ (e : LinkId). route.LinkSlack e) _ _ (link_law names.links apart))
        (lawful_branch room (Err Token) (codes "demand") (left_at demands) _ _ _ _ route_items _ refl (λ p h. refl) (made_last _ (λ (k : ℕ). route.DemandSlack k) _ _ (demand_law demands differ))
        (lawful_branch room (Err Token) (codes "flow") (carry_at names.links demands) _ _ _ _ route_items _ refl (λ p h. refl)
        (made_then _ _ _ _ _ _ _ _ (demand_law demands differ) (λ k h.
        made_last _ (λ (path : List LinkId). route.Carry k path) _ _ (path_law names.links apart)))
        (lawful_no_branch room Token route_items))))

    abbrev rows : ℕ
    rows = length names.links + length demands

    abbrev IsRouteWide : WideKind RouteColumn → Type 0
    IsRouteWide k = IsKindInForm (IsRouteColumnInForm names.links demands) ⊥ (λ e. e.0 < length names.links) rows k

    abbrev route_wide : WideKind RouteColumn → List Item
    route_wide k = wide_items names.links route_items k

    route_wide_law : Lawful (branch_at (route_wide_branches (route_column_branches names.links demands) names.links rows)) route_wide IsRouteWide AnyText
    unfolding wide_number_at wide_row_at wide_entry_at wide_sum_at wide_length_at
    route_wide_law = branches_law true (Err Token) (route_wide_branches (route_column_branches names.links demands) names.links rows) route_wide _ IsRouteWide
        (either_form true _ _ _ IsRouteWide (λ c m h. h.1)
        (either_form true _ _ _ IsRouteWide (λ i m h. omega (arith, h.1))
        (either_form true _ _ _ IsRouteWide (λ q m h. (omega (arith, h.0.1), h.1.1))
        (either_form true _ _ _ IsRouteWide (λ i m h. omega (arith, h.1))
        (either_form true _ _ _ IsRouteWide (λ u m h. tt)
        (either_form true _ _ _ IsRouteWide (λ e m h. h)
        (λ c n. absurd n)))))))
        (wide_cases _
        (λ c h. inl (refl, record { parts = c; right = (refl, h); gives = refl }))
        (λ i h. inr (inl (refl, record { parts = i; right = (omega arith, omega (arith, h)); gives = refl })))
        (λ i c h. inr (inr (inl (refl, record { parts = (i, c); right = ((omega arith, omega (arith, h.0)), (refl, h.1)); gives = refl }))))
        (λ i h. inr (inr (inr (inl (refl, record { parts = i; right = (omega arith, omega (arith, h)); gives = refl })))))
        (λ h. inr (inr (inr (inr (inl (refl, record { parts = tt; right = tt; gives = refl }))))))
        (λ h. absurd h)
        (λ e h. inr (inr (inr (inr (inr (inl (refl, record { parts = e; right = h; gives = refl }))))))))
        (lawful_branch true (Err Token) (codes "number") _ _ _ _ _ route_wide _ refl (λ p h. refl) (made_last _ (λ (c : RouteColumn). wide.Number c) _ _ (route_column_law true))
        (lawful_branch true (Err Token) (codes "row") _ _ _ _ _ route_wide _ refl (λ p h. refl) (made_last _ (λ (i : ℕ). wide.Row i) _ _ (number_law 0 (rows + 1)))
        (lawful_branch true (Err Token) (codes "entry") _ _ _ _ _ route_wide _ refl (λ p h. refl) (made_then _ _ _ _ _ _ _ _ (number_law 0 (rows + 1)) (λ i h. made_last _ (λ (c : RouteColumn). wide.Product i c) _ _ (route_column_law true)))
        (lawful_branch true (Err Token) (codes "sum") _ _ _ _ _ route_wide _ refl (λ p h. refl) (made_last _ (λ (i : ℕ). wide.Sum i) _ _ (number_law 0 (rows + 1)))
        (lawful_branch true (Err Token) (codes "common") _ _ _ _ _ route_wide _ refl (λ p h. refl) (made_give wide.Common)
        (lawful_branch true (Err Token) (codes "length") _ _ _ _ _ route_wide _ refl (λ p h. refl) (made_last _ (λ (e : LinkId). wide.Length e) _ _ (link_law names.links apart))
        (lawful_no_branch true Token route_wide)))))))

    route_basis_law : Lawful (basis_at (route_column_branches names.links demands) rows) (λ cs. enclosed (flat_map route_items cs)) (λ cs. (length cs ≡ rows) × All (IsRouteColumnInForm names.links demands) cs) AnyText
    unfolding basis_at
    route_basis_law = exact_law rows (λ sofar. branch_within (has_room rows sofar) (route_column_branches names.links demands)) route_items (IsRouteColumnInForm names.links demands) (route_cases _ (λ e. tt) (λ k. tt) (λ k p. tt)) (λ sofar. route_column_law (has_room rows sofar))

    -- ---- evidence

    caps_law : Lawful (caps_at names.links) (λ caps. Whole caps.scale ∷ numbers_items caps.nums) (AreCapsInForm names.links) AnyText
    unfolding caps_at
    caps_law = law_made (caps_at names.links) _ _ _ (λ caps. Whole caps.scale ∷ numbers_items caps.nums) (AreCapsInForm names.links)
        (λ q h. record { positive = h.0.0; scale = h.0.1; nums = record { long = h.1.0; each = h.1.1 } })
        (λ q h. refl)
        (λ caps h. record { parts = (caps.scale, caps.nums); right = ((h.positive, h.scale), (h.nums.long, h.nums.each)); gives = refl })
        (made_then _ _ _ _ _ _ _ _ (number_law 1 (2 ^ 62)) (λ scale h.
        made_last _ (λ (nums : List ℕ). record { scale = scale; nums = nums }) _ _ (numbers_law (length names.links) (2 ^ 126))))

    abbrev IsEvidence : Evidence → Type 0
    IsEvidence e = IsEvidenceInForm names demands e

    abbrev items_of : Evidence → List Item
    items_of e = evidence_items names.links demands e

    evidence_law : Lawful (evidence_at names demands) items_of IsEvidence AnyText
    unfolding route_at master_at
    evidence_law = branches_law true (Err Token) _ items_of _ IsEvidence
        (either_form true _ _ _ IsEvidence (λ q m h. record { state_listed = omega (arith, h.0.1); capacities = h.1.0; long = h.1.1.0.0; columns = h.1.1.0.1; wide = h.1.1.1 })
        (either_form true _ _ _ IsEvidence (λ q m h. record { long = h.0.0; columns = h.0.1; wide = h.1 })
        (λ c n. absurd n)))
        (evidence_cases _
        (λ state caps basis kind h. inl (refl, record { parts = (state.0, (caps, (basis, kind))); right = ((omega arith, omega (arith, h.state_listed)), (h.capacities, ((h.long, h.columns), h.wide))); gives = refl }))
        (λ basis kind h. inr (inl (refl, record { parts = (basis, kind); right = ((h.long, h.columns), h.wide); gives = refl }))))
        (lawful_branch true (Err Token) (codes "route") (route_at names demands) _ _ _ _ items_of _ refl
        (λ p h. ap (λ (is : List Item). Verbatim (codes "route") ∷ Whole p.0 ∷ Whole p.1.0.scale ∷ is) (sym (append_assoc (numbers_items p.1.0.nums) (enclosed (flat_map route_items p.1.1.0)) (route_wide p.1.1.1))))
        (made_then _ _ _ _ _ _ _ _ (number_law 0 (length names.listed + 1)) (λ state h.
        made_then _ _ _ _ _ _ _ _ caps_law (λ caps h.
        made_then _ _ _ _ _ _ _ _ route_basis_law (λ basis h.
        made_last _ (λ (kind : WideKind RouteColumn). Route (record { 0 = state }) caps basis kind) _ _ route_wide_law))))
        (lawful_branch true (Err Token) (codes "master") (master_at names) _ _ _ _ items_of _ refl (λ p h. refl)
        (made_then _ _ _ _ _ _ _ _ master_basis_law (λ basis h.
        made_last _ (λ (kind : WideKind MasterColumn). Master basis kind) _ _ master_wide_law))
        (lawful_no_branch true Token items_of)))

    -- ---- quality

    fractional_law : Lawful (fractional_at names demands) (λ f. Whole f.share.scale ∷ numbers_items f.share.units ++ routings_items names demands f.routings) (λ f. IsShareInForm names.links f.share × AreRoutingsInForm names demands f.routings) AnyText
    unfolding fractional_at
    fractional_law = law_made (fractional_at names demands) _ _ _ (λ f. Whole f.share.scale ∷ numbers_items f.share.units ++ routings_items names demands f.routings) (λ f. IsShareInForm names.links f.share × AreRoutingsInForm names demands f.routings)
        (λ q h. (record { positive = h.0.0; scale = h.0.1; units = record { long = h.1.0.0; each = h.1.0.1 } }, h.1.1))
        (λ q h. refl)
        (λ f h. record { parts = (f.share.scale, (f.share.units, f.routings)); right = ((h.0.positive, h.0.scale), ((h.0.units.long, h.0.units.each), h.1)); gives = refl })
        (made_then _ _ _ _ _ _ _ _ (number_law 1 (2 ^ 62)) (λ scale h.
        made_then _ _ _ _ _ _ _ _ (numbers_law (length names.links) (2 ^ 62)) (λ units h.
        made_last _ (λ (routings : List Routing). record { share = record { scale = scale; units = units }; routings = routings }) _ _ (routings_law names demands apart differ))))

    abbrev loose_items : Quality → List Item
    loose_items (Tight f) = []
    loose_items (Loose cause) = cause_items names.links demands cause

    abbrev IsLoose : Quality → Type 0
    IsLoose (Tight f) = ⊥
    IsLoose (Loose cause) = IsCauseInForm names demands cause

    loose_law : Lawful (loose_at names demands) loose_items IsLoose AnyText
    unfolding too_wide_at
    loose_law = branches_law true (Err Token) _ loose_items _ IsLoose
        (either_form true _ _ _ IsLoose (λ u m h. tt)
        (either_form true _ _ _ IsLoose (λ e m h. h)
        (λ c n. absurd n)))
        (quality_cases _
        (λ f h. absurd h)
        (λ e h. inr (inl (refl, record { parts = e; right = h; gives = refl })))
        (λ h. inl (refl, record { parts = tt; right = tt; gives = refl })))
        (lawful_branch true (Err Token) (codes "cuts") _ _ _ _ _ loose_items _ refl (λ p h. refl) (made_give (Loose Cuts))
        (lawful_branch true (Err Token) (codes "wide") (too_wide_at names demands) _ _ _ _ loose_items _ refl (λ p h. refl) (made_last _ (λ (e : Evidence). Loose (Wide e)) _ _ evidence_law)
        (lawful_no_branch true Token loose_items)))

    abbrev IsQuality : Quality → Type 0
    IsQuality q = IsQualityInForm names demands q

    abbrev items_for : Quality → List Item
    items_for q = quality_items names demands q

    loose_same : (q : Quality) → IsLoose q → Verbatim (codes "loose") ∷ loose_items q ≡ items_for q
    loose_same = quality_cases _ (λ f h. absurd h) (λ e h. refl) (λ h. refl)

    loose_form : (q : Quality) → IsLoose q → IsQuality q
    loose_form = quality_cases _ (λ f h. absurd h) (λ e h. h) (λ h. h)

    pub quality_law : Lawful (quality_at names demands) items_for IsQuality AnyText
    unfolding tight_at
    quality_law = branches_law true (Err Token) _ items_for _ IsQuality
        (either_form true _ _ _ IsQuality (λ f m h. h)
        (either_form true _ _ _ IsQuality (λ q m h. loose_form q h)
        (λ c n. absurd n)))
        (quality_cases _
        (λ f h. inl (refl, record { parts = f; right = h; gives = refl }))
        (λ e h. inr (inl (refl, record { parts = Loose (Wide e); right = h; gives = refl })))
        (λ h. inr (inl (refl, record { parts = Loose Cuts; right = h; gives = refl }))))
        (lawful_branch true (Err Token) (codes "tight") (tight_at names demands) _ _ _ _ items_for _ refl (λ p h. refl) (made_last _ (λ (f : Fractional). Tight f) _ _ fractional_law)
        (lawful_branch true (Err Token) (codes "loose") (loose_at names demands) _ _ _ _ items_for _ refl loose_same (made_law _ _ _ loose_law)
        (lawful_no_branch true Token items_for)))
