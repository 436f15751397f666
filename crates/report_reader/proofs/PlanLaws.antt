-- The readings of plans take exactly their texts.
use Rattle.std.proofs.Common.{◌≡◌, ◌≢◌, ℕ, ◌^◌, ◌<◌, ◌≤◌, List, [], ◌∷◌, ◌++◌, All, AllPairs, refl, sym, ap, ◌∙◌, arith, append_assoc, codes, flat_map, slice_get, zip}
use Rattle.plan_terms.specs.Terms.{Demand, Places, CutLine, AreCounts, AreWithinLimits}
use Rattle.text_kit.{specs.Terms.{ComeAfter, Item, Verbatim, Whole, Money, section}, proofs.Beginnings.AnyText, proofs.Spelled.Lawful}
use Rattle.plan_report.specs.Terms.{AreRoutingsInForm, IsDemandInForm, IsOfPool, IsPlanInForm, IsQualityInForm, certificate_items, demand_items, modules_items, plan_items, quality_items, routings_items, KnownNames, Plan, Quality}
use Rattle.report_words.proofs.Lemmas.{field_law, law_made, made_last, made_then, AreApart, keyword_law, money_law, number_law}
use Rattle.report_parts.proofs.Lemmas.{IsSound, modules_law, quality_law, AreLinksApart, routings_law, IsCertificate, IsPoolInForm, certificate_law, demands_apart, demands_law}
use Rattle.report_reader.{specs.declared.parts.Head.Head, specs.declared.parts.PlanParts.PlanParts, specs.declared.parts.Routed.Routed, specs.declared.parts.Values.Values, specs.ReadingPlan.{plan_at, plan_of_parts, plan_parts_at, routed_at, values_at}}

-- ---- costs and bounds

abbrev values_items : Places → Values → List Item
values_items p v = Verbatim (codes "cost") ∷ Money p v.cost ∷ Verbatim (codes "bound") ∷ Money p v.bound ∷ Verbatim (codes "raw") ∷ Whole v.raw_num ∷ Whole v.raw_den ∷ []

pub record AreValues (v : Values) : Type 0 where
  pub low : v.cost < 2 ^ 126
  pub bounded : v.bound < 2 ^ 126
  pub num : v.raw_num < 2 ^ 126
  pub positive : 1 ≤ v.raw_den
  pub den : v.raw_den < 2 ^ 72

values_law : (p : Places) → Lawful (values_at p) (values_items p) AreValues AnyText
unfolding values_at
values_law p = law_made (values_at p) _ _ _ (values_items p) AreValues
    (λ q h. record { low = h.1.0; bounded = h.1.1.1.0; num = h.1.1.1.1.0.1; positive = h.1.1.1.1.1.0; den = h.1.1.1.1.1.1 })
    (λ q h. refl)
    (λ v h. record { parts = (tt, (v.cost, (tt, (v.bound, (v.raw_num, v.raw_den))))); right = (tt, (h.low, (tt, (h.bounded, ((omega arith, h.num), (h.positive, h.den)))))); gives = refl })
    (made_then _ _ _ _ _ _ _ _ (keyword_law (codes "cost")) (λ x h.
    made_then _ _ _ _ _ _ _ _ (money_law p (2 ^ 126)) (λ cost h.
    made_then _ _ _ _ _ _ _ _ (keyword_law (codes "bound")) (λ x h.
    made_then _ _ _ _ _ _ _ _ (money_law p (2 ^ 126)) (λ bound h.
    made_then _ _ _ _ _ _ _ _ (field_law (codes "raw") 0 (2 ^ 126)) (λ num h.
    made_last _ (λ (den : ℕ). record { cost = cost; bound = bound; raw_num = num; raw_den = den }) _ _ (number_law 1 (2 ^ 72))))))))

-- ---- plans

joined : (a b c d e f : List Item) → a ++ (b ++ (c ++ (d ++ (e ++ f)))) ≡ ((((a ++ b) ++ c) ++ d) ++ e) ++ f
joined a b c d e f = sym (append_assoc a b (c ++ (d ++ (e ++ f)))) ∙ (sym (append_assoc (a ++ b) c (d ++ (e ++ f))) ∙ (sym (append_assoc ((a ++ b) ++ c) d (e ++ f)) ∙ sym (append_assoc (((a ++ b) ++ c) ++ d) e f)))

abbrev pub values_of : Plan → Values
values_of p = record { cost = p.cost; bound = p.bound; raw_num = p.raw_num; raw_den = p.raw_den }

-- a plan with another version and position
abbrev with_head : ℕ → ℕ → Plan → Plan
with_head version position p = record { version = version; position = position; demands = p.demands; counts = p.counts; cost = p.cost; routings = p.routings; certificate = p.certificate; raw_num = p.raw_num; raw_den = p.raw_den; bound = p.bound; quality = p.quality }

-- the items of routings and of how good the bound is
abbrev routed_items : KnownNames → List Demand → Routed → List Item
routed_items names demands r = (Verbatim (codes "ROUTES") ∷ routings_items names demands r.routings) ++ quality_items names demands r.quality

abbrev AreRoutedInForm : KnownNames → List Demand → Routed → Type 0
AreRoutedInForm names demands r = AreRoutingsInForm names demands r.routings × IsQualityInForm names demands r.quality

routed_law : (names : KnownNames) (demands : List Demand) → AreLinksApart names.links → AreApart demands → Lawful (routed_at names demands) (routed_items names demands) (AreRoutedInForm names demands) AnyText
unfolding routed_at
routed_law names demands apart differ = law_made (routed_at names demands) _ _ _ (routed_items names demands) (AreRoutedInForm names demands)
    (λ q h. (h.1.0, h.1.1))
    (λ q h. refl)
    (λ r h. record { parts = (tt, (r.routings, r.quality)); right = (tt, (h.0, h.1)); gives = refl })
    (made_then _ _ _ _ _ _ _ _ (keyword_law (codes "ROUTES")) (λ x h.
    made_then _ _ _ _ _ _ _ _ (routings_law names demands apart differ) (λ routings h.
    made_last _ (λ (quality : Quality). record { routings = routings; quality = quality }) _ _ (quality_law names apart demands differ))))

abbrev routed_of : Plan → Routed
routed_of p = record { routings = p.routings; quality = p.quality }

module _ (names : KnownNames) (pool : List CutLine) where
  -- a plan of a head, part by part
  abbrev pub IsPlanOf : Head → Plan → Type 0
  IsPlanOf head p = ((head.version ≡ p.version) × (head.position ≡ p.position)) × (ComeAfter (IsDemandInForm names.nodes) [] p.demands × (AreValues (values_of p) × ((AreCounts names.links p.counts × AreWithinLimits names.links p.counts)
      × (IsCertificate names pool p.certificate × (AreRoutingsInForm names p.demands p.routings × IsQualityInForm names p.demands p.quality)))))

  -- what follows the demands of a plan, part by part
  abbrev AreParts : List Demand → PlanParts → Type 0
  AreParts demands s = AreValues s.values × ((AreCounts names.links s.counts × AreWithinLimits names.links s.counts) × (IsCertificate names pool s.certificate × AreRoutedInForm names demands s.routed))

  -- and its items
  abbrev parts_items : List Demand → PlanParts → List Item
  parts_items demands s = values_items names.places s.values ++ (section (codes "MODULES") (flat_map modules_items (zip names.links s.counts)) ++ (certificate_items s.certificate ++ routed_items names demands s.routed))

  parts_law : AreLinksApart names.links → ((k : ℕ) → IsSound (slice_get names.links k)) → IsPoolInForm names pool → (demands : List Demand) → AreApart demands → Lawful (plan_parts_at names pool demands) (parts_items demands) (AreParts demands) AnyText
  unfolding plan_parts_at
  parts_law apart sound form demands differ = law_made (plan_parts_at names pool demands) _ _ _ (parts_items demands) (AreParts demands)
      (λ q h. h)
      (λ q h. refl)
      (λ s h. record { parts = (s.values, (s.counts, (s.certificate, s.routed))); right = h; gives = refl })
      (made_then _ _ _ _ _ _ _ _ (values_law names.places) (λ values h.
      made_then _ _ _ _ _ _ _ _ (modules_law names.links sound) (λ counts h.
      made_then _ _ _ _ _ _ _ _ (certificate_law names pool form) (λ certificate h.
      made_last _ (λ (r : Routed). record { values = values; counts = counts; certificate = certificate; routed = r }) _ _ (routed_law names demands apart differ)))))

  pub plan_law : AllPairs (λ x y. x ≢ y) names.nodes → AreLinksApart names.links → ((k : ℕ) → IsSound (slice_get names.links k)) → IsPoolInForm names pool → (head : Head) → Lawful (plan_at names pool head) (plan_items names) (IsPlanOf head) AnyText
  unfolding plan_at
  plan_law nodes_apart apart sound form head = law_made (plan_at names pool head) _ _ _ (plan_items names) (IsPlanOf head)
      (λ q h. ((refl, refl), (h.0, (h.1.0, (h.1.1.0, (h.1.1.1.0, (h.1.1.1.1.0, h.1.1.1.1.1)))))))
      (λ q h. joined (section (codes "DEMANDS") (flat_map (demand_items names.places names.nodes) q.0)) (values_items names.places q.1.values) (section (codes "MODULES") (flat_map modules_items (zip names.links q.1.counts))) (certificate_items q.1.certificate) (Verbatim (codes "ROUTES") ∷ routings_items names q.0 q.1.routed.routings) (quality_items names q.0 q.1.routed.quality))
      (λ p h. record {
        parts = (p.demands, record { values = values_of p; counts = p.counts; certificate = p.certificate; routed = routed_of p });
        right = (h.1.0, (h.1.1.0, (h.1.1.1.0, (h.1.1.1.1.0, (h.1.1.1.1.1.0, h.1.1.1.1.1.1)))));
        gives = ap (λ (v : ℕ). with_head v head.position p) h.0.0 ∙ ap (λ (w : ℕ). with_head p.version w p) h.0.1;
      })
      (made_then _ _ _ _ _ _ _ _ (demands_law names.nodes nodes_apart names.places) (λ demands hd.
      made_last _ (λ (s : PlanParts). plan_of_parts head demands s) _ _ (parts_law apart sound form demands (demands_apart names.nodes nodes_apart demands hd))))

  -- and all together
  pub plan_form : (head : Head) (p : Plan) → head.version ≤ 65536 → head.position ≤ 65536 → IsPlanOf head p → IsPlanInForm names p × All (λ l. IsOfPool pool l.spot l.cut) p.certificate.lines
  plan_form head p v w h = (
    record {
      version = omega (arith, v, h.0.0);
      position = omega (arith, w, h.0.1);
      demands = h.1.0;
      counts = h.1.1.1.0.0;
      limits = h.1.1.1.0.1;
      cost = h.1.1.0.low;
      routings = h.1.1.1.1.1.0;
      certificate = record { positive = h.1.1.1.1.0.0.0; den = h.1.1.1.1.0.0.1; few = h.1.1.1.1.0.1.0; lines = λ k d lt. (h.1.1.1.1.0.1.1 k d lt).0 };
      raw_num = h.1.1.0.num;
      raw_positive = h.1.1.0.positive;
      raw_den = h.1.1.0.den;
      bound = h.1.1.0.bounded;
      quality = h.1.1.1.1.1.1;
    },
    λ k d lt. (h.1.1.1.1.0.1.1 k d lt).1,
  )

  pub form_plan : (head : Head) (p : Plan) → head.version ≡ p.version → head.position ≡ p.position → IsPlanInForm names p → All (λ l. IsOfPool pool l.spot l.cut) p.certificate.lines → IsPlanOf head p
  form_plan head p v w f pooled = (
    (v, w),
    (
      f.demands,
      (
        record { low = f.cost; bounded = f.bound; num = f.raw_num; positive = f.raw_positive; den = f.raw_den },
        (
          (f.counts, f.limits),
          (((f.certificate.positive, f.certificate.den), (f.certificate.few, λ k d lt. (f.certificate.lines k d lt, pooled k d lt))), (f.routings, f.quality)),
        ),
      ),
    ),
  )
