-- The readings of paths and routings take exactly their texts.
use Rattle.std.proofs.Common.{◌≡◌, ◌≢◌, ℕ, ◌+◌, ◌^◌, ◌<◌, true, List, [], ◌∷◌, length, AllPairs, refl, ap, arith, codes}
use Rattle.plan_terms.specs.Terms.{Demand, LinkId, Link, Flow, Routing}
use Rattle.text_kit.{specs.Terms.{Verbatim, of_length, enclosed}, proofs.Beginnings.AnyText, proofs.Lemmas.{all_after, after_all, lawful_some}, proofs.Spelled.Lawful}
use Rattle.plan_report.specs.Terms.{AreRoutingsInForm, IsFlowInForm, IsPathInForm, IsRoutingInForm, flow_items, path_items, routing_items, routings_items, link_name, state_name, KnownNames}
use Rattle.report_words.{specs.declared.fault.ReportKind.TheVariants.{Token, Limit}, specs.Terms.{has_room, link_at}, proofs.Lemmas.{few_law, few_rooms, is_length, lawful_placed, length_is, numbered_items, rooms_few, law_made, made_last, made_law, made_then, AreApart, demand_within_law, keyword_within_law, link_law, number_law, opening_law, this_name_law, this_number_law}}
use Rattle.report_parts.specs.ReadingRoutings.{flow_at, path_at, routing_at, routings_at}

-- ---- paths and flows

abbrev pub AreLinksApart : List Link → Type 0
AreLinksApart links = AllPairs (λ x y. x.name ≢ y.name) links

pub path_law : (links : List Link) → AreLinksApart links → Lawful (path_at links) (path_items links) (IsPathInForm links) AnyText
unfolding path_at
path_law links apart = law_made (path_at links) (λ (q : Unit {0} × List LinkId). q.1) _ _ (path_items links) (IsPathInForm links)
    (λ q h. record { some = h.1.0; known = after_all (λ e. e.0 < length links) [] q.1 h.1.1 })
    (λ q h. refl)
    (λ es h. record { parts = (tt, es); right = (tt, (h.some, all_after (λ e. e.0 < length links) [] es h.known)); gives = refl })
    (made_then _ _ _ _ _ _ _ _ opening_law (λ x h.
    made_law _ _ _ (lawful_some Token (λ sofar. link_at links) (λ e. Verbatim (link_name links e) ∷ []) (λ sofar e. e.0 < length links) (λ e. tt) (λ sofar. link_law links apart))))

flow_law : (links : List Link) (demands : List Demand) → AreLinksApart links → AreApart demands → (sofar : List Flow) → Lawful (flow_at links demands sofar) (flow_items links demands) (λ f. (has_room 65536 sofar ≡ true) × IsFlowInForm links demands f) AnyText
unfolding flow_at
flow_law links demands apart differ sofar = law_made (flow_at links demands sofar) _ _ _ (flow_items links demands) (λ f. (has_room 65536 sofar ≡ true) × IsFlowInForm links demands f)
    (λ q h. (h.0.0, record { demand = h.0.1; positive = h.1.0.0; num = h.1.0.1; path = h.1.1 }))
    (λ q h. refl)
    (λ f h. record { parts = (f.demand, (f.num, f.path)); right = ((h.0, h.1.demand), ((h.1.positive, h.1.num), h.1.path)); gives = refl })
    (made_then _ _ _ _ _ _ _ _ (demand_within_law (has_room 65536 sofar) demands differ) (λ demand h.
    made_then _ _ _ _ _ _ _ _ (number_law 1 (2 ^ 124)) (λ num h.
    made_last _ (λ (path : List LinkId). record { demand = demand; path = path; num = num }) _ _ (path_law links apart))))

-- ---- routings

routing_law : (names : KnownNames) (demands : List Demand) → AreLinksApart names.links → AreApart demands → (sofar : List Routing) → Lawful (routing_at names demands sofar) (λ r. routing_items names demands (length sofar, r)) (λ r. (has_room (length names.listed + 1) sofar ≡ true) × IsRoutingInForm names.links demands r) AnyText
unfolding routing_at
routing_law names demands apart differ sofar = law_made (routing_at names demands sofar) _ _ _ (λ r. routing_items names demands (length sofar, r)) (λ r. (has_room (length names.listed + 1) sofar ≡ true) × IsRoutingInForm names.links demands r)
    (λ q h. (h.0, record { positive = h.1.1.1.0.0; den = h.1.1.1.0.1; few = h.1.1.1.1.1.0; flows = h.1.1.1.1.1.1 }))
    (λ q h. refl)
    (λ r h. record { parts = (tt, (tt, (tt, (r.den, (tt, r.flows))))); right = (h.0, (tt, (tt, ((h.1.positive, h.1.den), (tt, (h.1.few, h.1.flows)))))); gives = refl })
    (made_then _ _ _ _ _ _ _ _ (keyword_within_law (has_room (length names.listed + 1) sofar) (codes "state")) (λ x h.
    made_then _ _ _ _ _ _ _ _ (this_number_law (length sofar)) (λ x h.
    made_then _ _ _ _ _ _ _ _ (this_name_law (state_name names.listed (length sofar))) (λ x h.
    made_then _ _ _ _ _ _ _ _ (number_law 1 (2 ^ 62)) (λ den h.
    made_then _ _ _ _ _ _ _ _ opening_law (λ x h.
    made_last _ (λ (flows : List Flow). record { den = den; flows = flows }) _ _ (few_law 65536 (flow_at names.links demands) (flow_items names.links demands) (IsFlowInForm names.links demands) (λ f. tt) (flow_law names.links demands apart differ))))))))

pub routings_law : (names : KnownNames) (demands : List Demand) → AreLinksApart names.links → AreApart demands → Lawful (routings_at names demands) (routings_items names demands) (AreRoutingsInForm names demands) AnyText
unfolding routings_at
routings_law names demands apart differ = law_made (routings_at names demands) (λ (q : Unit {0} × List Routing). q.1) _ _ (routings_items names demands) (AreRoutingsInForm names demands)
    (λ q h. record { long = length_is (length names.listed + 1) Limit q.1 h.1.0; each = (rooms_few (length names.listed + 1) (IsRoutingInForm names.links demands) q.1 h.1.1).1 })
    (λ q h. ap enclosed (numbered_items (λ k r. routing_items names demands (k, r)) (routing_items names demands) 0 (λ k r. ap (λ (i : ℕ). routing_items names demands (i, r)) (omega arith)) 0 0 q.1 (omega arith)))
    (λ rs h. record { parts = (tt, rs); right = (tt, (is_length (length names.listed + 1) Limit rs h.long, few_rooms (length names.listed + 1) (IsRoutingInForm names.links demands) rs (omega (arith, h.long)) h.each)); gives = refl })
    (made_then _ _ _ _ _ _ _ _ opening_law (λ x h.
    made_law _ _ _ (lawful_placed (λ k r. routing_items names demands (k, r)) (λ sofar r. (has_room (length names.listed + 1) sofar ≡ true) × IsRoutingInForm names.links demands r) (of_length (length names.listed + 1) Limit) (routing_at names demands) (λ k r. tt) (routing_law names demands apart differ))))
