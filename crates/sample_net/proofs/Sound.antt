-- samples are networks, and their demands belong to them
use Rattle.std.{proofs.Common.{◌≡◌, ◌≢◌, ℕ, zero, suc, ◌+◌, ◌-◌, ◌*◌, ◌/◌, ◌%◌, ◌≤◌, ◌<◌, ◌==◌, not, false, ◌⊎◌, inl, inr, ⊎_elim, List, [], ◌∷◌, map, length, get_or, All, arith, ap, refl, sym, subst, ◌∙◌, length-append, div-add-mod'}, proofs.lemmas.List.Sums.sum_by-le}
use Rattle.net_core.proofs.Library.{list_any, range_with_len, All-append, All-cons, All-nil, list_any_none, length-map-range_with_len, mod_below}
use Rattle.plan_terms.specs.Terms.{AreDemands, IsDemand, IsLink, IsModule, IsNetwork, Demand, Link, Module}
use Rattle.sample_net.{specs.Draws.{nth_draw, nth_number}, specs.Samples.{chord_count, chord_ends, demands_between, links_between, numbered, ring_ends, sample_demand, sample_ends, sample_link, sample_links, sample_modules, sample_nodes, sample_pairs}, proofs.Naming.numbered_differ, proofs.Pairs.{AreOrdered, pairs_few, pairs_ordered}, proofs.Sequence.{all_made, draw_below, pairs_made, steps_add}}

-- ---- the ends of links

pub ends_long : (seed n : ℕ) → length (sample_ends seed n) ≡ n + chord_count n
ends_long seed n =
    let ring = map (ring_ends n) (range_with_len 0 n) in
    let chords = map (chord_ends seed n) (range_with_len 0 (chord_count n)) in
    omega (arith, length-append ring chords, length-map-range_with_len (ring_ends n) 0 n, length-map-range_with_len (chord_ends seed n) 0 (chord_count n))

-- the steps of chords and links
pub links_steps : (x n y z long : ℕ) → y ≡ nth_number x (chord_count n) → long ≡ n + chord_count n → z ≡ nth_number y (2 * long) → z ≡ nth_number x (chord_count n + 2 * (n + chord_count n))
links_steps x n y z long chords e last = last ∙ ap (λ k. nth_number y (2 * k)) e ∙ ap (λ v. nth_number v (2 * (n + chord_count n))) chords ∙ steps_add x (chord_count n) (2 * (n + chord_count n))

pub ends_few : (seed n : ℕ) → n ≤ 40 → length (sample_ends seed n) ≤ 60
ends_few seed n le = omega (arith, le, ends_long seed n)

-- two different ones of n nodes
record AreEnds (n : ℕ) (p : ℕ × ℕ) : Type 0 where
  from : p.0 < n
  to : p.1 < n
  different : p.0 ≢ p.1

-- a number below twice n goes at most once over n
once_over : (q r n s : ℕ) → q * n + r ≡ s → s < n + n → (r ≡ s) ⊎ (r + n ≡ s)
once_over zero r n s e lt = inl (omega (arith, e))
once_over (suc zero) r n s e lt = inr (omega (arith, e))
once_over (suc (suc q)) r n s e lt = absurd (omega (arith, e, lt))

mod_once : (s n : ℕ) → s < n + n → (s % n ≡ s) ⊎ (s % n + n ≡ s)
mod_once s n lt = once_over (s / n) (s % n) n s (div-add-mod' s n) lt

ring_are_ends : (n i : ℕ) → 4 ≤ n → i < n → AreEnds n (ring_ends n i)
ring_are_ends n i low lt =
    let over = mod_once (i + 1) n (omega (arith, low, lt)) in
    record {
      from = lt;
      to = mod_below (i + 1) n (omega (arith, low));
      different = λ (same : i ≡ (i + 1) % n). ⊎_elim (λ (a : (i + 1) % n ≡ i + 1). omega (arith, same, a)) (λ (b : (i + 1) % n + n ≡ i + 1). omega (arith, same, b, low)) over;
    }

chord_are_ends : (seed n c : ℕ) → 4 ≤ n → c < chord_count n → AreEnds n (chord_ends seed n c)
chord_are_ends seed n c low lt =
    let d = nth_draw seed c (n - 3) in
    let small : d < n - 3 = draw_below seed c (n - 3) (omega (arith, low)) in
    let s = 2 * c + 2 + d in
    let over = mod_once s n (omega (arith, low, lt, small)) in
    record {
      from = omega (arith, lt);
      to = mod_below s n (omega (arith, low));
      different = λ (same : 2 * c ≡ s % n). ⊎_elim (λ (a : s % n ≡ s). omega (arith, same, a)) (λ (b : s % n + n ≡ s). omega (arith, same, b, low, small)) over;
    }

ends_sound : (seed n : ℕ) → 4 ≤ n → All (AreEnds n) (sample_ends seed n)
ends_sound seed n low =
    All-append (AreEnds n) (map (ring_ends n) (range_with_len 0 n)) (map (chord_ends seed n) (range_with_len 0 (chord_count n)))
    (all_made (AreEnds n) (ring_ends n) 0 n (λ i lt. ring_are_ends n (0 + i) low (omega (arith, lt))))
    (all_made (AreEnds n) (chord_ends seed n) 0 (chord_count n) (λ c lt. chord_are_ends seed n (0 + c) low (omega (arith, lt))))

-- ---- the network

modules_sound : (small large : ℕ) → small < 80 → large < 200 → All IsModule (sample_modules small large)
modules_sound small large s l =
    let first : Module = record { capacity = 155000; cost = (20 + small) * 1000 } in
    let second : Module = record { capacity = 622000; cost = (50 + large) * 1000 } in
    All-cons IsModule first (second ∷ []) (record { carries = omega arith; capacity = omega arith; cost = omega (arith, s) })
    (All-cons IsModule second [] (record { carries = omega arith; capacity = omega arith; cost = omega (arith, l) }) (All-nil IsModule))

link_sound : (n e : ℕ) (ends : ℕ × ℕ) (small large : ℕ) → AreEnds n ends → small < 80 → large < 200 → IsLink n (sample_link e ends small large)
link_sound n e ends small large sound s l =
    record {
      from = sound.from;
      to = sound.to;
      different = sound.different;
      fixed = omega arith;
      setup = omega arith;
      few = omega arith;
      each = modules_sound small large s l;
      served = λ none. absurd cc;
    }

pub is_sample_network : (seed n : ℕ) → 4 ≤ n → n ≤ 40 → IsNetwork (sample_nodes n) (sample_links seed n)
is_sample_network seed n low high =
    let x = nth_number seed (chord_count n) in
    let ends = sample_ends seed n in
    let f : ℕ → Link = λ e. sample_link e (get_or ends e (0, 0)) (nth_draw x (2 * e) 80) (nth_draw x (2 * e + 1) 200) in
    let long = ends_long seed n in
    let nodes : length (sample_nodes n) ≡ n = length-map-range_with_len (numbered 110) 0 n in
    record {
      few_nodes = omega (arith, nodes, high);
      few_links = omega (arith, length-map-range_with_len f 0 (length ends), long, high);
      different_nodes = pairs_made (λ a b. a ≢ b) (numbered 110) n (λ i j lt within. numbered_differ 110 i j (omega (arith, lt, within, high)) (omega (arith, within, high)) (λ e. omega (arith, e, lt)));
      different_links = pairs_made (λ (a b : Link). a.name ≢ b.name) f (length ends)
          (λ i j lt within. numbered_differ 108 i j (omega (arith, lt, within, long, high)) (omega (arith, within, long, high)) (λ e. omega (arith, e, lt)));
      sound = subst (λ m. All (IsLink m) (map f (range_with_len 0 (length ends)))) (sym nodes)
          (all_made (IsLink n) f 0 (length ends)
          (λ e lt. link_sound n (0 + e) (get_or ends (0 + e) (0, 0)) _ _ (ends_sound seed n low (0 + e) (0, 0) (omega (arith, lt))) (draw_below x (2 * (0 + e)) 80 (omega arith)) (draw_below x (2 * (0 + e) + 1) 200 (omega arith))));
    }

pub links_long : (seed n : ℕ) → length (sample_links seed n) ≡ n + (n + 1) / 2
links_long seed n =
    let x = nth_number seed (chord_count n) in
    let ends = sample_ends seed n in
    length-map-range_with_len (λ e. sample_link e (get_or ends e (0, 0)) (nth_draw x (2 * e) 80) (nth_draw x (2 * e + 1) 200)) 0 (length ends) ∙ ends_long seed n

-- no link of a sample costs anything to set up
pub no_setup : (x : ℕ) (ends : List (ℕ × ℕ)) → list_any (λ l. not (l.setup == 0)) (links_between x ends) ≡ false
no_setup x ends =
    let f : ℕ → Link = λ e. sample_link e (get_or ends e (0, 0)) (nth_draw x (2 * e) 80) (nth_draw x (2 * e + 1) 200) in
    list_any_none (λ (l : Link). not (l.setup == 0)) (links_between x ends) (all_made (λ (l : Link). not (l.setup == 0) ≡ false) f 0 (length ends) (λ e lt. refl))

-- ---- the demands

demand_sound : (n k : ℕ) (ends : ℕ × ℕ) (d : ℕ) → AreOrdered n ends → d < 40 → IsDemand n (sample_demand k ends d)
demand_sound n k ends d ordered lt =
    record {
      from_known = omega (arith, ordered.before, ordered.within);
      to_known = ordered.within;
      different = λ same. omega (arith, same, ordered.before);
      need = omega (arith, lt);
    }

pub demands_long : (x : ℕ) (pairs : List (ℕ × ℕ)) → length (demands_between x pairs) ≡ length pairs
demands_long x pairs = length-map-range_with_len (λ k. sample_demand k (get_or pairs k (0, 0)) (nth_draw x k 40)) 0 (length pairs)

pub are_sample_demands : (x n : ℕ) → n ≤ 40 → AreDemands n (demands_between x (sample_pairs n))
are_sample_demands x n high =
    let pairs = sample_pairs n in
    let few = pairs_few n high in
    let f : ℕ → Demand = λ k. sample_demand k (get_or pairs k (0, 0)) (nth_draw x k 40) in
    let long = demands_long x pairs in
    let small : All (λ (d : Demand). d.need ≤ 40000) (map f (range_with_len 0 (length pairs))) =
    all_made (λ (d : Demand). d.need ≤ 40000) f 0 (length pairs) (λ k lt. omega (arith, draw_below x (0 + k) 40 (omega arith))) in
    record {
      few = omega (arith, long, few);
      different = pairs_made (λ (a b : Demand). a.name ≢ b.name) f (length pairs)
          (λ i j lt within. numbered_differ 100 i j (omega (arith, lt, within, few)) (omega (arith, within, few)) (λ e. omega (arith, e, lt)));
      each = all_made (IsDemand n) f 0 (length pairs)
          (λ k lt. demand_sound n (0 + k) (get_or pairs (0 + k) (0, 0)) _ (pairs_ordered n (0 + k) (0, 0) (omega (arith, lt))) (draw_below x (0 + k) 40 (omega arith)));
      total = omega (arith, sum_by-le (λ (d : Demand). d.need) 40000 (map f (range_with_len 0 (length pairs))) small, long, few);
    }
