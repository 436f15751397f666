-- samples are survivable: a ring without one of its links leads from each node to each other
use Rattle.std.proofs.Common.{◌≡◌, ◌≢◌, ℕ, zero, suc, ◌+◌, ◌*◌, ◌%◌, ◌<◌, List, [], ◌∷◌, map, length, get_or, All, Some, false, slice_get, inl, arith, ap, refl, subst, ◌∙◌, ne_eqb}
use Rattle.net_core.proofs.Library.{range_with_len, get_or_append_left, get_or-map-range_with_len, length-map-range_with_len, get_or_from_slice_get, slice_get-get_or, slice_get_within}
use Rattle.plan_terms.{specs.Terms.{graph_in, Joins, fails, Demand, Link, IsSurvivable}, proofs.Lemmas.joins_turned}
use Rattle.model_reader.specs.Failures.{single_states, singles_from}
use Rattle.sample_net.{specs.Draws.{nth_draw, nth_number}, specs.Samples.{chord_count, chord_ends, demands_between, ring_ends, sample_demand, sample_ends, sample_link, sample_links, sample_pairs, with_single_failures}, proofs.Pairs.{AreOrdered, pairs_ordered}, proofs.Rings.{HasRing, not_apart, ring_connects}, proofs.Sequence.all_made, proofs.Sound.ends_long}

-- a link's own state fails no other
fails_alone : (at : ℕ) (links : List Link) (i e : ℕ) → at + i ≢ e → fails (singles_from at links) (suc i) e ≡ false
fails_alone at [] i e other = refl
fails_alone at (l ∷ ls) zero e other = rw (ne_eqb at e (λ same. other (omega (arith, same)))) refl
fails_alone at (l ∷ ls) (suc i) e other = fails_alone (at + 1) ls i e (λ same. other (omega (arith, same)))

-- state s fails at most link s - 1
others_stay : (links : List Link) (s e : ℕ) → e + 1 ≢ s → fails (single_states links) s e ≡ false
others_stay links zero e other = refl
others_stay links (suc i) e other = fails_alone 0 links i e (λ same. other (omega (arith, same)))

-- ring link i joins its two ends
ring_end : (seed n i : ℕ) → i < n → get_or (sample_ends seed n) i (0, 0) ≡ ring_ends n i
ring_end seed n i lt =
    let ring = map (ring_ends n) (range_with_len 0 n) in
    let long : length ring ≡ n = length-map-range_with_len (ring_ends n) 0 n in
    get_or_append_left ring (map (chord_ends seed n) (range_with_len 0 (chord_count n))) (0, 0) i (omega (arith, lt, long))
    ∙ get_or-map-range_with_len (ring_ends n) 0 n i i (0, 0) lt (omega arith)

-- ring link i of a sample
abbrev ring_link : ℕ → ℕ → ℕ → Link
ring_link seed n i =
    let x = nth_number seed (chord_count n) in
    sample_link i (ring_ends n i) (nth_draw x (2 * i) 80) (nth_draw x (2 * i + 1) 200)

ring_at : (seed n i : ℕ) → i < n → slice_get (sample_links seed n) i ≡ Some (ring_link seed n i)
ring_at seed n i lt =
    let x = nth_number seed (chord_count n) in
    let ends = sample_ends seed n in
    let f : ℕ → Link = λ e. sample_link e (get_or ends e (0, 0)) (nth_draw x (2 * e) 80) (nth_draw x (2 * e + 1) 200) in
    let in_ends : i < length ends = omega (arith, lt, ends_long seed n) in
    let in_links : i < length (sample_links seed n) = omega (arith, in_ends, length-map-range_with_len f 0 (length ends)) in
    slice_get-get_or (sample_links seed n) i (ring_link seed n i) in_links
    ∙ ap Some (get_or-map-range_with_len f 0 (length ends) i i (ring_link seed n i) in_ends (omega arith)
    ∙ ap (λ p. sample_link i p (nth_draw x (2 * i) 80) (nth_draw x (2 * i + 1) 200)) (ring_end seed n i lt))

-- and joins them in each state that doesn't fail it
ring_joins : (nodes : List (List ℕ)) (demands : List Demand) (seed n s i : ℕ) → i < n → i + 1 ≢ s → Joins (graph_in (with_single_failures nodes (sample_links seed n) demands) s) i i ((i + 1) % n)
ring_joins nodes demands seed n s i lt other = record {
  survives = record {
    link = ring_link seed n i;
    at = ring_at seed n i lt;
    has_module = λ none. absurd cc;
    unfailed = others_stay (sample_links seed n) s i other;
  };
  ends = inl (refl, refl);
}

-- a demand goes from a node to a later one
record IsUpward (n : ℕ) (d : Demand) : Type 0 where
  lower : d.from.0 < d.to.0
  within : d.to.0 < n

demands_upward : (x n : ℕ) → All (IsUpward n) (demands_between x (sample_pairs n))
demands_upward x n =
    let pairs = sample_pairs n in
    all_made (IsUpward n) (λ k. sample_demand k (get_or pairs k (0, 0)) (nth_draw x k 40)) 0 (length pairs)
    (λ k lt. let o : AreOrdered n (get_or pairs (0 + k) (0, 0)) = pairs_ordered n (0 + k) (0, 0) (omega (arith, lt)) in
    record { lower = o.before; within = o.within })

pub is_survivable : (nodes : List (List ℕ)) (seed x n : ℕ) → IsSurvivable (with_single_failures nodes (sample_links seed n) (demands_between x (sample_pairs n)))
is_survivable nodes seed x n s k le separates =
    let demands = demands_between x (sample_pairs n) in
    let p = with_single_failures nodes (sample_links seed n) demands in
    let d = separates.demand in
    let up : IsUpward n d = subst (IsUpward n) (get_or_from_slice_get demands k d d separates.at) (demands_upward x n k d (slice_get_within demands k d separates.at)) in
    let ring : HasRing (Joins (graph_in p s)) n s = record {
      next = λ i lt other. ring_joins nodes demands seed n s i lt other;
      turns = joins_turned (graph_in p s);
    } in
    not_apart (Joins (graph_in p s)) d.from.0 d.to.0 (ring_connects (Joins (graph_in p s)) n s d.from.0 d.to.0 ring up.lower up.within) separates.apart
