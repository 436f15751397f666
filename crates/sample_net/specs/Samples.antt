-- the sample network of a seed with n nodes: first come the draws of the chords, then those of the modules, then those of the needs
use Rattle.std.{specs.Prelude.{ℕ, ◌+◌, ◌-◌, ◌*◌, ◌/◌, ◌%◌, List, [], ◌∷◌, ◌++◌, false, flat_map, length, map, slice_index_or, decimal}, specs.List.range_with_len}
use Rattle.plan_terms.specs.Terms.{Case, Demand, Link, Module, Notes, Three}
use Rattle.model_reader.specs.Failures.{single_states}
use Rattle.sample_net.specs.Draws.{nth_draw, nth_number}

-- a letter with a number, as n0 (110 is `n`, 108 `l` and 100 `d`)
abbrev pub numbered : ℕ → ℕ → List ℕ
numbered letter k = letter ∷ decimal k

-- the nodes n0, n1 and so on
abbrev pub sample_nodes : ℕ → List (List ℕ)
sample_nodes n = map (numbered 110) (range_with_len 0 n)

-- a chord for each even node, beside a ring link for each node
abbrev pub chord_count : ℕ → ℕ
chord_count n = (n + 1) / 2

-- ring link i joins node i with the next one
abbrev pub ring_ends : ℕ → ℕ → ℕ × ℕ
ring_ends n i = (i, (i + 1) % n)

-- chord c joins node 2c with one that is drawn, neither itself nor a neighbour on the ring
abbrev pub chord_ends : ℕ → ℕ → ℕ → ℕ × ℕ
chord_ends seed n c = (2 * c, (2 * c + 2 + nth_draw seed c (n - 3)) % n)

-- the ends of all links: the ring, then the chords
abbrev pub sample_ends : ℕ → ℕ → List (ℕ × ℕ)
sample_ends seed n = map (ring_ends n) (range_with_len 0 n) ++ map (chord_ends seed n) (range_with_len 0 (chord_count n))

-- 155.00 for 20 to 99 whole units, and 622.00 for 50 to 249, as two draws say
abbrev pub sample_modules : ℕ → ℕ → List Module
sample_modules small large =
    record { capacity = 155000; cost = (20 + small) * 1000 } ∷ record { capacity = 622000; cost = (50 + large) * 1000 } ∷ []

-- link e between these ends, of the modules that two draws give
abbrev pub sample_link : ℕ → ℕ × ℕ → ℕ → ℕ → Link
sample_link e ends small large =
    record { name = numbered 108 e; a = record { 0 = ends.0 }; b = record { 0 = ends.1 }; fixed = 0; setup = 0; modules = sample_modules small large }

-- the links l0, l1 and so on between these ends: link e takes the draws 2e and 2e + 1 after x
abbrev pub links_between : ℕ → List (ℕ × ℕ) → List Link
links_between x ends = map (λ e. sample_link e (slice_index_or ends e (0, 0)) (nth_draw x (2 * e) 80) (nth_draw x (2 * e + 1) 200))
    (range_with_len 0 (length ends))

-- the links: their draws follow those of the chords
abbrev pub sample_links : ℕ → ℕ → List Link
sample_links seed n = links_between (nth_number seed (chord_count n)) (sample_ends seed n)

-- no cost beside those of modules
abbrev pub no_notes : Notes
no_notes = record { fixed_cost = false; routing_cost = false; setup_cost = false }

-- the pairs of node i with each later one
abbrev pub pairs_of : ℕ → ℕ → List (ℕ × ℕ)
pairs_of n i = map (λ j. (i, j)) (range_with_len (i + 1) (n - (i + 1)))

-- all pairs i < j, in the order of i and then of j
abbrev pub sample_pairs : ℕ → List (ℕ × ℕ)
sample_pairs n = flat_map (pairs_of n) (range_with_len 0 n)

-- demand k between these nodes: 1 to 40 whole units, as a draw says
abbrev pub sample_demand : ℕ → ℕ × ℕ → ℕ → Demand
sample_demand k ends drawn = record { name = numbered 100 k; from = record { 0 = ends.0 }; to = record { 0 = ends.1 }; need = (1 + drawn) * 1000 }

-- the demands d0, d1 and so on between these nodes: demand k takes the draw k after x
abbrev pub demands_between : ℕ → List (ℕ × ℕ) → List Demand
demands_between x pairs = map (λ k. sample_demand k (slice_index_or pairs k (0, 0)) (nth_draw x k 40)) (range_with_len 0 (length pairs))

-- the demands: their draws follow those of the chords and the two of each link
abbrev pub sample_demands : ℕ → ℕ → List Demand
sample_demands seed n = demands_between (nth_number seed (chord_count n + 2 * (n + chord_count n))) (sample_pairs n)

-- a network with three places and its demands, where each link fails alone
abbrev pub with_single_failures : List (List ℕ) → List Link → List Demand → Case
with_single_failures nodes links demands = record { nodes = nodes; links = links; listed = single_states links; demands = demands; places = Three }
