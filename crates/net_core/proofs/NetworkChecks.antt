-- what the tests of a network tell
use Rattle.std.{proofs.Common.{◌≡◌, ◌≢◌, ℕ, ◌+◌, ◌<◌, ◌≤◌, ◌^◌, true, false, cond, not, ◌||◌, ◌&&◌, ◌==◌, nat_lt, List, [], ◌∷◌, ◌++◌, All, AllPairs, Option, None, Some, is_some, get_or, length, sym, ◌∙◌, ap, subst, arith, take, drop, add-one, append_assoc, append-nil, drop-cons, take-suc}, specs.Option.option_or, specs.List.list_any, proofs.lemmas.List.Elements.{All-cons, All-nil, All-append}, proofs.lemmas.List.Quantifiers.all_pairs_push, proofs.lemmas.Bool.{leb-false, ltb-false, ltb-true, eqb-false, le-ltb, or_parts, and_parts}}
use Rattle.net_core.{specs.declared.network.Module.Module, specs.declared.network.Link.Link, specs.declared.network.NetFault.NetFault, specs.declared.network.NetFault.TheVariants.{Nodes, Links, DoubleNode, DoubleLink, UnknownEnd, SelfLink, Amount, Modules, ZeroModule, FixedLink}, specs.Tests.{first_fault, is_named, is_large}, specs.Network.{IsModule, IsLink, IsNetwork, has_large_amount, link_tests, links_tests, nodes_tests, network_fault}, proofs.Checks.{first_fault-append, none_head, none_or, none_passes, none_named, not_true, no_pairs, or_some, or_none}}

-- the tests of the links from i on begin with those of i
pub links_step : (n : ℕ) (links : List Link) (i : ℕ) (d : Link) → i < length links → first_fault (links_tests n (take i links) (drop i links)) ≡ option_or (first_fault (link_tests n (take i links) (get_or links i d))) (first_fault (links_tests n (take (i + 1) links) (drop (i + 1) links)))
links_step n links i d h =
    let more : take (i + 1) links ≡ take i links ++ get_or links i d ∷ [] = rw add-one (take-suc links i d h) in
    let front : drop i links ≡ get_or links i d ∷ drop (i + 1) links = rw add-one (drop-cons links i d h) in
    ap (λ rest. first_fault (links_tests n (take i links) rest)) front
    ∙ first_fault-append (link_tests n (take i links) (get_or links i d)) (links_tests n (take i links ++ get_or links i d ∷ []) (drop (i + 1) links))
    ∙ ap (λ seen. option_or (first_fault (link_tests n (take i links) (get_or links i d))) (first_fault (links_tests n seen (drop (i + 1) links)))) (sym more)

-- names that pass their tests are different
pub nodes_differ : (earlier names : List (List ℕ)) → AllPairs (λ x y. x ≢ y) earlier → first_fault (nodes_tests earlier names) ≡ None → AllPairs (λ x y. x ≢ y) (earlier ++ names)
nodes_differ earlier [] pairs h = subst (λ xs. AllPairs (λ x y. x ≢ y) xs) (sym (append-nil earlier)) pairs
nodes_differ earlier (name ∷ names) pairs h =
    let both = none_head (is_named (λ x. x) name earlier) (DoubleNode (length earlier)) (first_fault (nodes_tests (earlier ++ name ∷ []) names)) h in
    let now : AllPairs (λ x y. x ≢ y) (earlier ++ name ∷ []) = all_pairs_push (λ x y. x ≢ y) earlier name pairs (none_named (λ x. x) name earlier both.0) in
    let rest : AllPairs (λ x y. x ≢ y) ((earlier ++ name ∷ []) ++ names) = nodes_differ (earlier ++ name ∷ []) names now both.1 in
    subst (λ xs. AllPairs (λ x y. x ≢ y) xs) (append_assoc earlier (name ∷ []) names) rest

-- a module that passes its tests is sound
sound_module : (m : Module) → (is_large m.capacity || is_large m.cost) ≡ false → (m.capacity == 0) ≡ false → IsModule m
sound_module m large zero =
    let both = or_parts (is_large m.capacity) (is_large m.cost) large in
    record {
      carries = let some : m.capacity ≡ 0 → ⊥ = eqb-false m.capacity 0 zero in omega arith;
      capacity = leb-false (2 ^ 40) m.capacity both.0;
      cost = leb-false (2 ^ 40) m.cost both.1;
    }

-- each module of a link that passes its tests is sound
sound_modules : (modules : List Module) → list_any (λ m. is_large m.capacity || is_large m.cost) modules ≡ false → list_any (λ m. m.capacity == 0) modules ≡ false → All IsModule modules
sound_modules modules large zero k d lt =
    sound_module (get_or modules k d) (none_passes (λ m. is_large m.capacity || is_large m.cost) modules large k d lt) (none_passes (λ m. m.capacity == 0) modules zero k d lt)

-- what serves no link with pre-installed capacity and no module
served_link : (l : Link) → ((length l.modules == 0) && nat_lt 0 l.fixed) ≡ false → l.modules ≡ [] → l.fixed ≡ 0
served_link l h none =
    let empty : (length l.modules == 0) ≡ true = ap (λ ms. length ms == 0) none in
    let small : nat_lt 0 l.fixed ≡ false = subst (λ v. (v && nat_lt 0 l.fixed) ≡ false) empty h in
    let le : l.fixed ≤ 0 = ltb-false 0 l.fixed small in
    omega arith

-- a link that passes its tests is sound, and no earlier one has its name
pub sound_link : (n : ℕ) (earlier : List Link) (l : Link) → first_fault (link_tests n earlier l) ≡ None → (is_named (λ e. e.name) l.name earlier ≡ false) × IsLink n l
sound_link n earlier l h =
    let at = length earlier in
    let double = none_head (is_named (λ e. e.name) l.name earlier) (DoubleLink at) _ h in
    let ends = none_head (not (nat_lt l.a.0 n && nat_lt l.b.0 n)) (UnknownEnd at) _ double.1 in
    let self = none_head (l.a.0 == l.b.0) (SelfLink at) _ ends.1 in
    let amounts = none_head (has_large_amount l) (Amount at) _ self.1 in
    let few = none_head (nat_lt 16 (length l.modules)) (Modules at) _ amounts.1 in
    let zero = none_head (list_any (λ m. m.capacity == 0) l.modules) (ZeroModule at) _ few.1 in
    let served = none_head ((length l.modules == 0) && nat_lt 0 l.fixed) (FixedLink at) _ zero.1 in
    let known = and_parts (nat_lt l.a.0 n) (nat_lt l.b.0 n) (not_true (nat_lt l.a.0 n && nat_lt l.b.0 n) ends.0) in
    let large = or_parts (is_large l.fixed || is_large l.setup) (list_any (λ m. is_large m.capacity || is_large m.cost) l.modules) amounts.0 in
    let costs = or_parts (is_large l.fixed) (is_large l.setup) large.0 in (
      double.0,
      record {
        from = ltb-true l.a.0 n known.0;
        to = ltb-true l.b.0 n known.1;
        different = eqb-false l.a.0 l.b.0 self.0;
        fixed = leb-false (2 ^ 40) l.fixed costs.0;
        setup = leb-false (2 ^ 40) l.setup costs.1;
        few = ltb-false 16 (length l.modules) few.0;
        each = sound_modules l.modules large.1 zero.0;
        served = served_link l served.0;
      },
    )

-- links that pass their tests are sound and different
pub sound_links : (n : ℕ) (earlier links : List Link) → AllPairs (λ x y. x.name ≢ y.name) earlier → All (IsLink n) earlier → first_fault (links_tests n earlier links) ≡ None → AllPairs (λ x y. x.name ≢ y.name) (earlier ++ links) × All (IsLink n) (earlier ++ links)
sound_links n earlier [] pairs each h =
    subst (λ xs. AllPairs (λ x y. x.name ≢ y.name) xs × All (IsLink n) xs) (sym (append-nil earlier)) (pairs, each)
sound_links n earlier (l ∷ ls) pairs each h =
    let split = none_or (first_fault (link_tests n earlier l)) (first_fault (links_tests n (earlier ++ l ∷ []) ls)) (sym (first_fault-append (link_tests n earlier l) (links_tests n (earlier ++ l ∷ []) ls)) ∙ h) in
    let now = sound_link n earlier l split.0 in
    let pairs' : AllPairs (λ x y. x.name ≢ y.name) (earlier ++ l ∷ []) = all_pairs_push (λ x y. x.name ≢ y.name) earlier l pairs (none_named (λ e. e.name) l.name earlier now.0) in
    let each' : All (IsLink n) (earlier ++ l ∷ []) = All-append (IsLink n) earlier (l ∷ []) each (All-cons (IsLink n) l [] now.1 (All-nil (IsLink n))) in
    subst (λ xs. AllPairs (λ x y. x.name ≢ y.name) xs × All (IsLink n) xs) (append_assoc earlier (l ∷ []) ls) (sound_links n (earlier ++ l ∷ []) ls pairs' each' split.1)

-- what has no fault is a network
pub sound_network : (nodes : List (List ℕ)) (links : List Link) → network_fault nodes links ≡ None → IsNetwork nodes links
sound_network nodes links h =
    let counts = none_head (nat_lt 128 (length nodes)) Nodes _ h in
    let counts' = none_head (nat_lt 256 (length links)) Links _ counts.1 in
    let split = none_or (first_fault (nodes_tests [] nodes)) (first_fault (links_tests (length nodes) [] links)) (sym (first_fault-append (nodes_tests [] nodes) (links_tests (length nodes) [] links)) ∙ counts'.1) in
    let sound = sound_links (length nodes) [] links (no_pairs (λ x y. x.name ≢ y.name)) (All-nil (IsLink (length nodes))) split.1 in
    record {
      few_nodes = ltb-false 128 (length nodes) counts.0;
      few_links = ltb-false 256 (length links) counts'.0;
      different_nodes = nodes_differ [] nodes (no_pairs (λ x y. x ≢ y)) split.0;
      different_links = sound.0;
      sound = sound.1;
    }

-- a fault of link i is the first where the links before passed
pub link_found : (n : ℕ) (links : List Link) (i : ℕ) (l : Link) (fault first : Option NetFault) → i < length links → l ≡ get_or links i l → fault ≡ first_fault (link_tests n (take i links) l) → is_some fault ≡ true → first_fault (links_tests n (take i links) (drop i links)) ≡ first → fault ≡ first
link_found n links i l fault first lt at told found rest =
    told
    ∙ sym (or_some (first_fault (link_tests n (take i links) l)) (first_fault (links_tests n (take (i + 1) links) (drop (i + 1) links))) (ap is_some (sym told) ∙ found))
    ∙ ap (λ x. option_or (first_fault (link_tests n (take i links) x)) (first_fault (links_tests n (take (i + 1) links) (drop (i + 1) links)))) at
    ∙ sym (links_step n links i l lt)
    ∙ rest

-- the counts are in range, so the first fault is that of the nodes or else that of the links
pub counted : (nodes : List (List ℕ)) (links : List Link) → length nodes ≤ 128 → length links ≤ 256 → network_fault nodes links ≡ option_or (first_fault (nodes_tests [] nodes)) (first_fault (links_tests (length nodes) [] links))
counted nodes links few_nodes few_links =
    let a : nat_lt 128 (length nodes) ≡ false = le-ltb 128 (length nodes) few_nodes in
    let b : nat_lt 256 (length links) ≡ false = le-ltb 256 (length links) few_links in
    ap (λ v. cond v (Some Nodes) (cond (nat_lt 256 (length links)) (Some Links) (first_fault (nodes_tests [] nodes ++ links_tests (length nodes) [] links)))) a
    ∙ ap (λ v. cond v (Some Links) (first_fault (nodes_tests [] nodes ++ links_tests (length nodes) [] links))) b
    ∙ first_fault-append (nodes_tests [] nodes) (links_tests (length nodes) [] links)

-- a fault of the nodes is the first
pub nodes_found : (nodes : List (List ℕ)) (links : List Link) (fault : Option NetFault) → length nodes ≤ 128 → length links ≤ 256 → fault ≡ first_fault (nodes_tests [] nodes) → is_some fault ≡ true → fault ≡ network_fault nodes links
nodes_found nodes links fault few_nodes few_links told found =
    told
    ∙ sym (or_some (first_fault (nodes_tests [] nodes)) (first_fault (links_tests (length nodes) [] links)) (ap is_some (sym told) ∙ found))
    ∙ sym (counted nodes links few_nodes few_links)

-- where the nodes have none, a fault of the links is the first
pub links_found : (nodes : List (List ℕ)) (links : List Link) (before fault : Option NetFault) → length nodes ≤ 128 → length links ≤ 256 → before ≡ first_fault (nodes_tests [] nodes) → is_some before ≡ false → fault ≡ first_fault (links_tests (length nodes) [] links) → fault ≡ network_fault nodes links
links_found nodes links before fault few_nodes few_links told none rest =
    rest
    ∙ sym (or_none (first_fault (nodes_tests [] nodes)) (first_fault (links_tests (length nodes) [] links)) (ap is_some (sym told) ∙ none))
    ∙ sym (counted nodes links few_nodes few_links)
