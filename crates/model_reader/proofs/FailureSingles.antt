-- Each link alone as a state.
use Rattle.std.proofs.Common.{◌≡◌, ◌≢◌, ℕ, zero, suc, ◌+◌, ◌<◌, ◌≤◌, List, [], ◌∷◌, ◌++◌, length, get_or, take, All, AllPairs, Option, None, Some, refl, sym, ap, subst, ◌∙◌, arith, add-one, take-suc, length-take}
use Rattle.net_core.{proofs.Library.{∥∥₁_elim, All-cons, All-nil, states_accepted, few_links}, specs.declared.ids.LinkId.LinkId, specs.declared.network.Link.Link, specs.declared.states.Listed.Listed, specs.declared.states.StatesFault.StatesFault, specs.Terms.{IsNetwork, AreStates, single_state, states_fault}}
use Rattle.model_reader.specs.Failures.{single_states, singles_from}

singles_push : (at : ℕ) (ls : List Link) (l : Link) → singles_from at (ls ++ l ∷ []) ≡ singles_from at ls ++ single_state (at + length ls) l.name ∷ []
singles_push at [] l = ap (λ (k : ℕ). single_state k l.name ∷ []) (omega arith)
singles_push at (x ∷ xs) l =
    ap (λ (ss : List Listed). single_state at x.name ∷ ss) (singles_push (at + 1) xs l ∙ ap (λ (k : ℕ). singles_from (at + 1) xs ++ single_state k l.name ∷ []) (omega arith))

-- the states of one more link
pub singles_more : (links : List Link) (i : ℕ) (l : Link) (d : Link) → i < length links → l ≡ get_or links i d → single_states (take (i + 1) links) ≡ single_states (take i links) ++ single_state i l.name ∷ []
singles_more links i l d lt is =
    let more : take (i + 1) links ≡ take i links ++ get_or links i d ∷ [] = rw add-one (take-suc links i d lt) in
    let len : 0 + length (take i links) ≡ i = omega (arith, length-take i links) in
    ap (λ (ls : List Link). single_states ls) more
    ∙ singles_push 0 (take i links) (get_or links i d)
    ∙ ap (λ (k : ℕ). single_states (take i links) ++ single_state k (get_or links i d).name ∷ []) len
    ∙ ap (λ (x : Link). single_states (take i links) ++ single_state i x.name ∷ []) (sym is)

singles_length : (at : ℕ) (ls : List Link) → length (singles_from at ls) ≡ length ls
singles_length at [] = refl
singles_length at (l ∷ ls) = ap suc (singles_length (at + 1) ls)

-- the state at a place
single_at : (at : ℕ) (ls : List Link) (i : ℕ) (d : Listed) (l : Link) → i < length ls → get_or (singles_from at ls) i d ≡ single_state (at + i) (get_or ls i l).name
single_at at [] i d l lt = absurd (omega (arith, lt))
single_at at (x ∷ xs) zero d l lt = ap (λ (k : ℕ). single_state k x.name) (omega arith)
single_at at (x ∷ xs) (suc i) d l lt = single_at (at + 1) xs i d l (omega (arith, lt)) ∙ ap (λ (k : ℕ). single_state k (get_or xs i l).name) (omega arith)

-- the state of the link at a place
state_at : (links : List Link) (i : ℕ) (d : Listed) (l : Link) → i < length links → get_or (single_states links) i d ≡ single_state i (get_or links i l).name
state_at links i d l lt = single_at 0 links i d l lt ∙ ap (λ (k : ℕ). single_state k (get_or links i l).name) (omega arith)

abbrev no_link : Link
no_link = record { name = []; a = record { 0 = 0 }; b = record { 0 = 0 }; fixed = 0; setup = 0; modules = [] }

-- they are states of the network
pub singles_are_states : (links : List Link) → length links ≤ 256 → AllPairs (λ x y. x.name ≢ y.name) links → AreStates (length links) (single_states links)
singles_are_states links few pairs =
    let len = singles_length 0 links in
    record {
      checked = record {
        few = omega (arith, len, few);
        some = λ k d lt. subst (λ (s : Listed). 1 ≤ length s.links) (sym (state_at links k d no_link (omega (arith, len, lt)))) (omega arith);
        different = λ i j d lt within same.
            let in_j : j < length links = omega (arith, len, within) in
            let in_i : i < length links = omega (arith, lt, in_j) in
            pairs i j no_link lt in_j (
            ap (λ (s : Listed). s.name) (sym (state_at links i d no_link in_i)) ∙ same ∙ ap (λ (s : Listed). s.name) (state_at links j d no_link in_j)
            );
      };
      known = λ k d lt.
          let in_k : k < length links = omega (arith, len, lt) in
          subst (λ (s : Listed). All (λ e. e.0 < length links) s.links) (sym (state_at links k d no_link in_k)) (All-cons (λ (e : LinkId). e.0 < length links) (record { 0 = k }) [] in_k (All-nil (λ (e : LinkId). e.0 < length links)));
    }

pub none_some : (o : Option StatesFault) (f : StatesFault) → o ≡ None → o ≡ Some f → ⊥
none_some None f n s = absurd cc
none_some (Some g) f n s = absurd cc

-- links of a network have different names
pub network_differs : (nodes : List (List ℕ)) (links : List Link) → ∥ IsNetwork nodes links ∥₁ → AllPairs (λ x y. x.name ≢ y.name) links
network_differs nodes links net i j d lt within same = ∥∥₁_elim net (λ x y. absurd x) (λ (sound : IsNetwork nodes links). sound.different_links i j d lt within same)

pub network_singles : (nodes : List (List ℕ)) (links : List Link) → ∥ IsNetwork nodes links ∥₁ → AreStates (length links) (single_states links)
network_singles nodes links net = singles_are_states links (few_links nodes links net) (network_differs nodes links net)

-- so they are never refused
pub singles_pass : (nodes : List (List ℕ)) (links : List Link) (f : StatesFault) (listed : List Listed) → ∥ IsNetwork nodes links ∥₁ → listed ≡ single_states links → states_fault (length links) listed ≡ Some f → ⊥
singles_pass nodes links f listed net is some =
    none_some (states_fault (length links) listed) f (ap (states_fault (length links)) is ∙ states_accepted (length links) (single_states links) (network_singles nodes links net)) some
