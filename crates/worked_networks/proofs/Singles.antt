-- each link alone as a state
use Rattle.std.proofs.Common.{◌≡◌, ◌≢◌, ℕ, ◌+◌, ◌<◌, ◌≤◌, List, [], ◌∷◌, ◌++◌, length, get_or, All, AllPairs, sym, ap, subst, ◌∙◌, arith, ⊎_elim}
use Rattle.net_core.{proofs.Library.{get_or-append_seam, ∥∥₁_elim, cases_lt, get_or_append_left, All-cons, All-nil}, specs.declared.ids.LinkId.LinkId, specs.declared.network.Link.Link, specs.declared.states.Listed.Listed, specs.Terms.{IsNetwork, AreStates, single_state}}
use Rattle.worked_networks.specs.Tables.{AreSingles}

-- one state more
pub single_more : (links : List Link) (listed : List Listed) (t : Listed) (e : ℕ) → length listed ≡ e → ((k : Link) → t ≡ single_state e (get_or links e k).name)
    → ((i : ℕ) (s : Listed) (k : Link) → i < e → get_or listed i s ≡ single_state i (get_or links i k).name)
    → (i : ℕ) (s : Listed) (k : Link) → i < e + 1 → get_or (listed ++ t ∷ []) i s ≡ single_state i (get_or links i k).name
single_more links listed t e long is each i s k lt =
    ⊎_elim
    (λ (before : i < e). get_or_append_left listed (t ∷ []) s i (omega (arith, long, before)) ∙ each i s k before)
    (λ (rest : e ≤ i).
    let at : length listed ≡ i = omega (arith, long, lt, rest) in
    let here : e ≡ i = omega (arith, lt, rest) in
    subst (λ n. get_or (listed ++ t ∷ []) n s ≡ t) at (get_or-append_seam listed t [] s) ∙ subst (λ n. t ≡ single_state n (get_or links n k).name) here (is k))
    (cases_lt i e)

abbrev no_link : Link
no_link = record { name = []; a = record { 0 = 0 }; b = record { 0 = 0 }; fixed = 0; setup = 0; modules = [] }

-- they are states of the network
singles_are_states : (links : List Link) (listed : List Listed) → length links ≤ 256 → AllPairs (λ x y. x.name ≢ y.name) links → AreSingles links listed → AreStates (length links) listed
singles_are_states links listed few pairs singles =
    let at : (i : ℕ) (s : Listed) → i < length listed → get_or listed i s ≡ single_state i (get_or links i no_link).name =
    λ i s lt. singles.each i s no_link (subst (λ n. i < n) singles.count lt) in
    record {
      checked = record {
        few = subst (λ n. n ≤ 256) (sym singles.count) few;
        some = λ k s lt. subst (λ (t : Listed). 1 ≤ length t.links) (sym (at k s lt)) (omega arith);
        different = λ i j s lt within same.
            let in_i : i < length listed = omega (arith, lt, within) in
            pairs i j no_link lt (subst (λ n. j < n) singles.count within)
            (ap (λ (t : Listed). t.name) (sym (at i s in_i)) ∙ same ∙ ap (λ (t : Listed). t.name) (at j s within));
      };
      known = λ k s lt.
          subst (λ (t : Listed). All (λ e. e.0 < length links) t.links) (sym (at k s lt))
          (All-cons (λ (e : LinkId). e.0 < length links) (record { 0 = k }) [] (subst (λ n. k < n) singles.count lt) (All-nil (λ (e : LinkId). e.0 < length links)));
    }

-- those of a network are never refused
pub singles_belong : (nodes : List (List ℕ)) (links : List Link) (listed : List Listed) → ∥ IsNetwork nodes links ∥₁ → AreSingles links listed → (AreStates (length links) listed → ⊥) → ⊥
singles_belong nodes links listed net singles refused =
    ∥∥₁_elim net (λ x y. absurd x) (λ (sound : IsNetwork nodes links). refused (singles_are_states links listed sound.few_links sound.different_links singles))
