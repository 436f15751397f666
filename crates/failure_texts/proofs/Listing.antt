-- the failures of the links that separate nothing, link after link
use Rattle.std.proofs.Common.{◌≡◌, ◌≢◌, ℕ, suc, ◌+◌, ◌<◌, ◌≤◌, List, [], ◌∷◌, ◌++◌, All, None, Option, Some, MatchOption, get_or, length, length-append, slice_get, refl, sym, ap, subst, arith, append-nil, append_assoc, ◌∙◌}
use Rattle.net_core.{proofs.Library.{All-cons, All-nil, All-push, All-weaker, all_pairs_push, get_or_from_slice_get, option_map_or, slice_get-get_or, slice_get_within, few_links}, specs.Terms.AreStates}
use Rattle.model_reader.proofs.FailureSingles.{network_differs}
use Rattle.plan_terms.specs.Terms.{Demand, IsFirstSeparation, IsSurvivable, Link, LinkId, Listed, Network, link_name, single_state}
use Rattle.failure_texts.{specs.Fates.{AreFates, IsFate, alone, with_states}, specs.FailureTexts.{able_state, able_states}, specs.inner.Listings.{IsAbleState, IsListing}, specs.declared.fates.Fate.Fate, proofs.Survived.survived}

abbrev no_link : Link
no_link = record { name = []; a = record { 0 = 0 }; b = record { 0 = 0 }; fixed = 0; setup = 0; modules = [] }

module _ (net : Network) (demands : List Demand) where
  no_listing : IsListing net demands 0 []
  no_listing = record { few = omega arith; each = All-nil (IsAbleState net demands 0); different = λ i j d lt within same. absurd (omega (arith, lt, within)) }

  later : (n : ℕ) (state : Listed) → IsAbleState net demands n state → IsAbleState net demands (n + 1) state
  later n state h = record { e = h.e; link = h.link; below = omega (arith, h.below); at = h.at; is = h.is; able = h.able }

  -- an earlier failure has another name
  named_apart : (n : ℕ) (link : Link) (state : Listed) → slice_get net.links n ≡ Some link → IsAbleState net demands n state → state.name ≢ link.name
  named_apart n link state at h same =
      network_differs net.nodes net.links net.checked h.e n link h.below (slice_get_within net.links n link at)
      (ap (λ l. l.name) (get_or_from_slice_get net.links h.e h.link link h.at) ∙ sym (ap (λ s. s.name) h.is) ∙ same ∙ sym (ap (λ l. l.name) (get_or_from_slice_get net.links n link link at)))

  one_more : (n : ℕ) (listed : List Listed) (link : Link) → IsListing net demands n listed → slice_get net.links n ≡ Some link → IsSurvivable (alone net demands n link)
      → IsListing net demands (n + 1) (listed ++ single_state n link.name ∷ [])
  one_more n listed link h at able = record {
    few = omega (arith, length-append listed (single_state n link.name ∷ []), h.few);
    each = All-push (IsAbleState net demands (n + 1)) listed (single_state n link.name)
        (All-weaker (IsAbleState net demands n) (IsAbleState net demands (n + 1)) (later n) listed h.each)
        (record { e = n; link = link; below = omega arith; at = at; is = refl; able = able });
    different = all_pairs_push (λ x y. x.name ≢ y.name) listed (single_state n link.name) h.different (λ k d lt. named_apart n link (get_or listed k d) at (h.each k d lt));
  }

  none_more : (n : ℕ) (listed : List Listed) → IsListing net demands n listed → IsListing net demands (n + 1) (listed ++ [])
  none_more n listed h = subst (IsListing net demands (n + 1)) (sym (append-nil listed)) (record {
    few = omega (arith, h.few);
    each = All-weaker (IsAbleState net demands n) (IsAbleState net demands (n + 1)) (later n) listed h.each;
    different = h.different;
  })

  -- with the effect of the failure of one more link
  fate_more : (n : ℕ) (listed : List Listed) (link : Link) (own : Listed) (separated : Option ℕ) → IsListing net demands n listed → slice_get net.links n ≡ Some link → own ≡ single_state n link.name
      → MatchOption separated (IsSurvivable (alone net demands n link)) (λ k. (state : ℕ) × IsFirstSeparation (alone net demands n link) state k)
      → IsListing net demands (n + 1) (listed ++ option_map_or (λ k. []) separated (own ∷ []))
  fate_more n listed link own None h at is comes = subst (λ s. IsListing net demands (n + 1) (listed ++ s ∷ [])) (sym is) (one_more n listed link h at comes)
  fate_more n listed link own (Some k) h at is comes = none_more n listed h

  own_state : (n : ℕ) (link : Link) (fate : Fate) → slice_get net.links n ≡ Some link → fate.link.0 ≡ n → single_state fate.link.0 (link_name net.links fate.link) ≡ single_state n link.name
  own_state n link fate at of =
      let there : slice_get net.links fate.link.0 ≡ Some link = subst (λ e. slice_get net.links e ≡ Some link) (sym of) at in
      ap (λ w. single_state fate.link.0 w) (ap (λ o. option_map_or (λ l. l.name) o []) there) ∙ ap (λ e. single_state e link.name) of

  -- the failures of fates that begin at link n, after those of earlier links
  listing_of : (fates : List Fate) (n : ℕ) (listed : List Listed) → IsListing net demands n listed
      → ((k e : ℕ) (fate : Fate) → e ≡ n + k → slice_get fates k ≡ Some fate → (link : Link) × (slice_get net.links e ≡ Some link) × IsFate net demands e link fate)
      → IsListing net demands (n + length fates) (listed ++ able_states net.links fates)
  listing_of [] n listed h each = subst (λ l. IsListing net demands (n + 0) l) (sym (append-nil listed)) (subst (λ m. IsListing net demands m listed) (omega arith) h)
  listing_of (fate ∷ fates) n listed h each =
      let here = each 0 n fate (omega arith) refl in
      let own = able_state net.links fate in
      let next : IsListing net demands (n + 1) (listed ++ own) =
      fate_more n listed here.0 (single_state fate.link.0 (link_name net.links fate.link)) fate.separated h here.1 (own_state n here.0 fate here.1 here.2.of_link) here.2.comes_to in
      let rest = listing_of fates (n + 1) (listed ++ own) next (λ k e f is at. each (suc k) e f (omega (arith, is)) at) in
      subst (λ l. IsListing net demands (n + length (fate ∷ fates)) l) (append_assoc listed own (able_states net.links fates))
      (subst (λ m. IsListing net demands m ((listed ++ own) ++ able_states net.links fates)) (omega arith) rest)

  -- those of all links
  pub listing : (fates : List Fate) → AreFates net demands (length net.links) fates → IsListing net demands (length net.links) (able_states net.links fates)
  listing fates are =
      subst (λ n. IsListing net demands n (able_states net.links fates)) (omega (arith, are.long)) (listing_of fates 0 [] no_listing (λ k e fate is at.
      let same : e ≡ k = omega (arith, is) in
      let there : slice_get fates e ≡ Some fate = subst (λ j. slice_get fates j ≡ Some fate) (sym same) at in
      let within : e < length net.links = omega (arith, slice_get_within fates e fate there, are.long) in
      let one = slice_get-get_or net.links e no_link within in
      (get_or net.links e no_link, one, are.each e (get_or net.links e no_link) fate one there)))

  -- they are states of the network
  pub listing_states : (listed : List Listed) → IsListing net demands (length net.links) listed → AreStates (length net.links) listed
  listing_states listed h = record {
    checked = record {
      few = omega (arith, h.few, few_links net.nodes net.links net.checked);
      some = λ k d lt. subst (λ (s : Listed). 1 ≤ length s.links) (sym (h.each k d lt).is) (omega arith);
      different = h.different;
    };
    known = λ k d lt.
        let one = h.each k d lt in
        subst (λ (s : Listed). All (λ e. e.0 < length net.links) s.links) (sym one.is)
        (All-cons (λ (e : LinkId). e.0 < length net.links) (record { 0 = one.e }) [] one.below (All-nil (λ (e : LinkId). e.0 < length net.links)));
  }

  -- and the network survives them all
  pub listing_survived : (listed : List Listed) → IsSurvivable (with_states net demands []) → IsListing net demands (length net.links) listed → IsSurvivable (with_states net demands listed)
  listing_survived listed none h =
      survived net demands listed none (λ k d lt. let one = h.each k d lt in subst (λ (s : Listed). IsSurvivable (with_states net demands (s ∷ []))) (sym one.is) one.able)
