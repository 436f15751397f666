-- words, one after another
use Rattle.std.{proofs.Common.{◌≡◌, ◌∙◌, ℕ, List, [], ◌∷◌, ◌++◌, None, Some, inl, inr, refl, ap, append_assoc, map, subst, sym}, proofs.lemmas.List.{append-nil, map_push}}
use Rattle.people_words.{specs.GivenWords.{AreRead, GivenOption, word_kind}, specs.declared.kinds.WordKind.TheVariants.{Name, End, Flag, Valued, Unknown}, specs.declared.given.Awaited.Awaited, specs.declared.given.Awaited.TheVariants.{Word, Names}, specs.declared.given.Given.Given, specs.inner.Causes.{IsRest, ReadsOn, TakesWord, given_names, given_options}}

-- ---- one word

module _ (word : List ℕ) (rest names : List (List ℕ)) (options : List GivenOption) where
  name_back : word_kind word ≡ Name → AreRead None (word ∷ rest) names options
      → (n : List (List ℕ)) × (o : List GivenOption) × (names ≡ (word ∷ []) ++ n) × (options ≡ [] ++ o) × AreRead None rest n o
  name_back is (inl (k, (others, named, read))) = (others, options, named, refl, read)
  name_back is (inr (inl (k, named, none))) = absurd (cc (sym is ∙ k))
  name_back is (inr (inr (inl (k, (others, given, read))))) = absurd (cc (sym is ∙ k))
  name_back is (inr (inr (inr (k, read)))) = absurd (cc (sym is ∙ k))

  end_back : word_kind word ≡ End → AreRead None (word ∷ rest) names options
      → (n : List (List ℕ)) × (o : List GivenOption) × (names ≡ [] ++ n) × (options ≡ [] ++ o) × ((n ≡ rest) × (o ≡ []))
  end_back is (inl (k, (others, named, read))) = absurd (cc (sym is ∙ k))
  end_back is (inr (inl (k, named, none))) = (names, options, refl, refl, (named, none))
  end_back is (inr (inr (inl (k, (others, given, read))))) = absurd (cc (sym is ∙ k))
  end_back is (inr (inr (inr (k, read)))) = absurd (cc (sym is ∙ k))

  flag_back : word_kind word ≡ Flag → AreRead None (word ∷ rest) names options
      → (n : List (List ℕ)) × (o : List GivenOption) × (names ≡ [] ++ n) × (options ≡ (record { name = word; value = [] } ∷ []) ++ o) × AreRead None rest n o
  flag_back is (inl (k, (others, named, read))) = absurd (cc (sym is ∙ k))
  flag_back is (inr (inl (k, named, none))) = absurd (cc (sym is ∙ k))
  flag_back is (inr (inr (inl (k, (others, given, read))))) = (names, others, refl, given, read)
  flag_back is (inr (inr (inr (k, read)))) = absurd (cc (sym is ∙ k))

  pub valued_back : word_kind word ≡ Valued → AreRead None (word ∷ rest) names options
      → (n : List (List ℕ)) × (o : List GivenOption) × (names ≡ [] ++ n) × (options ≡ [] ++ o) × AreRead (Some word) rest n o
  valued_back is (inl (k, (others, named, read))) = absurd (cc (sym is ∙ k))
  valued_back is (inr (inl (k, named, none))) = absurd (cc (sym is ∙ k))
  valued_back is (inr (inr (inl (k, (others, given, read))))) = absurd (cc (sym is ∙ k))
  valued_back is (inr (inr (inr (k, read)))) = (names, options, refl, refl, read)

  -- a word that is an option that there isn't
  pub unknown_refused : word_kind word ≡ Unknown → AreRead None (word ∷ rest) names options → ⊥
  unknown_refused is (inl (k, (others, named, read))) = cc (sym is ∙ k)
  unknown_refused is (inr (inl (k, named, none))) = cc (sym is ∙ k)
  unknown_refused is (inr (inr (inl (k, (others, given, read))))) = cc (sym is ∙ k)
  unknown_refused is (inr (inr (inr (k, read)))) = cc (sym is ∙ k)

module _ (word : List ℕ) (rest : List (List ℕ)) where
  pub name_leads : word_kind word ≡ Name → ReadsOn Word (word ∷ rest) Word rest (word ∷ []) []
  name_leads is = record {
    forth = λ names options read. inl (is, (names, refl, read));
    back = λ names options read. name_back word rest names options is read;
  }

  pub end_leads : word_kind word ≡ End → ReadsOn Word (word ∷ rest) Names rest [] []
  end_leads is = record {
    forth = λ names options read. inr (inl (is, read.0, read.1));
    back = λ names options read. end_back word rest names options is read;
  }

  pub flag_leads : word_kind word ≡ Flag → ReadsOn Word (word ∷ rest) Word rest [] (record { name = word; value = [] } ∷ [])
  flag_leads is = record {
    forth = λ names options read. inr (inr (inl (is, (options, refl, read))));
    back = λ names options read. flag_back word rest names options is read;
  }

  pub names_lead : ReadsOn Names (word ∷ rest) Names rest (word ∷ []) []
  names_lead = record {
    forth = λ names options read. (ap (λ (ws : List (List ℕ)). word ∷ ws) read.0, read.1);
    back = λ names options read. (rest, [], read.0, read.1, (refl, refl));
  }

-- ---- words

-- words that lead on to others, and these to the next
pub leads_on : (a : Awaited) (w : List (List ℕ)) (b : Awaited) (r : List (List ℕ)) (c : Awaited) (q ns ms : List (List ℕ)) (os ps : List GivenOption)
    → ReadsOn a w b r ns os → ReadsOn b r c q ms ps → ReadsOn a w c q (ns ++ ms) (os ++ ps)
leads_on a w b r c q ns ms os ps first second = record {
  forth = λ names options read.
      subst (λ (x : List (List ℕ)). IsRest a w x ((os ++ ps) ++ options)) (sym (append_assoc ns ms names))
      (subst (λ (y : List GivenOption). IsRest a w (ns ++ (ms ++ names)) y) (sym (append_assoc os ps options))
      (first.forth (ms ++ names) (ps ++ options) (second.forth names options read)));
  back = λ names options read.
      let f = first.back names options read in
      let s = second.back f.0 f.1 f.4 in (
        s.0,
        s.1,
        f.2 ∙ ap (λ (x : List (List ℕ)). ns ++ x) s.2 ∙ sym (append_assoc ns ms s.0),
        f.3 ∙ ap (λ (y : List GivenOption). os ++ y) s.3 ∙ sym (append_assoc os ps s.1),
        s.4,
      );
}

-- a word more
pub leads_word : (a b : Awaited) (all : List (List ℕ)) (word : List ℕ) (rest : List (List ℕ)) (old new : Given)
    → ReadsOn Word all a (word ∷ rest) (given_names old) (given_options old) → TakesWord a word old b new → ReadsOn Word all b rest (given_names new) (given_options new)
leads_word a b all word rest old new so t =
    subst (λ (x : List (List ℕ)). ReadsOn Word all b rest x (given_options new)) (sym t.named)
    (subst (λ (y : List GivenOption). ReadsOn Word all b rest (given_names old ++ t.names) y) (sym t.given)
    (leads_on Word all a (word ∷ rest) b rest (given_names old) t.names (given_options old) t.options so (t.leads rest)))

-- ---- the end of the words

module _ (all left ns : List (List ℕ)) (os : List GivenOption) (a end : Awaited) (none : left ≡ []) (is : a ≡ end) (so : ReadsOn Word all a left ns os) where
  at_end : ReadsOn Word all end [] ns os
  at_end = subst (λ (x : Awaited). ReadsOn Word all x [] ns os) is (subst (λ (ws : List (List ℕ)). ReadsOn Word all a ws ns os) none so)

  -- these names and options are all
  pub are_all : IsRest end [] [] []
      → ((n : List (List ℕ)) (o : List GivenOption) → IsRest end [] n o → (n ≡ []) × (o ≡ []))
      → AreRead None all ns os × ((names : List (List ℕ)) (options : List GivenOption) → AreRead None all names options → (names ≡ ns) × (options ≡ os))
  are_all done alone = (
    subst (λ (x : List (List ℕ)). AreRead None all x os) (append-nil ns) (subst (λ (y : List GivenOption). AreRead None all (ns ++ []) y) (append-nil os) (at_end.forth [] [] done)),
    λ names options read.
        let b = at_end.back names options read in
        let e = alone b.0 b.1 b.4 in
        (b.2 ∙ ap (λ (x : List (List ℕ)). ns ++ x) e.0 ∙ append-nil ns, b.3 ∙ ap (λ (y : List GivenOption). os ++ y) e.1 ∙ append-nil os),
  )

-- one more last
pub one_more : {X Y : Type 0} (old new : List X) (x : X) → new ≡ old ++ x ∷ [] → (f : X → Y) → map f new ≡ map f old ++ f x ∷ []
one_more old new x is f = ap (map f) is ∙ map_push f old x
