-- Paths, sections and whole files: what is read is spelled, and what is spelled is read.
use Rattle.std.proofs.Common.{◌≡◌, ◌≢◌, ℕ, ◌≤◌, Bool, true, false, cond, List, [], ◌∷◌, ◌++◌, map, length, All, AllPairs, Result, Ok, Err, refl, sym, ap, subst, ◌∙◌, append-nil, append_assoc, ◌||◌, inl, inr, codes, flat_map}
use Rattle.net_core.{proofs.Library.{AllByRecursion, length-map, map_push, All-from_recursion, All-map, recursion_from_All, same_is}, specs.Terms.{IsLink, IsNetwork, are_same, is_named}, specs.declared.demand.Demand.Demand, specs.declared.network.Link.Link, specs.declared.network.Network.Network, specs.declared.places.Places.Places}
use Rattle.snd_tokens.specs.Terms.{first_line, trimmed, Text, WordAt, OpenAt, CloseAt, EndAt}
use Rattle.text_kit.{specs.Terms.{ReadsAllAs, ReadsAs, body, ComeAfter, AreSpelled, Item, Verbatim, Opening, Closing, Begins, Read, Reading, after, give, placed, ◌>>=◌, word_at, open_at, end_at, expected, Parenthesis, no_fault, list_at, each_at, section}, specs.declared.refusal.Refusal.Refusal, specs.declared.refusal.Refusal.TheVariants.{Bad, NoMemory}, proofs.Lemmas.{after_all, after_differ, differ_after, spelled_read, AnyText, IsEnd, Starts, lawful_key, lawful_open, ok_parts, Spelled, after_parts, parts_after, spelled_as, spelled_give, spelled_law, spelled_list, spelled_then, spelled_word, IsNew, are_new, new_are}}
use Rattle.sndlib_reader.{specs.declared.costs.CostedLink.CostedLink, specs.declared.fault.ReadKind.ReadKind, specs.declared.fault.ReadKind.TheVariants.{Header, Section, Token, Ended}, specs.Balance.IsSkipped, specs.Paths.{AreMany, ArePaths, AreSome, IsKnownName, IsPathLine, IsNamedPath, IsShortName}, specs.NetworkFiles.network_in, specs.Spelling.{IsMeta, IsShortLink, NodePart, NodeName, Coordinates, Parts, SpellsDemand, SpellsParts, SpellsPart, header, link_items, names_of, notes_of, parts_of}, specs.Reading.{path_name, known_name, native_section_at, part_at, native_nodes_at, costed_links_at, native_demands_at, some_at, native_path_at, path_line_at, is_meta, after_meta, start_at, is_paths, after_paths, paths_at, parts, after_links_at, after_nodes_at, node_section_at, native_sections_at}, proofs.WordTests.{known_again, known_takes, path_name_again, path_name_takes}, proofs.Skipped.skipped_spelled, proofs.Nodes.{IsNewPart, are_parts, part_spelled, parts_are, parts_short}, proofs.Laws.{AreDifferent, AreLinks, IsDemandAfter, IsLinkAfter, are_demands, are_links, demands_are, demands_spelled, links_are, links_lawful}}

-- ---- what is given of what was read

module _ {K A B : Type 0} (r : Reading K A) (g : A → B) (Of : A → List Item → Type 0) (IsLeft : Text → Type 0) (law : Spelled r Of IsLeft) where
  given : (text : Text) (q : Read K A) (b : B) (rest : Text) → r text ≡ q → after q (λ a. give (g a)) ≡ Ok (b, rest) → (is : List Item) × ((a : A) × Of a is × (g a ≡ b)) × Begins is text rest × IsLeft rest
  given text (Ok x) b rest read e =
      let p = ok_parts {K = K} (g x.0) b x.1 rest e in
      let h = law.takes text x.0 x.1 read in
      (h.0, (x.0, h.1, p.0), subst (λ (t : Text). Begins h.0 text t) p.1 h.2, subst IsLeft p.1 h.3)
  given text (Err d) b rest read e = absurd cc

  spelled_given : Spelled (r >>= λ a. give (g a)) (λ b is. (a : A) × Of a is × (g a ≡ b)) IsLeft
  spelled_given = record {
    takes = λ text b rest e. given text (r text) b rest refl e;
    again = λ text b rest is s begins left. rw (law.again text s.0 rest is s.1 begins left) (ap (λ (z : B). Ok (z, rest)) s.2);
  }

-- ---- paths

starts_named : (w : List ℕ) (is js : List Item) → is ≡ Verbatim w ∷ js → Starts is
starts_named w is js e = subst Starts (sym e) tt

path_name_spelled : Spelled (word_at Token Ended path_name) (λ x is. IsShortName is) AnyText
path_name_spelled = spelled_as _ _ (λ x is. IsShortName is) AnyText (λ x is s. (s.0, path_name_takes s.0 x s.1, s.2)) (λ x is s. (s.0, path_name_again s.0 s.1, s.2)) (spelled_word Token Ended path_name)

known_spelled : (names : List (List ℕ)) → Spelled (word_at Token Ended (known_name names)) (λ x is. IsKnownName names is) AnyText
known_spelled names = spelled_as _ _ (λ x is. IsKnownName names is) AnyText (λ x is s. (s.0, known_takes names s.0 x s.1, s.2)) (λ x is s. (s.0, known_again names s.0 s.1, s.2)) (spelled_word Token Ended (known_name names))

-- things of a sort, of which none is kept
module _ (one : Reading ReadKind (Unit {0})) (Is : List Item → Type 0) (starts : (is : List Item) → Is is → Starts is) (law : Spelled one (λ x is. Is is) AnyText) where
  each_spelled : Spelled (each_at one) (λ x is. (js : List Item) × AreMany Is js × (is ≡ js ++ Closing ∷ [])) AnyText
  each_spelled = spelled_as (each_at one) _ _ AnyText
      (λ x is s.
      let l = s.1.1 in
      let p = after_parts (λ before y. Unit {0}) (λ y js. Is js) [] s.0 l.0 l.1 in
      (l.0, (s.0, p.1), l.2))
      (λ x is s. (s.1.0, (refl, (s.0, parts_after (λ before y. Unit {0}) (λ y js. Is js) [] s.1.0 s.0 (all s.1.0 []) s.1.1, s.2)), refl))
      (spelled_given (list_at Parenthesis no_fault (λ sofar. one) []) (λ xs. tt) _ AnyText
      (spelled_list no_fault (λ sofar. one) (λ sofar y js. Unit {0} × Is js) (λ sofar y js h. starts js h.1) (λ sofar. spelled_as one (λ x is. Is is) (λ y js. Unit {0} × Is js) AnyText (λ y js h. (tt, h)) (λ y js h. h.1) law)))
    where
      all : (xs before : List (Unit {0})) → ComeAfter (λ (before : List (Unit {0})) y. Unit {0}) before xs
      all [] before = tt
      all (x ∷ xs) before = (tt, all xs (before ++ x ∷ []))

  some_spelled : Spelled (some_at one) (λ x is. AreSome Is is) AnyText
  unfolding some_at
  some_spelled = spelled_as (some_at one) _ _ AnyText
      (λ x is s.
      let f = s.4 in
      (f.1, f.4.0, f.3, f.4.1, s.5 ∙ (ap (λ (js : List Item). js ++ s.2) s.3.1 ∙ ap (λ (js : List Item). Opening ∷ js) (f.5 ∙ ap (λ (js : List Item). f.1 ++ js) f.4.2))))
      (λ x is s. (tt, Opening ∷ [], s.0 ++ (s.1 ++ Closing ∷ []), (tt, refl), (tt, s.0, s.1 ++ Closing ∷ [], s.2, (s.1, s.3, refl), refl), s.4))
      (spelled_then _ _ _ _ AnyText (spelled_law (open_at Token Ended) _ _ AnyText (lawful_open Token Ended)) (λ o js s.
      spelled_then _ _ _ _ AnyText law (λ y js s.
      each_spelled)))

known_starts : (names : List (List ℕ)) (is : List Item) → IsKnownName names is → Starts is
known_starts names is s = starts_named s.0 is [] s.2

path_spelled : (links : List (List ℕ)) → Spelled (native_path_at links) (λ x is. IsNamedPath links is) AnyText
path_spelled links = spelled_as (native_path_at links) _ (λ x is. IsNamedPath links is) AnyText (λ x is s. (s.1, s.2, s.3, s.4, s.5)) (λ x is s. (tt, s.0, s.1, s.2, s.3, s.4))
    (spelled_then _ _ _ _ AnyText path_name_spelled (λ n js s.
    some_spelled (word_at Token Ended (known_name links)) (IsKnownName links) (known_starts links) (known_spelled links)))

path_starts : (links : List (List ℕ)) (is : List Item) → IsNamedPath links is → Starts is
path_starts links is s = let n = s.2 in starts_named n.0 is s.1 (s.4 ∙ ap (λ (js : List Item). js ++ s.1) n.2)

line_spelled : (links demands : List (List ℕ)) → Spelled (path_line_at links demands) (λ x is. IsPathLine links demands is) AnyText
line_spelled links demands = spelled_as (path_line_at links demands) _ (λ x is. IsPathLine links demands is) AnyText (λ x is s. (s.1, s.2, s.3, s.4, s.5)) (λ x is s. (tt, s.0, s.1, s.2, s.3, s.4))
    (spelled_then _ _ _ _ AnyText (known_spelled demands) (λ n js s.
    some_spelled (native_path_at links) (IsNamedPath links) (path_starts links) (path_spelled links)))

line_starts : (links demands : List (List ℕ)) (is : List Item) → IsPathLine links demands is → Starts is
line_starts links demands is s = let n = s.2 in starts_named n.0 is s.1 (s.4 ∙ ap (λ (js : List Item). js ++ s.1) n.2)

-- the end, after the section
end_spelled : Spelled (end_at Section) (λ (x : Unit {0}) is. is ≡ []) IsEnd
end_spelled = record { takes = takes; again = λ text x rest is s b left. rw (subst (λ (js : List Item). Begins js text rest) s b, left.1) refl }
  where
    takes : (text : Text) (x : Unit {0}) (rest : Text) → end_at Section text ≡ Ok (x, rest) → (is : List Item) × (is ≡ []) × Begins is text rest × IsEnd rest
    takes (WordAt at w t) x rest e = absurd cc
    takes (OpenAt at t) x rest e = absurd cc
    takes (CloseAt at t) x rest e = absurd cc
    takes (EndAt at) x rest e = let p = ok_parts {K = ReadKind} tt x (EndAt at) rest e in ([], refl, p.1, (at, sym p.1))

-- lines between parentheses, and the end
abbrev AreLines : List (List ℕ) → List (List ℕ) → List Item → Type 0
AreLines links demands is = (lines : List Item) × AreMany (IsPathLine links demands) lines × (is ≡ Opening ∷ (lines ++ Closing ∷ []))

lines_joined : (is js ks j2 k2 lines : List Item) → is ≡ js ++ ks → js ≡ Opening ∷ [] → ks ≡ j2 ++ k2 → j2 ≡ lines ++ Closing ∷ [] → k2 ≡ [] → is ≡ Opening ∷ (lines ++ Closing ∷ [])
lines_joined is js ks j2 k2 lines a b c d e = rw (a, b, c, d, e) (ap (λ (l : List Item). Opening ∷ l) (append-nil (lines ++ Closing ∷ [])))

lines_spelled : (links demands : List (List ℕ)) → Spelled (after_paths links demands true) (λ x is. AreLines links demands is) IsEnd
unfolding after_paths
lines_spelled links demands = spelled_as (after_paths links demands true) _ (λ x is. AreLines links demands is) IsEnd
    (λ x is s. let f = s.4 in (f.3.0, f.3.1, lines_joined is s.1 s.2 f.1 f.2 f.3.0 s.5 s.3.1 f.5 f.3.2 f.4))
    (λ x is s. (tt, Opening ∷ [], s.0 ++ Closing ∷ [], (tt, refl), (tt, s.0 ++ Closing ∷ [], [], (s.0, s.1, refl), refl, sym (append-nil (s.0 ++ Closing ∷ []))), s.2))
    (spelled_then _ _ _ _ IsEnd (spelled_law (open_at Section Ended) _ _ AnyText (lawful_open Section Ended)) (λ o js s.
    spelled_then _ _ _ _ IsEnd (each_spelled (path_line_at links demands) (IsPathLine links demands) (line_starts links demands) (line_spelled links demands)) (λ l js s.
    end_spelled)))

paths_if : (b : Bool) (w : List ℕ) (c : Bool) → are_same w (codes "ADMISSIBLE_PATHS") ≡ b → (let r : Result Bool ReadKind = cond b (Ok true) (Err Section) in r ≡ Ok c) → (w ≡ codes "ADMISSIBLE_PATHS") × (true ≡ c)
paths_if true w c same e = (same_is w (codes "ADMISSIBLE_PATHS") same, cc)
paths_if false w c same e = absurd cc

module _ (links demands : List (List ℕ)) where
  abbrev PathsTaken : Text → Text → Type 0
  PathsTaken text rest = (is : List Item) × ArePaths links demands is × Begins is text rest × IsEnd rest

  word_takes : (at : ℕ) (w : List ℕ) (t : Text) (q : Result Bool ReadKind) (x : Unit {0}) (rest : Text) → is_paths w ≡ q → after (placed at t q) (after_paths links demands) ≡ Ok (x, rest) → PathsTaken (WordAt at w t) rest
  word_takes at w t (Ok c) x rest is e =
      let p = paths_if (are_same w (codes "ADMISSIBLE_PATHS")) w c refl is in
      let h = (lines_spelled links demands).takes t x rest (subst (λ (d : Bool). after_paths links demands d t ≡ Ok (x, rest)) (sym p.1) e) in
      (Verbatim (codes "ADMISSIBLE_PATHS") ∷ h.0, inr (h.1.0, h.1.1, ap (λ (js : List Item). Verbatim (codes "ADMISSIBLE_PATHS") ∷ js) h.1.2), (p.0, h.2), h.3)
  word_takes at w t (Err k) x rest is e = absurd cc

  paths_take : (text : Text) (x : Unit {0}) (rest : Text) → paths_at links demands text ≡ Ok (x, rest) → PathsTaken text rest
  unfolding after_paths
  paths_take (WordAt at w t) x rest e = word_takes at w t (is_paths w) x rest refl e
  paths_take (OpenAt at t) x rest e = absurd cc
  paths_take (CloseAt at t) x rest e = absurd cc
  paths_take (EndAt at) x rest e = let p = ok_parts {K = ReadKind} tt x (EndAt at) rest e in ([], inl refl, p.1, (at, sym p.1))

  lines_again : (text rest : Text) (js : List Item) → AreLines links demands js → Begins (Verbatim (codes "ADMISSIBLE_PATHS") ∷ js) text rest → IsEnd rest → paths_at links demands text ≡ Ok (tt, rest)
  lines_again (WordAt at w t) rest js s b left = rw b.0 ((lines_spelled links demands).again t tt rest js s b.1 left)
  lines_again (OpenAt at t) rest js s b left = absurd (let e : Verbatim (codes "ADMISSIBLE_PATHS") ≡ Opening = b.0 in cc)
  lines_again (CloseAt at t) rest js s b left = absurd (let e : Verbatim (codes "ADMISSIBLE_PATHS") ≡ Closing = b.0 in cc)
  lines_again (EndAt at) rest js s b left = absurd b

  paths_again : (text rest : Text) (is : List Item) → ArePaths links demands is → Begins is text rest → IsEnd rest → paths_at links demands text ≡ Ok (tt, rest)
  unfolding after_paths
  paths_again text rest is (inl none) b left = rw (subst (λ (js : List Item). Begins js text rest) none b, left.1) refl
  paths_again text rest is (inr s) b left = lines_again text rest (Opening ∷ (s.0 ++ Closing ∷ [])) (s.0, s.1, refl) (subst (λ (js : List Item). Begins js text rest) s.2 b) left

  paths_spelled : Spelled (paths_at links demands) (λ x is. ArePaths links demands is) IsEnd
  paths_spelled = record { takes = paths_take; again = λ text x rest is s b left. paths_again text rest is s b left }

-- ---- sections

section_spelled : {X : Type 0} (name : List ℕ) (r : Reading ReadKind X) (Of : X → List Item → Type 0) → Spelled r Of AnyText → Spelled (native_section_at name r) (λ x is. (js : List Item) × Of x js × (is ≡ Verbatim name ∷ Opening ∷ js)) AnyText
unfolding native_section_at
section_spelled name r Of law = spelled_as (native_section_at name r) _ _ AnyText
    (λ x is s.
    let f = s.4 in
    (f.2, f.4, s.5 ∙ (ap (λ (js : List Item). js ++ s.2) s.3.1 ∙ ap (λ (js : List Item). Verbatim name ∷ js) (f.5 ∙ ap (λ (js : List Item). js ++ f.2) f.3.1))))
    (λ x is s. (tt, Verbatim name ∷ [], Opening ∷ s.0, (tt, refl), (tt, Opening ∷ [], s.0, (tt, refl), s.1, refl), s.2))
    (spelled_then _ _ _ _ AnyText (spelled_law (word_at Section Ended (expected Section name)) _ _ AnyText (lawful_key Section Ended Section name)) (λ k js s.
    spelled_then _ _ _ _ AnyText (spelled_law (open_at Section Ended) _ _ AnyText (lawful_open Section Ended)) (λ o js s. law)))

-- what comes after the word of META or NODES
abbrev After : Bool → List Item → Type 0
After true is = (inside : List Item) × IsSkipped inside × (is ≡ Opening ∷ (inside ++ Verbatim (codes "NODES") ∷ []))
After false is = is ≡ []

abbrev first_word : Bool → List ℕ
first_word true = codes "META"
first_word false = codes "NODES"

after_spelled : (meta : Bool) → Spelled (after_meta meta) (λ x is. After meta is) AnyText
unfolding after_meta
after_spelled true = spelled_as (after_meta true) _ (λ x is. After true is) AnyText
    (λ x is s.
    let f = s.4 in
    (f.1, f.3, s.5 ∙ (ap (λ (js : List Item). js ++ s.2) s.3.1 ∙ ap (λ (js : List Item). Opening ∷ js) (f.5 ∙ ap (λ (js : List Item). f.1 ++ js) f.4.1))))
    (λ x is s. (tt, Opening ∷ [], s.0 ++ Verbatim (codes "NODES") ∷ [], (tt, refl), (tt, s.0, Verbatim (codes "NODES") ∷ [], s.1, (tt, refl), refl), s.2))
    (spelled_then _ _ _ _ AnyText (spelled_law (open_at Section Ended) _ _ AnyText (lawful_open Section Ended)) (λ o js s.
    spelled_then _ _ _ _ AnyText skipped_spelled (λ k js s.
    spelled_law (word_at Section Ended (expected Section (codes "NODES"))) _ _ AnyText (lawful_key Section Ended Section (codes "NODES")))))
after_spelled false = spelled_as (after_meta false) _ (λ x is. After false is) AnyText (λ x is s. s.1) (λ x is s. (refl, s)) (spelled_give tt)

word_is : (w : List ℕ) (meta nodes b : Bool) → are_same w (codes "META") ≡ meta → are_same w (codes "NODES") ≡ nodes → (let r : Result Bool ReadKind = cond meta (Ok true) (cond nodes (Ok false) (Err Section)) in r ≡ Ok b) → w ≡ first_word b
word_is w true nodes true m n e = same_is w (codes "META") m
word_is w true nodes false m n e = absurd cc
word_is w false true true m n e = absurd cc
word_is w false true false m n e = same_is w (codes "NODES") n
word_is w false false b m n e = absurd cc

is_word : (b : Bool) → is_meta (first_word b) ≡ Ok b
is_word true = refl
is_word false = refl

-- META or nothing, and the word of NODES
abbrev IsStart : List Item → Type 0
IsStart is = (meta : List Item) × IsMeta meta × (is ≡ meta ++ Verbatim (codes "NODES") ∷ [])

start_of : (b : Bool) (is ks : List Item) → is ≡ Verbatim (first_word b) ∷ ks → After b ks → IsStart is
start_of true is ks e s = (Verbatim (codes "META") ∷ Opening ∷ s.0, inr (s.0, s.1, refl), e ∙ ap (λ (js : List Item). Verbatim (codes "META") ∷ js) s.2)
start_of false is ks e s = ([], inl refl, e ∙ ap (λ (js : List Item). Verbatim (codes "NODES") ∷ js) s)

abbrev Started : List Item → Type 0
Started is = (b : Bool) × (ks : List Item) × After b ks × (is ≡ Verbatim (first_word b) ∷ ks)

started : (is : List Item) → IsStart is → Started is
started is s = by s.0 s.1 s.2
  where
    by : (meta : List Item) → IsMeta meta → is ≡ meta ++ Verbatim (codes "NODES") ∷ [] → Started is
    by meta (inl none) e = (false, [], refl, e ∙ ap (λ (js : List Item). js ++ Verbatim (codes "NODES") ∷ []) none)
    by meta (inr m) e = (true, Opening ∷ (m.0 ++ Verbatim (codes "NODES") ∷ []), (m.0, m.1, refl), e ∙ ap (λ (js : List Item). js ++ Verbatim (codes "NODES") ∷ []) m.2)

start_spelled : Spelled start_at (λ x is. IsStart is) AnyText
start_spelled = spelled_as start_at _ (λ x is. IsStart is) AnyText
    (λ x is s.
    let w = s.3 in
    start_of s.0 is s.2 (s.5 ∙ (ap (λ (js : List Item). js ++ s.2) w.2 ∙ ap (λ (v : List ℕ). Verbatim v ∷ s.2) (word_is w.0 (are_same w.0 (codes "META")) (are_same w.0 (codes "NODES")) s.0 refl refl w.1))) s.4)
    (λ x is s. let t = started is s in (t.0, Verbatim (first_word t.0) ∷ [], t.1, (first_word t.0, is_word t.0, refl), t.2, t.3))
    (spelled_then _ _ _ _ AnyText (spelled_word Section Ended is_meta) (λ b js s. after_spelled b))

-- ---- nodes

-- nodes that were read: their parts, in order
abbrev AreNodes : List (List ℕ) → List Item → Type 0
AreNodes nodes is = (parts : List NodePart) × (js : List Item) × ComeAfter IsNewPart [] parts × AreSpelled SpellsPart parts js × (names_of parts ≡ nodes) × (is ≡ js ++ Closing ∷ [])

part_starts : (sofar : List NodePart) (part : NodePart) (is : List Item) → IsNewPart sofar part × SpellsPart part is → Starts is
part_starts sofar (NodeName w) is s = subst Starts (sym s.1) tt
part_starts sofar Coordinates is s = subst Starts (sym s.1.2) tt

nodes_spelled : Spelled (native_nodes_at []) AreNodes AnyText
nodes_spelled = spelled_as (native_nodes_at []) _ AreNodes AnyText
    (λ nodes is s.
    let l = s.1.1 in
    let p = after_parts IsNewPart SpellsPart [] s.0 l.0 l.1 in
    (s.0, l.0, p.0, p.1, s.2, l.2))
    (λ nodes is s. (s.0, (refl, (s.1, parts_after IsNewPart SpellsPart [] s.0 s.1 s.2 s.3, s.5)), s.4))
    (spelled_given (list_at Parenthesis no_fault part_at []) names_of _ AnyText (spelled_list no_fault part_at (λ sofar part is. IsNewPart sofar part × SpellsPart part is) part_starts part_spelled))

nodes_new : (nodes : List (List ℕ)) (is : List Item) → AreNodes nodes is → (length nodes ≤ 128) × AllPairs (λ x y. x ≢ y) nodes × All (λ n. length n ≤ 255) nodes
nodes_new nodes is s = subst (λ (ns : List (List ℕ)). (length ns ≤ 128) × AllPairs (λ x y. x ≢ y) ns × All (λ n. length n ≤ 255) ns) s.4 (are_new (λ (n : List ℕ). n) 128 (names_of s.0) (parts_are [] s.0 s.2).0)

-- ---- all sections

-- links between parentheses, as they are read
abbrev AreLinkItems : Places → List (List ℕ) → List CostedLink → List Item → Type 0
AreLinkItems p nodes links is = ComeAfter (IsLinkAfter nodes) [] links × (is ≡ flat_map (link_items p nodes) links ++ Closing ∷ [])

abbrev AreDemandItems : Places → List (List ℕ) → List Demand → List Item → Type 0
AreDemandItems p nodes demands is = (js : List Item) × ComeAfter (IsDemandAfter nodes) [] demands × AreSpelled (SpellsDemand p nodes) demands js × (is ≡ js ++ Closing ∷ [])

-- sections one after another
abbrev whole_items : List Item → List Item → List Item → List Item → List Item → List Item
whole_items meta ps ls ds paths = meta ++ (section (codes "NODES") ps ++ (section (codes "LINKS") ls ++ (section (codes "DEMANDS") ds ++ paths)))

all_joined : (is j1 k1 j2 k2 j3 k3 j4 k4 l4 j5 k5 l5 meta ps ls ds : List Item) → is ≡ j1 ++ k1 → j1 ≡ meta ++ Verbatim (codes "NODES") ∷ [] → k1 ≡ j2 ++ k2 → j2 ≡ Opening ∷ [] → k2 ≡ j3 ++ k3 → j3 ≡ ps ++ Closing ∷ [] → k3 ≡ j4 ++ k4 → j4 ≡ Verbatim (codes "LINKS") ∷ Opening ∷ l4 → l4 ≡ ls ++ Closing ∷ []
    → k4 ≡ j5 ++ k5 → j5 ≡ Verbatim (codes "DEMANDS") ∷ Opening ∷ l5 → l5 ≡ ds ++ Closing ∷ [] → is ≡ whole_items meta ps ls ds k5
all_joined is j1 k1 j2 k2 j3 k3 j4 k4 l4 j5 k5 l5 meta ps ls ds a b c d e f g h i j k l =
    rw (a, b, c, d, e, f, g, h, i, j, k, l) (append_assoc meta (Verbatim (codes "NODES") ∷ []) (Opening ∷ ((ps ++ Closing ∷ []) ++ (section (codes "LINKS") ls ++ (section (codes "DEMANDS") ds ++ k5)))))

-- names of links, with their costs and without
named_link : (w : List ℕ) (links : List CostedLink) → is_named (λ x. x.name) w (map (λ l. l.link) links) ≡ is_named (λ l. l.link.name) w links
named_link w [] = refl
named_link w (l ∷ ls) = ap (λ (b : Bool). are_same l.link.name w || b) (named_link w ls)

abbrev NewLinks : List Link → List Link → Type 0
NewLinks sofar links = ComeAfter (λ before l. is_named (λ x. x.name) l.name before ≡ false) sofar links

abbrev NewCosted : List CostedLink → List CostedLink → Type 0
NewCosted sofar links = ComeAfter (λ before l. is_named (λ x. x.link.name) l.link.name before ≡ false) sofar links

without_costs : (sofar links : List CostedLink) → NewCosted sofar links → NewLinks (map (λ l. l.link) sofar) (map (λ l. l.link) links)
without_costs sofar [] h = tt
without_costs sofar (l ∷ ls) h = (named_link l.link.name sofar ∙ h.0, subst (λ (ks : List Link). NewLinks ks (map (λ x. x.link) ls)) (map_push (λ x. x.link) sofar l) (without_costs (sofar ++ l ∷ []) ls h.1))

with_costs : (sofar links : List CostedLink) → NewLinks (map (λ l. l.link) sofar) (map (λ l. l.link) links) → NewCosted sofar links
with_costs sofar [] h = tt
with_costs sofar (l ∷ ls) h = (sym (named_link l.link.name sofar) ∙ h.0, with_costs (sofar ++ l ∷ []) ls (subst (λ (ks : List Link). NewLinks ks (map (λ x. x.link) ls)) (sym (map_push (λ x. x.link) sofar l)) h.1))

-- nodes and links that were read are a network
pub network_read : (nodes : List (List ℕ)) (links : List CostedLink) (is : List Item) → AreNodes nodes is → ComeAfter (IsLinkAfter nodes) [] links → IsNetwork nodes (map (λ l. l.link) links)
network_read nodes links is s all =
    let n = nodes_new nodes is s in
    let l = are_links nodes links all in
    record {
      few_nodes = n.0;
      few_links = subst (λ (k : ℕ). k ≤ 256) (sym (length-map links (λ l. l.link))) l.few;
      different_nodes = n.1;
      different_links = after_differ (λ (x : Link). x.name) (map (λ x. x.link) links) (without_costs [] links (differ_after (λ (x : CostedLink). x.link.name) [] links l.different));
      sound = All-map (IsLink (length nodes)) (λ (x : CostedLink). x.link) links l.sound;
    }

links_of_network : (nodes : List (List ℕ)) (links : List CostedLink) → IsNetwork nodes (map (λ l. l.link) links) → All IsShortLink links → AreLinks nodes links
links_of_network nodes links net short = record {
  few = subst (λ (k : ℕ). k ≤ 256) (length-map links (λ l. l.link)) net.few_links;
  different = after_differ (λ (x : CostedLink). x.link.name) links (with_costs [] links (differ_after (λ (x : Link). x.name) [] (map (λ x. x.link) links) net.different_links));
  sound = All-from_recursion _ links (unmapped (IsLink (length nodes)) links (recursion_from_All (IsLink (length nodes)) (map (λ x. x.link) links) net.sound));
  short = short;
}
  where
    unmapped : (P : Link → Type 0) (ls : List CostedLink) → AllByRecursion P (map (λ x. x.link) ls) → AllByRecursion (λ x. P x.link) ls
    unmapped P [] h = tt
    unmapped P (l ∷ ls) h = (h.0, unmapped P ls h.1)

-- what the sections are made of, as it is read
record AreSections (p : Places) (x : Parts × List Demand) (is : List Item) : Type 0 where
  pub meta : List Item
  pub node_items : List Item
  pub part_items : List Item
  pub links : List CostedLink
  pub demand_items : List Item
  pub paths : List Item
  pub meta_is : IsMeta meta
  pub nodes : AreNodes x.0.nodes node_items
  pub items_are : is ≡ whole_items meta nodes.1 (flat_map (link_items p x.0.nodes) links) demand_items paths
  pub links_are : ComeAfter (IsLinkAfter x.0.nodes) [] links
  pub demands_are : ComeAfter (IsDemandAfter x.0.nodes) [] x.1 × AreSpelled (SpellsDemand p x.0.nodes) x.1 demand_items
  pub paths_are : ArePaths (map (λ l. l.link.name) links) (map (λ d. d.name) x.1) paths
  pub parts_are : parts p x.0.nodes links ≡ x.0

to_network : (p : Places) (x : Parts × List Demand) (is : List Item) → AreSections p x is → SpellsParts p x is
to_network p x is s =
    let n = s.nodes in
    let d = s.demands_are in
    let order = parts_are [] n.0 n.2 in
    let are = s.parts_are in
    record {
      meta = s.meta;
      parts = n.0;
      part_items = n.1;
      links = s.links;
      demand_items = s.demand_items;
      paths = s.paths;
      items_are = s.items_are;
      meta_is = s.meta_is;
      parts_are = n.3;
      parts_in_order = order.1;
      nodes_are = n.4;
      links_are = ap (λ (y : Parts). y.links) are;
      links_short = (are_links x.0.nodes s.links s.links_are).short;
      notes_are = ap (λ (y : Parts). y.notes) are;
      places_are = ap (λ (y : Parts). y.places) are;
      network = subst (λ (ls : List Link). IsNetwork x.0.nodes ls) (ap (λ (y : Parts). y.links) are) (network_read x.0.nodes s.links s.node_items n s.links_are);
      demands_are = d.1;
      belong = are_demands x.0.nodes x.1 d.0;
      paths_are = s.paths_are;
    }

parts_equal : (p : Places) (nodes : List (List ℕ)) (links : List CostedLink) (x : Parts) → nodes ≡ x.nodes → map (λ l. l.link) links ≡ x.links → notes_of links ≡ x.notes → p ≡ x.places → parts p nodes links ≡ x
parts_equal p nodes links x a b c d = rw (a, b, c, d) refl

of_network : (p : Places) (x : Parts × List Demand) (is : List Item) → SpellsParts p x is → AreSections p x is
of_network p x is s =
    let net : IsNetwork x.0.nodes (map (λ l. l.link) s.links) = subst (λ (ls : List Link). IsNetwork x.0.nodes ls) (sym s.links_are) s.network in
    let short_parts : All (λ n. length n ≤ 255) (names_of s.parts) = after_all (λ (n : List ℕ). length n ≤ 255) [] (names_of s.parts) (parts_short [] s.parts s.parts_in_order) in
    let short : All (λ n. length n ≤ 255) x.0.nodes = subst (λ (ns : List (List ℕ)). All (λ n. length n ≤ 255) ns) s.nodes_are short_parts in
    let new : ComeAfter (IsNew (λ n. n) 128) [] (names_of s.parts) = subst (λ (ns : List (List ℕ)). ComeAfter (IsNew (λ n. n) 128) [] ns) (sym s.nodes_are) (new_are (λ (n : List ℕ). n) 128 x.0.nodes net.few_nodes net.different_nodes short) in
    record {
      meta = s.meta;
      node_items = s.part_items ++ Closing ∷ [];
      part_items = s.part_items;
      links = s.links;
      demand_items = s.demand_items;
      paths = s.paths;
      meta_is = s.meta_is;
      nodes = (s.parts, s.part_items, are_parts [] s.parts new s.parts_in_order, s.parts_are, s.nodes_are, refl);
      items_are = s.items_are;
      links_are = links_are x.0.nodes s.links short (links_of_network x.0.nodes s.links net s.links_short);
      demands_are = (demands_are p x.0.nodes x.1 s.demand_items short s.belong s.demands_are, s.demands_are);
      paths_are = s.paths_are;
      parts_are = parts_equal p x.0.nodes s.links x.0 refl s.links_are s.notes_are s.places_are;
    }

-- the readings of a file one after another, none inside another
abbrev then_last : Places → List (List ℕ) → List CostedLink → List Demand → Unit {0} → Reading ReadKind (Parts × List Demand)
then_last p nodes links demands u = give (parts p nodes links, demands)

abbrev then_paths : Places → List (List ℕ) → List CostedLink → List Demand → Reading ReadKind (Parts × List Demand)
then_paths p nodes links demands = paths_at (map (λ l. l.link.name) links) (map (λ d. d.name) demands) >>= then_last p nodes links demands

abbrev then_demands : Places → List (List ℕ) → List CostedLink → Reading ReadKind (Parts × List Demand)
then_demands p nodes links = native_section_at (codes "DEMANDS") (native_demands_at p nodes []) >>= then_paths p nodes links

abbrev then_links : Places → List (List ℕ) → Reading ReadKind (Parts × List Demand)
then_links p nodes = native_section_at (codes "LINKS") (costed_links_at p nodes []) >>= then_demands p nodes

abbrev then_nodes : Places → Unit {0} → Reading ReadKind (Parts × List Demand)
then_nodes p o = native_nodes_at [] >>= then_links p

abbrev then_open : Places → Unit {0} → Reading ReadKind (Parts × List Demand)
then_open p s = open_at Section Ended >>= then_nodes p

unfoldable in_a_row : Places → Reading ReadKind (Parts × List Demand)
in_a_row p = start_at >>= then_open p

in_a_row_spelled : (p : Places) → Spelled (in_a_row p) (SpellsParts p) IsEnd
unfolding in_a_row
in_a_row_spelled p = spelled_as (in_a_row p) _ (SpellsParts p) IsEnd
    (λ x is s.
    let m = s.3 in
    let o = s.4 in
    let n = o.4 in
    let l = n.4 in
    let d = l.4 in
    let e = d.4 in
    let nodes = n.3 in
    subst (λ (y : Parts × List Demand). SpellsParts p y is) e.2
    (to_network p (parts p n.0 l.0, d.0) is (record {
      meta = m.0;
      node_items = n.1;
      part_items = nodes.1;
      links = l.0;
      demand_items = d.3.1.0;
      paths = d.2;
      meta_is = m.1;
      nodes = nodes;
      items_are = all_joined is s.1 s.2 o.1 o.2 n.1 n.2 l.1 l.2 l.3.0 d.1 d.2 d.3.0 m.0 nodes.1 (flat_map (link_items p n.0) l.0) d.3.1.0 s.5 m.2 o.5 o.3.1 n.5 nodes.5 l.5 l.3.2 l.3.1.1 d.5 d.3.2 d.3.1.3;
      links_are = l.3.1.0;
      demands_are = (d.3.1.1, d.3.1.2);
      paths_are = e.1;
      parts_are = refl;
    })))
    (λ x is s.
    let t = of_network p x is s in
    let n = t.nodes in
    let ls = flat_map (link_items p x.0.nodes) t.links ++ Closing ∷ [] in
    let ds = t.demand_items ++ Closing ∷ [] in
    let links_text = Verbatim (codes "LINKS") ∷ Opening ∷ ls in
    let demands_text = Verbatim (codes "DEMANDS") ∷ Opening ∷ ds in
    let from_demands = demands_text ++ t.paths in
    let from_links = links_text ++ from_demands in
    let from_nodes = (n.1 ++ Closing ∷ []) ++ from_links in (
      tt,
      t.meta ++ Verbatim (codes "NODES") ∷ [],
      Opening ∷ from_nodes,
      (t.meta, t.meta_is, refl),
      (
        tt,
        Opening ∷ [],
        from_nodes,
        (tt, refl),
        (
          x.0.nodes,
          n.1 ++ Closing ∷ [],
          from_links,
          (n.0, n.1, n.2, n.3, n.4, refl),
          (
            t.links,
            links_text,
            from_demands,
            (ls, (t.links_are, refl), refl),
            (
              x.1,
              demands_text,
              t.paths,
              (ds, (t.demand_items, t.demands_are.0, t.demands_are.1, refl), refl),
              (
                tt,
                t.paths_are,
                ap (λ (y : Parts). (y, x.1)) t.parts_are,
              ),
              refl,
            ),
            refl,
          ),
          refl,
        ),
        refl,
      ),
      t.items_are ∙ sym (append_assoc t.meta (Verbatim (codes "NODES") ∷ []) (Opening ∷ from_nodes)),
    ))
    (spelled_then start_at _ _ _ IsEnd start_spelled (λ m js s.
    spelled_then (open_at Section Ended) _ _ _ IsEnd (spelled_law (open_at Section Ended) _ _ AnyText (lawful_open Section Ended)) (λ o js s.
    spelled_then (native_nodes_at []) _ AreNodes _ IsEnd nodes_spelled (λ nodes js s.
    let different : AreDifferent nodes = (nodes_new nodes js s).1 in
    spelled_then _ _ _ _ IsEnd (section_spelled (codes "LINKS") (costed_links_at p nodes []) (AreLinkItems p nodes) (spelled_law (costed_links_at p nodes []) _ _ AnyText (links_lawful p nodes different))) (λ links js s.
    spelled_then _ _ _ _ IsEnd (section_spelled (codes "DEMANDS") (native_demands_at p nodes []) (AreDemandItems p nodes) (demands_spelled p nodes different)) (λ demands js s.
    spelled_given _ (λ u. (parts p nodes links, demands)) _ IsEnd (paths_spelled _ _)))))))

abbrev given_demands : List Demand → Unit {0} → Reading ReadKind (List Demand)
given_demands demands u = give demands

abbrev given_both : List CostedLink → List Demand → Reading ReadKind (List CostedLink × List Demand)
given_both links demands = give (links, demands)

abbrev given_parts : Places → List (List ℕ) → List CostedLink × List Demand → Reading ReadKind (Parts × List Demand)
given_parts p nodes rest = give (parts p nodes rest.0, rest.1)

abbrev paths_of : List CostedLink → List Demand → Reading ReadKind (List Demand)
paths_of links demands = paths_at (map (λ l. l.link.name) links) (map (λ d. d.name) demands) >>= given_demands demands

abbrev links_of : Places → List (List ℕ) → List CostedLink → Reading ReadKind (List CostedLink × List Demand)
links_of p nodes links = after_links_at p nodes (map (λ l. l.link.name) links) >>= given_both links

after_paths_read : (p : Places) (nodes : List (List ℕ)) (links : List CostedLink) (demands : List Demand) (read : Read ReadKind (Unit {0}))
    → after (after (after read (given_demands demands)) (given_both links)) (given_parts p nodes) ≡ after read (then_last p nodes links demands)
after_paths_read p nodes links demands (Ok x) = refl
after_paths_read p nodes links demands (Err e) = refl

after_demands_read : (p : Places) (nodes : List (List ℕ)) (links : List CostedLink) (read : Read ReadKind (List Demand))
    → after (after (after read (paths_of links)) (given_both links)) (given_parts p nodes) ≡ after read (then_paths p nodes links)
after_demands_read p nodes links (Ok x) = after_paths_read p nodes links x.0 (paths_at (map (λ l. l.link.name) links) (map (λ d. d.name) x.0) x.1)
after_demands_read p nodes links (Err e) = refl

after_links_read : (p : Places) (nodes : List (List ℕ)) (read : Read ReadKind (List CostedLink)) → after (after read (links_of p nodes)) (given_parts p nodes) ≡ after read (then_demands p nodes)
unfolding after_links_at
after_links_read p nodes (Ok x) = after_demands_read p nodes x.0 (native_section_at (codes "DEMANDS") (native_demands_at p nodes []) x.1)
after_links_read p nodes (Err e) = refl

after_nodes_read : (p : Places) (read : Read ReadKind (List (List ℕ))) → after read (λ nodes. after_nodes_at p nodes >>= given_parts p nodes) ≡ after read (then_links p)
unfolding after_nodes_at
after_nodes_read p (Ok x) = after_links_read p x.0 (native_section_at (codes "LINKS") (costed_links_at p x.0 []) x.1)
after_nodes_read p (Err e) = refl

-- what comes after the nodes, as the code reads it
abbrev nested : Places → List (List ℕ) → Reading ReadKind (Parts × List Demand)
nested p nodes = after_nodes_at p nodes >>= given_parts p nodes

abbrev just_nodes : Unit {0} → Reading ReadKind (List (List ℕ))
just_nodes o = native_nodes_at []

abbrev open_and_nodes : Unit {0} → Reading ReadKind (List (List ℕ))
open_and_nodes s = open_at Section Ended >>= just_nodes

after_open_read : (p : Places) (read : Read ReadKind (Unit {0})) → after (after read just_nodes) (nested p) ≡ after read (then_nodes p)
after_open_read p (Ok x) = after_nodes_read p (native_nodes_at [] x.1)
after_open_read p (Err e) = refl

after_start_read : (p : Places) (read : Read ReadKind (Unit {0})) → after (after read open_and_nodes) (nested p) ≡ after read (then_open p)
after_start_read p (Ok x) = after_open_read p (open_at Section Ended x.1)
after_start_read p (Err e) = refl

are_in_a_row : (p : Places) (text : Text) → native_sections_at p text ≡ in_a_row p text
unfolding node_section_at native_sections_at in_a_row
are_in_a_row p text = after_start_read p (start_at text)

pub sections_spelled : (p : Places) → Spelled (native_sections_at p) (SpellsParts p) IsEnd
sections_spelled p = record {
  takes = λ text x rest e. (in_a_row_spelled p).takes text x rest (sym (are_in_a_row p text) ∙ e);
  again = λ text x rest is of begins left. are_in_a_row p text ∙ (in_a_row_spelled p).again text x rest is of begins left;
}

-- ---- what the code needs while it reads

pub few_nodes : (text : Text) (nodes : List (List ℕ)) (rest : Text) → native_nodes_at [] text ≡ Ok (nodes, rest) → length nodes ≤ 128
few_nodes text nodes rest e = let h = nodes_spelled.takes text nodes rest e in (nodes_new nodes h.0 h.1).0

pub read_is_network : (p : Places) (text mid : Text) (nodes : List (List ℕ)) (a b : Text) (links : List CostedLink) → native_nodes_at [] text ≡ Ok (nodes, a) → native_section_at (codes "LINKS") (costed_links_at p nodes []) mid ≡ Ok (links, b) → IsNetwork nodes (map (λ l. l.link) links)
read_is_network p text mid nodes a b links first second =
    let n = nodes_spelled.takes text nodes a first in
    let law = section_spelled (codes "LINKS") (costed_links_at p nodes []) (AreLinkItems p nodes) (spelled_law (costed_links_at p nodes []) _ _ AnyText (links_lawful p nodes (nodes_new nodes n.0 n.1).1)) in
    let l = law.takes mid links b second in
    network_read nodes links n.0 n.1 l.1.1.0

-- ---- whole files

abbrev pub Answer : Type 0
Answer = Result (Network × List Demand) (Refusal ReadKind)

abbrev pub seen : Network × List Demand → Parts × List Demand
seen r = (parts_of r.0, r.1)

-- what reading the sections gave is what the file gives
pub file_answers : (p : Places) (bytes : List ℕ) (r : Answer) (rest : Text) → are_same (trimmed (first_line bytes)) header ≡ true → ReadsAs seen r rest (native_sections_at p (body bytes)) → ReadsAllAs seen r (network_in p bytes)
file_answers p bytes (Ok x) rest line read = spelled_read Header header (native_sections_at p) (SpellsParts p) (sections_spelled p) bytes (seen x) rest line read
file_answers p bytes (Err (Bad at kind)) rest line read = ap (λ (b : Bool). cond b (native_sections_at p (body bytes)) (Err (0, Header))) line ∙ read
file_answers p bytes (Err NoMemory) rest line read = tt
