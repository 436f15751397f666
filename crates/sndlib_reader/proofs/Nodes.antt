-- The list of nodes: names, and coordinates after them.
use Rattle.std.proofs.Common.{◌≡◌, ℕ, ◌≤◌, ◌<◌, Bool, true, false, cond, List, [], ◌∷◌, ◌++◌, map, length, IsTrue, Option, None, Some, Ok, Err, refl, sym, ap, subst, ◌∙◌, arith}
use Rattle.snd_tokens.specs.Terms.{Text, WordAt, OpenAt, CloseAt, EndAt, size}
use Rattle.text_kit.{specs.Terms.{Fails, ComeAfter, Item, Verbatim, Opening, Closing, Begins, Read, after, give, placed, step_at, Parenthesis, past_ending, no_fault, sound}, specs.declared.refusal.Refusal.Refusal, specs.declared.refusal.Refusal.TheVariants.{Bad, NoMemory}, proofs.Lemmas.{AnyText, IsOnline, TakesSome, ok_parts, online_give, online_step, online_then, takes_some, Spelled, list_fails, list_turn, lists_alike, IsNew, fault_none, none_fault}}
use Rattle.sndlib_reader.{specs.declared.fault.ReadKind.ReadKind, specs.declared.fault.ReadKind.TheVariants.{Token, Ended, Limit, DoubleName}, specs.Spelling.{NodePart, NodeName, Coordinates, names_of, ends_named, IsPartAfter, SpellsPart}, specs.Reading.{node_fault, name_part, coordinates, part_after, part_at, native_nodes_at, skipped_at}, specs.inner.Nodes.parts_so_far, proofs.Skipped.{skipped_online, skipped_spelled}}
use Rattle.sndlib_reader.specs.declared.fault.Limited.TheVariants as limits

-- ---- one part more

pub name_more : (parts : List NodePart) (w : List ℕ) → names_of (parts ++ NodeName w ∷ []) ≡ names_of parts ++ w ∷ []
name_more [] w = refl
name_more (NodeName v ∷ parts) w = ap (λ (ns : List (List ℕ)). v ∷ ns) (name_more parts w)
name_more (Coordinates ∷ parts) w = name_more parts w

pub same_names : (parts : List NodePart) → names_of (parts ++ Coordinates ∷ []) ≡ names_of parts
same_names [] = refl
same_names (NodeName v ∷ parts) = ap (λ (ns : List (List ℕ)). v ∷ ns) (same_names parts)
same_names (Coordinates ∷ parts) = same_names parts

ends_by_name : (b : Bool) (parts : List NodePart) (w : List ℕ) → ends_named b (parts ++ NodeName w ∷ []) ≡ true
ends_by_name b [] w = refl
ends_by_name b (NodeName v ∷ parts) w = ends_by_name true parts w
ends_by_name b (Coordinates ∷ parts) w = ends_by_name false parts w

ends_by_coordinates : (b : Bool) (parts : List NodePart) → ends_named b (parts ++ Coordinates ∷ []) ≡ false
ends_by_coordinates b [] = refl
ends_by_coordinates b (NodeName v ∷ parts) = ends_by_coordinates true parts
ends_by_coordinates b (Coordinates ∷ parts) = ends_by_coordinates false parts

-- ---- it depends on no later lexeme

after_online : (part : NodePart) → IsOnline (part_after part)
after_online (NodeName w) = online_give (NodeName w)
after_online Coordinates = online_then (skipped_at 0) _ skipped_online (λ u. online_give Coordinates)

pub part_online : (sofar : List NodePart) → IsOnline (part_at sofar)
unfolding part_at
part_online sofar = online_then _ part_after (online_step (name_part sofar) (coordinates sofar) (Err Token) (Err Ended)) after_online

pub part_some : (sofar : List NodePart) → TakesSome (part_at sofar)
unfolding part_at
part_some sofar = takes_some (part_at sofar) (part_online sofar) (λ p. Ended) (λ p. refl)

-- ---- what is read after parts hangs on their names, and on whether the last is one

abbrev Alike : List NodePart → List NodePart → Type 0
Alike s t = (names_of s ≡ names_of t) × (ends_named false s ≡ ends_named false t)

alike_parts : (s t : List NodePart) → Alike s t → (text : Text) → part_at s text ≡ part_at t text
unfolding part_at
alike_parts s t alike text =
    ap (λ (ns : List (List ℕ)). after (step_at (λ w. sound (NodeName w) (node_fault ns w)) (coordinates s) (Err Token) (Err Ended) text) part_after) alike.0
    ∙ ap (λ (b : Bool). after (step_at (name_part t) (cond b (Ok Coordinates) (Err Token)) (Err Token) (Err Ended) text) part_after) alike.1

alike_longer : (s t : List NodePart) (x : NodePart) → Alike s t → Alike (s ++ x ∷ []) (t ++ x ∷ [])
alike_longer s t (NodeName w) alike = (name_more s w ∙ (ap (λ (ns : List (List ℕ)). ns ++ w ∷ []) alike.0 ∙ sym (name_more t w)), ends_by_name false s w ∙ sym (ends_by_name false t w))
alike_longer s t Coordinates alike = (same_names s ∙ (alike.0 ∙ sym (same_names t)), ends_by_coordinates false s ∙ sym (ends_by_coordinates false t))

nodes_alike : (s t : List NodePart) (text : Text) → Alike s t → native_nodes_at s text ≡ native_nodes_at t text
nodes_alike s t text alike = lists_alike Parenthesis part_at names_of Alike alike_parts alike_longer (λ s t a. a.0) s t text alike

-- parts that are names alone have these names
pub all_names : (names : List (List ℕ)) → names_of (map NodeName names) ≡ names
all_names [] = refl
all_names (n ∷ ns) = ap (λ (is : List (List ℕ)). n ∷ is) (all_names ns)

all_named : (names : List (List ℕ)) → ends_named true (map NodeName names) ≡ true
all_named [] = refl
all_named (n ∷ ns) = all_named ns

names_so_far : (names : List (List ℕ)) (named : Bool) → names_of (parts_so_far names named) ≡ names
names_so_far names true = all_names names
names_so_far names false = same_names (map NodeName names) ∙ all_names names

ends_so_far : (names : List (List ℕ)) (named : Bool) → (IsTrue named → 1 ≤ length names) → ends_named false (parts_so_far names named) ≡ named
ends_so_far [] true some = absurd (let h : 1 ≤ length {A = List ℕ} [] = some refl in omega (arith, h))
ends_so_far (n ∷ ns) true some = all_named ns
ends_so_far names false some = ends_by_coordinates false (map NodeName names)

pub nothing_so_far : (text : Text) → native_nodes_at (parts_so_far [] false) text ≡ native_nodes_at [] text
nothing_so_far text = nodes_alike (Coordinates ∷ []) [] text (refl, refl)

-- ---- turns of the list

sound_turn : (names : List (List ℕ)) (named : Bool) (at : ℕ) (w : List ℕ) (rest : Text) → node_fault names w ≡ None → native_nodes_at (parts_so_far names named) (WordAt at w rest) ≡ native_nodes_at (parts_so_far (names ++ w ∷ []) true) rest
unfolding part_at
sound_turn names named at w rest sound_name =
    let sofar = parts_so_far names named in
    let none : node_fault (names_of sofar) w ≡ None = subst (λ (ns : List (List ℕ)). node_fault ns w ≡ None) (sym (names_so_far names named)) sound_name in
    let read : part_at sofar (WordAt at w rest) ≡ Ok (NodeName w, rest) = ap (λ (o : Option ReadKind). after (placed at rest (sound (NodeName w) o)) part_after) none in
    let some : IsTrue true → 1 ≤ length (names ++ w ∷ []) = λ t. longer names in
    ap (λ (q : Read ReadKind (List NodePart)). after q (λ ps. give (names_of ps))) (list_turn Parenthesis no_fault part_at part_some sofar (WordAt at w rest) rest (NodeName w) refl read)
    ∙ nodes_alike (sofar ++ NodeName w ∷ []) (parts_so_far (names ++ w ∷ []) true) rest
    (name_more sofar w ∙ (ap (λ (ns : List (List ℕ)). ns ++ w ∷ []) (names_so_far names named) ∙ sym (names_so_far (names ++ w ∷ []) true)), ends_by_name false sofar w ∙ sym (ends_so_far (names ++ w ∷ []) true some))
  where
    longer : (ns : List (List ℕ)) → 1 ≤ length (ns ++ w ∷ [])
    longer [] = omega arith
    longer (n ∷ ns) = omega arith

passed_none : (at : ℕ) (w name : List ℕ) (o : Option ReadKind) → (let q : Read ReadKind (List ℕ) = placed at (EndAt at) (sound w o) in q ≡ Ok (name, EndAt at)) → (o ≡ None) × (w ≡ name)
passed_none at w name None e = (refl, (ok_parts {K = ReadKind} w name (EndAt at) (EndAt at) e).0)
passed_none at w name (Some k) e = absurd cc

pub name_turn : (names : List (List ℕ)) (named : Bool) (at : ℕ) (w name : List ℕ) (rest : Text) → (let q : Read ReadKind (List ℕ) = placed at (EndAt at) (sound w (node_fault names w)) in q ≡ Ok (name, EndAt at))
    → native_nodes_at (parts_so_far names named) (WordAt at w rest) ≡ native_nodes_at (parts_so_far (names ++ name ∷ []) true) rest
name_turn names named at w name rest passed =
    let p = passed_none at w name (node_fault names w) passed in
    subst (λ (v : List ℕ). native_nodes_at (parts_so_far names named) (WordAt at w rest) ≡ native_nodes_at (parts_so_far (names ++ v ∷ []) true) rest) p.1 (sound_turn names named at w rest p.0)

-- a part that fails, and so the list
part_fails : (sofar : List NodePart) (text : Text) (e : ℕ × ReadKind) → past_ending Parenthesis text ≡ None → part_at sofar text ≡ Err e → native_nodes_at sofar text ≡ Err e
part_fails sofar text e open_text fails = ap (λ (q : Read ReadKind (List NodePart)). after q (λ ps. give (names_of ps))) (list_fails Parenthesis no_fault part_at sofar text e open_text fails)

pub name_fails : (names : List (List ℕ)) (named : Bool) (at : ℕ) (w : List ℕ) (rest : Text) (e : Refusal ReadKind) → Fails {Y = List ℕ} e (placed at (EndAt at) (sound w (node_fault names w))) → Fails e (native_nodes_at (parts_so_far names named) (WordAt at w rest))
unfolding part_at
name_fails names named at w rest NoMemory h = tt
name_fails names named at w rest (Bad place kind) h =
    part_fails (parts_so_far names named) (WordAt at w rest) (place, kind) refl
    (ap (λ (ns : List (List ℕ)). after (placed at rest (sound (NodeName w) (node_fault ns w))) part_after) (names_so_far names named) ∙ by (node_fault names w) h)
  where
    by : (o : Option ReadKind) → (let q : Read ReadKind (List ℕ) = placed at (EndAt at) (sound w o) in q ≡ Err (place, kind)) → after (placed at rest (sound (NodeName w) o)) part_after ≡ Err (place, kind)
    by None e = absurd cc
    by (Some k) e = let same : (at, k) ≡ (place, kind) = cc in ap (λ (i : ℕ × ReadKind). Err i) same

pub coordinates_turn : (names : List (List ℕ)) (at : ℕ) (t rest : Text) → 1 ≤ length names → skipped_at 0 t ≡ Ok (tt, rest) → native_nodes_at (parts_so_far names true) (OpenAt at t) ≡ native_nodes_at (parts_so_far names false) rest
unfolding part_at
coordinates_turn names at t rest some skip =
    let sofar = parts_so_far names true in
    let after_name : ends_named false sofar ≡ true = ends_so_far names true (λ u. some) in
    let read : part_at sofar (OpenAt at t) ≡ Ok (Coordinates, rest) = ap (λ (b : Bool). after (placed at t (cond b (Ok Coordinates) (Err Token))) part_after) after_name ∙ ap (λ (q : Read ReadKind (Unit {0})). after q (λ u. give Coordinates)) skip in
    ap (λ (q : Read ReadKind (List NodePart)). after q (λ ps. give (names_of ps))) (list_turn Parenthesis no_fault part_at part_some sofar (OpenAt at t) rest Coordinates refl read)
    ∙ nodes_alike (sofar ++ Coordinates ∷ []) (parts_so_far names false) rest (refl, refl)

pub coordinates_fail : (names : List (List ℕ)) (at : ℕ) (t : Text) (e : Refusal ReadKind) → 1 ≤ length names → Fails e (skipped_at 0 t) → Fails e (native_nodes_at (parts_so_far names true) (OpenAt at t))
unfolding part_at
coordinates_fail names at t NoMemory some h = tt
coordinates_fail names at t (Bad place kind) some h =
    part_fails (parts_so_far names true) (OpenAt at t) (place, kind) refl
    (ap (λ (b : Bool). after (placed at t (cond b (Ok Coordinates) (Err Token))) part_after) (ends_so_far names true (λ u. some)) ∙ ap (λ (q : Read ReadKind (Unit {0})). after q (λ u. give Coordinates)) h)

pub no_coordinates : (names : List (List ℕ)) (at : ℕ) (t : Text) → native_nodes_at (parts_so_far names false) (OpenAt at t) ≡ Err (at, Token)
unfolding part_at
no_coordinates names at t =
    part_fails (parts_so_far names false) (OpenAt at t) (at, Token) refl
    (ap (λ (b : Bool). after (placed at t (cond b (Ok Coordinates) (Err Token))) part_after) (ends_by_coordinates false (map NodeName names)))

pub nodes_ended : (names : List (List ℕ)) (named : Bool) (at : ℕ) → native_nodes_at (parts_so_far names named) (EndAt at) ≡ Err (at, Ended)
unfolding part_at
nodes_ended names named at = part_fails (parts_so_far names named) (EndAt at) (at, Ended) refl refl

pub skip_shorter : (at : ℕ) (t rest : Text) → skipped_at 0 t ≡ Ok (tt, rest) → size rest < size (OpenAt at t)
unfolding part_at
skip_shorter at t rest skip = part_some (NodeName [] ∷ []) (OpenAt at t) Coordinates rest (ap (λ (q : Read ReadKind (Unit {0})). after q (λ u. give Coordinates)) skip)

pub nodes_end : (names : List (List ℕ)) (named : Bool) (at : ℕ) (t : Text) → native_nodes_at (parts_so_far names named) (CloseAt at t) ≡ Ok (names, t)
nodes_end names named at t = ap (λ (ns : List (List ℕ)). Ok (ns, t)) (names_so_far names named)

-- ---- the law of a part

-- a part that may come after earlier ones
abbrev pub IsNewPart : List NodePart → NodePart → Type 0
IsNewPart sofar (NodeName w) = IsNew (λ n. n) 128 (names_of sofar) w
IsNewPart sofar Coordinates = IsTrue (ends_named false sofar)

abbrev Takes : List NodePart → Text → NodePart → Text → Type 0
Takes sofar text x rest = (is : List Item) × (IsNewPart sofar x × SpellsPart x is) × Begins is text rest × AnyText rest

name_takes : (sofar : List NodePart) (at : ℕ) (w : List ℕ) (t : Text) (o : Option ReadKind) (x : NodePart) (rest : Text) → node_fault (names_of sofar) w ≡ o → after (placed at t (sound (NodeName w) o)) part_after ≡ Ok (x, rest) → Takes sofar (WordAt at w t) x rest
name_takes sofar at w t None x rest fault e =
    let p = ok_parts {K = ReadKind} (NodeName w) x t rest e in
    subst (λ (y : NodePart). Takes sofar (WordAt at w t) y rest) p.0 (Verbatim w ∷ [], (fault_none (λ n. n) 128 (Limit limits.Name) DoubleName (Limit limits.Nodes) (names_of sofar) w fault, refl), (refl, p.1), tt)
name_takes sofar at w t (Some k) x rest fault e = absurd cc

skip_takes : (sofar : List NodePart) (at : ℕ) (t : Text) (q : Read ReadKind (Unit {0})) (x : NodePart) (rest : Text) → IsTrue (ends_named false sofar) → skipped_at 0 t ≡ q → after q (λ u. give Coordinates) ≡ Ok (x, rest) → Takes sofar (OpenAt at t) x rest
skip_takes sofar at t (Ok u) x rest named skip e =
    let p = ok_parts {K = ReadKind} Coordinates x u.1 rest e in
    let s = skipped_spelled.takes t u.0 u.1 skip in
    subst (λ (y : NodePart). Takes sofar (OpenAt at t) y rest) p.0 (Opening ∷ s.0, (named, (s.0, s.1, refl)), (refl, subst (λ (v : Text). Begins s.0 t v) p.1 s.2), tt)
skip_takes sofar at t (Err d) x rest named skip e = absurd cc

open_takes : (sofar : List NodePart) (at : ℕ) (t : Text) (b : Bool) (x : NodePart) (rest : Text) → ends_named false sofar ≡ b → after (placed at t (cond b (Ok Coordinates) (Err Token))) part_after ≡ Ok (x, rest) → Takes sofar (OpenAt at t) x rest
open_takes sofar at t true x rest named e = skip_takes sofar at t (skipped_at 0 t) x rest named refl e
open_takes sofar at t false x rest named e = absurd cc

part_takes : (sofar : List NodePart) (text : Text) (x : NodePart) (rest : Text) → part_at sofar text ≡ Ok (x, rest) → Takes sofar text x rest
unfolding part_at
part_takes sofar (WordAt at w t) x rest e = name_takes sofar at w t (node_fault (names_of sofar) w) x rest refl e
part_takes sofar (OpenAt at t) x rest e = open_takes sofar at t (ends_named false sofar) x rest refl e
part_takes sofar (CloseAt at t) x rest e = absurd cc
part_takes sofar (EndAt at) x rest e = absurd cc

part_again : (sofar : List NodePart) (text : Text) (x : NodePart) (rest : Text) (is : List Item) → IsNewPart sofar x × SpellsPart x is → Begins is text rest → part_at sofar text ≡ Ok (x, rest)
unfolding part_at
part_again sofar text (NodeName w) rest is s b = by text (subst (λ (js : List Item). Begins js text rest) s.1 b)
  where
    by : (text : Text) → Begins (Verbatim w ∷ []) text rest → part_at sofar text ≡ Ok (NodeName w, rest)
    by (WordAt at v t) c = rw (c.0, none_fault (λ n. n) 128 (Limit limits.Name) DoubleName (Limit limits.Nodes) (names_of sofar) w s.0) (ap (λ (u : Text). Ok (NodeName w, u)) c.1)
    by (OpenAt at t) c = absurd (let e : Verbatim w ≡ Opening = c.0 in cc)
    by (CloseAt at t) c = absurd (let e : Verbatim w ≡ Closing = c.0 in cc)
    by (EndAt at) c = absurd c
part_again sofar text Coordinates rest is s b = by text (subst (λ (js : List Item). Begins js text rest) s.1.2 b)
  where
    by : (text : Text) → Begins (Opening ∷ s.1.0) text rest → part_at sofar text ≡ Ok (Coordinates, rest)
    by (OpenAt at t) c =
        ap (λ (b : Bool). after (placed at t (cond b (Ok Coordinates) (Err Token))) part_after) s.0
        ∙ ap (λ (q : Read ReadKind (Unit {0})). after q (λ u. give Coordinates)) (skipped_spelled.again t tt rest s.1.0 s.1.1 c.1 tt)
    by (WordAt at v t) c = absurd c.0
    by (CloseAt at t) c = absurd (let e : Opening ≡ Closing = c.0 in cc)
    by (EndAt at) c = absurd c

pub part_spelled : (sofar : List NodePart) → Spelled (part_at sofar) (λ x is. IsNewPart sofar x × SpellsPart x is) AnyText
part_spelled sofar = record { takes = part_takes sofar; again = λ text x rest is s b left. part_again sofar text x rest is s b }

-- ---- all parts

-- new names, after parts whose coordinates are in order
pub parts_are : (sofar parts : List NodePart) → ComeAfter IsNewPart sofar parts → ComeAfter (IsNew (λ n. n) 128) (names_of sofar) (names_of parts) × ComeAfter IsPartAfter sofar parts
parts_are sofar [] h = (tt, tt)
parts_are sofar (NodeName w ∷ parts) h =
    let r = parts_are (sofar ++ NodeName w ∷ []) parts h.1 in
    ((h.0, subst (λ (ns : List (List ℕ)). ComeAfter (IsNew (λ n. n) 128) ns (names_of parts)) (name_more sofar w) r.0), (h.0.2, r.1))
parts_are sofar (Coordinates ∷ parts) h =
    let r = parts_are (sofar ++ Coordinates ∷ []) parts h.1 in
    (subst (λ (ns : List (List ℕ)). ComeAfter (IsNew (λ n. n) 128) ns (names_of parts)) (same_names sofar) r.0, (h.0, r.1))

pub are_parts : (sofar parts : List NodePart) → ComeAfter (IsNew (λ n. n) 128) (names_of sofar) (names_of parts) → ComeAfter IsPartAfter sofar parts → ComeAfter IsNewPart sofar parts
are_parts sofar [] names order = tt
are_parts sofar (NodeName w ∷ parts) names order =
    (names.0, are_parts (sofar ++ NodeName w ∷ []) parts (subst (λ (ns : List (List ℕ)). ComeAfter (IsNew (λ n. n) 128) ns (names_of parts)) (sym (name_more sofar w)) names.1) order.1)
are_parts sofar (Coordinates ∷ parts) names order =
    (order.0, are_parts (sofar ++ Coordinates ∷ []) parts (subst (λ (ns : List (List ℕ)). ComeAfter (IsNew (λ n. n) 128) ns (names_of parts)) (sym (same_names sofar)) names) order.1)

-- names in order are short
pub parts_short : (sofar parts : List NodePart) → ComeAfter IsPartAfter sofar parts → ComeAfter (λ (before : List (List ℕ)) w. length w ≤ 255) (names_of sofar) (names_of parts)
parts_short sofar [] order = tt
parts_short sofar (NodeName w ∷ parts) order = (order.0, subst (λ (ns : List (List ℕ)). ComeAfter (λ (before : List (List ℕ)) v. length v ≤ 255) ns (names_of parts)) (name_more sofar w) (parts_short (sofar ++ NodeName w ∷ []) parts order.1))
parts_short sofar (Coordinates ∷ parts) order = subst (λ (ns : List (List ℕ)). ComeAfter (λ (before : List (List ℕ)) v. length v ≤ 255) ns (names_of parts)) (same_names sofar) (parts_short (sofar ++ Coordinates ∷ []) parts order.1)
