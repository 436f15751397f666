-- plans that become cheaper on the way
use Rattle.std.{proofs.Common.{◌≡◌, ◌∙◌, ℕ, ◌+◌, ◌*◌, ◌^◌, ◌≤◌, ◌<◌, ⊎_elim, Bool, List, [], ◌∷◌, ◌++◌, All, drop, length, map, take, refl, ap, sym, subst, arith}, proofs.lemmas.List.{length-map, length-take, take-append-drop, take-append-le, take-map, take-take, take_all}}
use Rattle.net_core.proofs.Library.{All-cons, All-head, All-nil, All-tail}
use Rattle.plan_terms.specs.Terms.{Case, CutLine, IsCut, IsSurvivable}
use Rattle.plan_types.{specs.Terms.IsCertifiedPlan, specs.declared.plan.Plan.Plan}
use Rattle.tree_boxes.{specs.Terms.{IsCheaperPlan, BoxCert, Node, Proof, AreCheaperCounts, Extends, HasLearned, IsAim, IsKnown, IsOwnCert, IsSearch, IsSoundEntry, aimed, handed_in, most_entries, twig_node, IsRoutedPlan, IsTestOf as IsAbleTestOf, cuts_among, moved_line, moved_node, place_of, Entry}, proofs.Lemmas.{cuts_append, routed_with}, specs.declared.aim.Aim.Aim, specs.declared.search.Search.Search, specs.declared.twigs.Twig.Twig, specs.declared.found.Cheaper.Cheaper, proofs.Extending.{cert_on, handed_same, search_with}, proofs.Knowing.cuts_same}
use Rattle.tree_search.{specs.Proving.{AreHandedCuts, IsProofOf}, specs.inner.Growing.IsGrownTree, specs.inner.Making.{AreFirstOf, IsProofMade, IsProofWith}, specs.declared.tree.Tree.Tree, proofs.Proved.{is_proof, told_node, told_proof}}
use Rattle.tree_boxes.specs.Terms.entry

module _ (p : Case) where
  -- a plan is no dearer than itself
  pub cheaper_none : (plan : Plan) → IsRoutedPlan p plan → IsCheaperPlan p plan plan
  cheaper_none plan is = record { same = refl; routed = is; cheaper = omega arith }

  pub cheaper_both : (a b c : Plan) → IsCheaperPlan p a b → IsCheaperPlan p b c → IsCheaperPlan p a c
  cheaper_both a b c one two = record {
    same = two.same ∙ ap (λ (x : Plan). record x { counts = c.counts; cost = c.cost; routings = c.routings }) one.same;
    routed = two.routed;
    cheaper = let first = one.cheaper in let second = two.cheaper in omega (arith, first, second);
  }

  -- a cheaper plan has the certificate, the bound and the demands of the given one
  pub certified_still : (a b : Plan) → IsCheaperPlan p a b → IsCertifiedPlan p a → IsCertifiedPlan p b
  certified_still a b cheaper is = subst (λ (x : Plan). IsCertifiedPlan p x) (sym cheaper.same) (record { certificate = is.certificate; raw = is.raw; rounded = is.rounded })

  pub own_still : (entries : List Entry) (a b : Plan) (cert : BoxCert) → IsCheaperPlan p a b → IsOwnCert entries a cert → IsOwnCert entries b cert
  own_still entries a b cert cheaper is = subst (λ (x : Plan). IsOwnCert entries x cert) (sym cheaper.same) (record { den = is.den; named = is.named })

  pub demands_still : (a b : Plan) → IsCheaperPlan p a b → b.demands ≡ a.demands
  demands_still a b cheaper = ap (λ (x : Plan). x.demands) cheaper.same

  pub handed_still : (a b : Plan) (cuts : List CutLine) → IsCheaperPlan p a b → AreHandedCuts p a cuts → AreHandedCuts p b cuts
  handed_still a b cuts cheaper is = subst (λ (x : Plan). AreHandedCuts p x cuts) (sym cheaper.same) (record { few = is.few; sound = is.sound; own = is.own })

  -- a proof of a cheaper plan is one of the given plan
  pub proof_still : (a b : Plan) (handed : List CutLine) (limit : ℕ) (proof : Proof) → IsCheaperPlan p a b → IsProofOf p b handed limit proof → IsProofOf p a handed limit proof
  proof_still a b handed limit proof cheaper is = record {
    plan = cheaper_both a b proof.plan cheaper is.plan;
    cuts = is.cuts;
    sound = is.sound;
    few = is.few;
    short = is.short;
    accepted = is.accepted;
    within = is.within;
    fewer = is.fewer;
    causes = is.causes;
    below = is.below;
    told = is.told;
    bounded = is.bounded;
  }

  -- the plan with cheaper counts
  pub with_counts : (plan : Plan) (c : Cheaper) → plan.demands ≡ p.demands → IsRoutedPlan p plan → AreCheaperCounts p plan.cost c
      → IsCheaperPlan p plan (record plan { counts = c.counts; cost = c.cost; routings = c.routings })
  with_counts plan c same is cheaper =
      let less = cheaper.cheaper in
      record {
        same = refl;
        routed = routed_with p plan c.counts c.cost c.routings same is cheaper.shape cheaper.limits cheaper.routings cheaper.paid (omega (arith, less));
        cheaper = omega (arith, less);
      }

module _ (p : Case) (plan made : Plan) (c : Cheaper) (is : made ≡ record plan { counts = c.counts; cost = c.cost; routings = c.routings }) (same : plan.demands ≡ p.demands) (routed : IsRoutedPlan p plan)
    (cheaper : AreCheaperCounts p plan.cost c) where
  -- the plan that is made of cheaper counts
  pub made_cheaper : IsCheaperPlan p plan made
  made_cheaper = subst (λ (x : Plan). IsCheaperPlan p plan x) (sym is) (with_counts p plan c same routed cheaper)

  -- and one that is cheaper still
  pub swapped_cheaper : (swapped : Plan) → IsCheaperPlan p made swapped → IsCheaperPlan p plan swapped × (swapped.cost < plan.cost)
  swapped_cheaper swapped further =
      let cost : made.cost ≡ c.cost = ap (λ (x : Plan). x.cost) is in
      let less = cheaper.cheaper in
      let more = further.cheaper in
      (cheaper_both p plan made swapped made_cheaper further, omega (arith, cost, less, more))

-- ---- the handed-in cuts

pub cuts_sound : (p : Case) (es : List Entry) → All (IsSoundEntry p) es → All (IsCut p) (cuts_among es)
cuts_sound p [] all = All-nil (IsCut p)
cuts_sound p (entry.Cut c ∷ es) all =
    All-cons (IsCut p) c (cuts_among es) (All-head (IsSoundEntry p) (entry.Cut c) es all) (cuts_sound p es (All-tail (IsSoundEntry p) (entry.Cut c) es all))
cuts_sound p (entry.Line l ∷ es) all = cuts_sound p es (All-tail (IsSoundEntry p) (entry.Line l) es all)

module _ (p : Case) (s : Search) (is : IsSearch p s) where
  -- as many as the search says
  handed_length : length (handed_in s) ≡ s.handed
  handed_length =
      omega (
        arith,
        is.inside,
        length-take s.handed s.known.entries,
        ap (λ (es : List Entry). length es) is.first,
        length-map (handed_in s) entry.Cut,
      )

  -- they are the first cuts
  front_cuts : take s.handed (cuts_among s.known.entries) ≡ handed_in s
  front_cuts =
      let rest = cuts_among (drop s.handed s.known.entries) in
      let whole : cuts_among s.known.entries ≡ handed_in s ++ rest =
      ap (λ (es : List Entry). cuts_among es) (sym (take-append-drop s.handed s.known.entries)) ∙ cuts_append (take s.handed s.known.entries) (drop s.handed s.known.entries) in
      ap (λ (cs : List CutLine). take s.handed cs) whole
      ∙ (take-append-le s.handed (handed_in s) rest (omega (arith, handed_length)) ∙ take_all s.handed (handed_in s) (omega (arith, handed_length)))

  -- the first entries come first
  front_extends : Extends (map entry.Cut (handed_in s)) s.known.entries
  front_extends = record {
    more = drop s.handed s.known.entries;
    is = sym (take-append-drop s.handed s.known.entries) ∙ ap (λ (es : List Entry). es ++ drop s.handed s.known.entries) is.first;
  }

-- ---- what a search is for

-- a search that begins anew
module _ (p : Case) (old new : Search) (was : IsSearch p old) (known : IsKnown p new.known) (test : new.test ≡ old.test) (handed : new.handed ≡ old.handed)
    (room : new.room ≡ old.room) where
  begun_with : take new.handed new.known.entries ≡ take old.handed old.known.entries → new.handed ≤ length new.known.entries
      → length new.known.entries ≤ new.room → IsSearch p new × ((handed_in new ≡ handed_in old) × (length new.known.entries ≤ new.room))
  begun_with taken inside few = (
    search_with p old new was known (subst (λ t. IsAbleTestOf p t) (sym test) was.test) handed room taken inside,
    (ap (λ (es : List Entry). cuts_among es) taken, few),
  )

  begun_same : new.known.entries ≡ old.known.entries → length old.known.entries ≤ old.room
      → IsSearch p new × ((handed_in new ≡ handed_in old) × (length new.known.entries ≤ new.room))
  begun_same same le =
      let inside = was.inside in
      let long = ap (λ (es : List Entry). length es) same in
      begun_with
      (ap (λ n. take n new.known.entries) handed ∙ ap (λ (es : List Entry). take old.handed es) same)
      (omega (arith, inside, long, handed))
      (omega (arith, le, long, room))

  begun_cuts : new.known.entries ≡ map entry.Cut (take old.room (cuts_among old.known.entries))
      → IsSearch p new × ((handed_in new ≡ handed_in old) × (length new.known.entries ≤ new.room))
  begun_cuts is =
      let most : ℕ = old.room in
      let cuts : List CutLine = cuts_among old.known.entries in
      let taken : take old.handed (map entry.Cut (take most cuts)) ≡ take old.handed old.known.entries =
      take-map entry.Cut old.handed (take most cuts)
      ∙ (ap (map entry.Cut) (take-take old.handed most cuts (omega (arith, was.enough)) ∙ front_cuts p old was) ∙ sym was.first) in
      let long = ap (λ (es : List Entry). length es) is in
      let front = ap (λ (cs : List CutLine). length cs) (front_cuts p old was) in
      begun_with
      (ap (λ n. take n new.known.entries) handed ∙ (ap (λ (es : List Entry). take old.handed es) is ∙ taken))
      (omega (arith, long, length-map (take most cuts) entry.Cut, length-take most cuts, length-take old.handed cuts, front, handed_length p old was, handed))
      (omega (arith, long, length-map (take most cuts) entry.Cut, length-take most cuts, room))

  pub begun_search : AreFirstOf old.room old.known.entries new.known
      → IsSearch p new × ((handed_in new ≡ handed_in old) × (length new.known.entries ≤ new.room))
  begun_search first = ⊎_elim (λ same. begun_same same.0 same.1) begun_cuts first

-- ---- where a search begins

first_handed : (cuts : List CutLine) (entries : List Entry) (n : ℕ) → entries ≡ map entry.Cut cuts → n ≡ length cuts → take n entries ≡ map entry.Cut cuts
first_handed cuts entries n is long =
    ap (λ (es : List Entry). take n es) is ∙ take_all n (map entry.Cut cuts) (omega (arith, long, length-map cuts entry.Cut))

-- all its cuts were handed in
pub first_cuts : (s : Search) (cuts : List CutLine) → s.known.entries ≡ map entry.Cut cuts → s.handed ≡ length cuts → handed_in s ≡ cuts
first_cuts s cuts is long = ap (λ (es : List Entry). cuts_among es) (first_handed cuts s.known.entries s.handed is long) ∙ cuts_same cuts

pub first_search : (p : Case) (s : Search) (cuts : List CutLine) → IsKnown p s.known → IsAbleTestOf p s.test → s.known.entries ≡ map entry.Cut cuts
    → s.handed ≡ length cuts → length cuts ≤ 8192 → s.handed ≤ s.room → s.room ≤ 2 ^ 15 → IsSearch p s
first_search p s cuts known test is long few enough small = record {
  known = known;
  test = test;
  first = first_handed cuts s.known.entries s.handed is long ∙ ap (map entry.Cut) (sym (first_cuts s cuts is long));
  inside = omega (arith, long, ap (λ (es : List Entry). length es) is, length-map cuts entry.Cut);
  few = omega (arith, few, long);
  enough = enough;
  small = small;
}

-- an aim at the given plan or a cheaper one
pub aim_of : (a : Aim) (given : Plan) (s : Search) (handed : List CutLine) → IsSearch (aimed a) s → IsSurvivable (aimed a) → given.demands ≡ (aimed a).demands
    → IsCheaperPlan (aimed a) given a.plan.now → handed_in s ≡ handed → IsOwnCert (map entry.Cut handed) given a.own.now → IsAim s.known.entries a
aim_of a given s handed is survivable same cheaper first own = record {
  survivable = survivable;
  demands = demands_still (aimed a) given a.plan.now cheaper ∙ same;
  routed = cheaper.routed;
  own = cert_on (map entry.Cut (handed_in s)) s.known.entries (front_extends (aimed a) s is) a.plan.now a.own.now
      (subst (λ (cuts : List CutLine). IsOwnCert (map entry.Cut cuts) a.plan.now a.own.now) (sym first)
      (own_still (aimed a) (map entry.Cut handed) given a.plan.now a.own.now cheaper own));
}

-- the handed-in cuts are the first ones of what was learned too
first_again : (p : Case) (old new : Search) → IsSearch p old → IsSearch p new → HasLearned old new
    → take (length (handed_in old)) (cuts_among new.known.entries) ≡ handed_in old
first_again p old new was now learned =
    ap (λ n. take n (cuts_among new.known.entries)) (handed_length p old was ∙ sym learned.handed)
    ∙ (front_cuts p new now ∙ handed_same old new learned was.inside)

-- as few entries as a proof of this limit of splits has
abbrev pub IsShort : Search → Search → ℕ → Type 0
IsShort old new limit = length new.known.entries ≤ 3 * length (handed_in old) + 2 * limit + 6145

-- a tree that is grown is a proof of the given plan or a cheaper one
grown_proof : (p : Case) (given plan : Plan) (old new : Search) (tree : Tree) (limit : ℕ) → IsCheaperPlan p given plan → IsCertifiedPlan p given → limit ≤ 9999
    → IsSearch p old → IsSearch p new → HasLearned old new → IsShort old new limit → IsGrownTree p plan (handed_in old) new.known.tested limit tree
    → IsProofOf p given (handed_in old) limit (told_proof plan new.known.entries tree.twigs.items)
grown_proof p given plan old new tree limit cheaper certified few was now learned short is =
    is_proof p plan (handed_in old) new.known.entries new.known.tested is.n now.known.tested tree.twigs.items is.growing given limit
    (cuts_sound p new.known.entries now.known.sound) cheaper (first_again p old new was now learned) (certified_still p given plan cheaper certified)
    is.within few is.ends short

told_map : (to : ℕ → ℕ) (ts : List Twig) → map (moved_node to) (map twig_node ts) ≡ map (told_node to) ts
told_map to [] = refl
told_map to (t ∷ ts) = ap (λ (rest : List Node). told_node to t ∷ rest) (told_map to ts)

-- a value that is made of it
made_told : (plan : Plan) (entries : List Entry) (twigs : List Twig) (made : Proof) → IsProofMade plan entries twigs made → made ≡ told_proof plan entries twigs
made_told plan entries twigs made is =
    let told = told_proof plan entries twigs in
    ap (λ x. record { plan = x; cuts = made.cuts; lines = made.lines; tree = made.tree; verdict = made.verdict }) is.plan_is
    ∙ (ap (λ x. record { plan = plan; cuts = x; lines = made.lines; tree = made.tree; verdict = made.verdict }) is.cuts
    ∙ (ap (λ x. record { plan = plan; cuts = told.cuts; lines = x; tree = made.tree; verdict = made.verdict }) is.lines
    ∙ (ap (λ x. record { plan = plan; cuts = told.cuts; lines = told.lines; tree = x; verdict = made.verdict }) (is.tree ∙ told_map (place_of entries) twigs)
    ∙ ap (λ x. record { plan = plan; cuts = told.cuts; lines = told.lines; tree = told.tree; verdict = x }) is.verdict)))

-- is such a proof too, without further lines where none were made
pub made_proof : (p : Case) (given plan : Plan) (old new : Search) (tree : Tree) (limit : ℕ) (handed : List CutLine) (divides : Bool) → handed_in old ≡ handed
    → new.known.divides ≡ divides → IsCheaperPlan p given plan → IsCertifiedPlan p given → limit ≤ 9999 → IsSearch p old → IsSearch p new → HasLearned old new
    → IsShort old new limit → IsGrownTree p plan (handed_in old) new.known.tested limit tree → (made : Proof) → IsProofMade plan new.known.entries tree.twigs.items made
    → IsProofWith p divides given handed limit made
made_proof p given plan old new tree limit handed divides same divided cheaper certified few was now learned short is made as_is = record {
  proof_is = subst (λ (proof : Proof). IsProofOf p given handed limit proof) (sym (made_told plan new.known.entries tree.twigs.items made as_is))
      (subst (λ (cuts : List CutLine). IsProofOf p given cuts limit (told_proof plan new.known.entries tree.twigs.items)) same
      (grown_proof p given plan old new tree limit cheaper certified few was now learned short is));
  plain = λ none. as_is.lines ∙ ap (map (moved_line (place_of new.known.entries))) (now.known.plain (divided ∙ none));
}

-- there is room for the entries of an attempt
pub attempt_room : (p : Case) (s : Search) (limit : ℕ) → IsSearch p s → length s.known.entries ≤ s.room → limit ≤ 9999 → most_entries s + 2 * limit + 1 < 2 ^ 31
attempt_room p s limit is few le = let small = is.small in first_of (omega (arith, small, few, le), grind (arith, small, few, le))

-- an attempt leaves few entries where a search begins with little room
pub attempt_short : (first old new : Search) (limit : ℕ) → first.room ≤ 3 * length (handed_in first) + 6144 → old.room ≡ first.room → handed_in old ≡ handed_in first
    → length old.known.entries ≤ old.room → length new.known.entries ≤ most_entries old + 2 * limit + 1 → IsShort old new limit
attempt_short first old new limit small room handed few more =
    let same = ap (λ (cuts : List CutLine). length cuts) handed in
    first_of (omega (arith, small, room, same, few, more), grind (arith, small, room, same, few, more))
