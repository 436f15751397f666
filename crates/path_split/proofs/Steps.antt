-- what is left when a path or a circle has been taken off
use Rattle.std.proofs.Common.{◌≡◌, ◌≢◌, ℕ, ◌+◌, ◌<◌, ◌≤◌, inl, inr, Bool, cond, List, [], ◌∷◌, ◌++◌, length, get_or, drop, sum_by, ⊎_elim, refl, sym, ap, subst, ◌∙◌, arith, length-append, All, Any, eq-eqb}
use Rattle.net_core.proofs.Library.{All-push, sum_by_push}
use Rattle.plan_terms.specs.Terms.{names_link, IsPath}
use Rattle.path_split.{specs.declared.arc.PathFlow.PathFlow, specs.declared.leg.Leg.Leg, specs.Splits.path_load, specs.inner.Legs.{IsStar, arrives, due, is_on, leaves, leg_at, picked}, specs.inner.Trails.{AreSteady, Chain, IsWalk, trail_links}, specs.inner.Remains.{HasLeg, Moves, Remains, TakesOff, TakesCircle, TakesPath, live}, proofs.Picking.{due_elsewhere, due_here, due_sum, picked_positive}, proofs.Lessening.{less_length, less_lower, live_falls, live_less, live_positive, one_has, picked_less, weight}, proofs.Trailing.{chain_drop, chain_even, named_weight, walk_path}}

taken_long : (old ks new : List ℕ) (num : ℕ) → TakesOff old ks num new → length new ≡ length old
taken_long old ks new num t = ap length t.taken ∙ less_length old num ks

taken_lower : (old ks new : List ℕ) (num : ℕ) → TakesOff old ks num new → (j : ℕ) → get_or new j 0 ≤ get_or old j 0
taken_lower old ks new num t j =
    subst (λ ns. get_or ns j 0 ≤ get_or old j 0) (sym t.taken) (less_lower old num ks t.enough.each t.enough.different j)

taken_live : (old ks new : List ℕ) (num : ℕ) → TakesOff old ks num new → live new ≤ live old
taken_live old ks new num t = subst (λ ns. live ns ≤ live old) (sym t.taken) (live_less old num ks)

taken_falls : (old ks new : List ℕ) (num : ℕ) → TakesOff old ks num new → Any (λ k. num ≡ get_or old k 0) ks → live new < live old
taken_falls old ks new num t any =
    subst (λ ns. live ns < live old) (sym t.taken)
    (live_falls old num ks t.positive t.enough.different (one_has old num ks any.0 any.1 any.2 (any.4 ∙ ap (λ k. get_or old k 0) (sym any.3))))

taken_picked : (p : Leg → Bool) (legs : List Leg) (old ks new : List ℕ) (num : ℕ) → length old ≡ length legs → TakesOff old ks num new → picked p legs new + weight p legs num ks ≡ picked p legs old
taken_picked p legs old ks new num same t =
    subst (λ ns. picked p legs ns + weight p legs num ks ≡ picked p legs old) (sym t.taken) (picked_less p legs old num ks same t.enough.each t.enough.different)

-- each node that was balanced is so after a path was taken off
balanced_path : (legs : List Leg) (from to : ℕ) (old ks new : List ℕ) (num left rest x : ℕ) → Chain legs from ks to → length old ≡ length legs → TakesOff old ks num new → rest + num ≡ left
    → picked (leaves x) legs old + due to left x ≡ picked (arrives x) legs old + due from left x → picked (leaves x) legs new + due to rest x ≡ picked (arrives x) legs new + due from rest x
balanced_path legs from to old ks new num left rest x chain same t is was =
    let l = taken_picked (leaves x) legs old ks new num same t in
    let a = taken_picked (arrives x) legs old ks new num same t in
    let e = chain_even legs num x from ks to chain in
    let f : due from left x ≡ due from rest x + due from num x = ap (λ n. due from n x) (sym is) ∙ due_sum from rest num x in
    let o : due to left x ≡ due to rest x + due to num x = ap (λ n. due to n x) (sym is) ∙ due_sum to rest num x in
    omega (arith, l, a, e, f, o, was)

-- and after a circle was
balanced_circle : (legs : List Leg) (from to at : ℕ) (old ks new : List ℕ) (num left x : ℕ) → Chain legs at ks at → length old ≡ length legs → TakesOff old ks num new
    → picked (leaves x) legs old + due to left x ≡ picked (arrives x) legs old + due from left x → picked (leaves x) legs new + due to left x ≡ picked (arrives x) legs new + due from left x
balanced_circle legs from to at old ks new num left x chain same t was =
    let l = taken_picked (leaves x) legs old ks new num same t in
    let a = taken_picked (arrives x) legs old ks new num same t in
    let e = chain_even legs num x at ks at chain in
    omega (arith, l, a, e, was)

-- a walk between different nodes has a leg with flow left
walk_live : (legs : List Leg) (lefts : List ℕ) (from to : ℕ) (trail : List ℕ) → from ≢ to → IsWalk legs lefts from to trail to → 0 < live lefts
walk_live legs lefts from to [] differ w = absurd (differ w.chain)
walk_live legs lefts from to (k ∷ ks) differ w = live_positive lefts k w.live.0.1

abbrev total : List PathFlow → ℕ
total flows = sum_by (λ f. f.num) flows

-- what remains, how much is sent and left together, and that something is done
pub record Moved (legs : List Leg) (from to : ℕ) (old new : List ℕ) (left rest : ℕ) (before after : List PathFlow) : Type 0 where
  pub state : Remains legs from to new rest after
  pub met : total after + rest ≡ total before + left
  pub less : rest + live new < left + live old
  pub long : length new ≡ length old
  pub lower : (j : ℕ) → get_or new j 0 ≤ get_or old j 0

path_moved : (legs : List Leg) (from to : ℕ) (trail old new : List ℕ) (left rest : ℕ) (before after : List PathFlow) → from ≢ to → IsWalk legs old from to trail to → Remains legs from to old left before → TakesPath legs trail old new left rest before after → Moved legs from to old new left rest before after
path_moved legs from to trail old new left rest before after differ w was step =
    let num = step.num in
    let f : PathFlow = record { path = trail_links legs trail; num = num } in
    let grown : before ++ f ∷ [] ≡ after = sym step.flows in
    let alive = walk_live legs old from to trail differ w in
    let falls = taken_live old trail new num step.takes in
    let more : length after ≡ length before + 1 = ap length step.flows ∙ length-append before (f ∷ []) in
    let room = was.room (omega (arith, step.rest_is, step.takes.positive)) in
    record {
      state = record {
        long = taken_long old trail new num step.takes ∙ was.long;
        balanced = λ x. balanced_path legs from to old trail new num left rest x w.chain was.long step.takes step.rest_is (was.balanced x);
        paths = subst (All (λ g. IsPath (HasLeg legs) from to g.path)) grown (All-push (λ g. IsPath (HasLeg legs) from to g.path) before f was.paths (walk_path legs old from to trail w));
        positive = subst (All (λ g. 0 < g.num)) grown (All-push (λ g. 0 < g.num) before f was.positive step.takes.positive);
        within = λ e.
            let load : path_load after e ≡ path_load before e + cond (names_link e (trail_links legs trail)) num 0 = ap (λ fs. path_load fs e) step.flows ∙ sum_by_push (λ g. cond (names_link e g.path) g.num 0) before f in
            omega (arith, load, was.within e, taken_picked (is_on e) legs old trail new num was.long step.takes, named_weight legs num e trail);
        few = omega (arith, more, room, alive);
        room = λ some. ⊎_elim
            (λ all. absurd (omega (arith, all, some, step.rest_is)))
            (λ one. omega (arith, more, room, taken_falls old trail new num step.takes one))
            step.ends;
      };
      met = omega (arith, ap total step.flows, sum_by_push (λ g. g.num) before f, step.rest_is);
      less = omega (arith, step.rest_is, step.takes.positive, falls);
      long = taken_long old trail new num step.takes;
      lower = taken_lower old trail new num step.takes;
    }

circle_moved : (legs : List Leg) (from to at : ℕ) (trail old new : List ℕ) (left : ℕ) (flows : List PathFlow) → IsWalk legs old from to trail at → Remains legs from to old left flows → TakesCircle legs trail at old new → Moved legs from to old new left left flows flows
circle_moved legs from to at trail old new left flows w was step =
    let num = step.num in
    let ks = drop step.start trail in
    let falls = taken_falls old ks new num step.takes step.ends in
    let chain : Chain legs at ks at = subst (λ x. Chain legs x ks at) step.from (chain_drop legs from trail at step.start 0 w.chain step.within) in
    record {
      state = record {
        long = taken_long old ks new num step.takes ∙ was.long;
        balanced = λ x. balanced_circle legs from to at old ks new num left x chain was.long step.takes (was.balanced x);
        paths = was.paths;
        positive = was.positive;
        within = λ e. omega (arith, was.within e, taken_picked (is_on e) legs old ks new num was.long step.takes);
        few = was.few;
        room = λ some. omega (arith, was.room some, falls);
      };
      met = refl;
      less = omega (arith, falls);
      long = taken_long old ks new num step.takes;
      lower = taken_lower old ks new num step.takes;
    }

pub moves_moved : (legs : List Leg) (from to at : ℕ) (trail old new : List ℕ) (left rest : ℕ) (before after : List PathFlow) → from ≢ to → IsWalk legs old from to trail at → Remains legs from to old left before → Moves legs trail at to old new left rest before after → Moved legs from to old new left rest before after
moves_moved legs from to at trail old new left rest before after differ w was (inl path) =
    path_moved legs from to trail old new left rest before after differ (subst (IsWalk legs old from to trail) path.0 w) was path.1
moves_moved legs from to at trail old new left rest before after differ w was (inr circle) =
    let same : Moved legs from to old new left left before before = circle_moved legs from to at trail old new left before w was circle.0 in
    subst (λ r. Moved legs from to old new left r before after) (sym circle.1) (subst (Moved legs from to old new left left before) (sym circle.2) same)

-- places stay good where less is left
pub star_lower : (legs : List Leg) (old new places : List ℕ) → ((j : ℕ) → get_or new j 0 ≤ get_or old j 0) → IsStar legs old places → IsStar legs new places
star_lower legs old new places lower star = record {
  sorted = star.sorted;
  after = star.after;
  live = λ k lt left. star.live k lt (omega (arith, left, lower k));
}

-- what remains goes on at each node
pub are_steady : (legs : List Leg) (lefts : List ℕ) (n from to left : ℕ) (flows : List PathFlow) → from ≢ to → 0 < left → All (λ g. g.to.0 < n) legs → Remains legs from to lefts left flows → AreSteady legs lefts n from to
are_steady legs lefts n from to left flows differ some heads was = record {
  long = was.long;
  heads = λ k lt. heads k _ lt;
  first = omega (arith, was.balanced from, due_here from left, due_elsewhere to left from (λ e. differ (sym e)), some);
  on = λ k lt has other.
      let x = (leg_at legs k).to.0 in
      omega (arith, was.balanced x, due_elsewhere to left x (λ e. other (sym e)), picked_positive (arrives x) legs lefts k lt (eq-eqb x x refl) has);
}
