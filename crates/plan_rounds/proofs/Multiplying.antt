-- flows that are multiplied one after another
use Rattle.std.{proofs.Common.{◌≡◌, ℕ, ◌≤◌, ◌++◌, List, [], ◌∷◌, length, get_or, map, reverse, take, refl, ap, ◌∙◌, arith}, proofs.lemmas.List.reverse-append}
use Rattle.plan_terms.specs.Terms.{Flow}
use Rattle.route_law.specs.Terms.{flow_times}

-- the first n flows are multiplied, and the others are as they were
pub record AreMultiplied (factor n : ℕ) (old new : List Flow) : Type 0 where
  pub count : length new ≡ length old
  pub done : take n new ≡ map (flow_times factor) (take n old)
  pub rest : (k : ℕ) (d : Flow) → n ≤ k → get_or new k d ≡ get_or old k d

-- the last item is the first of the reverse
pub last_first : {X : Type 0} (xs rest : List X) (x : X) → xs ≡ rest ++ x ∷ [] → reverse xs ≡ x ∷ reverse rest
last_first xs rest x is = ap reverse is ∙ reverse-append rest (x ∷ [])

-- a list without items
pub none_left : {X : Type 0} (xs : List X) → length xs ≡ 0 → xs ≡ []
none_left [] none = refl
none_left (x ∷ xs) none = absurd (omega (arith, none))
