-- a walk without its circles is a path, and no longer
use Rattle.std.proofs.Common.{◌≡◌, ◌≢◌, ℕ, ◌≤◌, List, [], ◌∷◌, ◌⊎◌, inl, inr, ⊎_elim, sym, subst, arith}
use Rattle.net_core.{proofs.Library.{cases_eq, AllByRecursion}, specs.declared.ids.LinkId.LinkId}
use Rattle.plan_terms.{proofs.Distinct.Has, specs.Paths.{Leads, last_node, length_of, AreDifferent, IsPath}}

-- a path from a to b, not longer than d
pub record Way (joins : ℕ → ℕ → ℕ → Type 0) (lengths : List ℕ) (a b d : ℕ) : Type 0 where
  pub along : List LinkId
  pub path : IsPath joins a b along
  pub short : length_of lengths along ≤ d

pub has_or_new : (a : ℕ) (xs : List ℕ) → Has a xs ⊎ AllByRecursion (λ y. a ≢ y) xs
has_or_new a [] = inr tt
has_or_new a (x ∷ xs) =
    ⊎_elim (λ e. inl (inl e)) (λ ne. ⊎_elim (λ h. inl (inr h)) (λ f. inr (ne, f)) (has_or_new a xs)) (cases_eq a x)

-- the part of a path from one of its nodes on
pub tail_from : (joins : ℕ → ℕ → ℕ → Type 0) (lengths : List ℕ) (a b c : ℕ) (es : List LinkId) (cs : List ℕ) → Leads joins c es cs → last_node c cs ≡ b → AreDifferent (c ∷ cs) → Has a (c ∷ cs) → Way joins lengths a b (length_of lengths es)
tail_from joins lengths a b c es cs leads ends different (inl e) =
    subst (λ x. Way joins lengths x b (length_of lengths es)) (sym e) (record { along = es; path = (cs, leads, ends, different); short = omega arith })
tail_from joins lengths a b c (e ∷ es) (k ∷ cs) leads ends different (inr h) =
    let w = tail_from joins lengths a b k es cs leads.1 ends different.1 h in
    record { along = w.along; path = w.path; short = omega (arith, w.short) }
tail_from joins lengths a b c [] [] leads ends different (inr h) = absurd h
tail_from joins lengths a b c [] (k ∷ cs) leads ends different (inr h) = absurd leads
tail_from joins lengths a b c (e ∷ es) [] leads ends different (inr h) = absurd leads

pub shortcut : (joins : ℕ → ℕ → ℕ → Type 0) (lengths : List ℕ) (a b : ℕ) (es : List LinkId) (cs : List ℕ) → Leads joins a es cs → last_node a cs ≡ b → Way joins lengths a b (length_of lengths es)
shortcut joins lengths a b [] [] leads ends = record { along = []; path = ([], tt, ends, (tt, tt)); short = omega arith }
shortcut joins lengths a b (e ∷ es) (c ∷ cs) leads ends =
    let w = shortcut joins lengths c b es cs leads.1 ends in
    ⊎_elim
    (λ h. let v = tail_from joins lengths a b c w.along w.path.0 w.path.1 w.path.2 w.path.3 h in
    record { along = v.along; path = v.path; short = omega (arith, v.short, w.short) })
    (λ f. record {
      along = e ∷ w.along;
      path = (c ∷ w.path.0, (leads.0, w.path.1), w.path.2, (f, w.path.3));
      short = omega (arith, w.short);
    })
    (has_or_new a (c ∷ w.path.0))
shortcut joins lengths a b [] (c ∷ cs) leads ends = absurd leads
shortcut joins lengths a b (e ∷ es) [] leads ends = absurd leads
