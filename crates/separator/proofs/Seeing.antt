-- histories that a separator has seen, as they grow, and the spots of cuts in them
use Rattle.std.proofs.Common.{◌≡◌, ◌≢◌, ℕ, zero, suc, ◌<◌, ◌≤◌, ◌⊎◌, inl, inr, ⊎_elim, List, [], ◌∷◌, ◌++◌, All, Some, None, length, slice_get, refl, sym, ap, subst, ◌∙◌, arith, append_assoc, append-nil, length-append}
use Rattle.net_core.proofs.Library.{nil_from_length, All-append, All-nil, get_front}
use Rattle.plan_terms.specs.Terms.{Entry}
use Rattle.plan_types.{specs.declared.certificate.Spot.Spot, specs.declared.certificate.Spot.TheVariants.{Pool, Local}}
use Rattle.cut_pool.specs.Terms.{cuts_of}
use Rattle.turn_lock.specs.Passes.{Seen}
use Rattle.separator.{specs.Separators.{IsCutEntry, IsPartOf, IsSpotIn, SeesMore}, proofs.Pooling.cuts_both}

-- an item of a list with one more is one of the list, or the last
pub get_more : {X : Type 0} (xs : List X) (x : X) (i : ℕ) (c : X) → slice_get (xs ++ x ∷ []) i ≡ Some c → ((i < length xs) × (slice_get xs i ≡ Some c)) ⊎ ((i ≡ length xs) × (x ≡ c))
get_more [] x zero c at = inr (refl, let e : Some x ≡ Some c = at in cc e)
get_more [] x (suc i) c at = absurd (let e : None ≡ Some c = at in cc e)
get_more (y ∷ xs) x zero c at = inl (omega arith, at)
get_more (y ∷ xs) x (suc i) c at = ⊎_elim
    (λ p. inl (omega (arith, p.0), p.1))
    (λ p. inr (omega (arith, p.0), p.1))
    (get_more xs x i c at)

-- ---- some more entries

-- a part is no longer than the whole
pub part_few : {X : Type 0} (xs ys : List X) → IsPartOf xs ys → length xs ≤ length ys
part_few [] ys part = omega arith
part_few (x ∷ xs) [] part = absurd part
part_few (x ∷ xs) (y ∷ ys) part = ⊎_elim
    (λ l. omega (arith, part_few xs ys l.1))
    (λ r. let le = part_few (x ∷ xs) ys r in omega (arith, le))
    part

part_both : {X : Type 0} (xs ys us vs : List X) → IsPartOf xs ys → IsPartOf us vs → IsPartOf (xs ++ us) (ys ++ vs)
part_both [] [] us vs first second = second
part_both [] (y ∷ ys) [] vs first second = tt
part_both [] (y ∷ ys) (u ∷ us) vs first second = inr (part_both [] ys (u ∷ us) vs tt second)
part_both (x ∷ xs) [] us vs first second = absurd first
part_both (x ∷ xs) (y ∷ ys) us vs first second = ⊎_elim
    (λ l. inl (l.0, part_both xs ys us vs l.1 second))
    (λ r. inr (part_both (x ∷ xs) ys us vs r second))
    first

pub sees_none : (seen : Seen Entry) → SeesMore seen seen
sees_none s = record { further = []; seen = sym (append-nil s.history); committed = []; own_is = sym (append-nil s.own); among = tt; pooled = All-nil IsCutEntry }

pub sees_both : (s0 s1 s2 : Seen Entry) → SeesMore s0 s1 → SeesMore s1 s2 → SeesMore s0 s2
sees_both s0 s1 s2 a b = record {
  further = a.further ++ b.further;
  seen = b.seen ∙ (ap (λ es. es ++ b.further) a.seen ∙ append_assoc s0.history a.further b.further);
  committed = a.committed ++ b.committed;
  own_is = b.own_is ∙ (ap (λ es. es ++ b.committed) a.own_is ∙ append_assoc s0.own a.committed b.committed);
  among = part_both a.committed a.further b.committed b.further a.among b.among;
  pooled = All-append IsCutEntry a.committed b.committed a.pooled b.pooled;
}

-- ---- spots are kept

-- a cut keeps its spot in a longer history that keeps its limits
pub spot_later : (h f : List Entry) (cut : ℕ × List ℕ) (spot : Spot) → length (h ++ f) ≤ 65536 → length (cuts_of (h ++ f)) ≤ 4096 → IsSpotIn h cut spot → IsSpotIn (h ++ f) cut spot
spot_later h f cut (Pool i) few few_cuts at = subst (λ cuts. slice_get cuts i ≡ Some cut) (sym (cuts_both h f)) (get_front (cuts_of h) (cuts_of f) i cut at)
spot_later h f cut Local few few_cuts at = ⊎_elim
    (λ (full : length (cuts_of h) ≡ 4096).
    let long = ap length (cuts_both h f) in
    let no_more : cuts_of f ≡ [] = nil_from_length (cuts_of f) (omega (arith, full, few_cuts, long, length-append (cuts_of h) (cuts_of f))) in
    let same : cuts_of (h ++ f) ≡ cuts_of h = cuts_both h f ∙ (ap (λ cs. cuts_of h ++ cs) no_more ∙ append-nil (cuts_of h)) in
    (inl (ap length same ∙ full), subst (λ cs. All (λ c. c ≢ cut) cs) (sym same) at.1))
    (λ (full : length h ≡ 65536).
    let no_more : f ≡ [] = nil_from_length f (omega (arith, full, few, length-append h f)) in
    let same : h ++ f ≡ h = ap (λ es. h ++ es) no_more ∙ append-nil h in
    subst (λ es. IsSpotIn es cut Local) (sym same) at)
    at.0
