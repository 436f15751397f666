-- boards whose pool grows, and the spots of its cuts
use Rattle.std.proofs.Common.{◌≡◌, ◌∙◌, ℕ, ◌<◌, ⊎_elim, List, [], ◌∷◌, ◌++◌, Some, length, slice_get, refl, sym, ap, subst, arith, append-nil, append_assoc}
use Rattle.net_core.proofs.Library.{flat_map-append, All-append, All-nil, All-push, front_rest, get_front}
use Rattle.plan_terms.specs.Terms.{Entry, Pooled}
use Rattle.metric_cut.specs.declared.cut.Cut.{Cut}
use Rattle.plan_types.{specs.declared.certificate.Spot.Spot, specs.declared.certificate.Spot.TheVariants.{Pool, Local}}
use Rattle.cut_pool.{specs.declared.board.Board.Board, specs.Terms.{GrowsBy, IsSameBoard, cuts_of, pooled_by}}
use Rattle.separator.{specs.Separators.{IsCutEntry, IsFullHistory, IsSpotIn, cuts_after}, specs.inner.Working.{PoolsMore, state_and_lengths}}

-- ---- lists

-- and of the item after it
pub get_after : {X : Type 0} (xs : List X) (x : X) (ys : List X) → slice_get (xs ++ x ∷ ys) (length xs) ≡ Some x
get_after [] x ys = refl
get_after (y ∷ xs) x ys = get_after xs x ys

-- the cuts of two histories, one after the other
pub cuts_both : (xs ys : List Entry) → cuts_of (xs ++ ys) ≡ cuts_of xs ++ cuts_of ys
cuts_both xs ys = flat_map-append pooled_by xs ys

-- ---- boards

pub pools_none : (b : Board) → PoolsMore b b []
pools_none b = record { origin = refl; more = []; entries = sym (append-nil b.entries); pooled = All-nil IsCutEntry; are = refl; full = λ full. refl }

pub pools_same : (old new : Board) → IsSameBoard old new → PoolsMore old new []
pools_same old new same = record {
  origin = same.origin;
  more = [];
  entries = same.entries ∙ sym (append-nil old.entries);
  pooled = All-nil IsCutEntry;
  are = refl;
  full = λ full. refl;
}

-- a history with room is not full
has_room : (es : List Entry) → length (cuts_of es) < 4096 → length es < 65536 → IsFullHistory es → ⊥
has_room es cuts entries full = ⊎_elim (λ all. omega (arith, all, cuts)) (λ all. omega (arith, all, entries)) full

pub pools_one : (old new : Board) (index : ℕ) (cut : Cut) → length (cuts_of old.entries) < 4096 → length old.entries < 65536 → GrowsBy (Pooled index cut.state cut.lengths) old new
    → PoolsMore old new (state_and_lengths cut ∷ [])
pools_one old new index cut cuts entries grown = record {
  origin = grown.origin;
  more = Pooled index cut.state cut.lengths ∷ [];
  entries = grown.entries;
  pooled = All-push IsCutEntry [] (Pooled index cut.state cut.lengths) (All-nil IsCutEntry) tt;
  are = refl;
  full = λ full. absurd (has_room old.entries cuts entries full);
}

pub pools_both : (a b c : Board) (xs ys : List (ℕ × List ℕ)) → PoolsMore a b xs → PoolsMore b c ys → PoolsMore a c (xs ++ ys)
pools_both a b c xs ys one two = record {
  origin = two.origin ∙ one.origin;
  more = one.more ++ two.more;
  entries = two.entries ∙ (ap (λ es. es ++ two.more) one.entries ∙ append_assoc a.entries one.more two.more);
  pooled = All-append IsCutEntry one.more two.more one.pooled two.pooled;
  are = cuts_both one.more two.more ∙ (ap (λ cs. cs ++ cuts_of two.more) one.are ∙ ap (λ cs. xs ++ cs) two.are);
  full = λ full.
      let first = one.full full in
      let same : b.entries ≡ a.entries = one.entries ∙ (ap (λ es. a.entries ++ es) first ∙ append-nil a.entries) in
      let second = two.full (subst IsFullHistory (sym same) full) in
      ap (λ es. es ++ two.more) first ∙ second;
}

-- the cuts of the entries after the old ones
pub pools_since : (old new : Board) (cuts : List (ℕ × List ℕ)) → PoolsMore old new cuts → cuts_after old.entries new.entries ≡ cuts
pools_since old new cuts p = ap cuts_of (front_rest new.entries old.entries p.more p.entries) ∙ p.are

-- ---- spots of cuts

-- a cut that is pooled is at its index
pub pooled_spot : (old new : Board) (index : ℕ) (cut : Cut) → GrowsBy (Pooled index cut.state cut.lengths) old new → index ≡ length (cuts_of old.entries)
    → IsSpotIn new.entries (state_and_lengths cut) (Pool index)
pooled_spot old new index cut grown is =
    let cuts : cuts_of new.entries ≡ cuts_of old.entries ++ state_and_lengths cut ∷ [] = ap cuts_of grown.entries ∙ cuts_both old.entries (Pooled index cut.state cut.lengths ∷ []) in
    subst (λ i. slice_get (cuts_of new.entries) i ≡ Some (state_and_lengths cut)) (sym is)
    (subst (λ all. slice_get all (length (cuts_of old.entries)) ≡ Some (state_and_lengths cut)) (sym cuts) (get_after (cuts_of old.entries) (state_and_lengths cut) []))

-- a cut keeps its spot later
pub spot_later : (old new : Board) (cuts : List (ℕ × List ℕ)) (cut : ℕ × List ℕ) (spot : Spot) → PoolsMore old new cuts → IsSpotIn old.entries cut spot → IsSpotIn new.entries cut spot
spot_later old new cuts cut (Pool i) p at =
    subst (λ es. slice_get (cuts_of es) i ≡ Some cut) (sym p.entries)
    (subst (λ all. slice_get all i ≡ Some cut) (sym (cuts_both old.entries p.more)) (get_front (cuts_of old.entries) (cuts_of p.more) i cut at))
spot_later old new cuts cut Local p at =
    let same : new.entries ≡ old.entries = p.entries ∙ (ap (λ es. old.entries ++ es) (p.full at.0) ∙ append-nil old.entries) in
    subst (λ es. IsSpotIn es cut Local) (sym same) at
