-- the steps of a walk over entries that finds their places
use Rattle.std.proofs.Common.{◌≡◌, ℕ, zero, suc, ◌+◌, ◌<◌, ◌≤◌, ⊎_elim, List, [], ◌∷◌, ◌++◌, Option, Some, get_or, length, length-append, slice_get, take, if◌then◌else◌, refl, ap, sym, ◌∙◌, arith}
use Rattle.net_core.proofs.Library.{cases_lt, get_or_from_slice_get, get_or_past, slice_get-get_or, slice_get_past, take_more, option_map_or}
use Rattle.line_maker.{specs.Orders.{cuts_among, cuts_before, is_cut_entry, lines_among, lines_before, place_of}, specs.declared.entry.Entry.Entry}
use Rattle.line_maker.specs.declared.entry.Entry.TheVariants as entry

pub cuts_append : (es fs : List Entry) → cuts_among (es ++ fs) ≡ cuts_among es ++ cuts_among fs
cuts_append [] fs = refl
cuts_append (entry.Cut c ∷ es) fs = ap (λ rest. c ∷ rest) (cuts_append es fs)
cuts_append (entry.Line l ∷ es) fs = cuts_append es fs

pub lines_append : (es fs : List Entry) → lines_among (es ++ fs) ≡ lines_among es ++ lines_among fs
lines_append [] fs = refl
lines_append (entry.Cut c ∷ es) fs = lines_append es fs
lines_append (entry.Line l ∷ es) fs = ap (λ rest. l ∷ rest) (lines_append es fs)

pub parts_length : (es : List Entry) → length (cuts_among es) + length (lines_among es) ≡ length es
parts_length [] = refl
parts_length (entry.Cut c ∷ es) = let rest = parts_length es in omega (arith, rest)
parts_length (entry.Line l ∷ es) = let rest = parts_length es in omega (arith, rest)

-- ---- one entry more

module _ (es : List Entry) (i : ℕ) (e : Entry) (inside : i < length es) (is : e ≡ get_or es i e) where
  front : take (i + 1) es ≡ take i es ++ e ∷ []
  front = take_more es i e inside ∙ ap (λ (x : Entry). take i es ++ x ∷ []) (sym is)

  pub cuts_more : cuts_before es (i + 1) ≡ cuts_before es i + length (cuts_among (e ∷ []))
  cuts_more =
      ap (λ (xs : List Entry). length (cuts_among xs)) front
      ∙ (ap length (cuts_append (take i es) (e ∷ [])) ∙ length-append (cuts_among (take i es)) (cuts_among (e ∷ [])))

  pub lines_more : lines_before es (i + 1) ≡ lines_before es i + length (lines_among (e ∷ []))
  lines_more =
      ap (λ (xs : List Entry). length (lines_among xs)) front
      ∙ (ap length (lines_append (take i es) (e ∷ [])) ∙ length-append (lines_among (take i es)) (lines_among (e ∷ [])))

  -- the place of the entry
  pub place_here : place_of es i ≡ (if is_cut_entry e then cuts_before es i else length (cuts_among es) + lines_before es i)
  place_here =
      let found : slice_get es i ≡ Some e = slice_get-get_or es i e inside ∙ ap (λ (x : Entry). Some x) (sym is) in
      ap (λ (o : Option Entry). option_map_or (λ x. if is_cut_entry x then cuts_before es i else length (cuts_among es) + lines_before es i) o i) found

-- no more cuts and lines than entries
pub before_few : (es : List Entry) (i : ℕ) → cuts_before es i + lines_before es i ≤ length es
before_few [] zero = omega arith
before_few [] (suc i) = omega arith
before_few (e ∷ es) zero = omega arith
before_few (entry.Cut c ∷ es) (suc i) = let rest = before_few es i in omega (arith, rest)
before_few (entry.Line l ∷ es) (suc i) = let rest = before_few es i in omega (arith, rest)

-- ---- all places

-- places of the first entries
abbrev pub ArePlaces : List Entry → ℕ → List ℕ → Type 0
ArePlaces es n places = (length places ≡ n) × ((k : ℕ) → k < n → slice_get places k ≡ Some (place_of es k))

get_front : (xs : List ℕ) (y k : ℕ) → k < length xs → slice_get (xs ++ y ∷ []) k ≡ slice_get xs k
get_front [] y k lt = absurd (omega (arith, lt))
get_front (x ∷ xs) y zero lt = refl
get_front (x ∷ xs) y (suc k) lt = get_front xs y k (omega (arith, lt))

get_last : (xs : List ℕ) (y : ℕ) → slice_get (xs ++ y ∷ []) (length xs) ≡ Some y
get_last [] y = refl
get_last (x ∷ xs) y = get_last xs y

pub places_push : (es : List Entry) (n : ℕ) (places : List ℕ) (place : ℕ) → ArePlaces es n places → place ≡ place_of es n → ArePlaces es (n + 1) (places ++ place ∷ [])
places_push es n places place were is = (
  omega (arith, were.0, length-append places (place ∷ [])),
  λ k lt. ⊎_elim
      (λ (before : k < n). get_front places place k (omega (arith, before, were.0)) ∙ were.1 k before)
      (λ (here : n ≤ k).
      let same : k ≡ length places = omega (arith, lt, here, were.0) in
      let last : n ≡ k = omega (arith, lt, here) in
      ap (λ (j : ℕ). slice_get (places ++ place ∷ []) j) same ∙ (get_last places place ∙ ap (λ (x : ℕ). Some x) (is ∙ ap (λ (j : ℕ). place_of es j) last)))
      (cases_lt k n),
)

-- what is read at a place, also past the end
pub places_read : (es : List Entry) (n : ℕ) (places : List ℕ) → ArePlaces es n places → length es ≤ n → (i : ℕ) → get_or places i i ≡ place_of es i
places_read es n places were all i = ⊎_elim
    (λ (inside : i < n). get_or_from_slice_get places i (place_of es i) i (were.1 i inside))
    (λ (past : n ≤ i).
    get_or_past places i i (omega (arith, past, were.0))
    ∙ sym (ap (λ (o : Option Entry). option_map_or (λ x. if is_cut_entry x then cuts_before es i else length (cuts_among es) + lines_before es i) o i)
    (slice_get_past es i (omega (arith, all, past)))))
    (cases_lt i n)
