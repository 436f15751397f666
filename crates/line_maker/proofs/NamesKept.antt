-- what an entry's index names, its place in the order names
use Rattle.std.proofs.Common.{◌≡◌, ℕ, zero, suc, ◌+◌, ◌-◌, ◌<◌, ◌≤◌, ◌^◌, inl, inr, Bool, true, false, List, [], ◌∷◌, ◌++◌, Option, None, Some, length, map, slice_get, if◌then◌else◌, refl, ap, subst, sym, ◌∙◌, arith}
use Rattle.net_core.proofs.Library.{All-map, length-map, slice_get_within, option_map_or}
use Rattle.plan_terms.specs.Terms.{Case, CutLine}
use Rattle.line_check.specs.Terms.{AreNamedBy, WeightedLine, IsMadeFrom, Naming, Source, names_among, sources_of, Multiplier}
use Rattle.tree_check.specs.Terms.{Inequality, Line, Divided, Table, Plain, Failing}
use Rattle.line_maker.{specs.Orders.{NamesAreKept, cuts_among, cuts_before, is_cut_entry, lines_among, lines_before, moved_line, moved_multipliers, place_of, source_of}, specs.declared.entry.Entry.Entry}
use Rattle.line_maker.specs.declared.entry.Entry.TheVariants as entry

-- ---- places

cut_at : (es : List Entry) (n : ℕ) (c : CutLine) → slice_get es n ≡ Some (entry.Cut c) → slice_get (cuts_among es) (cuts_before es n) ≡ Some c
cut_at [] n c at = absurd (cc at)
cut_at (entry.Cut x ∷ es) zero c at = cc at
cut_at (entry.Line x ∷ es) zero c at = absurd (cc at)
cut_at (entry.Cut x ∷ es) (suc n) c at = cut_at es n c at
cut_at (entry.Line x ∷ es) (suc n) c at = cut_at es n c at

line_at : (es : List Entry) (n : ℕ) (l : Line) → slice_get es n ≡ Some (entry.Line l) → slice_get (lines_among es) (lines_before es n) ≡ Some l
line_at [] n l at = absurd (cc at)
line_at (entry.Cut x ∷ es) zero l at = absurd (cc at)
line_at (entry.Line x ∷ es) zero l at = cc at
line_at (entry.Cut x ∷ es) (suc n) l at = line_at es n l at
line_at (entry.Line x ∷ es) (suc n) l at = line_at es n l at

lines_less : (es : List Entry) (i n : ℕ) (l : Line) → slice_get es i ≡ Some (entry.Line l) → i < n → lines_before es i < lines_before es n
lines_less [] i n l at lt = absurd (cc at)
lines_less (e ∷ es) i zero l at lt = absurd (omega (arith, lt))
lines_less (entry.Cut x ∷ es) zero (suc n) l at lt = absurd (cc at)
lines_less (entry.Line x ∷ es) zero (suc n) l at lt = omega arith
lines_less (entry.Cut x ∷ es) (suc i) (suc n) l at lt = lines_less es i n l at (omega (arith, lt))
lines_less (entry.Line x ∷ es) (suc i) (suc n) l at lt = let less = lines_less es i n l at (omega (arith, lt)) in omega (arith, less)

place_of_cut : (es : List Entry) (i : ℕ) (c : CutLine) → slice_get es i ≡ Some (entry.Cut c) → place_of es i ≡ cuts_before es i
place_of_cut es i c at = ap (λ o. option_map_or (λ e. if is_cut_entry e then cuts_before es i else length (cuts_among es) + lines_before es i) o i) at

place_of_line : (es : List Entry) (i : ℕ) (l : Line) → slice_get es i ≡ Some (entry.Line l) → place_of es i ≡ length (cuts_among es) + lines_before es i
place_of_line es i l at = ap (λ o. option_map_or (λ e. if is_cut_entry e then cuts_before es i else length (cuts_among es) + lines_before es i) o i) at

-- what is named before a line comes before it
place_less : (es : List Entry) (i n : ℕ) (l : Line) (o : Option Entry) → slice_get es i ≡ o → slice_get es n ≡ Some (entry.Line l) → i < n → n < length es → place_of es i < place_of es n
place_less es i n l None here at lt within = absurd (none_within es i here (omega (arith, lt, within)))
  where
    none_within : (xs : List Entry) (k : ℕ) → slice_get xs k ≡ None → k < length xs → ⊥
    none_within [] k none inside = omega (arith, inside)
    none_within (x ∷ xs) zero none inside = absurd (cc none)
    none_within (x ∷ xs) (suc k) none inside = none_within xs k none (omega (arith, inside))
place_less es i n l (Some (entry.Cut c)) here at lt within =
    let low = slice_get_within (cuts_among es) (cuts_before es i) c (cut_at es i c here) in
    omega (arith, low, place_of_cut es i c here, place_of_line es n l at)
place_less es i n l (Some (entry.Line x)) here at lt within =
    omega (arith, lines_less es i n x here lt, place_of_line es i x here, place_of_line es n l at)

left_at : (cs : List CutLine) (others : List Source) (j : ℕ) (c : CutLine) → slice_get cs j ≡ Some c → slice_get (map inl cs ++ others) j ≡ Some (inl c)
left_at [] others j c at = absurd (cc at)
left_at (x ∷ cs) others zero c at = let same : x ≡ c = cc at in ap (λ y. Some (inl y)) same
left_at (x ∷ cs) others (suc j) c at = left_at cs others j c at

right_at : (cs : List CutLine) (others : List Source) (k : ℕ) → slice_get (map inl cs ++ others) (length cs + k) ≡ slice_get others k
right_at [] others k = let same : 0 + k ≡ k = omega arith in ap (λ j. slice_get others j) same
right_at (x ∷ cs) others k =
    let same : suc (length cs) + k ≡ suc (length cs + k) = omega arith in
    ap (λ j. slice_get (inl x ∷ (map inl cs ++ others)) j) same ∙ right_at cs others k

moved_at : (to : ℕ → ℕ) (ls : List Line) (k : ℕ) (l : Line) → slice_get ls k ≡ Some l → slice_get {X = Source} (map inr (map (moved_line to) ls)) k ≡ Some (inr (moved_line to l))
moved_at to [] k l at = absurd (cc at)
moved_at to (x ∷ ls) zero l at = let same : x ≡ l = cc at in ap (λ y. Some (inr (moved_line to y))) same
moved_at to (x ∷ ls) (suc k) l at = moved_at to ls k l at

pub source_at : (es : List Entry) (n : ℕ) (e : Entry) → slice_get es n ≡ Some e → slice_get (map source_of es) n ≡ Some (source_of e)
source_at [] n e at = absurd (cc at)
source_at (x ∷ es) zero e at = let same : x ≡ e = cc at in ap (λ y. Some (source_of y)) same
source_at (x ∷ es) (suc n) e at = source_at es n e at

-- ---- names

module _ (p : Case) where
  names_more : (sources : List Source) (a k : ℕ) (robust : Bool) (i : ℕ) (l : Inequality) → names_among p sources a robust i l → names_among p sources (k + a) robust i l
  names_more sources a zero robust i l names =
      let same : a ≡ 0 + a = omega arith in
      subst (λ n. names_among p sources n robust i l) same names
  names_more sources a (suc k) robust i l names =
      let same : suc (k + a) ≡ suc k + a = omega arith in
      let more : names_among p sources (suc (k + a)) robust i l = inl (names_more sources a k robust i l names) in
      subst (λ n. names_among p sources n robust i l) same more

  -- what the first sources name, more of them name
  names_up : (sources : List Source) (a b : ℕ) → a ≤ b → (robust : Bool) (i : ℕ) (l : Inequality) → names_among p sources a robust i l → names_among p sources b robust i l
  names_up sources a b le robust i l names =
      let same : (b - a) + a ≡ b = omega (arith, le) in
      subst (λ n. names_among p sources n robust i l) same (names_more sources a (b - a) robust i l names)

  pub names_below : (sources : List Source) (n : ℕ) (robust : Bool) (i : ℕ) (l : Inequality) → names_among p sources n robust i l → i < n
  names_below sources zero robust i l names = absurd names
  names_below sources (suc n) robust i l (inl before) = let lt = names_below sources n robust i l before in omega (arith, lt)
  names_below sources (suc n) robust i l (inr here) = omega (arith, here.0)

  -- a name is that of a source that is there
  names_within : (sources : List Source) (n : ℕ) (robust : Bool) (i : ℕ) (l : Inequality) → names_among p sources n robust i l → i < length sources
  names_within sources zero robust i l names = absurd names
  names_within sources (suc n) robust i l (inl before) = names_within sources n robust i l before
  names_within sources (suc n) robust i l (inr here) = let lt = slice_get_within sources n here.1.source here.1.at in omega (arith, here.0, lt)

  module _ (names others : Naming) (to : ℕ → ℕ) (moves : (robust : Bool) (i : ℕ) (l : Inequality) → names robust i l → others robust (to i) l) where
    named_moved : (robust : Bool) (ms : List Multiplier) (terms : List WeightedLine) → AreNamedBy (names robust) ms terms → AreNamedBy (others robust) (moved_multipliers to ms) terms
    named_moved robust [] [] named = tt
    named_moved robust [] (t ∷ ts) named = absurd named
    named_moved robust (m ∷ ms) [] named = absurd named
    named_moved robust (m ∷ ms) (t ∷ ts) named = ((moves robust m.cut t.line named.0.0, named.0.1), named_moved robust ms ts named.1)

    -- what a line makes of names, it makes of the moved ones
    made_moved : (robust : Bool) (line : Line) (made : Inequality) → IsMadeFrom p names robust (inr line) made → IsMadeFrom p others robust (inr (moved_line to line)) made
    made_moved robust (Divided divisor terms) made is =
        let same = length-map {B = Multiplier} terms (λ (m : Multiplier). record { cut = to m.cut; num = m.num }) in
        record {
          terms = is.terms;
          named = named_moved robust terms is.terms is.named;
          some = omega (arith, is.some, same);
          few = omega (arith, is.few, same);
          nums = All-map (λ (m : Multiplier). (1 ≤ m.num) × (m.num < 2 ^ 62)) (λ (m : Multiplier). record { cut = to m.cut; num = m.num }) terms is.nums;
          positive = is.positive;
          divisor_limit = is.divisor_limit;
          need_limit = is.need_limit;
          price_limit = is.price_limit;
          is = is.is;
        }
    made_moved robust (Table index Plain weights) made is = (is.0, moves robust index is.0 is.1, is.2)
    made_moved robust (Table index Failing weights) made is = (is.0, (is.1.0, moves true index is.1.0 is.1.1, is.1.2))

  module _ (es : List Entry) where
    abbrev entries : List Source
    entries = map source_of es

    abbrev proved : List Source
    proved = sources_of (cuts_among es) (map (moved_line (place_of es)) (lines_among es))

    kept_cut : (n : ℕ) (robust : Bool) (l : Inequality) (c : CutLine) → slice_get es n ≡ Some (entry.Cut c) → IsMadeFrom p (names_among p entries n) robust (inl c) l
        → names_among p proved (suc (place_of es n)) robust (place_of es n) l
    kept_cut n robust l c at is =
        let place = place_of_cut es n c at in
        inr (
          refl,
          record {
            source = inl c;
            at = ap (λ j. slice_get proved j) place ∙ left_at (cuts_among es) (map inr (map (moved_line (place_of es)) (lines_among es))) (cuts_before es n) c (cut_at es n c at);
            is = is;
          },
        )

    kept_line : (n : ℕ) → n < length es → (robust : Bool) (l : Inequality) (x : Line) → slice_get es n ≡ Some (entry.Line x)
        → ((r : Bool) (i : ℕ) (made : Inequality) → names_among p entries n r i made → names_among p proved (suc (place_of es i)) r (place_of es i) made)
        → IsMadeFrom p (names_among p entries n) robust (inr x) l
        → names_among p proved (suc (place_of es n)) robust (place_of es n) l
    kept_line n within robust l x at earlier is =
        let place = place_of_line es n x at in
        let to = place_of es in
        inr (
          refl,
          record {
            source = inr (moved_line to x);
            at = ap (λ j. slice_get proved j) place ∙ (right_at (cuts_among es) (map inr (map (moved_line to) (lines_among es))) (lines_before es n) ∙ moved_at to (lines_among es) (lines_before es n) x (line_at es n x at));
            is = made_moved (names_among p entries n) (names_among p proved (to n)) to
                (λ r i made names.
                let less = place_less es i n x (slice_get es i) refl at (names_below entries n r i made names) within in
                names_up proved (suc (to i)) (to n) (omega (arith, less)) r (to i) made (earlier r i made names))
                robust x l is;
          },
        )

    none_there : (xs : List Entry) (k : ℕ) → slice_get xs k ≡ None → (s : Source) → slice_get (map source_of xs) k ≡ Some s → ⊥
    none_there [] k none s at = absurd (cc at)
    none_there (y ∷ ys) zero none s at = absurd (cc none)
    none_there (y ∷ ys) (suc k) none s at = none_there ys k none s at

    kept_at : (n : ℕ) → n < length es
        → ((r : Bool) (i : ℕ) (made : Inequality) → names_among p entries n r i made → names_among p proved (suc (place_of es i)) r (place_of es i) made)
        → (robust : Bool) (l : Inequality) (source : Source) → slice_get entries n ≡ Some source → IsMadeFrom p (names_among p entries n) robust source l
        → (o : Option Entry) → slice_get es n ≡ o → names_among p proved (suc (place_of es n)) robust (place_of es n) l
    kept_at n within earlier robust l source there is None none = absurd (none_there es n none source there)
    kept_at n within earlier robust l source there is (Some (entry.Cut c)) at =
        let own : source ≡ inl c = let b = source_at es n (entry.Cut c) at in cc (there, b) in
        kept_cut n robust l c at (subst (λ (s : Source). IsMadeFrom p (names_among p entries n) robust s l) own is)
    kept_at n within earlier robust l source there is (Some (entry.Line x)) at =
        let own : source ≡ inr x = let b = source_at es n (entry.Line x) at in cc (there, b) in
        kept_line n within robust l x at earlier (subst (λ (s : Source). IsMadeFrom p (names_among p entries n) robust s l) own is)

    kept : (n : ℕ) → n ≤ length es → (robust : Bool) (i : ℕ) (l : Inequality) → names_among p entries n robust i l → names_among p proved (suc (place_of es i)) robust (place_of es i) l
    kept zero few robust i l names = absurd names
    kept (suc n) few robust i l (inl before) = kept n (omega (arith, few)) robust i l before
    kept (suc n) few robust i l (inr here) =
        subst (λ (k : ℕ). names_among p proved (suc (place_of es k)) robust (place_of es k) l) (sym here.0)
        (kept_at n (omega (arith, few)) (λ r k made names. kept n (omega (arith, few)) r k made names) robust l here.1.source here.1.at here.1.is (slice_get es n) refl)

pub names_are_kept : NamesAreKept
names_are_kept p es i l names =
    let count = length-map es source_of in
    let own = kept p es (length (map source_of es)) (omega (arith, count)) false i l names in
    let within = names_within p (sources_of (cuts_among es) (map (moved_line (place_of es)) (lines_among es))) (suc (place_of es i)) false (place_of es i) l own in
    names_up p (sources_of (cuts_among es) (map (moved_line (place_of es)) (lines_among es))) (suc (place_of es i)) _ (omega (arith, within)) false (place_of es i) l own
