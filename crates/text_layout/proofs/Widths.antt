-- widths of cells, row after row
use Rattle.std.proofs.Common.{◌≡◌, ℕ, ◌+◌, ◌≤◌, ◌<◌, List, [], get_or, length, max, subst, sym, take, arith, ◌∙◌, get_or-take, length-take}
use Rattle.net_core.proofs.Library.{All-more, All-nil, All-weaker}
use Rattle.text_layout.{specs.Places.characters, specs.Cells.IsLeastWidth}

abbrev fits : ℕ → ℕ → List (List ℕ) → Type 0
fits i width row = characters (get_or row i []) ≤ width

pub no_rows : (least i : ℕ) → IsLeastWidth least [] i least
no_rows least i = record { wide = omega arith; fits = All-nil (fits i least); narrow = λ other le all. le }

pub row_more : (least : ℕ) (rows : List (List (List ℕ))) (k i most : ℕ) (row : List (List ℕ)) → k < length rows → row ≡ get_or rows k row
    → IsLeastWidth least (take k rows) i most → IsLeastWidth least (take (k + 1) rows) i (max most (characters (get_or row i [])))
row_more least rows k i most row lt is before =
    let here = characters (get_or row i []) in
    let wide = max most here in
    record {
      wide = omega (arith, before.wide);
      fits = All-more (fits i wide) rows k row lt (All-weaker (fits i most) (fits i wide) (λ x p. omega (arith, p)) (take k rows) before.fits)
          (subst (λ r. fits i wide r) is (omega arith));
      narrow = λ other le all.
          let first = before.narrow other le (λ j d within.
          let near : j < k = omega (arith, within, length-take k rows) in
          subst (fits i other) (get_or-take (k + 1) rows j d (omega (arith, near)) ∙ sym (get_or-take k rows j d near))
          (all j d (omega (arith, near, lt, length-take (k + 1) rows)))) in
          let last : here ≤ other = subst (fits i other) (get_or-take (k + 1) rows k row (omega arith) ∙ sym is) (all k row (omega (arith, lt, length-take (k + 1) rows))) in
          omega (arith, first, last);
    }
