use Rattle.std.proofs.Common.{◌≡◌, ◌<◌, ◌^◌, ◌≤ℤ◌, length, pos, unsigned_abs, ap, sym, ◌∙◌, subst, arith, slice_get}
use Rattle.checked_fraction.specs.Terms.{num, IsNarrow}
use Rattle.simplex_law.specs.Terms.{dot}
use Rattle.simplex_core.{specs.Terms.{nums_of, nums_at}, proofs.RowsRead.{numbers_at, width_at}}
use Rattle.key_paths.proofs.change_key.row_value.Goals as goal

here : (c : goal.After-items-2) → c.nums.result.now ≡ nums_of (slice_get c.args.keyed.now.rows c.args.i)
here c = numbers_at c.args.keyed.now.rows c.args.i c.index-items-i.result c.nums.result.now c.requires.inside (rw c.items.ensures at c.index-items-i.is) c.nums.ensures

width : (c : goal.After-items-2) → length c.nums.result.now ≡ length c.args.keyed.now.rows
width c = width_at c.args.keyed.now.rows c.args.i c.nums.result.now c.requires.inside c.requires.shaped.rectangle (here c)

total : (c : goal.After-items-2) → dot (length c.nums.result.now) (num c.nums.result.now) (num c.items-2.result.now) ≡ dot (length c.args.keyed.now.rows) (nums_at c.args.keyed.now.rows c.args.i) (num c.args.keyed.now.rest)
total c =
    let b = c.args.keyed.now in
    let nums = c.nums.result.now in
    ap (λ xs. dot (length nums) (num nums) (num xs)) c.items-2.ensures
    ∙ (ap (λ n. dot n (num nums) (num b.rest)) (width c) ∙ ap (λ xs. dot (length b.rows) (num xs) (num b.rest)) (here c))

pub worth-requires-clause-equal : goal.worth-requires-clause-equal
worth-requires-clause-equal c = width c ∙ sym (ap length c.items-2.ensures ∙ c.requires.shaped.rest)

pub worth-requires-clause-short : goal.worth-requires-clause-short
worth-requires-clause-short c = omega (arith, width c, c.requires.shaped.short)

pub worth-requires-clause-nums : goal.worth-requires-clause-nums
worth-requires-clause-nums c = λ k. subst (λ xs. IsNarrow (num xs k)) (sym c.nums.ensures) (c.index-items-i.result.narrow k)

pub worth-requires-clause-rest : goal.worth-requires-clause-rest
worth-requires-clause-rest c = λ k l. subst (λ xs. unsigned_abs (num xs k) < 2 ^ 76) (sym c.items-2.ensures) (c.requires.rest k)

pub worth-requires-clause-high : goal.worth-requires-clause-high
worth-requires-clause-high c = subst (λ z. pos 0 ≤ℤ z) (sym (total c)) c.requires.high

pub worth-requires-clause-low : goal.worth-requires-clause-low
worth-requires-clause-low c = subst (λ z. unsigned_abs z < 2 ^ 124) (sym (total c)) c.requires.low

pub returns : goal.returns
returns c =
    let b = c.args.keyed.now in
    let nums = c.nums.result.now in
    let is = numbers_at b.rows c.args.i c.index-items-i.result nums c.requires.inside (rw c.items.ensures at c.index-items-i.is) c.nums.ensures in
    let size : length nums ≡ length b.rows = width_at b.rows c.args.i nums c.requires.inside c.requires.shaped.rectangle is in
    c.worth.ensures
    ∙ (ap (λ xs. dot (length nums) (num nums) (num xs)) c.items-2.ensures
    ∙ (ap (λ n. dot n (num nums) (num b.rest)) size ∙ ap (λ xs. dot (length b.rows) (num xs) (num b.rest)) is))
