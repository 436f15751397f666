use Rattle.std.proofs.Common.{◌≡◌, ◌+◌, ◌-◌, ◌*◌, ◌^◌, ◌<◌, ◌≤◌, replicate, take, arith, ap, refl, subst, ◌∙◌, MatchOption}
use Rattle.snd_tokens.{specs.Digits.{number_of, number_after}, specs.Amounts.first_places, proofs.Numbers.{first_digits, number_after-le, number_after-zero, units_more, units_value}}
use Rattle.snd_tokens.proofs.amounts.in_units.Goals as goal

pub returns-in_err-number : goal.returns-in_err-number
returns-in_err-number c =
    let count = c.args.count in
    let shown = c.min-shown.result in
    let places = c.args.places.now in
    let units = c.in_ok-units.units in
    let zeros = take (count - shown) (replicate 6 48) in
    let more = number_after-le (number_after units (take shown places)) zeros in
    let value = units_value units count places shown c.requires.count c.min-shown.ensures in
    let whole = c.in_ok-units.ensures.0 ∙ number_after-zero c.args.whole.now in
    rw c.from_residual-in_err-number.ensures (omega (arith, c.in_err-number.ensures, more, value, ap (λ w. 10 ^ count * w) whole))

pub returns : goal.returns
returns c =
    let count = c.args.count in
    let shown = c.min-shown.result in
    let places = c.args.places.now in
    let limit = c.args.limit in
    let zeros = take (count - shown) (replicate 6 48) in
    let value = ap (λ n. number_after n zeros) c.in_ok-number.ensures.0
    ∙ units_value c.in_ok-units.units count places shown c.requires.count c.min-shown.ensures
    ∙ ap (λ w. 10 ^ count * w + number_of (first_places count places)) (c.in_ok-units.ensures.0 ∙ number_after-zero c.args.whole.now) in
    subst (λ v. MatchOption c.number_below-3.result (limit ≤ v) (λ n. (n ≡ v) × (n < limit))) value c.number_below-3.ensures

pub returns-in_err-units : goal.returns-in_err-units
returns-in_err-units c =
    let whole = number_of c.args.whole.now in
    rw c.from_residual.ensures (omega (arith, c.in_err-units.ensures, number_after-zero c.args.whole.now, units_more c.args.count whole))

pub number_below-requires-2-clause-digits : goal.number_below-requires-2-clause-digits
number_below-requires-2-clause-digits c = first_digits c.min-shown.result c.args.places.now c.requires.places

pub number_below-requires-3-clause-digits : goal.number_below-requires-3-clause-digits
number_below-requires-3-clause-digits c = first_digits (c.args.count - c.min-shown.result) (replicate 6 48) refl
