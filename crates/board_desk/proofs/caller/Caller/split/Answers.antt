use Rattle.std.proofs.Common.{◌∙◌, ◌/◌, ap, refl, sym}
use Rattle.board_desk.{specs.Turns.{places_in, seen_in, units_in}, proofs.Passes.{no_pass, some_pass}}
use Rattle.board_desk.proofs.caller.Caller.split.Goals as goal

pub unreachable-requires : goal.unreachable-requires
unreachable-requires c = no_pass c.args.self.desk.now c.args.self.pass c.requires.own c.in_default.is

pub split-first-requires-clause-own : goal.split-first-requires-clause-own
split-first-requires-clause-own c = some_pass c.args.self.desk.now c.args.self.pass c.requires.own c.in-Some.pass c.in-Some.is

pub returns-clause-own : goal.returns-clause-own
returns-clause-own c =
    let own = c.split-first.ensures.own in
    ((refl, c.requires.own, own.0), (refl, c.requires.own, own.1))

pub returns-clause-seen : goal.returns-clause-seen
returns-clause-seen c =
    let had = ap (λ p. (seen_in p).history) (sym c.in-Some.is) in
    let seen = c.split-first.ensures.seen in
    (seen.0 ∙ had, seen.1 ∙ had)

pub returns-clause-places : goal.returns-clause-places
returns-clause-places c =
    let places = c.split-first.ensures.places in
    (places.0 ∙ ap places_in (sym c.in-Some.is), places.1)

pub returns-clause-units : goal.returns-clause-units
returns-clause-units c =
    let had = ap units_in (sym c.in-Some.is) in
    let units = c.split-first.ensures.units in
    (units.0 ∙ had, units.1 ∙ ap (λ n. n / 2) had)
