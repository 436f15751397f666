use Rattle.std.proofs.Common.{◌≡◌, ℕ, ◌<◌, ◌+◌, ◌^◌, length, drop, ap, ◌∙◌, subst, sym, take_at}
use Rattle.checked_fraction.specs.Terms.{num, IsNarrow}
use Rattle.key_rows.specs.Names.{HasKey, IsShortPath, key_name, links_in, key_dual}
use Rattle.key_rows.proofs.keys.renew_dual_list.Goals as goal

pub renew_duals-requires-clause-keys : goal.renew_duals-requires-clause-keys
renew_duals-requires-clause-keys c =
    subst (λ xs. (d : ℕ) → d < length xs → HasKey c.args.names.now c.args.places.now c.args.links d) (sym c.items_mut.ensures.value) c.requires.keys

pub renew_duals-requires-clause-short : goal.renew_duals-requires-clause-short
renew_duals-requires-clause-short c = subst (λ xs. c.args.links + length xs < 2 ^ 32) (sym c.items_mut.ensures.value) c.requires.short

pub renew_duals-requires-clause-within : goal.renew_duals-requires-clause-within
renew_duals-requires-clause-within c =
    subst (λ xs. (d : ℕ) → d < length xs → IsShortPath c.args.links (links_in (key_name c.args.names.now c.args.places.now c.args.links d))) (sym c.items_mut.ensures.value) c.requires.within

pub renew_duals-requires-clause-narrow : goal.renew_duals-requires-clause-narrow
renew_duals-requires-clause-narrow c = subst (λ xs. (d : ℕ) → IsNarrow (num xs d)) (sym c.items_mut.ensures.value) c.requires.narrow

pub returns-clause-count : goal.returns-clause-count
returns-clause-count c =
    let old = c.args.duals.now in
    let new = c.renew_duals.new.duals in
    let count : length new ≡ length old = c.renew_duals.ensures.count ∙ ap length c.items_mut.ensures.value in
    ap length (take_at new (drop (length new) old) (length old) count) ∙ count

pub returns-clause-narrow : goal.returns-clause-narrow
returns-clause-narrow c = λ d.
    let old = c.args.duals.now in
    let new = c.renew_duals.new.duals in
    let count : length new ≡ length old = c.renew_duals.ensures.count ∙ ap length c.items_mut.ensures.value in
    subst (λ xs. IsNarrow (num xs d)) (sym (take_at new (drop (length new) old) (length old) count)) (c.renew_duals.ensures.narrow d)

pub returns-clause-all : goal.returns-clause-all
returns-clause-all c = λ yes d l.
    let old = c.args.duals.now in
    let new = c.renew_duals.new.duals in
    let prices = c.args.prices.now in
    let count : length new ≡ length old = c.renew_duals.ensures.count ∙ ap length c.items_mut.ensures.value in
    let dual = key_dual c.args.links (num prices.nums) prices.den (key_name c.args.names.now c.args.places.now c.args.links d) in
    subst (λ xs. num xs d ≡ dual) (sym (take_at new (drop (length new) old) (length old) count)) (c.renew_duals.ensures.all yes d (subst (λ xs. d < length xs) (sym c.items_mut.ensures.value) l))

pub returns-clause-wide : goal.returns-clause-wide
returns-clause-wide c = λ no.
    let found = c.renew_duals.ensures.wide no in
    (found.0, subst (λ xs. found.0 < length xs) c.items_mut.ensures.value found.1, found.2)
