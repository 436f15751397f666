use Rattle.std.proofs.Common.{◌≡◌, ◌<◌, ◌≤◌, ◌^◌, ◌∙◌, ap, length, pos, slice_set, subst, sym, to_z, of_z, unsigned_abs, w64, arith, ⊎_elim, get_or-set_same, get_or-set_other}
use Rattle.net_core.proofs.Library.{cases_eq, ints}
use Rattle.checked_fraction.specs.Terms.{num, IsNarrow}
use Rattle.key_rows.{specs.Names.{IsShortPath, key_name, key_dual, links_in}, proofs.Listing.each_more}
use Rattle.key_rows.proofs.keys.renew_duals.Goals as goal

pub next_dual-requires : goal.next_dual-requires
next_dual-requires c =
    let links = c.args.links in
    record {
      key = subst (λ k. IsShortPath (length c.args.prices.now.nums) (links_in k)) (sym c.key_of.ensures)
          (subst (λ n. IsShortPath n (links_in (key_name c.args.names.now c.args.places.now links c.loop-d.d))) c.requires.links
          (c.requires.within c.loop-d.d (omega (arith, c.loop-d-test.true, c.loop-d.auto.duals))));
    }

pub returns-in_default-clause-wide : goal.returns-in_default-clause-wide
returns-in_default-clause-wide c = λ no.
    let prices = c.args.prices.now in
    let names = c.args.names.now in
    let places = c.args.places.now in
    let links = c.args.links in
    let d = c.loop-d.d in
    let key = c.key_of.result.now in
    let same : key_dual (length prices.nums) (num prices.nums) prices.den key ≡ key_dual links (num prices.nums) prices.den (key_name names places links d) =
    ap (λ n. key_dual n (num prices.nums) prices.den key) (sym c.requires.links) ∙ ap (λ k. key_dual links (num prices.nums) prices.den k) c.key_of.ensures in
    (d, omega (arith, c.loop-d-test.true, c.loop-d.auto.duals), subst (λ z. 2 ^ 62 ≤ unsigned_abs z) same c.in_default.ensures)

pub loop-d-preserved : goal.loop-d-preserved
loop-d-preserved c =
    let prices = c.args.prices.now in
    let names = c.args.names.now in
    let places = c.args.places.now in
    let links = c.args.links in
    let d = c.loop-d.d in
    let key = c.key_of.result.now in
    let same : key_dual (length prices.nums) (num prices.nums) prices.den key ≡ key_dual links (num prices.nums) prices.den (key_name names places links d) =
    ap (λ n. key_dual n (num prices.nums) prices.den key) (sym c.requires.links) ∙ ap (λ k. key_dual links (num prices.nums) prices.den k) c.key_of.ensures in
    let duals = c.loop-d.duals in
    let v = c.in-Some.dual in
    let back : to_z w64 (of_z w64 v) ≡ v = omega (arith, ints, c.in-Some.ensures.1) in
    let inside : d < length duals = omega (arith, c.loop-d-test.true, c.loop-d.auto.duals) in
    rw back (record {
      duals = each_more (λ k x. x ≡ key_dual links (num prices.nums) prices.den (key_name names places links k)) duals d v inside c.loop-d.invariant.duals (c.in-Some.ensures.0 ∙ same);
      narrow = λ k. ⊎_elim
          (λ e. subst (λ j. IsNarrow (num (slice_set duals d v) j)) (sym e) (subst IsNarrow (sym (get_or-set_same duals d v (pos 0) inside)) c.in-Some.ensures.1))
          (λ ne. subst IsNarrow (sym (get_or-set_other duals d k v (pos 0) ne)) (c.loop-d.invariant.narrow k))
          (cases_eq k d);
    })
