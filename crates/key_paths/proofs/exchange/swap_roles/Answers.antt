use Rattle.std.proofs.Common.{◌≡◌, ◌+◌, ◌+ℤ◌, ◌*ℤ◌, length, get_or, slice_get, sym, ap, ◌∙◌, subst, arith}
use Rattle.checked_fraction.specs.Terms.{num}
use Rattle.key_rows.{specs.Terms.{path_uses, links_in, key_name}, proofs.Shifting.given_and_taken}
use Rattle.key_law.specs.Terms.{swap}
use Rattle.key_paths.specs.inner.Turning.{key_takes, AreSwapped}
use Rattle.key_paths.proofs.exchange.swap_roles.Goals as goal

pub returns-clause-swapped : goal.returns-clause-swapped
returns-clause-swapped c =
    let old = c.args.keyed.now in
    let d = c.args.demand in
    let given = c.give_back.ensures.same in
    let taken = c.take_away.ensures.same in
    let count = c.swap_row_list.ensures.count in
    let rows : c.len.result ≡ length old.rows = c.len.ensures ∙ (ap (λ b. length b.rows) given ∙ count) in
    record {
      names = ap (λ b. b.names) taken ∙ ap (λ b. b.names) given;
      count = ap (λ b. length b.places) taken ∙ (c.swap_place_list.ensures.count ∙ ap (λ b. length b.places) given);
      places = subst (λ n. AreSwapped old.places c.take_away.new.keyed.places c.args.i (n + d)) rows
          (λ r l. ap (λ b. get_or b.places r 0) taken ∙ (c.swap_place_list.ensures.swapped r (omega (arith, l, ap (λ b. length b.places) given)) ∙ ap (λ b. get_or b.places (swap c.args.i (c.len.result + d) r) 0) given));
      owners = ap (λ b. b.owners) taken ∙ ap (λ b. b.owners) given;
      rows = ap (λ b. length b.rows) taken ∙ (ap (λ b. length b.rows) given ∙ count);
      row = c.spread_key.new.room.spare;
      at = ap (λ b. slice_get b.rows c.args.i) taken ∙ (ap (λ b. slice_get b.rows c.args.i) given ∙ c.swap_row_list.ensures.at);
      size = c.spread_key.ensures.room.spare;
      key_row = c.in_ok-spread_key.ensures.row;
      others = λ j ne. ap (λ b. slice_get b.rows j) taken ∙ (ap (λ b. slice_get b.rows j) given ∙ c.swap_row_list.ensures.others j ne);
      prices = ap (λ b. b.prices) taken ∙ ap (λ b. b.prices) given;
      duals = ap (λ b. b.duals) taken ∙ ap (λ b. b.duals) given;
      bounds = ap (λ b. b.bounds) taken ∙ ap (λ b. b.bounds) given;
      values = ap (λ b. b.values) taken ∙ ap (λ b. b.values) given;
      products = ap (λ b. b.products) taken ∙ ap (λ b. b.products) given;
      rest_count = c.take_away.ensures.count ∙ c.give_back.ensures.count;
      rest = λ k. given_and_taken (num old.rest k) (key_takes old d k) (c.take_away.ensures.rest k)
          (c.give_back.ensures.rest k ∙ ap (λ n. num old.rest k +ℤ (num old.bounds (n + d) *ℤ path_uses (links_in (key_name old.names old.places n d)) k)) count)
          (sym (ap (λ b. key_takes b d k) taken));
    }
