use Rattle.std.proofs.Common.{◌≡◌, Bool, true, false, IsTrue, not, get_or, inr, refl, subst}
use Rattle.key_rows.{specs.inner.Tried.IsSeen, proofs.Trying.no_more}
use Rattle.key_rows.proofs.ratio_test.is_to_be_tried.Goals as goal

flipped : (t : Bool) → not t ≡ false → IsTrue t
flipped true e = refl
flipped false e = absurd cc

pub returns-then-not-is_of-clause-no : goal.returns-then-not-is_of-clause-no
returns-then-not-is_of-clause-no c = λ e.
    let b = c.args.keyed.now in
    let i = c.args.i in
    let seen = c.is_seen.ensures (flipped c.is_seen.result e) in
    no_more b c.args.name.now i (inr (inr (inr (subst (λ xs. IsSeen b.owners xs i (get_or b.owners i 0)) c.items-products.ensures
    (subst (λ xs. IsSeen xs c.items-products.result.now i (get_or xs i 0)) c.items-owners.ensures seen)))))
