use Rattle.std.proofs.Common.{length, subst, sym}
use Rattle.checked_fraction.specs.inner.Passes.{CanMix, raw, over, IsWithin}
use Rattle.checked_fraction.proofs.pivot.write_list.Goals as goal

pub write-requires-clause-can_mix : goal.write-requires-clause-can_mix
write-requires-clause-can_mix c = subst (λ xs. CanMix xs c.args.pivot.now c.args.mix.now) (sym c.items_mut.ensures.value) c.requires.can_mix

pub write-requires-clause-within : goal.write-requires-clause-within
write-requires-clause-within c =
    subst (λ xs. IsWithin (over (raw xs c.args.pivot.now c.args.mix.now) c.args.divisor.now.value) (length xs)) (sym c.items_mut.ensures.value) c.requires.within
