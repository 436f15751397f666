use Rattle.std.proofs.Common.{length, subst, sym}
use Rattle.checked_fraction.specs.Terms.{num}
use Rattle.length_master.{specs.inner.Slots.IsSlotInside, proofs.Slots.slack_even}
use Rattle.length_master.proofs.priced_lengths.is_even.Goals as goal

pub returns-in-Slack : goal.returns-in-Slack
returns-in-Slack c free =
    let duals = c.args.duals.now in
    let cuts = c.args.cuts.now in
    let inside = subst (λ n. IsSlotInside n (length cuts) c.args.slot) (sym c.requires.duals) c.requires.inside in
    slack_even c.args.links.now c.args.pairs.now (num duals.nums) duals.den (length duals.nums) (length cuts) c.in-Slack.e cuts c.args.slot c.in-Slack.is inside ((rw c.nums.ensures at c.is_unpriced.ensures) free)
