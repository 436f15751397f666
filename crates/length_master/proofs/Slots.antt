-- slots that are there
use Rattle.std.proofs.Common.{◌≡◌, ℕ, List, refl, sym, ◌∙◌, subst, ℤ, pos, ◌*ℤ◌}
use Rattle.net_core.proofs.Library.{*ℤ-zero}
use Rattle.module_prices.specs.declared.cheapest.UnitPair.{UnitPair}
use Rattle.plan_terms.specs.Terms.{Link, CutLine}
use Rattle.simplex_law.{specs.Terms.dot, proofs.Lemmas.dot-unit}
use Rattle.length_master.{specs.declared.slot.Slot.Slot, specs.declared.slot.Slot.TheVariants.Slack, specs.inner.Slots.{IsSlotInside, slot_entry, slot_gain, slot_lengths}}

-- what a row over lengths has for a slack is its number
pub slack_length : (u : ℕ → ℤ) (n c e : ℕ) (cuts : List CutLine) (slot : Slot) → slot ≡ Slack e → IsSlotInside n c slot → dot n u (slot_lengths cuts slot) ≡ u e
slack_length u n c e cuts slot is inside =
    subst (λ s. IsSlotInside n c s → dot n u (slot_lengths cuts s) ≡ u e) (sym is) (λ l. dot-unit n e u (slot_lengths cuts (Slack e)) l (λ k h. refl)) inside

-- a slack without a price gains what it costs
pub slack_even : (links : List Link) (pairs : List UnitPair) (u : ℕ → ℤ) (den : ℤ) (n c e : ℕ) (cuts : List CutLine) (slot : Slot) → slot ≡ Slack e → IsSlotInside n c slot → u e ≡ pos 0
    → dot n u (slot_entry pairs cuts slot) ≡ den *ℤ slot_gain links cuts slot
slack_even links pairs u den n c e cuts slot is inside none =
    subst (λ s. IsSlotInside n c s → dot n u (slot_entry pairs cuts s) ≡ den *ℤ slot_gain links cuts s) (sym is)
    (λ l. dot-unit n e u (slot_entry pairs cuts (Slack e)) l (λ k h. refl) ∙ (none ∙ sym (*ℤ-zero den))) inside
