-- how many capacities a share gives, and which
use Rattle.std.proofs.Common.{◌≡◌, ℕ, zero, suc, ◌+◌, ◌*◌, List, [], ◌∷◌, length, slice_index, zip, refl, ◌∙◌, arith}
use Rattle.net_core.proofs.Library.{length-map, length-zip}
use Rattle.module_prices.specs.declared.cheapest.UnitPair.{UnitPair}
use Rattle.plan_terms.{specs.Terms.Link, proofs.Lemmas.fixed_of}
use Rattle.plan_types.specs.declared.quality.Share.{Share}
use Rattle.master_law.{specs.MasterPrograms.unit_capacities, specs.UnitPairs.share_capacities}

-- a share gives each link a capacity
pub share_count : (links : List Link) (pairs : List UnitPair) (share : Share) → length pairs ≡ length links → length share.units ≡ length links → length (share_capacities links pairs share) ≡ length links
share_count links pairs share same units =
    length-map (zip links (zip pairs share.units)) (λ r. r.0.fixed * share.scale + r.1.0.capacity * r.1.1)
    ∙ omega (arith, same, units, length-zip pairs share.units, length-zip links (zip pairs share.units))

-- a link's capacity in a share
pub share_at : (scale : ℕ) (links : List Link) (pairs : List UnitPair) (units : List ℕ) (e : ℕ) → length pairs ≡ length links → length units ≡ length links
    → slice_index (share_capacities links pairs (record { scale = scale; units = units })) e
    ≡ slice_index (fixed_of links) e * scale + slice_index (unit_capacities pairs) e * slice_index units e
share_at scale [] [] [] e cp cu = omega arith
share_at scale [] (p ∷ ps) units e cp cu = absurd (omega (arith, cp))
share_at scale [] [] (u ∷ us) e cp cu = absurd (omega (arith, cu))
share_at scale (l ∷ ls) [] units e cp cu = absurd (omega (arith, cp))
share_at scale (l ∷ ls) (p ∷ ps) [] e cp cu = absurd (omega (arith, cu))
share_at scale (l ∷ ls) (p ∷ ps) (u ∷ us) zero cp cu = refl
share_at scale (l ∷ ls) (p ∷ ps) (u ∷ us) (suc e) cp cu = share_at scale ls ps us e (omega (arith, cp)) (omega (arith, cu))
