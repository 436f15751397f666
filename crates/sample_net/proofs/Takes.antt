-- what a link and a demand take from the sequence
use Rattle.std.proofs.Common.{◌≡◌, ℕ, ◌+◌, ◌*◌, arith, ap, ◌∙◌}
use Rattle.plan_terms.specs.Terms.{Demand, Link}
use Rattle.sample_net.{specs.Draws.{nth_draw, nth_number}, specs.Samples.{sample_demand, sample_link}, proofs.Sequence.{draw_later, steps_add}}

-- link e, after the two draws of each earlier one
pub link_taken : (x y e : ℕ) (ends : ℕ × ℕ) (l : Link) → y ≡ nth_number x (2 * e) → l ≡ sample_link e ends (nth_draw y 0 80) (nth_draw y 1 200)
    → l ≡ sample_link e ends (nth_draw x (2 * e) 80) (nth_draw x (2 * e + 1) 200)
link_taken x y e ends l after is =
    let same : 2 * e + 0 ≡ 2 * e = omega arith in
    let first : nth_draw y 0 80 ≡ nth_draw x (2 * e) 80 = draw_later x y (2 * e) 0 80 after ∙ ap (λ k. nth_draw x k 80) same in
    is ∙ ap (λ d. sample_link e ends d (nth_draw y 1 200)) first ∙ ap (sample_link e ends (nth_draw x (2 * e) 80)) (draw_later x y (2 * e) 1 200 after)

-- the steps of one link more
pub two_more : (x y z e : ℕ) → y ≡ nth_number x (2 * e) → z ≡ nth_number y 2 → z ≡ nth_number x (2 * (e + 1))
two_more x y z e after e2 =
    let same : 2 * e + 2 ≡ 2 * (e + 1) = omega arith in
    e2 ∙ ap (λ v. nth_number v 2) after ∙ steps_add x (2 * e) 2 ∙ ap (nth_number x) same

-- demand k, after the draw of each earlier one
pub demand_taken : (x y k : ℕ) (ends : ℕ × ℕ) (d : Demand) → y ≡ nth_number x k → d ≡ sample_demand k ends (nth_draw y 0 40) → d ≡ sample_demand k ends (nth_draw x k 40)
demand_taken x y k ends d after is =
    let same : k + 0 ≡ k = omega arith in
    is ∙ ap (sample_demand k ends) (draw_later x y k 0 40 after ∙ ap (λ j. nth_draw x j 40) same)
