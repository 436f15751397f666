-- weak duality: no able counts cost less than the bound of a certificate
use Rattle.std.{proofs.Common.{◌≡◌, ℕ, suc, ◌+◌, ◌*◌, ◌≤◌, List, [], ◌∷◌, ◌++◌, length, All, Bool, true, false, if◌then◌else◌, Some, refl, sym, ap, subst, ◌∙◌, arith, map, sum_by, zip, slice_get, slice_index}, proofs.Math.Nat.{mul-le-mul_left, dvd-mul_right_of_dvd}}
use Rattle.net_core.{proofs.Library.{sum_by-cons, recursion_from_All, dvd-add, dvd-zero, AllByRecursion, ◌∣◌, below-same, below-first, below-none, below-times, below-swapped, sums-le, sums-equal, sums-times}, specs.declared.network.Module.Module, specs.declared.network.Link.Link, specs.Terms.{Case, graph_in, sum_below}}
use Rattle.plan_terms.{specs.Capacities.{modules_capacity, modules_cost, installs, link_cost, capacities, total_cost, AreCounts, IsAble}, specs.Bounds.{with_setup, link_charges, charges, IsBound}, specs.Certificates.{CertificateLine, IsCut, price, asked, fixed_along, given, raw_value, WeakDuality}, proofs.Metric.metric_inequality}

-- where no module's price exceeds its cost, counts of modules cost at least the price of their capacity
modules_priced : (den unit : ℕ) (modules : List Module) (counts : List ℕ) → AllByRecursion (λ m. unit * m.capacity ≤ den * m.cost) modules → unit * modules_capacity modules counts ≤ den * modules_cost modules counts
modules_priced den unit [] counts priced = omega arith
modules_priced den unit (m ∷ ms) [] priced = omega arith
modules_priced den unit (m ∷ ms) (c ∷ cs) priced =
    let first : c * (unit * m.capacity) ≤ c * (den * m.cost) = mul-le-mul_left c priced.0 in
    omega (
      arith,
      first,
      modules_priced den unit ms cs priced.1,
      ap (λ s. unit * s) (sum_by-cons (λ (p : Module × ℕ). p.0.capacity * p.1) (m, c) (zip ms cs)),
      ap (λ s. den * s) (sum_by-cons (λ (p : Module × ℕ). p.0.cost * p.1) (m, c) (zip ms cs)),
    )

-- the pre-installed capacities
abbrev pub fixed_of : List Link → List ℕ
fixed_of links = map (λ l. l.fixed) links

-- the capacities at their prices are at most what the pre-installed ones give and the links cost, since setups aren't negative
capacities_priced : (den : ℕ) (unit : ℕ → ℕ) (links : List Link) (counts : List (List ℕ)) → AreCounts links counts
    → ((k : ℕ) (l : Link) → slice_get links k ≡ Some l → All (λ m. unit k * m.capacity ≤ den * m.cost) l.modules)
    → sum_below (length links) (λ k. unit k * slice_index (capacities links counts) k) ≤ sum_below (length links) (λ k. unit k * slice_index (fixed_of links) k) + den * total_cost links counts
capacities_priced den unit [] [] shape priced = omega arith
capacities_priced den unit (l ∷ ls) (c ∷ cs) shape priced =
    let first : unit 0 * modules_capacity l.modules c ≤ den * modules_cost l.modules c = modules_priced den (unit 0) l.modules c (recursion_from_All (λ m. unit 0 * m.capacity ≤ den * m.cost) l.modules (priced 0 l refl)) in
    let rest = capacities_priced den (λ k. unit (suc k)) ls cs shape.1 (λ k. priced (suc k)) in
    omega (
      arith,
      first,
      rest,
      below-first (length ls) (λ k. unit k * slice_index (capacities (l ∷ ls) (c ∷ cs)) k),
      below-first (length ls) (λ k. unit k * slice_index (fixed_of (l ∷ ls)) k),
      ap (λ s. den * s) (sum_by-cons (λ (p : Link × List ℕ). link_cost p.0 p.1) (l, c) (zip ls cs)),
    )
capacities_priced den unit [] (c ∷ cs) shape priced = absurd shape
capacities_priced den unit (l ∷ ls) [] shape priced = absurd shape

-- what lengths give of the pre-installed capacities, link by link
pub along_fixed : (lengths : List ℕ) (links : List Link) → fixed_along lengths links ≡ sum_below (length links) (λ e. slice_index lengths e * slice_index (fixed_of links) e)
along_fixed [] links = sym (below-same (length links) (λ e. 0 * slice_index (fixed_of links) e) (λ e. 0) (λ e l. omega arith) ∙ below-none (length links))
along_fixed (n ∷ ns) [] = refl
along_fixed (n ∷ ns) (l ∷ ls) =
    omega (arith, sum_by-cons (λ (q : ℕ × Link). q.0 * q.1.fixed) (n, l) (zip ns ls), below-first (length ls) (λ e. slice_index (n ∷ ns) e * slice_index (fixed_of (l ∷ ls)) e), along_fixed ns ls)

-- a sum along the lengths of lines is one at their prices
pub priced_sum : (n : ℕ) (f : ℕ → ℕ) (lines : List CertificateLine) → sum_by (λ l. l.num * sum_below n (λ e. slice_index l.cut.lengths e * f e)) lines ≡ sum_below n (λ e. price lines e * f e)
priced_sum n f lines =
    sums-equal _ (λ l. sum_below n (λ e. f e * (l.num * slice_index l.cut.lengths e))) lines (λ l. sym (below-times n l.num (λ e. slice_index l.cut.lengths e * f e)) ∙ below-same n _ _ (λ e lt. omega arith))
    ∙ (sym (below-swapped n (λ e (l : CertificateLine). f e * (l.num * slice_index l.cut.lengths e)) lines)
    ∙ below-same n _ _ (λ e lt. sums-times (f e) (λ (l : CertificateLine). l.num * slice_index l.cut.lengths e) lines ∙ omega arith))

-- what the pre-installed capacities give at the prices of the lines
pub given_priced : (links : List Link) (lines : List CertificateLine) → given links lines ≡ sum_below (length links) (λ e. price lines e * slice_index (fixed_of links) e)
given_priced links lines =
    sums-equal (λ (l : CertificateLine). l.num * fixed_along l.cut.lengths links) (λ l. l.num * sum_below (length links) (λ e. slice_index l.cut.lengths e * slice_index (fixed_of links) e)) lines (λ l. ap (λ s. l.num * s) (along_fixed l.cut.lengths links))
    ∙ priced_sum (length links) (λ e. slice_index (fixed_of links) e) lines

module _ (p : Case) (counts : List (List ℕ)) (able : IsAble p counts) where
  -- a line asks for no more than the capacities of able counts give along its lengths
  line_met : (line : CertificateLine) → IsCut p line.cut → line.num * line.cut.right ≤ line.num * sum_below (length p.links) (λ e. slice_index line.cut.lengths e * slice_index (capacities p.links counts) e)
  line_met line is =
      let here = able.each line.cut.state.0 is.listed_state in
      mul-le-mul_left line.num (omega (arith, metric_inequality (graph_in p line.cut.state.0) p.demands 1 (capacities p.links counts) line.cut.lengths line.cut.right here.routing here.carries is.right))

  -- what the cuts ask for is given by the pre-installed capacities, or paid for
  pub asked_met : (den : ℕ) (lines : List CertificateLine) → All (λ l. IsCut p l.cut) lines
      → ((e : ℕ) (l : Link) → slice_get p.links e ≡ Some l → All (λ m. price lines e * m.capacity ≤ den * m.cost) l.modules)
      → asked lines ≤ given p.links lines + den * total_cost p.links counts
  asked_met den lines each priced =
      let all = recursion_from_All (λ (l : CertificateLine). IsCut p l.cut) lines each in
      omega (
        arith,
        sums-le _ _ (λ (l : CertificateLine). IsCut p l.cut) lines all line_met,
        priced_sum (length p.links) (λ e. slice_index (capacities p.links counts) e) lines,
        given_priced p.links lines,
        capacities_priced den (price lines) p.links counts able.shape priced,
      )

-- a number that divides all numbers of a list divides those of its parts
pub divides_parts : (g : ℕ) (xs ys : List ℕ) → AllByRecursion (λ x. g ∣ x) (xs ++ ys) → AllByRecursion (λ x. g ∣ x) xs × AllByRecursion (λ x. g ∣ x) ys
divides_parts g [] ys all = (tt, all)
divides_parts g (x ∷ xs) ys all = let r = divides_parts g xs ys all.1 in ((all.0, r.0), r.1)

-- what divides each module's cost divides what counts of them cost
modules_divided : (g : ℕ) (modules : List Module) (counts : List ℕ) → AllByRecursion (λ x. g ∣ x) (map (λ m. m.cost) modules) → g ∣ modules_cost modules counts
modules_divided g [] counts all = dvd-zero g
modules_divided g (m ∷ ms) [] all = dvd-zero g
modules_divided g (m ∷ ms) (c ∷ cs) all =
    subst (λ s. g ∣ s) (sym (sum_by-cons (λ (p : Module × ℕ). p.0.cost * p.1) (m, c) (zip ms cs))) (dvd-add g (dvd-mul_right_of_dvd g all.0 c) (modules_divided g ms cs all.1))

-- what divides a setup divides what is paid for it
setup_divided : (g setup : ℕ) (paid : Bool) → g ∣ setup → g ∣ (if paid then setup else 0)
setup_divided g setup true divides = divides
setup_divided g setup false divides = dvd-zero g

-- what divides all that a link charges divides what counts of its modules cost
link_divided : (g setup : ℕ) (modules : List Module) (counts : List ℕ) → length counts ≡ length modules
    → AllByRecursion (λ x. g ∣ x) (with_setup setup (map (λ m. m.cost) modules))
    → g ∣ modules_cost modules counts + (if installs counts then setup else 0)
link_divided g setup [] [] shape all = dvd-zero g
link_divided g setup [] (c ∷ cs) shape all = absurd (omega (arith, shape))
link_divided g setup (m ∷ ms) counts shape all = dvd-add g (modules_divided g (m ∷ ms) counts all.1) (setup_divided g setup (installs counts) all.0)

-- what counts cost is a multiple of each number that divides all charges
pub cost_divided : (g : ℕ) (links : List Link) (counts : List (List ℕ)) → AreCounts links counts → AllByRecursion (λ x. g ∣ x) (charges links) → g ∣ total_cost links counts
cost_divided g [] [] shape all = dvd-zero g
cost_divided g (l ∷ ls) (c ∷ cs) shape all =
    let parts = divides_parts g (link_charges l) (charges ls) all in
    subst (λ s. g ∣ s) (sym (sum_by-cons (λ (p : Link × List ℕ). link_cost p.0 p.1) (l, c) (zip ls cs))) (dvd-add g (link_divided g l.setup l.modules c shape.0 parts.0) (cost_divided g ls cs shape.1 parts.1))
cost_divided g [] (c ∷ cs) shape all = absurd shape
cost_divided g (l ∷ ls) [] shape all = absurd shape

-- no counts cost less than the bound of what they pay for
pub bound_met : (links : List Link) (num den bound : ℕ) (counts : List (List ℕ)) → AreCounts links counts → IsBound links num den bound → num ≤ den * total_cost links counts → bound ≤ total_cost links counts
bound_met links num den bound counts shape b paid =
    b.least (total_cost links counts)
    (cost_divided b.divisor links counts shape (recursion_from_All (λ x. b.divisor ∣ x) (charges links) b.is_divisor.divides))
    (omega (arith, paid))

pub weak_duality : WeakDuality
weak_duality p den lines bound counts c b able =
    let met = asked_met p counts able den lines c.each c.priced in
    bound_met p.links (raw_value p.links lines) den bound counts able.shape b (omega (arith, met))
