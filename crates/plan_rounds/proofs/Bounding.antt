-- cuts of the case have bounds of their own, and the modules of a network are sound
use Rattle.std.proofs.Common.{◌≡◌, ⊎_elim, List, [], All, get_or, subst, sym, arith}
use Rattle.net_core.proofs.Library.{◌∣◌, ∥∥₁_elim, props, All-weaker, dvd-zero, positive_or_none}
use Rattle.plan_terms.specs.Terms.{Entry, Link, CutLine, Case, IsCut}
use Rattle.metric_cut.specs.Bounded.{HaveBound}
use Rattle.plan_rounds.{specs.inner.Listing.AreListed, specs.declared.candidates.Candidates.Candidates}

pub has_bound : (p : Case) (cut : CutLine) → ∥ IsCut p cut ∥₁ → HaveBound p.links cut.lengths
has_bound p cut told = record {
  count = ∥∥₁_elim told (hlevel props) (λ is. is.kept.count);
  positive = ⊎_elim
      (λ some. some)
      (λ none. absurd (∥∥₁_elim told (hlevel props) (λ is.
      let e : 0 ≡ 1 = is.kept.lowest 0 (All-weaker (λ x. x ≡ 0) (λ x. 0 ∣ x) (λ x z. subst (λ i. 0 ∣ i) (sym z) (dvd-zero 0)) cut.lengths none) in
      omega (arith, e))))
      (positive_or_none cut.lengths);
  served = λ e l at ne none. ∥∥₁_elim told (hlevel props) (λ is.
      let s = is.kept.zero e ne in
      let same : s.link ≡ l = cc (s.at, at) in
      s.has_module (subst (λ (x : Link). x.modules ≡ []) (sym same) none));
}

pub have_bounds : (p : Case) (h : List Entry) (c : Candidates) → ∥ AreListed p h c ∥₁ → All (λ cut. HaveBound p.links cut.lengths) c.lines
have_bounds p h c told k d lt = has_bound p (get_or c.lines k d) (∥∥₁_elim told (hlevel props) (λ are. ∣ are.cuts k d lt ∣₁))
