use Rattle.std.proofs.Common.{◌≡◌, ◌<◌, ◌^◌, ◌++◌, [], ◌∷◌, All, List, subst, sym}
use Rattle.net_core.proofs.Library.{All-push}
use Rattle.plan_terms.specs.Terms.{CutLine}
use Rattle.metric_cut.specs.Bounded.{HaveBound}
use Rattle.routing_tests.proofs.certificates.unit_lines.Goals as goal

-- what holds of each cut of a list holds with one more
all_more : (P : CutLine → Type 0) (cuts more : List CutLine) (cut : CutLine) → more ≡ cuts ++ cut ∷ [] → All P cuts → P cut → All P more
all_more P cuts more cut is all one = subst (All P) (sym is) (All-push P cuts cut all one)

pub loop-row-preserved : goal.loop-row-preserved
loop-row-preserved c = record {
  bound = all_more (λ (line : CutLine). HaveBound c.args.p.now.net.links line.lengths) _ _ _ c.in-Ok.ensures.ok c.loop-row.invariant.bound c.in_ok-line.ensures.bound;
  right = all_more (λ (line : CutLine). line.right < 2 ^ 84) _ _ _ c.in-Ok.ensures.ok c.loop-row.invariant.right c.in_ok-line.ensures.right;
}
