use Rattle.std.proofs.Common.{◌≡◌, ◌∙◌, All, List, length, subst, sym}
use Rattle.plan_terms.specs.Terms.{Demand, AreDemands, case, IsCut}
use Rattle.cut_pool.{specs.Boards.opening_case, specs.Histories.demands_left}
use Rattle.cut_pool.proofs.board.Board.snapshot.Goals as goal

pub returns : goal.returns
returns c =
    let self = c.args.self.now in
    let copied : c.in_ok-copy.field-0 ≡ demands_left (opening_case self) self.entries = c.in_ok-copy.ensures ∙ c.demands.ensures.left in
    record {
      position_is = c.count.ensures.length;
      version_is = c.version.ensures;
      demands_are = copied;
      belong = subst (λ (ds : List Demand). AreDemands (length self.net.now.nodes) ds) (sym c.in_ok-copy.ensures) c.demands.ensures.belong;
      pool = c.in_ok-lines.ensures.pool;
      cuts_are = subst (λ (ds : List Demand). ∥ All (IsCut (case self.net.now self.states.now ds)) c.in_ok-lines.field-0 ∥₁) (sym copied) c.in_ok-lines.ensures.cuts;
      low = c.in_ok-lines.ensures.low;
    }
