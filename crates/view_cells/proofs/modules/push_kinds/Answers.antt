use Rattle.std.proofs.Common.{◌++◌, ap, arith, ◌∙◌}
use Rattle.view_cells.proofs.ModuleWords.{all_kinds, next_kinds}
use Rattle.view_cells.proofs.modules.push_kinds.Goals as goal

pub loop-i-preserved : goal.loop-i-preserved
loop-i-preserved c = next_kinds c.args.places c.args.modules.now c.args.counts.now c.loop-i.i _ _ c.args.words.now c.loop-i.words c.push_kind.new.words
    (omega arith) (omega arith) c.loop-i.invariant c.in_ok-push_kind.ensures

pub returns : goal.returns
returns c = c.loop-i.invariant ∙ ap (λ ws. c.args.words.now ++ ws) (all_kinds c.args.places c.args.modules.now c.args.counts.now c.loop-i.i (omega arith))
