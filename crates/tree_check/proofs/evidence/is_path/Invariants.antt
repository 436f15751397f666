use Rattle.std.proofs.Common.{◌<◌, All, length, take}
use Rattle.tree_check.proofs.evidence.is_path.Given as goal

-- the links so far are known
abbrev pub invariant-loop-e : goal.invariant-loop-e
invariant-loop-e l = All (λ x. x.0 < length l.instance.net.now.links) (take l.e-index l.path)
