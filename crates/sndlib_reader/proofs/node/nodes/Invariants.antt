use Rattle.std.proofs.Common.{◌≡◌, ◌≤◌, [], length, IsTrue}
use Rattle.snd_tokens.specs.Terms.{left, size}
use Rattle.sndlib_reader.{specs.Reading.native_nodes_at, specs.inner.Nodes.parts_so_far}
use Rattle.sndlib_reader.proofs.node.nodes.Given as goal

abbrev pub invariant-loop-names : goal.invariant-loop-names
invariant-loop-names l = (native_nodes_at (parts_so_far l.nodes l.after_name) (left l.text) ≡ native_nodes_at [] (left l.fn.text)) × (IsTrue l.after_name → 1 ≤ length l.nodes) × (l.names ≡ l.nodes)

abbrev pub decreases-loop-names : goal.decreases-loop-names
decreases-loop-names l = size (left l.text)
