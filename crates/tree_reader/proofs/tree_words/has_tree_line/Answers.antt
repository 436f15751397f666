use Rattle.std.proofs.Common.{◌∙◌, sym}
use Rattle.net_core.proofs.Library.{false≢true}
use Rattle.tree_reader.proofs.TreeBegun.{spelled_begins}
use Rattle.tree_reader.proofs.tree_words.has_tree_line.Goals as goal

pub returns-clause-none : goal.returns-clause-none
returns-clause-none c =
    λ is known demands t spelled. false≢true (sym is ∙ (c.one_begins.ensures ∙ spelled_begins known demands c.args.from c.args.bytes.now t spelled))
