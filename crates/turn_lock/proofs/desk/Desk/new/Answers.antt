use Rattle.std.proofs.Common.{◌++◌, ◌∷◌, [], Some, ap, sym, ◌∙◌}
use Rattle.turn_lock.proofs.Turns.{opens}
use Rattle.turn_lock.proofs.desk.Desk.new.Goals as goal

pub new-requires : goal.new-requires
new-requires g c = opens g.T.Chronicle.history g.T.Chronicle.origin _ c.args.value c.push.new.self.items (c.in_default.ensures.items ∙ ap (λ xs. xs ++ Some c.args.value ∷ []) c.new-slots.ensures.items) c.requires (ap g.T.Chronicle.origin (sym c.of-opening.ensures))
