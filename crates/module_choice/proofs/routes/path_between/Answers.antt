use Rattle.std.proofs.Common.{◌∙◌, Err, ap}
use Rattle.module_choice.proofs.routes.path_between.Goals as goal

pub unreachable-requires : goal.unreachable-requires
unreachable-requires c = c.requires.joined (c.path.ensures.apart.0 (c.in-Err-Apart.is ∙ ap Err c.in-Err-Apart.field-0-is))
