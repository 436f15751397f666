use Rattle.std.proofs.Common.{◌≡◌, ◌++◌, refl}
use Rattle.outside_io.specs.declared.status.Status.TheVariants.{ReadFault}
use Rattle.people_files.proofs.Causing.{told_so}
use Rattle.people_files.proofs.refusal.unread.Goals as goal

pub returns : goal.returns
returns c =
    let text = c.args.name.now ++ c.args.why.now in
    told_so ReadFault (λ m. m ≡ text) (λ s message. (s ≡ ReadFault) × (message ≡ text)) c.unread_text.result c.told.result c.unread_text.ensures c.told.ensures (λ m is. (refl, is))
