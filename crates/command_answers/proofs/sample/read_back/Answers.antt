use Rattle.std.proofs.Common.{◌∙◌, Err, ap, subst, sym}
use Rattle.sndlib_reader.specs.NetworkFiles.{Spells}
use Rattle.command_answers.proofs.Sampled.{survives_same}
use Rattle.command_answers.proofs.sample.read_back.Goals as goal

pub returns-in-Ok-clause-nodes : goal.returns-in-Ok-clause-nodes
returns-in-Ok-clause-nodes c =
    let net = c.in_ok-net.net in
    let demands = c.in_ok-net.demands in
    let same = c.in-Ok.ensures.only net demands (subst (λ bytes. Spells bytes net demands) (sym c.items.ensures) c.in_ok-text.ensures.spelled) in
    sym same.0 ∙ c.in_ok-net.ensures.nodes

pub returns-in-Ok-clause-links : goal.returns-in-Ok-clause-links
returns-in-Ok-clause-links c =
    let net = c.in_ok-net.net in
    let demands = c.in_ok-net.demands in
    let same = c.in-Ok.ensures.only net demands (subst (λ bytes. Spells bytes net demands) (sym c.items.ensures) c.in_ok-text.ensures.spelled) in
    sym same.1 ∙ c.in_ok-net.ensures.links

pub returns-in-Ok-clause-notes : goal.returns-in-Ok-clause-notes
returns-in-Ok-clause-notes c =
    let net = c.in_ok-net.net in
    let demands = c.in_ok-net.demands in
    let same = c.in-Ok.ensures.only net demands (subst (λ bytes. Spells bytes net demands) (sym c.items.ensures) c.in_ok-text.ensures.spelled) in
    sym same.2 ∙ c.in_ok-net.ensures.notes

pub returns-in-Ok-clause-places : goal.returns-in-Ok-clause-places
returns-in-Ok-clause-places c =
    let net = c.in_ok-net.net in
    let demands = c.in_ok-net.demands in
    let same = c.in-Ok.ensures.only net demands (subst (λ bytes. Spells bytes net demands) (sym c.items.ensures) c.in_ok-text.ensures.spelled) in
    sym same.3 ∙ c.in_ok-net.ensures.places

pub returns-in-Ok-clause-demands : goal.returns-in-Ok-clause-demands
returns-in-Ok-clause-demands c =
    let net = c.in_ok-net.net in
    let demands = c.in_ok-net.demands in
    let same = c.in-Ok.ensures.only net demands (subst (λ bytes. Spells bytes net demands) (sym c.items.ensures) c.in_ok-text.ensures.spelled) in
    sym same.4 ∙ c.in_ok-net.ensures.demands

pub returns-in-Ok-clause-survivable : goal.returns-in-Ok-clause-survivable
returns-in-Ok-clause-survivable c =
    let net = c.in_ok-net.net in
    let demands = c.in_ok-net.demands in
    let same = c.in-Ok.ensures.only net demands (subst (λ bytes. Spells bytes net demands) (sym c.items.ensures) c.in_ok-text.ensures.spelled) in
    survives_same net.nodes c.in-Ok.read.0.nodes net.links c.in-Ok.read.0.links demands c.in-Ok.read.1 same.0 same.1 same.4 c.in_ok-net.ensures.survivable

pub unreachable-requires : goal.unreachable-requires
unreachable-requires c =
    let net = c.in_ok-net.net in
    let demands = c.in_ok-net.demands in
    (c.in-Err-Bad.ensures.refused c.in-Err-Bad.field-0-0 c.in-Err-Bad.field-0-1 (ap Err c.in-Err-Bad.field-0-is)).1 net demands
    (subst (λ bytes. Spells bytes net demands) (sym c.items.ensures) c.in_ok-text.ensures.spelled)
