use Rattle.std.proofs.Common.{◌∙◌, ap}
use Rattle.snd_tokens.{specs.Tokens.tokens_from, proofs.Scan.tokens_from-end}
use Rattle.snd_tokens.proofs.token.next_token.Goals as goal

pub returns-then-at-bytes-clause-first : goal.returns-then-at-bytes-clause-first
returns-then-at-bytes-clause-first c =
    let bytes = c.args.bytes.now in
    c.token_start-at.ensures.same ∙ ap (λ p. tokens_from p bytes) c.if-at-bytes.true ∙ tokens_from-end bytes
