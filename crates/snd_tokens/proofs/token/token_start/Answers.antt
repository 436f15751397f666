use Rattle.std.proofs.Common.{arith, ◌∙◌, ap, sym}
use Rattle.snd_tokens.{specs.Tokens.tokens_from, proofs.Scan.{tokens_from-comment, tokens_from-space}}
use Rattle.snd_tokens.proofs.token.token_start.Goals as goal

pub loop-at-preserved-then-first-eq35 : goal.loop-at-preserved-then-first-eq35
loop-at-preserved-then-first-eq35 c =
    let bytes = c.args.bytes.now in
    let at = c.loop-at.at in
    record {
      after = omega arith;
      within = c.find_byte-at.ensures.within;
      same = c.loop-at.invariant.same ∙ tokens_from-comment at bytes c.loop-at-test.true c.if-first-eq35.true
          ∙ ap (λ p. tokens_from p bytes) (sym c.find_byte-at.ensures.value);
    }

pub loop-at-preserved : goal.loop-at-preserved
loop-at-preserved c =
    record {
      after = omega arith;
      within = omega arith;
      same = c.loop-at.invariant.same ∙ tokens_from-space c.loop-at.at c.args.bytes.now c.loop-at-test.true (sym c.is_space.ensures ∙ c.if-is_space.true);
    }
