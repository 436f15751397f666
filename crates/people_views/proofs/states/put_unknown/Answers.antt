use Rattle.std.proofs.Common.{codes}
use Rattle.text_kit.proofs.Lemmas.{on_ok}
use Rattle.people_views.{specs.StateForms.state_hint, proofs.Joined.three_joined}
use Rattle.people_views.proofs.states.put_unknown.Goals as goal

pub returns : goal.returns
returns c =
    let h = c.in_ok-put_quote.ensures in
    on_ok c.append-2.result (λ q. (
      h.0,
      h.1,
      three_joined c.args.text.now (codes "no state has the name ") h.0 state_hint
          c.append.new.self c.put_quote.new.text c.append-2.new.self c.in_ok-append.ensures.ok h.2 q,
    )) c.append-2.ensures.ok
