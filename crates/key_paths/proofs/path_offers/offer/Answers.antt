use Rattle.std.proofs.Common.{Err, ap, refl, inr, ◌∙◌, arith}
use Rattle.plan_terms.specs.Terms.{graph_of}
use Rattle.key_paths.proofs.Carried.{adds, none_cheap}
use Rattle.key_paths.proofs.path_offers.offer.Goals as goal

pub returns-in_ok-push-in-Ok : goal.returns-in_ok-push-in-Ok
returns-in_ok-push-in-Ok c =
    let paths = c.args.paths.now in
    let p = c.in-Ok.ensures.found in
    adds (graph_of paths.paths.graph) c.args.keyed.now paths.prices c.requires.links c.requires.prices c.args.k c.in-Ok.field-0.total c.args.d.now c.in-Ok.field-0.path c.args.found.now c.push.new.self
    (omega (arith, c.if-d-eq0.false))
    p.path
    p.total
    (c.is_cheap.ensures.yes c.if-is_cheap.true)
    c.in_ok-push-in-Ok.ensures.ok

pub returns-else-is_cheap : goal.returns-else-is_cheap
returns-else-is_cheap c =
    let paths = c.args.paths.now in
    inr (
      refl,
      none_cheap (graph_of paths.paths.graph) c.args.keyed.now paths.prices c.requires.links c.requires.prices c.args.k c.in-Ok.field-0.total c.args.d.now
          c.in-Ok.ensures.found.least
          (c.is_cheap.ensures.no c.if-is_cheap.false),
    )

pub returns-in-Err-Apart : goal.returns-in-Err-Apart
returns-in-Err-Apart c = inr (refl, λ path needed leads. absurd (c.path.ensures.apart (c.in-Err-Apart.is ∙ ap Err c.in-Err-Apart.field-0-is) path leads))
