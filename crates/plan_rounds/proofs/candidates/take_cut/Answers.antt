use Rattle.net_core.proofs.Library.{∥∥₁_elim, ∥∥₁_map, props}
use Rattle.plan_terms.specs.Terms.{case_of}
use Rattle.plan_rounds.{proofs.Listing.{listed_later, listed_take, takes_put}, proofs.OwnPool.opening_taken, proofs.Results.on_ok, proofs.Seeing.goes_none}
use Rattle.plan_rounds.proofs.candidates.take_cut.Goals as goal

pub returns-in_err-line-clause-on : goal.returns-in_err-line-clause-on
returns-in_err-line-clause-on g c = goes_none _ _

pub returns-clause-listed : goal.returns-clause-listed
returns-clause-listed g c =
    let p = case_of c.args.instance.now in
    let before = c.args.separator.now in
    let now = c.admit.new.self in
    let admitted = c.in_ok-spot.ensures in
    let old = c.args.candidates.now in
    on_ok c.put_line.result _ _
    (λ puts. ∥∥₁_elim c.requires.planning.listed (hlevel props) (λ are.
    ∥∥₁_map (g.met.S.Separate.seen now) (λ seen.
    listed_take p (g.S.Separate.seen_of now).history c.args.cut c.in_ok-line.line c.in_ok-spot.spot old c.put_line.new.candidates c.requires.cut c.in_ok-line.ensures admitted.spot
    (listed_later p (g.S.Separate.frame now).network (g.S.Separate.frame now).states (g.S.Separate.seen_of before) (g.S.Separate.seen_of now) old admitted.more seen are) puts)))
    c.put_line.ensures

pub returns-clause-taken : goal.returns-clause-taken
returns-clause-taken g c =
    on_ok c.put_line.result _ _
    (λ puts. takes_put c.args.instance.now.demands.now c.args.cut c.in_ok-line.line c.in_ok-spot.spot c.args.candidates.now c.put_line.new.candidates c.in_ok-line.ensures puts)
    c.put_line.ensures

pub returns-clause-alone : goal.returns-clause-alone
returns-clause-alone g c =
    let before = c.args.separator.now in
    let now = c.admit.new.self in
    on_ok c.put_line.result _ _
    (λ puts. ∥∥₁_elim (g.met.S.Separate.seen before) (hlevel props) (λ seen_before. ∥∥₁_map (g.met.S.Separate.seen now) (λ seen.
    opening_taken (g.S.Separate.frame now).network (g.S.Separate.frame now).states (g.S.Separate.seen_of before) (g.S.Separate.seen_of now) c.args.cut c.args.instance.now.demands.now c.in_ok-line.line c.in_ok-spot.spot c.args.candidates.now c.put_line.new.candidates
    seen_before.own_among c.in_ok-spot.ensures.more seen c.in_ok-spot.ensures.only c.in_ok-spot.ensures.spot c.in_ok-line.ensures puts)))
    c.put_line.ensures
