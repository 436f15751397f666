use Rattle.net_core.proofs.Lists.{all_written}
use Rattle.greedy_router.proofs.Along.{sends_along}
use Rattle.greedy_router.proofs.sent_flows.send.Goals as goal

pub least_spare-num-requires : goal.least_spare-num-requires
least_spare-num-requires c = record { known = rw (c.items-3.ensures, c.items-2.ensures) c.requires.known }

pub take_along-requires-clause-known : goal.take_along-requires-clause-known
take_along-requires-clause-known c = rw (c.items-4.ensures, c.items_mut.ensures.value) c.requires.known

pub take_along-requires-clause-distinct : goal.take_along-requires-clause-distinct
take_along-requires-clause-distinct c = rw c.items-4.ensures c.requires.distinct

pub take_along-requires-clause-enough : goal.take_along-requires-clause-enough
take_along-requires-clause-enough c = rw (c.items-4.ensures, c.items_mut.ensures.value) (rw (c.items-3.ensures, c.items-2.ensures) at c.least_spare-num.ensures.spare)

pub take_rest-requires-clause-known : goal.take_rest-requires-clause-known
take_rest-requires-clause-known c = rw c.items_mut-2.ensures.value c.requires.demand

pub take_rest-requires-clause-enough : goal.take_rest-requires-clause-enough
take_rest-requires-clause-enough c = rw c.items_mut-2.ensures.value (rw c.items.ensures at c.least_spare-num.ensures.most)

pub returns : goal.returns
returns c =
    let draft = c.args.draft.now in
    let rest = c.take_rest.new.rest in
    let spares = c.take_along.new.spares in
    let rests = rw c.items_mut-2.ensures.value at c.take_rest.ensures.count in
    let links = rw c.items_mut.ensures.value at c.take_along.ensures.count in
    rw (all_written draft.rest rest rests, all_written draft.spares spares links)
    (sends_along c.args.demand c.args.path c.least_spare-num.result draft c.push.new.self rest spares c.requires.missing c.requires.open
    (rw (c.items.ensures, c.items-2.ensures, c.items-3.ensures) at c.least_spare-num.ensures.reached) c.in_ok-push.ensures.ok rests
    (rw c.items_mut-2.ensures.value at c.take_rest.ensures.taken) links
    (rw (c.items-4.ensures, c.items_mut.ensures.value) at c.take_along.ensures.taken))
