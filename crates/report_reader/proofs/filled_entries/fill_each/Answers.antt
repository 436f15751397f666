use Rattle.std.{proofs.Common.{◌≡◌, ◌∙◌, ◌≤◌, ◌<◌, length, get_or, sym, ap, arith}, proofs.Math.Seq.map-set_same, proofs.lemmas.List.Elements.{All-from_all_within, AllWithin-more_set, AllWithin-upto}}
use Rattle.plan_terms.specs.Terms.{Entry}
use Rattle.report_reader.{specs.ReadingReport.filled, proofs.Fillings.{all_same, filled_again}}
use Rattle.report_reader.proofs.filled_entries.fill_each.Goals as goal

pub loop-k-preserved : goal.loop-k-preserved
loop-k-preserved c =
    let pool = c.args.pool.now in
    let entries = c.loop-k.entries in
    let old = get_or entries c.loop-k.k c.index-entries-k.result in
    let new = c.fill_entry.new.entry in
    let within : c.loop-k.k < length entries = omega (arith, c.loop-k-test.true, c.loop-k.auto.entries) in
    let made : new ≡ filled pool old = c.in_ok-fill_entry.ensures in
    let again : filled pool new ≡ filled pool old = ap (λ (e : Entry). filled pool e) made ∙ filled_again pool old in
    record {
      same = map-set_same (filled pool) entries c.loop-k.k new c.index-entries-k.result again ∙ c.loop-k.invariant.same;
      done = AllWithin-more_set entries c.loop-k.k new within (λ e. e ≡ filled pool e) c.loop-k.invariant.done (made ∙ sym again);
    }

pub returns : goal.returns
returns c =
    let pool = c.args.pool.now in
    let entries = c.loop-k.entries in
    let all : length entries ≤ c.loop-k.k = omega (arith, c.loop-k-test.false, c.loop-k.auto.entries) in
    let same = λ (e : Entry). e ≡ filled pool e in
    all_same pool entries (All-from_all_within same entries (AllWithin-upto same entries 0 c.loop-k.k (length entries) all c.loop-k.invariant.done)) ∙ c.loop-k.invariant.same
