use Rattle.std.{proofs.Common.{◌≡◌, ◌+◌, ⊎_elim, List, [], ◌++◌, ap, length, map, arith, reverse, subst, sym, ◌∙◌}, proofs.lemmas.List.{append-nil, reverse-reverse}}
use Rattle.cut_pool.specs.Terms.{cut_of_line}
use Rattle.separator.{specs.Separators.{AreStateAnswers, AreViolatedStates, cuts_answered}, specs.declared.answers.StateAnswer.StateAnswer}
use Rattle.plan_rounds.{specs.inner.Answered.AreSorted, specs.declared.sorted_answers.Answered.Answered, proofs.Answering.{AreAnswersFrom, AreSomeSorted, answers_all, found_more, answers_rest, answers_some, some_are_sorted, some_begun, some_further, sorted_more, sorted_none}, proofs.Multiplying.{last_first, none_left}}
use Rattle.plan_rounds.proofs.sorted_answers.put_answers.Goals as goal

pub loop-next-init : goal.loop-next-init
loop-next-init c =
    let same : reverse c.reverse.new.self.items ≡ c.args.answers = ap reverse c.reverse.ensures.items ∙ (reverse-reverse _ ∙ c.into_vec-left.ensures) in (
      λ p caps history are. (0, subst (AreAnswersFrom p caps history 0) (sym same) (answers_all p caps history c.args.answers are), subst (AreSorted p caps history 0) (sym c.requires) (sorted_none p caps history)),
      ap (λ (a : Answered). map cut_of_line a.found.lines ++ cuts_answered (reverse c.reverse.new.self.items)) c.requires ∙ ap cuts_answered same,
      λ p caps history are. some_begun p caps history c.args.answers (reverse c.reverse.new.self.items) c.args.answered.now same c.requires are,
    )

pub loop-next-preserved : goal.loop-next-preserved
loop-next-preserved c = (
  λ p caps history are.
      let so_far = c.loop-next.invariant.0 p caps history are in
      let n = so_far.0 in
      let a = c.in-Some.next in
      let rest = reverse c.pop.new.self.items in
      let first = last_first c.loop-next.left.items c.pop.new.self.items a c.in-Some.ensures.items in
      let here = subst (AreAnswersFrom p caps history n) first so_far.1 in
      let parts = answers_rest p caps history n a rest here in
      (n + 1, parts.1, sorted_more p caps history n a.answer c.loop-next.answered c.put_answer.new.answered (answers_some p caps history n a rest here) so_far.2 parts.0 c.in_ok-put_answer.ensures.short c.in_ok-put_answer.ensures.puts),
  found_more c.in-Some.next (reverse c.pop.new.self.items) c.loop-next.answered c.put_answer.new.answered c.in_ok-put_answer.ensures.puts
      ∙ (ap (λ (xs : List StateAnswer). map cut_of_line c.loop-next.answered.found.lines ++ cuts_answered xs) (sym (last_first c.loop-next.left.items c.pop.new.self.items c.in-Some.next c.in-Some.ensures.items)) ∙ c.loop-next.invariant.1),
  λ p caps history are.
      let a = c.in-Some.next in
      let rest = reverse c.pop.new.self.items in
      let first = last_first c.loop-next.left.items c.pop.new.self.items a c.in-Some.ensures.items in
      some_further p caps history a rest c.loop-next.answered c.put_answer.new.answered
      (subst (λ (xs : List StateAnswer). AreSomeSorted p caps history xs c.loop-next.answered) first (c.loop-next.invariant.2 p caps history are)) c.in_ok-put_answer.ensures.short c.in_ok-put_answer.ensures.puts,
)

pub returns-clause-found : goal.returns-clause-found
returns-clause-found c =
    let none : c.loop-next.left.items ≡ [] = none_left c.loop-next.left.items (omega (arith, c.in_default.ensures.cases)) in
    sym (append-nil (map cut_of_line c.loop-next.answered.found.lines))
    ∙ (ap (λ (xs : List StateAnswer). map cut_of_line c.loop-next.answered.found.lines ++ cuts_answered (reverse xs)) (sym none) ∙ c.loop-next.invariant.1)

pub returns-clause-sorted : goal.returns-clause-sorted
returns-clause-sorted c p caps history are =
    let none : c.loop-next.left.items ≡ [] = none_left c.loop-next.left.items (omega (arith, c.in_default.ensures.cases)) in
    let found : map cut_of_line c.loop-next.answered.found.lines ≡ cuts_answered c.args.answers =
    sym (append-nil (map cut_of_line c.loop-next.answered.found.lines))
    ∙ (ap (λ (xs : List StateAnswer). map cut_of_line c.loop-next.answered.found.lines ++ cuts_answered (reverse xs)) (sym none) ∙ c.loop-next.invariant.1) in
    ⊎_elim
    (λ (all_are : AreStateAnswers p caps history c.args.answers).
    let so_far = c.loop-next.invariant.0 p caps history all_are in
    let all : so_far.0 ≡ length p.listed + 1 = omega (arith, so_far.1.count, ap (λ (xs : List StateAnswer). length (reverse xs)) none) in
    subst (λ n. AreSorted p caps history n c.loop-next.answered) all so_far.2)
    (λ (cuts : AreViolatedStates p caps history c.args.answers).
    some_are_sorted p caps history c.args.answers (reverse c.loop-next.left.items) c.loop-next.answered cuts (c.loop-next.invariant.2 p caps history cuts) found)
    are
