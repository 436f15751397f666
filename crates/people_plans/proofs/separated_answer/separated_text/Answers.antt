use Rattle.std.proofs.Common.{◌≡◌, ◌∙◌, ℕ, List, [], ◌∷◌, ◌++◌, ap, codes, decimal, sym}
use Rattle.plan_terms.specs.Terms.{case_of}
use Rattle.plan_report.specs.Terms.{state_name}
use Rattle.failure_states.specs.declared.separations.Separation.{Separation}
use Rattle.failure_texts.specs.AllSeparations.{separation_lines}
use Rattle.people_plans.specs.PlansForPeople.{separated_words}
use Rattle.people_plans.proofs.separated_answer.separated_text.Goals as goal

pub returns : goal.returns
returns c =
    let p = case_of c.args.instance.now in
    let s = c.args.state.0 in
    let line : List ℕ = codes "not survivable: state " ++ decimal s ++ 32 ∷ state_name p.listed s ++ codes " demand " ++ c.args.demand.now ++ 10 ∷ [] in
    let words = separated_words c.args.network.now in
    let begun : c.put_words.new.text ≡ words = c.in_ok-put_words.ensures ∙ ap (λ (t : List ℕ). t ++ words) c.new-text.ensures in
    let lines : c.put_separations.new.text ≡ words ++ separation_lines p c.in_ok-found.found =
    c.in_ok-put_separations.ensures ∙ (ap (λ (t : List ℕ). t ++ separation_lines p c.items.result.now) begun
    ∙ ap (λ (fs : List Separation). words ++ separation_lines p fs) c.items.ensures) in
    record {
      found = c.in_ok-found.found;
      are_all = c.in_ok-found.ensures;
      line = line;
      names_first = record {
        state = s;
        place = c.requires.place;
        first = c.requires.first;
        printed =
            ap (λ (name : List ℕ). codes "not survivable: state " ++ decimal s ++ 32 ∷ state_name p.listed s ++ codes " demand " ++ name ++ 10 ∷ [])
            (sym c.requires.named);
      };
      printed = c.in_ok-put_line.ensures ∙ ap (λ (t : List ℕ). t ++ line) lines;
    }
