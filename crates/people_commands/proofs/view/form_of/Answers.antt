use Rattle.std.proofs.Common.{subst, sym, MatchResult}
use Rattle.plan_view.specs.Terms.{problem_case}
use Rattle.people_views.specs.Terms.{IsFormOf}
use Rattle.people_files.specs.Endings.{Halts}
use Rattle.people_words.specs.AskedCommands.{asked_form}
use Rattle.people_commands.{specs.Endings.{AsksForm, LacksForm}, proofs.Viewing.{form_named, form_pictured}}
use Rattle.people_commands.proofs.view.form_of.Goals as goal

pub returns-in-State : goal.returns-in-State
returns-in-State c =
    let p = problem_case c.args.problem.now in
    subst (λ w. MatchResult c.state_form.result (λ form. AsksForm p (asked_form w) form × IsFormOf p form) (Halts (LacksForm p (asked_form w))))
    (sym c.in-State.is)
    (form_named p c.in-State.name.now c.state_form.result c.state_form.ensures.named c.state_form.ensures.form)

pub returns-in-Picture : goal.returns-in-Picture
returns-in-Picture c =
    let p = problem_case c.args.problem.now in
    subst (λ w. MatchResult c.picture_form.result (λ form. AsksForm p (asked_form w) form × IsFormOf p form) (Halts (LacksForm p (asked_form w))))
    (sym c.in-Picture.is)
    (form_pictured p c.in-Picture.name.now c.picture_form.result c.picture_form.ensures.named c.picture_form.ensures.form)
