-- the command that words ask for
use Rattle.people_files.specs.CaseInputs.{named_case}
use Rattle.people_words.{specs.declared.words.FormWords.FormWords, specs.declared.words.FormWords.TheVariants.{Picture, Tables, Values, State}, specs.declared.words.PeopleWords.PeopleWords, specs.declared.words.PeopleWords.TheVariants.{Help, HelpOn, Version, Failures, View, Plan}, specs.declared.words.PlanRequest.PlanRequest}
use Rattle.people_words.specs.PeopleCommands as commands

-- the plan that is asked for
abbrev pub asked_plan : PlanRequest → commands.AskedPlan
asked_plan plan = record { case = named_case plan.case; splits = plan.splits; report = plan.report; quiet = plan.quiet }

-- the form that is asked for
abbrev pub asked_form : FormWords → commands.AskedForm
asked_form Tables = commands.Tables
asked_form (Values sheet) = commands.Values sheet
asked_form (State name) = commands.State name.now
asked_form (Picture name) = commands.Picture name.now

-- the command that is asked for
abbrev pub people_command : PeopleWords → commands.PeopleCommand
people_command Help = commands.Help
people_command (HelpOn topic) = commands.HelpOn topic
people_command Version = commands.Version
people_command (Failures network) = commands.Failures network.now
people_command (View view) = commands.View (named_case view.case) view.report.now (asked_form view.form)
people_command (Plan plan) = commands.Plan (asked_plan plan)
