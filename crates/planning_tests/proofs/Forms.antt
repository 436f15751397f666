-- Reports of sessions are in form.
use Rattle.std.proofs.Common.{List}
use Rattle.plan_terms.specs.Terms.{Demand, Network, Notes, States}
use Rattle.net_core.specs.Terms.{case}
use Rattle.plan_report.specs.Terms.{IsReportInForm, known_of, Report}
use Rattle.session_script.specs.declared.script.Command.{Command}
use Rattle.session_run.specs.Transcripts.{IsTranscript}

-- a transcript is a report that names what the network and the states have
pub in_form : (net : Network) (states : States) (opening : List Demand) (notes : Notes) (commands : List Command) (report : Report)
    → IsTranscript (case net states opening) notes commands report → IsReportInForm (known_of net states) report
in_form net states opening notes commands report transcript = transcript.form
