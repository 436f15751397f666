-- what is known of a refused file besides, by the kind of its first fault
use Rattle.std.specs.Prelude.{◌≡◌, ◌≢◌, ℕ, List, [], map}
use Rattle.net_core.{specs.Terms.Case, specs.declared.network.Link.Link}
use Rattle.sndlib_reader.specs.declared.fault.ReadKind.{ReadKind}
use Rattle.model_reader.{specs.Terms.{all_keys, key_word}, specs.declared.failures.FailuresKind.FailuresKind, specs.declared.model.ModelKind.ModelKind}
use Rattle.report_words.specs.declared.fault.ReportKind.{ReportKind}
use Rattle.fault_messages.{specs.ForeignReports.{IsForeignNote, IsReportHeaderNote}, specs.Headers.IsHeaderNote, specs.NearNames.{IsNearNote, IsWordNote}, specs.declared.header.FileFormat.TheVariants.{Failures, Model, Network}}
use Rattle.sndlib_reader.specs.declared.fault.ReadKind.TheVariants as networks
use Rattle.model_reader.specs.declared.failures.FailuresKind.TheVariants as failures
use Rattle.model_reader.specs.declared.model.ModelKind.TheVariants as models
use Rattle.report_words.specs.declared.fault.ReportKind.TheVariants as reports

-- What is known by the kind of the first fault: of one kind, such a note on the header; of another, such a note on a word; and else nothing.
pub record AreNotesByKind {K : Type 0} (other_header unknown_word : K) (OnHeader OnWord : List ℕ → Type 0) (kind : K) (notes : List ℕ) : Type 0 where
  pub header : kind ≡ other_header → OnHeader notes
  pub word : kind ≡ unknown_word → OnWord notes
  pub none : kind ≢ other_header → kind ≢ unknown_word → notes ≡ []

-- of a network with another header, what the file seems to be; of a name that nothing has, a near word before it
abbrev pub AreNetworkNotes : List ℕ → ℕ → ReadKind → List ℕ → Type 0
AreNetworkNotes bytes at = AreNotesByKind networks.Header networks.UnknownName (IsHeaderNote Network bytes) (IsNearNote bytes at)

-- of a model with another header, what the file seems to be; of a word that is no key, a near key
abbrev pub AreModelNotes : List ℕ → ℕ → ModelKind → List ℕ → Type 0
AreModelNotes bytes at = AreNotesByKind models.Header models.Key (IsHeaderNote Model bytes) (IsWordNote (map key_word all_keys) bytes at)

-- of a failure list with another header, what the file seems to be; of a name that no link has, a near link of these
abbrev pub AreFailuresNotes : List Link → List ℕ → ℕ → FailuresKind → List ℕ → Type 0
AreFailuresNotes links bytes at =
    AreNotesByKind failures.Header failures.UnknownLink (IsHeaderNote Failures bytes) (IsWordNote (map (λ l. l.name) links) bytes at)

-- of a report with another header, that it is of another network, or what the file seems to be; of a name that nothing in the case has, that
-- the report is of another one
abbrev pub AreReportNotes : Case → List ℕ → ℕ → ReportKind → List ℕ → Type 0
AreReportNotes p bytes at = AreNotesByKind reports.Header reports.UnknownName (IsReportHeaderNote p.places bytes) (IsForeignNote p bytes at)
