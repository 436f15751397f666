-- cuts that a bound may rest on, and bounds that a certificate of the case gives
use Rattle.std.proofs.Common.{◌≡◌, ◌^◌, ◌<◌, List, [], All}
use Rattle.plan_terms.specs.Terms.{Entry, CutLine, Case, IsBound, IsLowest, IsCertificate, IsCut, raw_value}
use Rattle.plan_types.specs.Terms.{lines_of_certificate}
use Rattle.plan_report.specs.Terms.{IsCertificateInForm}
use Rattle.cut_pool.specs.Terms.{cut_of_line}
use Rattle.plan_rounds.{specs.Terms.{IsSpotIn, StandAtSpots}, specs.declared.rounds.Worked.Worked}
use Rattle.planner.{specs.SoundPlans.IsLowestCertificate, specs.declared.own_bound.CertifiedBound.CertifiedBound}

-- a cut of the case, with a right side below 2^84
pub record IsCandidate (p : Case) (cut : CutLine) : Type 0 where
  pub cut_is : IsCut p cut
  pub low : cut.right < 2 ^ 84

-- the rounds' cuts are cuts of the case, each with its spot in the history
pub record AreCandidates (p : Case) (history : List Entry) (w : Worked) : Type 0 where
  pub cuts : All (IsCandidate p) w.lines
  pub stand : StandAtSpots history w.lines w.spots

-- a certificate of the case, its raw value and its bound, in form and in lowest terms, of cuts that have spots in the history
pub record IsCertifiedBound (p : Case) (history : List Entry) (b : CertifiedBound) : Type 0 where
  pub certificate : IsCertificate p b.certificate.den (lines_of_certificate b.certificate)
  pub raw : IsLowest (raw_value p.links (lines_of_certificate b.certificate)) b.certificate.den b.raw.num b.raw.den
  pub rounded : IsBound p.links (raw_value p.links (lines_of_certificate b.certificate)) b.certificate.den b.bound
  pub lowest : IsLowestCertificate b.certificate
  pub none : b.raw.num ≡ 0 → b.certificate.lines ≡ []
  pub form : IsCertificateInForm p.links p.listed b.certificate
  pub raw_num : b.raw.num < 2 ^ 126
  pub raw_den : b.raw.den < 2 ^ 72
  pub spots : All (λ l. IsSpotIn history (cut_of_line l.cut) l.spot) b.certificate.lines
