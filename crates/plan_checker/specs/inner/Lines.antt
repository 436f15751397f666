-- lines of a certificate as its terms see them
use Rattle.std.specs.Prelude.{List, map}
use Rattle.plan_terms.specs.Terms.{CertificateLine}
use Rattle.plan_types.specs.declared.certificate.CertLine.{CertLine}

-- the cuts and numerators of lines
abbrev pub certified : List CertLine → List CertificateLine
certified lines = map (λ l. record { cut = l.cut; num = l.num }) lines
