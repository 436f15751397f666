-- what the program of a box leaves: an amount of each module of several counts, and a certificate
use Rattle.std.specs.Prelude.{◌≡◌, ◌≢◌, ℕ, ◌+◌, ◌<◌, ◌≤◌, ◌^◌, ◌⊎◌, List, All, AllPairs, Contains, length, min}
use Rattle.plan_terms.specs.Terms.{Link}
use Rattle.master_bound.specs.declared.answer.Multiplier.{Multiplier}
use Rattle.tree_check.{specs.Terms.{module_number, IsFixedSpan, IsInSpan, span_at}, specs.declared.boxes.Span.Span, specs.declared.proof.BoxCert.BoxCert}
use Rattle.box_program.{specs.declared.solution.Amount.Amount, specs.declared.solution.Solution.Solution}

-- module m of link e of the network has several counts in the box, or none
pub record IsFree (links : List Link) (box : List (List Span)) (e m : ℕ) : Type 0 where
  pub link : e < length links
  pub inside : m < module_number links e
  pub unfixed : IsFixedSpan (span_at box e m) → ⊥

-- an amount rounded up
abbrev pub rounded_up : Amount → ℕ
rounded_up a = a.whole + min a.part 1

-- an amount is in a span, if any count is: rounded down and rounded up it is one of the span's counts
abbrev pub LiesIn : Span → Amount → Type 0
LiesIn s a = (n : ℕ) → IsInSpan s n → IsInSpan s a.whole × IsInSpan s (rounded_up a)

-- an amount over a denominator of a module of several counts
pub record IsAmountOf (links : List Link) (box : List (List Span)) (den : ℕ) (a : Amount) : Type 0 where
  pub free : IsFree links box a.link a.module
  pub part : a.part < den
  pub lies : LiesIn (span_at box a.link a.module) a

-- two amounts are of different modules
abbrev pub AreOfDifferentModules : Amount → Amount → Type 0
AreOfDifferentModules a b = (a.link ≢ b.link) ⊎ (a.module ≢ b.module)

-- an amount of module m of link e is among them
abbrev pub HasAmount : List Amount → ℕ → ℕ → Type 0
HasAmount amounts e m = (a : Amount) × Contains amounts a × (a.link ≡ e) × (a.module ≡ m)

-- a multiplier of one of n lines, not 0 and below 2^62
pub record IsMultiplierOf (n : ℕ) (m : Multiplier) : Type 0 where
  pub line : m.cut < n
  pub some : 0 < m.num
  pub narrow : m.num < 2 ^ 62

-- a multiplier of a line from an index on
abbrev pub IsFrom : ℕ → Multiplier → Type 0
IsFrom first m = first ≤ m.cut

-- numerators of some of n lines over a denominator
pub record IsCertificateOf (n : ℕ) (cert : BoxCert) : Type 0 where
  pub den : 0 < cert.den
  pub lines : All (IsMultiplierOf n) cert.lines

-- What the program of a box with n lines leaves: one amount of each module of several counts, and a certificate of some of the lines.
pub record IsSolutionOf (links : List Link) (n : ℕ) (box : List (List Span)) (s : Solution) : Type 0 where
  pub den : 0 < s.den
  pub each : All (IsAmountOf links box s.den) s.amounts
  pub once : AllPairs AreOfDifferentModules s.amounts
  pub all : (e m : ℕ) → IsFree links box e m → HasAmount s.amounts e m
  pub certificate : IsCertificateOf n s.cert
