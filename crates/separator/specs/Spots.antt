-- the spot of a cut after a board's answer to it
use Rattle.std.{specs.Prelude.{◌≡◌, OnOk, Ok}, specs.declared.result.Result.Result}
use Rattle.plan_terms.specs.Terms.{NoMemory}
use Rattle.plan_types.{specs.declared.certificate.Spot.Spot, specs.declared.certificate.Spot.TheVariants.{Pool, Local}}
use Rattle.cut_pool.specs.declared.answers.AdmitAnswer.{AdmitAnswer}
use Rattle.cut_pool.specs.declared.answers.AdmitAnswer.TheVariants as admitting

-- at an index of the pool, or nowhere; no spot where memory ran out
abbrev pub IsSpotAfter : AdmitAnswer → Result Spot NoMemory → Type 0
IsSpotAfter (admitting.Admitted index position) found = found ≡ Ok (Pool index)
IsSpotAfter (admitting.Known index back) found = found ≡ Ok (Pool index)
IsSpotAfter (admitting.PoolFull back) found = found ≡ Ok Local
IsSpotAfter (admitting.Full back) found = found ≡ Ok Local
IsSpotAfter (admitting.NoMemory back) found = OnOk found ⊥
