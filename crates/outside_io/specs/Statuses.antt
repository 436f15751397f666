-- the statuses with which the program ends
use Rattle.std.specs.Prelude.{ℕ}
use Rattle.outside_io.{specs.declared.status.Status.Status, specs.declared.status.Status.TheVariants.{Done, BadWords, NoFile, ReadFault, WriteFault, BadNetwork, BadModel, BadFailures, BadScript, NotSurvivable, Rejected, TooLong, BadReport, NoMemory, BadFlows, BadImport}}

-- the number of each status, with which the program ends
abbrev pub status_number : Status → ℕ
status_number Done = 0
status_number BadWords = 2
status_number NoFile = 3
status_number ReadFault = 4
status_number WriteFault = 5
status_number BadNetwork = 6
status_number BadModel = 7
status_number BadFailures = 8
status_number BadScript = 9
status_number NotSurvivable = 10
status_number Rejected = 11
status_number TooLong = 12
status_number BadReport = 13
status_number NoMemory = 14
status_number BadFlows = 15
status_number BadImport = 16
