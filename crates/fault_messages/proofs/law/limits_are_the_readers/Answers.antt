use Rattle.std.proofs.Common.{refl}
use Rattle.snd_tokens.specs.Terms.{amount_of, money_of, whole_of}
use Rattle.model_reader.specs.FailuresReading.{state_at}
use Rattle.fault_messages.specs.Limits.{AreFailureLimits, AreNetworkLimits, AreReportLimits}
use Rattle.fault_messages.proofs.law.limits_are_the_readers.Goals as goal

network_limits : AreNetworkLimits
unfolding amount_of
network_limits = record {
  nodes = λ sofar w. refl;
  links = λ sofar w. refl;
  demands = λ sofar w. refl;
  paths = λ w. refl;
  modules = λ sofar n. refl;
  needs = λ total units each. refl;
  amounts = λ p w. refl;
}

failure_limits : AreFailureLimits
unfolding state_at
failure_limits = record { failures = λ links sofar. (_, refl) }

report_limits : AreReportLimits
unfolding amount_of money_of whole_of
report_limits = record {
  names = λ w. refl;
  unknown = λ w. refl;
  demands = λ sofar w. refl;
  needs = λ p w. refl;
  money = λ p w. refl;
  numbers = λ w. refl;
}

pub returns-clause-network : goal.returns-clause-network
returns-clause-network c = network_limits

pub returns-clause-failures : goal.returns-clause-failures
returns-clause-failures c = failure_limits

pub returns-clause-report : goal.returns-clause-report
returns-clause-report c = report_limits
