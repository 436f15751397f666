use Rattle.std.proofs.Common.{◌≡◌, ◌≤◌, ◌+◌, length, take}
use Rattle.net_core.proofs.Library.{suffix_len}
use Rattle.snd_tokens.specs.Header.{is_blank}
use Rattle.snd_tokens.proofs.header.trimmed.Given as goal

-- from this place on there are blanks alone
abbrev pub invariant-loop-end : goal.invariant-loop-end
invariant-loop-end l = (l.end ≤ length l.line) × (l.end + suffix_len is_blank l.line ≡ length l.line + suffix_len is_blank (take l.end l.line))

abbrev pub decreases-loop-end : goal.decreases-loop-end
decreases-loop-end l = l.end
