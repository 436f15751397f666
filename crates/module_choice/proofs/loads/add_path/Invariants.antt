use Rattle.std.proofs.Common.{◌≡◌, ℕ, ◌+◌, ◌*◌, ◌<◌, get_or, length, take}
use Rattle.module_choice.specs.inner.Routes.{times}
use Rattle.module_choice.proofs.loads.add_path.Given as goal

-- the links so far have been counted
abbrev pub invariant-loop-x : goal.invariant-loop-x
invariant-loop-x l = (e : ℕ) → e < length l.loads → get_or l.loads e 0 ≡ get_or l.initial.loads e 0 + l.by * times e (take l.x-index l.path)
