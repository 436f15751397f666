use Rattle.std.proofs.Common.{◌≡◌, drop}
use Rattle.outside_io.{specs.Outside.content, specs.Held.files_of}
use Rattle.outside_io.proofs.memory.find.Given as goal

-- the content of the name is that in the files from here on
abbrev pub invariant-loop-file : goal.invariant-loop-file
invariant-loop-file l = content (files_of (drop l.file-index l.files)) l.name ≡ content (files_of l.files) l.name
