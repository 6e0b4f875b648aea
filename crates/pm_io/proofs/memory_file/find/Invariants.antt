use Rattle.std.proofs.Common.{◌≡◌, drop}
use Rattle.std.specs.Map.{lookup}
use Rattle.std.specs.Str.{bytes_eq}
use Rattle.pm_io.specs.MemoryFiles.{listed_of}
use Rattle.pm_io.proofs.memory_file.find.Given as goal

-- no file so far has the name
abbrev pub invariant-loop-file : goal.invariant-loop-file
invariant-loop-file l = lookup (bytes_eq l.name) (listed_of (drop l.file-index l.files)) ≡ lookup (bytes_eq l.name) (listed_of l.files)
