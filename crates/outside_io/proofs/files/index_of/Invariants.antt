use Rattle.std.proofs.Common.{◌≡◌, drop}
use Rattle.outside_io.specs.Files.{file_of, files_of}
use Rattle.outside_io.proofs.files.index_of.Given as goal

-- the files passed so far have other names
abbrev pub invariant-loop-file : goal.invariant-loop-file
invariant-loop-file l = file_of (files_of l.files) l.name ≡ file_of (files_of (drop l.file l.files)) l.name
