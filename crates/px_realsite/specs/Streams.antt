-- The numbers by which the system knows open files.
use Rattle.std.specs.Prelude.{◌<ℤ◌}
use Rattle.std.specs.Fd.{file_raw_fd}
use Rattle.std.specs.declared.fs.File.{File}
use Rattle.px_realsite.specs.declared.system.streams.TheConstants.{LAST_STREAM}

-- the number of the file is that of no standard stream
abbrev pub IsNoStream : File → Type 0
IsNoStream file = LAST_STREAM <ℤ file_raw_fd file
