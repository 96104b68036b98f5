-- The code of each status, and the line that a run ends with.
use Rattle.std.specs.Prelude.{ℕ, List, [], ◌++◌, codes}
use Rattle.px_site.specs.declared.error.Fault.{Fault}
use Rattle.px_site.specs.declared.error.Fault.TheVariants.{Read, Write, Sync, Remove, List as Listing, Tell}
use Rattle.px_calls.specs.declared.status.Status.{Status}
use Rattle.px_calls.specs.declared.status.Status.TheVariants.{Done, Usage, BadLine, NoStore, NotEmpty, Damaged, DiskFault, SourceFault, OutputFault, OutOfMemory, LogFull, TooLong}
use Rattle.px_site.specs.Names.{file_text}
use Rattle.px_calls.specs.Texts.{line, numbered}

abbrev pub code_of : Status → ℕ
code_of Done = 0
code_of Usage = 1
code_of (BadLine k) = 2
code_of NoStore = 3
code_of NotEmpty = 4
code_of (Damaged file place) = 5
code_of (DiskFault fault) = 6
code_of SourceFault = 7
code_of OutputFault = 8
code_of OutOfMemory = 9
code_of (LogFull n) = 10
code_of TooLong = 11

abbrev pub fault_text : Fault → List ℕ
fault_text Read = codes "read"
fault_text Write = codes "write"
fault_text Sync = codes "sync"
fault_text Remove = codes "remove"
fault_text Listing = codes "list"
-- no file call answers it
fault_text Tell = codes "tell"

-- after `Done` and `OutputFault` nothing is told
unfoldable pub closing_line : Status → List ℕ
closing_line Done = []
closing_line Usage = line (codes "usage: pbxt make N S, run, dump")
closing_line (BadLine k) = line (numbered (codes "line") k ++ codes ": not a command")
closing_line NoStore = line (codes "no store")
closing_line NotEmpty = line (codes "not empty")
closing_line (Damaged file place) = line (codes "damaged " ++ file_text file ++ numbered (codes " at") place)
closing_line (DiskFault fault) = line (codes "disk fault: " ++ fault_text fault)
closing_line SourceFault = line (codes "source fault")
closing_line OutputFault = []
closing_line OutOfMemory = line (codes "out of memory")
closing_line (LogFull n) = line (numbered (codes "log full at") n)
closing_line TooLong = line (codes "too long")
