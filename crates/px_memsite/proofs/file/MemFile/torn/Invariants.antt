use Rattle.std.proofs.Common.{◌≡◌, ℕ, ◌+◌, ◌-◌, ◌<◌, ◌≤◌, length, get_or}
use Rattle.px_memsite.specs.Crash.{touched_below, torn_byte}
use Rattle.px_memsite.specs.Files.{state_of}
use Rattle.px_memsite.proofs.file.MemFile.torn.Given as goal

abbrev pub invariant-loop-at : goal.invariant-loop-at
invariant-loop-at l =
    let file = state_of l.self in
    record {
      size : length l.bytes.items ≡ l.at;
      fits : l.at ≤ length file.synced + (l.fn.left - touched_below file (length file.synced));
      left : l.left ≡ l.fn.left - touched_below file l.at;
      each : (at : ℕ) → at < l.at → get_or l.bytes.items at 0 ≡ torn_byte l.fn.left file at;
    }
