use Rattle.std.proofs.Common.{◌≡◌, [], take, sum_by}
use Rattle.std.specs.Bool.{MatchBool}
use Rattle.px_site.specs.declared.name.FileName.{FileName}
use Rattle.px_memsite.specs.Crash.{touched_count, touched_before, has_name, kept_behind, IsKept, IsAtRest}
use Rattle.px_memsite.specs.Events.{reached}
use Rattle.px_memsite.specs.Files.{states_in, names_of}
use Rattle.px_memsite.proofs.crash.left.Given as goal

abbrev pub invariant-loop-file : goal.invariant-loop-file
invariant-loop-file l =
    let files = states_in l.files in
    let names = names_of l.files in
    let s = reached l.left.history.items in
    record {
      rest : l.rest ≡ kept_behind (sum_by (λ name. touched_count (files name)) (take l.file-index names)) l.fn.keep;
      fresh : IsAtRest s;
      done : (name : FileName) → MatchBool (has_name (take l.file-index names) name) (IsKept (kept_behind (touched_before files names name) l.fn.keep) (files name) (s.content name)) (s.content name ≡ []);
    }
