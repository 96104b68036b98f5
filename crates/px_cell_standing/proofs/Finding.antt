-- What is found in files stands there, and in files that stand for a store something is found.
use Rattle.std.proofs.Common.{◌≡◌, ℕ, ◌-◌, ◌<◌, ◌≤◌, List, drop, refl, sym, ap, subst, arith}
use Rattle.px_beginning.specs.Found.{Reading}
use Rattle.px_filed.specs.Filed.{file_places}
use Rattle.px_life.specs.Front.{commits_by}
use Rattle.px_model.specs.declared.limits.TheConstants.{STORED_NUMBERS_END}
use Rattle.px_model.specs.declared.row.Row.{Row}
use Rattle.px_opened.specs.Opened.{changes_over}
use Rattle.px_site.specs.declared.name.FileName.TheVariants.{Restart as RestartFile}
use Rattle.px_standing.specs.Files.{Files}
use Rattle.px_cell_standing.specs.Found.{Found, IsFound, IsReadIn, found_in}
use Rattle.px_cell_standing.specs.Standing.{StandsFor}
use Rattle.px_cell_standing.proofs.Next.{can_of, next_is, numbers_end}

pub read_stands : (files : Files) (read : Reading) → IsReadIn files read → StandsFor files (commits_by read.restart read.changes) read.rows
read_stands files read reads = record {
  restart = read.restart;
  changes = read.changes;
  found = read.found;
  layouts = read.layouts;
  finds = reads.finds;
  shows = reads.shows;
  commits_are = refl;
}

pub found_stands : (files : Files) (found : Found) → IsFound found files → StandsFor files found.commits found.rows
found_stands files found is = subst (λ (f : Found). StandsFor files f.commits f.rows) (sym is.is) (read_stands files is.read is.reads)

pub stands_found : (files : Files) (commits : ℕ) (rows : List Row) → StandsFor files commits rows
    → (found : Found) × IsFound found files × (found.commits ≡ commits) × (found.rows ≡ rows)
stands_found files commits rows stands =
    let next = next_is stands.restart.short stands.restart.tables
    (changes_over (file_places stands.restart.short files) (drop (stands.restart.redo - stands.restart.first) stands.changes))
    stands.restart stands.changes stands.found stands.layouts stands.finds.opens in
    let read : Reading = record {
      restart = stands.restart;
      changes = stands.changes;
      found = stands.found;
      layouts = stands.layouts;
      rows = rows;
      next = next.0;
    } in (
      found_in read,
      record { read = read; reads = record { finds = stands.finds; shows = stands.shows; number = next.1 }; is = refl },
      sym stands.commits_are,
      refl,
    )

-- the next number is at least 1, and at most the first past the stored ones
pub next_from : (files : Files) (read : Reading) → IsReadIn files read → 1 ≤ read.next
next_from files read reads =
    let marks = (can_of (files (RestartFile 0)) (files (RestartFile 1)) read.restart reads.finds.picked).marks in
    omega (arith, marks.low_from, marks.low_to, reads.number.unnamed.restart_is)

pub base_stored : (files : Files) (found : Found) → IsFound found files → found.base < STORED_NUMBERS_END
base_stored files found is =
    let read = is.read in
    let some = next_from files read is.reads in
    let within = is.reads.number.least STORED_NUMBERS_END (numbers_end files read.restart read.changes read.found read.layouts is.reads.finds) in
    let base : found.base ≡ read.next - 1 = ap (λ (f : Found). f.base) is.is in
    omega (arith, some, within, base)
