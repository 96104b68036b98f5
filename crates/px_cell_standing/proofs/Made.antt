-- What is found in a store that was just made.
use Rattle.std.proofs.Common.{◌≡◌, ℕ, zero, suc, ◌+◌, ◌-◌, ◌<◌, List, [], ◌++◌, Bool, cond, Option, Some, None, drop, is_some, length, map, replicate, take, refl, sym, ap, subst, ◌∙◌, arith}
use Rattle.std.specs.Prelude.{if◌then◌else◌, nat_lt, unwrap_or}
use Rattle.std.proofs.lemmas.Bool.{false≢true, le-ltb}
use Rattle.std.proofs.lemmas.List.Elements.{All-nil}
use Rattle.px_beginning.specs.Found.{Reading}
use Rattle.px_beginning.specs.Numbers.{IsNext}
use Rattle.px_cells.specs.declared.cell.CellKind.{CellKind}
use Rattle.px_cells.specs.declared.cell.CellKind.TheVariants as kind
use Rattle.px_cells.specs.declared.limits.TheConstants.{HEADER_SIZE}
use Rattle.px_change.specs.Text.{change_text}
use Rattle.px_change.specs.declared.change.Change.{Change}
use Rattle.px_chain.specs.Sound.{IsUsedRow, no_places}
use Rattle.px_filed.specs.Filed.{file_places}
use Rattle.px_history.specs.Steps.{Step}
use Rattle.px_history.specs.Store.{Store, nothing}
use Rattle.px_laid.specs.Places.{Places, none_laid}
use Rattle.px_life.specs.Example.{new_life}
use Rattle.px_life.specs.Extends.{Extends}
use Rattle.px_life.specs.Front.{commits_by, done_by}
use Rattle.px_opened.specs.Kept.{HoldsStore}
use Rattle.px_opened.specs.Opened.{Opens, changes_over}
use Rattle.px_reached.proofs.Standing.{MoreOpens}
use Rattle.px_reached.specs.Example.{no_marks}
use Rattle.px_reached.specs.Reachable.{IsReachable}
use Rattle.px_reached.specs.Scanned.{scan}
use Rattle.px_reached.specs.Stands.{Finds}
use Rattle.px_recs.specs.Place.{place_of, size_of}
use Rattle.px_restart.specs.Restart.{CanRestart, IsPicked}
use Rattle.px_restart.specs.declared.restart.Restart.{Restart}
use Rattle.px_shown.specs.Parts.{Parts, no_parts}
use Rattle.px_shown.specs.Shown.{Done, Shows}
use Rattle.px_shown.specs.Tables.{Layouts, Tables}
use Rattle.px_site.specs.Disk.{at_rest}
use Rattle.px_site.specs.State.{Moment, State}
use Rattle.px_site.specs.declared.name.FileName.TheVariants.{Rec, Restart as RestartFile, Row as RowFile, Xlog}
use Rattle.px_standing.specs.Images.{IsPlainImage}
use Rattle.px_standing.specs.Files.{Files}
use Rattle.px_tidy.specs.Steps.{tidying_rows, tidying_table, tidying_tables}
use Rattle.px_cell_standing.specs.Found.{Found, IsFound, found_in, store_of}
use Rattle.px_cell_standing.specs.Settled.{HasNothing, IsAtRest, IsFromStart, IsOneFile, Settled}
use Rattle.px_cell_standing.specs.Standing.{StandsFor}
use Rattle.px_cell_standing.proofs.Finding.{found_stands}
use Rattle.px_cell_standing.proofs.Lasting.{rest_image, resting}
use Rattle.px_cell_standing.proofs.Next.{can_of}
use Rattle.px_cell_standing.proofs.One.{one_picked}
use Rattle.px_cell_standing.proofs.Resting.{rest_settles}

-- ---- what is used of the laws below

abbrev pub NewIsReachable : Type 0
NewIsReachable = (short : ℕ) (restart : Restart) (m : Moment) → restart.first ≡ 0 → restart.redo ≡ 0 → restart.durable ≡ 0
    → ((k : ℕ) → m.files (Xlog k) ≡ at_rest []) → ((t : ℕ) → (m.files (Rec t) ≡ at_rest []) × (m.files (RowFile t) ≡ at_rest []))
    → IsReachable IsPlainImage short restart new_life no_marks m

abbrev pub NothingIsHeld : Type 0
NothingIsHeld = (short tables : ℕ) → HoldsStore short tables nothing none_laid

abbrev pub NoneAreShown : Type 0
NoneAreShown = (parts : Parts) (tables : Tables) (layouts : Layouts) (done : Done) → ((t : ℕ) → (tables t).header ≡ no_places) → Shows parts tables layouts done []

-- ---- nothing lies in the files

nothing_there : {X : Type 0} {x : X} → None ≡ Some x → ⊥
nothing_there e = false≢true (ap is_some e)

no_cells : (short : ℕ) (files : Files) → HasNothing files → (what : CellKind) (table number : ℕ) → file_places short files what table number ≡ None
no_cells short files none what table number =
    let place = place_of short what number in
    let size = size_of short what in
    ap (λ (file : List ℕ). if nat_lt place (length file) then Some (take size (drop place file ++ replicate size 0)) else None) (none.cells what table)
    ∙ ap (λ (b : Bool). cond b (Some (take size (drop {A = ℕ} place [] ++ replicate size 0))) None) (le-ltb place 0 (omega arith))

extends_nothing : (places : Places) → ((what : CellKind) (table number : ℕ) → places what table number ≡ None) → Extends none_laid places
extends_nothing places none = record {
  laid = λ what table number bytes is. absurd (nothing_there is);
  headers = λ table. ap (λ (o : Option (List ℕ)). unwrap_or o (replicate HEADER_SIZE 0)) (none kind.Header table 0);
}

drop_none : {X : Type 0} (n : ℕ) → drop {A = X} n [] ≡ []
drop_none zero = refl
drop_none (suc n) = refl

take_none : {X : Type 0} (n : ℕ) → take {A = X} n [] ≡ []
take_none zero = refl
take_none (suc n) = refl

-- no row has anything to tidy
none_tidied : (store : Store) → ((t : ℕ) → (store.tables t).header.rows ≡ 0) → (last : ℕ) → tidying_tables store last ≡ []
none_tidied store none zero = refl
none_tidied store none (suc last) =
    ap (λ (steps : List Step). steps ++ tidying_table store (suc last)) (none_tidied store none last)
    ∙ ap (tidying_rows store (suc last)) (none (suc last))

-- ---- what is found

module _ (files : Files) (restart : Restart) (picked : IsPicked (files (RestartFile 0)) (files (RestartFile 1)) restart) (next : restart.next ≡ 1) (durable : restart.durable ≡ 0)
    (none : HasNothing files) where
  can : CanRestart restart
  can = can_of (files (RestartFile 0)) (files (RestartFile 1)) restart picked

  redo : restart.redo ≡ 0
  redo = omega (arith, can.marks.redo_to, durable)

  first : restart.first ≡ 0
  first = omega (arith, can.marks.first_to, redo)

  no_commits : commits_by restart [] ≡ 0
  no_commits = omega (arith, can.marks.commits_to, durable)

  no_row : (t row : ℕ) → IsUsedRow (nothing.tables t) row → ⊥
  no_row t row used = omega (arith, used.0.0, used.0.1)

  abbrev read : Reading
  read = record { restart = restart; changes = []; found = nothing.tables; layouts = nothing.layouts; rows = []; next = 1 }

  number : IsNext restart [] nothing.tables nothing.layouts 1
  number = record {
    unnamed = record {
      restart_is = omega (arith, next);
      frames = All-nil (λ (change : Change). change.xn < 1);
      versions = λ t row used. absurd (no_row t row used);
    };
    least = λ other unnamed. omega (arith, unnamed.restart_is, next);
  }

  reach : NewIsReachable → IsReachable IsPlainImage restart.short restart new_life no_marks (resting files)
  reach reachable = reachable restart.short restart (resting files) first redo durable
      (λ k. ap at_rest (none.frames k)) (λ t. (ap at_rest (none.cells kind.Slot t), ap at_rest (none.cells kind.Pointer t)))

  scanned : NewIsReachable → scan restart files ≡ map change_text []
  scanned reachable =
      let met = (reach reachable).log.each files (rest_image files) in
      met.3 ∙ ap (map change_text) (ap (take (met.0 - restart.first)) (drop_none (restart.first - 0)) ∙ take_none (met.0 - restart.first))

  opens : NothingIsHeld → MoreOpens
      → Opens restart.short restart.tables (changes_over (file_places restart.short files) (drop (restart.redo - restart.first) [])) nothing.tables nothing.layouts
  opens held more =
      subst (λ (changes : List Change). Opens restart.short restart.tables (changes_over (file_places restart.short files) changes) nothing.tables nothing.layouts)
      (sym (drop_none (restart.redo - restart.first)))
      (more restart.short restart.tables nothing none_laid (file_places restart.short files) (held restart.short restart.tables)
      (extends_nothing (file_places restart.short files) (no_cells restart.short files none)))

  finds : NewIsReachable → NothingIsHeld → MoreOpens → Finds files restart [] nothing.tables nothing.layouts
  finds reachable held more = record {
    picked = picked;
    scanned = scanned reachable;
    held = tt;
    reached = omega (arith, durable);
    behind = λ segment past. none.frames segment;
    opens = opens held more;
    numbers = λ t row used. absurd (no_row t row used);
  }

  no_frames : 0 ≡ restart.first + 0 + length (tidying_tables (store_of read) restart.tables)
  no_frames = omega (arith, first, ap (λ (steps : List Step). length steps) (none_tidied (store_of read) (λ t. refl) restart.tables))

  nothing_redone : 0 ≡ restart.first + 0 - restart.redo
  nothing_redone = omega (arith, first, redo)

  abbrev with_counts : (commits redone frames : ℕ) → Found
  with_counts commits redone frames = record { tables = restart.tables; short = restart.short; rows = []; commits = commits; base = 0; redone = redone; frames = frames }

  found_is : with_counts 0 0 0 ≡ found_in read
  found_is =
      ap (λ (n : ℕ). with_counts n 0 0) (sym no_commits)
      ∙ ap (λ (n : ℕ). with_counts (commits_by restart []) n 0) nothing_redone
      ∙ ap (λ (n : ℕ). with_counts (commits_by restart []) (restart.first + 0 - restart.redo) n) no_frames

  pub new_found : NewIsReachable → NothingIsHeld → MoreOpens → NoneAreShown
      → IsFound (record { tables = restart.tables; short = restart.short; rows = []; commits = 0; base = 0; redone = 0; frames = 0 }) files
  new_found reachable held more shown = record {
    read = read;
    reads = record {
      finds = finds reachable held more;
      shows = shown no_parts nothing.tables nothing.layouts (done_by restart []) (λ t. refl);
      number = number;
    };
    is = found_is;
  }

  pub new_stands : NewIsReachable → NothingIsHeld → MoreOpens → NoneAreShown → StandsFor files 0 []
  new_stands reachable held more shown = found_stands files (with_counts 0 0 0) (new_found reachable held more shown)

  pub new_is_one : restart.segment ≡ 1 → IsOneFile files
  new_is_one segment = record {
    cells = none.cells;
    segments = λ k past. none.frames k;
    begins = λ other counts.
        subst IsFromStart (one_picked (files (RestartFile 0)) (files (RestartFile 1)) restart other picked counts)
        (record { segment = segment; first = first; redo = redo });
  }

pub new_settled : (s : State) (restart : Restart) → IsPicked (s.content (RestartFile 0)) (s.content (RestartFile 1)) restart → restart.next ≡ 1 → restart.durable ≡ 0
    → restart.segment ≡ 1 → HasNothing s.content → IsAtRest s.content s → NewIsReachable → NothingIsHeld → MoreOpens → NoneAreShown → Settled s 0 []
new_settled s restart picked next durable segment none rests reachable held more shown =
    rest_settles s 0 [] rests (new_is_one s.content restart picked next durable none segment) (new_stands s.content restart picked next durable none reachable held more shown)
