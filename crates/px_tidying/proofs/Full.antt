-- Which frame finds no room in the log: one of those that were to be written.
use Rattle.std.proofs.Common.{◌≡◌, ◌≢◌, ℕ, zero, suc, ◌+◌, ◌≤◌, List, ◌++◌, length, sym, ap, subst, arith, length-append, ⊎_elim}
use Rattle.std.proofs.lemmas.Bool.{cases_eq}
use Rattle.px_chain.specs.Sound.{IsUsedRow}
use Rattle.px_held.specs.declared.error.HeldError.{HeldError}
use Rattle.px_held.specs.declared.error.HeldError.TheVariants as held_errors
use Rattle.px_history.specs.Steps.{Step}
use Rattle.px_history.specs.Store.{Store}
use Rattle.px_log.specs.Errors.{HasLogCause}
use Rattle.px_log.specs.Log.{Log}
use Rattle.px_log.specs.declared.error.LogError.{LogError}
use Rattle.px_log.specs.declared.error.LogError.TheVariants as log_errors
use Rattle.px_site.specs.Cause.{Counts}
use Rattle.px_site.specs.declared.error.SiteError.{SiteError}
use Rattle.px_site.specs.declared.error.SiteError.TheVariants as site_errors
use Rattle.px_tidy.specs.Steps.{tidying_row, tidying_rows, tidying_table, tidying_tables}
use Rattle.px_tidying.specs.Errors.{IsFullWithin, of_held, of_log, of_site}
use Rattle.px_tidying.specs.Opening.{Made, Opening}
use Rattle.px_tidying.specs.declared.error.TidyError.{TidyError}
use Rattle.px_tidying.specs.declared.error.TidyError.TheVariants.{OutOfMemory, Fault, LogFull, Damaged}
use Rattle.px_tidying.proofs.Causes.{next_frame}

-- ---- one call

pub held_room : (from end : ℕ) (e : HeldError) → IsFullWithin from end (of_held e)
held_room from end held_errors.OutOfMemory = tt
held_room from end (held_errors.Fault fault) = tt
held_room from end (held_errors.Damaged file place) = tt

pub site_room : (from end : ℕ) (e : SiteError) → IsFullWithin from end (of_site e)
site_room from end site_errors.OutOfMemory = tt
site_room from end (site_errors.Fault fault) = tt

pub log_room : (log : Log) (old new : Counts) (e : LogError) → HasLogCause log old new e → IsFullWithin log.frames (log.frames + 1) (of_log e)
log_room log old new log_errors.OutOfMemory cause = tt
log_room log old new (log_errors.Fault fault) cause = tt
log_room log old new (log_errors.LogFull frame) cause = let same = next_frame log frame cause in (omega (arith, same), omega (arith, same))

-- ---- behind others

wider : (from end low high : ℕ) (e : TidyError) → low ≤ from → end ≤ high → IsFullWithin from end e → IsFullWithin low high e
wider from end low high OutOfMemory less more is = tt
wider from end low high (Fault fault) less more is = tt
wider from end low high (LogFull frame) less more is = let first = is.0 in let last = is.1 in (omega (arith, less, first), omega (arith, last, more))
wider from end low high (Damaged file place) less more is = tt

-- its frames come behind those of the steps that were made, and all are no more than so many
pub full_behind : (tells : Type 0) (store : Store) (steps : List Step) (a b : Opening) (count all : ℕ) (e : TidyError) → Made tells store steps a b → length steps + count ≤ all
    → IsFullWithin b.log.frames (b.log.frames + count) e → IsFullWithin a.log.frames (a.log.frames + all) e
full_behind tells store steps a b count all e made within is =
    let so_far = made.frames in
    wider b.log.frames (b.log.frames + count) a.log.frames (a.log.frames + all) e (omega (arith, so_far)) (omega (arith, so_far, within)) is

-- ---- how many steps there are

rows_grow : (store : Store) (t a b : ℕ) → a ≤ b → length (tidying_rows store t a) ≤ length (tidying_rows store t b)
rows_grow store t a zero to = let same : a ≡ 0 = omega (arith, to) in subst (λ (n : ℕ). length (tidying_rows store t n) ≤ 0) (sym same) (omega arith)
rows_grow store t a (suc b) to = ⊎_elim
    (λ (same : a ≡ suc b). subst (λ (n : ℕ). length (tidying_rows store t n) ≤ length (tidying_rows store t (suc b))) (sym same) (omega arith))
    (λ (less : a ≢ suc b).
    let before = rows_grow store t a b (omega (arith, to, less)) in
    omega (arith, before, length-append (tidying_rows store t b) (tidying_row store t (suc b))))
    (cases_eq a (suc b))

-- the steps up to a used row are no more than those of its table
pub up_to_row : (store : Store) (t row : ℕ) → IsUsedRow (store.tables t) row → length (tidying_rows store t row) ≤ length (tidying_table store t)
up_to_row store t row used = rows_grow store t row (store.tables t).header.rows used.0.1

pub up_to_used : (store : Store) (t last row : ℕ) (more : List Step) → IsUsedRow (store.tables t) row → tidying_rows store t last ++ more ≡ tidying_rows store t row
    → length (tidying_rows store t last) + length more ≤ length (tidying_table store t)
up_to_used store t last row more used are =
    let all = ap length are in
    let grow = rows_grow store t row (store.tables t).header.rows used.0.1 in
    omega (arith, all, grow, length-append (tidying_rows store t last) more)

tables_grow : (store : Store) (a b : ℕ) → a ≤ b → length (tidying_tables store a) ≤ length (tidying_tables store b)
tables_grow store a zero to = let same : a ≡ 0 = omega (arith, to) in subst (λ (n : ℕ). length (tidying_tables store n) ≤ 0) (sym same) (omega arith)
tables_grow store a (suc b) to = ⊎_elim
    (λ (same : a ≡ suc b). subst (λ (n : ℕ). length (tidying_tables store n) ≤ length (tidying_tables store (suc b))) (sym same) (omega arith))
    (λ (less : a ≢ suc b).
    let before = tables_grow store a b (omega (arith, to, less)) in
    omega (arith, before, length-append (tidying_tables store b) (tidying_table store (suc b))))
    (cases_eq a (suc b))

pub up_to_table : (store : Store) (last next tables : ℕ) (more : List Step) → next ≤ tables → tidying_tables store last ++ more ≡ tidying_tables store next
    → length (tidying_tables store last) + length more ≤ length (tidying_tables store tables)
up_to_table store last next tables more to are =
    let all = ap length are in
    let grow = tables_grow store next tables to in
    omega (arith, all, grow, length-append (tidying_tables store last) more)
