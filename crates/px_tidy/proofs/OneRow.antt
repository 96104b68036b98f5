-- The versions of a row that go, one after the other.
use Rattle.std.proofs.Common.{◌≡◌, ℕ, zero, suc, ◌+◌, ◌≤◌, cond, true, false, List, [], ◌∷◌, map, length, refl, sym, ap, subst, ◌∙◌, arith, ⊎_elim}
use Rattle.std.specs.Prelude.{filter}
use Rattle.std.proofs.lemmas.List.{length-map}
use Rattle.px_cells.specs.declared.slot.Slot.{Slot}
use Rattle.px_chain.specs.Sound.{IsUsedRow}
use Rattle.px_model.specs.declared.row.Row.{Row}
use Rattle.px_history.specs.Store.{IsOneRow, Store, versions_of}
use Rattle.px_history.specs.Steps.{AreSteps, MayUnlink, Step, after_steps, after_unlink}
use Rattle.px_shown.specs.Changes.{left_of}
use Rattle.px_shown.specs.Parts.{Parts}
use Rattle.px_shown.specs.Shown.{Done, Shows}
use Rattle.px_shown.specs.Tables.{AreSound}
use Rattle.px_shown.proofs.Changes.{unlink_changes, unlink_stays_sound}
use Rattle.px_shown.proofs.Keys.{seen}
use Rattle.px_shown.proofs.Unlinking.{unlink_shows}
use Rattle.px_tidy.specs.Kept.{is_other, kept, oldest_first, place_kept}
use Rattle.px_tidy.specs.Steps.{IsRow, IsRowSame, IsRowTidied, Tidies, tidying_row}
use Rattle.px_tidy.proofs.Chains.{IsKept, goes, goes_shown, kept_cases, left_at, left_long, left_whole, map_left, stays}
use Rattle.px_tidy.proofs.Unlinks.{alone_exact, some_used, unlink_away, used_some}

abbrev pub unlink_at : (t row place : ℕ) → Step
unlink_at t row place = Step.unlink t row place 1

-- ---- one step

-- what a chain has before a version goes, and what is left of it then
record IsNext (store : Store) (t row count : ℕ) (slots : List Slot) : Type 0 where
  pub before : map seen (versions_of store t row) ≡ left_at store.done (suc count) slots
  pub within : suc count ≤ length slots
  pub other : is_other (place_kept store.done slots) count ≡ true

left_then : (store : Store) (t row count : ℕ) (slots : List Slot) → IsNext store t row count slots
    → map seen (left_of (versions_of store t row) count 1) ≡ left_at store.done count slots
left_then store t row count slots n =
    let within = n.within in
    map_left seen (versions_of store t row) count 1 ∙ ap (λ (l : List Slot). left_of l count 1) n.before
    ∙ goes store.done count slots (omega (arith, within)) n.other

long : (store : Store) (t row count : ℕ) (slots : List Slot) → IsNext store t row count slots → count + 1 ≤ length ((store.layouts t).chain row)
long store t row count slots n =
    let left = left_long store.done (suc count) slots n.within in
    let same : length (map seen (versions_of store t row)) ≡ length (left_at store.done (suc count) slots) = ap length n.before in
    let versions = length-map (versions_of store t row) seen in
    let chain = length-map ((store.layouts t).chain row) (store.tables t).slot in
    omega (arith, left, same, versions, chain)

may_go : (short : ℕ) (store : Store) (t row count : ℕ) (slots : List Slot) → AreSound short store.tables store.layouts → IsNext store t row count slots
    → MayUnlink store t row count 1
may_go short store t row count slots sound n =
    let within = long store t row count slots n in
    let chain = length-map ((store.layouts t).chain row) (store.tables t).slot in
    record {
      used = some_used short (store.tables t) (store.layouts t) row (sound t) (λ none.
          let empty : length (versions_of store t row) ≡ 0 = ap length none in omega (arith, within, chain, empty));
      some = omega arith;
      within = within;
      same = goes_shown store.done count slots (versions_of store t row) n.before n.within n.other;
    }

gone : (short : ℕ) (store : Store) (t row count : ℕ) (slots : List Slot) → AreSound short store.tables store.layouts → IsNext store t row count slots
    → map seen (versions_of (after_unlink store t row count 1) t row) ≡ left_at store.done count slots
gone short store t row count slots sound n =
    let may = may_go short store t row count slots sound n in
    (unlink_changes short store.tables store.layouts t row count 1 sound may.used may.some may.within).here
    ∙ ap (map seen) (map_left (store.tables t).slot ((store.layouts t).chain row) count 1)
    ∙ left_then store t row count slots n

-- ---- all of them

record Goes (short : ℕ) (store : Store) (steps : List Step) (t row : ℕ) (left : List Slot) : Type 0 where
  pub follow : (parts : Parts) → AreSteps parts short store steps
  pub sound : AreSound short (after_steps store steps).tables (after_steps store steps).layouts
  pub shows : (parts : Parts) (rows : List Row) → Shows parts store.tables store.layouts store.done rows
      → Shows parts (after_steps store steps).tables (after_steps store steps).layouts (after_steps store steps).done rows
  pub done : (after_steps store steps).done ≡ store.done
  pub here : map seen (versions_of (after_steps store steps) t row) ≡ left
  pub away : (n q : ℕ) → (n ≡ t → q ≡ row → ⊥) → versions_of (after_steps store steps) n q ≡ versions_of store n q

one_goes : (short : ℕ) (store : Store) (t row count : ℕ) (slots : List Slot) (steps : List Step) (left : List Slot) → AreSound short store.tables store.layouts
    → IsNext store t row count slots → Goes short (after_unlink store t row count 1) steps t row left → Goes short store (unlink_at t row count ∷ steps) t row left
one_goes short store t row count slots steps left sound n g =
    let may = may_go short store t row count slots sound n in
    record {
      follow = λ parts. (may, g.follow parts);
      sound = g.sound;
      shows = λ parts rows shows. g.shows parts rows
          (unlink_shows parts short store.tables store.layouts store.done rows t row count 1 sound may.used may.some may.within may.same shows);
      done = g.done;
      here = g.here;
      away = λ m q away. g.away m q away ∙ unlink_away short store.tables store.layouts t row count 1 m q sound may.used may.some may.within away;
    }

abbrev steps_at : Done → (t row : ℕ) → List Slot → (count : ℕ) → List Step
steps_at done t row slots count = map (unlink_at t row) (filter (is_other (place_kept done slots)) (oldest_first count))

all_go : (short : ℕ) (store : Store) (t row : ℕ) (slots : List Slot) (count : ℕ) → AreSound short store.tables store.layouts → count ≤ length slots
    → map seen (versions_of store t row) ≡ left_at store.done count slots
    → Goes short store (steps_at store.done t row slots count) t row (kept store.done slots)
all_go short store t row slots zero sound within before =
    record { follow = λ parts. tt; sound = sound; shows = λ parts rows shows. shows; done = refl; here = before; away = λ n q away. refl }
all_go short store t row slots (suc count) sound within before =
    let rest = filter (is_other (place_kept store.done slots)) (oldest_first count) in
    (elim (is_other (place_kept store.done slots) count) as (λ b. is_other (place_kept store.done slots) count ≡ b
    → Goes short store (map (unlink_at t row) (cond b (count ∷ rest) rest)) t row (kept store.done slots)) [
      | true ↦ λ e.
          let n : IsNext store t row count slots = record { before = before; within = within; other = e } in
          let may = may_go short store t row count slots sound n in
          one_goes short store t row count slots (steps_at store.done t row slots count) (kept store.done slots) sound n
          (all_go short (after_unlink store t row count 1) t row slots count
          (unlink_stays_sound short store.tables store.layouts t row count 1 sound may.used may.some may.within)
          (omega (arith, within)) (gone short store t row count slots sound n))
      | false ↦ λ e. all_go short store t row slots count sound (omega (arith, within)) (before ∙ stays store.done count slots e)
    ]) refl

-- ---- the row then

pub same_row : (short : ℕ) (store after : Store) (t row : ℕ) → AreSound short store.tables store.layouts → AreSound short after.tables after.layouts
    → versions_of after t row ≡ versions_of store t row → IsRowSame store after t row
same_row short store after t row sound stays same = record {
  versions = same;
  used = (
    λ used. some_used short (store.tables t) (store.layouts t) row (sound t) (λ none. used_some short (after.tables t) (after.layouts t) row (stays t) used (same ∙ none)),
    λ used. some_used short (after.tables t) (after.layouts t) row (stays t) (λ none. used_some short (store.tables t) (store.layouts t) row (sound t) used (sym same ∙ none)),
  );
}

pub tidied_row : (short : ℕ) (store after : Store) (t row : ℕ) → AreSound short after.tables after.layouts
    → versions_of after t row ≡ kept store.done (versions_of store t row) → IsRowTidied store after t row
tidied_row short store after t row sound same = record {
  versions = same;
  used = (
    λ used none. used_some short (after.tables t) (after.layouts t) row (sound t) used (same ∙ none),
    λ some. some_used short (after.tables t) (after.layouts t) row (sound t) (λ none. some (sym same ∙ none)),
  );
}

-- what is alike to what stays is that
kept_exact : (short : ℕ) (after : Store) (t row : ℕ) (done : Done) (slots : List Slot) → AreSound short after.tables after.layouts
    → map seen (versions_of after t row) ≡ kept done slots → versions_of after t row ≡ kept done slots
kept_exact short after t row done slots sound alike = ⊎_elim
    (λ (none : kept done slots ≡ []). empty (versions_of after t row) (alike ∙ none) ∙ sym none)
    (λ (one : IsKept done (kept done slots)).
    alone_exact short (after.tables t) (after.layouts t) row one.slot (sound t) (alike ∙ one.alone) one.last ∙ sym one.alone)
    (kept_cases done slots)
  where
    empty : (versions : List Slot) → map seen versions ≡ [] → versions ≡ []
    empty [] none = refl
    empty (slot ∷ versions) none = let no : ⊥ = cc in absurd no

pub tidy_row : (short : ℕ) (store : Store) (t row : ℕ) → AreSound short store.tables store.layouts
    → Tidies short store (tidying_row store t row) (after_steps store (tidying_row store t row)) (IsRow t row)
tidy_row short store t row sound =
    let slots = versions_of store t row in
    let steps = tidying_row store t row in
    let after = after_steps store steps in
    let whole : map seen slots ≡ left_at store.done (length slots) slots = sym (left_whole store.done (length slots) slots (omega arith)) in
    let g : Goes short store steps t row (kept store.done slots) = all_go short store t row slots (length slots) sound (omega arith) whole in
    let versions : versions_of after t row ≡ kept store.done slots = kept_exact short after t row store.done slots g.sound g.here in
    record {
      lead = refl;
      follow = g.follow;
      sound = g.sound;
      shows = g.shows;
      done = g.done;
      tidied = λ n q is. subst (λ (m : ℕ). IsRowTidied store after m q) (sym is.0)
          (subst (λ (p : ℕ). IsRowTidied store after t p) (sym is.1) (tidied_row short store after t row g.sound versions));
      others = λ n q away. same_row short store after n q sound g.sound (g.away n q (λ e f. away (e, f)));
    }

-- a row that was tidied is one row
pub one_row : (short : ℕ) (store after : Store) (t row : ℕ) → after.done ≡ store.done → IsRowTidied store after t row → IsUsedRow (after.tables t) row
    → IsOneRow after.done (versions_of after t row)
one_row short store after t row done tidied used =
    let slots = versions_of store t row in
    ⊎_elim
    (λ (none : kept store.done slots ≡ []). absurd (tidied.used.0 used none))
    (λ (one : IsKept store.done (kept store.done slots)). record {
      slot = one.slot;
      alone = tidied.versions ∙ one.alone;
      its_done = ap (λ (d : Done). d one.slot.xn) done ∙ one.its_done;
      here = one.here;
    })
    (kept_cases store.done slots)
