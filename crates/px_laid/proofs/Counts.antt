-- Where each place that a header counts is laid, cells of links and unlinks leave it so.
use Rattle.std.proofs.Common.{◌≡◌, ◌≢◌, ℕ, ◌+◌, ◌<◌, ◌≤◌, ◌^◌, Bool, true, false, cond, ◌==◌, List, [], ◌∷◌, map, Option, Some, refl, sym, subst, ◌∙◌, arith}
use Rattle.std.specs.Prelude.{IsSome}
use Rattle.std.proofs.lemmas.Bool.{eq-eqb, true≢false}
use Rattle.px_cells.specs.declared.cell.Cell.{Cell}
use Rattle.px_cells.specs.declared.cell.CellKind.{CellKind}
use Rattle.px_cells.specs.declared.cell.CellKind.TheVariants as kind
use Rattle.px_cells.specs.declared.header.Header.{Header}
use Rattle.px_cells.specs.declared.slot.Slot.{Slot}
use Rattle.px_free.specs.Places.{after_taking, next_place, rows_of, slots_of}
use Rattle.px_free.specs.Places as free
use Rattle.px_chain.specs.Cells.{cell_of}
use Rattle.px_chain.specs.Links.{BeginsRow, Parts, VariesRow, link_cells, unlink_cells, unlinked_header}
use Rattle.px_chain.specs.Sound.{no_places}
use Rattle.px_chain.specs.Table.{Table}
use Rattle.px_laid.specs.Places.{Places, is_at, laid_over, none_laid, over}
use Rattle.px_laid.specs.Says.{CountsLaid}

-- ---- what is laid stays laid

some_over : (here : Bool) (bytes : List ℕ) (below : Option (List ℕ)) → (here ≡ false → IsSome below) → IsSome (cond here (Some bytes) below)
some_over true bytes below some = refl
some_over false bytes below some = some refl

pub stays : (cells : List Cell) (places : Places) (what : CellKind) (table number : ℕ) → IsSome (places what table number) → IsSome (laid_over places cells what table number)
stays [] places what table number some = some
stays (cell ∷ cells) places what table number some =
    stays cells (over places cell) what table number (some_over (is_at what table number cell) cell.bytes (places what table number) (λ differ. some))

-- ---- a link

away : (n m : ℕ) → (n == m) ≡ false → n ≢ m
away n m differ e = true≢false (sym (eq-eqb n m e) ∙ differ)

-- what is counted once a place is taken is that place, or was counted
counted_before : (places : free.Places) (behind n : ℕ) → n ≤ (after_taking places behind).used → n ≢ next_place places → n ≤ places.used
counted_before places behind n =
    elim (places.front == 0) as (λ b. n ≤ (cond b (record places { used = places.used + 1 }) (record places { front = behind })).used → n ≢ cond b (places.used + 1) places.front → n ≤ places.used) [
      | true ↦ λ within other. omega (arith, within, other)
      | false ↦ λ within other. within
    ]

linked : (short number m : ℕ) (places : Places) (old header : Header) (slot : Slot) → CountsLaid places number old
    → ((n : ℕ) → n ≤ header.slots → n ≢ m → n ≤ old.slots) → ((n : ℕ) → n ≤ header.rows → n ≢ slot.row → n ≤ old.rows)
    → CountsLaid (laid_over places (map (cell_of number short) (link_cells header m slot))) number header
linked short number m places old header slot laid slots rows = record {
  slots = λ n low high. rw (eq-eqb number number refl) (some_over (n == m) _ (places kind.Slot number n) (λ differ. laid.slots n low (slots n high (away n m differ))));
  pointers = λ n low high. rw (eq-eqb number number refl) (some_over (n == slot.row) _ (places kind.Pointer number n) (λ differ. laid.pointers n low (rows n high (away n slot.row differ))));
}

pub new_row : (short number : ℕ) (table : Table) (places : Places) (header : Header) (slot : Slot) → CountsLaid places number table.header → BeginsRow table header slot
    → CountsLaid (laid_over places (map (cell_of number short) (link_cells header (next_place (slots_of table.header)) slot))) number header
new_row short number table places header slot laid begins = linked short number (next_place (slots_of table.header)) places table.header header slot laid
    (λ n within other. counted_before (slots_of table.header) _ n (subst (λ (p : free.Places). n ≤ p.used) begins.slots within) other)
    (λ n within other. counted_before (rows_of table.header) _ n (subst (λ (p : free.Places). n ≤ p.used) begins.rows within) (λ e. other (e ∙ sym begins.its_row)))

pub new_variation : (short number : ℕ) (table : Table) (places : Places) (header : Header) (slot : Slot) → CountsLaid places number table.header → VariesRow table header slot
    → CountsLaid (laid_over places (map (cell_of number short) (link_cells header (next_place (slots_of table.header)) slot))) number header
new_variation short number table places header slot laid varies = linked short number (next_place (slots_of table.header)) places table.header header slot laid
    (λ n within other. counted_before (slots_of table.header) _ n (subst (λ (p : free.Places). n ≤ p.used) varies.slots within) other)
    (λ n within other. subst (λ (p : free.Places). n ≤ p.used) varies.rows within)

-- the place that is taken has a number that fits
pub next_fits : (places : free.Places) (behind : ℕ) → places.front < 2 ^ 32 → (after_taking places behind).used < 2 ^ 32 → next_place places < 2 ^ 32
next_fits places behind front =
    elim (places.front == 0) as (λ b. (cond b (record places { used = places.used + 1 }) (record places { front = behind })).used < 2 ^ 32 → cond b (places.used + 1) places.front < 2 ^ 32) [
      | true ↦ λ used. used
      | false ↦ λ used. front
    ]

-- ---- an unlink

pub unlinked : (short number : ℕ) (header : Header) (places : Places) (parts : Parts) → CountsLaid places number header
    → CountsLaid (laid_over places (map (cell_of number short) (unlink_cells header parts))) number (unlinked_header header parts)
unlinked short number header places parts laid =
    let cells = map (cell_of number short) (unlink_cells header parts) in
    record {
      slots = λ n low high. stays cells places kind.Slot number n (laid.slots n low high);
      pointers = λ n low high. stays cells places kind.Pointer number n (laid.pointers n low high);
    }

pub nothing : (number : ℕ) → CountsLaid none_laid number no_places
nothing number = record {
  slots = λ n low high. absurd (omega (arith, low, high));
  pointers = λ n low high. absurd (omega (arith, low, high));
}
