-- What cells that are laid over places change of the table that these say.
use Rattle.std.proofs.Common.{◌≢◌, ℕ, Bool, true, false, cond, ◌==◌, List, [], ◌∷◌, map, Option, Some, None, refl}
use Rattle.std.specs.Prelude.{IsSome, IsSomeAnd, unwrap_or}
use Rattle.std.specs.List.{AllByRecursion}
use Rattle.std.proofs.lemmas.Bool.{eq-eqb, ne_eqb, false≢true}
use Rattle.px_cells.specs.declared.cell.CellKind.TheVariants as kind
use Rattle.px_cells.specs.declared.pointer.Pointer.{Pointer}
use Rattle.px_cells.specs.declared.slot.Slot.{Slot}
use Rattle.px_recs.specs.Text.{PointerAt, SlotAt, pointer_text, slot_text}
use Rattle.px_chain.specs.Cells.{cell_of}
use Rattle.px_chain.specs.Table.{Content, Table, laid, overlaid}
use Rattle.px_laid.specs.Places.{Places, laid_over, over}
use Rattle.px_laid.specs.Says.{ContentFits, Says}

slot_chosen : (short : ℕ) (here : Bool) (new old : Slot) (below : Option (List ℕ)) (zeros : List ℕ) → SlotAt short (slot_text short new) new → SlotAt short (unwrap_or below zeros) old
    → SlotAt short (unwrap_or (cond here (Some (slot_text short new)) below) zeros) (cond here new old)
slot_chosen short true new old below zeros at_new at_old = at_new
slot_chosen short false new old below zeros at_new at_old = at_old

pointer_chosen : (here : Bool) (new old : Pointer) (below : Option (List ℕ)) (zeros : List ℕ) → PointerAt (pointer_text new) new → PointerAt (unwrap_or below zeros) old
    → PointerAt (unwrap_or (cond here (Some (pointer_text new)) below) zeros) (cond here new old)
pointer_chosen true new old below zeros at_new at_old = at_new
pointer_chosen false new old below zeros at_new at_old = at_old

says_more : (short number : ℕ) (table : Table) (places : Places) (content : Content) → Says short number table places → ContentFits short content
    → Says short number (overlaid table content) (over places (cell_of number short content))
says_more short number table places (Content.header_is header) says fits = record {
  header = rw (eq-eqb number number refl) (record { fits = fits; text = refl });
  slot = says.slot;
  pointer = says.pointer;
}
says_more short number table places (Content.slot_is m slot) says fits = record {
  header = says.header;
  slot = λ n. rw (eq-eqb number number refl) (slot_chosen short (n == m) slot (table.slot n) (places kind.Slot number n) _ (record { form = fits.0; fits = fits.1; text = refl }) (says.slot n));
  pointer = says.pointer;
}
says_more short number table places (Content.pointer_is m pointer) says fits = record {
  header = says.header;
  slot = says.slot;
  pointer = λ n. rw (eq-eqb number number refl) (pointer_chosen (n == m) pointer (table.pointer n) (places kind.Pointer number n) _ (record { fits = fits; text = refl }) (says.pointer n));
}

pub says_laid : (short number : ℕ) (table : Table) (places : Places) (contents : List Content) → Says short number table places → AllByRecursion (ContentFits short) contents
    → Says short number (laid table contents) (laid_over places (map (cell_of number short) contents))
says_laid short number table places [] says fit = says
says_laid short number table places (content ∷ contents) says fit =
    says_laid short number (overlaid table content) (over places (cell_of number short content)) contents (says_more short number table places content says fit.0) fit.1

says_same : (short number other : ℕ) (table : Table) (places : Places) (content : Content) → number ≢ other → Says short number table places
    → Says short number table (over places (cell_of other short content))
says_same short number other table places (Content.header_is header) away says = record {
  header = rw (ne_eqb number other away) says.header;
  slot = says.slot;
  pointer = says.pointer;
}
says_same short number other table places (Content.slot_is m slot) away says = record {
  header = says.header;
  slot = λ n. rw (ne_eqb number other away) (says.slot n);
  pointer = says.pointer;
}
says_same short number other table places (Content.pointer_is m pointer) away says = record {
  header = says.header;
  slot = says.slot;
  pointer = λ n. rw (ne_eqb number other away) (says.pointer n);
}

pub says_still : (short number other : ℕ) (table : Table) (places : Places) (contents : List Content) → number ≢ other → Says short number table places
    → Says short number table (laid_over places (map (cell_of other short) contents))
says_still short number other table places [] away says = says
says_still short number other table places (content ∷ contents) away says =
    says_still short number other table (over places (cell_of other short content)) contents away (says_same short number other table places content away says)

-- ---- bytes at a place

-- what holds of the bytes that were laid, and what holds of those that are read
pub both_hold : (at : Option (List ℕ)) (zeros : List ℕ) (P Q : List ℕ → Type 0) → IsSomeAnd at P → Q (unwrap_or at zeros) → (bytes : List ℕ) × P bytes × Q bytes
both_hold None zeros P Q laid read = absurd laid
both_hold (Some bytes) zeros P Q laid read = (bytes, laid, read)

pub laid_holds : (at : Option (List ℕ)) (zeros : List ℕ) (P : List ℕ → Type 0) → IsSome at → P (unwrap_or at zeros) → IsSomeAnd at P
laid_holds None zeros P some read = absurd (false≢true some)
laid_holds (Some bytes) zeros P some read = read
