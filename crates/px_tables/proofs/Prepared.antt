-- A version that has its place and its memory is prepared.
use Rattle.std.proofs.Common.{◌≡◌, ◌≢◌, ℕ, ◌<◌, ◌≤◌, true, IsTrue, List, length, get_or, eqb, refl, sym, ap, subst, ◌∙◌, arith}
use Rattle.std.proofs.Math.Nat.{min-eq_left}
use Rattle.std.proofs.lemmas.Bool.{and_parts, eq-eqb, le-leb, leb-true}
use Rattle.std.proofs.lemmas.List.{get_or_default}
use Rattle.px_model.specs.declared.limits.TheConstants.{LONGEST_SHORT}
use Rattle.px_model.specs.declared.limits.TheConstants.{LONGEST_KEY}
use Rattle.px_model.specs.declared.write.Write.{Write}
use Rattle.px_model.specs.declared.write.Write.TheVariants.{Put, Delete}
use Rattle.px_model.specs.declared.limits.TheConstants.{LONGEST_BODY}
use Rattle.px_cells.specs.declared.slot.Slot.{Slot}
use Rattle.px_cells.specs.declared.slot.SlotState.TheVariants.{Free, Row, Deletion}
use Rattle.px_cells.specs.Form.{is_short, is_slot}
use Rattle.px_free.specs.Places.{next_place, slots_of}
use Rattle.px_chain.specs.Links.{IsStored}
use Rattle.px_tables.specs.declared.linking.Linking.{Linking}
use Rattle.px_tables.specs.declared.linking.Place.{Place}
use Rattle.px_tables.specs.Held.{Cells, Held, table_of}
use Rattle.px_tables.specs.Keys.{IsEntered}
use Rattle.px_tables.specs.Linking.{FitsSlot, GoesTo, IsLink, IsPlaceFor, IsPrepared, bytes_of_key, version_of}

pub longest_short : (short : ℕ) → IsTrue (is_short short) → short ≤ LONGEST_SHORT
longest_short short is = leb-true short LONGEST_SHORT (and_parts _ _ is).1

pub fits_longest : (short : ℕ) (write : Write) → IsTrue (is_short short) → FitsSlot short write → FitsSlot LONGEST_SHORT write
fits_longest short (Put row) is fits = (fits.0, let most = longest_short short is in omega (arith, fits.1, most))
fits_longest short (Delete table key) is fits = fits

stored_form : (short xn next row : ℕ) (write : Write) → IsTrue (is_short short) → FitsSlot short write → IsTrue (is_slot short (version_of xn next row write))
unfolding is_slot
stored_form short xn next row (Put put) is fits =
    let most = longest_short short is in
    let body : length put.body ≤ LONGEST_BODY = omega (arith, fits.1, most) in
    rw (
      le-leb 1 (length put.key) fits.0.0,
      le-leb (length put.key) LONGEST_KEY fits.0.1,
      le-leb (length put.body) LONGEST_BODY body,
      le-leb (length put.body) short fits.1,
      min-eq_left fits.1,
      itself (length put.body),
    ) refl
  where
    itself : (n : ℕ) → eqb n n ≡ true
    itself n = eq-eqb n n refl
stored_form short xn next row (Delete table key) is fits =
    rw (le-leb 1 (length key) fits.0, le-leb (length key) LONGEST_KEY fits.1) refl

used_version : (xn next row : ℕ) (write : Write) → (version_of xn next row write).state ≢ Free
used_version xn next row (Put put) e = row_free e
  where
    row_free : Row ≡ Free → ⊥
    row_free e = cc
used_version xn next row (Delete table key) e = deletion_free e
  where
    deletion_free : Deletion ≡ Free → ⊥
    deletion_free e = cc

pub row_of_version : (xn next row : ℕ) (write : Write) → (version_of xn next row write).row ≡ row
row_of_version xn next row (Put put) = refl
row_of_version xn next row (Delete table key) = refl

pub next_of_version : (xn next row : ℕ) (write : Write) → (version_of xn next row write).next ≡ next
next_of_version xn next row (Put put) = refl
next_of_version xn next row (Delete table key) = refl

pub key_of_version : (xn next row : ℕ) (write : Write) → (version_of xn next row write).key ≡ bytes_of_key write
key_of_version xn next row (Put put) = refl
key_of_version xn next row (Delete table key) = refl

pub stored_version : (short xn next row : ℕ) (write : Write) → IsTrue (is_short short) → FitsSlot short write → IsStored short (version_of xn next row write)
stored_version short xn next row write is fits = record { form = stored_form short xn next row write is fits; used = used_version xn next row write }

-- what `place_of` found and `reserve` made room for
pub placed_for : (old new : Held) (key : List ℕ) (place : Place) → new.cells ≡ old.cells → place.number ≡ next_place (slots_of old.cells.header)
    → ((slot : Slot) → GoesTo place key slot → IsLink (table_of old.cells) place.header slot)
    → place.number ≤ length old.cells.slots → place.row ≤ length old.cells.pointers
    → length new.cells.slots < new.room.slots → length new.cells.pointers < new.room.rows → IsEntered new.room.keys key → IsPlaceFor new key place
placed_for old new key place same is link in_slots in_rows slots rows entered =
    let slots_same = ap (λ (c : Cells). length c.slots) same in
    let rows_same = ap (λ (c : Cells). length c.pointers) same in
    record {
      number_is = is ∙ ap (λ (c : Cells). next_place (slots_of c.header)) (sym same);
      link = λ slot goes. subst (λ (c : Cells). IsLink (table_of c) place.header slot) (sym same) (link slot goes);
      slot_room = omega (arith, in_slots, slots, slots_same);
      row_room = omega (arith, in_rows, rows, rows_same);
      key_room = entered;
    }

-- a slot that goes there is prepared
pub linking_prepared : (held : Held) (place : Place) (slot : Slot) → slot.row ≡ place.row → slot.next ≡ place.next → IsPlaceFor held slot.key place
    → IsStored held.cells.short slot → IsPrepared held (record { header = place.header; number = place.number; slot = slot })
linking_prepared held place slot row next is stored = record {
  number = is.number_is;
  link = is.link slot (record { its_row = row; its_next = next; its_key = refl });
  stored = stored;
  slot_room = is.slot_room;
  row_room = (let room = is.row_room in omega (arith, room, row));
  key_room = is.key_room;
}

-- the version of a write is prepared where the next version of its key goes
pub version_prepared : (old new : Held) (key : List ℕ) (place : Place) (xn : ℕ) (write : Write) (slot : Slot) (linking : Linking) → new.cells ≡ old.cells
    → key ≡ bytes_of_key write → slot ≡ version_of xn place.next place.row write → IsTrue (is_short old.cells.short) → FitsSlot old.cells.short write
    → IsPlaceFor new key place → ((held : Held) → IsPlaceFor held slot.key place → IsStored held.cells.short slot → IsPrepared held linking) → IsPrepared new linking
version_prepared old new key place xn write slot linking same key_is is short fits its_place prepares =
    let its_key : key ≡ slot.key = key_is ∙ sym (key_of_version xn place.next place.row write) ∙ ap (λ (s : Slot). s.key) (sym is) in
    let stored : IsStored old.cells.short slot = subst (λ (s : Slot). IsStored old.cells.short s) (sym is) (stored_version old.cells.short xn place.next place.row write short fits) in
    prepares new (subst (λ (k : List ℕ). IsPlaceFor new k place) its_key its_place)
    (subst (λ (c : Cells). IsStored c.short slot) (sym same) stored)

-- an item that was read
pub read : {X : Type 0} (items : List X) (i : ℕ) (x d : X) → i < length items → x ≡ get_or items i x → x ≡ get_or items i d
read items i x d lt at = at ∙ get_or_default items i x d lt
