-- Zero bytes are those of a cell that was never used.
use Rattle.std.proofs.Common.{◌≡◌, ℕ, ◌+◌, ◌-◌, ◌++◌, replicate, refl, sym, subst, arith}
use Rattle.std.proofs.lemmas.List.{replicate-append-replicate}
use Rattle.std.proofs.lemmas.List.Elements.{All-nil}
use Rattle.px_cells.specs.declared.limits.TheConstants.{HEADER_SIZE, SLOT_HEAD_SIZE, POINTER_SIZE}
use Rattle.px_cells.specs.Form.{is_slot}
use Rattle.px_recs.specs.Text.{HeaderAt, PointerAt, SlotAt, header_text, padded, pointer_text, slot_text}
use Rattle.px_chain.specs.Sound.{no_places}
use Rattle.px_cells.specs.Unused.{free_pointer, unused_slot}

pub unused_header : HeaderAt (replicate HEADER_SIZE 0) no_places
unfolding header_text
unused_header = record {
  fits = record { slots = omega arith; free_slot = omega arith; rows = omega arith; free_row = omega arith };
  text = refl;
}

pub unused_pointer : PointerAt (replicate POINTER_SIZE 0) free_pointer
unfolding pointer_text
unused_pointer = record { fits = omega arith; text = refl }

zeros : (m n : ℕ) → replicate {A = ℕ} (m + n) 0 ≡ replicate m 0 ++ replicate n 0
zeros m n = sym (replicate-append-replicate {A = ℕ} m n 0)

pub never_used : (short : ℕ) → SlotAt short (replicate (SLOT_HEAD_SIZE + short) 0) unused_slot
unfolding slot_text padded is_slot
never_used short = record {
  form = refl;
  fits = record {
    xn = omega arith;
    next = omega arith;
    row = omega arith;
    tag = omega arith;
    total = omega arith;
    log = omega arith;
    place = omega arith;
    key = All-nil _;
    short = All-nil _;
  };
  text = subst (λ (n : ℕ). replicate (SLOT_HEAD_SIZE + short) 0 ≡ replicate {A = ℕ} SLOT_HEAD_SIZE 0 ++ replicate n 0) (no_less short) (zeros SLOT_HEAD_SIZE short);
}
  where
    no_less : (n : ℕ) → n ≡ n - 0
    no_less n = omega arith
