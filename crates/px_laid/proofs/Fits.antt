-- The contents that an unlink gives are read again where they were written.
use Rattle.std.proofs.Common.{ℕ, ◌≤◌, ◌<◌, ◌^◌, Bool, true, false, cond, IsTrue, List, [], ◌∷◌, ◌++◌, map, drop, arith}
use Rattle.std.specs.Prelude.{All}
use Rattle.std.specs.List.{AllByRecursion}
use Rattle.std.proofs.lemmas.List.Elements.{All-nil, All-cons, All-head, All-tail, All-append, All-take, All-drop}
use Rattle.px_cells.specs.declared.header.Header.{Header}
use Rattle.px_cells.specs.declared.slot.Slot.{Slot}
use Rattle.px_cells.specs.Form.{is_slot}
use Rattle.px_recs.specs.Text.{HeaderFits, SlotFits}
use Rattle.px_chain.specs.declared.chain.Linked.{Linked}
use Rattle.px_chain.specs.Links.{IsStored, Parts, chain_of, content_of, first_or, freed, freed_slot, is_emptied, parts_of, relinked, row_of, unlink_cells, unlinked_pointer, unlinked_slots}
use Rattle.px_chain.specs.Sound.{IsSound, IsUsedRow, IsVariation, Layout}
use Rattle.px_chain.specs.Table.{Content, Table}
use Rattle.px_chain.proofs.Forms.{all_in_order, freed_form, relinked_form}
use Rattle.px_laid.specs.Places.{Places}
use Rattle.px_laid.specs.Says.{ContentFits, Says}

-- a slot of a chain whose cell is read
record IsThere (short : ℕ) (linked : Linked) : Type 0 where
  pub number : linked.number < 2 ^ 32
  pub stored : IsStored short linked.slot
  pub fits : SlotFits linked.slot

-- a slot that may be written
record IsWritten (short : ℕ) (linked : Linked) : Type 0 where
  pub form : IsTrue (is_slot short linked.slot)
  pub fits : SlotFits linked.slot

first_fits : (short : ℕ) (slots : List Linked) (other : ℕ) → All (IsThere short) slots → other < 2 ^ 32 → first_or slots other < 2 ^ 32
first_fits short [] other all fits = fits
first_fits short (first ∷ others) other all fits = (All-head (IsThere short) first others all).number

row_fits : (short : ℕ) (slots : List Linked) → All (IsThere short) slots → row_of slots < 2 ^ 32
row_fits short [] all = omega arith
row_fits short (first ∷ others) all = (All-head (IsThere short) first others all).fits.row

freed_fits : (slot : Slot) (next : ℕ) → SlotFits slot → next < 2 ^ 32 → SlotFits (freed_slot slot next)
freed_fits slot next fits to = record {
  xn = omega arith;
  next = to;
  row = omega arith;
  tag = fits.tag;
  total = omega arith;
  log = omega arith;
  place = omega arith;
  key = fits.key;
  short = All-nil _;
}

relinked_fits : (slot : Slot) (next : ℕ) → SlotFits slot → next < 2 ^ 32 → SlotFits (record slot { next = next })
relinked_fits slot next fits to = record {
  xn = fits.xn;
  next = to;
  row = fits.row;
  tag = fits.tag;
  total = fits.total;
  log = fits.log;
  place = fits.place;
  key = fits.key;
  short = fits.short;
}

all_freed : (short front : ℕ) (slots : List Linked) → All (IsThere short) slots → front < 2 ^ 32 → All (IsWritten short) (freed slots front)
all_freed short front [] all to = All-nil (IsWritten short)
all_freed short front (first ∷ others) all to =
    let here = All-head (IsThere short) first others all in
    let behind = All-tail (IsThere short) first others all in
    All-cons (IsWritten short) _ (freed others front)
    (record { form = freed_form short (first_or others front) first.slot here.stored; fits = freed_fits first.slot (first_or others front) here.fits (first_fits short others front behind to) })
    (all_freed short front others behind to)

all_relinked : (short next : ℕ) (slots : List Linked) → All (IsThere short) slots → next < 2 ^ 32 → All (IsWritten short) (relinked slots next)
all_relinked short next [] all to = All-nil (IsWritten short)
all_relinked short next (last ∷ []) all to =
    let here = All-head (IsThere short) last [] all in
    All-cons (IsWritten short) _ [] (record { form = relinked_form short next last.slot here.stored; fits = relinked_fits last.slot next here.fits to }) (All-nil (IsWritten short))
all_relinked short next (first ∷ (second ∷ others)) all to = all_relinked short next (second ∷ others) (All-tail (IsThere short) first (second ∷ others) all) to

contents_fit : (short : ℕ) (slots : List Linked) (behind : List Content) → All (IsWritten short) slots → AllByRecursion (ContentFits short) behind
    → AllByRecursion (ContentFits short) (map content_of slots ++ behind)
contents_fit short [] behind all fit = fit
contents_fit short (first ∷ others) behind all fit =
    let here = All-head (IsWritten short) first others all in
    ((here.form, here.fits), contents_fit short others behind (All-tail (IsWritten short) first others all) fit)

chosen_fits : (here : Bool) (m n : ℕ) → m < 2 ^ 32 → n < 2 ^ 32 → cond here m n < 2 ^ 32
chosen_fits true m n to other = to
chosen_fits false m n to other = other

-- the parts of a chain whose cells are read
record AreThere (short : ℕ) (header : Header) (parts : Parts) : Type 0 where
  pub fits : HeaderFits header
  pub before : All (IsThere short) parts.before
  pub gone : All (IsThere short) parts.gone
  pub behind : All (IsThere short) parts.behind

pointer_fits : (short : ℕ) (header : Header) (before gone behind : List Linked) → HeaderFits header → All (IsThere short) behind
    → AllByRecursion (ContentFits short) (unlinked_pointer header (record { before = before; gone = gone; behind = behind }))
pointer_fits short header (x ∷ xs) gone behind fits all = tt
pointer_fits short header [] gone [] fits all = (fits.free_row, tt)
pointer_fits short header [] gone (y ∷ ys) fits all = (first_fits short (y ∷ ys) 0 all (omega arith), tt)

parts_fit : (short : ℕ) (header : Header) (parts : Parts) → AreThere short header parts → AllByRecursion (ContentFits short) (unlink_cells header parts)
parts_fit short header parts there = (
  record {
    slots = there.fits.slots;
    free_slot = first_fits short parts.gone header.free_slot there.gone there.fits.free_slot;
    rows = there.fits.rows;
    free_row = chosen_fits (is_emptied parts) (row_of parts.gone) header.free_row (row_fits short parts.gone there.gone) there.fits.free_row;
  },
  contents_fit short (unlinked_slots header parts) (unlinked_pointer header parts)
      (all_in_order (IsWritten short) [] (relinked parts.before (first_or parts.behind 0) ++ freed parts.gone header.free_slot) (All-nil (IsWritten short))
      (All-append (IsWritten short) (relinked parts.before (first_or parts.behind 0)) (freed parts.gone header.free_slot)
      (all_relinked short (first_or parts.behind 0) parts.before there.before (first_fits short parts.behind 0 there.behind (omega arith)))
      (all_freed short header.free_slot parts.gone there.gone there.fits.free_slot)))
      (pointer_fits short header parts.before parts.gone parts.behind there.fits there.behind),
)

chain_there : (short number : ℕ) (table : Table) (places : Places) (layout : Layout) (row : ℕ) → Says short number table places → IsSound short table layout
    → (chain : List ℕ) → All (IsVariation table row) chain → All (IsThere short) (chain_of table chain)
chain_there short number table places layout row says sound [] all = All-nil (IsThere short)
chain_there short number table places layout row says sound (n ∷ chain) all =
    let here = All-head (IsVariation table row) n chain all in
    let within : n ≤ table.header.slots = here.place.1 in
    let counted : table.header.slots < 2 ^ 32 = says.header.fits.slots in
    All-cons (IsThere short) _ (chain_of table chain)
    (record { number = omega (arith, within, counted); stored = record { form = sound.form n here.place; used = here.used }; fits = (says.slot n).fits })
    (chain_there short number table places layout row says sound chain (All-tail (IsVariation table row) n chain all))

pub unlinked_fit : (short number : ℕ) (table : Table) (places : Places) (layout : Layout) (row from count : ℕ) → Says short number table places → IsSound short table layout
    → IsUsedRow table row → AllByRecursion (ContentFits short) (unlink_cells table.header (parts_of (chain_of table (layout.chain row)) from count))
unlinked_fit short number table places layout row from count says sound used =
    let chain = chain_of table (layout.chain row) in
    let all = chain_there short number table places layout row says sound (layout.chain row) (sound.chains row used).variations in
    let rest = All-drop (IsThere short) from chain all in
    parts_fit short table.header (parts_of chain from count) (record {
      fits = says.header.fits;
      before = All-take (IsThere short) from chain all;
      gone = All-take (IsThere short) count (drop from chain) rest;
      behind = All-drop (IsThere short) count (drop from chain) rest;
    })
