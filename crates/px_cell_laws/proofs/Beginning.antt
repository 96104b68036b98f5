-- Who may commit, and a tidied store.
use Rattle.std.proofs.Common.{◌≡◌, ℕ, ◌+◌, ◌-◌, ◌<◌, ◌≤◌, ◌==◌, Bool, true, false, cond, reverse, inl, List, [], ◌∷◌, Option, Some, None, option_map, refl, sym, ap, ◌∙◌, arith}
use Rattle.std.specs.Prelude.{All}
use Rattle.std.proofs.lemmas.Bool.{false≢true, le-leb, lt-leb, ne_eqb}
use Rattle.std.proofs.lemmas.List.Elements.{All-nil, All-cons, All-head, All-same}
use Rattle.px_calls.specs.Steps.{open_of}
use Rattle.px_cells.specs.declared.slot.Slot.{Slot}
use Rattle.px_cells.specs.declared.slot.SlotState.{SlotState}
use Rattle.px_cells.specs.declared.slot.SlotState.TheVariants as state
use Rattle.px_model.specs.declared.standing.Standing.TheVariants.{Before, Open as OpenYet}
use Rattle.px_chain.specs.Sound.{IsUsedRow, key_of}
use Rattle.px_chain_laws.specs.Kept.{IsKept}
use Rattle.px_chain_laws.specs.Reading.{is_committed, standing_in}
use Rattle.px_chain_laws.proofs.Looking.{by}
use Rattle.px_chain_laws.proofs.Moving.{fresh_chain}
use Rattle.px_chain_laws.proofs.Standings.{open_are_open, standing_of_none}
use Rattle.px_history.specs.Store.{IsOneRow, IsOpen, IsTidied, Store, versions_of}
use Rattle.px_history.specs.Writers.{HaveOneWriter}
use Rattle.px_model.specs.Chains.{of_opening}
use Rattle.px_model.specs.Machine.{Machine, fresh}
use Rattle.px_model.specs.Rows.{Key, row_at}
use Rattle.px_model.specs.declared.machine.Open.{Open}
use Rattle.px_model.specs.declared.machine.Variation.{Variation}
use Rattle.px_model.specs.declared.row.Row.{Row}
use Rattle.px_machine_laws.specs.Seen.{row_left}
use Rattle.px_shown.specs.Shown.{Done, Shows, row_of, row_shown, write_in, write_of}
use Rattle.px_shown.specs.Tables.{AreSound}
use Rattle.px_shown.specs.Writes.{HasNoneOf}
use Rattle.px_shown.proofs.Writing.{nothing_in_front}
use Rattle.px_cell_laws.specs.Holding.{HoldsChains, if_any, is_rolled_back, newest_first, number_past, variations_in}
use Rattle.px_cell_laws.proofs.Chained.{all_rows}
use Rattle.px_cell_laws.proofs.Ends.{standing_past}
use Rattle.px_shown.specs.Parts.{Parts}

open_by : (parts : Parts) (m : Machine) (store : Store) (xn : ℕ) → HoldsChains parts m store → m.base < xn → standing_in m (Some xn) ≡ OpenYet → IsOpen store xn
open_by parts m store xn h past is = record {
  undone = h.done xn past ∙ ap is_committed is;
  not_over = h.over xn past ∙ ap is_rolled_back is;
}

pub open_may_commit : (parts : Parts) (m : Machine) (store : Store) (session : ℕ) (xact : Open) → HoldsChains parts m store → IsKept m → open_of m session ≡ Some xact
    → IsOpen store (m.base + xact.number)
open_may_commit parts m store session xact h k at =
    open_by parts m store (m.base + xact.number) h (omega (arith, k.numbered.open_ones.from_one session xact at)) (open_are_open m k.numbered session xact at)

pub unbegun_may_commit : (parts : Parts) (m : Machine) (store : Store) (xn : ℕ) → HoldsChains parts m store → IsKept m → m.base + m.begun < xn → IsOpen store xn
unbegun_may_commit parts m store xn h k past =
    open_by parts m store xn h (omega (arith, past))
    (standing_past m xn (omega (arith, past)) ∙ standing_of_none 0 m.ended (xn - m.base) (λ i e at same. omega (arith, k.numbered.given i e at, same, past)))

-- ---- a tidied store

-- one version, done and a row, is what the key had at the opening
one_row : (parts : Parts) (base t : ℕ) (done : Done) (slot : Slot) → slot.state ≡ state.Row → done slot.xn ≡ true → slot.xn ≤ base
    → if_any (of_opening (row_shown parts t done (slot ∷ []))) ≡ variations_in parts base t (slot ∷ [])
one_row parts base t done slot here is low =
    let row : Row = row_of parts t slot in
    let found : row_shown parts t done (slot ∷ []) ≡ Some row =
    ap (λ (b : Bool). row_left None (option_map (write_of parts t) (cond b (Some slot) None))) is
    ∙ ap (λ (s : SlotState). row_left None (Some (write_in parts s t slot))) here in
    let number : number_past base slot.xn ≡ None = ap (λ (b : Bool). cond b None (Some slot.xn)) (le-leb slot.xn base low) in
    ap (λ (o : Option Row). if_any (of_opening o)) found
    ∙ sym (ap (λ (xn : Option ℕ). Some (by xn (write_of parts t slot) ∷ [])) number
    ∙ ap (λ (s : SlotState). Some (by None (write_in parts s t slot) ∷ [])) here)

tidied_row : (parts : Parts) (rows : List Row) (base : ℕ) (store : Store) (t row : ℕ) → IsOneRow store.done (versions_of store t row)
    → All (λ slot. slot.xn ≤ base) (versions_of store t row)
    → row_at (t, key_of (store.tables t) row) rows ≡ row_shown parts t store.done (versions_of store t row)
    → if_any (of_opening (row_at (t, key_of (store.tables t) row) rows)) ≡ variations_in parts base t (versions_of store t row)
tidied_row parts rows base store t row one low shown =
    let below : All (λ (s : Slot). s.xn ≤ base) (one.slot ∷ []) = All-same (λ (s : Slot). s.xn ≤ base) (one.slot ∷ []) (versions_of store t row) (sym one.alone) low in
    ap (λ (o : Option Row). if_any (of_opening o)) (shown ∙ ap (row_shown parts t store.done) one.alone)
    ∙ one_row parts base t store.done one.slot one.here one.its_done (All-head (λ (s : Slot). s.xn ≤ base) one.slot [] below)
    ∙ ap (variations_in parts base t) (sym one.alone)

fresh_newest : (tables short : ℕ) (rows : List Row) (before base : ℕ) (key : Key)
    → newest_first (fresh tables short rows before base) key ≡ if_any (of_opening (row_at key rows))
fresh_newest tables short rows before base key =
    ap (λ (l : List Variation). if_any (reverse l)) (fresh_chain tables short rows before base key) ∙ at_most_one (row_at key rows)
  where
    at_most_one : (row : Option Row) → if_any (reverse (of_opening row)) ≡ if_any (of_opening row)
    at_most_one None = refl
    at_most_one (Some row) = refl

pub tidied_holds : (parts : Parts) (tables short : ℕ) (rows : List Row) (before base : ℕ) (store : Store) → AreSound short store.tables store.layouts
    → IsTidied store → Shows parts store.tables store.layouts store.done rows
    → ((t row : ℕ) → IsUsedRow (store.tables t) row → All (λ slot. slot.xn ≤ base) (versions_of store t row))
    → ((xn : ℕ) → base < xn → IsOpen store xn)
    → HoldsChains parts (fresh tables short rows before base) store
unfolding fresh
tidied_holds parts tables short rows before base store sound tidied shows low past =
    let nobody : (xn : ℕ) → base < xn → standing_in (fresh tables short rows before base) (Some xn) ≡ OpenYet =
    λ xn above. ap (λ (b : Bool). cond b Before OpenYet) (lt-leb xn base above) in
    record {
      sound = sound;
      chains = record {
        of_row = λ t row used. fresh_newest tables short rows before base (t, key_of (store.tables t) row)
            ∙ tidied_row parts rows base store t row (tidied.each t row used) (low t row used) (shows.keys.of_row t row used);
        of_none = λ key none. fresh_newest tables short rows before base key ∙ ap (λ (o : Option Row). if_any (of_opening o)) (shows.keys.of_none key none);
      };
      found = all_rows (λ (slot : Slot). slot.xn ≤ base → store.done slot.xn ≡ true) short store sound (λ t row used.
          let one = tidied.each t row used in
          All-same (λ (slot : Slot). slot.xn ≤ base → store.done slot.xn ≡ true) (versions_of store t row) (one.slot ∷ []) one.alone
          (All-cons (λ (slot : Slot). slot.xn ≤ base → store.done slot.xn ≡ true) one.slot [] (λ below. one.its_done)
          (All-nil (λ (slot : Slot). slot.xn ≤ base → store.done slot.xn ≡ true))));
      done = λ xn above. (past xn above).undone ∙ sym (ap is_committed (nobody xn above));
      over = λ xn above. (past xn above).not_over ∙ sym (ap is_rolled_back (nobody xn above));
    }

-- ---- its writers

not_of : (store : Store) (xn t row : ℕ) → IsOneRow store.done (versions_of store t row) → IsOpen store xn → HasNoneOf xn (versions_of store t row)
not_of store xn t row one its =
    All-same (λ (s : Slot). (s.xn == xn) ≡ false) (versions_of store t row) (one.slot ∷ []) one.alone
    (All-cons (λ (s : Slot). (s.xn == xn) ≡ false) one.slot []
    (ne_eqb one.slot.xn xn (λ same. false≢true (sym its.undone ∙ ap store.done (sym same) ∙ one.its_done)))
    (All-nil (λ (s : Slot). (s.xn == xn) ≡ false)))

pub tidied_writers : (short : ℕ) (store : Store) → AreSound short store.tables store.layouts → IsTidied store → HaveOneWriter store
tidied_writers short store sound tidied = record {
  apart = λ a b open_a open_b differ t row. inl (all_rows (λ (s : Slot). (s.xn == a) ≡ false) short store sound (λ n q used. not_of store a n q (tidied.each n q used) open_a) t row);
  in_front = λ xn its. nothing_in_front store.done xn store.tables store.layouts (λ t row used. not_of store xn t row (tidied.each t row used) its);
}
