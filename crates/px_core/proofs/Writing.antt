-- A write: its version, and the frame of it.
use Rattle.std.proofs.Common.{◌≡◌, ◌≢◌, ℕ, ◌≤◌, true, false, List, length, Some, None, Result, Ok, Err, refl, sym, ap, subst, ◌∙◌, inl, inr, arith}
use Rattle.std.proofs.lemmas.Bool.{true≢false}
use Rattle.std.specs.Prelude.{⊤}
use Rattle.px_active.proofs.Calls.{refused_leaves as refused_keeps}
use Rattle.px_active.specs.Active.{IsActiveOf}
use Rattle.px_active.specs.declared.active.Active.{Active}
use Rattle.px_answers.specs.Writing.{reply_done}
use Rattle.px_appending.specs.Versions.{FitsFields, MayBeAppended}
use Rattle.px_calls.specs.Histories.{by}
use Rattle.px_calls.specs.declared.call.Call.{Call}
use Rattle.px_calls.specs.declared.call.Call.TheVariants.{Commit, Delete, Insert, Update}
use Rattle.px_calls.specs.declared.reply.Reply.{Reply}
use Rattle.px_calls.specs.Steps.{is_refusal, open_of, reply_of, state_after}
use Rattle.px_cell_laws.proofs.Placing.{write_written}
use Rattle.px_cell_laws.proofs.Showing.{committed_shown}
use Rattle.px_cell_laws.proofs.Writing.{put_alone, put_follows, put_holds, version_writes}
use Rattle.px_cell_laws.specs.Locating.{AreWrittenAt, write_at}
use Rattle.px_cell_laws.specs.Writing.{IsWriteBy}
use Rattle.px_cells.specs.declared.header.Header.{Header}
use Rattle.px_cells.specs.declared.slot.Slot.{Slot}
use Rattle.px_chain.specs.Links.{IsStored}
use Rattle.px_chain_laws.proofs.Keeping.{kept_call}
use Rattle.px_chain_laws.specs.Writing.{write_of as write_by}
use Rattle.px_held.specs.declared.error.HeldError.{HeldError}
use Rattle.px_held.specs.declared.error.HeldError.TheVariants as held
use Rattle.px_held.specs.declared.prepared.Prepared.{Prepared}
use Rattle.px_held.specs.Errors.{HasReadCause}
use Rattle.px_held.specs.Linking.{HasPlaceFor, IsReady, step_of}
use Rattle.px_history.proofs.Holding.{change_held}
use Rattle.px_history.specs.Fitting.{IsStoredNumber, PlacesFit}
use Rattle.px_history.specs.Steps.{Step, after_step}
use Rattle.px_log.specs.declared.error.LogError.{LogError}
use Rattle.px_log.specs.declared.error.LogError.TheVariants as logs
use Rattle.px_log.specs.Errors.{OnShortage}
use Rattle.px_logged.proofs.Adding.{delete_adds, insert_adds, update_adds}
use Rattle.px_logged.proofs.Grown.{others_keep_committed}
use Rattle.px_logged.specs.Logged.{logged}
use Rattle.px_model.specs.declared.machine.Open.{Open}
use Rattle.px_model.specs.declared.write.Write.{Write}
use Rattle.px_model.specs.declared.write.Write.TheVariants.{Put, Delete as DeleteRow}
use Rattle.px_engine.specs.Frames.{syncs}
use Rattle.px_model.specs.Machine.{Machine, commits}
use Rattle.px_model.specs.Rows.{key_written}
use Rattle.px_recs.specs.Text.{SlotFits}
use Rattle.px_shown.specs.Parts.{no_parts}
use Rattle.px_shown.specs.Shown.{write_of}
use Rattle.px_site.proofs.Causes.{no_fall}
use Rattle.px_site.specs.Cause.{Counts}
use Rattle.px_site.specs.declared.error.Fault.{Fault}
use Rattle.px_site.specs.declared.error.Fault.TheVariants.{Read, Write as WriteFault}
use Rattle.px_site.specs.State.{State}
use Rattle.px_standing.specs.Images.{acked}
use Rattle.px_tables.proofs.Prepared.{stored_version}
use Rattle.px_tables.specs.Linking.{FitsSlot, bytes_of_key, version_of}
use Rattle.px_working.proofs.Adding.{write_adds}
use Rattle.px_working.proofs.Calling.{adds_follows, works_on}
use Rattle.px_working.specs.Follows.{last_store, with_step}
use Rattle.px_working.specs.Works.{Works}
use Rattle.px_xacts.specs.declared.write.WriteAt.{WriteAt}
use Rattle.px_xacts.specs.Transactions as xacts
use Rattle.px_xacts.specs.Transactions.{Transactions}
use Rattle.px_xacts_laws.specs.Mirrors.{key_at}
use Rattle.px_core.specs.Core.{IsWell, MayMeet, UnlessEnd, is_write}
use Rattle.px_core.specs.Errors.{of_held}
use Rattle.px_core.specs.Serving.{Does, Finds, HasRoom, IsSmallWrite, MayPut, MeetsOwn, Serves}
use Rattle.px_core.specs.Working.{WorksFor}
use Rattle.px_core.specs.declared.error.CoreError.{CoreError}
use Rattle.px_core.specs.declared.error.CoreError.TheVariants.{OutOfMemory}
use Rattle.px_core.specs.declared.state.Kept.{Kept}
use Rattle.px_core.specs.declared.state.writing.Ready.{Ready}
use Rattle.px_core.proofs.Appended.{FollowsBy, IsFramed}
use Rattle.px_core.proofs.Behind.{does_behind}
use Rattle.px_core.proofs.Ending.{unmoved}
use Rattle.px_core.proofs.Leaving.{refused_leaves}
use Rattle.px_core.proofs.Still.{Still, out_of_memory, read_refused, same_stored, still_answered, still_well, well_sound}

-- ---- a version

pub row_of_version : (xn next row : ℕ) (w : Write) → (version_of xn next row w).row ≡ row
row_of_version xn next row (Put put) = refl
row_of_version xn next row (DeleteRow table key) = refl

pub next_of_version : (xn next row : ℕ) (w : Write) → (version_of xn next row w).next ≡ next
next_of_version xn next row (Put put) = refl
next_of_version xn next row (DeleteRow table key) = refl

pub number_of_version : (xn next row : ℕ) (w : Write) → (version_of xn next row w).xn ≡ xn
number_of_version xn next row (Put put) = refl
number_of_version xn next row (DeleteRow table key) = refl

pub key_of_version : (xn next row : ℕ) (w : Write) → (version_of xn next row w).key ≡ bytes_of_key w
key_of_version xn next row (Put put) = refl
key_of_version xn next row (DeleteRow table key) = refl

pub key_is : (w : Write) → key_written w ≡ ((key_written w).0, bytes_of_key w)
key_is (Put put) = refl
key_is (DeleteRow table key) = refl

-- a slot of a store has room for no more than the longest
pub fits_longest : (short longest : ℕ) (w : Write) → short ≤ longest → FitsSlot short w → FitsSlot longest w
fits_longest short longest (Put put) within fits = (fits.0, omega (arith, within, fits.1))
fits_longest short longest (DeleteRow table key) within fits = fits

-- ---- the call

pub done_answers : (call : Call) → IsSmallWrite call → is_refusal (reply_done call) ≡ false
done_answers (Insert table key tag body) small = refl
done_answers (Update table key tag body) small = refl
done_answers (Delete table key) small = refl
done_answers _ small = absurd small

pub write_isnt_commit : (call : Call) → IsSmallWrite call → call ≢ Commit
write_isnt_commit call small is = subst IsSmallWrite is small

pub write_logged : (m : Machine) (session : ℕ) (call : Call) (x : Open) → IsSmallWrite call → open_of m session ≡ Some x → is_refusal (reply_of m session call) ≡ false
    → length (logged m session call) ≡ 1
write_logged m session (Insert table key tag body) x small at done = ap length (insert_adds m session x table key tag body at done)
write_logged m session (Update table key tag body) x small at done = ap length (update_adds m session x table key tag body at done)
write_logged m session (Delete table key) x small at done = ap length (delete_adds m session x table key at done)
write_logged m session _ x small at done = absurd small

-- ---- what is prepared

pub put_header : (table : ℕ) (header : Header) (slot : Slot) (prepared : Prepared) → step_of prepared ≡ Step.put table header slot → prepared.linking.header ≡ header
put_header table header slot prepared is = cc is

pub put_slot : (table : ℕ) (header : Header) (slot : Slot) (prepared : Prepared) → step_of prepared ≡ Step.put table header slot → prepared.linking.slot ≡ slot
put_slot table header slot prepared is = cc is

pub same_written : (a b : Write) (call : Call) → write_by call ≡ Some a → write_by call ≡ Some b → a ≡ b
same_written a b call is other = some_same a b (sym is ∙ other)
  where
    some_same : (a b : Write) → Some a ≡ Some b → a ≡ b
    some_same a b e = cc e

pub on_shortage : {P : Type 0} (error : LogError) → P → OnShortage error P
on_shortage logs.OutOfMemory p = p
on_shortage (logs.Fault fault) p = tt
on_shortage (logs.LogFull frame) p = tt

pub fits_written : {W : Type 0} (core : Kept W) (session : ℕ) (call : Call) (ready : Ready) (w : Write) → HasRoom core session call ready → write_by call ≡ Some w → FitsSlot core.held.short w
fits_written core session call ready w room is = subst (FitsSlot core.held.short) (same_written room.write w call room.is is) room.fits

pub header_fits : (header : Header) (prepared : Prepared) → prepared.linking.header ≡ header → FitsFields prepared → PlacesFit header
header_fits header prepared is fits = subst PlacesFit is fits.places

pub slot_fits : (slot : Slot) (prepared : Prepared) → prepared.linking.slot ≡ slot → FitsFields prepared → SlotFits slot
slot_fits slot prepared is fits = subst SlotFits is fits.its_slot

-- ---- the frame

module _ {W : Type 0} (state : W → State) (session : ℕ) (call : Call) (ready : Ready) (old : Kept W) (w : Write) (slot : Slot)
    (is : write_by call ≡ Some w) (small : IsSmallWrite call) (fits : FitsSlot old.held.short w) (well : IsWell state old)
    (version : slot ≡ version_of ready.writer.stored ready.place.next ready.place.row w) where
  abbrev its_table : ℕ
  its_table = (key_written w).0

  version_row : slot.row ≡ ready.place.row
  version_row = ap (λ (s : Slot). s.row) version ∙ row_of_version ready.writer.stored ready.place.next ready.place.row w

  version_next : slot.next ≡ ready.place.next
  version_next = ap (λ (s : Slot). s.next) version ∙ next_of_version ready.writer.stored ready.place.next ready.place.row w

  version_xn : slot.xn ≡ ready.writer.stored
  version_xn = ap (λ (s : Slot). s.xn) version ∙ number_of_version ready.writer.stored ready.place.next ready.place.row w

  version_key : slot.key ≡ bytes_of_key w
  version_key = ap (λ (s : Slot). s.key) version ∙ key_of_version ready.writer.stored ready.place.next ready.place.row w

  pub version_stored : IsStored old.held.short slot
  version_stored = subst (IsStored old.held.short) (sym version)
      (stored_version old.held.short ready.writer.stored ready.place.next ready.place.row w well.has.is_short fits)

  -- it goes to its place, and who wrote it has a stored number
  pub append_ready : HasRoom old session call ready → (table : ℕ) → table ≡ its_table → (prepared : Prepared) → step_of prepared ≡ Step.put table ready.place.header slot
      → (HasPlaceFor old.held table slot.key ready.place → IsStored old.held.short slot → IsReady old.held prepared) → MayBeAppended old.held prepared
  append_ready room table same prepared step is_ready =
      let written = same_written room.write w call room.is is in
      record {
        ready = is_ready
            (subst (λ (t : ℕ). HasPlaceFor old.held t slot.key ready.place) (sym same)
            (subst (λ (key : List ℕ). HasPlaceFor old.held its_table key ready.place) (sym version_key)
            (subst (λ (x : Write). HasPlaceFor old.held (key_written x).0 (bytes_of_key x) ready.place) written room.place)))
            version_stored;
        writer = subst IsStoredNumber (sym (ap (λ (s : Slot). s.xn) (put_slot table ready.place.header slot prepared step) ∙ version_xn)) room.stored;
      }

  pub key_taken : (at : WriteAt) → at ≡ record { table = its_table; row = slot.row; slot = ready.place.number; key = slot.key } → key_at at ≡ key_written w
  key_taken at is_at = ap key_at is_at ∙ ap (λ (key : List ℕ). (its_table, key)) version_key ∙ sym (key_is w)

  module _ (m : Machine) (works : WorksFor state old m) (may : MayPut m (last_store works.life) session call ready) where
    short_is : old.held.short ≡ m.short
    short_is = sym works.has.store.short ∙ works.has.short ∙ works.works.short

    pub answered : is_refusal (reply_of m session call) ≡ false
    answered = ap is_refusal may.done ∙ done_answers call small

    pub is_write_by : IsWriteBy no_parts m (last_store works.life) session call its_table ready.place.header slot
    is_write_by = record {
      xact = may.xact;
      is_open = may.is_open;
      answered = answered;
      write = is ∙ ap Some (sym (ap (write_of no_parts its_table) version ∙ version_writes no_parts ready.writer.stored ready.place.next ready.place.row w));
      number = version_xn ∙ may.stored;
      stored = subst (λ (short : ℕ). IsStored short slot) short_is version_stored;
      link = (may.place w is).link slot (record { its_row = version_row; its_next = version_next; its_key = version_key });
    }

    abbrev step : Step
    step = Step.put its_table ready.place.header slot

    pub write_follows : PlacesFit ready.place.header → SlotFits slot → FollowsBy state session call old m works step
    write_follows places its_slot =
        adds_follows committed_shown change_held no_parts (acked m) m works.life works.restart works.marks (state old.site).now session call step works.has.lasts works.works
        (write_adds put_follows put_alone put_holds kept_call no_parts m works.life works.restart session call its_table ready.place.header slot works.works is_write_by places its_slot)

    pub write_goes : Works no_parts (state_after m session call) (with_step works.restart.short works.life step) works.restart
    write_goes =
        works_on no_parts (acked m) m works.life works.restart works.marks (state old.site).now session call step works.has.lasts works.works
        (put_holds no_parts m (last_store works.life) session call its_table ready.place.header slot works.works.holds works.works.kept is_write_by)
        (kept_call m session call works.works.kept)

    pub write_named : (at : WriteAt) (all : Transactions) → at ≡ record { table = its_table; row = slot.row; slot = ready.place.number; key = slot.key }
        → all ≡ xacts.with_write old.active.xacts session at → AreWrittenAt all (after_step (last_store works.life) step)
    write_named at all is_at noted =
        let there : at ≡ write_at (last_store works.life) its_table slot =
        is_at ∙ ap (λ (n : ℕ). record { table = its_table; row = slot.row; slot = n; key = slot.key }) (may.place w is).its_number in
        subst (λ (a : Transactions). AreWrittenAt a (after_step (last_store works.life) step))
        (sym (noted ∙ ap (xacts.with_write old.active.xacts session) there))
        (write_written no_parts m old.active.xacts (last_store works.life) session call its_table ready.place.header slot works.active.mirrors works.works.holds works.written_at is_write_by)

    pub write_commits : commits (state_after m session call) ≡ commits m
    write_commits = (others_keep_committed m session call (write_isnt_commit call small)).commits

    pub write_framed : (reply : Reply) (new : Kept W) (at : WriteAt) → PlacesFit ready.place.header → SlotFits slot → reply ≡ reply_done call
        → IsActiveOf (state_after m session call) new.active
        → at ≡ record { table = its_table; row = slot.row; slot = ready.place.number; key = slot.key } → new.active.xacts ≡ xacts.with_write old.active.xacts session at
        → IsFramed state session call old new step m works reply
    write_framed reply new at places its_slot reply_is active is_at noted = record {
      reply_is = reply_is ∙ sym may.done;
      follows = write_follows places its_slot;
      goes = write_goes;
      active = active;
      written = write_named at new.active.xacts is_at noted;
      one = write_logged m session call may.xact small may.is_open answered;
      one_version = tt;
      writer = omega (arith, version_xn, may.stored, works.works.kept.numbered.open_ones.given session may.xact may.is_open);
    }

-- ---- before it

pub write_reads : (call : Call) (fault : Fault) → is_write call ≡ true → fault ≡ Read → MayMeet call fault
write_reads (Insert table key tag body) fault writes is = inl is
write_reads (Update table key tag body) fault writes is = inl is
write_reads (Delete table key) fault writes is = inl is
write_reads _ fault writes is = absurd (true≢false (sym writes))

pub small_meets : (call : Call) → IsSmallWrite call → MayMeet call WriteFault
small_meets (Insert table key tag body) small = inr refl
small_meets (Update table key tag body) small = inr refl
small_meets (Delete table key) small = inr refl
small_meets _ small = absurd small

pub small_quiet : (m : Machine) (session : ℕ) (call : Call) → IsSmallWrite call → syncs m (by session call) ≡ false
small_quiet m session (Insert table key tag body) small = refl
small_quiet m session (Update table key tag body) small = refl
small_quiet m session (Delete table key) small = refl
small_quiet m session _ small = absurd small

pub write_no_end : (call : Call) → is_write call ≡ true → (P : Type 0) → UnlessEnd call P
write_no_end (Insert table key tag body) writes P = tt
write_no_end (Update table key tag body) writes P = tt
write_no_end (Delete table key) writes P = tt
write_no_end _ writes P = absurd (true≢false (sym writes))

pub small_no_end : (call : Call) → IsSmallWrite call → (P : Type 0) → UnlessEnd call P
small_no_end (Insert table key tag body) small P = tt
small_no_end (Update table key tag body) small P = tt
small_no_end (Delete table key) small P = tt
small_no_end _ small P = absurd small

meets_own : (call : Call) (old new : Counts) (error : HeldError) → is_write call ≡ true → HasReadCause old new error → MeetsOwn call error
meets_own call old new held.OutOfMemory writes cause = tt
meets_own call old new (held.Fault fault) writes cause = write_reads call fault writes cause.0
meets_own call old new (held.Damaged file place) writes cause = tt

module _ {W : Type 0} (tells : Type 0) (state : W → State) (counts : W → Counts) (session : ℕ) (call : Call) (old mid : Kept W)
    (writes : is_write call ≡ true) (well : IsWell state old) (whole : old.error ≡ None) where
  finds_still : (result : Result (Result Ready Reply) HeldError) → Finds tells state counts session call old mid result → Still tells state old mid
  finds_still result finds = record {
    form = finds.reads.stays.form;
    keeps = finds.reads.stays.keeps;
    same = finds.reads.stays.same;
    log = ap (λ (k : Kept W). k.log) finds.rest;
    error = ap (λ (k : Kept W). k.error) finds.rest;
  }

  finds_same : (result : Result (Result Ready Reply) HeldError) → Finds tells state counts session call old mid result → mid.active ≡ old.active
  finds_same result finds = ap (λ (k : Kept W). k.active) finds.rest

  pub write_gives_up : (error : HeldError) → Finds tells state counts session call old mid (Err error) → Serves tells state counts session call old mid (Err (of_held error))
  write_gives_up error finds =
      let same = finds_same (Err error) finds in
      read_refused tells state counts session call old mid (λ m works. ⊤) (finds_still (Err error) finds) well whole (ap (λ (a : Active). a.commits) same)
      (same_stored old.active mid.active same)
      finds.reads.stays.none_fell same (write_no_end call writes) error finds.reads.cause.fault
      (meets_own call (counts old.site) (counts mid.site) error writes finds.reads.cause.fault)
      (λ t. finds.reads.cause.sound t old.held.short well.store well.has.serves (well_sound state old well))

  pub write_refused : (reply : Reply) → Finds tells state counts session call old mid (Ok (Err reply)) → Serves tells state counts session call old mid (Ok reply)
  write_refused reply finds =
      let same = finds_same (Ok (Err reply)) finds in
      still_answered tells state counts session call old mid (λ m works. ⊤) (finds_still (Ok (Err reply)) finds) well whole
      (ap (λ (a : Active). a.commits) same) (same_stored old.active mid.active same) finds.reads.stays.none_fell reply
      (λ t m works holds.
      let is = finds.refused t m works in
      let refused : is_refusal (reply_of m session call) ≡ true = ap is_refusal (sym is) ∙ finds.refusal in
      record {
        reply_is = is;
        leaves = refused_leaves m session call refused;
        active = refused_keeps m mid.active session call (subst (IsActiveOf m) (sym same) works.active) refused;
        written = subst (λ (a : Active). AreWrittenAt a.xacts (last_store works.life)) (sym same) works.written_at;
      })

  pub write_does : (ready : Ready) (new : Kept W) (result : Result Reply CoreError) → Finds tells state counts session call old mid (Ok (Ok ready))
      → Does tells state counts session call mid new (λ m works. MayPut m (last_store works.life) session call ready) result
      → Serves tells state counts session call old new result
  write_does ready new result finds does =
      does_behind tells state counts session call old mid new (finds_still (Ok (Ok ready)) finds) (finds_same (Ok (Ok ready)) finds) finds.reads.stays.none_fell
      (λ m works. ⊤) (λ m works. MayPut m (last_store works.life) session call ready) result
      (λ t m works holds. finds.may t m works) does

  pub write_well : (result : Result (Result Ready Reply) HeldError) → Finds tells state counts session call old mid result → IsWell state mid
  write_well result finds =
      still_well tells state old mid (finds_still result finds) (ap (λ (a : Active). a.commits) (finds_same result finds))
      (same_stored old.active mid.active (finds_same result finds)) well

-- ---- want of memory

pub no_memory : {W : Type 0} (tells : Type 0) (state : W → State) (counts : W → Counts) (session : ℕ) (call : Call) (old : Kept W) (active : Active)
    (Holds : (m : Machine) → WorksFor state old m → Type 0) → active ≡ old.active → IsWell state old → old.error ≡ None → IsSmallWrite call
    → Does tells state counts session call old (record old { active = active }) Holds (Err OutOfMemory)
no_memory tells state counts session call old active Holds same well whole small =
    out_of_memory tells state counts session call old (record old { active = active }) Holds (unmoved tells state old active) well whole
    (ap (λ (a : Active). a.commits) same) (same_stored old.active active same) no_fall same (small_no_end call small _)
