use Rattle.std.proofs.Common.{◌≡◌, ℕ, List, refl, sym, ap, subst, ◌∙◌, arith}
use Rattle.std.proofs.lemmas.Result.{err_from_is_err_and}
use Rattle.px_active.specs.Active.{AreStored}
use Rattle.px_appending.specs.Appending.{GoesOn, LastsOn}
use Rattle.px_held.specs.Linking.{step_of}
use Rattle.px_history.specs.Steps.{Step, after_step}
use Rattle.px_model.specs.Machine.{Machine}
use Rattle.px_model.specs.Rows.{key_written}
use Rattle.px_tidying.specs.Opening.{HasStore}
use Rattle.px_working.specs.Follows.{last_store}
use Rattle.px_xacts.specs.declared.write.WriteAt.{WriteAt}
use Rattle.px_core.specs.Core.{opening_of}
use Rattle.px_core.specs.Errors.{kept_after}
use Rattle.px_core.specs.Serving.{MayPut}
use Rattle.px_core.specs.Working.{WorksFor}
use Rattle.px_core.specs.declared.state.Kept.{Kept}
use Rattle.px_core.proofs.Appended.{Appends, Fails, fails_does, framed_does, had_room, stands_on}
use Rattle.px_core.proofs.Ending.{some_logged}
use Rattle.px_core.proofs.Writing.{answered, append_ready, fits_written, header_fits, key_taken, no_memory, on_shortage, put_header, put_slot, slot_fits, small_meets, small_no_end, small_quiet, write_commits, write_follows, write_framed, write_logged}
use Rattle.px_core.proofs.state.Kept.put.Goals as goal

pub returns-in_err-free : goal.returns-in_err-free
returns-in_err-free g c =
    let p = err_from_is_err_and c.from_residual.result c.from_residual.ensures.1 in
    rw (p.1, p.2)
    (no_memory g.W.Site.tells g.W.Site.state g.W.Site.counts c.args.session c.args.call c.args.self.now c.write.new.self
    (λ m works. MayPut m (last_store works.life) c.args.session c.args.call c.args.ready) c.in_err-free.ensures.err c.requires.well c.requires.whole c.requires.room.small)

pub append_version-requires-clause-ready : goal.append_version-requires-clause-ready
append_version-requires-clause-ready g c =
    let old : Kept g.row.W.Denot = c.args.self.now in
    let w = c.write_of-write.result in
    let is = c.write_of-write.ensures in
    let room = c.requires.room in
    append_ready g.W.Site.state c.args.session c.args.call c.args.ready old w c.version-slot.result is room.small
    (fits_written old c.args.session c.args.call c.args.ready w room is) c.requires.well c.version-slot.ensures
    room c.table_of-table.result c.table_of-table.ensures c.link-prepared.result c.link-prepared.ensures.step (c.link-prepared.ensures.ready old.held)

pub returns-in-Err : goal.returns-in-Err
returns-in-Err g c =
    let tells = g.W.Site.tells in
    let state = g.W.Site.state in
    let counts = g.W.Site.counts in
    let old : Kept g.row.W.Denot = c.args.self.now in
    let session = c.args.session in
    let call = c.args.call in
    let ready = c.args.ready in
    let room = c.requires.room in
    let w = c.write_of-write.result in
    let slot = c.version-slot.result in
    let is = c.write_of-write.ensures in
    let fits = fits_written old session call ready w room is in
    let prepared = c.link-prepared.result in
    let at : WriteAt = record { table = c.table_of-table.result; row = slot.row; slot = ready.place.number; key = c.as_slice.result.now } in
    let is_at : at ≡ record { table = (key_written w).0; row = slot.row; slot = ready.place.number; key = slot.key } =
    ap (λ (t : ℕ). record { table = t; row = slot.row; slot = ready.place.number; key = c.as_slice.result.now }) c.table_of-table.ensures
    ∙ ap (λ (key : List ℕ). record { table = (key_written w).0; row = slot.row; slot = ready.place.number; key = key }) c.as_slice.ensures in
    let linked = c.link-prepared.ensures.step in
    let step_is : step_of prepared ≡ Step.put (key_written w).0 ready.place.header slot =
    linked ∙ ap (λ (t : ℕ). Step.put t ready.place.header slot) c.table_of-table.ensures in
    let places = header_fits ready.place.header prepared (put_header c.table_of-table.result ready.place.header slot prepared linked) c.append_version.ensures.fits in
    let its_slot = slot_fits slot prepared (put_slot c.table_of-table.result ready.place.header slot prepared linked) c.append_version.ensures.fits in
    let error = c.in-Err.error in
    let new : Kept g.row.W.Denot = record old {
      site = c.append_version.new.site;
      held = c.append_version.new.held;
      active = c.take_back.new.self;
      log = c.append_version.new.log;
      error = kept_after error old.error;
    } in
    let Holds : (m : Machine) → WorksFor state old m → Type 0 = λ m works. MayPut m (last_store works.life) session call ready in
    let fails : Fails tells state counts old new error = record {
      held = c.in-Err.ensures.as_before.0;
      log = c.in-Err.ensures.as_before.1;
      active = c.take_back.ensures.takes_back old.active ready.writer.number at c.in_ok-free.ensures.noted;
      error_is = refl;
      untouched = c.in-Err.ensures.untouched;
      touches = c.append_version.ensures.touches;
      cause = c.in-Err.ensures.cause;
      own = c.in-Err.ensures.own;
      none_fell = c.append_version.ensures.none_fell;
    } in
    rw (c.after_log_error.ensures.keeps, c.after_log_error.ensures.answer)
    (fails_does tells state counts session call old new Holds c.requires.well error fails (on_shortage error (small_no_end call room.small _)) (small_meets call room.small)
    (λ t m works may. some_logged _ (write_logged m session call may.xact room.small may.is_open
    (answered state session call ready old w slot is room.small fits c.requires.well c.version-slot.ensures m works may)))
    (λ t m works may. stands_on tells state session call old new (Step.put (key_written w).0 ready.place.header slot) t m works
    (write_follows state session call ready old w slot is room.small fits c.requires.well c.version-slot.ensures m works may places its_slot)
    (subst (λ (s : Step). LastsOn tells s (opening_of state old) (opening_of state new)) step_is c.append_version.ensures.moments)))

pub returns : goal.returns
returns g c =
    let tells = g.W.Site.tells in
    let state = g.W.Site.state in
    let counts = g.W.Site.counts in
    let old : Kept g.row.W.Denot = c.args.self.now in
    let session = c.args.session in
    let call = c.args.call in
    let ready = c.args.ready in
    let room = c.requires.room in
    let w = c.write_of-write.result in
    let slot = c.version-slot.result in
    let is = c.write_of-write.ensures in
    let fits = fits_written old session call ready w room is in
    let prepared = c.link-prepared.result in
    let at : WriteAt = record { table = c.table_of-table.result; row = slot.row; slot = ready.place.number; key = c.as_slice.result.now } in
    let is_at : at ≡ record { table = (key_written w).0; row = slot.row; slot = ready.place.number; key = slot.key } =
    ap (λ (t : ℕ). record { table = t; row = slot.row; slot = ready.place.number; key = c.as_slice.result.now }) c.table_of-table.ensures
    ∙ ap (λ (key : List ℕ). record { table = (key_written w).0; row = slot.row; slot = ready.place.number; key = key }) c.as_slice.ensures in
    let linked = c.link-prepared.ensures.step in
    let step_is : step_of prepared ≡ Step.put (key_written w).0 ready.place.header slot =
    linked ∙ ap (λ (t : ℕ). Step.put t ready.place.header slot) c.table_of-table.ensures in
    let places = header_fits ready.place.header prepared (put_header c.table_of-table.result ready.place.header slot prepared linked) c.append_version.ensures.fits in
    let its_slot = slot_fits slot prepared (put_slot c.table_of-table.result ready.place.header slot prepared linked) c.append_version.ensures.fits in
    let new : Kept g.row.W.Denot = record old {
      site = c.append_version.new.site;
      held = c.append_version.new.held;
      active = c.write.new.self;
      log = c.append_version.new.log;
    } in
    let step = Step.put (key_written w).0 ready.place.header slot in
    let appends : Appends tells state counts step old new = record {
      goes = subst (λ (s : Step). GoesOn tells s (opening_of state old) (opening_of state new)) step_is c.in_default.ensures.appended;
      store = λ store has. subst (λ (s : Step). HasStore (after_step store s) (opening_of state new)) step_is (c.in_default.ensures.store store has);
      moments = subst (λ (s : Step). LastsOn tells s (opening_of state old) (opening_of state new)) step_is c.append_version.ensures.moments;
      touches = c.append_version.ensures.touches;
      frames = c.in_default.ensures.frames;
      durable = c.append_version.ensures.shape.durable;
      room = had_room old.log c.in_default.field-0 c.in_default.ensures.full;
      none_fell = c.append_version.ensures.none_fell;
    } in
    let noted = c.in_ok-free.ensures.noted in
    framed_does tells state counts session call old new (λ m works. MayPut m (last_store works.life) session call ready) step c.reply_done-done.result appends
    c.requires.well c.requires.whole (let count = c.write.ensures.commits in omega (arith, count))
    (λ stored. subst AreStored (sym noted.xacts) stored) (λ m. small_quiet m session call room.small)
    (λ t m works may. (
      write_framed state session call ready old w slot is room.small fits c.requires.well c.version-slot.ensures m works may c.reply_done-done.result new at places its_slot
          c.reply_done-done.ensures
          (c.in_ok-free.ensures.active m call may.xact w works.works.kept works.active may.is_open may.number is
          (key_taken state session call ready old w slot is room.small fits c.requires.well c.version-slot.ensures at is_at)
          (answered state session call ready old w slot is room.small fits c.requires.well c.version-slot.ensures m works may))
          is_at noted.xacts,
      write_commits state session call ready old w slot is room.small fits c.requires.well c.version-slot.ensures m works may,
    ))
