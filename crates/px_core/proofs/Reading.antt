-- A call that changes no cell and adds no frame, as the core's own parts do it.
use Rattle.std.proofs.Common.{◌≡◌, ℕ, Bool, cond, true, false, List, None, Result, Ok, Err, refl, sym, ap, subst, ◌∙◌}
use Rattle.std.specs.Prelude.{IfErr, IfOk, OnErr, OnOk}
use Rattle.px_calls.specs.declared.call.Call.{Call}
use Rattle.px_calls.specs.declared.call.Call.TheVariants.{Begin, Get, Hold, Fetch, Find, Scan, Insert, Update, Delete, Commit, Rollback}
use Rattle.px_active.proofs.Calls.{hold_leaves}
use Rattle.px_active.specs.Active.{AreStored, IsActiveOf, only_reads}
use Rattle.px_active.specs.declared.active.Active.{Active}
use Rattle.px_answers.specs.Asking.{IsCallerOf, IsCallerOn}
use Rattle.px_answers.specs.declared.caller.Caller.{Caller}
use Rattle.px_answers.specs.Keeping.{KeepsTickets}
use Rattle.px_answers.specs.Reading.{ReadsOnly}
use Rattle.px_answers.specs.Reading as answers
use Rattle.px_answers.specs.Seeing.{Sees}
use Rattle.px_calls.specs.declared.reply.Reply.{Reply}
use Rattle.px_calls.specs.Steps.{is_refusal, reply_of, state_after, state_when_done}
use Rattle.px_cell_laws.proofs.Noting.{begin_written}
use Rattle.px_cell_laws.specs.Locating.{AreWrittenAt}
use Rattle.px_chain_laws.specs.Kept.{IsKept}
use Rattle.px_held.specs.declared.error.HeldError.TheVariants as held
use Rattle.px_held.specs.Errors.{HasReadCause}
use Rattle.px_held.specs.Serving.{HeldTables}
use Rattle.px_site.proofs.Causes.{no_fall}
use Rattle.px_site.specs.declared.error.Fault.{Fault}
use Rattle.px_site.specs.declared.error.Fault.TheVariants.{Read}
use Rattle.px_xacts.specs.Transactions as xacts
use Rattle.px_xacts_laws.specs.Mirrors.{Mirrors}
use Rattle.px_xacts.specs.Transactions.{Transactions}
use Rattle.px_held.specs.declared.error.HeldError.{HeldError}
use Rattle.px_model.specs.Machine.{Machine}
use Rattle.px_site.specs.Cause.{Counts}
use Rattle.px_site.specs.State.{State}
use Rattle.px_working.specs.Follows.{last_store}
use Rattle.px_core.specs.Core.{IsWell, MayMeet, UnlessEnd, adds_nothing}
use Rattle.px_core.specs.Errors.{of_held}
use Rattle.px_core.specs.Serving.{Does, MeetsOwn, Reads}
use Rattle.px_core.specs.Working.{WorksFor}
use Rattle.px_core.specs.declared.state.Kept.{Kept}
use Rattle.px_core.proofs.Leaving.{read_leaves}
use Rattle.px_core.proofs.Still.{Still, read_refused, same_stored, sees, still_answered, well_sound}

pub no_end : (call : Call) → adds_nothing call ≡ true → (P : Type 0) → UnlessEnd call P
no_end Commit silent P = absurd cc
no_end Rollback silent P = absurd cc
no_end Begin silent P = tt
no_end (Get table key) silent P = tt
no_end (Hold table key) silent P = tt
no_end (Fetch ticket) silent P = tt
no_end (Find table tag) silent P = tt
no_end (Scan table) silent P = tt
no_end (Insert table key tag body) silent P = tt
no_end (Update table key tag body) silent P = tt
no_end (Delete table key) silent P = tt

module _ {W : Type 0} (tells : Type 0) (state : W → State) (counts : W → Counts) (session : ℕ) (call : Call) (old new : Kept W)
    (Holds : (m : Machine) → WorksFor state old m → Type 0) (silent : adds_nothing call ≡ true) (well : IsWell state old) (whole : old.error ≡ None) where
  reads_still : (result : Result Reply HeldError) → Reads tells state counts session call old new result → Still tells state old new
  reads_still result reads = record {
    form = reads.reads.stays.form;
    keeps = reads.reads.stays.keeps;
    same = reads.reads.stays.same;
    log = ap (λ (k : Kept W). k.log) reads.rest;
    error = ap (λ (k : Kept W). k.error) reads.rest;
  }

  pub reads_answered : (reply : Reply) → Reads tells state counts session call old new (Ok reply) → Does tells state counts session call old new Holds (Ok reply)
  reads_answered reply reads =
      still_answered tells state counts session call old new Holds (reads_still (Ok reply) reads) well whole reads.commits reads.stored reads.reads.stays.none_fell reply
      (λ t m works holds. record {
        reply_is = reads.reply t m works;
        leaves = read_leaves m session call silent;
        active = reads.active t m works;
        written = reads.written (last_store works.life) works.written_at;
      })

  pub reads_refused : (error : HeldError) → Reads tells state counts session call old new (Err error) → Does tells state counts session call old new Holds (Err (of_held error))
  reads_refused error reads =
      read_refused tells state counts session call old new Holds (reads_still (Err error) reads) well whole reads.commits reads.stored reads.reads.stays.none_fell reads.err
      (no_end call silent) error reads.reads.cause.fault reads.meets
      (λ t. reads.reads.cause.sound t old.held.short well.store well.has.serves (well_sound state old well))

-- ---- one call each

pub on_ok : {T E P : Type 0} (result : Result T E) → P → OnOk result P
on_ok (Ok done) p = p
on_ok (Err error) p = tt

pub on_err : {T E P : Type 0} (result : Result T E) → P → OnErr result P
on_err (Ok done) p = tt
on_err (Err error) p = p

-- a call that reads leaves the machine
either_way : {A : Type 0} (b : Bool) (x : A) → cond b x x ≡ x
either_way true x = refl
either_way false x = refl

pub read_stays : (m : Machine) (session : ℕ) (call : Call) → only_reads call ≡ true → state_after m session call ≡ m
unfolding state_after state_when_done
read_stays m session (Get table key) reads = either_way (is_refusal (reply_of m session (Get table key))) m
read_stays m session (Fetch ticket) reads = either_way (is_refusal (reply_of m session (Fetch ticket))) m
read_stays m session (Find table tag) reads = either_way (is_refusal (reply_of m session (Find table tag))) m
read_stays m session (Scan table) reads = either_way (is_refusal (reply_of m session (Scan table))) m
read_stays m session _ reads = absurd cc

pub meets_read : (old new : Counts) (call : Call) → ((fault : Fault) → fault ≡ Read → MayMeet call fault) → (result : Result Reply HeldError)
    → IfErr result (HasReadCause old new) → IfErr result (MeetsOwn call)
meets_read old new call meets (Ok reply) cause = tt
meets_read old new call meets (Err held.OutOfMemory) cause = tt
meets_read old new call meets (Err (held.Fault fault)) cause = meets fault cause.0
meets_read old new call meets (Err (held.Damaged file place)) cause = tt

module _ {W : Type 0} (tells : Type 0) (state : W → State) (counts : W → Counts) (session : ℕ) (call : Call) (old new : Kept W)
    (caller : Caller) (is_session : caller.session ≡ session) (is_xacts : caller.xacts.now ≡ old.active.xacts) where
  pub caller_sees : (m : Machine) (works : WorksFor state old m) → Sees (state old.site) old.held caller.xacts.now old.active.locks m (last_store works.life)
  caller_sees m works =
      subst (λ (all : Transactions). Sees (state old.site) old.held all old.active.locks m (last_store works.life)) (sym is_xacts) (sees state old m works)

  pub rows_read : (result : Result Reply HeldError) → only_reads call ≡ true → ((fault : Fault) → fault ≡ Read → MayMeet call fault) → IsCallerOn old.held caller
      → new ≡ record old { site = new.site; held = new.held } → (tells → answers.Answers (state old.site) old.held caller call result)
      → ReadsOnly tells state counts old.site new.site old.held new.held result → Reads tells state counts session call old new result
  rows_read result only meets on rest answer reads =
      let same : new.active ≡ old.active = ap (λ (k : Kept W). k.active) rest in
      record {
        rest = rest ∙ ap (λ (a : Active). record old { site = new.site; held = new.held; active = a }) (sym same);
        reads = reads;
        meets = meets_read (counts old.site) (counts new.site) call meets result reads.cause.fault;
        commits = ap (λ (a : Active). a.commits) same;
        stored = same_stored old.active new.active same;
        err = on_err result same;
        written = λ store at. on_ok result (subst (λ (a : Active). AreWrittenAt a.xacts store) (sym same) at);
        reply = λ t m works. subst (λ (s : ℕ). IfOk result (λ reply. reply ≡ reply_of m s call)) is_session
            (answer t on old.active.locks m (last_store works.life) (caller_sees m works));
        active = λ t m works. on_ok result
            (subst (λ (n : Machine). IsActiveOf n new.active) (sym (read_stays m session call only)) (subst (IsActiveOf m) (sym same) works.active));
      }

-- nothing was called that reads cells
pub reads_none : {W T : Type 0} (tells : Type 0) (state : W → State) (counts : W → Counts) (site : W) (held : HeldTables) (done : T)
    → ReadsOnly tells state counts site site held held (Ok done)
reads_none tells state counts site held done = record {
  stays = record { form = record { short = refl; count = refl }; keeps = λ store serves. serves; same = λ t. refl; none_fell = no_fall };
  cause = record { fault = tt; sound = λ t short store serves sound. tt };
}

module _ {W : Type 0} (tells : Type 0) (state : W → State) (counts : W → Counts) (session : ℕ) (old : Kept W) where
  pub begin_reads : (active : Active) (frames : ℕ) (reply : Reply) → ((m : Machine) → IsActiveOf m old.active → reply ≡ reply_of m session Begin)
      → ((m : Machine) → IsKept m → IsActiveOf m old.active → IsActiveOf (state_after m session Begin) active)
      → active.xacts ≡ xacts.after_begin old.active.xacts session frames → active.commits ≡ old.active.commits
      → (AreStored old.active.xacts → AreStored active.xacts) → Reads tells state counts session Begin old (record old { active = active }) (Ok reply)
  begin_reads active frames reply reply_is is begun count stored = record {
    rest = refl;
    reads = reads_none tells state counts old.site old.held reply;
    meets = tt;
    commits = count;
    stored = stored;
    err = tt;
    written = λ store at. subst (λ (all : Transactions). AreWrittenAt all store) (sym begun) (begin_written old.active.xacts store session frames at);
    reply = λ t m works. reply_is m works.active;
    active = λ t m works. is m works.works.kept works.active;
  }

  pub fetch_reads : (ticket : ℕ) (reply : Reply) → ((m : Machine) → WorksFor state old m → reply ≡ reply_of m session (Fetch ticket))
      → Reads tells state counts session (Fetch ticket) old old (Ok reply)
  fetch_reads ticket reply reply_is = record {
    rest = refl;
    reads = reads_none tells state counts old.site old.held reply;
    meets = tt;
    commits = refl;
    stored = λ stored. stored;
    err = tt;
    written = λ store at. at;
    reply = λ t m works. reply_is m works;
    active = λ t m works. subst (λ (n : Machine). IsActiveOf n old.active) (sym (read_stays m session (Fetch ticket) refl)) works.active;
  }

  pub caller_is : (caller : Caller) → caller.session ≡ session → caller.xacts.now ≡ old.active.xacts → IsCallerOn old.held caller → (m : Machine) → WorksFor state old m
      → IsCallerOf m caller
  caller_is caller is_session is_xacts on m works =
      let seen = sees state old m works in
      record {
        mirrors = subst (Mirrors m) (sym is_xacts) works.active.mirrors;
        tables = on.tables ∙ seen.tables;
        short = on.short ∙ seen.short;
      }

module _ {W : Type 0} (tells : Type 0) (state : W → State) (counts : W → Counts) (session table : ℕ) (key : List ℕ) (old new : Kept W)
    (caller : Caller) (is_session : caller.session ≡ session) (is_xacts : caller.xacts.now ≡ old.active.xacts) where
  kept_if_ok : (m : Machine) (works : WorksFor state old m) (result : Result Reply HeldError) → new.active ≡ record old.active { tickets = new.active.tickets }
      → OnOk result (KeepsTickets new.active.tickets (state_after m caller.session (Hold table key)))
      → OnOk result (IsActiveOf (state_after m session (Hold table key)) new.active)
  kept_if_ok m works (Err error) rest keeps = tt
  kept_if_ok m works (Ok reply) rest keeps =
      subst (IsActiveOf (state_after m session (Hold table key))) (sym rest)
      (hold_leaves m old.active new.active.tickets session table key works.works.kept works.active
      (subst (λ (s : ℕ). KeepsTickets new.active.tickets (state_after m s (Hold table key))) is_session keeps))

  left_if_err : (result : Result Reply HeldError) → new.active ≡ record old.active { tickets = new.active.tickets }
      → OnErr result (new.active.tickets ≡ old.active.tickets) → OnErr result (new.active ≡ old.active)
  left_if_err (Ok reply) rest left = tt
  left_if_err (Err error) rest left = rest ∙ ap (λ t. record old.active { tickets = t }) left

  pub hold_reads : (result : Result Reply HeldError) → IsCallerOn old.held caller
      → new ≡ record old { site = new.site; held = new.held; active = new.active } → new.active ≡ record old.active { tickets = new.active.tickets }
      → (tells → (m : Machine) (works : WorksFor state old m) → IfOk result (λ reply. reply ≡ reply_of m caller.session (Hold table key)))
      → (tells → (m : Machine) (works : WorksFor state old m) → OnOk result (KeepsTickets new.active.tickets (state_after m caller.session (Hold table key))))
      → OnErr result (new.active.tickets ≡ old.active.tickets)
      → ReadsOnly tells state counts old.site new.site old.held new.held result → Reads tells state counts session (Hold table key) old new result
  hold_reads result on rest tickets reply keeps err reads = record {
    rest = rest;
    reads = reads;
    meets = meets_read (counts old.site) (counts new.site) (Hold table key) (λ fault is. is) result reads.cause.fault;
    commits = ap (λ (a : Active). a.commits) tickets;
    stored = λ stored. subst (λ (a : Active). AreStored a.xacts) (sym tickets) stored;
    err = left_if_err result tickets err;
    written = λ store at. on_ok result (subst (λ (all : Transactions). AreWrittenAt all store) (sym (ap (λ (a : Active). a.xacts) tickets)) at);
    reply = λ t m works. subst (λ (s : ℕ). IfOk result (λ reply. reply ≡ reply_of m s (Hold table key))) is_session (reply t m works);
    active = λ t m works. kept_if_ok m works result tickets (keeps t m works);
  }
