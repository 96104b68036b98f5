-- What calls that read leave, one behind the other, and why the last of them gives up.
use Rattle.std.proofs.Common.{◌≡◌, refl, ◌∙◌, arith, Result, Ok, Err, ℕ, sym, subst}
use Rattle.std.specs.Prelude.{IfErr, IsErrAnd}
use Rattle.px_held.specs.declared.error.HeldError.{HeldError}
use Rattle.px_held.specs.declared.error.HeldError.TheVariants.{OutOfMemory, Fault, Damaged}
use Rattle.px_held.specs.Errors.{HasReadCause, IsPassing}
use Rattle.px_held.specs.Serving.{HeldTables, Serves}
use Rattle.px_history.specs.Store.{Store}
use Rattle.px_locks.specs.Holders.{Holders}
use Rattle.px_model.specs.Machine.{Machine}
use Rattle.px_shown.specs.Tables.{AreSound}
use Rattle.px_site.proofs.Causes.{no_fall, then_none_fell}
use Rattle.px_site.specs.Cause.{Counts, NoneFell}
use Rattle.px_site.specs.declared.error.Fault.TheVariants.{Read}
use Rattle.px_site.specs.State.{State}
use Rattle.px_xacts.specs.Transactions.{Transactions}
use Rattle.px_answers.specs.Reading.{ReadsOnly, Stays}
use Rattle.px_answers.specs.Seeing.{Sees}

-- nothing was called
pub stays_here : {W : Type 0} (tells : Type 0) (state : W → State) (counts : W → Counts) (site : W) (held : HeldTables) → Stays tells state counts site site held held
stays_here tells state counts site held = record {
  form = record { short = refl; count = refl };
  keeps = λ store serves. serves;
  same = λ told. refl;
  none_fell = no_fall;
}

pub then_stays : {W tells : Type 0} {state : W → State} {counts : W → Counts} {a b c : W} {h k l : HeldTables} → Stays tells state counts a b h k
    → Stays tells state counts b c k l → Stays tells state counts a c h l
then_stays p q = record {
  form = record { short = q.form.short ∙ p.form.short; count = q.form.count ∙ p.form.count };
  keeps = λ store serves. q.keeps store (p.keeps store serves);
  same = λ told. q.same told ∙ p.same told;
  none_fell = then_none_fell p.none_fell q.none_fell;
}

pub earlier_cause : (a b c : Counts) (error : HeldError) → NoneFell a b → HasReadCause b c error → HasReadCause a c error
earlier_cause a b c OutOfMemory fell cause = tt
earlier_cause a b c (Fault fault) fell cause = (cause.0, omega (arith, fell.faults Read, cause.1))
earlier_cause a b c (Damaged file place) fell cause = tt

-- what was seen is still seen
pub sees_still : {W tells : Type 0} {state : W → State} {counts : W → Counts} {a b : W} {h k : HeldTables} {all : Transactions} {holders : Holders} {m : Machine}
    {store : Store} → tells → Stays tells state counts a b h k → Sees (state a) h all holders m store → Sees (state b) k all holders m store
sees_still {store = store} told stays sees = record {
  serves = stays.keeps store sees.serves;
  holds = sees.holds;
  kept = sees.kept;
  order = sees.order;
  mirrors = sees.mirrors;
  holders = sees.holders;
  short = stays.form.short ∙ sees.short;
  tables = stays.form.count ∙ sees.tables;
}

-- an answer that no call was made for
pub answered_at_once : {W T : Type 0} (tells : Type 0) (state : W → State) (counts : W → Counts) (site : W) (held : HeldTables) (answer : T)
    → ReadsOnly tells state counts site site held held (Ok answer)
answered_at_once tells state counts site held answer =
    record { stays = stays_here tells state counts site held; cause = record { fault = tt; sound = λ told short store serves are. tt } }

-- an answer behind calls that read
pub answered_behind : {W T : Type 0} {tells : Type 0} {state : W → State} {counts : W → Counts} {a b : W} {h k : HeldTables} (answer : T)
    → Stays tells state counts a b h k → ReadsOnly tells state counts a b h k (Ok answer)
answered_behind answer stays = record { stays = stays; cause = record { fault = tt; sound = λ told short store serves are. tt } }

pub if_err : {T E : Type 0} (P : E → Type 0) (result : Result T E) (error : E) → IsErrAnd result (λ e. e ≡ error) → P error → IfErr result P
if_err P (Ok answer) error is holds = tt
if_err P (Err e) error is holds = subst P (sym is) holds

earlier_fault : {T : Type 0} (a b c : Counts) (result : Result T HeldError) → NoneFell a b → IfErr result (HasReadCause b c) → IfErr result (HasReadCause a c)
earlier_fault a b c (Ok answer) fell cause = tt
earlier_fault a b c (Err error) fell cause = earlier_cause a b c error fell cause

-- a call that reads behind another one
pub reads_behind : {W T tells : Type 0} {state : W → State} {counts : W → Counts} {a b c : W} {h k l : HeldTables} (result : Result T HeldError)
    → Stays tells state counts a b h k → Stays tells state counts b c k l → IfErr result (HasReadCause (counts b) (counts c))
    → (tells → (short : ℕ) (store : Store) → Serves (state a) h store → Serves (state b) k store → AreSound short store.tables store.layouts → IfErr result IsPassing)
    → ReadsOnly tells state counts a c h l result
reads_behind {counts = counts} {a = a} {b = b} {c = c} result before behind fault sound = record {
  stays = then_stays before behind;
  cause = record {
    fault = earlier_fault (counts a) (counts b) (counts c) result before.none_fell fault;
    sound = λ told short store serves are. sound told short store serves (before.keeps store serves) are;
  };
}

-- a call's error that is passed on
pub passed_on : {W T U tells : Type 0} {state : W → State} {counts : W → Counts} {a b : W} {h k : HeldTables} (result : Result U HeldError) (error : HeldError)
    → IsErrAnd result (λ e. e ≡ error) → ReadsOnly {T = T} tells state counts a b h k (Err error) → ReadsOnly tells state counts a b h k result
passed_on {counts = counts} {a = a} {b = b} result error is reads = record {
  stays = reads.stays;
  cause = record {
    fault = if_err (HasReadCause (counts a) (counts b)) result error is reads.cause.fault;
    sound = λ told short store serves are. if_err IsPassing result error is (reads.cause.sound told short store serves are);
  };
}
