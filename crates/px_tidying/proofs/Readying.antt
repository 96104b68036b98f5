-- What is prepared for one version that goes: calls that only read, the change that is written, and the step that is laid.
use Rattle.std.proofs.Common.{◌≡◌, ℕ, ◌+◌, ◌^◌, ◌<◌, ◌≤◌, Bool, cond, true, Ok, Some, None, List, [], ◌∷◌, length, refl, sym, ap, subst, ◌∙◌, arith, inl, inr}
use Rattle.std.specs.Prelude.{IsErrOf, is_ok, nat_lt}
use Rattle.std.proofs.lemmas.Bool.{cases_Bool, ltb-true, true≢false}
use Rattle.px_cells.specs.Form.{is_short}
use Rattle.px_cells.specs.declared.cell.Cell.{Cell}
use Rattle.px_chain.specs.Places.{slot_in}
use Rattle.px_chain.specs.Sound.{IsSlot}
use Rattle.px_change.specs.declared.change.Change.{Change}
use Rattle.px_change.specs.declared.change.ChangeKind.TheVariants.{Tidy}
use Rattle.px_held.proofs.Serving.{served}
use Rattle.px_held.specs.Serving.{HasSameForm, HeldTables, Serves}
use Rattle.px_held.specs.Unlinking.{GoFrom, unlink_from}
use Rattle.px_held.specs.declared.prepared.PreparedUnlink.{PreparedUnlink}
use Rattle.px_history.specs.Steps.{Step}
use Rattle.px_history.specs.Store.{Store}
use Rattle.px_history.specs.Written.{change_of}
use Rattle.px_log.specs.Log.{Log, full_at, most_frames}
use Rattle.px_log.specs.declared.error.LogError.TheVariants.{LogFull}
use Rattle.px_site.specs.State.{State}
use Rattle.px_tidy.specs.declared.tidying.Unneeded.{Unneeded}
use Rattle.px_tidying.specs.Going.{MayGo}
use Rattle.px_tidying.specs.Opening.{HasStore, Opening, opening}
use Rattle.px_tidying.proofs.Composing.{OnlyReads}
use Rattle.px_tidying.proofs.Made.{change_is, unlink_of, within_chain}

-- ---- calls that only read

pub still_store : (store : Store) (s other : State) (held after : HeldTables) (log : Log) → Serves other after store → HasSameForm held after
    → HasStore store (opening s held log) → HasStore store (opening other after log)
still_store store s other held after log serves form has = record {
  serves = serves;
  numbers = has.numbers;
  places = has.places;
  is_short = subst (λ (n : ℕ). is_short n ≡ true) (sym form.short) has.is_short;
  few = has.few;
  room = has.room;
  tables = form.count ∙ has.tables;
  short = has.short ∙ sym form.short;
}

pub held_reads : (tells : Type 0) (s other : State) (held after : HeldTables) (log : Log) → ((store : Store) → Serves s held store → Serves other after store)
    → HasSameForm held after → (tells → other ≡ s) → OnlyReads tells (opening s held log) (opening other after log)
held_reads tells s other held after log keeps form same = record {
  store = λ store has. still_store store s other held after log (keeps store has.serves) form has;
  log = refl;
  site = same;
}

-- ---- one version

-- what was prepared is that this version goes
pub record IsFor (prepared : PreparedUnlink) (t row slot : ℕ) : Type 0 where
  pub table : prepared.table ≡ t
  pub its_row : prepared.unlinking.row ≡ row
  pub first : prepared.unlinking.first ≡ slot
  pub count : prepared.unlinking.count ≡ 1

pub its_slot : (store : Store) (t row place : ℕ) (version : Unneeded) (o : Opening) → HasStore store o → MayGo store t row place version → IsSlot (store.tables t) version.slot
its_slot store t row place version o has may =
    let sound = (served o.site o.held store has.serves).sound t in
    subst (IsSlot (store.tables t)) may.run.start
    ((sound.chains row may.unlink.used).variations place 0 (within_chain store t row place version may)).place

pub goes_from : (store : Store) (t row place : ℕ) (version : Unneeded) (prepared : PreparedUnlink) → MayGo store t row place version → IsFor prepared t row version.slot
    → GoFrom store prepared place
goes_from store t row place version prepared may is = (
  subst (λ (n : ℕ). place < length ((store.layouts n).chain prepared.unlinking.row)) (sym is.table)
      (subst (λ (r : ℕ). place < length ((store.layouts t).chain r)) (sym is.its_row) (within_chain store t row place version may)),
  ap (λ (n : ℕ). slot_in ((store.layouts n).chain prepared.unlinking.row) place) is.table
      ∙ ap (λ (r : ℕ). slot_in ((store.layouts t).chain r) place) is.its_row
      ∙ may.run.start ∙ sym is.first,
)

pub step_is : (t row place slot : ℕ) (prepared : PreparedUnlink) → IsFor prepared t row slot → unlink_from prepared place ≡ unlink_of t row place
step_is t row place slot prepared is =
    ap (λ (n : ℕ). Step.unlink n prepared.unlinking.row place prepared.unlinking.count) is.table
    ∙ ap (λ (r : ℕ). Step.unlink t r place prepared.unlinking.count) is.its_row
    ∙ ap (λ (k : ℕ). Step.unlink t row place k) is.count

-- the frame has the step's change
pub frame_is : (store : Store) (t row place : ℕ) (version : Unneeded) (old middle : Opening) (prepared : PreparedUnlink) (xn : ℕ) (cells : List Cell)
    → MayGo store t row place version → HasStore store old → HasStore store middle → IsFor prepared t row version.slot
    → ((store : Store) → Serves old.site old.held store → IsSlot (store.tables t) version.slot → xn ≡ ((store.tables t).slot version.slot).xn)
    → ((site : State) (store : Store) (from : ℕ) → Serves site middle.held store → GoFrom store prepared from
    → cells ≡ (change_of middle.held.short store (unlink_from prepared from)).cells)
    → record { kind = Tidy; xn = xn; commit = 0; cells = cells } ≡ change_of middle.held.short store (unlink_of t row place)
frame_is store t row place version old middle prepared xn cells may has then is writer written =
    change_is middle.held.short store t row place version xn cells may
    (writer store has.serves (its_slot store t row place version old has may))
    (written middle.site store place then.serves (goes_from store t row place version prepared may is)
    ∙ ap (λ (step : Step). (change_of middle.held.short store step).cells) (step_is t row place version.slot prepared is))

-- ---- room

not_both : {T E : Type 0} (x : T) (e : E) → IsErrOf (Ok x) e → ⊥
not_both x e both = true≢false (ap is_ok both)

-- where a frame was appended the log had room for it
pub had_room : (log : Log) (frame : ℕ) → (full_at log ≡ Some log.frames → IsErrOf (Ok frame) (LogFull log.frames)) → log.frames < 2 ^ 48
had_room log frame none = elim (cases_Bool (nat_lt log.frames most_frames)) [
  | inl below ↦ let less : log.frames < most_frames = ltb-true log.frames most_frames below in omega (arith, less)
  | inr past ↦ absurd (not_both frame (LogFull log.frames) (none (ap (λ (b : Bool). cond b None (Some log.frames)) past)))
]
