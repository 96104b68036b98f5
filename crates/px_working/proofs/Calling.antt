-- Which step each call adds, and what the machine is after it.
use Rattle.std.proofs.Common.{◌≡◌, ℕ, ◌+◌, ◌-◌, ◌≤◌, ◌==◌, Bool, true, false, cond, List, [], ◌∷◌, length, leb, Some, sym, ap, subst, ◌∙◌, arith}
use Rattle.std.proofs.lemmas.Bool.{and_from, false≢true, le-leb}
use Rattle.px_calls.specs.declared.call.Call.{Call}
use Rattle.px_calls.specs.declared.call.Call.TheVariants.{Begin, Get, Hold, Fetch, Find, Scan, Insert, Update, Delete, Commit, Rollback}
use Rattle.px_calls.specs.Steps.{entries_of, is_refusal, open_of, reply_of, state_after, state_when_done}
use Rattle.px_cell_laws.specs.Holding.{HoldsChains}
use Rattle.px_cell_laws.specs.Writing.{is_end}
use Rattle.px_cells.specs.Form.{is_short}
use Rattle.px_chain_laws.specs.Kept.{IsKept}
use Rattle.px_change.specs.Grammar.{may_hold}
use Rattle.px_change.specs.declared.change.Change.{Change}
use Rattle.px_history.specs.Fitting.{FitsFrame, IsStoredNumber, IsWritten}
use Rattle.px_history.specs.Steps.{IsStep, Step, after_step}
use Rattle.px_history.specs.Store.{Store}
use Rattle.px_history.specs.Told.{IsNumberedOn, last_after}
use Rattle.px_history.specs.Writers.{IsAlone}
use Rattle.px_history.specs.Written.{IsChangeOf, change_of}
use Rattle.px_life.specs.Front.{IsFrom}
use Rattle.px_life.specs.Life.{Life, end_of, grown}
use Rattle.px_logged.proofs.Grown.{call_grows, committing, grown_commits, opening_stays, others_keep_committed, published_stays}
use Rattle.px_model.specs.Machine.{Machine, commits, published}
use Rattle.px_model.specs.Rows.{in_order}
use Rattle.px_model.specs.declared.limits.TheConstants.{LONGEST_SHORT, MOST_TABLES, SHORTEST_SHORT}
use Rattle.px_model.specs.declared.machine.Ended.{Ended}
use Rattle.px_model.specs.declared.machine.Open.{Open}
use Rattle.px_model.specs.declared.row.Row.{Row}
use Rattle.px_model.specs.declared.write.Write.{Write}
use Rattle.px_reached.specs.Reachable.{Marks}
use Rattle.px_restart.specs.Restart.{CanRestart}
use Rattle.px_restart.specs.declared.restart.Restart.{Restart}
use Rattle.px_shown.specs.Parts.{Parts}
use Rattle.px_shown.specs.Shown.{Shows}
use Rattle.px_shown.specs.Tables.{AreSound}
use Rattle.px_site.specs.State.{Moment}
use Rattle.px_xlog.specs.Contents.{the_log}
use Rattle.px_working.specs.Follows.{Follows, last_store, with_step}
use Rattle.px_working.specs.Lasts.{HasOthersOf, Lasts, LeavesFronts}
use Rattle.px_working.specs.Works.{Works}
use Rattle.px_working.proofs.Grown.{last_more}
use Rattle.px_working.proofs.Moments.{can_restart}
use Rattle.px_working.proofs.Numbers.{HasNumbers, numbers_go_on}

-- ---- what is used of the laws below

abbrev pub CommittedShown : Type 0
CommittedShown = (parts : Parts) (m : Machine) (store : Store) → HoldsChains parts m store → IsKept m → in_order m.opening ≡ true
    → Shows parts store.tables store.layouts store.done (published m (commits m - m.before))

abbrev pub FramesHold : Type 0
FramesHold = (parts : Parts) (short tables frame : ℕ) (store : Store) (step : Step) (change : Change)
    → is_short short ≡ true → tables ≤ MOST_TABLES
    → AreSound short store.tables store.layouts → IsStep parts short store step
    → IsChangeOf short store step change → IsStoredNumber change.xn
    → IsWritten tables step → FitsFrame frame store step
    → may_hold tables frame short change ≡ true

abbrev pub StepsLast : Type 0
StepsLast = (parts : Parts) (least : ℕ) (m later : Machine) (life : Life) (restart : Restart) (marks : Marks) (step : Step) (change : Change) (before now : Moment)
    → Lasts parts least m life restart marks before → Follows parts m life restart step change later → HasOthersOf before now
    → LeavesFronts marks.durable (grown life step change).changes (now.files the_log)
    → Lasts parts least later (grown life step change) restart marks now

-- ---- a step

-- a call adds the step, in the frame at the life's end
pub record Adds (parts : Parts) (m : Machine) (life : Life) (restart : Restart) (session : ℕ) (call : Call) (step : Step) : Type 0 where
  pub may : IsStep parts m.short (last_store life) step
  pub alone : IsAlone (last_store life) step
  pub written : IsWritten restart.tables step
  pub fits : FitsFrame (end_of life) (last_store life) step
  pub change_is : IsChangeOf restart.short (last_store life) step (change_of restart.short (last_store life) step)
  pub stored : IsStoredNumber (change_of restart.short (last_store life) step).xn
  pub low : IsFrom restart.low step
  pub number : IsNumberedOn (commits m) [] step
  pub commits_are : commits (state_after m session call) ≡ last_after (commits m) step
  pub chains : HoldsChains parts (state_after m session call) (after_step (last_store life) step)
  pub kept : IsKept (state_after m session call)

pub short_of : (restart : Restart) → CanRestart restart → is_short restart.short ≡ true
short_of restart can =
    and_from (leb SHORTEST_SHORT restart.short) (leb restart.short LONGEST_SHORT)
    (le-leb SHORTEST_SHORT restart.short can.shape.short_from) (le-leb restart.short LONGEST_SHORT can.shape.short_to)

pub adds_follows : CommittedShown → FramesHold → (parts : Parts) (least : ℕ) (m : Machine) (life : Life) (restart : Restart) (marks : Marks) (before : Moment)
    (session : ℕ) (call : Call) (step : Step) → Lasts parts least m life restart marks before → Works parts m life restart → Adds parts m life restart session call step
    → Follows parts m life restart step (change_of restart.short (last_store life) step) (state_after m session call)
adds_follows shown hold parts least m life restart marks before session call step lasts works adds =
    let store = last_store life in
    let change = change_of restart.short store step in
    let later = state_after m session call in
    let opening = opening_stays m ((session, call) ∷ []) in
    let can = can_restart restart before lasts.valid in
    let may : IsStep parts restart.short store step = subst (λ (short : ℕ). IsStep parts short store step) (sym works.short) adds.may in
    record {
      may = may;
      alone = adds.alone;
      fits = adds.written;
      change_is = adds.change_is;
      stands = hold parts restart.short restart.tables (end_of life) store step change (short_of restart can) can.shape.tables_to
          (subst (λ (short : ℕ). AreSound short store.tables store.layouts) (sym works.short) works.holds.sound)
          may adds.change_is adds.stored adds.written adds.fits;
      low = adds.low;
      number = adds.number;
      opening = opening;
      commits_are = adds.commits_are;
      published_stays = published_stays m ((session, call) ∷ []);
      shows = shown parts later (after_step store step) adds.chains adds.kept
          (subst (λ (rows : List Row). in_order rows ≡ true) (sym opening.opening) lasts.is_life.base.shows.order);
    }

-- so the store lasts while the call's frame is appended
pub adds_lasts : StepsLast → CommittedShown → FramesHold → (parts : Parts) (least : ℕ) (m : Machine) (life : Life) (restart : Restart) (marks : Marks) (before now : Moment)
    (session : ℕ) (call : Call) (step : Step) → Lasts parts least m life restart marks before → Works parts m life restart → Adds parts m life restart session call step
    → HasOthersOf before now → LeavesFronts marks.durable (with_step restart.short life step).changes (now.files the_log)
    → Lasts parts least (state_after m session call) (with_step restart.short life step) restart marks now
adds_lasts last shown hold parts least m life restart marks before now session call step lasts works adds =
    last parts least m (state_after m session call) life restart marks step (change_of restart.short (last_store life) step) before now lasts
    (adds_follows shown hold parts least m life restart marks before session call step lasts works adds)

-- ---- the machine after a call

numbers_of : (parts : Parts) (m : Machine) (life : Life) (restart : Restart) → Works parts m life restart → HasNumbers restart.low m
numbers_of parts m life restart works = record { stored = works.numbers; next = works.allows.next; open_ones = works.allows.open_ones }

pub works_after : (parts : Parts) (m : Machine) (life other : Life) (restart : Restart) (session : ℕ) (call : Call) → Works parts m life restart
    → HoldsChains parts (state_after m session call) (last_store other) → IsKept (state_after m session call)
    → Works parts (state_after m session call) other restart
works_after parts m life other restart session call works holds kept =
    let opening = opening_stays m ((session, call) ∷ []) in
    let numbers = numbers_go_on restart.low m session call (numbers_of parts m life restart works) in
    record {
      short = works.short ∙ sym opening.short;
      tables = works.tables ∙ sym opening.tables;
      holds = holds;
      kept = kept;
      allows = record { next = numbers.next; open_ones = numbers.open_ones };
      numbers = numbers.stored;
    }

pub works_on : (parts : Parts) (least : ℕ) (m : Machine) (life : Life) (restart : Restart) (marks : Marks) (before : Moment) (session : ℕ) (call : Call) (step : Step)
    → Lasts parts least m life restart marks before → Works parts m life restart
    → HoldsChains parts (state_after m session call) (after_step (last_store life) step) → IsKept (state_after m session call)
    → Works parts (state_after m session call) (with_step restart.short life step) restart
works_on parts least m life restart marks before session call step lasts works holds kept =
    let change = change_of restart.short (last_store life) step in
    works_after parts m life (with_step restart.short life step) restart session call works
    (subst (HoldsChains parts (state_after m session call)) (sym (last_more parts restart.short restart.tables (m.base + 1) m.opening life step change lasts.is_life)) holds) kept

-- ---- whose number it is

pub stored_number : (parts : Parts) (m : Machine) (life : Life) (restart : Restart) (session : ℕ) (x : Open) → Works parts m life restart → open_of m session ≡ Some x
    → IsStoredNumber (m.base + x.number)
stored_number parts m life restart session x works at = (
  omega (arith, works.kept.numbered.open_ones.from_one session x at),
  omega (arith, works.kept.numbered.open_ones.given session x at, works.numbers),
)

-- ---- calls that commit nothing

pub no_commit : (m : Machine) (session : ℕ) (call : Call) → is_end call ≡ false → commits (state_after m session call) ≡ commits m
no_commit m session call no_end = (others_keep_committed m session call (λ is. false≢true (sym no_end ∙ ap is_end is))).commits

pub wrote_none : (m : Machine) (session : ℕ) (call : Call) (x : Open) → is_end call ≡ true → open_of m session ≡ Some x → x.writes ≡ []
    → commits (state_after m session call) ≡ commits m
wrote_none m session Commit x ends at none =
    let e : Ended = record { number = x.number; committed = true; snap = x.snap; writes = x.writes } in
    let nobody : committing m session Commit ≡ [] =
    ap (entries_of true) at ∙ ap (λ (writes : List Write). cond (length writes == 0) [] (e ∷ [])) none in
    omega (arith, grown_commits m (state_after m session Commit) (committing m session Commit) (call_grows m session Commit), ap length nobody)
wrote_none m session Rollback x ends at none = (others_keep_committed m session Rollback (λ is. absurd cc)).commits
wrote_none m session Begin x ends at none = absurd (false≢true ends)
wrote_none m session (Get table key) x ends at none = absurd (false≢true ends)
wrote_none m session (Hold table key) x ends at none = absurd (false≢true ends)
wrote_none m session (Fetch ticket) x ends at none = absurd (false≢true ends)
wrote_none m session (Find table tag) x ends at none = absurd (false≢true ends)
wrote_none m session (Scan table) x ends at none = absurd (false≢true ends)
wrote_none m session (Insert table key tag body) x ends at none = absurd (false≢true ends)
wrote_none m session (Update table key tag body) x ends at none = absurd (false≢true ends)
wrote_none m session (Delete table key) x ends at none = absurd (false≢true ends)

-- a call that is refused leaves the machine as it is
pub refused_stays : (m : Machine) (session : ℕ) (call : Call) → is_refusal (reply_of m session call) ≡ true → state_after m session call ≡ m
unfolding state_after
refused_stays m session call refused = ap (λ (b : Bool). cond b m (state_when_done m session call)) refused
