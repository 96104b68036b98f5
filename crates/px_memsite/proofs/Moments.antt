-- What the files have seen at a moment.
use Rattle.std.proofs.Common.{◌≡◌, ◌≢◌, ℕ, zero, suc, ◌+◌, ◌<◌, ◌≤◌, Bool, true, false, cond, ◌&&◌, nat_eq, nat_lt, List, [], ◌∷◌, ◌++◌, length, take, drop, get_or, Some, None, refl, sym, ap, ◌∙◌, arith}
use Rattle.std.proofs.lemmas.Bool.Decides.{nat_tests}
use Rattle.std.proofs.lemmas.List.{take_more, take-append-drop}
use Rattle.px_site.specs.State.{State, Moment}
use Rattle.px_memsite.specs.declared.event.Event.{Event}
use Rattle.px_memsite.specs.declared.event.Event.TheVariants.{Changed, Synced, Told, Put}
use Rattle.px_memsite.specs.Events.{after_event, after_events, is_change, moments_of, empty, reached}
use Rattle.px_memsite.specs.Moments.{moment_from, moment_at}
use Rattle.px_memsite.proofs.Shown.{reached_push}

-- the latest moment
latest : (k : ℕ) (now : Moment) (past : List Moment) → length past ≤ k → moment_from k now past ≡ now
latest k now [] le = refl
latest k now (before ∷ earlier) le = let later : nat_lt (length earlier) k ≡ true = grind (arith, nat_tests) in ap (λ (b : Bool). cond b now (moment_from k before earlier)) later

-- one with a moment after it
earlier_one : (k : ℕ) (now before : Moment) (past : List Moment) → k ≤ length past → moment_from k now (before ∷ past) ≡ moment_from k before past
earlier_one k now before past le = let not_later : nat_lt (length past) k ≡ false = grind (arith, nat_tests) in ap (λ (b : Bool). cond b now (moment_from k before past)) not_later

-- the two moments of a call, and what the files have seen within it
record IsCall (s : State) (event : Event) : Type 0 where
  pub within : Moment
  pub past : (after_event event s).past ≡ within ∷ s.now ∷ s.past
  pub files : within.files ≡ cond (is_change event) (after_event event s).now.files s.now.files

call : (s : State) (event : Event) → moments_of event ≡ 2 → IsCall s event
call s (Changed file change None) two = record { within = _; past = refl; files = refl }
call s (Changed file change (Some through)) two = record { within = _; past = refl; files = refl }
call s (Synced file None) two = record { within = _; past = refl; files = refl }
call s (Synced file (Some through)) two = record { within = _; past = refl; files = refl }
call s (Told bytes failure) two = record { within = _; past = refl; files = refl }
call s (Put file bytes) two = absurd (omega (arith, two))

pub length-past : (s : State) (event : Event) → length (after_event event s).past ≡ moments_of event + length s.past
length-past s (Changed file change None) = omega arith
length-past s (Changed file change (Some through)) = omega arith
length-past s (Synced file None) = omega arith
length-past s (Synced file (Some through)) = omega arith
length-past s (Told bytes failure) = omega arith
length-past s (Put file bytes) = omega arith

-- a moment of the past stays the one of its number
module _ (s : State) (event : Event) (k : ℕ) where
  call_kept : moments_of event ≡ 2 → k < length s.past → moment_at k (after_event event s) ≡ moment_at k s
  call_kept two lt =
      let inside = call s event two in
      ap (moment_from k (after_event event s).now) inside.past ∙ earlier_one k (after_event event s).now inside.within (s.now ∷ s.past) (omega arith) ∙ earlier_one k inside.within s.now s.past (omega arith)

  put_kept : (now : Moment) (past : List Moment) → k < length past → moment_from k now past ≡ moment_from k s.now past
  put_kept now [] lt = absurd (omega arith)
  put_kept now (before ∷ earlier) lt = earlier_one k now before earlier (omega arith) ∙ sym (earlier_one k s.now before earlier (omega arith))

event_kept : (s : State) (event : Event) (k : ℕ) → k < length s.past → moment_at k (after_event event s) ≡ moment_at k s
event_kept s (Changed file change failure) k lt = call_kept s (Changed file change failure) k refl lt
event_kept s (Synced file failure) k lt = call_kept s (Synced file failure) k refl lt
event_kept s (Told bytes failure) k lt = call_kept s (Told bytes failure) k refl lt
event_kept s (Put file bytes) k lt = put_kept s (Put file bytes) k (after_event (Put file bytes) s).now s.past lt

events_kept : (s : State) (rest : List Event) (k : ℕ) → k < length s.past → moment_at k (after_events rest s) ≡ moment_at k s
events_kept s [] k lt = refl
events_kept s (event ∷ rest) k lt = events_kept (after_event event s) rest k (omega (arith, lt, length-past s event)) ∙ event_kept s event k lt

-- the moment before a call, and that within it
module _ (s : State) (event : Event) (two : moments_of event ≡ 2) where
  inside : IsCall s event
  inside = call s event two

  before_call : moment_at (length s.past) (after_event event s) ≡ s.now
  before_call =
      let k = length s.past in
      ap (moment_from k (after_event event s).now) inside.past ∙ earlier_one k (after_event event s).now inside.within (s.now ∷ s.past) (omega arith) ∙ earlier_one k inside.within s.now s.past (omega arith) ∙ latest k s.now s.past (omega arith)

  within_call : moment_at (suc (length s.past)) (after_event event s) ≡ inside.within
  within_call =
      let k = suc (length s.past) in
      ap (moment_from k (after_event event s).now) inside.past ∙ earlier_one k (after_event event s).now inside.within (s.now ∷ s.past) (omega arith) ∙ latest k inside.within (s.now ∷ s.past) (omega arith)

moments_few : (event : Event) → moments_of event ≤ 2
moments_few (Changed file change failure) = omega arith
moments_few (Synced file failure) = omega arith
moments_few (Told bytes failure) = omega arith
moments_few (Put file bytes) = omega arith

some_is_two : (event : Event) (left : ℕ) → left < moments_of event → moments_of event ≡ 2
some_is_two (Changed file change failure) left lt = refl
some_is_two (Synced file failure) left lt = refl
some_is_two (Told bytes failure) left lt = refl
some_is_two (Put file bytes) left lt = absurd (omega arith)

-- what the files have seen before an event, or within it
abbrev sees : Event → ℕ → Bool
sees event left = nat_eq left 1 && is_change event

seen_in : (s : State) (event : Event) (left : ℕ) → left < moments_of event → (moment_at (left + length s.past) (after_event event s)).files ≡ cond (sees event left) (after_event event s).now.files s.now.files
seen_in s event zero lt =
    let here : 0 + length s.past ≡ length s.past = omega arith in
    ap (λ (k : ℕ). (moment_at k (after_event event s)).files) here ∙ ap (λ (m : Moment). m.files) (before_call s event (some_is_two event 0 lt))
seen_in s event (suc zero) lt =
    let here : suc zero + length s.past ≡ suc (length s.past) = omega arith in
    ap (λ (k : ℕ). (moment_at k (after_event event s)).files) here ∙ ap (λ (m : Moment). m.files) (within_call s event (some_is_two event 1 lt)) ∙ (inside s event (some_is_two event 1 lt)).files
seen_in s event (suc (suc left)) lt = absurd (omega (arith, lt, moments_few event))

after_append : (s : State) (one two : List Event) → after_events (one ++ two) s ≡ after_events two (after_events one s)
after_append s [] two = refl
after_append s (event ∷ one) two = after_append (after_event event s) one two

module _ (history : List Event) (i : ℕ) (event : Event) (lt : i < length history) (is : event ≡ get_or history i event) where
  abbrev before : State
  before = reached (take i history)

  abbrev after : State
  after = reached (take (i + 1) history)

  step : after ≡ after_event event before
  step = reached_push (take i history) (take (i + 1) history) event (take_more history i event lt ∙ ap (λ (e : Event). take i history ++ e ∷ []) (sym is))

  pub past_more : length after.past ≡ moments_of event + length before.past
  past_more = ap (λ (s : State). length s.past) step ∙ length-past before event

  -- a moment that is before this event or within it
  pub seen : (left k : ℕ) → left < moments_of event → k ≡ left + length before.past → (moment_at k (reached history)).files ≡ cond (sees event left) after.now.files before.now.files
  seen left k few k_is =
      let all : reached history ≡ after_events (drop (i + 1) history) after = sym (ap reached (take-append-drop (i + 1) history)) ∙ after_append empty (take (i + 1) history) (drop (i + 1) history) in
      let kept : moment_at k (after_events (drop (i + 1) history) after) ≡ moment_at k after = events_kept after (drop (i + 1) history) k (omega (arith, past_more)) in
      ap (λ (s : State). (moment_at k s).files) all ∙ ap (λ (m : Moment). m.files) kept ∙ ap (λ (s : State). (moment_at k s).files) step ∙ ap (λ (n : ℕ). (moment_at n (after_event event before)).files) k_is
      ∙ seen_in before event left few ∙ ap (λ (s : State). cond (sees event left) s.now.files before.now.files) (sym step)

  pub seen_after : (k : ℕ) → 1 < moments_of event → is_change event ≡ true → k ≡ 1 + length before.past → (moment_at k (reached history)).files ≡ after.now.files
  seen_after k few change k_is = seen 1 k few k_is ∙ ap (λ (b : Bool). cond b after.now.files before.now.files) change

  pub not_seen : (left k : ℕ) → left < moments_of event → sees event left ≡ false → k ≡ left + length before.past → (moment_at k (reached history)).files ≡ before.now.files
  not_seen left k few none k_is = seen left k few k_is ∙ ap (λ (b : Bool). cond b after.now.files before.now.files) none

-- nothing of the event is seen where it is no change, or where the moment isn't within it
pub unchanged : (b change : Bool) → change ≡ false → (b && change) ≡ false
unchanged true change none = none
unchanged false change none = refl

pub not_within : (left : ℕ) (change : Bool) → left ≢ 1 → (nat_eq left 1 && change) ≡ false
not_within left change apart = let other : nat_eq left 1 ≡ false = grind (arith, nat_tests) in ap (λ (b : Bool). b && change) other

-- the last moment
pub seen_all : (history : List Event) (k : ℕ) → length (reached history).past ≤ k → (moment_at k (reached history)).files ≡ (reached history).now.files
seen_all history k le = ap (λ (m : Moment). m.files) (latest k (reached history).now (reached history).past le)
