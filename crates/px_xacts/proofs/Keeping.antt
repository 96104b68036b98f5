-- What is kept at every time is kept by each call: soundness, bounds and room together.
use Rattle.std.proofs.Common.{◌≡◌, ℕ, ◌+◌, ◌-◌, ◌<◌, ◌≤◌, Bool, List, [], ◌∷◌, ◌++◌, length, get_or, set, take, drop, map, replicate, Option, Some, None, refl, sym, ap, ◌∙◌, arith, length-append, length-set, length-drop}
use Rattle.std.specs.Prelude.{is_some}
use Rattle.std.proofs.lemmas.List.{length-map}
use Rattle.std.proofs.lemmas.List.Sums.{count_by-le-length}
use Rattle.px_model.specs.declared.limits.TheConstants.{MOST_BEGINS, MOST_WRITES, SESSIONS, STORED_NUMBERS_END}
use Rattle.px_model.specs.declared.standing.Standing.{Standing}
use Rattle.px_model.specs.declared.standing.Standing.TheVariants.{Open}
use Rattle.px_xacts.specs.declared.transaction.Transaction.{Transaction}
use Rattle.px_xacts.specs.declared.transaction.Outcome.{Outcome}
use Rattle.px_xacts.specs.declared.transaction.Unswept.{Unswept}
use Rattle.px_xacts.specs.Transactions.{standing_at, unswept}
use Rattle.px_xacts.specs.Sound.{IsKept}
use Rattle.px_xacts.proofs.Soundness.{sound-fresh, sound-changed, sound-closed, sound-begun, sound-unbegun, sound-ended, sound-swept}
use Rattle.px_xacts.proofs.Room.{opens-changed, opens-closed, writes-closed, writes-changed, writes-begun}

pub kept-fresh : (base : ℕ) (active : List (Option Transaction)) (outcomes_capacity queue_capacity : ℕ) → base < STORED_NUMBERS_END
    → active ≡ replicate SESSIONS None → IsKept base 0 [] [] [] active 0 outcomes_capacity queue_capacity
kept-fresh base active outcomes_capacity queue_capacity fits is = rw is (record {
  sound = sound-fresh SESSIONS;
  sessions = refl;
  begins = omega arith;
  stored = omega (arith, fits);
  outcome_room = omega arith;
  writes = refl;
  queue_room = omega arith;
})

-- more room changes nothing
pub kept-reserved : (base begun : ℕ) (outcomes : List Outcome) (standings : List Standing) (queue : List Unswept) (active : List (Option Transaction)) (open_writes one two more_one more_two : ℕ)
    → IsKept base begun outcomes standings queue active open_writes one two → one ≤ more_one → two ≤ more_two
    → IsKept base begun outcomes standings queue active open_writes more_one more_two
kept-reserved base begun outcomes standings queue active open_writes one two more_one more_two kept up_one up_two = record {
  sound = kept.sound;
  sessions = kept.sessions;
  begins = kept.begins;
  stored = kept.stored;
  outcome_room = omega (arith, kept.outcome_room, up_one);
  writes = kept.writes;
  queue_room = omega (arith, kept.queue_room, up_two);
}

-- the session's transaction has other writes
pub kept-changed : (base begun : ℕ) (outcomes : List Outcome) (standings : List Standing) (queue : List Unswept) (active : List (Option Transaction)) (open_writes one two : ℕ)
    (s : ℕ) (x y : Transaction) (now_writes room : ℕ)
    → IsKept base begun outcomes standings queue active open_writes one two → get_or active s None ≡ Some x
    → y.number ≡ x.number → y.snap ≡ x.snap → length y.writes ≤ MOST_WRITES
    → now_writes + length x.writes ≡ open_writes + length y.writes → length queue + now_writes ≤ room
    → IsKept base begun outcomes standings queue (set active s (Some y)) now_writes one room
kept-changed base begun outcomes standings queue active open_writes one two s x y now_writes room kept at number snap few count fits = record {
  sound = sound-changed begun outcomes standings queue active s x y kept.sound at number snap few;
  sessions = length-set active s (Some y) ∙ kept.sessions;
  begins = kept.begins;
  stored = kept.stored;
  outcome_room = omega (arith, kept.outcome_room, opens-changed active s x y at);
  writes = omega (arith, kept.writes, count, writes-changed active s x y at);
  queue_room = fits;
}

-- the session's transaction begins
pub kept-begun : (base begun : ℕ) (outcomes : List Outcome) (standings : List Standing) (queue : List Unswept) (active : List (Option Transaction)) (open_writes one two : ℕ)
    (s : ℕ) (y : Transaction) (room : ℕ)
    → IsKept base begun outcomes standings queue active open_writes one two → get_or active s None ≡ None
    → y.number ≡ begun + 1 → y.snap ≡ length outcomes → y.writes ≡ []
    → begun < MOST_BEGINS → base + begun + 1 < STORED_NUMBERS_END → length outcomes + SESSIONS ≤ room
    → IsKept base (begun + 1) outcomes (standings ++ Open ∷ []) queue (set active s (Some y)) open_writes room two
kept-begun base begun outcomes standings queue active open_writes one two s y room kept free number snap empty begins stored fits = record {
  sound = sound-begun begun outcomes standings queue active s y kept.sound number snap empty;
  sessions = length-set active s (Some y) ∙ kept.sessions;
  begins = omega (arith, begins);
  stored = omega (arith, stored);
  outcome_room = omega (arith, fits, kept.sessions, length-set active s (Some y), count_by-le-length (λ (o : Option Transaction). is_some o) (set active s (Some y)));
  writes = kept.writes ∙ sym (writes-begun active s y free empty);
  queue_room = kept.queue_room;
}

-- the session's transaction, which has no writes, ends
pub kept-closed : (base begun : ℕ) (outcomes : List Outcome) (standings : List Standing) (queue : List Unswept) (active : List (Option Transaction)) (open_writes one two : ℕ)
    (s : ℕ) (x : Transaction)
    → IsKept base begun outcomes standings queue active open_writes one two → get_or active s None ≡ Some x → length x.writes ≡ 0
    → IsKept base begun outcomes standings queue (set active s None) open_writes one two
kept-closed base begun outcomes standings queue active open_writes one two s x kept at empty = record {
  sound = sound-closed begun outcomes standings queue active s kept.sound;
  sessions = length-set active s None ∙ kept.sessions;
  begins = kept.begins;
  stored = kept.stored;
  outcome_room = omega (arith, kept.outcome_room, opens-closed active s x at);
  writes = omega (arith, kept.writes, empty, writes-closed active s x at);
  queue_room = kept.queue_room;
}

-- the last begin is taken back
pub kept-unbegun : (base begun : ℕ) (outcomes : List Outcome) (standings : List Standing) (queue : List Unswept) (active : List (Option Transaction)) (open_writes one two : ℕ)
    (s : ℕ) (x : Transaction)
    → IsKept base begun outcomes standings queue active open_writes one two → get_or active s None ≡ Some x → x.number ≡ begun → x.writes ≡ []
    → IsKept base (begun - 1) outcomes (take (begun - 1) standings) queue (set active s None) open_writes one two
kept-unbegun base begun outcomes standings queue active open_writes one two s x kept at last empty =
    let closed : IsKept base begun outcomes standings queue (set active s None) open_writes one two =
    kept-closed base begun outcomes standings queue active open_writes one two s x kept at (ap length empty) in
    record {
      sound = sound-unbegun begun outcomes standings queue active s x kept.sound at last;
      sessions = closed.sessions;
      begins = omega (arith, closed.begins);
      stored = omega (arith, closed.stored);
      outcome_room = closed.outcome_room;
      writes = closed.writes;
      queue_room = closed.queue_room;
    }

-- the session's transaction ends with writes
pub kept-ended : (base begun : ℕ) (outcomes : List Outcome) (standings : List Standing) (queue : List Unswept) (active : List (Option Transaction)) (open_writes one two : ℕ)
    (s : ℕ) (x : Transaction) (committed : Bool) (room_one room_two : ℕ)
    → IsKept base begun outcomes standings queue active open_writes one two → get_or active s None ≡ Some x → one ≤ room_one → two ≤ room_two
    → IsKept base begun (outcomes ++ record { number = x.number; committed = committed } ∷ [])
    (set standings (x.number - 1) (standing_at (length outcomes) committed))
    (queue ++ map (unswept (length outcomes) committed x) x.writes) (set active s None) (open_writes - length x.writes) room_one room_two
kept-ended base begun outcomes standings queue active open_writes one two s x committed room_one room_two kept at up_one up_two =
    let outcome : Outcome = record { number = x.number; committed = committed } in
    record {
      sound = sound-ended begun outcomes standings queue active s x committed kept.sound at;
      sessions = length-set active s None ∙ kept.sessions;
      begins = kept.begins;
      stored = kept.stored;
      outcome_room = omega (arith, kept.outcome_room, up_one, opens-closed active s x at, length-append outcomes (outcome ∷ []));
      writes = omega (arith, kept.writes, writes-closed active s x at);
      queue_room = omega (
        arith,
        kept.queue_room,
        up_two,
        kept.writes,
        writes-closed active s x at,
        length-append queue (map (unswept (length outcomes) committed x) x.writes),
        length-map x.writes (unswept (length outcomes) committed x),
      );
    }

-- the queue loses its first
pub kept-swept : (base begun : ℕ) (outcomes : List Outcome) (standings : List Standing) (queue : List Unswept) (active : List (Option Transaction)) (open_writes one two : ℕ)
    → IsKept base begun outcomes standings queue active open_writes one two
    → IsKept base begun outcomes standings (drop 1 queue) active open_writes one two
kept-swept base begun outcomes standings queue active open_writes one two kept = record {
  sound = sound-swept begun outcomes standings queue active kept.sound;
  sessions = kept.sessions;
  begins = kept.begins;
  stored = kept.stored;
  outcome_room = kept.outcome_room;
  writes = kept.writes;
  queue_room = omega (arith, kept.queue_room, length-drop 1 queue);
}
