-- Histories of calls, and what holds of every one.
use Rattle.std.specs.Prelude.{◌≡◌, ℕ, ◌<◌, true, List, [], ◌∷◌, Some, slice_get}
use Rattle.px_model.specs.declared.machine.Ended.{Ended}
use Rattle.px_calls.specs.declared.turn.Turn.{Turn}
use Rattle.px_calls.specs.declared.call.Call.{Call}
use Rattle.px_calls.specs.declared.reply.Reply.{Reply}
use Rattle.px_model.specs.Rows.{Key, has_write_of}
use Rattle.px_model.specs.Machine.{Machine}
use Rattle.px_calls.specs.Sweeps.{sweep_reply, swept_state}
use Rattle.px_calls.specs.Steps.{reply_of, state_after}

-- each reply is the machine's, in the state that the turns before it left
abbrev pub Legal : Machine → List Turn → Type 0
Legal m [] = Unit {0}
Legal m (turn ∷ turns) = (turn.reply ≡ reply_of m turn.session turn.call) × Legal (state_after m turn.session turn.call) turns

-- the state that the turns lead to
abbrev pub after_turns : Machine → List Turn → Machine
after_turns m [] = m
after_turns m (turn ∷ turns) = after_turns (state_after m turn.session turn.call) turns

-- the state after calls of sessions
abbrev pub state_after_all : Machine → List (ℕ × Call) → Machine
state_after_all m [] = m
state_after_all m (c ∷ calls) = state_after_all (state_after m c.0 c.1) calls

-- of two committed transactions with a key in common the later one began after the earlier one ended
abbrev pub FirstCommitterWins : List Ended → Type 0
FirstCommitterWins ended =
    (i j : ℕ) (earlier later : Ended) (key : Key) → i < j → slice_get ended i ≡ Some earlier → slice_get ended j ≡ Some later
    → earlier.committed ≡ true → later.committed ≡ true
    → has_write_of key earlier.writes ≡ true → has_write_of key later.writes ≡ true → i < later.snap

-- a session's call, or a step of the sweeper
pub data Step : Type 0 where
  by : ℕ → Call → Step
  sweep : Step

abbrev pub step_reply : Machine → Step → Reply
step_reply m (by session call) = reply_of m session call
step_reply m sweep = sweep_reply m

abbrev pub step_state : Machine → Step → Machine
step_state m (by session call) = state_after m session call
step_state m sweep = swept_state m

-- the reply to each step, in order
abbrev pub replies_to : Machine → List Step → List Reply
replies_to m [] = []
replies_to m (step ∷ steps) = step_reply m step ∷ replies_to (step_state m step) steps

-- the machine after them
abbrev pub machine_after : Machine → List Step → Machine
machine_after m [] = m
machine_after m (step ∷ steps) = machine_after (step_state m step) steps
