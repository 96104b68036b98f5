-- What a step of the sweeper makes of a chain.
use Rattle.std.proofs.Common.{◌≡◌, ℕ, ◌+◌, ◌<◌, ◌≤◌, Bool, true, false, cond, List, ◌&&◌, [], ◌∷◌, ◌++◌, map, length, take, drop, Option, Some, None, refl, sym, ap, ◌∙◌, arith}
use Rattle.std.specs.Prelude.{slice_get, flat_map}
use Rattle.std.specs.Option.{option_or}
use Rattle.std.proofs.lemmas.Bool.{lt-ltb, and_right}
use Rattle.std.proofs.lemmas.Option.{slice_get_within, get_or_from_slice_get}
use Rattle.std.proofs.lemmas.List.{append_assoc, take_more, drop_more, take-append-le}
use Rattle.px_model.specs.declared.row.Row.{Row}
use Rattle.px_model.specs.declared.machine.Flat.{Flat}
use Rattle.px_model.specs.Rows.{Key, same_key, key_written, row_at}
use Rattle.px_model.specs.Machine.{Machine, flat, flat_from, horizon}
use Rattle.px_model.specs.Chains.{last_committed, of_ended, of_slot, of_key, is_put, base_or, chain}
use Rattle.px_calls.specs.declared.reply.Reply.{Reply}
use Rattle.px_calls.specs.declared.reply.Reply.TheVariants.{Swept, Idle}
use Rattle.px_calls.specs.declared.call.Call.{Call}
use Rattle.px_calls.specs.Steps.{open_of, entries_of, state_after}
use Rattle.px_calls.specs.Sweeps.{due_below, sweep_reply, counts_sweep, swept_state}
use Rattle.px_chain_laws.specs.Sweeping.{base_of, IsSweptFrom}
use Rattle.px_chain_laws.proofs.Looking.{last_committed-append}
use Rattle.px_xacts_laws.proofs.Mirroring.{flat_from-append}
use Rattle.px_chain_laws.specs.Kept.{IsKept}
use Rattle.px_chain_laws.proofs.Keeping.{by_call}
use Rattle.px_chain_laws.proofs.Moving.{key_itself}

-- the write is due, and passed
one_passed : (m : Machine) (w : Flat) → slice_get (flat m) m.swept ≡ Some w → w.place < horizon m → swept_state m ≡ record m { swept = m.swept + 1 }
unfolding swept_state sweep_reply
one_passed m w at due =
    ap (λ (o : Option Flat). record m { swept = m.swept + counts_sweep (due_below (horizon m) o) }) at
    ∙ ap (λ (b : Bool). record m { swept = m.swept + counts_sweep (cond b (Swept w.number) Idle) }) (lt-ltb w.place (horizon m) due)

pub idle_stays : (m : Machine) → sweep_reply m ≡ Idle → swept_state m ≡ m
unfolding swept_state
idle_stays m idle =
    ap (λ (r : Reply). record m { swept = m.swept + counts_sweep r }) idle ∙ ap (λ (n : ℕ). record m { swept = n }) (omega arith)

pub dropped : (m : Machine) (w : Flat) → slice_get (flat m) m.swept ≡ Some w → drop m.swept (flat m) ≡ w ∷ drop (m.swept + 1) (flat m)
dropped m w at =
    drop_more (flat m) m.swept w (slice_get_within (flat m) m.swept w at)
    ∙ ap (λ f. f ∷ drop (m.swept + 1) (flat m)) (get_or_from_slice_get (flat m) m.swept w w at)

taken : (m : Machine) (w : Flat) (key : Key) → slice_get (flat m) m.swept ≡ Some w
    → last_committed key (take (m.swept + 1) (flat m))
    ≡ option_or (cond (w.committed && same_key key (key_written w.write)) (Some w) None) (last_committed key (take m.swept (flat m)))
taken m w key at =
    ap (last_committed key) (take_more (flat m) m.swept w (slice_get_within (flat m) m.swept w at)
    ∙ ap (λ f. take m.swept (flat m) ++ f ∷ []) (get_or_from_slice_get (flat m) m.swept w w at))
    ∙ last_committed-append key (take m.swept (flat m)) (w ∷ [])

one_or_none : (base : ℕ) (row : Option Row) (o : Option Flat) → length (base_or base row o) ≤ 1
one_or_none base None None = omega arith
one_or_none base (Some r) None = omega arith
one_or_none base row (Some f) = elim (is_put f.write) as (λ b. length (cond b (of_ended base f ∷ []) []) ≤ 1) [
  | true ↦ omega arith
  | false ↦ omega arith
]

base_now : (base : ℕ) (row : Option Row) (was : Option Flat) (w : Flat) (committed here : Bool) → here ≡ true
    → base_or base row (option_or (cond (committed && here) (Some w) None) was)
    ≡ cond committed (cond (is_put w.write) (of_ended base w ∷ []) []) (base_or base row was)
base_now base row was w true here is = ap (λ (b : Bool). base_or base row (option_or (cond b (Some w) None) was)) is
base_now base row was w false here is = refl

pub swept_from : (m : Machine) (w : Flat) → slice_get (flat m) m.swept ≡ Some w → w.place < horizon m → IsSweptFrom m w
unfolding chain
swept_from m w at due =
    let key = key_written w.write in
    let row = row_at key m.opening in
    let was = last_committed key (take m.swept (flat m)) in
    let rest = of_key key (map (of_ended m.base) (drop (m.swept + 1) (flat m))) in
    let own = of_key key (flat_map (of_slot m.base) m.active) in
    let next : Machine = record m { swept = m.swept + 1 } in
    let passed : of_key key (map (of_ended m.base) (drop m.swept (flat m))) ≡ of_ended m.base w ∷ rest =
    ap (λ l. of_key key (map (of_ended m.base) l)) (dropped m w at) ∙ ap (λ b. cond b (of_ended m.base w ∷ rest) rest) (key_itself key) in
    record {
      newer = rest ++ own;
      was = ap (λ l. (base_of m key ++ l) ++ own) passed ∙ append_assoc (base_of m key) (of_ended m.base w ∷ rest) own;
      now =
          ap (λ (n : Machine). chain n key) (one_passed m w at due)
          ∙ append_assoc (base_of next key) rest own
          ∙ ap (λ (n : Machine). base_of n key ++ (rest ++ own)) (sym (one_passed m w at due));
      base =
          ap (λ (n : Machine). base_of n key) (one_passed m w at due)
          ∙ ap (base_or m.base row) (taken m w key at)
          ∙ base_now m.base row was w w.committed (same_key key key) (key_itself key);
    }

pub sweep_leaves_others : (m : Machine) (w : Flat) (key : Key) → slice_get (flat m) m.swept ≡ Some w → w.place < horizon m
    → same_key key (key_written w.write) ≡ false → chain (swept_state m) key ≡ chain m key
unfolding chain
sweep_leaves_others m w key at due other =
    let row = row_at key m.opening in
    let was = last_committed key (take m.swept (flat m)) in
    let rest = of_key key (map (of_ended m.base) (drop (m.swept + 1) (flat m))) in
    let own = of_key key (flat_map (of_slot m.base) m.active) in
    let passed : of_key key (map (of_ended m.base) (drop m.swept (flat m))) ≡ rest =
    ap (λ l. of_key key (map (of_ended m.base) l)) (dropped m w at) ∙ ap (λ b. cond b (of_ended m.base w ∷ rest) rest) other in
    let base : last_committed key (take (m.swept + 1) (flat m)) ≡ was =
    taken m w key at ∙ ap (λ b. option_or (cond b (Some w) None) was) (and_right w.committed (same_key key (key_written w.write)) other) in
    ap (λ (n : Machine). chain n key) (one_passed m w at due)
    ∙ ap (λ (o : Option Flat). (base_or m.base row o ++ rest) ++ own) base
    ∙ ap (λ l. (base_or m.base row was ++ l) ++ own) (sym passed)

pub one_base : (m : Machine) (key : Key) → length (base_of m key) ≤ 1
one_base m key = one_or_none m.base (row_at key m.opening) (last_committed key (take m.swept (flat m)))

pub calls_keep_bases : (m : Machine) (s : ℕ) (call : Call) (key : Key) → IsKept m → base_of (state_after m s call) key ≡ base_of m key
calls_keep_bases m s call key k =
    by_call (λ (n : Machine). base_of n key ≡ base_of m key) m s refl refl (λ x y at number snap. refl) (λ x committed at.
    let new = flat_from (0 + length m.ended) (entries_of committed (open_of m s)) in
    ap (λ (l : List Flat). base_or m.base (row_at key m.opening) (last_committed key (take m.swept l))) (flat_from-append 0 m.ended (entries_of committed (open_of m s)))
    ∙ ap (λ (l : List Flat). base_or m.base (row_at key m.opening) (last_committed key l)) (take-append-le m.swept (flat m) new k.swept.within))
    call
