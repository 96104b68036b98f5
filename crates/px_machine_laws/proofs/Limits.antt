-- The limits of a transaction's writes and of a table's versions.
use Rattle.std.proofs.Common.{◌≡◌, ℕ, ◌≤◌, Bool, true, false, cond, not, List, Option, Some, None, length, refl, sym, subst}
use Rattle.std.specs.Prelude.{is_some, option_map}
use Rattle.std.proofs.lemmas.Bool.{false≢true, le-leb}
use Rattle.px_model.specs.declared.limits.TheConstants.{MOST_VARIATIONS, MOST_WRITES}
use Rattle.px_model.specs.declared.machine.Open.{Open}
use Rattle.px_model.specs.declared.row.Row.{Row}
use Rattle.px_model.specs.Chains.{variations_of_table}
use Rattle.px_model.specs.Machine.{Machine, view}
use Rattle.px_model.specs.Rows.{row_at}
use Rattle.px_calls.specs.declared.call.Call.TheVariants.{Insert}
use Rattle.px_calls.specs.declared.reply.Reply.{Reply}
use Rattle.px_calls.specs.declared.reply.Reply.TheVariants.{Conflict, Duplicate, Inserted, LimitBody, LimitKey, LimitWrites, NoTable, TableFull}
use Rattle.px_calls.specs.Steps.{open_of, has_table, fits_key, fits_body, if_open, is_full, unless_refused, write_refusal, reply_of}

opened_reply : (slot : Option Open) (reply : Open → Reply) (x : Open) (r : Reply) → slot ≡ Some x → reply x ≡ r → if_open slot reply ≡ r
opened_reply slot reply x r is h = subst (λ s. if_open s reply ≡ r) (sym is) h

fourth : (a b c d : Bool) (o : Option ℕ) (r : Reply) → a ≡ true → b ≡ true → c ≡ true → d ≡ true
    → unless_refused (cond (not a) (Some NoTable) (cond (not b) (Some LimitKey) (cond (not c) (Some LimitBody) (cond d (Some LimitWrites) (option_map Conflict o))))) r ≡ LimitWrites
fourth true true true true o r p q s t = refl
fourth false b c d o r p q s t = absurd (false≢true p)
fourth true false c d o r p q s t = absurd (false≢true q)
fourth true true false d o r p q s t = absurd (false≢true s)
fourth true true true false o r p q s t = absurd (false≢true t)

pub writes_are_limited : (m : Machine) (session : ℕ) (x : Open) (table : ℕ) (key : List ℕ) (tag : ℕ) (body : List ℕ)
    → open_of m session ≡ Some x → has_table m table ≡ true → fits_key key ≡ true → fits_body m body ≡ true → MOST_WRITES ≤ length x.writes
    → reply_of m session (Insert table key tag body) ≡ LimitWrites
unfolding reply_of write_refusal
writes_are_limited m session x table key tag body is a b c many =
    opened_reply (open_of m session) _ x LimitWrites is (fourth _ _ _ _ _ _ a b c (le-leb MOST_WRITES (length x.writes) many))

-- ---- a table's versions

refused_last : (refused : Option Reply) (row : Option Row) (full : Bool) → refused ≡ None → row ≡ None → full ≡ true
    → unless_refused refused (cond (is_some row) Duplicate (cond full (TableFull MOST_VARIATIONS) Inserted)) ≡ TableFull MOST_VARIATIONS
refused_last refused row full free none most = rw (free, none, most)

pub versions_are_limited : (m : Machine) (session : ℕ) (x : Open) (table : ℕ) (key : List ℕ) (tag : ℕ) (body : List ℕ) → open_of m session ≡ Some x
    → write_refusal m session x table key (fits_body m body) ≡ None → row_at (table, key) (view m x) ≡ None → MOST_VARIATIONS ≤ variations_of_table m table
    → reply_of m session (Insert table key tag body) ≡ TableFull MOST_VARIATIONS
unfolding reply_of is_full
versions_are_limited m session x table key tag body is free none many =
    opened_reply (open_of m session) _ x (TableFull MOST_VARIATIONS) is (refused_last _ _ _ free none (le-leb MOST_VARIATIONS (variations_of_table m table) many))
