-- What is known of a session's transaction is what the machine has of it.
use Rattle.std.proofs.Common.{◌≡◌, ℕ, ◌+◌, false, cond, not, List, map, length, Option, Some, None, option_map, refl, sym, ap, subst, ◌∙◌}
use Rattle.std.proofs.lemmas.List.{length-map}
use Rattle.std.proofs.lemmas.Option.{none-some, same_Some}
use Rattle.px_calls.specs.declared.reply.Reply.{Reply}
use Rattle.px_calls.specs.declared.reply.Reply.TheVariants.{LimitKey, NoTable, NoTransaction}
use Rattle.px_calls.specs.Steps.{fits_key, has_table, if_open, open_of}
use Rattle.px_held.specs.declared.reader.Reader.{Reader}
use Rattle.px_held.specs.Serving.{HeldTables}
use Rattle.px_history.specs.Store.{Store}
use Rattle.px_locks.specs.Holders.{Holders}
use Rattle.px_model.specs.declared.machine.Open.{Open}
use Rattle.px_model.specs.Machine.{Machine}
use Rattle.px_model.specs.Rows.{key_written}
use Rattle.px_site.specs.State.{State}
use Rattle.px_xacts.specs.declared.transaction.Transaction.{Transaction}
use Rattle.px_xacts.specs.Transactions as xacts
use Rattle.px_xacts.specs.Transactions.{Transactions}
use Rattle.px_xacts_laws.proofs.Mirroring.{session_known}
use Rattle.px_xacts_laws.specs.Mirrors.{Known, Mirrors, key_at, known_of_open, known_of_transaction}
use Rattle.px_answers.specs.declared.caller.Caller.{Caller}
use Rattle.px_answers.specs.declared.caller.Opened.{Opened}
use Rattle.px_answers.specs.Asking.{IsCallerOf, IsCallerOn, IsKeyRefusal, IsOpenIn, IsTableRefusal, MayReadKey, MayReadTable, opened_in, opened_of}
use Rattle.px_answers.specs.Reading.{IsReaderOf}
use Rattle.px_answers.specs.Seeing.{Sees}

writes_known : (x : Transaction) (y : Open) → known_of_transaction (Some x) ≡ known_of_open (Some y) → length x.writes ≡ length y.writes
writes_known x y e =
    let k = same_Some (x.number, (x.snap, map key_at x.writes)) (y.number, (y.snap, map key_written y.writes)) e in
    sym (length-map x.writes key_at) ∙ ap (λ (k : Known). length k.1.1) k ∙ length-map y.writes key_written

pub caller_of : {site : State} {held : HeldTables} {holders : Holders} {m : Machine} {store : Store} (caller : Caller)
    → Sees site held caller.xacts.now holders m store → IsCallerOn held caller → IsCallerOf m caller
caller_of caller sees on = record { mirrors = sees.mirrors; tables = on.tables ∙ sees.tables; short = on.short ∙ sees.short }

both_known : (m : Machine) (all : Transactions) (x : Option Transaction) (y : Option Open) → all.base ≡ m.base
    → known_of_transaction x ≡ known_of_open y → option_map (opened_of all) x ≡ option_map (opened_in m) y
both_known m all None None base e = refl
both_known m all None (Some y) base e = absurd (none-some (y.number, (y.snap, map key_written y.writes)) e)
both_known m all (Some x) None base e = absurd (none-some (x.number, (x.snap, map key_at x.writes)) (sym e))
both_known m all (Some x) (Some y) base e =
    let k = same_Some (x.number, (x.snap, map key_at x.writes)) (y.number, (y.snap, map key_written y.writes)) e in
    let number : x.number ≡ y.number = ap (λ (k : Known). k.0) k in
    let snap : x.snap ≡ y.snap = ap (λ (k : Known). k.1.0) k in
    let writes = writes_known x y e in
    let same : opened_of all x ≡ opened_in m y = λ i. record { number = number i; stored = base i + number i; snapshot = snap i; writes = writes i } in
    ap (λ (o : Opened). Some o) same

opened_known : (m : Machine) (all : Transactions) (session : ℕ) → Mirrors m all
    → option_map (opened_of all) (xacts.open_of all session) ≡ option_map (opened_in m) (open_of m session)
opened_known m all session mirrors =
    both_known m all (xacts.open_of all session) (open_of m session) mirrors.base (session_known m all session mirrors)

none_mapped : (m : Machine) (y : Option Open) → option_map (opened_in m) y ≡ None → y ≡ None
none_mapped m None e = refl
none_mapped m (Some y) e = absurd (none-some (opened_in m y) (sym e))

-- no transaction is open
pub none_open : (m : Machine) (all : Transactions) (session : ℕ) (o : Option Opened) → Mirrors m all
    → o ≡ option_map (opened_of all) (xacts.open_of all session) → o ≡ None → open_of m session ≡ None
none_open m all session o mirrors is none = none_mapped m (open_of m session) (sym (opened_known m all session mirrors) ∙ sym is ∙ none)

some_mapped : (m : Machine) (session : ℕ) (y : Option Open) (opened : Opened) → open_of m session ≡ y → option_map (opened_in m) y ≡ Some opened
    → (xact : Open) × IsOpenIn m session xact opened
some_mapped m session None opened at e = absurd (none-some opened e)
some_mapped m session (Some y) opened at e = (y, record { is_open = at; known = sym (same_Some (opened_in m y) opened e) })

-- one is open
pub some_open : (m : Machine) (all : Transactions) (session : ℕ) (o : Option Opened) (opened : Opened) → Mirrors m all
    → o ≡ option_map (opened_of all) (xacts.open_of all session) → o ≡ Some opened → (xact : Open) × IsOpenIn m session xact opened
some_open m all session o opened mirrors is some =
    some_mapped m session (open_of m session) opened refl (sym (opened_known m all session mirrors) ∙ sym is ∙ some)

-- it has as many writes as the machine's
pub writes_of : {m : Machine} {session : ℕ} {xact : Open} {opened : Opened} → IsOpenIn m session xact opened → opened.writes ≡ length xact.writes
writes_of is = ap (λ (o : Opened). o.writes) is.known

-- ---- refusals

pub unopened_refused : (m : Machine) (session table : ℕ) → open_of m session ≡ None → IsTableRefusal m session table NoTransaction
unopened_refused m session table none done =
    ap (λ (o : Option Open). if_open o (λ xact. cond (not (has_table m table)) NoTable (done xact))) none

pub no_table_refused : (m : Machine) (session table : ℕ) (xact : Open) → open_of m session ≡ Some xact → has_table m table ≡ false
    → IsTableRefusal m session table NoTable
no_table_refused m session table xact at lacks done =
    ap (λ (o : Option Open). if_open o (λ xact. cond (not (has_table m table)) NoTable (done xact))) at
    ∙ ap (λ b. cond (not b) NoTable (done xact)) lacks

pub table_read : {m : Machine} {session table : ℕ} {opened : Opened} (done : Open → Reply) (may : MayReadTable m session table opened)
    → if_open (open_of m session) (λ xact. cond (not (has_table m table)) NoTable (done xact)) ≡ done may.xact
table_read {m} {session} {table} done may =
    ap (λ (o : Option Open). if_open o (λ xact. cond (not (has_table m table)) NoTable (done xact))) may.opened_is.is_open
    ∙ ap (λ b. cond (not b) NoTable (done may.xact)) may.has

pub key_unread : (m : Machine) (session table : ℕ) (key : List ℕ) (reply : Reply) → IsTableRefusal m session table reply → IsKeyRefusal m session table key reply
key_unread m session table key reply refused done = refused (λ xact. cond (not (fits_key key)) LimitKey (done xact))

pub key_refused : {opened : Opened} (m : Machine) (session table : ℕ) (key : List ℕ) → MayReadTable m session table opened → fits_key key ≡ false
    → IsKeyRefusal m session table key LimitKey
key_refused m session table key may long done =
    table_read (λ xact. cond (not (fits_key key)) LimitKey (done xact)) may ∙ ap (λ b. cond (not b) LimitKey (done may.xact)) long

pub key_read : {m : Machine} {session table : ℕ} {key : List ℕ} {opened : Opened} (done : Open → Reply) (may : MayReadKey m session table key opened)
    → if_open (open_of m session) (λ xact. cond (not (has_table m table)) NoTable (cond (not (fits_key key)) LimitKey (done xact))) ≡ done may.of_table.xact
key_read {key = key} done may =
    table_read (λ xact. cond (not (fits_key key)) LimitKey (done xact)) may.of_table ∙ ap (λ b. cond (not b) LimitKey (done may.of_table.xact)) may.fits

-- ---- the opened transaction as a reader

pub reader_of : {m : Machine} {session : ℕ} {xact : Open} {opened : Opened} (reader : Reader) → IsOpenIn m session xact opened → reader.own ≡ opened.stored
    → reader.snapshot ≡ opened.snapshot → IsReaderOf m session xact reader
reader_of reader is own snapshot = record {
  is_open = is.is_open;
  own = own ∙ ap (λ (o : Opened). o.stored) is.known;
  snapshot = snapshot ∙ ap (λ (o : Opened). o.snapshot) is.known;
}

pub sees_through : {site : State} {held : HeldTables} {holders : Holders} {m : Machine} {store : Store} (all other : Transactions) → other ≡ all
    → Sees site held all holders m store → Sees site held other holders m store
sees_through {site} {held} {holders} {m} {store} all other same sees = subst (λ (t : Transactions). Sees site held t holders m store) (sym same) sees
