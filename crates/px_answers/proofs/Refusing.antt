-- What refuses a write, and that nothing else does.
use Rattle.std.proofs.Common.{◌≡◌, ℕ, Bool, true, false, cond, not, List, length, Option, Some, None, option_map, refl, sym, ap, ◌∙◌}
use Rattle.std.specs.Prelude.{IfErr, IfOk, Result, Ok, Err, nat_le, is_some, is_none}
use Rattle.px_answers.specs.declared.caller.Opened.{Opened}
use Rattle.px_answers.specs.declared.writing.Asked.{Asked}
use Rattle.px_answers.specs.declared.writing.Wants.{Wants}
use Rattle.px_answers.specs.declared.writing.Wants.TheVariants.{Absent, Present}
use Rattle.px_answers.specs.declared.writing.Writer.{Writer}
use Rattle.px_answers.specs.Writing.{Asks, IsAnswered, IsAsked, MayAsk, MayWrite, body_asked, fits_asked, is_wrong, refusal_of, reply_asked, reply_done}
use Rattle.px_calls.specs.declared.call.Call.{Call}
use Rattle.px_calls.specs.declared.call.Call.TheVariants.{Delete, Insert, Update}
use Rattle.px_calls.specs.declared.reply.Reply.{Reply}
use Rattle.px_calls.specs.declared.reply.Reply.TheVariants.{Conflict, Deleted, Inserted, LimitBody, LimitKey, LimitWrites, NoTable, NoTransaction, TableFull, Updated}
use Rattle.px_calls.specs.Steps.{conflict_of, fits_key, has_table, if_open, is_full, open_of, reply_of, unless_refused, write_refusal}
use Rattle.px_model.specs.declared.limits.TheConstants.{MOST_VARIATIONS, MOST_WRITES}
use Rattle.px_model.specs.declared.machine.Open.{Open}
use Rattle.px_model.specs.declared.row.Row.{Row}
use Rattle.px_model.specs.Machine.{Machine, view}
use Rattle.px_model.specs.Rows.{row_at}

-- ---- a call's reply is what is answered to who asks for it

none_not_some : (o : Option Row) → is_none o ≡ not (is_some o)
none_not_some None = refl
none_not_some (Some row) = refl

-- what is answered behind the refusals that need no row
abbrev reply_behind : Machine → (table : ℕ) (key : List ℕ) → Wants → (done : Reply) → Open → Reply
reply_behind m table key wants done xact =
    cond (is_wrong wants (is_some (row_at (table, key) (view m xact)))) (refusal_of wants) (cond (is_full m table) (TableFull MOST_VARIATIONS) done)

present_reply : (m : Machine) (table : ℕ) (key : List ℕ) (done : Reply) (xact : Open)
    → cond (is_none (row_at (table, key) (view m xact))) (refusal_of Present) (cond (is_full m table) (TableFull MOST_VARIATIONS) done)
    ≡ reply_behind m table key Present done xact
present_reply m table key done xact =
    ap (λ b. cond b (refusal_of Present) (cond (is_full m table) (TableFull MOST_VARIATIONS) done)) (none_not_some (row_at (table, key) (view m xact)))

by_open : (slot : Option Open) (f g : Open → Reply) → ((xact : Open) → f xact ≡ g xact) → if_open slot f ≡ if_open slot g
by_open None f g same = refl
by_open (Some xact) f g same = same xact

moved : (m : Machine) (session : ℕ) (asked : Asked) (table : ℕ) (key : List ℕ) (body : Option (List ℕ)) (wants : Wants) (done : Reply) → IsAsked asked table key body wants
    → reply_asked m session table key body wants done ≡ reply_asked m session asked.table asked.key.now (body_asked asked) asked.wants done
moved m session asked table key body wants done is =
    ap (λ t. reply_asked m session t key body wants done) (sym is.its_table)
    ∙ ap (λ k. reply_asked m session asked.table k body wants done) (sym is.its_key)
    ∙ ap (λ b. reply_asked m session asked.table asked.key.now b wants done) (sym is.its_body)
    ∙ ap (λ w. reply_asked m session asked.table asked.key.now (body_asked asked) w done) (sym is.its_wants)

pub asked_reply : (m : Machine) (session : ℕ) (call : Call) (asked : Asked) → Asks call asked
    → reply_of m session call ≡ reply_asked m session asked.table asked.key.now (body_asked asked) asked.wants (reply_done call)
unfolding reply_of
asked_reply m session (Insert table key tag body) asked is = moved m session asked table key (Some body) Absent Inserted is
asked_reply m session (Update table key tag body) asked is =
    by_open (open_of m session)
    (λ xact. unless_refused (write_refusal m session xact table key (fits_asked m (Some body)))
    (cond (is_none (row_at (table, key) (view m xact))) (refusal_of Present) (cond (is_full m table) (TableFull MOST_VARIATIONS) Updated)))
    (λ xact. unless_refused (write_refusal m session xact table key (fits_asked m (Some body))) (reply_behind m table key Present Updated xact))
    (λ xact. ap (unless_refused (write_refusal m session xact table key (fits_asked m (Some body)))) (present_reply m table key Updated xact))
    ∙ moved m session asked table key (Some body) Present Updated is
asked_reply m session (Delete table key) asked is =
    by_open (open_of m session)
    (λ xact. unless_refused (write_refusal m session xact table key true)
    (cond (is_none (row_at (table, key) (view m xact))) (refusal_of Present) (cond (is_full m table) (TableFull MOST_VARIATIONS) Deleted)))
    (λ xact. unless_refused (write_refusal m session xact table key true) (reply_behind m table key Present Deleted xact))
    (λ xact. ap (unless_refused (write_refusal m session xact table key true)) (present_reply m table key Deleted xact))
    ∙ moved m session asked table key None Present Deleted is
asked_reply m session _ asked is = absurd is

-- ---- refusals, in their order

module _ (m : Machine) (session : ℕ) (asked : Asked) where
  abbrev refusal_here : Open → Option Reply
  refusal_here xact = write_refusal m session xact asked.table asked.key.now (fits_asked m (body_asked asked))

  abbrev refusals : (has key body writes : Bool) → Option ℕ → Option Reply
  refusals has key body writes conflict =
      cond (not has) (Some NoTable) (cond (not key) (Some LimitKey) (cond (not body) (Some LimitBody) (cond writes (Some LimitWrites) (option_map Conflict conflict))))

  conflict_here : Open → Option ℕ
  conflict_here xact = conflict_of m session xact (asked.table, asked.key.now)

  refusal_is : (xact : Open) → refusal_here xact
      ≡ refusals (has_table m asked.table) (fits_key asked.key.now) (fits_asked m (body_asked asked)) (nat_le MOST_WRITES (length xact.writes)) (conflict_of m session xact (asked.table, asked.key.now))
  unfolding write_refusal
  refusal_is xact = refl

  pub unopened : open_of m session ≡ None → IsAnswered m session asked NoTransaction
  unopened none done =
      ap (λ (o : Option Open). if_open o (λ xact. unless_refused (refusal_here xact) (reply_behind m asked.table asked.key.now asked.wants done xact))) none

  -- what the opened transaction is answered
  answered : (xact : Open) (refusal : Option Reply) → open_of m session ≡ Some xact → refusal_here xact ≡ refusal → (done : Reply)
      → reply_asked m session asked.table asked.key.now (body_asked asked) asked.wants done
      ≡ unless_refused refusal (reply_behind m asked.table asked.key.now asked.wants done xact)
  answered xact refusal at is done =
      ap (λ (o : Option Open). if_open o (λ (x : Open). unless_refused (refusal_here x) (reply_behind m asked.table asked.key.now asked.wants done x))) at
      ∙ ap (λ r. unless_refused r (reply_behind m asked.table asked.key.now asked.wants done xact)) is

  pub no_table : (xact : Open) → open_of m session ≡ Some xact → has_table m asked.table ≡ false → IsAnswered m session asked NoTable
  no_table xact at has = answered xact (Some NoTable) at
      (refusal_is xact
      ∙ ap (λ b. refusals b (fits_key asked.key.now) (fits_asked m (body_asked asked)) (nat_le MOST_WRITES (length xact.writes)) (conflict_of m session xact (asked.table, asked.key.now))) has)

  pub bad_key : (xact : Open) → open_of m session ≡ Some xact → has_table m asked.table ≡ true → fits_key asked.key.now ≡ false → IsAnswered m session asked LimitKey
  bad_key xact at has key = answered xact (Some LimitKey) at
      (refusal_is xact
      ∙ ap (λ b. refusals b (fits_key asked.key.now) (fits_asked m (body_asked asked)) (nat_le MOST_WRITES (length xact.writes)) (conflict_of m session xact (asked.table, asked.key.now))) has
      ∙ ap (λ b. refusals true b (fits_asked m (body_asked asked)) (nat_le MOST_WRITES (length xact.writes)) (conflict_of m session xact (asked.table, asked.key.now))) key)

  pub bad_body : (xact : Open) → open_of m session ≡ Some xact → has_table m asked.table ≡ true → fits_key asked.key.now ≡ true → fits_asked m (body_asked asked) ≡ false
      → IsAnswered m session asked LimitBody
  bad_body xact at has key body = answered xact (Some LimitBody) at
      (refusal_is xact
      ∙ ap (λ b. refusals b (fits_key asked.key.now) (fits_asked m (body_asked asked)) (nat_le MOST_WRITES (length xact.writes)) (conflict_of m session xact (asked.table, asked.key.now))) has
      ∙ ap (λ b. refusals true b (fits_asked m (body_asked asked)) (nat_le MOST_WRITES (length xact.writes)) (conflict_of m session xact (asked.table, asked.key.now))) key
      ∙ ap (λ b. refusals true true b (nat_le MOST_WRITES (length xact.writes)) (conflict_of m session xact (asked.table, asked.key.now))) body)

  fits_so_far : (xact : Open) → has_table m asked.table ≡ true → fits_key asked.key.now ≡ true → fits_asked m (body_asked asked) ≡ true
      → refusal_here xact ≡ refusals true true true (nat_le MOST_WRITES (length xact.writes)) (conflict_of m session xact (asked.table, asked.key.now))
  fits_so_far xact has key body =
      refusal_is xact
      ∙ ap (λ b. refusals b (fits_key asked.key.now) (fits_asked m (body_asked asked)) (nat_le MOST_WRITES (length xact.writes)) (conflict_of m session xact (asked.table, asked.key.now))) has
      ∙ ap (λ b. refusals true b (fits_asked m (body_asked asked)) (nat_le MOST_WRITES (length xact.writes)) (conflict_of m session xact (asked.table, asked.key.now))) key
      ∙ ap (λ b. refusals true true b (nat_le MOST_WRITES (length xact.writes)) (conflict_of m session xact (asked.table, asked.key.now))) body

  pub many_writes : (xact : Open) → open_of m session ≡ Some xact → has_table m asked.table ≡ true → fits_key asked.key.now ≡ true → fits_asked m (body_asked asked) ≡ true
      → nat_le MOST_WRITES (length xact.writes) ≡ true → IsAnswered m session asked LimitWrites
  many_writes xact at has key body many = answered xact (Some LimitWrites) at
      (fits_so_far xact has key body
      ∙ ap (λ b. refusals true true true b (conflict_of m session xact (asked.table, asked.key.now))) many)

  may_conflict : {opened : Opened} (may : MayAsk m session asked opened) (conflict : Option ℕ) → conflict_of m session may.xact (asked.table, asked.key.now) ≡ conflict
      → (done : Reply) → reply_asked m session asked.table asked.key.now (body_asked asked) asked.wants done
      ≡ unless_refused (option_map Conflict conflict) (reply_behind m asked.table asked.key.now asked.wants done may.xact)
  may_conflict may conflict meets = answered may.xact (option_map Conflict conflict) may.opened_is.is_open
      (fits_so_far may.xact may.has may.its_key may.its_body
      ∙ ap (λ b. refusals true true true b (conflict_of m session may.xact (asked.table, asked.key.now))) may.few
      ∙ ap (λ o. option_map Conflict o) meets)

  pub meets_another : {opened : Opened} (may : MayAsk m session asked opened) (number : ℕ) → conflict_of m session may.xact (asked.table, asked.key.now) ≡ Some number
      → IsAnswered m session asked (Conflict number)
  meets_another may number meets = may_conflict may (Some number) meets

  behind : {opened : Opened} (may : MayAsk m session asked opened) (is_there wrong : Bool) → conflict_of m session may.xact (asked.table, asked.key.now) ≡ None
      → is_there ≡ is_some (row_at (asked.table, asked.key.now) (view m may.xact)) → is_wrong asked.wants is_there ≡ wrong → (done : Reply)
      → reply_asked m session asked.table asked.key.now (body_asked asked) asked.wants done
      ≡ cond wrong (refusal_of asked.wants) (cond (is_full m asked.table) (TableFull MOST_VARIATIONS) done)
  behind may is_there wrong free sees is done =
      may_conflict may None free done
      ∙ ap (λ b. cond b (refusal_of asked.wants) (cond (is_full m asked.table) (TableFull MOST_VARIATIONS) done)) (ap (is_wrong asked.wants) (sym sees) ∙ is)

  pub is_refused : {opened : Opened} (may : MayAsk m session asked opened) (is_there : Bool) → conflict_of m session may.xact (asked.table, asked.key.now) ≡ None
      → is_there ≡ is_some (row_at (asked.table, asked.key.now) (view m may.xact)) → is_wrong asked.wants is_there ≡ true → IsAnswered m session asked (refusal_of asked.wants)
  is_refused may is_there free sees wrong = behind may is_there true free sees wrong

  pub is_writer : {opened : Opened} (call : Call) (writer : Writer) (may : MayAsk m session asked opened) (is_there : Bool) → Asks call asked
      → conflict_of m session may.xact (asked.table, asked.key.now) ≡ None → is_there ≡ is_some (row_at (asked.table, asked.key.now) (view m may.xact))
      → is_wrong asked.wants is_there ≡ false → writer.number ≡ opened.number → writer.stored ≡ opened.stored → MayWrite m session call asked.table writer
  is_writer call writer may is_there asks free sees right number stored =
      let known = may.opened_is.known in
      let reply = asked_reply m session call asked asks ∙ behind may is_there false free sees right (reply_done call) in
      record {
        xact = may.xact;
        is_open = may.opened_is.is_open;
        number = number ∙ ap (λ (o : Opened). o.number) known;
        stored = stored ∙ ap (λ (o : Opened). o.stored) known;
        done = λ room. reply ∙ ap (λ b. cond b (TableFull MOST_VARIATIONS) (reply_done call)) room;
        full = λ none_left. reply ∙ ap (λ b. cond b (TableFull MOST_VARIATIONS) (reply_done call)) none_left;
      }

pub refused_call : (m : Machine) (session : ℕ) (call : Call) (asked : Asked) (reply : Reply) → Asks call asked → IsAnswered m session asked reply → reply ≡ reply_of m session call
refused_call m session call asked reply asks answered = sym (asked_reply m session call asked asks ∙ answered (reply_done call))

-- ---- answers

pub if_ok : {T E : Type 0} {P Q : T → Type 0} (result : Result T E) → ((answer : T) → P answer → Q answer) → IfOk result P → IfOk result Q
if_ok (Ok answer) gives holds = gives answer holds
if_ok (Err error) gives holds = tt

pub if_error : {T E : Type 0} {P Q : E → Type 0} (result : Result T E) → ((error : E) → P error → Q error) → IfErr result P → IfErr result Q
if_error (Ok answer) gives holds = tt
if_error (Err error) gives holds = gives error holds
