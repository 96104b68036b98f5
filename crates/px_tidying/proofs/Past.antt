-- The least numbers past those of changes and of versions, one after the other, and who is done.
use Rattle.std.proofs.Common.{◌≡◌, ◌≢◌, ℕ, zero, suc, ◌+◌, ◌<◌, ◌≤◌, ◌==◌, ◌||◌, Bool, true, false, max, All, List, [], ◌∷◌, ◌++◌, get_or, length, take, refl, sym, ap, subst, ◌∙◌, arith, ⊎_elim}
use Rattle.std.specs.Prelude.{nat_lt}
use Rattle.std.specs.List.{list_any}
use Rattle.std.proofs.Math.Path.{fun_ext}
use Rattle.std.proofs.lemmas.Bool.{cases_eq}
use Rattle.std.proofs.lemmas.List.Elements.{All-append, All-cons, All-head, All-nil, All-tail, All-weaker}
use Rattle.std.proofs.lemmas.List.Folds.{list_any-append}
use Rattle.px_change.specs.declared.change.Change.{Change}
use Rattle.px_change.specs.declared.change.ChangeKind.{ChangeKind}
use Rattle.px_change.specs.declared.change.ChangeKind.TheVariants.{Put, Commit, Rollback, Sweep, Move, Tidy}
use Rattle.px_held.specs.Numbers.{IsPastVersions, IsVersion}
use Rattle.px_history.specs.Fitting.{IsStoredNumber, IsTable}
use Rattle.px_life.proofs.Commits.{committed_both}
use Rattle.px_life.specs.Front.{done_by}
use Rattle.px_life.specs.Life.{committed_by, committer}
use Rattle.px_model.specs.declared.limits.TheConstants.{STORED_NUMBERS_END}
use Rattle.px_restart.specs.declared.restart.Restart.{Restart}
use Rattle.px_shown.specs.Shown.{Done, done_with}
use Rattle.px_shown.specs.Tables.{Tables}
use Rattle.px_tidy.specs.Numbers.{Numbers, done_below, done_of}
use Rattle.px_tidying.specs.Numbers.{AreVersionsBelow, IsPastChanges, IsPastTables}

-- ---- one more of a list

pub take_more : {X : Type 0} (l : List X) (index : ℕ) (x : X) → index < length l → x ≡ get_or l index x → take (index + 1) l ≡ take index l ++ x ∷ []
take_more l index x within at =
    let same : index + 1 ≡ suc index = omega arith in
    ap (λ (n : ℕ). take n l) same ∙ next l index within ∙ ap (λ y. take index l ++ y ∷ []) (sym at)
  where
    next : (l : List _) (index : ℕ) → index < length l → take (suc index) l ≡ take index l ++ get_or l index x ∷ []
    next [] index within = absurd (omega (arith, within))
    next (first ∷ l) zero within = refl
    next (first ∷ l) (suc index) within = ap (λ rest. first ∷ rest) (next l index (omega (arith, within)))

-- ---- changes

pub none_past : (first : ℕ) → IsPastChanges first [] first
none_past first = record { from = omega arith; past = All-nil (λ (c : Change). c.xn < first); least = λ other from below. from }

pub one_past : (first : ℕ) (changes : List Change) (change : Change) (next : ℕ) → IsPastChanges first changes next
    → IsPastChanges first (changes ++ change ∷ []) (max next (change.xn + 1))
one_past first changes change next past =
    let from = past.from in
    let more : ℕ = max next (change.xn + 1) in
    record {
      from = omega (arith, from);
      past = All-append (λ (c : Change). c.xn < more) changes (change ∷ [])
          (All-weaker (λ (c : Change). c.xn < next) (λ (c : Change). c.xn < more) (λ c less. omega (arith, less)) changes past.past)
          (All-cons (λ (c : Change). c.xn < more) change [] (omega arith) (All-nil (λ (c : Change). c.xn < more)));
      least = λ other to below.
          let was = past.least other to (all_front other below) in
          let this = last_of other below in
          omega (arith, was, this);
    }
  where
    all_front : (other : ℕ) → All (λ c. c.xn < other) (changes ++ change ∷ []) → All (λ (c : Change). c.xn < other) changes
    all_front other = front_of changes
      where
        front_of : (l : List Change) → All (λ c. c.xn < other) (l ++ change ∷ []) → All (λ (c : Change). c.xn < other) l
        front_of [] all = All-nil (λ (c : Change). c.xn < other)
        front_of (c ∷ l) all = All-cons (λ (c : Change). c.xn < other) c l (All-head (λ (c : Change). c.xn < other) c (l ++ change ∷ []) all)
            (front_of l (All-tail (λ (c : Change). c.xn < other) c (l ++ change ∷ []) all))

    last_of : (other : ℕ) → All (λ c. c.xn < other) (changes ++ change ∷ []) → change.xn < other
    last_of other = last_in changes
      where
        last_in : (l : List Change) → All (λ c. c.xn < other) (l ++ change ∷ []) → change.xn < other
        last_in [] all = All-head (λ (c : Change). c.xn < other) change [] all
        last_in (c ∷ l) all = last_in l (All-tail (λ (c : Change). c.xn < other) c (l ++ change ∷ []) all)

-- ---- tables

pub no_table_past : (first : ℕ) (tables : Tables) → IsPastTables first tables 0 first
no_table_past first tables = record {
  from = omega arith;
  stored = λ t slot is version. absurd (omega (arith, is.0, is.1));
  past = λ t slot is version. absurd (omega (arith, is.0, is.1));
  least = λ other from below. from;
}

pub one_table_past : (first : ℕ) (tables : Tables) (last middle next : ℕ) → IsPastTables first tables last middle → IsPastVersions middle (tables (last + 1)) next
    → IsPastTables first tables (last + 1) next
one_table_past first tables last middle next some one =
    let from = some.from in
    let more = one.from in
    record {
      from = omega (arith, from, more);
      stored = λ t slot is version. ⊎_elim
          (λ (here : t ≡ last + 1). subst (λ (n : ℕ). IsStoredNumber ((tables n).slot slot).xn) (sym here) (one.stored slot (subst (λ (n : ℕ). IsVersion (tables n) slot) here version)))
          (λ (away : t ≢ last + 1). some.stored t slot (is.0, below t away is.1) version)
          (cases_eq t (last + 1));
      past = λ t slot is version. ⊎_elim
          (λ (here : t ≡ last + 1). subst (λ (n : ℕ). ((tables n).slot slot).xn < next) (sym here) (one.past slot (subst (λ (n : ℕ). IsVersion (tables n) slot) here version)))
          (λ (away : t ≢ last + 1). let was = some.past t slot (is.0, below t away is.1) version in omega (arith, was, more))
          (cases_eq t (last + 1));
      least = λ other to under.
          let was = some.least other to (λ t slot is version. under t slot (is.0, wider t is.1) version) in
          one.least other was (λ slot version. under (last + 1) slot (omega arith, omega arith) version);
    }
  where
    below : (t : ℕ) → t ≢ last + 1 → t ≤ last + 1 → t ≤ last
    below t away to = omega (arith, away, to)

    wider : (t : ℕ) → t ≤ last → t ≤ last + 1
    wider t to = omega (arith, to)

-- ---- who is done

or_last : (a b c : Bool) → ((a || (b || false)) || c) ≡ (b || (a || c))
or_last true true c = refl
or_last true false c = refl
or_last false true c = refl
or_last false false c = refl

same_done : (low : ℕ) (added more : List ℕ) → added ≡ more → done_of (record { low = low; added = added }) ≡ done_of (record { low = low; added = more })
same_done low added more same = ap (λ (l : List ℕ). done_of (record { low = low; added = l })) same

-- a Commit more
pub done_more : (restart : Restart) (changes : List Change) (change : Change) → change.kind ≡ Commit
    → done_with change.xn (done_by restart changes) ≡ done_by restart (changes ++ change ∷ [])
done_more restart changes change is =
    fun_ext (λ number. sym (
    ap (λ (b : Bool). b || done_below restart.low number) (list_any-append (λ (added : ℕ). number == added) (committed_by changes) (change.xn ∷ []))
    ∙ or_last (list_any (λ (added : ℕ). number == added) (committed_by changes)) (number == change.xn) (done_below restart.low number)))
    ∙ same_done restart.low (committed_by changes ++ change.xn ∷ []) (committed_by (changes ++ change ∷ []))
    (sym (committed_both changes (change ∷ []) ∙ ap (λ (k : ChangeKind). committed_by changes ++ (committer k change.xn ++ [])) is))

ends_none : (kind : ChangeKind) (xn : ℕ) → kind ≢ Commit → committer kind xn ≡ []
ends_none Commit xn other = absurd (other refl)
ends_none Put xn other = refl
ends_none Rollback xn other = refl
ends_none Sweep xn other = refl
ends_none Move xn other = refl
ends_none Tidy xn other = refl

append_none : (l : List ℕ) → l ++ [] ≡ l
append_none [] = refl
append_none (x ∷ l) = ap (λ (m : List ℕ). x ∷ m) (append_none l)

-- and any other change
pub done_same : (restart : Restart) (changes : List Change) (change : Change) → change.kind ≢ Commit → done_by restart (changes ++ change ∷ []) ≡ done_by restart changes
done_same restart changes change other =
    same_done restart.low (committed_by (changes ++ change ∷ [])) (committed_by changes)
    (committed_both changes (change ∷ []) ∙ ap (λ (l : List ℕ). committed_by changes ++ (l ++ [])) (ends_none change.kind change.xn other) ∙ append_none (committed_by changes))
