-- How what holds at each moment composes over calls.
use Rattle.std.proofs.Common.{◌≡◌, ℕ, List, [], ◌∷◌, ◌++◌, take, refl, sym, ap, ◌∙◌, append_assoc, Result, Ok, Err, OnOk}
use Rattle.std.specs.List.{AllByRecursion}
use Rattle.px_site.specs.declared.name.FileName.{FileName}
use Rattle.px_site.specs.declared.error.SiteError.{SiteError}
use Rattle.px_site.specs.declared.error.SiteError.TheVariants.{OutOfMemory, Fault}
use Rattle.px_site.specs.Disk.{Change}
use Rattle.px_site.specs.State.{State, Moment, history, EachMoment, Changes, Syncs, Tells, begun, durable, quiet, changed, failed, synced, not_synced, spoke, telling, told, OnFault, OnShort}

-- what holds in two lists holds in both
pub all_append : {A : Type 0} (P : A → Type 0) (xs ys : List A) → AllByRecursion P xs → AllByRecursion P ys → AllByRecursion P (xs ++ ys)
all_append P [] ys px py = py
all_append P (x ∷ xs) ys px py = (px.0, all_append P xs ys px.1 py)

-- no call was made
pub no_moment : {P : Moment → Type 0} (s : State) → EachMoment P s s
no_moment s = record { added = []; grown = refl; each = tt }

-- a call that only reads
pub same_moment : {P : Moment → Type 0} {a b : State} → b ≡ a → EachMoment P a b
same_moment {a} e = record { added = []; grown = ap history e; each = tt }

-- one call, and then another
pub then_moments : {P : Moment → Type 0} {a b c : State} → EachMoment P a b → EachMoment P b c → EachMoment P a c
then_moments {P} {a} p q =
    record {
      added = q.added ++ p.added;
      grown = q.grown ∙ ap (λ (h : List Moment). q.added ++ h) p.grown ∙ sym (append_assoc q.added p.added (history a));
      each = all_append P q.added p.added q.each p.each;
    }

-- what follows from P holds where P does
all_weaker : {A : Type 0} (P Q : A → Type 0) → ((x : A) → P x → Q x) → (xs : List A) → AllByRecursion P xs → AllByRecursion Q xs
all_weaker P Q f [] p = tt
all_weaker P Q f (x ∷ xs) p = (f x p.0, all_weaker P Q f xs p.1)

-- a weaker fact at each moment: to say a callee's promise in the caller's words
pub weaker_moments : {P Q : Moment → Type 0} {a b : State} → ((m : Moment) → P m → Q m) → EachMoment P a b → EachMoment Q a b
weaker_moments {P} {Q} f p = record { added = p.added; grown = p.grown; each = all_weaker P Q f p.added p.each }

-- the two moments of a call
two_moments : {P : Moment → Type 0} (a b : State) (within after : Moment) → history b ≡ after ∷ within ∷ history a → P within → P after → EachMoment P a b
two_moments a b within after e p q = record { added = after ∷ within ∷ []; grown = e; each = (q, (p, tt)) }

-- the moments of a change of a file, whatever came of it: P is owed where the change was begun
pub change_moments : {P : Moment → Type 0} {T : Type 0} {file : FileName} {change : Change} {a b : State} {r : Result T SiteError} → Changes file change a b r → P (begun file change a.now) → EachMoment P a b
change_moments {P} {T} {file} {change} {a} {b} {r} moves here = by_result r moves.ok moves.fault moves.short
  where
    by_result : (r : Result T SiteError) → OnOk r (b ≡ changed file change a) → OnFault r ((left : List ℕ) × (b ≡ failed file change left a)) → OnShort r (b ≡ a) → EachMoment P a b
    by_result (Ok _) ok fault short = two_moments a b _ _ (ap history ok) here here
    by_result (Err OutOfMemory) ok fault short = same_moment short
    by_result (Err (Fault _)) ok fault short = two_moments a b _ _ (ap history fault.1) here here

-- the moments of a sync: P is owed within it, and where the file is durable
pub sync_moments : {P : Moment → Type 0} {T : Type 0} {file : FileName} {a b : State} {r : Result T SiteError} → Syncs file a b r → P (quiet a.now) → P (durable file (a.content file) a.now) → EachMoment P a b
sync_moments {P} {T} {file} {a} {b} {r} moves here after = by_result r moves.ok moves.fault moves.short
  where
    by_result : (r : Result T SiteError) → OnOk r (b ≡ synced file a) → OnFault r (b ≡ not_synced a) → OnShort r (b ≡ a) → EachMoment P a b
    by_result (Ok _) ok fault short = two_moments a b _ _ (ap history ok) here after
    by_result (Err OutOfMemory) ok fault short = same_moment short
    by_result (Err (Fault _)) ok fault short = two_moments a b _ _ (ap history fault) here here

-- the moments of a `tell`: P is owed while it is being told, and after any part of it was
pub tell_moments : {P : Moment → Type 0} {T : Type 0} {bytes : List ℕ} {a b : State} {r : Result T SiteError} → Tells bytes a b r → P (telling bytes a.now) → ((out : List ℕ) → P (told out a.now)) → EachMoment P a b
tell_moments {P} {T} {bytes} {a} {b} {r} moves within after = by_result r moves.ok moves.fault moves.short
  where
    by_result : (r : Result T SiteError) → OnOk r (b ≡ spoke bytes bytes a) → OnFault r ((n : ℕ) × (b ≡ spoke bytes (take n bytes) a)) → OnShort r (b ≡ a) → EachMoment P a b
    by_result (Ok _) ok fault short = two_moments a b _ _ (ap history ok) within (after bytes)
    by_result (Err OutOfMemory) ok fault short = same_moment short
    by_result (Err (Fault _)) ok fault short = two_moments a b _ _ (ap history fault.1) within (after (take fault.0 bytes))
