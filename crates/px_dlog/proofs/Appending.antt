-- What an append does to parts and moments.
use Rattle.std.proofs.Common.{◌≡◌, ◌≢◌, ℕ, ◌+◌, ◌-◌, ◌<◌, ◌≤◌, nat_eq, nat_le, Bool, true, false, cond, ◌&&◌, List, ◌∷◌, ◌++◌, Option, Some, None, Result, Ok, Err, length, take, drop, replicate, refl, sym, ap, subst, ◌∙◌, arith}
use Rattle.std.specs.List.{AllByRecursion}
use Rattle.std.proofs.lemmas.Bool.Decides.{nat_tests}
use Rattle.std.proofs.lemmas.List.{append-nil, drop-append-le, drop_all, drop_at, length-append, length-drop, take-append-le, take_all, take_at}
use Rattle.px_site.specs.declared.error.SiteError.{SiteError}
use Rattle.px_site.specs.declared.error.SiteError.TheVariants.{OutOfMemory as SiteShort, Fault as SiteFault}
use Rattle.px_site.specs.declared.name.FileName.{FileName}
use Rattle.px_site.specs.declared.name.FileName.TheVariants.{Dlog}
use Rattle.px_site.specs.Disk.{Change, FileState, IsImage, Wrote, at_rest, overlay, pending_more, touches}
use Rattle.px_site.specs.Names.{same_file, kind}
use Rattle.px_site.specs.State.{Changes, EachMoment, State, begun, with_file}
use Rattle.px_site.proofs.Files.{same_file_is, with_file_other, with_file_same}
use Rattle.px_site.proofs.Moments.{change_moments, then_moments}
use Rattle.px_dlog.specs.declared.error.LogError.{LogError}
use Rattle.px_dlog.specs.declared.error.LogError.TheVariants.{OutOfMemory, Fault as FaultOf, Damaged, LogFull}
use Rattle.px_dlog.specs.Errors.{UnlessFault, of_site}
use Rattle.px_dlog.specs.Part.{part_size, part_text}
use Rattle.px_dlog.specs.Logs.{IsDlogOf, IsEnd, IsGrown, IsPart, KeepsParts, LiesIn, Logs, Rests, RestsIn, Stored, SyncsLog, end_of, is_unsynced, is_unsynced_in, log_of, to_close, to_sync}
use Rattle.px_dlog.specs.Inventory.{Kept, logs_of}
use Rattle.px_dlog.proofs.Parts.{length-part}
use Rattle.px_dlog.proofs.Resting.{ends_within, rests_in_image}
use Rattle.px_dlog.proofs.Syncing.{all_rest, other_kind, rests_when_durable, weaken}

overlay_end : (old bytes : List ℕ) (place : ℕ) → place ≡ length old → overlay old place bytes ≡ old ++ bytes
overlay_end old bytes place at_end =
    ap (λ (l : List ℕ). l ++ bytes ++ drop (place + length bytes) old) (take_at old (replicate (place - length old) 0) place (sym at_end))
    ∙ ap (λ (l : List ℕ). old ++ bytes ++ l) (drop_all (place + length bytes) old (omega arith))
    ∙ append-nil (old ++ bytes)

-- a part lies in a content that goes on behind it
lies_longer : (content more : List ℕ) (stored : Stored) → LiesIn content stored → LiesIn (content ++ more) stored
lies_longer content more stored lies =
    let place = stored.part.place in
    let size = part_size stored.part.length in
    let ends : place + size ≤ length content = ends_within content stored lies in
    let here : place ≤ length content = omega arith in
    let enough : size ≤ length (drop place content) = omega (arith, length-drop place content) in
    record {
      is_part = lies.is_part;
      there = ap (take size) (drop-append-le place content more here) ∙ take-append-le size (drop place content) more enough ∙ lies.there;
    }

-- and the part that was put behind lies there
lies_behind : (content : List ℕ) (stored : Stored) → IsPart stored → stored.part.place ≡ length content → LiesIn (content ++ part_text stored.part.table stored.part.slot stored.bytes) stored
lies_behind content stored is_part at_end =
    let text = part_text stored.part.table stored.part.slot stored.bytes in
    let sized : part_size stored.part.length ≡ length text = omega (arith, length-part stored.part.table stored.part.slot stored.bytes, is_part.length_is) in
    record {
      is_part = is_part;
      there = ap (take (part_size stored.part.length)) (drop_at content text stored.part.place (sym at_end)) ∙ take_all (part_size stored.part.length) text (omega (arith, sized));
    }

-- a write behind a part doesn't touch it
untouched_before : (place : ℕ) (bytes : List ℕ) (at : ℕ) → at < place → touches (Wrote place bytes) at ≡ false
untouched_before place bytes at before = let no : nat_le place at ≡ false = grind (arith, nat_tests) in rw no refl

rests_behind : (place : ℕ) (bytes : List ℕ) (file : FileState) (stored : Stored) → end_of stored.part ≤ place → RestsIn file stored → RestsIn (pending_more (Wrote place bytes) file) stored
rests_behind place bytes file stored ends rests = record {
  synced = rests.synced;
  untouched = λ at from to. let here : touches (Wrote place bytes) at ≡ false = untouched_before place bytes at (omega arith) in rw here (rests.untouched at from to);
}

-- where a part is written behind the end of a log, what rested rests yet
pub begun_keeps : (log place : ℕ) (bytes : List ℕ) (s : State) → ((name : FileName) → IsImage (s.now.files name) (s.content name)) → place ≡ length (s.content (Dlog log))
    → (stored : Stored) → Rests s.now stored → Rests (begun (Dlog log) (Wrote place bytes) s.now) stored
begun_keeps log place bytes s images at_end stored rests = by_test (same_file (Dlog log) (log_of stored)) refl
  where
    change : Change
    change = Wrote place bytes

    by_test : (b : Bool) → same_file (Dlog log) (log_of stored) ≡ b → Rests (begun (Dlog log) change s.now) stored
    by_test false is = subst (λ (f : FileState). RestsIn f stored) (sym (with_file_other (Dlog log) (log_of stored) (pending_more change (s.now.files (Dlog log))) s.now.files is)) rests
    by_test true is =
        let here : Dlog log ≡ log_of stored = same_file_is (Dlog log) (log_of stored) is in
        let resting : RestsIn (s.now.files (Dlog log)) stored = subst (λ (name : FileName). RestsIn (s.now.files name) stored) (sym here) rests in
        let lies : LiesIn (s.content (Dlog log)) stored = rests_in_image (s.now.files (Dlog log)) (s.content (Dlog log)) stored resting (images (Dlog log)) in
        let ends : end_of stored.part ≤ place = omega (arith, at_end, ends_within (s.content (Dlog log)) stored lies) in
        subst (λ (name : FileName). RestsIn (with_file (Dlog log) (pending_more change (s.now.files (Dlog log))) s.now.files name) stored) here
        (subst (λ (f : FileState). RestsIn f stored) (sym (with_file_same (Dlog log) (pending_more change (s.now.files (Dlog log))) s.now.files))
        (rests_behind place bytes (s.now.files (Dlog log)) stored ends resting))

-- what a sync that succeeded left
pub record IsSynced (a b : State) : Type 0 where
  pub rest : (stored : Stored) → Rests a.now stored → Rests b.now stored
  pub others : (name : FileName) → kind name ≢ 2 → b.now.files name ≡ a.now.files name
  pub told : b.now.told ≡ a.now.told

pub is_synced : {T : Type 0} (x : T) (log : Option ℕ) (a b : State) → ((name : FileName) → IsImage (a.now.files name) (a.content name)) → SyncsLog {T = T} log a b (Ok x) → IsSynced a b
is_synced x None a b images same = record {
  rest = λ stored rests. subst (λ (s : State). Rests s.now stored) (sym same) rests;
  others = λ name away. ap (λ (s : State). s.now.files name) same;
  told = ap (λ (s : State). s.now.told) same;
}
is_synced x (Some log) a b images syncs = record {
  rest = λ stored rests. subst (λ (s : State). Rests s.now stored) (sym syncs.ok) (rests_when_durable (Dlog log) a images stored rests);
  others = λ name away. ap (λ (s : State). s.now.files name) syncs.ok ∙ with_file_other (Dlog log) name (at_rest (a.content (Dlog log))) a.now.files (other_kind log name away);
  told = ap (λ (s : State). s.now.told) syncs.ok;
}

pub append_moments : {T : Type 0} (r : Result T SiteError) (log place : ℕ) (bytes : List ℕ) (a b c : State) → ((name : FileName) → IsImage (b.now.files name) (b.content name))
    → IsSynced a b → place ≡ length (b.content (Dlog log)) → EachMoment (KeepsParts a.now) a b → Changes (Dlog log) (Wrote place bytes) b c r → EachMoment (KeepsParts a.now) a c
append_moments r log place bytes a b c images sync at_end before moves = then_moments before (change_moments moves (record {
  rest = λ stored rests. begun_keeps log place bytes b images at_end stored (sync.rest stored rests);
  others = λ name away. with_file_other (Dlog log) name (pending_more (Wrote place bytes) (b.now.files (Dlog log))) b.now.files (other_kind log name away) ∙ sync.others name away;
  told = sync.told;
  telling = refl;
}))

-- ---- the parts behind an append

and_false : (b : Bool) → (b && false) ≡ false
and_false true = refl
and_false false = refl

some_place : (place : ℕ) → nat_eq place 0 ≡ false → 1 ≤ place
some_place place is = grind (arith, nat_tests)

equal_numbers : (m n : ℕ) → nat_eq m n ≡ true → m ≡ n
equal_numbers m n is = grind (arith, nat_tests)

turned : (m n : ℕ) → nat_eq m n ≡ false → nat_eq n m ≡ false
turned m n is = grind (arith, nat_tests)

own_number : (n : ℕ) → nat_eq n n ≡ true
own_number n = grind (arith, nat_tests)

-- before the part is written, those of other logs rest
pub others_rest : {T : Type 0} (x : T) (to : Option ℕ) (logs : Logs) (log place : ℕ) (parts : List Stored) (a b : State) → ((name : FileName) → IsImage (a.now.files name) (a.content name))
    → to ≡ to_close logs place → SyncsLog {T = T} to a b (Ok x) → IsEnd logs log place → IsDlogOf logs parts a
    → AllByRecursion (λ stored. nat_eq log stored.part.log ≡ false → Rests b.now stored) parts
others_rest {T} x to logs log place parts a b images there syncs end is = by_test (nat_eq place 0) refl
  where
    by_test : (first : Bool) → nat_eq place 0 ≡ first → AllByRecursion (λ stored. nat_eq log stored.part.log ≡ false → Rests b.now stored) parts
    by_test true first =
        let closes : to_close logs place ≡ to_sync logs = ap (λ (t : Bool). cond t (to_sync logs) None) first in
        weaken (Rests b.now) (λ stored. nat_eq log stored.part.log ≡ false → Rests b.now stored) (λ stored rests away. rests) parts
        (all_rest {T = T} x to logs parts a b images (there ∙ closes) syncs is)
    by_test false first =
        let closes : to_close logs place ≡ None = ap (λ (t : Bool). cond t (to_sync logs) None) first in
        let same : b ≡ a = subst (λ (l : Option ℕ). SyncsLog {T = T} l a b (Ok x)) (there ∙ closes) syncs in
        let here : logs.current ≡ Some log = end.current (some_place place first) in
        weaken (λ stored. is_unsynced logs stored.part.log ≡ false → Rests a.now stored) (λ stored. nat_eq log stored.part.log ≡ false → Rests b.now stored)
        (λ stored rest away.
        let synced : is_unsynced logs stored.part.log ≡ false = ap (λ (current : Option ℕ). is_unsynced_in current logs.unsynced stored.part.log) here ∙ ap (λ (t : Bool). logs.unsynced && t) away ∙ and_false logs.unsynced in
        subst (λ (s : State). Rests s.now stored) (sym same) (rest synced)) parts is.rest

module _ {T : Type 0} (x : T) (logs now : Logs) (stored : Stored) (bytes : List ℕ) (a b c : State)
    (end : IsEnd logs stored.part.log stored.part.place) (is_part : IsPart stored) (grown : IsGrown stored.part.log (part_size stored.part.length) logs now)
    (contents : (name : FileName) → b.content name ≡ a.content name) (bytes_are : bytes ≡ part_text stored.part.table stored.part.slot stored.bytes)
    (moves : Changes {T = T} (Dlog stored.part.log) (Wrote stored.part.place bytes) b c (Ok x)) (lengths : (n : ℕ) → 1 ≤ n → length (a.content (Dlog n)) ≡ logs.len n) where
  at_end : stored.part.place ≡ length (b.content (Dlog stored.part.log))
  at_end = end.place_is ∙ sym (lengths stored.part.log end.from_one) ∙ ap length (sym (contents (Dlog stored.part.log)))

  here : c.content (Dlog stored.part.log) ≡ b.content (Dlog stored.part.log) ++ part_text stored.part.table stored.part.slot stored.bytes
  here =
      ap (λ (s : State). s.content (Dlog stored.part.log)) moves.ok
      ∙ with_file_same (Dlog stored.part.log) (overlay (b.content (Dlog stored.part.log)) stored.part.place bytes) b.content
      ∙ overlay_end (b.content (Dlog stored.part.log)) bytes stored.part.place at_end
      ∙ ap (λ (t : List ℕ). b.content (Dlog stored.part.log) ++ t) bytes_are

  away : (name : FileName) → same_file (Dlog stored.part.log) name ≡ false → c.content name ≡ b.content name
  away name other =
      ap (λ (s : State). s.content name) moves.ok ∙ with_file_other (Dlog stored.part.log) name (overlay (b.content (Dlog stored.part.log)) stored.part.place bytes) b.content other

  files_away : (name : FileName) → same_file (Dlog stored.part.log) name ≡ false → c.now.files name ≡ b.now.files name
  files_away name other =
      ap (λ (s : State). s.now.files name) moves.ok ∙ with_file_other (Dlog stored.part.log) name (pending_more (Wrote stored.part.place bytes) (b.now.files (Dlog stored.part.log))) b.now.files other

  length_here : length (c.content (Dlog stored.part.log)) ≡ now.len stored.part.log
  length_here =
      let size : length (part_text stored.part.table stored.part.slot stored.bytes) ≡ part_size stored.part.length = omega (arith, length-part stored.part.table stored.part.slot stored.bytes, is_part.length_is) in
      let new : now.len stored.part.log ≡ logs.len stored.part.log + part_size stored.part.length =
      grown.len stored.part.log ∙ ap (λ (t : Bool). cond t (logs.len stored.part.log + part_size stored.part.length) (logs.len stored.part.log)) (own_number stored.part.log) in
      omega (arith, new, size, at_end, end.place_is, ap length here, length-append (b.content (Dlog stored.part.log)) (part_text stored.part.table stored.part.slot stored.bytes))

  each_length : (n : ℕ) → 1 ≤ n → (t : Bool) → nat_eq stored.part.log n ≡ t → length (c.content (Dlog n)) ≡ now.len n
  each_length n from true is = subst (λ (m : ℕ). length (c.content (Dlog m)) ≡ now.len m) (equal_numbers stored.part.log n is) length_here
  each_length n from false is =
      ap length (away (Dlog n) is) ∙ ap length (contents (Dlog n)) ∙ lengths n from
      ∙ sym (grown.len n ∙ ap (λ (t : Bool). cond t (logs.len stored.part.log + part_size stored.part.length) (logs.len n)) (turned stored.part.log n is))

  each_lies : (other : Stored) → (t : Bool) → nat_eq stored.part.log other.part.log ≡ t → LiesIn (a.content (log_of other)) other → LiesIn (c.content (log_of other)) other
  each_lies other true is lies =
      let same : stored.part.log ≡ other.part.log = equal_numbers stored.part.log other.part.log is in
      let earlier : LiesIn (b.content (Dlog stored.part.log)) other =
      subst (λ (content : List ℕ). LiesIn content other) (ap (λ (m : ℕ). a.content (Dlog m)) (sym same) ∙ sym (contents (Dlog stored.part.log))) lies in
      subst (λ (m : ℕ). LiesIn (c.content (Dlog m)) other) same
      (subst (λ (content : List ℕ). LiesIn content other) (sym here) (lies_longer (b.content (Dlog stored.part.log)) (part_text stored.part.table stored.part.slot stored.bytes) other earlier))
  each_lies other false is lies = subst (λ (content : List ℕ). LiesIn content other) (sym (away (log_of other) is ∙ contents (log_of other))) lies

  unsynced_is : (n : ℕ) → is_unsynced now n ≡ nat_eq stored.part.log n
  unsynced_is n = ap (λ (current : Option ℕ). is_unsynced_in current now.unsynced n) grown.current ∙ ap (λ (u : Bool). u && nat_eq stored.part.log n) grown.unsynced

  new_rests : is_unsynced now stored.part.log ≡ false → Rests c.now stored
  new_rests none = let both : true ≡ false = sym (own_number stored.part.log) ∙ sym (unsynced_is stored.part.log) ∙ none in absurd (cc)

  pub append_dlog : (parts : List Stored) → AllByRecursion (λ other. nat_eq stored.part.log other.part.log ≡ false → Rests b.now other) parts → IsDlogOf logs parts a → IsDlogOf now (stored ∷ parts) c
  append_dlog parts rest is = record {
    lengths = λ n from. each_length n from (nat_eq stored.part.log n) refl;
    lie = (
      subst (λ (content : List ℕ). LiesIn content stored) (sym here) (lies_behind (b.content (Dlog stored.part.log)) stored is_part at_end),
      weaken (λ other. LiesIn (a.content (log_of other)) other) (λ other. LiesIn (c.content (log_of other)) other) (λ other lies. each_lies other (nat_eq stored.part.log other.part.log) refl lies) parts is.lie,
    );
    rest = (
      new_rests,
      weaken (λ other. nat_eq stored.part.log other.part.log ≡ false → Rests b.now other) (λ other. is_unsynced now other.part.log ≡ false → Rests c.now other)
          (λ other rests none.
          let off : nat_eq stored.part.log other.part.log ≡ false = sym (unsynced_is other.part.log) ∙ none in
          subst (λ (f : FileState). RestsIn f other) (sym (files_away (log_of other) off)) (rests off)) parts rest,
    );
  }

-- where the next part goes, as the inventory says it
pub is_end : {kept now : Kept} {log place : ℕ} → kept ≡ now → 1 ≤ log → place ≡ (logs_of kept).len log → (place ≡ 0 → log ≡ kept.next) → (1 ≤ place → (logs_of kept).current ≡ Some log)
    → IsEnd (logs_of now) log place
is_end {kept} {now} {log} {place} same from_one place_is fresh current =
    subst (λ (k : Kept). IsEnd (logs_of k) log place) same (record { from_one = from_one; place_is = place_is; fresh = fresh; current = current })

pub grown_from : {kept now : Kept} {logs : Logs} {log size count : ℕ} → kept ≡ now → size ≡ count → IsGrown log size (logs_of kept) logs → IsGrown log count (logs_of now) logs
grown_from {kept} {now} {logs} {log} {size} {count} same sized grown =
    subst (λ (n : ℕ). IsGrown log n (logs_of now) logs) sized (subst (λ (k : Kept). IsGrown log size (logs_of k) logs) same grown)

pub at_place : {T : Type 0} {r : Result T SiteError} {name : FileName} {place at : ℕ} {bytes : List ℕ} {a b : State} → at ≡ place → Changes name (Wrote at bytes) a b r → Changes name (Wrote place bytes) a b r
at_place {T} {r} {name} {place} {at} {bytes} {a} {b} same moves = subst (λ (p : ℕ). Changes name (Wrote p bytes) a b r) same moves

-- ---- after an error

-- a sync that succeeded leaves the logs their parts
pub synced_keeps : {T : Type 0} (x : T) (to : Option ℕ) (logs : Logs) (parts : List Stored) (a b : State) → ((name : FileName) → IsImage (a.now.files name) (a.content name)) → SyncsLog {T = T} to a b (Ok x)
    → ((name : FileName) → b.content name ≡ a.content name) → IsDlogOf logs parts a → IsDlogOf logs parts b
synced_keeps x to logs parts a b images syncs contents is =
    let after = is_synced x to a b images syncs in
    record {
      lengths = λ n from. ap length (contents (Dlog n)) ∙ is.lengths n from;
      lie = weaken (λ stored. LiesIn (a.content (log_of stored)) stored) (λ stored. LiesIn (b.content (log_of stored)) stored)
          (λ stored lies. subst (λ (content : List ℕ). LiesIn content stored) (sym (contents (log_of stored))) lies) parts is.lie;
      rest = weaken (λ stored. is_unsynced logs stored.part.log ≡ false → Rests a.now stored) (λ stored. is_unsynced logs stored.part.log ≡ false → Rests b.now stored)
          (λ stored rest none. after.rest stored (rest none)) parts is.rest;
    }

-- a call that wanted memory did nothing
pub sync_unspoiled : (T : Type 0) (to : Option ℕ) (a b : State) (e : SiteError) → SyncsLog {T = T} to a b (Err e) → UnlessFault (b ≡ a) (of_site e)
sync_unspoiled T None a b SiteShort same = same
sync_unspoiled T None a b (SiteFault fault) same = tt
sync_unspoiled T (Some log) a b SiteShort syncs = syncs.short
sync_unspoiled T (Some log) a b (SiteFault fault) syncs = tt

pub change_unspoiled : {T : Type 0} {file : FileName} {change : Change} (a b : State) (e : SiteError) → Changes {T = T} file change a b (Err e) → UnlessFault (b ≡ a) (of_site e)
change_unspoiled a b SiteShort moves = moves.short
change_unspoiled a b (SiteFault fault) moves = tt

pub unless_fault : (P Q : Type 0) (e : LogError) → (P → Q) → UnlessFault P e → UnlessFault Q e
unless_fault P Q OutOfMemory f holds = f holds
unless_fault P Q (FaultOf fault) f holds = tt
unless_fault P Q (Damaged file place) f holds = f holds
unless_fault P Q (LogFull n) f holds = f holds
