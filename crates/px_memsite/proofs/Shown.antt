-- What a site in memory shows, after one event more.
use Rattle.std.proofs.Common.{◌≡◌, ℕ, ◌+◌, ◌-◌, ◌^◌, min, Bool, true, false, cond, List, [], ◌∷◌, ◌++◌, length, take, set, get_or, Option, Some, None, Result, Ok, Err, OnOk, refl, sym, ap, ◌∙◌, subst, inl, inr, arith}
use Rattle.std.proofs.lemmas.Bool.{cases_Bool}
use Rattle.px_site.specs.declared.name.FileName.{FileName}
use Rattle.px_site.specs.Names.{same_file}
use Rattle.px_site.specs.Disk.{Change as DiskChange, FileState, at_rest, pending_more}
use Rattle.px_site.specs.State.{State, with_file}
use Rattle.px_site.proofs.Files.{same_file_is}
use Rattle.px_memsite.specs.declared.event.Event.{Event}
use Rattle.px_memsite.specs.declared.file.MemFile.{MemFile}
use Rattle.px_memsite.specs.Changes.{next_content}
use Rattle.px_memsite.specs.Disk.{Shows, view_at}
use Rattle.px_memsite.specs.Events.{FitsLimit, AllFitLimit, after_event, after_events, heard, after_change, after_sync, after_tell, after_put, empty, reached}
use Rattle.px_memsite.specs.Files.{View, IsInOrder, StandsAt, SameFiles, view_of, view_in, state_of, at_rest_view}
use Rattle.px_memsite.proofs.FileLists.{names_set, view_set, view_at as view_where}

after_push : (s : State) (history : List Event) (event : Event) → after_events (history ++ event ∷ []) s ≡ after_event event (after_events history s)
after_push s [] event = refl
after_push s (first ∷ history) event = after_push (after_event first s) history event

-- one event more
pub reached_push : (old new : List Event) (event : Event) → new ≡ old ++ event ∷ [] → reached new ≡ after_event event (reached old)
reached_push old new event is = ap reached is ∙ after_push empty old event

pub reached_on_ok : {T E : Type 0} (r : Result T E) (old new : List Event) (event same : Event) → event ≡ same → OnOk r (new ≡ old ++ same ∷ []) → OnOk r (reached new ≡ after_event event (reached old))
reached_on_ok (Ok _) old new event same is pushed = reached_push old new event (pushed ∙ ap (λ (e : Event). old ++ e ∷ []) (sym is))
reached_on_ok (Err _) old new event same is pushed = tt

pub fits_push : (old new : List Event) (event : Event) → new ≡ old ++ event ∷ [] → AllFitLimit old → FitsLimit event → AllFitLimit new
fits_push old new event is all fits = subst AllFitLimit (sym is) (pushed old all)
  where
    pushed : (history : List Event) → AllFitLimit history → AllFitLimit (history ++ event ∷ [])
    pushed [] all = (fits, tt)
    pushed (first ∷ history) all = (all.0, pushed history all.1)

-- what a file had before it is replaced
pub view_was : {files mid : List MemFile} (file : FileName) (at : ℕ) {was : MemFile} → SameFiles files mid → StandsAt mid file at → was ≡ get_or mid at was → view_of was ≡ view_in files file
view_was {files} {mid} file at {was} same stands is = ap view_of is ∙ sym (view_where mid file at was stands) ∙ same.views file

view_with : (s : State) (file : FileName) (content : List ℕ) (state : FileState) (name : FileName) → with_file file (record { content = content; state = state }) (view_at s) name ≡ record { content = with_file file content s.content name; state = with_file file state s.now.files name }
view_with s file content state name = pick (same_file file name)
  where
    pick : (b : Bool) → cond b (record { content = content; state = state }) (view_at s name) ≡ record { content = cond b content (s.content name); state = cond b state (s.now.files name) }
    pick true = refl
    pick false = refl

module _ {files : List MemFile} {told : List ℕ} {moments : ℕ} {s : State} (shows : Shows files told moments s) where
  -- the same files
  pub shows_same : {new : List MemFile} → SameFiles files new → Shows new told moments s
  shows_same same = record { in_order = same.in_order; views = λ name. same.views name ∙ shows.views name; told_is = shows.told_is; counted = shows.counted }

  -- a file replaced
  pub shows_set : {mid : List MemFile} (t : State) (file : FileName) (at : ℕ) (new : MemFile) (later : ℕ) → SameFiles files mid → StandsAt mid file at → new.name ≡ file
      → ((name : FileName) → with_file file (view_of new) (view_at s) name ≡ view_at t name) → t.now.told ≡ s.now.told → later ≡ min (length t.past) (2 ^ 64 - 1) → Shows (set mid at new) told later t
  shows_set {mid} t file at new later same stands named view told_same counted = record {
    in_order = subst IsInOrder (sym (names_set mid file at new named stands)) same.in_order;
    views = λ name. view_set mid file at new named stands name ∙ apart name ∙ view name;
    told_is = shows.told_is ∙ sym told_same;
    counted = counted;
  }
    where
      apart : (name : FileName) → with_file file (view_of new) (view_in mid) name ≡ with_file file (view_of new) (view_at s) name
      apart name = ap (λ (v : View). cond (same_file file name) (view_of new) v) (same.views name ∙ shows.views name)

  -- a change
  pub shows_change : {mid : List MemFile} (file : FileName) (at : ℕ) (new : MemFile) (later : ℕ) (change : DiskChange) (failure : Option ℕ) → SameFiles files mid → StandsAt mid file at → new.name ≡ file
      → view_of new ≡ record { content = next_content change failure (s.content file); state = pending_more change (s.now.files file) } → later ≡ min (moments + 2) (2 ^ 64 - 1)
      → Shows (set mid at new) told later (after_change file change failure s)
  shows_change file at new later change None same stands named view counted = shows_set (after_change file change None s) file at new later same stands named
      (λ name. ap (λ (v : View). with_file file v (view_at s) name) view ∙ view_with s file (next_content change None (s.content file)) (pending_more change (s.now.files file)) name) refl (omega (arith, counted, shows.counted))
  shows_change file at new later change (Some through) same stands named view counted = shows_set (after_change file change (Some through) s) file at new later same stands named
      (λ name. ap (λ (v : View). with_file file v (view_at s) name) view ∙ view_with s file (next_content change (Some through) (s.content file)) (pending_more change (s.now.files file)) name) refl (omega (arith, counted, shows.counted))

  -- a sync
  pub shows_sync : {mid : List MemFile} (file : FileName) (at : ℕ) (new : MemFile) (later : ℕ) {failure : Option ℕ} → failure ≡ None → SameFiles files mid → StandsAt mid file at → new.name ≡ file
      → view_of new ≡ at_rest_view (s.content file) → later ≡ min (moments + 2) (2 ^ 64 - 1) → Shows (set mid at new) told later (after_sync file failure s)
  shows_sync {mid} file at new later is same stands named view counted = subst (λ (failure : Option ℕ). Shows (set mid at new) told later (after_sync file failure s)) (sym is) (shows_set (after_sync file None s) file at new later same stands named
      (λ name. ap (λ (v : View). with_file file v (view_at s) name) view ∙ view_with s file (s.content file) (at_rest (s.content file)) name ∙ ap (λ (l : List ℕ). record { content = l; state = with_file file (at_rest (s.content file)) s.now.files name }) (unmoved name)) refl (omega (arith, counted, shows.counted)))
    where
      unmoved : (name : FileName) → with_file file (s.content file) s.content name ≡ s.content name
      unmoved name = elim (cases_Bool (same_file file name)) [
        | inl here ↦ ap (λ (b : Bool). cond b (s.content file) (s.content name)) here ∙ ap s.content (same_file_is file name here)
        | inr other ↦ ap (λ (b : Bool). cond b (s.content file) (s.content name)) other
      ]

  pub shows_not_sync : (file : FileName) (through later : ℕ) {failure : Option ℕ} → failure ≡ Some through → later ≡ min (moments + 2) (2 ^ 64 - 1) → Shows files told later (after_sync file failure s)
  shows_not_sync file through later is counted = subst (λ (failure : Option ℕ). Shows files told later (after_sync file failure s)) (sym is) (record { in_order = shows.in_order; views = shows.views; told_is = shows.told_is; counted = omega (arith, counted, shows.counted) })

  -- bytes told
  pub shows_tell : {out : List ℕ} (bytes : List ℕ) (failure : Option ℕ) (later : ℕ) → out ≡ told ++ heard bytes failure → later ≡ min (moments + 2) (2 ^ 64 - 1) → Shows files out later (after_tell bytes failure s)
  shows_tell bytes None later is counted = record { in_order = shows.in_order; views = shows.views; told_is = is ∙ ap (λ (l : List ℕ). l ++ bytes) shows.told_is; counted = omega (arith, counted, shows.counted) }
  shows_tell bytes (Some through) later is counted = record { in_order = shows.in_order; views = shows.views; told_is = is ∙ ap (λ (l : List ℕ). l ++ take through bytes) shows.told_is; counted = omega (arith, counted, shows.counted) }

  -- bytes put there
  pub shows_put : {mid : List MemFile} (file : FileName) (at : ℕ) (new : MemFile) (bytes : List ℕ) → SameFiles files mid → StandsAt mid file at → new.name ≡ file
      → view_of new ≡ at_rest_view bytes → Shows (set mid at new) told moments (after_put file bytes s)
  shows_put file at new bytes same stands named view = shows_set (after_put file bytes s) file at new moments same stands named
      (λ name. ap (λ (v : View). with_file file v (view_at s) name) view ∙ view_with s file bytes (at_rest bytes) name) refl shows.counted

  -- a change begun in the file that was there
  pub begun_view : {mid : List MemFile} (file : FileName) (at : ℕ) {was : MemFile} (new : MemFile) {change copy : DiskChange} (failure : Option ℕ) {before content : List ℕ} → SameFiles files mid → StandsAt mid file at → was ≡ get_or mid at was
      → view_of new ≡ record { content = content; state = pending_more copy (state_of was) } → copy ≡ change → content ≡ next_content change failure before → before ≡ (view_in files file).content
      → view_of new ≡ record { content = next_content change failure (s.content file); state = pending_more change (s.now.files file) }
  begun_view {mid} file at {was} new {change} {copy} failure {before} {content} same stands is view copied next old =
      let state : state_of was ≡ s.now.files file = ap (λ (v : View). v.state) (view_was file at same stands is ∙ shows.views file) in
      let body : content ≡ next_content change failure (s.content file) = next ∙ ap (next_content change failure) (old ∙ ap (λ (v : View). v.content) (shows.views file)) in
      view ∙ ap (λ (l : List ℕ). record { content = l; state = pending_more copy (state_of was) }) body ∙ ap (λ (c : DiskChange). record { content = next_content change failure (s.content file); state = pending_more c (state_of was) }) copied
      ∙ ap (λ (f : FileState). record { content = next_content change failure (s.content file); state = pending_more change f }) state

  -- the content made durable
  pub settled_view : {mid : List MemFile} (file : FileName) (at : ℕ) {was : MemFile} (new : MemFile) → SameFiles files mid → StandsAt mid file at → was ≡ get_or mid at was → view_of new ≡ at_rest_view was.content.items → view_of new ≡ at_rest_view (s.content file)
  settled_view {mid} file at new same stands is view = view ∙ ap (λ (v : View). at_rest_view v.content) (view_was file at same stands is ∙ shows.views file)
