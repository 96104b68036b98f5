-- What the cells of an unlink leave of a table that they are laid over.
use Rattle.std.proofs.Common.{◌≡◌, ◌≢◌, ℕ, true, false, List, [], ◌∷◌, ◌++◌, map, take, drop, refl, sym, ap, subst, ◌∙◌, inl, inr, ⊎_elim}
use Rattle.std.specs.Prelude.{Contains, fold, nat_le, ◌⊎◌}
use Rattle.std.specs.List.{position_or_len}
use Rattle.std.proofs.lemmas.Bool.{cases_eq, eq-eqb, ne_eqb}
use Rattle.std.proofs.lemmas.List.{take-append-drop}
use Rattle.std.proofs.lemmas.List.Sums.{fold-append}
use Rattle.std.proofs.lemmas.List.Elements.{Contains-append_left, Contains-append_right, Contains-append_cases}
use Rattle.px_cells.specs.declared.slot.Slot.{Slot}
use Rattle.px_free.specs.Places.{Places, slots_of, rows_of}
use Rattle.px_chain.specs.declared.chain.Linked.{Linked}
use Rattle.px_chain.specs.Table.{Table, laid, overlaid}
use Rattle.px_chain.specs.Links.{Parts, first_or, freed_slot, freed, relinked, placed, row_of, chain_of, content_of, unlinked_slots, unlinked_header, unlinked_pointer, unlink_cells}
use Rattle.px_chain.specs.Sound.{IsApart}
use Rattle.px_chain.proofs.Walks.{contains_first, contains_other, contains_cases, contains_none}
use Rattle.px_chain.proofs.Places.{apart_front, apart_rest, apart_both, in_middle, one_split, head_or, last_of, last_in}

-- ---- slots in order are the same slots

pub contains_placed : (slots : List Linked) (linked l : Linked) → Contains (placed slots linked) l → Contains slots l ⊎ (linked ≡ l)
contains_placed slots linked l there =
    let at = position_or_len (λ (other : Linked). nat_le linked.number other.number) slots in
    let whole : (Contains (take at slots ++ drop at slots) l) → Contains slots l = λ c. subst (λ (xs : List Linked). Contains xs l) (take-append-drop at slots) c in
    ⊎_elim (λ (a : Contains (take at slots) l). inl (whole (Contains-append_left (take at slots) (drop at slots) l a)))
    (λ (b : Contains (linked ∷ drop at slots) l). ⊎_elim (λ (e : linked ≡ l). inr e)
    (λ (c : Contains (drop at slots) l). inl (whole (Contains-append_right (take at slots) (drop at slots) l c)))
    (contains_cases linked l (drop at slots) b))
    (Contains-append_cases (take at slots) (linked ∷ drop at slots) l there)

placed_contains : (slots : List Linked) (linked l : Linked) → Contains slots l ⊎ (linked ≡ l) → Contains (placed slots linked) l
placed_contains slots linked l there =
    let at = position_or_len (λ (other : Linked). nat_le linked.number other.number) slots in
    ⊎_elim (λ (a : Contains slots l). ⊎_elim
    (λ (b : Contains (take at slots) l). Contains-append_left (take at slots) (linked ∷ drop at slots) l b)
    (λ (b : Contains (drop at slots) l). Contains-append_right (take at slots) (linked ∷ drop at slots) l (contains_other linked l (drop at slots) b))
    (Contains-append_cases (take at slots) (drop at slots) l (subst (λ (xs : List Linked). Contains xs l) (sym (take-append-drop at slots)) a)))
    (λ (e : linked ≡ l). Contains-append_right (take at slots) (linked ∷ drop at slots) l (subst (λ (m : Linked). Contains (linked ∷ drop at slots) m) e (contains_first linked (drop at slots))))
    there

in_order_contains : (sorted slots : List Linked) (l : Linked) → Contains sorted l ⊎ Contains slots l → Contains (fold placed sorted slots) l
in_order_contains sorted [] l there = ⊎_elim (λ (a : Contains sorted l). a) (λ (b : Contains [] l). absurd (contains_none l b)) there
in_order_contains sorted (first ∷ others) l there = in_order_contains (placed sorted first) others l (⊎_elim
    (λ (a : Contains sorted l). inl (placed_contains sorted first l (inl a)))
    (λ (b : Contains (first ∷ others) l). ⊎_elim (λ (e : first ≡ l). inl (placed_contains sorted first l (inr e))) (λ (c : Contains others l). inr c)
    (contains_cases first l others b))
    there)

contains_in_order : (sorted slots : List Linked) (l : Linked) → Contains (fold placed sorted slots) l → Contains sorted l ⊎ Contains slots l
contains_in_order sorted [] l there = inl there
contains_in_order sorted (first ∷ others) l there = ⊎_elim
    (λ (a : Contains (placed sorted first) l). ⊎_elim (λ (b : Contains sorted l). inl b)
    (λ (e : first ≡ l). inr (subst (λ (m : Linked). Contains (first ∷ others) m) e (contains_first first others)))
    (contains_placed sorted first l a))
    (λ (c : Contains others l). inr (contains_other first l others c))
    (contains_in_order (placed sorted first) others l there)

-- ---- cells of slots over a table

record IsAt (table other : Table) (slots : List Linked) (n : ℕ) : Type 0 where
  pub linked : Linked
  pub there : Contains slots linked
  pub number : linked.number ≡ n
  pub slot : other.slot n ≡ linked.slot

record IsNowhere (table other : Table) (slots : List Linked) (n : ℕ) : Type 0 where
  pub away : (linked : Linked) → Contains slots linked → linked.number ≡ n → ⊥
  pub slot : other.slot n ≡ table.slot n

laid_slots : (table : Table) (slots : List Linked) (n : ℕ) → IsAt table (laid table (map content_of slots)) slots n ⊎ IsNowhere table (laid table (map content_of slots)) slots n
laid_slots table [] n = inr (record { away = λ l there e. contains_none l there; slot = refl })
laid_slots table (first ∷ others) n =
    let over = overlaid table (content_of first) in
    let other = laid over (map content_of others) in
    ⊎_elim
    (λ (at : IsAt over other others n). inl (record { linked = at.linked; there = contains_other first at.linked others at.there; number = at.number; slot = at.slot }))
    (λ (none : IsNowhere over other others n). ⊎_elim
    (λ (e : n ≡ first.number). inl (record { linked = first; there = contains_first first others; number = sym e; slot = none.slot ∙ rw (eq-eqb n first.number e) refl }))
    (λ (e : n ≢ first.number). inr (record {
      away = λ l there same. ⊎_elim (λ (is : first ≡ l). e (sym same ∙ ap (λ (m : Linked). m.number) (sym is))) (λ (later : Contains others l). none.away l later same)
          (contains_cases first l others there);
      slot = none.slot ∙ rw (ne_eqb n first.number e) refl;
    }))
    (cases_eq n first.number))
    (laid_slots over others n)

pub laid_header : (table : Table) (slots : List Linked) → (laid table (map content_of slots)).header ≡ table.header
laid_header table [] = refl
laid_header table (first ∷ others) = laid_header (overlaid table (content_of first)) others

pub laid_pointers : (table : Table) (slots : List Linked) (q : ℕ) → (laid table (map content_of slots)).pointer q ≡ table.pointer q
laid_pointers table [] q = refl
laid_pointers table (first ∷ others) q = laid_pointers (overlaid table (content_of first)) others q

-- ---- the slots that change

first_of_chain : (table : Table) (slots : List ℕ) (other : ℕ) → first_or (chain_of table slots) other ≡ head_or slots other
first_of_chain table [] other = refl
first_of_chain table (x ∷ xs) other = refl

record IsFreed (table : Table) (gone : List ℕ) (front n : ℕ) (slot : Slot) : Type 0 where
  pub before : List ℕ
  pub behind : List ℕ
  pub split : gone ≡ before ++ (n ∷ behind)
  pub is : slot ≡ freed_slot (table.slot n) (head_or behind front)

freed_is : (table : Table) (gone : List ℕ) (front : ℕ) (l : Linked) → Contains (freed (chain_of table gone) front) l → IsFreed table gone front l.number l.slot
freed_is table [] front l there = absurd (contains_none l there)
freed_is table (x ∷ xs) front l there =
    let first : Linked = record { number = x; slot = freed_slot (table.slot x) (first_or (chain_of table xs) front) } in
    ⊎_elim
    (λ (e : first ≡ l). subst (λ (m : Linked). IsFreed table (x ∷ xs) front m.number m.slot) e (record {
      before = [];
      behind = xs;
      split = refl;
      is = ap (λ (n : ℕ). freed_slot (table.slot x) n) (first_of_chain table xs front);
    }))
    (λ (later : Contains (freed (chain_of table xs) front) l). let f = freed_is table xs front l later in
    record { before = x ∷ f.before; behind = f.behind; split = ap (λ (m : List ℕ). x ∷ m) f.split; is = f.is })
    (contains_cases first l (freed (chain_of table xs) front) there)

freed_has : (table : Table) (gone : List ℕ) (front n : ℕ) → Contains gone n → (l : Linked) × Contains (freed (chain_of table gone) front) l × (l.number ≡ n)
freed_has table [] front n there = absurd (contains_none n there)
freed_has table (x ∷ xs) front n there =
    let first : Linked = record { number = x; slot = freed_slot (table.slot x) (first_or (chain_of table xs) front) } in
    ⊎_elim
    (λ (e : x ≡ n). (first, contains_first first (freed (chain_of table xs) front), e))
    (λ (later : Contains xs n). let f = freed_has table xs front n later in (f.0, contains_other first f.0 (freed (chain_of table xs) front) f.1, f.2))
    (contains_cases x n xs there)

record IsRelinked (table : Table) (before : List ℕ) (next n : ℕ) (slot : Slot) : Type 0 where
  pub some : before ≢ []
  pub last : n ≡ last_of before
  pub is : slot ≡ record (table.slot n) { next = next }

relinked_is : (table : Table) (before : List ℕ) (next : ℕ) (l : Linked) → Contains (relinked (chain_of table before) next) l → IsRelinked table before next l.number l.slot
relinked_is table [] next l there = absurd (contains_none l there)
relinked_is table (x ∷ []) next l there =
    let last : Linked = record { number = x; slot = record (table.slot x) { next = next } } in
    ⊎_elim
    (λ (e : last ≡ l). subst (λ (m : Linked). IsRelinked table (x ∷ []) next m.number m.slot) e (record { some = λ (e : (x ∷ []) ≡ []). cc; last = refl; is = refl }))
    (λ (later : Contains [] l). absurd (contains_none l later))
    (contains_cases last l [] there)
relinked_is table (x ∷ (y ∷ ys)) next l there =
    let r = relinked_is table (y ∷ ys) next l there in
    record { some = λ (e : (x ∷ (y ∷ ys)) ≡ []). cc; last = r.last; is = r.is }

relinked_has : (table : Table) (before : List ℕ) (next : ℕ) → before ≢ [] → (l : Linked) × Contains (relinked (chain_of table before) next) l × (l.number ≡ last_of before)
relinked_has table [] next some = absurd (some refl)
relinked_has table (x ∷ []) next some =
    let last : Linked = record { number = x; slot = record (table.slot x) { next = next } } in (last, contains_first last [], refl)
relinked_has table (x ∷ (y ∷ ys)) next some = relinked_has table (y ∷ ys) next (λ (e : (y ∷ ys) ≡ []). cc)

-- ---- the whole

pub record IsUnlinked (table other : Table) (row : ℕ) (before gone behind : List ℕ) : Type 0 where
  pub slot_freed : (front : List ℕ) (n : ℕ) (rest : List ℕ) → gone ≡ front ++ (n ∷ rest) → other.slot n ≡ freed_slot (table.slot n) (head_or rest table.header.free_slot)
  pub slot_last : before ≢ [] → other.slot (last_of before) ≡ record (table.slot (last_of before)) { next = head_or behind 0 }
  pub slot_else : (n : ℕ) → (Contains gone n → ⊥) → (before ≢ [] → n ≢ last_of before) → other.slot n ≡ table.slot n
  pub slots : slots_of other.header ≡ record { used = table.header.slots; front = head_or gone table.header.free_slot }
  pub pointer_else : (q : ℕ) → q ≢ row → other.pointer q ≡ table.pointer q
  pub pointer_before : before ≢ [] → other.pointer row ≡ table.pointer row
  pub pointer_behind : before ≡ [] → behind ≢ [] → other.pointer row ≡ record { used = true; head = head_or behind 0 }
  pub pointer_free : before ≡ [] → behind ≡ [] → other.pointer row ≡ record { used = false; head = table.header.free_row }
  pub rows : (before ≡ [] → behind ≡ [] → ⊥) → rows_of other.header ≡ rows_of table.header
  pub rows_given : before ≡ [] → behind ≡ [] → rows_of other.header ≡ record { used = table.header.rows; front = row }

abbrev pub parts_at : Table → (before gone behind : List ℕ) → Parts
parts_at table before gone behind = record { before = chain_of table before; gone = chain_of table gone; behind = chain_of table behind }

-- the table with the new header and the slots, without the pointer
abbrev half : Table → (before gone behind : List ℕ) → Table
half table before gone behind =
    let parts = parts_at table before gone behind in
    laid (record table { header = unlinked_header table.header parts }) (map content_of (unlinked_slots table.header parts))

halves : (table : Table) (before gone behind : List ℕ)
    → laid table (unlink_cells table.header (parts_at table before gone behind))
    ≡ laid (half table before gone behind) (unlinked_pointer table.header (parts_at table before gone behind))
halves table before gone behind =
    let parts = parts_at table before gone behind in
    fold-append overlaid (record table { header = unlinked_header table.header parts }) (map content_of (unlinked_slots table.header parts)) (unlinked_pointer table.header parts)

slot_of_half : (table half : Table) (before gone behind : List ℕ) (n : ℕ) → (laid half (unlinked_pointer table.header (parts_at table before gone behind))).slot n ≡ half.slot n
slot_of_half table half [] gone behind n = refl
slot_of_half table half (x ∷ xs) gone behind n = refl

header_of_half : (table half : Table) (before gone behind : List ℕ) → (laid half (unlinked_pointer table.header (parts_at table before gone behind))).header ≡ half.header
header_of_half table half [] gone behind = refl
header_of_half table half (x ∷ xs) gone behind = refl

pub row_of_gone : (table : Table) (row : ℕ) (gone : List ℕ) → gone ≢ [] → ((n : ℕ) → Contains gone n → (table.slot n).row ≡ row) → row_of (chain_of table gone) ≡ row
row_of_gone table row [] some rows = absurd (some refl)
row_of_gone table row (x ∷ xs) some rows = rows x (contains_first x xs)

pointer_away : (table half : Table) (row : ℕ) (before gone behind : List ℕ) → row_of (chain_of table gone) ≡ row → (q : ℕ) → q ≢ row
    → (laid half (unlinked_pointer table.header (parts_at table before gone behind))).pointer q ≡ half.pointer q
pointer_away table half row [] gone behind its_row q away = rw (ne_eqb q (row_of (chain_of table gone)) (λ e. away (e ∙ its_row))) refl
pointer_away table half row (x ∷ xs) gone behind its_row q away = refl

pointer_kept : (table half : Table) (row : ℕ) (before gone behind : List ℕ) → before ≢ []
    → (laid half (unlinked_pointer table.header (parts_at table before gone behind))).pointer row ≡ half.pointer row
pointer_kept table half row [] gone behind some = absurd (some refl)
pointer_kept table half row (x ∷ xs) gone behind some = refl

pointer_moved : (table half : Table) (row : ℕ) (before gone behind : List ℕ) → row_of (chain_of table gone) ≡ row → before ≡ [] → behind ≢ []
    → (laid half (unlinked_pointer table.header (parts_at table before gone behind))).pointer row ≡ record { used = true; head = head_or behind 0 }
pointer_moved table half row [] gone [] its_row none some = absurd (some refl)
pointer_moved table half row [] gone (y ∷ ys) its_row none some = rw (eq-eqb row (row_of (chain_of table gone)) (sym its_row)) refl
pointer_moved table half row (x ∷ xs) gone behind its_row none some = cc

pointer_given : (table half : Table) (row : ℕ) (before gone behind : List ℕ) → row_of (chain_of table gone) ≡ row → before ≡ [] → behind ≡ []
    → (laid half (unlinked_pointer table.header (parts_at table before gone behind))).pointer row ≡ record { used = false; head = table.header.free_row }
pointer_given table half row [] gone [] its_row none end = rw (eq-eqb row (row_of (chain_of table gone)) (sym its_row)) refl
pointer_given table half row [] gone (y ∷ ys) its_row none end = cc
pointer_given table half row (x ∷ xs) gone behind its_row none end = cc

rows_kept : (table : Table) (before gone behind : List ℕ) → (before ≡ [] → behind ≡ [] → ⊥)
    → rows_of (unlinked_header table.header (parts_at table before gone behind)) ≡ rows_of table.header
rows_kept table [] gone [] stay = absurd (stay refl refl)
rows_kept table [] gone (y ∷ ys) stay = refl
rows_kept table (x ∷ xs) gone behind stay = refl

rows_freed : (table : Table) (row : ℕ) (before gone behind : List ℕ) → row_of (chain_of table gone) ≡ row → before ≡ [] → behind ≡ []
    → rows_of (unlinked_header table.header (parts_at table before gone behind)) ≡ record { used = table.header.rows; front = row }
rows_freed table row [] gone [] its_row none end = rw its_row refl
rows_freed table row [] gone (y ∷ ys) its_row none end = cc
rows_freed table row (x ∷ xs) gone behind its_row none end = cc

pub unlinked_over : (table : Table) (row : ℕ) (before gone behind : List ℕ) → IsApart (before ++ (gone ++ behind)) → gone ≢ []
    → ((n : ℕ) → Contains gone n → (table.slot n).row ≡ row)
    → IsUnlinked table (laid table (unlink_cells table.header (parts_at table before gone behind))) row before gone behind
unlinked_over table row before gone behind apart some rows =
    let parts = parts_at table before gone behind in
    let front = table.header.free_slot in
    let next = first_or parts.behind 0 in
    let r = relinked parts.before next in
    let f = freed parts.gone front in
    let slots = unlinked_slots table.header parts in
    let start : Table = record table { header = unlinked_header table.header parts } in
    let middle = half table before gone behind in
    let other = laid middle (unlinked_pointer table.header parts) in
    let its_row = row_of_gone table row gone some rows in
    let gone_apart = apart_front gone behind (apart_rest before (gone ++ behind) apart) in
    let last_apart : before ≢ [] → Contains gone (last_of before) → ⊥ = λ there in_gone.
    apart_both before (gone ++ behind) apart (last_of before) (last_there before there) (Contains-append_left gone behind (last_of before) in_gone) in
    -- what a slot that changes is
    let cases : (l : Linked) → Contains slots l → IsRelinked table before next l.number l.slot ⊎ IsFreed table gone front l.number l.slot = λ l there. ⊎_elim
    (λ (none : Contains [] l). absurd (contains_none l none))
    (λ (both : Contains (r ++ f) l). ⊎_elim
    (λ (a : Contains r l). inl (relinked_is table before next l a))
    (λ (b : Contains f l). inr (freed_is table gone front l b))
    (Contains-append_cases r f l both))
    (contains_in_order [] (r ++ f) l there) in
    let has : (l : Linked) → Contains (r ++ f) l → Contains slots l = λ l there. in_order_contains [] (r ++ f) l (inr there) in
    let made : IsUnlinked table other row before gone behind = record {
      slot_freed = λ ahead n rest split. slot_of_half table middle before gone behind n ∙ ⊎_elim
          (λ (at : IsAt start middle slots n). at.slot ∙ ⊎_elim
          (λ (a : IsRelinked table before next at.linked.number at.linked.slot). absurd (last_apart a.some
          (subst (λ (p : ℕ). Contains gone p) (sym at.number ∙ a.last) (subst (λ (l : List ℕ). Contains l n) (sym split) (in_middle ahead n rest)))))
          (λ (b : IsFreed table gone front at.linked.number at.linked.slot).
          let same : b.behind ≡ rest = sym (one_split n ahead b.before rest b.behind (subst IsApart split gone_apart)
          (sym split ∙ b.split ∙ ap (λ (p : ℕ). b.before ++ (p ∷ b.behind)) at.number)) in
          b.is ∙ ap (λ (p : ℕ). freed_slot (table.slot p) (head_or b.behind front)) at.number ∙ ap (λ (l : List ℕ). freed_slot (table.slot n) (head_or l front)) same)
          (cases at.linked at.there))
          (λ (none : IsNowhere start middle slots n).
          let h = freed_has table gone front n (subst (λ (l : List ℕ). Contains l n) (sym split) (in_middle ahead n rest)) in
          absurd (none.away h.0 (has h.0 (Contains-append_right r f h.0 h.1)) h.2))
          (laid_slots start slots n);
      slot_last = λ there. slot_of_half table middle before gone behind (last_of before) ∙ ⊎_elim
          (λ (at : IsAt start middle slots (last_of before)). at.slot ∙ ⊎_elim
          (λ (a : IsRelinked table before next at.linked.number at.linked.slot).
          a.is ∙ ap (λ (p : ℕ). relink (table.slot p) next) at.number ∙ ap (λ (p : ℕ). relink (table.slot (last_of before)) p) (first_of_chain table behind 0))
          (λ (b : IsFreed table gone front at.linked.number at.linked.slot). absurd (last_apart there
          (subst (λ (p : ℕ). Contains gone p) at.number (subst (λ (l : List ℕ). Contains l at.linked.number) (sym b.split) (in_middle b.before at.linked.number b.behind)))))
          (cases at.linked at.there))
          (λ (none : IsNowhere start middle slots (last_of before)).
          let h = relinked_has table before next there in
          absurd (none.away h.0 (has h.0 (Contains-append_left r f h.0 h.1)) h.2))
          (laid_slots start slots (last_of before));
      slot_else = λ n not_gone not_last. slot_of_half table middle before gone behind n ∙ ⊎_elim
          (λ (at : IsAt start middle slots n). ⊎_elim
          (λ (a : IsRelinked table before next at.linked.number at.linked.slot). absurd (not_last a.some (sym at.number ∙ a.last)))
          (λ (b : IsFreed table gone front at.linked.number at.linked.slot). absurd (not_gone
          (subst (λ (p : ℕ). Contains gone p) at.number (subst (λ (l : List ℕ). Contains l at.linked.number) (sym b.split) (in_middle b.before at.linked.number b.behind)))))
          (cases at.linked at.there))
          (λ (none : IsNowhere start middle slots n). none.slot)
          (laid_slots start slots n);
      slots = ap slots_of (header_of_half table middle before gone behind ∙ laid_header start slots)
          ∙ ap (λ (p : ℕ). slots_at table.header.slots p) (first_of_chain table gone front);
      pointer_else = λ q away. pointer_away table middle row before gone behind its_row q away ∙ laid_pointers start slots q;
      pointer_before = λ there. pointer_kept table middle row before gone behind there ∙ laid_pointers start slots row;
      pointer_behind = pointer_moved table middle row before gone behind its_row;
      pointer_free = pointer_given table middle row before gone behind its_row;
      rows = λ stay. ap rows_of (header_of_half table middle before gone behind ∙ laid_header start slots) ∙ rows_kept table before gone behind stay;
      rows_given = λ none end. ap rows_of (header_of_half table middle before gone behind ∙ laid_header start slots) ∙ rows_freed table row before gone behind its_row none end;
    } in
    subst (λ (t : Table). IsUnlinked table t row before gone behind) (sym (halves table before gone behind)) made
  where
    last_there : (list : List ℕ) → list ≢ [] → Contains list (last_of list)
    last_there [] some = absurd (some refl)
    last_there (x ∷ xs) some = last_in x xs

    relink : Slot → ℕ → Slot
    relink slot next = record slot { next = next }

    slots_at : ℕ → ℕ → Places
    slots_at used front = record { used = used; front = front }
