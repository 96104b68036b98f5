-- The entries of versions: what entries have after one comes or goes, and what is then found in them.
use Rattle.std.proofs.Common.{subst, ◌≡◌, ℕ, ◌==◌, Bool, true, false, cond, not, ◌&&◌, ◌||◌, List, [], ◌∷◌, ◌++◌, Option, Some, None, refl, sym, ap, ◌∙◌}
use Rattle.std.specs.List.{AllByRecursion, list_any}
use Rattle.std.specs.List.Sorted.{IsStrictlySortedBy}
use Rattle.std.specs.Ordering.{is_eq, match_ordering, nat_cmp, ordering_then}
use Rattle.std.specs.declared.cmp.Ordering.{Ordering}
use Rattle.std.specs.declared.cmp.Ordering.TheVariants.{Less, Equal, Greater}
use Rattle.std.specs.Cmp.{eq_by_cmp_equiv}
use Rattle.std.specs.Cmp.Lexicographic.{slice_cmp}
use Rattle.std.proofs.lemmas.Bool.{false≢true, true≢false}
use Rattle.std.proofs.lemmas.Map.Views.{exact_unsigned_eq}
use Rattle.px_index.specs.Listed.{IsInOrder, has, with_entry, without_entry}
use Rattle.px_index.specs.Order.{entry_cmp, entry_cmp_total, same_entry}
use Rattle.px_index.specs.Versions.{AreEntries, HasFreeSlot, IsNextVersion, IsNextVersionKey, Version, is_beside, is_entry_of, is_under, key_entry, with_tag, with_version, without_tag, without_version}
use Rattle.px_index.specs.Walks.{IsFirstPast, IsNext, IsNextKey, IsNextSlot, entry_at}
use Rattle.px_index.specs.declared.entry.Entry.{Entry}
use Rattle.px_index.specs.declared.field.Field.{Field}
use Rattle.px_index.specs.declared.field.Field.TheVariants.{Key, Tag}
use Rattle.px_index.proofs.Next.{isnt}
use Rattle.px_index.proofs.Orders.{entry_exact, is_eq-nat, nat_itself, same_exact, then_equal}

-- ---- what a list has after an entry was added, or taken out

or_same : (a b : Bool) → (a || b) ≡ (a || (a || b))
or_same true b = refl
or_same false b = refl

or_turn : (a b c : Bool) → (a || (b || c)) ≡ (b || (a || c))
or_turn true true c = refl
or_turn true false c = refl
or_turn false b c = refl

pub has-with_entry : (entries : List Entry) (entry other : Entry) → has (with_entry entries entry) other ≡ (same_entry other entry || has entries other)
has-with_entry [] entry other = refl
has-with_entry (first ∷ entries) entry other = by (has-with_entry entries entry other) (entry_cmp entry first) refl
  where
    by : has (with_entry entries entry) other ≡ (same_entry other entry || has entries other) → (o : Ordering) → entry_cmp entry first ≡ o
        → has (match_ordering o (entry ∷ first ∷ entries) (first ∷ entries) (first ∷ with_entry entries entry)) other
        ≡ (same_entry other entry || (same_entry other first || has entries other))
    by behind Less is = refl
    by behind Equal is =
        or_same (same_entry other first) (has entries other)
        ∙ ap (λ (e : Entry). same_entry other e || (same_entry other first || has entries other)) (sym (entry_exact entry first is))
    by behind Greater is =
        ap (λ b. same_entry other first || b) behind ∙ or_turn (same_entry other first) (same_entry other entry) (has entries other)

none_twice : (entry : Entry) (entries : List Entry) → AllByRecursion (λ other. entry_cmp entry other ≡ Less) entries → has entries entry ≡ false
none_twice entry [] below = refl
none_twice entry (first ∷ entries) below = ap (λ o. is_eq o || has entries entry) below.0 ∙ none_twice entry entries below.1

and_false : (b : Bool) → false ≡ (not b && false)
and_false true = refl
and_false false = refl

and_true : (b : Bool) → true ≡ b → true ≡ (b && true)
and_true true h = refl
and_true false h = h

-- the first entry is the one that goes
gone_first : (first : Entry) (entries : List Entry) (other : Entry) → AllByRecursion (λ e. entry_cmp first e ≡ Less) entries
    → (b : Bool) → same_entry other first ≡ b → has entries other ≡ (not b && (b || has entries other))
gone_first first entries other below true same = ap (has entries) (same_exact other first same) ∙ none_twice first entries below
gone_first first entries other below false same = refl

-- the first entry stays
stays_first : (first entry other : Entry) (behind : Bool) → same_entry entry first ≡ false → (b : Bool) → same_entry other first ≡ b
    → (b || (not (same_entry other entry) && behind)) ≡ (not (same_entry other entry) && (b || behind))
stays_first first entry other behind away true same =
    let apart : same_entry other entry ≡ false =
    (eq_by_cmp_equiv entry_cmp_total).symm other entry ∙ ap (same_entry entry) (same_exact other first same) ∙ away in
    and_true (not (same_entry other entry)) (sym (ap not apart))
stays_first first entry other behind away false same = refl

-- taken out of entries in order
pub has-without_entry : (entries : List Entry) (entry other : Entry) → IsInOrder entries
    → has (without_entry entries entry) other ≡ (not (same_entry other entry) && has entries other)
unfolding IsStrictlySortedBy
has-without_entry [] entry other sorted = and_false (same_entry other entry)
has-without_entry (first ∷ entries) entry other sorted = by (has-without_entry entries entry other sorted.1) (same_entry entry first) refl
  where
    by : has (without_entry entries entry) other ≡ (not (same_entry other entry) && has entries other) → (b : Bool) → same_entry entry first ≡ b
        → has (cond b entries (first ∷ without_entry entries entry)) other ≡ (not (same_entry other entry) && (same_entry other first || has entries other))
    by behind true here =
        gone_first first entries other sorted.0 (same_entry other first) refl
        ∙ ap (λ (e : Entry). not (same_entry other e) && (same_entry other first || has entries other)) (sym (same_exact entry first here))
    by behind false away =
        ap (λ b. same_entry other first || b) behind ∙ stays_first first entry other (has entries other) away (same_entry other first) refl

all_without : (P : Entry → Type 0) (entries : List Entry) (entry : Entry) → AllByRecursion P entries → AllByRecursion P (without_entry entries entry)
all_without P [] entry all = tt
all_without P (first ∷ entries) entry all = by (all_without P entries entry all.1) (same_entry entry first)
  where
    by : AllByRecursion P (without_entry entries entry) → (b : Bool) → AllByRecursion P (cond b entries (first ∷ without_entry entries entry))
    by behind true = all.1
    by behind false = (all.0, behind)

pub in_order-without : (entries : List Entry) (entry : Entry) → IsInOrder entries → IsInOrder (without_entry entries entry)
unfolding IsStrictlySortedBy
in_order-without [] entry sorted = tt
in_order-without (first ∷ entries) entry sorted = by (in_order-without entries entry sorted.1) (same_entry entry first)
  where
    by : IsStrictlySortedBy entry_cmp (without_entry entries entry) → (b : Bool) → IsStrictlySortedBy entry_cmp (cond b entries (first ∷ without_entry entries entry))
    by behind true = sorted.1
    by behind false = (all_without (λ other. entry_cmp first other ≡ Less) entries entry sorted.0, behind)

-- ---- a version's entries

parted : (table field slot : Ordering) → is_eq (ordering_then (ordering_then table field) slot) ≡ (is_eq table && is_eq slot && is_eq field)
parted Less field slot = refl
parted Equal Less Less = refl
parted Equal Less Equal = refl
parted Equal Less Greater = refl
parted Equal Equal Less = refl
parted Equal Equal Equal = refl
parted Equal Equal Greater = refl
parted Equal Greater Less = refl
parted Equal Greater Equal = refl
parted Equal Greater Greater = refl
parted Greater field slot = refl

numbered : (table slot its_table its_slot : ℕ) (field : Bool)
    → (is_eq (nat_cmp table its_table) && is_eq (nat_cmp slot its_slot) && field) ≡ (table == its_table && slot == its_slot && field)
numbered table slot its_table its_slot field =
    ap (λ b. b && is_eq (nat_cmp slot its_slot) && field) (is_eq-nat table its_table)
    ∙ ap (λ b. table == its_table && b && field) (is_eq-nat slot its_slot)

by_field : (table slot its_table its_slot : ℕ) (field : Ordering)
    → is_eq (ordering_then (ordering_then (nat_cmp table its_table) field) (nat_cmp slot its_slot)) ≡ (table == its_table && slot == its_slot && is_eq field)
by_field table slot its_table its_slot field =
    parted (nat_cmp table its_table) field (nat_cmp slot its_slot) ∙ numbered table slot its_table its_slot (is_eq field)

nowhere : (a b : Bool) → (a && b && false) ≡ false
nowhere true true = refl
nowhere true false = refl
nowhere false b = refl

or_none : (a b : Bool) → b ≡ false → (a || b) ≡ a
or_none true b h = refl
or_none false b h = h

-- the entry is the one by the version's tag
abbrev pub is_tag_of : Entry → Version → Option ℕ → Bool
is_tag_of entry version None = false
is_tag_of entry version (Some tag) = same_entry entry (entry_at version.table (Tag tag) version.slot)

under : (table : ℕ) (field : Field) (slot its_table : ℕ) (key : List ℕ) (tag : Option ℕ) (its_slot : ℕ)
    → (is_tag_of (entry_at table field slot) (record { table = its_table; key = key; tag = tag; slot = its_slot }) tag
    || same_entry (entry_at table field slot) (entry_at its_table (Key key) its_slot))
    ≡ (table == its_table && slot == its_slot && is_under field (record { table = its_table; key = key; tag = tag; slot = its_slot }))
under table (Key other) slot its_table key None its_slot =
    by_field table slot its_table its_slot (ordering_then (slice_cmp nat_cmp other key) Equal)
    ∙ ap (λ o. table == its_table && slot == its_slot && is_eq o) (then_equal (slice_cmp nat_cmp other key))
under table (Key other) slot its_table key (Some tag) its_slot =
    ap (λ b. b || same_entry (entry_at table (Key other) slot) (entry_at its_table (Key key) its_slot))
    (by_field table slot its_table its_slot Less ∙ nowhere (table == its_table) (slot == its_slot))
    ∙ by_field table slot its_table its_slot (ordering_then (slice_cmp nat_cmp other key) Equal)
    ∙ ap (λ o. table == its_table && slot == its_slot && is_eq o) (then_equal (slice_cmp nat_cmp other key))
under table (Tag other) slot its_table key None its_slot = by_field table slot its_table its_slot Greater
under table (Tag other) slot its_table key (Some tag) its_slot =
    or_none (same_entry (entry_at table (Tag other) slot) (entry_at its_table (Tag tag) its_slot))
    (same_entry (entry_at table (Tag other) slot) (entry_at its_table (Key key) its_slot))
    (by_field table slot its_table its_slot Greater ∙ nowhere (table == its_table) (slot == its_slot))
    ∙ by_field table slot its_table its_slot (nat_cmp other tag)
    ∙ ap (λ b. table == its_table && slot == its_slot && b) (is_eq-nat other tag)

either : (entry : Entry) (version : Version) → (is_tag_of entry version version.tag || same_entry entry (key_entry version)) ≡ is_entry_of entry version
either entry version = under entry.table entry.field entry.slot version.table version.key version.tag version.slot

-- ---- in any order

any_turn : (test : Version → Bool) (front : List Version) (version : Version) (behind : List Version)
    → list_any test (front ++ version ∷ behind) ≡ (test version || list_any test (front ++ behind))
any_turn test [] version behind = refl
any_turn test (first ∷ front) version behind =
    ap (λ b. test first || b) (any_turn test front version behind) ∙ or_turn (test first) (test version) (list_any test (front ++ behind))

pub none : AreEntries [] []
unfolding AreEntries
none entry = refl

pub to_front : (front behind : List Version) (entries : List Entry) (version : Version) → AreEntries (front ++ version ∷ behind) entries
    → AreEntries (version ∷ front ++ behind) entries
unfolding AreEntries
to_front front behind entries version are entry = are entry ∙ any_turn (is_entry_of entry) front version behind

pub from_front : (front behind : List Version) (entries : List Entry) (version : Version) → AreEntries (version ∷ front ++ behind) entries
    → AreEntries (front ++ version ∷ behind) entries
unfolding AreEntries
from_front front behind entries version are entry = are entry ∙ sym (any_turn (is_entry_of entry) front version behind)

-- ---- one more version

has-with_tag : (entries : List Entry) (version : Version) (tag : Option ℕ) (other : Entry)
    → has (with_tag entries version tag) other ≡ (is_tag_of other version tag || has entries other)
has-with_tag entries version None other = refl
has-with_tag entries version (Some tag) other = has-with_entry entries (entry_at version.table (Tag tag) version.slot) other

or_assoc : (a b c : Bool) → (a || (b || c)) ≡ ((a || b) || c)
or_assoc true b c = refl
or_assoc false b c = refl

pub one_more : (versions : List Version) (entries : List Entry) (version : Version) → AreEntries versions entries
    → AreEntries (version ∷ versions) (with_version entries version)
unfolding AreEntries
one_more versions entries version are other =
    let tag = is_tag_of other version version.tag in
    let key = same_entry other (key_entry version) in
    has-with_tag (with_entry entries (key_entry version)) version version.tag other
    ∙ ap (λ b. tag || b) (has-with_entry entries (key_entry version) other ∙ ap (λ b. key || b) (are other))
    ∙ or_assoc tag key (list_any (is_entry_of other) versions)
    ∙ ap (λ b. b || list_any (is_entry_of other) versions) (either other version)

-- ---- one less

has-without_tag : (entries : List Entry) (version : Version) (tag : Option ℕ) (other : Entry) → IsInOrder entries
    → has (without_tag entries version tag) other ≡ (not (is_tag_of other version tag) && has entries other)
has-without_tag entries version None other sorted = refl
has-without_tag entries version (Some tag) other sorted = has-without_entry entries (entry_at version.table (Tag tag) version.slot) other sorted

left_over : (tag key others : Bool) → ((tag || key) ≡ true → others ≡ false) → (not tag && (not key && ((tag || key) || others))) ≡ others
left_over true key others gone = sym (gone refl)
left_over false true others gone = sym (gone refl)
left_over false false others gone = refl

two_parts : (a b c : Bool) → (a && b && c) ≡ true → (a ≡ true) × (b ≡ true)
two_parts true true c h = (refl, refl)
two_parts true false c h = absurd (false≢true h)
two_parts false b c h = absurd (false≢true h)

neither : (a b : Bool) → (a || b) ≡ false → (a ≡ false) × (b ≡ false)
neither true b h = absurd (true≢false h)
neither false b h = (refl, h)

same_number : (m n : ℕ) → m ≡ n → (m == n) ≡ true
same_number m n h = ap (λ (k : ℕ). k == n) h ∙ sym (is_eq-nat n n) ∙ ap is_eq (nat_itself n)

beside : (entry : Entry) (version other : Version) → is_entry_of entry version ≡ true → is_entry_of entry other ≡ true → is_beside version other ≡ true
beside entry version other its others =
    let a = two_parts (entry.table == version.table) (entry.slot == version.slot) (is_under entry.field version) its in
    let b = two_parts (entry.table == other.table) (entry.slot == other.slot) (is_under entry.field other) others in
    let table = sym (exact_unsigned_eq entry.table other.table b.0) ∙ exact_unsigned_eq entry.table version.table a.0 in
    let slot = sym (exact_unsigned_eq entry.slot other.slot b.1) ∙ exact_unsigned_eq entry.slot version.slot a.1 in
    ap (λ b. b && other.slot == version.slot) (same_number other.table version.table table) ∙ same_number other.slot version.slot slot

no_others : (entry : Entry) (version : Version) (versions : List Version) → is_entry_of entry version ≡ true → HasFreeSlot versions version
    → list_any (is_entry_of entry) versions ≡ false
no_others entry version [] its free = refl
no_others entry version (other ∷ versions) its free =
    let parts = neither (is_beside version other) (list_any (is_beside version) versions) free in
    ap (λ b. b || list_any (is_entry_of entry) versions)
    (isnt (is_entry_of entry other) (λ others. true≢false (sym (beside entry version other its others) ∙ parts.0)))
    ∙ no_others entry version versions its parts.1

pub one_less : (versions : List Version) (entries : List Entry) (version : Version) → IsInOrder entries → AreEntries (version ∷ versions) entries
    → HasFreeSlot versions version → AreEntries versions (without_version entries version)
unfolding AreEntries
one_less versions entries version sorted are free other =
    let tag = is_tag_of other version version.tag in
    let key = same_entry other (key_entry version) in
    let others = list_any (is_entry_of other) versions in
    has-without_tag (without_entry entries (key_entry version)) version version.tag other (in_order-without entries (key_entry version) sorted)
    ∙ ap (λ b. not tag && b)
    (has-without_entry entries (key_entry version) other sorted
    ∙ ap (λ b. not key && b) (are other ∙ ap (λ b. b || others) (sym (either other version))))
    ∙ left_over tag key others (λ its. no_others other version versions (sym (either other version) ∙ its) free)

-- ---- what is found

pub next_version : (versions : List Version) (entries : List Entry) (table : ℕ) (field : Field) (from : ℕ) (found : Option ℕ)
    → AreEntries versions entries → IsNextSlot entries table field from found → IsNextVersion versions table field from found
unfolding AreEntries
next_version versions entries table field from found are next =
    subst (λ (there : ℕ → Bool). IsNext there from found) (λ i slot. are (entry_at table field slot) i) next

pub next_version_key : (versions : List Version) (entries : List Entry) (table : ℕ) (after : Option (List ℕ)) (found : Option (List ℕ × ℕ))
    → AreEntries versions entries → IsNextKey entries table after found → IsNextVersionKey versions table after found
unfolding AreEntries
next_version_key versions entries table after found are next =
    subst (λ (there : List ℕ → ℕ → Bool). IsFirstPast there after found) (λ i key slot. are (entry_at table (Key key) slot) i) next
