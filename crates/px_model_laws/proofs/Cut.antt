-- The writes of a chain are those of its key among all versions.
use Rattle.std.proofs.Common.{◌≡◌, ℕ, Bool, true, false, cond, ◌&&◌, List, [], ◌∷◌, ◌++◌, map, Option, Some, None, refl, sym, ap, subst, ◌∙◌}
use Rattle.std.specs.Prelude.{T, take, drop, filter, flat_map, option_to_list}
use Rattle.std.specs.Ordering.{is_lt, is_eq}
use Rattle.std.specs.declared.cmp.Ordering.TheVariants.{Less, Equal, Greater}
use Rattle.std.specs.FinMap.Entries.{below_all}
use Rattle.std.proofs.lemmas.List.{map-append}
use Rattle.std.proofs.lemmas.List.Elements.{filter-append}
use Rattle.px_model.specs.declared.row.Row.{Row}
use Rattle.px_model.specs.declared.write.Write.{Write}
use Rattle.px_model.specs.declared.write.Write.TheVariants.{Put, Delete}
use Rattle.px_model.specs.declared.machine.Flat.{Flat}
use Rattle.px_model.specs.declared.machine.Open.{Open}
use Rattle.px_model.specs.declared.machine.Variation.{Variation}
use Rattle.px_model.specs.Rows.{Key, key_cmp, same_key, key_of, key_written, row_at, entries}
use Rattle.px_model.specs.Machine.{Machine, flat, committed_flat}
use Rattle.px_model.specs.Chains.{base_rows, unswept_writes, writes_of_slot, open_writes, last_committed, of_ended, of_slot, of_key, is_put, base_or, chain, all_variations}
use Rattle.px_model_laws.specs.Keys.{row_written, is_of}
use Rattle.px_model_laws.proofs.RowsAsMap.{AreRows, key_exact, after-are}
use Rattle.px_model_laws.proofs.BaseRows.{left_by, row_at-base_rows}

abbrev pub written : Variation → Write
written v = v.write

-- ---- the unswept and the open ones

ended : (key : Key) (base : ℕ) (all : List Flat)
    → map written (of_key key (map (of_ended base) all)) ≡ filter (is_of key) (map (λ (f : Flat). f.write) all)
ended key base [] = refl
ended key base (f ∷ all) =
    elim (same_key key (key_written f.write)) as (λ b. map written (cond b (of_ended base f ∷ of_key key (map (of_ended base) all)) (of_key key (map (of_ended base) all)))
    ≡ cond b (f.write ∷ filter (is_of key) (map (λ (g : Flat). g.write) all)) (filter (is_of key) (map (λ (g : Flat). g.write) all))) [
      | true ↦ ap (λ l. f.write ∷ l) (ended key base all)
      | false ↦ ended key base all
    ]

of_one : (key : Key) (xn : Option ℕ) (writes : List Write)
    → map written (of_key key (map (λ (w : Write). record { xn = xn; write = w }) writes)) ≡ filter (is_of key) writes
of_one key xn [] = refl
of_one key xn (w ∷ writes) =
    let rest : List Variation = of_key key (map (λ (v : Write). record { xn = xn; write = v }) writes) in
    elim (same_key key (key_written w)) as (λ b. map written (cond b (record { xn = xn; write = w } ∷ rest) rest) ≡ cond b (w ∷ filter (is_of key) writes) (filter (is_of key) writes)) [
      | true ↦ ap (λ l. w ∷ l) (of_one key xn writes)
      | false ↦ of_one key xn writes
    ]

of_slots : (key : Key) (base : ℕ) (slots : List (Option Open))
    → map written (of_key key (flat_map (of_slot base) slots)) ≡ filter (is_of key) (flat_map writes_of_slot slots)
of_slots key base [] = refl
of_slots key base (None ∷ slots) = of_slots key base slots
of_slots key base (Some xact ∷ slots) =
    let p = λ (v : Variation). same_key key (key_written v.write) in
    ap (map written) (filter-append p (of_slot base (Some xact)) (flat_map (of_slot base) slots))
    ∙ map-append written (filter p (of_slot base (Some xact))) (filter p (flat_map (of_slot base) slots))
    ∙ ap (λ l. l ++ map written (filter p (flat_map (of_slot base) slots))) (of_one key _ xact.writes)
    ∙ ap (λ l. filter (is_of key) xact.writes ++ l) (of_slots key base slots)
    ∙ sym (filter-append (is_of key) xact.writes (flat_map writes_of_slot slots))

-- ---- the base

of_write : (base : ℕ) (f : Flat) (w : Write) → f.write ≡ w
    → map written (cond (is_put w) (of_ended base f ∷ []) []) ≡ map Put (option_to_list (row_written w))
of_write base f (Put row) e = ap (λ v. v ∷ []) e
of_write base f (Delete table key) e = refl

of_base : (base : ℕ) (row : Option Row) (last : Option Flat)
    → map written (base_or base row last) ≡ map Put (option_to_list (left_by row last))
of_base base None None = refl
of_base base (Some row) None = refl
of_base base row (Some f) = of_write base f f.write refl

head_of : (a b : Bool) → T (a && b) → T a
head_of true b h = tt
head_of false b h = h

rest_of : (a b : Bool) → T (a && b) → T b
rest_of true b h = h
rest_of false b h = absurd h

not_same : (a b : Key) → T (is_lt (key_cmp a b)) → same_key a b ≡ false
unfolding same_key
not_same a b h = (elim (key_cmp a b) as (λ o. T (is_lt o) → is_eq o ≡ false) [
  | Less ↦ λ _. refl
  | Equal ↦ λ k. absurd k
  | Greater ↦ λ k. absurd k
]) h

same_key-is : (a b : Key) → same_key a b ≡ true → a ≡ b
unfolding same_key
same_key-is a b h = key_exact a b ((elim (key_cmp a b) as (λ o. is_eq o ≡ true → o ≡ Equal) [
  | Less ↦ λ k. cc
  | Equal ↦ λ _. refl
  | Greater ↦ λ k. cc
]) h)

none_below : (key : Key) (rows : List Row) → T (below_all key_cmp key (entries rows)) → filter (is_of key) (map Put rows) ≡ []
none_below key [] h = refl
none_below key (r ∷ rows) h =
    ap (λ b. cond b (Put r ∷ filter (is_of key) (map Put rows)) (filter (is_of key) (map Put rows))) (not_same key (key_of r) (head_of _ _ h))
    ∙ none_below key rows (rest_of _ _ h)

one_row : (key : Key) (rows : List Row) → AreRows rows → filter (is_of key) (map Put rows) ≡ map Put (option_to_list (row_at key rows))
one_row key [] h = refl
one_row key (r ∷ rows) h =
    elim (same_key key (key_of r)) as (λ b. same_key key (key_of r) ≡ b → cond b (Put r ∷ filter (is_of key) (map Put rows)) (filter (is_of key) (map Put rows))
    ≡ map Put (option_to_list (cond b (Some r) (row_at key rows)))) [
      | true ↦ λ e. ap (λ l. Put r ∷ l) (none_below key rows (subst (λ k. T (below_all key_cmp k (entries rows))) (sym (same_key-is key (key_of r) e)) (head_of _ _ h)))
      | false ↦ λ e. one_row key rows (rest_of _ _ h)
    ] refl

-- ---- the chain

base_cut : (m : Machine) (key : Key) → AreRows m.opening
    → map written (base_or m.base (row_at key m.opening) (last_committed key (take m.swept (flat m)))) ≡ filter (is_of key) (map Put (base_rows m))
unfolding base_rows
base_cut m key h =
    of_base m.base (row_at key m.opening) (last_committed key (take m.swept (flat m)))
    ∙ ap (λ o. map Put (option_to_list o)) (sym (row_at-base_rows m key))
    ∙ sym (one_row key (base_rows m) (after-are m.opening (committed_flat (take m.swept (flat m))) h))

pub chain-cut : (m : Machine) (key : Key) → AreRows m.opening → map written (chain m key) ≡ filter (is_of key) (all_variations m)
unfolding chain all_variations
chain-cut m key h =
    let base = base_or m.base (row_at key m.opening) (last_committed key (take m.swept (flat m))) in
    let passed = of_key key (map (of_ended m.base) (drop m.swept (flat m))) in
    let own = of_key key (flat_map (of_slot m.base) m.active) in
    let a = base_cut m key h in
    let b = ended key m.base (drop m.swept (flat m)) in
    let c = of_slots key m.base m.active in
    let rows = filter (is_of key) (map Put (base_rows m)) in
    map-append written (base ++ passed) own
    ∙ ap (λ l. l ++ map written own) (map-append written base passed)
    ∙ ap (λ l. (l ++ map written passed) ++ map written own) a
    ∙ ap (λ l. (rows ++ l) ++ map written own) b
    ∙ ap (λ l. (rows ++ filter (is_of key) (unswept_writes m)) ++ l) c
    ∙ ap (λ l. l ++ filter (is_of key) (open_writes m)) (sym (filter-append (is_of key) (map Put (base_rows m)) (unswept_writes m)))
    ∙ sym (filter-append (is_of key) (map Put (base_rows m) ++ unswept_writes m) (open_writes m))
