-- The laws, with their premises as tests.
use Rattle.std.proofs.Common.{◌≡◌, Bool, true, false, List, map, length, refl, sym, subst}
use Rattle.std.specs.Prelude.{T, take, filter, sum_by, if◌then◌else◌}
use Rattle.px_model.specs.declared.row.Row.{Row}
use Rattle.px_model.specs.declared.write.Write.{Write}
use Rattle.px_model.specs.declared.machine.Open.{Open}
use Rattle.px_model.specs.declared.machine.Variation.{Variation}
use Rattle.px_model.specs.Rows.{Key, after, after_write, in_order, row_at}
use Rattle.px_model.specs.Machine.{Machine, committed_writes, view}
use Rattle.px_model.specs.Chains.{chain, all_variations, variations, live, long_size}
use Rattle.px_model_laws.specs.Keys.{is_of, row_written, AreKeysOf}
use Rattle.px_model_laws.proofs.RowsAsMap.{row_at-after_write, after-are, same_rows}
use Rattle.px_model_laws.proofs.Cut.{chain-cut}
use Rattle.px_model_laws.proofs.Counting.{variations-chains, live-chains}

holds : (b : Bool) → b ≡ true → T b
holds b h = subst T (sym h) tt

held : (b : Bool) → T b → b ≡ true
held true h = refl
held false h = absurd h

pub write_changes_its_key : (key : Key) (rows : List Row) (write : Write)
    → row_at key (after_write rows write) ≡ (if is_of key write then row_written write else row_at key rows)
write_changes_its_key key rows write = row_at-after_write key rows write

pub rows_stay_in_order : (rows : List Row) (writes : List Write) → in_order rows ≡ true → in_order (after rows writes) ≡ true
rows_stay_in_order rows writes h = held (in_order (after rows writes)) (after-are rows writes (holds (in_order rows) h))

pub views_are_in_order : (m : Machine) (xact : Open) → in_order m.opening ≡ true → in_order (view m xact) ≡ true
unfolding view
views_are_in_order m xact h =
    let seen = committed_writes (take xact.snap m.ended) in
    rows_stay_in_order (after m.opening seen) xact.writes (rows_stay_in_order m.opening seen h)

pub rows_are_their_answers : (a b : List Row) → in_order a ≡ true → in_order b ≡ true → ((key : Key) → row_at key a ≡ row_at key b) → a ≡ b
rows_are_their_answers a b s t same = same_rows a b (holds (in_order a) s) (holds (in_order b) t) same

pub chains_are_cut : (m : Machine) (key : Key) → in_order m.opening ≡ true
    → map (λ (v : Variation). v.write) (chain m key) ≡ filter (is_of key) (all_variations m)
chains_are_cut m key h = chain-cut m key (holds (in_order m.opening) h)

pub chains_count_variations : (m : Machine) (keys : List Key) → in_order m.opening ≡ true → AreKeysOf m keys
    → variations m ≡ sum_by (λ key. length (chain m key)) keys
chains_count_variations m keys h all = variations-chains m keys (holds (in_order m.opening) h) all

pub chains_count_live : (m : Machine) (keys : List Key) → in_order m.opening ≡ true → AreKeysOf m keys
    → live m ≡ sum_by (λ key. sum_by (λ (v : Variation). long_size m.short v.write) (chain m key)) keys
chains_count_live m keys h all = live-chains m keys (holds (in_order m.opening) h) all
