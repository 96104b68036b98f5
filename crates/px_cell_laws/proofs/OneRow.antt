-- Where unswept writes stand, when one row of the cells changes.
use Rattle.std.proofs.Common.{◌≡◌, ℕ, false, List, sym, ap, subst, ⊎_elim}
use Rattle.px_cells.specs.declared.slot.Slot.{Slot}
use Rattle.px_chain.specs.Sound.{IsUsedRow, key_of}
use Rattle.px_history.specs.Store.{Store}
use Rattle.px_model.specs.Rows.{Key, same_key}
use Rattle.px_shown.specs.Tables.{AreSound}
use Rattle.px_shown.proofs.Keys.{HasKey, has_alike, same_key-not}
use Rattle.px_shown.proofs.Rows.{chains_of, has_used, used_has}
use Rattle.px_shown.proofs.Told.{IsChanged, here_or_away}
use Rattle.px_xacts.specs.declared.write.WriteAt.{WriteAt}
use Rattle.px_xacts.specs.Transactions.{Transactions}
use Rattle.px_cell_laws.specs.Locating.{AreWrittenAt, of_key, unswept_writes}
use Rattle.px_cell_laws.proofs.Noting.{Locates}

-- Of another store only one row has another chain, also where that row is used in one of them alone; its key is this one.
pub record ChangesRow (store next : Store) (t row : ℕ) (key : List ℕ) : Type 0 where
  pub here : IsUsedRow (next.tables t) row → key_of (next.tables t) row ≡ key
  pub away : (n q : ℕ) → (n ≡ t → q ≡ row → ⊥) → IsUsedRow (next.tables n) q
      → IsUsedRow (store.tables n) q × (key_of (next.tables n) q ≡ key_of (store.tables n) q)
  pub apart : (n q : ℕ) → (n ≡ t → q ≡ row → ⊥) → IsUsedRow (store.tables n) q
      → same_key (n, key_of (store.tables n) q) (t, key) ≡ false
  pub places : (n q : ℕ) → (n ≡ t → q ≡ row → ⊥) → (next.layouts n).chain q ≡ (store.layouts n).chain q

pub row_changes : (short : ℕ) (store next : Store) (t row : ℕ) (key : List ℕ) (slots : List Slot) → AreSound short store.tables store.layouts → AreSound short next.tables next.layouts
    → IsChanged (chains_of store.tables store.layouts) (chains_of next.tables next.layouts) t row key slots
    → ((n q : ℕ) → (n ≡ t → q ≡ row → ⊥) → (next.layouts n).chain q ≡ (store.layouts n).chain q) → ChangesRow store next t row key
row_changes short store next t row key slots was is c places =
    let olds = chains_of store.tables store.layouts in
    let news = chains_of next.tables next.layouts in
    record {
      here = λ used. c.its_key (key_of (next.tables t) row) (has_alike (news t row) slots _ c.here (used_has short (next.tables t) (next.layouts t) row (is t) used));
      away = λ n q away used.
          let had = has_used short (store.tables n) (store.layouts n) q _ (was n)
          (has_alike (news n q) (olds n q) _ (c.away n q away) (used_has short (next.tables n) (next.layouts n) q (is n) used)) in
          (had.0, sym had.1);
      apart = λ n q away used. same_key-not (n, key_of (store.tables n) q) (t, key) (λ same.
          let table : n ≡ t = ap (λ (k : Key). k.0) same in
          c.alone q (away table) (subst (λ (k : List ℕ). HasKey (olds t q) k) (ap (λ (k : Key). k.1) same)
          (subst (λ (m : ℕ). HasKey (olds m q) (key_of (store.tables n) q)) table (used_has short (store.tables n) (store.layouts n) q (was n) used))));
      places = places;
    }

pub written_changed : (all other : Transactions) (store next : Store) (t row : ℕ) (key : List ℕ) → ChangesRow store next t row key → AreWrittenAt all store
    → ((k : Key) → same_key k (t, key) ≡ false → of_key k (unswept_writes other) ≡ of_key k (unswept_writes all))
    → (IsUsedRow (next.tables t) row → Locates row (of_key (t, key) (unswept_writes other)) ((next.layouts t).chain row)) → AreWrittenAt other next
written_changed all other store next t row key c h others here = record {
  chains = λ n q. ⊎_elim
      (λ (same : (n ≡ t) × (q ≡ row)).
      subst (λ (m : ℕ). IsUsedRow (next.tables m) q → Locates q (of_key (m, key_of (next.tables m) q) (unswept_writes other)) ((next.layouts m).chain q)) (sym same.0)
      (subst (λ (p : ℕ). IsUsedRow (next.tables t) p → Locates p (of_key (t, key_of (next.tables t) p) (unswept_writes other)) ((next.layouts t).chain p)) (sym same.1)
      (λ used. subst (λ (k : List ℕ). Locates row (of_key (t, k) (unswept_writes other)) ((next.layouts t).chain row)) (sym (c.here used)) (here used))))
      (λ (away : n ≡ t → q ≡ row → ⊥) used.
      let was = c.away n q away used in
      let old : Key = (n, key_of (store.tables n) q) in
      subst (λ (k : List ℕ). Locates q (of_key (n, k) (unswept_writes other)) ((next.layouts n).chain q)) (sym was.1)
      (subst (λ (slots : List ℕ). Locates q (of_key old (unswept_writes other)) slots) (sym (c.places n q away))
      (subst (λ (writes : List WriteAt). Locates q writes ((store.layouts n).chain q)) (sym (others old (c.apart n q away was.0))) (h.chains n q was.0))))
      (here_or_away n q t row);
}
