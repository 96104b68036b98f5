-- What callers use of the holders of keys.
use Rattle.std.proofs.Common.{◌≡◌, ◌≢◌, ℕ, true, false, cond, ◌==◌, Option, Some, None, refl, sym, ap, ◌∙◌}
use Rattle.std.specs.Cmp.{eq_by_cmp_equiv}
use Rattle.std.specs.FinMap.{same_map}
use Rattle.px_model.specs.Rows.{Key, same_key}
use Rattle.px_locks.specs.Holders.{Holders, holder_of, unless_held_by}
use Rattle.px_locks.proofs.Keys.{key_total, key_exact, by_key, same_number, is_number, same_key-is}

-- a key and itself, as a clause for every key asks at the key itself
pub same_key-itself : (key : Key) → same_key key key ≡ true
unfolding same_key
same_key-itself key = (eq_by_cmp_equiv key_total).refl key

-- holders that answer alike are equal
pub holders_are : (a b : Holders) → ((q : Key) → holder_of q a ≡ holder_of q b) → a ≡ b
holders_are a b same = same_map key_total key_exact a b same

-- the number that holds a key already
pub taken_again : (holders : Holders) (key : Key) (number : ℕ) → holder_of key holders ≡ Some number → (q : Key)
    → holder_of q holders ≡ cond (same_key q key) (Some number) (holder_of q holders)
taken_again holders key number held =
    by_key key (λ q. holder_of q holders) (Some number) (λ q. holder_of q holders) held (λ q _. refl)

-- ---- once all keys of a number are free

pub unless_other : (n : ℕ) (o : Option ℕ) → o ≢ Some n → unless_held_by n o ≡ o
unless_other n None h = refl
unless_other n (Some m) h =
    (elim (m == n) as (λ b. (m == n) ≡ b → cond b None (Some m) ≡ Some m) [
      | true ↦ λ e. absurd (h (ap Some (is_number m n e)))
      | false ↦ λ _. refl
    ]) refl

pub unless_own : (n : ℕ) (o : Option ℕ) → o ≡ Some n → unless_held_by n o ≡ None
unless_own n o h = ap (unless_held_by n) h ∙ ap (λ b. cond b None (Some n)) (same_number n)

-- the key of its holder is free, once that one released it
pub released-own : (number : ℕ) (key : Key) (old new : Holders) → holder_of key old ≡ Some number
    → ((q : Key) → holder_of q new ≡ cond (same_key q key) None (holder_of q old))
    → (q : Key) → holder_of q new ≡ cond (same_key q key) (unless_held_by number (holder_of q old)) (holder_of q old)
released-own number key old new own freed q =
    freed q
    ∙ (elim (same_key q key) as (λ b. same_key q key ≡ b → cond b None (holder_of q old) ≡ cond b (unless_held_by number (holder_of q old)) (holder_of q old)) [
      | true ↦ λ e. sym (unless_own number (holder_of q old) (ap (λ k. holder_of k old) (same_key-is q key e) ∙ own))
      | false ↦ λ e. refl
    ]) refl

-- one that another holds, or nobody, stays as it is
pub released-other : (number : ℕ) (key : Key) (holders : Holders) → holder_of key holders ≢ Some number
    → (q : Key) → holder_of q holders ≡ cond (same_key q key) (unless_held_by number (holder_of q holders)) (holder_of q holders)
released-other number key holders other q =
    (elim (same_key q key) as (λ b. same_key q key ≡ b → holder_of q holders ≡ cond b (unless_held_by number (holder_of q holders)) (holder_of q holders)) [
      | true ↦ λ e. sym (unless_other number (holder_of q holders) (λ h. other (ap (λ k. holder_of k holders) (sym (same_key-is q key e)) ∙ h)))
      | false ↦ λ e. refl
    ]) refl
