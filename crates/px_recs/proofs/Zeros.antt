-- Fields that are zero past the end of what they hold.
use Rattle.std.proofs.Common.{◌≡◌, ℕ, suc, ◌+◌, ◌-◌, ◌≤◌, ◌==◌, List, [], ◌∷◌, ◌++◌, length, replicate, take, drop, refl, sym, ap, subst, ◌∙◌, ◌↔◌, arith}
use Rattle.std.specs.List.{AllPass}
use Rattle.std.proofs.lemmas.List.{length-append, length-replicate, take_at, drop_at, take-append-drop, get_or-replicate}
use Rattle.std.proofs.lemmas.Bool.{eqb-true}
use Rattle.px_recs.specs.Text.{padded}

pass-zeros : (bytes : List ℕ) → AllPass (λ byte. byte == 0) bytes → bytes ≡ replicate (length bytes) 0
pass-zeros [] pass = refl
pass-zeros (byte ∷ bytes) pass =
    let first : byte ≡ 0 = eqb-true byte 0 (pass 0 0 (omega arith)) in
    let rest : bytes ≡ replicate (length bytes) 0 = pass-zeros bytes (λ k d lt. pass (suc k) d (omega (arith, lt))) in
    cc

zeros-pass : (count : ℕ) → AllPass (λ byte. byte == 0) (replicate count 0)
zeros-pass count = λ k d lt. ap (λ (b : ℕ). b == 0) (get_or-replicate count k 0 d (omega (arith, lt, length-replicate {A = ℕ} count 0)))

pub zeros : (bytes : List ℕ) → AllPass (λ byte. byte == 0) bytes ↔ (bytes ≡ replicate (length bytes) 0)
zeros bytes = (pass-zeros bytes, λ e. subst (λ (b : List ℕ). AllPass (λ byte. byte == 0) b) (sym e) (zeros-pass (length bytes)))

-- a field is at least as long as what it holds
length-field : (size : ℕ) (bytes : List ℕ) → length (padded size bytes) ≡ length bytes + (size - length bytes)
unfolding padded
length-field size bytes = omega (arith, length-append bytes (replicate (size - length bytes) 0), length-replicate {A = ℕ} (size - length bytes) 0)

pub length-padded : (size : ℕ) (bytes : List ℕ) → length bytes ≤ size → length (padded size bytes) ≡ size
length-padded size bytes fits = omega (arith, length-field size bytes)

pub field_long : (field bytes : List ℕ) → field ≡ padded (length field) bytes → length bytes ≤ length field
field_long field bytes e = omega (arith, ap length e, length-field (length field) bytes)

-- bytes of one length are told by their field
pub one_padded : (size : ℕ) (a b : List ℕ) → length a ≡ length b → padded size a ≡ padded size b → a ≡ b
unfolding padded
one_padded size a b same e =
    sym (take_at a _ (length a) refl) ∙ ap (λ (x : List ℕ). take (length a) x) e ∙ take_at b _ (length a) (sym same)

-- a field in two parts, the second of them zero
pub padded-zeros : (field front back : List ℕ) → field ≡ front ++ back → back ≡ replicate (length back) 0 → field ≡ padded (length field) front
unfolding padded
padded-zeros field front back parts zero =
    let left : length back ≡ length field - length front = omega (arith, ap length parts, length-append front back) in
    parts ∙ ap (λ (x : List ℕ). front ++ x) (zero ∙ ap (λ (n : ℕ). replicate n 0) left)

-- a padded field in two parts, the first as long as what it holds
pub zeros-padded : (field front back bytes : List ℕ) → field ≡ front ++ back → length bytes ≡ length front → field ≡ padded (length field) bytes → back ≡ replicate (length back) 0
unfolding padded
zeros-padded field front back bytes parts same e =
    let left : length field - length bytes ≡ length back = omega (arith, ap length parts, length-append front back) in
    sym (drop_at front back (length front) refl)
    ∙ ap (λ (x : List ℕ). drop (length front) x) (sym parts ∙ e)
    ∙ drop_at bytes (replicate (length field - length bytes) 0) (length front) same
    ∙ ap (λ (n : ℕ). replicate n 0) left

pub split : (field front back : List ℕ) (mid : ℕ) → front ≡ take mid field → back ≡ drop mid field → field ≡ front ++ back
split field front back mid is_front is_back =
    sym (ap (λ (x : List ℕ). x ++ back) is_front ∙ ap (λ (x : List ℕ). take mid field ++ x) is_back ∙ take-append-drop mid field)
