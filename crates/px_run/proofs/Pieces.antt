-- What telling a piece does, and that it does nothing else.
use Rattle.std.proofs.Common.{◌≡◌, ℕ, suc, List, [], ◌∷◌, ◌++◌, take, Result, Ok, Err, refl, sym, ap, ◌∙◌, append_assoc}
use Rattle.std.proofs.lemmas.List.{append-nil}
use Rattle.px_site.specs.State.{State, Moment, EachMoment, history, spoke, telling, told}
use Rattle.px_site.proofs.Moments.{same_moment, then_moments, weaker_moments}
use Rattle.px_calls.specs.declared.status.Status.{Status}
use Rattle.px_calls.specs.declared.status.Status.TheVariants.{OutputFault, OutOfMemory}
use Rattle.px_play.specs.Told.{IsTold, joined, last_piece}
use Rattle.px_run.specs.Working.{TellsPiece}
use Rattle.px_run.specs.Told.{OnlyTells}

-- ---- the moments of a `tell`

pub spoke_moments : {P : Moment → Type 0} {a b : State} (piece out : List ℕ) → b ≡ spoke piece out a → P (telling piece a.now) → P (told out a.now) → EachMoment P a b
spoke_moments {P} {a} {b} piece out e within after = record { added = told out a.now ∷ telling piece a.now ∷ []; grown = ap history e; each = (after, (within, tt)) }

-- by what it answered: all of the piece went out, a front of it, or nothing was done
pub piece_moments : {P : Moment → Type 0} {a b : State} (piece : List ℕ) (r : Result (Unit {0}) Status) → TellsPiece piece a b r → P (telling piece a.now) → P (told piece a.now) → ((n : ℕ) → P (told (take n piece) a.now))
    → EachMoment P a b
piece_moments piece (Ok done) tells within whole part = spoke_moments piece piece tells within whole
piece_moments piece (Err OutputFault) tells within whole part = spoke_moments piece (take tells.0 piece) tells.1 within (part tells.0)
piece_moments piece (Err OutOfMemory) tells within whole part = same_moment tells
piece_moments piece (Err _) tells within whole part = absurd tells

-- ---- nothing but telling

pub only_nothing : {a b : State} → b ≡ a → OnlyTells a b
only_nothing {a} {b} e = record { content = ap (λ (s : State). s.content) e; files = ap (λ (s : State). s.now.files) e; moments = same_moment e }

pub only_spoke : {a b : State} (piece out : List ℕ) → b ≡ spoke piece out a → OnlyTells a b
only_spoke {a} {b} piece out e = record {
  content = ap (λ (s : State). s.content) e;
  files = ap (λ (s : State). s.now.files) e;
  moments = spoke_moments piece out e (record { same = refl }) (record { same = refl });
}

pub only_piece : {a b : State} (piece : List ℕ) (r : Result (Unit {0}) Status) → TellsPiece piece a b r → OnlyTells a b
only_piece piece (Ok done) tells = only_spoke piece piece tells
only_piece piece (Err OutputFault) tells = only_spoke piece (take tells.0 piece) tells.1
only_piece piece (Err OutOfMemory) tells = only_nothing tells
only_piece piece (Err _) tells = absurd tells

pub then_only : {a b c : State} → OnlyTells a b → OnlyTells b c → OnlyTells a c
then_only {a} {b} {c} p q = record {
  content = q.content ∙ p.content;
  files = q.files ∙ p.files;
  moments = then_moments p.moments (weaker_moments (λ m has. record { same = has.same ∙ p.files }) q.moments);
}

-- ---- how many pieces were told

-- nothing
pub told_nothing : (pieces : List (List ℕ)) (status : Status) {a b : State} → b.now.told ≡ a.now.told → IsTold pieces 0 status a b
told_nothing pieces status {a} {b} same = record { front = 0; text = same ∙ sym (append-nil (a.now.told ++ []) ∙ append-nil a.now.told) }

later_piece : (first : List ℕ) (pieces : List (List ℕ)) (whole : ℕ) (status : Status) → last_piece (first ∷ pieces) (suc whole) status ≡ last_piece pieces whole status
later_piece first pieces whole OutputFault = refl
later_piece first pieces whole _ = refl

-- one piece, and then others behind it
pub told_behind : (first : List ℕ) (pieces : List (List ℕ)) (whole : ℕ) (status : Status) (a b c : State) → b.now.told ≡ a.now.told ++ first → IsTold pieces whole status b c → IsTold (first ∷ pieces) (suc whole) status a c
told_behind first pieces whole status a b c one others =
    let whole_ones : List ℕ = joined (take whole pieces) in
    let last : List ℕ = take others.front (last_piece pieces whole status) in
    record {
      front = others.front;
      text = others.text ∙ ap (λ (l : List ℕ). l ++ whole_ones ++ last) one ∙ ap (λ (l : List ℕ). l ++ last) (append_assoc a.now.told first whole_ones)
          ∙ ap (λ (l : List ℕ). a.now.told ++ (first ++ whole_ones) ++ take others.front l) (sym (later_piece first pieces whole status));
    }

-- where nothing was told before
pub told_from : (pieces : List (List ℕ)) (whole : ℕ) (status : Status) (a b c : State) → b.now.told ≡ a.now.told → IsTold pieces whole status b c → IsTold pieces whole status a c
told_from pieces whole status a b c same told = record {
  front = told.front;
  text = told.text ∙ ap (λ (l : List ℕ). l ++ joined (take whole pieces) ++ take told.front (last_piece pieces whole status)) same;
}
