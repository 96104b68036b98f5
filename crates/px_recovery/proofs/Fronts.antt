-- A restart file checks exactly where its front is a restart's text, so its first bytes tell all.
use Rattle.std.proofs.Common.{◌≡◌, ℕ, min, List, ◌++◌, length, take, drop, Option, Some, None, IfSome, IfNone, refl, sym, ap, subst, ◌∙◌, inl, inr, arith}
use Rattle.std.proofs.lemmas.List.{take_at, take_all, take_min, take-append-drop, length-take}
use Rattle.px_site.specs.declared.name.FileName.{FileName}
use Rattle.px_site.specs.State.{State, Reads}
use Rattle.px_restart.specs.declared.restart.Restart.{Restart}
use Rattle.px_restart.specs.declared.restart.TheConstants.{RESTART_SIZE}
use Rattle.px_restart.specs.declared.text.TheConstants.{VERSION}
use Rattle.px_restart.specs.Restart.{CanRestart, RestartAt, IsPicked, restart_text}
use Rattle.px_restart.proofs.Restarts.{length-text}
use Rattle.px_xlog.specs.Written.{HasAt}
use Rattle.px_standing.specs.Files.{Files, HasNoRestart, first_restart, second_restart}

pub has_text : (content : List ℕ) (restart : Restart) → RestartAt content restart → HasAt content 0 (restart_text VERSION restart)
has_text content restart at =
    let text = restart_text VERSION restart in
    ap (λ (b : List ℕ). take (length text) b) at.front ∙ take_at text (drop RESTART_SIZE content) (length text) refl

pub is_text : (content : List ℕ) (restart : Restart) → CanRestart restart → HasAt content 0 (restart_text VERSION restart) → RestartAt content restart
is_text content restart can has =
    let text = restart_text VERSION restart in
    record {
      can = can;
      front =
          sym (take-append-drop (length text) content)
          ∙ ap (λ (b : List ℕ). b ++ drop (length text) content) has
          ∙ ap (λ (n : ℕ). text ++ drop n content) (length-text VERSION restart);
    }

-- ---- the front that is read

take_twice : (content : List ℕ) (n : ℕ) → take n (take n content) ≡ take n content
take_twice content n = take_all n (take n content) (omega (arith, length-take n content))

front_has : (content : List ℕ) (restart : Restart) → take (length (restart_text VERSION restart)) (take RESTART_SIZE content) ≡ take (length (restart_text VERSION restart)) content
front_has content restart =
    let size : length (restart_text VERSION restart) ≡ RESTART_SIZE = length-text VERSION restart in
    ap (λ (n : ℕ). take n (take RESTART_SIZE content)) size ∙ take_twice content RESTART_SIZE ∙ ap (λ (n : ℕ). take n content) (sym size)

front_checks : (content : List ℕ) (restart : Restart) → RestartAt content restart → RestartAt (take RESTART_SIZE content) restart
front_checks content restart at = is_text (take RESTART_SIZE content) restart at.can (front_has content restart ∙ has_text content restart at)

checks_front : (content : List ℕ) (restart : Restart) → RestartAt (take RESTART_SIZE content) restart → RestartAt content restart
checks_front content restart at = is_text content restart at.can (sym (front_has content restart) ∙ has_text (take RESTART_SIZE content) restart at)

-- as many bytes as a restart file has were asked for
pub read_front : (content buf : List ℕ) (n : ℕ) → length buf ≡ RESTART_SIZE → Reads content 0 buf n → take n buf ≡ take RESTART_SIZE content
read_front content buf n size reads =
    let count : n ≡ min RESTART_SIZE (length content) = reads.count ∙ ap (λ (k : ℕ). min k (length content)) size in
    reads.bytes ∙ ap (λ (k : ℕ). take k content) count ∙ take_min RESTART_SIZE content

-- as they read after another call that only reads
pub read_front_later : (before now : State) (file : FileName) (buf : List ℕ) (n : ℕ) → length buf ≡ RESTART_SIZE → now ≡ before → Reads (now.content file) 0 buf n → take n buf ≡ take RESTART_SIZE (before.content file)
read_front_later before now file buf n size same reads = read_front (now.content file) buf n size reads ∙ ap (λ (s : State). take RESTART_SIZE (s.content file)) same

module _ (a b x y : List ℕ) (first : x ≡ take RESTART_SIZE a) (second : y ≡ take RESTART_SIZE b) where
  pub picked_fronts : (restart : Restart) → IsPicked x y restart → IsPicked a b restart
  picked_fronts restart picked = elim (subst (λ (s : List ℕ). IsPicked (take RESTART_SIZE a) s restart) second (subst (λ (s : List ℕ). IsPicked s y restart) first picked)) as (λ _. IsPicked a b restart) [
    | inl one ↦ inl (checks_front a restart one.0, λ s at. one.1 s (front_checks b s at))
    | inr two ↦ inr (checks_front b restart two.0, λ s at. two.1 s (front_checks a s at))
  ]

pub none_in_front : (content front : List ℕ) → front ≡ take RESTART_SIZE content → ((restart : Restart) → RestartAt front restart → ⊥) → (restart : Restart) → RestartAt content restart → ⊥
none_in_front content front is none restart at = none restart (subst (λ (s : List ℕ). RestartAt s restart) (sym is) (front_checks content restart at))

module _ (files : Files) (x y : List ℕ) (first : x ≡ take RESTART_SIZE (first_restart files)) (second : y ≡ take RESTART_SIZE (second_restart files)) where
  pub picked_found : (found : Option Restart) → IfSome found (IsPicked x y) → IfSome found (IsPicked (first_restart files) (second_restart files))
  picked_found (Some restart) picked = picked_fronts (first_restart files) (second_restart files) x y first second restart picked
  picked_found None picked = tt

  pub picked_none : (found : Option Restart) → IfNone found ((restart : Restart) → RestartAt x restart → ⊥) → IfNone found ((restart : Restart) → RestartAt y restart → ⊥) → IfNone found (HasNoRestart files)
  picked_none (Some restart) in_x in_y = tt
  picked_none None in_x in_y = record { first = none_in_front (first_restart files) x first in_x; second = none_in_front (second_restart files) y second in_y }
