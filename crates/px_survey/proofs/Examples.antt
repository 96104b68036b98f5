-- The flaws of cells that were written by hand.
use Rattle.std.proofs.Common.{◌≡◌, [], ◌∷◌, refl, arith, inl, inr, lit≤}
use Rattle.std.proofs.lemmas.List.Elements.{All-nil, All-cons}
use Rattle.px_chain.specs.Sound.{IsVariation, next_slot}
use Rattle.px_chain.proofs.Walks.{contains_first, contains_none}
use Rattle.px_survey.specs.Flaws.{IsOnFreeSlots, IsFlawedHeader, IsFlawedPointer, IsUnmet}
use Rattle.px_survey.specs.Examples.{circle, lost_slot, stray_slot, twins}
use Rattle.px_survey.proofs.Walked.{meets_in}

pub flaw_of_circle : IsFlawedHeader circle
flaw_of_circle = inl (record {
  place = 1;
  met = record {
    before = 1 ∷ [];
    on = All-cons (IsOnFreeSlots circle) 1 [] ((lit≤ tt, lit≤ tt), refl) (All-nil (IsOnFreeSlots circle));
    walk = (refl, refl);
    some = λ none. absurd (omega (arith, none));
  };
  wrong = inr (contains_first 1 []);
})

pub flaw_of_lost_slot : IsUnmet lost_slot 1
flaw_of_lost_slot = record {
  place = (lit≤ tt, lit≤ tt);
  free = λ met. contains_none 1 (meets_in (IsOnFreeSlots lost_slot) (next_slot lost_slot) 0 []
      (record { some = λ p on. on.0.0; walk = refl; on = All-nil (IsOnFreeSlots lost_slot) }) 1 met);
  chains = λ row used met. absurd (omega (arith, used.0.0, used.0.1));
}

pub flaw_of_stray_slot : IsFlawedPointer stray_slot 1
flaw_of_stray_slot = inr (
  ((lit≤ tt, lit≤ tt), refl),
  inr (inl (record {
    place = 1;
    met = record { before = []; on = All-nil (IsVariation stray_slot 1); walk = refl; some = λ none. absurd (omega (arith, none)) };
    wrong = inl (λ v. let same : 2 ≡ 1 = v.its_row in absurd (omega (arith, same)));
  })),
)

pub flaw_of_twins : IsFlawedPointer twins 2
flaw_of_twins = inr (
  ((lit≤ tt, lit≤ tt), refl),
  inr (inr (inr (record {
    other = 1;
    earlier = omega arith;
    used = ((lit≤ tt, lit≤ tt), refl);
    same = refl;
  }))),
)
