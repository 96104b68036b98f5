-- Whatever a crash leaves at a moment at which a life lasts stands for what its machine has published.
use Rattle.std.proofs.Common.{◌≡◌, ℕ, List, Option, Some, None, refl, sym, subst, ◌∙◌}
use Rattle.std.proofs.lemmas.Bool.{false≢true}
use Rattle.std.specs.Prelude.{IsSome, IsSomeAnd, unwrap_or}
use Rattle.px_appending.specs.Appending.{LastsWithin}
use Rattle.px_cells.specs.declared.cell.CellKind.TheVariants as kind
use Rattle.px_filed.proofs.Lying.{files_lie}
use Rattle.px_history.proofs.Agreeing.{one_layout}
use Rattle.px_history.specs.Store.{Store}
use Rattle.px_laid.specs.Places.{Places}
use Rattle.px_life.specs.Extends.{Extends}
use Rattle.px_model.specs.Machine.{Machine, commits}
use Rattle.px_opened.proofs.Kept.{steps_held}
use Rattle.px_opened.specs.Kept.{HoldsStore}
use Rattle.px_opened.specs.Opened.{Opens}
use Rattle.px_reached.proofs.Standing.{reachable_stands}
use Rattle.px_recs.specs.Text.{HeaderAt, PointerAt, SlotAt}
use Rattle.px_restart.specs.declared.restart.Restart.{Restart}
use Rattle.px_shown.proofs.Showing.{alike_shown}
use Rattle.px_shown.specs.Parts.{no_parts}
use Rattle.px_site.proofs.Moments.{then_moments, weaker_moments}
use Rattle.px_site.specs.State.{EachMoment, Moment, State}
use Rattle.px_standing.specs.Images.{IsPlainImage, LeavesOthers}
use Rattle.px_log.proofs.Touching.{last_moment}
use Rattle.px_working.proofs.Moments.{crash_leaves}
use Rattle.px_cell_standing.specs.Images.{StandsBetween}

there_too : (P : List ℕ → Type 0) (o p : Option (List ℕ)) (other : List ℕ) → IsSome o → ((bytes : List ℕ) → o ≡ Some bytes → p ≡ Some bytes)
    → P (unwrap_or o other) → IsSomeAnd p P
there_too P None p other some same holds = absurd (false≢true some)
there_too P (Some bytes) p other some same holds = subst (λ (q : Option (List ℕ)). IsSomeAnd q P) (sym (same bytes refl)) holds

pub more_opens : (short tables : ℕ) (store : Store) (below above : Places) → HoldsStore short tables store below → Extends below above
    → Opens short tables above store.tables store.layouts
more_opens short tables store below above holds extends = record {
  each = λ t is.
      let table = holds.each t is in
      record {
        read = record {
          header = subst (λ (bytes : List ℕ). HeaderAt bytes (store.tables t).header) (sym (extends.headers t)) table.says.header;
          pointers = λ n place. there_too (λ bytes. PointerAt bytes ((store.tables t).pointer n)) (below kind.Pointer t n) (above kind.Pointer t n) _
              (table.counts.pointers n place.0 place.1) (extends.laid kind.Pointer t n) (table.says.pointer n);
          slots = λ n place. there_too (λ bytes. SlotAt short bytes ((store.tables t).slot n)) (below kind.Slot t n) (above kind.Slot t n) _
              (table.counts.slots n place.0 place.1) (extends.laid kind.Slot t n) (table.says.slot n);
        };
        sound = table.sound;
      };
  others = holds.others;
}

pub lasts_stands : (least : ℕ) (m : Machine) (restart : Restart) (before now : Moment) → LastsWithin no_parts least m restart before now
    → StandsBetween least (commits m) m before now
lasts_stands least m restart before now within = record {
  each = λ image plain. crash_leaves
      (reachable_stands (steps_held one_layout) alike_shown more_opens files_lie IsPlainImage (λ m image plain. plain.each))
      no_parts least m within.still.life restart within.still.marks now image within.still.lasts plain;
  told = within.still.told;
  telling = within.still.telling;
}

-- ---- at each moment of a call

pub each_stands : (least : ℕ) (m : Machine) (restart : Restart) (old new : State) → EachMoment (LastsWithin no_parts least m restart old.now) old new
    → EachMoment (StandsBetween least (commits m) m old.now) old new
each_stands least m restart old new moments = weaker_moments (λ now within. lasts_stands least m restart old.now now within) moments

-- and of another one behind it
pub stands_then : (least most : ℕ) (m : Machine) (a b c : State) → EachMoment (StandsBetween least most m a.now) a b
    → EachMoment (StandsBetween least most m b.now) b c → EachMoment (StandsBetween least most m a.now) a c
stands_then least most m a b c first second =
    let told : b.now.told ≡ a.now.told = last_moment (λ now. now.told ≡ a.now.told) refl (weaker_moments (λ now stands. stands.told) first) in
    then_moments first (weaker_moments (λ now stands. record { each = stands.each; told = stands.told ∙ told; telling = stands.telling }) second)

pub others_then : (a b c : State) → EachMoment (LeavesOthers a.now) a b → EachMoment (LeavesOthers b.now) b c → EachMoment (LeavesOthers a.now) a c
others_then a b c first second =
    let same : LeavesOthers a.now b.now = last_moment (LeavesOthers a.now) (λ name away. refl) first in
    then_moments first (weaker_moments (λ now others name away. others name away ∙ same name away) second)
