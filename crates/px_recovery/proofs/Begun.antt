-- An opening moment by moment: the restart is read, the restart files are synced, the cells are opened, and the rows are counted.
use Rattle.std.proofs.Common.{◌≡◌, ℕ, List, sym, ap, subst, ◌∙◌}
use Rattle.px_model.specs.declared.row.Row.{Row}
use Rattle.px_restart.specs.Restart.{IsPicked}
use Rattle.px_restart.specs.declared.restart.Restart.{Restart}
use Rattle.px_site.specs.State.{EachMoment, Moment, State}
use Rattle.px_standing.specs.Files.{Files, first_restart, second_restart}
use Rattle.px_standing.specs.Resting.{RestartsRest}
use Rattle.px_xlog.specs.Contents.{the_log}
use Rattle.px_cell_opening.specs.Opened.{MayOpen, OpensAs}
use Rattle.px_cell_opening.specs.declared.opening.Cells.{Cells}
use Rattle.px_cell_standing.specs.Found.{Found, IsFound, IsFoundOn}
use Rattle.px_cell_standing.specs.Images.{KeepsStanding}
use Rattle.px_cell_standing.specs.Settled.{IsAlone, Settled}
use Rattle.px_recovery.proofs.Quiet.{standing_from, standing_then}

-- ---- what is used of the law below

abbrev pub SettledMayOpen : Type 0
SettledMayOpen = (s : State) (commits : ℕ) (rows : List Row) (restart : Restart) → Settled s commits rows → RestartsRest s.now s.content
    → IsPicked (first_restart s.content) (second_restart s.content) restart → MayOpen restart commits rows s

abbrev pub FoundMayOpen : Type 0
FoundMayOpen = (s : State) (found : Found) (restart : Restart) → IsFoundOn found s → RestartsRest s.now s.content
    → IsPicked (first_restart s.content) (second_restart s.content) restart → MayOpen restart found.commits found.rows s

-- the restart that counts was read, and the restart files are synced
pub record IsBegun (restart : Restart) (a b c : State) : Type 0 where
  pub picked : IsPicked (first_restart a.content) (second_restart a.content) restart
  pub same : b ≡ a
  pub content : c.content ≡ b.content
  pub rests : RestartsRest c.now c.content

module _ (restart : Restart) (a b c : State) (begun : IsBegun restart a b c) where
  pub content_is : c.content ≡ a.content
  content_is = begun.content ∙ ap (λ (s : State). s.content) begun.same

  picked_there : IsPicked (first_restart c.content) (second_restart c.content) restart
  picked_there = subst (λ (files : Files). IsPicked (first_restart files) (second_restart files) restart) (sym content_is) begun.picked

  -- ---- a settled site

  settled_read : (commits : ℕ) (rows : List Row) → Settled a commits rows → Settled b commits rows
  settled_read commits rows settled = subst (λ (s : State). Settled s commits rows) (sym begun.same) settled

  pub opening_stands : SettledMayOpen → (d : State) (commits : ℕ) (rows : List Row)
      → (Settled b commits rows → EachMoment (KeepsStanding commits rows b.now) b c) → (Settled b commits rows → Settled c commits rows)
      → (MayOpen restart commits rows c → Settled c commits rows → EachMoment (KeepsStanding commits rows c.now) c d)
      → Settled a commits rows → EachMoment (KeepsStanding commits rows a.now) a d
  opening_stands may d commits rows one settles two settled =
      let there : Settled c commits rows = settles (settled_read commits rows settled) in
      standing_from begun.same (standing_then (one (settled_read commits rows settled)) (two (may c commits rows restart there begun.rests picked_there) there))

  -- ---- a site on which something is found

  pub found_may_open : FoundMayOpen → (IsAlone b → IsAlone c) → (found : Found) → IsFoundOn found a → MayOpen restart found.commits found.rows c
  found_may_open may alone found on =
      may c found restart
      (record {
        is_found = subst (IsFound found) (sym content_is) on.is_found;
        alone = alone (subst IsAlone (sym begun.same) on.alone);
      })
      begun.rests picked_there

  pub opens_first : (cells : Cells) (d : State) → OpensAs restart (c.content the_log) cells d → OpensAs restart (a.content the_log) cells d
  opens_first cells d opens = subst (λ (files : Files). OpensAs restart (files the_log) cells d) content_is opens

-- ---- then only reads follow

pub then_reads : (P : Moment → Type 0) (a d e : State) → e ≡ d → EachMoment P a d → EachMoment P a e
then_reads P a d e same moments = subst (λ (s : State). EachMoment P a s) (sym same) moments
