-- A store whose first restart file has its first restart and whose log is empty has no commits and no rows.
use Rattle.std.proofs.Common.{◌≡◌, ℕ, ◌+◌, Bool, true, false, List, [], length, drop, refl, sym, ap, subst, ◌∙◌, inl}
use Rattle.std.proofs.lemmas.List.{take_at}
use Rattle.px_site.specs.declared.name.FileName.{FileName}
use Rattle.px_site.specs.declared.name.FileName.TheVariants.{Rec, Row as RowFile, Xlog}
use Rattle.px_site.specs.Disk.{FileState, IsImage, at_rest}
use Rattle.px_cells.specs.declared.cell.CellKind.{CellKind}
use Rattle.px_cells.specs.declared.cell.CellKind.TheVariants as kind
use Rattle.px_recs.specs.Place.{table_file}
use Rattle.px_site.specs.Names.{same_file}
use Rattle.px_site.proofs.Files.{same_file_is}
use Rattle.px_site.specs.State.{State, Moment}
use Rattle.px_restart.specs.declared.restart.Restart.{Restart}
use Rattle.px_restart.specs.declared.text.TheConstants.{VERSION}
use Rattle.px_restart.specs.Restart.{CanRestart, RestartAt, restart_text}
use Rattle.px_xlog.proofs.AtRest.{image_of_rest}
use Rattle.px_cell_standing.specs.Images.{CanMake}
use Rattle.px_cell_standing.specs.Settled.{HasNothing, Settled}
use Rattle.px_standing.specs.Files.{Files}
use Rattle.px_cell_standing.specs.Standing.{StandsFor}
use Rattle.px_recovery.specs.Making.{first_file, second_file, first_saved, with_restart, IsFree, IsWritten, NewSettles, NewStands}
use Rattle.px_recovery.proofs.Fronts.{is_text}

-- ---- what it stands for

pub new_store : NewStands → (tables short : ℕ) (image : Files) → RestartAt (image first_file) (first_saved tables short) → ((restart : Restart) → RestartAt (image second_file) restart → ⊥) → HasNothing image
    → StandsFor image 0 []
new_store stands tables short image at none nothing = stands image (first_saved tables short) (inl (at, λ restart other. absurd (none restart other))) refl refl nothing

-- ---- what is written is there

pub written_checks : (restart : Restart) (content : List ℕ) → CanRestart restart → RestartAt (with_restart restart content) restart
written_checks restart content can =
    let text = restart_text VERSION restart in
    is_text (with_restart restart content) restart can (take_at text (drop (0 + length text) content) (length text) refl)

-- ---- other files

not_first : (what : CellKind) (table : ℕ) → same_file first_file (table_file what table) ≡ false
not_first kind.Header table = refl
not_first kind.Slot table = refl
not_first kind.Pointer table = refl

module _ (before : State) (free : IsFree before.content) where
  -- a crash leaves them as they are
  pub other_image : CanMake before → (m : Moment) (image : Files) → ((name : FileName) → same_file first_file name ≡ false → m.files name ≡ before.now.files name)
      → ((name : FileName) → IsImage (m.files name) (image name)) → (name : FileName) → same_file first_file name ≡ false → image name ≡ before.content name
  other_image can m image others each name apart =
      image_of_rest (before.content name) (image name) (subst (λ (f : FileState). IsImage f (image name)) (others name apart ∙ can.others name apart) (each name))

  pub no_second : (content : List ℕ) → content ≡ before.content second_file → (restart : Restart) → RestartAt content restart → ⊥
  no_second content is restart at = free.no_restart.second restart (subst (λ (b : List ℕ). RestartAt b restart) is at)

  empty_table : (what : CellKind) (table : ℕ) → before.content (table_file what table) ≡ []
  empty_table kind.Header table = free.others (Rec table) refl refl
  empty_table kind.Slot table = free.others (Rec table) refl refl
  empty_table kind.Pointer table = free.others (RowFile table) refl refl

  -- and so they have nothing
  pub has_nothing : (files : Files) → ((name : FileName) → same_file first_file name ≡ false → files name ≡ before.content name) → HasNothing files
  has_nothing files same = record {
    frames = λ segment. same (Xlog segment) refl ∙ free.others (Xlog segment) refl refl;
    cells = λ what table. same (table_file what table) (not_first what table) ∙ empty_table what table;
  }

-- ---- when it is made

module _ (tables short : ℕ) (before now : State) (can : CanMake before) (free : IsFree before.content) (bounds : CanRestart (first_saved tables short)) (made : IsWritten (first_saved tables short) before now) where
  bytes : List ℕ
  bytes = with_restart (first_saved tables short) (before.content first_file)

  has_first : RestartAt (now.content first_file) (first_saved tables short)
  unfolding bytes
  has_first = subst (λ (b : List ℕ). RestartAt b (first_saved tables short)) (sym made.content) (written_checks (first_saved tables short) (before.content first_file) bounds)

  has_no_second : (restart : Restart) → RestartAt (now.content second_file) restart → ⊥
  has_no_second = no_second before free (now.content second_file) (made.others_content second_file refl)

  nothing : HasNothing now.content
  nothing = has_nothing before free now.content made.others_content

  rests : (name : FileName) → now.now.files name ≡ at_rest (now.content name)
  rests name = by_name (same_file first_file name) refl
    where
      by_name : (b : Bool) → same_file first_file name ≡ b → now.now.files name ≡ at_rest (now.content name)
      by_name true same =
          subst (λ (n : FileName). now.now.files n ≡ at_rest (now.content n)) (same_file_is first_file name same) (made.this ∙ ap at_rest (sym made.content))
      by_name false apart = made.others name apart ∙ can.others name apart ∙ ap at_rest (sym (made.others_content name apart))

  pub made_settled : NewSettles → Settled now 0 []
  made_settled settles =
      settles now (first_saved tables short) (inl (has_first, λ restart other. absurd (has_no_second restart other))) refl refl refl nothing (record { content = refl; rests = rests })
