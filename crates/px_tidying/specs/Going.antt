-- Versions that go one after the other.
use Rattle.std.specs.Prelude.{◌≡◌, ℕ, ◌<◌, List, [], ◌∷◌}
use Rattle.px_chain.specs.Places.{IsRun}
use Rattle.px_chain.specs.Sound.{IsUsedRow}
use Rattle.px_history.specs.Steps.{MayUnlink, after_unlink}
use Rattle.px_history.specs.Store.{Store}
use Rattle.px_shown.specs.Shown.{Done}
use Rattle.px_tidy.specs.Unneeded.{unneeded_at}
use Rattle.px_tidy.specs.declared.tidying.Unneeded.{Unneeded}

-- the version stands at this place of its row's chain, and the store shows the same without it
pub record MayGo (store : Store) (t row place : ℕ) (version : Unneeded) : Type 0 where
  pub unlink : MayUnlink store t row place 1
  pub run : IsRun ((store.layouts t).chain row) place version.newer version.slot 1

-- the versions at these places of a chain may go, each once those before it went
abbrev pub MayGoInTurn : Store → (t row : ℕ) → (chain places : List ℕ) → Type 0
MayGoInTurn store t row chain [] = Unit {0}
MayGoInTurn store t row chain (place ∷ places) =
    MayGo store t row place (unneeded_at chain place) × MayGoInTurn (after_unlink store t row place 1) t row chain places

-- each place is in front of the one before it, and the first below this one
abbrev pub Descend : (below : ℕ) → List ℕ → Type 0
Descend below [] = Unit {0}
Descend below (place ∷ places) = (place < below) × Descend place places

-- ---- which stores are tidied

-- these transactions are done
abbrev pub IsDoneBy : Done → Store → Type 0
IsDoneBy done store = store.done ≡ done

-- and this row is used
abbrev pub HasRow : Done → (t row : ℕ) → Store → Type 0
HasRow done t row store = IsDoneBy done store × IsUsedRow (store.tables t) row
