-- What is told: pieces in order, the last of which may be cut off by a fault.
use Rattle.std.specs.Prelude.{◌≡◌, ℕ, List, [], ◌++◌, take, flat_map, slice_index_or}
use Rattle.px_site.specs.State.{State}
use Rattle.px_site.specs.declared.error.SiteError.{SiteError}
use Rattle.px_site.specs.declared.error.SiteError.TheVariants.{OutOfMemory as SiteShort, Fault as SiteFault}
use Rattle.px_calls.specs.declared.status.Status.{Status}
use Rattle.px_calls.specs.declared.status.Status.TheVariants.{OutputFault, OutOfMemory}

abbrev pub joined : List (List ℕ) → List ℕ
joined pieces = flat_map (λ piece. piece) pieces

-- what was being told at an output's fault: the next piece
abbrev pub last_piece : List (List ℕ) → ℕ → Status → List ℕ
last_piece pieces whole OutputFault = slice_index_or pieces whole []
last_piece pieces whole status = []

-- so many pieces were told whole, and at an output's fault a front of the next one
pub record IsTold (pieces : List (List ℕ)) (whole : ℕ) (status : Status) (old new : State) : Type 0 where
  pub front : ℕ
  pub text : new.now.told ≡ old.now.told ++ joined (take whole pieces) ++ take front (last_piece pieces whole status)

-- the status by which an error of `tell` ends a run: a fault of it is the output's
abbrev pub status_of_tell : SiteError → Status
status_of_tell SiteShort = OutOfMemory
status_of_tell (SiteFault fault) = OutputFault
