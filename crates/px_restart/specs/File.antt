-- The steps in which a restart file is read: its fields, and whether they check.
use Rattle.std.specs.Prelude.{◌≡◌, ℕ, ◌^◌, ◌<◌, ◌≤◌, List, ◌++◌, length, take, drop}
use Rattle.std.specs.Int.{w32, to_be_bytes}
use Rattle.px_bytes.specs.Sum.{fnv_of}
use Rattle.px_restart.specs.declared.restart.Restart.{Restart}
use Rattle.px_restart.specs.declared.restart.TheConstants.{RESTART_SIZE}
use Rattle.px_restart.specs.declared.text.TheConstants.{MAGIC, VERSION, SUMMED_SIZE}
use Rattle.px_restart.specs.declared.file.File.{File}
use Rattle.px_restart.specs.Restart.{fields_text, FieldsFit, CanRestart}

-- magic, version, fields and sum, and what follows
unfoldable pub file_text : ℕ → ℕ → Restart → ℕ → List ℕ → List ℕ
file_text magic version r sum rest = to_be_bytes w32 magic ++ (to_be_bytes w32 version ++ (fields_text r ++ (to_be_bytes w32 sum ++ rest)))

-- the bytes begin with these fields
pub record IsFile (bytes : List ℕ) (file : File) : Type 0 where
  pub there : RESTART_SIZE ≤ length bytes
  pub front : bytes ≡ file_text file.magic file.version file.restart file.sum (drop RESTART_SIZE bytes)
  pub magic_fits : file.magic < 2 ^ 32
  pub version_fits : file.version < 2 ^ 32
  pub fields_fit : FieldsFit file.restart
  pub sum_fits : file.sum < 2 ^ 32

-- bytes that begin with these fields are a restart file
pub record Checks (bytes : List ℕ) (file : File) : Type 0 where
  pub marked : file.magic ≡ MAGIC
  pub known : file.version ≡ VERSION
  pub can : CanRestart file.restart
  pub right : file.sum ≡ fnv_of (take SUMMED_SIZE bytes)
