-- The fields of a file check exactly where it is a restart file.
use Rattle.std.proofs.Common.{◌≡◌, ℕ, ◌+◌, ◌≤◌, List, length, take, drop, refl, sym, ap, subst, ◌∙◌, arith}
use Rattle.px_bytes.specs.Sum.{fnv_of}
use Rattle.px_bytes.proofs.Numbers.{one_u32, fnv_of_fits}
use Rattle.px_restart.specs.declared.restart.Restart.{Restart}
use Rattle.px_restart.specs.declared.restart.TheConstants.{RESTART_SIZE}
use Rattle.px_restart.specs.declared.text.TheConstants.{MAGIC, VERSION, SUMMED_SIZE}
use Rattle.px_restart.specs.declared.file.File.{File}
use Rattle.px_restart.specs.Restart.{fields_text, summed, CanRestart, RestartAt}
use Rattle.px_restart.specs.File.{file_text, IsFile, Checks}
use Rattle.px_restart.proofs.Restarts.{text-file, can_fit, one_fields, spelled}

length-file : (magic version : ℕ) (r : Restart) (sum : ℕ) (rest : List ℕ) → length (file_text magic version r sum rest) ≡ RESTART_SIZE + length rest
unfolding file_text fields_text
length-file magic version r sum rest = omega arith

pub file_long : (bytes : List ℕ) (magic version : ℕ) (r : Restart) (sum : ℕ) (rest : List ℕ) → bytes ≡ file_text magic version r sum rest → RESTART_SIZE ≤ length bytes
file_long bytes magic version r sum rest e = omega (arith, ap length e, length-file magic version r sum rest)

-- bytes that were taken apart to the sum
pub whole-file : (bytes : List ℕ) (magic version : ℕ) (r : Restart) (sum : ℕ) (rest : List ℕ) → bytes ≡ file_text magic version r sum rest → bytes ≡ file_text magic version r sum (drop RESTART_SIZE bytes)
unfolding file_text fields_text
whole-file bytes magic version r sum rest e =
    let behind : drop RESTART_SIZE bytes ≡ rest = ap (λ (b : List ℕ). drop RESTART_SIZE b) e in
    e ∙ ap (λ (b : List ℕ). file_text magic version r sum b) (sym behind)

-- what the sum is taken of, in a file with this magic and version
take-file : (magic version : ℕ) (r : Restart) (sum : ℕ) (rest : List ℕ) → magic ≡ MAGIC → version ≡ VERSION → take SUMMED_SIZE (file_text magic version r sum rest) ≡ summed VERSION r
unfolding file_text fields_text
take-file magic version r sum rest marked known =
    ap (λ (n : ℕ). take SUMMED_SIZE (file_text n version r sum rest)) marked ∙ ap (λ (n : ℕ). take SUMMED_SIZE (file_text MAGIC n r sum rest)) known

pub checks_restart : (bytes : List ℕ) (file : File) → IsFile bytes file → Checks bytes file → RestartAt bytes file.restart
checks_restart bytes file is_file checks =
    let r = file.restart in
    let rest = drop RESTART_SIZE bytes in
    let first : take SUMMED_SIZE bytes ≡ summed VERSION r = ap (λ (b : List ℕ). take SUMMED_SIZE b) is_file.front ∙ take-file file.magic file.version r file.sum rest checks.marked checks.known in
    let sum : file.sum ≡ fnv_of (summed VERSION r) = checks.right ∙ ap fnv_of first in
    record {
      can = checks.can;
      front =
          is_file.front
          ∙ ap (λ (n : ℕ). file_text n file.version r file.sum rest) checks.marked
          ∙ ap (λ (n : ℕ). file_text MAGIC n r file.sum rest) checks.known
          ∙ ap (λ (n : ℕ). file_text MAGIC VERSION r n rest) sum
          ∙ sym (text-file VERSION r rest);
    }

pub restart_checks : (bytes : List ℕ) (file : File) (r : Restart) → IsFile bytes file → RestartAt bytes r → Checks bytes file
unfolding file_text
restart_checks bytes file r is_file at =
    let both : file_text file.magic file.version file.restart file.sum (drop RESTART_SIZE bytes) ≡ file_text MAGIC VERSION r (fnv_of (summed VERSION r)) (drop RESTART_SIZE bytes) = sym is_file.front ∙ spelled bytes r at in
    let magic = one_u32 file.magic MAGIC _ _ is_file.magic_fits (omega arith) both in
    let version = one_u32 file.version VERSION _ _ is_file.version_fits (omega arith) magic.1 in
    let fields = one_fields file.restart r _ _ is_file.fields_fit (can_fit r at.can) version.1 in
    let sum = one_u32 file.sum (fnv_of (summed VERSION r)) _ _ is_file.sum_fits (fnv_of_fits (summed VERSION r)) fields.1 in
    let first : take SUMMED_SIZE bytes ≡ summed VERSION r = ap (λ (b : List ℕ). take SUMMED_SIZE b) (spelled bytes r at) ∙ take-file MAGIC VERSION r (fnv_of (summed VERSION r)) (drop RESTART_SIZE bytes) refl refl in
    record {
      marked = magic.0;
      known = version.0;
      can = subst (λ (s : Restart). CanRestart s) (sym fields.0) at.can;
      right = sum.0 ∙ ap fnv_of (sym first);
    }
