use Rattle.std.proofs.Common.{◌≡◌, ◌<◌, ◌∙◌, length, refl, ap, sym, arith}
use Rattle.std.proofs.lemmas.List.{length-append}
use Rattle.px_restart.specs.declared.restart.TheConstants.{RESTART_SIZE}
use Rattle.px_restart.specs.Restart.{fields_text}
use Rattle.px_restart.specs.File.{file_text}
use Rattle.px_restart.proofs.Restarts.{length-fields, fields_then}
use Rattle.px_bytes.proofs.Numbers.{u32_then}
use Rattle.px_restart.proofs.Reading.{whole-file, file_long}
use Rattle.px_restart.proofs.file.File.read.Goals as goal

pub returns-in_err-sum-clause-none : goal.returns-in_err-sum-clause-none
returns-in_err-sum-clause-none c =
    let restart = c.in_ok-restart.restart in
    let behind : length c.take_restart.new.fields < 4 = c.in_err-sum.ensures.none.0 refl in
    let less : length c.args.bytes.now < RESTART_SIZE = omega (arith, ap length c.new-fields.ensures, ap length c.in_ok-magic.ensures.taken, ap length c.in_ok-version.ensures.taken, ap length c.in_ok-restart.ensures.taken, length-append (fields_text restart) c.take_restart.new.fields, length-fields restart) in
    rw c.from_residual-in_err-sum.ensures less

pub returns-clause-front : goal.returns-clause-front
unfolding file_text
returns-clause-front c =
    let restart = c.in_ok-restart.restart in
    let all : c.args.bytes.now ≡ file_text c.in_ok-magic.magic c.in_ok-version.version restart c.in_ok-sum.sum c.take_u32-3.new.self =
    sym c.new-fields.ensures ∙ u32_then _ _ _ _ c.in_ok-magic.ensures.taken (u32_then _ _ _ _ c.in_ok-version.ensures.taken
    (fields_then restart _ _ _ c.in_ok-restart.ensures.taken c.in_ok-sum.ensures.taken)) in
    record {
      there = file_long _ _ _ _ _ _ all;
      front = whole-file _ _ _ _ _ _ all;
      magic_fits = omega arith;
      version_fits = omega arith;
      fields_fit = c.in_ok-restart.ensures.fit;
      sum_fits = omega arith;
    }
