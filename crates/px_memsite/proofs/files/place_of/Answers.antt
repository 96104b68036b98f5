use Rattle.std.proofs.Common.{suc, drop, sym, subst, arith}
use Rattle.std.proofs.lemmas.List.{drop_all}
use Rattle.px_memsite.specs.Files.{StandsAt, FitsAt}
use Rattle.px_memsite.proofs.FileLists.{stands_here, fits_here, stands_past, fits_past}
use Rattle.px_memsite.proofs.files.place_of.Goals as goal

pub returns-then-is_same-clause-place : goal.returns-then-is_same-clause-place
returns-then-is_same-clause-place c =
    let here = stands_here c.args.files.now c.loop-i.i c.index-files-i.result c.args.name c.loop-i-test.true c.index-files-i.is (sym c.if-is_same.ensures) in
    subst (StandsAt c.args.files.now c.args.name) (omega arith) (c.loop-i.invariant.stands 0 here)

pub returns-then-is_before-clause-place : goal.returns-then-is_before-clause-place
returns-then-is_before-clause-place c =
    let here = fits_here c.args.files.now c.loop-i.i c.index-files-i.result c.args.name c.loop-i-test.true c.index-files-i.is (sym c.if-is_before.ensures) in
    subst (FitsAt c.args.files.now c.args.name) (omega arith) (c.loop-i.invariant.fits 0 here)

pub loop-i-preserved : goal.loop-i-preserved
loop-i-preserved c =
    let files = c.args.files.now in
    let i = c.loop-i.i in
    let file = c.index-files-i.result in
    let name = c.args.name in
    record {
      stands = λ k later. subst (StandsAt files name) (omega arith) (c.loop-i.invariant.stands (suc k) (stands_past files i file name c.loop-i-test.true c.index-files-i.is (sym c.if-is_same.ensures) (sym c.if-is_before.ensures) k later));
      fits = λ k later. subst (FitsAt files name) (omega arith) (c.loop-i.invariant.fits (suc k) (fits_past files i file name c.loop-i-test.true c.index-files-i.is (sym c.if-is_same.ensures) (sym c.if-is_before.ensures) k later));
    }

pub returns-clause-place : goal.returns-clause-place
returns-clause-place c =
    let files = c.args.files.now in
    let none : FitsAt (drop c.loop-i.i files) c.args.name 0 = rw (drop_all c.loop-i.i files c.loop-i-test.false) tt in
    subst (FitsAt files c.args.name) (omega arith) (c.loop-i.invariant.fits 0 none)
