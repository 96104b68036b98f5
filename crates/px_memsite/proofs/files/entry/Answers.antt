use Rattle.std.proofs.Common.{refl, subst, arith}
use Rattle.px_memsite.specs.Files.{FitsAt}
use Rattle.px_memsite.specs.declared.file.MemFile.{MemFile}
use Rattle.px_memsite.proofs.FileLists.{fits_within, stands_insert, order_insert, view_insert, blank_view}
use Rattle.px_memsite.proofs.files.entry.Goals as goal

pub insert-requires : goal.insert-requires
insert-requires c = omega (arith, fits_within c.deref.result.now c.args.name c.in-Err.at c.in-Err.ensures.place, c.deref.ensures.len)

pub returns-in_ok-insert-in-Err-clause-within : goal.returns-in_ok-insert-in-Err-clause-within
returns-in_ok-insert-in-Err-clause-within c = omega (arith, fits_within c.deref.result.now c.args.name c.in-Err.at c.in-Err.ensures.place, c.deref.ensures.len, c.in_ok-insert-in-Err.ensures.len)

pub returns-in_ok-insert-in-Err-clause-stands : goal.returns-in_ok-insert-in-Err-clause-stands
returns-in_ok-insert-in-Err-clause-stands c =
    let files = c.args.files.now.items in
    let fits = subst (λ l. FitsAt l c.args.name c.in-Err.at) c.deref.ensures.value c.in-Err.ensures.place in
    rw c.in_ok-insert-in-Err.ensures.items (stands_insert files c.args.name c.in-Err.at (record { name = c.args.name; content = c.new.result; synced = c.new-in-Err.result; pending = c.new-in-Err-2.result }) refl fits)

pub returns-in_ok-insert-in-Err-clause-same : goal.returns-in_ok-insert-in-Err-clause-same
returns-in_ok-insert-in-Err-clause-same c =
    let files = c.args.files.now.items in
    let file : MemFile = record { name = c.args.name; content = c.new.result; synced = c.new-in-Err.result; pending = c.new-in-Err-2.result } in
    let fits = subst (λ l. FitsAt l c.args.name c.in-Err.at) c.deref.ensures.value c.in-Err.ensures.place in
    rw c.in_ok-insert-in-Err.ensures.items (record {
      in_order = order_insert files c.args.name c.in-Err.at file refl fits c.requires;
      views = view_insert files c.args.name c.in-Err.at file refl (blank_view c.new.ensures.items c.new-in-Err.ensures.items c.new-in-Err-2.ensures.items) fits c.requires;
    })
