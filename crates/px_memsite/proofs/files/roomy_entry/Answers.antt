use Rattle.std.proofs.Common.{sym, ap, ◌∙◌, arith}
use Rattle.std.proofs.lemmas.List.{get_or-set_same}
use Rattle.px_memsite.specs.Files.{view_of}
use Rattle.px_memsite.proofs.FileLists.{stands_within, stands_name, view_at, same_set, same_then, stands_set}
use Rattle.px_memsite.proofs.files.roomy_entry.Goals as goal

pub index_mut-requires : goal.index_mut-requires
index_mut-requires c = omega (arith, stands_within c.entry.new.files.items c.args.name c.in_ok-at.at c.in_ok-at.ensures.stands)

pub returns-in_err-make_room-clause-same : goal.returns-in_err-make_room-clause-same
returns-in_err-make_room-clause-same c =
    let files = c.entry.new.files.items in
    let stands = c.in_ok-at.ensures.stands in
    let was = c.index_mut.result.now in
    let named = c.make_room.ensures.name ∙ ap (λ f. f.name) c.index_mut.ensures.value ∙ stands_name files c.args.name c.in_ok-at.at was stands in
    let same = c.make_room.ensures.view ∙ ap view_of c.index_mut.ensures.value ∙ sym (view_at files c.args.name c.in_ok-at.at was stands) in
    same_then c.entry.ensures.same (same_set files c.args.name c.in_ok-at.at c.make_room.new.self named same stands c.entry.ensures.same.in_order)

pub returns-clause-stands : goal.returns-clause-stands
returns-clause-stands c =
    let files = c.entry.new.files.items in
    let stands = c.in_ok-at.ensures.stands in
    stands_set files c.args.name c.in_ok-at.at c.make_room.new.self (c.make_room.ensures.name ∙ ap (λ f. f.name) c.index_mut.ensures.value ∙ stands_name files c.args.name c.in_ok-at.at c.index_mut.result.now stands) stands

pub returns-clause-room : goal.returns-clause-room
returns-clause-room c d =
    let files = c.entry.new.files.items in
    rw (get_or-set_same files c.in_ok-at.at c.make_room.new.self d (stands_within files c.args.name c.in_ok-at.at c.in_ok-at.ensures.stands)) c.in_ok-make_room.ensures.room

pub returns-clause-same : goal.returns-clause-same
returns-clause-same c =
    let files = c.entry.new.files.items in
    let stands = c.in_ok-at.ensures.stands in
    let was = c.index_mut.result.now in
    let named = c.make_room.ensures.name ∙ ap (λ f. f.name) c.index_mut.ensures.value ∙ stands_name files c.args.name c.in_ok-at.at was stands in
    let same = c.make_room.ensures.view ∙ ap view_of c.index_mut.ensures.value ∙ sym (view_at files c.args.name c.in_ok-at.at was stands) in
    same_then c.entry.ensures.same (same_set files c.args.name c.in_ok-at.at c.make_room.new.self named same stands c.entry.ensures.same.in_order)
