use Rattle.std.proofs.Common.{◌+◌, sym, subst}
use Rattle.px_memsite.specs.Crash.{IsWithin, IsAtRest}
use Rattle.px_memsite.specs.Events.{reached}
use Rattle.px_memsite.specs.Files.{View, state_of, states_in}
use Rattle.px_memsite.proofs.Kept.{kept_within, left_image}
use Rattle.px_memsite.proofs.Leaving.{IsDone, view_is, rest_more, done_more, done_all, put_at_rest}
use Rattle.px_memsite.proofs.crash.left.Goals as goal

pub image-requires : goal.image-requires
image-requires c =
    let file = c.file-item.result in
    subst (λ (v : View). IsWithin v.state) (view_is c.args.files.now c.args.keep c.requires.in_order c.loop-file.file-index file c.loop-file-test.true c.file-item.is) (c.requires.within file.name)

pub play-requires : goal.play-requires
play-requires c =
    let file = c.file-item.result in
    let within = subst (λ (v : View). IsWithin v.state) (view_is c.args.files.now c.args.keep c.requires.in_order c.loop-file.file-index file c.loop-file-test.true c.file-item.is) (c.requires.within file.name) in
    kept_within c.loop-file.rest (state_of file) c.in_ok-bytes.bytes.items within c.in_ok-bytes.ensures.kept

pub loop-file-preserved : goal.loop-file-preserved
loop-file-preserved c =
    let inv = c.loop-file.invariant in
    let files = c.args.files.now in
    let keep = c.args.keep in
    let i = c.loop-file.file-index in
    let file = c.file-item.result in
    let lt = c.loop-file-test.true in
    let is = c.file-item.is in
    let ordered = c.requires.in_order in
    let s = reached c.loop-file.left.history.items in
    let bytes = c.in_ok-bytes.bytes.items in
    let put = c.in_ok-play.ensures.state in
    record {
      rest = rest_more files keep ordered i file lt is inv.rest c.in_ok-bytes.ensures.rest;
      fresh = subst IsAtRest (sym put) (put_at_rest s file.name bytes inv.fresh);
      done = subst (λ t. IsDone files keep ordered (i + 1) t.content) (sym put) (done_more files keep ordered i file lt is s.content bytes inv.rest c.in_ok-bytes.ensures.kept inv.done);
    }

pub returns : goal.returns
returns c =
    let files = c.args.files.now in
    let keep = c.args.keep in
    let s = reached c.loop-file.left.history.items in
    let left = done_all files keep c.requires.in_order c.loop-file.file-index s.content c.loop-file-test.false c.loop-file.invariant.done in
    record { left = left; images = left_image keep (states_in files) s.content left; at_rest = c.loop-file.invariant.fresh }
