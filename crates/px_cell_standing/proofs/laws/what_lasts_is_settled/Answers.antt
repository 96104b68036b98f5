use Rattle.std.proofs.Common.{refl}
use Rattle.px_model.specs.Machine.{commits}
use Rattle.px_cell_standing.proofs.Lasting.{lasting_holds}
use Rattle.px_cell_standing.proofs.laws.what_lasts_is_settled.Goals as goal

pub returns : goal.returns
returns c = λ m life restart marks o has works can reads.
    lasting_holds (commits m) m life restart marks o has reads c.the_log_keeps_its_fronts.ensures c.files_lie_under_their_frames.ensures c.fronts_hold.ensures
    c.more_places_open_to_the_same.ensures c.only_numbers_in_chains_are_asked.ensures c.a_crash_leaves_what_lasts.ensures refl works can
