use Rattle.px_recovery.proofs.laws.files_stand_for_one_store.Goals as goal

pub returns : goal.returns
returns c = record { found = c.what_is_found_is_one.ensures.found; stands = c.what_is_found_is_one.ensures.stands }
