use Rattle.px_run.proofs.run.carry_out.Goals as goal

pub returns-in-Some-Dump-clause-dumps : goal.returns-in-Some-Dump-clause-dumps
returns-in-Some-Dump-clause-dumps g c t is found is_found = c.dump_rows.ensures.dumps t found is_found
