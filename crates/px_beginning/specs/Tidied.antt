-- A life that goes on with several steps, and what was tidied of it.
use Rattle.std.specs.Prelude.{ℕ, List, fold}
use Rattle.px_history.specs.Steps.{Step}
use Rattle.px_life.specs.Life.{Life}
use Rattle.px_restart.specs.declared.restart.Restart.{Restart}
use Rattle.px_tidy.specs.Steps.{tidying_tables}
use Rattle.px_working.specs.Follows.{last_store, with_step}

-- the life with these steps more
abbrev pub with_steps : (short : ℕ) → Life → List Step → Life
with_steps short life steps = fold (with_step short) life steps

-- the life in which each version that nobody will see was unlinked
abbrev pub tidied : Restart → Life → Life
tidied restart life = with_steps restart.short life (tidying_tables (last_store life) restart.tables)
