-- Bytes that a reader gives after reads that gave none.
use Rattle.std.proofs.Common.{◌≡◌, ℕ, List, ◌++◌, Option, None, Some, Result, Ok, Err, take, sym, ◌∙◌}
use Rattle.std.specs.Io.KnownBytes.{Keeps, Consumes, ReadConsumes}

pub keeps_keeps : (a b c : Option (List ℕ)) → Keeps a b → Keeps b c → Keeps a c
keeps_keeps None b c keep more = tt
keeps_keeps (Some xs) None c keep more = absurd keep
keeps_keeps (Some xs) (Some ys) None keep more = absurd more
keeps_keeps (Some xs) (Some ys) (Some zs) keep more = more ∙ keep

keeps_consumes : (a b c : Option (List ℕ)) (bytes : List ℕ) → Keeps a b → Consumes b c bytes → Consumes a c bytes
keeps_consumes None b c bytes keep took = tt
keeps_consumes (Some xs) None c bytes keep took = absurd keep
keeps_consumes (Some xs) (Some ys) None bytes keep took = absurd took
keeps_consumes (Some xs) (Some ys) (Some zs) bytes keep took = sym keep ∙ took

pub keeps_reads : {E : Type 0} (a b c : Option (List ℕ)) (result : Result ℕ E) (buf : List ℕ)
    → Keeps a b → ReadConsumes b c result buf → ReadConsumes a c result buf
keeps_reads a b c (Ok n) buf keep given = (keeps_consumes a b c (take n buf) keep given.0, given.1)
keeps_reads a b c (Err error) buf keep given = keeps_keeps a b c keep given
