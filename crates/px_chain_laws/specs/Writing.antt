-- What a call writes.
use Rattle.std.specs.Prelude.{Option, Some, None}
use Rattle.px_model.specs.declared.write.Write.{Write}
use Rattle.px_model.specs.declared.write.Write.TheVariants.{Put, Delete}
use Rattle.px_calls.specs.declared.call.Call.{Call}
use Rattle.px_calls.specs.declared.call.Call.TheVariants.{Insert, Update, Delete as DeleteCall}

abbrev pub write_of : Call → Option Write
write_of (Insert table key tag body) = Some (Put (record { table = table; key = key; tag = tag; body = body }))
write_of (Update table key tag body) = Some (Put (record { table = table; key = key; tag = tag; body = body }))
write_of (DeleteCall table key) = Some (Delete table key)
write_of _ = None
