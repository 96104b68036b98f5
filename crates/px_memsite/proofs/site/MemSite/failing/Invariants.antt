use Rattle.std.proofs.Common.{◌≡◌, map, take}
use Rattle.px_memsite.proofs.site.MemSite.failing.Given as goal

abbrev pub invariant-loop-call : goal.invariant-loop-call
invariant-loop-call l = l.failures.items ≡ map (λ call. record { call = call; bytes = 0 }) (take l.call-index l.calls)
