-- What a site in memory is to those who call it, and what its calls do.
use Rattle.std.specs.Prelude.{◌≡◌, ℕ, List, Option, None, Some, IsSome, Result, OnOk}
use Rattle.px_site.specs.Cause.{Counts, no_counts, one_more}
use Rattle.px_site.specs.declared.error.SiteError.{SiteError}
use Rattle.px_site.specs.Tally.{counts_of}
use Rattle.px_site.specs.State.{State, OnFault, OnShort}
use Rattle.px_memsite.specs.declared.failure.Failure.{Failure}
use Rattle.px_memsite.specs.declared.site.MemSite.{MemSite}
use Rattle.px_memsite.specs.Events.{empty, reached}
use Rattle.px_memsite.specs.Failures.{failure_of}

-- its contents, and what a crash at each moment may find
abbrev pub site_state : MemSite → State
site_state site = reached site.disk.history.items

-- how often something went wrong
abbrev pub site_counts : MemSite → Counts
site_counts site = counts_of site.tally

-- the calls that are to fail
abbrev pub site_failures : MemSite → List Failure
site_failures site = site.schedule.failures.items

-- how many calls there were; the number of the next one
abbrev pub site_calls : MemSite → ℕ
site_calls site = site.schedule.calls

-- where the next call is to fail, how many of its bytes go through
abbrev pub next_failure : MemSite → Option ℕ
next_failure site = failure_of (site_failures site) (site_calls site)

-- a site with no files and nothing told, before its first call
pub record IsEmptySite (failures : List Failure) (site : MemSite) : Type 0 where
  pub state : site_state site ≡ empty
  pub to_fail : site_failures site ≡ failures
  pub calls : site_calls site ≡ 0
  pub counts : site_counts site ≡ no_counts

-- a call was counted
pub record IsCounted (old new : MemSite) : Type 0 where
  pub calls : site_calls new ≡ one_more (site_calls old)
  pub failures : site_failures new ≡ site_failures old

-- A call that changes something fails exactly where it is to, and otherwise only for want of memory, when nothing changes.
pub record IsChangingCall {T : Type 0} (after : Option ℕ → State → State) (old new : MemSite) (result : Result T SiteError) : Type 0 where
  pub counted : IsCounted old new
  pub ok : OnOk result ((next_failure old ≡ None) × (site_state new ≡ after None (site_state old)))
  pub fault : OnFault result ((through : ℕ) × (next_failure old ≡ Some through) × (site_state new ≡ after (Some through) (site_state old)))
  pub short : OnShort result (site_state new ≡ site_state old)

-- A call that reads fails exactly where it is to, and changes nothing.
pub record IsReadingCall {T : Type 0} (old new : MemSite) (result : Result T SiteError) : Type 0 where
  pub counted : IsCounted old new
  pub ok : OnOk result (next_failure old ≡ None)
  pub fault : OnFault result (IsSome (next_failure old))
  pub short : OnShort result ⊥
  pub same : site_state new ≡ site_state old
