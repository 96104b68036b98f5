-- Which change a frame holds.
use Rattle.std.proofs.Common.{◌≡◌, ℕ, true, false, List, sym, ap, ◌∙◌}
use Rattle.std.proofs.lemmas.Bool.{and_parts, and_from, false≢true}
use Rattle.px_change.specs.declared.change.Change.{Change}
use Rattle.px_change.specs.Grammar.{is_change, is_within, may_hold}
use Rattle.px_change.specs.Reading.{HoldsChange}
use Rattle.px_change.specs.Text.{change_text}
use Rattle.px_change.proofs.Changes.{one_change}
use Rattle.px_restart.specs.declared.restart.Restart.{Restart}
use Rattle.px_log.specs.Scanning.{IsForeign}

may_be : (tables number short : ℕ) (change : Change) → may_hold tables number short change ≡ true → (is_change short change ≡ true) × (is_within tables number change ≡ true)
unfolding may_hold
may_be tables number short change ok = and_parts (is_change short change) (is_within tables number change) ok

pub held_by : (payload : List ℕ) (tables number short : ℕ) (change : Change) → HoldsChange short payload change → is_within tables number change ≡ true
    → (may_hold tables number short change ≡ true) × (payload ≡ change_text change)
unfolding may_hold
held_by payload tables number short change holds within = (and_from (is_change short change) (is_within tables number change) holds.grammar within, holds.text)

pub foreign_none : (payload : List ℕ) (restart : Restart) (number : ℕ) → ((change : Change) → HoldsChange restart.short payload change → ⊥) → IsForeign restart number payload
foreign_none payload restart number none change ok is = none change (record { grammar = (may_be restart.tables number restart.short change ok).0; text = is })

pub foreign_other : (payload : List ℕ) (restart : Restart) (number : ℕ) (change : Change) → HoldsChange restart.short payload change → is_within restart.tables number change ≡ false → IsForeign restart number payload
foreign_other payload restart number change holds without other ok is =
    let both = may_be restart.tables number restart.short other ok in
    let same : change ≡ other = one_change restart.short restart.short payload change other holds (record { grammar = both.0; text = is }) in
    false≢true (sym without ∙ ap (is_within restart.tables number) same ∙ both.1)
