-- The log's bytes say one list of changes; and where they say one, the log has no damage.
use Rattle.std.proofs.Common.{◌≡◌, ◌≢◌, ℕ, ◌+◌, true, List, [], ◌∷◌, ◌++◌, drop, length, map, sym, ap, subst, ◌∙◌, arith, inl, inr}
use Rattle.px_change.specs.Grammar.{may_hold}
use Rattle.px_change.specs.Text.{change_text}
use Rattle.px_change.specs.declared.change.Change.{Change}
use Rattle.px_log.proofs.FramesOfChanges.{length-map-text}
use Rattle.px_log.specs.Contents.{IsDamage, Scans}
use Rattle.px_log.specs.MayStand.{MayStand}
use Rattle.px_restart.specs.declared.restart.Restart.{Restart}
use Rattle.px_cell_standing.proofs.One.{changes_alike}
use Rattle.px_cell_opening.proofs.Numbers.{life_stand}

pub one_scan : (restart : Restart) (bytes : List ℕ) (xs ys : List Change) → Scans restart bytes xs → Scans restart bytes ys → xs ≡ ys
one_scan restart bytes xs ys one two =
    changes_alike restart.tables 0 restart.short xs ys (life_stand restart.tables 0 restart.short xs one.held) (life_stand restart.tables 0 restart.short ys two.held)
    (sym one.scanned ∙ two.scanned)

first_text : (x y : List ℕ) (xs ys : List (List ℕ)) → x ∷ xs ≡ y ∷ ys → x ≡ y
first_text x y xs ys e = cc

-- ---- no damage

-- a payload among those of changes that may stand there is that of one
held_there : (tables number short : ℕ) (changes before : List Change) (payload : List ℕ) (others : List (List ℕ)) → MayStand tables number short changes
    → map change_text changes ≡ map change_text before ++ payload ∷ others
    → ((change : Change) → may_hold tables (number + length before) short change ≡ true → payload ≢ change_text change) → ⊥
held_there tables number short [] [] payload others stand same none = absurd (cc)
held_there tables number short [] (b ∷ before) payload others stand same none = absurd (cc)
held_there tables number short (c ∷ changes) [] payload others stand same none =
    let here : number ≡ number + 0 = omega arith in
    none c (subst (λ (n : ℕ). may_hold tables n short c ≡ true) here stand.0) (sym (first_text (change_text c) payload (map change_text changes) others same))
held_there tables number short (c ∷ changes) (b ∷ before) payload others stand same none =
    let there : number + 1 + length before ≡ number + length (b ∷ before) = omega arith in
    held_there tables (number + 1) short changes before payload others stand.1 (ap (λ (texts : List (List ℕ)). drop 1 texts) same)
    (λ change may. none change (subst (λ (n : ℕ). may_hold tables n short change ≡ true) there may))

pub no_log_damage : (restart : Restart) (bytes : List ℕ) (changes : List Change) (place : ℕ) → Scans restart bytes changes → IsDamage restart bytes place → ⊥
no_log_damage restart bytes changes place scan damage = elim damage as (λ _. ⊥) [
  | inl none ↦ held_there restart.tables 0 restart.short changes none.before none.payload none.others scan.held (sym scan.scanned ∙ none.scanned) (zero_first none.before none.payload none.none)
  | inr stops ↦
      let same : length changes ≡ length stops.before = sym (length-map-text changes) ∙ ap length (sym scan.scanned ∙ stops.scanned) ∙ length-map-text stops.before in
      absurd (omega (arith, same, stops.below, scan.reached))
]
  where
    zero_first : (before : List Change) (payload : List ℕ) → ((change : Change) → may_hold restart.tables (length before) restart.short change ≡ true → payload ≢ change_text change)
        → (change : Change) → may_hold restart.tables (0 + length before) restart.short change ≡ true → payload ≢ change_text change
    zero_first before payload none change may =
        let same : 0 + length before ≡ length before = omega arith in
        none change (subst (λ (n : ℕ). may_hold restart.tables n restart.short change ≡ true) same may)
