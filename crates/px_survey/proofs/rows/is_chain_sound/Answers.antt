use Rattle.std.proofs.Common.{◌≡◌, ℕ, List, length, ap, subst, ◌∙◌, arith}
use Rattle.std.proofs.lemmas.Result.{IfOk-weaker}
use Rattle.px_chain.specs.Sound.{IsVariation, key_of, next_slot}
use Rattle.px_survey.specs.Cells.{table_in}
use Rattle.px_survey.specs.Walked.{Comes, Fails}
use Rattle.px_survey.specs.Surveyed.{Adds, HasKey}
use Rattle.px_survey.proofs.Steps.{chain_fails, chain_keys, chain_more, head_missing, key_alone, key_shared}
use Rattle.px_survey.proofs.rows.is_chain_sound.Goals as goal

pub returns-in_default-clause-flawed : goal.returns-in_default-clause-flawed
returns-in_default-clause-flawed c = λ rows reaches e.
    head_missing (table_in c.args.cells.now) c.args.row c.args.head (length c.args.cells.now.slots.now) c.requires.head c.args.cells.now.slot_count c.in_default.ensures.none

pub returns-then-not-walk-clause-flawed : goal.returns-then-not-walk-clause-flawed
returns-then-not-walk-clause-flawed c = λ rows reaches e.
    let table = table_in c.args.cells.now in
    chain_fails table c.args.row c.args.slots.now rows reaches
    (subst (λ (h : ℕ). Fails (IsVariation table c.args.row) (next_slot table) h c.args.slots.now) c.requires.head (c.walk.ensures.fails c.if-not-walk.true))

pub returns-clause-reaches : goal.returns-clause-reaches
returns-clause-reaches c = λ rows reaches.
    let table = table_in c.args.cells.now in
    let its_key : c.in-Some.key.now ≡ key_of table c.args.row = c.in-Some.ensures.some.2 ∙ ap (λ (h : ℕ). (table.slot h).key) c.requires.head in
    let some = c.in-Some.ensures.some.0 in
    let head = c.requires.head in
    IfOk-weaker c.add.result _ _ (λ b new is.
    chain_more table c.args.row c.args.slots.now c.walk.new.marks rows reaches c.requires.used (λ none. absurd (omega (arith, none)))
    (subst (λ (h : ℕ). Comes (IsVariation table c.args.row) (next_slot table) h 0 c.args.slots.now c.walk.new.marks) head (c.walk.ensures.ends c.if-not-walk.false))
    (key_alone table c.args.row c.in-Some.key.now (HasKey c.args.keys.now) c.requires.keys its_key
    (new is)))
    c.add.ensures.new

pub returns-clause-keys : goal.returns-clause-keys
returns-clause-keys c =
    let table = table_in c.args.cells.now in
    let its_key : c.in-Some.key.now ≡ key_of table c.args.row = c.in-Some.ensures.some.2 ∙ ap (λ (h : ℕ). (table.slot h).key) c.requires.head in
    let old = HasKey c.args.keys.now in
    let new = HasKey c.add.new.keys in
    IfOk-weaker c.add.result (λ b. Adds c.in-Some.key.now old new) _ (λ b adds is.
    chain_keys table c.args.row old new c.requires.keys c.requires.used (subst (λ (k : List ℕ). Adds k old new) its_key adds))
    c.add.ensures.adds

pub returns-clause-flawed : goal.returns-clause-flawed
returns-clause-flawed c = λ rows reaches.
    let table = table_in c.args.cells.now in
    let its_key : c.in-Some.key.now ≡ key_of table c.args.row = c.in-Some.ensures.some.2 ∙ ap (λ (h : ℕ). (table.slot h).key) c.requires.head in
    IfOk-weaker c.add.result _ _ (λ b there is.
    key_shared table c.args.row c.in-Some.key.now (HasKey c.args.keys.now) c.requires.keys its_key (there is))
    c.add.ensures.old
