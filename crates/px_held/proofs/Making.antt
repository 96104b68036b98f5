-- Tables that were just made: no place of them was ever used.
use Rattle.std.proofs.Common.{◌≡◌, ◌≢◌, ℕ, suc, Bool, cond, All, List, [], ◌∷◌, refl, sym, ap, subst, ◌∙◌, ⊎_elim}
use Rattle.std.proofs.lemmas.Bool.{cases_eq, eq-eqb, ne_eqb}
use Rattle.std.proofs.lemmas.List.Elements.{All-head, All-tail}
use Rattle.px_chain.proofs.SoundLaws.{sound_none}
use Rattle.px_chain.specs.Sound.{IsSound, no_layout, no_places}
use Rattle.px_chain.specs.Table.{Table}
use Rattle.px_opened.specs.Opened.{numbered_from, tables_of}
use Rattle.px_shown.specs.Tables.{AreSound}
use Rattle.px_tables.specs.Held.{Held, table_of}

none_used : (first : ℕ) (made : List Held) → All (λ table. table.cells.header ≡ no_places) made → (t : ℕ) → (numbered_from first made t).header ≡ no_places
none_used first [] none t = refl
none_used first (table ∷ others) none t = ⊎_elim
    (λ (here : t ≡ first). ap (λ (b : Bool). (cond b (table_of table.cells) (numbered_from (suc first) others t)).header) (eq-eqb t first here)
    ∙ All-head (λ (h : Held). h.cells.header ≡ no_places) table others none)
    (λ (away : t ≢ first). ap (λ (b : Bool). (cond b (table_of table.cells) (numbered_from (suc first) others t)).header) (ne_eqb t first away)
    ∙ none_used (suc first) others (All-tail (λ (h : Held). h.cells.header ≡ no_places) table others none) t)
    (cases_eq t first)

pub made_sound : (short : ℕ) (made : List Held) → All (λ table. table.cells.header ≡ no_places) made → AreSound short (tables_of made) (λ t. no_layout)
made_sound short made none t = sound_none short (tables_of made t) (none_used 1 made none t)
