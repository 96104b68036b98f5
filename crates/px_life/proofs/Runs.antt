-- Two runs of a small store.
use Rattle.std.proofs.Common.{◌≡◌, ℕ, ◌<◌, ◌≤◌, ◌-◌, ◌^◌, List, [], ◌∷◌, refl, sym, ap, subst, arith, inl, inr}
use Rattle.std.specs.Prelude.{All}
use Rattle.std.proofs.lemmas.Bool.{ne_eqb}
use Rattle.std.proofs.lemmas.List.{take_all}
use Rattle.std.proofs.lemmas.List.Elements.{All-cons, All-nil}
use Rattle.px_cells.specs.Form.{is_slot}
use Rattle.px_chain.specs.Links.{IsStored}
use Rattle.px_history.specs.Example.{header_with}
use Rattle.px_history.specs.Fitting.{FitsFrame, IsStoredNumber, IsWritten, PutFits}
use Rattle.px_history.specs.Steps.{IsStep, MayCommit, MayPut, Step, after_steps}
use Rattle.px_history.specs.Store.{Store}
use Rattle.px_history.specs.Told.{told_by}
use Rattle.px_history.specs.Writers.{IsAlone}
use Rattle.px_history.specs.Written.{writer_of}
use Rattle.px_history.proofs.Agreeing.{IsNotOf, history_agrees, open_later}
use Rattle.px_history.proofs.Holding.{change_held}
use Rattle.px_history.proofs.Laying.{change_is_one}
use Rattle.px_history.proofs.Writing.{base_writer, may_commit, step_writer}
use Rattle.px_laid.specs.Places.{none_laid}
use Rattle.px_model.specs.Rows.{key_cmp, same_key}
use Rattle.px_model.specs.declared.row.Row.{Row}
use Rattle.px_opened.specs.Opened.{Opens, changes_over}
use Rattle.px_shown.specs.Example.{key, written_by_3}
use Rattle.px_shown.specs.Parts.{Parts}
use Rattle.px_shown.specs.Shown.{Shows}
use Rattle.px_shown.specs.Tables.{AreSound}
use Rattle.px_told.specs.Writes.{rows_over}
use Rattle.px_life.specs.Example.{again_by_5, commit_of_3, first_run, new_life, new_restart, opened_again, put_by_3, put_by_5, row_of_3, second_run, store_left, went_on}
use Rattle.px_life.specs.Found.{AreBelow}
use Rattle.px_life.specs.Front.{KnowsDone, done_by}
use Rattle.px_life.specs.Life.{IsLife, Life, end_of, store_at}
use Rattle.px_life.proofs.Done.{done_goes_on, opening_knows}
use Rattle.px_life.proofs.Found.{HeldOpens, NumbersAreAsked, OpensShow, life_begins}
use Rattle.px_life.proofs.Fronts.{HistoriesShow, StepsHold, front_held, front_shows, life_grows}
use Rattle.px_life.proofs.Made.{new_is_life}
use Rattle.px_life.proofs.Writers.{step_leaves_writers}

-- ---- a step more

sound_at_end : (parts : Parts) (short tables next : ℕ) (rows : List Row) (life : Life) → IsLife parts short tables next rows life
    → AreSound short (store_at life (end_of life)).tables (store_at life (end_of life)).layouts
sound_at_end parts short tables next rows life is =
    subst (λ (s : Store). AreSound short s.tables s.layouts)
    (sym (ap (after_steps life.base) (take_all (end_of life - life.start) life.steps (omega (arith, is.count)))))
    (history_agrees parts short next rows life.base (after_steps life.base life.steps) life.steps is.base (record { follow = is.follow; lead = refl })).sound

goes_on : (parts : Parts) (next : ℕ) (rows : List Row) (life : Life) (step : Step) → IsLife parts 16 2 next rows life
    → let store = store_at life (end_of life) in
    IsStep parts 16 store step → IsAlone store step → IsWritten 2 step → IsStoredNumber (writer_of store step) → FitsFrame (end_of life) store step
    → IsLife parts 16 2 next rows (went_on life step)
goes_on parts next rows life step is may alone written stored fits =
    let store = store_at life (end_of life) in
    life_grows parts 16 2 next rows life step _ is may alone written (change_is_one 16 store step)
    (change_held parts 16 2 (end_of life) store step _ refl (omega arith) (sound_at_end parts 16 2 next rows life is) may (change_is_one 16 store step) stored written fits)

-- ---- the first run

module _ (parts : Parts) where
  row_stored : IsStored 16 written_by_3
  unfolding is_slot
  row_stored = record { form = refl; used = λ e. cc }

  may_put_3 : MayPut 16 (store_at new_life 0) 2 (header_with 1) written_by_3
  may_put_3 = record {
    stored = row_stored;
    writer = record { undone = refl; not_over = refl };
    link = inl (record { slots = refl; rows = refl; its_row = refl; next = refl; its_key = λ row used. absurd (omega (arith, used.0.0, used.0.1)) });
  }

  alone_3 : IsAlone (store_at new_life 0) put_by_3
  alone_3 other its differ = All-nil (IsNotOf other)

  key_fits : All (λ (b : ℕ). b < 2 ^ 8) key
  key_fits = All-cons (λ (b : ℕ). b < 2 ^ 8) 107 (49 ∷ []) (omega arith) (All-cons (λ (b : ℕ). b < 2 ^ 8) 49 [] (omega arith) (All-nil (λ (b : ℕ). b < 2 ^ 8)))

  one_byte : (b : ℕ) → b ≤ 98 → All (λ (b : ℕ). b < 2 ^ 8) (b ∷ [])
  one_byte b small = All-cons (λ (b : ℕ). b < 2 ^ 8) b [] (omega (arith, small)) (All-nil (λ (b : ℕ). b < 2 ^ 8))

  put_3_fits : PutFits 2 2 (header_with 1) written_by_3
  put_3_fits = record {
    table = (omega arith, omega arith);
    places = record { slots = omega arith; rows = omega arith };
    its_slot = record {
      xn = omega arith;
      next = omega arith;
      row = omega arith;
      tag = omega arith;
      total = omega arith;
      log = omega arith;
      place = omega arith;
      key = key_fits;
      short = one_byte 97 (omega arith);
    };
  }

  put_is_life : IsLife parts 16 2 1 [] (went_on new_life put_by_3)
  put_is_life = goes_on parts 1 [] new_life put_by_3 (new_is_life parts 16 2) may_put_3 alone_3
      put_3_fits
      (omega arith, omega arith) tt

  may_commit_3 : MayCommit (store_at (went_on new_life put_by_3) 1) 3
  may_commit_3 = may_commit parts 16 (store_at (went_on new_life put_by_3) 1) 3 1
      (step_writer parts 16 new_life.base put_by_3 (new_is_life parts 16 2).base.sound (base_writer parts 16 1 [] new_life.base (new_is_life parts 16 2).base) may_put_3 alone_3)
      (record { undone = refl; not_over = refl })

  pub first_is_life : IsLife parts 16 2 1 [] first_run
  first_is_life = goes_on parts 1 [] (went_on new_life put_by_3) commit_of_3 put_is_life may_commit_3 tt tt (omega arith, omega arith)
      (record { some = omega arith; due = omega arith; small = omega arith })

  -- its restart knows who is done
  none_yet : KnowsDone new_restart new_life 0
  none_yet = record {
    done = λ t row used. absurd (omega (arith, used.0.0, used.0.1));
    numbers = λ t row used. absurd (omega (arith, used.0.0, used.0.1));
  }

  first_known : KnowsDone new_restart first_run 2
  first_known = done_goes_on parts 16 2 1 [] (went_on new_life put_by_3) commit_of_3 _ first_is_life new_restart (omega arith) (omega arith) tt
      (done_goes_on parts 16 2 1 [] new_life put_by_3 _ put_is_life new_restart (omega arith) (omega arith) (omega arith) none_yet)

  first_below : AreBelow 4 store_left.tables store_left.layouts
  first_below = step_leaves_writers (λ xn. xn < 4) parts 16 (store_at new_life 0) put_by_3 (new_is_life parts 16 2).base.sound may_put_3 (omega arith)
      (λ t row used. absurd (omega (arith, used.0.0, used.0.1)))

  first_told : rows_over [] (told_by parts first_run.steps) ≡ row_of_3
  unfolding rows_over key_cmp same_key
  first_told = refl

  -- ---- and the second one

  module _ (hold : StepsHold) (historic : HistoriesShow) (show : OpensShow) (ask : NumbersAreAsked) (open_held : HeldOpens) where
    first_opens : Opens 16 2 (changes_over none_laid first_run.changes) store_left.tables store_left.layouts
    first_opens = open_held 16 2 store_left (changes_over none_laid first_run.changes) (changes_over none_laid first_run.changes)
        (front_held hold parts 16 2 1 [] first_run 2 first_is_life (omega arith) (omega arith))
        (record { laid = λ what table number bytes lies. lies; headers = λ table. refl })

    pub first_shows : Shows parts store_left.tables store_left.layouts store_left.done row_of_3
    first_shows = subst (Shows parts store_left.tables store_left.layouts store_left.done) first_told
        (front_shows historic parts 16 2 1 [] first_run 2 first_is_life)

    pub opened_is_life : IsLife parts 16 2 4 row_of_3 opened_again
    opened_is_life = life_begins show ask open_held parts 16 2 4 0 0 row_of_3 first_run.changes none_laid store_left.tables store_left.layouts (done_by new_restart first_run.changes)
        (omega arith) (omega arith) first_is_life.stand (All-cons (λ (xn : ℕ). xn < 4) 3 [] (omega arith) (All-nil (λ (xn : ℕ). xn < 4))) first_opens
        (ask parts store_left.tables store_left.layouts store_left.done (done_by new_restart first_run.changes) row_of_3 first_known.done first_shows) first_below

    row_again : IsStored 16 again_by_5
    unfolding is_slot
    row_again = record { form = refl; used = λ e. cc }

    may_put_5 : MayPut 16 (store_at opened_again 2) 2 (header_with 2) again_by_5
    may_put_5 = record {
      stored = row_again;
      writer = record { undone = refl; not_over = refl };
      link = inr (record { slots = refl; rows = refl; its_row = ((omega arith, omega arith), refl); next = refl; its_key = refl });
    }

    alone_5 : IsAlone (store_at opened_again 2) put_by_5
    alone_5 other its differ =
        let later = open_later parts 16 4 row_of_3 opened_again.base other opened_is_life.base its in
        All-cons (IsNotOf other) written_by_3 [] (ne_eqb 3 other (λ same. omega (arith, same, later))) (All-nil (IsNotOf other))

    put_5_fits : PutFits 2 2 (header_with 2) again_by_5
    put_5_fits = record {
      table = (omega arith, omega arith);
      places = record { slots = omega arith; rows = omega arith };
      its_slot = record {
        xn = omega arith;
        next = omega arith;
        row = omega arith;
        tag = omega arith;
        total = omega arith;
        log = omega arith;
        place = omega arith;
        key = key_fits;
        short = one_byte 98 (omega arith);
      };
    }

    pub second_is_life : IsLife parts 16 2 4 row_of_3 second_run
    second_is_life = goes_on parts 4 row_of_3 opened_again put_by_5 opened_is_life may_put_5 alone_5
        put_5_fits
        (omega arith, omega arith) tt

    at_start : rows_over row_of_3 [] ≡ row_of_3
    unfolding rows_over key_cmp same_key
    at_start = refl

    not_told : rows_over row_of_3 (told_by parts second_run.steps) ≡ row_of_3
    unfolding rows_over key_cmp same_key
    not_told = refl

    pub opened_shows : Shows parts (store_at second_run 2).tables (store_at second_run 2).layouts (store_at second_run 2).done row_of_3
    opened_shows = subst (Shows parts (store_at second_run 2).tables (store_at second_run 2).layouts (store_at second_run 2).done) at_start
        (front_shows historic parts 16 2 4 row_of_3 second_run 2 second_is_life)

    pub end_shows : Shows parts (store_at second_run 3).tables (store_at second_run 3).layouts (store_at second_run 3).done row_of_3
    end_shows = subst (Shows parts (store_at second_run 3).tables (store_at second_run 3).layouts (store_at second_run 3).done) not_told
        (front_shows historic parts 16 2 4 row_of_3 second_run 3 second_is_life)

    known_there : KnowsDone new_restart opened_again 2
    known_there = opening_knows 16 2 4 0 new_restart first_run.changes none_laid store_left.tables store_left.layouts first_opens first_below first_known.numbers

    pub opened_known : KnowsDone new_restart second_run 2
    opened_known = record { done = known_there.done; numbers = known_there.numbers }

    pub end_known : KnowsDone new_restart second_run 3
    end_known = done_goes_on parts 16 2 4 row_of_3 opened_again put_by_5 _ second_is_life new_restart (omega arith) (omega arith) (omega arith) known_there
