-- Telling leaves the files as they were, and a core works on for its machine.
use Rattle.std.proofs.Common.{refl, ap, ◌∙◌, ◌≡◌, ℕ, List, [], ◌++◌, take, Result, Ok, Err, sym, subst}
use Rattle.px_apply.specs.Contents.{Contents}
use Rattle.px_held.proofs.Serving.{anywhere}
use Rattle.px_held.specs.Serving.{HeldTables}
use Rattle.px_history.specs.Store.{Store}
use Rattle.px_life.specs.Life.{Life}
use Rattle.px_log.specs.Log.{Log}
use Rattle.px_model.specs.Machine.{Machine}
use Rattle.px_reached.specs.Reachable.{Marks}
use Rattle.px_restart.specs.declared.restart.Restart.{Restart}
use Rattle.px_shown.specs.Parts.{Parts, no_parts}
use Rattle.px_recs.specs.Place.{table_file}
use Rattle.px_site.specs.Disk.{FileState}
use Rattle.px_site.specs.declared.error.SiteError.{SiteError}
use Rattle.px_site.specs.declared.name.FileName.{FileName}
use Rattle.px_site.specs.declared.error.SiteError.TheVariants.{OutOfMemory, Fault}
use Rattle.px_site.specs.State.{Moment, State, Tells, spoke}
use Rattle.px_standing.specs.Images.{IsPlainImage, acked}
use Rattle.px_tidying.specs.Opening.{HasLife, HasStore, opening}
use Rattle.px_working.specs.Follows.{last_store}
use Rattle.px_working.specs.Lasts.{Lasts}
use Rattle.px_core.specs.Core.{IsWell, opening_of}
use Rattle.px_core.specs.Working.{WorksFor}
use Rattle.px_core.specs.declared.state.Kept.{Kept}

-- a moment with the same files
abbrev with_told : Moment → (told telling : List ℕ) → Moment
with_told now told telling = record { files = now.files; told = told; telling = telling }

same_image : (now : Moment) (told telling : List ℕ) (image : Contents) → IsPlainImage (with_told now told telling) image → IsPlainImage now image
same_image now told telling image plain = record { each = plain.each; first = plain.first; second = plain.second; log = plain.log }

lasts_told : (parts : Parts) (least : ℕ) (m : Machine) (life : Life) (restart : Restart) (marks : Marks) (now : Moment) (told telling : List ℕ)
    → Lasts parts least m life restart marks now → Lasts parts least m life restart marks (with_told now told telling)
lasts_told parts least m life restart marks now told telling l = record {
  is_life = l.is_life;
  segment = record { known = l.segment.known; segment = l.segment.segment; first = l.segment.first; others = l.segment.others };
  valid = record { first = l.valid.first; second = l.valid.second; first_rests = l.valid.first_rests; second_rests = l.valid.second_rests; picked = l.valid.picked };
  reachable = record {
    first = l.reachable.first;
    redo_from = l.reachable.redo_from;
    redo_to = l.reachable.redo_to;
    applied = l.reachable.applied;
    durable = l.reachable.durable;
    start = l.reachable.start;
    end = l.reachable.end;
    log = record {
      each = λ image plain. l.reachable.log.each image (same_image now told telling image plain);
      behind = λ image plain. l.reachable.log.behind image (same_image now told telling image plain);
    };
    files = l.reachable.files;
    prefix = l.reachable.prefix;
  };
  publishes = l.publishes;
  acknowledged = l.acknowledged;
  made = l.made;
  all_commits = l.all_commits;
}

store_anywhere : (store : Store) (site other : State) (held : HeldTables) (log : Log) → HasStore store (opening site held log) → HasStore store (opening other held log)
store_anywhere store site other held log has = record {
  serves = anywhere site other held store has.serves;
  numbers = has.numbers;
  places = has.places;
  is_short = has.is_short;
  few = has.few;
  room = has.room;
  tables = has.tables;
  short = has.short;
}

pub well_anywhere : {W : Type 0} (state : W → State) (core : Kept W) (site : W) → IsWell state core → IsWell state (record core { site = site })
well_anywhere state core site well = record {
  store = well.store;
  has = store_anywhere well.store (state core.site) (state site) core.held core.log well.has;
  few = well.few;
  stored = well.stored;
}

module _ {W : Type 0} (state : W → State) (core : Kept W) (site : W) (m : Machine) where
  works_at : (s : State) → s ≡ state site → ((parts : Parts) (least : ℕ) (life : Life) (restart : Restart) (marks : Marks) → HasLife parts least m life restart marks (opening_of state core)
      → HasLife parts least m life restart marks (opening s core.held core.log))
      → (s.now.files ≡ (state core.site).now.files) → WorksFor state core m → WorksFor state (record core { site = site }) m
  works_at s is has files works = record {
    whole = works.whole;
    life = works.life;
    restart = works.restart;
    marks = works.marks;
    order = works.order;
    has = subst (λ (x : State). HasLife no_parts (acked m) m works.life works.restart works.marks (opening x core.held core.log)) is (has no_parts (acked m) works.life works.restart works.marks works.has);
    works = works.works;
    active = works.active;
    written_at = works.written_at;
    found = record {
      names = works.found.names;
      tables = λ what table. ap (λ (f : FileName → FileState). f (table_file what table)) (ap (λ (x : State). x.now.files) (sym is) ∙ files) ∙ works.found.tables what table;
      redo = works.found.redo;
    };
  }

  spoken : (bytes out : List ℕ) → state site ≡ spoke bytes out (state core.site) → WorksFor state core m → WorksFor state (record core { site = site }) m
  spoken bytes out is works =
      works_at (spoke bytes out (state core.site)) (sym is)
      (λ parts least life restart marks has. record {
        lasts = lasts_told parts least m life restart marks (state core.site).now ((state core.site).now.told ++ out) [] has.lasts;
        store = store_anywhere (last_store life) (state core.site) (spoke bytes out (state core.site)) core.held core.log has.store;
        logged = record {
          held = has.logged.held;
          count = has.logged.count;
          durable = has.logged.durable;
          size = has.logged.size;
          content = has.logged.content;
          file = has.logged.file;
        };
        durable = has.durable;
        tables = has.tables;
        short = has.short;
      }) refl works

  pub works_told : {T : Type 0} (bytes : List ℕ) (result : Result T SiteError) → Tells bytes (state core.site) (state site) result
      → WorksFor state core m → WorksFor state (record core { site = site }) m
  works_told bytes (Ok done) tells works = spoken bytes bytes tells.ok works
  works_told bytes (Err OutOfMemory) tells works = works_at (state core.site) (sym tells.short) (λ parts least life restart marks has. has) refl works
  works_told bytes (Err (Fault fault)) tells works = spoken bytes (take tells.fault.0 bytes) tells.fault.1 works
