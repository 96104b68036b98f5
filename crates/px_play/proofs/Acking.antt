-- At each moment of a turn the files have what was acknowledged by then.
use Rattle.std.proofs.Common.{◌≡◌, ◌⊎◌, ℕ, zero, suc, ◌+◌, ◌-◌, ◌^◌, ◌<◌, ◌≤◌, List, [], ◌∷◌, ◌++◌, length, take, drop, Result, Ok, Err, refl, sym, ap, subst, ◌∙◌, append_assoc, inl, inr, arith}
use Rattle.std.proofs.lemmas.List.{append-nil, drop_at, take_all}
use Rattle.px_site.specs.State.{State, Moment, history, EachMoment, spoke, telling, told}
use Rattle.px_site.proofs.Moments.{weaker_moments, same_moment}
use Rattle.px_model.specs.declared.row.Row.{Row}
use Rattle.px_model.specs.Machine.{Machine, commits, published}
use Rattle.px_calls.specs.declared.reply.Reply.TheVariants.{Committed}
use Rattle.px_calls.specs.declared.status.Status.{Status}
use Rattle.px_calls.specs.declared.status.Status.TheVariants.{OutputFault}
use Rattle.px_calls.specs.Texts.{reply_text}
use Rattle.px_script.specs.Lines.{open_line}
use Rattle.px_logged.specs.Growing.{KeepsOpening}
use Rattle.px_engine.specs.Engine.{Engine}
use Rattle.px_engine.specs.Requests.{Request, Ask, Stat, after_request, after_requests, answer_text, steps_of}
use Rattle.px_engine.proofs.Stepping.{machine_of_requests, step_keeps_opening, steps_commit, steps_keep_opening, steps_published}
use Rattle.px_cell_standing.specs.Standing.{StandsFor}
use Rattle.px_standing.specs.Files.{Files}
use Rattle.px_cell_standing.specs.Images.{HasBetween, HasCommitted, StandsBetween}
use Rattle.px_standing.specs.Images.{IsPlainImage, acked}
use Rattle.px_play.specs.Acknowledged.{acknowledged, HoldsAcknowledged, KeepsAcknowledged}
use Rattle.px_play.specs.Turns.{Acknowledges, TellsText}
use Rattle.px_play.proofs.Parts.{open_behind}
use Rattle.px_play.proofs.Replies.{IsQuiet, quiet_acknowledged, committed_acknowledged, committed_front, committed_whole}
use Rattle.px_play.proofs.Committing.{SaysCommit, says_commit}
use Rattle.px_play.proofs.Stays.{StandsWhole}

-- ---- what is asked for behind a request

-- what a machine has committed is in a later one
pub record Follows (m later : Machine) : Type 0 where
  pub opening : KeepsOpening m later
  pub rises : commits m ≤ commits later
  pub stays : (count : ℕ) → count ≤ commits m - m.before → published later count ≡ published m count

-- a machine before a request, behind it, and behind others too; and the answer's text
pub record Goes (m next later : Machine) (text : List ℕ) : Type 0 where
  pub says : SaysCommit m next text
  pub before : next.before ≡ m.before
  pub follows : Follows next later

pub follow : (e : Engine) (requests : List Request) → Follows e.machine (after_requests e requests).machine
follow e requests =
    subst (Follows e.machine) (sym (machine_of_requests e requests)) (record {
      opening = steps_keep_opening e.machine (steps_of requests);
      rises = steps_commit e.machine (steps_of requests);
      stays = steps_published e.machine (steps_of requests);
    })

before_stays : (e : Engine) (request : Request) → (after_request e request).machine.before ≡ e.machine.before
before_stays e (Ask step) = (step_keeps_opening e.machine step).before
before_stays e Stat = refl

pub goes : (e : Engine) (request : Request) (requests : List Request) → Goes e.machine (after_request e request).machine (after_requests e (request ∷ requests)).machine (answer_text e request)
goes e request requests = record { says = says_commit e request; before = before_stays e request; follows = follow (after_request e request) requests }

-- ---- what is acknowledged by an answer

-- by a front of it: what was before it, or all that the request made
fronts : {m next later : Machine} {text : List ℕ} (g : Goes m next later text) (so_far : List ℕ) (few : ℕ) → open_line so_far ≡ [] → acknowledged m.before so_far ≡ commits m → commits next < 2 ^ 64
    → (acknowledged m.before (so_far ++ take few text) ≡ commits m) ⊎ (acknowledged m.before (so_far ++ take few text) ≡ commits next)
fronts {m} {next} {later} {text} g so_far few whole all fits = by_text g.says
  where
    by_text : SaysCommit m next text → (acknowledged m.before (so_far ++ take few text) ≡ commits m) ⊎ (acknowledged m.before (so_far ++ take few text) ≡ commits next)
    by_text (inl commit) =
        let same : acknowledged m.before (so_far ++ take few text) ≡ acknowledged m.before (so_far ++ take few (reply_text (Committed (commits m + 1)))) =
        ap (λ (b : List ℕ). acknowledged m.before (so_far ++ take few b)) commit.0 in
        elim (committed_front m.before so_far (commits m + 1) few whole (omega (arith, fits, commit.1))) [
          | inl none ↦ inl (same ∙ none ∙ all)
          | inr one ↦ inr (same ∙ one ∙ sym commit.1)
        ]
    by_text (inr other) = inl (quiet_acknowledged m.before so_far text few whole other.0 ∙ all)

-- by all of it: all that the request made
whole_answer : {m next later : Machine} {text : List ℕ} (g : Goes m next later text) (so_far : List ℕ) → open_line so_far ≡ [] → acknowledged m.before so_far ≡ commits m → commits next < 2 ^ 64
    → acknowledged m.before (so_far ++ text) ≡ commits next
whole_answer {m} {next} {later} {text} g so_far whole all fits = by_text g.says
  where
    by_text : SaysCommit m next text → acknowledged m.before (so_far ++ text) ≡ commits next
    by_text (inl commit) =
        ap (λ (b : List ℕ). acknowledged m.before (so_far ++ b)) commit.0
        ∙ committed_acknowledged m.before so_far (commits m + 1) whole (omega (arith, fits, commit.1)) ∙ sym commit.1
    by_text (inr other) =
        ap (λ (b : List ℕ). acknowledged m.before (so_far ++ b)) (sym (take_all (length text) text (omega arith)))
        ∙ quiet_acknowledged m.before so_far text (length text) whole other.0 ∙ all ∙ sym other.1

-- an answer's text is whole lines
pub text_whole : (m next : Machine) {text : List ℕ} → SaysCommit m next text → open_line text ≡ []
text_whole m next {text} (inl commit) = ap open_line commit.0 ∙ committed_whole (commits m + 1)
text_whole m next (inr other) = other.0.whole

-- once an answer is told, what was told acknowledges just what the machine has committed
pub acknowledges_next : {before : List ℕ} {s now : State} (e : Engine) (request : Request) → Acknowledges before e.machine s → now.now.told ≡ s.now.told ++ answer_text e request → commits (after_request e request).machine < 2 ^ 64
    → Acknowledges before (after_request e request).machine now
acknowledges_next {before} {s} {now} e request acks tells fits =
    let text : List ℕ = answer_text e request in
    let g = goes e request [] in
    record {
      so_far = acks.so_far ++ text;
      told = tells ∙ ap (λ (b : List ℕ). b ++ text) acks.told ∙ append_assoc before acks.so_far text;
      whole = open_behind acks.so_far text acks.whole ∙ text_whole e.machine (after_request e request).machine g.says;
      all = ap (λ (b : ℕ). acknowledged b (acks.so_far ++ text)) g.before ∙ whole_answer g acks.so_far acks.whole acks.all fits;
    }

-- ---- one image

-- the files have what a machine on the way has published by a commit before which all is acknowledged but one at most
holds_between : (on_way later : Machine) (follows : Follows on_way later) (so_far : List ℕ) (image : Files) (least : ℕ) (has : HasBetween least (commits on_way) on_way image) → acknowledged on_way.before so_far ≤ has.count → has.count ≤ acknowledged on_way.before so_far + 1
    → HoldsAcknowledged later so_far image
holds_between on_way later follows so_far image least has no_less one_ahead =
    let same : later.before ≡ on_way.before = follows.opening.before in
    let rows : published on_way (has.count - on_way.before) ≡ published later (has.count - later.before) =
    sym (follows.stays (has.count - on_way.before) (omega (arith, has.no_more))) ∙ ap (λ (b : ℕ). published later (has.count - b)) (sym same) in
    record {
      count = has.count;
      no_less = subst (λ (b : ℕ). acknowledged b so_far ≤ has.count) (sym same) no_less;
      one_ahead = subst (λ (b : ℕ). has.count ≤ acknowledged b so_far + 1) (sym same) one_ahead;
      made = omega (arith, has.no_more, follows.rises);
      stands = subst (λ (r : List Row). StandsFor image has.count r) rows has.stands;
    }

-- the same of all that it has committed
pub holds_at : (on_way later : Machine) → Follows on_way later → (so_far : List ℕ) (image : Files) → HasCommitted on_way image → acknowledged on_way.before so_far ≤ commits on_way → commits on_way ≤ acknowledged on_way.before so_far + 1
    → HoldsAcknowledged later so_far image
holds_at on_way later follows so_far image has no_less one_ahead =
    holds_between on_way later follows so_far image (commits on_way) (record { count = commits on_way; no_less = omega arith; no_more = omega arith; stands = has }) no_less one_ahead

pub nothing_taken : (n : ℕ) (l : List ℕ) → l ≡ [] → take n l ≡ []
nothing_taken n l none = ap (take n) none ∙ of_nil n
  where
    of_nil : (n : ℕ) → take n (take 0 l) ≡ []
    of_nil zero = refl
    of_nil (suc n) = refl

-- what is out at a moment, behind what was told before the run
pub out_behind : (before so_far text out told_now : List ℕ) (few : ℕ) → out ≡ told_now ++ take few text → told_now ≡ before ++ so_far → drop (length before) out ≡ so_far ++ take few text
out_behind before so_far text out told_now few is told_is =
    ap (drop (length before)) (is ∙ ap (λ (b : List ℕ). b ++ take few text) told_is ∙ append_assoc before so_far (take few text))
    ∙ drop_at before (so_far ++ take few text) (length before) refl

-- ---- while the step is made

commits_on : (m next : Machine) {text : List ℕ} → SaysCommit m next text → (commits m ≤ commits next) × (commits next ≤ commits m + 1)
commits_on m next says =
    elim says [
      | inl commit ↦ (omega (arith, commit.1), omega (arith, commit.1))
      | inr other ↦ (omega (arith, other.1), omega (arith, other.1))
    ]

step_moment : {before : List ℕ} {m next later : Machine} {text : List ℕ} {a : State} → Goes m next later text → Acknowledges before m a → (moment : Moment) → StandsBetween (acked m) (commits next) next a.now moment
    → KeepsAcknowledged later before moment
step_moment {before} {m} {next} {later} {text} {a} g acks moment stands = record {
  each = λ image out plain is_out.
      let same : drop (length before) out ≡ acks.so_far =
      out_behind before acks.so_far moment.telling out moment.told is_out.front is_out.text (stands.told ∙ acks.told)
      ∙ ap (λ (b : List ℕ). acks.so_far ++ b) (nothing_taken is_out.front moment.telling stands.telling) ∙ append-nil acks.so_far in
      subst (λ (b : List ℕ). HoldsAcknowledged later b image) (sym same) (by_stand image (stands.each image plain));
  told_later = (acks.so_far, stands.told ∙ acks.told);
}
  where
    by_stand : (image : Files) → HasBetween (acked m) (commits next) next image → HoldsAcknowledged later acks.so_far image
    by_stand image has =
        let same : acknowledged next.before acks.so_far ≡ commits m = ap (λ (b : ℕ). acknowledged b acks.so_far) g.before ∙ acks.all in
        holds_between next later g.follows acks.so_far image (acked m) has (omega (arith, same, has.no_less)) (omega (arith, same, has.no_more, (commits_on m next g.says).1))

pub step_moments : {before : List ℕ} {m next later : Machine} {text : List ℕ} {a b : State} → Goes m next later text → Acknowledges before m a → EachMoment (StandsBetween (acked m) (commits next) next a.now) a b
    → EachMoment (KeepsAcknowledged later before) a b
step_moments g acks moments = weaker_moments (λ moment stands. step_moment g acks moment stands) moments

-- ---- while the answer is told

-- the request is done, and a front of its answer is out
answer_out : {before : List ℕ} {m next later : Machine} {text : List ℕ} {a b : State} (g : Goes m next later text) (acks : Acknowledges before m a) → StandsWhole next b
    → (image : Files) (few : ℕ) → IsPlainImage b.now image → HoldsAcknowledged later (acks.so_far ++ take few text) image
answer_out {before} {m} {next} {later} {text} {a} {b} g acks whole image few plain =
    let out : List ℕ = acks.so_far ++ take few text in
    let same : acknowledged next.before out ≡ acknowledged m.before out = ap (λ (n : ℕ). acknowledged n out) g.before in
    let on = commits_on m next g.says in
    elim (fronts g acks.so_far few acks.whole acks.all whole.few) [
      | inl old ↦ holds_at next later g.follows out image (whole.images.each image plain) (omega (arith, same, old, on.0)) (omega (arith, same, old, on.1))
      | inr new ↦ holds_at next later g.follows out image (whole.images.each image plain) (omega (arith, same, new)) (omega (arith, same, new))
    ]

telling_moment : {before : List ℕ} {m next later : Machine} {text : List ℕ} {a b : State} → Goes m next later text → Acknowledges before m a → b.now.told ≡ a.now.told
    → StandsWhole next b → KeepsAcknowledged later before (telling text b.now)
telling_moment {before} {m} {next} {later} {text} {a} {b} g acks same whole = record {
  each = λ image out plain is_out.
      let behind : drop (length before) out ≡ acks.so_far ++ take is_out.front text =
      out_behind before acks.so_far text out b.now.told is_out.front is_out.text (same ∙ acks.told) in
      subst (λ (o : List ℕ). HoldsAcknowledged later o image) (sym behind)
      (answer_out g acks whole image is_out.front (record { each = plain.each; first = plain.first; second = plain.second; log = plain.log }));
  told_later = (acks.so_far, same ∙ acks.told);
}

told_moment : {before : List ℕ} {m next later : Machine} {text : List ℕ} {a b : State} → Goes m next later text → Acknowledges before m a → b.now.told ≡ a.now.told
    → StandsWhole next b → (few : ℕ) → KeepsAcknowledged later before (told (take few text) b.now)
told_moment {before} {m} {next} {later} {text} {a} {b} g acks same whole few =
    let part : List ℕ = take few text in
    let told_is : b.now.told ++ part ≡ before ++ (acks.so_far ++ part) = ap (λ (o : List ℕ). o ++ part) (same ∙ acks.told) ∙ append_assoc before acks.so_far part in
    record {
      each = λ image out plain is_out.
          let behind : drop (length before) out ≡ acks.so_far ++ part =
          out_behind before (acks.so_far ++ part) [] out (b.now.told ++ part) is_out.front is_out.text told_is
          ∙ ap (λ (o : List ℕ). acks.so_far ++ part ++ o) (nothing_taken is_out.front [] refl) ∙ append-nil (acks.so_far ++ part) in
          subst (λ (o : List ℕ). HoldsAcknowledged later o image) (sym behind)
          (answer_out g acks whole image few (record { each = plain.each; first = plain.first; second = plain.second; log = plain.log }));
      told_later = (acks.so_far ++ part, told_is);
    }

pub spoke_moments : {P : Moment → Type 0} {b c : State} (text out : List ℕ) → c ≡ spoke text out b → P (telling text b.now) → P (told out b.now) → EachMoment P b c
spoke_moments {P} {b} text out e within after = record { added = told out b.now ∷ telling text b.now ∷ []; grown = ap history e; each = (after, (within, tt)) }

pub answer_moments : {before : List ℕ} {m next later : Machine} {text : List ℕ} {a b c : State} → Goes m next later text → Acknowledges before m a → b.now.told ≡ a.now.told
    → StandsWhole next b → (result : Result (Unit {0}) Status) → TellsText text b c result → EachMoment (KeepsAcknowledged later before) b c
answer_moments {before} {m} {next} {later} {text} {a} {b} {c} g acks same whole result tells = by_result result tells
  where
    fronted : (few : ℕ) → c ≡ spoke text (take few text) b → EachMoment (KeepsAcknowledged later before) b c
    fronted few e = spoke_moments text (take few text) e (telling_moment g acks same whole) (told_moment g acks same whole few)

    by_result : (result : Result (Unit {0}) Status) → TellsText text b c result → EachMoment (KeepsAcknowledged later before) b c
    by_result (Ok done) e = fronted (length text) (e ∙ ap (λ (out : List ℕ). spoke text out b) (sym (take_all (length text) text (omega arith))))
    by_result (Err OutputFault) e = fronted e.0 e.1
    by_result (Err _) e = same_moment e
