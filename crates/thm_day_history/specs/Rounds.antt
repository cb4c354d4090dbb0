-- "Then rounds: worker 0 gets, worker 1 gets, then each holder in that order finishes, run whole. A round that hands
-- out nothing ends it": where that leads, that the rounds given suffice, and what is handed out.
use Rattle.std.specs.Prelude.{◌≡◌, refl, Bool, true, false, length}
use Rattle.std.proofs.Math.Path.{ap}
use Rattle.std.proofs.Common.{◌∙◌, zero-add, add-zero}
use mathlib.Core.List.{List, [], ◌∷◌, ◌++◌, append-nil, append_assoc}
use Rattle.std.proofs.Math.Option.{Option, none, some}
use Prim.Native.Nat.{ℕ, zero, suc, ◌+◌, ◌≤◌, ◌<◌}
use native.Mathlib.Omega.{arith}
use Rattle.std.proofs.Math.Nat.{add-suc, suc-add}
use Rattle.std.proofs.Math.ListN.{length-append}
use Rattle.def_basics.specs.Base.{pick, update}
use Rattle.def_basics.specs.Laws.{update_other, pick_by}
use Rattle.def_terms.specs.Terms.{finish_of}
use Rattle.def_terms.specs.Runs.{Result}
use Rattle.def_terms.specs.declared.Sizes.{Sizes}
use Rattle.def_terms.specs.declared.Answer.TheVariants.{Ended}
use Rattle.def_words.specs.Layout.{Tables}
use Rattle.def_words.specs.Words.{get_words}
use Rattle.def_rules.specs.Rules.{idle}
use Rattle.def_sheets.proofs.SheetTrip.{Each}
use Rattle.def_whole_calls.specs.Whole.{whole_finish}
use Rattle.def_day.specs.Rounds.{hand_out, get_all, get_round, finish_all, finished, any_holder, hand_outs}
use Rattle.def_day.specs.declared.Holder.{Holder}
use Rattle.def_day.specs.Rounds.{Run, run, rounds}
use Rattle.thm_day_history.specs.Jobs.{All}
use Rattle.thm_day_history.specs.Calls.{During, FinishEnds, ended, GetEnds, handed_out_lem, none_ready_lem, Handing}
use Rattle.thm_day_history.specs.Calls.{Drained, whole_finish_lem, whole_get, moved, few_jobs}
use Rattle.thm_day_history.specs.Adds.{nobody}
use Rattle.thm_day_history.specs.Holders.{Hold, none_left, First, first, holds_more}

-- a list with one more holder has one
never : (hs : List Holder) (x : Holder) → any_holder (hs ++ (x ∷ [])) ≡ false → ⊥
never [] x e = let z : ◌≡◌ {A = ℕ} 0 1 = cc in omega arith
never (y ∷ hs) x e = let z : ◌≡◌ {A = ℕ} 0 1 = cc in omega arith

no_holder : (hs : List Holder) → any_holder hs ≡ false → hs ≡ []
no_holder [] e = refl
no_holder (x ∷ hs) e = let z : ◌≡◌ {A = ℕ} 0 1 = cc in absurd (omega arith)

some_holder : (hs : List Holder) → any_holder hs ≡ true → 0 < length hs
some_holder [] e = let z : ◌≡◌ {A = ℕ} 0 1 = cc in absurd (omega arith)
some_holder (x ∷ hs) e = omega arith

pick_same : {A : Type 0} (b : Bool) {x y : A} (d : A) → (b ≡ true → x ≡ y) → pick b x d ≡ pick b y d
pick_same true d f = f refl
pick_same false d f = refl

nobody_left : (workers : ℕ) (names : ℕ → ℕ) {hold : ℕ → Option ℕ} → Hold workers names hold [] → (v : ℕ) → hold v ≡ none
nobody_left workers names (none_left f) = f

each_append : {A : Type 0} {Q : A → Type 0} {a b : List A} → Each Q a → Each Q b → Each Q (a ++ b)
each_append Each.none e = e
each_append (Each.more q d) e = Each.more q (each_append d e)

module _ (s : Sizes) (n : ℕ) (names : ℕ → ℕ) (P : ℕ → Type 0) (all : All P names) where
  -- a hand-out to one of the workers, of a name of this kind
  abbrev pub Right : Holder → Type 0
  Right h = (h.worker < s.workers) × P h.name

  each_right : (hs : List Holder) {hold : ℕ → Option ℕ} → Hold s.workers names hold hs → Each Right hs
  each_right [] H = Each.none
  each_right (x ∷ hs) H =
      let F = first s.workers names H in
      Each.more {x = x} (F.below, rw F.named (all F.job)) (each_right hs F.others)

  -- ---- the gets of a round that began with h handed out, as far as worker w
  pub record Getting (h w : ℕ) (hs : List Holder) (t : Tables) : Type 0 where
    pub hold : ℕ → Option ℕ
    pub handed : ℕ
    pub now : During s n handed hold names 0 idle t
    pub holds : Hold s.workers names hold hs
    pub free : (v : ℕ) → w ≤ v → hold v ≡ none
    pub count : handed ≡ h + length hs
    pub empty : any_holder hs ≡ false → 0 < w → now.graph.queue ≡ []

  one_get : (h w : ℕ) (hs : List Holder) (t : Tables) (G : Getting h w hs t) (hw : w < s.workers)
      (free : G.hold w ≡ none) (o : Result Tables)
      → GetEnds (Handing s w hw n G.handed G.hold names free)
      (Drained s w hw n G.handed G.hold names free) o
      → Getting h (suc w) (hs ++ hand_out w o.answer) o.state
  one_get h w hs t G hw free o (handed_out_lem {h = out} H) = record {
    hold = update G.hold w (some out.job);
    handed = suc G.handed;
    now = moved H.now 0;
    holds = holds_more s.workers names w hw out.job out.name H.same_name G.holds free;
    free = λ v l. update_other G.hold w (some out.job) v (λ e. omega arith) ∙ G.free v (omega arith);
    count = rw length-append (omega (arith, G.count));
    empty = λ e l. absurd (never hs _ e);
  }
  one_get h w hs t G hw free o (none_ready_lem D) = rw append-nil (record {
    hold = G.hold;
    handed = G.handed;
    now = moved D.now 0;
    holds = G.holds;
    free = λ v l. G.free v (omega arith);
    count = G.count;
    empty = λ e l. D.empty;
  })

  one_worker : (h m w : ℕ) (hs : List Holder) (t : Tables) → w + suc m ≡ s.workers → Getting h w hs t
      → ((ks : List Holder) (u : Tables) → Getting h (suc w) ks u
      → Getting h (suc w + m) (ks ++ (get_all s m (suc w) u).holders) (get_all s m (suc w) u).state)
      → Getting h (w + suc m) (hs ++ (get_all s (suc m) w t).holders) (get_all s (suc m) w t).state
  unfolding get_all
  one_worker h m w hs t e G rest =
      let hw : w < s.workers = omega arith in
      let free : G.hold w ≡ none = G.free w (omega arith) in
      let o = whole_get s w hw n G.handed G.hold names free t (moved G.now w) in
      let u = (get_words s t w).state in
      rw (
        add-suc,
        ← suc-add,
        ← append_assoc hs (hand_out w (get_words s t w).answer) (get_all s m (suc w) u).holders,
      )
      (rest _ u (one_get h w hs t G hw free _ o))

  gets : (h m w : ℕ) (hs : List Holder) (t : Tables) → w + m ≡ s.workers → Getting h w hs t
      → Getting h (w + m) (hs ++ (get_all s m w t).holders) (get_all s m w t).state
  unfolding get_all
  gets h zero w hs t e G = rw (add-zero, append-nil) G
  gets h (suc m) w hs t e G = one_worker h m w hs t e G (λ ks u F. gets h m (suc w) ks u (omega arith) F)

  -- ---- the finishes of a round: nobody holds a job then
  module _ (h : ℕ) where
    abbrev pub Free : Tables → Type 0
    Free t = During s n h nobody names 0 idle t

    -- the finish of the first holder ends
    ends : (o : Result Tables) (P : Tables → Type 0) → FinishEnds P o → (o.answer ≡ Ended) × P o.state
    ends o P (ended D) = (refl, D)

    first_ends : {hold : ℕ → Option ℕ} (x : Holder) (hs : List Holder) (F : First s.workers names hold x hs)
        (t : Tables)
        → During s n h hold names 0 idle t
        → ((whole_finish s t x.worker (finish_of x.name false)).answer ≡ Ended)
        × During s n h (update hold x.worker none) names 0 idle
        (whole_finish s t x.worker (finish_of x.name false)).state
    first_ends {hold} x hs F t D = rw F.named
        (let o = whole_finish_lem s x.worker F.below n h hold names F.job F.held t (moved D x.worker) in
        let e = ends _ _ o in
        (e.0, moved e.1 0))

    abbrev none_holds : (hold : ℕ → Option ℕ) (t : Tables) → ((v : ℕ) → hold v ≡ none)
        → During s n h hold names 0 idle t
        → Free t
    none_holds hold t f D = record {
      graph = D.graph;
      at = D.at;
      jobs = D.jobs;
      team = record { held = λ v. D.team.held v ∙ f v; own = D.team.own; others = D.team.others };
    }

    finishes : (hs : List Holder) {hold : ℕ → Option ℕ} → Hold s.workers names hold hs → (t : Tables)
        → During s n h hold names 0 idle t
        → Free (finish_all s hs t)
    unfolding finish_all
    finishes [] {hold} H t D = none_holds hold t (nobody_left s.workers names H) D
    finishes (x ∷ hs) H t D =
        let F = first s.workers names H in
        finishes hs F.others _ (first_ends x hs F t D).1

    -- and so does each
    finish_ends : (hs : List Holder) (x : Holder) (rest : List Holder) (hold : ℕ → Option ℕ) (t : Tables)
        → Hold s.workers names hold (hs ++ (x ∷ rest))
        → During s n h hold names 0 idle t
        → (whole_finish s (finish_all s hs t) x.worker (finish_of x.name false)).answer ≡ Ended
    unfolding finish_all
    finish_ends [] x rest hold t H D = (first_ends x rest (first s.workers names H) t D).0
    finish_ends (y ∷ hs) x rest hold t H D =
        let F = first s.workers names H in
        finish_ends hs x rest (update hold y.worker none) _ F.others (first_ends y _ F t D).1

  -- ---- the rounds
  -- the day is over: nobody holds a job, and none waits
  pub record Over (h : ℕ) (r : Run) : Type 0 where
    pub handed : ℕ
    pub now : During s n handed nobody names 0 idle r.state
    pub empty : now.graph.queue ≡ []
    pub count : handed ≡ h + length (hand_outs r.rounds)
    pub right : Each Right (hand_outs r.rounds)

  module _ (some_worker : 0 < s.workers) where
    -- a round that begins with nobody holding a job
    module _ (h : ℕ) (t : Tables) (F : Free h t) where
      pub round : Getting h s.workers (get_round s t).holders (get_round s t).state
      round =
          let G : Getting h 0 [] t = record {
            hold = nobody;
            handed = h;
            now = F;
            holds = none_left (λ v. refl);
            free = λ v l. refl;
            count = omega arith;
            empty = λ e l. absurd (omega arith);
          } in
          rw zero-add at (gets h s.workers 0 [] t (omega arith) G)

      abbrev pub after : ℕ
      after = round.handed

      -- it hands out nothing
      round_over : any_holder (get_round s t).holders ≡ false → Over h (run (get_round s t).state [])
      unfolding hand_outs
      round_over e =
          let none_holding = no_holder (get_round s t).holders e in
          let H = rw none_holding at round.holds in
          record {
            handed = after;
            now = none_holds _ round.hold _ (nobody_left s.workers names H) round.now;
            empty = round.empty e some_worker;
            count = rw none_holding at round.count;
            right = Each.none;
          }

      -- it hands out something
      pub round_finished : Free after (finished s (get_round s t))
      round_finished = finishes _ _ round.holds _ round.now

      pub round_ends : (hs : List Holder) (x : Holder) (rest : List Holder) → (get_round s t).holders ≡ hs ++ (x ∷ rest)
          → (whole_finish s (finish_all s hs (get_round s t).state) x.worker (finish_of x.name false)).answer ≡ Ended
      round_ends hs x rest e = finish_ends _ hs x rest round.hold _ (rw e at round.holds) round.now

      round_more : any_holder (get_round s t).holders ≡ true → h < after
      round_more e = omega (arith, round.count, some_holder (get_round s t).holders e)

      round_then : (r : Run) → Over after r → Over h (run r.state ((get_round s t).holders ∷ r.rounds))
      unfolding hand_outs
      round_then r O = record {
        handed = O.handed;
        now = O.now;
        empty = O.empty;
        count =
            omega (arith, O.count, round.count, length-append (get_round s t).holders (hand_outs r.rounds));
        right = each_append (each_right (get_round s t).holders round.holds) O.right;
      }

    -- R + 1 rounds suffice
    pub rounds_over : (k h : ℕ) (t : Tables) → Free h t → s.jobs < k + h → Over h (rounds k s t)
    unfolding rounds
    rounds_over zero h t F l = absurd (omega (arith, few_jobs F))
    rounds_over (suc k) h t F l =
        pick_by (Over h) (any_holder (get_round s t).holders)
        (λ e. round_then h t F _ (rounds_over k _ _ (round_finished h t F) (omega (arith, round_more h t F e))))
        (λ e. round_over h t F e)

    -- and more of them change nothing
    pub rounds_same : (k l h : ℕ) (t : Tables) → Free h t → s.jobs < k + h → s.jobs < l + h
        → rounds k s t ≡ rounds l s t
    unfolding rounds
    rounds_same zero l h t F y z = absurd (omega (arith, few_jobs F))
    rounds_same (suc k) zero h t F y z = absurd (omega (arith, few_jobs F))
    rounds_same (suc k) (suc l) h t F y z =
        pick_same (any_holder (get_round s t).holders) _ λ e.
        let m = round_more h t F e in
        ap (λ (r : Run). run r.state ((get_round s t).holders ∷ r.rounds))
        (rounds_same k l _ _ (round_finished h t F) (omega arith) (omega arith))
