-- An add that has entered its job: its words are sound at each place and tally, and it may be stepped. Follows
-- docs/RULES.md, "Steps".
use Rattle.std.specs.Prelude.{◌≡◌, refl, Bool, true, false, ◌&&◌, ◌||◌, List, ℕ, suc, ◌+◌, ◌≤◌, ◌<◌, ltb, eqb}
use Rattle.std.proofs.Common.{arith, ne_eqb, lt-ltb, le-leb, ltb-true}
use Rattle.std.proofs.lemmas.Bool.{eqb-false}
use Rattle.def_basics.specs.Base.{pick}
use Rattle.def_basics.specs.Laws.{never}
use Rattle.def_terms.specs.Terms.{Arguments}
use Rattle.def_terms.specs.declared.Sizes.{Sizes}
use Rattle.def_words.specs.Layout.{Tables, View, view, none, LINKING}
use Rattle.def_words.specs.Words.{place_ok, first_arc, answer_of}
use Rattle.def_words.specs.declared.Plan.{Plan}
use Rattle.def_whole_calls.specs.Whole.{and_then, steps_of}
use Rattle.def_fused.specs.FusedWorker.{Admitted, with_worker, add_worker}
use Rattle.thm_fused_steps.specs.Plans.{record_plan}
use Rattle.thm_fused_steps.specs.Deeds.{record_by, stored_by}
use Rattle.thm_fused_add.specs.Listed.{Right}
use Rattle.thm_fused_add.specs.Room.{room}
use Rattle.thm_fused_add.specs.Stage.{Stage}
use Rattle.thm_fused_add.specs.Halfway.{Open, add_admitted, add_step}

-- the words of an add that entered its job in tables with the view v, k tallied, with this note, at place i
abbrev pub link_words : View → Arguments → (held tally note place : ℕ) → List ℕ
link_words v a held k note i = add_worker LINKING held a k i v.made (first_arc a.count v.reserved) note

-- a place in use stays in use as more are made
place_grows : (p m n size : ℕ) → m ≤ n → place_ok p m size ≡ true → place_ok p n size ≡ true
place_grows p m n size h e = go (eqb p none) (ltb p m) refl e
  where
    go : (b c : Bool) → ltb p m ≡ c → b || (c && ltb p size) ≡ true → b || (ltb p n && ltb p size) ≡ true
    go true c z y = refl
    go false true z y = rw (lt-ltb p n (omega (arith, ltb-true p m z))) y
    go false false z y = never (cc)

-- an add of a that found its names in tables with the view v, and had room there
module _ (s : Sizes) (v : View) (w : ℕ) (known : w < s.workers) (a : Arguments) (fine : Right a) (held : ℕ)
    (hold : place_ok held v.made s.jobs ≡ true) (more : v.made < s.jobs)
    (arcs : v.reserved + a.count ≤ s.arcs) where
  abbrev j : ℕ
  j = v.made

  abbrev x : ℕ
  x = v.reserved

  abbrev first_own : ℕ
  first_own = first_arc a.count x

  module _ (u : Tables) (S : Stage s v a u) where
    pub linking_open : Open s held u
    linking_open = record {
      sizes = S.sizes;
      counters =
          rw (S.made, S.reserved, le-leb (j + 1) s.jobs (omega arith), le-leb (x + a.count) s.arcs arcs);
      hold = rw S.made (place_grows held j (j + 1) s.jobs (omega arith) hold);
    }

    pub own_place : eqb v.made none ≡ false
    own_place = ne_eqb j none (omega (arith, (room s u S.sizes).few))

    job_ok : place_ok j (view u).made s.jobs ≡ true
    job_ok = rw (S.made, own_place, lt-ltb j (j + 1) (omega arith), lt-ltb j s.jobs more)

    arc_ok : place_ok first_own (view u).reserved s.arcs ≡ true
    arc_ok = rw S.reserved (go (eqb a.count 0) refl)
      where
        go : (b : Bool) → eqb a.count 0 ≡ b → place_ok (pick b none x) (x + a.count) s.arcs ≡ true
        go true e = refl
        go false e =
            let d : 0 < a.count = omega (arith, eqb-false a.count 0 e) in
            rw (
              ne_eqb x none (omega (arith, (room s u S.sizes).short)),
              lt-ltb x (x + a.count) (omega arith),
              lt-ltb x s.arcs (omega arith),
            )

    -- a step of this add
    module _ (k note i : ℕ) (hk : k ≤ a.count) (bit : note ≤ 1) (hi : i ≤ a.count) where
      pub linking_stays : Admitted s (with_worker u w (link_words v a held k note i)) w
      linking_stays =
          add_admitted s w known held u linking_open a fine LINKING k i j first_own note (omega arith) hk hi job_ok
          arc_ok bit

      pub linking_steps : (p : Plan) → record_plan s (view u) (link_words v a held k note i) ≡ p → (n : ℕ)
          → steps_of (suc n) s w (with_worker u w (link_words v a held k note i))
          ≡ and_then (answer_of p)
          (with_worker (stored_by p u (link_words v a held k note i)) w (record_by p (link_words v a held k note i)))
          (steps_of n s w)
      linking_steps =
          add_step s w known held u linking_open a fine LINKING k i j first_own note (omega arith) hk hi job_ok arc_ok
          bit refl
