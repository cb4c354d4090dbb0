-- Settling and notifying: a remaining count stored, and the job put in the queue where the rules put it there. Follows
-- docs/RULES.md, "Steps": settling, and the step for one arc.
use Rattle.std.specs.Prelude.{◌≡◌, refl, ◌≢◌, Bool, true, false, ◌||◌, List, [], ◌∷◌, ◌++◌, ℕ, suc, ◌+◌, ◌-◌, ◌<◌, eqb, length, set}
use Rattle.std.proofs.Common.{ap, ◌∙◌, arith, length-append}
use Rattle.def_terms.specs.Terms.{settles, bit, Tally}
use Rattle.def_basics.specs.Laws.{update_same}
use Rattle.def_terms.specs.declared.Sizes.{Sizes}
use Rattle.def_words.specs.Columns.{columns, store}
use Rattle.def_words.specs.Layout.{NAME, LABEL, COUNT, CLASS, GROWER, FIRST, LAST, NEXT, OUTCOME, SPOILED, QUEUED}
use Rattle.def_words.specs.Layout.{worker_shape, NOTE, tables, view, Tables, View}
use Rattle.def_words.specs.Index.{levels, put_seat}
use Rattle.def_words.specs.Words.{applied, put_count}
use Rattle.def_words.specs.Observed.{jobs_in}
use Rattle.def_words.specs.declared.Plan.TheVariants.{Settle, SettleQueue, Notify, NotifyQueue}
use Rattle.def_rules.specs.Rules.{Call, Worker, Graph, job, lowered, settled, notified, with_jobs, with_queue}
use Rattle.def_rules.specs.Rules.{with_workers}
use Rattle.def_rules.specs.Sound.{Sound, MayQueue, started}
use Rattle.thm_representation.specs.Rep.{Ghost, Row, Index, Unused, TablesRep, Stands}
use Rattle.thm_representation_kept.specs.Stand.{TablesStand, view_of, limits_of}
use Rattle.thm_representation_kept.specs.Change.{started_set, change_rep, row_other, JobsAfter, no_store}
use Rattle.thm_representation_kept.specs.Change.{one_store}
use Rattle.thm_representation_kept.specs.Change.{job_stands}
use Rattle.thm_representation_kept.specs.InSlots.{slot_has, index_kept}
use Rattle.thm_representation_kept.specs.Unused.{unused_put}
use Rattle.thm_representation_kept.specs.Slots.{seat_put}
use Rattle.thm_representation_kept.specs.Queue.{seat_of, entering, put_fits, queue_put, index_put, slots_within}

-- the graph with job j's count c, spoiled where it was or b holds, and the queue q
abbrev counted : Graph → ℕ → ℕ → Bool → List ℕ → (ℕ → Worker) → Graph
counted g j c b q h = with_jobs (with_queue (with_workers g h) q) (set g.jobs j (lowered (job g j) c b))

-- the columns f after: the spoiled word is stored only where the job is spoiled
abbrev counted_jobs : (ℕ → ℕ → ℕ) → (job count : ℕ) → Bool → ℕ → ℕ → ℕ
counted_jobs f j c true = store (store f j COUNT c) j SPOILED 1
counted_jobs f j c false = store f j COUNT c

or-true : (a : Bool) → (a || true) ≡ true
or-true true = refl
or-true false = refl

or_false : (a : Bool) → (a || false) ≡ a
or_false true = refl
or_false false = refl

-- ---- over the maps
module _ (s : Sizes) (v : View) (g : Graph) (G : Ghost) (R : TablesRep s v g G) (j : ℕ) (hj : j < length g.jobs)
    (c : ℕ) (b : Bool) (r : ℕ → ℕ → ℕ) (h : ℕ → Worker) where
  abbrev f : ℕ → ℕ → ℕ
  f = counted_jobs v.job j c b

  -- a column other than the count and the spoiled word
  column : (x : Bool) (q : ℕ) → eqb q COUNT ≡ false → eqb q SPOILED ≡ false → counted_jobs v.job j c x q ≡ v.job q
  column true q e d = rw (e, d)
  column false q e d = rw e

  -- what is stored of the job
  counts : (x : Bool) → counted_jobs v.job j c x COUNT j ≡ c
  counts true = update_same (v.job COUNT) j c
  counts false = update_same (v.job COUNT) j c

  spoiled_word_lem : (x : Bool) → v.job SPOILED j ≡ bit (job g j).spoiled
      → counted_jobs v.job j c x SPOILED j ≡ bit ((job g j).spoiled || x)
  spoiled_word_lem true e = rw (or-true (job g j).spoiled) (update_same (v.job SPOILED) j 1)
  spoiled_word_lem false e = rw (or_false (job g j).spoiled) e

  here : j < s.jobs → Row f j (G.via j) (lowered (job g j) c b)
  here e =
      let o = R.rows j e in
      let same : (q : ℕ) → eqb q COUNT ≡ false → eqb q SPOILED ≡ false → f q j ≡ v.job q j =
      λ q x y. ap (λ k. k j) (column b q x y) in
      record {
        name = same NAME refl refl ∙ o.name;
        label = same LABEL refl refl ∙ o.label;
        count = counts b;
        class = same CLASS refl refl ∙ o.class;
        grower = same GROWER refl refl ∙ o.grower;
        first = same FIRST refl refl ∙ o.first;
        last = same LAST refl refl ∙ o.last;
        outcome = same OUTCOME refl refl ∙ o.outcome;
        spoiled = spoiled_word_lem b o.spoiled;
      }

  others : (x : Bool) (k : ℕ) → k ≢ j → k < s.jobs → Row (counted_jobs v.job j c x) k (G.via k) (job g k)
  others true k e d =
      row_other (store v.job j COUNT c) j SPOILED 1 k e (row_other v.job j COUNT c k e (R.rows k d))
  others false k e d = row_other v.job j COUNT c k e (R.rows k d)

  there : (k : ℕ) → k ≢ j → k < s.jobs → Row f k (G.via k) (job g k)
  there = others b

  same : started g.jobs ≡ started (set g.jobs j (lowered (job g j) c b))
  same = omega (arith, started_set g.jobs j (lowered (job g j) c b) hj)

  count_rep : TablesRep s (view_of v.made v.reserved v.taken v.put f v.arc v.bucket v.cell r)
      (counted g j c b g.queue h) G
  count_rep =
      change_rep s v g G R j hj (lowered (job g j) c b) refl refl f v.cell (column b NAME refl refl)
      (column b NEXT refl refl) v.taken v.put g.queue r h here there
      (R.taken ∙ same)
      R.put
      R.queue
      (index_kept v (length g.queue) R.index _ _ _ f _ _ r
      (λ p x e. ap (λ k. k (v.cell QUEUED p)) (column b CLASS refl refl)))
      R.unused

  -- the job is put in the queue
  queue_rep : (taken puts : ℕ) (k : ℕ → ℕ → ℕ) → taken ≡ v.taken → puts ≡ v.put + 1
      → jobs_in (k QUEUED) 0 puts ≡ g.queue ++ (j ∷ [])
      → Index (view_of v.made v.reserved taken puts f v.arc v.bucket k r) (suc (length g.queue))
      → Unused s.jobs (v.put + 1) (suc (length g.queue)) k
      → TablesRep s (view_of v.made v.reserved taken puts f v.arc v.bucket k r)
      (counted g j c b (g.queue ++ (j ∷ [])) h)
      G
  queue_rep taken puts k a d q I U =
      let longer : length (g.queue ++ (j ∷ [])) ≡ suc (length g.queue) =
      omega (arith, length-append g.queue (j ∷ [])) in
      change_rep s v g G R j hj (lowered (job g j) c b) refl refl f k (column b NAME refl refl)
      (column b NEXT refl refl) taken puts (g.queue ++ (j ∷ [])) r h
      here
      there
      (a ∙ R.taken ∙ same)
      (omega (arith, R.put))
      q
      (rw longer I)
      (rw (longer, d) U)

-- ---- over the words
module _ (s : Sizes) (t : Tables) (g : Graph) (G : Ghost) (S : Stands s t g G) (O : Sound s g) where
  abbrev R : TablesRep s (view t) g G
  R = S.rep

  -- the note of the worker says whether the job is spoiled
  count_after : (j c note : ℕ) (b : Bool) → j < length g.jobs → note ≡ bit b
      → JobsAfter s t.jobs (put_count t.jobs j c note) (counted_jobs (view t).job j c b)
  count_after j c note true hj e =
      let h : j < s.jobs = omega (arith, O.jobs) in
      rw e (one_store j SPOILED 1 refl h (one_store j COUNT c refl h (no_store s t.jobs S.jobs)))
  count_after j c note false hj e =
      let h : j < s.jobs = omega (arith, O.jobs) in
      rw e (one_store j COUNT c refl h (no_store s t.jobs S.jobs))

  count_stands : (j : ℕ) → j < length g.jobs → (c note : ℕ) (b : Bool) → note ≡ bit b → (l : List ℕ) (h : ℕ → Worker)
      → TablesStand s (tables (put_count t.jobs j c note) t.arcs t.buckets t.queue l)
      (counted g j c b g.queue h) G
  count_stands j hj c note b e l h =
      job_stands s t g G S (count_after j c note b hj e) t.queue l _ S.queue
      (count_rep s (view t) g G R j hj c b (columns worker_shape l) h)
      refl

  queue_stands : (j : ℕ) (hj : j < length g.jobs) (M : MayQueue g j) (c note : ℕ) (b : Bool) → note ≡ bit b
      → (l : List ℕ) (h : ℕ → Worker)
      → TablesStand s
      (tables (put_count t.jobs j c note) t.arcs t.buckets
      (put_seat t.queue (seat_of s t g G S O j hj M) j) l)
      (counted g j c b (g.queue ++ (j ∷ [])) h)
      G
  queue_stands j hj M c note b e l h =
      let d : (view t).put < s.jobs = put_fits s t g G S O j hj M in
      let q = seat_put s.jobs t.queue S.queue j (view t).put (length g.queue)
      (entering s t g G S O j hj M).at d (omega (arith, R.put)) (entering s t g G S O j hj M).within
      (slots_within s t g G S O) in
      job_stands s t g G S (count_after j c note b hj e) _ l _ q.rows
      (queue_rep s (view t) g G R j hj c b (columns worker_shape l) h _ _ _ q.taken q.puts
      (rw (q.puts, q.cells) (queue_put s t g G S O j hj M))
      (index_put s t g G S O j hj M _ q.puts
      (column s (view t) g G R j hj c b (columns worker_shape l) h b CLASS refl refl) q.cells q.slots
      q.positions)
      (unused_put s.jobs (view t).put (omega (arith, (limits_of s S.limits).jobs)) (view t).cell _
      (length g.queue) (entering s t g G S O j hj M).at levels j R.unused (omega (arith, R.put))
      (omega (arith, (limits_of s S.limits).jobs)) (slot_has (view t) (length g.queue) R.index) q.cells
      q.slots q.positions))
      refl

  pub settle_stands : (w j : ℕ) (u : Tally) (d : ℕ) → (view t).worker NOTE w ≡ bit u.noted → j < length g.jobs
      → settles ((job g j).count - u.count) u.count d ≡ false
      → TablesStand s (applied (Settle j ((job g j).count - u.count)) t w) (settled g w j u d) G
  unfolding applied
  settle_stands w j u d n hj e = rw e (count_stands j hj ((job g j).count - u.count) _ u.noted n _ _)

  pub settle_queue_stands : (w j : ℕ) (u : Tally) (d : ℕ) → (view t).worker NOTE w ≡ bit u.noted
      → (hj : j < length g.jobs) → settles ((job g j).count - u.count) u.count d ≡ true
      → (M : MayQueue g j)
      → TablesStand s (applied (SettleQueue j ((job g j).count - u.count) (seat_of s t g G S O j hj M)) t w)
      (settled g w j u d) G
  unfolding applied
  settle_queue_stands w j u d n hj e M =
      rw e (queue_stands j hj M ((job g j).count - u.count) _ u.noted n _ _)

  pub notify_stands : (w j x : ℕ) (f : Bool) (c : Call) → (view t).worker NOTE w ≡ bit f → j < length g.jobs
      → eqb ((job g j).count - 1) 0 ≡ false
      → TablesStand s (applied (Notify j ((job g j).count - 1) x) t w) (notified g w j f c) G
  unfolding applied
  notify_stands w j x f c n hj e = rw e (count_stands j hj ((job g j).count - 1) _ f n _ _)

  pub notify_queue_stands : (w j x : ℕ) (f : Bool) (c : Call) → (view t).worker NOTE w ≡ bit f
      → (hj : j < length g.jobs) → eqb ((job g j).count - 1) 0 ≡ true
      → (M : MayQueue g j)
      → TablesStand s (applied (NotifyQueue j ((job g j).count - 1) x (seat_of s t g G S O j hj M)) t w)
      (notified g w j f c) G
  unfolding applied
  notify_queue_stands w j x f c n hj e M = rw e (queue_stands j hj M ((job g j).count - 1) _ f n _ _)
