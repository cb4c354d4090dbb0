-- Linking and settling by the rules keep step with the maps.
use Rattle.std.specs.Prelude.{◌≡◌, refl, ◌≢◌, Bool, true, false, ◌||◌, List, [], ◌∷◌, ◌++◌, ℕ, suc, ◌+◌, ◌-◌, ◌≤◌, ◌<◌, length, get_or, set}
use Rattle.std.proofs.Common.{sym, ap, ◌∙◌, arith, length-set, length-append}
use Rattle.std.proofs.Math.Option.{none}
use Rattle.std.proofs.Math.Decide.{ℕ_discrete}
use Rattle.def_basics.specs.Base.{update, contains, occurrences}
use Rattle.def_basics.specs.Laws.{update_same, update_at, update_other, length_prefix, set_all}
use Rattle.def_terms.specs.Terms.{settles, finished, Arguments, listed, bit, Tally, tally_one}
use Rattle.def_terms.specs.declared.Sizes.{Sizes}
use Rattle.def_rules.specs.Rules.{Job, linking, Graph, no_job, job, find, at, with_call, with_dependent, lowered}
use Rattle.def_rules.specs.Rules.{linked, settled, enqueue}
use Rattle.def_call_order.specs.Calls.{Pending, Reading, becomes, add_ended}
use Rattle.def_basics.specs.Counting.{hit, hit_same, hit_other}
use Rattle.thm_rules_invariant.specs.State.{apart, adding, State, also, link_dependent, settle}
use Rattle.thm_rules_invariant.specs.Invariant.{Invariant, occurrences_enqueue, prerequisites_there}
use Rattle.thm_rules_invariant.specs.Spoiling.{lasts_same, settle_lasts}
use Rattle.thm_rules_invariant.specs.Linking.{link_finished_keeps, link_dependent_keeps, settle_keeps}
use Rattle.thm_rules_invariant.specs.Linking.{settles_right}
use Rattle.thm_rules_invariant.specs.Names.{Extends, extends_set, contains_snoc}
use Rattle.thm_rules_invariant.specs.Relation.{Kept, known_keeps, JobRelAt, LinkRel, AddEnded}
use Rattle.thm_rules_invariant.specs.Relation.{added_keeps, finished_keeps}
use Rattle.thm_rules_invariant.specs.Turns.{Next, own_stage, own_call, other_add, workers_after, called}

module _ (s : Sizes) (g : Graph) (r : Reading) (x : State) (K : Kept s g r x) (I : Invariant x) (w : ℕ) where
  -- ---- linking
  module _ (a : Arguments) (j i : ℕ) (t : Tally) (f : (g.workers w).call ≡ linking a j i t) where
    own_link : LinkRel g.jobs x.linked x.tally x.noted a j i t
    own_link = own_call s g r x K I w (linking a j i t) f

    at_stage : x.stage w ≡ adding j
    at_stage = own_stage s g r x K I w (linking a j i t) f

    pub long_list : length (x.prerequisites j) ≡ a.count
    long_list = omega (
      arith,
      (K.jobs j).known.same_length,
      ap length own_link.list,
      length_prefix a.count a.names,
    )

    own_paced : (r.pending w ≡ Pending.adding a (a.count + 1 + i)) × (a.name ≡ (job g j).name)
    own_paced = rw f at (K.workers w).paced

    -- the listed name is found
    pub listed_found : i < a.count → find g (get_or (listed a) i 0) ≡ at (get_or (x.prerequisites j) (x.linked j) 0)
    listed_found h =
        rw (← own_link.list, ← own_link.place)
        ((K.jobs j).known.found i (omega (arith, ap length own_link.list, length_prefix a.count a.names)))

    module _ (h : i < a.count) where
      abbrev needed : ℕ
      needed = get_or (x.prerequisites j) (x.linked j) 0

      room_left : x.linked j < length (x.prerequisites j)
      room_left = omega (arith, own_link.place, long_list)

      linked_else : (v k : ℕ) → v ≢ w → x.stage v ≡ adding k → x.linked k ≡ x.linked k + hit k j
      linked_else v k e z = omega (arith, hit_other k j (other_add s g r x K I w j v k e at_stage z))

      tally_else : (v k : ℕ) → v ≢ w → x.stage v ≡ adding k → x.tally k ≡ x.tally k + hit k j
      tally_else v k e z = omega (arith, hit_other k j (other_add s g r x K I w j v k e at_stage z))

      noted_else : (v k : ℕ) (b : Bool) → v ≢ w → x.stage v ≡ adding k → x.noted k ≡ also x.noted j b k
      noted_else v k b e z =
          sym (update_other x.noted j (x.noted j || b) k (other_add s g r x K I w j v k e at_stage z))

      pub linking_finished : (job g needed).label ≡ finished
          → Next s g x (with_call g w (linking a j (suc i) (tally_one t (job g needed).failed)))
          (becomes r w (Pending.adding a (a.count + 1 + suc i)))
      linking_finished e = called s g r x K I w (linking a j (suc i) (tally_one t (job g needed).failed))
          (Pending.adding a (a.count + 1 + suc i))
          (λ k. x.linked k + hit k j) (λ k. x.tally k + hit k j) (also x.noted j (x.failed needed))
          (link_finished_keeps x I w j at_stage room_left (sym (K.jobs needed).label ∙ e))
          (record {
            held = (K.workers w).held;
            stage = at_stage;
            call = record {
              right = own_link.right;
              there = own_link.there;
              list = own_link.list;
              place = omega (arith, own_link.place, hit_same j);
              tallied = omega (arith, own_link.tallied, hit_same j);
              noted = rw (own_link.noted, (K.jobs needed).failed)
                  (sym (update_same x.noted j (x.noted j || x.failed needed)));
            };
            paced = (refl, own_paced.1);
          })
          (λ v z. record {
            held = refl;
            stage = refl;
            linked = λ k y. linked_else v k z y;
            tally = λ k y. tally_else v k z y;
            noted = λ k y. noted_else v k (x.failed needed) z y;
            served = λ p y. refl;
            dependents = λ p. omega arith;
          })

      pub linking_dependent : (job g needed).label ≢ finished
          → Next s g x (linked g w a j i t needed) (becomes r w (Pending.adding a (a.count + 1 + suc i)))
      linking_dependent e =
          let p : ℕ = needed in
          let y : State = link_dependent x j p in
          let d : List ℕ = x.dependents p ++ (j ∷ []) in
          let there : p < length g.jobs =
          omega (arith, K.size, (prerequisites_there x I j).at (x.linked j) room_left) in
          let z : Job = with_dependent (job g p) j in
          let further : Extends g.jobs (set g.jobs p z) = extends_set g.jobs p z refl refl in
          let longer : length (set g.jobs p z) ≡ length g.jobs = length-set g.jobs p z in
          record {
            state = y;
            lasting = lasts_same x;
            grown = λ k. omega arith;
            invariant = link_dependent_keeps x I w j at_stage room_left (λ u. e ((K.jobs p).label ∙ u));
            kept = record {
              jobs_room = omega (arith, longer, K.jobs_room);
              arcs_room = K.arcs_room;
              minutes = K.minutes;
              size = longer ∙ K.size;
              queue = K.queue;
              jobs = set_all (λ k u. JobRelAt (set g.jobs p z) y k u) g.jobs p z no_job there
                  (let o = K.jobs p in record {
                    label = o.label;
                    count = o.count;
                    dependents = ap (λ (l : List ℕ). l ++ (j ∷ [])) o.dependents
                        ∙ sym (update_same x.dependents p d);
                    failed = o.failed;
                    spoiled = o.spoiled;
                    known = known_keeps further o.known;
                  })
                  (λ k u. let o = K.jobs k in record {
                    label = o.label;
                    count = o.count;
                    dependents = o.dependents ∙ sym (update_other x.dependents p d k u);
                    failed = o.failed;
                    spoiled = o.spoiled;
                    known = known_keeps further o.known;
                  });
              workers = workers_after s g r x K I w (linked g w a j i t p) y
                  (Pending.adding a (a.count + 1 + suc i)) _ further (omega (arith, longer))
                  (lasts_same x)
                  (record {
                    held = (K.workers w).held;
                    stage = at_stage;
                    call = record {
                      right = own_link.right;
                      there = omega (arith, longer, own_link.there);
                      list = further.list j own_link.there ∙ own_link.list;
                      place = omega (arith, own_link.place, hit_same j);
                      tallied = own_link.tallied;
                      noted = own_link.noted;
                    };
                    paced = (refl, own_paced.1 ∙ sym (further.name j own_link.there));
                  })
                  (λ v u. record {
                    held = refl;
                    stage = refl;
                    linked = λ k b. linked_else v k u b;
                    tally = λ k b. refl;
                    noted = λ k b. refl;
                    served = λ q b. refl;
                    dependents = λ q. elim (ℕ_discrete q p) [
                      | yes b ↦ rw b (omega (
                        arith,
                        ap length (update_same x.dependents p d),
                        length-append (x.dependents p) (j ∷ []),
                      ))
                      | no b ↦ omega (arith, ap length (update_other x.dependents p d q b))
                    ];
                  });
              added = λ name b. added_keeps further (K.added name b);
              finished = λ name b. finished_keeps further (K.finished name b);
            };
          }

    -- ---- settling
    pub settling : a.count ≤ i
        → Next s g x (settled g w j t a.count) (becomes (add_ended r a.name) w Pending.idle)
    settling h =
        let b : Bool = settles ((job g j).count - t.count) t.count a.count in
        let full : x.linked j ≡ length (x.prerequisites j) =
        omega (arith, own_link.place, long_list, I.counts.linked_within j) in
        let left : ℕ = x.count j - x.tally j in
        let y : State = settle x w j b in
        let z : Job = lowered (job g j) ((job g j).count - t.count) t.noted in
        let left_eq : (job g j).count - t.count ≡ left = omega (arith, (K.jobs j).count, own_link.tallied) in
        let further : Extends g.jobs (set g.jobs j z) = extends_set g.jobs j z refl refl in
        let longer : length (set g.jobs j z) ≡ length g.jobs = length-set g.jobs j z in
        let same_test : b ≡ settles left (x.tally j) (length (x.prerequisites j)) =
        rw (left_eq, ← own_link.tallied, long_list) refl in
        let test : x.queue_entries j + bit b ≡ 1 - left = rw same_test (settles_right x I w j at_stage full) in
        record {
          state = y;
          invariant = settle_keeps x I w j b at_stage full test;
          lasting = settle_lasts x I w j b;
          grown = λ k. omega (
            arith,
            ap (occurrences k) K.queue,
            occurrences_enqueue b g.queue j k,
            occurrences_enqueue b x.queue j k,
          );
          kept = record {
            jobs_room = omega (arith, longer, K.jobs_room);
            arcs_room = K.arcs_room;
            minutes = K.minutes;
            size = longer ∙ K.size;
            queue = ap (λ (l : List ℕ). enqueue b l j) K.queue;
            jobs = set_all (λ k u. JobRelAt (set g.jobs j z) y k u) g.jobs j z no_job own_link.there
                (let o = K.jobs j in record {
                  label = o.label;
                  count = left_eq ∙ sym (update_same x.count j left);
                  dependents = o.dependents;
                  failed = o.failed;
                  spoiled = rw (o.spoiled, own_link.noted)
                      (sym (update_same x.spoiled j (x.spoiled j || x.noted j)));
                  known = known_keeps further o.known;
                })
                (λ k u. let o = K.jobs k in record {
                  label = o.label;
                  count = o.count ∙ sym (update_other x.count j left k u);
                  dependents = o.dependents;
                  failed = o.failed;
                  spoiled = o.spoiled ∙ sym (update_other x.spoiled j (x.spoiled j || x.noted j) k u);
                  known = known_keeps further o.known;
                });
            workers = workers_after s g r x K I w (settled g w j t a.count) y Pending.idle _ further
                (omega (arith, longer)) (settle_lasts x I w j b)
                (record { held = (K.workers w).held; stage = update_same x.stage w apart; call = tt; paced = refl })
                (λ v u. record {
                  held = refl;
                  stage = sym (update_other x.stage w apart v u);
                  linked = λ k e. refl;
                  tally = λ k e. sym (update_other x.tally j 0 k (other_add s g r x K I w j v k u at_stage e));
                  noted = λ k e.
                      sym (update_other x.noted j false k (other_add s g r x K I w j v k u at_stage e));
                  served = λ p e. refl;
                  dependents = λ p. omega arith;
                });
            added = λ name e. was_added further name (contains name r.added) refl e;
            finished = λ name e. finished_keeps further (K.finished name e);
          };
        }
      where
        was_added : {l : List Job} → Extends g.jobs l → (name : ℕ) (c : Bool) → contains name r.added ≡ c
            → contains name (r.added ++ (a.name ∷ [])) ≡ true
            → AddEnded l (update x.adder j none) name
        was_added further name true p e =
            let o = K.added name p in
            record {
              job = o.job;
              found = further.found _ _ o.found;
              ended = elim (ℕ_discrete o.job j) [
                | yes z ↦ update_at x.adder j none o.job z
                | no z ↦ update_other x.adder j none o.job z ∙ o.ended
              ];
            }
        was_added further name false p e =
            let z : name ≡ a.name = contains_snoc name a.name r.added e p in
            record {
              job = j;
              ended = update_same x.adder j none;
              found = further.found name j
                  (rw (z, own_paced.1) ((K.jobs j).known.named (omega (arith, K.size, own_link.there))));
            }
