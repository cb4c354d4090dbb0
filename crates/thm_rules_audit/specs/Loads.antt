-- Loads of minutes by the rules: what each answers, that the minutes are those of the last load that was accepted, and
-- that they stay from the first job on.
use Rattle.std.specs.Prelude.{◌≡◌, refl, false, List, [], ◌∷◌, ℕ, ◌<◌, length}
use Rattle.std.proofs.Common.{ap, ◌∙◌, true≢false, arith, eq-eqb, ne_eqb}
use Rattle.def_terms.specs.Terms.{Arguments}
use Rattle.def_terms.specs.Runs.{Item, post_add, post_finish, step, get, load, is_load, after, events}
use Rattle.def_terms.specs.declared.Sizes.{Sizes}
use Rattle.def_terms.specs.declared.Answer.{Answer}
use Rattle.def_terms.specs.declared.Answer.TheVariants.{Refused}
use Rattle.def_rules.specs.Rules.{Call, Graph, empty, perform}
use Rattle.thm_rules_cases.specs.Deed as by
use Rattle.thm_rules_cases.specs.Deed.{Stepped, Made, Deed}
use Rattle.thm_rules_cases.specs.Deeds.{deed}
use Rattle.def_call_order.specs.Calls.{Reading, accepted_adds, note_minutes, minutes_on, minutes_loaded}
use Rattle.thm_rules_history.specs.History.{History}
use Rattle.def_demand.specs.Demand.{load_end}
use Rattle.thm_rules_follow_book.specs.Booked.{booked}
use Rattle.thm_rules_invariant.specs.Sound.{soundly}

-- ---- what a load answers, by the jobs that entered
pub load_answered : (s : Sizes) (g : Graph) (adds : List Arguments) → length adds ≡ length g.jobs
    → (q : Sizes) (m : List ℕ) → (perform s g (load q m)).answer ≡ load_end s adds q m
load_answered s g adds same q m = of (deed s g (load q m))
  where
    of : {x : Answer} {h : Graph} → Deed s g (load q m) x h → x ≡ load_end s adds q m
    of (by.other_sizes e) = rw e
    of (by.worker_unknown e n l) = absurd (true≢false n)
    of (by.call_half_done A n c) = absurd (true≢false A.no_load)
    of (by.loading e (by.not_rising r)) = rw (e, r)
    of (by.loading e (by.too_late r l)) = rw (e, r, ne_eqb (length adds) 0 (λ z. omega arith))
    of (by.loading e (by.minutes_loaded r l)) = rw (e, r, eq-eqb (length adds) 0 (same ∙ l))
    of {h = h} (by.made _ _ x15) = elim x15 [ ]

-- the accepted adds are those of the jobs that entered
pub loads_answered : {s : Sizes} {g : Graph} {r : Reading} {e : ℕ → ℕ} → History s g r e → (q : Sizes) (m : List ℕ)
    → (perform s g (load q m)).answer ≡ load_end s (accepted_adds r.calls) q m
loads_answered {s} {g} {r} history = load_answered s g (accepted_adds r.calls) (booked soundly history).adds

-- ---- the minutes after an item
refused_unnoted : (m : List ℕ) (i : Item) (n k : ℕ) → m ≡ note_minutes m i (Refused n k)
refused_unnoted m (post_add s w a) n k = refl
refused_unnoted m (post_finish s w f) n k = refl
refused_unnoted m (step s w) n k = refl
refused_unnoted m (get s w) n k = refl
refused_unnoted m (load s l) n k = refl

other_unnoted : (m : List ℕ) (i : Item) (x : Answer) → is_load i ≡ false → m ≡ note_minutes m i x
other_unnoted m (post_add s w a) x e = refl
other_unnoted m (post_finish s w f) x e = refl
other_unnoted m (step s w) x e = refl
other_unnoted m (get s w) x e = refl
other_unnoted m (load s l) x e = absurd (true≢false e)

module _ {s : Sizes} {g : Graph} where
  stepped_minutes : {w : ℕ} {c : Call} {x : Answer} {h : Graph} → Stepped s g w c x h → h.minutes ≡ g.minutes
  stepped_minutes by.no_call = refl
  stepped_minutes (by.broken b) = refl
  stepped_minutes (by.looked_up j l e) = refl
  stepped_minutes (by.name_unknown l e) = refl
  stepped_minutes (by.name_there j l e) = refl
  stepped_minutes (by.room_lacking l e f) = refl
  stepped_minutes (by.job_entered l e f) = refl
  stepped_minutes (by.tallied p l e f) = refl
  stepped_minutes (by.arc_appended p l e f) = refl
  stepped_minutes (by.job_settled l) = refl
  stepped_minutes (by.marked_last p e f) = refl
  stepped_minutes (by.marked_going p e f) = refl
  stepped_minutes (by.arc_notified l) = refl
  stepped_minutes (by.last_notified l) = refl

  made_minutes : {i : Item} {x : Answer} {h : Graph} → Made s g i x h → h.minutes ≡ g.minutes
  made_minutes (by.add_wrong e) = refl
  made_minutes (by.add_posted e) = refl
  made_minutes (by.finish_wrong e) = refl
  made_minutes (by.finish_good p e n u) = refl
  made_minutes (by.finish_posted p e n u) = refl
  made_minutes (by.get_holding j e) = refl
  made_minutes (by.get_none e f) = refl
  made_minutes (by.get_handed e j f) = refl

  deed_minutes : {i : Item} {x : Answer} {h : Graph} → Deed s g i x h → h.minutes ≡ note_minutes g.minutes i x
  deed_minutes {i} (by.other_sizes e) = refused_unnoted g.minutes i _ _
  deed_minutes {i} (by.worker_unknown e n l) = refused_unnoted g.minutes i _ _
  deed_minutes {i} (by.call_half_done A n c) = refused_unnoted g.minutes i _ _
  deed_minutes {i} (by.made A c M) = made_minutes M ∙ other_unnoted g.minutes i _ A.no_load
  deed_minutes (by.stepped A c S) = stepped_minutes S
  deed_minutes (by.loading e (by.not_rising r)) = refl
  deed_minutes (by.loading e (by.too_late r l)) = refl
  deed_minutes (by.loading e (by.minutes_loaded r l)) = refl

-- the minutes are those of the last load that was accepted
pub minutes_on_lem : (s : Sizes) (g : Graph) (items : List Item)
    → (after (perform s) g items).minutes ≡ minutes_on g.minutes (events (perform s) g items)
unfolding after events minutes_on
minutes_on_lem s g [] = refl
minutes_on_lem s g (i ∷ items) =
    minutes_on_lem s (perform s g i).state items
    ∙ ap (λ m. minutes_on m (events (perform s) (perform s g i).state items)) (deed_minutes (deed s g i))

pub minutes_are_loaded : (s : Sizes) (items : List Item)
    → (after (perform s) empty items).minutes ≡ minutes_loaded (events (perform s) empty items)
unfolding empty
minutes_are_loaded s items = minutes_on_lem s empty items

-- ---- "before the first job enters": from then on they stay
pub minutes_stay : (s : Sizes) (g : Graph) (i : Item) → 0 < length g.jobs
    → (perform s g i).state.minutes ≡ g.minutes
minutes_stay s g i some = of (deed s g i)
  where
    of : {i : Item} {x : Answer} {h : Graph} → Deed s g i x h → h.minutes ≡ g.minutes
    of (by.other_sizes e) = refl
    of (by.worker_unknown e n l) = refl
    of (by.call_half_done A n c) = refl
    of (by.made A c M) = made_minutes M
    of (by.stepped A c S) = stepped_minutes S
    of (by.loading e (by.not_rising r)) = refl
    of (by.loading e (by.too_late r l)) = refl
    of (by.loading e (by.minutes_loaded r l)) = absurd (omega arith)
