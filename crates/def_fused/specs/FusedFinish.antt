-- A finish of an idle worker in one go: the mark, then each arc, oldest first. The worker's words are stored once, at
-- the end. (That this is the post and its steps: thm_fused_finish.)
use Rattle.std.specs.Prelude.{ℕ, zero, suc, eqb}
use Rattle.def_numbers.specs.Numbers.{half_done, not_held}
use Rattle.def_basics.specs.Base.{pick}
use Rattle.def_terms.specs.Terms.{Finish, bit}
use Rattle.def_terms.specs.Runs.{Result, result_of}
use Rattle.def_terms.specs.declared.Sizes.{Sizes}
use Rattle.def_terms.specs.declared.Answer.TheVariants.{Going, Ended, Refused}
use Rattle.def_words.specs.Layout.{Tables, tables, view, none, MARKING, bare_worker}
use Rattle.def_words.specs.Words.{holds_name, judged_outcome, plan_mark, plan_notify, put_count, put_outcome}
use Rattle.def_words.specs.Index.{put_seat}
use Rattle.def_words.specs.declared.Seat.{Seat}
use Rattle.def_words.specs.declared.Plan.{Plan}
use Rattle.def_words.specs.declared.Plan.TheVariants.{Refuse, Quit, Pass, Enter, Tally, LinkFirst, LinkAfter, Settle}
use Rattle.def_words.specs.declared.Plan.TheVariants.{SettleQueue, Mark, Notify, NotifyQueue}
use Rattle.def_fused.specs.FusedWorker.{is_idle, hold_of, with_worker, idled_with, notify_worker, halted}

-- ---- the arcs of a finish of outcome o
-- what a notice stores, but for the worker's words
abbrev pub told_tables : Tables → ℕ → ℕ → ℕ → Tables
told_tables t j c o = tables (put_count t.jobs j c o) t.arcs t.buckets t.queue t.workers

abbrev pub told_queued : Tables → ℕ → ℕ → ℕ → Seat → Tables
told_queued t j c o e = tables (put_count t.jobs j c o) t.arcs t.buckets (put_seat t.queue e j) t.workers

-- after the last arc the finish ends, and else it goes on
abbrev pub or_end : ℕ → ℕ → Tables → (ℕ → Tables → Result Tables) → Result Tables
or_end x w t next = pick (eqb x none) (result_of Ended (idled_with t w none)) (next x t)

-- the notice along the arc x by its plan, and then what follows
abbrev pub notify_by : Plan → ℕ → ℕ → ℕ → Tables → (ℕ → Tables → Result Tables) → Result Tables
notify_by (Notify j c y) o x w t next = or_end y w (told_tables t j c o) next
notify_by (NotifyQueue j c y e) o x w t next = or_end y w (told_queued t j c o e) next
notify_by (Refuse n) o x w t next = halted t w (notify_worker o x)
notify_by (Quit n q) o x w t next = halted t w (notify_worker o x)
notify_by Pass o x w t next = halted t w (notify_worker o x)
notify_by (Enter j b h y) o x w t next = halted t w (notify_worker o x)
notify_by (Tally q) o x w t next = halted t w (notify_worker o x)
notify_by (LinkFirst p y j) o x w t next = halted t w (notify_worker o x)
notify_by (LinkAfter p l y j) o x w t next = halted t w (notify_worker o x)
notify_by (Settle j c) o x w t next = halted t w (notify_worker o x)
notify_by (SettleQueue j c e) o x w t next = halted t w (notify_worker o x)
notify_by (Mark p y) o x w t next = halted t w (notify_worker o x)

-- at most n arcs, from x on; more than were reserved come only of damaged lists
unfoldable pub notify_in : (most : ℕ) → Sizes → (w outcome arc : ℕ) → Tables → Result Tables
notify_in zero s w o x t = result_of Going (with_worker t w (notify_worker o x))
notify_in (suc n) s w o x t = notify_by (plan_notify s (view t) x) o x w t (notify_in n s w o)

-- ---- the mark by its plan
abbrev pub marked_tables : Tables → ℕ → ℕ → Tables
marked_tables t p o = tables (put_outcome t.jobs p o) t.arcs t.buckets t.queue t.workers

-- a mark that is refused leaves the finish half done
abbrev pub unmarked : Tables → ℕ → ℕ → Result Tables
unmarked t w o = halted t w (bare_worker MARKING (hold_of t w) o)

unfoldable pub mark_in : Sizes → Tables → ℕ → ℕ → Plan → Result Tables
mark_in s t w o (Mark p x) = or_end x w (marked_tables t p o) (notify_in s.arcs s w o)
mark_in s t w o (Refuse n) = unmarked t w o
mark_in s t w o (Quit n q) = unmarked t w o
mark_in s t w o Pass = unmarked t w o
mark_in s t w o (Enter j b h x) = unmarked t w o
mark_in s t w o (Tally q) = unmarked t w o
mark_in s t w o (LinkFirst p x j) = unmarked t w o
mark_in s t w o (LinkAfter p l x j) = unmarked t w o
mark_in s t w o (Settle j c) = unmarked t w o
mark_in s t w o (SettleQueue j c e) = unmarked t w o
mark_in s t w o (Notify j c x) = unmarked t w o
mark_in s t w o (NotifyQueue j c x e) = unmarked t w o

-- ---- the whole finish: what its post is refused by, then the mark and what follows
unfoldable pub mark_if : ℕ → Sizes → Tables → ℕ → ℕ → Result Tables
mark_if zero s t w o = mark_in s t w o (plan_mark s (view t) (hold_of t w))
mark_if (suc n) s t w o = result_of (Refused (suc n) 0) t

unfoldable pub finish_in : Sizes → Tables → ℕ → Finish → Result Tables
finish_in s t w f =
    pick (holds_name (view t) w f.name)
    (mark_if (judged_outcome s (view t) (hold_of t w) f.failed) s t w (bit f.failed))
    (result_of (Refused not_held 0) t)

-- of a worker that may be half done: number 3
unfoldable pub finish_if_idle : Sizes → Tables → ℕ → Finish → Result Tables
finish_if_idle s t w f = pick (is_idle t w) (finish_in s t w f) (result_of (Refused half_done 0) t)
