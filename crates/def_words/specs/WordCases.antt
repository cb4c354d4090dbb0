-- The words tell what docs/RULES.md's rows say ("Checked by hand", cases 1 to 6), moment by moment, from tables that
-- just suffice and were laid out over old words.
use Rattle.std.specs.Prelude.{refl, List, ℕ, ◌^◌, replicate}
use Rattle.def_basics.specs.Base.{contains, repeats, occurrences, prefix}
use Rattle.def_bucket.specs.Bucket.{product_of, bucket_of}
use Rattle.def_heap.specs.Sift.{sift_up, sift_down}
use Rattle.def_minutes.specs.Minutes.{fixed_minutes}
use Rattle.def_terms.specs.Terms.{arguments_wrong, within_limits}
use Rattle.def_terms.specs.Runs.{queue_entries}
use Rattle.def_terms.specs.Starred.{Row, Tells, moments, before, orders, starred, one_of_two}
use Rattle.def_terms.specs.declared.Sizes.{Sizes}
use Rattle.def_words.specs.Columns.{columns, header, put, put_header}
use Rattle.def_words.specs.Layout.{Tables, tables, need, job_shape, arc_shape, bucket_shape, queue_shape, worker_shape}
use Rattle.def_words.specs.Layout.{long_enough, sizes_kept, repeated, fresh_tables}
use Rattle.def_words.specs.Words.{perform, own_ok, walk, find_of, plan_look_up, plan_enter, plan_append, plan_tally}
use Rattle.def_words.specs.Words.{plan_link, with_seat}
use Rattle.def_words.specs.Words.{plan_settle, plan_mark, plan_notify, plan_add, plan_links, plan_call, plan_phase}
use Rattle.def_words.specs.Words.{admitted}
use Rattle.def_words.specs.Words.{applied, step_words, plan_take, plan_queue, plan_get, applied_get, get_words, posted}
use Rattle.def_words.specs.Words.{add_words, finish_words, lay_out}
use Rattle.def_words.specs.Index.{waits, seat_for, first_seat_by, shifted_down, shifted_up, put_seat, take_seat}
use Rattle.def_words.specs.Observed.{jobs_in, call_seen, seen}

-- a word that is left from before
abbrev old : Sizes → Tables
old s =
    tables (replicate (need job_shape s.jobs) 7) (replicate (need arc_shape s.arcs) 7)
    (replicate (need bucket_shape (2 ^ s.bits)) 7)
    (replicate (need queue_shape s.jobs) 7)
    (replicate (need worker_shape s.workers) 7)

abbrev pub WordsTell : List Row → Type 0
WordsTell = Tells (λ s. perform) seen (λ s. (lay_out s (old s)).state)

-- what the rows compute with
unfoldable pub telling : ℕ
unfolding contains repeats occurrences prefix arguments_wrong within_limits queue_entries moments before orders starred
    one_of_two fixed_minutes product_of bucket_of columns header put put_header long_enough sizes_kept
    repeated fresh_tables perform own_ok walk find_of plan_look_up plan_enter plan_append plan_tally plan_link with_seat
    plan_settle plan_mark plan_notify plan_add plan_links plan_call plan_phase admitted applied step_words plan_take plan_queue
    plan_get applied_get get_words posted add_words finish_words lay_out jobs_in call_seen sift_up sift_down waits seat_for
    first_seat_by shifted_down shifted_up put_seat take_seat
telling = 0

pub starred_rows : WordsTell starred
unfolding telling
starred_rows = refl

pub one_of_two_rows : WordsTell one_of_two
unfolding telling
one_of_two_rows = refl
