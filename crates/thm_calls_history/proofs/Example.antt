-- A list of every kind of call on small tables that were laid out over old words: what the words' machine replies,
-- which is computed, and that the claim holds of it.
use Rattle.std.specs.Prelude.{◌≡◌, refl, ◌^◌, replicate}
use Rattle.def_basics.specs.Base.{contains, repeats, prefix}
use Rattle.def_bucket.specs.Bucket.{product_of, bucket_of}
use Rattle.def_heap.specs.Sift.{sift_up, sift_down}
use Rattle.def_minutes.specs.Minutes.{fixed_minutes}
use Rattle.def_minutes.specs.Rising.{rises_above, is_rising}
use Rattle.def_terms.specs.Terms.{arguments_wrong, within_limits}
use Rattle.def_terms.specs.Starred.{S}
use Rattle.def_terms.specs.declared.Answer.TheVariants.{Laid}
use Rattle.def_words.specs.Columns.{columns, header, put, put_header}
use Rattle.def_words.specs.Layout.{Tables, tables, need, job_shape, arc_shape, bucket_shape, queue_shape, worker_shape}
use Rattle.def_words.specs.Layout.{long_enough, sizes_kept, repeated, fresh_tables}
use Rattle.def_words.specs.Index.{waits, seat_for, first_seat_by, shifted_down, shifted_up, put_seat, take_seat}
use Rattle.def_words.specs.Words.{perform, own_ok, walk, find_of, plan_look_up, plan_enter, plan_append, plan_tally, plan_link}
use Rattle.def_words.specs.Words.{with_seat, plan_settle, plan_mark, plan_notify, plan_add, plan_links, plan_call, plan_phase}
use Rattle.def_words.specs.Words.{admitted, applied, step_words, plan_take, plan_queue, plan_get, applied_get, get_words}
use Rattle.def_words.specs.Words.{posted, add_words, finish_words, lay_out, loading, load_words}
use Rattle.def_words.specs.Observed.{seen}
use Rattle.def_whole_calls.specs.Whole.{steps_of, whole_add, whole_finish}
use Rattle.def_whole_calls.specs.Sheet.{add_each, served, sheet_words}
use Rattle.def_host_calls.specs.CallsDemand.{CallsDemand}
use Rattle.def_host_calls.specs.RightCalls.{replies_to, every_kind, its_replies}
use Rattle.thm_calls_history.specs.WordsCalls.{turned_words, answer_words}
use Rattle.thm_calls_history.proofs.Theorem.{calls_demand}

-- tables that just suffice, with words that are left from before
abbrev pub old : Tables
old =
    tables (replicate (need job_shape S.jobs) 7) (replicate (need arc_shape S.arcs) 7)
    (replicate (need bucket_shape (2 ^ S.bits)) 7)
    (replicate (need queue_shape S.jobs) 7)
    (replicate (need worker_shape S.workers) 7)

pub laid_out_lem : (lay_out S old).answer ≡ Laid
unfolding within_limits long_enough lay_out
laid_out_lem = refl

pub replies_so : replies_to answer_words (lay_out S old).state every_kind ≡ its_replies
unfolding contains repeats prefix arguments_wrong within_limits product_of bucket_of columns header put put_header long_enough
    sizes_kept repeated fresh_tables sift_up sift_down waits seat_for first_seat_by shifted_down shifted_up put_seat take_seat
    perform own_ok walk find_of plan_look_up plan_enter plan_append plan_tally plan_link with_seat plan_settle plan_mark plan_notify
    plan_add plan_links plan_call plan_phase admitted applied step_words plan_take plan_queue plan_get applied_get get_words
    posted add_words finish_words lay_out loading load_words steps_of whole_add whole_finish add_each served sheet_words
    answer_words replies_to fixed_minutes rises_above is_rising
replies_so = refl

pub example_holds : CallsDemand perform turned_words answer_words seen S (lay_out S old).state every_kind
example_holds = calls_demand S old laid_out_lem every_kind
