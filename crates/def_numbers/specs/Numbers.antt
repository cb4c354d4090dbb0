-- Every number that the header names, each once: refusals, limits, sizes, and the kinds of answers. Follows
-- docs/RULES.md ("Turned-away calls", "Tables and their measures"), docs/SHEETS.md and docs/NUMBERS.md.
use Rattle.std.specs.Prelude.{ℕ}

-- ---- refusals; the list starts at 1, so 0 says that nothing was refused

-- not refused
abbrev pub accepted : ℕ
accepted = 0

-- a size off its limits or not the one laid out, or a table too short
abbrev pub wrong_size : ℕ
wrong_size = 1

abbrev pub no_such_worker : ℕ
no_such_worker = 2

-- the worker's call is half done
abbrev pub half_done : ℕ
half_done = 3

-- a step while the worker is idle
abbrev pub worker_idle : ℕ
worker_idle = 4

abbrev pub wrong_arguments : ℕ
wrong_arguments = 5

-- a look-up finds no such name
abbrev pub unknown_name : ℕ
unknown_name = 6

-- entering finds the name present
abbrev pub name_present : ℕ
name_present = 7

-- entering finds no room for the job or its arcs
abbrev pub tables_full : ℕ
tables_full = 8

-- damaged words
abbrev pub damaged : ℕ
damaged = 9

-- a get while holding a job
abbrev pub already_holding : ℕ
already_holding = 10

-- a finish of a name that the worker does not hold
abbrev pub not_held : ℕ
not_held = 11

-- the sheet ends inside an entry
abbrev pub cut : ℕ
cut = 12

-- a wrong map byte
abbrev pub wrong_map : ℕ
wrong_map = 13

-- a field's value off its limits
abbrev pub wrong_value : ℕ
wrong_value = 14

-- the output lacks room
abbrev pub no_room : ℕ
no_room = 15

abbrev pub too_many_entries : ℕ
too_many_entries = 16

-- minutes that do not rise, or are off their limits
abbrev pub wrong_minutes : ℕ
wrong_minutes = 17

-- a load after a job has entered
abbrev pub jobs_entered : ℕ
jobs_entered = 18

-- "good for a spoiled job"
abbrev pub good_for_spoiled : ℕ
good_for_spoiled = 19

-- ---- limits and sizes

-- "R jobs 1 to 4,096; A arcs 0 to 32,768; b bucket bits 1 to 8; P workers 1 to 16"
abbrev pub most_jobs : ℕ
most_jobs = 4096

abbrev pub most_arcs : ℕ
most_arcs = 32768

abbrev pub most_bits : ℕ
most_bits = 8

abbrev pub most_workers : ℕ
most_workers = 16

-- "The list of at most 32 names"
abbrev pub most_names : ℕ
most_names = 32

-- "class 0 to 15": the highest, and how many there are
abbrev pub most_class : ℕ
most_class = 15

abbrev pub classes : ℕ
classes = 16

-- a day's minutes: no class has more
abbrev pub most_minutes : ℕ
most_minutes = 1440

-- "grower 0 to 65,535"
abbrev pub most_grower : ℕ
most_grower = 65535

-- "more than 4,096 board records" are refused
abbrev pub most_records : ℕ
most_records = 4096

-- the words of a row, which holds an entry: four numbers and the places of the names
abbrev pub entry_words : ℕ
entry_words = 36

-- the most bytes of an entry: the map byte, a name, a full list, a class and a grower
abbrev pub most_entry_bytes : ℕ
most_entry_bytes = 137

-- "One call takes up to 64 entries"
abbrev pub most_entries : ℕ
most_entries = 64

-- "a sheet of at most 32,768 bytes"
abbrev pub most_day_sheet : ℕ
most_day_sheet = 32768

-- the most bytes that the day list prints with two workers
abbrev pub most_day_list : ℕ
most_day_list = 97979

-- "(R 256, A 1,024, b 4, P 2)"
abbrev pub day_jobs : ℕ
day_jobs = 256

abbrev pub day_arcs : ℕ
day_arcs = 1024

abbrev pub day_bits : ℕ
day_bits = 4

-- bytes of a name, a list's count, a class and a grower
abbrev pub name_bytes : ℕ
name_bytes = 4

abbrev pub count_bytes : ℕ
count_bytes = 1

abbrev pub class_bytes : ℕ
class_bytes = 1

abbrev pub grower_bytes : ℕ
grower_bytes = 2

-- ---- the kinds of answers of a call or a step of the graph

abbrev pub kind_refused : ℕ
kind_refused = 0

abbrev pub kind_laid_out : ℕ
kind_laid_out = 1

abbrev pub kind_posted : ℕ
kind_posted = 2

abbrev pub kind_going_on : ℕ
kind_going_on = 3

abbrev pub kind_ended : ℕ
kind_ended = 4

abbrev pub kind_none_ready : ℕ
kind_none_ready = 5

abbrev pub kind_handed_out : ℕ
kind_handed_out = 6

abbrev pub kind_loaded : ℕ
kind_loaded = 7

-- damage stopped a whole call half done
abbrev pub kind_stopped : ℕ
kind_stopped = 8

-- ---- the call half done: none, an add, or a finish

abbrev pub call_none : ℕ
call_none = 0

abbrev pub call_add : ℕ
call_add = 1

abbrev pub call_finish : ℕ
call_finish = 2
