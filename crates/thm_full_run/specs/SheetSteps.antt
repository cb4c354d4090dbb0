-- The full runs of a sheet take the steps that are told of it, in whatever order its jobs enter, and wherever there is
-- room there is one. Follows docs/RULES.md, "The room of a sheet".
use Rattle.std.specs.Prelude.{◌≡◌, refl, List, [], ◌∷◌, ◌++◌, map, ℕ, ◌+◌, length}
use Rattle.std.proofs.Common.{arith, length-append}
use Rattle.def_terms.specs.Terms.{Arguments}
use Rattle.def_terms.specs.declared.Sizes.{Sizes}
use Rattle.def_terms.specs.declared.Answer.TheVariants.{Laid}
use Rattle.def_words.specs.Layout.{Tables}
use Rattle.def_words.specs.Words.{lay_out}
use Rattle.def_sheets.specs.Job.{Job}
use Rattle.def_sheets.specs.Decode.{jobs, decode_sheet}
use Rattle.def_room.specs.Room.{room_of}
use Rattle.def_room.specs.declared.Room.TheVariants.{Fits}
use Rattle.def_host_calls.specs.HostCalls.{HostCall, whole_add}
use Rattle.def_audit.specs.Served.{names_listed}
use Rattle.thm_room.specs.Tells.{AddsOf, arcs_of}
use Rattle.thm_room.specs.Enough.{fitting, enough_told}
use Rattle.thm_full_run.specs.SheetRuns.{Enter, FullRun, entered, steps, refused_look_ups, FullRuns}
use Rattle.thm_full_run.specs.Theorem.{takes_steps}
use Rattle.thm_full_run.specs.Exists.{run_exists}

-- ---- adds that are those of the jobs, in any order: as many, and with as many names together
listed_between : (l m : List Arguments) (a : Arguments) → names_listed (l ++ a ∷ m) ≡ a.count + names_listed (l ++ m)
unfolding names_listed
listed_between [] m a = refl
listed_between (b ∷ l) m a = let e = listed_between l m a in omega arith

many : {js : List Job} {l : List Arguments} → Enter js l → length l ≡ length js
many Enter.none = refl
many (Enter.more {j} {js} {a} l m o rest) =
    omega (arith, length-append l (a ∷ m), length-append l m, many rest)

together : {js : List Job} {l : List Arguments} → Enter js l → names_listed l ≡ arcs_of js
unfolding names_listed arcs_of
together Enter.none = refl
together (Enter.more {j} {js} {a} l m o rest) = omega (arith, listed_between l m a, o.count, together rest)

in_order_lem : {js : List Job} {l : List Arguments} → AddsOf js l → Enter js l
in_order_lem AddsOf.none = Enter.none
in_order_lem (AddsOf.more {j} {js} {a} {l} o rest) = Enter.more [] l o (in_order_lem rest)

as_told : (sheet : List ℕ) (n a k : ℕ) → room_of sheet ≡ Fits n a k
    → (js : List Job) → decode_sheet sheet ≡ jobs js
    → (s : Sizes) (t : Tables) → (lay_out s t).answer ≡ Laid → (adds work : List HostCall) → FullRun s t adds work
    → Enter js (entered s t adds work) → steps s t adds work ≡ k + refused_look_ups s t adds work
as_told sheet n a k e js d s t laid adds work full enter =
    let f = fitting sheet n a k e js d in
    omega (arith, takes_steps s t laid adds work full, many enter, together enter, f.steps)

pub full_runs : FullRuns room_of
full_runs = record {
  every_run = takes_steps;
  as_told = as_told;
  there_is_one = λ sheet n a k e js d l o s t laid h g w there.
      let all = ((enough_told sheet).told n a k e js d l o s t w laid there).enough h g in
      let (work, full, same, smooth) = run_exists s t laid w there l all in
      let enter : Enter js (entered s t (map (λ x. whole_add s w x) l) work) = rw same (in_order_lem o) in
      (work, full, enter, omega (arith, as_told sheet n a k e js d s t laid _ work full enter, smooth));
}
