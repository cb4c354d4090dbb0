-- Every call ends, of lists of host calls: how many steps a posted call takes, and that no call run whole by an idle
-- worker is cut short. The claim, of any machine, and the theorem. Follows docs/RULES.md, "Steps" and "Whole calls".
use Rattle.std.specs.Prelude.{◌≡◌, List, ℕ, ◌≤◌, ◌<◌, length}
use Rattle.std.proofs.Math.Path.{refl}
use Rattle.std.proofs.Common.{arith}
use Rattle.def_terms.specs.Terms.{Arguments, Finish}
use Rattle.def_terms.specs.Runs.{step, after, events}
use Rattle.def_terms.specs.Seen.{Seen}
use Rattle.def_terms.specs.declared.Sizes.{Sizes}
use Rattle.def_terms.specs.declared.Answer.{Answer}
use Rattle.def_terms.specs.declared.Answer.TheVariants.{Laid}
use Rattle.def_words.specs.Layout.{Tables}
use Rattle.def_words.specs.Words.{perform, lay_out}
use Rattle.def_words.specs.Observed.{seen}
use Rattle.def_call_order.specs.Calls.{Reading, unread, idle, adding, finishing}
use Rattle.def_demand.specs.Ends.{AddStep, FinishOf}
use Rattle.thm_words_history.specs.Lifted as lifted
use Rattle.def_whole_calls.specs.CallEnds.{AddAnswer, FinishAnswer, AddAnswers}
use Rattle.def_host_calls.specs.HostCalls.{HostCall, single, whole_add, whole_finish, sheet, Reply, one, each, Replied}
use Rattle.def_host_calls.specs.HostCalls.{after_calls}
use Rattle.def_host_calls.specs.CallsDemand.{read_calls}
use Rattle.thm_calls_history.specs.WordsCalls.{answer_words}
use Rattle.thm_calls_history.proofs.Theorem.{at_calls}
use Rattle.thm_calls_audit.specs.NoneCutShort as whole

module _ {S : Type 0} (answer : S → HostCall → Replied S) (see : S → Seen) (s : Sizes) (t : S) (calls : List HostCall)
  where
    abbrev pub at_end : S
    at_end = after_calls answer t calls

    abbrev pub read : Reading
    read = read_calls answer unread t calls

    -- the reply of the next call is one answer, of which this holds
    abbrev pub Replies : HostCall → (Answer → Type 0) → Type 0
    Replies c P = (x : Answer) × ((answer at_end c).reply ≡ one x) × P x

    pub record EachEnds : Type 0 where
      -- "An accepted add takes exactly 2d + 2 steps", one that is refused fewer; a finish "1 step more than it has
      -- arcs", of which a job has at most A
      pub add_steps : (w : ℕ) (a : Arguments) (k : ℕ) → read.pending w ≡ adding a k
          → Replies (single (step s w)) (AddStep a k)
      pub finish_steps : (w : ℕ) (f : Finish) (k : ℕ) → read.pending w ≡ finishing f k
          → Replies (single (step s w)) (FinishOf (see at_end) f.name k)
      pub few_arcs : (j : ℕ) → j < (see at_end).made → length ((see at_end).job j).arcs ≤ s.arcs
      -- run whole for an idle worker, an add ends or is refused by 5 to 8, a finish ends or is refused by 11 or 19, and
      -- a sheet of at most 64 entries has such an answer for each
      pub adds : (w : ℕ) → w < s.workers → read.pending w ≡ idle → (a : Arguments)
          → Replies (whole_add s w a) AddAnswer
      pub finishes : (w : ℕ) → w < s.workers → read.pending w ≡ idle → (f : Finish)
          → Replies (whole_finish s w f) FinishAnswer
      pub sheets : (w : ℕ) → w < s.workers → read.pending w ≡ idle → (l : List Arguments) → length l ≤ 64
          → (xs : List Answer) × ((answer at_end (sheet s w l)).reply ≡ each 0 xs) × AddAnswers l xs

module _ (s : Sizes) (t : Tables) (laid : (lay_out s t).answer ≡ Laid) (calls : List HostCall) where
  pub each_ends : EachEnds answer_words seen s (lay_out s t).state calls
  unfolding answer_words
  each_ends =
      let N = at_calls s t laid calls in
      record {
        add_steps = λ w a k. rw (N.here, N.read) (λ e. (_, refl, lifted.add_ends s t laid N.items w a k e));
        finish_steps = λ w f k. rw (N.here, N.read)
            (λ e. (_, refl, lifted.finish_ends s t laid N.items w f k e));
        few_arcs = λ j. rw N.here (λ h. omega (arith, lifted.arcs_fit s t laid N.items j h));
        adds = λ w h free a. whole.add_is_whole s t laid calls w h free a;
        finishes = λ w h free f. whole.finish_is_whole s t laid calls w h free f;
        sheets = λ w h free l few. whole.sheet_is_whole s t laid calls w h free l few;
      }
