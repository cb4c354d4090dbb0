-- A call whose post goes no further ends with its post's answer.
use Rattle.std.specs.Prelude.{◌≡◌, List, ℕ}
use Rattle.std.proofs.Common.{sym, subst}
use Rattle.def_terms.specs.Runs.{Item, Event, events}
use Rattle.def_terms.specs.declared.Sizes.{Sizes}
use Rattle.def_terms.specs.declared.Answer.{Answer}
use Rattle.def_terms.specs.declared.Answer.TheVariants.{Refused}
use Rattle.def_words.specs.Layout.{Tables}
use Rattle.def_words.specs.Words.{perform}
use Rattle.def_host_calls.specs.HostCalls.{last_answer, last_of, call_made, steps_made, where_going}

-- what holds of a refusal of the post holds of the call's last answer
pub ends_there : (P : Answer → Type 0) (k : ℕ) (i : Item) (s : Sizes) (w : ℕ) (x : Tables) (n p : ℕ)
    → (perform x i).answer ≡ Refused n p → P (Refused n p) → P (last_of perform (call_made perform i k s w x) x)
unfolding call_made events last_answer
ends_there P k i s w x n p e h =
    let next : Tables = (perform x i).state in
    let rest : Answer → List Event = λ z. events perform next (where_going z (steps_made perform k s w next)) in
    let Ends : Answer → Type 0 = λ z. P (last_answer z (rest z)) in
    subst Ends (sym e) h
