-- An answer by its kinds, so that a definition names those that it tells apart and says once what holds of all others.
-- Follows docs/RULES.md, "Steps" and "Turned-away calls".
use Rattle.std.specs.Prelude.{ℕ}
use Rattle.def_terms.specs.declared.HandOut.{HandOut}
use Rattle.def_terms.specs.declared.Answer.{Answer}
use Rattle.def_terms.specs.declared.Answer.TheVariants.{Laid, Loaded, Posted, Going, Ended, NoneReady, Handed}
use Rattle.def_terms.specs.declared.Answer.TheVariants.{Refused}

abbrev pub by_kind : {A : Type 0} → A → A → A → A → A → A → (HandOut → A) → (ℕ → ℕ → A) → Answer → A
by_kind laid loaded posted going ended none_ready_lem handed refused Laid = laid
by_kind laid loaded posted going ended none_ready_lem handed refused Loaded = loaded
by_kind laid loaded posted going ended none_ready_lem handed refused Posted = posted
by_kind laid loaded posted going ended none_ready_lem handed refused Going = going
by_kind laid loaded posted going ended none_ready_lem handed refused Ended = ended
by_kind laid loaded posted going ended none_ready_lem handed refused NoneReady = none_ready_lem
by_kind laid loaded posted going ended none_ready_lem handed refused (Handed h) = handed h
by_kind laid loaded posted going ended none_ready_lem handed refused (Refused n i) = refused n i

-- what holds where the answer is of one kind, and what else
abbrev pub if_loaded : {A : Type 0} → Answer → A → A → A
if_loaded x a e = by_kind e a e e e e (λ h. e) (λ n i. e) x

abbrev pub if_posted : {A : Type 0} → Answer → A → A → A
if_posted x a e = by_kind e e a e e e (λ h. e) (λ n i. e) x

abbrev pub if_going : {A : Type 0} → Answer → A → A → A
if_going x a e = by_kind e e e a e e (λ h. e) (λ n i. e) x

abbrev pub if_ended : {A : Type 0} → Answer → A → A → A
if_ended x a e = by_kind e e e e a e (λ h. e) (λ n i. e) x

abbrev pub if_none_ready : {A : Type 0} → Answer → A → A → A
if_none_ready x a e = by_kind e e e e e a (λ h. e) (λ n i. e) x

abbrev pub if_handed : {A : Type 0} → Answer → (HandOut → A) → A → A
if_handed x f e = by_kind e e e e e e f (λ n i. e) x

abbrev pub if_refused : {A : Type 0} → Answer → (ℕ → ℕ → A) → A → A
if_refused x f e = by_kind e e e e e e (λ h. e) f x
