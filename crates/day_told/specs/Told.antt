-- What an answer tells the day list, and the hand-out or the refusal that it makes.
use Rattle.std.specs.Prelude.{◌≡◌, refl, [], ◌∷◌, ℕ, Option, Some, None}
use Rattle.def_terms.specs.Cases.{if_handed, if_refused}
use Rattle.def_terms.specs.declared.Answer.{Answer}
use Rattle.def_terms.specs.declared.Answer.TheVariants.{Laid, Loaded, Posted, Going, Ended, NoneReady, Handed, Refused}
use Rattle.def_day.specs.Rounds.{refusal, holder, hand_out}

-- the name of the job, where one was handed out
abbrev pub name_handed : Answer → Option ℕ
name_handed x = if_handed x (λ h. Some h.name) None

-- the number of the refusal, where the call was refused
abbrev pub number_refused : Answer → Option ℕ
number_refused x = if_refused x (λ n p. Some n) None

-- the hand-out
pub hand_out_told : (w : ℕ) (a : Answer) (n : ℕ) → name_handed a ≡ Some n → hand_out w a ≡ holder w n ∷ []
hand_out_told w (Handed h) n e = cc
hand_out_told w (Refused k p) n e = cc
hand_out_told w Laid n e = cc
hand_out_told w Loaded n e = cc
hand_out_told w Posted n e = cc
hand_out_told w Going n e = cc
hand_out_told w Ended n e = cc
hand_out_told w NoneReady n e = cc

pub no_hand_out_told : (w : ℕ) (a : Answer) → name_handed a ≡ None → hand_out w a ≡ []
no_hand_out_told w (Handed h) e = cc
no_hand_out_told w (Refused n p) e = refl
no_hand_out_told w Laid e = refl
no_hand_out_told w Loaded e = refl
no_hand_out_told w Posted e = refl
no_hand_out_told w Going e = refl
no_hand_out_told w Ended e = refl
no_hand_out_told w NoneReady e = refl

-- the refusal
pub refusal_told : (i : ℕ) (a : Answer) (n : ℕ) → number_refused a ≡ Some n
    → refusal i a ≡ record { entry = i; number = n } ∷ []
refusal_told i (Refused k p) n e = cc
refusal_told i (Handed h) n e = cc
refusal_told i Laid n e = cc
refusal_told i Loaded n e = cc
refusal_told i Posted n e = cc
refusal_told i Going n e = cc
refusal_told i Ended n e = cc
refusal_told i NoneReady n e = cc

pub no_refusal_told : (i : ℕ) (a : Answer) → number_refused a ≡ None → refusal i a ≡ []
no_refusal_told i (Refused n p) e = cc
no_refusal_told i (Handed h) e = refl
no_refusal_told i Laid e = refl
no_refusal_told i Loaded e = refl
no_refusal_told i Posted e = refl
no_refusal_told i Going e = refl
no_refusal_told i Ended e = refl
no_refusal_told i NoneReady e = refl
