-- What Served.antt says of an add leaves one answer: after the adds accepted before, no two answers of it run whole, or
-- of one step of it, are both right. So no number may stand for another, and none may come for nothing.
use Rattle.std.specs.Prelude.{◌≡◌, refl, Bool, true, false, List, ℕ}
use Rattle.std.proofs.Common.{sym, ap, ◌∙◌, true≢false, arith}
use Rattle.std.proofs.Math.Decide.{dec_lt}
use Rattle.def_terms.specs.Terms.{Arguments}
use Rattle.def_terms.specs.declared.Sizes.{Sizes}
use Rattle.def_terms.specs.declared.Answer.{Answer}
use Rattle.def_terms.specs.declared.Answer.TheVariants.{Refused}
use Rattle.def_audit.specs.Served.{Entering, by_7, by_8, enters, AddAnswered, by_5, by_6, all_known, AddStepped}
use Rattle.def_audit.specs.Served.{found, not_found, entering, links, settles}

both : {b : Bool} → b ≡ true → b ≡ false → ⊥
both e f = true≢false (sym e ∙ f)

module _ {s : Sizes} {adds : List Arguments} {a : Arguments} where
  pub entering_one : {yes x y : Answer} → Entering s adds a yes x → Entering s adds a yes y → x ≡ y
  entering_one (by_7 k) (by_7 l) = refl
  entering_one (by_7 k) (by_8 n f) = absurd (n k)
  entering_one (by_7 k) (enters n f) = absurd (n k)
  entering_one (by_8 n f) (by_7 k) = absurd (n k)
  entering_one (by_8 n f) (by_8 m g) = refl
  entering_one (by_8 n f) (enters m g) = absurd (g f)
  entering_one (enters n f) (by_7 k) = absurd (n k)
  entering_one (enters n f) (by_8 m g) = absurd (f g)
  entering_one (enters n f) (enters m g) = refl

  pub answered_one : {x y : Answer} → AddAnswered s adds a x → AddAnswered s adds a y → x ≡ y
  answered_one (by_5 e) (by_5 f) = refl
  answered_one (by_5 e) (by_6 i f h k n) = absurd (both e f)
  answered_one (by_5 e) (all_known f k g) = absurd (both e f)
  answered_one (by_6 i e h k n) (by_5 f) = absurd (both f e)
  answered_one (by_6 i e h k n) (by_6 j f g l m) = elim (dec_lt i j) [
    | yes z ↦ absurd (n (l i z))
    | no z ↦ elim (dec_lt j i) [
      | yes y ↦ absurd (m (k j y))
      | no y ↦ let same : i ≡ j = omega arith in ap (λ p. Refused 6 p) same
    ]
  ]
  answered_one (by_6 i e h k n) (all_known f l g) = absurd (n (l i h))
  answered_one (all_known e k g) (by_5 f) = absurd (both f e)
  answered_one (all_known e k g) (by_6 i f h l n) = absurd (n (k i h))
  answered_one (all_known e k g) (all_known f l h) = entering_one g h

  pub stepped_one : {k : ℕ} {x y : Answer} → AddStepped s adds a k x → AddStepped s adds a k y → x ≡ y
  stepped_one (found h k) (found g l) = refl
  stepped_one (found h k) (not_found g n) = absurd (n k)
  stepped_one (found h k) (entering e g) = absurd (omega arith)
  stepped_one (found h k) (links g l) = refl
  stepped_one (found h k) (settles e) = absurd (omega arith)
  stepped_one (not_found h n) (found g k) = absurd (n k)
  stepped_one (not_found h n) (not_found g m) = refl
  stepped_one (not_found h n) (entering e g) = absurd (omega arith)
  stepped_one (not_found h n) (links g l) = absurd (omega arith)
  stepped_one (not_found h n) (settles e) = absurd (omega arith)
  stepped_one (entering e g) (found h k) = absurd (omega arith)
  stepped_one (entering e g) (not_found h n) = absurd (omega arith)
  stepped_one (entering e g) (entering f h) = entering_one g h
  stepped_one (entering e g) (links h l) = absurd (omega arith)
  stepped_one (entering e g) (settles f) = absurd (omega arith)
  stepped_one (links h l) (found g k) = refl
  stepped_one (links h l) (not_found g n) = absurd (omega arith)
  stepped_one (links h l) (entering e g) = absurd (omega arith)
  stepped_one (links h l) (links g m) = refl
  stepped_one (links h l) (settles e) = absurd (omega arith)
  stepped_one (settles e) (found h k) = absurd (omega arith)
  stepped_one (settles e) (not_found h n) = absurd (omega arith)
  stepped_one (settles e) (entering f g) = absurd (omega arith)
  stepped_one (settles e) (links h l) = absurd (omega arith)
  stepped_one (settles e) (settles f) = refl
