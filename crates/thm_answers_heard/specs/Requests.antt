-- An add run whole, and a sheet of adds, do what their requests say and no more: names past the count tell nothing. For
-- ALL tables. Follows docs/RULES.md, "Tables and their measures" and "Whole calls".
use Rattle.std.specs.Prelude.{◌≡◌, refl, List, [], ◌∷◌, map, ℕ, zero, suc, length}
use Rattle.std.proofs.Common.{sym, ap, ◌∙◌}
use Rattle.std.proofs.lemmas.List.{length-map}
use Rattle.def_basics.specs.Base.{prefix}
use Rattle.def_basics.specs.Laws.{length_prefix}
use Rattle.def_terms.specs.Terms.{Arguments, listed, arguments_wrong}
use Rattle.def_terms.specs.Runs.{Result}
use Rattle.def_terms.specs.Seen.{Request, request}
use Rattle.def_terms.specs.declared.Sizes.{Sizes}
use Rattle.def_words.specs.Layout.{Tables}
use Rattle.def_words.specs.Words.{add_words}
use Rattle.def_whole_calls.specs.Whole.{whole_add}
use Rattle.def_whole_calls.specs.Sheet.{SheetResult, sheet_result, add_each, served, judged_sheet, sheet_words}

prefix_again : (n : ℕ) (l : List ℕ) → prefix n (prefix n l) ≡ prefix n l
unfolding prefix
prefix_again zero l = refl
prefix_again (suc n) [] = ap (λ k. 0 ∷ k) (prefix_again n [])
prefix_again (suc n) (x ∷ l) = ap (λ k. x ∷ k) (prefix_again n l)

-- the arguments with no names past the count
with_names : Arguments → ℕ → List ℕ → Arguments
with_names a n l = record { name = a.name; count = n; names = l; class = a.class; grower = a.grower }

of_request : Request → Arguments
of_request r =
    record { name = r.name; count = length r.list; names = r.list; class = r.class; grower = r.grower }

cut_add : (s : Sizes) (t : Tables) (w : ℕ) (a : Arguments)
    → whole_add s t w (with_names a a.count (listed a)) ≡ whole_add s t w a
unfolding with_names whole_add add_words arguments_wrong
cut_add s t w a = rw (prefix_again a.count a.names)

of_request_lem : (s : Sizes) (t : Tables) (w : ℕ) (a : Arguments)
    → whole_add s t w a ≡ whole_add s t w (of_request (request a))
unfolding with_names of_request
of_request_lem s t w a =
    sym (cut_add s t w a)
    ∙ ap (λ n. whole_add s t w (with_names a n (listed a))) (sym (length_prefix a.count a.names))

-- one add, and then the rest r
abbrev first : Result Tables → SheetResult → SheetResult
first o r = sheet_result 0 (o.answer ∷ r.answers) r.state

of_requests : (s : Sizes) (w : ℕ) (l : List Arguments) (t : Tables)
    → add_each s w l t ≡ add_each s w (map of_request (map request l)) t
unfolding add_each
of_requests s w [] t = refl
of_requests s w (a ∷ l) t =
    ap (first (whole_add s t w a)) (of_requests s w l (whole_add s t w a).state)
    ∙ ap (λ (o : Result Tables). first o (add_each s w (map of_request (map request l)) o.state)) (of_request_lem s t w a)

pub adds_by_requests : (s : Sizes) (w : ℕ) (l m : List Arguments) (t : Tables) → map request l ≡ map request m
    → add_each s w l t ≡ add_each s w m t
adds_by_requests s w l m t e =
    of_requests s w l t ∙ ap (λ r. add_each s w (map of_request r) t) e ∙ sym (of_requests s w m t)

served_same : (n : ℕ) (s : Sizes) (t : Tables) (w : ℕ) (l m : List Arguments) → map request l ≡ map request m
    → served n s t w l ≡ served n s t w m
unfolding served
served_same zero s t w l m e = adds_by_requests s w l m t e
served_same (suc n) s t w l m e = refl

-- sheets that request the same
pub sheet_by_requests : (s : Sizes) (t : Tables) (w : ℕ) (l m : List Arguments) → map request l ≡ map request m
    → sheet_words s t w l ≡ sheet_words s t w m
unfolding sheet_words
sheet_by_requests s t w l m e =
    let n : length l ≡ length m = sym (length-map l request) ∙ ap length e ∙ length-map m request in
    ap (λ k. served (judged_sheet s t w k) s t w l) n ∙ served_same (judged_sheet s t w (length m)) s t w l m e
