-- The parameters of a block, and the place of a variable among them.
use Rattle.std.proofs.Common.{◌≡◌, ◌≢◌, ℕ, suc, ◌+◌, ◌<◌, true, false, List, ◌∷◌, map, length, drop, get_or, Some, sym, ap, ◌∙◌, arith}
use Rattle.std.specs.Prelude.{◌==◌, if◌then◌else◌}
use Rattle.std.proofs.lemmas.Bool.Decides.{nat_tests}
use Rattle.std.proofs.lemmas.List.{drop_more}
use Rattle.pli_typing.specs.declared.statement.Procedure.{Procedure}
use Rattle.pli_typing.specs.TypedTree as Y
use Rattle.pli_typing.specs.TypedStatementView.{procedure_of}
use Rattle.pli_meaning.specs.DeclaredShapes.{procedure_numbered}
use Rattle.pli_coding.specs.Frames.{parameters_in}
use Rattle.pli_coding.specs.Locating.{place_among}
use Rattle.rv_address.proofs.Declared.{shown_from}

equal_test : (a n : ℕ) → a ≡ n → (a == n) ≡ true
equal_test a n e = grind (arith, nat_tests)

other_test : (a n : ℕ) → a ≢ n → (a == n) ≡ false
other_test a n e = grind (arith, nat_tests)

-- ---- the parameters of a block

pub here : (ps : List Procedure) (i n : ℕ) (p : Procedure) (target : List ℕ) → i < length ps → p ≡ get_or ps i p → p.block.head.number ≡ n → parameters_in (procedure_numbered n (map procedure_of (drop i ps))) ≡ target → p.parameters.items ≡ target
here ps i n p target h e s is =
    let all : List Y.Procedure = map procedure_of (drop (i + 1) ps) in
    sym (ap (λ t. parameters_in (if t then Some (procedure_of p) else procedure_numbered n all)) (equal_test p.block.head.number n s))
    ∙ ap (λ qs. parameters_in (procedure_numbered n qs)) (sym (shown_from procedure_of ps i p h e))
    ∙ is

pub not_here : (ps : List Procedure) (i n : ℕ) (p : Procedure) (target : List ℕ) → i < length ps → p ≡ get_or ps i p → p.block.head.number ≢ n → parameters_in (procedure_numbered n (map procedure_of (drop i ps))) ≡ target → parameters_in (procedure_numbered n (map procedure_of (drop (i + 1) ps))) ≡ target
not_here ps i n p target h e s is =
    let all : List Y.Procedure = map procedure_of (drop (i + 1) ps) in
    sym (ap (λ t. parameters_in (if t then Some (procedure_of p) else procedure_numbered n all)) (other_test p.block.head.number n s))
    ∙ ap (λ qs. parameters_in (procedure_numbered n qs)) (sym (shown_from procedure_of ps i p h e))
    ∙ is

-- ---- a place among parameters

pub this_parameter : (xs : List ℕ) (i x index place target : ℕ) → i < length xs → x ≡ get_or xs i x → x ≡ index → place + place_among index (drop i xs) ≡ target → place ≡ target
this_parameter xs i x index place target h e s is =
    let at : place_among index (drop i xs) ≡ 0 = ap (place_among index) (drop_more xs i x h ∙ ap (λ y. y ∷ drop (i + 1) xs) (sym e)) ∙ ap (λ t. if t then 0 else suc (place_among index (drop (i + 1) xs))) (equal_test x index s) in
    omega arith

pub next_parameter : (xs : List ℕ) (i x index place next target : ℕ) → i < length xs → x ≡ get_or xs i x → x ≢ index → next ≡ place + 1 → place + place_among index (drop i xs) ≡ target → next + place_among index (drop (i + 1) xs) ≡ target
next_parameter xs i x index place next target h e s n is =
    let at : place_among index (drop i xs) ≡ suc (place_among index (drop (i + 1) xs)) = ap (place_among index) (drop_more xs i x h ∙ ap (λ y. y ∷ drop (i + 1) xs) (sym e)) ∙ ap (λ t. if t then 0 else suc (place_among index (drop (i + 1) xs))) (other_test x index s) in
    omega arith
