-- The pointers and areas that a block of a program of the class may name: the main procedure's own.
use Rattle.std.proofs.Common.{◌≡◌, ℕ, suc, List, [], ◌∷◌, Bool, true, false, refl, subst, arith}
use Rattle.std.specs.Prelude.{◌||◌, ◌==◌, if◌then◌else◌}
use Rattle.std.specs.List.{list_any}
use Rattle.std.proofs.lemmas.Bool.{and_parts, eqb-true}
use Rattle.pli_typing.specs.TypedTree as Y
use Rattle.pli_meaning.specs.DeclaredShapes.{declared_variable}
use Rattle.pli_coding.specs.Environments.{BlockPlace}
use Rattle.storage_relation.proofs.Holders.{eqb-other}
use Rattle.expression_runs.specs.Variables.{Spot, variable_of}
use Rattle.number_runs.specs.Based.{is_area_if, is_pointer_if}
use Rattle.number_runs.specs.Numbers.{is_area_known, is_place, is_pointer_known}
use Rattle.number_headlines.specs.Programs.{pointers_of, scope_of}

abbrev place_of : Y.BlockHead → BlockPlace
place_of head = record { number = head.number; level = head.level }

pub pointers_own :
    (head : Y.BlockHead) (x : Spot) → list_any (is_place x) (pointers_of head) ≡ true →
    (x.block ≡ head.number) × (x.level ≡ head.level)
pointers_own head x h = by (head.level == 0) h
  where
    last : (q : Bool) → (q || false) ≡ true → q ≡ true
    last true h' = refl
    last false h' = absurd (cc h')

    by :
        (q : Bool) →
        list_any (is_place x)
        (if q then place_of head ∷ [] else []) ≡ true →
        (x.block ≡ head.number) × (x.level ≡ head.level)
    by false h' = absurd (cc h')
    by true h' =
        let one = last (is_place x (place_of head)) h' in
        let a = and_parts (x.block == head.number) (x.level == head.level) one in
        (eqb-true x.block head.number a.0, eqb-true x.level head.level a.1)

-- a procedure that is called names none
none_named :
    (head : Y.BlockHead) (level : ℕ) (x : Spot) → head.level ≡ suc level →
    list_any (is_place x) (pointers_of head) ≡ true → ⊥
none_named head level x inside h =
    cc (subst (λ q.
    list_any (is_place x) (if q then record { number = head.number; level = head.level } ∷ [] else []) ≡ true)
    (eqb-other head.level 0 (λ e. omega (arith, inside, e))) h)

pub none_pointing :
    (program : Y.Program) (ns : List ℕ) (head : Y.BlockHead) (body : Y.Stmts) (level : ℕ) (x : Spot) →
    head.level ≡ suc level → is_pointer_known (scope_of program ns head body) x ≡ true → ⊥
none_pointing program ns head body level x inside h =
    none_named head level x inside
    (and_parts (list_any (is_place x) (pointers_of head))
    (is_pointer_if (declared_variable program (variable_of x))) h).0

pub none_holding :
    (program : Y.Program) (ns : List ℕ) (head : Y.BlockHead) (body : Y.Stmts) (level : ℕ) (x : Spot) →
    head.level ≡ suc level → is_area_known (scope_of program ns head body) x ≡ true → ⊥
none_holding program ns head body level x inside h =
    none_named head level x inside
    (and_parts (list_any (is_place x) (pointers_of head)) (is_area_if (declared_variable program (variable_of x))) h).0
