-- The code that stores the elements of one array in those of another, where both declarations are known. It marks no symbols.
use Rattle.std.proofs.Common.{◌≡◌, ℕ, List, [], ◌∷◌, ◌++◌, Bool, true, refl, ap, ◌∙◌}
use Rattle.std.specs.Prelude.{pos, ◌==◌}
use Rattle.pli_typing.specs.Signatures.{Bounds}
use Rattle.pli_typing.specs.TypedTree as Y
use Rattle.pli_coding.specs.Registers.{frame_register, a0, a1, a2, a3, a4}
use Rattle.pli_coding.specs.Assembly.{Code}
use Rattle.pli_coding.specs.Instructions.{number, small, plus, load_word, service, tested_service}
use Rattle.pli_coding.specs.Frames.{has_constant_size, own_offset}
use Rattle.pli_coding.specs.Environments.{Environment, Taken}
use Rattle.pli_coding.specs.SignatureTable.{table_of}
use Rattle.pli_coding.specs.Storing as K
use Rattle.pli_headline.specs.ProvedSoFar.{Names, IsScalar, AreBounds, array_variable}
use Rattle.pli_headline.proofs.SymbolsMarked.{Marks, behind, constant_none, load_none, plus_none}
use Rattle.pli_headline.proofs.Variables.{whole, own, level_of}
use Rattle.pli_headline.proofs.PlainNumbers.{number_for}
use Rattle.pli_headline.proofs.ArrayElements.{IsDeclaredArray}
use Rattle.pli_headline.proofs.ArrayNames.{place_of_name}
use Rattle.pli_headline.proofs.ElementsCode.{record_by, record_form, number_asked, number_known, given_by, given_is}
use Rattle.pli_headline.proofs.ElementsMarks.{record_none}

-- what service 40 is asked, about a whole array: to take it with mode 0, or to store there with mode 1
abbrev pub asked_by : Taken → (mode : ℕ) → Code
asked_by t mode = given_by t ++ (number a1 0 ++ (number a2 1 ++ (number a3 0 ++ small a4 mode ∷ [])))

-- where the name of an array stands, in which frame, and the number of its signature
pub record Place : Type 0 where
  pub here : Bool
  pub level : ℕ
  pub place : ℕ
  pub number : ℕ

abbrev pub record_at : Taken → Place → Code
record_at t p = record_by t p.here p.level p.place p.number

abbrev pub copying : Taken → (source target : Place) → Code
copying t source target =
    record_at t source ++ (asked_by t 0 ++ (service 40 ++ (record_at t target ++ (asked_by t 1 ++ tested_service 40))))

abbrev pub place_with : Environment → (block : Names) → (j number : ℕ) → Place
place_with e block j number =
    record { here = level_of block j == e.level; level = level_of block j; place = place_of_name e block j; number = number }

asked_is : (e : Environment) (t : Taken) (block : Names) (j mode : ℕ) → K.aggregate_given e t (whole (own block j)) mode ≡ asked_by t mode
asked_is e t block j mode =
    ap (λ c. c ++ (number a1 0 ++ (number a2 1 ++ (number a3 0 ++ small a4 mode ∷ [])))) (given_is e t)

pub copying_form : (e : Environment) (t : Taken) (block : Names) (j i : ℕ) (type other : Y.LeafType) (bs cs : List Bounds) (d : IsDeclaredArray e block j type bs) (d' : IsDeclaredArray e block i other cs) → has_constant_size (array_variable type bs d.0) ≡ true → has_constant_size (array_variable other cs d'.0) ≡ true → K.aggregate_code e t (whole (own block j)) (whole (own block i)) ≡ copying t (place_with e block i (number_asked e (array_variable other cs d'.0))) (place_with e block j (number_asked e (array_variable type bs d.0)))
copying_form e t block j i type other bs cs d d' constant constant' =
    let target = whole (own block j) in
    let source = place_with e block i (number_asked e (array_variable other cs d'.0)) in
    let into = place_with e block j (number_asked e (array_variable type bs d.0)) in
    let last = K.aggregate_given e t target 1 ++ tested_service 40 in
    ap (λ c. c ++ (K.aggregate_given e t (whole (own block i)) 0 ++ (service 40 ++ (K.record_code e t target ++ last)))) (record_form e t block i other cs d' constant')
    ∙ ap (λ c. record_at t source ++ (c ++ (service 40 ++ (K.record_code e t target ++ last)))) (asked_is e t block i 0)
    ∙ ap (λ c. record_at t source ++ (asked_by t 0 ++ (service 40 ++ (c ++ last)))) (record_form e t block j type bs d constant)
    ∙ ap (λ c. record_at t source ++ (asked_by t 0 ++ (service 40 ++ (record_at t into ++ (c ++ tested_service 40))))) (asked_is e t block j 1)

pub copying_is : (e : Environment) (t : Taken) (block : Names) (j i : ℕ) (type other : Y.LeafType) (bs cs : List Bounds) (d : IsDeclaredArray e block j type bs) (d' : IsDeclaredArray e block i other cs) → has_constant_size (array_variable type bs d.0) ≡ true → has_constant_size (array_variable other cs d'.0) ≡ true → IsScalar type → IsScalar other → AreBounds bs → AreBounds cs → e.table ≡ table_of e.program → K.aggregate_code e t (whole (own block j)) (whole (own block i)) ≡ copying t (place_with e block i (number_for (table_of e.program) (record { type = other; bounds = cs }))) (place_with e block j (number_for (table_of e.program) (record { type = type; bounds = bs })))
copying_is e t block j i type other bs cs d d' constant constant' is is' are are' table =
    copying_form e t block j i type other bs cs d d' constant constant'
    ∙ ap (λ n. copying t (place_with e block i n) (place_with e block j (number_asked e (array_variable type bs d.0)))) (number_known e other cs d'.0 is' are' table)
    ∙ ap (λ n. copying t (place_with e block i (number_for (table_of e.program) (record { type = other; bounds = cs }))) (place_with e block j n)) (number_known e type bs d.0 is are table)

-- ---- symbols

asked_none : (t : Taken) (mode : ℕ) → Marks (asked_by t mode) []
asked_none t mode =
    let last = small a4 mode ∷ [] in
    behind (given_by t) (number a1 0 ++ (number a2 1 ++ (number a3 0 ++ last))) [] (behind (load_word a0 frame_register own_offset) (plus a0 a0 (K.record_place t 0)) [] (load_none a0 frame_register own_offset) (plus_none a0 a0 (K.record_place t 0)))
    (behind (number a1 0) (number a2 1 ++ (number a3 0 ++ last)) [] (constant_none a1 (pos 0))
    (behind (number a2 1) (number a3 0 ++ last) [] (constant_none a2 (pos 1))
    (behind (number a3 0) last [] (constant_none a3 (pos 0)) refl)))

pub copying_none : (t : Taken) (source target : Place) → Marks (copying t source target) []
copying_none t source target =
    let third = record_at t target ++ (asked_by t 1 ++ tested_service 40) in
    behind (record_at t source) (asked_by t 0 ++ (service 40 ++ third)) [] (record_none t source.here source.level source.place source.number)
    (behind (asked_by t 0) (service 40 ++ third) [] (asked_none t 0)
    (behind (service 40) third [] refl
    (behind (record_at t target) (asked_by t 1 ++ tested_service 40) [] (record_none t target.here target.level target.place target.number)
    (behind (asked_by t 1) (tested_service 40) [] (asked_none t 1) refl))))
