-- The code that finds a member of what a pointer variable points to.
use Rattle.std.proofs.Common.{◌≡◌, ℕ, ◌+◌, [], ◌∷◌, ◌++◌, Option, Some, None, Bool, true, false, refl, sym, ap, ◌∙◌}
use Rattle.std.proofs.Common.{List}
use Rattle.std.proofs.lemmas.List.{append_assoc}
use Rattle.std.specs.Prelude.{cond, pos, ◌&&◌, ◌==◌, length, slice_get, unwrap_or, if◌then◌else◌}
use Rattle.rv_meaning.specs.declared.instr.Instr.TheVariants as I
use Rattle.pli_typing.specs.TypedTree as Y
use Rattle.pli_meaning.specs.DeclaredShapes.{declared_variable}
use Rattle.pli_coding.specs.Assembly.{BaseIn, Code, Plain}
use Rattle.pli_coding.specs.Environments.{Environment, Taken, no_declaration}
use Rattle.pli_coding.specs.Expressions.{number_code, pointer_to, reference_code}
use Rattle.pli_coding.specs.Frames.{display, has_constant_size, own_offset}
use Rattle.pli_coding.specs.Instructions.{add, load_word, move, number, plus, small, status_tested, tested_service}
use Rattle.pli_coding.specs.Locating.{FrameName, KnownNumber, NumberPlace, based_number, based_reached, behind_locator}
use Rattle.pli_coding.specs.Locating.{buffer_if, leaf_place, loaded, may_refer, needs_buffer, no_leaf, number_loaded}
use Rattle.pli_coding.specs.Locating.{reached, refer_if, table_number, waiting_name, where_standing}
use Rattle.pli_coding.specs.Registers.{a0, a1, a2, a3, a4, a7, frame_register, u0, u3}
use Rattle.program_runs.proofs.Variables.{own_code}
use Rattle.expression_runs.specs.Variables.{Spot, variable_of, whole}
use Rattle.variable_runs.specs.Known.{place_of}
use Rattle.area_runs.specs.Based.{based_of, pointer_declared}
use Rattle.area_runs.proofs.BasedCode.{addressing_code, name_at_place, value_loaded}
use Rattle.member_runs.specs.Members.{IsMember, member_of, member_part, structure_declared}

-- ---- the code

-- what service 8 is given beside the name's place
abbrev pub asking_code : (signature member : ℕ) → Code
asking_code signature member =
    number a1 signature ++ (number a2 member ++ (small a3 0 ∷ small a4 0 ∷ small a7 8 ∷ []))

abbrev pub found_code : (place signature member : ℕ) → Code
found_code place signature member =
    own_code a0 place ++ (asking_code signature member ++ (Plain I.Ecall ∷ (status_tested ++ addressing_code)))

abbrev pub read_code : (place signature member : ℕ) → Code
read_code place signature member = found_code place signature member ++ value_loaded

abbrev declared_in : Option Y.DeclaredVariable → Y.DeclaredVariable
declared_in o = unwrap_or o no_declaration

abbrev pub leaf_of : Option Y.Leaf → Y.Leaf
leaf_of o = unwrap_or o no_leaf

abbrev leaf_in : Option Y.DeclaredVariable → (member : ℕ) → Y.Leaf
leaf_in o member = leaf_of (slice_get (declared_in o).leaves member)

abbrev refers : Option Y.DeclaredVariable → (member : ℕ) → Bool
refers o member = (member + 1 == length (declared_in o).leaves) && may_refer (declared_in o)

-- by the pointer's declaration
abbrev by_pointer : Environment → Taken → (p n : Spot) → (member : ℕ) → Option Y.DeclaredVariable → Code
by_pointer e t p n member o =
    where_standing (if has_constant_size (declared_in o)
    then Some (FrameName p.level (pos (place_of e p + 16 + leaf_place (declared_in o) 0))) else None)
    (λ name. based_reached e name t (based_of n) (member_part member) Y.NoNumber)
    (pointer_to e t (waiting_name t) (Y.PointerIn (whole p))
    ++ reached e t (behind_locator (based_of n) t) (based_of n) (member_part member) Y.NoNumber)

-- by its parts: whether a description is wanted, whether REFER may tell an extent, and whether the pointer is the
-- block's own
abbrev by_parts : Environment → (p : Spot) → (member : ℕ) → NumberPlace → (wanted referred own : Bool) → Code
by_parts e p member place wanted referred own =
    (((cond own [] (load_word a0 frame_register (display p.level))
    ++ (load_word a0 (cond own frame_register a0) own_offset ++ plus a0 a0 (pos (name_at_place e p))))
    ++ (number_loaded e a1 place
    ++ (number a2 member ++ (buffer_if e wanted a3 ++ (small a4 0 ∷ tested_service 8)))))
    ++ refer_if e (record { name = FrameName p.level (pos (name_at_place e p)); number = place }) wanted referred)
    ++ (BaseIn u0 ∷ add u3 u3 u0 ∷ [])

abbrev by_based : Environment → (p n : Spot) → (member : ℕ) → Option Y.DeclaredVariable → Code
by_based e p n member o =
    by_parts e p member (based_number e (based_of n) (declared_in o)) (needs_buffer (leaf_in o member))
    (refers o member) (p.level == e.level)

and_false : (b : Bool) → (b && false) ≡ false
and_false true = refl
and_false false = refl

pub found_coded :
    (e : Environment) (t : Taken) (p n : Spot) (members : List Y.Member) (leaves : List Y.Leaf)
    (member signature : ℕ) (l : Y.Leaf) →
    declared_variable e.program (variable_of p) ≡ Some pointer_declared →
    declared_variable e.program (based_of n) ≡ Some (structure_declared members leaves) →
    slice_get leaves member ≡ Some l → needs_buffer l ≡ false →
    table_number e (structure_declared members leaves) ≡ signature → (p.level == e.level) ≡ true →
    reference_code e t (member_of p n member) ≡ found_code (name_at_place e p) signature member
found_coded e t p n members leaves member signature l pointer declared there plain table own =
    let d = structure_declared members leaves in
    ap (λ o. by_pointer e t p n member o) pointer
    ∙ ap (λ o. by_based e p n member o) declared
    ∙ ap (λ o. by_parts e p member (KnownNumber (table_number e d)) (needs_buffer (leaf_of o))
    (refers (Some d) member) (p.level == e.level)) there
    ∙ ap (λ q. by_parts e p member (KnownNumber (table_number e d)) q (refers (Some d) member) (p.level == e.level))
    plain
    ∙ ap (λ q. by_parts e p member (KnownNumber (table_number e d)) false q (p.level == e.level))
    (and_false (member + 1 == length leaves))
    ∙ ap (λ q. by_parts e p member (KnownNumber (table_number e d)) false false q) own
    ∙ ap (λ i. by_parts e p member (KnownNumber i) false false true) table
    ∙ joined (own_code a0 (name_at_place e p)) (number a1 signature) (number a2 member)
  where
    asked : Code
    asked = small a3 0 ∷ small a4 0 ∷ tested_service 8

    three : Code
    three = small a3 0 ∷ small a4 0 ∷ small a7 8 ∷ []

    joined :
        (name num leaf : Code) →
        ((name ++ (num ++ (leaf ++ asked))) ++ (move u3 a0 ∷ [])) ++ (BaseIn u0 ∷ add u3 u3 u0 ∷ [])
        ≡ name ++ ((num ++ (leaf ++ three)) ++ (Plain I.Ecall ∷ (status_tested ++ addressing_code)))
    joined name num leaf =
        let rest = Plain I.Ecall ∷ (status_tested ++ addressing_code) in
        append_assoc (name ++ (num ++ (leaf ++ asked))) (move u3 a0 ∷ []) (BaseIn u0 ∷ add u3 u3 u0 ∷ [])
        ∙ append_assoc name (num ++ (leaf ++ asked)) addressing_code
        ∙ ap (λ u. name ++ u) (append_assoc num (leaf ++ asked) addressing_code)
        ∙ ap (λ u. name ++ (num ++ u)) (append_assoc leaf asked addressing_code)
        ∙ ap (λ u. name ++ (num ++ u)) (sym (append_assoc leaf three rest))
        ∙ ap (λ u. name ++ u) (sym (append_assoc num (leaf ++ three) rest))

pub read_coded :
    (e : Environment) (t : Taken) (p n : Spot) (members : List Y.Member) (leaves : List Y.Leaf)
    (member signature : ℕ) → IsMember leaves member (Y.FixedLeaf 31) →
    declared_variable e.program (variable_of p) ≡ Some pointer_declared →
    declared_variable e.program (based_of n) ≡ Some (structure_declared members leaves) →
    table_number e (structure_declared members leaves) ≡ signature → (p.level == e.level) ≡ true →
    number_code e t (Y.NumberIn (member_of p n member)) ≡ read_code (name_at_place e p) signature member
read_coded e t p n members leaves member signature is pointer declared table own =
    ap (λ o. reference_code e t (member_of p n member)
    ++ loaded (leaf_in o member).type a0 (record { register = u3; displacement = pos 0 })) declared
    ∙ ap (λ o. reference_code e t (member_of p n member)
    ++ loaded (leaf_of o).type a0 (record { register = u3; displacement = pos 0 })) is.there
    ∙ ap (λ u. u ++ value_loaded)
    (found_coded e t p n members leaves member signature _ pointer declared is.there refl table own)
