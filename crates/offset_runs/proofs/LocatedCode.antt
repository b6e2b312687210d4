-- The code of a number that is a member of what an offset names.
use Rattle.std.proofs.Common.{◌≡◌, ℕ, ◌+◌, [], ◌∷◌, ◌++◌, Bool, Option, Some, true, false, refl, sym, ap, ◌∙◌, List}
use Rattle.std.proofs.lemmas.Bool.{eq-eqb}
use Rattle.std.proofs.lemmas.List.{append_assoc}
use Rattle.std.specs.Prelude.{ℤ, cond, length, negsuc, pos, slice_get, unwrap_or, ◌&&◌, ◌==◌}
use Rattle.rv_meaning.specs.declared.instr.Instr.TheVariants as I
use Rattle.rv_meaning.specs.declared.instr.Register.{Register}
use Rattle.pli_typing.specs.TypedTree as Y
use Rattle.pli_meaning.specs.DeclaredShapes.{declared_variable}
use Rattle.pli_coding.specs.Assembly.{BaseIn, Code, Plain}
use Rattle.pli_coding.specs.Environments.{Environment, no_declaration}
use Rattle.pli_coding.specs.Expressions.{number_code, offset_code}
use Rattle.pli_coding.specs.Frames.{display, own_offset}
use Rattle.pli_coding.specs.Instructions.{add, load_word, move, number, plus, small, status_tested, tested_service}
use Rattle.pli_coding.specs.Locating.{FrameName, KnownNumber, NumberPlace, based_number, buffer_if, loaded, may_refer}
use Rattle.pli_coding.specs.Locating.{needs_buffer, number_loaded, refer_if, table_number}
use Rattle.pli_coding.specs.Registers.{a0, a1, a2, a3, a4, a7, frame_register, u0, u3}
use Rattle.program_runs.proofs.Variables.{own_code}
use Rattle.expression_runs.specs.Values.{in_registers}
use Rattle.expression_runs.specs.Variables.{Spot}
use Rattle.variable_runs.specs.Known.{place_of}
use Rattle.area_runs.specs.Based.{based_of}
use Rattle.area_runs.proofs.BasedCode.{addressing_code, value_loaded}
use Rattle.member_runs.specs.Members.{IsMember, structure_declared}
use Rattle.member_runs.proofs.MemberCode.{asking_code, leaf_of}
use Rattle.offset_runs.specs.OffsetReferences.{member_by}
use Rattle.offset_runs.proofs.AddressCode.{words_code}

-- service 14 writes the name into words of the frame
abbrev pub into_asked : (area : ℕ) → Code
into_asked area = own_code a1 area ++ (words_code a2 ++ (small a3 0 ∷ small a7 14 ∷ []))

-- service 8 finds the member by it
abbrev pub found_asked : (signature member : ℕ) → Code
found_asked signature member = words_code a0 ++ asking_code signature member

abbrev pub found_called : Code
found_called = Plain I.Ecall ∷ (status_tested ++ addressing_code)

abbrev pub located_code : (area signature member : ℕ) → Code
located_code area signature member =
    (into_asked area ++ (Plain I.Ecall ∷ [])) ++ ((found_asked signature member ++ found_called) ++ value_loaded)

-- ---- by its parts

-- a place of a frame, by whether that is the running one
abbrev place_by : Register → (level : ℕ) → Bool → (place : ℤ) → Code
place_by r level q place =
    cond q [] (load_word r frame_register (display level))
    ++ (load_word r (cond q frame_register r) own_offset ++ plus r r place)

abbrev declared_in : Option Y.DeclaredVariable → Y.DeclaredVariable
declared_in o = unwrap_or o no_declaration

abbrev leaf_in : Option Y.DeclaredVariable → (member : ℕ) → Y.Leaf
leaf_in o member = leaf_of (slice_get (declared_in o).leaves member)

abbrev refers : Option Y.DeclaredVariable → (member : ℕ) → Bool
refers o member = (member + 1 == length (declared_in o).leaves) && may_refer (declared_in o)

-- what an offset comes to, and where the member is found
abbrev by_parts : Environment → Code → (a : Spot) → (member : ℕ) → NumberPlace → (wanted referred area mine : Bool) →
    (type : Y.LeafType) → Code
by_parts e value a member place wanted referred area mine type =
    ((value
    ++ (place_by a1 a.level area (pos (place_of e a))
    ++ (place_by a2 e.level mine (negsuc 15) ++ (small a3 0 ∷ small a7 14 ∷ Plain I.Ecall ∷ []))))
    ++ (((place_by a0 e.level mine (negsuc 15)
    ++ (number_loaded e a1 place
    ++ (number a2 member ++ (buffer_if e wanted a3 ++ (small a4 0 ∷ tested_service 8)))))
    ++ refer_if e (record { name = FrameName e.level (negsuc 15); number = place }) wanted referred)
    ++ (BaseIn u0 ∷ add u3 u3 u0 ∷ [])))
    ++ loaded type a0 (record { register = u3; displacement = pos 0 })

abbrev by_based : Environment → Code → (a n : Spot) → (member : ℕ) → Option Y.DeclaredVariable → Code
by_based e value a n member o =
    by_parts e value a member (based_number e (based_of n) (declared_in o)) (needs_buffer (leaf_in o member))
    (refers o member) (a.level == e.level) (e.level == e.level) (leaf_in o member).type

and_false : (b : Bool) → (b && false) ≡ false
and_false true = refl
and_false false = refl

pub located_coded :
    (e : Environment) (taken : ℕ) (x : Y.Offset) (a n : Spot) (members : List Y.Member) (leaves : List Y.Leaf)
    (member signature : ℕ) → IsMember leaves member (Y.FixedLeaf 31) →
    declared_variable e.program (based_of n) ≡ Some (structure_declared members leaves) →
    table_number e (structure_declared members leaves) ≡ signature → (a.level == e.level) ≡ true →
    number_code e (in_registers 0 taken) (Y.NumberIn (member_by x a n member))
    ≡ offset_code e (in_registers 0 taken) x ++ located_code (place_of e a) signature member
located_coded e taken x a n members leaves member signature one declared table theirs =
    let value = offset_code e (in_registers 0 taken) x in
    let d = structure_declared members leaves in
    let place = KnownNumber (table_number e d) in
    ap (by_based e value a n member) declared
    ∙ ap (λ o. by_parts e value a member place (needs_buffer (leaf_of o)) (refers (Some d) member) (a.level == e.level)
    (e.level == e.level) (leaf_of o).type) one.there
    ∙ ap (λ q. by_parts e value a member place false q (a.level == e.level) (e.level == e.level) (Y.FixedLeaf 31))
    (and_false (member + 1 == length leaves))
    ∙ ap (λ q. by_parts e value a member place false false q (e.level == e.level) (Y.FixedLeaf 31)) theirs
    ∙ ap (λ q. by_parts e value a member place false false true q (Y.FixedLeaf 31)) (eq-eqb e.level e.level refl)
    ∙ ap (λ i. by_parts e value a member (KnownNumber i) false false true true (Y.FixedLeaf 31)) table
    ∙ joined value (own_code a1 (place_of e a)) (number a1 signature) (number a2 member)
  where
    asked : Code
    asked = small a3 0 ∷ small a4 0 ∷ tested_service 8

    three : Code
    three = small a3 0 ∷ small a4 0 ∷ small a7 8 ∷ []

    last : Code
    last = small a3 0 ∷ small a7 14 ∷ []

    call : Code
    call = Plain I.Ecall ∷ []

    found :
        (num leaf : Code) →
        ((words_code a0 ++ (num ++ (leaf ++ asked))) ++ (move u3 a0 ∷ [])) ++ (BaseIn u0 ∷ add u3 u3 u0 ∷ [])
        ≡ (words_code a0 ++ (num ++ (leaf ++ three))) ++ found_called
    found num leaf =
        append_assoc (words_code a0 ++ (num ++ (leaf ++ asked))) (move u3 a0 ∷ []) (BaseIn u0 ∷ add u3 u3 u0 ∷ [])
        ∙ ap (λ u. words_code a0 ++ u) (append_assoc num (leaf ++ asked) addressing_code)
        ∙ ap (λ u. words_code a0 ++ (num ++ u)) (append_assoc leaf asked addressing_code)
        ∙ ap (λ u. words_code a0 ++ (num ++ u)) (sym (append_assoc leaf three found_called))
        ∙ ap (λ u. words_code a0 ++ u) (sym (append_assoc num (leaf ++ three) found_called))

    into :
        (area : Code) →
        area ++ (words_code a2 ++ (small a3 0 ∷ small a7 14 ∷ Plain I.Ecall ∷ []))
        ≡ (area ++ (words_code a2 ++ last)) ++ call
    into area = sym (append_assoc area (words_code a2 ++ last) call)

    joined :
        (value area num leaf : Code) →
        ((value ++ (area ++ (words_code a2 ++ (small a3 0 ∷ small a7 14 ∷ Plain I.Ecall ∷ []))))
        ++ (((words_code a0 ++ (num ++ (leaf ++ asked))) ++ (move u3 a0 ∷ [])) ++ (BaseIn u0 ∷ add u3 u3 u0 ∷ [])))
        ++ value_loaded
        ≡ value
        ++ (((area ++ (words_code a2 ++ last)) ++ call)
        ++ (((words_code a0 ++ (num ++ (leaf ++ three))) ++ found_called) ++ value_loaded))
    joined value area num leaf =
        ap (λ u. ((value ++ (area ++ (words_code a2 ++ (small a3 0 ∷ small a7 14 ∷ Plain I.Ecall ∷ [])))) ++ u)
        ++ value_loaded) (found num leaf)
        ∙ ap (λ u. ((value ++ u) ++ ((words_code a0 ++ (num ++ (leaf ++ three))) ++ found_called)) ++ value_loaded)
        (into area)
        ∙ append_assoc (value ++ ((area ++ (words_code a2 ++ last)) ++ call))
        ((words_code a0 ++ (num ++ (leaf ++ three))) ++ found_called) value_loaded
        ∙ append_assoc value ((area ++ (words_code a2 ++ last)) ++ call)
        (((words_code a0 ++ (num ++ (leaf ++ three))) ++ found_called) ++ value_loaded)
