-- The code of the offset in an area of what a pointer variable points to.
use Rattle.std.proofs.Common.{◌≡◌, ℕ, ◌+◌, [], ◌∷◌, ◌++◌, Bool, Option, Some, true, false, refl, sym, ap, ◌∙◌, List}
use Rattle.std.proofs.lemmas.Bool.{eq-eqb}
use Rattle.std.proofs.lemmas.List.{append_assoc}
use Rattle.std.specs.Prelude.{ℤ, cond, length, negsuc, pos, unwrap_or, ◌&&◌, ◌==◌, if◌then◌else◌, None}
use Rattle.rv_meaning.specs.declared.instr.Instr.TheVariants as I
use Rattle.rv_meaning.specs.declared.instr.Register.{Register}
use Rattle.pli_typing.specs.TypedTree as Y
use Rattle.pli_meaning.specs.DeclaredShapes.{declared_variable}
use Rattle.pli_coding.specs.Assembly.{Code, Plain}
use Rattle.pli_coding.specs.Environments.{Environment, Taken, no_declaration}
use Rattle.pli_coding.specs.Expressions.{locator_code, name_checked, name_to_offset, name_written, offset_code}
use Rattle.pli_coding.specs.Expressions.{refer_checked}
use Rattle.pli_coding.specs.Frames.{display, has_constant_size, own_offset}
use Rattle.pli_coding.specs.Instructions.{load_word, number, plus, small, status_tested, tested_service}
use Rattle.pli_coding.specs.Locating.{FrameName, KnownNumber, Located, based_located, based_number, is_referred}
use Rattle.pli_coding.specs.Locating.{leaf_place, may_refer, table_number, waiting_name, where_standing}
use Rattle.pli_coding.specs.Registers.{a0, a1, a2, a3, a7, frame_register}
use Rattle.program_runs.proofs.Variables.{own_code}
use Rattle.expression_runs.specs.Values.{in_registers}
use Rattle.expression_runs.specs.Variables.{Spot, variable_of, whole}
use Rattle.variable_runs.specs.Known.{place_of}
use Rattle.area_runs.specs.Based.{based_of, pointer_declared}
use Rattle.area_runs.proofs.BasedCode.{name_at_place}
use Rattle.member_runs.specs.Members.{structure_declared}
use Rattle.offset_runs.specs.OffsetAddresses.{offset_of, whole_structure}

-- the four words that are set aside for a name
abbrev pub words_code : Register → Code
words_code r = load_word r frame_register own_offset ++ plus r r (negsuc 15)

-- what service 9 is given, and what service 14 is
abbrev pub address_asked : (place signature : ℕ) → Code
address_asked place signature = own_code a0 place ++ (number a1 signature ++ (words_code a2 ++ (small a7 9 ∷ [])))

abbrev pub offset_asked : (area : ℕ) → Code
offset_asked area = words_code a0 ++ (own_code a1 area ++ (small a3 1 ∷ small a7 14 ∷ []))

-- the service is called, and its status is tested
abbrev pub called_code : Code
called_code = Plain I.Ecall ∷ status_tested

abbrev pub address_code : (place signature area : ℕ) → Code
address_code place signature area =
    (address_asked place signature ++ called_code) ++ (offset_asked area ++ called_code)

-- ---- by its parts

-- a place of a frame, by whether that is the running one
abbrev place_by : Register → (level : ℕ) → Bool → (place : ℤ) → Code
place_by r level q place =
    cond q [] (load_word r frame_register (display level))
    ++ (load_word r (cond q frame_register r) own_offset ++ plus r r place)

abbrev declared_in : Option Y.DeclaredVariable → Y.DeclaredVariable
declared_in o = unwrap_or o no_declaration

abbrev into_area : Environment → Taken → (a : Spot) → Code
into_area e t a = name_to_offset e t (FrameName e.level (waiting_name t)) (variable_of a)

-- by the pointer's declaration
abbrev by_pointer : Environment → Taken → (p n : Spot) → List Y.Leaf → (a : Spot) → Option Y.DeclaredVariable → Code
by_pointer e t p n leaves a o =
    where_standing (if has_constant_size (declared_in o)
    then Some (FrameName p.level (pos (place_of e p + 16 + leaf_place (declared_in o) 0))) else None)
    (λ name. name_checked e (based_located e (based_of n) name) (waiting_name t)
    (is_referred e (based_of n) (whole_structure leaves)))
    (locator_code e t (Y.LocatedBy (Y.PointerIn (whole p)))
    ++ name_written e t (based_of n) (whole_structure leaves) (waiting_name t))
    ++ into_area e t a

-- by that of what it points to: the signature, and whether REFER may tell an extent
abbrev located_at : Environment → (p : Spot) → (signature : ℕ) → Located
located_at e p signature =
    record { name = FrameName p.level (pos (name_at_place e p)); number = KnownNumber signature }

abbrev by_parts : Environment → (p a : Spot) → (signature : ℕ) → (referred own mine area : Bool) → Code
by_parts e p a signature referred own mine area =
    (place_by a0 p.level own (pos (name_at_place e p))
    ++ (number a1 signature
    ++ (place_by a2 e.level mine (negsuc 15)
    ++ (tested_service 9 ++ refer_checked e (located_at e p signature) referred))))
    ++ (place_by a0 e.level mine (negsuc 15)
    ++ (place_by a1 a.level area (pos (place_of e a)) ++ (small a3 1 ∷ tested_service 14)))

abbrev by_based : Environment → Taken → (p n : Spot) → List Y.Leaf → (a : Spot) → Option Y.DeclaredVariable → Code
by_based e t p n leaves a o =
    name_checked e (record {
      name = FrameName p.level (pos (name_at_place e p));
      number = based_number e (based_of n) (declared_in o);
    }) (waiting_name t) ((0 + length leaves == length (declared_in o).leaves) && may_refer (declared_in o))
    ++ into_area e t a

and_false : (b : Bool) → (b && false) ≡ false
and_false true = refl
and_false false = refl

pub address_coded :
    (e : Environment) (taken : ℕ) (p n : Spot) (members : List Y.Member) (leaves : List Y.Leaf) (signature : ℕ)
    (a : Spot) → declared_variable e.program (variable_of p) ≡ Some pointer_declared →
    declared_variable e.program (based_of n) ≡ Some (structure_declared members leaves) →
    table_number e (structure_declared members leaves) ≡ signature → (p.level == e.level) ≡ true →
    (a.level == e.level) ≡ true →
    offset_code e (in_registers 0 taken) (offset_of p n leaves a)
    ≡ address_code (name_at_place e p) signature (place_of e a)
address_coded e taken p n members leaves signature a pointer declared table own theirs =
    let t = in_registers 0 taken in
    ap (by_pointer e t p n leaves a) pointer
    ∙ ap (by_based e t p n leaves a) declared
    ∙ ap (λ q. by_parts e p a (table_number e (structure_declared members leaves)) q (p.level == e.level)
    (e.level == e.level) (a.level == e.level)) (and_false (0 + length leaves == length leaves))
    ∙ ap (λ q. by_parts e p a (table_number e (structure_declared members leaves)) false q (e.level == e.level)
    (a.level == e.level)) own
    ∙ ap (λ q. by_parts e p a (table_number e (structure_declared members leaves)) false true q (a.level == e.level))
    (eq-eqb e.level e.level refl)
    ∙ ap (by_parts e p a (table_number e (structure_declared members leaves)) false true true) theirs
    ∙ ap (λ i. by_parts e p a i false true true true) table
    ∙ joined (own_code a0 (name_at_place e p)) (number a1 signature) (own_code a1 (place_of e a))
  where
    joined :
        (name num area : Code) →
        (name ++ (num ++ (words_code a2 ++ (tested_service 9 ++ []))))
        ++ (words_code a0 ++ (area ++ (small a3 1 ∷ tested_service 14)))
        ≡ ((name ++ (num ++ (words_code a2 ++ (small a7 9 ∷ [])))) ++ called_code)
        ++ ((words_code a0 ++ (area ++ (small a3 1 ∷ small a7 14 ∷ []))) ++ called_code)
    joined name num area =
        ap (λ u. u ++ (words_code a0 ++ (area ++ (small a3 1 ∷ tested_service 14))))
        (ap (λ u. name ++ u) (sym (append_assoc num (words_code a2 ++ (small a7 9 ∷ [])) called_code))
        ∙ sym (append_assoc name (num ++ (words_code a2 ++ (small a7 9 ∷ []))) called_code))
        ∙ ap (λ u. ((name ++ (num ++ (words_code a2 ++ (small a7 9 ∷ [])))) ++ called_code) ++ u)
        (ap (λ u. words_code a0 ++ u) (sym (append_assoc area (small a3 1 ∷ small a7 14 ∷ []) called_code)))
