-- The code that finds a parameter of a block, or of one around it: by its own frame, or by one that its display has.
use Rattle.std.proofs.Common.{◌≡◌, ℕ, ◌+◌, [], ◌∷◌, ◌++◌, Option, Some, Bool, true, refl, ap, ◌∙◌}
use Rattle.std.proofs.lemmas.Bool.{eq-eqb}
use Rattle.std.proofs.lemmas.List.{append_assoc}
use Rattle.std.specs.Prelude.{cond, pos, ◌&&◌, ◌==◌, length, slice_get, unwrap_or}
use Rattle.rv_meaning.specs.declared.instr.Instr.TheVariants as I
use Rattle.rv_meaning.specs.declared.instr.Register.{Register}
use Rattle.pli_typing.specs.TypedTree as Y
use Rattle.pli_meaning.specs.DeclaredShapes.{declared_variable}
use Rattle.pli_coding.specs.Assembly.{BaseIn, Code, Plain}
use Rattle.pli_coding.specs.Environments.{Environment, Taken, fetch, no_declaration, save, with_number}
use Rattle.pli_coding.specs.Expressions.{argument_place, number_code, refer_checked, reference_code}
use Rattle.pli_coding.specs.Frames.{argument_at, display, list_offset, list_place, own_offset}
use Rattle.pli_coding.specs.Instructions.{add, load_word, move, number, plus, small, status_tested, store_word}
use Rattle.pli_coding.specs.Instructions.{tested_service}
use Rattle.pli_coding.specs.Locating as C
use Rattle.pli_coding.specs.Locating.{ListName, ListNumber, buffer_if, loaded, may_refer, needs_buffer, no_leaf}
use Rattle.pli_coding.specs.Locating.{number_of_parameter, refer_if}
use Rattle.pli_coding.specs.Registers.{a0, a1, a2, a3, a4, a7, frame_register, u0, u1, u3}
use Rattle.pli_coding.specs.Storing.{word_stored}
use Rattle.program_runs.specs.Statements.{set_aside}
use Rattle.expression_runs.specs.Variables.{Spot}
use Rattle.argument_runs.specs.Parameters.{parameter, parameter_declared, parameter_of}
use Rattle.argument_runs.proofs.ParameterCode.{addressing_code, value_loaded}
use Rattle.list_calls.specs.Arguments.{name_code}
use Rattle.list_calls.proofs.NamePassing.{passing_code, place_code, storing_code}

-- ---- its pieces

-- its place in the list comes into a0
abbrev pub list_by : (q : Bool) → (level place : ℕ) → Code
list_by q level place =
    cond q [] (load_word a0 frame_register (display level))
    ++ (load_word a0 (cond q frame_register a0) list_offset ++ plus a0 a0 (argument_at place 0))

-- and the number of its signature into a register
abbrev pub sign_by : (q : Bool) → Register → (level place : ℕ) → Code
sign_by q r level place =
    cond q [] (load_word r frame_register (display level))
    ++ (load_word r (cond q frame_register r) (pos (list_place level)) ++ load_word r r (argument_at place 4))

-- what else service 8 is given
abbrev pub asking_code : Code
asking_code = small a2 0 ∷ small a3 0 ∷ small a4 0 ∷ small a7 8 ∷ []

abbrev pub found_code : (q : Bool) → (level place : ℕ) → Code
found_code q level place =
    list_by q level place
    ++ (sign_by q a1 level place ++ (asking_code ++ (Plain I.Ecall ∷ (status_tested ++ addressing_code))))

abbrev pub read_code : (q : Bool) → (level place : ℕ) → Code
read_code q level place = found_code q level place ++ value_loaded

abbrev pub value_stored : Code
value_stored = store_word u3 a0 (pos 0)

abbrev pub put_code : (words : ℕ) → (q : Bool) → (level place : ℕ) → Code
put_code words q level place =
    save a0 (set_aside words) ++ (found_code q level place ++ (fetch a0 (set_aside words) ++ value_stored))

-- ---- by the declaration, and its place among the others

abbrev declared_as : Option Y.DeclaredVariable → Y.DeclaredVariable
declared_as o = unwrap_or o no_declaration

abbrev leaf_of : Option Y.DeclaredVariable → Y.Leaf
leaf_of o = unwrap_or (slice_get (declared_as o).leaves 0) no_leaf

abbrev refers : Option Y.DeclaredVariable → Bool
refers o = (0 + 1 == length (declared_as o).leaves) && may_refer (declared_as o)

abbrev found_by : Environment → Spot → Option Y.DeclaredVariable → (n : ℕ) → Bool → Code
found_by e x o n q =
    ((list_by q x.level n
    ++ (sign_by q a1 x.level n
    ++ (number a2 0 ++ (buffer_if e (needs_buffer (leaf_of o)) a3 ++ (small a4 0 ∷ tested_service 8)))))
    ++ refer_if e (record {
      name = ListName x.level (argument_at n 0);
      number = ListNumber x.level (argument_at n 4);
    }) (needs_buffer (leaf_of o)) (refers o))
    ++ (BaseIn u0 ∷ add u3 u3 u0 ∷ [])

pub found_coded :
    (e : Environment) (t : Taken) (x : Spot) (place : ℕ) →
    declared_variable e.program (parameter_of x) ≡ Some parameter_declared →
    number_of_parameter e (parameter_of x) ≡ place →
    reference_code e t (parameter x) ≡ found_code (x.level == e.level) x.level place
found_coded e t x place declared first =
    let q = x.level == e.level in
    ap (λ o. found_by e x o (number_of_parameter e (parameter_of x)) q) declared
    ∙ ap (λ n. found_by e x (Some parameter_declared) n q) first
    ∙ joined (list_by q x.level place) (sign_by q a1 x.level place)
    (small a2 0 ∷ small a3 0 ∷ small a4 0 ∷ tested_service 8) (move u3 a0 ∷ []) (BaseIn u0 ∷ add u3 u3 u0 ∷ [])
  where
    joined : (l s t' m b : Code) → ((l ++ (s ++ t')) ++ m) ++ b ≡ l ++ (s ++ (t' ++ (m ++ b)))
    joined l s t' m b =
        append_assoc (l ++ (s ++ t')) m b
        ∙ append_assoc l (s ++ t') (m ++ b)
        ∙ ap (λ u. l ++ u) (append_assoc s t' (m ++ b))

pub read_coded :
    (e : Environment) (t : Taken) (x : Spot) (place : ℕ) →
    declared_variable e.program (parameter_of x) ≡ Some parameter_declared →
    number_of_parameter e (parameter_of x) ≡ place →
    number_code e t (Y.NumberIn (parameter x)) ≡ read_code (x.level == e.level) x.level place
read_coded e t x place declared first =
    ap (λ o. reference_code e t (parameter x)
    ++ loaded (leaf_of o).type a0 (record { register = u3; displacement = pos 0 })) declared
    ∙ ap (λ u. u ++ value_loaded) (found_coded e t x place declared first)

pub put_coded :
    (words : ℕ) (e : Environment) (n : Spot) (place : ℕ) →
    declared_variable e.program (parameter_of n) ≡ Some parameter_declared →
    number_of_parameter e (parameter_of n) ≡ place →
    word_stored e (set_aside words) (parameter n) ≡ put_code words (n.level == e.level) n.level place
put_coded words e n place declared first =
    ap (λ o. save a0 t ++ (reference_code e (with_number t) (parameter n)
    ++ (fetch a0 t ++ C.stored (leaf_of o).type a0 (record { register = u3; displacement = pos 0 })))) declared
    ∙ ap (λ u. save a0 t ++ (u ++ (fetch a0 t ++ value_stored))) (found_coded e (with_number t) n place declared first)
  where
    t : Taken
    t = set_aside words

-- ---- as an argument

abbrev passed_by :
    Environment → (place count n : ℕ) → Spot → Option Y.DeclaredVariable → (own : ℕ) → (q same : Bool) → Code
passed_by e place count n x o own q same =
    (list_by q x.level own
    ++ (sign_by q a1 x.level own
    ++ ((cond same [] (load_word a2 frame_register (display e.level))
    ++ (load_word a2 (cond same frame_register a2) own_offset
    ++ plus a2 a2 (argument_place (record { place = place; words = count }) n 0)))
    ++ (tested_service 9
    ++ refer_checked e (record {
      name = ListName x.level (argument_at own 0);
      number = ListNumber x.level (argument_at own 4);
    }) (refers o)))))
    ++ storing_code (sign_by q u1 x.level own) place count n

pub passed_coded :
    (e : Environment) (taken all place count n : ℕ) (x : Spot) (own : ℕ) →
    declared_variable e.program (parameter_of x) ≡ Some parameter_declared →
    number_of_parameter e (parameter_of x) ≡ own →
    name_code e taken all place count n (parameter_of x)
    ≡ passing_code (list_by (x.level == e.level) x.level own) (sign_by (x.level == e.level) a1 x.level own)
    (sign_by (x.level == e.level) u1 x.level own) place count n
passed_coded e taken all place count n x own declared numbered =
    let o = declared_variable e.program (parameter_of x) in
    let q = x.level == e.level in
    ap (λ s. passed_by e place count n x o (number_of_parameter e (parameter_of x)) q s) (eq-eqb e.level e.level refl)
    ∙ ap (λ u. passed_by e place count n x u (number_of_parameter e (parameter_of x)) q true) declared
    ∙ ap (λ m. passed_by e place count n x (Some parameter_declared) m q true) numbered
    ∙ joined (list_by q x.level own) (sign_by q a1 x.level own) (place_code place count n)
    (small a7 9 ∷ (Plain I.Ecall ∷ status_tested)) (storing_code (sign_by q u1 x.level own) place count n)
  where
    joined :
        (first num put ask last : Code) →
        (first ++ (num ++ (put ++ ask))) ++ last ≡ first ++ (num ++ (put ++ (ask ++ last)))
    joined first num put ask last =
        append_assoc first (num ++ (put ++ ask)) last
        ∙ ap (λ u. first ++ u) (append_assoc num (put ++ ask) last)
        ∙ ap (λ u. first ++ (num ++ u)) (append_assoc put ask last)
