-- The code that finds a parameter's data and loads it, and what it means.
use Rattle.std.proofs.Common.{◌≡◌, ℕ, ◌+◌, ◌*◌, ◌<◌, List, [], ◌∷◌, ◌++◌, Option, Some, Bool, true, ap, ◌∙◌, arith}
use Rattle.std.proofs.lemmas.Bool.{le-leb}
use Rattle.std.proofs.lemmas.List.{append_assoc}
use Rattle.std.specs.Prelude.{ℤ, cond, pos, ◌&&◌, ◌==◌, length, slice_get, take, unwrap_or}
use Rattle.rv_meaning.specs.declared.instr.ImmediateOp.TheVariants as Imm
use Rattle.rv_meaning.specs.declared.instr.Instr.{Instr}
use Rattle.rv_meaning.specs.declared.instr.Instr.TheVariants as I
use Rattle.rv_meaning.specs.declared.instr.LoadKind.TheVariants as Load
use Rattle.rv_meaning.specs.declared.instr.Register.{Register}
use Rattle.rv_meaning.specs.Words.{word}
use Rattle.pli_typing.specs.TypedTree as Y
use Rattle.pli_meaning.specs.BasicValues.{BasicNumber, BasicValue, VariableName}
use Rattle.pli_meaning.specs.Contents.{is_within, number_in}
use Rattle.pli_meaning.specs.Control.{Normal, choose, flow_on, give, looked, ◌>>=◌, ◌>>◌}
use Rattle.pli_meaning.specs.DeclaredShapes.{declared_variable}
use Rattle.pli_meaning.specs.Evaluating as V
use Rattle.pli_meaning.specs.Raising as R
use Rattle.pli_meaning.specs.Raising.{Around}
use Rattle.pli_meaning.specs.StorageState.{Living, State, generation_of, if_same_shape, living_of, named, standing_for}
use Rattle.pli_coding.specs.Assembly.{BaseIn, Code, Item, Plain}
use Rattle.pli_coding.specs.Environments.{Environment, Taken, no_declaration}
use Rattle.pli_coding.specs.Expressions.{number_code, reference_code}
use Rattle.pli_coding.specs.Frames.{argument_at, display, list_offset, list_place}
use Rattle.pli_coding.specs.Instructions.{add, immediate, is_immediate, load_word, move, number, plus, small}
use Rattle.pli_coding.specs.Instructions.{status_tested, tested_service}
use Rattle.pli_coding.specs.Linking.{lower_part, upper_part}
use Rattle.pli_coding.specs.Locating.{ListName, ListNumber, buffer_if, loaded, may_refer, needs_buffer, no_leaf}
use Rattle.pli_coding.specs.Locating.{number_of_parameter, refer_if}
use Rattle.pli_coding.specs.Registers.{a0, a1, a2, a3, a4, a7, far_register, frame_register, u0, u3}
use Rattle.expression_runs.specs.Variables.{Spot, whole_part}
use Rattle.argument_runs.specs.Parameters.{most_parameters, parameter, parameter_binding, parameter_declared}
use Rattle.argument_runs.specs.Parameters.{parameter_of, parameter_shape}

-- ---- the code

-- the name's offset and the address of the list
abbrev pub list_loaded : (level : ℕ) → Code
list_loaded level = load_word a1 frame_register (pos (list_place level))

-- the signature's number, and what else service 8 is given
abbrev pub resolving_code : (place : ℕ) → Code
resolving_code place =
    Plain (I.Load Load.Word a1 a1 (argument_at place 4))
    ∷ small a2 0 ∷ small a3 0 ∷ small a4 0 ∷ small a7 8 ∷ []

-- the address
abbrev pub addressing_code : Code
addressing_code = move u3 a0 ∷ BaseIn u0 ∷ add u3 u3 u0 ∷ []

abbrev pub name_loaded : (place : ℕ) → Code
name_loaded place = load_word a0 frame_register (pos 44) ++ immediate Imm.Add a0 a0 (argument_at place 0) ∷ []

abbrev pub found_code : (level place : ℕ) → Code
found_code level place =
    name_loaded place
    ++ (list_loaded level ++ (resolving_code place ++ (Plain I.Ecall ∷ (status_tested ++ addressing_code))))

-- and the value
abbrev pub value_loaded : Code
value_loaded = load_word a0 u3 (pos 0)

abbrev pub read_code : (level place : ℕ) → Code
read_code level place = found_code level place ++ value_loaded

abbrev leaf_of : Option Y.DeclaredVariable → Y.Leaf
leaf_of o = unwrap_or (slice_get (unwrap_or o no_declaration).leaves 0) no_leaf

abbrev refers : Option Y.DeclaredVariable → Bool
refers o = (0 + 1 == length (unwrap_or o no_declaration).leaves) && may_refer (unwrap_or o no_declaration)

-- by the declaration, the parameter's place among the others, and whether it is the block's own
abbrev code_by : Environment → Spot → Option Y.DeclaredVariable → (n : ℕ) → Bool → Code
code_by e x o n q =
    (((cond q [] (load_word a0 frame_register (display x.level))
    ++ (load_word a0 (cond q frame_register a0) list_offset ++ plus a0 a0 (argument_at n 0)))
    ++ ((cond q [] (load_word a1 frame_register (display x.level))
    ++ (load_word a1 (cond q frame_register a1) (pos (list_place x.level)) ++ load_word a1 a1 (argument_at n 4)))
    ++ (number a2 0 ++ (buffer_if e (needs_buffer (leaf_of o)) a3 ++ (small a4 0 ∷ tested_service 8)))))
    ++ refer_if e (record {
      name = ListName x.level (argument_at n 0);
      number = ListNumber x.level (argument_at n 4);
    }) (needs_buffer (leaf_of o)) (refers o))
    ++ (BaseIn u0 ∷ add u3 u3 u0 ∷ [])

-- a place in the list is near
near_place : (place word : ℕ) → place < most_parameters → word < 6 → is_immediate (argument_at place word) ≡ true
near_place place word near few = le-leb (24 * place + 4 * word) 2047 (omega (arith, near, few))

pub found_coded :
    (e : Environment) (t : Taken) (x : Spot) (place : ℕ) →
    declared_variable e.program (parameter_of x) ≡ Some parameter_declared →
    number_of_parameter e (parameter_of x) ≡ place → place < most_parameters → (x.level == e.level) ≡ true →
    reference_code e t (parameter x) ≡ found_code x.level place
found_coded e t x place declared first near own =
    ap (λ o. code_by e x o (number_of_parameter e (parameter_of x)) (x.level == e.level)) declared
    ∙ ap (λ n. code_by e x (Some parameter_declared) n (x.level == e.level)) first
    ∙ ap (code_by e x (Some parameter_declared) place) own
    ∙ joined (load_word a0 frame_register (pos 44) ++ plus a0 a0 (argument_at place 0)) (list_loaded x.level)
    (load_word a1 a1 (argument_at place 4)) (small a2 0 ∷ small a3 0 ∷ small a4 0 ∷ tested_service 8)
    (move u3 a0 ∷ []) (BaseIn u0 ∷ add u3 u3 u0 ∷ [])
    ∙ ap (λ q. whole (load_word a0 frame_register (pos 44) ++ one q (immediate Imm.Add a0 a0 (argument_at place 0))
    (far (λ r d. I.Immediate Imm.Add a0 r d) a0 (argument_at place 0)))
    (load_word a1 a1 (argument_at place 4))) (near_place place 0 near (omega arith))
    ∙ ap (λ q. whole (name_loaded place) (one q (Plain (I.Load Load.Word a1 a1 (argument_at place 4)))
    (far (λ r d. I.Load Load.Word a1 r d) a1 (argument_at place 4)))) (near_place place 4 near (omega arith))
  where
    whole : (name number' : Code) → Code
    whole name number' =
        name ++ (list_loaded x.level
        ++ (number' ++ (small a2 0 ∷ small a3 0 ∷ small a4 0 ∷ (tested_service 8 ++ addressing_code))))

    one : Bool → Item → Code → Code
    one q near' far' = cond q (near' ∷ []) far'

    far : (Register → ℤ → Instr) → Register → ℤ → Code
    far instruction r z =
        Plain (I.LoadUpper far_register (upper_part (word z)))
        ∷ add far_register far_register r ∷ Plain (instruction far_register (lower_part (word z))) ∷ []

    joined :
        (n w l s m b : Code) → ((n ++ ((w ++ l) ++ s)) ++ m) ++ b ≡ n ++ (w ++ (l ++ (s ++ (m ++ b))))
    joined n w l s m b =
        append_assoc (n ++ ((w ++ l) ++ s)) m b
        ∙ append_assoc n ((w ++ l) ++ s) (m ++ b)
        ∙ ap (λ u. n ++ u) (append_assoc (w ++ l) s (m ++ b))
        ∙ ap (λ u. n ++ u) (append_assoc w l (s ++ (m ++ b)))

pub read_coded :
    (e : Environment) (t : Taken) (x : Spot) (place : ℕ) →
    declared_variable e.program (parameter_of x) ≡ Some parameter_declared →
    number_of_parameter e (parameter_of x) ≡ place → place < most_parameters → (x.level == e.level) ≡ true →
    number_code e t (Y.NumberIn (parameter x)) ≡ read_code x.level place
read_coded e t x place declared first near own =
    ap (λ o. reference_code e t (parameter x)
    ++ loaded (leaf_of o).type a0 (record { register = u3; displacement = pos 0 })) declared
    ∙ ap (λ u. u ++ value_loaded) (found_coded e t x place declared first near own)

-- ---- what it means

pub record Holds (s : State) (x : Spot) : Type 0 where
  pub serial : ℕ
  pub stands : standing_for s (parameter_of x) ≡ Some (parameter_binding x serial)
  pub values : ℕ → List ℤ → BasicValue
  pub living : Living
  pub lives : living_of s.living serial ≡ Some living
  pub generation :
      living.generation ≡ record { shape = parameter_shape; extent = pos 0; values = values }

pub parameter_named : {s : State} {x : Spot} (h : Holds s x) →
    named s (VariableName h.serial) parameter_shape
    ≡ Some (record { shape = parameter_shape; extent = pos 0; values = h.values })
parameter_named {s} h =
    ap (λ o. if_same_shape parameter_shape (generation_of o)) h.lives
    ∙ ap (λ g. if_same_shape parameter_shape (Some g)) h.generation

abbrev parameter_designated : (serial : ℕ) → (ℕ → List ℤ → BasicValue) → V.Designated
parameter_designated serial values =
    record {
      name = VariableName serial;
      generation = record { shape = parameter_shape; extent = pos 0; values = values };
      extent = pos 0;
      part = whole_part;
      subscripts = [];
    }

pub designated_is :
    (around : Around) {s : State} {x : Spot} (k : ℕ) (h : Holds s x) →
    V.designated around (parameter x) k s ≡ give (parameter_designated h.serial h.values) k s
unfolding V.designated V.located V.numbers V.variable_designated V.part_designated looked ◌>>=◌ ◌>>◌ R.or_error
    R.demanded choose give
designated_is around {s} {x} k h =
    ap (λ o. flow_on k (R.or_error around 101 o k s)
    (λ b. V.part_designated around b.name b.shape whole_part [])) h.stands
    ∙ ap (λ o. flow_on k (R.or_error around 101 o k s)
    (λ g. ◌>>=◌ (R.or_error around 107 (V.extent_in_force g whole_part))
    (λ e. ◌>>◌ (R.demanded around 102 (is_within (take 0 (V.leaf_at parameter_shape e 0).bounds) []))
    (give (record {
      name = VariableName h.serial;
      generation = g;
      extent = e;
      part = whole_part;
      subscripts = [];
    }))))) (parameter_named h)

pub parameter_is :
    (around : Around) {s : State} {x : Spot} (k : ℕ) (z : ℤ) (h : Holds s x) → h.values 0 [] ≡ BasicNumber z →
    V.number around (Y.NumberIn (parameter x)) k s ≡ Normal z s
unfolding V.number ◌>>=◌ give
parameter_is around {s} k z h value =
    ap (λ q. flow_on k q (λ d. give (number_in (V.value_in d)))) (designated_is around k h)
    ∙ ap (λ v. Normal (number_in v) s) value
