-- The code of CALL with an argument by reference, and what the statement means.
use Rattle.std.proofs.Common.{◌≡◌, ℕ, ◌+◌, List, [], ◌∷◌, ◌++◌, Option, Some, Bool, true, refl, ap, ◌∙◌}
use Rattle.std.proofs.lemmas.Bool.{eq-eqb}
use Rattle.std.proofs.lemmas.List.{append-nil, append_assoc}
use Rattle.std.specs.Prelude.{cond, length, negsuc, pos, unwrap_or, ◌&&◌, ◌==◌}
use Rattle.pli_typing.specs.TypedTree as Y
use Rattle.pli_meaning.specs.BasicValues.{BasicValue, VariableName}
use Rattle.pli_meaning.specs.Control.{Meaning, flow_on, give, ◌>>=◌, ◌>>◌}
use Rattle.pli_meaning.specs.DeclaredShapes.{declared_variable, procedure_numbered}
use Rattle.pli_meaning.specs.Evaluating as V
use Rattle.pli_meaning.specs.Raising.{Around, PassedName}
use Rattle.pli_meaning.specs.StorageState.{State}
use Rattle.pli_coding.specs.Allocating.{act_code}
use Rattle.pli_coding.specs.Assembly.{CallTo, Code, ProcedureEntry}
use Rattle.pli_coding.specs.Environments.{Environment, no_declaration, none_taken}
use Rattle.pli_coding.specs.Expressions.{refer_checked}
use Rattle.pli_coding.specs.Frames.{automatic_place, display, own_offset}
use Rattle.pli_coding.specs.Instructions.{load_word, move, number, plus, store_word, tested_service}
use Rattle.pli_coding.specs.Locating.{FrameName, KnownNumber, may_refer, own_signature, table_number}
use Rattle.pli_coding.specs.Registers.{a0, a1, a2, frame_register, u1, zero_register}
use Rattle.pli_coding.specs.SignatureTable.{is_open, signature_of}
use Rattle.pli_coding.specs.Statements.{stmt_code}
use Rattle.activation_relation.specs.Layers.{Layer}
use Rattle.expression_runs.specs.Variables.{Spot, number_declared, variable_of, whole}
use Rattle.expression_runs.proofs.VariableMeaning as N
use Rattle.program_runs.specs.Statements.{Block}
use Rattle.argument_runs.specs.Lists.{list_given}
use Rattle.argument_runs.specs.Parameters.{parameter_shape}
use Rattle.reference_runs.specs.Receivers.{Receiver}
use Rattle.reference_runs.specs.ReferenceCalls.{IsNamed, call_with}
use Rattle.reference_runs.specs.References.{Reference, reference_given}

-- ---- its code

abbrev pub calling : Receiver → Code
calling c = CallTo (ProcedureEntry c.procedure.head.number) ∷ []

abbrev pub coded_as : Receiver → Reference → (line : ℕ) → Code
coded_as c r line = act_code line ++ ((reference_given r.place r.signature ++ list_given) ++ calling c)

abbrev declared_as : Option Y.DeclaredVariable → Y.DeclaredVariable
declared_as o = unwrap_or o no_declaration

abbrev signature_as : Environment → Option Y.DeclaredVariable → ℕ
signature_as e o = cond (is_open (signature_of (declared_as o))) own_signature (table_number e (declared_as o))

abbrev refers : Option Y.DeclaredVariable → Bool
refers o = (0 + 1 == length (declared_as o).leaves) && may_refer (declared_as o)

-- by the declaration, the name's place, whether the variable is the block's own, and a level beside itself
abbrev argument_by : Environment → Spot → Option Y.DeclaredVariable → (place : ℕ) → (own same : Bool) → Code
argument_by e x o place own same =
    ((cond own [] (load_word a0 frame_register (display x.level))
    ++ (load_word a0 (cond own frame_register a0) own_offset ++ plus a0 a0 (pos place)))
    ++ (number a1 (signature_as e o)
    ++ ((cond same [] (load_word a2 frame_register (display e.level))
    ++ (load_word a2 (cond same frame_register a2) own_offset ++ plus a2 a2 (negsuc 23)))
    ++ (tested_service 9
    ++ refer_checked e (record {
      name = FrameName x.level (pos place);
      number = KnownNumber (signature_as e o);
    }) (refers o)))))
    ++ (number u1 (signature_as e o)
    ++ (store_word frame_register u1 (negsuc 7) ++ store_word frame_register zero_register (negsuc 3)))

abbrev stmt_by : Environment → Receiver → (line : ℕ) → (argument : Code) → (same : Bool) → Code
stmt_by e c line argument same =
    act_code line
    ++ ((argument ++ [])
    ++ (plus a1 frame_register (negsuc 23)
    ++ (number a2 0
    ++ ((cond same [] (load_word a0 frame_register (display e.level)) ++ (move a0 (cond same frame_register a0) ∷ []))
    ++ calling c))))

pub coded :
    (k : Block) (c : Receiver) (x : Spot) (φ : Layer) (φs : List Layer) (r : Reference) (line : ℕ) →
    IsNamed k x φ φs r →
    stmt_code k.environment none_taken (call_with k c x line) ≡ coded_as c r line
coded k c x φ φs r line h =
    let e = k.environment in
    let same = eq-eqb e.level e.level refl in
    let o = declared_variable e.program (variable_of x) in
    let d = Some (number_declared h.number.initial) in
    let place = automatic_place e.parts e.program x.block x.level x.index in
    let own = x.level == e.level in
    let here = e.level == e.level in
    let stmt : Code → Code = λ u. stmt_by e c line u true in
    ap (λ q. stmt_by e c line (argument_by e x o place own here) q) same
    ∙ ap (λ u. stmt (argument_by e x u place own here)) h.number.declared
    ∙ ap (λ q. stmt (argument_by e x d place q here)) h.own
    ∙ ap (λ q. stmt (argument_by e x d place true q)) same
    ∙ ap (λ n. stmt (argument_by e x d n true true)) h.place
    ∙ ap (λ n. stmt (plain r.place n)) h.table
    ∙ ap (λ u. stmt u) (joined (load_word a0 frame_register own_offset ++ plus a0 a0 (pos r.place))
    (number a1 r.signature) (number u1 r.signature))
    ∙ ap (λ u. act_code line ++ (u ++ (list_given ++ calling c))) (append-nil (reference_given r.place r.signature))
    ∙ ap (λ u. act_code line ++ u) (sym' (append_assoc (reference_given r.place r.signature) list_given (calling c)))
  where
    sym' : {a b : Code} → a ≡ b → b ≡ a
    sym' e = cc e

    asked : Code
    asked = (load_word a2 frame_register own_offset ++ plus a2 a2 (negsuc 23)) ++ tested_service 9

    stores : Code
    stores = store_word frame_register u1 (negsuc 7) ++ store_word frame_register zero_register (negsuc 3)

    plain : (place signature : ℕ) → Code
    plain place signature =
        ((load_word a0 frame_register own_offset ++ plus a0 a0 (pos place)) ++ (number a1 signature ++ asked))
        ++ (number u1 signature ++ stores)

    joined :
        (name num num' : Code) →
        (name ++ (num ++ asked)) ++ (num' ++ stores) ≡ name ++ (num ++ (asked ++ (num' ++ stores)))
    joined name num num' =
        append_assoc name (num ++ asked) (num' ++ stores)
        ∙ ap (λ u. name ++ u) (append_assoc num asked (num' ++ stores))

-- ---- what it means

-- the procedure is entered with the name
pub called_is :
    (around : Around) {s : State} (number level : ℕ) (x : Spot) (acts : ℕ) (h : N.Holds s x) →
    V.called around (Y.Calling number level (Y.ArgumentThen (Y.ByReference (whole x)) Y.NoArgument)) acts s
    ≡ V.procedure_entered around (procedure_numbered number around.program.procedures) level
    (PassedName (VariableName h.serial) parameter_shape ∷ []) acts s
unfolding V.called V.arguments V.argument V.all_passed_last V.passed_last give ◌>>=◌ ◌>>◌
called_is around number level x acts h =
    let rest : List V.Evaluated → Meaning (Option BasicValue) =
    λ es. V.all_passed_last around es es >>= (λ ps. V.procedure_entered around
    (procedure_numbered number around.program.procedures) level ps) in
    ap (λ flow. flow_on acts (flow_on acts (flow_on acts flow
    (λ d. give (V.EvaluatedArgument (PassedName d.name d.generation.shape))))
    (λ e. V.arguments around Y.NoArgument >>= (λ es. give (e ∷ es)))) rest) (N.designated_is around acts h)
