-- What each step of procedures and routines gives, by what is known of it.
use Rattle.std.proofs.Common.{◌≡◌, ℕ, ◌+◌, ◌<◌, Bool, true, false, List, [], ◌∷◌, ◌++◌, length, map, Some, drop}
use Rattle.std.proofs.Common.{get_or, refl, sym, ap, ◌∙◌, append_assoc, append-nil, add-one, arith}
use Rattle.std.specs.Prelude.{◌==◌, min, if◌then◌else◌}
use Rattle.pli_typing.specs.declared.typed.DeclaredVariable.{DeclaredVariable}
use Rattle.pli_typing.specs.declared.typed.Evaluation.{Evaluation}
use Rattle.pli_typing.specs.declared.statement.Procedure.{Procedure}
use Rattle.pli_typing.specs.declared.statement.Typed.{Typed}
use Rattle.pli_typing.specs.TypedTree as Y
use Rattle.pli_typing.specs.TypedStatementView.{block_head_of, declared_variable_of, evaluation_of, procedure_of, program_of, stmts_of}
use Rattle.pli_meaning.specs.DeclaredShapes.{variables_of_block}
use Rattle.pli_coding.specs.Registers.{held_registers}
use Rattle.pli_coding.specs.Assembly.{Code}
use Rattle.pli_coding.specs.Environments.{BlockPlace, Environment, Taken, declaration_of, no_declaration, none_taken}
use Rattle.pli_coding.specs.Extents.{extents_code, extents_take}
use Rattle.pli_coding.specs.Allocating.{act_code}
use Rattle.pli_coding.specs.Entries.{arguments_copied, block_entered, frame_begun, list_kept, variables_code}
use Rattle.pli_coding.specs.Statements.{block_held, block_takes, block_words, held_with}
use Rattle.pli_coding.specs.Procedures.{amounts_given, frame_returned, has_routine, is_main, procedure_begun}
use Rattle.pli_coding.specs.Procedures.{procedure_environment, procedure_of_block, procedures_code, routine_code}
use Rattle.pli_coding.specs.Procedures.{routine_held, routine_if, routine_words, routines_code, routines_of_block}
use Rattle.pli_coding.specs.Procedures.{routine_environment}
use Rattle.rv_address.specs.declared.environment.BlockPlace.{BlockPlace as BlockPlaceHeld}
use Rattle.rv_address.specs.Around.{block_place_of}
use Rattle.rv_address.proofs.Declared.{shown_from}
use Rattle.rv_start.specs.Pieces.{declared_at, variable_at}
use Rattle.rv_start.proofs.Steps.{from_place}
use Rattle.rv_procedure.specs.Pieces.{extents_at as extents_told, list_taken, procedure_with, routine_marked, texts_counted, routine_at, routine_with, routines_in}

-- one piece behind another
behind : (code now after one rest : Code) → now ≡ code ++ one → after ≡ now ++ rest → after ≡ code ++ (one ++ rest)
behind code now after one rest e h = h ∙ ap (λ u. u ++ rest) e ∙ append_assoc code one rest

-- ---- the main procedure

main_among : (vs : List (List Y.DeclaredVariable)) (xs : List Procedure) (x : Procedure) (n : ℕ) → 0 < length xs → x ≡ get_or xs 0 x → (x.block.head.number == n) ≡ is_main (record { variables = vs; procedures = map procedure_of xs }) n
main_among vs [] x n h e = absurd (omega arith)
main_among vs (y ∷ xs) x n h e = ap (λ (p : Procedure). p.block.head.number == n) e

pub first_is_main : (t : Typed) (x : Procedure) (n : ℕ) (r : Bool) → 0 < length t.procedures.items → x ≡ get_or t.procedures.items 0 x → r ≡ (x.block.head.number == n) → r ≡ is_main (program_of t) n
first_is_main t x n r h e is = is ∙ main_among (program_of t).variables t.procedures.items x n h e

none_among : (vs : List (List Y.DeclaredVariable)) (xs : List Procedure) (n : ℕ) → length xs ≡ 0 → false ≡ is_main (record { variables = vs; procedures = map procedure_of xs }) n
none_among vs [] n h = refl
none_among vs (x ∷ xs) n h = absurd (omega arith)

pub none_is_main : (t : Typed) (n : ℕ) → length t.procedures.items ≡ 0 → false ≡ is_main (program_of t) n
none_is_main t n h = none_among (program_of t).variables t.procedures.items n h

-- ---- procedures

pub begun : (e : Environment) (head : Y.BlockHead) (words held : ℕ) (ps : List ℕ) (c0 c1 c2 c3 c4 c5 c6 c7 c8 : Code)
    → c1 ≡ c0 ++ frame_begun words head.level (length ps) (Some held) → c2 ≡ c1 ++ list_taken
    → c3 ≡ c2 ++ list_kept head.level ps → c4 ≡ c3 ++ texts_counted
    → c5 ≡ c4 ++ block_entered 0 head.line → c6 ≡ c5 ++ arguments_copied e ps → c7 ≡ c6 ++ variables_code e head.line
    → c8 ≡ c7 ++ act_code head.line → c8 ≡ c0 ++ procedure_begun e head words held ps
begun e head words held ps c0 c1 c2 c3 c4 c5 c6 c7 c8 e1 e2 e3 e4 e5 e6 e7 e8 =
    let p1 : Code = frame_begun words head.level (length ps) (Some held) in
    let p3 : Code = list_kept head.level ps in
    let p5 : Code = block_entered 0 head.line in
    let p6 : Code = arguments_copied e ps in
    let p7 : Code = variables_code e head.line in
    let p8 : Code = act_code head.line in
    let a7 : c8 ≡ c6 ++ (p7 ++ p8) = behind c6 c7 c8 p7 p8 e7 e8 in
    let a6 : c8 ≡ c5 ++ (p6 ++ (p7 ++ p8)) = behind c5 c6 c8 p6 (p7 ++ p8) e6 a7 in
    let a5 : c8 ≡ c4 ++ (p5 ++ (p6 ++ (p7 ++ p8))) = behind c4 c5 c8 p5 (p6 ++ (p7 ++ p8)) e5 a6 in
    let a4 : c8 ≡ c3 ++ (texts_counted ++ (p5 ++ (p6 ++ (p7 ++ p8)))) = behind c3 c4 c8 texts_counted (p5 ++ (p6 ++ (p7 ++ p8))) e4 a5 in
    let a3' : c8 ≡ c2 ++ (p3 ++ (texts_counted ++ (p5 ++ (p6 ++ (p7 ++ p8))))) = behind c2 c3 c8 p3 (texts_counted ++ (p5 ++ (p6 ++ (p7 ++ p8)))) e3 a4 in
    let a2' : c8 ≡ c1 ++ (list_taken ++ (p3 ++ (texts_counted ++ (p5 ++ (p6 ++ (p7 ++ p8)))))) = behind c1 c2 c8 list_taken (p3 ++ (texts_counted ++ (p5 ++ (p6 ++ (p7 ++ p8))))) e2 a3' in
    behind c0 c1 c8 p1 (list_taken ++ (p3 ++ (texts_counted ++ (p5 ++ (p6 ++ (p7 ++ p8)))))) e1 a2'

pub procedure_is : (code after : Code) (e inner : Environment) (p : Procedure) (own : Taken) (held : ℕ)
    → inner ≡ procedure_environment (block_head_of p.block.head) e
    → own ≡ block_takes inner.program p.block.head.number (stmts_of p.block.body)
    → held ≡ held_with inner.program own.registers (stmts_of p.block.body)
    → after ≡ code ++ procedure_with inner (block_head_of p.block.head) (stmts_of p.block.body) own.words held
    (procedure_of p).parameters (procedure_of p).result
    → after ≡ code ++ procedure_of_block e (procedure_of p).block (procedure_of p).parameters (procedure_of p).result
unfolding procedure_with
procedure_is code after e inner p own held is n k h =
    let head = block_head_of p.block.head in
    let body = stmts_of p.block.body in
    h
    ∙ ap (λ m. code ++ procedure_with inner head body own.words m (procedure_of p).parameters (procedure_of p).result) k
    ∙ ap (λ (t : Taken). code ++ procedure_with inner head body t.words (held_with inner.program t.registers body)
    (procedure_of p).parameters (procedure_of p).result) n
    ∙ ap (λ i. code ++ procedure_with i head body (block_words i p.block.head.number body)
    (block_held i p.block.head.number body) (procedure_of p).parameters (procedure_of p).result) is

pub next_procedure : (e : Environment) (xs : List Procedure) (i : ℕ) (x : Procedure) (code after target : Code) → i < length xs → x ≡ get_or xs i x → after ≡ code ++ procedure_of_block e (procedure_of x).block (procedure_of x).parameters (procedure_of x).result
    → code ++ procedures_code e (map procedure_of (drop i xs)) ≡ target → after ++ procedures_code e (map procedure_of (drop (i + 1) xs)) ≡ target
next_procedure e xs i x code after target h k a is =
    let here : Code = procedure_of_block e (procedure_of x).block (procedure_of x).parameters (procedure_of x).result in
    ap (λ u. u ++ procedures_code e (map procedure_of (drop (i + 1) xs))) a
    ∙ append_assoc code here (procedures_code e (map procedure_of (drop (i + 1) xs)))
    ∙ ap (λ ps. code ++ procedures_code e ps) (sym (shown_from procedure_of xs i x h k))
    ∙ is

-- ---- routines

pub extents_at : (code after : Code) (e : Environment) (index : ℕ) (v : Y.Variable) (t : Taken) → v ≡ variable_at e.block index → t ≡ none_taken → after ≡ code ++ extents_code e t (declaration_of e v) → after ≡ code ++ extents_told e index
unfolding extents_told
extents_at code after e index v t is n h = h ∙ ap (λ u. code ++ extents_code e t (declaration_of e u)) is ∙ ap (λ u. code ++ extents_code e u (declared_at e e.block index)) n

pub routine_whole : (e : Environment) (index words held : ℕ) (d : Y.DeclaredVariable) (c0 c1 c2 c3 c4 c5 : Code)
    → c1 ≡ c0 ++ routine_marked e.block index → c2 ≡ c1 ++ frame_begun words e.level 0 (Some held)
    → c3 ≡ c2 ++ extents_told e index → c4 ≡ c3 ++ amounts_given d → c5 ≡ c4 ++ frame_returned words held
    → c5 ≡ c0 ++ routine_with e index words held d
unfolding routine_with
routine_whole e index words held d c0 c1 c2 c3 c4 c5 e1 e2 e3 e4 e5 =
    let p1 : Code = routine_marked e.block index in
    let p2 : Code = frame_begun words e.level 0 (Some held) in
    let p3 : Code = extents_told e index in
    let p4 : Code = amounts_given d in
    let p5 : Code = frame_returned words held in
    let a4 : c5 ≡ c3 ++ (p4 ++ p5) = behind c3 c4 c5 p4 p5 e4 e5 in
    let a3 : c5 ≡ c2 ++ (p3 ++ (p4 ++ p5)) = behind c2 c3 c5 p3 (p4 ++ p5) e3 a4 in
    let a2 : c5 ≡ c1 ++ (p2 ++ (p3 ++ (p4 ++ p5))) = behind c1 c2 c5 p2 (p3 ++ (p4 ++ p5)) e2 a3 in
    behind c0 c1 c5 p1 (p2 ++ (p3 ++ (p4 ++ p5))) e1 a2

routine_is : (e : Environment) (index : ℕ)
    → routine_with e index (routine_words (declared_at e e.block index)) (routine_held (declared_at e e.block index))
    (declared_at e e.block index)
    ≡ routine_code e index (declared_at e e.block index)
unfolding routine_with extents_told
routine_is e index = refl

some_evaluated : (e : Environment) (index : ℕ) (d : Y.DeclaredVariable) (xs : List Evaluation) → (length xs ≡ 0 → ⊥) → routine_if e index d (map evaluation_of xs) ≡ (if has_routine d.class then routine_code e index d else [])
some_evaluated e index d [] h = absurd (h refl)
some_evaluated e index d (x ∷ xs) h = refl

none_evaluated : (e : Environment) (index : ℕ) (d : Y.DeclaredVariable) (xs : List Evaluation) → length xs ≡ 0 → routine_if e index d (map evaluation_of xs) ≡ []
none_evaluated e index d [] h = refl
none_evaluated e index d (x ∷ xs) h = absurd (omega arith)

told_at : (e : Environment) (index : ℕ) (d : Y.DeclaredVariable) → d ≡ declared_at e e.block index → routine_at e index ≡ routine_if e index d d.evaluations
unfolding routine_at
told_at e index d is = ap (λ (x : Y.DeclaredVariable). routine_if e index x x.evaluations) (sym is)

pub routine_there : (code after : Code) (e : Environment) (index : ℕ) (own k : Taken) (held : ℕ) (d : DeclaredVariable)
    → declared_variable_of d ≡ declared_at e e.block index → (length d.evaluations.items ≡ 0 → ⊥)
    → has_routine (declared_variable_of d).class
    ≡ true
    → own ≡ extents_take k (declared_variable_of d) → k ≡ none_taken → held ≡ min held_registers own.registers
    → after ≡ code ++ routine_with e index own.words held (declared_variable_of d) → after ≡ code ++ routine_at e index
routine_there code after e index own k held d is some t o n m h =
    let shown : Y.DeclaredVariable = declared_variable_of d in
    let own_is : own ≡ extents_take none_taken shown = o ∙ ap (λ (z : Taken). extents_take z shown) n in
    h
    ∙ ap (λ r. code ++ routine_with e index own.words r shown) m
    ∙ ap (λ (z : Taken). code ++ routine_with e index z.words (min held_registers z.registers) shown) own_is
    ∙ ap (λ (x : Y.DeclaredVariable). code ++ routine_with e index (routine_words x) (routine_held x) x) is
    ∙ ap (λ u. code ++ u) (routine_is e index ∙ ap (λ (x : Y.DeclaredVariable). routine_code e index x) (sym is))
    ∙ ap (λ (b : Bool). code ++ (if b then routine_code e index shown else [])) (sym t)
    ∙ ap (λ u. code ++ u) (sym (some_evaluated e index shown d.evaluations.items some) ∙ sym (told_at e index shown is))

pub routine_nowhere : (code : Code) (e : Environment) (index : ℕ) (d : DeclaredVariable) → declared_variable_of d ≡ declared_at e e.block index → length d.evaluations.items ≡ 0 → code ≡ code ++ routine_at e index
routine_nowhere code e index d is none =
    sym (append-nil code) ∙ ap (λ u. code ++ u) (sym (none_evaluated e index (declared_variable_of d) d.evaluations.items none) ∙ sym (told_at e index (declared_variable_of d) is))

pub routine_never : (code : Code) (e : Environment) (index : ℕ) (d : DeclaredVariable) → declared_variable_of d ≡ declared_at e e.block index → (length d.evaluations.items ≡ 0 → ⊥) → has_routine (declared_variable_of d).class ≡ false → code ≡ code ++ routine_at e index
routine_never code e index d is some t =
    let shown : Y.DeclaredVariable = declared_variable_of d in
    sym (append-nil code)
    ∙ ap (λ (b : Bool). code ++ (if b then routine_code e index shown else [])) (sym t)
    ∙ ap (λ u. code ++ u) (sym (some_evaluated e index shown d.evaluations.items some) ∙ sym (told_at e index shown is))

pub next_variable : (e : Environment) (i : ℕ) (code after target : Code) → i < length (variables_of_block e.program e.block) → after ≡ code ++ routine_at e i
    → code ++ routines_of_block e i (drop i (variables_of_block e.program e.block)) ≡ target → after ++ routines_of_block e (i + 1) (drop (i + 1) (variables_of_block e.program e.block)) ≡ target
unfolding routine_at
next_variable e i code after target h a is =
    let ds : List Y.DeclaredVariable = variables_of_block e.program e.block in
    let here : Code = routine_if e i (declared_at e e.block i) (declared_at e e.block i).evaluations in
    ap (λ u. u ++ routines_of_block e (i + 1) (drop (i + 1) ds)) a
    ∙ append_assoc code here (routines_of_block e (i + 1) (drop (i + 1) ds))
    ∙ ap (λ n. code ++ (here ++ routines_of_block e n (drop (i + 1) ds))) (add-one i)
    ∙ ap (λ u. code ++ routines_of_block e i u) (sym (from_place ds i no_declaration h))
    ∙ is

pub block_is : (code after : Code) (e inner : Environment) (b : BlockPlace) → inner ≡ routine_environment b e → after ≡ code ++ routines_of_block inner 0 (variables_of_block inner.program inner.block) → after ≡ code ++ routines_in e b
unfolding routines_in
block_is code after e inner b is h = h ∙ ap (λ (i : Environment). code ++ routines_of_block i 0 (variables_of_block i.program i.block)) is

pub next_block : (e : Environment) (xs : List BlockPlaceHeld) (i : ℕ) (x : BlockPlaceHeld) (code after target : Code) → i < length xs → x ≡ get_or xs i x → after ≡ code ++ routines_in e (block_place_of x)
    → code ++ routines_code e (map block_place_of (drop i xs)) ≡ target → after ++ routines_code e (map block_place_of (drop (i + 1) xs)) ≡ target
unfolding routines_in
next_block e xs i x code after target h k a is =
    let here : Code = routines_of_block (routine_environment (block_place_of x) e) 0 (variables_of_block e.program x.number) in
    ap (λ u. u ++ routines_code e (map block_place_of (drop (i + 1) xs))) a
    ∙ append_assoc code here (routines_code e (map block_place_of (drop (i + 1) xs)))
    ∙ ap (λ bs. code ++ routines_code e bs) (sym (shown_from block_place_of xs i x h k))
    ∙ is
