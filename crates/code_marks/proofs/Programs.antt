-- What the code of a program marks.
use Rattle.std.proofs.Common.{◌≡◌, ◌==◌, ℕ, zero, suc, List, [], ◌∷◌, ◌++◌, Bool, true, false, refl, ap, ◌∙◌}
use Rattle.std.specs.Prelude.{pos, length, Option, None, Some, if◌then◌else◌}
use Rattle.pli_typing.specs.TypedTree as Y
use Rattle.pli_meaning.specs.DeclaredShapes.{variables_of_block}
use Rattle.pli_coding.specs.Registers.{a0, a2, u1}
use Rattle.pli_coding.specs.Assembly.{Symbol, ProcedureEntry, ReturnPlace, ExtentRoutine, RaiseCondition, RaiseError}
use Rattle.pli_coding.specs.Assembly.{ErrorEnd, Mark, Code}
use Rattle.pli_coding.specs.Frames.{MemoryParts}
use Rattle.pli_coding.specs.Environments.{BlockPlace, Environment, none_taken}
use Rattle.pli_coding.specs.Locating.{needs_number_word, referred_bounds, is_star_type, own_place}
use Rattle.pli_coding.specs.Entries as E
use Rattle.pli_coding.specs.Procedures as P
use Rattle.pli_coding.specs.Images as I
use Rattle.code_marks.specs.CodeMarks.{symbols_marked, Unmarked, stmts_symbols, block_symbols, procedure_symbols}
use Rattle.code_marks.specs.CodeMarks.{routine_symbols, routines_in_block, routines_among, program_symbols}
use Rattle.code_marks.specs.CodeMarks.{ProgramsMark}
use Rattle.code_marks.proofs.Pieces.{clear, also, next, one_of, far, none, constant_none, number_none, load_none}
use Rattle.code_marks.proofs.Pieces.{store_none}
use Rattle.code_marks.proofs.Pieces.{plus_none}
use Rattle.code_marks.proofs.Reached.{own_none, stored_none, copied_none}
use Rattle.code_marks.proofs.Stored.{extents_none, refer_amount_none, initial_none, act_none}
use Rattle.code_marks.proofs.Statements.{Marking, nothing, behind, before, both, all_restored_none, frame_begun_none}
use Rattle.code_marks.proofs.Statements.{frame_ended_none, entered_none, variables_none, statements}
use Rattle.std.specs.Prelude.{◌+◌, ◌*◌}
use Rattle.pli_coding.specs.Registers.{stack_register, frame_register, a1, a3, u2, u4, u5}
use Rattle.pli_coding.specs.Frames.{own_offset, lower_top, name_bytes, constant_size, list_place, list_offset}
use Rattle.pli_coding.specs.Frames.{argument_at}
use Rattle.pli_coding.specs.Locating.{table_number}
use Rattle.pli_coding.specs.Extents.{number_word}
use Rattle.pli_coding.specs.Statements.{block_words, block_held}
use Rattle.pli_coding.specs.Registers.{u0, u3}

-- ---- arguments

list_none : (level : ℕ) (ps : List ℕ) → Unmarked (E.list_kept level ps)
list_none level [] = none
list_none level (p ∷ ps) =
    also (store_none frame_register a1 (pos (list_place level)))
    (next refl (next refl (store_none frame_register a1 list_offset)))

if_copied_none : (c : E.Copied) (code : Code) → Unmarked code → Unmarked (E.if_copied c code)
if_copied_none c code h = also (load_none u4 u5 (argument_at c.n 5)) (next refl h)

signature_none : (e : Environment) (c : E.Copied) → Unmarked (E.copy_signature e c)
signature_none e c =
    one_of (is_star_type c.type)
    (also (number_none a0 (table_number e c.declared))
    (next refl (also (load_none a3 u5 (argument_at c.n 4)) (clear refl))))
    (also (number_none a1 (table_number e c.declared)) (number_none u2 (constant_size e.parts c.declared)))

begun_copy_none : (e : Environment) (c : E.Copied) → Unmarked (E.copy_begun e c)
begun_copy_none e c =
    also (signature_none e c)
    (also (store_none u5 a1 (argument_at c.n 4))
    (also (load_none u1 frame_register lower_top) (next refl (store_none frame_register u1 lower_top))))

value_taken_none : (n : ℕ) (type : Y.LeafType) → Unmarked (E.value_taken n type)
value_taken_none n (Y.FixedLeaf p) = load_none u4 u5 (argument_at n 0)
value_taken_none n Y.BitLeaf = load_none u4 u5 (argument_at n 0)
value_taken_none n (Y.CharacterLeaf x) = none
value_taken_none n (Y.VaryingLeaf x) = none
value_taken_none n Y.PointerLeaf =
    also (load_none u0 u5 (argument_at n 0))
    (also (load_none u2 u5 (argument_at n 1))
    (also (load_none u3 u5 (argument_at n 2)) (load_none u4 u5 (argument_at n 3))))
value_taken_none n (Y.OffsetLeaf area) = load_none u4 u5 (argument_at n 0)
value_taken_none n (Y.AreaLeaf x) = load_none u4 u5 (argument_at n 0)

named_none : (n : ℕ) → Unmarked (E.copy_named n)
named_none n = also (load_none a0 frame_register list_offset) (also (plus_none a0 a0 (argument_at n 0)) (clear refl))

copy_filled_none : (n : ℕ) (type : Y.LeafType) → Unmarked (E.copy_filled n type)
copy_filled_none n (Y.FixedLeaf p) = next refl (next refl (stored_none (Y.FixedLeaf p) u4 E.copy_address))
copy_filled_none n Y.BitLeaf = next refl (next refl (stored_none Y.BitLeaf u4 E.copy_address))
copy_filled_none n (Y.CharacterLeaf x) = store_none u5 u1 (argument_at n 5)
copy_filled_none n (Y.VaryingLeaf x) = store_none u5 u1 (argument_at n 5)
copy_filled_none n Y.PointerLeaf =
    next refl
    (next refl
    (also (store_none a0 u0 (pos 0))
    (also (store_none a0 u2 (pos 4)) (also (store_none a0 u3 (pos 8)) (store_none a0 u4 (pos 12))))))
copy_filled_none n (Y.OffsetLeaf area) = next refl (next refl (stored_none (Y.OffsetLeaf area) u4 E.copy_address))
copy_filled_none n (Y.AreaLeaf x) = next refl (next refl (stored_none (Y.AreaLeaf x) u4 E.copy_address))

copy_made_none : (e : Environment) (c : E.Copied) → Unmarked (E.copy_made e c)
copy_made_none e c =
    also (begun_copy_none e c)
    (also (value_taken_none c.n c.type) (also (named_none c.n) (copy_filled_none c.n c.type)))

copies_none : (e : Environment) (cs : List E.Copied) → Unmarked (E.copies_made e cs)
copies_none e [] = none
copies_none e (c ∷ cs) = also (if_copied_none c _ (copy_made_none e c)) (copies_none e cs)

copy_length_none : (x : Y.Extent) → Unmarked (E.copy_length x)
copy_length_none (Y.ConstantExtent z) = number_none a1 _
copy_length_none Y.StarExtent = clear refl
copy_length_none Y.ReferExtent = clear refl
copy_length_none (Y.EvaluatedExtent place) = clear refl

text_copy_none : (c : E.Copied) (mode : ℕ) (x : Y.Extent) → Unmarked (E.text_copy c mode x)
text_copy_none c mode x = if_copied_none c _ (also (copy_length_none x) (clear refl))

text_filled_none : (c : E.Copied) (type : Y.LeafType) → Unmarked (E.text_filled c type)
text_filled_none c (Y.FixedLeaf p) = none
text_filled_none c Y.BitLeaf = none
text_filled_none c (Y.CharacterLeaf x) = text_copy_none c 0 x
text_filled_none c (Y.VaryingLeaf x) = text_copy_none c 1 x
text_filled_none c Y.PointerLeaf = none
text_filled_none c (Y.OffsetLeaf area) = none
text_filled_none c (Y.AreaLeaf x) = none

texts_filled_none : (cs : List E.Copied) → Unmarked (E.texts_filled cs)
texts_filled_none [] = none
texts_filled_none (c ∷ cs) = also (texts_filled_none cs) (text_filled_none c c.type)

arguments_none : (e : Environment) (ps : List ℕ) → Unmarked (E.arguments_copied e ps)
arguments_none e ps = also (copies_none e (E.copies_of e ps)) (texts_filled_none (E.copies_of e ps))

-- ---- procedures

returned_none : (words held : ℕ) → Unmarked (P.frame_returned words held)
returned_none words held = also (all_restored_none held) (also (frame_ended_none words) (clear refl))

end_none : (e : Environment) (head : Y.BlockHead) (result : Option Y.LeafType) → Unmarked (P.end_reached e head result)
end_none e head None = none
end_none e head (Some type) =
    one_of (P.is_main e.program head.number) (clear refl) (also (number_none a0 head.line) (clear refl))

left_none : (result : Option Y.LeafType) → Unmarked (P.left_with result)
left_none None = clear refl
left_none (Some (Y.FixedLeaf p)) = clear refl
left_none (Some Y.BitLeaf) = clear refl
left_none (Some (Y.CharacterLeaf x)) = clear refl
left_none (Some (Y.VaryingLeaf x)) = clear refl
left_none (Some Y.PointerLeaf) = clear refl
left_none (Some (Y.OffsetLeaf area)) = clear refl
left_none (Some (Y.AreaLeaf x)) = clear refl

begun_none : (e : Environment) (head : Y.BlockHead) (words held : ℕ) (ps : List ℕ)
    → Unmarked (P.procedure_begun e head words held ps)
begun_none e head words held ps =
    also (frame_begun_none words head.level (length ps) (Some held))
    (next refl
    (also (list_none head.level ps)
    (next refl
    (also (entered_none 0 head.line)
    (also (arguments_none e ps) (also (variables_none e head.line) (act_none head.line)))))))

mark_then : (s : Symbol) {code : Code} {ss : List Symbol} → Marking code ss → Marking (Mark s ∷ code) (s ∷ ss)
mark_then s h = record { told = ap (λ ss. s ∷ ss) h.told }

ended_marks : (e : Environment) (head : Y.BlockHead) (words held : ℕ) (result : Option Y.LeafType)
    → Marking (P.procedure_ended e head words held result) (ReturnPlace head.number ∷ [])
ended_marks e head words held result =
    behind (end_none e head result)
    (mark_then (ReturnPlace head.number) (nothing (also (left_none result) (returned_none words held))))

procedure_marks : (e : Environment) (b : Y.Block) (ps : List ℕ) (result : Option Y.LeafType)
    → Marking (P.procedure_of_block e b ps result) (block_symbols b)
procedure_marks e (Y.BlockOf head body) ps result =
    let inside = P.procedure_environment head e in
    let words = block_words inside head.number body in
    let held = block_held inside head.number body in
    mark_then (ProcedureEntry head.number)
    (behind (begun_none inside head words held ps)
    (both (statements inside none_taken body) (ended_marks inside head words held result)))

procedures_mark : (e : Environment) (ps : List Y.Procedure) → Marking (P.procedures_code e ps) (procedure_symbols ps)
procedures_mark e [] = nothing none
procedures_mark e (p ∷ ps) = both (procedure_marks e p.block p.parameters p.result) (procedures_mark e ps)

-- ---- routines of extents

routine_marks : (e : Environment) (index : ℕ) (d : Y.DeclaredVariable)
    → Marking (P.routine_code e index d) (ExtentRoutine e.block index ∷ [])
routine_marks e index d =
    mark_then (ExtentRoutine e.block index)
    (nothing
    (also (frame_begun_none (P.routine_words d) e.level 0 (Some (P.routine_held d)))
    (also (extents_none e none_taken d)
    (also (also (refer_amount_none none_taken d.leaves d.refer) (load_none a0 frame_register
    (number_word none_taken))) (returned_none (P.routine_words d) (P.routine_held d))))))

routine_if_marks : (e : Environment) (index : ℕ) (d : Y.DeclaredVariable) (xs : List Y.Evaluation)
    → Marking (P.routine_if e index d xs) (routine_symbols e.block index d xs)
routine_if_marks e index d [] = nothing none
routine_if_marks e index d (x ∷ xs) = chosen (P.has_routine d.class)
  where
    chosen : (q : Bool)
        → Marking (if q then P.routine_code e index d else []) (if q then ExtentRoutine e.block index ∷ [] else [])
    chosen true = routine_marks e index d
    chosen false = nothing none

block_routines_mark : (e : Environment) (index : ℕ) (ds : List Y.DeclaredVariable)
    → Marking (P.routines_of_block e index ds) (routines_in_block e.block index ds)
block_routines_mark e index [] = nothing none
block_routines_mark e index (d ∷ ds) =
    both (routine_if_marks e index d d.evaluations) (block_routines_mark e (suc index) ds)

routines_mark : (e : Environment) (bs : List BlockPlace)
    → Marking (P.routines_code e bs) (routines_among e.program bs)
routines_mark e [] = nothing none
routines_mark e (b ∷ bs) =
    both (block_routines_mark (P.routine_environment b e) 0 (variables_of_block e.program b.number))
    (routines_mark e bs)

-- ---- the start of the run

first_frame_none : (parts : MemoryParts) → Unmarked (I.first_frame parts)
first_frame_none parts =
    next refl
    (also (number_none u1 parts.stack_start)
    (next refl
    (also (store_none frame_register u1 own_offset) (also (number_none u1 parts.stack_end) (also
    (store_none frame_register u1 lower_top) (plus_none stack_register frame_register (pos I.first_frame_bytes)))))))

static_made_none : (e : Environment) (block index : ℕ) (d : Y.DeclaredVariable) → Unmarked
    (I.static_made e block index d)
static_made_none e block index d =
    next refl (also (number_none a1 (table_number e d)) (also (initial_none a2 d) (also (plus_none a3 a0
    (pos name_bytes)) (clear refl))))

static_if_none : (e : Environment) (block index : ℕ) (d : Y.DeclaredVariable) (class : Y.StorageClass)
    → Unmarked (I.static_if e block index d class)
static_if_none e block index d Y.AutomaticClass = none
static_if_none e block index d Y.ParameterClass = none
static_if_none e block index d Y.StaticClass = static_made_none e block index d
static_if_none e block index d Y.BasedClass = none
static_if_none e block index d Y.ControlledClass = none

lower_filled_none : (e : Environment) (block index : ℕ) (d : Y.DeclaredVariable) (bs : List Y.Bounds)
    → Unmarked (I.lower_filled e block index d bs)
lower_filled_none e block index d [] = none
lower_filled_none e block index d (b ∷ bs) = by b.lower
  where
    by : (lower : Y.Extent)
        → Unmarked (I.lower_filled e block index d (record { lower = lower; upper = b.upper } ∷ bs))
    by (Y.ConstantExtent z) =
        also (number_none a0 (table_number e d)) (next refl (also (constant_none a2 z) (also (constant_none a3 z)
        (clear refl))))
    by Y.StarExtent = none
    by Y.ReferExtent = none
    by (Y.EvaluatedExtent n) = none

number_if_none : (e : Environment) (block index : ℕ) (d : Y.DeclaredVariable) → Unmarked (I.number_if e block index d)
number_if_none e block index d =
    one_of (needs_number_word d) (lower_filled_none e block index d (referred_bounds d.leaves)) none

block_statics_none : (e : Environment) (block index : ℕ) (ds : List Y.DeclaredVariable)
    → Unmarked (I.statics_of_block e block index ds)
block_statics_none e block index [] = none
block_statics_none e block index (d ∷ ds) =
    also (static_if_none e block index d d.class)
    (also (number_if_none e block index d) (block_statics_none e block (suc index) ds))

statics_none : (e : Environment) (block : ℕ) (all : List (List Y.DeclaredVariable))
    → Unmarked (I.statics_code e block all)
statics_none e block [] = none
statics_none e block (ds ∷ rest) = also (block_statics_none e block 0 ds) (statics_none e (suc block) rest)

main_called_none : (ps : List Y.Procedure) → Unmarked (I.main_called ps)
main_called_none [] = none
main_called_none (p ∷ ps) = clear refl

start_none : (e : Environment) → Unmarked (I.start_code e)
start_none e =
    also (first_frame_none e.parts)
    (also (statics_none e 0 e.program.variables) (also (main_called_none e.program.procedures) (clear refl)))

-- ---- the law

raises_mark : Marking I.raise_code (RaiseCondition ∷ RaiseError ∷ ErrorEnd ∷ [])
raises_mark = record { told = refl }

pub programs_mark : ProgramsMark
programs_mark parts program =
    let e = I.environment_of parts program in
    (behind (start_none e)
    (both raises_mark (both (routines_mark e e.blocks) (procedures_mark e program.procedures)))).told
