-- The labels of the main procedure: each that stands once among them is marked once in the program's code.
use Rattle.std.proofs.Common.{◌≡◌, ℕ, suc, ◌+◌, List, [], ◌∷◌, ◌++◌, length, Option, None, Some, Bool, true, false, inl, inr, refl, sym, ap, ◌∙◌, subst, arith}
use Rattle.std.specs.Prelude.{ℤ, min, pos, cond, ◌==◌, if◌then◌else◌}
use Rattle.std.proofs.lemmas.Bool.{eq-eqb}
use Rattle.rv_meaning.specs.declared.instr.Register.{Register}
use Rattle.pli_typing.specs.TypedTree as Y
use Rattle.pli_meaning.specs.Control.{Label}
use Rattle.pli_meaning.specs.DeclaredShapes.{variables_of_block, procedure_numbered, head_of}
use Rattle.pli_meaning.specs.Executing.{labels_in}
use Rattle.pli_coding.specs.Registers.{frame_register, stack_register, a0, a1, a2, a3, a4, u5}
use Rattle.pli_coding.specs.Assembly.{Datum, Symbol, ProcedureEntry, ReturnPlace, LabelPlace, RaiseCondition, RaiseError, ErrorEnd}
use Rattle.pli_coding.specs.Instructions.{move, small, number, plus, load_word, service}
use Rattle.pli_coding.specs.Frames.{own_offset, name_bytes, frame_bytes, last_place, automatic_place, variable_place}
use Rattle.pli_coding.specs.Frames.{parameters_in, first_variable, fixed_size, frame_end, parameters_of_block}
use Rattle.pli_coding.specs.Environments.{BlockPlace, Environment, none_taken, last_of_level}
use Rattle.pli_coding.specs.Locating.{own_place, table_number}
use Rattle.pli_coding.specs.StaticForms.{initial_datum}
use Rattle.pli_coding.specs.Extents.{initial_given, initial_code}
use Rattle.pli_coding.specs.Allocating.{act_code}
use Rattle.pli_coding.specs.Entries.{frame_begun, block_entered, constant_made, variables_made, variables_code, adjustable_made}
use Rattle.pli_coding.specs.Statements.{stmts_code, block_words, block_held}
use Rattle.pli_coding.specs.Procedures.{procedure_begun, procedure_ended, procedure_in}
use Rattle.pli_coding.specs.Images.{blocks_among, blocks_of_procedure, with_blocks, blocks_of, environment_of, raise_code, code_of}
use Rattle.pli_coding.specs.Linking.{links_of}
use Rattle.pli_headline.specs.Headline.{parts}
use Rattle.pli_headline.specs.ProvedSoFar.{plain_variable, ArePlain, AllPlain, types_of, AreProvedStatements, all_labels, array_variable, AllJumpAround, main_outer, number_times, AreInner, procedure_labels, times, is_number, AllCallAmong, main_names}
use Rattle.run_steps.specs.Linking.{times_marked}
use Rattle.pli_headline.proofs.FirstFrame.{start_of}
use Rattle.pli_headline.proofs.Marks.{others_code, code_is}
use Rattle.pli_headline.proofs.MainProcedure.{IsAlone, main_head, main_environment, main_plain, declared_at}
use Rattle.pli_headline.proofs.Scalars.{by_plain, character, varying}
use Rattle.pli_headline.proofs.Variables.{outermost, HasTypes}
use Rattle.pli_headline.proofs.Gotos.{LabelsStand}
use Rattle.pli_headline.proofs.SymbolsMarked.{symbols_marked, Marks, both_mark, behind, constant_none, load_none, plus_none, act_none}
use Rattle.pli_headline.proofs.InnerLevels.{IsAmong, InOrder, among_all, among_with, in_order, last_is}
use Rattle.pli_headline.proofs.Stands.{Stand, all_stands, labels_are, ends_apart, own_units, called_units}
use Rattle.pli_headline.proofs.StatementMarks.{places_of, statements_mark, called_begun_none}
use Rattle.pli_headline.proofs.ProcedurePlaces.{entry_behind, entry_times, ends_behind, ends_times}
use Rattle.pli_headline.proofs.ProcedureMarks.{ended_marks, procedure_symbols, procedures_mark, symbol_times, times_are, labels_before, procedure_times, end_times, others_end}
use Rattle.pli_headline.proofs.ArrayFrames.{held_constant}
use Rattle.pli_headline.proofs.PlainInside.{DeclarePlain}

-- ---- the procedure

place_none : (e : Environment) (r : Register) (z : ℤ) → Marks (own_place (outermost e) r z) []
place_none e r z =
    behind (load_word r frame_register own_offset) (plus r r z) [] (load_none r frame_register own_offset) (plus_none r r z)

initial_none : (r : Register) (initial : Option Datum) → Marks (initial_given r initial) []
initial_none r None = refl
initial_none r (Some d) = refl

made_none : (e : Environment) (place : ℕ) (d : Y.DeclaredVariable) → Marks (constant_made (outermost e) place d) []
made_none e place d =
    let name = own_place (outermost e) a0 (pos place) in
    let n = number a1 (table_number e d) in
    let data_at = own_place (outermost e) a3 (pos (place + name_bytes)) in
    let z : ℤ = pos (min last_place (place + frame_bytes e.parts d)) in
    let last = small a4 0 ∷ (service 7 ++ plus stack_register frame_register z) in
    let initial = initial_code a2 d in
    behind name (n ++ (initial ++ (data_at ++ last))) [] (place_none e a0 (pos place))
    (behind n (initial ++ (data_at ++ last)) [] (constant_none a1 (pos (table_number e d)))
    (behind initial (data_at ++ last) [] (initial_none a2 (initial_datum d))
    (behind data_at last [] (place_none e a3 (pos (place + name_bytes))) (plus_none stack_register frame_register z))))

variables_none : (e : Environment) (line index : ℕ) (ds : List Y.DeclaredVariable) → ArePlain ds → Marks (variables_made (outermost e) line index ds) []
variables_none e line index [] are = refl
variables_none e line index (d ∷ ds) are =
    let place = automatic_place e.parts e.program e.block 0 index in
    let rest = variables_made (outermost e) line (suc index) ds in
    let here : (u : Y.DeclaredVariable) → Marks (constant_made (outermost e) place u ++ rest) [] = λ u.
    behind (constant_made (outermost e) place u) rest [] (made_none e place u) (variables_none e line (suc index) ds are.1) in
    by_plain (λ u. Marks (variables_made (outermost e) line index (u ∷ ds)) []) (λ p i. here (plain_variable (Y.FixedLeaf p) i)) (λ i. here (plain_variable Y.BitLeaf i)) (λ n i. here (plain_variable (character n) i)) (λ n i. here (plain_variable (varying n) i))
    (λ type b bs i element are'.
    let u = array_variable type (b ∷ bs) i in
    subst (λ q. Marks ((if q then constant_made (outermost e) place u else adjustable_made (outermost e) line place u) ++ rest) []) (sym (held_constant type element (b ∷ bs) i)) (here u)) d are.0

begun_none : (words held : ℕ) → Marks (frame_begun words 0 0 (Some held)) []
begun_none words held = called_begun_none words 0 held

prologue_none : (e : Environment) (block line words held : ℕ) → ArePlain (variables_of_block e.program e.block)
    → Marks (procedure_begun (outermost e) (main_head block line) words held []) []
prologue_none e block line words held plain =
    let made = variables_code (outermost e) line in
    let act = act_code line in
    let entered = block_entered 0 line in
    behind (frame_begun words 0 0 (Some held)) (move u5 a1 ∷ move a3 a2 ∷ (entered ++ (made ++ act))) []
    (begun_none words held)
    (behind entered (made ++ act) [] (behind (number a2 line) (service 4) [] (constant_none a2 (pos line)) refl)
    (behind made act [] (variables_none e line 0 (variables_of_block e.program e.block) plain) (act_none line)))

-- the symbols of the whole program
abbrev program_symbols : (block : ℕ) → List Stand → List Y.Procedure → List Symbol
program_symbols block labels others =
    RaiseCondition
    ∷ RaiseError
    ∷ ErrorEnd
    ∷ ProcedureEntry block
    ∷ ((places_of labels ++ ReturnPlace block ∷ []) ++ procedure_symbols others)

program_marks : (program : Y.Program) (block line : ℕ) (body : Y.Stmts) → AllPlain program.variables → (all : List (ℕ × Label)) (called : List ℕ) (alone : IsAlone program block line body) → AreProvedStatements (main_names program block) (types_of (variables_of_block program block)) body → DeclarePlain program body → AreInner program block all called alone.others → Marks (code_of parts program) (program_symbols block (all_stands block body) alone.others)
program_marks program block line body plain all called alone are bare others =
    let e = main_environment program block in
    let words = block_words e block body in
    let held = block_held e block body in
    let begun = procedure_begun e (main_head block line) words held [] in
    let code = stmts_code e none_taken body in
    let ended = procedure_ended e (main_head block line) words held None in
    let main = procedure_in e (main_head block line) body [] None in
    let rest = others_code program alone.others in
    let has : HasTypes e (main_names program block) (types_of (variables_of_block program block)) = λ j kind at. declared_at (variables_of_block program block) j (main_plain program block plain) at in
    let ss = places_of (all_stands block body) ++ ReturnPlace block ∷ [] in
    let inside : Marks (begun ++ (code ++ ended)) ss =
    behind begun (code ++ ended) ss (prologue_none e block line words held (main_plain program block plain))
    (both_mark code ended (places_of (all_stands block body)) (ReturnPlace block ∷ [])
    (statements_mark e none_taken (main_names program block) (types_of (variables_of_block program block)) body
    refl has are bare) (ended_marks e (main_head block line) words held)) in
    ap symbols_marked (code_is program block line body plain alone)
    ∙ behind (start_of block) (raise_code ++ (main ++ rest)) (program_symbols block (all_stands block body) alone.others) refl
    (both_mark raise_code (main ++ rest) (RaiseCondition ∷ RaiseError ∷ ErrorEnd ∷ []) (ProcedureEntry block ∷ (ss ++ procedure_symbols alone.others)) refl
    (both_mark main rest (ProcedureEntry block ∷ ss) (procedure_symbols alone.others) (ap (λ us. ProcedureEntry block ∷ us) inside)
    (procedures_mark (environment_of parts program) block all called alone.others plain has others)))

-- ---- its blocks

abbrev main_place : (block : ℕ) → BlockPlace
main_place block = record { number = block; level = 0 }

in_order_all : (ps : List Y.Procedure) → InOrder (blocks_of ps)
in_order_all [] = tt
in_order_all (p ∷ ps) = in_order (blocks_of_procedure p.block) (blocks_of ps) (in_order_all ps)

-- those of the main procedure, before the others'
blocks_are : (program : Y.Program) (block line : ℕ) (body : Y.Stmts) → (alone : IsAlone program block line body) → blocks_of program.procedures ≡ with_blocks (main_place block ∷ blocks_among body) (blocks_of alone.others)
blocks_are program block line body alone = ap blocks_of alone.are

main_among : (program : Y.Program) (block line : ℕ) (body : Y.Stmts) → IsAlone program block line body → (b : BlockPlace) → IsAmong b (main_place block ∷ blocks_among body) → IsAmong b (blocks_of program.procedures)
main_among program block line body alone b h =
    subst (IsAmong b) (sym (blocks_are program block line body alone)) (among_with b (main_place block ∷ blocks_among body) (blocks_of alone.others) h)

pub blocks_known : (program : Y.Program) (block line : ℕ) (body : Y.Stmts) → IsAlone program block line body → (b : BlockPlace) → IsAmong b (blocks_among body) → IsAmong b (blocks_of program.procedures)
blocks_known program block line body alone b h = main_among program block line body alone b (inr h)

pub others_known : (program : Y.Program) (block line : ℕ) (body : Y.Stmts) (alone : IsAlone program block line body) (b : BlockPlace) → IsAmong b (blocks_of alone.others) → IsAmong b (blocks_of program.procedures)
others_known program block line body alone b h =
    subst (IsAmong b) (sym (blocks_are program block line body alone)) (among_all b (main_place block ∷ blocks_among body) (blocks_of alone.others) h)

blocks_found : (program : Y.Program) (b : BlockPlace) → IsAmong b (blocks_of program.procedures) → last_of_level b.number b.level 0 (blocks_of program.procedures) ≡ b.number
blocks_found program b h = last_is b 0 (blocks_of program.procedures) (in_order_all program.procedures) h

own_block : (program : Y.Program) (block line : ℕ) (body : Y.Stmts) → IsAlone program block line body → last_of_level block 0 0 (blocks_of program.procedures) ≡ block
own_block program block line body alone =
    blocks_found program (main_place block) (main_among program block line body alone (main_place block) (inl refl))

-- ---- the frames of blocks that declare nothing

-- no procedure has parameters
abbrev NoParameters : List Y.Procedure → Type 0
NoParameters [] = Unit {0}
NoParameters (p ∷ ps) = (p.parameters ≡ []) × NoParameters ps

found_by : (q : Bool) (p : Y.Procedure) (o : Option Y.Procedure) → p.parameters ≡ [] → parameters_in o ≡ [] → parameters_in (cond q (Some p) o) ≡ []
found_by true p o none rest = none
found_by false p o none rest = rest

none_found : (number : ℕ) (ps : List Y.Procedure) → NoParameters ps → parameters_in (procedure_numbered number ps) ≡ []
none_found number [] none = refl
none_found number (p ∷ ps) none =
    found_by ((head_of p.block).number == number) p (procedure_numbered number ps) none.0 (none_found number ps none.1)

others_none : (program : Y.Program) (block : ℕ) (all : List (ℕ × Label)) (called : List ℕ) (ps : List Y.Procedure) → AreInner program block all called ps → NoParameters ps
others_none program block all called [] inner = tt
others_none program block all called (p ∷ ps) inner =
    (ap (λ (q : Y.Procedure). q.parameters) inner.0.is, others_none program block all called ps inner.1)

pub none_known : (program : Y.Program) (block line : ℕ) (body : Y.Stmts) (all : List (ℕ × Label)) (called : List ℕ) (alone : IsAlone program block line body) → AreInner program block all called alone.others → (number : ℕ) → parameters_of_block program number ≡ []
none_known program block line body all called alone inner number =
    none_found number program.procedures (subst NoParameters (sym alone.are) (refl, others_none program block all called alone.others inner))

bare_sized : (program : Y.Program) (block line : ℕ) (body : Y.Stmts) (all : List (ℕ × Label)) (called : List ℕ) (alone : IsAlone program block line body) → AreInner program block all called alone.others → (number level : ℕ) → variables_of_block program number ≡ [] → frame_end parts program number level ≡ fixed_size level 0
bare_sized program block line body all called alone inner number level none =
    ap (λ (ds : List Y.DeclaredVariable). variable_place parts (first_variable program number level) ds (length ds)) none
    ∙ ap (λ (ns : List ℕ). fixed_size level (length ns)) (none_known program block line body all called alone inner number)

-- ---- the labels

pub labels_stand : (program : Y.Program) (block line : ℕ) (body : Y.Stmts) (called : List ℕ) → AllPlain program.variables → (alone : IsAlone program block line body) → AreProvedStatements (main_names program block) (types_of (variables_of_block program block)) body → DeclarePlain program body → AllJumpAround block 0 (all_labels block body ++ procedure_labels alone.others) (blocks_of program.procedures) (main_outer block program.procedures) [] (labels_in body) body → AreInner program block (all_labels block body ++ procedure_labels alone.others) called alone.others → LabelsStand (main_environment program block) (links_of (code_of parts program)) (all_labels block body ++ procedure_labels alone.others) block true
labels_stand program block line body called plain alone are bare jumps inner =
    record {
      own = own_block program block line body alone;
      found = blocks_found program;
      once = λ number label h.
          times_are (LabelPlace number label) 0 (code_of parts program)
          ∙ ap (symbol_times (LabelPlace number label)) (program_marks program block line body plain _ _ alone are bare inner)
          ∙ labels_before block number label (all_stands block body) (procedure_labels alone.others) (procedure_symbols alone.others) (procedure_times number label alone.others)
          ∙ ap (λ ls. times number label (ls ++ procedure_labels alone.others)) (labels_are block body)
          ∙ h;
      owner = λ q. refl;
      ended = λ q.
          times_are (ReturnPlace block) 0 (code_of parts program)
          ∙ ap (symbol_times (ReturnPlace block)) (program_marks program block line body plain _ _ alone are bare inner)
          ∙ end_times block (all_stands block body) (procedure_symbols alone.others) (eq-eqb block block refl) (ends_apart block block body (own_units block 0 _ _ _ [] (labels_in body) body jumps)) (others_end program block _ _ alone.others inner);
      lower = omega arith;
      owned = tt;
      shallow = omega arith;
      bare = λ number level none. bare_sized program block line body _ called alone inner number level none;
    }

-- the entry of a procedure inside it is marked once
pub entry_stands : (program : Y.Program) (block line : ℕ) (body : Y.Stmts) (called : List ℕ) → AllPlain program.variables → (alone : IsAlone program block line body) → AreProvedStatements (main_names program block) (types_of (variables_of_block program block)) body → DeclarePlain program body → AreInner program block (all_labels block body ++ procedure_labels alone.others) called alone.others → (number : ℕ) → (number == block) ≡ false → number_times number alone.others ≡ 1 → times_marked (ProcedureEntry number) (links_of (code_of parts program)).marks ≡ 1
entry_stands program block line body called plain alone are bare inner number apart once =
    let rest = symbol_times (ProcedureEntry number) ((places_of (all_stands block body) ++ ReturnPlace block ∷ []) ++ procedure_symbols alone.others) in
    times_are (ProcedureEntry number) 0 (code_of parts program)
    ∙ ap (symbol_times (ProcedureEntry number)) (program_marks program block line body plain _ _ alone are bare inner)
    ∙ ap (λ q. cond q (suc rest) rest) apart
    ∙ entry_behind number block (all_stands block body) (procedure_symbols alone.others)
    ∙ entry_times number alone.others
    ∙ once

-- and its end
pub end_stands : (program : Y.Program) (block line : ℕ) (body : Y.Stmts) (called : List ℕ) → AllPlain program.variables → (alone : IsAlone program block line body) → AreProvedStatements (main_names program block) (types_of (variables_of_block program block)) body → AllJumpAround block 0 (all_labels block body ++ procedure_labels alone.others) (blocks_of program.procedures) (main_outer block program.procedures) [] (labels_in body) body → DeclarePlain program body → AreInner program block (all_labels block body ++ procedure_labels alone.others) called alone.others → (number : ℕ) → (number == block) ≡ false → number_times number alone.others ≡ 1 → is_number number called ≡ true → AllCallAmong program called true 0 body → times_marked (ReturnPlace number) (links_of (code_of parts program)).marks ≡ 1
end_stands program block line body called plain alone are jumps bare inner number apart once among calls =
    let rest = symbol_times (ReturnPlace number) (procedure_symbols alone.others) in
    times_are (ReturnPlace number) 0 (code_of parts program)
    ∙ ap (symbol_times (ReturnPlace number)) (program_marks program block line body plain _ _ alone are bare inner)
    ∙ ends_behind number block (all_stands block body) (procedure_symbols alone.others) (ends_apart number block body (called_units program number block 0 _ _ _ [] (labels_in body) called true 0 body among jumps calls))
    ∙ ap (λ q. cond q (suc rest) rest) apart
    ∙ ends_times number program block _ called alone.others inner
    ∙ once
