-- The code of procedures inside the main one marks their entries, their labels and their ends; and how often a label or an end is marked.
use Rattle.std.proofs.Common.{◌≡◌, ℕ, suc, ◌+◌, ◌*◌, List, [], ◌∷◌, ◌++◌, None, Some, false, true, refl, sym, ap, ◌∙◌, subst}
use Rattle.std.specs.Prelude.{ℤ, pos, neg_ℤ, cond, ◌==◌, ◌&&◌, if◌then◌else◌}
use Rattle.rv_meaning.specs.declared.instr.Instr.TheVariants as I
use Rattle.pli_language.specs.Keywords.{same_bytes}
use Rattle.pli_typing.specs.TypedTree as Y
use Rattle.pli_meaning.specs.Control.{Label}
use Rattle.pli_meaning.specs.Executing.{labels_in}
use Rattle.pli_meaning.specs.DeclaredShapes.{variables_of_block}
use Rattle.pli_coding.specs.Registers.{zero_register, return_register, frame_register, stack_register, a1, a2, a3, u5}
use Rattle.pli_coding.specs.Assembly.{Symbol, ProcedureEntry, ReturnPlace, LabelPlace, same_symbol, Plain, BaseIn, OffsetOf, OffsetAhead, JumpTo, CallTo, JumpAhead, JumpBack, Mark, Code, item_size}
use Rattle.pli_coding.specs.Instructions.{move, number, plus, load_word, service}
use Rattle.pli_coding.specs.Frames.{frame_below, temporary_bytes}
use Rattle.pli_coding.specs.Environments.{Environment, none_taken}
use Rattle.pli_coding.specs.Allocating.{act_code}
use Rattle.pli_coding.specs.Entries.{frame_begun, block_entered, variables_code, all_restored}
use Rattle.pli_coding.specs.Statements.{stmts_code, block_words, block_held}
use Rattle.pli_coding.specs.Procedures.{procedure_environment, procedure_begun, procedure_ended, procedure_in, procedures_code}
use Rattle.pli_coding.specs.Images.{blocks_of}
use Rattle.pli_coding.specs.Linking.{marks_from}
use Rattle.pli_headline.specs.ProvedSoFar.{Names, Types, types_of, AreProvedStatements, main_outer, IsInner, AreInner, ArePlain, names_in, types_in, times, block_labels, procedure_labels, main_names, AllPlain}
use Rattle.run_steps.specs.Linking.{times_marked}
use Rattle.pli_headline.proofs.SymbolsMarked.{symbols_marked, Marks, both_mark, behind, constant_none, plus_none, act_none}
use Rattle.pli_headline.proofs.Stands.{Stand, all_stands, labels_among, labels_are, EndsApart, ends_apart, no_units}
use Rattle.pli_headline.proofs.DeclaredNames.{named_in, has_in}
use Rattle.pli_headline.proofs.StatementMarks.{places_of, called_begun_none, declared_none, statements_mark}
use Rattle.pli_headline.proofs.StatementMarks.{all_restored_none}
use Rattle.pli_headline.proofs.Variables.{HasTypes}
use Rattle.pli_headline.proofs.PlainInside.{DeclarePlain, declare_plain}
use Rattle.pli_headline.proofs.MainProcedure.{main_plain}

-- ---- the code of a procedure

begun_none : (e : Environment) (head : Y.BlockHead) (words held : ℕ) → ArePlain (variables_of_block e.program e.block)
    → Marks (procedure_begun e head words held []) []
begun_none e head words held declaring =
    let made = variables_code e head.line in
    let act = act_code head.line in
    let entered = block_entered 0 head.line in
    let nothing : Marks made [] = declared_none e head.line 0 (variables_of_block e.program e.block) declaring in
    behind (frame_begun words head.level 0 (Some held)) (move u5 a1 ∷ move a3 a2 ∷ (entered ++ (made ++ act))) []
    (called_begun_none words head.level held)
    (behind entered (made ++ act) [] (behind (number a2 head.line) (service 4) [] (constant_none a2 (pos head.line)) refl)
    (behind made act [] nothing (act_none head.line)))

pub ended_marks : (e : Environment) (head : Y.BlockHead) (words held : ℕ)
    → Marks (procedure_ended e head words held None) (ReturnPlace head.number ∷ [])
ended_marks e head words held =
    let z : ℤ = neg_ℤ (pos (temporary_bytes words)) in
    let up = plus stack_register frame_register z in
    let below = load_word frame_register frame_register frame_below in
    let last = Plain (I.JumpRegister zero_register return_register (pos 0)) ∷ [] in
    ap (λ ss. ReturnPlace head.number ∷ ss)
    (behind (all_restored held) ((up ++ below) ++ last) [] (all_restored_none held)
    (behind (up ++ below) last [] (behind up below [] (plus_none stack_register frame_register z) refl) refl))

abbrev pub block_symbols : Y.Block → List Symbol
block_symbols (Y.BlockOf head body) =
    ProcedureEntry head.number ∷ (places_of (all_stands head.number body) ++ ReturnPlace head.number ∷ [])

abbrev pub procedure_symbols : List Y.Procedure → List Symbol
procedure_symbols [] = []
procedure_symbols (p ∷ ps) = block_symbols p.block ++ procedure_symbols ps

procedure_marks : (e : Environment) (block : Names) (types : Types) (head : Y.BlockHead) (body : Y.Stmts) → block.program ≡ e.program → HasTypes e block types → ArePlain (variables_of_block e.program head.number) → AreProvedStatements (names_in block types head (variables_of_block block.program head.number)) (types_in types (variables_of_block block.program head.number)) body → DeclarePlain e.program body → Marks (procedure_in (procedure_environment head e) head body [] None) (block_symbols (Y.BlockOf head body))
procedure_marks e block types head body named has declaring are bare =
    let e' = procedure_environment head e in
    let words = block_words e' head.number body in
    let held = block_held e' head.number body in
    let begun = procedure_begun e' head words held [] in
    let code = stmts_code e' none_taken body in
    let ended = procedure_ended e' head words held None in
    let ss = places_of (all_stands head.number body) in
    ap (λ us. ProcedureEntry head.number ∷ us)
    (behind begun (code ++ ended) (ss ++ ReturnPlace head.number ∷ []) (begun_none e' head words held declaring)
    (both_mark code ended ss (ReturnPlace head.number ∷ [])
    (statements_mark e' none_taken (names_in block types head (variables_of_block block.program head.number))
    (types_in types (variables_of_block block.program head.number)) body
    (named_in block types head (variables_of_block block.program head.number) named)
    (has_in e block types head named declaring has) are bare) (ended_marks e' head words held)))

pub procedures_mark : (e : Environment) (block : ℕ) (all : List (ℕ × Label)) (called : List ℕ) (ps : List Y.Procedure) → AllPlain e.program.variables → HasTypes e (main_names e.program block) (types_of (variables_of_block e.program block)) → AreInner e.program block all called ps → Marks (procedures_code e ps) (procedure_symbols ps)
procedures_mark e block all called [] plain has inner = refl
procedures_mark e block all called (p ∷ ps) plain has inner =
    let q = inner.0 in
    let mine = procedure_in (procedure_environment q.head e) q.head q.body [] None in
    let marks : Marks (mine ++ procedures_code e ps) (block_symbols (Y.BlockOf q.head q.body) ++ procedure_symbols ps) =
    both_mark mine (procedures_code e ps) (block_symbols (Y.BlockOf q.head q.body)) (procedure_symbols ps)
    (procedure_marks e (main_names e.program block) (types_of (variables_of_block e.program block)) q.head q.body refl has (main_plain e.program q.head.number plain) q.statements (declare_plain e.program q.body plain))
    (procedures_mark e block all called ps plain has inner.1) in
    subst (λ (r : Y.Procedure). Marks (procedures_code e (r ∷ ps)) (procedure_symbols (r ∷ ps))) (sym q.is) marks

-- ---- how often a symbol is marked

abbrev pub symbol_times : Symbol → List Symbol → ℕ
symbol_times s [] = 0
symbol_times s (m ∷ ms) = if same_symbol s m then suc (symbol_times s ms) else symbol_times s ms

pub times_are : (s : Symbol) (at : ℕ) (c : Code) → times_marked s (marks_from at c) ≡ symbol_times s (symbols_marked c)
times_are s at [] = refl
times_are s at (Plain i ∷ xs) = times_are s (at + 4 * item_size (Plain i)) xs
times_are s at (BaseIn r ∷ xs) = times_are s (at + 4 * item_size (BaseIn r)) xs
times_are s at (OffsetOf r y ∷ xs) = times_are s (at + 4 * item_size (OffsetOf r y)) xs
times_are s at (OffsetAhead r words ∷ xs) = times_are s (at + 4 * item_size (OffsetAhead r words)) xs
times_are s at (JumpTo y ∷ xs) = times_are s (at + 4 * item_size (JumpTo y)) xs
times_are s at (CallTo y ∷ xs) = times_are s (at + 4 * item_size (CallTo y)) xs
times_are s at (JumpAhead words ∷ xs) = times_are s (at + 4 * item_size (JumpAhead words)) xs
times_are s at (JumpBack words ∷ xs) = times_are s (at + 4 * item_size (JumpBack words)) xs
times_are s at (Mark y ∷ xs) = ap (λ n. cond (same_symbol s y) (suc n) n) (times_are s at xs)

-- the labels of a procedure, before others
pub labels_before : (number block : ℕ) (label : Label) (ps : List Stand) (qs : List (ℕ × Label)) (ss : List Symbol) → symbol_times (LabelPlace block label) ss ≡ times block label qs → symbol_times (LabelPlace block label) ((places_of ps ++ ReturnPlace number ∷ []) ++ ss) ≡ times block label (labels_among ps ++ qs)
labels_before number block label [] qs ss h = h
labels_before number block label ((m, Some l) ∷ ps) qs ss h =
    ap (λ n. cond ((block == m) && same_bytes label l) (suc n) n) (labels_before number block label ps qs ss h)
labels_before number block label ((m, None) ∷ ps) qs ss h = labels_before number block label ps qs ss h

block_times : (block : ℕ) (label : Label) (b : Y.Block) (ps : List Y.Procedure) → symbol_times (LabelPlace block label) (procedure_symbols ps) ≡ times block label (procedure_labels ps) → symbol_times (LabelPlace block label) (block_symbols b ++ procedure_symbols ps) ≡ times block label (block_labels b ++ procedure_labels ps)
block_times block label (Y.BlockOf head body) ps h =
    labels_before head.number block label (all_stands head.number body) (procedure_labels ps) (procedure_symbols ps) h
    ∙ ap (λ ls. times block label (ls ++ procedure_labels ps)) (labels_are head.number body)

pub procedure_times : (block : ℕ) (label : Label) (ps : List Y.Procedure) → symbol_times (LabelPlace block label) (procedure_symbols ps) ≡ times block label (procedure_labels ps)
procedure_times block label [] = refl
procedure_times block label (p ∷ ps) = block_times block label p.block ps (procedure_times block label ps)

-- the end of a procedure
pub end_times : (block : ℕ) (ps : List Stand) (ss : List Symbol) → (block == block) ≡ true → EndsApart block ps → symbol_times (ReturnPlace block) ss ≡ 0 → symbol_times (ReturnPlace block) ((places_of ps ++ ReturnPlace block ∷ []) ++ ss) ≡ 1
end_times block [] ss same apart none =
    ap (λ q. cond q (suc (symbol_times (ReturnPlace block) ss)) (symbol_times (ReturnPlace block) ss)) same ∙ ap (λ n. suc n) none
end_times block ((m, Some l) ∷ ps) ss same apart none = end_times block ps ss same apart none
end_times block ((m, None) ∷ ps) ss same apart none =
    let rest = symbol_times (ReturnPlace block) ((places_of ps ++ ReturnPlace block ∷ []) ++ ss) in
    ap (λ q. cond q (suc rest) rest) apart.0 ∙ end_times block ps ss same apart.1 none

other_end : (block number : ℕ) (ps : List Stand) (ss : List Symbol) → (block == number) ≡ false → EndsApart block ps → symbol_times (ReturnPlace block) ss ≡ 0 → symbol_times (ReturnPlace block) ((places_of ps ++ ReturnPlace number ∷ []) ++ ss) ≡ 0
other_end block number [] ss other apart none =
    ap (λ q. cond q (suc (symbol_times (ReturnPlace block) ss)) (symbol_times (ReturnPlace block) ss)) other ∙ none
other_end block number ((m, Some l) ∷ ps) ss other apart none = other_end block number ps ss other apart none
other_end block number ((m, None) ∷ ps) ss other apart none =
    let rest = symbol_times (ReturnPlace block) ((places_of ps ++ ReturnPlace number ∷ []) ++ ss) in
    ap (λ q. cond q (suc rest) rest) apart.0 ∙ other_end block number ps ss other apart.1 none

-- those in a procedure's statements are none but its own
pub inner_ends : (number : ℕ) {program : Y.Program} {block : ℕ} {all : List (ℕ × Label)} {called : List ℕ} {p : Y.Procedure} (q : IsInner program block all called p) → EndsApart number (all_stands q.head.number q.body)
inner_ends number {program = program} {block = block} {all = all} q =
    ends_apart number q.head.number q.body (no_units number q.head.number 1 all (blocks_of program.procedures) (main_outer block program.procedures) (main_outer block program.procedures ∷ []) (labels_in q.body) q.body refl q.jumps)

-- which isn't that of the others
pub others_end : (program : Y.Program) (block : ℕ) (all : List (ℕ × Label)) (called : List ℕ) (ps : List Y.Procedure) → AreInner program block all called ps → symbol_times (ReturnPlace block) (procedure_symbols ps) ≡ 0
others_end program block all called [] inner = refl
others_end program block all called (p ∷ ps) inner =
    let q = inner.0 in
    subst (λ (r : Y.Procedure). symbol_times (ReturnPlace block) (procedure_symbols (r ∷ ps)) ≡ 0) (sym q.is)
    (other_end block q.head.number (all_stands q.head.number q.body) (procedure_symbols ps) q.apart (inner_ends block q) (others_end program block all called ps inner.1))
