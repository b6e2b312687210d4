-- The code of procedures and of whole programs has no more words than what they hold takes.
use Rattle.std.proofs.Common.{◌≡◌, ℕ, suc, ◌+◌, ◌*◌, ◌≤◌, List, [], ◌∷◌, ◌++◌, Bool, true, false, length, arith, ℤ, pos}
use Rattle.std.proofs.Common.{negsuc, Option, Some, None, refl, if◌then◌else◌}
use Rattle.std.specs.Prelude.{slice_get}
use Rattle.std.proofs.lemmas.List.{length-append}
use Rattle.rv_meaning.specs.declared.instr.BranchTest.TheVariants as Test
use Rattle.pli_typing.specs.TypedTree as Y
use Rattle.pli_meaning.specs.DeclaredShapes.{variables_of_block}
use Rattle.pli_coding.specs.Registers.{zero_register, frame_register, a0, a1, a2, a3, a4, u0, u1, u2, u3, u4, u5}
use Rattle.pli_coding.specs.Assembly.{Code, Plain, BaseIn, OffsetOf, OffsetAhead, JumpTo, CallTo, JumpAhead, JumpBack}
use Rattle.pli_coding.specs.Assembly.{Mark, DataPlace, item_size, size_of}
use Rattle.pli_coding.specs.Instructions.{load_word, move, number, plus, service, skip_where, small, store_word, add}
use Rattle.pli_coding.specs.Instructions.{subtract}
use Rattle.pli_coding.specs.Environments.{Environment, none_taken}
use Rattle.pli_coding.specs.Frames.{MemoryParts, argument_at, constant_size, list_offset, list_place}
use Rattle.pli_coding.specs.StaticForms.{size_datum}
use Rattle.pli_coding.specs.Linking.{Links, linked, links_of}
use Rattle.pli_coding.specs.Locating as L
use Rattle.pli_coding.specs.Allocating as A
use Rattle.pli_coding.specs.Entries as N
use Rattle.pli_coding.specs.Statements as G
use Rattle.pli_coding.specs.Procedures as R
use Rattle.pli_coding.specs.Images as M
use Rattle.code_sizes.specs.StatementSizes.{display_size, variables_size, stmts_size}
use Rattle.code_sizes.specs.ProgramSizes.{parameters_size, procedure_size, procedures_size, program_size}
use Rattle.code_sizes.specs.ProgramSizes.{AllProgramsSized}
use Rattle.code_sizes.proofs.PieceSizes.{both, one_of, none, load_most, number_most, plus_most, store_most}
use Rattle.code_sizes.proofs.StoringSizes.{act_most, stored_most}
use Rattle.code_sizes.proofs.EntrySizes.{begun_most, few_held, variables_most}
use Rattle.code_sizes.proofs.StatementSizes.{stmts_sized}
use Rattle.code_sizes.proofs.StartSizes.{frame_returned_most, routines_most, starts_most, raise_most}

-- ---- parameters

list_kept_most : (level : ℕ) (ps : List ℕ) → size_of (N.list_kept level ps) ≤ 8
list_kept_most level [] = none
list_kept_most level (p ∷ ps) =
    both (store_word frame_register a1 (pos (list_place level))) _
    (store_most frame_register a1 (pos (list_place level))) {n = 5} (omega arith)

signature_most : (e : Environment) (c : N.Copied) → size_of (N.copy_signature e c) ≤ 11
signature_most e c =
    let table = L.table_number e c.declared in
    let rest : Code = service 3 ++ (move u2 a1 ∷ move a1 a0 ∷ []) in
    let length = both (load_word a3 u5 (argument_at c.n 4)) rest (load_most a3 u5 (argument_at c.n 4)) {n = 4}
    (omega arith) in
    one_of (L.is_star_type c.type) _ _
    (both (number a0 table) _ (number_most a0 table) {n = 9} (omega (arith, length)))
    (let all = both (number a1 table) _ (number_most a1 table) (number_most u2 (constant_size e.parts c.declared)) in
    omega (arith, all))

begun_copy_most : (e : Environment) (c : N.Copied) → size_of (N.copy_begun e c) ≤ 17
begun_copy_most e c =
    both (N.copy_signature e c) _ (signature_most e c)
    (both (store_word u5 a1 (argument_at c.n 4)) N.lower_taken (store_most u5 a1 (argument_at c.n 4)) {n = 3}
    (omega arith))

taken_most : (n : ℕ) (type : Y.LeafType) → size_of (N.value_taken n type) ≤ 12
taken_most n (Y.CharacterLeaf x) = none
taken_most n (Y.VaryingLeaf x) = none
taken_most n Y.PointerLeaf =
    both (load_word u0 u5 (argument_at n 0)) _ (load_most u0 u5 (argument_at n 0))
    (both (load_word u2 u5 (argument_at n 1)) _ (load_most u2 u5 (argument_at n 1))
    (both (load_word u3 u5 (argument_at n 2)) _ (load_most u3 u5 (argument_at n 2))
    (load_most u4 u5 (argument_at n 3))))
taken_most n (Y.FixedLeaf p) = let m = load_most u4 u5 (argument_at n 0) in omega (arith, m)
taken_most n Y.BitLeaf = let m = load_most u4 u5 (argument_at n 0) in omega (arith, m)
taken_most n (Y.OffsetLeaf area) = let m = load_most u4 u5 (argument_at n 0) in omega (arith, m)
taken_most n (Y.AreaLeaf x) = let m = load_most u4 u5 (argument_at n 0) in omega (arith, m)

named_most : (n : ℕ) → size_of (N.copy_named n) ≤ 9
named_most n =
    let m = both (plus a0 a0 (argument_at n 0)) (small a2 0 ∷ move a3 u1 ∷ small a4 2 ∷ service 7)
    (plus_most a0 a0 (argument_at n 0)) {n = 5} (omega arith) in
    omega (arith, m)

filled_most : (n : ℕ) (type : Y.LeafType) → size_of (N.copy_filled n type) ≤ 7
filled_most n (Y.CharacterLeaf x) = let m = store_most u5 u1 (argument_at n 5) in omega (arith, m)
filled_most n (Y.VaryingLeaf x) = let m = store_most u5 u1 (argument_at n 5) in omega (arith, m)
filled_most n Y.PointerLeaf = omega arith
filled_most n (Y.FixedLeaf p) = let m = stored_most (Y.FixedLeaf p) u4 N.copy_address in omega (arith, m)
filled_most n Y.BitLeaf = let m = stored_most Y.BitLeaf u4 N.copy_address in omega (arith, m)
filled_most n (Y.OffsetLeaf area) = let m = stored_most (Y.OffsetLeaf area) u4 N.copy_address in omega (arith, m)
filled_most n (Y.AreaLeaf x) = let m = stored_most (Y.AreaLeaf x) u4 N.copy_address in omega (arith, m)

if_copied_most : (c : N.Copied) (code : Code) (n : ℕ) → size_of code ≤ n → size_of (N.if_copied c code) ≤ 4 + n
if_copied_most c code n h =
    let all = both (load_word u4 u5 (argument_at c.n 5)) (skip_where Test.Equal u4 zero_register code)
    (load_most u4 u5 (argument_at c.n 5)) {n = 1 + n} (omega (arith, h)) in
    omega (arith, all)

copy_most : (e : Environment) (c : N.Copied) → size_of (N.copy_made e c) ≤ 45
copy_most e c =
    both (N.copy_begun e c) _ (begun_copy_most e c)
    (both (N.value_taken c.n c.type) _ (taken_most c.n c.type)
    (both (N.copy_named c.n) (N.copy_filled c.n c.type) (named_most c.n) (filled_most c.n c.type)))

copies_most : (e : Environment) (cs : List N.Copied) → size_of (N.copies_made e cs) ≤ 49 * length cs
copies_most e [] = none
copies_most e (c ∷ cs) =
    let all = both (N.if_copied c (N.copy_made e c)) _ (if_copied_most c (N.copy_made e c) 45 (copy_most e c))
    (copies_most e cs) in
    omega (arith, all)

length_most : (x : Y.Extent) → size_of (N.copy_length x) ≤ 4
length_most (Y.ConstantExtent (pos n)) = let m = number_most a1 n in omega (arith, m)
length_most (Y.ConstantExtent (negsuc n)) = omega arith
length_most Y.StarExtent = omega arith
length_most Y.ReferExtent = omega arith
length_most (Y.EvaluatedExtent n) = omega arith

text_most : (c : N.Copied) (mode : ℕ) (x : Y.Extent) → size_of (N.text_copy c mode x) ≤ 12
text_most c mode x =
    if_copied_most c (N.copy_length x ++ (move a0 u4 ∷ small a2 mode ∷ service 27)) 8
    (both (N.copy_length x) (move a0 u4 ∷ small a2 mode ∷ service 27) (length_most x) {n = 4} (omega arith))

text_filled_most : (c : N.Copied) (type : Y.LeafType) → size_of (N.text_filled c type) ≤ 12
text_filled_most c (Y.CharacterLeaf x) = text_most c 0 x
text_filled_most c (Y.VaryingLeaf x) = text_most c 1 x
text_filled_most c (Y.FixedLeaf p) = none
text_filled_most c Y.BitLeaf = none
text_filled_most c Y.PointerLeaf = none
text_filled_most c (Y.OffsetLeaf area) = none
text_filled_most c (Y.AreaLeaf x) = none

texts_most : (cs : List N.Copied) → size_of (N.texts_filled cs) ≤ 12 * length cs
texts_most [] = none
texts_most (c ∷ cs) =
    let all = both (N.texts_filled cs) (N.text_filled c c.type) (texts_most cs) (text_filled_most c c.type) in
    omega (arith, all)

-- a parameter stands for one copy at most
type_few : (n : ℕ) (d : Y.DeclaredVariable) (type : Y.LeafType) → length (N.copied_type n d type) ≤ 1
type_few n d (Y.AreaLeaf x) = omega arith
type_few n d (Y.CharacterLeaf x) = omega arith
type_few n d (Y.VaryingLeaf x) = omega arith
type_few n d (Y.FixedLeaf p) = omega arith
type_few n d Y.BitLeaf = omega arith
type_few n d Y.PointerLeaf = omega arith
type_few n d (Y.OffsetLeaf area) = omega arith

leaf_few : (n : ℕ) (d : Y.DeclaredVariable) (bs : List Y.Bounds) (type : Y.LeafType)
    → length (N.copied_leaf n d bs type) ≤ 1
leaf_few n d [] type = type_few n d type
leaf_few n d (b ∷ bs) type = omega arith

leaves_few : (n : ℕ) (d : Y.DeclaredVariable) (ls : List Y.Leaf) → length (N.copied_leaves n d ls) ≤ 1
leaves_few n d [] = omega arith
leaves_few n d (l ∷ []) = leaf_few n d l.bounds l.type
leaves_few n d (l ∷ m ∷ ls) = omega arith

declared_few : (n : ℕ) (o : Option Y.DeclaredVariable) → length (N.copied_declared n o) ≤ 1
declared_few n None = omega arith
declared_few n (Some d) = leaves_few n d d.leaves

copies_few : (ds : List Y.DeclaredVariable) (n : ℕ) (ps : List ℕ) → length (N.copied_parameters ds n ps) ≤ length ps
copies_few ds n [] = omega arith
copies_few ds n (p ∷ ps) =
    let one = declared_few n (slice_get ds p) in
    let more = copies_few ds (suc n) ps in
    let all = length-append (N.copied_declared n (slice_get ds p)) (N.copied_parameters ds (suc n) ps) in
    omega (arith, one, more, all)

arguments_most : (e : Environment) (ps : List ℕ) → size_of (N.arguments_copied e ps) ≤ 61 * length ps
arguments_most e ps =
    let few = copies_few (variables_of_block e.program e.block) 0 ps in
    let all = both (N.copies_made e (N.copies_of e ps)) _ (copies_most e (N.copies_of e ps))
    (texts_most (N.copies_of e ps)) in
    omega (arith, all, few)

given_most : (e : Environment) (level : ℕ) (ps : List ℕ)
    → size_of (N.list_kept level ps) + size_of (N.arguments_copied e ps) ≤ parameters_size ps
given_most e level [] = omega arith
given_most e level (p ∷ ps) =
    let kept = list_kept_most level (p ∷ ps) in
    let all = arguments_most e (p ∷ ps) in
    omega (arith, kept, all)

-- ---- procedures

reached_most : (e : Environment) (head : Y.BlockHead) (type : Option Y.LeafType)
    → size_of (R.end_reached e head type) ≤ 8
reached_most e head None = none
reached_most e head (Some type) =
    one_of (R.is_main e.program head.number) _ _ (omega arith)
    (both (number a0 head.line) _ (number_most a0 head.line) {n = 6} (omega arith))

left_most : (type : Option Y.LeafType) → size_of (R.left_with type) ≤ 4
left_most None = omega arith
left_most (Some (Y.CharacterLeaf x)) = omega arith
left_most (Some (Y.VaryingLeaf x)) = omega arith
left_most (Some Y.PointerLeaf) = omega arith
left_most (Some (Y.FixedLeaf p)) = omega arith
left_most (Some Y.BitLeaf) = omega arith
left_most (Some (Y.OffsetLeaf area)) = omega arith
left_most (Some (Y.AreaLeaf x)) = omega arith

ended_most : (e : Environment) (head : Y.BlockHead) (words held : ℕ) (type : Option Y.LeafType) → held ≤ 7
    → size_of (R.procedure_ended e head words held type) ≤ 39
ended_most e head words held type few =
    let left = both (R.left_with type) (R.frame_returned words held) (left_most type)
    (frame_returned_most words held few) in
    both (R.end_reached e head type) _ (reached_most e head type) {n = 31} (omega (arith, left))

block_entered_most : (kind line : ℕ) → size_of (N.block_entered kind line) ≤ 6
block_entered_most kind line =
    let m = both (number a2 line) (service 4) (number_most a2 line) {n = 2} (omega arith) in omega (arith, m)

procedure_begun_most : (e : Environment) (head : Y.BlockHead) (words held : ℕ) (ps : List ℕ) → held ≤ 7
    → size_of (R.procedure_begun e head words held ps)
    ≤ (display_size head.level + 49)
    + (parameters_size ps + variables_size (variables_of_block e.program e.block))
procedure_begun_most e head words held ps few =
    let given = given_most e head.level ps in
    let made : Code = N.variables_code e head.line ++ A.act_code head.line in
    let inside : Code = N.block_entered 0 head.line ++ (N.arguments_copied e ps ++ made) in
    let variables = both (N.variables_code e head.line) (A.act_code head.line)
    (variables_most e head.line 0 (variables_of_block e.program e.block)) (act_most head.line) in
    let behind = both (N.block_entered 0 head.line) (N.arguments_copied e ps ++ made) (block_entered_most 0 head.line)
    (both (N.arguments_copied e ps) made {m = size_of (N.arguments_copied e ps)} (omega arith) variables) in
    let kept = both (N.list_kept head.level ps) (move a3 a2 ∷ inside) {m = size_of (N.list_kept head.level ps)}
    (omega arith) {n = 7 + (size_of (N.arguments_copied e ps)
    + (variables_size (variables_of_block e.program e.block) + 5))} (omega (arith, behind)) in
    let all = both (N.frame_begun words head.level (length ps) (Some held))
    (move u5 a1 ∷ (N.list_kept head.level ps ++ (move a3 a2 ∷ inside)))
    (begun_most words head.level (length ps) (Some held)) {n = 1 + (size_of (N.list_kept head.level ps)
    + (7 + (size_of (N.arguments_copied e ps) + (variables_size (variables_of_block e.program e.block) + 5))))}
    (omega (arith, kept)) in
    omega (arith, all, given, few)

body_most : (e : Environment) (head : Y.BlockHead) (body : Y.Stmts) (words held : ℕ) (ps : List ℕ)
    (type : Option Y.LeafType) → held ≤ 7
    → size_of (R.procedure_with e head body words held ps type)
    ≤ (variables_size (variables_of_block e.program e.block) + (display_size head.level + 18))
    + (stmts_size e.program body + 70) + parameters_size ps
body_most e head body words held ps type few =
    let all = both (R.procedure_begun e head words held ps) _ (procedure_begun_most e head words held ps few)
    (both (G.stmts_code e none_taken body) _ (stmts_sized e none_taken body) (ended_most e head words held type few)) in
    omega (arith, all)

procedure_most : (e : Environment) (p : Y.Procedure)
    → size_of (R.procedure_of_block e p.block p.parameters p.result) ≤ procedure_size e.program p
procedure_most e p = by p.block where
  by : (b : Y.Block) → size_of (R.procedure_of_block e b p.parameters p.result)
      ≤ procedure_size e.program (record p { block = b })
  by (Y.BlockOf head body) =
      let inside = R.procedure_environment head e in
      body_most inside head body (G.block_words inside head.number body)
      (G.block_held inside head.number body) p.parameters p.result (few_held _)

procedures_most : (e : Environment) (ps : List Y.Procedure)
    → size_of (R.procedures_code e ps) ≤ procedures_size e.program ps
procedures_most e [] = none
procedures_most e (p ∷ ps) =
    both (R.procedure_of_block e p.block p.parameters p.result) _ (procedure_most e p) (procedures_most e ps)

-- ---- the whole

code_most : (parts : MemoryParts) (p : Y.Program) → size_of (M.code_of parts p) ≤ program_size p
code_most parts p =
    let e = M.environment_of parts p in
    both (M.start_code e) _ (starts_most e)
    (both M.raise_code (R.routines_code e e.blocks ++ R.procedures_code e p.procedures) raise_most
    (both (R.routines_code e e.blocks) _ (routines_most e e.blocks) (procedures_most e p.procedures)))

-- instructions are as many as words
words_many : (links : Links) (at : ℕ) (code : Code) → length (linked links at code) ≡ size_of code
words_many links at [] = refl
words_many links at (Plain i ∷ is) = let m = words_many links (at + 4) is in omega (arith, m)
words_many links at (BaseIn r ∷ is) = let m = words_many links (at + 8) is in omega (arith, m)
words_many links at (OffsetOf r s ∷ is) = let m = words_many links (at + 8) is in omega (arith, m)
words_many links at (OffsetAhead r n ∷ is) = let m = words_many links (at + 8) is in omega (arith, m)
words_many links at (JumpTo s ∷ is) = let m = words_many links (at + 8) is in omega (arith, m)
words_many links at (CallTo s ∷ is) = let m = words_many links (at + 8) is in omega (arith, m)
words_many links at (JumpAhead n ∷ is) = let m = words_many links (at + 8) is in omega (arith, m)
words_many links at (JumpBack n ∷ is) = let m = words_many links (at + 8) is in omega (arith, m)
words_many links at (Mark s ∷ is) = let m = words_many links (at + 0) is in omega (arith, m)

programs_most : (parts : MemoryParts) (p : Y.Program) → length (M.picture_of parts p).code ≤ program_size p
programs_most parts p =
    let code = code_most parts p in
    let words = words_many (links_of (M.code_of parts p)) 0 (M.code_of parts p) in
    omega (arith, code, words)

pub programs_sized : AllProgramsSized
programs_sized = (procedures_most, programs_most)
