-- The code of PUT marks no symbols.
use Rattle.std.proofs.Common.{ℕ, List, [], ◌∷◌, ◌++◌, Some, Bool, true, false, refl}
use Rattle.std.specs.Prelude.{pos, cond, ◌&&◌}
use Rattle.rv_meaning.specs.declared.instr.BranchTest.TheVariants as Test
use Rattle.pli_language.specs.Tree as T
use Rattle.pli_typing.specs.TypedTree as Y
use Rattle.pli_coding.specs.Registers.{a0, a1, u1}
use Rattle.pli_coding.specs.Assembly.{JumpAhead, Code, size_of}
use Rattle.pli_coding.specs.Instructions.{small, number, choice, service}
use Rattle.pli_coding.specs.Environments.{Environment, Taken, save, fetch}
use Rattle.pli_coding.specs.Expressions.{number_code, text_code, bit_code}
use Rattle.pli_coding.specs.Streams.{has_fixed, has_text, number_written, text_written, number_put, text_put, as_text, item_put, items_put, edit_ended, put_pair, put_pairs, skip_option}
use Rattle.pli_headline.specs.ProvedSoFar.{Names, Types, IsProvedItem, AreProvedItems, AreProvedPairs}
use Rattle.pli_headline.proofs.EditConversions.{text_by_fixed}
use Rattle.pli_headline.proofs.SymbolsMarked.{Marks, behind, constant_none, saved_none, fetched_none}
use Rattle.pli_headline.proofs.Variables.{HasTypes}
use Rattle.pli_headline.proofs.ExpressionMarks.{number_none, bit_none, text_none}

-- ---- PUT

pub chosen_none : (f w : Bool) (fixed text : Code) → Marks fixed [] → Marks text [] → Marks (cond (f && w) (small u1 1 ∷ choice Test.Equal a0 u1 fixed text) (cond f fixed text)) []
chosen_none true true fixed text h k =
    behind (text ++ JumpAhead (size_of fixed) ∷ []) fixed [] (behind text (JumpAhead (size_of fixed) ∷ []) [] k refl) h
chosen_none true false fixed text h k = h
chosen_none false true fixed text h k = k
chosen_none false false fixed text h k = k

put_none : (t : Taken) (formats : T.Formats) (precision : ℕ) → Marks (number_put t formats (as_text precision)) []
put_none t formats precision =
    let fixed = fetch a0 t ++ number_written in
    let text = fetch a0 t ++ (as_text precision ++ text_written) in
    chosen_none (has_fixed formats) (has_text formats) fixed text (behind (fetch a0 t) number_written [] (fetched_none a0 t) refl) (behind (fetch a0 t) (as_text precision ++ text_written) [] (fetched_none a0 t) refl)

item_none : (e : Environment) (t : Taken) (block : Names) (types : Types) (formats : T.Formats) (i : Y.PutItem) → HasTypes e block types → IsProvedItem block types i → Marks (item_put e t formats i) []
item_none e t block types formats (Y.PutValue (Y.NumberValue precision x)) has is =
    let put = number_put t formats (as_text precision) in
    behind (number_code e t x) (save a0 t ++ put) [] (number_none e t block types x has is)
    (behind (save a0 t) put [] (saved_none a0 t) (put_none t formats precision))
item_none e t block types formats (Y.PutValue (Y.BitValue x)) has is =
    let put = number_put t formats (as_text 0) in
    behind (bit_code e t x) (save a0 t ++ put) [] (bit_none e t block types x has is)
    (behind (save a0 t) put [] (saved_none a0 t) (put_none t formats 0))
item_none e t block types formats (Y.PutValue (Y.TextValue x)) has is =
    behind (text_code e t x) (text_put formats) [] (text_none e t block types x has is) (chosen_none (has_fixed formats) (has_text formats) text_by_fixed text_written refl refl)
item_none e t block types formats _ has is = absurd is

items_none : (e : Environment) (t : Taken) (block : Names) (types : Types) (formats : T.Formats) (is : List Y.PutItem) → HasTypes e block types → AreProvedItems block types is → Marks (items_put e t formats is) []
items_none e t block types formats [] has are = refl
items_none e t block types formats (i ∷ is) has are =
    behind (item_put e t formats i) (items_put e t formats is) [] (item_none e t block types formats i has are.0) (items_none e t block types formats is has are.1)

pub pairs_none : (e : Environment) (t : Taken) (block : Names) (types : Types) (ps : List Y.PutPair) → HasTypes e block types → AreProvedPairs block types ps → Marks (put_pairs e t ps) []
pairs_none e t block types [] has are = refl
pairs_none e t block types (p ∷ ps) has are =
    let items = items_put e t p.formats p.items in
    let first : Marks (put_pair e t p) [] = behind items edit_ended [] (items_none e t block types p.formats p.items has are.0) refl in
    behind (put_pair e t p) (put_pairs e t ps) [] first (pairs_none e t block types ps has are.1.1)

pub skip_none : (n : ℕ) → Marks (skip_option 1 (Some n)) []
skip_none n = behind (number a0 n) (small a1 1 ∷ service 39) [] (constant_none a0 (pos n)) refl
