-- The code of expressions and assignments marks no symbols.
use Rattle.std.proofs.Common.{◌≡◌, ℕ, [], ◌∷◌, ◌++◌, length, Bool, true, false, refl, ap, ◌∙◌, inl, inr, sym, subst}
use Rattle.std.proofs.Common.{List, map}
use Rattle.std.specs.Prelude.{pos, cond, ◌==◌}
use Rattle.rv_meaning.specs.declared.instr.ImmediateOp.TheVariants as Imm
use Rattle.rv_meaning.specs.declared.instr.RegisterOp.TheVariants as Op
use Rattle.rv_meaning.specs.declared.instr.ShiftOp.TheVariants as Shift
use Rattle.pli_typing.specs.TypedTree as Y
use Rattle.pli_meaning.specs.Numbers.{is_of_precision}
use Rattle.pli_meaning.specs.Evaluating as V
use Rattle.pli_coding.specs.Registers.{frame_register, a0, a1, a2, u1, u3, u2, u4}
use Rattle.pli_coding.specs.Assembly.{Code}
use Rattle.pli_coding.specs.Instructions.{is_immediate, small, number, load_word, move, service, tested_service, constant, subtract, immediate, shift, registers, add}
use Rattle.pli_coding.specs.Frames.{display}
use Rattle.pli_coding.specs.Environments.{Environment, Taken, with_number, save, fetch}
use Rattle.pli_coding.specs.Arithmetic.{calculated_code, fitted_code, divided_code, signed_code, absolute_code, count_checked, sign_code, modulo_code, extreme_code, negated_code, combined_code, compared_code}
use Rattle.pli_coding.specs.Locating.{frame_found, address_offset, frame_in, times_constant, subscripts_counted}
use Rattle.pli_coding.specs.Expressions.{number_code, extremes_code, text_code, bit_code, subscripts_code, BoundAsked}
use Rattle.pli_coding.specs.Expressions.{LowerAsked, UpperAsked, ElementsAsked}
use Rattle.pli_coding.specs.Streams.{as_text}
use Rattle.pli_coding.specs.Storing.{word_stored, top_stored}
use Rattle.pli_headline.specs.ProvedSoFar.{Names, Types, IsOwn, IsProvedNumber, AreProvedNumbers, IsProvedBit, IsProvedText, text_leaf, alone, IsPart, IsPartNumber, IsAssigned, AreSubscripts, Kind, IsDimension, IsPartText, IsAssignedText, constant_bounds}
use Rattle.pli_headline.proofs.Scalars.{IsNumeric}
use Rattle.run_steps.specs.Reaching.{found_by, register_by}
use Rattle.pli_headline.proofs.TextPlaces.{text_mode, kind_asked, text_asked}
use Rattle.pli_headline.proofs.TextVariables.{text_loaded, text_kept}
use Rattle.pli_headline.proofs.Variables.{own, whole, data_place, base_found, scalar_loaded, scalar_stored}
use Rattle.pli_headline.proofs.Variables.{number_loaded, bit_loaded, scalar_stored_is, HasTypes, subscripts_in}
use Rattle.pli_headline.proofs.Variables.{level_of}
use Rattle.pli_headline.proofs.SymbolsMarked.{symbols_marked, Marks, behind, either, constant_none, load_none, plus_none, saved_none, fetched_none, overflow_none, calculated_none, fitted_none, divided_none, sign_none, extreme_none, combined_none, compared_none}
use Rattle.pli_headline.proofs.ArrayMarks.{next_none, part_none, kept_element_none, dimensions_none}
use Rattle.pli_headline.proofs.ArrayDimensions.{asked_number, checked_if, answer_code, answer_is}
use Rattle.pli_typing.specs.Signatures.{Bounds}
use Rattle.pli_headline.proofs.TextArraysStay.{text_stride}
use Rattle.pli_headline.proofs.TextElements.{strides_added, text_found, text_element_code, element_asked, text_element_pushed, text_element_kept}
use Rattle.pli_headline.proofs.ArrayFrames.{held_constant}

base_none : (e : Environment) (level : ℕ) → Marks (base_found e level) []
base_none e level =
    behind (frame_found e level u3) [] [] (either (level == e.level) [] (load_word u3 frame_register (display level)) refl (load_none u3 frame_register (display level))) refl

loaded_none : (type : Y.LeafType) (e : Environment) (level place : ℕ) → Marks (scalar_loaded type e level place) []
loaded_none type e level place = behind (base_found e level) _ [] (base_none e level) (either (is_immediate (pos place)) _ _ refl refl)

kept_none : (type : Y.LeafType) (e : Environment) (level place : ℕ) → Marks (scalar_stored type e level place) []
kept_none type e level place = either (is_immediate (pos place)) _ _ refl refl

pub reference_none : (e : Environment) (t : Taken) (block : Names) (types : Types) (p : ℕ) (r : Y.Reference) → HasTypes e block types → IsOwn block types (Y.FixedLeaf p) r → Marks (number_code e t (Y.NumberIn r)) []
reference_none e t block types p r has is =
    let place = data_place e block is.index in
    let same : number_code e t (Y.NumberIn r) ≡ scalar_loaded (Y.FixedLeaf p) e (level_of block is.index) place =
    ap (λ q. number_code e t (Y.NumberIn q)) is.is ∙ number_loaded e t block is.index p (has is.index (alone (Y.FixedLeaf p)) is.declared) in
    ap symbols_marked same ∙ loaded_none (Y.FixedLeaf p) e (level_of block is.index) place

-- what asks a service about a text
kind_none : (n : ℕ) (varying : Bool) (most : ℕ) → Marks (kind_asked n varying most) []
kind_none n varying most =
    behind (number a1 most ++ small a2 (text_mode varying) ∷ []) (service n) [] (behind (number a1 most) (small a2 (text_mode varying) ∷ []) [] (constant_none a1 (pos most)) refl) refl

-- a text of a variable
asked_none : (q : Bool) (level n : ℕ) (varying : Bool) (most place : ℕ) → Marks (text_asked q level n varying most place) []
asked_none q level n varying most place =
    let offset = address_offset (record { register = register_by q; displacement = pos place }) in
    behind (found_by q level) (offset ++ kind_asked n varying most) []
    (behind (cond q [] (load_word u3 frame_register (display level))) [] [] (either q [] (load_word u3 frame_register (display level)) refl (load_none u3 frame_register (display level))) refl)
    (behind offset (kind_asked n varying most) [] (plus_none a0 a0 (pos place)) (kind_none n varying most))

text_reference_none : (e : Environment) (t : Taken) (block : Names) (types : Types) (varying : Bool) (most : ℕ) (r : Y.Reference) → HasTypes e block types → IsOwn block types (text_leaf varying most) r → Marks (text_code e t (Y.TextIn r)) []
text_reference_none e t block types varying most r has is =
    let j = is.index in
    let same : text_code e t (Y.TextIn r) ≡ text_asked (level_of block j == e.level) (level_of block j) 20 varying most (data_place e block j) =
    ap (λ q. text_code e t (Y.TextIn q)) is.is ∙ text_loaded varying e t block j most (has j (alone (text_leaf varying most)) is.declared) in
    ap symbols_marked same ∙ asked_none (level_of block j == e.level) (level_of block j) 20 varying most (data_place e block j)

bit_reference_none : (e : Environment) (t : Taken) (block : Names) (types : Types) (r : Y.Reference) → HasTypes e block types → IsOwn block types Y.BitLeaf r → Marks (bit_code e t (Y.BitIn r)) []
bit_reference_none e t block types r has is =
    let place = data_place e block is.index in
    let same : bit_code e t (Y.BitIn r) ≡ scalar_loaded Y.BitLeaf e (level_of block is.index) place =
    ap (λ q. bit_code e t (Y.BitIn q)) is.is ∙ bit_loaded e t block is.index (has is.index (alone Y.BitLeaf) is.declared) in
    ap symbols_marked same ∙ loaded_none Y.BitLeaf e (level_of block is.index) place

-- an element, or a variable
number_part_none : (e : Environment) (t : Taken) (block : Names) (types : Types) (r : Y.Reference) → HasTypes e block types → IsPartNumber block types r → Marks (subscripts_code e t (subscripts_in r)) [] → Marks (number_code e t (Y.NumberIn r)) []
number_part_none e t block types r has is none = by_part is.part
  where
    by_part : IsPart block types (Y.FixedLeaf is.precision) r → Marks (number_code e t (Y.NumberIn r)) []
    by_part (inl o) = reference_none e t block types is.precision r has o
    by_part (inr o) =
        let type = Y.FixedLeaf is.precision in
        let kind : Kind = record { type = type; bounds = o.bound ∷ o.bounds } in
        let none' = subst (λ q. Marks (subscripts_code e t (subscripts_in q)) []) o.is none in
        subst (λ q. Marks (number_code e t (Y.NumberIn q)) []) (sym o.is) (part_none e t block o.index type (o.bound ∷ o.bounds) o.first o.rest tt (has o.index kind o.declared) none')

bit_part_none : (e : Environment) (t : Taken) (block : Names) (types : Types) (r : Y.Reference) → HasTypes e block types → IsPart block types Y.BitLeaf r → Marks (subscripts_code e t (subscripts_in r)) [] → Marks (bit_code e t (Y.BitIn r)) []
bit_part_none e t block types r has (inl o) none = bit_reference_none e t block types r has o
bit_part_none e t block types r has (inr o) none =
    let kind : Kind = record { type = Y.BitLeaf; bounds = o.bound ∷ o.bounds } in
    let none' = subst (λ q. Marks (subscripts_code e t (subscripts_in q)) []) o.is none in
    subst (λ q. Marks (bit_code e t (Y.BitIn q)) []) (sym o.is) (part_none e t block o.index Y.BitLeaf (o.bound ∷ o.bounds) o.first o.rest tt (has o.index kind o.declared) none')

-- the address of an element that holds a text
strides_none : (n : ℕ) → Marks (times_constant n) []
strides_none n =
    either (n == 4) (shift Shift.Left u4 u1 2 ∷ []) (number u2 n ++ registers Op.Multiply u4 u1 u2 ∷ []) refl
    (behind (number u2 n) (registers Op.Multiply u4 u1 u2 ∷ []) [] (constant_none u2 (pos n)) refl)

text_found_none : (e : Environment) (level : ℕ) (varying : Bool) (most : ℕ) → Marks (text_found e level varying most) []
text_found_none e level varying most =
    behind (frame_found e level u3) (strides_added varying most (frame_in e level u3)) [] (either (level == e.level) [] (load_word u3 frame_register (display level)) refl (load_none u3 frame_register (display level)))
    (behind (times_constant (text_stride varying most)) (add u3 (frame_in e level u3) u4 ∷ []) [] (strides_none (text_stride varying most)) refl)

-- what asks about it
text_element_none : (e : Environment) (t : Taken) (block : Names) (j n : ℕ) (varying : Bool) (most : ℕ) (bs : List Bounds) (first : Y.Number) (rest : Y.Numbers) → Marks (subscripts_code e t (Y.NumberThen first rest)) [] → Marks (text_element_code e t (level_of block j) varying most bs first rest ++ element_asked n (data_place e block j) varying most) []
text_element_none e t block j n varying most bs first rest none =
    let level = level_of block j in
    let place = data_place e block j in
    let xs = Y.NumberThen first rest in
    let counted = subscripts_counted e t 0 xs (map constant_bounds bs) in
    let offset = address_offset (record { register = u3; displacement = pos place }) in
    behind (text_element_code e t level varying most bs first rest) (element_asked n place varying most) []
    (behind (subscripts_code e t (Y.NumberThen first rest)) (counted ++ text_found e level varying most) [] none
    (behind counted (text_found e level varying most) [] (dimensions_none e t 0 xs bs)
    (text_found_none e level varying most)))
    (behind offset (kind_asked n varying most) [] (plus_none a0 a0 (pos place)) (kind_none n varying most))

text_part_none : (e : Environment) (t : Taken) (block : Names) (types : Types) (r : Y.Reference) → HasTypes e block types → IsPartText block types r → Marks (subscripts_code e t (subscripts_in r)) [] → Marks (text_code e t (Y.TextIn r)) []
text_part_none e t block types r has is none = by_part is.part
  where
    by_part : IsPart block types (text_leaf is.varying is.most) r → Marks (text_code e t (Y.TextIn r)) []
    by_part (inl o) = text_reference_none e t block types is.varying is.most r has o
    by_part (inr o) =
        let kind : Kind = record { type = text_leaf is.varying is.most; bounds = o.bound ∷ o.bounds } in
        let none' = subst (λ q. Marks (subscripts_code e t (subscripts_in q)) []) o.is none in
        subst (λ q. Marks (text_code e t (Y.TextIn q)) []) (sym o.is)
        (subst (λ c. Marks c []) (sym (text_element_pushed e t block o.index is.varying is.most (o.bound ∷ o.bounds) o.first o.rest (has o.index kind o.declared)))
        (text_element_none e t block o.index 20 is.varying is.most (o.bound ∷ o.bounds) o.first o.rest none'))

-- a bound, or the number of subscripts
answer_none : (t : Taken) (asked : BoundAsked) (b : Bounds) → Marks (answer_code t asked b) []
answer_none t LowerAsked b = constant_none a0 b.lower
answer_none t UpperAsked b = constant_none a0 b.upper
answer_none t ElementsAsked b =
    let q = is_of_precision 31 (V.elements_between b) in
    let last = subtract a0 a0 u1 ∷ immediate Imm.Add a0 a0 (pos 1) ∷ checked_if q t in
    behind (constant a0 b.upper) (constant u1 b.lower ++ last) [] (constant_none a0 b.upper)
    (behind (constant u1 b.lower) last [] (constant_none u1 b.lower) (either q [] (count_checked t) refl (overflow_none t)))

dimension_none : (e : Environment) (t : Taken) (block : Names) (types : Types) (asked : BoundAsked) (r : Y.Reference) (dimension : ℕ) → HasTypes e block types → IsDimension block types r dimension → Marks (number_code e t (asked_number asked r dimension)) []
dimension_none e t block types asked r dimension has is =
    let kind : Kind = record { type = is.type; bounds = is.bound ∷ is.bounds } in
    let same : number_code e t (asked_number asked r dimension) ≡ answer_code t asked is.asked =
    ap (λ q. number_code e t (asked_number asked q dimension)) is.is
    ∙ ap (λ n. number_code e t (asked_number asked (whole (own block is.index)) n)) is.dimension_is
    ∙ answer_is asked e t block is.index is.type (is.bound ∷ is.bounds) is.place is.asked (held_constant is.type is.held (is.bound ∷ is.bounds) []) (has is.index kind is.declared) is.among in
    ap symbols_marked same ∙ answer_none t asked is.asked

-- two operands, the first of which waits
operands_none : (a c last : Code) (t : Taken) → Marks a [] → Marks c [] → Marks last [] → Marks (a ++ (save a0 t ++ (c ++ (fetch u1 t ++ last)))) []
operands_none a c last t h k m =
    behind a (save a0 t ++ (c ++ (fetch u1 t ++ last))) [] h
    (behind (save a0 t) (c ++ (fetch u1 t ++ last)) [] (saved_none a0 t)
    (behind c (fetch u1 t ++ last) [] k (behind (fetch u1 t) last [] (fetched_none u1 t) m)))

-- two texts, one above the other
texts_none : (a c last : Code) → Marks a [] → Marks c [] → Marks last [] → Marks (a ++ (c ++ last)) []
texts_none a c last h k m = behind a (c ++ last) [] h (behind c last [] k m)

mutual
  pub number_none : (e : Environment) (t : Taken) (block : Names) (types : Types) (x : Y.Number) → HasTypes e block types → IsProvedNumber block types x → Marks (number_code e t x) []
  number_none e t block types (Y.NumberConstant n) has is = constant_none a0 (pos n)
  number_none e t block types (Y.NumberIn (Y.Referring v locator part subscripts)) has is =
      number_part_none e t block types (Y.Referring v locator part subscripts) has is.0 (subscripts_none e t block types subscripts has is.1)
  number_none e t block types (Y.NumberOfBit x) has is = bit_none e t block types x has is
  number_none e t block types (Y.Signed sign x) has is =
      behind (number_code e t x) (signed_code t sign) [] (number_none e t block types x has is) (sign_none t sign)
  number_none e t block types (Y.Calculated operator left right) has is =
      operands_none (number_code e t left) (number_code e (with_number t) right) (calculated_code t operator) t
      (number_none e t block types left has is.0) (number_none e (with_number t) block types right has is.1) (calculated_none t operator)
  number_none e t block types (Y.Absolute x) has is =
      behind (number_code e t x) (absolute_code t) [] (number_none e t block types x has is) (overflow_none t)
  number_none e t block types (Y.SignOf x) has is =
      behind (number_code e t x) sign_code [] (number_none e t block types x has is) refl
  number_none e t block types (Y.Extreme extremum first more) has is =
      behind (number_code e t first) (extremes_code e t extremum more) [] (number_none e t block types first has is.0) (numbers_none e t block types extremum more has is.1)
  number_none e t block types (Y.Modulo dividend divisor) has is =
      operands_none (number_code e t dividend) (number_code e (with_number t) divisor) modulo_code t
      (number_none e t block types dividend has is.0) (number_none e (with_number t) block types divisor has is.1) refl
  number_none e t block types (Y.Divided precision dividend divisor) has is =
      operands_none (number_code e t dividend) (number_code e (with_number t) divisor) (divided_code t precision) t
      (number_none e t block types dividend has is.1.0) (number_none e (with_number t) block types divisor has is.1.1) (divided_none t precision)
  number_none e t block types (Y.NumberOfText x) has is =
      behind (text_code e t x) (small a0 0 ∷ tested_service 26) [] (text_none e t block types x has is) refl
  number_none e t block types (Y.LengthOf x) has is =
      behind (text_code e t x) (small a2 3 ∷ service 27) [] (text_none e t block types x has is) refl
  number_none e t block types (Y.IndexOf searched sought) has is =
      texts_none (text_code e t searched) (text_code e t sought) (small a0 0 ∷ service 25) (text_none e t block types searched has is.0) (text_none e t block types sought has is.1) refl
  number_none e t block types (Y.VerifyOf searched allowed) has is =
      texts_none (text_code e t searched) (text_code e t allowed) (small a0 1 ∷ service 25) (text_none e t block types searched has is.0) (text_none e t block types allowed has is.1) refl
  number_none e t block types (Y.LowerBound r dimension) has is = dimension_none e t block types LowerAsked r dimension has is
  number_none e t block types (Y.UpperBound r dimension) has is = dimension_none e t block types UpperAsked r dimension has is
  number_none e t block types (Y.ElementsOf r dimension) has is = dimension_none e t block types ElementsAsked r dimension has is
  number_none e t block types Y.OnCode has is = refl
  number_none e t block types _ has is = absurd is

  numbers_none : (e : Environment) (t : Taken) (block : Names) (types : Types) (extremum : Y.Extremum) (xs : Y.Numbers) → HasTypes e block types → AreProvedNumbers block types xs → Marks (extremes_code e t extremum xs) []
  numbers_none e t block types extremum Y.NoNumber has are = refl
  numbers_none e t block types extremum (Y.NumberThen first rest) has are =
      let c = number_code e (with_number t) first in
      let further = extreme_code extremum in
      let more = extremes_code e t extremum rest in
      behind (save a0 t) (c ++ (fetch u1 t ++ (further ++ more))) [] (saved_none a0 t)
      (behind c (fetch u1 t ++ (further ++ more)) [] (number_none e (with_number t) block types first has are.0)
      (behind (fetch u1 t) (further ++ more) [] (fetched_none u1 t)
      (behind further more [] (extreme_none extremum) (numbers_none e t block types extremum rest has are.1))))

  pub subscripts_none : (e : Environment) (t : Taken) (block : Names) (types : Types) (xs : Y.Numbers) → HasTypes e block types → AreProvedNumbers block types xs → Marks (subscripts_code e t xs) []
  subscripts_none e t block types Y.NoNumber has are = refl
  subscripts_none e t block types (Y.NumberThen first rest) has are =
      next_none e t first rest (number_none e t block types first has are.0) (subscripts_none e (with_number t) block types rest has are.1)

  pub bit_none : (e : Environment) (t : Taken) (block : Names) (types : Types) (x : Y.Bit) → HasTypes e block types → IsProvedBit block types x → Marks (bit_code e t x) []
  bit_none e t block types (Y.BitConstant true) has is = refl
  bit_none e t block types (Y.BitConstant false) has is = refl
  bit_none e t block types (Y.BitIn (Y.Referring v locator part subscripts)) has is =
      bit_part_none e t block types (Y.Referring v locator part subscripts) has is.0 (subscripts_none e t block types subscripts has is.1)
  bit_none e t block types (Y.Negated x) has is =
      behind (bit_code e t x) (negated_code ∷ []) [] (bit_none e t block types x has is) refl
  bit_none e t block types (Y.Combined operator left right) has is =
      operands_none (bit_code e t left) (bit_code e (with_number t) right) (combined_code operator ∷ []) t
      (bit_none e t block types left has is.0) (bit_none e (with_number t) block types right has is.1) (combined_none operator)
  bit_none e t block types (Y.NumbersCompared comparison left right) has is =
      operands_none (number_code e t left) (number_code e (with_number t) right) (compared_code comparison) t
      (number_none e t block types left has is.0) (number_none e (with_number t) block types right has is.1) (compared_none comparison)
  bit_none e t block types (Y.BitsCompared comparison left right) has is =
      operands_none (bit_code e t left) (bit_code e (with_number t) right) (compared_code comparison) t
      (bit_none e t block types left has is.0) (bit_none e (with_number t) block types right has is.1) (compared_none comparison)
  bit_none e t block types (Y.BitOfText x) has is =
      behind (text_code e t x) (small a0 1 ∷ tested_service 26) [] (text_none e t block types x has is) refl
  bit_none e t block types (Y.TextsCompared comparison left right) has is =
      let moves = move u1 a0 ∷ small a0 0 ∷ [] in
      texts_none (text_code e t left) (text_code e t right) (service 24 ++ (moves ++ compared_code comparison)) (text_none e t block types left has is.0) (text_none e t block types right has is.1)
      (behind (service 24) (moves ++ compared_code comparison) [] refl (behind moves (compared_code comparison) [] refl (compared_none comparison)))
  bit_none e t block types _ has is = absurd is

  pub text_none : (e : Environment) (t : Taken) (block : Names) (types : Types) (x : Y.Text) → HasTypes e block types → IsProvedText block types x → Marks (text_code e t x) []
  text_none e t block types (Y.TextConstant bytes) has is =
      behind (number a1 (length bytes)) (small a2 0 ∷ service 20) [] (constant_none a1 (pos (length bytes))) refl
  text_none e t block types (Y.TextIn (Y.Referring v locator part subscripts)) has is =
      text_part_none e t block types (Y.Referring v locator part subscripts) has is.0 (subscripts_none e t block types subscripts has is.1)
  text_none e t block types (Y.TextOfNumber precision x) has is =
      behind (number_code e t x) (as_text precision) [] (number_none e t block types x has is.1) refl
  text_none e t block types (Y.TextOfBit x) has is =
      behind (bit_code e t x) (as_text 0) [] (bit_none e t block types x has is) refl
  text_none e t block types (Y.Joined left right) has is =
      let c = text_code e t right in
      behind (text_code e t left) (c ++ tested_service 22) [] (text_none e t block types left has is.0)
      (behind c (tested_service 22) [] (text_none e t block types right has is.1) refl)
  text_none e t block types (Y.SubstringFrom x start) has is =
      let cut = small a2 0 ∷ tested_service 23 in
      let c = number_code e t start in
      behind (text_code e t x) (c ++ cut) [] (text_none e t block types x has is.0)
      (behind c cut [] (number_none e t block types start has is.1) refl)
  text_none e t block types (Y.Substring x start many) has is =
      let cut = small a2 1 ∷ tested_service 23 in
      let last = move a1 a0 ∷ (fetch a0 t ++ cut) in
      let c = number_code e t start in
      let d = number_code e (with_number t) many in
      behind (text_code e t x) (c ++ (save a0 t ++ (d ++ last))) [] (text_none e t block types x has is.0)
      (behind c (save a0 t ++ (d ++ last)) [] (number_none e t block types start has is.1.0)
      (behind (save a0 t) (d ++ last) [] (saved_none a0 t)
      (behind d last [] (number_none e (with_number t) block types many has is.1.1) (behind (fetch a0 t) cut [] (fetched_none a0 t) refl))))
  text_none e t block types _ has is = absurd is

-- ---- assignments

pub target_none : (e : Environment) (t : Taken) (block : Names) (types : Types) (type : Y.LeafType) (r : Y.Reference) → IsNumeric type → HasTypes e block types → IsOwn block types type r → Marks (word_stored e t r) []
target_none e t block types type r numeric has is =
    let d = has is.index (alone type) is.declared in
    let place = data_place e block is.index in
    let into = scalar_stored type e (level_of block is.index) place in
    let same : word_stored e t r ≡ base_found e (level_of block is.index) ++ into =
    ap (λ q. word_stored e t q) is.is ∙ scalar_stored_is e t block is.index type numeric d in
    ap symbols_marked same
    ∙ behind (base_found e (level_of block is.index)) into [] (base_none e (level_of block is.index))
    (kept_none type e (level_of block is.index) place)

-- what is assigned to
pub assigned_none : (e : Environment) (t : Taken) (block : Names) (types : Types) (type : Y.LeafType) (r : Y.Reference) → IsNumeric type → HasTypes e block types → IsAssigned block types type r → Marks (word_stored e t r) []
assigned_none e t block types type r numeric has is = by_part is.0
  where
    by_part : IsPart block types type r → Marks (word_stored e t r) []
    by_part (inl o) = target_none e t block types type r numeric has o
    by_part (inr o) =
        let kind : Kind = record { type = type; bounds = o.bound ∷ o.bounds } in
        let are : AreProvedNumbers block types (Y.NumberThen o.first o.rest) = subst (AreSubscripts block types) o.is is.1 in
        subst (λ q. Marks (word_stored e t q) []) (sym o.is)
        (kept_element_none e t block o.index type (o.bound ∷ o.bounds) o.first o.rest numeric
        (has o.index kind o.declared) (subscripts_none e t block types (Y.NumberThen o.first o.rest) has are)
        (subscripts_none e (with_number t) block types (Y.NumberThen o.first o.rest) has are))

-- a number that is assigned
pub number_assigned_none : (e : Environment) (t : Taken) (block : Names) (types : Types) (precision : ℕ) (r : Y.Reference) (x : Y.Number) → HasTypes e block types → IsAssigned block types (Y.FixedLeaf precision) r → IsProvedNumber block types x → Marks ((number_code e t x ++ fitted_code t precision) ++ word_stored e t r) []
number_assigned_none e t block types precision r x has target is =
    let code = number_code e t x in
    let fitted = fitted_code t precision in
    behind (code ++ fitted) (word_stored e t r) [] (behind code fitted [] (number_none e t block types x has is) (fitted_none t precision)) (assigned_none e t block types (Y.FixedLeaf precision) r tt has target)

-- a bit
pub bit_assigned_none : (e : Environment) (t : Taken) (block : Names) (types : Types) (r : Y.Reference) (x : Y.Bit) → HasTypes e block types → IsAssigned block types Y.BitLeaf r → IsProvedBit block types x → Marks (bit_code e t x ++ word_stored e t r) []
bit_assigned_none e t block types r x has target is =
    behind (bit_code e t x) (word_stored e t r) [] (bit_none e t block types x has is) (assigned_none e t block types Y.BitLeaf r tt has target)

-- a number that is stored
pub stored_none : (e : Environment) (t : Taken) (block : Names) (types : Types) (precision : ℕ) (r : Y.Reference) (x : Y.Number) → HasTypes e block types → IsOwn block types (Y.FixedLeaf precision) r → IsProvedNumber block types x → Marks ((number_code e t x ++ fitted_code t precision) ++ word_stored e t r) []
stored_none e t block types precision r x has own' is =
    let code = number_code e t x in
    let fitted = fitted_code t precision in
    behind (code ++ fitted) (word_stored e t r) [] (behind code fitted [] (number_none e t block types x has is) (fitted_none t precision)) (target_none e t block types (Y.FixedLeaf precision) r tt has own')

-- a bit that is stored
pub bit_stored_none : (e : Environment) (t : Taken) (block : Names) (types : Types) (r : Y.Reference) (x : Y.Bit) → HasTypes e block types → IsOwn block types Y.BitLeaf r → IsProvedBit block types x → Marks (bit_code e t x ++ word_stored e t r) []
bit_stored_none e t block types r x has own' is =
    behind (bit_code e t x) (word_stored e t r) [] (bit_none e t block types x has is) (target_none e t block types Y.BitLeaf r tt has own')

-- the store of a text
pub top_none : (e : Environment) (t : Taken) (block : Names) (types : Types) (varying : Bool) (most : ℕ) (r : Y.Reference) → HasTypes e block types → IsOwn block types (text_leaf varying most) r → Marks (top_stored e t r) []
top_none e t block types varying most r has is =
    let same : top_stored e t r ≡ text_asked (level_of block is.index == e.level) (level_of block is.index) 27 varying most (data_place e block is.index) =
    ap (top_stored e t) is.is ∙ text_kept varying e t block is.index most (has is.index (alone (text_leaf varying most)) is.declared) in
    ap symbols_marked same ∙ asked_none (level_of block is.index == e.level) (level_of block is.index) 27 varying most (data_place e block is.index)

-- in a variable or an element
pub text_target_none : (e : Environment) (t : Taken) (block : Names) (types : Types) (varying : Bool) (most : ℕ) (r : Y.Reference) → HasTypes e block types → IsPart block types (text_leaf varying most) r → AreSubscripts block types r → Marks (top_stored e t r) []
text_target_none e t block types varying most r has (inl o) subscripts = top_none e t block types varying most r has o
text_target_none e t block types varying most r has (inr o) subscripts =
    let kind : Kind = record { type = text_leaf varying most; bounds = o.bound ∷ o.bounds } in
    let are : AreProvedNumbers block types (Y.NumberThen o.first o.rest) = subst (AreSubscripts block types) o.is subscripts in
    subst (λ q. Marks (top_stored e t q) []) (sym o.is)
    (subst (λ c. Marks c []) (sym (text_element_kept e t block o.index varying most (o.bound ∷ o.bounds) o.first o.rest (has o.index kind o.declared)))
    (text_element_none e t block o.index 27 varying most (o.bound ∷ o.bounds) o.first o.rest (subscripts_none e t block types (Y.NumberThen o.first o.rest) has are)))

-- a text that is stored
pub text_stored_none : (e : Environment) (t : Taken) (block : Names) (types : Types) (r : Y.Reference) (x : Y.Text) → HasTypes e block types → IsAssignedText block types r → IsProvedText block types x → Marks (text_code e t x ++ top_stored e t r) []
text_stored_none e t block types r x has target is =
    behind (text_code e t x) (top_stored e t r) [] (text_none e t block types x has is) (text_target_none e t block types target.0.varying target.0.most r has target.0.part target.1)
