-- What is proved so far takes fewer words for temporaries than its code has.
use Rattle.std.proofs.Common.{◌≡◌, ℕ, suc, ◌+◌, ◌-◌, ◌≤◌, List, [], ◌∷◌, ◌++◌, length, None, Bool, true, false, refl}
use Rattle.std.proofs.Common.{ap, ◌∙◌, arith, Option, Some, inl, inr, sym, subst}
use Rattle.std.specs.Prelude.{ℤ, pos, cond, max, map, ◌&&◌, if◌then◌else◌}
use Rattle.rv_meaning.specs.declared.instr.Register.{Register}
use Rattle.pli_typing.specs.Signatures.{Bounds}
use Rattle.pli_typing.specs.TypedTree as Y
use Rattle.pli_language.specs.Tree as T
use Rattle.pli_meaning.specs.Codes.{subscript_code}
use Rattle.rv_meaning.specs.declared.instr.BranchTest.TheVariants as Test
use Rattle.pli_coding.specs.Registers.{zero_register, a0, a1, a2, u1, u2, u3, frame_register}
use Rattle.pli_coding.specs.Assembly.{Code, size_of, JumpAhead, JumpBack}
use Rattle.pli_coding.specs.Instructions.{is_immediate, skip_where, error_raised, small, constant, number, store_word}
use Rattle.pli_coding.specs.Instructions.{move, service, tested_service}
use Rattle.pli_coding.specs.Frames.{buffer_lower, has_constant_size}
use Rattle.pli_coding.specs.Environments.{Environment, Taken, with_number, save, fetch}
use Rattle.pli_coding.specs.Arithmetic.{signed_code, absolute_code, sign_code, calculated_code, modulo_code}
use Rattle.pli_coding.specs.Arithmetic.{divided_code, extreme_code, negated_code, combined_code, compared_code}
use Rattle.pli_coding.specs.Arithmetic.{fitted_code}
use Rattle.pli_coding.specs.Expressions.{number_code, extremes_code, bit_code, text_code, reference_code}
use Rattle.pli_coding.specs.Expressions.{subscripts_code, given_in, type_in, address_in}
use Rattle.pli_coding.specs.Storing.{stored_into, is_near, word_stored, top_stored, record_code, record_given}
use Rattle.pli_coding.specs.Storing.{first_leaf, aggregate_code}
use Rattle.pli_coding.specs.Streams.{has_fixed, value_put, number_put}
use Rattle.pli_coding.specs.Streams.{text_put, as_text, item_put, items_put, edit_begun, edit_ended, put_pair}
use Rattle.pli_coding.specs.Streams.{put_pairs, skip_option, field_stored}
use Rattle.pli_coding.specs.Streams.{field_awaited, number_got, bit_got, item_got, items_got, get_pair, get_pairs}
use Rattle.pli_coding.specs.Streams.{text_got}
use Rattle.pli_coding.specs.Allocating.{act_code}
use Rattle.pli_coding.specs.Statements.{if_met, while_met, stmt_code, stmts_code}
use Rattle.pli_coding.specs.Statements.{marked, once_code, in_turns, before_turns}
use Rattle.pli_coding.specs.Statements.{start_code, limit_code, constant_step, step_kept, step_code, started_code}
use Rattle.pli_coding.specs.Statements.{start_place, step_place, limit_place, turn_of, turns_code, words_back}
use Rattle.pli_coding.specs.Statements.{words_behind_limit, words_behind_condition, limit_kept, while_kept}
use Rattle.pli_coding.specs.Statements.{stepped_code}
use Rattle.pli_headline.specs.ProvedSoFar.{Names, Types, IsProvedNumber, AreProvedNumbers}
use Rattle.pli_headline.specs.ProvedSoFar.{IsProvedBit, IsProvedText, IsProvedItem, AreProvedItems, AreProvedPairs}
use Rattle.pli_headline.specs.ProvedSoFar.{IsProvedGetItem, AreProvedGetItems, AreProvedGetPairs, IsProvedStatement}
use Rattle.pli_headline.specs.ProvedSoFar.{AreProvedStatements, IsProvedBitIf, IsProvedNumberIf, text_leaf}
use Rattle.pli_headline.specs.ProvedSoFar.{constant_bounds, IsElement, IsPart, IsAssigned, AreSubscripts}
use Rattle.pli_headline.specs.ProvedSoFar.{array_variable, IsProvedStart, IsAssignedText, IsReadBy}
use Rattle.pli_headline.proofs.Scalars.{IsNumeric}
use Rattle.run_steps.proofs.Linking.{size_append}
use Rattle.pli_headline.proofs.ConstantSteps.{constant_means}
use Rattle.pli_headline.proofs.ElementsMarks.{elements_size}
use Rattle.pli_headline.proofs.TextsMarks.{texts_size}
use Rattle.pli_headline.proofs.CopiesMarks.{copies_words}
use Rattle.pli_headline.proofs.Variables.{own, level_of, whole_part, HasTypes, subscripts_in}
use Rattle.pli_headline.proofs.ArrayPlaces.{lower_first, upper_second}
use Rattle.pli_headline.proofs.ArrayMeant.{element}
use Rattle.pli_headline.proofs.ArrayElements.{reached_by, size_constant}
use Rattle.pli_headline.proofs.TextElements.{text_size_constant}
use Rattle.pli_coding.specs.Locating.{loaded, stored, reached, found_reached, frame_found, frame_in, element_added}
use Rattle.pli_coding.specs.Locating.{leaf_number, is_simple, are_simple, less_lower, range_loaded, place_kept}
use Rattle.pli_coding.specs.Locating.{counted_in, subscript_counted, subscript_given, subscripts_counted, text_pushed}
use Rattle.pli_coding.specs.Locating.{text_stored}
use Rattle.temporary_bounds.specs.WordBounds.{get_item_words, get_items_words, get_words, put_item_words, put_items_words}
use Rattle.temporary_bounds.specs.WordBounds.{put_words, value_words, stmt_words, stmts_words, bit_if, number_if}
use Rattle.temporary_bounds.specs.WordBounds.{number_words, numbers_words, text_words, bit_words, reference_words}
use Rattle.temporary_bounds.specs.WordBounds.{subscripts_words}
use Rattle.pli_headline.proofs.Targets.{part_type}
use Rattle.pli_headline.proofs.PieceSizes.{most, own_words, asked_words, displaced_by, saved_size, both_size, two_size}

-- ---- words of expressions

-- each dimension takes a test
counted_size : (e : Environment) (t : Taken) (d : ℕ) (xs : Y.Numbers) (bs : List Bounds) → given_in xs ≤ length bs
    → given_in xs ≤ size_of (subscripts_counted e t d xs (map constant_bounds bs))
counted_size e t d Y.NoNumber bs few = omega arith
counted_size e t d (Y.NumberThen first rest) [] few = absurd (omega (arith, few))
counted_size e t d (Y.NumberThen first rest) (b ∷ bs) few =
    let more = subscripts_counted e (with_number t) (suc d) rest (map constant_bounds bs) in
    let one = subscript_counted d (constant_bounds b) in
    let given = subscript_given e t first rest in
    let less = less_lower (Y.ConstantExtent b.lower) (buffer_lower d) in
    let range = range_loaded (constant_bounds b) d in
    let tested = skip_where Test.GreaterOrEqualUnsigned u2 u1 (error_raised subscript_code) ++ counted_in d in
    let n = counted_size e (with_number t) (suc d) rest bs (omega (arith, few)) in
    let s1 = size_append (place_kept d) (given ++ (one ++ more)) in
    let s2 = size_append given (one ++ more) in
    let s3 = size_append one more in
    let s4 = size_append less (range ++ tested) in
    let s5 = size_append range tested in
    let s6 = size_append (skip_where Test.GreaterOrEqualUnsigned u2 u1 (error_raised subscript_code)) (counted_in d) in
    omega (arith, n, s1, s2, s3, s4, s5, s6)

-- arrays of a type have a constant size
abbrev IsSized : Y.LeafType → Type 0
IsSized type = (bs : List Bounds) (initial : List T.InitialItem) → has_constant_size (array_variable type bs initial)
    ≡ true

-- an element takes what its subscripts do
element_size : (e : Environment) (t : Taken) (block : Names) (types : Types) (type : Y.LeafType) (r :
    Y.Reference) (part : IsElement block types type r) → IsSized type → HasTypes e block types
    → subscripts_words (subscripts_in r) ≤ size_of (subscripts_code e t (subscripts_in r))
    + given_in (subscripts_in r) → reference_words r ≤ size_of (reference_code e t r)
element_size e t block types type r o sized has n =
    let j = o.index in
    let bs = o.bound ∷ o.bounds in
    let xs = Y.NumberThen o.first o.rest in
    let declared = has j (record { type = type; bounds = bs }) o.declared in
    let v = own block j in
    let other = found_reached e t t v whole_part (leaf_number e v 0) xs in
    let counted = subscripts_counted e t 0 xs (map constant_bounds bs) in
    let behind = frame_found e (level_of block j) u3 ++ element_added (frame_in e (level_of block j) u3) type xs in
    let eq : reached e t t v whole_part xs ≡ counted ++ behind =
    ap (λ d. reached_by e t block j xs d) declared.1
    ∙ ap (λ q. if q then counted ++ behind else other) (sized bs declared.0) in
    let n' =
    subst (λ q. subscripts_words (subscripts_in q) ≤ size_of (subscripts_code e t (subscripts_in q))
    + given_in (subscripts_in q)) o.is n in
    let few = counted_size e t 0 xs bs (let many = o.many in omega (arith, many)) in
    let s1 = size_append (subscripts_code e t xs) (reached e t t v whole_part xs) in
    let s2 = ap size_of eq in
    let s3 = size_append counted behind in
    subst (λ q. reference_words q ≤ size_of (reference_code e t q)) (sym o.is)
    (most 0 (0 + subscripts_words xs) (size_of (reference_code e t (element block j o.first o.rest))) (omega arith)
    (omega (arith, n', few, s1, s2, s3)))

part_size : (e : Environment) (t : Taken) (block : Names) (types : Types) (has : HasTypes e block types) (type :
    Y.LeafType) (r : Y.Reference) (last : Code) → IsPart block types type r → IsSized type
    → subscripts_words (subscripts_in r) ≤ size_of (subscripts_code e t (subscripts_in r))
    + given_in (subscripts_in r) → reference_words r ≤ size_of (reference_code e t r ++ last) + 1
part_size e t block types has type r last (inl o) sized n = let z = own_words block types type r o in omega (arith, z)
part_size e t block types has type r last (inr o) sized n =
    let m = element_size e t block types type r o sized has n in
    let s = size_append (reference_code e t r) last in
    omega (arith, m, s)

-- a simple number takes no temporaries
simple_words : (e : Environment) (block : Names) (types : Types) (x : Y.Number) → IsProvedNumber block types x
    → is_simple e x ≡ true → number_words x ≡ 0
simple_words e block types (Y.NumberConstant n) is simple = refl
simple_words e block types (Y.NumberIn (Y.Referring v locator part subscripts)) is simple = by_part is.0.part
  where
    by_part : IsPart block types (Y.FixedLeaf is.0.precision) (Y.Referring v locator part subscripts)
        → reference_words (Y.Referring v locator part subscripts) ≡ 0
    by_part (inl o) = own_words block types (Y.FixedLeaf is.0.precision) (Y.Referring v locator part subscripts) o
    by_part (inr o) =
        let none : false ≡ true = subst (λ q. is_simple e (Y.NumberIn q) ≡ true) o.is simple in
        absurd (cc none)
simple_words e block types _ is simple = absurd (cc simple)

all_simple_words : (e : Environment) (block : Names) (types : Types) (xs : Y.Numbers)
    → AreProvedNumbers block types xs → are_simple e xs ≡ true → subscripts_words xs ≤ given_in xs
all_simple_words e block types Y.NoNumber are simple = omega arith
all_simple_words e block types (Y.NumberThen first rest) are simple =
    let z = simple_words e block types first are.0 (lower_first (is_simple e first) (are_simple e rest) simple) in
    let n = all_simple_words e block types rest are.1 (upper_second (is_simple e first) (are_simple e rest) simple) in
    most _ _ _ (omega (arith, z)) (omega (arith, n))

-- subscripts take what waits, where not all are simple
subscripts_by : (q : Bool) (e : Environment) (t : Taken) (first : Y.Number) (rest : Y.Numbers)
    → (q ≡ true → subscripts_words (Y.NumberThen first rest) ≤ suc (given_in rest))
    → number_words first ≤ size_of (number_code e t first) + 1
    → subscripts_words rest ≤ size_of (subscripts_code e (with_number t) rest) + given_in rest
    → subscripts_words (Y.NumberThen first rest) ≤ size_of
    (cond q [] (number_code e t first ++ (save a0 t ++ subscripts_code e (with_number t) rest))) + suc (given_in rest)
subscripts_by true e t first rest simple n m = let few = simple refl in omega (arith, few)
subscripts_by false e t first rest simple n m =
    let c = subscripts_code e (with_number t) rest in
    let one = saved_size a0 t in
    let s1 = size_append (number_code e t first) (save a0 t ++ c) in
    let s2 = size_append (save a0 t) c in
    most _ _ _ (omega (arith, n, one, s1, s2)) (omega (arith, m, one, s1, s2))

mutual
  pub number_size : (e : Environment) (t : Taken) (block : Names) (types : Types) (has : HasTypes e block types) (x :
      Y.Number) → IsProvedNumber block types x → number_words x ≤ size_of (number_code e t x) + 1
  number_size e t block types has (Y.NumberConstant n) is = omega arith
  number_size e t block types has (Y.NumberIn (Y.Referring v locator part subscripts)) is =
      let r = Y.Referring v locator part subscripts in
      part_size e t block types has (Y.FixedLeaf is.0.precision) r (loaded (type_in e r) a0 (address_in e r))
      is.0.part (size_constant (Y.FixedLeaf is.0.precision) tt)
      (subscripts_size e t block types has subscripts is.1)
  number_size e t block types has (Y.NumberOfBit x) is = bit_size e t block types has x is
  number_size e t block types has (Y.Signed sign x) is =
      let n = number_size e t block types has x is in
      let s = size_append (number_code e t x) (signed_code t sign) in
      most _ _ _ (omega arith) (omega (arith, n, s))
  number_size e t block types has (Y.Calculated operator left right) is =
      both_size (number_code e t left) (number_code e (with_number t) right) (fetch u1 t ++ calculated_code t operator) t (number_words left) (number_words right)
      (number_size e t block types has left is.0) (number_size e (with_number t) block types has right is.1)
  number_size e t block types has (Y.Absolute x) is =
      let n = number_size e t block types has x is in
      let s = size_append (number_code e t x) (absolute_code t) in
      most _ _ _ (omega arith) (omega (arith, n, s))
  number_size e t block types has (Y.SignOf x) is =
      let n = number_size e t block types has x is in
      let s = size_append (number_code e t x) sign_code in
      omega (arith, n, s)
  number_size e t block types has (Y.Extreme extremum first more) is =
      let n = number_size e t block types has first is.0 in
      let m = numbers_size e t block types has extremum more is.1 in
      let s = size_append (number_code e t first) (extremes_code e t extremum more) in
      most _ _ _ (omega (arith, n, s)) (omega (arith, m, s))
  number_size e t block types has (Y.Modulo dividend divisor) is =
      both_size (number_code e t dividend) (number_code e (with_number t) divisor) (fetch u1 t ++ modulo_code) t (number_words dividend) (number_words divisor)
      (number_size e t block types has dividend is.0) (number_size e (with_number t) block types has divisor is.1)
  number_size e t block types has (Y.Divided precision dividend divisor) is =
      both_size (number_code e t dividend) (number_code e (with_number t) divisor) (fetch u1 t ++ divided_code t precision) t (number_words dividend) (number_words divisor)
      (number_size e t block types has dividend is.1.0) (number_size e (with_number t) block types has divisor is.1.1)
  number_size e t block types has (Y.NumberOfText x) is =
      let n = text_size e t block types has x is in
      let s = size_append (text_code e t x) (small a0 0 ∷ tested_service 26) in
      omega (arith, n, s)
  number_size e t block types has (Y.LengthOf x) is =
      let n = text_size e t block types has x is in
      let s = size_append (text_code e t x) (small a2 3 ∷ service 27) in
      omega (arith, n, s)
  number_size e t block types has (Y.IndexOf searched sought) is =
      two_size (text_code e t searched) (text_code e t sought) (small a0 0 ∷ service 25) (text_words searched) (text_words sought)
      (text_size e t block types has searched is.0) (text_size e t block types has sought is.1)
  number_size e t block types has (Y.VerifyOf searched allowed) is =
      two_size (text_code e t searched) (text_code e t allowed) (small a0 1 ∷ service 25) (text_words searched) (text_words allowed)
      (text_size e t block types has searched is.0) (text_size e t block types has allowed is.1)
  number_size e t block types has (Y.LowerBound r dimension) is = let z =
      asked_words block types r dimension is in omega (arith, z)
  number_size e t block types has (Y.UpperBound r dimension) is = let z =
      asked_words block types r dimension is in omega (arith, z)
  number_size e t block types has (Y.ElementsOf r dimension) is =
      let z = asked_words block types r dimension is in
      most _ _ _ (omega arith) (omega (arith, z))
  number_size e t block types has Y.OnCode is = omega arith
  number_size e t block types has _ is = absurd is

  numbers_size : (e : Environment) (t : Taken) (block : Names) (types : Types) (has :
      HasTypes e block types) (extremum : Y.Extremum) (xs : Y.Numbers) → AreProvedNumbers block types xs
      → numbers_words xs ≤ size_of (extremes_code e t extremum xs)
  numbers_size e t block types has extremum Y.NoNumber are = omega arith
  numbers_size e t block types has extremum (Y.NumberThen first rest) are =
      let c = number_code e (with_number t) first in
      let back = fetch u1 t in
      let further = extreme_code extremum in
      let more = extremes_code e t extremum rest in
      let n = number_size e (with_number t) block types has first are.0 in
      let m = numbers_size e t block types has extremum rest are.1 in
      let one = saved_size a0 t in
      let s1 = size_append (save a0 t) (c ++ (back ++ (further ++ more))) in
      let s2 = size_append c (back ++ (further ++ more)) in
      let s3 = size_append back (further ++ more) in
      let s4 = size_append further more in
      most _ _ _ (omega (arith, n, one, s1, s2)) (omega (arith, m, s1, s2, s3, s4))

  subscripts_size : (e : Environment) (t : Taken) (block : Names) (types : Types) (has : HasTypes e block types) (xs :
      Y.Numbers) → AreProvedNumbers block types xs → subscripts_words xs ≤ size_of (subscripts_code e t xs)
      + given_in xs
  subscripts_size e t block types has Y.NoNumber are = omega arith
  subscripts_size e t block types has (Y.NumberThen first rest) are =
      subscripts_by (is_simple e first && are_simple e rest) e t first rest
      (all_simple_words e block types (Y.NumberThen first rest) are)
      (number_size e t block types has first are.0) (subscripts_size e (with_number t) block types has rest are.1)

  pub bit_size : (e : Environment) (t : Taken) (block : Names) (types : Types) (has : HasTypes e block types) (x :
      Y.Bit) → IsProvedBit block types x → bit_words x ≤ size_of (bit_code e t x) + 1
  bit_size e t block types has (Y.BitConstant b) is = omega arith
  bit_size e t block types has (Y.BitIn (Y.Referring v locator part subscripts)) is =
      let r = Y.Referring v locator part subscripts in
      part_size e t block types has Y.BitLeaf r (loaded (type_in e r) a0 (address_in e r)) is.0
      (size_constant Y.BitLeaf tt) (subscripts_size e t block types has subscripts is.1)
  bit_size e t block types has (Y.Negated x) is =
      let n = bit_size e t block types has x is in
      let s = size_append (bit_code e t x) (negated_code ∷ []) in
      omega (arith, n, s)
  bit_size e t block types has (Y.Combined operator left right) is =
      both_size (bit_code e t left) (bit_code e (with_number t) right) (fetch u1 t ++ combined_code operator ∷ []) t (bit_words left) (bit_words right)
      (bit_size e t block types has left is.0) (bit_size e (with_number t) block types has right is.1)
  bit_size e t block types has (Y.NumbersCompared comparison left right) is =
      both_size (number_code e t left) (number_code e (with_number t) right) (fetch u1 t ++ compared_code comparison) t (number_words left) (number_words right)
      (number_size e t block types has left is.0) (number_size e (with_number t) block types has right is.1)
  bit_size e t block types has (Y.BitsCompared comparison left right) is =
      both_size (bit_code e t left) (bit_code e (with_number t) right) (fetch u1 t ++ compared_code comparison) t (bit_words left) (bit_words right)
      (bit_size e t block types has left is.0) (bit_size e (with_number t) block types has right is.1)
  bit_size e t block types has (Y.BitOfText x) is =
      let n = text_size e t block types has x is in
      let s = size_append (text_code e t x) (small a0 1 ∷ tested_service 26) in
      omega (arith, n, s)
  bit_size e t block types has (Y.TextsCompared comparison left right) is =
      two_size (text_code e t left) (text_code e t right) (service 24 ++ (move u1 a0 ∷ small a0 0 ∷ compared_code comparison)) (text_words left) (text_words right)
      (text_size e t block types has left is.0) (text_size e t block types has right is.1)
  bit_size e t block types has _ is = absurd is

  -- a text takes what its parts take
  pub text_size : (e : Environment) (t : Taken) (block : Names) (types : Types) (has : HasTypes e block types) (x :
      Y.Text) → IsProvedText block types x → text_words x ≤ size_of (text_code e t x) + 1
  text_size e t block types has (Y.TextConstant bytes) is = omega arith
  text_size e t block types has (Y.TextIn (Y.Referring v locator part subscripts)) is =
      let r = Y.Referring v locator part subscripts in
      part_size e t block types has (text_leaf is.0.varying is.0.most) r (text_pushed (type_in e r) (address_in e r))
      is.0.part (text_size_constant is.0.varying is.0.most) (subscripts_size e t block types has subscripts is.1)
  text_size e t block types has (Y.TextOfNumber precision x) is =
      let n = number_size e t block types has x is.1 in
      let s = size_append (number_code e t x) (as_text precision) in
      omega (arith, n, s)
  text_size e t block types has (Y.TextOfBit x) is =
      let n = bit_size e t block types has x is in
      let s = size_append (bit_code e t x) (as_text 0) in
      omega (arith, n, s)
  text_size e t block types has (Y.Joined left right) is =
      let n = text_size e t block types has left is.0 in
      let m = text_size e t block types has right is.1 in
      two_size (text_code e t left) (text_code e t right) (tested_service 22) (text_words left) (text_words right) n m
  text_size e t block types has (Y.SubstringFrom x start) is =
      let cut = small a2 0 ∷ tested_service 23 in
      let n = text_size e t block types has x is.0 in
      let m = number_size e t block types has start is.1 in
      let s1 = size_append (text_code e t x) (number_code e t start ++ cut) in
      let s2 = size_append (number_code e t start) cut in
      most _ _ _ (omega (arith, n, s1)) (omega (arith, m, s1, s2))
  text_size e t block types has (Y.Substring x start many) is =
      let cut = small a2 1 ∷ tested_service 23 in
      let behind = move a1 a0 ∷ (fetch a0 t ++ cut) in
      let further = number_code e (with_number t) many ++ behind in
      let n = text_size e t block types has x is.0 in
      let m = number_size e t block types has start is.1.0 in
      let o = number_size e (with_number t) block types has many is.1.1 in
      let s1 = size_append (text_code e t x) (number_code e t start ++ (save a0 t ++ further)) in
      let s2 = size_append (number_code e t start) (save a0 t ++ further) in
      let s3 = size_append (save a0 t) further in
      let s4 = size_append (number_code e (with_number t) many) behind in
      most _ _ _ (omega (arith, n, s1)) (most _ _ _ (omega (arith, m, s1, s2)) (omega (arith, o, s1, s2, s3, s4)))
  text_size e t block types has _ is = absurd is

-- ---- words of statements

value_size : (e : Environment) (t : Taken) (block : Names) (types : Types) (has : HasTypes e block types) (formats :
    T.Formats) (precision : ℕ) (x : Y.Number) → IsProvedNumber block types x
    → max 1 (number_words x) ≤ size_of (value_put e t formats (Y.NumberValue precision x)) + 1
value_size e t block types has formats precision x is =
    let n = number_size e t block types has x is in
    let s = size_append (number_code e t x) (save a0 t ++ number_put t formats (as_text precision)) in
    most _ _ _ (omega arith) (omega (arith, n, s))

item_size' : (e : Environment) (t : Taken) (block : Names) (types : Types) (has : HasTypes e block types) (formats :
    T.Formats) (i : Y.PutItem) → IsProvedItem block types i → put_item_words i ≤ size_of (item_put e t formats i) + 1
item_size' e t block types has formats (Y.PutValue (Y.NumberValue precision x)) is =
    value_size e t block types has formats precision x is
item_size' e t block types has formats (Y.PutValue (Y.BitValue x)) is =
    let n = bit_size e t block types has x is in
    let s = size_append (bit_code e t x) (save a0 t ++ number_put t formats (as_text 0)) in
    most _ _ _ (omega arith) (omega (arith, n, s))
item_size' e t block types has formats (Y.PutValue (Y.TextValue x)) is =
    let n = text_size e t block types has x is in
    let s = size_append (text_code e t x) (text_put formats) in
    omega (arith, n, s)
item_size' e t block types has formats _ is = absurd is

items_size : (e : Environment) (t : Taken) (block : Names) (types : Types) (has : HasTypes e block types) (formats :
    T.Formats) (is : List Y.PutItem) → AreProvedItems block types is
    → put_items_words is ≤ size_of (items_put e t formats is) + 1
items_size e t block types has formats [] are = omega arith
items_size e t block types has formats (i ∷ is) are =
    let a = item_size' e t block types has formats i are.0 in
    let c = items_size e t block types has formats is are.1 in
    let s = size_append (item_put e t formats i) (items_put e t formats is) in
    most _ _ _ (omega (arith, a, s)) (omega (arith, c, s))

pairs_size : (e : Environment) (t : Taken) (block : Names) (types : Types) (has : HasTypes e block types) (ps :
    List Y.PutPair) → AreProvedPairs block types ps → put_words ps ≤ size_of (put_pairs e t ps) + 1
pairs_size e t block types has [] are = omega arith
pairs_size e t block types has (p ∷ ps) are =
    let items = items_put e t p.formats p.items in
    let a = items_size e t block types has p.formats p.items are.0 in
    let c = pairs_size e t block types has ps are.1.1 in
    let s1 = size_append (put_pair e t p) (put_pairs e t ps) in
    let s2 = size_append (edit_begun p.formats 1) (items ++ edit_ended) in
    let s3 = size_append items edit_ended in
    most _ _ _ (omega (arith, a, s1, s2, s3)) (omega (arith, c, s1))

constant_size : (r : Register) (z : ℤ) → 1 ≤ size_of (constant r z)
constant_size r z = displaced_by (is_immediate z) _ _ (omega arith) (omega arith)

pub act_size : (line : ℕ) → 4 ≤ size_of (act_code line)
act_size line =
    let n = constant_size a0 (pos line) in
    let s = size_append (number a0 line) (small a1 0 ∷ service 1) in
    omega (arith, n, s)

pub met_size' : (c : Code) → size_of (if_met c) ≡ 3 + size_of c
met_size' c = size_append (skip_where Test.NotEqual a0 zero_register (JumpAhead (size_of c) ∷ [])) c

pub once_size : (e : Environment) (t : Taken) (block : Names) (types : Types) (has :
    HasTypes e block types) (condition : Option Y.Bit) (line : ℕ) (c : Code) → IsProvedBitIf block types condition
    → (bit_if condition ≤ size_of (once_code e t condition line c) + 1)
    × (size_of c ≤ size_of (once_code e t condition line c))
once_size e t block types has None line c is = (omega arith, omega arith)
once_size e t block types has (Some x) line c is =
    let n = bit_size e t block types has x is in
    let s1 = size_append (act_code line) (bit_code e t x ++ if_met c) in
    let s2 = size_append (bit_code e t x) (if_met c) in
    let s3 = met_size' c in
    (omega (arith, n, s1, s2), omega (arith, s1, s2, s3))

pub start_words_size : (e : Environment) (t : Taken) (block : Names) (types : Types) (has :
    HasTypes e block types) (start : Y.Value) → IsProvedStart block types start
    → value_words start ≤ size_of (start_code e t start) + 1
start_words_size e t block types has (Y.NumberValue precision x) is =
    let n = number_size e (before_turns t) block types has x is in
    let s = size_append (number_code e (before_turns t) x) (store_word frame_register a0 (start_place t)) in
    most _ _ _ (omega arith) (omega (arith, n, s))
start_words_size e t block types has (Y.BitValue x) is =
    let n = bit_size e (before_turns t) block types has x is in
    let s = size_append (bit_code e (before_turns t) x) (store_word frame_register a0 (start_place t)) in
    most _ _ _ (omega arith) (omega (arith, n, s))
start_words_size e t block types has (Y.TextValue x) is = text_size e (before_turns t) block types has x is
start_words_size e t block types has _ is = absurd is

pub limit_words_size : (e : Environment) (t : Taken) (block : Names) (types : Types) (has :
    HasTypes e block types) (limit : Option Y.Number) → IsProvedNumberIf block types limit
    → number_if limit ≤ size_of (limit_code e t limit) + 1
limit_words_size e t block types has None is = omega arith
limit_words_size e t block types has (Some x) is =
    let n = number_size e (before_turns t) block types has x is in
    let s = size_append (number_code e (before_turns t) x) (store_word frame_register a0 (limit_place t)) in
    omega (arith, n, s)

step_kept_size : (e : Environment) (t : Taken) (block : Names) (types : Types) (has : HasTypes e block types) (step :
    Y.Number) (fixed : Option ℤ) → constant_step step ≡ fixed → IsProvedNumber block types step
    → number_words step ≤ size_of (step_kept e t step fixed) + 1
step_kept_size e t block types has step None same is =
    let n = number_size e (before_turns t) block types has step is in
    let s = size_append (number_code e (before_turns t) step) (store_word frame_register a0 (step_place t)) in
    omega (arith, n, s)
step_kept_size e t block types has step (Some z) same is = (constant_means block types step z is same).few

pub step_words_size : (e : Environment) (t : Taken) (block : Names) (types : Types) (has :
    HasTypes e block types) (step : Y.Number) → IsProvedNumber block types step
    → number_words step ≤ size_of (step_code e t step) + 1
step_words_size e t block types has step is = step_kept_size e t block types has step (constant_step step) refl is

pub condition_words_size : (e : Environment) (t : Taken) (block : Names) (types : Types) (has :
    HasTypes e block types) (condition : Option Y.Bit) (behind : ℕ) → IsProvedBitIf block types condition
    → bit_if condition ≤ size_of (while_kept e t condition behind) + 1
condition_words_size e t block types has None behind is = omega arith
condition_words_size e t block types has (Some x) behind is =
    let n = bit_size e (in_turns t) block types has x is in
    let s = size_append (bit_code e (in_turns t) x) (skip_where Test.NotEqual a0 zero_register (JumpAhead behind ∷ [])) in
    omega (arith, n, s)

-- what is assigned to takes what its reference does, whether the value waits or not
stored_least : (q : Bool) (near waits put' back last : Code) (n : ℕ) → n ≤ size_of near → n ≤ size_of waits
    → n ≤ size_of (cond q (near ++ last) (put' ++ (waits ++ (back ++ last))))
stored_least true near waits put' back last n h i = let s = size_append near last in omega (arith, h, s)
stored_least false near waits put' back last n h i =
    let s1 = size_append put' (waits ++ (back ++ last)) in
    let s2 = size_append waits (back ++ last) in
    omega (arith, i, s1, s2)

pub target_size : (e : Environment) (t : Taken) (block : Names) (types : Types) (has : HasTypes e block types) (type :
    Y.LeafType) → IsNumeric type → (r : Y.Reference) → IsAssigned block types type r
    → reference_words r ≤ size_of (word_stored e t r)
target_size e t block types has type numeric r is = by_part is.0
  where
    by_part : IsPart block types type r → reference_words r ≤ size_of (word_stored e t r)
    by_part (inl o) = let z = own_words block types type r o in omega (arith, z)
    by_part (inr o) =
        let xs = Y.NumberThen o.first o.rest in
        let are : AreProvedNumbers block types xs = subst (AreSubscripts block types) o.is is.1 in
        let enough : (u : Taken) → reference_words r ≤ size_of (reference_code e u r) = λ u.
        let n = subscripts_size e u block types has xs are in
        let n' =
        subst (λ q. subscripts_words (subscripts_in q) ≤ size_of (subscripts_code e u (subscripts_in q))
        + given_in (subscripts_in q)) (sym o.is) n in
        element_size e u block types type r o (size_constant type numeric) has n' in
        stored_least (is_near e r) (reference_code e t r) (reference_code e (with_number t) r) (save a0 t)
        (fetch a0 t) (stored (type_in e r) a0 (address_in e r)) (reference_words r) (enough t)
        (enough (with_number t))

pub text_target_size : (e : Environment) (t : Taken) (block : Names) (types : Types) (has :
    HasTypes e block types) (r : Y.Reference) → IsAssignedText block types r
    → reference_words r ≤ size_of (top_stored e t r)
text_target_size e t block types has r is = by_part is.0.part
  where
    by_part : IsPart block types (text_leaf is.0.varying is.0.most) r → reference_words r ≤ size_of (top_stored e t r)
    by_part (inl o) = let z = own_words block types (text_leaf is.0.varying is.0.most) r o in omega (arith, z)
    by_part (inr o) =
        let xs = Y.NumberThen o.first o.rest in
        let are : AreProvedNumbers block types xs = subst (AreSubscripts block types) o.is is.1 in
        let n = subscripts_size e t block types has xs are in
        let n' =
        subst (λ q. subscripts_words (subscripts_in q) ≤ size_of (subscripts_code e t (subscripts_in q))
        + given_in (subscripts_in q)) (sym o.is) n in
        let m = element_size e t block types (text_leaf is.0.varying is.0.most) r o
        (text_size_constant is.0.varying is.0.most) has n' in
        let s = size_append (reference_code e t r) (text_stored (type_in e r) (address_in e r)) in
        omega (arith, m, s)

-- a field's target is stored in the code of the field
field_size : (e : Environment) (t : Taken) (block : Names) (types : Types) (has : HasTypes e block types) (formats :
    T.Formats) (type : Y.LeafType) (r : Y.Reference) → IsReadBy (has_fixed formats) type → IsPart block types type r
    → AreSubscripts block types r → reference_words r ≤ size_of (field_stored e t formats r type)
field_size e t block types has formats (Y.FixedLeaf p) r read part subscripts =
    let z = target_size e t block types has (Y.FixedLeaf p) tt r (part, subscripts) in
    let s1 = size_append (number_got formats) (fitted_code t p ++ word_stored e t r) in
    let s2 = size_append (fitted_code t p) (word_stored e t r) in
    omega (arith, z, s1, s2)
field_size e t block types has formats Y.BitLeaf r read part subscripts =
    let z = target_size e t block types has Y.BitLeaf tt r (part, subscripts) in
    let s = size_append bit_got (word_stored e t r) in
    omega (arith, z, s)
field_size e t block types has formats (Y.CharacterLeaf (Y.ConstantExtent (pos most))) r read part subscripts =
    let z = text_target_size e t block types has r (record { varying = false; most = most; part = part }, subscripts) in
    let s = size_append (text_got formats) (top_stored e t r) in
    omega (arith, z, s)
field_size e t block types has formats (Y.VaryingLeaf (Y.ConstantExtent (pos most))) r read part subscripts =
    let z = text_target_size e t block types has r (record { varying = true; most = most; part = part }, subscripts) in
    let s = size_append (text_got formats) (top_stored e t r) in
    omega (arith, z, s)
field_size e t block types has formats _ r read part subscripts = absurd read

got_item_words : (e : Environment) (t : Taken) (block : Names) (types : Types) (has : HasTypes e block types) (formats : T.Formats) (after : ℕ) (i : Y.GetItem) → IsProvedGetItem block types (has_fixed formats) i → get_item_words i ≤ size_of (item_got e t formats i after)
got_item_words e t block types has formats after (Y.GetScalar r) is =
    let type = part_type e block types is.type r has is.part in
    let f = subst (λ u. reference_words r ≤ size_of (field_stored e t formats r u)) (sym type)
    (field_size e t block types has formats is.type r is.read is.part is.subscripts) in
    let c = field_stored e t formats r (type_in e r) in
    let s = size_append (field_awaited (size_of c + after)) c in
    omega (arith, f, s)
got_item_words e t block types has formats after (Y.GetAggregate r) is = absurd is

got_items_words : (e : Environment) (t : Taken) (block : Names) (types : Types) (has : HasTypes e block types) (formats : T.Formats) (after : ℕ) (is : List Y.GetItem) → AreProvedGetItems block types (has_fixed formats) is → get_items_words is ≤ size_of (items_got e t formats after is)
got_items_words e t block types has formats after [] are = omega arith
got_items_words e t block types has formats after (i ∷ is) are =
    let rest = items_got e t formats after is in
    let a = got_item_words e t block types has formats (size_of rest + after) i are.0 in
    let c = got_items_words e t block types has formats after is are.1 in
    let s = size_append (item_got e t formats i (size_of rest + after)) rest in
    most _ _ _ (omega (arith, a, s)) (omega (arith, c, s))

got_words : (e : Environment) (t : Taken) (block : Names) (types : Types) (has : HasTypes e block types) (ps : List Y.GetPair) → AreProvedGetPairs block types ps → get_words ps ≤ size_of (get_pairs e t ps)
got_words e t block types has [] are = omega arith
got_words e t block types has (p ∷ ps) are =
    let rest = get_pairs e t ps in
    let items = items_got e t p.formats (2 + size_of rest) p.items in
    let a = got_items_words e t block types has p.formats (2 + size_of rest) p.items are.0 in
    let c = got_words e t block types has ps are.1.1 in
    let s1 = size_append (get_pair e t p (size_of rest)) rest in
    let s2 = size_append (edit_begun p.formats 0) (items ++ edit_ended) in
    let s3 = size_append items edit_ended in
    most _ _ _ (omega (arith, a, s1, s2, s3)) (omega (arith, c, s1))

mutual
  pub statement_size : (e : Environment) (t : Taken) (block : Names) (types : Types) (has : HasTypes e block types) (x : Y.Stmt) → IsProvedStatement block types x → stmt_words x ≤ size_of (stmt_code e t x) + 1
  statement_size e t block types has (Y.Null line) is = omega arith
  statement_size e t block types has (Y.Assign target (Y.StoredNumber precision x) line) is =
      let z : reference_words target ≤ size_of (stored_into e t target (Y.StoredNumber precision x)) =
      target_size e t block types has (Y.FixedLeaf precision) tt target is.0 in
      let n = number_size e t block types has x is.1.0 in
      let four = act_size line in
      let code = number_code e t x in
      let fitted = fitted_code t precision in
      let into = stored_into e t target (Y.StoredNumber precision x) in
      let s1 = size_append (act_code line) ((code ++ fitted) ++ into) in
      let s2 = size_append (code ++ fitted) into in
      let s3 = size_append code fitted in
      most _ _ _ (most _ _ _ (omega arith) (omega (arith, n, s1, s2, s3))) (omega (arith, z, four, s1, s2))
  statement_size e t block types has (Y.Assign target (Y.StoredBit x) line) is =
      let z : reference_words target ≤ size_of (stored_into e t target (Y.StoredBit x)) =
      target_size e t block types has Y.BitLeaf tt target is.0 in
      let n = bit_size e t block types has x is.1.0 in
      let four = act_size line in
      let code = bit_code e t x in
      let into = stored_into e t target (Y.StoredBit x) in
      let s1 = size_append (act_code line) (code ++ into) in
      let s2 = size_append code into in
      most _ _ _ (omega (arith, n, s1, s2)) (omega (arith, z, four, s1, s2))
  statement_size e t block types has (Y.Assign target (Y.StoredText x) line) is =
      let z : reference_words target ≤ size_of (stored_into e t target (Y.StoredText x)) =
      text_target_size e t block types has target is.0 in
      let n = text_size e t block types has x is.1.0 in
      let four = act_size line in
      let code = text_code e t x in
      let into = stored_into e t target (Y.StoredText x) in
      let s1 = size_append (act_code line) (code ++ into) in
      let s2 = size_append code into in
      most _ _ _ (omega (arith, n, s1, s2)) (omega (arith, z, four, s1, s2))
  statement_size e t block types has (Y.AssignElements target (Y.StoredNumber precision x) line) is =
      let z = elements_size e t block types (Y.FixedLeaf precision) target tt has is.0 in
      let none = ap reference_words is.0.is in
      let n = number_size e t block types has x is.1.0 in
      let four = act_size line in
      let code = number_code e t x in
      let fitted = fitted_code t precision in
      let into = save a0 t ++ (record_code e (with_number t) target ++ (record_given e (with_number t) ++ (number a1 (first_leaf target) ++ (fetch a2 t ++ service 41)))) in
      let s1 = size_append (act_code line) ((code ++ fitted) ++ into) in
      let s2 = size_append (code ++ fitted) into in
      let s3 = size_append code fitted in
      most _ _ _ (most _ _ _ (omega arith) (omega (arith, n, s1, s2, s3))) (omega (arith, z, none, four, s1, s2))
  statement_size e t block types has (Y.AssignElements target (Y.StoredBit x) line) is =
      let z = elements_size e t block types Y.BitLeaf target tt has is.0 in
      let none = ap reference_words is.0.is in
      let n = bit_size e t block types has x is.1.0 in
      let four = act_size line in
      let code = bit_code e t x in
      let into = save a0 t ++ (record_code e (with_number t) target ++ (record_given e (with_number t) ++ (number a1 (first_leaf target) ++ (fetch a2 t ++ service 41)))) in
      let s1 = size_append (act_code line) (code ++ into) in
      let s2 = size_append code into in
      most _ _ _ (omega (arith, n, s1, s2)) (omega (arith, z, none, four, s1, s2))
  statement_size e t block types has (Y.AssignElements target (Y.StoredText x) line) is =
      let z = texts_size e t block types target has is.0 in
      let none = ap reference_words is.0.whole.is in
      let n = text_size e t block types has x is.1.0 in
      let four = act_size line in
      let code = text_code e t x in
      let into = record_code e t target ++ (record_given e t ++ (number a1 (first_leaf target) ++ service 41)) in
      let s1 = size_append (act_code line) (code ++ into) in
      let s2 = size_append code into in
      most _ _ _ (omega (arith, n, s1, s2)) (omega (arith, z, none, four, s1, s2))
  statement_size e t block types has (Y.AssignAggregate target source line) is =
      let few = copies_words block types target source is.0 in
      let four = act_size line in
      let size = size_append (act_code line) (aggregate_code e t target source) in
      omega (arith, few, four, size)
  statement_size e t block types has (Y.If condition unit line) is =
      let test = bit_code e t condition in
      let c = stmt_code e t unit in
      let n = bit_size e t block types has condition is.0 in
      let m = statement_size e t block types has unit is.1.0 in
      let s1 = size_append (act_code line) (test ++ if_met c) in
      let s2 = size_append test (if_met c) in
      let s3 = met_size' c in
      most _ _ _ (omega (arith, n, s1, s2)) (omega (arith, m, s1, s2, s3))
  statement_size e t block types has (Y.IfElse condition unit otherwise line) is =
      let test = bit_code e t condition in
      let c = stmt_code e t unit in
      let d = stmt_code e t otherwise in
      let over = JumpAhead (size_of d) ∷ [] in
      let n = bit_size e t block types has condition is.0 in
      let m1 = statement_size e t block types has unit is.1.0 in
      let m2 = statement_size e t block types has otherwise is.1.1.0 in
      let s1 = size_append (act_code line) (test ++ (if_met (c ++ over) ++ d)) in
      let s2 = size_append test (if_met (c ++ over) ++ d) in
      let s3 = size_append (if_met (c ++ over)) d in
      let s4 = met_size' (c ++ over) in
      let s5 = size_append c over in
      most _ _ _ (omega (arith, n, s1, s2)) (most _ _ _ (omega (arith, m1, s1, s2, s3, s4, s5)) (omega (arith, m2, s1, s2, s3)))
  statement_size e t block types has (Y.Do body line) is =
      let m = statements_size e t block types has body is.0 in
      let s = size_append (act_code line) (stmts_code e t body) in
      omega (arith, m, s)
  statement_size e t block types has (Y.DoWhile condition body line) is =
      let test = bit_code e t condition in
      let c = stmts_code e t body in
      let tested = act_code line ++ test in
      let back = JumpBack (size_of tested + (3 + size_of c)) ∷ [] in
      let n = bit_size e t block types has condition is.0 in
      let m = statements_size e t block types has body is.1.0 in
      let s1 = size_append (act_code line) (while_met tested c) in
      let s2 = size_append tested (if_met (c ++ back)) in
      let s3 = size_append (act_code line) test in
      let s4 = met_size' (c ++ back) in
      let s5 = size_append c back in
      most _ _ _ (omega (arith, n, s1, s2, s3)) (omega (arith, m, s1, s2, s4, s5))
  statement_size e t block types has (Y.DoOnce target (Y.StoredNumber precision x) condition body line) is =
      let z : reference_words target ≤ size_of (stored_into e t target (Y.StoredNumber precision x)) =
      target_size e t block types has (Y.FixedLeaf precision) tt target is.0.0 in
      let n = number_size e t block types has x is.0.1 in
      let m = statements_size e t block types has body is.1.1.0 in
      let o = once_size e t block types has condition line (stmts_code e t body) is.1.0 in
      let four = act_size line in
      let code = number_code e t x in
      let fitted = fitted_code t precision in
      let into = stored_into e t target (Y.StoredNumber precision x) in
      let rest = once_code e t condition line (stmts_code e t body) in
      let s1 = size_append (act_code line) (((code ++ fitted) ++ into) ++ rest) in
      let s2 = size_append ((code ++ fitted) ++ into) rest in
      let s3 = size_append (code ++ fitted) into in
      let s4 = size_append code fitted in
      most _ _ _
      (most _ _ _ (most _ _ _ (omega arith) (omega (arith, n, s1, s2, s3, s4))) (omega (arith, z, four, s1, s2, s3)))
      (most _ _ _ (let o0 = o.0 in omega (arith, o0, s1, s2)) (let o1 = o.1 in omega (arith, m, o1, s1, s2)))
  statement_size e t block types has (Y.DoOnce target (Y.StoredBit x) condition body line) is =
      let z : reference_words target ≤ size_of (stored_into e t target (Y.StoredBit x)) =
      target_size e t block types has Y.BitLeaf tt target is.0.0 in
      let n = bit_size e t block types has x is.0.1 in
      let m = statements_size e t block types has body is.1.1.0 in
      let o = once_size e t block types has condition line (stmts_code e t body) is.1.0 in
      let four = act_size line in
      let code = bit_code e t x in
      let into = stored_into e t target (Y.StoredBit x) in
      let rest = once_code e t condition line (stmts_code e t body) in
      let s1 = size_append (act_code line) ((code ++ into) ++ rest) in
      let s2 = size_append (code ++ into) rest in
      let s3 = size_append code into in
      most _ _ _
      (most _ _ _ (omega (arith, n, s1, s2, s3)) (omega (arith, z, four, s1, s2, s3)))
      (most _ _ _ (let o0 = o.0 in omega (arith, o0, s1, s2)) (let o1 = o.1 in omega (arith, m, o1, s1, s2)))
  statement_size e t block types has (Y.DoOnce target (Y.StoredText x) condition body line) is =
      let z : reference_words target ≤ size_of (stored_into e t target (Y.StoredText x)) =
      text_target_size e t block types has target is.0.0 in
      let n = text_size e t block types has x is.0.1 in
      let m = statements_size e t block types has body is.1.1.0 in
      let o = once_size e t block types has condition line (stmts_code e t body) is.1.0 in
      let four = act_size line in
      let code = text_code e t x in
      let into = stored_into e t target (Y.StoredText x) in
      let rest = once_code e t condition line (stmts_code e t body) in
      let s1 = size_append (act_code line) ((code ++ into) ++ rest) in
      let s2 = size_append (code ++ into) rest in
      let s3 = size_append code into in
      most _ _ _
      (most _ _ _ (omega (arith, n, s1, s2, s3)) (omega (arith, z, four, s1, s2, s3)))
      (most _ _ _ (let o0 = o.0 in omega (arith, o0, s1, s2)) (let o1 = o.1 in omega (arith, m, o1, s1, s2)))
  statement_size e t block types has (Y.DoCount (Y.NumberCounter precision target) start limit step condition body line) is =
      let counter = Y.NumberCounter precision target in
      let z = target_size e (in_turns t) block types has (Y.FixedLeaf precision) tt target is.0.0 in
      let n0 = start_words_size e t block types has start is.0.1 in
      let n1 = limit_words_size e t block types has limit is.1.0.0 in
      let n2 = step_words_size e t block types has step is.1.0.1 in
      let c = stmts_code e (in_turns t) body in
      let u = turn_of e t counter limit (constant_step step) condition line c in
      let n3 = condition_words_size e t block types has condition (words_behind_condition u) is.1.1.0 in
      let n4 = statements_size e (in_turns t) block types has body is.1.1.1.0 in
      let four = act_size line in
      let c0 = start_code e t start in
      let c1 = limit_code e t limit in
      let c2 = step_code e t step in
      let c3 = started_code t counter start in
      let lim = limit_kept e t counter limit (constant_step step) (words_behind_limit u) in
      let con = while_kept e t condition (words_behind_condition u) in
      let rest = stepped_code e t counter (constant_step step) line ++ JumpBack (words_back u) ∷ [] in
      let s1 = size_append (act_code line) ((c0 ++ (c1 ++ (c2 ++ c3))) ++ turns_code u) in
      let s2 = size_append (c0 ++ (c1 ++ (c2 ++ c3))) (turns_code u) in
      let s3 = size_append c0 (c1 ++ (c2 ++ c3)) in
      let s4 = size_append c1 (c2 ++ c3) in
      let s5 = size_append c2 c3 in
      let s0 = size_append (word_stored e (in_turns t) target) (act_code line) in
      let s8 = size_append u.begun (lim ++ (con ++ (c ++ rest))) in
      let s9 = size_append lim (con ++ (c ++ rest)) in
      let s10 = size_append con (c ++ rest) in
      let s11 = size_append c rest in
      let total = size_of (stmt_code e t (Y.DoCount counter start limit step condition body line)) in
      let small1 : max (value_words start) (max (number_if limit) (number_words step)) ≤ total - 3 + 1 =
      most _ _ _ (omega (arith, n0, four, s1, s2, s3))
      (most _ _ _ (omega (arith, n1, four, s1, s2, s3, s4)) (omega (arith, n2, four, s1, s2, s3, s4, s5))) in
      let small2 : max (suc (reference_words target)) (max (bit_if condition) (stmts_words body)) ≤ total - 2 + 1 =
      most _ _ _ (omega (arith, z, four, s0, s1, s2, s8)) (most _ _ _ (omega (arith, n3, four, s1, s2, s8, s9, s10)) (omega (arith, n4, four, s1, s2, s8, s9, s10, s11))) in
      most _ _ _ (omega (arith, small1, four, s1)) (omega (arith, small2, four, s1))
  statement_size e t block types has (Y.Goto level label line) is = omega arith
  statement_size e t block types has (Y.Begin (Y.BlockOf head body)) is = omega arith
  statement_size e t block types has (Y.CallProcedure (Y.Calling procedure level Y.NoArgument) line) is = omega arith
  statement_size e t block types has (Y.Return line) is = omega arith
  statement_size e t block types has (Y.Stop line) is = omega arith
  statement_size e t block types has (Y.Signal condition line) is = omega arith
  statement_size e t block types has (Y.OnSystem condition line) is = omega arith
  statement_size e t block types has (Y.Revert condition line) is = omega arith
  statement_size e t block types has (Y.OnUnit condition (Y.BlockOf head body) line) is = omega arith
  statement_size e t block types has (Y.Put None pairs line) is =
      let n = pairs_size e t block types has pairs is.0 in
      let s = size_append (act_code line) (put_pairs e t pairs) in
      omega (arith, n, s)
  statement_size e t block types has (Y.Put (Some n) pairs line) is =
      let m = pairs_size e t block types has pairs is.1.0 in
      let s1 = size_append (act_code line) (skip_option 1 (Some n) ++ put_pairs e t pairs) in
      let s2 = size_append (skip_option 1 (Some n)) (put_pairs e t pairs) in
      omega (arith, m, s1, s2)
  statement_size e t block types has (Y.Get None pairs line) is =
      let n = got_words e t block types has pairs is.0 in
      let s1 = size_append (act_code line) (skip_option 0 None ++ (get_pairs e t pairs ++ edit_ended)) in
      let s2 = size_append (skip_option 0 None) (get_pairs e t pairs ++ edit_ended) in
      let s3 = size_append (get_pairs e t pairs) edit_ended in
      omega (arith, n, s1, s2, s3)
  statement_size e t block types has (Y.Get (Some k) pairs line) is =
      let n = got_words e t block types has pairs is.1.0 in
      let s1 = size_append (act_code line) (skip_option 0 (Some k) ++ (get_pairs e t pairs ++ edit_ended)) in
      let s2 = size_append (skip_option 0 (Some k)) (get_pairs e t pairs ++ edit_ended) in
      let s3 = size_append (get_pairs e t pairs) edit_ended in
      omega (arith, n, s1, s2, s3)
  statement_size e t block types has _ is = absurd is

  pub statements_size : (e : Environment) (t : Taken) (block : Names) (types : Types) (has : HasTypes e block types) (body : Y.Stmts) → AreProvedStatements block types body → stmts_words body ≤ size_of (stmts_code e t body) + 1
  statements_size e t block types has (Y.EndOfList labels) are = omega arith
  statements_size e t block types has (Y.StmtThen labels first rest) are =
      let a = statement_size e t block types has first are.0 in
      let c = statements_size e t block types has rest are.1 in
      let s1 = size_append (marked e.block labels) (stmt_code e t first ++ stmts_code e t rest) in
      let s2 = size_append (stmt_code e t first) (stmts_code e t rest) in
      most _ _ _ (omega (arith, a, s1, s2)) (omega (arith, c, s1, s2))
