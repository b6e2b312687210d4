-- A procedure of what is proved so far takes fewer words for temporaries than its code has; and the first memory has
-- its full length.
use Rattle.std.proofs.Common.{◌≡◌, ℕ, ◌+◌, ◌-◌, ◌*◌, ◌^◌, ◌≤◌, List, [], ◌∷◌, ◌++◌, length, None, refl, ap, ◌∙◌}
use Rattle.std.proofs.Common.{arith, length-append}
use Rattle.std.specs.Prelude.{max, map, replicate, if◌then◌else◌}
use Rattle.std.proofs.lemmas.List.{length-map, length-replicate}
use Rattle.rv_meaning.specs.Memory.{bytes_of_words}
use Rattle.rv_meaning.specs.Encoding.{word_of}
use Rattle.rv_meaning.specs.Machine.{memory_size}
use Rattle.rv_meaning.proofs.ImageBytes.{length-bytes_of_words}
use Rattle.pli_typing.specs.Signatures.{rounded_up}
use Rattle.pli_typing.specs.TypedTree as Y
use Rattle.pli_meaning.specs.DeclaredShapes.{variables_of_block}
use Rattle.pli_meaning.specs.Pictures.{Picture, first_bytes}
use Rattle.pli_coding.specs.Assembly.{size_of}
use Rattle.pli_coding.specs.Environments.{Environment, none_taken}
use Rattle.pli_coding.specs.Statements.{block_words, stmts_code, block_held}
use Rattle.pli_headline.specs.ProvedSoFar.{Names, ArePlain, Types, AreProvedStatements, array_variable}
use Rattle.pli_coding.specs.Procedures.{procedure_begun, procedure_ended, procedure_in}
use Rattle.temporary_bounds.specs.WordBounds.{stmts_words, variables_words, extents_words}
use Rattle.temporary_bounds.proofs.StatementBounds.{block_bound}
use Rattle.pli_headline.specs.Headline.{FitsMemory}
use Rattle.pli_headline.proofs.Scalars.{by_plain}
use Rattle.run_steps.proofs.Linking.{size_append}
use Rattle.pli_headline.proofs.Variables.{HasTypes}
use Rattle.pli_headline.proofs.ArrayFrames.{held_constant}
use Rattle.pli_headline.proofs.PieceSizes.{most}
use Rattle.pli_headline.proofs.Sizes.{statements_size}

-- ---- words of the procedure

pub no_variable_words : (ds : List Y.DeclaredVariable) → ArePlain ds → variables_words ds ≡ 0
no_variable_words [] are = refl
no_variable_words (d ∷ ds) are =
    by_plain (λ u. variables_words (u ∷ ds) ≡ max 0 (variables_words ds)) (λ p i. refl) (λ i. refl) (λ n i. refl)
    (λ n i. refl)
    (λ type b bs i held are'. ap (λ q. max (if q then 0 else extents_words (array_variable type (b ∷ bs) i))
    (variables_words ds)) (held_constant type held (b ∷ bs) i)) d are.0
    ∙ ap (λ n. max 0 n) (no_variable_words ds are.1)

-- they are fewer than the words of its code
pub procedure_size : (e : Environment) (head : Y.BlockHead) (block : Names) (types : Types) (body : Y.Stmts)
    → HasTypes e block types → ArePlain (variables_of_block e.program head.number)
    → AreProvedStatements block types body
    → block_words e head.number body ≤ size_of (procedure_in e head body [] None)
procedure_size e head block types body has plain are =
    let words = block_words e head.number body in
    let held = block_held e head.number body in
    let begun = procedure_begun e head words held [] in
    let code = stmts_code e none_taken body in
    let ended = procedure_ended e head words held None in
    let none = no_variable_words (variables_of_block e.program head.number) plain in
    let n = statements_size e none_taken block types has body are in
    let s1 = size_append begun (code ++ ended) in
    let s2 = size_append code ended in
    let room : stmts_words body ≤ size_of (procedure_in e head body [] None) = omega (arith, n, s1, s2) in
    let b = block_bound e.program head.number body in
    omega (arith, b, none, room)

-- ---- the first memory

memory_length : (c gap statics n : ℕ) → gap ≡ rounded_up 16 c - c → c ≤ 4 * 2 ^ 20 → statics ≤ 3 * 2 ^ 20
    → n ≡ memory_size - (rounded_up 16 c + statics) → c + (gap + (statics + n)) ≡ memory_size
memory_length c gap statics n e h i f = omega (arith, e, h, i, f)

pub first_length : (image : Picture) → FitsMemory image → length (first_bytes image) ≡ memory_size
first_length image fits =
    let code = bytes_of_words (map word_of image.code) in
    let n = length code in
    let gap : List ℕ = replicate (rounded_up 16 n - n) 0 in
    let rest : List ℕ = replicate (memory_size - (rounded_up 16 n + length image.statics)) 0 in
    let a = length-append code (gap ++ (image.statics ++ rest)) in
    let b = length-append gap (image.statics ++ rest) in
    let c = length-append image.statics rest in
    let words = length-bytes_of_words (map word_of image.code) in
    let same = length-map image.code word_of in
    let small' = fits.code_fits in
    let m = memory_length n (length gap) (length image.statics) (length rest)
    (length-replicate (rounded_up 16 n - n) 0) (omega (arith, words, same, small')) fits.statics_fit
    (length-replicate (memory_size - (rounded_up 16 n + length image.statics)) 0) in
    omega (arith, a, b, c, m)
