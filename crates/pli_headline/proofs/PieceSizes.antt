-- How many words pieces of code have at least, which sizes of expressions and statements are put together from.
use Rattle.std.proofs.Common.{◌≡◌, ℕ, suc, ◌+◌, ◌-◌, ◌≤◌, ◌++◌, Bool, true, false, ap, arith}
use Rattle.std.specs.Prelude.{ℤ, cond, max}
use Rattle.std.proofs.lemmas.Bool.Decides.{nat_tests}
use Rattle.rv_meaning.specs.declared.instr.Register.{Register}
use Rattle.pli_typing.specs.TypedTree as Y
use Rattle.pli_coding.specs.Registers.{a0, frame_register}
use Rattle.pli_coding.specs.Assembly.{Code, size_of}
use Rattle.pli_coding.specs.Instructions.{is_immediate, store_word}
use Rattle.pli_coding.specs.Frames.{words_place}
use Rattle.pli_coding.specs.Environments.{Taken, is_register_left, save}
use Rattle.temporary_bounds.specs.WordBounds.{reference_words}
use Rattle.pli_headline.specs.ProvedSoFar.{Names, Types, IsOwn, IsDimension}
use Rattle.run_steps.proofs.Linking.{size_append}

pub most : (a b n : ℕ) → a ≤ n → b ≤ n → max a b ≤ n
most a b n h i = grind (arith, nat_tests)

pub own_words : (block : Names) (types : Types) (type : Y.LeafType) (r : Y.Reference) → IsOwn block types type r
    → reference_words r ≡ 0
own_words block types type r is = ap reference_words is.is

pub asked_words : (block : Names) (types : Types) (r : Y.Reference) (dimension : ℕ)
    → IsDimension block types r dimension → reference_words r ≡ 0
asked_words block types r dimension is = ap reference_words is.is

pub displaced_by : (q : Bool) (x : Code) (y : Code) → 1 ≤ size_of x → 1 ≤ size_of y → 1 ≤ size_of (cond q x y)
displaced_by true x y h i = h
displaced_by false x y h i = i

pub stored_size : (r v : Register) (z : ℤ) → 1 ≤ size_of (store_word r v z)
stored_size r v z = displaced_by (is_immediate z) _ _ (omega arith) (omega arith)

pub saved_size : (r : Register) (t : Taken) → 1 ≤ size_of (save r t)
saved_size r t =
    displaced_by (is_register_left t) _ _ (omega arith) (stored_size frame_register r (words_place t.words 1))

pub both_size : (a c last : Code) (t : Taken) (m n : ℕ) → m ≤ size_of a + 1 → n ≤ size_of c + 1
    → max m (suc n) ≤ size_of (a ++ (save a0 t ++ (c ++ last))) + 1
both_size a c last t m n h i =
    let one = saved_size a0 t in
    let s1 = size_append a (save a0 t ++ (c ++ last)) in
    let s2 = size_append (save a0 t) (c ++ last) in
    let s3 = size_append c last in
    most _ _ _ (omega (arith, h, s1)) (omega (arith, i, one, s1, s2, s3))

-- two texts, one above the other
pub two_size : (a c last : Code) (m n : ℕ) → m ≤ size_of a + 1 → n ≤ size_of c + 1
    → max m n ≤ size_of (a ++ (c ++ last)) + 1
two_size a c last m n h i =
    let s1 = size_append a (c ++ last) in
    let s2 = size_append c last in
    most _ _ _ (omega (arith, h, s1)) (omega (arith, i, s1, s2))
