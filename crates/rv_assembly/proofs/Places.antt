-- What is put in its place when the code behind it is known.
use Rattle.std.proofs.Common.{◌≡◌, ℕ, ◌+◌, ◌-◌, ◌<◌, [], ◌∷◌, ◌++◌, length, refl, sym, ap, ◌∙◌, subst, arith, append_assoc, length-append}
use Rattle.std.specs.Prelude.{slice_set, slice_index_or}
use Rattle.std.proofs.Math.Seq.{set-append_seam}
use Rattle.rv_meaning.specs.declared.instr.Register.{Register}
use Rattle.rv_meaning.specs.declared.instr.BranchTest.{BranchTest}
use Rattle.rv_meaning.specs.declared.instr.BranchTest.TheVariants as Test
use Rattle.pli_coding.specs.Registers.{zero_register, a0}
use Rattle.pli_coding.specs.Assembly.{Item, JumpAhead, JumpBack, Code, item_size, size_of}
use Rattle.pli_coding.specs.Instructions.{skip_where, choice, repeated_while_zero}
use Rattle.rv_assembly.specs.declared.place.Place.{Place}
use Rattle.rv_assembly.specs.Places.{branch_kept, jump_kept, branch_place, jump_place, IsPlace, words_behind, words_between, patched, branch, skipped, jumped_over, chosen, repeated_from}
use Rattle.rv_assembly.proofs.Growing.{size_append, size_set, length_set, sizes_set}

at_seam : (before inner : Code) (x blank : Item) → slice_index_or (before ++ (x ∷ inner)) (length before) blank ≡ x
at_seam [] inner x blank = refl
at_seam (y ∷ before) inner x blank = at_seam before inner x blank

within : (before inner : Code) (x : Item) → length before < length (before ++ (x ∷ inner))
within before inner x = omega (arith, length-append before (x ∷ inner))

-- ---- one place

pub is_branch : (before inner : Code) → IsPlace 1 (before ++ (branch_kept ∷ inner)) (branch_place before)
unfolding IsPlace branch_place
is_branch before inner = (within before inner branch_kept, ap item_size (at_seam before inner branch_kept branch_kept))

pub is_jump : (before inner : Code) → IsPlace 2 (before ++ (jump_kept ∷ inner)) (jump_place before)
unfolding IsPlace jump_place
is_jump before inner = (within before inner jump_kept, ap item_size (at_seam before inner jump_kept branch_kept))

less : (n m k : ℕ) → n + (m + k) - (n + m) ≡ k
less n m k = omega arith

pub behind_branch : (before inner : Code) → words_behind (before ++ (branch_kept ∷ inner)) (branch_place before) ≡ size_of inner
unfolding words_behind branch_place
behind_branch before inner = ap (λ n. n - (size_of before + 1)) (size_append before (branch_kept ∷ inner)) ∙ less (size_of before) 1 (size_of inner)

pub behind_jump : (before inner : Code) → words_behind (before ++ (jump_kept ∷ inner)) (jump_place before) ≡ size_of inner
unfolding words_behind jump_place
behind_jump before inner = ap (λ n. n - (size_of before + 2)) (size_append before (jump_kept ∷ inner)) ∙ less (size_of before) 2 (size_of inner)

pub patched_branch : (before inner : Code) (x : Item) → patched (before ++ (branch_kept ∷ inner)) (branch_place before) x ≡ before ++ (x ∷ inner)
unfolding patched branch_place
patched_branch before inner x = set-append_seam before branch_kept inner x

pub patched_jump : (before inner : Code) (x : Item) → patched (before ++ (jump_kept ∷ inner)) (jump_place before) x ≡ before ++ (x ∷ inner)
unfolding patched jump_place
patched_jump before inner x = set-append_seam before jump_kept inner x

-- past the code behind the place
pub skipped_is : (before inner : Code) (test : BranchTest) (r s : Register) → skipped (before ++ (branch_kept ∷ inner)) (branch_place before) test r s ≡ before ++ skip_where test r s inner
skipped_is before inner test r s =
    patched_branch before inner (branch test r s (words_behind (before ++ (branch_kept ∷ inner)) (branch_place before))) ∙ ap (λ n. before ++ (branch test r s n ∷ inner)) (behind_branch before inner)

pub jumped_is : (before inner : Code) → jumped_over (before ++ (jump_kept ∷ inner)) (jump_place before) ≡ before ++ (JumpAhead (size_of inner) ∷ inner)
jumped_is before inner =
    patched_jump before inner (JumpAhead (words_behind (before ++ (jump_kept ∷ inner)) (jump_place before))) ∙ ap (λ n. before ++ (JumpAhead n ∷ inner)) (behind_jump before inner)

-- ---- two places

pub between : (before second : Code) → words_between (branch_place before) (jump_place (before ++ (branch_kept ∷ second))) ≡ size_of second + 2
unfolding words_between branch_place jump_place
between before second =
    let a : size_of (before ++ (branch_kept ∷ second)) ≡ size_of before + (1 + size_of second) = size_append before (branch_kept ∷ second) in
    omega arith

with_jump : (code : Code) (n : ℕ) → size_of code + 2 ≡ size_of (code ++ JumpAhead n ∷ [])
with_jump code n =
    let a : size_of (code ++ JumpAhead n ∷ []) ≡ size_of code + (2 + 0) = size_append code (JumpAhead n ∷ []) in
    omega arith

second_patched : (before second first : Code) (x y : Item) → patched (before ++ (x ∷ (second ++ (jump_kept ∷ first)))) (jump_place (before ++ (branch_kept ∷ second))) y ≡ before ++ (x ∷ (second ++ (y ∷ first)))
unfolding patched jump_place
second_patched before second first x y =
    let same_length : length (before ++ (branch_kept ∷ second)) ≡ length (before ++ (x ∷ second)) = length-append before (branch_kept ∷ second) ∙ sym (length-append before (x ∷ second)) in
    ap (λ u. slice_set u (length (before ++ (branch_kept ∷ second))) y) (sym (append_assoc before (x ∷ second) (jump_kept ∷ first)))
    ∙ ap (λ n. slice_set ((before ++ (x ∷ second)) ++ (jump_kept ∷ first)) n y) same_length
    ∙ set-append_seam (before ++ (x ∷ second)) jump_kept first y
    ∙ append_assoc before (x ∷ second) (y ∷ first)

chosen_whole : (before second first : Code) (test : BranchTest) (r s : Register)
    → chosen (before ++ (branch_kept ∷ (second ++ (jump_kept ∷ first)))) (branch_place before) (jump_place (before ++ (branch_kept ∷ second))) test r s
    ≡ before ++ choice test r s first second
unfolding chosen
chosen_whole before second first test r s =
    let b = branch_place before in
    let j = jump_place (before ++ (branch_kept ∷ second)) in
    let code : Code = before ++ (branch_kept ∷ (second ++ (jump_kept ∷ first))) in
    let x : Item = branch test r s (words_between b j) in
    let behind : words_behind code j ≡ size_of first = ap (λ u. words_behind u j) (sym (append_assoc before (branch_kept ∷ second) (jump_kept ∷ first))) ∙ behind_jump (before ++ (branch_kept ∷ second)) first in
    let one : patched code b x ≡ before ++ (x ∷ (second ++ (jump_kept ∷ first))) = patched_branch before (second ++ (jump_kept ∷ first)) x in
    let two : patched (before ++ (x ∷ (second ++ (jump_kept ∷ first)))) j (JumpAhead (words_behind code j)) ≡ before ++ (x ∷ (second ++ (JumpAhead (words_behind code j) ∷ first))) = second_patched before second first x (JumpAhead (words_behind code j)) in
    let length_is : words_between b j ≡ size_of (second ++ JumpAhead (size_of first) ∷ []) = between before second ∙ with_jump second (size_of first) in
    ap (λ u. patched u j (JumpAhead (words_behind code j))) one
    ∙ two
    ∙ ap (λ n. before ++ (x ∷ (second ++ (JumpAhead n ∷ first)))) behind
    ∙ ap (λ n. before ++ (branch test r s n ∷ (second ++ (JumpAhead (size_of first) ∷ first)))) length_is
    ∙ ap (λ u. before ++ (branch test r s (size_of (second ++ JumpAhead (size_of first) ∷ [])) ∷ u)) (sym (append_assoc second (JumpAhead (size_of first) ∷ []) first))

pub chosen_is : (before second first : Code) (test : BranchTest) (r s : Register)
    → chosen ((before ++ (branch_kept ∷ second)) ++ (jump_kept ∷ first)) (branch_place before) (jump_place (before ++ (branch_kept ∷ second))) test r s
    ≡ before ++ choice test r s first second
chosen_is before second first test r s =
    ap (λ u. chosen u (branch_place before) (jump_place (before ++ (branch_kept ∷ second))) test r s) (append_assoc before (branch_kept ∷ second) (jump_kept ∷ first))
    ∙ chosen_whole before second first test r s

pub repeated_is : (before inner : Code) → repeated_from (size_of before) (before ++ inner) ≡ before ++ repeated_while_zero inner
unfolding repeated_from
repeated_is before inner =
    let whole : size_of (before ++ inner) ≡ size_of before + size_of inner = size_append before inner in
    let size : size_of (before ++ inner) - size_of before + 1 ≡ size_of inner + 1 = omega arith in
    ap (λ n. (before ++ inner) ++ skip_where Test.NotEqual a0 zero_register (JumpBack n ∷ [])) size
    ∙ append_assoc before inner (skip_where Test.NotEqual a0 zero_register (JumpBack (size_of inner + 1) ∷ []))

-- ---- a place that was patched leaves the others

pub still_place : (n m : ℕ) (code : Code) (p q : Place) (x : Item) → IsPlace n code p → item_size x ≡ n → IsPlace m code q → IsPlace m (patched code p x) q
unfolding IsPlace patched
still_place n m code p q x h e k =
    (subst (λ u. q.index < u) (sym (length_set code p.index x)) k.0, sizes_set code p.index q.index x branch_kept (h.1 ∙ sym e) ∙ k.1)

pub size_patched : (n : ℕ) (code : Code) (p : Place) (x : Item) → IsPlace n code p → item_size x ≡ n → size_of (patched code p x) ≡ size_of code
unfolding IsPlace patched
size_patched n code p x h e = size_set code p.index x branch_kept h.0 (h.1 ∙ sym e)

pub behind_patched : (n : ℕ) (code : Code) (p q : Place) (x : Item) → IsPlace n code p → item_size x ≡ n → words_behind (patched code p x) q ≡ words_behind code q
unfolding words_behind
behind_patched n code p q x h e = ap (λ s. s - q.words) (size_patched n code p x h e)
