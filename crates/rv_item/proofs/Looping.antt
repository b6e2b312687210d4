-- What turns come to.
use Rattle.std.proofs.Common.{◌≡◌, ℕ, zero, suc, ◌+◌, ◌-◌, ◌<◌, [], ◌∷◌, ◌++◌, length, refl, sym, ap, ◌∙◌, subst, arith, append_assoc, length-append}
use Rattle.std.specs.Prelude.{slice_index_or}
use Rattle.rv_meaning.specs.declared.instr.BranchTest.TheVariants as Test
use Rattle.pli_coding.specs.Registers.{a0, u1}
use Rattle.pli_coding.specs.Assembly.{Item, JumpAhead, JumpBack, Code, item_size, size_of}
use Rattle.pli_coding.specs.Streams.{Elements, next_counted, turns}
use Rattle.rv_assembly.specs.declared.place.Place.{Place}
use Rattle.rv_assembly.specs.Places.{IsPlace, branch, branch_kept, jump_kept, jump_place, jumped_over}
use Rattle.rv_assembly.proofs.Growing.{size_append}
use Rattle.rv_assembly.proofs.Places.{is_jump, jumped_is}
use Rattle.rv_item.specs.Turns.{turn_begun, turn_ended, turn_tested}

same_there : (code more : Code) (i : ℕ) (blank : Item) → i < length code → slice_index_or (code ++ more) i blank ≡ slice_index_or code i blank
same_there [] more i blank h = absurd (omega arith)
same_there (x ∷ code) more zero blank h = refl
same_there (x ∷ code) more (suc i) blank h = same_there code more i blank (omega arith)

pub place_stays : (n : ℕ) (code more : Code) (p : Place) → IsPlace n code p → IsPlace n (code ++ more) p
unfolding IsPlace
place_stays n code more p h =
    let longer : length (code ++ more) ≡ length code + length more = length-append code more in
    let there : p.index < length code = h.0 in
    (omega arith, ap item_size (same_there code more p.index branch_kept h.0) ∙ h.1)

-- ---- what stands before the place

begun_is : (before asked : Code) → before ++ turn_begun asked ≡ (before ++ turn_tested asked) ++ jump_kept ∷ []
unfolding turn_begun turn_tested
begun_is before asked =
    ap (λ u. before ++ u) (sym (append_assoc (asked) (branch Test.NotEqual a0 u1 2 ∷ []) (jump_kept ∷ [])))
    ∙ sym (append_assoc before (asked ++ branch Test.NotEqual a0 u1 2 ∷ []) (jump_kept ∷ []))

with_each : (before each asked : Code) → (before ++ turn_begun asked) ++ each ≡ (before ++ turn_tested asked) ++ (jump_kept ∷ each)
with_each before each asked =
    ap (λ u. u ++ each) (begun_is before asked) ∙ append_assoc (before ++ turn_tested asked) (jump_kept ∷ []) each

pub is_turn : (before each asked : Code) → IsPlace 2 ((before ++ turn_begun asked) ++ each) (jump_place (before ++ turn_tested asked))
is_turn before each asked =
    subst (λ u. IsPlace 2 u (jump_place (before ++ turn_tested asked))) (sym (with_each before each asked)) (is_jump (before ++ turn_tested asked) each)

-- ---- the whole

before_counted : (before each asked : Code) (l : Elements) → size_of (((before ++ turn_begun asked) ++ each) ++ next_counted l) - size_of before ≡ size_of (asked) + (3 + (size_of each + size_of (next_counted l)))
unfolding turn_begun
before_counted before each asked l =
    let a : size_of (((before ++ turn_begun asked) ++ each) ++ next_counted l) ≡ size_of ((before ++ turn_begun asked) ++ each) + size_of (next_counted l) = size_append ((before ++ turn_begun asked) ++ each) (next_counted l) in
    let b : size_of ((before ++ turn_begun asked) ++ each) ≡ size_of (before ++ turn_begun asked) + size_of each = size_append (before ++ turn_begun asked) each in
    let d : size_of (before ++ turn_begun asked) ≡ size_of before + size_of (turn_begun asked) = size_append before (turn_begun asked) in
    let f : size_of (turn_begun asked) ≡ size_of (asked) + 3 = size_append (asked) (branch Test.NotEqual a0 u1 2 ∷ jump_kept ∷ []) in
    omega arith

behind_each : (each : Code) (l : Elements) (n : ℕ) → size_of (each ++ (next_counted l ++ JumpBack n ∷ [])) ≡ size_of each + (size_of (next_counted l) + 2)
behind_each each l n =
    let a : size_of (each ++ (next_counted l ++ JumpBack n ∷ [])) ≡ size_of each + size_of (next_counted l ++ JumpBack n ∷ []) = size_append each (next_counted l ++ JumpBack n ∷ []) in
    let b : size_of (next_counted l ++ JumpBack n ∷ []) ≡ size_of (next_counted l) + 2 = size_append (next_counted l) (JumpBack n ∷ []) in
    omega arith

written : (before each asked : Code) (l : Elements) (n : ℕ) → (((before ++ turn_begun asked) ++ each) ++ next_counted l) ++ JumpBack n ∷ [] ≡ (before ++ turn_tested asked) ++ (jump_kept ∷ (each ++ (next_counted l ++ JumpBack n ∷ [])))
written before each asked l n =
    append_assoc ((before ++ turn_begun asked) ++ each) (next_counted l) (JumpBack n ∷ [])
    ∙ ap (λ u. u ++ (next_counted l ++ JumpBack n ∷ [])) (with_each before each asked)
    ∙ append_assoc (before ++ turn_tested asked) (jump_kept ∷ each) (next_counted l ++ JumpBack n ∷ [])

gathered : (before inner asked : Code) (x : Item) → (before ++ turn_tested asked) ++ (x ∷ inner) ≡ before ++ (asked ++ (branch Test.NotEqual a0 u1 2 ∷ x ∷ inner))
unfolding turn_tested
gathered before inner asked x =
    append_assoc before (asked ++ branch Test.NotEqual a0 u1 2 ∷ []) (x ∷ inner)
    ∙ ap (λ u. before ++ u) (append_assoc (asked) (branch Test.NotEqual a0 u1 2 ∷ []) (x ∷ inner))

pub turned : (before each asked : Code) (l : Elements) → turn_ended (size_of before) (jump_place (before ++ turn_tested asked)) l ((before ++ turn_begun asked) ++ each) ≡ before ++ turns l asked each
unfolding turn_ended
turned before each asked l =
    let p = jump_place (before ++ turn_tested asked) in
    let n = size_of (((before ++ turn_begun asked) ++ each) ++ next_counted l) - size_of before in
    let inner : Code = each ++ (next_counted l ++ JumpBack n ∷ []) in
    ap (λ u. jumped_over u p) (written before each asked l n)
    ∙ jumped_is (before ++ turn_tested asked) inner
    ∙ gathered before inner asked (JumpAhead (size_of inner))
    ∙ ap (λ k. before ++ (asked ++ (branch Test.NotEqual a0 u1 2 ∷ JumpAhead k ∷ inner))) (behind_each each l n)
    ∙ ap (λ k. before ++ (asked ++ (branch Test.NotEqual a0 u1 2 ∷ JumpAhead (size_of each + (size_of (next_counted l) + 2)) ∷ (each ++ (next_counted l ++ JumpBack k ∷ []))))) (before_counted before each asked l)

-- ---- with what is done in two pieces

pub is_turn_of : (before a b asked : Code) → IsPlace 2 (((before ++ turn_begun asked) ++ a) ++ b) (jump_place (before ++ turn_tested asked))
is_turn_of before a b asked =
    subst (λ u. IsPlace 2 u (jump_place (before ++ turn_tested asked))) (sym (append_assoc (before ++ turn_begun asked) a b)) (is_turn before (a ++ b) asked)

pub turned_of : (before a b asked : Code) (l : Elements) → turn_ended (size_of before) (jump_place (before ++ turn_tested asked)) l (((before ++ turn_begun asked) ++ a) ++ b) ≡ before ++ turns l asked (a ++ b)
turned_of before a b asked l =
    ap (turn_ended (size_of before) (jump_place (before ++ turn_tested asked)) l) (append_assoc (before ++ turn_begun asked) a b) ∙ turned before (a ++ b) asked l
