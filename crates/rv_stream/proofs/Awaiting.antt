-- One jump that leads to an exit.
use Rattle.std.proofs.Common.{◌≡◌, ℕ, ◌+◌, ◌-◌, Bool, true, false, [], ◌∷◌, ◌++◌, refl, sym, ap, ◌∙◌, subst, arith}
use Rattle.std.proofs.Common.{append_assoc}
use Rattle.std.specs.Prelude.{if◌then◌else◌}
use Rattle.rv_meaning.specs.declared.instr.BranchTest.TheVariants as Test
use Rattle.pli_language.specs.declared.condition.Condition.TheVariants as C
use Rattle.pli_language.specs.Tree.{Formats}
use Rattle.pli_typing.specs.TypedTree as Y
use Rattle.pli_meaning.specs.Codes.{endfile_code}
use Rattle.pli_coding.specs.Registers.{a0, u1, u2, zero_register}
use Rattle.pli_coding.specs.Assembly.{JumpAhead, JumpBack, Code, size_of}
use Rattle.pli_coding.specs.Instructions.{skip_where, small}
use Rattle.pli_coding.specs.Environments.{Environment, Taken, save}
use Rattle.pli_coding.specs.Arithmetic.{raised}
use Rattle.pli_coding.specs.Locating.{leaf_number}
use Rattle.pli_coding.specs.Expressions.{type_in}
use Rattle.pli_coding.specs.Storing.{record_code}
use Rattle.pli_coding.specs.Streams.{Elements, by_distance, controls_carried_out, counted_element_got, counted_got}
use Rattle.pli_coding.specs.Streams.{distance_counted, is_counted, element_got, elements_begun, elements_got}
use Rattle.pli_coding.specs.Streams.{elements_of, field_awaited, field_stored, item_got, next_asked, next_counted}
use Rattle.pli_coding.specs.Streams.{turns}
use Rattle.rv_assembly.specs.declared.place.Place.{Place}
use Rattle.rv_assembly.specs.Places.{IsPlace, branch, jump_kept, jump_place, patched}
use Rattle.rv_assembly.proofs.Growing.{size_append}
use Rattle.rv_assembly.proofs.Places.{is_jump, patched_jump}
use Rattle.rv_item.specs.Ends.{end_first, exit_behind}
use Rattle.rv_stream.specs.Exits.{counted_exit, counted_kept, elements_exit, elements_kept, item_exit, item_kept}
use Rattle.rv_stream.specs.Exits.{scalar_kept}
use Rattle.rv_item.specs.Turns.{turn_begun}
use Rattle.rv_stream.proofs.Shapes.{alike_behind, same_exit, same_jump}

-- what stands before the jump
abbrev first : Code
first = controls_carried_out ++ (small u1 3 ∷ (branch Test.NotEqual a0 u1 6 ∷ raised C.Endfile endfile_code))

abbrev kept_first : Code
kept_first = controls_carried_out ++ (small u1 3 ∷ end_first)

exit_is : (before : Code) → exit_behind before ≡ jump_place (before ++ first)
unfolding exit_behind
exit_is before = same_jump (before ++ kept_first) (before ++ first) (alike_behind before kept_first first (record { lengths = refl; sizes = refl }))

pub exit_words : (before : Code) → (exit_behind before).words ≡ size_of before + 13
unfolding exit_behind jump_place
exit_words before =
    let a : size_of (before ++ kept_first) ≡ size_of before + 11 = size_append before kept_first in
    omega arith

pub awaited_led : (before more : Code) (n : ℕ) → patched (before ++ (field_awaited 0 ++ more)) (exit_behind before) (JumpAhead n) ≡ before ++ (field_awaited n ++ more)
awaited_led before more n =
    ap (λ u. patched u (exit_behind before) (JumpAhead n)) (sym (append_assoc before first (jump_kept ∷ more)))
    ∙ ap (λ p. patched ((before ++ first) ++ (jump_kept ∷ more)) p (JumpAhead n)) (exit_is before)
    ∙ patched_jump (before ++ first) more (JumpAhead n)
    ∙ append_assoc before first (JumpAhead n ∷ more)

pub awaited_kept : (before more : Code) → IsPlace 2 (before ++ (field_awaited 0 ++ more)) (exit_behind before)
awaited_kept before more =
    subst (λ u. IsPlace 2 u (exit_behind before)) (append_assoc before first (jump_kept ∷ more))
    (subst (λ p. IsPlace 2 ((before ++ first) ++ (jump_kept ∷ more)) p) (sym (exit_is before)) (is_jump (before ++ first) more))

-- ---- in a turn

abbrev turn_first : Elements → (asked each : Code) → Code
turn_first l asked each = asked ++ (branch Test.NotEqual a0 u1 2 ∷ JumpAhead (size_of each + (size_of (next_counted l) + 2)) ∷ [])

abbrev turn_last : Elements → (asked each : Code) → Code
turn_last l asked each = next_counted l ++ JumpBack (size_of (asked) + (3 + (size_of each + size_of (next_counted l)))) ∷ []

opened : (before a b loaded front each last more : Code) → before ++ ((a ++ (b ++ (loaded ++ (front ++ (each ++ last))))) ++ more) ≡ (before ++ (a ++ (b ++ (loaded ++ front)))) ++ (each ++ (last ++ more))
opened before a b loaded front each last more = simp append_assoc refl

turn_opened : (before a b asked each more : Code) (l : Elements) → before ++ ((a ++ (b ++ turns l asked each)) ++ more) ≡ (before ++ (a ++ (b ++ turn_first l asked each))) ++ (each ++ (turn_last l asked each ++ more))
turn_opened before a b asked each more l = opened before a b asked (branch Test.NotEqual a0 u1 2 ∷ JumpAhead (size_of each + (size_of (next_counted l) + 2)) ∷ []) each (turn_last l asked each) more

turn_exit : (before a b asked inner : Code) (l : Elements) → exit_behind (before ++ (a ++ (b ++ turn_begun asked))) ≡ exit_behind (before ++ (a ++ (b ++ turn_first l asked (field_awaited 0 ++ inner))))
unfolding turn_begun
turn_exit before a b asked inner l =
    same_exit _ _ (alike_behind before _ _ (alike_behind a _ _ (alike_behind b _ _ (alike_behind asked _ _ (record { lengths = refl; sizes = refl })))))

turn_led : (before a b asked inner more : Code) (l : Elements) (n : ℕ)
    → patched (before ++ ((a ++ (b ++ turns l asked (field_awaited 0 ++ inner))) ++ more)) (exit_behind (before ++ (a ++ (b ++ turn_begun asked)))) (JumpAhead n)
    ≡ before ++ ((a ++ (b ++ turns l asked (field_awaited n ++ inner))) ++ more)
turn_led before a b asked inner more l n =
    ap (λ u. patched u (exit_behind (before ++ (a ++ (b ++ turn_begun asked)))) (JumpAhead n)) (turn_opened before a b asked (field_awaited 0 ++ inner) more l)
    ∙ ap (λ p. patched ((before ++ (a ++ (b ++ turn_first l asked (field_awaited 0 ++ inner)))) ++ ((field_awaited 0 ++ inner) ++ (turn_last l asked (field_awaited 0 ++ inner) ++ more))) p (JumpAhead n)) (turn_exit before a b asked inner l)
    ∙ awaited_led (before ++ (a ++ (b ++ turn_first l asked (field_awaited 0 ++ inner)))) (inner ++ (turn_last l asked (field_awaited 0 ++ inner) ++ more)) n
    ∙ sym (turn_opened before a b asked (field_awaited n ++ inner) more l)

turn_kept : (before a b asked inner more : Code) (l : Elements) → IsPlace 2 (before ++ ((a ++ (b ++ turns l asked (field_awaited 0 ++ inner))) ++ more)) (exit_behind (before ++ (a ++ (b ++ turn_begun asked))))
turn_kept before a b asked inner more l =
    subst (λ u. IsPlace 2 u (exit_behind (before ++ (a ++ (b ++ turn_begun asked))))) (sym (turn_opened before a b asked (field_awaited 0 ++ inner) more l))
    (subst (λ p. IsPlace 2 ((before ++ (a ++ (b ++ turn_first l asked (field_awaited 0 ++ inner)))) ++ ((field_awaited 0 ++ inner) ++ (turn_last l asked (field_awaited 0 ++ inner) ++ more))) p) (sym (turn_exit before a b asked inner l))
    (awaited_kept (before ++ (a ++ (b ++ turn_first l asked (field_awaited 0 ++ inner)))) (inner ++ (turn_last l asked (field_awaited 0 ++ inner) ++ more))))

-- ---- of an item

scalar_far : (before inner : Code) (behind end : ℕ) → end ≡ size_of before + (size_of (field_awaited 0 ++ inner) + behind) → end - (exit_behind before).words ≡ size_of inner + behind
scalar_far before inner behind end h =
    let s : size_of (field_awaited 0 ++ inner) ≡ 13 + size_of inner = size_append (field_awaited 0) inner in
    let w : (exit_behind before).words ≡ size_of before + 13 = exit_words before in
    omega arith

turn_far : (before a b asked inner : Code) (l : Elements) (behind end : ℕ) → end ≡ size_of before + (size_of (a ++ (b ++ turns l asked (field_awaited 0 ++ inner))) + behind)
    → end - (exit_behind (before ++ (a ++ (b ++ turn_begun asked)))).words ≡ size_of inner + (size_of (next_counted l) + (2 + behind))
unfolding turn_begun
turn_far before a b asked inner l behind end h =
    let w : (exit_behind (before ++ (a ++ (b ++ turn_begun asked)))).words ≡ size_of (before ++ (a ++ (b ++ turn_begun asked))) + 13 = exit_words (before ++ (a ++ (b ++ turn_begun asked))) in
    let s1 : size_of (before ++ (a ++ (b ++ turn_begun asked))) ≡ size_of before + size_of (a ++ (b ++ turn_begun asked)) = size_append before (a ++ (b ++ turn_begun asked)) in
    let s2 : size_of (a ++ (b ++ turn_begun asked)) ≡ size_of a + size_of (b ++ turn_begun asked) = size_append a (b ++ turn_begun asked) in
    let s3 : size_of (b ++ turn_begun asked) ≡ size_of b + size_of (turn_begun asked) = size_append b (turn_begun asked) in
    let s4 : size_of (turn_begun asked) ≡ size_of (asked) + 3 = size_append asked (branch Test.NotEqual a0 u1 2 ∷ jump_kept ∷ []) in
    let k1 : size_of (a ++ (b ++ turns l asked (field_awaited 0 ++ inner))) ≡ size_of a + size_of (b ++ turns l asked (field_awaited 0 ++ inner)) = size_append a (b ++ turns l asked (field_awaited 0 ++ inner)) in
    let k2 : size_of (b ++ turns l asked (field_awaited 0 ++ inner)) ≡ size_of b + size_of (turns l asked (field_awaited 0 ++ inner)) = size_append b (turns l asked (field_awaited 0 ++ inner)) in
    let k3 : size_of (turns l asked (field_awaited 0 ++ inner)) ≡ size_of (asked) + (1 + (2 + size_of ((field_awaited 0 ++ inner) ++ turn_last l asked (field_awaited 0 ++ inner)))) = size_append asked _ in
    let k4 : size_of ((field_awaited 0 ++ inner) ++ turn_last l asked (field_awaited 0 ++ inner)) ≡ size_of (field_awaited 0 ++ inner) + size_of (turn_last l asked (field_awaited 0 ++ inner)) = size_append (field_awaited 0 ++ inner) (turn_last l asked (field_awaited 0 ++ inner)) in
    let k6 : size_of (field_awaited 0 ++ inner) ≡ 13 + size_of inner = size_append (field_awaited 0) inner in
    let k5 : size_of (turn_last l asked (field_awaited 0 ++ inner)) ≡ size_of (next_counted l) + 2 = size_append (next_counted l) _ in
    omega arith

elements_led : (e : Environment) (l : Elements) (formats : Formats) (r : Y.Reference) (before more :
    Code) (behind end : ℕ) → end ≡ size_of before + (size_of (elements_kept e l formats r) + behind)
    → patched (before ++ (elements_kept e l formats r ++ more)) (elements_exit e l r before)
    (JumpAhead (end - (elements_exit e l r before).words)) ≡ before ++ (elements_got e l formats r behind ++ more)
unfolding elements_kept elements_exit
elements_led e l formats r before more behind end h =
    let a : Code = record_code e l.taken r in
    let b : Code = elements_begun l in
    let asked : Code = next_asked e l r in
    let inner : Code = element_got e l formats r in
    ap (λ n. patched (before ++ ((a ++ (b ++ turns l asked (field_awaited 0 ++ inner))) ++ more)) (exit_behind (before ++ (a ++ (b ++ turn_begun asked)))) (JumpAhead n)) (turn_far before a b asked inner l behind end h)
    ∙ turn_led before a b asked inner more l (size_of inner + (size_of (next_counted l) + (2 + behind)))

-- ---- of an array whose elements are counted by their distance

abbrev counted_last : Taken → Y.Leaf → (each : Code) → Code
counted_last t l each = skip_where Test.Equal u1 u2 (JumpBack (size_of (each ++ distance_counted t l) + 1) ∷ [])

counted_opened : (before first awaited inner counted last more : Code)
    → before ++ ((first ++ (((awaited ++ inner) ++ counted) ++ last)) ++ more) ≡ (before ++ first)
    ++ (awaited ++ (inner ++ (counted ++ (last ++ more))))
counted_opened before first awaited inner counted last more = simp append_assoc refl

distance_opened : (before inner more : Code) (t : Taken) (l : Y.Leaf) (n : ℕ)
    → before ++ (by_distance t l (field_awaited n ++ inner) ++ more)
    ≡ (before ++ save zero_register t)
    ++ (field_awaited n
    ++ (inner ++ (distance_counted t l ++ (counted_last t l (field_awaited 0 ++ inner) ++ more))))
distance_opened before inner more t l n =
    counted_opened before (save zero_register t) (field_awaited n) inner (distance_counted t l)
    (counted_last t l (field_awaited 0 ++ inner)) more

distance_led : (before inner more : Code) (t : Taken) (l : Y.Leaf) (n : ℕ)
    → patched (before ++ (by_distance t l (field_awaited 0 ++ inner) ++ more)) (counted_exit t before) (JumpAhead n)
    ≡ before ++ (by_distance t l (field_awaited n ++ inner) ++ more)
unfolding counted_exit
distance_led before inner more t l n =
    ap (λ u. patched u (exit_behind (before ++ save zero_register t)) (JumpAhead n))
    (distance_opened before inner more t l 0)
    ∙ awaited_led (before ++ save zero_register t)
    (inner ++ (distance_counted t l ++ (counted_last t l (field_awaited 0 ++ inner) ++ more))) n
    ∙ sym (distance_opened before inner more t l n)

distance_kept : (before inner more : Code) (t : Taken) (l : Y.Leaf)
    → IsPlace 2 (before ++ (by_distance t l (field_awaited 0 ++ inner) ++ more)) (counted_exit t before)
unfolding counted_exit
distance_kept before inner more t l =
    subst (λ u. IsPlace 2 u (exit_behind (before ++ save zero_register t)))
    (sym (distance_opened before inner more t l 0))
    (awaited_kept (before ++ save zero_register t)
    (inner ++ (distance_counted t l ++ (counted_last t l (field_awaited 0 ++ inner) ++ more))))

distance_far : (before inner : Code) (t : Taken) (l : Y.Leaf) (behind end : ℕ)
    → end ≡ size_of before + (size_of (by_distance t l (field_awaited 0 ++ inner)) + behind)
    → end - (counted_exit t before).words ≡ size_of inner + (size_of (distance_counted t l) + (3 + behind))
unfolding counted_exit
distance_far before inner t l behind end h =
    let first : Code = save zero_register t in
    let each : Code = field_awaited 0 ++ inner in
    let turn : Code = each ++ distance_counted t l in
    let w : (exit_behind (before ++ first)).words ≡ size_of (before ++ first) + 13 = exit_words (before ++ first) in
    let s1 : size_of (before ++ first) ≡ size_of before + size_of first = size_append before first in
    let k1 : size_of (by_distance t l each) ≡ size_of first + size_of (turn ++ counted_last t l each) =
    size_append first (turn ++ counted_last t l each) in
    let k2 : size_of (turn ++ counted_last t l each) ≡ size_of turn + 3 = size_append turn (counted_last t l each) in
    let k3 : size_of turn ≡ size_of each + size_of (distance_counted t l) = size_append each (distance_counted t l) in
    let k4 : size_of each ≡ 13 + size_of inner = size_append (field_awaited 0) inner in
    omega arith

counted_led : (e : Environment) (t : Taken) (formats : Formats) (r : Y.Reference) (before more : Code) (behind end :
    ℕ) → end ≡ size_of before + (size_of (counted_kept e t formats r) + behind)
    → patched (before ++ (counted_kept e t formats r ++ more)) (counted_exit t before)
    (JumpAhead (end - (counted_exit t before).words)) ≡ before ++ (counted_got e t formats r behind ++ more)
unfolding counted_kept
counted_led e t formats (Y.Referring v locator part subscripts) before more behind end h =
    let l : Y.Leaf = leaf_number e v part.first in
    let inner : Code = counted_element_got e t formats v part in
    ap (λ n. patched (before ++ (by_distance t l (field_awaited 0 ++ inner) ++ more)) (counted_exit t before)
    (JumpAhead n)) (distance_far before inner t l behind end h)
    ∙ distance_led before inner more t l (size_of inner + (size_of (distance_counted t l) + (3 + behind)))

counted_is_kept : (e : Environment) (t : Taken) (formats : Formats) (r : Y.Reference) (before more : Code)
    → IsPlace 2 (before ++ (counted_kept e t formats r ++ more)) (counted_exit t before)
unfolding counted_kept
counted_is_kept e t formats (Y.Referring v locator part subscripts) before more =
    distance_kept before (counted_element_got e t formats v part) more t (leaf_number e v part.first)

-- ---- of either

abbrev kept_by : (counted : Bool) → Environment → Taken → Formats → Y.Reference → Code
kept_by counted e t formats r = if counted then counted_kept e t formats r else elements_kept e (elements_of t r)
    formats r

abbrev exit_by : (counted : Bool) → Environment → Taken → (before : Code) → Y.Reference → Place
exit_by counted e t before r = if counted then counted_exit t before else elements_exit e (elements_of t r) r before

aggregate_led : (counted : Bool) (e : Environment) (t : Taken) (formats : Formats) (r : Y.Reference) (before more :
    Code) (behind end : ℕ) → end ≡ size_of before + (size_of (kept_by counted e t formats r) + behind)
    → patched (before ++ (kept_by counted e t formats r ++ more)) (exit_by counted e t before r)
    (JumpAhead (end - (exit_by counted e t before r).words))
    ≡ before
    ++ ((if counted then counted_got e t formats r behind else elements_got e (elements_of t r) formats r behind)
    ++ more)
aggregate_led true e t formats r before more behind end h = counted_led e t formats r before more behind end h
aggregate_led false e t formats r before more behind end h =
    elements_led e (elements_of t r) formats r before more behind end h

aggregate_is_kept : (counted : Bool) (e : Environment) (t : Taken) (formats : Formats) (r :
    Y.Reference) (before more : Code)
    → IsPlace 2 (before ++ (kept_by counted e t formats r ++ more)) (exit_by counted e t before r)
unfolding elements_kept elements_exit
aggregate_is_kept true e t formats r before more = counted_is_kept e t formats r before more
aggregate_is_kept false e t formats r before more =
    turn_kept before (record_code e (elements_of t r).taken r) (elements_begun (elements_of t r))
    (next_asked e (elements_of t r) r) (element_got e (elements_of t r) formats r) more (elements_of t r)

pub item_led : (e : Environment) (t : Taken) (formats : Formats) (i : Y.GetItem) (before more : Code) (behind end : ℕ)
    → end ≡ size_of before + (size_of (item_kept e t formats i) + behind)
    → patched (before ++ (item_kept e t formats i ++ more)) (item_exit e t before i)
    (JumpAhead (end - (item_exit e t before i).words)) ≡ before ++ (item_got e t formats i behind ++ more)
unfolding scalar_kept
item_led e t formats (Y.GetScalar r) before more behind end h =
    let inner : Code = field_stored e t formats r (type_in e r) in
    ap (λ n. patched (before ++ (field_awaited 0 ++ (inner ++ more))) (exit_behind before) (JumpAhead n))
    (scalar_far before inner behind end h)
    ∙ awaited_led before (inner ++ more) (size_of inner + behind)
item_led e t formats (Y.GetAggregate r) before more behind end h =
    aggregate_led (is_counted e r) e t formats r before more behind end h

pub item_is_kept : (e : Environment) (t : Taken) (formats : Formats) (i : Y.GetItem) (before more : Code) → IsPlace 2 (before ++ (item_kept e t formats i ++ more)) (item_exit e t before i)
unfolding scalar_kept
item_is_kept e t formats (Y.GetScalar r) before more = awaited_kept before (field_stored e t formats r (type_in e r) ++ more)
item_is_kept e t formats (Y.GetAggregate r) before more = aggregate_is_kept (is_counted e r) e t formats r before more
