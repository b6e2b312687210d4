-- What the code of a statement comes to, once the statements that it holds are written and its jumps have their words.
use Rattle.std.proofs.Common.{◌≡◌, ℕ, ◌+◌, ◌-◌, [], ◌∷◌, ◌++◌, refl, sym, ap, ◌∙◌, arith, append_assoc}
use Rattle.std.specs.Prelude.{ℤ, Option, Some, None}
use Rattle.rv_meaning.specs.declared.instr.BranchTest.TheVariants as Test
use Rattle.pli_language.specs.declared.condition.Condition.{Condition}
use Rattle.pli_typing.specs.TypedTree as Y
use Rattle.pli_coding.specs.Registers.{zero_register, frame_register, a0, a1}
use Rattle.pli_coding.specs.Assembly.{Item, OffsetAhead, JumpAhead, JumpBack, Code, size_of}
use Rattle.pli_coding.specs.Instructions.{move, service, skip_where}
use Rattle.pli_coding.specs.Environments.{Environment, Taken}
use Rattle.pli_coding.specs.Expressions.{bit_code}
use Rattle.pli_coding.specs.Storing.{assignment_code}
use Rattle.pli_coding.specs.Allocating.{act_code}
use Rattle.pli_coding.specs.Entries.{block_left, entered_without_texts, frame_begun, frame_ended, variables_code}
use Rattle.pli_coding.specs.Statements.{begin_environment, condition_given, constant_step, count_begun, in_turns}
use Rattle.pli_coding.specs.Statements.{limit_kept, once_code, stepped_code, turn_of, turns_code, unit_environment}
use Rattle.pli_coding.specs.Statements.{unit_left, unit_mark, unit_variables, while_kept}
use Rattle.rv_assembly.specs.declared.place.Place.{Place}
use Rattle.rv_assembly.specs.Places.{jump_kept, jump_place, jumped_over, patched, words_behind}
use Rattle.rv_assembly.proofs.Growing.{size_append}
use Rattle.rv_statement.specs.declared.turn.Turn.{Turn}
use Rattle.rv_statement.specs.declared.turn.Repeat.{Repeat}
use Rattle.rv_statement.specs.Ahead.{ComesTo, ComesToIf, jumped_if, jumped_past, turned_back}
use Rattle.rv_statement.specs.Pieces.{acted, assign_statement, begin_statement, bit_tested, block_begun, block_ended, count_statement, counting, held_back, if_else_statement, if_statement, once_begun, once_statement, once_tested, stepped, test_begun, turn_opened, unit_announced, unit_begun, unit_ended, unit_gone, unit_statement, unit_told, while_statement}
use Rattle.rv_statement.specs.Turning.{TurnBegun, WhileBegun}
use Rattle.rv_statement.proofs.Placing.{comes_kept, over, over_if}

-- past so many words where a0 isn't 1
abbrev ahead : ℕ → Code
ahead n = skip_where Test.NotEqual a0 zero_register (JumpAhead n ∷ [])

-- ---- IF

regroup_if : (o a b s u : Code) → (o ++ (a ++ (b ++ s))) ++ u ≡ o ++ (a ++ (b ++ (s ++ u)))
regroup_if o a b s u = append_assoc o (a ++ (b ++ s)) u ∙ ap (λ x. o ++ x) (append_assoc a (b ++ s) u ∙ ap (λ x. a ++ x) (append_assoc b s u))

pub if_whole : (old tested now after unit : Code) (p : Place) (e : Environment) (t : Taken) (x : Y.Bit) (line : ℕ) → ComesTo tested p (λ n. old ++ test_begun e t x line n) → now ≡ tested ++ unit → after ≡ jumped_over now p
    → after ≡ old ++ if_statement e t x unit line
unfolding if_statement
if_whole old tested now after unit p e t x line h written jumped =
    jumped ∙ ap (λ u. jumped_over u p) written ∙ over tested p _ unit h ∙ regroup_if old (act_code line) (bit_code e t x) (ahead (size_of unit)) unit

-- the jump of the first unit, over it and the jump behind it
past_first : (tested now unit : Code) (p : Place) (f : ℕ → Code) → ComesTo tested p f → now ≡ tested ++ unit → jumped_past now p ≡ f (size_of unit + 2) ++ unit
unfolding jumped_past
past_first tested now unit p f h written =
    ap (λ u. patched u p (JumpAhead (words_behind u p + 2))) written
    ∙ ap (λ n. patched (tested ++ unit) p (JumpAhead (n + 2))) (h.behind unit)
    ∙ h.filled unit (size_of unit + 2)

regroup_else : (o a b s m j r : Code) → (((o ++ (a ++ (b ++ s))) ++ m) ++ j) ++ r ≡ o ++ (a ++ (b ++ ((s ++ (m ++ j)) ++ r)))
regroup_else o a b s m j r =
    ap (λ x. (x ++ j) ++ r) (regroup_if o a b s m)
    ∙ append_assoc (o ++ (a ++ (b ++ (s ++ m)))) j r
    ∙ append_assoc o (a ++ (b ++ (s ++ m))) (j ++ r)
    ∙ ap (λ x. o ++ x) (append_assoc a (b ++ (s ++ m)) (j ++ r)
    ∙ ap (λ x. a ++ x) (append_assoc b (s ++ m) (j ++ r)
    ∙ ap (λ x. b ++ x) (append_assoc s m (j ++ r) ∙ ap (λ x. s ++ x) (sym (append_assoc m j r)) ∙ sym (append_assoc s (m ++ j) r))))

pub else_comes : (now otherwise : Code) (p q : Place) → otherwise ≡ jumped_past now p ++ jump_kept ∷ [] → q ≡ jump_place (jumped_past now p) → ComesTo otherwise q (λ n. jumped_past now p ++ JumpAhead n ∷ [])
else_comes now otherwise p q kept placed = comes_kept (jumped_past now p) otherwise q kept placed

pub if_else_whole : (old tested now otherwise both after unit other : Code) (p q : Place) (e : Environment) (t : Taken) (x : Y.Bit) (line : ℕ)
    → ComesTo tested p (λ n. old ++ test_begun e t x line n) → now ≡ tested ++ unit → otherwise ≡ jumped_past now p ++ jump_kept ∷ [] → q ≡ jump_place (jumped_past now p) → both ≡ otherwise ++ other → after ≡ jumped_over both q
    → after ≡ old ++ if_else_statement e t x unit other line
unfolding if_else_statement
if_else_whole old tested now otherwise both after unit other p q e t x line h written kept placed more jumped =
    let j : Code = JumpAhead (size_of other) ∷ [] in
    let size : size_of unit + 2 ≡ size_of (unit ++ j) = omega (arith, size_append unit j) in
    jumped
    ∙ ap (λ u. jumped_over u q) more
    ∙ over otherwise q _ other (else_comes now otherwise p q kept placed)
    ∙ ap (λ u. (u ++ j) ++ other) (past_first tested now unit p _ h written)
    ∙ regroup_else old (act_code line) (bit_code e t x) (ahead (size_of unit + 2)) unit j other
    ∙ ap (λ n. old ++ (act_code line ++ (bit_code e t x ++ ((ahead n ++ (unit ++ j)) ++ other)))) size

-- ---- DO WHILE

regroup_while : (o a b s i : Code) → ((o ++ a) ++ (a ++ (b ++ s))) ++ i ≡ o ++ (a ++ ((a ++ b) ++ (s ++ i)))
regroup_while o a b s i =
    append_assoc (o ++ a) (a ++ (b ++ s)) i
    ∙ append_assoc o a ((a ++ (b ++ s)) ++ i)
    ∙ ap (λ x. o ++ (a ++ x)) (append_assoc a (b ++ s) i ∙ ap (λ x. a ++ x) (append_assoc b s i) ∙ sym (append_assoc a b (s ++ i)))

pub while_whole : (old begun now after body : Code) (r : Repeat) (e : Environment) (t : Taken) (x : Y.Bit) (line : ℕ) → WhileBegun old begun r e t x line → now ≡ begun ++ body → after ≡ jumped_over (turned_back now r.start) r.place
    → after ≡ old ++ while_statement e t x body line
unfolding while_statement turned_back
while_whole old begun now after body r e t x line h written ended =
    let test : Code = act_code line ++ bit_code e t x in
    let k : ℕ = size_of now - r.start in
    let inner : ℕ → Code = λ n. body ++ JumpBack n ∷ [] in
    let sizes : size_of now ≡ size_of (old ++ act_code line) + (size_of (act_code line) + (size_of (bit_code e t x) + 3)) + size_of body = ap size_of written ∙ size_append begun body ∙ ap (λ n. n + size_of body) (ap size_of h.written ∙ size_append (old ++ act_code line) (test_begun e t x line 0) ∙ ap (λ n. size_of (old ++ act_code line) + n) (size_append (act_code line) (bit_tested e t x 0) ∙ ap (λ n. size_of (act_code line) + n) (size_append (bit_code e t x) (ahead 0)))) in
    let back : k ≡ size_of test + (3 + size_of body) = omega (arith, h.before, sizes, size_append (act_code line) (bit_code e t x)) in
    let grown : now ++ JumpBack k ∷ [] ≡ begun ++ inner k = ap (λ u. u ++ JumpBack k ∷ []) written ∙ append_assoc begun body (JumpBack k ∷ []) in
    ended
    ∙ ap (λ u. jumped_over u r.place) grown
    ∙ over begun r.place _ (inner k) h.past
    ∙ regroup_while old (act_code line) (bit_code e t x) (ahead (size_of (inner k))) (inner k)
    ∙ ap (λ n. old ++ (act_code line ++ (test ++ (ahead (size_of (inner n)) ++ inner n)))) back

-- ---- DO with a variable, once

once_is : (e : Environment) (t : Taken) (condition : Option Y.Bit) (line : ℕ) (body : Code) → once_tested e t condition line (size_of body) ++ body ≡ once_code e t condition line body
once_is e t None line body = refl
once_is e t (Some x) line body =
    append_assoc (act_code line) (bit_tested e t x (size_of body)) body ∙ ap (λ u. act_code line ++ u) (append_assoc (bit_code e t x) (ahead (size_of body)) body)

regroup_once : (o a s d b : Code) → (o ++ ((a ++ s) ++ d)) ++ b ≡ o ++ (a ++ (s ++ (d ++ b)))
regroup_once o a s d b =
    append_assoc o ((a ++ s) ++ d) b ∙ ap (λ x. o ++ x) (append_assoc (a ++ s) d b ∙ append_assoc a s (d ++ b))

pub once_whole : (old begun now after body : Code) (p : Option Place) (e : Environment) (t : Taken) (variable : Y.Reference) (start : Y.Stored) (condition : Option Y.Bit) (line : ℕ)
    → ComesToIf begun p (λ n. old ++ once_begun e t variable start condition line n) → now ≡ begun ++ body → after ≡ jumped_if now p
    → after ≡ old ++ once_statement e t variable start condition body line
unfolding once_statement assign_statement acted
once_whole old begun now after body p e t variable start condition line h written jumped =
    jumped
    ∙ ap (λ u. jumped_if u p) written
    ∙ over_if begun p _ body h
    ∙ regroup_once old (act_code line) (assignment_code e t variable start)
    (once_tested e t condition line (size_of body)) body
    ∙ ap (λ u. old ++ (act_code line ++ (assignment_code e t variable start ++ u))) (once_is e t condition line body)

-- ---- DO with a variable that counts

same_size : (e : Environment) (t : Taken) (condition : Option Y.Bit) (n : ℕ) → size_of (while_kept e t condition n) ≡ size_of (while_kept e t condition 0)
same_size e t None n = refl
same_size e t (Some x) n = size_append (bit_code e (in_turns t) x) (ahead n) ∙ sym (size_append (bit_code e (in_turns t) x) (ahead 0))

regroup_turn : (o a l w b s j : Code) → (o ++ (a ++ l)) ++ (w ++ (b ++ (s ++ j))) ≡ o ++ (a ++ (l ++ (w ++ (b ++ (s ++ j)))))
regroup_turn o a l w b s j = append_assoc o (a ++ l) (w ++ (b ++ (s ++ j))) ∙ ap (λ x. o ++ x) (append_assoc a l (w ++ (b ++ (s ++ j))))

pub turns_whole : (old begun now after body : Code) (u : Turn) (e : Environment) (t : Taken) (counter :
    Y.Counter) (limit : Option Y.Number) (fixed : Option ℤ) (condition : Option Y.Bit) (line : ℕ)
    → TurnBegun old begun u e t counter limit fixed condition line → now ≡ begun ++ body
    → after ≡ jumped_if (jumped_if (turned_back (now ++ stepped e t counter fixed line) u.start) u.condition)
    u.limit
    → after ≡ old ++ turns_code (turn_of e t counter limit fixed condition line body)
unfolding turned_back stepped
turns_whole old begun now after body u e t counter limit fixed condition line h written ended =
    let opened : Code = turn_opened e t counter line in
    let lim : ℕ → Code = limit_kept e t counter limit fixed in
    let con : ℕ → Code = while_kept e t condition in
    let step : Code = stepped_code e t counter fixed line in
    let k : ℕ = size_of (now ++ step) - u.start in
    let inner : ℕ → Code = λ n. body ++ (step ++ JumpBack n ∷ []) in
    let behind : ℕ → Code = λ n. con (size_of (inner n)) ++ inner n in
    let grown : (now ++ step) ++ JumpBack k ∷ [] ≡ begun ++ inner k = ap (λ x. (x ++ step) ++ JumpBack k ∷ []) written ∙ append_assoc (begun ++ body) step (JumpBack k ∷ []) ∙ append_assoc begun body (step ++ JumpBack k ∷ []) in
    let inner_size : (n : ℕ) → size_of (inner n) ≡ size_of body + (size_of step + 2) = λ n. omega (arith, size_append body (step ++ JumpBack n ∷ []), size_append step (JumpBack n ∷ [])) in
    let behind_size : (n : ℕ) → size_of (behind n) ≡ size_of (con 0) + (size_of body + (size_of step + 2)) = λ n. omega (arith, size_append (con (size_of (inner n))) (inner n), same_size e t condition (size_of (inner n)), inner_size n) in
    let sizes : size_of (now ++ step) ≡ size_of old + (size_of opened + size_of (lim 0)) + size_of (con 0) + size_of body + size_of step = size_append now step ∙ ap (λ n. n + size_of step) (ap size_of written ∙ size_append begun body ∙ ap (λ n. n + size_of body) (ap size_of h.written ∙ size_append (old ++ (opened ++ lim 0)) (con 0) ∙ ap (λ n. n + size_of (con 0)) (size_append old (opened ++ lim 0) ∙ ap (λ n. size_of old + n) (size_append opened (lim 0))))) in
    let back : k ≡ size_of opened + (size_of (lim 0) + (size_of (con 0) + (size_of body + size_of step))) = omega (arith, h.before, sizes) in
    ended
    ∙ ap (λ x. jumped_if (jumped_if x u.condition) u.limit) grown
    ∙ ap (λ x. jumped_if x u.limit) (over_if begun u.condition _ (inner k) h.past_condition ∙ append_assoc (old ++ (opened ++ lim 0)) (con (size_of (inner k))) (inner k))
    ∙ over_if (old ++ (opened ++ lim 0)) u.limit _ (behind k) h.past_limit
    ∙ regroup_turn old opened (lim (size_of (behind k))) (con (size_of (inner k))) body step (JumpBack k ∷ [])
    ∙ ap (λ n. old ++ (opened ++ (lim n ++ (con (size_of (inner k)) ++ inner k)))) (behind_size k)
    ∙ ap (λ n. old ++ (opened ++ (lim (size_of (con 0) + (size_of body + (size_of step + 2))) ++ (con n ++ inner k)))) (inner_size k)
    ∙ ap (λ n. old ++ (opened ++ (lim (size_of (con 0) + (size_of body + (size_of step + 2))) ++ (con (size_of body + (size_of step + 2)) ++ inner n)))) back

pub count_whole : (old counted begun now after body : Code) (u : Turn) (e : Environment) (t : Taken) (counter : Y.Counter) (start : Y.Value) (limit : Option Y.Number) (step : Y.Number) (condition : Option Y.Bit) (line : ℕ)
    → counted ≡ old ++ counting e t counter start limit step line
    → TurnBegun counted begun u e t counter limit (constant_step step) condition line → now ≡ begun ++ body
    → after ≡ jumped_if (jumped_if (turned_back (now ++ stepped e t counter (constant_step step) line) u.start)
    u.condition) u.limit
    → after ≡ old ++ count_statement e t counter start limit step condition body line
unfolding count_statement counting acted
count_whole old counted begun now after body u e t counter start limit step condition line first h written ended =
    let turns : Code = turns_code (turn_of e t counter limit (constant_step step) condition line body) in
    turns_whole counted begun now after body u e t counter limit (constant_step step) condition line h written ended
    ∙ ap (λ x. x ++ turns) first
    ∙ append_assoc old (act_code line ++ count_begun e t counter start limit step) turns
    ∙ ap (λ x. old ++ x) (append_assoc (act_code line) (count_begun e t counter start limit step) turns)

-- ---- blocks

regroup_begin : (o a f n v b l : Code) (m : Item) → ((o ++ (a ++ (m ∷ (f ++ (n ++ v))))) ++ b) ++ l ≡ o ++ (a ++ (m ∷ (f ++ (n ++ (v ++ (b ++ l))))))
regroup_begin o a f n v b l m =
    append_assoc (o ++ (a ++ (m ∷ (f ++ (n ++ v))))) b l
    ∙ append_assoc o (a ++ (m ∷ (f ++ (n ++ v)))) (b ++ l)
    ∙ ap (λ x. o ++ x) (append_assoc a (m ∷ (f ++ (n ++ v))) (b ++ l)
    ∙ ap (λ x. a ++ (m ∷ x)) (append_assoc f (n ++ v) (b ++ l) ∙ ap (λ x. f ++ x) (append_assoc n v (b ++ l))))

pub begin_whole : (old begun now after : Code) (body : Environment → Taken → Code) (e inside : Environment) (t none : Taken) (head : Y.BlockHead) (words needed : ℕ)
    → begun ≡ old ++ block_begun inside head.level words head.line → now ≡ begun ++ body inside t → after ≡ now ++ block_ended words → inside ≡ begin_environment head e → t ≡ none → words ≡ needed
    → after ≡ old ++ begin_statement e head needed (body (begin_environment head e) none)
unfolding begin_statement block_begun block_ended acted
begin_whole old begun now after body e inside t none head words needed first written last around nothing counted =
    let whole : Environment → Taken → ℕ
    → Code =
    λ i s w. old
    ++ (act_code head.line
    ++ (move a0 frame_register
    ∷ (frame_begun w head.level 0 None
    ++ (entered_without_texts 1 head.line
    ++ (variables_code i head.line ++ (body i s ++ (block_left 0 ++ frame_ended w))))))) in
    last
    ∙ ap (λ x. x ++ (block_left 0 ++ frame_ended words)) (written ∙ ap (λ x. x ++ body inside t) first)
    ∙ regroup_begin old (act_code head.line) (frame_begun words head.level 0 None) (entered_without_texts 1 head.line)
    (variables_code inside head.line) (body inside t) (block_left 0 ++ frame_ended words) (move a0 frame_register)
    ∙ ap (λ i. whole i t words) around
    ∙ ap (λ s. whole (begin_environment head e) s words) nothing
    ∙ ap (λ w. whole (begin_environment head e) none w) counted

-- ---- on-units

regroup_unit : (f n v a b m g : Code) → ((f ++ (n ++ (v ++ a))) ++ b) ++ (m ++ g) ≡ f ++ (n ++ (v ++ (a ++ (b ++ (m ++ g)))))
regroup_unit f n v a b m g =
    append_assoc (f ++ (n ++ (v ++ a))) b (m ++ g)
    ∙ append_assoc f (n ++ (v ++ a)) (b ++ (m ++ g))
    ∙ ap (λ x. f ++ x) (append_assoc n (v ++ a) (b ++ (m ++ g)) ∙ ap (λ x. n ++ x) (append_assoc v a (b ++ (m ++ g))))

regroup_told : (o a s u : Code) (x y j : Item) → (o ++ ((a ++ (x ∷ y ∷ s)) ++ j ∷ [])) ++ u ≡ o ++ (a ++ (x ∷ y ∷ (s ++ (j ∷ u))))
regroup_told o a s u x y j =
    append_assoc o ((a ++ (x ∷ y ∷ s)) ++ j ∷ []) u
    ∙ ap (λ z. o ++ z) (append_assoc (a ++ (x ∷ y ∷ s)) (j ∷ []) u ∙ append_assoc a (x ∷ y ∷ s) (j ∷ u))

-- the code of a unit in the environment of its statements
abbrev unit_inside : Environment → Y.BlockHead → (words held : ℕ) → (body : Code) → Code
unit_inside inside head words held body =
    frame_begun words head.level 0 (Some held)
    ++ (entered_without_texts 2 head.line
    ++ (unit_variables inside head head.kind
    ++ (act_code head.line ++ (body ++ (unit_mark head head.kind ++ unit_left words held)))))

unit_is : (inside : Environment) (head : Y.BlockHead) (words held : ℕ) (body : Code)
    → (unit_begun inside head words held ++ body) ++ unit_ended head words held
    ≡ unit_inside inside head words held body
unfolding unit_begun unit_ended unit_gone held_back acted
unit_is inside head words held body =
    regroup_unit (frame_begun words head.level 0 (Some held)) (entered_without_texts 2 head.line)
    (unit_variables inside head head.kind) (act_code head.line) body (unit_mark head head.kind)
    (unit_left words held)

pub unit_whole : (old told begun now ended after : Code) (body : Environment → Taken → Code) (p : Place) (e inside :
    Environment) (t none : Taken) (c : Condition) (head : Y.BlockHead) (words needed held saved line : ℕ)
    → ComesTo told p (λ n. old ++ unit_announced c line n) → begun ≡ told ++ unit_begun inside head words held
    → now ≡ begun ++ body inside t → ended ≡ now ++ unit_ended head words held → after ≡ jumped_over ended p
    → inside ≡ unit_environment head e → t ≡ none → words ≡ needed → held ≡ saved
    → after ≡ old ++ unit_statement e c head needed saved (body (unit_environment head e) none) line
unfolding unit_statement unit_told acted
unit_whole old told begun now ended after body p e inside t none c head words needed held saved line h first written
    last jumped around nothing counted kept =
    let inner : Code = (unit_begun inside head words held ++ body inside t) ++ unit_ended head words held in
    let whole : Code → Code = λ u. old ++ (act_code line ++ (OffsetAhead a1 5 ∷ condition_given c ∷ (service 28 ++ (JumpAhead (size_of u) ∷ u)))) in
    let grown : ended ≡ told ++ inner =
    last ∙ ap (λ x. x ++ unit_ended head words held) (written ∙ ap (λ x. x ++ body inside t) first
    ∙ append_assoc told (unit_begun inside head words held) (body inside t))
    ∙ append_assoc told (unit_begun inside head words held ++ body inside t) (unit_ended head words held) in
    jumped
    ∙ ap (λ x. jumped_over x p) grown
    ∙ over told p _ inner h
    ∙ regroup_told old (act_code line) (service 28) inner (OffsetAhead a1 5) (condition_given c) (JumpAhead (size_of inner))
    ∙ ap whole (unit_is inside head words held (body inside t))
    ∙ ap (λ i. whole (unit_inside i head words held (body i t))) around
    ∙ ap (λ s. whole (unit_inside (unit_environment head e) head words held (body (unit_environment head e) s))) nothing
    ∙ ap (λ w. whole (unit_inside (unit_environment head e) head w held (body (unit_environment head e) none))) counted
    ∙ ap (λ r. whole (unit_inside (unit_environment head e) head needed r (body (unit_environment head e) none))) kept
