-- An assignment to an element: its act, its value, its subscripts, and the store; the act pays for all of it.
use Rattle.std.proofs.Common.{◌≡◌, ℕ, ◌+◌, ◌*◌, ◌^◌, ◌<◌, ◌≤◌, List, [], ◌∷◌, ◌++◌, Bool, true, false, refl, sym, ap}
use Rattle.std.proofs.Common.{◌∙◌, subst, arith}
use Rattle.std.specs.Prelude.{ℤ, length, max, pos, if◌then◌else◌}
use Rattle.std.proofs.Math.Nat.{le-max_left, le-max_right}
use Rattle.pli_typing.specs.Signatures.{Bit, Bounds, Fixed}
use Rattle.pli_typing.specs.TypedTree as Y
use Rattle.pli_meaning.specs.BasicValues.{BasicBit, BasicNumber, BasicOffset, BasicPointer, BasicText, BasicValue}
use Rattle.pli_meaning.specs.Contents.{element_place, is_within}
use Rattle.pli_meaning.specs.Control.{Ended, Flow, Jump, Label, Meaning, Normal, Paused, Return, Stuck, act, flow_on}
use Rattle.pli_meaning.specs.Control.{give}
use Rattle.pli_meaning.specs.Control.{◌>>=◌, ◌>>◌}
use Rattle.pli_meaning.specs.Evaluating as V
use Rattle.pli_meaning.specs.Executing as M
use Rattle.pli_meaning.specs.Numbers.{checked, is_of_precision}
use Rattle.pli_meaning.specs.Raising as R
use Rattle.pli_meaning.specs.Raising.{at_line}
use Rattle.pli_meaning.specs.World.{counted}
use Rattle.pli_coding.specs.Allocating.{act_code}
use Rattle.pli_coding.specs.Assembly.{size_of}
use Rattle.pli_coding.specs.Environments.{fetch, save, with_number}
use Rattle.pli_coding.specs.Expressions.{number_code, reference_code, stored_code, subscripts_code}
use Rattle.pli_coding.specs.Locating.{are_simple}
use Rattle.pli_coding.specs.Registers.{a0, u3}
use Rattle.pli_coding.specs.Statements.{stmt_code}
use Rattle.pli_coding.specs.Storing.{word_stored}
use Rattle.storage_relation.specs.Telling.{IsOf}
use Rattle.activation_relation.specs.Layers.{Point, services_of}
use Rattle.run_steps.specs.Bodies.{Known}
use Rattle.run_steps.proofs.Bodies.{narrow_store_into}
use Rattle.run_steps.specs.Engine.{Base}
use Rattle.run_steps.specs.Items.{At, Linked}
use Rattle.run_steps.proofs.Jumps.{back_of, front_of, linked_at}
use Rattle.run_steps.proofs.Linking.{size_append}
use Rattle.run_steps.proofs.Numbers.{word_small}
use Rattle.run_steps.specs.Owing.{owing}
use Rattle.run_steps.proofs.Owing.{comes_owing, done_owing, owing_closed}
use Rattle.run_steps.specs.Reach.{Aims, Closed, Comes, Family, Reach, before, cost}
use Rattle.run_steps.proofs.Reach.{before_closed, comes_on, onward, reach_map}
use Rattle.run_steps.specs.Temporaries.{nothing}
use Rattle.block_runs.specs.Machines.{IsIn, acted}
use Rattle.block_runs.proofs.CallStatements.{comes_map}
use Rattle.block_runs.proofs.PointActs.{act_comes}
use Rattle.block_runs.proofs.PointGrounds.{in_known, point_frame, point_ground}
use Rattle.program_runs.specs.Statements.{Block, DoesWith, IsAmong, IsBegun, set_aside, size_with, statement_aims}
use Rattle.program_runs.proofs.JumpsOut.{jumps_repaid, jumps_since}
use Rattle.program_runs.proofs.Statements.{acted_among, goes_here, statement_closed}
use Rattle.expression_runs.specs.Assignments.{setting_around}
use Rattle.expression_runs.specs.Values.{HasRegisters, Setting, behind, in_registers}
use Rattle.expression_runs.specs.Variables.{Spot, number_place}
use Rattle.expression_runs.proofs.Saving.{fetched_reach, held_after, held_among, held_is_given, next_taken}
use Rattle.expression_runs.proofs.Saving.{register_left, saved_reach}
use Rattle.expression_runs.proofs.VariablePoints.{first_base}
use Rattle.expression_runs.proofs.Words.{frame_of, known_word, valued}
use Rattle.pli_headline.proofs.Scalars.{IsNumeric, fewer_bits, store_kind}
use Rattle.test_runs.specs.Tests.{Tests, bit_aims}
use Rattle.test_runs.proofs.Operands.{Leaves, value_aims}
use Rattle.element_runs.specs.Subscripts.{SubscriptComes}
use Rattle.element_runs.proofs.Assignments.{Behind}
use Rattle.element_runs.proofs.SubscriptTests.{Jumps, valued_beside}
use Rattle.scalar_runs.specs.Assignments.{IsPlacedWith}
use Rattle.scalar_runs.specs.Fitted.{Fits, fitted, fitted_aims}
use Rattle.scalar_runs.proofs.ScalarWords.{kind_for, word_in}
use Rattle.array_runs.specs.Arrays.{Grid, IsElementType, IsArray, element}
use Rattle.array_runs.specs.Laws.{bit_assigned, number_assigned}
use Rattle.array_runs.specs.Subscripts.{AreSubscripts}
use Rattle.array_runs.proofs.ArrayAssigned.{assigned_among, behind_assigned, services_same, stands_assigned}
use Rattle.array_runs.proofs.ArrayCode.{element_code, element_is, kept_code, place_code, stored_is, stores}
use Rattle.array_runs.proofs.ArrayMeaning as N
use Rattle.array_runs.proofs.ArrayMeaning.{assigned_is, assigned_meant, element_meant, stored_in}
use Rattle.array_runs.proofs.ArrayPoints.{ElementAt, element_at, frame_small, place_is}
use Rattle.array_runs.proofs.Elements.{checks, located_does, numeric_bit, numeric_number, placed_does}
use Rattle.array_runs.proofs.Evaluating.{simple_found}

-- ---- words of values

value_small :
    (type : Y.LeafType) (v : BasicValue) → IsNumeric type → IsOf (kind_for type) v → word_in v < 2 ^ 32
value_small (Y.FixedLeaf p) (BasicNumber z) is of = word_small z (fewer_bits p 31 z of.0 of.1)
value_small (Y.FixedLeaf p) (BasicBit b) is of = absurd of
value_small (Y.FixedLeaf p) (BasicText t) is of = absurd of
value_small (Y.FixedLeaf p) (BasicPointer n) is of = absurd of
value_small (Y.FixedLeaf p) (BasicOffset o) is of = absurd of
value_small Y.BitLeaf (BasicBit true) is of = omega arith
value_small Y.BitLeaf (BasicBit false) is of = omega arith
value_small Y.BitLeaf (BasicNumber z) is of = absurd of
value_small Y.BitLeaf (BasicText t) is of = absurd of
value_small Y.BitLeaf (BasicPointer n) is of = absurd of
value_small Y.BitLeaf (BasicOffset o) is of = absurd of
value_small _ v is of = absurd is

-- ---- the store

-- with the address in u3 and a value in a0: from there to the point behind
store_reaches :
    (k : Block) (x : Spot) (g : Grid) (is : IsArray k x g) {numbers : ℕ → ℕ} {p : Point} {index : ℕ} →
    IsNumeric g.type → (h : frame_of k p) → IsAmong k numbers p → (c : ℕ) (f : Family) (zs : List ℤ) →
    is_within g.bounds zs ≡ true → (holds : N.Holds p.state x g) → ElementAt k x g is p holds zs → (v : BasicValue) →
    IsOf (kind_for g.type) v →
    Linked k.call.surroundings.links k.call.code index (stores g.type k.environment x) →
    ((b' : Base) → At b' index (Known (point_ground k.call.surroundings p h) (services_of p) numbers (λ j. 0)
    (λ b0. (28, b0.at + (is.known.base + 4 * element_place g.bounds zs)) ∷ (10, word_in v) ∷ []) b') (f b')) →
    Reach k.call.code c f (services_of p) (c + size_of (stores g.type k.environment x))
    (services_of (behind_assigned p holds zs v))
    (λ b' y. IsIn k.call.surroundings (behind_assigned p holds zs v) numbers
    (index + size_of (stores g.type k.environment x)) b' y)
store_reaches k x g is {numbers} {p} {index} numeric h o c f zs within holds el v of l at =
    let w = k.call.surroundings in
    let e = k.environment in
    let q = behind_assigned p holds zs v in
    let g' = point_ground w q h in
    let small' = frame_small k x g is zs numeric within in
    let base = first_base in
    let even = (el.tells (f base).machine.memory (at base).holds.body.memory.storage).1 in
    let r = narrow_store_into g' (λ j. 0) c f a0 u3 (store_kind g.type) (pos (number_place e x))
    (is.known.base + 4 * element_place g.bounds zs) (element_at k x g is zs) (λ b'. word_in v)
    (place_is k x g is zs numeric within even)
    (omega (arith, small')) (λ y u. refl) (λ b' w' o'. o'.regs.0) (λ y u. refl) (λ b' w' o'. o'.regs.1.0)
    (λ b'. refl)
    (λ b' m bytes stands. stands_assigned w k p x g is holds zs el v b' m numeric of within bytes o.stands stands)
    (record { reserved_stay = λ y u. refl; known_stay = λ b' y u o'. (o'.0, (o'.1.0, tt)); set = λ y u. refl }) l at in
    subst (λ u. Reach k.call.code c f (services_of p) (c + size_of (stores g.type e x)) u
    (λ b' y. IsIn w q numbers (index + size_of (stores g.type e x)) b' y)) (sym (services_same p holds zs v))
    (reach_map _ r (λ b' y s.
    in_known {t = λ j. 0} {rs = nothing} h o.image.parts
    (record {
      pc = s.pc;
      holds = record {
        body = record {
          services = s.holds.body.services ∙ sym (services_same p holds zs v);
          registers = s.holds.body.registers;
          bytes = s.holds.body.bytes;
          memory = s.holds.body.memory;
        };
        regs = tt;
      };
    })))

-- ---- a value in a0 is assigned

-- from a point of the block, with the value in a0
abbrev Puts : (k : Setting) (x : Spot) (g : Grid) (aims : Aims (Unit {0})) (v : BasicValue) (need : ℕ) → Y.Numbers →
    Type 1
Puts k x g aims v need xs =
    Closed k.block.call.code aims → (p : Point) (numbers : ℕ → ℕ) (taken c index : ℕ) (f : Family) →
    Jumps k p.state.world.acts aims → (h : frame_of k.block p) → IsAmong k.block numbers p →
    p.control.line ≡ k.around.line → HasRegisters k taken need →
    Linked k.block.call.surroundings.links k.block.call.code index
    (word_stored k.block.environment (in_registers k.words taken) (element x xs)) →
    c + size_of (word_stored k.block.environment (in_registers k.words taken) (element x xs)) + k.most
    ≤ cost k.block.call.code →
    ((b' : Base) → At b' index (Known (point_ground k.block.call.surroundings p h) (services_of p) numbers (λ j. 0)
    (valued (word_in v)) b') (f b')) →
    Behind k aims p
    (index + size_of (word_stored k.block.environment (in_registers k.words taken) (element x xs)))
    (c + size_of (word_stored k.block.environment (in_registers k.words taken) (element x xs))) →
    Comes k.block.call.code c f (services_of p) aims
    (M.assigned k.around (element x xs) v k.block.call.surroundings.acts p.state)

-- it waits in a register, and so may each subscript
two_needed :
    (k : Setting) (need : ℕ) (bs : List Bounds) (xs : Y.Numbers) → 0 < length bs → AreSubscripts k 1 need bs xs →
    2 ≤ need
two_needed k need [] xs some subs = absurd (omega (arith, some))
two_needed k need (b ∷ bs) Y.NoNumber some subs = absurd subs
two_needed k need (b ∷ bs) (Y.NumberThen s rest) some subs =
    let enough = subs.0.enough in
    let most = le-max_right subs.0.first 1 in
    omega (arith, enough, most)

-- while it waits the subscripts are evaluated
puts_waiting :
    (k : Setting) (x : Spot) (g : Grid) (is : IsArray k.block x g) → IsNumeric g.type → (aims : Aims (Unit {0}))
    (v : BasicValue) → IsOf (kind_for g.type) v → (need : ℕ) (s : Y.Number) (rest : Y.Numbers) → SubscriptComes k →
    IsBegun k.block → AreSubscripts k 1 need g.bounds (Y.NumberThen s rest) →
    are_simple k.block.environment (Y.NumberThen s rest) ≡ false → Puts k x g aims v need (Y.NumberThen s rest)
puts_waiting k x g is numeric aims v of need s rest outside begun subs waits closed p numbers taken c index f jumps h
    o line room l paid at next' =
    let w = k.block.call.surroundings in
    let code = k.block.call.code in
    let e = k.block.environment in
    let t = in_registers k.words taken in
    let xs = Y.NumberThen s rest in
    let same = stored_is e t x g s rest is.initial numeric is.known.declared
    ∙ ap (λ q. kept_code q e t x g.type xs) waits in
    let size = ap (λ u. size_of u) same in
    let two = two_needed k need g.bounds xs is.some subs in
    let one : HasRegisters k taken 1 = let a = room.0 in (omega (arith, a, two), room.1) in
    let next = next_taken k.words taken (register_left k taken 1 one (omega arith)) in
    let put' = save a0 t in
    let r = reference_code e (with_number t) (element x xs) in
    let r' = element_code e (in_registers k.words (taken + 1)) x g xs in
    let coded = ap (λ u. reference_code e u (element x xs)) next
    ∙ element_is e (in_registers k.words (taken + 1)) x g s rest is.initial numeric is.known.declared in
    let both = ap (λ u. size_of u) coded in
    let back = fetch a0 t in
    let last = stores g.type e x in
    let n1 = size_append put' (r ++ (back ++ last)) in
    let n2 = size_append r (back ++ last) in
    let n3 = size_append back last in
    let l' = subst (Linked w.links code index) same l in
    let l2 = back_of put' (r ++ (back ++ last)) l' in
    let l3 = back_of r (back ++ last) l2 in
    let lr = subst (Linked w.links code (index + size_of put')) coded (front_of r (back ++ last) l2) in
    let small' = value_small g.type v numeric of in
    let held = held_after numbers taken (word_in v) in
    let among = held_among k taken 1 (word_in v) one (omega arith) small' o in
    let c2 = c + size_of put' in
    let i2 = index + size_of put' in
    let c3 = c2 + size_of r' in
    let i3 = i2 + size_of r' in
    subst (Comes code c f (services_of p) aims) (sym (assigned_meant k.around x xs v w.acts p.state))
    (comes_on w.acts (V.designated k.around (element x xs) w.acts p.state) (λ d. stored_in v d)
    (onward (before_closed w.acts (λ d. stored_in v d) closed)
    (saved_reach k taken 0 h one c f (word_in v) small' (front_of put' (r ++ (back ++ last)) l') at)
    (λ g1 at1.
    located_does k (before code aims w.acts (λ d. stored_in v d)) x g is numeric outside begun
    (before_closed w.acts (λ d. stored_in v d) closed) xs need taken 1 subs p held (taken + 1) c2 i2 g1 (omega arith)
    room jumps among line lr (omega (arith, paid, size, both, n1, n2, n3)) (λ b'. in_known h o.image.parts (at1 b'))
    (λ q after h2 zs within among2 since line2 stays holds el g2 finds.
    onward closed
    (fetched_reach k taken 0 h2 one c3 g2 a0 (word_in v) small'
    (stays taken (omega arith) ∙ held_is_given numbers taken (word_in v))
    (record { reserved_stay = λ y u. refl; known_stay = λ b' y u o'. (o'.0, tt); set = λ y u. refl })
    (record { reserved_stay = λ y u. refl; known_stay = λ b' y u o'. (o'.0, tt); set = λ y u. refl })
    (linked_at i3 back (omega (arith, both)) (front_of back last l3)) finds)
    (λ g3 at3.
    let reach' = store_reaches k.block x g is numeric h2 among2 (c3 + size_of back) g3 zs within holds el v
    of
    (linked_at (i3 + size_of back) last (omega (arith, both)) (back_of back last l3))
    (λ b'. record {
      pc = (at3 b').pc;
      holds = record { body = (at3 b').holds.body; regs = ((at3 b').holds.regs.1.0, ((at3 b').holds.regs.0, tt)) };
    }) in
    let behind' = behind_assigned q holds zs v in
    subst (Comes code (c3 + size_of back) g3 (services_of q) aims)
    (sym (assigned_is g holds.serial holds.values zs v w.acts q.state))
    (record {
      to = λ early.
          next' behind' after (c3 + size_of back) g3 (services_of q) (assigned_among q holds zs v among2)
          (omega (arith, since))
          (subst (λ n. Reach code (c3 + size_of back) g3 (services_of q) n (services_of behind')
          (λ b' y. IsIn w behind' after
          (index + size_of (word_stored e t (element x xs))) b' y)) (omega (arith, size, both, n1, n2, n3))
          (reach_map _ reach' (λ b' y u.
          subst (λ j. IsIn w behind' after j b' y) (omega (arith, size, both, n1, n2, n3)) u)));
    }))))))

-- simple subscripts leave it in a0
puts_simple :
    (k : Setting) (x : Spot) (g : Grid) (is : IsArray k.block x g) → IsNumeric g.type → (aims : Aims (Unit {0}))
    (v : BasicValue) → IsOf (kind_for g.type) v → (need : ℕ) (s : Y.Number) (rest : Y.Numbers) → SubscriptComes k →
    IsBegun k.block → AreSubscripts k 1 need g.bounds (Y.NumberThen s rest) →
    are_simple k.block.environment (Y.NumberThen s rest) ≡ true → Puts k x g aims v need (Y.NumberThen s rest)
puts_simple k x g is numeric aims v of need s rest outside begun subs simple closed p numbers taken c index f jumps h
    o line room l paid at next' =
    let w = k.block.call.surroundings in
    let code = k.block.call.code in
    let e = k.block.environment in
    let t = in_registers k.words taken in
    let xs = Y.NumberThen s rest in
    let same = stored_is e t x g s rest is.initial numeric is.known.declared
    ∙ ap (λ q. kept_code q e t x g.type xs) simple in
    let coded = element_is e t x g s rest is.initial numeric is.known.declared in
    let size = ap (λ u. size_of u) same in
    let r = reference_code e t (element x xs) in
    let front = subscripts_code e t xs in
    let none = ap (λ q. size_of (if q then []
    else number_code e t s ++ (save a0 t ++ subscripts_code e (with_number t) rest))) simple in
    let place = place_code e t x g xs in
    let last = stores g.type e x in
    let n1 = size_append r last in
    let n2 = ap (λ u. size_of u) coded in
    let n3 = size_append front place in
    let l' = subst (Linked w.links code index) same l in
    let l1 = subst (Linked w.links code index) coded (front_of r last l') in
    let l2 = linked_at index place (omega (arith, none)) (back_of front place l1) in
    let found = simple_found k p numbers h begun o index f (λ b'. in_known h o.image.parts (at b')) g.bounds xs need
    taken 1 taken (omega arith) room subs simple in
    let zs = found.0 in
    let next : V.Designated → Meaning (Unit {0}) = λ d. stored_in v d in
    let check : List ℤ → Meaning V.Designated = λ js. checks k x js in
    let goal = before code aims w.acts next in
    subst (Comes code c f (services_of p) aims) (sym (assigned_meant k.around x xs v w.acts p.state))
    (comes_on w.acts (V.designated k.around (element x xs) w.acts p.state) next
    (subst (Comes code c f (services_of p) goal) (sym (element_meant k.around x xs w.acts p.state))
    (comes_on w.acts (V.numbers k.around xs w.acts p.state) check
    (subst (Comes code c f (services_of p) (before code goal w.acts check)) (sym found.1)
    (record {
      to = λ early.
          placed_does k x g is numeric outside begun (before_closed w.acts next closed) jumps h o line
          (valued_beside (word_in v)) xs zs taken c f found.2 l2
          (omega (arith, paid, size, n1, n2, n3, none)) at
          (λ within holds el g2 finds.
          let c3 = c + size_of place in
          let behind' = behind_assigned p holds zs v in
          let reach' = store_reaches k.block x g is numeric h o c3 g2 zs within holds el v
          of
          (linked_at (index + size_of place) last (omega (arith, n2, n3, none)) (back_of r last l')) finds in
          subst (Comes code c3 g2 (services_of p) aims)
          (sym (assigned_is g holds.serial holds.values zs v w.acts p.state))
          (record {
            to = λ early'.
                next' behind' numbers c3 g2 (services_of p) (assigned_among p holds zs v o) (omega arith)
                (subst (λ m. Reach code c3 g2 (services_of p) m (services_of behind')
                (λ b' y. IsIn w behind' numbers
                (index + size_of (word_stored e t (element x xs))) b' y)) (omega (arith, size, n1, n2, n3, none))
                (reach_map _ reach' (λ b' y u.
                subst (λ j. IsIn w behind' numbers j b' y) (omega (arith, size, n1, n2, n3, none)) u)));
          }));
    })))))

puts_does :
    (k : Setting) (x : Spot) (g : Grid) (is : IsArray k.block x g) → IsNumeric g.type → (aims : Aims (Unit {0}))
    (v : BasicValue) → IsOf (kind_for g.type) v → (need : ℕ) (s : Y.Number) (rest : Y.Numbers) → SubscriptComes k →
    IsBegun k.block → AreSubscripts k 1 need g.bounds (Y.NumberThen s rest) → (q : Bool) →
    are_simple k.block.environment (Y.NumberThen s rest) ≡ q → Puts k x g aims v need (Y.NumberThen s rest)
puts_does k x g is numeric aims v of need s rest outside begun subs true waits =
    puts_simple k x g is numeric aims v of need s rest outside begun subs waits
puts_does k x g is numeric aims v of need s rest outside begun subs false waits =
    puts_waiting k x g is numeric aims v of need s rest outside begun subs waits

-- ---- the statement

abbrev put_in : Block → Spot → Y.Numbers → (line : ℕ) → BasicValue → Meaning (Unit {0})
put_in k x xs line v = M.assigned (at_line k.around line) (element x xs) v

most_first : (m n most : ℕ) → max m n ≤ most → m ≤ most
most_first m n most h = let least = le-max_left m n in omega (arith, least, h)

most_second : (m n most : ℕ) → max m n ≤ most → n ≤ most
most_second m n most h = let least = le-max_right m n in omega (arith, least, h)

abbrev assignment : Spot → Y.Numbers → Y.Stored → (line : ℕ) → Y.Stmt
assignment x xs source line = Y.Assign (element x xs) source line

-- its code: the act, the value, and the store
abbrev IsCoded : (words : ℕ) → Block → Spot → Y.Numbers → Y.Stored → (line : ℕ) → Type 0
IsCoded words k x xs source line =
    stmt_code k.environment (set_aside words) (assignment x xs source line)
    ≡ act_code line
    ++ (stored_code k.environment (set_aside words) source
    ++ word_stored k.environment (set_aside words) (element x xs))

assign_by :
    (words : ℕ) (k : Block) (labels : List Label) (x : Spot) (g : Grid) (s : Y.Number) (rest : Y.Numbers)
    (source : Y.Stored) (line index left' first second most : ℕ) →
    IsPlacedWith words k (assignment x (Y.NumberThen s rest) source line) line index (max first second) most →
    (is : IsArray k x g) → IsNumeric g.type → (fits : BasicValue → Type 0) →
    ((v : BasicValue) → fits v → IsOf (kind_for g.type) v) → IsCoded words k x (Y.NumberThen s rest) source line →
    SubscriptComes (setting_around words k labels line most) →
    Leaves word_in fits (setting_around words k labels line most) first (λ t. stored_code k.environment t source)
    (V.stored_value (at_line k.around line) source) →
    AreSubscripts (setting_around words k labels line most) 1 second g.bounds (Y.NumberThen s rest) →
    DoesWith words k labels (assignment x (Y.NumberThen s rest) source line) index left'
unfolding M.statement ◌>>=◌ ◌>>◌
assign_by words k labels x g s rest source line index left' first second most h is numeric fits kept coded outside ev
    subs p numbers c wanted f o paid there =
    let w = k.call.surroundings in
    let code = k.call.code in
    let e = k.environment in
    let xs = Y.NumberThen s rest in
    let setting = setting_around words k labels line most in
    let stmt = assignment x xs source line in
    let around' = at_line k.around line in
    let one = act_code line in
    let value' = stored_code e (set_aside words) source in
    let store' = word_stored e (set_aside words) (element x xs) in
    let n0 = ap (λ u. size_of u) coded ∙ size_append one (value' ++ store') in
    let n1 = size_append value' store' in
    let l = subst (Linked w.links code index) coded h.statement in
    let l1 = back_of one (value' ++ store') l in
    let ls = back_of value' store' l1 in
    let debt = size_of value' + size_of store' in
    let acts = p.state.world.acts in
    let aims = statement_aims k labels acts (index + size_with words k stmt) wanted left' in
    let owed = owing code debt aims in
    let closed = owing_closed code debt aims in
    let meant = V.stored_value around' source in
    let put' : BasicValue → Meaning (Unit {0}) = λ v. put_in k x xs line v in
    let next' : Unit {0} → Meaning (Unit {0}) = λ u. meant >>= put' in
    let all = h.paid in
    let room1 = most_first first second k.registers h.registers in
    let room2 = most_second first second k.registers h.registers in
    comes_owing debt (M.statement k.around stmt w.acts p.state)
    (comes_on w.acts (act counted w.acts p.state) next'
    (act_comes (before_closed w.acts next' closed) line (c + debt) 0 f (o.stands, o.image)
    (h.act.line_fits, h.act.acts, omega (arith, paid, n0, n1)) (front_of one (value' ++ store') l) there
    (λ g1 less at.
    let p' = acted line p in
    let o' = acted_among line o less in
    let y = behind p' numbers 0 0 (index + size_of one) value' in
    comes_on w.acts (meant w.acts p'.state) put'
    (comes_map (value_aims word_in fits k labels y) (before code owed w.acts put') refl (meant w.acts p'.state)
    (λ c' f' v' v u q.
    let q1 = q.1.point in
    let since = q.1.since in
    subst (λ j. Comes code c' f' v' owed (put_in k x xs line v w.acts j)) (sym q.1.state)
    (onward closed q.1.reach
    (λ g2 at2.
    let h2 = point_frame q.1.among.stands q.1.among.image in
    puts_does setting x g is numeric owed v (kept v q.0) second s rest outside h.begun subs
    (are_simple e xs) refl closed q1 q.1.numbers 0 y.wanted y.index g2 (
      refl,
      λ c3 f3 v3 height label s3 j i0 f0 v0 from. jumps_repaid debt from (jumps_since (omega (arith, since)) j),
    )
    h2 q.1.among q.1.line (omega (arith, room2), h.held)
    ls (omega (arith, all, n0, n1)) (λ b'. known_word k h2 (at2 b'))
    (λ q2 after c3 f3 v3 among3 since3 r.
    done_owing (statement_closed k labels acts (index + size_with words k stmt) wanted left') debt wanted
    (omega (arith, n0, n1)) r tt q2.state
    (λ g4 at4. goes_here acts wanted g4 (omega (arith, since, since3)) among3
    (λ b'. subst (λ j. IsIn w q2 after j b' (g4 b')) (omega (arith, n0, n1)) (at4 b')))))))
    (λ c' f' v' height label u q.
    λ i0 f0 v0 from. jumps_repaid debt from (jumps_since (omega arith) q))
    (λ c' f' v' r u q. absurd q)
    (ev p' numbers 0 0 (index + size_of one) g1 o' refl (omega (arith, room1), h.held)
    (front_of value' store' l1) (omega (arith, all, n0, n1)) at)))))

-- ---- numbers

abbrev IsNumberOf : (precision : ℕ) → BasicValue → Type 0
IsNumberOf precision v = (z : ℤ) × (v ≡ BasicNumber z) × (is_of_precision precision z ≡ true)

of_numbers :
    (type : Y.LeafType) (precision : ℕ) (v : BasicValue) → IsElementType type → type ≡ Y.FixedLeaf precision →
    IsNumberOf precision v → IsOf (kind_for type) v
of_numbers type precision v is fixed new =
    let few = subst IsElementType fixed is in
    subst (λ u. IsOf (kind_for u) v) (sym fixed) (subst (IsOf (Fixed precision)) (sym new.1) (few, new.2))

-- its test belongs to the value
then_given :
    (flow : Flow ℤ) (next' : ℤ → Meaning ℤ) (k : ℕ) →
    flow_on k (flow_on k flow next') (λ z. give (BasicNumber z))
    ≡ flow_on k flow (λ z. (next' z) >>= (λ z'. give (BasicNumber z')))
unfolding ◌>>=◌
then_given (Normal z s) next' k = refl
then_given (Jump height label s) next' k = refl
then_given (Return v s) next' k = refl
then_given (Ended s) next' k = refl
then_given (Paused s) next' k = refl
then_given Stuck next' k = refl

number_leaves :
    (k : Setting) (need precision : ℕ) (x : Y.Number) → Fits k need precision x →
    Leaves word_in (IsNumberOf precision) k need
    (λ t. stored_code k.block.environment t (Y.StoredNumber precision x))
    (V.stored_value k.around (Y.StoredNumber precision x))
unfolding V.stored_value ◌>>=◌ give
number_leaves k need precision x does p numbers taken c index f o line registers l paid there =
    let w = k.block.call.surroundings in
    let code = k.block.call.code in
    let t = in_registers k.words taken in
    let y = behind p numbers taken c index (stored_code k.block.environment t (Y.StoredNumber precision x)) in
    let goal = value_aims word_in (IsNumberOf precision) k.block k.labels y in
    let flow = fitted k.around precision x w.acts p.state in
    let last : ℤ → Meaning BasicValue = λ z. give (BasicNumber z) in
    subst (λ u. Comes code c f (services_of p) goal u)
    (then_given (V.number k.around x w.acts p.state) (λ z. R.value_of k.around (checked precision z)) w.acts)
    (comes_on w.acts flow last
    (comes_map (fitted_aims k.block k.labels precision y) (before code goal w.acts last) refl flow
    (λ c' f' v' z s q. record { to = λ early. ((z, refl, q.0), q.1) })
    (λ c' f' v' height label s q. q)
    (λ c' f' v' u s q. absurd q)
    (does p numbers taken c index f o line registers l paid there)))

no_subscripts :
    (k : Setting) (need : ℕ) (bs : List Bounds) → 0 < length bs → AreSubscripts k 1 need bs Y.NoNumber → ⊥
no_subscripts k need [] some subs = omega (arith, some)
no_subscripts k need (b ∷ bs) some subs = subs

pub number_stored :
    (words : ℕ) (k : Block) (labels : List Label) (x : Spot) (g : Grid) (precision : ℕ) (xs : Y.Numbers)
    (source : Y.Number) (line index left' first second most : ℕ) →
    IsPlacedWith words k (number_assigned x xs precision source line) line index (max first second) most →
    IsArray k x g → g.type ≡ Y.FixedLeaf precision → SubscriptComes (setting_around words k labels line most) →
    Fits (setting_around words k labels line most) first precision source →
    AreSubscripts (setting_around words k labels line most) 1 second g.bounds xs →
    DoesWith words k labels (number_assigned x xs precision source line) index left'
number_stored words k labels x g precision Y.NoNumber source line index left' first second most h is fixed outside does
    subs =
    absurd (no_subscripts (setting_around words k labels line most) second g.bounds is.some subs)
number_stored words k labels x g precision (Y.NumberThen s rest) source line index left' first second most h is fixed
    outside does subs =
    assign_by words k labels x g s rest (Y.StoredNumber precision source) line index left' first second most h is
    (numeric_number g.type precision fixed) (IsNumberOf precision)
    (λ v new. of_numbers g.type precision v is.type fixed new) refl outside
    (number_leaves (setting_around words k labels line most) first precision source does) subs

-- ---- bits

abbrev IsBitValue : BasicValue → Type 0
IsBitValue v = (b : Bool) × (v ≡ BasicBit b)

bit_leaves :
    (k : Setting) (need : ℕ) (x : Y.Bit) → Tests k need x →
    Leaves word_in IsBitValue k need (λ t. stored_code k.block.environment t (Y.StoredBit x))
    (V.stored_value k.around (Y.StoredBit x))
unfolding V.stored_value ◌>>=◌ give
bit_leaves k need x does p numbers taken c index f o line registers l paid there =
    let w = k.block.call.surroundings in
    let code = k.block.call.code in
    let t = in_registers k.words taken in
    let y = behind p numbers taken c index (stored_code k.block.environment t (Y.StoredBit x)) in
    let goal = value_aims word_in IsBitValue k.block k.labels y in
    let flow = V.bit k.around x w.acts p.state in
    let last : Bool → Meaning BasicValue = λ b. give (BasicBit b) in
    comes_on w.acts flow last
    (comes_map (bit_aims k.block k.labels y) (before code goal w.acts last) refl flow
    (λ c' f' v' b s q. record { to = λ early. ((b, refl), q) })
    (λ c' f' v' height label s q. q)
    (λ c' f' v' u s q. absurd q)
    (does p numbers taken c index f o line registers l paid there))

pub bit_stored :
    (words : ℕ) (k : Block) (labels : List Label) (x : Spot) (g : Grid) (xs : Y.Numbers) (source : Y.Bit)
    (line index left' first second most : ℕ) →
    IsPlacedWith words k (bit_assigned x xs source line) line index (max first second) most → IsArray k x g →
    g.type ≡ Y.BitLeaf → SubscriptComes (setting_around words k labels line most) →
    Tests (setting_around words k labels line most) first source →
    AreSubscripts (setting_around words k labels line most) 1 second g.bounds xs →
    DoesWith words k labels (bit_assigned x xs source line) index left'
bit_stored words k labels x g Y.NoNumber source line index left' first second most h is bit outside does subs =
    absurd (no_subscripts (setting_around words k labels line most) second g.bounds is.some subs)
bit_stored words k labels x g (Y.NumberThen s rest) source line index left' first second most h is bit outside does
    subs =
    assign_by words k labels x g s rest (Y.StoredBit source) line index left' first second most h is
    (numeric_bit g.type bit) IsBitValue
    (λ v new. subst (λ type. IsOf (kind_for type) v) (sym bit) (subst (IsOf Bit) (sym new.1) tt)) refl outside
    (bit_leaves (setting_around words k labels line most) first source does) subs
