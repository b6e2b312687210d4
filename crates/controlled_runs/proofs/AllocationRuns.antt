-- The run of ALLOCATE of a CONTROLLED number: what service 16 is given, what it leaves, and the test of its status.
use Rattle.std.proofs.Common.{◌≡◌, ℕ, ◌+◌, ◌-◌, ◌*◌, ◌^◌, ◌<◌, ◌≤◌, length, List, [], ◌∷◌, ◌++◌, Option, Some, None}
use Rattle.std.proofs.Common.{Bool, false, true, refl, sym, ap, ◌∙◌, subst, arith}
use Rattle.std.proofs.lemmas.Bool.{lt-ltb}
use Rattle.std.proofs.lemmas.Int.{ints}
use Rattle.std.specs.Prelude.{negsuc, pos, ◌==◌}
use Rattle.rv_meaning.specs.declared.instr.BranchTest.TheVariants as Test
use Rattle.rv_meaning.specs.declared.instr.Instr.TheVariants as I
use Rattle.pli_language.specs.declared.condition.Condition.TheVariants as C
use Rattle.pli_meaning.specs.Codes.{heap_full_code}
use Rattle.pli_meaning.specs.Contents.{footprint_of, gap}
use Rattle.pli_meaning.specs.Raising as R
use Rattle.pli_meaning.specs.Raising.{Around}
use Rattle.pli_meaning.specs.StorageState as Q
use Rattle.pli_meaning.specs.StorageState.{heap_capacity, heap_serial}
use Rattle.pli_serving.specs.Answers.{Done}
use Rattle.pli_serving.specs.ControlledServices as K
use Rattle.pli_coding.specs.Assembly.{Code, JumpTo, Plain, RaiseError, size_of}
use Rattle.pli_coding.specs.Instructions.{number, small, status_tested}
use Rattle.pli_coding.specs.Registers.{a0, a1, a2, a7, zero_register}
use Rattle.storage_relation.specs.Changes.{allocated}
use Rattle.storage_relation.specs.Controlled.{Begins, IsLive, Variable, placed_heap}
use Rattle.storage_relation.specs.Served.{Holds, call}
use Rattle.storage_relation.specs.Stored.{with_heap_made}
use Rattle.storage_relation.proofs.Controlled.{push_refused}
use Rattle.storage_relation.proofs.Making.{same_held}
use Rattle.storage_relation.proofs.NamesAfter.{placed_found}
use Rattle.storage_relation.proofs.Stacks.{heap_ordered, stacks_pushed}
use Rattle.activation_relation.specs.Frames.{frame_under, upper_top}
use Rattle.activation_relation.specs.Layers.{Point, now, services_of}
use Rattle.activation_relation.specs.Points.{Surroundings}
use Rattle.activation_relation.specs.ServiceLaws.{IsSystem}
use Rattle.activation_relation.proofs.Remaining.{shapes_remain}
use Rattle.run_steps.specs.Bodies.{Known, PlaceFrom, reserved}
use Rattle.run_steps.proofs.Bodies.{constant_piece, load_piece, zero_is}
use Rattle.run_steps.specs.Calls.{Calling}
use Rattle.run_steps.proofs.Calls.{call_done, called}
use Rattle.run_steps.specs.Engine.{Base}
use Rattle.run_steps.specs.Items.{At, Linked}
use Rattle.run_steps.proofs.Items.{straight}
use Rattle.run_steps.proofs.Jumps.{back_of, first_of, front_of, jump_piece, rest_of, skip_passed, skip_taken}
use Rattle.run_steps.proofs.Linking.{size_append}
use Rattle.run_steps.specs.Reach.{Aims, Closed, Comes, Family, Reach, cost, reached}
use Rattle.run_steps.proofs.Reach.{onward, reach_map, reach_then, reached_holds}
use Rattle.run_steps.proofs.Reaching.{reach_moved}
use Rattle.run_steps.specs.Temporaries.{nothing}
use Rattle.block_runs.specs.Machines.{AreIn, IsIn}
use Rattle.block_runs.proofs.BlockEntries.{small_is, word_fits, word_is}
use Rattle.block_runs.proofs.Places.{IsFrame}
use Rattle.block_runs.proofs.PointGrounds.{StandsIn, call_is, in_known, point_frame, point_ground}
use Rattle.program_runs.specs.Statements.{Block, IsAmong}
use Rattle.expression_runs.specs.Values.{Setting}
use Rattle.expression_runs.proofs.Raises.{coded, error_comes}
use Rattle.expression_runs.specs.Variables.{Spot}
use Rattle.area_runs.specs.Based.{Ends}
use Rattle.area_runs.proofs.AllocationCode.{amounts_code}
use Rattle.area_runs.proofs.AllocationGiven.{IsFree, kept_reaches, words_ground}
use Rattle.controlled_runs.specs.Allocations.{HasWords, IsNumber, controlled_shape}
use Rattle.controlled_runs.specs.Lists.{ListsStand, listed, number_of}
use Rattle.controlled_runs.proofs.AllocationCode.{allocated_code, loaded_code, pushing_code}
use Rattle.controlled_runs.proofs.AllocationMeaning.{allocated_state, new_number}
use Rattle.controlled_runs.proofs.ListedPoints.{relisted, relisted_in}
use Rattle.controlled_runs.proofs.PushAnswers.{number_begins, pushed_there}

-- ---- around it

pub record Given (of : ℕ → Option Variable) (k : Block) (x : Spot) (q : Point) (numbers : ℕ → ℕ) : Type 0 where
  pub is : IsNumber of k x
  pub words : HasWords k
  pub among : IsAmong k numbers q
  pub lists : ListsStand of q

abbrev asked_code : (signature n : ℕ) → Code
asked_code signature n = amounts_code signature ++ (number a0 n ++ (loaded_code ++ (small a2 0 ∷ small a7 16 ∷ [])))

abbrev given_regs : (signature n : ℕ) → Base → List (ℕ × ℕ)
given_regs signature n b = (17, 16) ∷ (12, 0) ∷ (11, signature) ∷ (10, n) ∷ []

first_word : (at : ℕ) → IsFrame at → PlaceFrom at (negsuc 3) (at - 4)
first_word at h =
    let whole = h.whole in
    let high = h.high in
    let room = h.room in
    record {
      small' = omega (arith, ints);
      sums = λ b. let v = b.valid.1 in omega (arith, ints, high, room, v);
      aligned = omega (arith, whole, high);
      inside = omega (arith, room);
      above_code = omega (arith, high);
    }

-- ---- what is given

given_comes :
    {of : ℕ → Option Variable} {k : Block} {x : Spot} {q : Point} {numbers : ℕ → ℕ} {i : ℕ}
    (z : Given of k x q numbers) (c : ℕ) (f : Family) →
    Linked k.call.surroundings.links k.call.code i (allocated_code z.is.signature (number_of k x)) →
    AreIn k.call.surroundings q numbers i f →
    Reach k.call.code c f (services_of q) (c + size_of (asked_code z.is.signature (number_of k x))) (services_of q)
    (λ b y. At b (i + size_of (asked_code z.is.signature (number_of k x)))
    (Known (point_ground k.call.surroundings q (point_frame z.among.stands z.among.image)) (services_of q) numbers
    (λ j. 0) (given_regs z.is.signature (number_of k x)) b) y)
given_comes {of} {k} {x} {q} {numbers} {i} z c f l there =
    let w = k.call.surroundings in
    let o = z.among in
    let is = z.is in
    let n = number_of k x in
    let few = is.listed.few in
    let h = point_frame o.stands o.image in
    let v = services_of q in
    let at = frame_under w.parts q.control.layers in
    let keeps = amounts_code is.signature in
    let num = number a0 n in
    let load = loaded_code in
    let two = small a2 0 ∷ small a7 16 ∷ [] in
    let rest = Plain I.Ecall ∷ status_tested in
    let t2 = small a2 0 ∷ small a7 16 ∷ rest in
    let n0 = size_append keeps (num ++ (load ++ two)) in
    let n1 = size_append num (load ++ two) in
    let n2 = size_append load two in
    let l1 = back_of keeps (num ++ (load ++ t2)) l in
    let l2 = back_of num (load ++ t2) l1 in
    let l3 = back_of load t2 l2 in
    let free : IsFree q z.words.layer z.words.others = record {
      newest = o.later.layers ∙ z.words.layers;
      words = z.words.words;
      waits = z.words.waits;
    } in
    let r1 = kept_reaches is.signature h o.stands free is.number c f (front_of keeps (num ++ (load ++ t2)) l) there in
    let r2 = constant_piece (c + size_of keeps) (reached r1) a0 (pos n) (word_fits n (omega (arith, few)))
    (record { reserved_stay = λ y u. refl; known_stay = λ b y u s. s; set = λ y u. refl })
    (front_of num (load ++ t2) l1) (reached_holds r1) in
    let r3 = load_piece (c + size_of keeps + size_of num) (reached r2) a1 (negsuc 3) (at - 4) (λ b. is.signature)
    (first_word at h) (λ b m s. s.1)
    (record { reserved_stay = λ y u. refl; known_stay = λ b y u s. s; set = λ y u. refl })
    (record { reserved_stay = λ y u. refl; known_stay = λ b y u s. s; set = λ y u. refl }) (front_of load t2 l2)
    (reached_holds r2) in
    let r4 = straight (c + size_of keeps + size_of num + size_of load) (reached r3) v v
    (λ b y. Known (point_ground w q h) v numbers (λ j. 0) (given_regs is.signature n) b y)
    (front_of two rest l3) (omega arith) (λ b. (reached_holds r3 b).pc)
    (λ b. let s = (reached_holds r3 b).holds in record {
      body = record {
        services = s.body.services;
        registers = s.body.registers;
        bytes = s.body.bytes;
        memory = s.body.memory.0;
      };
      regs = (
        small_is _ 16 (zero_is s.body) (omega arith),
        (
          small_is _ 0 (zero_is s.body) (omega arith),
          (s.regs.0, (s.regs.1.0 ∙ word_is n (omega (arith, few)), tt)),
        ),
      );
    }) in
    reach_moved (omega (arith, n0, n1, n2)) (omega (arith, n0, n1, n2))
    (reach_then r1 (reach_then r2 (reach_then r3 r4)))

rest_linked :
    {of : ℕ → Option Variable} {k : Block} {x : Spot} {i : ℕ} (is : IsNumber of k x) →
    Linked k.call.surroundings.links k.call.code i (allocated_code is.signature (number_of k x)) →
    Linked k.call.surroundings.links k.call.code (i + size_of (asked_code is.signature (number_of k x)))
    (Plain I.Ecall ∷ status_tested)
rest_linked {of} {k} {x} {i} is l =
    let n = number_of k x in
    let keeps = amounts_code is.signature in
    let num = number a0 n in
    let load = loaded_code in
    let two = small a2 0 ∷ small a7 16 ∷ [] in
    let rest = Plain I.Ecall ∷ status_tested in
    let t2 = small a2 0 ∷ small a7 16 ∷ rest in
    let n0 = size_append keeps (num ++ (load ++ two)) in
    let n1 = size_append num (load ++ two) in
    let n2 = size_append load two in
    subst (λ j. Linked k.call.surroundings.links k.call.code j rest) (omega (arith, n0, n1, n2))
    (back_of two rest (back_of load t2 (back_of num (load ++ t2) (back_of keeps (num ++ (load ++ t2)) l))))

-- how long it is
whole_size :
    (signature n : ℕ) → size_of (allocated_code signature n) ≡ size_of (asked_code signature n) + 1 + 3
whole_size signature n =
    size_append (amounts_code signature) (pushing_code n)
    ∙ ap (λ u. size_of (amounts_code signature) + u) (pushing_size n)
    ∙ sum_of (size_of (amounts_code signature)) (size_of (number a0 n ++ (loaded_code ++ last)))
    ∙ ap (λ u. u + 1 + 3) (sym (size_append (amounts_code signature) (number a0 n ++ (loaded_code ++ last))))
  where
    last : Code
    last = small a2 0 ∷ small a7 16 ∷ []

    sum_of : (a b : ℕ) → a + (b + 4) ≡ a + b + 1 + 3
    sum_of a b = omega arith

    pushing_size : (n : ℕ) → size_of (pushing_code n) ≡ size_of (number a0 n ++ (loaded_code ++ last)) + 4
    pushing_size n =
        let num = number a0 n in
        let t2 = small a2 0 ∷ small a7 16 ∷ Plain I.Ecall ∷ status_tested in
        let n1 = size_append num (loaded_code ++ last) in
        let m1 = size_append num (loaded_code ++ t2) in
        omega (arith, n1, m1)

-- ---- the call

-- what it leaves at a point: memory, and a status
pub record Leaves (w : Surroundings) (q u : Point) (b : Base) (m : List ℕ) (signature n status : ℕ) : Type 0 where
  pub memory : List ℕ
  pub stands : StandsIn w u b memory
  pub many : length memory ≡ length m
  pub answered : K.push_served (call (now q m)) n signature 0 ≡ Done (services_of u) memory n status

called_comes :
    {of : ℕ → Option Variable} {k : Block} {x : Spot} {q : Point} {numbers : ℕ → ℕ} {i : ℕ}
    (z : Given of k x q numbers) (u : Point) (o' : IsAmong k numbers u) (status c : ℕ) (f : Family) →
    (services_of q).world.acts ≤ (services_of u).world.acts → u.control.layers ≡ q.control.layers →
    ((b : Base) (m : List ℕ) → StandsIn k.call.surroundings q b m →
    Leaves k.call.surroundings q u b m z.is.signature (number_of k x) status) →
    Linked k.call.surroundings.links k.call.code i (allocated_code z.is.signature (number_of k x)) →
    AreIn k.call.surroundings q numbers i f →
    Reach k.call.code c f (services_of q) (c + size_of (asked_code z.is.signature (number_of k x)) + 1) (services_of u)
    (λ b y. At b (i + size_of (asked_code z.is.signature (number_of k x)) + 1)
    (Known (point_ground k.call.surroundings u (point_frame o'.stands o'.image)) (services_of u) numbers (λ j. 0)
    (coded status) b) y)
called_comes {of} {k} {x} {q} {numbers} {i} z u o' status c f more layers leaves l there =
    let w = k.call.surroundings in
    let code = k.call.code in
    let v = services_of q in
    let n = number_of k x in
    let sig = z.is.signature in
    let asks = asked_code sig n in
    let h' = point_frame o'.stands o'.image in
    let r1 = given_comes z c f l there in
    let g = reached r1 in
    let left' : (b : Base) → Leaves w q u b (g b).machine.memory sig n status =
    λ b. leaves b (g b).machine.memory (reached_holds r1 b).holds.body.memory in
    let calling : Calling w.links code (i + size_of asks) g (λ b. Done (services_of u) (left' b).memory n status) =
    record {
      linked = first_of (Plain I.Ecall) status_tested (rest_linked z.is l);
      pc = λ b. (reached_holds r1 b).pc;
      answers = λ b.
          let t = (reached_holds r1 b).holds in
          let y = (g b).machine.registers in
          called code (g b) v 16 n sig 0 (y 13) (y 14) (λ call' x0 x1 x2 x3 x4. K.push_served call' x0 x1 x2)
          t.body.services t.regs.0 t.regs.1.1.1.0 t.regs.1.1.0 t.regs.1.0 refl refl (λ call' u'. refl)
          ∙ ap (λ call'. K.push_served call' n sig 0) (call_is w code q (g b).machine.memory z.among.image)
          ∙ (left' b).answered;
    } in
    let r2 = call_done (c + size_of asks) g v (services_of u) (λ b. (left' b).memory) (λ b. n) (λ b. status)
    (λ b y. Known (point_ground w u h') (services_of u) numbers (λ j. 0) (coded status) b y) more calling
    (λ b. let t = (reached_holds r1 b).holds in record {
      body = record {
        services = refl;
        registers = subst (λ ls. reserved (g b).machine.registers ≡ 0 ∷ (b.at + upper_top w.parts ls)
            ∷ (b.at + frame_under w.parts ls) ∷ numbers 0 ∷ numbers 1 ∷ numbers 2 ∷ numbers 3 ∷ numbers 4 ∷ numbers 5
            ∷ numbers 6 ∷ []) (sym layers) t.body.registers;
        bytes = (left' b).many ∙ t.body.bytes;
        memory = (left' b).stands;
      };
      regs = (refl, tt);
    }) in
    reach_then r1 r2

-- it was done
pub done_comes :
    {of : ℕ → Option Variable} {k : Block} {x : Spot} {q : Point} {numbers : ℕ → ℕ} {i : ℕ}
    (z : Given of k x q numbers) (u : Point) (o' : IsAmong k numbers u) (c : ℕ) (f : Family) →
    (services_of q).world.acts ≤ (services_of u).world.acts → u.control.layers ≡ q.control.layers →
    ((b : Base) (m : List ℕ) → StandsIn k.call.surroundings q b m →
    Leaves k.call.surroundings q u b m z.is.signature (number_of k x) 0) →
    Linked k.call.surroundings.links k.call.code i (allocated_code z.is.signature (number_of k x)) →
    AreIn k.call.surroundings q numbers i f →
    Reach k.call.code c f (services_of q) (c + size_of (allocated_code z.is.signature (number_of k x))) (services_of u)
    (λ b y. IsIn k.call.surroundings u numbers (i + size_of (allocated_code z.is.signature (number_of k x))) b y)
done_comes {of} {k} {x} {q} {numbers} {i} z u o' c f more layers leaves l there =
    let n = number_of k x in
    let sig = z.is.signature in
    let whole = allocated_code sig n in
    let asks = asked_code sig n in
    let split = whole_size sig n in
    let h' = point_frame o'.stands o'.image in
    let r1 = called_comes z u o' 0 c f more layers leaves l there in
    let r2 = skip_taken (c + size_of asks + 1) (reached r1) Test.Equal a1 zero_register (JumpTo RaiseError ∷ [])
    (rest_of (Plain I.Ecall) status_tested (rest_linked z.is l)) (reached_holds r1)
    (λ b. let t = (reached_holds r1 b).holds in
    ap (λ y. y == (reached r1 b).machine.registers 0) t.regs.0 ∙ ap (λ y. 0 == y) (zero_is t.body)) in
    reach_map _ (reach_moved {c'' = c + size_of whole} {i'' = i + size_of whole} (omega (arith, split))
    (omega (arith, split)) (reach_then r1 r2))
    (λ b y t.
    in_known {t = λ j. 0} {rs = nothing} h' o'.image.parts
    (record { pc = t.pc; holds = record { body = t.holds.body; regs = tt } }))

-- it wasn't, and ERROR comes to what it means
pub error_ends :
    {X : Type 0} {of : ℕ → Option Variable} {k : Setting} {x : Spot} {q : Point} {numbers : ℕ → ℕ} {i : ℕ}
    {aims : Aims X} (closed : Closed k.block.call.code aims) (z : Given of k.block x q numbers) (ends : Ends k)
    (around : Around) (status c : ℕ) (f : Family) → status < 2 ^ 16 → (status == 0) ≡ false →
    ((b : Base) (m : List ℕ) → StandsIn k.block.call.surroundings q b m →
    Leaves k.block.call.surroundings q q b m z.is.signature (number_of k.block x) status) →
    q.control.line ≡ around.line →
    c + size_of (allocated_code z.is.signature (number_of k.block x)) + 18 < cost k.block.call.code →
    Linked k.block.call.surroundings.links k.block.call.code i
    (allocated_code z.is.signature (number_of k.block x)) →
    AreIn k.block.call.surroundings q numbers i f →
    Comes k.block.call.code c f (services_of q) aims
    (R.error {R = X} around status k.block.call.surroundings.acts q.state)
error_ends {k = k'} {x} {q} {numbers} {i} closed z ends around status c f fits some leaves line paid l there =
    let k = k'.block in
    let n = number_of k x in
    let sig = z.is.signature in
    let asks = asked_code sig n in
    let split = whole_size sig n in
    let h = point_frame z.among.stands z.among.image in
    let c1 = c + size_of asks + 1 in
    let lt = rest_of (Plain I.Ecall) status_tested (rest_linked z.is l) in
    let r1 = called_comes z q z.among status c f (omega arith) refl leaves l there in
    let r2 = skip_passed c1 (reached r1) Test.Equal a1 zero_register (JumpTo RaiseError ∷ []) lt (reached_holds r1)
    (λ b. let t = (reached_holds r1 b).holds in
    ap (λ u. u == (reached r1 b).machine.registers 0) t.regs.0 ∙ ap (λ u. status == u) (zero_is t.body) ∙ some) in
    let inside = ends.routines.linked.inside in
    let near = ends.routines.linked.small' in
    let r3 = jump_piece (c1 + 1) (c1 + 1 + 2) (reached r2) RaiseError (ends.routines.at + 8) (omega arith) ends.raises
    (omega (arith, inside, near))
    (record { reserved_stay = λ y u. refl; known_stay = λ b y u t. t; set = λ y u. refl })
    (rest_of _ (JumpTo RaiseError ∷ []) lt) (reached_holds r2) in
    onward closed (reach_then r1 (reach_then r2 r3)) (λ f' at'.
    error_comes closed ends.routines (c1 + 1 + 2) f' around status h (z.among.stands, z.among.image) fits
    (omega (arith, paid, split), ends.acts) line
    (subst (λ xs. IsSystem (Q.force xs C.Error)) (sym z.among.later.activations) ends.error) at')

-- ---- what service 16 leaves

-- the point behind it
abbrev pub pushed_point : (x : Spot) (n signature o : ℕ) → Point → Point
pushed_point x n signature o p =
    relisted true (allocated_state x o p.state).heap (allocated_state x o p.state).controlled
    (K.with_newest n (record { offset = o; signature = signature }) (services_of p)).controlled p

is_small : (n : ℕ) → n < 2 ^ 16 → K.is_controlled n ≡ true
is_small n few = lt-ltb n (2 ^ 16) few

-- its signature is still the table's
numbered_now :
    {of : ℕ → Option Variable} {k : Block} {x : Spot} {q : Point} {numbers : ℕ → ℕ} (z : Given of k x q numbers)
    (m : List ℕ) → Begins (now q m) (number_of k x) z.is.signature 0 new_number
numbered_now {of} {k} {x} {q} z m =
    number_begins (now q m) (number_of k x) z.is.signature (is_small (number_of k x) z.is.listed.few) z.is.number
    (shapes_remain z.among.later.remains z.is.signature controlled_shape z.is.numbered)

pub full_leaves :
    {of : ℕ → Option Variable} {k : Block} {x : Spot} {q : Point} {numbers : ℕ → ℕ} (z : Given of k x q numbers) →
    gap heap_capacity (footprint_of new_number) q.state.heap ≡ None → (b : Base) (m : List ℕ) →
    StandsIn k.call.surroundings q b m →
    Leaves k.call.surroundings q q b m z.is.signature (number_of k x) heap_full_code
full_leaves {of} {k} {x} {q} z none b m stands =
    record {
      memory = m;
      stands = stands;
      many = refl;
      answered =
          push_refused (now q m) stands.storage (number_of k x) z.is.signature 0 new_number (numbered_now z m) none;
    }

pub pushed_leaves :
    {of : ℕ → Option Variable} {k : Block} {x : Spot} {q : Point} {numbers : ℕ → ℕ} (z : Given of k x q numbers)
    (o : ℕ) → gap heap_capacity (footprint_of new_number) q.state.heap ≡ Some o → (b : Base) (m : List ℕ) →
    StandsIn k.call.surroundings q b m →
    Leaves k.call.surroundings q (pushed_point x (number_of k x) z.is.signature o q) b m z.is.signature
    (number_of k x) 0
pushed_leaves {of} {k} {x} {q} z o free b m stands =
    let n = number_of k x in
    let sig = z.is.signature in
    let t = pushed_there (now q m) stands.storage n sig o new_number (numbered_now z m) free in
    let u = pushed_point x n sig o q in
    let h = t.holds in
    record {
      memory = t.memory;
      stands = relisted_in k.call.surroundings true u.state.heap u.state.controlled u.control.controlled q b m t.memory
          z.among.stands stands
          (record {
            keeps = h.keeps;
            heap = record { at = h.heap.at; capacity = h.heap.capacity };
            lives = record {
              falling = h.lives.falling;
              numbered = h.lives.numbered;
              extents = h.lives.extents;
            };
            stored = same_held q.keeper (with_heap_made q.places) (placed_heap o new_number q.state) u.state t.memory
                refl refl h.stored;
            distinct = h.distinct;
          })
          t.beside;
      many = t.beside.as_many;
      answered = t.answered;
    }

-- the lists stand there, since at some base a machine has come to it
pub lists_pushed :
    {of : ℕ → Option Variable} {k : Block} {x : Spot} {q : Point} {numbers : ℕ → ℕ} (z : Given of k x q numbers)
    (o : ℕ) → gap heap_capacity (footprint_of new_number) q.state.heap ≡ Some o → (b : Base) (m : List ℕ) →
    StandsIn k.call.surroundings q b m → ListsStand of (pushed_point x (number_of k x) z.is.signature o q)
lists_pushed {of} {k} {x} {q} z o free b m stands =
    let n = number_of k x in
    let sig = z.is.signature in
    let t = pushed_there (now q m) stands.storage n sig o new_number (numbered_now z m) free in
    let ordered = heap_ordered (allocated heap_serial o new_number t.memory (now q m)) t.holds in
    let begins = numbered_now z m in
    let own : IsLive (with_heap_made q.places) (placed_heap o new_number q.state)
    (record { offset = o; signature = sig }) = record {
      generation = new_number;
      placed = placed_found 0 heap_capacity (record { offset = o; generation = new_number }) q.state.heap ordered;
      number = begins.shape_same;
      class = begins.class;
    } in
    let after = stacks_pushed (now q []) of z.lists (listed x) n (record { offset = o; signature = sig }) new_number []
    z.is.listed.named ordered own in
    record {
      each = λ i y e. let t' = after.each i y e in record { offsets = t'.offsets; live = t'.live };
      other = after.other;
      once = after.once;
      apart = after.apart;
    }
