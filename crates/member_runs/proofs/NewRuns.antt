-- ALLOCATE of a structure: what service 10 is given, and the service; without a gap AREA ends the run.
use Rattle.std.proofs.Common.{◌≡◌, ℕ, ◌+◌, ◌^◌, ◌<◌, ◌≤◌, List, [], ◌∷◌, ◌++◌, length, None, Some}
use Rattle.std.proofs.Common.{refl, sym, ap, ◌∙◌, subst, arith}
use Rattle.std.proofs.lemmas.List.{append_assoc}
use Rattle.std.specs.Prelude.{negsuc, ◌==◌}
use Rattle.rv_meaning.specs.declared.instr.BranchTest.TheVariants as Test
use Rattle.rv_meaning.specs.declared.instr.Instr.TheVariants as I
use Rattle.pli_language.specs.declared.condition.Condition.TheVariants as C
use Rattle.pli_meaning.specs.BasicValues.{BasedName}
use Rattle.pli_meaning.specs.Codes.{area_code}
use Rattle.pli_meaning.specs.Contents.{footprint_of, gap}
use Rattle.pli_meaning.specs.Raising as R
use Rattle.pli_meaning.specs.Raising.{Around, at_line}
use Rattle.pli_meaning.specs.StorageState as Q
use Rattle.pli_meaning.specs.StorageState.{ancestor, binding_in, newest_height, standing_for}
use Rattle.area_keeper.specs.KeptAreas.{with_part}
use Rattle.area_keeper.proofs.Agreement.{length_with_part}
use Rattle.pli_serving.specs.Answers.{Answer, Done}
use Rattle.pli_serving.specs.AreaServices as A
use Rattle.pli_serving.specs.Bytes.{name_bytes}
use Rattle.pli_coding.specs.Arithmetic.{raised}
use Rattle.pli_coding.specs.Assembly.{CallTo, Code, Plain, RaiseCondition, size_of}
use Rattle.pli_coding.specs.Instructions.{load_word, skip_where, small}
use Rattle.pli_coding.specs.Registers.{a0, a1, a2, a3, a4, a7, frame_register, zero_register}
use Rattle.activation_relation.specs.Layers.{Point, services_of}
use Rattle.activation_relation.specs.ServiceLaws.{IsSystem}
use Rattle.activation_relation.proofs.Remaining.{shapes_remain}
use Rattle.run_steps.specs.Bodies.{Known}
use Rattle.run_steps.proofs.Bodies.{zero_is}
use Rattle.run_steps.specs.Calls.{Calling}
use Rattle.run_steps.proofs.Calls.{call_done, called}
use Rattle.run_steps.specs.Engine.{Base, most_code}
use Rattle.image_runs.specs.Runs.{Whole}
use Rattle.run_steps.specs.Items.{At, Linked}
use Rattle.run_steps.proofs.Items.{straight}
use Rattle.run_steps.proofs.Jumps.{back_of, call_piece, first_of, front_of, rest_of, skip_passed, skip_taken}
use Rattle.run_steps.proofs.Linking.{size_append}
use Rattle.run_steps.specs.Reach.{Aims, Closed, Comes, Family, Reach, cost, reached}
use Rattle.run_steps.proofs.Reach.{onward, reach_map, reach_then, reached_holds}
use Rattle.run_steps.proofs.Reaching.{reach_moved}
use Rattle.run_steps.specs.Temporaries.{nothing}
use Rattle.block_runs.specs.Machines.{AreIn, IsIn}
use Rattle.block_runs.proofs.BlockEntries.{small_is}
use Rattle.block_runs.proofs.PointGrounds.{call_is, in_known, point_frame, point_ground}
use Rattle.program_runs.specs.Statements.{Block, IsAmong}
use Rattle.program_runs.proofs.Variables.{own_code}
use Rattle.expression_runs.specs.Variables.{Spot}
use Rattle.expression_runs.specs.Raises.{Routines}
use Rattle.expression_runs.proofs.Raises.{conditioned}
use Rattle.expression_runs.proofs.Words.{frame_of}
use Rattle.variable_runs.specs.Known.{place_of}
use Rattle.area_runs.specs.Allocations.{HasArea}
use Rattle.area_runs.proofs.AllocationCode.{allocating_code, amounts_code, placing_asked}
use Rattle.area_runs.proofs.AllocationCode.{trying_code}
use Rattle.area_runs.proofs.AllocationGiven.{IsFree, given_code, given_reaches, given_regs, kept_reaches}
use Rattle.area_runs.proofs.BasedCode.{name_at_place}
use Rattle.area_runs.proofs.BasedReads.{laid_out}
use Rattle.area_runs.proofs.Conditions.{condition_comes}
use Rattle.pli_typing.specs.TypedTree as Y
use Rattle.area_runs.proofs.AreaPoints.{AreaAt, area_base, area_place}
use Rattle.locator_runs.proofs.PointerPoints.{PointerAt, own_base, pointer_place}
use Rattle.member_runs.specs.Allocations.{IsUninitialized}
use Rattle.member_runs.specs.Members.{IsStructure, structure_shape}
use Rattle.member_runs.proofs.NewAreas.{Answers, Asks, asks_at, full_answer, new_structure, placed_answer}
use Rattle.member_runs.proofs.NewPoints.{allocated_point, allocated_services, allocated_stands}

-- ---- its code, in three parts: what is given, the service, and what is behind it

abbrev pub asked_code : {k : Block} {p n x : Spot} {members : List Y.Member} {leaves : List Y.Leaf} →
    IsStructure k p n members leaves → HasArea k x → Code
asked_code {k} {p} {n} {x} is area =
    amounts_code is.signature ++ given_code (place_of k.environment x) (name_at_place k.environment p)

abbrev pub tried_code : Block → (p x : Spot) → Code
tried_code k p x =
    skip_where Test.Equal a1 zero_register
    (trying_code (placing_asked (place_of k.environment x) (name_at_place k.environment p)))

abbrev pub whole_code : {k : Block} {p n x : Spot} {members : List Y.Member} {leaves : List Y.Leaf} →
    IsStructure k p n members leaves → HasArea k x → Code
whole_code {k} {p} {n} {x} is area = asked_code is area ++ (Plain I.Ecall ∷ tried_code k p x)

pub split_whole :
    {k : Block} {p n x : Spot} {members : List Y.Member} {leaves : List Y.Leaf} (is : IsStructure k p n members leaves)
    (area : HasArea k x) →
    allocating_code is.signature (place_of k.environment x) (name_at_place k.environment p) ≡ whole_code is area
split_whole {k} {p} {n} {x} is area =
    append_nil _
    ∙ ap (λ u. amounts_code is.signature ++ u) (append_nil _)
    ∙ ap (λ u. amounts_code is.signature ++ u) (split_given (own_code a0 (place_of k.environment x))
    (own_code a4 (name_at_place k.environment p)) (tried_code k p x))
    ∙ sym (append_assoc (amounts_code is.signature)
    (given_code (place_of k.environment x) (name_at_place k.environment p)) (Plain I.Ecall ∷ tried_code k p x))
  where
    append_nil : (xs : Code) → xs ++ [] ≡ xs
    append_nil [] = refl
    append_nil (x ∷ xs) = ap (λ u. x ∷ u) (append_nil xs)

    one : Code
    one = load_word a1 frame_register (negsuc 3)

    two : Code
    two = load_word a2 frame_register (negsuc 7)

    split_given :
        (area' pointer' rest : Code) →
        (area' ++ (one ++ (two ++ (small a3 0 ∷ (pointer' ++ (small a7 10 ∷ Plain I.Ecall ∷ [])))))) ++ rest
        ≡ (area' ++ (one ++ (two ++ (small a3 0 ∷ (pointer' ++ (small a7 10 ∷ [])))))) ++ (Plain I.Ecall ∷ rest)
    split_given area' pointer' rest =
        append_assoc area' (one ++ (two ++ (small a3 0 ∷ (pointer' ++ (small a7 10 ∷ Plain I.Ecall ∷ []))))) rest
        ∙ ap (λ u. area' ++ (one ++ (two ++ (small a3 0 ∷ u))))
        (append_assoc pointer' (small a7 10 ∷ Plain I.Ecall ∷ []) rest
        ∙ sym (append_assoc pointer' (small a7 10 ∷ []) (Plain I.Ecall ∷ rest)))
        ∙ sym (append_assoc area' (one ++ (two ++ (small a3 0 ∷ (pointer' ++ (small a7 10 ∷ [])))))
        (Plain I.Ecall ∷ rest))

-- ---- what is given

-- around it
pub record Given (k : Block) (p n x : Spot) (members : List Y.Member) (leaves : List Y.Leaf) (q : Point)
    (numbers : ℕ → ℕ) : Type 0
  where
    pub is : IsStructure k p n members leaves
    pub new : IsUninitialized members leaves
    pub area : HasArea k x
    pub words : 2 ≤ area.layer.words
    pub waits : (i : ℕ) → area.layer.waits i ≡ None
    pub among : IsAmong k numbers q

abbrev frame_at :
    {k : Block} {p n x : Spot} {members : List Y.Member} {leaves : List Y.Leaf} {q : Point} {numbers : ℕ → ℕ} →
    Given k p n x members leaves q numbers → frame_of k q
frame_at z = point_frame z.among.stands z.among.image

given_comes :
    {k : Block} {p n x : Spot} {members : List Y.Member} {leaves : List Y.Leaf} {q : Point} {numbers : ℕ → ℕ} {i : ℕ}
    (z : Given k p n x members leaves q numbers) (c : ℕ)
    (f : Family) → Linked k.call.surroundings.links k.call.code i (asked_code z.is z.area) →
    AreIn k.call.surroundings q numbers i f →
    Reach k.call.code c f (services_of q) (c + size_of (asked_code z.is z.area)) (services_of q)
    (λ b y. At b (i + size_of (asked_code z.is z.area)) (Known (point_ground k.call.surroundings q (frame_at z))
    (services_of q) numbers (λ j. 0)
    (given_regs (area_place z.area) z.is.signature (pointer_place z.is.pointer)) b) y)
given_comes {k} {p} {n} {x} {members} {leaves} {q} {numbers} {i} z c f l there =
    let w = k.call.surroundings in
    let o = z.among in
    let is = z.is in
    let area = z.area in
    let h = frame_at z in
    let keeps = amounts_code is.signature in
    let gives = given_code (place_of k.environment x) (name_at_place k.environment p) in
    let n0 = size_append keeps gives in
    let base = own_base is.pointer o in
    let base' = area_base area o in
    let inside = is.pointer.known.inside in
    let inside' = area.known.inside in
    let free : IsFree q area.layer area.others = record {
      newest = o.later.layers ∙ area.layers;
      words = z.words;
      waits = z.waits;
    } in
    let r1 = kept_reaches is.signature h o.stands free is.number c f (front_of keeps gives l) there in
    let r2 = given_reaches is.signature (place_of k.environment x) (name_at_place k.environment p) h
    (omega (arith, base', inside'), omega (arith, base, inside)) (c + size_of keeps) (reached r1)
    (back_of keeps gives l) (reached_holds r1) in
    reach_map _ (reach_moved (omega (arith, n0)) (omega (arith, n0)) (reach_then r1 r2)) (λ b y s. record {
      pc = s.pc;
      holds = record {
        body = record {
          services = s.holds.body.services;
          registers = s.holds.body.registers;
          bytes = s.holds.body.bytes;
          memory = s.holds.body.memory.0;
        };
        regs = (
          s.holds.regs.0,
          (
            s.holds.regs.1.0 ∙ ap (λ j. j + name_at_place k.environment p) base,
            (
              s.holds.regs.1.1.0,
              (
                s.holds.regs.1.1.1.0,
                (
                  s.holds.regs.1.1.1.1.0,
                  (s.holds.regs.1.1.1.1.1.0 ∙ ap (λ j. j + place_of k.environment x) base', tt),
                ),
              ),
            ),
          ),
        );
      };
    })

-- what service 10 is asked at a machine's memory
asks_of :
    {k : Block} {p n x : Spot} {members : List Y.Member} {leaves : List Y.Leaf} {q : Point} {numbers : ℕ → ℕ} {i : ℕ}
    {rs : Base → List (ℕ × ℕ)}
    (z : Given k p n x members leaves q numbers) → length k.call.code ≤ most_code → (b : Base) (y : Whole) →
    At b i (Known (point_ground k.call.surroundings q (frame_at z)) (services_of q) numbers (λ j. 0) rs b) y →
    Asks members leaves z.area q z.is.signature (pointer_place z.is.pointer) y.machine.memory
asks_of {k} {members = members} {leaves} {q} z small' b y s =
    let is = z.is in
    let o = z.among in
    let low = is.pointer.known.low in
    let inside = is.pointer.known.inside in
    asks_at members leaves z.new z.area o is.signature (pointer_place is.pointer) b.at y.machine.memory is.number
    (shapes_remain o.later.remains is.signature (structure_shape members leaves) is.numbered)
    s.holds.body.memory.storage
    s.holds.body.memory.frames (laid_out o (omega (arith, small'))) (omega (arith, low), omega (arith, inside))

-- ---- a gap is found

pub found_reaches :
    {k : Block} {p n x : Spot} {members : List Y.Member} {leaves : List Y.Leaf} {q : Point} {numbers : ℕ → ℕ} {i : ℕ}
    (z : Given k p n x members leaves q numbers)
    (a : PointerAt k p z.is.pointer q) (at : AreaAt k x z.area q) (o : ℕ) →
    gap z.area.capacity (footprint_of (new_structure members leaves)) at.living.placed ≡ Some o → (c : ℕ) (f : Family) →
    Linked k.call.surroundings.links k.call.code i (whole_code z.is z.area) →
    AreIn k.call.surroundings q numbers i f →
    Reach k.call.code c f (services_of q) (c + size_of (whole_code z.is z.area))
    (services_of (allocated_point (new_structure members leaves) z.area.known.serial o q a.points))
    (λ b y. IsIn k.call.surroundings (allocated_point (new_structure members leaves) z.area.known.serial o q a.points)
    numbers
    (i + size_of (whole_code z.is z.area)) b y)
found_reaches {k} {p} {n} {x} {members} {leaves} {q} {numbers} {i} z a at o free c f l there =
    let w = k.call.surroundings in
    let code = k.call.code in
    let is = z.is in
    let area = z.area in
    let h = frame_at z in
    let v = services_of q in
    let small' = l.small' in
    let asks = asked_code is area in
    let tries = tried_code k p x in
    let n0 = size_append asks (Plain I.Ecall ∷ tries) in
    let l1 = back_of asks (Plain I.Ecall ∷ tries) l in
    let r1 = given_comes z c f (front_of asks (Plain I.Ecall ∷ tries) l) there in
    let g = reached r1 in
    let serial = area.known.serial in
    let u = allocated_point (new_structure members leaves) serial o q a.points in
    let answers : (b : Base) → Answers members leaves area q is.signature (pointer_place is.pointer) (g
    b).machine.memory o =
    λ b. placed_answer members leaves area is.signature (pointer_place is.pointer) (g b).machine.memory
    (asks_of z small' b (g b) (reached_holds r1 b)) at o free in
    let final : Base → List ℕ =
    λ b. with_part (name_bytes (BasedName serial o)) (pointer_place is.pointer) (answers b).memory in
    let answer : Base → Answer = λ b. Done v (final b) (area_place area) 0 in
    let calling : Calling w.links code (i + size_of asks) g answer = record {
      linked = first_of (Plain I.Ecall) tries l1;
      pc = λ b. (reached_holds r1 b).pc;
      answers = λ b.
          let s = (reached_holds r1 b).holds in
          let m = (g b).machine.memory in
          called code (g b) v 10 (area_place area) is.signature 0 0 (pointer_place is.pointer)
          (λ call x0 x1 x2 x3 x4. A.allocate_served call x0 x1 x2 x3 x4) s.body.services s.regs.0 s.regs.1.1.1.1.1.0
          s.regs.1.1.1.1.0 s.regs.1.1.1.0 s.regs.1.1.0 s.regs.1.0 (λ call y. refl)
          ∙ ap (λ call'. A.allocate_served call' (area_place area) is.signature 0 0 (pointer_place is.pointer))
          (call_is w code q m z.among.image)
          ∙ (answers b).answer;
    } in
    let inside = is.pointer.known.inside in
    let r2 = call_done (c + size_of asks) g v v final (λ b. area_place area) (λ b. 0)
    (λ b y. Known (point_ground w u h) v numbers (λ j. 0) (λ b'. (11, 0) ∷ []) b y) (omega arith) calling
    (λ b.
    let s = (reached_holds r1 b).holds in
    let many = (answers b).beside.as_many in
    let bytes = s.body.bytes in
    record {
      body = record {
        services = refl;
        registers = s.body.registers;
        bytes = length_with_part (name_bytes (BasedName serial o)) (pointer_place is.pointer) (answers b).memory
            (omega (arith, inside, many, bytes)) ∙ many ∙ bytes;
        memory = allocated_stands members leaves w is.pointer area at a is.signature o b (g b).machine.memory (answers
            b) z.among.stands
            s.body.memory;
      };
      regs = (refl, tt);
    }) in
    let r3 = skip_taken (c + size_of asks + 1) (reached r2) Test.Equal a1 zero_register
    (trying_code (placing_asked (place_of k.environment x) (name_at_place k.environment p)))
    (rest_of (Plain I.Ecall) tries l1) (reached_holds r2)
    (λ b. let s = (reached_holds r2 b).holds in
    ap (λ y. y == (reached r2 b).machine.registers 0) s.regs.0 ∙ ap (λ y. 0 == y) (zero_is s.body)) in
    let all = reach_moved {c'' = c + size_of (whole_code is area)} {i'' = i + size_of (whole_code is area)}
    (omega (arith, n0)) (omega (arith, n0)) (reach_then r1 (reach_then r2 r3)) in
    subst (λ s. Reach code c f (services_of q) (c + size_of (whole_code is area)) s
    (λ b y. IsIn w u numbers (i + size_of (whole_code is area)) b y)) (sym (allocated_services (new_structure members
    leaves) serial o q a.points))
    (reach_map _ all (λ b y s.
    in_known {t = λ j. 0} {rs = nothing} h z.among.image.parts
    (record {
      pc = s.pc;
      holds = record {
        body = record {
          services = s.holds.body.services ∙ sym (allocated_services (new_structure members leaves) serial o q
              a.points);
          registers = s.holds.body.registers;
          bytes = s.holds.body.bytes;
          memory = s.holds.body.memory;
        };
        regs = tt;
      };
    })))

-- ---- there is none

pub full_comes :
    {k : Block} {p n x : Spot} {members : List Y.Member} {leaves : List Y.Leaf} {q : Point} {numbers : ℕ → ℕ} {i : ℕ}
    {aims : Aims (Unit {0})}
    (closed : Closed k.call.code aims) (z : Given k p n x members leaves q numbers)
    (at : AreaAt k x z.area q) (around : Around) (routines : Routines k.call.surroundings.links k.call.code) →
    IsSystem (Q.force q.state.activations C.Area) × IsSystem (Q.force q.state.activations C.Error) →
    gap z.area.capacity (footprint_of (new_structure members leaves)) at.living.placed ≡ None → (c : ℕ) (f : Family) →
    (c + size_of (whole_code z.is z.area) + 18 < cost k.call.code) × (k.call.surroundings.acts + 1 < 2 ^ 64) →
    q.control.line ≡ around.line →
    Linked k.call.surroundings.links k.call.code i (whole_code z.is z.area) →
    AreIn k.call.surroundings q numbers i f →
    Comes k.call.code c f (services_of q) aims (R.raised around C.Area area_code k.call.surroundings.acts q.state)
full_comes {k} {p} {n} {x} {members} {leaves} {q} {numbers} {i} closed z at around routines system none c f afford
    line l
    there =
    let w = k.call.surroundings in
    let code = k.call.code in
    let is = z.is in
    let area = z.area in
    let h = frame_at z in
    let v = services_of q in
    let small' = l.small' in
    let asks = asked_code is area in
    let tries = tried_code k p x in
    let placing = placing_asked (place_of k.environment x) (name_at_place k.environment p) in
    let n0 = size_append asks (Plain I.Ecall ∷ tries) in
    let l1 = back_of asks (Plain I.Ecall ∷ tries) l in
    let l2 = rest_of (Plain I.Ecall) tries l1 in
    let r1 = given_comes z c f (front_of asks (Plain I.Ecall ∷ tries) l) there in
    let g = reached r1 in
    let answer : Base → Answer = λ b. Done v (g b).machine.memory (area_place area) area_code in
    let calling : Calling w.links code (i + size_of asks) g answer = record {
      linked = first_of (Plain I.Ecall) tries l1;
      pc = λ b. (reached_holds r1 b).pc;
      answers = λ b.
          let s = (reached_holds r1 b).holds in
          let m = (g b).machine.memory in
          called code (g b) v 10 (area_place area) is.signature 0 0 (pointer_place is.pointer)
          (λ call x0 x1 x2 x3 x4. A.allocate_served call x0 x1 x2 x3 x4) s.body.services s.regs.0 s.regs.1.1.1.1.1.0
          s.regs.1.1.1.1.0 s.regs.1.1.1.0 s.regs.1.1.0 s.regs.1.0 (λ call y. refl)
          ∙ ap (λ call'. A.allocate_served call' (area_place area) is.signature 0 0 (pointer_place is.pointer))
          (call_is w code q m z.among.image)
          ∙ full_answer members leaves area is.signature (pointer_place is.pointer) m (asks_of z small' b (g b)
          (reached_holds r1 b)) at none;
    } in
    let r2 = call_done (c + size_of asks) g v v (λ b. (g b).machine.memory) (λ b. area_place area) (λ b. area_code)
    (λ b y. Known (point_ground w q h) v numbers (λ j. 0) (λ b'. (11, area_code) ∷ []) b y) (omega arith) calling
    (λ b. let s = (reached_holds r1 b).holds in record {
      body = record {
        services = refl;
        registers = s.body.registers;
        bytes = s.body.bytes;
        memory = s.body.memory;
      };
      regs = (refl, tt);
    }) in
    let r3 = skip_passed (c + size_of asks + 1) (reached r2) Test.Equal a1 zero_register (trying_code placing) l2
    (reached_holds r2)
    (λ b. let s = (reached_holds r2 b).holds in
    ap (λ y. y == (reached r2 b).machine.registers 0) s.regs.0 ∙ ap (λ y. area_code == y) (zero_is s.body)) in
    let l3 = rest_of _ (trying_code placing) l2 in
    let l4 = front_of (raised C.Area area_code) _ l3 in
    let two = small a0 1 ∷ small a1 area_code ∷ [] in
    let calls = CallTo RaiseCondition ∷ [] in
    let r4 = straight (c + size_of asks + 1 + 1) (reached r3) v v
    (λ b y. Known (point_ground w q h) v numbers (λ j. 0) (conditioned 1 area_code) b y) (front_of two calls l4)
    (omega arith) (λ b. (reached_holds r3 b).pc)
    (λ b. let s = (reached_holds r3 b).holds in record {
      body = record {
        services = s.body.services;
        registers = s.body.registers;
        bytes = s.body.bytes;
        memory = s.body.memory;
      };
      regs = (small_is _ 1 (zero_is s.body) (omega arith), (small_is _ area_code (zero_is s.body) (omega arith), tt));
    }) in
    let inside = routines.linked.inside in
    let near = routines.linked.small' in
    let r5 = call_piece (c + size_of asks + 1 + 1 + 2) (c + size_of asks + 1 + 1 + 2 + 2) (reached r4) RaiseCondition
    routines.at (omega arith) routines.condition (omega (arith, inside, near))
    (record { reserved_stay = λ y u. refl; known_stay = λ b y u s. s; set = λ y u. refl }) (back_of two calls l4)
    (reached_holds r4) in
    let enough = afford.0 in
    onward closed (reach_then r1 (reach_then r2 (reach_then r3 (reach_then r4 r5)))) (λ f' at'.
    condition_comes closed routines (c + size_of asks + 1 + 1 + 2 + 2) f' around C.Area 1 area_code h
    (z.among.stands, z.among.image) refl (omega arith) (omega (arith, enough, n0), afford.1) line system
    (λ b. record {
      pc = (at' b).pc;
      holds = record { body = (at' b).holds.body; regs = (at' b).holds.regs.1 };
    }))
