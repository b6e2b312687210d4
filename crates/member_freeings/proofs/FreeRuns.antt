-- The code of FREE of a structure: what service 11 is given, what it answers, and the test of its status.
use Rattle.std.proofs.Common.{◌≡◌, ℕ, ◌+◌, ◌*◌, ◌^◌, ◌<◌, ◌≤◌, length, List, [], ◌∷◌, ◌++◌, None, Some, false}
use Rattle.std.proofs.Common.{true}
use Rattle.std.proofs.Common.{refl, sym, ap, ◌∙◌, subst, arith}
use Rattle.std.proofs.lemmas.Bool.{le-leb}
use Rattle.std.proofs.lemmas.Bool.Decides.{nat_tests}
use Rattle.std.specs.Prelude.{cond, nat_le, pos, ◌==◌, ◌&&◌}
use Rattle.rv_meaning.specs.declared.instr.BranchTest.TheVariants as Test
use Rattle.rv_meaning.specs.declared.instr.Instr.TheVariants as I
use Rattle.pli_language.specs.declared.condition.Condition.TheVariants as C
use Rattle.pli_meaning.specs.BasicValues.{BasedName, VariableName}
use Rattle.pli_meaning.specs.Codes.{no_generation_code, not_in_area_code}
use Rattle.pli_meaning.specs.Contents.{Generation, without_offset}
use Rattle.pli_meaning.specs.Raising as R
use Rattle.pli_meaning.specs.Raising.{Around}
use Rattle.pli_meaning.specs.StorageState as Q
use Rattle.pli_serving.specs.Answers.{Done}
use Rattle.pli_serving.specs.AreaServices as A
use Rattle.pli_serving.specs.Arguments.{name_in}
use Rattle.pli_serving.specs.Bytes.{name_at}
use Rattle.pli_coding.specs.Assembly.{Code, JumpTo, Plain, RaiseError, size_of}
use Rattle.pli_coding.specs.Instructions.{number, small, status_tested}
use Rattle.pli_coding.specs.Registers.{a0, a1, a2, a7, zero_register}
use Rattle.storage_relation.specs.Served.{Holds, IsNumberOf, call}
use Rattle.storage_relation.proofs.CallArguments.{no_area_given}
use Rattle.storage_relation.proofs.PlacesStay.{absent_answered}
use Rattle.storage_relation.proofs.Values.{name_loaded}
use Rattle.activation_relation.specs.Layers.{Point, now, services_of}
use Rattle.activation_relation.specs.Points.{Surroundings}
use Rattle.activation_relation.specs.ServiceLaws.{IsSystem}
use Rattle.activation_relation.proofs.Remaining.{shapes_remain}
use Rattle.run_steps.specs.Bodies.{Known}
use Rattle.run_steps.proofs.Bodies.{constant_piece, zero_is}
use Rattle.run_steps.specs.Calls.{Calling}
use Rattle.run_steps.proofs.Calls.{call_done, called}
use Rattle.run_steps.specs.Engine.{Base}
use Rattle.run_steps.specs.Items.{At, Linked}
use Rattle.run_steps.proofs.Items.{straight}
use Rattle.run_steps.proofs.Jumps.{back_of, first_of, front_of, jump_piece, rest_of, skip_passed, skip_taken}
use Rattle.run_steps.proofs.Linking.{size_append}
use Rattle.run_steps.specs.Reach.{Aims, Closed, Comes, Family, Reach, cost, reached}
use Rattle.run_steps.proofs.Reach.{onward, reach_map, reach_then, reached_holds}
use Rattle.run_steps.proofs.Reaching.{reach_moved}
use Rattle.run_steps.specs.Temporaries.{nothing}
use Rattle.block_runs.specs.Machines.{AreIn, IsIn}
use Rattle.block_runs.proofs.BlockEntries.{small_is, word_fits, word_is}
use Rattle.block_runs.proofs.PointGrounds.{StandsIn, call_is, in_known, known_in, point_frame, point_ground}
use Rattle.program_runs.specs.Statements.{Block, IsAmong}
use Rattle.program_runs.proofs.Variables.{own_code, own_comes}
use Rattle.expression_runs.specs.Values.{Setting}
use Rattle.expression_runs.proofs.Raises.{coded, error_comes}
use Rattle.expression_runs.specs.Variables.{Spot}
use Rattle.area_runs.proofs.BasedCode.{name_at_place}
use Rattle.area_runs.proofs.BasedReads.{laid_out}
use Rattle.area_runs.proofs.ChangedPoints.{with_state}
use Rattle.member_freeings.proofs.FreeAnswers.{freed_there, variable_stays}
use Rattle.member_freeings.proofs.FreeCode.{freed_code, given_code}
use Rattle.member_freeings.proofs.FreePoints.{freed_stands}
use Rattle.pli_typing.specs.TypedTree as Y
use Rattle.area_runs.specs.Based.{Ends}
use Rattle.locator_runs.proofs.PointerPoints.{PointerAt, own_base, pointer_place}
use Rattle.member_runs.specs.Members.{IsStructure, structure_shape}

-- a pointer of the block, at one of its points
pub record Given (k : Block) (p n : Spot) (members : List Y.Member) (leaves : List Y.Leaf) (q : Point)
    (numbers : ℕ → ℕ) : Type 0
  where
    pub is : IsStructure k p n members leaves
    pub among : IsAmong k numbers q
    pub points : PointerAt k p is.pointer q
    pub small : 4 * length k.call.code ≤ 2 ^ 22

abbrev pub whole_code : {k : Block} {p n : Spot} {members : List Y.Member} {leaves : List Y.Leaf} →
    IsStructure k p n members leaves → Code
whole_code {k} {p} is = freed_code (name_at_place k.environment p) is.signature

abbrev asked_code : {k : Block} {p n : Spot} {members : List Y.Member} {leaves : List Y.Leaf} →
    IsStructure k p n members leaves → Code
asked_code {k} {p} is = given_code (name_at_place k.environment p) is.signature

-- ---- what is given

abbrev given_regs : (name signature : ℕ) → Base → List (ℕ × ℕ)
given_regs name signature b = (17, 11) ∷ (12, 0) ∷ (11, signature) ∷ (10, name) ∷ []

given_comes :
    {k : Block} {p n : Spot} {members : List Y.Member} {leaves : List Y.Leaf} {q : Point} {numbers : ℕ → ℕ} {i : ℕ} (z
    : Given k p n members leaves q numbers) (c : ℕ) (f : Family) →
    Linked k.call.surroundings.links k.call.code i (whole_code z.is) → AreIn k.call.surroundings q numbers i f →
    Reach k.call.code c f (services_of q) (c + size_of (asked_code z.is)) (services_of q)
    (λ b y. At b (i + size_of (asked_code z.is))
    (Known (point_ground k.call.surroundings q (point_frame z.among.stands z.among.image)) (services_of q) numbers
    (λ j. 0) (given_regs (pointer_place z.is.pointer) z.is.signature) b) y)
given_comes {k} {p} {n} {members} {leaves} {q} {numbers} {i} z c f l there =
    let w = k.call.surroundings in
    let o = z.among in
    let is = z.is in
    let h = point_frame o.stands o.image in
    let v = services_of q in
    let place = name_at_place k.environment p in
    let name = own_code a0 place in
    let num = number a1 is.signature in
    let two = small a2 0 ∷ small a7 11 ∷ [] in
    let rest = Plain I.Ecall ∷ status_tested in
    let base = own_base is.pointer o in
    let inside = is.pointer.known.inside in
    let n0 = size_append name (num ++ two) in
    let n1 = size_append num two in
    let l1 = back_of name (num ++ (small a2 0 ∷ small a7 11 ∷ rest)) l in
    let l2 = back_of num (small a2 0 ∷ small a7 11 ∷ rest) l1 in
    let r1 = own_comes {rs = nothing} h c f a0 place (omega (arith, base, inside)) (λ y u. refl)
    (record { reserved_stay = λ y u. refl; known_stay = λ b y u s. s; set = λ y u. refl })
    (record { reserved_stay = λ y u. refl; known_stay = λ b y u s. s; set = λ y u. refl })
    (record { reserved_stay = λ y u. refl; known_stay = λ b y u s. s; set = λ y u. refl })
    (front_of name (num ++ (small a2 0 ∷ small a7 11 ∷ rest)) l)
    (λ b. known_in {t = λ j. 0} {rs = nothing} h (there b) tt) in
    let r2 = constant_piece (c + size_of name) (reached r1) a1 (pos is.signature) (word_fits is.signature is.number)
    (record { reserved_stay = λ y u. refl; known_stay = λ b y u s. s; set = λ y u. refl })
    (front_of num (small a2 0 ∷ small a7 11 ∷ rest) l1) (reached_holds r1) in
    let r3 = straight (c + size_of name + size_of num) (reached r2) v v
    (λ b y. Known (point_ground w q h) v numbers (λ j. 0) (given_regs (pointer_place is.pointer) is.signature) b y)
    (front_of two rest l2) (omega arith) (λ b. (reached_holds r2 b).pc)
    (λ b. let s = (reached_holds r2 b).holds in record {
      body = record {
        services = s.body.services;
        registers = s.body.registers;
        bytes = s.body.bytes;
        memory = s.body.memory;
      };
      regs = (
        small_is _ 11 (zero_is s.body) (omega arith),
        (
          small_is _ 0 (zero_is s.body) (omega arith),
          (s.regs.0 ∙ word_is is.signature is.number, (s.regs.1.0 ∙ ap (λ j. j + place) base, tt)),
        ),
      );
    }) in
    reach_moved (omega (arith, n0, n1)) (omega (arith, n0, n1)) (reach_then r1 (reach_then r2 r3))

-- ---- the call

-- what it leaves: another state of storage, and a status
pub record Leaves (w : Surroundings) (q : Point) (s : Q.State) (b : Base) (m : List ℕ) (name signature status : ℕ) :
    Type 0 where
  pub memory : List ℕ
  pub stands : StandsIn w (with_state s q) b memory
  pub many : length memory ≡ length m
  pub answered : A.free_served (call (now q m)) name signature 0 ≡ Done (services_of q) memory name status

-- at each machine there
abbrev pub AllLeave :
    {k : Block} {p n : Spot} {members : List Y.Member} {leaves : List Y.Leaf} {q : Point} {numbers : ℕ → ℕ} → Given k
    p n members leaves q numbers → Q.State → (status : ℕ) → Type 0
AllLeave {k} {q = q} z s status =
    (b : Base) (m : List ℕ) → StandsIn k.call.surroundings q b m →
    Leaves k.call.surroundings q s b m (pointer_place z.is.pointer) z.is.signature status

rest_linked :
    {k : Block} {p n : Spot} {members : List Y.Member} {leaves : List Y.Leaf} {i : ℕ}
    (is : IsStructure k p n members leaves) →
    Linked k.call.surroundings.links k.call.code i (whole_code is) →
    Linked k.call.surroundings.links k.call.code (i + size_of (asked_code is)) (Plain I.Ecall ∷ status_tested)
rest_linked {k} {p} {i = i} is l =
    let name = own_code a0 (name_at_place k.environment p) in
    let num = number a1 is.signature in
    let two = small a2 0 ∷ small a7 11 ∷ [] in
    let rest = Plain I.Ecall ∷ status_tested in
    let n0 = size_append name (num ++ two) in
    let n1 = size_append num two in
    subst (λ j. Linked k.call.surroundings.links k.call.code j rest) (omega (arith, n0, n1))
    (back_of two rest (back_of num (small a2 0 ∷ small a7 11 ∷ rest)
    (back_of name (num ++ (small a2 0 ∷ small a7 11 ∷ rest)) l)))

called_comes :
    {k : Block} {p n : Spot} {members : List Y.Member} {leaves : List Y.Leaf} {q : Point} {numbers : ℕ → ℕ} {i : ℕ} (z
    : Given k p n members leaves q numbers) (s : Q.State)
    (status c : ℕ) (f : Family) → AllLeave z s status →
    Linked k.call.surroundings.links k.call.code i (whole_code z.is) → AreIn k.call.surroundings q numbers i f →
    Reach k.call.code c f (services_of q) (c + size_of (asked_code z.is) + 1) (services_of q)
    (λ b y. At b (i + size_of (asked_code z.is) + 1)
    (Known (point_ground k.call.surroundings (with_state s q) (point_frame z.among.stands z.among.image))
    (services_of q) numbers (λ j. 0) (coded status) b) y)
called_comes {k} {p} {n} {members} {leaves} {q} {numbers} {i} z s status c f goes l there =
    let w = k.call.surroundings in
    let code = k.call.code in
    let h = point_frame z.among.stands z.among.image in
    let v = services_of q in
    let name = pointer_place z.is.pointer in
    let sig = z.is.signature in
    let asks = asked_code z.is in
    let r1 = given_comes z c f l there in
    let g = reached r1 in
    let left' : (b : Base) → Leaves w q s b (g b).machine.memory name sig status =
    λ b. goes b (g b).machine.memory (reached_holds r1 b).holds.body.memory in
    let calling : Calling w.links code (i + size_of asks) g (λ b. Done v (left' b).memory name status) = record {
      linked = first_of (Plain I.Ecall) status_tested (rest_linked z.is l);
      pc = λ b. (reached_holds r1 b).pc;
      answers = λ b.
          let t = (reached_holds r1 b).holds in
          let y = (g b).machine.registers in
          called code (g b) v 11 name sig 0 (y 13) (y 14) (λ call' x0 x1 x2 x3 x4. A.free_served call' x0 x1 x2)
          t.body.services t.regs.0 t.regs.1.1.1.0 t.regs.1.1.0 t.regs.1.0 refl refl (λ call' u. refl)
          ∙ ap (λ call'. A.free_served call' name sig 0) (call_is w code q (g b).machine.memory z.among.image)
          ∙ (left' b).answered;
    } in
    let r2 = call_done (c + size_of asks) g v v (λ b. (left' b).memory) (λ b. name) (λ b. status)
    (λ b y. Known (point_ground w (with_state s q) h) v numbers (λ j. 0) (coded status) b y) (omega arith) calling
    (λ b. let t = (reached_holds r1 b).holds in record {
      body = record {
        services = refl;
        registers = t.body.registers;
        bytes = (left' b).many ∙ t.body.bytes;
        memory = (left' b).stands;
      };
      regs = (refl, tt);
    }) in
    reach_then r1 r2

-- it was done
pub done_comes :
    {k : Block} {p n : Spot} {members : List Y.Member} {leaves : List Y.Leaf} {q : Point} {numbers : ℕ → ℕ} {i : ℕ} (z
    : Given k p n members leaves q numbers) (s : Q.State) (c : ℕ)
    (f : Family) → services_of (with_state s q) ≡ services_of q → AllLeave z s 0 →
    Linked k.call.surroundings.links k.call.code i (whole_code z.is) → AreIn k.call.surroundings q numbers i f →
    Reach k.call.code c f (services_of q) (c + size_of (whole_code z.is)) (services_of (with_state s q))
    (λ b y. IsIn k.call.surroundings (with_state s q) numbers (i + size_of (whole_code z.is)) b y)
done_comes {k} {p} {n} {members} {leaves} {q} {numbers} {i} z s c f same goes l there =
    let w = k.call.surroundings in
    let h = point_frame z.among.stands z.among.image in
    let whole' = whole_code z.is in
    let name = own_code a0 (name_at_place k.environment p) in
    let num = number a1 z.is.signature in
    let n0 = size_append name (num ++ (small a2 0 ∷ small a7 11 ∷ [])) in
    let n1 = size_append num (small a2 0 ∷ small a7 11 ∷ []) in
    let n2 = size_append name (num ++ (small a2 0 ∷ small a7 11 ∷ Plain I.Ecall ∷ status_tested)) in
    let n3 = size_append num (small a2 0 ∷ small a7 11 ∷ Plain I.Ecall ∷ status_tested) in
    let r1 = called_comes z s 0 c f goes l there in
    let r2 = skip_taken (c + size_of (asked_code z.is) + 1) (reached r1) Test.Equal a1 zero_register
    (JumpTo RaiseError ∷ []) (rest_of (Plain I.Ecall) status_tested (rest_linked z.is l)) (reached_holds r1)
    (λ b. let t = (reached_holds r1 b).holds in
    ap (λ u. u == (reached r1 b).machine.registers 0) t.regs.0 ∙ ap (λ u. 0 == u) (zero_is t.body)) in
    let all = reach_moved {c'' = c + size_of whole'} {i'' = i + size_of whole'} (omega (arith, n0, n1, n2, n3))
    (omega (arith, n0, n1, n2, n3)) (reach_then r1 r2) in
    subst (λ v. Reach k.call.code c f (services_of q) (c + size_of whole') v
    (λ b y. IsIn w (with_state s q) numbers (i + size_of whole') b y)) (sym same)
    (reach_map _ all (λ b y t.
    in_known {t = λ j. 0} {rs = nothing} h z.among.image.parts
    (record {
      pc = t.pc;
      holds = record {
        body = record {
          services = t.holds.body.services ∙ sym same;
          registers = t.holds.body.registers;
          bytes = t.holds.body.bytes;
          memory = t.holds.body.memory;
        };
        regs = tt;
      };
    })))

-- it wasn't, and ERROR comes to what it means
pub error_ends :
    {X : Type 0} {k : Setting} {p n : Spot} {members : List Y.Member} {leaves : List Y.Leaf} {q : Point} {numbers : ℕ
    → ℕ} {i : ℕ} {aims : Aims X}
    (closed : Closed k.block.call.code aims) (z : Given k.block p n members leaves q numbers) (ends : Ends k) (around
    : Around)
    (status c : ℕ) (f : Family) → status < 2 ^ 16 → (status == 0) ≡ false → AllLeave z q.state status →
    q.control.line ≡ around.line → c + size_of (whole_code z.is) + 18 < cost k.block.call.code →
    Linked k.block.call.surroundings.links k.block.call.code i (whole_code z.is) →
    AreIn k.block.call.surroundings q numbers i f →
    Comes k.block.call.code c f (services_of q) aims
    (R.error {R = X} around status k.block.call.surroundings.acts q.state)
error_ends {k = k'} {p} {n} {members} {leaves} {q} {numbers} {i} closed z ends around status c f fits some goes line
    paid l there =
    let k = k'.block in
    let h = point_frame z.among.stands z.among.image in
    let name = own_code a0 (name_at_place k.environment p) in
    let num = number a1 z.is.signature in
    let n0 = size_append name (num ++ (small a2 0 ∷ small a7 11 ∷ [])) in
    let n1 = size_append num (small a2 0 ∷ small a7 11 ∷ []) in
    let n2 = size_append name (num ++ (small a2 0 ∷ small a7 11 ∷ Plain I.Ecall ∷ status_tested)) in
    let n3 = size_append num (small a2 0 ∷ small a7 11 ∷ Plain I.Ecall ∷ status_tested) in
    let c1 = c + size_of (asked_code z.is) + 1 in
    let lt = rest_of (Plain I.Ecall) status_tested (rest_linked z.is l) in
    let r1 = called_comes z q.state status c f goes l there in
    let r2 = skip_passed c1 (reached r1) Test.Equal a1 zero_register (JumpTo RaiseError ∷ []) lt (reached_holds r1)
    (λ b. let t = (reached_holds r1 b).holds in
    ap (λ u. u == (reached r1 b).machine.registers 0) t.regs.0 ∙ ap (λ u. status == u) (zero_is t.body) ∙ some) in
    let inside = ends.routines.linked.inside in
    let near = ends.routines.linked.small' in
    let r3 = jump_piece (c1 + 1) (c1 + 1 + 2) (reached r2) RaiseError (ends.routines.at + 8) (omega arith) ends.raises
    (omega (arith, inside, near))
    (record { reserved_stay = λ y u. refl; known_stay = λ b y u t. t; set = λ y u. refl })
    (rest_of _ (JumpTo RaiseError ∷ []) lt) (reached_holds r2) in
    onward closed (reach_then r1 (reach_then r2 r3)) (λ f' at'.
    error_comes closed ends.routines (c1 + 1 + 2) f' around status h (z.among.stands, z.among.image) fits
    (omega (arith, paid, n0, n1, n2, n3), ends.acts) line
    (subst (λ xs. IsSystem (Q.force xs C.Error)) (sym z.among.later.activations) ends.error) at')

-- ---- what service 11 leaves

-- the name is read where it stands
name_read :
    {k : Block} {p n : Spot} {members : List Y.Member} {leaves : List Y.Leaf} {q : Point} {numbers : ℕ → ℕ} (z : Given
    k p n members leaves q numbers) (m : List ℕ) →
    Holds (now q m) → name_in (call (now q m)) (pointer_place z.is.pointer) ≡ Some z.points.points.name
name_read {k} {q = q} z m stored =
    let at = pointer_place z.is.pointer in
    let layout = laid_out z.among z.small in
    let start = layout.0 in
    let end = layout.1 in
    let low = z.is.pointer.known.low in
    let inside = z.is.pointer.known.inside in
    let t1 : nat_le q.layout.code_bytes at ≡ true = le-leb _ _ (omega (arith, start, low)) in
    let t2 : nat_le (at + 16) q.layout.end ≡ true = le-leb _ _ (omega (arith, end, inside)) in
    ap (λ u. cond (u && nat_le (at + 16) q.layout.end) (name_at at m) None) t1
    ∙ ap (λ u. cond u (name_at at m) None) t2
    ∙ name_loaded at z.points.points.name m (z.points.tells m stored)

numbered :
    {k : Block} {p n : Spot} {members : List Y.Member} {leaves : List Y.Leaf} {q : Point} {numbers : ℕ → ℕ} (z : Given
    k p n members leaves q numbers) (m : List ℕ) →
    IsNumberOf (now q m) z.is.signature (structure_shape members leaves)
numbered {members = members} {leaves} z m =
    record {
      shape_same = shapes_remain z.among.later.remains z.is.signature (structure_shape members leaves) z.is.numbered;
      own = let few = z.is.number in grind (arith, few, nat_tests);
    }

pub freed_leaves :
    {k : Block} {p n : Spot} {members : List Y.Member} {leaves : List Y.Leaf} {q : Point} {numbers : ℕ → ℕ} (z : Given
    k p n members leaves q numbers) (area o : ℕ) (g : Generation) →
    z.points.points.name ≡ BasedName area o → Q.named q.state (BasedName area o) (structure_shape members leaves) ≡
    Some g →
    AllLeave z (Q.with_area area (without_offset o) q.state) 0
freed_leaves {k} {members = members} {leaves} {q} z area o g same lives b m stands =
    let t = freed_there (now q m) stands.storage (pointer_place z.is.pointer) z.is.signature area o (structure_shape
    members leaves) g (numbered z m)
    (name_read z m stands.storage ∙ ap (λ u. Some u) same) lives in
    record {
      memory = t.memory;
      stands = freed_stands k.call.surroundings b t z.among.stands stands;
      many = t.beside.as_many;
      answered = t.answered;
    }

pub variable_leaves :
    {k : Block} {p n : Spot} {members : List Y.Member} {leaves : List Y.Leaf} {q : Point} {numbers : ℕ → ℕ} (z : Given
    k p n members leaves q numbers) (serial : ℕ) (g : Generation) →
    z.points.points.name ≡ VariableName serial → Q.named q.state (VariableName serial) (structure_shape members
    leaves) ≡ Some g →
    AllLeave z q.state not_in_area_code
variable_leaves {members = members} {leaves} {q} z serial g same lives b m stands =
    record {
      memory = m;
      stands = stands;
      many = refl;
      answered =
          variable_stays (now q m) stands.storage (pointer_place z.is.pointer) z.is.signature serial (structure_shape
          members leaves) g (numbered z
          m)
          (name_read z m stands.storage ∙ ap (λ u. Some u) same) lives;
    }

pub missing_leaves :
    {k : Block} {p n : Spot} {members : List Y.Member} {leaves : List Y.Leaf} {q : Point} {numbers : ℕ → ℕ} (z : Given
    k p n members leaves q numbers) →
    Q.named q.state z.points.points.name (structure_shape members leaves) ≡ None → AllLeave z q.state no_generation_code
missing_leaves {members = members} {leaves} {q} z none b m stands =
    record {
      memory = m;
      stands = stands;
      many = refl;
      answered =
          absent_answered (now q m) stands.storage (pointer_place z.is.pointer) z.is.signature 0 z.points.points.name
          None
          (structure_shape members leaves) (numbered z m) (name_read z m stands.storage) (no_area_given (now q m)) none;
    }
