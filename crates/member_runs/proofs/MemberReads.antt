-- A member of what a pointer variable points to is found by service 8, and read; where nothing lives there, the run
-- ends.
use Rattle.std.proofs.Common.{◌≡◌, ℕ, ◌+◌, ◌%◌, ◌^◌, ◌<◌, ◌≤◌, List, [], ◌∷◌, ◌++◌, Option, None, Some}
use Rattle.std.proofs.Common.{refl, sym, ap, ◌∙◌, subst, arith, true}
use Rattle.std.specs.Prelude.{ℤ, pos, ◌==◌}
use Rattle.std.proofs.lemmas.List.{append_assoc}
use Rattle.rv_meaning.specs.declared.instr.BranchTest.TheVariants as Test
use Rattle.rv_meaning.specs.declared.instr.Instr.{Instr}
use Rattle.rv_meaning.specs.declared.instr.Instr.TheVariants as I
use Rattle.rv_meaning.specs.Machine.{memory_size}
use Rattle.rv_meaning.specs.Memory.{load}
use Rattle.rv_meaning.specs.Words.{sum, word}
use Rattle.pli_language.specs.declared.condition.Condition.TheVariants as C
use Rattle.pli_typing.specs.Signatures.{Fixed, LeafKind}
use Rattle.pli_typing.specs.TypedTree as Y
use Rattle.pli_meaning.specs.BasicValues.{BasicBit, BasicNumber, BasicOffset, BasicPointer, BasicText, BasicValue, Name}
use Rattle.pli_meaning.specs.Contents.{Generation, number_in, seen}
use Rattle.pli_meaning.specs.Control.{Meaning, Normal, give, ◌>>=◌}
use Rattle.pli_meaning.specs.DeclaredShapes.{declared_variable}
use Rattle.pli_meaning.specs.Evaluating as V
use Rattle.pli_meaning.specs.Numbers.{is_of_precision}
use Rattle.pli_meaning.specs.Raising as R
use Rattle.pli_meaning.specs.Raising.{Around}
use Rattle.pli_meaning.specs.StorageState as Q
use Rattle.pli_serving.specs.Answers.{Answer, Done}
use Rattle.pli_serving.specs.Names.{resolve_served}
use Rattle.pli_serving.specs.ServiceState.{Services}
use Rattle.pli_serving.specs.Serving.{found_served}
use Rattle.pli_coding.specs.Assembly.{JumpTo, Plain, RaiseError, size_of}
use Rattle.pli_coding.specs.Expressions.{number_code}
use Rattle.pli_coding.specs.Instructions.{number, small, status_tested}
use Rattle.pli_coding.specs.Registers.{a0, a1, a2, a3, a4, a7, zero_register}
use Rattle.storage_relation.specs.Served.{place_now}
use Rattle.storage_relation.specs.Telling.{IsOf, Tells}
use Rattle.storage_relation.proofs.Values.{word_loaded}
use Rattle.activation_relation.specs.Frames.{frame_under, upper_top}
use Rattle.activation_relation.specs.Layers.{Point, now, services_of}
use Rattle.activation_relation.specs.Points.{Surroundings}
use Rattle.activation_relation.specs.ServiceLaws.{IsSystem}
use Rattle.activation_relation.proofs.Remaining.{shapes_remain}
use Rattle.run_steps.specs.Bodies.{Ground, Known}
use Rattle.run_steps.proofs.Bodies.{constant_piece, zero_is}
use Rattle.run_steps.specs.Calls.{Calling}
use Rattle.run_steps.proofs.Calls.{call_done}
use Rattle.run_steps.specs.Engine.{Base, call_at, served}
use Rattle.run_steps.specs.Items.{At, Linked}
use Rattle.run_steps.proofs.Items.{straight}
use Rattle.run_steps.proofs.Jumps.{back_of, first_of, front_of, jump_piece, rest_of, skip_passed, skip_taken}
use Rattle.run_steps.proofs.Linking.{size_append}
use Rattle.run_steps.specs.Reach.{Aims, Closed, Comes, Family, Reach, before, cost, reached}
use Rattle.run_steps.proofs.Reach.{before_closed, comes_on, onward, reach_then, reached_holds}
use Rattle.run_steps.proofs.Reaching.{reach_moved}
use Rattle.run_steps.specs.Temporaries.{nothing}
use Rattle.run_steps.specs.Unlimited as U
use Rattle.image_runs.specs.Runs.{Whole}
use Rattle.block_runs.specs.Machines.{AreIn}
use Rattle.block_runs.proofs.BlockEntries.{small_is, word_fits, word_is}
use Rattle.block_runs.proofs.Places.{IsFrame, ground_at, word_in}
use Rattle.block_runs.proofs.PointGrounds.{StandsIn, call_is, known_in, point_frame, point_ground}
use Rattle.program_runs.specs.Statements.{Block, IsAmong}
use Rattle.program_runs.proofs.Variables.{own_code}
use Rattle.expression_runs.specs.Laws as L
use Rattle.expression_runs.specs.Values.{Setting, behind, in_registers, number_aims}
use Rattle.expression_runs.specs.Variables.{Spot}
use Rattle.expression_runs.proofs.Raises.{coded, error_comes}
use Rattle.expression_runs.proofs.VariablePoints.{first_base}
use Rattle.expression_runs.proofs.Words.{frame_of, number_closed, valued, word_here}
use Rattle.area_runs.specs.Based.{Ends, based_of}
use Rattle.area_runs.proofs.BasedCode.{addressing_code, name_at_place, value_loaded}
use Rattle.area_runs.proofs.BasedReads.{laid_out, there_at}
use Rattle.locator_runs.specs.Pointers.{IsPointer}
use Rattle.locator_runs.proofs.PointerPoints.{PointerAt, own_base, pointer_in, pointer_place}
use Rattle.member_runs.specs.Members.{IsMember, IsStructure, member_of, member_part, structure_shape}
use Rattle.member_runs.proofs.BasePlaces.{own_at, own_word}
use Rattle.member_runs.proofs.MemberCode.{asking_code, found_code, read_coded}
use Rattle.member_runs.proofs.MemberMeaning.{behind_found, designated_member, part_found, part_missing, seen_is}
use Rattle.member_runs.proofs.MemberMeaning.{through_is}
use Rattle.member_runs.proofs.MemberPoints.{StructureAt, member_place, member_size, member_told, missing_answer}
use Rattle.member_runs.proofs.MemberPoints.{resolved_answer, structure_at}

-- ---- what service 8 is given

abbrev name_regs : {k : Block} {x : Spot} → IsPointer k x → Base → List (ℕ × ℕ)
name_regs is b = (10, pointer_place is) ∷ []

abbrev asking_regs : {k : Block} {x : Spot} → IsPointer k x → (signature member : ℕ) → Base → List (ℕ × ℕ)
asking_regs is signature member b =
    (17, 8) ∷ (14, 0) ∷ (13, 0) ∷ (12, member) ∷ (11, signature) ∷ name_regs is b

-- with mode 0, whatever the other registers
resolve_called :
    (code : List Instr) (y : Whole) (v : Services) (x0 x1 x2 : ℕ) → y.services ≡ v →
    (y.machine.registers 17 ≡ 8) × (y.machine.registers 10 ≡ x0) × (y.machine.registers 11 ≡ x1)
    × (y.machine.registers 12 ≡ x2) × (y.machine.registers 13 ≡ 0) × (y.machine.registers 14 ≡ 0) →
    served code y ≡ resolve_served (call_at code v y.machine.memory) x0 x1 x2 0
unfolding served
resolve_called code y v x0 x1 x2 e r =
    let x = y.machine.registers in
    let m = y.machine.memory in
    let c = call_at code y.services m in
    ap (λ n. U.served n c x) r.0
    ∙ ap (found_served c x) r.5
    ∙ ap (λ u. resolve_served (call_at code u m) (x 10) (x 11) (x 12) (x 13)) e
    ∙ ap (λ u. resolve_served (call_at code v m) u (x 11) (x 12) (x 13)) r.1
    ∙ ap (λ u. resolve_served (call_at code v m) x0 u (x 12) (x 13)) r.2
    ∙ ap (λ u. resolve_served (call_at code v m) x0 x1 u (x 13)) r.3
    ∙ ap (λ u. resolve_served (call_at code v m) x0 x1 x2 u) r.4

-- memory, and what else is known of it
abbrev pub more_ground :
    (w : Surroundings) (p : Point) (E : List ℕ → Type 0) → IsFrame (frame_under w.parts p.control.layers) → Ground
more_ground w p E h =
    ground_at (frame_under w.parts p.control.layers) (upper_top w.parts p.control.layers) h
    (λ b m. StandsIn w p b m × E m)

-- nothing else
abbrev pub NoMore : List ℕ → Type 0
NoMore m = Unit {0}

pub known_more :
    (k : Block) {numbers : ℕ → ℕ} {p : Point} {i : ℕ} (h : frame_of k p) (f : Family) →
    AreIn k.call.surroundings p numbers i f → (b : Base) →
    At b i (Known (more_ground k.call.surroundings p NoMore h) (services_of p) numbers (λ j. 0) nothing b) (f b)
known_more k h f there b =
    let s = known_in {t = λ j. 0} {rs = nothing} h (there b) tt in
    record {
      pc = s.pc;
      holds = record {
        body = record {
          services = s.holds.body.services;
          registers = s.holds.body.registers;
          bytes = s.holds.body.bytes;
          memory = (s.holds.body.memory, tt);
        };
        regs = tt;
      };
    }

-- the name's place, the signature's number, the member's, and the rest
asking_comes :
    {k : Block} {x : Spot} {numbers : ℕ → ℕ} {p : Point} {i : ℕ} (E : List ℕ → Type 0) (is : IsPointer k x)
    (signature member : ℕ) (o : IsAmong k numbers p) (h : frame_of k p) (c : ℕ) (f : Family) → (signature < 2 ^ 31) ×
    (member < 2 ^ 31) →
    Linked k.call.surroundings.links k.call.code i
    (own_code a0 (name_at_place k.environment x) ++ asking_code signature member) →
    ((b : Base) → At b i (Known (more_ground k.call.surroundings p E h) (services_of p) numbers (λ j. 0) nothing b)
    (f b)) →
    Reach k.call.code c f (services_of p)
    (c + size_of (own_code a0 (name_at_place k.environment x) ++ asking_code signature member)) (services_of p)
    (λ b y. At b (i + size_of (own_code a0 (name_at_place k.environment x) ++ asking_code signature member))
    (Known (more_ground k.call.surroundings p E h) (services_of p) numbers (λ j. 0)
    (asking_regs is signature member) b) y)
asking_comes {k} {x} {numbers} {p} E is signature member o h c f few l there =
    let w = k.call.surroundings in
    let v = services_of p in
    let g = more_ground w p E h in
    let at = frame_under w.parts p.control.layers in
    let place = name_at_place k.environment x in
    let name = own_code a0 place in
    let num = number a1 signature in
    let leaf = number a2 member in
    let three = small a3 0 ∷ small a4 0 ∷ small a7 8 ∷ [] in
    let base = own_base is o in
    let inside = is.known.inside in
    let n0 = size_append name (num ++ (leaf ++ three)) in
    let n1 = size_append num (leaf ++ three) in
    let n2 = size_append leaf three in
    let l1 = back_of name (num ++ (leaf ++ three)) l in
    let l2 = back_of num (leaf ++ three) l1 in
    let r1 = own_at {g = g} {rs = nothing} c f a0 place (word_in at 36 h refl (omega arith))
    (λ b m u. own_word w.parts b.at m p.state.activations p.control.layers u.0.frames)
    (omega (arith, base, inside)) (λ y u. refl)
    (record { reserved_stay = λ y u. refl; known_stay = λ b y u q. q; set = λ y u. refl })
    (record { reserved_stay = λ y u. refl; known_stay = λ b y u q. q; set = λ y u. refl })
    (record { reserved_stay = λ y u. refl; known_stay = λ b y u q. q; set = λ y u. refl })
    (front_of name (num ++ (leaf ++ three)) l) there in
    let r2 = constant_piece (c + size_of name) (reached r1) a1 (pos signature) (word_fits signature few.0)
    (record { reserved_stay = λ y u. refl; known_stay = λ b y u q. q; set = λ y u. refl })
    (front_of num (leaf ++ three) l1) (reached_holds r1) in
    let r3 = constant_piece (c + size_of name + size_of num) (reached r2) a2 (pos member) (word_fits member few.1)
    (record { reserved_stay = λ y u. refl; known_stay = λ b y u q. q; set = λ y u. refl })
    (front_of leaf three l2) (reached_holds r2) in
    let r4 = straight (c + size_of name + size_of num + size_of leaf) (reached r3) v v
    (λ b y. Known g v numbers (λ j. 0) (asking_regs is signature member) b y)
    (back_of leaf three l2) (omega arith)
    (λ b. (reached_holds r3 b).pc)
    (λ b. let o' = (reached_holds r3 b).holds in record {
      body = record {
        services = o'.body.services;
        registers = o'.body.registers;
        bytes = o'.body.bytes;
        memory = o'.body.memory;
      };
      regs = (
        small_is _ 8 (zero_is o'.body) (omega arith),
        (
          small_is _ 0 (zero_is o'.body) (omega arith),
          (
            small_is _ 0 (zero_is o'.body) (omega arith),
            (
              o'.regs.0 ∙ word_is member few.1,
              (
                o'.regs.1.0 ∙ word_is signature few.0,
                (o'.regs.1.1.0 ∙ ap (λ j. j + place) base, tt),
              ),
            ),
          ),
        ),
      );
    }) in
    reach_moved (omega (arith, n0, n1, n2)) (omega (arith, n0, n1, n2)) (reach_then r1 (reach_then r2 (reach_then r3
    r4)))

-- ---- it lives

-- memory, and where a member stands in it
abbrev pub member_ground :
    (w : Surroundings) (p : Point) (name : Name) (place : ℕ) (at : Base → ℕ) (E : List ℕ → Type 0) →
    IsFrame (frame_under w.parts p.control.layers) → Ground
member_ground w p name place at E h =
    ground_at (frame_under w.parts p.control.layers) (upper_top w.parts p.control.layers) h
    (λ b m. StandsIn w p b m × (place_now (now p m) name + place ≡ at b) × E m)

abbrev pub found_regs : (at : Base → ℕ) → Base → List (ℕ × ℕ)
found_regs at b = (28, b.at + at b) ∷ []

-- what is found, for each base
pub record IsFound (k : Block) (p : Point) (numbers : ℕ → ℕ) (h : frame_of k p) (name : Name)
    (E : List ℕ → Type 0) (place size c i : ℕ) (f : Family) (ends : ℕ) : Type 0 where
  pub at : Base → ℕ
  pub even : (b : Base) → at b % 4 ≡ 0
  pub inside : (b : Base) → at b + size ≤ memory_size
  pub reach :
      Reach k.call.code c f (services_of p) (c + ends) (services_of p)
      (λ b y. At b (i + ends)
      (Known (member_ground k.call.surroundings p name place at E h) (services_of p) numbers (λ j. 0) (found_regs at) b)
      y)

found_at : (b : Base) (x n : ℕ) → x ≡ n → n + 4 ≤ memory_size → sum (sum x (word (pos 0))) b.at ≡ b.at + n
found_at b x n e inside = let v = b.valid.1 in omega (arith, e, inside, v)

-- the service, and the test of its status
pub living_found :
    {k : Block} {x n : Spot} {members : List Y.Member} {leaves : List Y.Leaf} {member : ℕ} {type : Y.LeafType}
    {numbers : ℕ → ℕ} {p : Point} {i : ℕ} (E : List ℕ → Type 0) (is : IsStructure k x n members leaves) (one :
    IsMember leaves member type)
    (o : IsAmong k numbers p) (a : PointerAt k x is.pointer p) (s : StructureAt p a.points.name members leaves)
    (h : frame_of k p) (c : ℕ) (f : Family) → 4 ≤ member_size type →
    Linked k.call.surroundings.links k.call.code i (found_code (name_at_place k.environment x) is.signature member) →
    ((b : Base) → At b i (Known (more_ground k.call.surroundings p E h) (services_of p) numbers (λ j. 0) nothing b)
    (f b)) →
    IsFound k p numbers h a.points.name E (member_place leaves member) (member_size type) c i f
    (size_of (found_code (name_at_place k.environment x) is.signature member))
living_found {k} {x} {n} {members} {leaves} {member} {type} {numbers} {p} {i} E is one o a s h c f wide l there =
    let w = k.call.surroundings in
    let code = k.call.code in
    let v = services_of p in
    let name = a.points.name in
    let place = member_place leaves member in
    let small' = l.small' in
    let front = own_code a0 (name_at_place k.environment x) in
    let asks = asking_code is.signature member in
    let last = status_tested ++ addressing_code in
    let tail = asks ++ (Plain I.Ecall ∷ last) in
    let n0 = size_append front tail in
    let n1 = size_append asks (Plain I.Ecall ∷ last) in
    let n2 = size_append front asks in
    let l' = subst (Linked w.links code i) (sym (append_assoc front asks (Plain I.Ecall ∷ last))) l in
    let l1 = back_of (front ++ asks) (Plain I.Ecall ∷ last) l' in
    let l2 = rest_of (Plain I.Ecall) last l1 in
    let r1 = asking_comes E is.pointer is.signature member o h c f (is.number, one.few)
    (front_of (front ++ asks) (Plain I.Ecall ∷ last) l') there in
    let g = reached r1 in
    let at : Base → ℕ = λ b. place_now (now p (g b).machine.memory) name + place in
    let g' = member_ground w p name place at E h in
    let layout = laid_out o (omega (arith, small')) in
    let answer : Base → Answer = λ b. Done v (g b).machine.memory (at b) 0 in
    let calling : Calling w.links code (i + size_of (front ++ asks)) g answer = record {
      linked = first_of (Plain I.Ecall) last l1;
      pc = λ b. (reached_holds r1 b).pc;
      answers = λ b.
          let o' = (reached_holds r1 b).holds in
          let m = (g b).machine.memory in
          resolve_called code (g b) v (pointer_place is.pointer) is.signature member o'.body.services (
            o'.regs.0,
            o'.regs.1.1.1.1.1.0,
            o'.regs.1.1.1.1.0,
            o'.regs.1.1.1.0,
            o'.regs.1.1.0,
            o'.regs.1.0,
          )
          ∙ ap (λ call'. resolve_served call' (pointer_place is.pointer) is.signature member 0)
          (call_is w code p m o.image)
          ∙ resolved_answer is one o a s m o'.body.memory.0.storage layout;
    } in
    let facts : (b : Base) → (at b % 4 ≡ 0) × (at b + member_size type ≤ memory_size) = λ b.
    let o' = (reached_holds r1 b).holds.body in
    let t = member_told s one (g b).machine.memory o'.memory.0.storage in
    let bytes = o'.bytes in
    let inside = t.inside in
    (t.even, omega (arith, bytes, inside)) in
    let r2 = call_done (c + size_of (front ++ asks)) g v v (λ b. (g b).machine.memory) (λ b. at b) (λ b. 0)
    (λ b y. Known g' v numbers (λ j. 0) (λ b'. (11, 0) ∷ (10, at b') ∷ []) b y) (omega arith) calling
    (λ b. let o' = (reached_holds r1 b).holds in record {
      body = record {
        services = refl;
        registers = o'.body.registers;
        bytes = o'.body.bytes;
        memory = (o'.body.memory.0, refl, o'.body.memory.1);
      };
      regs = (refl, (refl, tt));
    }) in
    let r3 = skip_taken (c + size_of (front ++ asks) + 1) (reached r2) Test.Equal a1 zero_register
    (JumpTo RaiseError ∷ []) (front_of status_tested addressing_code l2) (reached_holds r2)
    (λ b. let o' = (reached_holds r2 b).holds in
    ap (λ u. u == (reached r2 b).machine.registers 0) o'.regs.0 ∙ ap (λ u. 0 == u) (zero_is o'.body)) in
    let r4 = straight (c + size_of (front ++ asks) + 1 + 3) (reached r3) v v
    (λ b y. Known g' v numbers (λ j. 0) (found_regs at) b y) (back_of status_tested addressing_code l2) (omega arith)
    (λ b. (reached_holds r3 b).pc)
    (λ b. let o' = (reached_holds r3 b).holds in
    let inside = (facts b).1 in (
      refl,
      record {
        body = record {
          services = o'.body.services;
          registers = o'.body.registers;
          bytes = o'.body.bytes;
          memory = o'.body.memory;
        };
        regs = (
          found_at b ((reached r3 b).machine.registers 10) (at b) o'.regs.1.0 (omega (arith, inside, wide)),
          tt,
        );
      },
    )) in
    record {
      at = at;
      even = λ b. (facts b).0;
      inside = λ b. (facts b).1;
      reach = reach_moved (omega (arith, n0, n1, n2)) (omega (arith, n0, n1, n2))
          (reach_then r1 (reach_then r2 (reach_then r3 r4)));
    }

-- ---- nothing lives there

-- ERROR comes to what it means
pub missing_ends :
    {X : Type 0} {k : Setting} {x n : Spot} {members : List Y.Member} {leaves : List Y.Leaf} {numbers : ℕ → ℕ}
    {p : Point} {i : ℕ} {aims : Aims X} (closed : Closed k.block.call.code aims)
    (is : IsStructure k.block x n members leaves) (member : ℕ) → member < 2 ^ 31 → (ends : Ends k) (around : Around)
    (o : IsAmong k.block numbers p) (a : PointerAt k.block x is.pointer p) (h : frame_of k.block p) (c : ℕ)
    (f : Family) → Q.named p.state a.points.name (structure_shape members leaves) ≡ None →
    p.control.line ≡ around.line →
    c + size_of (found_code (name_at_place k.block.environment x) is.signature member) + 18 < cost k.block.call.code →
    Linked k.block.call.surroundings.links k.block.call.code i
    (found_code (name_at_place k.block.environment x) is.signature member) →
    AreIn k.block.call.surroundings p numbers i f →
    Comes k.block.call.code c f (services_of p) aims
    (R.error {R = X} around 101 k.block.call.surroundings.acts p.state)
missing_ends {k = k'} {x} {n} {members} {leaves} {numbers} {p} {i} closed is member few ends around o a h c f none line
    paid l there =
    let k = k'.block in
    let w = k.call.surroundings in
    let code = k.call.code in
    let v = services_of p in
    let small' = l.small' in
    let front = own_code a0 (name_at_place k.environment x) in
    let asks = asking_code is.signature member in
    let last = status_tested ++ addressing_code in
    let tail = asks ++ (Plain I.Ecall ∷ last) in
    let n0 = size_append front tail in
    let n1 = size_append asks (Plain I.Ecall ∷ last) in
    let n2 = size_append front asks in
    let l' = subst (Linked w.links code i) (sym (append_assoc front asks (Plain I.Ecall ∷ last))) l in
    let l1 = back_of (front ++ asks) (Plain I.Ecall ∷ last) l' in
    let l2 = rest_of (Plain I.Ecall) last l1 in
    let r1 = asking_comes NoMore is.pointer is.signature member o h c f (is.number, few)
    (front_of (front ++ asks) (Plain I.Ecall ∷ last) l') (known_more k h f there) in
    let g = reached r1 in
    let layout = laid_out o (omega (arith, small')) in
    let answer : Base → Answer = λ b. Done v (g b).machine.memory (pointer_place is.pointer) 101 in
    let calling : Calling w.links code (i + size_of (front ++ asks)) g answer = record {
      linked = first_of (Plain I.Ecall) last l1;
      pc = λ b. (reached_holds r1 b).pc;
      answers = λ b.
          let o' = (reached_holds r1 b).holds in
          let m = (g b).machine.memory in
          resolve_called code (g b) v (pointer_place is.pointer) is.signature member o'.body.services (
            o'.regs.0,
            o'.regs.1.1.1.1.1.0,
            o'.regs.1.1.1.1.0,
            o'.regs.1.1.1.0,
            o'.regs.1.1.0,
            o'.regs.1.0,
          )
          ∙ ap (λ call'. resolve_served call' (pointer_place is.pointer) is.signature member 0)
          (call_is w code p m o.image)
          ∙ missing_answer is member o a m o'.body.memory.0.storage layout none;
    } in
    let r2 = call_done (c + size_of (front ++ asks)) g v v (λ b. (g b).machine.memory)
    (λ b. pointer_place is.pointer) (λ b. 101)
    (λ b y. Known (point_ground w p h) v numbers (λ j. 0) (coded 101) b y) (omega arith) calling
    (λ b. let o' = (reached_holds r1 b).holds in record {
      body = record {
        services = refl;
        registers = o'.body.registers;
        bytes = o'.body.bytes;
        memory = o'.body.memory.0;
      };
      regs = (refl, tt);
    }) in
    let r3 = skip_passed (c + size_of (front ++ asks) + 1) (reached r2) Test.Equal a1 zero_register
    (JumpTo RaiseError ∷ []) (front_of status_tested addressing_code l2) (reached_holds r2)
    (λ b. let o' = (reached_holds r2 b).holds in
    ap (λ u. u == (reached r2 b).machine.registers 0) o'.regs.0 ∙ ap (λ u. 101 == u) (zero_is o'.body)) in
    let inside = ends.routines.linked.inside in
    let near = ends.routines.linked.small' in
    let l3 = front_of status_tested addressing_code l2 in
    let r4 = jump_piece (c + size_of (front ++ asks) + 1 + 1) (c + size_of (front ++ asks) + 1 + 1 + 2) (reached r3)
    RaiseError (ends.routines.at + 8) (omega arith) ends.raises (omega (arith, inside, near))
    (record { reserved_stay = λ y u. refl; known_stay = λ b y u q. q; set = λ y u. refl })
    (rest_of _ (JumpTo RaiseError ∷ []) l3) (reached_holds r3) in
    onward closed (reach_then r1 (reach_then r2 (reach_then r3 r4))) (λ f' at'.
    error_comes closed ends.routines (c + size_of (front ++ asks) + 1 + 1 + 2) f' around 101 h (o.stands, o.image)
    (omega arith) (omega (arith, paid, n0, n1, n2), ends.acts) line
    (subst (λ xs. IsSystem (Q.force xs C.Error)) (sym o.later.activations) ends.error) at')

-- ---- the value

pub number_of : (v : BasicValue) → IsOf (Fixed 31) v → (z : ℤ) × (v ≡ BasicNumber z) × (is_of_precision 31 z ≡ true)
number_of (BasicNumber z) is = (z, refl, is.1)
number_of (BasicText t) is = absurd is
number_of (BasicBit b) is = absurd is
number_of (BasicPointer n) is = absurd is
number_of (BasicOffset o) is = absurd is

-- one that is there is loaded
value_comes :
    (k : Block) {members : List Y.Member} {leaves : List Y.Leaf} {member : ℕ} {numbers : ℕ → ℕ} {p : Point} {i : ℕ}
    {name : Name} (s : StructureAt p name members leaves) (one : IsMember leaves member (Y.FixedLeaf 31)) (z : ℤ) →
    s.values member [] ≡ BasicNumber z → (h : frame_of k p) (at : Base → ℕ) (c : ℕ) (f : Family) →
    ((b : Base) → (at b % 4 ≡ 0) × (at b + 4 ≤ memory_size)) →
    Linked k.call.surroundings.links k.call.code i value_loaded →
    ((b : Base) →
    At b i (Known (member_ground k.call.surroundings p name (member_place leaves member) at NoMore h) (services_of p)
    numbers (λ j. 0) (found_regs at) b) (f b)) →
    Reach k.call.code c f (services_of p) (c + size_of value_loaded) (services_of p)
    (λ b y. At b (i + size_of value_loaded) (Known (point_ground k.call.surroundings p h) (services_of p) numbers
    (λ j. 0) (valued (word z)) b) y)
value_comes k {leaves = leaves} {member} {numbers} {p} {i} {name} s one z value h at c f facts l there =
    let v = services_of p in
    straight c f v v (λ b y. Known (point_ground k.call.surroundings p h) v numbers (λ j. 0) (valued (word z)) b y)
    l (omega arith) (λ b. (there b).pc)
    (λ b.
    let o' = (there b).holds in
    let y = (f b).machine.registers in
    let m = (f b).machine.memory in
    let place = place_now (now p m) name + member_place leaves member in
    let t = member_told s one m o'.body.memory.0.storage in
    let loads : load 4 m place ≡ word z =
    word_loaded 31 place z m refl (subst (λ u. Tells (Fixed 31) u place m) value t.tells) in (
      record {
        offset = at b;
        is = there_at b (y 28) (at b) o'.regs.0 (facts b).1;
        aligned = (facts b).0;
        inside = (facts b).1;
      },
      record {
        body = record {
          services = o'.body.services;
          registers = o'.body.registers;
          bytes = o'.body.bytes;
          memory = o'.body.memory.0;
        };
        regs = (ap (load 4 m) (sym o'.body.memory.1) ∙ loads, tt);
      },
    ))

-- ---- the whole

-- by what lives there
read_by :
    (k : Setting) (x n : Spot) (members : List Y.Member) (leaves : List Y.Leaf) (member : ℕ)
    (is : IsStructure k.block x n members leaves) (one : IsMember leaves member (Y.FixedLeaf 31)) → Ends k →
    (p : Point) (numbers : ℕ → ℕ) (taken c index : ℕ) (f : Family) (o : IsAmong k.block numbers p) →
    p.control.line ≡ k.around.line →
    Linked k.block.call.surroundings.links k.block.call.code index
    (number_code k.block.environment (in_registers k.words taken) (Y.NumberIn (member_of x n member))) →
    c + size_of (number_code k.block.environment (in_registers k.words taken) (Y.NumberIn (member_of x n member)))
    + k.most ≤ cost k.block.call.code →
    AreIn k.block.call.surroundings p numbers index f → (a : PointerAt k.block x is.pointer p)
    (q : Option Generation) → Q.named p.state a.points.name (structure_shape members leaves) ≡ q →
    Comes k.block.call.code c f (services_of p)
    (before k.block.call.code
    (number_aims k.block k.labels
    (behind p numbers taken c index (number_code k.block.environment (in_registers k.words taken)
    (Y.NumberIn (member_of x n member)))))
    k.block.call.surroundings.acts (λ d. give (number_in (V.value_in d))))
    (V.part_designated k.around a.points.name (structure_shape members leaves) (member_part member) []
    k.block.call.surroundings.acts p.state)
unfolding give
read_by k x n members leaves member is one ends p numbers taken c index f o line l paid there a None none =
    let e = k.block.environment in
    let w = k.block.call.surroundings in
    let code = k.block.call.code in
    let t = in_registers k.words taken in
    let reference = Y.NumberIn (member_of x n member) in
    let coded' = read_coded e t x n members leaves member is.signature one is.pointer.known.declared is.declared
    is.table is.pointer.own in
    let size = ap (λ u. size_of u) coded' in
    let finds = found_code (name_at_place e x) is.signature member in
    let m = size_append finds value_loaded in
    let y = behind p numbers taken c index (number_code e t reference) in
    let next' : V.Designated → Meaning ℤ = λ d. give (number_in (V.value_in d)) in
    let most = ends.most in
    let rest = behind_found k.around members leaves member a.points.name in
    let closed = before_closed w.acts rest (before_closed w.acts next' (number_closed k.block k.labels y)) in
    subst (λ flow. Comes code c f (services_of p) (before code (number_aims k.block k.labels y) w.acts next') flow)
    (sym (part_missing k.around p.state a.points.name members leaves member w.acts none))
    (comes_on w.acts (R.error {R = Generation} k.around 101 w.acts p.state) rest
    (missing_ends closed is member one.few ends k.around o a (point_frame o.stands o.image) c f none line
    (omega (arith, paid, most, size, m)) (front_of finds value_loaded (subst (Linked w.links code index) coded' l))
    there))
read_by k x n members leaves member is one ends p numbers taken c index f o line l paid there a (Some g) some =
    let e = k.block.environment in
    let w = k.block.call.surroundings in
    let code = k.block.call.code in
    let t = in_registers k.words taken in
    let reference = Y.NumberIn (member_of x n member) in
    let h = point_frame o.stands o.image in
    let coded' = read_coded e t x n members leaves member is.signature one is.pointer.known.declared is.declared
    is.table is.pointer.own in
    let size = ap (λ u. size_of u) coded' in
    let finds = found_code (name_at_place e x) is.signature member in
    let m = size_append finds value_loaded in
    let l0 = subst (Linked w.links code index) coded' l in
    let y = behind p numbers taken c index (number_code e t reference) in
    let aims = number_aims k.block k.labels y in
    let next' : V.Designated → Meaning ℤ = λ d. give (number_in (V.value_in d)) in
    let memory = (f first_base).machine.memory in
    let stored = (there first_base).at.storage in
    let s = structure_at p is.signature a.points.name members leaves g memory stored is.plain
    (shapes_remain o.later.remains is.signature (structure_shape members leaves) is.numbered) some in
    let first = number_of (s.values member []) (member_told s one memory stored).tells.fits in
    let z = first.0 in
    let found = living_found {numbers = numbers} NoMore is one o a s h c f (omega arith)
    (front_of finds value_loaded l0) (known_more k.block h f there) in
    let r = value_comes k.block s one z first.1 h found.at (c + size_of finds) (reached found.reach)
    (λ b. (found.even b, found.inside b)) (back_of finds value_loaded l0) (reached_holds found.reach) in
    let kind = seen_is members a.points.name s.extent s.values one in
    let d = designated_member members leaves a.points.name s.extent s.values member in
    let seen' : V.value_in d ≡ BasicNumber z =
    ap (λ (q : LeafKind). seen q (s.values member [])) kind ∙ first.1 in
    subst (λ flow. Comes code c f (services_of p) (before code aims w.acts next') flow)
    (sym (part_found k.around p.state a.points.name members s.extent s.values w.acts one s.named))
    (record {
      to = λ early. subst (λ u. Comes code c f (services_of p) aims (Normal (number_in u) p.state)) (sym seen')
          (record {
            to = λ early. (
              first.2,
              word_here {x = y} h o (omega arith) refl
                  (reach_moved (omega (arith, size, m)) (omega (arith, size, m)) (reach_then found.reach r)),
            );
          });
    })

pub member_does :
    (k : Setting) (x n : Spot) (members : List Y.Member) (leaves : List Y.Leaf) (member : ℕ) →
    IsStructure k.block x n members leaves → IsMember leaves member (Y.FixedLeaf 31) → Ends k →
    k.around.program ≡ k.block.around.program → L.Does k 0 (Y.NumberIn (member_of x n member))
unfolding V.number ◌>>=◌
member_does k x n members leaves member is one ends same p numbers taken c index f o line registers l paid there =
    let w = k.block.call.surroundings in
    let code = k.block.call.code in
    let t = in_registers k.words taken in
    let reference = member_of x n member in
    let a = pointer_in x is.pointer o f there in
    let y = behind p numbers taken c index (number_code k.block.environment t (Y.NumberIn reference)) in
    let aims = number_aims k.block k.labels y in
    let declared = ap (λ u. declared_variable u (based_of n)) same ∙ is.meant in
    let next' : V.Designated → Meaning ℤ = λ d. give (number_in (V.value_in d)) in
    comes_on w.acts (V.designated k.around reference w.acts p.state) next'
    (subst (λ flow. Comes code c f (services_of p) (before code aims w.acts next') flow)
    (sym (through_is k.around n members leaves member w.acts a.points declared))
    (read_by k x n members leaves member is one ends p numbers taken c index f o line l paid there a
    (Q.named p.state a.points.name (structure_shape members leaves)) refl))
