-- Services 9 and 14 in a run: the name of what a pointer variable points to comes into words of the frame, and its
-- offset in an area into a0.
use Rattle.std.proofs.Common.{◌≡◌, ℕ, ◌+◌, ◌-◌, ◌^◌, ◌<◌, ◌≤◌, List, [], ◌∷◌, ◌++◌, None, Some, Option}
use Rattle.std.proofs.Common.{refl, sym, ap, ◌∙◌, subst, arith}
use Rattle.std.specs.Prelude.{false, pos, ◌==◌}
use Rattle.rv_meaning.specs.declared.instr.BranchTest.TheVariants as Test
use Rattle.rv_meaning.specs.declared.instr.Instr.TheVariants as I
use Rattle.rv_meaning.specs.Machine.{memory_size}
use Rattle.rv_meaning.specs.Words.{word}
use Rattle.pli_language.specs.declared.condition.Condition.TheVariants as C
use Rattle.pli_typing.specs.Signatures.{Pointer}
use Rattle.pli_typing.specs.TypedTree as Y
use Rattle.pli_meaning.specs.BasicValues.{BasicPointer, Name}
use Rattle.pli_meaning.specs.Evaluating.{offset_within}
use Rattle.pli_meaning.specs.Raising as R
use Rattle.pli_meaning.specs.Raising.{Around}
use Rattle.pli_meaning.specs.StorageState as Q
use Rattle.area_keeper.specs.KeptAreas.{with_part}
use Rattle.area_keeper.proofs.Agreement.{length_with_part}
use Rattle.pli_serving.specs.Answers.{Answer, Done}
use Rattle.pli_serving.specs.Bytes.{name_bytes, offset_word}
use Rattle.pli_serving.specs.Names.{address_served, locator_served, offset_answered}
use Rattle.pli_coding.specs.Assembly.{Code, JumpTo, Plain, RaiseError, size_of}
use Rattle.pli_coding.specs.Instructions.{number, small, status_tested}
use Rattle.pli_coding.specs.Registers.{a0, a1, a2, a3, a7, zero_register}
use Rattle.storage_relation.specs.Served.{call}
use Rattle.storage_relation.specs.Telling.{Tells}
use Rattle.activation_relation.specs.Frames.{frame_under}
use Rattle.activation_relation.specs.Layers.{Point, now, services_of}
use Rattle.activation_relation.specs.ServiceLaws.{IsSystem}
use Rattle.run_steps.specs.Bodies.{Known}
use Rattle.run_steps.proofs.Bodies.{constant_piece, zero_is}
use Rattle.run_steps.specs.Calls.{Calling}
use Rattle.run_steps.proofs.Calls.{call_done, called}
use Rattle.run_steps.specs.Engine.{Base}
use Rattle.run_steps.specs.Items.{At, Linked}
use Rattle.run_steps.proofs.Items.{straight}
use Rattle.run_steps.proofs.Jumps.{back_of, first_of, front_of, jump_piece, rest_of, skip_passed, skip_taken}
use Rattle.run_steps.proofs.Linking.{size_append}
use Rattle.run_steps.specs.Reach.{Aims, Closed, Comes, Family, Reach, cost, reached}
use Rattle.run_steps.proofs.Reach.{onward, reach_map, reach_then, reached_holds}
use Rattle.run_steps.proofs.Reaching.{reach_moved}
use Rattle.run_steps.specs.Temporaries.{nothing}
use Rattle.block_runs.specs.Machines.{AreIn}
use Rattle.block_runs.proofs.BlockEntries.{small_is, word_fits, word_is}
use Rattle.block_runs.proofs.Places.{IsFrame, word_in}
use Rattle.block_runs.proofs.PointGrounds.{StandsIn, call_is, known_in, point_frame, point_ground}
use Rattle.program_runs.specs.Statements.{IsAmong}
use Rattle.program_runs.proofs.Variables.{own_code, own_comes}
use Rattle.expression_runs.specs.Values.{Setting}
use Rattle.expression_runs.specs.Variables.{Spot}
use Rattle.expression_runs.proofs.Raises.{coded, error_comes}
use Rattle.expression_runs.proofs.Words.{frame_of, valued}
use Rattle.variable_runs.specs.Known.{place_of}
use Rattle.area_runs.specs.Based.{Ends}
use Rattle.area_runs.proofs.AreaPoints.{area_base, area_place}
use Rattle.area_runs.proofs.BasedCode.{name_at_place}
use Rattle.area_runs.proofs.BasedReads.{laid_out}
use Rattle.locator_runs.proofs.PointerPoints.{PointerAt, name_length, own_base, pointer_place}
use Rattle.member_runs.specs.Members.{structure_shape}
use Rattle.member_runs.proofs.BasePlaces.{own_at, own_word}
use Rattle.member_runs.proofs.MemberPoints.{StructureAt}
use Rattle.member_runs.proofs.MemberReads.{more_ground}
use Rattle.member_runs.proofs.Waiting.{IsFree, words_at}
use Rattle.offset_runs.specs.OffsetAddresses.{IsAddressed}
use Rattle.offset_runs.proofs.AddressAnswers.{copied_answer, missing_answer, offset_served}
use Rattle.offset_runs.proofs.AddressCode.{address_asked, called_code, offset_asked, words_code}
use Rattle.offset_runs.proofs.WaitingNames.{name_stands, name_told, words_come}

-- ---- a status that isn't 0

-- ERROR comes to what it means
pub status_ends :
    {X : Type 0} {k : Setting} {numbers : ℕ → ℕ} {p : Point} {i : ℕ} {aims : Aims X}
    (closed : Closed k.block.call.code aims) (ends : Ends k) (around : Around) (o : IsAmong k.block numbers p)
    (h : frame_of k.block p) (n c : ℕ) (f : Family) → (n < 2 ^ 16) × ((n == 0) ≡ false) →
    p.control.line ≡ around.line → c + 18 < cost k.block.call.code →
    Linked k.block.call.surroundings.links k.block.call.code i status_tested →
    ((b : Base) → At b i (Known (point_ground k.block.call.surroundings p h) (services_of p) numbers (λ j. 0) (coded n)
    b) (f b)) →
    Comes k.block.call.code c f (services_of p) aims (R.error {R = X} around n k.block.call.surroundings.acts p.state)
status_ends {k = k'} {numbers} {p} closed ends around o h n c f some line paid l there =
    let r3 = skip_passed c f Test.Equal a1 zero_register (JumpTo RaiseError ∷ []) l there
    (λ b. let o' = (there b).holds in
    ap (λ u. u == (f b).machine.registers 0) o'.regs.0 ∙ ap (λ u. n == u) (zero_is o'.body) ∙ some.1) in
    let inside = ends.routines.linked.inside in
    let near = ends.routines.linked.small' in
    let r4 = jump_piece (c + 1) (c + 1 + 2) (reached r3) RaiseError (ends.routines.at + 8) (omega arith) ends.raises
    (omega (arith, inside, near))
    (record { reserved_stay = λ y u. refl; known_stay = λ b y u q. q; set = λ y u. refl })
    (rest_of _ (JumpTo RaiseError ∷ []) l) (reached_holds r3) in
    onward closed (reach_then r3 r4) (λ f' at'.
    error_comes closed ends.routines (c + 1 + 2) f' around n h (o.stands, o.image) some.0
    (omega (arith, paid), ends.acts) line
    (subst (λ xs. IsSystem (Q.force xs C.Error)) (sym o.later.activations) ends.error) at')

-- ---- what is around it

pub record Addressing (k : Setting) (x n : Spot) (members : List Y.Member) (leaves : List Y.Leaf) (a : Spot) (p : Point)
    (numbers : ℕ → ℕ) : Type 0 where
  pub given : IsAddressed k x n members leaves a
  pub among : IsAmong k.block numbers p
  pub at : PointerAt k.block x given.structure.pointer p

abbrev pub frame_at : {k : Setting} → {x n a : Spot} → {members : List Y.Member} → {leaves : List Y.Leaf} →
    {p : Point} → {numbers : ℕ → ℕ} → Addressing k x n members leaves a p numbers → frame_of k.block p
frame_at z = point_frame z.among.stands z.among.image

free_words :
    {k : Setting} {x n a : Spot} {members : List Y.Member} {leaves : List Y.Leaf} {p : Point} {numbers : ℕ → ℕ}
    (z : Addressing k x n members leaves a p numbers) → IsFree p z.given.area.layer z.given.area.others
free_words z =
    record {
      newest = z.among.later.layers ∙ z.given.area.layers;
      words = z.given.words;
      waits = z.given.waits;
    }

pub words_room : (at : ℕ) → IsFrame at → (2 ^ 22 ≤ at - 16) × (at - 16 + 16 ≤ memory_size)
words_room at h =
    let high = h.high in
    let room = h.room in
    (omega (arith, high), omega (arith, room, high))

-- ---- service 9

abbrev asked_of : {k : Setting} → {x n a : Spot} → {members : List Y.Member} → {leaves : List Y.Leaf} →
    {p : Point} → {numbers : ℕ → ℕ} → Addressing k x n members leaves a p numbers → Code
asked_of {k} {x} z = address_asked (name_at_place k.block.environment x) z.given.structure.signature

abbrev asking_regs : (place signature words : ℕ) → Base → List (ℕ × ℕ)
asking_regs place signature words b = (17, 9) ∷ (12, words) ∷ (11, signature) ∷ (10, place) ∷ []

asked_comes :
    {k : Setting} {x n a : Spot} {members : List Y.Member} {leaves : List Y.Leaf} {p : Point} {numbers : ℕ → ℕ} {i : ℕ}
    (z : Addressing k x n members leaves a p numbers) (c : ℕ) (f : Family) →
    Linked k.block.call.surroundings.links k.block.call.code i (asked_of z) →
    AreIn k.block.call.surroundings p numbers i f →
    Reach k.block.call.code c f (services_of p) (c + size_of (asked_of z)) (services_of p)
    (λ b y. At b (i + size_of (asked_of z)) (Known (point_ground k.block.call.surroundings p (frame_at z))
    (services_of p) numbers (λ j. 0)
    (asking_regs (pointer_place z.given.structure.pointer) z.given.structure.signature (words_at k.block p)) b) y)
asked_comes {k = k'} {x} {p = p} {numbers} {i} z c f l there =
    let k = k'.block in
    let w = k.call.surroundings in
    let v = services_of p in
    let o = z.among in
    let is = z.given.structure in
    let h = frame_at z in
    let g = point_ground w p h in
    let at = frame_under w.parts p.control.layers in
    let place = name_at_place k.environment x in
    let name = own_code a0 place in
    let num = number a1 is.signature in
    let words = words_code a2 in
    let last = small a7 9 ∷ [] in
    let base = own_base is.pointer o in
    let inside = is.pointer.known.inside in
    let high = h.high in
    let room = h.room in
    let n0 = size_append name (num ++ (words ++ last)) in
    let n1 = size_append num (words ++ last) in
    let n2 = size_append words last in
    let l1 = back_of name (num ++ (words ++ last)) l in
    let l2 = back_of num (words ++ last) l1 in
    let l3 = back_of words last l2 in
    let r1 = own_comes {rs = nothing} h c f a0 place (omega (arith, base, inside)) (λ y u. refl)
    (record { reserved_stay = λ y u. refl; known_stay = λ b y u s. s; set = λ y u. refl })
    (record { reserved_stay = λ y u. refl; known_stay = λ b y u s. s; set = λ y u. refl })
    (record { reserved_stay = λ y u. refl; known_stay = λ b y u s. s; set = λ y u. refl })
    (front_of name (num ++ (words ++ last)) l) (λ b. known_in {t = λ j. 0} {rs = nothing} h (there b) tt) in
    let r2 = constant_piece (c + size_of name) (reached r1) a1 (pos is.signature) (word_fits is.signature is.number)
    (record { reserved_stay = λ y u. refl; known_stay = λ b y u q. q; set = λ y u. refl })
    (front_of num (words ++ last) l1) (reached_holds r1) in
    let r3 = words_come {g = g} {rs = λ b. (11, word (pos is.signature)) ∷ (10, at + place) ∷ []}
    (c + size_of name + size_of num) (reached r2) a2 (word_in at 36 h refl (omega arith))
    (λ b m u. own_word w.parts b.at m p.state.activations p.control.layers u.frames)
    (omega (arith, high), omega (arith, room)) (λ y u. refl)
    (record { reserved_stay = λ y u. refl; known_stay = λ b y u s. s; set = λ y u. refl })
    (record { reserved_stay = λ y u. refl; known_stay = λ b y u s. s; set = λ y u. refl })
    (record { reserved_stay = λ y u. refl; known_stay = λ b y u s. s; set = λ y u. refl })
    (front_of words last l2) (reached_holds r2) in
    let r4 = straight (c + size_of name + size_of num + size_of words) (reached r3) v v
    (λ b y. Known g v numbers (λ j. 0) (asking_regs (pointer_place is.pointer) is.signature (words_at k p)) b y)
    l3 (omega arith) (λ b. (reached_holds r3 b).pc)
    (λ b. let o' = (reached_holds r3 b).holds in record {
      body = record {
        services = o'.body.services;
        registers = o'.body.registers;
        bytes = o'.body.bytes;
        memory = o'.body.memory;
      };
      regs = (
        small_is _ 9 (zero_is o'.body) (omega arith),
        (
          o'.regs.0,
          (o'.regs.1.0 ∙ word_is is.signature is.number, (o'.regs.1.1.0 ∙ ap (λ j. j + place) base, tt)),
        ),
      );
    }) in
    reach_moved (omega (arith, n0, n1, n2)) (omega (arith, n0, n1, n2)) (reach_then r1 (reach_then r2 (reach_then r3
    r4)))

-- the name waits
abbrev pub IsWaiting : Name → (at : ℕ) → List ℕ → Type 0
IsWaiting name at m = Tells Pointer (BasicPointer name) at m

abbrev pub addressed_code : {k : Setting} → {x n a : Spot} → {members : List Y.Member} → {leaves : List Y.Leaf} →
    {p : Point} → {numbers : ℕ → ℕ} → Addressing k x n members leaves a p numbers → Code
addressed_code z = asked_of z ++ called_code

-- it lives
pub waits_reach :
    {k : Setting} {x n a : Spot} {members : List Y.Member} {leaves : List Y.Leaf} {p : Point} {numbers : ℕ → ℕ} {i : ℕ}
    (z : Addressing k x n members leaves a p numbers) (s : StructureAt p z.at.points.name members leaves) (c : ℕ)
    (f : Family) → Linked k.block.call.surroundings.links k.block.call.code i (addressed_code z) →
    AreIn k.block.call.surroundings p numbers i f →
    Reach k.block.call.code c f (services_of p) (c + size_of (addressed_code z)) (services_of p)
    (λ b y. At b (i + size_of (addressed_code z))
    (Known (more_ground k.block.call.surroundings p (IsWaiting z.at.points.name (words_at k.block p)) (frame_at z))
    (services_of p) numbers (λ j. 0) nothing b) y)
waits_reach {k = k'} {x} {p = p} {numbers} {i} z s c f l there =
    let k = k'.block in
    let w = k.call.surroundings in
    let code = k.call.code in
    let v = services_of p in
    let o = z.among in
    let is = z.given.structure in
    let h = frame_at z in
    let small' = l.small' in
    let name = z.at.points.name in
    let from = pointer_place is.pointer in
    let at = words_at k p in
    let asks = asked_of z in
    let n0 = size_append asks called_code in
    let l1 = back_of asks called_code l in
    let room = words_room (frame_under w.parts p.control.layers) h in
    let r1 = asked_comes z c f (front_of asks called_code l) there in
    let g = reached r1 in
    let free = free_words z in
    let same : frame_under w.parts p.control.layers ≡ z.given.area.layer.at =
    ap (λ ls. frame_under w.parts ls) free.newest in
    let final : Base → List ℕ = λ b. with_part (name_bytes name) at (g b).machine.memory in
    let answer : Base → Answer = λ b. Done v (final b) from 0 in
    let calling : Calling w.links code (i + size_of asks) g answer = record {
      linked = first_of (Plain I.Ecall) status_tested l1;
      pc = λ b. (reached_holds r1 b).pc;
      answers = λ b.
          let t = (reached_holds r1 b).holds in
          let m = (g b).machine.memory in
          let regs = (g b).machine.registers in
          called code (g b) v 9 from is.signature at (regs 13) (regs 14)
          (λ call' x0 x1 x2 x3 x4. address_served call' x0 x1 x2) t.body.services t.regs.0 t.regs.1.1.1.0
          t.regs.1.1.0 t.regs.1.0 refl refl (λ call' y. refl)
          ∙ ap (λ call'. address_served call' from is.signature at) (call_is w code p m o.image)
          ∙ copied_answer is o z.at s m at t.body.memory.storage (laid_out o (omega (arith, small'))) room;
    } in
    let long = name_length name in
    let below = room.1 in
    let r2 = call_done (c + size_of asks) g v v final (λ b. from) (λ b. 0)
    (λ b y. Known (more_ground w p (IsWaiting name at) h) v numbers (λ j. 0) (λ b'. (11, 0) ∷ []) b y) (omega arith)
    calling
    (λ b.
    let t = (reached_holds r1 b).holds in
    let m = (g b).machine.memory in
    let bytes = t.body.bytes in
    record {
      body = record {
        services = refl;
        registers = t.body.registers;
        bytes = length_with_part (name_bytes name) at m (omega (arith, below, bytes, long)) ∙ bytes;
        memory = (
          subst (λ j. StandsIn w p b (with_part (name_bytes name) (j - 16) m)) (sym same)
              (name_stands w p z.given.area.layer z.given.area.others name b m o.stands (subst IsFrame same h) free
              bytes
              t.body.memory),
          name_told name at m z.at.fits (omega (arith, below, bytes)),
        );
      };
      regs = (refl, tt);
    }) in
    let r3 = skip_taken (c + size_of asks + 1) (reached r2) Test.Equal a1 zero_register (JumpTo RaiseError ∷ [])
    (rest_of (Plain I.Ecall) status_tested l1) (reached_holds r2)
    (λ b. let t = (reached_holds r2 b).holds in
    ap (λ u. u == (reached r2 b).machine.registers 0) t.regs.0 ∙ ap (λ u. 0 == u) (zero_is t.body)) in
    reach_map _ (reach_moved (omega (arith, n0)) (omega (arith, n0)) (reach_then r1 (reach_then r2 r3)))
    (λ b y t. record {
      pc = t.pc;
      holds = record { body = t.holds.body; regs = tt };
    })

-- nothing does
pub missing_ends :
    {X : Type 0} {k : Setting} {x n a : Spot} {members : List Y.Member} {leaves : List Y.Leaf} {p : Point}
    {numbers : ℕ → ℕ} {i : ℕ} {aims : Aims X} (closed : Closed k.block.call.code aims)
    (z : Addressing k x n members leaves a p numbers) (around : Around) (c : ℕ) (f : Family) →
    Q.named p.state z.at.points.name (structure_shape members leaves) ≡ None → p.control.line ≡ around.line →
    c + size_of (addressed_code z) + 18 < cost k.block.call.code →
    Linked k.block.call.surroundings.links k.block.call.code i (addressed_code z) →
    AreIn k.block.call.surroundings p numbers i f →
    Comes k.block.call.code c f (services_of p) aims (R.error {R = X} around 101 k.block.call.surroundings.acts p.state)
missing_ends {k = k'} {p = p} {numbers} {i} closed z around c f none line paid l there =
    let k = k'.block in
    let w = k.call.surroundings in
    let code = k.call.code in
    let v = services_of p in
    let o = z.among in
    let is = z.given.structure in
    let h = frame_at z in
    let small' = l.small' in
    let from = pointer_place is.pointer in
    let at = words_at k p in
    let asks = asked_of z in
    let n0 = size_append asks called_code in
    let l1 = back_of asks called_code l in
    let room = words_room (frame_under w.parts p.control.layers) h in
    let r1 = asked_comes z c f (front_of asks called_code l) there in
    let g = reached r1 in
    let answer : Base → Answer = λ b. Done v (g b).machine.memory from 101 in
    let calling : Calling w.links code (i + size_of asks) g answer = record {
      linked = first_of (Plain I.Ecall) status_tested l1;
      pc = λ b. (reached_holds r1 b).pc;
      answers = λ b.
          let t = (reached_holds r1 b).holds in
          let m = (g b).machine.memory in
          let regs = (g b).machine.registers in
          called code (g b) v 9 from is.signature at (regs 13) (regs 14)
          (λ call' x0 x1 x2 x3 x4. address_served call' x0 x1 x2) t.body.services t.regs.0 t.regs.1.1.1.0
          t.regs.1.1.0 t.regs.1.0 refl refl (λ call' y. refl)
          ∙ ap (λ call'. address_served call' from is.signature at) (call_is w code p m o.image)
          ∙ missing_answer is o z.at m at t.body.memory.storage (laid_out o (omega (arith, small'))) room none;
    } in
    let r2 = call_done (c + size_of asks) g v v (λ b. (g b).machine.memory) (λ b. from) (λ b. 101)
    (λ b y. Known (point_ground w p h) v numbers (λ j. 0) (coded 101) b y) (omega arith) calling
    (λ b. let t = (reached_holds r1 b).holds in record {
      body = record {
        services = refl;
        registers = t.body.registers;
        bytes = t.body.bytes;
        memory = t.body.memory;
      };
      regs = (refl, tt);
    }) in
    onward closed (reach_then r1 r2) (λ f' at'.
    status_ends closed z.given.ends around o h 101 (c + size_of asks + 1) f' (omega arith, refl) line
    (omega (arith, paid, n0)) (rest_of (Plain I.Ecall) status_tested l1) at')

-- ---- service 14

abbrev pub within_code : (k : Setting) → (a : Spot) → Code
within_code k a = offset_asked (place_of k.block.environment a) ++ called_code

abbrev within_regs : (words area : ℕ) → Base → List (ℕ × ℕ)
within_regs words area b = (17, 14) ∷ (13, 1) ∷ (11, area) ∷ (10, words) ∷ []

within_asked :
    {k : Setting} {x n a : Spot} {members : List Y.Member} {leaves : List Y.Leaf} {p : Point} {numbers : ℕ → ℕ} {i : ℕ}
    (z : Addressing k x n members leaves a p numbers) (name : Name) (c : ℕ) (f : Family) →
    Linked k.block.call.surroundings.links k.block.call.code i (offset_asked (place_of k.block.environment a)) →
    ((b : Base) →
    At b i (Known (more_ground k.block.call.surroundings p (IsWaiting name (words_at k.block p)) (frame_at z))
    (services_of p) numbers (λ j. 0) nothing b) (f b)) →
    Reach k.block.call.code c f (services_of p) (c + size_of (offset_asked (place_of k.block.environment a)))
    (services_of p)
    (λ b y. At b (i + size_of (offset_asked (place_of k.block.environment a)))
    (Known (more_ground k.block.call.surroundings p (IsWaiting name (words_at k.block p)) (frame_at z))
    (services_of p) numbers (λ j. 0) (within_regs (words_at k.block p) (area_place z.given.area)) b) y)
within_asked {k = k'} {a = a} {p = p} {numbers} {i} z name c f l there =
    let k = k'.block in
    let w = k.call.surroundings in
    let v = services_of p in
    let o = z.among in
    let area = z.given.area in
    let h = frame_at z in
    let g = more_ground w p (IsWaiting name (words_at k p)) h in
    let at = frame_under w.parts p.control.layers in
    let place = place_of k.environment a in
    let words = words_code a0 in
    let own = own_code a1 place in
    let last = small a3 1 ∷ small a7 14 ∷ [] in
    let n0 = size_append words (own ++ last) in
    let n1 = size_append own last in
    let base = area_base area o in
    let inside = area.known.inside in
    let high = h.high in
    let room = h.room in
    let l1 = back_of words (own ++ last) l in
    let r1 = words_come {g = g} {rs = nothing} c f a0 (word_in at 36 h refl (omega arith))
    (λ b m u. own_word w.parts b.at m p.state.activations p.control.layers u.0.frames)
    (omega (arith, high), omega (arith, room)) (λ y u. refl)
    (record { reserved_stay = λ y u. refl; known_stay = λ b y u s. s; set = λ y u. refl })
    (record { reserved_stay = λ y u. refl; known_stay = λ b y u s. s; set = λ y u. refl })
    (record { reserved_stay = λ y u. refl; known_stay = λ b y u s. s; set = λ y u. refl })
    (front_of words (own ++ last) l) there in
    let r2 = own_at {g = g} {rs = λ b. (10, at - 16) ∷ []} (c + size_of words) (reached r1) a1 place
    (word_in at 36 h refl (omega arith))
    (λ b m u. own_word w.parts b.at m p.state.activations p.control.layers u.0.frames)
    (omega (arith, base, inside)) (λ y u. refl)
    (record { reserved_stay = λ y u. refl; known_stay = λ b y u s. s; set = λ y u. refl })
    (record { reserved_stay = λ y u. refl; known_stay = λ b y u s. s; set = λ y u. refl })
    (record { reserved_stay = λ y u. refl; known_stay = λ b y u s. s; set = λ y u. refl })
    (front_of own last l1) (reached_holds r1) in
    let r3 = straight (c + size_of words + size_of own) (reached r2) v v
    (λ b y. Known g v numbers (λ j. 0) (within_regs (words_at k p) (area_place area)) b y) (back_of own last l1)
    (omega arith) (λ b. (reached_holds r2 b).pc)
    (λ b. let t = (reached_holds r2 b).holds in record {
      body = record {
        services = t.body.services;
        registers = t.body.registers;
        bytes = t.body.bytes;
        memory = t.body.memory;
      };
      regs = (
        small_is _ 14 (zero_is t.body) (omega arith),
        (small_is _ 1 (zero_is t.body) (omega arith), (t.regs.0 ∙ ap (λ j. j + place) base, (t.regs.1.0, tt))),
      );
    }) in
    reach_moved (omega (arith, n0, n1)) (omega (arith, n0, n1)) (reach_then r1 (reach_then r2 r3))

-- what it answers: a word and a status
within_called :
    {k : Setting} {x n a : Spot} {members : List Y.Member} {leaves : List Y.Leaf} {p : Point} {numbers : ℕ → ℕ} {i : ℕ}
    (z : Addressing k x n members leaves a p numbers) (name : Name) (given status c : ℕ) (f : Family) →
    ((m : List ℕ) →
    offset_answered (call (now p m)) (words_at k.block p) (offset_within z.given.area.known.serial name)
    ≡ Done (services_of p) m given status) →
    Linked k.block.call.surroundings.links k.block.call.code i (within_code k a) →
    ((b : Base) →
    At b i (Known (more_ground k.block.call.surroundings p (IsWaiting name (words_at k.block p)) (frame_at z))
    (services_of p) numbers (λ j. 0) nothing b) (f b)) →
    Reach k.block.call.code c f (services_of p) (c + size_of (offset_asked (place_of k.block.environment a)) + 1)
    (services_of p)
    (λ b y. At b (i + size_of (offset_asked (place_of k.block.environment a)) + 1)
    (Known (point_ground k.block.call.surroundings p (frame_at z)) (services_of p) numbers (λ j. 0)
    (λ b'. (11, status) ∷ (10, given) ∷ []) b) y)
within_called {k = k'} {a = a} {p = p} {numbers} {i} z name given status c f answers l there =
    let k = k'.block in
    let w = k.call.surroundings in
    let code = k.call.code in
    let v = services_of p in
    let o = z.among in
    let area = z.given.area in
    let h = frame_at z in
    let small' = l.small' in
    let at = words_at k p in
    let asks = offset_asked (place_of k.environment a) in
    let l1 = back_of asks called_code l in
    let room = words_room (frame_under w.parts p.control.layers) h in
    let r1 = within_asked z name c f (front_of asks called_code l) there in
    let g = reached r1 in
    let answer : Base → Answer = λ b. Done v (g b).machine.memory given status in
    let calling : Calling w.links code (i + size_of asks) g answer = record {
      linked = first_of (Plain I.Ecall) status_tested l1;
      pc = λ b. (reached_holds r1 b).pc;
      answers = λ b.
          let t = (reached_holds r1 b).holds in
          let m = (g b).machine.memory in
          let regs = (g b).machine.registers in
          called code (g b) v 14 at (area_place area) (regs 12) 1 (regs 14)
          (λ call' x0 x1 x2 x3 x4. locator_served call' x0 x1 x2 x3) t.body.services t.regs.0 t.regs.1.1.1.0
          t.regs.1.1.0 refl t.regs.1.0 refl (λ call' y. refl)
          ∙ ap (λ call'. locator_served call' at (area_place area) (regs 12) 1) (call_is w code p m o.image)
          ∙ offset_served area o (omega (arith, small')) b m t.body.memory.0 (laid_out o (omega (arith, small')))
          name at
          (regs 12) room t.body.memory.1
          ∙ answers m;
    } in
    let r2 = call_done (c + size_of asks) g v v (λ b. (g b).machine.memory) (λ b. given) (λ b. status)
    (λ b y. Known (point_ground w p h) v numbers (λ j. 0) (λ b'. (11, status) ∷ (10, given) ∷ []) b y) (omega arith)
    calling
    (λ b. let t = (reached_holds r1 b).holds in record {
      body = record {
        services = refl;
        registers = t.body.registers;
        bytes = t.body.bytes;
        memory = t.body.memory.0;
      };
      regs = (refl, (refl, tt));
    }) in
    reach_then r1 r2

-- its offset comes into a0
pub inside_reaches :
    {k : Setting} {x n a : Spot} {members : List Y.Member} {leaves : List Y.Leaf} {p : Point} {numbers : ℕ → ℕ} {i : ℕ}
    (z : Addressing k x n members leaves a p numbers) (name : Name) (u : Option ℕ) (c : ℕ) (f : Family) →
    offset_within z.given.area.known.serial name ≡ Some u →
    Linked k.block.call.surroundings.links k.block.call.code i (within_code k a) →
    ((b : Base) →
    At b i (Known (more_ground k.block.call.surroundings p (IsWaiting name (words_at k.block p)) (frame_at z))
    (services_of p) numbers (λ j. 0) nothing b) (f b)) →
    Reach k.block.call.code c f (services_of p) (c + size_of (within_code k a)) (services_of p)
    (λ b y. At b (i + size_of (within_code k a))
    (Known (point_ground k.block.call.surroundings p (frame_at z)) (services_of p) numbers (λ j. 0)
    (valued (offset_word u)) b) y)
inside_reaches {k = k'} {a = a} {p = p} {numbers} {i} z name u c f found l there =
    let k = k'.block in
    let asks = offset_asked (place_of k.environment a) in
    let n0 = size_append asks called_code in
    let l1 = rest_of (Plain I.Ecall) status_tested (back_of asks called_code l) in
    let r1 = within_called z name (offset_word u) 0 c f
    (λ m. ap (offset_answered (call (now p m)) (words_at k p)) found) l there in
    let r2 = skip_taken (c + size_of asks + 1) (reached r1) Test.Equal a1 zero_register (JumpTo RaiseError ∷ []) l1
    (reached_holds r1)
    (λ b. let t = (reached_holds r1 b).holds in
    ap (λ y. y == (reached r1 b).machine.registers 0) t.regs.0 ∙ ap (λ y. 0 == y) (zero_is t.body)) in
    reach_map _ (reach_moved (omega (arith, n0)) (omega (arith, n0)) (reach_then r1 r2)) (λ b y t. record {
      pc = t.pc;
      holds = record { body = t.holds.body; regs = t.holds.regs.1 };
    })

-- it has none there
pub outside_ends :
    {X : Type 0} {k : Setting} {x n a : Spot} {members : List Y.Member} {leaves : List Y.Leaf} {p : Point}
    {numbers : ℕ → ℕ} {i : ℕ} {aims : Aims X} (closed : Closed k.block.call.code aims)
    (z : Addressing k x n members leaves a p numbers) (around : Around) (name : Name) (c : ℕ) (f : Family) →
    offset_within z.given.area.known.serial name ≡ None → p.control.line ≡ around.line →
    c + size_of (within_code k a) + 18 < cost k.block.call.code →
    Linked k.block.call.surroundings.links k.block.call.code i (within_code k a) →
    ((b : Base) →
    At b i (Known (more_ground k.block.call.surroundings p (IsWaiting name (words_at k.block p)) (frame_at z))
    (services_of p) numbers (λ j. 0) nothing b) (f b)) →
    Comes k.block.call.code c f (services_of p) aims (R.error {R = X} around 110 k.block.call.surroundings.acts p.state)
outside_ends {k = k'} {a = a} {p = p} {numbers} {i} closed z around name c f none line paid l there =
    let k = k'.block in
    let asks = offset_asked (place_of k.environment a) in
    let n0 = size_append asks called_code in
    let l1 = rest_of (Plain I.Ecall) status_tested (back_of asks called_code l) in
    let r1 = within_called z name (words_at k p) 110 c f
    (λ m. ap (offset_answered (call (now p m)) (words_at k p)) none) l there in
    onward closed r1 (λ f' at'.
    status_ends closed z.given.ends around z.among (frame_at z) 110 (c + size_of asks + 1) f' (omega arith, refl) line
    (omega (arith, paid, n0)) l1 (λ b. record {
      pc = (at' b).pc;
      holds = record { body = (at' b).holds.body; regs = ((at' b).holds.regs.0, tt) };
    }))
