-- Services 14 and 8 in a run: the name of an offset comes into words of the frame, and a member of what it names is
-- found by it.
use Rattle.std.proofs.Common.{◌≡◌, ℕ, ◌+◌, ◌-◌, ◌%◌, ◌^◌, ◌<◌, ◌≤◌, List, [], ◌∷◌, ◌++◌, None, Some, Option}
use Rattle.std.proofs.Common.{refl, sym, ap, ◌∙◌, subst, arith}
use Rattle.std.proofs.lemmas.Bool.Decides.{nat_tests}
use Rattle.std.specs.Prelude.{cond, pos, ◌==◌}
use Rattle.rv_meaning.specs.declared.instr.BranchTest.TheVariants as Test
use Rattle.rv_meaning.specs.declared.instr.Instr.{Instr}
use Rattle.rv_meaning.specs.declared.instr.Instr.TheVariants as I
use Rattle.rv_meaning.specs.Machine.{memory_size, value}
use Rattle.rv_meaning.specs.Memory.{load}
use Rattle.rv_meaning.specs.Words.{sum, word}
use Rattle.pli_typing.specs.Signatures.{Fixed, Pointer}
use Rattle.pli_typing.specs.TypedTree as Y
use Rattle.pli_meaning.specs.BasicValues.{BasicNumber, BasicPointer, Name}
use Rattle.pli_meaning.specs.Codes.{no_generation_code}
use Rattle.pli_meaning.specs.Contents.{leaves_with}
use Rattle.pli_meaning.specs.Evaluating.{pointer_into}
use Rattle.pli_meaning.specs.Raising as R
use Rattle.pli_meaning.specs.Raising.{Around}
use Rattle.pli_meaning.specs.StorageState as Q
use Rattle.area_keeper.specs.KeptAreas.{with_part}
use Rattle.area_keeper.proofs.Agreement.{length_with_part}
use Rattle.pli_serving.specs.Answers.{Answer, Done}
use Rattle.pli_serving.specs.Arguments.{name_in, shape_of_number, where_found}
use Rattle.pli_serving.specs.Bytes.{name_at, name_bytes, offset_word}
use Rattle.pli_serving.specs.Finding.{Found}
use Rattle.pli_serving.specs.Names.{described, leaf_words, locator_served, resolve_served, resolved}
use Rattle.pli_serving.specs.Outcomes.{or_bad}
use Rattle.pli_serving.specs.ServiceState.{Services}
use Rattle.pli_serving.specs.Serving.{found_served}
use Rattle.pli_coding.specs.Assembly.{Code, JumpTo, Plain, RaiseError, size_of}
use Rattle.pli_coding.specs.Instructions.{number, small, status_tested}
use Rattle.pli_coding.specs.Registers.{a0, a1, a2, a3, a4, a7, zero_register}
use Rattle.storage_relation.specs.Served as H
use Rattle.storage_relation.specs.Served.{call, place_now}
use Rattle.storage_relation.specs.Telling.{IsOffset, Tells}
use Rattle.storage_relation.proofs.CallArguments.{asked_named, asked_unnamed}
use Rattle.storage_relation.proofs.Locators.{pointer_answer}
use Rattle.storage_relation.proofs.Values.{name_loaded, word_loaded}
use Rattle.activation_relation.specs.Frames.{frame_under}
use Rattle.activation_relation.specs.Layers.{Point, now, services_of}
use Rattle.activation_relation.proofs.Remaining.{shapes_remain}
use Rattle.run_steps.specs.Bodies.{Known}
use Rattle.run_steps.proofs.Bodies.{constant_piece, zero_is}
use Rattle.run_steps.specs.Calls.{Calling}
use Rattle.run_steps.proofs.Calls.{call_done, called}
use Rattle.run_steps.specs.Engine.{Base, call_at, served}
use Rattle.run_steps.specs.Items.{At, Linked}
use Rattle.run_steps.proofs.Items.{straight}
use Rattle.run_steps.proofs.Jumps.{back_of, first_of, front_of, rest_of, skip_taken}
use Rattle.run_steps.proofs.Linking.{size_append}
use Rattle.run_steps.specs.Reach.{Aims, Closed, Comes, Family, Reach, cost, reached}
use Rattle.run_steps.proofs.Reach.{onward, reach_then, reached_holds}
use Rattle.run_steps.proofs.Reaching.{reach_moved}
use Rattle.run_steps.specs.Temporaries.{nothing}
use Rattle.run_steps.specs.Unlimited as U
use Rattle.image_runs.specs.Runs.{Whole}
use Rattle.block_runs.specs.Machines.{IsIn}
use Rattle.block_runs.proofs.BlockEntries.{small_is, word_fits, word_is}
use Rattle.block_runs.proofs.Places.{IsFrame, word_in}
use Rattle.block_runs.proofs.PointGrounds.{StandsIn, call_is, point_frame, point_ground}
use Rattle.program_runs.specs.Statements.{IsAmong}
use Rattle.program_runs.proofs.Variables.{own_code, own_comes}
use Rattle.expression_runs.specs.Values.{Setting}
use Rattle.expression_runs.specs.Variables.{Spot}
use Rattle.expression_runs.proofs.Raises.{coded}
use Rattle.expression_runs.proofs.Words.{frame_of, known_word, valued}
use Rattle.variable_runs.specs.Known.{place_of}
use Rattle.area_runs.proofs.AreaPoints.{area_base, area_place}
use Rattle.area_runs.proofs.BasedCode.{addressing_code, value_loaded}
use Rattle.area_runs.proofs.BasedPoints.{IsLaidOut}
use Rattle.area_runs.proofs.BasedReads.{laid_out, there_at}
use Rattle.area_assignments.proofs.Emptying.{names_area}
use Rattle.locator_runs.proofs.PointerPoints.{name_length}
use Rattle.member_runs.specs.Members.{IsMember, structure_shape}
use Rattle.member_runs.proofs.BasePlaces.{own_word}
use Rattle.member_runs.proofs.MemberMeaning.{leaf_got, structure_of}
use Rattle.member_runs.proofs.MemberPoints.{StructureAt, member_place, member_told}
use Rattle.member_runs.proofs.MemberReads.{NoMore, found_regs, member_ground, more_ground}
use Rattle.member_runs.proofs.Waiting.{IsFree, words_at}
use Rattle.offset_runs.specs.OffsetReferences.{IsLocated}
use Rattle.offset_runs.proofs.AddressAnswers.{is_there}
use Rattle.offset_runs.proofs.AddressCode.{words_code}
use Rattle.offset_runs.proofs.AddressRuns.{IsWaiting, status_ends, words_room}
use Rattle.offset_runs.proofs.LocatedCode.{found_asked, found_called, into_asked}
use Rattle.offset_runs.proofs.PointerAssignments.{name_fits}
use Rattle.offset_runs.proofs.WaitingNames.{name_stands, name_told, words_come}

-- what is around it
pub record Locating (k : Setting) (n a : Spot) (members : List Y.Member) (leaves : List Y.Leaf) (p : Point)
    (numbers : ℕ → ℕ) : Type 0 where
  pub given : IsLocated k n members leaves a
  pub among : IsAmong k.block numbers p

abbrev pub frame_at : {k : Setting} → {n a : Spot} → {members : List Y.Member} → {leaves : List Y.Leaf} →
    {p : Point} → {numbers : ℕ → ℕ} → Locating k n a members leaves p numbers → frame_of k.block p
frame_at z = point_frame z.among.stands z.among.image

-- ---- service 14

abbrev pub into_code : (k : Setting) → (a : Spot) → Code
into_code k a = into_asked (place_of k.block.environment a) ++ (Plain I.Ecall ∷ [])

abbrev into_regs : (word area words : ℕ) → Base → List (ℕ × ℕ)
into_regs given area words b = (17, 14) ∷ (13, 0) ∷ (12, words) ∷ (11, area) ∷ (10, given) ∷ []

asked_comes :
    {k : Setting} {n a : Spot} {members : List Y.Member} {leaves : List Y.Leaf} {p : Point} {numbers : ℕ → ℕ} {i : ℕ}
    (z : Locating k n a members leaves p numbers) (given c : ℕ) (f : Family) →
    Linked k.block.call.surroundings.links k.block.call.code i (into_asked (place_of k.block.environment a)) →
    ((b : Base) → IsIn k.block.call.surroundings p numbers i b (f b) × (value (f b).machine a0 ≡ given)) →
    Reach k.block.call.code c f (services_of p) (c + size_of (into_asked (place_of k.block.environment a)))
    (services_of p)
    (λ b y. At b (i + size_of (into_asked (place_of k.block.environment a)))
    (Known (point_ground k.block.call.surroundings p (frame_at z)) (services_of p) numbers (λ j. 0)
    (into_regs given (area_place z.given.area) (words_at k.block p)) b) y)
asked_comes {k = k'} {a = a} {p = p} {numbers} {i} z given c f l there =
    let k = k'.block in
    let w = k.call.surroundings in
    let v = services_of p in
    let o = z.among in
    let area = z.given.area in
    let h = frame_at z in
    let g = point_ground w p h in
    let at = frame_under w.parts p.control.layers in
    let place = place_of k.environment a in
    let own = own_code a1 place in
    let words = words_code a2 in
    let last = small a3 0 ∷ small a7 14 ∷ [] in
    let n0 = size_append own (words ++ last) in
    let n1 = size_append words last in
    let base = area_base area o in
    let inside = area.known.inside in
    let high = h.high in
    let room = h.room in
    let l1 = back_of own (words ++ last) l in
    let r1 = own_comes {rs = λ b'. (10, given) ∷ []} h c f a1 place (omega (arith, base, inside)) (λ y u. refl)
    (record { reserved_stay = λ y u. refl; known_stay = λ b y u s. s; set = λ y u. refl })
    (record { reserved_stay = λ y u. refl; known_stay = λ b y u s. s; set = λ y u. refl })
    (record { reserved_stay = λ y u. refl; known_stay = λ b y u s. s; set = λ y u. refl })
    (front_of own (words ++ last) l) (λ b. known_word k h (there b)) in
    let r2 = words_come {g = g} {rs = λ b. (11, at + place) ∷ (10, given) ∷ []} (c + size_of own) (reached r1) a2
    (word_in at 36 h refl (omega arith))
    (λ b m u. own_word w.parts b.at m p.state.activations p.control.layers u.frames)
    (omega (arith, high), omega (arith, room)) (λ y u. refl)
    (record { reserved_stay = λ y u. refl; known_stay = λ b y u s. s; set = λ y u. refl })
    (record { reserved_stay = λ y u. refl; known_stay = λ b y u s. s; set = λ y u. refl })
    (record { reserved_stay = λ y u. refl; known_stay = λ b y u s. s; set = λ y u. refl })
    (front_of words last l1) (reached_holds r1) in
    let r3 = straight (c + size_of own + size_of words) (reached r2) v v
    (λ b y. Known g v numbers (λ j. 0) (into_regs given (area_place area) (words_at k p)) b y) (back_of words last l1)
    (omega arith) (λ b. (reached_holds r2 b).pc)
    (λ b. let t = (reached_holds r2 b).holds in record {
      body = record {
        services = t.body.services;
        registers = t.body.registers;
        bytes = t.body.bytes;
        memory = t.body.memory;
      };
      regs = (
        small_is _ 14 (zero_is t.body) (omega arith),
        (
          small_is _ 0 (zero_is t.body) (omega arith),
          (t.regs.0, (t.regs.1.0 ∙ ap (λ j. j + place) base, (t.regs.1.1.0, tt))),
        ),
      );
    }) in
    reach_moved (omega (arith, n0, n1)) (omega (arith, n0, n1)) (reach_then r1 (reach_then r2 r3))

-- the name waits
pub waits_reach :
    {k : Setting} {n a : Spot} {members : List Y.Member} {leaves : List Y.Leaf} {p : Point} {numbers : ℕ → ℕ} {i : ℕ}
    (z : Locating k n a members leaves p numbers) (u : Option ℕ) (c : ℕ) (f : Family) → IsOffset u →
    Linked k.block.call.surroundings.links k.block.call.code i (into_code k a) →
    ((b : Base) → IsIn k.block.call.surroundings p numbers i b (f b) × (value (f b).machine a0 ≡ offset_word u)) →
    Reach k.block.call.code c f (services_of p) (c + size_of (into_code k a)) (services_of p)
    (λ b y. At b (i + size_of (into_code k a))
    (Known (more_ground k.block.call.surroundings p (IsWaiting (pointer_into z.given.area.known.serial u)
    (words_at k.block p)) (frame_at z)) (services_of p) numbers (λ j. 0) nothing b) y)
waits_reach {k = k'} {a = a} {p = p} {numbers} {i} z u c f fits l there =
    let k = k'.block in
    let w = k.call.surroundings in
    let code = k.call.code in
    let v = services_of p in
    let o = z.among in
    let area = z.given.area in
    let h = frame_at z in
    let small' = l.small' in
    let name = pointer_into area.known.serial u in
    let at = words_at k p in
    let asks = into_asked (place_of k.environment a) in
    let calls = Plain I.Ecall ∷ [] in
    let n0 = size_append asks calls in
    let room = words_room (frame_under w.parts p.control.layers) h in
    let r1 = asked_comes z (offset_word u) c f (front_of asks calls l) there in
    let g = reached r1 in
    let free : IsFree p area.layer area.others = record {
      newest = o.later.layers ∙ area.layers;
      words = z.given.words;
      waits = z.given.waits;
    } in
    let same : frame_under w.parts p.control.layers ≡ area.layer.at =
    ap (λ ls. frame_under w.parts ls) free.newest in
    let final : Base → List ℕ = λ b. with_part (name_bytes name) at (g b).machine.memory in
    let answer : Base → Answer = λ b. Done v (final b) (offset_word u) (area_place area) in
    let calling : Calling w.links code (i + size_of asks) g answer = record {
      linked = back_of asks calls l;
      pc = λ b. (reached_holds r1 b).pc;
      answers = λ b.
          let t = (reached_holds r1 b).holds in
          let m = (g b).machine.memory in
          let regs = (g b).machine.registers in
          called code (g b) v 14 (offset_word u) (area_place area) at 0 (regs 14)
          (λ call' x0 x1 x2 x3 x4. locator_served call' x0 x1 x2 x3) t.body.services t.regs.0 t.regs.1.1.1.1.0
          t.regs.1.1.1.0 t.regs.1.1.0 t.regs.1.0 refl (λ call' y. refl)
          ∙ ap (λ call'. locator_served call' (offset_word u) (area_place area) at 0) (call_is w code p m o.image)
          ∙ pointer_answer (now p m) t.body.memory.storage (area_place area) at area.known.serial u fits
          (names_area area o (omega (arith, small')) b m t.body.memory)
          (is_there p at (laid_out o (omega (arith, small'))) room);
    } in
    let long = name_length name in
    let below = room.1 in
    let r2 = call_done (c + size_of asks) g v v final (λ b. offset_word u) (λ b. area_place area)
    (λ b y. Known (more_ground w p (IsWaiting name at) h) v numbers (λ j. 0) nothing b y) (omega arith) calling
    (λ b.
    let t = (reached_holds r1 b).holds in
    let m = (g b).machine.memory in
    let bytes = t.body.bytes in
    record {
      body = record {
        services = refl;
        registers = t.body.registers;
        bytes = length_with_part (name_bytes name) at m (omega (arith, below, bytes, long)) ∙ bytes;
        memory = (
          subst (λ j. StandsIn w p b (with_part (name_bytes name) (j - 16) m)) (sym same)
              (name_stands w p area.layer area.others name b m o.stands (subst IsFrame same h) free bytes
              t.body.memory),
          name_told name at m (name_fits area.known.serial u area.few fits) (omega (arith, below, bytes)),
        );
      };
      regs = tt;
    }) in
    reach_moved (omega (arith, n0)) (omega (arith, n0)) (reach_then r1 r2)

-- ---- what service 8 answers

named :
    (p : Point) (name : Name) (at : ℕ) (m : List ℕ) → IsLaidOut p → (2 ^ 22 ≤ at) × (at + 16 ≤ memory_size) →
    Tells Pointer (BasicPointer name) at m → name_in (call (now p m)) at ≡ Some name
named p name at m layout room tells =
    ap (λ q. cond q (name_at at m) None) (is_there p at layout room) ∙ name_loaded at name m tells

numbered :
    {k : Setting} {n a : Spot} {members : List Y.Member} {leaves : List Y.Leaf} {p : Point} {numbers : ℕ → ℕ}
    (z : Locating k n a members leaves p numbers) (m : List ℕ) →
    H.IsNumberOf (now p m) z.given.signature (structure_shape members leaves)
numbered {members = members} {leaves} z m =
    record {
      shape_same =
          shapes_remain z.among.later.remains z.given.signature (structure_shape members leaves) z.given.numbered;
      own = let few = z.given.number in grind (arith, few, nat_tests);
    }

found_answer :
    {k : Setting} {n a : Spot} {members : List Y.Member} {leaves : List Y.Leaf} {member : ℕ} {type : Y.LeafType}
    {p : Point} {numbers : ℕ → ℕ} (z : Locating k n a members leaves p numbers) (name : Name) →
    IsMember leaves member type → (s : StructureAt p name members leaves) (at : ℕ) (m : List ℕ) → H.Holds (now p m) →
    IsLaidOut p → (2 ^ 22 ≤ at) × (at + 16 ≤ memory_size) → Tells Pointer (BasicPointer name) at m →
    resolve_served (call (now p m)) at z.given.signature member 0
    ≡ Done (services_of p) m (place_now (now p m) name + member_place leaves member) 0
found_answer {members = members} {leaves} {member} {p = p} z name one s at m stored layout room tells =
    let v = call (now p m) in
    let shape = structure_shape members leaves in
    let g = structure_of members leaves s.extent s.values in
    let i = asked_named (now p m) stored at z.given.signature name shape g (numbered z m)
    (named p name at m layout room tells) s.named in
    let found = i.0.found in
    let answer : Found → Answer = λ f. or_bad (shape_of_number v f.signature)
    (λ s'. resolved v member 0 f (leaves_with f.extent s')) in
    ap (λ q. where_found q (Done (services_of p) m at no_generation_code) answer) i.1
    ∙ ap (λ s'. or_bad s' (λ u. resolved v member 0 found (leaves_with found.extent u))) i.0.shape
    ∙ ap (λ l'. or_bad l' (λ l. or_bad (described v.layout 0 (leaf_words l) v.memory)
    (λ m'. Done v.services m' (found.at + member_place leaves member) 0))) (leaf_got one)
    ∙ ap (λ j. Done (services_of p) m (j + member_place leaves member) 0) i.0.at

none_answer :
    {k : Setting} {n a : Spot} {members : List Y.Member} {leaves : List Y.Leaf} {p : Point} {numbers : ℕ → ℕ}
    (z : Locating k n a members leaves p numbers) (name : Name) (member at : ℕ) (m : List ℕ) → H.Holds (now p m) →
    IsLaidOut p → (2 ^ 22 ≤ at) × (at + 16 ≤ memory_size) → Tells Pointer (BasicPointer name) at m →
    Q.named p.state name (structure_shape members leaves) ≡ None →
    resolve_served (call (now p m)) at z.given.signature member 0 ≡ Done (services_of p) m at no_generation_code
none_answer {members = members} {leaves} {p = p} z name member at m stored layout room tells none =
    let v = call (now p m) in
    let answer : Found → Answer = λ f. or_bad (shape_of_number v f.signature)
    (λ s. resolved v member 0 f (leaves_with f.extent s)) in
    ap (λ q. where_found q (Done (services_of p) m at no_generation_code) answer)
    (asked_unnamed (now p m) stored at z.given.signature name (structure_shape members leaves) (numbered z m)
    (named p name at m layout room tells) none)

-- with mode 0, whatever the other registers
resolve_called :
    (code : List Instr) (y : Whole) (v : Services) (x0 x1 x2 : ℕ) → y.services ≡ v →
    (y.machine.registers 17 ≡ 8) × (y.machine.registers 10 ≡ x0) × (y.machine.registers 11 ≡ x1)
    × (y.machine.registers 12 ≡ x2) × (y.machine.registers 13 ≡ 0) × (y.machine.registers 14 ≡ 0) →
    served code y ≡ resolve_served (call_at code v y.machine.memory) x0 x1 x2 0
unfolding served
resolve_called code y v x0 x1 x2 e r =
    let x = y.machine.registers in
    let m = y.machine.memory in
    let c = call_at code y.services m in
    ap (λ n. U.served n c x) r.0
    ∙ ap (found_served c x) r.5
    ∙ ap (λ u. resolve_served (call_at code u m) (x 10) (x 11) (x 12) (x 13)) e
    ∙ ap (λ u. resolve_served (call_at code v m) u (x 11) (x 12) (x 13)) r.1
    ∙ ap (λ u. resolve_served (call_at code v m) x0 u (x 12) (x 13)) r.2
    ∙ ap (λ u. resolve_served (call_at code v m) x0 x1 u (x 13)) r.3
    ∙ ap (λ u. resolve_served (call_at code v m) x0 x1 x2 u) r.4

-- ---- service 8

abbrev asking_regs : (words signature member : ℕ) → Base → List (ℕ × ℕ)
asking_regs words signature member b =
    (17, 8) ∷ (14, 0) ∷ (13, 0) ∷ (12, member) ∷ (11, signature) ∷ (10, words) ∷ []

asking_comes :
    {k : Setting} {n a : Spot} {members : List Y.Member} {leaves : List Y.Leaf} {p : Point} {numbers : ℕ → ℕ} {i : ℕ}
    (z : Locating k n a members leaves p numbers) (name : Name) (member c : ℕ) (f : Family) → member < 2 ^ 31 →
    Linked k.block.call.surroundings.links k.block.call.code i (found_asked z.given.signature member) →
    ((b : Base) →
    At b i (Known (more_ground k.block.call.surroundings p (IsWaiting name (words_at k.block p)) (frame_at z))
    (services_of p) numbers (λ j. 0) nothing b) (f b)) →
    Reach k.block.call.code c f (services_of p) (c + size_of (found_asked z.given.signature member)) (services_of p)
    (λ b y. At b (i + size_of (found_asked z.given.signature member))
    (Known (more_ground k.block.call.surroundings p (IsWaiting name (words_at k.block p)) (frame_at z))
    (services_of p) numbers (λ j. 0) (asking_regs (words_at k.block p) z.given.signature member) b) y)
asking_comes {k = k'} {p = p} {numbers} {i} z name member c f few l there =
    let k = k'.block in
    let w = k.call.surroundings in
    let v = services_of p in
    let h = frame_at z in
    let signature = z.given.signature in
    let g = more_ground w p (IsWaiting name (words_at k p)) h in
    let at = frame_under w.parts p.control.layers in
    let words = words_code a0 in
    let num = number a1 signature in
    let leaf = number a2 member in
    let three = small a3 0 ∷ small a4 0 ∷ small a7 8 ∷ [] in
    let high = h.high in
    let room = h.room in
    let n0 = size_append words (num ++ (leaf ++ three)) in
    let n1 = size_append num (leaf ++ three) in
    let n2 = size_append leaf three in
    let l1 = back_of words (num ++ (leaf ++ three)) l in
    let l2 = back_of num (leaf ++ three) l1 in
    let r1 = words_come {g = g} {rs = nothing} c f a0 (word_in at 36 h refl (omega arith))
    (λ b m u. own_word w.parts b.at m p.state.activations p.control.layers u.0.frames)
    (omega (arith, high), omega (arith, room)) (λ y u. refl)
    (record { reserved_stay = λ y u. refl; known_stay = λ b y u s. s; set = λ y u. refl })
    (record { reserved_stay = λ y u. refl; known_stay = λ b y u s. s; set = λ y u. refl })
    (record { reserved_stay = λ y u. refl; known_stay = λ b y u s. s; set = λ y u. refl })
    (front_of words (num ++ (leaf ++ three)) l) there in
    let r2 = constant_piece (c + size_of words) (reached r1) a1 (pos signature) (word_fits signature z.given.number)
    (record { reserved_stay = λ y u. refl; known_stay = λ b y u q. q; set = λ y u. refl })
    (front_of num (leaf ++ three) l1) (reached_holds r1) in
    let r3 = constant_piece (c + size_of words + size_of num) (reached r2) a2 (pos member) (word_fits member few)
    (record { reserved_stay = λ y u. refl; known_stay = λ b y u q. q; set = λ y u. refl })
    (front_of leaf three l2) (reached_holds r2) in
    let r4 = straight (c + size_of words + size_of num + size_of leaf) (reached r3) v v
    (λ b y. Known g v numbers (λ j. 0) (asking_regs (words_at k p) signature member) b y)
    (back_of leaf three l2) (omega arith)
    (λ b. (reached_holds r3 b).pc)
    (λ b. let o' = (reached_holds r3 b).holds in record {
      body = record {
        services = o'.body.services;
        registers = o'.body.registers;
        bytes = o'.body.bytes;
        memory = o'.body.memory;
      };
      regs = (
        small_is _ 8 (zero_is o'.body) (omega arith),
        (
          small_is _ 0 (zero_is o'.body) (omega arith),
          (
            small_is _ 0 (zero_is o'.body) (omega arith),
            (
              o'.regs.0 ∙ word_is member few,
              (o'.regs.1.0 ∙ word_is signature z.given.number, (o'.regs.1.1.0, tt)),
            ),
          ),
        ),
      );
    }) in
    reach_moved (omega (arith, n0, n1, n2)) (omega (arith, n0, n1, n2)) (reach_then r1 (reach_then r2 (reach_then r3
    r4)))

address_at : (b : Base) (x n : ℕ) → x ≡ n → n + 4 ≤ memory_size → sum (sum x (word (pos 0))) b.at ≡ b.at + n
address_at b x n e inside = let v = b.valid.1 in omega (arith, e, inside, v)

abbrev pub found_code : {k : Setting} → {n a : Spot} → {members : List Y.Member} → {leaves : List Y.Leaf} →
    {p : Point} → {numbers : ℕ → ℕ} → Locating k n a members leaves p numbers → (member : ℕ) → Code
found_code z member = found_asked z.given.signature member ++ found_called

-- a number that lives there comes into a0
pub number_reaches :
    {k : Setting} {n a : Spot} {members : List Y.Member} {leaves : List Y.Leaf} {member : ℕ} {p : Point}
    {numbers : ℕ → ℕ} {i : ℕ} (z : Locating k n a members leaves p numbers) (name : Name)
    (one : IsMember leaves member (Y.FixedLeaf 31)) (s : StructureAt p name members leaves) (x : _) (c : ℕ)
    (f : Family) → s.values member [] ≡ BasicNumber x →
    Linked k.block.call.surroundings.links k.block.call.code i (found_code z member ++ value_loaded) →
    ((b : Base) →
    At b i (Known (more_ground k.block.call.surroundings p (IsWaiting name (words_at k.block p)) (frame_at z))
    (services_of p) numbers (λ j. 0) nothing b) (f b)) →
    Reach k.block.call.code c f (services_of p) (c + size_of (found_code z member ++ value_loaded)) (services_of p)
    (λ b y. At b (i + size_of (found_code z member ++ value_loaded))
    (Known (point_ground k.block.call.surroundings p (frame_at z)) (services_of p) numbers (λ j. 0)
    (valued (word x)) b) y)
number_reaches {k = k'} {leaves = leaves} {member} {p = p} {numbers} {i} z name one s x c f holds l there =
    let k = k'.block in
    let w = k.call.surroundings in
    let code = k.call.code in
    let v = services_of p in
    let o = z.among in
    let h = frame_at z in
    let small' = l.small' in
    let words = words_at k p in
    let place = member_place leaves member in
    let asks = found_asked z.given.signature member in
    let last = status_tested ++ addressing_code in
    let finds = found_code z member in
    let n0 = size_append finds value_loaded in
    let n1 = size_append asks (Plain I.Ecall ∷ last) in
    let lf = front_of finds value_loaded l in
    let l1 = back_of asks (Plain I.Ecall ∷ last) lf in
    let l2 = rest_of (Plain I.Ecall) last l1 in
    let room = words_room (frame_under w.parts p.control.layers) h in
    let layout = laid_out o (omega (arith, small')) in
    let r1 = asking_comes z name member c f one.few (front_of asks (Plain I.Ecall ∷ last) lf) there in
    let g = reached r1 in
    let at : Base → ℕ = λ b. place_now (now p (g b).machine.memory) name + place in
    let g' = member_ground w p name place at NoMore h in
    let answer : Base → Answer = λ b. Done v (g b).machine.memory (at b) 0 in
    let calling : Calling w.links code (i + size_of asks) g answer = record {
      linked = first_of (Plain I.Ecall) last l1;
      pc = λ b. (reached_holds r1 b).pc;
      answers = λ b.
          let o' = (reached_holds r1 b).holds in
          let m = (g b).machine.memory in
          resolve_called code (g b) v words z.given.signature member o'.body.services (
            o'.regs.0,
            o'.regs.1.1.1.1.1.0,
            o'.regs.1.1.1.1.0,
            o'.regs.1.1.1.0,
            o'.regs.1.1.0,
            o'.regs.1.0,
          )
          ∙ ap (λ call'. resolve_served call' words z.given.signature member 0) (call_is w code p m o.image)
          ∙ found_answer z name one s words m o'.body.memory.0.storage layout room o'.body.memory.1;
    } in
    let facts : (b : Base) → (at b % 4 ≡ 0) × (at b + 4 ≤ memory_size) = λ b.
    let o' = (reached_holds r1 b).holds.body in
    let t = member_told s one (g b).machine.memory o'.memory.0.storage in
    let bytes = o'.bytes in
    let inside = t.inside in
    (t.even, omega (arith, bytes, inside)) in
    let r2 = call_done (c + size_of asks) g v v (λ b. (g b).machine.memory) (λ b. at b) (λ b. 0)
    (λ b y. Known g' v numbers (λ j. 0) (λ b'. (11, 0) ∷ (10, at b') ∷ []) b y) (omega arith) calling
    (λ b. let o' = (reached_holds r1 b).holds in record {
      body = record {
        services = refl;
        registers = o'.body.registers;
        bytes = o'.body.bytes;
        memory = (o'.body.memory.0, refl, tt);
      };
      regs = (refl, (refl, tt));
    }) in
    let r3 = skip_taken (c + size_of asks + 1) (reached r2) Test.Equal a1 zero_register
    (JumpTo RaiseError ∷ []) (front_of status_tested addressing_code l2) (reached_holds r2)
    (λ b. let o' = (reached_holds r2 b).holds in
    ap (λ u. u == (reached r2 b).machine.registers 0) o'.regs.0 ∙ ap (λ u. 0 == u) (zero_is o'.body)) in
    let r4 = straight (c + size_of asks + 1 + 3) (reached r3) v v
    (λ b y. Known g' v numbers (λ j. 0) (found_regs at) b y) (back_of status_tested addressing_code l2) (omega arith)
    (λ b. (reached_holds r3 b).pc)
    (λ b. let o' = (reached_holds r3 b).holds in
    let inside = (facts b).1 in (
      refl,
      record {
        body = record {
          services = o'.body.services;
          registers = o'.body.registers;
          bytes = o'.body.bytes;
          memory = o'.body.memory;
        };
        regs = (address_at b ((reached r3 b).machine.registers 10) (at b) o'.regs.1.0 inside, tt);
      },
    )) in
    let found = reach_moved {c'' = c + size_of finds} {i'' = i + size_of finds} (omega (arith, n1)) (omega (arith, n1))
    (reach_then r1 (reach_then r2 (reach_then r3 r4))) in
    let r5 = straight (c + size_of finds) (reached found) v v
    (λ b y. Known (point_ground w p h) v numbers (λ j. 0) (valued (word x)) b y) (back_of finds value_loaded l)
    (omega arith) (λ b. (reached_holds found b).pc)
    (λ b.
    let o' = (reached_holds found b).holds in
    let y = (reached found b).machine.registers in
    let m = (reached found b).machine.memory in
    let here = place_now (now p m) name + place in
    let t = member_told s one m o'.body.memory.0.storage in
    let loads : load 4 m here ≡ word x =
    word_loaded 31 here x m refl (subst (λ u. Tells (Fixed 31) u here m) holds t.tells) in (
      record {
        offset = at b;
        is = there_at b (y 28) (at b) o'.regs.0 (facts b).1;
        aligned = (facts b).0;
        inside = (facts b).1;
      },
      record {
        body = record {
          services = o'.body.services;
          registers = o'.body.registers;
          bytes = o'.body.bytes;
          memory = o'.body.memory.0;
        };
        regs = (ap (load 4 m) (sym o'.body.memory.1) ∙ loads, tt);
      },
    )) in
    reach_moved (omega (arith, n0)) (omega (arith, n0)) (reach_then found r5)

-- nothing lives there
pub none_ends :
    {X : Type 0} {k : Setting} {n a : Spot} {members : List Y.Member} {leaves : List Y.Leaf} {p : Point}
    {numbers : ℕ → ℕ} {i : ℕ} {aims : Aims X} (closed : Closed k.block.call.code aims)
    (z : Locating k n a members leaves p numbers) (around : Around) (name : Name) (member c : ℕ) (f : Family) →
    member < 2 ^ 31 → Q.named p.state name (structure_shape members leaves) ≡ None → p.control.line ≡ around.line →
    c + size_of (found_code z member) + 18 < cost k.block.call.code →
    Linked k.block.call.surroundings.links k.block.call.code i (found_code z member) →
    ((b : Base) →
    At b i (Known (more_ground k.block.call.surroundings p (IsWaiting name (words_at k.block p)) (frame_at z))
    (services_of p) numbers (λ j. 0) nothing b) (f b)) →
    Comes k.block.call.code c f (services_of p) aims (R.error {R = X} around 101 k.block.call.surroundings.acts p.state)
none_ends {k = k'} {p = p} {numbers} {i} closed z around name member c f few none line paid l there =
    let k = k'.block in
    let w = k.call.surroundings in
    let code = k.call.code in
    let v = services_of p in
    let o = z.among in
    let h = frame_at z in
    let small' = l.small' in
    let words = words_at k p in
    let asks = found_asked z.given.signature member in
    let last = status_tested ++ addressing_code in
    let n1 = size_append asks (Plain I.Ecall ∷ last) in
    let l1 = back_of asks (Plain I.Ecall ∷ last) l in
    let l2 = rest_of (Plain I.Ecall) last l1 in
    let room = words_room (frame_under w.parts p.control.layers) h in
    let layout = laid_out o (omega (arith, small')) in
    let r1 = asking_comes z name member c f few (front_of asks (Plain I.Ecall ∷ last) l) there in
    let g = reached r1 in
    let answer : Base → Answer = λ b. Done v (g b).machine.memory words 101 in
    let calling : Calling w.links code (i + size_of asks) g answer = record {
      linked = first_of (Plain I.Ecall) last l1;
      pc = λ b. (reached_holds r1 b).pc;
      answers = λ b.
          let o' = (reached_holds r1 b).holds in
          let m = (g b).machine.memory in
          resolve_called code (g b) v words z.given.signature member o'.body.services (
            o'.regs.0,
            o'.regs.1.1.1.1.1.0,
            o'.regs.1.1.1.1.0,
            o'.regs.1.1.1.0,
            o'.regs.1.1.0,
            o'.regs.1.0,
          )
          ∙ ap (λ call'. resolve_served call' words z.given.signature member 0) (call_is w code p m o.image)
          ∙ none_answer z name member words m o'.body.memory.0.storage layout room o'.body.memory.1 none;
    } in
    let r2 = call_done (c + size_of asks) g v v (λ b. (g b).machine.memory) (λ b. words) (λ b. 101)
    (λ b y. Known (point_ground w p h) v numbers (λ j. 0) (coded 101) b y) (omega arith) calling
    (λ b. let o' = (reached_holds r1 b).holds in record {
      body = record {
        services = refl;
        registers = o'.body.registers;
        bytes = o'.body.bytes;
        memory = o'.body.memory.0;
      };
      regs = (refl, tt);
    }) in
    onward closed (reach_then r1 r2) (λ f' at'.
    status_ends closed z.given.ends around o h 101 (c + size_of asks + 1) f' (omega arith, refl) line
    (omega (arith, paid, n1)) (front_of status_tested addressing_code l2) at')
