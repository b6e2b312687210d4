-- An assignment to an OFFSET member of what a pointer variable points to: its act, its value, and the store where
-- service 8 finds it.
use Rattle.std.proofs.Common.{◌≡◌, ℕ, ◌+◌, ◌*◌, ◌%◌, ◌<◌, ◌≤◌, List, [], ◌∷◌, ◌++◌, Option, None, Some, true, refl}
use Rattle.std.proofs.Common.{length, sym, ap, ◌∙◌, subst, arith}
use Rattle.std.specs.Prelude.{pos, slice_get, unwrap_or, ◌==◌}
use Rattle.rv_meaning.specs.Machine.{memory_size, value}
use Rattle.rv_meaning.specs.Memory.{store}
use Rattle.rv_meaning.proofs.MemoryLaws.{length-store}
use Rattle.pli_typing.specs.Signatures.{Offset}
use Rattle.pli_typing.specs.TypedTree as Y
use Rattle.pli_meaning.specs.BasicValues.{BasicOffset, BasicValue, Name}
use Rattle.pli_meaning.specs.Contents.{Generation}
use Rattle.pli_meaning.specs.Control.{Label, Meaning, act, flow_on, give, stored, ◌>>=◌, ◌>>◌}
use Rattle.pli_meaning.specs.DeclaredShapes.{declared_variable}
use Rattle.pli_meaning.specs.Evaluating as V
use Rattle.pli_meaning.specs.Executing as M
use Rattle.pli_meaning.specs.Placing as P
use Rattle.pli_meaning.specs.Raising as R
use Rattle.pli_meaning.specs.Raising.{at_line}
use Rattle.pli_meaning.specs.StorageState as Q
use Rattle.pli_meaning.specs.StorageState.{State}
use Rattle.pli_meaning.specs.World.{World, counted}
use Rattle.area_keeper.specs.KeptAreas.{with_part}
use Rattle.pli_serving.specs.Bytes.{offset_word}
use Rattle.pli_serving.specs.ServiceState.{Services}
use Rattle.pli_serving.specs.Stored.{kept_bytes}
use Rattle.pli_coding.specs.Allocating.{act_code}
use Rattle.pli_coding.specs.Assembly.{Code, size_of}
use Rattle.pli_coding.specs.Environments.{Environment, fetch, no_declaration, none_taken, save, with_number}
use Rattle.pli_coding.specs.Expressions.{offset_code, reference_code}
use Rattle.pli_coding.specs.Instructions.{store_word}
use Rattle.pli_coding.specs.Locating as C
use Rattle.pli_coding.specs.Locating.{table_number}
use Rattle.pli_coding.specs.Registers.{a0, u3}
use Rattle.pli_coding.specs.Storing.{word_stored}
use Rattle.storage_relation.specs.Keeping.{StoresOffset}
use Rattle.storage_relation.specs.Served.{place_now}
use Rattle.storage_relation.specs.Telling.{IsOffset}
use Rattle.storage_relation.proofs.Values.{number_length, store_is}
use Rattle.activation_relation.specs.Layers.{Point, now, services_of}
use Rattle.activation_relation.proofs.Remaining.{shapes_remain}
use Rattle.run_steps.specs.Bodies.{Known}
use Rattle.run_steps.specs.Engine.{Base}
use Rattle.run_steps.specs.Items.{At, Linked}
use Rattle.run_steps.proofs.Items.{straight}
use Rattle.run_steps.proofs.Jumps.{back_of, front_of}
use Rattle.run_steps.proofs.Linking.{size_append}
use Rattle.run_steps.specs.Owing.{owing}
use Rattle.run_steps.proofs.Owing.{comes_owing, done_owing, owing_closed}
use Rattle.run_steps.specs.Reach.{Comes, Family, Reach, before, cost, reached}
use Rattle.run_steps.proofs.Reach.{before_closed, comes_on, onward, reach_map, reach_then, reached_holds}
use Rattle.run_steps.proofs.Reaching.{reach_moved}
use Rattle.run_steps.specs.Temporaries.{nothing}
use Rattle.run_steps.proofs.Temporaries.{fetch_piece}
use Rattle.block_runs.specs.Machines.{IsIn, acted}
use Rattle.block_runs.proofs.CallStatements.{comes_map}
use Rattle.block_runs.proofs.PointActs.{act_comes}
use Rattle.block_runs.proofs.PointGrounds.{StandsIn, in_known, point_frame, point_ground}
use Rattle.program_runs.specs.Statements.{Block, Does, IsAmong, size_in, statement_aims}
use Rattle.program_runs.proofs.JumpsOut.{jumps_repaid, jumps_since}
use Rattle.program_runs.proofs.Statements.{acted_among, goes_here, statement_closed}
use Rattle.expression_runs.specs.Assignments.{setting_of}
use Rattle.expression_runs.specs.Values.{HasRegisters, HasWord, Setting, Stretch, behind}
use Rattle.expression_runs.specs.Variables.{Spot, variable_of}
use Rattle.expression_runs.proofs.Saving.{held_after, held_among, held_is_given, saved_reach}
use Rattle.expression_runs.proofs.VariablePoints.{first_base}
use Rattle.expression_runs.proofs.Words.{frame_of, known_word}
use Rattle.area_runs.specs.Based.{based_of, pointer_declared}
use Rattle.area_runs.proofs.BasedCode.{name_at_place}
use Rattle.area_runs.proofs.BasedReads.{there_at}
use Rattle.area_runs.proofs.ChangedPoints.{generation_world}
use Rattle.locator_runs.proofs.PointerPoints.{PointerAt, pointer_in}
use Rattle.member_runs.specs.Members.{IsMember, IsStructure, member_of, member_part, structure_declared}
use Rattle.member_runs.specs.Members.{structure_shape}
use Rattle.member_runs.proofs.MemberAssignments.{assigned_found, no_words}
use Rattle.member_runs.proofs.MemberCode.{found_code, found_coded, leaf_of}
use Rattle.member_runs.proofs.MemberMeaning.{behind_found, part_missing, through_is}
use Rattle.member_runs.proofs.MemberPoints.{StructureAt, member_place, structure_at}
use Rattle.member_runs.proofs.MemberPuts.{behind_put, designated_at, place_low, put_among, put_services, put_stands}
use Rattle.member_runs.proofs.MemberReads.{NoMore, found_regs, known_more, living_found, member_ground}
use Rattle.member_runs.proofs.MemberReads.{missing_ends}
use Rattle.offset_runs.specs.OffsetAssignments.{IsKeeping, keeping}
use Rattle.offset_runs.specs.Offsets.{Gives, offset_aims}
use Rattle.offset_runs.proofs.OffsetValues.{word_small}

-- ---- the code of the store

abbrev value_stored : Code
value_stored = store_word u3 a0 (pos 0)

abbrev put_code : (place signature member : ℕ) → Code
put_code place signature member =
    save a0 none_taken ++ (found_code place signature member ++ (fetch a0 none_taken ++ value_stored))

-- with the kind of the leaf
abbrev stored_by : Environment → (x n : Spot) → (member : ℕ) → Option Y.Leaf → Code
stored_by e x n member o =
    save a0 none_taken
    ++ (reference_code e (with_number none_taken) (member_of x n member)
    ++ (fetch a0 none_taken ++ C.stored (leaf_of o).type a0 (record { register = u3; displacement = pos 0 })))

put_coded :
    (e : Environment) (x n : Spot) (members : List Y.Member) (leaves : List Y.Leaf) (member signature : ℕ)
    (area : Option Y.Variable) →
    IsMember leaves member (Y.OffsetLeaf area) →
    declared_variable e.program (variable_of x) ≡ Some pointer_declared →
    declared_variable e.program (based_of n) ≡ Some (structure_declared members leaves) →
    table_number e (structure_declared members leaves) ≡ signature → (x.level == e.level) ≡ true →
    word_stored e none_taken (member_of x n member) ≡ put_code (name_at_place e x) signature member
put_coded e x n members leaves member signature area one pointer declared table own =
    ap (λ o. stored_by e x n member (slice_get (unwrap_or o no_declaration).leaves member)) declared
    ∙ ap (λ o. stored_by e x n member o) one.there
    ∙ ap (λ u. save a0 none_taken ++ (u ++ (fetch a0 none_taken ++ value_stored)))
    (found_coded e (with_number none_taken) x n members leaves member signature _ pointer declared one.there refl table
    own)

-- ---- the store

-- a word in a0 goes where the member stands
value_goes :
    (k : Block) {members : List Y.Member} {leaves : List Y.Leaf} {member : ℕ} {area : Option Y.Variable}
    {numbers : ℕ → ℕ} {p : Point} {i : ℕ} {name : Name} (o : IsAmong k numbers p) (s : StructureAt p name members
    leaves)
    (one : IsMember leaves member (Y.OffsetLeaf area)) (h : frame_of k p) (at : Base → ℕ) (c : ℕ) (f : Family) (z :
    Option ℕ) →
    IsOffset z → 4 * length k.call.code ≤ p.places.low →
    ((b : Base) → (at b % 4 ≡ 0) × (at b + 4 ≤ memory_size)) →
    Linked k.call.surroundings.links k.call.code i value_stored →
    ((b : Base) →
    At b i (Known (member_ground k.call.surroundings p name (member_place leaves member) at NoMore h) (services_of p)
    numbers (λ j. 0) (λ b'. (10, offset_word z) ∷ found_regs at b') b) (f b)) →
    Reach k.call.code c f (services_of p) (c + size_of value_stored) (services_of p)
    (λ b y. At b (i + size_of value_stored)
    (Known (point_ground k.call.surroundings (behind_put s member (BasicOffset z)) h) (services_of p) numbers (λ j. 0)
    nothing b) y)
value_goes k {leaves = leaves} {member} {numbers = numbers} {p} {i} {name} o s one h at c f z fits low facts linked
    there =
    let w = k.call.surroundings in
    let v = services_of p in
    let q = behind_put s member (BasicOffset z) in
    straight c f v v (λ b y. Known (point_ground w q h) v numbers (λ j. 0) nothing b y) linked (omega arith)
    (λ b. (there b).pc)
    (λ b.
    let o' = (there b).holds in
    let y = (f b).machine.registers in
    let m = (f b).machine.memory in
    let place = place_now (now p m) name + member_place leaves member in
    let here = o'.body.memory.1 in
    let inside = (facts b).1 in
    let bytes = o'.body.bytes in
    let long = number_length 4 (offset_word z) in
    let stands = put_stands w s one (BasicOffset z) b m (StoresOffset z fits) (omega (arith, long))
    o.stands o'.body.memory.0 in
    let behind' = place_low s m o'.body.memory.0.storage in
    let new : with_part (kept_bytes Offset (BasicOffset z)) place m ≡ store 4 m (at b) (y 10) =
    store_is 4 (offset_word z) place m (omega (arith, here, inside, bytes))
    ∙ ap (λ j. store 4 m j (offset_word z)) here ∙ ap (store 4 m (at b)) (sym o'.regs.0) in (
      record {
        offset = at b;
        is = there_at b (y 28) (at b) o'.regs.1.0 (facts b).1;
        aligned = (facts b).0;
        inside = (facts b).1;
      },
      omega (arith, here, behind', low),
      record {
        body = record {
          services = o'.body.services;
          registers = o'.body.registers;
          bytes = length-store 4 m (at b) (y 10) ∙ o'.body.bytes;
          memory = subst (StandsIn w q b) new stands;
        };
        regs = tt;
      },
    ))

-- the value waits while it is found: from there to the point behind
put_reaches :
    (k' : Setting) (x n : Spot) (members : List Y.Member) (leaves : List Y.Leaf) (member : ℕ)
    (area : Option Y.Variable)
    (is : IsStructure k'.block x n members leaves) (one : IsMember leaves member (Y.OffsetLeaf area)) {numbers : ℕ → ℕ}
    {p : Point} {index : ℕ} → k'.words ≡ 0 → HasRegisters k' 0 1 → IsAmong k'.block numbers p → (c : ℕ) (f : Family)
    (z : Option ℕ) → IsOffset z → (a : PointerAt k'.block x is.pointer p)
    (s : StructureAt p a.points.name members leaves) →
    Linked k'.block.call.surroundings.links k'.block.call.code index
    (put_code (name_at_place k'.block.environment x) is.signature member) →
    ((b : Base) → IsIn k'.block.call.surroundings p numbers index b (f b) × (value (f b).machine a0 ≡ offset_word z)) →
    Reach k'.block.call.code c f (services_of p)
    (c + size_of (put_code (name_at_place k'.block.environment x) is.signature member))
    (services_of (behind_put s member (BasicOffset z)))
    (λ b y. IsIn k'.block.call.surroundings (behind_put s member (BasicOffset z)) (held_after numbers 0 (offset_word z))
    (index + size_of (put_code (name_at_place k'.block.environment x) is.signature member)) b y)
put_reaches k' x n members leaves member area is one {numbers} {p} {index} none registers o c f z fits a s l there =
    let k = k'.block in
    let w = k.call.surroundings in
    let h = point_frame o.stands o.image in
    let q = behind_put s member (BasicOffset z) in
    let small' = word_small z fits in
    let o' = held_among k' 0 1 (offset_word z) registers (omega arith) small' o in
    let finds = found_code (name_at_place k.environment x) is.signature member in
    let puts = put_code (name_at_place k.environment x) is.signature member in
    let saves = save a0 none_taken in
    let back = fetch a0 none_taken in
    let l1 = back_of saves (finds ++ (back ++ value_stored)) l in
    let l2 = back_of finds (back ++ value_stored) l1 in
    let n1 = size_append finds (back ++ value_stored) in
    let same = o.later.remains.low in
    let low' = is.low in
    let low : 4 * length k.call.code ≤ p.places.low = omega (arith, same, low') in
    let r1 = subst (λ j. (Linked w.links k.call.code index (save a0 (record { registers = 0; words = j }))) →
    Reach k.call.code c f (services_of p) (c + size_of (save a0 (record { registers = 0; words = j }))) (services_of p)
    (λ b y. At b (index + size_of (save a0 (record { registers = 0; words = j })))
    (Known (point_ground w p h) (services_of p) (held_after numbers 0 (offset_word z)) (λ i. 0) nothing b) y)) none
    (λ l'. saved_reach k' 0 0 h registers c f (offset_word z) small' l' (λ b. known_word k h (there b)))
    (front_of saves (finds ++ (back ++ value_stored)) l) in
    let found = living_found {numbers = held_after numbers 0 (offset_word z)} NoMore is one o' a s h (c + size_of saves)
    (reached r1)
    (omega arith) (front_of finds (back ++ value_stored) l1)
    (known_more k h (reached r1) (λ b. in_known h o.image.parts (reached_holds r1 b))) in
    let r2 = found.reach in
    let r3 = fetch_piece (no_words w p a.points.name (member_place leaves member) found.at NoMore h)
    (c + size_of saves + size_of finds) (reached r2) a0
    none_taken (offset_word z) (λ left. absurd (cc left)) small' (held_is_given numbers 0 (offset_word z))
    (record { reserved_stay = λ y u. refl; known_stay = λ b y u t. t; set = λ y u. refl })
    (record { reserved_stay = λ y u. refl; known_stay = λ b y u t. t; set = λ y u. refl })
    (front_of back value_stored l2) (reached_holds r2) in
    let r4 = value_goes k o' s one h found.at (c + size_of saves + size_of finds + size_of back) (reached r3) z fits
    low (λ b. (found.even b, found.inside b)) (back_of back value_stored l2) (reached_holds r3) in
    let all = reach_moved {c'' = c + size_of puts} {i'' = index + size_of puts}
    (omega (arith, n1)) (omega (arith, n1)) (reach_then r1 (reach_then r2 (reach_then r3 r4))) in
    subst (λ v. Reach k.call.code c f (services_of p) (c + size_of puts) v
    (λ b y. IsIn w q (held_after numbers 0 (offset_word z)) (index + size_of puts) b y))
    (sym (put_services s member (BasicOffset z)))
    (reach_map _ all (λ b y t.
    in_known {t = λ j. 0} {rs = nothing} h o.image.parts
    (record {
      pc = t.pc;
      holds = record {
        body = record {
          services = t.holds.body.services ∙ sym (put_services s member (BasicOffset z));
          registers = t.holds.body.registers;
          bytes = t.holds.body.bytes;
          memory = t.holds.body.memory;
        };
        regs = tt;
      };
    })))

-- ---- what it means

abbrev put_in : Block → (x n : Spot) → (member line : ℕ) → BasicValue → Meaning (Unit {0})
put_in k x n member line v = M.assigned (at_line k.around line) (member_of x n member) v

-- ---- the statement

-- by what lives there
goes_by :
    (k : Block) (labels : List Label) (x n : Spot) (members : List Y.Member) (leaves : List Y.Leaf) (member : ℕ)
    (area : Option Y.Variable) (source : Y.Offset) (line index left' need most : ℕ)
    (h : IsKeeping k labels x n members leaves member area source line index need most) (acts wanted debt i : ℕ)
    (p : Point) (numbers : ℕ → ℕ) (o : IsAmong k numbers p) (c j : ℕ) (f : Family) (z : Option ℕ) →
    IsOffset z → acts ≤ p.state.world.acts → p.control.line ≡ line →
    c + size_of (put_code (name_at_place k.environment x) h.structure.signature member) ≤ wanted + debt →
    c + size_of (put_code (name_at_place k.environment x) h.structure.signature member) + 18 < cost k.call.code →
    j + size_of (put_code (name_at_place k.environment x) h.structure.signature member) ≡ i →
    Linked k.call.surroundings.links k.call.code j
    (put_code (name_at_place k.environment x) h.structure.signature member) →
    ((b : Base) → IsIn k.call.surroundings p numbers j b (f b) × (value (f b).machine a0 ≡ offset_word z)) →
    (a : PointerAt k x h.structure.pointer p) (q : Option Generation) →
    Q.named p.state a.points.name (structure_shape members leaves) ≡ q →
    Comes k.call.code c f (services_of p) (owing k.call.code debt (statement_aims k labels acts i wanted left'))
    (flow_on k.call.surroundings.acts
    (V.part_designated (at_line k.around line) a.points.name (structure_shape members leaves) (member_part member) []
    k.call.surroundings.acts p.state)
    (λ d. P.element_stored d (BasicOffset z)))
goes_by k labels x n members leaves member area source line index left' need most h acts wanted debt i p numbers o c
    j f z
    fits since at_line' paid afford end l there a None none =
    let w = k.call.surroundings in
    let code = k.call.code in
    let is = h.structure in
    let around' = at_line k.around line in
    let setting = setting_of k labels line most in
    let owed = owing code debt (statement_aims k labels acts i wanted left') in
    let next' : V.Designated → Meaning (Unit {0}) = λ d. P.element_stored d (BasicOffset z) in
    let rest = behind_found around' members leaves member a.points.name in
    let designated = V.part_designated around' a.points.name (structure_shape members leaves) (member_part member) []
    w.acts p.state in
    let closed = before_closed w.acts rest (before_closed w.acts next' (owing_closed code debt
    (statement_aims k labels acts i wanted left'))) in
    let small' = word_small z fits in
    let some = h.some in
    let o' = held_among setting {numbers = numbers} 0 1 (offset_word z) (some, h.held) (omega arith) small' o in
    let frame = point_frame o.stands o.image in
    let finds = found_code (name_at_place k.environment x) is.signature member in
    let saves = save a0 none_taken in
    let back = fetch a0 none_taken ++ value_stored in
    let n1 = size_append finds back in
    let r1 = saved_reach setting 0 0 frame (some, h.held) c f (offset_word z) small' (front_of saves (finds ++ back) l)
    (λ b. known_word k frame (there b)) in
    comes_on w.acts designated next'
    (subst (λ flow. Comes code c f (services_of p) (before code owed w.acts next') flow)
    (sym (part_missing around' p.state a.points.name members leaves member w.acts none))
    (comes_on w.acts (R.error {R = Generation} around' 101 w.acts p.state) rest
    (onward closed r1 (λ g at.
    missing_ends {k = setting} {numbers = held_after numbers 0 (offset_word z)} closed is member h.own.few h.ends
    around'
    o' a frame (c + size_of saves) g none at_line' (omega (arith, afford, n1))
    (front_of finds back (back_of saves (finds ++ back) l)) (λ b. in_known frame o.image.parts (at b))))))
goes_by k labels x n members leaves member area source line index left' need most h acts wanted debt i p numbers o c
    j f z
    fits since at_line' paid afford end l there a (Some g) some' =
    let w = k.call.surroundings in
    let code = k.call.code in
    let is = h.structure in
    let around' = at_line k.around line in
    let setting = setting_of k labels line most in
    let aims = statement_aims k labels acts i wanted left' in
    let some = h.some in
    let small' = word_small z fits in
    let o' = held_among setting {numbers = numbers} 0 1 (offset_word z) (some, h.held) (omega arith) small' o in
    let s = structure_at p is.signature a.points.name members leaves g (f first_base).machine.memory
    (there first_base).0.at.storage is.plain
    (shapes_remain o.later.remains is.signature (structure_shape members leaves) is.numbered) some' in
    let r = put_reaches setting x n members leaves member area is h.own refl (some, h.held) o c f z fits a s l there in
    let q = behind_put s member (BasicOffset z) in
    let stays = generation_world a.points.name (P.with_element (designated_at s member) (BasicOffset z)) p.state in
    let more : acts ≤ q.state.world.acts = subst (λ (u : World). acts ≤ u.acts) (sym stays) since in
    subst (λ flow. Comes code c f (services_of p) (owing code debt aims) flow)
    (sym (assigned_found around' s w.acts (BasicOffset z) h.own))
    (record {
      to = λ early. done_owing (statement_closed k labels acts i wanted left') debt wanted paid r tt q.state
          (λ g' at'. goes_here acts wanted g' more (put_among s member (BasicOffset z) o')
          (λ b. subst (λ u. IsIn w q (held_after numbers 0 (offset_word z)) u b (g' b)) end (at' b)));
    })

stored_goes :
    (k : Block) (labels : List Label) (x n : Spot) (members : List Y.Member) (leaves : List Y.Leaf) (member : ℕ)
    (area : Option Y.Variable) (source : Y.Offset) (line index left' need most : ℕ)
    (h : IsKeeping k labels x n members leaves member area source line index need most) (acts wanted debt i : ℕ)
    (c' : ℕ) (f' : Family) (v' : Services) (z : Option ℕ) (s : State) (y : Stretch) → acts ≤ y.acts → y.line ≡ line →
    IsOffset z → HasWord k y (offset_word z) c' f' v' s →
    y.wanted + size_of (put_code (name_at_place k.environment x) h.structure.signature member) ≤ wanted + debt →
    y.wanted + size_of (put_code (name_at_place k.environment x) h.structure.signature member) + 18
    < cost k.call.code →
    y.index + size_of (put_code (name_at_place k.environment x) h.structure.signature member) ≡ i →
    Linked k.call.surroundings.links k.call.code y.index
    (put_code (name_at_place k.environment x) h.structure.signature member) →
    Comes k.call.code c' f' v' (owing k.call.code debt (statement_aims k labels acts i wanted left'))
    (put_in k x n member line (BasicOffset z) k.call.surroundings.acts s)
unfolding M.assigned ◌>>=◌
stored_goes k labels x n members leaves member area source line index left' need most h acts wanted debt i c' f' v'
    z s y
    since same fits q paid afford end l =
    let w = k.call.surroundings in
    let code = k.call.code in
    let aims = statement_aims k labels acts i wanted left' in
    let p = q.point in
    let more = q.since in
    let around' = at_line k.around line in
    subst (λ u. Comes code c' f' v' (owing code debt aims) (put_in k x n member line (BasicOffset z) w.acts u))
    (sym q.state)
    (onward (owing_closed code debt aims) q.reach
    (λ g at.
    let a = pointer_in x h.structure.pointer q.among g (λ b. (at b).0) in
    subst (λ flow. Comes code y.wanted g (services_of p) (owing code debt aims) flow)
    (sym (ap (λ flow. flow_on w.acts flow (λ d. P.element_stored d (BasicOffset z)))
    (through_is around' n members leaves member w.acts a.points h.structure.meant)))
    (goes_by k labels x n members leaves member area source line index left' need most h acts wanted debt i p q.numbers
    q.among y.wanted y.index g z fits (omega (arith, since, more)) (q.line ∙ same) paid afford end l at a
    (Q.named p.state a.points.name (structure_shape members leaves)) refl)))

pub keep_does :
    (k : Block) (labels : List Label) (x n : Spot) (members : List Y.Member) (leaves : List Y.Leaf) (member : ℕ)
    (area : Option Y.Variable) (source : Y.Offset) (line index left' need most : ℕ) →
    IsKeeping k labels x n members leaves member area source line index need most →
    Gives (setting_of k labels line most) need source → Does k labels (keeping x n member source line) index left'
unfolding M.statement V.stored_value ◌>>=◌ ◌>>◌ give
keep_does k labels x n members leaves member area source line index left' need most h ev p numbers c wanted f o
    paid there =
    let w = k.call.surroundings in
    let code = k.call.code in
    let e = k.environment in
    let is = h.structure in
    let stmt = keeping x n member source line in
    let around' = at_line k.around line in
    let one = act_code line in
    let value' = offset_code e none_taken source in
    let store' = word_stored e none_taken (member_of x n member) in
    let coded = put_coded e x n members leaves member is.signature area h.own is.pointer.known.declared is.declared
    is.table is.pointer.own in
    let n0 = size_append one (value' ++ store') in
    let n1 = size_append value' store' in
    let n2 = ap (λ u. size_of u) coded in
    let l1 = back_of one (value' ++ store') h.statement in
    let ls = subst (Linked w.links code (index + size_of one + size_of value')) coded (back_of value' store' l1) in
    let debt = size_of value' + size_of store' in
    let acts = p.state.world.acts in
    let aims = statement_aims k labels acts (index + size_in k stmt) wanted left' in
    let owed = owing code debt aims in
    let closed = owing_closed code debt aims in
    let source' = V.stored_value around' (Y.StoredOffset source) in
    let put' : BasicValue → Meaning (Unit {0}) = λ v. put_in k x n member line v in
    let kept' : Option ℕ → Meaning BasicValue = λ u. give (BasicOffset u) in
    let next' : Unit {0} → Meaning (Unit {0}) = λ u. source' >>= put' in
    let all = h.paid in
    let most' = h.ends.most in
    comes_owing debt (M.statement k.around stmt w.acts p.state)
    (comes_on w.acts (act counted w.acts p.state) next'
    (act_comes (before_closed w.acts next' closed) line (c + debt) 0 f (o.stands, o.image)
    (h.act.line_fits, h.act.acts, omega (arith, paid, n0, n1)) (front_of one (value' ++ store') h.statement) there
    (λ g less at.
    let p' = acted line p in
    let o' = acted_among line o less in
    let flow = V.offset around' source w.acts p'.state in
    let y = behind p' numbers 0 0 (index + size_of one) value' in
    comes_on w.acts (source' w.acts p'.state) put'
    (comes_on w.acts flow kept'
    (comes_map (offset_aims k labels y) (before code (before code owed w.acts put') w.acts kept') refl flow
    (λ c' f' v' z s q.
    record {
      to = λ early.
          stored_goes k labels x n members leaves member area source line index left' need most h acts wanted debt
          (index + size_in k stmt) c' f' v' z s y (omega arith) refl q.0 q.1 (omega (arith, n2))
          (omega (arith, all, most', n0, n1, n2)) (omega (arith, n0, n1, n2)) ls;
    })
    (λ c' f' v' height label s q.
    λ i0 f0 v0 from. jumps_repaid debt from (jumps_since (omega arith) q))
    (λ c' f' v' r s q. absurd q)
    (ev p' numbers 0 0 (index + size_of one) g o' refl (let room = h.registers in omega (arith, room), h.held)
    (front_of value' store' l1) (omega (arith, all, n0, n1)) at))))))
