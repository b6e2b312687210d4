-- An OFFSET member of what a pointer variable points to is found by service 8, and read; where nothing lives there, the
-- run ends.
use Rattle.std.proofs.Common.{◌≡◌, ℕ, ◌+◌, ◌%◌, ◌≤◌, List, [], ◌++◌, Option, None, Some}
use Rattle.std.proofs.Common.{refl, sym, ap, ◌∙◌, subst, arith}
use Rattle.std.specs.Prelude.{pos, slice_get, unwrap_or, ◌==◌, true}
use Rattle.rv_meaning.specs.Machine.{memory_size}
use Rattle.rv_meaning.specs.Memory.{load}
use Rattle.pli_typing.specs.Signatures.{LeafKind, Offset}
use Rattle.pli_typing.specs.TypedTree as Y
use Rattle.pli_meaning.specs.BasicValues.{BasicOffset, Name}
use Rattle.pli_meaning.specs.Contents.{Generation, offset_in, seen}
use Rattle.pli_meaning.specs.Control.{Meaning, Normal, give, ◌>>=◌}
use Rattle.pli_meaning.specs.DeclaredShapes.{declared_variable}
use Rattle.pli_meaning.specs.Evaluating as V
use Rattle.pli_meaning.specs.Raising as R
use Rattle.pli_meaning.specs.StorageState as Q
use Rattle.pli_serving.specs.Bytes.{offset_word}
use Rattle.pli_coding.specs.Assembly.{size_of}
use Rattle.pli_coding.specs.Environments.{Environment, Taken, no_declaration}
use Rattle.pli_coding.specs.Expressions.{offset_code, reference_code}
use Rattle.pli_coding.specs.Locating.{loaded, table_number}
use Rattle.pli_coding.specs.Registers.{a0, u3}
use Rattle.storage_relation.specs.Served.{place_now}
use Rattle.storage_relation.specs.Telling.{IsOf, Tells}
use Rattle.storage_relation.proofs.Values.{offset_loaded}
use Rattle.activation_relation.specs.Layers.{Point, now, services_of}
use Rattle.activation_relation.proofs.Remaining.{shapes_remain}
use Rattle.run_steps.specs.Bodies.{Known}
use Rattle.run_steps.specs.Engine.{Base}
use Rattle.run_steps.specs.Items.{At, Linked}
use Rattle.run_steps.proofs.Items.{straight}
use Rattle.run_steps.proofs.Jumps.{back_of, front_of}
use Rattle.run_steps.proofs.Linking.{size_append}
use Rattle.run_steps.specs.Reach.{Comes, Family, Reach, before, cost, reached}
use Rattle.run_steps.proofs.Reach.{before_closed, comes_on, reach_then, reached_holds}
use Rattle.run_steps.proofs.Reaching.{reach_moved}
use Rattle.block_runs.specs.Machines.{AreIn}
use Rattle.block_runs.proofs.PointGrounds.{point_frame, point_ground}
use Rattle.program_runs.specs.Statements.{Block, IsAmong}
use Rattle.expression_runs.specs.Values.{Setting, behind, in_registers}
use Rattle.expression_runs.specs.Variables.{Spot, variable_of}
use Rattle.expression_runs.proofs.VariablePoints.{first_base}
use Rattle.expression_runs.proofs.Words.{frame_of, valued, word_here}
use Rattle.area_runs.specs.Based.{Ends, based_of, pointer_declared}
use Rattle.area_runs.proofs.BasedCode.{name_at_place, value_loaded}
use Rattle.area_runs.proofs.BasedReads.{there_at}
use Rattle.locator_runs.proofs.PointerPoints.{PointerAt, pointer_in}
use Rattle.member_runs.specs.Members.{IsMember, IsStructure, member_of, member_part, structure_declared}
use Rattle.member_runs.specs.Members.{structure_shape}
use Rattle.member_runs.proofs.MemberCode.{found_code, found_coded, leaf_of, read_code}
use Rattle.member_runs.proofs.MemberMeaning.{behind_found, designated_member, part_found, part_missing, seen_is}
use Rattle.member_runs.proofs.MemberMeaning.{through_is}
use Rattle.member_runs.proofs.MemberPoints.{StructureAt, member_place, member_told, structure_at}
use Rattle.member_runs.proofs.MemberReads.{NoMore, found_regs, known_more, living_found, member_ground, missing_ends}
use Rattle.offset_runs.specs.Offsets.{Gives, offset_aims}
use Rattle.offset_runs.proofs.OffsetPoints.{offset_of}
use Rattle.offset_runs.proofs.OffsetValues.{offset_closed}

-- ---- its code

abbrev declared_in : Option Y.DeclaredVariable → Y.DeclaredVariable
declared_in o = unwrap_or o no_declaration

pub offset_read :
    (e : Environment) (t : Taken) (p n : Spot) (members : List Y.Member) (leaves : List Y.Leaf)
    (member signature : ℕ) (area : Option Y.Variable) → IsMember leaves member (Y.OffsetLeaf area) →
    declared_variable e.program (variable_of p) ≡ Some pointer_declared →
    declared_variable e.program (based_of n) ≡ Some (structure_declared members leaves) →
    table_number e (structure_declared members leaves) ≡ signature → (p.level == e.level) ≡ true →
    offset_code e t (Y.OffsetIn (member_of p n member)) ≡ read_code (name_at_place e p) signature member
offset_read e t p n members leaves member signature area is pointer declared table own =
    ap (λ o. reference_code e t (member_of p n member)
    ++ loaded (leaf_of (slice_get (declared_in o).leaves member)).type a0
    (record { register = u3; displacement = pos 0 })) declared
    ∙ ap (λ o. reference_code e t (member_of p n member)
    ++ loaded (leaf_of o).type a0 (record { register = u3; displacement = pos 0 })) is.there
    ∙ ap (λ u. u ++ value_loaded)
    (found_coded e t p n members leaves member signature _ pointer declared is.there refl table own)

-- ---- its value

-- one that is there is loaded
value_comes :
    (k : Block) {members : List Y.Member} {leaves : List Y.Leaf} {member : ℕ} {area : Option Y.Variable}
    {numbers : ℕ → ℕ} {p : Point} {i : ℕ} {name : Name} (s : StructureAt p name members leaves)
    (one : IsMember leaves member (Y.OffsetLeaf area)) (z : Option ℕ) → s.values member [] ≡ BasicOffset z →
    (h : frame_of k p) (at : Base → ℕ) (c : ℕ) (f : Family) →
    ((b : Base) → (at b % 4 ≡ 0) × (at b + 4 ≤ memory_size)) →
    Linked k.call.surroundings.links k.call.code i value_loaded →
    ((b : Base) →
    At b i (Known (member_ground k.call.surroundings p name (member_place leaves member) at NoMore h) (services_of p)
    numbers (λ j. 0) (found_regs at) b) (f b)) →
    Reach k.call.code c f (services_of p) (c + size_of value_loaded) (services_of p)
    (λ b y. At b (i + size_of value_loaded) (Known (point_ground k.call.surroundings p h) (services_of p) numbers
    (λ j. 0) (valued (offset_word z)) b) y)
value_comes k {leaves = leaves} {member} {numbers = numbers} {p} {i} {name} s one z value h at c f facts l there =
    let v = services_of p in
    straight c f v v
    (λ b y. Known (point_ground k.call.surroundings p h) v numbers (λ j. 0) (valued (offset_word z)) b y)
    l (omega arith) (λ b. (there b).pc)
    (λ b.
    let o' = (there b).holds in
    let y = (f b).machine.registers in
    let m = (f b).machine.memory in
    let place = place_now (now p m) name + member_place leaves member in
    let t = member_told s one m o'.body.memory.0.storage in
    let loads : load 4 m place ≡ offset_word z =
    offset_loaded place z m (subst (λ u. Tells Offset u place m) value t.tells) in (
      record {
        offset = at b;
        is = there_at b (y 28) (at b) o'.regs.0 (facts b).1;
        aligned = (facts b).0;
        inside = (facts b).1;
      },
      record {
        body = record {
          services = o'.body.services;
          registers = o'.body.registers;
          bytes = o'.body.bytes;
          memory = o'.body.memory.0;
        };
        regs = (ap (load 4 m) (sym o'.body.memory.1) ∙ loads, tt);
      },
    ))

-- ---- the whole

-- by what lives there
read_by :
    (k : Setting) (x n : Spot) (members : List Y.Member) (leaves : List Y.Leaf) (member : ℕ)
    (area : Option Y.Variable)
    (is : IsStructure k.block x n members leaves) (one : IsMember leaves member (Y.OffsetLeaf area)) → Ends k →
    (p : Point) (numbers : ℕ → ℕ) (taken c index : ℕ) (f : Family) (o : IsAmong k.block numbers p) →
    p.control.line ≡ k.around.line →
    Linked k.block.call.surroundings.links k.block.call.code index
    (offset_code k.block.environment (in_registers k.words taken) (Y.OffsetIn (member_of x n member))) →
    c + size_of (offset_code k.block.environment (in_registers k.words taken) (Y.OffsetIn (member_of x n member)))
    + k.most ≤ cost k.block.call.code →
    AreIn k.block.call.surroundings p numbers index f → (a : PointerAt k.block x is.pointer p)
    (q : Option Generation) → Q.named p.state a.points.name (structure_shape members leaves) ≡ q →
    Comes k.block.call.code c f (services_of p)
    (before k.block.call.code
    (offset_aims k.block k.labels
    (behind p numbers taken c index (offset_code k.block.environment (in_registers k.words taken)
    (Y.OffsetIn (member_of x n member)))))
    k.block.call.surroundings.acts (λ d. give (offset_in (V.value_in d))))
    (V.part_designated k.around a.points.name (structure_shape members leaves) (member_part member) []
    k.block.call.surroundings.acts p.state)
unfolding give
read_by k x n members leaves member area is one ends p numbers taken c index f o line l paid there a None none =
    let e = k.block.environment in
    let w = k.block.call.surroundings in
    let code = k.block.call.code in
    let t = in_registers k.words taken in
    let reference = Y.OffsetIn (member_of x n member) in
    let coded' = offset_read e t x n members leaves member is.signature area one is.pointer.known.declared is.declared
    is.table is.pointer.own in
    let size = ap (λ u. size_of u) coded' in
    let finds = found_code (name_at_place e x) is.signature member in
    let m = size_append finds value_loaded in
    let y = behind p numbers taken c index (offset_code e t reference) in
    let next' : V.Designated → Meaning (Option ℕ) = λ d. give (offset_in (V.value_in d)) in
    let most = ends.most in
    let rest = behind_found k.around members leaves member a.points.name in
    let closed = before_closed w.acts rest (before_closed w.acts next' (offset_closed k.block k.labels y)) in
    subst (λ flow. Comes code c f (services_of p) (before code (offset_aims k.block k.labels y) w.acts next') flow)
    (sym (part_missing k.around p.state a.points.name members leaves member w.acts none))
    (comes_on w.acts (R.error {R = Generation} k.around 101 w.acts p.state) rest
    (missing_ends closed is member one.few ends k.around o a (point_frame o.stands o.image) c f none line
    (omega (arith, paid, most, size, m)) (front_of finds value_loaded (subst (Linked w.links code index) coded' l))
    there))
read_by k x n members leaves member area is one ends p numbers taken c index f o line l paid there a (Some g) some =
    let e = k.block.environment in
    let w = k.block.call.surroundings in
    let code = k.block.call.code in
    let t = in_registers k.words taken in
    let reference = Y.OffsetIn (member_of x n member) in
    let h = point_frame o.stands o.image in
    let coded' = offset_read e t x n members leaves member is.signature area one is.pointer.known.declared is.declared
    is.table is.pointer.own in
    let size = ap (λ u. size_of u) coded' in
    let finds = found_code (name_at_place e x) is.signature member in
    let m = size_append finds value_loaded in
    let l0 = subst (Linked w.links code index) coded' l in
    let y = behind p numbers taken c index (offset_code e t reference) in
    let aims = offset_aims k.block k.labels y in
    let next' : V.Designated → Meaning (Option ℕ) = λ d. give (offset_in (V.value_in d)) in
    let memory = (f first_base).machine.memory in
    let stored = (there first_base).at.storage in
    let s = structure_at p is.signature a.points.name members leaves g memory stored is.plain
    (shapes_remain o.later.remains is.signature (structure_shape members leaves) is.numbered) some in
    let fits = (member_told s one memory stored).tells.fits in
    let first = offset_of (s.values member []) fits in
    let z = first.0 in
    let found = living_found {numbers = numbers} NoMore is one o a s h c f (omega arith)
    (front_of finds value_loaded l0) (known_more k.block h f there) in
    let r = value_comes k.block s one z first.1 h found.at (c + size_of finds) (reached found.reach)
    (λ b. (found.even b, found.inside b)) (back_of finds value_loaded l0) (reached_holds found.reach) in
    let kind = seen_is members a.points.name s.extent s.values one in
    let d = designated_member members leaves a.points.name s.extent s.values member in
    let seen' : V.value_in d ≡ BasicOffset z =
    ap (λ (q : LeafKind). seen q (s.values member [])) kind ∙ first.1 in
    subst (λ flow. Comes code c f (services_of p) (before code aims w.acts next') flow)
    (sym (part_found k.around p.state a.points.name members s.extent s.values w.acts one s.named))
    (record {
      to = λ early. subst (λ u. Comes code c f (services_of p) aims (Normal (offset_in u) p.state)) (sym seen')
          (record {
            to = λ early. (
              subst (IsOf Offset) first.1 fits,
              word_here {x = y} h o (omega arith) refl
                  (reach_moved (omega (arith, size, m)) (omega (arith, size, m)) (reach_then found.reach r)),
            );
          });
    })

pub member_gives :
    (k : Setting) (x n : Spot) (members : List Y.Member) (leaves : List Y.Leaf) (member : ℕ)
    (area : Option Y.Variable) → IsStructure k.block x n members leaves →
    IsMember leaves member (Y.OffsetLeaf area) → Ends k → k.around.program ≡ k.block.around.program →
    Gives k 0 (Y.OffsetIn (member_of x n member))
unfolding V.offset ◌>>=◌
member_gives k x n members leaves member area is one ends same p numbers taken c index f o line registers l paid
    there =
    let w = k.block.call.surroundings in
    let code = k.block.call.code in
    let t = in_registers k.words taken in
    let reference = member_of x n member in
    let a = pointer_in x is.pointer o f there in
    let y = behind p numbers taken c index (offset_code k.block.environment t (Y.OffsetIn reference)) in
    let aims = offset_aims k.block k.labels y in
    let declared = ap (λ u. declared_variable u (based_of n)) same ∙ is.meant in
    let next' : V.Designated → Meaning (Option ℕ) = λ d. give (offset_in (V.value_in d)) in
    comes_on w.acts (V.designated k.around reference w.acts p.state) next'
    (subst (λ flow. Comes code c f (services_of p) (before code aims w.acts next') flow)
    (sym (through_is k.around n members leaves member w.acts a.points declared))
    (read_by k x n members leaves member area is one ends p numbers taken c index f o line l paid there a
    (Q.named p.state a.points.name (structure_shape members leaves)) refl))
