-- What services 9 and 14 answer of what a pointer variable points to.
use Rattle.std.proofs.Common.{◌≡◌, ℕ, ◌+◌, ◌*◌, ◌≤◌, ◌^◌, List, length, None, Some, true}
use Rattle.std.proofs.Common.{sym, ap, ◌∙◌, subst, arith}
use Rattle.std.proofs.lemmas.Bool.{le-leb}
use Rattle.std.proofs.lemmas.Bool.Decides.{nat_tests}
use Rattle.std.specs.Prelude.{cond, nat_le, ◌&&◌}
use Rattle.rv_meaning.specs.Machine.{memory_size}
use Rattle.pli_typing.specs.Signatures.{Pointer}
use Rattle.pli_typing.specs.TypedTree as Y
use Rattle.pli_meaning.specs.BasicValues.{BasedName, BasicPointer, Name}
use Rattle.pli_meaning.specs.Codes.{no_generation_code}
use Rattle.pli_meaning.specs.Contents.{Generation, placed_at}
use Rattle.pli_meaning.specs.Evaluating.{offset_within}
use Rattle.pli_meaning.specs.StorageState as Q
use Rattle.pli_meaning.specs.StorageState.{AreaContents, area_at, generation_at}
use Rattle.area_keeper.specs.KeptAreas.{part, with_part}
use Rattle.pli_serving.specs.Answers.{Answer, Done}
use Rattle.pli_serving.specs.Arguments.{asked_at, name_in, where_found}
use Rattle.pli_serving.specs.Bytes.{bytes_at, name_at, name_bytes, name_size}
use Rattle.pli_serving.specs.Finding.{Found}
use Rattle.pli_serving.specs.Names.{address_served, locator_served, offset_answered}
use Rattle.pli_serving.specs.Outcomes.{bad_unless}
use Rattle.storage_relation.specs.Served as H
use Rattle.storage_relation.specs.Served.{call}
use Rattle.storage_relation.specs.Standing.{AreaOf, AreaStands}
use Rattle.storage_relation.specs.Stored.{slice}
use Rattle.storage_relation.specs.Telling.{IsOffset, Tells}
use Rattle.storage_relation.proofs.Begun.{area_ordered}
use Rattle.storage_relation.proofs.CallArguments.{area_given, asked_named, asked_unnamed}
use Rattle.storage_relation.proofs.Holders.{eqb-other}
use Rattle.storage_relation.proofs.Locators.{offset_answer}
use Rattle.storage_relation.proofs.Named.{area_holder}
use Rattle.storage_relation.proofs.Storing.{taken-other}
use Rattle.storage_relation.proofs.Values.{name_loaded}
use Rattle.activation_relation.specs.Layers.{Point, now, services_of}
use Rattle.activation_relation.proofs.Remaining.{shapes_remain}
use Rattle.run_steps.specs.Engine.{Base}
use Rattle.block_runs.proofs.PointGrounds.{StandsIn}
use Rattle.program_runs.specs.Statements.{Block, IsAmong}
use Rattle.expression_runs.specs.Variables.{Spot}
use Rattle.area_runs.specs.Allocations.{HasArea}
use Rattle.area_runs.proofs.AreaPoints.{area_lives, area_place}
use Rattle.area_runs.proofs.BasedPoints.{IsLaidOut}
use Rattle.area_assignments.proofs.Emptying.{names_area}
use Rattle.locator_runs.proofs.PointerPoints.{PointerAt, name_length, pointer_place}
use Rattle.member_runs.specs.Members.{IsStructure, structure_shape}
use Rattle.member_runs.proofs.MemberMeaning.{structure_of}
use Rattle.member_runs.proofs.MemberPoints.{StructureAt, name_read}
use Rattle.offset_runs.proofs.AddressMeaning.{offset_below}

-- ---- 9: the name is copied where what it names lives

numbered :
    {k : Block} {x n : Spot} {p : Point} {members : List Y.Member} {leaves : List Y.Leaf} {numbers : ℕ → ℕ}
    (is : IsStructure k x n members leaves) (m : List ℕ) → IsAmong k numbers p →
    H.IsNumberOf (now p m) is.signature (structure_shape members leaves)
numbered {members = members} {leaves} is m o =
    record {
      shape_same = shapes_remain o.later.remains is.signature (structure_shape members leaves) is.numbered;
      own = let few = is.number in grind (arith, few, nat_tests);
    }

-- sixteen bytes of data
pub is_there :
    (p : Point) (at : ℕ) → IsLaidOut p → (2 ^ 22 ≤ at) × (at + 16 ≤ memory_size) →
    (nat_le p.layout.code_bytes at && nat_le (at + 16) p.layout.end) ≡ true
is_there p at layout room =
    let start = layout.0 in
    let end = layout.1 in
    let low = room.0 in
    let inside = room.1 in
    let t1 : nat_le p.layout.code_bytes at ≡ true = le-leb _ _ (omega (arith, start, low)) in
    let t2 : nat_le (at + 16) p.layout.end ≡ true = le-leb _ _ (omega (arith, end, inside)) in
    ap (λ q. q && nat_le (at + 16) p.layout.end) t1 ∙ t2

pub copied_answer :
    {k : Block} {numbers : ℕ → ℕ} {p : Point} {x n : Spot} {members : List Y.Member} {leaves : List Y.Leaf}
    (is : IsStructure k x n members leaves) → IsAmong k numbers p → (a : PointerAt k x is.pointer p)
    (s : StructureAt p a.points.name members leaves) (m : List ℕ) (to : ℕ) → H.Holds (now p m) → IsLaidOut p →
    (2 ^ 22 ≤ to) × (to + 16 ≤ memory_size) →
    address_served (call (now p m)) (pointer_place is.pointer) is.signature to
    ≡ Done (services_of p) (with_part (name_bytes a.points.name) to m) (pointer_place is.pointer) 0
copied_answer {p = p} {members = members} {leaves} is o a s m to stored layout room =
    let v = call (now p m) in
    let at = pointer_place is.pointer in
    let name = a.points.name in
    let i = asked_named (now p m) stored at is.signature name (structure_shape members leaves)
    (structure_of members leaves s.extent s.values) (numbered is m o) (name_read is.pointer a m stored layout)
    s.named in
    let copied : Found → Answer = λ f. Done v.services (with_part (bytes_at name_size at m) to m) at 0 in
    let bytes : bytes_at 16 at m ≡ name_bytes name =
    subst (λ c. part at c m ≡ name_bytes name) (name_length name) (a.tells m stored).tells in
    ap (λ q. bad_unless q (where_found (asked_at v at is.signature) (Done v.services m at no_generation_code) copied))
    (is_there p to layout room)
    ∙ ap (λ q. where_found q (Done v.services m at no_generation_code) copied) i.1
    ∙ ap (λ bs. Done (services_of p) (with_part bs to m) at 0) bytes

pub missing_answer :
    {k : Block} {numbers : ℕ → ℕ} {p : Point} {x n : Spot} {members : List Y.Member} {leaves : List Y.Leaf}
    (is : IsStructure k x n members leaves) → IsAmong k numbers p → (a : PointerAt k x is.pointer p) (m : List ℕ)
    (to : ℕ) → H.Holds (now p m) → IsLaidOut p → (2 ^ 22 ≤ to) × (to + 16 ≤ memory_size) →
    Q.named p.state a.points.name (structure_shape members leaves) ≡ None →
    address_served (call (now p m)) (pointer_place is.pointer) is.signature to
    ≡ Done (services_of p) m (pointer_place is.pointer) no_generation_code
missing_answer {p = p} {members = members} {leaves} is o a m to stored layout room none =
    let v = call (now p m) in
    let at = pointer_place is.pointer in
    let copied : Found → Answer = λ f. Done v.services (with_part (bytes_at name_size at m) to m) at 0 in
    ap (λ q. bad_unless q (where_found (asked_at v at is.signature) (Done v.services m at no_generation_code) copied))
    (is_there p to layout room)
    ∙ ap (λ q. where_found q (Done v.services m at no_generation_code) copied)
    (asked_unnamed (now p m) stored at is.signature a.points.name (structure_shape members leaves) (numbered is m o)
    (name_read is.pointer a m stored layout) none)

-- ---- 14: its offset in an area

pub offset_served :
    {k : Block} {numbers : ℕ → ℕ} {p : Point} {x : Spot} (area : HasArea k x) (o : IsAmong k numbers p) →
    4 * length k.call.code ≤ 2 ^ 22 → (b : Base) (m : List ℕ) → StandsIn k.call.surroundings p b m → IsLaidOut p →
    (name : Name) (from destination : ℕ) → (2 ^ 22 ≤ from) × (from + 16 ≤ memory_size) →
    Tells Pointer (BasicPointer name) from m →
    locator_served (call (now p m)) from (area_place area) destination 1
    ≡ offset_answered (call (now p m)) from (offset_within area.known.serial name)
offset_served {p = p} area o small' b m stands layout name from destination room tells =
    let w = now p m in
    let low = area.known.low in
    let named : name_in (call w) from ≡ Some name =
    ap (λ q. cond q (name_at from m) None) (is_there p from layout room) ∙ name_loaded from name m tells in
    offset_answer w from (area_place area) destination name (Some area.known.serial) named
    (area_given w stands.storage (area_place area) area.known.serial
    (eqb-other (area_place area) 0 (λ e. omega (arith, e, low))) (names_area area o small' b m stands))

-- ---- what lives in an area stands below its end

placed_is :
    (s : Q.State) (serial o : ℕ) (a : AreaContents) (g : Generation) → area_at s serial ≡ Some a →
    generation_at s (BasedName serial o) ≡ Some g → placed_at a.placed o ≡ Some g
placed_is s serial o a g there e = sym (ap (λ q. Q.generation_in q o) there) ∙ e

pub based_fits :
    {k : Block} {numbers : ℕ → ℕ} {p : Point} {x : Spot} (area : HasArea k x) → IsAmong k numbers p → (m : List ℕ) →
    H.Holds (now p m) → (o : ℕ) (g : Generation) →
    generation_at p.state (BasedName area.known.serial o) ≡ Some g → IsOffset (Some o)
based_fits {p = p} {x} area among m h o g lives =
    let n = area.known.serial in
    let at = area_lives x area among in
    let a : AreaContents = record { capacity = area.capacity; placed = at.living.placed } in
    let bytes = slice p.keeper p.places n (AreaOf a) m in
    let stands = subst (AreaStands p.keeper p.places.signatures a) (taken-other p.keeper p.places n bytes at.some)
    (h.stored.stands n (AreaOf a) (area_holder p.state n a at.area)) in
    let ordered = area_ordered p.keeper p.places.signatures h.keeps a bytes stands in
    let below = offset_below 0 area.capacity o at.living.placed g ordered (placed_is p.state n o a g at.area lives) in
    let most = h.keeps.order.bounded bytes (record { capacity = area.capacity; placed = stands.kept }) stands.stands in
    omega (arith, below, most)
