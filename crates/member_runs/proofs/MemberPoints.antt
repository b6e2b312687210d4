-- What a pointer variable points to at a point of its block: where its members stand, and what service 8 answers.
use Rattle.std.proofs.Common.{◌≡◌, ℕ, ◌+◌, ◌*◌, ◌%◌, ◌≤◌, List, [], length, map, None, Some, true}
use Rattle.std.proofs.Common.{ap, ◌∙◌, subst, arith}
use Rattle.std.proofs.lemmas.Bool.{le-leb}
use Rattle.std.proofs.lemmas.Bool.Decides.{nat_tests}
use Rattle.std.proofs.lemmas.List.{length-map}
use Rattle.std.proofs.lemmas.Option.{slice_get_within}
use Rattle.std.specs.Prelude.{ℤ, cond, int_le, negsuc, pos, ◌&&◌, nat_le}
use Rattle.pli_typing.specs.Signatures.{Leaf}
use Rattle.pli_typing.specs.TypedTree as Y
use Rattle.pli_meaning.specs.BasicValues.{BasicValue, Name}
use Rattle.pli_meaning.specs.Codes.{no_generation_code}
use Rattle.pli_meaning.specs.Contents.{Generation, element_place, is_within, leaves_with}
use Rattle.pli_meaning.specs.DeclaredShapes.{kind_of, leaf_of}
use Rattle.pli_meaning.specs.StorageState as Q
use Rattle.pli_meaning.specs.StorageState.{area_of_leaves, generation_at}
use Rattle.pli_serving.specs.Answers.{Answer, Done}
use Rattle.pli_serving.specs.Arguments.{name_in, shape_of_number, where_found}
use Rattle.pli_serving.specs.Bytes.{name_at}
use Rattle.pli_serving.specs.Finding.{Found}
use Rattle.pli_serving.specs.Names.{described, leaf_words, resolve_served, resolved}
use Rattle.pli_serving.specs.Outcomes.{or_bad}
use Rattle.pli_serving.specs.Templates.{shape_at}
use Rattle.pli_serving.specs.Values.{element_size, leaf_place}
use Rattle.storage_relation.specs.Served as H
use Rattle.storage_relation.specs.Served.{call, place_now}
use Rattle.storage_relation.specs.Standing.{IsElementNow, address_now, place_in, size_of}
use Rattle.storage_relation.specs.Telling.{Tells}
use Rattle.storage_relation.proofs.CallArguments.{asked_named, asked_unnamed}
use Rattle.storage_relation.proofs.Changes.{element_held}
use Rattle.storage_relation.proofs.Confined.{address_same, element_allocated}
use Rattle.storage_relation.proofs.Elements.{element_inside}
use Rattle.storage_relation.proofs.ElementNumbers.{named_same, shape_is}
use Rattle.storage_relation.proofs.Finding.{found_named}
use Rattle.storage_relation.proofs.Locators.{named_lives}
use Rattle.storage_relation.proofs.Named.{named_at}
use Rattle.storage_relation.proofs.Values.{name_loaded}
use Rattle.activation_relation.specs.Layers.{Point, now, services_of}
use Rattle.activation_relation.proofs.Remaining.{shapes_remain}
use Rattle.program_runs.specs.Statements.{Block, IsAmong}
use Rattle.expression_runs.specs.Variables.{Spot}
use Rattle.area_runs.proofs.BasedPoints.{IsLaidOut}
use Rattle.locator_runs.specs.Pointers.{IsPointer}
use Rattle.locator_runs.proofs.PointerPoints.{PointerAt, pointer_place}
use Rattle.member_runs.specs.Members.{IsMember, IsStructure, structure_shape}
use Rattle.member_runs.proofs.MemberMeaning.{leaf_got, leaf_is, structure_of}

-- ---- where a member stands

-- within the data of what it is a member of
abbrev pub member_place : List Y.Leaf → (member : ℕ) → ℕ
member_place leaves member = leaf_place (map (leaf_of []) leaves) member

abbrev pub member_size : Y.LeafType → ℕ
member_size type = element_size (kind_of [] type)

pub same_extent : (z : ℤ) → int_le z z ≡ true
same_extent (pos n) = le-leb n n (omega arith)
same_extent (negsuc n) = le-leb n n (omega arith)

pub element_now :
    {leaves : List Y.Leaf} {member : ℕ} {type : Y.LeafType} (members : List Y.Member) (z : ℤ)
    (values : ℕ → List ℤ → BasicValue) → IsMember leaves member type →
    IsElementNow (structure_of members leaves z values) z member []
element_now {leaves} {member} members z values is =
    let less = slice_get_within leaves member _ is.there in
    let same = length-map leaves (leaf_of []) in
    record {
      less = same_extent z;
      leaf_there = omega (arith, less, same);
      within = ap (λ l. is_within l.bounds []) (leaf_is members z is);
    }

pub address_is :
    {leaves : List Y.Leaf} {member : ℕ} {type : Y.LeafType} (members : List Y.Member) (z : ℤ)
    (values : ℕ → List ℤ → BasicValue) (at : ℕ) → IsMember leaves member type →
    address_now (structure_of members leaves z values) z member [] at ≡ at + member_place leaves member
address_is {leaves} {member} {type} members z values at is =
    ap (λ (l : Leaf). at + member_place leaves member + element_size l.kind * element_place l.bounds [])
    (leaf_is members z is)
    ∙ omega arith

pub member_within :
    {leaves : List Y.Leaf} {member : ℕ} {type : Y.LeafType} (members : List Y.Member) (z : ℤ)
    (values : ℕ → List ℤ → BasicValue) → IsMember leaves member type →
    member_place leaves member + member_size type ≤ size_of (structure_of members leaves z values)
member_within {leaves} {member} {type} members z values is =
    let g = structure_of members leaves z values in
    let now' = element_now members z values is in
    let here = address_is members z values 0 is in
    let same = address_same g z member [] 0 now' in
    let part' = subst (λ (l : Leaf). place_in g member [] + element_size l.kind ≤ size_of g) (leaf_is members z is)
    (element_inside g member [] (element_allocated g z member [] now')) in
    omega (arith, here, same, part')

-- ---- what lives by a name

pub record StructureAt (p : Point) (name : Name) (members : List Y.Member) (leaves : List Y.Leaf) : Type 0 where
  pub extent : ℤ
  pub values : ℕ → List ℤ → BasicValue
  pub named : Q.named p.state name (structure_shape members leaves) ≡ Some (structure_of members leaves extent values)
  pub lives : generation_at p.state name ≡ Some (structure_of members leaves extent values)
  pub plain : area_of_leaves (structure_shape members leaves).signature.leaves [] ≡ None

pub structure_at :
    (p : Point) (signature : ℕ) (name : Name) (members : List Y.Member) (leaves : List Y.Leaf) (g : Generation)
    (m : List ℕ) → H.Holds (now p m) → area_of_leaves (structure_shape members leaves).signature.leaves [] ≡ None →
    shape_at p.places.signatures signature ≡ Some (structure_shape members leaves) →
    Q.named p.state name (structure_shape members leaves) ≡ Some g → StructureAt p name members leaves
structure_at p signature name members leaves g m' held plain shape e =
    record {
      extent = g.extent;
      values = g.values;
      named = e ∙ ap (λ y. Some y) same;
      lives = named_lives p.state name (structure_shape members leaves) g e ∙ ap (λ y. Some y) same;
      plain = plain;
    }
  where
    found : H.FoundFor (now p m') name g
    found =
        found_named p.keeper held.keeps p.layout p.places p.state (services_of p) m' name g held.heap held.lives
        held.stored (named_lives p.state name (structure_shape members leaves) g e)

    shapes : g.shape ≡ structure_shape members leaves
    shapes =
        shape_is p.places.signatures found.found.signature signature g.shape (structure_shape members leaves)
        held.distinct found.shape shape (named_same p.state name (structure_shape members leaves) g e)

    same : g ≡ structure_of members leaves g.extent g.values
    same = ap (λ s. record { shape = s; extent = g.extent; values = g.values }) shapes

-- a member of it is told where it stands
pub record MemberTold {members : List Y.Member} {leaves : List Y.Leaf} {p : Point} {name : Name}
    (s : StructureAt p name members leaves) (member : ℕ) (type : Y.LeafType) (m : List ℕ) : Type 0 where
  pub tells : Tells (kind_of [] type) (s.values member []) (place_now (now p m) name + member_place leaves member) m
  pub even : (place_now (now p m) name + member_place leaves member) % 4 ≡ 0
  pub inside : place_now (now p m) name + member_place leaves member + member_size type ≤ length m

pub member_told :
    {members : List Y.Member} {leaves : List Y.Leaf} {p : Point} {name : Name} {member : ℕ} {type : Y.LeafType}
    (s : StructureAt p name members leaves) → IsMember leaves member type → (m : List ℕ) → H.Holds (now p m) →
    MemberTold s member type m
member_told {members} {leaves} {p} {name} {member} {type} s is m held =
    let g = structure_of members leaves s.extent s.values in
    let at = place_now (now p m) name in
    let now' = element_now members s.extent s.values is in
    let told = element_held (now p m) held name g s.extent member [] s.lives s.plain now' in
    let here = address_is members s.extent s.values at is in
    let whole = (named_at p.keeper held.keeps p.places p.state m (p.state.serials + 1) name g held.stored
    held.lives.falling s.lives s.plain).inside in
    let within = member_within members s.extent s.values is in
    record {
      tells =
          subst (λ at'. Tells (kind_of [] type) (s.values member []) at' m) here
          (subst (λ (l : Leaf). Tells l.kind (s.values member []) (address_now g s.extent member [] at) m)
          (leaf_is members s.extent is) told.0);
      even = subst (λ i. i % 4 ≡ 0) here told.1;
      inside = omega (arith, whole, within);
    }

-- ---- what service 8 answers

-- the name is read where it stands
pub name_read :
    {k : Block} {x : Spot} {p : Point} (is : IsPointer k x) (a : PointerAt k x is p) (m : List ℕ) →
    H.Holds (now p m) → IsLaidOut p → name_in (call (now p m)) (pointer_place is) ≡ Some a.points.name
name_read {k} {x} {p = p} is a m stored layout =
    let at = pointer_place is in
    let start = layout.0 in
    let end = layout.1 in
    let low = is.known.low in
    let inside = is.known.inside in
    let t1 : nat_le p.layout.code_bytes at ≡ true = le-leb _ _ (omega (arith, start, low)) in
    let t2 : nat_le (at + 16) p.layout.end ≡ true = le-leb _ _ (omega (arith, end, inside)) in
    ap (λ q. cond (q && nat_le (at + 16) p.layout.end) (name_at at m) None) t1
    ∙ ap (λ q. cond q (name_at at m) None) t2
    ∙ name_loaded at a.points.name m (a.tells m stored)

numbered :
    {k : Block} {x n : Spot} {p : Point} {members : List Y.Member} {leaves : List Y.Leaf} {numbers : ℕ → ℕ}
    (is : IsStructure k x n members leaves) (m : List ℕ) → IsAmong k numbers p →
    H.IsNumberOf (now p m) is.signature (structure_shape members leaves)
numbered {members = members} {leaves} is m o =
    record {
      shape_same = shapes_remain o.later.remains is.signature (structure_shape members leaves) is.numbered;
      own = let few = is.number in grind (arith, few, nat_tests);
    }

pub resolved_answer :
    {k : Block} {numbers : ℕ → ℕ} {p : Point} {x n : Spot} {members : List Y.Member} {leaves : List Y.Leaf}
    {member : ℕ} {type : Y.LeafType} (is : IsStructure k x n members leaves) → IsMember leaves member type →
    IsAmong k numbers p → (a : PointerAt k x is.pointer p) (s : StructureAt p a.points.name members leaves)
    (m : List ℕ) → H.Holds (now p m) → IsLaidOut p →
    resolve_served (call (now p m)) (pointer_place is.pointer) is.signature member 0
    ≡ Done (services_of p) m (place_now (now p m) a.points.name + member_place leaves member) 0
resolved_answer {k} {p = p} {members = members} {leaves} {member} is one o a s m stored layout =
    let v = call (now p m) in
    let at = pointer_place is.pointer in
    let shape = structure_shape members leaves in
    let g = structure_of members leaves s.extent s.values in
    let i = asked_named (now p m) stored at is.signature a.points.name shape g (numbered is m o)
    (name_read is.pointer a m stored layout) s.named in
    let found = i.0.found in
    let answer : Found → Answer = λ f. or_bad (shape_of_number v f.signature)
    (λ s'. resolved v member 0 f (leaves_with f.extent s')) in
    ap (λ q. where_found q (Done (services_of p) m at no_generation_code) answer) i.1
    ∙ ap (λ s'. or_bad s' (λ u. resolved v member 0 found (leaves_with found.extent u))) i.0.shape
    ∙ ap (λ l'. or_bad l' (λ l. or_bad (described v.layout 0 (leaf_words l) v.memory)
    (λ m'. Done v.services m' (found.at + member_place leaves member) 0))) (leaf_got one)
    ∙ ap (λ j. Done (services_of p) m (j + member_place leaves member) 0) i.0.at

pub missing_answer :
    {k : Block} {numbers : ℕ → ℕ} {p : Point} {x n : Spot} {members : List Y.Member} {leaves : List Y.Leaf}
    (is : IsStructure k x n members leaves) (member : ℕ) → IsAmong k numbers p →
    (a : PointerAt k x is.pointer p) (m : List ℕ) → H.Holds (now p m) → IsLaidOut p →
    Q.named p.state a.points.name (structure_shape members leaves) ≡ None →
    resolve_served (call (now p m)) (pointer_place is.pointer) is.signature member 0
    ≡ Done (services_of p) m (pointer_place is.pointer) no_generation_code
missing_answer {k} {p = p} {members = members} {leaves} is member o a m stored layout none =
    let v = call (now p m) in
    let at = pointer_place is.pointer in
    let answer : Found → Answer = λ f. or_bad (shape_of_number v f.signature)
    (λ s. resolved v member 0 f (leaves_with f.extent s)) in
    ap (λ q. where_found q (Done (services_of p) m at no_generation_code) answer)
    (asked_unnamed (now p m) stored at is.signature a.points.name (structure_shape members leaves) (numbered is m o)
    (name_read is.pointer a m stored layout) none)
