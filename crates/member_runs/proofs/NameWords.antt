-- A name among the members of a structure, and the words that it takes.
use Rattle.std.proofs.Common.{◌≡◌, ◌≢◌, ◌⊎◌, inl, inr, ℕ, ◌+◌, List, [], Some, sym, ap}
use Rattle.std.proofs.Common.{◌∙◌, subst, arith, ⊎_elim}
use Rattle.std.proofs.lemmas.Bool.{cases_eq}
use Rattle.pli_typing.specs.Signatures.{Pointer}
use Rattle.pli_typing.specs.TypedTree as Y
use Rattle.pli_meaning.specs.BasicValues.{BasicPointer, Name}
use Rattle.storage_relation.specs.Served.{Holds, place_now}
use Rattle.storage_relation.specs.Standing.{Alone, Holder, bytes_of, held}
use Rattle.storage_relation.specs.Stored.{Beside}
use Rattle.storage_relation.specs.Telling.{IsName, IsOf, Tells}
use Rattle.activation_relation.specs.Layers.{Point, now}
use Rattle.program_runs.specs.Statements.{Block}
use Rattle.expression_runs.specs.Variables.{Spot}
use Rattle.area_runs.proofs.BasedMeaning.{pointer_generation}
use Rattle.locator_runs.specs.Pointers.{IsPointer}
use Rattle.locator_runs.proofs.PointerPoints.{PointerAt, holder_is, pointer_of, pointer_place}
use Rattle.member_runs.specs.Members.{IsMember}
use Rattle.member_runs.proofs.MemberPoints.{StructureAt, member_place, member_told, member_within}
use Rattle.member_runs.proofs.MemberPuts.{structure_held}

-- what it holds, and that memory tells it
pub record NameIn {members : List Y.Member} {leaves : List Y.Leaf} {p : Point} {name : Name}
    (s : StructureAt p name members leaves) (member : ℕ) : Type 0 where
  pub held : Name
  pub value : s.values member [] ≡ BasicPointer held
  pub fits : IsName held
  pub tells :
      (m : List ℕ) → Holds (now p m) →
      Tells Pointer (BasicPointer held) (place_now (now p m) name + member_place leaves member) m

pub name_in :
    {members : List Y.Member} {leaves : List Y.Leaf} {p : Point} {name : Name} {member : ℕ}
    (s : StructureAt p name members leaves) → IsMember leaves member Y.PointerLeaf → (m : List ℕ) → Holds (now p m) →
    NameIn s member
name_in {leaves = leaves} {p} {name} {member} s one m h =
    let first = pointer_of (s.values member []) (member_told s one m h).tells.fits in
    record {
      held = first.0;
      value = first.1;
      fits = subst (IsOf Pointer) first.1 (member_told s one m h).tells.fits;
      tells = λ m' h'.
          subst (λ v. Tells Pointer v (place_now (now p m') name + member_place leaves member) m') first.1
          (member_told s one m' h').tells;
    }

-- ---- a pointer variable and a member are one, or share no byte

some_holder : (x y : Holder) → Some x ≡ Some y → x ≡ y
some_holder x y e = cc e

pub member_apart :
    {k : Block} {x : Spot} {is : IsPointer k x} {members : List Y.Member} {leaves : List Y.Leaf} {p : Point}
    {name : Name} {member : ℕ} (t : PointerAt k x is p) (s : StructureAt p name members leaves) →
    IsMember leaves member Y.PointerLeaf → (m : List ℕ) → Holds (now p m) →
    (pointer_place is ≡ place_now (now p m) name + member_place leaves member)
    ⊎ Beside (pointer_place is) 16 (place_now (now p m) name + member_place leaves member) 16
member_apart {is = is} {members} {leaves} {p} {name} {member} t s one m h =
    let owner = structure_held s m h in
    let mine = holder_is p t.points m h in
    let place = place_now (now p m) name + member_place leaves member in
    let here = t.here in
    let from = owner.from in
    let to = owner.to in
    let within = member_within members s.extent s.values one in
    let by : (t.points.serial ≡ owner.serial) ⊎ (t.points.serial ≢ owner.serial) →
    (pointer_place is ≡ place) ⊎ Beside (pointer_place is) 16 place 16 = λ o.
    ⊎_elim (λ same.
    let one' = some_holder owner.holder (Alone (pointer_generation t.points.values))
    (sym owner.holds ∙ ap (held p.state) (sym same) ∙ mine) in
    let size : bytes_of p.keeper owner.holder ≡ 16 = ap (bytes_of p.keeper) one' in
    let start = ap p.places.at same in
    inl (omega (arith, here, from, to, within, size, start)))
    (λ other.
    ⊎_elim (λ before. inr (inl (omega (arith, before, here, from))))
    (λ behind. inr (inr (omega (arith, behind, here, to, within))))
    (h.stored.apart t.points.serial owner.serial (Alone (pointer_generation t.points.values)) owner.holder other mine
    owner.holds)) o in
    by (cases_eq t.points.serial owner.serial)
