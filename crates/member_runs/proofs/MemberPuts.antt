-- The point behind an assignment to a member of what a pointer variable points to: all that holds before holds there.
use Rattle.std.proofs.Common.{◌≡◌, ℕ, ◌+◌, ◌-◌, ◌≤◌, List, [], length, Some, refl}
use Rattle.std.proofs.Common.{sym, ap, ◌∙◌, subst, arith}
use Rattle.pli_typing.specs.Signatures.{Leaf, LeafKind}
use Rattle.pli_typing.specs.TypedTree as Y
use Rattle.pli_meaning.specs.BasicValues.{BasedName, BasicValue, Name, NullName, VariableName}
use Rattle.pli_meaning.specs.Contents.{Generation}
use Rattle.pli_meaning.specs.DeclaredShapes.{kind_of}
use Rattle.pli_meaning.specs.Evaluating.{Designated, first_leaf}
use Rattle.pli_meaning.specs.Placing.{with_element}
use Rattle.pli_meaning.specs.StorageState.{State, area_at, generation_at, with_generation}
use Rattle.area_keeper.specs.KeptAreas.{with_part}
use Rattle.pli_serving.specs.Stored.{kept_bytes}
use Rattle.storage_relation.specs.Changes.{IsAssignable, address_of}
use Rattle.storage_relation.specs.Keeping.{IsStorable}
use Rattle.storage_relation.specs.Served.{Holds, place_now}
use Rattle.storage_relation.specs.Standing.{Alone, AreaOf, Holder, IsPlain, bytes_of, held, size_of}
use Rattle.storage_relation.specs.Stored.{IsBeside, place_held, slice}
use Rattle.storage_relation.proofs.Changes.{assigned_holds, assigned_served}
use Rattle.storage_relation.proofs.Confined.{beside_written}
use Rattle.storage_relation.proofs.Named.{alone_holder, area_holder, based_in, data_within}
use Rattle.activation_relation.specs.Frames.{FramesStand}
use Rattle.activation_relation.specs.Layers.{Point, now, services_of}
use Rattle.activation_relation.specs.Points.{Stands, Surroundings}
use Rattle.activation_relation.proofs.BlockVariables.{stored_stand}
use Rattle.run_steps.specs.Engine.{Base}
use Rattle.block_runs.proofs.PointGrounds.{StandsIn}
use Rattle.program_runs.specs.Statements.{Block, IsAmong}
use Rattle.area_runs.proofs.ChangedPoints.{Follows, follows_among, generation_follows, generation_input}
use Rattle.area_runs.proofs.ChangedPoints.{generation_world, same_services, with_state}
use Rattle.member_runs.specs.Members.{IsMember}
use Rattle.member_runs.proofs.MemberMeaning.{designated_member, leaf_is, seen_is, structure_of}
use Rattle.member_runs.proofs.MemberPoints.{StructureAt, address_is, element_now, member_place, member_size}
use Rattle.member_runs.proofs.MemberPoints.{member_within}

-- ---- the point

abbrev pub designated_at :
    {p : Point} {name : Name} {members : List Y.Member} {leaves : List Y.Leaf} →
    StructureAt p name members leaves → (member : ℕ) → Designated
designated_at {p} {name} {members} {leaves} s member =
    designated_member members leaves name s.extent s.values member

abbrev pub put_state : State → Designated → BasicValue → State
put_state s d v = with_generation d.name (with_element d v) s

abbrev pub behind_put :
    {p : Point} {name : Name} {members : List Y.Member} {leaves : List Y.Leaf} →
    StructureAt p name members leaves → (member : ℕ) → BasicValue → Point
behind_put {p} s member v = with_state (put_state p.state (designated_at s member) v) p

assignable :
    {p : Point} {name : Name} {members : List Y.Member} {leaves : List Y.Leaf} {member : ℕ} {type : Y.LeafType}
    (s : StructureAt p name members leaves) → IsMember leaves member type → (v : BasicValue) (m : List ℕ) →
    IsStorable (kind_of [] type) (kind_of [] type) v → IsAssignable (now p m) (designated_at s member) v
assignable {members = members} s is v m storable =
    record {
      lives = s.lives;
      plain = s.plain;
      element = element_now members s.extent s.values is;
      storable = subst (λ (l : Leaf). IsStorable l.kind l.kind v) (sym (leaf_is members s.extent is)) storable;
    }

pub put_services :
    {p : Point} {name : Name} {members : List Y.Member} {leaves : List Y.Leaf}
    (s : StructureAt p name members leaves) (member : ℕ) (v : BasicValue) →
    services_of (behind_put s member v) ≡ services_of p
put_services {p} {name} s member v =
    let d = designated_at s member in
    same_services (put_state p.state d v) p (generation_world name (with_element d v) p.state)
    (generation_input name (with_element d v) p.state) (assigned_served (now p []) d v)

-- ---- memory

-- its bytes lie among those of what it lives in
pub record Held (p : Point) (name : Name) (size : ℕ) (m : List ℕ) : Type 0 where
  pub serial : ℕ
  pub holder : Holder
  pub holds : held p.state serial ≡ Some holder
  pub from : p.places.at serial ≤ place_now (now p m) name
  pub to : place_now (now p m) name + size ≤ p.places.at serial + bytes_of p.keeper holder

held_in :
    (p : Point) (name : Name) (g : Generation) (m : List ℕ) → Holds (now p m) → IsPlain g →
    generation_at p.state name ≡ Some g → Held p name (size_of g) m
held_in p NullName g m h plain e = absurd (cc e)
held_in p (VariableName n) g m h plain e =
    record {
      serial = n;
      holder = Alone g;
      holds = alone_holder p.state (p.state.serials + 1) n g h.lives.falling e plain;
      from = omega arith;
      to = omega arith;
    }
held_in p (BasedName n o) g m h plain e =
    let b = based_in (area_at p.state n) o g e in
    let a = b.0 in
    let is = area_holder p.state n a b.1 in
    let within = (data_within p.keeper h.keeps p.places p.state m n o a g h.stored is b.2).0 in
    let here : place_now (now p m) (BasedName n o)
    ≡ p.places.at n + p.keeper.data_at o (slice p.keeper p.places n (AreaOf a) m) =
    ap (λ q. place_held p.keeper p.places m n o q) is in
    record {
      serial = n;
      holder = AreaOf a;
      holds = is;
      from = omega (arith, here);
      to = omega (arith, here, within);
    }

pub structure_held :
    {p : Point} {name : Name} {members : List Y.Member} {leaves : List Y.Leaf}
    (s : StructureAt p name members leaves) (m : List ℕ) → Holds (now p m) →
    Held p name (size_of (structure_of members leaves s.extent s.values)) m
structure_held {p} {name} {members} {leaves} s m h =
    held_in p name (structure_of members leaves s.extent s.values) m h s.plain s.lives

pub put_stands :
    {p : Point} {name : Name} {members : List Y.Member} {leaves : List Y.Leaf} {member : ℕ} {type : Y.LeafType}
    (w : Surroundings) (s : StructureAt p name members leaves) → IsMember leaves member type → (v : BasicValue)
    (b : Base) (m : List ℕ) → IsStorable (kind_of [] type) (kind_of [] type) v →
    length (kept_bytes (kind_of [] type) v) ≤ member_size type → Stands w p → StandsIn w p b m →
    StandsIn w (behind_put s member v) b
    (with_part (kept_bytes (kind_of [] type) v) (place_now (now p m) name + member_place leaves member) m)
put_stands {p} {name} {members} {leaves} {member} {type} w s one v b m storable few is stands =
    record { storage = storage; frames = frames }
  where
    d : Designated
    d = designated_at s member

    at : ℕ
    at = place_now (now p m) name + member_place leaves member

    bytes : List ℕ
    bytes = kept_bytes (kind_of [] type) v

    final : List ℕ
    final = with_part bytes at m

    here : with_part (kept_bytes (first_leaf d).kind v) (address_of (now p m) d) m ≡ final
    here =
        ap (λ (q : LeafKind). with_part (kept_bytes q v) (address_of (now p m) d) m)
        (seen_is members name s.extent s.values one)
        ∙ ap (λ i. with_part bytes i m) (address_is members s.extent s.values (place_now (now p m) name) one)

    storage : Holds (now (behind_put s member v) final)
    storage =
        let new = assigned_holds (now p m) stands.storage d v (assignable s one v m storable) in
        subst (λ m'. Holds (now (behind_put s member v) m')) here
        (record {
          keeps = new.keeps;
          heap = record { at = new.heap.at; capacity = new.heap.capacity };
          lives = record { falling = new.lives.falling; numbered = new.lives.numbered; extents = new.lives.extents };
          stored = new.stored;
          distinct = new.distinct;
        })

    owner : Held p name (size_of (structure_of members leaves s.extent s.values)) m
    owner = structure_held s m stands.storage

    follows : Follows w p (behind_put s member v)
    follows = generation_follows w name (with_element d v) p (λ y. refl) (λ y. refl)

    frames : FramesStand w.parts b.at final (behind_put s member v).state.activations p.control.layers
    frames =
        let from = owner.from in
        let to = owner.to in
        let within = member_within members s.extent s.values one in
        let start = p.places.at owner.serial in
        let n = bytes_of p.keeper owner.holder in
        let room = stands.storage.stored.inside owner.serial owner.holder owner.holds in
        let place : start + (at - start) ≡ at = omega (arith, from) in
        subst (λ xs. FramesStand w.parts b.at final xs p.control.layers) (sym follows.later.activations)
        (stored_stand w p b.at owner.serial owner.holder m final is stands.frames owner.holds
        (subst (λ i. IsBeside start n m (with_part bytes i m)) place
        (beside_written bytes start n (at - start) m (omega (arith, few, from, to, within)) room)))

-- data begin behind what memory has before them
pub place_low :
    {p : Point} {name : Name} {members : List Y.Member} {leaves : List Y.Leaf}
    (s : StructureAt p name members leaves) (m : List ℕ) → Holds (now p m) →
    p.places.low ≤ place_now (now p m) name
place_low {p} {name} s m h =
    let owner = structure_held s m h in
    let low = (h.stored.placed owner.serial owner.holder owner.holds).0 in
    let from = owner.from in
    omega (arith, low, from)

-- ---- among a block's points

pub put_among :
    {k : Block} {numbers : ℕ → ℕ} {p : Point} {name : Name} {members : List Y.Member} {leaves : List Y.Leaf}
    (s : StructureAt p name members leaves) (member : ℕ) (v : BasicValue) → IsAmong k numbers p →
    IsAmong k numbers (behind_put s member v)
put_among {k} {p = p} {name} s member v o =
    let d = designated_at s member in
    follows_among (put_state p.state d v) (generation_world name (with_element d v) p.state)
    (generation_follows k.call.surroundings name (with_element d v) p (λ y. refl) (λ y. refl)) o
