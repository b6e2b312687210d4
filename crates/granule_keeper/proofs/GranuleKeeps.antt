-- The granules keep every law.
use Rattle.std.proofs.Common.{◌≡◌, ◌⊎◌, inl, inr, ℕ, ◌+◌, ◌*◌, ◌/◌, ◌%◌, ◌<◌, ◌≤◌, List, [], length, Option, Some, None, true, refl, sym, ap, ◌∙◌, subst, arith}
use Rattle.std.specs.Prelude.{cond}
use Rattle.pli_typing.specs.Signatures.{footprint}
use Rattle.area_keeper.specs.Keeper.{Kept, KeptArea}
use Rattle.area_keeper.specs.KeptAreas.{kept_as, kept_end, kept_at, with_kept, without_kept, with_part}
use Rattle.area_keeper.specs.KeeperLaws.{SameData, Becomes, Leaves, KeepsMaking, KeepsOrder, KeepsAllocating, KeepsFreeing, KeepsCopying, KeepsWriting, Keeps}
use Rattle.area_keeper.specs.Chain.{capacity_in, room_from, last_end}
use Rattle.area_keeper.proofs.Alikeness.{same_room, same_last}
use Rattle.granule_keeper.proofs.Tests.{eq_false, eq_true, le_false, le_true}
use Rattle.granule_keeper.proofs.Order.{kept_where, kept_apart}
use Rattle.granule_keeper.proofs.Placing.{some_granules}
use Rattle.granule_keeper.proofs.Rooms.{room_same, end_same}
use Rattle.granule_keeper.proofs.Standing.{Stands, stands_from, marks_of, order_of}
use Rattle.granule_keeper.proofs.GranuleStands.{all_freed, made_stands, placed_stands, freed_stands, copied_stands, written_stands}
use Rattle.granule_keeper.proofs.GranuleBytes.{granules_bytes}
use Rattle.granule_keeper.specs.Marks.{room_in, used}
use Rattle.granule_keeper.specs.Granules.{front_for, marks_in, granules_of, with_generation, without_generation, placed_at, freed_if, freed_in, with_copy, granules_emptied, granules_area, granules}

capacity_same : (bytes : List ℕ) (a : KeptArea) → granules_area bytes ≡ Some a → capacity_in bytes ≡ a.capacity
capacity_same bytes a e = (stands_from bytes a e).front.capacity_is

stands_here : (bytes : List ℕ) (a : KeptArea) → granules_area bytes ≡ Some a → Stands bytes (capacity_in bytes) a.placed
stands_here bytes a e = subst (λ c. Stands bytes c a.placed) (sym (capacity_same bytes a e)) (stands_from bytes a e)

-- ---- making

granules_making : KeepsMaking granules
granules_making =
    record {
      few = λ capacity. omega arith;
      made = λ capacity bytes r b n. made_stands capacity bytes r b n;
      emptied = λ bytes a e.
          subst (λ c. Becomes granules c [] bytes (granules_emptied bytes)) (capacity_same bytes a e) (all_freed bytes (capacity_in bytes) (stands_here bytes a e).front);
    }

-- ---- order

granules_order : KeepsOrder granules
granules_order =
    record {
      ordered = λ bytes a e. order_of bytes a.capacity a.placed (stands_from bytes a e);
      rounded = λ bytes a e. (stands_from bytes a e).front.rounded;
      bounded = λ bytes a e. (stands_from bytes a e).front.bounded;
      as_many = λ bytes a e. (stands_from bytes a e).front.as_many;
    }

-- ---- allocating

room_there :
    (bytes : List ℕ) (a : KeptArea) (size : ℕ) → granules_area bytes ≡ Some a →
    room_in 0 (granules_of size) (marks_in bytes) ≡ room_from 0 a.capacity (footprint size) a.placed
room_there bytes a size e =
    let s = stands_here bytes a e in
    let c = capacity_in bytes in
    let m = marks_of bytes c s.front in
    let n = granules_of size in
    let whole : 16 * n ≡ footprint size = omega arith in
    let many : c ≡ 16 * length (marks_in bytes) = omega (arith, m.as_many, m.whole) in
    sym (room_same (front_for c) bytes c n (marks_in bytes) (some_granules size) many)
    ∙ (ap (λ gs. room_from 0 c (16 * n) gs) s.placed
    ∙ (ap (λ x. room_from 0 c x a.placed) whole ∙ ap (λ x. room_from 0 x (footprint size) a.placed) (capacity_same bytes a e)))

granules_allocating : KeepsAllocating granules
granules_allocating =
    record {
      placed = λ size signature extent bytes a placed o e al sg x g.
          let room = room_there bytes a size e ∙ (same_room 0 0 a.capacity (footprint size) a.placed placed refl al ∙ g) in
          let n : Kept = kept_as o size signature extent in
          let new = with_generation n bytes in
          let done = placed_stands bytes a.placed n (stands_here bytes a e) sg x room in
          (new, ap (placed_at size signature extent bytes) room, subst (λ c. Leaves granules a.placed c (with_kept n a.placed) bytes new) (capacity_same bytes a e) done);
      refused = λ size signature extent bytes a placed e al g.
          ap (placed_at size signature extent bytes) (room_there bytes a size e ∙ (same_room 0 0 a.capacity (footprint size) a.placed placed refl al ∙ g));
    }

-- ---- freeing

granules_freeing : KeepsFreeing granules
granules_freeing =
    record {
      freed = λ o signature bytes a g e there same.
          let new = without_generation g bytes in
          let left = without_kept o a.placed in
          let done = freed_stands bytes a.placed o g (stands_here bytes a e) there in
          (new, ap (freed_in o signature bytes) e ∙ (ap (freed_if signature bytes) there ∙ ap (λ t. cond t (Some new) None) (eq_true g.signature signature same)), subst (λ c. Leaves granules left c left bytes new) (capacity_same bytes a e) done);
      absent = λ o signature bytes a e there. ap (freed_in o signature bytes) e ∙ ap (freed_if signature bytes) there;
      another = λ o signature bytes a g e there other.
          ap (freed_in o signature bytes) e ∙ (ap (freed_if signature bytes) there ∙ ap (λ t. cond t (Some (without_generation g bytes)) None) (eq_false g.signature signature other));
    }

-- ---- copying

last_used :
    (bytes : List ℕ) (a : KeptArea) → granules_area bytes ≡ Some a → 16 * used (marks_in bytes) ≡ last_end a.placed
last_used bytes a e =
    sym (end_same (front_for (capacity_in bytes)) bytes (marks_in bytes)) ∙ ap last_end (stands_here bytes a e).placed

granules_copying : KeepsCopying granules
granules_copying =
    record {
      copied = λ from to s t placed e f al l.
          let n = used (marks_in from) in
          let new = with_copy n from to in
          let last = last_used from s e in
          let fits : 16 * n ≤ capacity_in to = omega (arith, last, same_last s.placed placed al, l, capacity_same to t f) in
          let done = copied_stands from to s.placed t.placed (stands_here from s e) (stands_here to t f) fits in
          (new, ap (λ b. cond b (Some new) None) (le_true (16 * n) (capacity_in to) fits), subst (λ c. Becomes granules c s.placed to new) (capacity_same to t f) done.0, done.1);
      refused = λ from to s t placed e f al l.
          let n = used (marks_in from) in
          let last = last_used from s e in
          let over : capacity_in to < 16 * n = omega (arith, last, same_last s.placed placed al, l, capacity_same to t f) in
          ap (λ b. cond b (Some (with_copy n from to)) None) (le_false (16 * n) (capacity_in to) over);
    }

-- ---- data

granules_writing : KeepsWriting granules
granules_writing =
    record {
      within = λ bytes a o g e there.
          let s = stands_here bytes a e in
          let w = kept_where 0 (capacity_in bytes) o a.placed g (order_of bytes (capacity_in bytes) a.placed s) there in
          omega (arith, w.within, w.offset, s.front.as_many);
      aligned = λ bytes a o g e there.
          let s = stands_here bytes a e in
          let w = kept_where 0 (capacity_in bytes) o a.placed g (order_of bytes (capacity_in bytes) a.placed s) there in
          omega (arith, w.aligned);
      apart = λ bytes a o p g h e there other ne.
          let s = stands_here bytes a e in
          let order = order_of bytes (capacity_in bytes) a.placed s in
          let v = kept_where 0 (capacity_in bytes) o a.placed g order there in
          let w = kept_where 0 (capacity_in bytes) p a.placed h order other in
          far (front_for (capacity_in bytes)) o p g h v.offset w.offset (kept_apart 0 (capacity_in bytes) o p a.placed g h order there other ne);
      written = λ bytes a o g new at e there b c.
          let done = written_stands bytes a.placed o g new at (stands_here bytes a e) there b c in
          (subst (λ x. Leaves granules (without_kept o a.placed) x a.placed bytes (with_part new at bytes)) (capacity_same bytes a e) done.0, ap (λ x. 16 + front_for x + o) done.1);
    }
  where
    far :
        (front o p : ℕ) (g h : Kept) → g.offset ≡ o → h.offset ≡ p → (kept_end g ≤ p) ⊎ (kept_end h ≤ o) →
        (16 + front + o + g.size ≤ 16 + front + p) ⊎ (16 + front + p + h.size ≤ 16 + front + o)
    far front o p g h a b (inl x) = inl (omega (arith, a, x))
    far front o p g h a b (inr x) = inr (omega (arith, b, x))

-- ---- all of it

pub granules_keep : Keeps granules
granules_keep =
    record {
      making = granules_making;
      order = granules_order;
      allocating = granules_allocating;
      freeing = granules_freeing;
      copying = granules_copying;
      writing = granules_writing;
      bytes = granules_bytes;
    }
