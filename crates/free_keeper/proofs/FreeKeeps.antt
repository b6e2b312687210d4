-- The list of free blocks keeps every law.
use Rattle.std.proofs.Common.{◌≡◌, ◌⊎◌, inl, inr, ℕ, ◌+◌, ◌-◌, ◌<◌, ◌≤◌, ℤ, List, [], Option, Some, None, refl, sym}
use Rattle.std.proofs.Common.{ap, ◌∙◌, subst, arith}
use Rattle.std.specs.Prelude.{cond}
use Rattle.pli_typing.specs.Signatures.{footprint}
use Rattle.area_keeper.specs.Keeper.{Kept, KeptArea}
use Rattle.area_keeper.specs.KeptAreas.{kept_as, kept_end, with_kept, without_kept, with_part}
use Rattle.area_keeper.specs.KeeperLaws.{Becomes, Leaves, KeepsMaking, KeepsOrder, KeepsAllocating, KeepsFreeing}
use Rattle.area_keeper.specs.KeeperLaws.{KeepsCopying, KeepsWriting, Keeps}
use Rattle.area_keeper.specs.Chain.{capacity_in, room_from, last_end}
use Rattle.area_keeper.proofs.Alikeness.{same_room, same_last}
use Rattle.granule_keeper.proofs.Order.{kept_where, kept_apart}
use Rattle.free_keeper.proofs.Tests.{eq_false, eq_true, le_false, le_true}
use Rattle.free_keeper.proofs.Gaps.{room_gaps}
use Rattle.free_keeper.proofs.Links.{no_room}
use Rattle.free_keeper.proofs.Standing.{Stands, stands_from}
use Rattle.free_keeper.proofs.FreeStands.{all_freed, made_stands, placed_stands, freed_stands}
use Rattle.free_keeper.proofs.FreeCopies.{ends_of, copied_stands, written_stands}
use Rattle.free_keeper.proofs.FreeBytes.{free_list_bytes}
use Rattle.free_keeper.specs.FreeList.{front_for, link_behind, gaps, steps_for, with_generation, placed_behind}
use Rattle.free_keeper.specs.FreeList.{without_generation, freed_if, freed_in, end_in, with_copy, free_list_emptied}
use Rattle.free_keeper.specs.FreeList.{free_list_area, free_list}

capacity_same : (bytes : List ℕ) (a : KeptArea) → free_list_area bytes ≡ Some a → capacity_in bytes ≡ a.capacity
capacity_same bytes a e = (stands_from bytes a e).front.capacity_is

stands_here :
    (bytes : List ℕ) (a : KeptArea) → free_list_area bytes ≡ Some a → Stands bytes (capacity_in bytes) a.placed
stands_here bytes a e = subst (λ c. Stands bytes c a.placed) (sym (capacity_same bytes a e)) (stands_from bytes a e)

-- ---- making

free_list_making : KeepsMaking free_list
free_list_making =
    record {
      few = λ capacity. omega arith;
      made = λ capacity bytes r b n. made_stands capacity bytes r b n;
      emptied = λ bytes a e.
          subst (λ c. Becomes free_list c [] bytes (free_list_emptied bytes)) (capacity_same bytes a e) (all_freed
          bytes (capacity_in bytes) (stands_here bytes a e).front);
    }

-- ---- order

free_list_order : KeepsOrder free_list
free_list_order =
    record {
      ordered = λ bytes a e. (stands_from bytes a e).ordered;
      rounded = λ bytes a e. (stands_from bytes a e).front.rounded;
      bounded = λ bytes a e. (stands_from bytes a e).front.bounded;
      as_many = λ bytes a e. (stands_from bytes a e).front.as_many;
    }

-- ---- allocating

placed_there :
    (size signature : ℕ) (extent : ℤ) (front before o : ℕ) (bytes : List ℕ) → link_behind front before bytes - 1 ≡ o →
    placed_behind size signature extent front bytes (Some before)
    ≡ Some (o, with_generation front before (kept_as o size signature extent) bytes)
placed_there size signature extent front before o bytes e =
    ap (λ (x : ℕ). let r : Option (ℕ × List ℕ) = Some (
      x,
      with_generation front before (kept_as x size signature
          extent) bytes,
    ) in r) e

free_list_allocating : KeepsAllocating free_list
free_list_allocating =
    record {
      placed = λ size signature extent bytes a placed o e al sg x g.
          let c = capacity_in bytes in
          let f = front_for c in
          let n : Kept = kept_as o size signature extent in
          let room : room_from 0 c (footprint size) a.placed ≡ Some o =
          ap (λ y. room_from 0 y (footprint size) a.placed) (capacity_same bytes a e)
          ∙ (same_room 0 0 a.capacity (footprint size) a.placed placed refl al ∙ g)
          in
          let d = placed_stands bytes a.placed n (stands_here bytes a e) sg x room in
          let new = with_generation f d.before n bytes in (
            new,
            ap (placed_behind size signature extent f bytes) d.walked ∙ placed_there size signature extent f
                d.before o bytes d.offset,
            subst (λ y. Leaves free_list a.placed y (with_kept n a.placed) bytes new)
                (capacity_same bytes a e) d.leaves,
          );
      refused = λ size signature extent bytes a placed e al g.
          let c = capacity_in bytes in
          let f = front_for c in
          let room : room_from 0 c (footprint size) a.placed ≡ None =
          ap (λ y. room_from 0 y (footprint size) a.placed) (capacity_same bytes a e)
          ∙ (same_room 0 0 a.capacity (footprint size) a.placed placed refl al ∙ g)
          in
          let s = stands_here bytes a e in
          ap (placed_behind size signature extent f bytes) (no_room (steps_for c) f 0 (link_behind f 0 bytes)
          (footprint size) bytes (gaps 0 c a.placed) s.listed (sym (room_gaps 0 c (footprint size) a.placed (omega
          arith)) ∙ room));
    }

-- ---- freeing

free_list_freeing : KeepsFreeing free_list
free_list_freeing =
    record {
      freed = λ o signature bytes a g e there same.
          let P : ℕ → Type 0 = λ c. Leaves free_list (without_kept o a.placed) c (without_kept o a.placed) bytes
          (without_generation (front_for c) c g bytes) in
          let new = without_generation (front_for a.capacity) a.capacity g bytes in
          let done = subst P (capacity_same bytes a e) (freed_stands bytes a.placed o g (stands_here bytes a e) there)
          in (
            new,
            ap (freed_in o signature bytes) e ∙ (ap (freed_if signature (front_for a.capacity) a.capacity bytes)
                there ∙ ap (λ t. cond t (Some new) None) (eq_true g.signature signature same)),
            done,
          );
      absent = λ o signature bytes a e there.
          ap (freed_in o signature bytes) e ∙ ap (freed_if signature (front_for a.capacity) a.capacity bytes) there;
      another = λ o signature bytes a g e there other.
          let new = without_generation (front_for a.capacity) a.capacity g bytes in
          ap (freed_in o signature bytes) e
          ∙ (ap (freed_if signature (front_for a.capacity) a.capacity bytes) there ∙ ap (λ t. cond t (Some new) None)
          (eq_false g.signature signature other));
    }

-- ---- copying

free_list_copying : KeepsCopying free_list
free_list_copying =
    record {
      copied = λ from to s t placed e f al l.
          let new = with_copy (end_in from) from to in
          let here = stands_here from s e in
          let last = (ends_of from s.placed here).is in
          let fits : last_end s.placed ≤ capacity_in to = omega (
            arith,
            same_last s.placed placed al,
            l,
            capacity_same
                to t f,
          ) in
          let done = copied_stands from to s.placed t.placed here (stands_here to t f) fits in (
            new,
            ap (λ b. cond b (Some new) None) (le_true (end_in from).from (capacity_in to) (omega (
              arith,
              last,
              fits,
            ))),
            subst (λ c. Becomes free_list c s.placed to new) (capacity_same to t f) done.0,
            done.1,
          );
      refused = λ from to s t placed e f al l.
          let new = with_copy (end_in from) from to in
          let last = (ends_of from s.placed (stands_here from s e)).is in
          let over : capacity_in to < (end_in from).from = omega (
            arith,
            last,
            same_last s.placed placed al,
            l,
            capacity_same to t f,
          ) in
          ap (λ b. cond b (Some new) None) (le_false (end_in from).from (capacity_in to) over);
    }

-- ---- data

free_list_writing : KeepsWriting free_list
free_list_writing =
    record {
      within = λ bytes a o g e there.
          let s = stands_here bytes a e in
          let w = kept_where 0 (capacity_in bytes) o a.placed g s.ordered there in
          omega (arith, w.within, w.offset, s.front.as_many);
      aligned = λ bytes a o g e there.
          let s = stands_here bytes a e in
          let w = kept_where 0 (capacity_in bytes) o a.placed g s.ordered there in
          omega (arith, w.aligned);
      apart = λ bytes a o p g h e there other ne.
          let s = stands_here bytes a e in
          let v = kept_where 0 (capacity_in bytes) o a.placed g s.ordered there in
          let w = kept_where 0 (capacity_in bytes) p a.placed h s.ordered other in
          far (front_for (capacity_in bytes)) o p g h v.offset w.offset (kept_apart 0 (capacity_in bytes) o p a.placed
          g h s.ordered there other ne);
      written = λ bytes a o g new at e there b c.
          let done = written_stands bytes a.placed o g new at (stands_here bytes a e) there b c in (
            subst (λ x. Leaves free_list (without_kept o a.placed) x a.placed bytes (with_part new at bytes))
                (capacity_same bytes a e) done.0,
            ap (λ x. 16 + front_for x + o) done.1,
          );
    }
  where
    far :
        (front o p : ℕ) (g h : Kept) → g.offset ≡ o → h.offset ≡ p → (kept_end g ≤ p) ⊎ (kept_end h ≤ o) →
        (16 + front + o + g.size ≤ 16 + front + p) ⊎ (16 + front + p + h.size ≤ 16 + front + o)
    far front o p g h a b (inl x) = inl (omega (arith, a, x))
    far front o p g h a b (inr x) = inr (omega (arith, b, x))

-- ---- all of it

pub free_list_keeps : Keeps free_list
free_list_keeps =
    record {
      making = free_list_making;
      order = free_list_order;
      allocating = free_list_allocating;
      freeing = free_list_freeing;
      copying = free_list_copying;
      writing = free_list_writing;
      bytes = free_list_bytes;
    }
