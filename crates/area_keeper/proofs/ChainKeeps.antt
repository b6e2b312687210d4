-- The chain keeps every law.
use Rattle.std.proofs.Common.{◌≡◌, ◌⊎◌, inl, inr, ℕ, suc, ◌+◌, ◌^◌, ◌%◌, ◌<◌, ◌≤◌, List, [], length, Some, None, refl, sym, ap, ◌∙◌, subst, arith}
use Rattle.std.specs.Prelude.{FitsSigned, cond}
use Rattle.std.specs.Int.{w32}
use Rattle.pli_typing.specs.Signatures.{footprint}
use Rattle.area_keeper.proofs.Tests.{eq_false, eq_true, le_false, le_true}
use Rattle.area_keeper.specs.Keeper.{Kept, KeptArea}
use Rattle.area_keeper.specs.KeptAreas.{kept_end, InOrder, kept_at, with_kept, without_kept, part, with_part}
use Rattle.area_keeper.specs.KeeperLaws.{greatest_capacity, SameData, Becomes, KeepsMaking, KeepsOrder, KeepsAllocating, KeepsFreeing, KeepsCopying, KeepsWriting, Keeps}
use Rattle.area_keeper.specs.Chain.{word_at, with_header, kept_in, link_before, link_from, last_end, linked, unlinked, placed_at, allocated_in, freed_if, freed_in, copied_in, first_link, chain_area, chain_made, chain_emptied, chain}
use Rattle.area_keeper.proofs.Agreement.{Agrees, agrees_twice, agrees_word, agrees_with_part, agrees_copied, length_word, length_with_part, length_part, word_same, kept_same}
use Rattle.area_keeper.proofs.Walking.{Stands, Leads, stands_from, stands_for}
use Rattle.area_keeper.proofs.Alikeness.{same_room, same_last}
use Rattle.area_keeper.proofs.Linking.{Room, room_sound, before_least, before_below, before_not_in_data, AllBut, AllButPart, headers_within, leads_same, placing, removing, kept_where}
use Rattle.area_keeper.proofs.Order.{in_order_placed, in_order_freed, in_order_copied, last_within, link_within, kept_apart}
use Rattle.area_keeper.proofs.ChainData.{same_data, data_within, data_placing, data_relinking, data_without, same_places, written_apart}
use Rattle.area_keeper.proofs.ChainBytes.{chain_bytes}
use Rattle.area_keeper.proofs.ChainWrites.{word_there, word_other, Fits, length_header, agrees_header, header_link, header_kept, front_same, length_made, made_front, made_link}

-- ---- making

made_stands :
    (capacity : ℕ) (bytes : List ℕ) → capacity % 16 ≡ 0 → capacity ≤ greatest_capacity → length bytes ≡ 16 + capacity →
    Becomes chain capacity [] bytes (chain_made capacity bytes)
made_stands capacity bytes r b n =
    record {
      as_many = length_made capacity bytes;
      stands = stands_for (chain_made capacity bytes) capacity [] (record { front = made_front capacity bytes r b n; ordered = omega arith; leads = made_link capacity bytes n });
    }

emptied_stands :
    (bytes : List ℕ) (a : KeptArea) → chain_area bytes ≡ Some a → Becomes chain a.capacity [] bytes (chain_emptied bytes)
emptied_stands bytes a e =
    let s = stands_from bytes a e in
    let n = length_word bytes 12 0 in
    record {
      as_many = n;
      stands = stands_for (chain_emptied bytes) a.capacity [] (record {
        front = front_same bytes (chain_emptied bytes) a.capacity s.front n (agrees_word bytes 12 0 0 8 (inl (omega arith)));
        ordered = omega arith;
        leads = word_there bytes 12 0 (omega arith) (omega (arith, s.front.as_many));
      });
    }

chain_making : KeepsMaking chain
chain_making =
    record {
      few = λ capacity. omega arith;
      made = λ capacity bytes r b n. made_stands capacity bytes r b n;
      emptied = λ bytes a e. emptied_stands bytes a e;
    }

-- ---- order

chain_order : KeepsOrder chain
chain_order =
    record {
      ordered = λ bytes a e. (stands_from bytes a e).ordered;
      rounded = λ bytes a e. (stands_from bytes a e).front.rounded;
      bounded = λ bytes a e. (stands_from bytes a e).front.bounded;
      as_many = λ bytes a e. (stands_from bytes a e).front.as_many;
    }

-- ---- allocating

all_but_linked :
    (n : Kept) (gs : List Kept) (bytes : List ℕ) →
    AllBut bytes (linked n gs bytes) (link_before first_link n.offset gs) n.offset
all_but_linked n gs bytes =
    let h = with_header n (link_from n.offset gs) bytes in
    let place = link_before first_link n.offset gs in
    record { agrees = λ from to a b. agrees_twice bytes h (linked n gs bytes) from to (agrees_header n (link_from n.offset gs) bytes from to b) (agrees_word h place (suc n.offset) from to a) }

length_linked : (n : Kept) (gs : List Kept) (bytes : List ℕ) → length (linked n gs bytes) ≡ length bytes
length_linked n gs bytes =
    length_word (with_header n (link_from n.offset gs) bytes) (link_before first_link n.offset gs) (suc n.offset) ∙ length_header n (link_from n.offset gs) bytes

placed_stands :
    (bytes : List ℕ) (capacity : ℕ) (gs : List Kept) (n : Kept) → Stands bytes capacity gs → n.signature < 2 ^ 32 →
    FitsSigned w32 n.extent → Room 0 capacity (footprint n.size) gs n.offset →
    Becomes chain capacity (with_kept n gs) bytes (linked n gs bytes) × SameData chain gs bytes (linked n gs bytes)
placed_stands bytes capacity gs n s sg x r =
    let new = linked n gs bytes in
    let link = link_from n.offset gs in
    let place = link_before first_link n.offset gs in
    let h = with_header n link bytes in
    let room : n.offset + footprint n.size ≤ capacity = r.within in
    let many : length bytes ≡ 16 + capacity = s.front.as_many in
    let small : capacity ≤ greatest_capacity = s.front.bounded in
    let least : 12 ≤ place = before_least first_link n.offset 0 capacity gs s.ordered (omega arith) in
    let below : place + 4 ≤ 16 + n.offset = before_below first_link n.offset 0 capacity gs r.aligned s.ordered (omega arith) in
    let nh : length h ≡ length bytes = length_header n link bytes in
    let fits : Fits n = record { size = omega (arith, room, small); signature = sg; extent = x } in
    let bound : 32 + n.offset ≤ length bytes = omega (arith, room, many) in
    let linked_in : link ≤ capacity = link_within n.offset 0 capacity gs s.ordered in
    let w : word_at place new ≡ suc n.offset = word_there h place (suc n.offset) (omega (arith, room, small)) (omega (arith, below, nh, bound)) in
    let k : kept_in n.offset new ≡ n = kept_same h new n.offset (agrees_word h place (suc n.offset) (16 + n.offset) (28 + n.offset) (inr below)) ∙ header_kept n link bytes fits bound in
    let v : word_at (28 + n.offset) new ≡ link = word_other h place (suc n.offset) (28 + n.offset) (inr (omega (arith, below))) ∙ header_link n link bytes (omega (arith, linked_in, small)) bound in
    let f = all_but_linked n gs bytes in
    let m : length new ≡ length bytes = length_linked n gs bytes in (
      record {
        as_many = m;
        stands = stands_for new capacity (with_kept n gs) (record {
          front = front_same bytes new capacity s.front m (f.agrees 0 8 (inl (omega (arith, least))) (inl (omega arith)));
          ordered = in_order_placed capacity (footprint n.size) n gs s.ordered refl (omega arith) r;
          leads = placing bytes new n first_link 0 capacity (footprint n.size) place gs s.ordered s.leads (omega arith) (omega arith) r.apart (omega arith) refl w k v f;
        });
      },
      same_data bytes new 0 capacity gs s.ordered (omega (arith, many)) (omega (arith, many, m)) (data_placing bytes new place n.offset (footprint n.size) gs f (before_not_in_data first_link n.offset 0 capacity gs s.ordered (omega arith)) (omega arith) r.apart),
    )

chain_allocating : KeepsAllocating chain
chain_allocating =
    record {
      placed = λ size signature extent bytes a placed o e al sg x g.
          let s = stands_from bytes a e in
          let room = same_room 0 0 a.capacity (footprint size) a.placed placed refl al ∙ g in
          let n : Kept = record { offset = o; size = size; signature = signature; extent = extent } in
          let r = room_sound 0 a.capacity (footprint size) a.placed o refl s.ordered room in
          let done = placed_stands bytes a.capacity a.placed n s sg x r in
          (linked n a.placed bytes, ap (allocated_in size signature extent bytes) e ∙ ap (placed_at size signature extent a.placed bytes) room, record { becomes = done.0; data_stay = done.1; places_stay = same_places bytes (linked n a.placed bytes) a.placed });
      refused = λ size signature extent bytes a placed e al g.
          ap (allocated_in size signature extent bytes) e ∙ ap (placed_at size signature extent a.placed bytes) (same_room 0 0 a.capacity (footprint size) a.placed placed refl al ∙ g);
    }

-- ---- freeing

all_but_unlinked :
    (o : ℕ) (gs : List Kept) (bytes : List ℕ) → AllButPart bytes (unlinked o gs bytes) (link_before first_link o gs) 4
all_but_unlinked o gs bytes =
    record { agrees = λ from to a. agrees_word bytes (link_before first_link o gs) (link_from (suc o) gs) from to a }

freed_stands :
    (bytes : List ℕ) (capacity : ℕ) (gs : List Kept) (o : ℕ) (g : Kept) → Stands bytes capacity gs → kept_at gs o ≡ Some g →
    Becomes chain capacity (without_kept o gs) bytes (unlinked o gs bytes) × SameData chain (without_kept o gs) bytes (unlinked o gs bytes)
freed_stands bytes capacity gs o g s e =
    let new = unlinked o gs bytes in
    let link = link_from (suc o) gs in
    let place = link_before first_link o gs in
    let there = kept_where 0 capacity o gs g s.ordered e in
    let many : length bytes ≡ 16 + capacity = s.front.as_many in
    let small : capacity ≤ greatest_capacity = s.front.bounded in
    let least : 12 ≤ place = before_least first_link o 0 capacity gs s.ordered (omega arith) in
    let below : place + 4 ≤ 16 + o = before_below first_link o 0 capacity gs there.1 s.ordered (omega arith) in
    let inside : o ≤ capacity = omega (arith, there.2, there.3) in
    let linked_in : link ≤ capacity = link_within (suc o) 0 capacity gs s.ordered in
    let w : word_at place new ≡ link = word_there bytes place link (omega (arith, linked_in, small)) (omega (arith, below, many, inside)) in
    let f = all_but_unlinked o gs bytes in
    let m : length new ≡ length bytes = length_word bytes place link in
    let order = in_order_freed 0 capacity o gs s.ordered in (
      record {
        as_many = m;
        stands = stands_for new capacity (without_kept o gs) (record {
          front = front_same bytes new capacity s.front m (f.agrees 0 8 (inl (omega (arith, least))));
          ordered = order;
          leads = removing bytes new first_link 0 capacity o place gs g s.ordered s.leads (omega arith) e refl w f;
        });
      },
      same_data bytes new 0 capacity (without_kept o gs) order (omega (arith, many)) (omega (arith, many, m)) (data_without bytes new o gs (data_relinking bytes new place gs f (before_not_in_data first_link o 0 capacity gs s.ordered (omega arith)))),
    )

chain_freeing : KeepsFreeing chain
chain_freeing =
    record {
      freed = λ o signature bytes a g e there same.
          let s = stands_from bytes a e in
          let done = freed_stands bytes a.capacity a.placed o g s there in
          let new = unlinked o a.placed bytes in
          (new, ap (freed_in o signature bytes) e ∙ (ap (freed_if o signature a.placed bytes) there ∙ ap (λ t. cond t (Some new) None) (eq_true g.signature signature same)), record { becomes = done.0; data_stay = done.1; places_stay = same_places bytes new (without_kept o a.placed) });
      absent = λ o signature bytes a e there.
          ap (freed_in o signature bytes) e ∙ ap (freed_if o signature a.placed bytes) there;
      another = λ o signature bytes a g e there other.
          ap (freed_in o signature bytes) e ∙ (ap (freed_if o signature a.placed bytes) there ∙ ap (λ t. cond t (Some (unlinked o a.placed bytes)) None) (eq_false g.signature signature other));
    }

-- ---- copying

copied_stands :
    (from to : List ℕ) (source target : ℕ) (gs hs : List Kept) → Stands from source gs → Stands to target hs →
    last_end gs ≤ target →
    Becomes chain target gs to (with_part (part first_link (4 + last_end gs) from) first_link to) × SameData chain gs from (with_part (part first_link (4 + last_end gs) from) first_link to)
copied_stands from to source target gs hs s t l =
    let end = last_end gs in
    let piece = part first_link (4 + end) from in
    let new = with_part piece first_link to in
    let source_many : length from ≡ 16 + source = s.front.as_many in
    let many : length to ≡ 16 + target = t.front.as_many in
    let last : end ≤ source = last_within 0 source gs s.ordered in
    let n : length piece ≡ 4 + end = length_part first_link (4 + end) from (omega (arith, last, source_many)) in
    let m : length new ≡ length to = length_with_part piece first_link to (omega (arith, n, l, many)) in
    let f : Agrees from new 12 (12 + (4 + end)) = agrees_copied from to first_link (4 + end) (omega (arith, last, source_many)) (omega (arith, l, many)) in
    let near : InOrder 0 end gs = in_order_copied 0 source end gs s.ordered (omega arith) (omega arith) in
    let headers = headers_within from new 12 (12 + (4 + end)) 0 end gs near f (omega arith) (omega arith) in
    let first : word_at first_link new ≡ word_at first_link from = word_same from new 12 (12 + (4 + end)) 12 f (omega arith) (omega arith) in (
      record {
        as_many = m;
        stands = stands_for new target gs (record {
          front = front_same to new target t.front m (agrees_with_part piece first_link to 0 8 (omega (arith, many)) (inl (omega arith)));
          ordered = in_order_copied 0 source target gs s.ordered (omega arith) l;
          leads = subst (λ (x : ℕ). Leads x new gs) (sym first) (leads_same from new (word_at first_link from) gs headers s.leads);
        });
      },
      same_data from new 0 end gs near (omega (arith, last, source_many)) (omega (arith, l, many, m)) (data_within from new 12 (12 + (4 + end)) 0 end gs near f (omega arith) (omega arith)),
    )

copied_by :
    (from to : List ℕ) (s t : KeptArea) → chain_area from ≡ Some s → chain_area to ≡ Some t →
    copied_in from to (chain_area from) (chain_area to) ≡ copied_in from to (Some s) (Some t)
copied_by from to s t e f = ap (λ x. copied_in from to x (chain_area to)) e ∙ ap (λ x. copied_in from to (Some s) x) f

chain_copying : KeepsCopying chain
chain_copying =
    record {
      copied = λ from to s t placed e f al l.
          let new = with_part (part first_link (4 + last_end s.placed) from) first_link to in
          let fits : last_end s.placed ≤ t.capacity = omega (arith, same_last s.placed placed al, l) in
          let done = copied_stands from to s.capacity t.capacity s.placed t.placed (stands_from from s e) (stands_from to t f) fits in
          (new, copied_by from to s t e f ∙ ap (λ b. cond b (Some new) None) (le_true (last_end s.placed) t.capacity fits), done.0, done.1);
      refused = λ from to s t placed e f al l.
          let over : t.capacity < last_end s.placed = omega (arith, same_last s.placed placed al, l) in
          copied_by from to s t e f ∙ ap (λ b. cond b (Some (with_part (part first_link (4 + last_end s.placed) from) first_link to)) None) (le_false (last_end s.placed) t.capacity over);
    }

-- ---- data

written_stands :
    (bytes : List ℕ) (capacity : ℕ) (gs : List Kept) (o : ℕ) (g : Kept) (new : List ℕ) (at : ℕ) → Stands bytes capacity gs →
    kept_at gs o ≡ Some g → 32 + o ≤ at → at + length new ≤ 32 + o + g.size →
    Becomes chain capacity gs bytes (with_part new at bytes) × SameData chain (without_kept o gs) bytes (with_part new at bytes)
written_stands bytes capacity gs o g new at s e a b =
    let after = with_part new at bytes in
    let there = kept_where 0 capacity o gs g s.ordered e in
    let many : length bytes ≡ 16 + capacity = s.front.as_many in
    let last : at + length new ≤ length bytes = omega (arith, b, there.2, there.3, many) in
    let m : length after ≡ length bytes = length_with_part new at bytes last in
    let f : AllButPart bytes after at (length new) = record { agrees = λ from to h. agrees_with_part new at bytes from to (omega (arith, last)) h } in
    let w = written_apart bytes after 0 capacity o at (length new) gs g s.ordered e a b f in
    let first : word_at first_link after ≡ word_at first_link bytes = word_same bytes after 12 16 12 (f.agrees 12 16 (inl (omega (arith, a)))) (omega arith) (omega arith) in (
      record {
        as_many = m;
        stands = stands_for after capacity gs (record {
          front = front_same bytes after capacity s.front m (f.agrees 0 8 (inl (omega (arith, a))));
          ordered = s.ordered;
          leads = subst (λ (x : ℕ). Leads x after gs) (sym first) (leads_same bytes after (word_at first_link bytes) gs w.0 s.leads);
        });
      },
      same_data bytes after 0 capacity (without_kept o gs) (in_order_freed 0 capacity o gs s.ordered) (omega (arith, many)) (omega (arith, many, m)) w.1,
    )

chain_writing : KeepsWriting chain
chain_writing =
    record {
      within = λ bytes a o g e there.
          let s = stands_from bytes a e in
          let w = kept_where 0 a.capacity o a.placed g s.ordered there in
          omega (arith, w.2, w.3, s.front.as_many);
      aligned = λ bytes a o g e there.
          let w = kept_where 0 a.capacity o a.placed g (stands_from bytes a e).ordered there in
          omega (arith, w.1);
      apart = λ bytes a o p g h e there other ne.
          let s = stands_from bytes a e in
          let v = kept_where 0 a.capacity o a.placed g s.ordered there in
          let w = kept_where 0 a.capacity p a.placed h s.ordered other in
          far o p g h v.3 w.3 (kept_apart 0 a.capacity o p a.placed g h s.ordered there other ne);
      written = λ bytes a o g new at e there b c.
          let done = written_stands bytes a.capacity a.placed o g new at (stands_from bytes a e) there b c in
          (record { becomes = done.0; data_stay = done.1; places_stay = same_places bytes (with_part new at bytes) (without_kept o a.placed) }, refl);
    }
  where
    far :
        (o p : ℕ) (g h : Kept) → g.offset ≡ o → h.offset ≡ p → (kept_end g ≤ p) ⊎ (kept_end h ≤ o) →
        (32 + o + g.size ≤ 32 + p) ⊎ (32 + p + h.size ≤ 32 + o)
    far o p g h a b (inl x) = inl (omega (arith, a, x))
    far o p g h a b (inr x) = inr (omega (arith, b, x))

-- ---- all of it

pub chain_keeps : Keeps chain
chain_keeps =
    record {
      making = chain_making;
      order = chain_order;
      allocating = chain_allocating;
      freeing = chain_freeing;
      copying = chain_copying;
      writing = chain_writing;
      bytes = chain_bytes;
    }
