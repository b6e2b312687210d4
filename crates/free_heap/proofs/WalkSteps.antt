-- How far walks along free blocks have come, and what they come to.
use Rattle.std.proofs.Common.{◌≡◌, ◌≢◌, ◌⊎◌, inl, inr, ℕ, zero, suc, ◌+◌, ◌-◌, ◌*◌, ◌%◌, ◌^◌, ◌<◌, ◌≤◌, List, []}
use Rattle.std.proofs.Common.{◌∷◌, length, Some, None, refl, sym, ap, ◌∙◌, subst, arith}
use Rattle.std.specs.Prelude.{cond, nat_le, ◌==◌, IsSome}
use Rattle.area_keeper.specs.Chain.{word_at, capacity_in}
use Rattle.free_keeper.proofs.Tests.{eq_false, eq_true, le_false, le_true, lt_false, lt_true}
use Rattle.free_keeper.proofs.Gaps.{Blocks, blocks_of}
use Rattle.free_keeper.proofs.Links.{Listed, Before, blocks_within}
use Rattle.free_keeper.proofs.Relisting.{place_before}
use Rattle.free_keeper.specs.FreeList.{Free, front_for, link_place, link_behind, size_of, gaps, room_behind, Joined}
use Rattle.free_keeper.specs.FreeList.{joined_behind, joined_from, End, end_behind, end_in, steps_for, free_list_area}
use Rattle.free_heap.specs.Places.{IsRoom}
use Rattle.free_heap.proofs.Opened.{opened}

-- what a walk knows at a link, with so many steps left
pub record Walking (bytes : List ℕ) (before link left : ℕ) : Type 0 where
  pub start : ℕ
  pub rest : List Free
  pub leads : link ≡ link_behind (front_for (capacity_in bytes)) before bytes
  pub back : Before before start
  pub listed : Listed (front_for (capacity_in bytes)) link bytes rest
  pub blocks : Blocks start (capacity_in bytes) rest
  pub enough : capacity_in bytes < start + 16 * left

pub walk_begins :
    (bytes : List ℕ) (link : ℕ) → IsSome (free_list_area bytes) → link ≡ word_at 8 bytes →
    Walking bytes 0 link (steps_for (capacity_in bytes))
walk_begins bytes link s e =
    let x = opened bytes s in
    let c = capacity_in bytes in
    let f = front_for c in
    let fs = gaps 0 c x.placed in
    record {
      start = 0;
      rest = fs;
      leads = e;
      back = tt;
      listed = subst (λ (y : ℕ). Listed f y bytes fs) (sym e) x.stands.listed;
      blocks = blocks_of 0 c x.placed refl x.rounded x.stands.ordered;
      enough = omega arith;
    }

-- the block that a link leads to
pub record There (bytes : List ℕ) (link : ℕ) : Type 0 where
  pub inside : front_for (capacity_in bytes) + link + 15 ≤ length bytes
  pub ends : link - 1 + size_of (front_for (capacity_in bytes)) (link - 1) bytes ≤ capacity_in bytes
  pub some : 16 ≤ size_of (front_for (capacity_in bytes)) (link - 1) bytes
  pub rounded : size_of (front_for (capacity_in bytes)) (link - 1) bytes % 16 ≡ 0

pub walk_there :
    (bytes : List ℕ) (before link left : ℕ) → IsSome (free_list_area bytes) → Walking bytes before link left →
    1 ≤ link → There bytes link
walk_there bytes before link left s w h = by_rest w.start w.rest w.listed w.blocks
  where
    f : ℕ
    f = front_for (capacity_in bytes)

    by_rest :
        (start : ℕ) (fs : List Free) → Listed (front_for (capacity_in bytes)) link bytes fs →
        Blocks start (capacity_in bytes) fs → There bytes link
    by_rest start [] l b = absurd (omega (arith, l, h))
    by_rest start (x ∷ xs) l b =
        let o : link - 1 ≡ x.offset = omega (arith, l.0) in
        let size : size_of (front_for (capacity_in bytes)) (link - 1) bytes ≡ x.size =
        ap (λ y. size_of (front_for (capacity_in bytes)) y bytes) o ∙ l.1
        in
        let end = blocks_within (x.offset + x.size) (capacity_in bytes) xs b.4 in
        let n = (opened bytes s).as_many in
        record {
          inside = omega (arith, l.0, end, b.2, n);
          ends = omega (arith, o, size, end);
          some = omega (arith, size, b.2);
          rounded = ap (λ y. y % 16) size ∙ b.3;
        }

pub walk_goes_on :
    (bytes : List ℕ) (before link left behind more : ℕ) → Walking bytes before link left → 1 ≤ link → more + 1 ≡ left →
    behind ≡ word_at (front_for (capacity_in bytes) + link - 1 + 4) bytes → Walking bytes link behind more
walk_goes_on bytes before link left behind more w h m e = by_rest w.start w.rest w.listed w.blocks w.enough
  where
    by_rest :
        (start : ℕ) (fs : List Free) → Listed (front_for (capacity_in bytes)) link bytes fs →
        Blocks start (capacity_in bytes) fs →
        capacity_in bytes < start + 16 * left → Walking bytes link behind more
    by_rest start [] l b n = absurd (omega (arith, l, h))
    by_rest start (x ∷ xs) l b n =
        let f = front_for (capacity_in bytes) in
        let at : f + link - 1 + 4 ≡ 4 + (f + x.offset) = omega (arith, l.0) in
        let q : behind ≡ link_behind f (suc x.offset) bytes = e ∙ ap (λ y. word_at y bytes) at in
        record {
          start = x.offset + x.size;
          rest = xs;
          leads = q ∙ ap (λ y. link_behind f y bytes) (sym l.0);
          back = subst (λ y. Before y (x.offset + x.size)) (sym l.0) (omega (arith, b.2));
          listed = subst (λ y. Listed f y bytes xs) (sym q) l.2;
          blocks = b.4;
          enough = omega (arith, n, m, b.0, b.2);
        }

pub link_read :
    (front link behind : ℕ) (bytes : List ℕ) → 1 ≤ link → behind ≡ word_at (front + link - 1 + 4) bytes →
    behind ≡ link_behind front link bytes
link_read front zero behind bytes h e = absurd (omega (arith, h))
link_read front (suc o) behind bytes h e =
    let at : front + suc o - 1 + 4 ≡ 4 + (front + o) = omega arith in
    e ∙ ap (λ y. word_at y bytes) at

size_read :
    (front link size : ℕ) (bytes : List ℕ) → 1 ≤ link → size ≡ word_at (front + link - 1) bytes →
    size ≡ size_of front (link - 1) bytes
size_read front link size bytes h e =
    let at : front + link - 1 ≡ front + (link - 1) = omega (arith, h) in
    e ∙ ap (λ y. word_at y bytes) at

pub walk_left : (bytes : List ℕ) (before link left : ℕ) → Walking bytes before link left → 1 ≤ left
walk_left bytes before link left w =
    let b = blocks_within w.start (capacity_in bytes) w.rest w.blocks in
    let n = w.enough in
    omega (arith, b, n)

pub place_inside :
    (bytes : List ℕ) (before link left : ℕ) → IsSome (free_list_area bytes) → Walking bytes before link left →
    link_place (front_for (capacity_in bytes)) before + 4 ≤ length bytes
place_inside bytes before link left s w =
    let x = opened bytes s in
    let b = blocks_within w.start (capacity_in bytes) w.rest w.blocks in
    let p = place_before (front_for (capacity_in bytes)) before w.start (omega (arith, x.front)) w.back in
    omega (arith, p, b, x.as_many)

-- ---- the walk to room

pub room_step :
    (left more n front before link : ℕ) (bytes : List ℕ) → more + 1 ≡ left → 1 ≤ link →
    room_behind left n front before link bytes
    ≡ cond (nat_le n (size_of front (link - 1) bytes)) (Some before) (room_behind more n front link (link_behind front
    link bytes) bytes)
room_step zero more n front before link bytes m h = absurd (omega (arith, m))
room_step (suc k) more n front before zero bytes m h = absurd (omega (arith, h))
room_step (suc k) more n front before (suc o) bytes m h =
    let a : o ≡ suc o - 1 = omega arith in
    let b : k ≡ more = omega (arith, m) in
    ap (λ y. cond (nat_le n (size_of front y bytes)) (Some before) (room_behind k n front (suc o) (link_behind front
    (suc o) bytes) bytes)) a
    ∙ ap (λ y. cond (nat_le n (size_of front (suc o - 1) bytes)) (Some before) (room_behind y n front (suc o)
    (link_behind front (suc o) bytes) bytes)) b

pub room_stops :
    (left n front before link : ℕ) (bytes : List ℕ) → link ≡ 0 → room_behind left n front before link bytes ≡ None
room_stops zero n front before link bytes e = refl
room_stops (suc k) n front before link bytes e = ap (λ y. room_behind (suc k) n front before y bytes) e

pub room_over :
    (left n front before link : ℕ) (bytes : List ℕ) → left ≡ 0 → room_behind left n front before link bytes ≡ None
room_over left n front before link bytes e = ap (λ y. room_behind y n front before link bytes) e

pub record RoomWalk (bytes : List ℕ) (needed before link left : ℕ) : Type 0 where
  pub walking : Walking bytes before link left
  pub same :
      room_behind (steps_for (capacity_in bytes)) needed (front_for (capacity_in bytes)) 0 (link_behind (front_for
      (capacity_in bytes)) 0 bytes) bytes
      ≡ room_behind left needed (front_for (capacity_in bytes)) before link bytes

pub room_begins :
    (bytes : List ℕ) (needed link left : ℕ) → IsSome (free_list_area bytes) → link ≡ word_at 8 bytes →
    left ≡ steps_for (capacity_in bytes) →
    RoomWalk bytes needed 0 link left
room_begins bytes needed link left s e l =
    let P : ℕ → Type 0 = λ y. RoomWalk bytes needed 0 link y in
    let f = front_for (capacity_in bytes) in
    subst P (sym l) (record {
      walking = walk_begins bytes link s e;
      same = ap (λ y. room_behind (steps_for
          (capacity_in bytes)) needed f 0 y bytes) (sym e);
    })

pub room_here :
    (bytes : List ℕ) (needed before link left front size : ℕ) → RoomWalk bytes needed before link left →
    front ≡ front_for (capacity_in bytes) → 1 ≤ link → size ≡ word_at (front + link - 1) bytes → needed ≤ size →
    Some before
    ≡ room_behind (steps_for (capacity_in bytes)) needed (front_for (capacity_in bytes)) 0 (link_behind (front_for
    (capacity_in bytes)) 0 bytes) bytes
room_here bytes needed before link left front size w f h e l =
    let g = front_for (capacity_in bytes) in
    let z = size_read g link size bytes h (e ∙ ap (λ y. word_at (y + link - 1) bytes) f) in
    let some = walk_left bytes before link left w.walking in
    let further = room_behind (left - 1) needed g link (link_behind g link bytes) bytes in
    sym (w.same
    ∙ (room_step left (left - 1) needed g before link bytes (omega (arith, some)) h
    ∙ ap (λ t. cond t (Some before) (room_behind (left - 1) needed g link (link_behind g link bytes) bytes)) (le_true
    needed (size_of g (link - 1) bytes) (omega (arith, z, l)))))

pub room_goes :
    (bytes : List ℕ) (needed before link left front size behind more : ℕ) → RoomWalk bytes needed before link left →
    front ≡ front_for (capacity_in bytes) → 1 ≤ link → size ≡ word_at (front + link - 1) bytes → size < needed →
    behind ≡ word_at (front + link - 1 + 4) bytes → more + 1 ≡ left → RoomWalk bytes needed link behind more
room_goes bytes needed before link left front size behind more w f h e l b m =
    let g = front_for (capacity_in bytes) in
    let z = size_read g link size bytes h (e ∙ ap (λ y. word_at (y + link - 1) bytes) f) in
    let next : behind ≡ word_at (g + link - 1 + 4) bytes = b ∙ ap (λ y. word_at (y + link - 1 + 4) bytes) f in
    record {
      walking = walk_goes_on bytes before link left behind more w.walking h m next;
      same =
          w.same
          ∙ (room_step left more needed g before link bytes m h
          ∙ (ap (λ t. cond t (Some before) (room_behind more needed g link (link_behind g link bytes) bytes))
          (le_false needed (size_of g (link - 1) bytes) (omega (arith, z, l)))
          ∙ ap (λ y. room_behind more needed g link y bytes) (sym (link_read g link behind bytes h next))));
    }

pub is_room :
    (bytes : List ℕ) (before link left needed : ℕ) → IsSome (free_list_area bytes) → Walking bytes before link left →
    1 ≤ link →
    needed % 16 ≡ 0 → 16 ≤ needed → needed ≤ size_of (front_for (capacity_in bytes)) (link - 1) bytes →
    IsRoom bytes (front_for (capacity_in bytes)) needed before
is_room bytes before link left needed s w h r some e =
    let x = opened bytes s in
    let t = walk_there bytes before link left s w h in
    let f = front_for (capacity_in bytes) in
    let l = w.leads in
    let ends = t.ends in
    let n = x.as_many in
    let P : ℕ → Type 0 = λ y. IsRoom bytes f needed before in
    let size : size_of f (link_behind f before bytes - 1) bytes ≡ size_of f (link - 1) bytes = ap (λ y. size_of f (y -
    1) bytes) (sym l) in
    record {
      place = place_inside bytes before link left s w;
      some = omega (arith, l, h);
      inside = omega (arith, l, size, ends, n);
      fits = either (size_of f (link - 1) bytes) size e t.rounded;
      wide = some;
      small = omega (arith, x.small);
    }
  where
    either :
        (y : ℕ) → size_of (front_for (capacity_in bytes)) (link_behind (front_for (capacity_in bytes)) before bytes -
        1) bytes ≡ y →
        needed ≤ y → y % 16 ≡ 0 →
        (size_of (front_for (capacity_in bytes)) (link_behind (front_for (capacity_in bytes)) before bytes - 1) bytes
        ≡ needed)
        ⊎ (needed + 16 ≤ size_of (front_for (capacity_in bytes)) (link_behind (front_for (capacity_in bytes)) before
        bytes - 1) bytes)
    either y q l m = grind (arith, q, l, m, r)

-- ---- the walk to what is freed

pub joined_step :
    (left more front o n before link : ℕ) (bytes : List ℕ) → more + 1 ≡ left → 1 ≤ link → link ≤ o + 1 →
    joined_from left front o n before link bytes
    ≡ cond (link - 1 + size_of front (link - 1) bytes == o)
    (joined_behind front before (link - 1) (size_of front (link - 1) bytes + n) (link_behind front link bytes) bytes)
    (joined_from more front o n link (link_behind front link bytes) bytes)
joined_step zero more front o n before link bytes m h i = absurd (omega (arith, m))
joined_step (suc k) more front o n before zero bytes m h i = absurd (omega (arith, h))
joined_step (suc k) more front o n before (suc p) bytes m h i =
    let a : p ≡ suc p - 1 = omega arith in
    let b : k ≡ more = omega (arith, m) in
    let next = link_behind front (suc p) bytes in
    ap (λ t. cond t (joined_behind front before o n (suc p) bytes) (cond (p + size_of front p bytes == o)
    (joined_behind front before p (size_of front p bytes + n) next bytes) (joined_from k front o n (suc p) next
    bytes))) (lt_false o p (omega (arith, i)))
    ∙ (ap (λ y. cond (y + size_of front y bytes == o) (joined_behind front before y (size_of front y bytes + n) next
    bytes) (joined_from k front o n (suc p) next bytes)) a
    ∙ ap (λ y. cond (suc p - 1 + size_of front (suc p - 1) bytes == o) (joined_behind front before (suc p - 1)
    (size_of front (suc p - 1) bytes + n) next bytes) (joined_from y front o n (suc p) next bytes)) b)

pub joined_stops :
    (left front o n before link : ℕ) (bytes : List ℕ) → (link ≡ 0) ⊎ (o + 1 < link) →
    joined_from left front o n before link bytes ≡ joined_behind front before o n link bytes
joined_stops zero front o n before link bytes e = refl
joined_stops (suc k) front o n before zero bytes e = refl
joined_stops (suc k) front o n before (suc p) bytes (inl e) = absurd (omega (arith, e))
joined_stops (suc k) front o n before (suc p) bytes (inr e) =
    let next = link_behind front (suc p) bytes in
    ap (λ t. cond t (joined_behind front before o n (suc p) bytes) (cond (p + size_of front p bytes == o)
    (joined_behind front before p (size_of front p bytes + n) next bytes) (joined_from k front o n (suc p) next
    bytes))) (lt_true o p (omega (arith, e)))

pub record JoinWalk (bytes : List ℕ) (o n before link left : ℕ) : Type 0 where
  pub walking : Walking bytes before link left
  pub same :
      joined_from (steps_for (capacity_in bytes)) (front_for (capacity_in bytes)) o n 0 (link_behind (front_for
      (capacity_in bytes)) 0 bytes) bytes
      ≡ joined_from left (front_for (capacity_in bytes)) o n before link bytes

pub join_begins :
    (bytes : List ℕ) (o n link left : ℕ) → IsSome (free_list_area bytes) → link ≡ word_at 8 bytes →
    left ≡ steps_for (capacity_in bytes) →
    JoinWalk bytes o n 0 link left
join_begins bytes o n link left s e l =
    let P : ℕ → Type 0 = λ y. JoinWalk bytes o n 0 link y in
    let f = front_for (capacity_in bytes) in
    subst P (sym l) (record {
      walking = walk_begins bytes link s e;
      same = ap (λ y. joined_from (steps_for
          (capacity_in bytes)) f o n 0 y bytes) (sym e);
    })

pub join_here :
    (bytes : List ℕ) (o n before link left front size behind : ℕ) (j : Joined) → JoinWalk bytes o n before link left →
    front ≡ front_for (capacity_in bytes) → 1 ≤ link → link ≤ o + 1 → size ≡ word_at (front + link - 1) bytes →
    behind ≡ word_at (front + link - 1 + 4) bytes → link - 1 + size ≡ o →
    j ≡ joined_behind front before (link - 1) (size + n) behind bytes →
    j ≡ joined_from (steps_for (capacity_in bytes)) (front_for (capacity_in bytes)) o n 0 (link_behind (front_for
    (capacity_in bytes)) 0 bytes) bytes
join_here bytes o n before link left front size behind j w f h i e b t k =
    let g = front_for (capacity_in bytes) in
    let z = size_read g link size bytes h (e ∙ ap (λ y. word_at (y + link - 1) bytes) f) in
    let next = link_read g link behind bytes h (b ∙ ap (λ y. word_at (y + link - 1 + 4) bytes) f) in
    let some = walk_left bytes before link left w.walking in
    let further = joined_from (left - 1) g o n link (link_behind g link bytes) bytes in
    let there : joined_behind g before (link - 1) (size_of g (link - 1) bytes + n) (link_behind g link bytes) bytes ≡
    joined_behind front before (link - 1) (size + n) behind bytes =
    ap (λ y. joined_behind y before (link - 1) (size_of g (link - 1) bytes + n) (link_behind g link bytes) bytes) (sym
    f)
    ∙ (ap (λ y. joined_behind front before (link - 1) (y + n) (link_behind g link bytes) bytes) (sym z)
    ∙ ap (λ y. joined_behind front before (link - 1) (size + n) y bytes) (sym next))
    in
    k
    ∙ sym (w.same
    ∙ (joined_step left (left - 1) g o n before link bytes (omega (arith, some)) h i
    ∙ (ap (λ t. cond t (joined_behind g before (link - 1) (size_of g (link - 1) bytes + n) (link_behind g link bytes)
    bytes) (joined_from (left - 1) g o n link (link_behind g link bytes) bytes)) (eq_true (link - 1 + size_of g (link
    - 1) bytes) o (omega (arith, z, t)))
    ∙ there)))

pub join_goes :
    (bytes : List ℕ) (o n before link left front size behind more : ℕ) → JoinWalk bytes o n before link left →
    front ≡ front_for (capacity_in bytes) → 1 ≤ link → link ≤ o + 1 → size ≡ word_at (front + link - 1) bytes →
    behind ≡ word_at (front + link - 1 + 4) bytes → link - 1 + size ≢ o → more + 1 ≡ left →
    JoinWalk bytes o n link behind more
join_goes bytes o n before link left front size behind more w f h i e b t m =
    let g = front_for (capacity_in bytes) in
    let z = size_read g link size bytes h (e ∙ ap (λ y. word_at (y + link - 1) bytes) f) in
    let next : behind ≡ word_at (g + link - 1 + 4) bytes = b ∙ ap (λ y. word_at (y + link - 1 + 4) bytes) f in
    record {
      walking = walk_goes_on bytes before link left behind more w.walking h m next;
      same =
          w.same
          ∙ (joined_step left more g o n before link bytes m h i
          ∙ (ap (λ t. cond t (joined_behind g before (link - 1) (size_of g (link - 1) bytes + n) (link_behind g link
          bytes) bytes) (joined_from more g o n link (link_behind g link bytes) bytes)) (eq_false (link - 1 + size_of
          g (link - 1) bytes) o (λ x. t (omega (arith, x, z))))
          ∙ ap (λ y. joined_from more g o n link y bytes) (sym (link_read g link behind bytes h next))));
    }

pub join_stops :
    (bytes : List ℕ) (o n before link left front : ℕ) (j : Joined) → JoinWalk bytes o n before link left →
    front ≡ front_for (capacity_in bytes) → (link ≡ 0) ⊎ (o + 1 < link) →
    j ≡ joined_behind front before o n link bytes →
    j ≡ joined_from (steps_for (capacity_in bytes)) (front_for (capacity_in bytes)) o n 0 (link_behind (front_for
    (capacity_in bytes)) 0 bytes) bytes
join_stops bytes o n before link left front j w f e k =
    k
    ∙ (ap (λ y. joined_behind y before o n link bytes) f
    ∙ sym (w.same ∙ joined_stops left (front_for (capacity_in bytes)) o n before link bytes e))

-- a walk has its end before its steps have
pub walk_over : (bytes : List ℕ) (before link left : ℕ) → Walking bytes before link left → left ≡ 0 → ⊥
walk_over bytes before link left w e = let l = walk_left bytes before link left w in omega (arith, l, e)

-- the block that a link leads to, where what is joined looks
pub joins_inside :
    (bytes : List ℕ) (before link left front end : ℕ) → IsSome (free_list_area bytes) → Walking bytes before link left →
    front ≡ front_for (capacity_in bytes) → link ≡ suc end → front + link + 7 ≤ length bytes
joins_inside bytes before link left front end s w f e =
    let t = walk_there bytes before link left s w (omega (arith, e)) in
    let i = t.inside in
    omega (arith, i, f)

pub joins_further :
    (bytes : List ℕ) (before link left front end : ℕ) → IsSome (free_list_area bytes) → Walking bytes before link left →
    front ≡ front_for (capacity_in bytes) → link ≡ suc end → size_of front end bytes < 2 ^ 31
joins_further bytes before link left front end s w f e =
    let t = walk_there bytes before link left s w (omega (arith, e)) in
    let x = opened bytes s in
    let o : end ≡ link - 1 = omega (arith, e) in
    let z : size_of front end bytes ≡ size_of (front_for (capacity_in bytes)) (link - 1) bytes =
    ap (λ y. size_of y end bytes) f ∙ ap (λ y. size_of (front_for (capacity_in bytes)) y bytes) o
    in
    let n = t.ends in
    omega (arith, z, n, x.bounded)

-- ---- the walk to the end

pub end_step :
    (left more front c before link : ℕ) (bytes : List ℕ) → more + 1 ≡ left → 1 ≤ link →
    end_behind left front c before link bytes
    ≡ cond (link - 1 + size_of front (link - 1) bytes == c) (record { from = link - 1; before = before })
    (end_behind more front c link (link_behind front link bytes) bytes)
end_step zero more front c before link bytes m h = absurd (omega (arith, m))
end_step (suc k) more front c before zero bytes m h = absurd (omega (arith, h))
end_step (suc k) more front c before (suc o) bytes m h =
    let a : o ≡ suc o - 1 = omega arith in
    let b : k ≡ more = omega (arith, m) in
    let next = link_behind front (suc o) bytes in
    ap (λ y. cond (y + size_of front y bytes == c) (record { from = y; before = before }) (end_behind k front c (suc
    o) next bytes)) a
    ∙ ap (λ y. cond (suc o - 1 + size_of front (suc o - 1) bytes == c) (record { from = suc o - 1; before = before })
    (end_behind y front c (suc o) next bytes)) b

pub end_stops :
    (left front c before link : ℕ) (bytes : List ℕ) → link ≡ 0 →
    end_behind left front c before link bytes ≡ record { from = c; before = before }
end_stops zero front c before link bytes e = refl
end_stops (suc k) front c before link bytes e = ap (λ y. end_behind (suc k) front c before y bytes) e

pub record EndWalk (bytes : List ℕ) (before link left : ℕ) : Type 0 where
  pub walking : Walking bytes before link left
  pub same : end_in bytes ≡ end_behind left (front_for (capacity_in bytes)) (capacity_in bytes) before link bytes

pub end_begins :
    (bytes : List ℕ) (link left : ℕ) → IsSome (free_list_area bytes) → link ≡ word_at 8 bytes →
    left ≡ steps_for (capacity_in bytes) →
    EndWalk bytes 0 link left
end_begins bytes link left s e l =
    let P : ℕ → Type 0 = λ y. EndWalk bytes 0 link y in
    let c = capacity_in bytes in
    let f = front_for c in
    subst P (sym l) (record {
      walking = walk_begins bytes link s e;
      same = ap (λ y. end_behind (steps_for c) f c 0 y
          bytes) (sym e);
    })

same_end : (e : End) (from before : ℕ) → e ≡ record {
  from =
      from;
  before = before;
} → (from ≡ e.from) × (before ≡ e.before)
same_end e from before q = (sym (ap (λ (x : End). x.from) q), sym (ap (λ (x : End). x.before) q))

pub end_stops_here :
    (bytes : List ℕ) (before link left capacity : ℕ) → EndWalk bytes before link left →
    capacity ≡ capacity_in bytes → link ≡ 0 →
    (capacity ≡ (end_in bytes).from) × (before ≡ (end_in bytes).before)
end_stops_here bytes before link left capacity w c e =
    let f = front_for (capacity_in bytes) in
    same_end (end_in bytes) capacity before (w.same ∙ (end_stops left f (capacity_in bytes) before link bytes e ∙ ap
    (λ (y : ℕ). let x : End = record { from = y; before = before } in x) (sym c)))

pub end_here :
    (bytes : List ℕ) (before link left front size capacity : ℕ) → EndWalk bytes before link left →
    front ≡ front_for (capacity_in bytes) →
    capacity ≡ capacity_in bytes → 1 ≤ link → size ≡ word_at (front + link - 1) bytes → link - 1 + size ≡ capacity →
    (link - 1 ≡ (end_in bytes).from) × (before ≡ (end_in bytes).before)
end_here bytes before link left front size capacity w f c h e t =
    let k = capacity_in bytes in
    let g = front_for k in
    let z = size_read g link size bytes h (e ∙ ap (λ y. word_at (y + link - 1) bytes) f) in
    let some = walk_left bytes before link left w.walking in
    same_end (end_in bytes) (link - 1) before (w.same
    ∙ (end_step left (left - 1) g k before link bytes (omega (arith, some)) h
    ∙ ap (λ b. cond b (record { from = link - 1; before = before }) (end_behind (left - 1) g k link (link_behind g
    link bytes) bytes)) (eq_true (link - 1 + size_of g (link - 1) bytes) k (omega (arith, z, t, c)))))

pub end_goes :
    (bytes : List ℕ) (before link left front size capacity behind more : ℕ) → EndWalk bytes before link left →
    front ≡ front_for (capacity_in bytes) → capacity ≡ capacity_in bytes → 1 ≤ link →
    size ≡ word_at (front + link - 1) bytes →
    link - 1 + size ≢ capacity → behind ≡ word_at (front + link - 1 + 4) bytes → more + 1 ≡ left →
    EndWalk bytes link behind more
end_goes bytes before link left front size capacity behind more w f c h e t b m =
    let k = capacity_in bytes in
    let g = front_for k in
    let z = size_read g link size bytes h (e ∙ ap (λ y. word_at (y + link - 1) bytes) f) in
    let next : behind ≡ word_at (g + link - 1 + 4) bytes = b ∙ ap (λ y. word_at (y + link - 1 + 4) bytes) f in
    record {
      walking = walk_goes_on bytes before link left behind more w.walking h m next;
      same =
          w.same
          ∙ (end_step left more g k before link bytes m h
          ∙ (ap (λ b. cond b (record { from = link - 1; before = before }) (end_behind more g k link (link_behind g
          link bytes) bytes)) (eq_false (link - 1 + size_of g (link - 1) bytes) k (λ x. t (omega (arith, x, z, c))))
          ∙ ap (λ y. end_behind more g k link y bytes) (sym (link_read g link behind bytes h next))));
    }

-- ---- what is read at a link

pub step_inside :
    (bytes : List ℕ) (before link left front : ℕ) → IsSome (free_list_area bytes) → Walking bytes before link left →
    front ≡ front_for (capacity_in bytes) → link ≢ 0 → front + link - 1 + 16 ≤ length bytes
step_inside bytes before link left front s w f n =
    let t = walk_there bytes before link left s w (omega (arith, n)) in
    let i = t.inside in
    omega (arith, i, f)

pub step_ends :
    (bytes : List ℕ) (before link left front size : ℕ) → IsSome (free_list_area bytes) →
    Walking bytes before link left →
    front ≡ front_for (capacity_in bytes) → link ≢ 0 → size ≡ word_at (front + link - 1) bytes →
    link - 1 + size ≤ capacity_in bytes
step_ends bytes before link left front size s w f n e =
    let h : 1 ≤ link = omega (arith, n) in
    let t = walk_there bytes before link left s w h in
    let z = size_read (front_for (capacity_in bytes)) link size bytes h (e ∙ ap (λ y. word_at (y + link - 1) bytes) f)
    in
    let i = t.ends in
    omega (arith, i, z)

pub size_there :
    (bytes : List ℕ) (link front size : ℕ) → front ≡ front_for (capacity_in bytes) → 1 ≤ link →
    size ≡ word_at (front + link - 1) bytes →
    size ≡ size_of (front_for (capacity_in bytes)) (link - 1) bytes
size_there bytes link front size f h e =
    size_read (front_for (capacity_in bytes)) link size bytes h (e ∙ ap (λ y. word_at (y + link - 1) bytes) f)

pub next_walk :
    (bytes : List ℕ) (before link left front behind : ℕ) → Walking bytes before link left →
    front ≡ front_for (capacity_in bytes) →
    link ≢ 0 → behind ≡ word_at (front + link - 1 + 4) bytes → Walking bytes link behind (left - 1)
next_walk bytes before link left front behind w f n b =
    let some = walk_left bytes before link left w in
    walk_goes_on bytes before link left behind (left - 1) w (omega (arith, n)) (omega (arith, some)) (b ∙ ap (λ y.
    word_at (y + link - 1 + 4) bytes) f)
