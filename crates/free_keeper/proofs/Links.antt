-- Links along free blocks: what stays where bytes agree, and what walks along them come to.
use Rattle.std.proofs.Common.{◌≡◌, ◌⊎◌, inl, inr, ℕ, zero, suc, ◌+◌, ◌-◌, ◌*◌, ◌%◌, ◌<◌, ◌≤◌, List, [], ◌∷◌, ◌++◌}
use Rattle.std.proofs.Common.{Option, Some, None, Bool, true, false, refl, sym, ap, ◌∙◌, subst, arith}
use Rattle.std.specs.Prelude.{cond, nat_le, nat_lt, ◌==◌, ◌&&◌}
use Rattle.area_keeper.specs.Chain.{word_at}
use Rattle.area_keeper.proofs.Agreement.{Agrees, word_same}
use Rattle.free_keeper.proofs.Tests.{both, and_true, eq_false, eq_tells, eq_true, le_tells, lt_tells}
use Rattle.free_keeper.proofs.Gaps.{Blocks, first_room, rest_of, taken, join_next, joined, Short, Clear}
use Rattle.free_keeper.specs.FreeList.{Free, free, link_behind, size_of, gap_before, is_listed, room_behind, Joined}
use Rattle.free_keeper.specs.FreeList.{joined_behind, joined_from, End, end_behind}

-- links lead along these free blocks, and to nothing behind them
abbrev pub Listed : (front link : ℕ) → List ℕ → List Free → Type 0
Listed front link bytes [] = link ≡ 0
Listed front link bytes (f ∷ fs) =
    (link ≡ suc f.offset) × (size_of front f.offset bytes ≡ f.size) × Listed front (link_behind front (suc f.offset)
    bytes) bytes fs

pub listed_tells :
    (front link : ℕ) (bytes : List ℕ) (fs : List Free) → is_listed front link bytes fs ≡ true →
    Listed front link bytes fs
listed_tells front link bytes [] e = eq_tells link 0 true e
listed_tells front link bytes (f ∷ fs) e =
    let rest = is_listed front (link_behind front (suc f.offset) bytes) bytes fs in
    let t = both (link == suc f.offset) ((size_of front f.offset bytes == f.size) && rest) e in
    let u = both (size_of front f.offset bytes == f.size) rest t.1 in (
      eq_tells link (suc f.offset) true t.0,
      eq_tells (size_of front f.offset bytes) f.size true u.0,
      listed_tells
          front (link_behind front (suc f.offset) bytes) bytes fs u.1,
    )

pub listed_true :
    (front link : ℕ) (bytes : List ℕ) (fs : List Free) → Listed front link bytes fs →
    is_listed front link bytes fs ≡ true
listed_true front link bytes [] h = eq_true link 0 h
listed_true front link bytes (f ∷ fs) h =
    let rest = is_listed front (link_behind front (suc f.offset) bytes) bytes fs in
    and_true (link == suc f.offset) ((size_of front f.offset bytes == f.size) && rest) (eq_true link (suc f.offset)
    h.0) (and_true (size_of front f.offset bytes == f.size) rest (eq_true (size_of front f.offset bytes) f.size h.1)
    (listed_true front (link_behind front (suc f.offset) bytes) bytes fs h.2))

-- links lead along these free blocks, from what leads to the first up to what leads past the last
abbrev pub Chained : (front before : ℕ) → List ℕ → List Free → (last : ℕ) → Type 0
Chained front b bytes [] l = b ≡ l
Chained front b bytes (f ∷ fs) l =
    (link_behind front b bytes ≡ suc f.offset) × (size_of front f.offset bytes ≡ f.size) × Chained front (suc
    f.offset) bytes fs l

pub listed_behind :
    (front b l : ℕ) (bytes : List ℕ) (fs rest : List Free) → Chained front b bytes fs l →
    Listed front (link_behind front l bytes) bytes rest → Listed front (link_behind front b bytes) bytes (fs ++ rest)
listed_behind front b l bytes [] rest c h = subst (λ x. Listed front (link_behind front x bytes) bytes rest) (sym c) h
listed_behind front b l bytes (f ∷ fs) rest c h = (c.0, c.1, listed_behind front (suc f.offset) l bytes fs rest c.2 h)

-- what leads to a place lies in front of it
abbrev pub Before : (before start : ℕ) → Type 0
Before zero start = Unit {0}
Before (suc o) start = o + 16 ≤ start

before_least : (b start : ℕ) → Before b start → b ≤ start
before_least zero start h = omega arith
before_least (suc o) start h = omega (arith, h)

before_more : (b start c : ℕ) → Before b start → start ≤ c → Before b c
before_more zero start c h l = tt
before_more (suc o) start c h l = omega (arith, h, l)

pub blocks_within : (start c : ℕ) (fs : List Free) → Blocks start c fs → start ≤ c
blocks_within start c [] h = h
blocks_within start c (f ∷ fs) h = omega (arith, h.0, blocks_within (f.offset + f.size) c fs h.4)

pub reached :
    (front b l start c : ℕ) (bytes : List ℕ) (fs : List Free) → Chained front b bytes fs l → Blocks start c fs →
    b ≤ start → b ≤ l
reached front b l start c bytes [] h k i = omega (arith, h)
reached front b l start c bytes (f ∷ fs) h k i =
    let r = reached front (suc f.offset) l (f.offset + f.size) c bytes fs h.2 k.4 (omega (arith, k.2)) in
    omega (arith, i, k.0, r)

pub last_before :
    (front b l start c : ℕ) (bytes : List ℕ) (fs : List Free) → Chained front b bytes fs l → Blocks start c fs →
    Before b start →
    Before l c
last_before front b l start c bytes [] h k i = subst (λ x. Before x c) h (before_more b start c i k)
last_before front b l start c bytes (f ∷ fs) h k i =
    last_before front (suc f.offset) l (f.offset + f.size) c bytes fs h.2 k.4 (omega (arith, k.2))

pub record Split (start c : ℕ) (xs : List Free) (f : Free) (ys : List Free) : Type 0 where
  pub passed : Blocks start f.offset xs
  pub behind : start ≤ f.offset
  pub aligned : f.offset % 16 ≡ 0
  pub some : 16 ≤ f.size
  pub rounded : f.size % 16 ≡ 0
  pub rest : Blocks (f.offset + f.size) c ys

pub blocks_split :
    (start c : ℕ) (xs : List Free) (f : Free) (ys : List Free) → Blocks start c (xs ++ (f ∷ ys)) → Split start c xs f ys
blocks_split start c [] f ys h =
    record { passed = h.0; behind = h.0; aligned = h.1; some = h.2; rounded = h.3; rest = h.4 }
blocks_split start c (x ∷ xs) f ys h =
    let r = blocks_split (x.offset + x.size) c xs f ys h.4 in
    record {
      passed =
          (h.0, h.1, h.2, h.3, r.passed);
      behind = omega (arith, h.0, r.behind);
      aligned = r.aligned;
      some = r.some;
      rounded = r.rounded;
      rest = r.rest;
    }

-- ---- bytes that agree

-- the words up to what leads past the last, also where capacities begin at other places
pub record Passed (old new : List ℕ) (f g l : ℕ) : Type 0 where
  pub head : 0 < l → word_at 8 new ≡ word_at 8 old
  pub words : (x : ℕ) → x < l → word_at (g + x) new ≡ word_at (f + x) old

pub chained_moved :
    (old new : List ℕ) (f g b l start c : ℕ) (fs : List Free) → Chained f b old fs l → Blocks start c fs →
    Before b start →
    Passed old new f g l → Chained g b new fs l
chained_moved old new f g b l start c [] h k i p = h
chained_moved old new f g b l start c (x ∷ fs) h k i p =
    let r = reached f (suc x.offset) l (x.offset + x.size) c old fs h.2 k.4 (omega (arith, k.2)) in (
      link b i ∙ h.0,
      p.words x.offset (omega (arith, r)) ∙ h.1,
      chained_moved old new f g (suc x.offset) l (x.offset +
          x.size) c fs h.2 k.4 (omega (arith, k.2)) p,
    )
  where
    there : suc x.offset ≤ l
    there = reached f (suc x.offset) l (x.offset + x.size) c old fs h.2 k.4 (omega (arith, k.2))

    link : (b : ℕ) → Before b start → link_behind g b new ≡ link_behind f b old
    link zero i = p.head (omega (arith, there))
    link (suc o) i =
        let y : 4 + (g + o) ≡ g + (4 + o) = omega arith in
        let z : f + (4 + o) ≡ 4 + (f + o) = omega arith in
        ap (λ at. word_at at new) y ∙ (p.words (4 + o) (omega (arith, i, k.0, there)) ∙ ap (λ at. word_at at old) z)

-- the words of free blocks
abbrev pub SameBlocks : (old new : List ℕ) (front : ℕ) → List Free → Type 0
SameBlocks old new front [] = Unit {0}
SameBlocks old new front (f ∷ fs) =
    Agrees old new (front + f.offset) (8 + (front + f.offset)) × SameBlocks old new front fs

pub listed_same :
    (old new : List ℕ) (front link : ℕ) (fs : List Free) → Listed front link old fs → SameBlocks old new front fs →
    Listed front link new fs
listed_same old new front link [] h s = h
listed_same old new front link (f ∷ fs) h s =
    let at = front + f.offset in
    let size = word_same old new at (8 + at) at s.0 (omega arith) (omega arith) in
    let next = word_same old new at (8 + at) (4 + at) s.0 (omega arith) (omega arith) in (
      h.0,
      size ∙ h.1,
      subst (λ x. Listed front x new fs) (sym next) (listed_same old new front (link_behind front (suc
          f.offset) old) fs h.2 s.1),
    )

-- all behind a front, but for a part of the capacity
pub record AllBut (old new : List ℕ) (front from to : ℕ) : Type 0 where
  pub agrees : (a b : ℕ) → front ≤ a → (b ≤ front + from) ⊎ (front + to ≤ a) → Agrees old new a b

pub blocks_clear :
    (old new : List ℕ) (front from to start c : ℕ) (fs : List Free) → AllBut old new front from to → Blocks start c fs →
    Clear from to fs → SameBlocks old new front fs
blocks_clear old new front from to start c [] f k h = tt
blocks_clear old new front from to start c (x ∷ fs) f k h = (
  f.agrees (front + x.offset) (8 + (front + x.offset)) (omega arith) (side h.0),
  blocks_clear old new front from to
      (x.offset + x.size) c fs f k.4 h.1,
)
  where
    side :
        (x.offset + x.size ≤ from) ⊎ (to ≤ x.offset) →
        (8 + (front + x.offset) ≤ front + from) ⊎ (front + to ≤ front + x.offset)
    side (inl i) = inl (omega (arith, i, k.2))
    side (inr i) = inr (omega (arith, i))

-- ---- the walk to room

pub record Room (front b start c n o : ℕ) (bytes : List ℕ) (fs : List Free) (walk : Option ℕ) : Type 0 where
  pub before : ℕ
  pub passed : List Free
  pub block : Free
  pub rest : List Free
  pub walked : walk ≡ Some before
  pub offset : block.offset ≡ o
  pub enough : n ≤ block.size
  pub chained : Chained front b bytes passed before
  pub listed : Listed front (link_behind front before bytes) bytes (block ∷ rest)
  pub split : fs ≡ passed ++ (block ∷ rest)
  pub leaves : taken n fs ≡ passed ++ rest_of n block rest

pub room_found :
    (steps front b link start c n o : ℕ) (bytes : List ℕ) (fs : List Free) → link ≡ link_behind front b bytes →
    Listed front link bytes fs → Blocks start c fs → c < start + 16 * steps → first_room n fs ≡ Some o →
    Room front b start c n o bytes fs (room_behind steps n front b link bytes)
room_found steps front b link start c n o bytes [] e h k s r = absurd (cc r)
room_found zero front b link start c n o bytes (f ∷ fs) e h k s r =
    absurd (omega (arith, s, blocks_within start c (f ∷ fs) k))
room_found (suc steps) front b link start c n o bytes (f ∷ fs) e h k s r =
    by_test (nat_le n f.size) refl r (λ q. room_found steps front (suc f.offset) (link_behind front (suc f.offset)
    bytes) (f.offset + f.size) c n o bytes fs refl h.2 k.4 (omega (arith, s, k.0, k.2)) q)
  where
    here : Bool → Option ℕ
    here t = cond t (Some b) (room_behind steps n front (suc f.offset) (link_behind front (suc f.offset) bytes) bytes)

    walk :
        room_behind (suc steps) n front b link bytes ≡ cond (nat_le n f.size) (Some b) (room_behind steps n front (suc
        f.offset) (link_behind front (suc f.offset) bytes) bytes)
    walk =
        ap (λ x. room_behind (suc steps) n front b x bytes) h.0
        ∙ ap (λ x. cond (nat_le n x) (Some b) (room_behind steps n front (suc f.offset) (link_behind front (suc
        f.offset) bytes) bytes)) h.1

    by_test :
        (t : Bool) → nat_le n f.size ≡ t → cond t (Some f.offset) (first_room n fs) ≡ Some o →
        (first_room n fs ≡ Some o → Room front (suc f.offset) (f.offset + f.size) c n o bytes fs (room_behind steps n
        front (suc f.offset) (link_behind front (suc f.offset) bytes) bytes)) →
        Room front b start c n o bytes (f ∷ fs) (room_behind (suc steps) n front b link bytes)
    by_test true t r rest =
        let q : f.offset ≡ o = cc r in
        record {
          before = b;
          passed = [];
          block = f;
          rest = fs;
          walked =
              walk ∙ ap (λ x. cond x (Some b) (room_behind steps n front (suc f.offset) (link_behind front (suc
              f.offset) bytes) bytes)) t;
          offset = q;
          enough = le_tells n f.size true t;
          chained = refl;
          listed = (sym e ∙ h.0, h.1, h.2);
          split = refl;
          leaves = ap (λ x. cond x (rest_of n f fs) (f ∷ taken n fs)) t;
        }
    by_test false t r rest =
        let d = rest r in
        record {
          before = d.before;
          passed = f ∷ d.passed;
          block = d.block;
          rest = d.rest;
          walked =
              walk ∙ (ap (λ x. cond x (Some b) (room_behind steps n front (suc f.offset) (link_behind front (suc
              f.offset) bytes) bytes)) t ∙ d.walked);
          offset = d.offset;
          enough = d.enough;
          chained = (sym e ∙ h.0, h.1, d.chained);
          listed = d.listed;
          split = ap (λ xs. f ∷ xs) d.split;
          leaves = ap (λ x. cond x (rest_of n f fs) (f ∷ taken n fs)) t ∙ ap (λ xs. f ∷ xs) d.leaves;
        }

pub no_room :
    (steps front b link n : ℕ) (bytes : List ℕ) (fs : List Free) → Listed front link bytes fs → first_room n fs ≡ None →
    room_behind steps n front b link bytes ≡ None
no_room zero front b link n bytes fs h r = refl
no_room (suc steps) front b link n bytes [] h r = ap (λ x. room_behind (suc steps) n front b x bytes) h
no_room (suc steps) front b link n bytes (f ∷ fs) h r =
    by_test (nat_le n f.size) refl r (λ q. no_room steps front (suc f.offset) (link_behind front (suc f.offset) bytes)
    n bytes fs h.2 q)
  where
    behind : Option ℕ
    behind = room_behind steps n front (suc f.offset) (link_behind front (suc f.offset) bytes) bytes

    by_test :
        (t : Bool) → nat_le n f.size ≡ t → cond t (Some f.offset) (first_room n fs) ≡ None →
        (first_room n fs ≡ None → room_behind steps n front (suc f.offset) (link_behind front (suc f.offset) bytes)
        bytes ≡ None) →
        room_behind (suc steps) n front b link bytes ≡ None
    by_test true t r rest = absurd (cc r)
    by_test false t r rest =
        ap (λ x. room_behind (suc steps) n front b x bytes) h.0
        ∙ (ap (λ x. cond (nat_le n x) (Some b) (room_behind steps n front (suc f.offset) (link_behind front (suc
        f.offset) bytes) bytes)) h.1
        ∙ (ap (λ x. cond x (Some b) (room_behind steps n front (suc f.offset) (link_behind front (suc f.offset) bytes)
        bytes)) t ∙ rest r))

-- ---- the walk to what a freed generation touches

pub record Joining (front b : ℕ) (bytes : List ℕ) (result : List Free) (j : Joined) : Type 0 where
  pub passed : List Free
  pub rest : List Free
  pub chained : Chained front b bytes passed j.before
  pub joins : result ≡ passed ++ (j.block ∷ rest)
  pub listed : Listed front j.link bytes rest

next_joins :
    (front b o n link : ℕ) (bytes : List ℕ) (fs : List Free) → Listed front link bytes fs →
    Joining front b bytes (join_next o n fs) (joined_behind front b o n link bytes)
next_joins front b o n link bytes [] h =
    let t : (link == suc (o + n)) ≡ false = eq_false link (suc (o + n)) (omega (arith, h)) in
    let P : Joined → Type 0 = λ j. Joining front b bytes (free o n ∷ []) j in
    let j : Bool → Joined = λ x. cond x (record {
      before = b;
      block = free o (n + size_of front (o + n) bytes);
      link =
          link_behind front link bytes;
    }) (record { before = b; block = free o n; link = link }) in
    subst (λ x. P (cond x (record {
      before = b;
      block = free o (n + size_of front (o + n) bytes);
      link = link_behind
          front link bytes;
    }) (record { before = b; block = free o n; link = link }))) (sym t) (record {
      passed = [];
      rest =
          [];
      chained = refl;
      joins = refl;
      listed = h;
    })
next_joins front b o n link bytes (f ∷ fs) h = by_test (f.offset == o + n) refl
  where
    touched : Joined
    touched =
        record { before = b; block = free o (n + size_of front (o + n) bytes); link = link_behind front link bytes }

    by_test :
        (t : Bool) → (f.offset == o + n) ≡ t →
        Joining front b bytes (cond t (free o (n + f.size) ∷ fs) (free o n ∷ f ∷ fs)) (joined_behind front b o n link
        bytes)
    by_test true t =
        let q = eq_tells f.offset (o + n) true t in
        let u : (link == suc (o + n)) ≡ true = eq_true link (suc (o + n)) (h.0 ∙ ap suc q) in
        let size : f.size ≡ size_of front (o + n) bytes = sym (ap (λ x. size_of front x bytes) (sym q) ∙ h.1) in
        let next : link_behind front (suc f.offset) bytes ≡ link_behind front link bytes = ap (λ x. link_behind front
        x bytes) (sym h.0) in
        subst (λ x. Joining front b bytes (free o (n + f.size) ∷ fs) (cond x (record {
          before = b;
          block = free o (n +
              size_of front (o + n) bytes);
          link = link_behind front link bytes;
        }) (record {
          before = b;
          block = free o n;
          link = link;
        }))) (sym u) (record {
          passed = [];
          rest = fs;
          chained = refl;
          joins = ap (λ x. free o (n + x) ∷ fs) size;
          listed = subst (λ x. Listed front x bytes fs) next h.2;
        })
    by_test false t =
        let q = eq_tells f.offset (o + n) false t in
        let u : (link == suc (o + n)) ≡ false = eq_false link (suc (o + n)) (λ x. q (omega (arith, x, h.0))) in
        subst (λ x. Joining front b bytes (free o n ∷ f ∷ fs) (cond x (record {
          before = b;
          block = free o (n +
              size_of front (o + n) bytes);
          link = link_behind front link bytes;
        }) (record {
          before = b;
          block = free o n;
          link = link;
        }))) (sym u) (record { passed = []; rest = f ∷ fs; chained = refl; joins = refl; listed = h })

pub joins_found :
    (steps front o n b link start c : ℕ) (bytes : List ℕ) (fs : List Free) → link ≡ link_behind front b bytes →
    Listed front link bytes fs → Blocks start c fs → c < start + 16 * steps →
    Joining front b bytes (joined o n fs) (joined_from steps front o n b link bytes)
joins_found zero front o n b link start c bytes fs e h k s = absurd (omega (arith, s, blocks_within start c fs k))
joins_found (suc steps) front o n b link start c bytes [] e h k s =
    let r = next_joins front b o n 0 bytes [] refl in
    subst (λ x. Joining front b bytes (free o n ∷ []) (joined_from (suc steps) front o n b x bytes)) (sym h) r
joins_found (suc steps) front o n b link start c bytes (f ∷ fs) e h k s =
    subst (λ x. Joining front b bytes (joined o n (f ∷ fs)) (joined_from (suc steps) front o n b x bytes)) (sym h.0)
    (by_order (nat_lt o f.offset) refl (joins_found steps front o n (suc f.offset) (link_behind front (suc f.offset)
    bytes) (f.offset + f.size) c bytes fs refl h.2 k.4 (omega (arith, s, k.0, k.2))))
  where
    by_touch :
        (t : Bool) → (f.offset + f.size == o) ≡ t →
        Joining front (suc f.offset) bytes (joined o n fs) (joined_from steps front o n (suc f.offset) (link_behind
        front (suc f.offset) bytes) bytes) →
        Joining front b bytes (cond t (join_next f.offset (f.size + n) fs) (f ∷ joined o n fs)) (cond t (joined_behind
        front b f.offset (f.size + n) (link_behind front (suc f.offset) bytes) bytes) (joined_from steps front o n
        (suc f.offset) (link_behind front (suc f.offset) bytes) bytes))
    by_touch true t r = next_joins front b f.offset (f.size + n) (link_behind front (suc f.offset) bytes) bytes fs h.2
    by_touch false t r =
        record {
          passed =
              f ∷ r.passed;
          rest = r.rest;
          chained = (sym e ∙ h.0, h.1, r.chained);
          joins = ap (λ xs. f ∷ xs) r.joins;
          listed = r.listed;
        }

    by_order :
        (t : Bool) → nat_lt o f.offset ≡ t →
        Joining front (suc f.offset) bytes (joined o n fs) (joined_from steps front o n (suc f.offset) (link_behind
        front (suc f.offset) bytes) bytes) →
        Joining front b bytes (cond t (join_next o n (f ∷ fs)) (cond (f.offset + f.size == o) (join_next f.offset
        (f.size + n) fs) (f ∷ joined o n fs)))
        (cond t (joined_behind front b o n (suc f.offset) bytes) (cond (f.offset + size_of front f.offset bytes == o)
        (joined_behind front b f.offset (size_of front f.offset bytes + n) (link_behind front (suc f.offset) bytes)
        bytes) (joined_from steps front o n (suc f.offset) (link_behind front (suc f.offset) bytes) bytes)))
    by_order true t r = next_joins front b o n (suc f.offset) bytes (f ∷ fs) (refl, h.1, h.2)
    by_order false t r =
        subst (λ x. Joining front b bytes (cond (f.offset + f.size == o) (join_next f.offset (f.size + n) fs) (f ∷
        joined o n fs)) (cond (f.offset + x == o) (joined_behind front b f.offset (x + n) (link_behind front (suc
        f.offset) bytes) bytes) (joined_from steps front o n (suc f.offset) (link_behind front (suc f.offset) bytes)
        bytes))) (sym h.1) (by_touch (f.offset + f.size == o) refl r)

-- ---- the walk to the end

pub record AtEnd (front b e : ℕ) (bytes : List ℕ) (fs : List Free) (end : End) : Type 0 where
  pub from : end.from ≡ e
  pub chained : Chained front b bytes fs end.before

pub end_found :
    (steps front b link start from c : ℕ) (bytes : List ℕ) (fs : List Free) → link ≡ link_behind front b bytes →
    Listed front link bytes (fs ++ gap_before from c []) → Blocks start from fs → from ≤ c → Short c fs →
    c < start + 16 * steps → AtEnd front b from bytes fs (end_behind steps front c b link bytes)
end_found zero front b link start from c bytes fs e h k l q s =
    absurd (omega (arith, s, l, blocks_within start from fs k))
end_found (suc steps) front b link start from c bytes [] e h k l q s = by_test (nat_lt from c) refl h
  where
    by_test :
        (t : Bool) → nat_lt from c ≡ t → Listed front link bytes (cond t (free from (c - from) ∷ []) []) →
        AtEnd front b from bytes [] (end_behind (suc steps) front c b link bytes)
    by_test true t h =
        let i = lt_tells from c true t in
        let m : (from + size_of front from bytes == c) ≡ true = eq_true (from + size_of front from bytes) c (omega
        (arith, i, h.1)) in
        subst (λ x. AtEnd front b from bytes [] (end_behind (suc steps) front c b x bytes)) (sym h.0) (subst (λ x.
        AtEnd front b from bytes [] (cond x (record { from = from; before = b }) (end_behind steps front c (suc from)
        (link_behind front (suc from) bytes) bytes))) (sym m) (record { from = refl; chained = refl }))
    by_test false t h =
        let i = lt_tells from c false t in
        subst (λ x. AtEnd front b from bytes [] (end_behind (suc steps) front c b x bytes)) (sym h) (record {
          from =
              omega (arith, i, l);
          chained = refl;
        })
end_found (suc steps) front b link start from c bytes (f ∷ fs) e h k l q s =
    let d = end_found steps front (suc f.offset) (link_behind front (suc f.offset) bytes) (f.offset + f.size) from c
    bytes fs refl h.2 k.4 l q.1 (omega (arith, s, k.0, k.2)) in
    let m : (f.offset + size_of front f.offset bytes == c) ≡ false = eq_false (f.offset + size_of front f.offset
    bytes) c (omega (arith, q.0, h.1)) in
    subst (λ x. AtEnd front b from bytes (f ∷ fs) (end_behind (suc steps) front c b x bytes)) (sym h.0) (subst (λ x.
    AtEnd front b from bytes (f ∷ fs) (cond x (record { from = f.offset; before = b }) (end_behind steps front c (suc
    f.offset) (link_behind front (suc f.offset) bytes) bytes))) (sym m) (record {
      from = d.from;
      chained = (
        sym e ∙
            h.0,
        h.1,
        d.chained,
      );
    }))
