-- How far the reading of an area has come, place by place of its map.
use Rattle.std.proofs.Common.{◌≡◌, ℕ, zero, suc, ◌+◌, ◌-◌, ◌*◌, ◌%◌, ◌^◌, ◌<◌, ◌≤◌, List, [], ◌∷◌, length, Option}
use Rattle.std.proofs.Common.{Some, None, Bool, true, false, refl, sym, ap, ◌∙◌, subst, arith}
use Rattle.std.specs.Prelude.{cond, nat_le, ◌==◌, ◌&&◌}
use Rattle.area_keeper.specs.Keeper.{Kept}
use Rattle.area_keeper.specs.KeptAreas.{kept_end}
use Rattle.area_keeper.specs.KeeperLaws.{greatest_capacity}
use Rattle.area_keeper.specs.Chain.{word_at, capacity_in, follows}
use Rattle.free_keeper.proofs.Tests.{both, le_tells, le_true}
use Rattle.free_keeper.proofs.Standing.{front_true}
use Rattle.free_keeper.specs.Bits.{bit_at}
use Rattle.free_keeper.specs.FreeList.{Free, map_place, map_for, front_for, has_front, gap_before, gaps, kept_in}
use Rattle.free_keeper.specs.FreeList.{placed_from, placed_in, in_order, is_listed, is_whole}
use Rattle.free_heap.specs.Places.{is_listed_from}

abbrev pub whole_from : (front capacity end link : ℕ) → List ℕ → List Kept → Bool
whole_from f c end link bytes gs = in_order end c gs && is_listed f link bytes (gaps end c gs)

-- all bytes that begin with an area's words
pub record Begun (bytes : List ℕ) : Type 0 where
  pub rounded : capacity_in bytes % 16 ≡ 0
  pub bounded : capacity_in bytes ≤ greatest_capacity
  pub as_many : length bytes ≡ front_for (capacity_in bytes) + capacity_in bytes
  pub front : 12 + map_for (capacity_in bytes) ≤ front_for (capacity_in bytes)
  pub small : length bytes < 2 ^ 30

pub begun : (bytes : List ℕ) → has_front bytes ≡ true → Begun bytes
begun bytes e =
    let f = front_true bytes e in
    let n = f.as_many in
    let b = f.bounded in
    record { rounded = f.rounded; bounded = b; as_many = n; front = omega arith; small = omega (arith, n, b) }

-- what is read so far leaves the question to the rest
pub record Reading (bytes : List ℕ) (end link place left : ℕ) : Type 0 where
  pub within : end ≤ capacity_in bytes
  pub aligned : end % 16 ≡ 0
  pub same :
      is_whole (front_for (capacity_in bytes)) (capacity_in bytes) bytes (placed_in bytes)
      ≡ whole_from (front_for (capacity_in bytes)) (capacity_in bytes) end link bytes (placed_from (front_for
      (capacity_in bytes)) left place bytes)

pub reading_begins :
    (bytes : List ℕ) (link left : ℕ) → link ≡ word_at 8 bytes → left ≡ 8 * map_for (capacity_in bytes) →
    Reading bytes 0 link 0 left
reading_begins bytes link left e l =
    let c = capacity_in bytes in
    let f = front_for c in
    let P : ℕ → Type 0 = λ y. Reading bytes 0 link 0 y in
    subst P (sym l) (record {
      within = omega arith;
      aligned = refl;
      same = ap (λ y. whole_from f c 0 y bytes
          (placed_from f (8 * map_for c) 0 bytes)) (sym e);
    })

placed_step :
    (f left more i : ℕ) (bytes : List ℕ) → more + 1 ≡ left →
    placed_from f left i bytes
    ≡ cond (bit_at map_place i bytes == 1) (kept_in (f + 16 * i) (16 * i) bytes ∷ placed_from f more (i + 1) bytes)
    (placed_from f more (i + 1) bytes)
placed_step f zero more i bytes m = absurd (omega (arith, m))
placed_step f (suc k) more i bytes m =
    let a : k ≡ more = omega (arith, m) in
    let b : suc i ≡ i + 1 = omega arith in
    ap (λ y. cond (bit_at map_place i bytes == 1) (kept_in (f + 16 * i) (16 * i) bytes ∷ placed_from f y (suc i)
    bytes) (placed_from f y (suc i) bytes)) a
    ∙ ap (λ y. cond (bit_at map_place i bytes == 1) (kept_in (f + 16 * i) (16 * i) bytes ∷ placed_from f more y bytes)
    (placed_from f more y bytes)) b

pub nothing_begins :
    (bytes : List ℕ) (end link place left more : ℕ) → Reading bytes end link place left →
    (bit_at 12 place bytes == 1) ≡ false →
    more + 1 ≡ left → Reading bytes end link (place + 1) more
nothing_begins bytes end link place left more r b m =
    let c = capacity_in bytes in
    let f = front_for c in
    let e : placed_from f left place bytes ≡ placed_from f more (place + 1) bytes =
    placed_step f left more place bytes m
    ∙ ap (λ t. cond t (kept_in (f + 16 * place) (16 * place) bytes ∷ placed_from f more (place + 1) bytes)
    (placed_from f more (place + 1) bytes)) b
    in
    record { within = r.within; aligned = r.aligned; same = r.same ∙ ap (λ gs. whole_from f c end link bytes gs) e }

one_begins :
    (f c end link place left more : ℕ) (bytes : List ℕ) → (bit_at 12 place bytes == 1) ≡ true → more + 1 ≡ left →
    whole_from f c end link bytes (placed_from f left place bytes)
    ≡ whole_from f c end link bytes (kept_in (f + 16 * place) (16 * place) bytes ∷ placed_from f more (place + 1) bytes)
one_begins f c end link place left more bytes b m =
    ap (λ gs. whole_from f c end link bytes gs) (placed_step f left more place bytes m
    ∙ ap (λ t. cond t (kept_in (f + 16 * place) (16 * place) bytes ∷ placed_from f more (place + 1) bytes)
    (placed_from f more (place + 1) bytes)) b)

if_some : (t : Bool) (x y : ℕ) → Some x ≡ cond t (Some y) None → (t ≡ true) × (x ≡ y)
if_some true x y e = (refl, cc e)
if_some false x y e = absurd (cc e)

if_none : (t : Bool) (y : ℕ) → None ≡ cond t (Some y) None → t ≡ false
if_none true y e = absurd (cc e)
if_none false y e = refl

and_false : (a : Bool) → (a && false) ≡ false
and_false true = refl
and_false false = refl

-- a generation that doesn't follow what ends in front of it
pub out_of_order :
    (bytes : List ℕ) (end link place left front capacity : ℕ) → Reading bytes end link place left →
    front ≡ front_for (capacity_in bytes) →
    capacity ≡ capacity_in bytes → (bit_at 12 place bytes == 1) ≡ true → 1 ≤ left →
    None
    ≡ cond (follows end capacity (kept_in (front + 16 * place) (16 * place) bytes)) (Some (kept_end (kept_in (front +
    16 * place) (16 * place) bytes))) None →
    false ≡ is_whole (front_for (capacity_in bytes)) (capacity_in bytes) bytes (placed_in bytes)
out_of_order bytes end link place left front capacity r q z b l e =
    let c = capacity_in bytes in
    let f = front_for c in
    let g = kept_in (f + 16 * place) (16 * place) bytes in
    let gs = placed_from f (left - 1) (place + 1) bytes in
    let n : follows end c g ≡ false =
    ap (λ y. follows end c (kept_in (y + 16 * place) (16 * place) bytes)) (sym q)
    ∙ (ap (λ y. follows end y (kept_in (front + 16 * place) (16 * place) bytes)) (sym z)
    ∙ if_none (follows end capacity (kept_in (front + 16 * place) (16 * place) bytes)) (kept_end (kept_in (front + 16
    * place) (16 * place) bytes)) e)
    in
    sym (r.same
    ∙ (one_begins f c end link place left (left - 1) bytes b (omega (arith, l))
    ∙ ap (λ t. (t && in_order (kept_end g) c gs) && is_listed f link bytes (gap_before end g.offset (gaps (kept_end g)
    c gs))) n))

pub record Follows (bytes : List ℕ) (end place behind front : ℕ) : Type 0 where
  pub holds :
      follows end (capacity_in bytes) (kept_in (front_for (capacity_in bytes) + 16 * place) (16 * place) bytes) ≡ true
  pub ends : behind ≡ kept_end (kept_in (front_for (capacity_in bytes) + 16 * place) (16 * place) bytes)
  pub ordered : end ≤ 16 * place
  pub within : behind ≤ capacity_in bytes

pub it_follows :
    (bytes : List ℕ) (end place behind front capacity : ℕ) → front ≡ front_for (capacity_in bytes) →
    capacity ≡ capacity_in bytes →
    Some behind
    ≡ cond (follows end capacity (kept_in (front + 16 * place) (16 * place) bytes)) (Some (kept_end (kept_in (front +
    16 * place) (16 * place) bytes))) None →
    Follows bytes end place behind front
it_follows bytes end place behind front capacity q z e =
    let c = capacity_in bytes in
    let f = front_for c in
    let g = kept_in (f + 16 * place) (16 * place) bytes in
    let here : Some behind ≡ cond (follows end c g) (Some (kept_end g)) None =
    subst (λ y. Some behind ≡ cond (follows end c (kept_in (y + 16 * place) (16 * place) bytes)) (Some (kept_end
    (kept_in (y + 16 * place) (16 * place) bytes))) None) q (subst (λ y. Some behind ≡ cond (follows end y (kept_in
    (front + 16 * place) (16 * place) bytes)) (Some (kept_end (kept_in (front + 16 * place) (16 * place) bytes)))
    None) z e)
    in
    let s = if_some (follows end c g) behind (kept_end g) here in
    let u = both (nat_le end g.offset) ((g.offset % 16 == 0) && nat_le (kept_end g) c) s.0 in
    let v = both (g.offset % 16 == 0) (nat_le (kept_end g) c) u.1 in
    let w = le_tells (kept_end g) c true v.1 in
    let x = s.1 in
    record { holds = s.0; ends = x; ordered = le_tells end g.offset true u.0; within = omega (arith, w, x) }

-- a link that doesn't lead to what is free in front of a generation
pub not_listed :
    (bytes : List ℕ) (end link place left front behind : ℕ) → Reading bytes end link place left →
    front ≡ front_for (capacity_in bytes) →
    (bit_at 12 place bytes == 1) ≡ true → 1 ≤ left →
    ((fs : List Free) → is_listed front link bytes (gap_before end (16 * place) fs) ≡ false) →
    false ≡ is_whole (front_for (capacity_in bytes)) (capacity_in bytes) bytes (placed_in bytes)
not_listed bytes end link place left front behind r q b l e =
    let c = capacity_in bytes in
    let f = front_for c in
    let g = kept_in (f + 16 * place) (16 * place) bytes in
    let gs = placed_from f (left - 1) (place + 1) bytes in
    let n : is_listed f link bytes (gap_before end (16 * place) (gaps (kept_end g) c gs)) ≡ false =
    ap (λ y. is_listed y link bytes (gap_before end (16 * place) (gaps (kept_end g) c gs))) (sym q) ∙ e (gaps
    (kept_end g) c gs)
    in
    let a = follows end c g && in_order (kept_end g) c gs in
    sym (r.same
    ∙ (one_begins f c end link place left (left - 1) bytes b (omega (arith, l))
    ∙ (ap (λ t. (follows end c g && in_order (kept_end g) c gs) && t) n ∙ and_false a)))

pub reading_goes :
    (bytes : List ℕ) (end link place left more front behind further : ℕ) → Reading bytes end link place left →
    front ≡ front_for (capacity_in bytes) → (bit_at 12 place bytes == 1) ≡ true → more + 1 ≡ left →
    Follows bytes end place behind front →
    ((fs : List Free) → is_listed front link bytes (gap_before end (16 * place) fs) ≡ is_listed front further bytes
    fs) →
    Reading bytes behind further (place + 1) more
reading_goes bytes end link place left more front behind further r q b m w e =
    let c = capacity_in bytes in
    let f = front_for c in
    let g = kept_in (f + 16 * place) (16 * place) bytes in
    let gs = placed_from f more (place + 1) bytes in
    let n : is_listed f link bytes (gap_before end (16 * place) (gaps (kept_end g) c gs)) ≡ is_listed f further bytes
    (gaps (kept_end g) c gs) =
    ap (λ y. is_listed y link bytes (gap_before end (16 * place) (gaps (kept_end g) c gs))) (sym q)
    ∙ (e (gaps (kept_end g) c gs) ∙ ap (λ y. is_listed y further bytes (gaps (kept_end g) c gs)) q)
    in
    let k = w.ends in
    record {
      within = w.within;
      aligned = omega (arith, k);
      same =
          r.same
          ∙ (one_begins f c end link place left more bytes b m
          ∙ (ap (λ t. (t && in_order (kept_end g) c gs) && is_listed f link bytes (gap_before end (16 * place) (gaps
          (kept_end g) c gs))) w.holds
          ∙ (ap (λ t. in_order (kept_end g) c gs && t) n ∙ ap (λ y. whole_from f c y further bytes gs) (sym k))));
    }

-- what is free behind the last generation
pub reading_ends :
    (bytes : List ℕ) (end link place left front capacity : ℕ) (further : Option ℕ) →
    Reading bytes end link place left → left ≡ 0 →
    front ≡ front_for (capacity_in bytes) → capacity ≡ capacity_in bytes →
    ((fs : List Free) → is_listed front link bytes (gap_before end capacity fs) ≡ is_listed_from front bytes fs
    further) →
    is_whole (front_for (capacity_in bytes)) (capacity_in bytes) bytes (placed_in bytes) ≡ is_listed_from front bytes
    [] further
reading_ends bytes end link place left front capacity further r z q k e =
    let c = capacity_in bytes in
    let f = front_for c in
    r.same
    ∙ (ap (λ y. whole_from f c end link bytes (placed_from f y place bytes)) z
    ∙ (ap (λ t. t && is_listed f link bytes (gap_before end c [])) (le_true end c r.within)
    ∙ (ap (λ y. is_listed y link bytes (gap_before end c [])) (sym q) ∙ (ap (λ y. is_listed front link bytes
    (gap_before end y [])) (sym k) ∙ e []))))
