-- What a walk finds: the generations to which the links lead, in order; and it finds all that links lead to in order.
use Rattle.std.proofs.Common.{◌≡◌, ℕ, zero, suc, ◌+◌, ◌*◌, ◌/◌, ◌%◌, ◌<◌, ◌≤◌, List, [], ◌∷◌, length, Option, Some, None, Bool, true, false, refl, sym, ap, ◌∙◌, subst, arith}
use Rattle.std.specs.Prelude.{cond, nat_le, ◌&&◌, ◌==◌}
use Rattle.area_keeper.proofs.Tests.{all_three, eq_tells, eq_true, le_tells, le_true}
use Rattle.area_keeper.specs.Keeper.{Kept, KeptArea}
use Rattle.area_keeper.specs.KeptAreas.{kept_end, InOrder}
use Rattle.area_keeper.specs.KeeperLaws.{greatest_capacity}
use Rattle.area_keeper.specs.Chain.{mark, word_at, capacity_in, first_link, link_of, kept_in, follows, behind, walked, has_front, area_with, area_behind, chain_area}

-- from a link on, headers stand for these generations
abbrev pub Leads : (link : ℕ) → List ℕ → List Kept → Type 0
Leads link bytes [] = link ≡ 0
Leads link bytes (g ∷ gs) = (link ≡ suc g.offset) × (kept_in g.offset bytes ≡ g) × Leads (word_at (link_of g.offset) bytes) bytes gs

pub record Follows (start capacity : ℕ) (g : Kept) : Type 0 where
  pub behind_start : start ≤ g.offset
  pub aligned : g.offset % 16 ≡ 0
  pub within : kept_end g ≤ capacity

follows_true : (start capacity : ℕ) (g : Kept) → follows start capacity g ≡ true → Follows start capacity g
follows_true start capacity g e =
    let t = all_three (nat_le start g.offset) (g.offset % 16 == 0) (nat_le (kept_end g) capacity) e in
    record { behind_start = le_tells start g.offset true t.0; aligned = eq_tells (g.offset % 16) 0 t.1; within = le_tells (kept_end g) capacity true t.2 }

true_follows :
    (start capacity : ℕ) (g : Kept) → start ≤ g.offset → g.offset % 16 ≡ 0 → kept_end g ≤ capacity →
    follows start capacity g ≡ true
true_follows start capacity g a b c =
    let x = le_true start g.offset a in
    let y = eq_true (g.offset % 16) 0 b in
    let z = le_true (kept_end g) capacity c in
    rw (x, y, z) refl

pub order_within : (start capacity : ℕ) (gs : List Kept) → InOrder start capacity gs → start ≤ capacity
order_within start capacity [] i = i
order_within start capacity (g ∷ gs) i = omega (arith, i.0, i.2)

-- ---- what a walk finds

no_first :
    (start capacity link : ℕ) (bytes : List ℕ) (gs : List Kept) → start ≤ capacity → link ≡ 0 → Some [] ≡ Some gs →
    InOrder start capacity gs × Leads link bytes gs
no_first start capacity link bytes gs h l e =
    let f : [] ≡ gs = cc e in
    let P : List Kept → Type 0 = λ xs. InOrder start capacity xs × Leads link bytes xs in
    subst P f (h, l)

pub walk_sound :
    (n start capacity link : ℕ) (bytes : List ℕ) (gs : List Kept) → start ≤ capacity →
    walked n start capacity link bytes ≡ Some gs → InOrder start capacity gs × Leads link bytes gs
walk_sound zero start capacity link bytes gs h e = absurd (cc e)
walk_sound (suc n) start capacity zero bytes gs h e = no_first start capacity zero bytes gs h refl e
walk_sound (suc n) start capacity (suc o) bytes gs h e =
    by_test (follows start capacity (kept_in o bytes)) refl (λ hs. walk_sound n (kept_end (kept_in o bytes)) capacity (word_at (link_of o) bytes) bytes hs) e
  where
    by_rest :
        (w : Option (List Kept)) → walked n (kept_end (kept_in o bytes)) capacity (word_at (link_of o) bytes) bytes ≡ w →
        Follows start capacity (kept_in o bytes) →
        ((hs : List Kept) → kept_end (kept_in o bytes) ≤ capacity → walked n (kept_end (kept_in o bytes)) capacity (word_at (link_of o) bytes) bytes ≡ Some hs → InOrder (kept_end (kept_in o bytes)) capacity hs × Leads (word_at (link_of o) bytes) bytes hs) →
        behind (kept_in o bytes) w ≡ Some gs → InOrder start capacity gs × Leads (suc o) bytes gs
    by_rest None r f rest e = absurd (cc e)
    by_rest (Some hs) r f rest e =
        let k : kept_in o bytes ∷ hs ≡ gs = cc e in
        let i = rest hs f.within r in
        let P : List Kept → Type 0 = λ xs. InOrder start capacity xs × Leads (suc o) bytes xs in
        subst P k ((f.behind_start, f.aligned, f.within, i.0), (refl, refl, i.1))

    by_test :
        (t : Bool) → follows start capacity (kept_in o bytes) ≡ t →
        ((hs : List Kept) → kept_end (kept_in o bytes) ≤ capacity → walked n (kept_end (kept_in o bytes)) capacity (word_at (link_of o) bytes) bytes ≡ Some hs → InOrder (kept_end (kept_in o bytes)) capacity hs × Leads (word_at (link_of o) bytes) bytes hs) →
        cond t (behind (kept_in o bytes) (walked n (kept_end (kept_in o bytes)) capacity (word_at (link_of o) bytes) bytes)) None ≡ Some gs →
        InOrder start capacity gs × Leads (suc o) bytes gs
    by_test true t rest e = by_rest (walked n (kept_end (kept_in o bytes)) capacity (word_at (link_of o) bytes) bytes) refl (follows_true start capacity (kept_in o bytes) t) rest e
    by_test false t rest e = absurd (cc e)

pub walk_complete :
    (n start capacity link : ℕ) (bytes : List ℕ) (gs : List Kept) → InOrder start capacity gs → Leads link bytes gs →
    capacity < start + 16 * n → walked n start capacity link bytes ≡ Some gs
walk_complete zero start capacity link bytes gs i l h = absurd (omega (arith, h, order_within start capacity gs i))
walk_complete (suc n) start capacity link bytes [] i l h =
    subst (λ k. walked (suc n) start capacity k bytes ≡ Some []) (sym l) refl
walk_complete (suc n) start capacity link bytes (g ∷ gs) i l h =
    let rest = walk_complete n (kept_end g) capacity (word_at (link_of g.offset) bytes) bytes gs i.3 l.2 (omega (arith, h, i.0)) in
    let t = true_follows start capacity g i.0 i.1 i.2 in
    let P : Kept → Type 0 = λ k. cond (follows start capacity k) (behind k (walked n (kept_end k) capacity (word_at (link_of g.offset) bytes) bytes)) None ≡ Some (g ∷ gs) in
    let q : P g = ap (λ b. cond b (behind g (walked n (kept_end g) capacity (word_at (link_of g.offset) bytes) bytes)) None) t ∙ ap (behind g) rest in
    subst (λ k. walked (suc n) start capacity k bytes ≡ Some (g ∷ gs)) (sym l.0) (subst P (sym l.1) q)

-- ---- what bytes stand for

pub record Front (bytes : List ℕ) (capacity : ℕ) : Type 0 where
  pub marked : word_at 0 bytes ≡ mark
  pub capacity_is : capacity_in bytes ≡ capacity
  pub rounded : capacity % 16 ≡ 0
  pub bounded : capacity ≤ greatest_capacity
  pub as_many : length bytes ≡ 16 + capacity

pub record Stands (bytes : List ℕ) (capacity : ℕ) (gs : List Kept) : Type 0 where
  pub front : Front bytes capacity
  pub ordered : InOrder 0 capacity gs
  pub leads : Leads (word_at first_link bytes) bytes gs

front_true : (bytes : List ℕ) → has_front bytes ≡ true → Front bytes (capacity_in bytes)
front_true bytes e =
    let t = all_three (word_at 0 bytes == mark) (capacity_in bytes % 16 == 0) (nat_le (capacity_in bytes) greatest_capacity && (length bytes == 16 + capacity_in bytes)) e in
    let u = all_three true (nat_le (capacity_in bytes) greatest_capacity) (length bytes == 16 + capacity_in bytes) t.2 in
    record {
      marked = eq_tells (word_at 0 bytes) mark t.0;
      capacity_is = refl;
      rounded = eq_tells (capacity_in bytes % 16) 0 t.1;
      bounded = le_tells (capacity_in bytes) greatest_capacity true u.1;
      as_many = eq_tells (length bytes) (16 + capacity_in bytes) u.2;
    }

true_front : (bytes : List ℕ) → Front bytes (capacity_in bytes) → has_front bytes ≡ true
true_front bytes f =
    let a = eq_true (word_at 0 bytes) mark f.marked in
    let b = eq_true (capacity_in bytes % 16) 0 f.rounded in
    let c = le_true (capacity_in bytes) greatest_capacity f.bounded in
    let d = eq_true (length bytes) (16 + capacity_in bytes) f.as_many in
    rw (a, b, c, d) refl

pub stands_from : (bytes : List ℕ) (a : KeptArea) → chain_area bytes ≡ Some a → Stands bytes a.capacity a.placed
stands_from bytes a e = by_test (has_front bytes) refl e
  where
    by_walk :
        (w : Option (List Kept)) →
        walked (suc (capacity_in bytes / 16)) 0 (capacity_in bytes) (word_at first_link bytes) bytes ≡ w →
        Front bytes (capacity_in bytes) → area_with (capacity_in bytes) w ≡ Some a → Stands bytes a.capacity a.placed
    by_walk None r f e = absurd (cc e)
    by_walk (Some gs) r f e =
        let k : record { capacity = capacity_in bytes; placed = gs } ≡ a = cc e in
        let i = walk_sound (suc (capacity_in bytes / 16)) 0 (capacity_in bytes) (word_at first_link bytes) bytes gs (omega arith) r in
        let P : KeptArea → Type 0 = λ b. Stands bytes b.capacity b.placed in
        subst P k (record { front = f; ordered = i.0; leads = i.1 })

    by_test : (t : Bool) → has_front bytes ≡ t → area_behind t bytes ≡ Some a → Stands bytes a.capacity a.placed
    by_test true t e = by_walk (walked (suc (capacity_in bytes / 16)) 0 (capacity_in bytes) (word_at first_link bytes) bytes) refl (front_true bytes t) e
    by_test false t e = absurd (cc e)

pub stands_for :
    (bytes : List ℕ) (capacity : ℕ) (gs : List Kept) → Stands bytes capacity gs →
    chain_area bytes ≡ Some (record { capacity = capacity; placed = gs })
stands_for bytes capacity gs s =
    let P : ℕ → Type 0 = λ c. Stands bytes c gs → chain_area bytes ≡ Some (record { capacity = c; placed = gs }) in
    subst P s.front.capacity_is (λ h.
    let c = capacity_in bytes in
    ap (λ t. area_behind t bytes) (true_front bytes h.front)
    ∙ ap (area_with c) (walk_complete (suc (c / 16)) 0 c (word_at first_link bytes) bytes gs h.ordered h.leads (omega arith))) s
