-- What a walk along a chain knows where it begins, and what each step keeps.
use Rattle.std.proofs.Common.{◌≡◌, ◌≢◌, ℕ, zero, suc, ◌+◌, ◌-◌, ◌/◌, ◌%◌, ◌<◌, ◌≤◌, max, List, [], ◌∷◌, length, Option, Some, None, Bool, true, false, refl, sym, ap, ◌∙◌, subst, arith}
use Rattle.std.specs.Prelude.{cond, if◌then◌else◌, is_some, nat_lt, nat_le, ◌&&◌, ◌==◌, IsSome}
use Rattle.std.proofs.lemmas.Bool.Decides.{nat_tests}
use Rattle.pli_typing.specs.Signatures.{footprint}
use Rattle.area_keeper.specs.Keeper.{Kept, KeptArea}
use Rattle.area_keeper.specs.KeptAreas.{kept_end, kept_at}
use Rattle.area_keeper.specs.KeeperLaws.{greatest_capacity}
use Rattle.area_keeper.specs.Chain.{mark, word_at, capacity_in, first_link, link_of, kept_in, follows, behind, walked, has_front, area_with, area_behind, chain_area, link_before, link_from, last_end, room_from}
use Rattle.area_heap.specs.Places.{placed_of, generations, rest_from, IsReached, IsGapAt}

-- ---- tests

lt_true : (a b : ℕ) → a < b → nat_lt a b ≡ true
lt_true a b e = grind (arith, nat_tests)

lt_false : (a b : ℕ) → b ≤ a → nat_lt a b ≡ false
lt_false a b e = grind (arith, nat_tests)

pub le_true : (a b : ℕ) → a ≤ b → nat_le a b ≡ true
le_true a b e = grind (arith, nat_tests)

pub le_false : (a b : ℕ) → b < a → nat_le a b ≡ false
le_false a b e = grind (arith, nat_tests)

pub eq_true : (a b : ℕ) → a ≡ b → (a == b) ≡ true
eq_true a b e = grind (arith, nat_tests)

pub eq_false : (a b : ℕ) → a ≢ b → (a == b) ≡ false
eq_false a b e = grind (arith, nat_tests)

lt_tells : (a b : ℕ) → nat_lt a b ≡ true → a < b
lt_tells a b e = grind (arith, nat_tests)

le_tells : (a b : ℕ) → nat_le a b ≡ true → a ≤ b
le_tells a b e = grind (arith, nat_tests)

eq_tells : (a b : ℕ) → (a == b) ≡ true → a ≡ b
eq_tells a b e = grind (arith, nat_tests)

both : (a b : Bool) → (a && b) ≡ true → (a ≡ true) × (b ≡ true)
both true true e = (refl, refl)
both true false e = absurd (cc e)
both false b e = absurd (cc e)

-- ---- what follows

pub record Follows (start capacity : ℕ) (g : Kept) : Type 0 where
  pub behind_start : start ≤ g.offset
  pub aligned : g.offset % 16 ≡ 0
  pub within : kept_end g ≤ capacity

follows_true : (start capacity : ℕ) (g : Kept) → follows start capacity g ≡ true → Follows start capacity g
follows_true start capacity g e =
    let t = both (nat_le start g.offset) ((g.offset % 16 == 0) && nat_le (kept_end g) capacity) e in
    let u = both (g.offset % 16 == 0) (nat_le (kept_end g) capacity) t.1 in
    record { behind_start = le_tells start g.offset t.0; aligned = eq_tells (g.offset % 16) 0 u.0; within = le_tells (kept_end g) capacity u.1 }

-- a walk's first generation, and the walk behind it
pub record Leads (n start capacity o : ℕ) (bytes : List ℕ) (gs : List Kept) : Type 0 where
  pub follows : Follows start capacity (kept_in o bytes)
  pub rest : List Kept
  pub reads : walked n (kept_end (kept_in o bytes)) capacity (word_at (link_of o) bytes) bytes ≡ Some rest
  pub is : gs ≡ kept_in o bytes ∷ rest

pub leads :
    (n start capacity o : ℕ) (bytes : List ℕ) (gs : List Kept) →
    walked (suc n) start capacity (suc o) bytes ≡ Some gs → Leads n start capacity o bytes gs
leads n start capacity o bytes gs e = by_test (follows start capacity (kept_in o bytes)) refl e
  where
    by_rest :
        (w : Option (List Kept)) → walked n (kept_end (kept_in o bytes)) capacity (word_at (link_of o) bytes) bytes ≡ w →
        Follows start capacity (kept_in o bytes) → behind (kept_in o bytes) w ≡ Some gs → Leads n start capacity o bytes gs
    by_rest None r f e = absurd (cc e)
    by_rest (Some hs) r f e =
        let k : gs ≡ kept_in o bytes ∷ hs = cc e in
        record { follows = f; rest = hs; reads = r; is = k }

    by_test :
        (t : Bool) → follows start capacity (kept_in o bytes) ≡ t →
        cond t (behind (kept_in o bytes) (walked n (kept_end (kept_in o bytes)) capacity (word_at (link_of o) bytes) bytes)) None ≡ Some gs →
        Leads n start capacity o bytes gs
    by_test true t e =
        by_rest (walked n (kept_end (kept_in o bytes)) capacity (word_at (link_of o) bytes) bytes) refl (follows_true start capacity (kept_in o bytes) t) e
    by_test false t e = absurd (cc e)

-- ---- the rest

-- what was walked from a start on lies behind it
walked_rest :
    (n start capacity link : ℕ) (bytes : List ℕ) (gs : List Kept) →
    walked n start capacity link bytes ≡ Some gs → rest_from start gs ≡ gs
walked_rest zero start capacity link bytes gs e = absurd (cc e)
walked_rest (suc n) start capacity zero bytes gs e =
    let k : [] ≡ gs = cc e in
    subst (λ xs. rest_from start xs ≡ xs) k refl
walked_rest (suc n) start capacity (suc o) bytes gs e =
    let l = leads n start capacity o bytes gs e in
    let t = lt_false o start l.follows.behind_start in
    let q : rest_from start (kept_in o bytes ∷ l.rest) ≡ kept_in o bytes ∷ l.rest =
    ap (λ b. cond b (rest_from start l.rest) (kept_in o bytes ∷ l.rest)) t in
    subst (λ xs. rest_from start xs ≡ xs) (sym l.is) q

rest_further : (e f : ℕ) (gs : List Kept) → e ≤ f → rest_from f (rest_from e gs) ≡ rest_from f gs
rest_further e f [] h = refl
rest_further e f (g ∷ gs) h = by_test (nat_lt g.offset e) refl (rest_further e f gs h)
  where
    further : nat_lt g.offset e ≡ true → nat_lt g.offset f ≡ true
    further t = let b = lt_tells g.offset e t in lt_true g.offset f (omega (arith, b))

    by_test :
        (t : Bool) → nat_lt g.offset e ≡ t → rest_from f (rest_from e gs) ≡ rest_from f gs →
        rest_from f (cond t (rest_from e gs) (g ∷ gs)) ≡ rest_from f (g ∷ gs)
    by_test true t r = r ∙ sym (ap (λ b. cond b (rest_from f gs) (g ∷ gs)) (further t))
    by_test false t r = refl

-- nothing that was walked from a start on is in front of it
walked_none :
    (n start capacity link o : ℕ) (bytes : List ℕ) (gs : List Kept) →
    walked n start capacity link bytes ≡ Some gs → o < start → kept_at gs o ≡ None
walked_none zero start capacity link o bytes gs e h = absurd (cc e)
walked_none (suc n) start capacity zero o bytes gs e h =
    let k : [] ≡ gs = cc e in
    subst (λ xs. kept_at xs o ≡ None) k refl
walked_none (suc n) start capacity (suc p) o bytes gs e h =
    let l = leads n start capacity p bytes gs e in
    let b = l.follows.behind_start in
    let t = eq_false p o (λ f. absurd (omega (arith, f, b, h))) in
    let r = walked_none n (kept_end (kept_in p bytes)) capacity (word_at (link_of p) bytes) o bytes l.rest l.reads (omega (arith, b, h)) in
    let q : kept_at (kept_in p bytes ∷ l.rest) o ≡ None = ap (λ b. cond b (Some (kept_in p bytes)) (kept_at l.rest o)) t ∙ r in
    subst (λ xs. kept_at xs o ≡ None) (sym l.is) q

-- ---- a walk that is tried

end_some : (t : Bool) (x y : ℕ) → Some y ≡ cond t (Some x) None → (t ≡ true) × (x ≡ y)
end_some true x y e = (refl, cc e)
end_some false x y e = absurd (cc e)

end_none : (t : Bool) (x : ℕ) → None ≡ cond t (Some x) None → t ≡ false
end_none true x e = absurd (cc e)
end_none false x e = refl

behind_some : (g : Kept) (w : Option (List Kept)) → is_some (behind g w) ≡ is_some w
behind_some g None = refl
behind_some g (Some gs) = refl

pub tried_end :
    (n start capacity link : ℕ) (bytes : List ℕ) → 0 < n → link ≡ 0 → is_some (walked n start capacity link bytes) ≡ true
tried_end zero start capacity link bytes h e = absurd (omega arith)
tried_end (suc n) start capacity zero bytes h e = refl
tried_end (suc n) start capacity (suc o) bytes h e = absurd (omega arith)

pub tried_stop :
    (n start capacity link : ℕ) (bytes : List ℕ) → 0 < n → 0 < link →
    None ≡ (if follows start capacity (kept_in (link - 1) bytes) then Some (kept_end (kept_in (link - 1) bytes)) else None) →
    is_some (walked n start capacity link bytes) ≡ false
tried_stop zero start capacity link bytes h i e = absurd (omega arith)
tried_stop (suc n) start capacity zero bytes h i e = absurd (omega arith)
tried_stop (suc n) start capacity (suc o) bytes h i e =
    let p : suc o - 1 ≡ o = omega arith in
    let P : ℕ → Type 0 = λ x. None ≡ cond (follows start capacity (kept_in x bytes)) (Some (kept_end (kept_in x bytes))) None in
    let t = end_none (follows start capacity (kept_in o bytes)) (kept_end (kept_in o bytes)) (subst P p e) in
    ap (λ b. is_some (cond b (behind (kept_in o bytes) (walked n (kept_end (kept_in o bytes)) capacity (word_at (link_of o) bytes) bytes)) None)) t

pub tried_step :
    (n start capacity link end m next : ℕ) (bytes : List ℕ) → n ≡ suc m → 0 < link →
    Some end ≡ (if follows start capacity (kept_in (link - 1) bytes) then Some (kept_end (kept_in (link - 1) bytes)) else None) →
    next ≡ word_at (link - 1 + 28) bytes →
    is_some (walked n start capacity link bytes) ≡ is_some (walked m end capacity next bytes)
tried_step n start capacity zero end m next bytes k i e f = absurd (omega arith)
tried_step n start capacity (suc o) end m next bytes k i e f =
    let p : suc o - 1 ≡ o = omega arith in
    let P : ℕ → Type 0 = λ x. Some end ≡ cond (follows start capacity (kept_in x bytes)) (Some (kept_end (kept_in x bytes))) None in
    let t = end_some (follows start capacity (kept_in o bytes)) (kept_end (kept_in o bytes)) end (subst P p e) in
    let x : is_some (walked (suc m) start capacity (suc o) bytes) ≡ is_some (walked m (kept_end (kept_in o bytes)) capacity (word_at (link_of o) bytes) bytes) =
    ap (λ b. is_some (cond b (behind (kept_in o bytes) (walked m (kept_end (kept_in o bytes)) capacity (word_at (link_of o) bytes) bytes)) None)) t.0
    ∙ behind_some (kept_in o bytes) (walked m (kept_end (kept_in o bytes)) capacity (word_at (link_of o) bytes) bytes) in
    let q : suc o - 1 + 28 ≡ link_of o = omega arith in
    let l : word_at (suc o - 1 + 28) bytes ≡ word_at (link_of o) bytes = ap (λ a. word_at a bytes) q in
    subst (λ a. is_some (walked a start capacity (suc o) bytes) ≡ is_some (walked m end capacity next bytes)) (sym k)
    (subst (λ a. is_some (walked (suc m) start capacity (suc o) bytes) ≡ is_some (walked m a capacity next bytes)) t.1
    (subst (λ a. is_some (walked (suc m) start capacity (suc o) bytes) ≡ is_some (walked m (kept_end (kept_in o bytes)) capacity a bytes)) (sym (f ∙ l)) x))

-- ---- where a walk begins

record Front (bytes : List ℕ) : Type 0 where
  bounded : capacity_in bytes ≤ greatest_capacity
  as_many : length bytes ≡ 16 + capacity_in bytes

front_true : (bytes : List ℕ) → has_front bytes ≡ true → Front bytes
front_true bytes e =
    let t = both (word_at 0 bytes == mark) ((capacity_in bytes % 16 == 0) && (nat_le (capacity_in bytes) greatest_capacity && (length bytes == 16 + capacity_in bytes))) e in
    let u = both (capacity_in bytes % 16 == 0) (nat_le (capacity_in bytes) greatest_capacity && (length bytes == 16 + capacity_in bytes)) t.1 in
    let v = both (nat_le (capacity_in bytes) greatest_capacity) (length bytes == 16 + capacity_in bytes) u.1 in
    record { bounded = le_tells (capacity_in bytes) greatest_capacity v.0; as_many = eq_tells (length bytes) (16 + capacity_in bytes) v.1 }

-- what bytes that stand for an area are
pub record Opened (bytes : List ℕ) : Type 0 where
  pub bounded : capacity_in bytes ≤ greatest_capacity
  pub as_many : length bytes ≡ 16 + capacity_in bytes
  pub reads : walked (suc (capacity_in bytes / 16)) 0 (capacity_in bytes) (word_at first_link bytes) bytes ≡ Some (generations bytes)
  pub is : chain_area bytes ≡ Some (record { capacity = capacity_in bytes; placed = generations bytes })

pub opened : (bytes : List ℕ) → IsSome (chain_area bytes) → Opened bytes
opened bytes s = by_area (chain_area bytes) refl s
  where
    by_walk :
        (a : KeptArea) → chain_area bytes ≡ Some a → Front bytes →
        (w : Option (List Kept)) →
        walked (suc (capacity_in bytes / 16)) 0 (capacity_in bytes) (word_at first_link bytes) bytes ≡ w →
        area_with (capacity_in bytes) w ≡ Some a → Opened bytes
    by_walk a e f None r g = absurd (cc g)
    by_walk a e f (Some gs) r g =
        let k : chain_area bytes ≡ Some (record { capacity = capacity_in bytes; placed = gs }) = e ∙ sym g in
        let p : gs ≡ generations bytes = sym (ap placed_of k) in
        record {
          bounded = f.bounded;
          as_many = f.as_many;
          reads = r ∙ ap (λ x. Some x) p;
          is = subst (λ x. chain_area bytes ≡ Some (record { capacity = capacity_in bytes; placed = x })) p k;
        }

    by_front : (a : KeptArea) → chain_area bytes ≡ Some a → (t : Bool) → has_front bytes ≡ t → area_behind t bytes ≡ Some a → Opened bytes
    by_front a e true t g =
        by_walk a e (front_true bytes t) (walked (suc (capacity_in bytes / 16)) 0 (capacity_in bytes) (word_at first_link bytes) bytes) refl g
    by_front a e false t g = absurd (cc g)

    by_area : (a : Option KeptArea) → chain_area bytes ≡ a → IsSome a → Opened bytes
    by_area None e s = absurd (cc s)
    by_area (Some a) e s = by_front a e (has_front bytes) refl e

pub begins : (bytes : List ℕ) → IsSome (chain_area bytes) → IsReached bytes 12 0 (word_at 12 bytes)
begins bytes s =
    let o = opened bytes s in
    let r : rest_from 0 (generations bytes) ≡ generations bytes =
    walked_rest (suc (capacity_in bytes / 16)) 0 (capacity_in bytes) (word_at first_link bytes) bytes (generations bytes) o.reads in
    let back = sym r in
    record {
      number = suc (capacity_in bytes / 16);
      reads = o.reads ∙ ap (λ x. Some x) back;
      linked = refl;
      behind_front = omega arith;
      before_end = omega arith;
      within = omega arith;
      as_many = o.as_many;
      bounded = o.bounded;
      before = λ p h. ap (λ x. link_before 12 p x) back;
      from = λ p h. ap (λ x. link_from p x) back;
      kept = λ p h. ap (λ x. kept_at x p) back;
      ends = ap (λ x. last_end x) back ∙ omega arith;
    }

-- ---- what a step keeps

pub record Stepped (bytes : List ℕ) (link_at end o : ℕ) : Type 0 where
  pub behind_end : end ≤ o
  pub aligned : o % 16 ≡ 0
  pub within : kept_end (kept_in o bytes) ≤ capacity_in bytes
  pub rest : rest_from end (generations bytes) ≡ kept_in o bytes ∷ rest_from (kept_end (kept_in o bytes)) (generations bytes)
  pub reached : IsReached bytes (28 + o) (kept_end (kept_in o bytes)) (word_at (28 + o) bytes)

pub stepped : (bytes : List ℕ) (link_at end o : ℕ) → IsReached bytes link_at end (suc o) → Stepped bytes link_at end o
stepped bytes link_at end o r = by_number r.number r.reads
  where
    by_leads : (n : ℕ) → Leads n end (capacity_in bytes) o bytes (rest_from end (generations bytes)) → Stepped bytes link_at end o
    by_leads n l =
        let f = l.follows in
        let k = kept_in o bytes in
        let b = f.behind_start in
        let w : rest_from (kept_end k) l.rest ≡ l.rest = walked_rest n (kept_end k) (capacity_in bytes) (word_at (link_of o) bytes) bytes l.rest l.reads in
        let t = lt_true o (kept_end k) (omega arith) in
        let u : rest_from (kept_end k) (k ∷ l.rest) ≡ l.rest = ap (λ b. cond b (rest_from (kept_end k) l.rest) (k ∷ l.rest)) t ∙ w in
        let v : rest_from (kept_end k) (generations bytes) ≡ l.rest =
        sym (rest_further end (kept_end k) (generations bytes) (omega (arith, b))) ∙ (ap (λ x. rest_from (kept_end k) x) l.is ∙ u) in
        let q : rest_from end (generations bytes) ≡ k ∷ rest_from (kept_end k) (generations bytes) = l.is ∙ ap (λ x. k ∷ x) (sym v) in
        let new = rest_from (kept_end k) (generations bytes) in
        let e = r.before_end in
        record {
          behind_end = b;
          aligned = f.aligned;
          within = f.within;
          rest = q;
          reached = record {
            number = n;
            reads = l.reads ∙ ap (λ x. Some x) (sym v);
            linked = refl;
            behind_front = omega arith;
            before_end = omega arith;
            within = f.within;
            as_many = r.as_many;
            bounded = r.bounded;
            before = λ p h. r.before p (omega (arith, h, b, e)) ∙ (ap (λ x. link_before link_at p x) q ∙ ap (λ b. cond b (link_before (28 + o) p new) link_at) (lt_true o p (omega (arith, h))));
            from = λ p h. r.from p (omega (arith, h, b, e)) ∙ (ap (λ x. link_from p x) q ∙ ap (λ b. cond b (link_from p new) (suc o)) (lt_true o p (omega (arith, h))));
            kept = λ p h. r.kept p (omega (arith, h, b, e)) ∙ (ap (λ x. kept_at x p) q ∙ ap (λ b. cond b (Some k) (kept_at new p)) (eq_false o p (λ f. absurd (omega (arith, f, h)))));
            ends = r.ends ∙ (ap (λ x. max end (last_end x)) q ∙ omega (arith, b));
          };
        }

    by_number :
        (n : ℕ) → walked n end (capacity_in bytes) (suc o) bytes ≡ Some (rest_from end (generations bytes)) → Stepped bytes link_at end o
    by_number zero e = absurd (cc e)
    by_number (suc n) e = by_leads n (leads n end (capacity_in bytes) o bytes (rest_from end (generations bytes)) e)

-- the same from a link that is a number, as code has it
pub steps :
    (bytes : List ℕ) (link_at end link : ℕ) → IsReached bytes link_at end link → 0 < link → Stepped bytes link_at end (link - 1)
steps bytes link_at end link r h =
    let p : link ≡ suc (link - 1) = omega arith in
    stepped bytes link_at end (link - 1) (subst (λ x. IsReached bytes link_at end x) p r)

pub reached_at :
    (bytes : List ℕ) (a b c x y z : ℕ) → IsReached bytes a b c → x ≡ a → y ≡ b → z ≡ c → IsReached bytes x y z
reached_at bytes a b c x y z r e f g =
    subst (λ p. IsReached bytes p y z) (sym e)
    (subst (λ p. IsReached bytes a p z) (sym f) (subst (λ p. IsReached bytes a b p) (sym g) r))

pub next_reached :
    (bytes : List ℕ) (link_at end link at behind next : ℕ) → IsReached bytes link_at end link → 0 < link →
    at ≡ link - 1 + 28 → behind ≡ link - 1 + footprint (word_at (link - 1 + 16) bytes) → next ≡ word_at at bytes →
    IsReached bytes at behind next
next_reached bytes link_at end link at behind next r h a b n =
    let s = steps bytes link_at end link r h in
    let x : at ≡ 28 + (link - 1) = omega arith in
    let w : link - 1 + 16 ≡ 16 + (link - 1) = omega arith in
    let y : behind ≡ kept_end (kept_in (link - 1) bytes) = b ∙ ap (λ p. link - 1 + footprint (word_at p bytes)) w in
    reached_at bytes (28 + (link - 1)) (kept_end (kept_in (link - 1) bytes)) (word_at (28 + (link - 1)) bytes) at behind next
    s.reached x y (n ∙ ap (λ p. word_at p bytes) x)

pub next_rest :
    (bytes : List ℕ) (link_at end link behind : ℕ) → IsReached bytes link_at end link → 0 < link →
    behind ≡ link - 1 + footprint (word_at (link - 1 + 16) bytes) →
    rest_from end (generations bytes) ≡ kept_in (link - 1) bytes ∷ rest_from behind (generations bytes)
next_rest bytes link_at end link behind r h b =
    let s = steps bytes link_at end link r h in
    let w : link - 1 + 16 ≡ 16 + (link - 1) = omega arith in
    let y : behind ≡ kept_end (kept_in (link - 1) bytes) = b ∙ ap (λ p. link - 1 + footprint (word_at p bytes)) w in
    s.rest ∙ ap (λ p. kept_in (link - 1) bytes ∷ rest_from p (generations bytes)) (sym y)

-- ---- what stands where a walk stops

none_left : (n start capacity : ℕ) (bytes : List ℕ) (gs : List Kept) → walked n start capacity 0 bytes ≡ Some gs → gs ≡ []
none_left zero start capacity bytes gs e = absurd (cc e)
none_left (suc n) start capacity bytes gs e = cc e

-- the walk is in front of what begins at an offset or behind it
pub record Stopped (bytes : List ℕ) (link_at link o : ℕ) : Type 0 where
  pub before : link_before first_link o (generations bytes) ≡ link_at
  pub from : link_from o (generations bytes) ≡ link

pub stopped :
    (bytes : List ℕ) (link_at end link o : ℕ) → IsReached bytes link_at end link → link_at < 28 + o → (link ≢ 0 → o < link) →
    Stopped bytes link_at link o
stopped bytes link_at end zero o r h l =
    let z = none_left r.number end (capacity_in bytes) bytes (rest_from end (generations bytes)) r.reads in
    record {
      before = r.before o h ∙ ap (λ x. link_before link_at o x) z;
      from = r.from o h ∙ ap (λ x. link_from o x) z;
    }
stopped bytes link_at end (suc p) o r h l =
    let s = stepped bytes link_at end p r in
    let b = l (λ e. absurd (cc e)) in
    let t = lt_false p o (omega (arith, b)) in
    let new = rest_from (kept_end (kept_in p bytes)) (generations bytes) in
    record {
      before = r.before o h ∙ (ap (λ x. link_before link_at o x) s.rest ∙ ap (λ b. cond b (link_before (link_of p) o new) link_at) t);
      from = r.from o h ∙ (ap (λ x. link_from o x) s.rest ∙ ap (λ b. cond b (link_from o new) (suc p)) t);
    }

-- no generation stands at an offset to which the link doesn't lead
pub none_at :
    (bytes : List ℕ) (link_at end link o : ℕ) → IsReached bytes link_at end link → link_at < 28 + o → (link ≢ 0 → o < link) →
    link ≢ suc o → kept_at (generations bytes) o ≡ None
none_at bytes link_at end zero o r h l n =
    let z = none_left r.number end (capacity_in bytes) bytes (rest_from end (generations bytes)) r.reads in
    r.kept o h ∙ ap (λ x. kept_at x o) z
none_at bytes link_at end (suc p) o r h l n =
    let s = stepped bytes link_at end p r in
    let b = l (λ e. absurd (cc e)) in
    let t = eq_false p o (λ f. n (ap (λ x. suc x) f)) in
    let new = rest_from (kept_end (kept_in p bytes)) (generations bytes) in
    let m : p ≢ o = λ f. n (ap (λ x. suc x) f) in
    let w = walked_none s.reached.number (kept_end (kept_in p bytes)) (capacity_in bytes) (word_at (28 + p) bytes) o bytes new s.reached.reads (omega (arith, b, m)) in
    r.kept o h ∙ (ap (λ x. kept_at x o) s.rest ∙ (ap (λ b. cond b (Some (kept_in p bytes)) (kept_at new o)) t ∙ w))

-- one stands where it does
pub one_at :
    (bytes : List ℕ) (link_at end o : ℕ) → IsReached bytes link_at end (suc o) → link_at < 28 + o →
    kept_at (generations bytes) o ≡ Some (kept_in o bytes)
one_at bytes link_at end o r h =
    let s = stepped bytes link_at end o r in
    let t = eq_true o o refl in
    let new = rest_from (kept_end (kept_in o bytes)) (generations bytes) in
    r.kept o h ∙ (ap (λ x. kept_at x o) s.rest ∙ ap (λ b. cond b (Some (kept_in o bytes)) (kept_at new o)) t)

-- where its own link leads
pub link_past :
    (bytes : List ℕ) (link_at end o : ℕ) → IsReached bytes link_at end (suc o) →
    link_from (suc o) (generations bytes) ≡ word_at (28 + o) bytes
link_past bytes link_at end o r =
    let s = stepped bytes link_at end o r in
    let k = kept_end (kept_in o bytes) in
    let next : word_at (28 + o) bytes ≢ 0 → suc o < word_at (28 + o) bytes =
    λ n. let t = steps bytes (28 + o) k (word_at (28 + o) bytes) s.reached (omega (arith, n)) in omega (arith, n, t.behind_end) in
    (stopped bytes (28 + o) k (word_at (28 + o) bytes) (suc o) s.reached (omega arith) next).from

-- ---- gaps and the end

pub room_stop :
    (end capacity needed : ℕ) (g : Kept) (gs rest : List Kept) → rest ≡ g ∷ gs → end + needed ≤ g.offset →
    room_from end capacity needed rest ≡ Some end
room_stop end capacity needed g gs rest e h =
    ap (λ x. room_from end capacity needed x) e
    ∙ ap (λ b. cond b (Some end) (room_from (kept_end g) capacity needed gs)) (le_true (end + needed) g.offset h)

pub room_step :
    (end capacity needed : ℕ) (g : Kept) (gs rest : List Kept) → rest ≡ g ∷ gs → g.offset < end + needed →
    room_from end capacity needed rest ≡ room_from (kept_end g) capacity needed gs
room_step end capacity needed g gs rest e h =
    ap (λ x. room_from end capacity needed x) e
    ∙ ap (λ b. cond b (Some end) (room_from (kept_end g) capacity needed gs)) (le_false (end + needed) g.offset h)

pub whole_rest : (bytes : List ℕ) → IsSome (chain_area bytes) → rest_from 0 (generations bytes) ≡ generations bytes
whole_rest bytes s =
    walked_rest (suc (capacity_in bytes / 16)) 0 (capacity_in bytes) (word_at first_link bytes) bytes (generations bytes) (opened bytes s).reads

-- before the next generation there is enough
pub gap_found :
    (bytes : List ℕ) (needed link_at end link : ℕ) → IsReached bytes link_at end link →
    room_from 0 (capacity_in bytes) needed (generations bytes) ≡ room_from end (capacity_in bytes) needed (rest_from end (generations bytes)) →
    end + needed < link → IsGapAt bytes needed link_at end link
gap_found bytes needed link_at end link r e h =
    let s = steps bytes link_at end link r (omega (arith, h)) in
    record {
      reached = r;
      in_front = λ _. omega (arith, h);
      enough = omega (arith, h, s.within);
      room = e ∙ room_stop end (capacity_in bytes) needed (kept_in (link - 1) bytes) (rest_from (kept_end (kept_in (link - 1) bytes)) (generations bytes)) (rest_from end (generations bytes)) s.rest (omega (arith, h));
    }

-- there isn't
pub gap_missed :
    (bytes : List ℕ) (needed link_at end link behind : ℕ) → IsReached bytes link_at end link → 0 < link →
    room_from 0 (capacity_in bytes) needed (generations bytes) ≡ room_from end (capacity_in bytes) needed (rest_from end (generations bytes)) →
    link ≤ end + needed → rest_from end (generations bytes) ≡ kept_in (link - 1) bytes ∷ rest_from behind (generations bytes) →
    behind ≡ kept_end (kept_in (link - 1) bytes) →
    room_from 0 (capacity_in bytes) needed (generations bytes)
    ≡ room_from behind (capacity_in bytes) needed (rest_from behind (generations bytes))
gap_missed bytes needed link_at end link behind r p e h q b =
    e ∙ (room_step end (capacity_in bytes) needed (kept_in (link - 1) bytes) (rest_from behind (generations bytes)) (rest_from end (generations bytes)) q (omega (arith, h, p))
    ∙ ap (λ x. room_from x (capacity_in bytes) needed (rest_from behind (generations bytes))) (sym b))

nothing_left :
    (bytes : List ℕ) (link_at end link : ℕ) → IsReached bytes link_at end link → link ≡ 0 → rest_from end (generations bytes) ≡ []
nothing_left bytes link_at end link r z =
    let e : walked r.number end (capacity_in bytes) 0 bytes ≡ Some (rest_from end (generations bytes)) =
    ap (λ x. walked r.number end (capacity_in bytes) x bytes) (sym z) ∙ r.reads in
    none_left r.number end (capacity_in bytes) bytes (rest_from end (generations bytes)) e

-- behind the last one there is enough, or not
pub gap_last :
    (bytes : List ℕ) (needed link_at end link : ℕ) → IsReached bytes link_at end link → link ≡ 0 →
    room_from 0 (capacity_in bytes) needed (generations bytes) ≡ room_from end (capacity_in bytes) needed (rest_from end (generations bytes)) →
    end + needed ≤ capacity_in bytes → IsGapAt bytes needed link_at end link
gap_last bytes needed link_at end link r z e h =
    record {
      reached = r;
      in_front = λ n. absurd (n z);
      enough = h;
      room = e ∙ (ap (λ x. room_from end (capacity_in bytes) needed x) (nothing_left bytes link_at end link r z) ∙ ap (λ b. cond b (Some end) None) (le_true (end + needed) (capacity_in bytes) h));
    }

pub gap_none :
    (bytes : List ℕ) (needed link_at end link : ℕ) → IsReached bytes link_at end link → link ≡ 0 →
    room_from 0 (capacity_in bytes) needed (generations bytes) ≡ room_from end (capacity_in bytes) needed (rest_from end (generations bytes)) →
    capacity_in bytes < end + needed → room_from 0 (capacity_in bytes) needed (generations bytes) ≡ None
gap_none bytes needed link_at end link r z e h =
    e ∙ (ap (λ x. room_from end (capacity_in bytes) needed x) (nothing_left bytes link_at end link r z) ∙ ap (λ b. cond b (Some end) None) (le_false (end + needed) (capacity_in bytes) h))

pub end_at_last :
    (bytes : List ℕ) (link_at end link : ℕ) → IsReached bytes link_at end link → link ≡ 0 → end ≡ last_end (generations bytes)
end_at_last bytes link_at end link r z =
    let x : last_end (generations bytes) ≡ max end 0 = r.ends ∙ ap (λ x. max end (last_end x)) (nothing_left bytes link_at end link r z) in
    omega (arith, x)

-- more is wanted than an area holds
pub room_too_much :
    (n start capacity link needed : ℕ) (bytes : List ℕ) (gs : List Kept) → walked n start capacity link bytes ≡ Some gs →
    capacity < needed → room_from start capacity needed gs ≡ None
room_too_much zero start capacity link needed bytes gs e h = absurd (cc e)
room_too_much (suc n) start capacity zero needed bytes gs e h =
    let k : [] ≡ gs = cc e in
    let q : room_from start capacity needed [] ≡ None = ap (λ b. cond b (Some start) None) (le_false (start + needed) capacity (omega (arith, h))) in
    subst (λ xs. room_from start capacity needed xs ≡ None) k q
room_too_much (suc n) start capacity (suc p) needed bytes gs e h =
    let l = leads n start capacity p bytes gs e in
    let w = l.follows.within in
    let r = room_too_much n (kept_end (kept_in p bytes)) capacity (word_at (link_of p) bytes) needed bytes l.rest l.reads h in
    room_step start capacity needed (kept_in p bytes) l.rest gs l.is (omega (arith, w, h)) ∙ r

pub next_end :
    (bytes : List ℕ) (link_at end link behind : ℕ) → IsReached bytes link_at end link → 0 < link →
    behind ≡ link - 1 + footprint (word_at (link - 1 + 16) bytes) → behind ≡ kept_end (kept_in (link - 1) bytes)
next_end bytes link_at end link behind r h b =
    let w : link - 1 + 16 ≡ 16 + (link - 1) = omega arith in
    b ∙ ap (λ p. link - 1 + footprint (word_at p bytes)) w
