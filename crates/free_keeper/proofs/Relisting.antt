-- Links that are written: along which free blocks they lead then, and which bytes stay.
use Rattle.std.proofs.Common.{◌≡◌, ◌≢◌, ◌⊎◌, inl, inr, ℕ, zero, suc, ◌+◌, ◌-◌, ◌^◌, ◌%◌, ◌<◌, ◌≤◌, List, [], ◌∷◌}
use Rattle.std.proofs.Common.{◌++◌, length, Bool, true, false, refl, sym, ap, ◌∙◌, subst, arith}
use Rattle.std.specs.Prelude.{cond, ◌==◌}
use Rattle.rv_meaning.proofs.MemoryLaws.{load-store_same, load-store_other}
use Rattle.area_keeper.specs.KeeperLaws.{greatest_capacity}
use Rattle.area_keeper.specs.Chain.{word_at, with_word}
use Rattle.area_keeper.proofs.Agreement.{Agrees, agrees_twice, agrees_word, length_word, word_same}
use Rattle.free_keeper.proofs.Tests.{eq_tells, lt_false, lt_true}
use Rattle.free_keeper.proofs.Gaps.{Blocks, Clear, clear_behind}
use Rattle.free_keeper.proofs.Links.{Listed, Chained, listed_behind, Before, last_before, Passed, chained_moved}
use Rattle.free_keeper.proofs.Links.{listed_same, AllBut, blocks_clear, blocks_split, blocks_within}
use Rattle.free_keeper.specs.FreeList.{Free, free, link_place, link_behind, size_of, with_free, with_end, gap_before}

pub word_there : (m : List ℕ) (at v : ℕ) → v < 2 ^ 32 → at + 4 ≤ length m → word_at at (with_word at v m) ≡ v
word_there m at v h i = load-store_same 4 m at v h i

pub word_other :
    (m : List ℕ) (at v from : ℕ) → (from + 4 ≤ at) ⊎ (at + 4 ≤ from) → word_at from (with_word at v m) ≡ word_at from m
word_other m at v from h = load-store_other 4 4 m at v from h

-- ---- where links stand

pub place_before : (front b o : ℕ) → 12 ≤ front → Before b o → link_place front b + 4 ≤ front + o
place_before front zero o h b = omega (arith, h)
place_before front (suc p) o h b = omega (arith, b)

place_low :
    (front b x y : ℕ) → 12 ≤ front → (y ≤ 8) ⊎ ((12 ≤ x) × (y ≤ front)) →
    (y ≤ link_place front b) ⊎ (link_place front b + 4 ≤ x)
place_low front zero x y h (inl i) = inl i
place_low front zero x y h (inr i) = inr i.0
place_low front (suc p) x y h (inl i) = inl (omega (arith, h, i))
place_low front (suc p) x y h (inr i) = inl (omega (arith, i.1))

-- what leads to a place isn't in a part of the capacity
abbrev pub ClearOf : (from to before : ℕ) → Type 0
ClearOf a b zero = Unit {0}
ClearOf a b (suc o) = (o + 16 ≤ a) ⊎ (b ≤ o)

pub place_clear :
    (front l a b : ℕ) → 12 ≤ front → ClearOf a b l → (front + b ≤ link_place front l) ⊎ (link_place front l + 4 ≤
    front + a)
place_clear front zero a b h c = inr (omega (arith, h))
place_clear front (suc o) a b h (inl i) = inr (omega (arith, i))
place_clear front (suc o) a b h (inr i) = inl (omega (arith, i))

pub clear_last :
    (front b l start c x y : ℕ) (bytes : List ℕ) (fs : List Free) → Chained front b bytes fs l → Blocks start c fs →
    Clear x y fs →
    ClearOf x y b → ClearOf x y l
clear_last front b l start c x y bytes [] h k q r = subst (λ z. ClearOf x y z) h r
clear_last front b l start c x y bytes (f ∷ fs) h k q r =
    clear_last front (suc f.offset) l (f.offset + f.size) c x y bytes fs h.2 k.4 q.1 (side q.0)
  where
    side : (f.offset + f.size ≤ x) ⊎ (y ≤ f.offset) → (f.offset + 16 ≤ x) ⊎ (y ≤ f.offset)
    side (inl i) = inl (omega (arith, i, k.2))
    side (inr i) = inr i

pub clear_passed : (x y : ℕ) (fs gs : List Free) → Clear x y (fs ++ gs) → Clear x y fs × Clear x y gs
clear_passed x y [] gs h = (tt, h)
clear_passed x y (f ∷ fs) gs h = let r = clear_passed x y fs gs h.1 in ((h.0, r.0), r.1)

pub clear_both : (x y : ℕ) (fs gs : List Free) → Clear x y fs → Clear x y gs → Clear x y (fs ++ gs)
clear_both x y [] gs h k = k
clear_both x y (f ∷ fs) gs h k = (h.0, clear_both x y fs gs h.1 k)

-- ---- what is the same in front of what is written

passed_same :
    (old new : List ℕ) (front l : ℕ) → 12 ≤ front →
    ((x y : ℕ) → y ≤ link_place front l → (y ≤ 12) ⊎ (front ≤ x) → Agrees old new x y) → Passed old new front front l
passed_same old new front zero h f =
    record { head = λ i. absurd (omega (arith, i)); words = λ x i. absurd (omega (arith, i)) }
passed_same old new front (suc o) h f =
    record {
      head = λ i. word_same old new 8 12 8 (f 8 12 (omega (arith, h)) (inl (omega arith))) (omega arith) (omega arith);
      words = λ x i.
          word_same old new (front + x) (front + x + 4) (front + x) (f (front + x) (front + x + 4) (omega (arith, i))
          (inr (omega arith))) (omega arith) (omega arith);
    }

pub listed_least :
    (front link start c : ℕ) (bytes : List ℕ) (fs : List Free) → Listed front link bytes fs → Blocks start c fs →
    link ≤ c
listed_least front link start c bytes [] h k = omega (arith, h)
listed_least front link start c bytes (f ∷ fs) h k = omega (arith, h.0, k.2, blocks_within (f.offset + f.size) c fs k.4)

-- ---- a free block, and the link to it

pub record Relisted (front : ℕ) (old new : List ℕ) (fs : List Free) : Type 0 where
  pub as_many : length new ≡ length old
  pub listed : Listed front (link_behind front 0 new) new fs
  pub low : (x y : ℕ) → (y ≤ 8) ⊎ ((12 ≤ x) × (y ≤ front)) → Agrees old new x y
  pub others : (a b : ℕ) → Clear a b fs → Agrees old new (front + a) (front + b)

pub relisted :
    (front c l link : ℕ) (old : List ℕ) (passed rest : List Free) (f : Free) → 12 ≤ front → c ≤ greatest_capacity →
    length old ≡ front + c → Chained front 0 old passed l → Blocks 0 c (passed ++ (f ∷ rest)) →
    Listed front link old rest →
    Relisted front old (with_free front l f link old) (passed ++ (f ∷ rest))
relisted front c l link old passed rest f h g n chained blocks listed =
    let s = blocks_split 0 c passed f rest blocks in
    let at = front + f.offset in
    let place = link_place front l in
    let end : f.offset + f.size ≤ c = blocks_within (f.offset + f.size) c rest s.rest in
    let before : Before l f.offset = last_before front 0 l 0 f.offset old passed chained s.passed tt in
    let p : place + 4 ≤ at = place_before front l f.offset h before in
    let a = with_word at f.size old in
    let b = with_word (4 + at) link a in
    let new = with_word place (suc f.offset) b in
    let na : length a ≡ length old = length_word old at f.size in
    let nb : length b ≡ length old = length_word a (4 + at) link ∙ na in
    let nn : length new ≡ length old = length_word b place (suc f.offset) ∙ nb in
    let small : link ≤ c = listed_least front link (f.offset + f.size) c old rest listed s.rest in
    let some = s.some in
    let agrees : (x y : ℕ) → (y ≤ place) ⊎ (place + 4 ≤ x) → (y ≤ at) ⊎ (8 + at ≤ x) → Agrees old new x y =
    λ x y i j.
    agrees_twice old b new x y (agrees_twice old a b x y (agrees_word old at f.size x y (first at x y j)) (agrees_word
    a (4 + at) link x y (second at x y j))) (agrees_word b place (suc f.offset) x y i)
    in
    let leads : link_behind front l new ≡ suc f.offset = word_there b place (suc f.offset) (omega (
      arith,
      end,
      some,
      g,
    )) (omega (arith, nb, n, p, end, some)) in
    let size : size_of front f.offset new ≡ f.size =
    word_other b place (suc f.offset) at (inr p)
    ∙ (word_other a (4 + at) link at (inl (omega arith)) ∙ word_there old at f.size (omega (arith, end, g)) (omega
    (arith, n, end, some)))
    in
    let next : link_behind front (suc f.offset) new ≡ link =
    word_other b place (suc f.offset) (4 + at) (inr (omega (arith, p)))
    ∙ word_there a (4 + at) link (omega (arith, small, g)) (omega (arith, na, n, end, some))
    in
    let chain = chained_moved old new front front 0 l 0 f.offset passed chained s.passed tt (passed_same old new front
    l h (λ x y i j. agrees x y (inl i) (inl (omega (arith, i, p))))) in
    let behind : AllBut old new front 0 (f.offset + f.size) =
    record {
      agrees =
          λ x y i j. above x y i j (λ e. agrees x y (inr (omega (arith, e, p, some))) (inr (omega (arith, e, some))));
    }
    in
    let rest_same = listed_same old new front link rest listed (blocks_clear old new front 0 (f.offset + f.size)
    (f.offset + f.size) c rest behind s.rest (clear_behind 0 (f.offset + f.size) (f.offset + f.size) c rest s.rest
    (omega arith))) in
    record {
      as_many = nn;
      listed =
          listed_behind front 0 l new passed (f ∷ rest) chain (
            leads,
            size,
            subst (λ x. Listed front x new rest) (sym
                next) rest_same,
          );
      low = λ x y i. agrees x y (place_low front l x y h i) (under x y i);
      others = λ x y q.
          let r = clear_passed x y passed (f ∷ rest) q in
          agrees (front + x) (front + y) (place_clear front l x y h (clear_last front 0 l 0 f.offset x y old passed
          chained s.passed r.0 tt)) (beside x y some r.1.0);
    }
  where
    first : (at x y : ℕ) → (y ≤ at) ⊎ (8 + at ≤ x) → (y ≤ at) ⊎ (at + 4 ≤ x)
    first at x y (inl i) = inl i
    first at x y (inr i) = inr (omega (arith, i))

    second : (at x y : ℕ) → (y ≤ at) ⊎ (8 + at ≤ x) → (y ≤ 4 + at) ⊎ (4 + at + 4 ≤ x)
    second at x y (inl i) = inl (omega (arith, i))
    second at x y (inr i) = inr (omega (arith, i))

    above :
        (x y : ℕ) → front ≤ x → (y ≤ front + 0) ⊎ (front + (f.offset + f.size) ≤ x) →
        (front + (f.offset + f.size) ≤ x → Agrees old (with_free front l f link old) x y) →
        Agrees old (with_free front l f link old) x y
    above x y i (inl j) k = record { same = λ z u v. absurd (omega (arith, i, j, u, v)) }
    above x y i (inr j) k = k j

    under : (x y : ℕ) → (y ≤ 8) ⊎ ((12 ≤ x) × (y ≤ front)) → (y ≤ front + f.offset) ⊎ (8 + (front + f.offset) ≤ x)
    under x y (inl i) = inl (omega (arith, i, h))
    under x y (inr i) = inl (omega (arith, i.1))

    beside :
        (x y : ℕ) → 16 ≤ f.size → (f.offset + f.size ≤ x) ⊎ (y ≤ f.offset) →
        (front + y ≤ front + f.offset) ⊎ (8 + (front + f.offset) ≤ front + x)
    beside x y s (inl i) = inr (omega (arith, i, s))
    beside x y s (inr i) = inl (omega (arith, i))

-- ---- a link past a free block, or to nothing

pub unlisted :
    (front c e l link : ℕ) (old : List ℕ) (passed rest : List Free) → 12 ≤ front → c ≤ greatest_capacity →
    length old ≡ front + c → Chained front 0 old passed l → Blocks 0 e passed → Blocks e c rest →
    Listed front link old rest →
    Relisted front old (with_word (link_place front l) link old) (passed ++ rest)
unlisted front c e l link old passed rest h g n chained blocks further listed =
    let place = link_place front l in
    let new = with_word place link old in
    let within : e ≤ c = blocks_within e c rest further in
    let before : Before l e = last_before front 0 l 0 e old passed chained blocks tt in
    let p : place + 4 ≤ front + e = place_before front l e h before in
    let small : link ≤ c = listed_least front link e c old rest listed further in
    let leads : link_behind front l new ≡ link = word_there old place link (omega (arith, small, g)) (omega (
      arith,
      n,
      p,
      within,
    )) in
    let chain = chained_moved old new front front 0 l 0 e passed chained blocks tt (passed_same old new front l h (λ x
    y i j. agrees_word old place link x y (inl i))) in
    let behind : AllBut old new front 0 e = record {
      agrees = λ x y i j. agrees_word old place link x y (above x y p i
          j);
    } in
    let rest_same = listed_same old new front link rest listed (blocks_clear old new front 0 e e c rest behind further
    (clear_behind 0 e e c rest further (omega arith))) in
    record {
      as_many = length_word old place link;
      listed =
          listed_behind front 0 l new passed rest chain (subst (λ x. Listed front x new rest) (sym leads) rest_same);
      low = λ x y i. agrees_word old place link x y (place_low front l x y h i);
      others = λ x y q.
          let r = clear_passed x y passed rest q in
          agrees_word old place link (front + x) (front + y) (place_clear front l x y h (clear_last front 0 l 0 e x y
          old passed chained blocks r.0 tt));
    }
  where
    above :
        (x y : ℕ) → link_place front l + 4 ≤ front + e → front ≤ x → (y ≤ front + 0) ⊎ (front + e ≤ x) →
        (y ≤ link_place front l) ⊎ (link_place front l + 4 ≤ x)
    above x y p i (inl j) = nothing l
      where
        nothing : (l : ℕ) → (y ≤ link_place front l) ⊎ (link_place front l + 4 ≤ x)
        nothing zero = inr (omega (arith, i, h))
        nothing (suc o) = inl (omega (arith, j))
    above x y p i (inr j) = inr (omega (arith, p, j))

-- ---- all is free from a place on

pub end_relisted :
    (front c e l : ℕ) (old : List ℕ) (passed : List Free) → 12 ≤ front → c ≤ greatest_capacity → c % 16 ≡ 0 →
    e % 16 ≡ 0 → e ≤ c →
    length old ≡ front + c → Chained front 0 old passed l → Blocks 0 e passed →
    Relisted front old (with_end front l e c old) (passed ++ gap_before e c [])
end_relisted front c e l old passed h g a b i n chained blocks = by_test (e == c) refl
  where
    blocks_with :
        (start : ℕ) (fs : List Free) → Blocks start e fs → e < c → Blocks start c (fs ++ (free e (c - e) ∷ []))
    blocks_with start [] k l = (k, b, omega (arith, a, b, l), omega (arith, a, b, l), omega (arith, l))
    blocks_with start (f ∷ fs) k l = (k.0, k.1, k.2, k.3, blocks_with (f.offset + f.size) fs k.4 l)

    by_test :
        (t : Bool) → (e == c) ≡ t →
        Relisted front old (cond t (with_word (link_place front l) 0 old) (with_free front l (free e (c - e)) 0 old))
        (passed ++ gap_before e c [])
    by_test true t =
        let q = eq_tells e c true t in
        let z : gap_before e c [] ≡ [] = ap (λ x. cond x (free e (c - e) ∷ []) []) (lt_false e c (omega (arith, q))) in
        subst (λ xs. Relisted front old (with_word (link_place front l) 0 old) (passed ++ xs)) (sym z) (unlisted front
        c e l 0 old passed [] h g n chained blocks i refl)
    by_test false t =
        let q : e < c = less (eq_tells e c false t) in
        let z : gap_before e c [] ≡ free e (c - e) ∷ [] = ap (λ x. cond x (free e (c - e) ∷ []) []) (lt_true e c q) in
        subst (λ xs. Relisted front old (with_free front l (free e (c - e)) 0 old) (passed ++ xs)) (sym z) (relisted
        front c l 0 old passed [] (free e (c - e)) h g n chained (blocks_with 0 passed blocks q) refl)
      where
        less : e ≢ c → e < c
        less q = omega (arith, i, q)
