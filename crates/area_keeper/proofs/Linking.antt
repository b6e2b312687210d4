-- Headers in a chain: what stays when bytes agree, and what a header and a link more, or a link past one, lead to.
use Rattle.std.proofs.Common.{◌≡◌, ◌⊎◌, inl, inr, ℕ, suc, ◌+◌, ◌*◌, ◌/◌, ◌%◌, ◌≤◌, List, [], ◌∷◌, Some, None, Bool, true, false, refl, sym, ap, ◌∙◌, subst, arith}
use Rattle.std.specs.Prelude.{cond, nat_le, nat_lt, ◌==◌}
use Rattle.area_keeper.proofs.Tests.{eq_tells, le_tells, lt_false, lt_tells, lt_true}
use Rattle.area_keeper.specs.Keeper.{Kept}
use Rattle.area_keeper.specs.KeptAreas.{kept_end, InOrder, kept_at, with_kept, without_kept}
use Rattle.area_keeper.specs.Chain.{word_at, link_of, kept_in, link_before, link_from, room_from}
use Rattle.area_keeper.proofs.Agreement.{Agrees, agrees_within, word_same, kept_same}
use Rattle.area_keeper.proofs.Walking.{Leads}

-- ---- room for so many bytes

abbrev pub Apart : (offset bytes : ℕ) → List Kept → Type 0
Apart o bytes [] = Unit {0}
Apart o bytes (g ∷ gs) = ((kept_end g ≤ o) ⊎ (o + bytes ≤ g.offset)) × Apart o bytes gs

pub record Room (start capacity bytes : ℕ) (gs : List Kept) (o : ℕ) : Type 0 where
  pub behind_start : start ≤ o
  pub aligned : o % 16 ≡ 0
  pub within : o + bytes ≤ capacity
  pub apart : Apart o bytes gs

apart_behind : (x o capacity bytes : ℕ) (gs : List Kept) → InOrder x capacity gs → o + bytes ≤ x → Apart o bytes gs
apart_behind x o capacity bytes [] i h = tt
apart_behind x o capacity bytes (g ∷ gs) i h =
    let a : o + bytes ≤ g.offset = omega (arith, i.0, h) in
    (inr a, apart_behind (kept_end g) o capacity bytes gs i.3 (omega (arith, a)))

ends_aligned : (o n : ℕ) → o % 16 ≡ 0 → (o + (16 + (n + 15) / 16 * 16)) % 16 ≡ 0
ends_aligned o n h = omega (arith, h)

pub room_sound :
    (start capacity bytes : ℕ) (gs : List Kept) (o : ℕ) → start % 16 ≡ 0 → InOrder start capacity gs →
    room_from start capacity bytes gs ≡ Some o → Room start capacity bytes gs o
room_sound start capacity bytes [] o a i e = by_test (nat_le (start + bytes) capacity) refl e
  where
    by_test :
        (t : Bool) → nat_le (start + bytes) capacity ≡ t → cond t (Some start) None ≡ Some o → Room start capacity bytes [] o
    by_test true t e =
        let f : start ≡ o = cc e in
        subst (λ x. Room start capacity bytes [] x) f (record { behind_start = omega arith; aligned = a; within = le_tells (start + bytes) capacity true t; apart = tt })
    by_test false t e = absurd (cc e)
room_sound start capacity bytes (g ∷ gs) o a i e =
    by_test (nat_le (start + bytes) g.offset) refl e (λ f. room_sound (kept_end g) capacity bytes gs o (ends_aligned g.offset _ i.1) i.3 f)
  where
    by_test :
        (t : Bool) → nat_le (start + bytes) g.offset ≡ t →
        cond t (Some start) (room_from (kept_end g) capacity bytes gs) ≡ Some o →
        (room_from (kept_end g) capacity bytes gs ≡ Some o → Room (kept_end g) capacity bytes gs o) →
        Room start capacity bytes (g ∷ gs) o
    by_test true t e rest =
        let f : start ≡ o = cc e in
        let b = le_tells (start + bytes) g.offset true t in
        subst (λ x. Room start capacity bytes (g ∷ gs) x) f (record {
          behind_start = omega arith;
          aligned = a;
          within = omega (arith, b, i.2);
          apart = (inr b, apart_behind (kept_end g) start capacity bytes gs i.3 (omega (arith, b)));
        })
    by_test false t e rest =
        let r = rest e in
        record { behind_start = omega (arith, i.0, r.behind_start); aligned = r.aligned; within = r.within; apart = (inl r.behind_start, r.apart) }

-- ---- where links stand

-- the link to an offset stands where the walk begins, or in a header behind it
before_where :
    (at o start capacity : ℕ) (gs : List Kept) → InOrder start capacity gs →
    (link_before at o gs ≡ at) ⊎ (28 + start ≤ link_before at o gs)
before_where at o start capacity [] i = inl refl
before_where at o start capacity (g ∷ gs) i =
    by_test (nat_lt g.offset o) (before_where (link_of g.offset) o (kept_end g) capacity gs i.3)
  where
    by_test :
        (t : Bool) →
        (link_before (link_of g.offset) o gs ≡ link_of g.offset) ⊎ (28 + kept_end g ≤ link_before (link_of g.offset) o gs) →
        (cond t (link_before (link_of g.offset) o gs) at ≡ at) ⊎ (28 + start ≤ cond t (link_before (link_of g.offset) o gs) at)
    by_test true (inl r) = inr (omega (arith, i.0, r))
    by_test true (inr r) = inr (omega (arith, i.0, r))
    by_test false r = inl refl

pub before_least :
    (at o start capacity : ℕ) (gs : List Kept) → InOrder start capacity gs → at ≤ 28 + start → at ≤ link_before at o gs
before_least at o start capacity gs i h = by_where (before_where at o start capacity gs i)
  where
    by_where : (link_before at o gs ≡ at) ⊎ (28 + start ≤ link_before at o gs) → at ≤ link_before at o gs
    by_where (inl r) = omega (arith, r)
    by_where (inr r) = omega (arith, h, r)

pub before_below :
    (at o start capacity : ℕ) (gs : List Kept) → o % 16 ≡ 0 → InOrder start capacity gs → at + 4 ≤ 16 + o →
    link_before at o gs + 4 ≤ 16 + o
before_below at o start capacity [] a i h = h
before_below at o start capacity (g ∷ gs) a i h =
    by_test (nat_lt g.offset o) refl (λ j. before_below (link_of g.offset) o (kept_end g) capacity gs a i.3 j)
  where
    by_test :
        (t : Bool) → nat_lt g.offset o ≡ t →
        (link_of g.offset + 4 ≤ 16 + o → link_before (link_of g.offset) o gs + 4 ≤ 16 + o) →
        cond t (link_before (link_of g.offset) o gs) at + 4 ≤ 16 + o
    by_test true t rest = rest (omega (arith, a, i.1, lt_tells g.offset o true t))
    by_test false t rest = h

-- a link's place is in no data
abbrev pub NotInData : (place : ℕ) → List Kept → Type 0
NotInData x [] = Unit {0}
NotInData x (g ∷ gs) = ((x + 4 ≤ 32 + g.offset) ⊎ (16 + kept_end g ≤ x)) × NotInData x gs

front_not_in_data : (x start capacity : ℕ) (gs : List Kept) → InOrder start capacity gs → x + 4 ≤ 16 + start → NotInData x gs
front_not_in_data x start capacity [] i h = tt
front_not_in_data x start capacity (g ∷ gs) i h =
    (inl (omega (arith, i.0, h)), front_not_in_data x (kept_end g) capacity gs i.3 (omega (arith, i.0, h)))

pub before_not_in_data :
    (at o start capacity : ℕ) (gs : List Kept) → InOrder start capacity gs → at + 4 ≤ 16 + start →
    NotInData (link_before at o gs) gs
before_not_in_data at o start capacity [] i h = tt
before_not_in_data at o start capacity (g ∷ gs) i h =
    by_test (nat_lt g.offset o) (before_where (link_of g.offset) o (kept_end g) capacity gs i.3) (before_not_in_data (link_of g.offset) o (kept_end g) capacity gs i.3 (omega arith))
  where
    by_test :
        (t : Bool) →
        (link_before (link_of g.offset) o gs ≡ link_of g.offset) ⊎ (28 + kept_end g ≤ link_before (link_of g.offset) o gs) →
        NotInData (link_before (link_of g.offset) o gs) gs →
        NotInData (cond t (link_before (link_of g.offset) o gs) at) (g ∷ gs)
    by_test true (inl r) rest = (inl (omega (arith, r)), rest)
    by_test true (inr r) rest = (inr (omega (arith, r)), rest)
    by_test false r rest = front_not_in_data at start capacity (g ∷ gs) i h

-- ---- bytes that agree

abbrev pub SameHeaders : (old new : List ℕ) → List Kept → Type 0
SameHeaders old new [] = Unit {0}
SameHeaders old new (g ∷ gs) = Agrees old new (16 + g.offset) (32 + g.offset) × SameHeaders old new gs

pub headers_within :
    (old new : List ℕ) (from to start capacity : ℕ) (gs : List Kept) → InOrder start capacity gs → Agrees old new from to →
    from ≤ 16 + start → 16 + capacity ≤ to → SameHeaders old new gs
headers_within old new from to start capacity [] i h a b = tt
headers_within old new from to start capacity (g ∷ gs) i h a b =
    (agrees_within old new from to (16 + g.offset) (32 + g.offset) h (omega (arith, i.0, a)) (omega (arith, i.2, b)), headers_within old new from to (kept_end g) capacity gs i.3 h (omega (arith, i.0, a)) b)

pub leads_same : (old new : List ℕ) (link : ℕ) (gs : List Kept) → SameHeaders old new gs → Leads link old gs → Leads link new gs
leads_same old new link [] h l = l
leads_same old new link (g ∷ gs) h l =
    let w = word_same old new (16 + g.offset) (32 + g.offset) (28 + g.offset) h.0 (omega arith) (omega arith) in
    let k = kept_same old new g.offset (agrees_within old new (16 + g.offset) (32 + g.offset) (16 + g.offset) (28 + g.offset) h.0 (omega arith) (omega arith)) in
    (l.0, k ∙ l.1, subst (λ (x : ℕ). Leads x new gs) (sym w) (leads_same old new (word_at (link_of g.offset) old) gs h.1 l.2))

-- a link from elsewhere to the first of these
relinked :
    (old new : List ℕ) (start capacity o link other : ℕ) (gs : List Kept) → InOrder start capacity gs → o ≤ start →
    SameHeaders old new gs → Leads link old gs → other ≡ link_from o gs → Leads other new gs
relinked old new start capacity o link other [] i h s l e = e
relinked old new start capacity o link other (g ∷ gs) i h s l e =
    let t = lt_false g.offset o (omega (arith, i.0, h)) in
    let r = leads_same old new link (g ∷ gs) s l in
    (e ∙ ap (λ b. cond b (link_from o gs) (suc g.offset)) t, r.1, r.2)

-- ---- a generation more

-- which bytes stay where a header and the link to it are written, and where so many bytes at one place are
pub record AllBut (old new : List ℕ) (place header : ℕ) : Type 0 where
  pub agrees :
      (from to : ℕ) → (to ≤ place) ⊎ (place + 4 ≤ from) → (to ≤ 16 + header) ⊎ (32 + header ≤ from) → Agrees old new from to

pub record AllButPart (old new : List ℕ) (place count : ℕ) : Type 0 where
  pub agrees : (from to : ℕ) → (to ≤ place) ⊎ (place + count ≤ from) → Agrees old new from to

pub placing :
    (old new : List ℕ) (n : Kept) (at start capacity bytes place : ℕ) (gs : List Kept) → InOrder start capacity gs →
    Leads (word_at at old) old gs → start ≤ n.offset → 16 ≤ bytes → Apart n.offset bytes gs → at + 4 ≤ 16 + start →
    place ≡ link_before at n.offset gs → word_at place new ≡ suc n.offset → kept_in n.offset new ≡ n →
    word_at (28 + n.offset) new ≡ link_from n.offset gs → AllBut old new place n.offset →
    Leads (word_at at new) new (with_kept n gs)
placing old new n at start capacity bytes place [] i l h b a d e w k v f =
    (subst (λ x. word_at x new ≡ suc n.offset) e w, k, v)
placing old new n at start capacity bytes place (g ∷ gs) i l h b a d e w k v f =
    by_case a.0 (λ j p x. placing old new n (link_of g.offset) (kept_end g) capacity bytes place gs i.3 l.2 j b a.1 (omega arith) p w k x f)
  where
    by_case :
        (kept_end g ≤ n.offset) ⊎ (n.offset + bytes ≤ g.offset) →
        (kept_end g ≤ n.offset → place ≡ link_before (link_of g.offset) n.offset gs → word_at (28 + n.offset) new ≡ link_from n.offset gs → Leads (word_at (link_of g.offset) new) new (with_kept n gs)) →
        Leads (word_at at new) new (with_kept n (g ∷ gs))
    by_case (inl j) rest =
        let t = lt_true g.offset n.offset (omega (arith, j)) in
        let u = lt_false n.offset g.offset (omega (arith, j)) in
        let p : place ≡ link_before (link_of g.offset) n.offset gs = e ∙ ap (λ c. cond c (link_before (link_of g.offset) n.offset gs) at) t in
        let x : word_at (28 + n.offset) new ≡ link_from n.offset gs = v ∙ ap (λ c. cond c (link_from n.offset gs) (suc g.offset)) t in
        let q : 28 + g.offset ≤ place = past p (before_where (link_of g.offset) n.offset (kept_end g) capacity gs i.3) in
        let y = word_same old new at (at + 4) at (f.agrees at (at + 4) (inl (omega (arith, d, q, i.0))) (inl (omega (arith, d, h)))) (omega arith) (omega arith) in
        let z = kept_same old new g.offset (f.agrees (16 + g.offset) (28 + g.offset) (inl q) (inl (omega (arith, j)))) in
        subst (λ c. Leads (word_at at new) new (cond c (n ∷ g ∷ gs) (g ∷ with_kept n gs))) (sym u) (y ∙ l.0, z ∙ l.1, rest j p x)
      where
        past : {x : ℕ} → place ≡ x → (x ≡ link_of g.offset) ⊎ (28 + kept_end g ≤ x) → 28 + g.offset ≤ place
        past p (inl r) = omega (arith, p, r)
        past p (inr r) = omega (arith, p, r)
    by_case (inr j) rest =
        let t = lt_false g.offset n.offset (omega (arith, j)) in
        let u = lt_true n.offset g.offset (omega (arith, j, b)) in
        let p : place ≡ at = e ∙ ap (λ c. cond c (link_before (link_of g.offset) n.offset gs) at) t in
        let o : InOrder g.offset capacity (g ∷ gs) = (omega arith, i.1, i.2, i.3) in
        let s = headers_within old new (16 + g.offset) (16 + capacity) g.offset capacity (g ∷ gs) o (f.agrees (16 + g.offset) (16 + capacity) (inr (omega (arith, p, d, i.0))) (inr (omega (arith, j, b)))) (omega arith) (omega arith) in
        let r = relinked old new g.offset capacity n.offset (word_at at old) (word_at (28 + n.offset) new) (g ∷ gs) o (omega (arith, j)) s l v in
        subst (λ c. Leads (word_at at new) new (cond c (n ∷ g ∷ gs) (g ∷ with_kept n gs))) (sym u) (subst (λ x. word_at x new ≡ suc n.offset) p w, k, r)

-- ---- a generation less

pub kept_where :
    (start capacity o : ℕ) (gs : List Kept) (g : Kept) → InOrder start capacity gs → kept_at gs o ≡ Some g →
    (start ≤ o) × (o % 16 ≡ 0) × (kept_end g ≤ capacity) × (g.offset ≡ o)
kept_where start capacity o [] g i e = absurd (cc e)
kept_where start capacity o (h ∷ gs) g i e =
    by_test (h.offset == o) refl e (λ f. kept_where (kept_end h) capacity o gs g i.3 f)
  where
    by_test :
        (t : Bool) → (h.offset == o) ≡ t → cond t (Some h) (kept_at gs o) ≡ Some g →
        (kept_at gs o ≡ Some g → (kept_end h ≤ o) × (o % 16 ≡ 0) × (kept_end g ≤ capacity) × (g.offset ≡ o)) →
        (start ≤ o) × (o % 16 ≡ 0) × (kept_end g ≤ capacity) × (g.offset ≡ o)
    by_test true t e rest =
        let f : h ≡ g = cc e in
        let q : h.offset ≡ o = eq_tells h.offset o t in
        subst (λ (x : Kept). (start ≤ o) × (o % 16 ≡ 0) × (kept_end x ≤ capacity) × (x.offset ≡ o)) f (omega (arith, i.0, q), ap (λ x. x % 16) (sym q) ∙ i.1, i.2, q)
    by_test false t e rest =
        let r = rest e in
        (omega (arith, i.0, r.0), r.1, r.2, r.3)

pub removing :
    (old new : List ℕ) (at start capacity o place : ℕ) (gs : List Kept) (g : Kept) → InOrder start capacity gs →
    Leads (word_at at old) old gs → at + 4 ≤ 16 + start → kept_at gs o ≡ Some g → place ≡ link_before at o gs →
    word_at place new ≡ link_from (suc o) gs → AllButPart old new place 4 → Leads (word_at at new) new (without_kept o gs)
removing old new at start capacity o place [] g i l d m e w f = absurd (cc m)
removing old new at start capacity o place (h ∷ gs) g i l d m e w f =
    by_test (h.offset == o) refl m (λ q p x. removing old new (link_of h.offset) (kept_end h) capacity o place gs g i.3 l.2 (omega arith) q p x f)
  where
    by_test :
        (t : Bool) → (h.offset == o) ≡ t → cond t (Some h) (kept_at gs o) ≡ Some g →
        (kept_at gs o ≡ Some g → place ≡ link_before (link_of h.offset) o gs → word_at place new ≡ link_from (suc o) gs → Leads (word_at (link_of h.offset) new) new (without_kept o gs)) →
        Leads (word_at at new) new (cond t gs (h ∷ without_kept o gs))
    by_test true t m rest =
        let q : h.offset ≡ o = eq_tells h.offset o t in
        let p : place ≡ at = e ∙ ap (λ c. cond c (link_before (link_of h.offset) o gs) at) (lt_false h.offset o (omega (arith, q))) in
        let x : word_at place new ≡ link_from (suc o) gs = w ∙ ap (λ c. cond c (link_from (suc o) gs) (suc h.offset)) (lt_true h.offset (suc o) (omega (arith, q))) in
        let s = headers_within old new (16 + kept_end h) (16 + capacity) (kept_end h) capacity gs i.3 (f.agrees (16 + kept_end h) (16 + capacity) (inr (omega (arith, p, d, i.0)))) (omega arith) (omega arith) in
        relinked old new (kept_end h) capacity (suc o) (word_at (link_of h.offset) old) (word_at at new) gs i.3 (omega (arith, q)) s l.2 (subst (λ y. word_at y new ≡ link_from (suc o) gs) p x)
    by_test false t m rest =
        let r = kept_where (kept_end h) capacity o gs g i.3 m in
        let p : place ≡ link_before (link_of h.offset) o gs = e ∙ ap (λ c. cond c (link_before (link_of h.offset) o gs) at) (lt_true h.offset o (omega (arith, r.0))) in
        let x : word_at place new ≡ link_from (suc o) gs = w ∙ ap (λ c. cond c (link_from (suc o) gs) (suc h.offset)) (lt_true h.offset (suc o) (omega (arith, r.0))) in
        let q : 28 + h.offset ≤ place = past p (before_where (link_of h.offset) o (kept_end h) capacity gs i.3) in
        let y = word_same old new at (at + 4) at (f.agrees at (at + 4) (inl (omega (arith, d, q, i.0)))) (omega arith) (omega arith) in
        let z = kept_same old new h.offset (f.agrees (16 + h.offset) (28 + h.offset) (inl q)) in
        (y ∙ l.0, z ∙ l.1, rest m p x)
      where
        past : {x : ℕ} → place ≡ x → (x ≡ link_of h.offset) ⊎ (28 + kept_end h ≤ x) → 28 + h.offset ≤ place
        past p (inl r) = omega (arith, p, r)
        past p (inr r) = omega (arith, p, r)
