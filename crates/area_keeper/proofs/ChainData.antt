-- Which data stay as they were: those of all generations but the one whose bytes are written.
use Rattle.std.proofs.Common.{◌≡◌, ◌⊎◌, inl, inr, ℕ, ◌+◌, ◌≤◌, List, [], ◌∷◌, length, Some, Bool, true, false, refl, sym, subst, arith}
use Rattle.std.specs.Prelude.{cond, ◌==◌}
use Rattle.area_keeper.proofs.Tests.{eq_tells}
use Rattle.area_keeper.specs.Keeper.{Kept}
use Rattle.area_keeper.specs.KeptAreas.{kept_end, InOrder, kept_at, without_kept}
use Rattle.area_keeper.specs.KeeperLaws.{SameData, SamePlaces}
use Rattle.area_keeper.specs.Chain.{chain}
use Rattle.area_keeper.proofs.Agreement.{Agrees, agrees_within, part_same}
use Rattle.area_keeper.proofs.Linking.{Apart, NotInData, AllBut, AllButPart, SameHeaders, headers_within, kept_where}

abbrev pub AgreeOnData : (old new : List ℕ) → List Kept → Type 0
AgreeOnData old new [] = Unit {0}
AgreeOnData old new (g ∷ gs) = Agrees old new (32 + g.offset) (32 + g.offset + g.size) × AgreeOnData old new gs

pub same_data :
    (old new : List ℕ) (start capacity : ℕ) (gs : List Kept) → InOrder start capacity gs → 16 + capacity ≤ length old →
    16 + capacity ≤ length new → AgreeOnData old new gs → SameData chain gs old new
same_data old new start capacity [] i a b h = tt
same_data old new start capacity (g ∷ gs) i a b h =
    (part_same old new (32 + g.offset) g.size (omega (arith, i.2, a)) (omega (arith, i.2, b)) h.0, same_data old new (kept_end g) capacity gs i.3 a b h.1)

pub data_within :
    (old new : List ℕ) (from to start capacity : ℕ) (gs : List Kept) → InOrder start capacity gs → Agrees old new from to →
    from ≤ 16 + start → 16 + capacity ≤ to → AgreeOnData old new gs
data_within old new from to start capacity [] i h a b = tt
data_within old new from to start capacity (g ∷ gs) i h a b =
    (agrees_within old new from to (32 + g.offset) (32 + g.offset + g.size) h (omega (arith, i.0, a)) (omega (arith, i.2, b)), data_within old new from to (kept_end g) capacity gs i.3 h (omega (arith, i.0, a)) b)

pub data_placing :
    (old new : List ℕ) (place o bytes : ℕ) (gs : List Kept) → AllBut old new place o → NotInData place gs → 16 ≤ bytes →
    Apart o bytes gs → AgreeOnData old new gs
data_placing old new place o bytes [] f x b a = tt
data_placing old new place o bytes (g ∷ gs) f x b a =
    (f.agrees (32 + g.offset) (32 + g.offset + g.size) (beside x.0) (below a.0), data_placing old new place o bytes gs f x.1 b a.1)
  where
    beside :
        (place + 4 ≤ 32 + g.offset) ⊎ (16 + kept_end g ≤ place) →
        (32 + g.offset + g.size ≤ place) ⊎ (place + 4 ≤ 32 + g.offset)
    beside (inl j) = inr j
    beside (inr j) = inl (omega (arith, j))

    below : (kept_end g ≤ o) ⊎ (o + bytes ≤ g.offset) → (32 + g.offset + g.size ≤ 16 + o) ⊎ (32 + o ≤ 32 + g.offset)
    below (inl j) = inl (omega (arith, j))
    below (inr j) = inr (omega (arith, j))

pub data_relinking :
    (old new : List ℕ) (place : ℕ) (gs : List Kept) → AllButPart old new place 4 → NotInData place gs →
    AgreeOnData old new gs
data_relinking old new place [] f x = tt
data_relinking old new place (g ∷ gs) f x =
    (f.agrees (32 + g.offset) (32 + g.offset + g.size) (beside x.0), data_relinking old new place gs f x.1)
  where
    beside :
        (place + 4 ≤ 32 + g.offset) ⊎ (16 + kept_end g ≤ place) →
        (32 + g.offset + g.size ≤ place) ⊎ (place + 4 ≤ 32 + g.offset)
    beside (inl j) = inr j
    beside (inr j) = inl (omega (arith, j))

pub data_without : (old new : List ℕ) (o : ℕ) (gs : List Kept) → AgreeOnData old new gs → AgreeOnData old new (without_kept o gs)
data_without old new o [] h = tt
data_without old new o (g ∷ gs) h = by_test (g.offset == o) (data_without old new o gs h.1)
  where
    by_test : (t : Bool) → AgreeOnData old new (without_kept o gs) → AgreeOnData old new (cond t gs (g ∷ without_kept o gs))
    by_test true rest = h.1
    by_test false rest = (h.0, rest)

-- data stand at their offsets, whatever else the bytes are
pub same_places : (old new : List ℕ) (gs : List Kept) → SamePlaces chain gs old new
same_places old new [] = tt
same_places old new (g ∷ gs) = (refl, same_places old new gs)

-- bytes written inside the data of one generation are in no header and in no other's data
pub written_apart :
    (old new : List ℕ) (start capacity o at count : ℕ) (gs : List Kept) (g : Kept) → InOrder start capacity gs →
    kept_at gs o ≡ Some g → 32 + o ≤ at → at + count ≤ 32 + o + g.size → AllButPart old new at count →
    SameHeaders old new gs × AgreeOnData old new (without_kept o gs)
written_apart old new start capacity o at count [] g i e a b f = absurd (cc e)
written_apart old new start capacity o at count (h ∷ gs) g i e a b f =
    by_test (h.offset == o) refl e (λ m. written_apart old new (kept_end h) capacity o at count gs g i.3 m a b f)
  where
    by_test :
        (t : Bool) → (h.offset == o) ≡ t → cond t (Some h) (kept_at gs o) ≡ Some g →
        (kept_at gs o ≡ Some g → SameHeaders old new gs × AgreeOnData old new (without_kept o gs)) →
        SameHeaders old new (h ∷ gs) × AgreeOnData old new (cond t gs (h ∷ without_kept o gs))
    by_test true t e rest =
        let q : h.offset ≡ o = eq_tells h.offset o t in
        let r : h ≡ g = cc e in
        let c : at + count ≤ 32 + o + h.size = subst (λ (y : Kept). at + count ≤ 32 + o + y.size) (sym r) b in
        let behind = f.agrees (16 + kept_end h) (16 + capacity) (inr (omega (arith, c, q))) in
        ((f.agrees (16 + h.offset) (32 + h.offset) (inl (omega (arith, q, a))), headers_within old new (16 + kept_end h) (16 + capacity) (kept_end h) capacity gs i.3 behind (omega arith) (omega arith)), data_within old new (16 + kept_end h) (16 + capacity) (kept_end h) capacity gs i.3 behind (omega arith) (omega arith))
    by_test false t e rest =
        let w = kept_where (kept_end h) capacity o gs g i.3 e in
        let r = rest e in
        ((f.agrees (16 + h.offset) (32 + h.offset) (inl (omega (arith, w.0, a))), r.0), (f.agrees (32 + h.offset) (32 + h.offset + h.size) (inl (omega (arith, w.0, a))), r.1))
