-- Parts that are noted one after the other, with the ranges that are still to come.
use Rattle.std.proofs.Common.{zero, suc, ◌≡◌, ◌≤◌, ◌<◌, ℕ, ◌+◌, ◌-◌, length, drop, take, get_or, reverse, List, [], ◌∷◌, ◌++◌, refl, sym, ap, subst, ◌∙◌, arith, append_assoc, append-nil}
use Rattle.std.proofs.lemmas.List.{drop-drop, map-append, reverse-append, take_more}
use Rattle.pli_meaning.specs.StreamOrder.{NoNest, NestOf, leaves_inside}
use Rattle.pli_shapes.specs.declared.part.Part.{Part}
use Rattle.pli_order.specs.Counts.{leaves_each}
use Rattle.pli_order.specs.Notes.{AllNoted, AreNoted, IsNext, leaf_behind, noted, opened, parts_of}
use Rattle.pli_order.specs.declared.note.Note.{Note}
use Rattle.pli_order.specs.declared.notes.Range.{Range}
use Rattle.pli_order.proofs.Elements.{leaves_apart}

-- ---- ranges

pub none_opened : (size before : ℕ) (rs : List Range) → size ≡ 0 → rs ≡ opened size before rs
none_opened size before rs e = sym (ap (λ n. opened n before rs) e)

pub one_opened : (size before : ℕ) (old new : List Range) → (size ≡ 0 → ⊥) → new ≡ old ++ record { size = size; before = before } ∷ [] → reverse new ≡ opened size before (reverse old)
one_opened zero before old new n e = absurd (n refl)
one_opened (suc size) before old new n e = ap reverse e ∙ reverse-append old (record { size = suc size; before = before } ∷ [])

-- ---- parts that are skipped

pub noted_skip : (ns : List Note) (skip size : ℕ) → noted ns skip size ≡ noted (drop skip ns) 0 size
noted_skip [] zero size = refl
noted_skip [] (suc skip) size = refl
noted_skip (n ∷ ns) zero size = refl
noted_skip (n ∷ ns) (suc skip) size = noted_skip ns skip size

pub are_skip : (ns : List Note) (skip size before leaf : ℕ) → AreNoted ns skip size before leaf → AreNoted (drop skip ns) 0 size before leaf
are_skip [] zero size before leaf h = h
are_skip [] (suc skip) zero before leaf h = tt
are_skip [] (suc skip) (suc size) before leaf h = h
are_skip (n ∷ ns) zero size before leaf h = h
are_skip (n ∷ ns) (suc skip) size before leaf h = are_skip ns skip size before leaf h

are_back : (ns : List Note) (skip size before leaf : ℕ) → AreNoted (drop skip ns) 0 size before leaf → AreNoted ns skip size before leaf
are_back [] zero size before leaf h = h
are_back [] (suc skip) zero before leaf h = tt
are_back [] (suc skip) (suc size) before leaf h = h
are_back (n ∷ ns) zero size before leaf h = h
are_back (n ∷ ns) (suc skip) size before leaf h = are_back ns skip size before leaf h

pub none_noted : (ns : List Note) → noted ns 0 0 ≡ NoNest
none_noted [] = refl
none_noted (n ∷ ns) = refl

none_are : (ns : List Note) (before leaf : ℕ) → AreNoted ns 0 0 before leaf
none_are [] before leaf = tt
none_are (n ∷ ns) before leaf = tt

-- ---- the parts of a range

open_back : (size before : ℕ) (rs : List Range) (ns : List Note) (leaf total : ℕ) → AllNoted ns (opened size before rs) leaf total
    → AreNoted ns 0 size before leaf × AllNoted (drop size ns) rs (leaves_inside (noted ns 0 size) + leaf) total
open_back zero before rs ns leaf total h =
    let e : leaf ≡ leaves_inside (noted ns 0 0) + leaf = none leaf ∙ ap (λ nest. leaves_inside nest + leaf) (sym (none_noted ns)) in
    (none_are ns before leaf, subst (λ l. AllNoted ns rs l total) e h)
  where
    none : (n : ℕ) → n ≡ 0 + n
    none n = omega arith
open_back (suc size) before rs ns leaf total h = h

-- those inside a part, and its leaves
child : (i : ℕ) (ns : List Note) (before leaf : ℕ) → AreNoted ns 0 i before (leaf_behind i leaf) → AreNoted ns 0 i before leaf
child zero ns before leaf h = none_are ns before leaf
child (suc i) ns before leaf h = h

child_leaves : (i : ℕ) (ns : List Note) (before leaf : ℕ) → AreNoted ns 0 i before (leaf_behind i leaf) → leaves_inside (noted ns 0 i) + leaf_behind i leaf ≡ leaves_each (noted ns 0 i) + leaf
child_leaves zero ns before leaf h =
    ap (λ nest. leaves_inside nest + (1 + leaf)) (none_noted ns)
    ∙ none (1 + leaf)
    ∙ ap (λ nest. leaves_each nest + leaf) (sym (none_noted ns))
  where
    none : (n : ℕ) → 0 + n ≡ n
    none n = omega arith
child_leaves (suc i) [] before leaf h = absurd h
child_leaves (suc i) (n ∷ ns) before leaf h = refl

-- ---- one more part before them

first_noted : (n : Note) (under : List Range) (s leaf total : ℕ) (ns : List Note) → n.size ≡ suc s → n.part.inside ≤ s → n.leaf ≡ leaf
    → AllNoted ns (opened n.part.inside (n.part.dimensions + n.before) (opened (s - n.part.inside) n.before under)) (leaf_behind n.part.inside leaf) total
    → AreNoted (n ∷ ns) 0 (suc s) n.before leaf × AllNoted (drop (suc s) (n ∷ ns)) under (leaves_inside (noted (n ∷ ns) 0 (suc s)) + leaf) total
first_noted n under s leaf total ns size low l h =
    let i = n.part.inside in
    let a = open_back i (n.part.dimensions + n.before) (opened (s - i) n.before under) ns (leaf_behind i leaf) total h in
    let b = open_back (s - i) n.before under (drop i ns) (leaves_inside (noted ns 0 i) + leaf_behind i leaf) total a.1 in
    let each : leaves_inside (noted ns 0 i) + leaf_behind i leaf ≡ leaves_each (noted ns 0 i) + leaf = child_leaves i ns (n.part.dimensions + n.before) leaf a.0 in
    let behind : AreNoted (drop i ns) 0 (s - i) n.before (leaves_each (noted ns 0 i) + leaf) = subst (λ k. AreNoted (drop i ns) 0 (s - i) n.before k) each b.0 in
    let far : i + (s - i) ≡ s = omega (arith, low) in
    let dropped : drop (s - i) (drop i ns) ≡ drop s ns = drop-drop (s - i) i ns ∙ ap (λ k. drop k ns) far in
    let apart = leaves_apart 0 n.part.dimensions (noted ns 0 i) (noted ns i (s - i)) in
    let skipped = ap leaves_inside (noted_skip ns i (s - i)) in
    let all : leaves_inside (noted (drop i ns) 0 (s - i)) + (leaves_inside (noted ns 0 i) + leaf_behind i leaf) ≡ leaves_inside (NestOf 0 n.part.dimensions (noted ns 0 i) (noted ns i (s - i))) + leaf = omega (arith, each, apart, skipped) in
    let rest : AllNoted (drop s ns) under (leaves_inside (noted (drop i ns) 0 (s - i)) + (leaves_inside (noted ns 0 i) + leaf_behind i leaf)) total =
    subst (λ ms. AllNoted ms under (leaves_inside (noted (drop i ns) 0 (s - i)) + (leaves_inside (noted ns 0 i) + leaf_behind i leaf)) total) dropped b.1 in (
      (size, refl, l, low, child i ns (n.part.dimensions + n.before) leaf a.0, are_back ns i (s - i) n.before (leaves_each (noted ns 0 i) + leaf) behind),
      subst (λ k. AllNoted (drop s ns) under k total) all rest,
    )

pub note_before : (n : Note) (part : Part) (old new : List Range) (leaf next total : ℕ) (ns : List Note) → IsNext part leaf old new n → next ≡ leaf_behind part.inside leaf → AllNoted ns new next total → AllNoted (n ∷ ns) old leaf total
note_before n part old new leaf next total ns x e h =
    let s = n.size - 1 in
    let low = x.low in
    let size : n.size ≡ suc s = omega (arith, low) in
    let here : next ≡ leaf_behind n.part.inside leaf = e ∙ ap (λ p. leaf_behind p.inside leaf) (sym x.part_is) in
    let left : AllNoted ns (opened n.part.inside (n.part.dimensions + n.before) (opened (s - n.part.inside) n.before x.under)) next total = subst (λ rs. AllNoted ns rs next total) x.left h in
    let first = first_noted n x.under s leaf total ns size (omega (arith, low)) x.leaf_is (subst (λ k. AllNoted ns (opened n.part.inside (n.part.dimensions + n.before) (opened (s - n.part.inside) n.before x.under)) k total) here left) in
    let whole : AreNoted (n ∷ ns) 0 n.size n.before leaf × AllNoted (drop n.size (n ∷ ns)) x.under (leaves_inside (noted (n ∷ ns) 0 n.size) + leaf) total =
    subst (λ m. AreNoted (n ∷ ns) 0 m n.before leaf × AllNoted (drop m (n ∷ ns)) x.under (leaves_inside (noted (n ∷ ns) 0 m) + leaf) total) (sym size) first in
    subst (λ rs. AllNoted (n ∷ ns) rs leaf total) (sym x.was) whole

-- ---- the note of the next part

pub is_next : (part : Part) (leaf size before own : ℕ) (items left one two : List Range) (n : Note) → items ≡ left ++ record { size = size; before = before } ∷ [] → part.inside < size → own ≡ part.dimensions + before
    → reverse one ≡ opened (size - 1 - part.inside) before (reverse left) → reverse two ≡ opened part.inside own (reverse one)
    → n.part ≡ part → n.size ≡ size → n.before ≡ before → n.leaf ≡ leaf → IsNext part leaf (reverse items) (reverse two) n
is_next part leaf size before own items left one two n was low o first second p s b l =
    record {
      under = reverse left;
      was =
          ap reverse was
          ∙ reverse-append left (record { size = size; before = before } ∷ [])
          ∙ ap {B = List Range} (λ k. record { size = k; before = before } ∷ reverse left) (sym s)
          ∙ ap {B = List Range} (λ k. record { size = n.size; before = k } ∷ reverse left) (sym b);
      left =
          second
          ∙ ap (opened part.inside own) first
          ∙ ap (λ k. opened part.inside k (opened (size - 1 - part.inside) before (reverse left))) o
          ∙ ap (λ k. opened part.inside (part.dimensions + before) (opened (k - 1 - part.inside) before (reverse left))) (sym s)
          ∙ ap (λ k. opened part.inside (part.dimensions + k) (opened (n.size - 1 - part.inside) k (reverse left))) (sym b)
          ∙ ap (λ (q : Part). opened q.inside (q.dimensions + n.before) (opened (n.size - 1 - q.inside) n.before (reverse left))) (sym p);
      low = subst (λ (q : Part). q.inside < n.size) (sym p) (omega (arith, low, s));
      part_is = p;
      leaf_is = l;
    }

-- ---- all parts

-- what is still to come makes the whole, whatever notes it gets
abbrev pub Comes : (so_far : List Note) → (ranges : List Range) → (leaf size given : ℕ) → Type 0
Comes so_far ranges leaf size given =
    (rest : List Note) (total : ℕ) → AllNoted rest ranges leaf total → AreNoted (so_far ++ rest) 0 size given 0 × (leaves_inside (noted (so_far ++ rest) 0 size) ≡ total)

pub comes_first : (so_far : List Note) (old ranges : List Range) (count size given : ℕ) → so_far ≡ [] → old ≡ [] → count ≡ size → reverse ranges ≡ opened count given (reverse old) → Comes so_far (reverse ranges) 0 size given
comes_first so_far old ranges count size given n o s e = λ rest total h.
    let first : reverse ranges ≡ opened size given [] = e ∙ ap (λ k. opened k given (reverse old)) s ∙ ap (λ rs. opened size given (reverse rs)) o in
    let a = open_back size given [] rest 0 total (subst (λ rs. AllNoted rest rs 0 total) first h) in
    let sum : leaves_inside (noted rest 0 size) + 0 ≡ total = a.1 in
    let whole : AreNoted rest 0 size given 0 × (leaves_inside (noted rest 0 size) ≡ total) = (a.0, omega (arith, sum)) in
    subst (λ ns. AreNoted (ns ++ rest) 0 size given 0 × (leaves_inside (noted (ns ++ rest) 0 size) ≡ total)) (sym n) whole

pub comes_next : (so_far more : List Note) (n : Note) (part : Part) (old new : List Range) (leaf next size given : ℕ) → Comes so_far old leaf size given → more ≡ so_far ++ n ∷ [] → IsNext part leaf old new n → next ≡ leaf_behind part.inside leaf → Comes more new next size given
comes_next so_far more n part old new leaf next size given h e x l = λ rest total a.
    let whole = h (n ∷ rest) total (note_before n part old new leaf next total rest x l a) in
    let same : so_far ++ (n ∷ rest) ≡ more ++ rest = sym (ap (λ ns. ns ++ rest) e ∙ append_assoc so_far (n ∷ []) rest) in
    subst (λ ns. AreNoted ns 0 size given 0 × (leaves_inside (noted ns 0 size) ≡ total)) same whole

pub one_leaf : (inside leaf : ℕ) → inside ≡ 0 → leaf + 1 ≡ leaf_behind inside leaf
one_leaf inside leaf e = turned leaf ∙ sym (ap (λ i. leaf_behind i leaf) e)
  where
    turned : (n : ℕ) → n + 1 ≡ 1 + n
    turned n = omega arith

pub no_leaf : (inside leaf : ℕ) → (inside ≡ 0 → ⊥) → leaf ≡ leaf_behind inside leaf
no_leaf zero leaf n = absurd (n refl)
no_leaf (suc inside) leaf n = refl

pub parts_more : (so_far more : List Note) (n : Note) (ps : List Part) (i : ℕ) (blank : Part) → more ≡ so_far ++ n ∷ [] → parts_of so_far ≡ take i ps → n.part ≡ get_or ps i blank → i < length ps → parts_of more ≡ take (i + 1) ps
parts_more so_far more n ps i blank e h p low =
    ap parts_of e
    ∙ map-append (λ (m : Note). m.part) so_far (n ∷ [])
    ∙ ap (λ qs. qs ++ n.part ∷ []) h
    ∙ ap (λ q. take i ps ++ q ∷ []) p
    ∙ sym (take_more ps i blank low)

pub leaf_low : (inside leaf next : ℕ) → next ≡ leaf_behind inside leaf → next ≤ leaf + 1
leaf_low zero leaf next e = omega (arith, e)
leaf_low (suc inside) leaf next e = omega (arith, e)

pub comes_last : (ns : List Note) (ranges : List Range) (leaf size given : ℕ) → Comes ns (reverse ranges) leaf size given → length ranges ≡ 0 → AreNoted ns 0 size given 0 × (leaves_inside (noted ns 0 size) ≡ leaf)
comes_last ns [] leaf size given h e =
    subst (λ ms. AreNoted ms 0 size given 0 × (leaves_inside (noted ms 0 size) ≡ leaf)) (append-nil ns) (h [] leaf refl)
comes_last ns (r ∷ rs) leaf size given h e = absurd (omega (arith, e))
