-- Ranges of format lists, split; pieces behind each other.
use Rattle.std.proofs.Common.{◌≡◌, ℕ, zero, suc, ◌+◌, ◌-◌, ◌*◌, ◌<◌, ◌≤◌, List, [], ◌∷◌, ◌++◌, Option, Some, None, slice_get, refl, sym, ap, ◌∙◌, append_assoc, arith}
use Rattle.std.proofs.lemmas.List.{append-nil}
use Rattle.std.proofs.Math.Nat.{suc-mul}
use Rattle.pli_meaning.specs.Streaming.{FormatItem, repeated}
use Rattle.pli_edit.specs.declared.format.Format.{Format}
use Rattle.pli_edit.specs.declared.format.Node.{Node}
use Rattle.pli_edit.specs.declared.format.Node.TheVariants as N
use Rattle.pli_edit.specs.declared.format.Piece.{Piece}
use Rattle.pli_edit.specs.declared.format.Piece.TheVariants as P
use Rattle.pli_edit.specs.declared.format.Split.{Split}
use Rattle.pli_edit.specs.FormatPlaces.{item_of, items_from, piece_items, left_before, left_of, weight_from, piece_weight, weight_of, IsSplit, IsFirst}

-- ---- one node

empty : (ns : List Node) (start : ℕ) → items_from ns start 0 ≡ []
empty [] start = refl
empty (n ∷ ns) zero = refl
empty (n ∷ ns) (suc start) = empty ns start

some_same : (m n : Node) → Some m ≡ Some n → m ≡ n
some_same m n e = cc

pub items_item : (ns : List Node) (start size times : ℕ) (f : Format) → slice_get ns start ≡ Some (N.Item times f) → items_from ns start (suc size) ≡ repeated times (item_of f ∷ []) ++ items_from ns (suc start) size
items_item [] start size times f e = cc
items_item (n ∷ ns) zero size times f e = rw (some_same n (N.Item times f) e) refl
items_item (n ∷ ns) (suc start) size times f e = items_item ns start size times f e

pub items_list : (ns : List Node) (start size times inner end : ℕ) → end ≡ suc (start + inner) → slice_get ns start ≡ Some (N.List times inner) → items_from ns start (suc size) ≡ repeated times (items_from ns (suc start) inner) ++ items_from ns end (size - inner)
items_list [] start size times inner end h e = cc
items_list (n ∷ ns) zero size times inner end h e = let behind : end ≡ suc inner = omega (arith, h) in rw (some_same n (N.List times inner) e, behind) refl
items_list (n ∷ ns) (suc start) size times inner zero h e = absurd (omega (arith, h))
items_list (n ∷ ns) (suc start) size times inner (suc end) h e = items_list ns start size times inner end (omega (arith, h)) e

pub weight_item : (ns : List Node) (start size times : ℕ) (f : Format) → slice_get ns start ≡ Some (N.Item times f) → weight_from ns start (suc size) ≡ 4 + weight_from ns (suc start) size
weight_item [] start size times f e = cc
weight_item (n ∷ ns) zero size times f e = rw (some_same n (N.Item times f) e) refl
weight_item (n ∷ ns) (suc start) size times f e = weight_item ns start size times f e

pub weight_list : (ns : List Node) (start size times inner end : ℕ) → end ≡ suc (start + inner) → slice_get ns start ≡ Some (N.List times inner) → weight_from ns start (suc size) ≡ 4 + (times * weight_from ns (suc start) inner + weight_from ns end (size - inner))
weight_list [] start size times inner end h e = cc
weight_list (n ∷ ns) zero size times inner end h e = let behind : end ≡ suc inner = omega (arith, h) in rw (some_same n (N.List times inner) e, behind) refl
weight_list (n ∷ ns) (suc start) size times inner zero h e = absurd (omega (arith, h))
weight_list (n ∷ ns) (suc start) size times inner (suc end) h e = weight_list ns start size times inner end (omega (arith, h)) e

-- past the last node
pub items_past : (ns : List Node) (start size : ℕ) → slice_get ns start ≡ None → items_from ns start size ≡ []
items_past [] start size e = refl
items_past (n ∷ ns) zero size e = cc
items_past (n ∷ ns) (suc start) size e = items_past ns start size e

pub repeated_none : (n : ℕ) (l : List FormatItem) → l ≡ [] → repeated n l ≡ []
repeated_none zero l e = refl
repeated_none (suc n) l e = rw e (repeated_none n [] refl)

-- ---- ranges in three

pub three : (a b r w : List FormatItem) → w ≡ a ++ b → w ++ r ≡ a ++ ((b ++ []) ++ r)
three a b r w e = ap (λ l. l ++ r) e ∙ (append_assoc a b r ∙ ap (λ l. a ++ (l ++ r)) (sym (append-nil b)))

pub back : (n : ℕ) → suc n - 1 ≡ n
back n = omega arith

pub next : (n : ℕ) → n + 1 ≡ suc n
next n = omega arith

pub further : (m x : ℕ) → suc m * x ≡ m * x + x
further m x = suc-mul m x

pub once : (x : ℕ) → 1 * x ≡ x
once x = omega arith

pub split_item : (ns : List Node) (times start size t : ℕ) (f : Format) → 0 < times → 0 < size → slice_get ns start ≡ Some (N.Item t f) →
    IsSplit ns times start size (Some (record { first = P.Item t f; behind = P.Range 1 (start + 1) (size - 1); again = P.Range (times - 1) start size }))
split_item ns zero start size t f h k e = absurd (omega arith)
split_item ns (suc m) start zero t f h k e = absurd (omega arith)
split_item ns (suc m) start (suc size) t f h k e =
    let w = weight_item ns start size t f e in
    let o = once (weight_from ns (suc start) size) in
    rw (next start, back size, back m) (
      three (repeated t (item_of f ∷ [])) (items_from ns (suc start) size) (repeated m (items_from ns start (suc size))) (items_from ns start (suc size)) (items_item ns start size t f e),
      omega (arith, w, o, further m (weight_from ns start (suc size))),
    )

pub split_list : (ns : List Node) (times start size t inner : ℕ) → 0 < times → 0 < size → slice_get ns start ≡ Some (N.List t inner) →
    IsSplit ns times start size (Some (record { first = P.Range t (start + 1) inner; behind = P.Range 1 (start + 1 + inner) ((size - 1) - inner); again = P.Range (times - 1) start size }))
split_list ns zero start size t inner h k e = absurd (omega arith)
split_list ns (suc m) start zero t inner h k e = absurd (omega arith)
split_list ns (suc m) start (suc size) t inner h k e =
    let there : suc start + inner ≡ suc (start + inner) = omega arith in
    let w = weight_list ns start size t inner (suc start + inner) there e in
    let o = once (weight_from ns (suc start + inner) (size - inner)) in
    rw (next start, back size, back m) (
      three (repeated t (items_from ns (suc start) inner)) (items_from ns (suc start + inner) (size - inner)) (repeated m (items_from ns start (suc size))) (items_from ns start (suc size)) (items_list ns start size t inner (suc start + inner) there e),
      omega (arith, w, o, further m (weight_from ns start (suc size))),
    )

pub split_empty : (ns : List Node) (times start size : ℕ) → size ≡ 0 → IsSplit ns times start size None
split_empty ns times start zero e = repeated_none times (items_from ns start 0) (empty ns start)
split_empty ns times start (suc size) e = absurd (omega arith)

pub split_never : (ns : List Node) (times start size : ℕ) → times ≡ 0 → IsSplit ns times start size None
split_never ns zero start size e = refl
split_never ns (suc times) start size e = absurd (omega arith)

pub split_past : (ns : List Node) (times start size : ℕ) → slice_get ns start ≡ None → IsSplit ns times start size None
split_past ns times start size e = repeated_none times (items_from ns start size) (items_past ns start size e)

-- ---- pieces

pub left_push : (ns : List Node) (ps : List Piece) (p : Piece) (behind : List FormatItem) → left_before ns (ps ++ p ∷ []) behind ≡ piece_items ns p ++ left_before ns ps behind
left_push ns [] p behind = refl
left_push ns (q ∷ ps) p behind = left_push ns ps p (piece_items ns q ++ behind)

pub weight_push : (ns : List Node) (ps : List Piece) (p : Piece) → weight_of ns (ps ++ p ∷ []) ≡ piece_weight ns p + weight_of ns ps
weight_push ns [] p = refl
weight_push ns (q ∷ ps) p = let r = weight_push ns ps p in omega arith

-- ---- a piece that comes behind others, unless nothing is left in it

pub put_left : (ns : List Node) (ps qs : List Piece) (p : Piece) → qs ≡ ps ++ p ∷ [] → left_of ns qs ≡ piece_items ns p ++ left_of ns ps
put_left ns ps qs p e = ap (left_of ns) e ∙ left_push ns ps p []

pub put_weight : (ns : List Node) (ps qs : List Piece) (p : Piece) → qs ≡ ps ++ p ∷ [] → weight_of ns qs ≤ piece_weight ns p + weight_of ns ps
put_weight ns ps qs p e = let w = ap (weight_of ns) e ∙ weight_push ns ps p in omega (arith, w)

pub spent_item : (times : ℕ) (f : Format) (ns : List Node) → times ≡ 0 → piece_items ns (P.Item times f) ≡ []
spent_item zero f ns e = refl
spent_item (suc times) f ns e = absurd (omega (arith, e))

pub spent_times : (times start size : ℕ) (ns : List Node) → times ≡ 0 → piece_items ns (P.Range times start size) ≡ []
spent_times zero start size ns e = refl
spent_times (suc times) start size ns e = absurd (omega (arith, e))

pub spent_size : (times start size : ℕ) (ns : List Node) → size ≡ 0 → piece_items ns (P.Range times start size) ≡ []
spent_size times start zero ns e = repeated_none times (items_from ns start 0) (empty ns start)
spent_size times start (suc size) ns e = absurd (omega (arith, e))

pub nothing_left : (ns : List Node) (ps : List Piece) (p : Piece) → piece_items ns p ≡ [] → left_of ns ps ≡ piece_items ns p ++ left_of ns ps
nothing_left ns ps p e = ap (λ l. l ++ left_of ns ps) (sym e)

pub no_heavier : (ns : List Node) (ps : List Piece) (p : Piece) → weight_of ns ps ≤ piece_weight ns p + weight_of ns ps
no_heavier ns ps p = omega arith

-- ---- a range that comes behind pieces in three

pub left_three : (ns : List Node) (ps p q r : List Piece) (times start size : ℕ) (s : Split) → left_of ns p ≡ piece_items ns s.again ++ left_of ns ps → left_of ns q ≡ piece_items ns s.behind ++ left_of ns p → left_of ns r ≡ piece_items ns s.first ++ left_of ns q → IsSplit ns times start size (Some s) →
    left_of ns r ≡ repeated times (items_from ns start size) ++ left_of ns ps
left_three ns ps p q r times start size s one two all h =
    let first = piece_items ns s.first in
    let behind = piece_items ns s.behind in
    let again = piece_items ns s.again in
    let left = left_of ns ps in
    let joined : left_of ns r ≡ first ++ (behind ++ (again ++ left)) = all ∙ ap (λ l. first ++ l) (two ∙ ap (λ l. behind ++ l) one) in
    let grouped : (first ++ (behind ++ again)) ++ left ≡ first ++ (behind ++ (again ++ left)) =
    append_assoc first (behind ++ again) left ∙ ap (λ l. first ++ l) (append_assoc behind again left) in
    joined ∙ (sym grouped ∙ ap (λ l. l ++ left) (sym h.0))

pub weight_three : (ns : List Node) (ps p q r : List Piece) (times start size : ℕ) (s : Split) → weight_of ns p ≤ piece_weight ns s.again + weight_of ns ps → weight_of ns q ≤ piece_weight ns s.behind + weight_of ns p → weight_of ns r ≤ piece_weight ns s.first + weight_of ns q → IsSplit ns times start size (Some s) →
    weight_of ns r < (1 + times * weight_from ns start size) + weight_of ns ps
weight_three ns ps p q r times start size s one two all h = let lighter = h.1 in omega (arith, one, two, all, lighter)

-- ---- the last piece, taken off

pub weight_less : (ns : List Node) (ps qs : List Piece) (p : Piece) → qs ≡ ps ++ p ∷ [] → weight_of ns ps < weight_of ns qs
weight_less ns ps qs (P.Item times f) e = let w = ap (weight_of ns) e ∙ weight_push ns ps (P.Item times f) in omega (arith, w)
weight_less ns ps qs (P.Range times start size) e = let w = ap (weight_of ns) e ∙ weight_push ns ps (P.Range times start size) in omega (arith, w)

pub left_item : (ns : List Node) (ps qs : List Piece) (p : Piece) (times : ℕ) (f : Format) → qs ≡ ps ++ p ∷ [] → p ≡ P.Item times f → left_of ns qs ≡ repeated times (item_of f ∷ []) ++ left_of ns ps
left_item ns ps qs p times f e h = ap (left_of ns) e ∙ (left_push ns ps p [] ∙ ap (λ i. piece_items ns i ++ left_of ns ps) h)

pub left_spent : (ns : List Node) (ps qs : List Piece) (p : Piece) (times : ℕ) (f : Format) → qs ≡ ps ++ p ∷ [] → p ≡ P.Item times f → times ≡ 0 → left_of ns ps ≡ left_of ns qs
left_spent ns ps qs p times f e h z = sym (left_item ns ps qs p times f e h ∙ ap (λ n. repeated n (item_of f ∷ []) ++ left_of ns ps) z)

pub left_range : (ns : List Node) (ps qs rs : List Piece) (p : Piece) (times start size : ℕ) → qs ≡ ps ++ p ∷ [] → p ≡ P.Range times start size → left_of ns rs ≡ repeated times (items_from ns start size) ++ left_of ns ps → left_of ns rs ≡ left_of ns qs
left_range ns ps qs rs p times start size e h r = r ∙ sym (ap (left_of ns) e ∙ (left_push ns ps p [] ∙ ap (λ i. piece_items ns i ++ left_of ns ps) h))

pub weight_range : (ns : List Node) (ps qs rs : List Piece) (p : Piece) (times start size : ℕ) → qs ≡ ps ++ p ∷ [] → p ≡ P.Range times start size → weight_of ns rs < (1 + times * weight_from ns start size) + weight_of ns ps → weight_of ns rs < weight_of ns qs
weight_range ns ps qs rs p times start size e h r = let w : weight_of ns qs ≡ (1 + times * weight_from ns start size) + weight_of ns ps = ap (weight_of ns) e ∙ (weight_push ns ps p ∙ ap (λ i. piece_weight ns i + weight_of ns ps) h) in omega (arith, w, r)

-- ---- the first item, put back with one repetition less, or as it was

first_kept : (ns : List Node) (ps qs : List Piece) (old : List FormatItem) (times : ℕ) (f : Format) → IsFirst (Some (times, f)) old (left_of ns ps) → qs ≡ ps ++ P.Item times f ∷ [] → left_of ns qs ≡ old
first_kept ns ps qs old times f h e = ap (left_of ns) e ∙ (left_push ns ps (P.Item times f) [] ∙ sym h.1)

first_taken : (ns : List Node) (ps qs : List Piece) (old : List FormatItem) (times : ℕ) (f : Format) → IsFirst (Some (times, f)) old (left_of ns ps) → left_of ns qs ≡ piece_items ns (P.Item (times - 1) f) ++ left_of ns ps → old ≡ item_of f ∷ left_of ns qs
first_taken ns ps qs old zero f h e = absurd (omega (arith, h.0))
first_taken ns ps qs old (suc n) f h e =
    h.1 ∙ ap (λ l. item_of f ∷ l) (sym (e ∙ ap (λ k. repeated k (item_of f ∷ []) ++ left_of ns ps) (back n)))

pub kept : (ns : List Node) (ps qs : List Piece) (old : List FormatItem) (found : Option (ℕ × Format)) (times : ℕ) (f : Format) → found ≡ Some (times, f) → IsFirst found old (left_of ns ps) → qs ≡ ps ++ P.Item times f ∷ [] → left_of ns qs ≡ old
kept ns ps qs old found times f is h e = first_kept ns ps qs old times f (rw is at h) e

pub taken : (ns : List Node) (ps qs : List Piece) (old : List FormatItem) (found : Option (ℕ × Format)) (times : ℕ) (f : Format) → found ≡ Some (times, f) → IsFirst found old (left_of ns ps) → left_of ns qs ≡ piece_items ns (P.Item (times - 1) f) ++ left_of ns ps → old ≡ item_of f ∷ left_of ns qs
taken ns ps qs old found times f is h e = first_taken ns ps qs old times f (rw is at h) e
