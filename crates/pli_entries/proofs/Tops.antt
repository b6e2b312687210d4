-- The newest entry.
use Rattle.std.proofs.Common.{◌≡◌, ℕ, suc, ◌-◌, ◌≤◌, ◌<◌, true, List, [], ◌∷◌, length, drop, take, map, if◌then◌else◌, refl, sym, ap, subst, ◌∙◌, arith}
use Rattle.std.specs.Prelude.{nat_le, reverse, slice_get, Some, None}
use Rattle.std.proofs.lemmas.Bool.Decides.{nat_tests}
use Rattle.pli_serving.specs.Blocks.{are_texts, oldest, top_kept}
use Rattle.pli_serving.specs.ServiceState.{Entry, TextEntry}
use Rattle.pli_text.specs.Operands.{top_of}
use Rattle.pli_entries.specs.declared.kept.Aggregate.{Aggregate}
use Rattle.pli_entries.specs.Kept.{entries_of, leaf_of, leaves_on_top, ArePlaced, placed_below}
use Rattle.pli_entries.proofs.Stacks.{aggregate_before, as_many, cut_is, cut_placed, higher, newest_first, none_first, one_text, text_before}

texts_on_top : (ts : List (List ℕ)) → leaves_on_top (entries_of ts []) ≡ None
texts_on_top [] = refl
texts_on_top (t ∷ ts) = refl

pub none_on_top : (ts : List (List ℕ)) (xs : List Aggregate) → slice_get xs (length xs - 1) ≡ None → leaves_on_top (entries_of ts (reverse xs)) ≡ None
none_on_top ts xs e = ap (λ held. leaves_on_top (entries_of ts held)) (none_first xs e) ∙ texts_on_top ts

text_above : (ts : List (List ℕ)) (a : Aggregate) (held : List Aggregate) → ArePlaced (a ∷ held) (length ts) → 1 < length ts - a.place → leaves_on_top (entries_of ts (a ∷ held)) ≡ None
text_above [] a held p h = absurd (omega (arith, p.0))
text_above (t ∷ ts) a held p h = ap leaves_on_top (text_before t ts (a ∷ held) (omega (arith, h), p.1))

aggregate_above : (ts : List (List ℕ)) (a : Aggregate) (held : List Aggregate) → ArePlaced (a ∷ held) (length ts) → length ts - a.place ≤ 1 → leaves_on_top (entries_of ts (a ∷ held)) ≡ Some (map leaf_of a.leaves.items)
aggregate_above [] a held p h = absurd (omega (arith, p.0))
aggregate_above (t ∷ ts) a held p h = let low = p.0 in ap leaves_on_top (aggregate_before t ts a held (omega (arith, low, h)))

pub text_on_top : (height : ℕ) (ts : List (List ℕ)) (xs : List Aggregate) (a : Aggregate) → slice_get xs (length xs - 1) ≡ Some a → height ≡ length ts → ArePlaced (reverse xs) (length ts) → 1 < height - a.place → leaves_on_top (entries_of ts (reverse xs)) ≡ None
text_on_top height ts xs a e h p more =
    let f = newest_first xs a e in
    ap (λ held. leaves_on_top (entries_of ts held)) f
    ∙ text_above ts a (reverse (take (length xs - 1) xs)) (subst (λ held. ArePlaced held (length ts)) f p) (omega (arith, h, more))

pub aggregate_on_top : (height : ℕ) (ts : List (List ℕ)) (xs : List Aggregate) (a : Aggregate) → slice_get xs (length xs - 1) ≡ Some a → height ≡ length ts → ArePlaced (reverse xs) (length ts) → height - a.place ≤ 1 → leaves_on_top (entries_of ts (reverse xs)) ≡ Some (map leaf_of a.leaves.items)
aggregate_on_top height ts xs a e h p less =
    let f = newest_first xs a e in
    ap (λ held. leaves_on_top (entries_of ts held)) f
    ∙ aggregate_above ts a (reverse (take (length xs - 1) xs)) (subst (λ held. ArePlaced held (length ts)) f p) (omega (arith, h, less))

-- ---- a text above the oldest ones

pub sunk_placed : (h : ℕ) (ts new : List (List ℕ)) (held kept : List Aggregate) → ArePlaced held (length ts) → h ≤ length ts → new ≡ top_of ts ∷ drop (length ts - h) ts → kept ≡ placed_below h held → ArePlaced kept (length new)
sunk_placed h ts new held kept p low e f =
    let below = cut_placed h ts (drop (length ts - h) ts) held kept p low refl f in
    higher kept (length (drop (length ts - h) ts)) (length new) below (omega (arith, ap length e))

pub sunk_is : (h : ℕ) (ts new : List (List ℕ)) (held kept : List Aggregate) (old : List Entry) → ArePlaced held (length ts) → entries_of ts held ≡ old → are_texts 1 old ≡ true → h < length old → new ≡ top_of ts ∷ drop (length ts - h) ts → kept ≡ placed_below h held → top_kept h old ≡ Some (entries_of new kept)
sunk_is h ts new held kept old p e t inside n k =
    let es = entries_of (drop 1 ts) held in
    let text : TextEntry (top_of ts) ∷ es ≡ old = sym (one_text ts held p (ap (are_texts 1) e ∙ t)) ∙ e in
    let count : suc (length es) ≡ length old = ap length text in
    let low : h ≤ length ts = omega (arith, as_many ts held, ap length e, inside) in
    let within : nat_le h (length es) ≡ true = grind (arith, nat_tests, count, inside) in
    let less : length old - h ≡ suc (length es - h) = omega (arith, count, inside) in
    let below : ArePlaced kept (length (drop (length ts - h) ts)) = cut_placed h ts (drop (length ts - h) ts) held kept p low refl k in
    let kept_is : entries_of (drop (length ts - h) ts) kept ≡ oldest h es =
    cut_is h ts (drop (length ts - h) ts) held kept old p low refl k e
    ∙ ap (λ n. drop n old) less
    ∙ ap (drop (suc (length es - h))) (sym text) in
    ap (top_kept h) (sym text)
    ∙ ap (λ b. if b then Some (TextEntry (top_of ts) ∷ oldest h es) else None) within
    ∙ ap (λ l. Some (TextEntry (top_of ts) ∷ l)) (sym kept_is)
    ∙ sym (ap (λ ts. Some (entries_of ts kept)) n ∙ ap Some (text_before (top_of ts) (drop (length ts - h) ts) kept below))
