-- Lists of what GET reads, and their jumps to the exit.
use Rattle.std.proofs.Common.{◌≡◌, ◌<◌, ℕ, ◌+◌, ◌-◌, List, [], ◌∷◌, ◌++◌, map, length, get_or, drop, refl, sym, ap}
use Rattle.std.proofs.Common.{◌∙◌, subst, arith, append_assoc}
use Rattle.pli_language.specs.Tree.{Formats}
use Rattle.pli_typing.specs.TypedTree as Y
use Rattle.pli_typing.specs.declared.typed.GetItem.{GetItem}
use Rattle.pli_typing.specs.declared.typed.GetPair.{GetPair}
use Rattle.pli_typing.specs.TypedStatementView.{get_item_of, get_pair_of}
use Rattle.pli_coding.specs.Assembly.{JumpAhead, Code, size_of}
use Rattle.pli_coding.specs.Environments.{Environment, Taken}
use Rattle.pli_coding.specs.Streams.{edit_begun, edit_ended, get_pair, get_pairs, item_got, items_got}
use Rattle.rv_assembly.specs.declared.place.Place.{Place}
use Rattle.rv_assembly.specs.Places.{IsPlace, patched}
use Rattle.rv_assembly.proofs.Growing.{size_append}
use Rattle.rv_stream.specs.Exits.{AreExits, item_exit, item_kept, items_exits, items_kept, led, pair_exits, pair_kept, pairs_exits, pairs_kept}
use Rattle.rv_item.proofs.Leaves.{shown_from}
use Rattle.rv_stream.proofs.Putting.{next_piece}
use Rattle.rv_stream.proofs.Shapes.{Alike, alike_behind, alike_both, item_alike, items_alike, same_items}
use Rattle.rv_stream.proofs.Awaiting.{item_is_kept, item_led}

-- ---- lists from their front

pub item_written : (e : Environment) (t : Taken) (formats : Formats) (xs : List GetItem) (i : ℕ) (x : GetItem) (code next target : Code) → i < length xs → x ≡ get_or xs i x
    → next ≡ code ++ item_kept e t formats (get_item_of x)
    → code ++ items_kept e t formats (map get_item_of (drop i xs)) ≡ target
    → next ++ items_kept e t formats (map get_item_of (drop (i + 1) xs)) ≡ target
item_written e t formats xs i x code next target h s n is =
    next_piece code next (item_kept e t formats (get_item_of x)) (items_kept e t formats (map get_item_of (drop (i + 1) xs))) (items_kept e t formats (map get_item_of (drop i xs))) target n
    (ap (items_kept e t formats) (shown_from get_item_of xs i x h s)) is

pub item_noted : (e : Environment) (t : Taken) (formats : Formats) (xs : List GetItem) (i : ℕ) (x : GetItem) (code next : Code) (places more target : List Place) → i < length xs → x ≡ get_or xs i x
    → next ≡ code ++ item_kept e t formats (get_item_of x) → more ≡ places ++ item_exit e t code (get_item_of x) ∷ []
    → places ++ items_exits e t formats code (map get_item_of (drop i xs)) ≡ target
    → more ++ items_exits e t formats next (map get_item_of (drop (i + 1) xs)) ≡ target
item_noted e t formats xs i x code next places more target h s n m is =
    ap (λ u. u ++ items_exits e t formats next (map get_item_of (drop (i + 1) xs))) m
    ∙ append_assoc places (item_exit e t code (get_item_of x) ∷ []) (items_exits e t formats next (map get_item_of (drop (i + 1) xs)))
    ∙ ap (λ u. places ++ (item_exit e t code (get_item_of x) ∷ items_exits e t formats u (map get_item_of (drop (i + 1) xs)))) n
    ∙ ap (λ ys. places ++ items_exits e t formats code ys) (sym (shown_from get_item_of xs i x h s))
    ∙ is

pub pair_written : (e : Environment) (t : Taken) (xs : List GetPair) (i : ℕ) (x : GetPair) (code next target : Code) → i < length xs → x ≡ get_or xs i x
    → next ≡ code ++ pair_kept e t (get_pair_of x)
    → code ++ pairs_kept e t (map get_pair_of (drop i xs)) ≡ target
    → next ++ pairs_kept e t (map get_pair_of (drop (i + 1) xs)) ≡ target
pair_written e t xs i x code next target h s n is =
    next_piece code next (pair_kept e t (get_pair_of x)) (pairs_kept e t (map get_pair_of (drop (i + 1) xs))) (pairs_kept e t (map get_pair_of (drop i xs))) target n
    (ap (pairs_kept e t) (shown_from get_pair_of xs i x h s)) is

pub pair_noted : (e : Environment) (t : Taken) (xs : List GetPair) (i : ℕ) (x : GetPair) (code next : Code) (places more target : List Place) → i < length xs → x ≡ get_or xs i x
    → next ≡ code ++ pair_kept e t (get_pair_of x) → more ≡ places ++ pair_exits e t code (get_pair_of x)
    → places ++ pairs_exits e t code (map get_pair_of (drop i xs)) ≡ target
    → more ++ pairs_exits e t next (map get_pair_of (drop (i + 1) xs)) ≡ target
pair_noted e t xs i x code next places more target h s n m is =
    ap (λ u. u ++ pairs_exits e t next (map get_pair_of (drop (i + 1) xs))) m
    ∙ append_assoc places (pair_exits e t code (get_pair_of x)) (pairs_exits e t next (map get_pair_of (drop (i + 1) xs)))
    ∙ ap (λ u. places ++ (pair_exits e t code (get_pair_of x) ++ pairs_exits e t u (map get_pair_of (drop (i + 1) xs)))) n
    ∙ ap (λ ys. places ++ pairs_exits e t code ys) (sym (shown_from get_pair_of xs i x h s))
    ∙ is

-- ---- several jumps that lead to the exit

led_both : (end : ℕ) (ps qs : List Place) (code : Code) → led end (ps ++ qs) code ≡ led end qs (led end ps code)
led_both end [] qs code = refl
led_both end (p ∷ ps) qs code = led_both end ps qs _

items_led : (e : Environment) (t : Taken) (formats : Formats) (is : List Y.GetItem) (before more : Code) (behind end : ℕ) → end ≡ size_of before + (size_of (items_kept e t formats is) + behind)
    → led end (items_exits e t formats before is) (before ++ (items_kept e t formats is ++ more)) ≡ before ++ (items_got e t formats behind is ++ more)
items_led e t formats [] before more behind end h = refl
items_led e t formats (i ∷ is) before more behind end h =
    let far : ℕ = size_of (items_got e t formats behind is) + behind in
    let kept : Code = item_kept e t formats i in
    let got : Code = item_got e t formats i far in
    let rest : Code = items_kept e t formats is in
    let p : Place = item_exit e t before i in
    let places : List Place = items_exits e t formats (before ++ kept) is in
    let here : Alike got kept = item_alike e t formats i far in
    let same : size_of (items_got e t formats behind is) ≡ size_of rest = (items_alike e t formats behind is).sizes in
    let sizes : size_of got ≡ size_of kept = here.sizes in
    let both : size_of (kept ++ rest) ≡ size_of kept + size_of rest = size_append kept rest in
    let longer : size_of (before ++ got) ≡ size_of before + size_of got = size_append before got in
    let h1 : end ≡ size_of before + (size_of kept + far) = omega arith in
    let h2 : end ≡ size_of (before ++ got) + (size_of rest + behind) = omega arith in
    ap (λ u. led end places (patched (before ++ u) p (JumpAhead (end - p.words)))) (append_assoc kept rest more)
    ∙ ap (led end places) (item_led e t formats i before (rest ++ more) far end h1)
    ∙ ap (λ ps. led end ps (before ++ (got ++ (rest ++ more)))) (sym (same_items e t formats is (before ++ got) (before ++ kept) (alike_behind before got kept here)))
    ∙ ap (led end (items_exits e t formats (before ++ got) is)) (sym (append_assoc before got (rest ++ more)))
    ∙ items_led e t formats is (before ++ got) more behind end h2
    ∙ append_assoc before got (items_got e t formats behind is ++ more)
    ∙ ap (λ u. before ++ u) (sym (append_assoc got (items_got e t formats behind is) more))

pair_opened : (before begun items ended more : Code) → before ++ ((begun ++ (items ++ ended)) ++ more) ≡ (before ++ begun) ++ (items ++ (ended ++ more))
pair_opened before begun items ended more = simp append_assoc refl

pair_led : (e : Environment) (t : Taken) (p : Y.GetPair) (before more : Code) (behind end : ℕ) → end ≡ size_of before + (size_of (pair_kept e t p) + behind)
    → led end (pair_exits e t before p) (before ++ (pair_kept e t p ++ more)) ≡ before ++ (get_pair e t p behind ++ more)
pair_led e t p before more behind end h =
    let begun : Code = edit_begun p.formats 0 in
    let kept : Code = items_kept e t p.formats p.items in
    let s1 : size_of (begun ++ (kept ++ edit_ended)) ≡ size_of begun + size_of (kept ++ edit_ended) = size_append begun (kept ++ edit_ended) in
    let s2 : size_of (kept ++ edit_ended) ≡ size_of kept + size_of edit_ended = size_append kept edit_ended in
    let s3 : size_of (before ++ begun) ≡ size_of before + size_of begun = size_append before begun in
    let there : end ≡ size_of (before ++ begun) + (size_of kept + (size_of edit_ended + behind)) = omega arith in
    ap (led end (pair_exits e t before p)) (pair_opened before begun kept edit_ended more)
    ∙ items_led e t p.formats p.items (before ++ begun) (edit_ended ++ more) (size_of edit_ended + behind) end there
    ∙ sym (pair_opened before begun (items_got e t p.formats (size_of edit_ended + behind) p.items) edit_ended more)

pair_alike : (e : Environment) (t : Taken) (p : Y.GetPair) (behind : ℕ) → Alike (get_pair e t p behind) (pair_kept e t p)
pair_alike e t p behind =
    alike_behind (edit_begun p.formats 0) _ _
    (alike_both (items_got e t p.formats (size_of edit_ended + behind) p.items) (items_kept e t p.formats p.items) edit_ended edit_ended (items_alike e t p.formats (size_of edit_ended + behind) p.items) (record { lengths = refl; sizes = refl }))

abbrev past : Code
past = JumpAhead 2 ∷ []

pairs_alike : (e : Environment) (t : Taken) (ps : List Y.GetPair) → Alike (get_pairs e t ps) (pairs_kept e t ps ++ past)
pairs_alike e t [] = record { lengths = refl; sizes = refl }
pairs_alike e t (p ∷ ps) =
    subst (λ u. Alike (get_pairs e t (p ∷ ps)) u) (sym (append_assoc (pair_kept e t p) (pairs_kept e t ps) past))
    (alike_both (get_pair e t p (size_of (get_pairs e t ps))) (pair_kept e t p) (get_pairs e t ps) (pairs_kept e t ps ++ past) (pair_alike e t p (size_of (get_pairs e t ps))) (pairs_alike e t ps))

same_pairs : (e : Environment) (t : Taken) (ps : List Y.GetPair) (a b : Code) → Alike a b → pairs_exits e t a ps ≡ pairs_exits e t b ps
same_pairs e t [] a b h = refl
same_pairs e t (p ∷ ps) a b h =
    ap (λ x. x ++ pairs_exits e t (a ++ pair_kept e t p) ps) (same_items e t p.formats p.items (a ++ edit_begun p.formats 0) (b ++ edit_begun p.formats 0) (alike_both a b (edit_begun p.formats 0) (edit_begun p.formats 0) h (record { lengths = refl; sizes = refl })))
    ∙ ap (λ x. pair_exits e t b p ++ x) (same_pairs e t ps (a ++ pair_kept e t p) (b ++ pair_kept e t p) (alike_both a b (pair_kept e t p) (pair_kept e t p) h (record { lengths = refl; sizes = refl })))

pairs_led : (e : Environment) (t : Taken) (ps : List Y.GetPair) (before : Code) (end : ℕ) → end ≡ size_of before + size_of (pairs_kept e t ps ++ past)
    → led end (pairs_exits e t before ps) (before ++ (pairs_kept e t ps ++ past)) ≡ before ++ get_pairs e t ps
pairs_led e t [] before end h = refl
pairs_led e t (p ∷ ps) before end h =
    let far : ℕ = size_of (get_pairs e t ps) in
    let kept : Code = pair_kept e t p in
    let got : Code = get_pair e t p far in
    let rest : Code = pairs_kept e t ps ++ past in
    let here : Alike got kept = pair_alike e t p far in
    let same : size_of (get_pairs e t ps) ≡ size_of rest = (pairs_alike e t ps).sizes in
    let sizes : size_of got ≡ size_of kept = here.sizes in
    let joined : (kept ++ pairs_kept e t ps) ++ past ≡ kept ++ rest = append_assoc kept (pairs_kept e t ps) past in
    let both : size_of ((kept ++ pairs_kept e t ps) ++ past) ≡ size_of kept + size_of rest = ap size_of joined ∙ size_append kept rest in
    let longer : size_of (before ++ got) ≡ size_of before + size_of got = size_append before got in
    let h1 : end ≡ size_of before + (size_of kept + far) = omega arith in
    let h2 : end ≡ size_of (before ++ got) + size_of rest = omega arith in
    let places : List Place = pairs_exits e t (before ++ kept) ps in
    led_both end (pair_exits e t before p) places (before ++ ((kept ++ pairs_kept e t ps) ++ past))
    ∙ ap (λ u. led end places (led end (pair_exits e t before p) (before ++ u))) joined
    ∙ ap (led end places) (pair_led e t p before rest far end h1)
    ∙ ap (λ x. led end x (before ++ (got ++ rest))) (sym (same_pairs e t ps (before ++ got) (before ++ kept) (alike_behind before got kept here)))
    ∙ ap (led end (pairs_exits e t (before ++ got) ps)) (sym (append_assoc before got rest))
    ∙ pairs_led e t ps (before ++ got) end h2
    ∙ append_assoc before got (get_pairs e t ps)

pub led_to_exit : (e : Environment) (t : Taken) (ps : List Y.GetPair) (before : Code)
    → led (size_of ((before ++ pairs_kept e t ps) ++ JumpAhead 2 ∷ [])) (pairs_exits e t before ps) ((before ++ pairs_kept e t ps) ++ JumpAhead 2 ∷ []) ≡ before ++ get_pairs e t ps
led_to_exit e t ps before =
    let end : ℕ = size_of ((before ++ pairs_kept e t ps) ++ past) in
    ap (led end (pairs_exits e t before ps)) (append_assoc before (pairs_kept e t ps) past)
    ∙ pairs_led e t ps before end (ap size_of (append_assoc before (pairs_kept e t ps) past) ∙ size_append before (pairs_kept e t ps ++ past))

-- ---- their places

items_are : (e : Environment) (t : Taken) (formats : Formats) (is : List Y.GetItem) (before more : Code) → AreExits (before ++ (items_kept e t formats is ++ more)) (items_exits e t formats before is)
items_are e t formats [] before more = tt
items_are e t formats (i ∷ is) before more =
    let kept : Code = item_kept e t formats i in
    let rest : Code = items_kept e t formats is in
    let joined : before ++ (kept ++ (rest ++ more)) ≡ before ++ ((kept ++ rest) ++ more) = ap (λ u. before ++ u) (sym (append_assoc kept rest more)) in (
      subst (λ u. IsPlace 2 u (item_exit e t before i)) joined (item_is_kept e t formats i before (rest ++ more)),
      subst (λ u. AreExits u (items_exits e t formats (before ++ kept) is)) (append_assoc before kept (rest ++ more) ∙ joined) (items_are e t formats is (before ++ kept) more),
    )

both_are : (code : Code) (ps qs : List Place) → AreExits code ps → AreExits code qs → AreExits code (ps ++ qs)
both_are code [] qs h k = k
both_are code (p ∷ ps) qs h k = (h.0, both_are code ps qs h.1 k)

pairs_are : (e : Environment) (t : Taken) (ps : List Y.GetPair) (before more : Code) → AreExits (before ++ (pairs_kept e t ps ++ more)) (pairs_exits e t before ps)
pairs_are e t [] before more = tt
pairs_are e t (p ∷ ps) before more =
    let begun : Code = edit_begun p.formats 0 in
    let items : Code = items_kept e t p.formats p.items in
    let kept : Code = pair_kept e t p in
    let rest : Code = pairs_kept e t ps in
    let joined : before ++ (kept ++ (rest ++ more)) ≡ before ++ ((kept ++ rest) ++ more) = ap (λ u. before ++ u) (sym (append_assoc kept rest more)) in
    both_are (before ++ ((kept ++ rest) ++ more)) (pair_exits e t before p) (pairs_exits e t (before ++ kept) ps)
    (subst (λ u. AreExits u (pair_exits e t before p)) (sym (pair_opened before begun items edit_ended (rest ++ more)) ∙ joined) (items_are e t p.formats p.items (before ++ begun) (edit_ended ++ (rest ++ more))))
    (subst (λ u. AreExits u (pairs_exits e t (before ++ kept) ps)) (append_assoc before kept (rest ++ more) ∙ joined) (pairs_are e t ps (before ++ kept) more))

pub are_exits : (e : Environment) (t : Taken) (ps : List Y.GetPair) (before : Code) → AreExits ((before ++ pairs_kept e t ps) ++ JumpAhead 2 ∷ []) (pairs_exits e t before ps)
are_exits e t ps before =
    subst (λ u. AreExits u (pairs_exits e t before ps)) (sym (append_assoc before (pairs_kept e t ps) (JumpAhead 2 ∷ []))) (pairs_are e t ps before (JumpAhead 2 ∷ []))
