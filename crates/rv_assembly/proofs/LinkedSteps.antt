-- The loop over code that becomes words.
use Rattle.std.proofs.Common.{◌≡◌, ℕ, ◌+◌, ◌*◌, ◌^◌, ◌<◌, List, ◌∷◌, ◌++◌, map, length, drop, get_or, sym, ap, ◌∙◌, subst, append_assoc, arith}
use Rattle.std.proofs.lemmas.List.{map-append}
use Rattle.rv_meaning.specs.declared.instr.Instr.{Instr}
use Rattle.rv_meaning.specs.Encoding.{word_of}
use Rattle.pli_coding.specs.Assembly.{item_size}
use Rattle.pli_coding.specs.Linking.{Links, item_code, linked}
use Rattle.rv_assembly.specs.declared.item.Item.{Item as Held}
use Rattle.rv_assembly.specs.View.{item_of}
use Rattle.rv_assembly.specs.Fitting.{FitsIn, AllFit}
use Rattle.rv_assembly.proofs.Marking.{items_from}

pub next_words : (links : Links) (done target : List ℕ) (xs : List Held) (i at : ℕ) (x : Held) → i < length xs → x ≡ get_or xs i x → done ++ map word_of (linked links at (map item_of (drop i xs))) ≡ target
    → (done ++ map word_of (item_code links at (item_of x))) ++ map word_of (linked links (at + 4 * item_size (item_of x)) (map item_of (drop (i + 1) xs))) ≡ target
next_words links done target xs i at x h e is =
    let here : List Instr = item_code links at (item_of x) in
    let rest : List Instr = linked links (at + 4 * item_size (item_of x)) (map item_of (drop (i + 1) xs)) in
    append_assoc done (map word_of here) (map word_of rest)
    ∙ ap (λ u. done ++ u) (sym (ap (λ u. map word_of (linked links at u)) (items_from xs i x h e) ∙ map-append word_of here rest))
    ∙ is

pub fits_here : (xs : List Held) (i : ℕ) (x : Held) → i < length xs → x ≡ get_or xs i x → AllFit (map item_of (drop i xs)) → FitsIn (item_of x)
fits_here xs i x h e fit =
    let both : AllFit (item_of x ∷ map item_of (drop (i + 1) xs)) = subst AllFit (items_from xs i x h e) fit in
    both.0

pub next_fits : (xs : List Held) (i : ℕ) (x : Held) → i < length xs → x ≡ get_or xs i x → AllFit (map item_of (drop i xs)) → AllFit (map item_of (drop (i + 1) xs))
next_fits xs i x h e fit =
    let both : AllFit (item_of x ∷ map item_of (drop (i + 1) xs)) = subst AllFit (items_from xs i x h e) fit in
    both.1

pub place_near : (at rest total : ℕ) → at + 4 * rest ≡ 4 * total → total < 2 ^ 28 → at < 2 ^ 30
place_near at rest total e h = omega arith
