-- Subscripts, one after the other.
use Rattle.std.proofs.Common.{◌≡◌, ℕ, suc, ◌+◌, ◌<◌, List, [], ◌∷◌, ◌++◌, map, length, drop, get_or, refl, sym, ap}
use Rattle.std.proofs.Common.{◌∙◌, append_assoc, append-nil, add-one, arith}
use Rattle.pli_typing.specs.declared.typed.Numbers as Q
use Rattle.pli_typing.specs.declared.typed.Bounds.{Bounds}
use Rattle.pli_typing.specs.TypedTree as Y
use Rattle.pli_typing.specs.TypedView.{bounds_of, number_of, numbers_of}
use Rattle.pli_coding.specs.Assembly.{Code}
use Rattle.pli_coding.specs.Environments.{Environment, Taken, with_number}
use Rattle.pli_coding.specs.Locating.{place_kept, subscript_given, subscript_counted, subscripts_counted}
use Rattle.rv_address.specs.Pieces.{dimension_counted, some_counted}

pub counted-End : (e : _) (t : _) (d : _) (bs : _) → subscripts_counted e t d (numbers_of Q.End) bs ≡ []
unfolding numbers_of
counted-End e t d bs = refl

pub counted-More : (e : _) (t : _) (d : _) (a : _) (n : _) (b : _) (ns : _) (bs : _)
    → subscripts_counted e t d (numbers_of (Q.More' a n b ns)) bs ≡ some_counted e t d (number_of n) (numbers_of ns) bs
unfolding numbers_of some_counted
counted-More e t d a n b ns bs = refl

pub ruleset lists = (counted-End, counted-More, append_assoc, append-nil)

regrouped : (a b c d : Code) → a ++ (b ++ (c ++ d)) ≡ (a ++ (b ++ c)) ++ d
regrouped a b c d = ap (λ u. a ++ u) (sym (append_assoc b c d)) ∙ sym (append_assoc a (b ++ c) d)

one_more : (e : Environment) (t : Taken) (d : ℕ) (n : Y.Number) (ns : Y.Numbers) (b : Y.Bounds) (bs : List Y.Bounds)
    → dimension_counted e t d n ns b ++ subscripts_counted e (with_number t) (d + 1) ns bs
    ≡ subscripts_counted e t d (Y.NumberThen n ns) (b ∷ bs)
unfolding dimension_counted
one_more e t d n ns b bs =
    let here : Code = place_kept d ++ (subscript_given e t n ns ++ subscript_counted d b) in
    ap (λ m. here ++ subscripts_counted e (with_number t) m ns bs) (add-one d)
    ∙ sym (regrouped (place_kept d) (subscript_given e t n ns) (subscript_counted d b)
    (subscripts_counted e (with_number t) (suc d) ns bs))

pub next_subscript : (e : Environment) (t next : Taken) (d after : ℕ) (n : Y.Number) (ns : Y.Numbers) (xs :
    List Bounds) (blank : Bounds) (code counted target : Code) → 0 < length xs
    → counted ≡ code ++ dimension_counted e t d n ns (bounds_of (get_or xs 0 blank)) → next ≡ with_number t
    → after ≡ d + 1 → target ≡ counted ++ subscripts_counted e next after ns (map bounds_of (drop 1 xs))
    → target ≡ code ++ some_counted e t d n ns (map bounds_of xs)
unfolding some_counted
next_subscript e t next d after n ns [] blank code counted target h c w m is = absurd (omega (arith, h))
next_subscript e t next d after n ns (x ∷ xs) blank code counted target h c w m is =
    let rest : List Y.Bounds = map bounds_of xs in
    let here : Code = dimension_counted e t d n ns (bounds_of x) in
    is
    ∙ ap (λ u. u ++ subscripts_counted e next after ns rest) c
    ∙ ap (λ (s : Taken). (code ++ here) ++ subscripts_counted e s after ns rest) w
    ∙ ap (λ i. (code ++ here) ++ subscripts_counted e (with_number t) i ns rest) m
    ∙ append_assoc code here (subscripts_counted e (with_number t) (d + 1) ns rest)
    ∙ ap (λ u. code ++ u) (one_more e t d n ns (bounds_of x) rest)

pub no_bounds : (e : Environment) (t : Taken) (d : ℕ) (n : Y.Number) (ns : Y.Numbers) (xs : List Bounds) (code : Code)
    → length xs ≡ 0 → code ≡ code ++ some_counted e t d n ns (map bounds_of xs)
unfolding some_counted
no_bounds e t d n ns [] code none = sym (append-nil code)
no_bounds e t d n ns (x ∷ xs) code none = absurd (omega (arith, none))

pub none_behind : (xs : List Bounds) → length xs ≡ 0 → [] ≡ drop 1 xs
none_behind [] none = refl
none_behind (x ∷ xs) none = absurd (omega (arith, none))
