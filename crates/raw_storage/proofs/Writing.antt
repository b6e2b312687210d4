-- Bytes that are written over others from a place on.
use Rattle.std.proofs.Common.{◌≡◌, ℕ, ◌≤◌, List, ◌++◌, length, take, drop, sym, ap, ◌∙◌, length-append, length-take, length-drop, arith}
use Rattle.std.proofs.lemmas.List.{drop-drop, take-append-le}
use Rattle.raw_storage.specs.Parts.{written_from}

-- a whole list that is cut or filled up to its length
pub over_whole :
    (at n : ℕ) (new bytes : List ℕ) → at ≤ n → length bytes ≡ n →
    take n ((take at bytes ++ (new ++ drop (length new) (drop at bytes))) ++ drop (length (take at bytes ++ (new ++ drop (length new) (drop at bytes)))) bytes)
    ≡ written_from at new bytes
over_whole at n new bytes h e =
    let x = take at bytes ++ (new ++ drop (length new) (drop at bytes)) in
    let a = length-append (take at bytes) (new ++ drop (length new) (drop at bytes)) in
    let b = length-append new (drop (length new) (drop at bytes)) in
    let c = length-take at bytes in
    let d = length-drop (length new) (drop at bytes) in
    let f = length-drop at bytes in
    let l : n ≤ length x = omega (arith, a, b, c, d, f, e, h) in
    take-append-le n x (drop (length x) bytes) l
    ∙ (ap (λ k. take k x) (sym e)
    ∙ ap (λ y. take (length bytes) (take at bytes ++ (new ++ y))) (drop-drop (length new) at bytes))
