-- Nodes as they are read, those with sizes, and the items that they stand for.
use Rattle.std.proofs.Common.{◌≡◌, ℕ, suc, ◌+◌, ◌-◌, List, [], ◌∷◌, ◌++◌, length, drop, refl, sym, ap, ◌∙◌, append_assoc, arith}
use Rattle.std.proofs.lemmas.List.{append-nil, length-append}
use Rattle.std.proofs.Math.Seq.{drop-append_seam}
use Rattle.pli_meaning.specs.Streaming.{FormatItem, repeated}
use Rattle.pli_edit.specs.declared.format.Format.{Format}
use Rattle.pli_edit.specs.declared.format.Node.{Node}
use Rattle.pli_edit.specs.declared.format.Node.TheVariants as N
use Rattle.pli_edit.specs.FormatPlaces.{item_of, items_from}
use Rattle.pli_formats.specs.Sizes.{nodes_in, with_sizes}

-- so many items, whose nodes were read, whatever stands behind them
pub record Forest (k : ℕ) (read : List Node) (items : List FormatItem) : Type 0 where
  pub final : List Node
  pub even : length final ≡ length read
  pub sizes : (rest : List Node) → with_sizes (read ++ rest) ≡ final ++ with_sizes rest
  pub counted : (rest : List Node) → nodes_in k (final ++ rest) ≡ length final
  pub shown : (rest : List Node) (n : ℕ) → items_from (final ++ rest) 0 (length final + n) ≡ items ++ items_from rest 0 n

no_skip : (n : ℕ) → 0 + n ≡ n
no_skip n = omega arith

one_more : (m n : ℕ) → suc m + n ≡ suc (m + n)
one_more m n = omega arith

pub no_items : Forest 0 [] []
no_items = record {
  final = [];
  even = refl;
  sizes = λ rest. refl;
  counted = λ rest. refl;
  shown = λ rest n. ap (items_from rest 0) (no_skip n);
}

pub item_before : (k : ℕ) (read : List Node) (items : List FormatItem) (times : ℕ) (f : Format) → Forest k read items → Forest (suc k) (N.Item times f ∷ read) (repeated times (item_of f ∷ []) ++ items)
item_before k read items times f o = record {
  final = N.Item times f ∷ o.final;
  even = ap suc o.even;
  sizes = λ rest. ap (λ ns. N.Item times f ∷ ns) (o.sizes rest);
  counted = λ rest. ap (λ n. 1 + n) (o.counted rest) ∙ plus_one (length o.final);
  shown = λ rest n.
      ap (items_from (N.Item times f ∷ (o.final ++ rest)) 0) (one_more (length o.final) n)
      ∙ ap (λ is. repeated times (item_of f ∷ []) ++ is) (o.shown rest n)
      ∙ sym (append_assoc (repeated times (item_of f ∷ [])) items (items_from rest 0 n));
}
  where
    plus_one : (n : ℕ) → 1 + n ≡ suc n
    plus_one n = omega arith

-- behind nodes that are skipped
skipped : (ns rest : List Node) (n : ℕ) → items_from (ns ++ rest) (length ns) n ≡ items_from rest 0 n
skipped [] rest n = refl
skipped (m ∷ ns) rest n = skipped ns rest n

empty : (ns : List Node) → items_from ns 0 0 ≡ []
empty [] = refl
empty (n ∷ ns) = refl

pub list_before : (q k times : ℕ) (a b : List Node) (is js : List FormatItem) → Forest q a is → Forest k b js → Forest (suc k) (N.List times q ∷ (a ++ b)) (repeated times is ++ js)
list_before q k times a b is js o p = record {
  final = N.List times (length o.final) ∷ (o.final ++ p.final);
  even = ap suc (length-append o.final p.final ∙ (ap (λ n. n + length p.final) o.even ∙ (ap (λ n. length a + n) p.even ∙ sym (length-append a b))));
  sizes = λ rest. head (with_sizes ((a ++ b) ++ rest)) rest (behind rest);
  counted = λ rest. further rest;
  shown = λ rest n. both rest n;
}
  where
    behind : (rest : List Node) → with_sizes ((a ++ b) ++ rest) ≡ o.final ++ (p.final ++ with_sizes rest)
    behind rest = ap with_sizes (append_assoc a b rest) ∙ (o.sizes (b ++ rest) ∙ ap (λ ns. o.final ++ ns) (p.sizes rest))

    head : (ns rest : List Node) → ns ≡ o.final ++ (p.final ++ with_sizes rest) → N.List times (nodes_in q ns) ∷ ns ≡ N.List times (length o.final) ∷ ((o.final ++ p.final) ++ with_sizes rest)
    head ns rest e =
        ap (λ l. N.List times (nodes_in q l) ∷ l) e
        ∙ (ap (λ n. N.List times n ∷ (o.final ++ (p.final ++ with_sizes rest))) (o.counted (p.final ++ with_sizes rest))
        ∙ ap (λ ns. N.List times (length o.final) ∷ ns) (sym (append_assoc o.final p.final (with_sizes rest))))

    further : (rest : List Node) → suc (length o.final) + nodes_in k (drop (length o.final) ((o.final ++ p.final) ++ rest)) ≡ suc (length (o.final ++ p.final))
    further rest =
        ap (λ ns. suc (length o.final) + nodes_in k (drop (length o.final) ns)) (append_assoc o.final p.final rest)
        ∙ (ap (λ ns. suc (length o.final) + nodes_in k ns) (drop-append_seam o.final (p.final ++ rest))
        ∙ (ap (λ n. suc (length o.final) + n) (p.counted rest)
        ∙ (one_more (length o.final) (length p.final) ∙ ap suc (sym (length-append o.final p.final)))))

    both : (rest : List Node) (n : ℕ) → items_from (N.List times (length o.final) ∷ ((o.final ++ p.final) ++ rest)) 0 (suc (length (o.final ++ p.final)) + n) ≡ (repeated times is ++ js) ++ items_from rest 0 n
    both rest n =
        let x = (o.final ++ p.final) ++ rest in
        let y = p.final ++ rest in
        let l = length-append o.final p.final in
        let size : suc (length (o.final ++ p.final)) + n ≡ suc (length o.final + (length p.final + n)) = omega (arith, l) in
        let left : (length o.final + (length p.final + n)) - length o.final ≡ length p.final + n = omega arith in
        ap (items_from (N.List times (length o.final) ∷ x) 0) size
        ∙ (ap (λ s. repeated times (items_from x 0 (length o.final)) ++ items_from x (length o.final) s) left
        ∙ (ap (λ ns. repeated times (items_from ns 0 (length o.final)) ++ items_from ns (length o.final) (length p.final + n)) (append_assoc o.final p.final rest)
        ∙ (ap (λ l. repeated times l ++ items_from (o.final ++ y) (length o.final) (length p.final + n)) (inner y)
        ∙ (ap (λ l. repeated times is ++ l) (skipped o.final y (length p.final + n) ∙ p.shown rest n)
        ∙ sym (append_assoc (repeated times is) js (items_from rest 0 n))))))
      where
        inner : (y : List Node) → items_from (o.final ++ y) 0 (length o.final) ≡ is
        inner y =
            let none : length o.final ≡ length o.final + 0 = omega arith in
            ap (items_from (o.final ++ y) 0) none ∙ (o.shown y 0 ∙ (ap (λ l. is ++ l) (empty y) ∙ append-nil is))
