-- Parts as they are read, those with sizes, and the members that they stand for at each depth.
use Rattle.std.proofs.Common.{◌≡◌, ℕ, suc, ◌+◌, ◌-◌, List, [], ◌∷◌, ◌++◌, length, drop, refl, sym, ap, ◌∙◌, append_assoc, arith}
use Rattle.std.proofs.lemmas.List.{append-nil, length-append}
use Rattle.std.proofs.Math.Seq.{drop-append_seam}
use Rattle.pli_typing.specs.TypedTree.{Member}
use Rattle.pli_shapes.specs.declared.part.Part.{Part}
use Rattle.pli_shapes.specs.Members.{members_from}
use Rattle.pli_shapes.specs.Sizes.{parts_in, with_sizes}

-- so many parts, which were read with those inside, whatever stands behind them
pub record Forest (k : ℕ) (read : List Part) (members : ℕ → List Member) : Type 0 where
  pub final : List Part
  pub even : length final ≡ length read
  pub sizes : (rest : List Part) → with_sizes (read ++ rest) ≡ final ++ with_sizes rest
  pub counted : (rest : List Part) → parts_in k (final ++ rest) ≡ length final
  pub shown : (depth : ℕ) (rest : List Part) (n : ℕ) → members_from depth (final ++ rest) 0 (length final + n) ≡ members depth ++ members_from depth rest 0 n

one_more : (m n : ℕ) → suc m + n ≡ suc (m + n)
one_more m n = omega arith

pub no_parts : Forest 0 [] (λ depth. [])
no_parts = record {
  final = [];
  even = refl;
  sizes = λ rest. refl;
  counted = λ rest. refl;
  shown = λ depth rest n. ap (members_from depth rest 0) (no_skip n);
}
  where
    no_skip : (n : ℕ) → 0 + n ≡ n
    no_skip n = omega arith

-- behind parts that are skipped
skipped : (depth : ℕ) (ps rest : List Part) (n : ℕ) → members_from depth (ps ++ rest) (length ps) n ≡ members_from depth rest 0 n
skipped depth [] rest n = refl
skipped depth (p ∷ ps) rest n = skipped depth ps rest n

empty : (depth : ℕ) (ps : List Part) → members_from depth ps 0 0 ≡ []
empty depth [] = refl
empty depth (p ∷ ps) = refl

pub part_before : (q k d : ℕ) (a b : List Part) (is js : ℕ → List Member) → Forest q a is → Forest k b js
    → Forest (suc k) (record { dimensions = d; inside = q } ∷ (a ++ b)) (λ depth. record { depth = depth; dimensions = d } ∷ (is (suc depth) ++ js depth))
part_before q k d a b is js o p = record {
  final = record { dimensions = d; inside = length o.final } ∷ (o.final ++ p.final);
  even = ap suc (length-append o.final p.final ∙ (ap (λ n. n + length p.final) o.even ∙ (ap (λ n. length a + n) p.even ∙ sym (length-append a b))));
  sizes = λ rest. head (with_sizes ((a ++ b) ++ rest)) rest (behind rest);
  counted = λ rest. further rest;
  shown = λ depth rest n. both depth rest n;
}
  where
    behind : (rest : List Part) → with_sizes ((a ++ b) ++ rest) ≡ o.final ++ (p.final ++ with_sizes rest)
    behind rest = ap with_sizes (append_assoc a b rest) ∙ (o.sizes (b ++ rest) ∙ ap (λ ps. o.final ++ ps) (p.sizes rest))

    head : (ps rest : List Part) → ps ≡ o.final ++ (p.final ++ with_sizes rest)
        → ◌≡◌ {A = List Part} (record { dimensions = d; inside = parts_in q ps } ∷ ps) (record { dimensions = d; inside = length o.final } ∷ ((o.final ++ p.final) ++ with_sizes rest))
    head ps rest e =
        ap {B = List Part} (λ l. record { dimensions = d; inside = parts_in q l } ∷ l) e
        ∙ (ap {B = List Part} (λ n. record { dimensions = d; inside = n } ∷ (o.final ++ (p.final ++ with_sizes rest))) (o.counted (p.final ++ with_sizes rest))
        ∙ ap {B = List Part} (λ ps. record { dimensions = d; inside = length o.final } ∷ ps) (sym (append_assoc o.final p.final (with_sizes rest))))

    further : (rest : List Part) → suc (length o.final) + parts_in k (drop (length o.final) ((o.final ++ p.final) ++ rest)) ≡ suc (length (o.final ++ p.final))
    further rest =
        ap (λ ps. suc (length o.final) + parts_in k (drop (length o.final) ps)) (append_assoc o.final p.final rest)
        ∙ (ap (λ ps. suc (length o.final) + parts_in k ps) (drop-append_seam o.final (p.final ++ rest))
        ∙ (ap (λ n. suc (length o.final) + n) (p.counted rest)
        ∙ (one_more (length o.final) (length p.final) ∙ ap suc (sym (length-append o.final p.final)))))

    inner : (depth : ℕ) (y : List Part) → members_from depth (o.final ++ y) 0 (length o.final) ≡ is depth
    inner depth y =
        let none : length o.final ≡ length o.final + 0 = omega arith in
        ap (members_from depth (o.final ++ y) 0) none ∙ (o.shown depth y 0 ∙ (ap (λ l. is depth ++ l) (empty depth y) ∙ append-nil (is depth)))

    both : (depth : ℕ) (rest : List Part) (n : ℕ)
        → members_from depth (record { dimensions = d; inside = length o.final } ∷ ((o.final ++ p.final) ++ rest)) 0 (suc (length (o.final ++ p.final)) + n)
        ≡ (record { depth = depth; dimensions = d } ∷ (is (suc depth) ++ js depth)) ++ members_from depth rest 0 n
    both depth rest n =
        let x = (o.final ++ p.final) ++ rest in
        let y = p.final ++ rest in
        let l = length-append o.final p.final in
        let size : suc (length (o.final ++ p.final)) + n ≡ suc (length o.final + (length p.final + n)) = omega (arith, l) in
        let left : (length o.final + (length p.final + n)) - length o.final ≡ length p.final + n = omega arith in
        let m : Member = record { depth = depth; dimensions = d } in
        ap (members_from depth (record { dimensions = d; inside = length o.final } ∷ x) 0) size
        ∙ (ap (λ s. m ∷ (members_from (suc depth) x 0 (length o.final) ++ members_from depth x (length o.final) s)) left
        ∙ (ap (λ ps. m ∷ (members_from (suc depth) ps 0 (length o.final) ++ members_from depth ps (length o.final) (length p.final + n))) (append_assoc o.final p.final rest)
        ∙ (ap (λ l. m ∷ (l ++ members_from depth (o.final ++ y) (length o.final) (length p.final + n))) (inner (suc depth) y)
        ∙ (ap (λ l. m ∷ (is (suc depth) ++ l)) (skipped depth o.final y (length p.final + n) ∙ p.shown depth rest n)
        ∙ ap (λ l. m ∷ l) (sym (append_assoc (is (suc depth)) (js depth) (members_from depth rest 0 n)))))))
