-- What is read from a table is spelled so, and what is spelled so is read.
use Rattle.std.proofs.Common.{◌≡◌, ℕ, zero, suc, ◌+◌, ◌<◌, ◌≤◌, List, [], ◌∷◌, ◌++◌, length, Bool, true, false, cond, Option, Some, None, refl, ap, sym, subst, ◌∙◌, arith, append_assoc, length-append, ◌⊎◌, inl, inr, eqb}
use Rattle.std.proofs.lemmas.Bool.{eqb-true, le-leb, leb-true}
use Rattle.std.specs.Prelude.{IsTrue, nat_le, ◌&&◌}
use Rattle.rv_meaning.specs.declared.image.TableKind.{TableKind}
use Rattle.rv_meaning.specs.declared.image.TableKind.TheVariants as K
use Rattle.rv_meaning.specs.Tables.{Pair, TableLeaf, TableSignature, kind_number, pairs_words, leaf_words, leaves_words, signature_words, table_words, size_fits, is_run_time, pair_fits, PairsFit, run_time_pairs, Shape, shape_of, stands, LeavesFit, head_fits, IsSignature, AreSignatures, IsTable}
use Rattle.rv_image.specs.Reading.{◌>>=◌, word_from, pair_from, pairs_from, kind_from, leaf_from, leaves_from, signature_from}

-- the value of a step that gave one
bind_some : {A B : Type 0} (r : Option A) (f : A → Option B) (y : B) → (r >>= f) ≡ Some y → (x : A) × (r ≡ Some x) × (f x ≡ Some y)
bind_some (Some x) f y e = (x, refl, e)
bind_some None f y e = absurd cc

-- a test that was met
chosen : {A : Type 0} (b : Bool) (r : Option A) (y : A) → cond b r None ≡ Some y → (b ≡ true) × (r ≡ Some y)
chosen true r y e = (refl, e)
chosen false r y e = absurd cc

both : (a b : Bool) → (a && b) ≡ true → (a ≡ true) × (b ≡ true)
both true b e = (refl, e)
both false b e = absurd cc

abbrev given : {A : Type 0} → A → Option A
given x = Some x

some_is : {A : Type 0} (x y : A) → given x ≡ given y → x ≡ y
some_is x y e = cc

word_takes : (ws : List ℕ) (x : ℕ × List ℕ) → word_from ws ≡ Some x → ws ≡ x.0 ∷ x.1
word_takes [] x e = absurd cc
word_takes (w ∷ ws) x e = ap (λ (p : ℕ × List ℕ). p.0 ∷ p.1) (some_is (w, ws) x e)

-- ---- pairs

-- these words begin with a pair
record TakesPair (ws : List ℕ) (x : Bool × List ℕ) : Type 0 where
  pair : Pair
  fits : IsTrue (pair_fits pair.lower pair.upper)
  run_time_is : x.0 ≡ is_run_time pair.lower pair.upper
  words_are : ws ≡ pair.lower ∷ pair.upper ∷ x.1

pair_takes : (ws : List ℕ) (x : Bool × List ℕ) → pair_from ws ≡ Some x → TakesPair ws x
unfolding pair_from
pair_takes ws x e =
    let a = bind_some (word_from ws) (λ lower. word_from lower.1 >>= λ upper. cond (pair_fits lower.0 upper.0) (Some (is_run_time lower.0 upper.0, upper.1)) None) x e in
    let b = bind_some (word_from a.0.1) (λ upper. cond (pair_fits a.0.0 upper.0) (Some (is_run_time a.0.0 upper.0, upper.1)) None) x a.2 in
    let made : Bool × List ℕ = (is_run_time a.0.0 b.0.0, b.0.1) in
    let g = chosen (pair_fits a.0.0 b.0.0) (Some made) x b.2 in
    let first = word_takes ws a.0 a.1 in
    let second = word_takes a.0.1 b.0 b.1 in
    subst (λ (y : Bool × List ℕ). TakesPair ws y) (some_is made x g.1)
    (record {
      pair = record { lower = a.0.0; upper = b.0.0 };
      fits = g.0;
      run_time_is = refl;
      words_are = first ∙ ap (λ (l : List ℕ). a.0.0 ∷ l) second;
    })

record TakesPairs (n : ℕ) (ws : List ℕ) (x : ℕ × List ℕ) : Type 0 where
  pairs : List Pair
  number : length pairs ≡ n
  fit : PairsFit pairs
  run_time_is : x.0 ≡ run_time_pairs pairs
  words_are : ws ≡ pairs_words pairs ++ x.1

pairs_take : (n : ℕ) (ws : List ℕ) (x : ℕ × List ℕ) → pairs_from n ws ≡ Some x → TakesPairs n ws x
unfolding pairs_from
pairs_take zero ws x e =
    subst (λ (y : ℕ × List ℕ). TakesPairs 0 ws y) (some_is (0, ws) x e) (record { pairs = []; number = refl; fit = tt; run_time_is = refl; words_are = refl })
pairs_take (suc n) ws x e =
    let a = bind_some (pair_from ws) (λ pair. pairs_from n pair.1 >>= λ others. Some (cond pair.0 1 0 + others.0, others.1)) x e in
    let b = bind_some (pairs_from n a.0.1) (λ others. Some (cond a.0.0 1 0 + others.0, others.1)) x a.2 in
    let p = pair_takes ws a.0 a.1 in
    let q = pairs_take n a.0.1 b.0 b.1 in
    let made : ℕ × List ℕ = (cond a.0.0 1 0 + b.0.0, b.0.1) in
    let first = ap (λ (t : Bool). cond t 1 0 + b.0.0) p.run_time_is in
    let others = ap (λ (m : ℕ). cond (is_run_time p.pair.lower p.pair.upper) 1 0 + m) q.run_time_is in
    subst (λ (y : ℕ × List ℕ). TakesPairs (suc n) ws y) (some_is made x b.2)
    (record {
      pairs = p.pair ∷ q.pairs;
      number = ap suc q.number;
      fit = (p.fits, q.fit);
      run_time_is = first ∙ others;
      words_are = p.words_are ∙ ap (λ (l : List ℕ). p.pair.lower ∷ p.pair.upper ∷ l) q.words_are;
    })

pairs_again : (ps : List Pair) (rest : List ℕ) → PairsFit ps → pairs_from (length ps) (pairs_words ps ++ rest) ≡ Some (run_time_pairs ps, rest)
unfolding pairs_from pair_from
pairs_again [] rest h = refl
pairs_again (p ∷ ps) rest h = rw (h.0, pairs_again ps rest h.1) refl

-- ---- leaves

kind_back : (k : TableKind) → kind_from (kind_number k) ≡ Some k
kind_back K.Fixed = refl
kind_back K.Character = refl
kind_back K.Varying = refl
kind_back K.Bit = refl
kind_back K.Pointer = refl
kind_back K.Offset = refl
kind_back K.Area = refl

kind_step : (t : Bool) (j : TableKind) (r : Option TableKind) (k : TableKind) → cond t (Some j) r ≡ Some k → ((t ≡ true) × (j ≡ k)) ⊎ (r ≡ Some k)
kind_step true j r k e = inl (refl, some_is j k e)
kind_step false j r k e = inr e

kind_takes : (n : ℕ) (k : TableKind) → kind_from n ≡ Some k → n ≡ kind_number k
kind_takes n k e1 =
    elim (kind_step (eqb n 1) K.Fixed _ k e1) [
      | inl p ↦ eqb-true n 1 p.0 ∙ ap kind_number p.1
      | inr e2 ↦
          elim (kind_step (eqb n 2) K.Character _ k e2) [
            | inl p ↦ eqb-true n 2 p.0 ∙ ap kind_number p.1
            | inr e3 ↦
                elim (kind_step (eqb n 3) K.Varying _ k e3) [
                  | inl p ↦ eqb-true n 3 p.0 ∙ ap kind_number p.1
                  | inr e4 ↦
                      elim (kind_step (eqb n 4) K.Bit _ k e4) [
                        | inl p ↦ eqb-true n 4 p.0 ∙ ap kind_number p.1
                        | inr e5 ↦
                            elim (kind_step (eqb n 5) K.Pointer _ k e5) [
                              | inl p ↦ eqb-true n 5 p.0 ∙ ap kind_number p.1
                              | inr e6 ↦
                                  elim (kind_step (eqb n 6) K.Offset _ k e6) [
                                    | inl p ↦ eqb-true n 6 p.0 ∙ ap kind_number p.1
                                    | inr e7 ↦
                                        elim (kind_step (eqb n 7) K.Area None k e7) [ inl p ↦ eqb-true n 7 p.0 ∙ ap kind_number p.1 | inr e8 ↦ absurd cc ]
                                  ]
                            ]
                      ]
                ]
          ]
    ]

record TakesLeaf (ws : List ℕ) (x : Shape × List ℕ) : Type 0 where
  leaf : TableLeaf
  sized : IsTrue (size_fits leaf.kind leaf.size)
  few : length leaf.pairs ≤ 8
  bounded : PairsFit leaf.pairs
  shape_is : x.0 ≡ shape_of leaf
  words_are : ws ≡ leaf_words leaf ++ x.1

leaf_made : (ws : List ℕ) (n size d : ℕ) (k : TableKind) (rest : List ℕ) (x : ℕ × List ℕ) → ws ≡ n ∷ size ∷ d ∷ rest → n ≡ kind_number k → IsTrue (size_fits k size) → nat_le d 8 ≡ true → TakesPairs d rest x → TakesLeaf ws (record { kind = k; size = size; dimensions = d; run_time = x.0 }, x.1)
leaf_made ws n size d k rest x heads kind sized short q =
    let few = leb-true d 8 short in
    let shape : ℕ → ℕ → Shape = λ m r. record { kind = k; size = size; dimensions = m; run_time = r } in
    let e1 = ap (λ (l : List ℕ). n ∷ size ∷ d ∷ l) q.words_are in
    let e2 = ap (λ (m : ℕ). m ∷ size ∷ d ∷ (pairs_words q.pairs ++ x.1)) kind in
    let e3 = ap (λ (m : ℕ). kind_number k ∷ size ∷ m ∷ (pairs_words q.pairs ++ x.1)) (sym q.number) in
    record {
      leaf = record { kind = k; size = size; pairs = q.pairs };
      sized = sized;
      few = omega (arith, few, q.number);
      bounded = q.fit;
      shape_is = ap (λ (m : ℕ). shape m x.0) (sym q.number) ∙ ap (shape (length q.pairs)) q.run_time_is;
      words_are = heads ∙ e1 ∙ e2 ∙ e3;
    }

leaf_takes : (ws : List ℕ) (x : Shape × List ℕ) → leaf_from ws ≡ Some x → TakesLeaf ws x
unfolding leaf_from
leaf_takes ws x e =
    let made : TableKind → ℕ → ℕ → ℕ → Shape = λ k n d r. record { kind = k; size = n; dimensions = d; run_time = r } in
    let fits : TableKind → ℕ → ℕ → Bool = λ k n d. size_fits k n && nat_le d 8 in
    let a = bind_some (word_from ws) (λ number. word_from number.1 >>= λ size. word_from size.1 >>= λ dims. kind_from number.0 >>= λ kind. cond (fits kind size.0 dims.0) (pairs_from dims.0 dims.1) None >>= λ pairs. Some (made kind size.0 dims.0 pairs.0, pairs.1)) x e in
    let b = bind_some (word_from a.0.1) (λ size. word_from size.1 >>= λ dims. kind_from a.0.0 >>= λ kind. cond (fits kind size.0 dims.0) (pairs_from dims.0 dims.1) None >>= λ pairs. Some (made kind size.0 dims.0 pairs.0, pairs.1)) x a.2 in
    let d = bind_some (word_from b.0.1) (λ dims. kind_from a.0.0 >>= λ kind. cond (fits kind b.0.0 dims.0) (pairs_from dims.0 dims.1) None >>= λ pairs. Some (made kind b.0.0 dims.0 pairs.0, pairs.1)) x b.2 in
    let f = bind_some (kind_from a.0.0) (λ kind. cond (fits kind b.0.0 d.0.0) (pairs_from d.0.0 d.0.1) None >>= λ pairs. Some (made kind b.0.0 d.0.0 pairs.0, pairs.1)) x d.2 in
    let g = bind_some (cond (fits f.0 b.0.0 d.0.0) (pairs_from d.0.0 d.0.1) None) (λ pairs. Some (made f.0 b.0.0 d.0.0 pairs.0, pairs.1)) x f.2 in
    let h = chosen (fits f.0 b.0.0 d.0.0) (pairs_from d.0.0 d.0.1) g.0 g.1 in
    let tests = both (size_fits f.0 b.0.0) (nat_le d.0.0 8) h.0 in
    let heads = word_takes ws a.0 a.1 ∙ ap (λ (l : List ℕ). a.0.0 ∷ l) (word_takes a.0.1 b.0 b.1 ∙ ap (λ (l : List ℕ). b.0.0 ∷ l) (word_takes b.0.1 d.0 d.1)) in
    let leaf = leaf_made ws a.0.0 b.0.0 d.0.0 f.0 d.0.1 g.0 heads (kind_takes a.0.0 f.0 f.1) tests.0 tests.1 (pairs_take d.0.0 d.0.1 g.0 h.1) in
    let result : Shape × List ℕ = (made f.0 b.0.0 d.0.0 g.0.0, g.0.1) in
    subst {A = Shape × List ℕ} (λ (y : Shape × List ℕ). TakesLeaf ws y) {x = result} {y = x} (some_is result x g.2) leaf

leaf_again : (l : TableLeaf) (rest : List ℕ) → IsTrue (size_fits l.kind l.size) → length l.pairs ≤ 8 → PairsFit l.pairs → leaf_from (leaf_words l ++ rest) ≡ Some (shape_of l, rest)
unfolding leaf_from
leaf_again l rest sized few bounded =
    let short : nat_le (length l.pairs) 8 ≡ true = le-leb (length l.pairs) 8 few in
    rw (kind_back l.kind, sized, short, pairs_again l.pairs rest bounded) refl

record TakesLeaves (left count refer place : ℕ) (ws rest : List ℕ) : Type 0 where
  leaves : List TableLeaf
  number : length leaves ≡ left
  fit : LeavesFit count refer place leaves
  words_are : ws ≡ leaves_words leaves ++ rest

leaves_take : (left count refer place : ℕ) (ws rest : List ℕ) → leaves_from left count refer place ws ≡ Some rest → TakesLeaves left count refer place ws rest
unfolding leaves_from
leaves_take zero count refer place ws rest e = record { leaves = []; number = refl; fit = tt; words_are = some_is ws rest e }
leaves_take (suc left) count refer place ws rest e =
    let a = bind_some (leaf_from ws) (λ leaf. cond (stands count refer place leaf.0) (leaves_from left count refer (suc place) leaf.1) None) rest e in
    let g = chosen (stands count refer place a.0.0) (leaves_from left count refer (suc place) a.0.1) rest a.2 in
    let p = leaf_takes ws a.0 a.1 in
    let q = leaves_take left count refer (suc place) a.0.1 rest g.1 in
    record {
      leaves = p.leaf ∷ q.leaves;
      number = ap suc q.number;
      fit = (record { sized = p.sized; few = p.few; bounded = p.bounded; placed = ap (stands count refer place) (sym p.shape_is) ∙ g.0 }, q.fit);
      words_are = p.words_are ∙ ap (λ (l : List ℕ). leaf_words p.leaf ++ l) q.words_are ∙ sym (append_assoc (leaf_words p.leaf) (leaves_words q.leaves) rest);
    }

leaves_again : (ls : List TableLeaf) (count refer place : ℕ) (rest : List ℕ) → LeavesFit count refer place ls → leaves_from (length ls) count refer place (leaves_words ls ++ rest) ≡ Some rest
unfolding leaves_from
leaves_again [] count refer place rest h = refl
leaves_again (l ∷ ls) count refer place rest h =
    let fit = h.0 in
    let words : leaves_words (l ∷ ls) ++ rest ≡ leaf_words l ++ (leaves_words ls ++ rest) = append_assoc (leaf_words l) (leaves_words ls) rest in
    ap (leaves_from (suc (length ls)) count refer place) words
    ∙ rw (leaf_again l (leaves_words ls ++ rest) fit.sized fit.few fit.bounded, fit.placed) (leaves_again ls count refer (suc place) rest h.1)

-- ---- signatures

record TakesSignature (ws rest : List ℕ) : Type 0 where
  signature : TableSignature
  fits : IsSignature signature
  words_are : ws ≡ signature_words signature ++ rest

signature_takes : (ws rest : List ℕ) → signature_from ws ≡ Some rest → TakesSignature ws rest
unfolding signature_from
signature_takes ws rest e =
    let a = bind_some (word_from ws) (λ class. word_from class.1 >>= λ count. word_from count.1 >>= λ refer. cond (head_fits class.0 count.0 refer.0) (leaves_from count.0 count.0 refer.0 0 refer.1) None) rest e in
    let b = bind_some (word_from a.0.1) (λ count. word_from count.1 >>= λ refer. cond (head_fits a.0.0 count.0 refer.0) (leaves_from count.0 count.0 refer.0 0 refer.1) None) rest a.2 in
    let d = bind_some (word_from b.0.1) (λ refer. cond (head_fits a.0.0 b.0.0 refer.0) (leaves_from b.0.0 b.0.0 refer.0 0 refer.1) None) rest b.2 in
    let g = chosen (head_fits a.0.0 b.0.0 d.0.0) (leaves_from b.0.0 b.0.0 d.0.0 0 d.0.1) rest d.2 in
    let first = word_takes ws a.0 a.1 in
    let second = word_takes a.0.1 b.0 b.1 in
    let third = word_takes b.0.1 d.0 d.1 in
    let q = leaves_take b.0.0 b.0.0 d.0.0 0 d.0.1 rest g.1 in
    let heads : ws ≡ a.0.0 ∷ b.0.0 ∷ d.0.0 ∷ d.0.1 = first ∙ ap (λ (l : List ℕ). a.0.0 ∷ l) (second ∙ ap (λ (l : List ℕ). b.0.0 ∷ l) third) in
    let spelled : ws ≡ a.0.0 ∷ b.0.0 ∷ d.0.0 ∷ (leaves_words q.leaves ++ rest) = heads ∙ ap (λ (l : List ℕ). a.0.0 ∷ b.0.0 ∷ d.0.0 ∷ l) q.words_are in
    record {
      signature = record { class = a.0.0; refer = d.0.0; leaves = q.leaves };
      fits = record {
        headed = subst (λ (n : ℕ). IsTrue (head_fits a.0.0 n d.0.0)) (sym q.number) g.0;
        leaved = subst (λ (n : ℕ). LeavesFit n d.0.0 0 q.leaves) (sym q.number) q.fit;
      };
      words_are = spelled ∙ ap (λ (n : ℕ). a.0.0 ∷ n ∷ d.0.0 ∷ (leaves_words q.leaves ++ rest)) (sym q.number);
    }

signature_again : (g : TableSignature) (rest : List ℕ) → IsSignature g → signature_from (signature_words g ++ rest) ≡ Some rest
unfolding signature_from
signature_again g rest h = rw h.headed (leaves_again g.leaves (length g.leaves) g.refer 0 rest h.leaved)

-- ---- tables

pub no_words : (ws : List ℕ) → ws ≡ [] → IsTable ws
no_words ws e = record { signatures = []; fit = tt; spelled = e }

pub table_goes : (ws rest : List ℕ) → signature_from ws ≡ Some rest → IsTable rest → IsTable ws
table_goes ws rest e t =
    let p = signature_takes ws rest e in
    record {
      signatures = p.signature ∷ t.signatures;
      fit = (p.fits, t.fit);
      spelled = p.words_are ∙ ap (λ (l : List ℕ). signature_words p.signature ++ l) t.spelled;
    }

nothing_read : (rest : List ℕ) → signature_from [] ≡ Some rest → ⊥
unfolding signature_from
nothing_read rest e = absurd cc

back : (gs : List TableSignature) (ws rest : List ℕ) → AreSignatures gs → ws ≡ table_words gs → signature_from ws ≡ Some rest → IsTable rest
back [] ws rest h e r = absurd (nothing_read rest (subst (λ (l : List ℕ). signature_from l ≡ Some rest) e r))
back (g ∷ gs) ws rest h e r =
    let again = signature_again g (table_words gs) h.0 in
    let same : given (table_words gs) ≡ given rest = sym again ∙ ap signature_from (sym e) ∙ r in
    record { signatures = gs; fit = h.1; spelled = sym (some_is (table_words gs) rest same) }

pub table_back : (ws rest : List ℕ) → signature_from ws ≡ Some rest → IsTable ws → IsTable rest
table_back ws rest e t = back t.signatures ws rest t.fit t.spelled e

stuck : (gs : List TableSignature) (ws : List ℕ) → AreSignatures gs → ws ≡ table_words gs → signature_from ws ≡ None → ws ≡ []
stuck [] ws h e r = e
stuck (g ∷ gs) ws h e r =
    let again = signature_again g (table_words gs) h.0 in
    let same : given (table_words gs) ≡ None = sym again ∙ ap signature_from (sym e) ∙ r in
    absurd cc

pub table_stuck : (ws : List ℕ) → signature_from ws ≡ None → IsTable ws → ws ≡ []
table_stuck ws e t = stuck t.signatures ws t.fit t.spelled e

pub table_shorter : (ws rest : List ℕ) → signature_from ws ≡ Some rest → length rest < length ws
table_shorter ws rest e =
    let p = signature_takes ws rest e in
    let n = ap length p.words_are in
    omega (arith, n, length-append (leaves_words p.signature.leaves) rest)
