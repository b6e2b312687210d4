-- What is read from the words of signatures are these signatures.
use Rattle.std.proofs.Common.{◌≡◌, ℕ, zero, suc, ◌+◌, ◌*◌, ◌<◌, ◌≤◌, List, [], ◌∷◌, ◌++◌, length, map, drop, Bool, true, false, cond, Some, None, refl, ap, sym, ◌∙◌, arith, append_assoc, eqb, get_or, length-drop}
use Rattle.std.specs.Prelude.{IsTrue, nat_le, ◌&&◌, ◌||◌, min, option_map, is_some}
use Rattle.std.proofs.lemmas.List.{append-nil}
use Rattle.std.proofs.lemmas.Bool.{leb-true}
use Rattle.std.proofs.lemmas.Bool.Decides.{nat_tests}
use Rattle.rv_meaning.specs.declared.image.TableKind.{TableKind}
use Rattle.rv_meaning.specs.declared.image.TableKind.TheVariants as K
use Rattle.rv_meaning.specs.Tables.{Pair, TableLeaf, TableSignature, kind_number, pairs_words, leaf_words, leaves_words, signature_words, table_words, size_fits, run_time_size, LeavesFit, IsSignature, AreSignatures}
use Rattle.pli_types.specs.Templates.{OpenCharacter, OpenVarying, OpenFixed, OpenLeaf, Template}
use Rattle.pli_serving.specs.Templates as T
use Rattle.pli_signatures.specs.Reading.{length_read, kind_read, pairs_read, leaf_read, behind_leaf, leaves_read, behind_leaves, signature_read, behind_signature}

-- ---- pairs

pairs_again : (r : Bool) (ps : List Pair) (rest : List ℕ) → pairs_read r (length ps) (pairs_words ps ++ rest) ≡ map (T.pair_of r) ps
pairs_again r [] rest = refl
pairs_again r (p ∷ ps) rest = ap (λ l. T.pair_of r p ∷ l) (pairs_again r ps rest)

behind_pairs : (ps : List Pair) (rest : List ℕ) → drop (2 * length ps) (pairs_words ps ++ rest) ≡ rest
behind_pairs [] rest = refl
behind_pairs (p ∷ ps) rest =
    let twice : 2 * suc (length ps) ≡ suc (suc (2 * length ps)) = omega arith in
    ap (λ n. drop n (p.lower ∷ p.upper ∷ (pairs_words ps ++ rest))) twice ∙ behind_pairs ps rest

-- ---- kinds

both : (a b : Bool) → (a && b) ≡ true → (a ≡ true) × (b ≡ true)
both true b e = (refl, e)
both false b e = absurd cc

capped_open : (r t : Bool) (n : ℕ) → (nat_le n 1024 || t) ≡ true
    → option_map (λ size. min size 1024) (cond t (cond r (Some 0) None) (Some n)) ≡ cond t (cond r (Some 0) None) (Some n)
capped_open true true n h = refl
capped_open false true n h = refl
capped_open r false n h = go (nat_le n 1024) refl h
  where
    go : (t : Bool) → nat_le n 1024 ≡ t → (t || false) ≡ true → option_map (λ size. min size 1024) (Some n) ≡ Some n
    go true e h = let le = leb-true n 1024 e in let m : min n 1024 ≡ n = omega (arith, le) in ap (λ k. Some k) m
    go false e h = absurd cc

length_again : (r : Bool) (n : ℕ) → (nat_le n 1024 || eqb n run_time_size) ≡ true → length_read r n ≡ T.size_of r n
length_again r n h = capped_open r (eqb n run_time_size) n h

kind_again : (r : Bool) (k : TableKind) (n : ℕ) → IsTrue (size_fits k n) → kind_read r (kind_number k) n ≡ T.kind_of r k n
kind_again r K.Fixed n h =
    let le = leb-true n 31 ((both (nat_le 1 n) (nat_le n 31) h).1) in
    let m : min n 31 ≡ n = omega (arith, le) in
    ap (λ k. OpenFixed k) m
kind_again r K.Character n h = ap (λ s. OpenCharacter s) (length_again r n h)
kind_again r K.Varying n h = ap (λ s. OpenVarying s) (length_again r n h)
kind_again r K.Bit n h = refl
kind_again r K.Pointer n h = refl
kind_again r K.Offset n h = refl
kind_again r K.Area n h = refl

-- ---- leaves

leaf_again : (r : Bool) (l : TableLeaf) (rest : List ℕ) → IsTrue (size_fits l.kind l.size) → leaf_read r (leaf_words l ++ rest) ≡ T.leaf_of r l
leaf_again r l rest h = rw (kind_again r l.kind l.size h, pairs_again r l.pairs rest) refl

behind_leaf_again : (l : TableLeaf) (rest : List ℕ) → behind_leaf (leaf_words l ++ rest) ≡ rest
behind_leaf_again l rest =
    let three : 3 + 2 * length l.pairs ≡ suc (suc (suc (2 * length l.pairs))) = omega arith in
    ap (λ n. drop n (leaf_words l ++ rest)) three ∙ behind_pairs l.pairs rest

and_true : (r : Bool) → (r && true) ≡ r
and_true true = refl
and_true false = refl

and_false : (r : Bool) → (r && false) ≡ false
and_false true = refl
and_false false = refl

more_behind : (n : ℕ) → eqb (suc n) 0 ≡ false
more_behind n = grind (arith, nat_tests)

leaves_again : (r : Bool) (count refer place : ℕ) (ls : List TableLeaf) (rest : List ℕ) → LeavesFit count refer place ls → leaves_read r (length ls) (leaves_words ls ++ rest) ≡ T.leaves_of r ls
leaves_again r count refer place [] rest h = refl
leaves_again r count refer place (l ∷ []) rest h =
    ap (λ ws. leaf_read (r && true) ws ∷ []) (append_assoc (leaf_words l) [] rest)
    ∙ ap (λ b. leaf_read b (leaf_words l ++ rest) ∷ []) (and_true r)
    ∙ ap (λ x. x ∷ []) (leaf_again r l rest h.0.sized)
leaves_again r count refer place (l ∷ m ∷ ls) rest h =
    let ms = leaves_words (m ∷ ls) ++ rest in
    let n = length (m ∷ ls) in
    let first : OpenLeaf = T.leaf_of false l in
    let words : leaves_words (l ∷ m ∷ ls) ++ rest ≡ leaf_words l ++ ms = append_assoc (leaf_words l) (leaves_words (m ∷ ls)) rest in
    let read = λ (ws : List ℕ). leaf_read (r && eqb n 0) ws ∷ leaves_read r n (behind_leaf ws) in
    ap read words
    ∙ ap (λ b. leaf_read (r && b) (leaf_words l ++ ms) ∷ leaves_read r n (behind_leaf (leaf_words l ++ ms))) (more_behind (length ls))
    ∙ ap (λ b. leaf_read b (leaf_words l ++ ms) ∷ leaves_read r n (behind_leaf (leaf_words l ++ ms))) (and_false r)
    ∙ ap (λ x. x ∷ leaves_read r n (behind_leaf (leaf_words l ++ ms))) (leaf_again false l ms h.0.sized)
    ∙ ap (λ ws. first ∷ leaves_read r n ws) (behind_leaf_again l ms)
    ∙ ap (λ xs. first ∷ xs) (leaves_again r count refer (suc place) (m ∷ ls) rest h.1)

behind_leaves_again : (ls : List TableLeaf) (rest : List ℕ) → behind_leaves (length ls) (leaves_words ls ++ rest) ≡ rest
behind_leaves_again [] rest = refl
behind_leaves_again (l ∷ ls) rest =
    ap (λ ws. behind_leaves (length ls) (behind_leaf ws)) (append_assoc (leaf_words l) (leaves_words ls) rest)
    ∙ ap (behind_leaves (length ls)) (behind_leaf_again l (leaves_words ls ++ rest))
    ∙ behind_leaves_again ls rest

-- ---- signatures

signature_again : (g : TableSignature) (rest : List ℕ) → IsSignature g → signature_read (signature_words g ++ rest) ≡ T.template_of g
signature_again g rest h =
    ap (λ ls. record { class = T.class_of g.class; refer = T.refer_of g.refer; leaves = ls })
    (leaves_again (is_some (T.refer_of g.refer)) (length g.leaves) g.refer 0 g.leaves rest h.leaved)

behind_signature_again : (g : TableSignature) (rest : List ℕ) → behind_signature (signature_words g ++ rest) ≡ rest
behind_signature_again g rest = behind_leaves_again g.leaves rest

-- ---- tables

-- what is left of a table that was read up to there
pub record IsLeft (read whole : List Template) (ws : List ℕ) : Type 0 where
  pub signatures : List TableSignature
  pub fit : AreSignatures signatures
  pub spelled : ws ≡ table_words signatures
  pub together : read ++ map T.template_of signatures ≡ whole

pub all_left : (gs : List TableSignature) (ws : List ℕ) → AreSignatures gs → ws ≡ table_words gs → IsLeft [] (map T.template_of gs) ws
all_left gs ws h e = record { signatures = gs; fit = h; spelled = e; together = refl }

-- one more signature is read
go_on : (gs : List TableSignature) (read whole : List Template) (ws rest : List ℕ) (t : Template) → 0 < length ws → AreSignatures gs → ws ≡ table_words gs
    → read ++ map T.template_of gs ≡ whole → t ≡ signature_read ws → rest ≡ behind_signature ws → IsLeft (read ++ t ∷ []) whole rest
go_on [] read whole ws rest t more h e all s b = let none : length ws ≡ 0 = ap length e in absurd (omega (arith, none, more))
go_on (g ∷ gs) read whole ws rest t more h e all s b =
    let it : t ≡ T.template_of g = s ∙ ap signature_read e ∙ signature_again g (table_words gs) h.0 in
    record {
      signatures = gs;
      fit = h.1;
      spelled = b ∙ ap behind_signature e ∙ behind_signature_again g (table_words gs);
      together = append_assoc read (t ∷ []) (map T.template_of gs) ∙ ap (λ (x : Template). read ++ x ∷ map T.template_of gs) it ∙ all;
    }

pub one_more_read : (read whole : List Template) (ws rest : List ℕ) (t : Template) → 0 < length ws → t ≡ signature_read ws → rest ≡ behind_signature ws
    → IsLeft read whole ws → IsLeft (read ++ t ∷ []) whole rest
one_more_read read whole ws rest t more s b l = go_on l.signatures read whole ws rest t more l.fit l.spelled l.together s b

none_left : (gs : List TableSignature) (read whole : List Template) (ws : List ℕ) → length ws ≡ 0 → ws ≡ table_words gs → read ++ map T.template_of gs ≡ whole → read ≡ whole
none_left [] read whole ws n e all = sym (append-nil read) ∙ all
none_left (g ∷ gs) read whole ws n e all = let some = ap length e in absurd (omega (arith, some, n))

pub all_read : (read whole : List Template) (ws : List ℕ) → length ws ≡ 0 → IsLeft read whole ws → read ≡ whole
all_read read whole ws n l = none_left l.signatures read whole ws n l.spelled l.together

-- ---- what is behind is shorter

pub behind_leaves_short : (n : ℕ) (ws : List ℕ) → length (behind_leaves n ws) ≤ length ws
behind_leaves_short zero ws = omega arith
behind_leaves_short (suc n) ws =
    let others = behind_leaves_short n (behind_leaf ws) in
    let first = length-drop (3 + 2 * get_or ws 2 0) ws in
    omega (arith, others, first)

pub behind_signature_short : (ws : List ℕ) → 0 < length ws → length (behind_signature ws) < length ws
behind_signature_short ws more =
    let leaves = behind_leaves_short (get_or ws 1 0) (drop 3 ws) in
    let head = length-drop 3 ws in
    omega (arith, leaves, head, more)
