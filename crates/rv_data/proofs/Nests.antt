-- Nests of members: what is deeper twice, the words of what stands together, and where a part may stand.
use Rattle.std.proofs.Common.{◌≡◌, ℕ, suc, ◌+◌, ◌-◌, ◌<◌, ◌≤◌, Bool, true, false, ◌&&◌, List, ◌∷◌, ◌++◌, Option, Some, None, refl, sym, ap, ◌∙◌, append_assoc, arith}
use Rattle.std.specs.Prelude.{nat_lt, ◌==◌, if◌then◌else◌}
use Rattle.std.proofs.lemmas.Bool.Decides.{nat_tests}
use Rattle.pli_typing.specs.TypedTree as Y
use Rattle.pli_meaning.specs.StreamOrder.{Nest, NoNest, NestOf, deeper, behind_deeper, leaves_inside}
use Rattle.pli_coding.specs.StaticForms.{is_part, nest_words, nests_beside, or_else, part_in, part_words, words_if}
use Rattle.rv_data.specs.Shapes.{next_leaf, node_leaves}

not_between : (d e f : ℕ) → nat_lt d e ≡ true → nat_lt e f ≡ true → nat_lt d f ≡ false → true ≡ false
not_between d e f p q r = grind (arith, nat_tests)

-- ---- what is deeper than two depths

pub deeper_twice : (d e : ℕ) → nat_lt d e ≡ true → (n : Nest) → deeper e (deeper d n) ≡ deeper e n
deeper_twice d e h NoNest = refl
deeper_twice d e h (NestOf f k inside behind) = by (nat_lt d f) (nat_lt e f) refl refl (deeper_twice d e h behind)
  where
    by : (t u : Bool) → nat_lt d f ≡ t → nat_lt e f ≡ u → deeper e (deeper d behind) ≡ deeper e behind
        → deeper e (if t then NestOf f k inside (deeper d behind) else NoNest) ≡ (if u then NestOf f k inside (deeper e behind) else NoNest)
    by true true p q r = ap (λ x. if x then NestOf f k inside (deeper e (deeper d behind)) else NoNest) q ∙ ap (λ b. NestOf f k inside b) r
    by true false p q r = ap (λ x. if x then NestOf f k inside (deeper e (deeper d behind)) else NoNest) q
    by false true p q r = absurd (cc (not_between d e f h q p))
    by false false p q r = refl

pub behind_of_deeper : (d e : ℕ) → nat_lt d e ≡ true → (n : Nest) → behind_deeper e (deeper d n) ≡ deeper d (behind_deeper e n)
behind_of_deeper d e h NoNest = refl
behind_of_deeper d e h (NestOf f k inside behind) = by (nat_lt d f) (nat_lt e f) refl refl (behind_of_deeper d e h behind)
  where
    by : (t u : Bool) → nat_lt d f ≡ t → nat_lt e f ≡ u → behind_deeper e (deeper d behind) ≡ deeper d (behind_deeper e behind)
        → behind_deeper e (if t then NestOf f k inside (deeper d behind) else NoNest) ≡ deeper d (if u then behind_deeper e behind else NestOf f k inside behind)
    by true true p q r = ap (λ x. if x then behind_deeper e (deeper d behind) else NestOf f k inside (deeper d behind)) q ∙ r
    by true false p q r =
        ap (λ x. if x then behind_deeper e (deeper d behind) else NestOf f k inside (deeper d behind)) q
        ∙ sym (ap (λ x. if x then NestOf f k inside (deeper d behind) else NoNest) p)
    by false true p q r = absurd (cc (not_between d e f h q p))
    by false false p q r = sym (ap (λ x. if x then NestOf f k inside (deeper d behind) else NoNest) p)

pub nothing_deeper : (e : ℕ) (n : Nest) → deeper e n ≡ NoNest → behind_deeper e n ≡ n
nothing_deeper e NoNest h = refl
nothing_deeper e (NestOf f k inside behind) h = by (nat_lt e f) refl h
  where
    by : (t : Bool) → nat_lt e f ≡ t → (if t then NestOf f k inside (deeper e behind) else NoNest) ≡ NoNest
        → (if t then behind_deeper e behind else NestOf f k inside behind) ≡ NestOf f k inside behind
    by true p h = absurd (cc h)
    by false p h = refl

-- ---- the words of members that stand together

from_leaf : (leaf : ℕ) → leaf ≡ 0 + leaf
from_leaf leaf = omega arith

pub words_parted : (d leaf : ℕ) (n : Nest) → nest_words leaf n ≡ nest_words leaf (deeper d n) ++ nest_words (leaves_inside (deeper d n) + leaf) (behind_deeper d n)
words_parted d leaf NoNest = refl
words_parted d leaf (NestOf f k NoNest behind) = by (nat_lt d f) (words_parted d (suc leaf) behind)
  where
    by : (t : Bool) → nest_words (suc leaf) behind ≡ nest_words (suc leaf) (deeper d behind) ++ nest_words (leaves_inside (deeper d behind) + suc leaf) (behind_deeper d behind)
        → nest_words leaf (NestOf f k NoNest behind) ≡ nest_words leaf (if t then NestOf f k NoNest (deeper d behind) else NoNest) ++ nest_words (leaves_inside (if t then NestOf f k NoNest (deeper d behind) else NoNest) + leaf) (if t then behind_deeper d behind else NestOf f k NoNest behind)
    by true r =
        let count : leaves_inside (deeper d behind) + suc leaf ≡ (1 + leaves_inside (deeper d behind)) + leaf = omega arith in
        ap (λ ws. k ∷ 0 ∷ leaf ∷ ws) (r ∙ ap (λ l. nest_words (suc leaf) (deeper d behind) ++ nest_words l (behind_deeper d behind)) count)
    by false r = ap (λ l. nest_words l (NestOf f k NoNest behind)) (from_leaf leaf)
words_parted d leaf (NestOf f k (NestOf g more inside next) behind) =
    by (nat_lt d f) (words_parted d (leaves_inside (NestOf g more inside next) + leaf) behind)
  where
    here : Nest
    here = NestOf g more inside next

    by : (t : Bool) → nest_words (leaves_inside here + leaf) behind ≡ nest_words (leaves_inside here + leaf) (deeper d behind) ++ nest_words (leaves_inside (deeper d behind) + (leaves_inside here + leaf)) (behind_deeper d behind)
        → nest_words leaf (NestOf f k here behind) ≡ nest_words leaf (if t then NestOf f k here (deeper d behind) else NoNest) ++ nest_words (leaves_inside (if t then NestOf f k here (deeper d behind) else NoNest) + leaf) (if t then behind_deeper d behind else NestOf f k here behind)
    by true r =
        let count : leaves_inside (deeper d behind) + (leaves_inside here + leaf) ≡ (leaves_inside here + leaves_inside (deeper d behind)) + leaf = omega arith in
        ap (λ ws. k ∷ nests_beside here ∷ leaf ∷ ws)
        (ap (λ ws. nest_words leaf here ++ ws) (r ∙ ap (λ l. nest_words (leaves_inside here + leaf) (deeper d behind) ++ nest_words l (behind_deeper d behind)) count)
        ∙ sym (append_assoc (nest_words leaf here) (nest_words (leaves_inside here + leaf) (deeper d behind)) (nest_words ((leaves_inside here + leaves_inside (deeper d behind)) + leaf) (behind_deeper d behind))))
    by false r = ap (λ l. nest_words l (NestOf f k here behind)) (from_leaf leaf)

-- a member's own words, and those of what stands in it and behind it
pub first_words : (d leaf : ℕ) (m : Y.Member) (n : Nest) → nat_lt d m.depth ≡ true
    → nest_words leaf (deeper d (NestOf m.depth m.dimensions (deeper m.depth n) (behind_deeper m.depth n)))
    ≡ m.dimensions ∷ nests_beside (deeper m.depth n) ∷ leaf ∷ nest_words (next_leaf leaf (deeper m.depth n)) (deeper d n)
first_words d leaf m n h =
    ap (λ x. nest_words leaf (if x then NestOf m.depth m.dimensions (deeper m.depth n) (deeper d (behind_deeper m.depth n)) else NoNest)) h
    ∙ by (deeper m.depth n) refl
  where
    e : ℕ
    e = m.depth

    by : (inner : Nest) → deeper e n ≡ inner → nest_words leaf (NestOf e m.dimensions inner (deeper d (behind_deeper e n))) ≡ m.dimensions ∷ nests_beside inner ∷ leaf ∷ nest_words (next_leaf leaf inner) (deeper d n)
    by NoNest p = ap (λ b. m.dimensions ∷ 0 ∷ leaf ∷ nest_words (suc leaf) (deeper d b)) (nothing_deeper e n p)
    by (NestOf g more inside next) p =
        let twice : deeper e (deeper d n) ≡ NestOf g more inside next = deeper_twice d e h n ∙ p in
        let parted : nest_words leaf (deeper d n) ≡ nest_words leaf (NestOf g more inside next) ++ nest_words (leaves_inside (NestOf g more inside next) + leaf) (deeper d (behind_deeper e n)) =
        words_parted e leaf (deeper d n)
        ∙ ap (λ x. nest_words leaf x ++ nest_words (leaves_inside x + leaf) (behind_deeper e (deeper d n))) twice
        ∙ ap (λ x. nest_words leaf (NestOf g more inside next) ++ nest_words (leaves_inside (NestOf g more inside next) + leaf) x) (behind_of_deeper d e h n) in
        ap (λ ws. m.dimensions ∷ nests_beside (NestOf g more inside next) ∷ leaf ∷ ws) (sym parted)

-- ---- where a part may stand

pub some_leaves : (d k : ℕ) (inside behind : Nest) → 1 ≤ leaves_inside (NestOf d k inside behind)
some_leaves d k NoNest behind = omega arith
some_leaves d k (NestOf e more inside next) behind =
    let first : 1 ≤ leaves_inside (NestOf e more inside next) = some_leaves e more inside next in
    omega arith

elsewhere : (part : Y.Part) (leaf leaves : ℕ) → (part.first ≡ leaf → true ≡ false) → is_part part leaf leaves ≡ false
elsewhere part leaf leaves h = by (part.first == leaf) refl
  where
    by : (t : Bool) → (part.first == leaf) ≡ t → (t && (part.count == leaves)) ≡ false
    by true p = absurd (cc (h (same part.first leaf p)))
      where
        same : (a b : ℕ) → (a == b) ≡ true → a ≡ b
        same a b e = grind (arith, nat_tests)
    by false p = refl

-- not where all leaves lie behind its first
pub none_behind : (part : Y.Part) (given inherited leaf : ℕ) (n : Nest) → part.first < leaf → part_in part given inherited leaf n ≡ None
none_behind part given inherited leaf NoNest h = refl
none_behind part given inherited leaf (NestOf d k NoNest behind) h =
    let apart : is_part part leaf 1 ≡ false = elsewhere part leaf 1 (λ e. absurd (omega (arith, e, h))) in
    ap (λ t. or_else (words_if t (part_words (inherited + k - given) leaf NoNest)) (part_in part given inherited (suc leaf) behind)) apart
    ∙ none_behind part given inherited (suc leaf) behind (omega arith)
none_behind part given inherited leaf (NestOf d k (NestOf e more inside next) behind) h =
    let count = leaves_inside (NestOf e more inside next) in
    let apart : is_part part leaf count ≡ false = elsewhere part leaf count (λ e. absurd (omega (arith, e, h))) in
    ap (λ o. or_else o (or_else (words_if (is_part part leaf count) (part_words (inherited + k - given) leaf (NestOf e more inside next))) (part_in part given inherited (count + leaf) behind)))
    (none_behind part given (inherited + k) leaf (NestOf e more inside next) h)
    ∙ ap (λ t. or_else (words_if t (part_words (inherited + k - given) leaf (NestOf e more inside next))) (part_in part given inherited (count + leaf) behind)) apart
    ∙ none_behind part given inherited (count + leaf) behind (omega arith)

-- nor where all leaves lie before it
pub none_before : (part : Y.Part) (given inherited leaf : ℕ) (n : Nest) → leaves_inside n + leaf ≤ part.first → part_in part given inherited leaf n ≡ None
none_before part given inherited leaf NoNest h = refl
none_before part given inherited leaf (NestOf d k NoNest behind) h =
    let apart : is_part part leaf 1 ≡ false = elsewhere part leaf 1 (λ e. absurd (omega (arith, e, h))) in
    ap (λ t. or_else (words_if t (part_words (inherited + k - given) leaf NoNest)) (part_in part given inherited (suc leaf) behind)) apart
    ∙ none_before part given inherited (suc leaf) behind (omega arith)
none_before part given inherited leaf (NestOf d k (NestOf e more inside next) behind) h =
    let count = leaves_inside (NestOf e more inside next) in
    let some : 1 ≤ leaves_inside (NestOf e more inside next) = some_leaves e more inside next in
    let apart : is_part part leaf count ≡ false = elsewhere part leaf count (λ e. absurd (omega (arith, e, h, some))) in
    ap (λ o. or_else o (or_else (words_if (is_part part leaf count) (part_words (inherited + k - given) leaf (NestOf e more inside next))) (part_in part given inherited (count + leaf) behind)))
    (none_before part given (inherited + k) leaf (NestOf e more inside next) (omega arith))
    ∙ ap (λ t. or_else (words_if t (part_words (inherited + k - given) leaf (NestOf e more inside next))) (part_in part given inherited (count + leaf) behind)) apart
    ∙ none_before part given inherited (count + leaf) behind (omega arith)

or_assoc : (a b c : Option (List ℕ)) → or_else (or_else a b) c ≡ or_else a (or_else b c)
or_assoc None b c = refl
or_assoc (Some x) b c = refl

or_none : (a : Option (List ℕ)) → or_else a None ≡ a
or_none None = refl
or_none (Some x) = refl

-- past a member whose leaves all lie before it
pub part_behind : (part : Y.Part) (given inherited leaf d k : ℕ) (inner behind : Nest) → node_leaves inner + leaf ≤ part.first
    → part_in part given inherited leaf (NestOf d k inner behind) ≡ part_in part given inherited (node_leaves inner + leaf) behind
part_behind part given inherited leaf d k NoNest behind h =
    let apart : is_part part leaf 1 ≡ false = elsewhere part leaf 1 (λ e. absurd (omega (arith, e, h))) in
    let one : suc leaf ≡ 1 + leaf = omega arith in
    ap (λ t. or_else (words_if t (part_words (inherited + k - given) leaf NoNest)) (part_in part given inherited (suc leaf) behind)) apart
    ∙ ap (λ l. part_in part given inherited l behind) one
part_behind part given inherited leaf d k (NestOf e more inside next) behind h =
    let count = leaves_inside (NestOf e more inside next) in
    let some : 1 ≤ leaves_inside (NestOf e more inside next) = some_leaves e more inside next in
    let apart : is_part part leaf count ≡ false = elsewhere part leaf count (λ e. absurd (omega (arith, e, h, some))) in
    ap (λ o. or_else o (or_else (words_if (is_part part leaf count) (part_words (inherited + k - given) leaf (NestOf e more inside next))) (part_in part given inherited (count + leaf) behind)))
    (none_before part given (inherited + k) leaf (NestOf e more inside next) h)
    ∙ ap (λ t. or_else (words_if t (part_words (inherited + k - given) leaf (NestOf e more inside next))) (part_in part given inherited (count + leaf) behind)) apart

-- in a member that its first leaf is in, or that member itself
pub part_inside : (part : Y.Part) (given inherited leaf d k : ℕ) (inner behind : Nest) (found : Option (List ℕ)) → part.first < node_leaves inner + leaf
    → or_else (part_in part given inherited leaf (NestOf d k inner behind)) found
    ≡ or_else (part_in part given (inherited + k) leaf inner) (or_else (words_if (is_part part leaf (node_leaves inner)) (part_words (inherited + k - given) leaf inner)) found)
part_inside part given inherited leaf d k NoNest behind found h =
    ap (λ o. or_else (or_else (words_if (is_part part leaf 1) (part_words (inherited + k - given) leaf NoNest)) o) found)
    (none_behind part given inherited (suc leaf) behind (omega arith))
    ∙ ap (λ o. or_else o found) (or_none (words_if (is_part part leaf 1) (part_words (inherited + k - given) leaf NoNest)))
part_inside part given inherited leaf d k (NestOf e more inside next) behind found h =
    let count = leaves_inside (NestOf e more inside next) in
    let here = words_if (is_part part leaf count) (part_words (inherited + k - given) leaf (NestOf e more inside next)) in
    let deep = part_in part given (inherited + k) leaf (NestOf e more inside next) in
    ap (λ o. or_else (or_else deep (or_else here o)) found) (none_behind part given inherited (count + leaf) behind h)
    ∙ ap (λ o. or_else (or_else deep o) found) (or_none here)
    ∙ or_assoc deep here found
