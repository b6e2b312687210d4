-- Service 8: the shape of an item in static data is read as it was written, and its elements are the part's.
use Rattle.std.proofs.Common.{◌≡◌, ℕ, zero, suc, ◌+◌, ◌*◌, ◌≤◌, List, [], ◌∷◌, ◌++◌, length, map, Option}
use Rattle.std.proofs.Common.{Some, None, true}
use Rattle.std.proofs.Common.{false, refl, sym, ap, ◌∙◌, subst, arith}
use Rattle.std.specs.Prelude.{ℤ, cond, nat_lt, nat_le, ⊤}
use Rattle.std.specs.List.{flat_map}
use Rattle.std.proofs.lemmas.Bool.Decides.{nat_tests}
use Rattle.std.proofs.lemmas.List.{append-nil, append_assoc}
use Rattle.std.proofs.Math.Path.{fun_ext}
use Rattle.rv_meaning.specs.Memory.{bytes_of_word, bytes_of_words}
use Rattle.pli_typing.specs.Signatures.{Leaf}
use Rattle.pli_typing.specs.TypedTree as Y
use Rattle.pli_meaning.specs.StreamOrder.{Nest, NoNest, NestOf, nest_of, deeper, behind_deeper, leaves_inside}
use Rattle.pli_meaning.specs.StreamOrder.{with_more}
use Rattle.pli_meaning.specs.StreamOrder.{bounds_of_leaf, Element, elements_inside}
use Rattle.pli_serving.specs.Bytes.{is_data, word_at}
use Rattle.pli_serving.specs.ElementService.{members_at, member_before, member_then, member_if}
use Rattle.pli_serving.specs.ElementService.{item_shape_of}
use Rattle.pli_serving.specs.ElementService.{item_shape_at, elements_by, MemberReader, ItemShape}
use Rattle.pli_serving.specs.Aggregates.{Aggregate, subscripts_given}
use Rattle.pli_meaning.specs.Contents.{leaves_with}
use Rattle.pli_serving.specs.Finding.{Call}
use Rattle.pli_serving.specs.Outcomes.{then_found}
use Rattle.pli_coding.specs.StaticForms.{nests_beside, nest_words, part_words, part_in, shape_datum, words_datum}
use Rattle.pli_coding.specs.StaticForms.{words_or_none}
use Rattle.storage_relation.specs.Beginning.{HasBytes}
use Rattle.storage_relation.specs.ItemShapes.{AreWords, members_of, part_nest, part_shape, shape_words}
use Rattle.storage_relation.proofs.InitialItems.{data_there, front, back, word_there}

-- ---- words

words_joined : (xs ys : List ℕ) → bytes_of_words (xs ++ ys) ≡ bytes_of_words xs ++ bytes_of_words ys
words_joined [] ys = refl
words_joined (x ∷ xs) ys =
    ap (λ u. bytes_of_word x ++ u) (words_joined xs ys)

words_long : (ws : List ℕ) → length (bytes_of_words ws) ≡ 4 * length ws
words_long [] = refl
words_long (w ∷ ws) = let e = words_long ws in omega (arith, e)

words_front : (xs ys : List ℕ) → AreWords (xs ++ ys) → AreWords xs
words_front [] ys w = tt
words_front (x ∷ xs) ys w = (w.0, words_front xs ys w.1)

words_back : (xs ys : List ℕ) → AreWords (xs ++ ys) → AreWords ys
words_back [] ys w = w
words_back (x ∷ xs) ys w = words_back xs ys w.1

length_both : (xs ys : List ℕ) → length (xs ++ ys) ≡ length xs + length ys
length_both [] ys = omega arith
length_both (x ∷ xs) ys = let e = length_both xs ys in omega (arith, e)

-- ---- a nest by its words

-- the leaf behind a member
abbrev leaf_behind : (leaf : ℕ) → Nest → ℕ
leaf_behind leaf NoNest = suc leaf
leaf_behind leaf (NestOf e more inside next) = leaves_inside (NestOf e more inside next) + leaf

nest_is :
    (leaf d dimensions : ℕ) (inside behind : Nest) →
    nest_words leaf (NestOf d dimensions inside behind)
    ≡ dimensions ∷ nests_beside inside ∷ leaf ∷ (nest_words leaf inside ++ nest_words (leaf_behind leaf inside) behind)
nest_is leaf d dimensions NoNest behind = refl
nest_is leaf d dimensions (NestOf e more inside next) behind = refl

-- how many members a nest has
abbrev nodes : Nest → ℕ
nodes NoNest = 0
nodes (NestOf d dimensions inside behind) = suc (nodes inside + nodes behind)

nodes_few : (leaf : ℕ) (n : Nest) → 3 * nodes n ≤ length (nest_words leaf n)
nodes_few leaf NoNest = omega arith
nodes_few leaf (NestOf d dimensions inside behind) =
    let i = nodes_few leaf inside in
    let b = nodes_few (leaf_behind leaf inside) behind in
    let l = length_both (nest_words leaf inside) (nest_words (leaf_behind leaf inside) behind) in
    let e = ap length (nest_is leaf d dimensions inside behind) in
    omega (arith, i, b, l, e)

members_read :
    (c : Call) (n : Nest) (most depth leaf at : ℕ) → nodes n ≤ most → AreWords (nest_words leaf n) →
    HasBytes c at (bytes_of_words (nest_words leaf n)) →
    members_at most c (nests_beside n) depth at
    ≡ Some (record { members = members_of depth n; behind = at + 4 * length (nest_words leaf n) })
members_read c NoNest most depth leaf at few words has =
    let z : at ≡ at + 4 * 0 = omega arith in
    ap (λ b. Some (record { members = []; behind = b })) z
members_read c (NestOf d dimensions inside behind) zero depth leaf at few words has = absurd (omega (arith, few))
members_read c (NestOf d dimensions inside behind) (suc most) depth leaf at few words has =
    ap (λ q. member_if q depth (word_at at c.memory) (word_at (at + 4) c.memory) (at + 12) (nests_beside behind) read)
    there
    ∙ ap (λ w. member_then depth w (nests_beside behind) (read (word_at (at + 4) c.memory) (suc depth) (at + 12)) read)
    first.0
    ∙ ap (λ w. member_then depth dimensions (nests_beside behind) (read w (suc depth) (at + 12)) read) second.0
    ∙ ap (λ o. member_then depth dimensions (nests_beside behind) o read)
    (members_read c inside most (suc depth) leaf (at + 12) (omega (arith, few))
    (words_front inner outer own.1.1.1) (front c (at + 12) (bytes_of_words inner) (bytes_of_words outer) both))
    ∙ ap (member_before depth dimensions (members_of (suc depth) inside))
    (members_read c behind most depth (leaf_behind leaf inside) (at + 12 + 4 * length inner) (omega (arith, few))
    (words_back inner outer own.1.1.1) rest)
    ∙ ap (λ b. Some (record {
      members = record { depth = depth; dimensions = dimensions } ∷ members_of (suc depth) inside
          ++ members_of depth behind;
      behind = b;
    })) long
  where
    read : MemberReader
    read count depth behind = members_at most c count depth behind

    inner : List ℕ
    inner = nest_words leaf inside

    outer : List ℕ
    outer = nest_words (leaf_behind leaf inside) behind

    whole : List ℕ
    whole = dimensions ∷ nests_beside inside ∷ leaf ∷ (inner ++ outer)

    own : AreWords whole
    own = subst AreWords (nest_is leaf d dimensions inside behind) words

    stands : HasBytes c at (bytes_of_words whole)
    stands = subst (λ ws. HasBytes c at (bytes_of_words ws)) (nest_is leaf d dimensions inside behind) has

    first : (word_at at c.memory ≡ dimensions)
        × HasBytes c (at + 4) (bytes_of_words (nests_beside inside ∷ leaf ∷ (inner ++ outer)))
    first = word_there c at dimensions (bytes_of_words (nests_beside inside ∷ leaf ∷ (inner ++ outer))) own.0 stands

    second : (word_at (at + 4) c.memory ≡ nests_beside inside)
        × HasBytes c (at + 4 + 4) (bytes_of_words (leaf ∷ (inner ++ outer)))
    second = word_there c (at + 4) (nests_beside inside) (bytes_of_words (leaf ∷ (inner ++ outer))) own.1.0 first.1

    third : (word_at (at + 4 + 4) c.memory ≡ leaf) × HasBytes c (at + 4 + 4 + 4) (bytes_of_words (inner ++ outer))
    third = word_there c (at + 4 + 4) leaf (bytes_of_words (inner ++ outer)) own.1.1.0 second.1

    both : HasBytes c (at + 12) (bytes_of_words inner ++ bytes_of_words outer)
    both =
        let e : at + 4 + 4 + 4 ≡ at + 12 = omega arith in
        subst (λ p. HasBytes c p (bytes_of_words inner ++ bytes_of_words outer)) e
        (subst (HasBytes c (at + 4 + 4 + 4)) (words_joined inner outer) third.1)

    rest : HasBytes c (at + 12 + 4 * length inner) (bytes_of_words outer)
    rest =
        subst (λ k. HasBytes c (at + 12 + k) (bytes_of_words outer)) (words_long inner)
        (back c (at + 12) (bytes_of_words inner) (bytes_of_words outer) both)

    there : is_data c.layout at 12 ≡ true
    there =
        let high = stands.high in
        let l = words_long whole in
        data_there c at 12 stands.low (omega (arith, high, l))

    long :
        at + 12 + 4 * length inner + 4 * length outer ≡ at + 4 * length
        (nest_words leaf (NestOf d dimensions inside behind))
    long =
        let e = ap length (nest_is leaf d dimensions inside behind) in
        let b = length_both inner outer in
        omega (arith, e, b)

-- ---- the shape

pub shape_read :
    (c : Call) (at given dimensions leaf : ℕ) (inside : Nest) → AreWords (shape_words given dimensions leaf inside) →
    HasBytes c at (bytes_of_words (shape_words given dimensions leaf inside)) →
    item_shape_at c at ≡ Some (part_shape given dimensions leaf inside)
shape_read c at given dimensions leaf inside words has =
    ap (λ q. cond q (item_shape_of c at (members_at c.layout.end c 1 0 (at + 4))) None') there
    ∙ ap (item_shape_of c at)
    (members_read c (part_nest dimensions inside) c.layout.end 0 leaf (at + 4) enough own more)
    ∙ ap (λ w. Some (record { given = w; first = word_at (at + 12) c.memory; members = ms })) first.0
    ∙ ap (λ w. Some (record { given = given; first = w; members = ms })) leaf_there
  where
    None' : Option ItemShape
    None' = None

    ms : List Y.Member
    ms = members_of 0 (part_nest dimensions inside)

    same : part_words dimensions leaf inside ≡ nest_words leaf (part_nest dimensions inside)
    same = by inside
      where
        by : (n : Nest) → part_words dimensions leaf n ≡ nest_words leaf (part_nest dimensions n)
        by NoNest = refl
        by (NestOf e more inner next) = ap (λ u. dimensions ∷ suc (nests_beside next) ∷ leaf ∷ u)
            (sym (append-nil (nest_words leaf (NestOf e more inner next))))

    first : (word_at at c.memory ≡ given) × HasBytes c (at + 4) (bytes_of_words (part_words dimensions leaf inside))
    first = word_there c at given (bytes_of_words (part_words dimensions leaf inside)) words.0 has

    own : AreWords (nest_words leaf (part_nest dimensions inside))
    own = subst AreWords same words.1

    more : HasBytes c (at + 4) (bytes_of_words (nest_words leaf (part_nest dimensions inside)))
    more = subst (λ ws. HasBytes c (at + 4) (bytes_of_words ws)) same first.1

    second : (word_at (at + 4) c.memory ≡ dimensions)
        × HasBytes c (at + 4 + 4) (bytes_of_words (nests_beside inside ∷ leaf ∷ nest_words leaf inside))
    second =
        word_there c (at + 4) dimensions (bytes_of_words (nests_beside inside ∷ leaf ∷ nest_words leaf inside))
        words.1.0
        first.1

    third : (word_at (at + 4 + 4) c.memory ≡ nests_beside inside)
        × HasBytes c (at + 4 + 4 + 4) (bytes_of_words (leaf ∷ nest_words leaf inside))
    third =
        word_there c (at + 4 + 4) (nests_beside inside) (bytes_of_words (leaf ∷ nest_words leaf inside)) words.1.1.0
        second.1

    fourth :
        (word_at (at + 4 + 4 + 4) c.memory ≡ leaf) × HasBytes c (at + 4 + 4 + 4 + 4)
        (bytes_of_words (nest_words leaf inside))
    fourth = word_there c (at + 4 + 4 + 4) leaf (bytes_of_words (nest_words leaf inside)) words.1.1.1.0 third.1

    leaf_there : word_at (at + 12) c.memory ≡ leaf
    leaf_there =
        let e : at + 12 ≡ at + 4 + 4 + 4 = omega arith in
        ap (λ p. word_at p c.memory) e ∙ fourth.0

    there : is_data c.layout at 16 ≡ true
    there =
        let high = has.high in
        let l = words_long (shape_words given dimensions leaf inside) in
        data_there c at 16 has.low (omega (arith, high, l))

    enough : nodes (part_nest dimensions inside) ≤ c.layout.end
    enough =
        let few = nodes_few leaf (part_nest dimensions inside) in
        let high = more.high in
        let l = words_long (nest_words leaf (part_nest dimensions inside)) in
        omega (arith, few, high, l)

-- ---- the nest of its members

-- members by where they stand, whatever their depths were
abbrev numbered : (depth : ℕ) → Nest → Nest
numbered depth NoNest = NoNest
numbered depth (NestOf d dimensions inside behind) =
    NestOf depth dimensions (numbered (suc depth) inside) (numbered depth behind)

abbrev joined : Nest → Nest → Nest
joined NoNest m = m
joined (NestOf d dimensions inside behind) m = NestOf d dimensions inside (joined behind m)

abbrev IsShallow : ℕ → Nest → Type 0
IsShallow depth NoNest = ⊤
IsShallow depth (NestOf d dimensions inside behind) = d ≤ depth

deeper_test : (e : ℕ) → nat_lt e (suc e) ≡ true
deeper_test e = grind (arith, nat_tests)

shallow_test : (e d : ℕ) → d ≤ e → nat_lt e d ≡ false
shallow_test e d h = grind (arith, nat_tests)

deeper_joined :
    (n : Nest) (e : ℕ) (m : Nest) → IsShallow e m → deeper e (joined (numbered (suc e) n) m) ≡ numbered (suc e) n
deeper_joined NoNest e NoNest s = refl
deeper_joined NoNest e (NestOf d x i b) s = ap (λ q. cond q (NestOf d x i (deeper e b)) NoNest) (shallow_test e d s)
deeper_joined (NestOf d x i b) e m s =
    ap (λ q. cond q (NestOf (suc e) x (numbered (suc (suc e)) i) (deeper e (joined (numbered (suc e) b) m))) NoNest)
    (deeper_test e)
    ∙ ap (NestOf (suc e) x (numbered (suc (suc e)) i)) (deeper_joined b e m s)

behind_joined : (n : Nest) (e : ℕ) (m : Nest) → IsShallow e m → behind_deeper e (joined (numbered (suc e) n) m) ≡ m
behind_joined NoNest e NoNest s = refl
behind_joined NoNest e (NestOf d x i b) s = ap (λ q. cond q (behind_deeper e b) (NestOf d x i b)) (shallow_test e d s)
behind_joined (NestOf d x i b) e m s =
    ap (λ q. cond q (behind_deeper e (joined (numbered (suc e) b) m))
    (NestOf (suc e) x (numbered (suc (suc e)) i) (joined (numbered (suc e) b) m))) (deeper_test e)
    ∙ behind_joined b e m s

shallow_joined : (n : Nest) (e : ℕ) (m : Nest) → IsShallow e m → IsShallow e (joined (numbered e n) m)
shallow_joined NoNest e m s = s
shallow_joined (NestOf d x i b) e m s = omega arith

shallow_more : (e : ℕ) (m : Nest) → IsShallow e m → IsShallow (suc e) m
shallow_more e NoNest s = tt
shallow_more e (NestOf d x i b) s = omega (arith, s)

nest_joined :
    (n : Nest) (e : ℕ) (ms : List Y.Member) → IsShallow e (nest_of ms) →
    nest_of (members_of e n ++ ms) ≡ joined (numbered e n) (nest_of ms)
nest_joined NoNest e ms s = refl
nest_joined (NestOf d x i b) e ms s =
    let rest = nest_of (members_of e b ++ ms) in
    let outer : nest_of (members_of e b ++ ms) ≡ joined (numbered e b) (nest_of ms) = nest_joined b e ms s in
    let shallow : IsShallow e (nest_of (members_of e b ++ ms)) =
    subst (IsShallow e) (sym outer) (shallow_joined b e (nest_of ms) s) in
    let whole :
    nest_of (members_of (suc e) i ++ (members_of e b ++ ms))
    ≡ joined (numbered (suc e) i) (nest_of (members_of e b ++ ms)) =
    nest_joined i (suc e) (members_of e b ++ ms) (shallow_more e (nest_of (members_of e b ++ ms)) shallow) in
    ap (λ us. nest_of (record { depth = e; dimensions = x } ∷ us))
    (append_assoc (members_of (suc e) i) (members_of e b) ms)
    ∙ ap (λ z. NestOf e x (deeper e z) (behind_deeper e z)) whole
    ∙ ap (λ u. NestOf e x u (behind_deeper e (joined (numbered (suc e) i) rest))) (deeper_joined i e rest shallow)
    ∙ ap (NestOf e x (numbered (suc e) i)) (behind_joined i e rest shallow ∙ outer)

joined_none : (n : Nest) → joined n NoNest ≡ n
joined_none NoNest = refl
joined_none (NestOf d x i b) = ap (NestOf d x i) (joined_none b)

nest_back : (n : Nest) → nest_of (members_of 0 n) ≡ numbered 0 n
nest_back n =
    ap nest_of (sym (append-nil (members_of 0 n))) ∙ nest_joined n 0 [] tt ∙ joined_none (numbered 0 n)

-- ---- elements

same_leaves : (n : Nest) (e : ℕ) → leaves_inside (numbered e n) ≡ leaves_inside n
same_leaves NoNest e = refl
same_leaves (NestOf d x NoNest b) e = ap (λ k. 1 + k) (same_leaves b e)
same_leaves (NestOf d x (NestOf f y i c) b) e =
    ap (λ k. k + leaves_inside (numbered e b)) (same_leaves (NestOf f y i c) (suc e))
    ∙ ap (λ k. leaves_inside (NestOf f y i c) + k) (same_leaves b e)

same_elements :
    (n : Nest) (e leaf : ℕ) (leaves : List Leaf) (is : List ℤ) →
    elements_inside (numbered e n) leaf leaves is ≡ elements_inside n leaf leaves is
same_elements NoNest e leaf leaves is = refl
same_elements (NestOf d x NoNest b) e leaf leaves is =
    ap (λ es. map (λ js. one js) (with_more x (bounds_of_leaf leaves leaf) is) ++ es)
    (same_elements b e (1 + leaf) leaves is)
  where
    one : List ℤ → Element
    one js = (leaf, js)
same_elements (NestOf d x (NestOf f y i c) b) e leaf leaves is =
    ap (λ g. flat_map g (with_more x (bounds_of_leaf leaves leaf) is)
    ++ elements_inside (numbered e b) (behind k) leaves is)
    (fun_ext (λ js. same_elements (NestOf f y i c) (suc e) leaf leaves js))
    ∙ ap (λ n. flat_map inner (with_more x (bounds_of_leaf leaves leaf) is)
    ++ elements_inside (numbered e b) (n + leaf) leaves is) (same_leaves (NestOf f y i c) (suc e))
    ∙ ap (λ es. flat_map inner (with_more x (bounds_of_leaf leaves leaf) is) ++ es)
    (same_elements b e (leaves_inside (NestOf f y i c) + leaf) leaves is)
  where
    k : ℕ
    k = leaves_inside (numbered (suc e) (NestOf f y i c))

    behind : ℕ → ℕ
    behind n = n + leaf

    inner : List ℤ → List Element
    inner js = elements_inside (NestOf f y i c) leaf leaves js

-- the elements by such a shape are those of the part by itself
pub shape_elements :
    (c : Call) (a : Aggregate) (given dimensions leaf : ℕ) (inside : Nest) (is : List ℤ) →
    leaf + leaves_inside (part_nest dimensions inside) ≤ length a.shape.signature.leaves →
    subscripts_given a leaf given ≡ Some is →
    elements_by c a (part_shape given dimensions leaf inside)
    ≡ Some (elements_inside (part_nest dimensions inside) leaf (leaves_with a.extent a.shape) is)
shape_elements c a given dimensions leaf inside is room subscripts =
    ap (λ q. cond q (then_found (subscripts_given a leaf given) found) None'') test
    ∙ ap (λ o. then_found o found) subscripts
    ∙ ap Some (ap (λ n. elements_inside n leaf (leaves_with a.extent a.shape) is)
    (nest_back (part_nest dimensions inside))
    ∙ same_elements (part_nest dimensions inside) 0 leaf (leaves_with a.extent a.shape) is)
  where
    found : List ℤ → Option (List Element)
    found js =
        Some (elements_inside (nest_of (members_of 0 (part_nest dimensions inside))) leaf
        (leaves_with a.extent a.shape) js)

    None'' : Option (List Element)
    None'' = None

    small : (m n : ℕ) → m ≤ n → nat_le m n ≡ true
    small m n h = grind (arith, nat_tests)

    test :
        nat_le (leaf + leaves_inside (nest_of (members_of 0 (part_nest dimensions inside))))
        (length a.shape.signature.leaves) ≡ true
    test =
        let e = ap leaves_inside (nest_back (part_nest dimensions inside))
        ∙ same_leaves (part_nest dimensions inside) 0 in
        small (leaf + leaves_inside (nest_of (members_of 0 (part_nest dimensions inside))))
        (length a.shape.signature.leaves) (omega (arith, e, room))

-- ---- the datum

pub datum_is :
    (members : List Y.Member) (p : Y.Part) (given dimensions leaf : ℕ) (inside : Nest) →
    part_in p given 0 0 (nest_of members) ≡ Some (part_words dimensions leaf inside) →
    shape_datum members p given ≡ words_datum (shape_words given dimensions leaf inside)
datum_is members p given dimensions leaf inside e = ap (λ o. words_datum (given ∷ words_or_none o)) e
