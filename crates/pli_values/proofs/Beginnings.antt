-- The data of a generation as it begins, leaf by leaf.
use Rattle.std.proofs.Common.{zero, suc, ◌≡◌, ◌≤◌, ◌<◌, ℕ, ℤ, ◌+◌, ◌*◌, ◌&&◌, ◌==◌, if◌then◌else◌, slice_get, get_or, unwrap_or, length, map, drop, Bool, true, false, Option, Some, None, is_some, List, [], ◌∷◌, ◌++◌, refl, sym, ap, ◌∙◌, arith, append-nil}
use Rattle.std.specs.List.{flat_map}
use Rattle.std.proofs.lemmas.List.{drop_all, length-map}
use Rattle.std.proofs.Math.Nat.{mul-le-mul_left, mul-le-mul_right}
use Rattle.std.proofs.lemmas.Option.{slice_get-get_or, unwrap_or-slice_get}
use Rattle.pli_language.specs.Tree.{InitialItem}
use Rattle.pli_typing.specs.Signatures.{LeafKind, Fixed, Character, Varying, Bit, Pointer, Offset, Area, Bounds, Leaf, capped, element_count, natural, leaf_size, leaves_size}
use Rattle.pli_types.specs.declared.signature.Leaf as P
use Rattle.pli_types.specs.Templates.{bounds_so_far}
use Rattle.pli_types.specs.View.{bounds_of}
use Rattle.pli_meaning.specs.BasicValues.{BasicValue, BasicNumber}
use Rattle.pli_meaning.specs.StreamOrder.{subscripts_of, with_more}
use Rattle.pli_meaning.specs.Contents.{Generation, leaf_refers, last_refers, leaves_refer, same_subscripts, element_place, fresh, initial_at, initial_in, initial_of}
use Rattle.pli_serving.specs.AreaServices.{with_member}
use Rattle.pli_serving.specs.Bytes.{with_bytes}
use Rattle.pli_serving.specs.Finding.{Call}
use Rattle.pli_serving.specs.InitialValues.{Initial, items_from, item_at}
use Rattle.pli_serving.specs.Stored.{kept_value}
use Rattle.pli_serving.specs.Templates.{put_before}
use Rattle.pli_serving.specs.Values.{all_subscripts, element_bytes, element_size, leaf_data, leaves_data}
use Rattle.pli_signatures.specs.Whole.{leaf_told}
use Rattle.pli_meaning.specs.Unreachable.{unreachable_leaf}
use Rattle.pli_values.specs.Beginnings.{generation_of, is_same, items_of, leaf_of, leaves_of, lists_of, shape_of, told_of}
use Rattle.pli_values.specs.Calls.{call_of}
use Rattle.pli_values.specs.LeafLists.{lists_read}
use Rattle.pli_values.specs.Runs.{fresh_leaf}
use Rattle.pli_values.specs.Sizes.{written_size}
use Rattle.pli_values.specs.declared.begun.Begun.{Begun}
use Rattle.pli_values.specs.declared.lists.ItemList.{ItemList}
use Rattle.pli_signatures.proofs.Wholes.{leaf_there, so_far_of}
use Rattle.pli_values.proofs.Elements.{length_element}
use Rattle.pli_values.proofs.Fresh.{number_kept, written_within}
use Rattle.pli_values.proofs.Items.{behind_at}
use Rattle.pli_values.proofs.LeafData.{length_leaf}
use Rattle.pli_values.proofs.LeafLists.{behind_some, leaves_even}
use Rattle.pli_values.proofs.Parts.{next_part, with_none}
use Rattle.pli_values.proofs.LeafRuns.{flat_flat}

-- ---- the items of a leaf

pub lists_even : (c : Call) (ls : List Leaf) (ps : List ItemList) → is_some (lists_read c ls ps) ≡ true → length ps ≡ length ls
lists_even c [] [] h = refl
lists_even c [] (p ∷ ps) h = absurd (cc)
lists_even c (l ∷ ls) [] h = absurd (cc)
lists_even c (l ∷ ls) (p ∷ ps) h = ap suc (lists_even c ls ps (behind_some (items_from c l.kind p.count p.at) (lists_read c ls ps) h))

first_some : (a : Option (List InitialItem)) (rest : Option Initial) → is_some (put_before a rest) ≡ true → is_some a ≡ true
first_some None rest h = absurd (cc)
first_some (Some a) rest h = refl

both_read : (a : Option (List InitialItem)) (rest : Option Initial) → is_some (put_before a rest) ≡ true → unwrap_or (put_before a rest) [] ≡ unwrap_or a [] ∷ unwrap_or rest []
both_read None rest h = absurd (cc)
both_read (Some a) None h = absurd (cc)
both_read (Some a) (Some rest) h = refl

pub list_right : (c : Call) (ls : List Leaf) (ps : List ItemList) (leaf : ℕ) (l : Leaf) (p : ItemList) → slice_get ls leaf ≡ Some l → slice_get ps leaf ≡ Some p → is_some (lists_read c ls ps) ≡ true → is_some (items_from c l.kind p.count p.at) ≡ true
list_right c [] ps leaf l p e f h = absurd (cc)
list_right c (x ∷ ls) [] leaf l p e f h = absurd (cc)
list_right c (x ∷ ls) (q ∷ ps) zero l p e f h =
    let g : l ≡ x = cc in
    let k : p ≡ q = cc in
    ap (λ (y : Leaf). is_some (items_from c y.kind p.count p.at)) g
    ∙ ap (λ (y : ItemList). is_some (items_from c x.kind y.count y.at)) k
    ∙ first_some (items_from c x.kind q.count q.at) (lists_read c ls ps) h
list_right c (x ∷ ls) (q ∷ ps) (suc n) l p e f h =
    list_right c ls ps n l p e f (behind_some (items_from c x.kind q.count q.at) (lists_read c ls ps) h)

pub items_there : (c : Call) (ls : List Leaf) (ps : List ItemList) (leaf : ℕ) (l : Leaf) (p : ItemList) → slice_get ls leaf ≡ Some l → slice_get ps leaf ≡ Some p → is_some (lists_read c ls ps) ≡ true → slice_get (unwrap_or (lists_read c ls ps) []) leaf ≡ Some (unwrap_or (items_from c l.kind p.count p.at) [])
items_there c [] ps leaf l p e f h = absurd (cc)
items_there c (x ∷ ls) [] leaf l p e f h = absurd (cc)
items_there c (x ∷ ls) (q ∷ ps) zero l p e f h =
    let g : x ≡ l = cc in
    let k : q ≡ p = cc in
    ap (λ xs. slice_get xs 0) (both_read (items_from c x.kind q.count q.at) (lists_read c ls ps) h)
    ∙ ap (λ (y : Leaf). Some (unwrap_or (items_from c y.kind q.count q.at) [])) g
    ∙ ap (λ (y : ItemList). Some (unwrap_or (items_from c l.kind y.count y.at) [])) k
items_there c (x ∷ ls) (q ∷ ps) (suc n) l p e f h =
    ap (λ xs. slice_get xs (suc n)) (both_read (items_from c x.kind q.count q.at) (lists_read c ls ps) h)
    ∙ items_there c ls ps n l p e f (behind_some (items_from c x.kind q.count q.at) (lists_read c ls ps) h)

-- a list is right for a text whatever its length
texts_alike : (c : Call) (m n count at : ℕ) → items_from c (Character m) count at ≡ items_from c (Character n) count at
texts_alike c m n zero at = refl
texts_alike c m n (suc count) at = ap (put_before (item_at c (Character n) at)) (texts_alike c m n count (behind_at c at))

refers_alike : (c : Call) (z : ℤ) (kind : LeafKind) (bounds : List Bounds) (count at : ℕ) → items_from c (leaf_refers z kind bounds).kind count at ≡ items_from c kind count at
refers_alike c z kind (b ∷ bs) count at = refl
refers_alike c z (Character n) [] count at = texts_alike c (natural z) n count at
refers_alike c z (Fixed p) [] count at = refl
refers_alike c z (Varying n) [] count at = refl
refers_alike c z Bit [] count at = refl
refers_alike c z Pointer [] count at = refl
refers_alike c z Offset [] count at = refl
refers_alike c z (Area n) [] count at = refl

pub told_alike : (c : Call) (told : Option ℤ) (l : Leaf) (count at : ℕ) → items_from c (leaf_told told l).kind count at ≡ items_from c l.kind count at
told_alike c None l count at = refl
told_alike c (Some z) l count at = refers_alike c z l.kind l.bounds count at

-- ---- the values of a leaf

flat_alike : (f g : List ℤ → List ℕ) (iss : List (List ℤ)) → ((is : List ℤ) → f is ≡ g is) → flat_map f iss ≡ flat_map g iss
flat_alike f g [] e = refl
flat_alike f g (is ∷ iss) e = ap (λ xs. xs ++ flat_map f iss) (e is) ∙ ap (λ xs. g is ++ xs) (flat_alike f g iss e)

initial_there : (ls : List Leaf) (all : Initial) (leaf : ℕ) (l : Leaf) (items : List InitialItem) (is : List ℤ) → slice_get ls leaf ≡ Some l → slice_get all leaf ≡ Some items → initial_of l.kind (initial_at items (element_place l.bounds is)) ≡ initial_in ls all leaf is
initial_there [] all leaf l items is e f = absurd (cc)
initial_there (x ∷ ls) [] leaf l items is e f = absurd (cc)
initial_there (x ∷ ls) (i ∷ all) zero l items is e f =
    let g : l ≡ x = cc in
    let k : items ≡ i = cc in
    ap (λ (y : Leaf). initial_of y.kind (initial_at items (element_place y.bounds is))) g
    ∙ ap (λ (y : List InitialItem). initial_of x.kind (initial_at y (element_place x.bounds is))) k
initial_there (x ∷ ls) (i ∷ all) (suc n) l items is e f = initial_there ls all n l items is e f

pub fresh_there : (ls : List Leaf) (all : Initial) (leaf : ℕ) (l : Leaf) (items left : List InitialItem) → slice_get ls leaf ≡ Some l → slice_get all leaf ≡ Some items → ((n : ℕ) → initial_at left n ≡ initial_at items n) → fresh_leaf l.kind l.bounds left ≡ leaf_data l (initial_in ls all leaf)
fresh_there ls all leaf l items left e f same =
    flat_alike
    (λ is. element_bytes l.kind (initial_of l.kind (initial_at left (element_place l.bounds is))))
    (λ is. element_bytes l.kind (initial_in ls all leaf is))
    (all_subscripts l.bounds)
    (λ is. ap (λ v. element_bytes l.kind (initial_of l.kind v)) (same (element_place l.bounds is)) ∙ ap (element_bytes l.kind) (initial_there ls all leaf l items is e f))

-- ---- the member that keeps an extent

none_and : (b : Bool) → (b && false) ≡ false
none_and true = refl
none_and false = refl

other_leaf : (z : ℤ) (member : Option ℕ) (g : Generation) (leaf : ℕ) (is : List ℤ) → is_same leaf member ≡ false → g.values leaf is ≡ (with_member z member g).values leaf is
other_leaf z None g leaf is e = refl
other_leaf z (Some m) g leaf is e = ap (λ (b : Bool). if b && same_subscripts is [] then BasicNumber z else g.values leaf is) (sym e)

with_subscripts : (z : ℤ) (member : Option ℕ) (g : Generation) (leaf : ℕ) (i : ℤ) (is : List ℤ) → g.values leaf (i ∷ is) ≡ (with_member z member g).values leaf (i ∷ is)
with_subscripts z None g leaf i is = refl
with_subscripts z (Some m) g leaf i is = ap (λ (b : Bool). if b then BasicNumber z else g.values leaf (i ∷ is)) (sym (none_and (leaf == m)))

numbers_alike : (f g : ℤ → List ℕ) (zs : List ℤ) → ((z : ℤ) → f z ≡ g z) → flat_map f zs ≡ flat_map g zs
numbers_alike f g [] e = refl
numbers_alike f g (z ∷ zs) e = ap (λ xs. xs ++ flat_map f zs) (e z) ∙ ap (λ xs. g z ++ xs) (numbers_alike f g zs e)

more_alike : (f g : List ℤ → List ℕ) (n : ℕ) (bounds : List Bounds) (i : ℤ) (is : List ℤ) → ((j : ℤ) (js : List ℤ) → f (j ∷ js) ≡ g (j ∷ js)) → flat_map f (with_more n bounds (i ∷ is)) ≡ flat_map g (with_more n bounds (i ∷ is))
more_alike f g zero bounds i is e = ap (λ xs. xs ++ []) (e i is)
more_alike f g (suc n) bounds i is e =
    let more = λ (j : ℤ). with_more n bounds (i ∷ is ++ j ∷ []) in
    let numbers = subscripts_of (slice_get bounds (length (i ∷ is))) in
    flat_flat more f numbers
    ∙ numbers_alike (λ j. flat_map f (more j)) (λ j. flat_map g (more j)) numbers (λ j. more_alike f g n bounds i (is ++ j ∷ []) e)
    ∙ sym (flat_flat more g numbers)

arrays_alike : (f g : List ℤ → List ℕ) (b : Bounds) (bs : List Bounds) → ((j : ℤ) (js : List ℤ) → f (j ∷ js) ≡ g (j ∷ js)) → flat_map f (all_subscripts (b ∷ bs)) ≡ flat_map g (all_subscripts (b ∷ bs))
arrays_alike f g b bs e =
    let more = λ (j : ℤ). with_more (length bs) (b ∷ bs) (j ∷ []) in
    let numbers = subscripts_of (Some b) in
    flat_flat more f numbers
    ∙ numbers_alike (λ j. flat_map f (more j)) (λ j. flat_map g (more j)) numbers (λ j. more_alike f g (length bs) (b ∷ bs) j [] e)
    ∙ sym (flat_flat more g numbers)

-- a leaf that isn't the member's only element
pub array_kept : (z : ℤ) (member : Option ℕ) (g : Generation) (leaf : ℕ) (kind : LeafKind) (b : Bounds) (bs : List Bounds) → leaf_data (record { kind = kind; bounds = b ∷ bs }) (g.values leaf) ≡ leaf_data (record { kind = kind; bounds = b ∷ bs }) ((with_member z member g).values leaf)
array_kept z member g leaf kind b bs =
    arrays_alike (λ is. element_bytes kind (g.values leaf is)) (λ is. element_bytes kind ((with_member z member g).values leaf is)) b bs
    (λ j js. ap (element_bytes kind) (with_subscripts z member g leaf j js))

pub leaf_kept : (z : ℤ) (member : Option ℕ) (g : Generation) (leaf : ℕ) (l : Leaf) → is_same leaf member ≡ false → leaf_data l (g.values leaf) ≡ leaf_data l ((with_member z member g).values leaf)
leaf_kept z member g leaf l e =
    flat_alike (λ is. element_bytes l.kind (g.values leaf is)) (λ is. element_bytes l.kind ((with_member z member g).values leaf is)) (all_subscripts l.bounds)
    (λ is. ap (element_bytes l.kind) (other_leaf z member g leaf is e))

pub long_kept : (z : ℤ) (member : Option ℕ) (g : Generation) (leaf : ℕ) (l : Leaf) → (length l.bounds ≡ 0 → ⊥) → leaf_data l (g.values leaf) ≡ leaf_data l ((with_member z member g).values leaf)
long_kept z member g leaf l h = go l.kind l.bounds h
  where
    go : (kind : LeafKind) (bounds : List Bounds) → (length bounds ≡ 0 → ⊥) → leaf_data (record { kind = kind; bounds = bounds }) (g.values leaf) ≡ leaf_data (record { kind = kind; bounds = bounds }) ((with_member z member g).values leaf)
    go kind [] h = absurd (h refl)
    go kind (b ∷ bs) h = array_kept z member g leaf kind b bs

-- the member's only element
pub member_data : (z : ℤ) (member : Option ℕ) (g : Generation) (leaf : ℕ) (l : Leaf) → is_same leaf member ≡ true → length l.bounds ≡ 0 → element_bytes l.kind (BasicNumber z) ≡ leaf_data l ((with_member z member g).values leaf)
member_data z member g leaf l e h = go l.kind l.bounds h member e
  where
    go : (kind : LeafKind) (bounds : List Bounds) → length bounds ≡ 0 → (member : Option ℕ) → is_same leaf member ≡ true → element_bytes kind (BasicNumber z) ≡ leaf_data (record { kind = kind; bounds = bounds }) ((with_member z member g).values leaf)
    go kind (b ∷ bs) h member e = absurd (omega (arith, h))
    go kind [] h None e = absurd (cc)
    go kind [] h (Some m) e =
        sym (append-nil (element_bytes kind (BasicNumber z)))
        ∙ ap (λ (b : Bool). element_bytes kind (if b && true then BasicNumber z else g.values leaf []) ++ []) (sym e)

-- ---- the leaves with the REFER extent

last_length : (z : ℤ) (ls : List Leaf) → length (last_refers z ls) ≡ length ls
last_length z [] = refl
last_length z (l ∷ []) = refl
last_length z (l ∷ m ∷ ls) = ap suc (last_length z (m ∷ ls))

refer_length : (z : ℤ) (refer : Option ℕ) (ls : List Leaf) → length (leaves_refer z refer ls) ≡ length ls
refer_length z None ls = refl
refer_length z (Some m) ls = last_length z ls

leaves_count : (b : Begun) → length (leaves_of b) ≡ length b.signature.now.leaves.items
leaves_count b = refer_length b.extent b.signature.now.refer (shape_of b).signature.leaves ∙ leaves_even b.signature.now.leaves.items

pub leaf_known : (b : Begun) (k : ℕ) → k < length b.signature.now.leaves.items → slice_get (leaves_of b) k ≡ Some (leaf_of b k)
leaf_known b k h =
    let n = leaves_count b in
    slice_get-get_or (leaves_of b) k unreachable_leaf (omega (arith, n, h)) ∙ ap (λ l. Some l) (sym (unwrap_or-slice_get (leaves_of b) k unreachable_leaf))

pub no_leaf : (b : Begun) (k : ℕ) → length b.signature.now.leaves.items ≤ k → length (leaves_of b) ≤ k
no_leaf b k h = let n = leaves_count b in omega (arith, n, h)

pub told_leaf : (b : Begun) (k : ℕ) (x : P.Leaf) (told : Option ℤ) → k < length b.signature.now.leaves.items → x ≡ get_or b.signature.now.leaves.items k x → told ≡ told_of b k → leaf_told told (so_far_of x) ≡ leaf_of b k
told_leaf b k x told h e t =
    sym (ap (λ o. unwrap_or o unreachable_leaf) (leaf_there b.extent b.signature.now.refer b.signature.now.leaves.items k x told h e t))

-- a leaf has dimensions whatever REFER tells
told_bounds : (told : Option ℤ) (l : Leaf) → length (leaf_told told l).bounds ≡ length l.bounds
told_bounds None l = refl
told_bounds (Some z) l = go z l.kind l.bounds
  where
    go : (z : ℤ) (kind : LeafKind) (bounds : List Bounds) → length (leaf_refers z kind bounds).bounds ≡ length bounds
    go z kind (b ∷ bs) = refl
    go z (Character n) [] = refl
    go z (Fixed p) [] = refl
    go z (Varying n) [] = refl
    go z Bit [] = refl
    go z Pointer [] = refl
    go z Offset [] = refl
    go z (Area n) [] = refl

pub bounds_known : (b : Begun) (k : ℕ) (x : P.Leaf) → k < length b.signature.now.leaves.items → x ≡ get_or b.signature.now.leaves.items k x → length x.bounds.items ≡ length (leaf_of b k).bounds
bounds_known b k x h e =
    sym (length-map x.bounds.items bounds_of)
    ∙ sym (length-map (map bounds_of x.bounds.items) bounds_so_far)
    ∙ sym (told_bounds (told_of b k) (so_far_of x))
    ∙ ap (λ (l : Leaf). length l.bounds) (told_leaf b k x (told_of b k) h e refl)

-- ---- the lists of leaves

pub list_known : (b : Begun) (k : ℕ) → k < length b.signature.now.leaves.items → is_some (lists_of b) ≡ true → k < length b.lists.now
list_known b k h r =
    let n = lists_even (call_of b.source) (shape_of b).signature.leaves b.lists.now r in
    let m = leaves_even b.signature.now.leaves.items in
    omega (arith, n, m, h)

plain_leaf : (b : Begun) (k : ℕ) (x : P.Leaf) → k < length b.signature.now.leaves.items → x ≡ get_or b.signature.now.leaves.items k x → slice_get (shape_of b).signature.leaves k ≡ Some (so_far_of x)
plain_leaf b k x h e = leaf_there b.extent None b.signature.now.leaves.items k x None h e refl

items_right : (b : Begun) (k : ℕ) (x : P.Leaf) (p : ItemList) (kind : LeafKind) → k < length b.signature.now.leaves.items → x ≡ get_or b.signature.now.leaves.items k x → slice_get b.lists.now k ≡ Some p → is_some (lists_of b) ≡ true → kind ≡ (leaf_of b k).kind
    → items_from (call_of b.source) kind p.count p.at ≡ items_from (call_of b.source) (so_far_of x).kind p.count p.at
items_right b k x p kind h e f r s =
    ap (λ j. items_from (call_of b.source) j p.count p.at) (s ∙ ap (λ (l : Leaf). l.kind) (sym (told_leaf b k x (told_of b k) h e refl)))
    ∙ told_alike (call_of b.source) (told_of b k) (so_far_of x) p.count p.at

items_some : (b : Begun) (k : ℕ) (x : P.Leaf) (p : ItemList) (kind : LeafKind) → k < length b.signature.now.leaves.items → x ≡ get_or b.signature.now.leaves.items k x → slice_get b.lists.now k ≡ Some p → is_some (lists_of b) ≡ true → kind ≡ (leaf_of b k).kind
    → is_some (items_from (call_of b.source) kind p.count p.at) ≡ true
items_some b k x p kind h e f r s =
    ap is_some (items_right b k x p kind h e f r s)
    ∙ list_right (call_of b.source) (shape_of b).signature.leaves b.lists.now k (so_far_of x) p (plain_leaf b k x h e) f r

items_same : (b : Begun) (k : ℕ) (x : P.Leaf) (p : ItemList) (kind : LeafKind) → k < length b.signature.now.leaves.items → x ≡ get_or b.signature.now.leaves.items k x → slice_get b.lists.now k ≡ Some p → is_some (lists_of b) ≡ true → kind ≡ (leaf_of b k).kind
    → unwrap_or (items_from (call_of b.source) kind p.count p.at) [] ≡ items_of b k
items_same b k x p kind h e f r s =
    ap (λ o. unwrap_or o []) (items_right b k x p kind h e f r s)
    ∙ sym (ap (λ o. unwrap_or o []) (items_there (call_of b.source) (shape_of b).signature.leaves b.lists.now k (so_far_of x) p (plain_leaf b k x h e) f r))

some_leaf : (ls : List P.Leaf) (k : ℕ) → k < length ls → (x : P.Leaf) × (x ≡ get_or ls k x)
some_leaf [] k h = absurd (omega (arith, h))
some_leaf (l ∷ ls) zero h = (l, refl)
some_leaf (l ∷ ls) (suc k) h = some_leaf ls k (omega (arith, h))

pub list_some : (b : Begun) (k : ℕ) (p : ItemList) (kind : LeafKind) → k < length b.signature.now.leaves.items → slice_get b.lists.now k ≡ Some p → is_some (lists_of b) ≡ true → kind ≡ (leaf_of b k).kind → is_some (items_from (call_of b.source) kind p.count p.at) ≡ true
list_some b k p kind h f r s = let x = some_leaf b.signature.now.leaves.items k h in items_some b k x.0 p kind h x.1 f r s

pub list_same : (b : Begun) (k : ℕ) (p : ItemList) (kind : LeafKind) → k < length b.signature.now.leaves.items → slice_get b.lists.now k ≡ Some p → is_some (lists_of b) ≡ true → kind ≡ (leaf_of b k).kind → unwrap_or (items_from (call_of b.source) kind p.count p.at) [] ≡ items_of b k
list_same b k p kind h f r s = let x = some_leaf b.signature.now.leaves.items k h in items_same b k x.0 p kind h x.1 f r s

all_even : (c : Call) (ls : List Leaf) (ps : List ItemList) → is_some (lists_read c ls ps) ≡ true → length (unwrap_or (lists_read c ls ps) []) ≡ length ls
all_even c [] [] h = refl
all_even c [] (p ∷ ps) h = absurd (cc)
all_even c (l ∷ ls) [] h = absurd (cc)
all_even c (l ∷ ls) (p ∷ ps) h =
    ap length (both_read (items_from c l.kind p.count p.at) (lists_read c ls ps) h)
    ∙ ap suc (all_even c ls ps (behind_some (items_from c l.kind p.count p.at) (lists_read c ls ps) h))

pub items_known : (b : Begun) (k : ℕ) → k < length b.signature.now.leaves.items → is_some (lists_of b) ≡ true → slice_get (unwrap_or (lists_of b) []) k ≡ Some (items_of b k)
items_known b k h r =
    let n = all_even (call_of b.source) (shape_of b).signature.leaves b.lists.now r in
    let m = leaves_even b.signature.now.leaves.items in
    let all = unwrap_or (lists_of b) [] in
    slice_get-get_or all k [] (omega (arith, n, m, h)) ∙ ap (λ x. Some x) (sym (unwrap_or-slice_get all k []))

-- ---- what is written of a leaf

one_element : (l : Leaf) → length l.bounds ≡ 0 → leaf_size l ≡ element_size l.kind
one_element l h = go l.kind l.bounds h
  where
    go : (kind : LeafKind) (bounds : List Bounds) → length bounds ≡ 0 → leaf_size (record { kind = kind; bounds = bounds }) ≡ element_size kind
    go kind [] h = omega arith
    go kind (b ∷ bs) h = absurd (omega (arith, h))

pub room_for_one : (b : Begun) (k at bytes : ℕ) (kind : LeafKind) → kind ≡ (leaf_of b k).kind → length (leaf_of b k).bounds ≡ 0 → at + leaf_size (leaf_of b k) ≤ bytes → at + element_size kind ≤ bytes
room_for_one b k at bytes kind s z h =
    let e = one_element (leaf_of b k) z ∙ ap element_size (sym s) in
    omega (arith, e, h)

pub member_written : (b : Begun) (k : ℕ) (kind : LeafKind) → kind ≡ (leaf_of b k).kind → is_same k b.member ≡ true → length (leaf_of b k).bounds ≡ 0 → element_bytes kind (kept_value kind (BasicNumber b.extent)) ≡ leaf_data (leaf_of b k) ((generation_of b).values k)
member_written b k kind s m z =
    ap (element_bytes kind) (number_kept kind b.extent)
    ∙ ap (λ j. element_bytes j (BasicNumber b.extent)) s
    ∙ member_data b.extent b.member (fresh (shape_of b) b.extent (unwrap_or (lists_of b) [])) k (leaf_of b k) m z

pub member_length : (b : Begun) (k : ℕ) (kind : LeafKind) → kind ≡ (leaf_of b k).kind → is_same k b.member ≡ true → length (leaf_of b k).bounds ≡ 0 → written_size kind ≡ length (leaf_data (leaf_of b k) ((generation_of b).values k))
member_length b k kind s m z = sym (length_element kind (kept_value kind (BasicNumber b.extent))) ∙ ap length (member_written b k kind s m z)

pub member_within : (b : Begun) (k : ℕ) (kind : LeafKind) → kind ≡ (leaf_of b k).kind → length (leaf_of b k).bounds ≡ 0 → written_size kind ≤ leaf_size (leaf_of b k)
member_within b k kind s z =
    let e = one_element (leaf_of b k) z ∙ ap element_size (sym s) in
    let w = written_within kind in
    omega (arith, e, w)

kept_or_long : (b : Begun) (k : ℕ) → (is_same k b.member && length (leaf_of b k).bounds == 0) ≡ false → leaf_data (leaf_of b k) ((fresh (shape_of b) b.extent (unwrap_or (lists_of b) [])).values k) ≡ leaf_data (leaf_of b k) ((generation_of b).values k)
kept_or_long b k h = go (is_same k b.member) refl
  where
    g : Generation
    g = fresh (shape_of b) b.extent (unwrap_or (lists_of b) [])

    long : (n : ℕ) → (true && n == 0) ≡ false → n ≡ 0 → ⊥
    long zero e z = absurd (cc)
    long (suc n) e z = absurd (omega (arith, z))

    go : (t : Bool) → is_same k b.member ≡ t → leaf_data (leaf_of b k) (g.values k) ≡ leaf_data (leaf_of b k) ((with_member b.extent b.member g).values k)
    go false e = leaf_kept b.extent b.member g k (leaf_of b k) e
    go true e = long_kept b.extent b.member g k (leaf_of b k) (long (length (leaf_of b k).bounds) (ap (λ t. t && length (leaf_of b k).bounds == 0) (sym e) ∙ h))

pub fresh_written : (b : Begun) (k : ℕ) (kind : LeafKind) (left : List InitialItem) → k < length b.signature.now.leaves.items → is_some (lists_of b) ≡ true → kind ≡ (leaf_of b k).kind → (is_same k b.member && length (leaf_of b k).bounds == 0) ≡ false
    → ((n : ℕ) → initial_at left n ≡ initial_at (items_of b k) n) → fresh_leaf kind (leaf_of b k).bounds left ≡ leaf_data (leaf_of b k) ((generation_of b).values k)
fresh_written b k kind left h r s m same =
    ap (λ j. fresh_leaf j (leaf_of b k).bounds left) s
    ∙ fresh_there (leaves_of b) (unwrap_or (lists_of b) []) k (leaf_of b k) (items_of b k) left (leaf_known b k h) (items_known b k h r) same
    ∙ kept_or_long b k m

pub fresh_within : (kind : LeafKind) (l : Leaf) (items : List InitialItem) → kind ≡ l.kind → length (fresh_leaf kind l.bounds items) ≤ leaf_size l
fresh_within kind l items s =
    let e = length_leaf kind l.bounds items in
    let k : element_size kind ≡ element_size l.kind = ap element_size s in
    let w : written_size kind * element_count l.bounds ≤ element_size kind * element_count l.bounds = mul-le-mul_right (element_count l.bounds) (written_within kind) in
    let f : element_size kind * element_count l.bounds ≡ leaf_size l = ap (λ j. j * element_count l.bounds) k in
    omega (arith, e, w, f)

pub room_for_leaf : (l : Leaf) (kind : LeafKind) (count at bytes : ℕ) → kind ≡ l.kind → count ≡ capped (element_count l.bounds) → at + leaf_size l ≤ bytes → at + element_size kind * count ≤ bytes
room_for_leaf l kind count at bytes s e h =
    let c : count ≤ element_count l.bounds = omega (arith, e) in
    let w : element_size kind * count ≤ element_size kind * element_count l.bounds = mul-le-mul_left (element_size kind) c in
    let f : element_size kind * element_count l.bounds ≡ leaf_size l = ap (λ j. element_size j * element_count l.bounds) s in
    omega (arith, w, f, h)

-- ---- leaf behind leaf

pub leaf_first : (ls : List Leaf) (k : ℕ) (l : Leaf) → slice_get ls k ≡ Some l → drop k ls ≡ l ∷ drop (k + 1) ls
leaf_first [] k l e = absurd (cc)
leaf_first (x ∷ ls) zero l e = let g : x ≡ l = cc in ap (λ y. y ∷ ls) g
leaf_first (x ∷ ls) (suc k) l e =
    let more : suc (k + 1) ≡ suc k + 1 = omega arith in
    leaf_first ls k l e ∙ ap (λ j. l ∷ drop j (x ∷ ls)) more

pub leaf_written : (ls : List Leaf) (values : ℕ → List ℤ → BasicValue) (k here next : ℕ) (l : Leaf) (m n target : List ℕ) → drop k ls ≡ l ∷ drop (k + 1) ls → n ≡ with_bytes (leaf_data l (values k)) here m
    → next ≡ here + length (leaf_data l (values k)) → here + length (leaf_data l (values k)) ≤ length m
    → with_bytes (leaves_data k (drop k ls) values) here m ≡ target → with_bytes (leaves_data (k + 1) (drop (k + 1) ls) values) next n ≡ target
leaf_written ls values k here next l m n target d f e inside h =
    let one : k + 1 ≡ suc k = omega arith in
    ap (λ j. with_bytes (leaves_data j (drop (k + 1) ls) values) next n) one
    ∙ next_part (leaf_data l (values k)) (leaves_data (suc k) (drop (k + 1) ls) values) m n target here next f e inside
    (ap (λ xs. with_bytes (leaves_data k xs values) here m) (sym d) ∙ h)

pub all_written : (ls : List Leaf) (values : ℕ → List ℤ → BasicValue) (k here : ℕ) (m target : List ℕ) → length ls ≤ k → with_bytes (leaves_data k (drop k ls) values) here m ≡ target → m ≡ target
all_written ls values k here m target out h =
    sym (with_none here m) ∙ ap (λ xs. with_bytes (leaves_data k xs values) here m) (sym (drop_all k ls out)) ∙ h

pub room_left : (ls : List Leaf) (k here next bytes : ℕ) (l : Leaf) → drop k ls ≡ l ∷ drop (k + 1) ls → next ≤ here + leaf_size l → here + leaves_size (drop k ls) ≤ bytes → next + leaves_size (drop (k + 1) ls) ≤ bytes
room_left ls k here next bytes l d w h =
    let e : leaves_size (drop k ls) ≡ leaf_size l + leaves_size (drop (k + 1) ls) = ap leaves_size d in
    omega (arith, e, w, h)

pub room_for : (ls : List Leaf) (k here bytes : ℕ) (l : Leaf) → drop k ls ≡ l ∷ drop (k + 1) ls → here + leaves_size (drop k ls) ≤ bytes → here + leaf_size l ≤ bytes
room_for ls k here bytes l d h =
    let e : leaves_size (drop k ls) ≡ leaf_size l + leaves_size (drop (k + 1) ls) = ap leaves_size d in
    omega (arith, e, h)
