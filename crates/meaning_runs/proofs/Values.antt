-- Values in storage are of the kinds of their leaves, in all generations: what keeps that.
use Rattle.std.proofs.Common.{◌≡◌, ℕ, zero, suc, ◌-◌, ℤ, List, [], ◌∷◌, Option, Some, None, Bool, true}
use Rattle.std.proofs.Common.{false, refl, ap, sym, ◌∙◌, subst, arith}
use Rattle.std.specs.Prelude.{◌==◌, ◌&&◌, nat_lt, cond, ⊤, drop, length, map, slice_get}
use Rattle.std.proofs.lemmas.Bool.Decides.{nat_tests}
use Rattle.pli_language.specs.Tree.{InitialValue, InitialNumber, InitialText, InitialBit, InitialSkip, InitialNull}
use Rattle.pli_language.specs.Tree.{InitialEmpty, InitialItem}
use Rattle.pli_typing.specs.Signatures.{LeafKind, Fixed, Character, Varying, Bit, Pointer, Offset, Area, Leaf}
use Rattle.pli_typing.specs.TypedTree as Y
use Rattle.pli_meaning.specs.BasicValues.{Name, NullName, VariableName, BasedName, BasicValue, BasicNumber, BasicText}
use Rattle.pli_meaning.specs.BasicValues.{BasicBit, BasicPointer, BasicOffset}
use Rattle.pli_meaning.specs.Contents.{Shape, Generation, kept, seen, initial_at, initial_in, with_value, Placed}
use Rattle.pli_meaning.specs.Contents.{leaves_with, same_subscripts, with_placed, without_offset, placed_at, changed_at}
use Rattle.pli_meaning.specs.Contents as C
use Rattle.pli_meaning.specs.StorageState.{State, Living, AreaContents, area_of_leaves, living_of, area_in, area_at}
use Rattle.pli_meaning.specs.StorageState.{living_changed, area_changed, with_area, generation_of, generation_in}
use Rattle.pli_meaning.specs.StorageState.{generation_at, generation_changed, with_generation, heap_serial}
use Rattle.pli_meaning.specs.StorageState.{heap_capacity, without_owner}
use Rattle.pli_meaning.specs.Evaluating as V
use Rattle.pli_meaning.specs.Placing as A
use Rattle.well_formed_trees.specs.Every.{Every}
use Rattle.well_formed_trees.specs.Declarations.{IsInitial, IsInitialItem}
use Rattle.meaning_runs.proofs.Shapes.{kind_number, type_number, Form, forms, declared_forms, form, declared_form}
use Rattle.meaning_runs.proofs.Shapes.{forms_with, both_true}

-- ---- kinds of values

abbrev pub IsNumber : BasicValue → Type 0
IsNumber (BasicNumber z) = ⊤
IsNumber v = ⊥

abbrev pub IsText : BasicValue → Type 0
IsText (BasicText t) = ⊤
IsText v = ⊥

abbrev pub IsBit : BasicValue → Type 0
IsBit (BasicBit b) = ⊤
IsBit v = ⊥

-- by the number of a kind; of locators nothing is asked
abbrev pub IsOfNumber : ℕ → BasicValue → Type 0
IsOfNumber zero v = IsNumber v
IsOfNumber (suc zero) v = IsText v
IsOfNumber (suc (suc zero)) v = IsText v
IsOfNumber (suc (suc (suc zero))) v = IsBit v
IsOfNumber (suc (suc (suc (suc n)))) v = ⊤

text_number : (n : ℕ) (t u : List ℕ) → IsOfNumber n (BasicText t) → IsOfNumber n (BasicText u)
text_number zero t u h = h
text_number (suc zero) t u h = tt
text_number (suc (suc zero)) t u h = tt
text_number (suc (suc (suc zero))) t u h = h
text_number (suc (suc (suc (suc n)))) t u h = tt

pub kept_number : (n : ℕ) (k : LeafKind) (old new : BasicValue) → IsOfNumber n new → IsOfNumber n (kept k old new)
kept_number n (Character m) old (BasicText t) h = text_number n t _ h
kept_number n (Character m) old (BasicNumber z) h = h
kept_number n (Character m) old (BasicBit b) h = h
kept_number n (Character m) old (BasicPointer x) h = h
kept_number n (Character m) old (BasicOffset o) h = h
kept_number n (Varying m) old (BasicText t) h = text_number n t _ h
kept_number n (Varying m) old (BasicNumber z) h = h
kept_number n (Varying m) old (BasicBit b) h = h
kept_number n (Varying m) old (BasicPointer x) h = h
kept_number n (Varying m) old (BasicOffset o) h = h
kept_number n (Fixed p) old new h = h
kept_number n Bit old new h = h
kept_number n Pointer old new h = h
kept_number n Offset old new h = h
kept_number n (Area m) old new h = h

pub seen_number : (n : ℕ) (k : LeafKind) (v : BasicValue) → IsOfNumber n v → IsOfNumber n (seen k v)
seen_number n (Character m) (BasicText t) h = text_number n t _ h
seen_number n (Character m) (BasicNumber z) h = h
seen_number n (Character m) (BasicBit b) h = h
seen_number n (Character m) (BasicPointer x) h = h
seen_number n (Character m) (BasicOffset o) h = h
seen_number n (Varying m) v h = h
seen_number n (Fixed p) v h = h
seen_number n Bit v h = h
seen_number n Pointer v h = h
seen_number n Offset v h = h
seen_number n (Area m) v h = h

-- ---- generations

abbrev pub AreOfKinds : List Form → (ℕ → List ℤ → BasicValue) → Type 0
AreOfKinds fs values =
    (i : ℕ) (f : Form) → slice_get fs i ≡ Some f → (is : List ℤ) → IsOfNumber f.kind (values i is)

abbrev pub HasValues : Generation → Type 0
HasValues g = AreOfKinds (forms g.shape.signature.leaves) g.values

pub value_put : (g : Generation) (leaf : ℕ) (subscripts : List ℤ) (v : BasicValue) → HasValues g
    → ((f : Form) → slice_get (forms g.shape.signature.leaves) leaf ≡ Some f → IsOfNumber f.kind v)
    → HasValues (with_value leaf subscripts v g)
value_put g leaf subscripts v h new i f e is = by_test ((i == leaf) && same_subscripts is subscripts) refl
  where
    by_test : (t : Bool) → ((i == leaf) && same_subscripts is subscripts) ≡ t
        → IsOfNumber f.kind (cond t v (g.values i is))
    by_test true k =
        let both = both_true (i == leaf) (same_subscripts is subscripts) k in
        let same : i ≡ leaf = grind (arith, nat_tests, both.0) in
        new f (subst (λ x. slice_get (forms g.shape.signature.leaves) x ≡ Some f) same e)
    by_test false k = h i f e is

pub elements_put : (x : V.Designated) (values : ℕ → List ℤ → BasicValue) (g : Generation) → HasValues g
    → ((i : ℕ) (f : Form) → slice_get (forms g.shape.signature.leaves) i ≡ Some f → (is : List ℤ)
    → A.is_in_part x i is ≡ true
    → IsOfNumber f.kind (values (i - x.part.first) (drop (length x.subscripts) is)))
    → HasValues (A.with_elements x values g)
elements_put x values g h new i f e is = by_test (A.is_in_part x i is) refl
  where
    by_test : (t : Bool) → A.is_in_part x i is ≡ t
        → IsOfNumber f.kind (cond t
        (kept (V.leaf_at x.generation.shape x.extent i).kind (g.values i is)
        (values (i - x.part.first) (drop (length x.subscripts) is))) (g.values i is))
    by_test true k = kept_number f.kind _ _ _ (new i f e is k)
    by_test false k = h i f e is

-- ---- how they begin

initial_value : (t : Y.LeafType) (k : LeafKind) (v : InitialValue) → kind_number k ≡ type_number t → IsInitial t v
    → IsOfNumber (kind_number k) (C.initial_of k v)
initial_value (Y.FixedLeaf p) (Fixed q) InitialSkip e h = tt
initial_value (Y.FixedLeaf p) (Fixed q) InitialNull e h = tt
initial_value (Y.FixedLeaf p) (Fixed q) InitialEmpty e h = tt
initial_value (Y.FixedLeaf p) (Fixed q) (InitialNumber z) e h = tt
initial_value (Y.FixedLeaf p) (Fixed q) (InitialText x) e h = absurd h
initial_value (Y.FixedLeaf p) (Fixed q) (InitialBit b) e h = absurd h
initial_value (Y.CharacterLeaf p) (Character q) InitialSkip e h = tt
initial_value (Y.CharacterLeaf p) (Character q) InitialNull e h = tt
initial_value (Y.CharacterLeaf p) (Character q) InitialEmpty e h = tt
initial_value (Y.CharacterLeaf p) (Character q) (InitialNumber z) e h = absurd h
initial_value (Y.CharacterLeaf p) (Character q) (InitialText x) e h = tt
initial_value (Y.CharacterLeaf p) (Character q) (InitialBit b) e h = absurd h
initial_value (Y.VaryingLeaf p) (Varying q) InitialSkip e h = tt
initial_value (Y.VaryingLeaf p) (Varying q) InitialNull e h = tt
initial_value (Y.VaryingLeaf p) (Varying q) InitialEmpty e h = tt
initial_value (Y.VaryingLeaf p) (Varying q) (InitialNumber z) e h = absurd h
initial_value (Y.VaryingLeaf p) (Varying q) (InitialText x) e h = tt
initial_value (Y.VaryingLeaf p) (Varying q) (InitialBit b) e h = absurd h
initial_value Y.BitLeaf Bit InitialSkip e h = tt
initial_value Y.BitLeaf Bit InitialNull e h = tt
initial_value Y.BitLeaf Bit InitialEmpty e h = tt
initial_value Y.BitLeaf Bit (InitialNumber z) e h = absurd h
initial_value Y.BitLeaf Bit (InitialText x) e h = absurd h
initial_value Y.BitLeaf Bit (InitialBit b) e h = tt
initial_value Y.PointerLeaf Pointer v e h = tt
initial_value (Y.OffsetLeaf area) Offset v e h = tt
initial_value (Y.AreaLeaf size) (Area n) v e h = tt
initial_value t k v e h = absurd (cc e)

item_value : (t : Y.LeafType) (is : List InitialItem) (n : ℕ) → Every (IsInitialItem t) is
    → IsInitial t (initial_at is n)
item_value t [] n h = tt
item_value t (i ∷ is) n h = by_test (nat_lt n i.repetition) (item_value t is (n - i.repetition) h.1)
  where
    by_test : (b : Bool) → IsInitial t (initial_at is (n - i.repetition))
        → IsInitial t (cond b i.value (initial_at is (n - i.repetition)))
    by_test true k = h.0.1
    by_test false k = k

-- what INITIAL says of a variable's leaves
abbrev pub HasInitial : List Y.Leaf → Type 0
HasInitial ts = Every (λ l. Every (IsInitialItem l.type) l.initial) ts

initial_kinds : (ls : List Leaf) (ts : List Y.Leaf) → forms ls ≡ declared_forms ts → HasInitial ts
    → AreOfKinds (forms ls) (initial_in ls (map (λ l. l.initial) ts))
initial_kinds [] ts e h i f there is = absurd (cc there)
initial_kinds (l ∷ ls) [] e h i f there is = absurd (cc e)
initial_kinds (l ∷ ls) (t ∷ ts) e h zero f there is =
    let same : form l ≡ f = cc there in
    let first : form l ≡ declared_form t = cc e in
    subst (λ x. IsOfNumber x.kind (C.initial_of l.kind (initial_at t.initial (C.element_place l.bounds is)))) same
    (initial_value t.type l.kind _ (ap (λ x. x.kind) first) (item_value t.type t.initial _ h.0))
initial_kinds (l ∷ ls) (t ∷ ts) e h (suc i) f there is =
    let rest : forms ls ≡ declared_forms ts = cc e in initial_kinds ls ts rest h.1 i f there is

pub fresh_values : (s : Shape) (z : ℤ) (ts : List Y.Leaf) → forms s.signature.leaves ≡ declared_forms ts
    → HasInitial ts → HasValues (C.fresh s z (map (λ l. l.initial) ts))
fresh_values s z ts e h =
    subst (λ fs. AreOfKinds fs (initial_in (leaves_with z s) (map (λ l. l.initial) ts))) (forms_with z s)
    (initial_kinds (leaves_with z s) ts (forms_with z s ∙ e) h)

-- ---- all storage

abbrev pub AllHave : List Placed → Type 0
AllHave ps = Every (λ q. HasValues q.generation) ps

abbrev pub HasLiving : List Living → Type 0
HasLiving ls = Every (λ l. HasValues l.generation × AllHave l.placed) ls

abbrev pub HasStored : State → Type 0
HasStored s = HasLiving s.living × AllHave s.heap

living_valued : (ls : List Living) (serial : ℕ) (l : Living) → HasLiving ls → living_of ls serial ≡ Some l
    → HasValues l.generation × AllHave l.placed
living_valued [] serial l h e = absurd (cc e)
living_valued (x ∷ xs) serial l h e =
    by_test (x.serial == serial) (living_of xs serial) (living_valued xs serial l h.1) e
  where
    by_test : (t : Bool) (o : Option Living) → (o ≡ Some l → HasValues l.generation × AllHave l.placed)
        → cond t (Some x) o ≡ Some l → HasValues l.generation × AllHave l.placed
    by_test true o further k =
        let same : x ≡ l = cc k in subst (λ y. HasValues y.generation × AllHave y.placed) same h.0
    by_test false o further k = further k

placed_valued : (ps : List Placed) (o : ℕ) (g : Generation) → AllHave ps → placed_at ps o ≡ Some g → HasValues g
placed_valued [] o g h e = absurd (cc e)
placed_valued (p ∷ ps) o g h e = by_test (p.offset == o) (placed_at ps o) (placed_valued ps o g h.1) e
  where
    by_test : (t : Bool) (x : Option Generation) → (x ≡ Some g → HasValues g)
        → cond t (Some p.generation) x ≡ Some g → HasValues g
    by_test true x further k = let same : p.generation ≡ g = cc k in subst HasValues same h.0
    by_test false x further k = further k

-- an area's generations are those of the variable
area_given : (ls : List Leaf) (ps : List Placed) (x : AreaContents) → area_of_leaves ls ps ≡ Some x → x.placed ≡ ps
area_given [] ps x e = absurd (cc e)
area_given (l ∷ m ∷ ls) ps x e = absurd (cc e)
area_given (l ∷ []) ps x e = of_kind l.kind e
  where
    of_kind : (k : LeafKind) → area_of_leaves (record { kind = k; bounds = l.bounds } ∷ []) ps ≡ Some x
        → x.placed ≡ ps
    of_kind (Area n) e =
        let same : record { capacity = n; placed = ps } ≡ x = cc e in ap (λ y. y.placed) (sym same)
    of_kind (Fixed p) e = absurd (cc e)
    of_kind (Character n) e = absurd (cc e)
    of_kind (Varying n) e = absurd (cc e)
    of_kind Bit e = absurd (cc e)
    of_kind Pointer e = absurd (cc e)
    of_kind Offset e = absurd (cc e)

living_area : (o : Option Living) (x : AreaContents)
    → ((l : Living) → o ≡ Some l → HasValues l.generation × AllHave l.placed) → area_in o ≡ Some x → AllHave x.placed
living_area None x h e = absurd (cc e)
living_area (Some l) x h e =
    subst AllHave (sym (area_given l.generation.shape.signature.leaves l.placed x e)) (h l refl).1

pub area_valued : (s : State) (area : ℕ) (x : AreaContents) → HasStored s → area_at s area ≡ Some x → AllHave x.placed
area_valued s area x h e = by_test (area == heap_serial) e
  where
    by_test : (t : Bool)
        → cond t (Some (record { capacity = heap_capacity; placed = s.heap })) (area_in (living_of s.living area))
        ≡ Some x → AllHave x.placed
    by_test true k =
        let same : record { capacity = heap_capacity; placed = s.heap } ≡ x = cc k in
        subst (λ y. AllHave y.placed) same h.1
    by_test false k = living_area (living_of s.living area) x (λ l f. living_valued s.living area l h.0 f) k

pub generation_valued : (s : State) (n : Name) (g : Generation) → HasStored s → generation_at s n ≡ Some g
    → HasValues g
generation_valued s NullName g h e = absurd (cc e)
generation_valued s (VariableName serial) g h e = of_living (living_of s.living serial) refl e
  where
    of_living : (o : Option Living) → living_of s.living serial ≡ o → generation_of o ≡ Some g → HasValues g
    of_living None f k = absurd (cc k)
    of_living (Some l) f k =
        let same : l.generation ≡ g = cc k in subst HasValues same (living_valued s.living serial l h.0 f).0
generation_valued s (BasedName area o) g h e = of_area (area_at s area) refl e
  where
    of_area : (x : Option AreaContents) → area_at s area ≡ x → generation_in x o ≡ Some g → HasValues g
    of_area None f k = absurd (cc k)
    of_area (Some a) f k = placed_valued a.placed o g (area_valued s area a h f) k

-- ---- changes of storage

living_on : (ls : List Living) (serial : ℕ) (change : Living → Living)
    → ((l : Living) → HasValues l.generation × AllHave l.placed
    → HasValues (change l).generation × AllHave (change l).placed)
    → HasLiving ls → HasLiving (living_changed serial change ls)
living_on [] serial change c h = tt
living_on (l ∷ ls) serial change c h = by_test (l.serial == serial) (living_on ls serial change c h.1)
  where
    by_test : (t : Bool) → HasLiving (living_changed serial change ls)
        → HasLiving (cond t (change l ∷ ls) (l ∷ living_changed serial change ls))
    by_test true k = (c l h.0, h.1)
    by_test false k = (h.0, k)

-- of an area's generations
pub area_stored : (s : State) (serial : ℕ) (change : List Placed → List Placed)
    → ((ps : List Placed) → AllHave ps → AllHave (change ps)) → HasStored s → HasStored (with_area serial change s)
area_stored s serial change c h = by_test (serial == heap_serial)
  where
    by_test : (t : Bool)
        → HasStored (cond t (record s { heap = change s.heap })
        (record s { living = living_changed serial (area_changed change) s.living }))
    by_test true = (h.0, c s.heap h.1)
    by_test false = (living_on s.living serial (area_changed change) (λ l k. (k.0, c l.placed k.1)) h.0, h.1)

pub placed_all : (o : ℕ) (g : Generation) (ps : List Placed) → HasValues g → AllHave ps
    → AllHave (with_placed (record { offset = o; generation = g }) ps)
placed_all o g [] v h = (v, tt)
placed_all o g (p ∷ ps) v h = by_test (nat_lt o p.offset) (placed_all o g ps v h.1)
  where
    new : Placed
    new = record { offset = o; generation = g }

    by_test : (t : Bool) → AllHave (with_placed new ps) → AllHave (cond t (new ∷ p ∷ ps) (p ∷ with_placed new ps))
    by_test true k = (v, h)
    by_test false k = (h.0, k)

pub removed_all : (o : ℕ) (ps : List Placed) → AllHave ps → AllHave (without_offset o ps)
removed_all o [] h = tt
removed_all o (p ∷ ps) h = by_test (p.offset == o) (removed_all o ps h.1)
  where
    by_test : (t : Bool) → AllHave (without_offset o ps) → AllHave (cond t ps (p ∷ without_offset o ps))
    by_test true k = h.1
    by_test false k = (h.0, k)

changed_all : (o : ℕ) (change : Generation → Generation) (g : Generation) (ps : List Placed) → HasValues (change g)
    → placed_at ps o ≡ Some g → AllHave ps → AllHave (changed_at o change ps)
changed_all o change g [] v e h = tt
changed_all o change g (p ∷ ps) v e h =
    by_test (p.offset == o) (placed_at ps o) (λ k. changed_all o change g ps v k h.1) e
  where
    by_test : (t : Bool) (x : Option Generation) → (x ≡ Some g → AllHave (changed_at o change ps))
        → cond t (Some p.generation) x ≡ Some g
        → AllHave (cond t (record { offset = o; generation = change p.generation } ∷ ps)
        (p ∷ changed_at o change ps))
    by_test true x further k =
        let same : g ≡ p.generation = cc k in (subst (λ y. HasValues (change y)) same v, h.1)
    by_test false x further k = (h.0, further k)

-- of the generation that a name names
pub generation_stored : (s : State) (n : Name) (change : Generation → Generation) (g : Generation)
    → generation_at s n ≡ Some g → HasValues (change g) → HasStored s → HasStored (with_generation n change s)
generation_stored s NullName change g e v h = h
generation_stored s (VariableName serial) change g e v h = (of_living s.living e h.0, h.1)
  where
    of_living : (ls : List Living) → generation_of (living_of ls serial) ≡ Some g → HasLiving ls
        → HasLiving (living_changed serial (generation_changed change) ls)
    of_living [] f k = tt
    of_living (l ∷ ls) f k = by_test l ls (l.serial == serial) (living_of ls serial) (λ j. of_living ls j k.1) k f
      where
        by_test : (l : Living) (ls : List Living) (t : Bool) (o : Option Living)
            → (generation_of o ≡ Some g → HasLiving (living_changed serial (generation_changed change) ls))
            → HasLiving (l ∷ ls) → generation_of (cond t (Some l) o) ≡ Some g
            → HasLiving (cond t (generation_changed change l ∷ ls)
            (l ∷ living_changed serial (generation_changed change) ls))
        by_test l ls true o further k f =
            let same : g ≡ l.generation = cc f in ((subst (λ y. HasValues (change y)) same v, k.0.1), k.1)
        by_test l ls false o further k f = (k.0, further f)
generation_stored s (BasedName area o) change g e v h = by_heap (area == heap_serial) e
  where
    placed_in : (x : Option AreaContents) (ps : List Placed)
        → ((a : AreaContents) → x ≡ Some a → a.placed ≡ ps) → generation_in x o ≡ Some g → placed_at ps o ≡ Some g
    placed_in None ps same f = absurd (cc f)
    placed_in (Some a) ps same f = subst (λ y. placed_at y o ≡ Some g) (same a refl) f

    by_test : (l : Living) (ls : List Living) (t : Bool) (x : Option Living)
        → (generation_in (area_in x) o ≡ Some g
        → HasLiving (living_changed area (area_changed (changed_at o change)) ls))
        → HasLiving (l ∷ ls) → generation_in (area_in (cond t (Some l) x)) o ≡ Some g
        → HasLiving (cond t (area_changed (changed_at o change) l ∷ ls)
        (l ∷ living_changed area (area_changed (changed_at o change)) ls))
    by_test l ls true x further k f =
        let there : placed_at l.placed o ≡ Some g =
        placed_in (area_in (Some l)) l.placed
        (λ a j. area_given l.generation.shape.signature.leaves l.placed a j) f in
        ((k.0.0, changed_all o change g l.placed v there k.0.1), k.1)
    by_test l ls false x further k f = (k.0, further f)

    of_living : (ls : List Living) → generation_in (area_in (living_of ls area)) o ≡ Some g → HasLiving ls
        → HasLiving (living_changed area (area_changed (changed_at o change)) ls)
    of_living [] f k = tt
    of_living (l ∷ ls) f k = by_test l ls (l.serial == area) (living_of ls area) (λ j. of_living ls j k.1) k f

    by_heap : (t : Bool)
        → generation_in (cond t (Some (record { capacity = heap_capacity; placed = s.heap }))
        (area_in (living_of s.living area))) o ≡ Some g
        → HasStored (cond t (record s { heap = changed_at o change s.heap })
        (record s { living = living_changed area (area_changed (changed_at o change)) s.living }))
    by_heap true f = (h.0, changed_all o change g s.heap v f h.1)
    by_heap false f = (of_living s.living f h.0, h.1)

pub owner_ended : (height : ℕ) (ls : List Living) → HasLiving ls → HasLiving (without_owner height ls)
owner_ended height [] h = tt
owner_ended height (l ∷ ls) h = by_test (l.owner == height) (owner_ended height ls h.1)
  where
    by_test : (t : Bool) → HasLiving (without_owner height ls)
        → HasLiving (cond t (without_owner height ls) (l ∷ without_owner height ls))
    by_test true k = k
    by_test false k = (h.0, k)
