-- GET and PUT are there: format lists have a data item, fields are of kinds that are read, and elements of kinds that
-- are moved.
use Rattle.std.proofs.Common.{◌≡◌, ℕ, zero, suc, ◌+◌, ◌<◌, ◌≤◌, ℤ, List, [], ◌∷◌, ◌++◌, Option, Some, None, Bool}
use Rattle.std.proofs.Common.{true, false, ◌∙◌, sym, subst, refl, ap, arith}
use Rattle.std.specs.Prelude.{◌||◌, not, cond, filter, map, take, drop, ⊤, slice_get}
use Rattle.std.specs.List.{list_any}
use Rattle.pli_language.specs.declared.condition.Condition.TheVariants as C
use Rattle.pli_language.specs.Tree as F
use Rattle.pli_language.specs.Formats.{Direction, Getting, Putting, formats_move_data, format_moves_data}
use Rattle.pli_meaning.specs.World.{counted, written}
use Rattle.pli_typing.specs.Signatures.{LeafKind, Fixed, Character, Varying, Bit}
use Rattle.pli_typing.specs.TypedTree as Y
use Rattle.pli_meaning.specs.BasicValues.{BasicValue, BasicNumber, BasicText, BasicBit, BasicPointer, BasicOffset}
use Rattle.pli_meaning.specs.Contents.{Generation}
use Rattle.pli_typing.specs.Assigning.{is_written, is_read, all_pass, holds_fixed, format_holds_fixed}
use Rattle.pli_meaning.specs.InputLines.{behind_field}
use Rattle.pli_meaning.specs.StorageState.{with_input}
use Rattle.pli_meaning.specs.Control.{Meaning, give, stuck, given}
use Rattle.pli_meaning.specs.DeclaredShapes as D
use Rattle.pli_meaning.specs.Evaluating as V
use Rattle.pli_meaning.specs.Placing.{is_in_part}
use Rattle.pli_meaning.specs.StreamOrder.{Element}
use Rattle.pli_meaning.specs.Streaming as S
use Rattle.well_formed_trees.specs.Every.{Every}
use Rattle.well_formed_trees.specs.Ranges.{IsTimes, IsFormat, AreFormats, IsFormatList}
use Rattle.well_formed_trees.specs.References.{leaf_left, given_in, IsScalar}
use Rattle.well_formed_trees.specs.Statements as T
use Rattle.well_formed_trees.proofs.Lists.{every_both, every_map}
use Rattle.meaning_runs.proofs.Calling as P
use Rattle.meaning_runs.proofs.Demands.{Demand, Anything, There}
use Rattle.meaning_runs.proofs.Steps.{give_there, bind_there, then_there, looked_there, stored_there, act_there}
use Rattle.meaning_runs.proofs.Steps.{choose_there, found_there}
use Rattle.meaning_runs.proofs.Ways.{Ways, demand, around, here, ThereAround}
use Rattle.meaning_runs.proofs.Expressions.{raised_there, value_of_there, or_error_there}
use Rattle.meaning_runs.proofs.Expressions.{designated_there, computational_there, IsFound}
use Rattle.meaning_runs.proofs.Shapes.{kind_number, type_number, leaf_formed, some_there}
use Rattle.meaning_runs.proofs.AtStates.{at_state}
use Rattle.meaning_runs.proofs.Designating.{designated_then, element_now, element_then, element_stored_at, scalar_fits}
use Rattle.meaning_runs.proofs.Designating.{then_give_at, form_at, form_known, part_place}
use Rattle.meaning_runs.proofs.Values.{IsNumber, IsOfNumber, seen_number}
use Rattle.meaning_runs.proofs.Shapes.{forms, declared_form, IsShapedAs, kind_declared}

-- ---- format lists

-- what is so of each data item
abbrev Goes : (S.DataItem → Type 0) → S.FormatItem → Type 0
Goes Q (S.DataFormat f) = Q f
Goes Q (S.ControlFormat c) = ⊤

abbrev HasData : List S.FormatItem → Type 0
HasData [] = ⊥
HasData (S.DataFormat f ∷ xs) = ⊤
HasData (S.ControlFormat c ∷ xs) = HasData xs

has_left : (xs ys : List S.FormatItem) → HasData xs → HasData (xs ++ ys)
has_left [] ys h = absurd h
has_left (S.DataFormat f ∷ xs) ys h = tt
has_left (S.ControlFormat c ∷ xs) ys h = has_left xs ys h

has_right : (xs ys : List S.FormatItem) → HasData ys → HasData (xs ++ ys)
has_right [] ys h = h
has_right (S.DataFormat f ∷ xs) ys h = tt
has_right (S.ControlFormat c ∷ xs) ys h = has_right xs ys h

one_has : (n : ℕ) (xs ys : List S.FormatItem) (t u : Bool) → IsTimes n → (t ≡ true → HasData xs)
    → (u ≡ true → HasData ys) → (t || u) ≡ true → HasData (S.repeated n xs ++ ys)
one_has zero xs ys t u i a b e = absurd (omega (arith, i.0))
one_has (suc n) xs ys true u i a b e =
    has_left (xs ++ S.repeated n xs) ys (has_left xs (S.repeated n xs) (a refl))
one_has (suc n) xs ys false u i a b e = has_right (xs ++ S.repeated n xs) ys (b e)

mutual
  unfolding formats_move_data format_moves_data

  formats_have : (d : Direction) (fs : F.Formats) → AreFormats d fs → formats_move_data fs ≡ true
      → HasData (S.format_items fs)
  formats_have d F.NoFormat h e = absurd (cc e)
  formats_have d (F.FormatThen place repetition first rest) h e =
      one_has repetition (S.format_item first) (S.format_items rest) (format_moves_data first)
      (formats_move_data rest) h.0 (format_has d first h.1.0) (formats_have d rest h.1.1) e

  format_has : (d : Direction) (f : F.Format) → IsFormat d f → format_moves_data f ≡ true → HasData (S.format_item f)
  format_has d (F.FormatList fs) h e = formats_have d fs h.1 e
  format_has d (F.FixedFormat width) h e = tt
  format_has d (F.TextFormat width) h e = tt
  format_has d (F.SpaceFormat n) h e = absurd (cc e)
  format_has d (F.SkipFormat n) h e = absurd (cc e)
  format_has d (F.ColumnFormat n) h e = absurd (cc e)

list_has : (d : Direction) (fs : F.Formats) → IsFormatList d fs → HasData (S.format_items fs)
list_has d fs h = formats_have d fs h.formats_are h.moves_data

all_go : (xs : List S.FormatItem) → Every (Goes Anything) xs
all_go [] = tt
all_go (S.DataFormat f ∷ xs) = (tt, all_go xs)
all_go (S.ControlFormat c ∷ xs) = (tt, all_go xs)

-- what GET goes by: a number only where it is said that there is one, and each text with a width
abbrev GetsBy : Bool → S.DataItem → Type 0
GetsBy has_fixed (S.FixedItem width) = has_fixed ≡ true
GetsBy has_fixed (S.TextItem None) = ⊥
GetsBy has_fixed (S.TextItem (Some width)) = ⊤

repeated_go : (Q : S.DataItem → Type 0) (n : ℕ) (xs : List S.FormatItem) → Every (Goes Q) xs
    → Every (Goes Q) (S.repeated n xs)
repeated_go Q zero xs h = tt
repeated_go Q (suc n) xs h = every_both (Goes Q) xs (S.repeated n xs) h (repeated_go Q n xs h)

first_true : (a b : Bool) → a ≡ true → (a || b) ≡ true
first_true true b e = refl
first_true false b e = absurd (cc e)

second_true : (a b : Bool) → b ≡ true → (a || b) ≡ true
second_true true b e = refl
second_true false b e = e

mutual
  formats_get : (has_fixed : Bool) (fs : F.Formats) → AreFormats Getting fs
      → (holds_fixed fs ≡ true → has_fixed ≡ true) → Every (Goes (GetsBy has_fixed)) (S.format_items fs)
  formats_get t F.NoFormat h e = tt
  formats_get t (F.FormatThen place repetition first rest) h e =
      every_both (Goes (GetsBy t)) (S.repeated repetition (S.format_item first)) (S.format_items rest)
      (repeated_go (GetsBy t) repetition (S.format_item first)
      (format_gets t first h.1.0 (λ x. e (first_true (format_holds_fixed first) (holds_fixed rest) x))))
      (formats_get t rest h.1.1 (λ x. e (second_true (format_holds_fixed first) (holds_fixed rest) x)))

  format_gets : (has_fixed : Bool) (f : F.Format) → IsFormat Getting f
      → (format_holds_fixed f ≡ true → has_fixed ≡ true) → Every (Goes (GetsBy has_fixed)) (S.format_item f)
  format_gets t (F.FormatList fs) h e = formats_get t fs h.1 e
  format_gets t (F.FixedFormat width) h e = (e refl, tt)
  format_gets t (F.TextFormat None) h e = absurd h
  format_gets t (F.TextFormat (Some width)) h e = (tt, tt)
  format_gets t (F.SpaceFormat n) h e = (tt, tt)
  format_gets t (F.SkipFormat n) h e = (tt, tt)
  format_gets t (F.ColumnFormat n) h e = (tt, tt)

-- ---- the next data item

abbrev Next : (S.DataItem → Type 0) → S.DataItem × List S.FormatItem → Type 0
Next Q x = Q x.0 × Every (Goes Q) x.1

abbrev Taken : (S.DataItem → Type 0) → Option (S.DataItem × List S.FormatItem) → Type 0
Taken Q None = ⊤
Taken Q (Some x) = Next Q x

abbrev Found : (S.DataItem → Type 0) → Option (S.DataItem × List S.FormatItem) → Type 0
Found Q None = ⊥
Found Q (Some x) = Next Q x

controls_there : {d : Demand} {few : ℕ} (Q : S.DataItem → Type 0) (carried_out : S.ControlItem → Meaning (Unit {0}))
    (xs : List S.FormatItem) → ((c : S.ControlItem) → There d 0 1 few Anything (carried_out c)) → Every (Goes Q) xs
    → There d 0 1 few (Taken Q) (S.controls carried_out xs)
unfolding S.controls
controls_there Q carried_out [] a h = give_there None tt
controls_there Q carried_out (S.DataFormat f ∷ xs) a h = give_there (Some (f, xs)) (h.0, h.1)
controls_there Q carried_out (S.ControlFormat c ∷ xs) a h = then_there (a c) (controls_there Q carried_out xs a h.1)

controls_find : {d : Demand} {few : ℕ} (Q : S.DataItem → Type 0) (carried_out : S.ControlItem → Meaning (Unit {0}))
    (xs : List S.FormatItem) → ((c : S.ControlItem) → There d 0 1 few Anything (carried_out c)) → Every (Goes Q) xs
    → HasData xs → There d 0 1 few (Found Q) (S.controls carried_out xs)
unfolding S.controls
controls_find Q carried_out [] a h i = absurd i
controls_find Q carried_out (S.DataFormat f ∷ xs) a h i = give_there (Some (f, xs)) (h.0, h.1)
controls_find Q carried_out (S.ControlFormat c ∷ xs) a h i = then_there (a c) (controls_find Q carried_out xs a h.1 i)

taken_there : {d : Demand} {few : ℕ} (Q : S.DataItem → Type 0) (o : Option (S.DataItem × List S.FormatItem))
    (m : Meaning (S.DataItem × List S.FormatItem)) → Taken Q o → There d 0 1 few (Next Q) m
    → There d 0 1 few (Next Q) (given o give m)
unfolding given
taken_there Q None m h a = a
taken_there Q (Some x) m h a = give_there x h

surely_there : {d : Demand} {few : ℕ} (Q : S.DataItem → Type 0) (o : Option (S.DataItem × List S.FormatItem))
    → Found Q o → There d 0 1 few (Next Q) (given o give stuck)
unfolding given
surely_there Q None h = absurd h
surely_there Q (Some x) h = give_there x h

next_item_there : {d : Demand} {few : ℕ} (Q : S.DataItem → Type 0) (carried_out : S.ControlItem → Meaning (Unit {0}))
    (whole rest : List S.FormatItem) → ((c : S.ControlItem) → There d 0 1 few Anything (carried_out c))
    → Every (Goes Q) whole → HasData whole → Every (Goes Q) rest
    → There d 0 1 few (Next Q) (S.next_item carried_out whole rest)
unfolding S.next_item
next_item_there Q carried_out whole rest a h i j =
    bind_there (controls_there Q carried_out rest a j) (λ found k. taken_there Q found _ k
    (bind_there (controls_find Q carried_out whole a h i) (λ again l. surely_there Q again l)))

-- ---- elements of aggregates

-- each of the first leaves passes the test that all of them pass
front_passes : (test : Y.LeafType → Bool) (n count place : ℕ) (ls : List Y.Leaf) (leaf : Y.Leaf)
    → slice_get ls place ≡ Some leaf → place < count → all_pass test (map (leaf_left n) (take count ls)) ≡ true
    → test leaf.type ≡ true
front_passes test n zero place ls leaf e few h = absurd (omega (arith, few))
front_passes test n (suc count) place [] leaf e few h = absurd (cc e)
front_passes test n (suc count) zero (l ∷ ls) leaf e few h =
    let same : l ≡ leaf = cc e in
    subst (λ x. test x.type ≡ true) same
    (by_test (test l.type) (list_any (λ x. not (test x.type)) (map (leaf_left n) (take count ls))) h)
  where
    by_test : (t u : Bool) → not (not t || u) ≡ true → t ≡ true
    by_test true u e = refl
    by_test false u e = absurd (cc e)
front_passes test n (suc count) (suc place) (l ∷ ls) leaf e few h =
    front_passes test n count place ls leaf e (omega (arith, few))
    (by_test (not (test l.type)) (list_any (λ x. not (test x.type)) (map (leaf_left n) (take count ls))) h)
  where
    by_test : (t u : Bool) → not (t || u) ≡ true → not u ≡ true
    by_test true u e = absurd (cc e)
    by_test false u e = e

-- so does each leaf of a part
leaf_passes : (test : Y.LeafType → Bool) (n first count place : ℕ) (ls : List Y.Leaf) (leaf : Y.Leaf)
    → slice_get ls place ≡ Some leaf → first ≤ place → place < first + count
    → all_pass test (map (leaf_left n) (take count (drop first ls))) ≡ true → test leaf.type ≡ true
leaf_passes test n zero count place ls leaf e low high h =
    front_passes test n count place ls leaf e (omega (arith, high)) h
leaf_passes test n (suc first) count place [] leaf e low high h = absurd (cc e)
leaf_passes test n (suc first) count zero (l ∷ ls) leaf e low high h = absurd (omega (arith, low))
leaf_passes test n (suc first) count (suc place) (l ∷ ls) leaf e low high h =
    leaf_passes test n first count place ls leaf e (omega (arith, low)) (omega (arith, high)) h

-- all elements that are gone through are in the part
abbrev IsIn : V.Designated → Element → Type 0
IsIn x e = is_in_part x e.0 e.1 ≡ true

every_chosen : {X : Type 0} (test : X → Bool) (xs : List X) → Every (λ x. test x ≡ true) (filter test xs)
every_chosen test [] = tt
every_chosen test (x ∷ xs) = by_test (test x) refl (every_chosen test xs)
  where
    by_test : (t : Bool) → test x ≡ t → Every (λ y. test y ≡ true) (filter test xs)
        → Every (λ y. test y ≡ true) (cond t (x ∷ filter test xs) (filter test xs))
    by_test true e h = (e, h)
    by_test false e h = h

-- the leaf of an element, as it is declared
record IsElement (test : Y.LeafType → Bool) (x : V.Designated) (e : Element) : Type 0 where
  d : Y.DeclaredVariable
  shaped : IsShapedAs d x.generation.shape
  leaf : Y.Leaf
  there : slice_get d.leaves e.0 ≡ Some leaf
  passes : test leaf.type ≡ true

element_declared : (test : Y.LeafType → Bool) (w : Ways) (r : Y.Reference) (x : V.Designated) (e : Element)
    → T.PassesTest (here w) test r → IsFound w.program r x → IsIn x e → IsElement test x e
element_declared test w (Y.Referring v locator part subscripts) x e h found inside =
    let d : Y.DeclaredVariable = h.0.d in
    let told = found.0 d h.0.declared.found in
    let place = part_place x e.0 e.1 inside in
    let low = place.low in
    let high = place.high in
    let within = h.0.member.within in
    let first : x.part.first ≡ part.first = ap (λ p. p.first) told.part_is in
    let count : x.part.count ≡ part.count = ap (λ p. p.count) told.part_is in
    let leaf = some_there d.leaves e.0 (omega (arith, high, within, first, count)) in
    record {
      d = d;
      shaped = told.shaped;
      leaf = leaf.0;
      there = leaf.1;
      passes =
          leaf_passes test (given_in subscripts) part.first part.count e.0 d.leaves leaf.0 leaf.1
          (omega (arith, low, first)) (omega (arith, high, first, count)) h.1;
    }

-- all elements of what a reference designates
elements_declared : (test : Y.LeafType → Bool) (w : Ways) (r : Y.Reference) (x : V.Designated) (es : List Element)
    → T.PassesTest (here w) test r → IsFound w.program r x
    → Every (IsElement test x) (filter (λ e. is_in_part x e.0 e.1) es)
elements_declared test w r x es h found =
    every_map (IsIn x) (IsElement test x) (λ e inside. element_declared test w r x e h found inside) _
    (every_chosen (λ e. is_in_part x e.0 e.1) es)

-- the kind of an element in a generation of the same forms
element_kind : (test : Y.LeafType → Bool) (x : V.Designated) (e : Element) (g : Generation) → IsElement test x e
    → forms g.shape.signature.leaves ≡ forms x.generation.shape.signature.leaves → (i : IsElement test x e)
    → kind_number (V.leaf_at g.shape x.extent e.0).kind ≡ type_number i.leaf.type
element_kind test x e g h same i =
    ap (λ f. f.kind) (leaf_formed i.d g.shape x.extent e.0 i.leaf (same ∙ i.shaped) i.there)

-- ---- PUT

control_put_there : {d : Demand} {few : ℕ} (c : S.ControlItem) → There d 0 1 few Anything (S.control_put c)
unfolding S.control_put
control_put_there c = act_there (written (S.control_written c)) (λ v. refl)

shown_by_there : (v : V.Computational) (f : S.DataItem) → ThereAround Anything (λ a. S.shown_by a v f)
unfolding S.shown_by
shown_by_there v (S.FixedItem width) w =
    bind_there (or_error_there _ _ w) (λ z k. bind_there (or_error_there _ _ w) (λ field j. act_there _ (λ u. refl)))
shown_by_there v (S.TextItem None) w = act_there _ (λ u. refl)
shown_by_there v (S.TextItem (Some width)) w = act_there _ (λ u. refl)

-- a value of a kind that is written is shown
shown_there : (t : Y.LeafType) (kind : LeafKind) (v : BasicValue) → kind_number kind ≡ type_number t
    → is_written t ≡ true → IsOfNumber (kind_number kind) v
    → (c : V.Computational) × (S.shown_of kind v ≡ Some c)
shown_there (Y.FixedLeaf p) (Fixed q) (BasicNumber z) k e h = (_, refl)
shown_there (Y.FixedLeaf p) (Fixed q) (BasicText x) k e h = absurd h
shown_there (Y.FixedLeaf p) (Fixed q) (BasicBit x) k e h = absurd h
shown_there (Y.FixedLeaf p) (Fixed q) (BasicPointer x) k e h = absurd h
shown_there (Y.FixedLeaf p) (Fixed q) (BasicOffset x) k e h = absurd h
shown_there (Y.CharacterLeaf m) (Character n) (BasicText x) k e h = (_, refl)
shown_there (Y.CharacterLeaf m) (Character n) (BasicNumber z) k e h = absurd h
shown_there (Y.CharacterLeaf m) (Character n) (BasicBit x) k e h = absurd h
shown_there (Y.CharacterLeaf m) (Character n) (BasicPointer x) k e h = absurd h
shown_there (Y.CharacterLeaf m) (Character n) (BasicOffset x) k e h = absurd h
shown_there (Y.VaryingLeaf m) (Varying n) (BasicText x) k e h = (_, refl)
shown_there (Y.VaryingLeaf m) (Varying n) (BasicNumber z) k e h = absurd h
shown_there (Y.VaryingLeaf m) (Varying n) (BasicBit x) k e h = absurd h
shown_there (Y.VaryingLeaf m) (Varying n) (BasicPointer x) k e h = absurd h
shown_there (Y.VaryingLeaf m) (Varying n) (BasicOffset x) k e h = absurd h
shown_there Y.BitLeaf Bit (BasicBit x) k e h = (_, refl)
shown_there Y.BitLeaf Bit (BasicNumber z) k e h = absurd h
shown_there Y.BitLeaf Bit (BasicText x) k e h = absurd h
shown_there Y.BitLeaf Bit (BasicPointer x) k e h = absurd h
shown_there Y.BitLeaf Bit (BasicOffset x) k e h = absurd h
shown_there Y.PointerLeaf kind v k e h = absurd (cc e)
shown_there (Y.OffsetLeaf area) kind v k e h = absurd (cc e)
shown_there (Y.AreaLeaf n) kind v k e h = absurd (cc e)
shown_there t kind v k e h = absurd (cc k)

element_put_there : (whole rest : List S.FormatItem) (now : V.Designated) (c : V.Computational) (w : Ways)
    → HasData whole → S.shown_of (V.first_leaf now).kind (V.value_in now) ≡ Some c
    → There (demand w) 0 1 w.left Anything (S.element_put (around w) whole rest now)
unfolding S.element_put
element_put_there whole rest now c w i e =
    found_there _ c _ _ e (bind_there
    (next_item_there Anything S.control_put whole rest control_put_there (all_go whole) i (all_go rest))
    (λ next j. then_there (shown_by_there c next.0 w) (give_there next.1 tt)))

elements_put_there : (whole rest : List S.FormatItem) (x : V.Designated) (es : List Element) (w : Ways)
    → HasData whole → Every (IsElement is_written x) es
    → There (demand w) 0 1 w.left Anything (S.elements_put (around w) whole rest x es)
unfolding S.elements_put
elements_put_there whole rest x [] w i h = give_there rest tt
elements_put_there whole rest x (e ∷ es) w i h =
    element_then x e w _ (λ s now same valued standing.
    let kind = element_kind is_written x e now h.0 same h.0 in
    let known = form_at h.0.d now.shape e.0 h.0.leaf (same ∙ h.0.shaped) h.0.there in
    let value = valued e.0 (declared_form h.0.leaf) known e.1 in
    let shown = shown_there h.0.leaf.type (V.leaf_at now.shape x.extent e.0).kind
    (V.value_in (element_now x e now)) kind h.0.passes
    (seen_number _ _ _ (subst (λ n. IsOfNumber n (now.values e.0 e.1)) (sym kind) value)) in
    at_state s (bind_there (element_put_there whole rest (element_now x e now) shown.0 w i shown.1)
    (λ rest' k. elements_put_there whole rest' x es w i h.1)))

item_put_there : (whole rest : List S.FormatItem) (x : Y.PutItem) (w : Ways) → HasData whole
    → T.SoundPutItem (here w) x → P.AllowedPutItem w.calls x
    → There (demand w) 0 1 w.left Anything (S.item_put (around w) whole rest x)
unfolding S.item_put
item_put_there whole rest (Y.PutValue e) w i h p =
    bind_there (computational_there e w h p) (λ v k. bind_there
    (next_item_there Anything S.control_put whole rest control_put_there (all_go whole) i (all_go rest))
    (λ next j. then_there (shown_by_there v next.0 w) (give_there next.1 tt)))
item_put_there whole rest (Y.PutAggregate r) w i h p =
    bind_there (designated_there r w h.1 p) (λ x found. elements_put_there whole rest x _ w i
    (elements_declared is_written w r x _ h.0 found))

items_put_there : (whole rest : List S.FormatItem) (xs : List Y.PutItem) (w : Ways) → HasData whole
    → Every (T.SoundPutItem (here w)) xs → Every (P.AllowedPutItem w.calls) xs
    → There (demand w) 0 1 w.left Anything (S.items_put (around w) whole rest xs)
unfolding S.items_put
items_put_there whole rest [] w i h p = give_there tt tt
items_put_there whole rest (x ∷ xs) w i h p =
    bind_there (item_put_there whole rest x w i h.0 p.0) (λ rest' k. items_put_there whole rest' xs w i h.1 p.1)

pairs_put_there : (xs : List Y.PutPair) (w : Ways) → Every (T.SoundPutPair (here w)) xs
    → Every (P.AllowedPutPair w.calls) xs
    → There (demand w) 0 1 w.left Anything (S.pairs_put (around w) xs)
unfolding S.pairs_put
pairs_put_there [] w h p = give_there tt tt
pairs_put_there (x ∷ xs) w h p =
    then_there (items_put_there (S.format_items x.formats) (S.format_items x.formats) x.items w
    (list_has Putting x.formats h.0.0) h.0.1 p.0) (pairs_put_there xs w h.1 p.1)

pub put_there : (skip : Option ℕ) (xs : List Y.PutPair) (w : Ways) → Every (T.SoundPutPair (here w)) xs
    → Every (P.AllowedPutPair w.calls) xs → There (demand w) 0 1 w.left Anything (S.put (around w) skip xs)
unfolding S.put
put_there None xs w h p = pairs_put_there xs w h p
put_there (Some n) xs w h p = then_there (control_put_there (S.SkipItem n)) (pairs_put_there xs w h p)

-- ---- GET

control_got_there : {d : Demand} {few : ℕ} (c : S.ControlItem) → There d 0 1 few Anything (S.control_got c)
unfolding S.control_got
control_got_there c =
    then_there (act_there counted (λ v. refl)) (stored_there (with_input (S.control_read c)) (λ s k. k))

field_taken_there : (width : ℕ) → ThereAround Anything (λ a. S.field_taken a width)
unfolding S.field_taken
field_taken_there width w =
    bind_there looked_there (λ s k. choose_there _ (then_there (act_there counted (λ v. refl)) (then_there
    (stored_there (with_input (behind_field width)) (λ t j. j)) (give_there _ tt)))
    (then_there (raised_there C.Endfile _ w) (give_there None tt)))

-- a number is taken only where it is said that there is one
abbrev FieldFits : Bool → S.Field → Type 0
FieldFits has_fixed (S.NumberField z) = has_fixed ≡ true
FieldFits has_fixed (S.TextField t) = ⊤

abbrev FieldFitsIf : Bool → Option S.Field → Type 0
FieldFitsIf has_fixed None = ⊤
FieldFitsIf has_fixed (Some f) = FieldFits has_fixed f

number_got_there : (has_fixed : Bool) (t : Option (List ℕ)) (w : Ways) → has_fixed ≡ true
    → There (demand w) 0 1 w.left (FieldFitsIf has_fixed) (S.number_got (around w) t)
unfolding S.number_got
number_got_there g None w e = give_there None tt
number_got_there g (Some t) w e = bind_there (or_error_there _ _ w) (λ z k. give_there (Some (S.NumberField z)) e)

text_fits : (has_fixed : Bool) (t : Option (List ℕ)) → FieldFitsIf has_fixed (S.text_got t)
text_fits g None = tt
text_fits g (Some t) = tt

field_got_there : (has_fixed : Bool) (f : S.DataItem) (w : Ways) → GetsBy has_fixed f
    → There (demand w) 0 1 w.left (FieldFitsIf has_fixed) (S.field_got (around w) f)
unfolding S.field_got
field_got_there g (S.FixedItem width) w e = bind_there (field_taken_there width w) (λ t k. number_got_there g t w e)
field_got_there g (S.TextItem (Some width)) w e =
    bind_there (field_taken_there width w) (λ t k. give_there (S.text_got t) (text_fits g t))
field_got_there g (S.TextItem None) w e = absurd e

number_kept_there : (precision : ℕ) (z : ℤ) → ThereAround IsNumber (λ a. S.number_kept a precision z)
unfolding S.number_kept
number_kept_there precision z w = bind_there (value_of_there _ w) (λ y k. give_there _ tt)

not_both : (t : Bool) → not t ≡ true → t ≡ true → ⊥
not_both true e f = cc e
not_both false e f = cc f

-- a field becomes a value of a kind that a declared type has
converted_there : (has_fixed : Bool) (t : Y.LeafType) (kind : LeafKind) (f : S.Field) (w : Ways)
    → kind_number kind ≡ type_number t → is_read has_fixed t ≡ true → FieldFits has_fixed f
    → There (demand w) 0 1 w.left (IsOfNumber (kind_number kind)) (S.field_converted (around w) kind f)
unfolding S.field_converted
converted_there g (Y.FixedLeaf p) (Fixed q) (S.NumberField z) w k e i = number_kept_there q z w
converted_there g (Y.FixedLeaf p) (Fixed q) (S.TextField t) w k e i =
    bind_there (or_error_there _ _ w) (λ z j. number_kept_there q z w)
converted_there g (Y.CharacterLeaf n) (Character m) (S.NumberField z) w k e i = give_there _ tt
converted_there g (Y.CharacterLeaf n) (Character m) (S.TextField t) w k e i = give_there _ tt
converted_there g (Y.VaryingLeaf n) (Varying m) (S.NumberField z) w k e i = give_there _ tt
converted_there g (Y.VaryingLeaf n) (Varying m) (S.TextField t) w k e i = give_there _ tt
converted_there g Y.BitLeaf Bit (S.NumberField z) w k e i = absurd (not_both g e i)
converted_there g Y.BitLeaf Bit (S.TextField t) w k e i = bind_there (or_error_there _ _ w) (λ b j. give_there _ tt)
converted_there g Y.PointerLeaf kind f w k e i = absurd (cc e)
converted_there g (Y.OffsetLeaf area) kind f w k e i = absurd (cc e)
converted_there g (Y.AreaLeaf n) kind f w k e i = absurd (cc e)
converted_there g t kind f w k e i = absurd (cc k)

-- the one leaf of a scalar passes the test that all leaves pass
one_passes : (test : Y.LeafType → Bool) (n i : ℕ) (ls : List Y.Leaf) (leaf : Y.Leaf) → slice_get ls i ≡ Some leaf
    → all_pass test (map (leaf_left n) (take 1 (drop i ls))) ≡ true → test leaf.type ≡ true
one_passes test n i [] leaf e h = absurd (cc e)
one_passes test n zero (l ∷ ls) leaf e h =
    let same : l ≡ leaf = cc e in subst (λ x. test x.type ≡ true) same (by_test (test l.type) h)
  where
    by_test : (t : Bool) → not (not t || false) ≡ true → t ≡ true
    by_test true e = refl
    by_test false e = absurd (cc e)
one_passes test n (suc i) (l ∷ ls) leaf e h = one_passes test n i ls leaf e h

scalar_read : (has_fixed : Bool) (w : Ways) (r : Y.Reference) (type : Y.LeafType) (s : IsScalar (here w) type r)
    → T.PassesTest (here w) (is_read has_fixed) r → is_read has_fixed s.leaf.type ≡ true
scalar_read g w (Y.Referring v locator part subscripts) type s h =
    let same : h.0.d ≡ s.designates.d = cc (h.0.declared.found, s.designates.declared.found) in
    one_passes (is_read g) (given_in subscripts) part.first s.designates.d.leaves s.leaf s.one.leaf_is
    (subst (λ c. all_pass (is_read g) (map (leaf_left (given_in subscripts)) (take c
    (drop part.first s.designates.d.leaves))) ≡ true) s.one.one
    (subst (λ d. all_pass (is_read g) (map (leaf_left (given_in subscripts)) (take part.count
    (drop part.first d.leaves))) ≡ true) same h.1))

scalar_got_there : (has_fixed : Bool) (r : Y.Reference) (f : S.Field) (w : Ways)
    → T.SoundGetItem (here w) has_fixed (Y.GetScalar r) → P.AllowedReference w.calls r → FieldFits has_fixed f
    → There (demand w) 0 1 w.left Anything (S.scalar_got (around w) r f)
unfolding S.scalar_got
scalar_got_there g (Y.Referring v locator part subscripts) f w h p i =
    let s = h.0.1 in
    found_there _ s.leaf.type _ _
    (ap (S.type_of_first part) s.designates.declared.found ∙ ap S.type_of_leaf s.one.leaf_is)
    (bind_there (converted_there g s.leaf.type (D.kind_of [] s.leaf.type) f w (kind_declared [] s.leaf.type)
    (scalar_read g w (Y.Referring v locator part subscripts) h.0.0 s h.1.0) i)
    (λ y k. designated_then (Y.Referring v locator part subscripts) w _ h.1.1 p
    (λ t x found standing. element_stored_at w t x y standing found.1
    (scalar_fits w (Y.Referring v locator part subscripts) h.0.0 x y s found
    (subst (λ n. IsOfNumber n y) (kind_declared [] s.leaf.type ∙ ap type_number s.type_is) k)))))

-- the rest of a format list, where the input lasted
abbrev RestIf : Bool → Option (List S.FormatItem) → Type 0
RestIf has_fixed None = ⊤
RestIf has_fixed (Some xs) = Every (Goes (GetsBy has_fixed)) xs

scalar_if_got_there : (has_fixed : Bool) (r : Y.Reference) (rest : List S.FormatItem) (f : Option S.Field) (w : Ways)
    → T.SoundGetItem (here w) has_fixed (Y.GetScalar r) → P.AllowedReference w.calls r → FieldFitsIf has_fixed f
    → Every (Goes (GetsBy has_fixed)) rest
    → There (demand w) 0 1 w.left (RestIf has_fixed) (S.scalar_if_got (around w) r rest f)
unfolding S.scalar_if_got
scalar_if_got_there g r rest None w h p i j = give_there None tt
scalar_if_got_there g r rest (Some f) w h p i j =
    then_there (scalar_got_there g r f w h p i) (give_there (Some rest) j)

-- a format list by which GET may go
record GetList (has_fixed : Bool) (whole : List S.FormatItem) : Type 0 where
  gets : Every (Goes (GetsBy has_fixed)) whole
  has : HasData whole

element_if_got_there : (has_fixed : Bool) (x : V.Designated) (e : Element) (rest : List S.FormatItem)
    (f : Option S.Field) (w : Ways) → IsElement (is_read has_fixed) x e → FieldFitsIf has_fixed f
    → Every (Goes (GetsBy has_fixed)) rest
    → There (demand w) 0 1 w.left (RestIf has_fixed) (S.element_if_got (around w) x e rest f)
unfolding S.element_if_got
element_if_got_there g x e rest None w h i j = give_there None tt
element_if_got_there g x e rest (Some f) w h i j =
    let kind = element_kind (is_read g) x e x.generation h refl h in
    bind_there (converted_there g h.leaf.type _ f w kind h.passes i) (λ v k. element_then x e w _
    (λ s now same valued standing. then_give_at s _ (Some rest) j
    (element_stored_at w s (element_now x e now) v standing valued (λ a known.
    let is : declared_form h.leaf ≡ a =
    form_known h.d now.shape e.0 h.leaf a (same ∙ h.shaped) h.there known in
    subst (λ n. IsOfNumber n v) (kind ∙ ap (λ y. y.kind) is) k))))

more_elements_there : {d : Demand} {few : ℕ} (has_fixed : Bool) (rest : Option (List S.FormatItem))
    (next : List S.FormatItem → Meaning (Option (List S.FormatItem))) → RestIf has_fixed rest
    → ((r : List S.FormatItem) → Every (Goes (GetsBy has_fixed)) r → There d 0 1 few (RestIf has_fixed) (next r))
    → There d 0 1 few (RestIf has_fixed) (given rest next (give None))
unfolding given
more_elements_there g None next h a = give_there None tt
more_elements_there g (Some rest) next h a = a rest h

elements_got_there : (has_fixed : Bool) (whole rest : List S.FormatItem) (x : V.Designated) (es : List Element)
    (w : Ways) → GetList has_fixed whole → Every (Goes (GetsBy has_fixed)) rest
    → Every (IsElement (is_read has_fixed) x) es
    → There (demand w) 0 1 w.left (RestIf has_fixed) (S.elements_got (around w) whole rest x es)
unfolding S.elements_got
elements_got_there g whole rest x [] w l j h = give_there (Some rest) j
elements_got_there g whole rest x (e ∷ es) w l j h =
    bind_there (next_item_there (GetsBy g) S.control_got whole rest control_got_there l.gets l.has j)
    (λ next k. bind_there (field_got_there g next.0 w k.0)
    (λ f i. bind_there (element_if_got_there g x e next.1 f w h.0 i k.1)
    (λ rest' m. more_elements_there g rest' _ m (λ r n. elements_got_there g whole r x es w l n h.1))))

item_got_there : (has_fixed : Bool) (whole rest : List S.FormatItem) (x : Y.GetItem) (w : Ways)
    → GetList has_fixed whole → Every (Goes (GetsBy has_fixed)) rest → T.SoundGetItem (here w) has_fixed x
    → P.AllowedGetItem w.calls x → There (demand w) 0 1 w.left (RestIf has_fixed) (S.item_got (around w) whole rest x)
unfolding S.item_got
item_got_there g whole rest (Y.GetScalar r) w l j h p =
    bind_there (next_item_there (GetsBy g) S.control_got whole rest control_got_there l.gets l.has j)
    (λ next k. bind_there (field_got_there g next.0 w k.0) (λ f i. scalar_if_got_there g r next.1 f w h p i k.1))
item_got_there g whole rest (Y.GetAggregate r) w l j h p =
    bind_there (designated_there r w h.1 p) (λ x found. elements_got_there g whole rest x _ w l j
    (elements_declared (is_read g) w r x _ h.0 found))

-- further items, where the input lasted
more_got_there : {d : Demand} {few : ℕ} (has_fixed : Bool) (rest : Option (List S.FormatItem))
    (next : List S.FormatItem → Meaning Bool) → RestIf has_fixed rest
    → ((r : List S.FormatItem) → Every (Goes (GetsBy has_fixed)) r → There d 0 1 few Anything (next r))
    → There d 0 1 few Anything (given rest next (give false))
unfolding given
more_got_there g None next h a = give_there false tt
more_got_there g (Some rest) next h a = a rest h

items_got_there : (has_fixed : Bool) (whole rest : List S.FormatItem) (xs : List Y.GetItem) (w : Ways)
    → GetList has_fixed whole → Every (Goes (GetsBy has_fixed)) rest → Every (T.SoundGetItem (here w) has_fixed) xs
    → Every (P.AllowedGetItem w.calls) xs → There (demand w) 0 1 w.left Anything (S.items_got (around w) whole rest xs)
unfolding S.items_got
items_got_there g whole rest [] w l j h p = give_there true tt
items_got_there g whole rest (x ∷ xs) w l j h p =
    bind_there (item_got_there g whole rest x w l j h.0 p.0) (λ rest' k. more_got_there g rest' _ k
    (λ r i. items_got_there g whole r xs w l i h.1 p.1))

pairs_got_there : (xs : List Y.GetPair) (w : Ways) → Every (T.SoundGetPair (here w)) xs
    → Every (P.AllowedGetPair w.calls) xs
    → There (demand w) 0 1 w.left Anything (S.pairs_got (around w) xs)
unfolding S.pairs_got
pairs_got_there [] w h p = give_there tt tt
pairs_got_there (x ∷ xs) w h p =
    let gets = formats_get (holds_fixed x.formats) x.formats h.0.0.formats_are (λ e. e) in
    bind_there (items_got_there (holds_fixed x.formats) (S.format_items x.formats) (S.format_items x.formats) x.items w
    (record { gets = gets; has = list_has Getting x.formats h.0.0 }) gets h.0.1 p.0)
    (λ lasted k. choose_there lasted (pairs_got_there xs w h.1 p.1) (give_there tt tt))

pub get_there : (skip : Option ℕ) (xs : List Y.GetPair) (w : Ways) → Every (T.SoundGetPair (here w)) xs
    → Every (P.AllowedGetPair w.calls) xs → There (demand w) 0 1 w.left Anything (S.get (around w) skip xs)
unfolding S.get
get_there None xs w h p = pairs_got_there xs w h p
get_there (Some n) xs w h p = then_there (control_got_there (S.SkipItem n)) (pairs_got_there xs w h p)
