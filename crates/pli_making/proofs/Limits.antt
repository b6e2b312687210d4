-- The limit of AUTOMATIC variables, and variables that can be made below it.
use Rattle.std.proofs.Common.{◌≡◌, ℕ, zero, suc, ◌+◌, ◌-◌, ◌<◌, ◌≤◌, ◌^◌, pos, List, [], ◌∷◌, length, Option, Some, None, Result, Err, Bool, true, false, refl, sym, ap, ap₂, subst, ◌∙◌, arith}
use Rattle.std.specs.Prelude.{MatchOption, is_some, min, nat_lt, unwrap_or, ⊤, if◌then◌else◌}
use Rattle.std.proofs.lemmas.Bool.Decides.{nat_tests}
use Rattle.area_keeper.specs.Keeper.{Keeper}
use Rattle.pli_typing.specs.Signatures.{Leaf, capped, footprint, leaves_size}
use Rattle.pli_meaning.specs.Contents.{Generation, Shape, footprint_of, fresh, leaves_with}
use Rattle.pli_meaning.specs.declared.outcome.End.TheVariants as E
use Rattle.pli_meaning.specs.declared.outcome.Limit.TheVariants as L
use Rattle.pli_serving.specs.ActsAndEnds.{run_ended}
use Rattle.pli_serving.specs.Answers.{Answer}
use Rattle.pli_serving.specs.Arguments.{capacity_of}
use Rattle.pli_serving.specs.Finding.{Call}
use Rattle.pli_serving.specs.InitialValues.{Initial, initial_values}
use Rattle.pli_serving.specs.Making.{footprint_of_shape, limited, passes_limit, variable_made}
use Rattle.pli_serving.specs.Templates.{shape_at}
use Rattle.pli_signatures.proofs.Told.{footprint_capped}
use Rattle.pli_types.specs.Templates.{Template}
use Rattle.pli_types.specs.declared.signature.Leaf.{Leaf as LeafHeld}
use Rattle.pli_values.proofs.Calls.{values_anywhere}
use Rattle.pli_values.specs.Beginnings.{leaves_of, shape_of}
use Rattle.pli_values.specs.Calls.{call_of, call_on}
use Rattle.pli_values.specs.LeafLists.{lists_read}
use Rattle.pli_values.specs.Leaves.{leaves_of as leaves_held}
use Rattle.pli_values.specs.View.{layout_of}
use Rattle.pli_values.specs.declared.begun.Begun.{Begun}
use Rattle.pli_values.specs.declared.layout.Layout.{Layout}
use Rattle.pli_values.specs.declared.lists.ItemList.{ItemList}
use Rattle.pli_values.specs.declared.source.Source.{Source}
use Rattle.pli_answering.specs.declared.reply.Refusal.{Refusal}
use Rattle.pli_answering.specs.declared.reply.Refusal.TheVariants as F
use Rattle.pli_storage.specs.declared.held.Held.{Held}
use Rattle.pli_storage.specs.Held.{with_held}
use Rattle.pli_making.specs.Making.{IsFirst, Prepares, Starts, fresh_of, prepared_with, values_made}
use Rattle.pli_making.specs.declared.starting.Started.{Started}
use Rattle.pli_making.specs.declared.wanted.Making.{Making}

pub limit_capped : (all bytes n : ℕ) → all < 2 ^ 64 → bytes ≡ capped n → nat_lt (2 ^ 20) (min (all + bytes) (2 ^ 64 - 1)) ≡ nat_lt (2 ^ 20) (all + n)
limit_capped all bytes n h e = by_test (nat_lt (2 ^ 20) (all + n)) refl
  where
    by_test : (t : Bool) → nat_lt (2 ^ 20) (all + n) ≡ t → nat_lt (2 ^ 20) (min (all + bytes) (2 ^ 64 - 1)) ≡ t
    by_test true t =
        let past : (2 ^ 20) < all + n = grind (arith, nat_tests) in
        let still : (2 ^ 20) < min (all + bytes) (2 ^ 64 - 1) = omega (arith, past, h, e) in
        grind (arith, nat_tests)
    by_test false t =
        let few : all + n ≤ (2 ^ 20) = grind (arith, nat_tests) in
        let still : min (all + bytes) (2 ^ 64 - 1) ≤ (2 ^ 20) = omega (arith, few, e) in
        grind (arith, nat_tests)

-- ---- what a variable counts for

pub footprint_fresh : (b : Begun) (size bytes : ℕ) → IsFirst b → size ≡ capped (leaves_size (leaves_of b)) → bytes ≡ capped (footprint size) → bytes ≡ capped (footprint_of (fresh_of b))
footprint_fresh b size bytes first e f =
    footprint_capped (leaves_size (leaves_of b)) size bytes e f
    ∙ ap (λ z. capped (footprint (leaves_size (leaves_with z (shape_of b))))) first.extent

few_are : (n counts newest : ℕ) → counts ≡ capped n → newest + counts ≤ (2 ^ 20) → n ≡ counts
few_are n counts newest e few = omega (arith, e, few)

pub weight_is : (o : Option Shape) (b : Begun) (counts newest : ℕ) → o ≡ Some (shape_of b) → counts ≡ capped (footprint_of (fresh_of b)) → newest + counts ≤ (2 ^ 20) → footprint_of_shape o ≡ counts
weight_is o b counts newest whole e few = ap footprint_of_shape whole ∙ few_are (footprint_of (fresh_of b)) counts newest e few

pub known_signature : (templates : List Template) (n : ℕ) (s : Shape) → shape_at templates n ≡ Some s → n < length templates
known_signature [] n s e = absurd (cc)
known_signature (t ∷ ts) zero s e = omega arith
known_signature (t ∷ ts) (suc n) s e = let below = known_signature ts n s e in omega (arith, below)

-- ---- past the limit, and within it

pub past_limit : (c : Call) (w : Making) (owner : ℕ) (g : Generation) → true ≡ passes_limit c.services owner g → limited c w.name w.signature w.place owner g ≡ run_ended (E.Limit L.Automatic) c.services
past_limit c w owner g e =
    ap (λ (t : Bool). if t then run_ended (E.Limit L.Automatic) c.services else variable_made c w.name w.signature w.place owner (c.services.serials + 1) g) (sym e)

pub within_limit : (c : Call) (w : Making) (owner : ℕ) (g : Generation) → false ≡ passes_limit c.services owner g → limited c w.name w.signature w.place owner g ≡ prepared_with c w owner g (capacity_of g.shape)
within_limit c w owner g e =
    ap (λ (t : Bool). if t then run_ended (E.Limit L.Automatic) c.services else variable_made c w.name w.signature w.place owner (c.services.serials + 1) g) (sym e)

pub starts_by : (a b : Answer) (c : Call) (w : Making) (owner : ℕ) (r : Result Started Refusal) → a ≡ b → Starts b c w owner r → Starts a c w owner r
starts_by a b c w owner r e h = subst (λ (a : Answer). Starts a c w owner r) (sym e) h

pub not_prepared : (a b : Answer) (c : Call) (w : Making) (owner : ℕ) (refusal : Refusal) → a ≡ b → Prepares b c w owner (Err refusal) → Starts a c w owner (Err refusal)
not_prepared a b c w owner F.Bad e h = e ∙ h
not_prepared a b c w owner F.Memory e h = tt

-- ---- by the INITIAL values

pub values_so : (c : Call) (w : Making) (owner : ℕ) (s : Shape) (o : Option Initial) → is_some o ≡ true → values_made c w owner s o ≡ limited c w.name w.signature w.place owner (fresh s (pos 0) (unwrap_or o []))
values_so c w owner s None e = cc
values_so c w owner s (Some values) e = refl

-- they are read of the memory and where its parts lie
pub values_here : (k : Keeper) (h : Held) (m : List ℕ) (c : Call) (leaves : List Leaf) (at : ℕ) (source : Source) → source.layout ≡ h.layout → source.memory.now ≡ m → initial_values (with_held k h m c) leaves at ≡ initial_values (call_of source) leaves at
values_here k h m c leaves at source e f =
    values_anywhere (with_held k h m c) leaves at
    ∙ ap₂ (λ (l : Layout) (m : List ℕ). initial_values (call_on (layout_of l) m) leaves at) (sym e) (sym f)

-- ---- the lists of INITIAL values, as they were read

pub lists_so : {V : Type 0} (c : Call) (leaves items : List LeafHeld) (at : ℕ) (o : Option V) (lists : V) (list_of : V → List ItemList) (given' : List ItemList) → leaves ≡ items → MatchOption o ⊤ (λ v. lists_read c (leaves_held leaves) (list_of v) ≡ initial_values c (leaves_held leaves) at) → o ≡ Some lists → given' ≡ list_of lists → lists_read c (leaves_held items) given' ≡ initial_values c (leaves_held items) at
lists_so c leaves items at None lists list_of given' same read is e = cc
lists_so c leaves items at (Some v) lists list_of given' same read is e =
    let it : v ≡ lists = cc in
    ap (λ ls. lists_read c (leaves_held ls) given') (sym same)
    ∙ ap (lists_read c (leaves_held leaves)) (e ∙ ap list_of (sym it))
    ∙ read
    ∙ ap (λ ls. initial_values c (leaves_held ls) at) same

pub right_so : {V : Type 0} (c : Call) (leaves items : List LeafHeld) (at : ℕ) (o : Option V) (lists : V) → leaves ≡ items → is_some o ≡ is_some (initial_values c (leaves_held leaves) at) → o ≡ Some lists → is_some (initial_values c (leaves_held items) at) ≡ true
right_so c leaves items at o lists same right is =
    ap (λ ls. is_some (initial_values c (leaves_held ls) at)) (sym same) ∙ sym right ∙ ap is_some is
