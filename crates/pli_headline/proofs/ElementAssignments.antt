-- Assignments to elements of arrays of a block, and to what a reference to a scalar or an element designates.
use Rattle.std.proofs.Common.{◌≡◌, ℕ, suc, ◌+◌, ◌^◌, ◌<◌, ◌≤◌, inl, inr, List, ◌∷◌, ◌++◌, length, true, refl, sym, ap, ◌∙◌, subst, arith}
use Rattle.std.specs.Prelude.{ℤ, max}
use Rattle.std.proofs.Math.Nat.{le-max_right}
use Rattle.rv_meaning.specs.declared.instr.Instr.{Instr}
use Rattle.pli_typing.specs.Signatures.{Bounds}
use Rattle.pli_typing.specs.TypedTree as Y
use Rattle.pli_meaning.specs.World.{counted}
use Rattle.pli_meaning.specs.Contents.{is_within, element_place}
use Rattle.pli_meaning.specs.StorageState.{State, with_world}
use Rattle.pli_meaning.specs.Control.{Meaning, act, ◌>>=◌, ◌>>◌}
use Rattle.pli_meaning.specs.Raising.{Around, at_line}
use Rattle.pli_meaning.specs.Placing as P
use Rattle.pli_meaning.specs.Evaluating as V
use Rattle.pli_meaning.specs.Executing as M
use Rattle.pli_serving.specs.ServiceState.{Services}
use Rattle.pli_coding.specs.Assembly.{size_of}
use Rattle.pli_coding.specs.Allocating.{act_code}
use Rattle.pli_coding.specs.Environments.{Environment}
use Rattle.pli_coding.specs.Expressions.{given_in, stored_code}
use Rattle.pli_coding.specs.Storing.{word_stored, stored_into, assigned_code}
use Rattle.pli_coding.specs.Linking.{Links}
use Rattle.temporary_bounds.specs.WordBounds.{number_words, bit_words, reference_words, subscripts_words}
use Rattle.temporary_bounds.specs.Spare.{spare}
use Rattle.pli_headline.specs.ProvedSoFar.{Names, Types, text_leaf, IsPart, IsAssigned, AreSubscripts, IsProvedNumber, AreProvedNumbers, IsProvedBit}
use Rattle.pli_headline.proofs.Storages.{storage, Storage, Serials, stored_changed}
use Rattle.run_steps.specs.Engine.{address}
use Rattle.run_steps.proofs.Linking.{size_append}
use Rattle.run_steps.proofs.Jumps.{front_of, back_of}
use Rattle.pli_headline.proofs.Serving.{Serving}
use Rattle.pli_headline.proofs.Acts.{acted, act_piece}
use Rattle.pli_headline.proofs.Scalars.{Values, Fits, value_as}
use Rattle.pli_headline.proofs.Expressions.{Setting, subscripts_do}
use Rattle.pli_headline.proofs.Assignments.{Stores, number_stores, bit_stores}
use Rattle.pli_headline.proofs.ArrayPlaces.{count_some}
use Rattle.pli_headline.proofs.ArrayMeant.{element, designated_element, element_state}
use Rattle.pli_headline.proofs.ArrayExpressions.{AllEvaluate}
use Rattle.pli_headline.proofs.ArrayAssignments.{element_assigned_piece}
use Rattle.pli_headline.proofs.ArrayScopes.{IsArrayAt, with_element_of, array_scope}
use Rattle.pli_headline.proofs.ArrayStates.{scalar_apart, scalar_beside, text_beside, arrays_after}
use Rattle.pli_headline.proofs.Asides.{asides_changed}
use Rattle.pli_headline.proofs.Entered.{Frames}
use Rattle.pli_headline.proofs.Statements.{Block, Standing, AllHold, scope_of, Does, counted_all, assign_number_does, assign_bit_does}
use Rattle.run_steps.proofs.Reach.{before_closed, comes_on}
use Rattle.pli_headline.proofs.TextArrayMeant.{texts_aside}
use Rattle.pli_headline.proofs.TextArrayStates.{texts_apart}

-- what variables hold after an element is assigned
pub element_all : {frames : Frames} {serials : Serials} {xs : Storage} {levels : List ℕ} {s : State} {block : Names} {types : Types} {n : Values} (j : ℕ) {type : Y.LeafType} {b : Bounds} {bs : List Bounds} (is : List ℤ) (z : ℤ) (below : IsArrayAt types j type b bs) → is_within (b ∷ bs) is ≡ true → Fits type z → (all : AllHold frames serials xs levels s block types n) → AllHold frames serials xs levels (element_state s type (b ∷ bs) (serials.of j) (all.arrays j type b bs below).values is z) block types (with_element_of n j (element_place (b ∷ bs) is) z)
element_all {frames = frames} {serials = serials} {s = s} {types = types} {n = n} j {type} {b} {bs} is z below within fits all =
    let h = all.arrays j type b bs below in
    let change = P.with_element (designated_element type (b ∷ bs) (serials.of j) h.values is) (value_as type z) in
    record {
      numbers = λ i c numeric. scalar_beside (serials.of j) change (all.stored.apart i j c.1 below.0 (scalar_apart types i j c.0 type b bs below.0 c.1)) (all.numbers i c numeric);
      texts = λ i varying most at. text_beside (serials.of j) change (all.stored.apart i j at below.0 (scalar_apart types i j (text_leaf varying most) type b bs below.0 at)) (all.texts i varying most at);
      arrays = λ i other c cs at. arrays_after serials.of types n is z below within fits h i other c cs at (λ e. all.stored.apart i j at.0 below.0 e) (all.arrays i other c cs at);
      text_arrays = λ i varying most c cs at. texts_aside (serials.of j) change (all.stored.apart i j at below.0 (texts_apart types i j type b bs varying most c cs below at)) (all.text_arrays i varying most c cs at);
      entered = all.entered;
      framed = all.framed;
      kinds = all.kinds;
      units = all.units;
      aside = asides_changed j change below.0 all.aside;
      stored = stored_changed (serials.of j) change (λ g. refl) all.stored;
    }

pub element_assign_does : {e : Environment} {block : Names} {types : Types} (bl : Block e block types) (links : Links)
    (code : List Instr) (routines : Standing bl links code) (around : Around) (j : ℕ) {type : Y.LeafType} (b : Bounds)
    (bs : List Bounds) (first : Y.Number) (rest : Y.Numbers) (source : Y.Stored) (line due : ℕ)
    (below : IsArrayAt types j type b bs) → given_in rest ≡ length bs
    → ((v : Services) (s : State) (k : ℕ) (n : Values)
    → AllHold bl.frames bl.serials (storage v) (e.level ∷ bl.depths) s block types n → Serving k s v line
    → Stores links code (bl.ground n) v s k due type (λ taken. stored_code e taken source)
    (V.stored_value (at_line around line) source))
    → ((v : Services) (s : State) (k : ℕ) (n : Values)
    → AllHold bl.frames bl.serials (storage v) (e.level ∷ bl.depths) s block types n → Serving k s v line
    → AllEvaluate links code (bl.ground n) v s k e (at_line around line) (Y.NumberThen first rest))
    → stored_into e bl.taken (element block j first rest) source ≡ word_stored e bl.taken (element block j first rest)
    → bl.taken.words + due ≤ bl.words + spare bl.taken
    → bl.taken.words + suc (subscripts_words (Y.NumberThen first rest)) ≤ bl.words + spare bl.taken → line < 2 ^ 31
    → Does bl links code around.turns (act_code line ++ assigned_code e bl.taken (element block j first rest) source)
    (M.statement around (Y.Assign (element block j first rest) source line))
unfolding M.statement ◌>>=◌ ◌>>◌
element_assign_does {e} {block} {types} bl links code routines around j {type} b bs first rest source line due below many stores subscripts into room some fits =
    record {
      does = λ {i} {s} {v} {h} {t} {aims} closed old n f k l serving all at goal more.
          let front = act_code line in
          let target = element block j first rest in
          let behind = assigned_code e bl.taken target source in
          let here = at_line around line in
          let next' : Unit {0} → Meaning (Unit {0}) = λ u. (V.stored_value here source) >>= (λ y. M.assigned here target y) in
          let size = size_append front behind in
          let place : i + size_of front + size_of behind ≡ i + size_of (front ++ behind) = omega (arith, size) in
          let w = bl.words_are n in
          comes_on k (act counted k s) next'
          (act_piece (before_closed k next' closed) f line old k fits (front_of front behind l) serving at
          (λ f1 serving1 at1.
          let s1 = with_world (counted s.world) s in
          let all1 : AllHold bl.frames bl.serials (storage v) (e.level ∷ bl.depths) s1 block types n = counted_all _ all in
          let mine = all1.arrays j type b bs below in
          let on = bl.arrays j type b bs below in
          element_assigned_piece (λ z p. bl.ground (with_element_of n j p z)) closed routines.raises (bl.temps n) (array_scope on n mine (bl.reaches n j below.0)) f1 here bl.taken k due (subscripts_words (Y.NumberThen first rest)) first rest source
          (stores _ s1 k n all1 serving1) into (subscripts _ s1 k n all1 serving1) (ap (λ m. suc m) many)
          (omega (arith, room, w)) (omega (arith, some, w)) serving1
          (λ z p base h'. bl.same n (with_element_of n j p z) base h')
          (λ z p fits' inside t' base m len o. on.writes n p z inside (mine.fits p inside) fits' t' base m len o)
          (back_of front behind l) at1
          (λ z is f2 h2 t2 fits2 inside stays2 at2.
          let s2 = element_state s1 type (b ∷ bs) (bl.serials.of j) mine.values is z in
          subst (λ u. aims.done u f2 (acted line v) tt s2) (sym place)
          (goal s2 (acted line v) line (with_element_of n j (element_place (b ∷ bs) is) z) h2 t2 f2
          (record { world = serving1.world; running = serving1.running; line_is = serving1.line_is; input = serving1.input; allowed = serving1.allowed; fits = serving1.fits; nested = serving1.nested; waiting = serving1.waiting; places = serving1.places })
          (element_all j is z below inside fits2 all1)
          stays2
          (λ base. record { pc = (at2 base).pc ∙ ap (address base) place; holds = (at2 base).holds })))));
    }

-- ---- a scalar or an element

pub setting_at : {e : Environment} {block : Names} {types : Types} (bl : Block e block types) {links : Links} {code : List Instr} (routines : Standing bl links code) (around : Around) {v : Services} {s : State} {k : ℕ} (n : Values) → AllHold bl.frames bl.serials (storage v) (e.level ∷ bl.depths) s block types n → Serving k s v around.line → Setting links code (bl.ground n) v s k e block types n around
setting_at bl routines around n all serving =
    record { routines = routines.raises; constants = routines.constants n; temps = bl.temps n; scope = scope_of bl n all; serving = serving }

-- what a reference takes is enough for its subscripts
pub subscripts_fit : (block : Names) (j : ℕ) (first : Y.Number) (rest : Y.Numbers) (r : Y.Reference) (taken words : ℕ)
    → r ≡ element block j first rest → taken + suc (reference_words r) ≤ words
    → taken + suc (subscripts_words (Y.NumberThen first rest)) ≤ words
subscripts_fit block j first rest r taken words e room =
    let most = le-max_right 0 (0 + subscripts_words (Y.NumberThen first rest)) in
    let same = ap reference_words e in
    omega (arith, room, most, same)

pub assign_number_part_does : {e : Environment} {block : Names} {types : Types} (bl : Block e block types)
    (links : Links) (code : List Instr) (routines : Standing bl links code) (around : Around) (r : Y.Reference) (p : ℕ)
    (x : Y.Number) (line : ℕ) → IsAssigned block types (Y.FixedLeaf p) r → IsProvedNumber block types x
    → bl.taken.words + max 1 (number_words x) ≤ bl.words + spare bl.taken
    → bl.taken.words + suc (reference_words r) ≤ bl.words + spare bl.taken → line < 2 ^ 31
    → Does bl links code around.turns (act_code line ++ assigned_code e bl.taken r (Y.StoredNumber p x))
    (M.statement around (Y.Assign r (Y.StoredNumber p x) line))
assign_number_part_does {e} {block} {types} bl links code routines around r p x line target is room more fits = by_part target.0
  where
    by_part : IsPart block types (Y.FixedLeaf p) r → Does bl links code around.turns (act_code line ++ assigned_code e bl.taken r (Y.StoredNumber p x)) (M.statement around (Y.Assign r (Y.StoredNumber p x) line))
    by_part (inl o) = assign_number_does bl links code routines around r p x line o is room fits
    by_part (inr o) =
        let xs = Y.NumberThen o.first o.rest in
        let are : AreProvedNumbers block types xs = subst (AreSubscripts block types) o.is target.1 in
        let some = count_some (o.bound ∷ o.bounds) (bl.arrays o.index (Y.FixedLeaf p) o.bound o.bounds (o.declared, tt)).bounds in
        subst (λ q. Does bl links code around.turns (act_code line ++ assigned_code e bl.taken q (Y.StoredNumber p x)) (M.statement around (Y.Assign q (Y.StoredNumber p x) line))) (sym o.is)
        (element_assign_does bl links code routines around o.index o.bound o.bounds o.first o.rest (Y.StoredNumber p x) line (max 1 (number_words x)) (o.declared, tt) o.many
        (λ v s k n all serving. number_stores {e = e} {block = block} {types = types} {held = n} {around = at_line around line} p x ((all.arrays o.index (Y.FixedLeaf p) o.bound o.bounds (o.declared, tt)).fits 0 some).0 (setting_at bl routines (at_line around line) n all serving) is)
        (λ v s k n all serving. subscripts_do xs (setting_at bl routines (at_line around line) n all serving) are)
        refl room (subscripts_fit block o.index o.first o.rest r bl.taken.words (bl.words + spare bl.taken) o.is more)
        fits)

pub assign_bit_part_does : {e : Environment} {block : Names} {types : Types} (bl : Block e block types) (links : Links)
    (code : List Instr) (routines : Standing bl links code) (around : Around) (r : Y.Reference) (x : Y.Bit) (line : ℕ)
    → IsAssigned block types Y.BitLeaf r → IsProvedBit block types x
    → bl.taken.words + suc (reference_words r) ≤ bl.words + spare bl.taken
    → bl.taken.words + bit_words x ≤ bl.words + spare bl.taken → line < 2 ^ 31
    → Does bl links code around.turns (act_code line ++ assigned_code e bl.taken r (Y.StoredBit x))
    (M.statement around (Y.Assign r (Y.StoredBit x) line))
assign_bit_part_does {e} {block} {types} bl links code routines around r x line target is more room fits = by_part target.0
  where
    by_part : IsPart block types Y.BitLeaf r → Does bl links code around.turns (act_code line ++ assigned_code e bl.taken r (Y.StoredBit x)) (M.statement around (Y.Assign r (Y.StoredBit x) line))
    by_part (inl o) = assign_bit_does bl links code routines around r x line o is (omega (arith, more)) room fits
    by_part (inr o) =
        let xs = Y.NumberThen o.first o.rest in
        let are : AreProvedNumbers block types xs = subst (AreSubscripts block types) o.is target.1 in
        subst (λ q. Does bl links code around.turns (act_code line ++ assigned_code e bl.taken q (Y.StoredBit x)) (M.statement around (Y.Assign q (Y.StoredBit x) line))) (sym o.is)
        (element_assign_does bl links code routines around o.index o.bound o.bounds o.first o.rest (Y.StoredBit x) line (bit_words x) (o.declared, tt) o.many
        (λ v s k n all serving. bit_stores {e = e} {block = block} {types = types} {held = n} {around = at_line around line} x (setting_at bl routines (at_line around line) n all serving) is)
        (λ v s k n all serving. subscripts_do xs (setting_at bl routines (at_line around line) n all serving) are)
        refl room (subscripts_fit block o.index o.first o.rest r bl.taken.words (bl.words + spare bl.taken) o.is more)
        fits)
