-- Assignments of one number or bit to all elements of an array of a block.
use Rattle.std.proofs.Common.{◌≡◌, ℕ, zero, suc, ◌+◌, ◌-◌, ◌*◌, ◌%◌, ◌^◌, ◌<◌, ◌≤◌, List, [], ◌∷◌, ◌++◌, map, Some, Bool, true, false, refl, sym, ap, ◌∙◌, subst, arith, lit<}
use Rattle.std.specs.Prelude.{ℤ, pos, cond, max, ◌==◌, slice_get}
use Rattle.std.proofs.Math.Nat.{le-max_left, le-max_right}
use Rattle.std.proofs.lemmas.Bool.{eqb-true}
use Rattle.rv_meaning.specs.declared.instr.Instr.{Instr}
use Rattle.rv_meaning.specs.Words.{word}
use Rattle.rv_meaning.specs.Memory.{load}
use Rattle.rv_meaning.specs.Machine.{memory_size, store_width}
use Rattle.pli_typing.specs.Signatures.{Bounds, element_count}
use Rattle.pli_typing.specs.TypedTree as Y
use Rattle.pli_meaning.specs.World.{counted}
use Rattle.pli_meaning.specs.BasicValues.{BasicValue}
use Rattle.pli_meaning.specs.DeclaredShapes.{variables_of_block}
use Rattle.pli_meaning.specs.StorageState.{State, with_world}
use Rattle.pli_meaning.specs.Control.{Meaning, act, ◌>>=◌, ◌>>◌}
use Rattle.pli_meaning.specs.Raising.{Around, at_line}
use Rattle.pli_meaning.specs.Evaluating as V
use Rattle.pli_meaning.specs.Executing as M
use Rattle.pli_serving.specs.ServiceState.{Services}
use Rattle.pli_serving.specs.Answers.{Done}
use Rattle.pli_serving.specs.Templates.{template_of, shape_at}
use Rattle.pli_coding.specs.Registers.{a0, a1, a2}
use Rattle.pli_coding.specs.Assembly.{size_of}
use Rattle.pli_coding.specs.Instructions.{number, service}
use Rattle.pli_coding.specs.Allocating.{act_code}
use Rattle.pli_coding.specs.Environments.{Environment, Taken, is_register_left, with_number, save, fetch}
use Rattle.pli_coding.specs.Expressions.{stored_code}
use Rattle.pli_coding.specs.Storing.{elements_takes, elements_code, record_code, record_given}
use Rattle.pli_coding.specs.SignatureTable.{table_of}
use Rattle.pli_coding.specs.Linking.{Links}
use Rattle.temporary_bounds.specs.WordBounds.{number_words, bit_words}
use Rattle.temporary_bounds.specs.Spare.{spare}
use Rattle.temporary_bounds.proofs.Takes.{number_least}
use Rattle.temporary_bounds.proofs.TakesNeeds.{bit_needs, stored_needs}
use Rattle.pli_headline.specs.ProvedSoFar.{Names, Types, Kind, text_leaf, types_of, declared_kind, array_variable, IsWhole, IsProvedNumber, IsProvedBit}
use Rattle.pli_headline.proofs.Storages.{storage, Storage, Serials, stored_changed}
use Rattle.run_steps.specs.Engine.{address}
use Rattle.run_steps.proofs.Linking.{size_append}
use Rattle.run_steps.specs.Items.{Linked}
use Rattle.run_steps.proofs.Jumps.{front_of, back_of}
use Rattle.run_steps.proofs.Numbers.{above_sum, word_small}
use Rattle.run_steps.specs.Bodies.{PlaceFrom}
use Rattle.pli_headline.proofs.Serving.{Serving}
use Rattle.pli_headline.proofs.Acts.{acted, act_piece}
use Rattle.run_steps.specs.Temporaries.{words_with}
use Rattle.run_steps.proofs.Temporaries.{stays_then}
use Rattle.pli_headline.proofs.Scalars.{Values, Fits, fits_wide, store_kind}
use Rattle.pli_headline.proofs.Variables.{whole, own, level_of, data_place}
use Rattle.pli_headline.proofs.Assignments.{Stores, number_stores, bit_stores}
use Rattle.pli_headline.proofs.States.{Holds, one_type}
use Rattle.pli_headline.proofs.TextStates.{KeepsText}
use Rattle.pli_headline.proofs.PlainNumbers.{number_for, Numbered, numbered_shape}
use Rattle.pli_headline.proofs.ArrayPlaces.{count_some}
use Rattle.pli_headline.proofs.ArrayMeant.{HoldsArray, array_shape, array_beside, bounds_back}
use Rattle.pli_headline.proofs.ArrayElements.{IsDeclaredArray}
use Rattle.pli_headline.proofs.ArrayScopes.{IsArrayAt}
use Rattle.pli_headline.proofs.ArrayNames.{place_of_name}
use Rattle.pli_headline.proofs.ArrayStates.{kind_with, scalar_apart, scalar_beside, text_beside}
use Rattle.pli_headline.proofs.ElementAssignments.{setting_at}
use Rattle.pli_headline.proofs.ElementsFilled.{filled, filled_numbers, filled_texts, filled_text_arrays, filled_other, filled_at, stored_from, stands_filled, all_changed, all_state, elements_meant, array_filled}
use Rattle.pli_headline.proofs.ElementsServed.{elements_answer}
use Rattle.pli_headline.proofs.ElementsCode.{filling, filling_is}
use Rattle.pli_headline.proofs.ElementsPieces.{record_there, filling_piece}
use Rattle.pli_headline.proofs.Asides.{asides_changed}
use Rattle.pli_headline.proofs.Entered.{Frames}
use Rattle.pli_headline.proofs.Statements.{Block, Standing, AllHold, Does, counted_all}
use Rattle.run_steps.specs.Reach.{Comes}
use Rattle.run_steps.proofs.Reach.{before_closed, comes_on}
use Rattle.pli_headline.proofs.TextArrayMeant.{HoldsTexts, texts_aside}
use Rattle.pli_headline.proofs.TextArrayStates.{texts_apart}
use Rattle.pli_headline.proofs.TakenRooms.{record_grows}

-- ---- what variables hold then

arrays_by : {s : State} {block : Names} {j serial : ℕ} {type : Y.LeafType} {bs : List Bounds} (q : Bool) (i other' : ℕ) (other : Y.LeafType) (cs : List Bounds) (n : Values) (z : ℤ) → (i == j) ≡ q → (i ≡ j → kind_with other cs ≡ kind_with type bs) → (i ≡ j → other' ≡ serial) → ((i == j) ≡ false → (serial == other') ≡ false) → Fits type z → (h : HoldsArray s block j serial type bs (n.arrays j)) → HoldsArray s block i other' other cs (n.arrays i) → HoldsArray (all_state s type bs serial h.values z) block i other' other cs ((filled n j z 0 (element_count bs)).arrays i)
arrays_by {s} {block} {j} {serial} {type} {bs} true i other' other cs n z e alike same' apart fits h o =
    let same : i ≡ j = eqb-true i j e in
    let k = alike same in
    let s' = all_state s type bs serial h.values z in
    let n' = filled n j z 0 (element_count bs) in
    subst (λ m. HoldsArray s' block i m other cs (n'.arrays i)) (sym (same' same))
    (subst (λ t. HoldsArray s' block i serial t cs (n'.arrays i)) (sym (ap (λ (u : Kind). u.type) k))
    (subst (λ ds. HoldsArray s' block i serial type ds (n'.arrays i)) (sym (ap (λ (u : Kind). u.bounds) k))
    (subst (λ u. HoldsArray s' block u serial type bs (n'.arrays u)) (sym same)
    (array_filled z fits h (n'.arrays j) (λ p below. filled_at n j z 0 (element_count bs) p (omega arith) (omega (arith, below)))))))
arrays_by {s} {block} {j} {serial} {type} {bs} false i other' other cs n z e alike same' apart fits h o =
    subst (λ u. HoldsArray (all_state s type bs serial h.values z) block i other' other cs u) (sym (filled_other n j z 0 (element_count bs) i e))
    (array_beside serial (all_changed type bs serial h.values z) (apart e) o)

pub elements_all : {frames : Frames} {serials : Serials} {xs : Storage} {levels : List ℕ} {s : State} {block : Names} {types : Types} {n : Values} (j : ℕ) {type : Y.LeafType} {b : Bounds} {bs : List Bounds} (z : ℤ) (below : IsArrayAt types j type b bs) → Fits type z → (all : AllHold frames serials xs levels s block types n) → AllHold frames serials xs levels (all_state s type (b ∷ bs) (serials.of j) (all.arrays j type b bs below).values z) block types (filled n j z 0 (element_count (b ∷ bs)))
elements_all {frames = frames} {serials = serials} {s = s} {block = block} {types = types} {n = n} j {type} {b} {bs} z below fits all =
    let h = all.arrays j type b bs below in
    let change = all_changed type (b ∷ bs) (serials.of j) h.values z in
    let s' = all_state s type (b ∷ bs) (serials.of j) h.values z in
    let count = element_count (b ∷ bs) in
    record {
      numbers = λ i c numeric. subst (λ (u : ℕ → ℤ). Holds s' block i (serials.of i) c.0 (u i)) (sym (filled_numbers n j z 0 count)) (scalar_beside (serials.of j) change (all.stored.apart i j c.1 below.0 (scalar_apart types i j c.0 type b bs below.0 c.1)) (all.numbers i c numeric));
      texts = λ i varying most at. subst (λ (u : ℕ → List ℕ). KeepsText s' block i (serials.of i) varying most (u i)) (sym (filled_texts n j z 0 count)) (text_beside (serials.of j) change (all.stored.apart i j at below.0 (scalar_apart types i j (text_leaf varying most) type b bs below.0 at)) (all.texts i varying most at));
      arrays = λ i other c cs at. arrays_by (i == j) i (serials.of i) other (c ∷ cs) n z refl (one_type types i j (kind_with type (b ∷ bs)) (kind_with other (c ∷ cs)) below.0 at.0) (λ e. ap serials.of e) (λ e. all.stored.apart i j at.0 below.0 e) fits h (all.arrays i other c cs at);
      text_arrays = λ i varying most c cs at. subst (λ (u : ℕ → ℕ → List ℕ). HoldsTexts s' block i (serials.of i) varying most (c ∷ cs) (u i)) (sym (filled_text_arrays n j z 0 count)) (texts_aside (serials.of j) change (all.stored.apart i j at below.0 (texts_apart types i j type b bs varying most c cs below at)) (all.text_arrays i varying most c cs at));
      entered = all.entered;
      framed = all.framed;
      kinds = all.kinds;
      units = all.units;
      aside = asides_changed j change below.0 all.aside;
      stored = stored_changed (serials.of j) change (λ g. refl) all.stored;
    }

-- ---- the array's number

type_found : (ds : List Y.DeclaredVariable) (i : ℕ) (d : Y.DeclaredVariable) → slice_get ds i ≡ Some d → slice_get (types_of ds) i ≡ Some (declared_kind d)
type_found [] i d h = absurd (cc h)
type_found (c ∷ ds) zero d h = let e : c ≡ d = cc h in ap (λ u. Some (declared_kind u)) e
type_found (c ∷ ds) (suc i) d h = type_found ds i d h

pub array_numbered : {e : Environment} {block : Names} {types : Types} {bl : Block e block types} {links : Links} {code : List Instr} (s : Standing bl links code) (j : ℕ) (type : Y.LeafType) (bs : List Bounds) → IsDeclaredArray e block j type bs → Numbered (table_of e.program) (record { type = type; bounds = bs })
array_numbered {e} {block} s j type bs declared =
    s.known.numbered (block.at j).number (block.at j).index
    (type_found (variables_of_block e.program (block.at j).number) (block.at j).index (array_variable type bs declared.0) declared.1
    ∙ ap (λ cs. Some (record { type = type; bounds = cs })) (bounds_back bs))

-- ---- places

pub own_place : (at : ℕ) → at % 4 ≡ 0 → 2 ^ 22 ≤ at → at + 40 ≤ memory_size → PlaceFrom at (pos 36) (at + 36)
own_place at whole' above room =
    record {
      small' = lit< tt;
      sums = λ b. above_sum b.at at 36 b.valid.1 (omega (arith, room));
      aligned = omega (arith, whole');
      inside = omega (arith, room);
      above_code = omega (arith, above);
    }

-- ---- the statement

elements_does : {e : Environment} {block : Names} {types : Types} (bl : Block e block types) (links : Links)
    (code : List Instr) (routines : Standing bl links code) (around : Around) (j : ℕ) {type : Y.LeafType} (b : Bounds)
    (bs : List Bounds) (source : Y.Stored) (line due : ℕ) (below : IsArrayAt types j type b bs) → level_of block j ≡ 0
    → ((v : Services) (s : State) (k : ℕ) (n : Values)
    → AllHold bl.frames bl.serials (storage v) (e.level ∷ bl.depths) s block types n → Serving k s v line
    → Stores links code (bl.ground n) v s k due type (λ taken. stored_code e taken source)
    (V.stored_value (at_line around line) source))
    → elements_code e bl.taken (whole (own block j)) source ≡ stored_code e bl.taken source ++
    (save a0 bl.taken ++ (record_code e (with_number bl.taken) (whole (own block j)) ++
    (record_given e (with_number bl.taken) ++ (number a1 0 ++ (fetch a2 bl.taken ++ service 41)))))
    → bl.taken.words + due ≤ bl.words + spare bl.taken → (with_number bl.taken).words + 4 ≤ bl.words → line < 2 ^ 31
    → Does bl links code around.turns (act_code line ++ elements_code e bl.taken (whole (own block j)) source)
    (M.statement around (Y.AssignElements (whole (own block j)) source line))
unfolding M.statement ◌>>=◌ ◌>>◌
elements_does {e} {block} {types} bl links code routines around j {type} b bs source line due below outermost stores into room some fits =
    record {
      does = λ {i} {s} {v} {h} {t} {aims} closed old n f k l serving all at goal more.
          let front = act_code line in
          let target = whole (own block j) in
          let behind = elements_code e bl.taken target source in
          let here = at_line around line in
          let taken = bl.taken in
          let kind : Kind = record { type = type; bounds = b ∷ bs } in
          let num = number_for (table_of e.program) kind in
          let level = level_of block j in
          let place = place_of_name e block j in
          let base = bl.bases j in
          let on = bl.arrays j type b bs below in
          let na = bl.array_names j type b bs below.0 outermost in
          let numbered = array_numbered routines j type (b ∷ bs) on.declared in
          let a = stored_code e taken source in
          let fill = filling taken (with_number taken) (level == e.level) level place num in
          let into' = into ∙ ap (λ c. a ++ c) (filling_is e taken block j type (b ∷ bs) below.1 numbered.held.0 on.bounds routines.known.table on.declared) in
          let next' : Unit {0} → Meaning (Unit {0}) = λ u. (V.stored_value here source) >>= (λ y. M.elements_assigned here target y) in
          let last : BasicValue → Meaning (Unit {0}) = λ y. M.elements_assigned here target y in
          let size = size_append front behind in
          let size' = size_append a fill in
          let size'' = ap size_of into' in
          let there : i + size_of front + size_of a + size_of fill ≡ i + size_of (front ++ behind) = omega (arith, size, size', size'') in
          let w = bl.words_are n in
          let g = bl.ground n in
          let count = element_count (b ∷ bs) in
          let least = number_least taken in
          let free = bl.ends in
          let under = on.under in
          let above = g.above_code in
          let inside = g.inside in
          let small' = l.small' in
          let high = na.high in
          let framed = bl.stack.frame_is n in
          let tall = bl.stack.above in
          let few = numbered.few in
          let some' = count_some (b ∷ bs) on.bounds in
          let near : base + place + 16 ≤ 14 * 2 ^ 20 = omega (arith, under, free) in
          let room' : (with_number taken).words + 4 ≤ g.words = omega (arith, some, w) in
          comes_on k (act counted k s) next'
          (act_piece (before_closed k next' closed) f line old k fits (front_of front behind l) serving at
          (λ f1 serving1 at1.
          let s1 = with_world (counted s.world) s in
          let all1 : AllHold bl.frames bl.serials (storage v) (e.level ∷ bl.depths) s1 block types n = counted_all _ all in
          let mine = all1.arrays j type b bs below in
          let l1 = subst (Linked links code (i + size_of front)) into' (back_of front behind l) in
          let v1 = acted line v in
          comes_on k (V.stored_value here source k s1) last
          ((stores v1 s1 k n all1 serving1).does (before_closed k last closed) f1 taken (omega (arith, room, w)) (front_of a fill l1) at1
          (λ z f2 h2 t2 fits2 stays2 at2.
          let x = word z in
          let width = store_width (store_kind type) in
          let n' = filled n j z 0 count in
          let r = g.frame - 4 * ((with_number taken).words + 4) in
          let change : List ℕ → List ℕ = stored_from width (base + data_place e block j) x 0 count in
          let shape : shape_at v1.signatures num ≡ Some (array_shape type (b ∷ bs)) = ap (λ ts. shape_at ts num) (all1.stored.table ∙ ap (λ p. map template_of (table_of p)) bl.named) ∙ numbered_shape (table_of e.program) kind numbered in
          subst (Comes code (i + size_of front + size_of a) f2 v1 aims) (sym (elements_meant here z k mine))
          (filling_piece (bl.ground n') closed (bl.temps n) f2 taken (level == e.level) level base place num x change
          (λ none. omega (arith, least, some, w)) room' few (word_small z (fits_wide type z fits2))
          (bl.reaches n j below.0)
          (own_place base na.aligned high na.room) (omega (arith, near)) (own_place g.frame g.whole (omega (arith, above)) (omega (arith, framed, tall, free)))
          (λ t' b' m held. na.own n t' b' m held)
          (λ t' b' m held. subst (λ u. load 4 m (u + 36) ≡ u) (sym framed) (bl.own n t' b' m held))
          (λ b' h'. bl.same n n' b' h')
          (λ b' m long held.
          elements_answer code v1 m r (base + place) (bl.serials.of j) num type (b ∷ bs) na.living z (omega (arith, above, room', small')) (omega (arith, inside)) (omega (arith, high, small')) (omega (arith, near)) few
          (record_there (bl.temps n) (words_with taken x t2) (with_number taken).words (base + place) num room' (omega (arith, near)) (omega (arith, few)) b' m held)
          (na.names n _ b' m held) shape on.bounds (all1.stored.first (bl.serials.of j) na.living na.lives).0 na.signature fits2
          (let q = na.at in omega (arith, q, under, free, long))
          ∙ ap (λ u. Done v1 (stored_from width u x 0 count m) r 0) na.at)
          (λ b' m long held. stands_filled {ground = bl.ground} on z fits2 n 0 count (omega arith) mine.fits _ b' m long held)
          (back_of a fill l1) at2
          (λ f3 stays3 at3. record {
            to = λ early.
                subst (λ u. aims.done u f3 v1 tt (all_state s1 type (b ∷ bs) (bl.serials.of j) mine.values z)) (sym there)
                (goal (all_state s1 type (b ∷ bs) (bl.serials.of j) mine.values z) v1 line n' _ _ f3
                (record { world = serving1.world; running = serving1.running; line_is = serving1.line_is; input = serving1.input; allowed = serving1.allowed; fits = serving1.fits; nested = serving1.nested; waiting = serving1.waiting; places = serving1.places })
                (elements_all j z below fits2 all1)
                (stays_then stays2 stays3)
                (λ base'. record { pc = (at3 base').pc ∙ ap (address base') there; holds = (at3 base').holds }));
          }))))));
    }

-- ---- of a number or a bit

pub elements_number_does : {e : Environment} {block : Names} {types : Types} (bl : Block e block types) (links : Links)
    (code : List Instr) (routines : Standing bl links code) (around : Around) (r : Y.Reference) (p : ℕ) (x : Y.Number)
    (line : ℕ) → IsWhole block types (Y.FixedLeaf p) r → IsProvedNumber block types x
    → (elements_takes bl.taken r (Y.StoredNumber p x)).words ≤ bl.words → line < 2 ^ 31
    → Does bl links code around.turns (act_code line ++ elements_code e bl.taken r (Y.StoredNumber p x))
    (M.statement around (Y.AssignElements r (Y.StoredNumber p x) line))
elements_number_does {e} {block} {types} bl links code routines around r p x line o is room fits =
    let a = stored_needs bl.taken (Y.StoredNumber p x) in
    let d = record_grows (with_number bl.taken) r in
    let at : IsArrayAt types o.index (Y.FixedLeaf p) o.bound o.bounds = (o.declared, tt) in
    let some = count_some (o.bound ∷ o.bounds) (bl.arrays o.index (Y.FixedLeaf p) o.bound o.bounds at).bounds in
    subst (λ q. Does bl links code around.turns (act_code line ++ elements_code e bl.taken q (Y.StoredNumber p x)) (M.statement around (Y.AssignElements q (Y.StoredNumber p x) line))) (sym o.is)
    (elements_does bl links code routines around o.index o.bound o.bounds (Y.StoredNumber p x) line (max 1 (number_words x)) at o.outermost
    (λ v s k n all serving. number_stores {e = e} {block = block} {types = types} {held = n} {around = at_line around line} p x ((all.arrays o.index (Y.FixedLeaf p) o.bound o.bounds at).fits 0 some).0 (setting_at bl routines (at_line around line) n all serving) is)
    refl (omega (arith, a, room)) (omega (arith, d, room)) fits)

pub elements_bit_does : {e : Environment} {block : Names} {types : Types} (bl : Block e block types) (links : Links)
    (code : List Instr) (routines : Standing bl links code) (around : Around) (r : Y.Reference) (x : Y.Bit) (line : ℕ)
    → IsWhole block types Y.BitLeaf r → IsProvedBit block types x
    → (elements_takes bl.taken r (Y.StoredBit x)).words ≤ bl.words → line < 2 ^ 31
    → Does bl links code around.turns (act_code line ++ elements_code e bl.taken r (Y.StoredBit x))
    (M.statement around (Y.AssignElements r (Y.StoredBit x) line))
elements_bit_does {e} {block} {types} bl links code routines around r x line o is room fits =
    let a = bit_needs bl.taken x in
    let d = record_grows (with_number bl.taken) r in
    let at : IsArrayAt types o.index Y.BitLeaf o.bound o.bounds = (o.declared, tt) in
    subst (λ q. Does bl links code around.turns (act_code line ++ elements_code e bl.taken q (Y.StoredBit x)) (M.statement around (Y.AssignElements q (Y.StoredBit x) line))) (sym o.is)
    (elements_does bl links code routines around o.index o.bound o.bounds (Y.StoredBit x) line (bit_words x) at o.outermost
    (λ v s k n all serving. bit_stores {e = e} {block = block} {types = types} {held = n} {around = at_line around line} x (setting_at bl routines (at_line around line) n all serving) is)
    refl (omega (arith, a, room)) (omega (arith, d, room)) fits)
