-- Assignments of one array of numbers or bits to another with equal bounds.
use Rattle.std.proofs.Common.{◌≡◌, ℕ, ◌+◌, ◌-◌, ◌*◌, ◌^◌, ◌<◌, ◌≤◌, List, ◌∷◌, ◌++◌, map, Some, Bool, true, false, refl, sym, ap, ◌∙◌, subst, arith}
use Rattle.std.specs.Prelude.{ℤ, max, ◌==◌, slice_get}
use Rattle.std.proofs.Math.Nat.{le-max_right}
use Rattle.std.proofs.lemmas.Bool.{eqb-true}
use Rattle.rv_meaning.specs.declared.instr.Instr.{Instr}
use Rattle.rv_meaning.specs.Words.{word}
use Rattle.rv_meaning.specs.Memory.{load}
use Rattle.rv_meaning.specs.Machine.{store_width, load_width, extended}
use Rattle.pli_typing.specs.Signatures.{Bounds, element_count}
use Rattle.pli_typing.specs.TypedTree as Y
use Rattle.pli_meaning.specs.World.{counted}
use Rattle.pli_meaning.specs.BasicValues.{BasicValue}
use Rattle.pli_meaning.specs.Contents.{is_within, element_place}
use Rattle.pli_meaning.specs.StorageState.{State, with_world}
use Rattle.pli_meaning.specs.Control.{Meaning, act, ◌>>=◌, ◌>>◌}
use Rattle.pli_meaning.specs.Raising.{Around, at_line}
use Rattle.pli_meaning.specs.Placing as P
use Rattle.pli_meaning.specs.Executing as M
use Rattle.pli_serving.specs.Answers.{Done}
use Rattle.pli_serving.specs.Templates.{template_of, shape_at}
use Rattle.pli_coding.specs.Assembly.{size_of}
use Rattle.pli_coding.specs.Allocating.{act_code}
use Rattle.pli_coding.specs.Environments.{Environment}
use Rattle.pli_coding.specs.Storing.{aggregate_code}
use Rattle.pli_coding.specs.SignatureTable.{table_of}
use Rattle.pli_coding.specs.Linking.{Links}
use Rattle.pli_headline.specs.ProvedSoFar.{Names, Types, Kind, text_leaf, AreAlike}
use Rattle.pli_headline.proofs.Storages.{storage, Storage, Serials, stored_changed}
use Rattle.run_steps.specs.Engine.{address}
use Rattle.run_steps.proofs.Linking.{size_append}
use Rattle.run_steps.specs.Items.{Linked}
use Rattle.run_steps.proofs.Jumps.{front_of, back_of}
use Rattle.pli_headline.proofs.Acts.{acted, act_piece}
use Rattle.pli_headline.proofs.Scalars.{IsNumeric, by_type, Values, value_as, Fits, load_kind, store_kind, element_numeric}
use Rattle.pli_headline.proofs.Variables.{whole, own, level_of, data_place}
use Rattle.pli_headline.proofs.States.{Holds, one_type}
use Rattle.pli_headline.proofs.TextStates.{KeepsText}
use Rattle.pli_headline.proofs.PlainNumbers.{number_for, numbered_shape}
use Rattle.pli_headline.proofs.ArrayMeant.{HoldsArray, array_shape, array_beside, same_array}
use Rattle.pli_headline.proofs.ArrayElements.{size_constant}
use Rattle.pli_headline.proofs.ArrayScopes.{IsArrayAt}
use Rattle.pli_headline.proofs.ArrayNames.{ArrayNamed, place_of_name}
use Rattle.pli_headline.proofs.ArrayStates.{kind_with, scalar_apart, scalar_beside, text_beside}
use Rattle.pli_headline.proofs.ElementsPieces.{record_there}
use Rattle.pli_headline.proofs.ElementsAssignments.{array_numbered, own_place}
use Rattle.pli_headline.proofs.Asides.{asides_changed}
use Rattle.pli_headline.proofs.Entered.{Frames}
use Rattle.pli_headline.proofs.Statements.{Block, Standing, AllHold, Does, counted_all}
use Rattle.run_steps.specs.Reach.{Comes}
use Rattle.run_steps.proofs.Reach.{before_closed, comes_on}
use Rattle.pli_headline.proofs.TextArrayMeant.{HoldsTexts, texts_aside}
use Rattle.pli_headline.proofs.TextArrayStates.{texts_apart}
use Rattle.pli_headline.proofs.CopiesFilled.{copied, copied_numbers, copied_texts, copied_text_arrays, copied_other, copied_at, numbers_from, numbers_stand, copy_changed, copy_state, given_by_source, copy_meant, array_copied}
use Rattle.pli_headline.proofs.CopiesServed.{array_taken, take_answer, put_answer}
use Rattle.pli_headline.proofs.CopiesCode.{place_with, copying, copying_is}
use Rattle.pli_headline.proofs.CopiesPieces.{IsReached, KnownFrame, copying_piece}

-- ---- what variables hold then

copies_by : {s : State} {block : Names} {j serial : ℕ} {type : Y.LeafType} {bs : List Bounds} (q : Bool) (i other' : ℕ) (other : Y.LeafType) (cs : List Bounds) (n : Values) (x : ℕ → ℤ) (given : ℕ → List ℤ → BasicValue) → (i == j) ≡ q → (i ≡ j → kind_with other cs ≡ kind_with type bs) → (i ≡ j → other' ≡ serial) → ((i == j) ≡ false → (serial == other') ≡ false) → ((p : ℕ) → p < element_count bs → Fits type (x p)) → ((is : List ℤ) → is_within bs is ≡ true → given 0 is ≡ value_as type (x (element_place bs is))) → (h : HoldsArray s block j serial type bs (n.arrays j)) → HoldsArray s block i other' other cs (n.arrays i) → HoldsArray (copy_state s type bs serial h.values given) block i other' other cs ((copied n j x 0 (element_count bs)).arrays i)
copies_by {s} {block} {j} {serial} {type} {bs} true i other' other cs n x given e alike same' apart fits each h o =
    let same : i ≡ j = eqb-true i j e in
    let k = alike same in
    let s' = copy_state s type bs serial h.values given in
    let n' = copied n j x 0 (element_count bs) in
    subst (λ m. HoldsArray s' block i m other cs (n'.arrays i)) (sym (same' same))
    (subst (λ t. HoldsArray s' block i serial t cs (n'.arrays i)) (sym (ap (λ (u : Kind). u.type) k))
    (subst (λ ds. HoldsArray s' block i serial type ds (n'.arrays i)) (sym (ap (λ (u : Kind). u.bounds) k))
    (subst (λ u. HoldsArray s' block u serial type bs (n'.arrays u)) (sym same)
    (array_copied x given fits each h (n'.arrays j) (λ p below. copied_at n j x 0 (element_count bs) p (omega arith) (omega (arith, below)))))))
copies_by {s} {block} {j} {serial} {type} {bs} false i other' other cs n x given e alike same' apart fits each h o =
    subst (λ u. HoldsArray (copy_state s type bs serial h.values given) block i other' other cs u) (sym (copied_other n j x 0 (element_count bs) i e))
    (array_beside serial (copy_changed type bs serial h.values given) (apart e) o)

copies_all : {frames : Frames} {serials : Serials} {xs : Storage} {levels : List ℕ} {s : State} {block : Names} {types : Types} {n : Values} (j : ℕ) {type : Y.LeafType} {b : Bounds} {bs : List Bounds} (x : ℕ → ℤ) (given : ℕ → List ℤ → BasicValue) (below : IsArrayAt types j type b bs) → ((p : ℕ) → p < element_count (b ∷ bs) → Fits type (x p)) → ((is : List ℤ) → is_within (b ∷ bs) is ≡ true → given 0 is ≡ value_as type (x (element_place (b ∷ bs) is))) → (all : AllHold frames serials xs levels s block types n) → AllHold frames serials xs levels (copy_state s type (b ∷ bs) (serials.of j) (all.arrays j type b bs below).values given) block types (copied n j x 0 (element_count (b ∷ bs)))
copies_all {frames = frames} {serials = serials} {s = s} {block = block} {types = types} {n = n} j {type} {b} {bs} x given below fits each all =
    let h = all.arrays j type b bs below in
    let change = copy_changed type (b ∷ bs) (serials.of j) h.values given in
    let s' = copy_state s type (b ∷ bs) (serials.of j) h.values given in
    let count = element_count (b ∷ bs) in
    record {
      numbers = λ i c numeric. subst (λ (u : ℕ → ℤ). Holds s' block i (serials.of i) c.0 (u i)) (sym (copied_numbers n j x 0 count)) (scalar_beside (serials.of j) change (all.stored.apart i j c.1 below.0 (scalar_apart types i j c.0 type b bs below.0 c.1)) (all.numbers i c numeric));
      texts = λ i varying most at. subst (λ (u : ℕ → List ℕ). KeepsText s' block i (serials.of i) varying most (u i)) (sym (copied_texts n j x 0 count)) (text_beside (serials.of j) change (all.stored.apart i j at below.0 (scalar_apart types i j (text_leaf varying most) type b bs below.0 at)) (all.texts i varying most at));
      arrays = λ i other c cs at. copies_by (i == j) i (serials.of i) other (c ∷ cs) n x given refl (one_type types i j (kind_with type (b ∷ bs)) (kind_with other (c ∷ cs)) below.0 at.0) (λ e. ap serials.of e) (λ e. all.stored.apart i j at.0 below.0 e) fits each h (all.arrays i other c cs at);
      text_arrays = λ i varying most c cs at. subst (λ (u : ℕ → ℕ → List ℕ). HoldsTexts s' block i (serials.of i) varying most (c ∷ cs) (u i)) (sym (copied_text_arrays n j x 0 count)) (texts_aside (serials.of j) change (all.stored.apart i j at below.0 (texts_apart types i j type b bs varying most c cs below at)) (all.text_arrays i varying most c cs at));
      entered = all.entered;
      framed = all.framed;
      kinds = all.kinds;
      units = all.units;
      aside = asides_changed j change below.0 all.aside;
      stored = stored_changed (serials.of j) change (λ g. refl) all.stored;
    }

source_gives : (type : Y.LeafType) → IsNumeric type → (bs : List Bounds) (serial : ℕ) (values : ℕ → List ℤ → BasicValue) (is : List ℤ) → given_by_source type bs serial values 0 is ≡ values 0 is
source_gives type numeric bs serial values is =
    by_type (λ t. given_by_source t bs serial values 0 is ≡ values 0 is) (λ p. refl) refl type numeric

-- ---- the statement

-- an array of the main procedure is reached by its name
pub named_reached : {e : Environment} {block : Names} {types : Types} (bl : Block e block types) (n : Values) (j : ℕ) (kind : Kind) (number : ℕ) → slice_get types j ≡ Some kind → ArrayNamed e block (bl.bases j) bl.ground bl.serials j kind → number < 2 ^ 24 → bl.bases j + place_of_name e block j < 2 ^ 24 → IsReached (bl.ground n) (bl.bases j) (place_with e block j number)
named_reached bl n j kind number at na few near =
    record {
      few = few;
      reaches = bl.reaches n j at;
      at36 = own_place (bl.bases j) na.aligned na.high na.room;
      near = near;
      own = λ t b m held. na.own n t b m held;
    }

pub frame_known : {e : Environment} {block : Names} {types : Types} (bl : Block e block types) (n : Values) → KnownFrame (bl.ground n)
frame_known bl n =
    let g = bl.ground n in
    let above = g.above_code in
    let framed = bl.stack.frame_is n in
    let tall = bl.stack.above in
    let free = bl.ends in
    record {
      at36 = own_place g.frame g.whole (omega (arith, above)) (omega (arith, framed, tall, free));
      own = λ t b m held. subst (λ u. load 4 m (u + 36) ≡ u) (sym framed) (bl.own n t b m held);
    }

copy_does : {e : Environment} {block : Names} {types : Types} (bl : Block e block types) (links : Links) (code : List Instr) (routines : Standing bl links code) (around : Around) (j i : ℕ) {type : Y.LeafType} (b : Bounds) (bs : List Bounds) (line : ℕ) (below : IsArrayAt types j type b bs) (below' : IsArrayAt types i type b bs) → level_of block j ≡ 0 → level_of block i ≡ 0 → bl.taken.words + 4 ≤ bl.words → line < 2 ^ 31 → Does bl links code around.turns (act_code line ++ aggregate_code e bl.taken (whole (own block j)) (whole (own block i))) (M.statement around (Y.AssignAggregate (whole (own block j)) (whole (own block i)) line))
unfolding M.statement ◌>>=◌ ◌>>◌
copy_does {e} {block} {types} bl links code routines around j i {type} b bs line below below' outermost outermost' some fits =
    record {
      does = λ {i = at'} {s} {v} {h} {t} {aims} closed old n f k l serving all at goal more.
          let front = act_code line in
          let target = whole (own block j) in
          let source = whole (own block i) in
          let behind = aggregate_code e bl.taken target source in
          let here = at_line around line in
          let taken = bl.taken in
          let kind : Kind = record { type = type; bounds = b ∷ bs } in
          let num = number_for (table_of e.program) kind in
          let on = bl.arrays j type b bs below in
          let on' = bl.arrays i type b bs below' in
          let na = bl.array_names j type b bs below.0 outermost in
          let na' = bl.array_names i type b bs below'.0 outermost' in
          let numbered = array_numbered routines j type (b ∷ bs) on.declared in
          let constant = size_constant type below.1 (b ∷ bs) on.declared.0 in
          let constant' = size_constant type below.1 (b ∷ bs) on'.declared.0 in
          let from = place_with e block i num in
          let to' = place_with e block j num in
          let fill = copying taken from to' in
          let into' = copying_is e taken block j i type type (b ∷ bs) (b ∷ bs) on.declared on'.declared constant constant' numbered.held.0 numbered.held.0 on.bounds on.bounds routines.known.table in
          let next' : Unit {0} → Meaning (Unit {0}) = λ u. P.aggregate_assigned here target source in
          let size = size_append front behind in
          let size' = ap size_of into' in
          let there : at' + size_of front + size_of fill ≡ at' + size_of (front ++ behind) = omega (arith, size, size') in
          let w = bl.words_are n in
          let g = bl.ground n in
          let count = element_count (b ∷ bs) in
          let free = bl.ends in
          let under = on.under in
          let under' = on'.under in
          let above = g.above_code in
          let inside = g.inside in
          let small' = l.small' in
          let high = na.high in
          let high' = na'.high in
          let few = numbered.few in
          let base = bl.bases j in
          let base' = bl.bases i in
          let near : base + place_of_name e block j + 16 ≤ 14 * 2 ^ 20 = omega (arith, under, free) in
          let near' : base' + place_of_name e block i + 16 ≤ 14 * 2 ^ 20 = omega (arith, under', free) in
          let room' : taken.words + 4 ≤ g.words = omega (arith, some, w) in
          comes_on k (act counted k s) next'
          (act_piece (before_closed k next' closed) f line old k fits (front_of front behind l) serving at
          (λ f1 serving1 at1.
          let s1 = with_world (counted s.world) s in
          let all1 : AllHold bl.frames bl.serials (storage v) (e.level ∷ bl.depths) s1 block types n = counted_all _ all in
          let mine = all1.arrays j type b bs below in
          let other = all1.arrays i type b bs below' in
          let x = n.arrays i in
          let given = given_by_source type (b ∷ bs) (bl.serials.of i) other.values in
          let l1 = subst (Linked links code (at' + size_of front)) into' (back_of front behind l) in
          let v1 = acted line v in
          let width = store_width (store_kind type) in
          let n' = copied n j x 0 count in
          let s2 = copy_state s1 type (b ∷ bs) (bl.serials.of j) mine.values given in
          let r = g.frame - 4 * (taken.words + 4) in
          let same = same_array type (b ∷ bs) below.1 in
          let change : List ℕ → List ℕ = numbers_from width (base + data_place e block j) x 0 count in
          let shape : shape_at v1.signatures num ≡ Some (array_shape type (b ∷ bs)) = ap (λ ts. shape_at ts num) (all1.stored.table ∙ ap (λ p. map template_of (table_of p)) bl.named) ∙ numbered_shape (table_of e.program) kind numbered in
          subst (Comes code (at' + size_of front) f1 v1 aims) (sym (copy_meant s1 here (own block j) (own block i) type type (b ∷ bs) (bl.serials.of j) (bl.serials.of i) mine.values other.values k same same mine.stands mine.lives other.stands other.lives))
          (copying_piece (bl.ground n') closed (bl.temps n) f1 taken (array_taken type (b ∷ bs) x) from to' base' base change room'
          (named_reached bl n i kind num below'.0 na' few (omega (arith, near')))
          (named_reached bl n j kind num below.0 na few (omega (arith, near)))
          (frame_known bl n)
          (λ b' h'. bl.same n n' b' h')
          (λ t' b' m long held.
          take_answer code v1 m r (base' + place_of_name e block i) (bl.serials.of i) num type (b ∷ bs) na'.living x below.1 (omega (arith, above, room', small')) (omega (arith, inside)) (omega (arith, high', small')) (omega (arith, near')) few
          (record_there (bl.temps n) t' taken.words (base' + place_of_name e block i) num room' (omega (arith, near')) (omega (arith, few)) b' m held)
          (na'.names n _ b' m held) shape on.bounds (all1.stored.first (bl.serials.of i) na'.living na'.lives).0 na'.signature other.fits
          (λ p inside'.
          let q = na'.at in
          let a : base' + 4 * p + data_place e block i ≡ na'.living.at + 4 * p = omega (arith, q) in
          subst (λ u. extended (load_kind type) (load (load_width (load_kind type)) m u) ≡ word (x p)) a (on'.reads n p inside' (other.fits p inside') _ b' m held)))
          (λ t' b' m long held.
          put_answer code v1 m r (base + place_of_name e block j) (bl.serials.of j) num type (b ∷ bs) na.living x below.1 (omega (arith, above, room', small')) (omega (arith, inside)) (omega (arith, high, small')) (omega (arith, near)) few
          (record_there (bl.temps n) t' taken.words (base + place_of_name e block j) num room' (omega (arith, near)) (omega (arith, few)) b' m held)
          (na.names n _ b' m held) shape on.bounds (all1.stored.first (bl.serials.of j) na.living na.lives).0 na.signature other.fits
          (let q = na.at in omega (arith, q, under, free, long))
          ∙ ap (λ u. Done v1 (numbers_from width u x 0 count m) r 0) na.at)
          (λ t' b' m long held. numbers_stand {ground = bl.ground} on x other.fits n 0 count (omega arith) mine.fits t' b' m long held)
          l1 at1
          (λ f2 t2 stays2 at2. record {
            to = λ early.
                subst (λ u. aims.done u f2 v1 tt s2) (sym there)
                (goal s2 v1 line n' _ _ f2
                (record { world = serving1.world; running = serving1.running; line_is = serving1.line_is; input = serving1.input; allowed = serving1.allowed; fits = serving1.fits; nested = serving1.nested; places = serving1.places; waiting = serving1.waiting })
                (copies_all j x given below other.fits (λ is within. source_gives type below.1 (b ∷ bs) (bl.serials.of i) other.values is ∙ other.value is within) all1)
                stays2
                (λ c. record { pc = (at2 c).pc ∙ ap (address c) there; holds = (at2 c).holds }));
          }))));
    }

pub alike_does : {e : Environment} {block : Names} {types : Types} (bl : Block e block types) (links : Links)
    (code : List Instr) (routines : Standing bl links code) (around : Around) (target source : Y.Reference) (line : ℕ)
    → AreAlike block types target source → bl.taken.words + 4 ≤ bl.words → line < 2 ^ 31
    → Does bl links code around.turns (act_code line ++ aggregate_code e bl.taken target source)
    (M.statement around (Y.AssignAggregate target source line))
alike_does {e} {block} {types} bl links code routines around target source line o room fits =
    let numeric = element_numeric o.type o.element in
    let into : IsArrayAt types o.target_is.index o.type o.target_is.bound o.target_is.bounds = (o.target_is.declared, numeric) in
    let taken : IsArrayAt types o.source_is.index o.type o.target_is.bound o.target_is.bounds =
    (o.source_is.declared ∙ ap (λ cs. Some (kind_with o.type cs)) o.same, numeric) in
    subst (λ q. Does bl links code around.turns (act_code line ++ aggregate_code e bl.taken q source) (M.statement around (Y.AssignAggregate q source line))) (sym o.target_is.is)
    (subst (λ q. Does bl links code around.turns (act_code line ++ aggregate_code e bl.taken (whole (own block o.target_is.index)) q) (M.statement around (Y.AssignAggregate (whole (own block o.target_is.index)) q line))) (sym o.source_is.is)
    (copy_does bl links code routines around o.target_is.index o.source_is.index o.target_is.bound o.target_is.bounds
    line into taken o.target_is.outermost o.source_is.outermost room fits))
