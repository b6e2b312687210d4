-- Elements of arrays in the code, for any ground: their address comes into a register, from a frame of any level, and what stands there
-- is loaded or stored.
use Rattle.std.proofs.Common.{◌≡◌, ℕ, suc, ◌+◌, ◌*◌, ◌^◌, ◌<◌, ◌≤◌, List, [], ◌∷◌, ◌++◌, length, map, Option, Some, None, Bool, true, false, refl, sym, ap, ◌∙◌, subst, arith}
use Rattle.std.specs.Prelude.{ℤ, pos, cond, ◌&&◌, ◌==◌, nat_le, slice_get, unwrap_or, if◌then◌else◌}
use Rattle.std.specs.List.{list_all}
use Rattle.rv_meaning.specs.declared.instr.Instr.{Instr}
use Rattle.rv_meaning.specs.declared.instr.Instr.TheVariants as I
use Rattle.rv_meaning.specs.declared.instr.Register.{Register}
use Rattle.rv_meaning.specs.declared.instr.ShiftOp.TheVariants as Shift
use Rattle.rv_meaning.specs.Words.{word, sum, shifted_left}
use Rattle.rv_meaning.specs.Memory.{load, store}
use Rattle.rv_meaning.specs.Machine.{memory_size, load_width, extended, store_width}
use Rattle.pli_typing.specs.Signatures.{Bounds, element_count, rounded_up}
use Rattle.pli_typing.specs.TypedTree as Y
use Rattle.pli_language.specs.Tree as T
use Rattle.pli_meaning.specs.BasicValues.{BasicValue}
use Rattle.pli_meaning.specs.Contents.{is_within, element_place}
use Rattle.pli_meaning.specs.DeclaredShapes.{variables_of_block}
use Rattle.pli_meaning.specs.StorageState.{State}
use Rattle.pli_meaning.specs.Control.{Meaning, give, flow_on, ◌>>=◌}
use Rattle.pli_meaning.specs.Raising as R
use Rattle.pli_meaning.specs.Raising.{Around}
use Rattle.pli_meaning.specs.Evaluating as V
use Rattle.pli_meaning.specs.Placing as P
use Rattle.pli_meaning.specs.Executing as M
use Rattle.pli_serving.specs.ServiceState.{Services}
use Rattle.pli_coding.specs.Registers.{frame_register, a0, u1, u3, u4}
use Rattle.pli_coding.specs.Assembly.{Code, size_of}
use Rattle.pli_coding.specs.Instructions.{shift, add, displaced, load_word}
use Rattle.pli_coding.specs.Frames.{automatic_place, has_constant_size, are_constant, display}
use Rattle.pli_coding.specs.Environments.{Environment, Taken, is_register_left, with_number, save, fetch}
use Rattle.pli_coding.specs.Expressions.{given_in, number_code, reference_code, subscripts_code, type_in, address_in}
use Rattle.pli_coding.specs.Locating as L
use Rattle.pli_coding.specs.Storing.{is_near, word_stored}
use Rattle.pli_coding.specs.Linking.{Links}
use Rattle.temporary_bounds.specs.Spare.{spare}
use Rattle.temporary_bounds.proofs.Takes.{none_spare, number_counts}
use Rattle.pli_headline.specs.ProvedSoFar.{Names, constant_bounds, AreBounds, array_variable}
use Rattle.run_steps.specs.Engine.{Base, address}
use Rattle.run_steps.proofs.Linking.{size_append}
use Rattle.run_steps.specs.Items.{Linked, At}
use Rattle.run_steps.proofs.Items.{straight}
use Rattle.run_steps.proofs.Numbers.{word_small}
use Rattle.run_steps.specs.Bodies.{Ground, Known, PlaceFrom, with', reserved_are}
use Rattle.run_steps.proofs.Bodies.{set_known, frame_is, load_piece}
use Rattle.run_steps.proofs.Bodies.{narrow_load_from, narrow_store_into}
use Rattle.run_steps.proofs.Jumps.{front_of, back_of}
use Rattle.run_steps.specs.Temporaries.{Temporaries, Stays}
use Rattle.run_steps.proofs.Temporaries.{stays_same, stays_then, stays_saved, stays_less}
use Rattle.run_steps.specs.Temporaries.{held_with, words_with, nothing}
use Rattle.run_steps.proofs.Temporaries.{waiting_saved, waiting_kept, save_piece}
use Rattle.run_steps.proofs.Temporaries.{fetch_piece}
use Rattle.run_steps.specs.Reaching.{Reaches}
use Rattle.run_steps.proofs.Reaching.{reach_moved}
use Rattle.pli_headline.proofs.Serving.{Serving}
use Rattle.pli_headline.proofs.Raising.{Routines}
use Rattle.pli_headline.proofs.Operators.{valued}
use Rattle.pli_headline.proofs.Scalars.{IsNumeric, by_type, value_as, Fits, fits_wide, load_kind, store_kind}
use Rattle.pli_headline.proofs.Variables.{whole_part, own, level_of, data_place, declared_in, type_by}
use Rattle.pli_headline.proofs.Evaluations.{Kind, Evaluates}
use Rattle.pli_headline.proofs.ArrayPlaces.{AllWide, place_inside}
use Rattle.pli_headline.proofs.ArrayMeant.{HoldsArray, element, designated_element, element_meant, element_checked, element_seen, element_state, element_stored}
use Rattle.pli_headline.proofs.Subscripts.{AllGive, EvaluatesAll}
use Rattle.pli_headline.proofs.SubscriptTests.{Beside, nothing_beside, free_with, counted_all}
use Rattle.run_steps.specs.Reach.{Family, Aims, Comes, Closed, Reach, reached}
use Rattle.run_steps.proofs.Reach.{before_closed, comes_on, onward, reach_then, reached_holds}

-- ---- the code

abbrev pub IsDeclaredArray : Environment → (block : Names) (index : ℕ) → Y.LeafType → List Bounds → Type 0
IsDeclaredArray e block index type bs =
    (initial : List T.InitialItem) × (slice_get (variables_of_block e.program (block.at index).number) (block.at index).index ≡ Some (array_variable type bs initial))

-- an element's address: the frame, and so many words behind it
abbrev pub words_added : Register → Code
words_added r = shift Shift.Left u4 u1 2 ∷ add u3 r u4 ∷ []

abbrev pub element_found : Environment → (level : ℕ) → Code
element_found e level = L.frame_found e level u3 ++ words_added (L.frame_in e level u3)

-- behind the subscripts that wait
abbrev pub counted_code : Environment → Taken → (level : ℕ) → List Bounds → Y.Number → Y.Numbers → Code
counted_code e t level bs first rest =
    L.subscripts_counted e t 0 (Y.NumberThen first rest) (map constant_bounds bs) ++ element_found e level

abbrev pub element_code : Environment → Taken → (level : ℕ) → List Bounds → Y.Number → Y.Numbers → Code
element_code e t level bs first rest =
    subscripts_code e t (Y.NumberThen first rest) ++ counted_code e t level bs first rest

-- by the variable's declaration
abbrev pub leaf_in : Option Y.DeclaredVariable → Y.Leaf
leaf_in o = unwrap_or (slice_get (declared_in o).leaves 0) L.no_leaf

abbrev pub reached_by : Environment → Taken → (block : Names) (index : ℕ) (xs : Y.Numbers) → Option Y.DeclaredVariable
    → Code
reached_by e t block index xs o =
    let v = own block index in
    if has_constant_size (declared_in o) then L.subscripts_counted e t 0 xs (leaf_in o).bounds
    ++ (L.frame_found e (level_of block index) u3 ++ L.element_added (L.frame_in e (level_of block index) u3)
    (leaf_in o).type xs)
    else L.found_reached e t t v whole_part (L.leaf_number e v 0) xs

abbrev pub address_by : Environment → (block : Names) (index : ℕ) → Option Y.DeclaredVariable → L.Address
address_by e block index o =
    record {
      register = u3;
      displacement = pos (if has_constant_size (declared_in o) then automatic_place e.parts e.program (block.at index).number (block.at index).level (block.at index).index + 16 + L.leaf_place (declared_in o) 0 else 0);
    }

pub bounds_constant : (bs : List Bounds) → list_all are_constant (map constant_bounds bs) ≡ true
bounds_constant [] = refl
bounds_constant (b ∷ bs) = bounds_constant bs

pub size_constant : (type : Y.LeafType) → IsNumeric type → (bs : List Bounds) (initial : List T.InitialItem) → has_constant_size (array_variable type bs initial) ≡ true
size_constant type is bs initial =
    by_type (λ u. has_constant_size (array_variable u bs initial) ≡ true) (λ p. ap (λ q. q && true) (bounds_constant bs)) (ap (λ q. q && true) (bounds_constant bs)) type is

stride_by : (q : Bool) (r : Register) → L.times_constant (rounded_up 4 (cond q 2 4)) ++ add u3 r u4 ∷ [] ≡ words_added r
stride_by true r = refl
stride_by false r = refl

stride_is : (type : Y.LeafType) → IsNumeric type → (r : Register) (first : Y.Number) (rest : Y.Numbers)
    → L.element_added r type (Y.NumberThen first rest) ≡ words_added r
stride_is type is r first rest =
    by_type (λ u. L.element_added r u (Y.NumberThen first rest) ≡ words_added r) (λ p. stride_by (nat_le p 15) r) refl
    type is

pub element_reached : (e : Environment) (t : Taken) (block : Names) (j : ℕ) (type : Y.LeafType) (bs : List Bounds) (first : Y.Number) (rest : Y.Numbers) → IsNumeric type → IsDeclaredArray e block j type bs → reference_code e t (element block j first rest) ≡ element_code e t (level_of block j) bs first rest
element_reached e t block j type bs first rest is declared =
    let xs = Y.NumberThen first rest in
    let front = subscripts_code e t xs in
    let counted = L.subscripts_counted e t 0 xs (map constant_bounds bs) in
    let found = L.frame_found e (level_of block j) u3 in
    let r = L.frame_in e (level_of block j) u3 in
    let other = L.found_reached e t t (own block j) whole_part (L.leaf_number e (own block j) 0) xs in
    ap (λ o. front ++ reached_by e t block j xs o) declared.1
    ∙ ap (λ q. front ++ (if q then counted ++ (found ++ L.element_added r type xs) else other))
    (size_constant type is bs declared.0)
    ∙ ap (λ c. front ++ (counted ++ (found ++ c))) (stride_is type is r first rest)

abbrev pub element_loaded : Environment → (block : Names) (index : ℕ) → Y.LeafType → Code
element_loaded e block index type = displaced (λ r z. I.Load (load_kind type) a0 r z) u3 (pos (data_place e block index))

abbrev pub element_kept : Environment → (block : Names) (index : ℕ) → Y.LeafType → Code
element_kept e block index type = displaced (λ r z. I.Store (store_kind type) r a0 z) u3 (pos (data_place e block index))

pub loaded_is : (e : Environment) (block : Names) (j : ℕ) (type : Y.LeafType) (bs : List Bounds) (first : Y.Number) (rest : Y.Numbers) → IsNumeric type → IsDeclaredArray e block j type bs → L.loaded (type_in e (element block j first rest)) a0 (address_in e (element block j first rest)) ≡ element_loaded e block j type
loaded_is e block j type bs first rest is declared =
    let place = automatic_place e.parts e.program (block.at j).number (block.at j).level (block.at j).index + 16 + 0 in
    ap (λ o. L.loaded (type_by o) a0 (address_by e block j o)) declared.1
    ∙ ap (λ q. L.loaded type a0 (record { register = u3; displacement = pos (if q then place else 0) })) (size_constant type is bs declared.0)
    ∙ by_type (λ u. L.loaded u a0 (record { register = u3; displacement = pos place }) ≡ element_loaded e block j u) (λ p. refl) refl type is

pub kept_is : (e : Environment) (block : Names) (j : ℕ) (type : Y.LeafType) (bs : List Bounds) (first : Y.Number) (rest : Y.Numbers) → IsNumeric type → IsDeclaredArray e block j type bs → L.stored (type_in e (element block j first rest)) a0 (address_in e (element block j first rest)) ≡ element_kept e block j type
kept_is e block j type bs first rest is declared =
    let place = automatic_place e.parts e.program (block.at j).number (block.at j).level (block.at j).index + 16 + 0 in
    ap (λ o. L.stored (type_by o) a0 (address_by e block j o)) declared.1
    ∙ ap (λ q. L.stored type a0 (record { register = u3; displacement = pos (if q then place else 0) })) (size_constant type is bs declared.0)
    ∙ by_type (λ u. L.stored u a0 (record { register = u3; displacement = pos place }) ≡ element_kept e block j u) (λ p. refl) refl type is

-- ---- the address

-- an address in u3
abbrev pub addressed : (Base → ℕ) → Base → List (ℕ × ℕ)
addressed x b = (28, x b) ∷ []

address_sum : (at base p : ℕ) → at + 2 ^ 24 ≤ 2 ^ 32 → base + 4 * p < 2 ^ 24 → sum (at + base) (shifted_left p 2) ≡ at + (base + 4 * p)
address_sum at base p valid few = omega (arith, valid, few)

sum_of : (x y a p : ℕ) → x ≡ a → y ≡ p → sum x y ≡ sum a p
sum_of x y a p e f = ap (λ u. sum u y) e ∙ ap (sum a) f

address_piece : (q : Bool) (level : ℕ) {links : Links} {code : List Instr} {i : ℕ} {g : Ground} {v : Services} {h t :
    ℕ → ℕ} {ys : Base → List (ℕ × ℕ)} (c : ℕ) (f : Family) (base p : ℕ) → Beside ys → Reaches q level g base
    → base + 4 * p < memory_size
    → Linked links code i (cond q [] (load_word u3 frame_register (display level))
    ++ words_added (cond q frame_register u3)) → ((b : Base) → At b i (Known g v h t (with' 6 (λ b'. p) ys) b) (f b))
    → Reach code c f v
    (c + size_of (cond q [] (load_word u3 frame_register (display level)) ++ words_added (cond q frame_register u3)))
    v (λ b w. At b (i + size_of (cond q [] (load_word u3 frame_register (display level))
    ++ words_added (cond q frame_register u3))) (Known g v h t (with' 28 (λ b'. b'.at + (base + 4 * p)) ys) b) w)
address_piece true level {g = g} {v = v} {h = h} {t = t} {ys = ys} c f base p beside reaches few l at =
    straight c f v v (λ b. Known g v h t (with' 28 (λ b'. b'.at + (base + 4 * p)) ys) b) l (omega arith)
    (λ b. (at b).pc)
    (λ b.
    let o = (at b).holds in
    let k = set_known (f b) 29 (shifted_left ((f b).machine.registers 6) 2) (f b).machine.pc (λ b'. shifted_left p 2)
    beside.free4 (ap (λ u. shifted_left u 2) o.regs.0) (record { body = o.body; regs = o.regs.1 }) in
    set_known _ 28 _ _ (λ b'. b'.at + (base + 4 * p)) beside.free3
    (sum_of _ _ (b.at + base) (shifted_left p 2) (frame_is k.body ∙ ap (λ u. b.at + u) reaches) k.regs.0
    ∙ address_sum b.at base p b.valid.1 few) (record { body = k.body; regs = k.regs.1 }))
address_piece false level {i = i} {g = g} {v = v} {h = h} {t = t} {ys = ys} c f base p beside reaches few l at =
    let first = load_word u3 frame_register (display level) in
    let last = words_added u3 in
    let size = size_append first last in
    let r1 = load_piece c f u3 (display level) (g.frame + (144 + 4 * level)) (λ b. b.at + base) reaches.0 (λ b m k. reaches.1 t b m k)
    (free_with 6 (λ b. p) (λ x y. refl) beside.free3) (free_with 6 (λ b. p) (λ x y. refl) beside.far)
    (front_of first last l) at in
    let r2 =
    straight (c + size_of first) (reached r1) v v (λ b. Known g v h t (with' 28 (λ b'. b'.at + (base + 4 * p)) ys)
    b) (back_of first last l) (omega arith) (λ b. (reached_holds r1 b).pc)
    (λ b.
    let o = (reached_holds r1 b).holds in
    let w = reached r1 b in
    let k = set_known w 29 (shifted_left (w.machine.registers 6) 2) w.machine.pc (λ b'. shifted_left p 2)
    (free_with 28 (λ b'. b'.at + base) (λ x y. refl) beside.free4) (ap (λ u. shifted_left u 2) o.regs.1.0)
    (record { body = o.body; regs = (o.regs.0, o.regs.1.1) }) in
    set_known _ 28 _ _ (λ b'. b'.at + (base + 4 * p)) beside.free3
    (sum_of _ _ (b.at + base) (shifted_left p 2) k.regs.1.0 k.regs.0 ∙ address_sum b.at base p b.valid.1 few)
    (record { body = k.body; regs = k.regs.1.1 })) in
    reach_moved (omega (arith, size)) (omega (arith, size)) (reach_then r1 r2)

-- ---- an array around an expression

-- where its elements stand, in the meaning and in memory
pub record ArrayScope (g : Ground) (e : Environment) (s : State) (block : Names) (j : ℕ) (type : Y.LeafType) (bs : List Bounds) (n : ℕ → ℤ) : Type 0 where
  pub declared : IsDeclaredArray e block j type bs
  pub bounds : AreBounds bs
  pub few : element_count bs ≤ 2 ^ 20
  pub serial : ℕ
  pub holds : HoldsArray s block j serial type bs n
  pub base : ℕ
  pub within : base + 4 * element_count bs ≤ memory_size
  pub reach : Reaches (level_of block j == e.level) (level_of block j) g base
  pub places : (p : ℕ) → p < element_count bs → PlaceFrom (base + 4 * p) (pos (data_place e block j)) (base + 4 * p + data_place e block j)
  pub reads : (p : ℕ) → p < element_count bs → (t : ℕ → ℕ) (b : Base) (m : List ℕ) → g.memory t b m → extended (load_kind type) (load (load_width (load_kind type)) m (base + 4 * p + data_place e block j)) ≡ word (n p)

-- an element of it is found behind its subscripts: its address comes into u3, or the run ends
pub counted_element_piece : {links : Links} {code : List Instr} {i : ℕ} {g : Ground} {v : Services} {h t :
    ℕ → ℕ} {ys : Base → List (ℕ × ℕ)} {s : State} {aims : Aims V.Designated} {e : Environment} {block : Names} {j :
    ℕ} {type : Y.LeafType} {bs : List Bounds} {n : ℕ → ℤ} (closed : Closed code aims) (routines :
    Routines links code) (scope : ArrayScope g e s block j type bs n) (f : Family) (around : Around) (taken :
    Taken) (k : ℕ) (first : Y.Number) (rest : Y.Numbers) (is : List ℤ) → Beside ys → AllWide is
    → length is ≡ suc (given_in rest) → suc (given_in rest) ≡ length bs
    → AllGive links code g v e taken h t (Y.NumberThen first rest) is → Serving k s v around.line
    → Linked links code i (counted_code e taken (level_of block j) bs first rest)
    → ((b : Base) → At b i (Known g v h t ys b) (f b))
    → ((f' : Family) → is_within bs is ≡ true
    → ((b : Base)
    → At b (i + size_of (counted_code e taken (level_of block j) bs first rest))
    (Known g v h t (with' 28 (λ b'. b'.at + (scope.base + 4 * element_place bs is)) ys) b) (f' b))
    → aims.done (i + size_of (counted_code e taken (level_of block j) bs first rest)) f' v
    (designated_element type bs scope.serial scope.holds.values is) s)
    → Comes code i f v aims (V.variable_designated around (own block j) None whole_part is k s)
unfolding give
counted_element_piece {code = code} {i = i} {v = v} {s = s} {aims = aims} {e = e} {block = block} {j = j} {type =
    type} {bs = bs} closed routines scope f around taken k first rest is beside wide many same gives serving l at goal =
    let p2 = L.subscripts_counted e taken 0 (Y.NumberThen first rest) (map constant_bounds bs) in
    let p3 = element_found e (level_of block j) in
    let size = size_append p2 p3 in
    let there : i + size_of p2 + size_of p3 ≡ i + size_of (p2 ++ p3) = omega (arith, size) in
    let designated : V.Designated = designated_element type bs scope.serial scope.holds.values is in
    subst (Comes code i f v aims) (sym (element_checked around is k scope.holds (many ∙ same)))
    (comes_on k (R.demanded around 102 (is_within bs is) k s) (λ u. give designated)
    (counted_all bs is first rest e (before_closed k (λ u. give designated) closed) routines f around taken k beside
    many (many ∙ same) scope.bounds wide scope.few gives (front_of p2 p3 l) serving at
    (λ inside f2 at2.
    let below = place_inside bs is inside in
    let within = scope.within in
    onward closed (address_piece (level_of block j == e.level) (level_of block j) (i + size_of p2) f2 scope.base
    (element_place bs is) beside scope.reach (omega (arith, within, below)) (back_of p2 p3 l) at2)
    (λ f3 at3.
    record {
      to = λ early.
          subst (λ u. aims.done u f3 v designated s) (sym there)
          (goal f3 inside (λ b. record { pc = (at3 b).pc ∙ ap (address b) there; holds = (at3 b).holds }));
    }))))

-- and with its subscripts
pub element_piece : {links : Links} {code : List Instr} {i : ℕ} {g : Ground} {v : Services} {h t : ℕ → ℕ} {s :
    State} {aims : Aims V.Designated} {e : Environment} {block : Names} {j : ℕ} {type : Y.LeafType} {bs :
    List Bounds} {n : ℕ → ℤ} (closed : Closed code aims) (routines : Routines links code) (scope :
    ArrayScope g e s block j type bs n) (f : Family) (around : Around) (taken : Taken) (k words : ℕ) (first :
    Y.Number) (rest : Y.Numbers) → EvaluatesAll links code g v s k words e around (Y.NumberThen first rest)
    → suc (given_in rest) ≡ length bs → taken.words + words ≤ g.words + spare taken → Serving k s v around.line
    → Linked links code i (element_code e taken (level_of block j) bs first rest)
    → ((b : Base) → At b i (Known g v h t nothing b) (f b))
    → ((is : List ℤ) (f' : Family) (h' t' : ℕ → ℕ) → is_within bs is ≡ true → Stays taken h t h' t'
    → ((b : Base)
    → At b (i + size_of (element_code e taken (level_of block j) bs first rest))
    (Known g v h' t' (addressed (λ b'. b'.at + (scope.base + 4 * element_place bs is))) b) (f' b))
    → aims.done (i + size_of (element_code e taken (level_of block j) bs first rest)) f' v
    (designated_element type bs scope.serial scope.holds.values is) s)
    → Comes code i f v aims (V.designated around (element block j first rest) k s)
element_piece {code = code} {i = i} {v = v} {s = s} {aims = aims} {e = e} {block = block} {j = j} {type = type} {bs =
    bs} closed routines scope f around taken k words first rest all same room serving l at goal =
    let p1 = subscripts_code e taken (Y.NumberThen first rest) in
    let p2 = counted_code e taken (level_of block j) bs first rest in
    let size = size_append p1 p2 in
    let there : i + size_of p1 + size_of p2 ≡ i + size_of (p1 ++ p2) = omega (arith, size) in
    let checks : List ℤ → Meaning V.Designated = λ is. V.variable_designated around (own block j) None whole_part is in
    subst (Comes code i f v aims) (sym (element_meant around block j first rest k s))
    (comes_on k (V.numbers around (Y.NumberThen first rest) k s) checks
    (all.does (before_closed k checks closed) f taken room (front_of p1 p2 l) at
    (λ is f1 h1 t1 wide many stays gives at1.
    counted_element_piece closed routines scope f1 around taken k first rest is nothing_beside wide many same gives
    serving (back_of p1 p2 l) at1
    (λ f2 inside at2.
    subst (λ u. aims.done u f2 v (designated_element type bs scope.serial scope.holds.values is) s) (sym there)
    (goal is f2 h1 t1 inside stays (λ b. record { pc = (at2 b).pc ∙ ap (address b) there; holds = (at2 b).holds }))))))

-- ---- an element is read

-- the kind of value as which elements of a type are read
pub record ReadAs {X : Type 0} (kind : Kind X) (type : Y.LeafType) (read : BasicValue → X) : Type 0 where
  pub fits : (z : ℤ) → Fits type z → kind.Fits (read (value_as type z))
  pub same : (z : ℤ) → Fits type z → word z ≡ kind.word_of (read (value_as type z))

abbrev pub element_part : Environment → (block : Names) (index : ℕ) → Y.Number → Y.Numbers → Taken → Code
element_part e block j first rest taken =
    let r = element block j first rest in
    reference_code e taken r ++ L.loaded (type_in e r) a0 (address_in e r)

pub element_evaluates : {X : Type 0} {kind : Kind X} {read : BasicValue → X} {links : Links} {code : List Instr} {g :
    Ground} {v : Services} {s : State} {k : ℕ} {e : Environment} {block : Names} {j : ℕ} {type : Y.LeafType} {bs :
    List Bounds} {n : ℕ → ℤ} (as' : ReadAs kind type read) (routines : Routines links code) (scope :
    ArrayScope g e s block j type bs n) (around : Around) (words : ℕ) (first : Y.Number) (rest : Y.Numbers)
    → EvaluatesAll links code g v s k words e around (Y.NumberThen first rest) → suc (given_in rest) ≡ length bs
    → Serving k s v around.line → Evaluates kind links code g v s k words (element_part e block j first rest)
    ((V.designated around (element block j first rest)) >>= (λ d. give (read (V.value_in d))))
unfolding ◌>>=◌ give
element_evaluates {kind = kind} {read = read} {links = links} {code = code} {g = g} {v = v} {s = s} {k = k} {e =
    e} {block = block} {j = j} {type = type} {bs = bs} {n = n} as' routines scope around words first rest all same
    serving =
    record {
      does = λ {i} {h} {t} {aims} closed f taken room l at goal.
          let r = element block j first rest in
          let place = data_place e block j in
          let a = element_code e taken (level_of block j) bs first rest in
          let c = element_loaded e block j type in
          let holds = scope.holds in
          let eq : element_part e block j first rest taken ≡ a ++ c =
          ap (λ u. u ++ L.loaded (type_in e r) a0 (address_in e r)) (element_reached e taken block j type bs first rest holds.numeric scope.declared)
          ∙ ap (λ u. a ++ u) (loaded_is e block j type bs first rest holds.numeric scope.declared) in
          let l1 = subst (Linked links code i) eq l in
          let size = size_append a c in
          let whole' = ap size_of eq in
          let there : i + size_of a + size_of c ≡ i + size_of (element_part e block j first rest taken) = omega (arith, size, whole') in
          let next' : V.Designated → Meaning _ = λ d. give (read (V.value_in d)) in
          comes_on k (V.designated around r k s) next'
          (element_piece (before_closed k next' closed) routines scope f around taken k words first rest all same room
          serving (front_of a c l1) at
          (λ is f1 h1 t1 inside stays at1.
          let p = element_place bs is in
          let below = place_inside bs is inside in
          let within = scope.within in
          let z = n p in
          let fits = holds.fits p below in
          let seen : V.value_in (designated_element type bs scope.serial holds.values is) ≡ value_as type z = element_seen type bs scope.serial holds.values is holds.numeric ∙ holds.value is inside in
          let q = narrow_load_from (i + size_of a) f1 a0 u3 (load_kind type) (pos place) (scope.base + 4 * p) (scope.base + 4 * p + place) (λ b. word z) (scope.places p below) (omega (arith, within, below)) (λ y u. refl) (λ b w o. o.regs.0) (λ b m o. scope.reads p below t1 b m o)
          (record { reserved_stay = λ y u. refl; known_stay = λ b y u o. o; set = λ y u. refl })
          (record { reserved_stay = λ y u. refl; known_stay = λ b y u o. o; set = λ y u. refl })
          (back_of a c l1) at1 in
          onward closed q
          (λ f2 at2.
          record {
            to = λ early.
                subst (λ y. aims.done (i + size_of a + size_of c) f2 v (read y) s) (sym seen)
                (subst (λ u. aims.done u f2 v (read (value_as type z)) s) (sym there)
                (goal (read (value_as type z)) f2 h1 t1 (as'.fits z fits) stays (λ b. record { pc = (at2 b).pc ∙ ap (address b) there; holds = record { body = (at2 b).holds.body; regs = ((at2 b).holds.regs.0 ∙ as'.same z fits, tt) } })));
          })));
    }

-- ---- an element is stored

-- a value that waits
abbrev waiting_code : Environment → (block : Names) (index : ℕ) → Y.LeafType → List Bounds → Y.Number → Y.Numbers
    → Taken → Code
waiting_code e block j type bs first rest taken =
    save a0 taken ++ (element_code e (with_number taken) (level_of block j) bs first rest ++ (fetch a0 taken ++ element_kept e block j type))

-- one that stays in a0
abbrev near_code : Environment → (block : Names) (index : ℕ) → Y.LeafType → List Bounds → Y.Number → Y.Numbers → Taken
    → Code
near_code e block j type bs first rest taken =
    element_code e taken (level_of block j) bs first rest ++ element_kept e block j type

abbrev pub stored_by : Bool → Environment → (block : Names) (index : ℕ) → Y.LeafType → List Bounds → Y.Number
    → Y.Numbers → Taken → Code
stored_by q e block j type bs first rest taken =
    cond q (near_code e block j type bs first rest taken) (waiting_code e block j type bs first rest taken)

-- an element is near where its subscripts are simple
element_near : (e : Environment) (block : Names) (j : ℕ) (type : Y.LeafType) (bs : List Bounds) (first :
    Y.Number) (rest : Y.Numbers) → IsNumeric type → IsDeclaredArray e block j type bs
    → is_near e (element block j first rest) ≡ L.are_simple e (Y.NumberThen first rest)
element_near e block j type bs first rest is declared =
    let simple = L.are_simple e (Y.NumberThen first rest) in
    ap (λ o. has_constant_size (declared_in o) && simple) declared.1
    ∙ ap (λ q. q && simple) (size_constant type is bs declared.0)

pub stored_is : (e : Environment) (taken : Taken) (block : Names) (j : ℕ) (type : Y.LeafType) (bs :
    List Bounds) (first : Y.Number) (rest : Y.Numbers) → IsNumeric type → IsDeclaredArray e block j type bs
    → word_stored e taken (element block j first rest) ≡ stored_by (L.are_simple e (Y.NumberThen first rest)) e block
    j type bs first rest taken
stored_is e taken block j type bs first rest is declared =
    let r = element block j first rest in
    let simple = L.are_simple e (Y.NumberThen first rest) in
    let written = L.stored (type_in e r) a0 (address_in e r) in
    let near = element_code e taken (level_of block j) bs first rest in
    let waits = element_code e (with_number taken) (level_of block j) bs first rest in
    ap (λ q. cond q (reference_code e taken r ++ written) (save a0 taken
    ++ (reference_code e (with_number taken) r ++ (fetch a0 taken ++ written))))
    (element_near e block j type bs first rest is declared)
    ∙ ap (λ c. cond simple (c ++ written) (save a0 taken
    ++ (reference_code e (with_number taken) r ++ (fetch a0 taken ++ written))))
    (element_reached e taken block j type bs first rest is declared)
    ∙ ap (λ c. cond simple (near ++ written) (save a0 taken ++ (c ++ (fetch a0 taken ++ written))))
    (element_reached e (with_number taken) block j type bs first rest is declared)
    ∙ ap (λ c. cond simple (near ++ c) (save a0 taken ++ (waits ++ (fetch a0 taken ++ c))))
    (kept_is e block j type bs first rest is declared)

valued_beside : (x : ℕ) → Beside (valued x)
valued_beside x =
    record {
      free1 = record { reserved_stay = λ y u. refl; known_stay = λ b y u k. (k.0, tt); set = λ y u. refl };
      free2 = record { reserved_stay = λ y u. refl; known_stay = λ b y u k. (k.0, tt); set = λ y u. refl };
      free3 = record { reserved_stay = λ y u. refl; known_stay = λ b y u k. (k.0, tt); set = λ y u. refl };
      free4 = record { reserved_stay = λ y u. refl; known_stay = λ b y u k. (k.0, tt); set = λ y u. refl };
      far = record { reserved_stay = λ y u. refl; known_stay = λ b y u k. (k.0, tt); set = λ y u. refl };
    }

-- a value in a0 is assigned to an element; what then stands in memory goes by the place of the element
stored_by_piece : (q : Bool) {links : Links} {code : List Instr} {i : ℕ} {g : Ground} (g' : ℕ → Ground) {v :
    Services} {h t : ℕ → ℕ} {s : State} {aims : Aims (Unit {0})} {e : Environment} {block : Names} {j : ℕ} {type :
    Y.LeafType} {bs : List Bounds} {n : ℕ → ℤ} (closed : Closed code aims) (routines : Routines links code) (temps :
    Temporaries g) (scope : ArrayScope g e s block j type bs n) (f : Family) (around : Around) (taken : Taken) (z :
    ℤ) (k words : ℕ) (first : Y.Number) (rest : Y.Numbers)
    → EvaluatesAll links code g v s k words e around (Y.NumberThen first rest)
    → L.are_simple e (Y.NumberThen first rest) ≡ q → suc (given_in rest) ≡ length bs → Fits type z
    → taken.words + suc words ≤ g.words + spare taken → Serving k s v around.line
    → ((p : ℕ) (b : Base) (h' : ℕ → ℕ) → reserved_are b g h' ≡ reserved_are b (g' p) h')
    → ((p : ℕ) → p < element_count bs → (t' : ℕ → ℕ) (b : Base) (m : List ℕ) → length m ≡ memory_size
    → g.memory t' b m
    → (g' p).memory t' b (store (store_width (store_kind type)) m (scope.base + 4 * p + data_place e block j)
    (word z))) → Linked links code i (stored_by q e block j type bs first rest taken)
    → ((b : Base) → At b i (Known g v h t (valued (word z)) b) (f b))
    → ((is : List ℤ) (f' : Family) (h' t' : ℕ → ℕ) → is_within bs is ≡ true → Stays taken h t h' t'
    → ((b : Base)
    → At b (i + size_of (stored_by q e block j type bs first rest taken))
    (Known (g' (element_place bs is)) v h' t' nothing b) (f' b))
    → aims.done (i + size_of (stored_by q e block j type bs first rest taken)) f' v tt
    (element_state s type bs scope.serial scope.holds.values is z))
    → Comes code i f v aims (M.assigned around (element block j first rest) (value_as type z) k s)
unfolding M.assigned ◌>>=◌ give
stored_by_piece true {links = links} {code = code} {i = i} {g = g} g' {v = v} {h = h} {t = t} {s = s} {aims =
    aims} {e = e} {block = block} {j = j} {type = type} {bs = bs} closed routines temps scope f around taken z k words
    first rest all simple same fits room serving alike writes l at goal =
    let xs = Y.NumberThen first rest in
    let one = all.simple simple in
    let is = one.values in
    let p = element_place bs is in
    let place = data_place e block j in
    let waits = number_code e taken first ++ (save a0 taken ++ subscripts_code e (with_number taken) rest) in
    let none : subscripts_code e taken xs ≡ [] = ap (λ q. cond q [] waits) simple in
    let a = counted_code e taken (level_of block j) bs first rest in
    let last = element_kept e block j type in
    let eq : near_code e block j type bs first rest taken ≡ a ++ last = ap (λ c. (c ++ a) ++ last) none in
    let l1 = subst (Linked links code i) eq l in
    let whole' = ap size_of eq in
    let size = size_append a last in
    let there : i + size_of a + size_of last ≡ i + size_of (near_code e block j type bs first rest taken) =
    omega (arith, whole', size) in
    let checks : List ℤ → Meaning V.Designated = λ js. V.variable_designated around (own block j) None whole_part js in
    let next' : V.Designated → Meaning (Unit {0}) = λ d. P.element_stored d (value_as type z) in
    let meant = element_meant around block j first rest k s ∙ ap (λ q. flow_on k q checks) one.meant in
    subst (λ q. Comes code i f v aims (flow_on k q next')) (sym meant)
    (comes_on k (checks is k s) next'
    (counted_element_piece (before_closed k next' closed) routines scope f around taken k first rest is
    (valued_beside (word z)) one.wide one.many same (one.gives taken h t) serving (front_of a last l1) at
    (λ f2 inside at2.
    let below = place_inside bs is inside in
    let within = scope.within in
    let w = narrow_store_into (g' p) t (i + size_of a) f2 a0 u3 (store_kind type) (pos place) (scope.base + 4 * p)
    (scope.base + 4 * p + place) (λ b. word z) (scope.places p below) (omega (arith, within, below)) (λ y u. refl)
    (λ b w' o. o.regs.0) (λ y u. refl) (λ b w' o. o.regs.1.0) (λ b. alike p b h)
    (λ b m len o. writes p below t b m len o)
    (record { reserved_stay = λ y u. refl; known_stay = λ b y u o. (o.0, (o.1.0, tt)); set = λ y u. refl })
    (back_of a last l1) at2 in
    onward closed w (λ f3 at3.
    subst (Comes code (i + size_of a + size_of last) f3 v aims)
    (sym (element_stored type bs scope.serial scope.holds.values is z k s))
    (record {
      to = λ early.
          subst (λ u. aims.done u f3 v tt (element_state s type bs scope.serial scope.holds.values is z)) (sym there)
          (goal is f3 h t inside (stays_same taken h t)
          (λ b. record {
            pc = (at3 b).pc ∙ ap (address b) there;
            holds =
                record { body = (at3 b).holds.body; regs = tt };
          }));
    })))))
stored_by_piece false {links = links} {code = code} {i = i} {g = g} g' {v = v} {h = h} {t = t} {s = s} {aims =
    aims} {e = e} {block = block} {j = j} {type = type} {bs = bs} closed routines temps scope f around taken z k words
    first rest all simple same fits room serving alike writes l at goal =
    let r = element block j first rest in
    let wide = fits_wide type z fits in
    let place = data_place e block j in
    let put' = save a0 taken in
    let a = element_code e (with_number taken) (level_of block j) bs first rest in
    let back = fetch a0 taken in
    let last = element_kept e block j type in
    let l2 = back_of put' (a ++ (back ++ last)) l in
    let l3 = back_of a (back ++ last) l2 in
    let e1 = size_append put' (a ++ (back ++ last)) in
    let e2 = size_append a (back ++ last) in
    let e3 = size_append back last in
    let there : i + size_of put' + size_of a + size_of back + size_of last
    ≡ i + size_of (put' ++ (a ++ (back ++ last))) = omega (arith, e1, e2, e3) in
    let more = number_counts taken in
    let one : is_register_left taken ≡ false → taken.words < g.words = λ none. let z = none_spare taken none in omega
    (arith, z, room) in
    let h1 = held_with taken (word z) h in
    let t1 = words_with taken (word z) t in
    let next' : V.Designated → Meaning (Unit {0}) = λ d. P.element_stored d (value_as type z) in
    onward closed (save_piece temps i f a0 taken (word z) one (word_small z wide) (λ y u. refl) (λ b w' o. o.regs.0)
    (record { reserved_stay = λ y u. refl; known_stay = λ b y u q. q; set = λ y u. refl })
    (front_of put' (a ++ (back ++ last)) l) at)
    (λ f1 at1.
    comes_on k (V.designated around r k s) next'
    (element_piece (before_closed k next' closed) routines scope f1 around (with_number taken) k words first rest all
    same (omega (arith, room, more)) serving (front_of a (back ++ last) l2) at1
    (λ is f2 h2 t2 inside stays at2.
    let p = element_place bs is in
    let below = place_inside bs is inside in
    let within = scope.within in
    let q = fetch_piece temps (i + size_of put' + size_of a) f2 a0 taken (word z) one (word_small z wide) (waiting_kept taken stays ∙ waiting_saved taken h t (word z))
    (record { reserved_stay = λ y u. refl; known_stay = λ b y u o. o; set = λ y u. refl })
    (record { reserved_stay = λ y u. refl; known_stay = λ b y u o. o; set = λ y u. refl })
    (front_of back last l3) at2 in
    onward closed q (λ f3 at3.
    let w = narrow_store_into (g' p) t2 (i + size_of put' + size_of a + size_of back) f3 a0 u3 (store_kind type) (pos place) (scope.base + 4 * p) (scope.base + 4 * p + place) (λ b. word z) (scope.places p below) (omega (arith, within, below)) (λ y u. refl) (λ b w' o. o.regs.1.0) (λ y u. refl) (λ b w' o. o.regs.0) (λ b. alike p b h2) (λ b m len o. writes p below t2 b m len o)
    (record { reserved_stay = λ y u. refl; known_stay = λ b y u o. o; set = λ y u. refl })
    (back_of back last l3) at3 in
    onward closed w (λ f4 at4.
    subst (Comes code (i + size_of put' + size_of a + size_of back + size_of last) f4 v aims) (sym (element_stored type bs scope.serial scope.holds.values is z k s))
    (record {
      to = λ early.
          subst (λ u. aims.done u f4 v tt (element_state s type bs scope.serial scope.holds.values is z)) (sym there)
          (goal is f4 h2 t2 inside (stays_then (stays_saved taken h t (word z)) (stays_less stays))
          (λ b. record { pc = (at4 b).pc ∙ ap (address b) there; holds = record { body = (at4 b).holds.body; regs = tt } }));
    }))))))

pub element_stored_piece : {links : Links} {code : List Instr} {i : ℕ} {g : Ground} (g' : ℕ → Ground) {v :
    Services} {h t : ℕ → ℕ} {s : State} {aims : Aims (Unit {0})} {e : Environment} {block : Names} {j : ℕ} {type :
    Y.LeafType} {bs : List Bounds} {n : ℕ → ℤ} (closed : Closed code aims) (routines : Routines links code) (temps :
    Temporaries g) (scope : ArrayScope g e s block j type bs n) (f : Family) (around : Around) (taken : Taken) (z :
    ℤ) (k words : ℕ) (first : Y.Number) (rest : Y.Numbers)
    → EvaluatesAll links code g v s k words e around (Y.NumberThen first rest) → suc (given_in rest) ≡ length bs
    → Fits type z → taken.words + suc words ≤ g.words + spare taken → Serving k s v around.line
    → ((p : ℕ) (b : Base) (h' : ℕ → ℕ) → reserved_are b g h' ≡ reserved_are b (g' p) h')
    → ((p : ℕ) → p < element_count bs → (t' : ℕ → ℕ) (b : Base) (m : List ℕ) → length m ≡ memory_size
    → g.memory t' b m
    → (g' p).memory t' b (store (store_width (store_kind type)) m (scope.base + 4 * p + data_place e block j)
    (word z))) → Linked links code i (word_stored e taken (element block j first rest))
    → ((b : Base) → At b i (Known g v h t (valued (word z)) b) (f b))
    → ((is : List ℤ) (f' : Family) (h' t' : ℕ → ℕ) → is_within bs is ≡ true → Stays taken h t h' t'
    → ((b : Base)
    → At b (i + size_of (word_stored e taken (element block j first rest)))
    (Known (g' (element_place bs is)) v h' t' nothing b) (f' b))
    → aims.done (i + size_of (word_stored e taken (element block j first rest))) f' v tt
    (element_state s type bs scope.serial scope.holds.values is z))
    → Comes code i f v aims (M.assigned around (element block j first rest) (value_as type z) k s)
element_stored_piece {links = links} {code = code} {i = i} g' {v = v} {h = h} {t = t} {s = s} {aims = aims} {e =
    e} {block = block} {j = j} {type = type} {bs = bs} closed routines temps scope f around taken z k words first rest
    all same fits room serving alike writes l at goal =
    let r = element block j first rest in
    let simple = L.are_simple e (Y.NumberThen first rest) in
    let eq = stored_is e taken block j type bs first rest scope.holds.numeric scope.declared in
    let size = ap size_of eq in
    let there : i + size_of (stored_by simple e block j type bs first rest taken)
    ≡ i + size_of (word_stored e taken r) = omega (arith, size) in
    stored_by_piece simple g' closed routines temps scope f around taken z k words first rest all refl same fits room
    serving alike writes (subst (Linked links code i) eq l) at
    (λ is f1 h1 t1 inside stays at1.
    subst (λ u. aims.done u f1 v tt (element_state s type bs scope.serial scope.holds.values is z)) (sym there)
    (goal is f1 h1 t1 inside stays (λ b. record { pc = (at1 b).pc ∙ ap (address b) there; holds = (at1 b).holds })))
