-- The variables of a block are made, one behind the other, and its statements run behind them.
use Rattle.std.proofs.Common.{◌≡◌, ℕ, zero, suc, ◌+◌, ◌*◌, ◌^◌, ◌<◌, ◌≤◌, ◌⊎◌, inl, inr, List, [], ◌∷◌, ◌++◌, length, Some, None, Bool, true, false, refl, sym, ap, ◌∙◌, subst, arith, Option}
use Rattle.std.specs.Prelude.{ℤ, pos, cond, min, slice_get, nat_le, ◌==◌, if◌then◌else◌}
use Rattle.std.proofs.lemmas.Bool.{le-leb, lt-leb, cases_lt, eq-eqb}
use Rattle.rv_meaning.specs.declared.instr.Instr.{Instr}
use Rattle.pli_language.specs.Tree as T
use Rattle.pli_typing.specs.TypedTree as Y
use Rattle.pli_meaning.specs.declared.outcome.End.TheVariants as E
use Rattle.pli_meaning.specs.declared.outcome.Limit.TheVariants as L
use Rattle.pli_meaning.specs.Control.{Label, is_among, Meaning, flow_on, finish, give}
use Rattle.pli_meaning.specs.Raising.{Around}
use Rattle.pli_meaning.specs.Making as K
use Rattle.pli_meaning.specs.DeclaredShapes.{variables_of_block}
use Rattle.pli_meaning.specs.BasicValues.{BasicValue}
use Rattle.pli_meaning.specs.StorageState.{State, most_automatic, automatic_in_use}
use Rattle.pli_serving.specs.ServiceState.{Services}
use Rattle.pli_coding.specs.Assembly.{Datum, Code, size_of}
use Rattle.pli_coding.specs.Environments.{BlockOwner, Environment}
use Rattle.rv_meaning.specs.declared.instr.Register.{Register}
use Rattle.pli_coding.specs.Registers.{stack_register, frame_register, a0, a1, a2, a3}
use Rattle.pli_coding.specs.Instructions.{number, plus, load_word}
use Rattle.pli_coding.specs.Extents.{initial_given}
use Rattle.pli_coding.specs.Frames.{frame_bytes, last_place, is_automatic, display, own_offset, name_bytes}
use Rattle.pli_coding.specs.SignatureTable.{table_of}
use Rattle.pli_coding.specs.Entries.{automatic_made, variables_made, adjustable_made, constant_made}
use Rattle.pli_coding.specs.Linking.{Links}
use Rattle.pli_headline.specs.Headline.{parts}
use Rattle.pli_headline.specs.ProvedSoFar.{Names, Spot, Kind, Types, alone, types_of, IsScalar, bytes_for, bytes_of, AreConstants, ArePlain, IsPlain, plain_variable, array_variable, declared_kind, names_from, types_in, OuterBlock, AreBounds, IsHeld}
use Rattle.pli_headline.proofs.Storages.{storage, in_use_same}
use Rattle.run_steps.specs.Engine.{Base, address}
use Rattle.run_steps.proofs.Linking.{size_append}
use Rattle.run_steps.specs.Items.{Linked, At}
use Rattle.run_steps.specs.Bodies.{Known}
use Rattle.run_steps.proofs.Jumps.{front_of, back_of}
use Rattle.run_steps.specs.Temporaries.{nothing}
use Rattle.pli_headline.proofs.Activations.{entered_length, same_length}
use Rattle.pli_headline.proofs.Serving.{Serving}
use Rattle.run_steps.specs.Reach.{Family, Aims, Comes, Closed}
use Rattle.run_steps.proofs.Reach.{before_closed, comes_on, onward}
use Rattle.pli_headline.proofs.Scalars.{Values, place_below, by_held, character, varying, by_shape}
use Rattle.pli_headline.proofs.VariablePlaces.{frame_size, scalar_size, counted_size, text_print, size_for}
use Rattle.pli_headline.proofs.MainProcedure.{frame_fixed, frame_many, plain_kind, typed_plain}
use Rattle.pli_headline.proofs.PlainNumbers.{number_for, Numbered}
use Rattle.pli_headline.proofs.NamesMade.{made_code, make_asked, made_named}
use Rattle.pli_headline.proofs.DeclaredNames.{by_last, chosen_before, chosen_here}
use Rattle.pli_headline.proofs.Variables.{level_of}
use Rattle.pli_headline.proofs.OneMore.{more_block, more_enclosures}
use Rattle.pli_headline.proofs.MorePlaces.{More, more_ground, around_level, not_last}
use Rattle.pli_headline.proofs.Asides.{IsFresh}
use Rattle.pli_headline.proofs.InitialRead.{start_datum, IsNamedIf}
use Rattle.pli_headline.proofs.StandingBytes.{IsPlacedIf, Begins, ConstantsStand, constants_moved}
use Rattle.pli_headline.proofs.MoreNames.{more_names, more_serials, spot_of}
use Rattle.pli_headline.proofs.MoreStates.{IsNew, step_meant, made_or_ended, nested_same, more_all, fewer_all, all_same}
use Rattle.pli_headline.proofs.MoreServed.{OwnStands, place_for, more_piece, past_piece}
use Rattle.pli_headline.proofs.MainStates.{kind_binding}
use Rattle.pli_headline.proofs.Statements.{Block, Enclosures, Outlets, Homes, lower_ground, AllHold, SameValues, IsKnown, IsEndMarkedOnce, Exit, OwnExit, Does}
use Rattle.pli_headline.proofs.BegunValues.{AreBegun, begun_beside, begun_here, begun_values}
use Rattle.pli_headline.proofs.ArrayFrames.{held_constant}
use Rattle.pli_typing.specs.Signatures.{Bounds}

-- ---- what they take

-- what the first of them take
abbrev pub bytes_before : List Y.DeclaredVariable → (i : ℕ) → ℕ
bytes_before ds zero = 0
bytes_before [] (suc i) = 0
bytes_before (d ∷ ds) (suc i) = bytes_for (declared_kind d) + bytes_before ds i

pub bytes_all : (ds : List Y.DeclaredVariable) → bytes_before ds (length ds) ≡ bytes_of ds
bytes_all [] = refl
bytes_all (d ∷ ds) = ap (λ n. bytes_for (declared_kind d) + n) (bytes_all ds)

plain_held : (d : Y.DeclaredVariable) (is : IsPlain d) → IsHeld (declared_kind d).type (declared_kind d).bounds
plain_held d is = subst (λ (k : Kind). IsHeld k.type k.bounds) (plain_kind d is) is.held

pub declared_bytes : (d : Y.DeclaredVariable) → IsPlain d → bytes_for (declared_kind d) ≡ frame_size (declared_kind d)
declared_bytes d is = counted_size (declared_kind d) (plain_held d is)

-- ---- the variables still to be made

pub record Makes {e : Environment} {block : Names} {types : Types} (ib : Block e block types) (index : ℕ) (ds : List Y.DeclaredVariable) : Type 0 where
  pub are : ArePlain ds
  pub stand : (i : ℕ) → i < length ds → slice_get (variables_of_block e.program e.block) (index + i) ≡ slice_get ds i
  pub deep : 0 < e.level
  pub new : IsNew e block types index
  pub fresh : IsFresh ib.frames.asides
  pub own : OwnStands ib
  pub places : (i : ℕ) → i ≤ length ds → ib.stack.frame + place_for e (index + i) ≡ ib.stack.free + bytes_before ds i
  pub room : ib.stack.free + bytes_of ds + 4 ≤ 14 * 2 ^ 20
  pub near : place_for e index + bytes_of ds ≤ last_place

first_here : (e : Environment) (index : ℕ) (d : Y.DeclaredVariable) (ds : List Y.DeclaredVariable) → ((i : ℕ) → i < length (d ∷ ds) → slice_get (variables_of_block e.program e.block) (index + i) ≡ slice_get (d ∷ ds) i) → slice_get (variables_of_block e.program e.block) index ≡ Some d
first_here e index d ds stand =
    let here : index ≡ index + 0 = omega arith in
    ap (λ i. slice_get (variables_of_block e.program e.block) i) here ∙ stand 0 (omega arith)

pub first_more : {e : Environment} {block : Names} {types : Types} (ib : Block e block types) {index : ℕ} (d : Y.DeclaredVariable) (ds : List Y.DeclaredVariable) → Makes ib index (d ∷ ds) → More ib index (declared_kind d)
first_more {e} ib {index} d ds m =
    let here : index + 0 ≡ index = omega arith in
    let p = m.places 0 (omega arith) in
    let q : place_for e (index + 0) ≡ place_for e index = ap (place_for e) here in
    let room = m.room in
    let near = m.near in
    let size = declared_bytes d m.are.0 in
    record {
      held = plain_held d m.are.0;
      initial = m.are.0.initial;
      declared = first_here e index d ds m.stand ∙ ap (λ u. Some u) (typed_plain d (declared_kind d) m.are.0 refl);
      deep = m.deep;
      place = omega (arith, p, q);
      room = omega (arith, room, size);
      near = omega (arith, near, size);
    }

pub next_makes : {e : Environment} {block : Names} {types : Types} (ib : Block e block types) {index : ℕ} (d : Y.DeclaredVariable) (ds : List Y.DeclaredVariable) (m : Makes ib index (d ∷ ds)) (serial : ℕ) → Makes (more_block ib (first_more ib d ds m) serial) (suc index) ds
next_makes {e} {block} {types} ib {index} d ds m serial =
    let room = m.room in
    let near = m.near in
    let size = declared_bytes d m.are.0 in
    let p0 = m.places 0 (omega arith) in
    let q0 : place_for e (index + 0) ≡ place_for e index = (let same : index + 0 ≡ index = omega arith in ap (place_for e) same) in
    let p1 = m.places 1 (omega arith) in
    let q1 : place_for e (index + 1) ≡ place_for e (suc index) = (let same : index + 1 ≡ suc index = omega arith in ap (place_for e) same) in
    record {
      are = m.are.1;
      stand = λ i below. let e' : suc index + i ≡ index + suc i = omega arith in ap (λ n. slice_get (variables_of_block e.program e.block) n) e' ∙ m.stand (suc i) (omega (arith, below));
      deep = m.deep;
      new = λ j kind at.
          by_last types (declared_kind d) (λ i kind'. (level_of (more_names e block types index) i < e.level) ⊎ (((more_names e block types index).at i).index < suc index))
          (λ i kind' below at'. still_new i below (m.new i kind' at'))
          (inr (let s = ap (λ (u : Spot). u.index) (chosen_here (length types) (block.at (length types)) (spot_of e index)) in omega (arith, s)))
          j kind at;
      fresh = m.fresh;
      own = λ n t b k held. m.own n t b k held.0;
      places = λ i below.
          let e' : suc index + i ≡ index + suc i = omega arith in
          let q : place_for e (suc index + i) ≡ place_for e (index + suc i) = ap (place_for e) e' in
          let p = m.places (suc i) (omega (arith, below)) in
          omega (arith, p, q, size);
      room = omega (arith, room, size);
      near = omega (arith, near, p0, q0, p1, q1);
    }
  where
    still_new : (i : ℕ) → i < length types → (level_of block i < e.level) ⊎ ((block.at i).index < index) → (level_of (more_names e block types index) i < e.level) ⊎ (((more_names e block types index).at i).index < suc index)
    still_new i below (inl low) = inl (let l = around_level e block types index i below in omega (arith, l, low))
    still_new i below (inr low) = inr (let s = ap (λ (u : Spot). u.index) (chosen_before (length types) i (block.at i) (spot_of e index) below) in omega (arith, s, low))

abbrev pub made_block : {e : Environment} {block : Names} {types : Types} (ib : Block e block types) {index : ℕ} (ds : List Y.DeclaredVariable) → Makes ib index ds → (serial : ℕ) → Block e (names_from block types e.block e.level index ds) (types_in types ds)
made_block ib [] m serial = ib
made_block {e = e} {block = block} {types = types} ib {index = index} (d ∷ ds) m serial =
    made_block {block = more_names e block types index} {types = types ++ (declared_kind d ∷ [])} (more_block ib (first_more ib d ds m) (serial + 1)) ds (next_makes ib d ds m (serial + 1)) (serial + 1)

-- ---- their code

abbrev placed_by : Bool → Environment → Register → (place : ℤ) → Code
placed_by q e r place =
    cond q [] (load_word r frame_register (display e.level)) ++ (load_word r (cond q frame_register r) own_offset ++ plus r r place)

abbrev made_by : Bool → Environment → (size place n : ℕ) → Option Datum → Code
made_by q e size place n start =
    placed_by q e a0 (pos place)
    ++ (number a1 n
    ++ (initial_given a2 start
    ++ (placed_by q e a3 (pos (place + name_bytes)) ++ (make_asked ++ plus stack_register frame_register (pos (min last_place (place + size)))))))

alone_made : (e : Environment) (line place : ℕ) (items : List T.InitialItem) (type : Y.LeafType) → IsScalar type → e.parts ≡ parts → automatic_made e line place (plain_variable type items) ≡ made_code (scalar_size type) place (number_for e.table (alone type)) (start_datum items)
alone_made e line place items type is same =
    let start = start_datum items in
    let code : Y.LeafType → ℕ → Code = λ t n. made_code n place (number_for e.table (alone t)) start in
    let asked : Y.LeafType → Bool → Code = λ t q. made_by q e (frame_bytes parts (plain_variable t items)) place (number_for e.table (alone t)) start in
    ap (λ q. automatic_made (record e { parts = q }) line place (plain_variable type items)) same
    ∙ by_held (λ t. automatic_made (record e { parts = parts }) line place (plain_variable t items) ≡ made_code (scalar_size t) place (number_for e.table (alone t)) start)
    (λ p. ap (asked (Y.FixedLeaf p)) (eq-eqb e.level e.level refl) ∙ ap (code (Y.FixedLeaf p)) (frame_fixed p items))
    (ap (λ q. made_by q e 32 place (number_for e.table (alone Y.BitLeaf)) start) (eq-eqb e.level e.level refl))
    (λ n few. ap (asked (character n)) (eq-eqb e.level e.level refl) ∙ ap (code (character n)) (text_print (suc n)))
    (λ n few. ap (asked (varying n)) (eq-eqb e.level e.level refl) ∙ ap (code (varying n)) (text_print (2 + suc n)))
    type is

many_made : (e : Environment) (line place : ℕ) (items : List T.InitialItem) (type : Y.LeafType) (b : Bounds) (bs : List Bounds) → IsScalar type → AreBounds (b ∷ bs) → e.parts ≡ parts → automatic_made e line place (array_variable type (b ∷ bs) items) ≡ made_code (size_for type (b ∷ bs)) place (number_for e.table (record { type = type; bounds = b ∷ bs })) (start_datum items)
many_made e line place items type b bs held are same =
    let e' = record e { parts = parts } in
    let d = array_variable type (b ∷ bs) items in
    let n = number_for e.table (record { type = type; bounds = b ∷ bs }) in
    ap (λ q. automatic_made (record e { parts = q }) line place d) same
    ∙ ap (λ q. if q then constant_made e' place d else adjustable_made e' line place d) (held_constant type held (b ∷ bs) items)
    ∙ ap (λ q. made_by q e (frame_bytes parts d) place n (start_datum items)) (eq-eqb e.level e.level refl)
    ∙ ap (λ size. made_code size place n (start_datum items)) (frame_many type b bs items held are)

own_made : (e : Environment) (line place : ℕ) (k : Kind) (items : List T.InitialItem) → IsHeld k.type k.bounds → e.parts ≡ parts → automatic_made e line place (array_variable k.type k.bounds items) ≡ made_code (frame_size k) place (number_for e.table k) (start_datum items)
own_made e line place k items is same =
    by_shape (λ t bs. automatic_made e line place (array_variable t bs items) ≡ made_code (size_for t bs) place (number_for e.table (record { type = t; bounds = bs })) (start_datum items))
    (λ t held. alone_made e line place items t held same) (λ t b bs held are few. many_made e line place items t b bs held are same) k.type k.bounds is

first_made : (e : Environment) (line index : ℕ) (d : Y.DeclaredVariable) (ds : List Y.DeclaredVariable) (is : IsPlain d) → e.parts ≡ parts → variables_made e line index (d ∷ ds) ≡ made_code (frame_size (declared_kind d)) (place_for e index) (number_for e.table (declared_kind d)) (start_datum is.initial) ++ variables_made e line (suc index) ds
first_made e line index d ds is same =
    let rest = variables_made e line (suc index) ds in
    let p = place_for e index in
    ap (λ u. cond (is_automatic u.class) (automatic_made e line p u) [] ++ rest) (typed_plain d (declared_kind d) is refl)
    ∙ ap (λ c. c ++ rest) (own_made e line p (declared_kind d) is.initial (plain_held d is) same)

-- what is named in code that is linked has a place
placed_if : {links : Links} {code : List Instr} {i : ℕ} {xs : Code} (start : Option Datum) → Linked links code i xs → IsNamedIf start xs → IsPlacedIf start links.data'
placed_if None l named = tt
placed_if (Some d) l named = l.named d named

pub code_joined : (xs ys zs : Code) → (xs ++ ys) ++ zs ≡ xs ++ (ys ++ zs)
code_joined [] ys zs = refl
code_joined (x ∷ xs) ys zs = ap (λ us. x ∷ us) (code_joined xs ys zs)

kind_stands : (ds : List Y.DeclaredVariable) (i : ℕ) (d : Y.DeclaredVariable) → slice_get ds i ≡ Some d → slice_get (types_of ds) i ≡ Some (declared_kind d)
kind_stands [] i d h = absurd (cc h)
kind_stands (u ∷ us) zero d h = let e : u ≡ d = cc h in ap (λ q. Some (declared_kind q)) e
kind_stands (u ∷ us) (suc i) d h = kind_stands us i d h

-- ---- and the statements behind them

-- what is left when they end goes on
abbrev pub GoesOn : {e : Environment} {block : Names} {types : Types} → Block e block types → (k i : ℕ) → Aims (Unit {0}) → Type 0
GoesOn {e} {block} {types} ib k i aims =
    (s : State) (v : Services) (line : ℕ) (n : Values) (h t : ℕ → ℕ) (f : Family) (free : ℕ) → Serving k s v line → AllHold ib.frames ib.serials (storage v) (e.level ∷ ib.depths) s block types n → ((b : Base) → At b i (Known (lower_ground (ib.ground n) free) v h t nothing b) (f b)) → aims.done i f v tt s

-- a jump or a return out goes on as it does from the block with fewer variables
more_outlets : {e : Environment} {block : Names} {types : Types} (ib : Block e block types) (k' : Kind) (links : Links) (k acts : ℕ) (jumped : ℕ → Family → Services → ℕ → Label → State → Type 0) (os : List OuterBlock) (cs : Enclosures e ib.ground ib.levels ib.frames.list (e.level ∷ ib.depths) os) → Outlets e ib.ground ib.levels ib.frames (e.level ∷ ib.depths) os cs links k acts jumped → Outlets e (more_ground ib k') ib.levels ib.frames (e.level ∷ ib.depths) os (more_enclosures ib k' os cs) links k acts jumped
more_outlets ib k' links k acts jumped [] cs outs = tt
more_outlets ib k' links k acts jumped (o ∷ os) cs outs =
    (λ label among once. let p = outs.0 label among once in record { at = p.at; place = p.place; near = p.near; later = p.later; lands = p.lands }, more_outlets ib k' links k acts jumped os cs.1 outs.1)

more_homes : {e : Environment} {block : Names} {types : Types} (ib : Block e block types) (k' : Kind) (links : Links) (k : ℕ) (returned : ℕ → Family → Services → Option BasicValue → State → Type 0) (os : List OuterBlock) (cs : Enclosures e ib.ground ib.levels ib.frames.list (e.level ∷ ib.depths) os) → Homes e ib.ground ib.levels ib.frames (e.level ∷ ib.depths) os cs links k returned → Homes e (more_ground ib k') ib.levels ib.frames (e.level ∷ ib.depths) os (more_enclosures ib k' os cs) links k returned
more_homes ib k' links k returned [] cs homes = tt
more_homes ib k' links k returned (o ∷ os) cs homes =
    (λ deep owned once. let p = homes.0 deep owned once in record { at = p.at; place = p.place; near = p.near; later = p.later; leaves = p.leaves }, more_homes ib k' links k returned os cs.1 homes.1)

more_exit : {e : Environment} {block : Names} {types : Types} (ib : Block e block types) (index : ℕ) (k' : Kind) (serial : ℕ) {links : Links} {k : ℕ} {returned : ℕ → Family → Services → Option BasicValue → State → Type 0} → OwnExit e block types ib.ground ib.frames ib.serials ib.depths links k returned → OwnExit e (more_names e block types index) (types ++ (k' ∷ [])) (more_ground ib k') ib.frames (more_serials ib.serials (length types) serial (suc (length ib.depths))) ib.depths links k returned
more_exit {e} ib index k' serial o =
    record {
      at = o.at;
      place = o.place;
      near = o.near;
      later = o.later;
      leaves = λ s v line n h t f free serving all at.
          o.leaves s v line n h t f free serving (fewer_all e index k' serial (suc (length ib.depths)) all)
          (λ b. let q = (at b).holds in record {
            pc = (at b).pc;
            holds = record { body = record { services = q.body.services; registers = q.body.registers; bytes = q.body.bytes; memory = q.body.memory.0 }; regs = q.regs };
          });
    }

pub declares_from : {links : Links} {code : List Instr} {aims : Aims (Unit {0})} (closed : Closed code aims) (around : Around) (line turns k : ℕ) (c : Code) (meaning : Meaning (Unit {0})) (ds : List Y.DeclaredVariable) {e : Environment} {block : Names} {types : Types} (ib : Block e block types) (known : IsKnown e) {index : ℕ} (m : Makes ib index ds) {i : ℕ} {s : State} {v : Services} {h t : ℕ → ℕ} (n : Values) (f : Family) (old : ℕ) → ((n' : Values) → ConstantsStand links code (ib.ground n')) → ib.labels ≡ [] → Outlets e ib.ground ib.levels ib.frames (e.level ∷ ib.depths) ib.outer ib.enclosing links k v.world.acts aims.jumped → Homes e ib.ground ib.levels ib.frames (e.level ∷ ib.depths) ib.outer ib.enclosing links k aims.returned → ((0 == e.level) ≡ false → e.owner ≡ BlockOwner (record { number = e.block; level = e.level }) → IsEndMarkedOnce links e.block → OwnExit e block types ib.ground ib.frames ib.serials ib.depths links k aims.returned) → k < turns + v.world.acts → 10 ≤ i → ((number : ℕ) → e.owner ≡ BlockOwner (record { number = number; level = 0 }) → IsEndMarkedOnce links number → Exit number ib.base ib.bottom.holds links k aims.returned) → Does (made_block ib ds m s.serials) links code turns c meaning → Linked links code i (variables_made e line index ds ++ c) → Serving k s v old → AllHold ib.frames ib.serials (storage v) (e.level ∷ ib.depths) s block types n → ((b : Base) → At b i (Known (ib.ground n) v h t nothing b) (f b)) → GoesOn ib k (i + size_of (variables_made e line index ds ++ c)) aims → Comes code i f v aims (flow_on k (K.variables_made around index ds k s) (λ u. meaning))
unfolding K.variables_made give
declares_from {links} {code} {aims} closed around line turns k c meaning [] {e} ib known m n f old stand none outs homes own enough later returns does' l serving all at goal =
    does'.does closed old n f k l serving all at
    (λ s' v' line' n' h' t' f' serving' all' stays at'. goal s' v' line' n' h' t' f' (ib.ground n').free serving' all' at')
    (record {
      enough = enough;
      later = later;
      jumps = λ label among once. let no : false ≡ true = sym (ap (is_among label) none) ∙ among in absurd (cc no);
      outs = outs;
      returns = returns;
      own = own;
      homes = homes;
    })
declares_from {links} {code} {aims} closed around line turns k c meaning (d ∷ ds) {e} {block} {types} ib known {index} m {i} {s} {v} {h} {t} n f old stand none outs homes own enough later returns does' l serving all at goal =
    let count = length types in
    let kind = declared_kind d in
    let items = m.are.0.initial in
    let start = start_datum items in
    let o = first_more ib d ds m in
    let table = table_of block.program in
    let sig = number_for table kind in
    let first = made_code (frame_size kind) (place_for e index) sig start in
    let rest = variables_made e line (suc index) ds in
    let tables : e.table ≡ table = known.table ∙ ap table_of (sym ib.named) in
    let eq : variables_made e line index (d ∷ ds) ≡ first ++ rest = first_made e line index d ds m.are.0 known.parts_are ∙ ap (λ u. made_code (frame_size kind) (place_for e index) (number_for u kind) start ++ rest) tables in
    let here = first_here e index d ds m.stand in
    let numbered : Numbered table kind = subst (λ p. Numbered (table_of p) kind) (sym ib.named) (known.numbered e.block index (kind_stands (variables_of_block e.program e.block) index d here)) in
    let n1 = begun_values n count kind.type items in
    let same : SameValues types n n1 = λ j kind' at'. begun_beside n count kind.type items j (not_last count j (place_below types j kind' at')) in
    let begun : AreBegun n1 count kind.type items = begun_here n count kind.type items in
    let all1 = all_same n1 same all in
    let at1 : (b : Base) → At b i (Known (ib.ground n1) v h t nothing b) (f b) = λ b.
    let q = (at b).holds in
    record {
      pc = (at b).pc;
      holds = record {
        body = record { services = q.body.services; registers = q.body.registers ∙ ib.same n n1 b h; bytes = q.body.bytes; memory = ib.alike n n1 same t b _ q.body.memory };
        regs = q.regs;
      };
    } in
    let joined : (first ++ rest) ++ c ≡ first ++ (rest ++ c) = code_joined first rest c in
    let l' : Linked links code i (first ++ (rest ++ c)) = subst (Linked links code i) joined (subst (λ u. Linked links code i (u ++ c)) eq l) in
    let l1 = front_of first (rest ++ c) l' in
    let l2 = back_of first (rest ++ c) l' in
    let long = entered_length s.activations (e.level ∷ ib.depths) all.entered in
    let alike' = same_length s.activations v.activations serving.nested in
    let some : 0 < length v.activations = omega (arith, long, alike') in
    let use' = in_use_same v.signatures (suc (length ib.depths)) s.living v.living all.stored.alike in
    let sum = size_append first (rest ++ c) in
    let sized = ap (λ u. size_of (u ++ c)) eq ∙ ap size_of joined in
    let place : i + size_of first + size_of (rest ++ c) ≡ i + size_of (variables_made e line index (d ∷ ds) ++ c) = omega (arith, sum, sized) in
    let last : Unit {0} → Meaning (Unit {0}) = λ u. meaning in
    let next' : Unit {0} → Meaning (Unit {0}) = λ u. K.variables_made around (suc index) ds in
    let begins : AreConstants kind.type items = subst (λ (k' : Kind). AreConstants k'.type items) (plain_kind d m.are.0) m.are.0.begins in
    let array : d ≡ array_variable kind.type kind.bounds items = typed_plain d kind m.are.0 refl in
    let reads : Begins links code (ib.ground n1) kind items = (stand n1).begin kind items o.held begins (placed_if start l1 (made_named (frame_size kind) (place_for e index) sig start)) in
    let T : Bool → Type 0 = λ q. Comes code i f v aims (flow_on k (flow_on k (made_or_ended s index k kind items q) next') last) in
    let by_limit : (2 ^ 20 < automatic_in_use s.living + frame_size kind) ⊎ (automatic_in_use s.living + frame_size kind ≤ 2 ^ 20) → T (nat_le (automatic_in_use s.living + frame_size kind) most_automatic) = elim [
      | inl over ↦
          subst T (sym (lt-leb (automatic_in_use s.living + frame_size kind) (2 ^ 20) over))
          (comes_on k (flow_on k (finish {R = Unit {0}} (E.Limit L.Automatic) k s) next') last
          (comes_on k (finish {R = Unit {0}} (E.Limit L.Automatic) k s) next'
          (past_piece ib o m.own (before_closed k next' (before_closed k last closed)) n1 f table items k old reads numbered all.stored.table some (omega (arith, over, use')) l1 serving at1)))
      | inr within ↦
          subst T (sym (le-leb (automatic_in_use s.living + frame_size kind) (2 ^ 20) within))
          (onward closed (more_piece ib o m.own i n1 v h t f table items begins reads numbered all.stored.table some (omega (arith, within, use')) begun l1 at1) (λ f' at'.
          declares_from closed around line turns k c meaning ds (more_block ib o (s.serials + 1)) known (next_makes ib d ds m (s.serials + 1)) n1 f' old (λ n'. constants_moved (λ t'. t') (λ t' b m' q. q.0) (stand n')) none (more_outlets ib kind links k v.world.acts aims.jumped ib.outer ib.enclosing outs) (more_homes ib kind links k aims.returned ib.outer ib.enclosing homes) (λ deep owned once. more_exit ib index kind (s.serials + 1) (own deep owned once)) enough (omega (arith, later)) returns does' l2
          (record {
            world = serving.world;
            running = serving.running;
            line_is = serving.line_is;
            input = serving.input;
            allowed = serving.allowed;
            fits = serving.fits;
            nested = nested_same s.activations v.activations (kind_binding kind index (s.serials + 1)) serving.nested;
            waiting = serving.waiting;
            places = serving.places;
          })
          (more_all e index kind items ((ib.ground n1).frame + (place_for e index + 16)) o.held begins numbered m.new m.fresh serving.nested begun all1)
          at'
          (λ s' v' line' n' h' t' f'' free serving' all' at''.
          subst (λ u. aims.done u f'' v' tt s') (sym place)
          (goal s' v' line' n' h' t' f'' free serving' (fewer_all e index kind (s.serials + 1) (suc (length ib.depths)) all')
          (λ b. let q = (at'' b).holds in record {
            pc = (at'' b).pc ∙ ap (address b) place;
            holds = record { body = record { services = q.body.services; registers = q.body.registers; bytes = q.body.bytes; memory = q.body.memory.0 }; regs = q.regs };
          })))))
    ] in
    subst (λ u. Comes code i f v aims (flow_on k u last)) (sym (step_meant around s index k kind items d ds array numbered.held)) (by_limit (cases_lt (2 ^ 20) (automatic_in_use s.living + frame_size kind)))
