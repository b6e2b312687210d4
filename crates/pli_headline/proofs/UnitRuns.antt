-- A condition is raised while a unit of the program may be in force: the unit is entered, its variables are made, it runs and goes back
-- behind the raise, or the limit on active blocks ends the run; where none is in force the system's action ends it.
use Rattle.std.proofs.Common.{◌≡◌, ℕ, zero, suc, ◌+◌, ◌*◌, ◌^◌, ◌<◌, ◌≤◌, List, [], ◌∷◌, ◌++◌, length, None, Option, Some, true, false, refl, sym, ap, ◌∙◌, subst, arith, lit<, inl}
use Rattle.std.proofs.lemmas.Bool.{eq-eqb, ltb-true}
use Rattle.std.specs.Prelude.{cond, nat_lt, ◌==◌}
use Rattle.pli_language.specs.declared.condition.Condition.{Condition}
use Rattle.pli_language.specs.declared.condition.Condition.TheVariants as C
use Rattle.rv_meaning.specs.declared.instr.Instr.{Instr}
use Rattle.pli_typing.specs.TypedTree as Y
use Rattle.pli_meaning.specs.Codes.{code_signalled}
use Rattle.pli_meaning.specs.World.{counted, raising}
use Rattle.pli_meaning.specs.BasicValues.{BasicValue}
use Rattle.pli_meaning.specs.StorageState.{State, Activation, OnUnit, SystemUnit, BlockUnit, with_world, newest_ended, most_activations, force}
use Rattle.pli_meaning.specs.declared.outcome.End.TheVariants as E
use Rattle.pli_meaning.specs.declared.outcome.Limit.TheVariants as L
use Rattle.pli_meaning.specs.Control.{Label, Meaning, left, give, act, looked, ◌>>=◌, ◌>>◌, finish}
use Rattle.pli_meaning.specs.Raising.{Around, at_line}
use Rattle.pli_meaning.specs.Raising as R
use Rattle.pli_meaning.specs.Executing as M
use Rattle.pli_serving.specs.ServiceState as S
use Rattle.pli_serving.specs.ServiceState.{Services}
use Rattle.pli_serving.specs.OnUnits as U
use Rattle.pli_coding.specs.Registers.{a7}
use Rattle.pli_coding.specs.Assembly.{ReturnPlace, Plain, Code, size_of}
use Rattle.pli_coding.specs.Instructions.{small}
use Rattle.rv_meaning.specs.declared.instr.Instr.TheVariants as I
use Rattle.pli_coding.specs.Arithmetic.{condition_number, raised}
use Rattle.pli_coding.specs.Allocating.{act_code}
use Rattle.pli_coding.specs.Entries.{registers_restored, frame_begun, frame_ended, entered_without_texts, variables_made}
use Rattle.pli_coding.specs.Environments.{BlockOwner, Environment, none_taken}
use Rattle.pli_coding.specs.Statements.{owner_of_unit, unit_environment, unit_mark, unit_left, stmt_code, stmts_code}
use Rattle.pli_coding.specs.Linking.{Links, place_of}
use Rattle.pli_headline.specs.ProvedSoFar.{Types, Names, unit_declares}
use Rattle.pli_headline.proofs.HeldPlaces.{places_entered, PlacesHeld, places_left, places_behind}
use Rattle.run_steps.specs.Engine.{Base, address, most_code}
use Rattle.run_steps.proofs.Linking.{size_append}
use Rattle.run_steps.specs.Items.{Linked, At}
use Rattle.run_steps.specs.Bodies.{Known}
use Rattle.run_steps.proofs.Jumps.{front_of, back_of, linked_at}
use Rattle.run_steps.specs.Temporaries.{nothing}
use Rattle.pli_headline.proofs.Activations.{may_have_unit, IsOrdinary, OnlyIf, same_length, entered_length, first_level, levels_of}
use Rattle.pli_headline.proofs.Entered.{atop, AreBoth, both_in_force, NoUnit, Way}
use Rattle.pli_headline.proofs.Serving.{Serving}
use Rattle.pli_headline.proofs.Raising.{Routines, with_act}
use Rattle.pli_headline.proofs.Operators.{raised_alone}
use Rattle.pli_headline.proofs.Acts.{act_to, act_piece}
use Rattle.pli_headline.proofs.Statements.{owner_level, Block, IsKnown, AllHold, counted_all, IsEndMarkedOnce, Enough, Does}
use Rattle.pli_headline.proofs.CalledJumps.{ending_closed, comes_called}
use Rattle.run_steps.specs.Owing.{owing}
use Rattle.run_steps.proofs.Owing.{owing_closed, comes_owing, done_owing}
use Rattle.pli_headline.proofs.MainOutlets.{HasMain, main_of, main_enclosing, main_seen, main_outlet, owed_outlet}
use Rattle.run_steps.specs.SavedRegisters.{held_again}
use Rattle.pli_headline.proofs.BeginEntered.{ended_services}
use Rattle.pli_headline.proofs.BeginMeant.{Entering, inner_around, entered_by, raised_nested, raised_all, ended_input, left_all, newest_kind}
use Rattle.pli_headline.proofs.CallMeant.{called_part}
use Rattle.pli_headline.proofs.CallRuns.{called_direct, acted_does}
use Rattle.pli_headline.proofs.Declares.{Makes, made_block, declares_from}
use Rattle.pli_headline.proofs.DeclaredBegins.{ended_does}
use Rattle.pli_headline.proofs.StandingBytes.{ConstantsStand}
use Rattle.pli_headline.proofs.CalledFrames.{Callee, called_block_as}
use Rattle.pli_headline.proofs.CalledLeft.{ending_ground}
use Rattle.pli_headline.proofs.CalledBegun.{called_frame, entry_with}
use Rattle.pli_headline.proofs.Begins.{by_test}
use Rattle.pli_headline.proofs.UnitMeant.{IsUnitKind, unit_entry, unit_part, unit_flow, unit_meant, past_limit}
use Rattle.pli_headline.proofs.UnitRaised.{waiting_services, unit_begins}
use Rattle.pli_headline.proofs.UnitEntered.{unit_activation, unit_services, unit_entered, line_given, entry_limited}
use Rattle.pli_headline.proofs.UnitLeft.{jump_on, unit_left_piece}
use Rattle.pli_headline.proofs.SystemUnits.{condition_is}
use Rattle.run_steps.specs.Reach.{Family, cost, Aims, Comes, Closed}
use Rattle.run_steps.proofs.Reach.{before_closed, comes_on, onward, reach_with}
use Rattle.pli_headline.proofs.Scalars.{Values}
use Rattle.pli_headline.proofs.Storages.{storage}

-- ---- units that may be raised

-- the code of a unit, with that of its variables and the mark of its end
abbrev pub unit_with : (words held line : ℕ) → (made statements mark : Code) → Code
unit_with words held line made statements mark =
    frame_begun words 1 0 (Some held)
    ++ (entered_without_texts 2 line ++ ((made ++ (act_code line ++ statements)) ++ (mark ++ unit_left words held)))

-- its variables are made
abbrev pub unit_made : Environment → Y.BlockHead → Y.BlockKind → Code
unit_made e head kind = variables_made (unit_environment head e) head.line 0 (unit_declares e.program head kind)

-- its block, before they are
abbrev pub unit_block : {e : Environment} {block : Names} {types : Types} (bl : Block e block types) (callee : Callee bl) (kind : Way) (back : Base → ℕ) (h0 t0 : ℕ → ℕ) (head : Y.BlockHead) → (next : head.level ≡ 1) (main : ℕ) (mains : List Label) (has : HasMain main mains e.level e.block bl.labels bl.outer) → Block (unit_environment head e) block types
unit_block bl callee kind back h0 t0 head next main mains has =
    called_block_as bl callee back h0 t0 (owner_of_unit head head.kind) kind head next (main_of main mains) (main_enclosing bl callee back h0 t0 (owner_of_unit head head.kind) head next main mains has) (main_seen bl callee back h0 t0 (owner_of_unit head head.kind) head next main mains has)

-- so many variables are made in it
abbrev pub UnitMakes : {e : Environment} {block : Names} {types : Types} (bl : Block e block types) (callee : Callee bl) (head : Y.BlockHead) → (next : head.level ≡ 1) (main : ℕ) (mains : List Label) (has : HasMain main mains e.level e.block bl.labels bl.outer) → List Y.DeclaredVariable → Type 0
UnitMakes bl callee head next main mains has ds =
    (kind : Way) (back : Base → ℕ) (h0 t0 : ℕ → ℕ) → Makes (unit_block bl callee kind back h0 t0 head next main mains has) 0 ds

-- what owns its statements isn't the main procedure
pub unit_apart : (head : Y.BlockHead) (kind : Y.BlockKind) → head.level ≡ 1 → (number : ℕ) → owner_of_unit head kind ≡ BlockOwner (record { number = number; level = 0 }) → ⊥
unit_apart head Y.SimpleUnit level number owned = cc owned
unit_apart head Y.UnitBlock level number owned = let no : head.level ≡ 0 = ap owner_level owned in omega (arith, no, level)
unit_apart head Y.ProcedureBlock level number owned = let no : head.level ≡ 0 = ap owner_level owned in omega (arith, no, level)
unit_apart head Y.BeginBlock level number owned = let no : head.level ≡ 0 = ap owner_level owned in omega (arith, no, level)

mark_size : (head : Y.BlockHead) (kind : Y.BlockKind) → size_of (unit_mark head kind) ≡ 0
mark_size head Y.SimpleUnit = refl
mark_size head Y.UnitBlock = refl
mark_size head Y.ProcedureBlock = refl
mark_size head Y.BeginBlock = refl

-- the mark says where its end is
end_placed : {links : Links} {code : List Instr} {i : ℕ} (head : Y.BlockHead) (kind : Y.BlockKind) → Linked links code i (unit_mark head kind) → owner_of_unit head kind ≡ BlockOwner (record { number = head.number; level = head.level }) → IsEndMarkedOnce links head.number → place_of links (ReturnPlace head.number) ≡ 4 * i
end_placed head Y.SimpleUnit l owned once = absurd (cc owned)
end_placed head Y.UnitBlock l owned once = l.has.0 (eq-eqb head.number head.number refl) once
end_placed head Y.ProcedureBlock l owned once = l.has.0 (eq-eqb head.number head.number refl) once
end_placed head Y.BeginBlock l owned once = l.has.0 (eq-eqb head.number head.number refl) once

-- its code stands at an offset, there is room for its frame, its variables can be made, and then its statements do what they mean
pub record Raisable {e : Environment} {block : Names} {types : Types} (bl : Block e block types) (main : ℕ) (mains : List Label) (has : HasMain main mains e.level e.block bl.labels bl.outer) (links : Links) (code : List Instr) (more frame : ℕ) (u : Y.Block) (at : ℕ) : Type 1 where
  pub lowest : frame ≡ bl.base
  pub head : Y.BlockHead
  pub body : Y.Stmts
  pub is : u ≡ Y.BlockOf head body
  pub kind : IsUnitKind head.kind
  pub level : head.level ≡ 1
  pub line : head.line < 2 ^ 31
  pub known : IsKnown (unit_environment head e)
  pub callee : Callee bl
  pub index : ℕ
  pub at_is : at ≡ 4 * index
  pub later : 19 ≤ index
  pub linked :
      Linked links code index (unit_with callee.words callee.held head.line (unit_made e head head.kind)
      (stmts_code (unit_environment head e) none_taken body) (unit_mark head head.kind))
  pub makes : UnitMakes bl callee head level main mains has (unit_declares e.program head head.kind)
  pub stand : (kind' : Way) (back : Base → ℕ) (h0 t0 : ℕ → ℕ) (n : Values) → ConstantsStand links code ((unit_block bl callee kind' back h0 t0 head level main mains has).ground n)
  pub does : (m : ℕ) → more ≡ suc m → suc (length bl.depths) < most_activations → (kind' : Way) (back : Base → ℕ) (h0 t0 : ℕ → ℕ) (serial : ℕ) → Does (made_block (unit_block bl callee kind' back h0 t0 head level main mains has) (unit_declares e.program head head.kind) (makes kind' back h0 t0) serial) links code (suc m) (stmts_code (unit_environment head e) none_taken body) (M.list (inner_around e.program m head.line) body)

-- ---- behind the statements of the unit

-- behind a raise, where its unit has ended: as many places in format lists are there as before it
abbrev pub Resumed : {e : Environment} {block : Names} {types : Types} → Block e block types → (k count : ℕ) → (t : ℕ → ℕ) → (i : ℕ) → Aims (Unit {0}) → Type 0
Resumed {e} {block} {types} bl k count t i aims =
    (s : State) (v : Services) (line : ℕ) (n : Values) (h : ℕ → ℕ) (f : Family) → Serving k s v line → AllHold bl.frames bl.serials (storage v) (e.level ∷ bl.depths) s block types n → length v.edits ≡ count → ((b : Base) → At b i (Known (bl.ground n) v h t nothing b) (f b)) → aims.done i f v tt s

-- it is left, and the run goes on where its raise said with the credits of that place
leave_piece : {e : Environment} {block : Names} {types : Types} (bl : Block e block types) {links : Links} {code :
    List Instr} {level : ℕ} (callee : Callee bl) (k i resume oncode count : ℕ) (h t : ℕ → ℕ) {aims :
    Aims (Unit {0})} (closed : Closed code aims) → resume ≤ most_code
    → i + 2 + size_of (registers_restored 0 callee.held) + size_of (frame_ended callee.words) + 4 ≤ resume
    + length code → Linked links code i (unit_left callee.words callee.held) → Resumed bl k count t resume aims
    → (s : State) (v : Services) (line : ℕ) (n : Values) (h1 t1 : ℕ → ℕ) (f : Family) (free : ℕ) → Serving k s v line
    → AllHold (atop callee.at (S.OnUnitBlock oncode (4 * resume), count) bl.frames) bl.serials (storage v)
    (level ∷ e.level ∷ bl.depths) s block types n
    → ((b : Base) → At b i (Known (ending_ground bl callee (λ b'. address b' resume) h t n free) v h1 t1 nothing b)
    (f b)) → (owing code (length code) aims).done i f v tt (with_world s.world (newest_ended s))
leave_piece {e} {block} {types} bl {code = code} callee k i resume oncode count h t closed near few l goal s v line n h1 t1 f free serving all at =
    let o = left_all s (storage v) serving.nested (inl callee.outer) (λ j kind at'. bl.owners j at') all in
    let kind = newest_kind o.newest o.rest o.are o.some all in
    let v' = ended_services v o.newest o.rest in
    let s' = with_world s.world (newest_ended s) in
    done_owing closed (length code) resume few (unit_left_piece bl callee (λ b'. address b' resume) resume n free i f o.newest o.rest oncode near o.are (ap (λ (w : Way). w.0) kind) l at) tt s'
    (λ f' at'.
    goal s' v' o.newest.line n (held_again h 0 callee.held h1) f'
    (record {
      world = serving.world;
      running = serving.running;
      line_is = refl;
      input = serving.input ∙ sym (ended_input s);
      allowed = serving.allowed;
      fits = serving.fits;
      nested = o.nested;
      waiting = serving.waiting;
      places = places_left v.edits o.newest o.rest (subst (PlacesHeld (length v.edits)) o.are serving.places);
    })
    o.all (places_behind v.edits o.newest v.activations oncode (4 * resume) count bl.frames.kinds kind all.kinds serving.places) at')

-- ---- behind its act

-- what follows the raise
abbrev found_unit : Around → Condition → (n : ℕ) → Meaning (Unit {0})
found_unit around c n = looked >>= (λ s. R.unit_run around n (force s.activations c))

found_is : (around : Around) (c : Condition) (n k : ℕ) (s : State) (a : Activation) (u : Y.Block) → force s.activations c ≡ Some (a, BlockUnit u) → found_unit around c n k s ≡ R.unit_run around n (Some (a, BlockUnit u)) k s
unfolding looked ◌>>=◌
found_is around c n k s a u found = ap (λ o. R.unit_run around n o k s) found

-- the unit runs, from its first instruction on
unit_piece : {e : Environment} {block : Names} {types : Types} (bl : Block e block types) {links : Links} {code : List Instr} (main : ℕ) (mains : List Label) (has : HasMain main mains e.level e.block bl.labels bl.outer) (around : Around) (more m : ℕ) {frame : ℕ} {u : Y.Block} {at' : ℕ} (can : Raisable bl main mains has links code more frame u at') → more ≡ suc m → around.enter ≡ M.entered e.program (suc m) → {s : State} {v : Services} {h t : ℕ → ℕ} {aims : Aims (Unit {0})} (closed : Closed code aims) (n : Values) (f : Family) (k line resume oncode : ℕ) (a : Activation) → oncode < 2 ^ 16 → (oncode == 0) ≡ false → k < suc m + v.world.acts → (turns0 start0 acts0 : ℕ) → Enough bl links k turns0 start0 h t acts0 aims.jumped aims.returned → acts0 ≤ v.world.acts → 19 ≤ length code → resume ≤ length code → a.height ≡ 1 → suc (length bl.depths) < most_activations → nat_lt (length s.activations) most_activations ≡ true → Serving k s v line → AllHold bl.frames bl.serials (storage v) (e.level ∷ bl.depths) s block types n → ((b : Base) → At b can.index (Known (bl.ground n) (record v { waiting = Some (record { code = oncode; resume = 4 * resume; line = v.line }) }) h t (entry_with bl.base (4 * resume) (λ b'. address b' resume)) b) (f b)) → Resumed bl k (length v.edits) t resume aims → Comes code 19 f (record v { waiting = Some (record { code = oncode; resume = 4 * resume; line = v.line }) }) (owing code (length code) aims) (unit_part around oncode a can.head can.body k s)
unfolding give ◌>>◌
unit_piece {e} {block} {types} bl {links} {code} main mains has around more m can next enter {s} {v} {h} {t} {aims} closed n f k line resume oncode a small' other enough turns0 start0 acts0 ready less long near parent deep few serving all at goal =
    let program = e.program in
    let head = can.head in
    let body = can.body in
    let callee = can.callee in
    let here = inner_around program m head.line in
    let debt = length code in
    let back : Base → ℕ = λ b. address b resume in
    let w : S.Waiting = record { code = oncode; resume = 4 * resume; line = v.line } in
    let v1 = record v { waiting = Some w } in
    let e' = unit_environment head e in
    let mark = unit_mark head head.kind in
    let i0 = can.index in
    let vars = unit_declares program head head.kind in
    let st = act_code head.line ++ stmts_code e' none_taken body in
    let cs = unit_made e head head.kind ++ st in
    let fb = frame_begun callee.words 1 0 (Some callee.held) in
    let ec = entered_without_texts 2 head.line in
    let ended = unit_left callee.words callee.held in
    let lf = front_of fb (ec ++ (cs ++ (mark ++ ended))) can.linked in
    let l1 = back_of fb (ec ++ (cs ++ (mark ++ ended))) can.linked in
    let le = front_of ec (cs ++ (mark ++ ended)) l1 in
    let l2 = back_of ec (cs ++ (mark ++ ended)) l1 in
    let ls = front_of cs (mark ++ ended) l2 in
    let l4 = back_of cs (mark ++ ended) l2 in
    let lm = front_of mark ended l4 in
    let i1 = i0 + size_of fb in
    let i2 = i1 + size_of ec in
    let i4 = i2 + size_of cs in
    let zero' = mark_size head head.kind in
    let ll = linked_at i4 ended (omega (arith, zero')) (back_of mark ended l4) in
    let restored = registers_restored 0 callee.held in
    let lower = frame_ended callee.words in
    let n1 = size_append restored (lower ++ jump_on) in
    let n2 = size_append lower jump_on in
    let room = ll.inside in
    let small2 = ll.small' in
    let behind = can.later in
    let entry = unit_entry oncode head body in
    let s2 = entered_by head entry s in
    let v2 = unit_services v1 w callee.at head.line in
    let x = unit_activation v1 w callee.at in
    let lengths = entered_length s.activations (e.level ∷ bl.depths) all.entered in
    let few' : nat_lt (length v.activations) most_activations ≡ true = ap (λ q. nat_lt q most_activations) (same_length s.activations v.activations serving.nested) ∙ few in
    let level = can.level in
    let some : 0 < head.level = omega (arith, level) in
    let direct : head.level ≡ suc (first_level (levels_of s.activations)) → 1 ≡ length s.activations = λ inside. called_direct bl head.level (levels_of s.activations) (length s.activations) all.entered lengths level inside in
    let ordinary : IsOrdinary oncode x = record { kind = λ further. ap (λ q. cond q further oncode) (sym other); units = tt } in
    let last : Option BasicValue → Meaning (Unit {0}) = λ r. give tt in
    let ub = unit_block bl callee (S.OnUnitBlock oncode (4 * resume), length v.edits) back h t head level main mains has in
    let makes = can.makes (S.OnUnitBlock oncode (4 * resume), length v.edits) back h t in
    let flow = unit_flow program m head body head.kind k s2 in
    let leave = leave_piece bl callee k i4 resume oncode (length v.edits) h t closed (omega (arith, near, small2)) (omega (arith, room, n1, n2)) ll goal in
    let closed0 = owing_closed code debt aims in
    let closed1 = ending_closed newest_ended (before_closed k last closed0) in
    subst (Comes code 19 f v1 (owing code debt aims)) (sym (unit_meant program around m head body oncode k a s enter can.kind parent few))
    (onward closed0 (called_frame bl callee back (λ b. let valid = b.valid.1 in omega (arith, valid, near, small2)) (4 * resume) n 19 f (omega (arith, behind)) lf at)
    (λ f2 at2.
    onward closed0 (reach_with i2 (omega (arith, behind)) (unit_entered bl callee back (4 * resume) n (19 + size_of fb) f2 w head.line can.line refl few' le at2))
    (λ f3 at3.
    comes_on k (left true newest_ended flow) last
    (comes_called newest_ended flow
    (declares_from closed1 here head.line (suc m) k st (called_part program m head body) vars ub can.known makes n f3 head.line (can.stand (S.OnUnitBlock oncode (4 * resume), length v.edits) back h t) refl
    (λ label among once. owed_outlet closed (atop callee.at (S.OnUnitBlock oncode (4 * resume), length v.edits) bl.frames) (main_enclosing bl callee back h t (owner_of_unit head head.kind) head level main mains has) label (main_outlet bl callee back h (owner_of_unit head head.kind) (S.OnUnitBlock oncode (4 * resume), length v.edits) head level main mains has links k turns0 start0 h t acts0 v2.world.acts aims.jumped aims.returned ready label among once (omega (arith, less))), tt)
    (λ deep' owned once. let no : true ≡ false = deep' in absurd (cc no), tt)
    (λ inner owned once. record {
      at = i4;
      place = end_placed head head.kind lm owned once;
      near = omega (arith, room, small2);
      later = omega (arith, behind);
      leaves = λ s5 v5 line5 n5 h5 t5 f5 free5 serving5 all5 at5. record
          { to = λ early. leave s5 v5 line5 n5 h5 t5 f5 free5 serving5 all5 at5 };
    })
    (omega (arith, enough)) (omega (arith, behind))
    (λ number' owned once. absurd (unit_apart head head.kind level number' owned))
    (acted_does (made_block ub vars makes s2.serials) head.line can.line (ended_does (made_block ub vars makes s2.serials) here body (can.does m next deep (S.OnUnitBlock oncode (4 * resume), length v.edits) back h t s2.serials)))
    ls
    (record {
      world = serving.world;
      running = serving.running;
      line_is = refl;
      input = serving.input;
      allowed = serving.allowed;
      fits = serving.fits;
      nested = raised_nested head entry s v.activations x small' some (omega (arith, lengths)) (omega arith) (omega (arith, lengths)) direct ordinary serving.nested;
      waiting = refl;
      places = places_entered (length v.edits) (x) v.activations refl serving.places;
    })
    (raised_all head entry s (storage v) x small' some (omega arith) (omega (arith, lengths)) direct ordinary refl (inl callee.outer) serving.nested all)
    at3
    (λ s5 v5 line5 n5 h5 t5 f5 free5 serving5 all5 at5. record
    { to = λ early. leave s5 v5 line5 n5 h5 t5 f5 free5 serving5 all5 at5 }))))))

-- where too many blocks are entered the run ends
limited_piece : {e : Environment} {block : Names} {types : Types} (bl : Block e block types) {links : Links} {code : List Instr} (main : ℕ) (mains : List Label) (has : HasMain main mains e.level e.block bl.labels bl.outer) (around : Around) (more m : ℕ) {frame : ℕ} {u : Y.Block} {at' : ℕ} (can : Raisable bl main mains has links code more frame u at') → around.enter ≡ M.entered e.program (suc m) → {s : State} {v : Services} {h t : ℕ → ℕ} {aims : Aims (Unit {0})} (closed : Closed code aims) (n : Values) (f : Family) (k line resume oncode : ℕ) (a : Activation) → 19 ≤ length code → resume ≤ length code → nat_lt (length s.activations) most_activations ≡ false → Serving k s v line → ((b : Base) → At b can.index (Known (bl.ground n) (record v { waiting = Some (record { code = oncode; resume = 4 * resume; line = v.line }) }) h t (entry_with bl.base (4 * resume) (λ b'. address b' resume)) b) (f b)) → Comes code 19 f (record v { waiting = Some (record { code = oncode; resume = 4 * resume; line = v.line }) }) (owing code (length code) aims) (unit_part around oncode a can.head can.body k s)
limited_piece {e} bl {code = code} main mains has around more m can enter {s} {v} {h} {t} {aims} closed n f k line resume oncode a long near many serving at =
    let head = can.head in
    let body = can.body in
    let callee = can.callee in
    let back : Base → ℕ = λ b. address b resume in
    let w : S.Waiting = record { code = oncode; resume = 4 * resume; line = v.line } in
    let v1 = record v { waiting = Some w } in
    let e' = unit_environment head e in
    let mark = unit_mark head head.kind in
    let i0 = can.index in
    let fb = frame_begun callee.words 1 0 (Some callee.held) in
    let ec = entered_without_texts 2 head.line in
    let rest = (unit_made e head head.kind ++ (act_code head.line ++ stmts_code e' none_taken body))
    ++ (mark ++ unit_left callee.words callee.held) in
    let lf = front_of fb (ec ++ rest) can.linked in
    let le = front_of ec rest (back_of fb (ec ++ rest) can.linked) in
    let room = le.inside in
    let small2 = le.small' in
    let behind = can.later in
    let c = line_given head.line in
    let calls = small a7 4 ∷ Plain I.Ecall ∷ [] in
    let total = size_append c calls in
    let many' : nat_lt (length v.activations) most_activations ≡ false = ap (λ q. nat_lt q most_activations) (same_length s.activations v.activations serving.nested) ∙ many in
    let last : Option BasicValue → Meaning (Unit {0}) = λ r. give tt in
    let closed0 = owing_closed code (length code) aims in
    subst (Comes code 19 f v1 (owing code (length code) aims)) (sym (past_limit e.program around m head body oncode k a s enter many))
    (onward closed0 (called_frame bl callee back (λ b. let valid = b.valid.1 in omega (arith, valid, near, small2)) (4 * resume) n 19 f (omega (arith, behind)) lf at)
    (λ f2 at2.
    comes_on k (finish {R = Option BasicValue} (E.Limit L.Depth) k s) last
    (entry_limited bl callee back (4 * resume) n (19 + size_of fb) f2 (before_closed k last closed0) s k head.line w can.line (omega (arith, room, total, long)) many' le refl serving.world serving.running serving.allowed serving.fits at2)))

-- the raise, with a unit in force
raised_unit : {e : Environment} {block : Names} {types : Types} (bl : Block e block types) {links : Links} {code : List Instr} (routines : Routines links code) (main : ℕ) (mains : List Label) (has : HasMain main mains e.level e.block bl.labels bl.outer) (around : Around) (more m : ℕ) {frame : ℕ} {u : Y.Block} {at' : ℕ} (can : Raisable bl main mains has links code more frame u at') → more ≡ suc m → around.enter ≡ M.entered e.program (suc m) → {i : ℕ} {s : State} {v : Services} {h t : ℕ → ℕ} {aims : Aims (Unit {0})} (closed : Closed code aims) (n : Values) (f : Family) (credits k line : ℕ) (c : Condition) (oncode : ℕ) (a : Activation) (x : S.Activation) → oncode < 2 ^ 16 → (oncode == 0) ≡ false → k < suc m + v.world.acts → (turns0 start0 acts0 : ℕ) → Enough bl links k turns0 start0 h t acts0 aims.jumped aims.returned → acts0 ≤ v.world.acts → credits + 8 < cost code → Linked links code i (raised c oncode) → force s.activations c ≡ Some (a, BlockUnit u) → U.force v.activations c ≡ Some (x, S.CodeUnit at') → a.height ≡ 1 → x.frame ≡ frame → Serving k s v line → AllHold bl.frames bl.serials (storage v) (e.level ∷ bl.depths) s block types n → ((b : Base) → At b i (Known (bl.ground n) v h t nothing b) (f b)) → Resumed bl k (length v.edits) t (i + 2 + 2) aims → Comes code credits f v (owing code (length code) aims) (R.raised around c oncode k s)
unfolding R.raised ◌>>◌
raised_unit {e} {block} {types} bl {links} {code} routines main mains has around more m {frame} {u} can next enter {i} {s} {v} {h} {t} {aims} closed n f credits k line c oncode a x small' other enough turns0 start0 acts0 ready less paid l found served parent framed serving all at goal =
    let resume = i + 2 + 2 in
    let closed0 = owing_closed code (length code) aims in
    let next' : Unit {0} → Meaning (Unit {0}) = λ r. found_unit around c oncode in
    let s1 = with_world (raising c oncode s.world) s in
    let v1 = waiting_services c oncode (4 * resume) v in
    let served' : U.force v.activations c ≡ Some (x, S.CodeUnit (4 * can.index)) = served ∙ ap (λ o. Some (x, S.CodeUnit o)) can.at_is in
    let lowest : x.frame ≡ bl.base = framed ∙ can.lowest in
    let within = bl.within in
    let whole = routines.linked.inside in
    let placed = can.linked.inside in
    let fb = frame_begun can.callee.words 1 0 (Some can.callee.held) in
    let ec = entered_without_texts 2 can.head.line in
    let rest =
    ec ++ ((unit_made e can.head can.head.kind
    ++ (act_code can.head.line ++ stmts_code (unit_environment can.head e) none_taken can.body))
    ++ (unit_mark can.head can.head.kind ++ unit_left can.callee.words can.callee.held)) in
    let total = size_append fb rest in
    let some : 0 < size_of rest = omega arith in
    let later = can.later in
    let inside = l.inside in
    comes_on k (act (raising c oncode) k s) next'
    (unit_begins (before_closed k next' closed0) routines credits f c oncode k line can.index x small' paid l served' (omega (arith, later)) (omega (arith, placed, total, some)) (omega (arith, lowest, within)) serving at
    (λ f1 below at1.
    let serving1 = with_act (raising c oncode) (λ w. refl) (λ w. refl) serving below in
    let all1 : AllHold bl.frames bl.serials (storage v) (e.level ∷ bl.depths) s1 block types n = counted_all _ all in
    let at2 = λ (b : Base). subst (λ fr. At b can.index (Known (bl.ground n) v1 h t (entry_with fr (4 * resume) (λ b'. address b' resume)) b) (f1 b)) lowest (at1 b) in
    subst (Comes code 19 f1 v1 (owing code (length code) aims)) (sym (found_is around c oncode k s1 a u found ∙ ap (λ q. R.unit_run around oncode (Some (a, BlockUnit q)) k s1) can.is))
    (by_test (nat_lt (length s.activations) most_activations)
    (λ many. limited_piece bl main mains has around more m can enter closed n f1 k line resume oncode a (omega (arith, whole)) (omega (arith, inside)) many serving1 at2)
    (λ few.
    let deep : suc (length bl.depths) < most_activations = (let less = ltb-true (length s.activations) most_activations few in let long = entered_length s.activations (e.level ∷ bl.depths) all.entered in omega (arith, less, long)) in
    unit_piece bl main mains has around more m can next enter closed n f1 k line resume oncode a small' other (omega (arith, enough)) turns0 start0 acts0 ready (omega (arith, less)) (omega (arith, whole)) (omega (arith, inside)) parent deep few serving1 all1 at2 goal))))

-- ---- whether one is in force

pub by_force : {A : Type 0} (known : ℕ → Y.Block → ℕ → Type 0) (o : Option (Activation × OnUnit)) (o' : Option (S.Activation × S.OnUnit)) → AreBoth known o o' → (OnlyIf SystemUnit o → OnlyIf S.SystemUnit o' → A) → ((a : Activation) (u : Y.Block) (x : S.Activation) (at : ℕ) → o ≡ Some (a, BlockUnit u) → o' ≡ Some (x, S.CodeUnit at) → a.height ≡ 1 → known x.frame u at → A) → A
by_force known None None both alone unit = alone tt tt
by_force known None (Some q) both alone unit = absurd both
by_force known (Some p) None both alone unit = absurd both
by_force known (Some (a, SystemUnit)) (Some (x, S.SystemUnit)) both alone unit = alone refl refl
by_force known (Some (a, SystemUnit)) (Some (x, S.CodeUnit at)) both alone unit = absurd both
by_force known (Some (a, BlockUnit u)) (Some (x, S.SystemUnit)) both alone unit = absurd both
by_force known (Some (a, BlockUnit u)) (Some (x, S.CodeUnit at)) both alone unit = unit a u x at refl refl both.0 both.1

-- ---- raises

-- a raise of a condition does what it means where a unit is in force for it; the credits that it begins with are owed
pub record Raises {e : Environment} {block : Names} {types : Types} (bl : Block e block types) (links : Links) (code : List Instr) (around : Around) (c : Condition) (oncode : ℕ) : Type 1 where
  pub raises : {i : ℕ} {s : State} {v : Services} {h t : ℕ → ℕ} {aims : Aims (Unit {0})} (closed : Closed code aims) (n : Values) (f : Family) (credits k start acts : ℕ) (a : Activation) (u : Y.Block) (x : S.Activation) (at : ℕ) → force s.activations c ≡ Some (a, BlockUnit u) → U.force v.activations c ≡ Some (x, S.CodeUnit at) → a.height ≡ 1 → bl.frames.known c x.frame u at → credits + 8 < cost code → Linked links code i (raised c oncode) → Serving k s v around.line → AllHold bl.frames bl.serials (storage v) (e.level ∷ bl.depths) s block types n → ((b : Base) → At b i (Known (bl.ground n) v h t nothing b) (f b)) → Resumed bl k (length v.edits) t (i + 2 + 2) aims → Enough bl links k around.turns start h t acts aims.jumped aims.returned → acts < v.world.acts → Comes code credits f v (owing code (length code) aims) (R.raised around c oncode k s)

-- where the units that may be in force can be raised
pub unit_raises : {e : Environment} {block : Names} {types : Types} (bl : Block e block types) (main : ℕ) (mains : List Label) (has : HasMain main mains e.level e.block bl.labels bl.outer) (links : Links) (code : List Instr) (routines : Routines links code) (around : Around) (more : ℕ) (c : Condition) (oncode : ℕ) → oncode < 2 ^ 16 → (oncode == 0) ≡ false → Entering e.program around more → ((frame : ℕ) (u : Y.Block) (at : ℕ) → bl.frames.known c frame u at → Raisable bl main mains has links code more frame u at) → Raises bl links code around c oncode
unit_raises bl main mains has links code routines around zero c oncode small' other entering can =
    record {
      raises = λ {i} {s} {v} {h} {t} {aims} closed n f credits k start acts a u x at found served parent known paid l serving all there goal more later.
          absurd (let e1 = more.enough in let e2 = entering.turns in let e3 = serving.allowed in omega (arith, e1, e2, e3, later));
    }
unit_raises bl main mains has links code routines around (suc m) c oncode small' other entering can =
    record {
      raises = λ {i} {s} {v} {h} {t} {aims} closed n f credits k start acts a u x at found served parent known paid l serving all there goal more later.
          let e1 = more.enough in
          let e2 = entering.turns in
          raised_unit bl routines main mains has around (suc m) m (can x.frame u at known) refl entering.enter closed n f credits k around.line c oncode a x small' other (omega (arith, e1, e2, later)) around.turns start acts more (omega (arith, later)) paid l found served parent refl serving all there goal;
    }

-- where there are none
pub none_raises : {e : Environment} {block : Names} {types : Types} (bl : Block e block types) (links : Links) (code : List Instr) (around : Around) (c : Condition) (oncode : ℕ) → NoUnit (bl.frames.known c) → Raises bl links code around c oncode
none_raises bl links code around c oncode none =
    record {
      raises = λ closed n f credits k start acts a u x at found served parent known paid l serving all there goal more later. absurd (none x.frame u at known);
    }

-- ---- SIGNAL

-- a condition is raised behind an act
pub raised_does : {e : Environment} {block : Names} {types : Types} (bl : Block e block types) (links : Links) (code : List Instr) (routines : Routines links code) (around : Around) (c : Condition) (oncode line : ℕ) → oncode < 2 ^ 16 → line < 2 ^ 31 → Raises bl links code (at_line around line) c oncode → Does bl links code around.turns (act_code line ++ raised c oncode) ((act counted) >> (R.raised (at_line around line) c oncode))
unfolding ◌>>◌
raised_does {e} {block} {types} bl links code routines around c oncode line small' fits can =
    record {
      does = λ {i} {s} {v} {h} {t} {aims} closed old n f k l serving all at goal more'.
          let here = at_line around line in
          let a = act_code line in
          let r = raised c oncode in
          let size = size_append a r in
          let place : i + size_of a + 2 + 2 ≡ i + size_of (a ++ r) = omega (arith, size) in
          let inside' = l.inside in
          let whole = routines.linked.inside in
          let number' = number_few c in
          let next' : Unit {0} → Meaning (Unit {0}) = λ q. R.raised here c oncode in
          by_force (bl.frames.known c) (force s.activations c) (U.force v.activations c) (both_in_force bl.frames.known s.activations v.activations c all.units)
          (λ only served.
          comes_on k (act counted k s) next'
          (act_piece (before_closed k next' closed) f line old k fits (front_of a r l) serving at
          (λ f1 serving1 at1.
          raised_alone closed routines f1 here c (condition_number c) oncode [] k (condition_is c) number' small' only served (back_of a r l) serving1 at1)))
          (λ a' u x at' found served parent known.
          comes_owing (length code) (((act counted) >> (R.raised here c oncode)) k s)
          (comes_on k (act counted k s) next'
          (act_to (before_closed k next' (owing_closed code (length code) aims)) (i + length code) 0 f line old k fits (omega (arith, inside', size)) (front_of a r l) serving at
          (λ f1 serving1 at1.
          can.raises closed n f1 0 k i v.world.acts a' u x at' found served parent known (omega (arith, whole)) (back_of a r l) serving1
          (counted_all (counted s.world) all)
          at1
          (λ s4 v4 line4 n4 h4 f4 serving4 all4 as4 at4.
          subst (λ q. aims.done q f4 v4 tt s4) (sym place)
          (goal s4 v4 line4 n4 h4 t f4 serving4 all4
          (record { registers = λ y below. absurd (let held = bl.held in omega (arith, held, below)); words = λ j below. refl })
          (λ b. record { pc = (at4 b).pc ∙ ap (address b) place; holds = (at4 b).holds })))
          more' (omega arith)))));
    }
  where
    number_few : (d : Condition) → condition_number d < 2 ^ 16
    number_few C.Area = lit< tt
    number_few C.FixedOverflow = lit< tt
    number_few C.ZeroDivide = lit< tt
    number_few C.Endfile = lit< tt
    number_few C.Error = lit< tt

-- SIGNAL of the conditions for which the program may have units
pub signal_unit_does : {e : Environment} {block : Names} {types : Types} (bl : Block e block types) (links : Links) (code : List Instr) (routines : Routines links code) (around : Around) (c : Condition) (line : ℕ) → may_have_unit c ≡ true → line < 2 ^ 31 → Raises bl links code (at_line around line) c (code_signalled c) → Does bl links code around.turns (stmt_code e bl.taken (Y.Signal c line)) (M.statement around (Y.Signal c line))
unfolding M.statement M.signalled
signal_unit_does bl links code routines around C.Area line may fits can = raised_does bl links code routines around C.Area (code_signalled C.Area) line (lit< tt) fits can
signal_unit_does bl links code routines around C.Endfile line may fits can = raised_does bl links code routines around C.Endfile (code_signalled C.Endfile) line (lit< tt) fits can
signal_unit_does bl links code routines around _ line may fits can = absurd (cc may)
