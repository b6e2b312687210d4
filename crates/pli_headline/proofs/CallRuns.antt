-- A call of a procedure inside the main one: up to its end and back, once its statements do what they mean, or up to the limit on active
-- blocks.
use Rattle.std.proofs.Common.{◌≡◌, ℕ, zero, suc, ◌+◌, ◌*◌, ◌^◌, ◌<◌, ◌≤◌, List, [], ◌∷◌, ◌++◌, inl, length, None, Option, Some, Bool, true, false, refl, sym, ap, ◌∙◌, subst, arith}
use Rattle.std.proofs.lemmas.Bool.{eq-eqb, ltb-true}
use Rattle.std.proofs.lemmas.Bool.Decides.{nat_tests}
use Rattle.std.specs.Prelude.{ℤ, pos, cond, max, ◌==◌, nat_lt}
use Rattle.rv_meaning.specs.declared.instr.Instr.{Instr}
use Rattle.rv_meaning.specs.declared.instr.Instr.TheVariants as I
use Rattle.rv_meaning.specs.declared.instr.ImmediateOp.TheVariants as Imm
use Rattle.rv_meaning.specs.Words.{word}
use Rattle.pli_typing.specs.TypedTree as Y
use Rattle.pli_meaning.specs.World.{counted}
use Rattle.pli_meaning.specs.BasicValues.{BasicValue}
use Rattle.pli_meaning.specs.DeclaredShapes.{procedure_numbered}
use Rattle.pli_meaning.specs.StorageState.{State, with_world, newest_ended, most_activations}
use Rattle.pli_meaning.specs.declared.outcome.End.TheVariants as E
use Rattle.pli_meaning.specs.declared.outcome.Limit.TheVariants as L
use Rattle.pli_meaning.specs.Control.{Label, Meaning, flow_on, left, give, act, ◌>>◌, finish}
use Rattle.pli_meaning.specs.Raising.{Around, at_line}
use Rattle.pli_meaning.specs.Executing as M
use Rattle.pli_meaning.specs.Making as K
use Rattle.pli_serving.specs.ServiceState.{Services}
use Rattle.pli_coding.specs.Registers.{zero_register, return_register, frame_register, a0, a1, a2, a3, u5, a7}
use Rattle.pli_coding.specs.Assembly.{ProcedureEntry, ReturnPlace, Plain, CallTo, Mark, Code, size_of}
use Rattle.pli_coding.specs.Instructions.{move, plus, number, load_word, is_immediate, small}
use Rattle.pli_coding.specs.Frames.{display, own_offset}
use Rattle.pli_coding.specs.Allocating.{act_code}
use Rattle.pli_coding.specs.Entries.{all_restored, frame_begun, frame_ended, block_left, variables_made}
use Rattle.pli_coding.specs.Environments.{Environment, Taken, none_taken, most_taken}
use Rattle.pli_coding.specs.Expressions.{frame_given}
use Rattle.pli_coding.specs.Statements.{held_with, stmts_take, stmts_code}
use Rattle.pli_coding.specs.Procedures.{procedure_environment, procedure_in}
use Rattle.pli_coding.specs.Linking.{Links, place_of}
use Rattle.pli_headline.specs.ProvedSoFar.{Names, Types, ArePlain}
use Rattle.pli_headline.proofs.HeldPlaces.{places_entered, PlacesHeld, places_left}
use Rattle.pli_headline.proofs.Storages.{storage}
use Rattle.run_steps.specs.Engine.{Base, address, most_code}
use Rattle.run_steps.proofs.Linking.{size_append}
use Rattle.run_steps.specs.Items.{Linked, At}
use Rattle.run_steps.specs.Bodies.{far_code, Known}
use Rattle.run_steps.proofs.Jumps.{front_of, back_of, rest_of, linked_at}
use Rattle.run_steps.specs.Temporaries.{nothing}
use Rattle.run_steps.proofs.Temporaries.{stays_same}
use Rattle.pli_headline.proofs.Activations.{same_length, first_level, levels_of, entered_length, outermost_height}
use Rattle.pli_headline.proofs.Serving.{Serving}
use Rattle.pli_headline.proofs.Acts.{act_to, act_piece}
use Rattle.pli_headline.proofs.Entered.{atop, procedure_way}
use Rattle.pli_headline.proofs.Declares.{Makes, made_block, declares_from, code_joined}
use Rattle.pli_headline.proofs.DeclaredBegins.{vars_of, none_taken_for, ended_does}
use Rattle.pli_headline.proofs.StandingBytes.{ConstantsStand}
use Rattle.pli_headline.proofs.Statements.{owner_level, Block, IsKnown, AllHold, counted_all, Enough, Does, further}
use Rattle.pli_headline.proofs.CalledJumps.{ending_closed, comes_called}
use Rattle.run_steps.specs.Owing.{owing}
use Rattle.run_steps.proofs.Owing.{owing_closed, comes_owing, done_owing}
use Rattle.pli_headline.proofs.MainOutlets.{procedure_owner, HasMain, main_of, main_enclosing, main_seen, main_outlet, owed_outlet}
use Rattle.run_steps.specs.SavedRegisters.{held_again}
use Rattle.pli_headline.proofs.BeginEntered.{ended_services}
use Rattle.pli_headline.proofs.BeginMeant.{Entering, inner_around, entered_nested, entered_all, ended_input, left_all, entered_at}
use Rattle.pli_headline.proofs.CallMeant.{plain_procedure, call_part, called_part, call_meant, call_limited}
use Rattle.pli_headline.proofs.CallEntry.{call_of, call_back, call_entry}
use Rattle.pli_headline.proofs.CalledFrames.{Callee, called_block}
use Rattle.pli_headline.proofs.CalledBegun.{called_frame}
use Rattle.pli_headline.proofs.CalledEntered.{called_activation, called_services, called_entry, called_entered, called_limited}
use Rattle.pli_headline.proofs.Begins.{by_test}
use Rattle.pli_headline.proofs.CalledLeft.{ending_ground, called_ended, called_left}
use Rattle.run_steps.specs.Reach.{Family, Aims, Comes, Closed}
use Rattle.run_steps.proofs.Reach.{before_closed, comes_on, onward}
use Rattle.pli_headline.proofs.Scalars.{Values}
use Rattle.pli_headline.specs.InnerWords.{body_words}

-- ---- the code of the procedure

-- the variables are made before the act of the entry
abbrev pub called_variables : Environment → Y.BlockHead → Code
called_variables e head = variables_made (procedure_environment head e) head.line 0 (vars_of e head)

abbrev pub called_behind : Environment → Y.BlockHead → (words held : ℕ) → Y.Stmts → Code
called_behind e head words held body =
    called_entry head.line
    ++ ((called_variables e head ++ (act_code head.line ++ stmts_code (procedure_environment head e) none_taken body))
    ++ (Mark (ReturnPlace head.number) ∷ called_ended words held))

abbrev pub called_code : Environment → Y.BlockHead → (words held : ℕ) → Y.Stmts → Code
called_code e head words held body =
    Mark (ProcedureEntry head.number) ∷ (frame_begun words 1 0 (Some held) ++ called_behind e head words held body)

abbrev code_with : Environment → Y.BlockHead → Y.Stmts → (level : ℕ) → Taken → Code
code_with e head body level taken =
    Mark (ProcedureEntry head.number)
    ∷ ((frame_begun taken.words level 0 (Some (held_with e.program taken.registers body))
    ++ (called_entry head.line ++ (called_variables e head ++ act_code head.line)))
    ++ (stmts_code (procedure_environment head e) none_taken body
    ++ (Mark (ReturnPlace head.number) ∷ called_ended taken.words (held_with e.program taken.registers body))))

joined : (frame enter made act code ended : Code) → (frame ++ (enter ++ (made ++ act))) ++ (code ++ ended) ≡ frame ++ (enter ++ ((made ++ (act ++ code)) ++ ended))
joined frame enter made act code ended =
    code_joined frame (enter ++ (made ++ act)) (code ++ ended)
    ∙ ap (λ c. frame ++ c) (code_joined enter (made ++ act) (code ++ ended))
    ∙ ap (λ c. frame ++ (enter ++ c)) (code_joined made act (code ++ ended) ∙ ap (λ c. made ++ c) (sym (code_joined act code ended)) ∙ sym (code_joined made (act ++ code) ended))

pub called_code_is : (e : Environment) (head : Y.BlockHead) (body : Y.Stmts) → head.level ≡ 1
    → ArePlain (vars_of e head) → procedure_in (procedure_environment head e) head body [] None
    ≡ called_code e head (max 0 (body_words body))
    (held_with e.program (max 0 (stmts_take none_taken body).registers) body) body
called_code_is e head body next are =
    let words = max 0 (body_words body) in
    let held = held_with e.program (max 0 (stmts_take none_taken body).registers) body in
    ap (λ t. code_with e head body head.level (most_taken t (stmts_take none_taken body)))
    (none_taken_for (vars_of e head) are)
    ∙ ap (λ level. code_with e head body level (most_taken none_taken (stmts_take none_taken body))) next
    ∙ ap (λ c. Mark (ProcedureEntry head.number) ∷ c)
    (joined (frame_begun words 1 0 (Some held)) (called_entry head.line) (called_variables e head)
    (act_code head.line) (stmts_code (procedure_environment head e) none_taken body)
    (Mark (ReturnPlace head.number) ∷ called_ended words held))

-- where it stands
pub record StandsAt (links : Links) (code : List Instr) (e : Environment) (head : Y.BlockHead) (words held :
    ℕ) (body : Y.Stmts) : Type 0 where
  pub entry : ℕ
  pub placed : place_of links (ProcedureEntry head.number) ≡ 4 * entry
  pub behind : 10 ≤ entry
  pub linked : Linked links code entry (called_code e head words held body)

-- ---- the call is short

list_size : (list : ℤ) → size_of (plus a1 frame_register list) ≤ 3
list_size list = by_near (is_immediate list)
  where
    by_near : (q : Bool) → size_of (far_code (λ r d. I.Immediate Imm.Add a1 r d) frame_register list q) ≤ 3
    by_near true = omega arith
    by_near false = omega arith

call_size : (e : Environment) (list : ℤ) (procedure : ℕ) → size_of (call_of e list procedure) ≤ 10
call_size e list procedure =
    let rest = number a2 0 ++ (frame_given e 0 ++ CallTo (ProcedureEntry procedure) ∷ []) in
    let few = list_size list in
    let total = size_append (plus a1 frame_register list) rest in
    let short : size_of rest ≤ 7 = by_level (0 == e.level) in
    omega (arith, few, total, short)
  where
    by_level : (q : Bool) → size_of (number a2 0 ++ ((cond q [] (load_word a0 frame_register (display 0)) ++ move a0 (cond q frame_register a0) ∷ []) ++ CallTo (ProcedureEntry procedure) ∷ [])) ≤ 7
    by_level true = omega arith
    by_level false = omega arith

-- called from the main procedure's own block, it is inside the newest one
pub called_direct : {e : Environment} {block : Names} {types : Types} (bl : Block e block types) (level : ℕ) (levels : List ℕ) (count : ℕ) → levels ≡ e.level ∷ bl.depths → count ≡ suc (length bl.depths) → level ≡ 1 → level ≡ suc (first_level levels) → 1 ≡ count
called_direct {e} bl level levels count entered long next inside =
    let top : first_level levels ≡ e.level = ap first_level entered in
    let lowest : (0 == e.level) ≡ true = grind (arith, nat_tests) in
    let none : length bl.depths ≡ 0 = ap (λ (ds : List ℕ). length ds) (bl.shallow lowest) in
    omega (arith, long, none)

-- ---- behind the statements of the procedure

-- it is left, and the caller goes on with the credits of its place
leave_piece : {e : Environment} {block : Names} {types : Types} (bl : Block e block types) {links : Links} {code :
    List Instr} {level : ℕ} (callee : Callee bl) (k i resume : ℕ) (h t : ℕ → ℕ) {aims : Aims (Unit {0})} (closed :
    Closed code aims) → resume ≤ most_code
    → i + 3 + size_of (all_restored callee.held) + size_of (frame_ended callee.words) + 1 ≤ resume + length code
    → Linked links code i (called_ended callee.words callee.held)
    → ((s' : State) (v' : Services) (line' : ℕ) (n' : Values) (h' : ℕ → ℕ) (f' : Family) → Serving k s' v' line'
    → AllHold bl.frames bl.serials (storage v') (e.level ∷ bl.depths) s' block types n'
    → ((b : Base) → At b resume (Known (bl.ground n') v' h' t nothing b) (f' b)) → aims.done resume f' v' tt s')
    → (s : State) (v : Services) (line : ℕ) (n : Values) (h1 t1 : ℕ → ℕ) (f : Family) (free : ℕ) → Serving k s v line
    → AllHold (atop callee.at procedure_way bl.frames) bl.serials (storage v) (level ∷ e.level ∷ bl.depths) s block
    types n → ((b : Base)
    → At b i (Known (ending_ground bl callee (λ b'. address b' resume) h t n free) v h1 t1 nothing b) (f b))
    → (owing code (length code) aims).done i f v tt (with_world s.world (newest_ended s))
leave_piece {e} {block} {types} bl {code = code} callee k i resume h t closed near few l goal s v line n h1 t1 f free serving all at =
    let o = left_all s (storage v) serving.nested (inl callee.outer) (λ j kind at. bl.owners j at) all in
    let v' = ended_services v o.newest o.rest in
    let s' = with_world s.world (newest_ended s) in
    done_owing closed (length code) resume few (called_left bl callee resume n free i f o.newest o.rest near o.are l at) tt s'
    (λ f' at'.
    goal s' v' o.newest.line n (held_again h 0 callee.held h1) f'
    (record {
      world = serving.world;
      running = serving.running;
      line_is = refl;
      input = serving.input ∙ sym (ended_input s);
      allowed = serving.allowed;
      fits = serving.fits;
      nested = o.nested;
      waiting = serving.waiting;
      places = places_left v.edits o.newest o.rest (subst (PlacesHeld (length v.edits)) o.are serving.places);
    })
    o.all at')

-- ---- the procedure's block

abbrev pub callee_block : {e : Environment} {block : Names} {types : Types} (bl : Block e block types) (callee : Callee bl) (head : Y.BlockHead) (next : head.level ≡ 1) (main : ℕ) (mains : List Label) (has : HasMain main mains e.level e.block bl.labels bl.outer) (back : Base → ℕ) (h0 t0 : ℕ → ℕ) → Block (procedure_environment head e) block types
callee_block bl callee head next main mains has back h0 t0 =
    called_block bl callee back h0 t0 head next (main_of main mains) (main_enclosing bl callee back h0 t0 (procedure_owner head) head next main mains has) (main_seen bl callee back h0 t0 (procedure_owner head) head next main mains has)

-- the variables that are made in it
abbrev pub CalleeMakes : {e : Environment} {block : Names} {types : Types} (bl : Block e block types) (callee : Callee bl) (head : Y.BlockHead) (next : head.level ≡ 1) (main : ℕ) (mains : List Label) (has : HasMain main mains e.level e.block bl.labels bl.outer) → Type 0
CalleeMakes {e} bl callee head next main mains has =
    (back : Base → ℕ) (h0 t0 : ℕ → ℕ) → Makes (callee_block bl callee head next main mains has back h0 t0) 0 (vars_of e head)

-- constant bytes stand in it
abbrev pub CalleeStand : {e : Environment} {block : Names} {types : Types} (bl : Block e block types) (callee : Callee bl) (head : Y.BlockHead) (next : head.level ≡ 1) (main : ℕ) (mains : List Label) (has : HasMain main mains e.level e.block bl.labels bl.outer) → Links → List Instr → Type 0
CalleeStand bl callee head next main mains has links code =
    (back : Base → ℕ) (h0 t0 : ℕ → ℕ) (n : Values) → ConstantsStand links code ((callee_block bl callee head next main mains has back h0 t0).ground n)

-- its statements do what they mean once they are
abbrev pub CalleeDoes : {e : Environment} {block : Names} {types : Types} (bl : Block e block types) (callee : Callee bl) (head : Y.BlockHead) (next : head.level ≡ 1) (main : ℕ) (mains : List Label) (has : HasMain main mains e.level e.block bl.labels bl.outer) → CalleeMakes bl callee head next main mains has → Links → List Instr → (more : ℕ) → Y.Stmts → Type 1
CalleeDoes {e} bl callee head next main mains has makes links code more body =
    (back : Base → ℕ) (h0 t0 : ℕ → ℕ) (serial : ℕ) → Does (made_block (callee_block bl callee head next main mains has back h0 t0) (vars_of e head) (makes back h0 t0) serial) links code (suc more) (stmts_code (procedure_environment head e) none_taken body) (M.list (inner_around e.program more head.line) body)

-- the act of the entry stands before them
pub acted_does : {e : Environment} {block : Names} {types : Types} (bl : Block e block types) {links : Links} {code : List Instr} {turns : ℕ} {c : Code} {meaning : Meaning (Unit {0})} (line : ℕ) → line < 2 ^ 31 → Does bl links code turns c meaning → Does bl links code turns (act_code line ++ c) (act counted >> meaning)
unfolding ◌>>◌
acted_does bl {c = c} {meaning = meaning} line fits d =
    record {
      does = λ {i} {s} {v} {h} {t} {aims} closed old n f k l serving all at goal more.
          let a = act_code line in
          let size = size_append a c in
          let place : i + size_of a + size_of c ≡ i + size_of (a ++ c) = omega (arith, size) in
          let next' : Unit {0} → Meaning (Unit {0}) = λ u. meaning in
          comes_on k (act counted k s) next'
          (act_piece (before_closed k next' closed) f line old k fits (front_of a c l) serving at
          (λ f1 serving1 at1.
          d.does closed line n f1 k (back_of a c l) serving1 (counted_all (counted s.world) all) at1
          (λ s2 v2 line2 n2 h2 t2 f2 serving2 all2 stays2 at2.
          subst (λ u. aims.done u f2 v2 tt s2) (sym place)
          (goal s2 v2 line2 n2 h2 t2 f2 serving2 all2 stays2 (λ b. record { pc = (at2 b).pc ∙ ap (address b) place; holds = (at2 b).holds })))
          (further more (omega arith) (omega arith) (stays_same bl.taken h t))));
    }

-- ---- behind its act

call_piece : {e : Environment} {block : Names} {types : Types} (bl : Block e block types) {links : Links} {code :
    List Instr} (around : Around) (more : ℕ) (head : Y.BlockHead) (body : Y.Stmts) (callee : Callee bl) (stands :
    StandsAt links code e head callee.words callee.held body) (list : ℤ)
    → (next : head.level ≡ 1) (main : ℕ) (mains : List Label) (has :
    HasMain main mains e.level e.block bl.labels bl.outer) → head.kind ≡ Y.ProcedureBlock → head.line < 2 ^ 31
    → IsKnown (procedure_environment head e) → (makes : CalleeMakes bl callee head next main mains has)
    → CalleeStand bl callee head next main mains has links code → around.program ≡ e.program
    → around.enter ≡ M.entered e.program (suc more) → procedure_numbered head.number e.program.procedures
    ≡ Some (plain_procedure head body) → word list < 2 ^ 32
    → CalleeDoes bl callee head next main mains has makes links code more body
    → {i : ℕ} {s : State} {v : Services} {h t : ℕ → ℕ} {aims : Aims (Unit {0})} (closed : Closed code aims) (n :
    Values) (f : Family) (k line : ℕ) → k < suc more + v.world.acts → (turns0 i0 acts0 : ℕ)
    → Enough bl links k turns0 i0 h t acts0 aims.jumped aims.returned → acts0 ≤ v.world.acts
    → Linked links code i (call_of e list head.number) → nat_lt (length s.activations) most_activations ≡ true
    → Serving k s v line → AllHold bl.frames bl.serials (storage v) (e.level ∷ bl.depths) s block types n
    → ((b : Base) → At b i (Known (bl.ground n) v h t nothing b) (f b))
    → ((s' : State) (v' : Services) (line' : ℕ) (n' : Values) (h' : ℕ → ℕ) (f' : Family) → Serving k s' v' line'
    → AllHold bl.frames bl.serials (storage v') (e.level ∷ bl.depths) s' block types n'
    → ((b : Base) → At b (call_back i e list head.number) (Known (bl.ground n') v' h' t nothing b) (f' b))
    → aims.done (call_back i e list head.number) f' v' tt s')
    → Comes code 0 f v (owing code (length code) aims) (call_part around head.number k s)
unfolding give ◌>>◌
call_piece {e} {block} {types} bl {links} {code} around more head body callee stands list next main mains has kind fits known makes stand same enter found short does' {i} {s} {v} {h} {t} {aims} closed n f k line enough turns0 start0 acts0 ready less l few serving all at goal =
    let program = e.program in
    let here = inner_around program more head.line in
    let debt = length code in
    let resume = call_back i e list head.number in
    let back : Base → ℕ = λ b. address b resume in
    let i0 = stands.entry in
    let stmts = stmts_code (procedure_environment head e) none_taken body in
    let st = act_code head.line ++ stmts in
    let vars = vars_of e head in
    let cs = called_variables e head ++ st in
    let fb = frame_begun callee.words 1 0 (Some callee.held) in
    let ec = called_entry head.line in
    let ended = called_ended callee.words callee.held in
    let en = Mark (ReturnPlace head.number) ∷ ended in
    let mark : i0 + 0 ≡ i0 = omega arith in
    let l0 = linked_at i0 (fb ++ (ec ++ (cs ++ en))) mark (rest_of (Mark (ProcedureEntry head.number)) (fb ++ (ec ++ (cs ++ en))) stands.linked) in
    let lf = front_of fb (ec ++ (cs ++ en)) l0 in
    let l2 = back_of fb (ec ++ (cs ++ en)) l0 in
    let le = front_of ec (cs ++ en) l2 in
    let l3 = back_of ec (cs ++ en) l2 in
    let i1 = i0 + size_of fb in
    let i2 = i1 + size_of ec in
    let i4 = i2 + size_of cs in
    let mark' : i4 + 0 ≡ i4 = omega arith in
    let ll = linked_at i4 ended mark' (rest_of (Mark (ReturnPlace head.number)) ended (back_of cs en l3)) in
    let lower = frame_ended callee.words in
    let jump = Plain (I.JumpRegister zero_register return_register (pos 0)) ∷ [] in
    let restored = all_restored callee.held in
    let n1 = size_append (block_left 0) (restored ++ (lower ++ jump)) in
    let n2 = size_append restored (lower ++ jump) in
    let n3 = size_append lower jump in
    let room = ll.inside in
    let small' = ll.small' in
    let inside' = l.inside in
    let behind = stands.behind in
    let s2 = entered_at 1 head body s in
    let v2 = called_services v callee.at head.line in
    let long = entered_length s.activations (e.level ∷ bl.depths) all.entered in
    let few' : nat_lt (length v.activations) most_activations ≡ true = ap (λ m. nat_lt m most_activations) (same_length s.activations v.activations serving.nested) ∙ few in
    let parent = outermost_height s.activations v.activations (length bl.depths) serving.nested long in
    let some : 0 < head.level = omega (arith, next) in
    let direct : head.level ≡ suc (first_level (levels_of s.activations)) → 1 ≡ length s.activations = λ inside. called_direct bl head.level (levels_of s.activations) (length s.activations) all.entered long next inside in
    let last : Option BasicValue → Meaning (Unit {0}) = λ u. give tt in
    let cb = callee_block bl callee head next main mains has back h t in
    let leave = leave_piece bl callee k i4 resume h t closed (omega (arith, inside', small')) (omega (arith, room, n1, n2, n3)) ll goal in
    let closed0 = owing_closed code debt aims in
    let closed1 = ending_closed newest_ended (before_closed k last closed0) in
    subst (Comes code 0 f v (owing code debt aims)) (sym (call_meant program around more head body head.number k s same enter found kind parent few))
    (onward closed0 (call_entry bl n 0 i0 f list head.number i0 short stands.placed (omega (arith, room, small')) (let size = call_size e list head.number in omega (arith, size, behind)) l at)
    (λ f1 at1.
    onward closed0 (called_frame bl callee back (λ b. let valid = b.valid.1 in omega (arith, valid, inside', small')) 0 n i0 f1 (omega (arith, behind)) lf at1)
    (λ f2 at2.
    onward closed0 (called_entered bl callee back n i1 f2 head.line fits serving.waiting few' le at2)
    (λ f3 at3.
    comes_on k (left true newest_ended (flow_on k (K.variables_made here 0 vars k s2) (λ u. called_part program more head body))) last
    (comes_called newest_ended (flow_on k (K.variables_made here 0 vars k s2) (λ u. called_part program more head body))
    (declares_from closed1 here head.line (suc more) k st (called_part program more head body) vars cb known (makes back h t) n f3 head.line (stand back h t) refl
    (λ label among once. owed_outlet closed (atop callee.at procedure_way bl.frames) (main_enclosing bl callee back h t (procedure_owner head) head next main mains has) label (main_outlet bl callee back h (procedure_owner head) procedure_way head next main mains has links k turns0 start0 h t acts0 v2.world.acts aims.jumped aims.returned ready label among once (omega (arith, less))), tt)
    (λ deep owned once. let no : true ≡ false = deep in absurd (cc no), tt)
    (λ inner owned once. record {
      at = i4;
      place = (back_of cs en l3).has.0 (eq-eqb head.number head.number refl) once;
      near = omega (arith, room, small');
      later = omega (arith, behind);
      leaves = λ s5 v5 line5 n5 h5 t5 f5 free5 serving5 all5 at5. record
          { to = λ early. leave s5 v5 line5 n5 h5 t5 f5 free5 serving5 all5 at5 };
    })
    (omega (arith, enough)) (omega (arith, behind))
    (λ number owned once. let no : head.level ≡ 0 = ap owner_level owned in absurd (omega (arith, no, next)))
    (acted_does (made_block cb vars (makes back h t) s2.serials) head.line fits (ended_does (made_block cb vars (makes back h t) s2.serials) here body (does' back h t s2.serials)))
    (front_of cs en l3)
    (record {
      world = serving.world;
      running = serving.running;
      line_is = refl;
      input = serving.input;
      allowed = serving.allowed;
      fits = serving.fits;
      nested = entered_nested head body s v.activations (called_activation v callee.at) 1 some (omega (arith, long)) (omega arith) (omega (arith, long)) direct (record { kind = λ further. refl; units = tt }) serving.nested;
      waiting = refl;
      places = places_entered (length v.edits) (called_activation v callee.at) v.activations refl serving.places;
    })
    (entered_all head body s (storage v) (called_activation v callee.at) 1 some (omega arith) (omega (arith, long)) direct (record { kind = λ further. refl; units = tt }) refl (inl callee.outer) serving.nested all)
    at3
    (λ s5 v5 line5 n5 h5 t5 f5 free5 serving5 all5 at5. record
    { to = λ early. leave s5 v5 line5 n5 h5 t5 f5 free5 serving5 all5 at5 })))))))

-- where too many blocks are entered the run ends
limited_call : {e : Environment} {block : Names} {types : Types} (bl : Block e block types) {links : Links} {code :
    List Instr} (around : Around) (more : ℕ) (head : Y.BlockHead) (body : Y.Stmts) (callee : Callee bl) (stands :
    StandsAt links code e head callee.words callee.held body) (list : ℤ) → head.line < 2 ^ 31
    → around.program ≡ e.program → around.enter ≡ M.entered e.program (suc more)
    → procedure_numbered head.number e.program.procedures ≡ Some (plain_procedure head body) → word list < 2 ^ 32
    → {i : ℕ} {s : State} {v : Services} {h t : ℕ → ℕ} {aims : Aims (Unit {0})} (closed : Closed code aims) (n :
    Values) (f : Family) (k line : ℕ) → Linked links code i (call_of e list head.number)
    → nat_lt (length s.activations) most_activations ≡ false → Serving k s v line
    → ((b : Base) → At b i (Known (bl.ground n) v h t nothing b) (f b))
    → Comes code 0 f v (owing code (length code) aims) (call_part around head.number k s)
limited_call {e} bl {code = code} around more head body callee stands list fits same enter found short {i} {s} {v} {h} {t} {aims} closed n f k line l many serving at =
    let debt = length code in
    let resume = call_back i e list head.number in
    let i0 = stands.entry in
    let fb = frame_begun callee.words 1 0 (Some callee.held) in
    let ec = called_entry head.line in
    let behind' =
    (called_variables e head ++ (act_code head.line ++ stmts_code (procedure_environment head e) none_taken body))
    ++ (Mark (ReturnPlace head.number) ∷ called_ended callee.words callee.held) in
    let mark : i0 + 0 ≡ i0 = omega arith in
    let l0 = linked_at i0 (fb ++ (ec ++ behind')) mark (rest_of (Mark (ProcedureEntry head.number)) (fb ++ (ec ++ behind')) stands.linked) in
    let le = front_of ec behind' (back_of fb (ec ++ behind') l0) in
    let room = le.inside in
    let small' = le.small' in
    let inside' = l.inside in
    let later = stands.behind in
    let m = number a2 head.line in
    let front : Code = move u5 a1 ∷ move a3 a2 ∷ (load_word a1 frame_register own_offset ++ small a0 0 ∷ []) in
    let calls = small a7 4 ∷ Plain I.Ecall ∷ [] in
    let total = size_append front (m ++ calls) in
    let total2 = size_append m calls in
    let many' : nat_lt (length v.activations) most_activations ≡ false = ap (λ u. nat_lt u most_activations) (same_length s.activations v.activations serving.nested) ∙ many in
    let last : Option BasicValue → Meaning (Unit {0}) = λ u. give tt in
    let closed0 = owing_closed code debt aims in
    subst (Comes code 0 f v (owing code debt aims)) (sym (call_limited e.program around more head body head.number k s same enter found many))
    (onward closed0 (call_entry bl n 0 i0 f list head.number i0 short stands.placed (omega (arith, room, small')) (let size = call_size e list head.number in omega (arith, size, later)) l at)
    (λ f1 at1.
    onward closed0 (called_frame bl callee (λ b. address b resume) (λ b. let valid = b.valid.1 in omega (arith, valid, inside', small')) 0 n i0 f1 (omega (arith, later)) (front_of fb (ec ++ behind') l0) at1)
    (λ f2 at2.
    comes_on k (finish {R = Option BasicValue} (E.Limit L.Depth) k s) last
    (called_limited bl callee (λ b. address b resume) n (i0 + size_of fb) f2 (before_closed k last closed0) k head.line line fits (omega (arith, room, total, total2)) many' le serving at2))))

-- ---- the statement

pub own_call_does : {e : Environment} {block : Names} {types : Types} (bl : Block e block types) (links :
    Links) (code : List Instr) (around : Around) (more : ℕ) (head : Y.BlockHead) (body : Y.Stmts) (callee :
    Callee bl) (stands : StandsAt links code e head callee.words callee.held body) (list : ℤ) (line : ℕ)
    → (next : head.level ≡ 1) (main : ℕ) (mains : List Label) (has :
    HasMain main mains e.level e.block bl.labels bl.outer) → head.kind ≡ Y.ProcedureBlock → head.line < 2 ^ 31
    → IsKnown (procedure_environment head e) → (makes : CalleeMakes bl callee head next main mains has)
    → CalleeStand bl callee head next main mains has links code → around.program ≡ e.program
    → Entering e.program around more → procedure_numbered head.number e.program.procedures
    ≡ Some (plain_procedure head body) → word list < 2 ^ 32 → line < 2 ^ 31
    → ((more' : ℕ) → more ≡ suc more' → suc (length bl.depths) < most_activations
    → CalleeDoes bl callee head next main mains has makes links code more' body)
    → Does bl links code around.turns (act_code line ++ call_of e list head.number)
    (M.statement around (Y.CallProcedure (Y.Calling head.number 0 Y.NoArgument) line))
unfolding M.statement ◌>>◌
own_call_does {e} {block} {types} bl links code around zero head body callee stands list line next main mains has kind fits known makes stand same entering found short low does' =
    record {
      does = λ {i} {s} {v} {h} {t} {aims} closed old n f k l serving all at goal more'.
          let next' : Unit {0} → Meaning (Unit {0}) = λ u. call_part (at_line around line) head.number in
          comes_on k (act counted k s) next'
          (act_piece (before_closed k next' closed) f line old k low (front_of (act_code line) (call_of e list head.number) l) serving at
          (λ f1 serving1 at1.
          absurd (let e1 = more'.enough in let e2 = entering.turns in let e3 = serving1.allowed in omega (arith, e1, e2, e3))));
    }
own_call_does {e} {block} {types} bl links code around (suc more) head body callee stands list line next main mains has kind fits known makes stand same entering found short low does' =
    record {
      does = λ {i} {s} {v} {h} {t} {aims} closed old n f k l serving all at goal more'.
          let a = act_code line in
          let c = call_of e list head.number in
          let size = size_append a c in
          let place : call_back (i + size_of a) e list head.number ≡ i + size_of (a ++ c) = omega (arith, size) in
          let e1 = more'.enough in
          let e2 = entering.turns in
          let inside' = l.inside in
          let next' : Unit {0} → Meaning (Unit {0}) = λ u. call_part (at_line around line) head.number in
          comes_owing (length code) (M.statement around (Y.CallProcedure (Y.Calling head.number 0 Y.NoArgument) line) k s)
          (comes_on k (act counted k s) next'
          (act_to (before_closed k next' (owing_closed code (length code) aims)) (i + length code) 0 f line old k low (omega (arith, inside', size)) (front_of a c l) serving at
          (λ f1 serving1 at1.
          let s1 = with_world (counted s.world) s in
          by_test (nat_lt (length s.activations) most_activations)
          (λ many. limited_call bl (at_line around line) more head body callee stands list fits same entering.enter found short closed n f1 k line (back_of a c l) many serving1 at1)
          (λ few.
          let deep : suc (length bl.depths) < most_activations = (let below = ltb-true (length s.activations) most_activations few in let long = entered_length s.activations (e.level ∷ bl.depths) all.entered in omega (arith, below, long)) in
          call_piece bl (at_line around line) more head body callee stands list next main mains has kind fits known makes stand same entering.enter found short (does' more refl deep) closed n f1 k line (omega (arith, e1, e2)) around.turns i v.world.acts more' (omega arith) (back_of a c l) few serving1
          (counted_all (counted s.world) all)
          at1
          (λ s4 v4 line4 n4 h4 f4 serving4 all4 at4.
          subst (λ u. aims.done u f4 v4 tt s4) (sym place)
          (goal s4 v4 line4 n4 h4 t f4 serving4 all4
          (record { registers = λ r below. absurd (let held = bl.held in omega (arith, held, below)); words = λ j below. refl })
          (λ b. record { pc = (at4 b).pc ∙ ap (address b) place; holds = (at4 b).holds })))))));
    }
