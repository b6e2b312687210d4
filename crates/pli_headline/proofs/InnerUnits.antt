-- On-units of the main procedure do what they mean where their conditions are raised, from any block, so many blocks deep as may be, where calls and
-- signals of fewer blocks do.
use Rattle.std.proofs.Common.{◌≡◌, ℕ, suc, ◌+◌, ◌-◌, ◌*◌, ◌^◌, ◌<◌, ◌≤◌, List, [], ◌∷◌, ◌++◌, length, None, Some, inl, inr, true, false, refl, sym, ap, ◌∙◌, subst, arith, lit<, append-nil}
use Rattle.std.specs.Prelude.{max}
use Rattle.std.proofs.Math.Nat.{le-max_left, le-max_right}
use Rattle.pli_language.specs.declared.condition.Condition.{Condition}
use Rattle.pli_language.specs.declared.condition.Condition.TheVariants as C
use Rattle.rv_meaning.specs.declared.instr.Instr.{Instr}
use Rattle.pli_typing.specs.TypedTree as Y
use Rattle.pli_meaning.specs.Control.{Label}
use Rattle.pli_meaning.specs.Codes.{code_signalled, endfile_code}
use Rattle.pli_meaning.specs.Raising.{Around, at_line}
use Rattle.pli_meaning.specs.Executing as M
use Rattle.pli_meaning.specs.Executing.{labels_in}
use Rattle.pli_meaning.specs.StorageState.{most_activations}
use Rattle.pli_coding.specs.Environments.{BlockPlace, Taken, Environment, none_taken}
use Rattle.pli_coding.specs.Frames.{fixed_size, frame_end, temporary_bytes}
use Rattle.pli_coding.specs.Linking.{Links}
use Rattle.pli_coding.specs.Statements.{owner_of_unit, unit_environment, stmt_code, stmts_code}
use Rattle.pli_coding.specs.Statements.{stmt_takes, stmts_take, held_with}
use Rattle.pli_headline.specs.ProvedSoFar.{Types, OuterBlock, main_labels, main_outer, times, IsOutward, JumpsAround, IsSimple, IsUnitBody, IsProvedStatement, AreProvedStatements, AllJumpAround, CallsAmong, AllCallAmong, Names, names_in, types_in, unit_declares, inner_bytes, bytes_of}
use Rattle.pli_headline.specs.InnerWords.{body_words, all_inner_words}
use Rattle.pli_coding.specs.Images.{blocks_among}
use Rattle.temporary_bounds.specs.Spare.{spare}
use Rattle.temporary_bounds.proofs.TakesNeeds.{bit_needs, text_needs, reference_needs, stored_needs}
use Rattle.pli_headline.proofs.StandingBytes.{ConstantsStand, constants_moved}
use Rattle.pli_headline.proofs.PieceSizes.{most}
use Rattle.pli_headline.proofs.InnerLevels.{IsAmong}
use Rattle.pli_headline.proofs.InnerFrames.{other_level}
use Rattle.pli_headline.proofs.Gotos.{LabelsStand}
use Rattle.pli_headline.proofs.UnitMeant.{IsUnitKind}
use Rattle.pli_headline.proofs.Declares.{Makes, made_block}
use Rattle.pli_headline.proofs.DeclaredBegins.{is_made, made_constants}
use Rattle.pli_headline.proofs.UnitVariables.{unit_makes, unit_sized, unit_filled}
use Rattle.pli_headline.proofs.ElementsAssignments.{elements_number_does, elements_bit_does}
use Rattle.pli_headline.proofs.TextsAssignments.{elements_text_does}
use Rattle.pli_headline.proofs.TextCopiesAssignments.{copies_does}
use Rattle.pli_headline.proofs.Entered.{Frames, Way}
use Rattle.pli_headline.proofs.Scalars.{Values}
use Rattle.run_steps.specs.Engine.{Base}
use Rattle.pli_headline.proofs.Variables.{AllOutermost}
use Rattle.pli_headline.proofs.Statements.{IsOwned, IsMarkedOnce, Block, Standing, Does, null_does, known_in}
use Rattle.pli_headline.proofs.Catching.{within, listed}
use Rattle.pli_headline.proofs.BeginMeant.{Entering, inner_around, inner_entering}
use Rattle.pli_headline.proofs.CalledFrames.{Callee}
use Rattle.pli_headline.proofs.ElementAssignments.{assign_number_part_does, assign_bit_part_does}
use Rattle.pli_headline.proofs.JumpsOut.{out_does}
use Rattle.pli_headline.proofs.Stops.{stop_does}
use Rattle.pli_headline.proofs.Skips.{put_skip_does}
use Rattle.pli_headline.proofs.Signals.{signal_does}
use Rattle.pli_headline.proofs.SystemUnits.{on_system_does, revert_does}
use Rattle.pli_headline.proofs.Putting.{put_does}
use Rattle.pli_headline.proofs.Getting.{get_does, get_skip_does}
use Rattle.pli_headline.proofs.MainOutlets.{HasMain, main_of}
use Rattle.pli_headline.proofs.UnitRuns.{unit_block, Raisable, unit_raises, signal_unit_does}
use Rattle.pli_headline.proofs.UnitStanding.{program_around, taken_by_unit, Tells}
use Rattle.pli_headline.proofs.Narrowing.{narrows_self, narrows_in}
use Rattle.pli_headline.proofs.ProvedStatements.{standing_within, Calls, Signals, entering_at, body_does}
use Rattle.pli_headline.proofs.TextElementAssignments.{assign_text_part_does}
use Rattle.pli_headline.proofs.PlainInside.{DeclarePlain}
use Rattle.pli_headline.proofs.HeldRegisters.{held_few}
use Rattle.pli_headline.proofs.TakenRooms.{behind_number, record_grows, put_room, get_room}

-- calls and signals do what they mean, so many blocks deep at most
abbrev pub Done : Environment → (block : Names) → Types → (all : List (ℕ × Label)) → (procedure bound : ℕ) → Links → List Instr → (may : List ℕ) → Type 1
Done e block types all procedure bound links code may = Calls e block types all procedure bound links code may × Signals e block types all procedure bound links code may

-- ---- a single statement

simple_does : {e : Environment} {block : Names} {types : Types} (bl : Block e block types) (links : Links)
    (code : List Instr) (routines : Standing bl links code) (around : Around) → around.program ≡ e.program
    → {all : List (ℕ × Label)} {procedure : ℕ} {may : List ℕ} {bound : ℕ}
    → Done e block types all procedure bound links code may
    → Tells e block types all procedure may links code bl.base bl.frames.known
    → HasMain procedure (main_labels e.program.procedures) e.level e.block bl.labels bl.outer
    → length bl.depths < most_activations → bl.stack.free + 4000 * (500 - length bl.depths) ≤ 14 * 2 ^ 20
    → bl.words < 2 ^ 22 → {more : ℕ} → Entering e.program around more → more ≤ bound → (x : Y.Stmt) → IsSimple x
    → IsProvedStatement block types x → (stmt_takes bl.taken x).words ≤ bl.words → CallsAmong e.program may false 0 x
    → ((number : ℕ) (label : Label) → times number label all ≡ 1 → IsMarkedOnce links number label) → e.level ≤ 100
    → JumpsAround e.block e.level all e.blocks (main_outer procedure e.program.procedures) bl.outer [] x
    → ((level : ℕ) (label : Label) → IsOutward e.block level label all e.blocks bl.outer → level ≡ 0)
    → Does bl links code around.turns (stmt_code e bl.taken x) (M.statement around x)
simple_does bl links code routines around same can tells has deep space narrow entering least (Y.Null line) simple is room calls once few jumps low = null_does bl links code around line is
simple_does bl links code routines around same can tells has deep space narrow entering least (Y.Assign target (Y.StoredNumber precision x) line) simple is room calls once few jumps low =
    let a = stored_needs bl.taken (Y.StoredNumber precision x) in
    let d = behind_number bl.taken target in
    assign_number_part_does bl links code routines around target precision x line is.0 is.1.0 (omega (arith, a, room)) (omega (arith, d, room)) is.1.1
simple_does bl links code routines around same can tells has deep space narrow entering least (Y.Assign target (Y.StoredBit x) line) simple is room calls once few jumps low =
    let a = bit_needs bl.taken x in
    let d = behind_number bl.taken target in
    assign_bit_part_does bl links code routines around target x line is.0 is.1.0 (omega (arith, d, room)) (omega (arith, a, room)) is.1.1
simple_does bl links code routines around same can tells has deep space narrow entering least (Y.Assign target (Y.StoredText x) line) simple is room calls once few jumps low =
    let a = text_needs bl.taken x in
    let d = reference_needs bl.taken target in
    assign_text_part_does bl links code routines around target x line is.0 is.1.0 (omega (arith, a, room)) (omega (arith, d, room)) is.1.1
simple_does bl links code routines around same can tells has deep space narrow entering least (Y.Assign target source line) simple is room calls once few jumps low = absurd is
simple_does bl links code routines around same can tells has deep space narrow entering least (Y.AssignElements target (Y.StoredNumber precision x) line) simple is room calls once few jumps low =
    elements_number_does bl links code routines around target precision x line is.0 is.1.0 room is.1.1
simple_does bl links code routines around same can tells has deep space narrow entering least (Y.AssignElements target (Y.StoredBit x) line) simple is room calls once few jumps low =
    elements_bit_does bl links code routines around target x line is.0 is.1.0 room is.1.1
simple_does bl links code routines around same can tells has deep space narrow entering least (Y.AssignElements target (Y.StoredText x) line) simple is room calls once few jumps low =
    elements_text_does bl links code routines around target x line is.0 is.1.0 room is.1.1
simple_does bl links code routines around same can tells has deep space narrow entering least (Y.AssignElements target source line) simple is room calls once few jumps low = absurd is
simple_does bl links code routines around same can tells has deep space narrow entering least (Y.AssignAggregate target source line) simple is room calls once few jumps low =
    let a = record_grows bl.taken target in
    copies_does bl links code routines around target source line is.0 (omega (arith, a, room)) is.1
simple_does {e} bl links code routines around same can tells has deep space narrow {more} entering least (Y.CallProcedure (Y.Calling number level Y.NoArgument) line) simple is room calls once few jumps low =
    subst (λ n. Does bl links code around.turns (stmt_code e bl.taken (Y.CallProcedure (Y.Calling number n Y.NoArgument) line)) (M.statement around (Y.CallProcedure (Y.Calling number n Y.NoArgument) line))) (sym is.0)
    (can.0 e.owner e.block e.level bl deep space narrow routines tells (omega (arith, room)) has around same more entering least number calls.1 line is.1)
simple_does bl links code routines around same can tells has deep space narrow entering least (Y.CallProcedure call line) simple is room calls once few jumps low = absurd is
simple_does bl links code routines around same can tells has deep space narrow entering least (Y.Goto level label line) simple is room calls once few (inl jumps) low =
    let no : false ≡ true = jumps.1.0 in absurd (cc no)
simple_does {e} bl links code routines around same {all} can tells has deep space narrow entering least (Y.Goto level label line) simple is room calls once few (inr jumps) low =
    out_does bl links code around all level label line (λ number h. once number label h) (inl (low level label jumps)) few is jumps
simple_does bl links code routines around same can tells has deep space narrow entering least (Y.Stop line) simple is room calls once few jumps low = stop_does bl links code around line is
simple_does {e} bl links code routines around same can tells has deep space narrow {more} entering least (Y.Signal C.Area line) simple is room calls once few jumps low =
    signal_unit_does bl links code routines.raises around C.Area line refl is (can.1 e.owner e.block e.level bl deep space narrow routines tells has (at_line around line) same more (entering_at line entering) least C.Area (code_signalled C.Area) (lit< tt) refl)
simple_does bl links code routines around same can tells has deep space narrow entering least (Y.Signal C.FixedOverflow line) simple is room calls once few jumps low = signal_does bl links code routines.raises around C.FixedOverflow line refl is
simple_does bl links code routines around same can tells has deep space narrow entering least (Y.Signal C.ZeroDivide line) simple is room calls once few jumps low = signal_does bl links code routines.raises around C.ZeroDivide line refl is
simple_does {e} bl links code routines around same can tells has deep space narrow {more} entering least (Y.Signal C.Endfile line) simple is room calls once few jumps low =
    signal_unit_does bl links code routines.raises around C.Endfile line refl is (can.1 e.owner e.block e.level bl deep space narrow routines tells has (at_line around line) same more (entering_at line entering) least C.Endfile (code_signalled C.Endfile) (lit< tt) refl)
simple_does bl links code routines around same can tells has deep space narrow entering least (Y.Signal C.Error line) simple is room calls once few jumps low = signal_does bl links code routines.raises around C.Error line refl is
simple_does bl links code routines around same can tells has deep space narrow entering least (Y.OnSystem condition line) simple is room calls once few jumps low = on_system_does bl links code around condition line is
simple_does bl links code routines around same can tells has deep space narrow entering least (Y.Revert condition line) simple is room calls once few jumps low = revert_does bl links code around condition line is
simple_does bl links code routines around same can tells has deep space narrow entering least (Y.Put None pairs line) simple is room calls once few jumps low =
    put_does bl links code routines around pairs line is.0 is.1 (put_room bl.taken pairs bl.words room)
simple_does bl links code routines around same can tells has deep space narrow entering least (Y.Put (Some n) pairs line) simple is room calls once few jumps low =
    put_skip_does bl links code routines around n pairs line is.0.0 is.0.1 is.1.0 is.1.1
    (put_room bl.taken pairs bl.words room)
simple_does {e} bl links code routines around same can tells has deep space narrow {more} entering least (Y.Get None pairs line) simple is room calls once few jumps low =
    get_does bl links code routines around same pairs line
    (can.1 e.owner e.block e.level bl deep space narrow routines tells has (at_line around line) same more
    (entering_at line entering) least C.Endfile endfile_code (lit< tt) refl) is.0 is.1
    (get_room bl.taken pairs bl.words room)
simple_does {e} bl links code routines around same can tells has deep space narrow {more} entering least (Y.Get (Some n) pairs line) simple is room calls once few jumps low =
    get_skip_does bl links code routines around same n pairs line
    (can.1 e.owner e.block e.level bl deep space narrow routines tells has (at_line around line) same more
    (entering_at line entering) least C.Endfile endfile_code (lit< tt) refl) is.0.0 is.0.1 is.1.0 is.1.1
    (get_room bl.taken pairs bl.words room)
simple_does bl links code routines around same can tells has deep space narrow entering least _ simple is room calls once few jumps low = absurd simple

-- ---- a unit that is raised

-- no block but the main procedure is around it
main_level : (block : ℕ) (all : List (ℕ × Label)) (blocks : List BlockPlace) (main : OuterBlock) → main.level ≡ 0 → (level : ℕ) (label : Label) → IsOutward block level label all blocks (main ∷ []) → level ≡ 0
main_level block all blocks main lowest level label (inl jumps) = sym jumps.0 ∙ lowest
main_level block all blocks main lowest level label (inr jumps) = absurd jumps

constants_raised : {e : Environment} {block : Names} {types : Types} {bl : Block e block types} {links : Links} {code : List Instr} (callee : Callee bl) (kind : Way) (back : Base → ℕ) (h0 t0 : ℕ → ℕ) (head : Y.BlockHead) (next : head.level ≡ 1) (main : ℕ) (mains : List Label) (has : HasMain main mains e.level e.block bl.labels bl.outer) → Standing bl links code → (n : Values) → ConstantsStand links code ((unit_block bl callee kind back h0 t0 head next main mains has).ground n)
constants_raised callee kind back h0 t0 head next main mains has s n =
    constants_moved (λ t. t0) (λ t b m o. o.kept.0) (s.constants n)

-- once its variables are made
standing_raised : {e : Environment} {block : Names} {types : Types} {bl : Block e block types} {links : Links} {code : List Instr} (callee : Callee bl) (kind : Way) (back : Base → ℕ) (h0 t0 : ℕ → ℕ) (head : Y.BlockHead) (next : head.level ≡ 1) (main : ℕ) (mains : List Label) (has : HasMain main mains e.level e.block bl.labels bl.outer) (ds : List Y.DeclaredVariable) → (IsOwned (owner_of_unit head head.kind) → frame_end e.parts e.program head.number head.level ≡ fixed_size head.level 0 + bytes_of ds) → (makes : Makes (unit_block bl callee kind back h0 t0 head next main mains has) 0 ds) (serial : ℕ) → Standing bl links code → Standing (made_block (unit_block bl callee kind back h0 t0 head next main mains has) ds makes serial) links code
standing_raised {bl = bl} callee kind back h0 t0 head next main mains has ds sized makes serial s =
    record {
      raises = s.raises;
      constants = made_constants ds (unit_block bl callee kind back h0 t0 head next main mains has) makes serial (constants_raised callee kind back h0 t0 head next main mains has s);
      filled = unit_filled bl callee kind back h0 t0 head next main mains has ds sized makes serial;
      known = known_in (owner_of_unit head head.kind) head.number head.level s.known;
    }

words_few : (kind : Y.BlockKind) (body : Taken) → (taken_by_unit kind body).words ≤ body.words
words_few Y.SimpleUnit body = omega arith
words_few Y.UnitBlock body = omega arith
words_few Y.ProcedureBlock body = omega arith
words_few Y.BeginBlock body = omega arith

is_unit : (kind : Y.BlockKind) (body : Y.Stmts) → IsUnitBody kind body → IsUnitKind kind
is_unit Y.SimpleUnit body what = inl refl
is_unit Y.UnitBlock body what = inr refl
is_unit _ body what = absurd what

-- its statements, where calls and signals in it do what they mean
body_by : {e : Environment} {block : Names} {types : Types} (bl : Block e block types) {links : Links}
    {code : List Instr} (standing : Standing bl links code) {all : List (ℕ × Label)} {procedure : ℕ} {may : List ℕ}
    (m : ℕ) → Done e block types all procedure m links code may
    → Tells e block types all procedure may links code bl.base bl.frames.known
    → (has : HasMain procedure (main_labels e.program.procedures) e.level e.block bl.labels bl.outer)
    → suc (length bl.depths) < most_activations → bl.stack.free + 4000 * (500 - length bl.depths) ≤ 14 * 2 ^ 20
    → (head : Y.BlockHead) (next : head.level ≡ 1) (ds : List Y.DeclaredVariable)
    → (IsOwned (owner_of_unit head head.kind) → frame_end e.parts e.program head.number head.level ≡ fixed_size
    head.level 0 + bytes_of ds) → (kind : Y.BlockKind) → head.kind ≡ kind → ds ≡ unit_declares e.program head kind
    → (body : Y.Stmts) → IsUnitBody kind body → AreProvedStatements
    (names_in block types head (unit_declares e.program head kind))
    (types_in types (unit_declares e.program head kind)) body
    → AllJumpAround head.number head.level all e.blocks (main_outer procedure e.program.procedures)
    (main_outer procedure e.program.procedures ∷ []) (labels_in body) body → DeclarePlain e.program body
    → AllCallAmong e.program may false 0 body → 4 * (body_words body + all_inner_words body) +
    (bytes_of ds + inner_bytes e.program body) ≤ 3200
    → ((number : ℕ) (label : Label) → times number label all ≡ 1 → IsMarkedOnce links number label)
    → (head.kind ≡ Y.UnitBlock → LabelsStand (unit_environment head (program_around e)) links all procedure false)
    → ((b : BlockPlace) → IsAmong b (blocks_among body) → IsAmong b e.blocks) → (callee : Callee bl)
    → callee.words ≡ (taken_by_unit kind (stmts_take none_taken body)).words
    → (entered : Way) (back : Base → ℕ) (h0 t0 : ℕ → ℕ)
    (makes : Makes (unit_block bl callee entered back h0 t0 head next procedure (main_labels e.program.procedures) has)
    0 ds) (serial : ℕ) → Does (made_block (unit_block bl callee entered back h0 t0 head next procedure
    (main_labels e.program.procedures) has) ds makes serial) links code (suc m)
    (stmts_code (unit_environment head e) none_taken body) (M.list (inner_around e.program m head.line) body)
body_by {e} bl {links} {code} standing {all} {procedure} m can tells has deeper space head next ds sized Y.SimpleUnit kind none (Y.StmtThen [] x (Y.EndOfList [])) what proved jumps inside calls few once labels blocks callee words entered back h0 t0 makes serial =
    let mains = main_labels e.program.procedures in
    let body = Y.StmtThen [] x (Y.EndOfList []) in
    let here = inner_around e.program m head.line in
    let cb = unit_block bl callee entered back h0 t0 head next procedure mains has in
    let place = callee.place in
    let T : List Y.DeclaredVariable → Type 1 = λ vs. ((IsOwned (owner_of_unit head head.kind) → frame_end e.parts e.program head.number head.level ≡ fixed_size head.level 0 + bytes_of vs) → (made : Makes cb 0 vs) → Does (made_block cb vs made serial) links code (suc m) (stmts_code (unit_environment head e) none_taken body) (M.list here body)) in
    subst T (sym none)
    (λ sized' made.
    listed cb here body (
      simple_does (within [] cb) links code (standing_within []
          (standing_raised callee entered back h0 t0 head next procedure mains has [] sized' made serial standing))
          here refl can tells (inr (inl (refl, (refl, λ label among. among)))) deeper
          (omega (arith, place, words, few, space, deeper))
          (omega (arith, words, few)) (inner_entering e.program m head.line) (omega arith) x what proved.0
          (omega (arith, words)) calls.0 once (omega (arith, next)) jumps.0
          (main_level head.number all e.blocks (main_of procedure mains) refl),
      tt,
    ))
    sized makes
body_by {e} {block} {types} bl {links} {code} standing {all} {procedure} {may} m can tells has deeper space head next ds sized Y.UnitBlock kind are body what proved jumps inside calls few once labels blocks callee words entered back h0 t0 makes serial =
    let mains = main_labels e.program.procedures in
    let main' = main_of procedure mains in
    let cb = unit_block bl callee entered back h0 t0 head next procedure mains has in
    let mb = made_block cb ds makes serial in
    let made = is_made ds cb makes serial in
    let w = made.words in
    let free = made.free in
    let depths = ap (λ (us : List ℕ). length us) made.depths in
    let place = callee.place in
    let most' = le-max_right 0 (body_words body) in
    let low = most 0 (body_words body) 800 (omega arith) (omega (arith, few)) in
    let proved' : AreProvedStatements (names_in block types head ds) (types_in types ds) body = subst (λ vs. AreProvedStatements (names_in block types head vs) (types_in types vs) body) (sym are) proved in
    let high : AllJumpAround head.number head.level all e.blocks main' mb.outer (labels_in body ++ mb.labels) body =
    subst (λ os. AllJumpAround head.number head.level all e.blocks main' os (labels_in body ++ mb.labels) body) (sym made.outer)
    (subst (λ ls. AllJumpAround head.number head.level all e.blocks main' (main' ∷ []) ls body) (sym (ap (λ ls. labels_in body ++ ls) made.labels ∙ append-nil (labels_in body))) jumps) in
    subst (λ tk. Does mb links code (suc m) (stmts_code (unit_environment head e) tk body) (M.list (inner_around e.program m head.line) body)) made.taken
    (body_does mb links code (standing_raised callee entered back h0 t0 head next procedure mains has ds sized makes serial standing) (inner_around e.program m head.line) refl {small = true} {taken = 0} {bound = m}
    (labels kind) body proved' high (subst (λ tk. (stmts_take tk body).words ≤ mb.words) (sym made.taken)
    (omega (arith, most', words, w)))
    ((omega (arith, place, words, low, space, deeper, free, depths, few), omega (arith, few)), omega (arith, deeper, depths)) inside
    (inner_entering e.program m head.line) (omega arith) blocks calls
    (record {
      narrows = narrows_in head ds (omega (arith, next)) (narrows_self block types callee.outer);
      calls = can.0;
      signals = can.1;
      tells = subst (λ b. Tells e block types all procedure may links code b mb.frames.known) (sym made.base) (subst (λ (fs : Frames). Tells e block types all procedure may links code bl.base fs.known) (sym made.frames) tells);
      makes = λ same' u at k. let no : true ≡ false = sym same' ∙ other_level head.level 0 next in absurd (cc no);
      narrow = omega (arith, words, low, w);
      ends = λ no. let apart : false ≡ true = no in absurd (cc apart);
      mains = subst (λ os. HasMain procedure mains head.level head.number (labels_in body ++ mb.labels) os) (sym made.outer) (inr (inl (refl, (refl, λ label among. among))));
    }))
body_by bl standing m can tells has deeper space head next ds sized _ kind are body what proved jumps inside calls few once labels blocks callee words entered back h0 t0 makes serial = absurd what

unit_raisable : {e : Environment} {block : Names} {types : Types} (bl : Block e block types) {links : Links} {code : List Instr} (standing : Standing bl links code) {all : List (ℕ × Label)} {procedure : ℕ} {may : List ℕ} (more : ℕ) → AllOutermost block types → ((m : ℕ) → more ≡ suc m → Done e block types all procedure m links code may) → Tells e block types all procedure may links code bl.base bl.frames.known → (has : HasMain procedure (main_labels e.program.procedures) e.level e.block bl.labels bl.outer) → length bl.depths < most_activations → bl.stack.free + 4000 * (500 - length bl.depths) ≤ 14 * 2 ^ 20 → (c : Condition) (frame : ℕ) (u : Y.Block) (at : ℕ) → bl.frames.known c frame u at → Raisable bl procedure (main_labels e.program.procedures) has links code more frame u at
unit_raisable {e} {block} {types} bl {links} {code} standing {procedure = procedure} more outermost below tells has deep space c frame u at known =
    let q = (tells c frame u at known).1 in
    let mains = main_labels e.program.procedures in
    let vars = unit_declares e.program q.head q.head.kind in
    let words = (taken_by_unit q.head.kind (stmts_take none_taken q.body)).words in
    let few = q.few in
    let small' = words_few q.head.kind (stmts_take none_taken q.body) in
    let callee : Callee bl = record {
      words = words;
      held = held_with e.program (taken_by_unit q.head.kind (stmts_take none_taken q.body)).registers q.body;
      few =
          held_few _ _ _;
      at = bl.stack.free + temporary_bytes words;
      place = refl;
      room =
          omega (arith, small', few, space, deep);
      outer = outermost;
    } in
    let makes = unit_makes bl callee q.head q.level procedure mains has standing.known q.declares (omega (arith, few, small', space, deep)) (omega (arith, few)) in
    let sized = unit_sized e q.head q.head.kind q.body q.what standing.known q.declares q.level (omega (arith, few)) in
    record {
      lowest = (tells c frame u at known).0;
      head = q.head;
      body = q.body;
      is = q.is;
      kind = is_unit q.head.kind q.body q.what;
      level = q.level;
      line = q.line;
      known = known_in (owner_of_unit q.head q.head.kind) q.head.number q.head.level standing.known;
      callee = callee;
      index = q.index;
      at_is = q.at_is;
      later = q.later;
      linked = q.linked;
      makes = makes;
      stand = λ kind back h0 t0. constants_raised callee kind back h0 t0 q.head q.level procedure mains has standing;
      does = λ m next deeper kind back h0 t0 serial.
          body_by bl standing m (below m next) tells has deeper space q.head q.level vars sized q.head.kind refl refl q.body q.what q.proved q.jumps q.inside q.calls few q.once q.labels q.blocks callee refl kind back h0 t0 (makes kind back h0 t0) serial;
    }

-- ---- all signals

pub signals_with : (e : Environment) (block : Names) (types : Types) (all : List (ℕ × Label)) (procedure : ℕ) (links : Links) (code : List Instr) (may : List ℕ) (bound : ℕ) → AllOutermost block types → ((m : ℕ) → suc m ≤ bound → Done e block types all procedure m links code may) → Signals e block types all procedure bound links code may
signals_with e block types all procedure links code may bound outermost below o number level b deep space narrow standing tells has around same more entering least c oncode small' other =
    unit_raises b procedure (main_labels e.program.procedures) has links code standing.raises around more c oncode small' other entering
    (λ frame u at known. unit_raisable b standing more outermost (λ m next. below m (omega (arith, next, least))) tells has deep space c frame u at known)

pub fewer_signals : (e : Environment) (block : Names) (types : Types) (all : List (ℕ × Label)) (procedure : ℕ) (links : Links) (code : List Instr) (may : List ℕ) (m bound : ℕ) → m ≤ bound → Signals e block types all procedure bound links code may → Signals e block types all procedure m links code may
fewer_signals e block types all procedure links code may m bound less signals o number level b deep space narrow standing tells has around same more entering least c oncode small' other =
    signals o number level b deep space narrow standing tells has around same more entering (omega (arith, least, less)) c oncode small' other
