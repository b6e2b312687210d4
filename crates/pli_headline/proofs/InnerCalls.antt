-- Calls of the procedures inside the main one and SIGNAL of AREA do what they mean, from any block, so many blocks deep as may be: by
-- induction on how deep.
use Rattle.std.proofs.Common.{◌≡◌, ℕ, suc, ◌+◌, ◌-◌, ◌*◌, ◌^◌, ◌<◌, ◌≤◌, List, [], ◌∷◌, ◌++◌, length, None, Some, true, false, inl, inr, refl, sym, ap, ◌∙◌, subst, arith, append-nil, zero}
use Rattle.std.specs.Prelude.{cond, max, ◌==◌}
use Rattle.std.proofs.Math.Nat.{le-max_right}
use Rattle.std.proofs.lemmas.Bool.{eq-eqb}
use Rattle.std.proofs.lemmas.Bool.Decides.{nat_tests}
use Rattle.rv_meaning.specs.declared.instr.Instr.{Instr}
use Rattle.pli_typing.specs.TypedTree as Y
use Rattle.pli_meaning.specs.Control.{Label}
use Rattle.pli_meaning.specs.DeclaredShapes.{procedure_numbered, variables_of_block}
use Rattle.pli_meaning.specs.Raising.{Around}
use Rattle.pli_meaning.specs.Executing as M
use Rattle.pli_meaning.specs.Executing.{labels_in}
use Rattle.pli_coding.specs.Assembly.{ProcedureEntry}
use Rattle.pli_coding.specs.Environments.{BlockPlace, Taken, none_taken, Owner, Environment, in_frame, owned_by}
use Rattle.pli_meaning.specs.StorageState.{most_activations}
use Rattle.pli_coding.specs.Frames.{temporary_bytes, words_place}
use Rattle.pli_coding.specs.Images.{blocks_among, blocks_of, place_of_head, environment_of}
use Rattle.pli_coding.specs.Linking.{Links}
use Rattle.pli_coding.specs.Procedures.{procedure_environment, procedure_in}
use Rattle.pli_coding.specs.Statements.{stmts_take, stmt_code, stmts_code, held_with}
use Rattle.pli_headline.specs.Headline.{parts}
use Rattle.pli_headline.specs.ProvedSoFar.{Names, Types, types_of, main_labels, main_outer, AllJumpAround, is_number, number_times, AllOnce, IsCallable, IsInner, AreInner, main_names}
use Rattle.run_steps.proofs.Numbers.{below_small}
use Rattle.run_steps.specs.Linking.{times_marked}
use Rattle.run_steps.specs.Items.{Linked}
use Rattle.pli_headline.proofs.PieceSizes.{most}
use Rattle.pli_headline.proofs.Statements.{Block, Standing, IsEndMarkedOnce, Does, known_in}
use Rattle.pli_headline.proofs.InnerLevels.{IsAmong}
use Rattle.pli_headline.proofs.InnerFrames.{other_level}
use Rattle.pli_headline.proofs.BeginMeant.{Entering, inner_around, inner_entering}
use Rattle.pli_headline.proofs.Gotos.{LabelsStand}
use Rattle.pli_headline.proofs.Marks.{others_code}
use Rattle.pli_headline.proofs.MainProcedure.{main_procedure, IsAlone, main_environment, main_plain}
use Rattle.pli_headline.proofs.CallMeant.{plain_procedure}
use Rattle.pli_headline.proofs.Entered.{Frames}
use Rattle.pli_headline.proofs.Declares.{made_block}
use Rattle.pli_headline.proofs.StandingBytes.{constants_moved}
use Rattle.pli_headline.proofs.DeclaredBegins.{vars_of, is_made, made_constants}
use Rattle.pli_headline.proofs.CalledFrames.{Callee}
use Rattle.pli_headline.proofs.CallRuns.{StandsAt, CalleeMakes, CalleeDoes, callee_block, called_code_is, own_call_does}
use Rattle.pli_headline.proofs.CalledVariables.{called_makes, called_filled}
use Rattle.pli_headline.proofs.ProcedurePlaces.{called_once, inner_at}
use Rattle.pli_headline.proofs.MainOutlets.{procedure_owner, HasMain}
use Rattle.pli_headline.proofs.Narrowing.{narrows_self, narrows_in}
use Rattle.pli_headline.proofs.ProvedStatements.{Calls, Signals, body_does}
use Rattle.pli_headline.proofs.UnitStanding.{Tells}
use Rattle.pli_headline.proofs.InnerUnits.{Done, fewer_signals, signals_with}
use Rattle.pli_headline.proofs.PlainInside.{declare_plain}
use Rattle.pli_headline.proofs.HeldRegisters.{held_few}
use Rattle.pli_headline.specs.InnerWords.{body_words}

-- ---- the statements of a procedure that is called

labels_called : {program : Y.Program} {block : ℕ} {links : Links} {all : List (ℕ × Label)} (head : Y.BlockHead) → head.level ≡ 1 → LabelsStand (main_environment program block) links all block true → IsAmong (place_of_head head) (blocks_of program.procedures) → LabelsStand (procedure_environment head (main_environment program block)) links all block false
labels_called head next named among =
    record {
      own = named.found (place_of_head head) among;
      found = named.found;
      once = named.once;
      owner = λ no. let apart : false ≡ true = no in absurd (cc apart);
      ended = λ no. let apart : false ≡ true = no in absurd (cc apart);
      lower = omega arith;
      owned = tt;
      shallow = omega (arith, next);
      bare = named.bare;
    }

-- once its variables are made
called_does : {program : Y.Program} {block : ℕ} {all : List (ℕ × Label)} {called : List ℕ} {procedure : Y.Procedure}
    (q : IsInner program block all called procedure) (can : IsCallable program called q.head q.body) {links : Links}
    {code : List Instr} {o : Owner} {number level : ℕ}
    (bl : Block (owned_by o (in_frame number level (main_environment program block))) (main_names program block)
    (types_of (variables_of_block program block))) (callee : Callee bl) → callee.words ≡ max 0 (body_words q.body)
    → length bl.depths < most_activations → suc (length bl.depths) < most_activations
    → bl.stack.free + 4000 * (500 - length bl.depths) ≤ 14 * 2 ^ 20 → Standing bl links code
    → (named : LabelsStand (main_environment program block) links all block true)
    → ((b : BlockPlace) → IsAmong b (place_of_head q.head ∷ blocks_among q.body)
    → IsAmong b (blocks_of program.procedures)) → IsEndMarkedOnce links q.head.number → (bound : ℕ)
    → Calls (main_environment program block) (main_names program block)
    (types_of (variables_of_block program block)) all block bound links code called
    → Signals (main_environment program block) (main_names program block)
    (types_of (variables_of_block program block)) all block bound links code called
    → Tells (main_environment program block) (main_names program block)
    (types_of (variables_of_block program block)) all block called links code bl.base bl.frames.known
    → (has : HasMain block (main_labels program.procedures) level number bl.labels bl.outer)
    → (makes : CalleeMakes bl callee q.head q.level block (main_labels program.procedures) has)
    → CalleeDoes bl callee q.head q.level block (main_labels program.procedures) has makes links code bound q.body
called_does {program} {block} {all} {called} q can {links} {code} {o} {number} {level} bl callee words deep deeper space standing named known ended bound calls signals tells has makes back h0 t0 serial =
    let e = owned_by o (in_frame number level (main_environment program block)) in
    let outer = main_names program block in
    let outers = types_of (variables_of_block program block) in
    let mains = main_labels program.procedures in
    let main' = main_outer block program.procedures in
    let blocks = blocks_of program.procedures in
    let head = q.head in
    let body = q.body in
    let next = q.level in
    let vars = vars_of e head in
    let cb = callee_block bl callee head next block mains has back h0 t0 in
    let m = makes back h0 t0 in
    let mb = made_block cb vars m serial in
    let made = is_made vars cb m serial in
    let w = made.words in
    let free = made.free in
    let depths = ap (λ (ds : List ℕ). length ds) made.depths in
    let place = callee.place in
    let few = can.few in
    let most' = le-max_right 0 (body_words body) in
    let low = most 0 (body_words body) 800 (omega arith) (omega (arith, few)) in
    let standing' : Standing mb links code = record {
      raises = standing.raises;
      constants = made_constants vars cb m serial (λ n. constants_moved (λ t. t0) (λ t b m' held. held.kept.0) (standing.constants n));
      filled = called_filled bl callee head next block mains has standing.known (main_plain program q.head.number standing.known.plain) (omega (arith, few)) makes back h0 t0 serial;
      known = known_in (procedure_owner head) head.number head.level standing.known;
    } in
    let jumps : AllJumpAround head.number head.level all blocks main' mb.outer (labels_in body ++ mb.labels) body =
    subst (λ os. AllJumpAround head.number head.level all blocks main' os (labels_in body ++ mb.labels) body) (sym made.outer)
    (subst (λ ls. AllJumpAround head.number head.level all blocks main' (main' ∷ []) ls body) (sym (ap (λ ls. labels_in body ++ ls) made.labels ∙ append-nil (labels_in body)))
    (subst (λ n. AllJumpAround head.number n all blocks main' (main' ∷ []) (labels_in body) body) (sym next) q.jumps)) in
    subst (λ tk. Does mb links code (suc bound) (stmts_code (procedure_environment head e) tk body) (M.list (inner_around program bound head.line) body)) made.taken
    (body_does mb links code standing' (inner_around program bound head.line) refl {small = true} {taken = 0} {bound = bound}
    (labels_called head next named (known (place_of_head head) (inl refl))) body q.statements jumps
    (subst (λ tk. (stmts_take tk body).words ≤ mb.words) (sym made.taken) (omega (arith, most', words, w)))
    ((omega (arith, place, words, low, space, deeper, free, depths, few), omega (arith, few)), omega (arith, deeper, depths)) (declare_plain program body standing.known.plain)
    (inner_entering program bound head.line) (omega arith) (λ b h. known b (inr h)) can.calls
    (record {
      narrows = narrows_in head vars (omega (arith, next)) (narrows_self outer outers (λ j kind at. refl));
      calls = calls;
      signals = signals;
      tells = subst (λ b. Tells (main_environment program block) outer outers all block called links code b mb.frames.known) (sym made.base) (subst (λ (fs : Frames). Tells (main_environment program block) outer outers all block called links code bl.base fs.known) (sym made.frames) tells);
      makes = λ same' u at k. let no : true ≡ false = sym same' ∙ other_level head.level 0 next in absurd (cc no);
      narrow = omega (arith, words, low, w);
      ends = λ may called'. inl (other_level head.level 0 next, (refl, ended));
      mains = subst (λ os. HasMain block mains head.level head.number (labels_in body ++ mb.labels) os) (sym made.outer) (inr (inl (refl, (refl, λ label among. among))));
    }))

-- ---- the call

-- of one of them, which stands somewhere, where those that its statements make do what they mean
one_does : (program : Y.Program) (block line : ℕ) (body : Y.Stmts) (alone : IsAlone program block line body) {all : List (ℕ × Label)} {called : List ℕ} {procedure : Y.Procedure} (q : IsInner program block all called procedure) (can : IsCallable program called q.head q.body) {links : Links} {code : List Instr} {o : Owner} {number level : ℕ} (bl : Block (owned_by o (in_frame number level (main_environment program block))) (main_names program block) (types_of (variables_of_block program block))) (at : ℕ) → Linked links code at (procedure_in (procedure_environment q.head (main_environment program block)) q.head q.body [] None) → 10 ≤ at → times_marked (ProcedureEntry q.head.number) links.marks ≡ 1 → IsEndMarkedOnce links q.head.number → procedure_numbered q.head.number alone.others ≡ Some (plain_procedure q.head q.body) → LabelsStand (main_environment program block) links all block true → ((b : BlockPlace) → IsAmong b (place_of_head q.head ∷ blocks_among q.body) → IsAmong b (blocks_of program.procedures)) → length bl.depths < most_activations → bl.stack.free + 4000 * (500 - length bl.depths) ≤ 14 * 2 ^ 20 → bl.words < 2 ^ 22 → Standing bl links code → Tells (main_environment program block) (main_names program block) (types_of (variables_of_block program block)) all block called links code bl.base bl.frames.known → bl.taken.words ≤ bl.words → HasMain block (main_labels program.procedures) level number bl.labels bl.outer → (around : Around) → around.program ≡ program → {more : ℕ} → Entering program around more → ((m : ℕ) → more ≡ suc m → Done (main_environment program block) (main_names program block) (types_of (variables_of_block program block)) all block m links code called) → (line' : ℕ) → line' < 2 ^ 31 → Does bl links code around.turns (stmt_code (owned_by o (in_frame number level (main_environment program block))) bl.taken (Y.CallProcedure (Y.Calling q.head.number 0 Y.NoArgument) line')) (M.statement around (Y.CallProcedure (Y.Calling q.head.number 0 Y.NoArgument) line'))
one_does program block line body alone {all} {called} {procedure} q can {links} {code} {o} {number} {level} bl at l later once ended found named known deep space few standing tells taken has around same {more} entering below line' fits =
    let e = owned_by o (in_frame number level (main_environment program block)) in
    let head = q.head in
    let words = max 0 (body_words q.body) in
    let small' = can.few in
    let low : words ≤ 800 = most 0 (body_words q.body) 800 (omega arith) (omega (arith, small')) in
    let held = held_with program (max 0 (stmts_take none_taken q.body).registers) q.body in
    let callee : Callee bl = record {
      words = words;
      held = held;
      few = held_few _ _ _;
      at =
          bl.stack.free + temporary_bytes words;
      place = refl;
      room = omega (arith, low, space, deep);
      outer =
          λ j kind at. refl;
    } in
    let makes = called_makes bl callee head q.level block (main_labels program.procedures) has standing.known (main_plain program q.head.number standing.known.plain) (omega (arith, small', low, space, deep)) (omega (arith, small')) in
    let stands : StandsAt links code e head words held q.body = record {
      entry = at;
      placed = l.has.0 (eq-eqb head.number head.number refl) once;
      behind = later;
      linked = subst (Linked links code at) (called_code_is e head q.body q.level (main_plain program q.head.number standing.known.plain)) l;
    } in
    let whole : procedure_numbered head.number program.procedures ≡ Some (plain_procedure head q.body) = ap (procedure_numbered head.number) alone.are ∙ ap (λ t. cond t (Some (main_procedure block line body)) (procedure_numbered head.number alone.others)) q.apart ∙ found in
    own_call_does bl links code around more head q.body callee stands (words_place bl.taken.words 0) line' q.level block (main_labels program.procedures) has can.kind can.line (known_in (procedure_owner head) head.number head.level standing.known) makes (λ back h0 t0 n. constants_moved (λ t. t0) (λ t b m' held. held.kept.0) (standing.constants n)) same entering whole
    (below_small (4 * (bl.taken.words + 0)) (omega (arith, taken, few))) fits
    (λ m step deeper. called_does q can bl callee refl deep deeper space standing named known ended m (below m step).0 (below m step).1 tells has makes)

-- all calls, of so many blocks in one another at most, where those of fewer do
calls_with : (program : Y.Program) (block line : ℕ) (body : Y.Stmts) (called : List ℕ) (alone : IsAlone program block line body) {all : List (ℕ × Label)} → AreInner program block all called alone.others → AllOnce called alone.others → {links : Links} {code : List Instr} (i : ℕ) → Linked links code i (others_code program alone.others) → 10 ≤ i → ((number : ℕ) → (number == block) ≡ false → number_times number alone.others ≡ 1 → times_marked (ProcedureEntry number) links.marks ≡ 1) → ((number : ℕ) → is_number number called ≡ true → (number == block) ≡ false → number_times number alone.others ≡ 1 → IsEndMarkedOnce links number) → LabelsStand (main_environment program block) links all block true → ((b : BlockPlace) → IsAmong b (blocks_of alone.others) → IsAmong b (blocks_of program.procedures)) → (bound : ℕ) → ((m : ℕ) → suc m ≤ bound → Done (main_environment program block) (main_names program block) (types_of (variables_of_block program block)) all block m links code called) → Calls (main_environment program block) (main_names program block) (types_of (variables_of_block program block)) all block bound links code called
calls_with program block line body called alone inner once {links} {code} i l later entries ends named known bound below o n level b deep space words standing tells taken has around same more entering least number among line' fits =
    let once' = called_once number called alone.others once among in
    let p = inner_at (environment_of parts program) called number i 0 alone.others inner once' l in
    let q = p.inner in
    let after = p.after in
    let apart : (q.head.number == block) ≡ false = (let h = q.apart in grind (arith, nat_tests)) in
    subst (λ m. Does b links code around.turns (stmt_code (owned_by o (in_frame n level (main_environment program block))) b.taken (Y.CallProcedure (Y.Calling m 0 Y.NoArgument) line')) (M.statement around (Y.CallProcedure (Y.Calling m 0 Y.NoArgument) line'))) (sym p.same)
    (one_does program block line body alone q (q.callable (subst (λ m. is_number m called ≡ true) p.same among)) b p.at p.linked (omega (arith, later, after))
    (entries q.head.number apart (subst (λ m. number_times m alone.others ≡ 1) p.same once'))
    (ends q.head.number (subst (λ m. is_number m called ≡ true) p.same among) apart (subst (λ m. number_times m alone.others ≡ 1) p.same once'))
    (subst (λ m. procedure_numbered m alone.others ≡ Some (plain_procedure q.head q.body)) p.same p.found)
    named (λ c h. known c (p.known c h)) deep space words standing tells taken has around same entering (λ m step. below m (omega (arith, step, least))) line' fits)

fewer_calls : (e : Environment) (block : Names) (types : Types) (all : List (ℕ × Label)) (procedure : ℕ) (links : Links) (code : List Instr) (called : List ℕ) (m bound : ℕ) → m ≤ bound → Calls e block types all procedure bound links code called → Calls e block types all procedure m links code called
fewer_calls e block types all procedure links code called m bound less calls o n level b deep space words standing tells taken has around same more entering least number among line fits =
    calls o n level b deep space words standing tells taken has around same more entering (omega (arith, least, less)) number among line fits

pub inner_calls : (program : Y.Program) (block line : ℕ) (body : Y.Stmts) (called : List ℕ) (alone : IsAlone program block line body) {all : List (ℕ × Label)} → AreInner program block all called alone.others → AllOnce called alone.others → {links : Links} {code : List Instr} (i : ℕ) → Linked links code i (others_code program alone.others) → 10 ≤ i → ((number : ℕ) → (number == block) ≡ false → number_times number alone.others ≡ 1 → times_marked (ProcedureEntry number) links.marks ≡ 1) → ((number : ℕ) → is_number number called ≡ true → (number == block) ≡ false → number_times number alone.others ≡ 1 → IsEndMarkedOnce links number) → LabelsStand (main_environment program block) links all block true → ((b : BlockPlace) → IsAmong b (blocks_of alone.others) → IsAmong b (blocks_of program.procedures)) → (bound : ℕ) → Done (main_environment program block) (main_names program block) (types_of (variables_of_block program block)) all block bound links code called
inner_calls program block line body called alone {all} inner once {links} {code} i l later entries ends named known zero = (
  calls_with program block line body called alone inner once i l later entries ends named known zero (λ m less. absurd (omega (arith, less))),
  signals_with (main_environment program block) (main_names program block) (types_of (variables_of_block program block)) all block links code called zero (λ j kind at. refl) (λ m less. absurd (omega (arith, less))),
)
inner_calls program block line body called alone {all} inner once {links} {code} i l later entries ends named known (suc bound) =
    let e = main_environment program block in
    let types = types_of (variables_of_block program block) in
    let rest = inner_calls program block line body called alone inner once i l later entries ends named known bound in
    let below : (m : ℕ) → suc m ≤ suc bound → Done e (main_names program block) types all block m links code called =
    λ m less. (fewer_calls e (main_names program block) types all block links code called m bound (omega (arith, less)) rest.0, fewer_signals e (main_names program block) types all block links code called m bound (omega (arith, less)) rest.1) in (
      calls_with program block line body called alone inner once i l later entries ends named known (suc bound) below,
      signals_with e (main_names program block) types all block links code called (suc bound) (λ j kind at. refl) below,
    )
