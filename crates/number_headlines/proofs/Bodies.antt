-- The statements of each block of a program of the class do what they mean, and so do the calls in them, as deep as
-- they go.
use Rattle.std.proofs.Common.{◌≡◌, ℕ, zero, suc, ◌+◌, ◌^◌, ◌<◌, ◌≤◌, List, [], ◌∷◌, ◌++◌, length, Bool, true, false}
use Rattle.std.proofs.Common.{◌⊎◌, inl, inr, refl, sym, ap, subst, arith, Some}
use Rattle.std.specs.Prelude.{nat_le, nat_lt, not}
use Rattle.std.proofs.lemmas.Bool.{leb-true}
use Rattle.std.proofs.lemmas.Bool.Decides.{nat_tests}
use Rattle.pli_language.specs.declared.condition.Condition.TheVariants as C
use Rattle.pli_typing.specs.TypedTree as Y
use Rattle.pli_meaning.specs.Control.{Label}
use Rattle.pli_meaning.specs.DeclaredShapes.{variables_of_block}
use Rattle.pli_meaning.specs.Executing.{labels_in}
use Rattle.pli_meaning.specs.StorageState.{automatic_in_use, most_activations, most_automatic}
use Rattle.pli_serving.specs.ServiceState.{Entry}
use Rattle.pli_coding.specs.Allocating.{act_code}
use Rattle.pli_coding.specs.Assembly.{size_of}
use Rattle.pli_coding.specs.Images.{linked_code}
use Rattle.pli_coding.specs.Statements.{stmt_code}
use Rattle.code_marks.specs.CodeMarks.{MarkedOnce}
use Rattle.activation_relation.specs.Frames.{lower_end, upper_top}
use Rattle.activation_relation.specs.FrameLaws.{with_waits}
use Rattle.activation_relation.specs.Layers.{Layer}
use Rattle.run_steps.specs.Items.{Linked}
use Rattle.run_steps.proofs.Jumps.{back_of}
use Rattle.run_steps.proofs.Linking.{size_append}
use Rattle.program_places.specs.Programs.{body_for, code_for, environment_for, links_for, procedures_index}
use Rattle.program_places.specs.Programs.{program_environment}
use Rattle.program_places.proofs.Callees.{callee_stands}
use Rattle.program_places.proofs.Found.{known}
use Rattle.program_places.proofs.Functions.{function_stands}
use Rattle.program_places.proofs.Procedures.{body_placed, raise_routines}
use Rattle.program_runs.specs.Calls.{body_index, left_over}
use Rattle.program_runs.specs.Starts.{image_parts}
use Rattle.program_runs.specs.Statements.{DoesWith, EachDoes, IsOwn, as_outer, set_aside}
use Rattle.expression_runs.specs.Assignments.{setting_around}
use Rattle.expression_runs.specs.Laws as L
use Rattle.phase_runs.proofs.Signals.{signal_ends}
use Rattle.nested_calls.specs.NestedCalls.{HasFrame, IsNestedCall}
use Rattle.nested_calls.specs.NestedFunctions.{IsNestedFunction}
use Rattle.nested_calls.proofs.DeepCalls.{deep_call_ends}
use Rattle.nested_calls.proofs.FullCalls.{full_call_ends, full_function_ends}
use Rattle.nested_calls.proofs.NestedCalls.{call_coded, call_of, given_in}
use Rattle.nested_calls.proofs.NestedFunctions.{deep_function_ends}
use Rattle.function_runs.specs.FunctionCalls.{called_from}
use Rattle.jump_runs.specs.Calls.{block_in}
use Rattle.jump_runs.specs.Functions.{function_in}
use Rattle.jump_runs.proofs.FunctionLists.{each_ends, system_ends}
use Rattle.jump_runs.proofs.Numbers.{alone}
use Rattle.unit_runs.proofs.InnerLists.{each_list}
use Rattle.program_places.proofs.Labels.{are_marked}
use Rattle.number_runs.specs.Knowledge as Left
use Rattle.number_runs.specs.Knowledge.{IsReady, IsUnraised, IsValued, KnowsAroundTexts, KnowsCalls, KnowsPuts}
use Rattle.number_runs.specs.Knowledge.{KnowsRaises, call_number, call_statement, most_set, KnowsSignals, KnowsBegins}
use Rattle.number_runs.specs.Knowledge.{KnowsReads, GoesThrough, Includes}
use Rattle.number_runs.specs.Numbers.{without_located}
use Rattle.number_runs.specs.Statements.{statements_set}
use Rattle.number_runs.specs.Variables.{bytes_of}
use Rattle.number_runs.proofs.Homes.{none_raised}
use Rattle.number_runs.proofs.Statements.{body_does}
use Rattle.number_runs.proofs.Gets.{reads_known}
use Rattle.number_runs.proofs.Puts.{puts_known}
use Rattle.number_runs.proofs.Unraised.{around_texts_end}
use Rattle.number_headlines.specs.Programs.{is_begin_kind, scope_of}
use Rattle.number_headlines.specs.Jumps.{is_jumped_to}
use Rattle.number_headlines.proofs.CalledLandings.{called_landings, entered_leaving, with_outers}
use Rattle.number_headlines.proofs.Landings.{EachBody, HasLandings, jumps_known, jumps_not, own_included, told_landings}
use Rattle.number_headlines.proofs.Landings.{waited_landings}
use Rattle.number_headlines.proofs.NestedJumps.{nested_jump_call_does, nested_jump_function_does}
use Rattle.number_headlines.proofs.Deciding.{by_decision, entry_low}
use Rattle.number_headlines.proofs.Entered.{entered}
use Rattle.number_headlines.proofs.CalledBlocks.{Moment, are_made, callee_in, entered_at, inner_set, site_in}
use Rattle.number_headlines.proofs.Entered.{unraised_there}
use Rattle.number_headlines.proofs.Full.{are_full}
use Rattle.number_headlines.proofs.ListBodies.{knows_given}
use Rattle.number_headlines.proofs.Inner.{Inner, inner_none, precision_of, returns_so}
use Rattle.number_headlines.proofs.Mains.{Main, most_for, run_for}
use Rattle.number_headlines.proofs.Puts.{constants_known, error_routine, lists_known}
use Rattle.number_headlines.proofs.Based.{based_known, placed_known, told_reached}
use Rattle.number_headlines.proofs.Running.{EachGiven, IsEntered, IsRunning, Running, block_of_run, told_run}
use Rattle.number_headlines.proofs.Running.{told_running, waited_running, IsCalledForm, environment_of_run, IsBegunForm}
use Rattle.number_headlines.proofs.BeginBodies.{knows_begins}

-- ---- at the end of a block

returns_by :
    {program : Y.Program} (m : Main program) (input : List ℕ) (acts : ℕ) (valued : Bool) (more : ℕ) (a : Running)
    (blocks : ℕ) → IsRunning m input acts valued more a blocks →
    IsCalledForm program valued a ⊎ IsBegunForm program valued a → valued ≡ false →
    IsOwn (block_of_run program input acts valued more a) left_over
    ⊎ GoesThrough (block_of_run program input acts valued more a) left_over
returns_by m input acts false more a blocks h (inl f) e =
    inl (record {
      owner = f.owner;
      end = f.ends.place;
      near = f.ends.near;
      enough = omega arith;
      function = f.function;
      begun = h.begun;
      kind = f.kind;
      registers = f.saved;
    })
returns_by m input acts false more a blocks h (inr f) e =
    let shallow = h.shallow in
    let level = h.level in
    inr (record {
      through = record { behind = f.behind; outer = f.outer; rest = f.rest; level = f.level };
      is = record {
        begun = h.begun;
        there = f.there;
        begins = f.begins;
        procedure = f.procedure;
        function = f.function;
        own = h.level;
        inner = f.inner;
        few = omega (arith, shallow, level);
        found = f.found;
        registers = f.registers;
        numbers = f.numbers;
        owner = f.owner;
        end = f.ends.place;
        near = f.ends.near;
        enough = omega arith;
      };
    })
returns_by m input acts true more a blocks h f e = absurd (cc e)

-- no begin block returns a number
values_by :
    {program : Y.Program} (m : Main program) (input : List ℕ) (acts : ℕ) (valued : Bool) (more : ℕ) (a : Running)
    (blocks : ℕ) → IsRunning m input acts valued more a blocks →
    IsCalledForm program valued a ⊎ IsBegunForm program valued a → not (is_begin_kind a.head.kind) ≡ true →
    valued ≡ true → IsValued (block_of_run program input acts valued more a) left_over
values_by m input acts false more a blocks h f may e = absurd (cc e)
values_by m input acts true more a blocks h (inl f) may e =
    record {
      owner = f.owner;
      end = f.ends.place;
      near = f.ends.near;
      enough = omega arith;
      function = f.function;
      kind = f.kind;
      saved = f.saved;
    }
values_by m input acts true more a blocks h (inr f) may e =
    absurd (cc (subst (λ kind. not (is_begin_kind kind) ≡ true) f.kind may))

-- ---- its statements, if the calls in them do what they mean

unraised_of :
    MarkedOnce → {program : Y.Program} (m : Main program) (input : List ℕ) (acts : ℕ) (valued : Bool) (more : ℕ)
    (a : Running) (blocks : ℕ) → acts + 1 < 2 ^ 64 → IsRunning m input acts valued more a blocks →
    IsUnraised (block_of_run program input acts valued more a) (most_for program)
unraised_of once {program} m input acts valued more a blocks few h =
    let routines = raise_routines once program m.loadable in
    let inside = routines.linked.inside in
    record {
      routines = routines;
      place = error_routine once program m.loadable;
      overflow = h.unraised C.FixedOverflow;
      divisor = h.unraised C.ZeroDivide;
      error = h.unraised C.Error;
      acts = few;
      few = omega (arith, inside);
    }

-- raises end the run
raises_of :
    MarkedOnce → {program : Y.Program} (m : Main program) (input : List ℕ) (acts : ℕ) (valued : Bool) (more : ℕ)
    (a : Running) (blocks : ℕ) → acts + 1 < 2 ^ 64 → IsRunning m input acts valued more a blocks →
    KnowsRaises (scope_of program m.called a.head a.body) (block_of_run program input acts valued more a)
    (labels_in a.body ++ []) (most_for program)
raises_of once {program} m input acts valued more a blocks few h =
    none_raised (scope_of program m.called a.head a.body) (block_of_run program input acts valued more a)
    (labels_in a.body ++ []) (most_for program) (unraised_of once m input acts valued more a blocks few h)

-- and so does SIGNAL
signals_of :
    MarkedOnce → {program : Y.Program} (m : Main program) (input : List ℕ) (acts : ℕ) (valued : Bool) (more : ℕ)
    (a : Running) (blocks : ℕ) → acts + 1 < 2 ^ 64 → IsRunning m input acts valued more a blocks →
    KnowsSignals (scope_of program m.called a.head a.body) (block_of_run program input acts valued more a)
    (labels_in a.body ++ []) left_over
signals_of once {program} m input acts valued more a blocks few h labels c line index includes may fits l =
    let routines = raise_routines once program m.loadable in
    let inside = routines.linked.inside in
    let here = l.inside in
    signal_ends (block_of_run program input acts valued more a) labels c line index left_over
    (record {
      act = record { line_fits = fits; acts = few };
      statement = l;
      paid = omega (arith, inside, here);
      routines = routines;
      place = error_routine once program m.loadable;
    })
    (h.unraised c) (h.unraised C.Error)

-- numbers are written by the lists of the program
puts_of :
    MarkedOnce → {program : Y.Program} (m : Main program) (input : List ℕ) (acts : ℕ) (valued : Bool) (more : ℕ)
    (a : Running) (blocks : ℕ) → acts + 1 < 2 ^ 64 → IsEntered m input acts valued more a blocks →
    KnowsPuts (scope_of program m.called a.head a.body) (block_of_run program input acts valued more a)
    (most_for program)
unfolding unraised_of
puts_of once {program} m input acts valued more a blocks few e =
    let k = block_of_run program input acts valued more a in
    let h = e.running in
    let u = unraised_of once m input acts valued more a blocks few h in
    puts_known (scope_of program m.called a.head a.body) k (most_for program) h.begun u h.variables (λ may. h.arrays)
    (λ may. h.narrows) h.parameters (λ may. absurd (cc may)) (λ may. constants_known program k m.memory h.told refl)
    (lists_known program k m.memory h.told) (λ may. placed_known m input acts valued more a blocks e u)

-- but nothing that is BASED where limits wait
told_puts :
    MarkedOnce → {program : Y.Program} (m : Main program) (input : List ℕ) (acts : ℕ) (valued : Bool) (more : ℕ)
    (a : Running) (blocks : ℕ) → acts + 1 < 2 ^ 64 → IsRunning m input acts valued more a blocks →
    KnowsPuts (without_located (scope_of program m.called a.head a.body))
    (block_of_run program input acts valued more a) (most_for program)
unfolding unraised_of
told_puts once {program} m input acts valued more a blocks few h =
    let k = block_of_run program input acts valued more a in
    puts_known (without_located (scope_of program m.called a.head a.body)) k (most_for program) h.begun
    (unraised_of once m input acts valued more a blocks few h) h.variables (λ may. h.arrays)
    (λ may. h.narrows) h.parameters (λ may. absurd (cc may)) (λ may. constants_known program k m.memory h.told refl)
    (lists_known program k m.memory h.told) (λ may. absurd (cc may))

-- and read
reads_of :
    MarkedOnce → {program : Y.Program} (m : Main program) (input : List ℕ) (acts : ℕ) (valued : Bool) (more : ℕ)
    (a : Running) (blocks : ℕ) → acts + 1 < 2 ^ 64 → IsRunning m input acts valued more a blocks →
    KnowsReads (scope_of program m.called a.head a.body) (block_of_run program input acts valued more a)
    (most_for program)
reads_of once {program} m input acts valued more a blocks few h =
    reads_known (scope_of program m.called a.head a.body) (block_of_run program input acts valued more a)
    (most_for program) (unraised_of once m input acts valued more a blocks few h) (h.unraised C.Endfile) refl

-- wherever limits wait in words of its frame, and texts on their stack, calls do what they mean
abbrev EachCall : {program : Y.Program} → Main program → (input : List ℕ) → (acts : ℕ) → (valued : Bool) →
    (more : ℕ) → Running → (blocks : ℕ) → Type 0
EachCall {program} m input acts valued more a blocks =
    (layers : List Layer → List Layer) (texts : List Entry → List Entry) (own : List Label) →
    IsRunning m input acts valued more (record a { layers = layers; texts = texts }) blocks →
    HasLandings m (record a { layers = layers; texts = texts }) →
    (is_jumped_to program m.called a.head.level a.head.number ≡ true → Includes (labels_in a.body) own) →
    KnowsCalls (scope_of program m.called a.head a.body)
    (block_of_run program input acts valued more (record a { layers = layers; texts = texts })) own
    (most_for program) left_over

-- and begin blocks do
abbrev EachBegin : {program : Y.Program} → Main program → (input : List ℕ) → (acts : ℕ) → (valued : Bool) →
    (more : ℕ) → Running → (blocks : ℕ) → Type 0
EachBegin {program} m input acts valued more a blocks =
    (layers : List Layer → List Layer) → IsRunning m input acts valued more (record a { layers = layers }) blocks →
    HasLandings m (record a { layers = layers }) →
    KnowsBegins (scope_of program m.called a.head a.body) valued
    (block_of_run program input acts valued more (record a { layers = layers })) (labels_in a.body ++ []) left_over

-- so texts may wait there
texts_of :
    MarkedOnce → {program : Y.Program} (m : Main program) (input : List ℕ) (acts : ℕ) (valued : Bool) (more : ℕ)
    (a : Running) (blocks : ℕ) → acts + 1 < 2 ^ 64 → (layers : List Layer → List Layer) →
    IsRunning m input acts valued more (record a { layers = layers }) blocks →
    HasLandings m (record a { layers = layers }) → EachCall m input acts valued more a blocks →
    KnowsAroundTexts (scope_of program m.called a.head a.body)
    (block_of_run program input acts valued more (record a { layers = layers })) (labels_in a.body ++ [])
    (most_for program)
unfolding unraised_of
texts_of once {program} m input acts valued more a blocks few layers h lands calls =
    let k = block_of_run program input acts valued more (record a { layers = layers }) in
    around_texts_end (scope_of program m.called a.head a.body) k (labels_in a.body ++ []) (most_for program)
    (unraised_of once m input acts valued more (record a { layers = layers }) blocks few h)
    (constants_known program k m.memory h.told refl)
    (λ none words set line entries level n is.
    (calls layers (λ es. entries ++ a.texts es) [] (waited_running h entries) (waited_landings entries none lands)
    (λ jumped. absurd (jumps_not (is_jumped_to program m.called a.head.level a.head.number) none jumped))).functions
    words set [] line level n (λ label among. among) is)

ready :
    MarkedOnce → {program : Y.Program} (m : Main program) (input : List ℕ) (acts : ℕ) (valued : Bool) (more : ℕ)
    (a : Running) (blocks : ℕ) → acts + 1 < 2 ^ 64 → (e : IsEntered m input acts valued more a blocks) →
    HasLandings m a → EachCall m input acts valued more a blocks →
    EachGiven m input acts valued more a e.running.free.layer e.running.free.below →
    EachBegin m input acts valued more a blocks →
    IsReady (scope_of program m.called a.head a.body) valued (block_of_run program input acts valued more a)
    (labels_in a.body ++ []) (most_for program) left_over
ready once {program} m input acts valued more a blocks few e lands calls given begins =
    let h = e.running in
    let own = labels_in a.body ++ [] in
    let named : is_jumped_to program m.called a.head.level a.head.number ≡ true → Includes (labels_in a.body) own =
    λ jumped. own_included a.body in
    let enough = h.enough in
    let φ = h.free.layer in
    let φs = h.free.below in
    let words = e.words in
    let waiting = h.waiting in
    record {
      begun = h.begun;
      acts = few;
      turns = omega (arith, enough);
      held = h.held.all;
      raises = raises_of once m input acts valued more a blocks few h;
      variables = h.variables;
      arrays = λ may. h.arrays;
      narrows = λ may. h.narrows;
      parameters = h.parameters;
      codes = λ may. absurd (cc may);
      calls = calls a.layers a.texts own h lands named;
      based = λ may.
          based_known m input acts valued more a blocks few e (unraised_of once m input acts valued more a blocks few h)
          may;
      jumps = jumps_known m input acts valued more a blocks few h lands own;
      begins = begins a.layers h lands;
      texts = λ may. texts_of once m input acts valued more a blocks few a.layers h lands calls;
      signals = signals_of once m input acts valued more a blocks few h;
      puts = λ may. puts_of once m input acts valued more a blocks few e;
      reads = λ may. reads_of once m input acts valued more a blocks few h;
      loops = λ may. record {
        layer = φ;
        others = φs;
        newest = h.free.newest;
        few = omega (arith, words, waiting);
        behind = 0;
        free = λ n behind. ap (λ (ψ : Layer). ψ.waits n) (sym e.clear);
        raises = λ waits.
            raises_of once m input acts valued more (told_run a waits φ φs) blocks few (told_running h waits);
        calls = λ waits.
            calls (λ ls. with_waits waits φ ∷ φs) a.texts own (told_running h waits)
            (told_landings waits φ φs h.free.newest lands) named;
        given = given;
        jumps = λ waits.
            jumps_known m input acts valued more (told_run a waits φ φs) blocks few (told_running h waits)
            (told_landings waits φ φs h.free.newest lands) own;
        begins = λ waits.
            begins (λ ls. with_waits waits φ ∷ φs) (told_running h waits)
            (told_landings waits φ φs h.free.newest lands);
        texts = λ waits may.
            texts_of once m input acts valued more a blocks few (λ ls. with_waits waits φ ∷ φs)
            (told_running h waits) (told_landings waits φ φs h.free.newest lands) calls;
        signals = λ waits.
            signals_of once m input acts valued more (told_run a waits φ φs) blocks few (told_running h waits);
        reached = λ waits may words' less labels line includes.
            told_reached m input acts valued more a blocks e (unraised_of once m input acts valued more a blocks few h)
            waits words' labels line;
        puts = λ waits may.
            told_puts once m input acts valued more (told_run a waits φ φs) blocks few (told_running h waits);
        reads = λ waits may.
            reads_of once m input acts valued more (told_run a waits φ φs) blocks few (told_running h waits);
      };
      room = omega arith;
      home = λ may. record {
        level = refl;
        own = h.level;
        block = h.own;
        returns = λ e. returns_by m input acts valued more a blocks h h.home e;
        values = λ may' e. values_by m input acts valued more a blocks h h.home may' e;
      };
    }

-- its frame has the words that its loops set aside
frame_left :
    (once : MarkedOnce) {program : Y.Program} (m : Main program) (input : List ℕ) (acts : ℕ) (valued : Bool) (more : ℕ)
    (a : Running) (blocks : ℕ) (few : acts + 1 < 2 ^ 64) (e : IsEntered m input acts valued more a blocks)
    (lands : HasLandings m a) (calls : EachCall m input acts valued more a blocks)
    (given : EachGiven m input acts valued more a e.running.free.layer e.running.free.below)
    (begins : EachBegin m input acts valued more a blocks) →
    Left.HasFrame (ready once m input acts valued more a blocks few e lands calls given begins) 0 (statements_set
    a.body)
unfolding ready
frame_left once m input acts valued more a blocks few e lands calls given begins may =
    let words = e.words in
    (omega arith, omega (arith, words))

body_each :
    MarkedOnce → {program : Y.Program} (m : Main program) (input : List ℕ) (acts : ℕ) (valued : Bool) (more : ℕ)
    (a : Running) (blocks : ℕ) → acts + 1 < 2 ^ 64 → (e : IsEntered m input acts valued more a blocks) →
    HasLandings m a → EachCall m input acts valued more a blocks →
    EachGiven m input acts valued more a e.running.free.layer e.running.free.below →
    EachBegin m input acts valued more a blocks →
    EachDoes (block_of_run program input acts valued more a) (labels_in a.body ++ []) a.body a.index left_over
body_each once {program} m input acts valued more a blocks few e lands calls given begins =
    let h = e.running in
    let s = scope_of program m.called a.head a.body in
    body_does s valued (block_of_run program input acts valued more a) a.body a.index
    (most_for program) left_over (ready once m input acts valued more a blocks few e lands calls given begins)
    h.statements
    h.held.own h.held.begins
    (frame_left once m input acts valued more a blocks few e lands calls given begins) h.placed

-- ---- calls, if the statements of blocks that may be entered one level less deep do what they mean

-- the frame of what is called has room
frame_fits :
    {program : Y.Program} (m : Main program) (input : List ℕ) (acts : ℕ) (valued : Bool) (more b : ℕ) (a : Running) →
    IsRunning m input acts valued (suc more) a (suc b) → {v : Bool} {level number : ℕ}
    (i : Inner m a.head [] v level number) (call : ℕ) →
    HasFrame (block_of_run program input acts valued (suc more) a)
    (callee_in i more (block_of_run program input acts valued (suc more) a) call)
frame_fits {program} m input acts valued more b a h {v} i call =
    let words = inner_set m i in
    let waiting = i.waiting in
    let level = (known program i.head i.body i.result m.loadable.well_formed i.is).level in
    let fits = h.free.fits in
    let used = h.free.used in
    let top = ap (λ ls. upper_top image_parts ls) h.free.newest in
    let low = ap (λ ls. lower_end image_parts ls) h.free.newest in
    omega (arith, words, waiting, level, fits, used, top, low)

past : (used : ℕ) → nat_le used most_automatic ≡ false → most_automatic < used
past used e = grind (arith, e, nat_tests)

call_by :
    MarkedOnce → {program : Y.Program} (m : Main program) (input : List ℕ) (acts : ℕ) (valued : Bool) (more b : ℕ)
    (a : Running) → acts + 1 < 2 ^ 64 → IsRunning m input acts valued (suc more) a (suc b) → HasLandings m a →
    EachBody m input acts more → (words : ℕ) → words ≤ most_set → (labels : List Label) →
    (is_jumped_to program m.called a.head.level a.head.number ≡ true → Includes (labels_in a.body) labels) →
    (level number line index : ℕ) → Inner m a.head [] false level number → line < 2 ^ 31 →
    Linked (links_for program) (linked_code (code_for program)) index
    (stmt_code (environment_of_run program a) (set_aside words) (call_statement level number line)) →
    DoesWith words (block_of_run program input acts valued (suc more) a) labels (call_statement level number line) index
    left_over
call_by once {program} m input acts valued more b a few h lands each words set labels named level number line index i
    less l =
    let k = block_of_run program input acts valued (suc more) a in
    let used = automatic_in_use k.first.state.living + bytes_of (variables_of_block program i.head.number) in
    let one = act_code line in
    let given' = given_in words k level in
    let c0 = callee_in i more k 0 in
    let last = call_of c0 in
    let l0 = subst (λ n. Linked (links_for program) (linked_code (code_for program)) index
    (stmt_code (environment_of_run program a) (set_aside words) (call_statement level n line))) (sym i.numbered) l in
    let eq = call_coded words k c0 level line in
    let l' = subst (Linked (links_for program) (linked_code (code_for program)) index) eq l0 in
    let size = ap (λ u. size_of u) eq in
    let n0 = size_append one (given' ++ last) in
    let n1 = size_append given' last in
    let call = index + size_of one + size_of given' in
    let c = callee_in i more k call in
    let is : IsNestedCall words k c level line index more = record {
      low = omega (arith, set);
      line_fits = less;
      callee = callee_stands once program i.head i.body (run_for program input acts)
          (site_in i more k call) m.loadable (returns_so i)
          (back_of given' last (back_of one (given' ++ last) l')) few;
      frame = frame_fits m input acts valued more b a h i call;
      idle = h.idle;
      statement = l0;
      call = omega (arith, size, n0, n1);
      nested = h.nested;
      around_it = i.around_it;
      inner = i.inside;
      parent = refl;
      found = returns_so i;
      enter = refl;
      around = refl;
      enough = h.enough;
    } in
    subst (λ n. DoesWith words k labels (call_statement level n line) index left_over) i.numbered
    (by_decision (nat_lt (length k.first.state.activations) most_activations)
    (λ shallow.
    by_decision (nat_le used most_automatic)
    (λ e.
    let pass = leb-true used most_automatic e in
    let os = as_outer k labels ∷ a.form.outers in
    nested_jump_call_does words k labels c level line index left_over more is shallow
    (λ p numbers o. are_made m (record { running = h; among = o }) i call pass)
    (λ p numbers o list'.
    let r = entered_at i k call p numbers in
    let at : Moment m input acts valued (suc more) a (suc b) p numbers = record { running = h; among = o } in
    let bare = alone (block_of_run program input acts false more r) os list'.begun in
    each_list (block_in k labels c p numbers) i.body (body_index c) left_over list' is.callee.labels
    (each false (with_outers os r) b (entered_leaving r os (entered once m at i call pass shallow bare) list'.begun)
    (called_landings m at lands labels named i call pass bare))) h.begun)
    (λ e.
    full_call_ends words k c level line index left_over more is shallow
    (λ p numbers o. are_full m (record { running = h; among = o }) i call few (past used e)) h.begun labels))
    (λ deep. deep_call_ends words k c level line index left_over more is deep h.begun labels))

value_by :
    MarkedOnce → {program : Y.Program} (m : Main program) (input : List ℕ) (acts : ℕ) (valued : Bool) (more b : ℕ)
    (a : Running) → acts + 1 < 2 ^ 64 → IsRunning m input acts valued (suc more) a (suc b) → HasLandings m a →
    EachBody m input acts more → (words : ℕ) → words ≤ most_set → (labels : List Label) →
    (is_jumped_to program m.called a.head.level a.head.number ≡ true → Includes (labels_in a.body) labels) →
    (line level number : ℕ) → Inner m a.head [] true level number →
    L.Does (setting_around words (block_of_run program input acts valued (suc more) a) labels line (most_for program)) 0
    (call_number level number)
value_by once {program} m input acts valued more b a few h lands each words set labels named line level number i =
    let k = block_of_run program input acts valued (suc more) a in
    let z = setting_around words k labels line (most_for program) in
    let used = automatic_in_use k.first.state.living + bytes_of (variables_of_block program i.head.number) in
    let c = callee_in i more k 0 in
    let inside = i.inside in
    let stands = function_stands once program i.head i.body (precision_of i) (run_for program input acts)
    (site_in i more k 0) m.loadable (returns_so i) (omega (arith, inside)) few in
    let within = stands.stands.inside in
    let low = entry_low (program_environment program) i.head.number program.procedures (procedures_index program) in
    let is : IsNestedFunction z c level more = record {
      begun = h.begun;
      function = stands;
      frame = frame_fits m input acts valued more b a h i 0;
      idle = h.idle;
      nested = h.nested;
      around_it = i.around_it;
      inner = i.inside;
      parent = refl;
      type = Y.FixedLeaf (precision_of i);
      found = returns_so i;
      enter = refl;
      around = refl;
      enough = h.enough;
      most = omega (arith, within, low);
      words = omega (arith, set);
    } in
    subst (λ n. L.Does z 0 (call_number level n)) i.numbered
    (by_decision (nat_lt (length k.first.state.activations) most_activations)
    (λ shallow.
    by_decision (nat_le used most_automatic)
    (λ e.
    let pass = leb-true used most_automatic e in
    let os = as_outer k labels ∷ a.form.outers in
    nested_jump_function_does z c level more is shallow
    (λ call p numbers o. are_made m (record { running = h; among = o }) i call pass)
    (λ call p numbers o list'.
    let r = entered_at i k call p numbers in
    let at : Moment m input acts valued (suc more) a (suc b) p numbers = record { running = h; among = o } in
    let bare = alone (block_of_run program input acts true more r) os list'.begun in
    let inner = function_in z (called_from c call) p numbers in
    let body = body_for program i.head i.body in
    each_ends inner i.body body list'
    (are_marked (links_for program) (linked_code (code_for program)) body (environment_for program i.head) i.body
    (body_placed once program i.head i.body i.result m.loadable i.is))
    (each true (with_outers os r) b (entered_leaving r os (entered once m at i call pass shallow bare) list'.begun)
    (called_landings m at lands labels named i call pass bare))
    (system_ends inner i.body body [] list' (unraised_there m at i call C.Error))))
    (λ e.
    full_function_ends z c level more is shallow
    (λ call p numbers o. are_full m (record { running = h; among = o }) i call few (past used e))))
    (λ deep. deep_function_ends z c level more is deep))

-- ---- as deep as they go

knows_calls :
    MarkedOnce → {program : Y.Program} (m : Main program) (input : List ℕ) (acts : ℕ) (valued : Bool)
    (more blocks : ℕ) (a : Running) → acts + 1 < 2 ^ 64 → IsRunning m input acts valued (suc more) a blocks →
    HasLandings m a → EachBody m input acts more → (own : List Label) →
    (is_jumped_to program m.called a.head.level a.head.number ≡ true → Includes (labels_in a.body) own) →
    KnowsCalls (scope_of program m.called a.head a.body) (block_of_run program input acts valued (suc more) a)
    own (most_for program) left_over
knows_calls once m input acts valued more zero a few h lands each own named =
    let some = h.depth.some in absurd (omega (arith, some))
knows_calls once m input acts valued more (suc b) a few h lands each own named =
    record {
      functions = λ words set labels line level n includes f.
          value_by once m input acts valued more b a few h lands each words set.0 labels
          (λ jumped label among. includes label (named jumped label among)) line level n
          (inner_none m a.head true level n f);
      procedures = λ words set labels level n line index includes f less l.
          call_by once m input acts valued more b a few h lands each words set.0 labels
          (λ jumped label among. includes label (named jumped label among)) level n line index
          (inner_none m a.head false level n f) less l;
    }

pub each_body :
    MarkedOnce → {program : Y.Program} (m : Main program) (input : List ℕ) (acts : ℕ) → acts + 1 < 2 ^ 64 →
    (more : ℕ) → EachBody m input acts more
each_body once m input acts few zero valued a blocks h lands =
    let enough = h.running.enough in
    let allowed = h.running.begun.resumes.stands.allowed in
    absurd (omega (arith, enough, allowed))
each_body once m input acts few (suc more) valued a blocks h lands =
    body_each once m input acts valued (suc more) a blocks few h lands
    (λ layers texts own is there named.
    knows_calls once m input acts valued more blocks (record a { layers = layers; texts = texts })
    few is there (each_body once m input acts few more) own named)
    (knows_given once m input acts valued more blocks a few h lands (each_body once m input acts few more))
    (λ layers is there.
    knows_begins m input acts valued more blocks (record a { layers = layers }) few is there
    (each_body once m input acts few more) (labels_in a.body ++ []) (λ jumped. own_included a.body))
