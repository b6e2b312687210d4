-- A block of the class that is called with a list of arguments: its variables are made, and what is known there.
use Rattle.std.proofs.Common.{◌≡◌, ◌⊎◌, inl, inr, ℕ, suc, ◌+◌, ◌^◌, ◌<◌, ◌≤◌, List, [], ◌∷◌, length, Some}
use Rattle.std.proofs.Common.{Bool, true, false, refl, sym, ap, ◌∙◌, subst, arith}
use Rattle.std.specs.Prelude.{◌||◌, ◌==◌, nat_lt, slice_get, if◌then◌else◌}
use Rattle.std.specs.List.{list_any}
use Rattle.std.proofs.lemmas.Bool.{and_from, and_parts, eqb-true, ltb-true}
use Rattle.pli_language.specs.declared.condition.Condition.{Condition}
use Rattle.pli_typing.specs.TypedTree as Y
use Rattle.pli_meaning.specs.DeclaredShapes.{declared_variable, variables_of_block}
use Rattle.pli_meaning.specs.StorageState.{Activation, automatic_in_use, force, most_activations}
use Rattle.pli_meaning.specs.World.{World}
use Rattle.pli_coding.specs.Environments.{Environment}
use Rattle.pli_coding.specs.Frames.{parameters_in, parameters_of_block, automatic_place, fixed_size, variable_place}
use Rattle.pli_coding.specs.Locating.{place_among, table_number}
use Rattle.code_marks.specs.CodeMarks.{MarkedOnce}
use Rattle.activation_relation.specs.FrameLaws.{with_waits}
use Rattle.activation_relation.specs.Landing.{is_begin}
use Rattle.activation_relation.specs.Layers.{Layer, Point}
use Rattle.activation_relation.specs.ServiceLaws.{IsSystem}
use Rattle.program_places.specs.Programs.{environment_for}
use Rattle.program_places.proofs.Blocks.{own_block}
use Rattle.program_places.proofs.Found.{known}
use Rattle.program_runs.specs.Procedures.{IsCoded}
use Rattle.program_runs.specs.Statements.{Block, IsAmong, IsBegun}
use Rattle.program_runs.proofs.Constants.{constants_among, constants_begun}
use Rattle.program_runs.specs.Starts.{image_parts}
use Rattle.program_runs.specs.Variables.{Declared}
use Rattle.expression_runs.specs.Variables.{IsNumber, Spot, variable_of, number_declared}
use Rattle.array_runs.specs.Arrays.{Grid, IsArray}
use Rattle.scalar_runs.specs.Scalars.{IsScalar}
use Rattle.argument_runs.specs.Parameters.{parameter_declared, parameter_of}
use Rattle.array_runs.proofs.Outer.{outer_array}
use Rattle.list_calls.specs.Arguments.{ComeTo}
use Rattle.list_calls.specs.ListCalls.{Listed}
use Rattle.list_calls.specs.ListKnown.{AreStored, Begins}
use Rattle.list_calls.specs.Lists.{Parameter, Passing}
use Rattle.list_calls.specs.Taking.{AreBeside, listed_layer}
use Rattle.list_calls.proofs.ListBlocks.{layer_is}
use Rattle.list_calls.proofs.ListKnown.{list_nested, list_number, list_parameter, list_variable}
use Rattle.number_runs.specs.Arrays.{grid_if, is_array_if, is_array}
use Rattle.number_runs.specs.Based.{is_pointer}
use Rattle.number_runs.specs.Narrow.{is_narrow_if, type_if, is_narrow}
use Rattle.number_runs.specs.Numbers.{is_array_known, is_known, is_place, is_narrow_known}
use Rattle.number_runs.specs.Numbers.{is_plain_if, is_received, is_plain}
use Rattle.number_runs.specs.Variables.{is_declared}
use Rattle.number_runs.proofs.Narrow.{outer_narrow}
use Rattle.number_headlines.specs.Programs.{places_to, scope_of, beside_received, received_in}
use Rattle.number_headlines.proofs.Around.{received_parts, received_there}
use Rattle.parameter_runs.specs.Around.{IsParameterAround}
use Rattle.parameter_runs.proofs.Inner.{list_around, own_around}
use Rattle.number_headlines.proofs.Entered.{stands_at}
use Rattle.number_headlines.proofs.CalledBlocks.{inner_set}
use Rattle.number_headlines.proofs.Inner.{Inner, precision_of}
use Rattle.number_headlines.proofs.ListPlaces.{has_parameters, parameter_found, parameters_at, taking_body_placed}
use Rattle.number_headlines.proofs.ListPlaces.{taking_ends}
use Rattle.number_headlines.proofs.Mains.{Main, surroundings_for, made_system}
use Rattle.number_headlines.proofs.Pointers.{none_holding, none_pointing}
use Rattle.number_headlines.proofs.Running.{IsEntered, IsRunning, Running, block_of_run, free_among, function_by}
use Rattle.number_headlines.proofs.Running.{called_held, table_later}
use Rattle.variable_runs.specs.Known.{IsKnown}
use Rattle.variable_runs.proofs.Known.{known_number}
use Rattle.variable_runs.specs.Lists.{Among, all_made, first_all, layer_after, newest_all}
use Rattle.list_calls.proofs.WordsBeside.{words_beside}
use Rattle.list_calls.proofs.WordsKnown.{beside_known}
use Rattle.list_calls.specs.Passed.{IsTelling}
use Rattle.list_calls.specs.WordsBeside.{IsOwnBeside}
use Rattle.list_calls.proofs.Telling.{beside_telling, inner_list_telling}
use Rattle.number_runs.proofs.Words.{array_known, bytes_before, found, found_array, found_narrow, narrow_known}
use Rattle.number_runs.proofs.Words.{places_are, word_made, words_among}
use Rattle.number_headlines.proofs.ListMade.{AllFit, Arrived, all_beside, all_passed, call_at, layer_at, made_account}
use Rattle.number_headlines.proofs.ListMade.{others_at, point_at, words_room}
use Rattle.number_headlines.proofs.ListSites.{CopiesFit, IsSite, Site', bound_at, listed_at, listed_declared}
use Rattle.number_headlines.proofs.ListSites.{listed_in, own_of, parameters_for, received_by, words_for}
use Rattle.number_headlines.proofs.ListWords.{behind_here, found_behind, place_behind, word_inside}
use Rattle.number_headlines.proofs.Loops.{after_waits, after_words}
use Rattle.number_headlines.proofs.Telling.{serial_given, serials_small}

-- ---- its variables

pub listed_beside :
    {program : Y.Program} (m : Main program) {input : List ℕ} {acts : ℕ} {valued : Bool} {more b : ℕ} {a : Running}
    {ns : List ℕ} {v : Bool} {level number : ℕ} (o : Arrived m input acts valued more b a ns v level number) →
    AllFit program (block_of_run program input acts valued (suc more) a) o.inner.head o.site.ways →
    AreBeside (function_by v) (call_at o) (newest_all image_parts (words_for o.inner))
listed_beside {program} m {v = v} o all =
    words_beside (function_by v) (call_at o) (received_in (variables_of_block program o.inner.head.number))
    (words_for o.inner) (all_beside m o all)

-- the point where they have been made, by the newest layer
pub words_here :
    {program : Y.Program} {m : Main program} {input : List ℕ} {acts : ℕ} {valued : Bool} {more b : ℕ} {a : Running}
    {ns : List ℕ} {v : Bool} {level number : ℕ} (o : Arrived m input acts valued more b a ns v level number) →
    newest_all image_parts (words_for o.inner) (point_at o)
    ≡ all_made image_parts (layer_at o) (words_for o.inner) (point_at o)
words_here {program} {input = input} {acts = acts} {valued = valued} {more = more} {a = a} o =
    let k = block_of_run program input acts valued (suc more) a in
    let bound = bound_at o.inner more k o.site o.point o.numbers o.passed (all_passed o) in
    ap (λ ls. first_all image_parts (words_for o.inner) ls (point_at o)) bound.layers

-- no unit is in force there
pub system_there :
    {program : Y.Program} {m : Main program} {input : List ℕ} {acts : ℕ} {valued : Bool} {more b : ℕ} {a : Running}
    {ns : List ℕ} {v : Bool} {level number : ℕ} (o : Arrived m input acts valued more b a ns v level number)
    (c : Condition) →
    IsSystem (force (newest_all image_parts (words_for o.inner) (point_at o)).state.activations c)
system_there {program} {input = input} {acts = acts} {valued = valued} {more = more} {a = a} o c =
    let k = block_of_run program input acts valued (suc more) a in
    let bound = bound_at o.inner more k o.site o.point o.numbers o.passed (all_passed o) in
    subst (λ (u : Point). IsSystem (force u.state.activations c)) (sym (words_here o))
    (made_system image_parts (layer_at o) (words_for o.inner) (point_at o) c
    (subst (λ as'. IsSystem (force as' c)) (sym bound.activations)
    (subst (λ as'. IsSystem (force as' c)) (sym o.among.later.activations) (o.caller.unraised c))))

-- ---- what is known in its block

-- where it was called from, once it has begun
pub record Given {program : Y.Program} (m : Main program) (input : List ℕ) (acts : ℕ) (valued : Bool) (more b : ℕ)
    (a : Running) (ns : List ℕ) (v : Bool) (level number : ℕ) : Type 0 where
  pub caller : IsRunning m input acts valued (suc more) a (suc b)
  pub inner : Inner m a.head ns v level number
  pub site : Site'
  pub is : IsSite (block_of_run program input acts valued (suc more) a) ns site
  pub shallow :
      nat_lt (length (block_of_run program input acts valued (suc more) a).first.state.activations) most_activations
      ≡ true
  pub fits : CopiesFit (block_of_run program input acts valued (suc more) a) site.ways
  pub all : AllFit program (block_of_run program input acts valued (suc more) a) inner.head site.ways
  pub stored : AreStored (block_of_run program input acts valued (suc more) a).first site.ways
  pub point : Point
  pub numbers : ℕ → ℕ
  pub passed : List Passing
  pub among : IsAmong (block_of_run program input acts valued (suc more) a) numbers point
  pub come : ComeTo site.ways passed
  pub coded :
      IsCoded (listed_in inner more (block_of_run program input acts valued (suc more) a) site).callee.procedure
      (listed_in inner more (block_of_run program input acts valued (suc more) a) site).callee.calling
  pub begun :
      IsBegun (block_of_run program input acts v more
      (listed_at inner more (block_of_run program input acts valued (suc more) a) site point numbers passed))

abbrev pub calls_from :
    {program : Y.Program} → {m : Main program} → {input : List ℕ} → {acts : ℕ} → {valued : Bool} → {more b : ℕ} →
    {a : Running} → {ns : List ℕ} → {v : Bool} → {level number : ℕ} → Given m input acts valued more b a ns v level
    number → Block
calls_from {program} {input = input} {acts = acts} {valued = valued} {more = more} {a = a} o =
    block_of_run program input acts valued (suc more) a

abbrev pub call_of :
    {program : Y.Program} → {m : Main program} → {input : List ℕ} → {acts : ℕ} → {valued : Bool} → {more b : ℕ} →
    {a : Running} → {ns : List ℕ} → {v : Bool} → {level number : ℕ} → Given m input acts valued more b a ns v level
    number → Listed
call_of {more = more} o = listed_in o.inner more (calls_from o) o.site

abbrev pub run_given :
    {program : Y.Program} → {m : Main program} → {input : List ℕ} → {acts : ℕ} → {valued : Bool} → {more b : ℕ} →
    {a : Running} → {ns : List ℕ} → {v : Bool} → {level number : ℕ} → Given m input acts valued more b a ns v level
    number → Running
run_given {more = more} o = listed_at o.inner more (calls_from o) o.site o.point o.numbers o.passed

-- as it came there
abbrev pub arrived_of :
    {program : Y.Program} → {m : Main program} → {input : List ℕ} → {acts : ℕ} → {valued : Bool} → {more b : ℕ} →
    {a : Running} → {ns : List ℕ} → {v : Bool} → {level number : ℕ} → Given m input acts valued more b a ns v level
    number → Arrived m input acts valued more b a ns v level number
arrived_of o =
    record {
      caller = o.caller;
      inner = o.inner;
      site = o.site;
      is = o.is;
      fits = o.fits;
      point = o.point;
      numbers = o.numbers;
      passed = o.passed;
      among = o.among;
      come = o.come;
    }

pub begins :
    {program : Y.Program} (m : Main program) {input : List ℕ} {acts : ℕ} {valued : Bool} {more b : ℕ} {a : Running}
    {ns : List ℕ} {v : Bool} {level number : ℕ} (o : Given m input acts valued more b a ns v level number) →
    Begins (function_by v) (calls_from o) (call_of o) more o.point o.numbers o.passed
begins {program} m {ns = ns} {v = v} o =
    let i = o.inner in
    let level = (known program i.head i.body i.result m.loadable.well_formed i.is).level in
    record {
      declared = listed_declared m o.caller i o.site o.is;
      coded = o.coded;
      parameters = has_parameters program i.head (call_of o).callee ns refl refl (own_of i o.is.some);
      inner = record { code = refl; few = omega (arith, level); program = refl; parts = refl };
      among = o.among;
      come = o.come;
      beside = listed_beside m (arrived_of o) o.all;
      begun = o.begun;
    }

-- ---- its own variables

-- each stands in its frame
abbrev own_word_of :
    {program : Y.Program} → {m : Main program} → {input : List ℕ} → {acts : ℕ} → {valued : Bool} → {more b : ℕ} →
    {a : Running} → {ns : List ℕ} → {v : Bool} → {level number : ℕ} → Given m input acts valued more b a ns v level
    number → (x : Spot) → (d : Y.DeclaredVariable) → (place : ℕ) → Declared
own_word_of {program} {ns = ns} o x d place =
    let ds = variables_of_block program o.inner.head.number in
    word_made (environment_for program o.inner.head)
    (fixed_size o.inner.head.level (length ns) + bytes_before (beside_received ds) place) (received_in ds + place) d

record HasPlace {program : Y.Program} {m : Main program} {input : List ℕ} {acts : ℕ} {valued : Bool} {more b : ℕ}
    {a : Running} {ns : List ℕ} {v : Bool} {level number : ℕ} (o : Given m input acts valued more b a ns v level number)
    (x : Spot) (d : Y.DeclaredVariable) : Type 0 where
  place : ℕ
  own : IsOwnBeside (call_of o).callee (own_word_of o x d place) x
  among : Among (own_word_of o x d place) (words_for o.inner)

own_place :
    {program : Y.Program} (m : Main program) {input : List ℕ} {acts : ℕ} {valued : Bool} {more b : ℕ} {a : Running}
    {ns : List ℕ} {v : Bool} {level number : ℕ} (o : Given m input acts valued more b a ns v level number) (x : Spot)
    (d : Y.DeclaredVariable) → (x.block ≡ o.inner.head.number) × (x.level ≡ o.inner.head.level) →
    declared_variable program (variable_of x) ≡ Some d → is_declared d ≡ true → HasPlace o x d
own_place {program} m {ns = ns} {v = v} o x d here is one =
    let i = o.inner in
    let arrived = arrived_of o in
    let e = environment_for program i.head in
    let ds = variables_of_block program i.head.number in
    let first = received_in ds in
    let es = beside_received ds in
    let behind = behind_here ds in
    let own = own_of i o.is.some in
    let place = fixed_size i.head.level (length ns) in
    let there = ap (λ n. slice_get (variables_of_block program n) x.index) (sym here.0) ∙ is in
    let f = found_behind first ds es x.index d behind one there in
    let counted = (words_room m arrived o.all).counted in
    let at = places_are e.parts place es own.beside counted in
    let start : fixed_size e.level (length (parameters_of_block e.program e.block)) ≡ place =
    ap (λ (us : List ℕ). fixed_size e.level (length us)) (ap parameters_in i.is) in
    record {
      place = f.place;
      own = record {
        declared = is;
        index = f.at;
        level = here.1;
        own = refl;
        place =
            ap (λ n. automatic_place e.parts e.program n x.level x.index) here.0
            ∙ ap (λ n. automatic_place e.parts e.program e.block n x.index) here.1
            ∙ ap (λ n. automatic_place e.parts e.program e.block e.level n) f.at
            ∙ ap (λ n. variable_place e.parts n ds (first + f.place)) start
            ∙ place_behind e.parts place first ds es f.place behind (omega (arith, counted))
            ∙ at f.place (word_inside es f.place d f.there);
      };
      among = words_among e place first f.place es d f.there;
    }

own_known :
    {program : Y.Program} (m : Main program) {input : List ℕ} {acts : ℕ} {valued : Bool} {more b : ℕ} {a : Running}
    {ns : List ℕ} {v : Bool} {level number : ℕ} (o : Given m input acts valued more b a ns v level number) (x : Spot)
    (d : Y.DeclaredVariable) → (x.block ≡ o.inner.head.number) × (x.level ≡ o.inner.head.level) →
    declared_variable program (variable_of x) ≡ Some d → is_declared d ≡ true →
    IsKnown (block_of_run program input acts v more (run_given o)) x d
own_known {program} m {v = v} o x d here is one =
    let arrived = arrived_of o in
    let p = own_place m o x d here is one in
    beside_known (function_by v) (call_at arrived) (received_in (variables_of_block program o.inner.head.number))
    (words_for o.inner) (own_word_of o x d p.place) x (record { high = omega arith; inside = omega arith })
    (all_beside m arrived o.all) p.among p.own o.begun

either : (q r : Bool) → r ≡ true → (q || r) ≡ true
either true r h = refl
either false r h = h

array_declared_so : (d : Y.DeclaredVariable) → is_array d ≡ true → is_declared d ≡ true
array_declared_so d h =
    let rest = is_narrow d || is_pointer d in either (is_plain d) (is_array d || rest) (ap (λ q. q || rest) h)

narrow_declared_so : (d : Y.DeclaredVariable) → is_narrow d ≡ true → is_declared d ≡ true
narrow_declared_so d h =
    let rest = is_narrow d || is_pointer d in
    either (is_plain d) (is_array d || rest) (either (is_array d) rest (ap (λ q. q || is_pointer d) h))

given_numbers :
    {program : Y.Program} (m : Main program) {input : List ℕ} {acts : ℕ} {valued : Bool} {more b : ℕ} {a : Running}
    {ns : List ℕ} {v : Bool} {level number : ℕ} (o : Given m input acts valued more b a ns v level number) (x : Spot) →
    is_known (scope_of program m.called o.inner.head o.inner.body) x ≡ true →
    IsNumber (block_of_run program input acts v more (run_given o)) x
given_numbers {program} m {input} {acts} {valued} {more} {b} {a} {ns} {v} {level} {number} o x h =
    by (stands_at i x parts.0).at
  where
    i : Inner m a.head ns v level number
    i = o.inner

    plain : Bool
    plain = is_plain_if (declared_variable program (variable_of x))

    around' : Bool
    around' = list_any (is_place x) (places_to (environment_for program a.head) a.head.level)

    parts :
        (list_any (is_place x) (places_to (environment_for program i.head) i.head.level) ≡ true) × (plain ≡ true)
    parts = and_parts (list_any (is_place x) (places_to (environment_for program i.head) i.head.level)) plain h

    by :
        ((x.level ≤ level) × (around' ≡ true)) ⊎ ((x.block ≡ i.head.number) × (x.level ≡ i.head.level)) →
        IsNumber (block_of_run program input acts v more (run_given o)) x
    by (inl low) =
        list_number (function_by v) (calls_from o) (call_of o) more o.point o.numbers o.passed x (begins m o) low.0
        (o.caller.variables x (and_from around' plain low.1 parts.1))
    by (inr own) =
        let there = found (declared_variable program (variable_of x)) parts.1 in
        let d = number_declared there.initial in
        known_number (block_of_run program input acts v more (run_given o)) x there.initial
        (own_known m o x d own there.is
        (ap (λ q. q || (is_array d || (is_narrow d || is_pointer d))) there.plain))

-- its name is told, of a frame around or of its own
given_named :
    {program : Y.Program} (m : Main program) {input : List ℕ} {acts : ℕ} {valued : Bool} {more b : ℕ} {a : Running}
    {ns : List ℕ} {v : Bool} {level number : ℕ} (o : Given m input acts valued more b a ns v level number) (x : Spot) →
    is_known (scope_of program m.called o.inner.head o.inner.body) x ≡ true →
    (block_of_run program input acts v more (run_given o)).first.state.serials < 2 ^ 64 →
    IsTelling (block_of_run program input acts v more (run_given o)) x
given_named {program} m {input} {acts} {valued} {more} {b} {a} {ns} {v} {level} {number} o x h small =
    by (stands_at i x parts.0).at
  where
    i : Inner m a.head ns v level number
    i = o.inner

    plain : Bool
    plain = is_plain_if (declared_variable program (variable_of x))

    around' : Bool
    around' = list_any (is_place x) (places_to (environment_for program a.head) a.head.level)

    parts :
        (list_any (is_place x) (places_to (environment_for program i.head) i.head.level) ≡ true) × (plain ≡ true)
    parts = and_parts (list_any (is_place x) (places_to (environment_for program i.head) i.head.level)) plain h

    few : (is : IsNumber (block_of_run program input acts v more (run_given o)) x) → is.serial < 2 ^ 64
    few is =
        let given = serial_given (block_of_run program input acts v more (run_given o)) x o.begun is in
        omega (arith, given, small)

    by :
        ((x.level ≤ level) × (around' ≡ true)) ⊎ ((x.block ≡ i.head.number) × (x.level ≡ i.head.level)) →
        IsTelling (block_of_run program input acts v more (run_given o)) x
    by (inl low) =
        inner_list_telling (function_by v) (calls_from o) (call_of o) more o.point o.numbers o.passed x (begins m o)
        low.0 (o.caller.named x (and_from around' plain low.1 parts.1))
    by (inr own) =
        let arrived = arrived_of o in
        let there = found (declared_variable program (variable_of x)) parts.1 in
        let d = number_declared there.initial in
        let p = own_place m o x d own there.is
        (ap (λ q. q || (is_array d || (is_narrow d || is_pointer d))) there.plain) in
        let is = given_numbers m o x h in
        beside_telling (function_by v) (call_at arrived) (received_in (variables_of_block program i.head.number))
        (words_for i) (own_word_of o x d p.place) x (all_beside m arrived o.all) p.among p.own is (few is)

given_arrays :
    {program : Y.Program} (m : Main program) {input : List ℕ} {acts : ℕ} {valued : Bool} {more b : ℕ} {a : Running}
    {ns : List ℕ} {v : Bool} {level number : ℕ} (o : Given m input acts valued more b a ns v level number) (x : Spot) →
    is_array_known (scope_of program m.called o.inner.head o.inner.body) x ≡ true →
    IsArray (block_of_run program input acts v more (run_given o)) x
    (grid_if (declared_variable program (variable_of x)))
given_arrays {program} m {input} {acts} {valued} {more} {b} {a} {ns} {v} {level} {number} o x h =
    by (stands_at i x parts.0).at
  where
    i : Inner m a.head ns v level number
    i = o.inner

    array : Bool
    array = is_array_if (declared_variable program (variable_of x))

    around' : Bool
    around' = list_any (is_place x) (places_to (environment_for program a.head) a.head.level)

    bounds : Grid
    bounds = grid_if (declared_variable program (variable_of x))

    parts :
        (list_any (is_place x) (places_to (environment_for program i.head) i.head.level) ≡ true) × (array ≡ true)
    parts = and_parts (list_any (is_place x) (places_to (environment_for program i.head) i.head.level)) array h

    by :
        ((x.level ≤ level) × (around' ≡ true)) ⊎ ((x.block ≡ i.head.number) × (x.level ≡ i.head.level)) →
        IsArray (block_of_run program input acts v more (run_given o)) x bounds
    by (inl low) =
        outer_array (calls_from o) (block_of_run program input acts v more (run_given o)) x bounds
        (λ d known'.
        list_variable (function_by v) (calls_from o) (call_of o) more o.point o.numbers o.passed x d (begins m o) low.0
        known')
        (o.caller.arrays x (and_from around' array low.1 parts.1))
    by (inr own) =
        let f = found_array (declared_variable program (variable_of x)) parts.1 in
        array_known (block_of_run program input acts v more (run_given o)) x
        (declared_variable program (variable_of x)) f
        (own_known m o x f.declared own f.is (array_declared_so f.declared f.array))

given_narrows :
    {program : Y.Program} (m : Main program) {input : List ℕ} {acts : ℕ} {valued : Bool} {more b : ℕ} {a : Running}
    {ns : List ℕ} {v : Bool} {level number : ℕ} (o : Given m input acts valued more b a ns v level number) (x : Spot) →
    is_narrow_known (scope_of program m.called o.inner.head o.inner.body) x ≡ true →
    IsScalar (block_of_run program input acts v more (run_given o)) x
    (type_if (declared_variable program (variable_of x)))
given_narrows {program} m {input} {acts} {valued} {more} {b} {a} {ns} {v} {level} {number} o x h =
    by (stands_at i x parts.0).at
  where
    i : Inner m a.head ns v level number
    i = o.inner

    narrow : Bool
    narrow = is_narrow_if (declared_variable program (variable_of x))

    around' : Bool
    around' = list_any (is_place x) (places_to (environment_for program a.head) a.head.level)

    type : Y.LeafType
    type = type_if (declared_variable program (variable_of x))

    parts :
        (list_any (is_place x) (places_to (environment_for program i.head) i.head.level) ≡ true) × (narrow ≡ true)
    parts = and_parts (list_any (is_place x) (places_to (environment_for program i.head) i.head.level)) narrow h

    by :
        ((x.level ≤ level) × (around' ≡ true)) ⊎ ((x.block ≡ i.head.number) × (x.level ≡ i.head.level)) →
        IsScalar (block_of_run program input acts v more (run_given o)) x type
    by (inl low) =
        outer_narrow (calls_from o) (block_of_run program input acts v more (run_given o)) x type
        (λ d known'.
        list_variable (function_by v) (calls_from o) (call_of o) more o.point o.numbers o.passed x d (begins m o) low.0
        known')
        (o.caller.narrows x (and_from around' narrow low.1 parts.1))
    by (inr own) =
        let f = found_narrow (declared_variable program (variable_of x)) parts.1 in
        narrow_known (block_of_run program input acts v more (run_given o)) x
        (declared_variable program (variable_of x)) f
        (own_known m o x f.declared own f.is (narrow_declared_so f.declared f.narrow))

-- ---- its parameters

-- the place of one among them
place_found :
    (e : Environment) (index : ℕ) (ns : List ℕ) → list_any (λ n. n == index) ns ≡ true →
    slice_get (parameters_at e ns) (place_among index ns)
    ≡ Some (record { index = index; declared = parameter_declared; number = table_number e parameter_declared })
place_found e index [] h = absurd (cc h)
place_found e index (n ∷ ns) h = by (n == index) refl h (λ rest. place_found e index ns rest)
  where
    xs : List Parameter
    xs = parameters_at e (n ∷ ns)

    by :
        (q : Bool) → (n == index) ≡ q → (q || list_any (λ i. i == index) ns) ≡ true →
        (list_any (λ i. i == index) ns ≡ true →
        slice_get (parameters_at e ns) (place_among index ns)
        ≡ Some (record { index = index; declared = parameter_declared; number = table_number e parameter_declared })) →
        slice_get xs (if q then 0 else suc (place_among index ns))
        ≡ Some (record { index = index; declared = parameter_declared; number = table_number e parameter_declared })
    by true e' f rest =
        ap (λ (j : ℕ). let x : Parameter = record {
          index = j;
          declared = parameter_declared;
          number = table_number e parameter_declared;
        } in Some x) (eqb-true n index e')
    by false e' f rest = rest f

given_parameters :
    {program : Y.Program} (m : Main program) {input : List ℕ} {acts : ℕ} {valued : Bool} {more b : ℕ} {a : Running}
    {ns : List ℕ} {v : Bool} {level number : ℕ} (o : Given m input acts valued more b a ns v level number) (x : Spot) →
    is_received (scope_of program m.called o.inner.head o.inner.body) x ≡ true →
    IsParameterAround (block_of_run program input acts v more (run_given o)) x
given_parameters {program} m {input} {acts} {more = more} {a = a} {ns = ns} {v = v} {level = level} {number = number} o
    x h =
    by (stands_at i x (received_parts program m.called i.head i.body x h).0).at
  where
    i : Inner m a.head ns v level number
    i = o.inner

    by :
        ((x.level ≤ level)
        × (list_any (is_place x) (places_to (environment_for program a.head) a.head.level) ≡ true))
        ⊎ ((x.block ≡ i.head.number) × (x.level ≡ i.head.level)) →
        IsParameterAround (block_of_run program input acts v more (run_given o)) x
    by (inl low) =
        list_around (function_by v) (calls_from o) (call_of o) more o.point o.numbers o.passed x (begins m o) low.0
        (o.caller.parameters x (received_there program m.called i.head a.head i.body a.body x low.1 h))
    by (inr own) =
        own_around (block_of_run program input acts v more (run_given o)) x
        (list_parameter (function_by v) (calls_from o) (call_of o) more o.point o.numbers o.passed
        (place_among x.index ns) x (begins m o) (record { shallow = o.shallow; limit = o.fits }) o.stored
        (record {
          parameter = record {
            index = x.index;
            declared = parameter_declared;
            number = table_number (environment_for program i.head) parameter_declared;
          };
          there = place_found (environment_for program i.head) x.index ns
              (subst (λ is. list_any (λ n. n == x.index) is ≡ true)
              (ap (λ n. parameters_of_block program n) own.0 ∙ ap parameters_in i.is) (received_parts program m.called
              i.head i.body x h).1);
          declared = parameter_found (declared_variable program (parameter_of x))
              (received_parts program m.called i.head i.body x h).2;
          numbered = ap (λ n. place_among x.index (parameters_of_block program n)) own.0
              ∙ ap (λ is. place_among x.index is) (ap parameters_in i.is);
          index = refl;
          level = own.1;
          own = refl;
        }))

-- ---- all of it

pub given_entered :
    MarkedOnce → {program : Y.Program} (m : Main program) {input : List ℕ} {acts : ℕ} {valued : Bool} {more b : ℕ}
    {a : Running} {ns : List ℕ} {v : Bool} {level number : ℕ}
    (o : Given m input acts valued more b a ns v level number) → IsEntered m input acts v more (run_given o) b
given_entered once {program} m {input} {acts} {valued} {more} {b} {a} {ns} {v} o =
    let w = surroundings_for program input acts in
    let k = calls_from o in
    let i = o.inner in
    let p = o.point in
    let h = o.caller in
    let arrived = arrived_of o in
    let xs = parameters_for i in
    let ys = o.passed in
    let g = function_by v in
    let made = listed_beside m arrived o.all in
    let account = made_account m arrived o.all in
    let q = point_at arrived in
    let φ = layer_at arrived in
    let serial = q.state.serials + 1 in
    let here = words_here arrived in
    let living = ap (λ (u : Point). automatic_in_use u.state.living) here in
    let same' = layer_is xs ys (listed_layer (call_at arrived)) in
    let inside = i.inside in
    let received = received_by i in
    let level = (known program i.head i.body i.result m.loadable.well_formed i.is).level in
    let f = free_among (suc b) h.begun o.among h.free in
    let fits = account.fits in
    let used = account.used in
    let later = o.among.later.acts in
    let enough = h.enough in
    let at = ap (λ (as' : List Activation). length as') o.among.later.activations in
    let active = ap (λ (as' : List Activation). length as') made.activations in
    let shallow = ltb-true (length k.first.state.activations) most_activations o.shallow in
    let deep = h.depth.all in
    let acts' = ap (λ (u : World). u.acts) made.world in
    let last = layer_after image_parts serial φ (words_for i) in
    let small = serials_small w p _ o.among.few (omega arith) made.few in
    record {
      running = record {
        own = own_block program i.head i.body i.result i.is;
        shallow = omega (arith, level);
        level = sym (ap (λ (ψ : Layer). ψ.level) same');
        held = called_held m v i.head i.body i.statements i.fits i.begins (run_given o) refl refl;
        home = inl (record {
          function = refl;
          kind = ap (λ (ψ : Layer). is_begin ψ.kind) same';
          saved = let saved = ap (λ (ψ : Layer). ψ.saved) same' in omega (arith, saved);
          ends = taking_ends once program i.head i.body xs v (precision_of i) m.loadable received (omega (
            arith,
            inside,
          ));
          owner = refl;
        });
        placed = taking_body_placed once program i.head i.body xs v (precision_of i) m.loadable received (omega (
          arith,
          inside,
        ));
        statements = i.statements;
        fits = i.fits;
        waiting = i.waiting;
        begun = o.begun;
        enough = omega (arith, later, enough, acts');
        nested = list_nested g k (call_of o) more p o.numbers ys (begins m o);
        variables = λ x is. given_numbers m o x is;
        arrays = λ x is. given_arrays m o x is;
        narrows = λ x is. given_narrows m o x is;
        parameters = λ x is. given_parameters m o x is;
        named = λ x is. given_named m o x is small;
        serials = small;
        unraised = λ c. system_there arrived c;
        idle = made.idle;
        told = record {
          code = h.told.code;
          links = h.told.links;
          constants =
              constants_begun (block_of_run program input acts v more (run_given o)) o.begun
              ∙ constants_among k o.numbers p o.among ∙ h.told.constants;
        };
        free = record {
          layer = last;
          below = others_at arrived;
          newest = ap (λ (u : Point). u.control.layers) here ∙ account.newest;
          even = account.even;
          under = account.under;
          low = subst (λ n. n ≤ w.parts.stack_start) (sym o.begun.remains.low) f.low;
          used = omega (arith, used, living);
          fits = omega (arith, fits, living);
        };
        tabled = table_later program o.begun.remains (table_later program o.among.later.remains h.tabled);
        depth = record { some = omega (arith, shallow, deep); all = omega (arith, deep, at, active) };
      };
      words = after_words serial φ (words_for i) ∙ ap (λ (ψ : Layer). ψ.words) same' ∙ inner_set m i;
      clear = ap (λ waits. with_waits waits last)
          (sym (after_waits serial φ (words_for i) ∙ ap (λ (ψ : Layer). ψ.waits) same'));
      pointers = λ x is. absurd (none_pointing program m.called i.head i.body _ x i.inside is);
      areas = λ x is. absurd (none_holding program m.called i.head i.body _ x i.inside is);
    }
