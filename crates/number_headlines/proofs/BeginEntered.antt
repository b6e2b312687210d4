-- A begin block of the class where its first statement begins: what is known in the block around it is known of it.
use Rattle.std.proofs.Common.{◌≡◌, ◌⊎◌, inl, inr, ℕ, suc, ◌+◌, ◌^◌, ◌<◌, ◌≤◌, List, [], ◌∷◌, length, Bool}
use Rattle.std.proofs.Common.{true, false, refl}
use Rattle.std.proofs.Common.{sym, ap, ◌∙◌, subst, arith, Some}
use Rattle.std.specs.Prelude.{◌&&◌, ◌==◌, if◌then◌else◌, nat_le, nat_lt, not}
use Rattle.std.specs.List.{list_any}
use Rattle.std.proofs.lemmas.Bool.{and_from, and_parts, leb-true, ltb-true}
use Rattle.std.proofs.lemmas.Bool.Decides.{nat_tests}
use Rattle.pli_typing.specs.TypedTree as Y
use Rattle.pli_meaning.specs.DeclaredShapes.{declared_variable, variables_of_block}
use Rattle.pli_meaning.specs.Executing as M
use Rattle.pli_meaning.specs.StorageState.{Activation, force, height_of, most_activations}
use Rattle.pli_coding.specs.Environments.{block_around, none_taken}
use Rattle.pli_coding.specs.Frames.{fixed_size, parameters_of_block}
use Rattle.pli_coding.specs.Images.{linked_code}
use Rattle.activation_relation.specs.FrameLaws.{with_waits}
use Rattle.activation_relation.specs.Frames.{lower_end, upper_top}
use Rattle.activation_relation.specs.Layers.{Point}
use Rattle.activation_relation.specs.ServiceLaws.{IsSystem}
use Rattle.program_places.specs.Programs.{code_for, environment_for}
use Rattle.program_places.proofs.Inner.{begin_placed}
use Rattle.program_runs.specs.Starts.{image_parts}
use Rattle.program_runs.specs.Statements.{Block, IsAmong, IsBegun, as_outer}
use Rattle.expression_runs.specs.Variables.{IsNumber, Spot, number_declared, variable_of}
use Rattle.array_runs.specs.Arrays.{IsArray}
use Rattle.array_runs.proofs.Outer.{outer_array}
use Rattle.scalar_runs.specs.Scalars.{IsScalar}
use Rattle.variable_runs.specs.Known.{IsKnown}
use Rattle.variable_runs.specs.Lists.{all_made, layer_after}
use Rattle.variable_runs.proofs.Known.{known_number}
use Rattle.variable_runs.proofs.Lists.{layers_after}
use Rattle.argument_runs.specs.Parameters.{parameter_of}
use Rattle.block_headlines.proofs.Constants.{called_of_program}
use Rattle.list_calls.specs.Passed.{IsTelling}
use Rattle.list_calls.proofs.Telling.{over_telling, tells_each, told_own}
use Rattle.begin_runs.specs.BeginBlocks.{AreMade, begun_in, inner_beginning, inner_layer}
use Rattle.nested_begins.proofs.BegunVariables.{all_begun_in, known_begun_in}
use Rattle.nested_begins.proofs.InnerBlocks.{inner_known, inner_nested, inner_number, inner_over}
use Rattle.nested_begins.proofs.InnerBlocks.{own_parent}
use Rattle.nested_calls.proofs.NestedVariables.{same_ancestor}
use Rattle.number_runs.specs.Arrays.{grid_if, is_array_if}
use Rattle.number_runs.specs.Narrow.{is_narrow_if, type_if}
use Rattle.number_runs.specs.Numbers.{has_none, is_array_known, is_known, is_narrow_known, is_parameter_if, is_place}
use Rattle.number_runs.specs.Numbers.{is_plain_if, is_received}
use Rattle.number_runs.specs.Variables.{words_in}
use Rattle.number_runs.proofs.Narrow.{outer_narrow}
use Rattle.number_runs.proofs.Words.{array_known, found, found_array, found_narrow, narrow_known, room_behind}
use Rattle.number_headlines.specs.Programs.{is_begin_kind, places_to, scope_of}
use Rattle.number_headlines.proofs.Around.{received_parts, received_there}
use Rattle.parameter_runs.specs.Around.{IsParameterAround}
use Rattle.parameter_runs.proofs.Inner.{over_around}
use Rattle.number_headlines.proofs.BeginSites.{Stands, around_it, begin_environment_for, begin_in, is_begin, run_begun}
use Rattle.number_headlines.proofs.BeginSites.{set_in}
use Rattle.number_headlines.proofs.BeginWords.{PassesNone, all_in, begin_room, own_in}
use Rattle.number_headlines.proofs.CalledBlocks.{made_idle}
use Rattle.number_headlines.proofs.FullWords.{words_at, words_count, words_lower}
use Rattle.number_headlines.proofs.Loops.{after_waits, after_words}
use Rattle.number_headlines.proofs.Mains.{Main, made_system, surroundings_for}
use Rattle.number_headlines.proofs.Places.{alike_at, around_is, is_around}
use Rattle.number_headlines.proofs.Pointers.{none_holding, none_pointing}
use Rattle.number_headlines.proofs.Running.{IsBegunForm, IsCalledForm, IsEntered, Running, block_of_run}
use Rattle.number_headlines.proofs.Running.{free_among, table_later}
use Rattle.number_headlines.proofs.Telling.{serial_given, serials_small}

-- ---- at a point of the block around it

pub record At {program : Y.Program} {m : Main program} {input : List ℕ} {acts : ℕ} {valued : Bool} {more b : ℕ}
    {a : Running} (z : Stands m input acts valued more b a) (p : Point) (numbers : ℕ → ℕ) : Type 0
  where
    pub among : IsAmong (around_it z) numbers p
    pub pass : PassesNone z
    pub shallow : nat_lt (length (around_it z).first.state.activations) most_activations ≡ true
    pub begun : IsBegun (block_of_run program input acts valued more (run_begun z p numbers))

abbrev pub made_at :
    {program : Y.Program} → {m : Main program} → {input : List ℕ} → {acts : ℕ} → {valued : Bool} → {more b : ℕ} →
    {a : Running} → {p : Point} → {numbers : ℕ → ℕ} → {z : Stands m input acts valued more b a} → At z p numbers →
    AreMade (around_it z) (begin_in z) z.index p numbers
made_at {program} {a = a} {p = p} {numbers = numbers} {z = z} o =
    all_begun_in (around_it z) (begin_in z) z.index p numbers (words_in (begin_environment_for program a z.head))
    (all_in z p numbers o.among o.pass)

-- ---- what it may name

-- where the block that declares it stands: it is the begin block, or one around it
stands_in :
    {program : Y.Program} {m : Main program} {input : List ℕ} {acts : ℕ} {valued : Bool} {more b : ℕ} {a : Running}
    (z : Stands m input acts valued more b a) (x : Spot) →
    list_any (is_place x) (places_to (environment_for program z.head) z.head.level) ≡ true →
    ((x.level ≤ a.head.level)
    × (list_any (is_place x) (places_to (environment_for program a.head) a.head.level) ≡ true))
    ⊎ ((x.block ≡ z.head.number) × (x.level ≡ z.head.level))
stands_in {program} {a = a} z x h = by (nat_le x.level a.head.level) refl
  where
    there : (x.level ≤ z.head.level) × (x.block ≡ block_around (environment_for program z.head) x.level)
    there = around_is (environment_for program z.head) z.head.level x h

    by :
        (q : Bool) → nat_le x.level a.head.level ≡ q →
        ((x.level ≤ a.head.level)
        × (list_any (is_place x) (places_to (environment_for program a.head) a.head.level) ≡ true))
        ⊎ ((x.block ≡ z.head.number) × (x.level ≡ z.head.level))
    by true e =
        let low = leb-true x.level a.head.level e in
        let same = alike_at (environment_for program a.head) (environment_for program z.head) a.head.level x.level
        z.within.alike low in
        inl (low, is_around (environment_for program a.head) a.head.level x (low, there.1 ∙ sym same))
    by false e =
        let less = there.0 in
        let inside = z.within.level in
        let high : a.head.level < x.level = grind (arith, nat_tests) in
        let same : x.level ≡ z.head.level = omega (arith, less, inside, high) in
        inr (
          there.1 ∙ ap (λ n. block_around (environment_for program z.head) n) same ∙ z.within.own,
          same,
        )

own_known_in :
    {program : Y.Program} {m : Main program} {input : List ℕ} {acts : ℕ} {valued : Bool} {more b : ℕ} {a : Running}
    {p : Point} {numbers : ℕ → ℕ} {z : Stands m input acts valued more b a} (o : At z p numbers) (x : Spot)
    (d : Y.DeclaredVariable) → (x.block ≡ z.head.number) × (x.level ≡ z.head.level) →
    declared_variable program (variable_of x) ≡ Some d →
    IsKnown (block_of_run program input acts valued more (run_begun z p numbers)) x d
own_known_in {program} {a = a} {p = p} {numbers = numbers} {z = z} o x d own is =
    let at = own_in z x d own is in
    known_begun_in (around_it z) z.labels (begin_in z) z.index p numbers
    (words_in (begin_environment_for program a z.head)) _ x
    (record { high = omega arith; inside = omega arith }) (all_in z p numbers o.among o.pass) at.1 at.0 o.begun

outer_known_in :
    {program : Y.Program} {m : Main program} {input : List ℕ} {acts : ℕ} {valued : Bool} {more b : ℕ} {a : Running}
    {p : Point} {numbers : ℕ → ℕ} {z : Stands m input acts valued more b a} (o : At z p numbers) (x : Spot)
    (d : Y.DeclaredVariable) → x.level ≤ a.head.level → IsKnown (around_it z) x d →
    IsKnown (block_of_run program input acts valued more (run_begun z p numbers)) x d
outer_known_in {more = more} {p = p} {numbers = numbers} {z = z} o x d low is =
    inner_known (around_it z) z.labels (begin_in z) z.index more x d (is_begin z o.shallow) z.running.nested low is p
    numbers o.among (made_at o) o.begun

number_in :
    {program : Y.Program} {m : Main program} {input : List ℕ} {acts : ℕ} {valued : Bool} {more b : ℕ} {a : Running}
    {p : Point} {numbers : ℕ → ℕ} {z : Stands m input acts valued more b a} (o : At z p numbers) (x : Spot) →
    is_known (scope_of program m.called z.head z.body) x ≡ true →
    IsNumber (block_of_run program input acts valued more (run_begun z p numbers)) x
number_in {program} {m} {input} {acts} {valued = valued} {more = more} {a = a} {p = p} {numbers = numbers} {z = z} o x
    h =
    by (stands_in z x parts.0)
  where
    plain : Bool
    plain = is_plain_if (declared_variable program (variable_of x))

    parts :
        (list_any (is_place x) (places_to (environment_for program z.head) z.head.level) ≡ true) × (plain ≡ true)
    parts = and_parts (list_any (is_place x) (places_to (environment_for program z.head) z.head.level)) plain h

    by :
        ((x.level ≤ a.head.level)
        × (list_any (is_place x) (places_to (environment_for program a.head) a.head.level) ≡ true))
        ⊎ ((x.block ≡ z.head.number) × (x.level ≡ z.head.level)) →
        IsNumber (block_of_run program input acts valued more (run_begun z p numbers)) x
    by (inl low) =
        inner_number (around_it z) z.labels (begin_in z) z.index more x (is_begin z o.shallow) z.running.nested low.0
        (z.running.variables x
        (and_from (list_any (is_place x) (places_to (environment_for program a.head) a.head.level)) plain low.1
        parts.1)) p numbers o.among (made_at o) o.begun
    by (inr own) =
        let there = found (declared_variable program (variable_of x)) parts.1 in
        known_number (block_of_run program input acts valued more (run_begun z p numbers)) x there.initial
        (own_known_in o x (number_declared there.initial) own there.is)

array_in :
    {program : Y.Program} {m : Main program} {input : List ℕ} {acts : ℕ} {valued : Bool} {more b : ℕ} {a : Running}
    {p : Point} {numbers : ℕ → ℕ} {z : Stands m input acts valued more b a} (o : At z p numbers) (x : Spot) →
    is_array_known (scope_of program m.called z.head z.body) x ≡ true →
    IsArray (block_of_run program input acts valued more (run_begun z p numbers)) x
    (grid_if (declared_variable program (variable_of x)))
array_in {program} {m} {input} {acts} {valued = valued} {more = more} {a = a} {p = p} {numbers = numbers} {z = z} o x h
    =
    by (stands_in z x parts.0)
  where
    array : Bool
    array = is_array_if (declared_variable program (variable_of x))

    parts :
        (list_any (is_place x) (places_to (environment_for program z.head) z.head.level) ≡ true) × (array ≡ true)
    parts = and_parts (list_any (is_place x) (places_to (environment_for program z.head) z.head.level)) array h

    by :
        ((x.level ≤ a.head.level)
        × (list_any (is_place x) (places_to (environment_for program a.head) a.head.level) ≡ true))
        ⊎ ((x.block ≡ z.head.number) × (x.level ≡ z.head.level)) →
        IsArray (block_of_run program input acts valued more (run_begun z p numbers)) x
        (grid_if (declared_variable program (variable_of x)))
    by (inl low) =
        outer_array (around_it z) (block_of_run program input acts valued more (run_begun z p numbers)) x
        (grid_if (declared_variable program (variable_of x))) (λ d is. outer_known_in o x d low.0 is)
        (z.running.arrays x
        (and_from (list_any (is_place x) (places_to (environment_for program a.head) a.head.level)) array low.1
        parts.1))
    by (inr own) =
        let there = found_array (declared_variable program (variable_of x)) parts.1 in
        array_known (block_of_run program input acts valued more (run_begun z p numbers)) x
        (declared_variable program (variable_of x)) there (own_known_in o x there.declared own there.is)

narrow_in :
    {program : Y.Program} {m : Main program} {input : List ℕ} {acts : ℕ} {valued : Bool} {more b : ℕ} {a : Running}
    {p : Point} {numbers : ℕ → ℕ} {z : Stands m input acts valued more b a} (o : At z p numbers) (x : Spot) →
    is_narrow_known (scope_of program m.called z.head z.body) x ≡ true →
    IsScalar (block_of_run program input acts valued more (run_begun z p numbers)) x
    (type_if (declared_variable program (variable_of x)))
narrow_in {program} {m} {input} {acts} {valued = valued} {more = more} {a = a} {p = p} {numbers = numbers} {z = z} o x
    h =
    by (stands_in z x parts.0)
  where
    narrow : Bool
    narrow = is_narrow_if (declared_variable program (variable_of x))

    parts :
        (list_any (is_place x) (places_to (environment_for program z.head) z.head.level) ≡ true) × (narrow ≡ true)
    parts = and_parts (list_any (is_place x) (places_to (environment_for program z.head) z.head.level)) narrow h

    by :
        ((x.level ≤ a.head.level)
        × (list_any (is_place x) (places_to (environment_for program a.head) a.head.level) ≡ true))
        ⊎ ((x.block ≡ z.head.number) × (x.level ≡ z.head.level)) →
        IsScalar (block_of_run program input acts valued more (run_begun z p numbers)) x
        (type_if (declared_variable program (variable_of x)))
    by (inl low) =
        outer_narrow (around_it z) (block_of_run program input acts valued more (run_begun z p numbers)) x
        (type_if (declared_variable program (variable_of x))) (λ d is. outer_known_in o x d low.0 is)
        (z.running.narrows x
        (and_from (list_any (is_place x) (places_to (environment_for program a.head) a.head.level)) narrow low.1
        parts.1))
    by (inr own) =
        let there = found_narrow (declared_variable program (variable_of x)) parts.1 in
        narrow_known (block_of_run program input acts valued more (run_begun z p numbers)) x
        (declared_variable program (variable_of x)) there (own_known_in o x there.declared own there.is)

-- its name is told, of a frame around or of its own
own_named_in :
    {program : Y.Program} {m : Main program} {input : List ℕ} {acts : ℕ} {valued : Bool} {more b : ℕ} {a : Running}
    {p : Point} {numbers : ℕ → ℕ} {z : Stands m input acts valued more b a} (o : At z p numbers) (x : Spot)
    (d : Y.DeclaredVariable) → (x.block ≡ z.head.number) × (x.level ≡ z.head.level) →
    declared_variable program (variable_of x) ≡ Some d →
    (is : IsNumber (block_of_run program input acts valued more (run_begun z p numbers)) x) → is.serial < 2 ^ 64 →
    IsTelling (block_of_run program input acts valued more (run_begun z p numbers)) x
own_named_in {program} {m} {input} {acts} {valued = valued} {more = more} {a = a} {p = p} {numbers = numbers} {z = z} o
    x d own there is
    few =
    let w = surroundings_for program input acts in
    let e = begin_environment_for program a z.head in
    let xs = words_in e in
    let k = around_it z in
    let φ = inner_layer w p numbers (begin_in z) in
    let start = begun_in k p numbers (begin_in z) in
    let y = inner_beginning k p numbers (begin_in z) in
    let c = M.activation_of y.head y.entry (length p.state.activations + 1) in
    let all = all_in z p numbers o.among o.pass in
    let at = own_in z x d own there in
    told_own (block_of_run program input acts valued more (run_begun z p numbers)) x is (all_made image_parts φ xs
    start)
    (layer_after image_parts (start.state.serials + 1) φ xs) p.control.layers c p.state.activations _
    (tells_each w (linked_code (code_for program)) e start φ p.control.layers c p.state.activations _ xs 0 all.listed
    all.declared (record { bindings = []; active = refl }) at.1)
    refl (layers_after w start φ p.control.layers xs refl) (own.1, own.1, at.0.index) at.0.place few

outer_named_in :
    {program : Y.Program} {m : Main program} {input : List ℕ} {acts : ℕ} {valued : Bool} {more b : ℕ} {a : Running}
    {p : Point} {numbers : ℕ → ℕ} {z : Stands m input acts valued more b a} (o : At z p numbers) (x : Spot) →
    x.level ≤ a.head.level → IsTelling (around_it z) x →
    IsTelling (block_of_run program input acts valued more (run_begun z p numbers)) x
unfolding inner_over
outer_named_in {program} {m} {input} {acts} {valued = valued} {more = more} {a = a} {p = p} {numbers = numbers} {z = z}
    o x low is =
    over_telling {k = around_it z} {inner = block_of_run program input acts valued more (run_begun z p numbers)}
    {numbers = numbers} x
    (inner_over (around_it z) z.labels (begin_in z) z.index more (is_begin z o.shallow) z.running.nested p numbers
    o.among (made_at o) o.begun) z.running.nested z.running.begun o.among (omega arith) low refl refl
    (λ frame r told. told) is

named_in :
    {program : Y.Program} {m : Main program} {input : List ℕ} {acts : ℕ} {valued : Bool} {more b : ℕ} {a : Running}
    {p : Point} {numbers : ℕ → ℕ} {z : Stands m input acts valued more b a} (o : At z p numbers) (x : Spot) →
    is_known (scope_of program m.called z.head z.body) x ≡ true →
    (block_of_run program input acts valued more (run_begun z p numbers)).first.state.serials < 2 ^ 64 →
    IsTelling (block_of_run program input acts valued more (run_begun z p numbers)) x
named_in {program} {m} {input} {acts} {valued = valued} {more = more} {a = a} {p = p} {numbers = numbers} {z = z} o x h
    small =
    by (stands_in z x parts.0)
  where
    plain : Bool
    plain = is_plain_if (declared_variable program (variable_of x))

    parts :
        (list_any (is_place x) (places_to (environment_for program z.head) z.head.level) ≡ true) × (plain ≡ true)
    parts = and_parts (list_any (is_place x) (places_to (environment_for program z.head) z.head.level)) plain h

    inner : Block
    inner = block_of_run program input acts valued more (run_begun z p numbers)

    by :
        ((x.level ≤ a.head.level)
        × (list_any (is_place x) (places_to (environment_for program a.head) a.head.level) ≡ true))
        ⊎ ((x.block ≡ z.head.number) × (x.level ≡ z.head.level)) →
        IsTelling (block_of_run program input acts valued more (run_begun z p numbers)) x
    by (inl low) =
        outer_named_in o x low.0
        (z.running.named x
        (and_from (list_any (is_place x) (places_to (environment_for program a.head) a.head.level)) plain low.1
        parts.1))
    by (inr own) =
        let is = number_in o x h in
        let there = found (declared_variable program (variable_of x)) parts.1 in
        let given = serial_given inner x o.begun is in
        own_named_in o x (number_declared there.initial) own there.is is (omega (arith, given, small))

-- its parameters are those of the block around it: it has none itself
around_in :
    {program : Y.Program} {m : Main program} {input : List ℕ} {acts : ℕ} {valued : Bool} {more b : ℕ} {a : Running}
    {p : Point} {numbers : ℕ → ℕ} {z : Stands m input acts valued more b a} (o : At z p numbers) (x : Spot) →
    is_received (scope_of program m.called z.head z.body) x ≡ true →
    IsParameterAround (block_of_run program input acts false more (run_begun z p numbers)) x
unfolding inner_over
around_in {program} {m} {input} {acts} {more = more} {a = a} {p = p} {numbers = numbers} {z = z} o x h =
    let r = received_parts program m.called z.head z.body x h in
    by (stands_in z x r.0)
  where
    by :
        ((x.level ≤ a.head.level)
        × (list_any (is_place x) (places_to (environment_for program a.head) a.head.level) ≡ true))
        ⊎ ((x.block ≡ z.head.number) × (x.level ≡ z.head.level)) →
        IsParameterAround (block_of_run program input acts false more (run_begun z p numbers)) x
    by (inl low) =
        over_around {k = around_it z} {inner = block_of_run program input acts false more (run_begun z p numbers)}
        {numbers = numbers} x
        (inner_over (around_it z) z.labels (begin_in z) z.index more (is_begin z o.shallow) z.running.nested p numbers
        o.among (made_at o) o.begun) z.running.nested z.running.begun o.among o.begun (omega arith) low.0 refl
        (λ frame r listed. listed)
        (z.running.parameters x (received_there program m.called z.head a.head z.body a.body x low.1 h))
    by (inr own) =
        let none : parameters_of_block program x.block ≡ [] =
        ap (λ n. parameters_of_block program n) own.0 ∙ z.within.bare in
        cc (subst (λ ns. list_any (λ n. n == x.index) ns ≡ true) none
        (received_parts program m.called z.head z.body x h).1)

-- ---- all of it

-- a RETURN in it goes on where one in the block around it does
begun_form :
    {program : Y.Program} {m : Main program} {input : List ℕ} {acts : ℕ} {valued : Bool} {more b : ℕ} {a : Running}
    {p : Point} {numbers : ℕ → ℕ} (z : Stands m input acts valued more b a) (o : At z p numbers) →
    IsCalledForm program valued a ⊎ IsBegunForm program valued a → IsBegunForm program valued (run_begun z p numbers)
unfolding inner_over
begun_form {more = more} {a = a} {p = p} {numbers = numbers} z o (inl f) =
    let h = z.running in
    let k = around_it z in
    let inside = z.within.level in
    let over = inner_over k z.labels (begin_in z) z.index more (is_begin z o.shallow) h.nested p numbers o.among
    (made_at o) o.begun in
    record {
      kind = z.within.kind;
      behind = 0;
      outer = as_outer k z.labels;
      rest = a.form.outers;
      level = a.head.level;
      there = refl;
      begins = (refl, tt);
      procedure = f.kind;
      function = f.function;
      inner = omega (arith, inside);
      found = ap height_of (same_ancestor {numbers = numbers} a.head.level over h.nested o.among (omega arith)
          (omega arith))
          ∙ own_parent h.nested h.begun o.among;
      registers = f.saved;
      numbers = refl;
      owner = f.owner;
      ends = f.ends;
    }
begun_form {more = more} {a = a} {p = p} {numbers = numbers} z o (inr f) =
    let h = z.running in
    let k = around_it z in
    let inside = z.within.level in
    let level = h.level in
    let inner = f.inner in
    let over = inner_over k z.labels (begin_in z) z.index more (is_begin z o.shallow) h.nested p numbers o.among
    (made_at o) o.begun in
    record {
      kind = z.within.kind;
      behind = suc f.behind;
      outer = f.outer;
      rest = f.rest;
      level = f.level;
      there = f.there;
      begins = (refl, f.begins);
      procedure = f.procedure;
      function = f.function;
      inner = omega (arith, inside, level, inner);
      found = ap height_of (same_ancestor {numbers = numbers} f.level over h.nested o.among (omega arith)
          (omega (arith, level, inner)))
          ∙ f.found;
      registers = f.registers;
      numbers = f.numbers;
      owner = f.owner;
      ends = f.ends;
    }

pub begun_entered :
    {program : Y.Program} {m : Main program} {input : List ℕ} {acts : ℕ} {valued : Bool} {more b : ℕ} {a : Running}
    {p : Point} {numbers : ℕ → ℕ} (z : Stands m input acts valued more b a) (o : At z p numbers) →
    (around_it z).first.state.world.acts < p.state.world.acts →
    IsEntered m input acts valued more (run_begun z p numbers) b
begun_entered {program} {m} {input} {acts} {valued = valued} {more = more} {b = b} {a = a} {p = p} {numbers = numbers}
    z o
    since =
    let h = z.running in
    let w = surroundings_for program input acts in
    let k = around_it z in
    let x = begin_in z in
    let e = begin_environment_for program a z.head in
    let φ = inner_layer w p numbers x in
    let start = begun_in k p numbers x in
    let ds = variables_of_block program z.head.number in
    let first = fixed_size z.head.level 0 in
    let xs = words_in e in
    let serial = start.state.serials + 1 in
    let made = made_at o in
    let small = serials_small w p _ o.among.few (omega arith) made.few in
    let enough = h.enough in
    let same = made.acts in
    let there = ap (λ (as' : List Activation). length as') made.activations in
    let here = ap (λ (as' : List Activation). length as') o.among.later.activations in
    let shallow = ltb-true (length k.first.state.activations) most_activations o.shallow in
    let deep' = h.depth.all in
    let begun' = begin_room z p numbers o.among o.pass in
    let room = room_behind w start φ p.control.layers e first 0 0 ds z.within.plain begun' in
    let f = free_among (suc b) h.begun o.among h.free in
    let words = set_in z in
    let waiting = z.within.waiting in
    let deep = z.within.deep in
    let needs = z.within.fits in
    let all = h.held.all in
    let used = f.used in
    let under = f.under in
    let fits = f.fits in
    let top = ap (λ ls. upper_top image_parts ls) f.newest in
    let low = ap (λ ls. lower_end image_parts ls) f.newest in
    let place = room.here in
    let lower = words_lower image_parts serial φ xs in
    let at = words_at image_parts serial φ xs in
    let limit = begun'.limit in
    let counts = words_count image_parts start φ e first 0 ds z.within.plain
    (record { activation = _; below = _; active = refl; some = omega arith }) in
    record {
      running = record {
        own = z.within.own;
        shallow = omega (arith, deep);
        level = refl;
        held = record { own = z.within.fits; begins = z.within.begins; all = h.held.all };
        home = inr (begun_form z o h.home);
        placed = begin_placed w.links (linked_code (code_for program)) z.index k.environment none_taken z.head z.body
            z.placed;
        statements = z.within.statements;
        fits = omega (arith, needs, all);
        waiting = z.within.waiting;
        begun = o.begun;
        enough = omega (arith, since, enough, same);
        nested = inner_nested k z.labels x z.index more (is_begin z o.shallow) h.nested p numbers o.among made o.begun;
        variables = λ y is. number_in o y is;
        arrays = λ y is. array_in o y is;
        narrows = λ y is. narrow_in o y is;
        parameters = λ y is. around_in o y is;
        named = λ y is. named_in o y is small;
        serials = small;
        unraised = λ c.
            made_system image_parts φ xs start c
            (subst (λ as'. IsSystem (force as' c)) (sym o.among.later.activations) (h.unraised c));
        idle = made_idle φ xs start;
        told = called_of_program program k (block_of_run program input acts valued more (run_begun z p numbers)) numbers
            h.told o.among refl refl o.begun;
        free = record {
          layer = layer_after image_parts serial φ xs;
          below = _;
          newest = room.newest;
          even = room.even;
          under = omega (arith, lower, low, under);
          low = room.low;
          used = omega (arith, counts, limit);
          fits = omega (arith, words, waiting, deep, fits, top, low, place, at, lower, counts);
        };
        tabled = table_later program o.begun.remains (table_later program o.among.later.remains h.tabled);
        depth = record {
          some = omega (arith, shallow, deep');
          all = omega (arith, deep', there, here);
        };
      };
      words = after_words serial φ xs ∙ set_in z;
      clear = ap (λ waits. with_waits waits (layer_after image_parts serial φ xs)) (sym (after_waits serial φ xs));
      pointers = λ y is. absurd (none_pointing program m.called z.head z.body _ y z.within.level is);
      areas = λ y is. absurd (none_holding program m.called z.head z.body _ y z.within.level is);
    }
