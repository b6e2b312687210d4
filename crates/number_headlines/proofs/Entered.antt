-- A block of the class that is called from another: its variables are made, and what is known there is known of it.
use Rattle.std.proofs.Common.{◌≡◌, ◌⊎◌, inl, inr, ℕ, suc, ◌+◌, ◌^◌, ◌<◌, ◌≤◌, List, [], length, Bool}
use Rattle.std.proofs.Common.{true}
use Rattle.std.proofs.Common.{false, refl, sym, ap, ◌∙◌, subst, arith}
use Rattle.std.specs.Prelude.{nat_le, nat_lt}
use Rattle.std.specs.List.{list_any}
use Rattle.std.proofs.lemmas.Bool.{and_from, and_parts, leb-true, ltb-true}
use Rattle.std.proofs.lemmas.Bool.Decides.{nat_tests}
use Rattle.pli_language.specs.declared.condition.Condition.{Condition}
use Rattle.pli_typing.specs.TypedTree as Y
use Rattle.pli_meaning.specs.DeclaredShapes.{declared_variable, variables_of_block}
use Rattle.pli_meaning.specs.StorageState.{Activation, force, most_activations}
use Rattle.pli_meaning.specs.World.{World}
use Rattle.pli_coding.specs.Environments.{block_around}
use Rattle.pli_coding.specs.Frames.{fixed_size}
use Rattle.pli_coding.specs.Images.{linked_code}
use Rattle.code_marks.specs.CodeMarks.{MarkedOnce}
use Rattle.activation_relation.specs.FrameLaws.{with_waits}
use Rattle.activation_relation.specs.Frames.{lower_end, upper_top}
use Rattle.activation_relation.specs.Layers.{Point}
use Rattle.activation_relation.specs.ServiceLaws.{IsSystem}
use Rattle.program_places.specs.Laws.{IsEnd}
use Rattle.program_places.specs.Programs.{code_for}
use Rattle.program_places.specs.Programs.{environment_for, links_for}
use Rattle.program_places.proofs.Blocks.{own_block}
use Rattle.program_places.proofs.Callees.{end_is}
use Rattle.program_places.proofs.Found.{known}
use Rattle.program_places.proofs.Functions.{function_end_is}
use Rattle.program_places.proofs.Procedures.{body_placed}
use Rattle.program_runs.specs.Calls.{Callee, begun_at}
use Rattle.program_runs.specs.Procedures.{layer_for}
use Rattle.program_runs.specs.Starts.{image_parts}
use Rattle.program_runs.specs.Statements.{Block, IsBegun}
use Rattle.expression_runs.specs.Variables.{IsNumber, Spot, number_declared, variable_of}
use Rattle.array_runs.specs.Arrays.{IsArray}
use Rattle.scalar_runs.specs.Scalars.{IsScalar}
use Rattle.variable_runs.specs.Lists.{layer_after}
use Rattle.block_headlines.proofs.Constants.{called_of_program}
use Rattle.number_runs.specs.Arrays.{grid_if, is_array_if}
use Rattle.number_runs.specs.Narrow.{is_narrow_if, type_if}
use Rattle.number_runs.specs.Numbers.{is_narrow_known}
use Rattle.number_runs.specs.Numbers.{is_array_known, is_known, is_place, is_plain_if, is_received}
use Rattle.number_runs.specs.Variables.{words_in}
use Rattle.number_runs.proofs.Words.{found, own_place}
use Rattle.number_runs.proofs.Words.{room_behind}
use Rattle.number_headlines.specs.Programs.{places_to, scope_of}
use Rattle.number_headlines.proofs.Around.{none_received, outer_around_by, received_parts, received_there}
use Rattle.parameter_runs.specs.Around.{IsParameterAround}
use Rattle.number_headlines.proofs.FullWords.{words_at, words_count, words_lower}
use Rattle.number_headlines.proofs.Inner.{Inner, precision_of, returns_so}
use Rattle.number_headlines.proofs.Loops.{after_waits, after_words}
use Rattle.number_headlines.proofs.Mains.{Main, made_system, surroundings_for}
use Rattle.number_headlines.proofs.Places.{alike_at, around_is, is_around}
use Rattle.number_headlines.proofs.Pointers.{none_holding, none_pointing}
use Rattle.number_headlines.proofs.Running.{IsEntered, Running, block_of_run, free_among}
use Rattle.number_headlines.proofs.Running.{called_held, table_later}
use Rattle.number_headlines.proofs.Telling.{called_block, outer_telling_by, own_telling_by, serial_given}
use Rattle.number_headlines.proofs.Telling.{serials_small}
use Rattle.list_calls.specs.Passed.{IsTelling}
use Rattle.number_headlines.proofs.CalledBlocks.{DontPass, Moment, end_by, callee_in, entered_at, inner_set, begun_room}
use Rattle.number_headlines.proofs.CalledBlocks.{has_words, has_all, are_made, made_idle, is_inside, nested_by}
use Rattle.number_headlines.proofs.CalledBlocks.{outer_by, own_by, outer_array_by, own_array_by, outer_narrow_by}
use Rattle.number_headlines.proofs.CalledBlocks.{DontPass, own_narrow_by}

-- ---- what it may name

-- where the block that declares it stands: around the calling block too, or it is the block that is entered
pub record StandsAt {program : Y.Program} {m : Main program} {caller : Y.BlockHead} {ns : List ℕ} {v : Bool}
    {level number : ℕ} (i : Inner m caller ns v level number) (x : Spot) : Type 0
  where
    pub at :
        ((x.level ≤ level)
        × (list_any (is_place x) (places_to (environment_for program caller) caller.level) ≡ true))
        ⊎ ((x.block ≡ i.head.number) × (x.level ≡ i.head.level))

pub stands_at :
    {program : Y.Program} {m : Main program} {caller : Y.BlockHead} {ns : List ℕ} {v : Bool}
    {level number : ℕ} (i : Inner m caller ns v level number) (x : Spot) →
    list_any (is_place x) (places_to (environment_for program i.head) i.head.level) ≡ true → StandsAt i x
stands_at {program} {caller = caller} {v = v} {level = level} i x h =
    record { at = by (nat_le x.level level) refl }
  where
    there : (x.level ≤ i.head.level) × (x.block ≡ block_around (environment_for program i.head) x.level)
    there = around_is (environment_for program i.head) i.head.level x h

    by :
        (q : Bool) → nat_le x.level level ≡ q →
        ((x.level ≤ level)
        × (list_any (is_place x) (places_to (environment_for program caller) caller.level) ≡ true))
        ⊎ ((x.block ≡ i.head.number) × (x.level ≡ i.head.level))
    by true e =
        let low = leb-true x.level level e in
        let within = i.around_it in
        let same = alike_at (environment_for program caller) (environment_for program i.head) level x.level i.alike
        low in
        inl (
          low,
          is_around (environment_for program caller) caller.level x
              (omega (arith, low, within), there.1 ∙ sym same),
        )
    by false e =
        let less = there.0 in
        let inside = i.inside in
        let high : level < x.level = grind (arith, nat_tests) in
        let same : x.level ≡ i.head.level = omega (arith, less, inside, high) in
        inr (
          there.1 ∙ ap (λ n. block_around (environment_for program i.head) n) same
              ∙ own_block program i.head i.body i.result i.is,
          same,
        )

each_number :
    {program : Y.Program} (m : Main program) {input : List ℕ} {acts : ℕ} {valued : Bool} {more b : ℕ}
    {a : Running} {p : Point} {numbers : ℕ → ℕ}
    (o : Moment m input acts valued (suc more) a (suc b) p numbers) {v : Bool} {level number : ℕ}
    (i : Inner m a.head [] v level number) (call : ℕ) →
    DontPass (block_of_run program input acts valued (suc more) a) i →
    IsBegun (block_of_run program input acts v more
    (entered_at i (block_of_run program input acts valued (suc more) a) call p numbers)) → (x : Spot) →
    is_known (scope_of program m.called i.head i.body) x ≡ true →
    IsNumber (block_of_run program input acts v more
    (entered_at i (block_of_run program input acts valued (suc more) a) call p numbers)) x
each_number {program} m {input} {acts} {valued} {more} {b} {a} {p} {numbers} o {v} {level} i call pass b' x h =
    by (stands_at i x parts.0).at
  where
    plain : Bool
    plain = is_plain_if (declared_variable program (variable_of x))

    parts :
        (list_any (is_place x) (places_to (environment_for program i.head) i.head.level) ≡ true) × (plain ≡ true)
    parts = and_parts (list_any (is_place x) (places_to (environment_for program i.head) i.head.level)) plain h

    by :
        ((x.level ≤ level)
        × (list_any (is_place x) (places_to (environment_for program a.head) a.head.level) ≡ true))
        ⊎ ((x.block ≡ i.head.number) × (x.level ≡ i.head.level)) →
        IsNumber (block_of_run program input acts v more
        (entered_at i (block_of_run program input acts valued (suc more) a) call p numbers)) x
    by (inl low) =
        outer_by v m o i call pass b' x low.0
        (o.running.variables x
        (and_from (list_any (is_place x) (places_to (environment_for program a.head) a.head.level)) plain low.1
        parts.1))
    by (inr own) = own_by v m o i call pass b' x own parts.1

-- the block of what is called, a procedure's or a function's
called_so :
    (v : Bool) {program : Y.Program} (m : Main program) (input : List ℕ) (acts : ℕ) (valued : Bool) (more : ℕ)
    (a : Running) (p : Point) (numbers : ℕ → ℕ) {level number : ℕ} (i : Inner m a.head [] v level number) (call : ℕ) →
    called_block v (surroundings_for program input acts) (linked_code (code_for program))
    (callee_in i more (block_of_run program input acts valued (suc more) a) call) p numbers
    ≡ block_of_run program input acts v more
    (entered_at i (block_of_run program input acts valued (suc more) a) call p numbers)
called_so false m input acts valued more a p numbers i call = refl
called_so true m input acts valued more a p numbers i call = refl

-- its name is told, of a frame around or of its own
each_named :
    {program : Y.Program} (m : Main program) {input : List ℕ} {acts : ℕ} {valued : Bool} {more b : ℕ}
    {a : Running} {p : Point} {numbers : ℕ → ℕ}
    (o : Moment m input acts valued (suc more) a (suc b) p numbers) {v : Bool} {level number : ℕ}
    (i : Inner m a.head [] v level number) (call : ℕ)
    (pass : DontPass (block_of_run program input acts valued (suc more) a) i)
    (b' : IsBegun (block_of_run program input acts v more
    (entered_at i (block_of_run program input acts valued (suc more) a) call p numbers))) (x : Spot) →
    is_known (scope_of program m.called i.head i.body) x ≡ true →
    (block_of_run program input acts v more
    (entered_at i (block_of_run program input acts valued (suc more) a) call p numbers)).first.state.serials < 2 ^ 64 →
    IsTelling (block_of_run program input acts v more
    (entered_at i (block_of_run program input acts valued (suc more) a) call p numbers)) x
each_named {program} m {input} {acts} {valued} {more} {b} {a} {p} {numbers} o {v} {level} i call pass b' x h small =
    by (stands_at i x parts.0).at
  where
    plain : Bool
    plain = is_plain_if (declared_variable program (variable_of x))

    parts :
        (list_any (is_place x) (places_to (environment_for program i.head) i.head.level) ≡ true) × (plain ≡ true)
    parts = and_parts (list_any (is_place x) (places_to (environment_for program i.head) i.head.level)) plain h

    k : Block
    k = block_of_run program input acts valued (suc more) a

    c : Callee
    c = callee_in i more k call

    z : Block
    z = called_block v k.call.surroundings (linked_code (code_for program)) c p numbers

    same : z ≡ block_of_run program input acts v more (entered_at i k call p numbers)
    same = called_so v m input acts valued more a p numbers i call

    begun' : IsBegun z
    begun' = subst (λ y. IsBegun y) (sym same) b'

    by :
        ((x.level ≤ level)
        × (list_any (is_place x) (places_to (environment_for program a.head) a.head.level) ≡ true))
        ⊎ ((x.block ≡ i.head.number) × (x.level ≡ i.head.level)) →
        IsTelling (block_of_run program input acts v more (entered_at i k call p numbers)) x
    by (inl low) =
        subst (λ y. IsTelling y x) same
        (outer_telling_by v k c level x (is_inside m o i call) low.0
        (o.running.named x
        (and_from (list_any (is_place x) (places_to (environment_for program a.head) a.head.level)) plain low.1
        parts.1))
        p numbers o.among (are_made m o i call pass) begun')
    by (inr own) =
        let is = subst (λ y. IsNumber y x) (sym same) (each_number m o i call pass b' x h) in
        let there = found (declared_variable program (variable_of x)) parts.1 in
        let at = own_place k.call.surroundings (linked_code (code_for program)) c p numbers x
        (number_declared there.initial) (has_words m o i call pass) own there.is in
        let given = serial_given z x begun' is in
        let few = subst (λ (y : Block). y.first.state.serials < 2 ^ 64) (sym same) small in
        subst (λ y. IsTelling y x) same
        (own_telling_by v k.call.surroundings (linked_code (code_for program)) c p numbers
        (words_in (environment_for program i.head)) _ x (has_all m o i call pass) at.1 at.0 is
        (omega (arith, given, few)))

each_array :
    {program : Y.Program} (m : Main program) {input : List ℕ} {acts : ℕ} {valued : Bool} {more b : ℕ}
    {a : Running} {p : Point} {numbers : ℕ → ℕ}
    (o : Moment m input acts valued (suc more) a (suc b) p numbers) {v : Bool} {level number : ℕ}
    (i : Inner m a.head [] v level number) (call : ℕ) →
    DontPass (block_of_run program input acts valued (suc more) a) i →
    IsBegun (block_of_run program input acts v more
    (entered_at i (block_of_run program input acts valued (suc more) a) call p numbers)) → (x : Spot) →
    is_array_known (scope_of program m.called i.head i.body) x ≡ true →
    IsArray (block_of_run program input acts v more
    (entered_at i (block_of_run program input acts valued (suc more) a) call p numbers)) x
    (grid_if (declared_variable program (variable_of x)))
each_array {program} m {input} {acts} {valued} {more} {b} {a} {p} {numbers} o {v} {level} i call pass b' x h =
    by (stands_at i x parts.0).at
  where
    array : Bool
    array = is_array_if (declared_variable program (variable_of x))

    parts :
        (list_any (is_place x) (places_to (environment_for program i.head) i.head.level) ≡ true) × (array ≡ true)
    parts = and_parts (list_any (is_place x) (places_to (environment_for program i.head) i.head.level)) array h

    by :
        ((x.level ≤ level)
        × (list_any (is_place x) (places_to (environment_for program a.head) a.head.level) ≡ true))
        ⊎ ((x.block ≡ i.head.number) × (x.level ≡ i.head.level)) →
        IsArray (block_of_run program input acts v more
        (entered_at i (block_of_run program input acts valued (suc more) a) call p numbers)) x
        (grid_if (declared_variable program (variable_of x)))
    by (inl low) =
        outer_array_by v m o i call pass b' x (grid_if (declared_variable program (variable_of x))) low.0
        (o.running.arrays x
        (and_from (list_any (is_place x) (places_to (environment_for program a.head) a.head.level)) array low.1
        parts.1))
    by (inr own) = own_array_by v m o i call pass b' x own parts.1

each_narrow :
    {program : Y.Program} (m : Main program) {input : List ℕ} {acts : ℕ} {valued : Bool} {more b : ℕ}
    {a : Running} {p : Point} {numbers : ℕ → ℕ}
    (o : Moment m input acts valued (suc more) a (suc b) p numbers) {v : Bool} {level number : ℕ}
    (i : Inner m a.head [] v level number) (call : ℕ) →
    DontPass (block_of_run program input acts valued (suc more) a) i →
    IsBegun (block_of_run program input acts v more
    (entered_at i (block_of_run program input acts valued (suc more) a) call p numbers)) → (x : Spot) →
    is_narrow_known (scope_of program m.called i.head i.body) x ≡ true →
    IsScalar (block_of_run program input acts v more
    (entered_at i (block_of_run program input acts valued (suc more) a) call p numbers)) x
    (type_if (declared_variable program (variable_of x)))
each_narrow {program} m {input} {acts} {valued} {more} {b} {a} {p} {numbers} o {v} {level} i call pass b' x h =
    by (stands_at i x parts.0).at
  where
    narrow : Bool
    narrow = is_narrow_if (declared_variable program (variable_of x))

    parts :
        (list_any (is_place x) (places_to (environment_for program i.head) i.head.level) ≡ true) × (narrow ≡ true)
    parts = and_parts (list_any (is_place x) (places_to (environment_for program i.head) i.head.level)) narrow h

    by :
        ((x.level ≤ level)
        × (list_any (is_place x) (places_to (environment_for program a.head) a.head.level) ≡ true))
        ⊎ ((x.block ≡ i.head.number) × (x.level ≡ i.head.level)) →
        IsScalar (block_of_run program input acts v more
        (entered_at i (block_of_run program input acts valued (suc more) a) call p numbers)) x
        (type_if (declared_variable program (variable_of x)))
    by (inl low) =
        outer_narrow_by v m o i call pass b' x (type_if (declared_variable program (variable_of x))) low.0
        (o.running.narrows x
        (and_from (list_any (is_place x) (places_to (environment_for program a.head) a.head.level)) narrow low.1
        parts.1))
    by (inr own) = own_narrow_by v m o i call pass b' x own parts.1

-- no unit is in force there either
pub unraised_there :
    {program : Y.Program} (m : Main program) {input : List ℕ} {acts : ℕ} {valued : Bool} {more blocks : ℕ}
    {a : Running} {p : Point} {numbers : ℕ → ℕ}
    (o : Moment m input acts valued (suc more) a blocks p numbers) {v : Bool} {level number : ℕ}
    (i : Inner m a.head [] v level number) (call : ℕ) (c : Condition) →
    IsSystem (force (block_of_run program input acts v more
    (entered_at i (block_of_run program input acts valued (suc more) a) call p numbers)).first.state.activations c)
unraised_there {program} m o i call c =
    made_system image_parts _ (words_in (environment_for program i.head)) _ c
    (subst (λ as'. IsSystem (force as' c)) (sym o.among.later.activations) (o.running.unraised c))

-- ---- all of it

ends_by :
    (v : Bool) → MarkedOnce → {program : Y.Program} (m : Main program) {caller : Y.BlockHead} {level number : ℕ}
    (i : Inner m caller [] v level number) →
    IsEnd (links_for program) i.head.number (end_by v program i.head i.body)
ends_by false once {program} m i = end_is once program i.head i.body m.loadable (returns_so i)
ends_by true once {program} m i =
    let inside = i.inside in
    function_end_is once program i.head i.body (precision_of i) m.loadable (returns_so i)
    (omega (arith, inside))

-- its parameters are those of the calling block: it has none itself
each_around :
    {program : Y.Program} (m : Main program) {input : List ℕ} {acts : ℕ} {valued : Bool} {more b : ℕ}
    {a : Running} {p : Point} {numbers : ℕ → ℕ}
    (o : Moment m input acts valued (suc more) a (suc b) p numbers) {v : Bool} {level number : ℕ}
    (i : Inner m a.head [] v level number) (call : ℕ) →
    DontPass (block_of_run program input acts valued (suc more) a) i →
    IsBegun (block_of_run program input acts v more
    (entered_at i (block_of_run program input acts valued (suc more) a) call p numbers)) → (x : Spot) →
    is_received (scope_of program m.called i.head i.body) x ≡ true →
    IsParameterAround (block_of_run program input acts v more
    (entered_at i (block_of_run program input acts valued (suc more) a) call p numbers)) x
each_around {program} m {input} {acts} {valued} {more} {b} {a} {p} {numbers} o {v} {level} i call pass b' x h =
    by (stands_at i x (received_parts program m.called i.head i.body x h).0).at
  where
    by :
        ((x.level ≤ level)
        × (list_any (is_place x) (places_to (environment_for program a.head) a.head.level) ≡ true))
        ⊎ ((x.block ≡ i.head.number) × (x.level ≡ i.head.level)) →
        IsParameterAround (block_of_run program input acts v more
        (entered_at i (block_of_run program input acts valued (suc more) a) call p numbers)) x
    by (inl low) =
        outer_around_by v m o i call pass b' x low.0
        (o.running.parameters x (received_there program m.called i.head a.head i.body a.body x low.1 h))
    by (inr own) = absurd (none_received program m.called i.head i.body i.result x i.is own.0 h)

pub entered :
    MarkedOnce → {program : Y.Program} (m : Main program) {input : List ℕ} {acts : ℕ} {valued : Bool} {more b : ℕ}
    {a : Running} {p : Point} {numbers : ℕ → ℕ} (o : Moment m input acts valued (suc more) a (suc b) p numbers)
    {v : Bool} {level number : ℕ} (i : Inner m a.head [] v level number) (call : ℕ) →
    DontPass (block_of_run program input acts valued (suc more) a) i →
    nat_lt (length (block_of_run program input acts valued (suc more) a).first.state.activations) most_activations
    ≡ true →
    IsBegun (block_of_run program input acts v more
    (entered_at i (block_of_run program input acts valued (suc more) a) call p numbers)) →
    IsEntered m input acts v more (entered_at i (block_of_run program input acts valued (suc more) a) call p numbers) b
entered once {program} m {input} {acts} {valued} {more} {b} {a} {p} {numbers} o {v} i call pass few b' =
    let w = surroundings_for program input acts in
    let k = block_of_run program input acts valued (suc more) a in
    let c = callee_in i more k call in
    let φ = layer_for w p numbers c.procedure c.calling in
    let start = begun_at w c p numbers in
    let ds = variables_of_block program i.head.number in
    let first = fixed_size i.head.level 0 in
    let xs = words_in (environment_for program i.head) in
    let serial = start.state.serials + 1 in
    let made = are_made m o i call pass in
    let small = serials_small w p _ o.among.few (omega arith) made.few in
    let later = o.among.later.acts in
    let enough = o.running.enough in
    let world = ap (λ (u : World). u.acts) made.world in
    let there = ap (λ (as' : List Activation). length as') made.activations in
    let here = ap (λ (as' : List Activation). length as') o.among.later.activations in
    let shallow = ltb-true (length k.first.state.activations) most_activations few in
    let deep = o.running.depth.all in
    let begun' = begun_room m o i c refl pass in
    let e = environment_for program i.head in
    let plain = i.own in
    let room = room_behind w start φ p.control.layers e first 0 0 ds plain begun' in
    let f = free_among (suc b) o.running.begun o.among o.running.free in
    let words = inner_set m i in
    let waiting = i.waiting in
    let level = (known program i.head i.body i.result m.loadable.well_formed i.is).level in
    let used = f.used in
    let under = f.under in
    let fits = f.fits in
    let top = ap (λ ls. upper_top image_parts ls) f.newest in
    let low = ap (λ ls. lower_end image_parts ls) f.newest in
    let place = room.here in
    let lower = words_lower image_parts (start.state.serials + 1) φ xs in
    let at = words_at image_parts (start.state.serials + 1) φ xs in
    let limit = begun'.limit in
    let counts = words_count image_parts start φ e first 0 ds plain
    (record { activation = _; below = _; active = refl; some = omega arith }) in
    record {
      running = record {
        own = own_block program i.head i.body i.result i.is;
        shallow = omega (arith, level);
        level = refl;
        held = called_held m v i.head i.body i.statements i.fits i.begins
            (entered_at i k call p numbers) refl refl;
        home = inl (record {
          function = refl;
          kind = refl;
          saved = omega arith;
          ends = ends_by v once m i;
          owner = refl;
        });
        placed = body_placed once program i.head i.body i.result m.loadable i.is;
        statements = i.statements;
        fits = i.fits;
        waiting = i.waiting;
        begun = b';
        enough = omega (arith, later, enough, world);
        nested = nested_by v m o i call pass b';
        variables = λ x h. each_number m o i call pass b' x h;
        arrays = λ x h. each_array m o i call pass b' x h;
        narrows = λ x h. each_narrow m o i call pass b' x h;
        parameters = λ x h. each_around m o i call pass b' x h;
        named = λ x h. each_named m o i call pass b' x h small;
        serials = small;
        unraised = λ condition. unraised_there m o i call condition;
        idle = made_idle φ xs start;
        told = called_of_program program k (block_of_run program input acts v more (entered_at i k call p numbers))
            numbers o.running.told o.among refl refl b';
        free = record {
          layer = layer_after image_parts serial φ xs;
          below = _;
          newest = room.newest;
          even = room.even;
          under = omega (arith, lower, low, under);
          low = room.low;
          used = omega (arith, counts, limit);
          fits = omega (arith, words, waiting, level, fits, top, low, place, at, lower, counts);
        };
        tabled = table_later program b'.remains (table_later program o.among.later.remains o.running.tabled);
        depth = record {
          some = omega (arith, shallow, deep);
          all = omega (arith, deep, there, here);
        };
      };
      words = after_words serial φ xs ∙ inner_set m i;
      clear = ap (λ waits. with_waits waits (layer_after image_parts serial φ xs)) (sym (after_waits serial φ xs));
      pointers = λ x h. absurd (none_pointing program m.called i.head i.body _ x i.inside h);
      areas = λ x h. absurd (none_holding program m.called i.head i.body _ x i.inside h);
    }
