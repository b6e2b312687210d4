-- A block of the class that is called from another, where its first statement begins: its words are made, and the
-- numbers, arrays and scalars of fewer bits that it and the blocks around it declare are known.
use Rattle.std.proofs.Common.{◌≡◌, ℕ, suc, ◌+◌, ◌≤◌, List, [], ◌∷◌, Bool}
use Rattle.std.proofs.Common.{true}
use Rattle.std.proofs.Common.{false, refl, sym, ap, ◌∙◌, arith}
use Rattle.pli_typing.specs.TypedTree as Y
use Rattle.pli_meaning.specs.DeclaredShapes.{declared_variable, variables_of_block}
use Rattle.pli_meaning.specs.StorageState.{automatic_in_use, most_automatic}
use Rattle.pli_coding.specs.Assembly.{size_of}
use Rattle.pli_coding.specs.Frames.{fixed_size, parameters_in, temporary_bytes}
use Rattle.pli_coding.specs.Images.{linked_code}
use Rattle.pli_coding.specs.Procedures.{no_value}
use Rattle.activation_relation.specs.Frames.{lower_end, upper_top}
use Rattle.activation_relation.specs.Layers.{Layer, Point}
use Rattle.activation_relation.proofs.Returning.{in_use_later}
use Rattle.program_places.specs.Programs.{Site, behind_body, body_for, callee_at, code_for}
use Rattle.program_places.specs.Programs.{environment_for, procedure_for}
use Rattle.program_places.proofs.Found.{known}
use Rattle.program_runs.specs.Calls.{AreMade, Callee, begun_at}
use Rattle.program_runs.specs.Procedures.{Procedure, layer_for}
use Rattle.program_runs.specs.Starts.{image_parts}
use Rattle.program_runs.specs.Statements.{Block, IsAmong, IsBegun}
use Rattle.program_runs.specs.Variables.{Declared}
use Rattle.expression_runs.specs.Variables.{IsNumber, Spot, variable_of}
use Rattle.array_runs.specs.Arrays.{Grid, IsArray}
use Rattle.scalar_runs.specs.Scalars.{IsScalar}
use Rattle.array_runs.proofs.Outer.{outer_array}
use Rattle.variable_runs.specs.Lists.{AreAllBegun, all_made, behind_made, layer_behind}
use Rattle.variable_runs.proofs.Lists.{all_begun}
use Rattle.nested_calls.specs.Nested.{IsNested, parent_at}
use Rattle.nested_calls.specs.NestedVariables.{IsInside}
use Rattle.nested_calls.proofs.NestedVariables.{function_known, function_nested, function_number, procedure_known}
use Rattle.nested_calls.proofs.NestedVariables.{procedure_nested, procedure_number}
use Rattle.number_runs.specs.Arrays.{grid_if, is_array_if}
use Rattle.number_runs.specs.Narrow.{is_narrow_if, type_if}
use Rattle.number_runs.specs.Numbers.{is_plain_if}
use Rattle.number_runs.specs.Statements.{statements_set}
use Rattle.number_runs.specs.Variables.{HasWords, HaveRoom, bytes_of, words_in}
use Rattle.number_runs.proofs.BlocksTaken.{words_set}
use Rattle.number_runs.proofs.Words.{all_words, function_array, function_word, own_array, own_word}
use Rattle.number_runs.proofs.Words.{function_narrow, own_narrow, room_fewer}
use Rattle.number_runs.proofs.Narrow.{outer_narrow}
use Rattle.number_headlines.specs.Programs.{scope_of}
use Rattle.number_headlines.proofs.Begins.{begins_at, block_begins}
use Rattle.number_headlines.proofs.Inner.{Inner}
use Rattle.number_headlines.proofs.Mains.{Main, made_for, surroundings_for}
use Rattle.number_headlines.proofs.Running.{IsRunning, Running, around_for, block_of_run, free_among, run_of}
use Rattle.number_headlines.proofs.Running.{table_later}
use Rattle.number_headlines.proofs.Tables.{block_known, plain_block, serials_enough}

-- ---- what is called at a point of a block

pub record Moment {program : Y.Program} (m : Main program) (input : List ℕ) (acts : ℕ) (valued : Bool) (more : ℕ)
    (a : Running) (blocks : ℕ) (p : Point) (numbers : ℕ → ℕ) : Type 0
  where
    pub running : IsRunning m input acts valued more a blocks
    pub among : IsAmong (block_of_run program input acts valued more a) numbers p

-- where its statements end: behind a function's stands what raises ERROR
abbrev pub end_by : (valued : Bool) → Y.Program → Y.BlockHead → Y.Stmts → ℕ
end_by false program head body = behind_body program head body
end_by true program head body = behind_body program head body + size_of (no_value head.line)

abbrev pub site_in :
    {program : Y.Program} → {m : Main program} → {caller : Y.BlockHead} → {valued : Bool} → {level number : ℕ} →
    Inner m caller [] valued level number → (more : ℕ) → Block → (call : ℕ) → Site
site_in {program} {level = level} i more k call =
    record {
      parent = parent_at k level;
      call = call;
      around = around_for program more;
      made = made_for program i.head;
    }

abbrev pub callee_in :
    {program : Y.Program} → {m : Main program} → {caller : Y.BlockHead} → {valued : Bool} → {level number : ℕ} →
    Inner m caller [] valued level number → (more : ℕ) → Block → (call : ℕ) → Callee
callee_in {program} {valued = valued} i more k call =
    callee_at program i.head i.body (site_in i more k call) (end_by valued program i.head i.body)

abbrev pub entered_at :
    {program : Y.Program} → {m : Main program} → {caller : Y.BlockHead} → {valued : Bool} → {level number : ℕ} →
    Inner m caller [] valued level number → Block → (call : ℕ) → Point → (numbers : ℕ → ℕ) → Running
entered_at {program} {valued = valued} i k call p numbers =
    run_of valued k.call.surroundings (callee_in i 0 k call) (body_for program i.head i.body) p numbers

-- ---- its words

pub inner_set :
    {program : Y.Program} (m : Main program) {caller : Y.BlockHead} {parameters : List ℕ} {valued : Bool}
    {level number : ℕ} (i : Inner m caller parameters valued level number) →
    (procedure_for program i.head i.body).words ≡ statements_set i.body
inner_set {program} m {valued = valued} i =
    words_set (scope_of program m.called i.head i.body) valued (environment_for program i.head) i.head.number
    i.body
    (block_known program.variables i.head.number m.known).known i.statements i.fits

-- they don't pass the limit on what is AUTOMATIC
abbrev pub DontPass : {program : Y.Program} → Block → {m : Main program} → {caller : Y.BlockHead} → {valued : Bool} →
    {level number : ℕ} → Inner m caller [] valued level number → Type 0
DontPass {program} k i =
    automatic_in_use k.first.state.living + bytes_of (variables_of_block program i.head.number) ≤ most_automatic

-- then there is room for them where it begins
pub begun_room :
    {program : Y.Program} (m : Main program) {input : List ℕ} {acts : ℕ} {valued : Bool} {more b : ℕ} {a : Running}
    {p : Point} {numbers : ℕ → ℕ} (o : Moment m input acts valued (suc more) a (suc b) p numbers)
    {v : Bool} {level number : ℕ} (i : Inner m a.head [] v level number) (c : Callee) →
    c.procedure ≡ procedure_for program i.head i.body →
    DontPass (block_of_run program input acts valued (suc more) a) i →
    HaveRoom (surroundings_for program input acts) (begun_at (surroundings_for program input acts) c p numbers)
    (layer_for (surroundings_for program input acts) p numbers c.procedure c.calling) p.control.layers
    (fixed_size i.head.level 0) (bytes_of (variables_of_block program i.head.number) + 0)
begun_room {program} m {input} {acts} {valued} {more} {b} {a} {p} {numbers} o {v} i c is pass =
    let k = o.running in
    let block = block_of_run program input acts valued (suc more) a in
    let f = free_among (suc b) k.begun o.among k.free in
    let same = in_use_later (surroundings_for program input acts) block.first p k.begun.resumes.stands o.among.stands
    o.among.later in
    let words = ap (λ (x : Procedure). x.words) is ∙ inner_set m i in
    let waiting = i.waiting in
    let inside = ap (λ (x : Procedure). x.head.level) is in
    let level = (known program i.head i.body i.result m.loadable.well_formed i.is).level in
    let few = (plain_block program.variables i.head.number m.known i.own).room in
    let fits = f.fits in
    let even = f.even in
    let top = ap (λ ls. upper_top image_parts ls) f.newest in
    let low = ap (λ ls. lower_end image_parts ls) f.newest in
    record {
      newest = refl;
      here = ap (λ n. upper_top image_parts p.control.layers + temporary_bytes c.procedure.words + fixed_size n 0)
          (sym inside);
      even = omega (arith, words, waiting, level, inside, even, top);
      counted = omega (arith, level, few);
      fits = omega (arith, words, waiting, level, inside, fits, pass, same, top, low);
      low = f.low;
      limit = omega (arith, pass, same);
    }

pub has_words :
    {program : Y.Program} (m : Main program) {input : List ℕ} {acts : ℕ} {valued : Bool} {more b : ℕ} {a : Running}
    {p : Point} {numbers : ℕ → ℕ} (o : Moment m input acts valued (suc more) a (suc b) p numbers)
    {v : Bool} {level number : ℕ} (i : Inner m a.head [] v level number) (call : ℕ) →
    DontPass (block_of_run program input acts valued (suc more) a) i →
    HasWords (surroundings_for program input acts) (linked_code (code_for program))
    (callee_in i more (block_of_run program input acts valued (suc more) a) call) p
    numbers
has_words {program} m {input} {acts} {valued} {more} {b} {a} {p = p} {numbers = numbers} o {v = v} i call pass =
    let w = surroundings_for program input acts in
    let k = block_of_run program input acts valued (suc more) a in
    let c = callee_in i more k call in
    let n = bytes_of (variables_of_block program i.head.number) in
    let plain = plain_block program.variables i.head.number m.known i.own in
    record {
      kind = (known program i.head i.body i.result m.loadable.well_formed i.is).kind;
      coded = refl;
      block = refl;
      level = refl;
      program = refl;
      parts = refl;
      bare = ap parameters_in i.is;
      made = refl;
      plain = plain.plain;
      few = serials_enough program i.head.number m.known;
      tabled = table_later program o.among.later.remains o.running.tabled i.head;
      begin = begins_at program (variables_of_block program i.head.number) p.places.constants
          (o.among.later.remains.constants ∙ o.running.told.constants)
          (block_begins program i.head i.body [] i.result m.memory m.known i.is);
      room = room_fewer w (begun_at w c p numbers) (layer_for w p numbers c.procedure c.calling) p.control.layers
          (fixed_size i.head.level 0) n (n + 0) (omega arith) (begun_room m o i c refl pass);
    }

pub has_all :
    {program : Y.Program} (m : Main program) {input : List ℕ} {acts : ℕ} {valued : Bool} {more b : ℕ} {a : Running}
    {p : Point} {numbers : ℕ → ℕ} (o : Moment m input acts valued (suc more) a (suc b) p numbers)
    {v : Bool} {level number : ℕ} (i : Inner m a.head [] v level number) (call : ℕ) →
    DontPass (block_of_run program input acts valued (suc more) a) i →
    AreAllBegun (surroundings_for program input acts) (linked_code (code_for program))
    (callee_in i more (block_of_run program input acts valued (suc more) a) call) p
    numbers (words_in (environment_for program i.head))
has_all {program} m {input} {acts} {valued} {more} {a = a} {p = p} {numbers = numbers} o {v = v} i call pass =
    all_words (surroundings_for program input acts) (linked_code (code_for program))
    (callee_in i more (block_of_run program input acts valued (suc more) a) call) p
    numbers (has_words m o i call pass)

pub are_made :
    {program : Y.Program} (m : Main program) {input : List ℕ} {acts : ℕ} {valued : Bool} {more b : ℕ} {a : Running}
    {p : Point} {numbers : ℕ → ℕ} (o : Moment m input acts valued (suc more) a (suc b) p numbers)
    {v : Bool} {level number : ℕ} (i : Inner m a.head [] v level number) (call : ℕ) →
    DontPass (block_of_run program input acts valued (suc more) a) i →
    AreMade (surroundings_for program input acts) (linked_code (code_for program))
    (callee_in i more (block_of_run program input acts valued (suc more) a) call) p
    numbers
are_made {program} m {input} {acts} {valued} {more} {a = a} {p = p} {numbers = numbers} o {v = v} i call pass =
    all_begun (surroundings_for program input acts) (linked_code (code_for program))
    (callee_in i more (block_of_run program input acts valued (suc more) a) call) p
    numbers (words_in (environment_for program i.head)) (has_all m o i call pass)

-- ---- what stays as it is while variables are made

pub made_idle :
    (φ : Layer) (xs : List Declared) (p : Point) → (all_made image_parts φ xs p).control.waiting ≡ p.control.waiting
made_idle φ [] p = refl
made_idle φ (x ∷ xs) p =
    made_idle (layer_behind image_parts (p.state.serials + 1) φ x) xs (behind_made image_parts φ x p)

-- ---- where its first statement begins

pub is_inside :
    {program : Y.Program} (m : Main program) {input : List ℕ} {acts : ℕ} {valued : Bool} {more blocks : ℕ}
    {a : Running} {p : Point} {numbers : ℕ → ℕ}
    (o : Moment m input acts valued (suc more) a blocks p numbers) {v : Bool} {level number : ℕ}
    (i : Inner m a.head [] v level number) (call : ℕ) →
    IsInside (block_of_run program input acts valued (suc more) a)
    (callee_in i more (block_of_run program input acts valued (suc more) a) call) level
is_inside {program} m o {v = v} i call =
    let level = (known program i.head i.body i.result m.loadable.well_formed i.is).level in
    record {
      begun = o.running.begun;
      nested = o.running.nested;
      around_it = i.around_it;
      inner = i.inside;
      parent = refl;
      code = refl;
      few = omega (arith, level);
      program = refl;
      parts = refl;
    }

pub nested_by :
    (v : Bool) {program : Y.Program} (m : Main program) {input : List ℕ} {acts : ℕ} {valued : Bool} {more b : ℕ}
    {a : Running} {p : Point} {numbers : ℕ → ℕ}
    (o : Moment m input acts valued (suc more) a (suc b) p numbers) {level number : ℕ}
    (i : Inner m a.head [] v level number) (call : ℕ) →
    DontPass (block_of_run program input acts valued (suc more) a) i →
    IsBegun (block_of_run program input acts v more
    (entered_at i (block_of_run program input acts valued (suc more) a) call p numbers)) →
    IsNested (block_of_run program input acts v more
    (entered_at i (block_of_run program input acts valued (suc more) a) call p numbers))
nested_by false {program} m {input} {acts} {valued} {more} {a = a} {p = p} {numbers = numbers} o {level} i call pass
    b' =
    let k = block_of_run program input acts valued (suc more) a in
    procedure_nested k (callee_in i more k call) level (is_inside m o i call) p
    numbers o.among (are_made m o i call pass) b'
nested_by true {program} m {input} {acts} {valued} {more} {a = a} {p = p} {numbers = numbers} o {level} i call pass
    b' =
    let k = block_of_run program input acts valued (suc more) a in
    function_nested k (callee_in i more k call) level (is_inside m o i call) p
    numbers o.among (are_made m o i call pass) b'

-- a variable of a block around is the one of the calling block
pub outer_by :
    (v : Bool) {program : Y.Program} (m : Main program) {input : List ℕ} {acts : ℕ} {valued : Bool} {more b : ℕ}
    {a : Running} {p : Point} {numbers : ℕ → ℕ}
    (o : Moment m input acts valued (suc more) a (suc b) p numbers) {level number : ℕ}
    (i : Inner m a.head [] v level number) (call : ℕ) →
    DontPass (block_of_run program input acts valued (suc more) a) i →
    IsBegun (block_of_run program input acts v more
    (entered_at i (block_of_run program input acts valued (suc more) a) call p numbers)) → (x : Spot) →
    x.level ≤ level → IsNumber (block_of_run program input acts valued (suc more) a) x →
    IsNumber (block_of_run program input acts v more
    (entered_at i (block_of_run program input acts valued (suc more) a) call p numbers)) x
outer_by false {program} m {input} {acts} {valued} {more} {a = a} {p = p} {numbers = numbers} o {level} i call pass
    b' x low is =
    let k = block_of_run program input acts valued (suc more) a in
    procedure_number k (callee_in i more k call) level x (is_inside m o i call) low
    is p numbers o.among (are_made m o i call pass) b'
outer_by true {program} m {input} {acts} {valued} {more} {a = a} {p = p} {numbers = numbers} o {level} i call pass
    b' x low is =
    let k = block_of_run program input acts valued (suc more) a in
    function_number k (callee_in i more k call) level x (is_inside m o i call) low
    is p numbers o.among (are_made m o i call pass) b'

-- one of its own stands in its frame
pub own_by :
    (v : Bool) {program : Y.Program} (m : Main program) {input : List ℕ} {acts : ℕ} {valued : Bool} {more b : ℕ}
    {a : Running} {p : Point} {numbers : ℕ → ℕ}
    (o : Moment m input acts valued (suc more) a (suc b) p numbers) {level number : ℕ}
    (i : Inner m a.head [] v level number) (call : ℕ) →
    DontPass (block_of_run program input acts valued (suc more) a) i →
    IsBegun (block_of_run program input acts v more
    (entered_at i (block_of_run program input acts valued (suc more) a) call p numbers)) → (x : Spot) →
    (x.block ≡ i.head.number) × (x.level ≡ i.head.level) →
    is_plain_if (declared_variable program (variable_of x)) ≡ true →
    IsNumber (block_of_run program input acts v more
    (entered_at i (block_of_run program input acts valued (suc more) a) call p numbers)) x
own_by false {program} m {input} {acts} {valued} {more} {a = a} {p = p} {numbers = numbers} o i call pass b' x is
    plain =
    let k = block_of_run program input acts valued (suc more) a in
    own_word (surroundings_for program input acts) (linked_code (code_for program))
    (callee_in i more k call) p p numbers x
    (record { high = omega arith; inside = omega arith }) (has_words m o i call pass, has_all m o i call pass)
    (record { block = is.0; level = is.1; plain = plain }) b'
own_by true {program} m {input} {acts} {valued} {more} {a = a} {p = p} {numbers = numbers} o i call pass b' x is
    plain =
    let k = block_of_run program input acts valued (suc more) a in
    function_word (surroundings_for program input acts) (linked_code (code_for program))
    (callee_in i more k call) p p numbers x
    (record { high = omega arith; inside = omega arith }) (has_words m o i call pass, has_all m o i call pass)
    (record { block = is.0; level = is.1; plain = plain }) b'

-- ---- its arrays

-- an array of a block around is the one of the calling block
pub outer_array_by :
    (v : Bool) {program : Y.Program} (m : Main program) {input : List ℕ} {acts : ℕ} {valued : Bool} {more b : ℕ}
    {a : Running} {p : Point} {numbers : ℕ → ℕ}
    (o : Moment m input acts valued (suc more) a (suc b) p numbers) {level number : ℕ}
    (i : Inner m a.head [] v level number) (call : ℕ) →
    DontPass (block_of_run program input acts valued (suc more) a) i →
    IsBegun (block_of_run program input acts v more
    (entered_at i (block_of_run program input acts valued (suc more) a) call p numbers)) → (x : Spot) (s : Grid) →
    x.level ≤ level → IsArray (block_of_run program input acts valued (suc more) a) x s →
    IsArray (block_of_run program input acts v more
    (entered_at i (block_of_run program input acts valued (suc more) a) call p numbers)) x s
outer_array_by false {program} m {input} {acts} {valued} {more} {a = a} {p = p} {numbers = numbers} o {level} i call
    pass b' x s low is =
    let k = block_of_run program input acts valued (suc more) a in
    let r = entered_at i k call p numbers in
    outer_array k (block_of_run program input acts false more r) x s
    (λ d known'. procedure_known k (callee_in i more k call) level x d (is_inside m o i call) low known' p
    numbers o.among (are_made m o i call pass) b') is
outer_array_by true {program} m {input} {acts} {valued} {more} {a = a} {p = p} {numbers = numbers} o {level} i call
    pass b' x s low is =
    let k = block_of_run program input acts valued (suc more) a in
    let r = entered_at i k call p numbers in
    outer_array k (block_of_run program input acts true more r) x s
    (λ d known'. function_known k (callee_in i more k call) level x d (is_inside m o i call) low known' p
    numbers o.among (are_made m o i call pass) b') is

-- one of its own stands in its frame
pub own_array_by :
    (v : Bool) {program : Y.Program} (m : Main program) {input : List ℕ} {acts : ℕ} {valued : Bool} {more b : ℕ}
    {a : Running} {p : Point} {numbers : ℕ → ℕ}
    (o : Moment m input acts valued (suc more) a (suc b) p numbers) {level number : ℕ}
    (i : Inner m a.head [] v level number) (call : ℕ) →
    DontPass (block_of_run program input acts valued (suc more) a) i →
    IsBegun (block_of_run program input acts v more
    (entered_at i (block_of_run program input acts valued (suc more) a) call p numbers)) → (x : Spot) →
    (x.block ≡ i.head.number) × (x.level ≡ i.head.level) →
    is_array_if (declared_variable program (variable_of x)) ≡ true →
    IsArray (block_of_run program input acts v more
    (entered_at i (block_of_run program input acts valued (suc more) a) call p numbers)) x
    (grid_if (declared_variable program (variable_of x)))
own_array_by false {program} m {input} {acts} {valued} {more} {a = a} {p = p} {numbers = numbers} o i call pass b' x is
    array =
    let k = block_of_run program input acts valued (suc more) a in
    own_array (surroundings_for program input acts) (linked_code (code_for program))
    (callee_in i more k call) p p numbers x
    (record { high = omega arith; inside = omega arith }) (has_words m o i call pass, has_all m o i call pass)
    (record { block = is.0; level = is.1; array = array }) b'
own_array_by true {program} m {input} {acts} {valued} {more} {a = a} {p = p} {numbers = numbers} o i call pass b' x is
    array =
    let k = block_of_run program input acts valued (suc more) a in
    function_array (surroundings_for program input acts) (linked_code (code_for program))
    (callee_in i more k call) p p numbers x
    (record { high = omega arith; inside = omega arith }) (has_words m o i call pass, has_all m o i call pass)
    (record { block = is.0; level = is.1; array = array }) b'

-- ---- its scalars of fewer bits

-- one of a block around is the one of the calling block
pub outer_narrow_by :
    (v : Bool) {program : Y.Program} (m : Main program) {input : List ℕ} {acts : ℕ} {valued : Bool} {more b : ℕ}
    {a : Running} {p : Point} {numbers : ℕ → ℕ}
    (o : Moment m input acts valued (suc more) a (suc b) p numbers) {level number : ℕ}
    (i : Inner m a.head [] v level number) (call : ℕ) →
    DontPass (block_of_run program input acts valued (suc more) a) i →
    IsBegun (block_of_run program input acts v more
    (entered_at i (block_of_run program input acts valued (suc more) a) call p numbers)) → (x : Spot) (s : Y.LeafType) →
    x.level ≤ level → IsScalar (block_of_run program input acts valued (suc more) a) x s →
    IsScalar (block_of_run program input acts v more
    (entered_at i (block_of_run program input acts valued (suc more) a) call p numbers)) x s
outer_narrow_by false {program} m {input} {acts} {valued} {more} {a = a} {p = p} {numbers = numbers} o {level} i call
    pass b' x s low is =
    let k = block_of_run program input acts valued (suc more) a in
    let r = entered_at i k call p numbers in
    outer_narrow k (block_of_run program input acts false more r) x s
    (λ d known'. procedure_known k (callee_in i more k call) level x d (is_inside m o i call) low known' p
    numbers o.among (are_made m o i call pass) b') is
outer_narrow_by true {program} m {input} {acts} {valued} {more} {a = a} {p = p} {numbers = numbers} o {level} i call
    pass b' x s low is =
    let k = block_of_run program input acts valued (suc more) a in
    let r = entered_at i k call p numbers in
    outer_narrow k (block_of_run program input acts true more r) x s
    (λ d known'. function_known k (callee_in i more k call) level x d (is_inside m o i call) low known' p
    numbers o.among (are_made m o i call pass) b') is

-- one of its own stands in its frame
pub own_narrow_by :
    (v : Bool) {program : Y.Program} (m : Main program) {input : List ℕ} {acts : ℕ} {valued : Bool} {more b : ℕ}
    {a : Running} {p : Point} {numbers : ℕ → ℕ}
    (o : Moment m input acts valued (suc more) a (suc b) p numbers) {level number : ℕ}
    (i : Inner m a.head [] v level number) (call : ℕ) →
    DontPass (block_of_run program input acts valued (suc more) a) i →
    IsBegun (block_of_run program input acts v more
    (entered_at i (block_of_run program input acts valued (suc more) a) call p numbers)) → (x : Spot) →
    (x.block ≡ i.head.number) × (x.level ≡ i.head.level) →
    is_narrow_if (declared_variable program (variable_of x)) ≡ true →
    IsScalar (block_of_run program input acts v more
    (entered_at i (block_of_run program input acts valued (suc more) a) call p numbers)) x
    (type_if (declared_variable program (variable_of x)))
own_narrow_by false {program} m {input} {acts} {valued} {more} {a = a} {p = p} {numbers = numbers} o i call pass b' x is
    narrow =
    let k = block_of_run program input acts valued (suc more) a in
    own_narrow (surroundings_for program input acts) (linked_code (code_for program))
    (callee_in i more k call) p p numbers x
    (record { high = omega arith; inside = omega arith }) (has_words m o i call pass, has_all m o i call pass)
    (record { block = is.0; level = is.1; narrow = narrow }) b'
own_narrow_by true {program} m {input} {acts} {valued} {more} {a = a} {p = p} {numbers = numbers} o i call pass b' x is
    narrow =
    let k = block_of_run program input acts valued (suc more) a in
    function_narrow (surroundings_for program input acts) (linked_code (code_for program))
    (callee_in i more k call) p p numbers x
    (record { high = omega arith; inside = omega arith }) (has_words m o i call pass, has_all m o i call pass)
    (record { block = is.0; level = is.1; narrow = narrow }) b'
