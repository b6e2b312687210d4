-- What a procedure or a function that is called in a block may name: the variables that it makes, and those of the
-- blocks around it, which are as they are where it is called.
use Rattle.std.proofs.Common.{◌≡◌, ◌⊎◌, inl, inr, ℕ, suc, ◌+◌, ◌<◌, ◌≤◌, List, [], ◌∷◌, Bool, true, false, refl, sym}
use Rattle.std.proofs.Common.{ap, ◌∙◌, arith}
use Rattle.std.specs.Prelude.{nat_le}
use Rattle.std.specs.List.{list_any}
use Rattle.std.proofs.lemmas.Bool.{and_from, and_parts, leb-true}
use Rattle.std.proofs.lemmas.Bool.Decides.{nat_tests}
use Rattle.pli_typing.specs.TypedTree as Y
use Rattle.pli_meaning.specs.DeclaredShapes.{declared_variable, variables_of_block}
use Rattle.pli_meaning.specs.StorageState.{automatic_in_use, most_automatic}
use Rattle.pli_coding.specs.Environments.{block_around}
use Rattle.pli_coding.specs.Frames.{fixed_size, parameters_in, temporary_bytes}
use Rattle.pli_coding.specs.Images.{linked_code}
use Rattle.activation_relation.specs.Frames.{lower_end, upper_top}
use Rattle.activation_relation.specs.Layers.{Layer, Point}
use Rattle.activation_relation.proofs.Returning.{in_use_later}
use Rattle.program_places.specs.Programs.{code_for, environment_for, procedure_for}
use Rattle.program_places.proofs.Blocks.{own_block}
use Rattle.program_places.proofs.Found.{known}
use Rattle.program_runs.specs.Calls.{AreMade, Callee, begun_at}
use Rattle.program_runs.specs.Procedures.{Procedure, layer_for}
use Rattle.program_runs.specs.Starts.{image_parts}
use Rattle.program_runs.specs.Statements.{Block, IsAmong, IsBegun, Outer}
use Rattle.program_runs.specs.Variables.{Declared}
use Rattle.expression_runs.specs.Variables.{IsNumber, Spot, variable_of}
use Rattle.array_runs.specs.Arrays.{Grid, IsArray}
use Rattle.array_runs.proofs.Outer.{outer_array}
use Rattle.variable_runs.specs.Lists.{AreAllBegun, all_made, behind_made, layer_behind}
use Rattle.variable_runs.proofs.Lists.{all_begun}
use Rattle.nested_calls.specs.Nested.{IsNested, parent_at}
use Rattle.nested_calls.specs.NestedVariables.{IsInside}
use Rattle.nested_calls.proofs.NestedVariables.{function_known, function_nested, function_number, procedure_known}
use Rattle.nested_calls.proofs.NestedVariables.{procedure_nested, procedure_number}
use Rattle.number_runs.specs.Arrays.{grid_if, is_array_if}
use Rattle.number_runs.specs.Numbers.{Scope, is_array_known, is_known, is_place, is_plain_if, is_narrow_known}
use Rattle.number_runs.specs.Variables.{HasWords, HaveRoom, bytes_of, words_in}
use Rattle.number_runs.proofs.Words.{all_words, function_array, function_word, own_array, own_word, room_fewer}
use Rattle.number_runs.proofs.Words.{function_narrow, own_narrow}
use Rattle.number_headlines.specs.Programs.{places_to}
use Rattle.number_headlines.proofs.Places.{alike_at, around_is, is_around}
use Rattle.number_headlines.proofs.Running.{free_among, table_later}
use Rattle.number_headlines.proofs.Begins.{begins_at, block_begins}
use Rattle.number_headlines.proofs.Tables.{all_known, block_plain}
use Rattle.unit_numbers.specs.Calls.{scope_in}
use Rattle.unit_numbers.proofs.Callees.{Called, called_block, callee_of}
use Rattle.unit_numbers.proofs.Homes.{Home, world_of}
use Rattle.unit_numbers.proofs.Inner.{Inner, inner_set}
use Rattle.unit_numbers.proofs.Mains.{Main}
use Rattle.unit_numbers.proofs.Hosts.{Part}
use Rattle.unit_numbers.proofs.Scenes.{IsAt, block_of}
use Rattle.scalar_runs.specs.Scalars.{IsScalar}
use Rattle.number_runs.specs.Narrow.{is_narrow_if, type_if}
use Rattle.number_runs.proofs.Narrow.{outer_narrow}

-- ---- what is called at a point of a block

pub record Moment {program : Y.Program} (m : Main program) (h : Home) (more blocks : ℕ) (part : Part) (out : Outer)
    (os : List Outer) (p : Point) (numbers : ℕ → ℕ) : Type 0
  where
    pub at : IsAt m h more blocks part out os
    pub among : IsAmong (block_of m h out os) numbers p

abbrev pub entered_at :
    {program : Y.Program} → {m : Main program} → {caller : Y.BlockHead} → {valued : Bool} → {level number : ℕ} →
    Inner m caller valued level number → Block → (call : ℕ) → Point → (numbers : ℕ → ℕ) → Called
entered_at {level = level} i k call p numbers =
    record {
      head = i.head;
      body = i.body;
      parent = parent_at k level;
      call = call;
      point = p;
      numbers = numbers;
    }

-- its block, whatever is further out
abbrev pub bare_block :
    {program : Y.Program} → Main program → Home → (valued : Bool) → (more : ℕ) → Called → Block
bare_block {program} m h valued more a =
    called_block valued (world_of m h) (linked_code (code_for program)) (callee_of program valued more a) a.point
    a.numbers

-- and what it may name and call
abbrev pub called_scope :
    {program : Y.Program} → (m : Main program) → {caller : Y.BlockHead} → {valued : Bool} → {level number : ℕ} →
    Inner m caller valued level number → Scope
called_scope {program} m i = scope_in program m.called i.body i.head false false

-- ---- its words

-- they don't pass the limit on what is AUTOMATIC
abbrev pub DontPass : {program : Y.Program} → Block → {m : Main program} → {caller : Y.BlockHead} → {valued : Bool} →
    {level number : ℕ} → Inner m caller valued level number → Type 0
DontPass {program} k i =
    automatic_in_use k.first.state.living + bytes_of (variables_of_block program i.head.number) ≤ most_automatic

-- then there is room for them where it begins
pub begun_room :
    {program : Y.Program} (m : Main program) {h : Home} {more b : ℕ} {part : Part} {out : Outer} {os : List Outer}
    {p : Point} {numbers : ℕ → ℕ} (o : Moment m h (suc more) (suc b) part out os p numbers)
    {v : Bool} {level number : ℕ} (i : Inner m part.caller v level number) (c : Callee) →
    c.procedure ≡ procedure_for program i.head i.body →
    DontPass (block_of m h out os) i →
    HaveRoom (world_of m h) (begun_at (world_of m h) c p numbers)
    (layer_for (world_of m h) p numbers c.procedure c.calling) p.control.layers
    (fixed_size i.head.level 0) (bytes_of (variables_of_block program i.head.number) + 0)
begun_room {program} m {h} {more} {b} {part} {out} {os} {p} {numbers} o {v} i c is pass =
    let k = o.at in
    let block = block_of m h out os in
    let f = free_among (suc b) k.begun o.among k.free in
    let same = in_use_later (world_of m h) block.first p k.begun.resumes.stands o.among.stands
    o.among.later in
    let words = ap (λ (x : Procedure). x.words) is ∙ inner_set m i in
    let waiting = i.fit.waiting in
    let inside = ap (λ (x : Procedure). x.head.level) is in
    let level = (known program i.head i.body i.result m.loadable.well_formed i.is).level in
    let few = (block_plain program.variables i.head.number m.plain).room in
    let fits = f.fits in
    let even = f.even in
    let top = ap (λ ls. upper_top image_parts ls) f.newest in
    let low = ap (λ ls. lower_end image_parts ls) f.newest in
    record {
      newest = refl;
      here = ap (λ n. upper_top image_parts p.control.layers + temporary_bytes c.procedure.words + fixed_size n 0)
          (sym inside);
      even = omega (arith, words, waiting, level, inside, even, top);
      counted = omega (arith, level, few);
      fits = omega (arith, words, waiting, level, inside, fits, pass, same, top, low);
      low = f.low;
      limit = omega (arith, pass, same);
    }

pub has_words :
    {program : Y.Program} (m : Main program) {h : Home} {more b : ℕ} {part : Part} {out : Outer} {os : List Outer}
    {p : Point} {numbers : ℕ → ℕ} (o : Moment m h (suc more) (suc b) part out os p numbers)
    {v : Bool} {level number : ℕ} (i : Inner m part.caller v level number) (call : ℕ) →
    DontPass (block_of m h out os) i →
    HasWords (world_of m h) (linked_code (code_for program))
    (callee_of program v more (entered_at i (block_of m h out os) call p numbers)) p
    numbers
has_words {program} m {h} {more} {b} {part} {out} {os} {p = p} {numbers = numbers} o {v = v} i call pass =
    let w = world_of m h in
    let k = block_of m h out os in
    let c = callee_of program v more (entered_at i k call p numbers) in
    let n = bytes_of (variables_of_block program i.head.number) in
    let plain = block_plain program.variables i.head.number m.plain in
    record {
      kind = (known program i.head i.body i.result m.loadable.well_formed i.is).kind;
      coded = refl;
      block = refl;
      level = refl;
      program = refl;
      parts = refl;
      bare = ap parameters_in i.is;
      made = refl;
      plain = plain.plain;
      few = plain.few;
      tabled = table_later program o.among.later.remains o.at.tabled i.head;
      begin = begins_at program (variables_of_block program i.head.number) p.places.constants
          (o.among.later.remains.constants ∙ o.at.told.constants)
          (block_begins program i.head i.body [] i.result m.memory (all_known program.variables m.plain) i.is);
      room = room_fewer w (begun_at w c p numbers) (layer_for w p numbers c.procedure c.calling) p.control.layers
          (fixed_size i.head.level 0) n (n + 0) (omega arith) (begun_room m o i c refl pass);
    }

pub has_all :
    {program : Y.Program} (m : Main program) {h : Home} {more b : ℕ} {part : Part} {out : Outer} {os : List Outer}
    {p : Point} {numbers : ℕ → ℕ} (o : Moment m h (suc more) (suc b) part out os p numbers)
    {v : Bool} {level number : ℕ} (i : Inner m part.caller v level number) (call : ℕ) →
    DontPass (block_of m h out os) i →
    AreAllBegun (world_of m h) (linked_code (code_for program))
    (callee_of program v more (entered_at i (block_of m h out os) call p numbers)) p
    numbers (words_in (environment_for program i.head))
has_all {program} m {h} {more} {part = part} {out = out} {os = os} {p = p} {numbers = numbers} o {v = v} i call pass =
    all_words (world_of m h) (linked_code (code_for program))
    (callee_of program v more (entered_at i (block_of m h out os) call p numbers)) p
    numbers (has_words m o i call pass)

pub are_made :
    {program : Y.Program} (m : Main program) {h : Home} {more b : ℕ} {part : Part} {out : Outer} {os : List Outer}
    {p : Point} {numbers : ℕ → ℕ} (o : Moment m h (suc more) (suc b) part out os p numbers)
    {v : Bool} {level number : ℕ} (i : Inner m part.caller v level number) (call : ℕ) →
    DontPass (block_of m h out os) i →
    AreMade (world_of m h) (linked_code (code_for program))
    (callee_of program v more (entered_at i (block_of m h out os) call p numbers)) p
    numbers
are_made {program} m {h} {more} {part = part} {out = out} {os = os} {p = p} {numbers = numbers} o {v = v} i call pass =
    all_begun (world_of m h) (linked_code (code_for program))
    (callee_of program v more (entered_at i (block_of m h out os) call p numbers)) p
    numbers (words_in (environment_for program i.head)) (has_all m o i call pass)

-- ---- what stays as it is while variables are made

pub made_idle :
    (φ : Layer) (xs : List Declared) (p : Point) → (all_made image_parts φ xs p).control.waiting ≡ p.control.waiting
made_idle φ [] p = refl
made_idle φ (x ∷ xs) p =
    made_idle (layer_behind image_parts (p.state.serials + 1) φ x) xs (behind_made image_parts φ x p)

-- ---- where its first statement begins

pub is_inside :
    {program : Y.Program} (m : Main program) {h : Home} {more blocks : ℕ} {part : Part} {out : Outer} {os : List Outer}
    {p : Point} {numbers : ℕ → ℕ}
    (o : Moment m h (suc more) blocks part out os p numbers) {v : Bool} {level number : ℕ}
    (i : Inner m part.caller v level number) (call : ℕ) →
    IsInside (block_of m h out os)
    (callee_of program v more (entered_at i (block_of m h out os) call p numbers)) level
is_inside {program} m o {v = v} i call =
    let level = (known program i.head i.body i.result m.loadable.well_formed i.is).level in
    let around = i.around_it in
    let inside = o.at.inside in
    record {
      begun = o.at.begun;
      nested = o.at.nested;
      around_it = omega (arith, around, inside);
      inner = i.inside;
      parent = refl;
      code = refl;
      few = omega (arith, level);
      program = sym o.at.source;
      parts = sym o.at.parts;
    }

pub nested_by :
    (v : Bool) {program : Y.Program} (m : Main program) {h : Home} {more b : ℕ} {part : Part} {out : Outer}
    {os : List Outer} {p : Point} {numbers : ℕ → ℕ}
    (o : Moment m h (suc more) (suc b) part out os p numbers) {level number : ℕ}
    (i : Inner m part.caller v level number) (call : ℕ) →
    DontPass (block_of m h out os) i →
    IsBegun (bare_block m h v more
    (entered_at i (block_of m h out os) call p numbers)) →
    IsNested (bare_block m h v more
    (entered_at i (block_of m h out os) call p numbers))
nested_by false {program} m {h} {more} {part = part} {out = out} {os = os} {p = p} {numbers = numbers} o {level} i call
    pass b' =
    let k = block_of m h out os in
    procedure_nested k (callee_of program false more (entered_at i k call p numbers)) level (is_inside m o i call) p
    numbers o.among (are_made m o i call pass) b'
nested_by true {program} m {h} {more} {part = part} {out = out} {os = os} {p = p} {numbers = numbers} o {level} i call
    pass b' =
    let k = block_of m h out os in
    function_nested k (callee_of program true more (entered_at i k call p numbers)) level (is_inside m o i call) p
    numbers o.among (are_made m o i call pass) b'

-- a variable of a block around is the one of the calling block
pub outer_by :
    (v : Bool) {program : Y.Program} (m : Main program) {h : Home} {more b : ℕ} {part : Part} {out : Outer}
    {os : List Outer} {p : Point} {numbers : ℕ → ℕ}
    (o : Moment m h (suc more) (suc b) part out os p numbers) {level number : ℕ}
    (i : Inner m part.caller v level number) (call : ℕ) →
    DontPass (block_of m h out os) i →
    IsBegun (bare_block m h v more
    (entered_at i (block_of m h out os) call p numbers)) → (x : Spot) →
    x.level ≤ level → IsNumber (block_of m h out os) x →
    IsNumber (bare_block m h v more
    (entered_at i (block_of m h out os) call p numbers)) x
outer_by false {program} m {h} {more} {part = part} {out = out} {os = os} {p = p} {numbers = numbers} o {level} i call
    pass b' x low is =
    let k = block_of m h out os in
    procedure_number k (callee_of program false more (entered_at i k call p numbers)) level x (is_inside m o i call) low
    is p numbers o.among (are_made m o i call pass) b'
outer_by true {program} m {h} {more} {part = part} {out = out} {os = os} {p = p} {numbers = numbers} o {level} i call
    pass b' x low is =
    let k = block_of m h out os in
    function_number k (callee_of program true more (entered_at i k call p numbers)) level x (is_inside m o i call) low
    is p numbers o.among (are_made m o i call pass) b'

-- one of its own stands in its frame
own_by :
    (v : Bool) {program : Y.Program} (m : Main program) {h : Home} {more b : ℕ} {part : Part} {out : Outer}
    {os : List Outer} {p : Point} {numbers : ℕ → ℕ}
    (o : Moment m h (suc more) (suc b) part out os p numbers) {level number : ℕ}
    (i : Inner m part.caller v level number) (call : ℕ) →
    DontPass (block_of m h out os) i →
    IsBegun (bare_block m h v more
    (entered_at i (block_of m h out os) call p numbers)) → (x : Spot) →
    (x.block ≡ i.head.number) × (x.level ≡ i.head.level) →
    is_plain_if (declared_variable program (variable_of x)) ≡ true →
    IsNumber (bare_block m h v more
    (entered_at i (block_of m h out os) call p numbers)) x
own_by false {program} m {h} {more} {part = part} {out = out} {os = os} {p = p} {numbers = numbers} o i call pass b' x
    is
    plain =
    let k = block_of m h out os in
    own_word (world_of m h) (linked_code (code_for program))
    (callee_of program false more (entered_at i k call p numbers)) p p numbers x
    (record { high = omega arith; inside = omega arith }) (has_words m o i call pass, has_all m o i call pass)
    (record { block = is.0; level = is.1; plain = plain }) b'
own_by true {program} m {h} {more} {part = part} {out = out} {os = os} {p = p} {numbers = numbers} o i call pass b' x is
    plain =
    let k = block_of m h out os in
    function_word (world_of m h) (linked_code (code_for program))
    (callee_of program true more (entered_at i k call p numbers)) p p numbers x
    (record { high = omega arith; inside = omega arith }) (has_words m o i call pass, has_all m o i call pass)
    (record { block = is.0; level = is.1; plain = plain }) b'

-- ---- its arrays

-- an array of a block around is the one of the calling block
pub outer_array_by :
    (v : Bool) {program : Y.Program} (m : Main program) {h : Home} {more b : ℕ} {part : Part} {out : Outer}
    {os : List Outer} {p : Point} {numbers : ℕ → ℕ}
    (o : Moment m h (suc more) (suc b) part out os p numbers) {level number : ℕ}
    (i : Inner m part.caller v level number) (call : ℕ) →
    DontPass (block_of m h out os) i →
    IsBegun (bare_block m h v more
    (entered_at i (block_of m h out os) call p numbers)) → (x : Spot) (s : Grid) →
    x.level ≤ level → IsArray (block_of m h out os) x s →
    IsArray (bare_block m h v more
    (entered_at i (block_of m h out os) call p numbers)) x s
outer_array_by false {program} m {h} {more} {part = part} {out = out} {os = os} {p = p} {numbers = numbers} o {level} i
    call
    pass b' x s low is =
    let k = block_of m h out os in
    let r = entered_at i k call p numbers in
    outer_array k (bare_block m h false more r) x s
    (λ d known'. procedure_known k (callee_of program false more r) level x d (is_inside m o i call) low known' p
    numbers o.among (are_made m o i call pass) b') is
outer_array_by true {program} m {h} {more} {part = part} {out = out} {os = os} {p = p} {numbers = numbers} o {level} i
    call
    pass b' x s low is =
    let k = block_of m h out os in
    let r = entered_at i k call p numbers in
    outer_array k (bare_block m h true more r) x s
    (λ d known'. function_known k (callee_of program true more r) level x d (is_inside m o i call) low known' p
    numbers o.among (are_made m o i call pass) b') is

-- one of its own stands in its frame
own_array_by :
    (v : Bool) {program : Y.Program} (m : Main program) {h : Home} {more b : ℕ} {part : Part} {out : Outer}
    {os : List Outer} {p : Point} {numbers : ℕ → ℕ}
    (o : Moment m h (suc more) (suc b) part out os p numbers) {level number : ℕ}
    (i : Inner m part.caller v level number) (call : ℕ) →
    DontPass (block_of m h out os) i →
    IsBegun (bare_block m h v more
    (entered_at i (block_of m h out os) call p numbers)) → (x : Spot) →
    (x.block ≡ i.head.number) × (x.level ≡ i.head.level) →
    is_array_if (declared_variable program (variable_of x)) ≡ true →
    IsArray (bare_block m h v more
    (entered_at i (block_of m h out os) call p numbers)) x
    (grid_if (declared_variable program (variable_of x)))
own_array_by false {program} m {h} {more} {part = part} {out = out} {os = os} {p = p} {numbers = numbers} o i call pass
    b' x is
    array =
    let k = block_of m h out os in
    own_array (world_of m h) (linked_code (code_for program))
    (callee_of program false more (entered_at i k call p numbers)) p p numbers x
    (record { high = omega arith; inside = omega arith }) (has_words m o i call pass, has_all m o i call pass)
    (record { block = is.0; level = is.1; array = array }) b'
own_array_by true {program} m {h} {more} {part = part} {out = out} {os = os} {p = p} {numbers = numbers} o i call pass
    b' x is
    array =
    let k = block_of m h out os in
    function_array (world_of m h) (linked_code (code_for program))
    (callee_of program true more (entered_at i k call p numbers)) p p numbers x
    (record { high = omega arith; inside = omega arith }) (has_words m o i call pass, has_all m o i call pass)
    (record { block = is.0; level = is.1; array = array }) b'

-- ---- its scalars of fewer bits

-- one of a block around is the one of the calling block
pub outer_narrow_by :
    (v : Bool) {program : Y.Program} (m : Main program) {h : Home} {more b : ℕ} {part : Part} {out : Outer}
    {os : List Outer} {p : Point} {numbers : ℕ → ℕ}
    (o : Moment m h (suc more) (suc b) part out os p numbers) {level number : ℕ}
    (i : Inner m part.caller v level number) (call : ℕ) →
    DontPass (block_of m h out os) i →
    IsBegun (bare_block m h v more
    (entered_at i (block_of m h out os) call p numbers)) → (x : Spot) (s : Y.LeafType) →
    x.level ≤ level → IsScalar (block_of m h out os) x s →
    IsScalar (bare_block m h v more
    (entered_at i (block_of m h out os) call p numbers)) x s
outer_narrow_by false {program} m {h} {more} {part = part} {out = out} {os = os} {p = p} {numbers = numbers} o {level} i
    call
    pass b' x s low is =
    let k = block_of m h out os in
    let r = entered_at i k call p numbers in
    outer_narrow k (bare_block m h false more r) x s
    (λ d known'. procedure_known k (callee_of program false more r) level x d (is_inside m o i call) low known' p
    numbers o.among (are_made m o i call pass) b') is
outer_narrow_by true {program} m {h} {more} {part = part} {out = out} {os = os} {p = p} {numbers = numbers} o {level} i
    call
    pass b' x s low is =
    let k = block_of m h out os in
    let r = entered_at i k call p numbers in
    outer_narrow k (bare_block m h true more r) x s
    (λ d known'. function_known k (callee_of program true more r) level x d (is_inside m o i call) low known' p
    numbers o.among (are_made m o i call pass) b') is

-- one of its own stands in its frame
own_narrow_by :
    (v : Bool) {program : Y.Program} (m : Main program) {h : Home} {more b : ℕ} {part : Part} {out : Outer}
    {os : List Outer} {p : Point} {numbers : ℕ → ℕ}
    (o : Moment m h (suc more) (suc b) part out os p numbers) {level number : ℕ}
    (i : Inner m part.caller v level number) (call : ℕ) →
    DontPass (block_of m h out os) i →
    IsBegun (bare_block m h v more
    (entered_at i (block_of m h out os) call p numbers)) → (x : Spot) →
    (x.block ≡ i.head.number) × (x.level ≡ i.head.level) →
    is_narrow_if (declared_variable program (variable_of x)) ≡ true →
    IsScalar (bare_block m h v more
    (entered_at i (block_of m h out os) call p numbers)) x
    (type_if (declared_variable program (variable_of x)))
own_narrow_by false {program} m {h} {more} {part = part} {out = out} {os = os} {p = p} {numbers = numbers} o i call pass
    b' x is
    narrow =
    let k = block_of m h out os in
    own_narrow (world_of m h) (linked_code (code_for program))
    (callee_of program false more (entered_at i k call p numbers)) p p numbers x
    (record { high = omega arith; inside = omega arith }) (has_words m o i call pass, has_all m o i call pass)
    (record { block = is.0; level = is.1; narrow = narrow }) b'
own_narrow_by true {program} m {h} {more} {part = part} {out = out} {os = os} {p = p} {numbers = numbers} o i call pass
    b' x is
    narrow =
    let k = block_of m h out os in
    function_narrow (world_of m h) (linked_code (code_for program))
    (callee_of program true more (entered_at i k call p numbers)) p p numbers x
    (record { high = omega arith; inside = omega arith }) (has_words m o i call pass, has_all m o i call pass)
    (record { block = is.0; level = is.1; narrow = narrow }) b'

-- ---- what it may name

-- where the block that declares it stands: around the calling block too, or it is the block that is entered
record StandsAt {program : Y.Program} {m : Main program} {caller : Y.BlockHead} {v : Bool} {level number : ℕ}
    (i : Inner m caller v level number) (x : Spot) : Type 0
  where
    at :
        ((x.level ≤ level)
        × (list_any (is_place x) (places_to (environment_for program caller) caller.level) ≡ true))
        ⊎ ((x.block ≡ i.head.number) × (x.level ≡ i.head.level))

stands_at :
    {program : Y.Program} {m : Main program} {caller : Y.BlockHead} {v : Bool} {level number : ℕ}
    (i : Inner m caller v level number) (x : Spot) →
    list_any (is_place x) (places_to (environment_for program i.head) i.head.level) ≡ true → StandsAt i x
stands_at {program} {caller = caller} {v} {level} i x h =
    record { at = by (nat_le x.level level) refl }
  where
    there : (x.level ≤ i.head.level) × (x.block ≡ block_around (environment_for program i.head) x.level)
    there = around_is (environment_for program i.head) i.head.level x h

    by :
        (q : Bool) → nat_le x.level level ≡ q →
        ((x.level ≤ level)
        × (list_any (is_place x) (places_to (environment_for program caller) caller.level) ≡ true))
        ⊎ ((x.block ≡ i.head.number) × (x.level ≡ i.head.level))
    by true e =
        let low = leb-true x.level level e in
        let within = i.around_it in
        let same = alike_at (environment_for program caller) (environment_for program i.head) level x.level i.alike
        low in
        inl (
          low,
          is_around (environment_for program caller) caller.level x
              (omega (arith, low, within), there.1 ∙ sym same),
        )
    by false e =
        let less = there.0 in
        let inside = i.inside in
        let high : level < x.level = grind (arith, nat_tests) in
        let same : x.level ≡ i.head.level = omega (arith, less, inside, high) in
        inr (
          there.1 ∙ ap (λ n. block_around (environment_for program i.head) n) same
              ∙ own_block program i.head i.body i.result i.is,
          same,
        )

pub each_number :
    {program : Y.Program} (m : Main program) {h : Home} {more b : ℕ} {part : Part} {out : Outer} {os : List Outer}
    {p : Point} {numbers : ℕ → ℕ}
    (o : Moment m h (suc more) (suc b) part out os p numbers) {v : Bool} {level number : ℕ}
    (i : Inner m part.caller v level number) (call : ℕ) →
    DontPass (block_of m h out os) i →
    IsBegun (bare_block m h v more
    (entered_at i (block_of m h out os) call p numbers)) → (x : Spot) →
    is_known (called_scope m i) x ≡ true →
    IsNumber (bare_block m h v more
    (entered_at i (block_of m h out os) call p numbers)) x
each_number {program} m {h} {more} {b} {part} {out} {os} {p} {numbers} o {v} {level} i call pass b' x named =
    by (stands_at i x parts.0).at
  where
    plain : Bool
    plain = is_plain_if (declared_variable program (variable_of x))

    parts :
        (list_any (is_place x) (places_to (environment_for program i.head) i.head.level) ≡ true) × (plain ≡ true)
    parts = and_parts (list_any (is_place x) (places_to (environment_for program i.head) i.head.level)) plain named

    by :
        ((x.level ≤ level)
        × (list_any (is_place x) (places_to (environment_for program part.caller) part.caller.level) ≡ true))
        ⊎ ((x.block ≡ i.head.number) × (x.level ≡ i.head.level)) →
        IsNumber (bare_block m h v more
        (entered_at i (block_of m h out os) call p numbers)) x
    by (inl low) =
        outer_by v m o i call pass b' x low.0
        (o.at.variables x
        (and_from (list_any (is_place x) (places_to (environment_for program part.caller) part.caller.level)) plain
        low.1
        parts.1))
    by (inr own) = own_by v m o i call pass b' x own parts.1

pub each_array :
    {program : Y.Program} (m : Main program) {h : Home} {more b : ℕ} {part : Part} {out : Outer} {os : List Outer}
    {p : Point} {numbers : ℕ → ℕ}
    (o : Moment m h (suc more) (suc b) part out os p numbers) {v : Bool} {level number : ℕ}
    (i : Inner m part.caller v level number) (call : ℕ) →
    DontPass (block_of m h out os) i →
    IsBegun (bare_block m h v more
    (entered_at i (block_of m h out os) call p numbers)) → (x : Spot) →
    is_array_known (called_scope m i) x ≡ true →
    IsArray (bare_block m h v more
    (entered_at i (block_of m h out os) call p numbers)) x
    (grid_if (declared_variable program (variable_of x)))
each_array {program} m {h} {more} {b} {part} {out} {os} {p} {numbers} o {v} {level} i call pass b' x named =
    by (stands_at i x parts.0).at
  where
    array : Bool
    array = is_array_if (declared_variable program (variable_of x))

    parts :
        (list_any (is_place x) (places_to (environment_for program i.head) i.head.level) ≡ true) × (array ≡ true)
    parts = and_parts (list_any (is_place x) (places_to (environment_for program i.head) i.head.level)) array named

    by :
        ((x.level ≤ level)
        × (list_any (is_place x) (places_to (environment_for program part.caller) part.caller.level) ≡ true))
        ⊎ ((x.block ≡ i.head.number) × (x.level ≡ i.head.level)) →
        IsArray (bare_block m h v more
        (entered_at i (block_of m h out os) call p numbers)) x
        (grid_if (declared_variable program (variable_of x)))
    by (inl low) =
        outer_array_by v m o i call pass b' x (grid_if (declared_variable program (variable_of x))) low.0
        (o.at.arrays x
        (and_from (list_any (is_place x) (places_to (environment_for program part.caller) part.caller.level)) array
        low.1
        parts.1))
    by (inr own) = own_array_by v m o i call pass b' x own parts.1

pub each_narrow :
    {program : Y.Program} (m : Main program) {h : Home} {more b : ℕ} {part : Part} {out : Outer} {os : List Outer}
    {p : Point} {numbers : ℕ → ℕ}
    (o : Moment m h (suc more) (suc b) part out os p numbers) {v : Bool} {level number : ℕ}
    (i : Inner m part.caller v level number) (call : ℕ) →
    DontPass (block_of m h out os) i →
    IsBegun (bare_block m h v more
    (entered_at i (block_of m h out os) call p numbers)) → (x : Spot) →
    is_narrow_known (called_scope m i) x ≡ true →
    IsScalar (bare_block m h v more
    (entered_at i (block_of m h out os) call p numbers)) x
    (type_if (declared_variable program (variable_of x)))
each_narrow {program} m {h} {more} {b} {part} {out} {os} {p} {numbers} o {v} {level} i call pass b' x named =
    by (stands_at i x parts.0).at
  where
    narrow : Bool
    narrow = is_narrow_if (declared_variable program (variable_of x))

    parts :
        (list_any (is_place x) (places_to (environment_for program i.head) i.head.level) ≡ true) × (narrow ≡ true)
    parts = and_parts (list_any (is_place x) (places_to (environment_for program i.head) i.head.level)) narrow named

    by :
        ((x.level ≤ level)
        × (list_any (is_place x) (places_to (environment_for program part.caller) part.caller.level) ≡ true))
        ⊎ ((x.block ≡ i.head.number) × (x.level ≡ i.head.level)) →
        IsScalar (bare_block m h v more
        (entered_at i (block_of m h out os) call p numbers)) x
        (type_if (declared_variable program (variable_of x)))
    by (inl low) =
        outer_narrow_by v m o i call pass b' x (type_if (declared_variable program (variable_of x))) low.0
        (o.at.narrows x
        (and_from (list_any (is_place x) (places_to (environment_for program part.caller) part.caller.level)) narrow
        low.1
        parts.1))
    by (inr own) = own_narrow_by v m o i call pass b' x own parts.1
