-- A call with a list of arguments in a block of the class: what it asks of the block that calls it.
use Rattle.std.proofs.Common.{◌≡◌, ℕ, zero, suc, ◌+◌, ◌*◌, ◌^◌, ◌<◌, ◌≤◌, List, [], ◌∷◌, length, Option, Some, Bool}
use Rattle.std.proofs.Common.{true, refl, sym, ap, ◌∙◌, subst, arith}
use Rattle.std.specs.Prelude.{nat_le, nat_lt, slice_get}
use Rattle.std.proofs.lemmas.Bool.{and_parts, ltb-true}
use Rattle.std.proofs.lemmas.Bool.Decides.{nat_tests}
use Rattle.pli_typing.specs.TypedTree as Y
use Rattle.pli_meaning.specs.DeclaredShapes.{variables_of_block}
use Rattle.pli_meaning.specs.StorageState.{automatic_in_use, most_automatic}
use Rattle.pli_coding.specs.Environments.{Environment}
use Rattle.pli_coding.specs.Expressions.{argument_words}
use Rattle.pli_coding.specs.Frames.{fixed_size}
use Rattle.pli_coding.specs.Locating.{table_number}
use Rattle.pli_meaning.specs.Contents.{Shape}
use Rattle.pli_serving.specs.Templates.{shape_at}
use Rattle.pli_types.specs.Templates.{Template}
use Rattle.activation_relation.specs.Frames.{lower_end, upper_top}
use Rattle.activation_relation.specs.Layers.{Layer, Point}
use Rattle.program_places.specs.Programs.{IsReceiving, entry_for, environment_for, procedure_for}
use Rattle.program_places.proofs.Found.{known}
use Rattle.program_runs.specs.Statements.{Block}
use Rattle.program_runs.specs.Starts.{image_parts}
use Rattle.argument_runs.specs.ListCalls.{entered_point}
use Rattle.argument_runs.specs.Parameters.{parameter_declared, parameter_shape}
use Rattle.nested_calls.specs.Nested.{parent_at}
use Rattle.list_calls.specs.Arguments.{ByName, ByValue, Way, copies_among}
use Rattle.list_calls.specs.ListCalls.{AreNumbered, IsDeclared, Listed, called_with, copies_take}
use Rattle.list_calls.specs.Lists.{Parameter, Passing, indices_of}
use Rattle.list_calls.specs.Taking.{ListCall, bound_point, called_of, entry_of, giving_of, listed_layer, named_point}
use Rattle.list_calls.proofs.Bound.{AreBound, all_bound}
use Rattle.list_calls.proofs.ListBlocks.{activation_in, caller_of}
use Rattle.number_runs.specs.Knowledge.{IsFree, most_set}
use Rattle.number_runs.specs.Numbers.{is_parameter_if}
use Rattle.number_runs.specs.Variables.{AreTabled, IsTabled, words_from}
use Rattle.number_headlines.specs.Programs.{are_parameters, most_words, beside_received, received_in}
use Rattle.number_headlines.proofs.Deciding.{by_decision}
use Rattle.number_headlines.proofs.CalledBlocks.{inner_set}
use Rattle.number_headlines.proofs.Inner.{Inner, precision_of, returns_so}
use Rattle.number_headlines.proofs.ListPlaces.{IsOwnList, indices_are, own_list, parameter_found, parameters_at}
use Rattle.number_headlines.proofs.ListPlaces.{parameters_many, taking_at, taking_end, taking_index}
use Rattle.number_headlines.proofs.Mains.{Main, result_by}
use Rattle.number_headlines.proofs.Running.{IsRunning, Running, around_for, block_of_run, called_form, function_by}
use Rattle.number_headlines.proofs.Tables.{serials_enough}
use Rattle.program_runs.specs.Variables.{Declared}
use Rattle.variable_runs.specs.Lists.{newest_all}
use Rattle.number_headlines.proofs.ListWords.{behind_here, many_behind}

-- ---- the call

abbrev pub parameters_for : {program : Y.Program} → {m : Main program} → {caller : Y.BlockHead} → {ns : List ℕ} →
    {valued : Bool} → {level number : ℕ} → Inner m caller ns valued level number → List Parameter
parameters_for {program} {ns = ns} i = parameters_at (environment_for program i.head) ns

-- the variables that it makes behind them
abbrev pub words_for : {program : Y.Program} → {m : Main program} → {caller : Y.BlockHead} → {ns : List ℕ} →
    {valued : Bool} → {level number : ℕ} → Inner m caller ns valued level number → List Declared
words_for {program} {ns = ns} i =
    words_from (environment_for program i.head) (fixed_size i.head.level (length ns))
    (received_in (variables_of_block program i.head.number))
    (beside_received (variables_of_block program i.head.number))

-- the words that are set aside before it, its arguments, the newest layers, and the index of its call
pub record Site' : Type 0 where
  pub words : ℕ
  pub ways : List Way
  pub layer : Layer
  pub others : List Layer
  pub call : ℕ

abbrev pub listed_in :
    {program : Y.Program} → {m : Main program} → {caller : Y.BlockHead} → {ns : List ℕ} → {valued : Bool} →
    {level number : ℕ} → Inner m caller ns valued level number → (more : ℕ) → Block → Site' → Listed
listed_in {program} {valued = valued} {level = level} i more k t =
    record {
      callee = taking_at valued program i.head i.body (parameters_for i) (parent_at k level) t.call
          (around_for program more);
      level = level;
      ways = t.ways;
      words = t.words;
      layer = t.layer;
      others = t.others;
      made = newest_all image_parts (words_for i);
    }

abbrev pub passed_at :
    {program : Y.Program} → {m : Main program} → {caller : Y.BlockHead} → {ns : List ℕ} → {valued : Bool} →
    {level number : ℕ} → Inner m caller ns valued level number → (more : ℕ) → Block → Site' → Point →
    (numbers : ℕ → ℕ) → List Passing → ListCall
passed_at i more k t p numbers ys = called_with k (listed_in i more k t) p numbers ys

abbrev pub listed_at :
    {program : Y.Program} → {m : Main program} → {caller : Y.BlockHead} → {ns : List ℕ} → {valued : Bool} →
    {level number : ℕ} → Inner m caller ns valued level number → (more : ℕ) → Block → Site' → Point →
    (numbers : ℕ → ℕ) → List Passing → Running
listed_at {program} {valued = valued} i more k t p numbers ys =
    let y = passed_at i more k t p numbers ys in
    record {
      head = i.head;
      body = i.body;
      entry = entry_of (function_by valued) y;
      layer = (called_of (function_by valued) y).beginning.layer;
      call = t.call;
      index = taking_index program i.head i.body (parameters_for i);
      end = taking_end valued program i.head i.body (parameters_for i);
      point = named_point y;
      numbers = numbers;
      made = newest_all image_parts (words_for i) (bound_point (function_by valued) y);
      layers = λ ls. ls;
      texts = λ es. es;
      form = called_form valued (entry_for program i.head.number) (procedure_for program i.head i.body) [];
    }

-- ---- what it asks for

-- where the list stands, and how many arguments it has
pub record IsSite (k : Block) (ns : List ℕ) (t : Site') : Type 0 where
  pub newest : k.first.control.layers ≡ t.layer ∷ t.others
  pub few : t.layer.words ≤ most_set
  pub free : IsFree t.layer.waits t.words
  pub room : t.words + argument_words * length t.ways ≤ t.layer.words
  pub many : length t.ways ≡ length ns
  pub some : 0 < length ns

pub copies_few : (us : List Way) → copies_among us ≤ length us
copies_few [] = omega arith
copies_few (ByValue source ∷ us) = let few = copies_few us in omega (arith, few)
copies_few (ByName v serial signature ∷ us) = let few = copies_few us in omega (arith, few)

told_low :
    (waits : ℕ → Option ℕ) (words n v : ℕ) → IsFree waits words → waits n ≡ Some v → n < words
told_low waits words n v free e =
    by_decision (nat_lt n words) (λ less. ltb-true n words less)
    (λ more. absurd (cc (sym (free n (grind (arith, more, nat_tests))) ∙ e)))

are_numbered :
    (e : Environment) (signatures : ℕ → Option Shape) (ns : List ℕ) →
    signatures (table_number e parameter_declared) ≡ Some parameter_shape →
    table_number e parameter_declared < 2 ^ 31 → AreNumbered signatures (parameters_at e ns)
are_numbered e signatures [] shape small = tt
are_numbered e signatures (n ∷ ns) shape small = (shape, small, are_numbered e signatures ns shape small)

some_same : {d e : Y.DeclaredVariable} → Some d ≡ Some e → d ≡ e
some_same h = cc h

-- the table has the signature of a parameter, where there is one
tabled_at :
    (e : Environment) (signatures : List Template) (ds : List Y.DeclaredVariable) (n : ℕ) →
    slice_get ds n ≡ Some parameter_declared → AreTabled e signatures ds → IsTabled e signatures parameter_declared
tabled_at e signatures [] n is h = absurd (cc is)
tabled_at e signatures (d ∷ ds) zero is h = subst (λ d'. IsTabled e signatures d') (some_same is) h.0
tabled_at e signatures (d ∷ ds) (suc n) is h = tabled_at e signatures ds n is h.1

first_tabled :
    (e : Environment) (signatures : List Template) (ds : List Y.DeclaredVariable) (ns : List ℕ) → 0 < length ns →
    are_parameters ds ns ≡ true → AreTabled e signatures ds → IsTabled e signatures parameter_declared
first_tabled e signatures ds [] some h tabled = absurd (omega (arith, some))
first_tabled e signatures ds (n ∷ ns) some h tabled =
    let a = and_parts (is_parameter_if (slice_get ds n)) (are_parameters ds ns) h in
    tabled_at e signatures ds n (parameter_found (slice_get ds n) a.0) tabled

pub own_of :
    {program : Y.Program} {m : Main program} {caller : Y.BlockHead} {ns : List ℕ} {valued : Bool}
    {level number : ℕ} (i : Inner m caller ns valued level number) → 0 < length ns →
    IsOwnList ns (variables_of_block program i.head.number)
own_of {program} {ns = ns} i some = own_list ns (variables_of_block program i.head.number) some i.own

pub received_by :
    {program : Y.Program} {m : Main program} {caller : Y.BlockHead} {ns : List ℕ} {valued : Bool}
    {level number : ℕ} (i : Inner m caller ns valued level number) →
    IsReceiving program i.head i.body (indices_of (parameters_for i)) (result_by valued (precision_of i))
received_by {program} {ns = ns} {valued = valued} i =
    subst (λ is. IsReceiving program i.head i.body is (result_by valued (precision_of i)))
    (sym (indices_are (environment_for program i.head) ns)) (returns_so i)

-- no more copies than may come between two acts
copies_paid :
    {program : Y.Program} (m : Main program) {caller : Y.BlockHead} {ns : List ℕ} {valued : Bool}
    {level number : ℕ} (i : Inner m caller ns valued level number) (ways : List Way) → length ways ≡ length ns →
    0 < length ns → copies_among ways ≤ most_words
copies_paid {program} m i ways many some =
    let ds = variables_of_block program i.head.number in
    let few = copies_few ways in
    let inside = (own_of i some).inside in
    let each = many_behind (received_in ds) ds (beside_received ds) (behind_here ds) in
    let enough = serials_enough program i.head.number m.known in
    omega (arith, few, inside, each, enough, many)

pub listed_declared :
    {program : Y.Program} (m : Main program) {input : List ℕ} {acts : ℕ} {valued : Bool} {more b : ℕ} {a : Running}
    (h : IsRunning m input acts valued (suc more) a (suc b)) → {ns : List ℕ} {v : Bool}
    {level number : ℕ} (i : Inner m a.head ns v level number) (t : Site') →
    IsSite (block_of_run program input acts valued (suc more) a) ns t →
    IsDeclared (block_of_run program input acts valued (suc more) a)
    (listed_in i more (block_of_run program input acts valued (suc more) a) t) more
listed_declared {program} m {input} {acts} {valued} {more} {a = a} h {ns} {v} i t is =
    let k = block_of_run program input acts valued (suc more) a in
    let e = environment_for program i.head in
    let f = h.free in
    let own = own_of i is.some in
    let few = own.few in
    let set = inner_set m i in
    let waiting = i.waiting in
    let level = (known program i.head i.body i.result m.loadable.well_formed i.is).level in
    let set' = is.few in
    let room = is.room in
    let many = is.many in
    let long = parameters_many e ns in
    let some = is.some in
    let fits = f.fits in
    let used = f.used in
    let under = f.under in
    let copies = copies_few t.ways in
    let paid = copies_paid m i t.ways is.many is.some in
    let top = ap (λ ls. upper_top image_parts ls) f.newest in
    let low = ap (λ ls. lower_end image_parts ls) f.newest in
    let tabled = first_tabled e k.first.places.signatures (variables_of_block program i.head.number) ns is.some
    own.parameters (h.tabled i.head) in
    record {
      begun = h.begun;
      many = is.many ∙ sym long;
      space = record {
        newest = is.newest;
        words = is.room;
        near = omega (arith, room, set');
        free = λ n v'. told_low t.layer.waits t.words n v' is.free;
        room = omega (arith, set, waiting, level, fits, used, top, low, copies, many, few, long, some);
        even = omega (arith, low, under);
        idle = h.idle;
        low = f.low;
        numbered = are_numbered e (λ n. shape_at k.first.places.signatures n) ns tabled.shape tabled.small;
      };
      small = omega (arith, paid);
      nested = h.nested;
      around_it = i.around_it;
      inner = i.inside;
      parent = refl;
      enough = h.enough;
    }

-- where its parameters have been bound
pub bound_at :
    {program : Y.Program} {m : Main program} {caller : Y.BlockHead} {ns : List ℕ} {valued : Bool} {level number : ℕ}
    (i : Inner m caller ns valued level number) (more : ℕ) (k : Block) (t : Site') (p : Point) (numbers : ℕ → ℕ)
    (ys : List Passing) → length (parameters_for i) ≡ length ys →
    AreBound (parameters_for i) ys t.words (listed_layer (passed_at i more k t p numbers ys))
    (caller_of (passed_at i more k t p numbers ys)) t.others
    (activation_in (function_by valued) (passed_at i more k t p numbers ys)) p.state.activations
    (entered_point (giving_of (function_by valued) (passed_at i more k t p numbers ys)))
    (bound_point (function_by valued) (passed_at i more k t p numbers ys))
bound_at {valued = valued} i more k t p numbers ys many =
    let y = passed_at i more k t p numbers ys in
    all_bound t.words (parameters_for i) ys (listed_layer y) (caller_of y) t.others
    (activation_in (function_by valued) y) p.state.activations (entered_point (giving_of (function_by valued) y)) many
    refl refl

-- the copies pass no limit on what is AUTOMATIC
abbrev pub CopiesFit : Block → List Way → Type 0
CopiesFit k ways = nat_le (automatic_in_use k.first.state.living + copies_take ways) most_automatic ≡ true
