-- The variables that a block of the class has behind its parameters are made where these have been bound, or pass the
-- limit on what is AUTOMATIC; and the account of free room there.
use Rattle.std.proofs.Common.{◌≡◌, ℕ, suc, ◌+◌, ◌*◌, ◌%◌, ◌^◌, ◌<◌, ◌≤◌, List, [], ◌∷◌, length, Bool, refl, sym, ap}
use Rattle.std.proofs.Common.{◌∙◌, subst, arith}
use Rattle.std.proofs.lemmas.Bool.{leb-true}
use Rattle.pli_typing.specs.TypedTree as Y
use Rattle.pli_meaning.specs.DeclaredShapes.{variables_of_block}
use Rattle.pli_meaning.specs.Raising.{at_line}
use Rattle.pli_meaning.specs.StorageState.{automatic_in_use, most_automatic}
use Rattle.pli_coding.specs.Frames.{parameters_in, parameters_of_block, fixed_size, variable_place}
use Rattle.activation_relation.specs.FrameLaws.{with_waits}
use Rattle.activation_relation.specs.Frames.{lower_end, upper_top}
use Rattle.activation_relation.specs.Layers.{Layer, Point}
use Rattle.activation_relation.proofs.Returning.{in_use_later}
use Rattle.program_places.specs.Constants.{constants_in}
use Rattle.program_places.specs.Programs.{environment_for, code_for, links_for}
use Rattle.program_places.proofs.Found.{known}
use Rattle.program_runs.specs.Statements.{Block, IsAmong}
use Rattle.program_runs.specs.Starts.{image_parts}
use Rattle.argument_runs.specs.ListCalls.{entered_point}
use Rattle.list_calls.specs.Arguments.{ComeTo, Way}
use Rattle.list_calls.specs.ListCalls.{copies_take}
use Rattle.list_calls.specs.Lists.{Parameter, Passing, PassesCopy, PassesName, bound_all, bound_layer, copied_at}
use Rattle.list_calls.specs.Lists.{copy_with, name_told, named_as, bindings_with}
use Rattle.list_calls.specs.Taking.{ListCall, bound_point, giving_of, given_waits, listed_layer, AreFullBeside}
use Rattle.list_calls.specs.Taking.{bound_waits, variables_index}
use Rattle.list_calls.proofs.ListBlocks.{activation_in, layer_is}
use Rattle.list_calls.proofs.ListCalls.{come_copies}
use Rattle.list_calls.proofs.ListGiving.{come_many}
use Rattle.number_runs.specs.Variables.{AreTabled, EachBegins, bytes_of, HaveRoom}
use Rattle.number_headlines.specs.Programs.{beside_received, most_bytes, received_in}
use Rattle.number_headlines.proofs.CalledBlocks.{inner_set}
use Rattle.number_headlines.proofs.Inner.{Inner}
use Rattle.number_headlines.proofs.Mains.{Main, surroundings_for}
use Rattle.number_headlines.proofs.Running.{IsRunning, Running, around_for, block_of_run, free_among, function_by}
use Rattle.number_headlines.proofs.Running.{table_later, frame_bytes}
use Rattle.number_headlines.proofs.Tables.{serials_enough, block_known}
use Rattle.pli_meaning.specs.Executing as M
use Rattle.pli_coding.specs.Assembly.{size_of}
use Rattle.pli_coding.specs.Images.{linked_code}
use Rattle.run_steps.specs.Items.{Linked}
use Rattle.block_runs.proofs.Places.{bounds}
use Rattle.number_runs.proofs.Words.{places_are, words_code, room_behind, room_fewer, words_declared, words_listed}
use Rattle.number_runs.proofs.Words.{words_those}
use Rattle.number_headlines.proofs.FullWords.{words_over, IsOwner, words_at, words_count, words_lower}
use Rattle.pli_meaning.specs.Making as K
use Rattle.pli_coding.specs.Entries.{variables_code, variables_made}
use Rattle.activation_relation.specs.Points.{Surroundings}
use Rattle.activation_relation.specs.Variables.{grown}
use Rattle.variable_runs.specs.Lists.{all_made, layer_after, made_code, AreThose}
use Rattle.argument_runs.specs.Copies.{copy_made_of}
use Rattle.list_calls.specs.WordsBeside.{AreAllBeside}
use Rattle.number_headlines.proofs.ListBounds.{bound_used, layer_lower}
use Rattle.number_headlines.proofs.ListPlaces.{parameters_many}
use Rattle.number_headlines.proofs.ListSites.{CopiesFit, IsSite, Site', bound_at, copies_few, own_of, parameters_for}
use Rattle.number_headlines.proofs.ListSites.{passed_at, words_for}
use Rattle.number_headlines.proofs.Begins.{begins_at, block_begins}
use Rattle.number_headlines.proofs.ListWords.{begins_behind, behind_here, bytes_behind, code_behind}
use Rattle.number_headlines.proofs.ListWords.{many_behind, means_behind}
use Rattle.number_headlines.proofs.ListWords.{parameter_before, parameter_there, place_behind, tabled_behind}
use Rattle.number_headlines.proofs.ListWords.{those_behind, words_many}

-- ---- the account of free room

-- the newest block's frame ends behind a place, and above it there is room for the frames of so many blocks, and for
-- all that may be AUTOMATIC yet
pub record HasAccount (w : Surroundings) (q : Point) (φ : Layer) (φs : List Layer) (place blocks : ℕ) : Type 0 where
  pub newest : q.control.layers ≡ φ ∷ φs
  pub here : φ.at + place ≡ φ.top
  pub even : φ.top % 16 ≡ 0
  pub under : φ.lower % 16 ≡ 0
  pub low : q.places.low ≤ w.parts.stack_start
  pub used : automatic_in_use q.state.living ≤ most_automatic
  pub inside : φ.lower ≤ 15 * 2 ^ 20
  pub fits : φ.top + frame_bytes * blocks + most_automatic ≤ φ.lower + automatic_in_use q.state.living

-- ---- a call at a point of the calling block, with what is passed, whose copies pass no limit

pub record Arrived {program : Y.Program} (m : Main program) (input : List ℕ) (acts : ℕ) (valued : Bool) (more b : ℕ)
    (a : Running) (ns : List ℕ) (v : Bool) (level number : ℕ) : Type 0 where
  pub caller : IsRunning m input acts valued (suc more) a (suc b)
  pub inner : Inner m a.head ns v level number
  pub site : Site'
  pub is : IsSite (block_of_run program input acts valued (suc more) a) ns site
  pub fits : CopiesFit (block_of_run program input acts valued (suc more) a) site.ways
  pub point : Point
  pub numbers : ℕ → ℕ
  pub passed : List Passing
  pub among : IsAmong (block_of_run program input acts valued (suc more) a) numbers point
  pub come : ComeTo site.ways passed

abbrev pub call_at :
    {program : Y.Program} → {m : Main program} → {input : List ℕ} → {acts : ℕ} → {valued : Bool} → {more b : ℕ} →
    {a : Running} → {ns : List ℕ} → {v : Bool} → {level number : ℕ} →
    Arrived m input acts valued more b a ns v level number → ListCall
call_at {program} {input = input} {acts = acts} {valued = valued} {more = more} {a = a} o =
    passed_at o.inner more (block_of_run program input acts valued (suc more) a) o.site o.point o.numbers o.passed

abbrev pub layer_at :
    {program : Y.Program} → {m : Main program} → {input : List ℕ} → {acts : ℕ} → {valued : Bool} → {more b : ℕ} →
    {a : Running} → {ns : List ℕ} → {v : Bool} → {level number : ℕ} →
    Arrived m input acts valued more b a ns v level number → Layer
layer_at o = bound_layer (parameters_for o.inner) o.passed (listed_layer (call_at o))

abbrev pub others_at :
    {program : Y.Program} → {m : Main program} → {input : List ℕ} → {acts : ℕ} → {valued : Bool} → {more b : ℕ} →
    {a : Running} → {ns : List ℕ} → {v : Bool} → {level number : ℕ} →
    Arrived m input acts valued more b a ns v level number → List Layer
others_at o = with_waits (bound_waits (call_at o)) o.site.layer ∷ o.site.others

abbrev pub point_at :
    {program : Y.Program} → {m : Main program} → {input : List ℕ} → {acts : ℕ} → {valued : Bool} → {more b : ℕ} →
    {a : Running} → {ns : List ℕ} → {v : Bool} → {level number : ℕ} →
    Arrived m input acts valued more b a ns v level number → Point
point_at {v = v} o = bound_point (function_by v) (call_at o)

-- binding leaves what the table and the lower end of storage are
bound_places :
    (words : ℕ) (xs : List Parameter) (ys : List Passing) (ψ φ : Layer) (φs : List Layer) (p : Point) →
    ((bound_all words xs ys ψ φ φs p).places.signatures ≡ p.places.signatures)
    × ((bound_all words xs ys ψ φ φs p).places.low ≡ p.places.low)
    × ((bound_all words xs ys ψ φ φs p).places.constants ≡ p.places.constants)
bound_places words [] ys ψ φ φs p = (refl, refl, refl)
bound_places words (x ∷ xs) [] ψ φ φs p = (refl, refl, refl)
bound_places words (x ∷ xs) (PassesCopy z ∷ ys) ψ φ φs p =
    let last = words + 6 * length ys in
    bound_places words xs ys (grown (copy_made_of ψ (copy_with x z)) ψ)
    (with_waits (name_told last (p.state.serials + 1) x.number 1 φ.waits) φ) φs
    (copied_at last ψ φ φs (copy_with x z) p)
bound_places words (x ∷ xs) (PassesName serial signature ∷ ys) ψ φ φs p =
    bound_places words xs ys ψ φ φs (named_as x serial p)

-- as many are passed as there are parameters
pub all_passed :
    {program : Y.Program} {m : Main program} {input : List ℕ} {acts : ℕ} {valued : Bool} {more b : ℕ} {a : Running}
    {ns : List ℕ} {v : Bool} {level number : ℕ} (o : Arrived m input acts valued more b a ns v level number) →
    length (parameters_for o.inner) ≡ length o.passed
all_passed {program} {ns = ns} o =
    let long = parameters_many (environment_for program o.inner.head) ns in
    let many = o.is.many in
    let passed = come_many o.site.ways o.passed o.come in
    omega (arith, long, many, passed)

pub bound_account :
    {program : Y.Program} (m : Main program) {input : List ℕ} {acts : ℕ} {valued : Bool} {more b : ℕ} {a : Running}
    {ns : List ℕ} {v : Bool} {level number : ℕ} (o : Arrived m input acts valued more b a ns v level number) →
    HasAccount (surroundings_for program input acts) (point_at o) (layer_at o) (others_at o)
    (fixed_size o.inner.head.level (length ns)) b
bound_account {program} m {input} {acts} {valued} {more} {b} {a} {ns} {v} o =
    let w = surroundings_for program input acts in
    let k = block_of_run program input acts valued (suc more) a in
    let i = o.inner in
    let p = o.point in
    let h = o.caller in
    let xs = parameters_for i in
    let ys = o.passed in
    let g = function_by v in
    let y = call_at o in
    let ψ = listed_layer y in
    let same' = layer_is xs ys ψ in
    let set = inner_set m i in
    let waiting = i.waiting in
    let level = (known program i.head i.body i.result m.loadable.well_formed i.is).level in
    let f = free_among (suc b) h.begun o.among h.free in
    let same = in_use_later w k.first p h.begun.resumes.stands o.among.stands o.among.later in
    let fits = f.fits in
    let even = f.even in
    let under = f.under in
    let limit = leb-true _ most_automatic o.fits in
    let copies = come_copies o.site.ways ys o.come in
    let long = parameters_many (environment_for program i.head) ns in
    let some = o.is.some in
    let top = ap (λ (φ : Layer). φ.top) same' in
    let at = ap (λ (φ : Layer). φ.at) same' in
    let newest : p.control.layers ≡ o.site.layer ∷ o.site.others = o.among.later.layers ∙ o.is.newest in
    let low' = ap (λ ls. lower_end image_parts ls) f.newest in
    let top' = ap (λ ls. upper_top image_parts ls) f.newest in
    let low'' = ap (λ ls. lower_end image_parts ls) newest in
    let top'' = ap (λ ls. upper_top image_parts ls) newest in
    let many = all_passed o in
    let bound = bound_at i more k o.site p o.numbers ys many in
    let lower = layer_lower xs ys ψ many (omega (arith, fits, limit, same, copies, low', low'')) in
    let counts = bound_used y.words xs ys ψ (with_waits (given_waits y) y.layer) y.others
    (entered_point (giving_of g y)) (length p.state.activations) many (omega arith) in
    let places = bound_places y.words xs ys ψ (with_waits (given_waits y) y.layer) y.others
    (entered_point (giving_of g y)) in
    let high = (bounds image_parts p.control.layers o.among.stands.laid).high in
    record {
      newest = bound.layers;
      here = omega (arith, at, top, long);
      even = omega (arith, even, set, waiting, level, top, top', top'', long, some);
      under = omega (arith, under, lower, low', low'');
      low = subst (λ n. n ≤ w.parts.stack_start) (sym places.1) f.low;
      used = omega (arith, counts, same, limit, copies);
      inside = omega (arith, lower, low'', high);
      fits = omega (arith, fits, set, waiting, level, counts, lower, low', low'', top', top'', top, long, some);
    }

-- the block's variables, those behind its parameters
abbrev pub beside_in : (program : Y.Program) → Y.BlockHead → List Y.DeclaredVariable
beside_in program head = beside_received (variables_of_block program head.number)

-- the variables don't pass the limit on what is AUTOMATIC either
abbrev pub AllFit : (program : Y.Program) → Block → Y.BlockHead → List Way → Type 0
AllFit program k head ways =
    automatic_in_use k.first.state.living + copies_take ways + bytes_of (beside_in program head) ≤ most_automatic

-- what the newest activation stands for there
bound_owner :
    {program : Y.Program} {m : Main program} {input : List ℕ} {acts : ℕ} {valued : Bool} {more b : ℕ} {a : Running}
    {ns : List ℕ} {v : Bool} {level number : ℕ} (o : Arrived m input acts valued more b a ns v level number) →
    IsOwner (point_at o)
bound_owner {program} {input = input} {acts = acts} {valued = valued} {more = more} {a = a} {v = v} o =
    let k = block_of_run program input acts valued (suc more) a in
    let bound = bound_at o.inner more k o.site o.point o.numbers o.passed (all_passed o) in
    record {
      activation = record (activation_in (function_by v) (call_at o)) {
        bindings = bindings_with o.point.state.serials (parameters_for o.inner) o.passed [];
      };
      below = o.point.state.activations;
      active = bound.activations;
      some = omega arith;
    }

-- what the variables take, and where the fixed part of the frame ends
record IsSized (program : Y.Program) (head : Y.BlockHead) (ns : List ℕ) : Type 0 where
  bytes : bytes_of (beside_in program head) ≤ most_bytes
  fixed : fixed_size head.level (length ns) ≤ 512

sized_by :
    {program : Y.Program} (m : Main program) {caller : Y.BlockHead} {ns : List ℕ} {v : Bool} {level number : ℕ}
    (i : Inner m caller ns v level number) → IsSized program i.head ns
sized_by {program} m {v = v} i =
    let ds = variables_of_block program i.head.number in
    let level = (known program i.head i.body i.result m.loadable.well_formed i.is).level in
    let room = (block_known program.variables i.head.number m.known).room in
    let fewer = bytes_behind (received_in ds) ds (beside_received ds) (behind_here ds) in
    record { bytes = omega (arith, room, fewer); fixed = omega (arith, level) }

-- so there is room for them
pub words_room :
    {program : Y.Program} (m : Main program) {input : List ℕ} {acts : ℕ} {valued : Bool} {more b : ℕ} {a : Running}
    {ns : List ℕ} {v : Bool} {level number : ℕ} (o : Arrived m input acts valued more b a ns v level number) →
    AllFit program (block_of_run program input acts valued (suc more) a) o.inner.head o.site.ways →
    HaveRoom (surroundings_for program input acts) (point_at o) (layer_at o) (others_at o)
    (fixed_size o.inner.head.level (length ns)) (bytes_of (beside_in program o.inner.head))
words_room {program} m {input} {acts} {valued} {more} {b} {a} {ns} {v} o all =
    let w = surroundings_for program input acts in
    let k = block_of_run program input acts valued (suc more) a in
    let i = o.inner in
    let p = o.point in
    let h = o.caller in
    let y = call_at o in
    let account = bound_account m o in
    let fits = account.fits in
    let s = sized_by m i in
    let bytes = s.bytes in
    let fixed = s.fixed in
    let same = in_use_later w k.first p h.begun.resumes.stands o.among.stands o.among.later in
    let copies = come_copies o.site.ways o.passed o.come in
    let counts = bound_used y.words (parameters_for i) o.passed (listed_layer y) (with_waits (given_waits y) y.layer)
    y.others (entered_point (giving_of (function_by v) y)) (length p.state.activations) (all_passed o) (omega arith) in
    record {
      newest = account.newest;
      here = account.here;
      even = account.even;
      counted = omega (arith, bytes, fixed);
      fits = omega (arith, fits, all, same, copies, counts);
      low = account.low;
      limit = omega (arith, all, same, copies, counts);
    }

-- ---- they are made

-- the table has their signatures
words_tabled :
    {program : Y.Program} {m : Main program} {input : List ℕ} {acts : ℕ} {valued : Bool} {more b : ℕ} {a : Running}
    {ns : List ℕ} {v : Bool} {level number : ℕ} (o : Arrived m input acts valued more b a ns v level number) →
    AreTabled (environment_for program o.inner.head) (point_at o).places.signatures (beside_in program o.inner.head)
words_tabled {program} {v = v} o =
    let i = o.inner in
    let y = call_at o in
    let ds = variables_of_block program i.head.number in
    let e = environment_for program i.head in
    let places = bound_places y.words (parameters_for i) o.passed (listed_layer y) (with_waits (given_waits y) y.layer)
    y.others (entered_point (giving_of (function_by v) y)) in
    subst (λ signatures. AreTabled e signatures (beside_received ds)) (sym places.0)
    (tabled_behind e o.point.places.signatures (received_in ds) ds (beside_received ds) (behind_here ds)
    (table_later program o.among.later.remains o.caller.tabled i.head))

-- what they begin with is told
words_begin :
    {program : Y.Program} (m : Main program) {input : List ℕ} {acts : ℕ} {valued : Bool} {more b : ℕ} {a : Running}
    {ns : List ℕ} {v : Bool} {level number : ℕ} (o : Arrived m input acts valued more b a ns v level number) →
    EachBegins (point_at o).places.constants (linked_code (code_for program)) (links_for program).data'
    (beside_in program o.inner.head)
words_begin {program} m {ns = ns} {v = v} o =
    let i = o.inner in
    let y = call_at o in
    let ds = variables_of_block program i.head.number in
    let places = bound_places y.words (parameters_for i) o.passed (listed_layer y) (with_waits (given_waits y) y.layer)
    y.others (entered_point (giving_of (function_by v) y)) in
    begins_at program (beside_received ds) (point_at o).places.constants
    (places.2 ∙ o.among.later.remains.constants ∙ o.caller.told.constants)
    (begins_behind (constants_in (code_for program)) (linked_code (code_for program)) (links_for program).data'
    (received_in ds) ds (beside_received ds) (behind_here ds)
    (block_begins program i.head i.body ns i.result m.memory m.known i.is))

words_coded :
    {program : Y.Program} (m : Main program) {caller : Y.BlockHead} {ns : List ℕ} {v : Bool} {level number : ℕ}
    (i : Inner m caller ns v level number) → 0 < length ns →
    variables_code (environment_for program i.head) i.head.line
    ≡ made_code (environment_for program i.head) (words_for i)
words_coded {program} m {ns = ns} i some =
    let e = environment_for program i.head in
    let ds = variables_of_block program i.head.number in
    let first = received_in ds in
    let es = beside_received ds in
    let behind = behind_here ds in
    let own = own_of i some in
    let place = fixed_size i.head.level (length ns) in
    let s = sized_by m i in
    let bytes = s.bytes in
    let fixed = s.fixed in
    let at = places_are e.parts place es own.beside (omega (arith, bytes, fixed)) in
    let start : fixed_size e.level (length (parameters_of_block e.program e.block)) ≡ place =
    ap (λ (us : List ℕ). fixed_size e.level (length us)) (ap parameters_in i.is) in
    let j : 0 + first ≡ first = omega arith in
    code_behind e i.head.line 0 first ds es behind
    ∙ ap (λ n. variables_made e i.head.line n es) j
    ∙ words_code e i.head.line place first es own.beside
    (λ n less.
    ap (λ at'. variable_place e.parts at' ds (first + n)) start
    ∙ place_behind e.parts place first ds es n behind (omega (arith, fixed))
    ∙ at n less)

pub all_beside :
    {program : Y.Program} (m : Main program) {input : List ℕ} {acts : ℕ} {valued : Bool} {more b : ℕ} {a : Running}
    {ns : List ℕ} {v : Bool} {level number : ℕ} (o : Arrived m input acts valued more b a ns v level number) →
    AllFit program (block_of_run program input acts valued (suc more) a) o.inner.head o.site.ways →
    AreAllBeside (function_by v) (call_at o) (received_in (variables_of_block program o.inner.head.number))
    (words_for o.inner)
all_beside {program} m {input} {acts} {ns = ns} {v = v} o all =
    let w = surroundings_for program input acts in
    let i = o.inner in
    let e = environment_for program i.head in
    let ds = variables_of_block program i.head.number in
    let first = received_in ds in
    let es = beside_received ds in
    let behind = behind_here ds in
    let own = own_of i o.is.some in
    let inside = own.inside in
    let place = fixed_size i.head.level (length ns) in
    let copies = come_copies o.site.ways o.passed o.come in
    let paid = copies_few o.site.ways in
    let ways = o.is.many in
    let length' = words_many e place first es in
    let each = many_behind first ds es behind in
    let enough = serials_enough program i.head.number m.known in
    let j : first ≡ 0 + first = omega arith in
    record {
      kind = (known program i.head i.body i.result m.loadable.well_formed i.is).kind;
      those =
          those_behind first 0 ds es (words_for i) behind
          (subst (λ n. AreThose n (words_for i) es) j (words_those e place first es));
      before = λ n x there.
          parameter_before first ds es x.index behind own.beside (parameter_there e ds ns n x own.parameters there);
      listed = words_listed e place first es own.beside;
      code = words_coded m i o.is.some;
      parts = refl;
      many = all_passed o;
      few = omega (arith, copies, paid, ways, inside, length', each, enough);
      declared =
          words_declared w (linked_code (code_for program)) (point_at o) (layer_at o) (others_at o) e place first es
          own.beside (words_tabled o) (words_begin m o) (words_room m o all);
    }

-- behind them the account is as it was
pub made_account :
    {program : Y.Program} (m : Main program) {input : List ℕ} {acts : ℕ} {valued : Bool} {more b : ℕ} {a : Running}
    {ns : List ℕ} {v : Bool} {level number : ℕ} (o : Arrived m input acts valued more b a ns v level number) →
    AllFit program (block_of_run program input acts valued (suc more) a) o.inner.head o.site.ways →
    HasAccount (surroundings_for program input acts)
    (all_made image_parts (layer_at o) (words_for o.inner) (point_at o))
    (layer_after image_parts ((point_at o).state.serials + 1) (layer_at o) (words_for o.inner)) (others_at o)
    (fixed_size o.inner.head.level (length ns) + bytes_of (beside_in program o.inner.head)) b
made_account {program} m {input} {acts} {ns = ns} o all =
    let w = surroundings_for program input acts in
    let i = o.inner in
    let e = environment_for program i.head in
    let ds = variables_of_block program i.head.number in
    let first = received_in ds in
    let es = beside_received ds in
    let own = own_of i o.is.some in
    let place = fixed_size i.head.level (length ns) in
    let q = point_at o in
    let φ = layer_at o in
    let serial = q.state.serials + 1 in
    let account = bound_account m o in
    let fits = account.fits in
    let under = account.under in
    let inside = account.inside in
    let here = account.here in
    let begun = words_room m o all in
    let limit = begun.limit in
    let room = room_behind w q φ (others_at o) e place first 0 es own.beside
    (room_fewer w q φ (others_at o) place (bytes_of es + 0) (bytes_of es) (omega arith) begun) in
    let there = room.here in
    let lower = words_lower image_parts serial φ (words_for i) in
    let at = words_at image_parts serial φ (words_for i) in
    let counts = words_count image_parts q φ e place first es own.beside (bound_owner o) in
    record {
      newest = room.newest;
      here = room.here;
      even = room.even;
      under = omega (arith, lower, under);
      low = room.low;
      used = omega (arith, counts, limit);
      inside = omega (arith, lower, inside);
      fits = omega (arith, fits, there, here, at, lower, counts);
    }

-- ---- or they pass the limit on what is AUTOMATIC

pub full_beside :
    {program : Y.Program} (m : Main program) {input : List ℕ} {acts : ℕ} {valued : Bool} {more b : ℕ} {a : Running}
    {ns : List ℕ} {v : Bool} {level number : ℕ} (o : Arrived m input acts valued more b a ns v level number) →
    acts + 1 < 2 ^ 64 →
    most_automatic
    < automatic_in_use (block_of_run program input acts valued (suc more) a).first.state.living
    + copies_take o.site.ways + bytes_of (beside_in program o.inner.head) →
    AreFullBeside (function_by v) (call_at o)
unfolding M.block_variables_made
full_beside {program} m {input} {acts} {valued} {more} {b} {a} {ns} {v} o few past =
    let w = surroundings_for program input acts in
    let code = linked_code (code_for program) in
    let k = block_of_run program input acts valued (suc more) a in
    let i = o.inner in
    let p = o.point in
    let h = o.caller in
    let head = i.head in
    let y = call_at o in
    let e = environment_for program head in
    let ds = variables_of_block program head.number in
    let first = received_in ds in
    let es = beside_received ds in
    let own = own_of i o.is.some in
    let place = fixed_size head.level (length ns) in
    let q = point_at o in
    let around = at_line (around_for program more) head.line in
    let kind = (known program head i.body i.result m.loadable.well_formed i.is).kind in
    let account = bound_account m o in
    let fits = account.fits in
    let used = account.used in
    let inside = account.inside in
    let s = sized_by m i in
    let bytes = s.bytes in
    let fixed = s.fixed in
    let same = in_use_later w k.first p h.begun.resumes.stands o.among.stands o.among.later in
    let copies = come_copies o.site.ways o.passed o.come in
    let counts = bound_used y.words (parameters_for i) o.passed (listed_layer y) (with_waits (given_waits y) y.layer)
    y.others (entered_point (giving_of (function_by v) y)) (length p.state.activations) (all_passed o) (omega arith) in
    let coded = words_coded m i o.is.some in
    let size = ap (λ u. size_of u) coded in
    let j : 0 + first ≡ first = omega arith in
    let over = words_over w code e around q o.numbers (layer_at o) (others_at o) place first es
    (record { parts = refl; acts = few }) own.beside (words_tabled o) (words_begin m o) (bound_owner o)
    (record {
      newest = account.newest;
      here = account.here;
      even = account.even;
      counted = omega (arith, bytes, fixed);
      inside = omega (arith, bytes, fits, used, inside);
      low = account.low;
      fits = omega (arith, fits);
      used = used;
    }) (omega (arith, past, same, copies, counts)) in
    record {
      state = over.state;
      means =
          ap (λ u. M.block_variables_made around head u acts q.state) kind
          ∙ means_behind around 0 first ds es acts q.state (behind_here ds)
          ∙ ap (λ n. K.variables_made around n es acts q.state) j
          ∙ over.means;
      ends = λ credits f stands paid l there.
          over.over credits (variables_index y.callee) f stands (omega (arith, paid, size))
          (subst (Linked w.links code (variables_index y.callee)) coded l) there;
    }
