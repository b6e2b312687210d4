-- The variables of a begin block of the class: made where it begins, unless they pass the limit.
use Rattle.std.proofs.Common.{◌≡◌, ℕ, suc, ◌+◌, ◌<◌, ◌≤◌, List, [], ◌∷◌, ◌++◌, Bool, refl, sym, ap, ◌∙◌}
use Rattle.std.proofs.Common.{length, None, Some, inr, subst, arith}
use Rattle.std.specs.Prelude.{slice_get}
use Rattle.pli_typing.specs.TypedTree as Y
use Rattle.pli_meaning.specs.DeclaredShapes.{declared_variable, variables_of_block}
use Rattle.pli_meaning.specs.Executing as M
use Rattle.pli_meaning.specs.Raising.{at_line}
use Rattle.pli_meaning.specs.StorageState.{automatic_in_use, most_automatic}
use Rattle.pli_types.specs.Templates.{Template}
use Rattle.pli_coding.specs.Allocating.{act_code}
use Rattle.pli_coding.specs.Assembly.{size_of}
use Rattle.pli_coding.specs.Entries.{block_left, entered_without_texts, frame_begun, frame_ended, variables_code}
use Rattle.pli_coding.specs.Environments.{Environment, Owner, none_taken, owned_by}
use Rattle.pli_coding.specs.Frames.{automatic_place, fixed_size, parameters_of_block, variable_place}
use Rattle.pli_coding.specs.Images.{linked_code}
use Rattle.pli_coding.specs.Instructions.{move}
use Rattle.pli_coding.specs.Registers.{a0, frame_register}
use Rattle.pli_coding.specs.Statements.{stmts_code}
use Rattle.activation_relation.specs.Frames.{lower_end, upper_top}
use Rattle.activation_relation.specs.Layers.{Point}
use Rattle.activation_relation.proofs.Returning.{in_use_later}
use Rattle.run_steps.specs.Items.{Linked}
use Rattle.run_steps.proofs.DataNamed.{is_named_back, is_named_front}
use Rattle.block_runs.proofs.Places.{bounds}
use Rattle.program_places.specs.Programs.{code_for, environment_for, links_for}
use Rattle.program_runs.specs.Starts.{image_parts}
use Rattle.program_runs.specs.Statements.{IsAmong}
use Rattle.expression_runs.specs.Variables.{Spot, variable_of}
use Rattle.variable_runs.specs.Lists.{Among, made_code}
use Rattle.begin_runs.specs.BeginBlocks.{begun_in, inner_layer, variables_index}
use Rattle.nested_begins.specs.BegunVariables.{AreAllIn, AreFullIn, IsOwnIn}
use Rattle.number_runs.specs.Variables.{AreTabled, EachBegins, HaveRoom, bytes_of, variable_bytes, words_from}
use Rattle.number_runs.specs.Variables.{words_in}
use Rattle.number_runs.proofs.Words.{bytes_before, places_are, slice_less, word_made, words_among, words_code}
use Rattle.number_runs.proofs.Words.{words_declared, words_listed, words_those, room_fewer}
use Rattle.number_headlines.proofs.Begins.{begins_at, each_begins, AllBegunIn}
use Rattle.number_headlines.proofs.BeginSites.{Stands, around_it, begin_environment_for, begin_in, set_in}
use Rattle.number_headlines.proofs.FullWords.{words_over}
use Rattle.number_headlines.proofs.Mains.{Main, surroundings_for}
use Rattle.number_headlines.proofs.Running.{Running, free_among, table_later}
use Rattle.number_headlines.proofs.Tables.{block_known, plain_block, serials_enough}

-- ---- what they begin with

-- the data that its code names have places, as those of the statement have
begun_told :
    {program : Y.Program} {m : Main program} {input : List ℕ} {acts : ℕ} {valued : Bool} {more b : ℕ} {a : Running}
    (z : Stands m input acts valued more b a) → AllBegunIn program (variables_of_block program z.head.number)
begun_told {program} {m} {a = a} z =
    let e = begin_environment_for program a z.head in
    let head = z.head in
    let ds = variables_of_block program head.number in
    let frame = frame_begun (begin_in z).words head.level 0 None in
    let enter = entered_without_texts 1 head.line in
    let own = variables_code e head.line in
    let rest = stmts_code e none_taken z.body ++ (block_left 0 ++ frame_ended (begin_in z).words) in
    each_begins program e head.line 0 ds m.memory (block_known program.variables head.number m.known).known
    (λ x h. z.placed.linked.named x
    (is_named_back x (act_code head.line) (move a0 frame_register ∷ (frame ++ (enter ++ (own ++ rest))))
    (inr (is_named_back x frame (enter ++ (own ++ rest))
    (is_named_back x enter (own ++ rest) (is_named_front x own rest h))))))

told_at :
    {program : Y.Program} {m : Main program} {input : List ℕ} {acts : ℕ} {valued : Bool} {more b : ℕ} {a : Running}
    (z : Stands m input acts valued more b a) {numbers : ℕ → ℕ} {p : Point} → IsAmong (around_it z) numbers p →
    EachBegins p.places.constants (linked_code (code_for program)) (links_for program).data'
    (variables_of_block program z.head.number)
told_at {program} z {p = p} o =
    begins_at program (variables_of_block program z.head.number) p.places.constants
    (o.later.remains.constants ∙ z.running.told.constants) (begun_told z)

-- the table doesn't know where a RETURN goes
tabled_owned :
    (owner : Owner) (e : Environment) (signatures : List Template) (ds : List Y.DeclaredVariable) →
    AreTabled e signatures ds → AreTabled (owned_by owner e) signatures ds
tabled_owned owner e signatures [] h = tt
tabled_owned owner e signatures (d ∷ ds) h =
    (record { small = h.0.small; shape = h.0.shape }, tabled_owned owner e signatures ds h.1)

tabled_in :
    {program : Y.Program} {m : Main program} {input : List ℕ} {acts : ℕ} {valued : Bool} {more b : ℕ} {a : Running}
    (z : Stands m input acts valued more b a) {numbers : ℕ → ℕ} {p : Point} → IsAmong (around_it z) numbers p →
    AreTabled (begin_environment_for program a z.head) p.places.signatures (variables_of_block program z.head.number)
tabled_in {program} {a = a} z {p = p} o =
    tabled_owned a.form.owner (environment_for program z.head) p.places.signatures
    (variables_of_block program z.head.number) (table_later program o.later.remains z.running.tabled z.head)

-- ---- where they are made

-- they don't pass the limit on what is AUTOMATIC
abbrev pub PassesNone : {program : Y.Program} → {m : Main program} → {input : List ℕ} → {acts : ℕ} →
    {valued : Bool} → {more b : ℕ} → {a : Running} → Stands m input acts valued more b a → Type 0
PassesNone {program} z =
    automatic_in_use (around_it z).first.state.living + bytes_of (variables_of_block program z.head.number)
    ≤ most_automatic

pub begin_room :
    {program : Y.Program} {m : Main program} {input : List ℕ} {acts : ℕ} {valued : Bool} {more b : ℕ} {a : Running}
    (z : Stands m input acts valued more b a) (p : Point) (numbers : ℕ → ℕ) → IsAmong (around_it z) numbers p →
    PassesNone z →
    HaveRoom (surroundings_for program input acts) (begun_in (around_it z) p numbers (begin_in z))
    (inner_layer (surroundings_for program input acts) p numbers (begin_in z)) p.control.layers
    (fixed_size z.head.level 0) (bytes_of (variables_of_block program z.head.number) + 0)
begin_room {program} {m} {input} {acts} {b = b} z p numbers o pass =
    let h = z.running in
    let w = surroundings_for program input acts in
    let k = around_it z in
    let f = free_among (suc b) h.begun o h.free in
    let same = in_use_later w k.first p h.begun.resumes.stands o.stands o.later in
    let words = set_in z in
    let waiting = z.within.waiting in
    let deep = z.within.deep in
    let few = (plain_block program.variables z.head.number m.known z.within.plain).room in
    let fits = f.fits in
    let even = f.even in
    let top = ap (λ ls. upper_top image_parts ls) f.newest in
    let low = ap (λ ls. lower_end image_parts ls) f.newest in
    record {
      newest = refl;
      here = refl;
      even = omega (arith, words, waiting, deep, even, top);
      counted = omega (arith, deep, few);
      fits = omega (arith, words, waiting, deep, fits, pass, same, top, low);
      low = f.low;
      limit = omega (arith, pass, same);
    }

many_words :
    (e : Environment) (place index : ℕ) (ds : List Y.DeclaredVariable) →
    length (words_from e place index ds) ≡ length ds
many_words e place index [] = refl
many_words e place index (d ∷ ds) = ap suc (many_words e (place + variable_bytes d) (index + 1) ds)

-- their code
coded_in :
    {program : Y.Program} {m : Main program} {input : List ℕ} {acts : ℕ} {valued : Bool} {more b : ℕ} {a : Running}
    (z : Stands m input acts valued more b a) →
    (begin_in z).variables
    ≡ made_code (begin_environment_for program a z.head) (words_in (begin_environment_for program a z.head))
coded_in {program} {m} {a = a} z =
    let e = begin_environment_for program a z.head in
    let ds = variables_of_block program z.head.number in
    let first = fixed_size z.head.level 0 in
    let deep = z.within.deep in
    let few = (plain_block program.variables z.head.number m.known z.within.plain).room in
    let at = places_are e.parts first ds z.within.plain (omega (arith, deep, few)) in
    let start : fixed_size e.level (length (parameters_of_block e.program e.block)) ≡ first =
    ap (λ (ns : List ℕ). fixed_size e.level (length ns)) z.within.bare in
    words_code e z.head.line first 0 ds z.within.plain
    (λ i less.
    ap (λ n. variable_place e.parts n ds (0 + i)) start
    ∙ ap (λ n. variable_place e.parts first ds n) (omega arith)
    ∙ at i less)

pub all_in :
    {program : Y.Program} {m : Main program} {input : List ℕ} {acts : ℕ} {valued : Bool} {more b : ℕ} {a : Running}
    (z : Stands m input acts valued more b a) (p : Point) (numbers : ℕ → ℕ) → IsAmong (around_it z) numbers p →
    PassesNone z →
    AreAllIn (around_it z) (begin_in z) p numbers (words_in (begin_environment_for program a z.head))
all_in {program} {m} {input} {acts} {a = a} z p numbers o pass =
    let w = surroundings_for program input acts in
    let e = begin_environment_for program a z.head in
    let ds = variables_of_block program z.head.number in
    let first = fixed_size z.head.level 0 in
    let few = serials_enough program z.head.number m.known in
    let many = many_words e first 0 ds in
    let start = begun_in (around_it z) p numbers (begin_in z) in
    let φ = inner_layer w p numbers (begin_in z) in
    record {
      kind = z.within.kind;
      those = words_those e first 0 ds;
      listed = words_listed e first 0 ds z.within.plain;
      code = coded_in z;
      made = refl;
      parts = refl;
      few = omega (arith, few, many);
      declared = words_declared w (linked_code (code_for program)) start φ p.control.layers e first 0 ds
          z.within.plain (tabled_in z o) (told_at z o)
          (room_fewer w start φ p.control.layers first (bytes_of ds) (bytes_of ds + 0) (omega arith)
          (begin_room z p numbers o pass));
    }

-- each of them stands where code looks for it
pub own_in :
    {program : Y.Program} {m : Main program} {input : List ℕ} {acts : ℕ} {valued : Bool} {more b : ℕ} {a : Running}
    (z : Stands m input acts valued more b a) (x : Spot) (d : Y.DeclaredVariable) →
    (x.block ≡ z.head.number) × (x.level ≡ z.head.level) → declared_variable program (variable_of x) ≡ Some d →
    IsOwnIn (around_it z) (begin_in z)
    (word_made (begin_environment_for program a z.head)
    (fixed_size z.head.level 0 + bytes_before (variables_of_block program z.head.number) x.index) (0 + x.index) d) x
    × Among
    (word_made (begin_environment_for program a z.head)
    (fixed_size z.head.level 0 + bytes_before (variables_of_block program z.head.number) x.index) (0 + x.index) d)
    (words_in (begin_environment_for program a z.head))
own_in {program} {m} {a = a} z x d own is =
    let e = begin_environment_for program a z.head in
    let ds = variables_of_block program z.head.number in
    let first = fixed_size z.head.level 0 in
    let there = ap (λ n. slice_get (variables_of_block program n) x.index) (sym own.0) ∙ is in
    let less = slice_less ds x.index d there in
    let deep = z.within.deep in
    let few = (plain_block program.variables z.head.number m.known z.within.plain).room in
    let at = places_are e.parts first ds z.within.plain (omega (arith, deep, few)) in
    let start : fixed_size e.level (length (parameters_of_block e.program e.block)) ≡ first =
    ap (λ (ns : List ℕ). fixed_size e.level (length ns)) z.within.bare in (
      record {
        declared = is;
        index = omega arith;
        level = own.1;
        place =
            ap (λ n. automatic_place e.parts e.program n x.level x.index) own.0
            ∙ ap (λ n. automatic_place e.parts e.program e.block n x.index) own.1
            ∙ ap (λ n. variable_place e.parts n ds x.index) start ∙ at x.index less;
      },
      words_among e first 0 x.index ds d there,
    )

-- ---- where they pass the limit

pub full_in :
    {program : Y.Program} {m : Main program} {input : List ℕ} {acts : ℕ} {valued : Bool} {more b : ℕ} {a : Running}
    (z : Stands m input acts valued more b a) (p : Point) (numbers : ℕ → ℕ) → IsAmong (around_it z) numbers p →
    most_automatic < automatic_in_use (around_it z).first.state.living
    + bytes_of (variables_of_block program z.head.number) →
    AreFullIn (around_it z) (begin_in z) z.index p numbers
unfolding M.block_variables_made
full_in {program} {m} {input} {acts} {b = b} {a = a} z p numbers o past =
    let h = z.running in
    let w = surroundings_for program input acts in
    let code = linked_code (code_for program) in
    let k = around_it z in
    let x = begin_in z in
    let e = begin_environment_for program a z.head in
    let head = z.head in
    let φ = inner_layer w p numbers x in
    let start = begun_in k p numbers x in
    let ds = variables_of_block program head.number in
    let first = fixed_size head.level 0 in
    let around = at_line x.around head.line in
    let count = (plain_block program.variables head.number m.known z.within.plain).room in
    let deep = z.within.deep in
    let words = set_in z in
    let waiting = z.within.waiting in
    let f = free_among (suc b) h.begun o h.free in
    let same = in_use_later w k.first p h.begun.resumes.stands o.stands o.later in
    let laid = bounds image_parts p.control.layers o.stands.laid in
    let free' = laid.free in
    let high = laid.high in
    let used = f.used in
    let fits = f.fits in
    let even = f.even in
    let top = ap (λ ls. upper_top image_parts ls) f.newest in
    let low = ap (λ ls. lower_end image_parts ls) f.newest in
    let coded = coded_in z in
    let size = ap (λ u. size_of u) coded in
    let over = words_over w code e around start numbers φ p.control.layers first 0 ds
    (record { parts = refl; acts = z.few }) z.within.plain (tabled_in z o) (told_at z o)
    (record { activation = _; below = _; active = refl; some = omega arith })
    (record {
      newest = refl;
      here = refl;
      even = omega (arith, words, waiting, deep, even, top);
      counted = omega (arith, deep, count);
      inside = omega (arith, words, waiting, deep, count, free', high);
      low = f.low;
      fits = omega (arith, words, waiting, deep, fits, top, low);
      used = used;
    }) (omega (arith, past, same)) in
    record {
      state = over.state;
      means = ap (λ q. M.block_variables_made around head q acts start.state) z.within.kind ∙ over.means;
      ends = λ credits g stands paid l there.
          over.over credits (variables_index k p numbers x z.index) g stands (omega (arith, paid, size))
          (subst (Linked w.links code (variables_index k p numbers x z.index)) coded l) there;
    }
