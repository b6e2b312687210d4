-- A begin block among the statements of a running block of the class: what BEGIN asks of it.
use Rattle.std.proofs.Common.{◌≡◌, ℕ, suc, ◌+◌, ◌^◌, ◌<◌, ◌≤◌, List, [], ◌∷◌, ◌++◌, Bool, true, false, refl, ap, ◌∙◌}
use Rattle.std.proofs.Common.{None, length, arith}
use Rattle.std.specs.Prelude.{◌&&◌, ◌==◌, nat_le, nat_lt}
use Rattle.std.proofs.lemmas.Bool.{and_parts, eqb-true, leb-true, ltb-true}
use Rattle.pli_typing.specs.TypedTree as Y
use Rattle.pli_meaning.specs.Control.{Label}
use Rattle.pli_meaning.specs.DeclaredShapes.{variables_of_block}
use Rattle.pli_meaning.specs.Executing.{begun, labels_in}
use Rattle.pli_meaning.specs.StorageState.{most_activations}
use Rattle.pli_coding.specs.Entries.{variables_code}
use Rattle.pli_coding.specs.Environments.{Environment, block_around, none_taken, owned_by}
use Rattle.pli_coding.specs.Frames.{fixed_size, parameters_of_block, temporary_bytes}
use Rattle.pli_coding.specs.Images.{linked_code}
use Rattle.pli_coding.specs.Statements.{block_words, stmt_code}
use Rattle.activation_relation.specs.Frames.{lower_end, upper_top}
use Rattle.activation_relation.specs.Layers.{Point}
use Rattle.program_places.specs.Placed.{Placed}
use Rattle.program_places.specs.Programs.{code_for, environment_for, links_for}
use Rattle.program_runs.specs.Starts.{image_parts}
use Rattle.program_runs.specs.Statements.{Block, as_outer, own_height}
use Rattle.variable_runs.specs.Lists.{newest_all}
use Rattle.begin_runs.specs.BeginBlocks as N
use Rattle.begin_runs.specs.BeginBlocks.{IsBegin, begun_in, end_index, entry_index, inner_layer, list_index}
use Rattle.nested_begins.specs.DeepBegins.{IsDeepBegin}
use Rattle.number_runs.specs.Numbers.{has_none}
use Rattle.number_runs.specs.Statements.{are_statements, begins_need, statements_need, statements_set}
use Rattle.number_runs.specs.Variables.{are_plain, words_in}
use Rattle.number_runs.proofs.BlocksTaken.{plain_known, words_set}
use Rattle.number_headlines.specs.Jumps.{labels_of}
use Rattle.number_headlines.specs.Programs.{is_begin_kind, is_begun, is_within, most_deep, most_waiting, scope_of}
use Rattle.number_headlines.specs.Programs.{stand_alike}
use Rattle.number_headlines.proofs.Mains.{Main, surroundings_for}
use Rattle.number_headlines.proofs.Running.{IsRunning, Running, around_for, block_of_run, environment_of_run}

-- ---- one of the class

pub record Within {program : Y.Program} (m : Main program) (valued : Bool) (a : Running) (head : Y.BlockHead)
    (body : Y.Stmts) : Type 0
  where
    pub kind : head.kind ≡ Y.BeginBlock
    pub level : head.level ≡ suc a.head.level
    pub deep : head.level < most_deep
    pub own : block_around (environment_for program head) head.level ≡ head.number
    pub alike : stand_alike (environment_for program a.head) (environment_for program head) a.head.level ≡ true
    pub bare : parameters_of_block program head.number ≡ []
    pub plain : are_plain (variables_of_block program head.number) ≡ true
    pub waiting : statements_set body ≤ most_waiting
    pub apart : labels_of program head.number ≡ []
    pub statements :
        are_statements (scope_of program m.called head body) valued (labels_in body ++ []) body ≡ true
    pub line : head.line < 2 ^ 31
    pub fits : statements_need body ≤ a.form.registers
    pub begins : begins_need body ≤ a.form.registers

kind_is : (kind : Y.BlockKind) → is_begin_kind kind ≡ true → kind ≡ Y.BeginBlock
kind_is Y.ProcedureBlock h = absurd (cc h)
kind_is Y.BeginBlock h = refl
kind_is Y.UnitBlock h = absurd (cc h)
kind_is Y.SimpleUnit h = absurd (cc h)

none_of : {A : Type 0} (xs : List A) → has_none xs ≡ true → xs ≡ []
none_of [] h = refl
none_of (x ∷ xs) h = absurd (cc h)

pub within_is :
    {program : Y.Program} (m : Main program) (valued : Bool) (a : Running) (head : Y.BlockHead) (body : Y.Stmts) →
    is_begun program a.head head body ≡ true →
    are_statements (scope_of program m.called head body) valued (labels_in body ++ []) body ≡ true →
    (head.line < 2 ^ 31) × (statements_need body ≤ a.form.registers) × (begins_need body ≤ a.form.registers) →
    Within m valued a head body
within_is {program} m valued a head body h statements fits =
    let e = environment_for program head in
    let bare = has_none (parameters_of_block program head.number) in
    let plain = are_plain (variables_of_block program head.number) in
    let few = nat_le (statements_set body) most_waiting in
    let apart = has_none (labels_of program head.number) in
    let alike = stand_alike (environment_for program a.head) e a.head.level in
    let own = block_around e head.level == head.number in
    let b = and_parts (is_within program a.head head) ((bare && plain) && (few && apart)) h in
    let c = and_parts (bare && plain) (few && apart) b.1 in
    let n = and_parts few apart c.1 in
    let d = and_parts bare plain c.0 in
    let f = and_parts (is_begin_kind head.kind)
    ((head.level == suc a.head.level) && (nat_lt head.level most_deep && (own && alike))) b.0 in
    let g = and_parts (head.level == suc a.head.level) (nat_lt head.level most_deep && (own && alike)) f.1 in
    let j = and_parts (nat_lt head.level most_deep) (own && alike) g.1 in
    let l = and_parts own alike j.1 in
    record {
      kind = kind_is head.kind f.0;
      level = eqb-true head.level (suc a.head.level) g.0;
      deep = ltb-true head.level most_deep j.0;
      own = eqb-true (block_around e head.level) head.number l.0;
      alike = l.1;
      bare = none_of (parameters_of_block program head.number) d.0;
      plain = d.1;
      waiting = leb-true (statements_set body) most_waiting n.0;
      apart = none_of (labels_of program head.number) n.1;
      statements = statements;
      line = fits.0;
      fits = fits.1;
      begins = fits.2;
    }

-- ---- where it stands

pub record Stands {program : Y.Program} (m : Main program) (input : List ℕ) (acts : ℕ) (valued : Bool) (more b : ℕ)
    (a : Running) : Type 0
  where
    pub running : IsRunning m input acts valued (suc more) a (suc b)
    pub labels : List Label
    pub head : Y.BlockHead
    pub body : Y.Stmts
    pub index : ℕ
    pub within : Within m valued a head body
    pub placed :
        Placed (links_for program) (linked_code (code_for program)) index
        (stmt_code (environment_of_run program a) none_taken (Y.Begin (Y.BlockOf head body)))
    pub few : acts + 1 < 2 ^ 64

-- the block in which it stands
abbrev pub around_it :
    {program : Y.Program} → {m : Main program} → {input : List ℕ} → {acts : ℕ} → {valued : Bool} → {more b : ℕ} →
    {a : Running} → Stands m input acts valued more b a → Block
around_it {program} {input = input} {acts = acts} {valued = valued} {more = more} {a = a} z =
    block_of_run program input acts valued (suc more) a

-- what is around its code
abbrev pub begin_environment_for : Y.Program → Running → Y.BlockHead → Environment
begin_environment_for program a head = owned_by a.form.owner (environment_for program head)

abbrev pub begin_in :
    {program : Y.Program} → {m : Main program} → {input : List ℕ} → {acts : ℕ} → {valued : Bool} → {more b : ℕ} →
    {a : Running} → Stands m input acts valued more b a → N.Inner
begin_in {program} {more = more} {a = a} z =
    record {
      head = z.head;
      body = z.body;
      words = block_words (environment_for program z.head) z.head.number z.body;
      variables = variables_code (begin_environment_for program a z.head) z.head.line;
      around = around_for program more;
      made = newest_all image_parts (words_in (begin_environment_for program a z.head));
    }

-- as it runs
abbrev pub run_begun :
    {program : Y.Program} → {m : Main program} → {input : List ℕ} → {acts : ℕ} → {valued : Bool} → {more b : ℕ} →
    {a : Running} → Stands m input acts valued more b a → Point → (numbers : ℕ → ℕ) → Running
run_begun {program} {input = input} {acts = acts} {a = a} z p numbers =
    let k = around_it z in
    let x = begin_in z in
    record {
      head = z.head;
      body = z.body;
      entry = begun (Y.BlockOf z.head z.body) (own_height k);
      layer = inner_layer (surroundings_for program input acts) p numbers x;
      call = z.index;
      index = list_index k p numbers x z.index;
      end = end_index k p numbers x z.index;
      point = p;
      numbers = a.numbers;
      made = x.made (begun_in k p numbers x);
      layers = λ ls. ls;
      texts = λ es. es;
      form = record {
        entry = entry_index x z.index;
        function = None;
        behind = λ q. q;
        owner = a.form.owner;
        registers = a.form.registers;
        outers = as_outer k z.labels ∷ a.form.outers;
      };
    }

-- ---- its words

pub set_in :
    {program : Y.Program} {m : Main program} {input : List ℕ} {acts : ℕ} {valued : Bool} {more b : ℕ} {a : Running}
    (z : Stands m input acts valued more b a) → (begin_in z).words ≡ statements_set z.body
set_in {program} {m} {valued = valued} z =
    let fits = z.within.fits in
    let all = z.running.held.all in
    words_set (scope_of program m.called z.head z.body) valued (environment_for program z.head) z.head.number z.body
    (plain_known (variables_of_block program z.head.number) z.within.plain) z.within.statements
    (omega (arith, fits, all))

-- its frame has room
abbrev HasRoomIn : {program : Y.Program} → {m : Main program} → {input : List ℕ} → {acts : ℕ} → {valued : Bool} →
    {more b : ℕ} → {a : Running} → Stands m input acts valued more b a → Type 0
HasRoomIn z =
    upper_top image_parts (around_it z).first.control.layers + temporary_bytes (begin_in z).words
    + fixed_size z.head.level 0
    ≤ lower_end image_parts (around_it z).first.control.layers

frame_room :
    {program : Y.Program} {m : Main program} {input : List ℕ} {acts : ℕ} {valued : Bool} {more b : ℕ} {a : Running}
    (z : Stands m input acts valued more b a) → HasRoomIn z
frame_room z =
    let h = z.running in
    let words = set_in z in
    let waiting = z.within.waiting in
    let deep = z.within.deep in
    let fits = h.free.fits in
    let used = h.free.used in
    let top = ap (λ ls. upper_top image_parts ls) h.free.newest in
    let low = ap (λ ls. lower_end image_parts ls) h.free.newest in
    omega (arith, words, waiting, deep, fits, used, top, low)

-- ---- the statement

pub is_begin :
    {program : Y.Program} {m : Main program} {input : List ℕ} {acts : ℕ} {valued : Bool} {more b : ℕ} {a : Running}
    (z : Stands m input acts valued more b a) →
    nat_lt (length (around_it z).first.state.activations) most_activations ≡ true →
    IsBegin (around_it z) (begin_in z) z.index more
is_begin z shallow =
    let h = z.running in
    let i = z.within in
    let deep = i.deep in
    record {
      act = record { line_fits = i.line; acts = z.few };
      begun = h.begun;
      statement = z.placed.linked;
      kind = i.kind;
      words = refl;
      variables = refl;
      level = i.level ∙ ap suc h.level;
      few = omega (arith, deep);
      room = frame_room z;
      shallow = shallow;
      enter = refl;
      around = refl;
      enough = h.enough;
    }

pub is_deep_begin :
    {program : Y.Program} {m : Main program} {input : List ℕ} {acts : ℕ} {valued : Bool} {more b : ℕ} {a : Running}
    (z : Stands m input acts valued more b a) →
    nat_lt (length (around_it z).first.state.activations) most_activations ≡ false →
    IsDeepBegin (around_it z) (begin_in z) z.index more
is_deep_begin z deep' =
    let h = z.running in
    let i = z.within in
    let deep = i.deep in
    record {
      act = record { line_fits = i.line; acts = z.few };
      begun = h.begun;
      statement = z.placed.linked;
      words = refl;
      variables = refl;
      level = i.level ∙ ap suc h.level;
      few = omega (arith, deep);
      room = frame_room z;
      deep = deep';
      enter = refl;
    }
