-- Programs of FIXED BINARY(31) numbers, as a class that is computed from typed trees.
use Rattle.std.specs.Prelude.{ℕ, zero, suc, ◌*◌, ◌^◌, ◌&&◌, ◌||◌, ◌++◌, ◌==◌, Bool, true, false, List, [], ◌∷◌}
use Rattle.std.specs.Prelude.{length, nat_le, nat_lt, not, slice_get, Option, None, Some, if◌then◌else◌}
use Rattle.std.specs.List.{flat_map, list_any}
use Rattle.pli_typing.specs.TypedTree as Y
use Rattle.pli_meaning.specs.DeclaredShapes.{head_of, procedure_numbered, variables_of_block}
use Rattle.pli_meaning.specs.Executing.{labels_in}
use Rattle.pli_coding.specs.Environments.{BlockPlace, Environment, block_around}
use Rattle.pli_coding.specs.Frames.{parameters_of_block}
use Rattle.pli_coding.specs.Registers.{held_registers}
use Rattle.pli_coding.specs.SignatureTable.{with_signatures}
use Rattle.program_places.specs.Programs.{environment_for}
use Rattle.number_runs.specs.Numbers.{Names, Scope, has_none, is_parameter, is_parameter_if}
use Rattle.number_runs.specs.Statements.{are_statements, begins_need, statements_need, statements_set}
use Rattle.number_runs.specs.Areas.{held_bytes}
use Rattle.number_runs.specs.Variables.{are_any, are_known, are_plain, bytes_of}
use Rattle.number_headlines.specs.Jumps.{is_jumped_to, is_label_around, jumps_out, labels_of}
use Rattle.pli_headline.specs.Headline.{parts}

-- ---- variables

-- so many scalars fit the frame of a block
abbrev pub most_words : ℕ
most_words = 2 ^ 13

-- and so many bytes
abbrev pub most_bytes : ℕ
most_bytes = 32 * most_words

-- the variables of each block, and its parameters
abbrev pub are_blocks_known : List (List Y.DeclaredVariable) → Bool
are_blocks_known [] = true
are_blocks_known (ds ∷ rest) = (nat_le (bytes_of ds) most_bytes && are_known ds) && are_blocks_known rest

-- so many signatures differ, each of which has a number
abbrev pub most_signatures : ℕ
most_signatures = 2 ^ 24

-- those of all blocks
abbrev pub are_all_known : List (List Y.DeclaredVariable) → Bool
are_all_known all =
    nat_lt (length (with_signatures (flat_map (λ ds. ds) all) [])) most_signatures && are_blocks_known all

-- ---- blocks around

-- the one at each level up to that of a block's code
abbrev pub places_to : Environment → (level : ℕ) → List BlockPlace
places_to e zero = record { number = block_around e 0; level = 0 } ∷ []
places_to e (suc n) = record { number = block_around e (suc n); level = suc n } ∷ places_to e n

-- two blocks stand in the same ones up to a level
abbrev pub stand_alike : (e f : Environment) → (level : ℕ) → Bool
stand_alike e f zero = block_around e 0 == block_around f 0
stand_alike e f (suc n) = (block_around e (suc n) == block_around f (suc n)) && stand_alike e f n

-- where no block has a parameter
abbrev pub are_blocks_plain : List (List Y.DeclaredVariable) → Bool
are_blocks_plain [] = true
are_blocks_plain (ds ∷ rest) = (nat_le (bytes_of ds) most_bytes && are_plain ds) && are_blocks_plain rest

abbrev pub are_all_plain : List (List Y.DeclaredVariable) → Bool
are_all_plain all =
    nat_lt (length (with_signatures (flat_map (λ ds. ds) all) [])) most_signatures && are_blocks_plain all

-- ---- parameters, by their places among the variables of a block

-- each at another
abbrev pub is_elsewhere : (index : ℕ) → List ℕ → Bool
is_elsewhere index [] = true
is_elsewhere index (n ∷ ns) = not (n == index) && is_elsewhere index ns

abbrev pub are_apart : List ℕ → Bool
are_apart [] = true
are_apart (n ∷ ns) = is_elsewhere n ns && are_apart ns

-- each FIXED BINARY(31)
abbrev pub are_parameters : List Y.DeclaredVariable → List ℕ → Bool
are_parameters ds [] = true
are_parameters ds (n ∷ ns) = is_parameter_if (slice_get ds n) && are_parameters ds ns

-- so many stand first among the variables of a block
abbrev pub received_in : List Y.DeclaredVariable → ℕ
received_in [] = 0
received_in (d ∷ ds) = if is_parameter d then suc (received_in ds) else 0

-- and it makes those behind them
abbrev pub beside_received : List Y.DeclaredVariable → List Y.DeclaredVariable
beside_received [] = []
beside_received (d ∷ ds) = if is_parameter d then beside_received ds else d ∷ ds

-- as many as the language lets a procedure have
abbrev pub most_received : ℕ
most_received = 16

-- a block makes its variables, behind its parameters
abbrev pub are_own : (parameters : List ℕ) → List Y.DeclaredVariable → Bool
are_own [] ds = are_plain ds
are_own (n ∷ ns) ds =
    (nat_le (length (n ∷ ns)) most_received && nat_le (length (n ∷ ns)) (received_in ds))
    && (are_apart (n ∷ ns) && (are_parameters ds (n ∷ ns) && are_plain (beside_received ds)))

-- ---- procedures

-- so many words of its frame may the loops and the lists of arguments of a block set aside, one in the turns of another
abbrev pub most_waiting : ℕ
most_waiting = 128

-- the statements of a block, whose temporaries, and those of its begin blocks, fit registers, and whose loops the words
-- of its frame
abbrev pub is_body : Scope → (valued : Bool) → Y.Stmts → Bool
is_body s valued body =
    are_statements s valued (labels_in body ++ []) body
    && (nat_le (statements_need body) held_registers
    && (nat_le (begins_need body) held_registers && nat_le (statements_set body) most_waiting))

abbrev pub body_of : Y.Block → Y.Stmts
body_of (Y.BlockOf head body) = body

-- a procedure returns nothing, and a function FIXED BINARY of any precision
abbrev pub is_returnable : Y.LeafType → Bool
is_returnable (Y.FixedLeaf precision) = nat_le precision 31
is_returnable type = false

abbrev pub has_result : (valued : Bool) → Option Y.LeafType → Bool
has_result false None = true
has_result true (Some type) = is_returnable type
has_result valued type = false

abbrev pub is_valued : Option Y.LeafType → Bool
is_valued None = false
is_valued (Some type) = true

-- a procedure that a block calls with so many arguments: the block of a level around it declares that
abbrev pub is_declared :
    Y.Program → (caller : Y.BlockHead) → (count : ℕ) → (valued : Bool) → (level : ℕ) → Y.Procedure → Bool
is_declared program caller count valued level p =
    (length p.parameters == count)
    && (has_result valued p.result
    && (((head_of p.block).level == suc level)
    && (nat_le level caller.level
    && stand_alike (environment_for program caller) (environment_for program (head_of p.block)) level)))

abbrev pub is_declared_if :
    Y.Program → (caller : Y.BlockHead) → (count : ℕ) → (valued : Bool) → (level : ℕ) → Option Y.Procedure → Bool
is_declared_if program caller count valued level None = false
is_declared_if program caller count valued level (Some p) = is_declared program caller count valued level p

-- one of these numbers finds it
abbrev pub is_callable :
    Y.Program → List ℕ → (caller : Y.BlockHead) → (count : ℕ) → (valued : Bool) → (level number : ℕ) → Bool
is_callable program ns caller count valued level number =
    list_any (λ n. n == number) ns
    && is_declared_if program caller count valued level (procedure_numbered number program.procedures)

-- the blocks whose pointers and areas a block may name: itself, if it is the main procedure's
abbrev pub pointers_of : Y.BlockHead → List BlockPlace
pointers_of head =
    if head.level == 0 then record { number = head.number; level = head.level } ∷ [] else []

-- so many words of the frame hold what ALLOCATE hands over
abbrev pub least_located : ℕ
least_located = 2

-- ---- begin blocks

abbrev pub is_begin_kind : Y.BlockKind → Bool
is_begin_kind Y.BeginBlock = true
is_begin_kind kind = false

-- blocks stand in one another at most so deep
abbrev pub most_deep : ℕ
most_deep = 16

-- one that stands in a block: the level and the number are as each well-formed tree has them
abbrev pub is_within : Y.Program → (around : Y.BlockHead) → Y.BlockHead → Bool
is_within program around head =
    is_begin_kind head.kind
    && ((head.level == suc around.level)
    && (nat_lt head.level most_deep
    && ((block_around (environment_for program head) head.level == head.number)
    && stand_alike (environment_for program around) (environment_for program head) around.level)))

-- declares variables of the class, and has a number of its own
abbrev pub is_begun : Y.Program → (around : Y.BlockHead) → Y.BlockHead → Y.Stmts → Bool
is_begun program around head body =
    is_within program around head
    && ((has_none (parameters_of_block program head.number) && are_plain (variables_of_block program head.number))
    && (nat_le (statements_set body) most_waiting && has_none (labels_of program head.number)))

-- ---- what a block may name and call

-- its own variables and parameters, those of the blocks around it, these procedures, with arguments, and labels of the
-- blocks around it; no text of it waits for a function if its own labels may be jumped to
abbrev pub names_of : Y.Program → List ℕ → Y.BlockHead → Y.Stmts → Names
names_of program ns head body =
    record {
      blocks = places_to (environment_for program head) head.level;
      receivers = places_to (environment_for program head) head.level;
      is_function = is_callable program ns head 0 true;
      is_procedure = is_callable program ns head 0 false;
      is_given_function = λ count. is_callable program ns head count true;
      is_given_procedure = λ count. is_callable program ns head count false;
      locates = nat_le least_located (statements_set body);
      pointers = pointers_of head;
      waits = not (is_jumped_to program ns head.level head.number);
      is_outer = λ level label. is_label_around program ns head level label;
      returns = not (is_begin_kind head.kind);
      is_begin = is_begun program head;
    }

abbrev pub scope_of : Y.Program → List ℕ → Y.BlockHead → Y.Stmts → Scope
scope_of program ns head body =
    record {
      program = program;
      level = head.level;
      blocks = (names_of program ns head body).blocks;
      receivers = (names_of program ns head body).receivers;
      is_function = (names_of program ns head body).is_function;
      is_procedure = (names_of program ns head body).is_procedure;
      gives = true;
      is_given_function = (names_of program ns head body).is_given_function;
      is_given_procedure = (names_of program ns head body).is_given_procedure;
      locates = (names_of program ns head body).locates;
      pointers = (names_of program ns head body).pointers;
      counts = true;
      puts = true;
      reads = true;
      overflows = true;
      divides = true;
      narrows = true;
      texts = true;
      waits = (names_of program ns head body).waits;
      elements = true;
      own = true;
      is_outer = (names_of program ns head body).is_outer;
      signals = λ c. true;
      codes = false;
      returns = (names_of program ns head body).returns;
      is_begin = (names_of program ns head body).is_begin;
      inner = names_of program ns;
    }

-- with parameters or without
abbrev pub is_inner : Y.Program → List ℕ → Y.Procedure → Bool
is_inner program ns p =
    are_own p.parameters (variables_of_block program (head_of p.block).number)
    && is_body (scope_of program ns (head_of p.block) (body_of p.block)) (is_valued p.result) (body_of p.block)

abbrev pub is_inner_if : Y.Program → List ℕ → Option Y.Procedure → Bool
is_inner_if program ns None = false
is_inner_if program ns (Some p) = is_inner program ns p

-- each of these numbers finds one that calls those
abbrev pub are_inner : Y.Program → (called : List ℕ) → List ℕ → Bool
are_inner program called [] = true
are_inner program called (n ∷ ns) =
    is_inner_if program called (procedure_numbered n program.procedures) && are_inner program called ns

-- ---- programs

abbrev pub numbers_of : List Y.Procedure → List ℕ
numbers_of [] = []
numbers_of (p ∷ ps) = (head_of p.block).number ∷ numbers_of ps

-- those that call only these
abbrev pub kept_of : Y.Program → List ℕ → List Y.Procedure → List ℕ
kept_of program ns [] = []
kept_of program ns (p ∷ ps) =
    if is_inner program ns p then (head_of p.block).number ∷ kept_of program ns ps
    else kept_of program ns ps

-- after as many rounds as there are procedures, those that call only one another
abbrev pub closed_of : Y.Program → (rounds : ℕ) → List ℕ → List ℕ
closed_of program zero ns = ns
closed_of program (suc rounds) ns = closed_of program rounds (kept_of program ns program.procedures)

abbrev pub callable_ones : Y.Program → List ℕ
callable_ones program = closed_of program (length program.procedures) (numbers_of program.procedures)

-- those that have no GOTO out of their blocks
abbrev pub staying_of : List Y.Procedure → List Y.Procedure
staying_of [] = []
staying_of (p ∷ ps) = if jumps_out p then staying_of ps else p ∷ staying_of ps

-- those of them that call only one another
abbrev pub staying_ones : Y.Program → List ℕ
staying_ones program = closed_of program (length program.procedures) (numbers_of (staying_of program.procedures))

-- the variables of the main procedure, areas among them
abbrev pub are_held : List Y.DeclaredVariable → Bool
are_held ds = are_any ds && nat_le (held_bytes parts ds) most_bytes

-- the main procedure calls these, which call one another and themselves
abbrev pub is_main : Y.Program → (called : List ℕ) → Y.Procedure → Bool
is_main program called p =
    has_none p.parameters
    && (has_result false p.result
    && (are_held (variables_of_block program (head_of p.block).number)
    && (is_body (scope_of program called (head_of p.block) (body_of p.block)) false (body_of p.block)
    && are_inner program called called)))

-- the first one is the main procedure, which calls none that jumps out, or any; what isn't called may be any
abbrev pub has_main : Y.Program → List Y.Procedure → Bool
has_main program [] = false
has_main program (p ∷ ps) = is_main program (staying_ones program) p || is_main program (callable_ones program) p

abbrev pub is_number_program : Y.Program → Bool
is_number_program program = are_all_known program.variables && has_main program program.procedures
