-- Where the code of a procedure or a function with a list of parameters stands, and what its calls ask of that.
use Rattle.std.proofs.Common.{◌≡◌, ℕ, suc, ◌+◌, ◌^◌, ◌<◌, ◌≤◌, List, [], ◌∷◌, ◌++◌, length, Option, None, Some, Bool}
use Rattle.std.proofs.Common.{true}
use Rattle.std.proofs.Common.{false, refl, sym, ap, ◌∙◌, subst, arith}
use Rattle.std.specs.Prelude.{◌&&◌, ◌==◌, nat_le, not, slice_get}
use Rattle.std.proofs.lemmas.Bool.{and_parts, eq-eqb, leb-true}
use Rattle.std.proofs.lemmas.List.{append_assoc}
use Rattle.pli_typing.specs.TypedTree as Y
use Rattle.pli_meaning.specs.DeclaredShapes.{variables_of_block}
use Rattle.pli_meaning.specs.Executing as M
use Rattle.pli_meaning.specs.Raising.{Around}
use Rattle.pli_coding.specs.Allocating.{act_code}
use Rattle.pli_coding.specs.Assembly.{CallTo, Code, Item, Mark, ProcedureEntry, ReturnPlace, size_of}
use Rattle.pli_coding.specs.Entries.{arguments_copied, block_entered, copied_declared, copied_parameters, frame_begun}
use Rattle.pli_coding.specs.Entries.{list_kept}
use Rattle.pli_coding.specs.Environments.{Environment, none_taken}
use Rattle.pli_coding.specs.Images.{linked_code}
use Rattle.pli_coding.specs.Instructions.{move}
use Rattle.pli_coding.specs.Locating.{table_number}
use Rattle.pli_coding.specs.Procedures.{no_value, procedure_of_block}
use Rattle.pli_coding.specs.Registers.{a1, a2, a3, u5}
use Rattle.pli_coding.specs.Statements.{stmts_code}
use Rattle.code_marks.specs.CodeMarks.{MarkedOnce}
use Rattle.run_steps.specs.Items.{Linked}
use Rattle.program_places.specs.Laws.{IsEnd}
use Rattle.program_places.specs.Placed.{Placed}
use Rattle.program_places.specs.Programs.{IsLoadable, IsReceiving, code_for, entry_for, environment_for, image_for}
use Rattle.program_places.specs.Programs.{links_for, procedure_for, program_environment}
use Rattle.program_places.proofs.Callees.{few_saved}
use Rattle.program_places.proofs.Found.{known}
use Rattle.program_places.proofs.Functions.{function_ended}
use Rattle.program_places.proofs.Labels.{are_marked}
use Rattle.program_places.proofs.Marks.{behind_mark, mark_place, placed_as, placed_back, placed_front}
use Rattle.program_places.proofs.Procedures.{ended_code, error_place, raise_routines, receiving_placed, routines_at}
use Rattle.program_runs.specs.Procedures.{Procedure, end_of}
use Rattle.program_runs.specs.Starts.{surroundings_of}
use Rattle.function_runs.specs.Functions.{function_end, function_tail}
use Rattle.argument_runs.specs.Parameters.{parameter_declared}
use Rattle.given_calls.specs.Given.{procedure_tail}
use Rattle.list_calls.specs.ListFunctions.{IsTakingFunction}
use Rattle.list_calls.specs.Lists.{AreSigned, AreTaken, Parameter, copied_from, indices_of}
use Rattle.list_calls.specs.Taking.{AreApart, HasParameters, IsElsewhere, IsTaking, Taking, body_index, copies_code}
use Rattle.list_calls.specs.Taking.{listing_of, taking_code}
use Rattle.number_runs.specs.Numbers.{is_parameter_if}
use Rattle.number_runs.specs.Variables.{are_plain}
use Rattle.number_runs.proofs.Variables.{parameter_declared_is}
use Rattle.number_headlines.specs.Programs.{are_apart, are_own, are_parameters, beside_received, is_elsewhere}
use Rattle.number_headlines.specs.Programs.{most_received, received_in}
use Rattle.number_headlines.proofs.Mains.{result_by, run_for}

-- ---- its parameters

abbrev pub parameters_at : Environment → List ℕ → List Parameter
parameters_at e [] = []
parameters_at e (n ∷ ns) =
    record { index = n; declared = parameter_declared; number = table_number e parameter_declared } ∷ parameters_at e ns

pub indices_are : (e : Environment) (ns : List ℕ) → indices_of (parameters_at e ns) ≡ ns
indices_are e [] = refl
indices_are e (n ∷ ns) = ap (λ is. n ∷ is) (indices_are e ns)

pub parameters_many : (e : Environment) (ns : List ℕ) → length (parameters_at e ns) ≡ length ns
parameters_many e [] = refl
parameters_many e (n ∷ ns) = ap suc (parameters_many e ns)

pub parameter_found :
    (o : Option Y.DeclaredVariable) → is_parameter_if o ≡ true → o ≡ Some parameter_declared
parameter_found None h = absurd (cc h)
parameter_found (Some d) h = ap (λ d'. Some d') (parameter_declared_is d h)

are_copied :
    (e : Environment) (ds : List Y.DeclaredVariable) (n : ℕ) (ns : List ℕ) → are_parameters ds ns ≡ true →
    copied_parameters ds n (indices_of (parameters_at e ns)) ≡ copied_from n (parameters_at e ns)
are_copied e ds n [] h = refl
are_copied e ds n (i ∷ ns) h =
    let a = and_parts (is_parameter_if (slice_get ds i)) (are_parameters ds ns) h in
    ap (λ o. copied_declared n o ++ copied_parameters ds (suc n) (indices_of (parameters_at e ns)))
    (parameter_found (slice_get ds i) a.0)
    ∙ ap (λ cs. record { n = n; declared = parameter_declared; type = Y.FixedLeaf 31 } ∷ cs)
    (are_copied e ds (suc n) ns a.1)

are_signed : (e : Environment) (ns : List ℕ) → AreSigned e (parameters_at e ns)
are_signed e [] = tt
are_signed e (n ∷ ns) = (refl, refl, are_signed e ns)

not_itself : (n index : ℕ) → not (n == index) ≡ true → n ≡ index → ⊥
not_itself n index h same = cc (sym (ap not (eq-eqb n index same)) ∙ h)

elsewhere_in :
    (e : Environment) (index : ℕ) (ns : List ℕ) → is_elsewhere index ns ≡ true →
    IsElsewhere index (parameters_at e ns)
elsewhere_in e index [] h = tt
elsewhere_in e index (n ∷ ns) h =
    let a = and_parts (not (n == index)) (is_elsewhere index ns) h in
    ((λ same. not_itself n index a.0 same), elsewhere_in e index ns a.1)

apart_in : (e : Environment) (ns : List ℕ) → are_apart ns ≡ true → AreApart (parameters_at e ns)
apart_in e [] h = tt
apart_in e (n ∷ ns) h =
    let a = and_parts (is_elsewhere n ns) (are_apart ns) h in
    (elsewhere_in e n ns a.0, apart_in e ns a.1)

-- what the class says of them
pub record IsOwnList (ns : List ℕ) (ds : List Y.DeclaredVariable) : Type 0 where
  pub some : 0 < length ns
  pub few : length ns ≤ most_received
  pub inside : length ns ≤ received_in ds
  pub apart : are_apart ns ≡ true
  pub parameters : are_parameters ds ns ≡ true
  pub beside : are_plain (beside_received ds) ≡ true

pub own_list :
    (ns : List ℕ) (ds : List Y.DeclaredVariable) → 0 < length ns → are_own ns ds ≡ true → IsOwnList ns ds
own_list [] ds some h = absurd (omega (arith, some))
own_list (n ∷ ns) ds some h =
    let is = n ∷ ns in
    let plain = are_plain (beside_received ds) in
    let rest = are_parameters ds is && plain in
    let a = and_parts (nat_le (length is) most_received && nat_le (length is) (received_in ds)) (are_apart is && rest) h
    in
    let b = and_parts (nat_le (length is) most_received) (nat_le (length is) (received_in ds)) a.0 in
    let c = and_parts (are_apart is) rest a.1 in
    let d = and_parts (are_parameters ds is) plain c.1 in
    record {
      some = some;
      few = leb-true (length is) most_received b.0;
      inside = leb-true (length is) (received_in ds) b.1;
      apart = c.0;
      parameters = d.0;
      beside = d.1;
    }

-- ---- its code

join_list :
    (frame kept enter copies made act' rest : Code) (m n : Item) →
    (frame ++ (m ∷ (kept ++ (n ∷ (enter ++ (copies ++ (made ++ act'))))))) ++ rest
    ≡ (frame ++ (m ∷ (kept ++ (n ∷ enter)))) ++ (copies ++ (made ++ (act' ++ rest)))
join_list frame kept enter copies made act' rest m n =
    let x = copies ++ (made ++ act') in
    let y = copies ++ (made ++ (act' ++ rest)) in
    append_assoc frame (m ∷ (kept ++ (n ∷ (enter ++ x)))) rest
    ∙ ap (λ u. frame ++ (m ∷ u)) (append_assoc kept (n ∷ (enter ++ x)) rest)
    ∙ ap (λ u. frame ++ (m ∷ (kept ++ (n ∷ u)))) (append_assoc enter x rest)
    ∙ ap (λ u. frame ++ (m ∷ (kept ++ (n ∷ (enter ++ u))))) (append_assoc copies (made ++ act') rest)
    ∙ ap (λ u. frame ++ (m ∷ (kept ++ (n ∷ (enter ++ (copies ++ u)))))) (append_assoc made act' rest)
    ∙ sym (ap (λ u. frame ++ (m ∷ u)) (append_assoc kept (n ∷ enter) y))
    ∙ sym (append_assoc frame (m ∷ (kept ++ (n ∷ enter))) y)

-- the procedure with its parameters, wherever it is called
abbrev pub bare_taking : Y.Program → Y.BlockHead → Y.Stmts → List Parameter → Taking
bare_taking program head body xs =
    record {
      procedure = procedure_for program head body;
      calling = record { parent = 0; call = 0; entry = entry_for program head.number; end = 0 };
      environment = environment_for program head;
      around = record { program = program; enter = M.entered program 0; turns = 0; line = 0 };
      parameters = xs;
    }

indices_many : (xs : List Parameter) → length (indices_of xs) ≡ length xs
indices_many [] = refl
indices_many (x ∷ xs) = ap suc (indices_many xs)

entry_coded :
    (program : Y.Program) (head : Y.BlockHead) (body : Y.Stmts) (xs : List Parameter) (result : Option Y.LeafType) →
    procedure_of_block (program_environment program) (Y.BlockOf head body) (indices_of xs) result
    ≡ Mark (ProcedureEntry head.number)
    ∷ taking_code (bare_taking program head body xs)
    (ended_code (environment_for program head) (procedure_for program head body) result)
entry_coded program head body xs result =
    let e = environment_for program head in
    let x = procedure_for program head body in
    let rest = stmts_code e none_taken body ++ ended_code e x result in
    let all : ℕ → Code = λ n. (frame_begun x.words head.level n (Some x.saved)
    ++ (move u5 a1 ∷ (list_kept head.level (indices_of xs) ++ (move a3 a2 ∷ block_entered 0 head.line))))
    ++ (arguments_copied e (indices_of xs) ++ (x.variables ++ (act_code head.line ++ rest))) in
    ap (λ u. Mark (ProcedureEntry head.number) ∷ u)
    (join_list (frame_begun x.words head.level (length (indices_of xs)) (Some x.saved))
    (list_kept head.level (indices_of xs)) (block_entered 0 head.line) (arguments_copied e (indices_of xs)) x.variables
    (act_code head.line) rest (move u5 a1) (move a3 a2)
    ∙ ap all (indices_many xs))

-- behind its statements
abbrev pub tail_by : (valued : Bool) → Procedure → Code
tail_by false x = procedure_tail x
tail_by true x = function_tail x

ended_by :
    (valued : Bool) (precision : ℕ) (program : Y.Program) (head : Y.BlockHead) (body : Y.Stmts) (xs : List Parameter) →
    IsLoadable program → IsReceiving program head body (indices_of xs) (result_by valued precision) → 1 ≤ head.level →
    ended_code (environment_for program head) (procedure_for program head body) (result_by valued precision)
    ≡ tail_by valued (procedure_for program head body)
ended_by false precision program head body xs h is inner = refl
ended_by true precision program head body xs h is inner = function_ended program head body precision h is inner

entry_placed :
    MarkedOnce → (program : Y.Program) (head : Y.BlockHead) (body : Y.Stmts) (xs : List Parameter) (valued : Bool)
    (precision : ℕ) →
    IsLoadable program → IsReceiving program head body (indices_of xs) (result_by valued precision) → 1 ≤ head.level →
    Placed (links_for program) (linked_code (code_for program)) (entry_for program head.number)
    (Mark (ProcedureEntry head.number)
    ∷ taking_code (bare_taking program head body xs) (tail_by valued (procedure_for program head body)))
entry_placed once program head body xs valued precision h is inner =
    let c = bare_taking program head body xs in
    let x = procedure_for program head body in
    placed_as (Mark (ProcedureEntry head.number) ∷ taking_code c (tail_by valued x))
    (entry_coded program head body xs (result_by valued precision)
    ∙ ap (λ u. Mark (ProcedureEntry head.number) ∷ taking_code c u) (ended_by valued precision program head body xs h
    is inner))
    (receiving_placed once program head body (indices_of xs) (result_by valued precision) h is)

taking_placed :
    MarkedOnce → (program : Y.Program) (head : Y.BlockHead) (body : Y.Stmts) (xs : List Parameter) (valued : Bool)
    (precision : ℕ) →
    IsLoadable program → IsReceiving program head body (indices_of xs) (result_by valued precision) → 1 ≤ head.level →
    Placed (links_for program) (linked_code (code_for program)) (entry_for program head.number)
    (taking_code (bare_taking program head body xs) (tail_by valued (procedure_for program head body)))
taking_placed once program head body xs valued precision h is inner =
    behind_mark (ProcedureEntry head.number)
    (taking_code (bare_taking program head body xs) (tail_by valued (procedure_for program head body)))
    (entry_placed once program head body xs valued precision h is inner)

-- ---- its first statement, and its end

abbrev pub taking_index : Y.Program → Y.BlockHead → Y.Stmts → List Parameter → ℕ
taking_index program head body xs = body_index (bare_taking program head body xs)

abbrev pub taking_end : (valued : Bool) → Y.Program → Y.BlockHead → Y.Stmts → List Parameter → ℕ
taking_end false program head body xs =
    taking_index program head body xs + size_of (stmts_code (environment_for program head) none_taken body)
taking_end true program head body xs =
    taking_index program head body xs + size_of (stmts_code (environment_for program head) none_taken body)
    + size_of (no_value head.line)

rest_placed :
    MarkedOnce → (program : Y.Program) (head : Y.BlockHead) (body : Y.Stmts) (xs : List Parameter) (valued : Bool)
    (precision : ℕ) →
    IsLoadable program → IsReceiving program head body (indices_of xs) (result_by valued precision) → 1 ≤ head.level →
    Placed (links_for program) (linked_code (code_for program)) (taking_index program head body xs)
    (stmts_code (environment_for program head) none_taken body ++ tail_by valued (procedure_for program head body))
rest_placed once program head body xs valued precision h is inner =
    let e = environment_for program head in
    let x = procedure_for program head body in
    let c = bare_taking program head body xs in
    let one = act_code head.line in
    let rest = stmts_code e none_taken body ++ tail_by valued x in
    placed_back one rest
    (placed_back x.variables (one ++ rest)
    (placed_back (copies_code c) (x.variables ++ (one ++ rest))
    (placed_back (listing_of c) (copies_code c ++ (x.variables ++ (one ++ rest)))
    (taking_placed once program head body xs valued precision h is inner))))

pub taking_body_placed :
    MarkedOnce → (program : Y.Program) (head : Y.BlockHead) (body : Y.Stmts) (xs : List Parameter) (valued : Bool)
    (precision : ℕ) →
    IsLoadable program → IsReceiving program head body (indices_of xs) (result_by valued precision) → 1 ≤ head.level →
    Placed (links_for program) (linked_code (code_for program)) (taking_index program head body xs)
    (stmts_code (environment_for program head) none_taken body)
taking_body_placed once program head body xs valued precision h is inner =
    placed_front (stmts_code (environment_for program head) none_taken body)
    (tail_by valued (procedure_for program head body)) (rest_placed once program head body xs valued precision h is
    inner)

pub taking_ends :
    MarkedOnce → (program : Y.Program) (head : Y.BlockHead) (body : Y.Stmts) (xs : List Parameter) (valued : Bool)
    (precision : ℕ) →
    IsLoadable program → IsReceiving program head body (indices_of xs) (result_by valued precision) → 1 ≤ head.level →
    IsEnd (links_for program) head.number (taking_end valued program head body xs)
taking_ends once program head body xs false precision h is inner =
    let x = procedure_for program head body in
    let p = placed_back (stmts_code (environment_for program head) none_taken body) (procedure_tail x)
    (rest_placed once program head body xs false precision h is inner) in
    let inside = p.linked.inside in
    let small' = p.linked.small' in
    record { place = mark_place (ReturnPlace head.number) (end_of x) p; near = omega (arith, inside, small') }
taking_ends once program head body xs true precision h is inner =
    let x = procedure_for program head body in
    let p = placed_back (no_value head.line) (Mark (ReturnPlace head.number) ∷ function_end x)
    (placed_back (stmts_code (environment_for program head) none_taken body) (function_tail x)
    (rest_placed once program head body xs true precision h is inner)) in
    let inside = p.linked.inside in
    let small' = p.linked.small' in
    record { place = mark_place (ReturnPlace head.number) (function_end x) p; near = omega (arith, inside, small') }

-- ---- as its calls find it

abbrev pub taking_at :
    (valued : Bool) → Y.Program → Y.BlockHead → Y.Stmts → List Parameter → (parent call : ℕ) → Around → Taking
taking_at valued program head body xs parent call around =
    record {
      procedure = procedure_for program head body;
      calling = record {
        parent = parent;
        call = call;
        entry = entry_for program head.number;
        end = taking_end valued program head body xs;
      };
      environment = environment_for program head;
      around = around;
      parameters = xs;
    }

-- its parameters are those of the class
pub has_parameters :
    (program : Y.Program) (head : Y.BlockHead) (c : Taking) (ns : List ℕ) →
    c.environment ≡ environment_for program head → c.parameters ≡ parameters_at (environment_for program head) ns →
    IsOwnList ns (variables_of_block program head.number) → HasParameters c
has_parameters program head c ns place list own =
    let e = environment_for program head in
    let xs = parameters_at e ns in
    let many = parameters_many e ns in
    let length' = ap (λ (ys : List Parameter). length ys) list in
    let some = own.some in
    let few = own.few in
    record {
      taken = subst (λ ys. AreTaken c.environment ys) (sym list)
          (subst (λ e'. AreTaken e' xs) (sym place)
          (record {
            copies = are_copied e (variables_of_block program head.number) 0 ns own.parameters;
            signed = are_signed e ns;
          }));
      some = omega (arith, some, many, length');
      few = omega (arith, few, many, length');
      apart = subst (λ ys. AreApart ys) (sym list) (apart_in e ns own.apart);
    }

pub procedure_taking :
    MarkedOnce → (program : Y.Program) (head : Y.BlockHead) (body : Y.Stmts) (ns : List ℕ) (input : List ℕ) (acts : ℕ)
    (parent call : ℕ) (around : Around) → IsLoadable program →
    IsReceiving program head body (indices_of (parameters_at (environment_for program head) ns)) None → 1 ≤ head.level →
    IsOwnList ns (variables_of_block program head.number) →
    Linked (links_for program) (linked_code (code_for program)) call (CallTo (ProcedureEntry head.number) ∷ []) →
    acts + 1 < 2 ^ 64 →
    IsTaking (surroundings_of (image_for program (run_for program input acts))) (linked_code (code_for program))
    (taking_at false program head body (parameters_at (environment_for program head) ns) parent call around)
procedure_taking once program head body ns input acts parent call around h is inner own calls few =
    let e = environment_for program head in
    let xs = parameters_at e ns in
    let k = known program head body None h.well_formed is in
    let level = k.level in
    let inside = calls.inside in
    let small' = calls.small' in
    let x = procedure_for program head body in
    let c = taking_at false program head body xs parent call around in
    record {
      coded = record {
        level = omega (arith, level);
        line = k.line;
        saved = few_saved program head body;
        back = omega (arith, inside, small');
      };
      calls = calls;
      place = mark_place (ProcedureEntry head.number)
          (taking_code (bare_taking program head body xs) (procedure_tail x))
          (entry_placed once program head body xs false 0 h is inner);
      stands = (taking_placed once program head body xs false 0 h is inner).linked;
      end = refl;
      kind = k.kind;
      labels = are_marked (links_for program) (linked_code (code_for program)) (taking_index program head body xs) e
          body
          (taking_body_placed once program head body xs false 0 h is inner);
      acts = few;
      parameters = has_parameters program head c ns refl refl own;
    }

pub function_taking :
    MarkedOnce → (program : Y.Program) (head : Y.BlockHead) (body : Y.Stmts) (precision : ℕ) (ns : List ℕ) (input :
    List ℕ) (acts : ℕ)
    (parent call : ℕ) (around : Around) → IsLoadable program →
    IsReceiving program head body (indices_of (parameters_at (environment_for program head) ns))
    (Some (Y.FixedLeaf precision)) → 1 ≤ head.level → IsOwnList ns (variables_of_block program head.number) →
    acts + 1 < 2 ^ 64 →
    IsTakingFunction (surroundings_of (image_for program (run_for program input acts)))
    (linked_code (code_for program))
    (taking_at true program head body (parameters_at (environment_for program head) ns) parent call around)
function_taking once program head body precision ns input acts parent call around h is inner own few =
    let e = environment_for program head in
    let xs = parameters_at e ns in
    let k = known program head body (Some (Y.FixedLeaf precision)) h.well_formed is in
    let level = k.level in
    let x = procedure_for program head body in
    let c = taking_at true program head body xs parent call around in
    let error = error_place once program h in
    let at = routines_at once program h in
    record {
      level = omega (arith, level);
      line = k.line;
      saved = few_saved program head body;
      place = mark_place (ProcedureEntry head.number) (taking_code (bare_taking program head body xs) (function_tail x))
          (entry_placed once program head body xs true precision h is inner);
      stands = (taking_placed once program head body xs true precision h is inner).linked;
      end = refl;
      kind = k.kind;
      labels = are_marked (links_for program) (linked_code (code_for program)) (taking_index program head body xs) e
          body
          (taking_body_placed once program head body xs true precision h is inner);
      acts = few;
      routines = raise_routines once program h;
      raises = omega (arith, error, at);
      parameters = has_parameters program head c ns refl refl own;
    }
