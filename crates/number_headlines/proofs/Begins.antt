-- What the variables of a program's block begin with is told of its static data: its code names their lists.
use Rattle.std.proofs.Common.{◌≡◌, ◌⊎◌, inl, inr, ℕ, suc, List, [], ◌∷◌, ◌++◌, length, Bool, true, false, Option, Some}
use Rattle.std.proofs.Common.{refl, sym, ap, ◌∙◌, subst}
use Rattle.std.specs.Prelude.{◌||◌, ◌==◌, cond, if◌then◌else◌, pos}
use Rattle.std.proofs.lemmas.Bool.{and_parts, or_cases}
use Rattle.pli_typing.specs.TypedTree as Y
use Rattle.pli_meaning.specs.DeclaredShapes.{head_of, procedure_numbered, variables_of_block}
use Rattle.pli_coding.specs.Allocating.{act_code}
use Rattle.pli_coding.specs.Assembly.{Code, Datum, InitialValues}
use Rattle.pli_coding.specs.Entries.{adjustable_made, arguments_copied, automatic_made, block_entered, constant_made}
use Rattle.pli_coding.specs.Entries.{frame_begun, list_kept, variables_code, variables_made}
use Rattle.pli_coding.specs.Environments.{Environment, none_taken}
use Rattle.pli_coding.specs.Extents.{initial_code, initial_given}
use Rattle.pli_coding.specs.Frames.{automatic_place, is_automatic}
use Rattle.pli_coding.specs.Images.{linked_code, picture_of, raise_code, start_code}
use Rattle.pli_coding.specs.Instructions.{move, number}
use Rattle.pli_coding.specs.Linking.{data_start}
use Rattle.pli_coding.specs.Locating.{own_place, table_number}
use Rattle.pli_coding.specs.Procedures.{procedure_ended, procedure_environment, procedure_of_block}
use Rattle.pli_coding.specs.Procedures.{procedures_code, routines_code}
use Rattle.pli_coding.specs.Registers.{a0, a1, a2, a3, u5}
use Rattle.pli_coding.specs.StaticData.{static_data}
use Rattle.pli_coding.specs.StaticForms.{initial_datum}
use Rattle.pli_coding.specs.Statements.{block_held, block_words, stmts_code}
use Rattle.code_marks.proofs.DataOnce.{placed_same}
use Rattle.run_steps.specs.DataNamed.{IsNamed, IsPlaced}
use Rattle.run_steps.proofs.DataNamed.{is_named_back, is_named_front}
use Rattle.program_runs.specs.Initial.{Begins}
use Rattle.program_runs.proofs.Initial.{bare_begins}
use Rattle.member_runs.specs.Members.{structure_declared}
use Rattle.number_runs.proofs.Members.{based_bare}
use Rattle.program_places.specs.Constants.{constants_in}
use Rattle.program_places.specs.Programs.{IsReceiving, code_for, environment_for, links_for, program_environment}
use Rattle.pli_headline.specs.Headline.{FitsMemory, parts}
use Rattle.pli_headline.proofs.DataOnce.{static_has}
use Rattle.initial_headlines.proofs.Told.{initial_told}
use Rattle.number_runs.specs.Numbers.{is_parameter}
use Rattle.number_runs.specs.Variables.{EachBegins, are_known, is_any, is_declared}
use Rattle.number_runs.proofs.Declared.{makeable, of_any, starts}
use Rattle.number_runs.proofs.Initial.{Starts}
use Rattle.number_runs.proofs.Variables.{parameter_declared_is}
use Rattle.number_headlines.specs.Programs.{are_all_known}
use Rattle.number_headlines.proofs.Tables.{block_known}

abbrev pub BegunIn : Y.Program → Y.DeclaredVariable → Type 0
BegunIn program d =
    Begins (constants_in (code_for program)) (linked_code (code_for program)) (links_for program).data' d

abbrev pub AllBegunIn : Y.Program → List Y.DeclaredVariable → Type 0
AllBegunIn program ds =
    EachBegins (constants_in (code_for program)) (linked_code (code_for program)) (links_for program).data' ds

-- all data that some code names have places in the program's
abbrev pub AreNamed : Y.Program → Code → Type 0
AreNamed program code = (x : Datum) → IsNamed x code → IsPlaced x (links_for program).data'

-- ---- one variable

-- what makes one that is AUTOMATIC and evaluates nothing
made_is :
    (e : Environment) (line place : ℕ) (d : Y.DeclaredVariable) → is_declared d ≡ true →
    (if is_automatic d.class then automatic_made e line place d else []) ≡ constant_made e place d
made_is e line place d is =
    let m = makeable d is in
    ap (λ c. if is_automatic c then automatic_made e line place d else []) m.class
    ∙ ap (λ q. if q then constant_made e place d else adjustable_made e line place d) m.constant

list_named :
    (e : Environment) (place : ℕ) (d : Y.DeclaredVariable) (x : Datum) → initial_datum d ≡ Some x →
    IsNamed x (constant_made e place d)
list_named e place d x is =
    is_named_back x (own_place e a0 (pos place)) _
    (is_named_back x (number a1 (table_number e d)) _
    (is_named_front x (initial_code a2 d) _
    (subst (λ o. IsNamed x (initial_given a2 o)) (sym is) (inl refl))))

declared_begins :
    (program : Y.Program) (e : Environment) (line place : ℕ) (d : Y.DeclaredVariable) →
    FitsMemory (picture_of parts program) → is_declared d ≡ true →
    AreNamed program (if is_automatic d.class then automatic_made e line place d else []) → BegunIn program d
declared_begins program e line place d fits is named = by (starts d is)
  where
    by : Starts d → BegunIn program d
    by (inl bare) =
        bare_begins (constants_in (code_for program)) (linked_code (code_for program)) (links_for program).data' d
        bare.0 bare.1
    by (inr one) =
        let x = InitialValues (one.leaf ∷ []) in
        let there = named x (subst (IsNamed x) (sym (made_is e line place d is)) (list_named e place d x one.datum)) in
        initial_told program d one.leaf fits there one.datum one.given one.some one.few

one_begins :
    (program : Y.Program) (e : Environment) (line place : ℕ) (d : Y.DeclaredVariable) →
    FitsMemory (picture_of parts program) → (is_any d ≡ true) ⊎ (is_parameter d ≡ true) →
    AreNamed program (if is_automatic d.class then automatic_made e line place d else []) → BegunIn program d
one_begins program e line place d fits (inl any) named =
    of_any (BegunIn program)
    (λ ms ls fit. let bare = based_bare ms ls fit in
    bare_begins (constants_in (code_for program)) (linked_code (code_for program)) (links_for program).data'
    (structure_declared ms ls) bare.0 bare.1) (λ n some few. refl) d
    (λ is. declared_begins program e line place d fits is named) any
one_begins program e line place d fits (inr parameter) named =
    subst (BegunIn program) (sym (parameter_declared_is d parameter)) refl

-- ---- those of a block

pub each_begins :
    (program : Y.Program) (e : Environment) (line index : ℕ) (ds : List Y.DeclaredVariable) →
    FitsMemory (picture_of parts program) → are_known ds ≡ true → AreNamed program (variables_made e line index ds) →
    AllBegunIn program ds
each_begins program e line index [] fits h named = tt
each_begins program e line index (d ∷ ds) fits h named =
    let a = and_parts (is_any d || is_parameter d) (are_known ds) h in
    let place = automatic_place e.parts e.program e.block e.level index in
    let first = if is_automatic d.class then automatic_made e line place d else [] in
    let rest = variables_made e line (suc index) ds in (
      one_begins program e line place d fits (or_cases (is_any d) (is_parameter d) a.0)
          (λ x i. named x (is_named_front x first rest i)),
      each_begins program e line (suc index) ds fits a.1 (λ x i. named x (is_named_back x first rest i)),
    )

-- its code stands in that of its procedure
variables_named :
    (e : Environment) (head : Y.BlockHead) (body : Y.Stmts) (parameters : List ℕ) (result : Option Y.LeafType)
    (x : Datum) → IsNamed x (variables_code (procedure_environment head e) head.line) →
    IsNamed x (procedure_of_block e (Y.BlockOf head body) parameters result)
variables_named e head body parameters result x h =
    let f = procedure_environment head e in
    let words = block_words f head.number body in
    let held = block_held f head.number body in
    let own = variables_code f head.line in
    let copied = arguments_copied f parameters in
    let entered = block_entered 0 head.line in
    let kept = list_kept head.level parameters in
    let frame = frame_begun words head.level (length parameters) (Some held) in
    let behind = own ++ act_code head.line in
    let taken = move a3 a2 ∷ (entered ++ (copied ++ behind)) in
    let begun = move u5 a1 ∷ (kept ++ taken) in
    let ended = stmts_code f none_taken body ++ procedure_ended f head words held result in
    inr (is_named_front x (frame ++ begun) ended
    (is_named_back x frame begun
    (inr (is_named_back x kept taken
    (inr (is_named_back x entered (copied ++ behind)
    (is_named_back x copied behind (is_named_front x own (act_code head.line) h))))))))

-- and that in the program's
procedure_named :
    (e : Environment) (number : ℕ) (p : Y.Procedure) (ps : List Y.Procedure) (x : Datum) →
    procedure_numbered number ps ≡ Some p → IsNamed x (procedure_of_block e p.block p.parameters p.result) →
    IsNamed x (procedures_code e ps)
procedure_named e number p [] x is h = absurd (cc is)
procedure_named e number p (q ∷ qs) x is h =
    by ((head_of q.block).number == number) is (λ o. procedure_named e number p qs x o h)
  where
    first : Code
    first = procedure_of_block e q.block q.parameters q.result

    by :
        (t : Bool) → cond t (Some q) (procedure_numbered number qs) ≡ Some p →
        (procedure_numbered number qs ≡ Some p → IsNamed x (procedures_code e qs)) →
        IsNamed x (first ++ procedures_code e qs)
    by true same rest =
        is_named_front x first (procedures_code e qs)
        (subst (λ (u : Y.Procedure). IsNamed x (procedure_of_block e u.block u.parameters u.result)) (cc (sym same)) h)
    by false other rest = is_named_back x first (procedures_code e qs) (rest other)

program_named :
    (program : Y.Program) (x : Datum) →
    IsNamed x (procedures_code (program_environment program) program.procedures) → IsNamed x (code_for program)
program_named program x h =
    let e = program_environment program in
    is_named_back x (start_code e) _
    (is_named_back x raise_code _ (is_named_back x (routines_code e e.blocks) _ h))

pub block_begins :
    (program : Y.Program) (head : Y.BlockHead) (body : Y.Stmts) (parameters : List ℕ) (result : Option Y.LeafType) →
    FitsMemory (picture_of parts program) → are_all_known program.variables ≡ true →
    IsReceiving program head body parameters result → AllBegunIn program (variables_of_block program head.number)
block_begins program head body parameters result fits known is =
    let e = program_environment program in
    each_begins program (environment_for program head) head.line 0 (variables_of_block program head.number) fits
    (block_known program.variables head.number known).known
    (λ x h.
    placed_same x (data_start (code_for program)) (static_data (code_for program))
    ∙ static_has (code_for program) x
    (program_named program x
    (procedure_named e head.number _ program.procedures x is (variables_named e head body parameters result x h))))

-- where the same is told
pub begins_at :
    (program : Y.Program) (ds : List Y.DeclaredVariable) (constants : ℕ → Option ℕ) →
    constants ≡ constants_in (code_for program) → AllBegunIn program ds →
    EachBegins constants (linked_code (code_for program)) (links_for program).data' ds
begins_at program ds constants same h =
    subst (λ told. EachBegins told (linked_code (code_for program)) (links_for program).data' ds) (sym same) h
