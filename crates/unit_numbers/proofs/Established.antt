-- The ONs of a list, of the main procedure or of what is called: each is of the class, stands at its place, and is one
-- of the program's.
use Rattle.std.proofs.Common.{◌≡◌, ◌⊎◌, inl, inr, ℕ, ◌+◌, ◌<◌, ◌≤◌, List, [], ◌∷◌, ◌++◌, Option, None, Some, true}
use Rattle.std.proofs.Common.{false}
use Rattle.std.proofs.Common.{refl, sym, ap, ◌∙◌, subst, arith}
use Rattle.std.specs.Prelude.{◌==◌, ◌||◌, Bool, cond, not}
use Rattle.std.specs.List.{list_any}
use Rattle.std.proofs.lemmas.Bool.{eqb-true}
use Rattle.pli_language.specs.declared.condition.Condition.{Condition}
use Rattle.pli_typing.specs.TypedTree as Y
use Rattle.pli_meaning.specs.Control.{Label}
use Rattle.pli_meaning.specs.DeclaredShapes.{head_of, procedure_numbered}
use Rattle.pli_meaning.specs.Executing.{labels_in}
use Rattle.pli_meaning.specs.StorageState.{Activation, force, same_condition}
use Rattle.pli_coding.specs.Assembly.{size_of}
use Rattle.pli_coding.specs.Environments.{Environment, none_taken}
use Rattle.pli_coding.specs.Images.{linked_code}
use Rattle.pli_coding.specs.Procedures.{procedure_of_block}
use Rattle.pli_coding.specs.Statements.{stmt_code}
use Rattle.code_marks.specs.CodeMarks.{MarkedOnce}
use Rattle.activation_relation.specs.ServiceLaws.{IsSystem}
use Rattle.program_places.specs.Placed.{Placed}
use Rattle.program_places.specs.Programs.{body_for, code_for, entry_among, environment_for, links_for, procedures_index}
use Rattle.program_places.specs.Programs.{program_environment}
use Rattle.program_places.proofs.Procedures.{body_placed}
use Rattle.program_places.proofs.Starts.{main_found}
use Rattle.program_runs.specs.Statements.{Block}
use Rattle.number_runs.specs.Knowledge.{AreStanding}
use Rattle.number_headlines.specs.Programs.{body_of}
use Rattle.unit_runs.specs.Establishing.{OnUnit, on_of}
use Rattle.phase_runs.specs.Units.{AreBy, ArePlaced, IsListed, Past}
use Rattle.unit_numbers.specs.Called.{called_units, units_if}
use Rattle.unit_numbers.specs.Calls.{all_units_in, has_unit}
use Rattle.unit_numbers.specs.Programs.{are_apart}
use Rattle.unit_numbers.specs.Steps.{are_steps}
use Rattle.unit_numbers.specs.Units.{is_unit}
use Rattle.unit_numbers.proofs.Forces.{FoundOwn, force_over}
use Rattle.unit_numbers.proofs.Mains.{Alone, Main, all_ons, block_for, called_placed, list_of, ons_of, placed}
use Rattle.unit_numbers.proofs.Mains.{placed_if}
use Rattle.unit_numbers.proofs.Mains.{level_of, units_for}
use Rattle.unit_numbers.proofs.Past.{main_alone, main_past}
use Rattle.unit_numbers.proofs.Places.{all_heads_in, all_on_placed, all_placed_in, heads_of, listed_at, listed_back}
use Rattle.unit_numbers.proofs.Places.{listed_front, placed_by, two_heads, unit_listed}

abbrev pub start_of : {program : Y.Program} → Main program → ℕ
start_of {program} m = body_for program m.head m.body

pub list_placed :
    MarkedOnce → {program : Y.Program} (m : Main program) (input : List ℕ) (acts : ℕ) →
    AreStanding (block_for m input acts) (list_of m) (start_of m)
list_placed once {program} m input acts =
    body_placed once program m.head m.body None m.loadable (main_found program (placed m) m.main)

-- procedures stand behind the start and the routines of raises
pub entry_low :
    (e : Environment) (number : ℕ) (ps : List Y.Procedure) (index : ℕ) → index ≤ entry_among e number ps index
entry_low e number [] index = omega arith
entry_low e number (p ∷ ps) index =
    by ((head_of p.block).number == number)
    (entry_low e number ps (index + size_of (procedure_of_block e p.block p.parameters p.result)))
  where
    by :
        (q : Bool) →
        index + size_of (procedure_of_block e p.block p.parameters p.result)
        ≤ entry_among e number ps (index + size_of (procedure_of_block e p.block p.parameters p.result)) →
        index
        ≤ cond q index
        (entry_among e number ps (index + size_of (procedure_of_block e p.block p.parameters p.result)))
    by true more = omega arith
    by false more = omega (arith, more)

-- ---- an ON of a list of the program

pub record IsOnOf {program : Y.Program} (m : Main program) (head : Y.BlockHead) (all : Y.Stmts) (e : OnUnit × ℕ)
    : Type 0
  where
    pub is : is_unit program m.called head all e.0 ≡ true
    pub placed :
        Placed (links_for program) (linked_code (code_for program)) e.1
        (stmt_code (environment_for program head) none_taken (on_of e.0))
    pub low : procedures_index program ≤ e.1
    pub level : head.level < 16
    pub listed : IsListed e (all_ons m)

-- where the code of a block stands
abbrev site_at : {program : Y.Program} → Main program → Y.BlockHead → Block
site_at {program} m head = record (block_for m [] 0) { environment = environment_for program head }

pub ons_are :
    {program : Y.Program} (m : Main program) (head : Y.BlockHead) (all : Y.Stmts) (valued : Bool) (labels : List Label)
    (body : Y.Stmts)
    (index : ℕ) → head.level < 16 → procedures_index program ≤ index → AreStanding (site_at m head) body index →
    are_steps program m.called head all valued labels body ≡ true →
    ((e : OnUnit × ℕ) → IsListed e (all_placed_in (environment_for program head) body index) →
    IsListed e (all_ons m)) → (e : OnUnit × ℕ) →
    IsListed e (all_placed_in (environment_for program head) body index) → IsOnOf m head all e
ons_are {program} m head all valued labels body index level low at steps among e there =
    let o = all_on_placed program m.called head all (site_at m head) valued labels body index steps at e there in
    let behind = o.behind in
    record { is = o.is; placed = o.placed; low = omega (arith, low, behind); level = level; listed = among e there }

pub main_on :
    MarkedOnce → {program : Y.Program} (m : Main program) (e : OnUnit × ℕ) → IsListed e (ons_of m) →
    IsOnOf m m.head (list_of m) e
main_on once {program} m e there =
    let low = entry_low (program_environment program) m.head.number program.procedures (procedures_index program) in
    let level = level_of m in
    ons_are m m.head (list_of m) false (labels_in (list_of m) ++ []) (list_of m) (start_of m) (omega (arith, level))
    (omega (arith, low))
    (list_placed once m [] 0) m.steps
    (λ x h. listed_front x (ons_of m) (called_placed program m.called) h) e there

-- those of one of the numbers are among those of what is called
pub called_listed :
    (program : Y.Program) (number : ℕ) (ns : List ℕ) → list_any (λ n. n == number) ns ≡ true → (e : OnUnit × ℕ) →
    IsListed e (placed_if program (procedure_numbered number program.procedures)) →
    IsListed e (called_placed program ns)
called_listed program number [] h e there = absurd (cc h)
called_listed program number (n ∷ ns) h e there =
    by (n == number) refl h (λ g. called_listed program number ns g e there)
  where
    by :
        (q : Bool) → (n == number) ≡ q → (q || list_any (λ i. i == number) ns) ≡ true →
        (list_any (λ i. i == number) ns ≡ true → IsListed e (called_placed program ns)) →
        IsListed e (called_placed program (n ∷ ns))
    by true same f rest =
        listed_front e (placed_if program (procedure_numbered n program.procedures)) (called_placed program ns)
        (subst (λ i. IsListed e (placed_if program (procedure_numbered i program.procedures)))
        (sym (eqb-true n number same)) there)
    by false same f rest =
        listed_back e (placed_if program (procedure_numbered n program.procedures)) (called_placed program ns) (rest f)

-- no two of all of them are alike
heads_if :
    (program : Y.Program) (o : Option Y.Procedure) → heads_of (placed_if program o) ≡ units_if o
heads_if program None = refl
heads_if program (Some p) =
    all_heads_in (environment_for program (head_of p.block)) (body_of p.block)
    (body_for program (head_of p.block) (body_of p.block))

called_heads : (program : Y.Program) (ns : List ℕ) → heads_of (called_placed program ns) ≡ called_units program ns
called_heads program [] = refl
called_heads program (n ∷ ns) =
    two_heads (placed_if program (procedure_numbered n program.procedures)) (called_placed program ns)
    (units_if (procedure_numbered n program.procedures)) (called_units program ns)
    (heads_if program (procedure_numbered n program.procedures)) (called_heads program ns)

pub all_apart : {program : Y.Program} (m : Main program) → are_apart (heads_of (all_ons m)) ≡ true
all_apart {program} m =
    ap are_apart (two_heads (ons_of m) (called_placed program m.called) (all_units_in (list_of m))
    (called_units program m.called) (all_heads_in (environment_for program m.head) (list_of m) (start_of m))
    (called_heads program m.called))
    ∙ m.apart

-- the program has each of the main procedure's at its place
pub ons_placed : {program : Y.Program} (m : Main program) → ArePlaced (units_for m) (ons_of m)
ons_placed {program} m =
    placed_by (units_for m) (ons_of m)
    (λ e h. listed_at e (all_ons m) (listed_front e (ons_of m) (called_placed program m.called) h))

-- ---- the unit in force in the main procedure's block: one of those that it may have

abbrev pub main_one :
    {program : Y.Program} → (m : Main program) → (input : List ℕ) → (acts : ℕ) → (past : Past) → AreBy (ons_of m) past →
    Activation
main_one m input acts past known =
    let a = main_alone m input acts past known in
    record {
      height = 1;
      level = m.head.level;
      parent = 0;
      oncode = 0;
      bindings = a.bindings;
      units = a.units;
    }

abbrev pub InMain :
    {program : Y.Program} → (m : Main program) → (input : List ℕ) → (acts : ℕ) → (past : Past) →
    AreBy (ons_of m) past → Condition → Type 0
InMain m input acts past known c =
    IsSystem (force (main_past m input acts past).first.state.activations c)
    ⊎ FoundOwn (ons_of m) (main_one m input acts past known) [] c

pub in_main :
    {program : Y.Program} (m : Main program) (input : List ℕ) (acts : ℕ) (past : Past) (known : AreBy (ons_of m) past)
    (c : Condition) → InMain m input acts past known c
in_main {program} m input acts past known c = by (force_over (ons_of m) one [] c a.own)
  where
    a : Alone m.head.level (ons_of m) (main_past m input acts past).first.state.activations
    a = main_alone m input acts past known

    one : Activation
    one = main_one m input acts past known

    by :
        IsSystem (force (one ∷ []) c) ⊎ (FoundOwn (ons_of m) one [] c ⊎ (force (one ∷ []) c ≡ None)) →
        InMain m input acts past known c
    by (inl system) = inl (subst (λ xs. IsSystem (force xs c)) (sym a.is) system)
    by (inr (inl n)) = inr n
    by (inr (inr none)) = inl (subst (λ xs. IsSystem (force xs c)) (sym a.is) (subst IsSystem (sym none) tt))

-- none for a condition for which the list has none
pub none_system :
    {program : Y.Program} (m : Main program) (input : List ℕ) (acts : ℕ) (past : Past) → AreBy (ons_of m) past →
    (c : Condition) → not (has_unit c (list_of m)) ≡ true →
    IsSystem (force (main_past m input acts past).first.state.activations c)
none_system {program} m input acts past known c none = by (in_main m input acts past known c)
  where
    by :
        InMain m input acts past known c → IsSystem (force (main_past m input acts past).first.state.activations c)
    by (inl system) = system
    by (inr n) =
        let listed = unit_listed (n.unit, n.index) (ons_of m) n.listed in
        let heads = all_heads_in (environment_for program m.head) (list_of m) (start_of m) in
        let there = subst (λ us. list_any (λ x. same_condition x.condition n.unit.condition) us ≡ true) heads listed in
        let there' = subst (λ d. has_unit d (list_of m) ≡ true) n.condition there in
        absurd (cc (sym (ap not there') ∙ none))
