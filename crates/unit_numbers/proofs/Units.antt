-- A unit of a block that may establish some: what the class says of it, and what of its frame.
use Rattle.std.proofs.Common.{◌≡◌, ◌⊎◌, inl, inr, ℕ, suc, ◌^◌, ◌<◌, ◌≤◌, List, [], ◌∷◌, ◌++◌, true, false, refl}
use Rattle.std.proofs.Common.{ap, ◌∙◌}
use Rattle.std.specs.Prelude.{◌&&◌, ◌==◌, Bool, nat_le}
use Rattle.std.proofs.lemmas.Bool.{and_parts, eqb-true, leb-true, ltb-true, or_cases}
use Rattle.pli_typing.specs.TypedTree as Y
use Rattle.pli_meaning.specs.DeclaredShapes.{variables_of_block}
use Rattle.pli_meaning.specs.Executing.{labels_in}
use Rattle.pli_coding.specs.Entries.{variables_made}
use Rattle.pli_coding.specs.Environments.{Environment, block_around}
use Rattle.pli_coding.specs.Registers.{held_registers}
use Rattle.pli_coding.specs.Statements.{unit_environment, unit_variables}
use Rattle.program_places.specs.Programs.{environment_for}
use Rattle.unit_runs.specs.Establishing.{OnUnit}
use Rattle.number_runs.specs.Numbers.{has_none}
use Rattle.number_runs.specs.Statements.{are_statements, begins_need, is_line, statements_need, statements_set}
use Rattle.number_headlines.specs.Programs.{is_body, most_waiting}
use Rattle.unit_numbers.specs.Calls.{is_body_in, scope_in}
use Rattle.unit_numbers.specs.Units.{is_around, is_bare, is_unit}

abbrev pub IsBare : Y.Program → Y.BlockHead → Type 0
IsBare program head =
    (head.kind ≡ Y.SimpleUnit)
    ⊎ ((head.kind ≡ Y.UnitBlock) × (variables_of_block program head.number ≡ []))

-- a body that writes or not, with what its temporaries and its loops take
pub record Fit (program : Y.Program) (ns : List ℕ) (all : Y.Stmts) (caller : Y.BlockHead) (unit valued : Bool)
    (body : Y.Stmts) : Type 0
  where
    pub writes : Bool
    pub statements :
        are_statements (scope_in program ns all caller unit writes) valued (labels_in body ++ []) body ≡ true
    pub fits : statements_need body ≤ held_registers
    pub waiting : statements_set body ≤ most_waiting

pub fit_is :
    (program : Y.Program) (ns : List ℕ) (all : Y.Stmts) (caller : Y.BlockHead) (unit valued : Bool) (body : Y.Stmts) →
    is_body_in program ns all caller unit valued body ≡ true → Fit program ns all caller unit valued body
fit_is program ns all caller unit valued body h =
    by (or_cases (is_body (scope_in program ns all caller unit false) valued body)
    (is_body (scope_in program ns all caller unit true) valued body) h)
  where
    one :
        (writes : Bool) → is_body (scope_in program ns all caller unit writes) valued body ≡ true →
        Fit program ns all caller unit valued body
    one writes g =
        let fits = nat_le (statements_need body) held_registers in
        let waiting = nat_le (statements_set body) most_waiting in
        let begins = nat_le (begins_need body) held_registers in
        let a = and_parts (are_statements (scope_in program ns all caller unit writes) valued (labels_in body ++ [])
        body)
        (fits && (begins && waiting)) g in
        let b = and_parts fits (begins && waiting) a.1 in
        record {
          writes = writes;
          statements = a.0;
          fits = leb-true (statements_need body) held_registers b.0;
          waiting = leb-true (statements_set body) most_waiting (and_parts begins waiting b.1).1;
        }

    by :
        (is_body (scope_in program ns all caller unit false) valued body ≡ true)
        ⊎ (is_body (scope_in program ns all caller unit true) valued body ≡ true) →
        Fit program ns all caller unit valued body
    by (inl g) = one false g
    by (inr g) = one true g

pub record Unit' (program : Y.Program) (ns : List ℕ) (main : Y.BlockHead) (all : Y.Stmts) (x : OnUnit) : Type 0 where
  pub line : x.line < 2 ^ 31
  pub begins : x.head.line < 2 ^ 31
  pub level : x.head.level ≡ suc main.level
  pub around : block_around (unit_environment x.head (environment_for program main)) main.level ≡ main.number
  pub bare : IsBare program x.head
  pub fit : Fit program ns all main true false x.body

pub none_of : {A : Type 0} (xs : List A) → has_none xs ≡ true → xs ≡ []
none_of [] h = refl
none_of (x ∷ xs) h = absurd (cc h)

bare_is :
    (program : Y.Program) (head : Y.BlockHead) (kind : Y.BlockKind) → head.kind ≡ kind →
    is_bare program head kind ≡ true → IsBare program head
bare_is program head Y.SimpleUnit e h = inl e
bare_is program head Y.UnitBlock e h = inr (e, none_of (variables_of_block program head.number) h)
bare_is program head Y.BeginBlock e h = absurd (cc h)
bare_is program head Y.ProcedureBlock e h = absurd (cc h)

pub unit_is :
    (program : Y.Program) (ns : List ℕ) (main : Y.BlockHead) (all : Y.Stmts) (x : OnUnit) →
    is_unit program ns main all x ≡ true → Unit' program ns main all x
unit_is program ns main all x h =
    let bare = is_bare program x.head x.head.kind in
    let body = is_body_in program ns all main true false x.body in
    let five = bare && body in
    let four = is_around program main x.head && five in
    let three = (x.head.level == suc main.level) && four in
    let two = is_line x.head.line && three in
    let b = and_parts (is_line x.line) two h in
    let c = and_parts (is_line x.head.line) three b.1 in
    let d = and_parts (x.head.level == suc main.level) four c.1 in
    let e = and_parts (is_around program main x.head) five d.1 in
    let f = and_parts bare body e.1 in
    record {
      line = ltb-true x.line (2 ^ 31) b.0;
      begins = ltb-true x.head.line (2 ^ 31) c.0;
      level = eqb-true x.head.level (suc main.level) d.0;
      around =
          eqb-true (block_around (unit_environment x.head (environment_for program main)) main.level) main.number e.0;
      bare = bare_is program x.head x.head.kind refl f.0;
      fit = fit_is program ns all main true false x.body f.1;
    }

-- it makes no variables
pub none_coded :
    (program : Y.Program) (e : Environment) (head : Y.BlockHead) → e.program ≡ program → IsBare program head →
    unit_variables (unit_environment head e) head head.kind ≡ []
none_coded program e head same (inl is) = ap (λ kind. unit_variables (unit_environment head e) head kind) is
none_coded program e head same (inr is) =
    ap (λ kind. unit_variables (unit_environment head e) head kind) is.0
    ∙ ap (λ vs. variables_made (unit_environment head e) head.line 0 vs)
    (ap (λ p. variables_of_block p head.number) same ∙ is.1)
