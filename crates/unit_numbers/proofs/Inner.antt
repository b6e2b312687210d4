-- What a call finds: a procedure or a function of the class, which a block around the calling one declares.
use Rattle.std.proofs.Common.{◌≡◌, ℕ, suc, ◌≤◌, List, [], ◌∷◌, ◌++◌, length, Option, None, Some, Bool, true}
use Rattle.std.proofs.Common.{false, refl, sym, ap, ◌∙◌, subst, arith}
use Rattle.std.specs.Prelude.{◌&&◌, ◌==◌, ◌||◌, cond, nat_le, not}
use Rattle.std.specs.List.{list_any}
use Rattle.std.proofs.lemmas.Bool.{and_parts, eqb-true, leb-true}
use Rattle.std.proofs.lemmas.Option.{same_Some}
use Rattle.pli_typing.specs.TypedTree as Y
use Rattle.pli_meaning.specs.DeclaredShapes.{head_of, procedure_numbered}
use Rattle.pli_meaning.specs.Executing.{labels_in}
use Rattle.pli_coding.specs.Environments.{none_taken}
use Rattle.pli_coding.specs.Registers.{held_registers}
use Rattle.pli_coding.specs.Statements.{block_held, block_takes}
use Rattle.code_marks.specs.CodeMarks.{MarkedOnce}
use Rattle.program_places.specs.Programs.{IsProcedure, body_for, environment_for, procedure_for, procedures_index}
use Rattle.program_places.specs.Programs.{program_environment}
use Rattle.program_places.proofs.Found.{known}
use Rattle.program_places.proofs.Procedures.{body_placed}
use Rattle.number_runs.specs.Numbers.{has_none}
use Rattle.number_runs.specs.Statements.{statements_need, statements_set}
use Rattle.number_runs.proofs.Taking.{Sets}
use Rattle.number_headlines.specs.Programs.{body_of, has_result, is_callable, is_declared_if, is_valued, most_waiting}
use Rattle.number_headlines.specs.Programs.{stand_alike}
use Rattle.number_headlines.proofs.Mains.{procedure_is, result_by, result_is}
use Rattle.number_headlines.proofs.Tables.{block_plain}
use Rattle.unit_runs.specs.Establishing.{OnUnit}
use Rattle.phase_runs.specs.Units.{IsListed}
use Rattle.unit_numbers.specs.Called.{are_called, is_called_if, is_list_of}
use Rattle.unit_numbers.specs.Steps.{are_steps}
use Rattle.unit_numbers.proofs.Established.{IsOnOf, called_listed, entry_low, ons_are}
use Rattle.unit_numbers.proofs.Mains.{Main, called_placed, main_scope, ons_of, placed_if}
use Rattle.unit_numbers.proofs.Places.{all_placed_in, listed_back}
use Rattle.unit_numbers.proofs.Takes.{behind_variables, steps_taken}

-- its list is of the class, with what its temporaries and its loops take
pub record ListFit (program : Y.Program) (ns : List ℕ) (head : Y.BlockHead) (valued : Bool) (body : Y.Stmts) : Type 0
  where
    pub steps : are_steps program ns head body valued (labels_in body ++ []) body ≡ true
    pub fits : statements_need body ≤ held_registers
    pub waiting : statements_set body ≤ most_waiting

list_fit :
    (program : Y.Program) (ns : List ℕ) (head : Y.BlockHead) (valued : Bool) (body : Y.Stmts) →
    is_list_of program ns head valued body ≡ true → ListFit program ns head valued body
list_fit program ns head valued body h =
    let fits = nat_le (statements_need body) held_registers in
    let waiting = nat_le (statements_set body) most_waiting in
    let a = and_parts (are_steps program ns head body valued (labels_in body ++ []) body) (fits && waiting) h in
    let b = and_parts fits waiting a.1 in
    record {
      steps = a.0;
      fits = leb-true (statements_need body) held_registers b.0;
      waiting = leb-true (statements_set body) most_waiting b.1;
    }

pub record Inner {program : Y.Program} (m : Main program) (caller : Y.BlockHead) (valued : Bool) (level number : ℕ)
    : Type 0
  where
    pub head : Y.BlockHead
    pub body : Y.Stmts
    pub result : Option Y.LeafType
    pub returns : has_result valued result ≡ true
    pub is : IsProcedure program head body result
    pub numbered : head.number ≡ number
    pub inside : head.level ≡ suc level
    pub around_it : level ≤ caller.level
    pub alike : stand_alike (environment_for program caller) (environment_for program head) level ≡ true
    pub listed : list_any (λ n. n == number) m.called ≡ true
    pub fit : ListFit program m.called head valued body

number_found :
    (number : ℕ) (p : Y.Procedure) (ps : List Y.Procedure) → procedure_numbered number ps ≡ Some p →
    (head_of p.block).number ≡ number
number_found number p [] e = absurd (cc e)
number_found number p (q ∷ qs) e = by ((head_of q.block).number == number) refl e (number_found number p qs)
  where
    by :
        (t : Bool) → ((head_of q.block).number == number) ≡ t →
        cond t (Some q) (procedure_numbered number qs) ≡ Some p →
        (procedure_numbered number qs ≡ Some p → (head_of p.block).number ≡ number) → (head_of p.block).number ≡ number
    by true e f rest =
        ap (λ (x : Y.Procedure). (head_of x.block).number) (sym (same_Some q p f))
        ∙ eqb-true (head_of q.block).number number e
    by false e f rest = rest f

-- one of the numbers of a closed list
listed_inner :
    (program : Y.Program) (called : List ℕ) (number : ℕ) (ns : List ℕ) →
    are_called program called ns ≡ true →
    list_any (λ n. n == number) ns ≡ true →
    is_called_if program called (procedure_numbered number program.procedures) ≡ true
listed_inner program called number [] closed h = absurd (cc h)
listed_inner program called number (n ∷ ns) closed h =
    by (n == number) refl h (λ f. listed_inner program called number ns parts.1 f)
  where
    parts :
        (is_called_if program called (procedure_numbered n program.procedures) ≡ true)
        × (are_called program called ns ≡ true)
    parts = and_parts (is_called_if program called (procedure_numbered n program.procedures))
        (are_called program called ns) closed

    by :
        (q : Bool) → (n == number) ≡ q → (q || list_any (λ i. i == number) ns) ≡ true →
        (list_any (λ i. i == number) ns ≡ true →
        is_called_if program called (procedure_numbered number program.procedures) ≡ true) →
        is_called_if program called (procedure_numbered number program.procedures) ≡ true
    by true e f rest =
        subst (λ i. is_called_if program called (procedure_numbered i program.procedures) ≡ true)
        (eqb-true n number e) parts.0
    by false e f rest = rest f

valued_is : (valued : Bool) (t : Option Y.LeafType) → has_result valued t ≡ true → is_valued t ≡ valued
valued_is false None h = refl
valued_is false (Some t) h = absurd (cc h)
valued_is true None h = absurd (cc h)
valued_is true (Some t) h = refl

pub inner_is :
    {program : Y.Program} (m : Main program) (caller : Y.BlockHead) (valued : Bool) (level number : ℕ) →
    is_callable program m.called caller 0 valued level number ≡ true → Inner m caller valued level number
inner_is {program} m caller valued level number h =
    by (procedure_numbered number program.procedures) refl parts.1
    (listed_inner program m.called number m.called m.calls parts.0)
  where
    parts :
        (list_any (λ n. n == number) m.called ≡ true)
        × (is_declared_if program caller 0 valued level (procedure_numbered number program.procedures) ≡ true)
    parts = and_parts (list_any (λ n. n == number) m.called)
        (is_declared_if program caller 0 valued level (procedure_numbered number program.procedures)) h

    by :
        (o : Option Y.Procedure) → procedure_numbered number program.procedures ≡ o →
        is_declared_if program caller 0 valued level o ≡ true → is_called_if program m.called o ≡ true →
        Inner m caller valued level number
    by None e f g = absurd (cc f)
    by (Some p) e f g =
        let head = head_of p.block in
        let body = body_of p.block in
        let alike = stand_alike (environment_for program caller) (environment_for program head) level in
        let a = and_parts (length p.parameters == 0)
        (has_result valued p.result && ((head.level == suc level) && (nat_le level caller.level && alike))) f in
        let b = and_parts (has_result valued p.result)
        ((head.level == suc level) && (nat_le level caller.level && alike)) a.1 in
        let c = and_parts (head.level == suc level) (nat_le level caller.level && alike) b.1 in
        let d = and_parts (nat_le level caller.level) alike c.1 in
        let fits = is_list_of program m.called head (is_valued p.result) body in
        let i = and_parts (has_none p.parameters) (not ((head_of p.block).level == 0) && fits) g in
        let inner = and_parts (not ((head_of p.block).level == 0)) fits i.1 in
        let own = subst (λ v. is_list_of program m.called head v body ≡ true)
        (valued_is valued p.result b.0) inner.1 in
        let n = number_found number p program.procedures e in
        record {
          head = head;
          body = body;
          result = p.result;
          returns = b.0;
          is = ap (λ k. procedure_numbered k program.procedures) n ∙ e ∙ ap (λ q. Some q) (procedure_is p i.0);
          numbered = n;
          inside = eqb-true head.level (suc level) c.0;
          around_it = leb-true level caller.level d.0;
          alike = d.1;
          listed = parts.0;
          fit = list_fit program m.called head valued body own;
        }

-- ---- its list

-- what its temporaries take
inner_taken :
    {program : Y.Program} (m : Main program) {caller : Y.BlockHead} {valued : Bool} {level number : ℕ}
    (i : Inner m caller valued level number) →
    Sets (statements_need i.body) (statements_set i.body) none_taken (block_takes program i.head.number i.body)
inner_taken {program} m {valued = valued} i =
    let plain = block_plain program.variables i.head.number m.plain in
    behind_variables (main_scope m false) program i.head.number (statements_need i.body) (statements_set i.body) i.body
    plain.plain
    (steps_taken program m.called i.head i.body valued (labels_in i.body ++ []) i.body i.fit.steps i.fit.fits)

pub inner_set :
    {program : Y.Program} (m : Main program) {caller : Y.BlockHead} {valued : Bool} {level number : ℕ}
    (i : Inner m caller valued level number) → (procedure_for program i.head i.body).words ≡ statements_set i.body
inner_set m i = let n = (inner_taken m i).words in omega (arith, n)

-- it saves as many registers as they take
pub inner_held :
    {program : Y.Program} (m : Main program) {caller : Y.BlockHead} {valued : Bool} {level number : ℕ}
    (i : Inner m caller valued level number) →
    statements_need i.body ≤ block_held (environment_for program i.head) i.head.number i.body
inner_held m i =
    let n = (inner_taken m i).registers in
    let fits = i.fit.fits in
    omega (arith, n, fits)

-- its ONs are of the program
pub inner_ons :
    MarkedOnce → {program : Y.Program} (m : Main program) {caller : Y.BlockHead} {valued : Bool} {level number : ℕ}
    (i : Inner m caller valued level number) (e : OnUnit × ℕ) →
    IsListed e (all_placed_in (environment_for program i.head) i.body (body_for program i.head i.body)) →
    IsOnOf m i.head i.body e
inner_ons once {program} m {valued = valued} {number = number} i e there =
    let low = entry_low (program_environment program) i.head.number program.procedures (procedures_index program) in
    let found = subst (λ n. procedure_numbered n program.procedures
    ≡ Some (record { block = Y.BlockOf i.head i.body; parameters = []; result = i.result })) i.numbered i.is in
    ons_are m i.head i.body valued (labels_in i.body ++ []) i.body (body_for program i.head i.body)
    (known program i.head i.body i.result m.loadable.well_formed i.is).level (omega (arith, low))
    (body_placed once program i.head i.body i.result m.loadable i.is) i.fit.steps
    (λ x h.
    listed_back x (ons_of m) (called_placed program m.called)
    (called_listed program number m.called i.listed x
    (subst (λ o. IsListed x (placed_if program o)) (sym found) h)))
    e there

-- ---- what it returns

unfoldable pub precision_of :
    {program : Y.Program} {m : Main program} {caller : Y.BlockHead} {v : Bool} {level number : ℕ} →
    Inner m caller v level number → ℕ
precision_of {v = v} i = (result_is v i.result i.returns).precision

pub returns_so :
    {program : Y.Program} {m : Main program} {caller : Y.BlockHead} {v : Bool} {level number : ℕ}
    (i : Inner m caller v level number) → IsProcedure program i.head i.body (result_by v (precision_of i))
unfolding precision_of
returns_so {program} {v = v} i =
    subst (λ t. IsProcedure program i.head i.body t) (result_is v i.result i.returns).is i.is
