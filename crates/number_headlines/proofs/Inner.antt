-- What a call of a program of the class finds: a procedure of the class, which a block around the calling one declares.
use Rattle.std.proofs.Common.{◌≡◌, ℕ, suc, ◌≤◌, List, [], ◌∷◌, ◌++◌, Option, None, Some, Bool, true}
use Rattle.std.proofs.Common.{false, length, refl, sym, ap, ◌∙◌, subst, arith}
use Rattle.std.specs.Prelude.{◌&&◌, ◌==◌, ◌||◌, cond, nat_le}
use Rattle.std.specs.List.{list_any}
use Rattle.std.proofs.lemmas.Bool.{and_parts, eqb-true, leb-true}
use Rattle.std.proofs.lemmas.Option.{same_Some}
use Rattle.pli_typing.specs.TypedTree as Y
use Rattle.pli_meaning.specs.DeclaredShapes.{head_of, procedure_numbered, variables_of_block}
use Rattle.pli_meaning.specs.Executing.{labels_in}
use Rattle.pli_coding.specs.Registers.{held_registers}
use Rattle.program_places.specs.Programs.{IsReceiving, environment_for}
use Rattle.number_runs.specs.Statements.{are_statements, begins_need, statements_need, statements_set}
use Rattle.number_headlines.specs.Programs.{are_inner, are_own, body_of, has_result, is_body}
use Rattle.number_headlines.specs.Programs.{is_callable, is_declared_if, is_inner_if}
use Rattle.number_headlines.specs.Programs.{is_valued, most_waiting, scope_of, stand_alike}
use Rattle.number_headlines.proofs.Mains.{Main, received_is, result_by, result_is}

-- with its parameters, by their places among its variables
pub record Inner {program : Y.Program} (m : Main program) (caller : Y.BlockHead) (parameters : List ℕ) (valued : Bool)
    (level number : ℕ) : Type 0
  where
    pub head : Y.BlockHead
    pub body : Y.Stmts
    pub result : Option Y.LeafType
    pub returns : has_result valued result ≡ true
    pub is : IsReceiving program head body parameters result
    pub own : are_own parameters (variables_of_block program head.number) ≡ true
    pub numbered : head.number ≡ number
    pub inside : head.level ≡ suc level
    pub around_it : level ≤ caller.level
    pub alike : stand_alike (environment_for program caller) (environment_for program head) level ≡ true
    pub statements :
        are_statements (scope_of program m.called head body) valued (labels_in body ++ []) body ≡ true
    pub fits : statements_need body ≤ held_registers
    pub begins : begins_need body ≤ held_registers
    pub waiting : statements_set body ≤ most_waiting

number_found :
    (number : ℕ) (p : Y.Procedure) (ps : List Y.Procedure) → procedure_numbered number ps ≡ Some p →
    (head_of p.block).number ≡ number
number_found number p [] e = absurd (cc e)
number_found number p (q ∷ qs) e = by ((head_of q.block).number == number) refl e (number_found number p qs)
  where
    by :
        (t : Bool) → ((head_of q.block).number == number) ≡ t →
        cond t (Some q) (procedure_numbered number qs) ≡ Some p →
        (procedure_numbered number qs ≡ Some p → (head_of p.block).number ≡ number) → (head_of p.block).number ≡ number
    by true e f rest =
        ap (λ (x : Y.Procedure). (head_of x.block).number) (sym (same_Some q p f))
        ∙ eqb-true (head_of q.block).number number e
    by false e f rest = rest f

-- one of the numbers of a closed list
listed_inner :
    (program : Y.Program) (called : List ℕ) (number : ℕ) (ns : List ℕ) →
    are_inner program called ns ≡ true →
    list_any (λ n. n == number) ns ≡ true →
    is_inner_if program called (procedure_numbered number program.procedures) ≡ true
listed_inner program called number [] all h = absurd (cc h)
listed_inner program called number (n ∷ ns) all h =
    by (n == number) refl h (λ f. listed_inner program called number ns parts.1 f)
  where
    parts :
        (is_inner_if program called (procedure_numbered n program.procedures) ≡ true)
        × (are_inner program called ns ≡ true)
    parts = and_parts (is_inner_if program called (procedure_numbered n program.procedures))
        (are_inner program called ns) all

    by :
        (q : Bool) → (n == number) ≡ q → (q || list_any (λ i. i == number) ns) ≡ true →
        (list_any (λ i. i == number) ns ≡ true →
        is_inner_if program called (procedure_numbered number program.procedures) ≡ true) →
        is_inner_if program called (procedure_numbered number program.procedures) ≡ true
    by true e f rest =
        subst (λ i. is_inner_if program called (procedure_numbered i program.procedures) ≡ true)
        (eqb-true n number e) parts.0
    by false e f rest = rest f

valued_is : (valued : Bool) (t : Option Y.LeafType) → has_result valued t ≡ true → is_valued t ≡ valued
valued_is false None h = refl
valued_is false (Some t) h = absurd (cc h)
valued_is true None h = absurd (cc h)
valued_is true (Some t) h = refl

-- one with so many parameters
pub record Found {program : Y.Program} (m : Main program) (caller : Y.BlockHead) (count : ℕ) (valued : Bool)
    (level number : ℕ) : Type 0
  where
    pub parameters : List ℕ
    pub inner : Inner m caller parameters valued level number
    pub many : length parameters ≡ count

pub inner_is :
    {program : Y.Program} (m : Main program) (caller : Y.BlockHead) (count : ℕ) (valued : Bool) (level number : ℕ) →
    is_callable program m.called caller count valued level number ≡ true → Found m caller count valued level number
inner_is {program} m caller count valued level number h =
    by (procedure_numbered number program.procedures) refl parts.1
    (listed_inner program m.called number m.called m.inners parts.0)
  where
    parts :
        (list_any (λ n. n == number) m.called ≡ true)
        × (is_declared_if program caller count valued level (procedure_numbered number program.procedures) ≡ true)
    parts = and_parts (list_any (λ n. n == number) m.called)
        (is_declared_if program caller count valued level (procedure_numbered number program.procedures)) h

    by :
        (o : Option Y.Procedure) → procedure_numbered number program.procedures ≡ o →
        is_declared_if program caller count valued level o ≡ true → is_inner_if program m.called o ≡ true →
        Found m caller count valued level number
    by None e f g = absurd (cc f)
    by (Some p) e f g =
        let head = head_of p.block in
        let body = body_of p.block in
        let alike = stand_alike (environment_for program caller) (environment_for program head) level in
        let s = scope_of program m.called head body in
        let a = and_parts (length p.parameters == count)
        (has_result valued p.result && ((head.level == suc level) && (nat_le level caller.level && alike))) f in
        let b = and_parts (has_result valued p.result)
        ((head.level == suc level) && (nat_le level caller.level && alike)) a.1 in
        let c = and_parts (head.level == suc level) (nat_le level caller.level && alike) b.1 in
        let d = and_parts (nat_le level caller.level) alike c.1 in
        let u = and_parts (are_own p.parameters (variables_of_block program head.number))
        (is_body s (is_valued p.result) body) g in
        let own = subst (λ v. is_body s v body ≡ true) (valued_is valued p.result b.0) u.1 in
        let j = and_parts (are_statements s valued (labels_in body ++ []) body)
        (nat_le (statements_need body) held_registers
        && (nat_le (begins_need body) held_registers && nat_le (statements_set body) most_waiting)) own in
        let l = and_parts (nat_le (statements_need body) held_registers)
        (nat_le (begins_need body) held_registers && nat_le (statements_set body) most_waiting) j.1 in
        let r = and_parts (nat_le (begins_need body) held_registers) (nat_le (statements_set body) most_waiting) l.1 in
        let n = number_found number p program.procedures e in
        record {
          parameters = p.parameters;
          many = eqb-true (length p.parameters) count a.0;
          inner = record {
            head = head;
            body = body;
            result = p.result;
            returns = b.0;
            is = ap (λ k. procedure_numbered k program.procedures) n ∙ e ∙ ap (λ q. Some q) (received_is p);
            own = u.0;
            numbered = n;
            inside = eqb-true head.level (suc level) c.0;
            around_it = leb-true level caller.level d.0;
            alike = d.1;
            statements = j.0;
            fits = leb-true (statements_need body) held_registers l.0;
            begins = leb-true (begins_need body) held_registers r.0;
            waiting = leb-true (statements_set body) most_waiting r.1;
          };
        }

none_many : (ns : List ℕ) → length ns ≡ 0 → ns ≡ []
none_many [] e = refl
none_many (n ∷ ns) e = absurd (omega (arith, e))

-- one without parameters
pub inner_none :
    {program : Y.Program} (m : Main program) (caller : Y.BlockHead) (valued : Bool) (level number : ℕ) →
    is_callable program m.called caller 0 valued level number ≡ true → Inner m caller [] valued level number
inner_none m caller valued level number h =
    let f = inner_is m caller 0 valued level number h in
    subst (λ ns. Inner m caller ns valued level number) (none_many f.parameters f.many) f.inner

-- ---- what it returns

unfoldable pub precision_of :
    {program : Y.Program} {m : Main program} {caller : Y.BlockHead} {ns : List ℕ} {v : Bool} {level number : ℕ} →
    Inner m caller ns v level number → ℕ
precision_of {v = v} i = (result_is v i.result i.returns).precision

pub returns_so :
    {program : Y.Program} {m : Main program} {caller : Y.BlockHead} {ns : List ℕ} {v : Bool} {level number : ℕ}
    (i : Inner m caller ns v level number) → IsReceiving program i.head i.body ns (result_by v (precision_of i))
unfolding precision_of
returns_so {program} {ns = ns} {v = v} i =
    subst (λ t. IsReceiving program i.head i.body ns t) (result_is v i.result i.returns).is i.is
