-- What the temporaries of a block take: its frame has the words that its statements set aside, and no more.
use Rattle.std.proofs.Common.{◌≡◌, ◌⊎◌, inl, inr, ℕ, ◌<◌, ◌≤◌, List, [], ◌∷◌, ◌++◌, true, refl, sym}
use Rattle.std.proofs.Common.{ap, ◌∙◌, subst, arith, false}
use Rattle.std.specs.Prelude.{◌||◌, Bool, if◌then◌else◌}
use Rattle.std.proofs.lemmas.Bool.{and_from, and_parts, or_cases, or_left, or_right}
use Rattle.pli_typing.specs.TypedTree as Y
use Rattle.pli_meaning.specs.DeclaredShapes.{variables_of_block}
use Rattle.pli_meaning.specs.Executing.{labels_in}
use Rattle.pli_meaning.specs.Texts.{most_text}
use Rattle.pli_coding.specs.Entries.{variable_takes, variables_take}
use Rattle.pli_coding.specs.Extents.{extents_take}
use Rattle.pli_coding.specs.Environments.{Environment, most_taken, none_taken}
use Rattle.pli_coding.specs.Registers.{held_registers}
use Rattle.pli_coding.specs.Statements.{block_held, block_takes, block_words, stmts_take}
use Rattle.pli_headline.specs.ProvedSoFar.{text_leaf}
use Rattle.number_runs.specs.Numbers.{Scope}
use Rattle.number_runs.specs.Numbers.{is_parameter}
use Rattle.number_runs.specs.Statements.{are_statements}
use Rattle.number_runs.specs.Statements.{statements_need, statements_set}
use Rattle.number_runs.specs.Based.{is_area, is_based}
use Rattle.number_runs.specs.Variables.{are_any, are_known, are_plain, is_any, is_declared}
use Rattle.number_runs.proofs.Areas.{constant_area}
use Rattle.number_runs.proofs.Based.{area_declared}
use Rattle.array_runs.specs.Arrays.{grid_declared}
use Rattle.array_runs.proofs.ArrayCode.{constant_is}
use Rattle.number_runs.proofs.Arrays.{type_of}
use Rattle.number_runs.proofs.Declared.{numeric_element, of_any, of_declared}
use Rattle.scalar_runs.specs.Scalars.{scalar_declared}
use Rattle.number_runs.proofs.Narrow.{by_narrow}
use Rattle.number_runs.proofs.Variables.{parameter_declared_is}
use Rattle.number_runs.proofs.Taking.{Sets, sets_behind, takes_none}
use Rattle.number_runs.proofs.Takes.{statements_taken}

text_takes_none :
    (varying : Bool) (n : ℕ) → 0 < n → n ≤ most_text →
    variable_takes (scalar_declared (text_leaf varying n) []) ≡ none_taken
text_takes_none false n some few = refl
text_takes_none true n some few = refl

declared_takes : (d : Y.DeclaredVariable) → is_declared d ≡ true → variable_takes d ≡ none_taken
declared_takes d h =
    of_declared (λ d'. variable_takes d' ≡ none_taken) (λ initial fit. refl)
    (λ g initial is. ap (λ q. if q then none_taken else extents_take none_taken (grid_declared g initial))
    (constant_is g initial (numeric_element g.type (type_of is))))
    (λ t is initial fit.
    by_narrow (λ u. variable_takes (scalar_declared u []) ≡ none_taken) (λ p is'. refl) refl text_takes_none t is) refl
    d h

known_takes :
    (d : Y.DeclaredVariable) → (is_any d ≡ true) ⊎ (is_parameter d ≡ true) → variable_takes d ≡ none_taken
known_takes d (inl h) =
    of_any (λ d'. variable_takes d' ≡ none_taken) (λ ms ls fit. refl)
    (λ n some few. ap (λ q. if q then none_taken else extents_take none_taken (area_declared n)) (constant_area n few))
    d (λ is. declared_takes d is) h
known_takes d (inr h) = subst (λ d'. variable_takes d' ≡ none_taken) (sym (parameter_declared_is d h)) refl

pub plain_takes : (ds : List Y.DeclaredVariable) → are_known ds ≡ true → variables_take ds ≡ none_taken
plain_takes [] h = refl
plain_takes (d ∷ ds) h =
    let a = and_parts (is_any d || is_parameter d) (are_known ds) h in
    ap (λ t. most_taken t (variables_take ds)) (known_takes d (or_cases (is_any d) (is_parameter d) a.0))
    ∙ ap (λ t. most_taken none_taken t) (plain_takes ds a.1)

-- those that a block makes are known
pub any_known : (ds : List Y.DeclaredVariable) → are_any ds ≡ true → are_known ds ≡ true
any_known [] h = refl
any_known (d ∷ ds) h =
    let a = and_parts (is_any d) (are_any ds) h in
    and_from (is_any d || is_parameter d) (are_known ds) (ap (λ q. q || is_parameter d) a.0) (any_known ds a.1)

pub plain_any : (ds : List Y.DeclaredVariable) → are_plain ds ≡ true → are_any ds ≡ true
plain_any [] h = refl
plain_any (d ∷ ds) h =
    let a = and_parts (is_declared d) (are_plain ds) h in
    and_from (is_any d) (are_any ds)
    (or_right (is_based d) (is_declared d || is_area d) (or_left (is_declared d) (is_area d) a.0)) (plain_any ds a.1)

pub plain_known : (ds : List Y.DeclaredVariable) → are_plain ds ≡ true → are_known ds ≡ true
plain_known ds h = any_known ds (plain_any ds h)

pub block_sets :
    (s : Scope) (valued : Bool) (program : Y.Program) (block : ℕ) (body : Y.Stmts) →
    are_known (variables_of_block program block) ≡ true →
    are_statements s valued (labels_in body ++ []) body ≡ true → statements_need body ≤ held_registers →
    Sets (statements_need body) (statements_set body) none_taken (block_takes program block body)
block_sets s valued program block body plain h fits =
    subst (λ t. Sets (statements_need body) (statements_set body) none_taken
    (most_taken t (stmts_take none_taken body))) (sym (plain_takes (variables_of_block program block) plain))
    (subst (λ n. Sets n (statements_set body) none_taken (most_taken none_taken (stmts_take none_taken body)))
    (omega arith)
    (sets_behind 0 (statements_need body) (statements_set body) none_taken none_taken (stmts_take none_taken body)
    (takes_none none_taken) (statements_taken 0 s valued (labels_in body ++ []) body h fits)))

pub words_set :
    (s : Scope) (valued : Bool) (e : Environment) (block : ℕ) (body : Y.Stmts) →
    are_known (variables_of_block e.program block) ≡ true →
    are_statements s valued (labels_in body ++ []) body ≡ true → statements_need body ≤ held_registers →
    block_words e block body ≡ statements_set body
words_set s valued e block body plain h fits =
    let n = (block_sets s valued e.program block body plain h fits).words in
    omega (arith, n)

pub registers_held :
    (s : Scope) (valued : Bool) (e : Environment) (block : ℕ) (body : Y.Stmts) →
    are_known (variables_of_block e.program block) ≡ true →
    are_statements s valued (labels_in body ++ []) body ≡ true → statements_need body ≤ held_registers →
    statements_need body ≤ block_held e block body
registers_held s valued e block body plain h fits =
    let n = (block_sets s valued e.program block body plain h fits).registers in
    omega (arith, n, fits)
