-- AUTOMATIC variables as they are made, by their pieces and one after the other.
use Rattle.std.proofs.Common.{◌≡◌, ◌<◌, ◌≤◌, ℕ, zero, suc, ◌+◌, Bool, true, false, true≢false, List, [], ◌∷◌, ◌++◌}
use Rattle.std.proofs.Common.{length, drop, get_or, refl, sym, ap, ◌∙◌, append_assoc, append-nil, add-one, arith}
use Rattle.std.specs.Prelude.{map, min, slice_get, unwrap_or, if◌then◌else◌}
use Rattle.std.proofs.lemmas.List.{drop_all, length-map}
use Rattle.pli_typing.specs.declared.typed.DeclaredVariable.{DeclaredVariable}
use Rattle.pli_typing.specs.TypedTree as Y
use Rattle.pli_typing.specs.TypedStatementView.{declared_variable_of}
use Rattle.pli_meaning.specs.DeclaredShapes.{variables_of_block}
use Rattle.pli_coding.specs.Assembly.{Code}
use Rattle.pli_coding.specs.Frames.{automatic_place, has_constant_size, is_automatic, last_place}
use Rattle.pli_coding.specs.Environments.{Environment, no_declaration, none_taken}
use Rattle.pli_coding.specs.Extents.{extents_code}
use Rattle.pli_coding.specs.Entries.{adjustable_made, automatic_made, constant_made, extents_act, variables_made}
use Rattle.pli_frames.specs.Parts.{stopped}
use Rattle.rv_entry.proofs.Steps.{item_first, step}
use Rattle.rv_entry.specs.Pieces.{adjustable_named, adjustable_put, automatic_put, bytes_waiting, constant_put}
use Rattle.rv_entry.specs.Pieces.{data_told, extents_acted, lower_grown, name_told, own_declaration, stack_behind}
use Rattle.rv_entry.specs.Pieces.{stack_named, variable_asked, variable_begun, variable_made}

-- ---- of constant size

pub constant-is : (e : Environment) (place : ℕ) (d : Y.DeclaredVariable) → constant_put e place d ≡ name_told e place ++ (variable_begun e d ++ (data_told e place ++ (variable_asked ++ stack_behind e place d)))
unfolding constant_put name_told variable_begun data_told variable_asked stack_behind
constant-is e place d = sym (ap (λ u. name_told e place ++ u) (append_assoc _ _ (data_told e place ++ (variable_asked ++ stack_behind e place d))))

pub ruleset constants = (constant-is, append_assoc, append-nil)

pub end_stopped : (place bytes : ℕ) → min last_place (place + stopped bytes) ≡ min last_place (place + bytes)
end_stopped place bytes = omega arith

-- ---- of a size that is evaluated

pub acted : (line : ℕ) (code after : Code) (x d : Y.DeclaredVariable) (evaluations : List Y.Evaluation) → x ≡ d → evaluations ≡ x.evaluations → after ≡ code ++ extents_act line evaluations → after ≡ code ++ extents_acted line d
unfolding extents_acted
acted line code after x d evaluations is k a = a ∙ ap (λ es. code ++ extents_act line es) k ∙ ap (λ (y : Y.DeclaredVariable). code ++ extents_act line y.evaluations) is

pub adjustable-is : (e : Environment) (line place : ℕ) (d : Y.DeclaredVariable)
    → adjustable_put e line place d ≡ extents_acted line d ++ (extents_code e none_taken d ++ (stack_named place ++ (bytes_waiting ++ (lower_grown ++ (name_told e place ++ adjustable_named d)))))
unfolding adjustable_put extents_acted stack_named bytes_waiting lower_grown name_told adjustable_named
adjustable-is e line place d = refl

pub ruleset adjustables = (adjustable-is, append_assoc, append-nil)

-- ---- by their sizes and classes

first_of : (b : Bool) (x y : Code) → b ≡ true → x ≡ (if b then x else y)
first_of true x y h = refl
first_of false x y h = absurd (true≢false (sym h))

second_of : (b : Bool) (x y : Code) → b ≡ false → y ≡ (if b then x else y)
second_of true x y h = absurd (true≢false h)
second_of false x y h = refl

pub constant_here : (code after : Code) (e : Environment) (line place : ℕ) (x d : Y.DeclaredVariable) → x ≡ d → has_constant_size x ≡ true → after ≡ code ++ constant_put e place d → after ≡ code ++ automatic_put e line place d
unfolding automatic_put constant_put
constant_here code after e line place x d is h a =
    a ∙ ap (λ u. code ++ u) (first_of (has_constant_size d) (constant_made e place d) (adjustable_made e line place d) (ap has_constant_size (sym is) ∙ h))

pub adjustable_here : (code after : Code) (e : Environment) (line place : ℕ) (x d : Y.DeclaredVariable) → x ≡ d → has_constant_size x ≡ false → after ≡ code ++ adjustable_put e line place d → after ≡ code ++ automatic_put e line place d
unfolding automatic_put adjustable_put
adjustable_here code after e line place x d is h a =
    a ∙ ap (λ u. code ++ u) (second_of (has_constant_size d) (constant_made e place d) (adjustable_made e line place d) (ap has_constant_size (sym is) ∙ h))

pub made_here : (code after : Code) (e : Environment) (line index place : ℕ) (x d : Y.DeclaredVariable) → x ≡ d → is_automatic x.class ≡ true → place ≡ automatic_place e.parts e.program e.block e.level index → after ≡ code ++ automatic_put e line place d → after ≡ code ++ variable_made e line index d
unfolding automatic_put variable_made
made_here code after e line index place x d is h p a =
    a
    ∙ ap (λ n. code ++ automatic_made e line n d) p
    ∙ ap (λ u. code ++ u) (first_of (is_automatic d.class) (automatic_made e line (automatic_place e.parts e.program e.block e.level index) d) [] (ap (λ (y : Y.DeclaredVariable). is_automatic y.class) (sym is) ∙ h))

pub not_made : (code : Code) (e : Environment) (line index : ℕ) (x d : Y.DeclaredVariable) → x ≡ d → is_automatic x.class ≡ false → code ≡ code ++ variable_made e line index d
unfolding variable_made
not_made code e line index x d is h =
    sym (append-nil code)
    ∙ ap (λ u. code ++ u) (second_of (is_automatic d.class) (automatic_made e line (automatic_place e.parts e.program e.block e.level index) d) [] (ap (λ (y : Y.DeclaredVariable). is_automatic y.class) (sym is) ∙ h))

-- ---- one after the other

found_or : (ds : List Y.DeclaredVariable) (i : ℕ) (d : Y.DeclaredVariable) → i < length ds → unwrap_or (slice_get ds i) d ≡ get_or ds i d
found_or [] i d h = absurd (omega arith)
found_or (x ∷ ds) zero d h = refl
found_or (x ∷ ds) (suc i) d h = found_or ds i d (omega arith)

made_from : (e : Environment) (line i : ℕ) → i < length (variables_of_block e.program e.block)
    → variables_made e line i (drop i (variables_of_block e.program e.block)) ≡ variable_made e line i (own_declaration e i) ++ variables_made e line (i + 1) (drop (i + 1) (variables_of_block e.program e.block))
unfolding variable_made
made_from e line i h =
    let ds : List Y.DeclaredVariable = variables_of_block e.program e.block in
    ap (variables_made e line i) (item_first ds i (own_declaration e i) no_declaration h (found_or ds i no_declaration h))
    ∙ ap (λ m. variable_made e line i (own_declaration e i) ++ variables_made e line m (drop (i + 1) ds)) (sym (add-one i))

in_block : (e : Environment) (xs : List DeclaredVariable) (i : ℕ) → map declared_variable_of xs ≡ variables_of_block e.program e.block → i < length xs → i < length (variables_of_block e.program e.block)
in_block e xs i s h =
    let same : length (variables_of_block e.program e.block) ≡ length xs = ap length (sym s) ∙ length-map xs declared_variable_of in
    omega arith

pub next_made : (e : Environment) (line i : ℕ) (xs : List DeclaredVariable) (code after target : Code) → map declared_variable_of xs ≡ variables_of_block e.program e.block → i < length xs → after ≡ code ++ variable_made e line i (own_declaration e i)
    → code ++ variables_made e line i (drop i (variables_of_block e.program e.block)) ≡ target → after ++ variables_made e line (i + 1) (drop (i + 1) (variables_of_block e.program e.block)) ≡ target
next_made e line i xs code after target s h a is =
    let ds : List Y.DeclaredVariable = variables_of_block e.program e.block in
    step code after (variable_made e line i (own_declaration e i)) (variables_made e line (i + 1) (drop (i + 1) ds)) (variables_made e line i (drop i ds)) target a (made_from e line i (in_block e xs i s h)) is

pub all_made : (e : Environment) (line i : ℕ) (xs : List DeclaredVariable) (code target : Code) → map declared_variable_of xs ≡ variables_of_block e.program e.block → length xs ≤ i → code ++ variables_made e line i (drop i (variables_of_block e.program e.block)) ≡ target → code ≡ target
all_made e line i xs code target s h is =
    let same : length (variables_of_block e.program e.block) ≡ length xs = ap length (sym s) ∙ length-map xs declared_variable_of in
    let past : length (variables_of_block e.program e.block) ≤ i = omega arith in
    sym (append-nil code) ∙ ap (λ ds. code ++ variables_made e line i ds) (sym (drop_all i (variables_of_block e.program e.block) past)) ∙ is
